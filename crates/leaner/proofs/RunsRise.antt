-- Order 8, of the machine's two runs: on the same store a delivery's lowest level is at least that of the code in which
-- every map stays a map.
use Rattle.prelude.specs.Kit.{ℕ, ◌≤◌, arith, List, ℤ}
use Rattle.semantics.specs.Syntax.{Script, main_depth}
use Rattle.semantics.specs.Words.{store_of}
use Rattle.semantics.specs.Machine.{program_in, program, delivered}
use Rattle.semantics.specs.Ledger.{Delivery}
use Rattle.semantics.specs.Demands.{Unrefused, mapping_only}
use Rattle.soundness.proofs.annotation.Programs.{program_in_disciplined, program_disciplined}
use Rattle.soundness.proofs.Settled.{sound_settles}
use Rattle.soundness.proofs.Delivering.{few_lines, few_readings}
use Rattle.leaner.proofs.Annotated.{script_twins}
use Rattle.leaner.proofs.Calls.{call_twins}
use Rattle.leaner.proofs.Delivering.{race_starts}
use Rattle.leaner.proofs.Rises.{lowest_rises}

pub runs_rise : (file : List ℕ) (slots : List ℤ) (heads : List ℕ) (δ : Delivery) (fs : Script) →
    Unrefused file slots heads δ fs →
    let σ = store_of slots heads in
    (delivered (program_in mapping_only fs) δ.readings δ.budget σ).lowest
    ≤ (delivered (program fs) δ.readings δ.budget σ).lowest
unfolding program_in
runs_rise file slots heads δ fs u =
    let short = few_lines fs _ (omega arith) u.code_stands in
    let p = program_in mapping_only fs in
    let rs = (program fs).routines in
    let σ = store_of slots heads in
    let first = program_in_disciplined mapping_only file fs u.is_accepted short in
    let second = program_disciplined file fs u.is_accepted short in
    let few = few_readings δ.readings δ.budget u.requested in
    let rests = (sound_settles (main_depth fs) slots heads u.is_sound).rests in
    let starts = race_starts p rs first second δ.readings few δ.budget 0 0 σ σ rests rests (omega arith) in
    lowest_rises p rs first second δ.readings few δ.budget σ rests
    (call_twins starts p rs (script_twins file fs u.is_accepted) first second 32 (λ _. 0))
