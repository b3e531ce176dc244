-- What a map that was to rewrite its array and copied it leaves, once it has released the array.
use Rattle.prelude.specs.Kit.{ℕ, List, ℤ}
use Rattle.semantics.specs.Value.{Value}
use Rattle.semantics.specs.Meaning.{Meter, Env}
use Rattle.semantics.specs.Machine.{State, Frame}
use Rattle.semantics.specs.Store.{Store}
use Rattle.discipline.proofs.machine.Frames.{Setting, Ended}
use Rattle.discipline.proofs.machine.Holding.{released_state}

-- in the state s the copy, of depth d, is done, and the reference to the array's cell c goes
abbrev pub CopyEnds : Setting → ℕ → ℕ → Store → List ℕ → List ℕ → List ℕ → Frame → Env → ℕ → ℤ → State → Value →
    Meter → Type 0
CopyEnds C d c σ Z F Δ ρ δ n w s v m = Ended C d σ Z F Δ ρ δ n w (released_state c s) v m
