-- A delivery of an accepted script on a settled store: the discipline, the machine's soundness and the size of the code
-- put together.
use Rattle.prelude.specs.Kit.{ℕ, ◌≤◌, ◌<◌, ◌^◌, arith, true, ◌≡◌, sym, subst, List, leb, ℤ, length, leb-true}
use Rattle.semantics.specs.Syntax.{Script, main_depth}
use Rattle.semantics.specs.Value.{Value, numbers}
use Rattle.semantics.specs.Meaning.{Meter, main_meaning}
use Rattle.semantics.specs.Store.{Store, cell_count, free_cells}
use Rattle.semantics.specs.Words.{store_of}
use Rattle.semantics.specs.Sound.{free_list, sound_words}
use Rattle.semantics.specs.Annotate.{code}
use Rattle.semantics.specs.Machine.{State, program_in, program, delivery, starting, state_of, lowest_over, lowest_level}
use Rattle.semantics.specs.Calls.{accepted, judged, code_fits, request_fits}
use Rattle.semantics.specs.Demands.{value_of, Least}
use Rattle.laws.specs.Tests.{both_hold}
use Rattle.laws.specs.Levels.{LevelsUpTo, up_to_more, lowest_most}
use Rattle.discipline.proofs.store.LowestLevel.{free_cells_listed, least_level}
use Rattle.soundness.proofs.annotation.Programs.{program_disciplined, program_frugal}
use Rattle.discipline.proofs.machine.Agreement.{Start, Clean}
use Rattle.discipline.proofs.machine.Totals.{Finished}
use Rattle.discipline.proofs.machine.Delivery.{Delivers, delivery_sound, script_delivery, delivers_clean}
use Rattle.soundness.proofs.Settled.{Settled, sound_settles}

-- code that fits fewer lines fits 4,096
pub few_lines : (fs : Script) (lines : ℕ) → lines ≤ 4096 → code_fits fs lines ≡ true → length (code fs) ≤ 4096
unfolding code_fits
few_lines fs lines h e = omega (arith, leb-true (length (code fs)) lines e)

pub few_readings : (readings : List ℤ) (budget : ℕ) → request_fits readings budget ≡ true → length readings ≤ 16
unfolding request_fits
few_readings readings budget e =
    leb-true (length readings) 16 (both_hold (leb (length readings) 16) (leb budget 1000000) e).0

-- where a delivery of a script begins; its code is frugal
abbrev pub start_of : ℕ → Store → Start
start_of budget σ = record { budget = budget; store = σ; frugal = true }

-- a finished delivery leaves a settled store
pub finished_settled : {budget d : ℕ} {σ : Store} {s : State} {v w : Value} {m : Meter} → Settled d σ v →
    Finished (start_of budget σ) d s w m → Settled d s.store w
finished_settled settled q = record {
  rests = q.rests;
  value = q.value;
  cells = subst (λ n. 1 ≤ n) (sym q.clean.cells) settled.cells;
}

-- over a run from a settled store the lowest level is the least number of free cells, and has room in an answer
module _ {d : ℕ} {σ : Store} {v : Value} (settled : Settled d σ v) (s : State) where
  pub run_least : (budget : ℕ) → Clean (start_of budget σ) s → Least s.log (free_list σ) (lowest_level σ s)
  run_least budget clean =
      subst (λ n. Least s.log (free_list σ) (lowest_over s.log n))
      (sym (free_cells_listed settled.rests.holds))
      (least_level s.log (free_list σ) (free_list s.store) (sym clean.replays))

  pub few_free : lowest_level σ s < 2 ^ 16
  few_free = omega (arith, lowest_most s.log (free_cells σ), settled.rests.holds.few)

module _ (file : List ℕ) (fs : Script) (ok : judged file ≡ accepted fs)
    (short : length (code fs) ≤ 4096) where
  pub delivers : {σ : Store} {v : Value} → Settled (main_depth fs) σ v → (readings : List ℤ) (budget : ℕ) →
      request_fits readings budget ≡ true →
      Delivers (start_of budget σ) (main_depth fs) (delivery (program fs) readings (starting budget σ))
      (main_meaning fs v (numbers readings) budget)
  unfolding program_in
  delivers {σ} {v} settled readings budget fits =
      subst (λ w. Delivers (start_of budget σ) (main_depth fs) (delivery (program fs) readings (starting budget σ))
      (main_meaning fs w (numbers readings) budget)) settled.value
      (script_delivery fs (value_of σ (main_depth fs) σ.totals) (numbers readings) budget
      (delivery_sound (program fs) (program_disciplined file fs ok short) true
      (λ _. program_frugal file fs ok) readings (few_readings readings budget fits) budget σ settled.rests))

  -- over a delivery on a sound store never more than 256 cells are free
  pub levels_bounded : (slots : List ℤ) (heads : List ℕ) → sound_words (main_depth fs) slots heads ≡ true →
      (readings : List ℤ) (budget : ℕ) → request_fits readings budget ≡ true →
      LevelsUpTo 256 (state_of (delivery (program fs) readings (starting budget (store_of slots heads)))).log
      (free_cells (store_of slots heads))
  levels_bounded slots heads sound readings budget fits =
      let σ = store_of slots heads in
      let settled = sound_settles (main_depth fs) slots heads sound in
      let holds = settled.rests.holds in
      let log = (state_of (delivery (program fs) readings (starting budget σ))).log in
      let levels = (delivers_clean (delivers settled readings budget fits)).levels in
      up_to_more (cell_count σ) 256 log (free_cells σ) holds.few
      (subst (λ n. LevelsUpTo (cell_count σ) log n) (sym (free_cells_listed holds)) levels)
