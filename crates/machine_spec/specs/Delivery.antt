-- The delivery over positions of the code.
use Rattle.std.specs.Prelude.{cond, true, ◌≡◌, List, [], ◌∷◌, ℕ, zero, suc, ◌-◌, ℤ, pos, eqb, replicate}
use Rattle.semantics.specs.Outcome.{Outcome, done, stop}
use Rattle.semantics.specs.Store.{Store, cell_of, acquired, retained, released, deepest, with_totals, relinked}
use Rattle.semantics.specs.Store.{free_cells}
use Rattle.semantics.specs.Words.{store_of}
use Rattle.semantics.specs.Sound.{sound_words}
use Rattle.semantics.specs.Machine.{Program, Delivered, delivered}
use Rattle.semantics.specs.Calls.{request_fits}
use Rattle.store.specs.declared.Gained.{Gained}
use Rattle.store.specs.Acquiring.{next_cell}
use Rattle.machine_frames.specs.Frames.{frame_words, called, lowest_of, levelled}
use Rattle.machine_frames.specs.Work.{memory, Ran}
use Rattle.machine_spec.specs.Machine.{Code, names_in, tree_in, tree_on, call_on}

-- how an attempt at a delivery ends: its number, the least number of free cells over it, the steps left, and the store
pub record Tried : Type 0 where
  pub number : ℕ
  pub lowest : ℕ
  pub steps : ℕ
  pub store : Store

abbrev pub tried : ℕ → ℕ → ℕ → Store → Tried
tried n lowest steps σ = record { number = n; lowest = lowest; steps = steps; store = σ }

-- of work with the number, the level and the steps that it shows
abbrev pub tried_by : Ran → Store → Tried
tried_by w σ = tried w.out.stop (lowest_of w.memory.env) w.out.steps σ

-- where the totals are an array, one reference more or fewer to them
abbrev pub retained_totals : ℕ → ℤ → Store → Store
retained_totals zero old σ = σ
retained_totals (suc d) old σ = retained (cell_of old) σ

abbrev pub released_totals : ℕ → ℤ → Store → Store
released_totals zero old σ = σ
released_totals (suc d) old σ = released deepest (cell_of old) σ

-- the result in the totals' place, and then the old totals released, which lowers no level
abbrev pub finished : ℕ → ℤ → Ran → Tried
finished d old w =
    cond (eqb w.out.stop 0)
    (tried_by w (released_totals d old (with_totals w.memory.store w.out.value)))
    (tried_by w w.memory.store)

-- main's frame, while n cells are free
abbrev pub main_frame : Code → ℤ → ℤ → ℕ → List ℤ
main_frame c old readings n =
    called c.operands 31 (names_in c 0) 0 (old ∷ readings ∷ []) (levelled n (replicate frame_words (pos 0)))

-- main worked on the totals and the readings' cell, beside which n cells are free
unfoldable pub main_on : Code → ℕ → ℤ → ℕ → ℕ → ℕ → Store → Tried
main_on c d old k n budget σ =
    finished d old (tree_on 4096 (call_on 31 c) c 31 (tree_in c 0) budget
    (memory (retained_totals d old σ) (main_frame c old (pos k) n)))

abbrev pub attempt_with : Code → ℕ → ℤ → ℕ → ℕ → Store → Outcome (Unit {0}) Gained → Tried
attempt_with c d old budget free σ (done g u) = main_on c d old g.cell g.left budget σ
attempt_with c d old budget free σ (stop number u) = tried number free budget σ

unfoldable pub attempt_on : Code → List ℤ → ℕ → ℕ → Store → Tried
attempt_on c readings d budget σ =
    attempt_with c d σ.totals budget (free_cells σ) (acquired 0 readings σ) (next_cell (free_cells σ) σ)

-- a stop puts the old store back, linked anew
abbrev pub settled : ℕ → Store → Tried → Delivered
settled budget σ t = record {
  number = t.number;
  lowest = t.lowest;
  steps = budget - t.steps;
  store = cond (eqb t.number 0) t.store (relinked σ);
}

unfoldable pub delivered_on : Code → List ℤ → ℕ → ℕ → Store → Delivered
delivered_on c readings d budget σ = settled budget σ (attempt_on c readings d budget σ)

-- The code and its table are those of a program: what is worked over positions is the program's delivery, for every
-- request that fits and on every sound store.
pub record Performs (P : Program) (c : Code) : Type 0 where
  pub same : (readings : List ℤ) (budget : ℕ) (slots : List ℤ) (heads : List ℕ) →
      sound_words P.depth slots heads ≡ true → request_fits readings budget ≡ true →
      delivered_on c readings P.depth budget (store_of slots heads)
      ≡ delivered P readings budget (store_of slots heads)
