-- The delivery over positions is the delivery of the definitions.
use Rattle.std.specs.Prelude.{ℕ, ◌≤◌, ◌+◌, ◌<◌, ◌-◌, suc, zero, true, false, Bool, cond, ◌≡◌, refl, List, [], ◌∷◌, ℤ}
use Rattle.std.specs.Prelude.{pos, length, set, replicate}
use Rattle.prelude.specs.Kit.{arith, ◌∙◌, sym, subst, length-set, length-replicate, ne_eqb, eq-eqb}
use Rattle.semantics.specs.Outcome.{Outcome, done, stop, Run, onward}
use Rattle.semantics.specs.Code.{rows}
use Rattle.semantics.specs.Live.{just}
use Rattle.semantics.specs.Store.{Store, cell_of, has_free, acquired, retained, with_totals, deepest, free_cells}
use Rattle.semantics.specs.Store.{named_by}
use Rattle.semantics.specs.Machine as M
use Rattle.semantics.specs.Machine.{State, Program, routine_of, machine, acquire, acquire_if, retain_word}
use Rattle.semantics.specs.Machine.{release_word, if_array, delivery, starting, delivered_by, delivered, state_of}
use Rattle.semantics.specs.Machine.{lowest_over}
use Rattle.laws.specs.Levels.{LevelsUpTo, release_lowest}
use Rattle.store.specs.Acquiring.{gained, next_cell}
use Rattle.machine_frames.specs.Frames.{frame_words, levelled, level_place, lowest_place}
use Rattle.machine_frames.specs.Work.{memory, Ran}
use Rattle.machine_spec.specs.Machine.{Code, tree_in, tree_on, call_on}
use Rattle.machine_spec.specs.Delivery.{finished, main_frame, main_on}
use Rattle.machine_spec.specs.Delivery.{attempt_with, attempt_on, settled, delivered_on}
use Rattle.machine_laws.specs.Ends.{Jumps}
use Rattle.machine_laws.specs.Levels.{LevelsAgree, levels_nothing, levels_touched, levels_started, lowest_kept}
use Rattle.machine_laws.specs.Same.{Rel, TreeDone}
use Rattle.machine_laws.specs.Calls.{FunctionStands, function_same, calls_same}

-- the result in the totals' place
abbrev put_totals : ℤ → Run State (Unit {0})
put_totals w = λ s. done tt (M.with_store s (with_totals s.store w) [])

-- main's result in the totals' place, and then the old totals released
abbrev finishing : ℕ → ℤ → ℤ → Run State (Unit {0})
finishing d old w = λ s. onward (λ _. if_array d (release_word old)) (put_totals w s)

-- as many cells are free as a store can have
abbrev Bounded : Store → Outcome State (Unit {0}) → Type 0
Bounded σ o = LevelsUpTo 256 (state_of o).log (free_cells σ)

-- after main
finish_same : (d : ℕ) (old : ℤ) (budget : ℕ) (σ : Store) (next calls : ℕ) (env : List ℤ) (S : ℕ → Bool) (w : Ran) (o
    : Outcome State ℤ) →
    Rel (free_cells σ) (TreeDone (free_cells σ) next calls env S) w o → Bounded σ (onward (finishing d old) o) →
    settled budget σ (finished d old w) ≡ delivered_by budget σ (onward (finishing d old) o)
unfolding onward release_word M.with_store
finish_same zero old budget σ next calls env S w (done v s) h up =
    rw (
      eq-eqb w.out.stop 0 h.0,
      h.0,
      h.1.word.steps,
      h.1.word.store,
      h.1.word.value,
      (levels_nothing h.1.word.levels).lowest up,
    ) refl
finish_same (suc d) old budget σ next calls env S w (done v s) h up =
    rw (
      eq-eqb w.out.stop 0 h.0,
      h.0,
      h.1.word.steps,
      h.1.word.store,
      h.1.word.value,
      lowest_kept (levels_nothing h.1.word.levels) _ (release_lowest deepest (cell_of old) _) up,
    ) refl
finish_same d old budget σ next calls env S w (stop n s) h up =
    rw (
      ne_eqb w.out.stop 0 (λ e. h.real (sym h.stop ∙ e)),
      ne_eqb w.out.stop 0 (λ e. h.real (sym h.stop ∙ e)),
      h.stop,
      h.steps,
      h.levels.lowest up,
    ) refl

-- no word of any frame
abbrev no_words : List ℤ
no_words = replicate frame_words (pos 0)

module _ (p : Program) (enough : length p.routines ≤ 32) (c : Code) (some : 0 < length p.routines)
    (two : 2 ≡ length (p.signatures 0).parameters) (all : (g : ℕ) → g < length p.routines → FunctionStands p c g)
    (jumps : Jumps c) where
  -- main, from a state in which n cells are free, and what follows it
  module _ (d : ℕ) (old : ℤ) (k n budget : ℕ) (σ : Store) (R : List ℕ) where
    abbrev ended : State → Outcome State ℤ
    ended s = machine p 32 R 0 (old ∷ pos k ∷ []) s

    abbrev run : State → Outcome State (Unit {0})
    run s = onward (finishing d old) (ended s)

    run_same : (s : State) → s.left ≡ budget → LevelsAgree (free_cells σ) s.log (levelled n no_words) →
        Bounded σ (run s) →
        settled budget σ (finished d old (tree_on 4096 (call_on 31 c) c 31 (tree_in c 0) budget
        (memory s.store (main_frame c old (pos k) n)))) ≡ delivered_by budget σ (run s)
    run_same s e levels up =
        subst (λ (b : ℕ). settled budget σ (finished d old (tree_on 4096 (call_on 31 c) c 31 (tree_in c 0) b
        (memory s.store (main_frame c old (pos k) n)))) ≡ delivered_by budget σ (run s)) e
        (finish_same d old budget σ (tree_in c 0 + length (rows (routine_of p 0).tree)) 31
        (main_frame c old (pos k) n) (just (routine_of p 0).names)
        (tree_on 4096 (call_on 31 c) c 31 (tree_in c 0) s.left (memory s.store
        (main_frame c old (pos k) n))) (ended s)
        (function_same (free_cells σ) p enough c all jumps 31 (omega arith)
        (calls_same (free_cells σ) p enough c all jumps 31 (omega arith)) R 0 (old ∷ pos k ∷ []) (levelled n no_words)
        s some two (omega (arith, long)) levels) up)
      where
        long : length (levelled n no_words) ≡ frame_words
        long = length-set (set no_words level_place (pos n)) lowest_place (pos n)
            ∙ length-set no_words level_place (pos n) ∙ length-replicate frame_words (pos 0)

  main_same : (d : ℕ) (old : ℤ) (k n budget : ℕ) (σ : Store) (R : List ℕ) (s : State) → s.left ≡ budget →
      LevelsAgree (free_cells σ) s.log (levelled n no_words) →
      Bounded σ (onward (λ _. run d old k n budget σ R) (if_array d (retain_word old) s)) →
      settled budget σ (main_on c d old k n budget s.store)
      ≡ delivered_by budget σ (onward (λ _. run d old k n budget σ R) (if_array d (retain_word old) s))
  unfolding main_on onward retain_word M.with_store
  main_same zero old k n budget σ R s e levels up = run_same 0 old k n budget σ R s e levels up
  main_same (suc d) old k n budget σ R s e levels up = run_same (suc d) old k n budget σ R
      (M.with_store s (retained (cell_of old) s.store) (M.touching s.store (cell_of old))) e
      (levels_touched levels s.store (cell_of old)) up

  -- the delivery, in number, lowest level, steps and store
  pub delivered_same : (readings : List ℤ) (budget : ℕ) (σ : Store) →
      LevelsUpTo 256 (state_of (delivery p readings (starting budget σ))).log (free_cells σ) →
      delivered_on c readings p.depth budget σ ≡ delivered p readings budget σ
  unfolding delivered_on attempt_on delivered delivery starting acquire acquire_if onward next_cell M.with_store
      M.with_roots lowest_over
  delivered_same readings budget σ = by_cell (has_free σ) refl
    where
      d : ℕ
      d = p.depth

      old : ℤ
      old = σ.totals

      R : List ℕ
      R = named_by d (old ∷ [])

      n : ℕ
      n = free_cells σ - 1

      then_main : ℤ → State → Outcome State (Unit {0})
      then_main w s = onward (λ _ s'. onward (finishing d old) (machine p 32 R 0 (old ∷ w ∷ []) s'))
          (if_array d (retain_word old) s)

      before : State
      before = record { left = budget; store = σ; log = []; roots = [] }

      by_cell : (t : Bool) → has_free σ ≡ t →
          Bounded σ (onward then_main (acquire_if (has_free σ) R 0 readings before)) →
          settled budget σ (attempt_with c d old budget (free_cells σ) (acquired 0 readings σ)
          (cond (has_free σ) (done (gained σ.first n) tt) (stop 25 tt)))
          ≡ delivered_by budget σ (onward then_main (acquire_if (has_free σ) R 0 readings before))
      by_cell false e = rw e (λ up. refl)
      by_cell true e = rw e (λ up. main_same d old σ.first n budget σ R _ refl
          (levels_started (free_cells σ) σ.first no_words (omega (arith, length-replicate frame_words (pos 0)))) up)
