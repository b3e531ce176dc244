-- The statements leave an engine no choice: a log has one least level, what a delivery answers and leaves is fixed by
-- what it agrees with, and a machine that runs dry while a cell is free does not do what is meant. The last two are
-- tried where a wrong engine would tell something else.
use Rattle.prelude.specs.Kit.{ℕ, ◌≤◌, arith, true, false, false≢true, Bool, cond, ◌≡◌, refl, ◌∙◌, sym, ap, some, Option}
use Rattle.prelude.specs.Kit.{List, [], ◌∷◌, pos, length, replicate}
use Rattle.std.proofs.Math.Option as O
use Rattle.semantics.specs.Outcome.{Outcome, done, stop}
use Rattle.semantics.specs.Number.{sum}
use Rattle.semantics.specs.Kinds.{operation, literal}
use Rattle.semantics.specs.Syntax.{Script, number, let_in, leaf, none, more}
use Rattle.semantics.specs.Value.{Value, list, numbers}
use Rattle.semantics.specs.Meaning.{Meter, main_meaning}
use Rattle.semantics.specs.Store.{Cell, Store, cell, cell_of, with_cell, opened, cells_taken}
use Rattle.semantics.specs.Sound.{sound}
use Rattle.semantics.specs.Machine.{Event, State, with_store, program, delivery, Delivered, delivered, delivered_by}
use Rattle.semantics.specs.Machine.{starting, state_of}
use Rattle.semantics.specs.Calls.{packed, room, code_fits, request_fits}
use Rattle.semantics.specs.Ledger as L
use Rattle.semantics.specs.Ledger.{Delivery, Entry, worked, meant, entry, entry_of, entry_by, dry_steps}
use Rattle.semantics.specs.Demands.{FreeAfter, Least, Agrees, Does}
use Rattle.semantics.specs.Computing.{computing}
use Rattle.soundness.proofs.Instances.{first, printed_script}

-- ---- one least level

free_after_one : {log : List Event} {free : List ℕ} {n m : ℕ} → FreeAfter log free n → FreeAfter log free m → n ≡ m
free_after_one p q =
    let both = sym p.replays ∙ q.replays in
    let z : p.list ≡ q.list = cc in
    sym p.count ∙ ap length z ∙ q.count

least_below : {log : List Event} {free : List ℕ} {n m : ℕ} → Least log free n → Least log free m → n ≤ m
least_below p q =
    omega (arith, p.bounds q.at q.begins, free_after_one (p.leaves q.at q.begins) q.reached)

-- a log and the free list before it have one least number of free cells
pub least_one : {log : List Event} {free : List ℕ} {n m : ℕ} → Least log free n → Least log free m → n ≡ m
least_one p q = omega (arith, least_below p q, least_below q p)

-- ---- one answer and one store

module _ (fs : Script) (σ : Store) (v : Value) (δ : Delivery) where
  abbrev run : Delivered
  run = delivered (program fs) δ.readings δ.budget σ

  -- the answer and the store after it, by whether the code and the request fit
  abbrev fixed_answer : Bool → Bool → ℕ
  fixed_answer a b =
      cond a
      (cond b (packed run.number run.lowest run.steps (cells_taken run.store)) (packed 10 0 0 0))
      (packed 9 0 0 0)

  abbrev fixed_store : Bool → Bool → Store
  fixed_store a b = cond a (cond b run.store σ) σ

  module _ (σ' : Store) (answer : ℕ) where
    abbrev Fixes : ℕ → Store → Type 0
    Fixes n τ = (answer ≡ n) × (σ' ≡ τ)

    abbrev AgreesOn : Entry → Type 0
    AgreesOn e = Agrees fs σ σ' v δ answer e

    -- a worked delivery shows what the machine's run shows
    run_fixes : (n k : ℕ) (w : Value) → AgreesOn (worked n k w) →
        Fixes (packed run.number run.lowest run.steps (cells_taken run.store)) run.store
    unfolding delivered
    run_fixes n k w g =
        let s : record { number = n; lowest = g.lowest; steps = k; store = σ' } ≡ run =
        sym g.owed.shows ∙ ap (delivered_by δ.budget σ) (sym g.owed.ran) in (
          g.answered ∙ ap (λ (d : Delivered). packed d.number d.lowest d.steps (cells_taken d.store)) s,
          ap (λ (d : Delivered). d.store) s,
        )

    meant_fixes : (o : Outcome Meter Value) → AgreesOn (entry_of δ.budget v o) →
        Fixes (packed run.number run.lowest run.steps (cells_taken run.store)) run.store
    meant_fixes (done w m) g = run_fixes _ _ w g
    meant_fixes (stop n m) g = run_fixes n _ v g

    by_fixes : (dry : Option ℕ) → AgreesOn (entry_by fs v δ dry) →
        Fixes (packed run.number run.lowest run.steps (cells_taken run.store)) run.store
    by_fixes O.none g = meant_fixes (meant fs v δ) g
    by_fixes (some k) g = run_fixes 25 k v g

    -- What agrees with the ledger is this answer and this store.
    pub fixed : AgreesOn (entry fs v δ (dry_steps answer)) →
        Fixes (fixed_answer (code_fits fs (room δ.kinds δ.operands)) (request_fits δ.readings δ.budget))
        (fixed_store (code_fits fs (room δ.kinds δ.operands)) (request_fits δ.readings δ.budget))
    unfolding entry
    fixed = by (code_fits fs (room δ.kinds δ.operands)) (request_fits δ.readings δ.budget)
      where
        by : (a b : Bool) →
            AgreesOn (cond a (cond b (entry_by fs v δ (dry_steps answer)) (L.refused 10)) (L.refused 9)) →
            Fixes (fixed_answer a b) (fixed_store a b)
        by true true g = by_fixes (dry_steps answer) g
        by true false g = (g.answered, g.owed)
        by false b g = (g.answered, g.owed)

-- ---- tried

-- a delivery of {250}
abbrev pub trial : Delivery
trial = record {
  kinds = replicate 33 0;
  operands = replicate 33 (pos 0);
  readings = pos 250 ∷ [];
  budget = 1000;
}

-- what agrees with the ledger for this delivery, on a store of some cells just opened
abbrev pub AgreesAfter : Script → ℕ → Store → ℕ → Type 0
AgreesAfter fs cells σ' answer =
    Agrees fs (opened cells 1) σ' (list []) trial answer (entry fs (list []) trial (dry_steps answer))

-- On one cell the printed script has none for the readings: no answer but this agrees, not one that says done.
pub dry_told : (σ' : Store) (answer : ℕ) → AgreesAfter printed_script 1 σ' answer → answer ≡ packed 25 0 0 1
unfolding computing printed_script
dry_told σ' answer g = (fixed printed_script (opened 1 1) (list []) trial σ' answer g).0

-- main(t: 1, r: 1): 1 = let a = {7} in {a[0] + r[0]}
unfoldable pub two_literals : Script
two_literals = record {
  parameters = record { id = 0; depth = 1 } ∷ record { id = 1; depth = 1 } ∷ [];
  result = 1;
  body = let_in 2 (leaf (literal 0) (more (number (pos 7)) none))
      (leaf (literal 0) (more (leaf (operation sum) (more (first 2) (more (first 1) none))) none));
} ∷ []

-- On two cells the first step's literal wants a third: no answer but this agrees, not one of another step.
pub steps_told : (σ' : Store) (answer : ℕ) → AgreesAfter two_literals 2 σ' answer → answer ≡ packed 25 0 1 1
unfolding computing two_literals
steps_told σ' answer g = (fixed two_literals (opened 2 1) (list []) trial σ' answer g).0

-- On four cells its first literal leaves one free, until it is released: no answer but this agrees, not one that tells
-- another lowest level.
pub lowest_told : (σ' : Store) (answer : ℕ) → AgreesAfter two_literals 4 σ' answer → answer ≡ packed 0 1 5 1
unfolding computing two_literals
lowest_told σ' answer g = (fixed two_literals (opened 4 1) (list []) trial σ' answer g).0

-- A machine that runs dry before it starts does not do what is meant: on two cells one is free.
pub never_starts : Does 1 1000 (stop 25 (starting 1000 (opened 2 1)))
    (main_meaning printed_script (list []) (numbers (pos 250 ∷ [])) 1000) → ⊥
unfolding computing printed_script
never_starts h = false≢true (sym h.2.none_free)

-- the totals' cell with another element depth, as a run's last act
abbrev deeper : Cell → Cell
deeper x = record { count = x.count; size = x.size; depth = 3; next = x.next; slots = x.slots }

abbrev spoiled : Outcome State (Unit {0}) → Outcome State (Unit {0})
spoiled (done u s) =
    let c = cell_of s.store.totals in
    done u (with_store s (with_cell s.store c (deeper (cell s.store c))) [])
spoiled (stop n s) = stop n s

abbrev pub spoiling : Outcome State (Unit {0})
spoiling = spoiled (delivery (program printed_script) (pos 250 ∷ []) (starting 1000 (opened 2 1)))

pub left_unsound : sound 1 (state_of spoiling).store ≡ false
unfolding computing printed_script
left_unsound = refl
