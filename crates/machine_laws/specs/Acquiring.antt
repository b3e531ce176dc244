-- A cell acquired over positions is the one that the machine acquires; and how many cells remain free after it.
use Rattle.std.specs.Prelude.{ℕ, ◌-◌, suc, zero, true, false, Bool, cond, ◌≡◌, refl, List, [], ◌∷◌, ℤ}
use Rattle.prelude.specs.Kit.{arith, ◌∙◌, ap}
use Rattle.semantics.specs.Basics.{occurrences}
use Rattle.semantics.specs.Outcome.{Outcome, done, stop}
use Rattle.semantics.specs.Store.{Store, cell, has_free, acquired, free_cells}
use Rattle.semantics.specs.Sound.{free_list, due}
use Rattle.semantics.specs.Live.{Set}
use Rattle.semantics.specs.Machine as M
use Rattle.semantics.specs.Machine.{State, acquire, acquire_if}
use Rattle.laws.specs.Lists.{occurs_first}
use Rattle.laws.specs.Levels.{counted_there}
use Rattle.discipline.proofs.store.Invariant.{Invariant}
use Rattle.discipline.proofs.store.FreeList.{Links, listed}
use Rattle.store.specs.declared.Gained.{Gained}
use Rattle.store.specs.Acquiring.{gained, first_cell, next_cell}
use Rattle.store.proofs.Acquiring.{with_remaining}
use Rattle.machine_frames.specs.Frames.{level_of}
use Rattle.machine_frames.specs.Work.{memory}
use Rattle.machine_lines.specs.Lines.{noted_by, acquired_given, cell_from, acquired_memory}
use Rattle.machine_laws.specs.Frames.{Bounded, Framed}
use Rattle.machine_laws.specs.Levels.{LevelsAgree, levels_acquired, kept_noted}
use Rattle.machine_laws.specs.Same.{Gives}

pub acquire_same : (free calls : ℕ) {f : ℕ} (S : Set) → Bounded S → (R : List ℕ) (d : ℕ) (ws : List ℤ) (n : ℕ)
    (s : State) (env : List ℤ) → n ≡ s.left → Framed calls f env → LevelsAgree free s.log env →
    Gives free calls env S n (acquired_memory d ws (memory s.store env))
    (acquired_given (cell_from (memory s.store env))) (acquire R d ws s)
unfolding acquire acquire_if M.with_store M.with_roots next_cell
acquire_same free calls S b R d ws n s env e framed levels = go (has_free s.store) refl
  where
    answer : Bool → Outcome (Unit {0}) Gained
    answer t = cond t (done (gained s.store.first (level_of env - 1)) tt) (stop 25 tt)

    go : (t : Bool) → has_free s.store ≡ t → Gives free calls env S n
        (memory (acquired d ws s.store) (noted_by (answer (has_free s.store)) env))
        (acquired_given (answer (has_free s.store))) (acquire_if (has_free s.store) R d ws s)
    go true q = rw q (record {
      value = refl;
      steps = e;
      store = refl;
      kept = kept_noted calls framed.few S b env (level_of env - 1);
      levels = levels_acquired levels s.store.first framed.long;
    })
    go false q = rw q (record { stop = refl; real = λ z. omega arith; steps = e; levels = levels })

-- ---- how many cells remain free

-- the free list of a store under work, where it has a cell, begins with a free one
first_free : {σ : Store} {Z R : List ℕ} → Invariant σ Z R → (cell σ σ.first).count ≡ 0
first_free {σ} v = go (cell σ σ.first).count refl
  where
    listed_once : (n : ℕ) → (cell σ σ.first).count ≡ suc n → (l : List ℕ) → Links σ σ.first l →
        occurrences σ.first l ≡ 0 → ⊥
    listed_once n e [] k none = omega (arith, counted_there σ σ.first n e)
    listed_once n e (x ∷ l) k none = omega (arith, occurs_first x l, ap (λ c. occurrences c (x ∷ l)) k.0)

    go : (n : ℕ) → (cell σ σ.first).count ≡ n → n ≡ 0
    go zero e = refl
    go (suc n) e = absurd (listed_once n e (free_list σ) (listed v).links
        (v.free σ.first (counted_there σ σ.first n e) ∙ ap due e))

-- Document 02, order 2: on a store under work, where the level is the number of its free cells, an acquire answers how
-- many remain free in the store that it leaves.
pub remains : {σ : Store} {Z R : List ℕ} → Invariant σ Z R → (env : List ℤ) → level_of env ≡ free_cells σ → (d : ℕ)
    (ws : List ℤ) → cell_from (memory σ env) ≡ first_cell σ (free_cells (acquired d ws σ))
remains {σ} v env told d ws =
    (with_remaining (level_of env) d ws σ (cell_from (memory σ env)) (acquired d ws σ) (refl, refl)).2 told
    (first_free v)
