-- A cell acquired in both runs: where the first has a free one, the leaner has.
use Rattle.prelude.specs.Kit.{ℕ, ◌≤◌, ◌+◌, ◌<◌, ◌-◌, arith, true, false, Bool, ◌≡◌, refl, ap, List, [], ℤ, pos, length}
use Rattle.semantics.specs.Basics.{updated}
use Rattle.semantics.specs.Outcome.{Outcome, Run, onward}
use Rattle.semantics.specs.Machine.{State, with_store, acquire, acquire_if}
use Rattle.semantics.specs.Store.{cell, cell_count, free_cells, has_free, acquired}
use Rattle.laws.specs.Updates.{updated_there}
use Rattle.discipline.proofs.store.Invariant.{Invariant}
use Rattle.discipline.proofs.store.Acquire.{acquire_takes}
use Rattle.discipline.proofs.store.LowestLevel.{free_cells_listed}
use Rattle.discipline.proofs.machine.Agreement.{Clean}
use Rattle.discipline.proofs.machine.Acquiring.{after_acquire}
use Rattle.leaner.proofs.Leaner.{Matching}
use Rattle.leaner.proofs.Acquired.{leaner_acquired}
use Rattle.leaner.proofs.Levels.{leaner_levels, leaner_has_free}
use Rattle.leaner.proofs.Runs.{Race, Starts, Level, Tied, Twins, both, dry, acquire_lowest, level_now}

-- what is known of the store of a run: what it is the work of, and its references
pub record Stored (r : Race) (Z Z' R R' : List ℕ) (s s' : State) : Type 0 where
  pub clean : Clean r.first s
  pub clean_leaner : Clean r.leaner s'
  pub holds : Invariant s.store Z R
  pub holds_leaner : Invariant s'.store Z' R'

module _ {r : Race} (starts : Starts r) {Z Z' R R' E : List ℕ} {π : ℕ → ℕ} {s s' : State}
    (q : Stored r Z Z' R R' s s') (tied : Tied r E π s s') where
  cells_more : cell_count s'.store ≡ cell_count s.store + r.cells
  cells_more = omega (arith, q.clean.cells, q.clean_leaner.cells, starts.more_cells)

  levels : free_cells s.store + r.cells ≤ free_cells s'.store
  levels = leaner_levels r.cells tied.stores cells_more

  pub both_free : has_free s.store ≡ true → has_free s'.store ≡ true
  both_free = leaner_has_free r.cells tied.stores q.holds_leaner q.holds cells_more

  some_free : has_free s.store ≡ true → 0 < free_cells s.store
  some_free e = omega (arith, free_cells_listed q.holds, ap length (acquire_takes 0 [] q.holds e).free)

  level_acquired : (d : ℕ) (ws vs : List ℤ) → has_free s.store ≡ true →
      Level r (after_acquire d vs s) (after_acquire d ws s')
  unfolding with_store
  level_acquired d ws vs e = record {
    left = tied.level.left;
    lowest = omega (
      arith,
      tied.level.lowest,
      levels,
      some_free e,
      acquire_lowest r.first.store s (acquired d vs s.store) s.store.first,
      acquire_lowest r.leaner.store s' (acquired d ws s'.store) s'.store.first,
      level_now starts.listed q.clean q.holds,
      level_now starts.leaner_listed q.clean_leaner q.holds_leaner,
    );
  }

  -- the correspondence with the new cells
  abbrev pub with_new : ℕ → ℕ
  with_new = updated π s'.store.first s.store.first

  pub tied_acquired : (d : ℕ) (ws vs : List ℤ) → has_free s.store ≡ true → length ws ≤ 16 →
      Matching π s'.store d ws vs → Tied r E with_new (after_acquire d vs s) (after_acquire d ws s')
  unfolding with_store
  tied_acquired d ws vs e few m = record {
    level = level_acquired d ws vs e;
    stores = leaner_acquired d ws vs tied.stores q.holds_leaner q.holds (both_free e) e few m;
  }

  -- is that of before for every cell in use
  pub new_stays : has_free s.store ≡ true → (c : ℕ) → 0 < (cell s'.store c).count → with_new c ≡ π c
  new_stays e c h = updated_there π s'.store.first s.store.first c (λ g. omega (
    arith,
    h,
    ap (λ (k : ℕ). (cell s'.store k).count) g,
    (acquire_takes 0 [] q.holds_leaner (both_free e)).was_free,
  ))

  pub acquire_twins : {A : Type 0} {Q : A → State → A → State → Type 0} (f f' : ℤ → Run State A) (O O' : List ℕ)
      (d : ℕ) (ws vs : List ℤ) →
      (has_free s.store ≡ true →
      Twins r Q (f (pos s.store.first) (after_acquire d vs s))
      (f' (pos s'.store.first) (after_acquire d ws s'))) →
      Twins r Q (onward f (acquire O d vs s)) (onward f' (acquire O' d ws s'))
  unfolding acquire acquire_if onward
  acquire_twins {Q = Q} f f' O O' d ws vs next = go (has_free s.store) refl
    where
      go : (b : Bool) → has_free s.store ≡ b → Twins r Q (onward f (acquire_if b O d vs s))
          (onward f' (acquire_if (has_free s'.store) O' d ws s'))
      go true e = rw (both_free e) (next e)
      go false e = dry {o = onward f' (acquire_if (has_free s'.store) O' d ws s')}

  -- the same where the cell's word is what is given
  pub acquire_gives : {Q : ℤ → State → ℤ → State → Type 0} (O O' : List ℕ) (d : ℕ) (ws vs : List ℤ) →
      (has_free s.store ≡ true →
      Q (pos s.store.first) (after_acquire d vs s) (pos s'.store.first) (after_acquire d ws s')) →
      Twins r Q (acquire O d vs s) (acquire O' d ws s')
  unfolding acquire acquire_if
  acquire_gives {Q} O O' d ws vs next = go (has_free s.store) refl
    where
      go : (b : Bool) → has_free s.store ≡ b → Twins r Q (acquire_if b O d vs s)
          (acquire_if (has_free s'.store) O' d ws s')
      go true e = rw (both_free e) (both (next e))
      go false e = dry {o = acquire_if (has_free s'.store) O' d ws s'}

-- the first run alone wants a cell
pub acquire_first : (r : Race) {A : Type 0} {Q : A → State → A → State → Type 0} {o : Outcome State A} (s : State)
    (O : List ℕ) (d : ℕ) (vs : List ℤ) (f : ℤ → Run State A) →
    (has_free s.store ≡ true → Twins r Q (f (pos s.store.first) (after_acquire d vs s)) o) →
    Twins r Q (onward f (acquire O d vs s)) o
unfolding acquire acquire_if onward
acquire_first r {Q = Q} {o} s O d vs f next = go (has_free s.store) refl
  where
    go : (b : Bool) → has_free s.store ≡ b → Twins r Q (onward f (acquire_if b O d vs s)) o
    go true e = next e
    go false e = dry {o = o}
