-- Two runs at one point: the steps left, the lowest levels, and the stores; and what the two do next.
use Rattle.prelude.specs.Kit.{ℕ, ◌≤◌, ◌+◌, ◌<◌, ◌-◌, suc, zero, min, arith, true, false, Bool, ◌≡◌, refl, ◌∙◌, sym, ap}
use Rattle.prelude.specs.Kit.{subst, List, [], ◌∷◌, length}
use Rattle.semantics.specs.Outcome.{Outcome, done, stop, Run, onward, require}
use Rattle.semantics.specs.Machine.{Event, acquires, State, with_store, with_left, step, stepped}
use Rattle.semantics.specs.Machine.{level_after, lowest_over, lowest_level, touching, release_events}
use Rattle.semantics.specs.Store.{Store, cell_count, free_cells}
use Rattle.semantics.specs.Sound.{free_list}
use Rattle.laws.specs.Levels.{lowest_append, touching_lowest, release_lowest, lowest_last}
use Rattle.discipline.proofs.store.Invariant.{Invariant}
use Rattle.discipline.proofs.store.LowestLevel.{level_replayed, free_cells_listed}
use Rattle.discipline.proofs.machine.Agreement.{Start, Clean}
use Rattle.leaner.proofs.Leaner.{Leaner}

-- ---- logs

-- events that never lower the level
abbrev pub Quiet : List Event → Type 0
Quiet l = (n : ℕ) → lowest_over l n ≡ n

pub quiet_lowest : (σ : Store) (s : State) (τ : Store) (events : List Event) → Quiet events →
    lowest_level σ (with_store s τ events) ≡ lowest_level σ s
unfolding with_store
quiet_lowest σ s τ events quiet = omega (
  arith,
  lowest_append s.log events (free_cells σ),
  quiet (level_after s.log (free_cells σ)),
  lowest_last s.log (free_cells σ),
)

pub none_quiet : Quiet []
unfolding lowest_over
none_quiet n = refl

pub touching_quiet : (σ : Store) (c : ℕ) → Quiet (touching σ c)
touching_quiet σ c n = touching_lowest σ c n

pub release_quiet : (k c : ℕ) (σ : Store) → Quiet (release_events k c σ)
release_quiet k c σ n = release_lowest k c σ n

-- a cell acquired
pub acquire_lowest : (σ : Store) (s : State) (τ : Store) (c : ℕ) →
    lowest_level σ (with_store s τ (acquires c ∷ [])) ≡
    min (lowest_level σ s) (level_after s.log (free_cells σ) - 1)
unfolding with_store lowest_over
acquire_lowest σ s τ c = omega (
  arith,
  lowest_append s.log (acquires c ∷ []) (free_cells σ),
  lowest_last s.log (free_cells σ),
)

-- the level after the log is the number of free cells of now, if that of the start is the free list's length
pub level_now : {start : Start} {s : State} {Z R : List ℕ} →
    free_cells start.store ≡ length (free_list start.store) → Clean start s → Invariant s.store Z R →
    level_after s.log (free_cells start.store) ≡ free_cells s.store
level_now {start} {s} listed c v =
    ap (level_after s.log) listed
    ∙ level_replayed s.log (free_list start.store) (free_list s.store) (sym c.replays)
    ∙ sym (free_cells_listed v)

-- ---- two runs

-- over two runs, where they began, and what the leaner one has more
pub record Race : Type 0 where
  pub first : Start
  pub leaner : Start
  pub steps : ℕ
  pub cells : ℕ

-- the levels begin with the free lists, and no roots are asked for
pub record Starts (r : Race) : Type 0 where
  pub more_cells : cell_count r.leaner.store ≡ cell_count r.first.store + r.cells
  pub listed : free_cells r.first.store ≡ length (free_list r.first.store)
  pub leaner_listed : free_cells r.leaner.store ≡ length (free_list r.leaner.store)
  pub careless : r.first.frugal ≡ false
  pub leaner_careless : r.leaner.frugal ≡ false

module _ (r : Race) where
  -- it still has them, and its lowest level is higher by its further cells at least
  pub record Level (s s' : State) : Type 0 where
    pub left : s'.left ≡ s.left + r.steps
    pub lowest : lowest_level r.first.store s + r.cells ≤ lowest_level r.leaner.store s'

  -- its cells correspond by π to those of the other
  pub record Tied (E : List ℕ) (π : ℕ → ℕ) (s s' : State) : Type 0 where
    pub level : Level s s'
    pub stores : Leaner E π s'.store s.store

  -- Both end, and then are so related; or both stop alike; or the first is out of cells, or out of steps where the
  -- leaner has more: then nothing is said.
  pub data Twins {A : Type 0} (Q : A → State → A → State → Type 0) : Outcome State A → Outcome State A →
      Type 0 where
    both : {a b : A} {s s' : State} → Q a s b s' → Twins Q (done a s) (done b s')
    stops : {k : ℕ} {s s' : State} → Level s s' → Twins Q (stop k s) (stop k s')
    dry : {s : State} {o : Outcome State A} → Twins Q (stop 25 s) o
    spent : {s : State} {o : Outcome State A} → 0 < r.steps → Twins Q (stop 21 s) o

  pub twins_map : {A : Type 0} {Q Q' : A → State → A → State → Type 0} →
      ((a : A) (s : State) (b : A) (s' : State) → Q a s b s' → Q' a s b s') →
      {o o' : Outcome State A} → Twins Q o o' → Twins Q' o o'
  twins_map f (both {a} {b} {s} {s'} q) = both (f a s b s' q)
  twins_map f (stops q) = stops q
  twins_map f (dry {s} {o}) = dry {s = s} {o = o}
  twins_map f (spent {s} {o} h) = spent {s = s} {o = o} h

  pub twins_bind : {A B : Type 0} {Q : A → State → A → State → Type 0} {Q' : B → State → B → State → Type 0}
      {f f' : A → Run State B} {o o' : Outcome State A} → Twins Q o o' →
      ((a : A) (s : State) (b : A) (s' : State) → o ≡ done a s → o' ≡ done b s' → Q a s b s' →
      Twins Q' (f a s) (f' b s')) → Twins Q' (onward f o) (onward f' o')
  unfolding onward
  twins_bind (both {a} {b} {s} {s'} q) next = next a s b s' refl refl q
  twins_bind (stops q) next = stops q
  twins_bind {f' = f'} (dry {s} {o}) next = dry {s = s} {o = onward f' o}
  twins_bind {f' = f'} (spent {s} {o} h) next = spent {s = s} {o = onward f' o} h

  -- ---- steps, tests and changes that lower no level

  pub level_quiet : {s s' : State} (σ σ' : Store) (l l' : List Event) → Quiet l → Quiet l' → Level s s' →
      Level (with_store s σ l) (with_store s' σ' l')
  unfolding with_store
  level_quiet {s} {s'} σ σ' l l' q q' h = record {
    left = h.left;
    lowest = omega (
      arith,
      h.lowest,
      quiet_lowest r.first.store s σ l q,
      quiet_lowest r.leaner.store s' σ' l' q',
    );
  }

  -- of the first run alone
  pub level_first : {s s' : State} (σ : Store) (l : List Event) → Quiet l → Level s s' → Level (with_store s σ l) s'
  unfolding with_store
  level_first {s} {s'} σ l q h = record {
    left = h.left;
    lowest = omega (arith, h.lowest, quiet_lowest r.first.store s σ l q);
  }

  -- the first run alone acquires a cell
  pub level_taken : {s s' : State} (σ : Store) (c : ℕ) → Level s s' → Level (with_store s σ (acquires c ∷ [])) s'
  unfolding with_store
  level_taken {s} {s'} σ c h = record {
    left = h.left;
    lowest = omega (arith, h.lowest, acquire_lowest r.first.store s σ c);
  }

  -- of the leaner run alone
  pub level_leaner : {s s' : State} (σ : Store) (l : List Event) → Quiet l → Level s s' → Level s (with_store s' σ l)
  unfolding with_store
  level_leaner {s} {s'} σ l q h = record {
    left = h.left;
    lowest = omega (arith, h.lowest, quiet_lowest r.leaner.store s' σ l q);
  }

  pub twin_step : {E : List ℕ} {π : ℕ → ℕ} {s s' : State} → Tied E π s s' →
      Twins (λ _ t _ t'. (t.store ≡ s.store) × (t'.store ≡ s'.store) × Tied E π t t') (step s) (step s')
  unfolding step stepped with_left
  twin_step {E} {π} {s} {s'} h =
      subst (λ (k : ℕ). Twins After (step s) (stepped k s')) (sym h.level.left) (go s.left r.steps refl refl)
    where
      After : Unit {0} → State → Unit {0} → State → Type 0
      After = λ _ t _ t'. (t.store ≡ s.store) × (t'.store ≡ s'.store) × Tied E π t t'

      go : (n k : ℕ) → s.left ≡ n → r.steps ≡ k → Twins After (stepped n s) (stepped (n + k) s')
      go zero zero e f = stops h.level
      go zero (suc k) e f = spent (omega (arith, f))
      go (suc n) k e f = let q : suc n + k ≡ suc (n + k) = omega arith in rw q (both (
        refl,
        refl,
        record {
          level = record { left = ap (λ (i : ℕ). n + i) (sym f); lowest = h.level.lowest };
          stores = h.stores;
        },
      ))

  -- the same with the two states told
  pub after_step : {E : List ℕ} {π : ℕ → ℕ} {s s' : State} {A : Type 0} {Q : A → State → A → State → Type 0}
      (f f' : Unit {0} → Run State A) → Tied E π s s' →
      ((j j' : ℕ) → step s ≡ done tt (with_left s j) → step s' ≡ done tt (with_left s' j') →
      Tied E π (with_left s j) (with_left s' j') → Twins Q (f tt (with_left s j)) (f' tt (with_left s' j'))) →
      Twins Q (onward f (step s)) (onward f' (step s'))
  unfolding step stepped with_left onward
  after_step {E} {π} {s} {s'} {Q = Q} f f' h next = go s.left r.steps s'.left refl refl refl
    where
      go : (n k l : ℕ) → s.left ≡ n → r.steps ≡ k → s'.left ≡ l →
          Twins Q (onward f (stepped n s)) (onward f' (stepped l s'))
      go zero zero zero d e g = stops h.level
      go zero zero (suc l) d e g = absurd (omega (arith, h.level.left, d, e, g))
      go zero (suc k) l d e g = spent {o = onward f' (stepped l s')} (omega (arith, e))
      go (suc n) k zero d e g = absurd (omega (arith, h.level.left, d, e, g))
      go (suc n) k (suc l) d e g = next n l (rw d refl) (rw g refl) record {
        level = record { left = omega (arith, h.level.left, d, g); lowest = h.level.lowest };
        stores = h.stores;
      }

  pub twin_test : {A : Type 0} {Q : A → State → A → State → Type 0} {s s' : State} (k : ℕ)
      (f f' : Unit {0} → Run State A) (t t' : Bool) → t ≡ t' → Level s s' → (t ≡ true → Twins Q (f tt s) (f' tt s')) →
      Twins Q (onward f (require t k s)) (onward f' (require t' k s'))
  unfolding onward require
  twin_test k f f' true true e h next = next refl
  twin_test k f f' true false e h next = absurd (let z : ◌≡◌ {A = ℕ} 0 1 = cc in omega arith)
  twin_test k f f' false true e h next = absurd (let z : ◌≡◌ {A = ℕ} 0 1 = cc in omega arith)
  twin_test k f f' false false e h next = stops h
