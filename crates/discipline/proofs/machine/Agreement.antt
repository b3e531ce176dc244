-- Agreement: the machine's run and the run on values end with related answers, stop alike, or the machine is out of
-- cells just where the meaning wants one.
use Rattle.prelude.specs.Kit.{ℕ, ◌≤◌, ◌+◌, ◌<◌, ◌-◌, suc, zero, arith, true, false, Bool, ◌≡◌, refl, ◌∙◌, sym, ap}
use Rattle.prelude.specs.Kit.{subst, ◌≢◌, some, List, [], ◌∷◌, length, eq-eqb}
use Rattle.semantics.specs.Outcome.{Outcome, done, stop, Run, onward, require}
use Rattle.semantics.specs.Meaning.{Meter, step_wants, meter_of}
use Rattle.semantics.specs.Meaning as Meaning
use Rattle.semantics.specs.Machine.{Event, State, with_store, with_left, level_after}
use Rattle.semantics.specs.Machine as Machine
use Rattle.semantics.specs.Store.{Store, cell_count, has_free}
use Rattle.semantics.specs.Sound.{free_list}
use Rattle.semantics.specs.Demands.{Taken, touched, replayed, OutOfCells}
use Rattle.laws.specs.Levels.{LevelsUpTo, up_to_append, up_to_last, NoHigher}
use Rattle.discipline.proofs.store.Release.{untouched_append, replayed_append}
use Rattle.discipline.proofs.store.LowestLevel.{free_list_length, level_replayed}
use Rattle.discipline.proofs.machine.Growth.{Grows, onward_grows}

-- where a delivery began, and whether its code holds nothing but what is live
pub record Start : Type 0 where
  pub budget : ℕ
  pub store : Store
  pub frugal : Bool

-- No free cell was touched, and the log alone leads from the free list at the start to the one of now; over it there
-- were never more free cells than cells.
pub record Clean (start : Start) (s : State) : Type 0 where
  pub untouched : touched s.log ≡ []
  pub replays : some (free_list s.store) ≡ replayed s.log (some (free_list start.store))
  pub cells : cell_count s.store ≡ cell_count start.store
  pub levels : LevelsUpTo (cell_count start.store) s.log (length (free_list start.store))

-- The machine and the meter at one point: the same steps left, the trace one entry for each step taken.
pub record Together (start : Start) (s : State) (m : Meter) : Type 0 where
  pub left : s.left ≡ m.left
  pub metered : m.left + length m.trace ≡ start.budget
  pub clean : Clean start s

-- the number of a stop other than 25
pub record Stop (k : ℕ) : Type 0 where
  pub low : 21 ≤ k
  pub high : k < 256
  pub other : k ≢ 25

-- the same stop, other than 25, after the same steps
pub record SameStop (start : Start) (k : ℕ) (s : State) (n : ℕ) (m : Meter) : Type 0 where
  pub number : k ≡ n
  pub stops : Stop k
  pub left : s.left ≡ m.left
  pub clean : Clean start s

-- every cell is taken, and in use if the code is frugal
pub record AllTaken (start : Start) (s : State) : Type 0 where
  pub taken : (c : ℕ) → c < cell_count s.store → Taken s.store c
  pub in_use : start.frugal ≡ true → OutOfCells s

-- out of cells, after a step of a node that wants a cell
pub record Dry (start : Start) (s : State) (trace : List Bool) : Type 0 where
  pub none_free : has_free s.store ≡ false
  pub all_taken : AllTaken start s
  pub clean : Clean start s
  pub wanted : step_wants (start.budget - s.left) trace ≡ true

pub data Agree (start : Start) {A B : Type 0} (Q : A → State → B → Meter → Type 0) : Outcome State A →
    Outcome Meter B → Type 0 where
  both : {a : A} {s : State} {b : B} {m : Meter} → Q a s b m → Agree start Q (done a s) (done b m)
  same : {k n : ℕ} {s : State} {m : Meter} → SameStop start k s n m → Agree start Q (stop k s) (stop n m)
  dry : {s : State} {p : Outcome Meter B} → Dry start s (meter_of p).trace → Agree start Q (stop 25 s) p

-- ---- runs in sequence

module _ {start : Start} {A B : Type 0} {Q : A → State → B → Meter → Type 0} where
  pub agree_map : {Q' : A → State → B → Meter → Type 0} →
      ((a : A) (s : State) (b : B) (m : Meter) → Q a s b m → Q' a s b m) →
      {o : Outcome State A} {p : Outcome Meter B} → Agree start Q o p → Agree start Q' o p
  agree_map f (both {a} {s} {b} {m} q) = both (f a s b m q)
  agree_map f (same q) = same q
  agree_map f (dry {p = p} q) = dry {p = p} q

  -- where the machine is out of cells, the meaning may go on
  pub agree_bind : {C D : Type 0} {Q' : C → State → D → Meter → Type 0} {f : A → Run State C} {g : B → Run Meter D} →
      {o : Outcome State A} {p : Outcome Meter B} → Agree start Q o p → ((b : B) → Grows (g b)) →
      ((a : A) (s : State) (b : B) (m : Meter) → Q a s b m → Agree start Q' (f a s) (g b m)) →
      Agree start Q' (onward f o) (onward g p)
  unfolding onward
  agree_bind (both {a} {s} {b} {m} q) grows next = next a s b m q
  agree_bind (same q) grows next = same q
  agree_bind {g = g} (dry {s} {p = p} q) grows next = dry {p = onward g p} record {
    none_free = q.none_free;
    all_taken = q.all_taken;
    clean = q.clean;
    wanted = onward_grows g grows p (start.budget - s.left) q.wanted;
  }

-- the meaning's actions end before a name is bound
pub agree_assoc : {start : Start} {A B C D : Type 0} {Q : A → State → D → Meter → Type 0} {o : Outcome State A}
    (g : B → Run Meter C) (h : C → Run Meter D) (p : Outcome Meter B) →
    Agree start Q o (onward (λ b m. onward h (g b m)) p) → Agree start Q o (onward h (onward g p))
unfolding onward
agree_assoc g h (done b m) q = q
agree_assoc g h (stop n m) q = q

-- the machine's actions end before a name is bound
pub agree_after : {start : Start} {A B C D : Type 0} {Q : B → State → D → Meter → Type 0} (f : C → Run State A)
    (h : A → Run State B) (o : Outcome State C) {p : Outcome Meter D} → Agree start Q (onward h (onward f o)) p →
    Agree start Q (onward (λ c s. onward h (f c s)) o) p
unfolding onward
agree_after f h (done c s) q = q
agree_after f h (stop n s) q = q

-- ---- steps and tests

-- after a step of both, of a node that wants a cell or not
pub record Stepped (start : Start) (wants : Bool) (s s' : State) (m' : Meter) : Type 0 where
  pub together : Together start s' m'
  pub store : s'.store ≡ s.store
  pub wanted : wants ≡ true → step_wants (start.budget - s'.left) m'.trace ≡ true

wants_now : (k : ℕ) (l : List Bool) → k ≡ suc (length l) → step_wants k (true ∷ l) ≡ true
unfolding step_wants
wants_now k l e = rw (eq-eqb k (suc (length l)) e) refl

pub step_agrees : {start : Start} {s : State} {m : Meter} (wants : Bool) → Together start s m →
    Agree start (λ _ s' _ m'. Stepped start wants s s' m') (Machine.step s) (Meaning.step wants m)
unfolding Machine.step Meaning.step Machine.stepped Meaning.stepped with_left
step_agrees {start} {s} {m} wants t =
    subst (λ (k : ℕ). Agree start (λ _ s' _ m'. Stepped start wants s s' m')
    (Machine.stepped k s) (Meaning.stepped wants m.left m.trace)) (sym t.left) (go m.left refl)
  where
    go : (n : ℕ) → m.left ≡ n → Agree start (λ _ s' _ m'. Stepped start wants s s' m')
        (Machine.stepped n s) (Meaning.stepped wants n m.trace)
    go zero e = same {k = 21} record {
      number = refl;
      stops = record { low = omega arith; high = omega arith; other = λ h. omega arith };
      left = t.left ∙ e;
      clean = t.clean;
    }
    go (suc n) e = both {m = record { left = n; trace = wants ∷ m.trace }} record {
      together = record {
        left = refl;
        metered = omega (arith, t.metered, e);
        clean = record {
          untouched = t.clean.untouched;
          replays = t.clean.replays;
          cells = t.clean.cells;
          levels = t.clean.levels;
        };
      };
      store = refl;
      wanted = λ h. rw h (wants_now (start.budget - n) m.trace (omega (arith, t.metered, e)));
    }

pub after_step : {start : Start} {A B : Type 0} {Q : A → State → B → Meter → Type 0} {s : State} {m : Meter}
    (wants : Bool) {f : Unit {0} → Run State A} {g : Unit {0} → Run Meter B} → Together start s m →
    ((u : Unit {0}) → Grows (g u)) →
    ((u v : Unit {0}) (s' : State) (m' : Meter) → Stepped start wants s s' m' → Agree start Q (f u s') (g v m')) →
    Agree start Q (onward f (Machine.step s)) (onward g (Meaning.step wants m))
after_step wants t grows next = agree_bind (step_agrees wants t) grows (λ u s' v m' h. next u v s' m' h)

-- after the same test of both
pub after_test : {start : Start} {A B : Type 0} {Q : A → State → B → Meter → Type 0} {s : State} {m : Meter}
    (k : ℕ) (f : Unit {0} → Run State A) (g : Unit {0} → Run Meter B) (t t' : Bool) → t ≡ t' → Stop k →
    Together start s m →
    (t ≡ true → Agree start Q (f tt s) (g tt m)) → Agree start Q (onward f (require t k s)) (onward g (require t' k m))
unfolding onward require
after_test k f g true true e stops t next = next refl
after_test k f g true false e stops t next = absurd (let z : ◌≡◌ {A = ℕ} 0 1 = cc in omega arith)
after_test k f g false true e stops t next = absurd (let z : ◌≡◌ {A = ℕ} 0 1 = cc in omega arith)
after_test k f g false false e stops t next = same {k = k} record {
  number = refl;
  stops = stops;
  left = t.left;
  clean = t.clean;
}

-- ---- the log

-- the level after the log is the length of the free list of now
level_now : {start : Start} {s : State} → Clean start s →
    level_after s.log (length (free_list start.store)) ≡ length (free_list s.store)
level_now {start} {s} c =
    level_replayed s.log (free_list start.store) (free_list s.store) (sym c.replays)

-- the store changes by clean events
pub with_store_together : {start : Start} {s : State} {m : Meter} (σ : Store) (events : List Event) →
    NoHigher events → touched events ≡ [] → some (free_list σ) ≡ replayed events (some (free_list s.store)) →
    cell_count σ ≡ cell_count s.store →
    Together start s m → Together start (with_store s σ events) m
unfolding with_store
with_store_together {start} {s} σ events h e f g t = record {
  left = t.left;
  metered = t.metered;
  clean = record {
    untouched = untouched_append s.log events t.clean.untouched e;
    replays = f ∙ ap (replayed events) t.clean.replays
        ∙ sym (replayed_append s.log events (some (free_list start.store)));
    cells = g ∙ t.clean.cells;
    levels = up_to_append N s.log events n t.clean.levels
        (h.up_to N now (up_to_last N s.log n t.clean.levels) below);
  };
}
  where
    N : ℕ
    N = cell_count start.store

    n : ℕ
    n = length (free_list start.store)

    now : ℕ
    now = level_after s.log n

    below : level_after events now ≤ N
    below = omega (
      arith,
      ap (level_after events) (level_now t.clean),
      level_replayed events (free_list s.store) (free_list σ) (sym f),
      free_list_length σ,
      g,
      t.clean.cells,
    )
