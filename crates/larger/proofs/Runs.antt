-- Two runs of the same work, of which the second has further cells and further steps: they do the same, unless the
-- first is out of cells or of steps, or the second touches a free cell.
use Rattle.prelude.specs.Kit.{ℕ, ◌+◌, suc, zero, arith, true, false, Bool, cond, ◌≡◌, refl, sym, ap, subst, List, []}
use Rattle.prelude.specs.Kit.{◌∷◌, ◌++◌, eqb, ℤ, pos, length}
use Rattle.semantics.specs.Outcome.{Outcome, done, stop, onward, give, halt, require, passes}
use Rattle.semantics.specs.Store.{Store, cell, cell_of, elements, with_totals, has_free, acquired, retained, released}
use Rattle.semantics.specs.Store.{appended, overwritten, deepest}
use Rattle.semantics.specs.Machine.{Event, acquires, frees, touches, touching, release_events, State, Work, with_store}
use Rattle.semantics.specs.Machine.{with_left, with_roots, stepped, step, acquire_if, acquire, elements_of, retain_word}
use Rattle.semantics.specs.Machine.{release_word, append_word, overwrite_word, is_alone, if_array, retain_times}
use Rattle.semantics.specs.Machine.{state_of}
use Rattle.semantics.specs.Demands.{touched}
use Rattle.larger.proofs.Extended.{Extends, shows_same, same_first, extends_retained, extends_appended}
use Rattle.larger.proofs.Extended.{extends_overwritten, extends_totals, extends_has_free, extends_acquired}
use Rattle.larger.proofs.Extended.{extends_released}

-- no free cell was touched
abbrev pub Untouched : {A : Type 0} → Outcome State A → Type 0
Untouched o = touched (state_of o).log ≡ []

-- neither in a log nor in the one before it
untouched_parts : (a b : List Event) → touched (a ++ b) ≡ [] → (touched a ≡ []) × (touched b ≡ [])
unfolding touched
untouched_parts [] b h = (refl, h)
untouched_parts (acquires c ∷ a) b h = untouched_parts a b h
untouched_parts (frees c ∷ a) b h = untouched_parts a b h
untouched_parts (touches c ∷ a) b h = absurd (omega (arith, ap length h))

-- the second run has so many cells and steps more
module _ (cells steps : ℕ) where
  pub record Ahead (s s' : State) : Type 0 where
    pub stores : Extends cells s.store s'.store
    pub left : s'.left ≡ s.left + steps

  -- both end, with the same answer; or both stop alike; or the first is out of cells or of steps, and nothing is said
  pub data SameEnd {A : Type 0} : Outcome State A → Outcome State A → Type 0 where
    both : {a : A} {s s' : State} → Ahead s s' → SameEnd (done a s) (done a s')
    stops : {n : ℕ} {s s' : State} → s'.left ≡ s.left + steps → SameEnd (stop n s) (stop n s')
    dry : {s : State} {o : Outcome State A} → SameEnd (stop 25 s) o
    spent : {s : State} {o : Outcome State A} → SameEnd (stop 21 s) o

  -- work that ends the same in both runs
  pub record Steady {A : Type 0} (m : Work A) : Type 0 where
    -- the log only grows
    pub logs : (s : State) → Untouched (m s) → touched s.log ≡ []
    pub same : (s s' : State) → Ahead s s' → Untouched (m s') → SameEnd (m s) (m s')

module _ {cells steps : ℕ} where
  -- ---- work in sequence

  pub steady_give : {A : Type 0} (a : A) → Steady cells steps (give a)
  steady_give a = record { logs = λ s h. h; same = λ s s' w h. both w }

  pub steady_halt : {A : Type 0} (n : ℕ) → Steady cells steps {A = A} (halt n)
  steady_halt n = record { logs = λ s h. h; same = λ s s' w h. stops w.left }

  pub steady_require : (b : Bool) (n : ℕ) → Steady cells steps (require b n)
  unfolding require
  steady_require true n = record { logs = λ s h. h; same = λ s s' w h. both w }
  steady_require false n = record { logs = λ s h. h; same = λ s s' w h. stops w.left }

  pub steady_bind : {A B : Type 0} {m : Work A} {f : A → Work B} → Steady cells steps m →
      ((a : A) → Steady cells steps (f a)) → Steady cells steps (λ s. onward f (m s))
  unfolding onward
  steady_bind {A} {B} {m} {f} first next = record {
    logs = λ s h. first.logs s (before (m s) h);
    same = λ s s' w h. after (first.same s s' w (before (m s') h)) h;
  }
    where
      before : (o : Outcome State A) → Untouched (onward f o) → Untouched o
      before (done a t) h = (next a).logs t h
      before (stop n t) h = h

      after : {o o' : Outcome State A} → SameEnd cells steps o o' → Untouched (onward f o') →
          SameEnd cells steps (onward f o) (onward f o')
      after (both {a} {s} {s'} w) h = (next a).same s s' w h
      after (stops e) h = stops e
      after (dry {s} {o}) h = dry {s = s} {o = onward f o}
      after (spent {s} {o}) h = spent {s = s} {o = onward f o}

  pub steady_cond : {A : Type 0} (b : Bool) {m n : Work A} → Steady cells steps m → Steady cells steps n →
      Steady cells steps (cond b m n)
  steady_cond true p q = p
  steady_cond false p q = q

  pub steady_passes : {A B : Type 0} (f : B → A → Work B) → ((b : B) (a : A) → Steady cells steps (f b a)) →
      (l : List A) (b : B) → Steady cells steps (passes f b l)
  unfolding passes
  steady_passes f each [] b = steady_give b
  steady_passes f each (a ∷ l) b = steady_bind (each b a) (λ c. steady_passes f each l c)

  -- ---- single actions

  pub steady_step : Steady cells steps step
  unfolding step stepped with_left
  steady_step = record { logs = λ s. logs s s.left refl; same = λ s s' w h. same s s' w s.left refl }
    where
      logs : (s : State) (n : ℕ) → s.left ≡ n → Untouched (step s) → touched s.log ≡ []
      logs s zero e h = rw e at h
      logs s (suc n) e h = rw e at h

      same : (s s' : State) → Ahead cells steps s s' → (n : ℕ) → s.left ≡ n → SameEnd cells steps (step s) (step s')
      same s s' w zero e = rw e (spent {o = step s'})
      same s s' w (suc n) e =
          let q : s'.left ≡ suc (n + steps) = omega (arith, w.left, e) in
          rw (e, q) (both (record { stores = w.stores; left = refl }))

  -- an action that answers by the store, changes it and logs what it did, alike in both
  steady_change : {A : Type 0} (answer : Store → A) (change : Store → Store) (events : Store → List Event) →
      ((σ τ : Store) → Extends cells σ τ → touched (events τ) ≡ [] →
      (answer τ ≡ answer σ) × Extends cells (change σ) (change τ)) →
      Steady cells steps (λ s. done (answer s.store) (with_store s (change s.store) (events s.store)))
  unfolding with_store
  steady_change {A} answer change events alike = record {
    logs = λ s h. (untouched_parts s.log (events s.store) h).0;
    same = λ s s' w h.
        let r = alike s.store s'.store w.stores (untouched_parts s'.log (events s'.store) h).1 in
        subst (λ (a : A). SameEnd cells steps
        (done (answer s.store) (with_store s (change s.store) (events s.store)))
        (done a (with_store s' (change s'.store) (events s'.store))))
        (sym r.0) (both (record { stores = r.1; left = w.left }));
  }

  pub steady_elements : (w : ℤ) → Steady cells steps (elements_of w)
  unfolding elements_of
  steady_elements w = steady_change (λ σ. elements (cell σ (cell_of w))) (λ σ. σ) (λ σ. touching σ (cell_of w))
      (λ σ τ h u. ((shows_same h (cell_of w)).elements, h))

  pub steady_alone : (w : ℤ) → Steady cells steps (is_alone w)
  unfolding is_alone
  steady_alone w = steady_change (λ σ. eqb (cell σ (cell_of w)).count 1) (λ σ. σ) (λ σ. touching σ (cell_of w))
      (λ σ τ h u. (ap (λ (n : ℕ). eqb n 1) (shows_same h (cell_of w)).count, h))

  pub steady_retain : (w : ℤ) → Steady cells steps (retain_word w)
  unfolding retain_word
  steady_retain w = steady_change (λ σ. tt) (retained (cell_of w)) (λ σ. touching σ (cell_of w))
      (λ σ τ h u. (refl, extends_retained h (cell_of w) u))

  pub steady_release : (w : ℤ) → Steady cells steps (release_word w)
  unfolding release_word
  steady_release w = steady_change (λ σ. tt) (released deepest (cell_of w)) (release_events deepest (cell_of w))
      (λ σ τ h u. (refl, extends_released deepest (cell_of w) σ τ h))

  pub steady_append : (a w : ℤ) → Steady cells steps (append_word a w)
  unfolding append_word
  steady_append a w = steady_change (λ σ. tt) (appended (cell_of a) w) (λ σ. touching σ (cell_of a))
      (λ σ τ h u. (refl, extends_appended h w (cell_of a) u))

  pub steady_overwrite : (a : ℤ) (i : ℕ) (w : ℤ) → Steady cells steps (overwrite_word a i w)
  unfolding overwrite_word
  steady_overwrite a i w = steady_change (λ σ. tt) (overwritten (cell_of a) i w) (λ σ. touching σ (cell_of a))
      (λ σ τ h u. (refl, extends_overwritten h i w (cell_of a) u))

  -- a word in the totals' place
  pub steady_totals : (w : ℤ) →
      Steady cells steps {A = Unit {0}} (λ s. done tt (with_store s (with_totals s.store w) []))
  steady_totals w = steady_change (λ σ. tt) (λ σ. with_totals σ w) (λ σ. [])
      (λ σ τ h u. (refl, extends_totals h w))

  pub steady_acquire : (R : List ℕ) (d : ℕ) (ws : List ℤ) → Steady cells steps (acquire R d ws)
  unfolding acquire acquire_if with_store with_roots
  steady_acquire R d ws = record {
    logs = λ s. logs s (has_free s.store);
    same = λ s s' w h. same s s' w (has_free s.store) refl;
  }
    where
      logs : (s : State) (b : Bool) → Untouched (acquire_if b R d ws s) → touched s.log ≡ []
      logs s true h = (untouched_parts s.log (acquires s.store.first ∷ []) h).0
      logs s false h = h

      same : (s s' : State) → Ahead cells steps s s' → (b : Bool) → has_free s.store ≡ b →
          SameEnd cells steps (acquire R d ws s) (acquire R d ws s')
      same s s' w false e = rw e (dry {o = acquire R d ws s'})
      same s s' w true e = rw (e, extends_has_free w.stores e) (
          subst (λ (c : ℕ). SameEnd cells steps (acquire_if true R d ws s)
          (done (pos c) (with_store s' (acquired d ws s'.store) (acquires s'.store.first ∷ []))))
          (sym (same_first w.stores))
          (both (record { stores = extends_acquired w.stores d ws e; left = w.left })))

  -- ---- repeated actions

  pub steady_if_array : (d : ℕ) {m : Work (Unit {0})} → Steady cells steps m → Steady cells steps (if_array d m)
  steady_if_array zero p = steady_give tt
  steady_if_array (suc d) p = p

  pub steady_retains : (n : ℕ) (w : ℤ) → Steady cells steps (retain_times n w)
  unfolding retain_times
  steady_retains zero w = steady_give tt
  steady_retains (suc n) w = steady_bind (steady_retain w) (λ _. steady_retains n w)
