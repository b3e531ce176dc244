-- A cell acquired, or none free: then each taken cell is reached from the roots.
use Rattle.prelude.specs.Kit.{ℕ, ◌≤◌, ◌<◌, ◌-◌, suc, arith, true, false, Bool, ◌&&◌, ◌≡◌, refl, ◌∙◌, sym, ap, subst}
use Rattle.prelude.specs.Kit.{inl, inr, List, [], ◌∷◌, ◌++◌, map, ℤ, pos, length, eq-eqb}
use Rattle.semantics.specs.Outcome.{Outcome, done, stop, Run, onward, give}
use Rattle.semantics.specs.Value.{Value, list}
use Rattle.semantics.specs.Live.{Set, members}
use Rattle.semantics.specs.Annotate.{is_array}
use Rattle.semantics.specs.Meaning.{Meter, Env, step_wants}
use Rattle.semantics.specs.Machine.{acquires, State, Frame, with_store, with_roots, held, acquire, acquire_if}
use Rattle.semantics.specs.Store.{Store, Cell, cell, cell_of, named_by, filled, has_free, acquired}
use Rattle.semantics.specs.Demands.{value_of, touched, replayed}
use Rattle.semantics.specs.Basics.{◌∈◌}
use Rattle.laws.specs.Tests.{say_and}
use Rattle.laws.specs.Lists.{◌⊆◌}
use Rattle.laws.specs.Levels.{acquire_no_higher}
use Rattle.discipline.proofs.store.Invariant.{Invariant, Keeps, StandsFor}
use Rattle.discipline.proofs.store.Counting.{append_cases, in_append_left, in_append_right}
use Rattle.discipline.proofs.store.Kept.{reached, reached_more, keeps_fewer}
use Rattle.discipline.proofs.store.Acquire.{Takes, Acquires, acquire_takes, none_left}
use Rattle.discipline.proofs.store.Acquire as Store_acquire
use Rattle.discipline.proofs.machine.Discipline.{Covered}
use Rattle.discipline.proofs.machine.Images.{image_subset, member, without_middle}
use Rattle.discipline.proofs.machine.Growth.{Grows}
use Rattle.discipline.proofs.machine.Agreement.{Start, Together, AllTaken, Agree, dry, with_store_together}
use Rattle.discipline.proofs.machine.Frames.{hold, Setting, Situation, Returned}
use Rattle.discipline.proofs.machine.Standing.{named_one}

-- ---- out of cells

-- the covered names are among those whose cells the machine has for its roots
pub covered_held : (C : Setting) (H : List ℕ) (A : Set) (ρ : Frame) →
    Covered C.depths H A → hold ρ H ⊆ held C.depths A ρ
unfolding held
covered_held C H A ρ k = image_subset (λ y. cell_of (ρ y)) H (members (λ y. A y && is_array C.depths y))
    (λ y h. member (λ z. A z && is_array C.depths z) y (k.below y h) (say_and (A y) (is_array C.depths y)
    (k.live y h) (k.array y h)))

-- what covered names and others hold is among the roots
pub roots_cover : (C : Setting) (Z F R H : List ℕ) (A : Set) (ρ : Frame) →
    (Z ++ F) ⊆ R → Covered C.depths H A → (Z ++ (hold ρ H ++ F)) ⊆ (R ++ held C.depths A ρ)
roots_cover C Z F R H A ρ rooted covered c h = elim (append_cases c Z (hold ρ H ++ F) h) [
  | inl g ↦ in_append_left c R (held C.depths A ρ) (rooted c (in_append_left c Z F g))
  | inr g ↦ elim (append_cases c (hold ρ H) F g) [
    | inl k ↦ in_append_right c R (held C.depths A ρ) (covered_held C H A ρ covered c k)
    | inr k ↦ in_append_left c R (held C.depths A ρ) (rooted c (in_append_right c Z F k))
  ]
]

-- where no cell is free, each is taken, and reached from the roots if the code is frugal
pub out_of_cells : {C : Setting} {Z F R B H P : List ℕ} {ρ : Frame} {δ : Env} {n : ℕ} (s : State) (A : Set) →
    Situation C s.store Z F R B H P ρ δ n → (C.start.frugal ≡ true → Covered C.depths H A) →
    has_free s.store ≡ false → AllTaken C.start (with_roots s (R ++ held C.depths A ρ))
unfolding with_roots
out_of_cells {C} {Z} {F} {R} {B} {H} {P} {ρ} s A S covered e = record {
  taken = λ c h. none_left S.invariant e c h;
  in_use = λ f. record {
    none_free = e;
    all_taken = λ c h. none_left S.invariant e c h;
    in_use = λ c h. reached_more s.store (Z ++ (hold ρ H ++ F)) (R ++ held C.depths A ρ)
        (roots_cover C Z F R H A ρ (S.rooted f) (covered f)) c (reached S.invariant c h);
  };
}

-- the state after a cell is acquired
abbrev pub after_acquire : ℕ → List ℤ → State → State
after_acquire d ws s = with_store s (acquired d ws s.store) (acquires s.store.first ∷ [])

pub acquire_together : {start : Start} {s : State} {m : Meter} (d : ℕ) (ws : List ℤ) →
    Takes s.store (acquired d ws s.store) → Together start s m → Together start (after_acquire d ws s) m
unfolding touched replayed
acquire_together {s = s} d ws taken t =
    with_store_together (acquired d ws s.store) (acquires s.store.first ∷ [])
    (acquire_no_higher s.store.first) refl
    (rw (taken.free, eq-eqb s.store.first s.store.first refl) refl) taken.cells t

-- a cell is acquired, which the last step's node wants
module _ {start : Start} {A B : Type 0} {Q : A → State → B → Meter → Type 0} {s : State} {m : Meter}
    (R : List ℕ) (d : ℕ) (ws : List ℤ) where
  pub acquire_agrees : (f : ℤ → Run State A) (g : Run Meter B) → Grows g → Together start s m →
      step_wants (start.budget - s.left) m.trace ≡ true →
      (has_free s.store ≡ false → AllTaken start (with_roots s R)) →
      (has_free s.store ≡ true → Agree start Q (f (pos s.store.first) (after_acquire d ws s)) (g m)) →
      Agree start Q (onward f (acquire R d ws s)) (g m)
  unfolding acquire acquire_if onward with_roots
  acquire_agrees f g grows t wants out next = go (has_free s.store) refl
    where
      go : (b : Bool) → has_free s.store ≡ b → Agree start Q (onward f (acquire_if b R d ws s)) (g m)
      go true e = next e
      go false e = dry {p = g m} record {
        none_free = e;
        all_taken = out e;
        clean = record {
          untouched = t.clean.untouched;
          replays = t.clean.replays;
          cells = t.clean.cells;
          levels = t.clean.levels;
        };
        wanted = grows.later m (start.budget - s.left) wants;
      }

given_on : (o : Outcome State ℤ) → onward give o ≡ o
unfolding onward
given_on (done w s) = refl
given_on (stop n s) = refl

-- the same where the cell's word is what is given
pub acquire_gives : {start : Start} {B : Type 0} {Q : ℤ → State → B → Meter → Type 0} {s : State} {m : Meter}
    (R : List ℕ) (d : ℕ) (ws : List ℤ) (g : Run Meter B) → Grows g → Together start s m →
    step_wants (start.budget - s.left) m.trace ≡ true →
    (has_free s.store ≡ false → AllTaken start (with_roots s R)) →
    (has_free s.store ≡ true → Agree start Q (done (pos s.store.first) (after_acquire d ws s)) (g m)) →
    Agree start Q (acquire R d ws s) (g m)
acquire_gives {start} {Q = Q} {s} {m} R d ws g grows t wants out next =
    subst (λ (o : Outcome State ℤ). Agree start Q o (g m)) (given_on (acquire R d ws s))
    (acquire_agrees R d ws give g grows t wants out next)

-- ---- the cell acquired

pub filled_count : (d : ℕ) (ws : List ℤ) → 0 < (filled d ws).count
unfolding filled
filled_count d ws = omega arith

pub filled_depth : (d : ℕ) (ws : List ℤ) → (filled d ws).depth ≡ d
unfolding filled
filled_depth d ws = refl

-- a cell with this content stands for an array of this value
pub cell_stands : {τ : Store} (d : ℕ) (w : ℤ) (v : Value) → value_of τ (suc d) w ≡ v →
    0 < (cell τ (cell_of w)).count → (cell τ (cell_of w)).depth ≡ d → StandsFor τ (suc d) w v
cell_stands {τ} d w v means used depth = record {
  means = means;
  fits = λ r h.
      let e = named_one (suc d) w r h in
      rw e (used, ap suc (sym depth));
}

-- In σ a new array was acquired, of words of depth d which hold their cells: it holds one reference in their place.
pub array_stored : {start : Start} {Z R : List ℕ} {σ : Store} {s : State} {m : Meter} (d : ℕ) (ws : List ℤ)
    (vs : List Value) → Together start s m → s.store ≡ acquired d ws σ → Invariant σ Z (named_by d ws ++ R) →
    has_free σ ≡ true → length ws ≤ 16 → d ≤ 3 → ((r : ℕ) → r ∈ named_by d ws → d ≡ suc (cell σ r).depth) →
    map (value_of σ d) ws ≡ vs → Returned start (suc d) σ Z R (pos σ.first) s (list vs) m
unfolding cell_of
array_stored {start} {Z} {R} {σ} {s} d ws vs t stored inv free few shallow typed mean = record {
  answered = record {
    together = t;
    invariant = subst (λ (τ : Store). Invariant τ Z (σ.first ∷ R)) (sym stored) a.holds;
    stands = subst (λ (τ : Store). StandsFor τ (suc d) (pos σ.first) (list vs)) (sym stored)
        (cell_stands d (pos σ.first) (list vs) (a.value ∙ ap (λ (l : List Value). list l) mean)
        (rw a.new (filled_count d ws)) (ap (λ (y : Cell). y.depth) a.new ∙ filled_depth d ws));
  };
  keeps = subst (λ (τ : Store). Keeps σ τ (Z ++ R)) (sym stored)
      (keeps_fewer (Z ++ (named_by d ws ++ R)) (Z ++ R) (without_middle Z (named_by d ws) R) a.keeps);
}
  where
    a : Acquires σ (acquired d ws σ) d ws Z R
    a = Store_acquire.acquire d ws inv free few shallow typed

-- the same at once after the acquiring
pub array_made : {start : Start} {Z R : List ℕ} {s : State} {m : Meter} (d : ℕ) (ws : List ℤ) (vs : List Value) →
    Together start s m → Invariant s.store Z (named_by d ws ++ R) → has_free s.store ≡ true →
    length ws ≤ 16 → d ≤ 3 → ((r : ℕ) → r ∈ named_by d ws → d ≡ suc (cell s.store r).depth) →
    map (value_of s.store d) ws ≡ vs →
    Returned start (suc d) s.store Z R (pos s.store.first) (after_acquire d ws s) (list vs) m
unfolding with_store
array_made d ws vs t inv free few shallow typed mean =
    array_stored d ws vs (acquire_together d ws (acquire_takes d ws inv free) t) refl inv free few shallow typed mean
