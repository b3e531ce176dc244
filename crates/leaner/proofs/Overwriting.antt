-- One run that rewrites its array of numbers in the array's own cell: what holds between its passes.
use Rattle.prelude.specs.Kit.{ℕ, ◌≤◌, ◌+◌, ◌<◌, suc, arith, ◌≡◌, refl, ◌∙◌, ap, subst, List, [], ◌∷◌, ◌++◌, ℤ, pos}
use Rattle.prelude.specs.Kit.{length, get_or, drop}
use Rattle.semantics.specs.Value.{Value, num, list, items}
use Rattle.semantics.specs.Kinds.{rewriting}
use Rattle.semantics.specs.Code.{Atom, loop, Tree}
use Rattle.semantics.specs.Live.{Set}
use Rattle.semantics.specs.Meaning.{Meter, Env, with_item}
use Rattle.semantics.specs.Machine.{State, Frame, word, with_store, touching}
use Rattle.semantics.specs.Store.{Store, cell, cell_of, overwritten}
use Rattle.laws.specs.Values.{items_list}
use Rattle.semantics.specs.Plain.{value}
use Rattle.discipline.proofs.normal.Trace.{CalleeGrows}
use Rattle.discipline.proofs.store.Invariant.{StandsFor}
use Rattle.discipline.proofs.machine.Discipline.{less}
use Rattle.discipline.proofs.machine.Agreement.{Together}
use Rattle.discipline.proofs.machine.Frames.{Setting, Ended, given}
use Rattle.discipline.proofs.machine.Elements.{array_depth}
use Rattle.discipline.proofs.machine.Size.{tree_adds}
use Rattle.discipline.proofs.machine.Rules.{LineRules}
use Rattle.discipline.proofs.machine.Claims.{TreeClaim}
use Rattle.discipline.proofs.machine.Filling.{once, still_filled}
use Rattle.discipline.proofs.machine.Binding.{ended_depth}
use Rattle.discipline.proofs.machine.Rewriting.{first_in_place}
use Rattle.discipline.proofs.machine.Rewritten.{mixed_length, element_to_come, Rewriting, pass_rewritten}
use Rattle.discipline.proofs.machine.Rewritten.{rewritten_together}
use Rattle.leaner.proofs.Beside.{Around, Here, Known}
use Rattle.leaner.proofs.Filling.{around_filling, around_roots, around_new}
use Rattle.leaner.proofs.Copiers.{line_roots}

-- i passes are done over the array, whose values were vs; what is carried is its own word
pub record Rewrite (C : Setting) (array : ℤ) (vs : List Value) (b : Around) (I : List ℕ) (ρ : Frame) (δ : Env) (n : ℕ)
    (σ : Store) (i : ℕ) (w : ℤ) (s : State) : Type 0 where
  pub value : Value
  pub meter : Meter
  pub together : Together C.start s meter
  pub between : Rewriting C w vs b.aside b.others b.roots b.lent I ρ δ n σ i value s.store
  pub is : w ≡ array

-- the array's cell is set aside
unfoldable pub here_rewriting : {C : Setting} {array : ℤ} {vs : List Value} {b : Around} {I : List ℕ} {ρ : Frame}
    {δ : Env} {n : ℕ} {σ : Store} {i : ℕ} {w : ℤ} {s : State} → Rewrite C array vs b I ρ δ n σ i w s →
    Here C (around_filling w b) I [] ρ n s
here_rewriting {δ = δ} f = record {
  values = δ;
  meter = f.meter;
  together = f.together;
  situation = f.between.passing.situation;
}

-- before the first pass nothing else refers to the array
unfoldable pub rewrite_begins : {C : Setting} {x z : ℕ} {v : Atom} {t : Tree} {a : Around} {S A : Set}
    {H P Δ : List ℕ} {ρ : Frame} {k : ℕ} {s : State} → CalleeGrows C.meant →
    LineRules C (loop x rewriting (z ∷ []) (v ∷ []) t) a.lent S A H P Δ → TreeClaim C t → C.need ≤ k →
    (q : Here C a H P ρ (suc (tree_adds t + k)) s) → (cell s.store (cell_of (word ρ v))).count ≡ 1 →
    Rewrite C (word ρ v) (items (value q.values v))
    (around_new (cell_of (word ρ v)) (around_roots (line_roots C.depths x z v t A a ρ) a))
    (less (given C (v ∷ [])) H) ρ q.values (tree_adds t + k) s.store 0 (word ρ v) s
rewrite_begins {C} {k = k} {s} grows rules claim need q alone = record {
  value = list [];
  meter = q.meter;
  together = q.together;
  between = first_in_place C grows rules claim k need s q.situation alone;
  is = refl;
}

-- the state once an element is overwritten
abbrev pub overwritten_state : ℤ → ℕ → ℤ → State → State
overwritten_state w i x s = with_store s (overwritten (cell_of w) i x s.store) (touching s.store (cell_of w))

module _ {C : Setting} {array : ℤ} {vs : List Value} {b : Around} {I : List ℕ} {ρ : Frame} {δ : Env} {n : ℕ} {σ : Store}
    {i : ℕ} {w : ℤ} {s : State} (f : Rewrite C array vs b I ρ δ n σ i w s) where
  -- the array's values now: the results so far, and the elements to come
  abbrev pub mixed : Value
  mixed = list (items f.value ++ drop i vs)

  pub mixed_stands : StandsFor s.store 1 array mixed
  mixed_stands = subst (λ (u : ℤ). StandsFor s.store 1 u mixed) f.is f.between.passing.filled

  module _ (within : i < length vs) where
    pub mixed_within : i < length (items mixed)
    mixed_within = omega (
      arith,
      within,
      ap length (items_list (items f.value ++ drop i vs)),
      mixed_length (items f.value) vs i f.between.many (omega (arith, within)),
    )

    pub mixed_element : get_or (items mixed) i (num (pos 0)) ≡ get_or vs i (num (pos 0))
    mixed_element = ap (λ (l : List Value). get_or l i (num (pos 0))) (items_list (items f.value ++ drop i vs))
        ∙ element_to_come (items f.value) vs i f.between.many (num (pos 0)) within

    -- the tree gave a number, which takes the place of the element
    module _ {e k : ℕ} (number : e ≡ 0) {u : ℤ} {s₁ : State}
        (known : Known (Ended C e s.store (cell_of w ∷ b.aside) b.others I ρ δ k) u s₁) where
      abbrev ended : Ended C 0 s.store (cell_of w ∷ b.aside) b.others I ρ δ k u s₁ known.value known.meter
      ended = ended_depth C number known.holds

      pub still_once : (cell s₁.store (cell_of w)).count ≡ 1
      still_once = once C 0 b.aside b.others b.roots b.lent I ρ δ n f.between.passing ended

      pub still_numbers : (cell s₁.store (cell_of w)).depth ≡ 0
      still_numbers = array_depth (still_filled C 0 b.aside b.others b.roots b.lent I ρ δ n
          f.between.passing ended)

      unfoldable pub rewrite_on : Rewrite C array vs b I ρ δ n σ (suc i) w (overwritten_state w i u s₁)
      unfolding with_store
      rewrite_on = record {
        value = with_item f.value known.value;
        meter = known.meter;
        together = rewritten_together C w vs b.aside b.others b.roots b.lent I ρ δ n f.between within
            ended;
        between = pass_rewritten C w vs b.aside b.others b.roots b.lent I ρ δ n f.between within ended;
        is = f.is;
      }
