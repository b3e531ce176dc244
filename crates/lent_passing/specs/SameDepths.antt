-- The depths that `fit` finds of a script's names are the script's.
use Rattle.std.specs.Prelude.{ℕ, true, false, Bool, ◌||◌, ◌≡◌, refl, ◌≢◌, ◌⊎◌, List, [], ◌∷◌, map, eqb}
use Rattle.prelude.specs.Kit.{ℕ_discrete, false≢true, ◌∙◌, sym, ap, inl, inr, eqb-true, eqb-false}
use Rattle.semantics.specs.Basics.{updated}
use Rattle.semantics.specs.Code.{Line, leaf, if_else, loop, retain, release, Tree, end, line, ending}
use Rattle.semantics.specs.Live.{only, just}
use Rattle.semantics.specs.Annotate.{NameDepths, with_depths, pass_depths, tree_depths, line_depths, leaf_depth}
use Rattle.semantics.specs.Annotate.{loop_depth, atom_depth}
use Rattle.semantics_lent.specs.Fit.{Bound, with_name, with_names}
use Rattle.laws.specs.Updates.{updated_same, updated_other}
use Rattle.lent_passing.specs.Fits.{or_cases, neither}
use Rattle.lent_passing.specs.FitPasses.{after_tree, after_line}
use Rattle.lent_passing.specs.Skeletons.{binds, line_binds}

off_name : (x y : ℕ) → only x y ≡ false → x ≢ y
off_name x y e g = eqb-false x y e g

bool_cases : (b : Bool) → (b ≡ true) ⊎ (b ≡ false)
bool_cases true = inl refl
bool_cases false = inr refl

-- ---- what is bound after a tree

module _ (Γ : NameDepths) where
  -- a name bound with its depth
  with_here : (N : Bound) (x y : ℕ) → N.depths y ≡ Γ y → (with_name x (Γ x) N).depths y ≡ Γ y
  with_here N x y h = elim (ℕ_discrete x y) [
    | yes e ↦ ap (updated N.depths x (Γ x)) (sym e) ∙ updated_same N.depths x (Γ x) ∙ ap Γ e
    | no f ↦ updated_other N.depths x (Γ x) y f ∙ h
  ]

  with_it : (N : Bound) (x y : ℕ) → only x y ≡ true → (with_name x (Γ x) N).depths y ≡ Γ y
  with_it N x y h =
      let e = eqb-true x y h in
      ap (updated N.depths x (Γ x)) (sym e) ∙ updated_same N.depths x (Γ x) ∙ ap Γ e

  names_keep : (ps : List ℕ) (N : Bound) (y : ℕ) → N.depths y ≡ Γ y → (with_names ps (map Γ ps) N).depths y ≡ Γ y
  names_keep [] N y h = h
  names_keep (x ∷ xs) N y h = names_keep xs (with_name x (Γ x) N) y (with_here N x y h)

  names_it : (ps : List ℕ) (N : Bound) (y : ℕ) → just ps y ≡ true → (with_names ps (map Γ ps) N).depths y ≡ Γ y
  names_it [] N y h = absurd (false≢true h)
  names_it (x ∷ xs) N y h = elim (or_cases (eqb x y) (just xs y) h) [
    | inl e ↦ names_keep xs (with_name x (Γ x) N) y (with_it N x y e)
    | inr e ↦ names_it xs (with_name x (Γ x) N) y e
  ]

  names_off : (ps ds : List ℕ) (N : Bound) (y : ℕ) → just ps y ≡ false → (with_names ps ds N).depths y ≡ N.depths y
  names_off [] ds N y h = refl
  names_off (x ∷ xs) [] N y h = refl
  names_off (x ∷ xs) (d ∷ ds) N y h =
      let b = neither (eqb x y) (just xs y) h in
      names_off xs ds (with_name x d N) y b.1 ∙ updated_other N.depths x d y (off_name x y b.0)

  mutual
    unfolding after_tree binds

    -- a name that is not bound in a tree keeps its depth
    pub after_off : (t : Tree) (N : Bound) (y : ℕ) → binds t y ≡ false → (after_tree Γ t N).depths y ≡ N.depths y
    after_off (end a) N y h = refl
    after_off (line l t) N y h =
        let b = neither (line_binds l y) (binds t y) h in
        after_off t (after_line Γ l N) y b.1 ∙ line_off l N y b.0

    line_off : (l : Line) (N : Bound) (y : ℕ) → line_binds l y ≡ false → (after_line Γ l N).depths y ≡ N.depths y
    line_off (leaf x l us) N y h = updated_other N.depths x (Γ x) y (off_name x y h)
    line_off (if_else x g t e) N y h =
        let b = neither (only x y) (binds t y || binds e y) h in
        let c = neither (binds t y) (binds e y) b.1 in
        let M = with_name x 0 N in
        updated_other (after_tree Γ e (after_tree Γ t M)).depths x (Γ x) y (off_name x y b.0)
        ∙ after_off e (after_tree Γ t M) y c.1 ∙ after_off t M y c.0
        ∙ updated_other N.depths x 0 y (off_name x y b.0)
    line_off (loop x k ps us t) N y h =
        let b = neither (only x y) (just ps y || binds t y) h in
        let c = neither (just ps y) (binds t y) b.1 in
        let M = with_name x 0 N in
        let O = with_names ps (map Γ ps) M in
        updated_other (after_tree Γ t O).depths x (Γ x) y (off_name x y b.0)
        ∙ after_off t O y c.1 ∙ names_off ps (map Γ ps) M y c.0
        ∙ updated_other N.depths x 0 y (off_name x y b.0)
    line_off (retain x) N y h = refl
    line_off (release x) N y h = refl

  branches : (t e : Tree) (M : Bound) (y : ℕ) → (binds t y || binds e y) ≡ true →
      (binds t y ≡ true → (after_tree Γ t M).depths y ≡ Γ y) →
      (binds e y ≡ true → (after_tree Γ e (after_tree Γ t M)).depths y ≡ Γ y) →
      (after_tree Γ e (after_tree Γ t M)).depths y ≡ Γ y
  branches t e M y h one two = elim (bool_cases (binds e y)) [
    | inl k ↦ two k
    | inr k ↦ after_off e (after_tree Γ t M) y k ∙ one (elim (or_cases (binds t y) (binds e y) h) [
      | inl g ↦ g
      | inr g ↦ absurd (false≢true (sym k ∙ g))
    ])
  ]

  pass : (ps : List ℕ) (t : Tree) (M : Bound) (y : ℕ) → (just ps y || binds t y) ≡ true →
      (binds t y ≡ true → (after_tree Γ t (with_names ps (map Γ ps) M)).depths y ≡ Γ y) →
      (after_tree Γ t (with_names ps (map Γ ps) M)).depths y ≡ Γ y
  pass ps t M y h one = elim (bool_cases (binds t y)) [
    | inl k ↦ one k
    | inr k ↦ after_off t (with_names ps (map Γ ps) M) y k ∙ names_it ps M y
        (elim (or_cases (just ps y) (binds t y) h) [
          | inl g ↦ g
          | inr g ↦ absurd (false≢true (sym k ∙ g))
        ])
  ]

  mutual
    unfolding after_tree binds

    -- one that is has its own
    pub after_it : (t : Tree) (N : Bound) (y : ℕ) → binds t y ≡ true → (after_tree Γ t N).depths y ≡ Γ y
    after_it (end a) N y h = absurd (false≢true h)
    after_it (line l t) N y h = elim (bool_cases (binds t y)) [
      | inl e ↦ after_it t (after_line Γ l N) y e
      | inr e ↦ after_off t (after_line Γ l N) y e
          ∙ line_it l N y (elim (or_cases (line_binds l y) (binds t y) h) [
            | inl g ↦ g
            | inr g ↦ absurd (false≢true (sym e ∙ g))
          ])
    ]

    line_it : (l : Line) (N : Bound) (y : ℕ) → line_binds l y ≡ true → (after_line Γ l N).depths y ≡ Γ y
    line_it (leaf x l us) N y h = with_it N x y h
    line_it (if_else x g t e) N y h = elim (or_cases (only x y) (binds t y || binds e y) h) [
      | inl k ↦ with_it (after_tree Γ e (after_tree Γ t (with_name x 0 N))) x y k
      | inr k ↦ with_here (after_tree Γ e (after_tree Γ t (with_name x 0 N))) x y (branches t e (with_name x 0 N) y k
          (λ v. after_it t (with_name x 0 N) y v) (λ v. after_it e (after_tree Γ t (with_name x 0 N)) y v))
    ]
    line_it (loop x k ps us t) N y h = elim (or_cases (only x y) (just ps y || binds t y) h) [
      | inl g ↦ with_it (after_tree Γ t (with_names ps (map Γ ps) (with_name x 0 N))) x y g
      | inr g ↦ with_here (after_tree Γ t (with_names ps (map Γ ps) (with_name x 0 N))) x y
          (pass ps t (with_name x 0 N) y g (λ v. after_it t (with_names ps (map Γ ps) (with_name x 0 N)) y v))
    ]
    line_it (retain x) N y h = absurd (false≢true h)
    line_it (release x) N y h = absurd (false≢true h)

-- ---- the script's depths

depths_off : (ps ds : List ℕ) (Γ : NameDepths) (y : ℕ) → just ps y ≡ false → with_depths ps ds Γ y ≡ Γ y
depths_off [] ds Γ y h = refl
depths_off (x ∷ xs) [] Γ y h = refl
depths_off (x ∷ xs) (d ∷ ds) Γ y h =
    let b = neither (eqb x y) (just xs y) h in
    depths_off xs ds (updated Γ x d) y b.1 ∙ updated_other Γ x d y (off_name x y b.0)

module _ (results : ℕ → ℕ) where
  mutual
    unfolding tree_depths binds

    pub tree_off : (t : Tree) (Γ : NameDepths) (y : ℕ) → binds t y ≡ false → tree_depths results t Γ y ≡ Γ y
    tree_off (end a) Γ y h = refl
    tree_off (line l t) Γ y h =
        let b = neither (line_binds l y) (binds t y) h in
        tree_off t (line_depths results l Γ) y b.1 ∙ line_depths_off l Γ y b.0

    line_depths_off : (l : Line) (Γ : NameDepths) (y : ℕ) → line_binds l y ≡ false → line_depths results l Γ y ≡ Γ y
    line_depths_off (leaf x l us) Γ y h = updated_other Γ x (leaf_depth results l Γ us) y (off_name x y h)
    line_depths_off (if_else x g t e) Γ y h =
        let b = neither (only x y) (binds t y || binds e y) h in
        let c = neither (binds t y) (binds e y) b.1 in
        let Δ = tree_depths results e (tree_depths results t Γ) in
        updated_other Δ x (atom_depth Δ (ending t)) y (off_name x y b.0)
        ∙ tree_off e (tree_depths results t Γ) y c.1 ∙ tree_off t Γ y c.0
    line_depths_off (loop x k ps us t) Γ y h =
        let b = neither (only x y) (just ps y || binds t y) h in
        let c = neither (just ps y) (binds t y) b.1 in
        let Θ = with_depths ps (pass_depths k Γ us) Γ in
        let Δ = tree_depths results t Θ in
        updated_other Δ x (loop_depth k Δ us (ending t)) y (off_name x y b.0)
        ∙ tree_off t Θ y c.1 ∙ depths_off ps (pass_depths k Γ us) Γ y c.0
    line_depths_off (retain x) Γ y h = refl
    line_depths_off (release x) Γ y h = refl
