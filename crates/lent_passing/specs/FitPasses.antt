-- A tree that fits and is scoped, and in which no name is bound twice, is accepted by `fit`.
use Rattle.std.specs.Prelude.{ℕ, ◌+◌, ◌<◌, suc, true, false, Bool, ◌&&◌, not, ◌≡◌, refl, ◌≢◌, List, [], ◌∷◌, ◌++◌}
use Rattle.std.specs.Prelude.{map, eqb, ltb, length}
use Rattle.prelude.specs.Kit.{arith, false≢true, true≢false, ◌∙◌, sym, ap, subst, inl, inr, some, Option, lt-ltb}
use Rattle.prelude.specs.Kit.{eq-eqb, eqb-true, not-true}
use Rattle.semantics.specs.Outcome.{Outcome, done, onward, ◌>>=◌, ◌>>◌, give, require}
use Rattle.semantics.specs.Kinds.{Leaf, Loop, mapping, filtering, reducing, rewriting}
use Rattle.semantics.specs.Types.{leaf_rule, loop_rule, is_none}
use Rattle.semantics.specs.Code.{Atom, number, name, Line, leaf, if_else, loop, retain, release, Tree, end, line}
use Rattle.semantics.specs.Code.{ending}
use Rattle.semantics.specs.Live.{Set, ◌∪◌, only, just}
use Rattle.semantics.specs.Annotate.{NameDepths, atom_depth, depth_of, pass_depths}
use Rattle.semantics.specs.Machine.{Program}
use Rattle.semantics_lent.specs.Form.{must}
use Rattle.semantics_lent.specs.Fit.{Bound, with_name, with_names, all_new, in_scope, all_in_scope, scope_after}
use Rattle.semantics_lent.specs.Fit.{is_looped, loop_gives, depth_or_fault, Fitted, fit_tree, fit_line}
use Rattle.discipline.proofs.machine.Discipline.{array_place, loop_arity, Fitting, LineFitting, Known, AllKnown, Scoped}
use Rattle.discipline.proofs.machine.Discipline.{LineScoped}
use Rattle.laws.specs.Updates.{updated_same}
use Rattle.laws.specs.Tests.{some_if_holds}
use Rattle.lent_passing.specs.Reading.{and_then}
use Rattle.lent_passing.specs.Fits.{both, or_right, or_cases, Inside, Alike, Grows, grows_trans, bound_with}
use Rattle.lent_passing.specs.Fits.{bound_again, atom_alike, atoms_alike, depth_alike, pass_alike}

-- a run ends with this answer
pub record Reaches {S A : Type 0} (a : A) (o : Outcome S A) : Type 0 where
  pub at : S
  pub is : o ≡ done a at

pub reach_then : {S A B : Type 0} (m : S → Outcome S A) (f : A → S → Outcome S B) (s : S) (a : A) (b : B) →
    Reaches a (m s) → ((t : S) → Reaches b (f a t)) → Reaches b (onward f (m s))
reach_then m f s a b h g =
    record { at = (g h.at).at; is = and_then m f s a h.at _ h.is (g h.at).is }

must_pass : (b : Bool) (q : ℕ) → b ≡ true → Reaches tt (must b q)
unfolding require
must_pass true q e = record { at = q; is = refl }
must_pass false q e = absurd (false≢true e)

depth_pass : (o : Option ℕ) (d q : ℕ) → o ≡ some d → Reaches d (depth_or_fault o q)
depth_pass o d q e = record { at = q; is = ap (λ (v : Option ℕ). depth_or_fault v q) e }

says_and : (a b : Bool) → a ≡ true → b ≡ true → (a && b) ≡ true
says_and true b e f = f
says_and false b e f = absurd (false≢true e)

says_not : (a : Bool) → a ≡ false → not a ≡ true
says_not true e = absurd (true≢false e)
says_not false e = refl

-- ---- names in scope

scoped_in : (S : Set) (a : Atom) → Known a S → in_scope S a ≡ true
scoped_in S (number z) k = refl
scoped_in S (name x) k = k

all_scoped_in : (S : Set) (us : List Atom) → AllKnown us S → all_in_scope S us ≡ true
all_scoped_in S [] k = refl
all_scoped_in S (a ∷ us) k = says_and _ _ (scoped_in S a k.0) (all_scoped_in S us k.1)

names_grow : (ps ds : List ℕ) (N : Bound) → all_new ps N.names ≡ true → Grows N (with_names ps ds N)
names_grow [] ds N h = record { names = λ y g. g; depths = λ y g. refl }
names_grow (x ∷ xs) [] N h = record { names = λ y g. g; depths = λ y g. refl }
names_grow (x ∷ xs) (d ∷ ds) N h =
    let b = both (not (N.names x)) (all_new xs (N.names ∪ only x)) h in
    grows_trans N (with_name x d N) (with_names xs ds (with_name x d N))
    (bound_with N x d (not-true (N.names x) b.0))
    (names_grow xs ds (with_name x d N) b.1)

module _ (Γ : NameDepths) where
  -- names bound with their depths
  names_in : (ps : List ℕ) (N : Bound) → all_new ps N.names ≡ true → (y : ℕ) → just ps y ≡ true →
      ((with_names ps (map Γ ps) N).names y ≡ true) × ((with_names ps (map Γ ps) N).depths y ≡ Γ y)
  names_in [] N h y g = absurd (false≢true g)
  names_in (x ∷ xs) N h y g =
      let b = both (not (N.names x)) (all_new xs (N.names ∪ only x)) h in
      let M = with_name x (Γ x) N in
      let w = names_grow xs (map Γ xs) M b.1 in
      elim (or_cases (eqb x y) (just xs y) g) [
        | inl e ↦
            let z = eqb-true x y e in
            let has : M.names y ≡ true = or_right (N.names y) (eqb x y) e in (
              w.names y has,
              w.depths y has ∙ ap (λ (v : ℕ). M.depths v) (sym z) ∙ updated_same N.depths x (Γ x)
                  ∙ ap Γ z,
            )
        | inr e ↦ names_in xs M b.1 y e
      ]

  -- ---- what is bound after a tree, and that nothing is bound twice

  unfoldable mutual
    pub after_tree : Tree → Bound → Bound
    after_tree (end a) N = N
    after_tree (line l t) N = after_tree t (after_line l N)

    pub after_line : Line → Bound → Bound
    after_line (leaf x l us) N = with_name x (Γ x) N
    after_line (if_else x g t e) N = with_name x (Γ x) (after_tree e (after_tree t (with_name x 0 N)))
    after_line (loop x k ps us t) N =
        with_name x (Γ x) (after_tree t (with_names ps (map Γ ps) (with_name x 0 N)))
    after_line (retain x) N = N
    after_line (release x) N = N

  unfoldable mutual
    pub Once : Tree → Bound → Type 0
    Once (end a) N = Unit {0}
    Once (line l t) N = LineOnce l N × Once t (after_line l N)

    pub LineOnce : Line → Bound → Type 0
    LineOnce (leaf x l us) N = N.names x ≡ false
    LineOnce (if_else x g t e) N =
        (N.names x ≡ false) × (Once t (with_name x 0 N) × Once e (after_tree t (with_name x 0 N)))
    LineOnce (loop x k ps us t) N =
        (all_new (x ∷ ps) N.names ≡ true) × Once t (with_names ps (map Γ ps) (with_name x 0 N))
    LineOnce (retain x) N = Unit {0}
    LineOnce (release x) N = Unit {0}

  mutual
    unfolding after_tree Once

    pub tree_grows : (t : Tree) (N : Bound) → Once t N → Grows N (after_tree t N)
    tree_grows (end a) N h = record { names = λ y g. g; depths = λ y g. refl }
    tree_grows (line l t) N h =
        grows_trans N (after_line l N) (after_tree t (after_line l N)) (line_grows l N h.0)
        (tree_grows t (after_line l N) h.1)

    pub line_grows : (l : Line) (N : Bound) → LineOnce l N → Grows N (after_line l N)
    line_grows (leaf x l us) N h = bound_with N x (Γ x) h
    line_grows (if_else x g t e) N h =
        let N₁ = with_name x 0 N in
        bound_again N (after_tree e (after_tree t N₁)) x (Γ x) h.0
        (grows_trans N N₁ (after_tree e (after_tree t N₁)) (bound_with N x 0 h.0)
        (grows_trans N₁ (after_tree t N₁) (after_tree e (after_tree t N₁)) (tree_grows t N₁ h.1.0)
        (tree_grows e (after_tree t N₁) h.1.1)))
    line_grows (loop x k ps us t) N h =
        let N₁ = with_name x 0 N in
        let N₂ = with_names ps (map Γ ps) N₁ in
        let b = both (not (N.names x)) (all_new ps (N.names ∪ only x)) h.0 in
        let new = not-true (N.names x) b.0 in
        bound_again N (after_tree t N₂) x (Γ x) new
        (grows_trans N N₁ (after_tree t N₂) (bound_with N x 0 new)
        (grows_trans N₁ N₂ (after_tree t N₂) (names_grow ps (map Γ ps) N₁ b.1) (tree_grows t N₂ h.1)))
    line_grows (retain x) N h = record { names = λ y g. g; depths = λ y g. refl }
    line_grows (release x) N h = record { names = λ y g. g; depths = λ y g. refl }

-- ---- lines and trees pass

loop_is : (k : Loop) (Δ : NameDepths) (us : List Atom) (e d : ℕ) → length us ≡ loop_arity k →
    0 < depth_of Δ us (array_place k) → loop_gives k Δ us e ≡ some d → is_looped k Δ us ≡ true
loop_is mapping Δ us e d n h g = lt-ltb 0 (depth_of Δ us 0) h
loop_is filtering Δ us e d n h g = lt-ltb 0 (depth_of Δ us 0) h
loop_is reducing Δ us e d n h g = lt-ltb 0 (depth_of Δ us 1) h
loop_is rewriting Δ [] e d n h g = absurd (omega (arith, n))
loop_is rewriting Δ (a ∷ []) e d n h g =
    (both (eqb (atom_depth Δ a) 1) (eqb e 0)
    (some_if_holds (eqb (atom_depth Δ a) 1 && eqb e 0) 1 d g).0).0
loop_is rewriting Δ (a ∷ b ∷ us) e d n h g = absurd (omega (arith, n))

not_none : (o : Option ℕ) (d : ℕ) → o ≡ some d → not (is_none o) ≡ true
not_none o d e = ap (λ (v : Option ℕ). not (is_none v)) e

module _ (p : Program) (Γ : NameDepths) where
  -- names in scope are bound, with their depths
  pub record Sees (S : Set) (N : Bound) : Type 0 where
    pub inside : Inside S N.names
    pub alike : Alike S N.depths Γ

  abbrev pub TreePasses : Tree → Type 0
  TreePasses t =
      (d : ℕ) → Fitting p Γ t d → (S : Set) → Scoped t S → (N : Bound) → Once Γ t N → Sees S N →
      (gives : ℕ → Bool) → gives d ≡ true → (q : ℕ) →
      Reaches (record { bound = after_tree Γ t N; depth = d }) (fit_tree p.signatures t gives S N q)

  abbrev pub LinePasses : Line → Type 0
  LinePasses l =
      LineFitting p Γ l → (S : Set) → LineScoped l S → (N : Bound) → LineOnce Γ l N → Sees S N → (q : ℕ) →
      Reaches (after_line Γ l N) (fit_line p.signatures l S N q)

  sees_more : (S : Set) (N M : Bound) → Grows N M → Sees S N → Sees S M
  sees_more S N M g v = record {
    inside = λ y h. g.names y (v.inside y h);
    alike = λ y h. v.alike y h ∙ sym (g.depths y (v.inside y h));
  }

  -- with the name of a line
  sees_bound : (S : Set) (N M : Bound) (x : ℕ) → Grows N (with_name x (Γ x) M) → Sees S N →
      Sees (S ∪ only x) (with_name x (Γ x) M)
  sees_bound S N M x g v =
      let w = sees_more S N (with_name x (Γ x) M) g v in
      record {
        inside = λ y h. elim (or_cases (S y) (eqb x y) h) [
          | inl e ↦ w.inside y e
          | inr e ↦ or_right (M.names y) (eqb x y) e
        ];
        alike = λ y h. elim (or_cases (S y) (eqb x y) h) [
          | inl e ↦ w.alike y e
          | inr e ↦
              let z = eqb-true x y e in
              ap Γ (sym z) ∙ sym (updated_same M.depths x (Γ x))
              ∙ ap (λ (u : ℕ). (with_name x (Γ x) M).depths u) z
        ];
      }

  depth_is : (S : Set) (N : Bound) → Sees S N → (a : Atom) → Known a S → atom_depth Γ a ≡ atom_depth N.depths a
  depth_is S N v a k = atom_alike S N.depths Γ v.alike a k

  leaf_passes : (x : ℕ) (l : Leaf) (us : List Atom) → LinePasses (leaf x l us)
  unfolding fit_tree onward after_tree Once
  leaf_passes x l us F S C N once v q =
      let Δ = N.depths in
      let o = leaf_rule p.signatures l (map (atom_depth Δ) us) in
      let b = all_in_scope S us && not (N.names x) in
      reach_then (must b) _ q tt _
      (must_pass b q (says_and _ _ (all_scoped_in S us C.0) (says_not (N.names x) once))) (λ t.
      reach_then (depth_or_fault o) _ t (Γ x) _
      (depth_pass o (Γ x) t
      (ap (leaf_rule p.signatures l) (sym (atoms_alike S Δ Γ v.alike us C.0)) ∙ F.gives))
      (λ u. record { at = u + suc (length us); is = refl }))

  retain_passes : (x : ℕ) → LinePasses (retain x)
  unfolding fit_tree onward after_tree
  retain_passes x F S C N once v q =
      let b = S x && ltb 0 (N.depths x) in
      reach_then (must b) _ q tt _
      (must_pass b q (says_and _ _ C (lt-ltb 0 (N.depths x) (omega (arith, F, v.alike x C)))))
      (λ t. record { at = t + 1; is = refl })

  release_passes : (x : ℕ) → LinePasses (release x)
  unfolding fit_tree onward after_tree
  release_passes x F S C N once v q =
      let b = S x && ltb 0 (N.depths x) in
      reach_then (must b) _ q tt _
      (must_pass b q (says_and _ _ C (lt-ltb 0 (N.depths x) (omega (arith, F, v.alike x C)))))
      (λ t. record { at = t + 1; is = refl })

  if_passes : (x : ℕ) (g : Atom) (t e : Tree) → TreePasses t → TreePasses e → LinePasses (if_else x g t e)
  unfolding fit_tree onward after_tree Once
  if_passes x g t e pass pass' F S C N once v q =
      let Δ = N.depths in
      let N₁ = with_name x 0 N in
      let b = in_scope S g && (eqb (atom_depth Δ g) 0 && not (N.names x)) in
      let n = bound_with N x 0 once.0 in
      let v₁ = sees_more S N N₁ n v in
      let v₂ = sees_more S N₁ (after_tree Γ t N₁) (tree_grows Γ t N₁ once.1.0) v₁ in
      reach_then (must b) _ q tt _
      (must_pass b q (says_and _ _ (scoped_in S g C.0) (says_and _ _
      (eq-eqb (atom_depth Δ g) 0 (sym (depth_is S N v g C.0) ∙ F.0)) (says_not (N.names x) once.0)))) (λ s.
      reach_then (fit_tree p.signatures t (λ _. true) S N₁) _ (s + 2)
      (record { bound = after_tree Γ t N₁; depth = Γ x }) _
      (pass (Γ x) F.1 S C.2 N₁ once.1.0 v₁ (λ _. true) refl (s + 2)) (λ s₁.
      reach_then (fit_tree p.signatures e (eqb (Γ x)) S (after_tree Γ t N₁)) _ s₁
      (record { bound = after_tree Γ e (after_tree Γ t N₁); depth = Γ x }) _
      (pass' (Γ x) F.2 S C.3 (after_tree Γ t N₁) once.1.1 v₂ (eqb (Γ x)) (eq-eqb (Γ x) (Γ x) refl) s₁)
      (λ s₂. record { at = s₂; is = refl })))

  loop_passes : (x : ℕ) (k : Loop) (ps : List ℕ) (us : List Atom) (t : Tree) → TreePasses t →
      LinePasses (loop x k ps us t)
  unfolding fit_tree onward after_tree Once
  loop_passes x k ps us t pass F S C N once v q =
      let Δ = N.depths in
      let N₁ = with_name x 0 N in
      let N₂ = with_names ps (map Γ ps) N₁ in
      let d = atom_depth Γ (ending t) in
      let b = all_in_scope S us && (is_looped k Δ us && all_new (x ∷ ps) N.names) in
      let gives : ℕ → Bool = λ e. not (is_none (loop_gives k Δ us e)) in
      let c = both (not (N.names x)) (all_new ps (N.names ∪ only x)) once.0 in
      let new = not-true (N.names x) c.0 in
      let al = v.alike in
      let given : loop_gives k Δ us d ≡ some (Γ x) =
      ap (λ (l : List ℕ). loop_rule k (l ++ (d ∷ []))) (sym (atoms_alike S Δ Γ al us C.0)) ∙ F.0.gives in
      let names : pass_depths k Δ us ≡ map Γ ps = sym (F.0.names ∙ pass_alike S Δ Γ al k us C.0) in
      let n = bound_with N x 0 new in
      let w = names_grow ps (map Γ ps) N₁ c.1 in
      let v₁ = sees_more S N N₂ (grows_trans N N₁ N₂ n w) v in
      let v₂ : Sees (S ∪ just ps) N₂ = record {
        inside = λ y h. joined S ps (λ z. N₂.names z ≡ true) v₁.inside (λ z r. (names_in Γ ps N₁ c.1 z r).0) y h;
        alike = λ y h. joined S ps (λ z. Γ z ≡ N₂.depths z) v₁.alike
            (λ z r. sym (names_in Γ ps N₁ c.1 z r).1) y h;
      } in
      reach_then (must b) _ q tt _
      (must_pass b q (says_and _ _ (all_scoped_in S us C.0) (says_and _ _
      (loop_is k Δ us d (Γ x) F.0.limits (omega (arith, F.0.deep, depth_alike S Δ Γ al us (array_place k) C.0))
      given) once.0))) (λ s.
      subst (λ (l : List ℕ). Reaches (with_name x (Γ x) (after_tree Γ t N₂))
      (onward (λ (A : Fitted).
      depth_or_fault (loop_gives k Δ us A.depth) >>= λ (e : ℕ). give (with_name x e A.bound))
      (fit_tree p.signatures t gives (S ∪ just ps) (with_names ps l N₁) (s + suc (length us))))) (sym names)
      (reach_then (fit_tree p.signatures t gives (S ∪ just ps) N₂) _ (s + suc (length us))
      (record { bound = after_tree Γ t N₂; depth = d }) _
      (pass d F.1 (S ∪ just ps) C.3 N₂ once.1 v₂ gives (not_none _ (Γ x) given) (s + suc (length us))) (λ s₁.
      reach_then (depth_or_fault (loop_gives k Δ us d)) _ s₁ (Γ x) _ (depth_pass _ (Γ x) s₁ given)
      (λ s₂. record { at = s₂; is = refl }))))
    where
      joined : (S : Set) (ps : List ℕ) (P : ℕ → Type 0) → ((y : ℕ) → S y ≡ true → P y) →
          ((y : ℕ) → just ps y ≡ true → P y) → (y : ℕ) → (S ∪ just ps) y ≡ true → P y
      joined S ps P a b y h = elim (or_cases (S y) (just ps y) h) [ inl g ↦ a y g | inr g ↦ b y g ]

  end_passes : (a : Atom) → TreePasses (end a)
  unfolding fit_tree onward after_tree
  end_passes a d F S C N once v gives h q =
      let e : atom_depth N.depths a ≡ d = sym (depth_is S N v a C) ∙ F in
      let b = in_scope S a && gives (atom_depth N.depths a) in
      reach_then (must b) _ q tt _
      (must_pass b q (says_and _ _ (scoped_in S a C) (ap gives e ∙ h)))
      (λ t. record { at = t + 2; is = ap (λ (k : ℕ). done (record { bound = N; depth = k }) (t + 2)) e })

  sees_line : (l : Line) (S : Set) (N : Bound) → LineOnce Γ l N → Sees S N → Sees (scope_after l S) (after_line Γ l N)
  unfolding after_tree Once
  sees_line (leaf x l us) S N once v = sees_bound S N N x (line_grows Γ (leaf x l us) N once) v
  sees_line (if_else x g t e) S N once v =
      sees_bound S N (after_tree Γ e (after_tree Γ t (with_name x 0 N))) x
      (line_grows Γ (if_else x g t e) N once) v
  sees_line (loop x k ps us t) S N once v =
      sees_bound S N (after_tree Γ t (with_names ps (map Γ ps) (with_name x 0 N))) x
      (line_grows Γ (loop x k ps us t) N once) v
  sees_line (retain x) S N once v = v
  sees_line (release x) S N once v = v

  line_then_passes : (l : Line) (t : Tree) → LinePasses l → TreePasses t → TreePasses (line l t)
  unfolding fit_tree onward after_tree Once
  line_then_passes l t pass pass' d F S C N once v gives h q =
      reach_then (fit_line p.signatures l S N) _ q (after_line Γ l N) _
      (pass F.0 S C.0 N once.0 v q) (λ s.
      pass' d F.1 (scope_after l S) C.1 (after_line Γ l N) once.1
      (sees_line l S N once.0 v) gives h s)

  mutual
    pub tree_passes : (t : Tree) → TreePasses t
    tree_passes (end a) = end_passes a
    tree_passes (line l t) = line_then_passes l t (line_passes l) (tree_passes t)

    line_passes : (l : Line) → LinePasses l
    line_passes (leaf x l us) = leaf_passes x l us
    line_passes (if_else x g t e) = if_passes x g t e (tree_passes t) (tree_passes e)
    line_passes (loop x k ps us t) = loop_passes x k ps us t (tree_passes t)
    line_passes (retain x) = retain_passes x
    line_passes (release x) = release_passes x
