-- A tree that `fit` accepts fits, and is scoped.
use Rattle.std.specs.Prelude.{ℕ, ◌+◌, ◌<◌, suc, pred, true, false, Bool, ◌&&◌, not, ◌≡◌, refl, ◌⊎◌, List, [], ◌∷◌}
use Rattle.std.specs.Prelude.{◌++◌, map, eqb, ltb, length}
use Rattle.prelude.specs.Kit.{arith, ◌∙◌, sym, ap, subst, ap₂, inl, inr, some, none, Option, eq-eqb, eqb-true}
use Rattle.prelude.specs.Kit.{ltb-true, not-true, lt-leb}
use Rattle.semantics.specs.Outcome.{onward}
use Rattle.semantics.specs.Kinds.{Leaf, operation, call, literal, index, length_of, iota, replicate, Loop, mapping}
use Rattle.semantics.specs.Kinds.{filtering, reducing, rewriting}
use Rattle.semantics.specs.Names.{calls_none}
use Rattle.semantics.specs.Types.{leaf_rule, loop_rule, is_none}
use Rattle.semantics.specs.Code.{Atom, Line, leaf, if_else, loop, retain, release, Tree, end, line, ending}
use Rattle.semantics.specs.Live.{Set, ◌∪◌, only, just}
use Rattle.semantics.specs.Annotate.{NameDepths, atom_depth, depth_of, pass_depths}
use Rattle.semantics.specs.Machine.{Program}
use Rattle.semantics_lent.specs.Form.{must}
use Rattle.semantics_lent.specs.Fit.{Bound, with_name, with_names, all_new, in_scope, all_in_scope, scope_after}
use Rattle.semantics_lent.specs.Fit.{is_looped, loop_gives, depth_or_fault, Fitted, fit_tree, fit_line}
use Rattle.discipline.proofs.machine.Discipline.{LeafLimits, array_place, loop_arity, Fitting, LineFitting, Scoped}
use Rattle.discipline.proofs.machine.Discipline.{LineScoped}
use Rattle.laws.specs.Updates.{updated_same, updated_other}
use Rattle.lent_passing.specs.Ends.{Ends, ends_then, ends_more, ends_required}
use Rattle.lent_passing.specs.Reading.{Formed, LineFormed, LoopFormed}
use Rattle.lent_passing.specs.Said.{LeafCalls}
use Rattle.lent_passing.specs.Fits.{both, false_or, or_left, or_right, or_cases, not_both, neither, Inside, Grows}
use Rattle.lent_passing.specs.Fits.{grows_trans, Later, later_scope, Few, few_with, bound_with, bound_again}
use Rattle.lent_passing.specs.Fits.{with_has, inside_with, outside, known, all_known, atom_alike, atoms_alike}
use Rattle.lent_passing.specs.Fits.{depth_alike, pass_alike, names_with, pass_small, pass_count, all_are_new}
use Rattle.lent_passing.specs.Fits.{none_bound, map_alike}

depth_says : (o : Option ℕ) (q : ℕ) → Ends (λ (d s : ℕ). o ≡ some d) (depth_or_fault o q)
depth_says (some d) q = refl
depth_says none q = tt

leaf_limits : (n : ℕ) (l : Leaf) (m : ℕ) → LeafCalls n l m → LeafLimits l m
leaf_limits n (operation o) m h = h
leaf_limits n (call f) m h = tt
leaf_limits n (literal d) m h = h
leaf_limits n index m h = h
leaf_limits n length_of m h = h
leaf_limits n iota m h = h
leaf_limits n replicate m h = h

leaf_known : (n : ℕ) (l : Leaf) (m : ℕ) → LeafCalls n l m → calls_none n l ≡ false
leaf_known n (operation o) m h = refl
leaf_known n (call f) m h = lt-leb n f h
leaf_known n (literal d) m h = refl
leaf_known n index m h = refl
leaf_known n length_of m h = refl
leaf_known n iota m h = refl
leaf_known n replicate m h = refl

loop_atoms : (k : Loop) (ps : List ℕ) (n : ℕ) → LoopFormed k ps n → n ≡ loop_arity k
loop_atoms mapping ps n h = h.1
loop_atoms filtering ps n h = h.1
loop_atoms reducing ps n h = h.1
loop_atoms rewriting ps n h = h.1

loop_deep : (k : Loop) (Δ : NameDepths) (us : List Atom) → is_looped k Δ us ≡ true →
    0 < depth_of Δ us (array_place k)
loop_deep mapping Δ us h = ltb-true 0 (depth_of Δ us 0) h
loop_deep filtering Δ us h = ltb-true 0 (depth_of Δ us 0) h
loop_deep reducing Δ us h = ltb-true 0 (depth_of Δ us 1) h
loop_deep rewriting Δ us h = omega (arith, eqb-true (depth_of Δ us 0) 1 h)

module _ (p : Program) where
  abbrev count : ℕ
  count = length p.routines

  -- the depth that a tree gives is its end's
  ending_depth : (Γ : NameDepths) (t : Tree) (d : ℕ) → Fitting p Γ t d → atom_depth Γ (ending t) ≡ d
  unfolding ending
  ending_depth Γ (end a) d h = h
  ending_depth Γ (line l t) d h = ending_depth Γ t d h.1

  -- what is known of a tree that is accepted, and of a line
  pub record TreeFits (t : Tree) (gives : ℕ → Bool) (S : Set) (N : Bound) (A : Fitted) : Type 0 where
    pub grows : Grows N A.bound
    pub few : Few A.bound.depths
    pub given : gives A.depth ≡ true
    pub fits : (Γ : NameDepths) → Later S N A.bound Γ → Fitting p Γ t A.depth
    pub scoped : Scoped t S

  pub record LineFits (l : Line) (S : Set) (N M : Bound) : Type 0 where
    pub grows : Grows N M
    pub few : Few M.depths
    pub inside : Inside (scope_after l S) M.names
    -- what is in scope after the line was in scope before it, or is new
    pub since : (y : ℕ) → scope_after l S y ≡ true → (S y ≡ true) ⊎ (N.names y ≡ false)
    pub fits : (Γ : NameDepths) → Later S N M Γ → LineFitting p Γ l
    pub scoped : LineScoped l S

  abbrev pub TreeClaim : Tree → Type 0
  TreeClaim t =
      (levels : ℕ) → Formed (LeafCalls count) levels t → (gives : ℕ → Bool) (S : Set) (N : Bound) →
      Inside S N.names → Few N.depths → (q : ℕ) →
      Ends (λ (A : Fitted) (s : ℕ). TreeFits t gives S N A) (fit_tree p.signatures t gives S N q)

  abbrev pub LineClaim : Line → Type 0
  LineClaim l =
      (levels : ℕ) → LineFormed (LeafCalls count) levels l → (S : Set) (N : Bound) → Inside S N.names →
      Few N.depths → (q : ℕ) →
      Ends (λ (M : Bound) (s : ℕ). LineFits l S N M) (fit_line p.signatures l S N q)

  -- a name that a line binds
  since_with : (S : Set) (N : Bound) (x : ℕ) → N.names x ≡ false → (y : ℕ) → (S ∪ only x) y ≡ true →
      (S y ≡ true) ⊎ (N.names y ≡ false)
  since_with S N x new y h = elim (or_cases (S y) (eqb x y) h) [
    | inl g ↦ inl g
    | inr g ↦ inr (ap N.names (sym (eqb-true x y g)) ∙ new)
  ]

  end_claim : (a : Atom) → TreeClaim (end a)
  unfolding fit_tree onward
  end_claim a levels F gives S N i few q =
      let Δ = N.depths in
      let b = in_scope S a && gives (atom_depth Δ a) in
      ends_then (λ (u : Unit {0}) (s : ℕ). (b ≡ true) × (s ≡ q)) _ _ (must b q) (ends_required b 29 q) (λ u s h.
      let c = both (in_scope S a) (gives (atom_depth Δ a)) h.0 in
      record {
        grows = record { names = λ y g. g; depths = λ y g. refl };
        few = few;
        given = c.1;
        fits = λ Γ l. atom_alike S Δ Γ (λ y g. l y (i y g) (inl g)) a (known S a c.0);
        scoped = known S a c.0;
      })

  leaf_claim : (x : ℕ) (l : Leaf) (us : List Atom) → LineClaim (leaf x l us)
  unfolding fit_tree onward
  leaf_claim x l us levels F S N i few q =
      let Δ = N.depths in
      let b = all_in_scope S us && not (N.names x) in
      let o = leaf_rule p.signatures l (map (atom_depth Δ) us) in
      ends_then (λ (u : Unit {0}) (s : ℕ). (b ≡ true) × (s ≡ q)) _ _ (must b q) (ends_required b 29 q) (λ u s h.
      ends_then (λ (d s : ℕ). o ≡ some d) _ _ (depth_or_fault o s) (depth_says o s) (λ d s₁ e.
      let c = both (all_in_scope S us) (not (N.names x)) h.0 in
      let new = not-true (N.names x) c.1 in
      let M = with_name x d N in
      let g = bound_with N x d new in
      let k = all_known S us c.0 in
      record {
        grows = g;
        few = few_with Δ x d F.0 few;
        inside = inside_with S N x d i;
        since = since_with S N x new;
        fits = λ Γ l'. record {
          limits = leaf_limits count l (length us) F.1.1;
          calls = leaf_known count l (length us) F.1.1;
          gives = ap (leaf_rule p.signatures l) (atoms_alike S Δ Γ (later_scope S N M Γ i g l') us k) ∙ e
              ∙ ap (λ (d : ℕ). some d) (sym (l' x (with_has N x d) (inr new) ∙ updated_same Δ x d));
        };
        scoped = (k, record { unknown = outside S N.names x i new; small = F.0 });
      }))

  -- a retain or a release of an array in scope
  pub record NoteFits (x : ℕ) (S : Set) (N : Bound) : Type 0 where
    pub seen : S x ≡ true
    pub array : 0 < N.depths x

  note_says : (x : ℕ) (S : Set) (N : Bound) (q : ℕ) →
      Ends (λ (u : Unit {0}) (s : ℕ). NoteFits x S N) (must (S x && ltb 0 (N.depths x)) q)
  note_says x S N q =
      let b = S x && ltb 0 (N.depths x) in
      ends_more (λ (u : Unit {0}) (s : ℕ). (b ≡ true) × (s ≡ q)) (λ u s. NoteFits x S N) (must b q)
      (ends_required b 29 q) (λ u s h. record {
        seen = (both (S x) (ltb 0 (N.depths x)) h.0).0;
        array = ltb-true 0 (N.depths x) (both (S x) (ltb 0 (N.depths x)) h.0).1;
      })

  same_bound : (N : Bound) → Grows N N
  same_bound N = record { names = λ y g. g; depths = λ y g. refl }

  retain_claim : (x : ℕ) → LineClaim (retain x)
  unfolding fit_tree onward
  retain_claim x levels F S N i few q =
      ends_then (λ (u : Unit {0}) (s : ℕ). NoteFits x S N) _ _ (must (S x && ltb 0 (N.depths x)) q)
      (note_says x S N q) (λ u s h. record {
        grows = same_bound N;
        few = few;
        inside = i;
        since = λ y g. inl g;
        fits = λ Γ l. omega (arith, h.array, l x (i x h.seen) (inl h.seen));
        scoped = h.seen;
      })

  release_claim : (x : ℕ) → LineClaim (release x)
  unfolding fit_tree onward
  release_claim x levels F S N i few q =
      ends_then (λ (u : Unit {0}) (s : ℕ). NoteFits x S N) _ _ (must (S x && ltb 0 (N.depths x)) q)
      (note_says x S N q) (λ u s h. record {
        grows = same_bound N;
        few = few;
        inside = i;
        since = λ y g. inl g;
        fits = λ Γ l. omega (arith, h.array, l x (i x h.seen) (inl h.seen));
        scoped = h.seen;
      })

  -- ---- trees within lines

  -- A name x is bound before some trees and has its depth after them: a table that is later for the whole is later for
  -- a tree, which goes from N₁ to A in the scope S₁, where x is not in that scope and is bound by N₁.
  later_inner : (S S₁ : Set) (N N₁ A B : Bound) (x d : ℕ) (Γ : NameDepths) → N₁.names x ≡ true →
      S₁ x ≡ false → Grows A B →
      ((y : ℕ) → (S₁ y ≡ true) ⊎ (N₁.names y ≡ false) → (S y ≡ true) ⊎ (N.names y ≡ false)) →
      Later S N (with_name x d B) Γ → Later S₁ N₁ A Γ
  later_inner S S₁ N N₁ A B x d Γ bound off g out l y h c =
      l y (or_left (B.names y) (eqb x y) (g.names y h)) (out y c)
      ∙ updated_other B.depths x d y (λ e. apart e c) ∙ g.depths y h
    where
      apart : x ≡ y → (S₁ y ≡ true) ⊎ (N₁.names y ≡ false) → ⊥
      apart e (inl k) = not_both (S₁ y) k (ap S₁ (sym e) ∙ off)
      apart e (inr k) = not_both (N₁.names y) (ap N₁.names (sym e) ∙ bound) k

  if_claim : (x : ℕ) (g : Atom) (t e : Tree) → TreeClaim t → TreeClaim e → LineClaim (if_else x g t e)
  unfolding fit_tree onward
  if_claim x g t e claim claim' levels F S N i few q =
      let Δ = N.depths in
      let b = in_scope S g && (eqb (atom_depth Δ g) 0 && not (N.names x)) in
      let N₁ = with_name x 0 N in
      ends_then (λ (u : Unit {0}) (s : ℕ). (b ≡ true) × (s ≡ q)) _ _ (must b q) (ends_required b 29 q) (λ u s h.
      let c = both (in_scope S g) (eqb (atom_depth Δ g) 0 && not (N.names x)) h.0 in
      let c' = both (eqb (atom_depth Δ g) 0) (not (N.names x)) c.1 in
      let new = not-true (N.names x) c'.1 in
      let n = bound_with N x 0 new in
      let few₁ = few_with Δ x 0 F.0 few in
      let k = known S g c.0 in
      let off = outside S N.names x i new in
      ends_then (λ (A : Fitted) (s : ℕ). TreeFits t (λ _. true) S N₁ A) _ _
      (fit_tree p.signatures t (λ _. true) S N₁ (s + 2))
      (claim (pred levels) F.1.1.0 (λ _. true) S N₁ (λ y j. n.names y (i y j)) few₁ (s + 2)) (λ A s₁ fa.
      ends_then (λ (B : Fitted) (s : ℕ). TreeFits e (eqb A.depth) S A.bound B) _ _
      (fit_tree p.signatures e (eqb A.depth) S A.bound s₁)
      (claim' (pred levels) F.1.1.1 (eqb A.depth) S A.bound
      (λ y j. fa.grows.names y (n.names y (i y j))) fa.few s₁) (λ B s₂ fb.
      let M = with_name x B.depth B.bound in
      let ng = grows_trans N N₁ B.bound n (grows_trans N₁ A.bound B.bound fa.grows fb.grows) in
      let gm = bound_again N B.bound x B.depth new ng in
      record {
        grows = gm;
        few = few_with B.bound.depths x B.depth F.0 fb.few;
        inside = inside_with S B.bound x B.depth (λ y j. ng.names y (i y j));
        since = since_with S N x new;
        fits = λ Γ l.
            let deep : Γ x ≡ B.depth = l x (with_has B.bound x B.depth) (inr new)
            ∙ updated_same B.bound.depths x B.depth in
            let out₁ : (y : ℕ) → (S y ≡ true) ⊎ (N₁.names y ≡ false) → (S y ≡ true) ⊎ (N.names y ≡ false) =
            λ y c. out N N₁ n y c in
            let out₂ : (y : ℕ) → (S y ≡ true) ⊎ (A.bound.names y ≡ false) → (S y ≡ true) ⊎ (N.names y ≡ false) =
            λ y c. out N A.bound (grows_trans N N₁ A.bound n fa.grows) y c in (
              atom_alike S Δ Γ (later_scope S N M Γ i gm l) g k ∙ eqb-true (atom_depth Δ g) 0 c'.0,
              subst (Fitting p Γ t) (eqb-true A.depth B.depth fb.given ∙ sym deep)
                  (fa.fits Γ (later_inner S S N N₁ A.bound B.bound x B.depth Γ (with_has N x 0) off
                  fb.grows out₁ l)),
              subst (Fitting p Γ e) (sym deep)
                  (fb.fits Γ (later_inner S S N A.bound B.bound B.bound x B.depth Γ
                  (fa.grows.names x (with_has N x 0)) off (same_bound B.bound) out₂ l)),
            );
        scoped = (k, record { unknown = off; small = F.0 }, fa.scoped, fb.scoped);
      })))
    where
      out : (N M : Bound) → Grows N M → (y : ℕ) → (S y ≡ true) ⊎ (M.names y ≡ false) →
          (S y ≡ true) ⊎ (N.names y ≡ false)
      out N M g y (inl k) = inl k
      out N M g y (inr k) = inr (outside N.names M.names y g.names k)

  loop_claim : (x : ℕ) (k : Loop) (ps : List ℕ) (us : List Atom) (t : Tree) → TreeClaim t → LineClaim (loop x k ps us t)
  unfolding fit_tree onward
  loop_claim x k ps us t claim levels F S N i few q =
      let Δ = N.depths in
      let b = all_in_scope S us && (is_looped k Δ us && all_new (x ∷ ps) N.names) in
      let ds = pass_depths k Δ us in
      let N₁ = with_name x 0 N in
      let N₂ = with_names ps ds N₁ in
      let gives : ℕ → Bool = λ e. not (is_none (loop_gives k Δ us e)) in
      ends_then (λ (u : Unit {0}) (s : ℕ). (b ≡ true) × (s ≡ q)) _ _ (must b q) (ends_required b 29 q) (λ u s h.
      let c = both (all_in_scope S us) (is_looped k Δ us && all_new (x ∷ ps) N.names) h.0 in
      let c' = both (is_looped k Δ us) (all_new (x ∷ ps) N.names) c.1 in
      let c'' = both (not (N.names x)) (all_new ps (N.names ∪ only x)) c'.1 in
      let new = not-true (N.names x) c''.0 in
      let n = bound_with N x 0 new in
      let small = pass_small k ps (length us) F.1.1.0 in
      let w = names_with ps ds N₁ (pass_count k ps (length us) Δ us F.1.1.0) small c''.1 in
      let n₂ = grows_trans N N₁ N₂ n w.grows in
      let kn = all_known S us c.0 in
      let off = outside S N.names x i new in
      let S₁ = S ∪ just ps in
      let in₁ : Inside S₁ N₂.names = λ y j. joined S ps N₂.names (λ z v. n₂.names z (i z v)) w.has y j in
      ends_then (λ (A : Fitted) (s : ℕ). TreeFits t gives S₁ N₂ A) _ _
      (fit_tree p.signatures t gives S₁ N₂ (s + suc (length us)))
      (claim (pred levels) F.1.1.1 gives S₁ N₂ in₁ (w.few (few_with Δ x 0 F.0 few)) (s + suc (length us)))
      (λ A s₁ fa.
      let o = loop_gives k Δ us A.depth in
      ends_then (λ (d s : ℕ). o ≡ some d) _ _ (depth_or_fault o s₁) (depth_says o s₁) (λ d s₂ e.
      let M = with_name x d A.bound in
      let ng = grows_trans N N₂ A.bound n₂ fa.grows in
      let gm = bound_again N A.bound x d new ng in
      let off₁ : S₁ x ≡ false = apart_from S ps x off (λ v. not_both ((N.names ∪ only x) x)
      (or_right (N.names x) (eqb x x) (eq-eqb x x refl)) (none_bound ps (N.names ∪ only x) x c''.1 v)) in
      let out₁ : (y : ℕ) → (S₁ y ≡ true) ⊎ (N₂.names y ≡ false) → (S y ≡ true) ⊎ (N.names y ≡ false) =
      λ y v. out S ps N N₂ n₂ (λ z r. (neither (N.names z) (eqb x z)
      (none_bound ps (N.names ∪ only x) z c''.1 r)).0) y v in
      record {
        grows = gm;
        few = few_with A.bound.depths x d F.0 fa.few;
        inside = inside_with S A.bound x d (λ y j. ng.names y (i y j));
        since = since_with S N x new;
        fits = λ Γ l.
            let deep : Γ x ≡ d = l x (with_has A.bound x d) (inr new) ∙ updated_same A.bound.depths x d in
            let al = later_scope S N M Γ i gm l in
            let inner = later_inner S S₁ N N₂ A.bound A.bound x d Γ
            (w.grows.names x (with_has N x 0)) off₁ (same_bound A.bound) out₁ l in
            let ft = fa.fits Γ inner in
            let en = ending_depth Γ t A.depth ft in (
              record {
                limits = loop_atoms k ps (length us) F.1.1.0;
                deep = omega (arith, loop_deep k Δ us c'.0, depth_alike S Δ Γ al us (array_place k) kn);
                names = map_alike ps Γ N₂.depths (λ y v. inner y (fa.grows.names y (w.has y v))
                    (inl (or_right (S y) (just ps y) v)) ∙ fa.grows.depths y (w.has y v))
                    ∙ w.gives ∙ sym (pass_alike S Δ Γ al k us kn);
                gives = ap₂ (λ (l : List ℕ) (j : ℕ). loop_rule k (l ++ (j ∷ []))) (atoms_alike S Δ Γ al us kn) en ∙ e
                    ∙ ap (λ (j : ℕ). some j) (sym deep);
              },
              subst (Fitting p Γ t) (sym en) ft,
            );
        scoped = (
          kn,
          record { unknown = off; small = F.0 },
          all_are_new ps S (N.names ∪ only x) (λ y j. or_left (N.names y) (eqb x y) (i y j)) small c''.1,
          fa.scoped,
        );
      })))
    where
      joined : (S : Set) (ps : List ℕ) (B : Set) → Inside S B → Inside (just ps) B → Inside (S ∪ just ps) B
      joined S ps B a b y h = elim (or_cases (S y) (just ps y) h) [ inl g ↦ a y g | inr g ↦ b y g ]

      apart_from : (S : Set) (ps : List ℕ) (x : ℕ) → S x ≡ false → (just ps x ≡ true → ⊥) → (S ∪ just ps) x ≡ false
      apart_from S ps x e f = false_or ((S ∪ just ps) x) (λ h. elim (or_cases (S x) (just ps x) h) [
        | inl g ↦ not_both (S x) g e
        | inr g ↦ f g
      ])

      out : (S : Set) (ps : List ℕ) (N M : Bound) → Grows N M → ((z : ℕ) → just ps z ≡ true → N.names z ≡ false) →
          (y : ℕ) → ((S ∪ just ps) y ≡ true) ⊎ (M.names y ≡ false) → (S y ≡ true) ⊎ (N.names y ≡ false)
      out S ps N M g off y (inl k) = elim (or_cases (S y) (just ps y) k) [ inl h ↦ inl h | inr h ↦ inr (off y h) ]
      out S ps N M g off y (inr k) = inr (outside N.names M.names y g.names k)

  -- ---- all trees

  line_then : (l : Line) (t : Tree) → LineClaim l → TreeClaim t → TreeClaim (line l t)
  unfolding fit_tree onward
  line_then l t claim claim' levels F gives S N i few q =
      ends_then (λ (M : Bound) (s : ℕ). LineFits l S N M) _ _ (fit_line p.signatures l S N q)
      (claim levels F.0 S N i few q) (λ M s fl.
      let S' = scope_after l S in
      ends_more (λ (A : Fitted) (s : ℕ). TreeFits t gives S' M A) (λ A s. TreeFits (line l t) gives S N A)
      (fit_tree p.signatures t gives S' M s) (claim' levels F.1 gives S' M fl.inside fl.few s)
      (λ A s₁ ft. record {
        grows = grows_trans N M A.bound fl.grows ft.grows;
        few = ft.few;
        given = ft.given;
        fits = λ Γ later. (
          fl.fits Γ (λ y h c. later y (ft.grows.names y h) c ∙ ft.grows.depths y h),
          ft.fits Γ (λ y h c. later y h (since S' M fl.grows fl.since y c)),
        );
        scoped = (fl.scoped, ft.scoped);
      }))
    where
      since : (S' : Set) (M : Bound) → Grows N M →
          ((y : ℕ) → S' y ≡ true → (S y ≡ true) ⊎ (N.names y ≡ false)) → (y : ℕ) →
          (S' y ≡ true) ⊎ (M.names y ≡ false) → (S y ≡ true) ⊎ (N.names y ≡ false)
      since S' M g f y (inl k) = f y k
      since S' M g f y (inr k) = inr (outside N.names M.names y g.names k)

  mutual
    pub tree_fits : (t : Tree) → TreeClaim t
    tree_fits (end a) = end_claim a
    tree_fits (line l t) = line_then l t (line_fits l) (tree_fits t)

    line_fits : (l : Line) → LineClaim l
    line_fits (leaf x l us) = leaf_claim x l us
    line_fits (if_else x g t e) = if_claim x g t e (tree_fits t) (tree_fits e)
    line_fits (loop x k ps us t) = loop_claim x k ps us t (tree_fits t)
    line_fits (retain x) = retain_claim x
    line_fits (release x) = release_claim x
