-- What is tested before a line's trees, one law for each way out of the code.
use Rattle.prelude.specs.Kit.{ℕ, ◌≤◌, ◌<◌, ◌-◌, suc, zero, pred, arith, true, false, Bool, cond, ◌&&◌, not, false≢true}
use Rattle.prelude.specs.Kit.{◌||◌, ◌≡◌, refl, ◌∙◌, sym, ap, subst, fun_ext, List, [], ◌∷◌, map, eqb, ltb, ℤ, length}
use Rattle.prelude.specs.Kit.{get_or, take, get_or-take, and-true}
use Rattle.semantics.specs.Kinds.{Loop, mapping, filtering, reducing, rewriting}
use Rattle.semantics.specs.Code as C
use Rattle.semantics.specs.Live.{Set, ◌∪◌, only, just}
use Rattle.semantics.specs.Annotate.{NameDepths, atom_depth, depth_of, pass_depths}
use Rattle.semantics_lent.specs.Fit.{Bound, with_name, with_names, all_new, is_looped}
use Rattle.std.specs.Prelude.{Option as Optional, Some, None}
use Rattle.std.specs.Bool.{then_some}
use Rattle.lent_fit_lines.specs.Walk.{set_of, depths_of, bound_of, Opened, atoms_from, Gathered}
use Rattle.lent_fit_lines.specs.Walk.{loop_of, loop_count, pass_names, names_depths, goes_over, PassOpened}
use Rattle.lent_fit_lines.specs.Walk.{LoopOpened, loop_opens, told_first}

pub opened_as : {M N : Bound} {r : Bool} {b : List Bool} {g : List ℕ} (t u : Bool) → t ≡ u → M ≡ N → Opened t M r b g →
    Opened u N r b g
opened_as t u e f o = record { is = o.is ∙ e; gives = λ z. o.gives z ∙ f; long = o.long; deep = o.deep }

-- ---- the names of a pass

-- names that are opened
abbrev pub Passed : List ℕ → List ℕ → List Bool → List ℕ → List Bool → Bool → List Bool → List ℕ → List Bool → Type 0
Passed ps ds b g s = PassOpened (all_new ps (set_of b)) (with_names ps ds (bound_of b g)) (set_of s ∪ just ps)

-- one name
abbrev pub Named : ℕ → ℕ → List Bool → List ℕ → List Bool → Bool → List Bool → List ℕ → List Bool → Type 0
Named x d b g s =
    PassOpened (not (get_or b x false)) (with_name x d (bound_of b g)) (set_of s ∪ just (x ∷ []))

or_three : (a p q : Bool) → ((a || (p || false)) || (q || false)) ≡ (a || (p || (q || false)))
or_three true p q = refl
or_three false true q = refl
or_three false false q = refl

pub pass_two : (b : List Bool) (g : List ℕ) (s b' : List Bool) (g' : List ℕ) (s' : List Bool) {b'' : List Bool}
    {g'' : List ℕ} {s'' : List Bool} {r t : Bool} (y d z e : ℕ) →
    Named y d b g s r b' g' s' → r ≡ true → Named z e b' g' s' t b'' g'' s'' →
    Passed (y ∷ z ∷ []) (d ∷ e ∷ []) b g s t b'' g'' s''
pass_two b g s b' g' s' y d z e o f u =
    let N : bound_of b' g' ≡ with_name y d (bound_of b g) = o.opened.gives f in record {
      opened = opened_as (not (get_or b' z false)) _
          (ap (λ (M : Bound). not (M.names z)) N ∙ sym (and-true _)
          ∙ ap (λ (w : Bool). w && (not ((set_of b ∪ only y) z) && true)) (sym f ∙ o.opened.is))
          (ap (with_name z e) N) u.opened;
      scope = λ q. u.scope q ∙ ap (λ (U : Set). U ∪ just (z ∷ [])) (o.scope f)
          ∙ fun_ext (λ n. or_three (set_of s n) (eqb y n) (eqb z n));
      wide = u.wide;
    }

-- ---- loops

-- what was read of a loop's atoms
module _ (K : List ℕ) (O : List ℤ) (Γ : NameDepths) (q : ℕ) (k : Loop) (ds : List ℕ)
    (e : take (loop_count k) ds ≡ map (atom_depth Γ) (atoms_from K O (loop_count k) q)) where
  at_place : (i : ℕ) → i < loop_count k →
      get_or ds i 0 ≡ get_or (map (atom_depth Γ) (atoms_from K O (loop_count k) q)) i 0
  at_place i h = sym (get_or-take (loop_count k) ds i 0 h) ∙ ap (λ (l : List ℕ). get_or l i 0) e

pub first_is : (K : List ℕ) (O : List ℤ) (Γ : NameDepths) (q : ℕ) (k : Loop) (ds : List ℕ) →
    take (loop_count k) ds ≡ map (atom_depth Γ) (atoms_from K O (loop_count k) q) →
    get_or ds 0 0 ≡ depth_of Γ (atoms_from K O (loop_count k) q) 0
unfolding atoms_from
first_is K O Γ q mapping ds e = at_place K O Γ q mapping ds e 0 (omega arith)
first_is K O Γ q filtering ds e = at_place K O Γ q filtering ds e 0 (omega arith)
first_is K O Γ q reducing ds e = at_place K O Γ q reducing ds e 0 (omega arith)
first_is K O Γ q rewriting ds e = at_place K O Γ q rewriting ds e 0 (omega arith)

pub array_is : (K : List ℕ) (O : List ℤ) (Γ : NameDepths) (q : ℕ) (k : Loop) (ds : List ℕ) →
    take (loop_count k) ds ≡ map (atom_depth Γ) (atoms_from K O (loop_count k) q) →
    goes_over k (get_or ds (loop_count k - 1) 0) ≡ is_looped k Γ (atoms_from K O (loop_count k) q)
unfolding atoms_from
array_is K O Γ q mapping ds e = ap (ltb 0) (at_place K O Γ q mapping ds e 0 (omega arith))
array_is K O Γ q filtering ds e = ap (ltb 0) (at_place K O Γ q filtering ds e 0 (omega arith))
array_is K O Γ q reducing ds e = ap (ltb 0) (at_place K O Γ q reducing ds e 1 (omega arith))
array_is K O Γ q rewriting ds e = ap (λ (d : ℕ). eqb d 1) (at_place K O Γ q rewriting ds e 0 (omega arith))

less_one : (n m : ℕ) → n ≡ m → n - 1 ≡ pred m
less_one n zero e = let z : n - 1 ≡ 0 = omega (arith, e) in z
less_one n (suc m) e = let z : n - 1 ≡ m = omega (arith, e) in z

pub pass_is : (K : List ℕ) (O : List ℤ) (Γ : NameDepths) (q : ℕ) (k : Loop) (ds : List ℕ) →
    take (loop_count k) ds ≡ map (atom_depth Γ) (atoms_from K O (loop_count k) q) →
    names_depths k (get_or ds 0 0) (get_or ds (loop_count k - 1) 0 - 1)
    ≡ pass_depths k Γ (atoms_from K O (loop_count k) q)
unfolding atoms_from
pass_is K O Γ q mapping ds e = ap (λ (d : ℕ). d ∷ []) (less_one _ _ (at_place K O Γ q mapping ds e 0 (omega arith)))
pass_is K O Γ q filtering ds e = ap (λ (d : ℕ). d ∷ []) (less_one _ _ (at_place K O Γ q filtering ds e 0 (omega arith)))
pass_is K O Γ q reducing ds e =
    λ i. at_place K O Γ q reducing ds e 0 (omega arith) i
    ∷ less_one _ _ (at_place K O Γ q reducing ds e 1 (omega arith)) i ∷ []
pass_is K O Γ q rewriting ds e = ap (λ (d : ℕ). d ∷ []) (less_one _ _ (at_place K O Γ q rewriting ds e 0 (omega arith)))

module _ {k : Loop} {S : Set} {N : Bound} {us : List C.Atom} {x : ℕ} {ps : List ℕ} {b : List Bool} {g : List ℕ}
    {s : List Bool} where
  -- a loop that is not opened
  pub loop_closed : loop_opens k S N us x ps ≡ false → length b ≡ 256 → length g ≡ 256 → length s ≡ 256 →
      LoopOpened k S N us x ps None b g s
  loop_closed e l m w = record {
    is = ap (λ (t : Bool). told_first t (depth_of N.depths us 0)) (sym e);
    gives = λ z. absurd (false≢true (sym e ∙ z));
    scope = λ z. absurd (false≢true (sym e ∙ z));
    long = l;
    deep = m;
    wide = w;
  }

-- what was gathered, by the number of atoms
gathered_as : (S : Set) (Γ : NameDepths) (K : List ℕ) (O : List ℤ) (q : ℕ) {n : ℕ}
    (m : ℕ) {r : Optional (List ℕ)} →
    n ≡ m → Gathered S Γ (atoms_from K O n q) n r → Gathered S Γ (atoms_from K O m q) m r
gathered_as S Γ K O q m {r = r} e h =
    subst (λ (i : ℕ). Gathered S Γ (atoms_from K O i q) i r) e h

-- a loop of n atoms
module _ (K : List ℕ) (O : List ℤ) (S : Set) (b₀ : List Bool) (g₀ : List ℕ) (q : ℕ) (k : Loop) (x : ℕ)
    (ps : List ℕ) (n : ℕ) (count : n ≡ loop_count k) where
  abbrev us : List C.Atom
  us = atoms_from K O (loop_count k) q

  abbrev Opens : Bool
  Opens = loop_opens k S (bound_of b₀ g₀) us x ps

  module _ (ds : List ℕ) (found : Gathered S (depths_of g₀) (atoms_from K O n q) n (Some ds)) where
    read : Gathered S (depths_of g₀) us (loop_count k) (Some ds)
    read = gathered_as S (depths_of g₀) K O q (loop_count k) count found

    pub loop_flat : goes_over k (get_or ds (n - 1) 0) ≡ false → Opens ≡ false
    loop_flat f = rw (← read.is, ← array_is K O (depths_of g₀) q k ds read.depths.0, rw count at f)

    module _ (over : goes_over k (get_or ds (n - 1) 0) ≡ true) (y : ℕ) (e : y ≡ x) {t : Bool} {b : List Bool}
        {g : List ℕ} (opened : Opened (not (get_or b₀ y false)) (with_name y 0 (bound_of b₀ g₀)) t b g) where
      o : Opened (not (get_or b₀ x false)) (with_name x 0 (bound_of b₀ g₀)) t b g
      o = rw e at opened

      opens_new : Opens ≡ (t && all_new ps (set_of b₀ ∪ only x))
      opens_new = rw (
        ← read.is,
        ← array_is K O (depths_of g₀) q k ds read.depths.0,
        rw count at over,
        ← o.is,
      )

      pub loop_again : t ≡ false → Opens ≡ false
      loop_again f = opens_new ∙ rw f

      module _ (f : t ≡ true) (s : List Bool) {s' : List Bool} {u : Bool} {b' : List Bool} {g' : List ℕ}
          (passed : Passed ps (names_depths k (get_or ds 0 0) (get_or ds (n - 1) 0 - 1)) b g s u b' g' s') where
        p : Passed ps (names_depths k (get_or ds 0 0) (get_or ds (loop_count k - 1) 0 - 1)) b g s u b' g' s'
        p = rw count at passed

        opens_is : Opens ≡ u
        opens_is = opens_new ∙ ap (λ (v : Bool). v && all_new ps (set_of b₀ ∪ only x)) f
            ∙ ap (λ (M : Bound). all_new ps M.names) (sym (o.gives f)) ∙ sym p.opened.is

        pub loop_opened : S ≡ set_of s → LoopOpened k S (bound_of b₀ g₀) us x ps (then_some u (get_or ds 0 0)) b' g' s'
        loop_opened e = record {
          is = rw (first_is K O (depths_of g₀) q k ds read.depths.0, opens_is) (told u (depth_of (depths_of g₀) us 0));
          gives = λ z. p.opened.gives (sym opens_is ∙ z)
              ∙ ap
              (λ (M : Bound). with_names ps (names_depths k (get_or ds 0 0) (get_or ds (loop_count k - 1) 0 - 1)) M)
              (o.gives f)
              ∙ ap (λ (l : List ℕ). with_names ps l (with_name x 0 (bound_of b₀ g₀)))
              (pass_is K O (depths_of g₀) q k ds read.depths.0);
          scope = λ z. p.scope (sym opens_is ∙ z) ∙ ap (λ (U : Set). U ∪ just ps) (sym e);
          long = p.opened.long;
          deep = p.opened.deep;
          wide = p.wide;
        }
          where
            told : (v : Bool) (d : ℕ) → then_some v d ≡ told_first v d
            told true d = refl
            told false d = refl
