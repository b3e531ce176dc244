-- A tree that fits and is scoped, with trees that are not too deep, is in form.
use Rattle.std.specs.Prelude.{ℕ, ◌≤◌, ◌<◌, pred, true, false, ◌≡◌, refl, List, [], ◌∷◌, map, eqb, length, get_or}
use Rattle.prelude.specs.Kit.{arith, false≢true, ◌∙◌, sym, ap, subst, inl, inr, some, none, Option, length-map}
use Rattle.prelude.specs.Kit.{eqb-true, leb-false}
use Rattle.semantics.specs.Kinds.{Leaf, operation, call, literal, index, length_of, iota, replicate, Loop, mapping}
use Rattle.semantics.specs.Kinds.{filtering, reducing, rewriting}
use Rattle.semantics.specs.Types.{same}
use Rattle.semantics.specs.Code.{Atom, number, name, Line, leaf, if_else, loop, retain, release, Tree, end, line}
use Rattle.semantics.specs.Code.{ending}
use Rattle.semantics.specs.Live.{Set, ◌∪◌, only, just}
use Rattle.semantics.specs.Annotate.{NameDepths, atom_depth, pass_depths}
use Rattle.semantics.specs.Machine.{Program}
use Rattle.laws.specs.Tests.{some_if_holds, same_lists}
use Rattle.discipline.proofs.machine.Discipline.{loop_arity, LeafFits, Fitting, LineFitting, Known, AllKnown, AllNew}
use Rattle.discipline.proofs.machine.Discipline.{known_after, Scoped, LineScoped}
use Rattle.lent_passing.specs.Reading.{SmallAtom, SmallAtoms, LoopFormed, LeafFormed, Formed, LineFormed}
use Rattle.lent_passing.specs.Fits.{or_cases}
use Rattle.lent_passing.specs.Skeletons.{Nested, LineNested}

-- a scope of names below 256
pub record Small (S : Set) : Type 0 where
  pub below : (y : ℕ) → S y ≡ true → y < 256

small_with : (S : Set) (x : ℕ) → Small S → x < 256 → Small (S ∪ only x)
small_with S x s h = record {
  below = λ y v. elim (or_cases (S y) (eqb x y) v) [
    | inl k ↦ s.below y k
    | inr k ↦ omega (arith, h, eqb-true x y k)
  ];
}

small_pass : (ps : List ℕ) (S R : Set) → Small S → AllNew ps R → Small (S ∪ just ps)
small_pass ps S R s h = record {
  below = λ y v. elim (or_cases (S y) (just ps y) v) [ inl k ↦ s.below y k | inr k ↦ among_small ps R y h k ];
}
  where
    among_small : (ps : List ℕ) (R : Set) (y : ℕ) → AllNew ps R → just ps y ≡ true → y < 256
    among_small [] R y h k = absurd (false≢true k)
    among_small (p ∷ ps) R y h k = elim (or_cases (eqb p y) (just ps y) k) [
      | inl e ↦ omega (arith, h.0.small, eqb-true p y e)
      | inr e ↦ among_small ps (R ∪ only p) y h.1 e
    ]

small_atom : (S : Set) (a : Atom) → Small S → Known a S → SmallAtom a
small_atom S (number z) s k = tt
small_atom S (name x) s k = s.below x k

small_atoms : (S : Set) (us : List Atom) → Small S → AllKnown us S → SmallAtoms us
small_atoms S [] s k = tt
small_atoms S (a ∷ us) s k = (small_atom S a s k.0, small_atoms S us s k.1)

pass_length : (k : Loop) (Γ : NameDepths) (us : List Atom) → length (pass_depths k Γ us) ≡ loop_arity k
pass_length mapping Γ us = refl
pass_length filtering Γ us = refl
pass_length reducing Γ us = refl
pass_length rewriting Γ us = refl

-- as many names as a pass has
one_name : (ps : List ℕ) (R : Set) → length ps ≡ 1 → AllNew ps R → LoopFormed mapping ps 1
one_name [] R e h = absurd (omega (arith, e))
one_name (p ∷ []) R e h = (h.0.small, refl)
one_name (p ∷ q ∷ ps) R e h = absurd (omega (arith, e))

two_names : (ps : List ℕ) (R : Set) → length ps ≡ 2 → AllNew ps R → LoopFormed reducing ps 2
two_names [] R e h = absurd (omega (arith, e))
two_names (p ∷ []) R e h = absurd (omega (arith, e))
two_names (p ∷ q ∷ []) R e h = ((h.0.small, h.1.0.small), refl)
two_names (p ∷ q ∷ r ∷ ps) R e h = absurd (omega (arith, e))

loop_formed : (k : Loop) (ps : List ℕ) (R : Set) → length ps ≡ loop_arity k → AllNew ps R →
    LoopFormed k ps (loop_arity k)
loop_formed mapping ps R e h = one_name ps R e h
loop_formed filtering ps R e h = one_name ps R e h
loop_formed reducing ps R e h = two_names ps R e h
loop_formed rewriting ps R e h = one_name ps R e h

-- the functions' lines say how many parameters they have
pub record Says (p : Program) (arities : List (Option ℕ)) : Type 0 where
  pub count : length arities ≡ length p.routines
  pub most : length arities ≤ 32
  pub arity : (f : ℕ) → f < length arities → get_or arities f none ≡ some (length (p.signatures f).parameters)

module _ (p : Program) (Γ : NameDepths) (arities : List (Option ℕ)) (says : Says p arities) where
  leaf_formed : (x : ℕ) (l : Leaf) (us : List Atom) → LeafFits p Γ x l us → LeafFormed arities l (length us)
  leaf_formed x (operation o) us f = f.limits
  leaf_formed x (call g) us f =
      let there : g < length arities = omega (arith, says.count, leb-false (length p.routines) g f.calls) in
      let e = (some_if_holds (same (p.signatures g).parameters (map (atom_depth Γ) us)) (p.signatures g).result (Γ x)
      f.gives).0 in
      let z : length (p.signatures g).parameters ≡ length us =
      ap length (same_lists (p.signatures g).parameters (map (atom_depth Γ) us) e) ∙ length-map us (atom_depth Γ) in
      (omega (arith, there, says.most), (there, says.arity g there ∙ ap (λ (n : ℕ). some n) z))
  leaf_formed x (literal d) us f = f.limits
  leaf_formed x index us f = f.limits
  leaf_formed x length_of us f = f.limits
  leaf_formed x iota us f = f.limits
  leaf_formed x replicate us f = f.limits

  small_after : (l : Line) (S : Set) → Small S → LineScoped l S → Small (known_after l S)
  small_after (leaf x l us) S s c = small_with S x s c.1.small
  small_after (if_else x g t e) S s c = small_with S x s c.1.small
  small_after (loop x k ps us t) S s c = small_with S x s c.1.small
  small_after (retain x) S s c = s
  small_after (release x) S s c = s

  mutual
    unfolding Nested

    pub tree_formed : (t : Tree) (d : ℕ) (S : Set) (n : ℕ) → Fitting p Γ t d → Scoped t S → Small S → Nested n t →
        Formed (LeafFormed arities) n t
    tree_formed (end a) d S n f c s h = (h, small_atom S a s c)
    tree_formed (line l t) d S n f c s h = (
      line_formed l S n f.0 c.0 s h.0,
      tree_formed t d (known_after l S) n f.1 c.1 (small_after l S s c.0) h.1,
    )

    line_formed : (l : Line) (S : Set) (n : ℕ) → LineFitting p Γ l → LineScoped l S → Small S → LineNested n l →
        LineFormed (LeafFormed arities) n l
    line_formed (leaf x l us) S n f c s h = (c.1.small, (small_atoms S us s c.0, leaf_formed x l us f))
    line_formed (if_else x g t e) S n f c s h = (
      c.1.small,
      (
        small_atom S g s c.0,
        (
          tree_formed t (Γ x) S (pred n) f.1 c.2 s h.0,
          tree_formed e (Γ x) S (pred n) f.2 c.3 s h.1,
        ),
      ),
    )
    line_formed (loop x k ps us t) S n f c s h =
        let z : length ps ≡ loop_arity k =
        sym (length-map ps Γ) ∙ ap length f.0.names ∙ pass_length k Γ us in (
          c.1.small,
          (
            small_atoms S us s c.0,
            (
              subst (LoopFormed k ps) (sym f.0.limits) (loop_formed k ps S z c.2),
              tree_formed t (atom_depth Γ (ending t)) (S ∪ just ps) (pred n) f.1 c.3
                  (small_pass ps S S s c.2) h,
            ),
          ),
        )
    line_formed (retain x) S n f c s h = s.below x c
    line_formed (release x) S n f c s h = s.below x c
