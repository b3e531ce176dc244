-- The normal form of an expression is nested, where the written names mean names below its first new one.
use Rattle.std.specs.Prelude.{ℕ, ◌≤◌, ◌+◌, ◌<◌, suc, true, false, Bool, cond, ◌&&◌, not, ◌≡◌, refl, List, [], ◌∷◌}
use Rattle.std.specs.Prelude.{eqb, length}
use Rattle.prelude.specs.Kit.{arith, ◌∙◌, ne_eqb}
use Rattle.semantics.specs.Basics.{updated}
use Rattle.semantics.specs.Syntax as S
use Rattle.semantics.specs.Syntax.{Expr, Exprs, Parameter, Function}
use Rattle.semantics.specs.Code as C
use Rattle.semantics.specs.Code.{Atom, Tree, end}
use Rattle.semantics.specs.Normal.{fresh, fresh_all, Meanings, atom, atoms, numbered, meaning_names, lines, all_lines}
use Rattle.semantics.specs.Normal.{normal, parameter_names, normal_body}
use Rattle.semantics.specs.Live.{Set, empty, is, just, among, ◌∪◌, ◌∖◌, ◌∖∖◌, live, uses}
use Rattle.annotate_laws.specs.Uses.{binds, neither, or_no, not_among}
use Rattle.annotate_laws.specs.Outer.{Inner, Nested}

-- no written name means z
abbrev pub Unmeant : Meanings → ℕ → Type 0
Unmeant μ z = (y : ℕ) → is (μ y) z ≡ false

-- the written names mean names below n
abbrev pub MeansBelow : Meanings → ℕ → Type 0
MeansBelow μ n = (z : ℕ) → n ≤ z → Unmeant μ z

-- ---- one name is not in a set

-- a name that means another atom
with_other : (μ : Meanings) (x : ℕ) (u : Atom) (z : ℕ) → Unmeant μ z → is u z ≡ false → Unmeant (updated μ x u) z
unfolding updated
with_other μ x u z m h = λ y. go y (eqb x y)
  where
    go : (y : ℕ) (b : Bool) → is (cond b u (μ y)) z ≡ false
    go y true = h
    go y false = m y

-- without a name, and without some
not_less : (a b : Bool) → (a ≡ false → b ≡ false) → not a && b ≡ false
not_less true b h = refl
not_less false b h = h refl

not_less_all : (ps : List ℕ) (A : Set) (z : ℕ) → (just ps z ≡ false → A z ≡ false) → (A ∖∖ ps) z ≡ false
not_less_all [] A z h = h refl
not_less_all (x ∷ ps) A z h =
    not_less (eqb x z) ((A ∖∖ ps) z) (λ g. not_less_all ps A z (λ k. h (neither (eqb x z) (just ps z) g k)))

-- ---- the names of a pass

unmeant_pass : (xs : List ℕ) (n : ℕ) (μ : Meanings) (z : ℕ) → Unmeant μ z → just (numbered xs n) z ≡ false →
    Unmeant (meaning_names xs n μ) z
unmeant_pass [] n μ z m h = m
unmeant_pass (x ∷ xs) n μ z m h =
    let k = or_no (eqb n z) (just (numbered xs (suc n)) z) h in
    unmeant_pass xs (suc n) (updated μ x (C.name n)) z (with_other μ x (C.name n) z m k.0) k.1

-- the names numbered from n on are neither below it nor past as many
numbered_from : (xs : List ℕ) (n z : ℕ) → z < n → just (numbered xs n) z ≡ false
numbered_from [] n z h = refl
numbered_from (x ∷ xs) n z h =
    neither (eqb n z) _ (ne_eqb n z (λ e. omega arith)) (numbered_from xs (suc n) z (omega arith))

numbered_to : (xs : List ℕ) (n z : ℕ) → n + length xs ≤ z → just (numbered xs n) z ≡ false
numbered_to [] n z h = refl
numbered_to (x ∷ xs) n z h =
    neither (eqb n z) _ (ne_eqb n z (λ e. omega arith)) (numbered_to xs (suc n) z (omega arith))

below_pass : (xs : List ℕ) (m : ℕ) (μ : Meanings) → MeansBelow μ m →
    MeansBelow (meaning_names xs (m + 1) μ) (m + (1 + length xs))
below_pass xs m μ b = λ z h. unmeant_pass xs (m + 1) μ z (b z (omega arith)) (numbered_to xs (m + 1) z (omega arith))

-- ---- atoms are numbered below the next new name

atom_below : (e : Expr) (μ : Meanings) (n : ℕ) → MeansBelow μ n → (z : ℕ) → n + fresh e ≤ z →
    is (atom e μ n) z ≡ false
unfolding atom fresh
atom_below (S.number v) μ n b z h = refl
atom_below (S.name x) μ n b z h = b z (omega arith) x
atom_below (S.let_in x e f) μ n b z h =
    atom_below f (updated μ x (atom e μ n)) (n + fresh e)
    (λ w g. with_other μ x (atom e μ n) w (b w (omega arith)) (atom_below e μ n b w g)) z (omega arith)
atom_below (S.leaf l es) μ n b z h = ne_eqb (n + fresh_all es) z (λ e. omega arith)
atom_below (S.if_else e f g) μ n b z h = ne_eqb (n + fresh e) z (λ e. omega arith)
atom_below (S.loop k xs es f) μ n b z h = ne_eqb (n + fresh_all es) z (λ e. omega arith)

below_let : (x : ℕ) (e : Expr) (μ : Meanings) (n : ℕ) → MeansBelow μ n →
    MeansBelow (updated μ x (atom e μ n)) (n + fresh e)
below_let x e μ n b = λ z h. with_other μ x (atom e μ n) z (b z (omega arith)) (atom_below e μ n b z h)

atoms_below : (es : Exprs) (μ : Meanings) (n : ℕ) → MeansBelow μ n → (z : ℕ) → n + fresh_all es ≤ z →
    among (atoms es μ n) empty z ≡ false
unfolding atom fresh among
atoms_below S.none μ n b z h = refl
atoms_below (S.more e es) μ n b z h =
    neither (is (atom e μ n) z) _ (atom_below e μ n b z (omega arith))
    (atoms_below es μ (n + fresh e) (λ w g. b w (omega arith)) z (omega arith))

-- ---- the lines of an expression use the names that the written ones mean, and what the tree after them uses

mutual
  unfolding lines live atom among

  outer : (e : Expr) (μ : Meanings) (n : ℕ) (k : Tree) (L : Set) (z : ℕ) → Unmeant μ z →
      (is (atom e μ n) z ≡ false → live k L z ≡ false) → live (lines e μ n k) L z ≡ false
  outer (S.number v) μ n k L z m h = h refl
  outer (S.name x) μ n k L z m h = h (m x)
  outer (S.let_in x a b) μ n k L z m h =
      outer a μ n _ L z m (λ f. outer b (updated μ x (atom a μ n)) (n + fresh a) k L z
      (with_other μ x (atom a μ n) z m f) h)
  outer (S.leaf l es) μ n k L z m h =
      all_outer es μ n _ L z m (λ f. not_among (atoms es μ n) _ z f
      (not_less (eqb (n + fresh_all es) z) (live k L z) h))
  outer (S.if_else a b c) μ n k L z m h =
      let q = n + fresh a in
      let A = live k L ∖ q in
      let i : A z ≡ false = not_less (eqb q z) (live k L z) h in
      outer a μ n _ L z m (λ f. neither (is (atom a μ n) z) _ f (neither _ _
      (outer b μ (q + 1) (end (atom b μ (q + 1))) A z m (λ g. neither _ (A z) g i))
      (outer c μ (q + 1 + fresh b) (end (atom c μ (q + 1 + fresh b))) A z m (λ g. neither _ (A z) g i))))
  outer (S.loop j xs es b) μ n k L z m h =
      let q = n + fresh_all es in
      let ν = meaning_names xs (q + 1) μ in
      let i = q + (1 + length xs) in
      all_outer es μ n _ L z m (λ f. not_among (atoms es μ n) _ z f (neither _ _
      (not_less_all (numbered xs (q + 1)) (uses (lines b ν i (end (atom b ν i)))) z
      (λ g. outer b ν i (end (atom b ν i)) empty z (unmeant_pass xs (q + 1) μ z m g) (λ o. neither _ false o refl)))
      (not_less (eqb q z) (live k L z) h)))

  all_outer : (es : Exprs) (μ : Meanings) (n : ℕ) (k : Tree) (L : Set) (z : ℕ) → Unmeant μ z →
      (among (atoms es μ n) empty z ≡ false → live k L z ≡ false) → live (all_lines es μ n k) L z ≡ false
  all_outer S.none μ n k L z m h = h refl
  all_outer (S.more e es) μ n k L z m h =
      outer e μ n _ L z m (λ f. all_outer es μ (n + fresh e) k L z m
      (λ g. h (neither (is (atom e μ n) z) _ f g)))

-- the tree of an expression uses only what the written names mean
pub normal_uses : (e : Expr) (μ : Meanings) (n z : ℕ) → Unmeant μ z → uses (normal e μ n) z ≡ false
unfolding normal live
normal_uses e μ n z m = outer e μ n (end (atom e μ n)) empty z m (λ h. neither _ false h refl)

-- ---- the names that lines bind are not below their first

mutual
  unfolding lines fresh binds

  above : (e : Expr) (μ : Meanings) (n : ℕ) (k : Tree) (z : ℕ) → z < n → binds (lines e μ n k) z ≡ binds k z
  above (S.number v) μ n k z h = refl
  above (S.name x) μ n k z h = refl
  above (S.let_in x a b) μ n k z h =
      above a μ n _ z h ∙ above b (updated μ x (atom a μ n)) (n + fresh a) k z (omega arith)
  above (S.leaf l es) μ n k z h = all_above es μ n _ z h ∙ rw (ne_eqb (n + fresh_all es) z (λ e. omega arith))
  above (S.if_else a b c) μ n k z h =
      above a μ n _ z h
      ∙ rw (
        ne_eqb (n + fresh a) z (λ e. omega arith),
        above b μ (n + fresh a + 1) (end (atom b μ (n + fresh a + 1))) z (omega arith),
        above c μ (n + fresh a + 1 + fresh b) (end (atom c μ (n + fresh a + 1 + fresh b))) z (omega arith),
      )
  above (S.loop j xs es b) μ n k z h =
      let q = n + fresh_all es in
      let ν = meaning_names xs (q + 1) μ in
      let i = q + (1 + length xs) in
      all_above es μ n _ z h
      ∙ rw (
        ne_eqb q z (λ e. omega arith),
        numbered_from xs (q + 1) z (omega arith),
        above b ν i (end (atom b ν i)) z (omega arith),
      )

  all_above : (es : Exprs) (μ : Meanings) (n : ℕ) (k : Tree) (z : ℕ) → z < n → binds (all_lines es μ n k) z ≡ binds
      k z
  all_above S.none μ n k z h = refl
  all_above (S.more e es) μ n k z h = above e μ n _ z h ∙ all_above es μ (n + fresh e) k z (omega arith)

-- the tree of an expression binds new names only
pub normal_binds : (e : Expr) (μ : Meanings) (n z : ℕ) → z < n → binds (normal e μ n) z ≡ false
unfolding normal binds
normal_binds e μ n z h = above e μ n (end (atom e μ n)) z h

-- ---- nested

-- a branch of an if whose line's name is q
branch_inner : (e : Expr) (μ : Meanings) (n q : ℕ) → MeansBelow μ q → q < n →
    Inner q (uses (normal e μ n)) (binds (normal e μ n))
branch_inner e μ n q b h = record {
  outer = λ z g. normal_uses e μ n z (b z g);
  inner = λ z g. normal_binds e μ n z (omega arith);
}

-- a loop whose line's name is q: its atoms are us, its tree that of e
pass_inner : (e : Expr) (xs : List ℕ) (us : List Atom) (μ : Meanings) (q : ℕ) → MeansBelow μ q →
    ((z : ℕ) → q ≤ z → among us empty z ≡ false) →
    Inner q
    (among us empty ∪ uses (normal e (meaning_names xs (q + 1) μ) (q + (1 + length xs))) ∖∖ numbered xs (q + 1))
    (just (numbered xs (q + 1)) ∪ binds (normal e (meaning_names xs (q + 1) μ) (q + (1 + length xs))))
pass_inner e xs us μ q b a = record {
  outer = λ z g. neither (among us empty z) _ (a z g) (not_less_all (numbered xs (q + 1)) _ z
      (λ h. normal_uses e _ _ z (unmeant_pass xs (q + 1) μ z (b z g) h)));
  inner = λ z g. neither (just (numbered xs (q + 1)) z) _ (numbered_from xs (q + 1) z (omega arith))
      (normal_binds e _ _ z (omega arith));
}

mutual
  unfolding lines fresh normal

  nested : (e : Expr) (μ : Meanings) (n : ℕ) (k : Tree) → MeansBelow μ n → Nested k → Nested (lines e μ n k)
  nested (S.number v) μ n k b r = r
  nested (S.name x) μ n k b r = r
  nested (S.let_in x e f) μ n k b r =
      nested e μ n _ b (nested f (updated μ x (atom e μ n)) (n + fresh e) k (below_let x e μ n b) r)
  nested (S.leaf l es) μ n k b r = all_nested es μ n _ b (tt, r)
  nested (S.if_else e f g) μ n k b r =
      let q = n + fresh e in
      nested e μ n _ b (
        (
          (
            branch_inner f μ (q + 1) q (λ z h. b z (omega arith)) (omega arith),
            nested f μ (q + 1) _ (λ z h. b z (omega arith)) tt,
          ),
          (
            branch_inner g μ (q + 1 + fresh f) q (λ z h. b z (omega arith)) (omega arith),
            nested g μ (q + 1 + fresh f) _ (λ z h. b z (omega arith)) tt,
          ),
        ),
        r,
      )
  nested (S.loop j xs es f) μ n k b r =
      let q = n + fresh_all es in
      let c : MeansBelow μ q = λ z h. b z (omega arith) in
      all_nested es μ n _ b (
        (
          pass_inner f xs (atoms es μ n) μ q c (atoms_below es μ n b),
          nested f (meaning_names xs (q + 1) μ) (q + (1 + length xs)) _ (below_pass xs q μ c) tt,
        ),
        r,
      )

  all_nested : (es : Exprs) (μ : Meanings) (n : ℕ) (k : Tree) → MeansBelow μ n → Nested k → Nested (all_lines es μ
      n k)
  all_nested S.none μ n k b r = r
  all_nested (S.more e es) μ n k b r =
      nested e μ n _ b (all_nested es μ (n + fresh e) k (λ z h. b z (omega arith)) r)

-- the tree of an expression is nested
pub normal_nested : (e : Expr) (μ : Meanings) (n : ℕ) → MeansBelow μ n → Nested (normal e μ n)
unfolding normal
normal_nested e μ n b = nested e μ n (end (atom e μ n)) b tt

-- ---- functions

-- the parameters are the names from n on
pub parameters_below : (xs : List Parameter) (n : ℕ) → MeansBelow (parameter_names xs n) (n + length xs)
unfolding parameter_names
parameters_below [] n = λ z h y. refl
parameters_below (x ∷ xs) n = λ z h.
    with_other (parameter_names xs (suc n)) x.id (C.name n) z (parameters_below xs (suc n) z (omega arith))
    (ne_eqb n z (λ e. omega arith))

-- the tree of every function's body is nested
pub body_nested : (g : Function) → Nested (normal_body g)
unfolding normal_body
body_nested g =
    normal_nested g.body (parameter_names g.parameters 0) (length g.parameters)
    (λ z h. parameters_below g.parameters 0 z (omega arith))
