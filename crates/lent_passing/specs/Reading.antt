-- `form` reads back what `rows` writes.
use Rattle.std.specs.Prelude.{ℕ, ◌≤◌, ◌+◌, ◌<◌, suc, zero, ◌*◌, pred, ◌≡◌, refl, List, [], ◌∷◌, ◌++◌, map, pos}
use Rattle.std.specs.Prelude.{length, get_or, drop}
use Rattle.prelude.specs.Kit.{arith, ◌∙◌, sym, ap, some, none, Option, lt-ltb}
use Rattle.semantics.specs.Outcome.{Outcome, done, Run, onward}
use Rattle.semantics.specs.Number.{sum, difference, less}
use Rattle.semantics.specs.Kinds.{Leaf, operation, call, literal, index, length_of, iota, replicate, Loop, mapping}
use Rattle.semantics.specs.Kinds.{filtering, reducing, rewriting, leaf_kind, leaf_operand, loop_kind, packed_names}
use Rattle.semantics.specs.Code as C
use Rattle.semantics.specs.Code.{Atom, number, name, Line, leaf, if_else, loop, retain, release, Tree, end, line, Row}
use Rattle.semantics.specs.Code.{row, atom_row}
use Rattle.semantics_lent.specs.Form.{first_limits, second_limits, Parts, parts_of, named, as_atom, no_atom, seen_as}
use Rattle.semantics_lent.specs.Form.{atoms_before, and_atom, leaf_line, loop_line, form_of}
use Rattle.lent_passing.specs.Operands.{parts_read}

-- a run whose first part ends
pub and_then : {S A B : Type 0} (m : Run S A) (f : A → Run S B) (s : S) (a : A) (t : S) (o : Outcome S B) →
    m s ≡ done a t → f a t ≡ o → onward f (m s) ≡ o
unfolding onward
and_then m f s a t o e g = ap (onward f) e ∙ g

-- ---- rows

abbrev pub SmallAtom : Atom → Type 0
SmallAtom (number z) = Unit {0}
SmallAtom (name x) = x < 256

abbrev pub SmallAtoms : List Atom → Type 0
SmallAtoms [] = Unit {0}
SmallAtoms (a ∷ us) = SmallAtom a × SmallAtoms us

-- some rows do not begin with an atom
abbrev pub NoAtom : List Row → Type 0
NoAtom [] = Unit {0}
NoAtom (r ∷ rs) = seen_as r ≡ no_atom

seen_atom : (a : Atom) → SmallAtom a → seen_as (atom_row a) ≡ as_atom a
seen_atom (number z) h = refl
seen_atom (name x) h =
    ap named (parts_read 3 x x 0 0 (omega arith) h (omega arith) (omega arith) (omega arith) (omega arith))

pub atoms_read : (us : List Atom) (rest : List Row) → SmallAtoms us → NoAtom rest →
    atoms_before (map atom_row us ++ rest) ≡ some us
unfolding atoms_before
atoms_read [] [] h g = refl
atoms_read [] (r ∷ rest) h g = rw (g, atoms_before) refl
atoms_read (a ∷ us) rest h g = rw (seen_atom a h.0, atoms_before) (ap (and_atom a) (atoms_read us rest h.1 g))

-- rows from a position on
pub drop_within : {A : Type 0} (l : List A) (p : ℕ) (r : A) (rs : List A) → drop p l ≡ r ∷ rs → p < length l
drop_within [] zero r rs e = absurd (omega (arith, ap length e))
drop_within [] (suc p) r rs e = absurd (omega (arith, ap length e))
drop_within (a ∷ l) zero r rs e = omega arith
drop_within (a ∷ l) (suc p) r rs e = omega (arith, drop_within l p r rs e)

first_is : {A : Type 0} (a b : A) (l m : List A) → a ∷ l ≡ b ∷ m → a ≡ b
first_is a b l m e = ap (λ (k : List _). get_or k 0 a) e

rest_is : {A : Type 0} (a b : A) (l m : List A) → a ∷ l ≡ b ∷ m → l ≡ m
rest_is a b l m e = ap (λ (k : List _). drop 1 k) e

pub drop_first : {A : Type 0} (l : List A) (p : ℕ) (d r : A) (rs : List A) → drop p l ≡ r ∷ rs → get_or l p d ≡ r
drop_first [] zero d r rs e = absurd (omega (arith, ap length e))
drop_first [] (suc p) d r rs e = absurd (omega (arith, ap length e))
drop_first (a ∷ l) zero d r rs e = first_is a r l rs e
drop_first (a ∷ l) (suc p) d r rs e = drop_first l p d r rs e

pub drop_next : {A : Type 0} (l : List A) (p : ℕ) (r : A) (rs : List A) → drop p l ≡ r ∷ rs → drop (suc p) l ≡ rs
drop_next [] zero r rs e = absurd (omega (arith, ap length e))
drop_next [] (suc p) r rs e = absurd (omega (arith, ap length e))
drop_next (a ∷ l) zero r rs e = rest_is a r l rs e
drop_next (a ∷ l) (suc p) r rs e = drop_next l p r rs e

pub drop_more : {A : Type 0} (l : List A) (p : ℕ) (xs rs : List A) → drop p l ≡ xs ++ rs → drop (p + length xs) l ≡ rs
drop_more l p [] rs e = ap (λ (n : ℕ). drop n l) (let z : p + 0 ≡ p = omega arith in z) ∙ e
drop_more l p (x ∷ xs) rs e =
    ap (λ (n : ℕ). drop n l) (let z : p + suc (length xs) ≡ suc p + length xs = omega arith in z)
    ∙ drop_more l (suc p) xs rs (drop_next l p x (xs ++ rs) e)

-- ---- lines in form

abbrev pub OneName : List ℕ → Type 0
OneName [] = ⊥
OneName (p ∷ []) = p < 256
OneName (p ∷ q ∷ ps) = ⊥

abbrev pub TwoNames : List ℕ → Type 0
TwoNames [] = ⊥
TwoNames (p ∷ []) = ⊥
TwoNames (p ∷ q ∷ []) = (p < 256) × (q < 256)
TwoNames (p ∷ q ∷ r ∷ ps) = ⊥

abbrev pub LoopFormed : Loop → List ℕ → ℕ → Type 0
LoopFormed mapping ps n = OneName ps × (n ≡ 1)
LoopFormed filtering ps n = OneName ps × (n ≡ 1)
LoopFormed reducing ps n = TwoNames ps × (n ≡ 2)
LoopFormed rewriting ps n = OneName ps × (n ≡ 1)

-- over what is asked of a leaf with so many atoms
module _ (LeafOk : Leaf → ℕ → Type 0) where
  abbrev mutual
    -- a tree that is in form with so many levels of trees left
    pub Formed : ℕ → Tree → Type 0
    Formed levels (end a) = (0 < levels) × SmallAtom a
    Formed levels (line l t) = LineFormed levels l × Formed levels t

    pub LineFormed : ℕ → Line → Type 0
    LineFormed levels (leaf x l us) = (x < 256) × (SmallAtoms us × LeafOk l (length us))
    LineFormed levels (if_else x g t e) =
        (x < 256) × (SmallAtom g × (Formed (pred levels) t × Formed (pred levels) e))
    LineFormed levels (loop x k ps us t) =
        (x < 256) × (SmallAtoms us × (LoopFormed k ps (length us) × Formed (pred levels) t))
    LineFormed levels (retain x) = x < 256
    LineFormed levels (release x) = x < 256

  pub some_levels : (levels : ℕ) (t : Tree) → Formed levels t → 0 < levels
  some_levels levels (end a) h = h.0
  some_levels levels (line l t) h = some_levels levels t h.1

-- over the numbers of the functions' parameters
module _ (arities : List (Option ℕ)) where
  -- a leaf with n atoms
  abbrev pub LeafFormed : Leaf → ℕ → Type 0
  LeafFormed (operation o) n = n ≡ 2
  LeafFormed (call f) n = (f < 32) × ((f < length arities) × (get_or arities f none ≡ some n))
  LeafFormed (literal d) n = (n ≤ 16) × (d ≤ 3)
  LeafFormed index n = n ≡ 2
  LeafFormed length_of n = n ≡ 1
  LeafFormed iota n = n ≡ 1
  LeafFormed replicate n = n ≡ 2

  -- ---- operands and kinds

  abbrev second_of : Leaf → ℕ → ℕ
  second_of (operation o) n = 0
  second_of (call f) n = f
  second_of (literal d) n = n
  second_of index n = 0
  second_of length_of n = 0
  second_of iota n = 0
  second_of replicate n = 0

  abbrev third_of : Leaf → ℕ
  third_of (operation o) = 0
  third_of (call f) = 0
  third_of (literal d) = d
  third_of index = 0
  third_of length_of = 0
  third_of iota = 0
  third_of replicate = 0

  abbrev pub leaf_parts : Leaf → ℕ → ℕ → Parts
  leaf_parts l x n = record { first = x; second = second_of l n; third = third_of l }

  -- a name alone
  pub name_read : (k x : ℕ) → x < 256 → x ≤ get_or first_limits k 0 →
      parts_of k (pos x) ≡ some (record { first = x; second = 0; third = 0 })
  name_read k x h g = parts_read k x x 0 0 (omega arith) h (omega arith) g (omega arith) (omega arith)

  pub leaf_read : (l : Leaf) (x n : ℕ) → x < 256 → LeafFormed l n →
      parts_of (leaf_kind l) (pos (leaf_operand l x n)) ≡ some (leaf_parts l x n)
  leaf_read (operation sum) x n h g = name_read 4 x h (omega arith)
  leaf_read (operation difference) x n h g = name_read 5 x h (omega arith)
  leaf_read (operation less) x n h g = name_read 6 x h (omega arith)
  leaf_read (call f) x n h g =
      parts_read 8 (x + 256 * f) x f 0 (omega arith) h (omega (arith, g.0)) (omega arith) (omega (arith, g.0))
      (omega arith)
  leaf_read (literal d) x n h g =
      parts_read 9 (x + 256 * n + 65536 * d) x n d (omega arith) h (omega (arith, g.0)) (omega arith)
      (omega (arith, g.0)) (omega (arith, g.1))
  leaf_read index x n h g = name_read 10 x h (omega arith)
  leaf_read length_of x n h g = name_read 11 x h (omega arith)
  leaf_read iota x n h g = name_read 17 x h (omega arith)
  leaf_read replicate x n h g = name_read 18 x h (omega arith)

  pub leaf_form : (l : Leaf) (x n : ℕ) → LeafFormed l n →
      form_of arities (leaf_kind l) (leaf_parts l x n) ≡ leaf_line l (some n)
  leaf_form (operation sum) x n g = ap (λ (m : ℕ). leaf_line (operation sum) (some m)) (sym g)
  leaf_form (operation difference) x n g = ap (λ (m : ℕ). leaf_line (operation difference) (some m)) (sym g)
  leaf_form (operation less) x n g = ap (λ (m : ℕ). leaf_line (operation less) (some m)) (sym g)
  leaf_form (call f) x n g = rw (lt-ltb f (length arities) g.1.0, g.1.1) refl
  leaf_form (literal d) x n g = refl
  leaf_form index x n g = ap (λ (m : ℕ). leaf_line index (some m)) (sym g)
  leaf_form length_of x n g = ap (λ (m : ℕ). leaf_line length_of (some m)) (sym g)
  leaf_form iota x n g = ap (λ (m : ℕ). leaf_line iota (some m)) (sym g)
  leaf_form replicate x n g = ap (λ (m : ℕ). leaf_line replicate (some m)) (sym g)

  -- a loop's row: its parts, and what they are
  pub record LoopRead (x : ℕ) (k : Loop) (ps : List ℕ) (n : ℕ) : Type 0 where
    pub parts : Parts
    pub read : parts_of (loop_kind k) (pos (x + 256 * packed_names ps)) ≡ some parts
    pub binds : parts.first ≡ x
    pub is : form_of arities (loop_kind k) parts ≡ loop_line k ps n

  one_name : (k x p : ℕ) → x < 256 → p < 256 → x ≤ get_or first_limits k 0 → p ≤ get_or second_limits k 0 →
      parts_of k (pos (x + 256 * (p + 256 * 0))) ≡ some (record { first = x; second = p; third = 0 })
  one_name k x p h g i j = parts_read k (x + 256 * (p + 256 * 0)) x p 0 (omega arith) h g i j (omega arith)

  pub loop_read : (k : Loop) (x : ℕ) (ps : List ℕ) (n : ℕ) → x < 256 → LoopFormed k ps n → LoopRead x k ps n
  loop_read mapping x [] n h g = absurd g.0
  loop_read mapping x (p ∷ []) n h g = record {
    parts = record { first = x; second = p; third = 0 };
    read = one_name 13 x p h g.0 (omega arith) (omega (arith, g.0));
    binds = refl;
    is = ap (loop_line mapping (p ∷ [])) (sym g.1);
  }
  loop_read mapping x (p ∷ q ∷ ps) n h g = absurd g.0
  loop_read filtering x [] n h g = absurd g.0
  loop_read filtering x (p ∷ []) n h g = record {
    parts = record { first = x; second = p; third = 0 };
    read = one_name 19 x p h g.0 (omega arith) (omega (arith, g.0));
    binds = refl;
    is = ap (loop_line filtering (p ∷ [])) (sym g.1);
  }
  loop_read filtering x (p ∷ q ∷ ps) n h g = absurd g.0
  loop_read reducing x [] n h g = absurd g.0
  loop_read reducing x (p ∷ []) n h g = absurd g.0
  loop_read reducing x (p ∷ q ∷ []) n h g = record {
    parts = record { first = x; second = p; third = q };
    read = parts_read 20 (x + 256 * (p + 256 * (q + 256 * 0))) x p q (omega arith) h g.0.0 (omega arith)
        (omega (arith, g.0)) (omega (arith, g.0));
    binds = refl;
    is = ap (loop_line reducing (p ∷ q ∷ [])) (sym g.1);
  }
  loop_read reducing x (p ∷ q ∷ r ∷ ps) n h g = absurd g.0
  loop_read rewriting x [] n h g = absurd g.0
  loop_read rewriting x (p ∷ []) n h g = record {
    parts = record { first = x; second = p; third = 0 };
    read = one_name 21 x p h g.0 (omega arith) (omega (arith, g.0));
    binds = refl;
    is = ap (loop_line rewriting (p ∷ [])) (sym g.1);
  }
  loop_read rewriting x (p ∷ q ∷ ps) n h g = absurd g.0

-- ---- trees begin with no atom

leaf_no_atom : (l : Leaf) (z : ℕ) → seen_as (row (leaf_kind l) z) ≡ no_atom
leaf_no_atom (operation sum) z = refl
leaf_no_atom (operation difference) z = refl
leaf_no_atom (operation less) z = refl
leaf_no_atom (call f) z = refl
leaf_no_atom (literal d) z = refl
leaf_no_atom index z = refl
leaf_no_atom length_of z = refl
leaf_no_atom iota z = refl
leaf_no_atom replicate z = refl

loop_no_atom : (k : Loop) (z : ℕ) → seen_as (row (loop_kind k) z) ≡ no_atom
loop_no_atom mapping z = refl
loop_no_atom filtering z = refl
loop_no_atom reducing z = refl
loop_no_atom rewriting z = refl

pub tree_no_atom : (t : Tree) (rest : List Row) → NoAtom (C.rows t ++ rest)
unfolding C.rows
tree_no_atom (end a) rest = refl
tree_no_atom (line (leaf x l us) t) rest = leaf_no_atom l (leaf_operand l x (length us))
tree_no_atom (line (if_else x g t e) u) rest = refl
tree_no_atom (line (loop x k ps us t) u) rest = loop_no_atom k (x + 256 * packed_names ps)
tree_no_atom (line (retain x) t) rest = refl
tree_no_atom (line (release x) t) rest = refl
