-- A name occurs in the tree that begins at a row just where its last use, after the tree, lies past that row.
use Rattle.std.specs.Prelude.{ℕ, ◌≤◌, ◌+◌, ◌<◌, true, false, Bool, cond, ◌||◌, ◌≡◌, refl, List, [], ◌∷◌, eqb, ltb}
use Rattle.std.specs.Prelude.{length}
use Rattle.prelude.specs.Kit.{arith, or-true, ◌∙◌, sym, fun_ext, lt-ltb, le-ltb}
use Rattle.semantics.specs.Basics.{updated}
use Rattle.semantics.specs.Code.{Atom, number, name, Line, leaf, if_else, loop, retain, release, Tree, end, line}
use Rattle.semantics.specs.Live.{empty, is, among}
use Rattle.plain_rows.specs.Marks.{Marks, extent, line_extent, marked, marked_all, marks, line_marks}
use Rattle.plain_rows.specs.Walk.{since}
use Rattle.annotate_laws.specs.Uses.{occurs, occurs_line}

-- ---- what becomes of one name's mark

-- from m to m' over the rows after p up to q: u says whether the name occurs there
pub data Step (p q m m' : ℕ) : Bool → Type 0 where
  used : p < m' → m' ≤ q → Step p q m m' true
  kept : m' ≡ m → Step p q m m' false

step_as : {p q m m' : ℕ} {u : Bool} (v : Bool) → u ≡ v → Step p q m m' u → Step p q m m' v
step_as v e s = rw e at s

step_wide : {p q m m' : ℕ} {u : Bool} (p₁ q₁ : ℕ) → p₁ ≤ p → q ≤ q₁ → Step p q m m' u → Step p₁ q₁ m m' u
step_wide p₁ q₁ g h (used i j) = used (omega arith) (omega arith)
step_wide p₁ q₁ g h (kept i) = kept i

step_then : {p q m m₁ m₂ : ℕ} {u v : Bool} → Step p q m m₁ u → Step p q m₁ m₂ v → Step p q m m₂ (u || v)
step_then {u = u} a (used i j) = step_as (u || true) (sym (or-true u)) (used i j)
step_then (used i j) (kept h) = used (omega arith) (omega arith)
step_then (kept i) (kept h) = kept (h ∙ i)

-- over one atom
atom_step : (a : Atom) (r : ℕ) (M : Marks) (y p q : ℕ) → p < r → r ≤ q → Step p q (M y) (marked a r M y) (is a y)
unfolding marked updated
atom_step (number z) r M y p q g h = kept refl
atom_step (name x) r M y p q g h = go (eqb x y)
  where
    go : (b : Bool) → Step p q (M y) (cond b r (M y)) b
    go true = used g h
    go false = kept refl

-- over some atoms
atoms_step : (us : List Atom) (r : ℕ) (M : Marks) (y p q : ℕ) → p < r → r + length us ≤ q + 1 →
    Step p q (M y) (marked_all us r M y) (among us empty y)
unfolding marked_all among
atoms_step [] r M y p q g h = kept refl
atoms_step (a ∷ us) r M y p q g h =
    step_then (atom_step a r M y p q g (omega arith))
    (atoms_step us (r + 1) (marked a r M) y p q (omega arith) (omega arith))

mutual
  unfolding occurs extent marks

  pub marks_step : (t : Tree) (p : ℕ) (M : Marks) (y : ℕ) → Step p (p + extent t) (M y) (marks t p M y) (occurs t y)
  marks_step (end a) p M y = atom_step a (p + 1) M y p (p + 2) (omega arith) (omega arith)
  marks_step (line l t) p M y =
      let q = p + (line_extent l + extent t) in
      step_then
      (step_wide p q (omega arith) (omega arith) (line_step l p M y))
      (step_wide p q (omega arith) (omega arith) (marks_step t (p + line_extent l) (line_marks l p M) y))

  pub line_step : (l : Line) (p : ℕ) (M : Marks) (y : ℕ) →
      Step p (p + line_extent l) (M y) (line_marks l p M y) (occurs_line l y)
  line_step (leaf x l us) p M y = atoms_step us (p + 1) M y p (p + (1 + length us)) (omega arith) (omega arith)
  line_step (if_else x g t e) p M y =
      let q = p + (2 + extent t + extent e) in
      step_then (atom_step g (p + 1) M y p q (omega arith) (omega arith))
      (step_then
      (step_wide p q (omega arith) (omega arith) (marks_step t (p + 2) (marked g (p + 1) M) y))
      (step_wide p q (omega arith) (omega arith)
      (marks_step e (p + 2 + extent t) (marks t (p + 2) (marked g (p + 1) M)) y)))
  line_step (loop x k ps us t) p M y =
      let q = p + (1 + length us + extent t) in
      step_then (atoms_step us (p + 1) M y p q (omega arith) (omega arith))
      (step_wide p q (omega arith) (omega arith) (marks_step t (p + 1 + length us) (marked_all us (p + 1) M) y))
  line_step (retain x) p M y = kept refl
  line_step (release x) p M y = kept refl

-- ---- no mark lies past a row

pub record Low (M : Marks) (p : ℕ) : Type 0 where
  pub at : (y : ℕ) → M y ≤ p

step_low : {p q m m' : ℕ} {u : Bool} → Step p q m m' u → m ≤ p → p ≤ q → m' ≤ q
step_low (used i j) g h = j
step_low (kept i) g h = omega arith

pub low_atom : (a : Atom) (p : ℕ) {M : Marks} → Low M p → Low (marked a (p + 1) M) (p + 2)
low_atom a p {M} h = record {
  at = λ y. step_low (atom_step a (p + 1) M y p (p + 2) (omega arith) (omega arith)) (h.at y) (omega arith);
}

pub low_atoms : (us : List Atom) (p : ℕ) {M : Marks} → Low M p → Low (marked_all us (p + 1) M) (p + 1 + length us)
low_atoms us p {M} h = record {
  at = λ y. step_low (atoms_step us (p + 1) M y p (p + 1 + length us) (omega arith) (omega arith)) (h.at y)
      (omega arith);
}

pub low_line : (l : Line) (p : ℕ) {M : Marks} → Low M p → Low (line_marks l p M) (p + line_extent l)
low_line l p {M} h = record { at = λ y. step_low (line_step l p M y) (h.at y) (omega arith) }

pub low_tree : (t : Tree) (p : ℕ) {M : Marks} → Low M p → Low (marks t p M) (p + extent t)
low_tree t p {M} h = record { at = λ y. step_low (marks_step t p M y) (h.at y) (omega arith) }

-- ---- the names whose last use lies past a tree's first row

step_since : {p q m m' : ℕ} {u : Bool} → Step p q m m' u → m ≤ p → ltb p m' ≡ u
step_since {p} {m' = m'} (used i j) g = lt-ltb p m' i
step_since {p} {m' = m'} (kept i) g = le-ltb p m' (omega arith)

pub since_occurs : (t : Tree) (p : ℕ) {M : Marks} → Low M p → since p (marks t p M) ≡ occurs t
since_occurs t p {M} h = fun_ext (λ y. step_since (marks_step t p M y) (h.at y))
