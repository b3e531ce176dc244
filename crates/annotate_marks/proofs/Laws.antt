-- Laws of the rows of last uses in an array, and of the live set beside them.
use Rattle.prelude.specs.Kit.{ℕ, ◌≤◌, ◌+◌, ◌<◌, ◌-◌, arith, ℕ_discrete, false, Bool, cond, ◌≡◌, refl, ◌∙◌, sym}
use Rattle.prelude.specs.Kit.{ap, fun_ext, List, ◌∷◌, eqb, length, get_or, set, get_or-set_other}
use Rattle.prelude.specs.Kit.{get_or-set_same, ne_eqb, lt-ltb, eq-eqb, le-ltb}
use Rattle.semantics.specs.Basics.{updated}
use Rattle.semantics.specs.Code as C
use Rattle.semantics.specs.Live.{Set, is, ◌∪◌, ◌∖◌, among}
use Rattle.plain_rows.specs.Plain.{set_of, meant, placed, atoms_at, note}
use Rattle.kinds.specs.declared.Atom.{Atom}
use Rattle.plain_rows.proofs.Atoms.{atoms_more, atoms_none, atoms_all}
use Rattle.plain_rows.proofs.Sets.{without_in}
use Rattle.plain_rows.specs.Marks.{Marks, marked, marks_of}
use Rattle.plain_rows.specs.Walk.{then_end, unmarked, unmarked_all}
use Rattle.annotate_marks.specs.Took.{Took}

pub marks_set : (c : List ℕ) (x v u : ℕ) → x < length c → v ≡ u → marks_of (set c x v) ≡ marked (C.name x) u
    (marks_of c)
unfolding marked updated
marks_set c x v u h e = rw (← e) (fun_ext (λ y. go y (ℕ_discrete x y)))
  where
    go : (y : ℕ) → Dec (x ≡ y) → get_or (set c x v) y 0 ≡ cond (eqb x y) v (get_or c y 0)
    go y (yes e) = rw (← e, eq-eqb x x refl) (get_or-set_same c x v 0 h)
    go y (no f) = rw (ne_eqb x y f) (get_or-set_other c x y v 0 (λ p. f (sym p)))

number_none : (z : _) (v : ℕ) (M : Marks) → marked (C.number z) v M ≡ M
unfolding marked
number_none z v M = refl

pub took_none : (z : _) (notes : List ℕ) (r : ℕ) (s : List Bool) (c : List ℕ) → length c ≡ 256 →
    Took (is (C.number z) ∪ set_of s) (unmarked notes r (C.number z) (marks_of c)) s c
took_none z notes r s c l = record { names = refl; marks = sym (number_none z (note notes r) (marks_of c)); long = l }

-- ---- atoms, from the last to the first

module _ (w rows notes : List ℕ) (at : ℕ) where
  pub unmarked_none : (m : ℕ) (M : Marks) → M ≡ unmarked_all notes (at + m) (atoms_at w rows (at + m) (m - m)) M
  unfolding unmarked_all
  unmarked_none m M =
      sym (ap (λ (us : List C.Atom). unmarked_all notes (at + m) us M) (atoms_none w rows (at + m) m))

  one_more : (i : ℕ) (us : List C.Atom) (b : C.Atom) (M : Marks) → 0 < i →
      unmarked notes (at + (i - 1)) b (unmarked_all notes (at + i) us M) ≡ unmarked_all notes (at + (i - 1)) (b ∷
      us) M
  unfolding unmarked_all
  one_more i us b M g =
      ap (λ (j : ℕ). unmarked notes (at + (i - 1)) b (unmarked_all notes j us M))
      (let e : at + i ≡ at + (i - 1) + 1 = omega arith in e)

  pub unmarked_more : (i m v : ℕ) (M N R : Marks) (a : Atom) → 0 < i → i ≤ m →
      N ≡ unmarked_all notes (at + i) (atoms_at w rows (at + i) (m - i)) M →
      v ≡ get_or rows (at + (i - 1)) 0 → a ≡ placed w v → R ≡ unmarked notes (at + (i - 1)) (meant a) N →
      R ≡ unmarked_all notes (at + (i - 1)) (atoms_at w rows (at + (i - 1)) (m - (i - 1))) M
  unmarked_more i m v M N R a g h n e f r =
      r ∙ rw (f, e, n)
      (one_more i (atoms_at w rows (at + i) (m - i)) (meant (placed w (get_or rows (at + (i - 1)) 0))) M g
      ∙ sym (ap (λ (us : List C.Atom). unmarked_all notes (at + (i - 1)) us M) (atoms_more w rows at i m g h)))

  pub unmarked_end : (i m : ℕ) (M R : Marks) → i ≤ 0 →
      R ≡ unmarked_all notes (at + i) (atoms_at w rows (at + i) (m - i)) M →
      R ≡ unmarked_all notes at (atoms_at w rows at m) M
  unmarked_end i m M R h r =
      r ∙ ap (λ (us : List C.Atom). unmarked_all notes (at + i) us M) (atoms_all w rows at i m (omega arith))
      ∙ ap (λ (j : ℕ). unmarked_all notes j (atoms_at w rows at m) M) (let e : at + i ≡ at = omega arith in e)

-- ---- a name bound, and names taken back one after the other

pub take_start : (s : List Bool) (c : List ℕ) (x : ℕ) → x < length s → length c ≡ 256 →
    Took (set_of s ∖ x) (marks_of c) (set s x false) c
take_start s c x h l = record { names = without_in s x h; marks = refl; long = l }

-- an atom taken back after others
pub took_then : (notes : List ℕ) (r : ℕ) (a : C.Atom) {A : Set} {M : Marks} {s s' : List Bool} {c c' : List ℕ} →
    Took A M s c → Took (is a ∪ set_of s) (unmarked notes r a (marks_of c)) s' c' →
    Took (is a ∪ A) (unmarked notes r a M) s' c'
took_then notes r a t u = record {
  names = u.names ∙ ap (λ (S : Set). is a ∪ S) t.names;
  marks = u.marks ∙ ap (unmarked notes r a) t.marks;
  long = u.long;
}

pub took_all : (us : List C.Atom) {A B : Set} {N : Marks} {s : List Bool} {c : List ℕ} →
    Took (among us A) N s c → A ≡ B → Took (among us B) N s c
took_all us t e = record { names = t.names ∙ ap (among us) e; marks = t.marks; long = t.long }

-- ---- the end of an if's first tree

module _ (notes : List ℕ) (p v : ℕ) where
  pub then_near : (r : ℕ) → v ≡ note notes (p + 2) → v < 4098 → r ≡ v - 2 → r ≡ then_end notes p
  unfolding then_end
  then_near r e h f = f ∙ rw (← e, lt-ltb v 4098 h)

  pub then_far : v ≡ note notes (p + 2) → 4098 ≤ v → 0 ≡ then_end notes p
  unfolding then_end
  then_far e h = rw (← e, le-ltb v 4098 h)
