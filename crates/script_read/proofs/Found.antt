-- A walk that gives the first of some faulty nodes, or goes on.
use Rattle.prelude.specs.Kit.{ℕ, true, false, Bool, cond, ◌≡◌, refl, List, [], ◌∷◌, ◌++◌}
use Rattle.semantics.specs.Basics.{with_if}
use Rattle.script_read.specs.Told.{and_next, repeated, found}
use Rattle.script_read.specs.Told.{Read, Refused}

-- the walk's answer, for the refusal with this number
pub record Finds (number : ℕ) (r : Read) (l : List ℕ) (q : ℕ) : Type 0 where
  pub is : r ≡ found number l q

module _ {number : ℕ} where
  pub follow : {r : Read} {l l' : List ℕ} {q q' : ℕ} (f : ℕ → Read) →
      Finds number r l q → Finds number (f q) l' q' → Finds number (and_next r f) (l ++ l') q'
  follow {r} {l} {l'} {q} {q'} f e g = record { is = rw e.is (go l) }
    where
      go : (l : List ℕ) → and_next (found number l q) f ≡ found number (l ++ l') q'
      go [] = g.is
      go (n ∷ l) = refl

  pub one : {l : List ℕ} {q : ℕ} (f : ℕ → Read) (p : ℕ) → Finds number (f p) l q → Finds number (repeated 1 f p) l q
  unfolding repeated
  one {l} {q} f p e = record { is = rw e.is (go l) }
    where
      go : (l : List ℕ) → and_next (found number l q) (repeated 0 f) ≡ found number l q
      go [] = refl
      go (n ∷ l) = refl

  pub two : {l l' : List ℕ} {q q' : ℕ} (f : ℕ → Read) (p : ℕ) →
      Finds number (f p) l q → Finds number (f q) l' q' → Finds number (repeated 2 f p) (l ++ l') q'
  unfolding repeated
  two {q = q} f p e g = follow (repeated 1 f) e (one f q g)

  pub three : {l l' l'' : List ℕ} {q q' q'' : ℕ} (f : ℕ → Read) (p : ℕ) →
      Finds number (f p) l q → Finds number (f q) l' q' → Finds number (f q') l'' q'' →
      Finds number (repeated 3 f p) (l ++ (l' ++ l'')) q''
  unfolding repeated
  three {q = q} f p e g h = follow (repeated 2 f) e (two f q g h)

  pub found_if : (b : Bool) (p : ℕ) {q : ℕ} {l : List ℕ} {r : Read} →
      Finds number r l q → Finds number (cond b (Refused number p) r) (with_if b p l) q
  found_if true p e = record { is = refl }
  found_if false p e = record { is = e.is }
