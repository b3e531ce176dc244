-- Laws of the names used past a row, as they are read from the rows of last uses.
use Rattle.prelude.specs.Kit.{ℕ, ◌≤◌, ◌+◌, ◌<◌, arith, dec_lt, false, true, Bool, ◌&&◌, ◌||◌, ◌≡◌, ◌∙◌, sym, ap}
use Rattle.prelude.specs.Kit.{fun_ext, List, ltb, length, get_or, set, lt-ltb, le-ltb}
use Rattle.std.proofs.Math.Bool.{or_comm}
use Rattle.semantics.specs.Live.{Set, ◌∪◌}
use Rattle.plain_rows.specs.Plain.{set_of}
use Rattle.plain_rows.specs.Marks.{Marks}
use Rattle.plain_rows.specs.Parts.{below}
use Rattle.plain_rows.specs.Walk.{since}
use Rattle.plain_rows.proofs.Sets.{Making, making_none, making_set}

pub either_on : {u a : Bool} (b : Bool) → u ≡ true → a ≡ true → u ≡ a || b
either_on b e f = rw f e

pub either_off : {u a b : Bool} → u ≡ b → a ≡ false → u ≡ a || b
either_off e f = rw f e

-- r is a joined with the names used past a row below i, and a from i on
pub record Passing (row : ℕ) (M : Marks) (a r : List Bool) (i : ℕ) : Type 0 where
  pub made : Making (since row M ∪ set_of a) a r i

pub passing_none : (row : ℕ) (M : Marks) (a : List Bool) → Passing row M a a 0
passing_none row M a = record { made = making_none (since row M ∪ set_of a) a }

module _ {row : ℕ} {M : Marks} {a r : List Bool} {i : ℕ} (v : Passing row M a r i) where
  pub passing_more : {u : Bool} → i < length a → u ≡ since row M i →
      Passing row M a (set r i (get_or r i false || u)) (i + 1)
  passing_more {u} h e = record {
    made = making_set v.made (get_or r i false || u) h
        (or_comm (get_or r i false) u ∙ rw (e, v.made.above i (omega arith)));
  }

  pub passing_all : (x : ℕ) (A : Set) → x ≤ i → i ≤ x → set_of a ≡ A → set_of r ≡ below x (since row M) ∪ A
  passing_all x A h g e = fun_ext (λ y. go y (dec_lt y x))
    where
      go : (y : ℕ) → Dec (y < x) → get_or r y false ≡ (ltb y x && ltb row (M y)) || A y
      go y (yes l) =
          v.made.below y (omega arith) ∙ ap (λ (S : Set). ltb row (M y) || S y) e
          ∙ sym (ap (λ (b : Bool). (b && ltb row (M y)) || A y) (lt-ltb y x l))
      go y (no f) =
          v.made.above y (omega (arith, f)) ∙ ap (λ (S : Set). S y) e
          ∙ sym (ap (λ (b : Bool). (b && ltb row (M y)) || A y) (le-ltb y x (omega (arith, f))))
