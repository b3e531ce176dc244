-- A live set and the rows of last uses, as two arrays hold them.
use Rattle.std.specs.Prelude.{◌≡◌, Bool, List, ℕ, length}
use Rattle.semantics.specs.Live.{Set}
use Rattle.plain_rows.specs.Plain.{set_of}
use Rattle.plain_rows.specs.Marks.{Marks, marks_of}

-- an array of names holds the set A, and one of rows the marks N
pub record Took (A : Set) (N : Marks) (s : List Bool) (c : List ℕ) : Type 0 where
  pub names : set_of s ≡ A
  pub marks : marks_of c ≡ N
  pub long : length c ≡ 256
