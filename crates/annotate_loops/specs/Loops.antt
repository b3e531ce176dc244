-- The rows of a loop's line without its tree, by the line as it is read; a line that is none has no such rows.
use Rattle.std.specs.Prelude.{List, [], ◌++◌, ℕ, ◌+◌, pos}
use Rattle.semantics.specs.Kinds.{Loop, mapping, filtering, reducing, rewriting, loop_kind}
use Rattle.semantics.specs.Code as C
use Rattle.semantics.specs.Code.{Row}
use Rattle.semantics.specs.Live.{Set}
use Rattle.semantics.specs.Annotate.{NameDepths}
use Rattle.plain_rows.specs.Plain.{meant, loop_of, loop_size, of_loop}
use Rattle.plain_rows.specs.Parts.{below, written_as, loop_own, pass_opening, loop_closing}
use Rattle.plain_rows.specs.Marks.{Marks}
use Rattle.plain_rows.specs.Walk.{since}
use Rattle.plain_rows.specs.declared.Line.{Line}
use Rattle.plain_rows.specs.declared.Line.TheVariants as L

-- the second of a loop's atoms; where there is none the number 0, which uses nothing
abbrev pub second_of : Loop → C.Atom → C.Atom
second_of mapping b = C.number (pos 0)
second_of filtering b = C.number (pos 0)
second_of reducing b = b
second_of rewriting b = C.number (pos 0)

-- the array that a loop reads; where it is handed over the number 0
abbrev pub read_of : Loop → C.Atom → C.Atom → C.Atom
read_of mapping a b = a
read_of filtering a b = a
read_of reducing a b = b
read_of rewriting a b = C.number (pos 0)

module _ (Γ : NameDepths) where
  -- the line that is written for a loop at row p: M are the last uses and A is live after it
  unfoldable pub written_line : ℕ → Marks → Set → Line → Line
  written_line p M A (L.Unary x kind a) = L.Unary x kind a
  written_line p M A (L.Binary x kind a b) = L.Binary x kind a b
  written_line p M A (L.Call x f m) = L.Call x f m
  written_line p M A (L.Literal x d m) = L.Literal x d m
  written_line p M A (L.If x g) = L.If x g
  written_line p M A (L.Loop x kind y z a b) =
      let k = loop_of kind in
      let us = of_loop k (meant a) (meant b) in
      L.Loop x (loop_kind (written_as Γ x k us (below x (since (p + 1 + loop_size k) M)) A)) y z a b

  -- its own row and atoms, and the opening of its tree, at whose start T is live
  unfoldable pub opening_of : Set → Line → List Row
  opening_of T (L.Unary x kind a) = []
  opening_of T (L.Binary x kind a b) = []
  opening_of T (L.Call x f m) = []
  opening_of T (L.Literal x d m) = []
  opening_of T (L.If x g) = []
  opening_of T (L.Loop x kind y z a b) =
      let k = loop_of kind in
      loop_own x k (of_loop k y z) (of_loop k (meant a) (meant b)) ++ pass_opening Γ k (of_loop k y z) T

  -- the releases after it, where it stands at row p: M are the last uses and A is live there
  unfoldable pub closing_of : ℕ → Marks → Set → Line → List Row
  closing_of p M A (L.Unary x kind a) = []
  closing_of p M A (L.Binary x kind a b) = []
  closing_of p M A (L.Call x f m) = []
  closing_of p M A (L.Literal x d m) = []
  closing_of p M A (L.If x g) = []
  closing_of p M A (L.Loop x kind y z a b) =
      let k = loop_of kind in
      let us = of_loop k (meant a) (meant b) in
      loop_closing Γ x k us (below x (since (p + 1 + loop_size k) M)) A
