-- What a walk of plain code backwards gives: names, rows of last uses, and rows written.
use Rattle.std.specs.Prelude.{◌≡◌, Bool, true, false, List, ◌++◌, ℕ, ℤ, length}
use Rattle.semantics.specs.Kinds.{Borrowing}
use Rattle.semantics.specs.Code.{Row}
use Rattle.semantics.specs.Annotate.{NameDepths}
use Rattle.plain_rows.specs.Plain.{Plain, set_of, meant, loop_of, of_loop}
use Rattle.plain_rows.specs.Marks.{marks_of}
use Rattle.plain_rows.specs.Walk.{Point, point, loop_tree}
use Rattle.plain_rows.specs.declared.Line.{Line}
use Rattle.plain_rows.specs.declared.Line.TheVariants as L
use Rattle.annotate_rows.specs.Wrote.{Wrote}

-- f takes the names s and the marks c, wherever the rows stand, to the names s' and the marks c' with some rows added,
-- and these were written before place w
pub record Walks (f : Point → Point) (s : List Bool) (c k : List ℕ) (o : List ℤ) (w : ℕ)
    (s' : List Bool) (c' k' : List ℕ) (o' : List ℤ) (w' : ℕ) : Type 0 where
  pub added : List Row
  pub is : (rs : List Row) →
      f (point (set_of s) (marks_of c) rs) ≡ point (set_of s') (marks_of c') (added ++ rs)
  pub wrote : Wrote k o k' o' w w' added
  pub long : length c' ≡ 256

-- a line without trees, and a loop
unfoldable pub is_leaf : Line → Bool
is_leaf (L.Unary x kind a) = true
is_leaf (L.Binary x kind a b) = true
is_leaf (L.Call x f m) = true
is_leaf (L.Literal x d m) = true
is_leaf (L.If x g) = false
is_leaf (L.Loop x kind y z a b) = false

unfoldable pub is_loop : Line → Bool
is_loop (L.Unary x kind a) = false
is_loop (L.Binary x kind a b) = false
is_loop (L.Call x f m) = false
is_loop (L.Literal x d m) = false
is_loop (L.If x g) = false
is_loop (L.Loop x kind y z a b) = true

-- the walk of no tree
abbrev pub no_tree : ℕ → Point → Point
no_tree e P = P

-- the walk of a loop's tree, over the walk W of trees, where the line l stands from p to before q
unfoldable pub loop_tree_of : Plain → Borrowing → NameDepths → (ℕ → Point → Point) → ℕ → ℕ → Line → Point → Point
loop_tree_of F B Γ W p q (L.Unary x kind a) P = P
loop_tree_of F B Γ W p q (L.Binary x kind a b) P = P
loop_tree_of F B Γ W p q (L.Call x f m) P = P
loop_tree_of F B Γ W p q (L.Literal x d m) P = P
loop_tree_of F B Γ W p q (L.If x g) P = P
loop_tree_of F B Γ W p q (L.Loop x kind y z a b) P =
    let k = loop_of kind in
    loop_tree F B Γ W p q x k (of_loop k y z) (of_loop k (meant a) (meant b)) P
