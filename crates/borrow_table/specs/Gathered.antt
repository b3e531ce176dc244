-- What one reading of the plain rows of a script's functions tells of the table of borrowed parameters: the names that
-- a function does not hand over outside of calls, and a link for each name that it passes to a function.
use Rattle.std.specs.Prelude.{ℕ, ◌+◌, ◌*◌, ◌/◌, ◌%◌, ◌<◌, ◌≡◌, Bool, false, not, ◌&&◌, ◌||◌, List, [], ◌∷◌, eqb}
use Rattle.semantics.specs.Syntax.{Script, function_at}
use Rattle.semantics.specs.Normal.{normal_body}
use Rattle.semantics.specs.Borrow.{Table, borrows, spent}

-- function f passes its name i at place j of function g
abbrev pub link : ℕ → ℕ → ℕ → ℕ → ℕ
link f i g j = f + 256 * i + 65536 * g + 16777216 * j

-- whether name i of function f is passed at a place that is not borrowed
unfoldable pub passed : List ℕ → Table → ℕ → ℕ → Bool
passed [] T f i = false
passed (l ∷ ls) T f i =
    (eqb (l % 65536) (f + 256 * i) && not (borrows T (l / 65536 % 256) (l / 16777216))) || passed ls T f i

-- D has true for the names below 8 that each function but main does not hand over outside of calls, and the links say
-- which it passes on
pub record Gathered (fs : Script) (D : Table) (links : List ℕ) : Type 0 where
  pub at : (T : Table) (f i : ℕ) → 0 < f → f < 32 → i < 8 →
      spent (borrows T) (normal_body (function_at fs f)) i ≡ (not (borrows D f i) || passed links T f i)
  pub main_owns : (i : ℕ) → borrows D 0 i ≡ false
