-- A table of 256 entries as a function of the name.
use Rattle.std.specs.Prelude.{ℕ, List, get_or}

-- what a table says of a name; d past its end
unfoldable pub table : {A : Type 0} → A → List A → ℕ → A
table d t = λ x. get_or t x d
