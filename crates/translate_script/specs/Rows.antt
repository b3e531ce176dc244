-- The code of one function.
use Rattle.std.specs.Prelude.{cond, ◌&&◌, List, ◌∷◌, ◌++◌, ℕ, ◌+◌, ◌*◌, ltb, length}
use Rattle.semantics.specs.Syntax.{Function}
use Rattle.semantics.specs.Code.{Row, row, rows, release_all}
use Rattle.semantics.specs.Normal.{normal_body}
use Rattle.semantics.specs.Live.{empty, uses}
use Rattle.semantics.specs.Borrow.{Table, borrows}
use Rattle.semantics.specs.Annotate.{NameDepths, parameter_rows, dying, full_style, annotate}
use Rattle.flatten_functions.specs.Read.{depths_by}

-- the depths of names, but 0 for those of the first n that function f borrows
abbrev pub owned_of : Table → ℕ → ℕ → NameDepths → NameDepths
owned_of T f n Γ = λ x. cond (ltb x n && borrows T f x) 0 (Γ x)

-- the depths by which the names of function f are annotated, over the results of the script's functions
unfoldable pub owned_by : (ℕ → ℕ) → Table → ℕ → Function → NameDepths
owned_by results T f g = owned_of T f (length g.parameters) (depths_by results g)

-- the rows of a function before those of its tree
unfoldable pub head_rows : Function → List Row
head_rows g = row 0 (length g.parameters + 256 * g.result) ∷ parameter_rows g.parameters 0

-- the rows of function f
unfoldable pub rows_by : (ℕ → ℕ) → Table → ℕ → Function → List Row
rows_by results T f g =
    head_rows g
    ++ rows (release_all
    (dying (owned_by results T f g) (λ x. ltb x (length g.parameters)) (uses (normal_body g)))
    (annotate full_style (borrows T) (owned_by results T f g) (normal_body g) empty))
