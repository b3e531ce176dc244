-- Words copied, and one cell of a store that is linked anew.
use Rattle.std.specs.Prelude.{ℕ, zero, suc, List, get_or}
use Rattle.semantics.specs.Basics.{tabulate}
use Rattle.semantics.specs.Store.{Cell, clear}

-- n words, those of a list first and then z
unfoldable pub words_of : {A : Type 0} → A → ℕ → List A → List A
words_of z n l = tabulate 0 n (λ i. get_or l i z)

-- by a cell's count: the cell itself, and the first free one from it on, where h is the first free one after it
abbrev pub cell_linked : ℕ → Cell → ℕ → Cell
cell_linked zero x h = clear h
cell_linked (suc n) x h = x

abbrev pub head_linked : ℕ → ℕ → ℕ → ℕ
head_linked zero c h = c
head_linked (suc n) c h = h
