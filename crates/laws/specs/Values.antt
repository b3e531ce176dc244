-- Arrays as values, made of a list of values.
use Rattle.std.specs.Prelude.{suc, ◌≡◌, refl, List, [], ◌∷◌, length}
use Rattle.prelude.specs.Kit.{ap}
use Rattle.semantics.specs.Value.{Value, list, items, of_list}
use Rattle.semantics.specs.Saved.{size_of}

-- the items of an array are those that it was made of
pub items_list : (l : List Value) → items (list l) ≡ l
items_list [] = refl
items_list (v ∷ l) = ap {B = List Value} (λ r. v ∷ r) (items_list l)

-- and it has as many
pub size_of_list : (l : List Value) → size_of (of_list l) ≡ length l
size_of_list [] = refl
size_of_list (v ∷ l) = ap suc (size_of_list l)
