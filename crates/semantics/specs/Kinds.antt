-- The kinds of nodes and lines that are not numbers, names, lets or ifs: leaves, which work no tree, and loops, which
-- work one tree a pass. What a new kind says of itself stands here.
use Rattle.std.specs.Prelude.{ℕ, suc, ◌+◌, ◌*◌, Bool, true, false, not, List, [], ◌∷◌}
use Rattle.semantics.specs.Basics.{with_if}
use Rattle.semantics.specs.Number.{Operation, sum, difference, less}

pub data Leaf : Type 0 where
  operation : Operation → Leaf
  call : ℕ → Leaf
  literal : ℕ → Leaf
  index length_of iota replicate : Leaf

-- A map that rewrites (document 02, order 8) stands in code only: in a script it is a map.
pub data Loop : Type 0 where
  mapping filtering reducing rewriting : Loop

abbrev pub operation_kind : Operation → ℕ
operation_kind sum = 4
operation_kind difference = 5
operation_kind less = 6

abbrev pub leaf_kind : Leaf → ℕ
leaf_kind (operation o) = operation_kind o
leaf_kind (call f) = 8
leaf_kind (literal d) = 9
leaf_kind index = 10
leaf_kind length_of = 11
leaf_kind iota = 17
leaf_kind replicate = 18

abbrev pub loop_kind : Loop → ℕ
loop_kind mapping = 13
loop_kind filtering = 19
loop_kind reducing = 20
loop_kind rewriting = 21

-- the operand of a leaf's line that binds x and has n atoms
abbrev pub leaf_operand : Leaf → ℕ → ℕ → ℕ
leaf_operand (operation o) x n = x
leaf_operand (call f) x n = x + 256 * f
leaf_operand (literal d) x n = x + 256 * n + 65536 * d
leaf_operand index x n = x
leaf_operand length_of x n = x
leaf_operand iota x n = x
leaf_operand replicate x n = x

-- names packed in an operand, the first lowest
abbrev pub packed_names : List ℕ → ℕ
packed_names [] = 0
packed_names (x ∷ xs) = x + 256 * packed_names xs

-- whether a function borrows an argument: by the function and the argument's place
abbrev pub Borrowing : Type 0
Borrowing = ℕ → ℕ → Bool

module _ {A : Type 0} where
  abbrev pub first_part : List A → List A
  first_part [] = []
  first_part (a ∷ l) = a ∷ []

  abbrev pub later_parts : List A → List A
  later_parts [] = []
  later_parts (a ∷ l) = l

  -- of some parts, the first of which has place i, those at certain places
  abbrev pub picked : (ℕ → Bool) → ℕ → List A → List A
  picked at i [] = []
  picked at i (u ∷ us) = with_if (at i) u (picked at (suc i) us)

  -- Of a leaf's parts those that are handed over; the others are read. A call hands over the arguments that its
  -- function does not borrow.
  abbrev pub leaf_hands : Borrowing → Leaf → List A → List A
  leaf_hands B (operation o) us = []
  leaf_hands B (call f) us = picked (λ i. not (B f i)) 0 us
  leaf_hands B (literal d) us = us
  leaf_hands B index us = []
  leaf_hands B length_of us = []
  leaf_hands B iota us = []
  leaf_hands B replicate us = []

  abbrev pub leaf_reads : Borrowing → Leaf → List A → List A
  leaf_reads B (operation o) us = us
  leaf_reads B (call f) us = picked (B f) 0 us
  leaf_reads B (literal d) us = []
  leaf_reads B index us = us
  leaf_reads B length_of us = us
  leaf_reads B iota us = us
  leaf_reads B replicate us = us

  -- of a loop's parts before its body those that are handed over: a reduce's start, and the array of a map that
  -- rewrites it; the others, its array, are read
  abbrev pub loop_hands : Loop → List A → List A
  loop_hands mapping us = []
  loop_hands filtering us = []
  loop_hands reducing us = first_part us
  loop_hands rewriting us = us

  abbrev pub loop_reads : Loop → List A → List A
  loop_reads mapping us = us
  loop_reads filtering us = us
  loop_reads reducing us = later_parts us
  loop_reads rewriting us = []

  -- of a loop's parts before its body its array
  abbrev pub loop_array : Loop → List A → List A
  loop_array mapping us = us
  loop_array filtering us = us
  loop_array reducing us = later_parts us
  loop_array rewriting us = us

  -- the element's name among the names of a pass; a reduce's first is the running value's
  abbrev pub element_name : Loop → List A → List A
  element_name mapping ps = ps
  element_name filtering ps = ps
  element_name reducing ps = later_parts ps
  element_name rewriting ps = ps

  -- the names of a pass that hold what is carried into it: a reduce's first, its running value's; the others have none
  abbrev pub carried_name : Loop → List A → List A
  carried_name mapping ps = []
  carried_name filtering ps = []
  carried_name reducing ps = first_part ps
  carried_name rewriting ps = []

-- a loop that may take a cell for its result before its passes
abbrev pub takes_cell : Loop → Bool
takes_cell mapping = true
takes_cell filtering = true
takes_cell reducing = false
takes_cell rewriting = true

-- an index gives a word that holds nothing yet
abbrev pub is_pending : Leaf → Bool
is_pending (operation o) = false
is_pending (call f) = false
is_pending (literal d) = false
is_pending index = true
is_pending length_of = false
is_pending iota = false
is_pending replicate = false
