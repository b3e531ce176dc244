-- The rows of annotated lines: of a leaf, of a loop without its tree, and of a tree's end.
use Rattle.std.specs.Prelude.{Bool, false, cond, not, ◌&&◌, List, [], ◌∷◌, ◌++◌, map, ℕ, ◌+◌, ◌*◌, eqb, ltb, get_or, length}
use Rattle.semantics.specs.Basics.{with_if}
use Rattle.semantics.specs.Kinds.{Leaf, leaf_kind, leaf_operand, leaf_hands, leaf_reads, is_pending, Borrowing}
use Rattle.semantics.specs.Kinds.{Loop, mapping, filtering, reducing, rewriting}
use Rattle.semantics.specs.Kinds.{loop_kind, loop_reads, element_name, packed_names}
use Rattle.semantics.specs.Code.{Atom, number, name, Row, row, atom_row}
use Rattle.semantics.specs.Live.{Set, empty, only, just, among, ◌∪◌}
use Rattle.semantics.specs.Annotate.{NameDepths, is_array, arrays, dying, handed_again}

-- the names of a set below x
abbrev pub below : ℕ → Set → Set
below x A = λ y. ltb y x && A y

-- the depths of a table
abbrev pub depth_in : List ℕ → NameDepths
depth_in depths = λ x. get_or depths x 0

abbrev pub retain_rows : List ℕ → List Row
retain_rows xs = map (λ (x : ℕ). row 14 x) xs

abbrev pub release_rows : List ℕ → List Row
release_rows xs = map (λ (x : ℕ). row 15 x) xs

-- a loop's own row and its atoms' after it
abbrev pub loop_own : ℕ → Loop → List ℕ → List Atom → List Row
loop_own x k ps us = row (loop_kind k) (x + 256 * packed_names ps) ∷ map atom_row us

module _ (Γ : NameDepths) where
  -- the name of an atom that is handed over, if it is to be retained: S is what is live after it or comes again later
  unfoldable pub handed_one : Atom → Set → List ℕ
  handed_one (number z) S = []
  handed_one (name x) S = with_if (is_array Γ x && S x) x []

  -- a line whose atoms are all handed over, after its first row
  abbrev pub handing : ℕ → Row → List Atom → Set → List Row
  handing x r us A = retain_rows (handed_again Γ us A) ++ ((r ∷ map atom_row us) ++ release_rows (dying Γ (only x) A))

  -- Whether a map that binds x rewrites its array: O are the outer names that its tree uses, A is live after it.
  abbrev pub is_rewritten : ℕ → List Atom → Set → Set → Bool
  is_rewritten x [] O A = false
  is_rewritten x (number z ∷ us) O A = false
  is_rewritten x (name y ∷ us) O A = eqb (Γ y) 1 && (eqb (Γ x) 1 && (not (A y) && not (O y)))

  -- the loop that is written
  abbrev pub written_as : ℕ → Loop → List Atom → Set → Set → Loop
  written_as x mapping us O A = cond (is_rewritten x us O A) rewriting mapping
  written_as x filtering us O A = filtering
  written_as x reducing us O A = reducing
  written_as x rewriting us O A = rewriting

  -- the opening of a loop's tree, at whose start T is live: the element is retained, then what is not used is released
  abbrev pub pass_opening : Loop → List ℕ → Set → List Row
  pass_opening k ps T = retain_rows (arrays Γ (element_name k ps)) ++ release_rows (dying Γ (just ps) T)

  -- the releases after a loop that binds x: O are the outer names that its tree uses, A is live after it
  abbrev pub loop_closing : ℕ → Loop → List Atom → Set → Set → List Row
  loop_closing x k us O A =
      release_rows (dying Γ (below x (among (loop_reads k us) O)) A) ++ release_rows (dying Γ (only x) A)

  -- a tree's end, after which L is live
  abbrev pub ending : Atom → Set → List Row
  ending a L = retain_rows (handed_one a L) ++ (row 16 0 ∷ (atom_row a ∷ []))

-- a leaf's line, over the places that are borrowed, with the retains before it and those and the releases after it;
-- A is live after the line
abbrev pub leaf_part : Borrowing → NameDepths → ℕ → Leaf → List Atom → Set → List Row
leaf_part B Γ x l us A =
    retain_rows (handed_again Γ (leaf_hands B l us) (among (leaf_reads B l us) empty ∪ A))
    ++ ((row (leaf_kind l) (leaf_operand l x (length us)) ∷ map atom_row us)
    ++ (retain_rows (with_if (is_pending l && is_array Γ x) x [])
    ++ release_rows (dying Γ (among (leaf_reads B l us) empty ∪ only x) A)))
