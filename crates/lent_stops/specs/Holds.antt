-- The third test, of holds, walks over the lines of its trees and functions.
use Rattle.std.specs.Prelude.{ℕ, ◌≤◌, ◌+◌, suc, Bool, not, List, [], ◌∷◌, length}
use Rattle.prelude.specs.Kit.{arith, length-map}
use Rattle.semantics.specs.Outcome.{◌>>=◌, give}
use Rattle.semantics.specs.Kinds.{Borrowing, picked, leaf_hands, loop_hands, loop_reads, element_name, carried_name}
use Rattle.semantics.specs.Syntax.{Parameter}
use Rattle.semantics.specs.Code.{Atom, number, name, Line, leaf, if_else, loop, retain, release, Tree, end, line}
use Rattle.semantics.specs.Live.{Set, empty}
use Rattle.semantics.specs.Annotate.{NameDepths, is_array}
use Rattle.semantics.specs.Borrow.{borrows}
use Rattle.semantics_lent.specs.Form.{Lent}
use Rattle.semantics_lent.specs.Hold.{Holds, none_held, same_holds, none_bound, arrays_in, hold_all, spend_name}
use Rattle.semantics_lent.specs.Hold.{spend, set_aside, lending, hold_tree, hold_line, hold_function, names_of}
use Rattle.semantics_lent.specs.Hold.{lent_table, hold_functions, hold}
use Rattle.lent_stops.specs.Stops.{StopsAtMost}
use Rattle.lent_stops.specs.Sizes.{tree_size, line_size, function_size, code_size}
use Rattle.lent_stops.specs.Walks.{Walks, walks_then, walks_test, walks_skip, walks_give, walks_either}
use Rattle.lent_stops.specs.Walks.{walks_whole}

-- over the bound, and the depths of a function's names
module _ (m : ℕ) (Γ : NameDepths) where
  spend_walks : (us : List Atom) (H : Holds) → Walks m 0 (spend Γ us H)
  unfolding spend
  spend_walks [] H = walks_give m 0
  spend_walks (number z ∷ us) H = spend_walks us H
  spend_walks (name x ∷ us) H =
      walks_then m 0 0 0 (spend_name Γ x H) _ (omega arith)
      (walks_either m 0 (is_array Γ x) _ _ (walks_test m 0 _ _ (walks_give m 0)) (walks_give m 0))
      (λ I. spend_walks us I)

  -- and over the places that are borrowed
  module _ (β : Borrowing) where
    mutual
      unfolding hold_tree hold_line tree_size line_size

      tree_walks : (t : Tree) (B P : Set) (H : Holds) (ends : Holds → Bool) →
          Walks m (tree_size t) (hold_tree β Γ t B P H ends)
      tree_walks (end a) B P H ends =
          walks_then m 0 2 2 (spend Γ (a ∷ []) H) _ (omega arith) (spend_walks (a ∷ []) H) (λ I.
          walks_test m 2 _ _ (walks_skip m 2 0 2 _ (omega arith) (walks_give m 0)))
      tree_walks (line l t) B P H ends =
          walks_then m (line_size l) (tree_size t) (line_size l + tree_size t) (hold_line β Γ l B P H) _ (omega arith)
          (line_walks l B P H) (λ A. tree_walks t B A.pending A.holds ends)

      line_walks : (l : Line) (B P : Set) (H : Holds) → Walks m (line_size l) (hold_line β Γ l B P H)
      line_walks (leaf x l us) B P H =
          let n = suc (length us) in
          walks_then m 0 n n (spend Γ (leaf_hands β l us) H) _ (omega arith) (spend_walks (leaf_hands β l us) H) (λ I.
          walks_test m n _ _ (walks_skip m (1 + length us) 0 n _ (omega arith) (walks_give m 0)))
      line_walks (if_else x g t e) B P H =
          let i = tree_size t in
          let j = tree_size e in
          walks_skip m 2 (i + j) (2 + (i + j)) _ (omega arith)
          (walks_then m i j (i + j) (hold_tree β Γ t B empty H (none_bound B H)) _ (omega arith)
          (tree_walks t B empty H (none_bound B H)) (λ I.
          walks_then m j 0 j (hold_tree β Γ e B empty H (same_holds I)) _ (omega arith)
          (tree_walks e B empty H (same_holds I)) (λ J. walks_give m 0)))
      line_walks (loop x k ps us t) B P H =
          let n = suc (length us) in
          let i = tree_size t in
          let reads = loop_reads k us in
          walks_then m 0 (n + i) (n + i) (spend Γ (loop_hands k us) H) _ (omega arith)
          (spend_walks (loop_hands k us) H) (λ I.
          let O = set_aside Γ B reads I in
          walks_test m (n + i) _ _
          (walks_skip m (1 + length us) i (n + i) _ (omega arith)
          (walks_then m i 0 i
          (hold_tree β Γ t (lending Γ reads B) (arrays_in Γ (element_name k ps)) (hold_all Γ (carried_name k ps) O)
          (same_holds O)) _ (omega arith)
          (tree_walks t (lending Γ reads B) (arrays_in Γ (element_name k ps)) (hold_all Γ (carried_name k ps) O)
          (same_holds O)) (λ J. walks_give m 0))))
      line_walks (retain x) B P H = walks_test m 1 _ _ (walks_skip m 1 0 1 _ (omega arith) (walks_give m 0))
      line_walks (release x) B P H = walks_test m 1 _ _ (walks_skip m 1 0 1 _ (omega arith) (walks_give m 0))

    function_walks : (b : ℕ → Bool) (g : Lent) →
        Walks m (function_size g) (hold_function β Γ b (names_of g) g.tree)
    unfolding hold_function
    function_walks b g =
        let xs = names_of g in
        let i = tree_size g.tree in
        walks_skip m (1 + length xs) i (function_size g) _
        (omega (arith, length-map g.parameters (λ (x : Parameter). x.id)))
        (tree_walks g.tree (arrays_in Γ (picked b 0 xs)) empty
        (hold_all Γ (picked (λ n. not (b n)) 0 xs) none_held) (same_holds none_held))

functions_walk : (m : ℕ) (β : Borrowing) (f : ℕ) (gs : List Lent) (Γs : List NameDepths) →
    Walks m (code_size gs) (hold_functions β f gs Γs)
unfolding hold_functions code_size
functions_walk m β f [] Γs = walks_give m 0
functions_walk m β f (g ∷ gs) [] = walks_give m (function_size g + code_size gs)
functions_walk m β f (g ∷ gs) (Γ ∷ Γs) =
    walks_then m (function_size g) (code_size gs) (function_size g + code_size gs)
    (hold_function β Γ (β f) (names_of g) g.tree) _ (omega arith) (function_walks m Γ β (β f) g)
    (λ I. functions_walk m β (suc f) gs Γs)

-- code of at most m lines
pub hold_stops : (m : ℕ) (gs : List Lent) (Γs : List NameDepths) → code_size gs ≤ m → StopsAtMost m (hold gs Γs)
unfolding hold
hold_stops m gs Γs h =
    let n = code_size gs in
    let T = lent_table gs in
    let run = hold_functions (borrows T) 0 gs Γs in
    walks_whole m n (run >>= λ u. give T) h
    (walks_then m n 0 n run (λ u. give T) (omega arith) (functions_walk m (borrows T) 0 gs Γs) (λ u. walks_give m 0))
