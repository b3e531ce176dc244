-- The second test, of depths and scopes, walks over the lines of its trees and functions.
use Rattle.std.specs.Prelude.{ℕ, ◌≤◌, ◌+◌, suc, true, Bool, not, List, [], ◌∷◌, map, eqb, length}
use Rattle.prelude.specs.Kit.{arith, some, none, Option}
use Rattle.semantics.specs.Outcome.{onward, ◌>>=◌}
use Rattle.semantics.specs.Syntax.{Parameter}
use Rattle.semantics.specs.Types.{Signature, leaf_rule, is_none}
use Rattle.semantics.specs.Code.{Line, leaf, if_else, loop, retain, release, Tree, end, line}
use Rattle.semantics.specs.Live.{Set, ◌∪◌, just}
use Rattle.semantics.specs.Annotate.{atom_depth, pass_depths}
use Rattle.semantics_lent.specs.Form.{Test, must, Lent}
use Rattle.semantics_lent.specs.Fit.{Bound, nothing_bound, with_name, with_names, scope_after, loop_gives}
use Rattle.semantics_lent.specs.Fit.{depth_or_fault, fit_tree, fit_line, fit_parameters, fit_function, fit_functions}
use Rattle.semantics_lent.specs.Fit.{lent_signatures, is_main, fit}
use Rattle.lent_stops.specs.Stops.{StopsAtMost}
use Rattle.lent_stops.specs.Sizes.{tree_size, line_size, function_size, code_size}
use Rattle.lent_stops.specs.Walks.{Walks, walks_then, walks_test, walks_skip, walks_give, walks_whole}

-- a depth that is given, if any
depth_walks : {A : Type 0} (m n : ℕ) (o : Option ℕ) (f : ℕ → Test A) → ((d : ℕ) → Walks m n (f d)) →
    Walks m n (depth_or_fault o >>= f)
unfolding onward
depth_walks m n (some d) f next more s e = next d more s e
depth_walks m n none f next more s e = omega (arith, e)

-- over the bound, and the depths of the functions' parameters and results
module _ (m : ℕ) (signatures : ℕ → Signature) where
  mutual
    unfolding fit_tree fit_line tree_size line_size

    tree_walks : (t : Tree) (gives : ℕ → Bool) (S : Set) (N : Bound) →
        Walks m (tree_size t) (fit_tree signatures t gives S N)
    tree_walks (end a) gives S N = walks_test m 2 _ _ (walks_skip m 2 0 2 _ (omega arith) (walks_give m 0))
    tree_walks (line l t) gives S N =
        walks_then m (line_size l) (tree_size t) (line_size l + tree_size t) (fit_line signatures l S N) _ (omega arith)
        (line_walks l S N) (λ M. tree_walks t gives (scope_after l S) M)

    line_walks : (l : Line) (S : Set) (N : Bound) → Walks m (line_size l) (fit_line signatures l S N)
    line_walks (leaf x l us) S N =
        let n = suc (length us) in
        walks_test m n _ _
        (depth_walks m n (leaf_rule signatures l (map (atom_depth N.depths) us)) _
        (λ d. walks_skip m n 0 n _ (omega arith) (walks_give m 0)))
    line_walks (if_else x g t e) S N =
        let i = tree_size t in
        let j = tree_size e in
        walks_test m (2 + (i + j)) _ _
        (walks_skip m 2 (i + j) (2 + (i + j)) _ (omega arith)
        (walks_then m i j (i + j) (fit_tree signatures t (λ _. true) S (with_name x 0 N)) _ (omega arith)
        (tree_walks t (λ _. true) S (with_name x 0 N)) (λ A.
        walks_then m j 0 j (fit_tree signatures e (eqb A.depth) S A.bound) _ (omega arith)
        (tree_walks e (eqb A.depth) S A.bound) (λ B. walks_give m 0))))
    line_walks (loop x k ps us t) S N =
        let Γ = N.depths in
        let n = suc (length us) in
        let i = tree_size t in
        let gives : ℕ → Bool = λ d. not (is_none (loop_gives k Γ us d)) in
        let M = with_names ps (pass_depths k Γ us) (with_name x 0 N) in
        walks_test m (n + i) _ _
        (walks_skip m n i (n + i) _ (omega arith)
        (walks_then m i 0 i (fit_tree signatures t gives (S ∪ just ps) M) _ (omega arith)
        (tree_walks t gives (S ∪ just ps) M) (λ A.
        depth_walks m 0 (loop_gives k Γ us A.depth) _ (λ d. walks_give m 0))))
    line_walks (retain x) S N = walks_test m 1 _ _ (walks_skip m 1 0 1 _ (omega arith) (walks_give m 0))
    line_walks (release x) S N = walks_test m 1 _ _ (walks_skip m 1 0 1 _ (omega arith) (walks_give m 0))

  parameters_walk : (xs : List Parameter) (N : Bound) → Walks m (length xs) (fit_parameters signatures xs N)
  unfolding fit_parameters
  parameters_walk [] N = walks_give m 0
  parameters_walk (x ∷ xs) N =
      walks_test m (suc (length xs)) _ _
      (walks_skip m 1 (length xs) (suc (length xs)) _ (omega arith)
      (parameters_walk xs (with_name x.id x.depth N)))

  function_walks : (g : Lent) → Walks m (function_size g) (fit_function signatures g)
  unfolding fit_function
  function_walks g =
      let n = length g.parameters in
      let i = tree_size g.tree in
      walks_skip m 1 (n + i) (suc n + i) _ (omega arith)
      (walks_then m n i (n + i) (fit_parameters signatures g.parameters nothing_bound) _ (omega arith)
      (parameters_walk g.parameters nothing_bound) (λ N.
      walks_then m i 0 i (fit_tree signatures g.tree (eqb g.result) N.names N) _ (omega arith)
      (tree_walks g.tree (eqb g.result) N.names N) (λ A. walks_give m 0)))

  functions_walk : (gs : List Lent) → Walks m (code_size gs) (fit_functions signatures gs)
  unfolding fit_functions code_size
  functions_walk [] = walks_give m 0
  functions_walk (g ∷ gs) =
      walks_then m (function_size g) (code_size gs) (function_size g + code_size gs) (fit_function signatures g) _
      (omega arith) (function_walks g) (λ Γ.
      walks_then m (code_size gs) 0 (code_size gs) (fit_functions signatures gs) _ (omega arith) (functions_walk gs)
      (λ Γs. walks_give m 0))

-- code of at most m lines
pub fit_stops : (m d : ℕ) (gs : List Lent) → code_size gs ≤ m → StopsAtMost m (fit d gs)
unfolding fit
fit_stops m d gs h =
    walks_whole m (code_size gs)
    (must (is_main d (lent_signatures gs 0)) >>= λ u. fit_functions (lent_signatures gs) gs) h
    (walks_test m (code_size gs) _ _ (functions_walk m (lent_signatures gs) gs))
