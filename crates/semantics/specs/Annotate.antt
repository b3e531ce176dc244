-- Document 01, "The code": the retains and releases that the live sets require, and the code of a script; with
-- document 02's orders 7 and 8.
use Rattle.std.specs.Prelude.{ℕ, zero, suc, ◌+◌, ◌*◌, pred, Bool, true, false, cond, not, ◌&&◌, List, [], ◌∷◌, ◌++◌, length, eqb, ltb}
use Rattle.semantics.specs.Basics.{with_if, updated}
use Rattle.semantics.specs.Syntax.{Parameter, Function, Script, function_at}
use Rattle.semantics.specs.Kinds.{Leaf, operation, call, literal, index, length_of, iota, replicate, Loop}
use Rattle.semantics.specs.Kinds.{mapping, filtering, reducing, rewriting, Borrowing}
use Rattle.semantics.specs.Kinds.{leaf_hands, leaf_reads, loop_hands, loop_reads, element_name, is_pending}
use Rattle.semantics.specs.Code.{Atom, number, name, Line, leaf, if_else, loop, retain, release, Tree, end, line}
use Rattle.semantics.specs.Code.{ending, retain_all, release_all}
use Rattle.semantics.specs.Code.{Row, row, rows}
use Rattle.semantics.specs.Normal.{normal_body}
use Rattle.semantics.specs.Borrow.{Table, borrows, borrowed}
use Rattle.semantics.specs.Live.{Set, empty, ◌∪◌, ◌∖◌, ◌∖∖◌, only, just, among, members, live, uses}
use Rattle.semantics.specs.Live.{after_branch}
use Rattle.semantics.specs.Live.{after_pass}

-- ---- the depths of a function's new names

-- the depth of each new name
abbrev pub NameDepths : Type 0
NameDepths = ℕ → ℕ

abbrev pub atom_depth : NameDepths → Atom → ℕ
atom_depth Γ (number z) = 0
atom_depth Γ (name x) = Γ x

-- the depth of the i-th atom
abbrev pub depth_of : NameDepths → List Atom → ℕ → ℕ
depth_of Γ [] i = 0
depth_of Γ (a ∷ us) zero = atom_depth Γ a
depth_of Γ (a ∷ us) (suc i) = depth_of Γ us i

-- the depths of the names of a pass
abbrev pub pass_depths : Loop → NameDepths → List Atom → List ℕ
pass_depths mapping Γ us = pred (depth_of Γ us 0) ∷ []
pass_depths filtering Γ us = pred (depth_of Γ us 0) ∷ []
pass_depths reducing Γ us = depth_of Γ us 0 ∷ pred (depth_of Γ us 1) ∷ []
pass_depths rewriting Γ us = pred (depth_of Γ us 0) ∷ []

abbrev pub with_depths : List ℕ → List ℕ → NameDepths → NameDepths
with_depths [] ds Γ = Γ
with_depths (x ∷ xs) [] Γ = Γ
with_depths (x ∷ xs) (d ∷ ds) Γ = with_depths xs ds (updated Γ x d)

-- the depth of what a loop gives, by its atoms and the atom that its tree gives
abbrev pub loop_depth : Loop → NameDepths → List Atom → Atom → ℕ
loop_depth mapping Γ us a = suc (atom_depth Γ a)
loop_depth filtering Γ us a = depth_of Γ us 0
loop_depth reducing Γ us a = depth_of Γ us 0
loop_depth rewriting Γ us a = suc (atom_depth Γ a)

-- over the result depths of the script's functions
module _ (results : ℕ → ℕ) where
  abbrev pub leaf_depth : Leaf → NameDepths → List Atom → ℕ
  leaf_depth (operation o) Γ us = 0
  leaf_depth (call f) Γ us = results f
  leaf_depth (literal d) Γ us = suc d
  leaf_depth index Γ us = pred (depth_of Γ us 0)
  leaf_depth length_of Γ us = 0
  leaf_depth iota Γ us = 1
  leaf_depth replicate Γ us = suc (depth_of Γ us 1)

  unfoldable mutual
    -- with the depths of all names that a tree binds, in the trees of its lines too
    pub tree_depths : Tree → NameDepths → NameDepths
    tree_depths (end a) Γ = Γ
    tree_depths (line l t) Γ = tree_depths t (line_depths l Γ)

    -- with those of a line: what it gives goes by its atoms, or by the atom that its tree gives
    pub line_depths : Line → NameDepths → NameDepths
    line_depths (leaf x l us) Γ = updated Γ x (leaf_depth l Γ us)
    line_depths (if_else x g t e) Γ =
        let Δ = tree_depths e (tree_depths t Γ) in
        updated Δ x (atom_depth Δ (ending t))
    line_depths (loop x k ps us t) Γ =
        let Δ = tree_depths t (with_depths ps (pass_depths k Γ us) Γ) in
        updated Δ x (loop_depth k Δ us (ending t))
    line_depths (retain x) Γ = Γ
    line_depths (release x) Γ = Γ

unfoldable pub parameter_depths_from : List Parameter → ℕ → NameDepths
parameter_depths_from [] n = λ _. 0
parameter_depths_from (x ∷ xs) n = updated (parameter_depths_from xs (suc n)) n x.depth

abbrev pub result_of : Script → ℕ → ℕ
result_of fs f = (function_at fs f).result

-- the depths of all new names of a function
unfoldable pub depths_of : Script → Function → NameDepths
depths_of fs g = tree_depths (result_of fs) (normal_body g) (parameter_depths_from g.parameters 0)

-- ---- retains and releases

module _ (Γ : NameDepths) where
  -- only names of depth 1 or more are annotated
  abbrev pub is_array : ℕ → Bool
  is_array x = ltb 0 (Γ x)

  -- the arrays among some names
  unfoldable pub arrays : List ℕ → List ℕ
  arrays [] = []
  arrays (x ∷ xs) = with_if (is_array x) x (arrays xs)

  -- the names to release: those used and not live
  unfoldable pub dying : Set → Set → List ℕ
  dying used A = members (λ x. used x && (is_array x && not (A x)))

  -- the names to retain before some atoms are handed over: for each atom, if it is live after or occurs again later
  unfoldable pub handed_again : List Atom → Set → List ℕ
  handed_again [] A = []
  handed_again (number z ∷ us) A = handed_again us A
  handed_again (name x ∷ us) A = with_if (is_array x && among us A x) x (handed_again us A)

-- Which of document 02's later orders an annotation follows: all, but where it is compared with one that does not.
pub record Style : Type 0 where
  -- order 8: maps rewrite arrays of numbers that die there
  pub rewrites : Bool

abbrev pub full_style : Style
full_style = record { rewrites = true }

-- over the places that are borrowed
module _ (style : Style) (B : Borrowing) (Γ : NameDepths) where
  -- Whether a map that binds x, after which A is live, rewrites its array: a name that is annotated, with numbers, for
  -- numbers, not live afterwards and not used in the map's tree.
  abbrev pub rewritable : ℕ → List ℕ → List Atom → Tree → Set → Bool
  rewritable x ps [] t A = false
  rewritable x ps (number z ∷ us) t A = false
  rewritable x ps (name y ∷ us) t A =
      style.rewrites && (eqb (Γ y) 1 && (eqb (Γ x) 1 && (not (A y) && not ((uses t ∖∖ ps) y))))

  -- the loop that is written
  abbrev pub written : Loop → ℕ → List ℕ → List Atom → Tree → Set → Loop
  written mapping x ps us t A = cond (rewritable x ps us t A) rewriting mapping
  written filtering x ps us t A = filtering
  written reducing x ps us t A = reducing
  written rewriting x ps us t A = rewriting

  unfoldable mutual
    -- a tree, after which L is live
    pub annotate : Tree → Set → Tree
    annotate (end a) L = retain_all (handed_again Γ (a ∷ []) L) (end a)
    annotate (line l t) L = annotate_line l (live t L) (annotate t L)

    -- a line, after which A is live and the tree k follows
    pub annotate_line : Line → Set → Tree → Tree
    annotate_line (leaf x l us) A k =
        let R = among (leaf_reads B l us) empty in
        let k' = release_all (dying Γ (R ∪ only x) A) k in
        retain_all (handed_again Γ (leaf_hands B l us) (R ∪ A))
        (line (leaf x l us) (retain_all (with_if (is_pending l && is_array Γ x) x []) k'))
    annotate_line (if_else x g t e) A k =
        let L = after_branch x A in
        let t' = release_all (dying Γ (uses e) (live t L)) (annotate t L) in
        let e' = release_all (dying Γ (uses t) (live e L)) (annotate e L) in
        line (if_else x g t' e') (release_all (dying Γ (only x) A) k)
    annotate_line (loop x i ps us t) A k =
        let j = written i x ps us t A in
        let L = after_pass x ps t A in
        let R = among (loop_reads j us) (uses t ∖∖ ps) in
        let opened = release_all (dying Γ (just ps) (live t L)) (annotate t L) in
        let t' = retain_all (arrays Γ (element_name j ps)) opened in
        retain_all (handed_again Γ (loop_hands j us) (R ∪ A))
        (line (loop x j ps us t') (release_all (dying Γ (R ∪ only x) A) k))
    annotate_line (retain x) A k = line (retain x) k
    annotate_line (release x) A k = line (release x) k

-- The depths by which the names of function f are annotated. A borrowed parameter is never handed over, so no retain is
-- due, and is never released: like a number, it is left alone.
unfoldable pub owned_depths : Script → Table → ℕ → Function → NameDepths
owned_depths fs T f g = λ x. cond (ltb x (length g.parameters) && borrows T f x) 0 (depths_of fs g x)

-- the annotated tree of function f: it opens by releasing the unused parameters
unfoldable pub annotated_in : Style → Script → Table → ℕ → Function → Tree
annotated_in style fs T f g =
    let Γ = owned_depths fs T f g in
    let t = normal_body g in
    release_all (dying Γ (λ x. ltb x (length g.parameters)) (uses t)) (annotate style (borrows T) Γ t empty)

abbrev pub annotated_body : Script → Table → ℕ → Function → Tree
annotated_body = annotated_in full_style

-- ---- the code

unfoldable pub parameter_rows : List Parameter → ℕ → List Row
parameter_rows [] n = []
parameter_rows (x ∷ xs) n = row 1 (n + 256 * x.depth) ∷ parameter_rows xs (suc n)

unfoldable pub function_rows : Script → Table → ℕ → Function → List Row
function_rows fs T f g =
    row 0 (length g.parameters + 256 * g.result)
    ∷ (parameter_rows g.parameters 0 ++ rows (annotated_body fs T f g))

-- the rows of some functions of a script, the first of which has number f
unfoldable pub functions_rows : Script → Table → ℕ → List Function → List Row
functions_rows fs T f [] = []
functions_rows fs T f (g ∷ gs) = function_rows fs T f g ++ functions_rows fs T (suc f) gs

-- the code of a script, line by line
unfoldable pub code : Script → List Row
code fs = functions_rows fs (borrowed fs) 0 fs
