-- Document 02, order 10: the depths and scopes of lent code, the second of the checker's three tests.
-- The state is the number of the next line; at a stop it is the line at fault.
use Rattle.std.specs.Prelude.{ℕ, suc, Bool, true, not, ◌&&◌, List, [], ◌∷◌, ◌++◌, map, pos, length, get_or, eqb, ltb}
use Rattle.std.proofs.Math.Option.{Option, none, some}
use Rattle.semantics.specs.Basics.{updated}
use Rattle.semantics.specs.Outcome.{Outcome, ◌>>=◌, ◌>>◌, give}
use Rattle.semantics.specs.Kinds.{Loop, mapping, filtering, reducing, rewriting}
use Rattle.semantics.specs.Syntax.{Parameter}
use Rattle.semantics.specs.Types.{Signature, leaf_rule, loop_rule, same, is_none}
use Rattle.semantics.specs.Code.{Atom, number, name, Line, leaf, if_else, loop, retain, release, Tree, end, line}
use Rattle.semantics.specs.Live.{Set, empty, ◌∪◌, only, just}
pub use Rattle.semantics.specs.Live.{known_after as scope_after}
use Rattle.semantics.specs.Annotate.{NameDepths, atom_depth, depth_of, pass_depths}
use Rattle.semantics_lent.specs.Form.{Test, fault, must, skip, Lent}

-- ---- names

-- the names bound so far in a function, and their depths
pub record Bound : Type 0 where
  pub names : Set
  pub depths : NameDepths

abbrev pub nothing_bound : Bound
nothing_bound = record { names = empty; depths = λ _. 0 }

abbrev pub with_name : ℕ → ℕ → Bound → Bound
with_name x d N = record { names = N.names ∪ only x; depths = updated N.depths x d }

abbrev pub with_names : List ℕ → List ℕ → Bound → Bound
with_names [] ds N = N
with_names (x ∷ xs) [] N = N
with_names (x ∷ xs) (d ∷ ds) N = with_names xs ds (with_name x d N)

-- none of some names is bound, and none stands twice among them
abbrev pub all_new : List ℕ → Set → Bool
all_new [] S = true
all_new (x ∷ xs) S = not (S x) && all_new xs (S ∪ only x)

-- an atom is a number, or a name that may be used where the names S may
abbrev pub in_scope : Set → Atom → Bool
in_scope S (number z) = true
in_scope S (name x) = S x

abbrev pub all_in_scope : Set → List Atom → Bool
all_in_scope S [] = true
all_in_scope S (a ∷ us) = in_scope S a && all_in_scope S us

-- ---- depths

-- what a loop goes over: an array, of numbers where it is rewritten
abbrev pub is_looped : Loop → NameDepths → List Atom → Bool
is_looped mapping Γ us = ltb 0 (depth_of Γ us 0)
is_looped filtering Γ us = ltb 0 (depth_of Γ us 0)
is_looped reducing Γ us = ltb 0 (depth_of Γ us 1)
is_looped rewriting Γ us = eqb (depth_of Γ us 0) 1

-- the depth of a loop whose tree gives depth e
abbrev pub loop_gives : Loop → NameDepths → List Atom → ℕ → Option ℕ
loop_gives k Γ us e = loop_rule k (map (atom_depth Γ) us ++ (e ∷ []))

abbrev pub depth_or_fault : Option ℕ → Test ℕ
depth_or_fault (some d) = give d
depth_or_fault none = fault

-- ---- lines and trees

-- what is found of a tree: the names bound so far, and its depth
pub record Fitted : Type 0 where
  pub bound : Bound
  pub depth : ℕ

-- over the depths of the functions' parameters and results
module _ (signatures : ℕ → Signature) where
  unfoldable mutual
    -- a tree in which the names S may be used; its depth is tested at its end line
    pub fit_tree : Tree → (ℕ → Bool) → Set → Bound → Test Fitted
    fit_tree (end a) gives S N = do
      must (in_scope S a && gives (atom_depth N.depths a))
      skip 2
      give (record { bound = N; depth = atom_depth N.depths a })
    fit_tree (line l t) gives S N = do
      M ← fit_line l S N
      fit_tree t gives (scope_after l S) M

    -- a line: the names bound after it
    pub fit_line : Line → Set → Bound → Test Bound
    fit_line (leaf x l us) S N = do
      must (all_in_scope S us && not (N.names x))
      d ← depth_or_fault (leaf_rule signatures l (map (atom_depth N.depths) us))
      skip (suc (length us))
      give (with_name x d N)
    fit_line (if_else x g t e) S N = do
      must (in_scope S g && (eqb (atom_depth N.depths g) 0 && not (N.names x)))
      skip 2
      A ← fit_tree t (λ _. true) S (with_name x 0 N)
      B ← fit_tree e (eqb A.depth) S A.bound
      give (with_name x B.depth B.bound)
    fit_line (loop x k ps us t) S N = do
      let Γ = N.depths
      must (all_in_scope S us && (is_looped k Γ us && all_new (x ∷ ps) N.names))
      skip (suc (length us))
      A ← fit_tree t (λ e. not (is_none (loop_gives k Γ us e))) (S ∪ just ps)
          (with_names ps (pass_depths k Γ us) (with_name x 0 N))
      d ← depth_or_fault (loop_gives k Γ us A.depth)
      give (with_name x d A.bound)
    fit_line (retain x) S N = do must (S x && ltb 0 (N.depths x)); skip 1; give N
    fit_line (release x) S N = do must (S x && ltb 0 (N.depths x)); skip 1; give N

  -- ---- functions

  unfoldable pub fit_parameters : List Parameter → Bound → Test Bound
  fit_parameters [] N = give N
  fit_parameters (x ∷ xs) N = do
    must (not (N.names x.id))
    skip 1
    fit_parameters xs (with_name x.id x.depth N)

  -- the depths of the names of a function
  unfoldable pub fit_function : Lent → Test NameDepths
  fit_function g = do
    skip 1
    N ← fit_parameters g.parameters nothing_bound
    A ← fit_tree g.tree (eqb g.result) N.names N
    give A.bound.depths

  unfoldable pub fit_functions : List Lent → Test (List NameDepths)
  fit_functions [] = give []
  fit_functions (g ∷ gs) = do Γ ← fit_function g; Γs ← fit_functions gs; give (Γ ∷ Γs)

-- ---- the whole code

abbrev pub lent_signature : Lent → Signature
lent_signature g = record { parameters = map (λ x. x.depth) g.parameters; result = g.result }

abbrev pub no_lent : Lent
no_lent = record { parameters = []; result = 0; tree = end (number (pos 0)) }

abbrev pub lent_signatures : List Lent → ℕ → Signature
lent_signatures gs f = lent_signature (get_or gs f no_lent)

-- main of depth d takes the totals and the readings, and gives new totals
abbrev pub is_main : ℕ → Signature → Bool
is_main d s = same s.parameters (d ∷ 1 ∷ []) && eqb s.result d

-- the depths of the names of each function, for main of depth d; main's shape is tested at line 0
unfoldable pub fit : ℕ → List Lent → Outcome ℕ (List NameDepths)
fit d gs = (do must (is_main d (lent_signatures gs 0)); fit_functions (lent_signatures gs) gs) 0
