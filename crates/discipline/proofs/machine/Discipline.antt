-- What is asked of the annotated trees of a program, in four parts, each with one clause for all leaves and one for all
-- loops: the depths fit, every name is known where it is used, every reference is held where it is spent or read, and
-- no hold outlives its name.
-- A hold is a name in a list, once for each reference. What a line hands over or releases it spends. A name that is
-- pending holds nothing yet, and may be retained by the very next line. A name that is lent holds nothing, but another
-- holds its cell meanwhile: it may be read and retained. A loop lends its array to its tree, unless it rewrites it and
-- so has it handed over; and a call lends the arguments that its function borrows.
-- The holds after a line are computed from those before it, so that every rule is a test of the holds.
use Rattle.prelude.specs.Kit.{ℕ, ◌≤◌, ◌<◌, suc, true, false, Bool, cond, not, ◌≡◌, some, List, [], ◌∷◌, ◌++◌, map, eqb}
use Rattle.prelude.specs.Kit.{length}
use Rattle.semantics.specs.Basics.{with_if, occurrences, ◌∈◌}
use Rattle.semantics.specs.Kinds.{Leaf, operation, call, literal, index, length_of, iota, replicate, Loop, mapping}
use Rattle.semantics.specs.Kinds.{filtering, reducing, rewriting, carried_name, picked, leaf_hands, leaf_reads}
use Rattle.semantics.specs.Kinds.{loop_hands, loop_reads, element_name, is_pending, Borrowing}
use Rattle.semantics.specs.Names.{calls_none}
use Rattle.semantics.specs.Types.{Signature, leaf_rule, loop_rule}
use Rattle.semantics.specs.Code.{Atom, number, name, Line, leaf, if_else, loop, retain, release, Tree, end, line}
use Rattle.semantics.specs.Code.{ending}
use Rattle.semantics.specs.Live.{Set, empty, ◌∪◌, ◌∖◌, only, just, among, live, after_branch, after_pass}
pub use Rattle.semantics.specs.Live.{known_after}
use Rattle.semantics.specs.Annotate.{NameDepths, atom_depth, depth_of, is_array, pass_depths}
use Rattle.semantics.specs.Machine.{Routine, Program, routine_of}
use Rattle.laws.specs.Lists.{◌≈◌, ◌⊆◌}

-- ---- depths

-- how many parts a leaf may have; a literal's elements are of depth 3 at most
abbrev pub LeafLimits : Leaf → ℕ → Type 0
LeafLimits (operation o) n = n ≡ 2
LeafLimits (call f) n = Unit {0}
LeafLimits (literal d) n = (n ≤ 16) × (d ≤ 3)
LeafLimits index n = n ≡ 2
LeafLimits length_of n = n ≡ 1
LeafLimits iota n = n ≡ 1
LeafLimits replicate n = n ≡ 2

-- the place of a loop's array among its parts before the body: it is the last; a pass has as many names
abbrev pub array_place : Loop → ℕ
array_place mapping = 0
array_place filtering = 0
array_place reducing = 1
array_place rewriting = 0

abbrev pub loop_arity : Loop → ℕ
loop_arity k = suc (array_place k)

-- over a program and the depths of the names of one of its functions
module _ (p : Program) (Γ : NameDepths) where
  abbrev pub depths_of_atoms : List Atom → List ℕ
  depths_of_atoms us = map (atom_depth Γ) us

  -- a leaf that binds x
  pub record LeafFits (x : ℕ) (l : Leaf) (us : List Atom) : Type 0 where
    pub limits : LeafLimits l (length us)
    pub calls : calls_none (length p.routines) l ≡ false
    pub gives : leaf_rule p.signatures l (depths_of_atoms us) ≡ some (Γ x)

  -- a loop that binds x, with the names ps of a pass, whose tree gives depth d
  pub record LoopFits (x : ℕ) (k : Loop) (ps : List ℕ) (us : List Atom) (d : ℕ) : Type 0 where
    pub limits : length us ≡ loop_arity k
    pub deep : 0 < depth_of Γ us (array_place k)
    pub names : map Γ ps ≡ pass_depths k Γ us
    pub gives : loop_rule k (depths_of_atoms us ++ (d ∷ [])) ≡ some (Γ x)

  abbrev mutual
    -- a tree that gives depth d
    pub Fitting : Tree → ℕ → Type 0
    Fitting (end a) d = atom_depth Γ a ≡ d
    Fitting (line l t) d = LineFitting l × Fitting t d

    pub LineFitting : Line → Type 0
    LineFitting (leaf x l us) = LeafFits x l us
    LineFitting (if_else x g t e) = (atom_depth Γ g ≡ 0) × Fitting t (Γ x) × Fitting e (Γ x)
    LineFitting (loop x k ps us t) =
        LoopFits x k ps us (atom_depth Γ (ending t)) × Fitting t (atom_depth Γ (ending t))
    LineFitting (retain x) = 0 < Γ x
    LineFitting (release x) = 0 < Γ x

-- ---- names

abbrev pub Known : Atom → Set → Type 0
Known (number z) S = Unit {0}
Known (name x) S = S x ≡ true

abbrev pub AllKnown : List Atom → Set → Type 0
AllKnown [] S = Unit {0}
AllKnown (a ∷ us) S = Known a S × AllKnown us S

-- a name that may be bound
pub record New (x : ℕ) (S : Set) : Type 0 where
  pub unknown : S x ≡ false
  pub small : x < 256

abbrev pub AllNew : List ℕ → Set → Type 0
AllNew [] S = Unit {0}
AllNew (x ∷ xs) S = New x S × AllNew xs (S ∪ only x)

abbrev mutual
  -- a tree before which the names S are known
  pub Scoped : Tree → Set → Type 0
  Scoped (end a) S = Known a S
  Scoped (line l t) S = LineScoped l S × Scoped t (known_after l S)

  pub LineScoped : Line → Set → Type 0
  LineScoped (leaf x l us) S = AllKnown us S × New x S
  LineScoped (if_else x g t e) S = Known g S × New x S × Scoped t S × Scoped e S
  LineScoped (loop x k ps us t) S = AllKnown us S × New x S × AllNew ps S × Scoped t (S ∪ just ps)
  LineScoped (retain x) S = S x ≡ true
  LineScoped (release x) S = S x ≡ true

-- ---- holds

-- one of the occurrences of a name taken out, if it has any
unfoldable pub without : ℕ → List ℕ → List ℕ
without x [] = []
without x (y ∷ H) = cond (eqb x y) H (y ∷ without x H)

-- some holds spent
unfoldable pub less : List ℕ → List ℕ → List ℕ
less [] H = H
less (x ∷ l) H = less l (without x H)

-- each name stands in H at least as often
abbrev pub ◌⊑◌ : List ℕ → List ℕ → Type 0
◌⊑◌ l H = (n : ℕ) → occurrences n l ≤ occurrences n H

infix 25 ◌⊑◌
-- those of some names that B has not
unfoldable pub unlent : List ℕ → List ℕ → List ℕ
unlent B [] = []
unlent B (x ∷ l) = with_if (eqb (occurrences x B) 0) x (unlent B l)

-- over the depths of a function's names
module _ (Γ : NameDepths) where
  -- a name holds a reference only if it is an array
  abbrev pub hold_of : ℕ → List ℕ
  hold_of x = with_if (is_array Γ x) x []

  abbrev pub holds_of : List ℕ → List ℕ
  holds_of [] = []
  holds_of (x ∷ xs) = hold_of x ++ holds_of xs

  -- the arrays among some atoms, each as often as it stands there
  abbrev pub handed : List Atom → List ℕ
  handed [] = []
  handed (number z ∷ us) = handed us
  handed (name x ∷ us) = hold_of x ++ handed us

  -- what a leaf's result holds, and what then is pending
  abbrev pub leaf_holds : ℕ → Leaf → List ℕ
  leaf_holds x l = cond (is_pending l) [] (hold_of x)

  abbrev pub leaf_waits : ℕ → Leaf → List ℕ
  leaf_waits x l = cond (is_pending l) (hold_of x) []

  -- the names that are pending after a line
  abbrev pub waits_after : Line → List ℕ
  waits_after (leaf x l us) = leaf_waits x l
  waits_after (if_else x g t e) = []
  waits_after (loop x k ps us t) = []
  waits_after (retain x) = []
  waits_after (release x) = []

  -- The holds of a loop once what it hands over is spent; of these one of its array is set aside for the passes, if it
  -- is not lent already; the others are the outer holds of a pass, which begins with the carried names' beside them.
  abbrev pub loop_holds : Loop → List Atom → List ℕ → List ℕ
  loop_holds k us H = less (handed (loop_hands k us)) H

  abbrev pub aside : List ℕ → Loop → List Atom → List ℕ
  aside B k us = unlent B (handed (loop_reads k us))

  abbrev pub outer_holds : List ℕ → Loop → List Atom → List ℕ → List ℕ
  outer_holds B k us H = less (aside B k us) (loop_holds k us H)

  abbrev pub pass_lent : List ℕ → Loop → List Atom → List ℕ
  pass_lent B k us = handed (loop_reads k us) ++ B

  abbrev pub pass_holds : List ℕ → Loop → List ℕ → List Atom → List ℕ → List ℕ
  pass_holds B k ps us H = holds_of (carried_name k ps) ++ outer_holds B k us H

  -- ---- holds that are live

  -- every held name is an array in the set: so its cell is among `Machine.held`
  pub record Covered (H : List ℕ) (A : Set) : Type 0 where
    pub live : (n : ℕ) → n ∈ H → A n ≡ true
    pub below : (n : ℕ) → n ∈ H → n < 256
    pub array : (n : ℕ) → n ∈ H → is_array Γ n ≡ true

-- over the places that are borrowed and the depths of a function's names
module _ (β : Borrowing) (Γ : NameDepths) where
  unfoldable mutual
    -- the holds that a tree leaves
    pub left_by : Tree → List ℕ → List ℕ
    left_by (end a) H = less (handed Γ (a ∷ [])) H
    left_by (line l t) H = left_by t (holds_after l H)

    -- the holds after a line
    pub holds_after : Line → List ℕ → List ℕ
    holds_after (leaf x l us) H = leaf_holds Γ x l ++ less (handed Γ (leaf_hands β l us)) H
    holds_after (if_else x g t e) H = hold_of Γ x ++ left_by t H
    holds_after (loop x k ps us t) H = hold_of Γ x ++ less (handed Γ (loop_hands k us)) H
    holds_after (retain x) H = x ∷ H
    holds_after (release x) H = less (x ∷ []) H

  abbrev mutual
    -- with the names B lent, from the holds H, with P pending, a tree hands over its result and leaves the holds Δ
    pub Holding : List ℕ → Tree → List ℕ → List ℕ → List ℕ → Type 0
    Holding B (end a) H P Δ = H ≈ handed Γ (a ∷ []) ++ Δ
    Holding B (line l t) H P Δ = LineHolding B l H P × Holding B t (holds_after l H) (waits_after Γ l) Δ

    pub LineHolding : List ℕ → Line → List ℕ → List ℕ → Type 0
    LineHolding B (leaf x l us) H P =
        (handed Γ (leaf_hands β l us) ⊑ H)
        × (handed Γ (leaf_reads β l us) ⊆ (B ++ less (handed Γ (leaf_hands β l us)) H))
    LineHolding B (if_else x g t e) H P =
        (left_by t H ⊆ (B ++ H)) × Holding B t H [] (left_by t H) × Holding B e H [] (left_by t H)
    LineHolding B (loop x k ps us t) H P =
        (handed Γ (loop_hands k us) ⊑ H) × (handed Γ (loop_reads k us) ⊆ (B ++ loop_holds Γ k us H))
        × Holding (pass_lent Γ B k us) t (pass_holds Γ B k ps us H) (holds_of Γ (element_name k ps))
        (outer_holds Γ B k us H)
    LineHolding B (retain x) H P = x ∈ (P ++ (B ++ H))
    LineHolding B (release x) H P = x ∈ H

  abbrev mutual
    -- wherever a tree may want a cell, what it holds is live; after the tree L is live
    pub Frugal : List ℕ → Tree → List ℕ → Set → Type 0
    Frugal B (end a) H L = Unit {0}
    Frugal B (line l t) H L = LineFrugal B l H (live t L) × Frugal B t (holds_after l H) L

    -- a line, after which A is live: before it, and once it has handed over its atoms
    pub LineFrugal : List ℕ → Line → List ℕ → Set → Type 0
    LineFrugal B (leaf x l us) H A =
        Covered Γ H (among us (A ∖ x))
        × Covered Γ (less (handed Γ (leaf_hands β l us)) H) (among (leaf_reads β l us) (A ∖ x))
    LineFrugal B (if_else x g t e) H A = Frugal B t H (after_branch x A) × Frugal B e H (after_branch x A)
    LineFrugal B (loop x k ps us t) H A =
        Covered Γ H (among us (after_pass x ps t A))
        × Frugal (pass_lent Γ B k us) t (pass_holds Γ B k ps us H) (after_pass x ps t A)
    LineFrugal B (retain x) H A = Unit {0}
    LineFrugal B (release x) H A = Unit {0}

-- ---- a program

-- the array parameters of a routine that borrows those at b: these are lent, the others hold one reference each
abbrev pub lent_parameters : (ℕ → Bool) → Routine → List ℕ
lent_parameters b r = holds_of r.depths (picked b 0 r.names)

abbrev pub parameter_holds : (ℕ → Bool) → Routine → List ℕ
parameter_holds b r = holds_of r.depths (picked (λ i. not (b i)) 0 r.names)

-- A routine with these depths of its parameters, no two of which have one name, and of its result, which borrows the
-- parameters at b: from one hold for each other array parameter to none.
pub record RoutineDisciplined (p : Program) (b : ℕ → Bool) (r : Routine) (s : Signature) : Type 0 where
  pub parameters : map r.depths r.names ≡ s.parameters
  pub new : AllNew r.names empty
  pub fits : Fitting p r.depths r.tree s.result
  pub scoped : Scoped r.tree (just r.names)
  pub holds : Holding p.borrowing r.depths (lent_parameters b r) r.tree (parameter_holds b r) [] []

abbrev pub FunctionDisciplined : Program → ℕ → Type 0
FunctionDisciplined p f = RoutineDisciplined p (p.borrowing f) (routine_of p f) (p.signatures f)

-- what is asked of a routine for every taken cell to be in use where none is free
abbrev pub RoutineFrugal : Borrowing → (ℕ → Bool) → Routine → Type 0
RoutineFrugal β b r = Frugal β r.depths (lent_parameters b r) r.tree (parameter_holds b r) empty

abbrev pub FunctionFrugal : Program → ℕ → Type 0
FunctionFrugal p f = RoutineFrugal p.borrowing (p.borrowing f) (routine_of p f)
