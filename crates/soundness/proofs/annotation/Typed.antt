-- Typed expressions within the reader's limits. What a leaf or a loop asks of depths is its rule in `Types`, so the two
-- records here serve the written nodes and the lines alike.
use Rattle.prelude.specs.Kit.{ℕ, ◌<◌, suc, pred, true, false, Bool, ◌≡◌, some, List, [], ◌∷◌, ◌++◌, length, get_or}
use Rattle.semantics.specs.Basics.{updated}
use Rattle.semantics.specs.Kinds.{Leaf, Loop, mapping, filtering, reducing, rewriting}
use Rattle.semantics.specs.Syntax as S
use Rattle.semantics.specs.Syntax.{Expr, number, name, let_in, leaf, if_else, loop, Exprs}
use Rattle.semantics.specs.Names.{calls_none}
use Rattle.semantics.specs.Types.{Signature, leaf_rule, loop_rule}
use Rattle.semantics.specs.Annotate.{with_depths}
use Rattle.discipline.proofs.machine.Discipline.{LeafLimits, array_place, loop_arity}

-- ---- the reader's limits

abbrev pub count : Exprs → ℕ
count S.none = 0
count (S.more e es) = suc (count es)

-- the loops that a script may have: a map that rewrites stands in code only
abbrev pub in_scripts : Loop → Bool
in_scripts mapping = true
in_scripts filtering = true
in_scripts reducing = true
in_scripts rewriting = false

abbrev mutual
  pub Limited : Expr → Type 0
  Limited (number z) = Unit {0}
  Limited (name x) = Unit {0}
  Limited (let_in x a b) = Limited a × Limited b
  Limited (leaf l es) = LeafLimits l (count es) × AllLimited es
  Limited (if_else a b c) = Limited a × Limited b × Limited c
  Limited (loop k xs es b) =
      (length xs ≡ loop_arity k) × (count es ≡ loop_arity k) × AllLimited es × Limited b × (in_scripts k ≡ true)

  pub AllLimited : Exprs → Type 0
  AllLimited S.none = Unit {0}
  AllLimited (S.more e es) = Limited e × AllLimited es

-- every call is of a function that is there
abbrev mutual
  pub Called : ℕ → Expr → Type 0
  Called functions (number z) = Unit {0}
  Called functions (name x) = Unit {0}
  Called functions (let_in x a b) = Called functions a × Called functions b
  Called functions (leaf l es) = (calls_none functions l ≡ false) × AllCalled functions es
  Called functions (if_else a b c) = Called functions a × Called functions b × Called functions c
  Called functions (loop k xs es b) = AllCalled functions es × Called functions b

  pub AllCalled : ℕ → Exprs → Type 0
  AllCalled functions S.none = Unit {0}
  AllCalled functions (S.more e es) = Called functions e × AllCalled functions es

-- ---- types

-- by the depths of a loop's parts: the array's depth, and the depths of the names of a pass
abbrev pub array_among : Loop → List ℕ → ℕ
array_among k ds = get_or ds (array_place k) 0

abbrev pub element_depths : Loop → List ℕ → List ℕ
element_depths mapping ds = pred (get_or ds 0 0) ∷ []
element_depths filtering ds = pred (get_or ds 0 0) ∷ []
element_depths reducing ds = get_or ds 0 0 ∷ pred (get_or ds 1 0) ∷ []
element_depths rewriting ds = pred (get_or ds 0 0) ∷ []

-- a loop with so many names and parts, over parts of the depths ds and a body of depth e
pub record LoopType (k : Loop) (names parts : ℕ) (ds : List ℕ) (e d : ℕ) : Type 0 where
  pub named : names ≡ loop_arity k
  pub parted : parts ≡ loop_arity k
  pub plain : in_scripts k ≡ true
  pub array : 0 < array_among k ds
  pub rule : loop_rule k (ds ++ (e ∷ [])) ≡ some d

-- how many functions there are, and the depths of their parameters and results
pub record Functions : Type 0 where
  pub number : ℕ
  pub signatures : ℕ → Signature

module _ (F : Functions) where
  -- a leaf with so many parts, of the depths ds
  pub record LeafType (l : Leaf) (parts : ℕ) (ds : List ℕ) (d : ℕ) : Type 0 where
    pub limits : LeafLimits l parts
    pub calls : calls_none F.number l ≡ false
    pub rule : leaf_rule F.signatures l ds ≡ some d

  -- an expression of depth d, where δ gives the depths of the written names
  abbrev mutual
    pub Typed : Expr → (ℕ → ℕ) → ℕ → Type 0
    Typed (number z) δ d = d ≡ 0
    Typed (name x) δ d = δ x ≡ d
    Typed (let_in x a b) δ d = (j : ℕ) × Typed a δ j × Typed b (updated δ x j) d
    Typed (leaf l es) δ d = (ds : List ℕ) × LeafType l (count es) ds d × AllTyped es δ ds
    Typed (if_else a b c) δ d = Typed a δ 0 × Typed b δ d × Typed c δ d
    Typed (loop k xs es b) δ d =
        (ds : List ℕ) × (e : ℕ) × LoopType k (length xs) (count es) ds e d × AllTyped es δ ds
        × Typed b (with_depths xs (element_depths k ds) δ) e

    pub AllTyped : Exprs → (ℕ → ℕ) → List ℕ → Type 0
    AllTyped S.none δ ds = ds ≡ []
    AllTyped (S.more e es) δ ds = (d : ℕ) × (rest : List ℕ) × (ds ≡ d ∷ rest) × Typed e δ d × AllTyped es δ rest
