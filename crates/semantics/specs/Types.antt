-- Refusal 7 (document 01, "A depth is a type"): depths, and the nodes that break the rule, in rising order.
use Rattle.std.specs.Prelude.{ℕ, zero, suc, ◌+◌, Bool, true, false, cond, ◌&&◌, List, [], ◌∷◌, ◌++◌, map, length, eqb, leb}
use Rattle.std.proofs.Math.Option.{Option, none, some}
use Rattle.semantics.specs.Basics.{with_if, updated}
use Rattle.semantics.specs.Syntax as S
use Rattle.semantics.specs.Kinds.{Leaf, operation, call, literal, index, length_of, iota, replicate, Loop}
use Rattle.semantics.specs.Kinds.{mapping, filtering, reducing, rewriting}
use Rattle.semantics.specs.Syntax.{Expr, number, name, let_in, leaf, if_else, loop, Exprs, size, sizes, Parameter}
use Rattle.semantics.specs.Syntax.{Function, Script, function_at}
use Rattle.semantics.specs.Syntax.{function_size}

-- What is found of a tree: its depth, if it has one, and its nodes that break the rule.
pub record Checked : Type 0 where
  pub depth : Option ℕ
  pub faults : List ℕ

-- the depths of the names in scope; a name bound to a part without depth has none
abbrev pub Depths : Type 0
Depths = ℕ → Option ℕ

abbrev pub and_more : Option ℕ → Option (List ℕ) → Option (List ℕ)
and_more (some d) (some ds) = some (d ∷ ds)
and_more (some d) none = none
and_more none ds = none

-- the depths of all parts, if each has one
abbrev pub part_depths : List Checked → Option (List ℕ)
part_depths [] = some []
part_depths (c ∷ cs) = and_more c.depth (part_depths cs)

abbrev pub part_faults : List Checked → List ℕ
part_faults [] = []
part_faults (c ∷ cs) = c.faults ++ part_faults cs

-- A rule gives a node's depth by its parts' depths; where it gives none, the node breaks it.
abbrev pub Rule : Type 0
Rule = List ℕ → Option ℕ

abbrev pub ruled : Rule → Option (List ℕ) → Option ℕ
ruled r (some ds) = r ds
ruled r none = none

abbrev pub is_none : Option ℕ → Bool
is_none (some d) = false
is_none none = true

abbrev pub breaks : Rule → Option (List ℕ) → Bool
breaks r (some ds) = is_none (r ds)
breaks r none = false

-- node p with these parts: without depth where it breaks the rule or a part has none
unfoldable pub node : ℕ → Rule → List Checked → Checked
node p r cs = record {
  depth = ruled r (part_depths cs);
  faults = with_if (breaks r (part_depths cs)) p (part_faults cs);
}

abbrev pub some_if : Bool → ℕ → Option ℕ
some_if true d = some d
some_if false d = none

abbrev pub all_are : ℕ → List ℕ → Bool
all_are d [] = true
all_are d (e ∷ es) = eqb e d && all_are d es

abbrev pub same : List ℕ → List ℕ → Bool
same [] [] = true
same [] (e ∷ es) = false
same (d ∷ ds) [] = false
same (d ∷ ds) (e ∷ es) = eqb d e && same ds es

pub record Signature : Type 0 where
  pub parameters : List ℕ
  pub result : ℕ

abbrev pub signature : Function → Signature
signature g = record { parameters = map (λ x. x.depth) g.parameters; result = g.result }

-- sum, difference and less
abbrev pub number_rule : Rule
number_rule ds = some_if (all_are 0 ds) 0

abbrev pub let_rule : Rule
let_rule (d ∷ e ∷ ds) = some e
let_rule (d ∷ []) = none
let_rule [] = none

abbrev pub call_rule : Signature → Rule
call_rule s ds = some_if (same s.parameters ds) s.result

abbrev pub literal_rule : ℕ → Rule
literal_rule d ds = some_if (all_are d ds) (suc d)

abbrev pub index_rule : Rule
index_rule (suc d ∷ e ∷ ds) = some_if (eqb e 0) d
index_rule (zero ∷ ds) = none
index_rule (suc d ∷ []) = none
index_rule [] = none

abbrev pub length_rule : Rule
length_rule (suc d ∷ ds) = some 0
length_rule (zero ∷ ds) = none
length_rule [] = none

-- an iota gives an array of numbers, a replicate one of its value
abbrev pub iota_rule : Rule
iota_rule ds = some_if (all_are 0 ds) 1

abbrev pub replicate_rule : Rule
replicate_rule (zero ∷ d ∷ ds) = some_if (leb (suc d) 4) (suc d)
replicate_rule (suc c ∷ ds) = none
replicate_rule (zero ∷ []) = none
replicate_rule [] = none

abbrev pub if_rule : Rule
if_rule (d ∷ e ∷ f ∷ ds) = some_if (eqb d 0 && eqb e f) e
if_rule (d ∷ e ∷ []) = none
if_rule (d ∷ []) = none
if_rule [] = none

abbrev pub leaf_rule : (ℕ → Signature) → Leaf → Rule
leaf_rule signatures (operation o) = number_rule
leaf_rule signatures (call f) = call_rule (signatures f)
leaf_rule signatures (literal d) = literal_rule d
leaf_rule signatures index = index_rule
leaf_rule signatures length_of = length_rule
leaf_rule signatures iota = iota_rule
leaf_rule signatures replicate = replicate_rule

-- by the depths of a loop's parts and its body's; the array's is looked at before
abbrev pub loop_rule : Loop → Rule
loop_rule mapping (d ∷ e ∷ ds) = some_if (leb (suc e) 4) (suc e)
loop_rule mapping (d ∷ []) = none
loop_rule mapping [] = none
loop_rule filtering (d ∷ e ∷ ds) = some_if (eqb e 0) d
loop_rule filtering (d ∷ []) = none
loop_rule filtering [] = none
loop_rule reducing (s ∷ d ∷ e ∷ ds) = some_if (eqb s e) s
loop_rule reducing (s ∷ d ∷ []) = none
loop_rule reducing (s ∷ []) = none
loop_rule reducing [] = none
loop_rule rewriting (d ∷ e ∷ ds) = some_if (eqb d 1 && eqb e 0) 1
loop_rule rewriting (d ∷ []) = none
loop_rule rewriting [] = none

-- the depth of an array's element
abbrev pub element : Option ℕ → Option ℕ
element (some (suc d)) = some d
element (some zero) = none
element none = none

abbrev pub is_number : Option ℕ → Bool
is_number (some zero) = true
is_number (some (suc d)) = false
is_number none = false

abbrev pub depth_at : List Checked → ℕ → Option ℕ
depth_at [] i = none
depth_at (c ∷ cs) zero = c.depth
depth_at (c ∷ cs) (suc i) = depth_at cs i

-- the second depth, where there is a first
abbrev pub and_then : Option ℕ → Option ℕ → Option ℕ
and_then (some d) e = e
and_then none e = none

-- the depth of the array that a loop goes over, where the part before it, a reduce's start, has one too
abbrev pub array_depth : Loop → List Checked → Option ℕ
array_depth mapping cs = depth_at cs 0
array_depth filtering cs = depth_at cs 0
array_depth reducing cs = and_then (depth_at cs 0) (depth_at cs 1)
array_depth rewriting cs = depth_at cs 0

-- the depths of the names of a pass
abbrev pub pass_depths : Loop → List Checked → List (Option ℕ)
pass_depths mapping cs = element (depth_at cs 0) ∷ []
pass_depths filtering cs = element (depth_at cs 0) ∷ []
pass_depths reducing cs = depth_at cs 0 ∷ element (depth_at cs 1) ∷ []
pass_depths rewriting cs = element (depth_at cs 0) ∷ []

abbrev pub depths_with : List ℕ → List (Option ℕ) → Depths → Depths
depths_with [] ds Γ = Γ
depths_with (x ∷ xs) [] Γ = Γ
depths_with (x ∷ xs) (d ∷ ds) Γ = depths_with xs ds (updated Γ x d)

-- a loop over a number breaks the rule whatever its body
unfoldable pub loop_node : ℕ → Loop → List Checked → Checked → Checked
loop_node p k cs b =
    cond (is_number (array_depth k cs))
    (record { depth = none; faults = p ∷ (part_faults cs ++ b.faults) })
    (node p (loop_rule k) (cs ++ (b ∷ [])))

module _ (signatures : ℕ → Signature) where
  unfoldable mutual
    -- a tree at node p
    pub check : Expr → Depths → ℕ → Checked
    check (number z) Γ p = record { depth = some 0; faults = [] }
    check (name x) Γ p = record { depth = Γ x; faults = [] }
    check (let_in x a b) Γ p =
        let c = check a Γ (p + 1) in
        node p let_rule (c ∷ check b (updated Γ x c.depth) (p + 1 + size a) ∷ [])
    check (leaf l es) Γ p = node p (leaf_rule signatures l) (checks es Γ (p + 1))
    check (if_else a b c) Γ p =
        node p if_rule (check a Γ (p + 1) ∷ check b Γ (p + 1 + size a) ∷ check c Γ (p + 1 + size a + size b) ∷ [])
    check (loop k xs es b) Γ p =
        let cs = checks es Γ (p + 1) in
        loop_node p k cs (check b (depths_with xs (pass_depths k cs) Γ) (p + 1 + sizes es))

    pub checks : Exprs → Depths → ℕ → List Checked
    checks S.none Γ p = []
    checks (S.more e es) Γ p = check e Γ p ∷ checks es Γ (p + size e)

  abbrev pub parameter_depths : List Parameter → Depths → Depths
  parameter_depths [] Γ = Γ
  parameter_depths (x ∷ xs) Γ = parameter_depths xs (updated Γ x.id (some x.depth))

  abbrev pub result_rule : ℕ → Rule
  result_rule r ds = some_if (all_are r ds) r

  -- The function node asks for the result's depth; with a wrong shape it breaks the rule whatever its body.
  -- Rule 6 comes first, so what an unknown name has does not matter.
  unfoldable pub check_function : Bool → Function → ℕ → Checked
  check_function shape g p =
      let c = check g.body (parameter_depths g.parameters (λ _. some 0)) (p + 1 + length g.parameters) in
      cond shape (node p (result_rule g.result) (c ∷ [])) (record { depth = none; faults = p ∷ c.faults })

  unfoldable pub function_faults : Bool → Script → ℕ → List ℕ
  function_faults shape [] p = []
  function_faults shape (g ∷ gs) p = (check_function shape g p).faults ++ function_faults true gs (p + function_size g)

abbrev pub signatures_of : Script → ℕ → Signature
signatures_of fs f = signature (function_at fs f)

-- main takes the totals and the readings, and gives new totals
abbrev pub main_shape : Signature → Bool
main_shape s = same s.parameters (s.result ∷ 1 ∷ [])

-- all nodes of a script that break the rule
unfoldable pub type_faults : Script → List ℕ
type_faults fs = function_faults (signatures_of fs) (main_shape (signatures_of fs 0)) fs 0
