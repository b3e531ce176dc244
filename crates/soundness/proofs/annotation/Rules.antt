-- What the rules of the types give, and nodes without fault.
use Rattle.prelude.specs.Kit.{ℕ, ◌<◌, suc, zero, pred, arith, true, false, Bool, cond, ◌&&◌, false≢true, ◌≡◌, refl}
use Rattle.prelude.specs.Kit.{◌∙◌, sym, ap, some, none, Option, List, [], ◌∷◌, ◌++◌, map, eqb, leb, length, get_or}
use Rattle.prelude.specs.Kit.{eqb-true}
use Rattle.laws.specs.Lists.{append_empty}
use Rattle.semantics.specs.Basics.{with_if}
use Rattle.semantics.specs.Kinds.{Leaf, operation, call, literal, index, length_of, iota, replicate, Loop, mapping}
use Rattle.semantics.specs.Kinds.{filtering, reducing, rewriting}
use Rattle.semantics.specs.Types as T
use Rattle.semantics.specs.Types.{Checked, and_more, part_depths, part_faults, Rule, ruled, is_none, breaks, node}
use Rattle.semantics.specs.Types.{all_are, same, if_rule, index_rule, replicate_rule, Signature, leaf_rule, loop_rule}
use Rattle.semantics.specs.Types.{loop_node, is_number, element, depth_at, and_then, array_depth}
use Rattle.semantics.specs.Code.{Atom}
use Rattle.semantics.specs.Annotate.{NameDepths, atom_depth, depth_of, pass_depths, leaf_depth, loop_depth}
use Rattle.discipline.proofs.machine.Discipline.{loop_arity}
use Rattle.laws.specs.Tests.{both_hold, some_same, not_some, some_if_holds}
use Rattle.soundness.proofs.annotation.Typed.{array_among, element_depths}

pub if_typed : (x y z d : ℕ) → if_rule (x ∷ y ∷ z ∷ []) ≡ some d → (x ≡ 0) × (y ≡ d) × (z ≡ d)
if_typed x y z d e =
    let holds = some_if_holds (eqb x 0 && eqb y z) y d e in
    let both = both_hold (eqb x 0) (eqb y z) holds.0 in
    (eqb-true x 0 both.0, holds.1, sym (eqb-true y z both.1) ∙ holds.1)

-- ---- the depths of lines are those of the rules

pub depth_of_map : (Γ : NameDepths) (us : List Atom) (i : ℕ) → depth_of Γ us i ≡ get_or (map (atom_depth Γ) us) i 0
depth_of_map Γ [] i = refl
depth_of_map Γ (a ∷ us) zero = refl
depth_of_map Γ (a ∷ us) (suc i) = depth_of_map Γ us i

index_gives : (ds : List ℕ) (d : ℕ) → index_rule ds ≡ some d → pred (get_or ds 0 0) ≡ d
index_gives [] d e = not_some d e
index_gives (zero ∷ ds) d e = not_some d e
index_gives (suc c ∷ []) d e = not_some d e
index_gives (suc c ∷ x ∷ ds) d e = (some_if_holds (eqb x 0) c d e).1

length_gives : (ds : List ℕ) (d : ℕ) → T.length_rule ds ≡ some d → 0 ≡ d
length_gives [] d e = not_some d e
length_gives (zero ∷ ds) d e = not_some d e
length_gives (suc c ∷ ds) d e = some_same 0 d e

replicate_gives : (ds : List ℕ) (d : ℕ) → replicate_rule ds ≡ some d → suc (get_or ds 1 0) ≡ d
replicate_gives [] d e = not_some d e
replicate_gives (suc c ∷ ds) d e = not_some d e
replicate_gives (zero ∷ []) d e = not_some d e
replicate_gives (zero ∷ x ∷ ds) d e = (some_if_holds (leb (suc x) 4) (suc x) d e).1

pub leaf_gives : (signatures : ℕ → Signature) (l : Leaf) (Γ : NameDepths) (us : List Atom) (d : ℕ) →
    leaf_rule signatures l (map (atom_depth Γ) us) ≡ some d →
    leaf_depth (λ f. (signatures f).result) l Γ us ≡ d
leaf_gives signatures (operation o) Γ us d e = (some_if_holds (all_are 0 (map (atom_depth Γ) us)) 0 d e).1
leaf_gives signatures (call f) Γ us d e =
    (some_if_holds (same (signatures f).parameters (map (atom_depth Γ) us)) (signatures f).result d e).1
leaf_gives signatures (literal r) Γ us d e = (some_if_holds (all_are r (map (atom_depth Γ) us)) (suc r) d e).1
leaf_gives signatures index Γ us d e = ap pred (depth_of_map Γ us 0) ∙ index_gives (map (atom_depth Γ) us) d e
leaf_gives signatures length_of Γ us d e = length_gives (map (atom_depth Γ) us) d e
leaf_gives signatures iota Γ us d e = (some_if_holds (all_are 0 (map (atom_depth Γ) us)) 1 d e).1
leaf_gives signatures replicate Γ us d e = ap suc (depth_of_map Γ us 1) ∙ replicate_gives (map (atom_depth Γ) us) d e

-- a loop with as many parts as it should have
pub loop_gives : (k : Loop) (Γ : NameDepths) (us : List Atom) (a : Atom) (d : ℕ) → length us ≡ loop_arity k →
    loop_rule k (map (atom_depth Γ) us ++ (atom_depth Γ a ∷ [])) ≡ some d → loop_depth k Γ us a ≡ d
loop_gives mapping Γ [] a d h e = absurd (omega arith)
loop_gives mapping Γ (u ∷ []) a d h e =
    (some_if_holds (leb (suc (atom_depth Γ a)) 4) (suc (atom_depth Γ a)) d e).1
loop_gives mapping Γ (u ∷ v ∷ us) a d h e = absurd (omega arith)
loop_gives filtering Γ [] a d h e = absurd (omega arith)
loop_gives filtering Γ (u ∷ []) a d h e = (some_if_holds (eqb (atom_depth Γ a) 0) (atom_depth Γ u) d e).1
loop_gives filtering Γ (u ∷ v ∷ us) a d h e = absurd (omega arith)
loop_gives reducing Γ [] a d h e = absurd (omega arith)
loop_gives reducing Γ (u ∷ []) a d h e = absurd (omega arith)
loop_gives reducing Γ (u ∷ v ∷ []) a d h e =
    (some_if_holds (eqb (atom_depth Γ u) (atom_depth Γ a)) (atom_depth Γ u) d e).1
loop_gives reducing Γ (u ∷ v ∷ w ∷ us) a d h e = absurd (omega arith)
loop_gives rewriting Γ [] a d h e = absurd (omega arith)
loop_gives rewriting Γ (u ∷ []) a d h e =
    let holds = some_if_holds (eqb (atom_depth Γ u) 1 && eqb (atom_depth Γ a) 0) 1 d e in
    let both = both_hold (eqb (atom_depth Γ u) 1) (eqb (atom_depth Γ a) 0) holds.0 in
    ap suc (eqb-true (atom_depth Γ a) 0 both.1) ∙ holds.1
loop_gives rewriting Γ (u ∷ v ∷ us) a d h e = absurd (omega arith)

pub pass_gives : (k : Loop) (Γ : NameDepths) (us : List Atom) →
    pass_depths k Γ us ≡ element_depths k (map (atom_depth Γ) us)
pass_gives mapping Γ us = λ i. pred (depth_of_map Γ us 0 i) ∷ []
pass_gives filtering Γ us = λ i. pred (depth_of_map Γ us 0 i) ∷ []
pass_gives reducing Γ us = λ i. depth_of_map Γ us 0 i ∷ pred (depth_of_map Γ us 1 i) ∷ []
pass_gives rewriting Γ us = λ i. pred (depth_of_map Γ us 0 i) ∷ []

pub element_count : (k : Loop) (ds : List ℕ) → length (element_depths k ds) ≡ loop_arity k
element_count mapping ds = refl
element_count filtering ds = refl
element_count reducing ds = refl
element_count rewriting ds = refl

-- ---- parts that have depths

abbrev pub Each : List Checked → List ℕ → Type 0
Each [] [] = Unit {0}
Each [] (d ∷ ds) = ⊥
Each (c ∷ cs) [] = ⊥
Each (c ∷ cs) (d ∷ ds) = (c.depth ≡ some d) × Each cs ds

pub each_depths : (cs : List Checked) (ds : List ℕ) → Each cs ds → part_depths cs ≡ some ds
each_depths [] [] h = refl
each_depths [] (d ∷ ds) h = absurd h
each_depths (c ∷ cs) [] h = absurd h
each_depths (c ∷ cs) (d ∷ ds) h = λ i. and_more (h.0 i) (each_depths cs ds h.1 i)

pub each_append : (cs : List Checked) (ds : List ℕ) (c : Checked) (d : ℕ) → Each cs ds → c.depth ≡ some d →
    Each (cs ++ (c ∷ [])) (ds ++ (d ∷ []))
each_append [] [] c d h e = (e, tt)
each_append [] (x ∷ ds) c d h e = absurd h
each_append (b ∷ cs) [] c d h e = absurd h
each_append (b ∷ cs) (x ∷ ds) c d h e = (h.0, each_append cs ds c d h.1 e)

pub each_at : (cs : List Checked) (ds : List ℕ) (i : ℕ) → Each cs ds → i < length ds →
    depth_at cs i ≡ some (get_or ds i 0)
each_at [] [] i h g = absurd (omega arith)
each_at [] (d ∷ ds) i h g = absurd h
each_at (c ∷ cs) [] i h g = absurd h
each_at (c ∷ cs) (d ∷ ds) zero h g = h.0
each_at (c ∷ cs) (d ∷ ds) (suc i) h g = each_at cs ds i h.1 (omega arith)

-- ---- a node without fault

pub with_if_empty : (b : Bool) (x : ℕ) (l : List ℕ) → with_if b x l ≡ [] → (b ≡ false) × (l ≡ [])
with_if_empty true x l e = absurd (omega (arith, ap length e))
with_if_empty false x l e = (refl, e)

none_not : (o : Option ℕ) → is_none o ≡ false → (d : ℕ) × (o ≡ some d)
none_not (some d) e = (d, refl)
none_not none e = absurd (false≢true (sym e))

-- the parts of a node without fault have none
pub node_parts : (p : ℕ) (r : Rule) (cs : List Checked) → (node p r cs).faults ≡ [] → part_faults cs ≡ []
unfolding node
node_parts p r cs e = (with_if_empty (breaks r (part_depths cs)) p (part_faults cs) e).1

-- and with depths of all parts it has a depth, by its rule
pub node_depth : (p : ℕ) (r : Rule) (cs : List Checked) (ds : List ℕ) → (node p r cs).faults ≡ [] → Each cs ds →
    (d : ℕ) × ((node p r cs).depth ≡ some d) × (r ds ≡ some d)
unfolding node
node_depth p r cs ds e h =
    let q = each_depths cs ds h in
    let whole : is_none (r ds) ≡ false =
    ap (breaks r) (sym q) ∙ (with_if_empty (breaks r (part_depths cs)) p (part_faults cs) e).0 in
    let found = none_not (r ds) whole in
    (found.0, ap (ruled r) q ∙ found.1, found.1)

faults_append : (cs : List Checked) (b : Checked) → part_faults (cs ++ (b ∷ [])) ≡ [] →
    (part_faults cs ≡ []) × (b.faults ≡ [])
faults_append [] b e = (refl, (append_empty b.faults [] e).0)
faults_append (c ∷ cs) b e =
    let first = append_empty c.faults (part_faults (cs ++ (b ∷ []))) e in
    let rest = faults_append cs b first.1 in
    ((λ i. first.0 i ++ rest.0 i), rest.1)

-- ---- loops

-- a loop without fault is a node without fault, over no number
pub loop_whole : (p : ℕ) (k : Loop) (cs : List Checked) (b : Checked) → (loop_node p k cs b).faults ≡ [] →
    (is_number (array_depth k cs) ≡ false) × (loop_node p k cs b ≡ node p (loop_rule k) (cs ++ (b ∷ [])))
unfolding loop_node
loop_whole p k cs b = go (is_number (array_depth k cs))
  where
    whole : Checked
    whole = node p (loop_rule k) (cs ++ (b ∷ []))

    broken : Checked
    broken = record { depth = none; faults = p ∷ (part_faults cs ++ b.faults) }

    go : (t : Bool) → (cond t broken whole).faults ≡ [] → (t ≡ false) × (cond t broken whole ≡ whole)
    go true e = absurd (omega (arith, ap length e))
    go false e = (refl, refl)

pub loop_parts : (p : ℕ) (k : Loop) (cs : List Checked) (b : Checked) → (loop_node p k cs b).faults ≡ [] →
    (part_faults cs ≡ []) × (b.faults ≡ [])
loop_parts p k cs b e =
    let whole = loop_whole p k cs b e in
    faults_append cs b (node_parts p (loop_rule k) (cs ++ (b ∷ [])) (ap (λ (c : Checked). c.faults) (sym whole.1)
    ∙ e))

pub loop_found : (p : ℕ) (k : Loop) (cs : List Checked) (b : Checked) (ds : List ℕ) (x : ℕ) →
    (loop_node p k cs b).faults ≡ [] → Each cs ds → b.depth ≡ some x →
    (d : ℕ) × ((loop_node p k cs b).depth ≡ some d) × (loop_rule k (ds ++ (x ∷ [])) ≡ some d)
loop_found p k cs b ds x e h q =
    let whole = loop_whole p k cs b e in
    let found = node_depth p (loop_rule k) (cs ++ (b ∷ [])) (ds ++ (x ∷ []))
    (ap (λ (c : Checked). c.faults) (sym whole.1) ∙ e) (each_append cs ds b x h q) in
    (found.0, ap (λ (c : Checked). c.depth) whole.1 ∙ found.1, found.2)

not_number : (i : ℕ) → is_number (some i) ≡ false → (0 < i) × (element (some i) ≡ some (pred i))
not_number zero e = absurd (false≢true (sym e))
not_number (suc j) e = (omega arith, refl)

-- the array of a loop that is over no number, and the depths of the names of a pass
pub array_found : (cs : List Checked) (ds : List ℕ) (i : ℕ) → Each cs ds → i < length ds →
    is_number (depth_at cs i) ≡ false → (0 < get_or ds i 0) × (element (depth_at cs i) ≡ some (pred (get_or ds i 0)))
array_found cs ds i h g e =
    let at = each_at cs ds i h g in
    let array = not_number (get_or ds i 0) (ap is_number (sym at) ∙ e) in
    (array.0, ap element at ∙ array.1)

-- a loop with one part and one name of a pass
one_found : (cs : List Checked) (ds : List ℕ) → Each cs ds → length ds ≡ 1 → is_number (depth_at cs 0) ≡ false →
    (0 < get_or ds 0 0) × (element (depth_at cs 0) ∷ [] ≡ some (pred (get_or ds 0 0)) ∷ [])
one_found cs ds h n e =
    let array = array_found cs ds 0 h (omega arith) e in
    (array.0, (λ i. array.1 i ∷ []))

pub pass_found : (k : Loop) (cs : List Checked) (ds : List ℕ) → Each cs ds → length ds ≡ loop_arity k →
    is_number (array_depth k cs) ≡ false →
    (0 < array_among k ds) × (T.pass_depths k cs ≡ map (λ d. some d) (element_depths k ds))
pass_found mapping cs ds h n e = one_found cs ds h n e
pass_found filtering cs ds h n e = one_found cs ds h n e
pass_found reducing cs ds h n e =
    let start = each_at cs ds 0 h (omega arith) in
    let over = ap (λ (o : Option ℕ). is_number (and_then o (depth_at cs 1))) (sym start) ∙ e in
    let array = array_found cs ds 1 h (omega arith) over in
    (array.0, (λ i. start i ∷ array.1 i ∷ []))
pass_found rewriting cs ds h n e = one_found cs ds h n e
