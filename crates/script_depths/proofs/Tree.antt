-- The walk for depths gives a tree's depth, or the first of its nodes that break the rule.
use Rattle.prelude.specs.Kit.{ℕ, ◌+◌, suc, zero, arith, true, false, Bool, cond, false≢true, ◌≡◌, refl, ◌∙◌, sym, ap}
use Rattle.prelude.specs.Kit.{subst, fun_ext, some, none, Option, List, [], ◌∷◌, ◌++◌, map, eqb, length, ne_eqb, eq-eqb}
use Rattle.prelude.specs.Kit.{eqb-true, eqb-false}
use Rattle.semantics.specs.Basics.{updated}
use Rattle.semantics.specs.Outcome.{done, stop}
use Rattle.semantics.specs.Number.{sum, difference, less}
use Rattle.semantics.specs.Kinds.{Leaf, operation, call, literal, index, length_of, iota, replicate, leaf_kind, Loop}
use Rattle.semantics.specs.Kinds.{mapping, filtering, reducing, rewriting, loop_kind}
use Rattle.semantics.specs.Syntax as T
use Rattle.semantics.specs.Syntax.{Expr, number, name, let_in, leaf, if_else, loop, Exprs, size, sizes}
use Rattle.semantics.specs.File as S
use Rattle.semantics.specs.File.{part_count, leaf_of, loop_of, shape_of}
use Rattle.semantics.specs.Types.{Checked, Depths, part_depths, part_faults, Rule, Signature, node, some_if, let_rule}
use Rattle.semantics.specs.Types.{element, is_number, if_rule, leaf_rule, loop_rule, array_depth, loop_node}
use Rattle.semantics.specs.Types.{pass_depths, depths_with, check, checks}
use Rattle.semantics.specs.Annotate.{with_depths}
use Rattle.script_read.proofs.Sorts.{kind_of_leaf, kind_of_loop, is_a_loop, pass_names, names_of_loop}
use Rattle.script_read.proofs.Sorts.{parts_before, count_of_loop, other_kind, loop_some}
use Rattle.script_read.specs.Told.{second_name, loops}
use Rattle.script_read.proofs.Tables.{updated_twice}
use Rattle.script_read.proofs.Written.{amount, Written, AllWritten}
use Rattle.script_rules.specs.Rules.{signature_of, rule_of, loop_ruled}
use Rattle.script_depths.specs.Walk.{Walked, AllWalked, more, and_parts, collect, by_rule, ruled}
use Rattle.script_depths.specs.Walk.{let_typed, start_typed, loop_ended, array_typed, loop_typed, plain_typed}
use Rattle.script_depths.specs.Walk.{typed, any_name, any_signature, types}

-- what the walk tells of a tree is what the check finds
pub data Tells (c : Checked) (q : ℕ) : Walked → Type 0 where
  good : (t : ℕ) → c.depth ≡ some t → c.faults ≡ [] → Tells c q (done t q)
  bad : (n : ℕ) (l : List ℕ) → c.depth ≡ none → c.faults ≡ n ∷ l → Tells c q (stop 7 n)

pub data TellsAll (cs : List Checked) (q : ℕ) : AllWalked → Type 0 where
  all_good : (l : List ℕ) → part_depths cs ≡ some l → part_faults cs ≡ [] → TellsAll cs q (done l q)
  one_bad : (n : ℕ) (l : List ℕ) → part_depths cs ≡ none → part_faults cs ≡ n ∷ l → TellsAll cs q (stop 7 n)

pub no_parts : {q : ℕ} → TellsAll [] q (done [] q)
no_parts = all_good [] refl refl

after_good : {c : Checked} {cs : List Checked} {s t : ℕ} {r : AllWalked} →
    c.depth ≡ some t → c.faults ≡ [] → TellsAll cs s r → TellsAll (c ∷ cs) s (more t r)
after_good {t = t} e f (all_good l g h) = all_good (t ∷ l) (rw (e, g)) (rw (f, h))
after_good e f (one_bad n l g h) = one_bad n l (rw (e, g)) (rw (f, h))

pub next_part : {c : Checked} {cs : List Checked} {q s : ℕ} {r : Walked} (g : ℕ → AllWalked) →
    Tells c q r → TellsAll cs s (g q) → TellsAll (c ∷ cs) s (and_parts r g)
next_part g (good t e f) a = after_good e f a
next_part {cs = cs} g (bad n l e f) a = one_bad n (l ++ part_faults cs) (rw e) (rw f)

-- parts one after the other, from p to q, each told by f
abbrev pub Chain : List Checked → (ℕ → Walked) → ℕ → ℕ → Type 0
Chain [] f p q = p ≡ q
Chain (c ∷ cs) f p q = (r : ℕ) × Tells c r (f p) × Chain cs f r q

chain_tells : (cs : List Checked) (f : ℕ → Walked) (p q : ℕ) → Chain cs f p q → TellsAll cs q (collect (length cs) f p)
unfolding collect
chain_tells [] f p q e = rw e no_parts
chain_tells (c ∷ cs) f p q h = next_part (collect (length cs) f) h.1 (chain_tells cs f h.0 q h.2)

pub by_its_rule : {cs : List Checked} {q : ℕ} {a : AllWalked} (p : ℕ) (r : Rule) →
    TellsAll cs q a → Tells (node p r cs) q (ruled p r a)
unfolding node
by_its_rule {cs} {q} p r (all_good l e f) = go (r l) refl
  where
    go : (o : Option ℕ) → r l ≡ o → Tells (node p r cs) q (by_rule p q o)
    go (some t) g = good t (rw (e, g)) (rw (e, g, f))
    go none g = bad p [] (rw (e, g)) (rw (e, g, f))
by_its_rule {cs} {q} p r (one_bad n l e f) = bad n l (rw e) (rw (e, f))

a_leaf : (t s q : ℕ) → s ≡ q → Tells (record { depth = some t; faults = [] }) q (done t s)
a_leaf t s q e = rw e (good t refl refl)

-- a let
let_says : (p t : ℕ) (r : Walked) → ruled p let_rule (more t (and_parts r (λ s. done [] s))) ≡ r
let_says p t (done u s) = refl
let_says p t (stop n i) = refl

a_let : {a : Checked} {q s : ℕ} {r : Walked} (b : Checked) (p : ℕ) (m : (ℕ → ℕ) → ℕ → Walked) (γ : ℕ → ℕ) (x : ℕ) →
    Tells a q r → ((t : ℕ) → a.depth ≡ some t → Tells b s (m (updated γ x t) q)) →
    Tells (node p let_rule (a ∷ b ∷ [])) s (let_typed m γ x r)
a_let {a} {q} {s} b p m γ x (good t e f) h =
    rw (← let_says p t (m (updated γ x t) q))
    (by_its_rule p let_rule (after_good e f (next_part (λ z. done [] z) (h t e) no_parts)))
a_let {a} {q} {s} b p m γ x (bad n l e f) h =
    by_its_rule p let_rule (one_bad n (l ++ (b.faults ++ [])) (rw e) (rw f))

-- a loop at p over an array, and over a number
module _ (p : ℕ) (c : Loop) (cs : List Checked) (b : Checked) where
  over_array : {r : ℕ} {t : AllWalked} → is_number (array_depth c cs) ≡ false → TellsAll (cs ++ (b ∷ [])) r t →
      Tells (loop_node p c cs b) r (ruled p (loop_rule c) t)
  unfolding loop_node
  over_array e h = rw e (by_its_rule p (loop_rule c) h)

  over_number : {r : ℕ} → is_number (array_depth c cs) ≡ true → Tells (loop_node p c cs b) r (stop 7 p)
  unfolding loop_node
  over_number e = rw e (bad p (part_faults cs ++ b.faults) refl refl)

equal_turned : (a b : ℕ) → eqb a b ≡ eqb b a
equal_turned a b = go (eqb a b) refl
  where
    go : (t : Bool) → eqb a b ≡ t → t ≡ eqb b a
    go true e = sym (eq-eqb b a (sym (eqb-true a b e)))
    go false e = sym (ne_eqb b a λ f. eqb-false a b e (sym f))

-- a body that is told, as the last part
abbrev body_after : Walked → AllWalked
body_after r = and_parts r (λ q. done [] q)

module _ (m : (ℕ → ℕ) → ℕ → Walked) (γ : ℕ → ℕ) (p low high : ℕ) where
  -- a loop with one part before its body, its array
  module _ (kind : ℕ) (c : Loop) (over : (a : Checked) → array_depth c (a ∷ []) ≡ a.depth)
      (rule : (d e : ℕ) → loop_rule c (d ∷ e ∷ []) ≡ loop_ruled kind 0 d e) where
    one_ends : (d : ℕ) (r : Walked) → ruled p (loop_rule c) (more d (body_after r)) ≡ loop_ended p kind 0 d r
    one_ends d (done e q) = ap (by_rule p q) (rule d e)
    one_ends d (stop n i) = refl

    one_tells : {a : Checked} {q s : ℕ} {r : Walked} (b : Checked) → Tells a q r →
        ((d : ℕ) → a.depth ≡ some (suc d) →
        Tells b s (m (updated (updated γ low 0) (second_name kind low high) d) q)) →
        Tells (loop_node p c (a ∷ []) b) s (array_typed m γ p kind low high 0 r)
    one_tells {a} b (good zero e f) h = over_number p c (a ∷ []) b (rw (over a, e))
    one_tells {a} b (good (suc d) e f) h =
        rw (← one_ends (suc d) _)
        (over_array p c (a ∷ []) b (rw (over a, e)) (after_good e f (next_part (λ z. done [] z) (h d e) no_parts)))
    one_tells {a} b (bad n l e f) h =
        over_array p c (a ∷ []) b (rw (over a, e)) (one_bad n (l ++ (b.faults ++ [])) (rw e) (rw f))

  -- a reduce: its start, and its array
  two_ends : (u d : ℕ) (r : Walked) →
      ruled p (loop_rule reducing) (more u (more d (body_after r))) ≡ loop_ended p 20 u d r
  two_ends u d (done e q) = ap (λ (b : Bool). by_rule p q (some_if b u)) (equal_turned u e)
  two_ends u d (stop n i) = refl

  two_tells : {a a' : Checked} {q q' s : ℕ} {r : Walked} (b : Checked) → Tells a q r → Tells a' q' (m γ q) →
      ((u d : ℕ) → a.depth ≡ some u → a'.depth ≡ some (suc d) → Tells b s (m (updated (updated γ low u) high d) q')) →
      Tells (loop_node p reducing (a ∷ a' ∷ []) b) s (loop_typed m γ p 20 low high r)
  two_tells {a} {a'} {q} {q'} {s} b (good u e f) t h = go t
    where
      go : {r : Walked} → Tells a' q' r →
          Tells (loop_node p reducing (a ∷ a' ∷ []) b) s (array_typed m γ p 20 low high u r)
      go (good zero e' f') = over_number p reducing (a ∷ a' ∷ []) b (rw (e, e'))
      go (good (suc d) e' f') =
          rw (← two_ends u (suc d) _)
          (over_array p reducing (a ∷ a' ∷ []) b (rw (e, e'))
          (after_good e f (after_good e' f' (next_part (λ z. done [] z) (h u d e e') no_parts))))
      go (bad n l e' f') =
          over_array p reducing (a ∷ a' ∷ []) b (rw (e, e'))
          (one_bad n (l ++ (b.faults ++ [])) (rw (e, e')) (rw (f, f')))
  two_tells {a} {a'} b (bad n l e f) t h =
      over_array p reducing (a ∷ a' ∷ []) b (rw e)
      (one_bad n (l ++ (a'.faults ++ (b.faults ++ []))) (rw e) (rw f))

-- the depths of the names that a table gives: each name has one
abbrev pub known : (ℕ → ℕ) → Depths
known γ = λ x. some (γ x)

pub entered : (γ : ℕ → ℕ) (x t : ℕ) → updated (known γ) x (some t) ≡ known (updated γ x t)
unfolding updated
entered γ x t = fun_ext λ y. go (eqb x y) (γ y)
  where
    go : (b : Bool) (v : ℕ) → cond b (some t) (some v) ≡ some (cond b t v)
    go true v = refl
    go false v = refl

pub entered_all : (xs ts : List ℕ) (γ : ℕ → ℕ) →
    depths_with xs (map (λ t. some t) ts) (known γ) ≡ known (with_depths xs ts γ)
entered_all [] ts γ = refl
entered_all (x ∷ xs) [] γ = refl
entered_all (x ∷ xs) (t ∷ ts) γ = rw (entered γ x t) (entered_all xs ts (updated γ x t))

module _ (k w s : List ℕ) where
  abbrev signatures : ℕ → Signature
  signatures = signature_of k w s

  -- a leaf and a loop at p by their shapes
  module _ (h : S.Head) (m : (ℕ → ℕ) → ℕ → Walked) (γ : ℕ → ℕ) (p : ℕ) where
    abbrev walked : Walked
    walked = typed any_name (any_signature k w s) k w m γ p h.kind h.low h.high

    leaf_typed : (l : Leaf) → h.kind ≡ leaf_kind l → shape_of h ≡ leaf_of l →
        walked ≡ ruled p (leaf_rule signatures l) (collect (part_count h.kind h.low h.high) (m γ) (p + 1))
    unfolding plain_typed rule_of
    leaf_typed (operation sum) i e = rw i
    leaf_typed (operation difference) i e = rw i
    leaf_typed (operation less) i e = rw i
    leaf_typed (call f) i e = let g = rw i at e in let f_is : h.low ≡ f = cc in rw (i, f_is)
    leaf_typed (literal t) i e = let g = rw i at e in let t_is : h.high ≡ t = cc in rw (i, t_is)
    leaf_typed index i e = rw i
    leaf_typed length_of i e = rw i
    leaf_typed iota i e = rw i
    leaf_typed replicate i e = rw i

    -- what is known of a loop's body, by the depths of the parts before it
    abbrev BodyTold : Loop → List ℕ → List Checked → Checked → ℕ → ℕ → Type 0
    BodyTold c xs cs b q r =
        (ts : List ℕ) → pass_depths c cs ≡ map (λ t. some t) ts → Tells b r (m (with_depths xs ts γ) q)

    abbrev looped : Walked
    looped = loop_typed m γ p h.kind h.low h.high (start_typed h.kind (m γ) (p + 1))

    abbrev LoopTold : Loop → List ℕ → List Checked → Type 0
    LoopTold c xs cs = (b : Checked) (q r : ℕ) → Chain cs (m γ) (p + 1) q → BodyTold c xs cs b q r →
        Tells (loop_node p c cs b) r looped

    one_name : (c : Loop) → eqb h.kind 20 ≡ false → ((a : Checked) → array_depth c (a ∷ []) ≡ a.depth) →
        ((a : Checked) → pass_depths c (a ∷ []) ≡ element a.depth ∷ []) →
        ((d e : ℕ) → loop_rule c (d ∷ e ∷ []) ≡ loop_ruled h.kind 0 d e) →
        (cs : List Checked) → length cs ≡ parts_before h.kind →
        LoopTold c (pass_names h.kind h.low h.high) cs
    one_name c i over pass rule [] l b q r t body = absurd (omega (arith, rw i at l))
    one_name c i over pass rule (a ∷ []) l b q r t body =
        rw i
        (one_tells m γ p h.low h.high h.kind c over rule b
        (subst (λ z. Tells a z (m γ (p + 1))) t.2 t.1)
        λ d f. rw (i, updated_twice γ h.low 0 d) (rw i at (body (d ∷ []) (rw (pass a, f)))))
    one_name c i over pass rule (a ∷ a' ∷ cs) l b q r t body = absurd (omega (arith, rw i at l))

    two_names : h.kind ≡ 20 → (cs : List Checked) → length cs ≡ parts_before h.kind →
        LoopTold reducing (pass_names h.kind h.low h.high) cs
    two_names i [] l b q r t body = absurd (omega (arith, rw i at l))
    two_names i (a ∷ []) l b q r t body = absurd (omega (arith, rw i at l))
    two_names i (a ∷ a' ∷ []) l b q r t body =
        rw i
        (two_tells m γ p h.low h.high b t.1
        (subst (λ z. Tells a' z (m γ t.0)) t.2.2 t.2.1)
        λ u d f g. rw i at (body (u ∷ d ∷ []) (rw (f, g))))
    two_names i (a ∷ a' ∷ a'' ∷ cs) l b q r t body = absurd (omega (arith, rw i at l))

    by_loop : (c : Loop) → h.kind ≡ loop_kind c → loops h.kind ≡ true → (cs : List Checked) →
        length cs ≡ parts_before h.kind → LoopTold c (pass_names h.kind h.low h.high) cs
    by_loop mapping i l = one_name mapping (rw i) (λ a. refl) (λ a. refl) (λ d e. rw i)
    by_loop filtering i l = one_name filtering (rw i) (λ a. refl) (λ a. refl) (λ d e. rw i)
    by_loop reducing i l = two_names i
    by_loop rewriting i l = absurd (false≢true (rw i at l))

    loop_tells : (c : Loop) (xs : List ℕ) (n : ℕ) → shape_of h ≡ loop_of c xs n →
        (cs : List Checked) (b : Checked) (q r : ℕ) → length cs ≡ n → Chain cs (m γ) (p + 1) q →
        BodyTold c xs cs b q r → Tells (loop_node p c cs b) r walked
    loop_tells c xs n e cs b q r l t body =
        let other : shape_of h ≡ S.none → ⊥ = λ i. loop_some (sym e ∙ i) in
        rw (other_kind h 2 other, other_kind h 3 other, other_kind h 7 other, is_a_loop h c xs n e)
        (by_loop c (kind_of_loop h c xs n e) (is_a_loop h c xs n e) cs (l ∙ count_of_loop h c xs n e) b q r t
        (rw (names_of_loop h c xs n e) at body))

  checks_length : (es : Exprs) (Γ : Depths) (p : ℕ) → length (checks signatures es Γ p) ≡ amount es
  unfolding check
  checks_length T.none Γ p = refl
  checks_length (T.more e es) Γ p = ap suc (checks_length es Γ (p + size e))

  mutual
    unfolding types size check plain_typed rule_of part_count

    pub types_tree : (e : Expr) (d : ℕ) (γ : ℕ → ℕ) (p q : ℕ) → Written k w e d p → q ≡ p + size e →
        Tells (check (signature_of k w s) e (known γ) p) q (types k w s d γ p)
    types_tree (number z) d γ p q h g = rw (h.0.is, h.1) (a_leaf 0 (p + 1) q (omega arith))
    types_tree (name x) d γ p q h g = rw (h.0.is, h.1.is) (a_leaf (γ x) (p + 1) q (omega arith))
    types_tree (let_in x a b) d γ p q h g =
        let i = h.0.below in
        rw (h.0.is, h.1.is)
        (a_let (check signatures b (updated (known γ) x (check signatures a (known γ) (p + 1)).depth) (p + 1 + size a))
        p (types k w s i) γ x
        (types_tree a i γ (p + 1) (p + 1 + size a) h.2 refl)
        λ t e. rw (e, entered γ x t) (types_tree b i (updated γ x t) (p + 1 + size a) q h.3 (omega arith)))
    types_tree (leaf l es) d γ p q h g =
        let i = h.0.below in
        let cs = checks signatures es (known γ) (p + 1) in
        let e = h.1.shape_is in
        let typed_so = leaf_typed h.1.node (types k w s i) γ p l (kind_of_leaf h.1.node l e) e in
        rw (h.0.is, h.1.is, typed_so, h.1.count, ← checks_length es (known γ) (p + 1))
        (by_its_rule p (leaf_rule signatures l)
        (chain_tells cs (types k w s i γ) (p + 1) q (types_trees es i γ (p + 1) q h.2 (omega arith))))
    types_tree (if_else a b c) d γ p q h g =
        let i = h.0.below in
        rw (h.0.is, h.1.is)
        (by_its_rule p if_rule (chain_tells (_ ∷ _ ∷ _ ∷ []) (types k w s i γ) (p + 1) q (
          p + 1 + size a,
          types_tree a i γ (p + 1) (p + 1 + size a) h.2 refl,
          (
            p + 1 + size a + size b,
            types_tree b i γ (p + 1 + size a) (p + 1 + size a + size b) h.3 refl,
            (q, types_tree c i γ (p + 1 + size a + size b) q h.4 (omega arith), refl),
          ),
        )))
    types_tree (loop c xs es b) d γ p q h g =
        let i = h.0.below in
        let cs = checks signatures es (known γ) (p + 1) in
        rw (h.0.is, h.1.is)
        (loop_tells h.1.node (types k w s i) γ p c xs (amount es) h.1.shape_is cs _ (p + 1 + sizes es) q
        (checks_length es (known γ) (p + 1)) (types_trees es i γ (p + 1) (p + 1 + sizes es) h.2 refl)
        λ ts e. rw (e, entered_all xs ts γ)
        (types_tree b i (with_depths xs ts γ) (p + 1 + sizes es) q h.3 (omega arith)))

    types_trees : (es : Exprs) (d : ℕ) (γ : ℕ → ℕ) (p q : ℕ) → AllWritten k w es d p → q ≡ p + sizes es →
        Chain (checks (signature_of k w s) es (known γ) p) (types k w s d γ) p q
    types_trees T.none d γ p q h g = omega arith
    types_trees (T.more e es) d γ p q h g = (
      p + size e,
      types_tree e d γ p (p + size e) h.0 refl,
      types_trees es d γ (p + size e) q h.1 (omega arith),
    )
