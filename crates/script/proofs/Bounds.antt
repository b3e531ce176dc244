-- The rules give depths of at most 4 to nodes whose parts have such depths.
use Rattle.prelude.specs.Kit.{ℕ, ◌≤◌, suc, zero, arith, true, false, Bool, cond, ◌&&◌, ◌≡◌, refl, some, none}
use Rattle.prelude.specs.Kit.{Option, List, [], ◌∷◌, eqb, leb, get_or, eqb-true, leb-true}
use Rattle.semantics.specs.File as S
use Rattle.semantics.specs.File.{at_function, node_at, high_limits}
use Rattle.semantics.specs.Types.{some_if, same, all_are, literal_rule, index_rule, length_rule}
use Rattle.semantics.specs.Types.{if_rule, iota_rule, replicate_rule, number_rule}
use Rattle.script_read.specs.Told.{high_of, high_at}
use Rattle.script_read.proofs.Nodes.{NodeFits, node_fits}
use Rattle.script_rules.specs.Rules.{signature_at, called, rule_of, array_rule, loop_ruled}
use Rattle.script_depths.specs.Walk.{any_signature}

-- depths of at most 4
abbrev pub Shallow : List ℕ → Type 0
Shallow [] = Unit {0}
Shallow (d ∷ l) = (d ≤ 4) × Shallow l

-- a depth, if there is one
abbrev pub Bounded : Option ℕ → Type 0
Bounded none = Unit {0}
Bounded (some d) = d ≤ 4

by_test : (b : Bool) (d : ℕ) → d ≤ 4 → Bounded (some_if b d)
by_test true d l = l
by_test false d l = tt

-- a depth that is tested
by_bound : (d : ℕ) → Bounded (some_if (leb d 4) d)
by_bound d = go (leb d 4) refl
  where
    go : (b : Bool) → leb d 4 ≡ b → Bounded (some_if b d)
    go true h = leb-true d 4 h
    go false h = tt

index_bounded : (l : List ℕ) → Shallow l → Bounded (index_rule l)
index_bounded [] s = tt
index_bounded (zero ∷ l) s = tt
index_bounded (suc d ∷ []) s = tt
index_bounded (suc d ∷ e ∷ l) s = by_test (eqb e 0) d (omega (arith, s.0))

length_bounded : (l : List ℕ) → Bounded (length_rule l)
length_bounded [] = tt
length_bounded (zero ∷ l) = tt
length_bounded (suc d ∷ l) = omega arith

replicate_bounded : (l : List ℕ) → Bounded (replicate_rule l)
replicate_bounded [] = tt
replicate_bounded (zero ∷ []) = tt
replicate_bounded (zero ∷ d ∷ l) = by_bound (suc d)
replicate_bounded (suc c ∷ l) = tt

if_bounded : (l : List ℕ) → Shallow l → Bounded (if_rule l)
if_bounded [] s = tt
if_bounded (d ∷ []) s = tt
if_bounded (d ∷ e ∷ []) s = tt
if_bounded (d ∷ e ∷ f ∷ l) s = by_test (eqb d 0 && eqb e f) e s.1.0

-- the result of a function, wherever it stands
result_bounded : (k w : List ℕ) (p : ℕ) → high_at k w at_function p ≤ 4
unfolding high_at
result_bounded k w p = go (node_at k w at_function p) (node_fits k w at_function p)
  where
    go : (v : S.Node) → NodeFits at_function (get_or k p 255) v →
        high_of v ≤ 4
    go (S.fits h) f = rw (eqb-true h.kind 0 f.stands) at f.high
    go S.wrong_kind f = omega arith
    go S.wrong_operand f = omega arith

module _ (k w s : List ℕ) (x y z : ℕ) (hz : z ≤ get_or high_limits x 0) (l : List ℕ) (sh : Shallow l) where
  pub rule_bounded : Bounded (rule_of (any_signature k w s) x y z l)
  unfolding rule_of signature_at
  rule_bounded =
      go (eqb x 8) (eqb x 9) refl (eqb x 10) (eqb x 11) (eqb x 12) (eqb x 17) (eqb x 18)
    where
      go : (a b : Bool) → eqb x 9 ≡ b → (c d e f g : Bool) →
          Bounded (cond a (called (any_signature k w s y)) (cond b (literal_rule z) (cond c index_rule
          (cond d length_rule (cond e if_rule (cond f iota_rule (cond g replicate_rule number_rule)))))) l)
      go true b i c d e f g = by_test (same (signature_at k w (get_or s y 1024)).parameters l) _
          (result_bounded k w (get_or s y 1024))
      go false true i c d e f g =
          let h : z ≤ 3 = rw (eqb-true x 9 i) at hz in by_test (all_are z l) (suc z) (omega arith)
      go false false i true d e f g = index_bounded l sh
      go false false i false true e f g = length_bounded l
      go false false i false false true f g = if_bounded l sh
      go false false i false false false true g = by_test (all_are 0 l) 1 (omega arith)
      go false false i false false false false true = replicate_bounded l
      go false false i false false false false false = by_test (all_are 0 l) 0 (omega arith)

pub loop_bounded : (kind s d e : ℕ) → s ≤ 4 → d ≤ 4 → Bounded (loop_ruled kind s d e)
loop_bounded kind s d e hs hd = go (eqb kind 13) (eqb kind 19)
  where
    go : (a b : Bool) → Bounded (cond a (array_rule e) (some_if (eqb e s) (cond b d s)))
    go true b = by_bound (suc e)
    go false true = by_test (eqb e s) d hd
    go false false = by_test (eqb e s) s hs
