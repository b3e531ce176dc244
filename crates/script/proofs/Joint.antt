-- What the walks for names, for depths and for both tell of a part, of parts one after the other, and of what binds.
use Rattle.prelude.specs.Kit.{ℕ, ◌≤◌, ◌+◌, ◌-◌, suc, zero, arith, true, false, Bool, cond, ◌≡◌, refl, some, none}
use Rattle.prelude.specs.Kit.{Option, List, [], ◌∷◌, eqb, ne_eqb}
use Rattle.semantics.specs.Basics.{updated}
use Rattle.semantics.specs.Outcome.{done, stop}
use Rattle.semantics.specs.File.{part_count}
use Rattle.semantics.specs.Types.{Rule}
use Rattle.semantics.specs.Names.{Scope}
use Rattle.script_read.specs.Told.{and_next, repeated, loops, second_name}
use Rattle.script_read.specs.Told as R
use Rattle.script_read.specs.Told.{Read}
use Rattle.script_read.proofs.Sorts.{parts_before, loop_parts}
use Rattle.script_read.proofs.Turns.{and_none, repeated_last}
use Rattle.script_rules.specs.Rules.{loop_ruled}
use Rattle.script_depths.specs.Walk.{Walked, AllWalked, more, and_parts, collect, by_rule, ruled, let_typed}
use Rattle.script_depths.specs.Walk.{start_typed, loop_ended, array_typed, loop_typed, known_name, any_name}
use Rattle.script.proofs.Bounds.{Shallow, Bounded, loop_bounded}

-- of a part: by names alone, by depths alone, and by both at once
pub data Joint (n : Read) (t : Walked) : Walked → Type 0 where
  fine : (d q : ℕ) → n ≡ R.Next q → t ≡ done d q → d ≤ 4 → Joint n t (done d q)
  unknown : (a i m j : ℕ) → n ≡ R.Refused m j → Joint n t (stop a i)
  broken : (a i : ℕ) → t ≡ stop a i → Joint n t (stop a i)

-- of parts one after the other
pub data JointParts (n : Read) (t : AllWalked) : AllWalked → Type 0 where
  all_fine : (l : List ℕ) (q : ℕ) → n ≡ R.Next q → t ≡ done l q → Shallow l → JointParts n t (done l q)
  one_unknown : (a i m j : ℕ) → n ≡ R.Refused m j → JointParts n t (stop a i)
  one_broken : (a i : ℕ) → t ≡ stop a i → JointParts n t (stop a i)

one_more : {n : Read} {t u : AllWalked} (d : ℕ) → d ≤ 4 → JointParts n t u → JointParts n (more d t) (more d u)
one_more d l (all_fine m q e f s) = all_fine (d ∷ m) q e (rw f) (l, s)
one_more d l (one_unknown a i m j e) = one_unknown a i m j e
one_more d l (one_broken a i f) = one_broken a i (rw f)

after_part : {n : Read} {t u : Walked} (f : ℕ → Read) (g h : ℕ → AllWalked) → Joint n t u →
    ((q : ℕ) → JointParts (f q) (g q) (h q)) → JointParts (and_next n f) (and_parts t g) (and_parts u h)
after_part f g h (fine d q e i l) k = rw (e, i) (one_more d l (k q))
after_part f g h (unknown a i m j e) k = rw e (one_unknown a i m j refl)
after_part f g h (broken a i e) k = rw e (one_broken a i refl)

pub joint_parts : (c : ℕ) (f : ℕ → Read) (g h : ℕ → Walked) → ((p : ℕ) → Joint (f p) (g p) (h p)) → (p : ℕ) →
    JointParts (repeated c f p) (collect c g p) (collect c h p)
unfolding repeated collect
joint_parts zero f g h j p = all_fine [] p refl refl tt
joint_parts (suc c) f g h j p =
    after_part (repeated c f) (collect c g) (collect c h) (j p) λ q. joint_parts c f g h j q

-- a node by a rule whose depths are at most 4
by_option : {n : Read} (p q : ℕ) → n ≡ R.Next q → (o : Option ℕ) → Bounded o → Joint n (by_rule p q o) (by_rule p q o)
by_option p q e (some d) h = fine d q e refl h
by_option p q e none h = broken 7 p refl

pub by_rule_joint : {n : Read} {t u : AllWalked} (p : ℕ) (r : Rule) → ((l : List ℕ) → Shallow l → Bounded (r l)) →
    JointParts n t u → Joint n (ruled p r t) (ruled p r u)
by_rule_joint p r b (all_fine l q e f s) = rw f (by_option p q e (r l) (b l s))
by_rule_joint p r b (one_unknown a i m j e) = unknown a i m j e
by_rule_joint p r b (one_broken a i f) = rw f (broken a i refl)

-- ---- names

-- the entry of a name: known with a depth, or not known
pub data Entry : Bool → ℕ → ℕ → Type 0 where
  is_known : (d : ℕ) → d ≤ 4 → Entry true d d
  not_known : (d : ℕ) → Entry false d 255

pub record Alike (known : Scope) (γ δ : ℕ → ℕ) : Type 0 where
  pub at : (x : ℕ) → Entry (known x) (γ x) (δ x)

pub bound_too : {known : Scope} {γ δ : ℕ → ℕ} → Alike known γ δ → (x d : ℕ) → d ≤ 4 →
    Alike (updated known x true) (updated γ x d) (updated δ x d)
unfolding updated
bound_too {known} {γ} {δ} a x d l = record { at = λ y. go (eqb x y) (a.at y) }
  where
    go : {b : Bool} {e f : ℕ} (t : Bool) → Entry b e f → Entry (cond t true b) (cond t d e) (cond t d f)
    go true i = is_known d l
    go false i = i

pub no_depth : (d : ℕ) → d ≤ 4 → eqb d 255 ≡ false
no_depth d l = ne_eqb d 255 (λ e. absurd (let f : ⊥ = omega arith in f))

pub a_name : {b : Bool} {d e : ℕ} (p : ℕ) → Entry b d e →
    Joint (cond b (R.Next (p + 1)) (R.Refused 6 p)) (any_name d p) (known_name e p)
a_name p (is_known d l) = rw (no_depth d l) (fine d (p + 1) refl refl l)
a_name p (not_known d) = unknown 7 p 6 p refl

-- a let, by what is told of the first part
pub a_let : {n : Read} {t u : Walked} (N : ℕ → Read) (f g : (ℕ → ℕ) → ℕ → Walked) (γ δ : ℕ → ℕ) (x : ℕ) → Joint n t u →
    ((d q : ℕ) → d ≤ 4 → Joint (N q) (f (updated γ x d) q) (g (updated δ x d) q)) →
    Joint (and_next n N) (let_typed f γ x t) (let_typed g δ x u)
a_let N f g γ δ x (fine d q e i l) k = rw (e, i) (k d q l)
a_let N f g γ δ x (unknown a i m j e) k = rw e (unknown a i m j refl)
a_let N f g γ δ x (broken a i e) k = rw e (broken a i refl)

-- a loop: M walks over a part before its body and N over its body
module _ (M N : ℕ → Read) (f g : (ℕ → ℕ) → ℕ → Walked) (γ δ : ℕ → ℕ) (p x y z : ℕ) where
  body_joint : {n : Read} {t u : Walked} (s d : ℕ) → s ≤ 4 → d ≤ 4 → Joint n t u →
      Joint n (loop_ended p x s d t) (loop_ended p x s d u)
  body_joint s d hs hd (fine v q e i l) = rw i (by_option p q e (loop_ruled x s d v) (loop_bounded x s d v hs hd))
  body_joint s d hs hd (unknown a i m j e) = unknown a i m j e
  body_joint s d hs hd (broken a i e) = rw e (broken a i refl)

  -- the body, where the start and an element have these depths
  abbrev Bodies : Type 0
  Bodies = (s d q : ℕ) → s ≤ 4 → d ≤ 4 → Joint (N q) (f (updated (updated γ y s) (second_name x y z) d) q)
      (g (updated (updated δ y s) (second_name x y z) d) q)

  module _ (bodies : Bodies) (parts : (q : ℕ) → Joint (M q) (f γ q) (g δ q)) where
    array_joint : {n : Read} {t u : Walked} (s : ℕ) → s ≤ 4 → Joint n t u →
        Joint (and_next n N) (array_typed f γ p x y z s t) (array_typed g δ p x y z s u)
    array_joint s hs (fine zero q e i l) = rw (e, i) (broken 7 p refl)
    array_joint s hs (fine (suc d) q e i l) = rw (e, i) (body_joint s (suc d) hs l (bodies s d q hs (omega arith)))
    array_joint s hs (unknown a i m j e) = rw e (unknown a i m j refl)
    array_joint s hs (broken a i e) = rw e (broken a i refl)

    by_start : {n : Read} {t u : Walked} → Joint n t u →
        Joint (and_next (and_next n M) N) (loop_typed f γ p x y z t) (loop_typed g δ p x y z u)
    by_start (fine s q e i l) = rw (e, i) (array_joint s l (parts q))
    by_start (unknown a i m j e) = rw e (unknown a i m j refl)
    by_start (broken a i e) = rw e (broken a i refl)

    -- a reduce has its start before its array
    start_joint : (b : Bool) (q : ℕ) →
        Joint (repeated (cond b 1 0) M q) (cond b (f γ q) (done 0 q)) (cond b (g δ q) (done 0 q))
    unfolding repeated
    start_joint true q = rw (and_none (M q)) (parts q)
    start_joint false q = fine 0 q refl refl (omega arith)

    pub a_loop : loops x ≡ true → Joint (and_next (repeated (part_count x y z - 1) M (p + 1)) N)
        (loop_typed f γ p x y z (start_typed x (f γ) (p + 1))) (loop_typed g δ p x y z (start_typed x (g δ) (p + 1)))
    a_loop e =
        let before : part_count x y z - 1 ≡ parts_before x = omega (arith, loop_parts x y z e) in
        rw (before, repeated_last M (cond (eqb x 20) 1 0) (p + 1)) (by_start (start_joint (eqb x 20) (p + 1)))
