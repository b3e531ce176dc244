-- The rules by kind, and the loops over depths that decide them.
use Rattle.prelude.specs.Kit.{ℕ, ◌≤◌, ◌+◌, ◌<◌, ◌-◌, suc, zero, arith, add-one, true, false, Bool, cond, ◌&&◌, ◌≡◌}
use Rattle.prelude.specs.Kit.{refl, ◌∙◌, sym, ap, Option, List, [], ◌∷◌, eqb, length, get_or, take, drop}
use Rattle.prelude.specs.Kit.{length-take, drop_of_length-le, drop-cons, get_or-take, ne_eqb, lt-ltb, eq-eqb, le-ltb}
use Rattle.prelude.specs.Kit.{eqb-true}
use Rattle.std.specs.List.{list_all}
use Rattle.std.specs.Bool.{then_some}
use Rattle.semantics.specs.Outcome.{Outcome}
use Rattle.semantics.specs.File.{at_function, at_parameter, part_count, part_counts, low_limits, high_limits}
use Rattle.semantics.specs.Types.{Signature, all_are, same, some_if, index_rule, length_rule, replicate_rule, if_rule}
use Rattle.script_read.specs.Told.{low_at, high_at}
use Rattle.script_read.specs.declared.Misfit.TheVariants.{WrongKind}
use Rattle.script_read.proofs.Limits.{NoneOf, few}
use Rattle.script_read.proofs.Nodes.{node_says, past, unfit, low_none, high_none}
use Rattle.std.specs.Prelude as P
use Rattle.std.specs.Prelude.{Some, None, Err}
use Rattle.script_rules.specs.Rules.{depths_from, signature_at, there, called, rule_of}
use Rattle.script_rules.specs.Rules.{judged_outcome, rule_outcome}

-- all of some depths are d
alike : (d : ℕ) (l : List ℕ) → list_all (λ e. eqb e d) l ≡ all_are d l
alike d [] = refl
alike d (e ∷ l) = ap (λ b. eqb e d && b) (alike d l)

pub judged_alike : (b : Bool) (d depth : ℕ) (l : List ℕ) → b ≡ list_all (λ e. eqb e d) l →
    judged_outcome (then_some b depth) ≡ rule_outcome (some_if (all_are d l) depth)
judged_alike b d depth l e = rw (← alike d l, ← e) (go b)
  where
    go : (b : Bool) → judged_outcome (then_some b depth) ≡ rule_outcome (some_if b depth)
    go true = refl
    go false = refl

-- the parameters from node p on have the first n depths
abbrev pub Matched : List ℕ → List ℕ → ℕ → ℕ → List ℕ → ℕ → Type 0
Matched k w p n ds i =
    same (depths_from k w n p) (take n ds) ≡ same (depths_from k w (n - i) (p + i)) (drop i (take n ds))

module _ (k w : List ℕ) (p n : ℕ) (ds : List ℕ) (l : n ≤ length ds) where
  pub match_starts : Matched k w p n ds 0
  match_starts =
      let e : n - 0 ≡ n = omega arith in
      let f : p + 0 ≡ p = omega arith in
      rw (e, f)

  match_step : (i : ℕ) → i < n →
      same (depths_from k w (n - i) (p + i)) (drop i (take n ds)) ≡
      (eqb (high_at k w at_parameter (p + i)) (get_or ds i 0) && same (depths_from k w (n - (i + 1)) (p + (i + 1)))
      (drop (i + 1) (take n ds)))
  unfolding depths_from
  match_step i h =
      let e : n - i ≡ suc (n - (i + 1)) = omega arith in
      let f : p + (i + 1) ≡ p + i + 1 = omega arith in
      rw (e, f, drop-cons (take n ds) i 0 (simp length-take (omega arith)), get_or-take n ds i 0 h, ← add-one i)

  pub match_goes : (i : ℕ) → i < n → high_at k w at_parameter (p + i) ≡ get_or ds i 0 → Matched k w p n ds i →
      Matched k w p n ds (i + 1)
  match_goes i h e v = v ∙ match_step i h ∙ rw (eq-eqb (high_at k w at_parameter (p + i)) (get_or ds i 0) e)

  pub match_not : (i : ℕ) → i < n → (high_at k w at_parameter (p + i) ≡ get_or ds i 0 → ⊥) → Matched k w p n ds i →
      false ≡ same (depths_from k w n p) (take n ds)
  match_not i h e v = sym (v ∙ match_step i h ∙ rw (ne_eqb (high_at k w at_parameter (p + i)) (get_or ds i 0) e))

  pub match_all : (i : ℕ) → n ≤ i → Matched k w p n ds i → true ≡ same (depths_from k w n p) (take n ds)
  unfolding depths_from
  match_all i h v =
      let e : n - i ≡ 0 = omega arith in
      sym (v ∙ rw (e, drop_of_length-le (take n ds) {i = i} (simp length-take (omega arith))))

-- past the nodes a function has no parameters and the depth 0
pub signature_past : (k w : List ℕ) (p : ℕ) → length k ≤ p → signature_at k w p ≡ record { parameters = []; result = 0 }
unfolding signature_at depths_from
signature_past k w p h =
    let says = node_says k w at_function p (Err WrongKind) (past k w at_function p h) in
    let u = unfit k w at_function p (Err WrongKind) says WrongKind refl in
    rw (← low_none u, ← high_none u)

-- a call's parts
and_false : (b : Bool) {c : Bool} → false ≡ c → false ≡ (b && c)
and_false true e = e
and_false false e = refl

pub counts_differ : (ps ds : List ℕ) → (length ps ≡ length ds → ⊥) → false ≡ same ps ds
counts_differ [] [] h = absurd (h refl)
counts_differ [] (x ∷ l) h = refl
counts_differ (x ∷ l) [] h = refl
counts_differ (x ∷ l) (y ∷ m) h = and_false (eqb x y) (counts_differ l m (λ e. h (ap suc e)))

pub depths_length : (k w : List ℕ) (n p : ℕ) → length (depths_from k w n p) ≡ n
unfolding depths_from
depths_length k w zero p = refl
depths_length k w (suc n) p = ap suc (depths_length k w n (p + 1))

module _ (k w : List ℕ) (p n : ℕ) (ds : List ℕ) where
  abbrev pub Calls : P.Option ℕ → Type 0
  Calls r = judged_outcome r ≡ rule_outcome (called (there k w p) (take n ds))

  pub not_there : length k ≤ p → Calls None
  not_there h = rw (le-ltb p (length k) h)

  pub other_count : p < length k → n ≤ length ds → (c : ℕ) → c ≡ low_at k w at_function p → (c ≡ n → ⊥) → Calls None
  unfolding signature_at
  other_count in_file l c e f =
      rw (
        lt-ltb p (length k) in_file,
        ← counts_differ (depths_from k w (low_at k w at_function p) (p + 1)) (take n ds)
            (λ i. f (omega (arith, i, depths_length k w (low_at k w at_function p) (p + 1), length-take n ds))),
      )

  module _ (in_file : p < length k) (c : ℕ) (ce : c ≡ low_at k w at_function p) (e : c ≡ n) (b : Bool)
      (f : b ≡ same (depths_from k w n (p + 1)) (take n ds)) where
    pub call_fits : b ≡ true → (r : ℕ) → r ≡ high_at k w at_function p → Calls (Some r)
    unfolding signature_at
    call_fits g r i = rw (lt-ltb p (length k) in_file, ← ce, e, ← f, g, i)

    pub call_differs : b ≡ false → Calls None
    unfolding signature_at
    call_differs g = rw (lt-ltb p (length k) in_file, ← ce, e, ← f, g)

-- the first depths
take_one : (l : List ℕ) → 1 ≤ length l → take 1 l ≡ get_or l 0 0 ∷ []
take_one [] h = absurd (omega arith)
take_one (x ∷ l) h = refl

take_two : (l : List ℕ) → 2 ≤ length l → take 2 l ≡ get_or l 0 0 ∷ get_or l 1 0 ∷ []
take_two [] h = absurd (omega arith)
take_two (x ∷ l) h = ap (λ (m : List ℕ). x ∷ m) (take_one l (omega arith))

take_three : (l : List ℕ) → 3 ≤ length l → take 3 l ≡ get_or l 0 0 ∷ get_or l 1 0 ∷ get_or l 2 0 ∷ []
take_three [] h = absurd (omega arith)
take_three (x ∷ l) h = ap (λ (m : List ℕ). x ∷ m) (take_two l (omega arith))

-- a node of kind x with the parts y and z of its operand
module _ (signatures : ℕ → Option Signature) (x y z : ℕ) (ds : List ℕ) (l : length ds ≡ 16) where
  abbrev pub Says : Outcome (Unit {0}) ℕ → Type 0
  Says r = r ≡ rule_outcome (rule_of signatures x y z (take (part_count x y z) ds))

  pub call_says : x ≡ 8 → (r : Outcome (Unit {0}) ℕ) → r ≡ rule_outcome (called (signatures y) (take z ds)) → Says r
  unfolding rule_of part_count
  call_says e r f = rw e f

  pub literal_says : x ≡ 9 → (r : Outcome (Unit {0}) ℕ) →
      r ≡ rule_outcome (some_if (all_are z (take y ds)) (z + 1)) → Says r
  unfolding rule_of part_count
  literal_says e r f = rw (e, ← add-one z) f

  pub index_says : x ≡ 10 → (r : Outcome (Unit {0}) ℕ) →
      r ≡ rule_outcome (index_rule (get_or ds 0 0 ∷ get_or ds 1 0 ∷ [])) → Says r
  unfolding rule_of part_count
  index_says e r f = rw (e, take_two ds (omega arith)) f

  pub length_says : x ≡ 11 → (r : Outcome (Unit {0}) ℕ) → r ≡ rule_outcome (length_rule (get_or ds 0 0 ∷ [])) → Says r
  unfolding rule_of part_count
  length_says e r f = rw (e, take_one ds (omega arith)) f

  pub if_says : x ≡ 12 → (r : Outcome (Unit {0}) ℕ) →
      r ≡ rule_outcome (if_rule (get_or ds 0 0 ∷ get_or ds 1 0 ∷ get_or ds 2 0 ∷ [])) → Says r
  unfolding rule_of part_count
  if_says e r f = rw (e, take_three ds (omega arith)) f

  pub iota_says : x ≡ 17 → (r : Outcome (Unit {0}) ℕ) → r ≡ rule_outcome (some_if (all_are 0 (take 1 ds)) 1) → Says r
  unfolding rule_of part_count
  iota_says e r f = rw e f

  pub replicate_says : x ≡ 18 → (r : Outcome (Unit {0}) ℕ) →
      r ≡ rule_outcome (replicate_rule (get_or ds 0 0 ∷ get_or ds 1 0 ∷ [])) → Says r
  unfolding rule_of part_count
  replicate_says e r f = rw (e, take_two ds (omega arith)) f

  pub numbers_say : NoneOf (18 ∷ 17 ∷ 12 ∷ 11 ∷ 10 ∷ 9 ∷ 8 ∷ []) x → (n : ℕ) → n ≡ part_count x y z →
      (r : Outcome (Unit {0}) ℕ) → r ≡ rule_outcome (some_if (all_are 0 (take n ds)) 0) → Says r
  unfolding rule_of
  numbers_say f n e r g =
      rw (
        ne_eqb x 8 f.0.0.0.0.0.0.1,
        ne_eqb x 9 f.0.0.0.0.0.1,
        ne_eqb x 10 f.0.0.0.0.1,
        ne_eqb x 11 f.0.0.0.1,
        ne_eqb x 12 f.0.0.1,
        ne_eqb x 17 f.0.1,
        ne_eqb x 18 f.1,
        ← e,
      ) g

-- at most 16 parts
pub few_parts : (x y z : ℕ) → y ≤ get_or low_limits x 0 → z ≤ get_or high_limits x 0 → part_count x y z ≤ 16
unfolding part_count
few_parts x y z h g = go (eqb x 8) refl (eqb x 9) refl
  where
    go : (s : Bool) → eqb x 8 ≡ s → (t : Bool) → eqb x 9 ≡ t → cond s z (cond t y (get_or part_counts x 0)) ≤ 16
    go true e t f = let i : z ≤ 8 = rw (eqb-true x 8 e) at g in omega arith
    go false e true f = rw (eqb-true x 9 f) at h
    go false e false f = omega (arith, few x)
