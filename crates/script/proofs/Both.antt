-- The walk that asks for names and depths at once, beside the walks that ask for each: where it finds no fault the
-- names are known and the depths match; where it finds one and the names are known, it is the fault of the depths.
use Rattle.prelude.specs.Kit.{ℕ, ◌≤◌, ◌+◌, ◌<◌, suc, zero, arith, true, false, Bool, cond, ◌&&◌, not, ◌≡◌, refl}
use Rattle.prelude.specs.Kit.{inl, inr, ◌⊎◌, none, List, [], ◌∷◌, eqb, ltb, leb, length, get_or, lt-ltb, le-ltb, eqb-true}
use Rattle.prelude.specs.Kit.{le-leb, lt-leb}
use Rattle.laws.specs.Tests.{both_hold}
use Rattle.semantics.specs.Basics.{updated}
use Rattle.semantics.specs.Outcome.{done, stop}
use Rattle.semantics.specs.Syntax.{Script, function_size}
use Rattle.semantics.specs.File as S
use Rattle.semantics.specs.File.{at_function, at_parameter, at_part, node_at, part_count, high_limits}
use Rattle.semantics.specs.Types.{main_shape}
use Rattle.semantics.specs.Names.{Scope}
use Rattle.script_read.specs.Told.{and_next, repeated, loops, second_name}
use Rattle.script_read.specs.Starts.{start_of}
use Rattle.script_read.specs.Told as R
use Rattle.script_read.specs.Told.{Read}
use Rattle.script_read.proofs.Nodes.{head_fits}
use Rattle.script_read.proofs.Tables.{updated_twice}
use Rattle.script_read.proofs.Turns.{and_none}
use Rattle.script_read.proofs.Written.{ScriptWritten}
use Rattle.script_read.proofs.Ends.{node_inside}
use Rattle.script_names.specs.Walk.{named, named_node, named_parameter, named_head, calls_none, names, names_from}
use Rattle.script_names.specs.Walk.{names_function}
use Rattle.script_rules.specs.Rules.{signature_at, called, rule_of, known_signature}
use Rattle.script_depths.specs.Walk.{Walked, AllWalked, ruled, plain_typed, typed, typed_node, known_name}
use Rattle.script_depths.specs.Walk.{known_types, any_name, any_signature, types}
use Rattle.script_types.specs.Functions as F
use Rattle.script_types.specs.Functions.{ended, typed_parameter, known_from, known_function, known_script, types_from}
use Rattle.script_types.specs.Functions.{types_function, types_script}
use Rattle.script.proofs.Bounds.{rule_bounded}
use Rattle.script.proofs.Joint.{Joint, fine, unknown, broken, JointParts, joint_parts, by_rule_joint, Entry}
use Rattle.script.proofs.Joint.{is_known, not_known, Alike, bound_too, no_depth, a_name, a_let, a_loop}

-- ---- the walks

-- the table of starts has a node for each function that there is, and for no other
pub record Placed (k s : List ℕ) (functions : ℕ) : Type 0 where
  pub at : (f : ℕ) → ltb (get_or s f 1024) (length k) ≡ not (leb functions f)

module _ (k w s : List ℕ) (functions : ℕ) (placed : Placed k s functions) where
  -- a call of a function that is not there
  no_function : (f : ℕ) → leb functions f ≡ true → known_signature k w s f ≡ none
  no_function f e = rw (placed.at f, e)

  a_function : (f : ℕ) → leb functions f ≡ false → known_signature k w s f ≡ any_signature k w s f
  a_function f e = rw (placed.at f, e)

  no_rule : (t : Walked) (p : ℕ) (u : AllWalked) → Joint (R.Refused 6 p) t (ruled p (called none) u)
  no_rule t p (done l q) = unknown 7 p 6 p refl
  no_rule t p (stop a i) = unknown a i 6 p refl

  -- a node that binds nothing, by its parts
  module _ (x y z p : ℕ) (hz : z ≤ get_or high_limits x 0) {n : Read} {t u : AllWalked} (j : JointParts n t u) where
    same_rule : calls_none functions x y ≡ false →
        rule_of (known_signature k w s) x y z ≡ rule_of (any_signature k w s) x y z
    unfolding rule_of
    same_rule e = go (eqb x 8) refl e
      where
        go : (b : Bool) → eqb x 8 ≡ b → (b && leb functions y) ≡ false →
            rule_of (known_signature k w s) x y z ≡ rule_of (any_signature k w s) x y z
        go true i f = rw (i, a_function y f)
        go false i f = rw i

    plain_joint : Joint (cond (calls_none functions x y) (R.Refused 6 p) n)
        (ruled p (rule_of (any_signature k w s) x y z) t) (ruled p (rule_of (known_signature k w s) x y z) u)
    unfolding rule_of
    plain_joint = go (calls_none functions x y) refl
      where
        go : (b : Bool) → calls_none functions x y ≡ b → Joint (cond b (R.Refused 6 p) n)
            (ruled p (rule_of (any_signature k w s) x y z) t) (ruled p (rule_of (known_signature k w s) x y z) u)
        go true e =
            let h = both_hold (eqb x 8) (leb functions y) e in
            rw (h.0, no_function y h.1) (no_rule _ p u)
        go false e =
            rw (same_rule e)
            (by_rule_joint p (rule_of (any_signature k w s) x y z) (λ l sh. rule_bounded k w s x y z hz l sh) j)

  -- a node by its kind and the parts of its operand
  module _ (N : Scope → ℕ → Read) (f g : (ℕ → ℕ) → ℕ → Walked)
      (inner : (known : Scope) (γ δ : ℕ → ℕ) → Alike known γ δ → (q : ℕ) → Joint (N known q) (f γ q) (g δ q))
      {known : Scope} {γ δ : ℕ → ℕ} (a : Alike known γ δ) (p : ℕ) where
    node_joint : (x y z : ℕ) → z ≤ get_or high_limits x 0 → Joint (named functions N known p x y z)
        (typed any_name (any_signature k w s) k w f γ p x y z)
        (typed known_name (known_signature k w s) k w g δ p x y z)
    unfolding plain_typed part_count repeated
    node_joint x y z hz = go (eqb x 2) refl (eqb x 3) refl (eqb x 7) refl (loops x) refl
      where
        go : (b₂ : Bool) → eqb x 2 ≡ b₂ → (b₃ : Bool) → eqb x 3 ≡ b₃ → (b₇ : Bool) → eqb x 7 ≡ b₇ →
            (bₗ : Bool) → loops x ≡ bₗ → Joint (named functions N known p x y z)
            (typed any_name (any_signature k w s) k w f γ p x y z)
            (typed known_name (known_signature k w s) k w g δ p x y z)
        go true e₂ b₃ e₃ b₇ e₇ bₗ eₗ = rw (eqb-true x 2 e₂) (fine 0 (p + 1) refl refl (omega arith))
        go false e₂ true e₃ b₇ e₇ bₗ eₗ = rw (eqb-true x 3 e₃) (a_name p (a.at y))
        go false e₂ false e₃ true e₇ bₗ eₗ =
            rw (eqb-true x 7 e₇, and_none (N known (p + 1)), updated_twice known y true true)
            (a_let (N (updated known y true)) f g γ δ y (inner known γ δ a (p + 1))
            λ d q l. inner _ _ _ (bound_too a y d l) q)
        go false e₂ false e₃ false e₇ true eₗ =
            rw (e₂, e₃, e₇, eₗ)
            (a_loop (N known) _ f g γ δ p x y z
            (λ v d q hv hd. inner _ _ _ (bound_too (bound_too a y v hv) (second_name x y z) d hd) q)
            (λ q. inner known γ δ a q) eₗ)
        go false e₂ false e₃ false e₇ false eₗ =
            rw (e₂, e₃, e₇, eₗ)
            (plain_joint x y z p hz
            (joint_parts (part_count x y z) (N known) (f γ) (g δ) (λ q. inner known γ δ a q) (p + 1)))

  -- a part
  joint : (d : ℕ) {known : Scope} {γ δ : ℕ → ℕ} → Alike known γ δ → (p : ℕ) →
      Joint (names k w functions d known p) (types k w s d γ p) (known_types k w s d δ p)
  unfolding names types known_types
  joint zero a p = broken 7 p refl
  joint (suc d) {known} {γ} {δ} a p = go (node_at k w at_part p) refl (λ _ _ _ b q. joint d b q)
    where
      go : (v : S.Node) → node_at k w at_part p ≡ v →
          ((known : Scope) (γ δ : ℕ → ℕ) → Alike known γ δ → (q : ℕ) →
          Joint (names k w functions d known q) (types k w s d γ q) (known_types k w s d δ q)) →
          Joint (named_node functions (names k w functions d) known p v)
          (typed_node any_name (any_signature k w s) k w (types k w s d) γ p v)
          (typed_node known_name (known_signature k w s) k w (known_types k w s d) δ p v)
      go (S.fits h) e inner =
          node_joint (names k w functions d) (types k w s d) (known_types k w s d) inner a p h.kind h.low
          h.high (head_fits k w at_part p h e).high
      go S.wrong_kind e inner = broken 7 p refl
      go S.wrong_operand e inner = broken 7 p refl

  -- parameters and the body
  a_parameter : {b : Bool} {e f : ℕ} {n : Read} {t u : Walked} (p : ℕ) → Entry b e f →
      (Entry false e 255 → Joint n t u) →
      Joint (cond b (R.Refused 6 p) n) (F.any_name e p t) (F.fresh_name f p u)
  a_parameter p (is_known d l) j = rw (no_depth d l) (unknown 7 p 6 p refl)
  a_parameter p (not_known d) j = j (not_known d)

  from_joint : (c : ℕ) {known : Scope} {γ δ : ℕ → ℕ} → Alike known γ δ → (p : ℕ) →
      Joint (names_from k w functions c known p) (types_from k w s c γ p) (known_from k w s c δ p)
  unfolding names_from types_from known_from
  from_joint zero a p = joint 64 a p
  from_joint (suc c) {known} {γ} {δ} a p = go (node_at k w at_parameter p) refl (λ _ _ _ b q. from_joint c b q)
    where
      go : (v : S.Node) → node_at k w at_parameter p ≡ v →
          ((known : Scope) (γ δ : ℕ → ℕ) → Alike known γ δ → (q : ℕ) →
          Joint (names_from k w functions c known q) (types_from k w s c γ q) (known_from k w s c δ q)) →
          Joint (named_parameter (names_from k w functions c) known p v)
          (typed_parameter F.any_name (types_from k w s c) γ p v)
          (typed_parameter F.fresh_name (known_from k w s c) δ p v)
      go (S.fits h) e inner =
          let fit = head_fits k w at_parameter p h e in
          let small : h.high ≤ 4 = rw (eqb-true h.kind 1 fit.stands) at fit.high in
          a_parameter p (a.at h.low) λ i. inner _ _ _ (bound_too a h.low h.high small) (p + 1)
      go S.wrong_kind e inner = broken 7 p refl
      go S.wrong_operand e inner = broken 7 p refl

-- ---- functions and the script

pub data JointRead (n t : Read) : Read → Type 0 where
  both_go : (q : ℕ) → n ≡ R.Next q → t ≡ R.Next q → JointRead n t (R.Next q)
  unknown_name : (a i m j : ℕ) → n ≡ R.Refused m j → JointRead n t (R.Refused a i)
  depths_differ : (a i : ℕ) → t ≡ R.Refused a i → JointRead n t (R.Refused a i)

by_result : {n : Read} {t u : Walked} (p r : ℕ) → Joint n t u → JointRead n (ended p r t) (ended p r u)
by_result {n} p r (fine d q e i l) = rw i (go (eqb d r))
  where
    go : (b : Bool) → JointRead n (cond b (R.Next q) (R.Refused 7 p)) (cond b (R.Next q) (R.Refused 7 p))
    go true = both_go q e refl
    go false = depths_differ 7 p refl
by_result p r (unknown a i m j e) = unknown_name a i m j e
by_result p r (broken a i e) = rw e (depths_differ a i refl)

then_joint : {n t u : Read} (f g h : ℕ → Read) → JointRead n t u → ((q : ℕ) → JointRead (f q) (g q) (h q)) →
    JointRead (and_next n f) (and_next t g) (and_next u h)
then_joint f g h (both_go q e i) k = rw (e, i) (k q)
then_joint f g h (unknown_name a i m j e) k = rw e (unknown_name a i m j refl)
then_joint f g h (depths_differ a i e) k = rw e (depths_differ a i refl)

repeated_joint : (c : ℕ) (f g h : ℕ → Read) → ((p : ℕ) → JointRead (f p) (g p) (h p)) → (p : ℕ) →
    JointRead (repeated c f p) (repeated c g p) (repeated c h p)
unfolding repeated
repeated_joint zero f g h j p = both_go p refl refl
repeated_joint (suc c) f g h j p =
    then_joint (repeated c f) (repeated c g) (repeated c h) (j p) λ q. repeated_joint c f g h j q

module _ (k w s : List ℕ) (functions : ℕ) (placed : Placed k s functions) where
  none_known : Alike (λ _. false) (λ _. 0) (λ _. 255)
  none_known = record { at = λ x. not_known 0 }

  function_joint : (p : ℕ) →
      JointRead (names_function k w functions p) (types_function k w s p) (known_function k w s p)
  unfolding names_function types_function known_function types_from known_from
  function_joint p = go (node_at k w at_function p)
    where
      go : (v : S.Node) → JointRead (named_head (names_from k w functions) p v)
          (F.typed_head 0 F.any_name (types k w s 64) k w p v)
          (F.typed_head 255 F.fresh_name (known_types k w s 64) k w p v)
      go (S.fits h) = by_result p h.high (from_joint k w s functions placed h.low none_known (p + 1))
      go S.wrong_kind = depths_differ 7 p refl
      go S.wrong_operand = depths_differ 7 p refl

  pub script_joint : JointRead (repeated functions (names_function k w functions) 0) (types_script k w s functions)
      (known_script k w s functions)
  unfolding types_script known_script
  script_joint = go (main_shape (signature_at k w 0))
    where
      go : (b : Bool) → JointRead (repeated functions (names_function k w functions) 0)
          (cond b (repeated functions (types_function k w s) 0) (R.Refused 7 0))
          (cond b (repeated functions (known_function k w s) 0) (R.Refused 7 0))
      go true =
          repeated_joint functions (names_function k w functions) (types_function k w s) (known_function k w s)
          function_joint 0
      go false = depths_differ 7 0 refl

-- ---- the starts of a script's functions are in the file

module _ (k w : List ℕ) where
  start_in : (gs : Script) (p f : ℕ) → ScriptWritten k w gs p →
      ((f < length gs) × (start_of gs p f < length k)) ⊎ ((length gs ≤ f) × (start_of gs p f ≡ 1024))
  start_in [] p f h = inr (omega arith, refl)
  start_in (g ∷ gs) p zero h = inl (omega arith, node_inside k w at_function p h.0.head.node h.0.head.is)
  start_in (g ∷ gs) p (suc f) h = go (start_in gs (p + function_size g) f h.1)
    where
      go : ((f < length gs) × (start_of gs (p + function_size g) f < length k))
          ⊎ ((length gs ≤ f) × (start_of gs (p + function_size g) f ≡ 1024)) →
          ((suc f < suc (length gs)) × (start_of gs (p + function_size g) f < length k))
          ⊎ ((suc (length gs) ≤ suc f) × (start_of gs (p + function_size g) f ≡ 1024))
      go (inl i) = inl (omega (arith, i.0), i.1)
      go (inr i) = inr (omega (arith, i.0), i.1)

  pub all_placed : (gs : Script) (s : List ℕ) → length k ≤ 1024 → ScriptWritten k w gs 0 →
      ((f : ℕ) → get_or s f 1024 ≡ start_of gs 0 f) → Placed k s (length gs)
  all_placed gs s l h e = record { at = λ f. rw (e f) (go f (start_in gs 0 f h)) }
    where
      go : (f : ℕ) → ((f < length gs) × (start_of gs 0 f < length k)) ⊎ ((length gs ≤ f) × (start_of gs 0 f ≡ 1024)) →
          ltb (start_of gs 0 f) (length k) ≡ not (leb (length gs) f)
      go f (inl i) = rw (lt-ltb (start_of gs 0 f) (length k) i.1, lt-leb (length gs) f i.0)
      go f (inr i) = rw (le-ltb (start_of gs 0 f) (length k) (omega (arith, i.1)), le-leb (length gs) f i.0)
