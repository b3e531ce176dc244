-- What the reader answers is within its limits (`file_limited`): operands are at most what their kind allows.
use Rattle.prelude.specs.Kit.{ℕ, ◌≤◌, ◌+◌, suc, zero, ◌%◌, ◌/◌, arith, true, false, Bool, cond, ◌≡◌, refl, ◌∙◌, sym, ap}
use Rattle.prelude.specs.Kit.{subst, List, [], ◌∷◌, eqb, leb, ℤ, pos, negsuc, length, get_or, take, drop, eqb-true}
use Rattle.prelude.specs.Kit.{leb-true}
use Rattle.semantics.specs.Outcome.{Outcome, done, stop, ◌>>=◌, ◌>>◌, give, halt, times, onward}
use Rattle.semantics.specs.Number.{bytes_at}
use Rattle.semantics.specs.Syntax as S
use Rattle.semantics.specs.Syntax.{Expr, exprs_of, Function, Script}
use Rattle.semantics.specs.File.{Head, Node, fits, wrong_kind, wrong_operand, low_limits, high_limits, in_parts, Place}
use Rattle.semantics.specs.File.{at_function, at_parameter, at_part, allowed, node_of, part_count, Read, next, looked}
use Rattle.semantics.specs.File.{Shape, none, leaf_of, loop_of, shapes, shape_of, shaped, parts, node_at, look, part}
use Rattle.semantics.specs.File.{parameter, function, finish, script, read_file}
use Rattle.discipline.proofs.machine.Discipline.{LeafLimits, loop_arity}
use Rattle.laws.specs.Files.{of_file}
use Rattle.soundness.proofs.annotation.Typed.{count, in_scripts, Limited, AllLimited}

-- ---- facts of answers

abbrev pub After : {S A : Type 0} → (A → Type 0) → Outcome S A → Type 0
After P (done a s) = P a
After P (stop n s) = Unit {0}

-- every answer of a run has P
pub record Answers {A : Type 0} (P : A → Type 0) (m : Read A) : Type 0 where
  pub after : (s : ℕ) → After P (m s)

abbrev pub AllOf : {A : Type 0} → (A → Type 0) → List A → Type 0
AllOf P [] = Unit {0}
AllOf P (a ∷ l) = P a × AllOf P l

answers_give : {A : Type 0} {P : A → Type 0} (a : A) → P a → Answers P (give a)
answers_give a h = record { after = λ s. h }

answers_halt : {A : Type 0} {P : A → Type 0} (n : ℕ) → Answers P (halt n)
answers_halt n = record { after = λ s. tt }

answers_then : {A B : Type 0} {P : A → Type 0} {Q : B → Type 0} {m : Read A} {f : A → Read B} →
    Answers P m → ((a : A) → P a → Answers Q (f a)) → Answers Q (m >>= f)
unfolding onward
answers_then {A} {B} {P} {Q} {m} {f} h g = record { after = λ s. go (m s) (h.after s) }
  where
    go : (o : Outcome ℕ A) → After P o → After Q (onward f o)
    go (done a s) p = (g a p).after s
    go (stop n s) p = tt

answers_times : {A : Type 0} (P : A → Type 0) (m : Read A) (n : ℕ) → Answers P m →
    Answers (λ l. (length l ≡ n) × AllOf P l) (times n m)
unfolding times
answers_times P m zero h = answers_give [] (refl, tt)
answers_times P m (suc n) h =
    answers_then h λ a p. answers_then (answers_times P m n h) λ l q. answers_give (a ∷ l) (ap suc q.0, (p, q.1))

-- ---- nodes

-- a node that may stand at a place, with an operand in range
pub record HeadFits (place : Place) (h : Head) : Type 0 where
  pub stands : allowed place h.kind ≡ true
  pub low : h.low ≤ get_or low_limits h.kind 0
  pub high : h.high ≤ get_or high_limits h.kind 0

abbrev NodeFits : Place → Node → Type 0
NodeFits place (fits h) = HeadFits place h
NodeFits place wrong_kind = Unit {0}
NodeFits place wrong_operand = Unit {0}

parts_fit : (place : Place) (k : ℕ) (z : ℤ) → allowed place k ≡ true → NodeFits place (in_parts k z)
parts_fit place k (negsuc n) p = tt
parts_fit place k (pos n) p = go (leb (n % 256) (get_or low_limits k 0)) refl (leb (n / 256) (get_or high_limits k 0)) refl
  where
    h : Head
    h = record { kind = k; low = n % 256; high = n / 256; value = pos 0 }

    go : (s : Bool) → leb (n % 256) (get_or low_limits k 0) ≡ s → (t : Bool) → leb (n / 256) (get_or high_limits k 0) ≡ t →
        NodeFits place (cond s (cond t (fits h) wrong_operand) wrong_operand)
    go true e true f = record {
      stands = p;
      low = leb-true (n % 256) (get_or low_limits k 0) e;
      high = leb-true (n / 256) (get_or high_limits k 0) f;
    }
    go true e false f = tt
    go false e true f = tt
    go false e false f = tt

number_fits : (place : Place) (k : ℕ) (z : ℤ) (s : Bool) → allowed place k ≡ true → eqb k 2 ≡ s →
    NodeFits place (cond s (fits (record { kind = 2; low = 0; high = 0; value = z })) (in_parts k z))
number_fits place k z true p e =
    record { stands = ap (allowed place) (sym (eqb-true k 2 e)) ∙ p; low = omega arith; high = omega arith }
number_fits place k z false p e = parts_fit place k z p

node_fits : (place : Place) (k : ℕ) (z : ℤ) → NodeFits place (node_of place k z)
unfolding node_of
node_fits place k z = go (allowed place k) refl
  where
    inner : Node
    inner = cond (eqb k 2) (fits (record { kind = 2; low = 0; high = 0; value = z })) (in_parts k z)

    go : (s : Bool) → allowed place k ≡ s → NodeFits place (cond s inner wrong_kind)
    go true e = number_fits place k z (eqb k 2) e refl
    go false e = tt

-- ---- expressions

exprs_limited : (es : List Expr) → AllOf Limited es → AllLimited (exprs_of es)
exprs_limited [] h = tt
exprs_limited (e ∷ es) h = (h.0, exprs_limited es h.1)

exprs_count : (es : List Expr) → count (exprs_of es) ≡ length es
exprs_count [] = refl
exprs_count (e ∷ es) = ap suc (exprs_count es)

abbrev Limits : Read Expr → Type 0
Limits m = Answers Limited m

-- what a shape with n parts must be
abbrev ShapeLimits : ℕ → Shape → Type 0
ShapeLimits n none = Unit {0}
ShapeLimits n (leaf_of l) = LeafLimits l n
ShapeLimits n (loop_of k xs c) = (length xs ≡ loop_arity k) × (c ≡ loop_arity k) × (in_scripts k ≡ true)

module _ (h : Head) (head : HeadFits at_part h) where
  abbrev parts_of : ℕ
  parts_of = part_count h.kind h.low h.high

  -- the limits of some shapes, which stand for the kinds from i on
  data ByKind : ℕ → List Shape → Type 0 where
    no_more : {i : ℕ} → ByKind i []
    ◌then◌ : {i : ℕ} {s : Shape} {l : List Shape} → (h.kind ≡ i → ShapeLimits parts_of s) → ByKind (suc i) l →
        ByKind i (s ∷ l)

  infixr 20 ◌then◌
  kind_limits : (i k : ℕ) (l : List Shape) → ByKind i l → h.kind ≡ i + k → ShapeLimits parts_of (get_or l k none)
  kind_limits i k [] no_more e = tt
  kind_limits i zero (s ∷ l) (first then rest) e = first (omega arith)
  kind_limits i (suc k) (s ∷ l) (first then rest) e = kind_limits (suc i) k l rest (omega arith)

  -- the number of parts of a node of kind i
  counted : (i : ℕ) → h.kind ≡ i → parts_of ≡ part_count i h.low h.high
  counted i k = ap (λ (j : ℕ). part_count j h.low h.high) k

  literal_limits : h.kind ≡ 9 → (parts_of ≤ 16) × (h.high ≤ 3)
  unfolding part_count
  literal_limits k =
      let low = ap (λ i. get_or low_limits i 0) k in
      let high = ap (λ i. get_or high_limits i 0) k in
      let n : parts_of ≡ h.low = counted 9 k in
      (omega (arith, head.low), omega (arith, head.high))

  -- a node that is no leaf and no loop, and one of a call, have no limits here
  free : {i : ℕ} → h.kind ≡ i → Unit {0}
  free k = tt

  -- a loop's shape has as many names and parts as it should
  looped : {i n : ℕ} → h.kind ≡ i → (n ≡ n) × (n ≡ n) × (true ≡ true)
  looped k = (refl, refl, refl)

  shape_limits : ShapeLimits parts_of (shape_of h)
  unfolding part_count
  shape_limits = kind_limits 0 h.kind (shapes h)
      (free then free then free then free then counted 4 then counted 5 then counted 6 then free then free then
      literal_limits then counted 10 then counted 11 then free then looped then free then free then free then
      counted 17 then counted 18 then looped then looped then no_more) (omega arith)

module _ (m : Read Expr) (inner : Limits m) where
  shaped_limited : (n : ℕ) (s : Shape) → ShapeLimits n s → Limits (shaped m n s)
  shaped_limited n none l = answers_halt 3
  shaped_limited n (leaf_of j) l =
      answers_then (answers_times Limited m n inner) λ es p.
      answers_give (S.leaf j (exprs_of es))
      (subst (LeafLimits j) (sym (exprs_count es ∙ p.0)) l, exprs_limited es p.1)
  shaped_limited n (loop_of k xs c) l =
      answers_then (answers_times Limited m c inner) λ es p.
      answers_then inner λ b q.
      answers_give (S.loop k xs (exprs_of es) b)
      (l.0, exprs_count es ∙ p.0 ∙ l.1, exprs_limited es p.1, q, l.2)

  parts_limited : (h : Head) → HeadFits at_part h → Limits (parts m h)
  unfolding parts
  parts_limited h head = go (eqb h.kind 2) (eqb h.kind 3) (eqb h.kind 7) (eqb h.kind 12)
    where
      others : Read Expr
      others = shaped m (part_count h.kind h.low h.high) (shape_of h)

      go : (a b c d : Bool) → Limits (cond a (give (S.number h.value)) (cond b (give (S.name h.low))
          (cond c (m >>= λ x. m >>= λ y. give (S.let_in h.low x y))
          (cond d (m >>= λ x. m >>= λ y. m >>= λ z. give (S.if_else x y z)) others))))
      go true b c d = answers_give (S.number h.value) tt
      go false true c d = answers_give (S.name h.low) tt
      go false false true d =
          answers_then inner λ x p. answers_then inner λ y q. answers_give (S.let_in h.low x y) (p, q)
      go false false false true =
          answers_then inner λ x p. answers_then inner λ y q. answers_then inner λ z r.
          answers_give (S.if_else x y z) (p, q, r)
      go false false false false =
          shaped_limited (part_count h.kind h.low h.high) (shape_of h) (shape_limits h head)

-- ---- functions

-- a function whose depths, number of parameters and literals are within the reader's limits
pub record FunctionLimits (g : Function) : Type 0 where
  pub parameters : length g.parameters ≤ 8
  pub depths : AllOf (λ x. x.depth ≤ 4) g.parameters
  pub result : g.result ≤ 4
  pub body : Limited g.body

module _ (kinds operands : List ℕ) where
  look_fits : (place : Place) → Answers (HeadFits place) (look kinds operands place)
  unfolding look node_at
  look_fits place = record { after = λ p. go p (node_at kinds operands place p) (node_fits place _ _) }
    where
      go : (p : ℕ) (n : Node) → NodeFits place n → After (HeadFits place) (looked n p)
      go p (fits h) f = f
      go p wrong_kind f = tt
      go p wrong_operand f = tt

  -- the next node, and then a run
  answers_next : {A : Type 0} {P : A → Type 0} {m : Read A} → Answers P m → Answers P (next >> m)
  unfolding onward
  answers_next h = record { after = λ s. h.after (suc s) }

  part_limited : (levels : ℕ) → Limits (part kinds operands levels)
  unfolding part
  part_limited zero = answers_then (look_fits at_part) λ h f. answers_halt 5
  part_limited (suc levels) =
      answers_then (look_fits at_part) λ h f.
      answers_next (parts_limited (part kinds operands levels) (part_limited levels) h f)

  parameter_limited : Answers (λ x. x.depth ≤ 4) (parameter kinds operands)
  unfolding parameter
  parameter_limited = answers_then (look_fits at_parameter) λ h f.
      let k : h.kind ≡ 1 = eqb-true h.kind 1 f.stands in
      answers_next (answers_give _ (omega (arith, f.high, ap (λ i. get_or high_limits i 0) k)))

  function_limited : Answers FunctionLimits (function kinds operands)
  unfolding function
  function_limited = answers_then (look_fits at_function) λ h f.
      let k : h.kind ≡ 0 = eqb-true h.kind 0 f.stands in
      answers_next
      (answers_then (answers_times (λ x. x.depth ≤ 4) (parameter kinds operands) h.low parameter_limited) λ xs p.
      answers_then (part_limited 64) λ e q.
      answers_give _ (record {
        parameters = omega (arith, p.0, f.low, ap (λ i. get_or low_limits i 0) k);
        depths = p.1;
        result = omega (arith, f.high, ap (λ i. get_or high_limits i 0) k);
        body = q;
      }))

  script_limited : (count : ℕ) → Answers (λ fs. (length fs ≡ count) × AllOf FunctionLimits fs)
      (script kinds operands count)
  unfolding script
  script_limited count =
      answers_then (answers_times FunctionLimits (function kinds operands) count function_limited) λ fs p.
      answers_then finish_answers λ u q. answers_give fs p
    where
      finish_answers : Answers (λ u. Unit {0}) (finish kinds operands)
      finish_answers = record { after = λ s. go (finish kinds operands s) }
        where
          go : (o : Outcome ℕ (Unit {0})) → After (λ u. Unit {0}) o
          go (done u s) = tt
          go (stop n s) = tt

-- ---- files

abbrev pub ScriptLimits : Script → Type 0
ScriptLimits fs = (1 ≤ length fs) × AllOf FunctionLimits fs

pub file_limited : (file : List ℕ) → After ScriptLimits (read_file file)
file_limited file =
    let kinds = take (bytes_at 2 file 2) (drop 4 file) in
    let operands = drop (4 + bytes_at 2 file 2) file in
    of_file (After ScriptLimits) file tt tt (λ sizes. whole (script kinds operands (bytes_at 2 file 0) 0)
    sizes.functions.0 ((script_limited kinds operands (bytes_at 2 file 0)).after 0))
  where
    whole : (o : Outcome ℕ Script) → 1 ≤ bytes_at 2 file 0 →
        After (λ fs. (length fs ≡ bytes_at 2 file 0) × AllOf FunctionLimits fs) o → After ScriptLimits o
    whole (done fs p) h q = (omega (arith, q.0), q.1)
    whole (stop n p) h q = tt
