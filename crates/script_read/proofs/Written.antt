-- A tree as it is written in the file: its nodes stand in prefix order, with levels left for each.
-- What the reader accepts is written so.
use Rattle.prelude.specs.Kit.{ℕ, ◌≤◌, ◌+◌, suc, zero, arith, add-one, true, false, Bool, cond, ◌≡◌, refl, ◌∙◌, sym, ap}
use Rattle.prelude.specs.Kit.{subst, List, [], ◌∷◌, ltb, ℤ, length, get_or, ltb-false}
use Rattle.semantics.specs.Outcome.{Outcome, done, stop, Run, onward, times}
use Rattle.semantics.specs.Syntax.{Expr, number, name, let_in, leaf, if_else, loop, Exprs, none, more, size, sizes}
use Rattle.semantics.specs.Syntax.{exprs_of, Parameter, Function, Script, function_size}
use Rattle.semantics.specs.File as S
use Rattle.semantics.specs.File.{Place, at_function, at_parameter, at_part, low_limits, high_limits, part_count, Shape}
use Rattle.semantics.specs.File.{leaf_of, loop_of, shape_of, node_at, look, looked, parts, part, parameter, function}
use Rattle.semantics.specs.File.{finish, script}
use Rattle.script_read.proofs.Nodes.{HeadFits, head_fits}
use Rattle.script_read.proofs.Sorts as K
use Rattle.script_read.proofs.Sorts.{Sort, sort_of, leaf_some, loop_some, shaped_parts, parts_of_loop}

-- how many trees there are
abbrev pub amount : Exprs → ℕ
amount none = 0
amount (more e es) = suc (amount es)

-- a part's node at p: its kind and the two parts of its operand
pub record At (kinds operands : List ℕ) (p kind low high : ℕ) : Type 0 where
  pub value : ℤ
  pub is : node_at kinds operands at_part p ≡ S.fits (record { kind = kind; low = low; high = high; value = value })

-- the node of a leaf or a loop at p: its shape and how many parts it has
pub record ShapeAt (kinds operands : List ℕ) (p : ℕ) (shape : Shape) (n : ℕ) : Type 0 where
  pub node : S.Head
  pub is : node_at kinds operands at_part p ≡ S.fits node
  pub shape_is : shape_of node ≡ shape
  pub count : part_count node.kind node.low node.high ≡ n

-- there is a level left, and so many below it
pub record Level (d : ℕ) : Type 0 where
  pub below : ℕ
  pub is : d ≡ suc below

-- the nodes from p on write the tree, with so many levels left
module _ (k w : List ℕ) where
  abbrev mutual
    pub Written : Expr → ℕ → ℕ → Type 0
    Written (number z) d p =
        Level d × (node_at k w at_part p ≡ S.fits (record { kind = 2; low = 0; high = 0; value = z }))
    Written (name x) d p = Level d × At k w p 3 x 0
    Written (let_in x a b) d p =
        (l : Level d) × At k w p 7 x 0 × Written a l.below (p + 1) × Written b l.below (p + 1 + size a)
    Written (leaf j es) d p =
        (l : Level d) × ShapeAt k w p (leaf_of j) (amount es) × AllWritten es l.below (p + 1)
    Written (if_else a b c) d p =
        (l : Level d) × At k w p 12 0 0 × Written a l.below (p + 1) × Written b l.below (p + 1 + size a)
        × Written c l.below (p + 1 + size a + size b)
    Written (loop c xs es b) d p =
        (l : Level d) × ShapeAt k w p (loop_of c xs (amount es)) (suc (amount es))
        × AllWritten es l.below (p + 1) × Written b l.below (p + 1 + sizes es)

    pub AllWritten : Exprs → ℕ → ℕ → Type 0
    AllWritten none d p = Unit {0}
    AllWritten (more e es) d p = Written e d p × AllWritten es d (p + size e)

-- the node of a function or a parameter
pub record HeadAt (kinds operands : List ℕ) (place : Place) (p low high : ℕ) : Type 0 where
  pub node : S.Head
  pub is : node_at kinds operands place p ≡ S.fits node
  pub lower : node.low ≡ low
  pub upper : node.high ≡ high

module _ (k w : List ℕ) where
  abbrev pub ParametersWritten : List Parameter → ℕ → Type 0
  ParametersWritten [] p = Unit {0}
  ParametersWritten (x ∷ xs) p = HeadAt k w at_parameter p x.id x.depth × ParametersWritten xs (p + 1)

  pub record FunctionWritten (g : Function) (p : ℕ) : Type 0 where
    pub head : HeadAt k w at_function p (length g.parameters) g.result
    pub parameters : ParametersWritten g.parameters (p + 1)
    pub body : Written k w g.body 64 (p + 1 + length g.parameters)

  abbrev pub ScriptWritten : Script → ℕ → Type 0
  ScriptWritten [] p = Unit {0}
  ScriptWritten (g ∷ gs) p = FunctionWritten g p × ScriptWritten gs (p + function_size g)

-- how many nodes a script has
abbrev pub total : Script → ℕ
total [] = 0
total (g ∷ gs) = function_size g + total gs

-- what holds of an outcome that is an answer
abbrev pub After : {S A : Type 0} → (A → S → Type 0) → Outcome S A → Type 0
After P (done a s) = P a s
After P (stop n s) = Unit {0}

pub after_bind : {S A B : Type 0} {Q : A → S → Type 0} (P : B → S → Type 0) (f : A → Run S B) (o : Outcome S A) →
    After Q o → ((a : A) (s : S) → Q a s → After P (f a s)) → After P (onward f o)
unfolding onward
after_bind P f (done a s) h next = next a s h
after_bind P f (stop n s) h next = tt

module _ (k w : List ℕ) where
  moved : (d : ℕ) (e : Expr) {p q : ℕ} → q ≡ p → Written k w e d q → Written k w e d p
  moved d e i h = subst (λ r. Written k w e d r) i h

  all_moved : (d : ℕ) (es : Exprs) {p q : ℕ} → q ≡ p → AllWritten k w es d q → AllWritten k w es d p
  all_moved d es i h = subst (λ r. AllWritten k w es d r) i h

  abbrev Got : ℕ → ℕ → Expr → ℕ → Type 0
  Got d p e q = Written k w e d p × (q ≡ p + size e)

  abbrev GotAll : ℕ → ℕ → ℕ → List Expr → ℕ → Type 0
  GotAll d n p es q =
      AllWritten k w (exprs_of es) d p × (q ≡ p + sizes (exprs_of es)) × (amount (exprs_of es) ≡ n)

  -- parts after node p, read by m
  module _ (m : S.Read Expr) (d : ℕ) (reads : (p : ℕ) → After (Got d p) (m p)) where
    times_written : (n p : ℕ) → After (GotAll d n p) (times n m p)
    unfolding times size
    times_written zero p = (tt, omega arith, refl)
    times_written (suc n) p =
        after_bind _ _ (m p) (reads p) λ e q h.
        after_bind _ _ (times n m q) (times_written n q) λ es r g.
        ((h.0, all_moved d (exprs_of es) h.1 g.0), omega (arith, h.1, g.1), ap suc g.2)

  -- a node whose operand's parts are known
  pinned : (p : ℕ) {h : S.Head} {c a b : ℕ} → node_at k w at_part p ≡ S.fits h →
      h.kind ≡ c → h.low ≡ a → h.high ≡ b → At k w p c a b
  pinned p {h} n e f g = record {
    value = h.value;
    is = n ∙ λ i. S.fits (record { kind = e i; low = f i; high = g i; value = h.value });
  }

  module _ (m : S.Read Expr) (d : ℕ) (reads : (p : ℕ) → After (Got d p) (m p)) (h : S.Head) (p : ℕ)
      (n : node_at k w at_part p ≡ S.fits h) where
    -- an operand's part that can only be 0
    abbrev fit : HeadFits at_part (get_or k p 255) h
    fit = head_fits k w at_part p h n

    no_low : {c : ℕ} → h.kind ≡ c → get_or low_limits c 0 ≡ 0 → h.low ≡ 0
    no_low e f = omega (arith, fit.low, ap (λ (i : ℕ). get_or low_limits i 0) e ∙ f)

    no_high : {c : ℕ} → h.kind ≡ c → get_or high_limits c 0 ≡ 0 → h.high ≡ 0
    no_high e f = omega (arith, fit.high, ap (λ (i : ℕ). get_or high_limits i 0) e ∙ f)

    abbrev level : Level (suc d)
    level = record { below = d; is = refl }

    parts_written : Sort h → After (Got (suc d) p) (parts m h (p + 1))
    unfolding parts size onward pinned
    parts_written (K.number e) =
        let a = pinned p n e (no_low e refl) (no_high e refl) in rw e ((level, a.is), omega arith)
    parts_written (K.name e) = rw e ((level, pinned p n e refl (no_high e refl)), omega arith)
    parts_written (K.let_in e) =
        let at = pinned p n e refl (no_high e refl) in
        rw e (after_bind _ _ (m (p + 1)) (reads (p + 1)) λ a q f.
        after_bind _ _ (m q) (reads q) λ b r g.
        ((level, at, f.0, moved d b f.1 g.0), omega (arith, f.1, g.1)))
    parts_written (K.if_else e) =
        let at = pinned p n e (no_low e refl) (no_high e refl) in
        rw e (after_bind _ _ (m (p + 1)) (reads (p + 1)) λ a q f.
        after_bind _ _ (m q) (reads q) λ b r g.
        after_bind _ _ (m r) (reads r) λ c s l.
        let i : r ≡ p + 1 + size a + size b = omega (arith, f.1, g.1) in
        ((level, at, f.0, moved d b f.1 g.0, moved d c i l.0), omega (arith, f.1, g.1, l.1)))
    parts_written (K.leaf l e) =
        let c = part_count h.kind h.low h.high in
        rw (shaped_parts h m (λ f. leaf_some (sym e ∙ f)), e)
        (after_bind _ _ (times c m (p + 1)) (times_written m d reads c (p + 1)) λ es q f.
        ((level, record { node = h; is = n; shape_is = e; count = sym f.2 }, f.0), omega (arith, f.1)))
    parts_written (K.loop j xs c e) =
        rw (shaped_parts h m (λ f. loop_some (sym e ∙ f)), e)
        (after_bind _ _ (times c m (p + 1)) (times_written m d reads c (p + 1)) λ es q f.
        after_bind _ _ (m q) (reads q) λ b r g.
        let count = parts_of_loop h j xs c e ∙ ap suc (sym f.2) in
        let at : ShapeAt k w p (loop_of j xs (amount (exprs_of es))) (suc (amount (exprs_of es))) =
        record { node = h; is = n; shape_is = e ∙ ap (loop_of j xs) (sym f.2); count = count } in
        ((level, at, f.0, moved d b f.1 g.0), omega (arith, f.1, g.1)))

  -- what the reader takes for a tree is written there
  pub part_written : (d p : ℕ) → After (Got d p) (part k w d p)
  unfolding part look onward
  part_written zero p = go (node_at k w at_part p)
    where
      go : (v : S.Node) → After (Got 0 p) (onward (λ h s. stop 5 s) (looked v p))
      go (S.fits h) = tt
      go S.wrong_kind = tt
      go S.wrong_operand = tt
  part_written (suc d) p = go (node_at k w at_part p) refl (λ q. part_written d q)
    where
      go : (v : S.Node) → node_at k w at_part p ≡ v → ((q : ℕ) → After (Got d q) (part k w d q)) →
          After (Got (suc d) p) (onward (λ h s. onward (λ _. parts (part k w d) h) (S.next s)) (looked v p))
      go (S.fits h) e reads =
          subst (λ q. After (Got (suc d) p) (parts (part k w d) h q)) (add-one p)
          (parts_written (part k w d) d reads h p e (sort_of h (head_fits k w at_part p h e).stands))
      go S.wrong_kind e reads = tt
      go S.wrong_operand e reads = tt

  parameter_written : (p : ℕ) →
      After (λ (x : Parameter) (q : ℕ). HeadAt k w at_parameter p x.id x.depth × (q ≡ p + 1)) (parameter k w p)
  unfolding parameter look onward
  parameter_written p = go (node_at k w at_parameter p) refl
    where
      go : (v : S.Node) → node_at k w at_parameter p ≡ v →
          After (λ (x : Parameter) (q : ℕ). HeadAt k w at_parameter p x.id x.depth × (q ≡ p + 1))
          (onward (λ h s. onward (λ _ t. done (record { id = h.low; depth = h.high }) t) (S.next s)) (looked v p))
      go (S.fits h) e = (record { node = h; is = e; lower = refl; upper = refl }, omega arith)
      go S.wrong_kind e = tt
      go S.wrong_operand e = tt

  parameters_written : (n p : ℕ) →
      After (λ xs q. ParametersWritten k w xs p × (q ≡ p + n) × (length xs ≡ n)) (times n (parameter k w) p)
  unfolding times
  parameters_written zero p = (tt, omega arith, refl)
  parameters_written (suc n) p =
      after_bind _ _ (parameter k w p) (parameter_written p) λ x q h.
      after_bind _ _ (times n (parameter k w) q) (parameters_written n q) λ xs r g.
      ((h.0, subst (λ s. ParametersWritten k w xs s) h.1 g.0), omega (arith, h.1, g.1), ap suc g.2)

  pub function_written : (p : ℕ) → After (λ g q. FunctionWritten k w g p × (q ≡ p + function_size g)) (function k w p)
  unfolding function look onward function_size
  function_written p = go (node_at k w at_function p) refl
    where
      go : (v : S.Node) → node_at k w at_function p ≡ v →
          After (λ g q. FunctionWritten k w g p × (q ≡ p + function_size g))
          (onward (λ h s. onward (λ _ t. onward (λ xs u. onward (λ e z.
          done (record { parameters = xs; result = h.high; body = e }) z)
          (part k w 64 u)) (times h.low (parameter k w) t)) (S.next s)) (looked v p))
      go (S.fits h) i =
          after_bind _ _ (times h.low (parameter k w) (suc p)) (parameters_written h.low (suc p)) λ xs u g.
          after_bind _ _ (part k w 64 u) (part_written 64 u) λ e z f.
          let l : u ≡ p + 1 + length xs = omega (arith, g.1, g.2) in (
            record {
              head = record { node = h; is = i; lower = sym g.2; upper = refl };
              parameters = subst (λ s. ParametersWritten k w xs s) (sym (add-one p)) g.0;
              body = moved 64 e l f.0;
            },
            omega (arith, f.1, g.1, g.2),
          )
      go S.wrong_kind i = tt
      go S.wrong_operand i = tt

  functions_written : (n p : ℕ) →
      After (λ gs q. ScriptWritten k w gs p × (length gs ≡ n) × (q ≡ p + total gs)) (times n (function k w) p)
  unfolding times
  functions_written zero p = (tt, refl, omega arith)
  functions_written (suc n) p =
      after_bind _ _ (function k w p) (function_written p) λ g q h.
      after_bind _ _ (times n (function k w) q) (functions_written n q) λ gs r i.
      ((h.0, subst (λ s. ScriptWritten k w gs s) h.1 i.0), ap suc i.1, omega (arith, h.1, i.2))

  finished : (p : ℕ) → After (λ u q. (q ≡ p) × (length k ≤ p)) (finish k w p)
  unfolding finish
  finished p = go tt (ltb p (length k)) refl
    where
      go : (u : Unit {0}) (b : Bool) → ltb p (length k) ≡ b →
          After (λ u q. (q ≡ p) × (length k ≤ p)) (cond b (stop 3 p) (done u p))
      go u true e = tt
      go u false e = (refl, ltb-false p (length k) e)

  -- what the reader takes for a script is written there, and no node is left over
  pub script_written : (n p : ℕ) →
      After (λ gs q. ScriptWritten k w gs p × (length gs ≡ n) × (length k ≤ p + total gs)) (script k w n p)
  unfolding script
  script_written n p =
      after_bind _ _ (times n (function k w) p) (functions_written n p) λ gs q h.
      after_bind _ _ (finish k w q) (finished q) λ u r g.
      (h.0, h.1, omega (arith, h.2, g.1))
