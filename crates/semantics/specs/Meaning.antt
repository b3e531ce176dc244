-- Document 01, "The ledger": the meaning works the written nodes on values.
-- What a compound node does once its parts are worked stands in one action for each kind.
use Rattle.std.specs.Prelude.{ℕ, zero, suc, ◌+◌, Bool, true, false, cond, List, [], ◌∷◌, ◌++◌, pos, nat_abs, length, get_or, eqb}
use Rattle.std.proofs.Math.ListN as List
use Rattle.semantics.specs.Basics.{updated, tabulate}
use Rattle.semantics.specs.Outcome.{Outcome, done, stop, Run, ◌>>=◌, ◌>>◌, give, halt, require, passes}
use Rattle.semantics.specs.Number.{Operation, exact, fits, inside, is_zero, is_answer}
use Rattle.semantics.specs.Value.{Value, num, items, number_in, list}
use Rattle.semantics.specs.Syntax as S
use Rattle.semantics.specs.Kinds.{Leaf, operation, call, literal, index, length_of, iota, replicate, Loop}
use Rattle.semantics.specs.Kinds.{mapping, filtering, reducing, rewriting, takes_cell, later_parts}
use Rattle.semantics.specs.Syntax.{Expr, number, name, let_in, leaf, if_else, loop, Exprs, Parameter, Script}
use Rattle.semantics.specs.Syntax.{function_at}

-- The steps left, and the trace: for each step taken, the last one first, whether its node wants a cell.
pub record Meter : Type 0 where
  pub left : ℕ
  pub trace : List Bool

abbrev pub Work : Type 0 → Type 0
Work A = Run Meter A

unfoldable pub stepped : Bool → ℕ → List Bool → Outcome Meter (Unit {0})
stepped wants zero trace = stop 21 (record { left = 0; trace = trace })
stepped wants (suc n) trace = done tt (record { left = n; trace = wants ∷ trace })

-- one step, of a node that wants a cell or not
unfoldable pub step : Bool → Work (Unit {0})
step wants m = stepped wants m.left m.trace

-- a call of a function, by its number
abbrev pub Callee : Type 0
Callee = ℕ → List Value → Work Value

-- ---- the actions of the compound nodes

unfoldable pub do_operation : Operation → Value → Value → Work Value
do_operation o x y = do
  step false
  let r = exact o (number_in x) (number_in y)
  require (fits r) 24
  give (num r)

unfoldable pub do_call : Callee → ℕ → List Value → Work Value
do_call callee f vs = do step false; callee f vs

unfoldable pub do_literal : List Value → Work Value
do_literal vs = do step true; give (list vs)

unfoldable pub do_index : Value → Value → Work Value
do_index v i = do
  step false
  require (inside (number_in i) (length (items v))) 23
  give (get_or (items v) (nat_abs (number_in i)) (num (pos 0)))

unfoldable pub do_length : Value → Work Value
do_length v = do step false; give (num (pos (length (items v))))

-- a count that an array can have
abbrev pub is_count : Value → Bool
is_count n = inside (number_in n) 17

-- a new array wants a cell only if its count is in range: 26 comes before the cell
unfoldable pub do_iota : Value → Work Value
do_iota n = do
  step (is_count n)
  require (is_count n) 26
  give (list (tabulate 0 (nat_abs (number_in n)) (λ i. num (pos i))))

unfoldable pub do_replicate : Value → Value → Work Value
do_replicate n v = do
  step (is_count n)
  require (is_count n) 26
  give (list (List.replicate (nat_abs (number_in n)) v))

-- a guard of 1 takes the then part, one of 0 the else part, and any other stops
unfoldable pub do_if : Value → Work Value → Work Value → Work Value
do_if g t e = do
  step false
  require (is_answer (number_in g)) 28
  cond (is_zero (number_in g)) e t

abbrev pub argument : List Value → ℕ → Value
argument vs i = get_or vs i (num (pos 0))

unfoldable pub do_leaf : Callee → Leaf → List Value → Work Value
do_leaf callee (operation o) vs = do_operation o (argument vs 0) (argument vs 1)
do_leaf callee (call f) vs = do_call callee f vs
do_leaf callee (literal d) vs = do_literal vs
do_leaf callee index vs = do_index (argument vs 0) (argument vs 1)
do_leaf callee length_of vs = do_length (argument vs 0)
do_leaf callee iota vs = do_iota (argument vs 0)
do_leaf callee replicate vs = do_replicate (argument vs 0) (argument vs 1)

-- ---- passes: what is carried from one to the next is a value

abbrev pub with_item : Value → Value → Value
with_item c v = list (items c ++ (v ∷ []))

-- what is carried into the first pass, and the array that the passes go over
abbrev pub carried_first : Loop → List Value → Value
carried_first mapping vs = list []
carried_first filtering vs = list []
carried_first reducing vs = argument vs 0
carried_first rewriting vs = list []

abbrev pub looped_over : Loop → List Value → Value
looped_over mapping vs = argument vs 0
looped_over filtering vs = argument vs 0
looped_over reducing vs = argument vs 1
looped_over rewriting vs = argument vs 0

-- the values of the names of a pass
abbrev pub pass_values : Loop → Value → Value → List Value
pass_values mapping c v = v ∷ []
pass_values filtering c v = v ∷ []
pass_values reducing c v = c ∷ v ∷ []
pass_values rewriting c v = v ∷ []

-- whether a loop takes what the body of a pass gave: a filter takes an answer
abbrev pub taken_by : Loop → Value → Bool
taken_by mapping r = true
taken_by filtering r = is_answer (number_in r)
taken_by reducing r = true
taken_by rewriting r = true

-- what a pass over v carries on, by what its body gave; a filter's 0 leaves the element out
abbrev pub carried_on : Loop → Value → Value → Value → Value
carried_on mapping c v r = with_item c r
carried_on filtering c v r = cond (is_zero (number_in r)) c (with_item c v)
carried_on reducing c v r = r
carried_on rewriting c v r = with_item c r

-- one pass: its step, then the body
unfoldable pub do_pass : Loop → (List Value → Work Value) → Value → Value → Work Value
do_pass k body c v = do
  step false
  r ← body (pass_values k c v)
  require (taken_by k r) 28
  give (carried_on k c v r)

unfoldable pub do_loop : Loop → List Value → (List Value → Work Value) → Work Value
do_loop k vs body = do
  step (takes_cell k)
  passes (do_pass k body) (carried_first k vs) (items (looped_over k vs))

-- ---- the nodes

abbrev pub Env : Type 0
Env = ℕ → Value

-- names bound to values in turn
abbrev pub binding : List ℕ → List Value → Env → Env
binding [] vs ρ = ρ
binding (x ∷ xs) vs ρ = binding xs (later_parts vs) (updated ρ x (argument vs 0))

module _ (callee : Callee) where
  unfoldable mutual
    pub eval : Expr → Env → Work Value
    eval (number z) ρ = give (num z)
    eval (name x) ρ = give (ρ x)
    eval (let_in x a b) ρ = do v ← eval a ρ; eval b (updated ρ x v)
    eval (leaf l es) ρ = do vs ← eval_all es ρ; do_leaf callee l vs
    eval (if_else a b c) ρ = do g ← eval a ρ; do_if g (eval b ρ) (eval c ρ)
    eval (loop k xs es b) ρ = do vs ← eval_all es ρ; do_loop k vs (λ ws. eval b (binding xs ws ρ))

    pub eval_all : Exprs → Env → Work (List Value)
    eval_all S.none ρ = give []
    eval_all (S.more e es) ρ = do v ← eval e ρ; vs ← eval_all es ρ; give (v ∷ vs)

-- the parameters' names bound to the arguments; no name is repeated
unfoldable pub bound : List Parameter → List Value → Env
bound [] vs = λ _. num (pos 0)
bound (x ∷ xs) [] = λ _. num (pos 0)
bound (x ∷ xs) (v ∷ vs) = updated (bound xs vs) x.id v

-- a function's call, with some call depth left (document 01's nesting)
unfoldable pub meaning : Script → ℕ → Callee
meaning fs zero f vs = halt 22
meaning fs (suc n) f vs =
    let g = function_at fs f in
    eval (meaning fs n) g.body (bound g.parameters vs)

-- main on the totals and the readings, with a budget
unfoldable pub main_meaning : Script → Value → Value → ℕ → Outcome Meter Value
main_meaning fs totals readings budget =
    meaning fs 32 0 (totals ∷ readings ∷ []) (record { left = budget; trace = [] })

-- whether step k, counted from 1, is of a node that wants a cell
unfoldable pub step_wants : ℕ → List Bool → Bool
step_wants k [] = false
step_wants k (wants ∷ earlier) = cond (eqb k (suc (length earlier))) wants (step_wants k earlier)

abbrev pub meter_of : {A : Type 0} → Outcome Meter A → Meter
meter_of (done a m) = m
meter_of (stop n m) = m
