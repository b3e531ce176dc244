-- `running_grows`: a run only adds to the trace, and each step that it adds is one less that is left.
-- `wants_stays`: what a step wants does not change with later steps.
use Rattle.prelude.specs.Kit.{ℕ, ◌≤◌, ◌+◌, suc, zero, arith, true, false, Bool, cond, ◌≡◌, refl, ◌∙◌, sym, ap, List, []}
use Rattle.prelude.specs.Kit.{◌∷◌, ◌++◌, map, append_assoc, pos, nat_abs, length, get_or, length-append, ne_eqb}
use Rattle.std.proofs.Math.ListN as List
use Rattle.semantics.specs.Basics.{updated, tabulate}
use Rattle.semantics.specs.Outcome.{Outcome, done, stop, ◌>>=◌, give, require, passes, onward}
use Rattle.semantics.specs.Number.{fits, exact, inside, is_zero, is_answer}
use Rattle.semantics.specs.Value.{Value, num, list, items, number_in}
use Rattle.semantics.specs.Meaning.{Meter, Work, Callee, Env, stepped, step, do_operation, do_call, do_literal}
use Rattle.semantics.specs.Meaning.{do_index, do_length, is_count, do_iota, do_replicate, do_leaf, do_if, do_pass}
use Rattle.semantics.specs.Meaning.{do_loop, binding, carried_first, carried_on, argument, looped_over, pass_values}
use Rattle.semantics.specs.Meaning.{taken_by, step_wants, meter_of}
use Rattle.semantics.specs.Kinds.{Leaf, operation, call, literal, index, length_of, iota, replicate, Loop, takes_cell}
use Rattle.semantics.specs.Code.{Line, leaf, if_else, loop, retain, release, Tree, end, line}
use Rattle.semantics.specs.Machine.{Program, routine_of}
use Rattle.semantics.specs.Plain.{value, run, run_line, valued, running}

-- The meter m' is m after some steps: `more` are the steps, the last one first.
pub record Later (m m' : Meter) : Type 0 where
  pub more : List Bool
  pub trace : m'.trace ≡ more ++ m.trace
  pub left : m'.left + length m'.trace ≡ m.left + length m.trace

-- what a run leaves is later than what it found, whether it ends or stops
abbrev pub Grows : {A : Type 0} → Work A → Type 0
Grows work = (m : Meter) → Later m (meter_of (work m))

abbrev pub CalleeGrows : Callee → Type 0
CalleeGrows callee = (f : ℕ) (vs : List Value) → Grows (callee f vs)

later_same : (m : Meter) → Later m m
later_same m = record { more = []; trace = refl; left = refl }

later_trans : {m₁ m₂ m₃ : Meter} → Later m₁ m₂ → Later m₂ m₃ → Later m₁ m₃
later_trans {m₁} {m₂} {m₃} h g = record {
  more = g.more ++ h.more;
  trace = g.trace ∙ ap (λ l. g.more ++ l) h.trace ∙ sym (append_assoc g.more h.more m₁.trace);
  left = g.left ∙ h.left;
}

-- ---- runs in turn

grows_then : {A B : Type 0} (work : Work A) (f : A → Work B) → Grows work → ((a : A) → Grows (f a)) → Grows (work >>= f)
unfolding onward
grows_then {A} {B} work f first next m = go (work m) (first m)
  where
    go : (o : Outcome Meter A) → Later m (meter_of o) → Later m (meter_of (onward f o))
    go (done a m') h = later_trans h (next a m')
    go (stop n m') h = h

pub grows_give : {A : Type 0} (a : A) → Grows (give a)
grows_give a m = later_same m

pub grows_require : (t : Bool) (n : ℕ) → Grows (require t n)
unfolding require
grows_require true n m = later_same m
grows_require false n m = later_same m

pub grows_step : (wants : Bool) → Grows (step wants)
unfolding step stepped
grows_step wants m = go m.left refl
  where
    go : (n : ℕ) → m.left ≡ n → Later m (meter_of (stepped wants n m.trace))
    go zero e = record { more = []; trace = refl; left = omega arith }
    go (suc n) e = record { more = wants ∷ []; trace = refl; left = omega arith }

grows_passes : {A B : Type 0} (f : B → A → Work B) → ((b : B) (a : A) → Grows (f b a)) → (l : List A) (b : B) →
    Grows (passes f b l)
unfolding passes
grows_passes f each [] b = grows_give b
grows_passes f each (a ∷ l) b = grows_then (f b a) (λ c. passes f c l) (each b a) (λ c. grows_passes f each l c)

-- what has a condition, and an answer that has one
grows_after : {A : Type 0} (t : Bool) (n : ℕ) (work : Work A) → Grows work → Grows (require t n >>= λ _. work)
grows_after t n work h = grows_then (require t n) (λ _. work) (grows_require t n) (λ _. h)

grows_required : (t : Bool) (n : ℕ) (v : Value) → Grows (require t n >>= λ _. give v)
grows_required t n v = grows_after t n (give v) (grows_give v)

-- a step, and what follows it
grows_stepping : {A : Type 0} (wants : Bool) (work : Work A) → Grows work → Grows (step wants >>= λ _. work)
grows_stepping wants work h = grows_then (step wants) (λ _. work) (grows_step wants) (λ _. h)

-- a new array of so many elements, if an array can have so many
grows_counted : (n v : Value) → Grows (step (is_count n) >>= λ _. require (is_count n) 26 >>= λ _. give v)
grows_counted n v = grows_stepping (is_count n) _ (grows_required (is_count n) 26 v)

-- ---- the actions, the trees, the calls

grows_if : (g : Value) (t e : Work Value) → Grows t → Grows e → Grows (do_if g t e)
unfolding do_if
grows_if g t e h k = grows_stepping false _ (grows_after (is_answer (number_in g)) 28 (cond (is_zero (number_in g)) e t)
    (elim (is_zero (number_in g)) as (λ b. Grows (cond b e t)) [ true ↦ k | false ↦ h ]))

grows_loop : (k : Loop) (vs : List Value) (body : List Value → Work Value) → ((ws : List Value) → Grows (body ws)) →
    Grows (do_loop k vs body)
unfolding do_loop do_pass
grows_loop k vs body h =
    grows_stepping (takes_cell k) _ (grows_passes (do_pass k body) pass (items (looped_over k vs)) (carried_first k vs))
  where
    pass : (c w : Value) → Grows (do_pass k body c w)
    pass c w =
        grows_stepping false _ (grows_then (body (pass_values k c w)) _ (h (pass_values k c w))
        (λ r. grows_required (taken_by k r) 28 (carried_on k c w r)))

grows_leaf : (callee : Callee) → CalleeGrows callee → (l : Leaf) (vs : List Value) → Grows (do_leaf callee l vs)
unfolding do_leaf do_operation do_call do_literal do_index do_length do_iota do_replicate
grows_leaf callee calls (operation o) vs =
    let z = exact o (number_in (argument vs 0)) (number_in (argument vs 1)) in
    grows_stepping false _ (grows_required (fits z) 24 (num z))
grows_leaf callee calls (call f) vs = grows_stepping false _ (calls f vs)
grows_leaf callee calls (literal d) vs = grows_stepping true _ (grows_give (list vs))
grows_leaf callee calls index vs =
    let us = items (argument vs 0) in
    let i = number_in (argument vs 1) in
    grows_stepping false _ (grows_required (inside i (length us)) 23 (get_or us (nat_abs i) (num (pos 0))))
grows_leaf callee calls length_of vs =
    grows_stepping false _ (grows_give (num (pos (length (items (argument vs 0))))))
grows_leaf callee calls iota vs =
    let n = argument vs 0 in
    grows_counted n (list (tabulate 0 (nat_abs (number_in n)) (λ i. num (pos i))))
grows_leaf callee calls replicate vs =
    let n = argument vs 0 in
    grows_counted n (list (List.replicate (nat_abs (number_in n)) (argument vs 1)))

-- a line's action, then the binding of its name
grows_binding : (δ : Env) (x : ℕ) (work : Work Value) → Grows work → Grows (work >>= λ v. give (updated δ x v))
grows_binding δ x work h = grows_then work (λ v. give (updated δ x v)) h (λ v. grows_give (updated δ x v))

module _ (callee : Callee) (calls : CalleeGrows callee) where
  mutual
    unfolding run

    pub run_grows : (t : Tree) (δ : Env) → Grows (run callee t δ)
    run_grows (end a) δ = grows_give (value δ a)
    run_grows (line l t) δ = grows_then (run_line callee l δ) (run callee t) (line_grows l δ) (λ γ. run_grows t γ)

    pub line_grows : (l : Line) (δ : Env) → Grows (run_line callee l δ)
    line_grows (leaf x l us) δ = grows_binding δ x _ (grows_leaf callee calls l (map (value δ) us))
    line_grows (if_else x g t e) δ =
        grows_binding δ x _ (grows_if (value δ g) (run callee t δ) (run callee e δ) (run_grows t δ) (run_grows e δ))
    line_grows (loop x k ps us t) δ =
        grows_binding δ x _ (grows_loop k (map (value δ) us) (λ ws. run callee t (binding ps ws δ))
        (λ ws. run_grows t (binding ps ws δ)))
    line_grows (retain x) δ = grows_give δ
    line_grows (release x) δ = grows_give δ

pub running_grows : (p : Program) (n : ℕ) → CalleeGrows (running p n)
unfolding running
running_grows p zero f vs m = later_same m
running_grows p (suc n) f vs m =
    run_grows (running p n) (running_grows p n) (routine_of p f).tree (valued (routine_of p f).names vs) m

-- ---- the steps of a trace that has grown

-- what a step wants does not change with later steps
pub wants_stays : (k : ℕ) (more trace : List Bool) → k ≤ length trace →
    step_wants k (more ++ trace) ≡ step_wants k trace
unfolding step_wants
wants_stays k [] trace le = refl
wants_stays k (wants ∷ more) trace le =
    rw (ne_eqb k (suc (length (more ++ trace))) (λ e. omega (arith, length-append more trace)))
    (wants_stays k more trace le)
