-- A run on values only adds to the trace: a step that wanted a cell is found so in every later trace.
use Rattle.prelude.specs.Kit.{ℕ, ◌≤◌, suc, arith, true, false, Bool, cond, ◌≡◌, refl, ◌∙◌, ap, List, [], ◌∷◌, eqb}
use Rattle.prelude.specs.Kit.{length, eqb-true}
use Rattle.semantics.specs.Outcome.{Outcome, done, stop, Run, onward, ◌>>=◌, give, require, passes}
use Rattle.semantics.specs.Value.{Value}
use Rattle.semantics.specs.Kinds.{Loop}
use Rattle.semantics.specs.Code.{Tree}
use Rattle.semantics.specs.Meaning.{Meter, Callee, Env, step, step_wants, meter_of, do_pass}
use Rattle.semantics.specs.Plain.{run}
use Rattle.discipline.proofs.normal.Trace as Trace
use Rattle.discipline.proofs.normal.Trace.{CalleeGrows, wants_stays, run_grows, grows_give, grows_require}
use Rattle.discipline.proofs.normal.Trace.{grows_step}

-- ---- the trace

wants_within : (k : ℕ) (l : List Bool) → step_wants k l ≡ true → k ≤ length l
unfolding step_wants
wants_within k [] h = absurd (let z : ◌≡◌ {A = ℕ} 0 1 = cc in omega arith)
wants_within k (w ∷ l) h = go (wants_within k l) (eqb k (suc (length l))) refl h
  where
    go : (step_wants k l ≡ true → k ≤ length l) →
        (b : Bool) → eqb k (suc (length l)) ≡ b → cond b w (step_wants k l) ≡ true → k ≤ suc (length l)
    go within true e g = omega (arith, eqb-true k (suc (length l)) e)
    go within false e g = omega (arith, within g)

-- ---- runs that only add to the trace

pub record Grows {A : Type 0} (f : Run Meter A) : Type 0 where
  pub later : (m : Meter) (k : ℕ) → step_wants k m.trace ≡ true → step_wants k (meter_of (f m)).trace ≡ true

-- a run after which the meter is later
pub grown : {A : Type 0} {f : Run Meter A} → Trace.Grows f → Grows f
grown {f = f} later = record {
  later = λ m k h.
      let q = later m in
      ap (step_wants k) q.trace ∙ wants_stays k q.more m.trace (wants_within k m.trace h) ∙ h;
}

module _ {A B : Type 0} where
  -- what comes after an outcome
  pub onward_grows : (g : A → Run Meter B) → ((a : A) → Grows (g a)) → (p : Outcome Meter A) (k : ℕ) →
      step_wants k (meter_of p).trace ≡ true → step_wants k (meter_of (onward g p)).trace ≡ true
  unfolding onward
  onward_grows g grows (done a m) k h = (grows a).later m k h
  onward_grows g grows (stop n m) k h = h

  pub bind_grows : {f : Run Meter A} {g : A → Run Meter B} → Grows f → ((a : A) → Grows (g a)) → Grows (f >>= g)
  bind_grows {f} {g} grows next = record { later = λ m k h. onward_grows g next (f m) k (grows.later m k h) }

pub give_grows : {A : Type 0} (a : A) → Grows (give a)
give_grows a = grown (grows_give a)

pub require_grows : (t : Bool) (n : ℕ) → Grows (require t n)
require_grows t n = grown (grows_require t n)

pub step_grows : (wants : Bool) → Grows (step wants)
step_grows wants = grown (grows_step wants)

pub passes_grow : {A B : Type 0} (f : B → A → Run Meter B) → ((b : B) (a : A) → Grows (f b a)) → (b : B) (l : List A) →
    Grows (passes f b l)
unfolding passes
passes_grow f grows b [] = give_grows b
passes_grow f grows b (a ∷ l) = bind_grows (grows b a) (λ c. passes_grow f grows c l)

-- ---- a pass, and a tree

pub pass_grows : (k : Loop) (body : List Value → Run Meter Value) → ((vs : List Value) → Grows (body vs)) →
    (c v : Value) → Grows (do_pass k body c v)
unfolding do_pass
pass_grows k body grows c v = bind_grows (step_grows false)
    (λ _. bind_grows (grows _) (λ r. bind_grows (require_grows _ 28) (λ _. give_grows _)))

pub tree_grows : (callee : Callee) → CalleeGrows callee → (t : Tree) (δ : Env) → Grows (run callee t δ)
tree_grows callee grows t δ = grown (run_grows callee grows t δ)
