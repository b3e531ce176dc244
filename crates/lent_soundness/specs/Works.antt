-- `works_lent`: over every list of deliveries, by lent code and by scripts as they come, what passes does what it
-- means, touches no free cell and leaves none but the totals'.
use Rattle.std.specs.Prelude.{ℕ, ◌-◌, ◌≡◌, List, [], ◌∷◌, ℤ}
use Rattle.prelude.specs.Kit.{sym, subst}
use Rattle.semantics.specs.Syntax.{main_depth}
use Rattle.semantics.specs.Value.{Value, first_totals}
use Rattle.semantics.specs.Calls.{number_of, StoreReply}
use Rattle.semantics.specs.Ledger.{Delivery}
use Rattle.semantics.specs.Demands.{defined}
use Rattle.semantics.specs.Swap.{defined_saving}
use Rattle.soundness.proofs.Settled.{settled_rests}
use Rattle.soundness.proofs.Step.{Standing}
use Rattle.soundness.proofs.Demand3.{open_accepts, opening_stands}
use Rattle.soundness.proofs.saved.Restoring.{restored_from}
use Rattle.lent_soundness.specs.Accepted.{FitsSay}
use Rattle.semantics_lent.specs.Demands.{By, by_file, by_code, script, lent, admission, Job, Calls, InTurn, Kept}
use Rattle.semantics_lent.specs.Demands.{WorksLent, defined_lent}
use Rattle.lent_soundness.specs.Steps.{StandsAt, settled_at, Stepped, stepped_agrees}
use Rattle.lent_soundness.specs.ByCode.{code_step}
use Rattle.lent_soundness.specs.ByScript.{file_step}

-- ---- the list

module _ (say : FitsSay) where
  -- a call in its turn
  job_steps : (d : ℕ) (slots : List ℤ) (heads : List ℕ) (v : Value) (s : StandsAt d slots heads v) (by : By)
      (δ : Delivery) (r : StoreReply) → Calls defined_lent by slots heads δ r →
      Stepped d slots heads v s δ by (admission by δ) r
  unfolding defined_lent defined_saving defined
  job_steps d slots heads v s (by_file file) δ r turn =
      subst (Stepped d slots heads v s δ (by_file file) (admission (by_file file) δ)) (sym turn)
      (file_step d slots heads v s δ file)
  job_steps d slots heads v s (by_code c) δ r turn =
      subst (Stepped d slots heads v s δ (by_code c) (admission (by_code c) δ)) (sym turn)
      (code_step d slots heads v s δ c say)

  pub all_kept : (js : List Job) (d : ℕ) (slots : List ℤ) (heads : List ℕ) (v : Value) → StandsAt d slots heads v →
      InTurn defined_lent slots heads js → Kept d slots heads v js
  all_kept [] d slots heads v s turn = settled_rests (settled_at s)
  all_kept (j ∷ js) d slots heads v s turn =
      let one = job_steps d slots heads v s j.by j.lent j.reply turn.0 in (
        stepped_agrees d slots heads v s j.lent j.by j.reply one,
        all_kept js d j.reply.slots j.reply.heads _ one.stands turn.1,
      )

  -- order 10's second claim, of the definitions' calls
  pub works_lent : WorksLent defined_lent
  unfolding defined_lent defined_saving defined
  works_lent = (
    λ file kinds operands slots heads opening opened answered.
        let z = subst (λ r. number_of r.answer ≡ 0) opened answered in
        let a = open_accepts file kinds operands slots heads z in
        let s = subst (λ r. Standing a.script r.slots r.heads (first_totals (main_depth a.script)))
        (sym opened) (opening_stands file a.script a.so kinds operands slots heads z) in
        record {
          by = a.script;
          is_accepted = a.so;
          keeps = λ js turn. all_kept js (main_depth a.script) opening.slots opening.heads
              (first_totals (main_depth a.script)) (record { sound = s.sound; value = s.value }) turn;
        },
    λ file kinds operands slots heads saved restoring called answered.
        let s = restored_from file kinds operands slots heads saved restoring called answered in
        record {
          by = s.script;
          is_accepted = s.is_accepted;
          value = s.stood.value;
          is_read = s.stood.is_read;
          keeps = λ js turn. all_kept js (main_depth s.script) restoring.slots restoring.heads
              s.stood.value
              (record { sound = s.stood.stands.sound; value = s.stood.stands.value }) turn;
        },
  )
