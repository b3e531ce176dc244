-- Order 9 at two scripts, on stores of 2 and of 5 cells with budgets of 50 and of 1,000: the theorem and computed rows.
use Rattle.prelude.specs.Kit.{ℕ, arith, ◌≡◌, refl, List, [], ◌∷◌, ℤ, pos, replicate}
use Rattle.semantics.specs.Value.{numbers}
use Rattle.semantics.specs.Larger.{Twice}
use Rattle.semantics.specs.Computing.{computing}
use Rattle.semantics.specs.Trials.{printed_file}
use Rattle.semantics.specs.Slips.{file_of, low_first, operand_bytes}
use Rattle.soundness.proofs.Instances.{printed_script, rewritten_nodes, rewritten_script}
use Rattle.soundness.proofs.saved.Stories.{Shown, shown}
use Rattle.larger.proofs.Plans.{PlanGrows, plan}
use Rattle.larger.proofs.Histories.{worked_twice, history, shown_first, shown_second, same_history}

plan_grows : (ls : List (List ℤ)) → PlanGrows (plan ls)
unfolding plan
plan_grows [] = tt
plan_grows (l ∷ ls) = (omega arith, (omega arith, plan_grows ls))

-- of a file, lent code arrays of 40 lines
abbrev pub on_both : List ℕ → List (List ℤ) → List Twice
on_both file ls = history file (replicate 40 0) (replicate 40 (pos 0)) (replicate 33 (pos 0)) (replicate 9 0)
    (replicate 81 (pos 0)) (replicate 21 0) (plan ls)

-- ---- the printed script: a stop 23, where there is no reading, and a refusal 10, where there are 17

unfoldable pub printed_readings : List (List ℤ)
printed_readings = (pos 250 ∷ []) ∷ [] ∷ (pos 100 ∷ []) ∷ replicate 17 (pos 1) ∷ (pos 7 ∷ pos 8 ∷ []) ∷ []

unfoldable pub printed_shown : List Shown
printed_shown =
    shown 0 4 (numbers (pos 250 ∷ [])) ∷ shown 23 4 (numbers (pos 250 ∷ [])) ∷ shown 0 6 (numbers (pos 350 ∷ [])) ∷
    shown 10 0 (numbers (pos 350 ∷ [])) ∷ shown 0 6 (numbers (pos 357 ∷ [])) ∷ []

-- on both stores, as computed
pub printed_rows :
    shown_first printed_script (on_both printed_file printed_readings) ∷
    shown_second printed_script (on_both printed_file printed_readings) ∷ []
    ≡ printed_shown ∷ printed_shown ∷ []
unfolding computing worked_twice plan printed_file printed_script printed_readings printed_shown
printed_rows = refl

-- and by the theorem
pub printed_same :
    shown_second printed_script (on_both printed_file printed_readings)
    ≡ shown_first printed_script (on_both printed_file printed_readings)
unfolding computing worked_twice plan printed_file printed_script printed_readings
printed_same = same_history printed_file (replicate 40 0) (replicate 40 (pos 0)) (replicate 33 (pos 0)) (replicate 9 0)
    (replicate 81 (pos 0)) (replicate 21 0) (plan printed_readings) printed_script refl refl refl (omega arith)
    (plan_grows printed_readings) refl refl

-- ---- a map that rewrites the readings: a stop 24 in its second pass

unfoldable pub rewritten_readings : List (List ℤ)
rewritten_readings =
    (pos 5 ∷ pos 6 ∷ []) ∷ (pos 1 ∷ pos 9223372036854775807 ∷ []) ∷ [] ∷ (pos 8 ∷ []) ∷ []

unfoldable pub rewritten_shown : List Shown
rewritten_shown =
    shown 0 5 (numbers (pos 6 ∷ pos 7 ∷ [])) ∷ shown 24 5 (numbers (pos 6 ∷ pos 7 ∷ [])) ∷ shown 0 1 (numbers []) ∷
    shown 0 3 (numbers (pos 9 ∷ [])) ∷ []

pub rewritten_rows :
    shown_first rewritten_script (on_both (file_of 1 rewritten_nodes) rewritten_readings) ∷
    shown_second rewritten_script (on_both (file_of 1 rewritten_nodes) rewritten_readings) ∷ []
    ≡ rewritten_shown ∷ rewritten_shown ∷ []
unfolding computing worked_twice plan file_of low_first operand_bytes rewritten_nodes rewritten_script
    rewritten_readings rewritten_shown
rewritten_rows = refl

pub rewritten_same :
    shown_second rewritten_script (on_both (file_of 1 rewritten_nodes) rewritten_readings)
    ≡ shown_first rewritten_script (on_both (file_of 1 rewritten_nodes) rewritten_readings)
unfolding computing worked_twice plan file_of low_first operand_bytes rewritten_nodes rewritten_script
    rewritten_readings
rewritten_same = same_history (file_of 1 rewritten_nodes) (replicate 40 0) (replicate 40 (pos 0)) (replicate 33 (pos 0))
    (replicate 9 0) (replicate 81 (pos 0)) (replicate 21 0) (plan rewritten_readings) rewritten_script refl refl refl
    (omega arith) (plan_grows rewritten_readings) refl refl
