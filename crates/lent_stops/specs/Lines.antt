-- `judged_line`: where lent code is refused, the line at fault is at most 4,096.
use Rattle.std.specs.Prelude.{ℕ, ◌≤◌, ◌≡◌, List, ℤ}
use Rattle.semantics.specs.Outcome.{Outcome, done, stop}
use Rattle.semantics.specs.Annotate.{NameDepths}
use Rattle.semantics.specs.Borrow.{Table}
use Rattle.semantics_lent.specs.Form.{Lent, form}
use Rattle.semantics_lent.specs.Fit.{fit}
use Rattle.semantics_lent.specs.Hold.{hold}
use Rattle.semantics_lent.specs.Calls.{judged_holds, judged_depths, judged_form, judged_code}
use Rattle.lent_stops.specs.Stops.{StopsBy, StopsAtMost, stop_line}
use Rattle.lent_stops.specs.Sizes.{code_size}
use Rattle.lent_stops.specs.Forms.{form_stops}
use Rattle.lent_stops.specs.Fits.{fit_stops}
use Rattle.lent_stops.specs.Holds.{hold_stops}

-- ---- by the last test, the second and the first

by_holds : (lines d : ℕ) (gs : List Lent) (Γs : List NameDepths) (o : Outcome ℕ Table) → StopsAtMost 4096 o →
    StopsAtMost 4096 (judged_holds lines d gs Γs o)
by_holds lines d gs Γs (done T p) h = tt
by_holds lines d gs Γs (stop n p) h = h

by_depths : (lines d : ℕ) (gs : List Lent) → code_size gs ≤ 4096 → (o : Outcome ℕ (List NameDepths)) →
    StopsAtMost 4096 o → StopsAtMost 4096 (judged_depths lines d gs o)
by_depths lines d gs few (done Γs p) h = by_holds lines d gs Γs (hold gs Γs) (hold_stops 4096 gs Γs few)
by_depths lines d gs few (stop n p) h = h

by_form : (d : ℕ) (o : Outcome ℕ (List Lent)) → StopsBy 4096 (λ (gs : List Lent) (q : ℕ). code_size gs ≤ 4096) o →
    StopsAtMost 4096 (judged_form d o)
by_form d (done gs lines) h = by_depths lines d gs h (fit d gs) (fit_stops 4096 d gs h)
by_form d (stop n p) h = h

-- ---- the judgement

pub judged_line : (kinds : List ℕ) (operands : List ℤ) (d n p : ℕ) → judged_code kinds operands d ≡ stop n p → p ≤ 4096
unfolding judged_code
judged_line kinds operands d n p e =
    stop_line 4096 (judged_form d (form kinds operands)) n p
    (by_form d (form kinds operands) (form_stops kinds operands)) e
