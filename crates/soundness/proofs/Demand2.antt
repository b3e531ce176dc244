-- Demand 2: running the code does what the script means, unless a cell is wanting.
use Rattle.prelude.specs.Kit.{ℕ, arith, true, false, Bool, cond, ◌≡◌, refl, ◌∙◌, subst, List}
use Rattle.semantics.specs.Syntax.{Script, main_depth}
use Rattle.semantics.specs.Calls.{Verdict, accepted, refused, judged, admitted, admitted_if, code_fits}
use Rattle.semantics.specs.Demands.{Demand2}
use Rattle.discipline.proofs.machine.Delivery.{delivers_clean, delivers_does}
use Rattle.soundness.proofs.Settled.{sound_settles}
use Rattle.soundness.proofs.Delivering.{few_lines, delivers}

-- what passes 1 to 9 passes 1 to 8, and fits
pub record Admitted (file : List ℕ) (lines : ℕ) (fs : Script) : Type 0 where
  pub judged_so : judged file ≡ accepted fs
  pub fits : code_fits fs lines ≡ true

pub admitted_says : (file : List ℕ) (lines : ℕ) (fs : Script) → admitted file lines ≡ accepted fs →
    Admitted file lines fs
unfolding admitted
admitted_says file lines fs = by (judged file) refl
  where
    by : (j : Verdict) → judged file ≡ j → admitted_if lines j ≡ accepted fs → Admitted file lines fs
    by (refused n p) e h = absurd (let z : ◌≡◌ {A = ℕ} 0 1 = cc in omega arith)
    by (accepted gs) e h = fit (code_fits gs lines) refl h
      where
        fit : (b : Bool) → code_fits gs lines ≡ b → cond b (accepted gs) (refused 9 0) ≡ accepted fs →
            Admitted file lines fs
        fit false q p = absurd (let z : ◌≡◌ {A = ℕ} 0 1 = cc in omega arith)
        fit true q p =
            let same : gs ≡ fs = cc in
            record { judged_so = e ∙ p; fits = subst (λ f. code_fits f lines ≡ true) same q }

pub demand_2 : Demand2
demand_2 file lines fs short passes slots heads sound readings budget fit =
    let a = admitted_says file lines fs passes in
    let run = delivers file fs a.judged_so (few_lines fs lines short a.fits)
    (sound_settles (main_depth fs) slots heads sound) readings budget fit in
    ((delivers_clean run).cells, delivers_does refl run)
