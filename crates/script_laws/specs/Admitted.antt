-- Verdicts that accept: no refusal does, and what passes 1 to 9 passes 1 to 8.
use Rattle.std.specs.Prelude.{ℕ, true, false, Bool, cond, ◌≡◌, List}
use Rattle.prelude.specs.Kit.{arith}
use Rattle.semantics.specs.Syntax.{Script}
use Rattle.semantics.specs.Calls.{Verdict, accepted, refused, judged, admitted, admitted_if}
use Rattle.semantics.specs.Calls.{code_fits}

pub no_script : {A : Type 0} (n p : ℕ) (fs : Script) → refused n p ≡ accepted fs → A
no_script n p fs e = absurd (let z : ◌≡◌ {A = ℕ} 0 1 = cc in omega arith)

module _ (fs : Script) where
  -- a verdict with refusal 9 that accepts
  accepted_so : (lines : ℕ) (v : Verdict) → admitted_if lines v ≡ accepted fs → v ≡ accepted fs
  accepted_so lines (refused n m) e = no_script n m fs e
  accepted_so lines (accepted gs) e = go (code_fits gs lines) e
    where
      go : (t : Bool) → cond t (accepted gs) (refused 9 0) ≡ accepted fs → accepted gs ≡ accepted fs
      go true g = g
      go false g = no_script 9 0 fs g

  pub admitted_judged : (file : List ℕ) (lines : ℕ) → admitted file lines ≡ accepted fs → judged file ≡ accepted fs
  unfolding admitted
  admitted_judged file lines e = accepted_so lines (judged file) e
