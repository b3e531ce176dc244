-- Document 02, order 10, over the definitions' calls: what passes touches no free cell, leaves none but the totals',
-- and computes what it means with retains and releases ignored; and all code from the translator passes.
use Rattle.std.specs.Prelude.{ℕ, ◌≤◌, ◌<◌, ◌-◌, true, false, Bool, cond, ◌≡◌, refl, List, ℤ, length}
use Rattle.prelude.specs.Kit.{arith, ◌∙◌, sym, ap, subst, leb-true}
use Rattle.semantics.specs.Outcome.{Outcome}
use Rattle.semantics.specs.Syntax.{Script}
use Rattle.semantics.specs.Annotate.{code}
use Rattle.semantics.specs.Machine.{Program}
use Rattle.semantics.specs.Calls.{packed, number_of, Verdict, accepted, refused, judged, admitted, admitted_if, room}
use Rattle.semantics.specs.Calls.{code_fits, Reply, translated, engine_translate}
use Rattle.semantics_lent.specs.Calls.{checking, engine_check_code}
use Rattle.script_laws.specs.Nodes.{Numbered, judged_numbered}
use Rattle.soundness.proofs.Answers.{number_packed}
use Rattle.semantics_lent.specs.Demands.{Passes, WorksLent, TranslatedPasses, defined_lent}
use Rattle.lent_soundness.specs.Works.{works_lent}
use Rattle.lent_passing.specs.Accepts.{fits_say}
use Rattle.lent_passing.specs.Translated.{code_passes}

-- every list of deliveries by lent code and by scripts, after every opening and restore
pub lent_works : WorksLent defined_lent
lent_works = works_lent fits_say

-- an accepted script's code, in arrays that have room for it
fitting : (file kinds : List ℕ) (operands : List ℤ) (fs : Script) → judged file ≡ accepted fs →
    code_fits fs (room kinds operands) ≡ true →
    Passes defined_lent file (translated (accepted fs) kinds operands)
unfolding code_fits translated defined_lent engine_check_code
fitting file kinds operands fs ok fits =
    let short : length (code fs) ≤ 4096 =
    omega (arith, leb-true (length (code fs)) (room kinds operands) fits) in
    let r = translated (accepted fs) kinds operands in
    record {
      by = fs;
      is_accepted = ok;
      passes = λ c e. e
          ∙ ap (λ (o : Outcome ℕ Program). record { answer = checking o; kinds = r.kinds; operands = r.operands })
          (code_passes file fs ok short (length kinds - length (code fs)) (length operands - length (code fs)));
    }

pub translated_passes : TranslatedPasses defined_lent
unfolding engine_translate admitted translated defined_lent
translated_passes file kinds operands r e z =
    subst (Passes defined_lent file) (sym e) (go (judged file) refl (judged_numbered file)
    (ap (λ (q : Reply). number_of q.answer) (sym e) ∙ z))
  where
    refusal : (n p : ℕ) → 0 < n → n < 256 → number_of (packed n p 0 0) ≡ 0 → ⊥
    refusal n p h g e = omega (arith, number_packed n p 0 0 g, e, h)

    by_room : (fs : Script) → judged file ≡ accepted fs → (b : Bool) → code_fits fs (room kinds operands) ≡ b →
        number_of (translated (cond b (accepted fs) (refused 9 0)) kinds operands).answer ≡ 0 →
        Passes defined_lent file (translated (cond b (accepted fs) (refused 9 0)) kinds operands)
    by_room fs ok true f z = fitting file kinds operands fs ok f
    by_room fs ok false f z = absurd (refusal 9 0 (omega arith) (omega arith) z)

    go : (v : Verdict) → judged file ≡ v → Numbered v →
        number_of (translated (admitted_if (room kinds operands) v) kinds operands).answer ≡ 0 →
        Passes defined_lent file (translated (admitted_if (room kinds operands) v) kinds operands)
    go (accepted fs) ok n z = by_room fs ok (code_fits fs (room kinds operands)) refl z
    go (refused n p) ok m z = absurd (refusal n p m.0 (omega (arith, m.1)) z)
