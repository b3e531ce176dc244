-- Answers for `annotate_loops::retain_handed`.
use Rattle.prelude.specs.Kit.{ℕ, arith, ap, List, [], ◌∷◌}
use Rattle.semantics.specs.Kinds.{loop_hands}
use Rattle.semantics.specs.Annotate.{handed_again}
use Rattle.plain_rows.specs.Plain.{set_of, meant}
use Rattle.plain_rows.specs.Parts.{depth_in, retain_rows}
use Rattle.plain_rows.proofs.Rows.{no_hands}
use Rattle.annotate_rows.specs.Wrote.{Wrote}
use Rattle.annotate_rows.proofs.Rows.{wrote_as, wrote_none}
use Rattle.annotate_loops.proofs.LoopRows.{hands_over, start_one}
use Rattle.annotate_loops.proofs.retain_handed.Goals as goal

pub returns-in-20 : goal.returns-in-20
returns-in-20 c =
    let a = c.args in
    let r = c.retain_atom in
    let wrote = wrote_as (ap (λ (l : List ℕ). retain_rows l)
    (start_one (depth_in a.depths.now) (meant a.a) (set_of a.later.now))) r.ensures in
    hands_over (λ k. Wrote a.ks.now a.os.now r.new.ks r.new.os a.w r.result
    (retain_rows (handed_again (depth_in a.depths.now) (loop_hands k (meant a.a ∷ [])) (set_of a.later.now)))) a.kind
    (omega arith) (omega arith) wrote wrote

pub returns-in_default : goal.returns-in_default
unfolding handed_again
returns-in_default c =
    let a = c.args in
    no_hands (λ k. Wrote a.ks.now a.os.now a.ks.now a.os.now a.w a.w
    (retain_rows (handed_again (depth_in a.depths.now) (loop_hands k (meant a.a ∷ [])) (set_of a.later.now)))) a.kind
    (λ e. omega arith) (λ e. omega arith) wrote_none wrote_none

pub returns-in_default-2 : goal.returns-in_default-2
unfolding handed_again
returns-in_default-2 c =
    let a = c.args in
    no_hands (λ k. Wrote a.ks.now a.os.now a.ks.now a.os.now a.w a.w
    (retain_rows (handed_again (depth_in a.depths.now) (loop_hands k (meant a.a ∷ [])) (set_of a.later.now)))) a.kind
    (λ e. omega arith) (λ e. omega arith) wrote_none wrote_none
