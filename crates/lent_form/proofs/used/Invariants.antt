-- The places behind are zero: from the end of the blocks still to be looked at on, and then from place i on.
use Rattle.prelude.specs.Kit.{◌≡◌, ◌≤◌, length, take, eqb}
use Rattle.semantics_lent.specs.Form.{used}
use Rattle.lent_form.proofs.used.Given as goal

abbrev pub invariant-loop-end : goal.invariant-loop-end
invariant-loop-end g l =
    (l.end ≤ length l.words)
    × (used (λ w. g.T.PartialEq.eq w l.zero) l.words ≡ used (λ w. g.T.PartialEq.eq w l.zero) (take l.end l.words))

abbrev pub decreases-loop-end : goal.decreases-loop-end
decreases-loop-end g l = l.end

abbrev pub invariant-loop-i : goal.invariant-loop-i
invariant-loop-i g l =
    used (λ w. g.T.PartialEq.eq w l.zero) l.words ≡ used (λ w. g.T.PartialEq.eq w l.zero) (take l.i l.words)

abbrev pub invariant-loop-word : goal.invariant-loop-word
invariant-loop-word g l =
    l.none ≡ eqb (used (λ w. g.T.PartialEq.eq w l.zero) (take l.word-index l.block)) 0
