-- What the loop of `lent_counts::none_bound` keeps.
use Rattle.prelude.specs.Kit.{◌≡◌, false, get_or}
use Rattle.semantics.specs.Basics.{all}
use Rattle.lent_counts.specs.Counted.{kept_out}
use Rattle.lent_counts.proofs.none_bound.Given as goal

abbrev pub invariant-loop-i : goal.invariant-loop-i
invariant-loop-i l =
    l.none ≡ all (λ k. kept_out (get_or l.lent k false) (get_or l.before k 0) (get_or l.after k 0)) 0 l.i
