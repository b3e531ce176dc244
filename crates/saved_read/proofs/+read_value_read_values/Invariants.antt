-- The measures fall with the depth, the values of an array after the array. In the loop the values that are left, from
-- where it has come on, are told as all of them are.
use Rattle.prelude.specs.Kit.{◌+◌, ◌-◌, ◌*◌, ◌≡◌}
use Rattle.semantics.specs.Outcome.{times}
use Rattle.semantics.specs.Saved.{value_at}
use Rattle.saved_read.specs.Told.{told}
use Rattle.saved_read.proofs.+read_value_read_values.Given as goal

abbrev pub decreases-read_value : goal.decreases-read_value
decreases-read_value l = 2 * l.depth

abbrev pub decreases-read_values : goal.decreases-read_values
decreases-read_values l = 2 * l.depth + 1

abbrev pub invariant-read_values-loop : goal.invariant-read_values-loop
invariant-read_values-loop l =
    told (times l.count (value_at l.saved l.k l.depth) l.p)
    ≡ told (times (l.count - l.counter) (value_at l.saved l.k l.depth) l.q)
