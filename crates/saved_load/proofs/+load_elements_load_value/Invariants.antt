-- The measures fall with the depth, an array's elements after its cell. In the loop the elements that are left, from
-- what is loaded on, give what all of them give.
use Rattle.prelude.specs.Kit.{◌+◌, ◌-◌, ◌*◌, ◌≡◌}
use Rattle.semantics.specs.Words.{store_of}
use Rattle.saved_load.specs.Entries.{place, fill, elements_at, load_at}
use Rattle.saved_load.proofs.+load_elements_load_value.Given as goal

abbrev pub decreases-load_elements : goal.decreases-load_elements
decreases-load_elements l = 2 * l.depth + 1

abbrev pub decreases-load_value : goal.decreases-load_value
decreases-load_value l = 2 * l.depth

abbrev pub invariant-load_elements-loop : goal.invariant-load_elements-loop
invariant-load_elements-loop l =
    fill (load_at l.saved l.k l.depth) l.c (elements_at l.saved 0 l.p)
    (place (l.p + 1) l.free (store_of l.initial.slots l.initial.heads))
    ≡ fill (load_at l.saved l.k l.depth) l.c (elements_at l.saved 0 l.p - l.counter)
    (place l.next l.left (store_of l.slots l.heads))
