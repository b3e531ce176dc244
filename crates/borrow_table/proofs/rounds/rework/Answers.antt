-- What following a link makes of a round.
use Rattle.prelude.specs.Kit.{arith, ◌∙◌, length-set, get_or}
use Rattle.borrow_table.proofs.Working.{sweep_begins, sweep_takes, sweep_spares, sweep_ends}
use Rattle.borrow_table.proofs.Working.{chase_takes, chain_begins, chain_ends, chase_ends}
use Rattle.borrow_table.proofs.rounds.rework.Goals as goal
use Rattle.borrow_table.proofs.rounds.rework.Goals.{then-follow, else-follow}

pub loop-k-init : goal.loop-k-init
loop-k-init c =
    (sweep_begins (omega arith) c.requires.n_bound c.requires.shaped, omega arith)

pub loop-k-preserved : goal.loop-k-preserved
loop-k-preserved c =
    let v = c.loop-k.invariant in
    let wide = length-set c.loop-k.after c.loop-k.k (get_or c.loop-k.heads c.entry_of-e.result 0) ∙ v.1 in
    elim c.if-follow.branch [
      | then-follow w ↦
          rw w.m-is (
            sweep_takes v.0 c.loop-k-test.true _ w.note-m.ensures.0 w.note-m.ensures.1
                (rw w.if-follow.true at c.follow.ensures),
            wide,
          )
      | else-follow w ↦
          rw w.m-is (sweep_spares v.0 c.loop-k-test.true (rw w.if-follow.false at c.follow.ensures), wide)
    ]

pub loop-p-init : goal.loop-p-init
loop-p-init c = sweep_ends c.loop-k.invariant.0 c.loop-k-test.false

pub loop-j-init : goal.loop-j-init
loop-j-init c = (chain_begins c.loop-p.invariant, omega arith)

pub loop-p-preserved-in-loop-j : goal.loop-p-preserved-in-loop-j
loop-p-preserved-in-loop-j c =
    let w = c.loop-j.invariant in
    chain_ends c.loop-p.invariant c.loop-p-test.true w.0 w.1

pub loop-p-preserved-else-j-links : goal.loop-p-preserved-else-j-links
loop-p-preserved-else-j-links c =
    let w = c.loop-j.invariant in
    chain_ends c.loop-p.invariant c.loop-p-test.true w.0 w.1

pub loop-p-preserved : goal.loop-p-preserved
loop-p-preserved c =
    let w = c.loop-j.invariant in
    chain_ends c.loop-p.invariant c.loop-p-test.true w.0 w.1

pub loop-j-preserved-then-follow-2 : goal.loop-j-preserved-then-follow-2
loop-j-preserved-then-follow-2 c =
    let noted = c.note-m-then-follow-2.ensures in (
      chase_takes c.loop-j.invariant.0 _ _ noted.1 (omega arith)
          (rw c.if-follow-2.true at c.follow-in-loop-j.ensures),
      noted.0,
    )

pub returns-clause-reworked : goal.returns-clause-reworked
returns-clause-reworked c = chase_ends c.loop-k.invariant.0 c.loop-k-test.false c.loop-p.invariant
