-- `saved_read::read_value` and `saved_read::read_values` call one another and meet their contracts, by `Laws`.
use Rattle.saved_read.proofs.Laws.{past, number, no_number, flat, long, numbered, goes_down, goes_on, breaks, none_left}
use Rattle.saved_read.proofs.+read_value_read_values.Goals as goal
use Rattle.saved_read.proofs.+read_value_read_values.Goals.{read_value-then-mark-eq0-2-via-then-mark-eq0-2}
use Rattle.saved_read.proofs.+read_value_read_values.Goals.{read_value-then-mark-eq0-2-via-else-mark-eq0-2+then-mark-gt17}
use Rattle.saved_read.proofs.+read_value_read_values.Goals.{read_value-then-mark-eq0-2-via-else-mark-eq0-2+else-mark-gt17+then-word_at-ne0}

-- ---- one value

pub read_value-returns-then-k-p : goal.read_value-returns-then-k-p
read_value-returns-then-k-p t c = past _ _ _ _ c.if-k-p.true

pub read_value-returns-then-mark-eq0 : goal.read_value-returns-then-mark-eq0
read_value-returns-then-mark-eq0 t c =
    number _ _ _ _ _ c.if-k-p.false c.get_or-mark.ensures c.if-depth-eq0.true c.if-mark-eq0.true

pub read_value-returns-else-mark-eq0 : goal.read_value-returns-else-mark-eq0
read_value-returns-else-mark-eq0 t c =
    no_number _ _ _ _ _ c.if-k-p.false c.get_or-mark.ensures c.if-depth-eq0.true c.if-mark-eq0.false

pub read_value-returns-then-mark-eq0-2 : goal.read_value-returns-then-mark-eq0-2
read_value-returns-then-mark-eq0-2 t c =
    let within = c.if-k-p.false in
    let is = c.get_or-mark.ensures in
    let deep = c.if-depth-eq0.false in
    elim c.then-mark-eq0-2.branch [
      | read_value-then-mark-eq0-2-via-then-mark-eq0-2 w ↦ flat _ _ _ _ _ within is deep w.if-mark-eq0-2.true
      | read_value-then-mark-eq0-2-via-else-mark-eq0-2+then-mark-gt17 w ↦
          long _ _ _ _ _ within is deep w.if-mark-eq0-2.false w.if-mark-gt17.true
      | read_value-then-mark-eq0-2-via-else-mark-eq0-2+else-mark-gt17+then-word_at-ne0 w ↦
          numbered _ _ _ _ _ within is deep w.if-mark-eq0-2.false w.if-mark-gt17.false _ w.word_at.ensures
          w.if-word_at-ne0.true
    ]

pub read_value-returns : goal.read_value-returns
read_value-returns t c =
    goes_down _ _ _ _ _ c.if-k-p.false c.get_or-mark.ensures c.if-depth-eq0.false c.if-mark-eq0-2.false
    c.if-mark-gt17.false _ c.word_at.ensures c.if-word_at-ne0.false _ c.read_values.ensures

-- ---- values in turn

pub read_values-returns-in_err-q : goal.read_values-returns-in_err-q
read_values-returns-in_err-q t c =
    rw c.from_residual.ensures (breaks _ _ _ _ _ c.loop.invariant c.loop-test.true c.in_err-q.ensures)

pub read_values-loop-preserved : goal.read_values-loop-preserved
read_values-loop-preserved t c = goes_on _ _ _ _ _ c.loop.invariant c.loop-test.true _ c.in_ok-q.ensures

pub read_values-returns : goal.read_values-returns
read_values-returns t c = none_left _ _ _ _ _ c.loop.invariant c.loop-test.false
