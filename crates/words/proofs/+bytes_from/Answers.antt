-- `words::bytes_from` meets its contract, by the laws of `Bytes`.
use Rattle.prelude.specs.Kit.{◌≤◌, ◌-◌, arith, refl}
use Rattle.words.proofs.Bytes.{none, none_left, one_more, room}
use Rattle.words.proofs.+bytes_from.Goals as goal
use Rattle.words.proofs.+bytes_from.Goals.{then-count-eq0-via-then-count-eq0, then-count-eq0-via-else-count-eq0+then-bytes-i}

pub returns-then-count-eq0 : goal.returns-then-count-eq0
returns-then-count-eq0 t c = elim c.then-count-eq0.branch [
  | then-count-eq0-via-then-count-eq0 w ↦ none _ _ _ w.if-count-eq0.true
  | then-count-eq0-via-else-count-eq0+then-bytes-i w ↦ none_left _ _ _ w.if-bytes-i.true
]

pub overflow_mul-result : goal.overflow_mul-result
overflow_mul-result t c =
    let few : c.args.count - 1 ≤ 7 = omega arith in
    record { fits = omega (arith, c.bytes_from.ensures.1, room _ few) }

pub overflow_add-result : goal.overflow_add-result
overflow_add-result t c =
    let few : c.args.count - 1 ≤ 7 = omega arith in
    record { fits = omega (arith, c.bytes_from.ensures.1, room _ few) }

pub returns : goal.returns
returns t c = rw c.from.ensures
    (one_more _ _ _ _ _ c.if-count-eq0.false refl (omega arith) c.bytes_from.ensures.0 c.bytes_from.ensures.1)
