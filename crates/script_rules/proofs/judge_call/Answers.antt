use Rattle.std.proofs.Common.{arith}
use Rattle.script_rules.proofs.Rules.{not_there, other_count, call_fits, call_differs}
use Rattle.script_rules.proofs.judge_call.Goals as goal
use Rattle.script_rules.proofs.judge_call.Goals.{else-start-kinds-via-then-start-kinds+then-low_at-n+else-parameters_match}
use Rattle.script_rules.proofs.judge_call.Goals.{else-start-kinds-via-then-start-kinds+else-low_at-n}
use Rattle.script_rules.proofs.judge_call.Goals.{else-start-kinds-via-else-start-kinds}

pub returns-then-parameters_match : goal.returns-then-parameters_match
returns-then-parameters_match c =
    call_fits _ _ _ _ _ c.if-start-kinds.true c.low_at.result c.low_at.ensures c.if-low_at-n.true
    c.parameters_match.result c.parameters_match.ensures c.if-parameters_match.true c.high_at.result c.high_at.ensures

pub returns-else-start-kinds : goal.returns-else-start-kinds
returns-else-start-kinds c =
    let a = c.args in
    elim c.else-start-kinds.branch [
      | else-start-kinds-via-then-start-kinds+then-low_at-n+else-parameters_match w ↦
          call_differs _ _ _ _ _ w.if-start-kinds.true w.low_at.result w.low_at.ensures w.if-low_at-n.true
          w.parameters_match.result w.parameters_match.ensures w.if-parameters_match.false
      | else-start-kinds-via-then-start-kinds+else-low_at-n w ↦
          other_count _ _ _ _ _ w.if-start-kinds.true (omega arith) w.low_at.result
          w.low_at.ensures w.if-low_at-n.false
      | else-start-kinds-via-else-start-kinds w ↦
          not_there a.kinds.now a.operands.now a.start a.n a.ds.now w.if-start-kinds.false
    ]
