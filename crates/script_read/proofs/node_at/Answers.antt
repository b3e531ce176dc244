use Rattle.std.proofs.Common.{◌≡◌, ◌<◌, true, arith, get_or}
use Rattle.semantics.specs.File.{allowed, low_limits, high_limits}
use Rattle.script_read.specs.Told.{place_of}
use Rattle.script_read.proofs.Nodes.{node_says, not_allowed, number, judged, low_wrong, high_wrong, in_range}
use Rattle.script_read.proofs.Limits.{none_allowed, some_allowed, high_small}
use Rattle.script_read.proofs.node_at.Goals as goal
use Rattle.script_read.proofs.node_at.Goals.{In-Some, then-from-low-via-then-from-low}
use Rattle.script_read.proofs.node_at.Goals.{then-from-low-via-else-from-low+then-from-high}

-- a kind that may stand there
limits : (c : In-Some) →
    let kind = c.kind_at-kind.result in
    (allowed (place_of c.args.place) kind ≡ true) × (c.in-Some.most.low ≡ get_or low_limits kind 0)
    × (c.in-Some.most.high ≡ get_or high_limits kind 0)
limits c =
    let most = c.in-Some.most in
    let low : most.low < 256 = omega arith in
    let high : most.high < 256 = omega arith in
    some_allowed (place_of c.args.place) c.kind_at-kind.result most.low most.high low high c.in-Some.ensures

pub returns-in_default : goal.returns-in_default
returns-in_default c =
    let a = c.args in
    let k = c.kind_at-kind in
    node_says a.kinds.now a.operands.now (place_of a.place) a.at _
    (not_allowed a.kinds.now a.operands.now (place_of a.place) a.at k.result k.ensures
    (none_allowed (place_of a.place) k.result c.in_default.ensures))

pub returns-then-kind-eq-NUMBER : goal.returns-then-kind-eq-NUMBER
returns-then-kind-eq-NUMBER c =
    let a = c.args in
    let k = c.kind_at-kind in
    node_says a.kinds.now a.operands.now (place_of a.place) a.at _
    (number a.kinds.now a.operands.now (place_of a.place) a.at k.result k.ensures
    (limits (goal.at.returns-then-kind-eq-NUMBER c).In-Some).0 c.if-kind-eq-NUMBER.true)

pub returns-then-from-low : goal.returns-then-from-low
returns-then-from-low c =
    let a = c.args in
    let k = c.kind_at-kind in
    let n = c.nth_word-n in
    let l = limits (goal.at.returns-then-from-low c).In-Some in
    node_says a.kinds.now a.operands.now (place_of a.place) a.at _
    (judged a.kinds.now a.operands.now (place_of a.place) a.at k.result k.ensures l.0
    c.if-kind-eq-NUMBER.false n.result n.ensures _
    (elim c.then-from-low.branch [
      | then-from-low-via-then-from-low w ↦
          low_wrong k.result n.result (omega (arith, l.1, c.from.ensures, w.if-from-low.true))
      | then-from-low-via-else-from-low+then-from-high w ↦
          high_wrong k.result n.result (omega (arith, l.2, w.from-else-from-low.ensures, w.if-from-high.true))
    ]))

pub returns : goal.returns
returns c =
    let a = c.args in
    let k = c.kind_at-kind in
    let n = c.nth_word-n in
    let l = limits (goal.at.returns c).In-Some in
    node_says a.kinds.now a.operands.now (place_of a.place) a.at _
    (judged a.kinds.now a.operands.now (place_of a.place) a.at k.result k.ensures l.0
    c.if-kind-eq-NUMBER.false n.result n.ensures _
    (in_range _ _ (omega (arith, l.1)) (omega (arith, l.2)) (high_small k.result)))
