use Rattle.std.proofs.Common.{ℕ, ◌<◌, arith, length, rules}
use Rattle.std.proofs.Math.Option.{Option}
use Rattle.semantics.specs.Types.{Signature}
use Rattle.script_read.proofs.Nodes.{get_d_any}
use Rattle.script_rules.specs.Rules.{known_signature}
use Rattle.script_rules.proofs.Rules.{call_says, literal_says, index_says, length_says, if_says}
use Rattle.script_rules.proofs.Rules.{iota_says, replicate_says, numbers_say, few_parts}
use Rattle.script_rules.proofs.judge.Goals as goal
use Rattle.script_rules.proofs.judge.Goals.{Start}

-- the signatures that the table of starts gives
abbrev signatures : Start → ℕ → Option Signature
signatures c = known_signature c.args.kinds.now c.args.operands.now c.args.starts.now

pub judge_all-requires-in_default : goal.judge_all-requires-in_default
judge_all-requires-in_default c =
    let n = c.args.node in
    let few = few_parts n.kind n.low n.high c.requires.0 c.requires.1 in
    omega (arith, c.parts_of.ensures, few)

pub returns-in-8 : goal.returns-in-8
returns-in-8 c =
    let a = c.args in
    let in_table : a.node.low < length a.starts.now = omega (arith, rw c.in-8.is at c.requires.0) in
    call_says (signatures (goal.at.returns-in-8 c).Start) _ _ _ _ (omega arith) c.in-8.is _
    (rw (get_d_any a.starts.now a.node.low 0 1024 in_table) at c.judge_call.ensures)

pub returns-in-9 : goal.returns-in-9
returns-in-9 c =
    literal_says (signatures (goal.at.returns-in-9 c).Start) _ _ _ _ (omega arith) c.in-9.is _ c.judge_all.ensures

pub returns-in-10 : goal.returns-in-10
returns-in-10 c =
    index_says (signatures (goal.at.returns-in-10 c).Start) _ _ _ _ (omega arith) c.in-10.is _ c.judge_index.ensures

pub returns-in-11 : goal.returns-in-11
returns-in-11 c =
    length_says (signatures (goal.at.returns-in-11 c).Start) _ _ _ _ (omega arith) c.in-11.is _ c.judge_length.ensures

pub returns-in-12 : goal.returns-in-12
returns-in-12 c =
    if_says (signatures (goal.at.returns-in-12 c).Start) _ _ _ _ (omega arith) c.in-12.is _ c.judge_if.ensures

pub returns-in-17 : goal.returns-in-17
returns-in-17 c =
    iota_says (signatures (goal.at.returns-in-17 c).Start) _ _ _ _ (omega arith) c.in-17.is _ c.judge_all-in-17.ensures

pub returns-in-18 : goal.returns-in-18
returns-in-18 c =
    replicate_says (signatures (goal.at.returns-in-18 c).Start) _ _ _ _ (omega arith) c.in-18.is _
    c.judge_replicate.ensures

pub returns-in_default : goal.returns-in_default
returns-in_default c =
    numbers_say (signatures (goal.at.returns-in_default c).Start) _ _ _ _ (omega arith) (search rules) _
    c.parts_of.ensures _ c.judge_all-in_default.ensures
