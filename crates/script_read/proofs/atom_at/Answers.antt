use Rattle.script_read.proofs.Atoms.{number_seen, name_seen}
use Rattle.script_read.proofs.atom_at.Goals as goal

pub returns-in-2 : goal.returns-in-2
returns-in-2 c = number_seen _ _ c.args.at c.kind_at.result c.kind_at.ensures c.in-2.is

pub returns-then-name-lt256 : goal.returns-then-name-lt256
returns-then-name-lt256 c =
    name_seen _ _ c.args.at c.kind_at.result c.kind_at.ensures c.in-3.is c.nth_word-name.result
    c.nth_word-name.ensures c.if-name-lt256.true
