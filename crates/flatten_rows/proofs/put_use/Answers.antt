-- A place below 256 is a name's, and any other a number's.
use Rattle.flatten_rows.proofs.Laws.{use_name, use_number}
use Rattle.flatten_rows.proofs.put_use.Goals as goal

pub returns-then-place-lt256 : goal.returns-then-place-lt256
returns-then-place-lt256 c =
    let a = c.args in
    use_name a.rows.now a.notes.now a.last.now a.row a.place c.if-place-lt256.true

pub returns-else-place-lt256 : goal.returns-else-place-lt256
returns-else-place-lt256 c =
    let a = c.args in
    use_number a.rows.now a.notes.now a.last.now a.row a.place c.if-place-lt256.false
