-- `store_check::count_words` meets its contract.
use Rattle.prelude.specs.Kit.{arith, ◌∙◌, sym, pos, get_or, get_or-map, length-map, to_z-of_z, w64, SFits}
use Rattle.semantics.specs.Store.{cell_of}
use Rattle.store_words.proofs.Each.{doing_more, doing_all}
use Rattle.store_check.proofs.Gathering.{no_words, all_words}
use Rattle.store_check.proofs.count_words.Goals as goal

pub returns-then-depth-eq0 : goal.returns-then-depth-eq0
returns-then-depth-eq0 c = no_words _ _ _ c.if-depth-eq0.true

pub loop-w-preserved : goal.loop-w-preserved
loop-w-preserved c =
    let words = c.args.words.now in
    let i = c.loop-w.w-index in
    let w = get_or words i (pos 0) in
    let fits : SFits w64 w = record { sfits = omega arith } in
    doing_more c.loop-w.invariant (omega (arith, length-map words cell_of)) (cell_of (pos 0)) c.named_cell.result
    (get_or-map cell_of words i (pos 0) ∙ sym (rw (to_z-of_z fits) at c.named_cell.ensures)) c.count_one.ensures

pub returns : goal.returns
returns c =
    all_words _ _ _ c.if-depth-eq0.false
    (doing_all c.loop-w.invariant (omega (arith, length-map c.args.words.now cell_of)))
