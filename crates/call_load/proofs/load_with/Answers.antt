-- `call_load::load_with`: the sizes of an accepted file, and one law for each way out.
use Rattle.prelude.specs.Kit.{arith, ap, ◌≡◌, ◌∙◌}
use Rattle.translate.specs.Left.{laid_outcome}
use Rattle.words.proofs.Packing.{packed_small}
use Rattle.answers.specs.Numbers.{number_of}
use Rattle.call_load.proofs.Laws.{AcceptedFile, accepted_file, file_taken, translatable, node_fits, passed_on}
use Rattle.call_load.proofs.Tables.{laid_within, loads_with_laid, loads_with_refusal}
use Rattle.call_load.proofs.load_with.Goals as goal
use Rattle.call_load.proofs.load_with.Goals.{In-Ok}

-- the file that is accepted
accepted : (c : In-Ok) → let a = c.in-Ok.accepted in AcceptedFile c.args.file.now a.functions a.nodes
accepted c = accepted_file _ _ _ c.in-Ok.ensures.0

pub returns-in-Err : goal.returns-in-Err
returns-in-Err c =
    let refused = c.in-Err.ensures.0 in
    let cleared = c.clear_code.ensures in
    let number : c.from-number.result ≡ number_of c.in-Err.fault.refusal = c.from-number.ensures ∙ c.number.ensures in
    let small = packed_small {number = c.from-number.result} {node = c.in-Err.fault.node} {count = 0} {cells = 0}
    (omega arith) (omega (arith, node_fits c.args.file.now refused)) (omega arith) (omega arith) in
    loads_with_refusal refused (c.pack.ensures ∙ small ∙ rw number) cleared.0 cleared.1

pub overflow_add-end : goal.overflow_add-end
overflow_add-end c =
    let t = file_taken (accepted (goal.at.overflow_add-end c).In-Ok) in
    omega (arith, t.sized, t.readable.parts.few)

pub slice_bounds-file_kinds-end : goal.slice_bounds-file_kinds-end
slice_bounds-file_kinds-end c = omega (arith, (file_taken (accepted (goal.at.slice_bounds-file_kinds-end c).In-Ok)).long)

pub slice_bounds-file_operands-count : goal.slice_bounds-file_operands-count
slice_bounds-file_operands-count c =
    omega (arith, (file_taken (accepted (goal.at.slice_bounds-file_operands-count c).In-Ok)).long)

pub slice_bounds-file_operands-start : goal.slice_bounds-file_operands-start
slice_bounds-file_operands-start c =
    omega (arith, (file_taken (accepted (goal.at.slice_bounds-file_operands-start c).In-Ok)).long)

pub translate_accepted-requires : goal.translate_accepted-requires
translate_accepted-requires c =
    translatable (accepted (goal.at.translate_accepted-requires c).In-Ok) c.in-Ok.ensures.1

pub returns-in_err-lines : goal.returns-in_err-lines
returns-in_err-lines c =
    let laid = c.translate_accepted in
    let e = c.in_err-lines.ensures in
    let nine : c.in_err-lines.field-0.0 ≡ 9 = let z = rw e.ok_part at e.value in cc in
    rw (passed_on _ _ c.from_residual.ensures.1, nine)
    (rw e.ok_part at (loads_with_laid (laid_outcome laid.result) c.high_at-depth.result laid.new.table _ laid.new.starts
    c.in-Ok.ensures.0 c.high_at-depth.ensures laid.ensures.leaves laid.ensures.depths_by laid.ensures.places_by))

pub fill-requires : goal.fill-requires
fill-requires c =
    let a = c.args in
    let laid = c.translate_accepted in
    let file = accepted (goal.at.fill-requires c).In-Ok in (
      (file_taken file).readable.few,
      laid_within file a.kinds.now laid.new.ks a.operands.now laid.new.os (laid_outcome laid.result) c.in_ok-lines.lines
          (ap laid_outcome c.in_ok-lines.ensures.ok_part) laid.ensures.leaves,
    )

pub returns : goal.returns
returns c =
    let laid = c.translate_accepted in
    rw c.fill.ensures
    (rw c.in_ok-lines.ensures.ok_part at (loads_with_laid (laid_outcome laid.result) c.from-depth.result laid.new.table _
    laid.new.starts c.in-Ok.ensures.0 (c.from-depth.ensures ∙ c.high_at-depth.ensures) laid.ensures.leaves
    laid.ensures.depths_by laid.ensures.places_by))
