-- `script::judge`: the sizes of a file that is read are those of its parts.
use Rattle.prelude.specs.Kit.{ℕ, arith, sym, subst}
use Rattle.semantics.specs.Outcome.{Outcome}
use Rattle.semantics.specs.Syntax.{Script}
use Rattle.script_read.specs.Starts.{Started_by}
use Rattle.script.proofs.Laws.{passed_on}
use Rattle.script.proofs.Whole.{FileTaken, taken, refused, checked}
use Rattle.script.proofs.judge.Goals as goal
use Rattle.script.proofs.judge.Goals.{After-short_at-nodes}

-- once both sizes are read
sizes_known : (c : After-short_at-nodes) →
    FileTaken c.args.file.now c.short_at-functions.result c.short_at-nodes.result
sizes_known c =
    taken _ _ _ _ c.short_at-functions.ensures.0 c.short_at-nodes.ensures.0 c.in_ok-read_file.ensures.0

pub returns-in_err-read_file : goal.returns-in_err-read_file
returns-in_err-read_file c =
    let e = c.in_err-read_file.ensures in (refused _ _ _ _ (passed_on _ _ c.from_residual.ensures.1) e.0, e.1)

pub slice_bounds-kinds-end : goal.slice_bounds-kinds-end
slice_bounds-kinds-end c =
    omega (arith, (sizes_known (goal.at.slice_bounds-kinds-end c).After-short_at-nodes).long)

pub slice_bounds-operands-count : goal.slice_bounds-operands-count
slice_bounds-operands-count c =
    omega (arith, (sizes_known (goal.at.slice_bounds-operands-count c).After-short_at-nodes).long)

pub slice_bounds-operands-start : goal.slice_bounds-operands-start
slice_bounds-operands-start c =
    omega (arith, (sizes_known (goal.at.slice_bounds-operands-start c).After-short_at-nodes).long)

pub check-requires : goal.check-requires
check-requires c =
    let file = sizes_known (goal.at.check-requires c).After-short_at-nodes in (
      file.readable,
      subst (λ (o : Outcome ℕ Script). Started_by o c.read_file.new.starts) (sym file.same) c.in_ok-read_file.ensures.1,
    )

pub returns : goal.returns
returns c = (
  checked _ _ c.short_at-functions.ensures.0 c.short_at-nodes.ensures.0
      (sizes_known (goal.at.returns c).After-short_at-nodes) c.check.ensures,
  c.in_ok-read_file.ensures.1,
)
