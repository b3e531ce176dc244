use Rattle.std.proofs.Common.{◌≡◌, ◌&&◌, ℕ, true, sym, ap, subst, ◌∙◌}
use Rattle.semantics.specs.Outcome.{Outcome}
use Rattle.semantics.specs.Syntax.{Script}
use Rattle.semantics.specs.File.{between}
use Rattle.script_read.specs.Starts.{Started_by}
use Rattle.script_read.specs.Told.{told}
use Rattle.script_read.proofs.Whole.{too_short, out_of_range, few_functions, other_length, whole_file}
use Rattle.script_read.proofs.Starts.{refused_so, started}
use Rattle.script_read.proofs.read_file.Goals as goal
use Rattle.script_read.proofs.read_file.Goals.{Else-not-sizes_fit}

-- the sizes are in range
fits : (c : Else-not-sizes_fit) →
    (between 1 32 c.short_at-functions.result && between 1 1024 c.short_at-nodes.result) ≡ true
fits c = sym c.sizes_fit.ensures ∙ c.if-not-sizes_fit.false

pub returns-then-bytes-lt4 : goal.returns-then-bytes-lt4
returns-then-bytes-lt4 c =
    let file = c.args.bytes.now in
    refused_so file _ (too_short file c.if-bytes-lt4.true)

pub returns-then-not-sizes_fit : goal.returns-then-not-sizes_fit
returns-then-not-sizes_fit c =
    let file = c.args.bytes.now in
    refused_so file _
    (out_of_range file c.if-bytes-lt4.false _ _ c.short_at-functions.ensures.0 c.short_at-nodes.ensures.0
    (sym c.sizes_fit.ensures ∙ c.if-not-sizes_fit.true))

pub returns-then-bytes-nodes : goal.returns-then-bytes-nodes
returns-then-bytes-nodes c =
    let file = c.args.bytes.now in
    refused_so file _
    (other_length file c.if-bytes-lt4.false _ _ c.short_at-functions.ensures.0 c.short_at-nodes.ensures.0
    (fits (goal.at.returns-then-bytes-nodes c).Else-not-sizes_fit) c.if-bytes-nodes.true)

pub read_script-requires : goal.read_script-requires
read_script-requires c =
    few_functions c.args.bytes.now c.if-bytes-lt4.false _ _ c.short_at-functions.ensures.0 c.short_at-nodes.ensures.0
    (fits (goal.at.read_script-requires c).Else-not-sizes_fit)

pub returns : goal.returns
returns c =
    let fit = fits (goal.at.returns c).Else-not-sizes_fit in
    let low = c.if-bytes-lt4.false in
    let functions = c.short_at-functions in
    let nodes = c.short_at-nodes in
    let same = whole_file _ low _ _ functions.ensures.0 nodes.ensures.0 fit c.if-bytes-nodes.false in (
      c.read_script.ensures.0 ∙ ap told same,
      subst (λ (o : Outcome ℕ Script). Started_by o c.read_script.new.starts) same
          (started _ _ _ _ _ (few_functions _ low _ _ functions.ensures.0 nodes.ensures.0 fit)
          c.clear.ensures c.read_script.ensures.1),
    )
