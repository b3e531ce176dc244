use Rattle.std.proofs.Common.{rules}
use Rattle.std.proofs.lemmas.Result.{MatchResult-weaker}
use Rattle.script_read.specs.Told.{place_of}
use Rattle.script_read.proofs.Nodes.{low_found}
use Rattle.script_read.proofs.low_at.Goals as goal

pub returns : goal.returns
returns c =
    low_found _ _ (place_of c.args.place) _ c.node_at.result _ c.node_at.ensures
    (MatchResult-weaker c.node_at.result c.map_or.ensures (λ x f. search rules) (λ m f. f))
