use Rattle.script_read.proofs.Tables.{none_set}
use Rattle.script_read.proofs.clear.Goals as goal
use Rattle.std.proofs.Common.{refl}

pub returns : goal.returns
returns c = record { long = refl; at = none_set 1024 32 }
