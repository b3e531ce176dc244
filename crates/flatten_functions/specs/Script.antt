-- What is known of an accepted script.
use Rattle.std.specs.Prelude.{◌≡◌, List, ℕ, ◌≤◌, get_or}
use Rattle.semantics.specs.Outcome.{Outcome, done, stop}
use Rattle.semantics.specs.Syntax.{Script}
use Rattle.semantics.specs.File.{script}
use Rattle.semantics.specs.Annotate.{result_of}
use Rattle.soundness.proofs.annotation.Accepting.{Clean}
use Rattle.script_read.specs.Told.{Parts}
use Rattle.script_read.specs.Starts.{Started}

-- the nodes are those of a script within limits and without fault, and the table has where each function stands
pub record Translatable (kinds operands : List ℕ) (functions : ℕ) (starts : List ℕ) : Type 0 where
  pub parts : Parts kinds operands
  pub few : functions ≤ 32
  pub tree : Script
  pub last : ℕ
  pub reads : script kinds operands functions 0 ≡ done tree last
  pub clean : Clean tree
  pub started : Started tree starts

-- a table of the depths of the functions' results
pub record Resulting (fs : Script) (results : List ℕ) : Type 0 where
  pub at : (f : ℕ) → get_or results f 0 ≡ result_of fs f

abbrev pub Resulting_by : Outcome ℕ Script → List ℕ → Type 0
Resulting_by (done fs q) results = Resulting fs results
Resulting_by (stop n p) results = Unit {0}
