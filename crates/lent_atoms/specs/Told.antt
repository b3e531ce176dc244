-- How the code tells the answers of the third walk.
use Rattle.std.specs.Prelude.{ℕ, Bool, cond, List, ltb}
use Rattle.semantics.specs.Outcome.{done, stop}
use Rattle.semantics.specs.Code as C
use Rattle.semantics.specs.Annotate.{NameDepths}
use Rattle.semantics_lent.specs.Form.{Test}
use Rattle.semantics_lent.specs.Hold.{Holds}
use Rattle.kinds.specs.declared.Atom.{Atom}
use Rattle.kinds.specs.declared.Atom.TheVariants.{Number, Name}
use Rattle.machine_code.specs.Reading.{depth_in}
use Rattle.lent_counts.specs.Counted.{counted}

abbrev pub meant : Atom → C.Atom
meant (Number z) = C.number z
meant (Name x) = C.name x

-- the depths of the 256 names of function f in the table
unfoldable pub depths : List ℕ → ℕ → NameDepths
depths table f = λ x. cond (ltb x 256) (depth_in table f x) 0

-- the counts after a test, or that it stopped at its line
abbrev pub told : Bool → List ℕ → Test Holds
told fine l = λ p. cond fine (done (counted l) p) (stop 29 p)
