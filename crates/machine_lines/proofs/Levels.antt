-- How many words the frames have after a cell is acquired, and after an array is made.
use Rattle.prelude.specs.Kit.{ℕ, true, false, Bool, cond, ◌≡◌, refl, List, ℤ, nat_abs, length}
use Rattle.semantics.specs.Outcome.{Outcome, done, stop}
use Rattle.semantics.specs.Machine.{is_count}
use Rattle.store.specs.declared.Gained.{Gained}
use Rattle.machine_frames.specs.Work.{Memory}
use Rattle.machine_frames.proofs.Levels.{noted_long}
use Rattle.machine_lines.specs.Lines.{noted_by, cell_from, made_memory, array_memory}

pub noted_by_long : (o : Outcome (Unit {0}) Gained) (env : List ℤ) → length (noted_by o env) ≡ length env
noted_by_long (done g u) env = noted_long g.left env
noted_by_long (stop n u) env = refl

pub array_long : (counting : Bool) (w : ℤ) (d : ℕ) (n : ℤ) (m : Memory) →
    length (array_memory counting w d n m).env ≡ length m.env
array_long counting w d n m = go (is_count n)
  where
    go : (t : Bool) →
        length (cond t (made_memory counting w d (nat_abs n) m (cell_from m)) m).env ≡ length m.env
    go true = noted_by_long (cell_from m) m.env
    go false = refl
