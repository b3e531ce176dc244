-- Laws of how work ends.
use Rattle.prelude.specs.Kit.{◌≡◌, arith}
use Rattle.answers.specs.declared.Stop.{Stop}
use Rattle.answers.specs.declared.Stop.TheVariants.{OutOfSteps, CallTooDeep, IndexOutOfRange, Overflow, OutOfCells}
use Rattle.answers.specs.declared.Stop.TheVariants.{BadCount, BadGuard}
use Rattle.answers.specs.Numbers.{stop_number}
use Rattle.machine_frames.specs.declared.Cause.{Cause}
use Rattle.machine_frames.specs.declared.Cause.TheVariants.{Stopped, NoLine}
use Rattle.machine_frames.specs.Work.{cause_number}

-- no stop has the number of work that goes on
pub stop_real : (s : Stop) → stop_number s ≡ 0 → ⊥
stop_real OutOfSteps e = omega arith
stop_real CallTooDeep e = omega arith
stop_real IndexOutOfRange e = omega arith
stop_real Overflow e = omega arith
stop_real OutOfCells e = omega arith
stop_real BadCount e = omega arith
stop_real BadGuard e = omega arith

pub cause_real : (c : Cause) → cause_number c ≡ 0 → ⊥
cause_real (Stopped s) e = stop_real s e
cause_real NoLine e = omega arith
