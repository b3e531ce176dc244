-- The number of each refusal and of each stop on the service display.
use Rattle.std.specs.Prelude.{ℕ}
use Rattle.answers.specs.declared.Refusal.{Refusal}
use Rattle.answers.specs.declared.Refusal.TheVariants.{Truncated, SizeOutOfRange, Malformed, OperandOutOfRange, TooDeep}
use Rattle.answers.specs.declared.Refusal.TheVariants.{UnknownName, TypeMismatch, TooManyNames, CodeTooLong, BadRequest}
use Rattle.answers.specs.declared.Refusal.TheVariants.{UnsoundStore, BadSaveFile, BadCode}
use Rattle.answers.specs.declared.Stop.{Stop}
use Rattle.answers.specs.declared.Stop.TheVariants.{OutOfSteps, CallTooDeep, IndexOutOfRange, Overflow, OutOfCells}
use Rattle.answers.specs.declared.Stop.TheVariants.{BadCount, BadGuard}

abbrev pub number_of : Refusal → ℕ
number_of Truncated = 1
number_of SizeOutOfRange = 2
number_of Malformed = 3
number_of OperandOutOfRange = 4
number_of TooDeep = 5
number_of UnknownName = 6
number_of TypeMismatch = 7
number_of TooManyNames = 8
number_of CodeTooLong = 9
number_of BadRequest = 10
number_of UnsoundStore = 11
number_of BadSaveFile = 27
number_of BadCode = 29

abbrev pub stop_number : Stop → ℕ
stop_number OutOfSteps = 21
stop_number CallTooDeep = 22
stop_number IndexOutOfRange = 23
stop_number Overflow = 24
stop_number OutOfCells = 25
stop_number BadCount = 26
stop_number BadGuard = 28
