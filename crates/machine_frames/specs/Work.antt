-- How a piece of work ends, and the memory that it leaves.
use Rattle.std.specs.Prelude.{◌≡◌, cond, List, ℕ, zero, suc, ℤ, pos, eqb, set, Result, Ok, Err}
use Rattle.semantics.specs.Store.{Store}
use Rattle.semantics.specs.Words.{store_of}
use Rattle.answers.specs.Numbers.{stop_number}
use Rattle.machine_frames.specs.declared.Done.{Done}
use Rattle.machine_frames.specs.declared.Cause.{Cause}
use Rattle.machine_frames.specs.declared.Cause.TheVariants.{Stopped, NoLine}
use Rattle.machine_frames.specs.declared.Halted.{Halted}
use Rattle.machine_frames.specs.Frames.{place}

-- what the machine changes: the store, and the words of the frames
pub record Memory : Type 0 where
  pub store : Store
  pub env : List ℤ

abbrev pub memory : Store → List ℤ → Memory
memory σ env = record { store = σ; env = env }

-- how a piece of work ends: the number of its stop or 0, its value, the position where the code goes on, the steps left
pub record Out : Type 0 where
  pub stop : ℕ
  pub value : ℤ
  pub next : ℕ
  pub steps : ℕ

-- how a piece of work ends, and the memory that it leaves
pub record Ran : Type 0 where
  pub out : Out
  pub memory : Memory

-- the same for work that leaves the store alone
pub record FrameLeft : Type 0 where
  pub out : Out
  pub env : List ℤ

abbrev pub out : ℕ → ℤ → ℕ → ℕ → Out
out number value next steps = record { stop = number; value = value; next = next; steps = steps }

abbrev pub left : Out → List ℤ → FrameLeft
left r env = record { out = r; env = env }

abbrev pub ran : Out → Memory → Ran
ran r m = record { out = r; memory = m }

abbrev pub with_store : Store → FrameLeft → Ran
with_store σ l = ran l.out (memory σ l.env)

-- the stop of work that comes to no line that it can do: the code of an accepted script never does
abbrev pub no_line : ℕ
no_line = 99

abbrev pub cause_number : Cause → ℕ
cause_number (Stopped s) = stop_number s
cause_number NoLine = no_line

-- what the answer of a worker says of how its work ends
abbrev pub shown : Result Done Halted → Out
shown (Ok d) = out 0 d.value d.next d.steps
shown (Err h) = out (cause_number h.cause) (pos 0) 0 h.steps

-- a stop with some steps left
abbrev pub halted : ℕ → ℕ → Memory → Ran
halted n s m = ran (out n (pos 0) 0 s) m

-- a name bound in the frame of a call
abbrev pub bound : ℕ → ℕ → ℤ → List ℤ → List ℤ
bound calls x w env = set env (place calls x) w

-- a word bound to a name, with the code going on at a position
abbrev pub goes_on : ℕ → ℕ → ℤ → ℕ → ℕ → Memory → Ran
goes_on calls x w next s m = ran (out 0 w next s) (memory m.store (bound calls x w m.env))

-- the word of work that was not stopped, bound to a name
abbrev pub bound_result : ℕ → ℕ → ℕ → Out → List ℤ → FrameLeft
bound_result calls x next r env =
    cond (eqb r.stop 0) (left (out 0 r.value next r.steps) (bound calls x r.value env)) (left r env)

-- a step taken, if one is left
unfoldable pub stepping : {A : Type 0} → ℕ → A → (ℕ → A) → A
stepping zero spent f = spent
stepping (suc s) spent f = f s

-- a function worked what it says, with every word that it may change
abbrev pub Ends : Ran → Out → List ℤ → List ℕ → List ℤ → Type 0
Ends w r slots heads env = ran r (memory (store_of slots heads) env) ≡ w
