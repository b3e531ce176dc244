-- What the functions of this crate promise: the answer, and the store that the two arrays hold.
use Rattle.std.specs.Prelude.{◌≡◌, Option, Some, None, List, ℕ, ◌≤◌, ℤ}
use Rattle.semantics.specs.Words.{store_of}
use Rattle.semantics.specs.Machine.{Delivered}
use Rattle.machine_spec.specs.Delivery.{Tried, tried}
use Rattle.machine_frames.specs.declared.Cause.{Cause}
use Rattle.machine_frames.specs.Work.{cause_number}
use Rattle.machine_delivery.specs.declared.Attempted.{Attempted}
use Rattle.machine_delivery.specs.declared.Delivery.{Delivery}

-- the number of a stop, or 0
abbrev pub stopped_number : Option Cause → ℕ
stopped_number (Some c) = cause_number c
stopped_number None = 0

pub record Tries (t : Tried) (budget : ℕ) (r : Attempted) (slots : List ℤ) (heads : List ℕ) : Type 0 where
  pub is : tried (stopped_number r.stopped) r.lowest r.steps (store_of slots heads) ≡ t
  pub fewer : r.steps ≤ budget

pub record DeliversOn (d : Delivered) (r : Delivery) (slots : List ℤ) (heads : List ℕ) : Type 0 where
  pub number : stopped_number r.stopped ≡ d.number
  pub lowest : r.lowest ≡ d.lowest
  pub steps : r.steps ≡ d.steps
  pub store : store_of slots heads ≡ d.store
