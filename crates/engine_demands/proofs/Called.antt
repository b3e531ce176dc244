-- Demand 3 of the compiled calls, and of document 02 orders 2 and 8, the lowest level, order 4, the ledger after a
-- restore and the swap, and order 9, the larger store.
use Rattle.std.specs.Prelude.{ℕ, List, ℤ}
use Rattle.semantics.specs.Calls.{StoreReply}
use Rattle.semantics.specs.Ledger.{Delivery}
use Rattle.semantics.specs.Demands.{Demand3, defined, TrueLeast, Rises}
use Rattle.semantics.specs.SaveCalls.{SaveReply}
use Rattle.semantics.specs.Larger.{Larger}
use Rattle.semantics.specs.Swap.{Restored, Swap, defined_saving}
use Rattle.soundness.proofs.Demand3.{demand_3, demand_3_within}
use Rattle.soundness.proofs.LowestLevel.{true_least}
use Rattle.soundness.proofs.saved.Restoring.{restored}
use Rattle.soundness.proofs.saved.Swapping.{swap}
use Rattle.soundness.proofs.saved.Within.{Within, restored_within, swap_within}
use Rattle.leaner.proofs.Order8.{rises}
use Rattle.larger.proofs.Larger.{larger, larger_within}
use Rattle.engine_demands.specs.Called.{OpenCall, opens, DeliverCall, delivers, SaveCall, saves, RestoreCall, restores}
use Rattle.engine_demands.specs.Called.{compiled, compiled_saving}

-- each is a call of the definitions

pub opens_defined : (file kinds : List ℕ) (operands slots : List ℤ) (heads : List ℕ) (r : StoreReply) →
    OpenCall file kinds operands slots heads r → defined.opens file kinds operands slots heads r
unfolding defined
opens_defined file kinds operands slots heads r (opens κs a q s h) = h

pub delivers_defined : (file : List ℕ) (slots : List ℤ) (heads : List ℕ) (δ : Delivery) (r : StoreReply) →
    DeliverCall file slots heads δ r → defined.delivers file slots heads δ r
unfolding defined
delivers_defined file slots heads δ r (delivers κs a q s h) = h

-- For every opening that answered 0, and every list of calls of `engine_deliver` after it, on its file and store.
pub demand_3_of_calls : Demand3 compiled
demand_3_of_calls = demand_3_within opens_defined delivers_defined demand_3

-- For every two openings of one file that answered 0, the second on a store of at least as many cells, and every list
-- of calls of `engine_deliver` after them, on that file and those stores.
pub larger_of_calls : Larger compiled
larger_of_calls = larger_within opens_defined delivers_defined larger

-- For every call of `engine_deliver` that is not refused, on every sound store: the lowest level in its answer is the
-- least number of free cells over the run,
pub true_least_of_calls : TrueLeast compiled
true_least_of_calls file slots heads δ fs u r called =
    true_least file slots heads δ fs u r (delivers_defined file slots heads δ r called)

-- and at least that by the code in which every map stays a map.
pub rises_of_calls : Rises compiled
rises_of_calls file slots heads δ fs u r called =
    rises file slots heads δ fs u r (delivers_defined file slots heads δ r called)

-- ---- save and restore

saves_defined : (file kinds : List ℕ) (operands slots : List ℤ) (heads buffer : List ℕ) (r : SaveReply) →
    SaveCall file kinds operands slots heads buffer r →
    defined_saving.saves file kinds operands slots heads buffer r
unfolding defined_saving
saves_defined file kinds operands slots heads buffer r (saves κs a q s h words) = (words, h)

pub restores_defined : (file kinds : List ℕ) (operands slots : List ℤ) (heads saved : List ℕ) (r : StoreReply) →
    RestoreCall file kinds operands slots heads saved r →
    defined_saving.restores file kinds operands slots heads saved r
unfolding defined_saving
restores_defined file kinds operands slots heads saved r (restores κs a q s h) = h

within : Within compiled_saving defined_saving
unfolding defined_saving
within = record {
  opens = opens_defined;
  delivers = delivers_defined;
  saves = saves_defined;
  restores = restores_defined;
}

-- For every restore that answered 0, and every list of calls of `engine_deliver` after it, on its file and store.
pub restored_of_calls : Restored compiled_saving
restored_of_calls = restored_within within restored

-- For every two sites with one file, each opened or restored with 0, delivered to, and at any times saved with 0 and
-- restored with 0 elsewhere.
pub swap_of_calls : Swap compiled_saving
swap_of_calls = swap_within within swap
