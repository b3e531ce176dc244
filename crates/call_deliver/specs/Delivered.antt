-- What the store's part of a delivery answers and leaves in the two arrays.
use Rattle.std.specs.Prelude.{ℕ, cond, ◌≡◌, List, ℤ}
use Rattle.semantics.specs.Words.{store_of}
use Rattle.semantics.specs.Sound.{sound_words}
use Rattle.semantics.specs.Machine.{Program, Delivered, delivered}
use Rattle.semantics.specs.Calls.{request_fits}
use Rattle.machine_spec.specs.Machine as M
use Rattle.machine_spec.specs.Delivery.{Performs}
use Rattle.answers.specs.declared.Refusal.TheVariants.{BadRequest, UnsoundStore}
use Rattle.call_store.specs.Left.{Ended, refused, StoreLeft, left, left_by, SmallAnswer}

-- the answer and the words of a delivery
abbrev pub left_of : Delivered → StoreLeft
left_of d = left_by d.number d.lowest d.steps d.store

-- refusal 10 before 11; either leaves the store as it is
unfoldable pub delivered_left : Program → List ℤ → ℕ → List ℤ → List ℕ → StoreLeft
delivered_left P readings budget slots heads =
    cond (request_fits readings budget)
    (cond (sound_words P.depth slots heads)
    (left_of (delivered P readings budget (store_of slots heads)))
    (left (refused UnsoundStore) slots heads))
    (left (refused BadRequest) slots heads)

-- for every program of which these are the code, the table and the totals' depth
abbrev pub DeliversWords : List ℕ → List ℤ → List ℕ → List ℤ → List ℕ → List ℤ → ℕ → ℕ → Ended → List ℤ → List ℕ →
    Type 0
DeliversWords kinds operands table slots heads readings depth budget r slots' heads' =
    (P : Program) → Performs P (M.code kinds operands table) → depth ≡ P.depth →
    (left r slots' heads' ≡ delivered_left P readings budget slots heads) × SmallAnswer r
