-- One law for each way out of the store's part of a call.
use Rattle.prelude.specs.Kit.{ℕ, ◌≤◌, ◌%◌, ◌^◌, arith, true, false, ◌≡◌, refl, List, ℤ}
use Rattle.semantics.specs.Store.{Store, opened, cells_taken}
use Rattle.semantics.specs.Words.{cells_in, store_of, shaped}
use Rattle.semantics.specs.Sound.{sound, sound_words}
use Rattle.semantics.specs.Calls.{packed}
use Rattle.laws.specs.Tests.{both_hold}
use Rattle.store_words.proofs.Puts.{LengthsKept}
use Rattle.store_words.proofs.Spelling.{shaped_means, words_are}
use Rattle.answers.specs.declared.Refusal.TheVariants.{UnsoundStore}
use Rattle.call_store.specs.Left.{Ended, SmallAnswer, answered, refused, left, left_by, opened_left, checked_left}

-- arrays of the right lengths that hold σ, with its cells counted
pub words_left : {slots : List ℤ} {heads : List ℕ} {slots' : List ℤ} {heads' : List ℕ} {σ : Store}
    {number lowest steps n : ℕ} →
    LengthsKept slots heads slots' heads' → shaped slots heads ≡ true → store_of slots' heads' ≡ σ →
    n ≡ cells_taken (store_of slots' heads') →
    left (answered number lowest steps n) slots' heads' ≡ left_by number lowest steps σ
words_left {slots} {heads} {slots'} {heads'} {σ} kept fit holds counted =
    let words = words_are kept (shaped_means slots heads fit) holds in
    rw (words.0, words.1, counted, holds)

pub not_opened : (d : ℕ) (slots : List ℤ) (heads : List ℕ) → shaped slots heads ≡ false →
    left (refused UnsoundStore) slots heads ≡ opened_left d slots heads
unfolding opened_left
not_opened d slots heads e = rw e

pub opens : (d : ℕ) (slots : List ℤ) (heads : List ℕ) (slots' : List ℤ) (heads' : List ℕ) (n : ℕ) →
    shaped slots heads ≡ true → LengthsKept slots heads slots' heads' →
    store_of slots' heads' ≡ opened (cells_in slots heads) d → n ≡ cells_taken (store_of slots' heads') →
    left (answered 0 0 0 n) slots' heads' ≡ opened_left d slots heads
unfolding opened_left
opens d slots heads slots' heads' n e kept holds counted = rw e (words_left kept e holds counted)

pub not_checked : (d : ℕ) (slots : List ℤ) (heads : List ℕ) → sound_words d slots heads ≡ false →
    left (refused UnsoundStore) slots heads ≡ checked_left d slots heads
unfolding checked_left
not_checked d slots heads e = rw e

pub checks : (d : ℕ) (slots : List ℤ) (heads : List ℕ) (n : ℕ) → sound_words d slots heads ≡ true →
    n ≡ cells_taken (store_of slots heads) → left (answered 0 0 0 n) slots heads ≡ checked_left d slots heads
unfolding checked_left sound_words
checks d slots heads n e counted =
    let fit = (both_hold (shaped slots heads) (sound d (store_of slots heads)) e).0 in
    rw e (words_left (record { slots_long = refl; heads_long = refl }) fit refl counted)

-- ---- how it is told

-- a level, steps and cells that have room in an answer are packed as they are
pub packed_counts : (number lowest steps cells : ℕ) → lowest ≤ 256 → steps ≤ 1000000 → cells ≤ 256 →
    packed number (lowest % 2 ^ 16) (steps % 2 ^ 24) (cells % 2 ^ 16) ≡ packed number lowest steps cells
unfolding packed
packed_counts number lowest steps cells l s c = omega arith

-- the answer of a part that is done has room
pub done_small : {ended : Ended} {cells : ℕ} → ended ≡ answered 0 0 0 cells → cells ≤ 256 → SmallAnswer ended
done_small e few = rw e (omega arith, omega arith, few)
