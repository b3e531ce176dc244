-- One law for each way out of the store's part of a delivery.
use Rattle.prelude.specs.Kit.{ℕ, ◌≤◌, arith, true, false, ◌≡◌, refl, ◌∙◌, ap, subst, List, leb, ℤ, length}
use Rattle.prelude.specs.Kit.{leb-true}
use Rattle.semantics.specs.Outcome.{Outcome, done, stop}
use Rattle.semantics.specs.Store.{Store, cells_taken, free_cells}
use Rattle.semantics.specs.Words.{cells_in, cell_at, store_of, shaped}
use Rattle.semantics.specs.Sound.{sound, sound_words}
use Rattle.semantics.specs.Machine.{State, Program, Delivered, delivery, starting, delivered_by, delivered, state_of}
use Rattle.semantics.specs.Machine.{lowest_over}
use Rattle.semantics.specs.Calls.{request_fits}
use Rattle.laws.specs.Lists.{tabulate_length}
use Rattle.laws.specs.Levels.{lowest_most}
use Rattle.laws.specs.Tests.{both_hold}
use Rattle.store_words.proofs.Puts.{LengthsKept}
use Rattle.machine_spec.specs.Machine as M
use Rattle.machine_spec.specs.Delivery.{delivered_on, Performs}
use Rattle.answers.specs.declared.Refusal.TheVariants.{BadRequest, UnsoundStore}
use Rattle.call_store.specs.Left.{answered, refused, left}
use Rattle.call_store.proofs.Laws.{words_left}
use Rattle.call_deliver.specs.Delivered.{left_of, delivered_left}

module _ (P : Program) (readings : List ℤ) (budget : ℕ) (slots : List ℤ) (heads : List ℕ) where
  pub refuses_10 : request_fits readings budget ≡ false →
      left (refused BadRequest) slots heads ≡ delivered_left P readings budget slots heads
  unfolding delivered_left
  refuses_10 e = rw e refl

  pub refuses_11 : request_fits readings budget ≡ true → (d : ℕ) → d ≡ P.depth →
      sound_words d slots heads ≡ false → left (refused UnsoundStore) slots heads ≡ delivered_left P readings budget slots
      heads
  unfolding delivered_left
  refuses_11 e d same f = rw (e, subst (λ x. sound_words x slots heads ≡ false) same f) refl

-- a sound store has arrays of the right lengths
pub sound_fits : (d : ℕ) (slots : List ℤ) (heads : List ℕ) → sound_words d slots heads ≡ true → shaped slots heads ≡
    true
unfolding sound_words
sound_fits d slots heads e = (both_hold (shaped slots heads) (sound d (store_of slots heads)) e).0

-- a run shows its lowest level however it ends
shown_lowest : (budget : ℕ) (σ : Store) (o : Outcome State (Unit {0})) →
    (delivered_by budget σ o).lowest ≡ lowest_over (state_of o).log (free_cells σ)
shown_lowest budget σ (done a s) = refl
shown_lowest budget σ (stop n s) = refl

module _ (P : Program) (c : M.Code) (performs : Performs P c) (readings : List ℤ) (budget : ℕ) (slots : List ℤ)
    (heads : List ℕ) (d : ℕ) (same : d ≡ P.depth) (request : request_fits readings budget ≡ true)
    (fine : sound_words d slots heads ≡ true) where
  abbrev shown : Delivered
  shown = delivered_on c readings d budget (store_of slots heads)

  fine_for : sound_words P.depth slots heads ≡ true
  fine_for = subst (λ x. sound_words x slots heads ≡ true) same fine

  -- the delivery of the definitions
  is_delivered : shown ≡ delivered P readings budget (store_of slots heads)
  is_delivered = ap (λ x. delivered_on c readings x budget (store_of slots heads)) same
      ∙ performs.same readings budget slots heads fine_for request

  pub delivers : {slots' : List ℤ} {heads' : List ℕ} {number lowest steps n : ℕ} →
      LengthsKept slots heads slots' heads' → store_of slots' heads' ≡ shown.store → number ≡ shown.number →
      lowest ≡ shown.lowest → steps ≡ shown.steps → n ≡ cells_taken (store_of slots' heads') →
      left (answered number lowest steps n) slots' heads' ≡ delivered_left P readings budget slots heads
  unfolding delivered_left
  delivers kept holds a l b counted =
      rw (request, fine_for)
      (rw (a, l, b) (words_left kept (sound_fits d slots heads fine) holds counted) ∙ ap left_of is_delivered)

  -- the least number of free cells is at most that before the delivery
  pub lowest_few : {lowest : ℕ} → lowest ≡ shown.lowest → lowest ≤ 256
  unfolding store_of cells_in delivered
  lowest_few e =
      let σ = store_of slots heads in
      let run = delivery P readings (starting budget σ) in
      let told = ap (λ (r : Delivered). r.lowest) is_delivered in
      let level = shown_lowest budget σ run in
      omega (
        arith,
        e,
        told,
        level,
        lowest_most (state_of run).log (free_cells σ),
        tabulate_length (cells_in slots heads) 0 (cell_at slots heads),
      )

-- the steps of a delivery are at most its budget, and that is at most 1,000,000
pub steps_few : (c : M.Code) (readings : List ℤ) (d budget : ℕ) (σ : Store) {n : ℕ} →
    request_fits readings budget ≡ true → n ≡ (delivered_on c readings d budget σ).steps → n ≤ 1000000
unfolding request_fits delivered_on
steps_few c readings d budget σ request e =
    omega (arith, e, leb-true budget 1000000 (both_hold (leb (length readings) 16) (leb budget 1000000) request).1)
