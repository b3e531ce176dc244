-- One delivery on a store and on its extension, with a larger budget: the same number and steps, and the stores after
-- it are so again.
use Rattle.prelude.specs.Kit.{ℕ, ◌≤◌, ◌+◌, ◌-◌, arith, true, false, Bool, ◌&&◌, ◌≡◌, refl, ◌∙◌, sym, ap, subst, ◌≢◌}
use Rattle.prelude.specs.Kit.{some, none, Option, List, leb, ℤ, length, le-leb}
use Rattle.semantics.specs.Outcome.{Outcome, done, stop}
use Rattle.semantics.specs.Syntax.{Script}
use Rattle.semantics.specs.Value.{Value}
use Rattle.semantics.specs.Meaning.{Meter}
use Rattle.semantics.specs.Store.{Store, cell_count, relinked}
use Rattle.semantics.specs.Words.{store_of}
use Rattle.semantics.specs.Sound.{free_list}
use Rattle.semantics.specs.Machine.{State, Delivered, program, delivery, starting, delivered_by, state_of}
use Rattle.semantics.specs.Calls.{number_of, steps_of, accepted, judged, room, code_fits, request_fits, StoreReply}
use Rattle.semantics.specs.Ledger.{Delivery, refused, worked, meant, entry, entry_by, dry_steps}
use Rattle.semantics.specs.Demands.{touched, Call, entered, defined}
use Rattle.semantics.specs.Larger.{with_budget}
use Rattle.discipline.proofs.store.FreeList.{listed}
use Rattle.discipline.proofs.store.Change.{unlisted}
use Rattle.discipline.proofs.store.Relink.{relink}
use Rattle.soundness.proofs.Step.{Standing, standing_settled, Stepped}
use Rattle.soundness.proofs.Demand3.{call_steps}
use Rattle.larger.proofs.Extended.{extended}
use Rattle.larger.proofs.Runs.{Untouched, Ahead, SameEnd, both, stops, dry, spent}
use Rattle.larger.proofs.Work.{steady_delivery}
use Rattle.larger.proofs.Stores.{extended_relinked}

-- ---- what two runs show

-- the same number and steps, and the second store is an extension
pub record SameShown (cells : ℕ) (d d' : Delivered) : Type 0 where
  pub number : d'.number ≡ d.number
  pub steps : d'.steps ≡ d.steps
  pub store : d'.store ≡ extended cells d.store

-- unless the first is out of cells or of steps
pub same_shown : {A : Type 0} (cells steps budget : ℕ) (σ : Store) → cell_count (relinked σ) ≡ cell_count σ →
    {o o' : Outcome State A} → SameEnd cells steps o o' → (delivered_by budget σ o).number ≢ 25 →
    (delivered_by budget σ o).number ≢ 21 →
    SameShown cells (delivered_by budget σ o) (delivered_by (budget + steps) (extended cells σ) o')
same_shown cells steps budget σ e (both w) f g =
    record { number = refl; steps = omega (arith, w.left); store = w.stores.is }
same_shown cells steps budget σ e (stops left) f g =
    record { number = refl; steps = omega (arith, left); store = extended_relinked cells σ e }
same_shown cells steps budget σ e dry f g = absurd (f refl)
same_shown cells steps budget σ e spent f g = absurd (g refl)

-- ---- what a reply tells of its run

module _ (fs : Script) (slots : List ℤ) (heads : List ℕ) (v : Value) (δ : Delivery) where
  abbrev before : Store
  before = store_of slots heads

  abbrev run : Outcome State (Unit {0})
  run = delivery (program fs) δ.readings (starting δ.budget before)

  pub record Told (r : StoreReply) : Type 0 where
    pub number : number_of r.answer ≡ (delivered_by δ.budget before run).number
    pub steps : steps_of r.answer ≡ (delivered_by δ.budget before run).steps
    pub store : store_of r.slots r.heads ≡ (delivered_by δ.budget before run).store
    pub untouched : Untouched run

  worked_told : {r : StoreReply} {n k : ℕ} {w : Value} → Stepped fs slots heads v δ r (worked n k w) → Told r
  worked_told {r} q =
      let o = q.agrees.owed in
      let shows = ap (delivered_by δ.budget before) o.ran ∙ o.shows in
      record {
        number = q.number ∙ sym (ap (λ (d : Delivered). d.number) shows);
        steps = q.steps ∙ sym (ap (λ (d : Delivered). d.steps) shows);
        store = sym (ap (λ (d : Delivered). d.store) shows);
        untouched = ap (λ (e : Outcome State (Unit {0})). touched (state_of e).log) o.ran ∙ o.untouched;
      }

  pub entry_told : {r : StoreReply} (k : Option ℕ) → Stepped fs slots heads v δ r (entry_by fs v δ k) → Told r
  entry_told {r} (some k) q = worked_told q
  entry_told {r} none q = by (meant fs v δ) refl q
    where
      by : (m : Outcome Meter Value) → meant fs v δ ≡ m → Stepped fs slots heads v δ r (entry_by fs v δ none) → Told r
      by (done w t) e q = worked_told (rw e at q)
      by (stop n t) e q = worked_told (rw e at q)

-- ---- one delivery on both

-- two stores in arrays, of which the second is the first with further cells
abbrev pub ExtendedIn : ℕ → StoreReply → StoreReply → Type 0
ExtendedIn cells r q = store_of q.slots q.heads ≡ extended cells (store_of r.slots r.heads)

pub record SameReplies (cells : ℕ) (r q : StoreReply) : Type 0 where
  pub number : number_of q.answer ≡ number_of r.answer
  pub steps : steps_of q.answer ≡ steps_of r.answer
  pub stores : ExtendedIn cells r q

-- both budgets are within 1,000,000
same_request : (readings : List ℤ) (b c : ℕ) → b ≤ 1000000 → c ≤ 1000000 →
    request_fits readings c ≡ request_fits readings b
unfolding request_fits
same_request readings b c h g = ap (λ (t : Bool). leb (length readings) 16 && t) (le-leb c 1000000 g
    ∙ sym (le-leb b 1000000 h))

module _ (file : List ℕ) (fs : Script) (ok : judged file ≡ accepted fs) (cells : ℕ) (r q : StoreReply) (v w : Value)
    (stands : Standing fs r.slots r.heads v) (stands' : Standing fs q.slots q.heads w)
    (stores : ExtendedIn cells r q) (δ : Delivery) (budget : ℕ) (up : δ.budget ≤ budget) (most : budget ≤ 1000000)
    (reply other : StoreReply) (called : defined.delivers file r.slots r.heads δ reply)
    (called' : defined.delivers file q.slots q.heads (with_budget δ budget) other) where
  abbrev c : Call
  c = record { lent = δ; reply = reply }

  abbrev c' : Call
  c' = record { lent = with_budget δ budget; reply = other }

  pub here : Stepped fs r.slots r.heads v δ reply (entered fs v c)
  here = call_steps file fs ok c r.slots r.heads v stands called

  pub there : Stepped fs q.slots q.heads w (with_budget δ budget) other (entered fs w c')
  there = call_steps file fs ok c' q.slots q.heads w stands' called'

  abbrev σ : Store
  σ = store_of r.slots r.heads

  abbrev steps : ℕ
  steps = budget - δ.budget

  -- a refusal by the same number
  both_refused : (n : ℕ) → Stepped fs r.slots r.heads v δ reply (refused n) →
      Stepped fs q.slots q.heads w (with_budget δ budget) other (refused n) → SameReplies cells reply other
  both_refused n a b = record {
    number = b.number ∙ sym a.number;
    steps = b.steps ∙ sym a.steps;
    stores = b.agrees.owed ∙ stores ∙ ap (extended cells) (sym a.agrees.owed);
  }

  same_size : cell_count (relinked σ) ≡ cell_count σ
  same_size = (relink (unlisted (standing_settled stands).rests.holds)).cells

  -- the states in which both runs begin
  begins : Ahead cells steps (starting δ.budget σ) (starting budget (store_of q.slots q.heads))
  unfolding starting
  begins = record {
    stores = record { is = stores; list = free_list _; listed = listed (standing_settled stands').rests.holds };
    left = omega (arith, up);
  }

  both_worked : Told fs r.slots r.heads v δ reply →
      Told fs q.slots q.heads w (with_budget δ budget) other → number_of reply.answer ≢ 25 →
      number_of reply.answer ≢ 21 → SameReplies cells reply other
  both_worked a b f g = record {
    number = b.number ∙ shown.number ∙ sym a.number;
    steps = b.steps ∙ shown.steps ∙ sym a.steps;
    stores = b.store ∙ shown.store ∙ ap (extended cells) (sym a.store);
  }
    where
      first : Outcome State (Unit {0})
      first = delivery (program fs) δ.readings (starting δ.budget σ)

      second : Outcome State (Unit {0})
      second = delivery (program fs) δ.readings (starting budget (store_of q.slots q.heads))

      ends : SameEnd cells steps first second
      ends = (steady_delivery cells steps (program fs) δ.readings).same (starting δ.budget σ)
          (starting budget (store_of q.slots q.heads)) begins b.untouched

      is : δ.budget + steps ≡ budget
      is = omega (arith, up)

      shown : SameShown cells (delivered_by δ.budget σ first)
          (delivered_by budget (store_of q.slots q.heads) second)
      shown = subst (λ (τ : Store). SameShown cells (delivered_by δ.budget σ first) (delivered_by budget τ second))
          (sym stores) (subst (λ (n : ℕ). SameShown cells (delivered_by δ.budget σ first)
          (delivered_by n (extended cells σ) second)) is
          (same_shown cells steps δ.budget σ same_size ends (λ e. f (a.number ∙ e)) (λ e. g (a.number ∙ e))))

  pub one_on_both : number_of reply.answer ≢ 25 → number_of reply.answer ≢ 21 → SameReplies cells reply other
  unfolding entry
  one_on_both f g = by (code_fits fs (room δ.kinds δ.operands)) refl (request_fits δ.readings δ.budget) refl
      (same_request δ.readings δ.budget budget (omega (arith, up, most)) most) here there
    where
      by : (a : Bool) → code_fits fs (room δ.kinds δ.operands) ≡ a → (b : Bool) →
          request_fits δ.readings δ.budget ≡ b →
          request_fits δ.readings budget ≡ request_fits δ.readings δ.budget →
          Stepped fs r.slots r.heads v δ reply (entered fs v c) →
          Stepped fs q.slots q.heads w (with_budget δ budget) other (entered fs w c') →
          SameReplies cells reply other
      by false e b d z h t = both_refused 9 (rw e at h) (rw e at t)
      by true e false d z h t = both_refused 10 (rw (e, d) at h) (rw (e, z, d) at t)
      by true e true d z h t = both_worked
          (entry_told fs r.slots r.heads v δ (dry_steps reply.answer) (rw (e, d) at h))
          (entry_told fs q.slots q.heads w (with_budget δ budget) (dry_steps other.answer) (rw (e, z, d) at t))
          f g
