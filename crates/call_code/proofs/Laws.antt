-- One law for each way out of a call on lent code.
use Rattle.prelude.specs.Kit.{ℕ, ◌≤◌, ◌%◌, ◌^◌, arith, true, false, Bool, cond, ◌≡◌, refl, ◌∙◌, sym, ap, List, ℤ}
use Rattle.semantics.specs.Outcome.{Outcome, done, stop}
use Rattle.semantics.specs.Words.{store_of}
use Rattle.semantics.specs.Sound.{sound_words}
use Rattle.semantics.specs.Machine.{Program, delivered}
use Rattle.semantics.specs.Calls.{packed, request_fits, StoreReply}
use Rattle.semantics_lent.specs.Calls.{judged_code, checking, refusing_code, answering_code}
use Rattle.semantics_lent.specs.Calls.{deliver_code_for, engine_deliver_code}
use Rattle.lent_stops.specs.Lines.{judged_line}
use Rattle.std.specs.Prelude.{Ok, Err}
use Rattle.lent_form.specs.declared.Fault.{Fault}
use Rattle.answers.specs.Numbers.{number_of}
use Rattle.answers.specs.declared.Refusal.TheVariants.{BadRequest, UnsoundStore}
use Rattle.lent_judge.specs.Judging.{lines_of, LinesFit, JudgesCode}
use Rattle.call_store.specs.Left.{Ended, refused, StoreLeft, left, SmallAnswer}
use Rattle.call_store.specs.Told.{answer_to}
use Rattle.call_deliver.specs.Delivered.{left_of, delivered_left}
use Rattle.call_store.proofs.Laws.{packed_counts}
use Rattle.call_code.specs.Delivering.{fault_at, Delivers}

-- the program of lent code that passed
pub record PassedAs (kinds : List ℕ) (operands : List ℤ) (d lines : ℕ) : Type 0 where
  pub program : Program
  pub judged : judged_code kinds operands d ≡ done program lines

-- an answer of 0 with lines, and of 29 with a line, are packed as they are
packed_lines : (lines : ℕ) → lines ≤ 4096 →
    packed (0 % 2 ^ 8) (0 % 2 ^ 16) (lines % 2 ^ 24) (0 % 2 ^ 16) ≡ packed 0 0 lines 0
unfolding packed
packed_lines lines few = omega arith

packed_fault : (line : ℕ) → line ≤ 4096 → fault_at line ≡ packed 29 line 0 0
unfolding packed
packed_fault line few = omega arith

fault_packed : (kinds : List ℕ) (operands : List ℤ) (d line : ℕ) → judged_code kinds operands d ≡ stop 29 line →
    fault_at line ≡ packed 29 line 0 0
fault_packed kinds operands d line e = packed_fault line (judged_line kinds operands d 29 line e)

module _ {kinds : List ℕ} {operands : List ℤ} {d : ℕ} {table table' : List ℕ} where
  pub passed_as : {lines : ℕ} → JudgesCode kinds operands d table (Ok lines) table' →
      PassedAs kinds operands d lines
  passed_as {lines} h = by (judged_code kinds operands d) refl h.is
    where
      by : (o : Outcome ℕ Program) → judged_code kinds operands d ≡ o → done tt lines ≡ lines_of o →
          PassedAs kinds operands d lines
      by (done P m) e g = let same : m ≡ lines = cc in record { program = P; judged = e ∙ ap (done P) same }
      by (stop n p) e g = absurd (let z : ◌≡◌ {A = ℕ} 0 1 = cc in omega arith)

  pub lines_of_passed : {lines : ℕ} → JudgesCode kinds operands d table (Ok lines) table' → LinesFit kinds operands lines
  lines_of_passed h = let p = passed_as h in h.fit p.program _ p.judged

  refused_as : {fault : Fault} → JudgesCode kinds operands d table (Err fault) table' →
      judged_code kinds operands d ≡ stop 29 fault.line
  refused_as {fault} h = by (judged_code kinds operands d) refl h.is
    where
      by : (o : Outcome ℕ Program) → judged_code kinds operands d ≡ o → stop 29 fault.line ≡ lines_of o →
          judged_code kinds operands d ≡ stop 29 fault.line
      by (done P m) e g = absurd (let z : ◌≡◌ {A = ℕ} 0 1 = cc in omega arith)
      by (stop n p) e g = e ∙ (let z : stop n p ≡ stop 29 fault.line = cc in z)

  -- ---- the check

  pub checks_code : {lines a : ℕ} → JudgesCode kinds operands d table (Ok lines) table' →
      a ≡ packed (0 % 2 ^ 8) (0 % 2 ^ 16) (lines % 2 ^ 24) (0 % 2 ^ 16) → a ≡ checking (judged_code kinds operands d)
  checks_code {lines} h e =
      let p = passed_as h in
      e ∙ packed_lines lines (h.fit p.program lines p.judged).few ∙ sym (ap checking p.judged)

  pub checks_not : {fault : Fault} {a : ℕ} → JudgesCode kinds operands d table (Err fault) table' → a ≡ fault_at fault.line →
      a ≡ checking (judged_code kinds operands d)
  checks_not {fault} h e =
      let judged = refused_as h in
      e ∙ fault_packed kinds operands d fault.line judged ∙ sym (ap checking judged)

  -- ---- the delivery

  module _ (slots : List ℤ) (heads : List ℕ) (readings : List ℤ) (budget : ℕ) where
    pub delivers_not : {fault : Fault} {a : ℕ} → JudgesCode kinds operands d table (Err fault) table' →
        a ≡ fault_at fault.line →
        Delivers (engine_deliver_code kinds operands d slots heads readings budget) a kinds operands slots heads
    unfolding engine_deliver_code refusing_code
    delivers_not {fault} h e =
        let judged = refused_as h in
        ap (λ (n : ℕ). record { answer = n; kinds = kinds; operands = operands; slots = slots; heads = heads })
        (e ∙ fault_packed kinds operands d fault.line judged)
        ∙ sym (ap (deliver_code_for kinds operands slots heads readings budget) judged)

-- the answer to how the store's part ended
abbrev exactly : Ended → ℕ
exactly (Ok a) = packed a.number a.lowest a.steps a.cells
exactly (Err refusal) = packed (number_of refusal) 0 0 0

exact : (r : Ended) → SmallAnswer r → answer_to number_of r ≡ exactly r
exact (Ok a) few = packed_counts a.number a.lowest a.steps a.cells few.0 few.1 few.2
exact (Err refusal) few = refl

-- over the lent arrays
module _ (kinds : List ℕ) (operands : List ℤ) (slots : List ℤ) (heads : List ℕ) (readings : List ℤ) (budget : ℕ) where
  abbrev reply_of : StoreLeft → StoreReply
  reply_of l = record {
    answer = exactly l.answer;
    kinds = kinds;
    operands = operands;
    slots = l.slots;
    heads = l.heads;
  }

  -- the call on code that passed is the store's part, with the code as found
  serves : (P : Program) (lines : ℕ) → reply_of (delivered_left P readings budget slots heads)
      ≡ deliver_code_for kinds operands slots heads readings budget (done P lines)
  unfolding delivered_left answering_code refusing_code
  serves P lines = by (request_fits readings budget) (sound_words P.depth slots heads)
    where
      by : (t u : Bool) →
          let r = delivered P readings budget (store_of slots heads) in
          reply_of (cond t (cond u (left_of r) (left (refused UnsoundStore) slots heads)) (left (refused BadRequest) slots heads))
          ≡ cond t (cond u (answering_code kinds operands slots heads r)
          (refusing_code kinds operands slots heads 11 0)) (refusing_code kinds operands slots heads 10 0)
      by true true = refl
      by true false = refl
      by false u = refl

  pub delivers_code : {d lines a : ℕ} {r : Ended} {slots' : List ℤ} {heads' : List ℕ} →
      (p : PassedAs kinds operands d lines) →
      (left r slots' heads' ≡ delivered_left p.program readings budget slots heads) × SmallAnswer r →
      a ≡ answer_to number_of r →
      Delivers (engine_deliver_code kinds operands d slots heads readings budget) a kinds operands slots' heads'
  unfolding engine_deliver_code
  delivers_code {d} {lines} {a} {r} {slots'} {heads'} p ended e =
      ap (λ (n : ℕ). record { answer = n; kinds = kinds; operands = operands; slots = slots'; heads = heads' })
      (e ∙ exact r ended.1)
      ∙ ap reply_of ended.0 ∙ serves p.program lines
      ∙ sym (ap (deliver_code_for kinds operands slots heads readings budget) p.judged)
