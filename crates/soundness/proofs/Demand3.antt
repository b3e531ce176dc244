-- Demand 3: the whole list of deliveries, one after another from the opening.
use Rattle.prelude.specs.Kit.{ℕ, ◌≤◌, ◌<◌, arith, true, false, Bool, cond, ◌≡◌, refl, sym, ap, subst, List, [], ◌∷◌}
use Rattle.prelude.specs.Kit.{ltb, ℤ, ltb-true}
use Rattle.semantics.specs.Syntax.{Script, main_depth}
use Rattle.semantics.specs.Value.{Value, first_totals}
use Rattle.semantics.specs.Words.{store_of, cells_in, shaped}
use Rattle.semantics.specs.Machine.{program, delivery, starting, delivered}
use Rattle.semantics.specs.Calls.{packed, number_of, Verdict, accepted, refused, judged, admitted, admitted_if, room}
use Rattle.semantics.specs.Calls.{code_fits, request_fits, StoreReply, refusing, answering, open_for, deliver_for}
use Rattle.semantics.specs.Calls.{engine_open, engine_deliver}
use Rattle.semantics.specs.Ledger.{Delivery, entry, dry_steps, meant}
use Rattle.semantics.specs.Demands.{Engine, Call, InTurn, entered, Kept, Demand3, defined}
use Rattle.laws.specs.Tests.{both_hold}
use Rattle.script_laws.specs.Nodes.{Numbered, judged_numbered}
use Rattle.soundness.proofs.Answers.{number_packed}
use Rattle.soundness.proofs.Settled.{opened_settles}
use Rattle.soundness.proofs.annotation.Accepting.{main_shape_of}
use Rattle.soundness.proofs.Delivering.{few_lines, delivers}
use Rattle.soundness.proofs.Step.{Standing, standing_settled, settled_standing, Stepped, refused_step}
use Rattle.soundness.proofs.Worked.{worked_step}
use Rattle.soundness.proofs.Settled.{settled_rests}

-- ---- the cells of two arrays

module _ (slots : List ℤ) (heads : List ℕ) where
  pub few_cells : cells_in slots heads ≤ 256
  unfolding cells_in
  few_cells = omega arith

  pub some_cells : shaped slots heads ≡ true → 1 ≤ cells_in slots heads
  unfolding shaped
  some_cells e =
      let n = cells_in slots heads in
      ltb-true 0 n (both_hold (ltb 0 n) _ e).0

-- no refusal answers 0
pub no_refusal : {A : Type 0} (n c : ℕ) → 0 < n → n < 256 → number_of (packed n 0 0 c) ≡ 0 → A
no_refusal n c positive small z = absurd (omega (arith, number_packed n 0 0 c small, z, positive))

-- ---- one accepted file

module _ (file : List ℕ) (fs : Script) (ok : judged file ≡ accepted fs) where
  -- an accepted file is refused by 9 alone
  pub admitted_is : (lines : ℕ) → admitted file lines ≡ cond (code_fits fs lines) (accepted fs) (refused 9 0)
  unfolding admitted
  admitted_is lines = rw ok

  module _ (slots : List ℤ) (heads : List ℕ) (v : Value) (stood : Standing fs slots heads v) (δ : Delivery) where
    abbrev lines : ℕ
    lines = room δ.kinds δ.operands

    abbrev reply : StoreReply
    reply = engine_deliver file δ.kinds δ.operands slots heads δ.readings δ.budget

    abbrev Step : Type 0
    Step = Stepped fs slots heads v δ reply (entry fs v δ (dry_steps reply.answer))

    pub one_delivery : Step
    unfolding engine_deliver deliver_for entry delivered
    one_delivery = by (code_fits fs lines) refl (request_fits δ.readings δ.budget) refl
      where
        by : (a : Bool) → code_fits fs lines ≡ a → (b : Bool) → request_fits δ.readings δ.budget ≡ b → Step
        by false e b f = rw (admitted_is lines, e)
            (refused_step fs slots heads v δ stood δ.kinds δ.operands 9 (omega arith))
        by true e false f =
            rw (admitted_is lines, e, f)
            (refused_step fs slots heads v δ stood δ.kinds δ.operands 10 (omega arith))
        by true e true f =
            rw (admitted_is lines, e, f, stood.sound)
            (worked_step fs slots heads v δ stood δ.kinds δ.operands f
            (delivery (program fs) δ.readings (starting δ.budget (store_of slots heads))) (meant fs v δ) refl refl
            (delivers file fs ok (few_lines fs lines (omega arith) e) (standing_settled stood) δ.readings
            δ.budget f))

  module _ (kinds : List ℕ) (operands slots : List ℤ) (heads : List ℕ) where
    abbrev opening : StoreReply
    opening = engine_open file kinds operands slots heads

    -- a store just opened stands, with totals that hold nothing yet
    pub opening_stands : number_of opening.answer ≡ 0 →
        Standing fs opening.slots opening.heads (first_totals (main_depth fs))
    unfolding engine_open open_for refusing answering
    opening_stands = by (code_fits fs (room kinds operands)) refl (shaped slots heads) refl
      where
        by : (a : Bool) → code_fits fs (room kinds operands) ≡ a → (b : Bool) → shaped slots heads ≡ b →
            number_of opening.answer ≡ 0 →
            Standing fs opening.slots opening.heads (first_totals (main_depth fs))
        by false e b f = rw (admitted_is (room kinds operands), e) (λ z. no_refusal 9 0 (omega arith) (omega arith) z)
        by true e false f =
            rw (admitted_is (room kinds operands), e, f) (λ z. no_refusal 11 0 (omega arith) (omega arith) z)
        by true e true f =
            let shallow = (main_shape_of file fs ok).1 in
            let settled = opened_settles (cells_in slots heads) (main_depth fs) (some_cells slots heads f)
            (few_cells slots heads) shallow in
            rw (admitted_is (room kinds operands), e, f) (λ _. settled_standing settled)

-- ---- an opening that answers 0 has an accepted file, for every refusal has another number

pub record Accepts (file : List ℕ) : Type 0 where
  pub script : Script
  pub so : judged file ≡ accepted script

-- so of every call that tells a refusal of its file by the number
pub answer_accepts : (file : List ℕ) (lines : ℕ) (answer : Verdict → ℕ) →
    ((n p : ℕ) → answer (refused n p) ≡ packed n p 0 0) → number_of (answer (admitted file lines)) ≡ 0 →
    Accepts file
unfolding admitted
answer_accepts file lines answer told = by (judged file) refl (judged_numbered file)
  where
    by : (v : Verdict) → judged file ≡ v → Numbered v → number_of (answer (admitted_if lines v)) ≡ 0 →
        Accepts file
    by (accepted fs) e ok z = record { script = fs; so = e }
    by (refused n p) e ok z =
        absurd (omega (arith, number_packed n p 0 0 (omega (arith, ok.1)), ap number_of (told n p), z, ok.0))

pub open_accepts : (file kinds : List ℕ) (operands slots : List ℤ) (heads : List ℕ) →
    number_of (engine_open file kinds operands slots heads).answer ≡ 0 → Accepts file
unfolding engine_open open_for refusing
open_accepts file kinds operands slots heads =
    answer_accepts file (room kinds operands) (λ v. (open_for kinds operands slots heads v).answer) (λ n p. refl)

-- ---- the list

-- of the definitions' calls
module _ (file : List ℕ) (fs : Script) (ok : judged file ≡ accepted fs) where
  -- a call in its turn
  pub call_steps : (c : Call) (slots : List ℤ) (heads : List ℕ) (v : Value) → Standing fs slots heads v →
      defined.delivers file slots heads c.lent c.reply →
      Stepped fs slots heads v c.lent c.reply (entered fs v c)
  unfolding defined
  call_steps c slots heads v s turn =
      subst (λ r. Stepped fs slots heads v c.lent r (entry fs v c.lent (dry_steps r.answer)))
      (sym turn) (one_delivery file fs ok slots heads v s c.lent)

  pub kept : (cs : List Call) (slots : List ℤ) (heads : List ℕ) (v : Value) → Standing fs slots heads v →
      InTurn (defined.delivers file) slots heads cs → Kept fs slots heads v cs
  kept [] slots heads v s turn = settled_rests (standing_settled s)
  kept (c ∷ cs) slots heads v s turn =
      let one = call_steps c slots heads v s turn.0 in
      (one.agrees, kept cs c.reply.slots c.reply.heads _ one.stands turn.1)

pub demand_3 : Demand3 defined
unfolding defined
demand_3 file kinds operands slots heads opening opened answered =
    let z = subst (λ r. number_of r.answer ≡ 0) opened answered in
    let a = open_accepts file kinds operands slots heads z in
    record {
      script = a.script;
      is_accepted = a.so;
      keeps = λ cs turn. kept file a.script a.so cs opening.slots opening.heads
          (first_totals (main_depth a.script))
          (subst (λ r. Standing a.script r.slots r.heads (first_totals (main_depth a.script)))
          (sym opened) (opening_stands file a.script a.so kinds operands slots heads z)) turn;
    }

-- ---- an engine of which less is known

-- calls of one are calls of another
abbrev pub OpensWithin : Engine → Engine → Type 0
OpensWithin E F =
    (file kinds : List ℕ) (operands slots : List ℤ) (heads : List ℕ) (r : StoreReply) →
    E.opens file kinds operands slots heads r → F.opens file kinds operands slots heads r

abbrev pub DeliversWithin : Engine → Engine → Type 0
DeliversWithin E F =
    (file : List ℕ) (slots : List ℤ) (heads : List ℕ) (δ : Delivery) (r : StoreReply) →
    E.delivers file slots heads δ r → F.delivers file slots heads δ r

pub turn_within : (E F : Engine) → DeliversWithin E F → (file : List ℕ) (cs : List Call) (slots : List ℤ)
    (heads : List ℕ) → InTurn (E.delivers file) slots heads cs → InTurn (F.delivers file) slots heads cs
turn_within E F within file [] slots heads turn = tt
turn_within E F within file (c ∷ cs) slots heads turn = (
  within file slots heads c.lent c.reply turn.0,
  turn_within E F within file cs c.reply.slots c.reply.heads turn.1,
)

-- what holds of some calls holds of every engine whose calls are among them
pub demand_3_within : {E F : Engine} → OpensWithin E F → DeliversWithin E F → Demand3 F → Demand3 E
demand_3_within {E} {F} opens delivers whole file kinds operands slots heads opening opened answered =
    let o = opens file kinds operands slots heads opening opened in
    let s = whole file kinds operands slots heads opening o answered in
    record {
      script = s.script;
      is_accepted = s.is_accepted;
      keeps = λ cs turn. s.keeps cs (turn_within E F delivers file cs opening.slots opening.heads turn);
    }
