-- A delivery by a script agrees with its entry beside deliveries by lent code, and the store stands again: `file_step`.
use Rattle.std.specs.Prelude.{ℕ, ◌-◌, true, false, Bool, cond, ◌≡◌, refl, List, ℤ}
use Rattle.prelude.specs.Kit.{arith, ◌∙◌, sym, ap, subst, some, none, Option, eq-eqb}
use Rattle.semantics.specs.Outcome.{Outcome, done, stop}
use Rattle.semantics.specs.Syntax.{Script, main_depth}
use Rattle.semantics.specs.Value.{Value}
use Rattle.semantics.specs.Meaning.{Meter}
use Rattle.semantics.specs.Store.{Store, cells_taken}
use Rattle.semantics.specs.Words.{store_of}
use Rattle.semantics.specs.Sound.{sound_words}
use Rattle.semantics.specs.Machine.{program, delivery, starting, delivered}
use Rattle.semantics.specs.Calls.{Verdict, accepted, refused, admitted, room, packed, StoreReply, request_fits}
use Rattle.semantics.specs.Calls.{refusing, deliver_in, deliver_for, engine_deliver}
use Rattle.semantics.specs.Ledger as L
use Rattle.semantics.specs.Ledger.{Delivery, meant, dry_steps}
use Rattle.semantics.specs.Demands as D
use Rattle.semantics.specs.Demands.{value_of}
use Rattle.soundness.proofs.Delivering.{delivers, few_lines}
use Rattle.soundness.proofs.Step as Step
use Rattle.soundness.proofs.Worked as Worked
use Rattle.soundness.proofs.Step.{Standing}
use Rattle.soundness.proofs.Demand2.{admitted_says}
use Rattle.semantics_lent.specs.Demands.{By, by_file, Admitted, script, lent, turned_away, of_verdict, admission, Entry}
use Rattle.semantics_lent.specs.Demands.{refusal, worked, entry_of, entry_by, entry, value_after, answer_of, Job, Owed}
use Rattle.lent_soundness.specs.Steps.{StandsAt, Stepped, same_depth, other_depth}

-- ---- a script's entries

as_entry : L.Entry → Entry
as_entry (L.refused n) = refusal n 0
as_entry (L.worked n k w) = worked n k w

abbrev Works : L.Entry → Type 0
Works (L.refused n) = ⊥
Works (L.worked n k w) = Unit {0}

module _ (fs : Script) (v : Value) (δ : Delivery) where
  same_of : (p : Outcome Meter Value) → as_entry (L.entry_of δ.budget v p) ≡ entry_of δ.budget v p
  unfolding as_entry
  same_of (done w m) = refl
  same_of (stop n m) = refl

  same_entry : (x : Option ℕ) → as_entry (L.entry_by fs v δ x) ≡ entry_by δ.budget v (meant fs v δ) x
  unfolding as_entry
  same_entry none = same_of (meant fs v δ)
  same_entry (some k) = refl

  entry_works : (x : Option ℕ) → Works (L.entry_by fs v δ x)
  entry_works none = go (meant fs v δ)
    where
      go : (p : Outcome Meter Value) → Works (L.entry_of δ.budget v p)
      go (done w m) = tt
      go (stop n m) = tt
  entry_works (some k) = tt

same_answer : (e : L.Entry) (lowest cells : ℕ) → L.answer_of e lowest cells ≡ answer_of (as_entry e) lowest cells
unfolding as_entry
same_answer (L.refused n) lowest cells = refl
same_answer (L.worked n k w) lowest cells = refl

same_value : (v : Value) (e : L.Entry) → L.value_after v e ≡ value_after v (as_entry e)
unfolding as_entry
same_value v (L.refused n) = refl
same_value v (L.worked n k w) = refl

-- ---- one delivery

-- before which the totals have the value v
module _ (d : ℕ) (slots : List ℤ) (heads : List ℕ) (v : Value) (stood : StandsAt d slots heads v) (δ : Delivery) where
  abbrev before : Store
  before = store_of slots heads

  abbrev job : By → StoreReply → Job
  job by r = record { by = by; lent = δ; reply = r }

  -- what is to be shown
  abbrev Shown : By → Admitted → StoreReply → Type 0
  Shown = Stepped d slots heads v stood δ

  -- ---- by a script

  module _ (file : List ℕ) where
    refused_file : (a : Admitted) (n p : ℕ) → ((x : Option ℕ) → entry d v a δ x ≡ refusal n p) →
        Shown (by_file file) a (refusing δ.kinds δ.operands slots heads n p)
    unfolding refusing
    refused_file a n p e =
        let same = e (dry_steps (packed n p 0 0)) in
        record {
          lowest = 0;
          answered = sym (ap (λ (x : Entry). answer_of x 0 (cells_taken before)) same);
          owed = subst (λ (x : Entry). Owed slots heads v
              (job (by_file file) (refusing δ.kinds δ.operands slots heads n p)) a 0 x) (sym same) (refl, refl);
          code_left = tt;
          stands = subst (λ (x : Entry). StandsAt d slots heads (value_after v x)) (sym same) stood;
        }

    module _ (fs : Script) (depth : main_depth fs ≡ d) (asked : request_fits δ.readings δ.budget ≡ true) where
      script_entry : (x : Option ℕ) → entry d v (script fs) δ x ≡ entry_by δ.budget v (meant fs v δ) x
      script_entry x = rw (asked, eq-eqb (main_depth fs) d depth) refl

      worked_file : (r : StoreReply) → Step.Stepped fs slots heads v δ r (L.entry_by fs v δ (dry_steps r.answer)) →
          Shown (by_file file) (script fs) r
      unfolding as_entry
      worked_file r s =
          let x = dry_steps r.answer in
          let e = L.entry_by fs v δ x in
          let same : entry d v (script fs) δ x ≡ as_entry e =
          script_entry x ∙ sym (same_entry fs v δ x) in
          let lowest = s.agrees.lowest in
          record {
            lowest = lowest;
            answered = s.agrees.answered ∙ same_answer e lowest (cells_taken (store_of r.slots r.heads))
                ∙ sym (ap (λ (y : Entry). answer_of y lowest (cells_taken (store_of r.slots r.heads))) same);
            owed = subst (λ (y : Entry). Owed slots heads v (job (by_file file) r) (script fs) lowest y) (sym same)
                (owed_worked e (entry_works fs v δ x) s.agrees.owed);
            code_left = tt;
            stands = subst (λ (y : Entry). StandsAt d r.slots r.heads (value_after v y)) (sym same)
                (subst (λ (w : Value). StandsAt d r.slots r.heads w) (same_value v e)
                (subst (λ (n : ℕ). StandsAt n r.slots r.heads (L.value_after v e)) depth
                (record { sound = s.stands.sound; value = s.stands.value })));
          }
        where
          owed_worked : (e : L.Entry) → Works e →
              D.Owed fs before (store_of r.slots r.heads) v δ s.agrees.lowest e →
              Owed slots heads v (job (by_file file) r) (script fs) s.agrees.lowest (as_entry e)
          owed_worked (L.refused n) w q = absurd w
          owed_worked (L.worked n k y) w q = q

    pub file_step : Shown (by_file file) (admission (by_file file) δ)
        (engine_deliver file δ.kinds δ.operands slots heads δ.readings δ.budget)
    unfolding engine_deliver deliver_for delivered
    file_step = go (admitted file (room δ.kinds δ.operands)) refl
      where
        go : (o : Verdict) → admitted file (room δ.kinds δ.operands) ≡ o → Shown (by_file file) (of_verdict o)
            (deliver_for δ.kinds δ.operands slots heads δ.readings δ.budget o)
        go (refused n p) e = refused_file (turned_away n p) n p (λ x. refl)
        go (accepted fs) e =
            by (request_fits δ.readings δ.budget) refl (sound_words (main_depth fs) slots heads) refl
          where
            Reply : Bool → Bool → StoreReply
            Reply a b = cond a
                (cond b (deliver_in δ.kinds δ.operands slots heads fs
                (delivered (program fs) δ.readings δ.budget before))
                (refusing δ.kinds δ.operands slots heads 11 0))
                (refusing δ.kinds δ.operands slots heads 10 0)

            by : (a : Bool) → request_fits δ.readings δ.budget ≡ a → (b : Bool) →
                sound_words (main_depth fs) slots heads ≡ b → Shown (by_file file) (script fs) (Reply a b)
            by false f b g = refused_file (script fs) 10 0 (λ x. rw f refl)
            by true f false g =
                refused_file (script fs) 11 0
                (λ x. rw (f, other_depth d slots heads v stood δ (main_depth fs) g) refl)
            by true f true g =
                let depth = same_depth d slots heads v stood δ (main_depth fs) g in
                let says = admitted_says file (room δ.kinds δ.operands) fs e in
                let standing : Standing fs slots heads v =
                record {
                  sound = g;
                  value = subst (λ (n : ℕ). value_of before n before.totals ≡ v) (sym depth) stood.value;
                } in
                worked_file fs depth f (Reply true true)
                (Worked.worked_step fs slots heads v δ standing δ.kinds δ.operands f
                (delivery (program fs) δ.readings (starting δ.budget before)) (meant fs v δ) refl refl
                (delivers file fs says.judged_so
                (few_lines fs (room δ.kinds δ.operands) (omega arith) says.fits)
                (Step.standing_settled standing) δ.readings δ.budget f))
