-- Engines that do not meet `WorksLent`: one that refuses all lent code, one that works no delivery, and one that clears
-- the lent code.
use Rattle.std.specs.Prelude.{ℕ, ◌≡◌, refl, List, [], ◌∷◌, ℤ, pos, length, replicate}
use Rattle.prelude.specs.Kit.{arith, ◌∙◌, sym, ap, subst}
use Rattle.semantics.specs.Value.{Value, items, numbers, first_totals}
use Rattle.semantics.specs.Calls.{Verdict, accepted, refused, packed, StoreReply, engine_translate, engine_open}
use Rattle.semantics.specs.Ledger.{Delivery}
use Rattle.semantics.specs.Demands.{value_of, defined}
use Rattle.semantics.specs.Words.{store_of}
use Rattle.semantics.specs.Swap.{defined_saving}
use Rattle.semantics.specs.Syntax.{main_depth}
use Rattle.semantics.specs.Trials.{printed_file}
use Rattle.semantics_lent.specs.Calls.{engine_check_code, engine_deliver_code}
use Rattle.semantics_lent.specs.Codes.{kinds_of, operands_of}
use Rattle.semantics_lent.specs.Deliveries.{kept_by_main}
use Rattle.semantics_lent.specs.Demands.{by_code, worked, entered, Agrees, Job, LentEngine, WorksLent}
use Rattle.semantics_lent.specs.Computing.{computing_lent}

-- three cells opened for the printed script, of depth 1
opening : StoreReply
opening = engine_open printed_file (replicate 33 0) (replicate 33 (pos 0)) (replicate 49 (pos 0)) (replicate 13 0)

-- one reading by lent code
δ : Delivery
δ = record {
  kinds = kinds_of kept_by_main;
  operands = operands_of kept_by_main;
  readings = pos 5 ∷ [];
  budget = 9;
}

depth_of_verdict : Verdict → ℕ
depth_of_verdict (accepted fs) = main_depth fs
depth_of_verdict (refused n p) = 0

-- an engine whose deliveries by lent code reply so
abbrev pub replying : (List ℤ → List ℕ → Delivery → StoreReply) → LentEngine
replying reply = record {
  saving = defined_saving;
  translates = λ file kinds operands r. r ≡ engine_translate file kinds operands;
  checks_code = λ kinds operands d r. r ≡ engine_check_code kinds operands d;
  delivers_code = λ d slots heads δ r. r ≡ reply slots heads δ;
}

-- the ledger: 0, with 4 steps and the totals {1, 1}
after : Value
after = numbers (pos 1 ∷ pos 1 ∷ [])

module _ (reply : List ℤ → List ℕ → Delivery → StoreReply) where
  abbrev r : StoreReply
  r = reply opening.slots opening.heads δ

  abbrev job : Job
  job = record { by = by_code 1; lent = δ; reply = r }

  -- what is owed of the delivery
  agrees : WorksLent (replying reply) → Agrees opening.slots opening.heads (first_totals 1) job 1
      (entered 1 (first_totals 1) job)
  unfolding computing_lent opening printed_file defined_saving defined depth_of_verdict
  agrees works =
      let o = works.0 printed_file (replicate 33 0) (replicate 33 (pos 0)) (replicate 49 (pos 0)) (replicate 13 0)
      opening refl refl in
      subst (λ (d : ℕ). Agrees opening.slots opening.heads (first_totals d) job d
      (entered d (first_totals d) job))
      (sym (ap depth_of_verdict o.is_accepted)) (o.keeps (job ∷ []) (refl, tt)).0

-- ---- refuses all lent code

pub refusing : List ℤ → List ℕ → Delivery → StoreReply
refusing slots heads δ = record {
  answer = packed 29 0 0 0;
  kinds = δ.kinds;
  operands = δ.operands;
  slots = slots;
  heads = heads;
}

refusing_entry : entered 1 (first_totals 1) (job refusing) ≡ worked 0 4 after
unfolding computing_lent opening printed_file refusing δ after kept_by_main
refusing_entry = refl

mismatch : (l n c : ℕ) → packed 29 0 0 0 ≡ packed 0 l n c → ⊥
unfolding packed
mismatch l n c e = omega (arith, e)

pub refuses_all : WorksLent (replying refusing) → ⊥
unfolding refusing
refuses_all works =
    let a = subst (Agrees opening.slots opening.heads (first_totals 1) (job refusing) 1) refusing_entry
    (agrees refusing works) in
    mismatch a.lowest 4 _ a.answered

-- ---- works no delivery

pub idle : List ℤ → List ℕ → Delivery → StoreReply
idle slots heads δ = record {
  answer = packed 0 0 4 1;
  kinds = δ.kinds;
  operands = δ.operands;
  slots = slots;
  heads = heads;
}

idle_entry : entered 1 (first_totals 1) (job idle) ≡ worked 0 4 after
unfolding computing_lent opening printed_file idle δ after kept_by_main
idle_entry = refl

-- the totals are empty as found
found : value_of (store_of opening.slots opening.heads) 1 (store_of opening.slots opening.heads).totals
    ≡ numbers []
unfolding computing_lent opening printed_file
found = refl

pub works_none : WorksLent (replying idle) → ⊥
unfolding idle after
works_none works =
    let a = subst (Agrees opening.slots opening.heads (first_totals 1) (job idle) 1) idle_entry
    (agrees idle works) in
    omega (arith, ap (λ (v : Value). length (items v)) (sym found ∙ a.rests.totals))

-- ---- clears the lent code

pub clearing : List ℤ → List ℕ → Delivery → StoreReply
clearing slots heads δ =
    let r = engine_deliver_code δ.kinds δ.operands 1 slots heads δ.readings δ.budget in
    record { answer = r.answer; kinds = []; operands = []; slots = r.slots; heads = r.heads }

pub clears_code : WorksLent (replying clearing) → ⊥
unfolding clearing δ kept_by_main
clears_code works = omega (arith, ap length (agrees clearing works).code_left.0)
