-- A delivery by lent code agrees with its entry, and the store stands again: `code_step`.
use Rattle.std.specs.Prelude.{ℕ, ◌≤◌, ◌<◌, ◌-◌, true, false, Bool, cond, ◌≡◌, refl, List, ℤ}
use Rattle.prelude.specs.Kit.{arith, ◌∙◌, sym, ap, subst, Option, eq-eqb}
use Rattle.semantics.specs.Outcome.{Outcome, done, stop}
use Rattle.semantics.specs.Value.{Value}
use Rattle.semantics.specs.Meaning.{Meter}
use Rattle.semantics.specs.Store.{Store, cells_taken, relinked}
use Rattle.semantics.specs.Words.{store_of}
use Rattle.semantics.specs.Sound.{free_list, sound_words}
use Rattle.semantics.specs.Machine.{State, Program, delivery, starting, delivered, delivered_by, lowest_over}
use Rattle.semantics.specs.Machine.{lowest_level}
use Rattle.semantics.specs.Calls.{packed, StoreReply, request_fits}
use Rattle.semantics.specs.Ledger.{Delivery, dry_steps, wants_cell}
use Rattle.semantics.specs.Demands.{Least}
use Rattle.semantics_lent.specs.Calls.{judged_code, refusing_code, answering_code, deliver_code_for}
use Rattle.semantics_lent.specs.Calls.{engine_deliver_code}
use Rattle.discipline.proofs.store.LowestLevel.{free_cells_listed, least_level}
use Rattle.discipline.proofs.machine.Agreement.{Start, Clean}
use Rattle.discipline.proofs.machine.Delivery.{Delivers, finishes, stops, runs_dry}
use Rattle.soundness.proofs.Answers.{not_dry, dry_packed}
use Rattle.soundness.proofs.Settled.{Settled, settled_words, relinked_settles, relinked_alone}
use Rattle.lent_soundness.specs.Accepted.{FitsSay, lent_start, accepted_sound}
use Rattle.semantics_lent.specs.Demands.{By, by_code, Admitted, lent, turned_away, of_code, admission, code_meant}
use Rattle.semantics_lent.specs.Demands.{Entry, refusal, worked, entry_by, entry, value_after, answer_of, NoneFree}
use Rattle.semantics_lent.specs.Demands.{WorkedLent, Job, Owed}
use Rattle.lent_soundness.specs.Steps.{StandsAt, settled_at, stands_at, Stepped, same_depth, other_depth}
use Rattle.lent_soundness.specs.Steps.{few_steps, few_free}

-- before which the totals have the value v
module _ (d : ℕ) (slots : List ℤ) (heads : List ℕ) (v : Value) (stood : StandsAt d slots heads v) (δ : Delivery) where
  abbrev before : Store
  before = store_of slots heads

  abbrev job : By → StoreReply → Job
  job by r = record { by = by; lent = δ; reply = r }

  -- what is to be shown
  abbrev Shown : By → Admitted → StoreReply → Type 0
  Shown = Stepped d slots heads v stood δ

  -- ---- by lent code, for the stated depth c

  module _ (c : ℕ) where
    refused_code : (a : Admitted) (n p : ℕ) → ((x : Option ℕ) → entry d v a δ x ≡ refusal n p) →
        Shown (by_code c) a (refusing_code δ.kinds δ.operands slots heads n p)
    unfolding refusing_code
    refused_code a n p e =
        let same = e (dry_steps (packed n p 0 0)) in
        record {
          lowest = 0;
          answered = sym (ap (λ (x : Entry). answer_of x 0 (cells_taken before)) same);
          owed = subst (λ (x : Entry). Owed slots heads v
              (job (by_code c) (refusing_code δ.kinds δ.operands slots heads n p)) a 0 x) (sym same) (refl, refl);
          code_left = (refl, refl);
          stands = subst (λ (x : Entry). StandsAt d slots heads (value_after v x)) (sym same) stood;
        }

    module _ (P : Program) (depth : P.depth ≡ d) (asked : request_fits δ.readings δ.budget ≡ true) where
      abbrev start : Start
      start = lent_start δ.budget before

      abbrev run : Outcome State (Unit {0})
      run = delivery P δ.readings (starting δ.budget before)

      abbrev replied : Outcome State (Unit {0}) → StoreReply
      replied o = answering_code δ.kinds δ.operands slots heads (delivered_by δ.budget before o)

      entry_is : (x : Option ℕ) → entry d v (lent P) δ x ≡ entry_by δ.budget v (code_meant P v δ) x
      entry_is x = rw (asked, eq-eqb P.depth d depth) refl

      -- what a run shows, and what it did
      record Ran (r : StoreReply) (n lowest steps : ℕ) (w : Value) : Type 0 where
        answered : r.answer ≡ packed n lowest steps (cells_taken (store_of r.slots r.heads))
        does : WorkedLent P before (store_of r.slots r.heads) v δ n lowest steps
        stands : StandsAt d r.slots r.heads w

      ran_stepped : (o : Outcome State (Unit {0})) (n lowest steps : ℕ) (w : Value) →
          entry d v (lent P) δ (dry_steps (replied o).answer) ≡ worked n steps w → Ran (replied o) n lowest steps w →
          Shown (by_code c) (lent P) (replied o)
      unfolding answering_code
      ran_stepped o n lowest steps w e q = record {
        lowest = lowest;
        answered = q.answered ∙ sym (ap (λ (x : Entry). answer_of x lowest
            (cells_taken (store_of (replied o).slots (replied o).heads))) e);
        owed = subst (Owed slots heads v (job (by_code c) (replied o)) (lent P) lowest) (sym e) q.does;
        code_left = (refl, refl);
        stands = subst (λ (x : Entry). StandsAt d (replied o).slots (replied o).heads (value_after v x)) (sym e)
            q.stands;
      }

      least_shown : (s : State) → Clean start s → Least s.log (free_list before) (lowest_level before s)
      least_shown s clean =
          let counted = free_cells_listed (settled_at stood).rests.holds in
          subst (λ n. Least s.log (free_list before) (lowest_over s.log n)) (sym counted)
          (least_level s.log (free_list before) (free_list s.store) (sym clean.replays))

      -- a result replaces the totals
      finished : (u : Unit {0}) (s : State) (w : Value) → run ≡ done u s → Clean start s → Settled d s.store w →
          Ran (replied (done u s)) 0 (lowest_level before s) (δ.budget - s.left) w
      unfolding answering_code
      finished u s w e clean settled =
          let back = settled_words settled in
          record {
            answered = rw back refl;
            does = rw back (record {
              end = done u s;
              ran = e;
              shows = refl;
              least = least_shown s clean;
              untouched = clean.untouched;
              unswept = λ z. clean.replays;
              left_alone = λ f. absurd (f refl);
              wanted = λ z. absurd (omega (arith, z));
              dry = λ z. absurd (omega (arith, z));
            });
            stands = stands_at settled;
          }

      -- a stop leaves them
      stopped : (n : ℕ) (s : State) → 0 < n → run ≡ stop n s → Clean start s →
          (n ≡ 25 → wants_cell (δ.budget - s.left) (code_meant P v δ) ≡ true) → (n ≡ 25 → NoneFree s) →
          Ran (replied (stop n s)) n (lowest_level before s) (δ.budget - s.left) v
      unfolding answering_code
      stopped n s positive e clean wanted out =
          let settled = relinked_settles (settled_at stood) in
          let back = settled_words settled in
          record {
            answered = rw back refl;
            does = rw back (record {
              end = stop n s;
              ran = e;
              shows = refl;
              least = least_shown s clean;
              untouched = clean.untouched;
              unswept = λ z. absurd (omega (arith, z, positive));
              left_alone = λ f. relinked_alone (settled_at stood);
              wanted = wanted;
              dry = out;
            });
            stands = stands_at settled;
          }

      worked_code : (o : Outcome State (Unit {0})) (p : Outcome Meter Value) → run ≡ o → code_meant P v δ ≡ p →
          Delivers start d o p → Shown (by_code c) (lent P) (replied o)
      unfolding answering_code
      worked_code o p e m (finishes {u} {s} {v = w} {m = k} q) =
          ran_stepped (done u s) 0 (lowest_level before s) (δ.budget - s.left) w
          (entry_is (dry_steps (replied (done u s)).answer)
          ∙ rw (
            m,
            not_dry 0 (lowest_level before s) (δ.budget - s.left) (cells_taken s.store) (omega arith)
                (λ z. absurd (omega arith)),
            q.left,
          ) refl)
          (finished u s w e q.clean (record {
            rests = q.rests;
            value = q.value;
            cells = subst (λ n. 1 ≤ n) (sym q.clean.cells) (settled_at stood).cells;
          }))
      worked_code o p e m (stops {k} {n} {s} {m = z} q) =
          ran_stepped (stop k s) k (lowest_level before s) (δ.budget - s.left) v
          (entry_is (dry_steps (replied (stop k s)).answer)
          ∙ rw (
            m,
            not_dry k (lowest_level before s) (δ.budget - s.left) (cells_taken (relinked before))
                q.stops.high q.stops.other,
            q.left,
            q.number,
          ) refl)
          (stopped k s (omega (arith, q.stops.low)) e q.clean (λ y. absurd (q.stops.other y))
          (λ y. absurd (q.stops.other y)))
      worked_code o p e m (runs_dry {s} empty out clean wants) =
          ran_stepped (stop 25 s) 25 (lowest_level before s) (δ.budget - s.left) v
          (entry_is (dry_steps (replied (stop 25 s)).answer)
          ∙ rw (dry_packed (lowest_level before s) (δ.budget - s.left) (cells_taken (relinked before))
          (few_free d slots heads v stood δ s) (few_steps d slots heads v stood δ asked s.left)) refl)
          (stopped 25 s (omega arith) e clean (λ y. rw m wants)
          (λ y. record { none_free = empty; all_taken = out.taken }))

    -- whatever the code is
    pub code_step : FitsSay → Shown (by_code c) (admission (by_code c) δ)
        (engine_deliver_code δ.kinds δ.operands c slots heads δ.readings δ.budget)
    unfolding engine_deliver_code delivered
    code_step say = go (judged_code δ.kinds δ.operands c) refl
      where
        go : (o : Outcome ℕ Program) → judged_code δ.kinds δ.operands c ≡ o → Shown (by_code c) (of_code o)
            (deliver_code_for δ.kinds δ.operands slots heads δ.readings δ.budget o)
        go (stop n p) e = refused_code (turned_away n p) n p (λ x. refl)
        go (done P lines) e =
            by (request_fits δ.readings δ.budget) refl (sound_words P.depth slots heads) refl
          where
            Reply : Bool → Bool → StoreReply
            Reply a b = cond a
                (cond b (answering_code δ.kinds δ.operands slots heads
                (delivered P δ.readings δ.budget before))
                (refusing_code δ.kinds δ.operands slots heads 11 0))
                (refusing_code δ.kinds δ.operands slots heads 10 0)

            by : (a : Bool) → request_fits δ.readings δ.budget ≡ a → (b : Bool) →
                sound_words P.depth slots heads ≡ b → Shown (by_code c) (lent P) (Reply a b)
            by false f b g = refused_code (lent P) 10 0 (λ x. rw f refl)
            by true f false g =
                refused_code (lent P) 11 0 (λ x. rw (f, other_depth d slots heads v stood δ P.depth g) refl)
            by true f true g =
                let depth = same_depth d slots heads v stood δ P.depth g in
                worked_code P depth f (delivery P δ.readings (starting δ.budget before)) (code_meant P v δ)
                refl refl
                (subst (λ n. Delivers (lent_start δ.budget before) n
                (delivery P δ.readings (starting δ.budget before)) (code_meant P v δ)) depth
                (accepted_sound say δ.kinds δ.operands c P lines e
                (subst (λ n. Settled n before v) (sym depth) (settled_at stood)) δ.readings δ.budget f))
