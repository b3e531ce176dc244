-- The swaps of a site: a swap keeps the value of the totals, and two sites with the same value tell the same story,
-- while none meets 25.
use Rattle.prelude.specs.Kit.{ℕ, ◌≤◌, ◌-◌, arith, true, false, Bool, ◌≡◌, refl, ◌∙◌, sym, ap, subst, ◌≢◌, some, none}
use Rattle.prelude.specs.Kit.{List, [], ◌∷◌, ◌++◌, append_assoc, leb, ℤ, length, replicate, take, take_at, ne_eqb}
use Rattle.prelude.specs.Kit.{leb-true}
use Rattle.semantics.specs.Syntax.{Script, main_depth}
use Rattle.semantics.specs.Value.{Value, first_totals}
use Rattle.semantics.specs.Words.{store_of}
use Rattle.semantics.specs.Sound.{sound_words}
use Rattle.semantics.specs.Calls.{number_of, steps_of, accepted, judged, room, code_fits, StoreReply}
use Rattle.semantics.specs.Ledger.{Entry, entry, value_after}
use Rattle.semantics.specs.Demands.{Call, entered, defined}
use Rattle.semantics.specs.Saved.{entries, entry_count, low_bytes, marks, number_bytes, file_bytes, saved_bytes}
use Rattle.semantics.specs.Saved.{saved_length, save_fits, stated_count, read_saved}
use Rattle.semantics.specs.SaveCalls.{SaveReply, totals_value, in_buffer, refusing_save, answering_save, save_for}
use Rattle.semantics.specs.SaveCalls.{engine_save}
use Rattle.semantics.specs.Swap.{defined_saving, Begins, by_open, by_restore, file_in, Swapped, Site, rests, works}
use Rattle.semantics.specs.Swap.{swaps, Pair, calls_here, calls_there, NeverDry, value_in, SameStory}
use Rattle.laws.specs.Tests.{both_hold, some_same}
use Rattle.laws.specs.SavedFiles.{file_length}
use Rattle.laws.specs.Files.{same_script}
use Rattle.soundness.proofs.Step.{Standing, Stepped, entry_number, entry_steps}
use Rattle.soundness.proofs.Demand3.{no_refusal, admitted_is, opening_stands, open_accepts, call_steps}
use Rattle.soundness.proofs.saved.Bytes.{read_bytes}
use Rattle.soundness.proofs.saved.RoundTrip.{round_trip}
use Rattle.soundness.proofs.saved.Valued.{totals_of_depth, totals_fit}
use Rattle.soundness.proofs.saved.Restoring.{Stood, restored_from}

-- ---- the file in the buffer of a save

module _ (d : ℕ) (v : Value) (buffer : List ℕ) (few : entry_count v ≤ 4096) where
  count_back : stated_count (in_buffer (saved_bytes d v) buffer) ≡ entry_count v
  unfolding saved_bytes file_bytes
  count_back =
      let es = entries v in
      let k = length es in
      let rest = marks es ++ number_bytes es in
      ap (λ (l : List ℕ). stated_count (d ∷ l))
      (append_assoc (low_bytes 2 k) rest (replicate (length buffer - length (saved_bytes d v)) 0))
      ∙ read_bytes 2 k 1 (d ∷ []) (rest ++ replicate (length buffer - length (saved_bytes d v)) 0) (omega arith) refl

  pub file_back : file_in (in_buffer (saved_bytes d v) buffer) ≡ saved_bytes d v
  unfolding saved_bytes
  file_back =
      ap (λ (k : ℕ). take (saved_length k) (in_buffer (saved_bytes d v) buffer)) count_back
      ∙ take_at (saved_bytes d v) (replicate (length buffer - length (saved_bytes d v)) 0)
      (saved_length (entry_count v)) (file_length d (entries v))

-- ---- a save that answers 0

pub record Saved (d : ℕ) (v : Value) (buffer : List ℕ) (r : SaveReply) : Type 0 where
  pub few : entry_count v ≤ 4096
  pub saved : r.saved ≡ in_buffer (saved_bytes d v) buffer

module _ (file : List ℕ) (fs : Script) (ok : judged file ≡ accepted fs)
    (kinds : List ℕ) (operands slots : List ℤ) (heads buffer : List ℕ) where
  abbrev totals : Value
  totals = totals_value (main_depth fs) (store_of slots heads)

  abbrev SavedAt0 : SaveReply → Type 0
  SavedAt0 r = number_of r.answer ≡ 0 → Saved (main_depth fs) totals buffer r

  abbrev lines : ℕ
  lines = room kinds operands

  abbrev fitting : Bool
  fitting = save_fits (entry_count totals) (length buffer)

  few_entries : fitting ≡ true → entry_count totals ≤ 4096
  unfolding save_fits
  few_entries e =
      let k = entry_count totals in
      leb-true k 4096 (both_hold (leb k 4096) (leb (saved_length k) (length buffer)) e).0

  pub save_says : SavedAt0 (engine_save file kinds operands slots heads buffer)
  unfolding engine_save save_for refusing_save answering_save
  save_says = by (code_fits fs lines) refl (sound_words (main_depth fs) slots heads) refl fitting refl
    where
      by : (a : Bool) → code_fits fs lines ≡ a → (b : Bool) → sound_words (main_depth fs) slots heads ≡ b →
          (c : Bool) → fitting ≡ c → SavedAt0 (engine_save file kinds operands slots heads buffer)
      by false e b f c g =
          rw (admitted_is file fs ok lines, e) (λ z. no_refusal 9 0 (omega arith) (omega arith) z)
      by true e false f c g =
          rw (admitted_is file fs ok lines, e, f) (λ z. no_refusal 11 0 (omega arith) (omega arith) z)
      by true e true f false g =
          rw (admitted_is file fs ok lines, e, f, g) (λ z. no_refusal 27 0 (omega arith) (omega arith) z)
      by true e true f true g =
          rw (admitted_is file fs ok lines, e, f, g) (λ z. record { few = few_entries g; saved = refl })

-- ---- the beginning

-- the script of an accepted file, and a store with a value of its totals
pub record Started (file : List ℕ) (r : StoreReply) : Type 0 where
  pub script : Script
  pub is_accepted : judged file ≡ accepted script
  pub value : Value
  pub stands : Standing script r.slots r.heads value

pub begun : (file : List ℕ) (r : StoreReply) → Begins defined_saving file r → Started file r
unfolding defined_saving defined
begun file r (by_open kinds operands slots heads called answered) =
    let z = subst (λ q. number_of q.answer ≡ 0) called answered in
    let a = open_accepts file kinds operands slots heads z in
    record {
      script = a.script;
      is_accepted = a.so;
      value = first_totals (main_depth a.script);
      stands = subst (λ q. Standing a.script q.slots q.heads (first_totals (main_depth a.script)))
          (sym called) (opening_stands file a.script a.so kinds operands slots heads z);
    }
begun file r (by_restore kinds operands slots heads saved called answered) =
    let s = restored_from file kinds operands slots heads saved r called answered in
    record {
      script = s.script;
      is_accepted = s.is_accepted;
      value = s.stood.value;
      stands = s.stood.stands;
    }

-- ---- the swaps of a site

module _ (file : List ℕ) (fs : Script) (ok : judged file ≡ accepted fs) where
  abbrev Stands : StoreReply → Value → Type 0
  Stands r v = Standing fs r.slots r.heads v

  abbrev SiteOf : StoreReply → List Call → StoreReply → Type 0
  SiteOf r cs last = Site defined_saving file r cs last

  -- the file of a save that answered 0 is read as the value of the totals
  saved_reads : {old new : StoreReply} (w : Swapped defined_saving file old new) →
      read_saved (main_depth fs) (file_in w.saving.saved) ≡ some (value_in fs old)
  unfolding defined_saving
  saved_reads {old} w =
      let d = main_depth fs in
      let v = value_in fs old in
      let z = subst (λ r. number_of r.answer ≡ 0) w.saves.1 w.saved in
      let s = save_says file fs ok w.kinds w.operands old.slots old.heads w.buffer z in
      let bytes = ap (λ r. file_in r.saved) w.saves.1 ∙ ap file_in s.saved
      ∙ file_back d v w.buffer s.few in
      ap (read_saved d) bytes
      ∙ round_trip d v (totals_of_depth old.slots old.heads w.saves.0 d)
      (totals_fit old.slots old.heads w.saves.0 d) s.few

  -- a swap keeps the value
  swap_stands : {old new : StoreReply} {v : Value} → Stands old v → Swapped defined_saving file old new → Stands new v
  swap_stands {old} {new} {v} s w =
      let saved = file_in w.saving.saved in
      let r = restored_from file w.kinds' w.operands' w.slots' w.heads' saved new w.restores
      w.restored in
      let stood = subst (λ g. Stood g saved new) (same_script (sym r.is_accepted ∙ ok)) r.stood in
      let same : stood.value ≡ v = some_same stood.value v
      (sym stood.is_read ∙ saved_reads w ∙ ap some s.value) in
      subst (λ u. Stands new u) same stood.stands

  -- without a delivery there are swaps alone
  idle_stands : {r last : StoreReply} (v : Value) → Stands r v → SiteOf r [] last → Stands last v
  idle_stands v s rests = s
  idle_stands v s (swaps w rest) = idle_stands v (swap_stands s w) rest

  -- a site up to its next delivery: the store that this is lent
  record Next (v : Value) (c : Call) (cs : List Call) (last : StoreReply) : Type 0 where
    lent : StoreReply
    stands : Stands lent v
    delivers : defined.delivers file lent.slots lent.heads c.lent c.reply
    rest : SiteOf c.reply cs last

  next : {r last : StoreReply} {c : Call} {cs : List Call} (v : Value) → Stands r v → SiteOf r (c ∷ cs) last →
      Next v c cs last
  unfolding defined_saving
  next {r} v s (works called rest) = record { lent = r; stands = s; delivers = called; rest = rest }
  next v s (swaps w rest) = next v (swap_stands s w) rest

  -- and with it
  stepped : {v : Value} {c : Call} {cs : List Call} {last : StoreReply} (n : Next v c cs last) →
      Stepped fs n.lent.slots n.lent.heads v c.lent c.reply (entered fs v c)
  stepped {v} {c} n = call_steps file fs ok c n.lent.slots n.lent.heads v n.stands n.delivers

  -- a site stands wherever it came to, with the value of its totals
  pub site_stands : (cs : List Call) {r last : StoreReply} (v : Value) → Stands r v → SiteOf r cs last →
      Stands last (value_in fs last)
  site_stands [] v s site = record { sound = (idle_stands v s site).sound; value = refl }
  site_stands (c ∷ cs) v s site = let n = next v s site in site_stands cs _ (stepped n).stands n.rest

  -- ---- two sites with the same value

  -- of an answer other than 25 the ledger is fed nothing
  fed_nothing : (c : Call) (v : Value) → number_of c.reply.answer ≢ 25 → entered fs v c ≡ entry fs v c.lent none
  fed_nothing c v f = rw (ne_eqb (number_of c.reply.answer) 25 f) refl

  pub same_story : (ps : List Pair) {r q here there : StoreReply} (v : Value) → Stands r v → Stands q v →
      SiteOf r (calls_here ps) here → SiteOf q (calls_there ps) there →
      NeverDry (calls_here ps) → NeverDry (calls_there ps) →
      SameStory fs r q ps × (value_in fs there ≡ value_in fs here)
  same_story [] v sr sq site other f g =
      (sq.value ∙ sym sr.value, (idle_stands v sq other).value ∙ sym (idle_stands v sr site).value)
  same_story (p ∷ ps) {r} {q} {here} {there} v sr sq site other f g =
      let rest = same_story ps (value_after v (entered fs v c)) (stepped n).stands
      (subst (λ (e : Entry). Stands p.other (value_after v e)) same (stepped m).stands) n.rest m.rest f.1
      g.1 in
      ((sq.value ∙ sym sr.value, (numbers_same, (steps_same, rest.0))), rest.1)
    where
      c : Call
      c = record { lent = p.lent; reply = p.reply }

      k : Call
      k = record { lent = p.lent; reply = p.other }

      n : Next v c (calls_here ps) here
      n = next v sr site

      m : Next v k (calls_there ps) there
      m = next v sq other

      same : entered fs v k ≡ entered fs v c
      same = fed_nothing k v g.0 ∙ sym (fed_nothing c v f.0)

      numbers_same : number_of p.other.answer ≡ number_of p.reply.answer
      numbers_same = (stepped m).number ∙ ap entry_number same ∙ sym (stepped n).number

      steps_same : steps_of p.other.answer ≡ steps_of p.reply.answer
      steps_same = (stepped m).steps ∙ ap entry_steps same ∙ sym (stepped n).steps
