-- The laws of restoring and saving, one for each way out of these calls.
use Rattle.prelude.specs.Kit.{ℕ, arith, true, false, Bool, cond, ◌≡◌, refl, ◌∙◌, sym, ap, some, none, Option, List, ℤ}
use Rattle.prelude.specs.Kit.{pos, length, replicate}
use Rattle.std.specs.Prelude.{Ok, Err}
use Rattle.answers.specs.Numbers.{number_of}
use Rattle.answers.specs.declared.Refusal.TheVariants.{UnsoundStore}
use Rattle.semantics.specs.Outcome.{Outcome, done, stop}
use Rattle.semantics.specs.Syntax.{Script, main_depth}
use Rattle.semantics.specs.Value.{Value}
use Rattle.semantics.specs.Store.{Store, cells_taken}
use Rattle.semantics.specs.Words.{cells_in, store_of, shaped}
use Rattle.semantics.specs.Sound.{sound_words}
use Rattle.semantics.specs.Calls.{Verdict, accepted, refused, admitted, packed, room}
use Rattle.semantics.specs.Calls.{code_kinds, code_operands, refusing, answering}
use Rattle.semantics.specs.Saved.{entry_count, saved_bytes, save_fits, read_saved, loaded}
use Rattle.semantics.specs.SaveCalls.{SaveReply, totals_value, in_buffer, refusing_save, answering_save, save_for}
use Rattle.semantics.specs.SaveCalls.{restore_in, restore_value, restore_for}
use Rattle.call_store.specs.Left.{Ended, SmallAnswer, left}
use Rattle.call_saved.specs.Left.{restored_by, restored_value, restored_left, SaveLeft, save_left, save_left_by}
use Rattle.call_saved.specs.Left.{saved_left}
use Rattle.saved_write.specs.Writing.{saving, totals_saved}
use Rattle.call_load.specs.Loading.{ready_with, told_load, kinds_after, operands_after, Loads}
use Rattle.engine.specs.Promises.{Saves}
use Rattle.call_store.specs.Told.{Tells}
use Rattle.call_store.proofs.Laws.{packed_counts}
use Rattle.engine.proofs.Laws.{depth_of, reply_for, Serves}

-- ---- restore

module _ (kinds : List ℕ) (operands : List ℤ) (slots : List ℤ) (heads saved : List ℕ) where
  abbrev n : ℕ
  n = cells_in slots heads

  pub restore_serves : Serves kinds operands slots heads (restore_for kinds operands slots heads saved)
      (λ fs. restored_left (main_depth fs) saved slots heads)
  unfolding restore_for restored_left answering refusing
  restore_serves = record {
    refuses = λ m p. refl;
    serves = λ fs. by fs (shaped slots heads) (read_saved (main_depth fs) saved);
  }
    where
      ends : (fs : Script) (o : Outcome Store (Unit {0})) →
          restore_in kinds operands slots heads fs o
          ≡ reply_for kinds operands fs (restored_by n o) (restored_by n o).answer
      ends fs (done u σ) = refl
      ends fs (stop k σ) = refl

      by : (fs : Script) (t : Bool) (o : Option Value) →
          let l = cond t (restored_value (main_depth fs) slots heads o) (left (Err UnsoundStore) slots heads) in
          cond t (restore_value kinds operands slots heads fs o) (refusing kinds operands slots heads 11 0)
          ≡ reply_for kinds operands fs l l.answer
      by fs true (some v) = ends fs (loaded n (main_depth fs) v)
      by fs true none = refl
      by fs false o = refl

-- ---- save

module _ (kinds : List ℕ) (operands : List ℤ) (slots : List ℤ) (heads buffer : List ℕ) where
  -- a reply with these code arrays and bytes; the store stays
  abbrev reply : ℕ → List ℕ → List ℤ → List ℕ → SaveReply
  reply answer kinds' operands' bytes = record {
    answer = answer;
    kinds = kinds';
    operands = operands';
    slots = slots;
    heads = heads;
    saved = bytes;
  }

  -- the reply for an accepted script, by what the store's part leaves
  abbrev save_reply : Script → List ℕ → Ended → SaveReply
  save_reply fs bytes (Ok n) =
      reply (packed n.number n.lowest n.steps n.cells) (code_kinds fs kinds) (code_operands fs operands) bytes
  save_reply fs bytes (Err refusal) =
      reply (packed (number_of refusal) 0 0 0) (replicate (length kinds) 0) (replicate (length operands) (pos 0)) bytes

  abbrev call : Verdict → SaveReply
  call = save_for kinds operands slots heads buffer

  save_serves : (fs : Script) →
      let l = saved_left (main_depth fs) slots heads buffer in
      call (accepted fs) ≡ save_reply fs l.buffer l.answer
  unfolding save_for saved_left totals_saved answering_save refusing_save
  save_serves fs = by (sound_words d slots heads) (save_fits (entry_count (totals_value d σ)) (length buffer))
    where
      d : ℕ
      d = main_depth fs

      σ : Store
      σ = store_of slots heads

      by : (t u : Bool) →
          let file = saving true (in_buffer (saved_bytes d (totals_value d σ)) buffer) in
          let zeros = replicate {A = ℕ} (length buffer) 0 in
          let l = cond t (save_left_by (cells_taken σ) (cond u file (saving false zeros)))
          (save_left (Err UnsoundStore) zeros) in
          cond t (cond u (answering_save kinds operands slots heads buffer fs σ)
          (refusing_save kinds operands slots heads buffer 27 0)) (refusing_save kinds operands slots heads buffer 11 0)
          ≡ save_reply fs l.buffer l.answer
      by true true = refl
      by true false = refl
      by false u = refl

  -- loading refused the script
  pub saves_refused : {file : List ℕ} {a : ℕ} {kinds' : List ℕ} {operands' : List ℤ} →
      Loads file kinds operands (Err a) kinds' operands' → (r : List ℕ) → r ≡ replicate (length buffer) 0 →
      Saves (call (admitted file (room kinds operands))) a kinds' operands' slots heads r
  unfolding save_for refusing_save
  saves_refused {file} {a} h r e =
      rw (h.kinds_are, h.operands_are, e) (by (admitted file (room kinds operands)) h.is)
    where
      by : (verdict : Verdict) → Err a ≡ told_load verdict →
          reply a (kinds_after verdict kinds) (operands_after verdict operands) (replicate (length buffer) 0)
          ≡ call verdict
      by (accepted fs) e = absurd (let z : ◌≡◌ {A = ℕ} 0 1 = cc in omega arith)
      by (refused m p) e = let same : a ≡ packed m p 0 0 = cc in rw same refl

  -- the store's part ended, and that was told
  module _ {file : List ℕ} {l d : ℕ} {kinds' : List ℕ} {operands' : List ℤ}
      (h : Loads file kinds operands (ready_with l d) kinds' operands')
      (kinds_long : length kinds' ≡ length kinds) (operands_long : length operands' ≡ length operands)
      {a : ℕ} {kinds'' : List ℕ} {operands'' : List ℤ} (bytes : List ℕ) where
    told : (fs : Script) → admitted file (room kinds operands) ≡ accepted fs → (r : Ended) → SmallAnswer r →
        Tells number_of r kinds' operands' a kinds'' operands'' →
        reply a kinds'' operands'' bytes ≡ save_reply fs bytes r
    told fs q (Ok n) few t =
        rw (
          t.0 ∙ packed_counts n.number n.lowest n.steps n.cells few.0 few.1 few.2,
          t.1.0 ∙ rw q at h.kinds_are,
          t.1.1 ∙ rw q at h.operands_are,
        ) refl
    told fs q (Err refusal) few t = rw (t.0, t.1.0, t.1.1, kinds_long, operands_long) refl

    pub saves_told : (r : Ended) → save_left r bytes ≡ saved_left d slots heads buffer → SmallAnswer r →
        Tells number_of r kinds' operands' a kinds'' operands'' →
        Saves (call (admitted file (room kinds operands))) a kinds'' operands'' slots heads bytes
    saves_told r e few t = by (admitted file (room kinds operands)) refl h.is
      where
        by : (v : Verdict) → admitted file (room kinds operands) ≡ v → ready_with l d ≡ told_load v →
            reply a kinds'' operands'' bytes ≡ call (admitted file (room kinds operands))
        by (refused m p) q g = absurd (let z : ◌≡◌ {A = ℕ} 0 1 = cc in omega arith)
        by (accepted fs) q g =
            let same : d ≡ main_depth fs = ap depth_of g in
            told fs q r few t
            ∙ ap (λ (x : SaveLeft). save_reply fs x.buffer x.answer)
            (e ∙ ap (λ (j : ℕ). saved_left j slots heads buffer) same)
            ∙ sym (save_serves fs) ∙ ap call (sym q)
