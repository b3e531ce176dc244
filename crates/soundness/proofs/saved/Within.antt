-- What holds of some calls holds of every engine whose calls are among them: demand 3 after a restore, and the swap.
use Rattle.prelude.specs.Kit.{ℕ, List, ℤ}
use Rattle.semantics.specs.Calls.{StoreReply}
use Rattle.semantics.specs.SaveCalls.{SaveReply}
use Rattle.semantics.specs.Demands.{Call}
use Rattle.semantics.specs.Swap.{SavingEngine, Restored, Begins, by_open, by_restore, file_in, Swapped, Site, rests}
use Rattle.semantics.specs.Swap.{works, swaps, Running, Swap}
use Rattle.soundness.proofs.Demand3.{OpensWithin, DeliversWithin, turn_within}

-- calls of one engine are calls of another
pub record Within (E F : SavingEngine) : Type 0 where
  pub opens : OpensWithin E.engine F.engine
  pub delivers : DeliversWithin E.engine F.engine
  pub saves : (file kinds : List ℕ) (operands slots : List ℤ) (heads buffer : List ℕ) (r : SaveReply) →
      E.saves file kinds operands slots heads buffer r → F.saves file kinds operands slots heads buffer r
  pub restores : (file kinds : List ℕ) (operands slots : List ℤ) (heads saved : List ℕ) (r : StoreReply) →
      E.restores file kinds operands slots heads saved r → F.restores file kinds operands slots heads saved r

module _ {E F : SavingEngine} (w : Within E F) where
  begins_within : (file : List ℕ) (r : StoreReply) → Begins E file r → Begins F file r
  begins_within file r (by_open kinds operands slots heads called answered) =
      by_open kinds operands slots heads (w.opens file kinds operands slots heads r called) answered
  begins_within file r (by_restore kinds operands slots heads saved called answered) =
      by_restore kinds operands slots heads saved (w.restores file kinds operands slots heads saved r called) answered

  pub restored_within : Restored F → Restored E
  restored_within whole file kinds operands slots heads saved restoring called answered =
      let s = whole file kinds operands slots heads saved restoring
      (w.restores file kinds operands slots heads saved restoring called) answered in
      record {
        script = s.script;
        is_accepted = s.is_accepted;
        value = s.value;
        is_read = s.is_read;
        keeps = λ cs turn. s.keeps cs (turn_within E.engine F.engine w.delivers file cs restoring.slots
            restoring.heads turn);
      }

  swapped_within : {file : List ℕ} {old new : StoreReply} → Swapped E file old new → Swapped F file old new
  swapped_within {file} {old} {new} s = record {
    kinds = s.kinds;
    operands = s.operands;
    buffer = s.buffer;
    saving = s.saving;
    saves = w.saves file s.kinds s.operands old.slots old.heads s.buffer s.saving s.saves;
    saved = s.saved;
    kinds' = s.kinds';
    operands' = s.operands';
    slots' = s.slots';
    heads' = s.heads';
    restores = w.restores file s.kinds' s.operands' s.slots' s.heads' (file_in s.saving.saved) new
        s.restores;
    restored = s.restored;
  }

  site_within : {file : List ℕ} {r last : StoreReply} {cs : List Call} → Site E file r cs last → Site F file r cs last
  site_within rests = rests
  site_within {file} {r} (works {c = c} called rest) =
      works (w.delivers file r.slots r.heads c.lent c.reply called) (site_within rest)
  site_within (swaps s rest) = swaps (swapped_within s) (site_within rest)

  running_within : {file : List ℕ} {r : StoreReply} → Running E file r → Running F file r
  running_within {file} site = record {
    start = site.start;
    begins = begins_within file site.start site.begins;
    before = site.before;
    ran = site_within site.ran;
  }

  pub swap_within : Swap F → Swap E
  swap_within whole file old new one other =
      let s = whole file old new (running_within one) (running_within other) in
      record {
        script = s.script;
        is_accepted = s.is_accepted;
        same = λ e ps here there site beside. s.same e ps here there (site_within site) (site_within beside);
      }
