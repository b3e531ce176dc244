-- Document 02, order 10: lent code judged, and the two calls that take it, as functions of all lent words. Neither
-- writes a word of the code; the code and the store are left as found by every refusal.
use Rattle.std.specs.Prelude.{ℕ, cond, List, [], ◌∷◌, map, ℤ}
use Rattle.semantics.specs.Outcome.{Outcome, done, stop}
use Rattle.semantics.specs.Store.{cells_taken}
use Rattle.semantics.specs.Words.{store_of, slot_words, head_words}
use Rattle.semantics.specs.Sound.{sound_words}
use Rattle.semantics.specs.Annotate.{NameDepths}
use Rattle.semantics.specs.Borrow.{Table, borrows}
use Rattle.semantics.specs.Machine.{Routine, Program, Delivered, delivered}
use Rattle.semantics.specs.Calls.{packed, Reply, StoreReply, request_fits}
use Rattle.semantics_lent.specs.Form.{Lent, form}
use Rattle.semantics_lent.specs.Fit.{lent_signatures, fit}
use Rattle.semantics_lent.specs.Hold.{hold}

-- ---- the judgement

unfoldable pub lent_routines : List Lent → List NameDepths → List Routine
lent_routines [] Γs = []
lent_routines (g ∷ gs) [] = []
lent_routines (g ∷ gs) (Γ ∷ Γs) =
    record { names = map (λ x. x.id) g.parameters; tree = g.tree; depths = Γ } ∷ lent_routines gs Γs

-- what is worked of lent code, for main of depth d
abbrev pub lent_program : ℕ → List Lent → List NameDepths → Table → Program
lent_program d gs Γs T = record {
  routines = lent_routines gs Γs;
  signatures = lent_signatures gs;
  borrowing = borrows T;
  depth = d;
}

-- code of so many lines, by the last test
abbrev pub judged_holds : ℕ → ℕ → List Lent → List NameDepths → Outcome ℕ Table → Outcome ℕ Program
judged_holds lines d gs Γs (done T p) = done (lent_program d gs Γs T) lines
judged_holds lines d gs Γs (stop n p) = stop n p

-- by the second
abbrev pub judged_depths : ℕ → ℕ → List Lent → Outcome ℕ (List NameDepths) → Outcome ℕ Program
judged_depths lines d gs (done Γs p) = judged_holds lines d gs Γs (hold gs Γs)
judged_depths lines d gs (stop n p) = stop n p

-- by the first
abbrev pub judged_form : ℕ → Outcome ℕ (List Lent) → Outcome ℕ Program
judged_form d (done gs lines) = judged_depths lines d gs (fit d gs)
judged_form d (stop n p) = stop n p

-- lent code for main of depth d: each of the three tests goes over the whole code before the next; its program and how
-- many lines it has, or 29 and the line at fault
unfoldable pub judged_code : List ℕ → List ℤ → ℕ → Outcome ℕ Program
judged_code kinds operands d = judged_form d (form kinds operands)

-- ---- the calls

-- the check: 0 with the lines, or 29 with the line at fault in the node's place
abbrev pub checking : Outcome ℕ Program → ℕ
checking (done P lines) = packed 0 0 lines 0
checking (stop n p) = packed n p 0 0

unfoldable pub engine_check_code : List ℕ → List ℤ → ℕ → Reply
engine_check_code kinds operands d =
    record { answer = checking (judged_code kinds operands d); kinds = kinds; operands = operands }

-- over the lent arrays
module _ (kinds : List ℕ) (operands : List ℤ) (slots : List ℤ) (heads : List ℕ) where
  -- a refusal: the code and the store as found
  unfoldable pub refusing_code : ℕ → ℕ → StoreReply
  refusing_code n p =
      record { answer = packed n p 0 0; kinds = kinds; operands = operands; slots = slots; heads = heads }

  -- a delivery that was worked: the code as found
  unfoldable pub answering_code : Delivered → StoreReply
  answering_code r = record {
    answer = packed r.number r.lowest r.steps (cells_taken r.store);
    kinds = kinds;
    operands = operands;
    slots = slot_words r.store;
    heads = head_words r.store;
  }

  -- delivering by lent code: 29, then 10, then 11, then the machine's run
  abbrev pub deliver_code_for : List ℤ → ℕ → Outcome ℕ Program → StoreReply
  deliver_code_for readings budget (done P lines) =
      cond (request_fits readings budget)
      (cond (sound_words P.depth slots heads)
      (answering_code (delivered P readings budget (store_of slots heads)))
      (refusing_code 11 0))
      (refusing_code 10 0)
  deliver_code_for readings budget (stop n p) = refusing_code n p

unfoldable pub engine_deliver_code : List ℕ → List ℤ → ℕ → List ℤ → List ℕ → List ℤ → ℕ → StoreReply
engine_deliver_code kinds operands d slots heads readings budget =
    deliver_code_for kinds operands slots heads readings budget (judged_code kinds operands d)
