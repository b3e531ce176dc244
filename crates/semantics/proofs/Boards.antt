-- What the statements of order 4 fix, at engines made of two boards: at a site that is swapped between its deliveries
-- and after them they leave no choice of the restored value, nor of the number, the steps and the value of a delivery
-- on the other board. With the right ones the swap holds.
use Rattle.std.specs.Prelude.{ℕ, Bool, cond, ◌≡◌, ◌≢◌, pos, length, replicate, eqb}
use Rattle.std.proofs.Common.{arith, ◌∙◌}
use Rattle.std.proofs.Math.Bool.{true, false}
use Rattle.std.proofs.Math.Path.{refl, sym, ap, subst}
use mathlib.Core.List.{List, [], ◌∷◌}
use Rattle.std.proofs.Math.Option.{some}
use Rattle.semantics.specs.Syntax.{Script, main_depth}
use Rattle.semantics.specs.Value.{Value, numbers}
use Rattle.semantics.specs.Calls.{packed, accepted, judged, number_of, steps_of, StoreReply}
use Rattle.semantics.specs.Ledger.{Delivery}
use Rattle.semantics.specs.Demands.{Call}
use Rattle.semantics.specs.Saved.{read_saved}
use Rattle.semantics.specs.SaveCalls.{SaveReply}
use Rattle.semantics.specs.Swap.{SavingEngine, Restored, Begins, by_open, by_restore, Swapped, Site, rests}
use Rattle.semantics.specs.Swap.{works, swaps, Running, Pair, calls_here, calls_there, value_in, SameStory, Swap}
use Rattle.semantics.specs.Computing.{computing}

-- ---- two boards

-- an answer and the totals {k}: a store of one cell, and one of two
unfoldable pub one_cell : ℕ → ℕ → StoreReply
one_cell answer k = record {
  answer = answer;
  kinds = [];
  operands = [];
  slots = pos 0 ∷ pos k ∷ replicate 15 (pos 0);
  heads = 1 ∷ 1 ∷ 1 ∷ 0 ∷ 0 ∷ [];
}

unfoldable pub two_cells : ℕ → ℕ → StoreReply
two_cells answer k = record {
  answer = answer;
  kinds = [];
  operands = [];
  slots = pos 0 ∷ pos k ∷ replicate 31 (pos 0);
  heads = 1 ∷ 1 ∷ 1 ∷ 0 ∷ 0 ∷ 0 ∷ 0 ∷ 0 ∷ 2 ∷ [];
}

-- done, after 4 steps, with one cell taken
abbrev pub done_in_4 : ℕ
done_in_4 = packed 0 0 4 1

-- every save answers 0
unfoldable pub save_reply : SaveReply
save_reply = record { answer = 0; kinds = []; operands = []; slots = []; heads = []; saved = [] }

abbrev pub delivery : Delivery
delivery = record { kinds = []; operands = []; readings = []; budget = 1000 }

-- ---- their values

-- a file is accepted as one script, and what is read is one value
same_depth : (file : List ℕ) (fs gs : Script) → judged file ≡ accepted fs → main_depth fs ≡ 1 →
    judged file ≡ accepted gs → main_depth gs ≡ 1
same_depth file fs gs ok flat other =
    let both = sym other ∙ ok in
    let z : gs ≡ fs = cc in
    ap main_depth z ∙ flat

some_one : {v w : Value} → some v ≡ some w → v ≡ w
some_one e = cc

module _ (fs : Script) (flat : main_depth fs ≡ 1) (answer k : ℕ) where
  one_value : value_in fs (one_cell answer k) ≡ numbers (pos k ∷ [])
  unfolding computing one_cell
  one_value = rw flat refl

  two_value : value_in fs (two_cells answer k) ≡ numbers (pos k ∷ [])
  unfolding computing two_cells
  two_value = rw flat refl

done_not_dry : number_of (one_cell done_in_4 7).answer ≢ 25
unfolding one_cell packed
done_not_dry h = omega (arith, h)

-- ---- the engine

-- For one file: it opens one cell with the totals {7}, restores {m} into two cells, and delivers on one cell with done
-- after 4 steps and {7}, on two with some answer and {k}.
module _ (file : List ℕ) (m answer k : ℕ) where
  abbrev reply_on : Bool → StoreReply
  reply_on one = cond one (one_cell done_in_4 7) (two_cells answer k)

  unfoldable pub boards : SavingEngine
  boards = record {
    engine = record {
      opens = λ given kinds operands slots heads r. (given ≡ file) × (r ≡ one_cell 0 7);
      delivers = λ given slots heads δ r. r ≡ reply_on (eqb (length heads) 5);
    };
    saves = λ given kinds operands slots heads buffer r. r ≡ save_reply;
    restores = λ given kinds operands slots heads saved r. (given ≡ file) × (r ≡ two_cells 0 m);
  }

  -- ---- a site that is swapped after its first delivery and after its second

  abbrev pairs : List Pair
  pairs =
      record { lent = delivery; reply = one_cell done_in_4 7; other = one_cell done_in_4 7 } ∷
      record { lent = delivery; reply = one_cell done_in_4 7; other = two_cells answer k } ∷ []

  opened : Running boards file (one_cell 0 7)
  unfolding boards one_cell
  opened = record { start = one_cell 0 7; begins = by_open [] [] [] [] (refl, refl) refl; before = []; ran = rests }

  swapped : (old : StoreReply) → Swapped boards file old (two_cells 0 m)
  unfolding boards save_reply two_cells
  swapped old = record {
    kinds = [];
    operands = [];
    buffer = [];
    saving = save_reply;
    saves = refl;
    saved = refl;
    kinds' = [];
    operands' = [];
    slots' = [];
    heads' = [];
    restores = (refl, refl);
    restored = refl;
  }

  never_swapped : Site boards file (one_cell 0 7) (calls_here pairs) (one_cell done_in_4 7)
  unfolding boards one_cell
  never_swapped = works refl (works refl rests)

  swapped_twice : Site boards file (one_cell 0 7) (calls_there pairs) (two_cells 0 m)
  unfolding boards one_cell two_cells
  swapped_twice = works refl (swaps (swapped _) (works refl (swaps (swapped _) rests)))

  -- what the swap fixes
  pub record SwapFixed : Type 0 where
    pub restored : numbers (pos m ∷ []) ≡ numbers (pos 7 ∷ [])
    pub number : number_of answer ≡ 0
    pub steps : steps_of answer ≡ 4
    pub value : numbers (pos k ∷ []) ≡ numbers (pos 7 ∷ [])

  -- For a file whose script has totals of depth 1, and every answer but 25.
  pub swap_fixes : (fs : Script) → judged file ≡ accepted fs → main_depth fs ≡ 1 → Swap boards →
      number_of answer ≢ 25 → SwapFixed
  unfolding one_cell two_cells packed
  swap_fixes fs ok flat whole not_dry =
      let a = whole file (one_cell 0 7) (one_cell 0 7) opened opened in
      let depth = same_depth file fs a.script ok flat a.is_accepted in
      let s = a.same refl pairs (one_cell done_in_4 7) (two_cells 0 m) never_swapped swapped_twice
      (done_not_dry, (done_not_dry, tt)) (done_not_dry, (not_dry, tt)) in
      let after = s.0.1.1.1.1 in
      record {
        restored = sym (two_value a.script depth 0 m) ∙ s.1 ∙ one_value a.script depth done_in_4 7;
        number = after.0;
        steps = after.1.0;
        value = sym (two_value a.script depth answer k) ∙ after.1.1 ∙ one_value a.script depth done_in_4 7;
      }

-- ---- the right ones

module _ (file : List ℕ) (fs : Script) (ok : judged file ≡ accepted fs) (flat : main_depth fs ≡ 1) where
  abbrev right : SavingEngine
  right = boards file 7 done_in_4 7

  abbrev Seven : StoreReply → Type 0
  Seven r = value_in fs r ≡ numbers (pos 7 ∷ [])

  -- what every delivery tells
  record Tells (r : StoreReply) : Type 0 where
    number : number_of r.answer ≡ 0
    steps : steps_of r.answer ≡ 4
    value : Seven r

  tells : (one : Bool) → Tells (reply_on file 7 done_in_4 7 one)
  unfolding one_cell two_cells packed
  tells true = record { number = refl; steps = refl; value = one_value fs flat done_in_4 7 }
  tells false = record { number = refl; steps = refl; value = two_value fs flat done_in_4 7 }

  swap_seven : {given : List ℕ} {old new : StoreReply} → Swapped right given old new → Seven new
  unfolding boards
  swap_seven w = subst Seven (sym w.restores.1) (two_value fs flat 0 7)

  idle_seven : {given : List ℕ} {r last : StoreReply} → Seven r → Site right given r [] last → Seven last
  idle_seven s rests = s
  idle_seven s (swaps w rest) = idle_seven (swap_seven w) rest

  -- the next delivery of a site, and the rest
  record Next (given : List ℕ) (c : Call) (cs : List Call) (last : StoreReply) : Type 0 where
    told : Tells c.reply
    rest : Site right given c.reply cs last

  next : {given : List ℕ} {r last : StoreReply} {c : Call} {cs : List Call} → Site right given r (c ∷ cs) last →
      Next given c cs last
  unfolding boards
  next {r = r} (works called rest) = record {
    told = subst Tells (sym called) (tells (eqb (length r.heads) 5));
    rest = rest;
  }
  next (swaps w rest) = next rest

  same_story : {given : List ℕ} (ps : List Pair) {r q here there : StoreReply} → Seven r → Seven q →
      Site right given r (calls_here ps) here → Site right given q (calls_there ps) there →
      SameStory fs r q ps × (value_in fs there ≡ value_in fs here)
  same_story [] s t one other = (t ∙ sym s, idle_seven t other ∙ sym (idle_seven s one))
  same_story (p ∷ ps) s t one other =
      let n = next one in
      let m = next other in
      let rest = same_story ps n.told.value m.told.value n.rest m.rest in
      ((t ∙ sym s, (m.told.number ∙ sym n.told.number, (m.told.steps ∙ sym n.told.steps, rest.0))), rest.1)

  site_seven : {given : List ℕ} (cs : List Call) {r last : StoreReply} → Seven r → Site right given r cs last →
      Seven last
  site_seven [] s site = idle_seven s site
  site_seven (c ∷ cs) s site = let n = next site in site_seven cs n.told.value n.rest

  begun : {given : List ℕ} {r : StoreReply} → Begins right given r → (given ≡ file) × Seven r
  unfolding boards
  begun (by_open kinds operands slots heads called answered) =
      (called.0, subst Seven (sym called.1) (one_value fs flat 0 7))
  begun (by_restore kinds operands slots heads saved called answered) =
      (called.0, subst Seven (sym called.1) (two_value fs flat 0 7))

  pub right_boards : Swap right
  right_boards given old new one other =
      let b = begun one.begins in
      let c = begun other.begins in
      record {
        script = fs;
        is_accepted = ap judged b.0 ∙ ok;
        same = λ e ps here there site beside f g. same_story ps (site_seven one.before b.1 one.ran)
            (site_seven other.before c.1 other.ran) site beside;
      }

-- ---- a restore

-- of one file and one saved file: the totals {m} in two cells
module _ (file saved : List ℕ) (m : ℕ) where
  unfoldable pub restoring : SavingEngine
  restoring = record {
    engine = record { opens = λ given kinds operands slots heads r. ⊥; delivers = λ given slots heads δ r. ⊥ };
    saves = λ given kinds operands slots heads buffer r. ⊥;
    restores = λ given kinds operands slots heads bytes r. (given ≡ file) × ((bytes ≡ saved) × (r ≡ two_cells 0 m));
  }

  -- The restored value is that of the saved file.
  pub restore_fixes : (fs : Script) → judged file ≡ accepted fs → main_depth fs ≡ 1 → Restored restoring →
      (v : Value) → read_saved 1 saved ≡ some v → numbers (pos m ∷ []) ≡ v
  unfolding restoring two_cells
  restore_fixes fs ok flat whole v is_read =
      let c = whole file [] [] [] [] saved (two_cells 0 m) (refl, (refl, refl)) refl in
      let depth = same_depth file fs c.script ok flat c.is_accepted in
      let one : some c.value ≡ some v =
      sym c.is_read ∙ ap (λ (d : ℕ). read_saved d saved) depth ∙ is_read in
      sym (two_value c.script depth 0 m) ∙ (c.keeps [] tt).totals ∙ some_one one
