-- One law for each way out of a call.
use Rattle.prelude.specs.Kit.{ℕ, ◌≤◌, ◌<◌, arith, true, false, Bool, cond, ◌≡◌, refl, ◌∙◌, sym, ap, List, ℤ}
use Rattle.prelude.specs.Kit.{pos, length, replicate, take, length-take, leb-true}
use Rattle.std.specs.Prelude.{Result, Ok, Err}
use Rattle.answers.specs.Numbers.{number_of}
use Rattle.answers.specs.declared.Refusal.TheVariants.{UnsoundStore, BadRequest}
use Rattle.semantics.specs.Syntax.{Script, main_depth}
use Rattle.semantics.specs.Annotate.{code}
use Rattle.semantics.specs.Store.{opened}
use Rattle.semantics.specs.Words.{store_of, cells_in, shaped}
use Rattle.semantics.specs.Sound.{sound_words}
use Rattle.semantics.specs.Calls.{Verdict, accepted, refused, packed, admitted, room, code_kinds, code_operands}
use Rattle.semantics.specs.Calls.{StoreReply, translated, refusing, answering, open_for, check_for, judged}
use Rattle.semantics.specs.Calls.{admitted_if, code_fits}
use Rattle.semantics.specs.Calls.{engine_translate, request_fits, deliver_in, deliver_for}
use Rattle.semantics.specs.Machine.{program, program_in, delivered}
use Rattle.soundness.proofs.annotation.Accepting.{main_shape_of}
use Rattle.machine_code.specs.Reading.{Cut}
use Rattle.machine_spec.specs.Machine as M
use Rattle.machine_spec.specs.Delivery.{Performs}
use Rattle.machine_laws.specs.Script.{Coded, code_some, deliver_accepted}
use Rattle.call_store.specs.Left.{Ended, StoreLeft, left, left_by, opened_left, checked_left, SmallAnswer}
use Rattle.call_deliver.specs.Delivered.{left_of, delivered_left}
use Rattle.call_load.specs.declared.Ready.{Ready}
use Rattle.call_load.specs.Loading.{ready_with, told_load, kinds_after, operands_after, Loads}
use Rattle.engine.specs.Promises.{Translates, Replies}
use Rattle.call_store.specs.Told.{Tells}
use Rattle.call_store.proofs.Laws.{packed_counts}

-- the numbers of a script that is ready
abbrev lines_of : Result Ready ℕ → ℕ
lines_of (Ok r) = r.lines
lines_of (Err a) = 0

abbrev pub depth_of : Result Ready ℕ → ℕ
depth_of (Ok r) = r.depth
depth_of (Err a) = 0

-- ---- translate

translated_by : (verdict : Verdict) (kinds : List ℕ) (operands : List ℤ) (l d : ℕ) →
    ready_with l d ≡ told_load verdict →
    record { answer = packed 0 0 l 0; kinds = kinds_after verdict kinds; operands = operands_after verdict operands }
    ≡ translated verdict kinds operands
unfolding translated
translated_by (accepted fs) kinds operands l d e = let same : l ≡ length (code fs) = ap lines_of e in rw same
translated_by (refused n p) kinds operands l d e = absurd (let z : ◌≡◌ {A = ℕ} 0 1 = cc in omega arith)

pub translates : {file kinds : List ℕ} {operands : List ℤ} {l d : ℕ} {kinds' : List ℕ} {operands' : List ℤ} →
    Loads file kinds operands (ready_with l d) kinds' operands' →
    Translates (engine_translate file kinds operands) (packed 0 0 l 0) kinds' operands'
unfolding engine_translate
translates {file} {kinds} {operands} {l} {d} h = rw (h.kinds_are, h.operands_are)
    (translated_by (admitted file (room kinds operands)) kinds operands l d h.is)

-- a refusal zeroes both arrays
refused_by : (verdict : Verdict) (kinds : List ℕ) (operands : List ℤ) (a : ℕ) → Err a ≡ told_load verdict →
    record { answer = a; kinds = kinds_after verdict kinds; operands = operands_after verdict operands }
    ≡ translated verdict kinds operands
unfolding translated
refused_by (accepted fs) kinds operands a e = absurd (let z : ◌≡◌ {A = ℕ} 0 1 = cc in omega arith)
refused_by (refused n p) kinds operands a e = let same : a ≡ packed n p 0 0 = cc in rw same

pub translates_not : {file kinds : List ℕ} {operands : List ℤ} {a : ℕ} {kinds' : List ℕ} {operands' : List ℤ} →
    Loads file kinds operands (Err a) kinds' operands' →
    Translates (engine_translate file kinds operands) a kinds' operands'
unfolding engine_translate
translates_not {file} {kinds} {operands} {a} h = rw (h.kinds_are, h.operands_are)
    (refused_by (admitted file (room kinds operands)) kinds operands a h.is)

-- ---- calls on a store

-- the script that was loaded into so much room, with the lines of its code and main's depth
pub record LoadedScript (file : List ℕ) (space l d : ℕ) : Type 0 where
  pub script : Script
  pub judges : judged file ≡ accepted script
  pub fits : code_fits script space ≡ true
  pub lines : l ≡ length (code script)
  pub depth : d ≡ main_depth script

module _ {file kinds : List ℕ} {operands : List ℤ} {l d : ℕ} {kinds' : List ℕ} {operands' : List ℤ}
    (h : Loads file kinds operands (ready_with l d) kinds' operands') where
  pub loaded_script : LoadedScript file (room kinds operands) l d
  unfolding admitted
  loaded_script = by (judged file) refl h.is
    where
      by : (verdict : Verdict) → judged file ≡ verdict →
          ready_with l d ≡ told_load (admitted_if (room kinds operands) verdict) →
          LoadedScript file (room kinds operands) l d
      by (refused n p) q e = absurd (let z : ◌≡◌ {A = ℕ} 0 1 = cc in omega arith)
      by (accepted fs) q e = fit (code_fits fs (room kinds operands)) refl e
        where
          fit : (t : Bool) → code_fits fs (room kinds operands) ≡ t →
              ready_with l d ≡ told_load (cond t (accepted fs) (refused 9 0)) →
              LoadedScript file (room kinds operands) l d
          fit true f g = record { script = fs; judges = q; fits = f; lines = ap lines_of g; depth = ap depth_of g }
          fit false f g = absurd (let z : ◌≡◌ {A = ℕ} 0 1 = cc in omega arith)

  -- it has a line, and no more than there is room for
  pub lines_fit : (0 < l) × (l ≤ room kinds operands)
  unfolding code_fits
  lines_fit =
      let s = loaded_script in (
        omega (arith, s.lines, code_some file s.script s.judges),
        omega (arith, s.lines, leb-true (length (code s.script)) (room kinds operands) s.fits),
      )

  -- the arrays, cut to its lines
  pub lines_cut : length kinds' ≡ length kinds → length operands' ≡ length operands →
      Cut (take l kinds') (take l operands')
  lines_cut k o = omega (arith, k, o, lines_fit, length-take l kinds', length-take l operands')

  pub lines_are : (fs : Script) → admitted file (room kinds operands) ≡ accepted fs → l ≡ length (code fs)
  lines_are fs q = let e : ready_with l d ≡ told_load (accepted fs) = rw q at h.is in ap lines_of e

  -- its totals are of depth 4 at most
  pub shallow : d ≤ 4
  shallow = let s = loaded_script in omega (arith, s.depth, (main_shape_of file s.script s.judges).1)

module _ (kinds : List ℕ) (operands : List ℤ) where
  -- the reply for an accepted script, by what the store's part leaves
  abbrev pub reply_for : Script → StoreLeft → Ended → StoreReply
  reply_for fs l (Ok n) = record {
    answer = packed n.number n.lowest n.steps n.cells;
    kinds = code_kinds fs kinds;
    operands = code_operands fs operands;
    slots = l.slots;
    heads = l.heads;
  }
  reply_for fs l (Err refusal) = record {
    answer = packed (number_of refusal) 0 0 0;
    kinds = replicate (length kinds) 0;
    operands = replicate (length operands) (pos 0);
    slots = l.slots;
    heads = l.heads;
  }

  -- a call refuses as the verdict does, and serves an accepted script by the store's part
  pub record Serves (slots : List ℤ) (heads : List ℕ) (call : Verdict → StoreReply) (part : Script → StoreLeft) : Type 0
    where
      pub refuses : (n p : ℕ) → call (refused n p) ≡ refusing kinds operands slots heads n p
      pub serves : (fs : Script) → call (accepted fs) ≡ reply_for fs (part fs) (part fs).answer

  module _ (slots : List ℤ) (heads : List ℕ) where
    pub open_serves : Serves slots heads (open_for kinds operands slots heads)
        (λ fs. opened_left (main_depth fs) slots heads)
    unfolding open_for opened_left answering refusing
    open_serves = record { refuses = λ n p. refl; serves = λ fs. by fs (shaped slots heads) }
      where
        by : (fs : Script) (t : Bool) →
            let σ = opened (cells_in slots heads) (main_depth fs) in
            let l = cond t (left_by 0 0 0 σ) (left (Err UnsoundStore) slots heads) in
            cond t (answering kinds operands slots heads fs 0 0 0 σ) (refusing kinds operands slots heads 11 0)
            ≡ reply_for fs l l.answer
        by fs true = refl
        by fs false = refl

    pub check_serves : Serves slots heads (check_for kinds operands slots heads)
        (λ fs. checked_left (main_depth fs) slots heads)
    unfolding check_for checked_left answering refusing
    check_serves = record { refuses = λ n p. refl; serves = λ fs. by fs (sound_words (main_depth fs) slots heads) }
      where
        by : (fs : Script) (t : Bool) →
            let l = cond t (left_by 0 0 0 (store_of slots heads)) (left (Err UnsoundStore) slots heads) in
            cond t (answering kinds operands slots heads fs 0 0 0 (store_of slots heads))
            (refusing kinds operands slots heads 11 0) ≡ reply_for fs l l.answer
        by fs true = refl
        by fs false = refl

    pub deliver_serves : (readings : List ℤ) (budget : ℕ) →
        Serves slots heads (deliver_for kinds operands slots heads readings budget)
        (λ fs. delivered_left (program fs) readings budget slots heads)
    unfolding deliver_for delivered_left answering refusing program_in
    deliver_serves readings budget = record {
      refuses = λ n p. refl;
      serves = λ fs. by fs (request_fits readings budget) (sound_words (main_depth fs) slots heads);
    }
      where
        by : (fs : Script) (t u : Bool) →
            let d = delivered (program fs) readings budget (store_of slots heads) in
            let l = cond t (cond u (left_of d) (left (Err UnsoundStore) slots heads))
            (left (Err BadRequest) slots heads) in
            cond t (cond u (deliver_in kinds operands slots heads fs d) (refusing kinds operands slots heads 11 0))
            (refusing kinds operands slots heads 10 0) ≡ reply_for fs l l.answer
        by fs true true = refl
        by fs true false = refl
        by fs false u = refl

-- the code and the table of an accepted script are those of its program
pub script_performs : (file : List ℕ) (fs : Script) → judged file ≡ accepted fs → length fs ≤ 32 → (c : M.Code) →
    Coded fs c → Performs (program fs) c
unfolding program_in
script_performs file fs ok few c coded = record { same = deliver_accepted file fs ok few c coded }

pub program_depth : (fs : Script) → main_depth fs ≡ (program fs).depth
unfolding program_in
program_depth fs = refl

-- ---- the ways out of such a call

module _ {file kinds : List ℕ} {operands slots : List ℤ} {heads : List ℕ} {call : Verdict → StoreReply}
    {part : Script → StoreLeft} (s : Serves kinds operands slots heads call part) where
  -- loading refused the script
  pub replies_refused : {a : ℕ} {kinds' : List ℕ} {operands' : List ℤ} →
      Loads file kinds operands (Err a) kinds' operands' →
      Replies (call (admitted file (room kinds operands))) a kinds' operands' slots heads
  unfolding refusing
  replies_refused {a} h = rw (h.kinds_are, h.operands_are) (by (admitted file (room kinds operands)) h.is)
    where
      by : (verdict : Verdict) → Err a ≡ told_load verdict → record {
        answer = a;
        kinds = kinds_after verdict kinds;
        operands = operands_after verdict operands;
        slots = slots;
        heads = heads;
      } ≡ call verdict
      by (accepted fs) e = absurd (let z : ◌≡◌ {A = ℕ} 0 1 = cc in omega arith)
      by (refused n p) e = let same : a ≡ packed n p 0 0 = cc in rw same (sym (s.refuses n p))

  -- the store's part ended, and that was told
  module _ {l d : ℕ} {kinds' : List ℕ} {operands' : List ℤ}
      (h : Loads file kinds operands (ready_with l d) kinds' operands')
      (kinds_long : length kinds' ≡ length kinds) (operands_long : length operands' ≡ length operands)
      {a : ℕ} {kinds'' : List ℕ} {operands'' : List ℤ} {slots' : List ℤ} {heads' : List ℕ} where
    told : (fs : Script) → admitted file (room kinds operands) ≡ accepted fs → (r : Ended) → SmallAnswer r →
        Tells number_of r kinds' operands' a kinds'' operands'' →
        ◌≡◌ {A = StoreReply} (record
        { answer = a; kinds = kinds''; operands = operands''; slots = slots'; heads = heads' })
        (reply_for kinds operands fs (left r slots' heads') r)
    told fs q (Ok n) few t =
        rw (
          t.0 ∙ packed_counts n.number n.lowest n.steps n.cells few.0 few.1 few.2,
          t.1.0 ∙ rw q at h.kinds_are,
          t.1.1 ∙ rw q at h.operands_are,
        ) refl
    told fs q (Err refusal) few t = rw (t.0, t.1.0, t.1.1, kinds_long, operands_long) refl

    pub replies_told : (r : Ended) → ((fs : Script) → admitted file (room kinds operands) ≡ accepted fs →
        d ≡ main_depth fs → (left r slots' heads' ≡ part fs) × SmallAnswer r) →
        Tells number_of r kinds' operands' a kinds'' operands'' →
        Replies (call (admitted file (room kinds operands))) a kinds'' operands'' slots' heads'
    replies_told r e t = by (admitted file (room kinds operands)) refl h.is
      where
        by : (v : Verdict) → admitted file (room kinds operands) ≡ v → ready_with l d ≡ told_load v →
            ◌≡◌ {A = StoreReply} (record
            { answer = a; kinds = kinds''; operands = operands''; slots = slots'; heads = heads' })
            (call (admitted file (room kinds operands)))
        by (refused m p) q g = absurd (let z : ◌≡◌ {A = ℕ} 0 1 = cc in omega arith)
        by (accepted fs) q g =
            let same : d ≡ main_depth fs = ap depth_of g in
            told fs q r (e fs q same).1 t ∙ ap (λ x. reply_for kinds operands fs x x.answer) (e fs q same).0
            ∙ sym (s.serves fs) ∙ ap call (sym q)
