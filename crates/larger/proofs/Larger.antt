-- Order 9 of document 02: over every list of deliveries from two openings, the larger store and the larger budgets tell
-- the same story, while the smaller store never answers 25 and its budgets never 21.
use Rattle.prelude.specs.Kit.{ℕ, ◌≤◌, ◌+◌, ◌-◌, arith, true, false, Bool, ◌≡◌, refl, ◌∙◌, sym, ap, subst, List, [], ◌∷◌}
use Rattle.prelude.specs.Kit.{ℤ}
use Rattle.semantics.specs.Syntax.{Script, main_depth}
use Rattle.semantics.specs.Value.{Value, first_totals}
use Rattle.semantics.specs.Store.{Store, opened}
use Rattle.semantics.specs.Words.{store_of, cells_in, shaped}
use Rattle.semantics.specs.Calls.{number_of, accepted, judged, room, code_fits, StoreReply, refusing, answering}
use Rattle.semantics.specs.Calls.{open_for, engine_open}
use Rattle.semantics.specs.Demands.{Engine, InTurn, defined, value_of}
use Rattle.semantics.specs.Swap.{NeverDry, value_in, SameStory}
use Rattle.semantics.specs.Larger.{Twice, pairs_of, calls_first, calls_second, BudgetsGrow, NeverSpent, Larger}
use Rattle.soundness.proofs.Settled.{opened_settles, settled_words}
use Rattle.soundness.proofs.annotation.Accepting.{main_shape_of}
use Rattle.soundness.proofs.Step.{Standing}
use Rattle.soundness.proofs.Demand3.{few_cells, some_cells, no_refusal, admitted_is, opening_stands, open_accepts}
use Rattle.soundness.proofs.Demand3.{OpensWithin, DeliversWithin, turn_within}
use Rattle.larger.proofs.Extended.{extended}
use Rattle.larger.proofs.Stores.{extended_value, extended_opened}
use Rattle.larger.proofs.Deliveries.{ExtendedIn, here, there, one_on_both}

-- ---- the list

-- the totals of a store and of its extension have one value
same_value : (fs : Script) (cells : ℕ) (r q : StoreReply) → ExtendedIn cells r q → value_in fs q ≡ value_in fs r
unfolding extended
same_value fs cells r q e =
    let σ = store_of r.slots r.heads in
    ap (λ (τ : Store). value_of τ (main_depth fs) τ.totals) e ∙ extended_value cells σ (main_depth fs) σ.totals

module _ (file : List ℕ) (fs : Script) (ok : judged file ≡ accepted fs) (cells : ℕ) where
  pub same_story : (ts : List Twice) (r q : StoreReply) (v w : Value) → Standing fs r.slots r.heads v →
      Standing fs q.slots q.heads w → ExtendedIn cells r q →
      InTurn (defined.delivers file) r.slots r.heads (calls_first ts) →
      InTurn (defined.delivers file) q.slots q.heads (calls_second ts) → BudgetsGrow ts →
      NeverDry (calls_first ts) → NeverSpent (calls_first ts) → SameStory fs r q (pairs_of ts)
  same_story [] r q v w hr hq e tr tq grow f g = same_value fs cells r q e
  same_story (t ∷ ts) r q v w hr hq e tr tq grow f g =
      let δ = t.pair.lent in
      let b = t.budget in
      let p = t.pair.reply in
      let o = t.pair.other in
      let one = one_on_both file fs ok cells r q v w hr hq e δ b grow.0 grow.1.0 p o tr.0 tq.0 f.0
      g.0 in (
        same_value fs cells r q e,
        (
          one.number,
          (
            one.steps,
            same_story ts p o _ _
                (here file fs ok cells r q v w hr hq e δ b grow.0 grow.1.0 p o tr.0 tq.0).stands
                (there file fs ok cells r q v w hr hq e δ b grow.0 grow.1.0 p o tr.0 tq.0).stands
                one.stores tr.1 tq.1 grow.1.1 f.1 g.1,
          ),
        ),
      )

-- ---- the openings

-- what an opening with answer 0 leaves
pub record Opened (fs : Script) (slots : List ℤ) (heads : List ℕ) (r : StoreReply) : Type 0 where
  pub some : 1 ≤ cells_in slots heads
  pub store : store_of r.slots r.heads ≡ opened (cells_in slots heads) (main_depth fs)
  pub stands : Standing fs r.slots r.heads (first_totals (main_depth fs))

module _ (file : List ℕ) (fs : Script) (ok : judged file ≡ accepted fs) (kinds : List ℕ) (operands slots : List ℤ)
    (heads : List ℕ) where
  abbrev opening : StoreReply
  opening = engine_open file kinds operands slots heads

  opening_leaves : number_of opening.answer ≡ 0 →
      (1 ≤ cells_in slots heads)
      × (store_of opening.slots opening.heads ≡ opened (cells_in slots heads) (main_depth fs))
  unfolding engine_open open_for refusing answering
  opening_leaves = by (code_fits fs (room kinds operands)) refl (shaped slots heads) refl
    where
      by : (a : Bool) → code_fits fs (room kinds operands) ≡ a → (b : Bool) → shaped slots heads ≡ b →
          number_of opening.answer ≡ 0 →
          (1 ≤ cells_in slots heads)
          × (store_of opening.slots opening.heads ≡ opened (cells_in slots heads) (main_depth fs))
      by false e b f =
          rw (admitted_is file fs ok (room kinds operands), e) (λ z. no_refusal 9 0 (omega arith) (omega arith) z)
      by true e false f =
          rw (admitted_is file fs ok (room kinds operands), e, f) (λ z. no_refusal 11 0 (omega arith) (omega arith) z)
      by true e true f =
          let some = some_cells slots heads f in
          let settled = opened_settles (cells_in slots heads) (main_depth fs) some (few_cells slots heads)
          (main_shape_of file fs ok).1 in
          rw (admitted_is file fs ok (room kinds operands), e, f) (λ z. (some, settled_words settled))

  pub opening_opened : (r : StoreReply) → defined.opens file kinds operands slots heads r →
      number_of r.answer ≡ 0 → Opened fs slots heads r
  unfolding defined
  opening_opened r called answered =
      let z = subst (λ s. number_of s.answer ≡ 0) called answered in
      let l = opening_leaves z in
      subst (λ s. Opened fs slots heads s) (sym called) (record {
        some = l.0;
        store = l.1;
        stands = opening_stands file fs ok kinds operands slots heads z;
      })

-- ---- the theorem

pub larger : Larger defined
unfolding defined
larger file kinds operands slots heads first called answered kinds' operands' slots' heads' second called' answered'
    more =
    let a = open_accepts file kinds operands slots heads (subst (λ r. number_of r.answer ≡ 0) called answered) in
    let fs = a.script in
    let ok = a.so in
    let o = opening_opened file fs ok kinds operands slots heads first called answered in
    let o' = opening_opened file fs ok kinds' operands' slots' heads' second called' answered' in
    let n = cells_in slots heads in
    let k = cells_in slots' heads' - n in
    let size : cells_in slots' heads' ≡ n + k = omega (arith, more) in
    let extends = o'.store ∙ ap (λ m. opened m (main_depth fs)) size
    ∙ extended_opened n k (main_depth fs) o.some ∙ ap (extended k) (sym o.store) in
    record {
      script = fs;
      is_accepted = ok;
      same = λ ts tr tq grow f g. same_story file fs ok k ts first second (first_totals (main_depth fs))
          (first_totals (main_depth fs)) o.stands o'.stands extends tr tq grow f g;
    }

-- and so of every engine whose calls are among those of another of which it holds
pub larger_within : {E F : Engine} → OpensWithin E F → DeliversWithin E F → Larger F → Larger E
larger_within {E} {F} opens delivers whole file kinds operands slots heads first called answered kinds' operands' slots'
    heads' second called' answered' more =
    let s = whole file kinds operands slots heads first (opens file kinds operands slots heads first called) answered
    kinds' operands' slots' heads' second (opens file kinds' operands' slots' heads' second called') answered' more in
    record {
      script = s.script;
      is_accepted = s.is_accepted;
      same = λ ts tr tq. s.same ts (turn_within E F delivers file (calls_first ts) first.slots first.heads tr)
          (turn_within E F delivers file (calls_second ts) second.slots second.heads tq);
    }
