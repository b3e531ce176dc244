-- Histories of the definitions' calls: the same deliveries worked on two stores, and what they tell.
use Rattle.prelude.specs.Kit.{ℕ, ◌≤◌, arith, ◌≡◌, refl, ◌∙◌, sym, subst, inl, inr, List, [], ◌∷◌, ℤ}
use Rattle.semantics.specs.Basics.{occurrences}
use Rattle.semantics.specs.Syntax.{Script}
use Rattle.semantics.specs.Words.{cells_in}
use Rattle.semantics.specs.Calls.{accepted, judged, number_of, StoreReply, engine_open, engine_deliver}
use Rattle.semantics.specs.Demands.{Call, InTurn, defined}
use Rattle.semantics.specs.Larger.{Twice, pairs_of, calls_first, calls_second, BudgetsGrow, NeverSpent}
use Rattle.laws.specs.Lists.{hits}
use Rattle.laws.specs.Files.{same_script}
use Rattle.soundness.proofs.saved.Stories.{numbers_of, never_dry, Shown, shown_here, shown_there, same_shown}
use Rattle.larger.proofs.Larger.{larger}
use Rattle.larger.proofs.Plans.{Planned, PlanGrows}

-- ---- worked

-- lent a file and two code arrays
module _ (file kinds : List ℕ) (operands : List ℤ) where
  abbrev replied : List ℤ → List ℕ → List ℤ → ℕ → StoreReply
  replied slots heads readings budget = engine_deliver file kinds operands slots heads readings budget

  unfoldable pub worked_twice : List Planned → List ℤ → List ℕ → List ℤ → List ℕ → List Twice
  worked_twice [] slots heads slots' heads' = []
  worked_twice (x ∷ xs) slots heads slots' heads' =
      let r = replied slots heads x.readings x.budget in
      let q = replied slots' heads' x.readings x.more in
      record {
        pair = record {
          lent = record { kinds = kinds; operands = operands; readings = x.readings; budget = x.budget };
          reply = r;
          other = q;
        };
        budget = x.more;
      } ∷ worked_twice xs r.slots r.heads q.slots q.heads

  first_turns : (xs : List Planned) (slots : List ℤ) (heads : List ℕ) (slots' : List ℤ) (heads' : List ℕ) →
      InTurn (defined.delivers file) slots heads (calls_first (worked_twice xs slots heads slots' heads'))
  unfolding worked_twice defined
  first_turns [] slots heads slots' heads' = tt
  first_turns (x ∷ xs) slots heads slots' heads' = (refl, first_turns xs _ _ _ _)

  second_turns : (xs : List Planned) (slots : List ℤ) (heads : List ℕ) (slots' : List ℤ) (heads' : List ℕ) →
      InTurn (defined.delivers file) slots' heads' (calls_second (worked_twice xs slots heads slots' heads'))
  unfolding worked_twice defined
  second_turns [] slots heads slots' heads' = tt
  second_turns (x ∷ xs) slots heads slots' heads' = (refl, second_turns xs _ _ _ _)

  budgets_grow : (xs : List Planned) (slots : List ℤ) (heads : List ℕ) (slots' : List ℤ) (heads' : List ℕ) →
      PlanGrows xs → BudgetsGrow (worked_twice xs slots heads slots' heads')
  unfolding worked_twice
  budgets_grow [] slots heads slots' heads' h = tt
  budgets_grow (x ∷ xs) slots heads slots' heads' h = (h.0, (h.1.0, budgets_grow xs _ _ _ _ h.1.1))

-- ---- a number that is never answered

never_spent : (cs : List Call) → occurrences 21 (numbers_of cs) ≡ 0 → NeverSpent cs
unfolding occurrences
never_spent [] h = tt
never_spent (c ∷ cs) h = elim (hits 21 (number_of c.reply.answer)) [
  | inl g ↦ absurd (omega (arith, h, g.1))
  | inr g ↦ (λ e. g.0 (sym e), never_spent cs (omega (arith, h)))
]

-- ---- what a history shows

-- on the first store, and on the second
abbrev pub shown_first : Script → List Twice → List Shown
shown_first fs ts = shown_here fs (pairs_of ts)

abbrev pub shown_second : Script → List Twice → List Shown
shown_second fs ts = shown_there fs (pairs_of ts)

-- ---- the theorem at a history

-- a file, the arrays of two openings with answer 0, the second of at least as many cells, and deliveries of which none
-- is answered 25 or 21 on the first
module _ (file kinds : List ℕ) (operands slots : List ℤ) (heads : List ℕ) (slots' : List ℤ) (heads' : List ℕ)
    (xs : List Planned) where
  abbrev first : StoreReply
  first = engine_open file kinds operands slots heads

  abbrev second : StoreReply
  second = engine_open file kinds operands slots' heads'

  abbrev pub history : List Twice
  history = worked_twice file kinds operands xs first.slots first.heads second.slots second.heads

  pub same_history : (fs : Script) → judged file ≡ accepted fs → number_of first.answer ≡ 0 →
      number_of second.answer ≡ 0 → cells_in slots heads ≤ cells_in slots' heads' → PlanGrows xs →
      occurrences 25 (numbers_of (calls_first history)) ≡ 0 → occurrences 21 (numbers_of (calls_first history)) ≡ 0 →
      shown_second fs history ≡ shown_first fs history
  unfolding defined
  same_history fs ok z z' more rise f g =
      let s = larger file kinds operands slots heads first refl z kinds operands slots' heads' second refl z' more in
      let story = s.same history
      (first_turns file kinds operands xs first.slots first.heads second.slots second.heads)
      (second_turns file kinds operands xs first.slots first.heads second.slots second.heads)
      (budgets_grow file kinds operands xs first.slots first.heads second.slots second.heads rise)
      (never_dry (calls_first history) f) (never_spent (calls_first history) g) in
      subst (λ (gs : Script). shown_second gs history ≡ shown_first gs history)
      (same_script (sym s.is_accepted ∙ ok)) (same_shown s.script (pairs_of history) first second story)
