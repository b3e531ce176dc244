-- What two sites show that tell the same story: the number and the steps of each delivery, and the value after it.
use Rattle.prelude.specs.Kit.{ℕ, arith, ◌≡◌, refl, ◌∙◌, sym, ap, ap₂, inl, inr, List, [], ◌∷◌}
use Rattle.semantics.specs.Basics.{occurrences}
use Rattle.semantics.specs.Syntax.{Script}
use Rattle.semantics.specs.Value.{Value}
use Rattle.semantics.specs.Calls.{number_of, steps_of, StoreReply}
use Rattle.semantics.specs.Demands.{Call}
use Rattle.semantics.specs.Swap.{Pair, NeverDry, value_in, SameStory}
use Rattle.laws.specs.Lists.{hits}

-- ---- numbers that are never answered

abbrev pub numbers_of : List Call → List ℕ
numbers_of [] = []
numbers_of (c ∷ cs) = number_of c.reply.answer ∷ numbers_of cs

pub never_dry : (cs : List Call) → occurrences 25 (numbers_of cs) ≡ 0 → NeverDry cs
unfolding occurrences
never_dry [] h = tt
never_dry (c ∷ cs) h = elim (hits 25 (number_of c.reply.answer)) [
  | inl g ↦ absurd (omega (arith, h, g.1))
  | inr g ↦ (λ e. g.0 (sym e), never_dry cs (omega (arith, h)))
]

-- ---- what is shown

-- number, steps, and the totals' value after the delivery
pub record Shown : Type 0 where
  pub number : ℕ
  pub steps : ℕ
  pub totals : Value

abbrev pub shown : ℕ → ℕ → Value → Shown
shown n k v = record { number = n; steps = k; totals = v }

abbrev shown_by : Script → StoreReply → Shown
shown_by fs r = shown (number_of r.answer) (steps_of r.answer) (value_in fs r)

-- at the one site, and at the other
abbrev pub shown_here : Script → List Pair → List Shown
shown_here fs [] = []
shown_here fs (p ∷ ps) = shown_by fs p.reply ∷ shown_here fs ps

abbrev pub shown_there : Script → List Pair → List Shown
shown_there fs [] = []
shown_there fs (p ∷ ps) = shown_by fs p.other ∷ shown_there fs ps

same_totals : (fs : Script) (ps : List Pair) (r q : StoreReply) → SameStory fs r q ps → value_in fs q ≡ value_in fs r
same_totals fs [] r q h = h
same_totals fs (p ∷ ps) r q h = h.0

all_alike : {n m k l : ℕ} {v w : Value} → n ≡ m → k ≡ l → v ≡ w → shown n k v ≡ shown m l w
all_alike {n} {m} {k} {l} {v} {w} e f g =
    ap (λ (i : ℕ). shown i k v) e ∙ ap (λ (i : ℕ). shown m i v) f ∙ ap (λ (u : Value). shown m l u) g

-- the same story shows the same
pub same_shown : (fs : Script) (ps : List Pair) (r q : StoreReply) → SameStory fs r q ps →
    shown_there fs ps ≡ shown_here fs ps
same_shown fs [] r q h = refl
same_shown fs (p ∷ ps) r q h = ap₂ {C = List Shown} ◌∷◌ one (same_shown fs ps p.reply p.other h.1.1.1)
  where
    one : shown_by fs p.other ≡ shown_by fs p.reply
    one = all_alike h.1.0 h.1.1.0 (same_totals fs ps p.reply p.other h.1.1.1)
