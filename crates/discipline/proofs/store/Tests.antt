-- The parts of the test of refusal 11, each with what it says of the store.
use Rattle.prelude.specs.Kit.{ℕ, ◌≤◌, ◌+◌, ◌<◌, ◌-◌, suc, zero, arith, ℕ_discrete, true, false, Bool, ◌&&◌, ◌||◌, ◌≡◌}
use Rattle.prelude.specs.Kit.{refl, ◌∙◌, sym, ap, inl, inr, List, [], eqb, ltb, leb, ℤ, pos, negsuc, length, get_or}
use Rattle.prelude.specs.Kit.{ext_get_or, lt-ltb, eq-eqb, eqb-true, ltb-true, leb-true, le-leb}
use Rattle.semantics.specs.Basics.{tabulate, all, occurrences}
use Rattle.semantics.specs.Number.{is_zero}
use Rattle.semantics.specs.Store.{Cell, Store, cell, cell_of, cell_count, clear, padded}
use Rattle.semantics.specs.Sound.{zeros_from, names_used, all_used, elements_used, formed_as, formed, places, counted}
use Rattle.semantics.specs.Sound.{totals_used}
use Rattle.laws.specs.Tests.{both_hold, say_and, or_cases}
use Rattle.discipline.proofs.store.Invariant.{Tidy}
use Rattle.discipline.proofs.store.Cells.{in_range}
use Rattle.discipline.proofs.store.Tabulate.{padded_length, padded_at}

-- ---- a test of all numbers in a range

pub all_says : (f : ℕ → Bool) (n i : ℕ) → all f i n ≡ true → (c : ℕ) → i ≤ c → c < i + n → f c ≡ true
unfolding all
all_says f zero i e c h l = absurd (omega arith)
all_says f (suc n) i e c h l =
    let a = both_hold (f i) (all f (suc i) n) e in
    elim (ℕ_discrete c i) [
      | yes q ↦ ap f q ∙ a.0
      | no q ↦ all_says f n (suc i) a.1 c (omega (arith, q)) (omega arith)
    ]

pub say_all : (f : ℕ → Bool) (n i : ℕ) → ((c : ℕ) → i ≤ c → c < i + n → f c ≡ true) → all f i n ≡ true
unfolding all
say_all f zero i h = refl
say_all f (suc n) i h =
    say_and (f i) (all f (suc i) n) (h i (omega arith) (omega arith))
    (say_all f n (suc i) (λ c a b. h c (omega arith) (omega arith)))

-- ---- words

zero_says : (w : ℤ) → is_zero w ≡ true → w ≡ pos 0
zero_says (pos zero) e = refl
zero_says (pos (suc n)) e = let z : ◌≡◌ {A = ℕ} 0 1 = cc in absurd (omega arith)
zero_says (negsuc n) e = let z : ◌≡◌ {A = ℕ} 0 1 = cc in absurd (omega arith)

say_zero : (w : ℤ) → w ≡ pos 0 → is_zero w ≡ true
say_zero w e = ap is_zero e

zeros_say : (ws : List ℤ) (k : ℕ) → zeros_from ws k ≡ true → (i : ℕ) → k ≤ i → i < 16 → get_or ws i (pos 0) ≡ pos 0
unfolding zeros_from
zeros_say ws k e i h l =
    zero_says (get_or ws i (pos 0)) (all_says (λ j. is_zero (get_or ws j (pos 0))) (16 - k) k e i h (omega arith))

say_zeros : (ws : List ℤ) (k : ℕ) → ((i : ℕ) → k ≤ i → i < 16 → get_or ws i (pos 0) ≡ pos 0) → zeros_from ws k ≡ true
unfolding zeros_from
say_zeros ws k f =
    say_all (λ j. is_zero (get_or ws j (pos 0))) (16 - k) k (λ i h l. say_zero (get_or ws i (pos 0)) (f i h (omega arith)))

-- a cell in use, of this element depth
pub record Used (σ : Store) (d c : ℕ) : Type 0 where
  pub count : 0 < (cell σ c).count
  pub depth : (cell σ c).depth ≡ d

names_say : (σ : Store) (d : ℕ) (w : ℤ) → names_used σ d w ≡ true → Used σ d (cell_of w)
unfolding names_used
names_say σ d w e =
    let in_use = ltb 0 (cell σ (cell_of w)).count in
    let of_depth = eqb (cell σ (cell_of w)).depth d in
    let a = both_hold (ltb (cell_of w) (cell_count σ)) (in_use && of_depth) e in
    let b = both_hold in_use of_depth a.1 in
    record {
      count = ltb-true 0 (cell σ (cell_of w)).count b.0;
      depth = eqb-true (cell σ (cell_of w)).depth d b.1;
    }

say_names : (σ : Store) (d : ℕ) (w : ℤ) → Used σ d (cell_of w) → names_used σ d w ≡ true
unfolding names_used
say_names σ d w u =
    let in_use = ltb 0 (cell σ (cell_of w)).count in
    let of_depth = eqb (cell σ (cell_of w)).depth d in
    say_and (ltb (cell_of w) (cell_count σ)) (in_use && of_depth)
    (lt-ltb (cell_of w) (cell_count σ) (in_range σ (cell_of w) u.count))
    (say_and in_use of_depth (lt-ltb 0 (cell σ (cell_of w)).count u.count)
    (eq-eqb (cell σ (cell_of w)).depth d u.depth))

-- a word of a depth: above 0 it names a cell in use
abbrev pub Word : Store → ℕ → ℤ → Type 0
Word σ zero w = Unit {0}
Word σ (suc d) w = Used σ d (cell_of w)

words_say : (σ : Store) (d : ℕ) (ws : List ℤ) (n : ℕ) → elements_used σ d ws n ≡ true →
    (i : ℕ) → i < n → Word σ d (get_or ws i (pos 0))
unfolding all_used
words_say σ zero ws n e i h = tt
words_say σ (suc d) ws n e i h =
    names_say σ d (get_or ws i (pos 0))
    (all_says (λ j. names_used σ d (get_or ws j (pos 0))) n 0 e i (omega arith) (omega arith))

say_words : (σ : Store) (d : ℕ) (ws : List ℤ) (n : ℕ) → ((i : ℕ) → i < n → Word σ d (get_or ws i (pos 0))) →
    elements_used σ d ws n ≡ true
unfolding all_used
say_words σ zero ws n f = refl
say_words σ (suc d) ws n f =
    say_all (λ j. names_used σ d (get_or ws j (pos 0))) n 0
    (λ i h l. say_names σ d (get_or ws i (pos 0)) (f i (omega arith)))

-- ---- a cell by itself

padded_zeros : (ws : List ℤ) → length ws ≡ 16 → ((i : ℕ) → i < 16 → get_or ws i (pos 0) ≡ pos 0) → ws ≡ padded []
padded_zeros ws l f = ext_get_or (pos 0) ws (padded []) (l ∙ sym (padded_length []))
    (λ i h. f i (omega (arith, l)) ∙ sym (padded_at [] i (omega (arith, l))))

-- a free cell is clear
pub clear_says : (σ : Store) (x : Cell) → x.count ≡ 0 → length x.slots ≡ 16 → formed_as σ 0 x ≡ true →
    x ≡ clear x.next
unfolding formed_as clear
clear_says σ x z l e =
    let a = both_hold (eqb x.size 0) (eqb x.depth 0 && zeros_from x.slots 0) e in
    let b = both_hold (eqb x.depth 0) (zeros_from x.slots 0) a.1 in
    let size = eqb-true x.size 0 a.0 in
    let depth = eqb-true x.depth 0 b.0 in
    let slots = padded_zeros x.slots l (λ i h. zeros_say x.slots 0 b.1 i (omega arith) h) in
    λ i. record { count = z i; size = size i; depth = depth i; next = x.next; slots = slots i }

say_clear : (σ : Store) (n : ℕ) → formed_as σ 0 (clear n) ≡ true
unfolding formed_as clear zeros_from all padded tabulate
say_clear σ n = refl

-- a cell in use is tidy, and its words name cells in use
pub record WellFormed (σ : Store) (x : Cell) : Type 0 where
  pub tidy : Tidy x
  pub words : (i : ℕ) → i < x.size → Word σ x.depth (get_or x.slots i (pos 0))

module _ (σ : Store) (x : Cell) where
  abbrev slots_test : Bool
  slots_test = zeros_from x.slots x.size && elements_used σ x.depth x.slots x.size

  abbrev rest_test : Bool
  rest_test = leb x.depth 3 && (eqb x.next 0 && slots_test)

  pub used_says : (n : ℕ) → length x.slots ≡ 16 → formed_as σ (suc n) x ≡ true → WellFormed σ x
  unfolding formed_as
  used_says n l e =
      let a = both_hold (leb x.size 16) rest_test e in
      let b = both_hold (leb x.depth 3) (eqb x.next 0 && slots_test) a.1 in
      let c = both_hold (eqb x.next 0) slots_test b.1 in
      let d = both_hold (zeros_from x.slots x.size) (elements_used σ x.depth x.slots x.size) c.1 in
      record {
        tidy = record {
          whole = l;
          size = leb-true x.size 16 a.0;
          depth = leb-true x.depth 3 b.0;
          next = eqb-true x.next 0 c.0;
          zeros = zeros_say x.slots x.size d.0;
        };
        words = words_say σ x.depth x.slots x.size d.1;
      }

  say_used : (n : ℕ) → WellFormed σ x → formed_as σ (suc n) x ≡ true
  unfolding formed_as
  say_used n u =
      say_and (leb x.size 16) rest_test (le-leb x.size 16 u.tidy.size)
      (say_and (leb x.depth 3) (eqb x.next 0 && slots_test) (le-leb x.depth 3 u.tidy.depth)
      (say_and (eqb x.next 0) slots_test (eq-eqb x.next 0 u.tidy.next)
      (say_and (zeros_from x.slots x.size) (elements_used σ x.depth x.slots x.size)
      (say_zeros x.slots x.size u.tidy.zeros) (say_words σ x.depth x.slots x.size u.words))))

pub formed_says : (σ : Store) (c n : ℕ) → (cell σ c).count ≡ n → formed σ c ≡ true → formed_as σ n (cell σ c) ≡ true
unfolding formed
formed_says σ c n q e = ap (λ (m : ℕ). formed_as σ m (cell σ c)) (sym q) ∙ e

pub say_formed : (σ : Store) (c : ℕ) → ((cell σ c).count ≡ 0 → cell σ c ≡ clear (cell σ c).next) →
    (0 < (cell σ c).count → WellFormed σ (cell σ c)) → formed σ c ≡ true
unfolding formed
say_formed σ c f u = go (cell σ c).count refl
  where
    go : (n : ℕ) → (cell σ c).count ≡ n → formed_as σ n (cell σ c) ≡ true
    go zero q = ap (formed_as σ 0) (f q) ∙ say_clear σ (cell σ c).next
    go (suc n) q = say_used σ (cell σ c) n (u (omega arith))

-- ---- totals and counts

pub totals_say : (d : ℕ) (σ : Store) → totals_used d σ ≡ true → Word σ d σ.totals
totals_say zero σ e = tt
totals_say (suc d) σ e = names_say σ d σ.totals e

pub say_totals : (d : ℕ) (σ : Store) → Word σ d σ.totals → totals_used d σ ≡ true
say_totals zero σ w = refl
say_totals (suc d) σ w = say_names σ d σ.totals w

pub count_says : (d : ℕ) (σ : Store) (c : ℕ) → counted d σ c ≡ true → 0 < (cell σ c).count →
    (cell σ c).count ≡ occurrences c (places d σ)
unfolding counted
count_says d σ c e h =
    elim (or_cases (eqb (cell σ c).count 0) (eqb (cell σ c).count (occurrences c (places d σ))) e) [
      | inl q ↦ absurd (omega (arith, eqb-true (cell σ c).count 0 q))
      | inr q ↦ eqb-true (cell σ c).count (occurrences c (places d σ)) q
    ]

pub say_count : (d : ℕ) (σ : Store) (c : ℕ) → (cell σ c).count ≡ occurrences c (places d σ) → counted d σ c ≡ true
unfolding counted
say_count d σ c e = go (eqb (cell σ c).count 0)
  where
    go : (t : Bool) → t || eqb (cell σ c).count (occurrences c (places d σ)) ≡ true
    go true = refl
    go false = eq-eqb (cell σ c).count (occurrences c (places d σ)) e
