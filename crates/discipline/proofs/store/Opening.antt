-- A store just opened is at rest.
use Rattle.prelude.specs.Kit.{ℕ, ◌≤◌, suc, zero, arith, dec_lt, true, ◌≡◌, refl, ◌∙◌, sym, ap, subst, List, [], ◌∷◌, ℤ}
use Rattle.prelude.specs.Kit.{pos, get_or-eq_default, replicate, length-replicate, get_or-replicate, lt-ltb}
use Rattle.semantics.specs.Basics.{occurrences, ◌∈◌}
use Rattle.semantics.specs.Value.{first_totals}
use Rattle.semantics.specs.Store.{Cell, Store, cell, cell_of, cell_count, clear, inner, named_by, filled, has_free}
use Rattle.semantics.specs.Store.{acquired, with_cell, with_first, linked, relinked, zeroed, opened}
use Rattle.semantics.specs.Sound.{all_inner}
use Rattle.semantics.specs.Demands.{value_of}
use Rattle.discipline.proofs.store.Invariant.{Invariant}
use Rattle.discipline.proofs.store.Cells.{clear_names}
use Rattle.discipline.proofs.store.Change.{Unlisted}
use Rattle.discipline.proofs.store.Acquire.{Acquires, acquire_empty}
use Rattle.discipline.proofs.store.Kept.{only}
use Rattle.discipline.proofs.store.Rest.{Rests}
use Rattle.discipline.proofs.store.Relink.{Relinks, relink}

-- ---- all cells clear

module _ (n : ℕ) where
  zeroed_cell : (c : ℕ) → cell (zeroed n) c ≡ clear 0
  unfolding cell zeroed
  zeroed_cell c = elim (dec_lt c n) [
    | yes h ↦ get_or-replicate n c (clear 0) (clear 0) h
    | no h ↦ get_or-eq_default (replicate n (clear 0)) (clear 0) (omega (arith, h, length-replicate n (clear 0)))
  ]

  zeroed_count : (c : ℕ) → (cell (zeroed n) c).count ≡ 0
  unfolding clear
  zeroed_count c = ap (λ (x : Cell). x.count) (zeroed_cell c)

  zeroed_blank : (c : ℕ) → cell (zeroed n) c ≡ clear (cell (zeroed n) c).next
  unfolding clear
  zeroed_blank c = subst (λ (x : Cell). x ≡ clear x.next) (sym (zeroed_cell c)) refl

  zeroed_inner : (c : ℕ) → inner (cell (zeroed n) c) ≡ []
  zeroed_inner c = clear_names (cell (zeroed n) c) 0 (zeroed_cell c)

  zeroed_size : cell_count (zeroed n) ≡ n
  unfolding zeroed
  zeroed_size = length-replicate n (clear 0)

clear_all_inner : (m : ℕ) → all_inner (replicate m (clear 0)) ≡ []
clear_all_inner zero = refl
clear_all_inner (suc m) = rw (clear_names (clear 0) 0 refl) (clear_all_inner m)

zeroed_unlisted : (n : ℕ) → n ≤ 256 → Unlisted (zeroed n) [] []
unfolding occurrences zeroed
zeroed_unlisted n few = record {
  few = omega (arith, zeroed_size n);
  counts = λ c. omega (arith, zeroed_count n c, ap (occurrences c) (clear_all_inner n));
  alone = λ c h. absurd (omega arith);
  typed = λ c r h. absurd (omega (arith, ap (occurrences r) (zeroed_inner n c)));
  tidy = λ c h. absurd (omega (arith, zeroed_count n c));
  blank = λ c h e. zeroed_blank n c;
}

-- ---- opened

pub record Opens (n d : ℕ) (σ : Store) : Type 0 where
  pub rests : Rests d σ
  pub value : value_of σ d σ.totals ≡ first_totals d
  pub cells : cell_count σ ≡ n

linked_zeroed : (n : ℕ) → n ≤ 256 → Relinks (zeroed n) (relinked (zeroed n)) [] []
linked_zeroed n few = relink (zeroed_unlisted n few)

-- the totals are a number: no cell is in use
open_number : (n : ℕ) → n ≤ 256 → Opens n 0 (opened n 0)
unfolding opened relinked zeroed value_of occurrences
open_number n few = record {
  rests = record { holds = (linked_zeroed n few).holds; fits = λ r h. absurd (omega arith) };
  value = refl;
  cells = (linked_zeroed n few).cells ∙ zeroed_size n;
}

-- the totals are an array: cell 0 is the empty one
module _ (n d : ℕ) (few : suc n ≤ 256) (shallow : d ≤ 3) where
  abbrev σ : Store
  σ = relinked (zeroed (suc n))

  first_is : σ.first ≡ 0
  unfolding relinked zeroed linked clear
  first_is = refl

  size_is : cell_count σ ≡ suc n
  size_is = (linked_zeroed (suc n) few).cells ∙ zeroed_size (suc n)

  some_free : has_free σ ≡ true
  unfolding has_free
  some_free = lt-ltb σ.first (cell_count σ) (omega (arith, first_is, size_is))

  empty_acquired : Acquires σ (acquired d [] σ) d [] [] []
  empty_acquired = acquire_empty d (linked_zeroed (suc n) few).holds some_free shallow

  totals_are : (acquired d [] σ).totals ≡ pos 0
  unfolding acquired relinked zeroed with_first with_cell
  totals_are = rw some_free refl

  names_first : named_by (suc d) ((acquired d [] σ).totals ∷ []) ≡ σ.first ∷ []
  unfolding cell_of
  names_first = ap (λ (w : ℤ). cell_of w ∷ []) totals_are ∙ ap (λ (c : ℕ). c ∷ []) (sym first_is)

  empty_depth : suc d ≡ suc (cell (acquired d [] σ) σ.first).depth
  unfolding filled
  empty_depth = ap (λ (x : Cell). suc x.depth) (sym empty_acquired.new)

  empty_fits : (r : ℕ) → r ∈ (σ.first ∷ []) → suc d ≡ suc (cell (acquired d [] σ) r).depth
  empty_fits = only (λ r. suc d ≡ suc (cell (acquired d [] σ) r).depth) σ.first empty_depth

  open_array : Opens (suc n) (suc d) (opened (suc n) (suc d))
  unfolding opened
  open_array = record {
    rests = record {
      holds = subst (λ (l : List ℕ). Invariant (acquired d [] σ) [] l) (sym names_first) empty_acquired.holds;
      fits = λ r h. empty_fits r (subst (λ (l : List ℕ). r ∈ l) names_first h);
    };
    value = ap (value_of (acquired d [] σ) (suc d)) (totals_are ∙ ap pos (sym first_is)) ∙ empty_acquired.value;
    cells = empty_acquired.taken.cells ∙ size_is;
  }

-- a store just opened, of n cells, for totals of depth d
pub open_rests : (n d : ℕ) → 1 ≤ n → n ≤ 256 → d ≤ 4 → Opens n d (opened n d)
open_rests n zero some few shallow = open_number n few
open_rests zero (suc d) some few shallow = absurd (omega arith)
open_rests (suc n) (suc d) some few shallow = open_array n d few (omega arith)
