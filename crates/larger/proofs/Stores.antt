-- Stores between deliveries, and their extensions: opened, relinked, and the value of the totals.
use Rattle.prelude.specs.Kit.{ℕ, ◌≤◌, ◌+◌, suc, zero, arith, true, ◌≡◌, refl, ◌∙◌, sym, ap, fun_ext, List, [], ◌∷◌}
use Rattle.prelude.specs.Kit.{◌++◌, map, ℤ, pos, length, replicate, lt-ltb}
use Rattle.semantics.specs.Value.{Value, list}
use Rattle.semantics.specs.Store.{Cell, Store, cell, cell_of, cell_count, clear, elements, has_free, Linked, link}
use Rattle.semantics.specs.Store.{linked, relinked, zeroed, with_empty_totals, opened}
use Rattle.semantics.specs.Demands.{value_of}
use Rattle.larger.proofs.Extended.{clear_from, clear_from_length, extended, cell_shows, extended_acquired}

-- ---- values

pub extended_value : (k : ℕ) (σ : Store) (d : ℕ) (w : ℤ) → value_of (extended k σ) d w ≡ value_of σ d w
unfolding value_of
extended_value k σ zero w = refl
extended_value k σ (suc d) w =
    ap (λ (l : List ℤ). list (map (value_of (extended k σ) d) l)) (cell_shows k σ (cell_of w)).elements
    ∙ ap (λ (f : ℤ → Value). list (map f (elements (cell σ (cell_of w))))) (fun_ext (λ v. extended_value k σ d v))

-- ---- relinked

abbrev more_cells : Linked → List Cell → Linked
more_cells r l = record { head = r.head; cells = r.cells ++ l }

link_more : (n : ℕ) (x : Cell) (c : ℕ) (r : Linked) (l : List Cell) →
    link n x c (more_cells r l) ≡ more_cells (link n x c r) l
link_more zero x c r l = refl
link_more (suc n) x c r l = refl

linked_clear : (c k : ℕ) → linked c (clear_from c k) ≡ record { head = c; cells = clear_from c k }
unfolding linked clear_from clear
linked_clear c zero = refl
linked_clear c (suc k) = ap (link 0 (clear (suc c)) c) (linked_clear (suc c) k)

linked_more : (l : List Cell) (c n k : ℕ) → n ≡ c + length l →
    linked c (l ++ clear_from n k) ≡ more_cells (linked c l) (clear_from n k)
unfolding linked
linked_more [] c n k e = ap (λ (m : ℕ). linked c (clear_from m k)) m ∙ linked_clear c k
    ∙ ap (λ (m : ℕ). record { head = c; cells = clear_from m k }) (sym m)
  where
    m : n ≡ c
    m = omega (arith, e)
linked_more (x ∷ l) c n k e = ap (link x.count x c) (linked_more l (suc c) n k (omega (arith, e)))
    ∙ link_more x.count x c (linked (suc c) l) (clear_from n k)

pub extended_relinked : (k : ℕ) (σ : Store) → cell_count (relinked σ) ≡ cell_count σ →
    relinked (extended k σ) ≡ extended k (relinked σ)
unfolding relinked extended
extended_relinked k σ e = ap (λ (r : Linked). record { totals = σ.totals; first = r.head; cells = r.cells })
    (linked_more σ.cells 0 (cell_count σ) k (omega arith)
    ∙ ap (λ (n : ℕ). more_cells (linked 0 σ.cells) (clear_from n k)) (sym e))

-- ---- opened

linked_zeroed : (c n : ℕ) → linked c (replicate n (clear 0)) ≡ record { head = c; cells = clear_from c n }
unfolding linked clear_from clear
linked_zeroed c zero = refl
linked_zeroed c (suc n) = ap (link 0 (clear 0) c) (linked_zeroed (suc c) n)

clear_from_more : (c n k : ℕ) → clear_from c (n + k) ≡ clear_from c n ++ clear_from (c + n) k
unfolding clear_from
clear_from_more c zero k =
    let e : 0 + k ≡ k = omega arith in
    let f : c ≡ c + 0 = omega arith in
    ap (clear_from c) e ∙ ap (λ (m : ℕ). clear_from m k) f
clear_from_more c (suc n) k =
    let e : suc n + k ≡ suc (n + k) = omega arith in
    let f : suc c + n ≡ c + suc n = omega arith in
    ap (clear_from c) e ∙ ap (λ (l : List Cell). clear (suc c) ∷ l) (clear_from_more (suc c) n k)
    ∙ ap (λ (m : ℕ). clear (suc c) ∷ (clear_from (suc c) n ++ clear_from m k)) f

-- all cells clear, each before the next
abbrev all_clear : ℕ → Store
all_clear n = record { totals = pos 0; first = 0; cells = clear_from 0 n }

zeroed_is : (n : ℕ) → relinked (zeroed n) ≡ all_clear n
unfolding relinked zeroed
zeroed_is n = ap (λ (r : Linked). record { totals = pos 0; first = r.head; cells = r.cells }) (linked_zeroed 0 n)

all_clear_more : (n k : ℕ) → all_clear (n + k) ≡ extended k (all_clear n)
unfolding extended
all_clear_more n k =
    let e : 0 + n ≡ length (clear_from 0 n) = omega (arith, clear_from_length 0 n) in
    ap (λ (l : List Cell). record { totals = pos 0; first = 0; cells = l })
    (clear_from_more 0 n k ∙ ap (λ (m : ℕ). clear_from 0 n ++ clear_from m k) e)

all_clear_free : (n : ℕ) → 1 ≤ n → has_free (all_clear n) ≡ true
unfolding has_free
all_clear_free n some = lt-ltb 0 (cell_count (all_clear n)) (omega (arith, some, clear_from_length 0 n))

pub extended_opened : (n k d : ℕ) → 1 ≤ n → opened (n + k) d ≡ extended k (opened n d)
unfolding opened
extended_opened n k d some =
    ap (with_empty_totals d) (zeroed_is (n + k) ∙ all_clear_more n k) ∙ totals d
    ∙ ap (λ (σ : Store). extended k (with_empty_totals d σ)) (sym (zeroed_is n))
  where
    totals : (d : ℕ) → with_empty_totals d (extended k (all_clear n)) ≡ extended k (with_empty_totals d (all_clear n))
    totals zero = refl
    totals (suc d) = extended_acquired k (all_clear n) d [] (all_clear_free n some)
