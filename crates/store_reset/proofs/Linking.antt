-- Linking the cells anew, from the last to the first.
use Rattle.prelude.specs.Kit.{ℕ, ◌≤◌, ◌+◌, ◌<◌, ◌-◌, suc, zero, ◌*◌, arith, ◌≡◌, refl, ◌∙◌, sym, ap, ap₂, List, [], ◌∷◌}
use Rattle.prelude.specs.Kit.{◌++◌, append-nil, ℤ, length, get_or, set, get_or-eq_default, take, drop, drop-cons}
use Rattle.prelude.specs.Kit.{length-take-le, drop-length, append_snoc, set-get_or, set_at, get_or_at, take-suc}
use Rattle.prelude.specs.Kit.{take-length}
use Rattle.semantics.specs.Store.{Cell, Store, cell, cell_count, clear, with_cell, with_first}
use Rattle.semantics.specs.Store.{Linked, link, linked, relinked}
use Rattle.semantics.specs.Words.{cells_in, store_of}
use Rattle.laws.specs.Cells.{same_store}
use Rattle.store_words.specs.Parts.{Cleared, with_head}
use Rattle.store_words.proofs.CellWords.{store_size, count_is, first_is, with_self}
use Rattle.store_words.proofs.Puts.{first_same, first_store}
use Rattle.store_words.proofs.Written.{cleared_store}
use Rattle.store_reset.specs.Resetting.{cell_linked, head_linked}

-- ---- one cell

module _ (slots : List ℤ) (heads : List ℕ) (c h : ℕ) where
  pub link_used : (get_or heads (1 + 4 * c) 0 ≡ 0 → ⊥) →
      (h ≡ head_linked (get_or heads (1 + 4 * c) 0) c h)
      × (store_of slots heads ≡ with_cell (store_of slots heads) c
      (cell_linked (get_or heads (1 + 4 * c) 0) (cell (store_of slots heads) c) h))
  link_used f = go (get_or heads (1 + 4 * c) 0) f
    where
      go : (n : ℕ) → (n ≡ 0 → ⊥) → (h ≡ head_linked n c h)
          × (store_of slots heads ≡ with_cell (store_of slots heads) c
          (cell_linked n (cell (store_of slots heads) c) h))
      go zero f = absurd (f refl)
      go (suc n) f = (refl, sym (with_self (store_of slots heads) c))

  pub link_free : {slots' : List ℤ} {heads' : List ℕ} → c < cells_in slots heads → get_or heads (1 + 4 * c) 0 ≡ 0 →
      length slots' ≡ length slots → Cleared slots c slots' → heads' ≡ with_head heads c 0 0 0 h →
      (c ≡ head_linked (get_or heads (1 + 4 * c) 0) c h)
      × (store_of slots' heads' ≡ with_cell (store_of slots heads) c
      (cell_linked (get_or heads (1 + 4 * c) 0) (cell (store_of slots heads) c) h))
  link_free i e l f q = rw e (
    refl,
    cleared_store (record {
      long = l;
      slots_cleared = f;
      heads_written = q ∙ ap (λ (hs : List ℕ). with_head hs c 0 0 0 h) (sym (set-get_or heads 0 0));
    }) i
        ∙ first_same slots heads c (clear h),
  )

-- ---- the loop: the cells from c on are linked, and h is the first free one of them
pub record Linking (σ₀ σ : Store) (c h : ℕ) : Type 0 where
  pub few : c ≤ cell_count σ₀
  pub totals : σ.totals ≡ σ₀.totals
  pub first : σ.first ≡ σ₀.first
  pub head : h ≡ (linked c (drop c σ₀.cells)).head
  pub cells : σ.cells ≡ take c σ₀.cells ++ (linked c (drop c σ₀.cells)).cells

pub linking_none : (σ : Store) (n : ℕ) → n ≡ cell_count σ → Linking σ σ n n
unfolding linked
linking_none σ n e = rw e (record {
  few = omega arith;
  totals = refl;
  first = refl;
  head = sym (ap (λ (l : List Cell). (linked (cell_count σ) l).head) (drop-length σ.cells));
  cells = sym (ap₂ ◌++◌ (take-length σ.cells)
      (ap (λ (l : List Cell). (linked (cell_count σ) l).cells) (drop-length σ.cells))
      ∙ append-nil σ.cells);
})

link_is : (n : ℕ) (x : Cell) (c : ℕ) (r : Linked) →
    ((link n x c r).head ≡ head_linked n c r.head) × ((link n x c r).cells ≡ cell_linked n x r.head ∷ r.cells)
link_is zero x c r = (refl, refl)
link_is (suc n) x c r = (refl, refl)

module _ (σ₀ σ : Store) (p h : ℕ) (t : Linking σ₀ σ (suc p) h) where
  abbrev old : List Cell
  old = σ₀.cells

  abbrev here : Cell
  here = get_or σ₀.cells p (clear 0)

  abbrev rest : Linked
  rest = linked (suc p) (drop (suc p) σ₀.cells)

  long : length (take p old) ≡ p
  long = length-take-le p old (omega (arith, t.few))

  split : σ.cells ≡ take p old ++ (here ∷ rest.cells)
  split = t.cells ∙ ap (λ (l : List Cell). l ++ rest.cells) (take-suc old p (clear 0) t.few)
      ∙ append_snoc (take p old) here rest.cells

  here_is : cell σ p ≡ here
  unfolding cell
  here_is = ap (λ (l : List Cell). get_or l p (clear 0)) split ∙ get_or_at (take p old) here rest.cells (clear 0) p long

  linked_here : linked p (drop p old) ≡ link here.count here p rest
  unfolding linked
  linked_here = ap (linked p) (drop-cons old p (clear 0) t.few)

  linking_more : (n : ℕ) → n ≡ (cell σ p).count → (σ' : Store) (h' : ℕ) → h' ≡ head_linked n p h →
      σ' ≡ with_cell σ p (cell_linked n (cell σ p) h) → Linking σ₀ σ' p h'
  unfolding with_cell
  linking_more n e σ' h' a b = rw (b, a) (record {
    few = omega (arith, t.few);
    totals = t.totals;
    first = t.first;
    head = ap₂ (λ (m k : ℕ). head_linked m p k) count t.head
        ∙ sym (ap (λ (r : Linked). r.head) linked_here ∙ (link_is here.count here p rest).0);
    cells = ap (λ (l : List Cell). set l p (cell_linked n (cell σ p) h)) split
        ∙ set_at (take p old) here rest.cells (cell_linked n (cell σ p) h) p long
        ∙ ap (λ (l : List Cell). take p old ++ l) (ap (λ (y : Cell). y ∷ rest.cells) same
        ∙ sym (ap (λ (r : Linked). r.cells) linked_here ∙ (link_is here.count here p rest).1));
  })
    where
      count : n ≡ here.count
      count = e ∙ ap (λ (y : Cell). y.count) here_is

      same : cell_linked n (cell σ p) h ≡ cell_linked here.count here rest.head
      same = λ i. cell_linked (count i) (here_is i) (t.head i)

module _ (slots₀ : List ℤ) (heads₀ : List ℕ) (slots : List ℤ) (heads : List ℕ) (c h : ℕ)
    (t : Linking (store_of slots₀ heads₀) (store_of slots heads) c h) where
  pub linking_step : 0 < c → c - 1 < cells_in slots heads → (σ' : Store) (h' : ℕ) →
      h' ≡ head_linked (get_or heads (1 + 4 * (c - 1)) 0) (c - 1) h →
      σ' ≡ with_cell (store_of slots heads) (c - 1)
      (cell_linked (get_or heads (1 + 4 * (c - 1)) 0) (cell (store_of slots heads) (c - 1)) h) →
      Linking (store_of slots₀ heads₀) σ' (c - 1) h'
  linking_step p i σ' h' a b = let q : c ≡ suc (c - 1) = omega arith in
      linking_more (store_of slots₀ heads₀) (store_of slots heads) (c - 1) h (rw q at t)
      (get_or heads (1 + 4 * (c - 1)) 0)
      (sym (count_is slots heads (c - 1) i)) σ' h' a b

  pub linking_all : c ≡ 0 → 0 < length heads → store_of slots (set heads 0 h) ≡ relinked (store_of slots₀ heads₀)
  unfolding relinked with_first
  linking_all e l = let t' = rw e at t in first_store slots heads h l
      ∙ same_store _ _ t'.totals t'.head t'.cells

  no_cells : (l : List Cell) → length l ≡ 0 → l ≡ []
  no_cells [] e = refl
  no_cells (x ∷ l) e = absurd (omega arith)

  none_in : length heads₀ ≡ 0 → cells_in slots₀ heads₀ ≡ 0
  unfolding cells_in
  none_in e = omega arith

  -- without a first free cell there are no cells
  pub linking_empty : c ≡ 0 → length heads ≡ 0 → length heads₀ ≡ 0 → store_of slots heads
      ≡ relinked (store_of slots₀ heads₀)
  unfolding relinked linked
  linking_empty e l m = let t' = rw e at t in same_store _ _ t'.totals
      (first_is slots heads ∙ get_or-eq_default heads 0 (omega arith) ∙ sym (ap (λ (l : List Cell). (linked 0 l).head)
      (no_cells (store_of slots₀ heads₀).cells (store_size slots₀ heads₀ ∙ none_in m))))
      t'.cells
