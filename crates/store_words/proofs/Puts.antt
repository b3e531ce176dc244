-- Writes to the two arrays that change one cell's words and the first free cell, as a change of the store.
use Rattle.prelude.specs.Kit.{ℕ, ◌+◌, ◌<◌, ◌*◌, arith, ◌≡◌, refl, ◌∙◌, sym, ap, ap₂, ◌≢◌, List, ℤ, pos, length, get_or}
use Rattle.prelude.specs.Kit.{set, length-set, get_or-set_other, get_or-set_same}
use Rattle.semantics.specs.Basics.{tabulate}
use Rattle.semantics.specs.Store.{Cell, cell, with_cell, with_first, with_count, with_totals}
use Rattle.semantics.specs.Words.{cells_in, slots_at, cell_at, store_of}
use Rattle.store_words.proofs.Tables.{tabulate_same, set_tabulate}
use Rattle.laws.specs.Cells.{same_cell, same_store}
use Rattle.store_words.proofs.CellWords.{in_cells, cell_is}

-- the lengths are kept
pub record LengthsKept (slots : List ℤ) (heads : List ℕ) (slots' : List ℤ) (heads' : List ℕ) : Type 0 where
  pub slots_long : length slots' ≡ length slots
  pub heads_long : length heads' ≡ length heads

pub cells_kept : {slots : List ℤ} {heads : List ℕ} {slots' : List ℤ} {heads' : List ℕ} →
    LengthsKept slots heads slots' heads' → cells_in slots' heads' ≡ cells_in slots heads
unfolding cells_in
cells_kept k = rw (k.slots_long, k.heads_long)

-- cell c is now x, the first free cell is now `first`, and nothing else has changed
pub record Put (slots : List ℤ) (heads : List ℕ) (c : ℕ) (x : Cell) (first : ℕ) (slots' : List ℤ) (heads' : List ℕ)
    : Type 0 where
  pub kept : LengthsKept slots heads slots' heads'
  pub here : cell_at slots' heads' c ≡ x
  pub other : (d : ℕ) → d ≢ c → cell_at slots' heads' d ≡ cell_at slots heads d
  pub totals : get_or slots' 0 (pos 0) ≡ get_or slots 0 (pos 0)
  pub head : get_or heads' 0 0 ≡ first

pub put_store : {slots : List ℤ} {heads : List ℕ} {c : ℕ} {x : Cell} {first : ℕ} {slots' : List ℤ} {heads' : List ℕ} →
    Put slots heads c x first slots' heads' → c < cells_in slots heads →
    store_of slots' heads' ≡ with_first (with_cell (store_of slots heads) c x) first
unfolding store_of with_first with_cell
put_store {slots} {heads} {c} {x} {first} {slots'} {heads'} p h =
    same_store (store_of slots' heads') _ p.totals p.head
    (ap (λ (n : ℕ). tabulate 0 n (cell_at slots' heads')) (cells_kept p.kept)
    ∙ set_tabulate (cells_in slots heads) (cell_at slots heads) (cell_at slots' heads') c x h p.here
    (λ i l f. p.other i f))

-- the first free cell written anew is no change
pub first_same : (slots : List ℤ) (heads : List ℕ) (c : ℕ) (x : Cell) →
    with_first (with_cell (store_of slots heads) c x) (get_or heads 0 0) ≡ with_cell (store_of slots heads) c x
unfolding with_first with_cell store_of
first_same slots heads c x = refl

-- ---- one word written: a cell's count, the first free cell, the totals

module _ (slots : List ℤ) (heads : List ℕ) (c n : ℕ) (h : c < cells_in slots heads) where
  -- any other word of the heads
  off : (j : ℕ) → j ≢ 1 + 4 * c → get_or (set heads (1 + 4 * c) n) j 0 ≡ get_or heads j 0
  off j f = get_or-set_other heads (1 + 4 * c) j n 0 f

  count_put : Put slots heads c (with_count (cell_at slots heads c) n) (get_or heads 0 0) slots (set heads (1 + 4 * c) n)
  unfolding cell_at with_count
  count_put = let b = in_cells slots heads c h in record {
    kept = record { slots_long = refl; heads_long = length-set heads (1 + 4 * c) n };
    here = same_cell _ _ (get_or-set_same heads (1 + 4 * c) n 0 (omega arith)) (off (2 + 4 * c) (λ e. omega arith))
        (off (3 + 4 * c) (λ e. omega arith)) (off (4 + 4 * c) (λ e. omega arith)) refl;
    other = λ d f. same_cell _ _ (off (1 + 4 * d) (λ e. f (omega arith))) (off (2 + 4 * d) (λ e. omega arith))
        (off (3 + 4 * d) (λ e. omega arith)) (off (4 + 4 * d) (λ e. omega arith)) refl;
    totals = refl;
    head = off 0 (λ e. omega arith);
  }

  pub count_store : store_of slots (set heads (1 + 4 * c) n)
      ≡ with_cell (store_of slots heads) c (with_count (cell (store_of slots heads) c) n)
  count_store = put_store count_put h ∙ first_same slots heads c _
      ∙ ap (λ (x : Cell). with_cell (store_of slots heads) c (with_count x n)) (sym (cell_is slots heads c h))

module _ (slots : List ℤ) (heads : List ℕ) where
  first_apart : (first : ℕ) → cell_at slots (set heads 0 first) ≡ cell_at slots heads
  unfolding cell_at
  first_apart first = λ i c. record {
    count = get_or-set_other heads 0 (1 + 4 * c) first 0 (λ q. omega arith) i;
    size = get_or-set_other heads 0 (2 + 4 * c) first 0 (λ q. omega arith) i;
    depth = get_or-set_other heads 0 (3 + 4 * c) first 0 (λ q. omega arith) i;
    next = get_or-set_other heads 0 (4 + 4 * c) first 0 (λ q. omega arith) i;
    slots = slots_at slots c;
  }

  pub first_store : (first : ℕ) → 0 < length heads →
      store_of slots (set heads 0 first) ≡ with_first (store_of slots heads) first
  unfolding store_of with_first
  first_store first l = same_store _ _ refl (get_or-set_same heads 0 first 0 l)
      (ap₂ (λ (n : ℕ) (f : ℕ → Cell). tabulate 0 n f)
      (cells_kept {slots = slots} {heads = heads} {slots' = slots} {heads' = set heads 0 first}
      (record { slots_long = refl; heads_long = length-set heads 0 first }))
      (first_apart first))

  totals_apart : (w : ℤ) → cell_at (set slots 0 w) heads ≡ cell_at slots heads
  unfolding cell_at slots_at
  totals_apart w = λ i c. record {
    count = get_or heads (1 + 4 * c) 0;
    size = get_or heads (2 + 4 * c) 0;
    depth = get_or heads (3 + 4 * c) 0;
    next = get_or heads (4 + 4 * c) 0;
    slots = tabulate_same 16 (λ k. get_or (set slots 0 w) (1 + 16 * c + k) (pos 0))
        (λ k. get_or slots (1 + 16 * c + k) (pos 0))
        (λ k b. get_or-set_other slots 0 (1 + 16 * c + k) w (pos 0) (λ q. omega arith)) i;
  }

  pub totals_store : (w : ℤ) → 0 < length slots → store_of (set slots 0 w) heads ≡ with_totals (store_of slots heads) w
  unfolding store_of with_totals
  totals_store w l = same_store _ _ (get_or-set_same slots 0 w (pos 0) l) refl
      (ap₂ (λ (n : ℕ) (f : ℕ → Cell). tabulate 0 n f)
      (cells_kept {slots = slots} {heads = heads} {slots' = set slots 0 w} {heads' = heads}
      (record { slots_long = length-set slots 0 w; heads_long = refl }))
      (totals_apart w))
