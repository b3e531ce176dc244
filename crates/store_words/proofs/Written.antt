-- A whole cell written, its head with its slots cleared, with another first free cell.
use Rattle.prelude.specs.Kit.{ℕ, ◌+◌, ◌<◌, ◌*◌, arith, ◌≡◌, ◌∙◌, ◌≢◌, List, [], ℤ, length, get_or, set, length-set}
use Rattle.prelude.specs.Kit.{get_or-set_other, get_or-set_same}
use Rattle.semantics.specs.Store.{clear, padded, with_cell, with_first}
use Rattle.semantics.specs.Words.{cells_in, cell_at, store_of}
use Rattle.laws.specs.Cells.{same_cell}
use Rattle.store_words.specs.Parts.{Cleared, with_head}
use Rattle.store_words.proofs.CellWords.{in_cells}
use Rattle.store_words.proofs.Puts.{Put, put_store}
use Rattle.store_words.proofs.Slots.{cleared_slots, cleared_others}

-- ---- the four numbers of a head

module _ (heads : List ℕ) (c count size depth next : ℕ) where
  abbrev one : List ℕ
  one = set heads (1 + 4 * c) count

  abbrev two : List ℕ
  two = set one (2 + 4 * c) size

  abbrev three : List ℕ
  three = set two (3 + 4 * c) depth

  pub head_length : length (with_head heads c count size depth next) ≡ length heads
  head_length = simp length-set

  -- any other word
  pub head_off : (j : ℕ) → j ≢ 1 + 4 * c → j ≢ 2 + 4 * c → j ≢ 3 + 4 * c → j ≢ 4 + 4 * c →
      get_or (with_head heads c count size depth next) j 0 ≡ get_or heads j 0
  head_off j p q r s = get_or-set_other three (4 + 4 * c) j next 0 s ∙ get_or-set_other two (3 + 4 * c) j depth 0 r
      ∙ get_or-set_other one (2 + 4 * c) j size 0 q ∙ get_or-set_other heads (1 + 4 * c) j count 0 p

  module _ (h : 4 * c + 4 < length heads) where
    head_count : get_or (with_head heads c count size depth next) (1 + 4 * c) 0 ≡ count
    head_count = get_or-set_other three (4 + 4 * c) (1 + 4 * c) next 0 (λ q. omega arith)
        ∙ get_or-set_other two (3 + 4 * c) (1 + 4 * c) depth 0 (λ q. omega arith)
        ∙ get_or-set_other one (2 + 4 * c) (1 + 4 * c) size 0 (λ q. omega arith)
        ∙ get_or-set_same heads (1 + 4 * c) count 0 (omega arith)

    head_size : get_or (with_head heads c count size depth next) (2 + 4 * c) 0 ≡ size
    head_size = get_or-set_other three (4 + 4 * c) (2 + 4 * c) next 0 (λ q. omega arith)
        ∙ get_or-set_other two (3 + 4 * c) (2 + 4 * c) depth 0 (λ q. omega arith)
        ∙ get_or-set_same one (2 + 4 * c) size 0 (simp length-set (omega arith))

    head_depth : get_or (with_head heads c count size depth next) (3 + 4 * c) 0 ≡ depth
    head_depth = get_or-set_other three (4 + 4 * c) (3 + 4 * c) next 0 (λ q. omega arith)
        ∙ get_or-set_same two (3 + 4 * c) depth 0 (simp length-set (omega arith))

    head_next : get_or (with_head heads c count size depth next) (4 + 4 * c) 0 ≡ next
    head_next = get_or-set_same three (4 + 4 * c) next 0 (simp length-set (omega arith))

-- ---- head, slots and the first free cell

pub record Written (slots : List ℤ) (heads : List ℕ) (c first count size depth next : ℕ) (slots' : List ℤ)
    (heads' : List ℕ) : Type 0 where
  pub long : length slots' ≡ length slots
  pub slots_cleared : Cleared slots c slots'
  pub heads_written : heads' ≡ with_head (set heads 0 first) c count size depth next

module _ {slots : List ℤ} {heads : List ℕ} {c first count size depth next : ℕ} {slots' : List ℤ} {heads' : List ℕ}
    (w : Written slots heads c first count size depth next slots' heads') (h : c < cells_in slots heads) where
  written_put : Put slots heads c
      (record { count = count; size = size; depth = depth; next = next; slots = padded [] }) first slots' heads'
  unfolding cell_at
  written_put = rw w.heads_written (record {
    kept = record {
      slots_long = w.long;
      heads_long = head_length hs c count size depth next
          ∙ length-set heads 0 first;
    };
    here = same_cell _ _ (head_count hs c count size depth next there) (head_size hs c count size depth next there)
        (head_depth hs c count size depth next there) (head_next hs c count size depth next there)
        (cleared_slots w.slots_cleared);
    other = λ d f. same_cell _ _
        (off (1 + 4 * d) (λ q. f (omega arith)) (λ q. omega arith) (λ q. omega arith) (λ q. omega arith)
        (λ q. omega arith))
        (off (2 + 4 * d) (λ q. omega arith) (λ q. f (omega arith)) (λ q. omega arith) (λ q. omega arith)
        (λ q. omega arith))
        (off (3 + 4 * d) (λ q. omega arith) (λ q. omega arith) (λ q. f (omega arith)) (λ q. omega arith)
        (λ q. omega arith))
        (off (4 + 4 * d) (λ q. omega arith) (λ q. omega arith) (λ q. omega arith) (λ q. f (omega arith))
        (λ q. omega arith))
        (cleared_others w.slots_cleared d f);
    totals = w.slots_cleared.totals;
    head = head_off hs c count size depth next 0 (λ q. omega arith) (λ q. omega arith) (λ q. omega arith)
        (λ q. omega arith)
        ∙ get_or-set_same heads 0 first 0 (omega (arith, in_cells slots heads c h));
  })
    where
      hs : List ℕ
      hs = set heads 0 first

      there : 4 * c + 4 < length (set heads 0 first)
      there = simp length-set (in_cells slots heads c h).1

      off : (j : ℕ) → j ≢ 1 + 4 * c → j ≢ 2 + 4 * c → j ≢ 3 + 4 * c → j ≢ 4 + 4 * c → j ≢ 0 →
          get_or (with_head (set heads 0 first) c count size depth next) j 0 ≡ get_or heads j 0
      off j p q r s z = head_off (set heads 0 first) c count size depth next j p q r s
          ∙ get_or-set_other heads 0 j first 0 z

  pub written_store : store_of slots' heads'
      ≡ with_first (with_cell (store_of slots heads) c
      (record { count = count; size = size; depth = depth; next = next; slots = padded [] })) first
  written_store = put_store written_put h

-- ---- a cell cleared

pub cleared_store : {slots : List ℤ} {heads : List ℕ} {c first next : ℕ} {slots' : List ℤ} {heads' : List ℕ} →
    Written slots heads c first 0 0 0 next slots' heads' → c < cells_in slots heads →
    store_of slots' heads' ≡ with_first (with_cell (store_of slots heads) c (clear next)) first
unfolding clear
cleared_store w h = written_store w h
