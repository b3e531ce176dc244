-- A store and its two arrays of words: each is read off the other.
use Rattle.prelude.specs.Kit.{ℕ, ◌≤◌, ◌+◌, ◌<◌, ◌-◌, suc, zero, ◌*◌, ◌%◌, min, ◌/◌, arith, dec_lt, mul-zero, mul-suc}
use Rattle.prelude.specs.Kit.{true, ◌&&◌, ◌≡◌, refl, ◌∙◌, sym, ap, ap₂, List, [], ◌∷◌, ◌++◌, eqb, ltb, ℤ, pos, length}
use Rattle.prelude.specs.Kit.{get_or, length-append, get_or-append, ext_get_or, get_or-append-add, lt-ltb, eq-eqb}
use Rattle.prelude.specs.Kit.{eqb-true, ltb-true}
use Rattle.semantics.specs.Basics.{tabulate}
use Rattle.semantics.specs.Store.{Cell, Store, cell, cell_count, clear}
use Rattle.semantics.specs.Words.{cells_in, slots_at, cell_at, store_of, shaped, all_slots, all_heads, slot_words}
use Rattle.semantics.specs.Words.{head_words}
use Rattle.semantics.specs.Sound.{sound, sound_words}
use Rattle.laws.specs.Tests.{both_hold, say_and}
use Rattle.discipline.proofs.store.Invariant.{Invariant}
use Rattle.laws.specs.Lists.{tabulate_length, tabulate_at}
use Rattle.discipline.proofs.store.Tabulate.{tabulate_is, padded_length}
use Rattle.discipline.proofs.store.Rest.{Rests, test_rests, rests_test}

-- ---- lists of blocks

-- k elements for each cell, one block after the other
module _ {A : Type 0} (k : ℕ) (block : Cell → List A) (flat : List Cell → List A)
    (none : flat [] ≡ []) (more : (x : Cell) (l : List Cell) → flat (x ∷ l) ≡ block x ++ flat l) where
  flat_length : (l : List Cell) → ((c : ℕ) → c < length l → length (block (get_or l c (clear 0))) ≡ k) →
      length (flat l) ≡ k * length l
  flat_length [] f = ap length none ∙ sym (mul-zero k)
  flat_length (x ∷ l) f =
      omega (
        arith,
        ap length (more x l),
        length-append (block x) (flat l),
        f 0 (omega arith),
        flat_length l (λ c h. f (suc c) (omega arith)),
        mul-suc k (length l),
      )

  flat_at : (l : List Cell) (a : A) → ((c : ℕ) → c < length l → length (block (get_or l c (clear 0))) ≡ k) →
      (c i : ℕ) → c < length l → i < k → get_or (flat l) (k * c + i) a ≡ get_or (block (get_or l c (clear 0))) i a
  flat_at [] a f c i h g = absurd (omega arith)
  flat_at (x ∷ l) a f zero i h g =
      ap₂ (λ (m : List A) (j : ℕ). get_or m j a) (more x l) (ap (λ (j : ℕ). j + i) (mul-zero k) ∙ omega arith)
      ∙ get_or-append (block x) (flat l) a i (omega (arith, f 0 (omega arith)))
  flat_at (x ∷ l) a f (suc c) i h g =
      ap₂ (λ (m : List A) (j : ℕ). get_or m j a) (more x l) (omega (arith, mul-suc k c, f 0 (omega arith)))
      ∙ get_or-append-add (block x) (flat l) (k * c + i) a
      ∙ flat_at l a (λ d b. f (suc d) (omega arith)) c i (omega arith) g

-- the four numbers of a cell
abbrev head_of : Cell → List ℕ
head_of x = x.count ∷ x.size ∷ x.depth ∷ x.next ∷ []

-- every cell has its 16 slots
pub record Whole (σ : Store) : Type 0 where
  pub slots : (c : ℕ) → c < cell_count σ → length (cell σ c).slots ≡ 16

module _ (σ : Store) (h : Whole σ) where
  pub slots_length : length (slot_words σ) ≡ 1 + 16 * cell_count σ
  unfolding slot_words cell
  slots_length = omega (arith, flat_length 16 (λ x. x.slots) all_slots refl (λ x l. refl) σ.cells h.slots)

  pub heads_length : length (head_words σ) ≡ 1 + 4 * cell_count σ
  unfolding head_words
  heads_length = omega (arith, flat_length 4 head_of all_heads refl (λ x l. refl) σ.cells (λ c g. refl))

  slots_word : (c i : ℕ) → c < cell_count σ → i < 16 →
      get_or (slot_words σ) (1 + 16 * c + i) (pos 0) ≡ get_or (cell σ c).slots i (pos 0)
  unfolding slot_words cell
  slots_word c i l b =
      let q : 1 + 16 * c + i ≡ suc (16 * c + i) = omega arith in
      ap (λ (j : ℕ). get_or (slot_words σ) j (pos 0)) q
      ∙ flat_at 16 (λ x. x.slots) all_slots refl (λ x m. refl) σ.cells (pos 0) h.slots c i l b

  heads_word : (c i j : ℕ) → c < cell_count σ → i < 4 → j ≡ suc (4 * c + i) →
      get_or (head_words σ) j 0 ≡ get_or (head_of (cell σ c)) i 0
  unfolding head_words cell
  heads_word c i j l b e =
      ap (λ (n : ℕ). get_or (head_words σ) n 0) e
      ∙ flat_at 4 head_of all_heads refl (λ x m. refl) σ.cells 0 (λ d g. refl) c i l b

  pub cells_back : cell_count σ ≤ 256 → cells_in (slot_words σ) (head_words σ) ≡ cell_count σ
  unfolding cells_in
  cells_back few = ap₂ (λ (n k : ℕ). min 256 (min ((n - 1) / 4) ((k - 1) / 16))) heads_length slots_length
      ∙ omega arith

  slots_back : (c : ℕ) → c < cell_count σ → slots_at (slot_words σ) c ≡ (cell σ c).slots
  unfolding slots_at
  slots_back c l =
      ap (λ (n : ℕ). tabulate 0 n (λ i. get_or (slot_words σ) (1 + 16 * c + i) (pos 0))) (sym (h.slots c l))
      ∙ tabulate_is (λ i. get_or (slot_words σ) (1 + 16 * c + i) (pos 0)) (cell σ c).slots (pos 0)
      (λ i b. slots_word c i l (omega (arith, h.slots c l)))

  cell_back : (c : ℕ) → c < cell_count σ → cell_at (slot_words σ) (head_words σ) c ≡ cell σ c
  unfolding cell_at
  cell_back c l = λ i. record {
    count = heads_word c 0 (1 + 4 * c) l (omega arith) (omega arith) i;
    size = heads_word c 1 (2 + 4 * c) l (omega arith) (omega arith) i;
    depth = heads_word c 2 (3 + 4 * c) l (omega arith) (omega arith) i;
    next = heads_word c 3 (4 + 4 * c) l (omega arith) (omega arith) i;
    slots = slots_back c l i;
  }

  -- the words of a store hold that store
  pub store_back : cell_count σ ≤ 256 → store_of (slot_words σ) (head_words σ) ≡ σ
  unfolding store_of cell slot_words head_words
  store_back few = λ i. record { totals = σ.totals; first = σ.first; cells = cells i }
    where
      cells : tabulate 0 (cells_in (slot_words σ) (head_words σ)) (cell_at (slot_words σ) (head_words σ)) ≡ σ.cells
      cells = ap (λ (n : ℕ). tabulate 0 n (cell_at (slot_words σ) (head_words σ))) (cells_back few)
          ∙ tabulate_is (cell_at (slot_words σ) (head_words σ)) σ.cells (clear 0) cell_back

-- the slots of free cells are 16 zeros, those of cells in use are 16 too
pub whole : {σ : Store} {Z R : List ℕ} → Invariant σ Z R → Whole σ
unfolding clear
whole {σ} v = record {
  slots = λ c h. elim (dec_lt 0 (cell σ c).count) [
    | yes g ↦ (v.tidy c g).whole
    | no g ↦ ap (λ (x : Cell). length x.slots) (v.blank c h (omega (arith, g))) ∙ padded_length []
  ];
}

-- ---- from two arrays to a store

module _ (slots : List ℤ) (heads : List ℕ) where
  abbrev σ : Store
  σ = store_of slots heads

  abbrev n : ℕ
  n = cells_in slots heads

  cells_held : cell_count σ ≡ n
  unfolding store_of
  cells_held = tabulate_length n 0 (cell_at slots heads)

  cell_held : (c : ℕ) → c < n → cell σ c ≡ cell_at slots heads c
  unfolding store_of cell
  cell_held c h = tabulate_at n 0 (cell_at slots heads) c (clear 0) h ∙ ap (cell_at slots heads) (omega arith)

  slots_held : (c : ℕ) → (cell_at slots heads c).slots ≡ slots_at slots c
  unfolding cell_at
  slots_held c = refl

  -- whatever the arrays
  pub store_whole : Whole σ
  unfolding slots_at
  store_whole = record {
    slots = λ c h. ap (λ (x : Cell). length x.slots) (cell_held c (omega (arith, cells_held)))
        ∙ ap length (slots_held c) ∙ tabulate_length 16 0 (λ i. get_or slots (1 + 16 * c + i) (pos 0));
  }

  pub store_few : cell_count σ ≤ 256
  unfolding cells_in
  store_few = omega (arith, cells_held)

  slot_held : (c i : ℕ) → c < n → i < 16 → get_or (cell σ c).slots i (pos 0) ≡ get_or slots (1 + 16 * c + i) (pos 0)
  unfolding slots_at
  slot_held c i h b =
      ap (λ (x : Cell). get_or x.slots i (pos 0)) (cell_held c h)
      ∙ ap (λ (l : List ℤ). get_or l i (pos 0)) (slots_held c)
      ∙ tabulate_at 16 0 (λ k. get_or slots (1 + 16 * c + k) (pos 0)) i (pos 0) b
      ∙ ap (λ (k : ℕ). get_or slots (1 + 16 * c + k) (pos 0)) (omega arith)

  head_at : (c i j : ℕ) → i < 4 → j ≡ suc (4 * c + i) → get_or (head_of (cell_at slots heads c)) i 0 ≡ get_or heads j 0
  unfolding cell_at
  head_at c zero j h e = ap (λ (k : ℕ). get_or heads k 0) (omega arith)
  head_at c (suc zero) j h e = ap (λ (k : ℕ). get_or heads k 0) (omega arith)
  head_at c (suc (suc zero)) j h e = ap (λ (k : ℕ). get_or heads k 0) (omega arith)
  head_at c (suc (suc (suc zero))) j h e = ap (λ (k : ℕ). get_or heads k 0) (omega arith)
  head_at c (suc (suc (suc (suc i)))) j h e = absurd (omega arith)

  module _ (slots_fit : length slots ≡ 1 + 16 * n) (heads_fit : length heads ≡ 1 + 4 * n) where
    -- arrays of the right lengths are the words of the store that they hold
    pub slots_spelt : slots ≡ slot_words σ
    unfolding slot_words store_of
    slots_spelt = ext_get_or (pos 0) slots (slot_words σ) (omega (arith, slots_length σ store_whole, cells_held)) at
      where
        place : (i : ℕ) → suc i ≡ 1 + 16 * (i / 16) + i % 16
        place i = omega arith

        at : (i : ℕ) → i < length slots → get_or slots i (pos 0) ≡ get_or (slot_words σ) i (pos 0)
        at zero h = refl
        at (suc i) h =
            ap (λ (j : ℕ). get_or slots j (pos 0)) (place i)
            ∙ sym (slot_held (i / 16) (i % 16) (omega arith) (omega arith))
            ∙ sym (slots_word σ store_whole (i / 16) (i % 16) (omega (arith, cells_held)) (omega arith))
            ∙ ap (λ (j : ℕ). get_or (slot_words σ) j (pos 0)) (sym (place i))

    pub heads_spelt : heads ≡ head_words σ
    unfolding head_words store_of
    heads_spelt = ext_get_or 0 heads (head_words σ) (omega (arith, heads_length σ store_whole, cells_held)) at
      where
        at : (i : ℕ) → i < length heads → get_or heads i 0 ≡ get_or (head_words σ) i 0
        at zero h = refl
        at (suc i) h =
            sym (head_at (i / 4) (i % 4) (suc i) (omega arith) (omega arith))
            ∙ ap (λ (x : Cell). get_or (head_of x) (i % 4) 0) (sym (cell_held (i / 4) (omega arith)))
            ∙ sym (heads_word σ store_whole (i / 4) (i % 4) (suc i) (omega (arith, cells_held)) (omega arith)
            (omega arith))

-- ---- the test of refusal 11

-- two arrays that hold a store at rest, with totals of depth d
pub record Holds (d : ℕ) (slots : List ℤ) (heads : List ℕ) (σ : Store) : Type 0 where
  pub rests : Rests d σ
  pub some : 1 ≤ cell_count σ
  pub few : cell_count σ ≤ 256
  pub slots_are : slots ≡ slot_words σ
  pub heads_are : heads ≡ head_words σ

pub test_says : (d : ℕ) (slots : List ℤ) (heads : List ℕ) → sound_words d slots heads ≡ true →
    Holds d slots heads (store_of slots heads)
unfolding sound_words shaped
test_says d slots heads e =
    let m = cells_in slots heads in
    let slots_fit = eqb (length slots) (1 + 16 * m) in
    let heads_fit = eqb (length heads) (1 + 4 * m) in
    let a = both_hold (shaped slots heads) (sound d (store_of slots heads)) e in
    let b = both_hold (ltb 0 m) (slots_fit && heads_fit) a.0 in
    let c = both_hold slots_fit heads_fit b.1 in
    let s = eqb-true (length slots) (1 + 16 * m) c.0 in
    let h = eqb-true (length heads) (1 + 4 * m) c.1 in
    record {
      rests = test_rests d (store_of slots heads) (store_few slots heads) (store_whole slots heads).slots a.1;
      some = omega (arith, ltb-true 0 m b.0, cells_held slots heads);
      few = store_few slots heads;
      slots_are = slots_spelt slots heads s h;
      heads_are = heads_spelt slots heads s h;
    }

words_shaped : (σ : Store) → Whole σ → 1 ≤ cell_count σ → cell_count σ ≤ 256 →
    shaped (slot_words σ) (head_words σ) ≡ true
unfolding shaped
words_shaped σ w some few =
    let m = cells_in (slot_words σ) (head_words σ) in
    let size : m ≡ cell_count σ = cells_back σ w few in
    let slots_fit = eqb (length (slot_words σ)) (1 + 16 * m) in
    let heads_fit = eqb (length (head_words σ)) (1 + 4 * m) in
    say_and (ltb 0 m) (slots_fit && heads_fit) (lt-ltb 0 m (omega arith))
    (say_and slots_fit heads_fit
    (eq-eqb (length (slot_words σ)) (1 + 16 * m) (omega (arith, size, slots_length σ w)))
    (eq-eqb (length (head_words σ)) (1 + 4 * m) (omega (arith, size, heads_length σ w))))

-- and back
pub say_test : (d : ℕ) (σ : Store) → Rests d σ → 1 ≤ cell_count σ → sound_words d (slot_words σ) (head_words σ) ≡ true
unfolding sound_words
say_test d σ h some =
    let w = whole h.holds in
    say_and (shaped (slot_words σ) (head_words σ)) (sound d (store_of (slot_words σ) (head_words σ)))
    (words_shaped σ w some h.holds.few)
    (ap (sound d) (store_back σ w h.holds.few) ∙ rests_test h)
