-- The ways out of writing.
use Rattle.prelude.specs.Kit.{ℕ, ◌≤◌, ◌+◌, ◌<◌, ◌-◌, suc, ◌*◌, ◌%◌, ◌/◌, arith, ◌≡◌, refl, ◌∙◌, sym, ap, ◌≢◌, List}
use Rattle.prelude.specs.Kit.{[], ◌∷◌, ◌++◌, ℤ, pos, length, get_or, set, drop, length-append, drop_of_length-le}
use Rattle.prelude.specs.Kit.{drop-cons, sets, lt-ltb, le-ltb, zero, Bool, true, false, cond, leb, le-leb, lt-leb, leb-true}
use Rattle.prelude.specs.Kit.{leb-false}
use Rattle.std.specs.Prelude.{Some, None}
use Rattle.semantics.specs.Store.{Store, cell, cell_of, elements}
use Rattle.semantics.specs.Saved.{Entry, unsigned, low_bytes}
use Rattle.saved_write.specs.Writing.{entry, gather, entries_at, counted, Written, written, put_entry, put_entries}

-- ---- bytes

pub no_bytes : (l : List ℕ) (i n count : ℕ) → count ≡ 0 → l ≡ sets l i (low_bytes count n)
unfolding low_bytes
no_bytes l i n count e = rw (e, low_bytes) refl

pub more_bytes : (l m r : List ℕ) (i n count : ℕ) → count ≢ 0 → m ≡ set l i (n % 256) →
    r ≡ sets m (i + 1) (low_bytes (count - 1) (n / 256)) → r ≡ sets l i (low_bytes count n)
unfolding low_bytes
more_bytes l m r i n count h e f =
    let next : i + 1 ≡ suc i = omega arith in
    f ∙ ap (λ (j : ℕ). sets m j (low_bytes (count - 1) (n / 256))) next
    ∙ ap (λ (t : List ℕ). sets t (suc i) (low_bytes (count - 1) (n / 256))) e
    ∙ sym (ap (λ (j : ℕ). sets l i (low_bytes j n)) (let e : count ≡ suc (count - 1) = omega (arith, h) in e))

-- ---- one entry

pub no_entry : (k p : ℕ) (e : Entry) (l : List ℕ) → k ≤ p → written p l ≡ put_entry k e (written p l)
unfolding put_entry
no_entry k p e l h = rw (le-ltb p k h) refl

pub one_entry : (k p mark : ℕ) (z : ℤ) (l m r : List ℕ) (n : ℕ) → p < k → m ≡ set l (3 + p) mark → n ≡ unsigned z →
    r ≡ sets m (3 + k + 8 * p) (low_bytes 8 n) → written (p + 1) r ≡ put_entry k (entry mark z) (written p l)
unfolding put_entry
one_entry k p mark z l m r n h e f g = rw (lt-ltb p k h) (ap (written (p + 1)) (rw (e, f) at g))

-- ---- words in turn

module _ (f : ℤ → List Entry) (ws : List ℤ) (i : ℕ) (h : i < length ws) where
  pub gather_next : gather f (drop i ws) ≡ f (get_or ws i (pos 0)) ++ gather f (drop (i + 1) ws)
  unfolding gather
  gather_next =
      let next : suc i ≡ i + 1 = omega arith in
      ap (gather f) (drop-cons ws i (pos 0) h ∙ ap (λ (j : ℕ). get_or ws i (pos 0) ∷ drop j ws) next)

gather_end : (f : ℤ → List Entry) (ws : List ℤ) (i : ℕ) → length ws ≤ i → gather f (drop i ws) ≡ []
unfolding gather
gather_end f ws i h = ap (gather f) (drop_of_length-le ws h)

-- the entries of an array
array_entries : (σ : Store) (d : ℕ) (w : ℤ) → d ≢ 0 → entries_at σ d w ≡
    entry (suc (length (elements (cell σ (cell_of w))))) (pos 0)
    ∷ gather (entries_at σ (d - 1)) (elements (cell σ (cell_of w)))
unfolding entries_at
array_entries σ d w h = ap (λ (j : ℕ). entries_at σ j w) (let e : d ≡ suc (d - 1) = omega (arith, h) in e)

-- ---- counting

pub counted_some : (k m : ℕ) → Some k ≡ counted m → (k ≡ m) × (k ≤ 4096)
unfolding counted
counted_some k m e = by (leb m 4096) refl e
  where
    by : (t : Bool) → leb m 4096 ≡ t → Some k ≡ cond t (Some m) None → (k ≡ m) × (k ≤ 4096)
    by true f g = let same : k ≡ m = cc in (same, omega (arith, same, leb-true m 4096 f))
    by false f g = absurd (let z : ◌≡◌ {A = ℕ} 0 1 = cc in omega arith)

pub counted_none : (m : ℕ) → None ≡ counted m → 4096 < m
unfolding counted
counted_none m e = by (leb m 4096) refl e
  where
    by : (t : Bool) → leb m 4096 ≡ t → None ≡ cond t (Some m) None → 4096 < m
    by true f g = absurd (let z : ◌≡◌ {A = ℕ} 0 1 = cc in omega arith)
    by false f g = leb-false m 4096 f

few_counted : (m : ℕ) → m ≤ 4096 → Some m ≡ counted m
unfolding counted
few_counted m h = rw (le-leb m 4096 h) refl

many_counted : (m : ℕ) → 4096 < m → None ≡ counted m
unfolding counted
many_counted m h = rw (lt-leb m 4096 h) refl

entries_some : (σ : Store) (d : ℕ) (w : ℤ) → 0 < length (entries_at σ d w)
unfolding entries_at
entries_some σ zero w = omega arith
entries_some σ (suc d) w = omega arith

pub full : (σ : Store) (d : ℕ) (w : ℤ) (n : ℕ) → 4096 ≤ n → None ≡ counted (n + length (entries_at σ d w))
full σ d w n h = many_counted _ (omega (arith, h, entries_some σ d w))

module _ (σ : Store) (d : ℕ) (w : ℤ) (n : ℕ) where
  pub count_number : n < 4096 → d ≡ 0 → Some (n + 1) ≡ counted (n + length (entries_at σ d w))
  unfolding entries_at
  count_number h e = rw (e, entries_at) (few_counted (n + 1) (omega (arith, h)))

  abbrev words : List ℤ
  words = elements (cell σ (cell_of w))

  abbrev inside : ℤ → List Entry
  inside = entries_at σ (d - 1)

  -- r entries are counted, before those of the words from i on
  abbrev pub Counting : ℕ → ℕ → Type 0
  Counting r i = n + length (entries_at σ d w) ≡ r + length (gather inside (drop i words))

  pub count_starts : d ≢ 0 → Counting (n + 1) 0
  count_starts h = omega (arith, ap length (array_entries σ d w h))

  module _ (r i : ℕ) (inv : Counting r i) where
    -- the entries of the next word, and of those after it
    module _ (h : i < length words) (u : ℤ) (e : u ≡ get_or words i (pos 0)) where
      turn : Counting (r + length (inside u)) (i + 1)
      turn = omega (
        arith,
        inv,
        ap length (gather_next inside words i h),
        length-append (inside (get_or words i (pos 0))) (gather inside (drop (i + 1) words)),
        ap (λ (y : ℤ). length (inside y)) e,
      )

      pub count_goes : (m : ℕ) → Some m ≡ counted (r + length (inside u)) → (m ≤ 4096) × Counting m (i + 1)
      count_goes m f =
          let s = counted_some m (r + length (inside u)) f in
          (s.1, omega (arith, turn, s.0))

      pub count_stops : None ≡ counted (r + length (inside u)) → None ≡ counted (n + length (entries_at σ d w))
      count_stops f = many_counted _ (omega (arith, turn, counted_none (r + length (inside u)) f))

    pub count_ends : r ≤ 4096 → length words ≤ i → Some r ≡ counted (n + length (entries_at σ d w))
    count_ends few h =
        let all : r ≡ n + length (entries_at σ d w) = omega (arith, inv, ap length (gather_end inside words i h)) in
        ap Some all ∙ few_counted _ (omega (arith, few, all))

-- ---- writing

pub put_append : (k : ℕ) (es fs : List Entry) (s : Written) →
    put_entries k (es ++ fs) s ≡ put_entries k fs (put_entries k es s)
unfolding put_entries
put_append k [] fs s = refl
put_append k (e ∷ es) fs s = put_append k es fs (put_entry k e s)

module _ (σ : Store) (d : ℕ) (w : ℤ) (k : ℕ) (s : Written) where
  pub write_number : d ≡ 0 → (t : Written) → t ≡ put_entry k (entry 0 w) s → t ≡ put_entries k (entries_at σ d w) s
  unfolding entries_at put_entries
  write_number e t f = f ∙ rw (e, entries_at) refl

  abbrev elements_of : List ℤ
  elements_of = elements (cell σ (cell_of w))

  abbrev below : ℤ → List Entry
  below = entries_at σ (d - 1)

  -- the elements' entries from t₀ on, where those of the words from i on are left at t
  abbrev pub Going : Written → Written → ℕ → Type 0
  Going t₀ t i = put_entries k (gather below elements_of) t₀ ≡ put_entries k (gather below (drop i elements_of)) t

  pub write_goes : (t₀ t : Written) (i : ℕ) → Going t₀ t i → i < length elements_of → (u : ℤ) →
      u ≡ get_or elements_of i (pos 0) → (r : Written) → r ≡ put_entries k (below u) t → Going t₀ r (i + 1)
  write_goes t₀ t i inv h u e r f = inv
      ∙ ap (λ (es : List Entry). put_entries k es t) (gather_next below elements_of i h)
      ∙ put_append k (below (get_or elements_of i (pos 0))) (gather below (drop (i + 1) elements_of)) t
      ∙ ap (put_entries k (gather below (drop (i + 1) elements_of)))
      (ap (λ (y : ℤ). put_entries k (below y) t) (sym e) ∙ sym f)

  -- after the array's own entry and all elements
  pub write_ends : d ≢ 0 → (n : ℕ) → n ≡ length elements_of → (t₀ t : Written) (i : ℕ) →
      t₀ ≡ put_entry k (entry (n + 1) (pos 0)) s → Going t₀ t i → length elements_of ≤ i →
      t ≡ put_entries k (entries_at σ d w) s
  unfolding put_entries
  write_ends h n e t₀ t i f inv g =
      let next : n + 1 ≡ suc (length elements_of) = omega (arith, e) in
      sym (inv ∙ ap (λ (es : List Entry). put_entries k es t) (gather_end below elements_of i g))
      ∙ ap (put_entries k (gather below elements_of)) (f ∙ ap (λ (m : ℕ). put_entry k (entry m (pos 0)) s) next)
      ∙ sym (ap (λ (es : List Entry). put_entries k es s) (array_entries σ d w h))
