-- The ways out of loading by entries.
use Rattle.prelude.specs.Kit.{ℕ, ◌≤◌, ◌+◌, ◌<◌, ◌-◌, suc, zero, ◌*◌, arith, true, false, Bool, cond, ◌≡◌, refl, ◌∙◌}
use Rattle.prelude.specs.Kit.{sym, ap, subst, ◌≢◌, List, [], ℤ, pos, lt-ltb, le-ltb, ltb-true}
use Rattle.semantics.specs.Outcome.{Outcome, done, stop, Run, onward}
use Rattle.semantics.specs.Number.{bytes_at, signed}
use Rattle.semantics.specs.Store.{Store, cell_count, has_free, acquired}
use Rattle.semantics.specs.Words.{cells_in, store_of}
use Rattle.store_words.proofs.CellWords.{store_size}
use Rattle.std.specs.Prelude.{Option, Some, None}
use Rattle.store.specs.declared.Gained.{Gained}
use Rattle.store.specs.Acquiring.{gained, next_cell}
use Rattle.store.proofs.Filling.{cell_given}
use Rattle.saved_load.specs.Entries.{Place, place, appended_at, fill, elements_at, load_at}
use Rattle.saved_load.specs.Entries.{value_loaded, Ended, Filled}
use Rattle.saved_load.specs.declared.Loaded.{Loaded}

-- ---- answers and outcomes

pub ended_some : (o : Outcome Place ℤ) (v : Loaded) (τ : Store) → Ended o (Some v) τ →
    o ≡ done v.word (place v.next v.free τ)
ended_some (done w s) v τ h =
    let told = h.0 in
    let is : value_loaded w s.next s.free ≡ v = cc in
    let same : w ≡ v.word = ap (λ (x : Loaded). x.word) is in
    let next : s.next ≡ v.next = ap (λ (x : Loaded). x.next) is in
    let free : s.free ≡ v.free = ap (λ (x : Loaded). x.free) is in
    ap (λ (u : ℤ). done u s) same
    ∙ (λ i. done v.word (record { next = next i; free = free i; store = sym h.1 i }))
ended_some (stop m s) v τ h = absurd (let z : ◌≡◌ {A = ℕ} 0 1 = cc in omega arith)

-- a stop for want of a cell
pub record Stopped {A : Type 0} (o : Outcome Place A) : Type 0 where
  pub at : Place
  pub is : o ≡ stop 25 at

pub ended_none : (o : Outcome Place ℤ) (τ : Store) → Ended o None τ → Stopped o
ended_none (done v s) τ h =
    let told = h.0 in
    absurd (let z : ◌≡◌ {A = ℕ} 0 1 = cc in omega arith)
ended_none (stop m s) τ h =
    let number : m ≡ 25 = cc in
    record { at = s; is = ap (λ (j : ℕ). stop j s) number }

-- ---- the next free cell

-- the cell that an acquire answers, with so many free before it, and how many remain
pub record Acquires (slots : List ℤ) (heads : List ℕ) (free c left : ℕ) : Type 0 where
  pub has : has_free (store_of slots heads) ≡ true
  pub first : c ≡ (store_of slots heads).first
  pub fewer : left ≡ free - 1
  pub small : c < 256

few_cells : (slots : List ℤ) (heads : List ℕ) → cell_count (store_of slots heads) ≤ 256
unfolding cells_in
few_cells slots heads = omega (arith, store_size slots heads)

pub cell_is : (slots : List ℤ) (heads : List ℕ) (free : ℕ) (g : Gained) →
    done g tt ≡ next_cell free (store_of slots heads) → Acquires slots heads free g.cell g.left
unfolding has_free
cell_is slots heads free g e =
    let σ = store_of slots heads in
    let given = cell_given free σ g e in
    record {
      has = given.0;
      first = ap (λ (x : Gained). x.cell) given.1;
      fewer = ap (λ (x : Gained). x.left) given.1;
      small = omega (
        arith,
        ap (λ (x : Gained). x.cell) given.1,
        few_cells slots heads,
        ltb-true σ.first (cell_count σ) given.0,
      );
    }

pub none_is : (free : ℕ) (σ : Store) → stop 25 tt ≡ next_cell free σ → has_free σ ≡ false
unfolding next_cell
none_is free σ e = by (has_free σ) refl e
  where
    by : (b : Bool) → has_free σ ≡ b →
        ◌≡◌ {A = Outcome (Unit {0}) Gained} (stop 25 tt) (cond b (done (gained σ.first (free - 1)) tt) (stop 25
        tt)) →
        has_free σ ≡ false
    by true g q = absurd (let z : ◌≡◌ {A = ℕ} 0 1 = cc in omega arith)
    by false g q = g

-- ---- one value

module _ (file : List ℕ) (k : ℕ) where
  pub past : (d p f : ℕ) (σ : Store) → k ≤ p → Ended (load_at file k d (place p f σ)) None σ
  unfolding load_at
  past zero p f σ h = rw (le-ltb p k h) refl
  past (suc d) p f σ h = rw (le-ltb p k h) refl

  module _ (d p f : ℕ) (σ : Store) (within : p < k) where
    pub number : d ≡ 0 → (w : ℤ) → w ≡ signed (bytes_at 8 file (3 + k + 8 * p)) →
        Ended (load_at file k d (place p f σ)) (Some (value_loaded w (p + 1) f)) σ
    unfolding load_at
    number e w is = rw (e, load_at, lt-ltb p k within) (ap (λ (z : ℤ). done (value_loaded z (p + 1) f) tt) is, refl)

    at_array : d ≢ 0 → load_at file k d (place p f σ) ≡ load_at file k (suc (d - 1)) (place p f σ)
    at_array h = ap (λ (n : ℕ). load_at file k n (place p f σ)) (let e : d ≡ suc (d - 1) = omega (arith, h) in e)

    pub dry : d ≢ 0 → has_free σ ≡ false → (τ : Store) → Ended (load_at file k d (place p f σ)) None τ
    unfolding load_at
    dry h e τ = subst (λ (o : Outcome Place ℤ). Ended o None τ) (sym (at_array h))
        (rw (lt-ltb p k within, e) refl)

    filled_ends : (c : ℕ) (o : Outcome Place (Unit {0})) (r : Option Loaded) (τ : Store) → Filled c o r τ →
        Ended (onward (λ _ t. done (pos c) t) o) r τ
    unfolding onward
    filled_ends c (done u s) r τ h = h
    filled_ends c (stop n s) r τ h = h

    pub goes_down : d ≢ 0 → has_free σ ≡ true → (c : ℕ) → c ≡ σ.first → (g : ℕ) → g ≡ f - 1 → (υ : Store) →
        υ ≡ acquired (d - 1) [] σ → (r : Option Loaded) (τ : Store) →
        Filled c (fill (load_at file k (d - 1)) c (elements_at file k p) (place (p + 1) g υ)) r τ →
        Ended (load_at file k d (place p f σ)) r τ
    unfolding load_at
    goes_down h e c ce g ge υ ue r τ filled =
        subst (λ (o : Outcome Place ℤ). Ended o r τ) (sym (at_array h))
        (rw (lt-ltb p k within, e)
        (rw (ce, ge, ue) at
        (filled_ends c (fill (load_at file k (d - 1)) c (elements_at file k p) (place (p + 1) g υ)) r τ filled)))

-- ---- elements in turn

module _ (load : Run Place ℤ) (c : ℕ) where
  fill_step : (n i : ℕ) (s : Place) → i < n →
      fill load c (n - i) s ≡ onward (λ w t. fill load c (n - (i + 1)) (appended_at c w t)) (load s)
  unfolding fill
  fill_step n i s h =
      ap (λ (j : ℕ). fill load c j s) (let e : n - i ≡ suc (n - (i + 1)) = omega arith in e)

  -- n elements from s₀ on, of which i are there and the others are from s on
  module _ (n i : ℕ) (s₀ s : Place) (inv : fill load c n s₀ ≡ fill load c (n - i) s) where
    pub goes_on : i < n → (w : ℤ) (t : Place) → load s ≡ done w t →
        fill load c n s₀ ≡ fill load c (n - (i + 1)) (appended_at c w t)
    unfolding onward
    goes_on left w t e =
        inv ∙ fill_step n i s left ∙ ap (onward (λ w t. fill load c (n - (i + 1)) (appended_at c w t))) e

    pub runs_dry : i < n → Stopped (load s) → (τ : Store) → Filled c (fill load c n s₀) None τ
    unfolding onward
    runs_dry left h τ = subst (λ (o : Outcome Place (Unit {0})). Filled c o None τ)
        (sym (inv ∙ fill_step n i s left ∙ ap (onward (λ w t. fill load c (n - (i + 1)) (appended_at c w t))) h.is)) refl

    pub all_filled : n ≤ i → (w : ℤ) → w ≡ pos c →
        Filled c (fill load c n s₀) (Some (value_loaded w s.next s.free)) s.store
    unfolding fill
    all_filled e w we =
        subst (λ (o : Outcome Place (Unit {0})). Filled c o (Some (value_loaded w s.next s.free)) s.store)
        (sym (inv ∙ ap (λ (j : ℕ). fill load c j s) (let f : n - i ≡ 0 = omega arith in f))) (
          ap (λ (z : ℤ). done (value_loaded z s.next s.free) tt) we,
          refl,
        )
