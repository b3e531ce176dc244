-- A cell taken from the free list: with words, or empty for the result of a map or a filter.
use Rattle.prelude.specs.Kit.{ℕ, ◌≤◌, ◌+◌, ◌<◌, suc, zero, arith, true, false, ◌≡◌, refl, ◌∙◌, sym, ap, subst, inl, inr}
use Rattle.prelude.specs.Kit.{List, [], ◌∷◌, ◌++◌, map, ℤ, pos, length, get_or-eq_default, ltb-true}
use Rattle.semantics.specs.Basics.{occurrences, ◌∈◌}
use Rattle.semantics.specs.Value.{Value, list}
use Rattle.semantics.specs.Store.{Cell, Store, cell, cell_of, cell_count, inner, elements, named_by, filled, has_free}
use Rattle.semantics.specs.Store.{acquired, with_cell, with_first}
use Rattle.semantics.specs.Sound.{free_list, free_from, due, all_inner}
use Rattle.semantics.specs.Demands.{value_of}
use Rattle.laws.specs.Lists.{occurrences_append}
use Rattle.laws.specs.Cells.{named_by_none}
use Rattle.discipline.proofs.store.Invariant.{Tidy, Invariant, Alike, Keeps}
use Rattle.discipline.proofs.store.Claims.{Shallow}
use Rattle.discipline.proofs.store.Counting.{hits_itself}
use Rattle.discipline.proofs.store.Tabulate.{padded_length, padded_at, take_padded}
use Rattle.discipline.proofs.store.Cells.{same_agree, Put, put_size, put_cases, put_inner, put_same, put_other}
use Rattle.discipline.proofs.store.Cells.{with_first_put}
use Rattle.discipline.proofs.store.FreeList.{Links, Listed, listed, listed_is, listed_taken}
use Rattle.discipline.proofs.store.Change.{set_aside, root_used, free_names, Change, changed}
use Rattle.discipline.proofs.store.Kept.{alike_used, words_alike}

-- ---- a filled cell

pub filled_elements : (d : ℕ) (ws : List ℤ) → length ws ≤ 16 → elements (filled d ws) ≡ ws
unfolding filled elements
filled_elements d ws h = take_padded ws h

pub filled_inner : (d : ℕ) (ws : List ℤ) → length ws ≤ 16 → inner (filled d ws) ≡ named_by d ws
unfolding filled inner
filled_inner d ws h = ap (named_by d) (filled_elements d ws h)

filled_tidy : (d : ℕ) (ws : List ℤ) → length ws ≤ 16 → d ≤ 3 → Tidy (filled d ws)
unfolding filled
filled_tidy d ws h l = record {
  whole = padded_length ws;
  size = omega arith;
  depth = l;
  next = refl;
  zeros = λ i a b. padded_at ws i b ∙ get_or-eq_default ws (pos 0) (omega arith);
}

filled_head : (d : ℕ) (ws : List ℤ) → ((filled d ws).count ≡ 1) × ((filled d ws).depth ≡ d)
unfolding filled
filled_head d ws = (refl, refl)

-- ---- the first free cell

-- where no cell is free, the list is empty
pub none_free : (σ : Store) → has_free σ ≡ false → free_list σ ≡ []
unfolding has_free free_list free_from
none_free σ e = go (cell_count σ)
  where
    go : (n : ℕ) → free_from σ σ.first n ≡ []
    go zero = refl
    go (suc n) = rw (e, free_from) refl

due_none : (n : ℕ) → due n ≡ 0 → 0 < n
due_none zero h = absurd (omega (arith, h))
due_none (suc n) h = omega arith

-- where no cell is free, each is taken
pub none_left : {σ : Store} {Z R : List ℕ} → Invariant σ Z R → has_free σ ≡ false → (c : ℕ) → c < cell_count σ →
    0 < (cell σ c).count
unfolding occurrences
none_left {σ} i e c h = due_none (cell σ c).count
    (sym (i.free c h) ∙ ap (occurrences c) (none_free σ e))

first_listed : (σ : Store) (l : List ℕ) → Links σ σ.first l → σ.first < cell_count σ →
    (m : List ℕ) × (l ≡ σ.first ∷ m)
first_listed σ [] k h = absurd (omega arith)
first_listed σ (x ∷ m) k h = (m, ap (λ (y : ℕ). y ∷ m) (sym k.0))

due_free : (n : ℕ) → 0 < due n → n ≡ 0
due_free zero h = refl
due_free (suc n) h = absurd (omega arith)

-- ---- acquire

-- from σ to τ: the first of the free list is taken
pub record Takes (σ τ : Store) : Type 0 where
  pub free : free_list σ ≡ σ.first ∷ free_list τ
  pub cells : cell_count τ ≡ cell_count σ
  pub was_free : (cell σ σ.first).count ≡ 0

-- and it has the words ws of depth d
pub record Acquires (σ τ : Store) (d : ℕ) (ws : List ℤ) (Z R : List ℕ) : Type 0 where
  pub taken : Takes σ τ
  pub holds : Invariant τ Z (σ.first ∷ R)
  pub keeps : Keeps σ τ (Z ++ (named_by d ws ++ R))
  -- all cells that were in use are left alone
  pub alike : (r : ℕ) → 0 < (cell σ r).count → Alike σ τ r
  pub new : cell τ σ.first ≡ filled d ws
  pub value : value_of τ (suc d) (pos σ.first) ≡ list (map (value_of σ d) ws)

-- whatever the words are
module _ {σ : Store} {Z R : List ℕ} (d : ℕ) (ws : List ℤ) (v : Invariant σ Z R) (within : σ.first < cell_count σ) where
  abbrev c : ℕ
  c = σ.first

  abbrev τ : Store
  τ = with_first (with_cell σ c (filled d ws)) (cell σ c).next

  rest : (m : List ℕ) × (free_list σ ≡ c ∷ m)
  rest = first_listed σ (free_list σ) (listed v).links within

  is_free : (cell σ c).count ≡ 0
  unfolding occurrences
  is_free = due_free (cell σ c).count (omega (arith, v.free c within, ap (occurrences c) rest.1, hits_itself c))

  taken_put : Put σ τ c (filled d ws)
  taken_put = with_first_put σ c (filled d ws) (cell σ c).next within

  -- what was in use stays as it is
  taken_kept : (r : ℕ) → 0 < (cell σ r).count → cell τ r ≡ cell σ r
  taken_kept r h = put_other taken_put r (λ e. omega (arith, is_free, ap (λ (k : ℕ). (cell σ k).count) e))

  taken_list : Listed τ rest.0
  unfolding with_first
  taken_list =
      listed_taken taken_put rest.0 (subst (Listed σ) rest.1 (listed v)) refl (omega (arith, filled_head d ws))

  takes : Takes σ τ
  takes = record {
    free = rest.1 ∙ ap (λ (l : List ℕ). c ∷ l) (sym (listed_is τ rest.0 taken_list).0);
    cells = put_size taken_put;
    was_free = is_free;
  }

  taken_alike : (r : ℕ) → 0 < (cell σ r).count → Alike σ τ r
  taken_alike = alike_used v (λ n h. same_agree (cell τ n) (cell σ n) (taken_kept n h))

  -- where the words hold their cells, beside the references S
  module _ (S : List ℕ) (held : (n : ℕ) → occurrences n R ≡ occurrences n (named_by d ws) + occurrences n S)
      (short : length ws ≤ 16) (shallow : Shallow d)
      (typed : (r : ℕ) → r ∈ named_by d ws → d ≡ suc (cell σ r).depth) where
    taken_inner : (n : ℕ) →
        occurrences n (all_inner τ.cells) ≡ occurrences n (all_inner σ.cells) + occurrences n (named_by d ws)
    taken_inner n =
        omega (arith, put_inner taken_put n, free_names v c n is_free, ap (occurrences n) (filled_inner d ws short))

    taken_counts : (n : ℕ) →
        (cell τ n).count ≡ occurrences n (c ∷ S) + occurrences n Z + occurrences n (all_inner τ.cells)
    unfolding occurrences
    taken_counts n =
        let before = v.counts n in
        let split = held n in
        elim (put_cases taken_put n) [
          | inl g ↦ omega (arith, filled_head d ws, is_free, taken_inner n)
          | inr g ↦ omega (arith, taken_inner n)
        ]

    word_used : (r : ℕ) → r ∈ named_by d ws → 0 < (cell σ r).count
    word_used r h = omega (arith, v.counts r, held r)

    taken_typed : (r : ℕ) → r ∈ inner (filled d ws) → (filled d ws).depth ≡ suc (cell τ r).depth
    taken_typed r h =
        let named : r ∈ named_by d ws = subst (λ (l : List ℕ). r ∈ l) (filled_inner d ws short) h in
        (filled_head d ws).1 ∙ typed r named ∙ ap (λ (y : Cell). suc y.depth) (sym (taken_kept r (word_used r named)))

    taken_change : Change σ τ c (filled d ws) Z (c ∷ S) rest.0
    taken_change = record {
      put = taken_put;
      counts = taken_counts;
      alone = λ n h. ap (λ (y : Cell). y.count) (taken_kept n (omega (arith, v.alone n h))) ∙ v.alone n h;
      typed = taken_typed;
      depth = λ h. absurd (omega (arith, is_free, v.counts c));
      tidy = λ h. filled_tidy d ws short shallow;
      blank = λ e. absurd (omega (arith, e, filled_head d ws));
      list = taken_list;
    }

    taken_value : value_of τ (suc d) (pos c) ≡ list (map (value_of σ d) ws)
    unfolding value_of cell_of
    taken_value =
        ap (λ (l : List ℤ). list (map (value_of τ d) l)) (ap elements (put_same taken_put) ∙ filled_elements d ws short)
        ∙ ap (λ (l : List Value). list l) (words_alike d ws (λ r h. (taken_alike r (word_used r h), typed r h)))

    acquires : Acquires σ τ d ws Z S
    acquires = record {
      taken = takes;
      holds = changed v taken_change;
      keeps = record {
        keep = λ r h. taken_alike r (root_used v r (omega (
          arith,
          h,
          held r,
          occurrences_append r Z R,
          occurrences_append r Z (named_by d ws ++ S),
          occurrences_append r (named_by d ws) S,
        )));
      };
      alike = taken_alike;
      new = put_same taken_put;
      value = taken_value;
    }

-- whatever words go into it, the first of the free list is taken
pub acquire_takes : {σ : Store} {Z R : List ℕ} (d : ℕ) (ws : List ℤ) → Invariant σ Z R → has_free σ ≡ true →
    Takes σ (acquired d ws σ)
unfolding acquired has_free
acquire_takes {σ} d ws v e = rw e (takes d ws v (ltb-true σ.first (cell_count σ) e))

-- the words' references go into the cell
pub acquire : {σ : Store} {Z R : List ℕ} (d : ℕ) (ws : List ℤ) → Invariant σ Z (named_by d ws ++ R) →
    has_free σ ≡ true → length ws ≤ 16 → Shallow d → ((r : ℕ) → r ∈ named_by d ws → d ≡ suc (cell σ r).depth) →
    Acquires σ (acquired d ws σ) d ws Z R
unfolding acquired has_free
acquire {σ} {Z} {R} d ws v e short shallow typed =
    rw e (acquires d ws v (ltb-true σ.first (cell_count σ) e) R (λ n. occurrences_append n (named_by d ws) R) short
    shallow typed)

-- without words
pub acquire_empty : {σ : Store} {Z R : List ℕ} (d : ℕ) → Invariant σ Z R → has_free σ ≡ true → Shallow d →
    Acquires σ (acquired d [] σ) d [] Z R
unfolding occurrences
acquire_empty {σ} {Z} {R} d v e shallow =
    acquire d [] (subst (λ (l : List ℕ). Invariant σ Z (l ++ R)) (sym (named_by_none d)) v) e (omega arith) shallow
    (λ r h. absurd (omega (arith, ap (occurrences r) (named_by_none d))))

-- ---- reserve

-- from σ to τ: the first of the free list is taken for the empty result of a loop in progress
pub record Reserves (σ τ : Store) (d : ℕ) (Z R : List ℕ) : Type 0 where
  pub taken : Takes σ τ
  pub holds : Invariant τ (σ.first ∷ Z) R
  pub keeps : Keeps σ τ (Z ++ R)
  pub alike : (r : ℕ) → 0 < (cell σ r).count → Alike σ τ r
  pub new : cell τ σ.first ≡ filled d []

pub reserve : {σ : Store} {Z R : List ℕ} (d : ℕ) → Invariant σ Z R → has_free σ ≡ true → Shallow d →
    Reserves σ (acquired d [] σ) d Z R
reserve {σ} {Z} {R} d v e shallow = record {
  taken = a.taken;
  holds = set_aside (ap (λ (y : Cell). y.count) a.new ∙ (filled_head d []).0) a.holds;
  keeps = record { keep = λ r h. a.alike r (root_used v r h) };
  alike = a.alike;
  new = a.new;
}
  where
    a : Acquires σ (acquired d [] σ) d [] Z R
    a = acquire_empty d v e shallow
