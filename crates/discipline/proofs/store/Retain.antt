-- The totals' word written, and a reference more.
use Rattle.prelude.specs.Kit.{ℕ, ◌≤◌, ◌+◌, ◌<◌, suc, arith, ◌≡◌, refl, ◌∙◌, sym, ap, subst, inl, inr, ◌⊎◌, List, ◌∷◌, ℤ}
use Rattle.prelude.specs.Kit.{lt-ltb}
use Rattle.semantics.specs.Basics.{occurrences, ◌∈◌}
use Rattle.semantics.specs.Store.{Cell, Store, cell, cell_count, inner, with_totals, with_cell, with_count, one_more}
use Rattle.semantics.specs.Store.{retained}
use Rattle.semantics.specs.Sound.{free_list, all_inner}
use Rattle.laws.specs.Releases.{count_with}
use Rattle.discipline.proofs.store.Invariant.{Tidy, Invariant, Alike}
use Rattle.discipline.proofs.store.Cells.{in_range, CellsAgree, agree_inner, Put, Here, There, put_size, put_cases}
use Rattle.discipline.proofs.store.Cells.{put_inner, put_agree, with_cell_put}
use Rattle.discipline.proofs.store.FreeList.{Listed, listed, listed_is, listed_used, links_keep}
use Rattle.discipline.proofs.store.Change.{few_names, relisted, Change, changed, changed_list}
use Rattle.discipline.proofs.store.Kept.{alike_all}

-- so many references to a cell are within its count of 32 bits
abbrev pub most_references : ℕ
most_references = 1000000000

-- ---- the totals' word

-- the cells and the free list are as they were
pub record Rewrites (σ : Store) (w : ℤ) (Z R : List ℕ) : Type 0 where
  pub holds : Invariant (with_totals σ w) Z R
  pub alike : (r : ℕ) → Alike σ (with_totals σ w) r
  pub free : free_list (with_totals σ w) ≡ free_list σ

totals_listed : (σ : Store) (w : ℤ) (l : List ℕ) → Listed σ l → Listed (with_totals σ w) l
unfolding with_totals cell
totals_listed σ w l h = record {
  links = links_keep σ (with_totals σ w) refl σ.first l (λ x g. refl) h.links;
  once = h.once;
}

pub rewrite_totals : {σ : Store} {Z R : List ℕ} (w : ℤ) → Invariant σ Z R → Rewrites σ w Z R
unfolding with_totals cell
rewrite_totals {σ} {Z} {R} w v = record {
  holds = holds;
  alike = alike_all v (λ c. (refl, refl, refl));
  free = (listed_is (with_totals σ w) (free_list σ) list).0;
}
  where
    list : Listed (with_totals σ w) (free_list σ)
    list = totals_listed σ w (free_list σ) (listed v)

    holds : Invariant (with_totals σ w) Z R
    holds = relisted (record {
      few = v.few;
      counts = v.counts;
      alone = v.alone;
      typed = v.typed;
      tidy = v.tidy;
      blank = v.blank;
    }) list

-- ---- retain

pub count_tidy : (x : Cell) (n : ℕ) → Tidy x → Tidy (with_count x n)
unfolding with_count
count_tidy x n t = record { whole = t.whole; size = t.size; depth = t.depth; next = t.next; zeros = t.zeros }

pub count_agree : (x : Cell) (n : ℕ) → CellsAgree (with_count x n) x
unfolding with_count
count_agree x n = (refl, refl, refl)

-- a cell in use gets another count above 0
module _ {σ : Store} {Z R : List ℕ} (v : Invariant σ Z R) (c n : ℕ) (used : 0 < (cell σ c).count) (more : 0 < n) where
  abbrev τ : Store
  τ = with_cell σ c (with_count (cell σ c) n)

  pub recount_put : Put σ τ c (with_count (cell σ c) n)
  recount_put = with_cell_put σ c (with_count (cell σ c) n) (in_range σ c used)

  pub recount_agree : (d : ℕ) → CellsAgree (cell τ d) (cell σ d)
  recount_agree = put_agree recount_put (count_agree (cell σ c) n)

  same_names : inner (with_count (cell σ c) n) ≡ inner (cell σ c)
  same_names = agree_inner (with_count (cell σ c) n) (cell σ c) (count_agree (cell σ c) n)

  recount_all_inner : (d : ℕ) → occurrences d (all_inner τ.cells) ≡ occurrences d (all_inner σ.cells)
  recount_all_inner d = omega (arith, put_inner recount_put d, ap (occurrences d) same_names)

  recount_list : Listed τ (free_list σ)
  unfolding with_cell
  recount_list = listed_used recount_put (free_list σ) (listed v) refl used (omega (arith, count_with (cell σ c) n))

  pub recount_change : (R' : List ℕ) →
      ((d : ℕ) → (cell τ d).count ≡ occurrences d R' + occurrences d Z + occurrences d (all_inner σ.cells)) →
      ((d : ℕ) → d ∈ Z → (cell τ d).count ≡ 1) → Change σ τ c (with_count (cell σ c) n) Z R' (free_list σ)
  recount_change R' counts alone = record {
    put = recount_put;
    counts = λ d. omega (arith, counts d, recount_all_inner d);
    alone = alone;
    typed = λ r h. (count_agree (cell σ c) n).1 ∙ v.typed c r (subst (λ (l : List ℕ). r ∈ l) same_names h)
        ∙ ap suc (sym (recount_agree r).1);
    depth = λ h. (count_agree (cell σ c) n).1;
    tidy = λ h. count_tidy (cell σ c) n (v.tidy c used);
    blank = λ e. absurd (omega (arith, e, count_with (cell σ c) n));
    list = recount_list;
  }

-- from σ to τ: the cell c has one reference more
pub record Retains (σ τ : Store) (c : ℕ) (Z R : List ℕ) : Type 0 where
  pub holds : Invariant τ Z (c ∷ R)
  pub alike : (r : ℕ) → Alike σ τ r
  pub free : free_list τ ≡ free_list σ
  pub cells : cell_count τ ≡ cell_count σ

one_more_small : (n : ℕ) → n < 4294967295 → one_more n ≡ suc n
unfolding one_more
one_more_small n h = rw (lt-ltb n 4294967295 h) (omega arith)

module _ {σ : Store} {Z R : List ℕ} (c : ℕ) (v : Invariant σ Z R)
    (named : 0 < occurrences c R + occurrences c (all_inner σ.cells)) where
  abbrev higher : Cell
  higher = with_count (cell σ c) (suc (cell σ c).count)

  held : 0 < (cell σ c).count
  held = omega (arith, v.counts c)

  retain_cases : (d : ℕ) → Here σ (with_cell σ c higher) c higher d ⊎ There σ (with_cell σ c higher) c d
  retain_cases = put_cases (recount_put v c (suc (cell σ c).count) held (omega arith))

  retain_change : Change σ (with_cell σ c higher) c higher Z (c ∷ R) (free_list σ)
  unfolding occurrences
  retain_change = recount_change v c (suc (cell σ c).count) held (omega arith) (c ∷ R)
      (λ d. elim (retain_cases d) [
        | inl g ↦ omega (arith, count_with (cell σ c) (suc (cell σ c).count), v.counts d)
        | inr g ↦ omega (arith, v.counts d)
      ])
      (λ d h. elim (retain_cases d) [
        | inl g ↦ absurd (omega (
          arith,
          v.alone d h,
          v.counts d,
          ap (λ (k : ℕ). occurrences k R) g.is,
          ap (λ (k : ℕ). occurrences k (all_inner σ.cells)) g.is,
        ))
        | inr g ↦ g.count ∙ v.alone d h
      ])

  -- of a cell that is held or named; the bound keeps the count within 32 bits
  pub retain : occurrences c R + occurrences c Z ≤ most_references → Retains σ (retained c σ) c Z R
  unfolding retained
  retain few = rw (one_more_small (cell σ c).count small) (record {
    holds = changed v retain_change;
    alike = alike_all v (recount_agree v c (suc (cell σ c).count) held (omega arith));
    free = changed_list v retain_change;
    cells = put_size retain_change.put;
  })
    where
      small : (cell σ c).count < 4294967295
      small = omega (arith, v.counts c, few_names v c)
