-- The invariant: what follows from it at once, and how it is kept where one cell is written.
use Rattle.prelude.specs.Kit.{ℕ, ◌≤◌, ◌+◌, ◌<◌, suc, arith, dec_lt, ◌≡◌, refl, ◌∙◌, sym, ap, subst, inl, inr, List, []}
use Rattle.prelude.specs.Kit.{◌∷◌, ◌++◌, length, get_or, le-ltb}
use Rattle.semantics.specs.Basics.{occurrences, ◌∈◌}
use Rattle.semantics.specs.Store.{Cell, Store, cell, cell_count, clear, inner}
use Rattle.semantics.specs.Sound.{free_list, all_inner}
use Rattle.semantics.specs.Machine.{touching}
use Rattle.laws.specs.Lists.{◌≈◌, hits, occurrences_append}
use Rattle.discipline.proofs.store.Invariant.{Tidy, Invariant}
use Rattle.discipline.proofs.store.Counting.{occurs_at_most}
use Rattle.discipline.proofs.store.Cells.{in_range, clear_names, unused_names, inner_short, short_list}
use Rattle.discipline.proofs.store.Cells.{inner_in_all}
use Rattle.discipline.proofs.store.Cells.{Put, put_size, put_cases}
use Rattle.discipline.proofs.store.FreeList.{Listed, listed_is, due_used}

-- ---- the references, regrouped

-- the same references, of which others may be set aside as the one reference of a result in progress
pub regroup : {σ : Store} {Z R : List ℕ} (Z' R' : List ℕ) → Invariant σ Z R →
    ((c : ℕ) → occurrences c R' + occurrences c Z' ≡ occurrences c R + occurrences c Z) →
    ((c : ℕ) → c ∈ Z' → (cell σ c).count ≡ 1) → Invariant σ Z' R'
regroup Z' R' v same alone = record {
  few = v.few;
  counts = λ c. omega (arith, v.counts c, same c);
  alone = alone;
  typed = v.typed;
  tidy = v.tidy;
  blank = v.blank;
  free = v.free;
  ends = v.ends;
}

-- both lists are multisets
pub permute : {σ : Store} {Z R : List ℕ} (Z' R' : List ℕ) → Invariant σ Z R → Z ≈ Z' → R ≈ R' → Invariant σ Z' R'
permute Z' R' v p q = regroup Z' R' v (λ c. omega (arith, p c, q c)) (λ c h. v.alone c (omega (arith, p c)))

-- the result of a map or a filter, finished: its own reference is then held outside as any other
pub commit : {σ : Store} {c : ℕ} {Z R : List ℕ} → Invariant σ (c ∷ Z) R → Invariant σ Z (c ∷ R)
unfolding occurrences
commit {σ} {c} {Z} {R} v = regroup Z (c ∷ R) v (λ d. omega arith) (λ d h. v.alone d (omega arith))

-- and back: a cell with one reference is set aside
pub set_aside : {σ : Store} {c : ℕ} {Z R : List ℕ} → (cell σ c).count ≡ 1 → Invariant σ Z (c ∷ R) → Invariant σ (c ∷ Z) R
unfolding occurrences
set_aside {σ} {c} {Z} {R} e v = regroup (c ∷ Z) R v (λ d. omega arith) (λ d h. elim (hits d c) [
  | inl g ↦ ap (λ (k : ℕ). (cell σ k).count) g.0 ∙ e
  | inr g ↦ v.alone d (omega arith)
])

-- ---- cells in use

module _ {σ : Store} {Z R : List ℕ} (v : Invariant σ Z R) where
  -- a cell that is held, being filled, or named has a count
  pub named_used : (c : ℕ) → c ∈ all_inner σ.cells → 0 < (cell σ c).count
  named_used c h = omega (arith, v.counts c)

  pub held_used : (c : ℕ) → c ∈ R → 0 < (cell σ c).count
  held_used c h = omega (arith, v.counts c)

  pub root_used : (c : ℕ) → c ∈ (Z ++ R) → 0 < (cell σ c).count
  root_used c h = omega (arith, v.counts c, occurrences_append c Z R)

  pub inner_used : (d c : ℕ) → c ∈ inner (cell σ d) → 0 < (cell σ c).count
  inner_used d c h = named_used c (omega (arith, inner_in_all c σ d))

  -- a cell without a count names nothing
  pub free_names : (c n : ℕ) → (cell σ c).count ≡ 0 → occurrences n (inner (cell σ c)) ≡ 0
  unfolding occurrences
  free_names c n e = ap (occurrences n) (unused_names σ v.blank c e)

  -- so what names a cell is in use itself
  pub namer_used : (d c : ℕ) → c ∈ inner (cell σ d) → 0 < (cell σ d).count
  namer_used d c h = elim (dec_lt 0 (cell σ d).count) [
    | yes g ↦ g
    | no g ↦ absurd (omega (arith, g, free_names d c (omega (arith, g))))
  ]

  -- at most 16 names in each of at most 256 cells
  pub few_names : (n : ℕ) → occurrences n (all_inner σ.cells) ≤ 4096
  unfolding cell
  few_names n =
      omega (arith, occurs_at_most n (all_inner σ.cells), short_list σ.cells short, v.few)
    where
      short : (i : ℕ) → i < length σ.cells → length (inner (get_or σ.cells i (clear 0))) ≤ 16
      short i h = elim (dec_lt 0 (cell σ i).count) [
        | yes g ↦ inner_short (cell σ i) (v.tidy i g).whole
        | no g ↦ omega (arith, ap length (clear_names (cell σ i) (cell σ i).next (v.blank i h (omega (arith, g)))))
      ]

  -- ---- nothing in use is on the free list

  pub off_free_list : (c : ℕ) → 0 < (cell σ c).count → occurrences c (free_list σ) ≡ 0
  off_free_list c h = omega (arith, v.free c (in_range σ c h), due_used (cell σ c).count h)

  pub touch : (c : ℕ) → 0 < (cell σ c).count → touching σ c ≡ []
  unfolding touching
  touch c h = rw (le-ltb 0 (occurrences c (free_list σ)) (omega (arith, off_free_list c h))) refl

-- ---- the free list apart

-- the invariant but for the free list
pub record Unlisted (σ : Store) (Z R : List ℕ) : Type 0 where
  pub few : cell_count σ ≤ 256
  pub counts : (c : ℕ) → (cell σ c).count ≡ occurrences c R + occurrences c Z + occurrences c (all_inner σ.cells)
  pub alone : (c : ℕ) → c ∈ Z → (cell σ c).count ≡ 1
  pub typed : (c r : ℕ) → r ∈ inner (cell σ c) → (cell σ c).depth ≡ suc (cell σ r).depth
  pub tidy : (c : ℕ) → 0 < (cell σ c).count → Tidy (cell σ c)
  pub blank : (c : ℕ) → c < cell_count σ → (cell σ c).count ≡ 0 → cell σ c ≡ clear (cell σ c).next

pub unlisted : {σ : Store} {Z R : List ℕ} → Invariant σ Z R → Unlisted σ Z R
unlisted v = record {
  few = v.few;
  counts = v.counts;
  alone = v.alone;
  typed = v.typed;
  tidy = v.tidy;
  blank = v.blank;
}

pub relisted : {σ : Store} {Z R l : List ℕ} → Unlisted σ Z R → Listed σ l → Invariant σ Z R
relisted {σ} {l = l} v h = record {
  few = v.few;
  counts = v.counts;
  alone = v.alone;
  typed = v.typed;
  tidy = v.tidy;
  blank = v.blank;
  free = λ c g. ap (occurrences c) (listed_is σ l h).0 ∙ h.once c g;
  ends = (listed_is σ l h).1;
}

-- ---- one cell written

-- what is asked of the store after it, for the references Z' and R' and the free list l
pub record Change (σ τ : Store) (c : ℕ) (x : Cell) (Z' R' l : List ℕ) : Type 0 where
  pub put : Put σ τ c x
  pub counts : (d : ℕ) → (cell τ d).count ≡ occurrences d R' + occurrences d Z' + occurrences d (all_inner τ.cells)
  pub alone : (d : ℕ) → d ∈ Z' → (cell τ d).count ≡ 1
  pub typed : (r : ℕ) → r ∈ inner x → x.depth ≡ suc (cell τ r).depth
  -- where the cell is named, its depth stays
  pub depth : c ∈ all_inner σ.cells → x.depth ≡ (cell σ c).depth
  pub tidy : 0 < x.count → Tidy x
  pub blank : x.count ≡ 0 → x ≡ clear x.next
  pub list : Listed τ l

module _ {σ τ : Store} {c : ℕ} {x : Cell} {Z R Z' R' l : List ℕ}
    (v : Invariant σ Z R) (k : Change σ τ c x Z' R' l) where
  -- a named cell keeps its depth
  depth_kept : (r : ℕ) → r ∈ all_inner σ.cells → (cell τ r).depth ≡ (cell σ r).depth
  depth_kept r h = elim (put_cases k.put r) [
    | inl g ↦ ap (λ (y : Cell). y.depth) g.new
        ∙ k.depth (subst (λ (n : ℕ). n ∈ all_inner σ.cells) g.is h)
        ∙ sym (ap (λ (y : Cell). y.depth) g.old)
    | inr g ↦ ap (λ (y : Cell). y.depth) g.same
  ]

  change_typed : (d r : ℕ) → r ∈ inner (cell τ d) → (cell τ d).depth ≡ suc (cell τ r).depth
  change_typed d r h = elim (put_cases k.put d) [
    | inl g ↦ ap (λ (y : Cell). y.depth) g.new ∙ k.typed r (subst (λ (y : Cell). r ∈ inner y) g.new h)
    | inr g ↦
        let named : r ∈ inner (cell σ d) = subst (λ (y : Cell). r ∈ inner y) g.same h in
        omega (
          arith,
          ap (λ (y : Cell). y.depth) g.same,
          v.typed d r named,
          depth_kept r (omega (arith, inner_in_all r σ d)),
        )
  ]

  pub changed : Invariant τ Z' R'
  changed = relisted (record {
    few = omega (arith, put_size k.put, v.few);
    counts = k.counts;
    alone = k.alone;
    typed = change_typed;
    tidy = λ d h. elim (put_cases k.put d) [
      | inl g ↦ subst Tidy (sym g.new) (k.tidy (omega (arith, g.new_count)))
      | inr g ↦ subst Tidy (sym g.same) (v.tidy d (omega (arith, g.count)))
    ];
    blank = λ d h e. elim (put_cases k.put d) [
      | inl g ↦ subst (λ (y : Cell). y ≡ clear y.next) (sym g.new) (k.blank (omega (arith, g.new_count)))
      | inr g ↦ subst (λ (y : Cell). y ≡ clear y.next) (sym g.same)
          (v.blank d (omega (arith, put_size k.put)) (omega (arith, g.count)))
    ];
  }) k.list

  pub changed_list : free_list τ ≡ l
  changed_list = (listed_is τ l k.list).0
