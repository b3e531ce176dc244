-- The leaner store has no more cells in use, so that no fewer are free.
use Rattle.prelude.specs.Kit.{ℕ, ◌≤◌, ◌+◌, ◌<◌, suc, zero, arith, dec_lt, ℕ_discrete, true, false, Bool, ◌≡◌, refl, ◌∙◌}
use Rattle.prelude.specs.Kit.{sym, ap, inl, inr, List, [], ◌∷◌, map, length, get_or, length-map}
use Rattle.semantics.specs.Basics.{occurrences, ◌∈◌}
use Rattle.semantics.specs.Store.{Cell, Store, cell, cell_count, clear, one_if_used, used_cells, cells_taken}
use Rattle.semantics.specs.Store.{free_cells, has_free}
use Rattle.laws.specs.Lists.{◌⊆◌, hits, occurs_first}
use Rattle.laws.specs.Levels.{one_at_most, used_few}
use Rattle.discipline.proofs.store.Invariant.{Invariant}
use Rattle.discipline.proofs.store.Counting.{hits_itself, without, without_length, without_other}
use Rattle.discipline.proofs.store.Acquire.{none_free, acquire_takes}
use Rattle.discipline.proofs.store.LowestLevel.{listed_or_taken}
use Rattle.discipline.proofs.machine.Images.{source}
use Rattle.leaner.proofs.Leaner.{Leaner}

-- ---- lists of distinct numbers

-- all of whose members another list has
distinct_within : (l m : List ℕ) → ((n : ℕ) → occurrences n l ≤ 1) → l ⊆ m → length l ≤ length m
unfolding occurrences
distinct_within [] m once h = omega arith
distinct_within (x ∷ l) m once h =
    let rest = distinct_within l (without x m) (λ n. omega (arith, once n)) later in
    omega (arith, rest, without_length x m, h x (occurs_first x l))
  where
    later : (n : ℕ) → n ∈ l → n ∈ without x m
    later n g = elim (ℕ_discrete n x) [
      | yes e ↦ absurd (omega (arith, g, once n, ap (λ (k : ℕ). occurrences n (k ∷ l)) e, hits_itself n))
      | no f ↦ omega (arith, without_other x n m f, h n (omega (arith, g)))
    ]

-- their images under a function that keeps them apart are distinct too
distinct_images : (f : ℕ → ℕ) (l : List ℕ) → ((n : ℕ) → occurrences n l ≤ 1) →
    ((a b : ℕ) → a ∈ l → b ∈ l → f a ≡ f b → a ≡ b) → (n : ℕ) → occurrences n (map f l) ≤ 1
unfolding occurrences
distinct_images f [] once apart n = omega arith
distinct_images f (x ∷ l) once apart n =
    let rest = distinct_images f l (λ k. omega (arith, once k))
    (λ a b g h e. apart a b (omega (arith, g)) (omega (arith, h)) e) n in
    elim (hits n (f x)) [
      | inl g ↦ elim (dec_lt 0 (occurrences n (map f l))) [
        | yes i ↦
            let q = source f n l i in
            let same = apart x q.from (occurs_first x l) (omega (arith, q.member)) (sym g.0 ∙ q.is) in
            absurd (omega (arith, q.member, once x, hits_itself x, ap (λ (k : ℕ). occurrences k l) same))
        | no i ↦ omega (arith, i, g.1)
      ]
      | inr g ↦ omega (arith, rest, g.1)
    ]

-- ---- the numbers of the cells in use

abbrev first_if_used : ℕ → ℕ → List ℕ → List ℕ
first_if_used zero c l = l
first_if_used (suc n) c l = c ∷ l

-- of some cells, the first of which has number c
unfoldable used_from : ℕ → List Cell → List ℕ
used_from c [] = []
used_from c (x ∷ l) = first_if_used x.count c (used_from (suc c) l)

used_from_length : (c : ℕ) (l : List Cell) → length (used_from c l) ≡ used_cells l
unfolding used_from used_cells
used_from_length c [] = refl
used_from_length c (x ∷ l) = go x.count (used_from_length (suc c) l)
  where
    go : (n : ℕ) → length (used_from (suc c) l) ≡ used_cells l →
        length (first_if_used n c (used_from (suc c) l)) ≡ one_if_used n + used_cells l
    go zero e = omega (arith, e)
    go (suc n) e = omega (arith, e)

used_from_below : (k c : ℕ) (l : List Cell) → k < c → occurrences k (used_from c l) ≡ 0
unfolding used_from occurrences
used_from_below k c [] h = refl
used_from_below k c (x ∷ l) h = go x.count (used_from_below k (suc c) l (omega arith))
  where
    go : (n : ℕ) → occurrences k (used_from (suc c) l) ≡ 0 →
        occurrences k (first_if_used n c (used_from (suc c) l)) ≡ 0
    go zero e = e
    go (suc n) e = elim (hits k c) [ inl g ↦ absurd (omega (arith, h, g.0)) | inr g ↦ omega (arith, e, g.1) ]

used_from_at : (i c : ℕ) (l : List Cell) → occurrences (c + i) (used_from c l) ≡ one_if_used (get_or l i (clear 0)).count
unfolding used_from occurrences clear
used_from_at i c [] = refl
used_from_at zero c (x ∷ l) =
    ap (λ (k : ℕ). occurrences k (used_from c (x ∷ l))) (omega arith)
    ∙ go x.count (used_from_below c (suc c) l (omega arith))
  where
    go : (n : ℕ) → occurrences c (used_from (suc c) l) ≡ 0 →
        occurrences c (first_if_used n c (used_from (suc c) l)) ≡ one_if_used n
    go zero e = e
    go (suc n) e = omega (arith, e, hits_itself c)
used_from_at (suc i) c (x ∷ l) =
    ap (λ (k : ℕ). occurrences k (used_from c (x ∷ l))) (omega arith) ∙ go x.count (used_from_at i (suc c) l)
  where
    go : (n : ℕ) → occurrences (suc c + i) (used_from (suc c) l) ≡ one_if_used (get_or l i (clear 0)).count →
        occurrences (suc c + i) (first_if_used n c (used_from (suc c) l)) ≡ one_if_used (get_or l i (clear 0)).count
    go zero e = e
    go (suc n) e = elim (hits (suc c + i) c) [ inl g ↦ absurd (omega (arith, g.0)) | inr g ↦ omega (arith, e, g.1) ]

-- of a store
abbrev cells_used : Store → List ℕ
cells_used σ = used_from 0 σ.cells

used_at : (σ : Store) (c : ℕ) → occurrences c (cells_used σ) ≡ one_if_used (cell σ c).count
unfolding cell
used_at σ c = ap (λ (k : ℕ). occurrences k (cells_used σ)) (omega arith) ∙ used_from_at c 0 σ.cells

counted_used : (n : ℕ) → 0 < one_if_used n → 0 < n
counted_used zero h = h
counted_used (suc n) h = omega arith

used_counted : (n : ℕ) → 0 < n → 0 < one_if_used n
used_counted zero h = h
used_counted (suc n) h = omega arith

-- ---- levels

pub leaner_taken : {E : List ℕ} {π : ℕ → ℕ} {τ σ : Store} → Leaner E π τ σ → cells_taken τ ≤ cells_taken σ
leaner_taken {π = π} {τ} {σ} l =
    let fewer = distinct_within (map π (cells_used τ)) (cells_used σ)
    (distinct_images π (cells_used τ) once (λ a b g h e. l.apart a b (is_used a g) (is_used b h) e)) within in
    omega (
      arith,
      fewer,
      length-map (cells_used τ) π,
      used_from_length 0 τ.cells,
      used_from_length 0 σ.cells,
    )
  where
    once : (n : ℕ) → occurrences n (cells_used τ) ≤ 1
    once n = omega (arith, used_at τ n, one_at_most (cell τ n).count)

    is_used : (c : ℕ) → c ∈ cells_used τ → 0 < (cell τ c).count
    is_used c h = counted_used (cell τ c).count (omega (arith, h, used_at τ c))

    within : (n : ℕ) → n ∈ map π (cells_used τ) → n ∈ cells_used σ
    within n h =
        let q = source π n (cells_used τ) h in
        let image = used_counted (cell σ (π q.from)).count
        (l.used q.from (is_used q.from q.member)) in
        omega (arith, image, used_at σ (π q.from), ap (λ (k : ℕ). occurrences k (cells_used σ)) q.is)

-- with g cells more
pub leaner_levels : {E : List ℕ} {π : ℕ → ℕ} {τ σ : Store} (g : ℕ) → Leaner E π τ σ →
    cell_count τ ≡ cell_count σ + g → free_cells σ + g ≤ free_cells τ
leaner_levels {τ = τ} {σ} g l e = omega (arith, leaner_taken l, e, used_few σ.cells, used_few τ.cells)

-- so where a cell of the other store is free, one of the leaner is
pub leaner_has_free : {E : List ℕ} {π : ℕ → ℕ} {τ σ : Store} {Z' R' Z R : List ℕ} (g : ℕ) → Leaner E π τ σ →
    Invariant τ Z' R' → Invariant σ Z R → cell_count τ ≡ cell_count σ + g → has_free σ ≡ true → has_free τ ≡ true
leaner_has_free {τ = τ} {σ} g l u v e h = go (has_free τ) refl
  where
    some_left : cells_taken σ < cell_count σ
    some_left = omega (arith, listed_or_taken v, ap length (acquire_takes 0 [] v h).free)

    go : (b : Bool) → has_free τ ≡ b → has_free τ ≡ true
    go true q = q
    go false q =
        absurd (omega (arith, some_left, leaner_taken l, e, listed_or_taken u, ap length (none_free τ q)))
