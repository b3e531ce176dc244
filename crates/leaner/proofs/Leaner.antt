-- Two stores of which one, the leaner, has no more cells in use: each of its cells corresponds to one of the other.
use Rattle.prelude.specs.Kit.{ℕ, ◌≤◌, ◌<◌, suc, zero, arith, dec_lt, ◌≡◌, refl, ◌∙◌, sym, ap, subst, ap₂, inl, inr, List}
use Rattle.prelude.specs.Kit.{[], ◌∷◌, map, map-id, ℤ, pos, length, get_or, length-map, lt-ltb, le-ltb}
use Rattle.semantics.specs.Basics.{occurrences, ◌∈◌}
use Rattle.semantics.specs.Store.{Store, cell, cell_of, elements, inner, named_by, with_count, one_more, retained}
use Rattle.laws.specs.Lists.{hits, occurs_first}
use Rattle.laws.specs.Releases.{count_with}
use Rattle.laws.specs.Cells.{named_by_none}
use Rattle.discipline.proofs.machine.Elements.{getD_mapped}
use Rattle.discipline.proofs.store.Invariant.{Invariant}
use Rattle.discipline.proofs.store.Counting.{named_at}
use Rattle.discipline.proofs.store.Cells.{in_range, CellsAgree, agree_elements, agree_inner, Put, put_cases, put_agree}
use Rattle.discipline.proofs.store.Cells.{with_cell_put}
use Rattle.discipline.proofs.store.Change.{inner_used}
use Rattle.discipline.proofs.store.Kept.{only}
use Rattle.discipline.proofs.store.Retain.{count_agree}
use Rattle.discipline.proofs.machine.Images.{image_alike}

-- each cell in use in τ corresponds by π to a cell in use in σ; of the cells E the numbers may differ meanwhile
pub record Leaner (E : List ℕ) (π : ℕ → ℕ) (τ σ : Store) : Type 0 where
  pub used : (c : ℕ) → 0 < (cell τ c).count → 0 < (cell σ (π c)).count
  pub apart : (b c : ℕ) → 0 < (cell τ b).count → 0 < (cell τ c).count → π b ≡ π c → b ≡ c
  pub depth : (c : ℕ) → 0 < (cell τ c).count → (cell σ (π c)).depth ≡ (cell τ c).depth
  pub names : (c : ℕ) → 0 < (cell τ c).count → inner (cell σ (π c)) ≡ map π (inner (cell τ c))
  pub numbers : (c : ℕ) → 0 < (cell τ c).count → (c ∈ E → ⊥) → (cell τ c).depth ≡ 0 →
      elements (cell σ (π c)) ≡ elements (cell τ c)
  pub sizes : (c : ℕ) → 0 < (cell τ c).count → (c ∈ E → ⊥) → (cell σ (π c)).size ≡ (cell τ c).size

-- words of depth d in the leaner run and in the other: equal numbers, or the names of cells in use that correspond
pub record Matching (π : ℕ → ℕ) (τ : Store) (d : ℕ) (ws vs : List ℤ) : Type 0 where
  pub size : length vs ≡ length ws
  pub numbers : d ≡ 0 → vs ≡ ws
  pub names : named_by d vs ≡ map π (named_by d ws)
  pub used : (r : ℕ) → r ∈ named_by d ws → 0 < (cell τ r).count

-- ---- words one by one

pub matching_number : (π : ℕ → ℕ) (τ : Store) (w : ℤ) → Matching π τ 0 (w ∷ []) (w ∷ [])
unfolding occurrences
matching_number π τ w =
    record { size = refl; numbers = λ e. refl; names = refl; used = λ r h. absurd (omega (arith, h)) }

pub matching_cell : (π : ℕ → ℕ) (τ : Store) (d : ℕ) (w v : ℤ) → cell_of v ≡ π (cell_of w) →
    0 < (cell τ (cell_of w)).count → Matching π τ (suc d) (w ∷ []) (v ∷ [])
matching_cell π τ d w v e h = record {
  size = refl;
  numbers = λ z. absurd (omega (arith, z));
  names = ap (λ (c : ℕ). c ∷ []) e;
  used = only (λ r. 0 < (cell τ r).count) (cell_of w) h;
}

pub matching_none : (π : ℕ → ℕ) (τ : Store) (d : ℕ) → Matching π τ d [] []
unfolding occurrences
matching_none π τ d = record {
  size = refl;
  numbers = λ e. refl;
  names = rw (named_by_none d) refl;
  used = λ r h. absurd (omega (arith, h, ap (occurrences r) (named_by_none d)));
}

more_names : (π : ℕ → ℕ) (d : ℕ) (w v : ℤ) (ws vs : List ℤ) → named_by d (v ∷ []) ≡ map π (named_by d (w ∷ [])) →
    named_by d vs ≡ map π (named_by d ws) → named_by d (v ∷ vs) ≡ map π (named_by d (w ∷ ws))
more_names π zero w v ws vs p q = refl
more_names π (suc d) w v ws vs p q = ap₂ {C = List ℕ} ◌∷◌ (ap (λ (l : List ℕ). get_or l 0 0) p) q

more_used : (τ : Store) (d : ℕ) (w : ℤ) (ws : List ℤ) → ((r : ℕ) → r ∈ named_by d (w ∷ []) → 0 < (cell τ r).count) →
    ((r : ℕ) → r ∈ named_by d ws → 0 < (cell τ r).count) → (r : ℕ) → r ∈ named_by d (w ∷ ws) → 0 < (cell τ r).count
unfolding occurrences
more_used τ zero w ws p q r h = p r h
more_used τ (suc d) w ws p q r h = elim (hits r (cell_of w)) [
  | inl g ↦ p r (omega (arith, g.1))
  | inr g ↦ q r (omega (arith, h, g.1))
]

pub matching_more : {π : ℕ → ℕ} {τ : Store} {d : ℕ} {w v : ℤ} {ws vs : List ℤ} → Matching π τ d (w ∷ []) (v ∷ []) →
    Matching π τ d ws vs → Matching π τ d (w ∷ ws) (v ∷ vs)
matching_more {π} {τ} {d} {w} {v} {ws} {vs} m n = record {
  size = ap suc n.size;
  numbers = λ e. ap₂ {C = List ℤ} ◌∷◌ (ap (λ (l : List ℤ). get_or l 0 (pos 0)) (m.numbers e)) (n.numbers e);
  names = more_names π d w v ws vs m.names n.names;
  used = more_used τ d w ws m.used n.used;
}

pub image_cell : {π : ℕ → ℕ} {τ : Store} {d : ℕ} {w v : ℤ} → Matching π τ (suc d) (w ∷ []) (v ∷ []) →
    cell_of v ≡ π (cell_of w)
image_cell m = ap (λ (l : List ℕ). get_or l 0 0) m.names

pub cell_used : {π : ℕ → ℕ} {τ : Store} {d : ℕ} {w v : ℤ} → Matching π τ (suc d) (w ∷ []) (v ∷ []) →
    0 < (cell τ (cell_of w)).count
cell_used {w = w} m = m.used (cell_of w) (occurs_first (cell_of w) [])

-- the same words still match where their cells are still in use and correspond to the same
pub matching_kept : {π π' : ℕ → ℕ} {τ τ' : Store} {d : ℕ} {ws vs : List ℤ} → Matching π τ d ws vs →
    ((r : ℕ) → r ∈ named_by d ws → (π' r ≡ π r) × (0 < (cell τ' r).count)) → Matching π' τ' d ws vs
matching_kept {π} {π'} {d = d} {ws} m f = record {
  size = m.size;
  numbers = m.numbers;
  names = m.names ∙ image_alike π π' (named_by d ws) (λ r h. sym (f r h).0);
  used = λ r h. (f r h).1;
}

at_names : (π : ℕ → ℕ) (d : ℕ) (ws vs : List ℤ) (i : ℕ) → i < length ws → i < length vs →
    named_by d vs ≡ map π (named_by d ws) →
    named_by d (get_or vs i (pos 0) ∷ []) ≡ map π (named_by d (get_or ws i (pos 0) ∷ []))
at_names π zero ws vs i h g e = refl
at_names π (suc d) ws vs i h g e = ap (λ (c : ℕ). c ∷ [])
    (sym (getD_mapped cell_of vs i (pos 0) 0 g) ∙ ap (λ (l : List ℕ). get_or l i 0) e
    ∙ getD_mapped π (map cell_of ws) i 0 0 (omega (arith, h, length-map ws cell_of))
    ∙ ap π (getD_mapped cell_of ws i (pos 0) 0 h))

at_named : (d : ℕ) (ws : List ℤ) (i : ℕ) → i < length ws → (r : ℕ) → r ∈ named_by d (get_or ws i (pos 0) ∷ []) →
    r ∈ named_by d ws
at_named zero ws i h r g = g
at_named (suc d) ws i h r g =
    only (λ c. c ∈ map cell_of ws) (cell_of (get_or ws i (pos 0))) (named_at ws i h) r g

-- one of some words that match
pub matching_at : {π : ℕ → ℕ} {τ : Store} {d : ℕ} {ws vs : List ℤ} (i : ℕ) → i < length ws → Matching π τ d ws vs →
    Matching π τ d (get_or ws i (pos 0) ∷ []) (get_or vs i (pos 0) ∷ [])
matching_at {π} {τ} {d} {ws} {vs} i h m = record {
  size = refl;
  numbers = λ e. ap (λ (l : List ℤ). get_or l i (pos 0) ∷ []) (m.numbers e);
  names = at_names π d ws vs i h (omega (arith, h, m.size)) m.names;
  used = λ r g. m.used r (at_named d ws i h r g);
}

-- ---- the relation itself

-- the words of corresponding cells match
pub matching_elements : {E : List ℕ} {π : ℕ → ℕ} {τ σ : Store} {Z' R' : List ℕ} (c : ℕ) → Leaner E π τ σ →
    Invariant τ Z' R' → 0 < (cell τ c).count → (c ∈ E → ⊥) →
    Matching π τ (cell τ c).depth (elements (cell τ c)) (elements (cell σ (π c)))
unfolding inner
matching_elements {π = π} {τ} {σ} c l u h f = record {
  size = size (cell τ c).depth refl;
  numbers = l.numbers c h f;
  names = names;
  used = λ r g. inner_used u c r g;
}
  where
    names : named_by (cell τ c).depth (elements (cell σ (π c))) ≡ map π (inner (cell τ c))
    names = ap (λ (d : ℕ). named_by d (elements (cell σ (π c)))) (sym (l.depth c h)) ∙ l.names c h

    size : (d : ℕ) → (cell τ c).depth ≡ d → length (elements (cell σ (π c))) ≡ length (elements (cell τ c))
    size zero e = ap length (l.numbers c h f e)
    size (suc d) e =
        sym (length-map (elements (cell σ (π c))) cell_of)
        ∙ ap length (subst (λ k. named_by k (elements (cell σ (π c))) ≡ map π (named_by k (elements (cell τ c)))) e
        names)
        ∙ length-map (map cell_of (elements (cell τ c))) π ∙ length-map (elements (cell τ c)) cell_of

pub leaner_self : (σ : Store) → Leaner [] (λ c. c) σ σ
leaner_self σ = record {
  used = λ c h. h;
  apart = λ b c h g e. e;
  depth = λ c h. refl;
  names = λ c h. sym (map-id (inner (cell σ c)));
  numbers = λ c h f e. refl;
  sizes = λ c h f. refl;
}

-- a cell whose numbers are equal again is no longer exempt
pub leaner_finished : {E : List ℕ} {π : ℕ → ℕ} {τ σ : Store} (a : ℕ) → elements (cell σ (π a)) ≡ elements (cell τ a) →
    (cell σ (π a)).size ≡ (cell τ a).size → Leaner (a ∷ E) π τ σ → Leaner E π τ σ
unfolding occurrences
leaner_finished {E} {π} {τ} {σ} a e s l = record {
  used = l.used;
  apart = l.apart;
  depth = l.depth;
  names = l.names;
  numbers = λ c h f z. elim (hits c a) [
    | inl g ↦ subst (λ (k : ℕ). elements (cell σ (π k)) ≡ elements (cell τ k)) (sym g.0) e
    | inr g ↦ l.numbers c h (λ i. f (omega (arith, i, g.1))) z
  ];
  sizes = λ c h f. elim (hits c a) [
    | inl g ↦ subst (λ (k : ℕ). (cell σ (π k)).size ≡ (cell τ k).size) (sym g.0) s
    | inr g ↦ l.sizes c h (λ i. f (omega (arith, i, g.1)))
  ];
}

-- the words stay; what is in use in the leaner store was so before, and its images are so still
pub leaner_kept : {E : List ℕ} {π : ℕ → ℕ} {τ σ τ' σ' : Store} → Leaner E π τ σ →
    ((c : ℕ) → 0 < (cell τ' c).count → (0 < (cell τ c).count) × CellsAgree (cell τ' c) (cell τ c)) →
    ((c : ℕ) → 0 < (cell τ' c).count → (0 < (cell σ' (π c)).count) × CellsAgree (cell σ' (π c)) (cell σ (π c))) →
    Leaner E π τ' σ'
leaner_kept {π = π} {τ} {σ} {τ'} {σ'} l f g = record {
  used = λ c h. (g c h).0;
  apart = λ b c h i e. l.apart b c (f b h).0 (f c i).0 e;
  depth = λ c h. (g c h).1.1 ∙ l.depth c (f c h).0 ∙ sym (f c h).1.1;
  names = λ c h. agree_inner (cell σ' (π c)) (cell σ (π c)) (g c h).1 ∙ l.names c (f c h).0
      ∙ ap (map π) (sym (agree_inner (cell τ' c) (cell τ c) (f c h).1));
  numbers = λ c h i z. agree_elements (cell σ' (π c)) (cell σ (π c)) (g c h).1
      ∙ l.numbers c (f c h).0 i (sym (f c h).1.1 ∙ z) ∙ sym (agree_elements (cell τ' c) (cell τ c) (f c h).1);
  sizes = λ c h i. (g c h).1.0 ∙ l.sizes c (f c h).0 i ∙ sym (f c h).1.0;
}

-- ---- retain

one_more_least : (n : ℕ) → n ≤ one_more n
unfolding one_more
one_more_least n = elim (dec_lt n 4294967295) [
  | yes h ↦ rw (lt-ltb n 4294967295 h) (omega arith)
  | no h ↦ rw (le-ltb n 4294967295 (omega (arith, h))) (omega arith)
]

-- a retain changes no words, and what is in use stays so
module _ (σ : Store) (b : ℕ) (h : 0 < (cell σ b).count) where
  retained_put : Put σ (retained b σ) b (with_count (cell σ b) (one_more (cell σ b).count))
  unfolding retained
  retained_put = with_cell_put σ b (with_count (cell σ b) (one_more (cell σ b).count)) (in_range σ b h)

  retained_agree : (d : ℕ) → CellsAgree (cell (retained b σ) d) (cell σ d)
  retained_agree = put_agree retained_put (count_agree (cell σ b) (one_more (cell σ b).count))

  retained_was : (d : ℕ) → 0 < (cell (retained b σ) d).count → 0 < (cell σ d).count
  retained_was d g = elim (put_cases retained_put d) [
    | inl k ↦ omega (arith, h, k.old_count)
    | inr k ↦ omega (arith, g, k.count)
  ]

  pub retained_used : (d : ℕ) → 0 < (cell σ d).count → 0 < (cell (retained b σ) d).count
  retained_used d g = elim (put_cases retained_put d) [
    | inl k ↦ omega (
      arith,
      h,
      k.new_count,
      count_with (cell σ b) (one_more (cell σ b).count),
      one_more_least (cell σ b).count,
    )
    | inr k ↦ omega (arith, g, k.count)
  ]

-- in the leaner store
pub leaner_retained : {E : List ℕ} {π : ℕ → ℕ} {τ σ : Store} (c : ℕ) → 0 < (cell τ c).count → Leaner E π τ σ →
    Leaner E π (retained c τ) σ
leaner_retained {τ = τ} c h l = leaner_kept l
    (λ d g. (retained_was τ c h d g, retained_agree τ c h d))
    (λ d g. (l.used d (retained_was τ c h d g), (refl, refl, refl)))

-- in the other
pub leaner_other_retained : {E : List ℕ} {π : ℕ → ℕ} {τ σ : Store} (b : ℕ) → 0 < (cell σ b).count → Leaner E π τ σ →
    Leaner E π τ (retained b σ)
leaner_other_retained {π = π} {τ} {σ} b h l = leaner_kept l
    (λ d g. (g, (refl, refl, refl)))
    (λ d g. (retained_used σ b h (π d) (l.used d g), retained_agree σ b h (π d)))
