-- The free list as a list of cells that are linked, and how it changes with one cell.
use Rattle.prelude.specs.Kit.{ℕ, ◌≤◌, ◌<◌, suc, zero, arith, dec_lt, true, false, Bool, ◌≡◌, refl, ◌∙◌, sym, ap, subst}
use Rattle.prelude.specs.Kit.{inl, inr, List, [], ◌∷◌, ltb, length, lt-ltb, le-ltb, ltb-true}
use Rattle.semantics.specs.Basics.{occurrences, ◌∈◌}
use Rattle.semantics.specs.Store.{Cell, Store, cell, cell_count}
use Rattle.semantics.specs.Sound.{free_from, end_from, free_list, due}
use Rattle.laws.specs.Lists.{hits, occurs_first}
use Rattle.discipline.proofs.store.Invariant.{Invariant}
use Rattle.discipline.proofs.store.Counting.{hits_itself, distinct_length}
use Rattle.discipline.proofs.store.Cells.{in_range, Put, put_cases, put_size, put_same}

-- from c on, the cells of a list follow each other by `next`, up to the number of cells, which marks the end
abbrev pub Links : Store → ℕ → List ℕ → Type 0
Links σ c [] = c ≡ cell_count σ
Links σ c (x ∷ l) = (c ≡ x) × (x < cell_count σ) × Links σ (cell σ x).next l

-- the store's free list is l, and has the cells of count 0, each once
pub record Listed (σ : Store) (l : List ℕ) : Type 0 where
  pub links : Links σ σ.first l
  pub once : (c : ℕ) → c < cell_count σ → occurrences c l ≡ due (cell σ c).count

pub due_used : (n : ℕ) → 0 < n → due n ≡ 0
due_used zero h = absurd (omega arith)
due_used (suc n) h = refl

pub due_at_most : (n : ℕ) → due n ≤ 1
due_at_most zero = omega arith
due_at_most (suc n) = omega arith

pub links_in_range : (σ : Store) (c : ℕ) (l : List ℕ) → Links σ c l → (d : ℕ) → d ∈ l → d < cell_count σ
unfolding occurrences
links_in_range σ c [] k d h = absurd (omega arith)
links_in_range σ c (x ∷ l) k d h = elim (hits d x) [
  | inl g ↦ rw g.0 k.1
  | inr g ↦ links_in_range σ (cell σ x).next l k.2 d (omega arith)
]

-- ---- the walk along the list

walk_links : (σ : Store) (n c : ℕ) → end_from σ c n ≡ cell_count σ → Links σ c (free_from σ c n)
unfolding end_from free_from
walk_links σ zero c e = e
walk_links σ (suc n) c e = go (λ d. walk_links σ n d) (ltb c (cell_count σ)) refl
  where
    go : ((d : ℕ) → end_from σ d n ≡ cell_count σ → Links σ d (free_from σ d n)) → (t : Bool) →
        ltb c (cell_count σ) ≡ t → Links σ c (free_from σ c (suc n))
    go ih true q = rw (q, free_from) (refl, ltb-true c (cell_count σ) q, ih (cell σ c).next (rw (q, end_from) at e))
    go ih false q = rw (q, free_from) (rw (q, end_from) at e)

links_walk : (σ : Store) (n c : ℕ) (l : List ℕ) → length l ≤ n → Links σ c l →
    (free_from σ c n ≡ l) × (end_from σ c n ≡ cell_count σ)
unfolding end_from free_from
links_walk σ zero c [] h k = (refl, k)
links_walk σ zero c (x ∷ l) h k = absurd (omega arith)
links_walk σ (suc n) c [] h k = rw (le-ltb c (cell_count σ) (omega arith), free_from, end_from) (refl, k)
links_walk σ (suc n) c (x ∷ l) h k =
    let ih = links_walk σ n (cell σ x).next l (omega arith) k.2 in
    rw k.0 (rw (lt-ltb x (cell_count σ) k.1, free_from, end_from) (ap (λ r. x ∷ r) ih.0, ih.1))

-- the list is what the store's own walk finds
pub listed_is : (σ : Store) (l : List ℕ) → Listed σ l →
    (free_list σ ≡ l) × (end_from σ σ.first (cell_count σ) ≡ cell_count σ)
unfolding free_list
listed_is σ l h = links_walk σ (cell_count σ) σ.first l (distinct_length (cell_count σ) l within once) h.links
  where
    within : (c : ℕ) → c ∈ l → c < cell_count σ
    within = links_in_range σ σ.first l h.links

    once : (c : ℕ) → occurrences c l ≤ 1
    once c = elim (dec_lt 0 (occurrences c l)) [
      | yes g ↦ omega (arith, h.once c (within c g), due_at_most (cell σ c).count)
      | no g ↦ omega arith
    ]

pub listed : {σ : Store} {Z R : List ℕ} → Invariant σ Z R → Listed σ (free_list σ)
unfolding free_list
listed {σ} v = record { links = walk_links σ (cell_count σ) σ.first v.ends; once = v.free }

-- ---- one cell written

pub links_keep : (σ τ : Store) → cell_count τ ≡ cell_count σ → (c : ℕ) (l : List ℕ) →
    ((x : ℕ) → x ∈ l → (cell τ x).next ≡ (cell σ x).next) → Links σ c l → Links τ c l
unfolding occurrences
links_keep σ τ z c [] f k = k ∙ sym z
links_keep σ τ z c (x ∷ l) f k = (
  k.0,
  rw z k.1,
  subst (λ (n : ℕ). Links τ n l) (sym (f x (occurs_first x l)))
      (links_keep σ τ z (cell σ x).next l (λ y h. f y (omega arith)) k.2),
)

off_list : (σ : Store) (l : List ℕ) → Listed σ l → (c : ℕ) → 0 < (cell σ c).count → occurrences c l ≡ 0
off_list σ l h c g = omega (arith, h.once c (in_range σ c g), due_used (cell σ c).count g)

module _ {σ τ : Store} {c : ℕ} {x : Cell} (p : Put σ τ c x) (l : List ℕ) where
  -- the written cell is not on the list: all others keep their places
  others_linked : (f : ℕ) → occurrences c l ≡ 0 → Links σ f l → Links τ f l
  others_linked f o k = links_keep σ τ (put_size p) f l next k
    where
      next : (y : ℕ) → y ∈ l → (cell τ y).next ≡ (cell σ y).next
      next y h = elim (put_cases p y) [
        | inl g ↦ absurd (omega (arith, ap (λ (n : ℕ). occurrences n l) g.is))
        | inr g ↦ ap (λ (z : Cell). z.next) g.same
      ]

  -- a cell in use stays in use
  pub listed_used : Listed σ l → τ.first ≡ σ.first → 0 < (cell σ c).count → 0 < x.count → Listed τ l
  listed_used h e used stays = record {
    links = subst (λ (n : ℕ). Links τ n l) (sym e) (others_linked σ.first (off_list σ l h c used) h.links);
    once = λ d b. elim (put_cases p d) [
      | inl g ↦ omega (arith, off_list σ l h d (omega arith), due_used (cell τ d).count (omega arith))
      | inr g ↦ h.once d (omega (arith, put_size p)) ∙ ap due (sym g.count)
    ];
  }

  -- a cell freed is the first
  pub listed_freed : Listed σ l → τ.first ≡ c → 0 < (cell σ c).count → x.count ≡ 0 → x.next ≡ σ.first →
      Listed τ (c ∷ l)
  unfolding occurrences
  listed_freed h e used free next = record {
    links = (
      e,
      omega (arith, p.within, put_size p),
      subst (λ (n : ℕ). Links τ n l) (sym (ap (λ (z : Cell). z.next) (put_same p) ∙ next))
          (others_linked σ.first (off_list σ l h c used) h.links),
    );
    once = λ d b. elim (put_cases p d) [
      | inl g ↦ omega (arith, g.hit, off_list σ l h d (omega arith), ap due (g.new_count ∙ free))
      | inr g ↦ omega (arith, g.hit, h.once d (omega (arith, put_size p)), ap due g.count)
    ];
  }

  -- the first cell taken into use
  pub listed_taken : Listed σ (c ∷ l) → τ.first ≡ (cell σ c).next → 0 < x.count → Listed τ l
  unfolding occurrences
  listed_taken h e used = record {
    links = subst (λ (n : ℕ). Links τ n l) (sym e) (others_linked (cell σ c).next gone h.links.2);
    once = λ d b. elim (put_cases p d) [
      | inl g ↦ omega (arith, ap (λ (n : ℕ). occurrences n l) g.is, gone, due_used (cell τ d).count (omega arith))
      | inr g ↦ omega (arith, g.hit, h.once d (omega (arith, put_size p)), ap due g.count)
    ];
  }
    where
      gone : occurrences c l ≡ 0
      gone = omega (arith, hits_itself c, h.once c p.within, due_at_most (cell σ c).count)
