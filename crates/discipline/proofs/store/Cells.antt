-- One cell written: what becomes of the cells and of what they name.
use Rattle.prelude.specs.Kit.{ℕ, ◌≤◌, ◌+◌, ◌<◌, suc, zero, ◌*◌, arith, dec_lt, cond, ◌≡◌, refl, ◌∙◌, sym, ap, ap₂, inl}
use Rattle.prelude.specs.Kit.{inr, ◌≢◌, ◌⊎◌, List, [], ◌∷◌, eqb, length, get_or, set, length-set, get_or-eq_default}
use Rattle.prelude.specs.Kit.{take, length-append, length-take, get_or-set_other, get_or-set_same}
use Rattle.semantics.specs.Basics.{occurrences, ◌∈◌}
use Rattle.semantics.specs.Store.{Cell, Store, cell, cell_count, clear, elements, inner, named_by, with_cell}
use Rattle.semantics.specs.Store.{with_first}
use Rattle.semantics.specs.Sound.{all_inner}
use Rattle.laws.specs.Lists.{hits, occurrences_append}
use Rattle.laws.specs.Cells.{named_by_length}

-- ---- cells by number

pub out_of_range : (σ : Store) (c : ℕ) → cell_count σ ≤ c → cell σ c ≡ clear 0
unfolding cell
out_of_range σ c h = get_or-eq_default σ.cells (clear 0) h

-- a cell with a count is a cell of the store
pub in_range : (σ : Store) (c : ℕ) → 0 < (cell σ c).count → c < cell_count σ
unfolding clear
in_range σ c h = elim (dec_lt c (cell_count σ)) [
  | yes g ↦ g
  | no g ↦ absurd (omega (arith, g, ap (λ (x : Cell). x.count) (out_of_range σ c (omega arith))))
]

-- ---- what cells name

-- a clear cell names nothing
clear_inner : (n : ℕ) → inner (clear n) ≡ []
unfolding inner clear
clear_inner n = refl

pub clear_names : (x : Cell) (n : ℕ) → x ≡ clear n → inner x ≡ []
clear_names x n e = ap inner e ∙ clear_inner n

-- so does a cell without a count, where such cells are clear
pub unused_names : (σ : Store) →
    ((c : ℕ) → c < cell_count σ → (cell σ c).count ≡ 0 → cell σ c ≡ clear (cell σ c).next) →
    (c : ℕ) → (cell σ c).count ≡ 0 → inner (cell σ c) ≡ []
unused_names σ blank c e = elim (dec_lt c (cell_count σ)) [
  | yes h ↦ clear_names (cell σ c) (cell σ c).next (blank c h e)
  | no h ↦ clear_names (cell σ c) 0 (out_of_range σ c (omega (arith, h)))
]

-- two cells with the same words within their lengths; the second is the older
abbrev pub CellsAgree : Cell → Cell → Type 0
CellsAgree y x = (y.size ≡ x.size) × (y.depth ≡ x.depth) × (y.slots ≡ x.slots)

pub agree_elements : (y x : Cell) → CellsAgree y x → elements y ≡ elements x
unfolding elements
agree_elements y x a = ap₂ take a.0 a.2

pub agree_inner : (y x : Cell) → CellsAgree y x → inner y ≡ inner x
unfolding inner
agree_inner y x a = ap₂ named_by a.1 (agree_elements y x a)

pub same_agree : (y x : Cell) → y ≡ x → CellsAgree y x
same_agree y x e = (ap (λ z. z.size) e, ap (λ z. z.depth) e, ap (λ z. z.slots) e)

pub agree_trans : (z y x : Cell) → CellsAgree z y → CellsAgree y x → CellsAgree z x
agree_trans z y x a b = (a.0 ∙ b.0, a.1 ∙ b.1, a.2 ∙ b.2)

-- what one cell names is named in the store
inner_in_list : (n : ℕ) (l : List Cell) (i : ℕ) →
    occurrences n (inner (get_or l i (clear 0))) ≤ occurrences n (all_inner l)
unfolding occurrences
inner_in_list n [] i = omega (arith, ap (occurrences n) (clear_inner 0))
inner_in_list n (x ∷ l) zero = omega (arith, occurrences_append n (inner x) (all_inner l))
inner_in_list n (x ∷ l) (suc i) = omega (arith, occurrences_append n (inner x) (all_inner l), inner_in_list n l i)

pub inner_in_all : (n : ℕ) (σ : Store) (c : ℕ) →
    occurrences n (inner (cell σ c)) ≤ occurrences n (all_inner σ.cells)
unfolding cell
inner_in_all n σ c = inner_in_list n σ.cells c

-- what is named in the store is named by a cell
namer_in_list : (n : ℕ) (l : List Cell) → n ∈ all_inner l → (i : ℕ) × (n ∈ inner (get_or l i (clear 0)))
unfolding occurrences
namer_in_list n [] h = absurd (omega arith)
namer_in_list n (x ∷ l) h = elim (dec_lt 0 (occurrences n (inner x))) [
  | yes g ↦ (0, g)
  | no g ↦
      let q = namer_in_list n l (omega (arith, occurrences_append n (inner x) (all_inner l))) in
      (suc q.0, q.1)
]

pub namer : (n : ℕ) (σ : Store) → n ∈ all_inner σ.cells → (c : ℕ) × (n ∈ inner (cell σ c))
unfolding cell
namer n σ h = namer_in_list n σ.cells h

pub inner_short : (x : Cell) → length x.slots ≡ 16 → length (inner x) ≤ 16
unfolding inner elements
inner_short x h = omega (arith, named_by_length x.depth (elements x), length-take x.size x.slots)

pub short_list : (l : List Cell) → ((i : ℕ) → i < length l → length (inner (get_or l i (clear 0))) ≤ 16) →
    length (all_inner l) ≤ 16 * length l
short_list [] f = omega arith
short_list (x ∷ l) f =
    let ih = short_list l (λ i h. f (suc i) (omega arith)) in
    omega (arith, f 0 (omega arith), length-append (inner x) (all_inner l))

-- ---- one cell written

-- τ has the cells of σ but for cell c, which is x
pub record Put (σ τ : Store) (c : ℕ) (x : Cell) : Type 0 where
  pub within : c < cell_count σ
  pub cells : τ.cells ≡ set σ.cells c x

-- the written cell
pub record Here (σ τ : Store) (c : ℕ) (x : Cell) (d : ℕ) : Type 0 where
  pub is : d ≡ c
  pub hit : ◌≡◌ {A = ℕ} (cond (eqb d c) 1 0) 1
  pub new : cell τ d ≡ x
  pub old : cell σ d ≡ cell σ c
  pub new_count : (cell τ d).count ≡ x.count
  pub old_count : (cell σ d).count ≡ (cell σ c).count

-- another cell
pub record There (σ τ : Store) (c d : ℕ) : Type 0 where
  pub other : d ≢ c
  pub hit : ◌≡◌ {A = ℕ} (cond (eqb d c) 1 0) 0
  pub same : cell τ d ≡ cell σ d
  pub count : (cell τ d).count ≡ (cell σ d).count

list_put : (n : ℕ) (l : List Cell) (c : ℕ) (x : Cell) → c < length l →
    occurrences n (all_inner (set l c x)) + occurrences n (inner (get_or l c (clear 0)))
    ≡ occurrences n (all_inner l) + occurrences n (inner x)
list_put n [] c x h = absurd (omega arith)
list_put n (y ∷ l) zero x h =
    omega (arith, occurrences_append n (inner x) (all_inner l), occurrences_append n (inner y) (all_inner l))
list_put n (y ∷ l) (suc c) x h =
    omega (
      arith,
      occurrences_append n (inner y) (all_inner (set l c x)),
      occurrences_append n (inner y) (all_inner l),
      list_put n l c x (omega arith),
    )

module _ {σ τ : Store} {c : ℕ} {x : Cell} (p : Put σ τ c x) where
  pub put_size : cell_count τ ≡ cell_count σ
  put_size = ap length p.cells ∙ length-set σ.cells c x

  pub put_same : cell τ c ≡ x
  unfolding cell
  put_same =
      ap (λ (l : List Cell). get_or l c (clear 0)) p.cells
      ∙ get_or-set_same σ.cells c x (clear 0) p.within

  pub put_other : (d : ℕ) → d ≢ c → cell τ d ≡ cell σ d
  unfolding cell
  put_other d f =
      ap (λ (l : List Cell). get_or l d (clear 0)) p.cells
      ∙ get_or-set_other σ.cells c d x (clear 0) f

  pub put_inner : (n : ℕ) →
      occurrences n (all_inner τ.cells) + occurrences n (inner (cell σ c))
      ≡ occurrences n (all_inner σ.cells) + occurrences n (inner x)
  unfolding cell
  put_inner n =
      ap (λ (l : List Cell). occurrences n (all_inner l) + occurrences n (inner (cell σ c))) p.cells
      ∙ list_put n σ.cells c x p.within

  pub put_cases : (d : ℕ) → Here σ τ c x d ⊎ There σ τ c d
  put_cases d = elim (hits d c) [
    | inl g ↦
        let new : cell τ d ≡ x = ap (cell τ) g.0 ∙ put_same in
        let old : cell σ d ≡ cell σ c = ap (cell σ) g.0 in
        inl (record {
          is = g.0;
          hit = g.1;
          new = new;
          old = old;
          new_count = ap (λ y. y.count) new;
          old_count = ap (λ y. y.count) old;
        })
    | inr g ↦
        let same : cell τ d ≡ cell σ d = put_other d g.0 in
        inr (record { other = g.0; hit = g.1; same = same; count = ap (λ y. y.count) same })
  ]

  -- a cell written with the same count
  pub put_counts : x.count ≡ (cell σ c).count → (d : ℕ) → (cell τ d).count ≡ (cell σ d).count
  put_counts e d = elim (put_cases d) [ inl g ↦ omega (arith, g.new_count, g.old_count, e) | inr g ↦ g.count ]

  -- a cell written with the same words
  pub put_agree : CellsAgree x (cell σ c) → (d : ℕ) → CellsAgree (cell τ d) (cell σ d)
  put_agree a d = elim (put_cases d) [
    | inl g ↦ agree_trans (cell τ d) x (cell σ d) (same_agree (cell τ d) x g.new)
        (agree_trans x (cell σ c) (cell σ d) a (same_agree (cell σ c) (cell σ d) (sym g.old)))
    | inr g ↦ same_agree (cell τ d) (cell σ d) g.same
  ]

pub with_cell_put : (σ : Store) (c : ℕ) (x : Cell) → c < cell_count σ → Put σ (with_cell σ c x) c x
unfolding with_cell
with_cell_put σ c x h = record { within = h; cells = refl }

pub with_first_put : (σ : Store) (c : ℕ) (x : Cell) (f : ℕ) → c < cell_count σ →
    Put σ (with_first (with_cell σ c x) f) c x
unfolding with_cell with_first
with_first_put σ c x f h = record { within = h; cells = refl }
