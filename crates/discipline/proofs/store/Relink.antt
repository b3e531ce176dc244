-- The free list made anew, upwards: so a stop leaves a store.
use Rattle.prelude.specs.Kit.{ℕ, ◌+◌, ◌<◌, suc, zero, arith, dec_lt, ◌≡◌, refl, ◌∙◌, sym, ap, subst, ap₂, inl, inr, ◌≢◌}
use Rattle.prelude.specs.Kit.{◌⊎◌, List, [], ◌∷◌, ◌++◌, length, get_or}
use Rattle.semantics.specs.Basics.{occurrences, ◌∈◌}
use Rattle.semantics.specs.Store.{Cell, Store, cell, cell_count, clear, inner, Linked, link, linked, relinked}
use Rattle.semantics.specs.Store.{one_if_used, used_cells, cells_taken}
use Rattle.semantics.specs.Sound.{due, all_inner}
use Rattle.semantics.specs.Demands.{value_of, LeftAlone}
use Rattle.laws.specs.Lists.{hits}
use Rattle.discipline.proofs.store.Invariant.{Tidy, Invariant, Alike}
use Rattle.discipline.proofs.store.Counting.{hits_itself}
use Rattle.discipline.proofs.store.Cells.{in_range, out_of_range, CellsAgree, same_agree, agree_inner}
use Rattle.discipline.proofs.store.FreeList.{Links, Listed}
use Rattle.discipline.proofs.store.Change.{held_used, Unlisted, unlisted, relisted}
use Rattle.discipline.proofs.store.Kept.{alike_on, stands_kept}
use Rattle.discipline.proofs.store.Rest.{Rests, rests_stands}

-- ---- cells linked upwards

-- a cell in use stays; another is clear
abbrev Relinked : Cell → Cell → Type 0
Relinked y x = ((0 < x.count) × (y ≡ x)) ⊎ ((x.count ≡ 0) × (y ≡ clear y.next))

clear_parts : (n : ℕ) → ((clear n).count ≡ 0) × ((clear n).next ≡ n)
unfolding clear
clear_parts n = (refl, refl)

both_clear : (y x : Cell) → y ≡ clear y.next → x ≡ clear x.next → (y.count ≡ x.count) × CellsAgree y x
unfolding clear
both_clear y x p q = (
  ap (λ (z : Cell). z.count) p ∙ sym (ap (λ (z : Cell). z.count) q),
  (
    ap (λ (z : Cell). z.size) p ∙ sym (ap (λ (z : Cell). z.size) q),
    ap (λ (z : Cell). z.depth) p ∙ sym (ap (λ (z : Cell). z.depth) q),
    ap (λ (z : Cell). z.slots) p ∙ sym (ap (λ (z : Cell). z.slots) q),
  ),
)

-- by the count of the first cell
link_length : (n : ℕ) (x : Cell) (c : ℕ) (r : Linked) → length (link n x c r).cells ≡ suc (length r.cells)
link_length zero x c r = refl
link_length (suc n) x c r = refl

link_first : (n : ℕ) (x : Cell) (c : ℕ) (r : Linked) → x.count ≡ n →
    Relinked (get_or (link n x c r).cells 0 (clear 0)) x
link_first zero x c r e = inr (e, ap clear (sym (clear_parts r.head).1))
link_first (suc n) x c r e = inl (omega arith, refl)

link_later : (n : ℕ) (x : Cell) (c : ℕ) (r : Linked) (i : ℕ) →
    get_or (link n x c r).cells (suc i) (clear 0) ≡ get_or r.cells i (clear 0)
link_later zero x c r i = refl
link_later (suc n) x c r i = refl

linked_length : (l : List Cell) (c : ℕ) → length (linked c l).cells ≡ length l
unfolding linked
linked_length [] c = refl
linked_length (x ∷ l) c = link_length x.count x c (linked (suc c) l) ∙ ap suc (linked_length l (suc c))

linked_at : (l : List Cell) (c i : ℕ) → i < length l →
    Relinked (get_or (linked c l).cells i (clear 0)) (get_or l i (clear 0))
unfolding linked
linked_at [] c i h = absurd (omega arith)
linked_at (x ∷ l) c zero h = link_first x.count x c (linked (suc c) l) refl
linked_at (x ∷ l) c (suc i) h =
    subst (λ (y : Cell). Relinked y (get_or l i (clear 0))) (sym (link_later x.count x c (linked (suc c) l) i))
    (linked_at l (suc c) i (omega arith))

link_used : (n : ℕ) (x : Cell) (c : ℕ) (r : Linked) → x.count ≡ n →
    used_cells (link n x c r).cells ≡ one_if_used n + used_cells r.cells
unfolding used_cells
link_used zero x c r e = omega (arith, ap one_if_used (clear_parts r.head).0)
link_used (suc n) x c r e = omega (arith, ap one_if_used e)

linked_used : (l : List Cell) (c : ℕ) → used_cells (linked c l).cells ≡ used_cells l
unfolding linked used_cells
linked_used [] c = refl
linked_used (x ∷ l) c =
    omega (arith, link_used x.count x c (linked (suc c) l) refl, linked_used l (suc c))

-- ---- the new list

abbrev with_free : ℕ → ℕ → List ℕ → List ℕ
with_free zero c m = c ∷ m
with_free (suc n) c m = m

-- the numbers of the cells of count 0, upwards from c
unfoldable free_upwards : ℕ → List Cell → List ℕ
free_upwards c [] = []
free_upwards c (x ∷ l) = with_free x.count c (free_upwards (suc c) l)

with_free_counts : (n c m : ℕ) (f : List ℕ) → m ≢ c → occurrences m (with_free n c f) ≡ occurrences m f
unfolding occurrences
with_free_counts zero c m f g = elim (hits m c) [ inl h ↦ absurd (g h.0) | inr h ↦ omega arith ]
with_free_counts (suc n) c m f g = refl

with_free_first : (n c : ℕ) (f : List ℕ) → occurrences c f ≡ 0 → occurrences c (with_free n c f) ≡ due n
unfolding occurrences
with_free_first zero c f z = omega (arith, hits_itself c)
with_free_first (suc n) c f z = z

upwards_below : (l : List Cell) (c m : ℕ) → m < c → occurrences m (free_upwards c l) ≡ 0
unfolding occurrences free_upwards
upwards_below [] c m h = refl
upwards_below (x ∷ l) c m h =
    with_free_counts x.count c m (free_upwards (suc c) l) (λ e. omega arith)
    ∙ upwards_below l (suc c) m (omega arith)

upwards_once : (l : List Cell) (c i : ℕ) → i < length l →
    occurrences (c + i) (free_upwards c l) ≡ due (get_or l i (clear 0)).count
unfolding free_upwards
upwards_once [] c i h = absurd (omega arith)
upwards_once (x ∷ l) c zero h =
    let e : c + 0 ≡ c = omega arith in
    ap (λ (k : ℕ). occurrences k (with_free x.count c (free_upwards (suc c) l))) e
    ∙ with_free_first x.count c (free_upwards (suc c) l) (upwards_below l (suc c) c (omega arith))
upwards_once (x ∷ l) c (suc i) h =
    let e : c + suc i ≡ suc c + i = omega arith in
    with_free_counts x.count c (c + suc i) (free_upwards (suc c) l) (λ e. omega arith)
    ∙ ap (λ (k : ℕ). occurrences k (free_upwards (suc c) l)) e
    ∙ upwards_once l (suc c) i (omega arith)

-- in a store that has these cells from number c on
upwards_links : (τ : Store) (l : List Cell) (c : ℕ) → c + length l ≡ cell_count τ →
    ((i : ℕ) → i < length l → cell τ (c + i) ≡ get_or (linked c l).cells i (clear 0)) →
    Links τ (linked c l).head (free_upwards c l)
unfolding linked free_upwards
upwards_links τ [] c e f = omega arith
upwards_links τ (x ∷ l) c e f = go x.count refl (upwards_links τ l (suc c) (omega arith) rest)
  where
    rest : (i : ℕ) → i < length l → cell τ (suc c + i) ≡ get_or (linked (suc c) l).cells i (clear 0)
    rest i h = ap (cell τ) (omega arith) ∙ f (suc i) (omega arith) ∙ link_later x.count x c (linked (suc c) l) i

    -- the first cell, if it is free
    next : x.count ≡ 0 → (cell τ c).next ≡ (linked (suc c) l).head
    next q =
        let e : c ≡ c + 0 = omega arith in
        let first = ap (cell τ) e ∙ f 0 (omega arith) in
        let free = ap (λ (m : ℕ). get_or (link m x c (linked (suc c) l)).cells 0 (clear 0)) q in
        ap (λ (y : Cell). y.next) (first ∙ free) ∙ (clear_parts (linked (suc c) l).head).1

    go : (n : ℕ) → x.count ≡ n → Links τ (linked (suc c) l).head (free_upwards (suc c) l) →
        Links τ (link n x c (linked (suc c) l)).head (with_free n c (free_upwards (suc c) l))
    go zero q k = (refl, omega arith, subst (λ (m : ℕ). Links τ m (free_upwards (suc c) l)) (sym (next q)) k)
    go (suc n) q k = k

-- ---- the store linked anew

all_inner_same : (l m : List Cell) → length m ≡ length l →
    ((i : ℕ) → i < length l → inner (get_or m i (clear 0)) ≡ inner (get_or l i (clear 0))) → all_inner m ≡ all_inner l
all_inner_same [] [] e f = refl
all_inner_same [] (y ∷ m) e f = absurd (omega arith)
all_inner_same (x ∷ l) [] e f = absurd (omega arith)
all_inner_same (x ∷ l) (y ∷ m) e f =
    ap₂ {C = List ℕ} ◌++◌ (f 0 (omega arith)) (all_inner_same l m (omega arith) (λ i h. f (suc i) (omega arith)))

-- from σ to τ: the same cells, but for the links of the free ones
pub record Relinks (σ τ : Store) (Z R : List ℕ) : Type 0 where
  pub holds : Invariant τ Z R
  pub left_alone : LeftAlone σ τ
  pub alike : (r : ℕ) → Alike σ τ r
  pub agree : (c : ℕ) → CellsAgree (cell τ c) (cell σ c)
  pub taken : cells_taken τ ≡ cells_taken σ
  pub cells : cell_count τ ≡ cell_count σ

module _ {σ : Store} {Z R : List ℕ} (v : Unlisted σ Z R) where
  abbrev τ : Store
  τ = relinked σ

  same_size : cell_count τ ≡ cell_count σ
  unfolding relinked
  same_size = linked_length σ.cells 0

  relinked_at : (c : ℕ) → c < cell_count σ → Relinked (cell τ c) (cell σ c)
  unfolding relinked cell
  relinked_at c h = linked_at σ.cells 0 c h

  -- a cell in use stays as it is; another is clear, as it was but for its next
  pub relinked_used : (c : ℕ) → 0 < (cell σ c).count → cell τ c ≡ cell σ c
  relinked_used c u = elim (relinked_at c (in_range σ c u)) [ inl g ↦ g.1 | inr g ↦ absurd (omega (arith, g.0)) ]

  relinked_agree : (c : ℕ) → ((cell τ c).count ≡ (cell σ c).count) × CellsAgree (cell τ c) (cell σ c)
  relinked_agree c = elim (dec_lt c (cell_count σ)) [
    | yes h ↦ elim (relinked_at c h) [
      | inl g ↦ (ap (λ (y : Cell). y.count) g.1, same_agree (cell τ c) (cell σ c) g.1)
      | inr g ↦ both_clear (cell τ c) (cell σ c) g.1 (v.blank c h g.0)
    ]
    | no h ↦
        let e = out_of_range τ c (omega (arith, h, same_size)) ∙ sym (out_of_range σ c (omega (arith, h))) in
        (ap (λ (y : Cell). y.count) e, same_agree (cell τ c) (cell σ c) e)
  ]

  same_count : (c : ℕ) → (cell τ c).count ≡ (cell σ c).count
  same_count c = (relinked_agree c).0

  same_inner : (c : ℕ) → inner (cell τ c) ≡ inner (cell σ c)
  same_inner c = agree_inner (cell τ c) (cell σ c) (relinked_agree c).1

  same_names : all_inner τ.cells ≡ all_inner σ.cells
  unfolding cell
  same_names = all_inner_same σ.cells τ.cells same_size (λ i h. same_inner i)

  from_zero : (i : ℕ) → 0 + i ≡ i
  from_zero i = omega arith

  relinked_list : Listed τ (free_upwards 0 σ.cells)
  unfolding relinked cell
  relinked_list = record {
    links = upwards_links τ σ.cells 0 (omega (arith, same_size)) (λ i h. ap (cell τ) (from_zero i));
    once = λ c h.
        ap (λ (k : ℕ). occurrences k (free_upwards 0 σ.cells)) (sym (from_zero c))
        ∙ upwards_once σ.cells 0 c (omega (arith, same_size)) ∙ ap due (sym (same_count c));
  }

  relinked_blank : (c : ℕ) → c < cell_count τ → (cell τ c).count ≡ 0 → cell τ c ≡ clear (cell τ c).next
  relinked_blank c h z = elim (relinked_at c (omega (arith, same_size))) [
    | inl g ↦ absurd (omega (arith, g.0, same_count c))
    | inr g ↦ g.1
  ]

  relinked_holds : Invariant τ Z R
  relinked_holds = relisted (record {
    few = omega (arith, same_size, v.few);
    counts = λ c. omega (arith, same_count c, v.counts c, ap (occurrences c) same_names);
    alone = λ c h. same_count c ∙ v.alone c h;
    typed = λ c r h.
        (relinked_agree c).1.1 ∙ v.typed c r (subst (λ (l : List ℕ). r ∈ l) (same_inner c) h)
        ∙ ap suc (sym (relinked_agree r).1.1);
    tidy = λ c h.
        let u : 0 < (cell σ c).count = omega (arith, same_count c) in
        subst Tidy (sym (relinked_used c u)) (v.tidy c u);
    blank = relinked_blank;
  }) relinked_list

  pub relink : Relinks σ τ Z R
  unfolding relinked
  relink = record {
    holds = relinked_holds;
    left_alone = record { totals = refl; cells = relinked_used };
    alike = λ r. alike_on σ τ (λ c. Unit {0}) (λ b c p h. tt) v.typed (λ c p. (relinked_agree c).1) r tt;
    agree = λ c. (relinked_agree c).1;
    taken = linked_used σ.cells 0;
    cells = same_size;
  }

-- a store at rest stays at rest, with the same value
pub relinked_rests : {d : ℕ} {σ : Store} → Rests d σ →
    Rests d (relinked σ) × (value_of (relinked σ) d (relinked σ).totals ≡ value_of σ d σ.totals)
unfolding relinked
relinked_rests {d} {σ} h =
    let k = relink (unlisted h.holds) in (
      record { holds = k.holds; fits = λ r g. h.fits r g ∙ ap suc (sym (k.agree r).1) },
      (stands_kept (rests_stands h) (λ r g. (k.alike r, held_used k.holds r g))).means,
    )
