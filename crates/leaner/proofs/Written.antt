-- A cell written: an element more in both stores or in one, or an element overwritten in both or in the leaner one.
use Rattle.prelude.specs.Kit.{ℕ, ◌≤◌, ◌<◌, suc, zero, arith, dec_lt, ◌≡◌, refl, ◌∙◌, sym, ap, ap₂, List, [], ◌∷◌, ◌++◌}
use Rattle.prelude.specs.Kit.{map, map-append, ℤ, set, take-set-lt, lt-ltb, le-ltb}
use Rattle.semantics.specs.Basics.{◌∈◌}
use Rattle.semantics.specs.Store.{Cell, Store, cell, cell_of, elements, inner, named_by, wider, appended, with_slot}
use Rattle.semantics.specs.Store.{overwritten}
use Rattle.laws.specs.Cells.{inner_flat}
use Rattle.discipline.proofs.store.Invariant.{Invariant}
use Rattle.discipline.proofs.store.Cells.{in_range, Put, with_cell_put}
use Rattle.discipline.proofs.store.Append.{Wider, widened}
use Rattle.leaner.proofs.Leaner.{Leaner, Matching}
use Rattle.leaner.proofs.Placed.{put_placed, none_placed, Corresponds, leaner_placed, same_images}

-- ---- the cells

named_append : (d : ℕ) (ws vs : List ℤ) → named_by d (ws ++ vs) ≡ named_by d ws ++ named_by d vs
named_append zero ws vs = refl
named_append (suc d) ws vs = map-append cell_of ws vs

wider_inner : (x y : Cell) (w : ℤ) → Wider x y w → inner y ≡ inner x ++ named_by x.depth (w ∷ [])
unfolding inner
wider_inner x y w k = ap₂ named_by k.depth k.elements ∙ named_append x.depth (elements x) (w ∷ [])

-- a full cell stays as it is
wider_full : (x : Cell) (w : ℤ) → 16 ≤ x.size → wider x w ≡ x
unfolding wider
wider_full x w h = rw (le-ltb x.size 16 h) refl

-- what a cell written in place keeps
record SameHead (x y : Cell) : Type 0 where
  count : y.count ≡ x.count
  depth : y.depth ≡ x.depth

same_head : (x : Cell) → SameHead x x
same_head x = record { count = refl; depth = refl }

wider_head : (x : Cell) (w : ℤ) → SameHead x (wider x w)
unfolding wider
wider_head x w = elim (dec_lt x.size 16) [
  | yes h ↦ rw (lt-ltb x.size 16 h) (record { count = refl; depth = refl })
  | no h ↦ rw (le-ltb x.size 16 (omega (arith, h))) (record { count = refl; depth = refl })
]

slot_head : (x : Cell) (i : ℕ) (w : ℤ) → SameHead x (with_slot x i w)
unfolding with_slot
slot_head x i w = elim (dec_lt i x.size) [
  | yes h ↦ rw (lt-ltb i x.size h) (record { count = refl; depth = refl })
  | no h ↦ rw (le-ltb i x.size (omega (arith, h))) (record { count = refl; depth = refl })
]

appended_put : (σ : Store) (c : ℕ) (w : ℤ) → 0 < (cell σ c).count → Put σ (appended c w σ) c (wider (cell σ c) w)
unfolding appended
appended_put σ c w h = with_cell_put σ c (wider (cell σ c) w) (in_range σ c h)

overwritten_put : (σ : Store) (c i : ℕ) (w : ℤ) → 0 < (cell σ c).count →
    Put σ (overwritten c i w σ) c (with_slot (cell σ c) i w)
unfolding overwritten
overwritten_put σ c i w h = with_cell_put σ c (with_slot (cell σ c) i w) (in_range σ c h)

-- ---- an element more in both

module _ {E : List ℕ} {π : ℕ → ℕ} {τ σ : Store} {Z' R' Z R : List ℕ} (c : ℕ) (w v : ℤ) (l : Leaner E π τ σ)
    (u : Invariant τ Z' R') (k : Invariant σ Z R) (h : 0 < (cell τ c).count) (f : c ∈ E → ⊥)
    (m : Matching π τ (cell τ c).depth (w ∷ []) (v ∷ [])) where
  abbrev x : Cell
  x = cell τ c

  abbrev y : Cell
  y = cell σ (π c)

  both_wider : Wider x (wider x w) w → Wider y (wider y v) v → Corresponds E π c (wider x w) (wider y v)
  both_wider p q = record {
    used = omega (arith, q.count, l.used c h);
    depth = q.depth ∙ l.depth c h ∙ sym p.depth;
    names = wider_inner y (wider y v) v q
        ∙ ap₂ {C = List ℕ} ◌++◌ (l.names c h) (ap (λ (d : ℕ). named_by d (v ∷ [])) (l.depth c h) ∙ m.names)
        ∙ sym (map-append π (inner x) (named_by x.depth (w ∷ [])))
        ∙ ap (map π) (sym (wider_inner x (wider x w) w p));
    numbers = λ i z. q.elements ∙ ap₂ {C = List ℤ} ◌++◌ (l.numbers c h f (sym p.depth ∙ z))
        (m.numbers (sym p.depth ∙ z)) ∙ sym p.elements;
    sizes = λ i. omega (arith, p.size, q.size, l.sizes c h f);
  }

  both_full : 16 ≤ x.size → Corresponds E π c (wider x w) (wider y v)
  both_full g = rw (wider_full x w g, wider_full y v (omega (arith, g, l.sizes c h f))) (record {
    used = l.used c h;
    depth = l.depth c h;
    names = l.names c h;
    numbers = l.numbers c h;
    sizes = l.sizes c h;
  })

  new : Corresponds E π c (wider x w) (wider y v)
  new = elim (dec_lt x.size 16) [
    | yes g ↦ both_wider (widened x w g (u.tidy c h))
        (widened y v (omega (arith, g, l.sizes c h f)) (k.tidy (π c) (l.used c h)))
    | no g ↦ both_full (omega (arith, g))
  ]

  -- words that match, appended to corresponding cells
  pub leaner_appended : Leaner E π (appended c w τ) (appended (π c) v σ)
  leaner_appended = leaner_placed l (put_placed (appended_put τ c w h))
      (put_placed (appended_put σ (π c) v (l.used c h))) new (same_images c h l) (λ d i. i)

-- ---- an array of numbers, in one store or in both

-- the same word in the same slot of cells with the same elements
same_slot : (x y : Cell) (i : ℕ) (w : ℤ) → y.size ≡ x.size → elements y ≡ elements x →
    (elements (with_slot y i w) ≡ elements (with_slot x i w)) × ((with_slot y i w).size ≡ (with_slot x i w).size)
unfolding elements with_slot
same_slot x y i w s e = elim (dec_lt i x.size) [
  | yes h ↦ rw (lt-ltb i x.size h, lt-ltb i y.size (omega (arith, h, s))) (
    take-set-lt y.size y.slots i w (omega (arith, h, s)) ∙ ap (λ (l : List ℤ). set l i w) e
        ∙ sym (take-set-lt x.size x.slots i w h),
    s,
  )
  | no h ↦ rw (le-ltb i x.size (omega (arith, h)), le-ltb i y.size (omega (arith, h, s))) (e, s)
]

module _ {E : List ℕ} {π : ℕ → ℕ} {τ σ : Store} (c : ℕ) (l : Leaner E π τ σ) (h : 0 < (cell τ c).count)
    (z : (cell τ c).depth ≡ 0) where
  -- the cells written have the same numbers, unless these may differ
  rewritten : (x y : Cell) → SameHead (cell τ c) x → SameHead (cell σ (π c)) y →
      ((c ∈ E → ⊥) → (elements y ≡ elements x) × (y.size ≡ x.size)) → Corresponds E π c x y
  rewritten x y p q same = record {
    used = omega (arith, q.count, l.used c h);
    depth = q.depth ∙ l.depth c h ∙ sym p.depth;
    names = inner_flat y (q.depth ∙ l.depth c h ∙ z) ∙ ap (map π) (sym (inner_flat x (p.depth ∙ z)));
    numbers = λ f d. (same f).0;
    sizes = λ f. (same f).1;
  }

  -- a number appended in the other store, to the image of a cell that is exempt
  pub leaner_other_appended : (v : ℤ) → c ∈ E → Leaner E π τ (appended (π c) v σ)
  leaner_other_appended v e = leaner_placed l (none_placed τ c) (put_placed (appended_put σ (π c) v (l.used c h)))
      (rewritten (cell τ c) (wider (cell σ (π c)) v) (same_head (cell τ c)) (wider_head (cell σ (π c)) v)
      (λ f. absurd (f e)))
      (same_images c h l) (λ d i. i)

  -- a number of such a cell overwritten
  pub leaner_overwritten : (i : ℕ) (w : ℤ) → c ∈ E → Leaner E π (overwritten c i w τ) σ
  leaner_overwritten i w e = leaner_placed l (put_placed (overwritten_put τ c i w h)) (none_placed σ (π c))
      (rewritten (with_slot (cell τ c) i w) (cell σ (π c)) (slot_head (cell τ c) i w) (same_head (cell σ (π c)))
      (λ f. absurd (f e)))
      (same_images c h l) (λ d j. j)

  -- the same number overwritten in both
  pub leaner_both_overwritten : (i : ℕ) (w : ℤ) → (c ∈ E → ⊥) →
      Leaner E π (overwritten c i w τ) (overwritten (π c) i w σ)
  leaner_both_overwritten i w f = leaner_placed l (put_placed (overwritten_put τ c i w h))
      (put_placed (overwritten_put σ (π c) i w (l.used c h)))
      (rewritten (with_slot (cell τ c) i w) (with_slot (cell σ (π c)) i w) (slot_head (cell τ c) i w)
      (slot_head (cell σ (π c)) i w)
      (λ g. same_slot (cell τ c) (cell σ (π c)) i w (l.sizes c h f) (l.numbers c h f z)))
      (same_images c h l) (λ d j. j)
