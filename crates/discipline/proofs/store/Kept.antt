-- What a change of the store leaves alone: cells that are reached, and their values.
use Rattle.prelude.specs.Kit.{ℕ, ◌+◌, ◌<◌, suc, zero, arith, dec_lt, ◌≡◌, refl, ◌∙◌, sym, ap, subst, ap₂, inl, inr, ◌≢◌}
use Rattle.prelude.specs.Kit.{List, [], ◌∷◌, ◌++◌, map, ℤ}
use Rattle.semantics.specs.Basics.{occurrences, ◌∈◌}
use Rattle.semantics.specs.Value.{Value, num, list}
use Rattle.semantics.specs.Store.{Cell, Store, cell, cell_of, elements, inner, named_by}
use Rattle.semantics.specs.Sound.{all_inner}
use Rattle.semantics.specs.Demands.{value_of, Reached, root, slot}
use Rattle.laws.specs.Lists.{◌⊆◌, hits, occurs_first, occurrences_append}
use Rattle.discipline.proofs.store.Invariant.{Invariant, Alike, Keeps, StandsFor}
use Rattle.discipline.proofs.store.Cells.{CellsAgree, agree_elements, agree_inner, same_agree, agree_trans, namer}
use Rattle.discipline.proofs.store.Cells.{inner_in_all, Put, put_other}
use Rattle.discipline.proofs.store.Change.{root_used, inner_used, namer_used}

-- ---- reached cells

pub reached_more : (σ : Store) (R R' : List ℕ) → R ⊆ R' → (c : ℕ) → Reached σ R c → Reached σ R' c
reached_more σ R R' f c (root e h) = root e (f e h)
reached_more σ R R' f c (slot b e q h) = slot b e (reached_more σ R R' f b q) h

-- a set of cells that is closed under naming has all that its members reach
pub reached_within : (σ : Store) (P : ℕ → Type 0) → ((b c : ℕ) → P b → c ∈ inner (cell σ b) → P c) →
    (R : List ℕ) → ((r : ℕ) → r ∈ R → P r) → (c : ℕ) → Reached σ R c → P c
reached_within σ P closed R f c (root e h) = f e h
reached_within σ P closed R f c (slot b e q h) = closed b e (reached_within σ P closed R f b q) h

-- what holds of r holds of every member of the list of r alone
pub only : (P : ℕ → Type 0) (r : ℕ) → P r → (c : ℕ) → c ∈ (r ∷ []) → P c
unfolding occurrences
only P r p c h = elim (hits c r) [ inl g ↦ subst P (sym g.0) p | inr g ↦ absurd (omega arith) ]

-- where the cells reached agree, the other store reaches the same
reached_there : (σ τ : Store) (R : List ℕ) → ((c : ℕ) → Reached σ R c → CellsAgree (cell τ c) (cell σ c)) →
    (c : ℕ) → Reached σ R c → Reached τ R c
reached_there σ τ R f c (root e h) = root e h
reached_there σ τ R f c (slot b e q h) =
    slot b e (reached_there σ τ R f b q)
    (subst (λ (l : List ℕ). e ∈ l) (sym (agree_inner (cell τ b) (cell σ b) (f b q))) h)

-- ---- values

-- cells of a set closed under naming, which agree in two stores, have the same values in both
module _ (σ τ : Store) (P : ℕ → Type 0) (closed : (b c : ℕ) → P b → c ∈ inner (cell σ b) → P c)
    (typed : (c r : ℕ) → r ∈ inner (cell σ c) → (cell σ c).depth ≡ suc (cell σ r).depth)
    (agree : (c : ℕ) → P c → CellsAgree (cell τ c) (cell σ c)) where
  -- the words of cells of element depth d have the same values
  abbrev SameAt : ℕ → Type 0
  SameAt d = (w : ℤ) → P (cell_of w) → d ≡ (cell σ (cell_of w)).depth → value_of τ (suc d) w ≡ value_of σ (suc d) w

  words_same : (d : ℕ) → SameAt d → (ws : List ℤ) →
      ((r : ℕ) → r ∈ map cell_of ws → P r × (d ≡ (cell σ r).depth)) →
      map (value_of τ (suc d)) ws ≡ map (value_of σ (suc d)) ws
  unfolding occurrences
  words_same d same [] f = refl
  words_same d same (w ∷ ws) f =
      let q = f (cell_of w) (occurs_first (cell_of w) (map cell_of ws)) in
      ap₂ {C = List Value} ◌∷◌ (same w q.0 q.1) (words_same d same ws (λ r h. f r (omega arith)))

  elements_same : (w : ℤ) → P (cell_of w) → elements (cell τ (cell_of w)) ≡ elements (cell σ (cell_of w))
  elements_same w p = agree_elements (cell τ (cell_of w)) (cell σ (cell_of w)) (agree (cell_of w) p)

  pub value_same : (d : ℕ) → SameAt d
  unfolding value_of inner
  value_same zero w p e = ap (λ (l : List ℤ). list (map num l)) (elements_same w p)
  value_same (suc d) w p e =
      ap (λ (l : List ℤ). list (map (value_of τ (suc d)) l)) (elements_same w p)
      ∙ ap (λ (l : List Value). list l) (words_same d (value_same d) (elements (cell σ (cell_of w))) within)
    where
      named : (r : ℕ) → r ∈ map cell_of (elements (cell σ (cell_of w))) → r ∈ inner (cell σ (cell_of w))
      named r h = subst (λ (k : ℕ). r ∈ named_by k (elements (cell σ (cell_of w)))) e h

      within : (r : ℕ) → r ∈ map cell_of (elements (cell σ (cell_of w))) → P r × (d ≡ (cell σ r).depth)
      within r h =
          let n = named r h in
          (closed (cell_of w) r p n, omega (arith, typed (cell_of w) r n))

  pub alike_on : (r : ℕ) → P r → Alike σ τ r
  alike_on r p = record {
    cells = λ c q. agree c (reached_within σ P closed (r ∷ []) (only P r p) c q);
    values = λ d w e f. ap (λ (k : ℕ). value_of τ k w) f
        ∙ value_same (cell σ r).depth w (subst P (sym e) p) (ap (λ (k : ℕ). (cell σ k).depth) (sym e))
        ∙ sym (ap (λ (k : ℕ). value_of σ k w) f);
  }

-- a cell written that nothing names leaves all others alike
pub alike_others : {σ τ : Store} {c : ℕ} {x : Cell} {Z R : List ℕ} → Invariant σ Z R → Put σ τ c x →
    occurrences c (all_inner σ.cells) ≡ 0 → (r : ℕ) → r ≢ c → Alike σ τ r
alike_others {σ} {τ} {c} v p lone =
    alike_on σ τ (λ n. n ≢ c) others v.typed (λ n g. same_agree (cell τ n) (cell σ n) (put_other p n g))
  where
    others : (b n : ℕ) → b ≢ c → n ∈ inner (cell σ b) → n ≢ c
    others b n f h e = omega (arith, lone, inner_in_all n σ b, ap (λ (k : ℕ). occurrences k (all_inner σ.cells)) e)

-- ---- Alike and Keeps

pub alike_self : (σ : Store) (r : ℕ) → Alike σ σ r
alike_self σ r = record { cells = λ c q. (refl, refl, refl); values = λ d w e f. refl }

pub alike_depth : {σ τ : Store} {r : ℕ} → Alike σ τ r → (cell τ r).depth ≡ (cell σ r).depth
unfolding occurrences
alike_depth {σ} {τ} {r} a = (a.cells r (root r (occurs_first r []))).1

pub alike_trans : {σ τ υ : Store} {r : ℕ} → Alike σ τ r → Alike τ υ r → Alike σ υ r
alike_trans {σ} {τ} {υ} {r} a b = record {
  cells = λ c q. agree_trans (cell υ c) (cell τ c) (cell σ c)
      (b.cells c (reached_there σ τ (r ∷ []) a.cells c q)) (a.cells c q);
  values = λ d w e f. b.values d w e (f ∙ ap suc (sym (alike_depth a))) ∙ a.values d w e f;
}

pub keeps_self : (σ : Store) (R : List ℕ) → Keeps σ σ R
keeps_self σ R = record { keep = λ r h. alike_self σ r }

pub keeps_trans : {σ τ υ : Store} {R : List ℕ} → Keeps σ τ R → Keeps τ υ R → Keeps σ υ R
keeps_trans a b = record { keep = λ r h. alike_trans (a.keep r h) (b.keep r h) }

pub keeps_fewer : {σ τ : Store} (R R' : List ℕ) → R' ⊆ R → Keeps σ τ R → Keeps σ τ R'
keeps_fewer R R' f a = record { keep = λ r h. a.keep r (f r h) }

-- all cells reached agree
pub alike_reached : {σ τ : Store} {Z R : List ℕ} {r : ℕ} → Invariant σ Z R →
    ((c : ℕ) → Reached σ (r ∷ []) c → CellsAgree (cell τ c) (cell σ c)) → Alike σ τ r
alike_reached {σ} {τ} {r = r} v f =
    alike_on σ τ (Reached σ (r ∷ [])) (λ b c q h. slot b c q h) v.typed f r (root r (occurs_first r []))

-- all cells agree
pub alike_all : {σ τ : Store} {Z R : List ℕ} → Invariant σ Z R → ((c : ℕ) → CellsAgree (cell τ c) (cell σ c)) →
    (r : ℕ) → Alike σ τ r
alike_all {σ} {τ} v f r = alike_on σ τ (λ c. Unit {0}) (λ b c p h. tt) v.typed (λ c p. f c) r tt

-- the cells in use agree
pub alike_used : {σ τ : Store} {Z R : List ℕ} → Invariant σ Z R →
    ((c : ℕ) → 0 < (cell σ c).count → CellsAgree (cell τ c) (cell σ c)) → (r : ℕ) → 0 < (cell σ r).count → Alike σ τ r
alike_used {σ} {τ} v f r h =
    alike_on σ τ (λ c. 0 < (cell σ c).count) (λ b c p g. inner_used v b c g) v.typed f r h

-- the cells in use afterwards agree
pub alike_still_used : {σ τ : Store} {Z R Z' R' : List ℕ} → Invariant σ Z R → Invariant τ Z' R' →
    ((c : ℕ) → 0 < (cell τ c).count → CellsAgree (cell τ c) (cell σ c)) → (r : ℕ) → 0 < (cell τ r).count → Alike σ τ r
alike_still_used {σ} {τ} v u f r h = alike_on σ τ (λ c. 0 < (cell τ c).count) closed v.typed f r h
  where
    closed : (b c : ℕ) → 0 < (cell τ b).count → c ∈ inner (cell σ b) → 0 < (cell τ c).count
    closed b c p g =
        inner_used u b c (subst (λ (l : List ℕ). c ∈ l) (sym (agree_inner (cell τ b) (cell σ b) (f b p))) g)

-- ---- what a word stands for

-- a word of depth 0 is a number; of a greater depth it names one cell
pub stands_kept : {σ τ : Store} {d : ℕ} {w : ℤ} {x : Value} → StandsFor σ d w x →
    ((r : ℕ) → r ∈ named_by d (w ∷ []) → Alike σ τ r × (0 < (cell τ r).count)) → StandsFor τ d w x
unfolding value_of
stands_kept {σ} {τ} {d} {w} s f = record {
  means = same d refl ∙ s.means;
  fits = λ r h.
      let a = f r h in
      (a.1, (s.fits r h).1 ∙ ap suc (sym (alike_depth a.0)));
}
  where
    same : (k : ℕ) → d ≡ k → value_of τ d w ≡ value_of σ d w
    same zero e = ap (λ (n : ℕ). value_of τ n w) e ∙ sym (ap (λ (n : ℕ). value_of σ n w) e)
    same (suc k) e = (f (cell_of w) named).0.values d w refl (s.fits (cell_of w) named).1
      where
        named : cell_of w ∈ named_by d (w ∷ [])
        named = subst (λ (n : ℕ). cell_of w ∈ named_by n (w ∷ [])) (sym e) (occurs_first (cell_of w) [])

-- words whose cells are alike have the same values
pub words_alike : {σ τ : Store} (d : ℕ) (ws : List ℤ) →
    ((r : ℕ) → r ∈ named_by d ws → Alike σ τ r × (d ≡ suc (cell σ r).depth)) →
    map (value_of τ d) ws ≡ map (value_of σ d) ws
unfolding occurrences value_of
words_alike zero ws f = refl
words_alike (suc d) [] f = refl
words_alike (suc d) (w ∷ ws) f =
    let a = f (cell_of w) (occurs_first (cell_of w) (map cell_of ws)) in
    ap₂ {C = List Value} ◌∷◌ (a.0.values (suc d) w refl a.1) (words_alike (suc d) ws (λ r h. f r (omega arith)))

-- ---- in use means reached

module _ {σ : Store} {Z R : List ℕ} (v : Invariant σ Z R) where
  -- the namers of a cell are one deeper, and no cell is deeper than 3
  climb : (n c : ℕ) → 3 < (cell σ c).depth + n → 0 < (cell σ c).count → Reached σ (Z ++ R) c
  climb zero c h used = absurd (omega (arith, (v.tidy c used).depth))
  climb (suc n) c h used = elim (dec_lt 0 (occurrences c Z + occurrences c R)) [
    | yes g ↦ root c (omega (arith, occurrences_append c Z R))
    | no g ↦
        let q = namer c σ (omega (arith, v.counts c)) in
        slot q.0 c
        (climb n q.0 (omega (arith, v.typed q.0 c q.1)) (namer_used v q.0 c q.1)) q.1
  ]

  pub reached : (c : ℕ) → 0 < (cell σ c).count → Reached σ (Z ++ R) c
  reached c used = climb 4 c (omega arith) used

  pub reached_used : (c : ℕ) → Reached σ (Z ++ R) c → 0 < (cell σ c).count
  reached_used = reached_within σ (λ c. 0 < (cell σ c).count) (λ b c p h. inner_used v b c h) (Z ++ R) (root_used v)
