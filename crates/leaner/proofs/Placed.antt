-- One cell written in each of two stores, or in one of them: they are still related where the two cells correspond.
use Rattle.prelude.specs.Kit.{ℕ, ◌<◌, ℕ_discrete, ◌≡◌, refl, ◌∙◌, sym, ap, subst, ◌≢◌, List, map}
use Rattle.semantics.specs.Basics.{◌∈◌}
use Rattle.semantics.specs.Store.{Cell, Store, cell, elements, inner}
use Rattle.laws.specs.Lists.{◌⊆◌}
use Rattle.discipline.proofs.store.Cells.{Put, put_same, put_other}
use Rattle.discipline.proofs.machine.Images.{image_alike}
use Rattle.leaner.proofs.Leaner.{Leaner}

-- σ' has the cells of σ but for cell c, which is x
pub record Placed (σ σ' : Store) (c : ℕ) (x : Cell) : Type 0 where
  pub here : cell σ' c ≡ x
  pub others : (d : ℕ) → d ≢ c → cell σ' d ≡ cell σ d

pub put_placed : {σ σ' : Store} {c : ℕ} {x : Cell} → Put σ σ' c x → Placed σ σ' c x
put_placed p = record { here = put_same p; others = put_other p }

-- nothing was written
pub none_placed : (σ : Store) (c : ℕ) → Placed σ σ c (cell σ c)
none_placed σ c = record { here = refl; others = λ d h. refl }

-- the cell x at c of the leaner store and its image y
pub record Corresponds (E : List ℕ) (π : ℕ → ℕ) (c : ℕ) (x y : Cell) : Type 0 where
  pub used : 0 < y.count
  pub depth : y.depth ≡ x.depth
  pub names : inner y ≡ map π (inner x)
  pub numbers : (c ∈ E → ⊥) → x.depth ≡ 0 → elements y ≡ elements x
  pub sizes : (c ∈ E → ⊥) → y.size ≡ x.size

-- the other cells correspond as before
pub record OthersStay (π π' : ℕ → ℕ) (τ : Store) (c : ℕ) : Type 0 where
  pub image : (d : ℕ) → d ≢ c → π' d ≡ π d
  pub outside : (d : ℕ) → d ≢ c → 0 < (cell τ d).count → π d ≢ π' c
  pub names : (d r : ℕ) → d ≢ c → r ∈ inner (cell τ d) → π' r ≡ π r

module _ {E E' : List ℕ} {π π' : ℕ → ℕ} {τ σ τ' σ' : Store} {c : ℕ} {x y : Cell} (l : Leaner E π τ σ)
    (p : Placed τ τ' c x) (q : Placed σ σ' (π' c) y) (k : Corresponds E' π' c x y) (o : OthersStay π π' τ c)
    (exempt : E ⊆ E') where
  old_used : (d : ℕ) → d ≢ c → 0 < (cell τ' d).count → 0 < (cell τ d).count
  old_used d f h = subst (λ (z : Cell). 0 < z.count) (p.others d f) h

  old_image : (d : ℕ) → d ≢ c → 0 < (cell τ' d).count → cell σ' (π' d) ≡ cell σ (π d)
  old_image d f h = ap (cell σ') (o.image d f) ∙ q.others (π d) (o.outside d f (old_used d f h))

  new_cell : (d : ℕ) → d ≡ c → cell τ' d ≡ x
  new_cell d e = ap (cell τ') e ∙ p.here

  new_image : (d : ℕ) → d ≡ c → cell σ' (π' d) ≡ y
  new_image d e = ap (λ (b : ℕ). cell σ' (π' b)) e ∙ q.here

  apart : (b d : ℕ) → 0 < (cell τ' b).count → 0 < (cell τ' d).count → π' b ≡ π' d → b ≡ d
  apart b d h g e = elim (ℕ_discrete b c) [
    | yes i ↦ elim (ℕ_discrete d c) [
      | yes j ↦ i ∙ sym j
      | no j ↦ absurd (o.outside d j (old_used d j g) (sym (o.image d j) ∙ sym e ∙ ap π' i))
    ]
    | no i ↦ elim (ℕ_discrete d c) [
      | yes j ↦ absurd (o.outside b i (old_used b i h) (sym (o.image b i) ∙ e ∙ ap π' j))
      | no j ↦ l.apart b d (old_used b i h) (old_used d j g) (sym (o.image b i) ∙ e ∙ o.image d j)
    ]
  ]

  pub leaner_placed : Leaner E' π' τ' σ'
  leaner_placed = record {
    used = λ d h. elim (ℕ_discrete d c) [
      | yes e ↦ subst (λ (z : Cell). 0 < z.count) (sym (new_image d e)) k.used
      | no f ↦ subst (λ (z : Cell). 0 < z.count) (sym (old_image d f h)) (l.used d (old_used d f h))
    ];
    apart = apart;
    depth = λ d h. elim (ℕ_discrete d c) [
      | yes e ↦ ap (λ z. z.depth) (new_image d e) ∙ k.depth ∙ sym (ap (λ z. z.depth) (new_cell d e))
      | no f ↦ ap (λ z. z.depth) (old_image d f h) ∙ l.depth d (old_used d f h)
          ∙ sym (ap (λ z. z.depth) (p.others d f))
    ];
    names = λ d h. elim (ℕ_discrete d c) [
      | yes e ↦ ap inner (new_image d e) ∙ k.names ∙ ap (λ z. map π' (inner z)) (sym (new_cell d e))
      | no f ↦ ap inner (old_image d f h) ∙ l.names d (old_used d f h)
          ∙ image_alike π π' (inner (cell τ d)) (λ r i. sym (o.names d r f i))
          ∙ ap (λ z. map π' (inner z)) (sym (p.others d f))
    ];
    numbers = λ d h g z. elim (ℕ_discrete d c) [
      | yes e ↦ ap elements (new_image d e)
          ∙ k.numbers (subst (λ (b : ℕ). b ∈ E' → ⊥) e g) (sym (ap (λ w. w.depth) (new_cell d e)) ∙ z)
          ∙ sym (ap elements (new_cell d e))
      | no f ↦ ap elements (old_image d f h)
          ∙ l.numbers d (old_used d f h) (λ i. g (exempt d i)) (sym (ap (λ w. w.depth) (p.others d f)) ∙ z)
          ∙ sym (ap elements (p.others d f))
    ];
    sizes = λ d h g. elim (ℕ_discrete d c) [
      | yes e ↦ ap (λ z. z.size) (new_image d e) ∙ k.sizes (subst (λ (b : ℕ). b ∈ E' → ⊥) e g)
          ∙ sym (ap (λ z. z.size) (new_cell d e))
      | no f ↦ ap (λ z. z.size) (old_image d f h) ∙ l.sizes d (old_used d f h) (λ i. g (exempt d i))
          ∙ sym (ap (λ z. z.size) (p.others d f))
    ];
  }

-- where a cell in use stays the image of the one that it was
pub same_images : {E : List ℕ} {π : ℕ → ℕ} {τ σ : Store} (c : ℕ) → 0 < (cell τ c).count → Leaner E π τ σ →
    OthersStay π π τ c
same_images c h l = record {
  image = λ d f. refl;
  outside = λ d f g e. f (l.apart d c g h e);
  names = λ d r f i. refl;
}
