-- A cell of the leaner store whose image has one reference only has one itself.
use Rattle.prelude.specs.Kit.{ℕ, arith, dec_lt, ◌≡◌, sym, subst, List, ◌∷◌, ◌++◌}
use Rattle.semantics.specs.Basics.{occurrences, ◌∈◌}
use Rattle.semantics.specs.Store.{Store, cell, inner}
use Rattle.semantics.specs.Sound.{all_inner}
use Rattle.laws.specs.Lists.{occurrences_append}
use Rattle.discipline.proofs.store.Invariant.{Invariant}
use Rattle.discipline.proofs.store.Counting.{hits_itself}
use Rattle.discipline.proofs.store.Cells.{namer, inner_in_all}
use Rattle.discipline.proofs.store.Change.{namer_used}
use Rattle.discipline.proofs.machine.Images.{image_in}
use Rattle.leaner.proofs.Leaner.{Leaner}

-- what else is held in the leaner store has its image held beside the reference to the cell's image
module _ {E : List ℕ} {π : ℕ → ℕ} {τ σ : Store} {Z' R' Z R : List ℕ} (c : ℕ) (l : Leaner E π τ σ)
    (u : Invariant τ Z' (c ∷ R')) (v : Invariant σ Z (π c ∷ R))
    (held : (b : ℕ) → b ∈ (Z' ++ R') → π b ∈ (Z ++ R)) (alone : (cell σ (π c)).count ≡ 1) where
  -- what names the cell has an image that names the cell's image
  not_named : c ∈ all_inner τ.cells → ⊥
  unfolding occurrences
  not_named h =
      let q = namer c τ h in
      let image : π c ∈ inner (cell σ (π q.0)) = subst (λ (m : List ℕ). π c ∈ m)
      (sym (l.names q.0 (namer_used u q.0 c q.1))) (image_in π c (inner (cell τ q.0)) q.1) in
      omega (arith, image, inner_in_all (π c) σ (π q.0), alone, v.counts (π c), hits_itself (π c))

  not_held : c ∈ (Z' ++ R') → ⊥
  unfolding occurrences
  not_held h = omega (
    arith,
    held c h,
    alone,
    v.counts (π c),
    hits_itself (π c),
    occurrences_append (π c) Z R,
  )

  pub leaner_alone_too : (cell τ c).count ≡ 1
  unfolding occurrences
  leaner_alone_too = elim (dec_lt 0 (occurrences c (all_inner τ.cells))) [
    | yes h ↦ absurd (not_named h)
    | no h ↦ elim (dec_lt 0 (occurrences c (Z' ++ R'))) [
      | yes g ↦ absurd (not_held g)
      | no g ↦ omega (arith, h, g, u.counts c, hits_itself c, occurrences_append c Z' R')
    ]
  ]
