-- References fewer, in either store or in both: what is held after in the leaner store has its image held in the other.
use Rattle.prelude.specs.Kit.{ℕ, ◌+◌, ◌<◌, suc, zero, arith, dec_lt, refl, ◌∙◌, sym, subst, List, ◌++◌}
use Rattle.semantics.specs.Basics.{occurrences, ◌∈◌}
use Rattle.semantics.specs.Store.{Store, cell, inner, released, deepest}
use Rattle.semantics.specs.Machine.{Event, State, with_store, release_events}
use Rattle.laws.specs.Lists.{occurrences_append}
use Rattle.discipline.proofs.store.Invariant.{Invariant}
use Rattle.discipline.proofs.store.Cells.{agree_inner, namer}
use Rattle.discipline.proofs.store.Change.{root_used, inner_used, namer_used}
use Rattle.discipline.proofs.store.Release.{Releases}
use Rattle.discipline.proofs.machine.Images.{image_in}
use Rattle.discipline.proofs.machine.Holding.{released_state}
use Rattle.leaner.proofs.Leaner.{Leaner, leaner_kept}
use Rattle.leaner.proofs.Runs.{Race, Tied, level_first, release_quiet}

-- in the leaner store alone
pub leaner_freed : {E : List ℕ} {π : ℕ → ℕ} {τ τ' σ : Store} {log : List Event} {Z R : List ℕ} → Leaner E π τ σ →
    Releases τ τ' log Z R → Leaner E π τ' σ
leaner_freed l p = leaner_kept l
    (λ c h. (omega (arith, h, p.fewer c), p.same c h))
    (λ c h. (l.used c (omega (arith, h, p.fewer c)), (refl, refl, refl)))

-- in the other store alone
module _ {E : List ℕ} {π : ℕ → ℕ} {τ σ σ' : Store} {log : List Event} {Z' R' Z R : List ℕ} (l : Leaner E π τ σ)
    (u : Invariant τ Z' R') (p : Releases σ σ' log Z R) (held : (c : ℕ) → c ∈ (Z' ++ R') → π c ∈ (Z ++ R)) where
  -- a cell in use in the leaner store is held, or named by a deeper one; so its image is in use after the releases
  still_used : (n c : ℕ) → 3 < (cell τ c).depth + n → 0 < (cell τ c).count → 0 < (cell σ' (π c)).count
  still_used zero c h g = absurd (omega (arith, h, (u.tidy c g).depth))
  still_used (suc n) c h g = elim (dec_lt 0 (occurrences c Z' + occurrences c R')) [
    | yes k ↦ root_used p.holds (π c) (held c (omega (arith, k, occurrences_append c Z' R')))
    | no k ↦
        let q = namer c τ (omega (arith, k, g, u.counts c)) in
        let b = q.0 in
        let above = still_used n b (omega (arith, h, u.typed b c q.1)) (namer_used u b c q.1) in
        inner_used p.holds (π b) (π c)
        (subst (λ (m : List ℕ). π c ∈ m)
        (sym (agree_inner (cell σ' (π b)) (cell σ (π b)) (p.same (π b) above)
        ∙ l.names b (namer_used u b c q.1)))
        (image_in π c (inner (cell τ b)) q.1))
  ]

  pub leaner_other_freed : Leaner E π τ σ'
  leaner_other_freed = leaner_kept l
      (λ c h. (h, (refl, refl, refl)))
      (λ c h.
      let used = still_used 4 c (omega arith) h in
      (used, p.same (π c) used))

-- in both
pub leaner_released : {E : List ℕ} {π : ℕ → ℕ} {τ τ' σ σ' : Store} {a b : List Event} {Z' R' Z R : List ℕ} →
    Leaner E π τ σ → Releases τ τ' a Z' R' → Releases σ σ' b Z R → ((c : ℕ) → c ∈ (Z' ++ R') → π c ∈ (Z ++ R)) →
    Leaner E π τ' σ'
leaner_released l p q f = leaner_other_freed (leaner_freed l p) p.holds q f

-- the first run alone releases a cell
pub first_released : {r : Race} {E : List ℕ} {π : ℕ → ℕ} {s s' : State} {Z' R' Z R : List ℕ} (c : ℕ) → Tied r E π s s' →
    Invariant s'.store Z' R' →
    Releases s.store (released deepest c s.store) (release_events deepest c s.store) Z R →
    ((b : ℕ) → b ∈ (Z' ++ R') → π b ∈ (Z ++ R)) → Tied r E π (released_state c s) s'
unfolding with_store
first_released {r} {s = s} c t u p held = record {
  level = level_first r _ (release_events deepest c s.store) (release_quiet deepest c s.store) t.level;
  stores = leaner_other_freed t.stores u p held;
}
