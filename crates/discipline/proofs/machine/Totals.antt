-- The totals after main: replaced by the result, and the old ones released.
use Rattle.prelude.specs.Kit.{ℕ, suc, zero, ◌≡◌, refl, ◌∙◌, sym, ap, subst, some, [], ◌∷◌, ◌++◌, ℤ}
use Rattle.semantics.specs.Outcome.{done, ◌>>◌}
use Rattle.semantics.specs.Value.{Value}
use Rattle.semantics.specs.Meaning.{Meter}
use Rattle.semantics.specs.Machine.{State, Work, release_events, with_store, release_word}
use Rattle.semantics.specs.Machine.{if_array}
use Rattle.semantics.specs.Store.{Store, cell_of, named_by, with_totals, released, deepest}
use Rattle.semantics.specs.Demands.{value_of, touched, replayed}
use Rattle.laws.specs.Levels.{none_higher, release_no_higher}
use Rattle.laws.specs.Counts.{swapped}
use Rattle.discipline.proofs.store.Invariant.{Invariant, StandsFor}
use Rattle.discipline.proofs.store.Counting.{in_append_left}
use Rattle.discipline.proofs.store.Change.{permute, held_used}
use Rattle.discipline.proofs.store.Kept.{stands_kept}
use Rattle.discipline.proofs.store.Retain.{Rewrites, rewrite_totals}
use Rattle.discipline.proofs.store.Release.{Releases, release, releases_keep}
use Rattle.discipline.proofs.store.Rest.{Rests}
use Rattle.discipline.proofs.machine.Agreement.{Start, Clean, Together, with_store_together}
use Rattle.discipline.proofs.machine.Frames.{Returned}

-- a delivery that ended: the store is at rest again, and its totals are of the value
pub record Finished (start : Start) (d : ℕ) (s : State) (v : Value) (m : Meter) : Type 0 where
  pub left : s.left ≡ m.left
  pub clean : Clean start s
  pub rests : Rests d s.store
  pub value : value_of s.store d s.store.totals ≡ v

-- the state once the old totals w are released
abbrev pub totals_released : ℕ → ℤ → State → State
totals_released zero w s = s
totals_released (suc d) w s =
    with_store s (released deepest (cell_of w) s.store) (release_events deepest (cell_of w) s.store)

pub releases_totals : (d : ℕ) (w : ℤ) (s : State) → if_array d (release_word w) s ≡ done tt (totals_released d w s)
unfolding release_word
releases_totals zero w s = refl
releases_totals (suc d) w s = refl

-- the totals hold all references, and stand for the value
settled : {start : Start} {d : ℕ} {s : State} {v : Value} {m : Meter} (w : ℤ) → s.store.totals ≡ w →
    Together start s m →
    Invariant s.store [] (named_by d (w ∷ [])) → StandsFor s.store d w v → Finished start d s v m
settled {start} {d} {s} {v} w is tog inv stands = record {
  left = tog.left;
  clean = tog.clean;
  rests = record {
    holds = subst (λ (z : ℤ). Invariant s.store [] (named_by d (z ∷ []))) (sym is) inv;
    fits = λ r h. (now.fits r h).1;
  };
  value = now.means;
}
  where
    now : StandsFor s.store d s.store.totals v
    now = subst (λ (z : ℤ). StandsFor s.store d z v) (sym is) stands

finished : {start : Start} {s : State} {v : Value} {m : Meter} (d : ℕ) (old w : ℤ) → Together start s m →
    Invariant s.store [] (named_by d (w ∷ []) ++ named_by d (old ∷ [])) → s.store.totals ≡ w →
    StandsFor s.store d w v → Finished start d (totals_released d old s) v m
unfolding with_store
finished zero old w tog inv totals stands = settled w totals tog inv stands
finished {start} {s} {v} {m} (suc d) old w tog inv totals stands =
    settled w (r.totals ∙ totals)
    (with_store_together τ (release_events deepest c s.store)
    (release_no_higher deepest c s.store) r.untouched r.replays r.cells tog) r.holds
    (stands_kept stands (λ q h. ((releases_keep before r).keep q h, held_used r.holds q h)))
  where
    c : ℕ
    c = cell_of old

    τ : Store
    τ = released deepest c s.store

    before : Invariant s.store [] (c ∷ (cell_of w ∷ []))
    before = permute [] (c ∷ (cell_of w ∷ [])) inv (λ k. refl) (swapped (cell_of w) c)

    r : Releases s.store τ (release_events deepest c s.store) [] (cell_of w ∷ [])
    r = release c before

-- the state once the result is in the totals' place
abbrev pub with_result : ℤ → State → State
with_result w s = with_store s (with_totals s.store w) []

-- what a delivery does with main's result
abbrev pub put_result : ℕ → ℤ → ℤ → Work (Unit {0})
put_result d old w = (λ s. done tt (with_result w s)) >> if_array d (release_word old)

pub result_put : {start : Start} {σ : Store} {w : ℤ} {s : State} {v : Value} {m : Meter} (d : ℕ) (old : ℤ) →
    Returned start d σ [] (named_by d (old ∷ [])) w s v m →
    Finished start d (totals_released d old (with_result w s)) v m
unfolding with_store with_totals touched replayed
result_put {w = w} {s} d old q =
    finished d old w
    (with_store_together (with_totals s.store w) [] none_higher refl (ap some t.free) refl
    q.answered.together)
    t.holds refl
    (stands_kept q.answered.stands (λ r h.
    (t.alike r, held_used t.holds r (in_append_left r (named_by d (w ∷ [])) (named_by d (old ∷ [])) h))))
  where
    t : Rewrites s.store w [] (named_by d (w ∷ []) ++ named_by d (old ∷ []))
    t = rewrite_totals w q.answered.invariant
