-- A delivery that stops for want of a cell does so where none is free, so that its lowest level is 0.
use Rattle.prelude.specs.Kit.{ℕ, suc, zero, arith, false, ◌≡◌, refl, sym, ap, length}
use Rattle.semantics.specs.Outcome.{Outcome, done, stop}
use Rattle.semantics.specs.Value.{Value}
use Rattle.semantics.specs.Meaning.{Meter}
use Rattle.semantics.specs.Machine.{State, lowest_level, level_after}
use Rattle.semantics.specs.Store.{Store, free_cells, has_free}
use Rattle.semantics.specs.Sound.{free_from, free_list}
use Rattle.laws.specs.Levels.{lowest_last}
use Rattle.discipline.proofs.store.LowestLevel.{level_replayed}
use Rattle.discipline.proofs.machine.Agreement.{Start, Clean}
use Rattle.discipline.proofs.machine.Delivery.{Delivers, finishes, stops, runs_dry}

none_listed : (σ : Store) (n : ℕ) → has_free σ ≡ false → length (free_from σ σ.first n) ≡ 0
unfolding free_from has_free
none_listed σ zero e = refl
none_listed σ (suc n) e = rw (e, free_from) refl

-- a delivery that stops for want of a cell does so where none is free
abbrev pub Dry : Start → Outcome State (Unit {0}) → Type 0
Dry start (done u s) = Unit {0}
Dry start (stop k s) = k ≡ 25 → (has_free s.store ≡ false) × Clean start s

pub delivers_dry : {start : Start} {d : ℕ} {o : Outcome State (Unit {0})} {p : Outcome Meter Value} →
    Delivers start d o p → Dry start o
delivers_dry (finishes q) = tt
delivers_dry (stops q) = λ e. absurd (q.stops.other e)
delivers_dry (runs_dry empty out clean wants) = λ e. (empty, clean)

-- its lowest level is 0
pub dry_lowest : (start : Start) (s : State) → free_cells start.store ≡ length (free_list start.store) →
    has_free s.store ≡ false → Clean start s → lowest_level start.store s ≡ 0
unfolding free_list
dry_lowest start s listed empty clean = omega (
  arith,
  lowest_last s.log (free_cells start.store),
  ap (level_after s.log) listed,
  level_replayed s.log (free_list start.store) (free_list s.store) (sym clean.replays),
  none_listed s.store (length s.store.cells) empty,
)
