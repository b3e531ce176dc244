-- `lowest_rises`: on the same store and budget, the lowest level of the leaner of two deliveries is no lower.
use Rattle.prelude.specs.Kit.{ℕ, ◌≤◌, ◌+◌, arith, false, ◌≡◌, refl, subst, List, ℤ, length}
use Rattle.semantics.specs.Outcome.{Outcome}
use Rattle.semantics.specs.Machine.{State, Routine, Program, delivery, delivered_by}
use Rattle.semantics.specs.Machine.{starting, delivered}
use Rattle.semantics.specs.Store.{Store}
use Rattle.discipline.proofs.store.Rest.{Rests}
use Rattle.discipline.proofs.store.LowestLevel.{free_cells_listed}
use Rattle.discipline.proofs.machine.Calls.{ProgramDisciplined}
use Rattle.discipline.proofs.machine.Delivery.{delivery_sound}
use Rattle.leaner.proofs.Leaner.{leaner_self}
use Rattle.leaner.proofs.Twin.{with_routines}
use Rattle.leaner.proofs.Runs as Runs
use Rattle.leaner.proofs.Runs.{Race, Twins}
use Rattle.leaner.proofs.Calling.{CallTwins}
use Rattle.leaner.proofs.Delivering.{careless, Over, race, delivery_twins}
use Rattle.leaner.proofs.Dry.{Dry, delivers_dry, dry_lowest}

module _ (p : Program) (rs : List Routine) (disciplined : ProgramDisciplined p)
    (disciplined' : ProgramDisciplined (with_routines p rs)) (readings : List ℤ) (short : length readings ≤ 16)
    (budget : ℕ) (σ : Store) (rests : Rests p.depth σ) where
  -- the same store and budget
  abbrev pub alone : Race
  alone = race p rs disciplined disciplined' readings short budget 0 0 σ σ rests rests (omega arith)

  pub lowest_rises : CallTwins alone p rs 32 (λ _. 0) →
      (delivered p readings budget σ).lowest ≤ (delivered (with_routines p rs) readings budget σ).lowest
  unfolding delivered
  lowest_rises calls = by (delivers_dry
      (delivery_sound p disciplined false careless readings short budget σ rests)) twins
    where
      twins : Twins alone (Over alone p.depth) (delivery p readings (starting budget σ))
          (delivery (with_routines p rs) readings (starting budget σ))
      twins = let same : budget + 0 ≡ budget = omega arith in
          subst (λ (k : ℕ). Twins alone (Over alone p.depth) (delivery p readings (starting budget σ))
          (delivery (with_routines p rs) readings (starting k σ))) same
          (delivery_twins p rs disciplined disciplined' readings short budget 0 0 σ σ rests rests (omega arith) calls
          (λ c. c) (leaner_self σ) (record { number = λ e. refl; cell = λ h. refl }))

      by : {o o' : Outcome State (Unit {0})} → Dry alone.first o → Twins alone (Over alone p.depth) o o' →
          (delivered_by budget σ o).lowest ≤ (delivered_by budget σ o').lowest
      by d (Runs.both q) = omega (arith, q.tied.level.lowest)
      by d (Runs.stops q) = omega (arith, q.lowest)
      by d (Runs.dry {s} {o}) =
          let out = d refl in
          omega (arith, dry_lowest alone.first s (free_cells_listed rests.holds) out.0 out.1)
      by d (Runs.spent h) = absurd (omega (arith, h))
