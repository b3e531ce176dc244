-- Order 8: on the same store a delivery's lowest level is at least that of the code in which every map stays a map.
use Rattle.prelude.specs.Kit.{◌≤◌, sym, subst}
use Rattle.semantics.specs.Words.{store_of}
use Rattle.semantics.specs.Machine.{program_in, delivered}
use Rattle.semantics.specs.Demands.{defined, mapping_only, Rises}
use Rattle.soundness.proofs.LowestLevel.{lowest_told}
use Rattle.leaner.proofs.RunsRise.{runs_rise}

-- of the answer
pub rises : Rises defined
rises file slots heads δ fs u r called =
    subst (λ n. (delivered (program_in mapping_only fs) δ.readings δ.budget (store_of slots heads)).lowest ≤ n)
    (sym (lowest_told file slots heads δ fs u r called)) (runs_rise file slots heads δ fs u)
