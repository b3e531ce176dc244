-- `script_types::main_fits`: the three tests, one after the other.
use Rattle.prelude.specs.Kit.{◌∙◌, sym, ne_eqb, eqb-true, eqb-false, true≢false}
use Rattle.script_types.proofs.Laws.{other_count, first_differs, by_second}
use Rattle.script_types.proofs.main_fits.Goals as goal
use Rattle.script_types.proofs.main_fits.Goals.{then-low_at-eq2, else-low_at-eq2}

pub returns-then-high_at-result : goal.returns-then-high_at-result
returns-then-high_at-result c =
    elim c.if-low_at-eq2.branch [
      | then-low_at-eq2 w ↦
          by_second _ _ _ c.low_at.ensures w.if-low_at-eq2.true _ _ w.high_at.ensures c.high_at-result.ensures
          (eqb-true _ _ (sym w.value-is ∙ c.if-high_at-result.true)) _ c.high_at-then-high_at-result.ensures
      | else-low_at-eq2 w ↦
          absurd (true≢false (sym c.if-high_at-result.true ∙ w.value-is ∙ ne_eqb _ _ w.if-low_at-eq2.false))
    ]

pub returns-else-high_at-result : goal.returns-else-high_at-result
returns-else-high_at-result c =
    elim c.if-low_at-eq2.branch [
      | then-low_at-eq2 w ↦
          c.if-high_at-result.false
          ∙ first_differs _ _ _ c.low_at.ensures w.if-low_at-eq2.true _ _ w.high_at.ensures c.high_at-result.ensures
          (eqb-false _ _ (sym w.value-is ∙ c.if-high_at-result.false))
      | else-low_at-eq2 w ↦
          w.value-is ∙ ne_eqb _ _ w.if-low_at-eq2.false ∙ other_count _ _ _ c.low_at.ensures w.if-low_at-eq2.false
    ]
