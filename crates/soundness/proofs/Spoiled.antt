-- A machine that ends with an unsound store does not do what is meant: tried where it spoils the store as it ends.
use Rattle.prelude.specs.Kit.{false≢true, ◌∙◌, sym}
use Rattle.prelude.specs.Kit.{[], ◌∷◌, pos}
use Rattle.semantics.specs.Value.{list, numbers}
use Rattle.semantics.specs.Meaning.{main_meaning}
use Rattle.semantics.specs.Demands.{Does}
use Rattle.semantics.specs.Computing.{computing}
use Rattle.soundness.proofs.Instances.{printed_script}
use Rattle.soundness.proofs.Fixed.{spoiling, left_unsound}

-- A machine that spoils the store as it ends does not do what is meant, though the totals have the value.
pub never_spoils : Does 1 1000 spoiling (main_meaning printed_script (list []) (numbers (pos 250 ∷ [])) 1000) → ⊥
unfolding computing printed_script
never_spoils h = false≢true (sym left_unsound ∙ h.1.is_sound)
