-- `script::check`: one law for each way out.
use Rattle.prelude.specs.Kit.{refl}
use Rattle.script.proofs.Laws.{unknown_found, mismatch_found, crowd_found, accepted}
use Rattle.script.proofs.check.Goals as goal

pub returns-in-Err-name_script : goal.returns-in-Err-name_script
returns-in-Err-name_script c =
    unknown_found c.requires.0 _ c.in-Err-name_script.ensures _ _ refl

pub returns-in-Err : goal.returns-in-Err
returns-in-Err c =
    mismatch_found c.requires.0 _ c.requires.1 _ c.in-Err.ensures _ _ refl _ c.in_default-name_script.ensures _ refl

pub returns-in-Some : goal.returns-in-Some
returns-in-Some c =
    crowd_found c.requires.0 _ c.requires.1 _ c.in_default.ensures _ refl _ c.in-Some.ensures _ refl

pub returns : goal.returns
returns c =
    accepted c.requires.0 _ c.requires.1 _ c.in_default.ensures _ refl _ c.in_default-count_script.ensures refl
