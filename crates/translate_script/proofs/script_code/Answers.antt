-- Each step writes the function before.
use Rattle.prelude.specs.Kit.{◌≤◌, ◌+◌, ◌-◌, arith, ◌≡◌, ◌∙◌}
use Rattle.annotate_rows.proofs.Rows.{lower}
use Rattle.flatten_functions.proofs.Functions.{known, fits_at}
use Rattle.translate_script.proofs.Depths.{depths_none, depths_one}
use Rattle.translate_script.proofs.Places.{places_none, places_one, place_back}
use Rattle.translate_script.proofs.Functions.{depths_there, code_begins, code_goes, code_ends}
use Rattle.translate_script.proofs.script_code.Goals as goal

pub loop-i-init : goal.loop-i-init
loop-i-init c =
    let t = c.requires.0 in
    let resulting = rw t.reads at c.results_of-results.ensures in
    let made = c.borrow_table-borrowing.ensures in (
      t,
      resulting,
      c.requires.1,
      code_begins t resulting,
      depths_none _ (omega (arith, (known t).1.0)),
      made.rows_len_2.0,
      made.rows_len_2.1,
      rw t.reads at made.borrowed_by,
      places_none _ (omega (arith, (known t).1.0)),
    )

pub function_code-v-requires-clause-fitting : goal.function_code-v-requires-clause-fitting
function_code-v-requires-clause-fitting c =
    let v = c.loop-i.invariant in
    let turn = c.loop-i-test.true in (
      fits_at v.0 v.1 (c.loop-i.i - 1) _ (omega arith) (v.8.before _ (omega arith)),
      (v.2, omega (arith, v.0.few)),
    )

pub loop-i-preserved : goal.loop-i-preserved
loop-i-preserved c =
    let coded = c.function_code-v.ensures in
    let turn = c.loop-i-test.true in
    let v = c.loop-i.invariant in
    let i = c.loop-i.i in
    let next : i ≡ i - 1 + 1 = omega arith in
    let few : i ≤ c.args.functions = omega arith in
    let stood = v.8.before (i - 1) (omega arith) in
    let written = code_goes v.0 v.1 _ i _ v.7 turn few stood v.3 coded.wrote in (
      v.0,
      v.1,
      lower coded.wrote v.2,
      written,
      depths_one v.4 next (omega (arith, (known v.0).1.0))
          (coded.depths_after ∙ depths_there v.0 v.1 i _ turn few stood) c.note_depths.ensures,
      coded.rows_len_2.0,
      coded.rows_len_2.1,
      v.7,
      places_one _ v.8 next (omega (arith, v.0.started.long, v.0.few)) (omega (arith, (known v.0).1.0)) written.at,
    )

pub returns : goal.returns
returns c =
    let v = c.loop-i.invariant in
    let first : c.loop-i.i ≡ 0 = omega arith in
    rw v.0.reads record {
      coded_by = rw (place_back _ _ c.checked_sub.ensures) (code_ends v.0.tree c.loop-i.i (omega arith) v.3);
      depths_by = rw first at v.4;
      places_by = rw first at v.8;
    }
