-- The computed rows that the must-fail edits of the definitions break, in one theorem; the statements stand beside
-- their scripts, and the crate `semantics_rows` has the other rows. One theorem, because a wrong definition breaks many
-- rows at once, and the checker spends seconds on what it says of each theorem that fails.
use Rattle.std.specs.Prelude.{refl}
use Rattle.semantics.specs.Slips.{slips, low_first, operand_bytes, file_of, seen_from, seen_of, seeing}
use Rattle.semantics.specs.Slips.{same_argument_twice, outer_array_in_map, index_of_arrays, used_in_one_branch}
use Rattle.semantics.specs.Slips.{shadowed_name, unused_index, arrays_in_maps}
use Rattle.semantics.specs.Watched.{touches_logged, roots_in_a_reduce, roots_in_a_call, roots_in_branches}
use Rattle.semantics.specs.Watched.{dry_roots, half_free, stale, touched_by, none_free, roots_in}
use Rattle.semantics.specs.Watched.{map_in_a_call, reached_from, unreached_below, without, dry_of, dry_in}
use Rattle.semantics.specs.Second.{second, code_of, repeating, folding, start_in_the_tree, hidden_first, nested}
use Rattle.semantics.specs.Second.{counting, sieving, summing, answer_on, may_be_dry, dry_at}
use Rattle.semantics.specs.Levels.{levels_of_logs}
use Rattle.semantics.specs.Lowest.{least_of_any_order, lowest_unknown, verdict_on}
use Rattle.semantics.specs.Guards.{guard_of_an_if, dry_before_the_guard, deciding, wanting}
use Rattle.semantics.specs.Borrows.{borrowed_tables, borrowed_deliveries, borrowed_dry, of_parameters}
use Rattle.semantics.specs.Borrows.{tables_of, to_and_fro, handing_over, calling_main, code_in}
use Rattle.semantics.specs.Borrows.{owned_and_borrowed, five_down, kept_by_the_caller}
use Rattle.semantics.specs.Rewriting.{rewritten_code, rewritten_so_far, dying_array, map_of_a_map, empty_array}
use Rattle.semantics.specs.Rewriting.{totals_or_readings, kept_beside, live_afterwards, in_its_own_tree}
use Rattle.semantics.specs.Rewriting.{borrowed_array, outer_array_of_passes, cells_in_the_tree}
use Rattle.semantics.specs.Rewriting.{cells_beside_the_totals, store_after, cells_left}
use Rattle.semantics.specs.Carried.{carries, refused_files, limits, refused_saves, twice_named, unchanged}
use Rattle.semantics.specs.Carried.{carrying, twice_bytes, twice_value}
use Rattle.semantics.specs.Computing.{computing}

pub rows :
    slips × touches_logged × roots_in_a_reduce × roots_in_a_call × roots_in_branches × dry_roots × second ×
    levels_of_logs × least_of_any_order × lowest_unknown × guard_of_an_if × dry_before_the_guard × borrowed_tables ×
    borrowed_deliveries × borrowed_dry × rewritten_code × rewritten_so_far × carries × refused_files × limits ×
    refused_saves
unfolding computing low_first operand_bytes file_of seen_from seen_of seeing same_argument_twice outer_array_in_map
    index_of_arrays used_in_one_branch shadowed_name unused_index arrays_in_maps half_free stale touched_by
    none_free roots_in map_in_a_call reached_from unreached_below without dry_of dry_in code_of repeating folding
    start_in_the_tree hidden_first nested counting sieving summing answer_on may_be_dry dry_at verdict_on deciding
    wanting of_parameters tables_of to_and_fro handing_over calling_main code_in owned_and_borrowed five_down
    kept_by_the_caller dying_array map_of_a_map empty_array totals_or_readings kept_beside live_afterwards
    in_its_own_tree borrowed_array outer_array_of_passes cells_in_the_tree cells_beside_the_totals store_after
    cells_left twice_named unchanged carrying twice_bytes twice_value slips touches_logged roots_in_a_reduce
    roots_in_a_call roots_in_branches dry_roots second levels_of_logs least_of_any_order lowest_unknown
    guard_of_an_if dry_before_the_guard borrowed_tables borrowed_deliveries borrowed_dry rewritten_code
    rewritten_so_far carries refused_files limits refused_saves
rows = (
  refl,
  refl,
  refl,
  refl,
  refl,
  refl,
  refl,
  refl,
  refl,
  refl,
  refl,
  refl,
  refl,
  refl,
  refl,
  refl,
  refl,
  refl,
  refl,
  refl,
  refl,
)
