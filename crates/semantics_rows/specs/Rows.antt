-- The computed rows of the definitions on which no must-fail edit of theirs rests; `semantics` has the others, and the
-- statements beside their scripts.
use Rattle.std.specs.Prelude.{refl}
use Rattle.semantics.specs.Slips.{slips, low_first, operand_bytes, file_of, seen_from, seen_of, seeing}
use Rattle.semantics.specs.Slips.{same_argument_twice, outer_array_in_map, index_of_arrays, used_in_one_branch}
use Rattle.semantics.specs.Slips.{shadowed_name, unused_index, arrays_in_maps}
use Rattle.semantics.specs.Watched.{roots_in_passes, none_free, roots_in, without}
use Rattle.semantics.specs.Second.{second_code, second, second_dry, second_wants, second_refusals, code_of, coded}
use Rattle.semantics.specs.Second.{repeating, folding, start_in_the_tree, hidden_first, nested, counting, sieving}
use Rattle.semantics.specs.Second.{summing, answer_on, counting_beside, may_be_dry, dry_at, found_in, found}
use Rattle.semantics.specs.Levels.{lowest_levels, keeping, measuring, forgetting, indexing, nesting}
use Rattle.semantics.specs.Lowest.{lowest_mismatch, verdict_on}
use Rattle.semantics.specs.Guards.{guard_of_a_filter, guard_and_cell, deciding, keeping_itself, pointing, sorting_out}
use Rattle.semantics.specs.Guards.{wanting}
use Rattle.semantics.specs.Borrows.{borrowed_code, code_in, not_used, owned_and_borrowed, both_borrowed, own_literal}
use Rattle.semantics.specs.Borrows.{five_down}
use Rattle.semantics.specs.Rewriting.{rewritten_deliveries, rewritten_levels, rewritten_stops, dying_array}
use Rattle.semantics.specs.Rewriting.{map_of_a_map, empty_array, totals_or_readings, kept_beside, in_its_own_tree}
use Rattle.semantics.specs.Rewriting.{outer_array_of_passes, levels_by, both_levels, cells_in_the_tree}
use Rattle.semantics.specs.Rewriting.{cells_beside_the_totals}
use Rattle.semantics.specs.Carried.{restored_words, dry_restore, refused_restores, store_left, unchanged, twice_bytes}
use Rattle.semantics.specs.Computing.{computing}

pub more_rows :
    roots_in_passes × second_code × second_dry × second_wants × second_refusals × lowest_levels × lowest_mismatch ×
    guard_of_a_filter × guard_and_cell × borrowed_code × rewritten_deliveries × rewritten_levels × rewritten_stops ×
    restored_words × dry_restore × refused_restores × store_left
unfolding computing low_first operand_bytes file_of seen_from seen_of seeing same_argument_twice outer_array_in_map
    index_of_arrays used_in_one_branch shadowed_name unused_index arrays_in_maps none_free roots_in without code_of
    coded repeating folding start_in_the_tree hidden_first nested counting sieving summing answer_on counting_beside
    may_be_dry dry_at found_in found keeping measuring forgetting indexing nesting verdict_on deciding
    keeping_itself pointing sorting_out wanting code_in not_used owned_and_borrowed both_borrowed own_literal
    five_down dying_array map_of_a_map empty_array totals_or_readings kept_beside in_its_own_tree
    outer_array_of_passes levels_by both_levels cells_in_the_tree cells_beside_the_totals unchanged twice_bytes
    slips roots_in_passes second_code second second_dry second_wants second_refusals lowest_levels lowest_mismatch
    guard_of_a_filter guard_and_cell borrowed_code rewritten_deliveries rewritten_levels rewritten_stops
    restored_words dry_restore refused_restores store_left
more_rows = (
  refl,
  refl,
  refl,
  refl,
  refl,
  refl,
  refl,
  refl,
  refl,
  refl,
  refl,
  refl,
  refl,
  refl,
  refl,
  refl,
  refl,
)
