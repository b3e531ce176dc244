-- The computed rows of lent code, in one theorem; the statements stand beside their codes.
use Rattle.std.specs.Prelude.{refl}
use Rattle.semantics.specs.Trials.{printed_file}
use Rattle.semantics.specs.Slips.{low_first, operand_bytes, file_of, same_argument_twice, outer_array_in_map}
use Rattle.semantics.specs.Slips.{index_of_arrays, used_in_one_branch, shadowed_name, unused_index, arrays_in_maps}
use Rattle.semantics.specs.Second.{code_of, counting, repeating, sieving, summing, folding, start_in_the_tree}
use Rattle.semantics.specs.Second.{hidden_first, nested}
use Rattle.semantics.specs.Borrows.{code_in, to_and_fro, handing_over, calling_main, owned_and_borrowed}
use Rattle.semantics.specs.Borrows.{both_borrowed, own_literal, five_down}
use Rattle.semantics.specs.Rewriting.{dying_array, map_of_a_map, empty_array, totals_or_readings, kept_beside}
use Rattle.semantics.specs.Rewriting.{live_afterwards, in_its_own_tree, borrowed_array, outer_array_of_passes}
use Rattle.semantics_lent.specs.Codes.{closing, forms, depths, holds, in_order, ifs, functions, within_limits}
use Rattle.semantics_lent.specs.Codes.{at_the_limit, printed_passes, translated_passes}
use Rattle.semantics_lent.specs.Deliveries.{seen_by, seen_lent, kept_by_main, released_earlier, never_retained}
use Rattle.semantics_lent.specs.Deliveries.{other_names, lent_deliveries, lent_words}
use Rattle.semantics_lent.specs.Computing.{computing_lent}

pub rows_hold :
    closing × forms × depths × holds × in_order × within_limits × at_the_limit × printed_passes × translated_passes ×
    lent_deliveries × lent_words
unfolding computing_lent low_first operand_bytes file_of code_of code_in same_argument_twice outer_array_in_map
    index_of_arrays used_in_one_branch shadowed_name unused_index arrays_in_maps counting repeating sieving summing
    folding start_in_the_tree hidden_first nested to_and_fro handing_over calling_main owned_and_borrowed
    both_borrowed own_literal five_down dying_array map_of_a_map empty_array totals_or_readings kept_beside
    live_afterwards in_its_own_tree borrowed_array outer_array_of_passes ifs functions seen_by seen_lent
    kept_by_main released_earlier never_retained other_names closing forms depths holds in_order within_limits
    at_the_limit printed_passes printed_file translated_passes lent_deliveries lent_words
rows_hold = (refl, refl, refl, refl, refl, refl, (refl, refl), refl, refl, refl, refl)
