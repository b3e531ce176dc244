-- What a row of lent code unfolds to be computed, beside what rows of scripts do.
use Rattle.semantics.specs.Computing.{computing}
use Rattle.semantics_lent.specs.Form.{used, code_length, paired, lent_rows, goes_on, atoms_before, arities_of}
use Rattle.semantics_lent.specs.Form.{row_here, atoms, line_of, tree_form, parameter_form, function_form}
use Rattle.semantics_lent.specs.Form.{functions_form, code_form, form}
use Rattle.semantics_lent.specs.Fit.{fit_tree, fit_parameters, fit_function, fit_functions, fit}
use Rattle.semantics_lent.specs.Hold.{same_holds, none_bound, spend, hold_tree, reworked_lent, lent_table}
use Rattle.semantics_lent.specs.Hold.{worked_lent, hold_function, hold_functions, hold}
use Rattle.semantics_lent.specs.Calls.{lent_routines, judged_code, engine_check_code, refusing_code}
use Rattle.semantics_lent.specs.Calls.{answering_code, engine_deliver_code}

unfoldable pub computing_lent : Unit {0}
unfolding computing used code_length paired lent_rows goes_on atoms_before arities_of row_here atoms line_of tree_form
    parameter_form function_form functions_form code_form form fit_tree fit_parameters fit_function fit_functions fit
    same_holds none_bound spend hold_tree reworked_lent worked_lent lent_table hold_function hold_functions hold
    lent_routines judged_code engine_check_code refusing_code answering_code engine_deliver_code
computing_lent = tt
