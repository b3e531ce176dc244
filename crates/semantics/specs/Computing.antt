-- `unfolding computing` opens every definition that the trials compute with.
use Rattle.semantics.specs.Basics.{tabulate, all, occurrences, least, each, updated}
use Rattle.semantics.specs.Outcome.{onward, require, times, passes}
use Rattle.semantics.specs.Number.{bytes_at}
use Rattle.semantics.specs.Syntax.{size, function_size}
use Rattle.semantics.specs.File.{part_count, node_of, parts, node_at, look, part, parameter, function, finish}
use Rattle.semantics.specs.File.{script}
use Rattle.semantics.specs.File.{read_file}
use Rattle.semantics.specs.Names.{unknown, unknown_from, unknown_in, name_faults}
use Rattle.semantics.specs.Types.{node, loop_node, check, check_function, function_faults, type_faults}
use Rattle.semantics.specs.Code.{ending, rows}
use Rattle.semantics.specs.Normal.{fresh, too_many_names_from, atom, lines, normal, parameter_names, normal_body}
use Rattle.semantics.specs.Live.{among, members_from, members, live}
use Rattle.semantics.specs.Borrow.{spent, all_borrowed, reworked, worked_out, borrowed}
use Rattle.semantics.specs.Annotate.{tree_depths, parameter_depths_from, depths_of, dying, arrays, handed_again}
use Rattle.semantics.specs.Annotate.{annotate, owned_depths, annotated_in, parameter_rows, function_rows}
use Rattle.semantics.specs.Annotate.{functions_rows, code}
use Rattle.semantics.specs.Store.{cell_of, padded, clear, cell, with_cell, with_first, with_totals, with_count}
use Rattle.semantics.specs.Store.{elements, inner, one_more, retained, filled, has_free, acquired, wider}
use Rattle.semantics.specs.Store.{with_slot, overwritten}
use Rattle.semantics.specs.Store.{appended, freed, lowered, released, linked, relinked, zeroed, opened}
use Rattle.semantics.specs.Store.{used_cells}
use Rattle.semantics.specs.Words.{cells_in, slots_at, cell_at, store_of, shaped, slot_words, head_words}
use Rattle.semantics.specs.Sound.{free_from, end_from, free_list, as_due, list_sound, zeros_from, names_used}
use Rattle.semantics.specs.Sound.{all_used, formed_as, formed, places, counted, sound, sound_words}
use Rattle.semantics.specs.Machine.{touching, each_events, lower_events, release_events, with_store, with_left}
use Rattle.semantics.specs.Machine.{with_roots, stepped, step, acquire_if, acquire, elements_of, retain_word}
use Rattle.semantics.specs.Machine.{release_word, append_word, overwrite_word, is_alone, held, retain_times}
use Rattle.semantics.specs.Machine.{work_pass, work_leaf, work}
use Rattle.semantics.specs.Machine.{routines_from, program_in, framed, level_after, lowest_over}
use Rattle.semantics.specs.Machine.{machine, delivery, starting, delivered}
use Rattle.semantics.specs.Meaning.{step as meaning_step, stepped as meaning_stepped, do_operation, do_call}
use Rattle.semantics.specs.Meaning.{do_literal, do_index, do_length, do_iota, do_replicate, do_if, do_pass}
use Rattle.semantics.specs.Meaning.{do_loop, do_leaf}
use Rattle.semantics.specs.Meaning.{eval, bound}
use Rattle.semantics.specs.Meaning.{meaning, main_meaning, step_wants}
use Rattle.semantics.specs.Calls.{packed, judged, code_fits, admitted, translated, engine_translate}
use Rattle.semantics.specs.Calls.{request_fits, refusing, answering, open_for, check_for, deliver_for}
use Rattle.semantics.specs.Calls.{engine_open, engine_check, engine_deliver}
use Rattle.semantics.specs.Ledger.{entry}
use Rattle.semantics.specs.Demands.{value_of, touched}
use Rattle.semantics.specs.Saved.{entries, low_bytes, marks, number_bytes, file_bytes, saved_bytes, save_fits}
use Rattle.semantics.specs.Saved.{value_at, labelled, read_saved, acquire_cell, load_element, load_value}
use Rattle.semantics.specs.Saved.{load_totals, loaded}
use Rattle.semantics.specs.SaveCalls.{refusing_save, answering_save, save_for, engine_save, restore_for}
use Rattle.semantics.specs.SaveCalls.{engine_restore}
use Rattle.semantics.specs.Plain.{run, valued, running, main_running}

unfoldable pub computing : Unit {0}
unfolding tabulate all occurrences least each updated onward require times passes bytes_at size function_size
    part_count node_of parts node_at look part parameter function finish script read_file unknown unknown_from
    unknown_in name_faults node loop_node check check_function function_faults type_faults ending rows fresh
    too_many_names_from atom lines normal parameter_names normal_body spent all_borrowed reworked worked_out
    borrowed among members_from members live tree_depths parameter_depths_from depths_of dying arrays
    handed_again annotate owned_depths annotated_in parameter_rows function_rows functions_rows code cell_of
    padded clear cell with_cell with_first with_totals with_count elements inner one_more retained filled
    has_free acquired wider with_slot overwritten appended freed lowered released linked relinked zeroed opened
    used_cells cells_in slots_at cell_at store_of shaped slot_words head_words free_from end_from free_list
    as_due list_sound zeros_from names_used all_used formed_as formed places counted sound sound_words touching
    each_events lower_events release_events with_store with_left with_roots stepped step acquire_if acquire
    elements_of retain_word release_word append_word overwrite_word is_alone held retain_times work_pass
    work_leaf work routines_from program_in framed machine delivery level_after lowest_over starting
    delivered packed judged code_fits admitted translated engine_translate request_fits refusing answering
    open_for check_for deliver_for engine_open engine_check engine_deliver meaning_step meaning_stepped
    do_operation do_call do_literal do_index do_length do_iota do_replicate do_if do_pass do_loop do_leaf eval
    bound meaning main_meaning step_wants entry value_of touched entries low_bytes marks number_bytes file_bytes
    saved_bytes save_fits value_at labelled read_saved acquire_cell load_element load_value load_totals loaded
    refusing_save answering_save save_for engine_save restore_for engine_restore run valued running main_running
computing = tt
