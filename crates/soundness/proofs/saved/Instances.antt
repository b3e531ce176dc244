-- The swap at two scripts: a site that is swapped between its deliveries and after them, beside one never swapped, as
-- computed and by the theorem; and demand 3 from a restored store.
use Rattle.prelude.specs.Kit.{ℕ, ◌≡◌, refl, ◌∙◌, sym, ap, subst, some, List, [], ◌∷◌, ◌++◌, map, ℤ, pos, replicate}
use Rattle.semantics.specs.Syntax.{Script, main_depth}
use Rattle.semantics.specs.Value.{Value, list, numbers}
use Rattle.semantics.specs.Calls.{packed, number_of, lowest_of, StoreReply}
use Rattle.semantics.specs.Demands.{Call, InTurn, Kept, defined}
use Rattle.semantics.specs.Saved.{read_saved}
use Rattle.semantics.specs.SaveCalls.{engine_restore}
use Rattle.semantics.specs.Swap.{defined_saving, Pair, value_in}
use Rattle.semantics.specs.Computing.{computing}
use Rattle.semantics.specs.Trials.{printed_file}
use Rattle.semantics.specs.Slips.{file_of, low_first, operand_bytes}
use Rattle.laws.specs.Tests.{some_same}
use Rattle.laws.specs.Files.{same_script}
use Rattle.soundness.proofs.Instances.{printed_script, printed_accepted, folded_nodes, folded_script}
use Rattle.soundness.proofs.Instances.{folded_accepted}
use Rattle.soundness.proofs.saved.Restoring.{restored}
use Rattle.soundness.proofs.saved.Stories.{Shown, shown, shown_here, shown_there}
use Rattle.soundness.proofs.saved.Sites.{Planned, all_fit, moved_through, movable, calls_of, end_of, all_movable}
use Rattle.soundness.proofs.saved.Sites.{worked_beside, pairs, same_sites}

-- at the second site only: swapped into stores of so many cells
abbrev pub planned : List ℤ → List ℕ → Planned
planned readings there = record { readings = readings; here = []; there = there }

-- ---- the printed script, opened on 2 cells: swapped into 3 cells after the first delivery, into 2 and into 5 after
-- the third, which stops at 23, and into 4 after the last; the fourth is refused

unfoldable pub printed_plan : List Planned
printed_plan =
    planned (pos 250 ∷ []) [] ∷ planned (pos 100 ∷ []) (3 ∷ []) ∷ planned [] [] ∷
    planned (replicate 17 (pos 1)) (2 ∷ 5 ∷ []) ∷ planned (pos 7 ∷ pos 8 ∷ []) [] ∷ []

unfoldable pub printed_shown : List Shown
printed_shown =
    shown 0 4 (numbers (pos 250 ∷ [])) ∷ shown 0 6 (numbers (pos 350 ∷ [])) ∷
    shown 23 4 (numbers (pos 350 ∷ [])) ∷ shown 10 0 (numbers (pos 350 ∷ [])) ∷
    shown 0 6 (numbers (pos 357 ∷ [])) ∷ []

-- code arrays of 40 lines and a buffer of 40 bytes
abbrev pub printed_pairs : List Pair
printed_pairs = pairs printed_file (replicate 40 0) (replicate 40 (pos 0)) (replicate 40 7) [] (4 ∷ [])
    (replicate 33 (pos 0)) (replicate 9 0) printed_plan

-- as computed, at the site never swapped and at the other
pub printed_rows :
    shown_here printed_script printed_pairs ∷ shown_there printed_script printed_pairs ∷ []
    ≡ printed_shown ∷ printed_shown ∷ []
unfolding computing moved_through worked_beside printed_file printed_script printed_plan printed_shown
printed_rows = refl

-- and by the theorem
pub printed_same :
    shown_there printed_script printed_pairs ≡ shown_here printed_script printed_pairs
unfolding computing all_fit moved_through movable calls_of end_of all_movable worked_beside printed_file printed_plan
printed_same = (same_sites printed_file (replicate 40 0) (replicate 40 (pos 0)) (replicate 40 7) [] (4 ∷ [])
    (replicate 33 (pos 0)) (replicate 9 0) printed_plan printed_script printed_accepted refl refl refl refl refl).0

-- ---- a script whose totals name a cell twice, opened on 8 cells: a saved file has such a cell at each place, so that
-- after a swap more cells are taken; the third delivery stops at 28

unfoldable pub folded_plan : List Planned
folded_plan =
    planned (pos 1 ∷ []) [] ∷ planned (pos 1 ∷ []) (7 ∷ []) ∷ planned (pos 2 ∷ []) [] ∷
    planned (pos 0 ∷ []) (9 ∷ 8 ∷ []) ∷ []

-- {{0}, {0}}
unfoldable pub zeros : Value
zeros = list (numbers (pos 0 ∷ []) ∷ numbers (pos 0 ∷ []) ∷ [])

unfoldable pub folded_shown : List Shown
folded_shown = shown 0 9 zeros ∷ shown 0 15 zeros ∷ shown 28 13 zeros ∷ shown 0 15 (list []) ∷ []

abbrev pub folded_pairs : List Pair
folded_pairs = pairs (file_of 1 folded_nodes) (replicate 60 0) (replicate 60 (pos 0)) (replicate 60 7) [] (4 ∷ [])
    (replicate 129 (pos 0)) (replicate 33 0) folded_plan

pub folded_rows :
    shown_here folded_script folded_pairs ∷ shown_there folded_script folded_pairs ∷ []
    ≡ folded_shown ∷ folded_shown ∷ []
unfolding computing moved_through worked_beside file_of low_first operand_bytes folded_nodes folded_script folded_plan
    zeros folded_shown
folded_rows = refl

-- the lowest levels differ, for the stores do
pub folded_levels :
    map (λ (p : Pair). lowest_of p.reply.answer) folded_pairs ∷
    map (λ (p : Pair). lowest_of p.other.answer) folded_pairs ∷ []
    ≡ (4 ∷ 3 ∷ 3 ∷ 3 ∷ []) ∷ (4 ∷ 1 ∷ 2 ∷ 2 ∷ []) ∷ []
unfolding computing moved_through worked_beside file_of low_first operand_bytes folded_nodes folded_plan
folded_levels = refl

pub folded_same :
    shown_there folded_script folded_pairs ≡ shown_here folded_script folded_pairs
unfolding computing all_fit moved_through movable calls_of end_of all_movable worked_beside file_of low_first
    operand_bytes folded_nodes folded_plan
folded_same = (same_sites (file_of 1 folded_nodes) (replicate 60 0) (replicate 60 (pos 0)) (replicate 60 7) [] (4 ∷ [])
    (replicate 129 (pos 0)) (replicate 33 0) folded_plan folded_script folded_accepted refl refl refl refl refl).0

-- ---- totals {350} restored into 2 cells, for the printed script

unfoldable pub saved_350 : List ℕ
saved_350 = 1 ∷ 2 ∷ 0 ∷ 2 ∷ 0 ∷ (replicate 8 0 ++ (94 ∷ 1 ∷ replicate 6 0))

abbrev pub restoring : StoreReply
restoring = engine_restore printed_file (replicate 40 0) (replicate 40 (pos 0)) (replicate 33 (pos 7)) (replicate 9 7)
    saved_350

pub restored_row :
    (restoring.answer ≡ packed 0 0 0 1) × (value_in printed_script restoring ≡ numbers (pos 350 ∷ []))
unfolding computing printed_file printed_script saved_350
restored_row = (refl, refl)

restored_0 : number_of restoring.answer ≡ 0
unfolding computing printed_file saved_350
restored_0 = refl

saved_read : read_saved 1 saved_350 ≡ some (numbers (pos 350 ∷ []))
unfolding computing saved_350
saved_read = refl

flat : main_depth printed_script ≡ 1
unfolding printed_script
flat = refl

abbrev RestoredKeeps : Script → Value → Type 0
RestoredKeeps fs v = (cs : List Call) →
    InTurn (defined.delivers printed_file) restoring.slots restoring.heads cs →
    Kept fs restoring.slots restoring.heads v cs

-- over every list of deliveries after it the ledger begins with {350}
pub restored_history : RestoredKeeps printed_script (numbers (pos 350 ∷ []))
unfolding defined_saving
restored_history =
    let c = restored printed_file (replicate 40 0) (replicate 40 (pos 0)) (replicate 33 (pos 7)) (replicate 9 7)
    saved_350 restoring refl restored_0 in
    let z : c.script ≡ printed_script = same_script (sym c.is_accepted ∙ printed_accepted) in
    let depth = ap main_depth z ∙ flat in
    let v : c.value ≡ numbers (pos 350 ∷ []) = some_same c.value (numbers (pos 350 ∷ []))
    (sym c.is_read ∙ ap (λ (d : ℕ). read_saved d saved_350) depth ∙ saved_read) in
    subst (λ (fs : Script). RestoredKeeps fs (numbers (pos 350 ∷ []))) z
    (subst (λ (w : Value). RestoredKeeps c.script w) v c.keeps)
