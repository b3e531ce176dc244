-- The demands' hypotheses can be met: the theorems at the printed script, at a script with a map and a call, at one
-- with all kinds of the second edition, and at one whose map rewrites its array.
use Rattle.prelude.specs.Kit.{ℕ, ◌+◌, ◌*◌, ◌≡◌, refl, ◌∙◌, sym, subst, List, [], ◌∷◌, ℤ, pos, get_or, replicate}
use Rattle.semantics.specs.Number.{sum}
use Rattle.semantics.specs.Kinds.{operation, call, literal, index, length_of, iota, replicate as repeat, mapping}
use Rattle.semantics.specs.Kinds.{filtering, reducing}
use Rattle.semantics.specs.Syntax.{number, name, leaf, if_else, loop, none, more, Expr, Script, main_depth}
use Rattle.semantics.specs.Value.{first_totals}
use Rattle.semantics.specs.Code.{Row, row}
use Rattle.semantics.specs.Annotate.{code}
use Rattle.semantics.specs.Calls.{accepted, judged, number_of, StoreReply, engine_open}
use Rattle.semantics.specs.Demands.{Call, InTurn, Kept, defined}
use Rattle.semantics.specs.Computing.{computing}
use Rattle.semantics.specs.Trials.{printed_file}
use Rattle.semantics.specs.Slips.{file_of, low_first, operand_bytes}
use Rattle.laws.specs.Files.{same_script}
use Rattle.soundness.proofs.Demand3.{demand_3}

-- the first element of an array, by its name
abbrev pub first : ℕ → Expr
first x = leaf index (more (name x) (more (number (pos 0)) none))

-- the printed script: main(t: 1, r: 1): 1 = if length(t) then {t[0] + r[0]} else {r[0]}
unfoldable pub printed_script : Script
printed_script = record {
  parameters = record { id = 0; depth = 1 } ∷ record { id = 1; depth = 1 } ∷ [];
  result = 1;
  body = if_else (leaf length_of (more (name 0) none))
      (leaf (literal 0) (more (leaf (operation sum) (more (first 0) (more (first 1) none))) none))
      (leaf (literal 0) (more (first 1) none));
} ∷ []

pub printed_accepted : judged printed_file ≡ accepted printed_script
unfolding computing printed_file printed_script
printed_accepted = refl

printed_opens : number_of (engine_open printed_file (replicate 33 0) (replicate 33 (pos 0)) (replicate 33 (pos 0))
    (replicate 9 0)).answer ≡ 0
unfolding computing printed_file
printed_opens = refl

-- main(t: 2, r: 1): 2 = map x over r: pair(x); pair(y: 0): 1 = {y, y}
unfoldable pub mapped_nodes : List Row
mapped_nodes =
    row 0 514 ∷ row 1 512 ∷ row 1 257 ∷ row 13 2 ∷ row 3 1 ∷ row 8 257 ∷ row 3 2 ∷
    row 0 257 ∷ row 1 0 ∷ row 9 2 ∷ row 3 0 ∷ row 3 0 ∷ []

unfoldable pub mapped_script : Script
mapped_script =
    record {
      parameters = record { id = 0; depth = 2 } ∷ record { id = 1; depth = 1 } ∷ [];
      result = 2;
      body = loop mapping (2 ∷ []) (more (name 1) none) (leaf (call 1) (more (name 2) none));
    } ∷ record {
      parameters = record { id = 0; depth = 0 } ∷ [];
      result = 1;
      body = leaf (literal 0) (more (name 0) (more (name 0) none));
    } ∷ []

mapped_accepted : judged (file_of 2 mapped_nodes) ≡ accepted mapped_script
unfolding computing file_of low_first operand_bytes mapped_nodes mapped_script
mapped_accepted = refl

-- main(t: 2, r: 1): 2 =
--   filter x over reduce a, b from replicate(2, iota(r[0])) over t: if length(b) then a else t: length(x)
unfoldable pub folded_nodes : List Row
folded_nodes =
    row 0 514 ∷ row 1 512 ∷ row 1 257 ∷ row 19 2 ∷ row 20 (3 + 256 * 4) ∷
    row 18 0 ∷ row 2 2 ∷ row 17 0 ∷ row 10 0 ∷ row 3 1 ∷ row 2 0 ∷ row 3 0 ∷
    row 12 0 ∷ row 11 0 ∷ row 3 4 ∷ row 3 3 ∷ row 3 0 ∷ row 11 0 ∷ row 3 2 ∷ []

unfoldable pub folded_script : Script
folded_script = record {
  parameters = record { id = 0; depth = 2 } ∷ record { id = 1; depth = 1 } ∷ [];
  result = 2;
  body = loop filtering (2 ∷ [])
      (more (loop reducing (3 ∷ 4 ∷ [])
      (more (leaf repeat (more (number (pos 2)) (more (leaf iota (more (first 1) none)) none))) (more (name 0) none))
      (if_else (leaf length_of (more (name 4) none)) (name 3) (name 0))) none)
      (leaf length_of (more (name 2) none));
} ∷ []

pub folded_accepted : judged (file_of 1 folded_nodes) ≡ accepted folded_script
unfolding computing file_of low_first operand_bytes folded_nodes folded_script
folded_accepted = refl

-- main(t: 1, r: 1): 1 = map x over r: x + 1
unfoldable pub rewritten_nodes : List Row
rewritten_nodes = row 0 258 ∷ row 1 256 ∷ row 1 257 ∷ row 13 2 ∷ row 3 1 ∷ row 4 0 ∷ row 3 2 ∷ row 2 1 ∷ []

unfoldable pub rewritten_script : Script
rewritten_script = record {
  parameters = record { id = 0; depth = 1 } ∷ record { id = 1; depth = 1 } ∷ [];
  result = 1;
  body = loop mapping (2 ∷ []) (more (name 1) none) (leaf (operation sum) (more (name 2) (more (number (pos 1)) none)));
} ∷ []

pub rewritten_accepted : judged (file_of 1 rewritten_nodes) ≡ accepted rewritten_script
unfolding computing file_of low_first operand_bytes rewritten_nodes rewritten_script
rewritten_accepted = refl

-- its map is written as one that rewrites
rewritten_map : get_or (code rewritten_script) 4 (row 0 0) ≡ row 21 (2 + 256 * 3)
unfolding computing rewritten_script
rewritten_map = refl

-- demand 3 for a file of this script, on a store that opens
module _ (file kinds : List ℕ) (operands slots : List ℤ) (heads : List ℕ) where
  abbrev opening : StoreReply
  opening = engine_open file kinds operands slots heads

  abbrev pub Keeps : Script → Type 0
  Keeps gs = (cs : List Call) → InTurn (defined.delivers file) opening.slots opening.heads cs →
      Kept gs opening.slots opening.heads (first_totals (main_depth gs)) cs

  keeps : (fs : Script) → judged file ≡ accepted fs → number_of opening.answer ≡ 0 → Keeps fs
  unfolding defined
  keeps fs ok z =
      let s = demand_3 file kinds operands slots heads opening refl z in
      subst Keeps (same_script (sym s.is_accepted ∙ ok)) s.keeps

-- every list of deliveries with the printed script, on a store of 2 cells
pub printed_history :
    Keeps printed_file (replicate 33 0) (replicate 33 (pos 0)) (replicate 33 (pos 0)) (replicate 9 0)
    printed_script
printed_history = keeps printed_file (replicate 33 0) (replicate 33 (pos 0)) (replicate 33 (pos 0))
    (replicate 9 0) printed_script printed_accepted printed_opens

-- and with the others, on any store that opens
pub mapped_history : (kinds : List ℕ) (operands slots : List ℤ) (heads : List ℕ) →
    number_of (engine_open (file_of 2 mapped_nodes) kinds operands slots heads).answer ≡ 0 →
    Keeps (file_of 2 mapped_nodes) kinds operands slots heads mapped_script
mapped_history kinds operands slots heads z =
    keeps (file_of 2 mapped_nodes) kinds operands slots heads mapped_script mapped_accepted z

pub folded_history : (kinds : List ℕ) (operands slots : List ℤ) (heads : List ℕ) →
    number_of (engine_open (file_of 1 folded_nodes) kinds operands slots heads).answer ≡ 0 →
    Keeps (file_of 1 folded_nodes) kinds operands slots heads folded_script
folded_history kinds operands slots heads z =
    keeps (file_of 1 folded_nodes) kinds operands slots heads folded_script folded_accepted z

pub rewritten_history : (kinds : List ℕ) (operands slots : List ℤ) (heads : List ℕ) →
    number_of (engine_open (file_of 1 rewritten_nodes) kinds operands slots heads).answer ≡ 0 →
    Keeps (file_of 1 rewritten_nodes) kinds operands slots heads rewritten_script
rewritten_history kinds operands slots heads z =
    keeps (file_of 1 rewritten_nodes) kinds operands slots heads rewritten_script rewritten_accepted z
