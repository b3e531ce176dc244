-- What a loop begins with, what a pass begins with, and what it carries on to the next, on the memory of the machine.
use Rattle.std.specs.Prelude.{◌≡◌, Bool, true, false, cond, not, Option, Some, None, List, [], ℕ, ◌+◌, ◌*◌, ◌<◌, ℤ, eqb, length}
use Rattle.semantics.specs.Outcome.{Outcome, done, stop}
use Rattle.semantics.specs.Number.{is_zero, is_answer}
use Rattle.semantics.specs.Kinds.{Loop, mapping, filtering, reducing, rewriting}
use Rattle.semantics.specs.Store.{Store, cell, cell_of, appended, overwritten, retained}
use Rattle.semantics.specs.Machine.{argument, looped_over}
use Rattle.semantics.specs.Words.{store_of}
use Rattle.machine_frames.specs.Work.{Out}
use Rattle.machine_frames.specs.Work.{Memory, memory, Ran, ran, out, halted, bound, goes_on}
use Rattle.machine_lines.specs.Lines.{acquired_given, cell_from, gave, acquired_memory, released_memory, array_of}
use Rattle.machine_loops.specs.declared.Way.{Way}
use Rattle.machine_loops.specs.declared.Way.TheVariants.{Fill, Keep, Hand, Overwrite}
use Rattle.machine_loops.specs.declared.Passes.{Passes}

-- What a pass does with the word that its tree gave; d is the depth of the elements of the loop's result. A map that
-- rewrites does so if what is carried into its first pass is its own array, the cell c.
abbrev pub way_of : Loop → ℕ → ℕ → ℤ → Way
way_of mapping d c v = Fill false
way_of filtering d c v = Keep (not (eqb d 0))
way_of reducing d c v = Hand
way_of rewriting d c v = cond (eqb (cell_of v) c) Overwrite (Fill true)

-- ---- what is carried into the first pass

-- a new cell of element depth d for the result
abbrev pub new_carried : ℕ → ℕ → Memory → Ran
new_carried d s m = gave s (acquired_memory d [] m) (acquired_given (cell_from m))

-- whether the cell that a word names has one reference
abbrev pub is_alone : Store → ℤ → Bool
is_alone σ w = eqb (cell σ (cell_of w)).count 1

-- such a cell, a reduce's start, or an array that is to be rewritten, if nothing else refers to it
abbrev pub carry_first : Loop → ℕ → List ℤ → ℕ → Memory → Ran
carry_first mapping d ws s m = new_carried d s m
carry_first filtering d ws s m = new_carried d s m
carry_first reducing d ws s m = ran (out 0 (argument ws 0) 0 s) m
carry_first rewriting d ws s m =
    cond (is_alone m.store (argument ws 0)) (ran (out 0 (argument ws 0) 0 s) m) (new_carried d s m)

-- ---- a pass

-- the frames at the beginning of a pass over w, into which v is carried: the running value's name is p, the element's q
abbrev pub begun_frames : ℕ → ℕ → ℕ → ℤ → ℤ → List ℤ → List ℤ
begun_frames calls p q v w env = bound calls q w (bound calls p v env)

-- whether a pass takes what its tree gave: a filter takes an answer
abbrev pub is_taken : Way → ℤ → Bool
is_taken (Fill releases) r = true
is_taken (Keep arrays) r = is_answer r
is_taken Hand r = true
is_taken Overwrite r = true

-- what a pass carries on: v was carried into it, and its tree gave r
abbrev pub carried_word : Way → ℤ → ℤ → ℤ
carried_word (Fill releases) v r = v
carried_word (Keep arrays) v r = v
carried_word Hand v r = r
carried_word Overwrite v r = v

abbrev pub retained_if : Bool → ℕ → Store → Store
retained_if true c σ = retained c σ
retained_if false c σ = σ

-- an element kept in the cell c, unless the tree gave 0
abbrev pub kept : Bool → ℕ → ℤ → ℤ → Store → Store
kept arrays c w r σ = cond (is_zero r) σ (appended c w (retained_if arrays (cell_of w) σ))

-- the store that pass i, over w, leaves, where the loop's result is the cell c
abbrev pub carried_store : Way → ℕ → ℕ → ℤ → ℤ → Store → Store
carried_store (Fill releases) c i w r σ = appended c r σ
carried_store (Keep arrays) c i w r σ = kept arrays c w r σ
carried_store Hand c i w r σ = σ
carried_store Overwrite c i w r σ = overwritten c i r σ

-- ---- the end of a loop

-- the memory after the passes over a cell: an array that was to be rewritten and was not is released
abbrev pub loop_ended : Way → ℕ → Memory → Memory
loop_ended (Fill true) c m = released_memory c m
loop_ended (Fill false) c m = m
loop_ended (Keep arrays) c m = m
loop_ended Hand c m = m
loop_ended Overwrite c m = m

-- what the passes over a cell gave, if they were not stopped, bound to a name
abbrev pub loop_bound : Way → ℕ → ℕ → ℕ → ℕ → Out → Memory → Ran
loop_bound way c calls x next r m =
    cond (eqb r.stop 0) (goes_on calls x r.value next r.steps (loop_ended way c m)) (ran r m)

-- ---- what the functions promise

-- all words of a cell are there
abbrev pub Within : List ℤ → List ℕ → ℕ → Type 0
Within slots heads c = (c < 256) × (4 * c + 4 < length heads) × (16 * c + 16 < length slots)

-- the cell of a loop's result is there, where it has one
abbrev pub ResultWithin : Way → List ℤ → List ℕ → ℕ → Type 0
ResultWithin (Fill releases) slots heads c = Within slots heads c
ResultWithin (Keep arrays) slots heads c = Within slots heads c
ResultWithin Hand slots heads c = Unit {0}
ResultWithin Overwrite slots heads c = Within slots heads c

-- the cells of the passes are there
pub record Usable (slots : List ℤ) (heads : List ℕ) (l : Passes) : Type 0 where
  pub array : 0 < l.count → Within slots heads l.from
  pub result : ResultWithin l.way slots heads (cell_of l.carried)

-- a new cell is carried into the first pass, or there is none
abbrev pub NewCarries : ℕ → Memory → List ℤ → List ℕ → List ℤ → Option ℤ → Type 0
NewCarries d m slots heads env (Some w) =
    ((s : ℕ) → new_carried d s m ≡ ran (out 0 w 0 s) (memory (store_of slots heads) env))
    × Within slots heads (cell_of w)
NewCarries d m slots heads env None =
    (s : ℕ) → new_carried d s m ≡ halted 25 s (memory (store_of slots heads) env)

-- a word is carried into the first pass, or there is no cell
abbrev pub Carries : Loop → ℕ → List ℤ → Memory → List ℤ → List ℕ → List ℤ → Option ℤ → Type 0
Carries k d ws m slots heads env (Some w) =
    ((s : ℕ) → carry_first k d ws s m ≡ ran (out 0 w 0 s) (memory (store_of slots heads) env))
    × ResultWithin (way_of k d (cell_of (looped_over k ws)) w) slots heads (cell_of w)
Carries k d ws m slots heads env None =
    (s : ℕ) → carry_first k d ws s m ≡ halted 25 s (memory (store_of slots heads) env)

-- document 01's number and values for each case, with the store that a pass leaves: the word that it carries on, or 28
abbrev pub next_outcome : Option ℤ → Store → Outcome Store ℤ
next_outcome (Some u) τ = done u τ
next_outcome None τ = stop 28 τ

-- Pass i, over w, into which v was carried and whose tree gave r, carries a word on; or it does not take r: then it is
-- 28, and the store stays as it is.
pub record CarriesOn (way : Way) (c : ℕ) (v : ℤ) (i : ℕ) (w r : ℤ) (σ τ : Store) (n : Option ℤ) : Type 0 where
  pub is : next_outcome n τ ≡
      cond (is_taken way r) (done (carried_word way v r) (carried_store way c i w r σ)) (stop 28 σ)

-- the passes of a loop of kind k with the names p and q, whose atoms have the words ws
pub record Readied (k : Loop) (p q d : ℕ) (ws : List ℤ) (m : Memory) (slots : List ℤ) (heads : List ℕ) (env : List ℤ)
    (l : Passes) : Type 0 where
  pub way : l.way ≡ way_of k d (cell_of (looped_over k ws)) l.carried
  pub first : l.first ≡ p
  pub second : l.second ≡ q
  pub from : l.from ≡ cell_of (looped_over k ws)
  pub count : l.count ≡ length (array_of m.store (looped_over k ws))
  pub carried : (s : ℕ) →
      carry_first k d ws s m ≡ ran (out 0 l.carried 0 s) (memory (store_of slots heads) env)
  pub usable : Usable slots heads l

abbrev pub Begins : Loop → ℕ → ℕ → ℕ → List ℤ → Memory → List ℤ → List ℕ → List ℤ → Option Passes → Type 0
Begins k p q d ws m slots heads env (Some l) = Readied k p q d ws m slots heads env l
Begins k p q d ws m slots heads env None =
    (s : ℕ) → carry_first k d ws s m ≡ halted 25 s (memory (store_of slots heads) env)
