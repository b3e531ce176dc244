-- The lines that work no tree, on the code at a position.
use Rattle.std.specs.Prelude.{◌≡◌, Bool, true, false, cond, List, [], ◌∷◌, ℕ, zero, suc, ◌+◌, ◌-◌, ◌≤◌, ℤ, pos, nat_abs, eqb, get_or, length, replicate}
use Rattle.semantics.specs.Basics.{tabulate}
use Rattle.semantics.specs.Outcome.{Outcome, done, stop}
use Rattle.semantics.specs.Kinds.{Loop, mapping, filtering, reducing, rewriting}
use Rattle.semantics.specs.Number.{Operation, sum, difference, less, exact, inside}
use Rattle.semantics.specs.Store.{Store, cell, cell_of, elements, acquired, retained, released, deepest, cells_taken}
use Rattle.semantics.specs.Machine.{is_count}
use Rattle.words.specs.Words.{checked}
use Rattle.store.specs.declared.Gained.{Gained}
use Rattle.store.specs.Acquiring.{next_cell, appended_all}
use Rattle.kinds.specs.declared.Atom.{Atom}
use Rattle.kinds.specs.declared.Atom.TheVariants.{Name}
use Rattle.machine_code.specs.declared.Loop as P
use Rattle.machine_code.specs.declared.Loop.TheVariants.{Map, Filter, Reduce, Rewrite}
use Rattle.machine_code.specs.declared.Line.{Line}
use Rattle.machine_code.specs.declared.Line.TheVariants as L
use Rattle.machine_frames.specs.Frames.{word_of, words_at, element_depth, level_of, noted, raised}
use Rattle.machine_frames.specs.Work.{Memory, memory, Ran, ran, FrameLeft, left, out, with_store, no_line, halted}
use Rattle.machine_frames.specs.Work.{bound, stepping}

-- ---- small works: each gives a word, or a stop

abbrev pub Given : Type 0
Given = Outcome (Unit {0}) ℤ

-- what a small work gave, bound to a name, with the code going on at a position
abbrev pub given : ℕ → ℕ → ℕ → ℕ → List ℤ → Given → FrameLeft
given calls x next s env (done w u) = left (out 0 w next s) (bound calls x w env)
given calls x next s env (stop n u) = left (out n (pos 0) 0 s) env

-- a step, and then a small work that leaves the store alone
unfoldable pub worked : ℕ → ℕ → ℕ → ℕ → List ℤ → Given → FrameLeft
worked calls x next steps env g =
    stepping steps (left (out 21 (pos 0) 0 0) env) (λ s. given calls x next s env g)

abbrev pub operation_of : ℕ → Operation
operation_of kind = cond (eqb kind 4) sum (cond (eqb kind 5) difference less)

abbrev pub operation_given : ℕ → ℤ → ℤ → Given
operation_given kind v w = checked (exact (operation_of kind) v w)

-- the words of the array that a word names
abbrev pub array_of : Store → ℤ → List ℤ
array_of σ w = elements (cell σ (cell_of w))

abbrev pub index_given : List ℤ → ℤ → Given
index_given ws w = cond (inside w (length ws)) (done (get_or ws (nat_abs w) (pos 0)) tt) (stop 23 tt)

abbrev pub length_given : List ℤ → Given
length_given ws = done (pos (length ws)) tt

abbrev pub acquired_given : Outcome (Unit {0}) Gained → Given
acquired_given (done g u) = done (pos g.cell) tt
acquired_given (stop n u) = stop n tt

-- what an acquire answers, by the number of free cells among the frames
abbrev pub cell_from : Memory → Outcome (Unit {0}) Gained
cell_from m = next_cell (level_of m.env) m.store

-- the level noted by what an acquire answers
abbrev pub noted_by : Outcome (Unit {0}) Gained → List ℤ → List ℤ
noted_by (done g u) env = noted g.left env
noted_by (stop n u) env = env

-- what a small work gave, not bound to a name
abbrev pub gave : ℕ → Memory → Given → Ran
gave s m (done w u) = ran (out 0 w 0 s) m
gave s m (stop n u) = halted n s m

-- ---- the lines

abbrev pub operation_line : ℕ → ℕ → ℕ → Atom → Atom → ℕ → ℕ → List ℤ → FrameLeft
operation_line calls kind x a b next steps env =
    worked calls x next steps env (operation_given kind (word_of calls env a) (word_of calls env b))

abbrev pub index_line : Store → ℕ → ℕ → Atom → Atom → ℕ → ℕ → List ℤ → FrameLeft
index_line σ calls x a b next steps env =
    worked calls x next steps env (index_given (array_of σ (word_of calls env a)) (word_of calls env b))

abbrev pub length_line : Store → ℕ → ℕ → Atom → ℕ → ℕ → List ℤ → FrameLeft
length_line σ calls x a next steps env =
    worked calls x next steps env (length_given (array_of σ (word_of calls env a)))

-- ---- an array of a count of elements: an iota's count from 0, a replicate's are copies of a word

abbrev pub elements_by : Bool → ℤ → ℕ → List ℤ
elements_by true w n = tabulate 0 n (λ i. pos i)
elements_by false w n = replicate n w

-- so many references more to a cell
unfoldable pub retained_times : ℕ → ℕ → Store → Store
retained_times zero c σ = σ
retained_times (suc n) c σ = retained_times n c (retained c σ)

-- copies of a word of depth d are references where it stands for an array
abbrev pub retained_copies : ℕ → ℤ → ℕ → Store → Store
retained_copies zero w n σ = σ
retained_copies (suc d) w n σ = retained_times n (cell_of w) σ

-- the store that is left, by what the acquire answers
abbrev pub made_store : Bool → ℤ → ℕ → ℕ → Store → Outcome (Unit {0}) Gained → Store
made_store counting w d n σ (done g u) = retained_copies d w n (acquired d (elements_by counting w n) σ)
made_store counting w d n σ (stop k u) = acquired d (elements_by counting w n) σ

-- the memory that is left, by what the acquire answers
abbrev pub made_memory : Bool → ℤ → ℕ → ℕ → Memory → Outcome (Unit {0}) Gained → Memory
made_memory counting w d n m o = memory (made_store counting w d n m.store o) (noted_by o m.env)

abbrev pub array_memory : Bool → ℤ → ℕ → ℤ → Memory → Memory
array_memory counting w d n m = cond (is_count n) (made_memory counting w d (nat_abs n) m (cell_from m)) m

-- by whether the count is one that an array can have: 26 comes before 25
abbrev pub counted_given : Bool → Outcome (Unit {0}) Gained → Given
counted_given true o = acquired_given o
counted_given false (done g u) = stop 26 tt
counted_given false (stop n u) = stop 26 tt

abbrev pub array_given : ℤ → Memory → Given
array_given n m = counted_given (is_count n) (cell_from m)

unfoldable pub array_made : Bool → ℤ → ℕ → ℤ → ℕ → Memory → Ran
array_made counting w d n steps m = stepping steps (halted 21 0 m)
    (λ s. gave s (array_memory counting w d n m) (array_given n m))

-- how a line is worked: `giving` binds the word of a small work that leaves a memory to a name, and the code goes on at
-- a position; `changing` leaves a memory; the others end a tree or work one. A loop has the name of its running value,
-- its element's and its atoms; where it has no running value both names are the element's.
pub data Doing : Type 0 where
  giving : ℕ → ℕ → Memory → Given → Doing
  changing : Memory → Doing
  ending : Atom → Doing
  calling : ℕ → ℕ → Doing
  branching : ℕ → Atom → Doing
  looping : ℕ → Loop → ℕ → ℕ → List Atom → Doing

-- a cell acquired with some words
abbrev pub acquired_memory : ℕ → List ℤ → Memory → Memory
acquired_memory d ws m = memory (acquired d ws m.store) (noted_by (cell_from m) m.env)

-- a cell released down to its last element
abbrev pub released_memory : ℕ → Memory → Memory
released_memory c m =
    let σ = released deepest c m.store in
    memory σ (raised (cells_taken m.store - cells_taken σ) m.env)

-- the words ws were appended to a cell
pub record Appended (ws : List ℤ) (c n : ℕ) (σ σ' : Store) : Type 0 where
  pub store : σ' ≡ appended_all c ws σ
  pub count : n ≡ length ws
  pub few : n ≤ 16

abbrev pub literal_doing : ℕ → ℕ → ℕ → Memory → List ℤ → Doing
literal_doing x depth at m ws =
    giving x (at + 1 + length ws) (acquired_memory depth ws m) (acquired_given (cell_from m))

abbrev pub array_doing : ℕ → ℕ → Bool → ℤ → ℕ → ℤ → Memory → Doing
array_doing x next counting w d n m = giving x next (array_memory counting w d n m) (array_given n m)

abbrev pub kind_of : P.Loop → Loop
kind_of (Map p a) = mapping
kind_of (Filter p a) = filtering
kind_of (Reduce p q a b) = reducing
kind_of (Rewrite p a) = rewriting

abbrev pub first_name : P.Loop → ℕ
first_name (Map p a) = p
first_name (Filter p a) = p
first_name (Reduce p q a b) = p
first_name (Rewrite p a) = p

abbrev pub second_name : P.Loop → ℕ
second_name (Map p a) = p
second_name (Filter p a) = p
second_name (Reduce p q a b) = q
second_name (Rewrite p a) = p

abbrev pub atoms_of : P.Loop → List Atom
atoms_of (Map p a) = a ∷ []
atoms_of (Filter p a) = a ∷ []
atoms_of (Reduce p q a b) = a ∷ b ∷ []
atoms_of (Rewrite p a) = a ∷ []

-- the line at a position, by its variant
unfoldable pub doing : List ℕ → List ℤ → List ℕ → ℕ → ℕ → Memory → Line → Doing
doing kinds operands table calls at m (L.Operation kind x a b) =
    giving x (at + 3) m (operation_given kind (word_of calls m.env a) (word_of calls m.env b))
doing kinds operands table calls at m (L.Call x f) = calling x f
doing kinds operands table calls at m (L.Literal x d) =
    literal_doing x d at m (words_at 16 kinds operands calls m.env (at + 1))
doing kinds operands table calls at m (L.Index x a b) =
    giving x (at + 3) m
    (index_given (array_of m.store (word_of calls m.env a)) (word_of calls m.env b))
doing kinds operands table calls at m (L.Length x a) =
    giving x (at + 2) m (length_given (array_of m.store (word_of calls m.env a)))
doing kinds operands table calls at m (L.Iota x a) =
    array_doing x (at + 2) true (pos 0) 0 (word_of calls m.env a) m
doing kinds operands table calls at m (L.Replicate x a b) =
    array_doing x (at + 3) false (word_of calls m.env b) (element_depth table calls x m.env)
    (word_of calls m.env a) m
doing kinds operands table calls at m (L.If x g) = branching x g
doing kinds operands table calls at m (L.Loop x l) =
    looping x (kind_of l) (first_name l) (second_name l) (atoms_of l)
doing kinds operands table calls at m (L.Retain x) =
    changing (memory (retained (cell_of (word_of calls m.env (Name x))) m.store) m.env)
doing kinds operands table calls at m (L.Release x) =
    changing (released_memory (cell_of (word_of calls m.env (Name x))) m)
doing kinds operands table calls at m (L.End a) = ending a

-- a step, and then a small work that leaves a memory
unfoldable pub giving_line : ℕ → ℕ → ℕ → ℕ → Memory → Memory → Given → Ran
giving_line calls x next steps m m' g =
    stepping steps (halted 21 0 m) (λ s. with_store m'.store (given calls x next s m'.env g))

-- a line that works no tree; other lines stop with a number that no script can meet
unfoldable pub leaf_done : ℕ → ℕ → ℕ → Memory → Doing → Ran
leaf_done calls at s m (giving x next m' g) = giving_line calls x next s m m' g
leaf_done calls at s m (changing m') = ran (out 0 (pos 0) (at + 1) s) m'
leaf_done calls at s m (ending a) = halted no_line s m
leaf_done calls at s m (calling x f) = halted no_line s m
leaf_done calls at s m (branching x g) = halted no_line s m
leaf_done calls at s m (looping x k p q us) = halted no_line s m

abbrev pub literal_line : List ℕ → List ℤ → ℕ → ℕ → ℕ → ℕ → ℕ → Memory → Ran
literal_line kinds operands calls x depth at steps m =
    leaf_done calls at steps m
    (literal_doing x depth at m (words_at 16 kinds operands calls m.env (at + 1)))

abbrev pub array_line : ℕ → ℕ → ℕ → Bool → ℤ → ℕ → ℤ → ℕ → Memory → Ran
array_line calls x next counting w d n steps m =
    giving_line calls x next steps m (array_memory counting w d n m) (array_given n m)

abbrev pub leaf : List ℕ → List ℤ → List ℕ → ℕ → ℕ → ℕ → Memory → Line → Ran
leaf kinds operands table calls at s m l = leaf_done calls at s m (doing kinds operands table calls at m l)
