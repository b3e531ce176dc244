-- Document 01, "The store": the annotated code worked on a store, and the delivery.
-- Three parts of the definition leave no word in the store: the log of what happened to cells, the set L that is live
-- after a tree, and the roots R, the cells that are in use outside it.
use Rattle.std.specs.Prelude.{ℕ, zero, suc, ◌+◌, ◌-◌, min, pred, Bool, true, false, cond, ◌&&◌, List, [], ◌∷◌, ◌++◌, map, ℤ, pos, nat_abs, length, get_or, eqb, ltb}
use Rattle.std.proofs.Math.ListN as List
use Rattle.semantics.specs.Basics.{tabulate, with_if, occurrences, updated}
use Rattle.semantics.specs.Outcome.{Outcome, done, stop, Run, ◌>>=◌, ◌>>◌, give, halt, require, passes}
use Rattle.semantics.specs.Number.{exact, fits, inside, is_zero, is_answer}
use Rattle.semantics.specs.Syntax.{Parameter, Function, Script, main_depth}
use Rattle.semantics.specs.Types.{Signature, signatures_of}
use Rattle.semantics.specs.Kinds.{Leaf, operation, call, literal, index, length_of, iota, replicate, Loop}
use Rattle.semantics.specs.Kinds.{mapping, filtering, reducing, rewriting, later_parts, Borrowing, leaf_reads}
use Rattle.semantics.specs.Kinds.{loop_array}
use Rattle.semantics.specs.Code.{Atom, number, name, Line, leaf, if_else, loop, retain, release, Tree, end, line}
use Rattle.semantics.specs.Live.{Set, empty, ◌∖◌, among, members, live, after_branch, after_pass}
use Rattle.semantics.specs.Borrow.{Table, borrows, borrowed}
use Rattle.semantics.specs.Annotate.{NameDepths, depth_of, is_array, depths_of, Style, full_style, annotated_in}
use Rattle.semantics.specs.Store.{Store, cell, cell_of, elements, inner, named_by, with_totals, has_free, acquired}
use Rattle.semantics.specs.Store.{retained, released, freed, appended, overwritten, relinked, deepest, free_cells}
use Rattle.semantics.specs.Sound.{free_list}

-- ---- the log

-- a cell was acquired; its count fell to 0; it was read, filled, retained or released while on the free list
pub data Event : Type 0 where
  acquires frees touches : ℕ → Event

unfoldable pub touching : Store → ℕ → List Event
touching σ c = with_if (ltb 0 (occurrences c (free_list σ))) (touches c) []

-- f's events for each cell in turn, between which g changes the store
unfoldable pub each_events : (ℕ → Store → Store) → (ℕ → Store → List Event) → List ℕ → Store → List Event
each_events g f [] σ = []
each_events g f (c ∷ l) σ = f c σ ++ each_events g f l (g c σ)

unfoldable pub lower_events : (ℕ → Store → Store) → (ℕ → Store → List Event) → ℕ → ℕ → Store → List Event
lower_events g f zero c σ = []
lower_events g f (suc zero) c σ = frees c ∷ each_events g f (inner (cell σ c)) (freed c σ)
lower_events g f (suc (suc n)) c σ = []

-- what a release does, each element of a freed cell included
unfoldable pub release_events : ℕ → ℕ → Store → List Event
release_events zero c σ = []
release_events (suc n) c σ = touching σ c ++ lower_events (released n) (release_events n) (cell σ c).count c σ

-- ---- levels

-- how many cells are free after an event, before which n were
abbrev pub level_by : Event → ℕ → ℕ
level_by (acquires c) n = n - 1
level_by (frees c) n = n + 1
level_by (touches c) n = n

-- how many cells are free after some events, before which n were
unfoldable pub level_after : List Event → ℕ → ℕ
level_after [] n = n
level_after (e ∷ l) n = level_after l (level_by e n)

-- the least number of free cells over some events, the n before them included
unfoldable pub lowest_over : List Event → ℕ → ℕ
lowest_over [] n = n
lowest_over (e ∷ l) n = min n (lowest_over l (level_by e n))

-- ---- the state and its changes

-- the steps left, the store, the log, and at a stop 25 the cells that then are in use
pub record State : Type 0 where
  pub left : ℕ
  pub store : Store
  pub log : List Event
  pub roots : List ℕ

abbrev pub Work : Type 0 → Type 0
Work A = Run State A

unfoldable pub with_store : State → Store → List Event → State
with_store s σ events = record { left = s.left; store = σ; log = s.log ++ events; roots = s.roots }

unfoldable pub with_left : State → ℕ → State
with_left s n = record { left = n; store = s.store; log = s.log; roots = s.roots }

unfoldable pub with_roots : State → List ℕ → State
with_roots s R = record { left = s.left; store = s.store; log = s.log; roots = R }

unfoldable pub stepped : ℕ → State → Outcome State (Unit {0})
stepped zero s = stop 21 s
stepped (suc n) s = done tt (with_left s n)

unfoldable pub step : Work (Unit {0})
step s = stepped s.left s

unfoldable pub acquire_if : Bool → List ℕ → ℕ → List ℤ → Work ℤ
acquire_if true R d ws s =
    done (pos s.store.first) (with_store s (acquired d ws s.store) (acquires s.store.first ∷ []))
acquire_if false R d ws s = stop 25 (with_roots s R)

-- the free list's first cell with these words, while the roots R are in use
unfoldable pub acquire : List ℕ → ℕ → List ℤ → Work ℤ
acquire R d ws s = acquire_if (has_free s.store) R d ws s

-- the words of the cell that a word names
unfoldable pub elements_of : ℤ → Work (List ℤ)
elements_of w s =
    done (elements (cell s.store (cell_of w))) (with_store s s.store (touching s.store (cell_of w)))

unfoldable pub retain_word : ℤ → Work (Unit {0})
retain_word w s = done tt (with_store s (retained (cell_of w) s.store) (touching s.store (cell_of w)))

unfoldable pub release_word : ℤ → Work (Unit {0})
release_word w s =
    done tt (with_store s (released deepest (cell_of w) s.store) (release_events deepest (cell_of w) s.store))

-- a word put behind the elements of a cell
unfoldable pub append_word : ℤ → ℤ → Work (Unit {0})
append_word a w s = done tt (with_store s (appended (cell_of a) w s.store) (touching s.store (cell_of a)))

-- another word in a slot of a cell
unfoldable pub overwrite_word : ℤ → ℕ → ℤ → Work (Unit {0})
overwrite_word a i w s =
    done tt (with_store s (overwritten (cell_of a) i w s.store) (touching s.store (cell_of a)))

-- whether the cell that a word names has one reference
unfoldable pub is_alone : ℤ → Work Bool
is_alone w s =
    done (eqb (cell s.store (cell_of w)).count 1) (with_store s s.store (touching s.store (cell_of w)))

-- ---- lines and trees

-- the words of the names of a call
abbrev pub Frame : Type 0
Frame = ℕ → ℤ

abbrev pub word : Frame → Atom → ℤ
word ρ (number z) = z
word ρ (name x) = ρ x

-- a call of a function by its number, while the roots are in use
abbrev pub Callee : Type 0
Callee = List ℕ → ℕ → List ℤ → Work ℤ

-- the cells of the arrays among a set of names
unfoldable pub held : NameDepths → Set → Frame → List ℕ
held Γ A ρ = map (λ x. cell_of (ρ x)) (members (λ x. A x && is_array Γ x))

abbrev pub argument : List ℤ → ℕ → ℤ
argument ws i = get_or ws i (pos 0)

-- something to do with words that stand for arrays, by their depth
abbrev pub if_array : ℕ → Work (Unit {0}) → Work (Unit {0})
if_array zero m = give tt
if_array (suc d) m = m

-- so many references more to the cell that a word names
unfoldable pub retain_times : ℕ → ℤ → Work (Unit {0})
retain_times zero w = give tt
retain_times (suc n) w = do retain_word w; retain_times n w

-- a count that an array can have
abbrev pub is_count : ℤ → Bool
is_count n = inside n 17

-- A leaf's work on the words ws of its atoms, after its step. S are the roots while a cell is wanted; C those of a call
-- with what the caller keeps for a borrowed argument; d is the depth of the second atom, which a replicate retains once
-- for each element.
unfoldable pub work_leaf : Callee → List ℕ → List ℕ → ℕ → Leaf → List ℤ → Work ℤ
work_leaf callee S C d (operation o) ws = do
  let r = exact o (argument ws 0) (argument ws 1)
  require (fits r) 24
  give r
work_leaf callee S C d (call f) ws = callee C f ws
work_leaf callee S C d (literal e) ws = acquire S e ws
work_leaf callee S C d index ws = do
  vs ← elements_of (argument ws 0)
  require (inside (argument ws 1) (length vs)) 23
  give (get_or vs (nat_abs (argument ws 1)) (pos 0))
work_leaf callee S C d length_of ws = do vs ← elements_of (argument ws 0); give (pos (length vs))
work_leaf callee S C d iota ws = do
  require (is_count (argument ws 0)) 26
  acquire S 0 (tabulate 0 (nat_abs (argument ws 0)) (λ i. pos i))
work_leaf callee S C d replicate ws = do
  require (is_count (argument ws 0)) 26
  c ← acquire S d (List.replicate (nat_abs (argument ws 0)) (argument ws 1))
  if_array d (retain_times (nat_abs (argument ws 0)) (argument ws 1))
  give c

-- ---- passes: what is carried from one to the next is a word

abbrev pub looped_over : Loop → List ℤ → ℤ
looped_over mapping ws = argument ws 0
looped_over filtering ws = argument ws 0
looped_over reducing ws = argument ws 1
looped_over rewriting ws = argument ws 0

-- what is carried into the first pass: a new cell for the result, a reduce's start, or an array to be rewritten, if
-- nothing else refers to it
abbrev pub carried_first : Loop → List ℕ → ℕ → List ℤ → Work ℤ
carried_first mapping R d ws = acquire R d []
carried_first filtering R d ws = acquire R d []
carried_first reducing R d ws = give (argument ws 0)
carried_first rewriting R d ws = do
  alone ← is_alone (argument ws 0)
  cond alone (give (argument ws 0)) (acquire R d [])

abbrev pub pass_words : Loop → ℤ → ℤ → List ℤ
pass_words mapping c w = w ∷ []
pass_words filtering c w = w ∷ []
pass_words reducing c w = c ∷ w ∷ []
pass_words rewriting c w = w ∷ []

-- whether a loop takes what the tree of a pass gave: a filter takes an answer
abbrev pub taken_by : Loop → ℤ → Bool
taken_by mapping r = true
taken_by filtering r = is_answer r
taken_by reducing r = true
taken_by rewriting r = true

-- the word c is that of the array a itself
abbrev pub in_place : ℤ → ℤ → Bool
in_place a c = eqb (cell_of c) (cell_of a)

-- What a pass over w, element i of the array a, carries on, by what its tree gave; the result's elements have depth d.
-- A filter retains each element that it keeps; a map in place overwrites the element.
abbrev pub carried_on : Loop → ℕ → ℤ → ℕ → ℤ → ℤ → ℤ → Work ℤ
carried_on mapping d a i c w r = do append_word c r; give c
carried_on filtering d a i c w r = cond (is_zero r) (give c) (do if_array d (retain_word w); append_word c w; give c)
carried_on reducing d a i c w r = give r
carried_on rewriting d a i c w r = do cond (in_place a c) (overwrite_word c i r) (append_word c r); give c

-- what a loop over the array a does after its passes: an array that was to be rewritten and was not is released
abbrev pub loop_ends : Loop → ℤ → ℤ → Work (Unit {0})
loop_ends mapping a c = give tt
loop_ends filtering a c = give tt
loop_ends reducing a c = give tt
loop_ends rewriting a c = cond (in_place a c) (give tt) (release_word a)

-- one pass over element i of the array a
unfoldable pub work_pass : Loop → ℕ → (List ℤ → Work ℤ) → ℤ → ℤ → ℕ → Work ℤ
work_pass k d body a c i = do
  step
  ws ← elements_of a
  let w = get_or ws i (pos 0)
  r ← body (pass_words k c w)
  require (taken_by k r) 28
  carried_on k d a i c w r

-- the result of a loop in progress; a reduce's running value is the first name of its pass
abbrev pub in_progress : Loop → ℤ → List ℕ
in_progress mapping c = cell_of c ∷ []
in_progress filtering c = cell_of c ∷ []
in_progress reducing c = []
in_progress rewriting c = cell_of c ∷ []

-- names bound to values in turn
abbrev pub binding : List ℕ → List ℤ → Frame → Frame
binding [] ws ρ = ρ
binding (x ∷ xs) ws ρ = binding xs (later_parts ws) (updated ρ x (argument ws 0))

-- the depth of the elements that a loop's result has
abbrev pub element_depth : NameDepths → ℕ → ℕ
element_depth Γ x = pred (Γ x)

module _ (callee : Callee) (B : Borrowing) (Γ : NameDepths) where
  unfoldable mutual
    -- a tree, after which L is live
    pub work : Tree → Set → List ℕ → Frame → Work ℤ
    work (end a) L R ρ = give (word ρ a)
    work (line l t) L R ρ = do ρ' ← work_line l (live t L) R ρ; work t L R ρ'

    -- a line, after which A is live: the frame with the name that it binds
    pub work_line : Line → Set → List ℕ → Frame → Work Frame
    work_line (leaf x l us) A R ρ = do
      step
      let C = among (leaf_reads B l us) (A ∖ x)
      w ← work_leaf callee (R ++ held Γ (among us (A ∖ x)) ρ) (R ++ held Γ C ρ) (depth_of Γ us 1) l (map (word ρ) us)
      give (updated ρ x w)
    work_line (if_else x g t e) A R ρ = do
      step
      require (is_answer (word ρ g)) 28
      let L = after_branch x A
      w ← cond (is_zero (word ρ g)) (work e L R ρ) (work t L R ρ)
      give (updated ρ x w)
    work_line (loop x k ps us t) A R ρ = do
      step
      let L = after_pass x ps t A
      let R' = R ++ held Γ (among (loop_array k us) L) ρ
      let a = looped_over k (map (word ρ) us)
      ws ← elements_of a
      c ← carried_first k R' (element_depth Γ x) (map (word ρ) us)
      w ← passes (work_pass k (element_depth Γ x) (λ vs. work t L (R' ++ in_progress k c) (binding ps vs ρ)) a)
          c (tabulate 0 (length ws) (λ i. i))
      loop_ends k a w
      give (updated ρ x w)
    work_line (retain x) A R ρ = do retain_word (ρ x); give ρ
    work_line (release x) A R ρ = do release_word (ρ x); give ρ

-- ---- calls and the delivery

-- a function's annotated tree, with the names of its parameters and the depths of all its names
pub record Routine : Type 0 where
  pub names : List ℕ
  pub tree : Tree
  pub depths : NameDepths

-- a script's parameters are 0, 1, ..
abbrev pub first_names : List Parameter → List ℕ
first_names xs = tabulate 0 (length xs) (λ i. i)

-- the routines of some functions of a script, the first of which has number f
unfoldable pub routines_from : Style → Script → Table → ℕ → List Function → List Routine
routines_from style fs T f [] = []
routines_from style fs T f (g ∷ gs) =
    record { names = first_names g.parameters; tree = annotated_in style fs T f g; depths = depths_of fs g }
    ∷ routines_from style fs T (suc f) gs

abbrev pub no_routine : Routine
no_routine = record { names = []; tree = end (number (pos 0)); depths = λ _. 0 }

-- What is worked: the routines by their numbers, the depths of their parameters and results, the places that they
-- borrow, and the totals' depth.
pub record Program : Type 0 where
  pub routines : List Routine
  pub signatures : ℕ → Signature
  pub borrowing : Borrowing
  pub depth : ℕ

unfoldable pub program_in : Style → Script → Program
program_in style fs =
    let T = borrowed fs in
    record {
      routines = routines_from style fs T 0 fs;
      signatures = signatures_of fs;
      borrowing = borrows T;
      depth = main_depth fs;
    }

abbrev pub program : Script → Program
program = program_in full_style

-- the routine of a number
abbrev pub routine_of : Program → ℕ → Routine
routine_of p f = get_or p.routines f no_routine

-- the arguments are the words of the parameters' names
unfoldable pub framed : List ℕ → List ℤ → Frame
framed [] ws = λ _. pos 0
framed (x ∷ xs) [] = λ _. pos 0
framed (x ∷ xs) (w ∷ ws) = updated (framed xs ws) x w

-- a call, with some call depth left
unfoldable pub machine : Program → ℕ → Callee
machine p zero R f ws = halt 22
machine p (suc n) R f ws =
    let r = routine_of p f in
    work (machine p n) p.borrowing r.depths r.tree empty R (framed r.names ws)

-- The readings' cell, the totals retained, main, the result in the totals' place, the old totals released
unfoldable pub delivery : Program → List ℤ → Work (Unit {0})
delivery p readings s =
    let old = s.store.totals in
    let d = p.depth in
    let R = named_by d (old ∷ []) in
    (do
      c ← acquire R 0 readings
      if_array d (retain_word old)
      w ← machine p 32 R 0 (old ∷ c ∷ [])
      (λ s. done tt (with_store s (with_totals s.store w) []))
      if_array d (release_word old)) s

unfoldable pub starting : ℕ → Store → State
starting budget σ = record { left = budget; store = σ; log = []; roots = [] }

-- what a delivery shows: its number, the least number of free cells over it, its steps, and the store after it
pub record Delivered : Type 0 where
  pub number : ℕ
  pub lowest : ℕ
  pub steps : ℕ
  pub store : Store

-- over a run from the store σ to a state, the free cells before the readings' cell was taken included
abbrev pub lowest_level : Store → State → ℕ
lowest_level σ s = lowest_over s.log (free_cells σ)

abbrev pub delivered_by : {A : Type 0} → ℕ → Store → Outcome State A → Delivered
delivered_by budget σ (done a s) =
    record { number = 0; lowest = lowest_level σ s; steps = budget - s.left; store = s.store }
delivered_by budget σ (stop n s) =
    record { number = n; lowest = lowest_level σ s; steps = budget - s.left; store = relinked σ }

unfoldable pub delivered : Program → List ℤ → ℕ → Store → Delivered
delivered p readings budget σ = delivered_by budget σ (delivery p readings (starting budget σ))

abbrev pub state_of : {A : Type 0} → Outcome State A → State
state_of (done a s) = s
state_of (stop n s) = s
