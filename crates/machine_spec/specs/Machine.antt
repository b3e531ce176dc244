-- The machine over positions of the code: structural on the lines left, the call depth left and the passes.
use Rattle.std.specs.Prelude.{◌≡◌, Bool, true, false, cond, List, map, ℕ, zero, suc, ◌+◌, ◌≤◌, ℤ, pos, eqb, get_or, length}
use Rattle.semantics.specs.Number.{is_answer}
use Rattle.semantics.specs.Kinds.{Loop}
use Rattle.semantics.specs.Machine.{looped_over}
use Rattle.semantics.specs.Store.{cell, cell_of, elements}
use Rattle.semantics.specs.Words.{store_of}
use Rattle.machine_code.specs.Reading.{name_at, line_at, two_rows, start_in, end_in}
use Rattle.kinds.specs.declared.Atom.{Atom}
use Rattle.machine_code.specs.declared.Line.{Line}
use Rattle.machine_code.specs.declared.Line.TheVariants as L
use Rattle.machine_frames.specs.Work.{Out}
use Rattle.machine_frames.specs.Frames.{place, word_of, arguments_within, called, element_depth, branch_start}
use Rattle.machine_frames.specs.Frames.{branch_end}
use Rattle.machine_frames.specs.Work.{no_line, Memory, memory, Ran, ran, out, halted, goes_on, stepping}
use Rattle.machine_lines.specs.Lines.{array_of, Doing, giving, changing, ending, calling, branching, looping, doing}
use Rattle.machine_lines.specs.Lines.{leaf_done}
use Rattle.machine_loops.specs.declared.Way.{Way}
use Rattle.machine_loops.specs.Loops.{way_of, carry_first, begun_frames, is_taken, carried_word, carried_store}
use Rattle.machine_loops.specs.Loops.{loop_ended}

-- the two code arrays, and the table of the functions and of the positions after trees
pub record Code : Type 0 where
  pub kinds : List ℕ
  pub operands : List ℤ
  pub table : List ℕ

abbrev pub code : List ℕ → List ℤ → List ℕ → Code
code kinds operands table = record { kinds = kinds; operands = operands; table = table }

-- how many parameters function f has, by its own line
abbrev pub parameters_in : Code → ℕ → ℕ
parameters_in c f = name_at c.operands (start_in c.table f)

-- where the lines of its parameters begin, and behind them its tree
abbrev pub names_in : Code → ℕ → ℕ
names_in c f = start_in c.table f + 1

abbrev pub tree_in : Code → ℕ → ℕ
tree_in c f = names_in c f + parameters_in c f

-- a tree worked, by its position and the steps left
abbrev pub Work : Type 0
Work = ℕ → ℕ → Memory → Ran

-- a call, by the function's number, its arguments and the steps left
abbrev pub Callee : Type 0
Callee = ℕ → List ℤ → ℕ → Memory → Ran

-- what follows work that was not stopped
abbrev pub and_then : Ran → (Ran → Ran) → Ran
and_then w f = cond (eqb w.out.stop 0) (f w) w

-- the word that work gave, bound to a name
abbrev pub binding : ℕ → ℕ → ℕ → Ran → Ran
binding calls x next w = goes_on calls x w.out.value next w.out.steps w.memory

-- ---- lines that work a tree

-- one tree of an if, by the word of its guard
abbrev pub branch_worked : Work → List ℕ → ℕ → ℕ → ℕ → ℕ → Memory → ℤ → Ran
branch_worked W table calls x at s m guard =
    and_then (W (branch_start table guard (at + 2)) s m)
    (λ w. binding calls x (branch_end table guard w.out.next) w)

-- a guard that is no answer stops
abbrev pub if_worked : Work → List ℕ → ℕ → ℕ → ℕ → ℕ → Memory → ℤ → Ran
if_worked W table calls x at s m guard =
    cond (is_answer guard) (branch_worked W table calls x at s m guard) (halted 28 s m)

unfoldable pub if_line : Work → List ℕ → ℕ → ℕ → Atom → ℕ → ℕ → Memory → Ran
if_line W table calls x g at steps m = stepping steps (halted 21 0 m)
    (λ s. if_worked W table calls x at s m (word_of calls m.env g))

-- with as many words of atoms as the function has parameters
abbrev pub call_worked : Callee → Code → ℕ → ℕ → ℕ → ℕ → ℕ → Memory → ℕ → Ran
call_worked C c calls x f at s m n =
    and_then (C f (arguments_within n (names_in c f) c.kinds c.operands calls m.env (at + 1)) s m)
    (λ w. binding calls x (at + 1 + n) w)

unfoldable pub call_line : Callee → Code → ℕ → ℕ → ℕ → ℕ → ℕ → Memory → Ran
call_line C c calls x f at steps m = stepping steps (halted 21 0 m)
    (λ s. call_worked C c calls x f at s m (parameters_in c f))

-- ---- passes: what is carried from one to the next is a word

-- What stays the same in all passes of a loop: what a pass does with the word that its tree gives, the tree, the call's
-- depth left, the names of the running value and of the element, and the cell that it goes over. A loop without a
-- running value has the element's name twice.
pub record Looped : Type 0 where
  pub way : Way
  pub body : ℕ → Memory → Ran
  pub calls : ℕ
  pub first : ℕ
  pub second : ℕ
  pub from : ℕ

abbrev pub looped : Way → (ℕ → Memory → Ran) → ℕ → ℕ → ℕ → ℕ → Looped
looped way W calls p q from =
    record { way = way; body = W; calls = calls; first = p; second = q; from = from }

-- the frames at the beginning of pass i, into which v is carried
abbrev pub entered : Looped → ℤ → ℕ → Memory → List ℤ
entered l v i m = begun_frames l.calls l.first l.second v
    (get_or (elements (cell m.store l.from)) i (pos 0)) m.env

-- what pass i, over e, carries on, by what was carried into it and how its tree ended
abbrev pub carried : Way → ℤ → ℕ → ℤ → Ran → Ran
carried way v i e w = ran (out 0 (carried_word way v w.out.value) 0 w.out.steps)
    (memory (carried_store way (cell_of v) i e w.out.value w.memory.store) w.memory.env)

-- a word that it does not take stops
abbrev pub carry_by : Way → ℤ → ℕ → ℤ → Ran → Ran
carry_by way v i e w =
    cond (is_taken way w.out.value) (carried way v i e w) (halted 28 w.out.steps w.memory)

-- the element is that of the pass's first name: where a way asks for it, both names are the element's
abbrev pub carry_on : Looped → ℤ → ℕ → Ran → Ran
carry_on l v i w = carry_by l.way v i (get_or w.memory.env (place l.calls l.first) (pos 0)) w

-- n passes from the i-th on
unfoldable pub passes_on : Looped → ℕ → ℤ → ℕ → ℕ → Memory → Ran
passes_on l zero v i s m = ran (out 0 v 0 s) m
passes_on l (suc n) v i zero m = halted 21 0 m
passes_on l (suc n) v i (suc s) m =
    and_then (l.body s (memory m.store (entered l v i m)))
    (λ w. and_then (carry_on l v i w)
    (λ u. passes_on l n u.out.value (i + 1) u.out.steps u.memory))

-- what the passes over a cell gave, bound to a name, with the code going on at a position
abbrev pub binding_passed : Way → ℕ → ℕ → ℕ → ℕ → Ran → Ran
binding_passed way from calls x next w = binding calls x next (ran w.out (loop_ended way from w.memory))

-- the passes over an array, into the first of which a word is carried, and what follows them
abbrev pub passes_worked : Work → Code → ℕ → ℕ → Way → ℕ → ℕ → ℕ → ℕ → ℕ → Ran → Ran
passes_worked W c calls x way p q at from n v =
    and_then (passes_on (looped way (W at) calls p q from) n v.out.value 0 v.out.steps v.memory)
    (λ w. binding_passed way from calls x (end_in c.table at) w)

-- a loop's line, whose tree is at a position, by the words of its atoms
abbrev pub loop_worked : Work → Code → ℕ → ℕ → Loop → ℕ → ℕ → ℕ → ℕ → Memory → List ℤ → Ran
loop_worked W c calls x k p q at s m ws =
    let d = element_depth c.table calls x m.env in
    let a = looped_over k ws in
    and_then (carry_first k d ws s m)
    (λ v. passes_worked W c calls x (way_of k d (cell_of a) v.out.value) p q at (cell_of a)
    (length (array_of m.store a)) v)

unfoldable pub loop_line : Work → Code → ℕ → ℕ → Loop → ℕ → ℕ → List Atom → ℕ → ℕ → Memory → Ran
loop_line W c calls x k p q us at steps m = stepping steps (halted 21 0 m)
    (λ s. loop_worked W c calls x k p q (at + suc (length us)) s m (map (word_of calls m.env) us))

-- a line that stands at a position: W works its trees, C its calls
unfoldable pub line_done : Work → Callee → Code → ℕ → ℕ → ℕ → Memory → Doing → Ran
line_done W C c calls at s m (giving x next m' g) = leaf_done calls at s m (giving x next m' g)
line_done W C c calls at s m (changing m') = leaf_done calls at s m (changing m')
line_done W C c calls at s m (ending a) = leaf_done calls at s m (ending a)
line_done W C c calls at s m (calling x g) = call_line C c calls x g at s m
line_done W C c calls at s m (branching x g) = if_line W c.table calls x g at s m
line_done W C c calls at s m (looping x k p q us) = loop_line W c calls x k p q us at s m

unfoldable pub line_on : Work → Callee → Code → ℕ → ℕ → ℕ → Memory → Line → Ran
line_on W C c calls at s m l =
    line_done W C c calls at s m (doing c.kinds c.operands c.table calls at m l)

-- ---- trees and calls

abbrev pub is_end : Line → Bool
is_end (L.Operation kind x a b) = false
is_end (L.Call x g) = false
is_end (L.Literal x d) = false
is_end (L.Index x a b) = false
is_end (L.Length x a) = false
is_end (L.If x g) = false
is_end (L.Iota x a) = false
is_end (L.Replicate x a b) = false
is_end (L.Loop x k) = false
is_end (L.Retain x) = false
is_end (L.Release x) = false
is_end (L.End a) = true

-- the word that an end line gives
abbrev pub end_word : ℕ → List ℤ → Line → ℤ
end_word calls env (L.Operation kind x a b) = pos 0
end_word calls env (L.Call x g) = pos 0
end_word calls env (L.Literal x d) = pos 0
end_word calls env (L.Index x a b) = pos 0
end_word calls env (L.Length x a) = pos 0
end_word calls env (L.If x g) = pos 0
end_word calls env (L.Iota x a) = pos 0
end_word calls env (L.Replicate x a b) = pos 0
end_word calls env (L.Loop x k) = pos 0
end_word calls env (L.Retain x) = pos 0
end_word calls env (L.Release x) = pos 0
end_word calls env (L.End a) = word_of calls env a

-- a line of a tree, and then K works what follows it
unfoldable pub tree_from : Work → Callee → Code → ℕ → ℕ → ℕ → Memory → Line → Ran
tree_from W C c calls at s m l =
    cond (is_end l) (ran (out 0 (end_word calls m.env l) (at + 2) s) m)
    (and_then (line_on W C c calls at s m l) (λ w. W w.out.next w.out.steps w.memory))

-- the tree at a position, with so many lines left
unfoldable pub tree_on : ℕ → Callee → Code → ℕ → Work
tree_on zero C c calls at s m = halted no_line s m
tree_on (suc n) C c calls at s m =
    cond (two_rows c.kinds c.operands at)
    (tree_from (tree_on n C c calls) C c calls at s m (line_at c.kinds c.operands at))
    (halted no_line s m)

-- a call, with some call depth left
unfoldable pub call_on : ℕ → Code → Callee
call_on zero c f ws s m = halted 22 s m
call_on (suc n) c f ws s m =
    tree_on 4096 (call_on n c) c n (tree_in c f) s
    (memory m.store (called c.operands n (names_in c f) f ws m.env))

-- ---- what a worker promises: the answer and every word, and no more steps left than it was given

pub record Ended (w : Ran) (steps : ℕ) (r : Out) (slots : List ℤ) (heads : List ℕ) (env : List ℤ) : Type 0 where
  pub is : ran r (memory (store_of slots heads) env) ≡ w
  pub fewer : r.steps ≤ steps
