-- No work changes how many words the frames have.
use Rattle.std.specs.Prelude.{◌≡◌, Bool, true, false, cond, ℤ, pos, eqb, set}
use Rattle.std.proofs.Math.Path.{refl}
use Rattle.std.proofs.Common.{sym, ap, ◌∙◌}
use mathlib.Core.List.{List, [], ◌∷◌, map}
use Prim.Native.Nat.{ℕ, zero, suc, ◌+◌}
use Rattle.std.proofs.Math.ListN.{length, length-set}
use Rattle.semantics.specs.Outcome.{done, stop}
use Rattle.semantics.specs.Number.{is_answer}
use Rattle.semantics.specs.Kinds.{Loop, mapping, filtering, reducing, rewriting}
use Rattle.semantics.specs.Machine.{argument, looped_over}
use Rattle.semantics.specs.Store.{cell_of}
use Rattle.machine_code.specs.Reading.{name_at, line_at, two_rows, end_in}
use Rattle.kinds.specs.declared.Atom.{Atom}
use Rattle.machine_code.specs.declared.Line.{Line}
use Rattle.machine_code.specs.declared.Line.TheVariants as L
use Rattle.machine_frames.specs.Work.{Out}
use Rattle.machine_frames.specs.Frames.{place, function_place, word_of, arguments_within, put_named, called}
use Rattle.machine_frames.specs.Frames.{element_depth, branch_start, branch_end, level_place, lowest_place, levelled}
use Rattle.machine_frames.specs.Work.{Memory, memory, Ran, bound, with_store, stepping}
use Rattle.machine_frames.proofs.Levels.{raised_long}
use Rattle.machine_lines.specs.Lines.{Given, given, array_of, acquired_given, Doing, giving, changing, ending, calling}
use Rattle.machine_lines.specs.Lines.{branching, looping, doing, giving_line, leaf_done, cell_from, gave}
use Rattle.machine_lines.specs.Lines.{acquired_memory}
use Rattle.machine_lines.proofs.Levels.{noted_by_long, array_long}
use Rattle.machine_loops.specs.declared.Way.{Way}
use Rattle.machine_loops.specs.declared.Passes.{Passes}
use Rattle.machine_loops.specs.Loops.{way_of, is_alone, carry_first, is_taken, loop_ended, Readied}
use Rattle.machine_loops.proofs.Ending.{ended_long}
use Rattle.machine_spec.specs.Machine.{Work, Callee, Code, and_then, binding, if_line, call_line, looped}
use Rattle.machine_spec.specs.Machine.{entered, carry_on, passes_on, binding_passed, passes_worked}
use Rattle.machine_spec.specs.Machine.{loop_line}
use Rattle.machine_spec.specs.Machine.{line_done, line_on, is_end, tree_from, tree_on, call_on, Ended}
use Rattle.machine_spec.specs.Machine.{parameters_in, names_in, tree_in}

-- work that began on a memory left as many words of frames
abbrev pub Keeps : Memory → Ran → Type 0
Keeps m w = length w.memory.env ≡ length m.env

module _ (operands : List ℤ) (calls : ℕ) where
  pub put_keeps : (ws : List ℤ) (names : ℕ) (env : List ℤ) →
      length (put_named operands calls ws names env) ≡ length env
  unfolding put_named
  put_keeps [] names env = refl
  put_keeps (w ∷ ws) names env =
      put_keeps ws (names + 1) _ ∙ length-set env (place calls (name_at operands names)) w

  pub called_keeps : (names f : ℕ) (ws env : List ℤ) → length (called operands calls names f ws env) ≡ length env
  called_keeps names f ws env =
      length-set (put_named operands calls ws names env) (function_place calls) (pos f) ∙ put_keeps ws names env

  pub passed_long : (ws : List ℤ) (names : ℕ) (env : List ℤ) {env' : List ℤ} →
      env' ≡ put_named operands calls ws names env → length env' ≡ length env
  passed_long ws names env e = ap length e ∙ put_keeps ws names env

pub bound_long : (env : List ℤ) (p : ℕ) (w : ℤ) {env' : List ℤ} → env' ≡ set env p w → length env' ≡ length env
bound_long env p w e = ap length e ∙ length-set env p w

pub levelled_keeps : (n : ℕ) (env : List ℤ) → length (levelled n env) ≡ length env
levelled_keeps n env =
    length-set (set env level_place (pos n)) lowest_place (pos n) ∙ length-set env level_place (pos n)

either : (m : Memory) (v w : Ran) → Keeps m v → Keeps m w → (t : Bool) → Keeps m (cond t v w)
either m v w p q true = p
either m v w p q false = q

then_keeps : (m : Memory) (w : Ran) (f : Ran → Ran) → Keeps m w → ((v : Ran) → Keeps m v → Keeps m (f v)) →
    Keeps m (and_then w f)
then_keeps m w f k g = either m (f w) w (g w k) k (eqb w.out.stop 0)

-- ---- lines

given_keeps : (calls x next s : ℕ) (m : Memory) (g : Given) → Keeps m (with_store m.store (given calls x next s
    m.env g))
given_keeps calls x next s m (done w u) = length-set m.env (place calls x) w
given_keeps calls x next s m (stop n u) = refl

-- what a leaf leaves has as many words
abbrev Steady : Memory → Doing → Type 0
Steady m (giving x next m' g) = length m'.env ≡ length m.env
Steady m (changing m') = length m'.env ≡ length m.env
Steady m (ending a) = Unit {0}
Steady m (calling x f) = Unit {0}
Steady m (branching x g) = Unit {0}
Steady m (looping x k p q us) = Unit {0}

leaf_keeps : (calls at s : ℕ) (m : Memory) (d : Doing) → Steady m d → Keeps m (leaf_done calls at s m d)
unfolding leaf_done giving_line stepping
leaf_keeps calls at zero m (giving x next m' g) h = refl
leaf_keeps calls at (suc s) m (giving x next m' g) h = given_keeps calls x next s m' g ∙ h
leaf_keeps calls at s m (changing m') h = h
leaf_keeps calls at s m (ending a) h = refl
leaf_keeps calls at s m (calling x f) h = refl
leaf_keeps calls at s m (branching x g) h = refl
leaf_keeps calls at s m (looping x k p q us) h = refl

doing_steady : (kinds : List ℕ) (operands : List ℤ) (table : List ℕ) (calls at : ℕ) (m : Memory) (l : Line) →
    Steady m (doing kinds operands table calls at m l)
unfolding doing
doing_steady kinds operands table calls at m (L.Operation kind x a b) = refl
doing_steady kinds operands table calls at m (L.Call x f) = tt
doing_steady kinds operands table calls at m (L.Literal x d) = noted_by_long (cell_from m) m.env
doing_steady kinds operands table calls at m (L.Index x a b) = refl
doing_steady kinds operands table calls at m (L.Length x a) = refl
doing_steady kinds operands table calls at m (L.Iota x a) =
    array_long true (pos 0) 0 (word_of calls m.env a) m
doing_steady kinds operands table calls at m (L.Replicate x a b) =
    array_long false (word_of calls m.env b) (element_depth table calls x m.env) (word_of calls m.env a) m
doing_steady kinds operands table calls at m (L.If x g) = tt
doing_steady kinds operands table calls at m (L.Loop x l) = tt
doing_steady kinds operands table calls at m (L.Retain x) = refl
doing_steady kinds operands table calls at m (L.Release x) = raised_long _ m.env
doing_steady kinds operands table calls at m (L.End a) = tt

-- ---- trees and calls

pub entered_keeps : (calls p q : ℕ) (v w : ℤ) (env : List ℤ) →
    length (bound calls q w (bound calls p v env)) ≡ length env
entered_keeps calls p q v w env =
    length-set (bound calls p v env) (place calls q) w ∙ length-set env (place calls p) v

gave_keeps : (s : ℕ) (m : Memory) (g : Given) → Keeps m (gave s m g)
gave_keeps s m (done w u) = refl
gave_keeps s m (stop n u) = refl

carry_first_keeps : (k : Loop) (d : ℕ) (ws : List ℤ) (s : ℕ) (m : Memory) → Keeps m (carry_first k d ws s m)
carry_first_keeps mapping d ws s m =
    gave_keeps s (acquired_memory d [] m) (acquired_given (cell_from m)) ∙ noted_by_long (cell_from m) m.env
carry_first_keeps filtering d ws s m =
    gave_keeps s (acquired_memory d [] m) (acquired_given (cell_from m)) ∙ noted_by_long (cell_from m) m.env
carry_first_keeps reducing d ws s m = refl
carry_first_keeps rewriting d ws s m = either m _ _ refl
    (gave_keeps s (acquired_memory d [] m) (acquired_given (cell_from m)) ∙ noted_by_long (cell_from m) m.env)
    (is_alone m.store (argument ws 0))

-- the frames with which the passes of a loop begin
pub readied_long : {k : Loop} {p q d : ℕ} {ws : List ℤ} {m : Memory} {slots : List ℤ} {heads : List ℕ} {env : List ℤ}
    {l : Passes} → Readied k p q d ws m slots heads env l → length env ≡ length m.env
readied_long {k} {p} {q} {d} {ws} {m} r =
    ap (λ (w : Ran). length w.memory.env) (sym (r.carried 0)) ∙ carry_first_keeps k d ws 0 m

module _ (W : Work) (w : (at s : ℕ) (m : Memory) → Keeps m (W at s m)) where
  if_keeps : (table : List ℕ) (calls x : ℕ) (g : Atom) (at s : ℕ) (m : Memory) →
      Keeps m (if_line W table calls x g at s m)
  unfolding if_line stepping
  if_keeps table calls x g at zero m = refl
  if_keeps table calls x g at (suc s) m = let guard = word_of calls m.env g in
      let start = branch_start table guard (at + 2) in
      either m _ _
      (then_keeps m (W start s m) (λ v. binding calls x (branch_end table guard v.out.next) v) (w start s m)
      (λ v k. length-set v.memory.env (place calls x) v.out.value ∙ k)) refl (is_answer guard)

  passes_keeps : (way : Way) (at calls p q from n : ℕ) (v : ℤ) (i s : ℕ) (m : Memory) →
      Keeps m (passes_on (looped way (W at) calls p q from) n v i s m)
  unfolding passes_on
  passes_keeps way at calls p q from zero v i s m = refl
  passes_keeps way at calls p q from (suc n) v i zero m = refl
  passes_keeps way at calls p q from (suc n) v i (suc s) m =
      let l = looped way (W at) calls p q from in
      let m₁ = memory m.store (entered l v i m) in
      let rest : Ran → Ran = λ u. passes_on l n u.out.value (i + 1) u.out.steps u.memory in
      then_keeps m (W at s m₁) (λ w. and_then (carry_on l v i w) rest)
      (w at s m₁ ∙ entered_keeps calls p q v _ m.env)
      (λ u e. then_keeps m (carry_on l v i u) rest (either m _ _ e e (is_taken way u.out.value))
      (λ y g. passes_keeps way at calls p q from n y.out.value (i + 1) y.out.steps y.memory ∙ g))

  loop_keeps : (c : Code) (calls x : ℕ) (k : Loop) (p q : ℕ) (us : List Atom) (at s : ℕ) (m : Memory) →
      Keeps m (loop_line W c calls x k p q us at s m)
  unfolding loop_line stepping
  loop_keeps c calls x k p q us at zero m = refl
  loop_keeps c calls x k p q us at (suc s) m =
      let d = element_depth c.table calls x m.env in
      let ws = map (word_of calls m.env) us in
      let here = at + suc (length us) in
      let from = cell_of (looped_over k ws) in
      let n = length (array_of m.store (looped_over k ws)) in
      let way : Ran → Way = λ v. way_of k d from v.out.value in
      then_keeps m (carry_first k d ws s m) (λ v. passes_worked W c calls x (way v) p q here from n v)
      (carry_first_keeps k d ws s m)
      (λ v e. then_keeps m
      (passes_on (looped (way v) (W here) calls p q from) n v.out.value 0 v.out.steps v.memory)
      (λ w. binding_passed (way v) from calls x (end_in c.table here) w)
      (passes_keeps (way v) here calls p q from n v.out.value 0 v.out.steps v.memory ∙ e)
      (λ y g. length-set (loop_ended (way v) from y.memory).env (place calls x) y.out.value
      ∙ ended_long (way v) from y.memory ∙ g))

  module _ (C : Callee) (h : (f : ℕ) (ws : List ℤ) (s : ℕ) (m : Memory) → Keeps m (C f ws s m)) (c : Code) where
    call_keeps : (calls x f at s : ℕ) (m : Memory) → Keeps m (call_line C c calls x f at s m)
    unfolding call_line stepping
    call_keeps calls x f at zero m = refl
    call_keeps calls x f at (suc s) m =
        let n = parameters_in c f in
        let ws = arguments_within n (names_in c f) c.kinds c.operands calls m.env (at + 1) in
        then_keeps m (C f ws s m) (λ v. binding calls x (at + 1 + n) v) (h f ws s m)
        (λ v k. length-set v.memory.env (place calls x) v.out.value ∙ k)

    done_keeps : (calls at s : ℕ) (m : Memory) (d : Doing) → Steady m d → Keeps m (line_done W C c calls at s m d)
    unfolding line_done
    done_keeps calls at s m (giving x next m' g) h = leaf_keeps calls at s m (giving x next m' g) h
    done_keeps calls at s m (changing m') h = leaf_keeps calls at s m (changing m') h
    done_keeps calls at s m (ending a) h = leaf_keeps calls at s m (ending a) h
    done_keeps calls at s m (calling x g) h = call_keeps calls x g at s m
    done_keeps calls at s m (branching x g) h = if_keeps c.table calls x g at s m
    done_keeps calls at s m (looping x k p q us) h = loop_keeps c calls x k p q us at s m

    line_keeps : (calls at s : ℕ) (m : Memory) (l : Line) → Keeps m (line_on W C c calls at s m l)
    unfolding line_on
    line_keeps calls at s m l = done_keeps calls at s m (doing c.kinds c.operands c.table calls at m l)
        (doing_steady c.kinds c.operands c.table calls at m l)

    from_keeps : (calls at s : ℕ) (m : Memory) (l : Line) → Keeps m (tree_from W C c calls at s m l)
    unfolding tree_from
    from_keeps calls at s m l = either m _ _ refl
        (then_keeps m (line_on W C c calls at s m l) (λ v. W v.out.next v.out.steps v.memory)
        (line_keeps calls at s m l)
        (λ v k. w v.out.next v.out.steps v.memory ∙ k)) (is_end l)

-- every call keeps
abbrev Calling : Callee → Type 0
Calling C = (f : ℕ) (ws : List ℤ) (s : ℕ) (m : Memory) → Keeps m (C f ws s m)

tree_keeps : (n : ℕ) (C : Callee) → Calling C → (c : Code) (calls at s : ℕ) (m : Memory) →
    Keeps m (tree_on n C c calls at s m)
unfolding tree_on
tree_keeps zero C h c calls at s m = refl
tree_keeps (suc n) C h c calls at s m = either m _ _
    (from_keeps (tree_on n C c calls) (λ at s m. tree_keeps n C h c calls at s m) C h c calls at s m
    (line_at c.kinds c.operands at)) refl (two_rows c.kinds c.operands at)

call_on_keeps : (n : ℕ) (c : Code) → Calling (call_on n c)
unfolding call_on
call_on_keeps zero c f ws s m = refl
call_on_keeps (suc n) c f ws s m = tree_keeps 4096 (call_on n c) (λ f ws s m. call_on_keeps n c f ws s m) c n
    (tree_in c f) s (memory m.store (called c.operands n (names_in c f) f ws m.env))
    ∙ called_keeps c.operands n (names_in c f) f ws m.env

-- ---- what the workers leave

worked_long : {w : Ran} {steps : ℕ} {r : Out} {slots : List ℤ} {heads : List ℕ} {env : List ℤ} (m : Memory) →
    Keeps m w → Ended w steps r slots heads env → length env ≡ length m.env
worked_long m k e = ap (λ (w : Ran). length w.memory.env) e.is ∙ k

module _ (c : Code) (lines calls : ℕ) {r : Out} {slots : List ℤ} {heads : List ℕ} {env : List ℤ} where
  pub tree_long : (at s : ℕ) (m : Memory) {steps : ℕ} →
      Ended (tree_on lines (call_on calls c) c calls at s m) steps r slots heads env → length env ≡ length m.env
  tree_long at s m e = worked_long m (tree_keeps lines (call_on calls c) (call_on_keeps calls c) c calls at s m) e

  pub line_long : (at s : ℕ) (m : Memory) (l : Line) {steps : ℕ} →
      Ended (line_on (tree_on lines (call_on calls c) c calls) (call_on calls c) c calls at s m l) steps r slots
      heads env → length env ≡ length m.env
  line_long at s m l e = worked_long m (line_keeps (tree_on lines (call_on calls c) c calls)
      (tree_keeps lines (call_on calls c) (call_on_keeps calls c) c calls) (call_on calls c) (call_on_keeps calls c)
      c calls at s m l) e

  pub passes_long : (way : Way) (at p q from n : ℕ) (v : ℤ) (i s : ℕ) (m : Memory) {steps : ℕ} →
      Ended (passes_on (looped way (tree_on lines (call_on calls c) c calls at) calls p q from) n v i s m) steps r
      slots heads env → length env ≡ length m.env
  passes_long way at p q from n v i s m e = worked_long m (passes_keeps (tree_on lines (call_on calls c) c calls)
      (tree_keeps lines (call_on calls c) (call_on_keeps calls c) c calls) way at calls p q from n v i s m) e
