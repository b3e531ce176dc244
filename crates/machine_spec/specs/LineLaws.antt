-- Laws of the lines that work a tree: one for each way out of the code.
use Rattle.std.specs.Prelude.{◌≡◌, Bool, true, false, None, ℕ, suc, ◌+◌, ◌-◌, ℤ, pos, eqb, length}
use Rattle.std.proofs.Math.Path.{refl, sym, ap}
use Rattle.std.proofs.Common.{ap₂, subst, ◌∙◌, arith}
use Rattle.std.proofs.Math.Bool.{cond}
use mathlib.Core.List.{List, [], ◌∷◌, map}
use Rattle.std.proofs.Math.ListN.{set}
use denote.Enum.Declared.{tag_of}
use types.Run.{OneOf, miss}
use Rattle.semantics.specs.Number.{is_answer}
use Rattle.semantics.specs.Kinds.{Loop}
use Rattle.semantics.specs.Machine.{looped_over}
use Rattle.semantics.specs.Store.{cell_of}
use Rattle.semantics.specs.Words.{store_of}
use Rattle.machine_code.specs.Reading.{name_at, start_in, end_in}
use Rattle.kinds.specs.declared.Atom.{Atom}
use Rattle.machine_code.specs.declared.Loop as P
use Rattle.machine_code.specs.declared.Line.{Line}
use Rattle.machine_code.specs.declared.Line.TheVariants as L
use Rattle.machine_code.specs.contracts.Line.{the_type}
use Rattle.machine_code.proofs.Reading.{less_one}
use Rattle.machine_frames.specs.Work.{Out}
use Rattle.machine_frames.specs.Frames.{place, function_place, word_of, arguments_within, put_named, called}
use Rattle.machine_frames.specs.Frames.{branch_start, branch_end}
use Rattle.machine_frames.specs.Frames.{element_depth}
use Rattle.machine_frames.specs.Work.{Memory, memory, Ran, ran, out, halted, goes_on, stepping, Ends}
use Rattle.machine_lines.specs.Lines.{array_of, Doing, giving, changing, ending, calling, branching, looping, kind_of}
use Rattle.machine_lines.specs.Lines.{first_name, second_name, atoms_of, doing, leaf_done, leaf}
use Rattle.machine_lines.proofs.Lines.{Told, told, leaf_fewer}
use Rattle.machine_loops.specs.declared.Way.{Way}
use Rattle.machine_loops.specs.declared.Passes.{Passes}
use Rattle.machine_loops.specs.Loops.{way_of, carry_first, loop_ended, loop_bound, Readied, Begins}
use Rattle.machine_spec.specs.Machine.{Work, Callee, Code, and_then, binding, branch_worked}
use Rattle.machine_spec.specs.Machine.{if_worked, if_line}
use Rattle.machine_spec.specs.Machine.{call_worked, call_line, looped, passes_on}
use Rattle.machine_spec.specs.Machine.{binding_passed, passes_worked}
use Rattle.machine_spec.specs.Machine.{loop_line, line_done, line_on, tree_on}
use Rattle.machine_spec.specs.Machine.{call_on, Ended, parameters_in}
use Rattle.machine_spec.specs.Parts.{part_stops, part_goes}

-- what a line leaves that binds the word of a part
bound_left : (r : Out) (calls x next next' : ℕ) (sl : List ℤ) (he : List ℕ) (en en' : List ℤ) (q : Out) → next' ≡
    next →
    en' ≡ set en (place calls x) r.value → q ≡ out 0 r.value next' r.steps →
    binding calls x next (ran r (memory (store_of sl he) en)) ≡ ran q (memory (store_of sl he) en')
bound_left r calls x next next' sl he en en' q ne ee qe =
    ap₂ (λ (n : ℕ) (l : List ℤ). ran (out 0 r.value n r.steps) (memory (store_of sl he) l)) (sym ne) (sym ee)
    ∙ ap (λ (y : Out). ran y (memory (store_of sl he) en')) (sym qe)

-- ---- an if

module _ (W : Work) (table : List ℕ) (calls x : ℕ) (g : Atom) (at steps : ℕ) (slots : List ℤ) (heads : List ℕ) (env
    : List ℤ) where
  pub if_spent : (r : Out) → steps ≡ 0 → r ≡ out 21 (pos 0) 0 steps →
      Ended (if_line W table calls x g at steps (memory (store_of slots heads) env)) steps r slots heads env
  unfolding if_line stepping
  if_spent r z e = record { is = rw (e, z); fewer = rw e (omega arith) }

  pub if_doubts : (steps ≡ 0 → ⊥) → (v : ℤ) → v ≡ word_of calls env g → is_answer v ≡ false → (r : Out) →
      r ≡ out 28 (pos 0) 0 (steps - 1) →
      Ended (if_line W table calls x g at steps (memory (store_of slots heads) env)) steps r slots heads env
  unfolding if_line stepping
  if_doubts some v ve doubt r e = record {
    is = ap (λ (y : Out). ran y (memory (store_of slots heads) env)) e ∙ sym (
        ap (λ (n : ℕ). if_line W table calls x g at n (memory (store_of slots heads) env))
        (less_one steps (omega arith))
        ∙ ap (if_worked W table calls x at (steps - 1) (memory (store_of slots heads) env)) (sym ve) ∙ rw doubt);
    fewer = rw e (omega arith);
  }

  module _ (some : steps ≡ 0 → ⊥) (v : ℤ) (ve : v ≡ word_of calls env g) (answer : is_answer v ≡ true) (start : ℕ)
      (se : start ≡ branch_start table v (at + 2)) (r : Out) (sl : List ℤ) (he : List ℕ) (en : List ℤ)
      (done : Ended (W start (steps - 1) (memory (store_of slots heads) env)) (steps - 1) r sl he en) where
    if_part : if_line W table calls x g at steps (memory (store_of slots heads) env)
        ≡ and_then (ran r (memory (store_of sl he) en)) (λ w. binding calls x (branch_end table v w.out.next) w)
    unfolding if_line stepping
    if_part = ap (λ (n : ℕ). if_line W table calls x g at n (memory (store_of slots heads) env)) (less_one steps
        (omega arith))
        ∙ ap (if_worked W table calls x at (steps - 1) (memory (store_of slots heads) env)) (sym ve)
        ∙ ap (λ (b : Bool). cond b (branch_worked W table calls x at (steps - 1) (memory (store_of slots heads) env) v)
        (halted 28 (steps - 1) (memory (store_of slots heads) env))) answer
        ∙ ap (λ (n : ℕ). and_then (W n (steps - 1) (memory (store_of slots heads) env))
        (λ w. binding calls x (branch_end table v w.out.next) w)) (sym se)
        ∙ ap (λ (w : Ran). and_then w (λ w. binding calls x (branch_end table v w.out.next) w)) (sym done.is)

    pub if_stops : (r.stop ≡ 0 → ⊥) →
        Ended (if_line W table calls x g at steps (memory (store_of slots heads) env)) steps r sl he en
    if_stops h = part_stops _ steps r sl he en (λ w. binding calls x (branch_end table v w.out.next) w) if_part
        (omega (arith, done.fewer)) h

    pub if_goes : r.stop ≡ 0 → (next : ℕ) → next ≡ branch_end table v r.next → (en' : List ℤ) →
        en' ≡ set en (place calls x) r.value → (q : Out) → q ≡ out 0 r.value next r.steps →
        Ended (if_line W table calls x g at steps (memory (store_of slots heads) env)) steps q sl he en'
    if_goes h next ne en' ee q qe =
        part_goes _ steps r sl he en (λ w. binding calls x (branch_end table v w.out.next) w) if_part
        (omega (arith, done.fewer)) h q en' (bound_left r calls x _ next sl he en en' q ne ee qe)
        (ap (λ (y : Out). y.steps) qe)

-- ---- a call

module _ (c : Code) (calls x g at steps : ℕ) (slots : List ℤ) (heads : List ℕ) (env : List ℤ) where
  pub call_spent : (r : Out) → steps ≡ 0 → r ≡ out 21 (pos 0) 0 steps →
      Ended (call_line (call_on calls c) c calls x g at steps (memory (store_of slots heads) env)) steps r slots
      heads env
  unfolding call_line stepping
  call_spent r z e = record { is = rw (e, z); fewer = rw e (omega arith) }

  module _ (some : steps ≡ 0 → ⊥) where
    call_is : call_line (call_on calls c) c calls x g at steps (memory (store_of slots heads) env)
        ≡ call_worked (call_on calls c) c calls x g at (steps - 1) (memory (store_of slots heads) env)
        (parameters_in c g)
    unfolding call_line stepping
    call_is = ap (λ (n : ℕ). call_line (call_on calls c) c calls x g at n (memory (store_of slots heads) env))
        (less_one steps (omega arith))

    pub call_deep : calls ≡ 0 → (r : Out) → r ≡ out 22 (pos 0) 0 (steps - 1) →
        Ended (call_line (call_on calls c) c calls x g at steps (memory (store_of slots heads) env)) steps r slots
        heads env
    unfolding call_on
    call_deep z r e = record {
      is = sym (call_is ∙ ap (λ (n : ℕ). call_worked (call_on n c) c calls x g at (steps - 1) (memory (store_of slots
          heads) env) (parameters_in c g)) z
          ∙ ap (λ (y : Out). ran y (memory (store_of slots heads) env)) (sym e));
      fewer = rw e (omega arith);
    }

    -- the function's line is at h, and it has n parameters
    module _ (deep : calls ≡ 0 → ⊥) (h : ℕ) (he₀ : h ≡ start_in c.table g) (n : ℕ)
        (ne : n ≡ name_at c.operands h) (env₁ : List ℤ)
        (passed : env₁ ≡ put_named c.operands (calls - 1)
        (arguments_within n (h + 1) c.kinds c.operands calls env (at + 1)) (h + 1) env)
        (env₂ : List ℤ) (named : env₂ ≡ set env₁ (function_place (calls - 1)) (pos g)) (r : Out) (sl : List ℤ)
        (he : List ℕ) (en : List ℤ)
        (done : Ended (tree_on 4096 (call_on (calls - 1) c) c (calls - 1) (h + 1 + n) (steps - 1)
        (memory (store_of slots heads) env₂)) (steps - 1) r sl he en) where
      -- the callee's tree from its line and its number of parameters, and what follows it
      abbrev called_at : ℕ → ℕ → Ran
      called_at k l = and_then
          (tree_on 4096 (call_on (calls - 1) c) c (calls - 1) (k + 1 + l) (steps - 1)
          (memory (store_of slots heads) (called c.operands (calls - 1) (k + 1) g
          (arguments_within l (k + 1) c.kinds c.operands calls env (at + 1)) env)))
          (λ w. binding calls x (at + 1 + l) w)

      call_part : call_line (call_on calls c) c calls x g at steps (memory (store_of slots heads) env)
          ≡ and_then (ran r (memory (store_of sl he) en)) (λ w. binding calls x (at + 1 + n) w)
      unfolding call_on
      call_part = call_is
          ∙ ap (λ (k : ℕ). call_worked (call_on k c) c calls x g at (steps - 1) (memory (store_of slots heads) env)
          (parameters_in c g)) (less_one calls (omega arith))
          ∙ ap (λ (k : ℕ). called_at k (name_at c.operands k)) (sym he₀) ∙ ap (called_at h) (sym ne)
          ∙ ap (λ (l : List ℤ). and_then
          (tree_on 4096 (call_on (calls - 1) c) c (calls - 1) (h + 1 + n) (steps - 1)
          (memory (store_of slots heads) l)) (λ w. binding calls x (at + 1 + n) w))
          (sym (named ∙ ap (λ (l : List ℤ). set l (function_place (calls - 1)) (pos g)) passed))
          ∙ ap (λ (w : Ran). and_then w (λ w. binding calls x (at + 1 + n) w)) (sym done.is)

      pub call_stops : (r.stop ≡ 0 → ⊥) →
          Ended (call_line (call_on calls c) c calls x g at steps (memory (store_of slots heads) env)) steps r sl he
          en
      call_stops h = part_stops _ steps r sl he en (λ w. binding calls x (at + 1 + n) w) call_part
          (omega (arith, done.fewer)) h

      pub call_goes : r.stop ≡ 0 → (en' : List ℤ) → en' ≡ set en (place calls x) r.value → (q : Out) →
          q ≡ out 0 r.value (at + 1 + n) r.steps →
          Ended (call_line (call_on calls c) c calls x g at steps (memory (store_of slots heads) env)) steps q sl he
          en'
      call_goes h en' ee q qe = part_goes _ steps r sl he en (λ w. binding calls x (at + 1 + n) w) call_part
          (omega (arith, done.fewer)) h q en' (bound_left r calls x _ (at + 1 + n) sl he en en' q refl ee qe)
          (ap (λ (y : Out). y.steps) qe)

-- ---- a loop

bound_steps : (way : Way) (from calls x next : ℕ) (r : Out) (m : Memory) →
    (loop_bound way from calls x next r m).out.steps ≡ r.steps
bound_steps way from calls x next r m = go (eqb r.stop 0)
  where
    go : (t : Bool) → (cond t (goes_on calls x r.value next r.steps (loop_ended way from m)) (ran r m)).out.steps
        ≡ r.steps
    go true = refl
    go false = refl

module _ (W : Work) (c : Code) (calls x : ℕ) (k : Loop) (p q : ℕ) (us : List Atom) (at steps : ℕ) (slots : List ℤ)
    (heads : List ℕ) (env : List ℤ) where
  abbrev depth : ℕ
  depth = element_depth c.table calls x env

  abbrev here : Memory
  here = memory (store_of slots heads) env

  abbrev tree_at : ℕ
  tree_at = at + suc (length us)

  abbrev whole : Ran
  whole = loop_line W c calls x k p q us at steps here

  pub loop_spent : (r : Out) → steps ≡ 0 → r ≡ out 21 (pos 0) 0 steps → Ended whole steps r slots heads env
  unfolding loop_line stepping
  loop_spent r z e = record { is = rw (e, z); fewer = rw e (omega arith) }

  abbrev words : List ℤ
  words = map (word_of calls env) us

  abbrev array : ℤ
  array = looped_over k words

  abbrev follows : Ran → Ran
  follows v = passes_worked W c calls x (way_of k depth (cell_of array) v.out.value) p q tree_at (cell_of array)
      (length (array_of (store_of slots heads) array)) v

  module _ (some : steps ≡ 0 → ⊥) (sl₁ : List ℤ) (he₁ : List ℕ) (en₁ : List ℤ) where
    loop_is : whole ≡ and_then (carry_first k depth words (steps - 1) here) follows
    unfolding loop_line stepping
    loop_is = ap (λ (n : ℕ). loop_line W c calls x k p q us at n here) (less_one steps (omega arith))

    -- there is no cell for the result
    pub loop_dry : Begins k p q depth words here sl₁ he₁ en₁ None → (r : Out) →
        r ≡ out 25 (pos 0) 0 (steps - 1) → Ended whole steps r sl₁ he₁ en₁
    loop_dry dry r e = part_stops _ steps r sl₁ he₁ en₁ follows
        (loop_is ∙ ap (λ (w : Ran). and_then w follows) (dry (steps - 1)
        ∙ ap (λ (y : Out). ran y (memory (store_of sl₁ he₁) en₁)) (sym e)))
        (omega (arith, ap (λ (y : Out). y.steps) e)) (λ z. omega (arith, z, ap (λ (y : Out). y.stop) e))

    module _ (l : Passes) (ready : Readied k p q depth words here sl₁ he₁ en₁ l) (start : ℕ)
        (se : start ≡ tree_at) (r : Out) (sl : List ℤ) (he : List ℕ) (en : List ℤ)
        (done : Ended (passes_on (looped l.way (W start) calls l.first l.second l.from) l.count
        l.carried 0 (steps - 1) (memory (store_of sl₁ he₁) en₁)) (steps - 1) r sl he en) where
      -- the passes, and what follows them, as the line has them
      same_passes : follows (ran (out 0 l.carried 0 (steps - 1)) (memory (store_of sl₁ he₁) en₁))
          ≡ passes_worked W c calls x l.way l.first l.second start l.from l.count
          (ran (out 0 l.carried 0 (steps - 1)) (memory (store_of sl₁ he₁) en₁))
      same_passes = λ i. passes_worked W c calls x (sym ready.way i) (sym ready.first i) (sym ready.second i)
          (sym se i) (sym ready.from i) (sym ready.count i)
          (ran (out 0 l.carried 0 (steps - 1)) (memory (store_of sl₁ he₁) en₁))

      -- what the passes gave is bound
      pub loop_goes : (next : ℕ) → next ≡ end_in c.table start → (y : Out) (sl' : List ℤ) (he' : List ℕ)
          (en' : List ℤ) →
          Ends (loop_bound l.way l.from calls x next r (memory (store_of sl he) en)) y sl' he' en' →
          Ended whole steps y sl' he' en'
      loop_goes next ne y sl' he' en' e = record {
        is = e ∙ sym (loop_is ∙ ap (λ (w : Ran). and_then w follows) (ready.carried (steps - 1)) ∙ same_passes
            ∙ ap₂ (λ (w : Ran) (m : ℕ). and_then w (λ w. binding_passed l.way l.from calls x m w))
            (sym done.is) (sym ne));
        fewer = omega (
          arith,
          done.fewer,
          ap (λ (w : Ran). w.out.steps) e
              ∙ bound_steps l.way l.from calls x next r (memory (store_of sl he) en),
        );
      }

-- ---- which line

module _ (W : Work) (C : Callee) (c : Code) (calls at steps : ℕ) (slots : List ℤ) (heads : List ℕ) (env : List ℤ)
    (l : Line)
    (r : Out) (sl : List ℤ) (he : List ℕ) (en : List ℤ) where
  abbrev line_here : Line → Ran
  line_here k = line_on W C c calls at steps (memory (store_of slots heads) env) k

  -- a line that is known
  line_is : (k : Line) → l ≡ k → (w : Ran) → w ≡ line_here k → Ended w steps r sl he en →
      Ended (line_here l) steps r sl he en
  line_is k e w g done = record { is = done.is ∙ g ∙ ap line_here (sym e); fewer = done.fewer }

  pub line_if : (x : ℕ) (g : Atom) → l ≡ L.If x g →
      Ended (if_line W c.table calls x g at steps (memory (store_of slots heads) env)) steps r sl he en →
      Ended (line_here l) steps r sl he en
  unfolding line_on line_done doing
  line_if x g e = line_is (L.If x g) e _ refl

  pub line_call : (x g : ℕ) → l ≡ L.Call x g →
      Ended (call_line C c calls x g at steps (memory (store_of slots heads) env)) steps r sl he en →
      Ended (line_here l) steps r sl he en
  unfolding line_on line_done doing
  line_call x g e = line_is (L.Call x g) e _ refl

  pub line_loop : (x : ℕ) (k : P.Loop) → l ≡ L.Loop x k →
      Ended (loop_line W c calls x (kind_of k) (first_name k) (second_name k) (atoms_of k) at steps
      (memory (store_of slots heads) env)) steps r sl he en →
      Ended (line_here l) steps r sl he en
  unfolding line_on line_done doing
  line_loop x k e = line_is (L.Loop x k) e _ refl

  -- the variants that the leaf's worker takes
  abbrev leaves : List ℕ
  leaves = 0 ∷ 2 ∷ 3 ∷ 4 ∷ 5 ∷ 6 ∷ 9 ∷ 10 ∷ 11 ∷ []

  pub line_leaf : OneOf leaves (tag_of the_type l) →
      Ends (leaf c.kinds c.operands c.table calls at steps (memory (store_of slots heads) env) l) r sl he en →
      Ended (line_here l) steps r sl he en
  unfolding line_on line_done
  line_leaf h e = record {
    is = e ∙ go (doing c.kinds c.operands c.table calls at m l)
        (told c.kinds c.operands c.table calls at m l);
    fewer = let q : r.steps ≡ (leaf c.kinds c.operands c.table calls at steps m l).out.steps
        = ap (λ (w : Ran). w.out.steps) e in
        rw q (leaf_fewer calls at steps m (doing c.kinds c.operands c.table calls at m l));
  }
    where
      m : Memory
      m = memory (store_of slots heads) env

      go : (d : Doing) → Told d (tag_of the_type l) →
          leaf_done calls at steps (memory (store_of slots heads) env) d
          ≡ line_done W C c calls at steps (memory (store_of slots heads) env) d
      go (giving x next m' g) t = refl
      go (changing m') t = refl
      go (ending a) t = refl
      go (calling x g) t = absurd (miss leaves 1 tt (subst (OneOf leaves) t h))
      go (branching x g) t = absurd (miss leaves 7 tt (subst (OneOf leaves) t h))
      go (looping x k p q us) t = absurd (miss leaves 8 tt (subst (OneOf leaves) t h))
