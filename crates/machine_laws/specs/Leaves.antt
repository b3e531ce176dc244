-- The lines that work no tree, as they stand in the code: one law for each kind of leaf.
use Rattle.std.specs.Prelude.{ℕ, ◌≤◌, ◌+◌, ◌<◌, ◌-◌, suc, zero, ◌*◌, ◌%◌, ◌/◌, true, false, Bool, cond, ◌≡◌, refl}
use Rattle.std.specs.Prelude.{List, [], ◌∷◌, ◌++◌, map, ℤ, pos, nat_abs, length, get_or}
use Rattle.prelude.specs.Kit.{arith, ◌∙◌, sym, ap, subst, ap₂, some, length-map, leb-false}
use Rattle.std.proofs.Math.ListN as List
use Rattle.semantics.specs.Basics.{updated, tabulate}
use Rattle.semantics.specs.Outcome.{Outcome, done, stop, onward, ◌>>=◌, ◌>>◌, give, require}
use Rattle.semantics.specs.Number.{Operation, sum, difference, less, exact, fits, inside}
use Rattle.semantics.specs.Kinds.{Leaf, operation, call, literal, index, length_of, iota, replicate, operation_kind}
use Rattle.semantics.specs.Kinds.{leaf_kind, leaf_operand, Borrowing, leaf_reads}
use Rattle.semantics.specs.Types.{Signature, same, call_rule, replicate_rule}
use Rattle.semantics.specs.Store.{Store, cell_of, has_free, acquired, retained}
use Rattle.semantics.specs.Code as K
use Rattle.semantics.specs.Code.{row, atom_row}
use Rattle.semantics.specs.Live.{Set, ◌∪◌, ◌∖◌, only, among}
use Rattle.semantics.specs.Annotate.{NameDepths, atom_depth, depth_of}
use Rattle.semantics.specs.Machine as M
use Rattle.semantics.specs.Machine.{State, Frame, Program, word, with_left, work_leaf, work_line, acquire, acquire_if}
use Rattle.semantics.specs.Machine.{elements_of, retain_word, held, argument, touching, is_count}
use Rattle.semantics.specs.Machine.{if_array, retain_times, acquires}
use Rattle.discipline.proofs.machine.Fits.{replicate_fits}
use Rattle.laws.specs.Tests.{some_if_holds, same_lists}
use Rattle.discipline.proofs.machine.Discipline.{AllKnown, New, LeafFits}
use Rattle.words.specs.Words.{checked}
use Rattle.store.specs.declared.Gained.{Gained}
use Rattle.store.specs.Acquiring.{gained, next_cell}
use Rattle.machine_code.specs.Reading.{atom_at, is_atom, line_of, line_at, depth_in}
use Rattle.kinds.specs.declared.Atom.{Atom}
use Rattle.machine_code.specs.declared.Line.TheVariants as L
use Rattle.machine_frames.specs.Frames.{word_of, element_depth, level_of, noted}
use Rattle.machine_frames.specs.Work.{Memory, memory, Ran, ran, out, with_store}
use Rattle.machine_lines.specs.Lines.{Given, given, operation_of, operation_given, array_of, index_given, length_given}
use Rattle.machine_lines.specs.Lines.{acquired_given, Doing, elements_by, retained_times, made_store, made_memory}
use Rattle.machine_lines.specs.Lines.{array_memory, array_given, acquired_memory, cell_from, giving, calling, doing}
use Rattle.machine_lines.specs.Lines.{giving_line, leaf_done}
use Rattle.machine_lines.proofs.Counts.{counted_bad}
use Rattle.machine_spec.specs.Machine.{Code, parameters_in, names_in, Work, Callee, binding, call_worked, call_line}
use Rattle.machine_spec.specs.Machine.{line_done}
use Rattle.machine_code.specs.Rows.{Here, At, line_read}
use Rattle.machine_laws.specs.Frames.{Bounded, FrameAgrees, FrameKept, Framed, kept_none}
use Rattle.machine_laws.specs.Levels.{LevelsAgree, levels_touched, levels_acquired, kept_noted}
use Rattle.machine_laws.specs.Acquiring.{acquire_same}
use Rattle.machine_laws.specs.Atoms.{words_same, passed_same, word_at}
use Rattle.machine_laws.specs.Same.{Rel, LineDone, CallDone, CalleeSame, Gives as Given_by, rel_then, rel_step}
use Rattle.machine_laws.specs.Same.{call_word, bound_done}

-- ---- what a call's atoms fit

-- as many atoms as parameters
call_long : (Γ : NameDepths) (us : List K.Atom) (s : Signature) (d : ℕ) →
    call_rule s (map (atom_depth Γ) us) ≡ some d → length us ≡ length s.parameters
call_long Γ us s d h =
    let ds = map (atom_depth Γ) us in
    let alike : s.parameters ≡ ds =
    same_lists s.parameters ds (some_if_holds (same s.parameters ds) s.result d h).0 in
    sym (length-map us (atom_depth Γ)) ∙ ap length (sym alike)

-- ---- leaves

operation_back : (o : Operation) → operation_of (operation_kind o) ≡ o
operation_back sum = refl
operation_back difference = refl
operation_back less = refl

pub operation_read : (o : Operation) (n : ℕ) (u v : Atom) →
    line_of (operation_kind o) n u v ≡ L.Operation (operation_kind o) (n % 256) u v
operation_read sum n u v = refl
operation_read difference n u v = refl
operation_read less n u v = refl

-- so many retains leave the steps and the levels, and the store with so many references more
record Retains (k : ℕ) (w : ℤ) (s : State) : Type 0 where
  pub after : State
  pub does : retain_times k w s ≡ done tt after
  pub left : after.left ≡ s.left
  pub store : after.store ≡ retained_times k (cell_of w) s.store
  pub levels : (free : ℕ) (env : List ℤ) → LevelsAgree free s.log env → LevelsAgree free after.log env

retains : (k : ℕ) (w : ℤ) (s : State) → Retains k w s
unfolding retain_times retain_word retained_times onward M.with_store
retains zero w s = record { after = s; does = refl; left = refl; store = refl; levels = λ free env h. h }
retains (suc k) w s =
    let t = retains k w (M.with_store s (retained (cell_of w) s.store) (touching s.store (cell_of w))) in
    record {
      after = t.after;
      does = t.does;
      left = t.left;
      store = t.store;
      levels = λ free env h. t.levels free env (levels_touched h s.store (cell_of w));
    }

-- numbers are no references
made_plain : (counting : Bool) (w : ℤ) (n : ℕ) (σ : Store) (o : Outcome (Unit {0}) Gained) →
    made_store counting w 0 n σ o ≡ acquired 0 (elements_by counting w n) σ
made_plain counting w n σ (done g u) = refl
made_plain counting w n σ (stop k u) = refl

-- a line at a position, which binds x and has the atoms us
module _ (free : ℕ) (p : Program) (few : length p.routines ≤ 32) (callee : M.Callee) (β : Borrowing)
    (Γ : NameDepths) (c : Code) (calls f : ℕ) (C : Callee) (calling_same : CalleeSame free p c calls C callee) (W : Work)
    (at : ℕ) (A : Set) (R : List ℕ) (ρ : Frame) (s : State) (env : List ℤ) (S : Set) (b : Bounded S)
    (g : FrameAgrees calls env ρ S) (framed : Framed calls f env) (levels : LevelsAgree free s.log env) where
  abbrev here : Memory
  here = memory s.store env

  -- how the line at the position is worked
  abbrev found : Doing
  found = doing c.kinds c.operands c.table calls at here (line_at c.kinds c.operands at)

  module _ (x : ℕ) (new : New x S) (us : List K.Atom) (known : AllKnown us S)
      (rs : At c.kinds c.operands (at + 1) (map atom_row us))
      (closed : is_atom (get_or c.kinds (at + 1 + length us) 0) ≡ false) where
    abbrev ws : List ℤ
    ws = map (word ρ) us

    -- the roots of a call, and those where a cell is wanted
    abbrev call_roots : Leaf → List ℕ
    call_roots l = R ++ held Γ (among (leaf_reads β l us) (A ∖ x)) ρ

    abbrev cell_roots : List ℕ
    cell_roots = R ++ held Γ (among us (A ∖ x)) ρ

    abbrev Done : Ran → Frame → State → Type 0
    Done = LineDone free (at + suc (length us)) calls env S (S ∪ only x)

    abbrev Gives : ℕ → Memory → Given → Outcome State ℤ → Type 0
    Gives = Given_by free calls env S

    -- the line is worked as the leaf is
    abbrev Claim : Leaf → Type 0
    Claim l = Rel free Done (line_done W C c calls at s.left here found)
        (work_line callee β Γ (K.leaf x l us) A R ρ s)

    abbrev LeafStands : Leaf → Type 0
    LeafStands l = Here c.kinds c.operands at (row (leaf_kind l) (leaf_operand l x (length us)))

    byte : x % 256 ≡ x
    byte = omega (arith, new.small)

    little : x < 16777216
    little = omega (arith, new.small)

    first_word : 0 < length us → word_of calls env (atom_at c.kinds c.operands (at + 1)) ≡ argument ws 0
    first_word h =
        ap (λ (q : ℕ). word_of calls env (atom_at c.kinds c.operands q))
        (let z : at + 1 ≡ at + 1 + 0 = omega arith in z)
        ∙ word_at c.kinds c.operands calls env ρ S b g us (at + 1) 0 known rs h

    second_word : 1 < length us → word_of calls env (atom_at c.kinds c.operands (at + 2)) ≡ argument ws 1
    second_word h =
        ap (λ (q : ℕ). word_of calls env (atom_at c.kinds c.operands q))
        (let z : at + 2 ≡ at + 1 + 1 = omega arith in z)
        ∙ word_at c.kinds c.operands calls env ρ S b g us (at + 1) 1 known rs h

    -- a word that is given where the frames are as they were
    gives_word : (n : ℕ) (v : ℤ) (s' : State) → n ≡ s'.left → s.store ≡ s'.store →
        LevelsAgree free s'.log env → Gives n here (done v tt) (done v s')
    gives_word n v s' steps store agree =
        record { value = refl; steps = steps; store = store; kept = kept_none calls env S; levels = agree }

    stops_here : (n j : ℕ) (s' : State) → (j ≡ 0 → ⊥) → n ≡ s'.left → LevelsAgree free s'.log env →
        Gives n here (stop j tt) (stop j s')
    stops_here n j s' real steps agree = record { stop = refl; real = real; steps = steps; levels = agree }

    -- a leaf that is a small work
    gives_same : (l : Leaf) (next : ℕ) (m : Memory) (y : Given) → found ≡ giving x next m y →
        next ≡ at + suc (length us) →
        ((n : ℕ) → Gives n m y (work_leaf callee cell_roots (call_roots l) (depth_of Γ us 1) l ws (with_left s n))) →
        Claim l
    unfolding line_done leaf_done giving_line work_line onward
    gives_same l next m y d e h =
        subst (λ (z : Doing). Rel free Done (line_done W C c calls at s.left here z)
        (work_line callee β Γ (K.leaf x l us) A R ρ s)) (sym d)
        (rel_step free Done s here (λ n. with_store m.store (given calls x next n m.env y))
        (λ _ s'. onward (λ w. give (updated ρ x w))
        (work_leaf callee cell_roots (call_roots l) (depth_of Γ us 1) l ws s')) levels
        (λ n. go n y (work_leaf callee cell_roots (call_roots l) (depth_of Γ us 1) l ws (with_left s n)) (h n)))
      where
        go : (n : ℕ) (y : Given) (o : Outcome State ℤ) → Gives n m y o →
            Rel free Done (with_store m.store (given calls x next n m.env y))
            (onward (λ w. give (updated ρ x w)) o)
        go n (done w u) (done v s') q = (
          refl,
          bound_done free calls env ρ S b g framed x new next (at + suc (length us)) e (ran (out 0 w next n) m) v s'
              (record { value = q.value; steps = q.steps; store = q.store; kept = q.kept; levels = q.levels }),
        )
        go n (done w u) (stop k s') q = absurd q
        go n (stop j u) (done v s') q = absurd q
        go n (stop j u) (stop k s') q =
            record { stop = q.stop; real = q.real; steps = q.steps; levels = q.levels }

    operation_same : (o : Operation) → length us ≡ 2 → LeafStands (operation o) → Claim (operation o)
    unfolding doing work_leaf onward require checked with_left
    operation_same o two r = gives_same (operation o) (at + 3) here
        (operation_given (operation_kind o) (argument ws 0) (argument ws 1))
        (ap (doing c.kinds c.operands c.table calls at here)
        (line_read c.kinds c.operands at (operation_kind o) x _ _ little r.kind r.operand refl refl
        ∙ operation_read o x _ _)
        ∙ rw (byte, first_word (omega (arith, two)), second_word (omega (arith, two))) refl)
        (omega (arith, two))
        (λ n. rw (operation_back o) (go n (exact o (argument ws 0) (argument ws 1)) _ refl))
      where
        go : (n : ℕ) (z : ℤ) (t : Bool) → fits z ≡ t →
            Gives n here (cond (fits z) (done z tt) (stop 24 tt))
            (onward (λ _. give z) (require (fits z) 24 (with_left s n)))
        go n z true e = rw e (gives_word n z (with_left s n) refl refl levels)
        go n z false e = rw e (stops_here n 24 (with_left s n) (λ q. omega arith) refl levels)

    length_same : length us ≡ 1 → LeafStands length_of → Claim length_of
    unfolding doing work_leaf onward elements_of M.with_store with_left
    length_same one r = gives_same length_of (at + 2) here (length_given (array_of s.store (argument ws 0)))
        (ap (doing c.kinds c.operands c.table calls at here)
        (line_read c.kinds c.operands at 11 x _ _ little r.kind r.operand refl refl)
        ∙ rw (byte, first_word (omega (arith, one))) refl)
        (omega (arith, one))
        (λ n. gives_word n _ _ refl refl (levels_touched levels s.store (cell_of (argument ws 0))))

    index_same : length us ≡ 2 → LeafStands index → Claim index
    unfolding doing work_leaf onward require elements_of M.with_store with_left
    index_same two r = gives_same index (at + 3) here
        (index_given (array_of s.store (argument ws 0)) (argument ws 1))
        (ap (doing c.kinds c.operands c.table calls at here)
        (line_read c.kinds c.operands at 10 x _ _ little r.kind r.operand refl refl)
        ∙ rw (byte, first_word (omega (arith, two)), second_word (omega (arith, two))) refl)
        (omega (arith, two))
        (λ n. go n (array_of s.store (argument ws 0)) (argument ws 1)
        (inside (argument ws 1) (length (array_of s.store (argument ws 0)))) refl)
      where
        told : LevelsAgree free (s.log ++ touching s.store (cell_of (argument ws 0))) env
        told = levels_touched levels s.store (cell_of (argument ws 0))

        go : (n : ℕ) (vs : List ℤ) (w : ℤ) (t : Bool) → inside w (length vs) ≡ t → Gives n here (index_given vs w)
            (onward (λ _. give (get_or vs (nat_abs w) (pos 0))) (require (inside w (length vs)) 23
            (M.with_store (with_left s n) s.store (touching s.store (cell_of (argument ws 0))))))
        go n vs w true e = rw e (gives_word n _ _ refl refl told)
        go n vs w false e = rw e (stops_here n 23 _ (λ q. omega arith) refl told)

    -- a cell acquired with some words
    acquires_same : (d : ℕ) (vs : List ℤ) (n : ℕ) →
        Gives n (acquired_memory d vs here) (acquired_given (cell_from here)) (acquire cell_roots d vs (with_left s n))
    unfolding with_left
    acquires_same d vs n = acquire_same free calls S b cell_roots d vs n (with_left s n) env refl framed levels

    -- and then the references that copies of a word are
    copies_same : (d : ℕ) (w : ℤ) (k n : ℕ) → Gives n (made_memory false w d k here (cell_from here))
        (acquired_given (cell_from here))
        (onward (λ v. if_array d (retain_times k w) >> give v)
        (acquire cell_roots d (List.replicate k w) (with_left s n)))
    unfolding onward acquire acquire_if M.with_store M.with_roots with_left next_cell
    copies_same d w k n = go d (has_free s.store) refl
      where
        answer : Bool → Outcome (Unit {0}) Gained
        answer t = cond t (done (gained s.store.first (level_of env - 1)) tt) (stop 25 tt)

        noted_env : List ℤ
        noted_env = noted (level_of env - 1) env

        kept_env : FrameKept calls env noted_env S
        kept_env = kept_noted calls framed.few S b env (level_of env - 1)

        acquired_levels : LevelsAgree free (s.log ++ (acquires s.store.first ∷ [])) noted_env
        acquired_levels = levels_acquired levels s.store.first framed.long

        go : (d : ℕ) (t : Bool) → has_free s.store ≡ t →
            Gives n (made_memory false w d k here (answer (has_free s.store)))
            (acquired_given (answer (has_free s.store)))
            (onward (λ v. if_array d (retain_times k w) >> give v)
            (acquire_if (has_free s.store) cell_roots d (List.replicate k w) (with_left s n)))
        go zero true e = rw e
            (record { value = refl; steps = refl; store = refl; kept = kept_env; levels = acquired_levels })
        go (suc d) true e =
            let s₁ = M.with_store (with_left s n) (acquired (suc d) (List.replicate k w) s.store)
            (acquires s.store.first ∷ []) in
            let t = retains k w s₁ in
            rw (e, t.does) (record {
              value = refl;
              steps = sym t.left;
              store = sym t.store;
              kept = kept_env;
              levels = t.levels free noted_env acquired_levels;
            })
        go d false e = rw e (record { stop = refl; real = λ q. omega arith; steps = refl; levels = levels })

    literal_same : (d : ℕ) → length us ≤ 16 → d ≤ 3 → LeafStands (literal d) → Claim (literal d)
    unfolding doing work_leaf
    literal_same d few_atoms shallow r = gives_same (literal d) (at + 1 + length ws) (acquired_memory d ws here)
        (acquired_given (cell_from here))
        (ap (doing c.kinds c.operands c.table calls at here)
        (line_read c.kinds c.operands at 9 (x + 256 * length us + 65536 * d) _ _
        (omega (arith, new.small, few_atoms, shallow)) r.kind r.operand refl refl)
        ∙ rw (
          let z : (x + 256 * length us + 65536 * d) % 256 ≡ x = omega (arith, new.small) in z,
          let z : (x + 256 * length us + 65536 * d) / 65536 % 256 ≡ d = omega (arith, new.small, few_atoms, shallow)
              in z,
          words_same c.kinds c.operands calls env ρ S b g us 16 (at + 1) few_atoms known rs closed,
        ) refl)
        (omega (arith, length-map us (word ρ))) (acquires_same d ws)

    -- an array of a count of elements: 26 comes before the cell
    iota_same : length us ≡ 1 → LeafStands iota → Claim iota
    unfolding doing work_leaf onward require with_left
    iota_same one r = gives_same iota (at + 2) (array_memory true (pos 0) 0 N here) (array_given N here)
        (ap (doing c.kinds c.operands c.table calls at here)
        (line_read c.kinds c.operands at 17 x _ _ little r.kind r.operand refl refl)
        ∙ rw (byte, first_word (omega (arith, one))) refl)
        (omega (arith, one)) (λ n. go n (is_count N) refl)
      where
        N : ℤ
        N = argument ws 0

        go : (n : ℕ) (t : Bool) → is_count N ≡ t → Gives n (array_memory true (pos 0) 0 N here)
            (array_given N here) (onward (λ _. acquire cell_roots 0 (tabulate 0 (nat_abs N) (λ i. pos i)))
            (require (is_count N) 26 (with_left s n)))
        go n true e = rw (e, made_plain true (pos 0) (nat_abs N) s.store (cell_from here))
            (acquires_same 0 (tabulate 0 (nat_abs N) (λ i. pos i)) n)
        go n false e = rw (e, counted_bad (cell_from here))
            (stops_here n 26 (with_left s n) (λ q. omega arith) refl levels)

    replicate_same : length us ≡ 2 → element_depth c.table calls x env ≡ depth_of Γ us 1 → LeafStands replicate →
        Claim replicate
    unfolding doing work_leaf onward require with_left
    replicate_same two de r = gives_same replicate (at + 3) (array_memory false w d N here) (array_given N here)
        (ap (doing c.kinds c.operands c.table calls at here)
        (line_read c.kinds c.operands at 18 x _ _ little r.kind r.operand refl refl)
        ∙ rw (byte, first_word (omega (arith, two)), second_word (omega (arith, two)), de) refl)
        (omega (arith, two)) (λ n. go n (is_count N) refl)
      where
        N : ℤ
        N = argument ws 0

        w : ℤ
        w = argument ws 1

        d : ℕ
        d = depth_of Γ us 1

        made : ℕ → M.Work ℤ
        made k = acquire cell_roots d (List.replicate k w) >>= λ v. if_array d (retain_times k w) >> give v

        go : (n : ℕ) (t : Bool) → is_count N ≡ t → Gives n (array_memory false w d N here)
            (array_given N here) (onward (λ _. made (nat_abs N)) (require (is_count N) 26 (with_left s n)))
        go n true e = rw e (copies_same d w (nat_abs N) n)
        go n false e = rw (e, counted_bad (cell_from here))
            (stops_here n 26 (with_left s n) (λ q. omega arith) refl levels)

    call_same : (h : ℕ) → h < length p.routines → length us ≡ length (p.signatures h).parameters →
        LeafStands (call h) → Claim (call h)
    unfolding doing line_done call_line work_line work_leaf onward with_left
    call_same h there arity r =
        let roots = call_roots (call h) in
        subst (λ (z : Doing). Rel free Done (line_done W C c calls at s.left here z)
        (work_line callee β Γ (K.leaf x (call h) us) A R ρ s))
        (sym (ap (doing c.kinds c.operands c.table calls at here)
        (line_read c.kinds c.operands at 8 (x + 256 * h) _ _ (omega (arith, new.small, there, few)) r.kind
        r.operand refl refl)
        ∙ ap₂ calling (let z : (x + 256 * h) % 256 ≡ x = omega (arith, new.small) in z)
        (let z : (x + 256 * h) / 256 % 256 ≡ h = omega (arith, new.small, there, few) in z)))
        (rel_step free Done s here
        (λ n. call_worked C c calls x h at n here (parameters_in c h))
        (λ _ s'. onward (λ w. give (updated ρ x w)) (callee roots h ws s')) levels
        (λ n. subst (λ (k : ℕ). Rel free Done (call_worked C c calls x h at n here k)
        (onward (λ w. give (updated ρ x w)) (callee roots h ws (with_left s n))))
        (arity ∙ sym (calling_same.counted h there))
        (rw (passed_same c.kinds c.operands calls env ρ S b g us (at + 1) (names_in c h)
        (omega (arith, arity, calling_same.few h there)) (omega (arith, r.within))
        (omega (arith, arity, calling_same.within h there)) known rs)
        (rel_then free (CallDone free calls env) Done (C h ws n here) (callee roots h ws (with_left s n))
        (λ w. binding calls x (at + 1 + length us) w) (λ w. give (updated ρ x w))
        (calling_same.same roots h ws env (with_left s n) there (length-map us (word ρ) ∙ arity) framed.long
        levels)
        (λ v s' k. (
          refl,
          bound_done free calls env ρ S b g framed x new (at + 1 + length us) (at + suc (length us))
              (omega arith) (C h ws n here) v s'
              (call_word free calls framed.few env S b (C h ws n here) v s' k),
        ))))))

    -- every leaf
    pub leaf_same : ((y : ℕ) → y < 256 → depth_in c.table f y ≡ Γ y) → (l : Leaf) → LeafFits p Γ x l us →
        LeafStands l → Claim l
    leaf_same depths (operation o) h r = operation_same o h.limits r
    leaf_same depths (call k) h r =
        call_same k (leb-false (length p.routines) k h.calls) (call_long Γ us (p.signatures k) (Γ x)
        h.gives) r
    leaf_same depths (literal d) h r = literal_same d h.limits.0 h.limits.1 r
    leaf_same depths index h r = index_same h.limits r
    leaf_same depths length_of h r = length_same h.limits r
    leaf_same depths iota h r = iota_same h.limits r
    leaf_same depths replicate h r = replicate_same h.limits (copied us h.limits h.gives) r
      where
        copied : (vs : List K.Atom) → length vs ≡ 2 → replicate_rule (map (atom_depth Γ) vs) ≡ some (Γ x) →
            element_depth c.table calls x env ≡ depth_of Γ vs 1
        copied [] two e = absurd (omega (arith, two))
        copied (u ∷ []) two e = absurd (omega (arith, two))
        copied (u ∷ v ∷ []) two e =
            ap (λ (k : ℕ). depth_in c.table k x - 1) framed.function
            ∙ ap (λ (y : ℕ). y - 1) (depths x new.small)
            ∙ omega (arith, (replicate_fits (atom_depth Γ u) (atom_depth Γ v) (Γ x) e).2)
        copied (u ∷ v ∷ o ∷ vs) two e = absurd (omega (arith, two))
