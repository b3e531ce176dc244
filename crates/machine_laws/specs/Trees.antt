-- The machine over positions is the machine of the definitions: lines and trees.
use Rattle.std.specs.Prelude.{ℕ, ◌≤◌, ◌+◌, ◌<◌, ◌-◌, suc, zero, ◌%◌, true, false, Bool, cond, ◌≡◌, refl, List, ◌++◌}
use Rattle.std.specs.Prelude.{map, ℤ, length, get_or}
use Rattle.prelude.specs.Kit.{arith, ◌∙◌, sym, ap, subst, ap₂, length-append, length-map}
use Rattle.semantics.specs.Basics.{updated}
use Rattle.semantics.specs.Outcome.{onward, give, require}
use Rattle.semantics.specs.Number.{is_zero, is_answer}
use Rattle.semantics.specs.Kinds.{Leaf, operation, call, literal, index, length_of, iota, replicate, leaf_kind}
use Rattle.semantics.specs.Kinds.{Loop, mapping, filtering, reducing, rewriting, loop_kind, Borrowing}
use Rattle.semantics.specs.Store.{Store}
use Rattle.semantics.specs.Code as K
use Rattle.semantics.specs.Code.{atom_row, rows, line_rows, ending}
use Rattle.semantics.specs.Live.{Set, ◌∪◌, only, live, after_branch}
use Rattle.semantics.specs.Annotate.{NameDepths, atom_depth}
use Rattle.semantics.specs.Machine as M
use Rattle.semantics.specs.Machine.{State, Frame, Program, word, with_left, work, work_line}
use Rattle.discipline.proofs.machine.Discipline.{Known, New, known_after, LineFitting, Fitting, LineScoped, Scoped}
use Rattle.discipline.proofs.machine.Rules.{known_stays}
use Rattle.machine_code.specs.Reading.{is_atom, atom_at, line_of, line_at, depth_in, end_in}
use Rattle.kinds.specs.declared.Atom.{Atom}
use Rattle.machine_frames.specs.Frames.{word_of}
use Rattle.machine_frames.specs.Work.{Memory, memory, Ran, halted}
use Rattle.machine_lines.specs.Lines.{Doing, branching, doing}
use Rattle.machine_spec.specs.Machine.{Code, Work, Callee, and_then, binding, branch_worked, if_worked, if_line}
use Rattle.machine_spec.specs.Machine.{line_done, line_on}
use Rattle.machine_spec.specs.Machine.{is_end, tree_from, tree_on}
use Rattle.machine_code.specs.Rows.{At, at_first, at_second, coded, atom_here, line_read, no_atom, tree_within}
use Rattle.machine_code.specs.Rows.{line_some, rows_some}
use Rattle.machine_laws.specs.Ends.{Jumps}
use Rattle.machine_laws.specs.Frames.{Bounded, FrameAgrees, small_known, word_same, kept_none}
use Rattle.machine_laws.specs.Frames.{Framed, framed_kept, bounded_after}
use Rattle.machine_laws.specs.Levels.{LevelsAgree}
use Rattle.machine_laws.specs.Same.{CalleeSame, Rel, TreeDone, LineDone, rel_then, rel_step, rel_map, word_kept}
use Rattle.machine_laws.specs.Same.{bound_done}
use Rattle.machine_laws.specs.Leaves.{operation_read, leaf_same}
use Rattle.machine_laws.specs.Changes.{retain_same, release_same}
use Rattle.machine_laws.specs.Loops.{TreeClaim, loop_read, loop_same}

-- the same work from the same place
pub moved : (W : Work) (p q a b : ℕ) (m : Memory) (σ : Store) → p ≡ q → a ≡ b → m.store ≡ σ → W p a m ≡ W q b
    (memory σ m.env)
moved W p q a b m σ e f g =
    ap₂ (λ (x : ℕ) (y : ℕ). W x y m) e f ∙ ap (λ (τ : Store). W q b (memory τ m.env)) g

-- a line is no end, by the kind of its first row
leaf_open : (l : Leaf) (n : ℕ) (a b : Atom) → is_end (line_of (leaf_kind l) n a b) ≡ false
leaf_open (operation o) n a b = ap is_end (operation_read o n a b)
leaf_open (call f) n a b = refl
leaf_open (literal d) n a b = refl
leaf_open index n a b = refl
leaf_open length_of n a b = refl
leaf_open iota n a b = refl
leaf_open replicate n a b = refl

loop_open : (k : Loop) (n : ℕ) (a b : Atom) → is_end (line_of (loop_kind k) n a b) ≡ false
loop_open mapping n a b = refl
loop_open filtering n a b = refl
loop_open reducing n a b = refl
loop_open rewriting n a b = refl

line_open : (kinds : List ℕ) (operands : List ℤ) (at : ℕ) (l : K.Line) → At kinds operands at (line_rows l) →
    is_end (line_at kinds operands at) ≡ false
unfolding line_rows line_at
line_open kinds operands at (K.leaf x l us) h = rw h.0.kind (leaf_open l _ _ _)
line_open kinds operands at (K.if_else x g t u) h = rw h.0.kind refl
line_open kinds operands at (K.loop x k ps us t) h = rw h.0.kind (loop_open k _ _ _)
line_open kinds operands at (K.retain x) h = rw h.0.kind refl
line_open kinds operands at (K.release x) h = rw h.0.kind refl

module _ (free : ℕ) (p : Program) (enough : length p.routines ≤ 32) (callee : M.Callee) (β : Borrowing)
    (Γ : NameDepths) (c : Code) (calls f : ℕ) (C : Callee)
    (depths : (x : ℕ) → x < 256 → depth_in c.table f x ≡ Γ x) (jumps : Jumps c)
    (calling : CalleeSame free p c calls C callee) where
  abbrev Claim : K.Tree → Type 0
  Claim t = TreeClaim free p callee β Γ c calls f C t

  -- the claims of the trees of a line
  abbrev LineClaims : K.Line → Type 0
  LineClaims (K.leaf x l us) = Unit {0}
  LineClaims (K.if_else x a t e) = Claim t × Claim e
  LineClaims (K.loop x k ps us t) = Claim t
  LineClaims (K.retain x) = Unit {0}
  LineClaims (K.release x) = Unit {0}

  module _ (n : ℕ) (few : n ≤ 4096) (S : Set) (b : Bounded S) (at : ℕ) (A : Set) (R : List ℕ) (ρ : Frame) (s : State)
      (env : List ℤ) (g : FrameAgrees calls env ρ S) (framed : Framed calls f env)
      (levels : LevelsAgree free s.log env) where
    abbrev W : Work
    W = tree_on n C c calls

    abbrev here : Memory
    here = memory s.store env

    abbrev found : Doing
    found = doing c.kinds c.operands c.table calls at here (line_at c.kinds c.operands at)

    -- one tree of an if, after which the code goes on at a position
    branch_same : (x : ℕ) → New x S → (t : K.Tree) → Claim t → length (rows t) ≤ n → (d : ℕ) → Fitting p Γ t d →
        Scoped t S → (q : ℕ) → At c.kinds c.operands q (rows t) → (next : ℕ → ℕ) (goal : ℕ) →
        next (q + length (rows t)) ≡ goal → (m : ℕ) →
        Rel free (LineDone free goal calls env S (S ∪ only x))
        (and_then (W q m here) (λ w. binding calls x (next w.out.next) w))
        (onward (λ w. give (updated ρ x w)) (work callee β Γ t (after_branch x A) R ρ (with_left s m)))
    unfolding with_left
    branch_same x new t claim lt d fit scoped q rs next goal e m =
        rel_then free (TreeDone free (q + length (rows t)) calls env S) (LineDone free goal calls env S (S ∪ only x))
        (W q m here) (work callee β Γ t (after_branch x A) R ρ (with_left s m))
        (λ w. binding calls x (next w.out.next) w) (λ w. give (updated ρ x w))
        (claim n lt few S d fit scoped b q rs (after_branch x A) R ρ (with_left s m) env g framed levels)
        (λ w s' h. (
          refl,
          bound_done free calls env ρ S b g framed x new (next (W q m here).out.next) goal (ap next h.next ∙ e)
              (W q m here) w s' h.word,
        ))

    if_same : (x : ℕ) (a : K.Atom) (t e : K.Tree) → Claim t → Claim e → length (rows t) ≤ n → length (rows e) ≤ n →
        Known a S → New x S → Fitting p Γ t (Γ x) → Fitting p Γ e (Γ x) → Scoped t S → Scoped e S →
        At c.kinds c.operands (at + 2) (rows t ++ rows e) →
        Rel free (LineDone free (at + 2 + length (rows t) + length (rows e)) calls env S (S ∪ only x))
        (if_line W c.table calls x (coded a) at s.left here) (work_line callee β Γ (K.if_else x a t e) A R ρ s)
    unfolding if_line work_line onward require with_left
    if_same x a t e claim_t claim_e lt le known new fit_t fit_e st se rs =
        rel_step free (LineDone free (at + 2 + length (rows t) + length (rows e)) calls env S (S ∪ only x)) s here
        (λ m. if_worked W c.table calls x at m here (word_of calls env (coded a)))
        (λ _ s'. onward (λ _ s''. onward (λ w. give (updated ρ x w))
        (cond (is_zero (word ρ a)) (work callee β Γ e (after_branch x A) R ρ) (work callee β Γ t (after_branch x A) R ρ)
        s'')) (require (is_answer (word ρ a)) 28 s')) levels
        (λ m. rw (word_same calls env ρ S g a known) (answered m (word ρ a) (is_answer (word ρ a))))
      where
        in_t : At c.kinds c.operands (at + 2) (rows t)
        in_t = at_first c.kinds c.operands (at + 2) (rows t) (rows e) rs

        in_e : At c.kinds c.operands (at + 2 + length (rows t)) (rows e)
        in_e = at_second c.kinds c.operands (at + 2) (rows t) (rows e) rs

        go : (m : ℕ) (v : ℤ) (z : Bool) → is_zero v ≡ z →
            Rel free (LineDone free (at + 2 + length (rows t) + length (rows e)) calls env S (S ∪ only x))
            (branch_worked W c.table calls x at m here v)
            (onward (λ w. give (updated ρ x w))
            (cond (is_zero v) (work callee β Γ e (after_branch x A) R ρ) (work callee β Γ t (after_branch x A) R ρ)
            (with_left s m)))
        go m v true q = rw (q, jumps t (at + 2) in_t)
            (branch_same x new e claim_e le (Γ x) fit_e se (at + 2 + length (rows t)) in_e (λ y. y) _ refl m)
        go m v false q = rw q
            (branch_same x new t claim_t lt (Γ x) fit_t st (at + 2) in_t (end_in c.table) _
            (jumps e (at + 2 + length (rows t)) in_e) m)

        answered : (m : ℕ) (v : ℤ) (yes : Bool) →
            Rel free (LineDone free (at + 2 + length (rows t) + length (rows e)) calls env S (S ∪ only x))
            (cond yes (branch_worked W c.table calls x at m here v) (halted 28 m here))
            (onward (λ _ s'. onward (λ w. give (updated ρ x w))
            (cond (is_zero v) (work callee β Γ e (after_branch x A) R ρ) (work callee β Γ t (after_branch x A) R ρ) s'))
            (require yes 28 (with_left s m)))
        answered m v true = go m v (is_zero v) refl
        answered m v false = record { stop = refl; real = λ z. omega arith; steps = refl; levels = levels }

    -- no atom follows those of a line
    atoms_stop : (us : List K.Atom) (t : K.Tree) → At c.kinds c.operands (at + 1) (map atom_row us ++ rows t) →
        is_atom (get_or c.kinds (at + 1 + length us) 0) ≡ false
    atoms_stop us t rs =
        ap (λ (q : ℕ). is_atom (get_or c.kinds q 0)) (let z : at + 1 + length us ≡ at + 1 + length (map atom_row
        us) =
        omega (arith, length-map us atom_row) in z)
        ∙ no_atom c.kinds c.operands (at + 1 + length (map atom_row us)) t
        (at_second c.kinds c.operands (at + 1) (map atom_row us) (rows t) rs)

    abbrev LineSame : K.Line → Doing → Type 0
    LineSame l d = Rel free (LineDone free (at + length (line_rows l)) calls env S (known_after l S))
        (line_done W C c calls at s.left here d) (work_line callee β Γ l A R ρ s)

    -- any line
    line_same : (l : K.Line) → LineClaims l → length (line_rows l) ≤ n → LineFitting p Γ l → LineScoped l S →
        (t : K.Tree) → At c.kinds c.operands at (line_rows l ++ rows t) → LineSame l found
    unfolding line_rows line_done doing
    line_same (K.leaf x l us) claims lt fit h t rs =
        subst (λ (q : ℕ). Rel free (LineDone free q calls env S (S ∪ only x)) (line_done W C c calls at s.left
        here found)
        (work_line callee β Γ (K.leaf x l us) A R ρ s))
        (ap (λ (q : ℕ). at + suc q) (sym (length-map us atom_row)))
        (leaf_same free p enough callee β Γ c calls f C calling W at A R ρ s env S b g framed levels x h.1 us h.0
        (at_first c.kinds c.operands (at + 1) (map atom_row us) (rows t) rs.1) (atoms_stop us t rs.1)
        depths l fit rs.0)
    line_same (K.if_else x u t₁ t₂) claims lt fit h t rs =
        let e : length (rows t₁ ++ rows t₂) ≡ length (rows t₁) + length (rows t₂) = length-append (rows t₁) (rows
        t₂) in
        let z : at + 2 + length (rows t₁) + length (rows t₂) ≡ at + suc (suc (length (rows t₁ ++ rows t₂))) =
        omega (arith, e) in
        let y : at + 1 + 1 ≡ at + 2 = omega arith in
        subst (LineSame (K.if_else x u t₁ t₂))
        (sym (ap (doing c.kinds c.operands c.table calls at here)
        (line_read c.kinds c.operands at 12 x (coded u) _ (omega (arith, h.1.small)) rs.0.kind
        rs.0.operand
        (atom_here c.kinds c.operands (at + 1) u (small_known u S b h.0) rs.1.0) refl)
        ∙ ap (λ (q : ℕ). branching q (coded u)) (let o : x % 256 ≡ x = omega (arith, h.1.small) in o)))
        (subst (λ (q : ℕ). Rel free (LineDone free q calls env S (S ∪ only x))
        (if_line W c.table calls x (coded u) at s.left here) (work_line callee β Γ (K.if_else x u t₁ t₂) A R ρ
        s)) z
        (if_same x u t₁ t₂ claims.0 claims.1 (omega (arith, e, lt)) (omega (arith, e, lt)) h.0 h.1 fit.1
        fit.2 h.2 h.3
        (subst (λ (q : ℕ). At c.kinds c.operands q (rows t₁ ++ rows t₂)) y
        (at_first c.kinds c.operands (at + 1 + 1) (rows t₁ ++ rows t₂) (rows t) rs.1.1))))
    line_same (K.loop x k ps us t₁) claims lt fit h t rs =
        let mine = at_first c.kinds c.operands (at + 1) (map atom_row us ++ rows t₁) (rows t) rs.1 in
        let e : length (map atom_row us ++ rows t₁) ≡ length (map atom_row us) + length (rows t₁) =
        length-append (map atom_row us) (rows t₁) in
        let read = loop_read p Γ c calls at here S b x k ps us (atom_depth Γ (ending t₁)) fit.0 h.1 h.2 h.0
        rs.0 (at_first c.kinds c.operands (at + 1) (map atom_row us) (rows t₁) mine) in
        subst (LineSame (K.loop x k ps us t₁)) (sym read.is)
        (loop_same free p callee β Γ c calls f C depths jumps n few S b at A R ρ s env g framed levels x k ps us t₁
        read.first
        read.second read.names h.1 h.2 h.0
        claims (omega (arith, e, lt)) (atom_depth Γ (ending t₁)) fit.1 h.3
        (subst (λ (q : ℕ). At c.kinds c.operands q (rows t₁))
        (let z : at + 1 + length (map atom_row us) ≡ at + suc (length (map coded us)) =
        omega (arith, length-map us coded, length-map us atom_row) in z)
        (at_second c.kinds c.operands (at + 1) (map atom_row us) (rows t₁) mine)) _
        (omega (arith, e, length-map us coded, length-map us atom_row)))
    line_same (K.retain x) claims lt fit h t rs =
        retain_same free callee β Γ c calls f C W at A R ρ s env S b g framed levels x h rs.0
    line_same (K.release x) claims lt fit h t rs =
        release_same free callee β Γ c calls f C W at A R ρ s env S b g framed levels x h rs.0

  -- ---- trees

  end_same : (a : K.Atom) → Claim (K.end a)
  unfolding tree_on tree_from work rows
  end_same a zero lt few S d fit sc b at rs L R ρ s env g framed levels = absurd (omega arith)
  end_same a (suc n) lt few S d fit sc b at rs L R ρ s env g framed levels =
      rw (
        tree_within c.kinds c.operands at (K.end a) rs,
        line_read c.kinds c.operands at 16 0 (coded a) (atom_at c.kinds c.operands (at + 2)) (omega arith)
            rs.0.kind rs.0.operand
            (atom_here c.kinds c.operands (at + 1) a (small_known a S b sc) rs.1.0) refl,
      ) (
        refl,
        record {
          next = refl;
          word = record {
            value = word_same calls env ρ S g a sc;
            steps = refl;
            store = refl;
            kept = kept_none calls env S;
            levels = levels;
          };
        },
      )

  more_same : (l : K.Line) (t : K.Tree) → LineClaims l → Claim t → Claim (K.line l t)
  unfolding tree_on tree_from line_on work rows
  more_same l t claims claim zero lt few S d fit sc b at rs L R ρ s env g framed levels =
      absurd (omega (arith, length-append (line_rows l) (rows t), rows_some t))
  more_same l t claims claim (suc n) lt few S d fit sc b at rs L R ρ s env g framed levels =
      rw (
        tree_within c.kinds c.operands at (K.line l t) rs,
        line_open c.kinds c.operands at l (at_first c.kinds c.operands at (line_rows l) (rows t) rs),
      )
      (rel_then free (LineDone free goal calls env S known) (TreeDone free (at + length (line_rows l ++ rows t))
      calls env S)
      w (work_line callee β Γ l (live t L) R ρ s)
      (λ y. tree_on n C c calls y.out.next y.out.steps y.memory) (λ ρ'. work callee β Γ t L R ρ')
      (line_same n (omega (arith, few)) S b at (live t L) R ρ s env g framed levels l claims
      (omega (arith, len, rows_some t, lt)) fit.0 sc.0 t rs)
      (λ ρ' s' h. then_tree ρ' s' h))
    where
      goal : ℕ
      goal = at + length (line_rows l)

      known : Set
      known = known_after l S

      w : Ran
      w = line_done (tree_on n C c calls) C c calls at s.left (memory s.store env)
          (doing c.kinds c.operands c.table calls at (memory s.store env)
          (line_at c.kinds c.operands at))

      len : length (line_rows l ++ rows t) ≡ length (line_rows l) + length (rows t)
      len = length-append (line_rows l) (rows t)

      then_tree : (ρ' : Frame) (s' : State) → LineDone free goal calls env S known w ρ' s' →
          Rel free (TreeDone free (at + length (line_rows l ++ rows t)) calls env S)
          (tree_on n C c calls w.out.next w.out.steps w.memory) (work callee β Γ t L R ρ' s')
      then_tree ρ' s' h =
          subst (λ (y : Ran). Rel free (TreeDone free (at + length (line_rows l ++ rows t)) calls env S) y
          (work callee β Γ t L R ρ' s'))
          (sym (moved (tree_on n C c calls) w.out.next goal w.out.steps s'.left w.memory s'.store
          h.next h.steps h.store))
          (rel_map free (TreeDone free (goal + length (rows t)) calls w.memory.env known)
          (TreeDone free (at + length (line_rows l ++ rows t)) calls env S)
          (tree_on n C c calls goal s'.left (memory s'.store w.memory.env)) (work callee β Γ t L R ρ' s')
          (λ v s'' q. record {
            next = q.next ∙ omega (arith, len);
            word = word_kept free calls env w.memory.env S known (known_stays l S) h.kept _ v s'' q.word;
          })
          (claim n (omega (arith, len, line_some l, lt)) (omega (arith, few)) known d fit.1 sc.1
          (bounded_after l S sc.0 b) goal
          (at_second c.kinds c.operands at (line_rows l) (rows t) rs) L R ρ' s' w.memory.env h.agrees
          (framed_kept h.kept framed) h.levels))

  mutual
    pub tree_same : (t : K.Tree) → Claim t
    tree_same (K.end a) = end_same a
    tree_same (K.line l t) = more_same l t (trees_same l) (tree_same t)

    trees_same : (l : K.Line) → LineClaims l
    trees_same (K.leaf x l us) = tt
    trees_same (K.if_else x a t e) = (tree_same t, tree_same e)
    trees_same (K.loop x k ps us t) = tree_same t
    trees_same (K.retain x) = tt
    trees_same (K.release x) = tt
