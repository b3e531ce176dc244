-- One law for each way out of the walk of lines and trees.
use Rattle.prelude.specs.Kit.{ℕ, ◌≤◌, ◌+◌, ◌<◌, ◌-◌, suc, zero, arith, true, false, Bool, cond, ◌≡◌, ◌≢◌, refl, ◌∙◌, sym, ap}
use Rattle.prelude.specs.Kit.{subst, none, List, ℤ, length, ltb-true}
use Rattle.std.specs.Prelude as R
use Rattle.std.specs.Prelude.{Result, Ok, Err}
use Rattle.laws.specs.Tests.{both_hold}
use Rattle.semantics.specs.Kinds as K
use Rattle.semantics.specs.Outcome.{Outcome, done, stop, onward, require}
use Rattle.semantics.specs.Kinds.{Borrowing, loop_hands, loop_reads, element_name, carried_name}
use Rattle.semantics.specs.Live.{Set, empty}
use Rattle.semantics.specs.Annotate.{NameDepths}
use Rattle.semantics_lent.specs.Hold.{Holds, After, minus, spend, readable, set_aside, lending, hold_also, hold_all, arrays_in}
use Rattle.semantics_lent.specs.Hold.{same_holds, none_bound}
use Rattle.kinds.specs.declared.Atom.{Atom}
use Rattle.machine_code.specs.Reading.{two_rows, line_at}
use Rattle.machine_code.specs.declared.Loop.{Loop}
use Rattle.machine_code.specs.declared.Line.{Line}
use Rattle.machine_code.specs.declared.Line.TheVariants as L
use Rattle.lent_counts.specs.Counted.{counted}
use Rattle.lent_atoms.specs.Told.{meant, told}
use Rattle.lent_form.specs.declared.Fault.{Fault}
use Rattle.lent_hold_lines.specs.declared.Next.{Next}
use Rattle.lent_hold_lines.specs.Lines.{waiting, Below, Passed, Ended, leaf_at, end_at}
use Rattle.lent_hold_trees.specs.Walk.{kind_of, names_of, atoms_of, array_of, may_read, lent_with, aside_of, Walk}
use Rattle.lent_hold_trees.specs.Walk.{end_of, if_at, loop_by}
use Rattle.lent_hold_trees.specs.Walk.{loop_at}
use Rattle.lent_hold_trees.specs.Walk.{line_at_by, step_at, lines_at, tree_at}
use Rattle.lent_hold_trees.proofs.Loops.{read_same, aside_same, lent_same}
use Rattle.lent_hold_trees.proofs.Bounds.{Ends, Under, Went, Came, tree_goes, line_goes, under_minus}
use Rattle.lent_hold_trees.proofs.Bounds.{under_carried}

-- ---- an if

module _ (Γ : NameDepths) (W : Walk) (x : ℕ) (B : Set) (H : Holds) (p : ℕ) {l : List ℕ} where
  pub if_first : {e : Fault} {m : List ℕ} → Ended (W B empty H (none_bound B H) (p + 2)) (Err e) l → length m ≡ 256 →
      Passed (if_at Γ W x B H p) (Err e) m
  unfolding if_at onward
  if_first first long = record { is = rw first.is refl; long = long }

  module _ {q : ℕ} (first : Ended (W B empty H (none_bound B H) (p + 2)) (Ok q) l) {m : List ℕ} where
    pub if_second : {e : Fault} → Ended (W B empty H (same_holds (counted l)) q) (Err e) m →
        Passed (if_at Γ W x B H p) (Err e) m
    unfolding if_at onward
    if_second second = record { is = rw (first.is, second.is) refl; long = second.long }

    pub if_both : {s : ℕ} {k : List ℕ} → Ended (W B empty H (same_holds (counted l)) q) (Ok s) m →
        counted k ≡ hold_also Γ x (counted l) → length k ≡ 256 →
        Passed (if_at Γ W x B H p) (Ok (record { line = s; pending = R.None })) k
    unfolding if_at onward
    if_both second gained long = record { is = rw (first.is, second.is, gained) refl; long = long }

-- ---- a loop

module _ (Γ : NameDepths) (W : Walk) (x : ℕ) (k : Loop) (B : Set) (H : Holds) (p : ℕ) {r : Bool} (l : List ℕ)
    (spent : spend Γ (loop_hands (kind_of k) (atoms_of k)) H ≡ told r l) where
  here : {b : Bool} → r ≡ b → spend Γ (loop_hands (kind_of k) (atoms_of k)) H ≡ told b l
  here e = spent ∙ ap (λ (c : Bool). told c l) e

  pub loop_unspent : r ≡ false → length l ≡ 256 → Passed (loop_at Γ W x k B H p) (Err (record { line = p })) l
  unfolding loop_at loop_by onward
  loop_unspent e long = record { is = rw (here e) refl; long = long }

  module _ (fine : r ≡ true) {a : R.Option ℕ} (array : a ≡ array_of Γ k) {s : Bool}
      (read : s ≡ may_read a B (counted l)) where
    may : s ≡ readable Γ B (counted l) (loop_reads (kind_of k) (atoms_of k))
    may = read ∙ ap (λ (b : R.Option ℕ). may_read b B (counted l)) array ∙ sym (read_same Γ B k (counted l))

    pub loop_unread : s ≡ false → length l ≡ 256 → Passed (loop_at Γ W x k B H p) (Err (record { line = p })) l
    unfolding loop_at loop_by onward require
    loop_unread e long = record { is = rw (here fine, sym may ∙ e) refl; long = long }

    module _ (readable : s ≡ true) {C : Set} (lent : C ≡ lent_with a B) {O : Holds}
        (outer : O ≡ aside_of a B (counted l)) {I : Holds}
        (begun : I ≡ hold_all Γ (carried_name (kind_of k) (names_of k)) O) {P : Set}
        (waits : P ≡ arrays_in Γ (element_name (kind_of k) (names_of k))) {n : ℕ}
        (rows : n ≡ 1 + length (atoms_of k)) where
      lent_so : C ≡ lending Γ (loop_reads (kind_of k) (atoms_of k)) B
      lent_so = lent ∙ ap (λ (b : R.Option ℕ). lent_with b B) array ∙ sym (lent_same Γ B k)

      outer_so : O ≡ set_aside Γ B (loop_reads (kind_of k) (atoms_of k)) (counted l)
      outer_so = outer ∙ ap (λ (b : R.Option ℕ). aside_of b B (counted l)) array ∙ sym (aside_same Γ B k (counted l))

      opens : loop_at Γ W x k B H p
          ≡ onward (λ (K : Holds) (q : ℕ). done (record { holds = hold_also Γ x (counted l); pending = empty }) q)
          (W C P I (same_holds O) (p + n))
      unfolding loop_at loop_by onward require
      opens = rw (here fine, sym may ∙ readable, begun, lent_so, waits, outer_so, rows) refl

      pub loop_fault : {e : Fault} {m : List ℕ} → Ended (W C P I (same_holds O) (p + n)) (Err e) m → length l ≡ 256 →
          Passed (loop_at Γ W x k B H p) (Err e) l
      unfolding onward
      loop_fault tree long = record { is = opens ∙ rw tree.is refl; long = long }

      pub loop_done : {s : ℕ} {m j : List ℕ} → Ended (W C P I (same_holds O) (p + n)) (Ok s) m →
          counted j ≡ hold_also Γ x (counted l) → length j ≡ 256 →
          Passed (loop_at Γ W x k B H p) (Ok (record { line = s; pending = R.None })) j
      unfolding onward
      loop_done tree gained long = record { is = opens ∙ rw (tree.is, gained) refl; long = long }

-- ---- a line

module _ (kinds : List ℕ) (operands : List ℤ) (β : Borrowing) (Γ : NameDepths) (W : Walk) (B P : Set)
    (H : Holds) (p : ℕ)
    {r : Result Next Fault} {l : List ℕ} where
  pub line_if : (x : ℕ) (g : Atom) → Passed (if_at Γ W x B H p) r l →
      Passed (line_at_by kinds operands β Γ W (L.If x g) B P H p) r l
  unfolding line_at_by
  line_if x g h = h

  pub line_loop : (x : ℕ) (k : Loop) → Passed (loop_at Γ W x k B H p) r l →
      Passed (line_at_by kinds operands β Γ W (L.Loop x k) B P H p) r l
  unfolding line_at_by
  line_loop x k h = h

  pub line_leaf : (m : Line) → ((x : ℕ) (g : Atom) → m ≡ L.If x g → ⊥) →
      ((x : ℕ) (k : Loop) → m ≡ L.Loop x k → ⊥) → Passed (leaf_at kinds operands β Γ m B P H p) r l →
      Passed (line_at_by kinds operands β Γ W m B P H p) r l
  unfolding line_at_by
  line_leaf (L.Operation k x a b) f f' h = h
  line_leaf (L.Call x g) f f' h = h
  line_leaf (L.Literal x d) f f' h = h
  line_leaf (L.Index x a b) f f' h = h
  line_leaf (L.Length x a) f f' h = h
  line_leaf (L.Iota x a) f f' h = h
  line_leaf (L.Replicate x a b) f f' h = h
  line_leaf (L.If x g) f f' h = absurd (f x g refl)
  line_leaf (L.Loop x k) f f' h = absurd (f' x k refl)
  line_leaf (L.Retain x) f f' h = h
  line_leaf (L.Release x) f f' h = h
  line_leaf (L.End a) f f' h = h

pub not_end : (m : Line) → ((a : Atom) → m ≡ L.End a → ⊥) → end_of m ≡ none
not_end (L.Operation k x a b) f = refl
not_end (L.Call x g) f = refl
not_end (L.Literal x d) f = refl
not_end (L.Index x a b) f = refl
not_end (L.Length x a) f = refl
not_end (L.Iota x a) f = refl
not_end (L.Replicate x a b) f = refl
not_end (L.If x g) f = refl
not_end (L.Loop x k) f = refl
not_end (L.Retain x) f = refl
not_end (L.Release x) f = refl
not_end (L.End a) f = absurd (f a refl)

-- ---- down the lines of a tree

module _ (kinds : List ℕ) (operands : List ℤ) (β : Borrowing) (Γ : NameDepths) where
  -- what is left of a tree from a line on gives what the whole gives
  pub record Going (levels : ℕ) (B : Set) (ends : Holds → Bool) (o : Outcome ℕ Holds) (left : ℕ) (here : Next)
      (l : List ℕ) : Type 0 where
    pub same : o ≡ lines_at kinds operands β Γ (tree_at kinds operands β Γ (levels - 1)) left B (waiting here.pending)
        (counted l) ends here.line
    pub below : Below here.line l

  pub tree_none : (levels : ℕ) (B P : Set) (l : List ℕ) (ends : Holds → Bool) (p : ℕ) → levels ≡ 0 → length l ≡ 256 →
      Ended (tree_at kinds operands β Γ levels B P (counted l) ends p) (Err (record { line = p })) l
  unfolding tree_at
  tree_none levels B P l ends p e long = record { is = rw e refl; long = long }

  pub going_begins : (levels : ℕ) (B : Set) (ends : Holds → Bool) (here : Next) (l : List ℕ) → levels ≢ 0 →
      Below here.line l →
      Going levels B ends (tree_at kinds operands β Γ levels B (waiting here.pending) (counted l) ends here.line) 4096 here
      l
  unfolding tree_at
  going_begins zero B ends here l f b = absurd (f refl)
  going_begins (suc n) B ends here l f b = record { same = begun; below = b }
    where
      begun : tree_at kinds operands β Γ (suc n) B (waiting here.pending) (counted l) ends here.line
          ≡ lines_at kinds operands β Γ (tree_at kinds operands β Γ (suc n - 1)) 4096 B (waiting here.pending)
          (counted l) ends here.line
      begun = let z : suc n - 1 ≡ n = omega arith in rw (z, tree_at) refl

module _ {kinds : List ℕ} {operands : List ℤ} {β : Borrowing} {Γ : NameDepths} {levels : ℕ} {B : Set}
    {ends : Holds → Bool} {o : Outcome ℕ Holds} {left : ℕ} {here : Next} {l : List ℕ}
    (g : Going kinds operands β Γ levels B ends o left here l) where
  pub going_over : left ≡ 0 → Ended o (Err (record { line = here.line })) l
  unfolding lines_at
  going_over e = record { is = g.same ∙ rw e refl; long = g.below.long }

  stepped : (n : ℕ) → left ≡ suc n → o ≡ elim (two_rows kinds operands here.line) [
    | true ↦ step_at kinds operands β Γ (tree_at kinds operands β Γ (levels - 1))
        (lines_at kinds operands β Γ (tree_at kinds operands β Γ (levels - 1)) n) (line_at kinds operands here.line) B
        (waiting here.pending) (counted l) ends here.line
    | false ↦ stop 29 here.line
  ]
  unfolding lines_at
  stepped n e = g.same ∙ rw e refl

  -- the next row is the last
  pub going_short : 0 < left → two_rows kinds operands here.line ≡ false →
      Ended o (Err (record { line = here.line })) l
  going_short h e = record { is = stepped (left - 1) (omega (arith, h)) ∙ rw e refl; long = g.below.long }

  module _ (more : 0 < left) (rows : two_rows kinds operands here.line ≡ true) {m : Line}
      (line : m ≡ line_at kinds operands here.line) where
    on_line : o ≡ step_at kinds operands β Γ (tree_at kinds operands β Γ (levels - 1))
        (lines_at kinds operands β Γ (tree_at kinds operands β Γ (levels - 1)) (left - 1)) m B
        (waiting here.pending) (counted l) ends here.line
    on_line = stepped (left - 1) (omega (arith, more)) ∙ rw (rows, ← line) refl

    pub going_ends : {a : Atom} → m ≡ L.End a → {r : Result ℕ Fault} {k : List ℕ} →
        Ended (end_at Γ (meant a) (counted l) ends here.line) r k → Ended o r k
    unfolding step_at
    going_ends e h = record { is = on_line ∙ rw e h.is; long = h.long }

    module _ (open_line : end_of m ≡ none) where
      onwards : o ≡ onward (λ (A : After). lines_at kinds operands β Γ
          (tree_at kinds operands β Γ (levels - 1)) (left - 1)
          B A.pending A.holds ends)
          (line_at_by kinds operands β Γ (tree_at kinds operands β Γ (levels - 1)) m B (waiting here.pending) (counted l)
          here.line)
      unfolding step_at
      onwards = on_line ∙ rw (open_line, step_at) refl

      pub going_fault : {e : Fault} {k : List ℕ} →
          Passed (line_at_by kinds operands β Γ (tree_at kinds operands β Γ (levels - 1)) m B (waiting here.pending)
          (counted l) here.line) (Err e) k → Ended o (Err e) k
      unfolding onward
      going_fault passed = record { is = onwards ∙ rw passed.is refl; long = passed.long }

      pub going_more : {next : Next} {k : List ℕ} →
          Passed (line_at_by kinds operands β Γ (tree_at kinds operands β Γ (levels - 1)) m B (waiting here.pending)
          (counted l) here.line) (Ok next) k → Going kinds operands β Γ levels B ends o (left - 1) next k
      unfolding onward
      going_more passed = record {
        same = onwards ∙ rw passed.is refl;
        below = record {
          long = passed.long;
          below = (subst (Ends (Went here.line)) passed.is (line_goes kinds operands β Γ
              (tree_at kinds operands β Γ (levels - 1)) (tree_goes kinds operands β Γ (levels - 1)) m B
              (waiting here.pending) (counted l) here.line g.below.below)).1;
        };
      }

-- ---- how large counts are after a tree

pub after_tree : (kinds : List ℕ) (operands : List ℤ) (β : Borrowing) (Γ : NameDepths) (levels : ℕ) (B P : Set)
    (ends : Holds → Bool) {p : ℕ} (l : List ℕ) {q : ℕ} {k : List ℕ} → Below p l →
    Ended (tree_at kinds operands β Γ levels B P (counted l) ends p) (Ok q) k → Came kinds operands β Γ p (counted k) q
after_tree kinds operands β Γ levels B P ends {p} l b h =
    subst (Ends (Came kinds operands β Γ p)) h.is
    (tree_goes kinds operands β Γ levels B P (counted l) ends p b.below)

-- counts within the lines
pub within : {p : ℕ} (q : ℕ) (l : List ℕ) → Below p l → p ≤ q → Below q l
within {p} q l b h = record { long = b.long; below = λ n. omega (arith, b.below n, h) }

pub outer_below : (a : R.Option ℕ) (B : Set) {m : ℕ} (l o : List ℕ) → Below m l → length o ≡ 256 →
    counted o ≡ aside_of a B (counted l) → Below m o
outer_below a B {m} l o b h e = record { long = h; below = subst (Under m) (sym e) (go a) }
  where
    go : (a : R.Option ℕ) → Under m (aside_of a B (counted l))
    go R.None = b.below
    go (R.Some x) = at (B x)
      where
        at : (c : Bool) → Under m (cond c (counted l) (minus x (counted l)))
        at true = b.below
        at false = under_minus m x (counted l) b.below

pub begun_below : (Γ : NameDepths) (k : K.Loop) (ps : List ℕ) {m : ℕ} (o l : List ℕ) → Below m o → length l ≡ 256 →
    counted l ≡ hold_all Γ (carried_name k ps) (counted o) → Below (m + 1) l
begun_below Γ k ps {m} o l b h e = record {
  long = h;
  below = subst (Under (m + 1)) (sym e) (under_carried Γ m k ps (counted o) b.below);
}

pub rows_within : (kinds : List ℕ) (operands : List ℤ) (p : ℕ) → two_rows kinds operands p ≡ true → p + 1 < length kinds
unfolding two_rows
rows_within kinds operands p e = ltb-true (p + 1) (length kinds) (both_hold _ _ e).0
