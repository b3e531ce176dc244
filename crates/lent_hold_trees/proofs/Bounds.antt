-- How far a walk goes, and how large counts get: none is above the number of the next line.
use Rattle.prelude.specs.Kit.{ℕ, ◌≤◌, ◌+◌, ◌<◌, suc, zero, pred, arith, ℕ_discrete, true, false, Bool, cond, ◌&&◌}
use Rattle.prelude.specs.Kit.{not, ◌≡◌, refl, sym, subst, some, none, Option, List, [], ◌∷◌, eqb, ltb, ℤ, length}
use Rattle.prelude.specs.Kit.{ne_eqb, eq-eqb, ltb-true}
use Rattle.std.specs.Prelude as R
use Rattle.laws.specs.Tests.{both_hold}
use Rattle.semantics.specs.Basics.{updated}
use Rattle.semantics.specs.Outcome.{Outcome, done, stop, onward, require}
use Rattle.semantics.specs.Kinds.{Borrowing, picked, carried_name, loop_hands, loop_reads, element_name}
use Rattle.semantics.specs.Kinds as K
use Rattle.semantics.specs.Code as C
use Rattle.semantics.specs.Live.{Set, empty}
use Rattle.semantics.specs.Annotate.{NameDepths, is_array}
use Rattle.semantics_lent.specs.Form.{Test}
use Rattle.semantics_lent.specs.Hold.{Holds, After, plus, minus, spend, readable, set_aside, lending, hold_also}
use Rattle.semantics_lent.specs.Hold.{hold_all, arrays_in, same_holds, none_bound}
use Rattle.kinds.specs.declared.Atom.{Atom}
use Rattle.machine_code.specs.Reading.{two_rows, line_at}
use Rattle.machine_code.specs.declared.Line.{Line}
use Rattle.machine_code.specs.declared.Line.TheVariants as L
use Rattle.lent_atoms.specs.Told.{meant}
use Rattle.lent_hold_lines.specs.Lines.{atoms_from, is_read, may_retain, read_at, index_at, hand_at, retain_at}
use Rattle.lent_hold_lines.specs.Lines.{release_at}
use Rattle.lent_hold_lines.specs.Lines.{end_at, leaf_at}
use Rattle.lent_hold_trees.specs.Walk.{kind_of, names_of, atoms_of, Walk, end_of, if_at, loop_by, loop_at}
use Rattle.lent_hold_trees.specs.Walk.{line_at_by}
use Rattle.lent_hold_trees.specs.Walk.{step_at, lines_at, tree_at}

-- ---- outcomes

abbrev pub Ends : {A : Type 0} → (A → ℕ → Type 0) → Outcome ℕ A → Type 0
Ends Q (done a q) = Q a q
Ends Q (stop n q) = Unit {0}

then : {A B : Type 0} (P : A → ℕ → Type 0) (Q : B → ℕ → Type 0) (f : A → Test B) (o : Outcome ℕ A) → Ends P o →
    ((a : A) (q : ℕ) → P a q → Ends Q (f a q)) → Ends Q (onward f o)
unfolding onward
then P Q f (done a q) h k = k a q h
then P Q f (stop n q) h k = tt

test : {A : Type 0} (Q : A → ℕ → Type 0) (b : Bool) (p : ℕ) (f : Unit {0} → Test A) → Ends Q (f tt p) →
    Ends Q (onward f (require b 29 p))
unfolding onward require
test Q true p f h = h
test Q false p f h = tt

abbrev from_here : ℕ → Test Holds → Outcome ℕ Holds
from_here p t = t p

-- ---- counts

abbrev pub Under : ℕ → Holds → Type 0
Under m H = (n : ℕ) → H n ≤ m

under_put : (m x v : ℕ) (H : Holds) → v ≤ m → Under m H → Under m (updated H x v)
unfolding updated
under_put m x v H g h n = go (ℕ_discrete x n)
  where
    go : Dec (x ≡ n) → cond (eqb x n) v (H n) ≤ m
    go (yes e) = subst (λ (b : Bool). cond b v (H n) ≤ m) (sym (eq-eqb x n e)) g
    go (no f) = subst (λ (b : Bool). cond b v (H n) ≤ m) (sym (ne_eqb x n f)) (h n)

more : (m k : ℕ) (H : Holds) → m ≤ k → Under m H → Under k H
more m k H g h n = omega (arith, g, h n)

under_plus : (m x : ℕ) (H : Holds) → Under m H → Under (m + 1) (plus x H)
under_plus m x H h = under_put (m + 1) x (suc (H x)) H (omega (arith, h x)) (more m (m + 1) H (omega arith) h)

pub under_minus : (m x : ℕ) (H : Holds) → Under m H → Under m (minus x H)
under_minus m x H h = under_put m x (pred (H x)) H (omega (arith, h x)) h

module _ (Γ : NameDepths) where
  pub under_also : (m x : ℕ) (H : Holds) → Under m H → Under (m + 1) (hold_also Γ x H)
  under_also m x H h = go (is_array Γ x)
    where
      go : (b : Bool) → Under (m + 1) (cond b (plus x H) H)
      go true = under_plus m x H h
      go false = more m (m + 1) H (omega arith) h

  pub under_carried : (m : ℕ) (k : K.Loop) (ps : List ℕ) (H : Holds) → Under m H →
      Under (m + 1) (hold_all Γ (carried_name k ps) H)
  under_carried m K.mapping ps H h = more m (m + 1) H (omega arith) h
  under_carried m K.filtering ps H h = more m (m + 1) H (omega arith) h
  under_carried m K.reducing [] H h = more m (m + 1) H (omega arith) h
  under_carried m K.reducing (p ∷ ps) H h = under_also m p H h
  under_carried m K.rewriting ps H h = more m (m + 1) H (omega arith) h

  pub under_aside : (m : ℕ) (B : Set) (us : List C.Atom) (H : Holds) → Under m H → Under m (set_aside Γ B us H)
  under_aside m B [] H h = h
  under_aside m B (C.number z ∷ us) H h = under_aside m B us H h
  under_aside m B (C.name x ∷ us) H h = go (is_array Γ x && not (B x)) (λ I g. under_aside m B us I g)
    where
      go : (b : Bool) → ((I : Holds) → Under m I → Under m (set_aside Γ B us I)) →
          Under m (set_aside Γ B us (cond b (minus x H) H))
      go true later = later (minus x H) (under_minus m x H h)
      go false later = later H h

  -- hand-overs stay at their line
  abbrev Spent : ℕ → ℕ → Holds → ℕ → Type 0
  Spent m p I q = (q ≡ p) × Under m I

  under_spend : (m : ℕ) (us : List C.Atom) (H : Holds) (p : ℕ) → Under m H → Ends (Spent m p) (spend Γ us H p)
  unfolding spend onward require
  under_spend m [] H p h = (refl, h)
  under_spend m (C.number z ∷ us) H p h = under_spend m us H p h
  under_spend m (C.name x ∷ us) H p h = go (is_array Γ x) (ltb 0 (H x)) (λ I g. under_spend m us I p g)
    where
      go : (a b : Bool) → ((I : Holds) → Under m I → Ends (Spent m p) (spend Γ us I p)) →
          Ends (Spent m p) (onward (λ (I : Holds). spend Γ us I)
          (cond {A = Test Holds} a (λ (s : ℕ). onward (λ (u : Unit {0}) (t : ℕ). done (minus x H) t) (require b 29 s))
          (λ (s : ℕ). done H s) p))
      go true true later = later (minus x H) (under_minus m x H h)
      go true false later = tt
      go false b later = later H h

-- ---- lines

-- after a line from p on
abbrev pub Went : ℕ → After → ℕ → Type 0
Went p A q = (p < q) × Under q A.holds

module _ (Γ : NameDepths) where
  read_goes : (x n : ℕ) (b : Bool) (H : Holds) (p : ℕ) → Under p H → Ends (Went p) (read_at Γ x n b H p)
  unfolding read_at onward
  read_goes x n b H p h =
      test (Went p) b p _ (
        omega arith,
        more (p + 1) (p + (1 + n)) (hold_also Γ x H) (omega arith)
            (under_also Γ p x H h),
      )

  index_goes : (x : ℕ) (b : Bool) (H : Holds) (p : ℕ) → Under p H → Ends (Went p) (index_at Γ x b H p)
  unfolding index_at onward
  index_goes x b H p h = test (Went p) b p _ (omega arith, more p (p + 3) H (omega arith) h)

retain_goes : (x : ℕ) (B P : Set) (H : Holds) (p : ℕ) → Under p H → Ends (Went p) (retain_at x B P H p)
unfolding retain_at onward
retain_goes x B P H p h = test (Went p) (may_retain P B H x) p _ (omega arith, under_plus p x H h)

release_goes : (x : ℕ) (H : Holds) (p : ℕ) → Under p H → Ends (Went p) (release_at x H p)
unfolding release_at onward
release_goes x H p h =
    test (Went p) (ltb 0 (H x)) p _ (omega arith, more p (p + 1) (minus x H) (omega arith) (under_minus p x H h))

module _ (kinds : List ℕ) (operands : List ℤ) (β : Borrowing) (Γ : NameDepths) where
  hand_goes : (x : ℕ) (callee : R.Option ℕ) (B : Set) (H : Holds) (p : ℕ) → Under p H →
      Ends (Went p) (hand_at kinds operands β Γ x callee B H p)
  unfolding hand_at onward
  hand_goes x callee B H p h =
      let us = atoms_from kinds operands 16 (p + 1) in
      then (λ (I : Holds) (q : ℕ). (q ≡ p) × Under p I) (Went p) _
      (spend Γ (picked (λ i. not (is_read β callee i)) 0 us) H p)
      (under_spend Γ p (picked (λ i. not (is_read β callee i)) 0 us) H p h) (λ I q k.
      test (Went p) (readable Γ B I (picked (is_read β callee) 0 us)) q _ (
        omega (arith, k.0),
        more (p + 1) (q + (1 + length us)) (hold_also Γ x I) (omega (arith, k.0))
            (under_also Γ p x I k.1),
      ))

  pub leaf_goes : (l : Line) (B P : Set) (H : Holds) (p : ℕ) → Under p H →
      Ends (Went p) (leaf_at kinds operands β Γ l B P H p)
  unfolding leaf_at
  leaf_goes (L.Operation k x a b) B P H p h = read_goes Γ x 2 _ H p h
  leaf_goes (L.Call x g) B P H p h = hand_goes x (R.Some g) B H p h
  leaf_goes (L.Literal x d) B P H p h = hand_goes x R.None B H p h
  leaf_goes (L.Index x a b) B P H p h = index_goes Γ x _ H p h
  leaf_goes (L.Length x a) B P H p h = read_goes Γ x 1 _ H p h
  leaf_goes (L.Iota x a) B P H p h = read_goes Γ x 1 _ H p h
  leaf_goes (L.Replicate x a b) B P H p h = read_goes Γ x 2 _ H p h
  leaf_goes (L.If x g) B P H p h = tt
  leaf_goes (L.Loop x k) B P H p h = tt
  leaf_goes (L.Retain x) B P H p h = retain_goes x B P H p h
  leaf_goes (L.Release x) B P H p h = release_goes x H p h
  leaf_goes (L.End a) B P H p h = tt

  -- ---- trees

  -- after a tree from p on
  abbrev pub Came : ℕ → Holds → ℕ → Type 0
  Came p I q = (p < q) × ((q ≤ length kinds) × Under q I)

  abbrev Goes : Walk → Type 0
  Goes W = (B P : Set) (H : Holds) (ends : Holds → Bool) (p : ℕ) → Under p H → Ends (Came p) (W B P H ends p)

  module _ (W : Walk) (goes : Goes W) where
    if_goes : (x : ℕ) (B : Set) (H : Holds) (p : ℕ) → Under p H → Ends (Went p) (if_at Γ W x B H p)
    unfolding if_at onward
    if_goes x B H p h =
        then (Came (p + 2)) (Went p) _ (W B empty H (none_bound B H) (p + 2))
        (goes B empty H (none_bound B H) (p + 2) (more p (p + 2) H (omega arith) h)) (λ I q k.
        then (Came q) (Went p) _ (W B empty H (same_holds I) q)
        (goes B empty H (same_holds I) q (more p q H (omega (arith, k.0)) h)) (λ K r m. (
          omega (arith, k.0, m.0),
          more (q + 1) r (hold_also Γ x I) (omega (arith, m.0))
              (under_also Γ q x I k.1.1),
        )))

    loop_goes : (x : ℕ) (k : K.Loop) (ps : List ℕ) (us : List C.Atom) (B : Set) (H : Holds) (p : ℕ) → Under p H →
        Ends (Went p) (loop_by Γ W x k ps us B H p)
    unfolding loop_by onward
    loop_goes x k ps us B H p h =
        let reads = loop_reads k us in
        then (λ (I : Holds) (q : ℕ). (q ≡ p) × Under p I) (Went p) _ (spend Γ (loop_hands k us) H p)
        (under_spend Γ p (loop_hands k us) H p h) (λ I q e.
        test (Went p) (readable Γ B I reads) q _
        (let O = set_aside Γ B reads I in
        then (Came (q + (1 + length us))) (Went p) _
        (W (lending Γ reads B) (arrays_in Γ (element_name k ps)) (hold_all Γ (carried_name k ps) O) (same_holds O)
        (q + (1 + length us)))
        (goes (lending Γ reads B) (arrays_in Γ (element_name k ps)) (hold_all Γ (carried_name k ps) O) (same_holds O)
        (q + (1 + length us)) (more (p + 1) (q + (1 + length us)) (hold_all Γ (carried_name k ps) O)
        (omega (arith, e.0))
        (under_carried Γ p k ps O (under_aside Γ p B reads I e.1)))) (λ K r m. (
          omega (arith, e.0, m.0),
          more (p + 1) r (hold_also Γ x I) (omega (arith, e.0, m.0))
              (under_also Γ p x I e.1),
        ))))

    pub line_goes : (l : Line) (B P : Set) (H : Holds) (p : ℕ) → Under p H →
        Ends (Went p) (line_at_by kinds operands β Γ W l B P H p)
    unfolding line_at_by loop_at
    line_goes (L.Operation k x a b) B P H p h = leaf_goes (L.Operation k x a b) B P H p h
    line_goes (L.Call x g) B P H p h = leaf_goes (L.Call x g) B P H p h
    line_goes (L.Literal x d) B P H p h = leaf_goes (L.Literal x d) B P H p h
    line_goes (L.Index x a b) B P H p h = leaf_goes (L.Index x a b) B P H p h
    line_goes (L.Length x a) B P H p h = leaf_goes (L.Length x a) B P H p h
    line_goes (L.Iota x a) B P H p h = leaf_goes (L.Iota x a) B P H p h
    line_goes (L.Replicate x a b) B P H p h = leaf_goes (L.Replicate x a b) B P H p h
    line_goes (L.If x g) B P H p h = if_goes x B H p h
    line_goes (L.Loop x k) B P H p h = loop_goes x (kind_of k) (names_of k) (atoms_of k) B H p h
    line_goes (L.Retain x) B P H p h = leaf_goes (L.Retain x) B P H p h
    line_goes (L.Release x) B P H p h = leaf_goes (L.Release x) B P H p h
    line_goes (L.End a) B P H p h = leaf_goes (L.End a) B P H p h

    end_goes : (a : C.Atom) (H : Holds) (ends : Holds → Bool) (p : ℕ) → p + 1 < length kinds → Under p H →
        Ends (Came p) (end_at Γ a H ends p)
    unfolding end_at onward
    end_goes a H ends p g h =
        then (λ (I : Holds) (q : ℕ). (q ≡ p) × Under p I) (Came p) _ (spend Γ (a ∷ []) H p)
        (under_spend Γ p (a ∷ []) H p h) (λ I q k.
        test (Came p) (ends I) q _
        (omega (arith, k.0), (omega (arith, k.0, g), more p (q + 2) I (omega (arith, k.0)) k.1)))

    lines_goes : (n : ℕ) → Goes (lines_at kinds operands β Γ W n)
    unfolding lines_at step_at two_rows
    lines_goes zero B P H ends p h = tt
    lines_goes (suc n) B P H ends p h =
        go (two_rows kinds operands p) refl (line_at kinds operands p) (end_of (line_at kinds operands p))
        (λ C Q I q k. lines_goes n C Q I ends q k)
      where
        weaker : (q : ℕ) (o : Outcome ℕ Holds) → p < q → Ends (Came q) o → Ends (Came p) o
        weaker q (done I r) g k = (omega (arith, g, k.0), k.1)
        weaker q (stop m r) g k = tt

        go : (b : Bool) → two_rows kinds operands p ≡ b → (l : Line) (e : Option Atom) →
            ((C Q : Set) (I : Holds) (q : ℕ) → Under q I → Ends (Came q)
            (lines_at kinds operands β Γ W n C Q I ends q)) →
            Ends (Came p) (elim b [
              | true ↦ from_here p (elim e [
                | some a ↦ end_at Γ (meant a) H ends
                | none ↦ (λ (s : ℕ). onward (λ (A : After). lines_at kinds operands β Γ W n B A.pending
                    A.holds ends)
                    (line_at_by kinds operands β Γ W l B P H s))
              ])
              | false ↦ stop 29 p
            ])
        go false g l e later = tt
        go true g l (some a) later =
            end_goes (meant a) H ends p (ltb-true (p + 1) (length kinds) (both_hold _ _ g).0) h
        go true g l none later =
            then (Went p) (Came p) _ (line_at_by kinds operands β Γ W l B P H p) (line_goes l B P H p h) (λ A q k.
            weaker q (lines_at kinds operands β Γ W n B A.pending A.holds ends q) k.0
            (later B A.pending A.holds q k.1))

  pub tree_goes : (n : ℕ) → Goes (tree_at kinds operands β Γ n)
  unfolding tree_at
  tree_goes zero B P H ends p h = tt
  tree_goes (suc n) B P H ends p h = lines_goes (tree_at kinds operands β Γ n) (tree_goes n) 4096 B P H ends p h
