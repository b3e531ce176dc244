-- Where the rows of a tree stand from a position on, the walk by positions is the walk over the tree.
use Rattle.std.specs.Prelude.{ℕ, ◌≤◌, ◌+◌, ◌<◌, suc, zero, ◌*◌, ◌%◌, ◌/◌, pred, true, false, Bool, ◌≡◌, refl, List}
use Rattle.std.specs.Prelude.{[], ◌∷◌, map, ℤ, length, get_or}
use Rattle.prelude.specs.Kit.{arith, ◌∙◌, sym, ap, subst, some, none, Option, length-append, length-map}
use Rattle.semantics.specs.Outcome.{Outcome, done, stop, onward, require}
use Rattle.semantics.specs.Number.{Operation, sum, difference, less}
use Rattle.semantics.specs.Kinds.{Borrowing, Leaf, operation, call, literal, index, length_of, iota, replicate}
use Rattle.semantics.specs.Kinds.{leaf_kind}
use Rattle.semantics.specs.Kinds.{mapping, filtering, reducing, rewriting, picked, loop_hands, loop_reads}
use Rattle.semantics.specs.Kinds.{element_name, carried_name, operation_kind, leaf_operand, packed_names, loop_kind}
use Rattle.semantics.specs.Kinds as K
use Rattle.semantics.specs.Code as C
use Rattle.semantics.specs.Code.{row, atom_row, rows, line_rows}
use Rattle.semantics.specs.Live.{Set, empty}
use Rattle.semantics.specs.Annotate.{NameDepths}
use Rattle.semantics_lent.specs.Form.{Test}
use Rattle.semantics_lent.specs.Hold.{Holds, After, spend, readable, hold_tree, hold_line, none_bound, same_holds}
use Rattle.semantics_lent.specs.Hold.{set_aside}
use Rattle.semantics_lent.specs.Hold.{lending, arrays_in, hold_all}
use Rattle.kinds.specs.declared.Atom.{Atom}
use Rattle.machine_code.specs.Reading.{atom_at, is_atom, two_rows, line_of, line_at}
use Rattle.machine_code.specs.Rows.{Here, At, at_first, at_second, coded, atom_here, line_read, no_atom, line_some}
use Rattle.machine_code.specs.Rows.{tree_within}
use Rattle.machine_code.specs.declared.Loop.TheVariants as P
use Rattle.machine_code.specs.declared.Line.{Line}
use Rattle.machine_code.specs.declared.Line.TheVariants as L
use Rattle.lent_atoms.specs.Told.{meant}
use Rattle.lent_hold_lines.specs.Lines.{read_at, index_at, hand_at, retain_at, release_at, end_at, leaf_at}
use Rattle.lent_hold_trees.specs.Walk.{Walk, end_of, if_at, loop_by, loop_at, line_at_by, step_at, lines_at, tree_at}
use Rattle.lent_passing.specs.Ends.{Ends}
use Rattle.lent_passing.specs.Reading.{SmallAtom, SmallAtoms, LeafFormed, LoopFormed, Formed, LineFormed}
use Rattle.lent_passing.specs.Reading.{some_levels}
use Rattle.lent_hold_laws.specs.Rows.{at_few, meant_coded, atoms_same}
use Rattle.lent_hold_laws.specs.Moves.{stays, tree_moves, line_moves}

-- functions' numbers of parameters that are no more than the atoms that a call is read with
abbrev pub Short : List (Option ℕ) → Type 0
Short arities = (f n : ℕ) → get_or arities f none ≡ some n → n ≤ 16

-- ---- runs that agree

pub alike : {A B : Type 0} (Q : A → ℕ → Type 0) (f g : A → Test B) (o : Outcome ℕ A) → Ends Q o →
    ((a : A) (q : ℕ) → Q a q → f a q ≡ g a q) → onward f o ≡ onward g o
unfolding onward
alike Q f g (done a q) h k = k a q h
alike Q f g (stop n q) h k = refl

test_alike : {A : Type 0} (f g : Unit {0} → Test A) (b : Bool) (p : ℕ) → f tt p ≡ g tt p →
    onward f (require b 29 p) ≡ onward g (require b 29 p)
unfolding onward require
test_alike f g true p h = h
test_alike f g false p h = refl

-- ---- picked atoms

pub picked_all : (us : List C.Atom) (i : ℕ) → picked (λ j. true) i us ≡ us
picked_all [] i = refl
picked_all (a ∷ us) i = ap (λ (l : List C.Atom). a ∷ l) (picked_all us (suc i))

pub picked_none : (us : List C.Atom) (i : ℕ) → picked (λ j. false) i us ≡ []
picked_none [] i = refl
picked_none (a ∷ us) i = picked_none us (suc i)

operation_read : (o : Operation) (n : ℕ) (u v : Atom) →
    line_of (operation_kind o) n u v ≡ L.Operation (operation_kind o) (n % 256) u v
operation_read sum n u v = refl
operation_read difference n u v = refl
operation_read less n u v = refl

-- bytes of an operand
bytes_one : (f : ℕ → ℕ → Line) (x y : ℕ) → x < 256 → y < 256 →
    f ((x + 256 * (y + 256 * 0)) % 256) ((x + 256 * (y + 256 * 0)) / 256 % 256) ≡ f x y
bytes_one f x y h g =
    ap (λ (u : ℕ). f u ((x + 256 * (y + 256 * 0)) / 256 % 256))
    (let z : (x + 256 * (y + 256 * 0)) % 256 ≡ x = omega (arith, h) in z)
    ∙ ap (f x) (let z : (x + 256 * (y + 256 * 0)) / 256 % 256 ≡ y = omega (arith, h, g) in z)

bytes_two : (f : ℕ → ℕ → ℕ → Line) (x y w : ℕ) → x < 256 → y < 256 → w < 256 →
    f ((x + 256 * (y + 256 * (w + 256 * 0))) % 256) ((x + 256 * (y + 256 * (w + 256 * 0))) / 256 % 256)
    ((x + 256 * (y + 256 * (w + 256 * 0))) / 65536 % 256) ≡ f x y w
bytes_two f x y w h g i =
    ap (λ (u : ℕ). f u ((x + 256 * (y + 256 * (w + 256 * 0))) / 256 % 256)
    ((x + 256 * (y + 256 * (w + 256 * 0))) / 65536 % 256))
    (let z : (x + 256 * (y + 256 * (w + 256 * 0))) % 256 ≡ x = omega (arith, h) in z)
    ∙ ap (λ (u : ℕ). f x u ((x + 256 * (y + 256 * (w + 256 * 0))) / 65536 % 256))
    (let z : (x + 256 * (y + 256 * (w + 256 * 0))) / 256 % 256 ≡ y = omega (arith, h, g) in z)
    ∙ ap (f x y) (let z : (x + 256 * (y + 256 * (w + 256 * 0))) / 65536 % 256 ≡ w = omega (arith, h, g, i) in z)

module _ (kinds : List ℕ) (operands : List ℤ) (few : length kinds ≤ 4096) (arities : List (Option ℕ))
    (short : Short arities) (β : Borrowing) (Γ : NameDepths) where
  abbrev T : ℕ → Walk
  T levels = tree_at kinds operands β Γ levels

  -- the line at a position is the line l of a tree
  record Alike (W : Walk) (l : C.Line) (p : ℕ) : Type 0 where
    open_line : end_of (line_at kinds operands p) ≡ none
    same : (B P : Set) (H : Holds) →
        line_at_by kinds operands β Γ W (line_at kinds operands p) B P H p ≡ hold_line β Γ l B P H p

  made : (W : Walk) (l : C.Line) (p : ℕ) (m : Line) → line_at kinds operands p ≡ m → end_of m ≡ none →
      ((B P : Set) (H : Holds) → line_at_by kinds operands β Γ W m B P H p ≡ hold_line β Γ l B P H p) → Alike W l p
  made W l p m e f h = record {
    open_line = ap end_of e ∙ f;
    same = λ B P H. ap (λ (n : Line). line_at_by kinds operands β Γ W n B P H p) e ∙ h B P H;
  }

  -- ---- leaves

  module _ (W : Walk) (x p : ℕ) (small : x < 256) where
    byte : x % 256 ≡ x
    byte = omega (arith, small)

    two : (k : ℕ) (a b : C.Atom) → Here kinds operands p (row k x) → SmallAtoms (a ∷ (b ∷ [])) →
        At kinds operands (p + 1) (map atom_row (a ∷ (b ∷ []))) →
        line_at kinds operands p ≡ line_of k x (coded a) (coded b)
    two k a b h s r =
        line_read kinds operands p k x (coded a) (coded b) (omega (arith, small)) h.kind h.operand
        (atom_here kinds operands (p + 1) a s.0 r.0)
        (ap (atom_at kinds operands) (let z : p + 2 ≡ p + 1 + 1 = omega arith in z)
        ∙ atom_here kinds operands (p + 1 + 1) b s.1.0 r.1.0)

    one : (k : ℕ) (a : C.Atom) → Here kinds operands p (row k x) → SmallAtom a → Here kinds operands (p + 1)
        (atom_row a) →
        line_at kinds operands p ≡ line_of k x (coded a) (atom_at kinds operands (p + 2))
    one k a h s r =
        line_read kinds operands p k x (coded a) _ (omega (arith, small)) h.kind h.operand
        (atom_here kinds operands (p + 1) a s r) refl

    leaf_alike : (l : Leaf) (us : List C.Atom) → SmallAtoms us → LeafFormed arities l (length us) →
        Here kinds operands p (row (leaf_kind l) (leaf_operand l x (length us))) →
        At kinds operands (p + 1) (map atom_row us) → is_atom (get_or kinds (p + 1 + length us) 0) ≡ false →
        Alike W (C.leaf x l us) p
    unfolding hold_line line_at_by leaf_at read_at index_at hand_at spend onward
    leaf_alike (operation o) (a ∷ b ∷ []) s k h r e =
        made W (C.leaf x (operation o) (a ∷ (b ∷ []))) p (L.Operation (operation_kind o) x (coded a) (coded b))
        (two (operation_kind o) a b h s r ∙ operation_read o x (coded a) (coded b)
        ∙ ap (λ (y : ℕ). L.Operation (operation_kind o) y (coded a) (coded b)) byte) refl
        (λ B P H. (λ j. read_at Γ x 2 (readable Γ B H (meant_coded a j ∷ (meant_coded b j ∷ []))) H p))
    leaf_alike (operation o) [] s k h r e = absurd (omega (arith, k))
    leaf_alike (operation o) (a ∷ []) s k h r e = absurd (omega (arith, k))
    leaf_alike (operation o) (a ∷ b ∷ c ∷ us) s k h r e = absurd (omega (arith, k))
    leaf_alike (call f) us s k h r e =
        made W (C.leaf x (call f) us) p (L.Call x f)
        (line_read kinds operands p 8 (x + 256 * f) _ _ (omega (arith, small, k.0)) h.kind h.operand refl refl
        ∙ ap (λ (y : ℕ). L.Call y ((x + 256 * f) / 256 % 256))
        (let z : (x + 256 * f) % 256 ≡ x = omega (arith, small) in z)
        ∙ ap (L.Call x) (let z : (x + 256 * f) / 256 % 256 ≡ f = omega (arith, small, k.0) in z)) refl
        (λ B P H. rw (atoms_same kinds operands us 16 (p + 1) (short f (length us) k.1.1) s r e) refl)
    leaf_alike (literal d) us s k h r e =
        made W (C.leaf x (literal d) us) p (L.Literal x d)
        (line_read kinds operands p 9 (x + 256 * length us + 65536 * d) _ _ (omega (arith, small, k))
        h.kind h.operand
        refl refl
        ∙ ap (λ (y : ℕ). L.Literal y ((x + 256 * length us + 65536 * d) / 65536 % 256))
        (let z : (x + 256 * length us + 65536 * d) % 256 ≡ x = omega (arith, small) in z)
        ∙ ap (L.Literal x) (let z : (x + 256 * length us + 65536 * d) / 65536 % 256 ≡ d = omega
        (arith, small, k) in z)) refl
        (λ B P H. rw (atoms_same kinds operands us 16 (p + 1) k.0 s r e, picked_all us 0, picked_none us 0) refl)
    leaf_alike index (a ∷ b ∷ []) s k h r e =
        made W (C.leaf x index (a ∷ (b ∷ []))) p (L.Index x (coded a) (coded b))
        (two 10 a b h s r ∙ ap (λ (y : ℕ). L.Index y (coded a) (coded b)) byte) refl
        (λ B P H. (λ j. index_at Γ x (readable Γ B H (meant_coded a j ∷ (meant_coded b j ∷ []))) H p))
    leaf_alike index [] s k h r e = absurd (omega (arith, k))
    leaf_alike index (a ∷ []) s k h r e = absurd (omega (arith, k))
    leaf_alike index (a ∷ b ∷ c ∷ us) s k h r e = absurd (omega (arith, k))
    leaf_alike length_of (a ∷ []) s k h r e =
        made W (C.leaf x length_of (a ∷ [])) p (L.Length x (coded a))
        (one 11 a h s.0 r.0 ∙ ap (λ (y : ℕ). L.Length y (coded a)) byte) refl
        (λ B P H. (λ j. read_at Γ x 1 (readable Γ B H (meant_coded a j ∷ [])) H p))
    leaf_alike length_of [] s k h r e = absurd (omega (arith, k))
    leaf_alike length_of (a ∷ b ∷ us) s k h r e = absurd (omega (arith, k))
    leaf_alike iota (a ∷ []) s k h r e =
        made W (C.leaf x iota (a ∷ [])) p (L.Iota x (coded a))
        (one 17 a h s.0 r.0 ∙ ap (λ (y : ℕ). L.Iota y (coded a)) byte) refl
        (λ B P H. (λ j. read_at Γ x 1 (readable Γ B H (meant_coded a j ∷ [])) H p))
    leaf_alike iota [] s k h r e = absurd (omega (arith, k))
    leaf_alike iota (a ∷ b ∷ us) s k h r e = absurd (omega (arith, k))
    leaf_alike replicate (a ∷ b ∷ []) s k h r e =
        made W (C.leaf x replicate (a ∷ (b ∷ []))) p (L.Replicate x (coded a) (coded b))
        (two 18 a b h s r ∙ ap (λ (y : ℕ). L.Replicate y (coded a) (coded b)) byte) refl
        (λ B P H. (λ j. read_at Γ x 2 (readable Γ B H (meant_coded a j ∷ (meant_coded b j ∷ []))) H p))
    leaf_alike replicate [] s k h r e = absurd (omega (arith, k))
    leaf_alike replicate (a ∷ []) s k h r e = absurd (omega (arith, k))
    leaf_alike replicate (a ∷ b ∷ c ∷ us) s k h r e = absurd (omega (arith, k))

  -- ---- lines with trees, over walks that agree where their trees stand

  abbrev AgreesAt : Walk → Walk → ℕ → Type 0
  AgreesAt W X q = (B P : Set) (H : Holds) (ends : Holds → Bool) → W B P H ends q ≡ X B P H ends q

  if_alike : (W : Walk) (x : ℕ) (g : C.Atom) (t e : C.Tree) (p : ℕ) →
      AgreesAt W (hold_tree β Γ t) (p + 2) → AgreesAt W (hold_tree β Γ e) (p + 2 + length (rows t)) →
      (B P : Set) (H : Holds) → if_at Γ W x B H p ≡ hold_line β Γ (C.if_else x g t e) B P H p
  unfolding if_at hold_line onward
  if_alike W x g t e p first second B P H =
      ap (onward _) (first B empty H (none_bound B H))
      ∙ alike (λ (I : Holds) (q : ℕ). q ≡ p + 2 + length (rows t)) _ _
      (hold_tree β Γ t B empty H (none_bound B H) (p + 2))
      (tree_moves β Γ t B empty H (none_bound B H) (p + 2)) (λ I q k.
      ap (onward _) (subst (λ (r : ℕ). W B empty H (same_holds I) r ≡ hold_tree β Γ e B empty H (same_holds I)
      r) (sym k)
      (second B empty H (same_holds I))))

  loop_alike : (W : Walk) (x : ℕ) (k : K.Loop) (ps : List ℕ) (us : List C.Atom) (t : C.Tree) (p : ℕ) →
      AgreesAt W (hold_tree β Γ t) (p + (1 + length us)) →
      (B P : Set) (H : Holds) → loop_by Γ W x k ps us B H p ≡ hold_line β Γ (C.loop x k ps us t) B P H p
  unfolding loop_by hold_line onward
  loop_alike W x k ps us t p tree B P H =
      alike (λ (I : Holds) (q : ℕ). q ≡ p) _ _ (spend Γ (loop_hands k us) H p) (stays Γ (loop_hands k us) H p) (λ I q e.
      test_alike _ _ (readable Γ B I (loop_reads k us)) q
      (let O = set_aside Γ B (loop_reads k us) I in
      ap (onward _) (subst (λ (r : ℕ). W (lending Γ (loop_reads k us) B) (arrays_in Γ (element_name k ps))
      (hold_all Γ (carried_name k ps) O) (same_holds O) (r + (1 + length us))
      ≡ hold_tree β Γ t (lending Γ (loop_reads k us) B) (arrays_in Γ (element_name k ps))
      (hold_all Γ (carried_name k ps) O) (same_holds O) (r + (1 + length us))) (sym e)
      (tree (lending Γ (loop_reads k us) B) (arrays_in Γ (element_name k ps)) (hold_all Γ (carried_name k ps) O)
      (same_holds O)))))

  loop_read : (W : Walk) (x p : ℕ) → x < 256 → (k : K.Loop) (ps : List ℕ) (us : List C.Atom) (t : C.Tree) →
      SmallAtoms us → LoopFormed k ps (length us) →
      Here kinds operands p (row (loop_kind k) (x + 256 * packed_names ps)) →
      At kinds operands (p + 1) (map atom_row us) → AgreesAt W (hold_tree β Γ t) (p + (1 + length us)) →
      Alike W (C.loop x k ps us t) p
  unfolding line_at_by loop_at
  loop_read W x p small mapping (y ∷ []) (a ∷ []) t s k h r tree =
      made W (C.loop x mapping (y ∷ []) (a ∷ []) t) p (L.Loop x (P.Map y (coded a)))
      (line_read kinds operands p 13 (x + 256 * (y + 256 * 0)) (coded a) _ (omega (arith, small, k.0))
      h.kind h.operand
      (atom_here kinds operands (p + 1) a s.0 r.0) refl
      ∙ bytes_one (λ u v. L.Loop u (P.Map v (coded a))) x y small k.0) refl
      (λ B P H. rw (meant_coded a) (loop_alike W x mapping (y ∷ []) (a ∷ []) t p tree B P H))
  loop_read W x p small filtering (y ∷ []) (a ∷ []) t s k h r tree =
      made W (C.loop x filtering (y ∷ []) (a ∷ []) t) p (L.Loop x (P.Filter y (coded a)))
      (line_read kinds operands p 19 (x + 256 * (y + 256 * 0)) (coded a) _ (omega (arith, small, k.0))
      h.kind h.operand
      (atom_here kinds operands (p + 1) a s.0 r.0) refl
      ∙ bytes_one (λ u v. L.Loop u (P.Filter v (coded a))) x y small k.0) refl
      (λ B P H. rw (meant_coded a) (loop_alike W x filtering (y ∷ []) (a ∷ []) t p tree B P H))
  loop_read W x p small rewriting (y ∷ []) (a ∷ []) t s k h r tree =
      made W (C.loop x rewriting (y ∷ []) (a ∷ []) t) p (L.Loop x (P.Rewrite y (coded a)))
      (line_read kinds operands p 21 (x + 256 * (y + 256 * 0)) (coded a) _ (omega (arith, small, k.0))
      h.kind h.operand
      (atom_here kinds operands (p + 1) a s.0 r.0) refl
      ∙ bytes_one (λ u v. L.Loop u (P.Rewrite v (coded a))) x y small k.0) refl
      (λ B P H. rw (meant_coded a) (loop_alike W x rewriting (y ∷ []) (a ∷ []) t p tree B P H))
  loop_read W x p small reducing (y ∷ z ∷ []) (a ∷ b ∷ []) t s k h r tree =
      made W (C.loop x reducing (y ∷ (z ∷ [])) (a ∷ (b ∷ [])) t) p (L.Loop x (P.Reduce y z (coded a) (coded b)))
      (line_read kinds operands p 20 (x + 256 * (y + 256 * (z + 256 * 0))) (coded a) (coded b)
      (omega (arith, small, k.0.0, k.0.1)) h.kind h.operand
      (atom_here kinds operands (p + 1) a s.0 r.0)
      (ap (atom_at kinds operands) (let w : p + 2 ≡ p + 1 + 1 = omega arith in w)
      ∙ atom_here kinds operands (p + 1 + 1) b s.1.0 r.1.0)
      ∙ bytes_two (λ u v w. L.Loop u (P.Reduce v w (coded a) (coded b))) x y z small k.0.0 k.0.1) refl
      (λ B P H. rw (meant_coded a, meant_coded b) (loop_alike W x reducing (y ∷ (z ∷ [])) (a ∷ (b ∷ [])) t p
      tree B P H))
  loop_read W x p small mapping [] us t s k h r tree = absurd k.0
  loop_read W x p small mapping (y ∷ z ∷ ps) us t s k h r tree = absurd k.0
  loop_read W x p small mapping (y ∷ []) [] t s k h r tree = absurd (omega (arith, k.1))
  loop_read W x p small mapping (y ∷ []) (a ∷ b ∷ us) t s k h r tree = absurd (omega (arith, k.1))
  loop_read W x p small filtering [] us t s k h r tree = absurd k.0
  loop_read W x p small filtering (y ∷ z ∷ ps) us t s k h r tree = absurd k.0
  loop_read W x p small filtering (y ∷ []) [] t s k h r tree = absurd (omega (arith, k.1))
  loop_read W x p small filtering (y ∷ []) (a ∷ b ∷ us) t s k h r tree = absurd (omega (arith, k.1))
  loop_read W x p small rewriting [] us t s k h r tree = absurd k.0
  loop_read W x p small rewriting (y ∷ z ∷ ps) us t s k h r tree = absurd k.0
  loop_read W x p small rewriting (y ∷ []) [] t s k h r tree = absurd (omega (arith, k.1))
  loop_read W x p small rewriting (y ∷ []) (a ∷ b ∷ us) t s k h r tree = absurd (omega (arith, k.1))
  loop_read W x p small reducing [] us t s k h r tree = absurd k.0
  loop_read W x p small reducing (y ∷ []) us t s k h r tree = absurd k.0
  loop_read W x p small reducing (y ∷ z ∷ w ∷ ps) us t s k h r tree = absurd k.0
  loop_read W x p small reducing (y ∷ z ∷ []) [] t s k h r tree = absurd (omega (arith, k.1))
  loop_read W x p small reducing (y ∷ z ∷ []) (a ∷ []) t s k h r tree = absurd (omega (arith, k.1))
  loop_read W x p small reducing (y ∷ z ∷ []) (a ∷ b ∷ c ∷ us) t s k h r tree = absurd (omega (arith, k.1))

  -- ---- trees

  -- a tree's first line, where it is no end: then the rest
  opened : (W : Walk) (n : ℕ) (B P : Set) (H : Holds) (ends : Holds → Bool) (p : ℕ) → two_rows kinds operands p ≡ true →
      lines_at kinds operands β Γ W (suc n) B P H ends p
      ≡ step_at kinds operands β Γ W (lines_at kinds operands β Γ W n) (line_at kinds operands p) B P H ends p
  unfolding lines_at
  opened W n B P H ends p e = rw (e, lines_at) refl

  at_end : (W next : Walk) (m : Line) (a : Atom) (B P : Set) (H : Holds) (ends : Holds → Bool) (p : ℕ) → m ≡ L.End a →
      step_at kinds operands β Γ W next m B P H ends p ≡ end_at Γ (meant a) H ends p
  unfolding step_at
  at_end W next m a B P H ends p e = rw e refl

  at_line : (W next : Walk) (m : Line) (B P : Set) (H : Holds) (ends : Holds → Bool) (p : ℕ) → end_of m ≡ none →
      step_at kinds operands β Γ W next m B P H ends p
      ≡ onward (λ (A : After). next B A.pending A.holds ends) (line_at_by kinds operands β Γ W m B P H p)
  unfolding step_at
  at_line W next m B P H ends p e = rw (e, step_at) refl

  whole : (levels : ℕ) (t : C.Tree) (p : ℕ) → 0 < levels → At kinds operands p (rows t) →
      ((n : ℕ) → length (rows t) ≤ n → (B P : Set) (H : Holds) (ends : Holds → Bool) →
      lines_at kinds operands β Γ (T (pred levels)) n B P H ends p ≡ hold_tree β Γ t B P H ends p) →
      AgreesAt (T levels) (hold_tree β Γ t) p
  unfolding tree_at
  whole zero t p h s k = absurd (omega arith)
  whole (suc levels) t p h s k =
      λ B P H ends. k 4096 (omega (arith, few, at_few kinds operands p (rows t) s)) B P H ends

  mutual
    unfolding hold_tree rows line_rows onward line_at_by loop_at end_at retain_at release_at leaf_at hold_line

    pub lines_same : (t : C.Tree) (levels n p : ℕ) → Formed (LeafFormed arities) levels t → At kinds operands
        p (rows t) →
        length (rows t) ≤ n → (B P : Set) (H : Holds) (ends : Holds → Bool) →
        lines_at kinds operands β Γ (T (pred levels)) n B P H ends p ≡ hold_tree β Γ t B P H ends p
    lines_same (C.end a) levels zero p f s h B P H ends = absurd (omega arith)
    lines_same (C.end a) levels (suc n) p f s h B P H ends =
        opened (T (pred levels)) n B P H ends p (tree_within kinds operands p (C.end a) s)
        ∙ at_end (T (pred levels)) _ (line_at kinds operands p) (coded a) B P H ends p
        (line_read kinds operands p 16 0 (coded a) _ (omega arith) s.0.kind s.0.operand
        (atom_here kinds operands (p + 1) a f.1 s.1.0) refl)
        ∙ rw (meant_coded a) refl
    lines_same (C.line l t) levels zero p f s h B P H ends =
        absurd (omega (arith, line_some l, length-append (line_rows l) (rows t)))
    lines_same (C.line l t) levels (suc n) p f s h B P H ends =
        let first = at_first kinds operands p (line_rows l) (rows t) s in
        let rest = at_second kinds operands p (line_rows l) (rows t) s in
        let a = line_same l levels p f.0 first (no_atom kinds operands (p + length (line_rows l)) t rest)
        (some_levels (LeafFormed arities) levels t f.1) in
        opened (T (pred levels)) n B P H ends p (tree_within kinds operands p (C.line l t) s)
        ∙ at_line (T (pred levels)) _ (line_at kinds operands p) B P H ends p a.open_line
        ∙ ap (onward _) (a.same B P H)
        ∙ alike (λ (A : After) (q : ℕ). q ≡ p + length (line_rows l)) _ _ (hold_line β Γ l B P H p)
        (line_moves β Γ l B P H p) (λ A q e.
        subst (λ (r : ℕ). lines_at kinds operands β Γ (T (pred levels)) n B A.pending A.holds ends r
        ≡ hold_tree β Γ t B A.pending A.holds ends r) (sym e)
        (lines_same t levels n (p + length (line_rows l)) f.1 rest
        (omega (arith, h, line_some l, length-append (line_rows l) (rows t))) B A.pending A.holds ends))

    line_same : (l : C.Line) (levels p : ℕ) → LineFormed (LeafFormed arities) levels l → At kinds operands p
        (line_rows l) →
        is_atom (get_or kinds (p + length (line_rows l)) 0) ≡ false → 0 < levels → Alike (T (pred levels)) l p
    line_same (C.leaf x l us) levels p f s e v =
        leaf_alike (T (pred levels)) x p f.0 l us f.1.0 f.1.1 s.0 s.1
        (ap (λ (q : ℕ). is_atom (get_or kinds q 0))
        (let z : p + 1 + length us ≡ p + suc (length (map atom_row us)) = omega
        (arith, length-map us atom_row) in z) ∙ e)
    line_same (C.if_else x g t u) levels p f s e v =
        let body = at_first kinds operands (p + 1 + 1) (rows t) (rows u) s.1.1 in
        let other = at_second kinds operands (p + 1 + 1) (rows t) (rows u) s.1.1 in
        let z : p + 1 + 1 ≡ p + 2 = omega arith in
        let one = subst (λ (q : ℕ). At kinds operands q (rows t)) z body in
        let two = subst (λ (q : ℕ). At kinds operands (q + length (rows t)) (rows u)) z other in
        made (T (pred levels)) (C.if_else x g t u) p (L.If x (coded g))
        (line_read kinds operands p 12 x (coded g) _ (omega (arith, f.0)) s.0.kind s.0.operand
        (atom_here kinds operands (p + 1) g f.1.0 s.1.0) refl
        ∙ ap (λ (y : ℕ). L.If y (coded g)) (let y : x % 256 ≡ x = omega (arith, f.0) in y)) refl
        (if_alike (T (pred levels)) x g t u p
        (whole (pred levels) t (p + 2) (some_levels (LeafFormed arities) (pred levels) t f.1.1.0) one
        (λ n h B P H ends. lines_same t (pred levels) n (p + 2) f.1.1.0 one h B P H ends))
        (whole (pred levels) u (p + 2 + length (rows t))
        (some_levels (LeafFormed arities) (pred levels) u f.1.1.1) two
        (λ n h B P H ends. lines_same u (pred levels) n (p + 2 + length (rows t)) f.1.1.1 two h B P H ends)))
    line_same (C.loop x k ps us t) levels p f s e v =
        let atoms = at_first kinds operands (p + 1) (map atom_row us) (rows t) s.1 in
        let z : p + 1 + length (map atom_row us) ≡ p + (1 + length us) = omega (arith, length-map us atom_row) in
        let body = subst (λ (q : ℕ). At kinds operands q (rows t)) z
        (at_second kinds operands (p + 1) (map atom_row us) (rows t) s.1) in
        loop_read (T (pred levels)) x p f.0 k ps us t f.1.0 f.1.1.0 s.0 atoms
        (whole (pred levels) t (p + (1 + length us)) (some_levels (LeafFormed arities) (pred levels) t
        f.1.1.1) body
        (λ n h B P H ends. lines_same t (pred levels) n (p + (1 + length us)) f.1.1.1 body h B P H ends))
    line_same (C.retain x) levels p f s e v =
        made (T (pred levels)) (C.retain x) p (L.Retain x)
        (line_read kinds operands p 14 x _ _ (omega (arith, f)) s.0.kind s.0.operand refl refl
        ∙ ap L.Retain (let y : x % 256 ≡ x = omega (arith, f) in y)) refl (λ B P H. refl)
    line_same (C.release x) levels p f s e v =
        made (T (pred levels)) (C.release x) p (L.Release x)
        (line_read kinds operands p 15 x _ _ (omega (arith, f)) s.0.kind s.0.operand refl refl
        ∙ ap L.Release (let y : x % 256 ≡ x = omega (arith, f) in y)) refl (λ B P H. refl)

  -- Where the rows of a tree in form stand, with its levels of trees left, the walk by positions is the walk over it.
  pub tree_same : (t : C.Tree) (levels p : ℕ) → Formed (LeafFormed arities) levels t → At kinds operands p (rows t) →
      (B P : Set) (H : Holds) (ends : Holds → Bool) → T levels B P H ends p ≡ hold_tree β Γ t B P H ends p
  tree_same t levels p f s =
      whole levels t p (some_levels (LeafFormed arities) levels t f) s
      (λ n h B P H ends. lines_same t levels n p f s h B P H ends)
