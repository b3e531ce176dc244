-- The links of a script's functions: how few they are, and whose they are.
use Rattle.prelude.specs.Kit.{ℕ, ◌≤◌, ◌+◌, ◌<◌, ◌-◌, suc, zero, ◌*◌, ◌%◌, ◌/◌, arith, true, false, Bool, ◌&&◌, not}
use Rattle.prelude.specs.Kit.{◌||◌, or_assoc, ◌≡◌, refl, ◌∙◌, sym, ap, subst, List, [], ◌∷◌, ◌++◌, eqb, length, get_or}
use Rattle.prelude.specs.Kit.{ne_eqb}
use Rattle.semantics.specs.Basics.{with_if, updated}
use Rattle.semantics.specs.Kinds.{Leaf, operation, call, literal, index, length_of, iota, replicate}
use Rattle.semantics.specs.Borrow.{Table, borrows}
use Rattle.semantics.specs.Syntax as S
use Rattle.semantics.specs.Syntax.{Expr, Exprs, size, sizes}
use Rattle.semantics.specs.Code as C
use Rattle.semantics.specs.Code.{Tree, end, line}
use Rattle.semantics.specs.Normal.{Meanings, fresh, fresh_all, atom, atoms, numbered, meaning_names, lines}
use Rattle.semantics.specs.Normal.{all_lines, normal}
use Rattle.plain_rows.specs.Plain.{Plain, line_at}
use Rattle.plain_rows.specs.Marks.{Marks, extent, line_extent, marked, marked_all, marks, line_marks}
use Rattle.plain_rows.specs.Stands.{line_with, LineAt, Stands, StandsLine}
use Rattle.borrow_table.specs.Gathered.{passed}
use Rattle.borrow_table.specs.Scan.{atoms_after, makes_link, link_in, links_from, links_in}
use Rattle.borrow_table.proofs.Own.{own_extent, by_kind, own_long, atoms_many}

-- ---- links one after the other

pub passed_append : (k l : List ℕ) (T : Table) (f i : ℕ) → passed (k ++ l) T f i ≡ passed k T f i || passed l T f i
unfolding passed
passed_append [] l T f i = refl
passed_append (x ∷ k) l T f i =
    ap (λ (b : Bool). (eqb (x % 65536) (f + 256 * i) && not (borrows T (x / 65536 % 256) (x / 16777216))) || b)
    (passed_append k l T f i)
    ∙ sym (or_assoc (eqb (x % 65536) (f + 256 * i) && not (borrows T (x / 65536 % 256) (x / 16777216)))
    (passed k T f i) (passed l T f i))

-- the links of one function pass no name of another
pub passed_elsewhere : (rows : List ℕ) (g n p l left : ℕ) (T : Table) (f i : ℕ) → g < 256 → f < 256 →
    (g ≡ f → ⊥) → passed (links_from rows g n p l left) T f i ≡ false
unfolding links_from passed
passed_elsewhere rows g zero p l left T f i gl fl d = refl
passed_elsewhere rows g (suc n) p l zero T f i gl fl d =
    passed_elsewhere rows g n (p + 1) (get_or rows p 0) (atoms_after (get_or rows p 0)) T f i gl fl d
passed_elsewhere rows g (suc n) p l (suc k) T f i gl fl d =
    go (makes_link l (get_or rows p 0)) (passed_elsewhere rows g n (p + 1) l k T f i gl fl d)
  where
    go : (b : Bool) → passed (links_from rows g n (p + 1) l k) T f i ≡ false →
        passed (with_if b (link_in g l k (get_or rows p 0)) (links_from rows g n (p + 1) l k)) T f i ≡ false
    go false e = e
    go true e =
        rw (ne_eqb (link_in g l k (get_or rows p 0) % 65536) (f + 256 * i) (λ h. d (omega arith))) e

-- ---- how many

-- the arguments that a leaf of so many atoms passes
abbrev passing : Leaf → ℕ → ℕ
passing (operation o) m = 0
passing (call g) m = m
passing (literal d) m = 0
passing index m = 0
passing length_of m = 0
passing iota m = 0
passing replicate m = 0

-- the arguments of all calls in a tree
unfoldable mutual
  pub arguments : Tree → ℕ
  arguments (end a) = 0
  arguments (line l t) = line_arguments l + arguments t

  pub line_arguments : C.Line → ℕ
  line_arguments (C.leaf x l us) = passing l (length us)
  line_arguments (C.if_else x g t e) = arguments t + arguments e
  line_arguments (C.loop x k ps us t) = arguments t
  line_arguments (C.retain x) = 0
  line_arguments (C.release x) = 0

passing_few : (l : Leaf) (m : ℕ) → passing l m ≤ m
passing_few (operation o) m = omega arith
passing_few (call g) m = omega arith
passing_few (literal d) m = omega arith
passing_few index m = omega arith
passing_few length_of m = omega arith
passing_few iota m = omega arith
passing_few replicate m = omega arith

mutual
  unfolding arguments lines atom size fresh

  -- each is a node of its own
  lines_arguments : (e : Expr) (μ : Meanings) (n : ℕ) (k : Tree) → arguments (lines e μ n k) + 1 ≤ size e + arguments k
  lines_arguments (S.number z) μ n k = omega arith
  lines_arguments (S.name x) μ n k = omega arith
  lines_arguments (S.let_in x a b) μ n k = omega (
    arith,
    lines_arguments a μ n (lines b (updated μ x (atom a μ n)) (n + fresh a) k),
    lines_arguments b (updated μ x (atom a μ n)) (n + fresh a) k,
  )
  lines_arguments (S.leaf l es) μ n k = omega (
    arith,
    all_arguments es μ n (line (C.leaf (n + fresh_all es) l (atoms es μ n)) k),
    passing_few l (length (atoms es μ n)),
  )
  lines_arguments (S.if_else a b c) μ n k =
      let m = n + fresh a in
      let t = lines b μ (m + 1) (end (atom b μ (m + 1))) in
      let e = lines c μ (m + 1 + fresh b) (end (atom c μ (m + 1 + fresh b))) in
      omega (
        arith,
        lines_arguments a μ n (line (C.if_else m (atom a μ n) t e) k),
        lines_arguments b μ (m + 1) (end (atom b μ (m + 1))),
        lines_arguments c μ (m + 1 + fresh b) (end (atom c μ (m + 1 + fresh b))),
      )
  lines_arguments (S.loop j xs es b) μ n k =
      let m = n + fresh_all es in
      let μ' = meaning_names xs (m + 1) μ in
      let i = m + (1 + length xs) in
      let t = lines b μ' i (end (atom b μ' i)) in
      omega (
        arith,
        all_arguments es μ n (line (C.loop m j (numbered xs (m + 1)) (atoms es μ n) t) k),
        lines_arguments b μ' i (end (atom b μ' i)),
      )

  all_arguments : (es : Exprs) (μ : Meanings) (n : ℕ) (k : Tree) →
      arguments (all_lines es μ n k) + length (atoms es μ n) ≤ sizes es + arguments k
  all_arguments S.none μ n k = omega arith
  all_arguments (S.more e es) μ n k = omega (
    arith,
    lines_arguments e μ n (all_lines es μ (n + fresh e) k),
    all_arguments es μ (n + fresh e) k,
  )

pub normal_arguments : (e : Expr) (μ : Meanings) (n : ℕ) → arguments (normal e μ n) + 1 ≤ size e
unfolding normal arguments
normal_arguments e μ n = omega (arith, lines_arguments e μ n (end (atom e μ n)))

-- ---- no more links than arguments

module _ (F : Plain) (f : ℕ) where
  abbrev rows : List ℕ
  rows = F.rows

  abbrev Many : ℕ → ℕ → ℕ → ℕ → ℕ
  Many n p l left = length (links_from rows f n p l left)

  idle : (n p l : ℕ) → Many n p l 0 ≡ Many n p 0 0
  unfolding links_from
  idle zero p l = refl
  idle (suc n) p l = refl

  with_few : (b : Bool) (x : ℕ) (l : List ℕ) → length (with_if b x l) ≤ 1 + length l
  with_few true x l = omega arith
  with_few false x l = omega arith

  -- at most one for each atom of a call, and none of another line
  over_call : (k n r l Q : ℕ) → Q ≡ r + k → Many (k + n) r l k ≤ k + Many n Q 0 0
  unfolding links_from
  over_call zero n r l Q e =
      let g : r ≡ Q = omega arith in
      let h : 0 + n ≡ n = omega arith in
      rw (g, h) (omega (arith, idle n Q l))
  over_call (suc k) n r l Q e =
      let h : suc k + n ≡ suc (k + n) = omega arith in
      rw h (omega (
        arith,
        with_few (makes_link l (get_or rows r 0)) (link_in f l k (get_or rows r 0))
            (links_from rows f (k + n) (r + 1) l k),
        over_call k n (r + 1) l Q (omega arith),
      ))

  over_other : (k n r l Q : ℕ) → eqb (l % 256) 8 ≡ false → Q ≡ r + k → Many (k + n) r l k ≡ Many n Q 0 0
  unfolding links_from
  over_other zero n r l Q d e =
      let g : r ≡ Q = omega arith in
      let h : 0 + n ≡ n = omega arith in
      rw (g, h) (idle n Q l)
  over_other (suc k) n r l Q d e =
      let h : suc k + n ≡ suc (k + n) = omega arith in
      rw (h, d) (over_other k n (r + 1) l Q d (omega arith))

  over_line : (n p l N : ℕ) → N ≡ suc (atoms_after (get_or rows p 0) + n) →
      Many N p l 0 ≡ Many (atoms_after (get_or rows p 0) + n) (p + 1) (get_or rows p 0) (atoms_after (get_or rows p 0))
  unfolding links_from
  over_line n p l N e = rw e

  end_few : (n p l N Q : ℕ) → get_or rows p 0 % 256 ≡ 16 → N ≡ 2 + n → Q ≡ p + 2 → Many N p l 0 ≤ Many n Q 0 0
  end_few n p l N Q h e g =
      let one : atoms_after (get_or rows p 0) ≡ 1 = rw h in
      omega (
        arith,
        over_line n p l N (omega (arith, one)),
        over_other (atoms_after (get_or rows p 0)) n (p + 1) (get_or rows p 0) Q (rw h) (omega (arith, one)),
      )

  -- a line's own rows make no more links than it passes arguments
  abbrev own_passing : C.Line → ℕ
  own_passing (C.leaf x l us) = passing l (length us)
  own_passing (C.if_else x g t e) = 0
  own_passing (C.loop x k ps us t) = 0
  own_passing (C.retain x) = 0
  own_passing (C.release x) = 0

  abbrev Few : ℕ → C.Line → Type 0
  Few p L = (n l N Q : ℕ) → N ≡ own_extent L + n → Q ≡ p + own_extent L → Many N p l 0 ≤ own_passing L + Many n Q 0 0

  module _ (p : ℕ) (t e : Tree) where
    abbrev row : ℕ
    row = get_or rows p 0

    abbrev here : C.Line
    here = line_with F p t e (line_at F.operands rows p)

    call_passing : row % 256 ≡ 8 → own_passing here ≡ atoms_after row
    unfolding line_at line_with
    call_passing h = rw h (atoms_many F.operands rows (p + 1) (row / 16777216 % 256))

    own_few : eqb (row % 256) 16 ≡ false → Few p here
    own_few no_end n l N Q g h =
        by_kind (Many N p l 0 ≤ own_passing here + Many n Q 0 0) (row % 256) 8
        (λ c. omega (
          arith,
          over_line n p l N (omega (arith, own_long F p t e no_end)),
          over_call (atoms_after row) n (p + 1) row Q (omega (arith, own_long F p t e no_end)),
          call_passing c,
        ))
        (λ d. omega (
          arith,
          over_line n p l N (omega (arith, own_long F p t e no_end)),
          over_other (atoms_after row) n (p + 1) row Q d (omega (arith, own_long F p t e no_end)),
        ))

  own_rows : (p : ℕ) (t e : Tree) (L : C.Line) → LineAt F p t e L → Few p L
  own_rows p t e L s = subst (Few p) s.0 (own_few p t e s.1)

  mutual
    unfolding arguments extent

    tree_few : (t : Tree) (d p : ℕ) (M : Marks) → Stands F d t p M → (n l N Q : ℕ) → N ≡ extent t + n →
        Q ≡ p + extent t → Many N p l 0 ≤ arguments t + Many n Q 0 0
    tree_few (end a) d p M s n l N Q e g =
        omega (arith, end_few n p l N Q s.0.1 (omega arith) (omega arith))
    tree_few (line L t) d p M s n l N Q e g = omega (
      arith,
      line_few L d p M s.0 (extent t + n) l N (p + line_extent L) (omega arith) refl,
      tree_few t d (p + line_extent L) (line_marks L p M) s.2 n 0 (extent t + n) Q refl (omega arith),
    )

    line_few : (L : C.Line) (d p : ℕ) (M : Marks) → StandsLine F d L p M → (n l N Q : ℕ) → N ≡ line_extent L + n →
        Q ≡ p + line_extent L → Many N p l 0 ≤ line_arguments L + Many n Q 0 0
    line_few (C.leaf x k us) d p M s n l N Q e g =
        own_rows p (end (C.name 0)) (end (C.name 0)) (C.leaf x k us) s.0 n l N Q e g
    line_few (C.if_else x a t u) d p M s n l N Q e g = omega (
      arith,
      own_rows p t u (C.if_else x a t u) s.0 (extent t + (extent u + n)) l N (p + 2) (omega arith) refl,
      tree_few t (d - 1) (p + 2) (marked a (p + 1) M) s.4 (extent u + n) 0 (extent t + (extent u + n))
          (p + 2 + extent t) refl refl,
      tree_few u (d - 1) (p + 2 + extent t) (marks t (p + 2) (marked a (p + 1) M)) s.5 n 0 (extent u + n) Q refl
          (omega arith),
    )
    line_few (C.loop x k ps us t) d p M s n l N Q e g = omega (
      arith,
      own_rows p t t (C.loop x k ps us t) s.0 (extent t + n) l N (p + 1 + length us) (omega arith) (omega arith),
      tree_few t (d - 1) (p + 1 + length us) (marked_all us (p + 1) M) s.4 n 0 (extent t + n) Q refl (omega arith),
    )
    line_few (C.retain x) d p M s n l N Q e g = absurd s
    line_few (C.release x) d p M s n l N Q e g = absurd s

-- The rows of a tree make no more links than its calls have arguments.
pub few_links : (F : Plain) (t : Tree) (d : ℕ) (M : Marks) → Stands F d t 0 M → (f : ℕ) →
    length (links_in F.rows f (extent t)) ≤ arguments t
unfolding links_from
few_links F t d M s f =
    let z = tree_few F f t d 0 M s 0 0 (extent t) (extent t) (omega arith) (omega arith) in
    omega (arith, z)
