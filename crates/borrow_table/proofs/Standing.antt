-- Where a tree stands in plain code, its rows spend what the tree spends.
use Rattle.prelude.specs.Kit.{ℕ, ◌+◌, ◌<◌, ◌-◌, suc, zero, ◌%◌, ◌/◌, arith, dec_lt, true, false, Bool, cond, ◌&&◌, not}
use Rattle.prelude.specs.Kit.{◌||◌, or-false, or_assoc, ◌≡◌, refl, ◌∙◌, sym, ap, subst, List, eqb, length}
use Rattle.prelude.specs.Kit.{get_or, ne_eqb}
use Rattle.prelude.specs.Kit.{lt-ltb, le-ltb}
use Rattle.semantics.specs.Basics.{with_if}
use Rattle.semantics.specs.Kinds.{operation, index, replicate, Borrowing, picked, leaf_hands, loop_hands}
use Rattle.semantics.specs.Borrow.{Table, borrows, spent, line_spent}
use Rattle.semantics.specs.Code as C
use Rattle.semantics.specs.Code.{Tree, end, line}
use Rattle.semantics.specs.Live.{empty, is, among}
use Rattle.plain_rows.specs.Plain.{Plain, meant, placed, atoms_at, line_at, operation_of, binary_of}
use Rattle.plain_rows.specs.Marks.{Marks, extent, line_extent, line_marks}
use Rattle.plain_rows.specs.Stands.{line_with, LineAt, Stands, StandsLine}
use Rattle.borrow_table.specs.Gathered.{passed}
use Rattle.borrow_table.specs.Scan.{atoms_after, place_in, handed_over, links_in}
use Rattle.borrow_table.proofs.Own.{own_extent, each_kind, own_long}
use Rattle.borrow_table.proofs.Spends.{atom_spends, spends_from, told}

-- the name of a place below 8
pub place_name : (w : List ℕ) (v i : ℕ) → i < 8 → is (meant (placed w v)) i ≡ eqb v i
unfolding placed
place_name w v i h = go (dec_lt v 256)
  where
    go : Dec (v < 256) → is (meant (placed w v)) i ≡ eqb v i
    go (yes l) = rw (lt-ltb v 256 l)
    go (no f) = rw (le-ltb v 256 (omega (arith, f)), ne_eqb v i (λ e. omega (arith, f)))

module _ (B : Borrowing) (F : Plain) (i : ℕ) (low : i < 8) where
  abbrev rows : List ℕ
  rows = F.rows

  abbrev Spends : ℕ → ℕ → ℕ → ℕ → Bool
  Spends n p l left = spends_from B rows i n p l left

  -- whether the k last atoms of a line, from row r on, spend the name
  unfoldable atoms_spend : ℕ → ℕ → ℕ → Bool
  atoms_spend l zero r = false
  atoms_spend l (suc k) r = (atom_spends B l k && eqb (get_or rows r 0) i) || atoms_spend l k (r + 1)

  -- before a line it does not matter which line was before
  idle : (n p l : ℕ) → Spends n p l 0 ≡ Spends n p 0 0
  unfolding spends_from
  idle zero p l = refl
  idle (suc n) p l = refl

  over_atoms : (k n r l Q : ℕ) → Q ≡ r + k → Spends (k + n) r l k ≡ atoms_spend l k r || Spends n Q 0 0
  unfolding spends_from atoms_spend
  over_atoms zero n r l Q e =
      let f : r ≡ Q = omega arith in
      let g : 0 + n ≡ n = omega arith in
      rw (f, g) (idle n Q l)
  over_atoms (suc k) n r l Q e =
      let g : suc k + n ≡ suc (k + n) = omega arith in
      rw g
      (ap (λ (b : Bool). (atom_spends B l k && eqb (get_or rows r 0) i) || b)
      (over_atoms k n (r + 1) l Q (omega arith))
      ∙ sym (or_assoc (atom_spends B l k && eqb (get_or rows r 0) i) (atoms_spend l k (r + 1)) (Spends n Q 0 0)))

  -- a line of m atoms
  over_line : (m n p l N Q : ℕ) → atoms_after (get_or rows p 0) ≡ m → N ≡ suc (m + n) → Q ≡ p + 1 + m →
      Spends N p l 0 ≡ atoms_spend (get_or rows p 0) m (p + 1) || Spends n Q 0 0
  unfolding spends_from
  over_line m n p l N Q e f g =
      rw f
      (ap (λ (k : ℕ). Spends (m + n) (p + 1) (get_or rows p 0) k) e ∙ over_atoms m n (p + 1) (get_or rows p 0) Q g)

  -- ---- the atoms of a line of each kind

  -- none is handed over
  none_spent : (l : ℕ) → ((k : ℕ) → atom_spends B l k ≡ false) → (m r : ℕ) → atoms_spend l m r ≡ false
  unfolding atoms_spend
  none_spent l h zero r = refl
  none_spent l h (suc m) r = rw (h m) (none_spent l h m (r + 1))

  -- all are
  all_spent : (l : ℕ) → ((k : ℕ) → atom_spends B l k ≡ true) → (m r : ℕ) →
      atoms_spend l m r ≡ among (atoms_at F.operands rows r m) empty i
  unfolding atoms_spend atoms_at among
  all_spent l h zero r = refl
  all_spent l h (suc m) r =
      rw (h m, place_name F.operands (get_or rows r 0) i low, all_spent l h m (r + 1))

  -- a reduce's first is
  first_spent : (l : ℕ) → l % 256 ≡ 20 → (r : ℕ) → atoms_spend l 2 r ≡ eqb (get_or rows r 0) i || false
  unfolding atoms_spend
  first_spent l h r = rw h

  picked_among : (b : Bool) (u : C.Atom) (us : List C.Atom) →
      among (with_if b u us) empty i ≡ (b && is u i) || among us empty i
  unfolding among
  picked_among true u us = refl
  picked_among false u us = refl

  -- those of a call are whose places are not borrowed
  call_spent : (l : ℕ) → l % 256 ≡ 8 → (m j r : ℕ) → j + m ≡ l / 16777216 % 256 →
      atoms_spend l m r
      ≡ among (picked (λ a. not (B (l / 65536 % 256) a)) j (atoms_at F.operands rows r m)) empty i
  unfolding atoms_spend atoms_at among
  call_spent l h zero j r e = refl
  call_spent l h (suc m) j r e =
      let f : place_in l m ≡ j = omega arith in
      rw (h, f, call_spent l h m (suc j) (r + 1) (omega arith))
      (sym (picked_among (not (B (l / 65536 % 256) j)) (meant (placed F.operands (get_or rows r 0)))
      (picked (λ a. not (B (l / 65536 % 256) a)) (suc j) (atoms_at F.operands rows (r + 1) m))
      ∙ rw (place_name F.operands (get_or rows r 0) i low)))

  -- ---- a line's own rows

  abbrev own_spent : C.Line → Bool
  own_spent (C.leaf x l us) = among (leaf_hands B l us) empty i
  own_spent (C.if_else x g t e) = false
  own_spent (C.loop x k ps us t) = among (loop_hands k us) empty i
  own_spent (C.retain x) = false
  own_spent (C.release x) = false

  -- the own rows of the line L, from p on, spend what it spends itself
  abbrev Heads : ℕ → C.Line → Type 0
  Heads p L = (n l N Q : ℕ) → N ≡ own_extent L + n → Q ≡ p + own_extent L →
      Spends N p l 0 ≡ own_spent L || Spends n Q 0 0

  binary_hands : (kind : ℕ) (us : List C.Atom) → among (leaf_hands B (binary_of kind) us) empty i ≡ false
  unfolding among
  binary_hands kind us = go (eqb kind 10) (eqb kind 18)
    where
      go : (a b : Bool) →
          among (leaf_hands B (cond a index (cond b replicate (operation (operation_of kind)))) us) empty i ≡ false
      go true b = refl
      go false true = refl
      go false false = refl

  module _ (p : ℕ) (t e : Tree) where
    abbrev row : ℕ
    row = get_or rows p 0

    abbrev here : C.Line
    here = line_with F p t e (line_at F.operands rows p)

    -- a line that hands nothing over
    quiet : (kind : ℕ) → row % 256 ≡ kind → eqb kind 8 ≡ false → eqb kind 9 ≡ false → eqb kind 16 ≡ false →
        eqb kind 20 ≡ false → (k : ℕ) → atom_spends B row k ≡ false
    quiet kind h a b c d k = rw (h, a, b, c, d)

    -- the atoms of the row spend what the line spends itself
    abbrev Own : Type 0
    Own = own_spent here ≡ atoms_spend row (atoms_after row) (p + 1)

    -- one of one atom, which is read
    one_read : (kind : ℕ) → row % 256 ≡ kind → eqb kind 8 ≡ false → eqb kind 9 ≡ false → eqb kind 16 ≡ false →
        eqb kind 20 ≡ false → atoms_after row ≡ 1 → own_spent here ≡ false → Own
    one_read kind h a b c d k m =
        m ∙ sym (ap (λ (n : ℕ). atoms_spend row n (p + 1)) k ∙ none_spent row (quiet kind h a b c d) 1 (p + 1))

    own_call : row % 256 ≡ 8 → Own
    unfolding line_at line_with
    own_call h = rw h (sym (call_spent row h (row / 16777216 % 256) 0 (p + 1) (omega arith)))

    own_literal : row % 256 ≡ 9 → Own
    unfolding line_at line_with
    own_literal h = rw h (sym (all_spent row (λ k. rw h) (row / 16777216 % 256) (p + 1)))

    -- a reduce, which hands its start over
    own_reduce : row % 256 ≡ 20 → Own
    unfolding line_at line_with among
    own_reduce h =
        rw h (ap (λ (b : Bool). b || false) (place_name F.operands (get_or rows (p + 1) 0) i low)
        ∙ sym (first_spent row h (p + 1)))

    -- every line's
    own : eqb (row % 256) 16 ≡ false → Own
    unfolding line_at line_with among
    own no_end =
        each_kind Own (row % 256) own_call own_literal
        (λ h. one_read 11 h refl refl refl refl (rw h) (rw h))
        (λ h. one_read 12 h refl refl refl refl (rw h) (rw h))
        (λ h. one_read 13 h refl refl refl refl (rw h) (rw h))
        (λ h. one_read 17 h refl refl refl refl (rw h) (rw h))
        (λ h. one_read 19 h refl refl refl refl (rw h) (rw h))
        own_reduce
        (λ a b c d f g h j.
        rw (a, b, c, d, f, no_end, g, h, j) (binary_hands (row % 256) _
        ∙ sym (none_spent row (quiet (row % 256) refl a b no_end j) 2 (p + 1))))

    heads : eqb (row % 256) 16 ≡ false → Heads p here
    heads no_end n l N Q g h =
        over_line (atoms_after row) n p l N Q refl (omega (arith, own_long F p t e no_end))
        (omega (arith, own_long F p t e no_end))
        ∙ ap (λ (b : Bool). b || Spends n Q 0 0) (sym (own no_end))

  -- ---- trees

  end_spends : (a : C.Atom) (p : ℕ) → meant (placed F.operands (get_or rows (p + 1) 0)) ≡ a →
      get_or rows p 0 % 256 ≡ 16 → atoms_spend (get_or rows p 0) 1 (p + 1) ≡ is a i
  unfolding atoms_spend
  end_spends a p e h =
      rw h (or-false (eqb (get_or rows (p + 1) 0) i)
      ∙ sym (place_name F.operands (get_or rows (p + 1) 0) i low) ∙ ap (λ (b : C.Atom). is b i) e)

  -- the own rows of a line that stands from p on
  own_rows : (p : ℕ) (t e : Tree) (L : C.Line) → LineAt F p t e L → Heads p L
  own_rows p t e L s = subst (Heads p) s.0 (heads p t e s.1)

  mutual
    unfolding spent extent

    tree_spends : (t : Tree) (d p : ℕ) (M : Marks) → Stands F d t p M → (n l N Q : ℕ) → N ≡ extent t + n →
        Q ≡ p + extent t → Spends N p l 0 ≡ spent B t i || Spends n Q 0 0
    tree_spends (end a) d p M s n l N Q e f =
        over_line 1 n p l N Q (rw s.0.1) (omega arith) (omega arith)
        ∙ ap (λ (b : Bool). b || Spends n Q 0 0) (end_spends a p s.0.0 s.0.1)
    tree_spends (line L t) d p M s n l N Q e f =
        line_spends L d p M s.0 (extent t + n) l N (p + line_extent L) (omega arith) refl
        ∙ ap (λ (b : Bool). line_spent B L i || b)
        (tree_spends t d (p + line_extent L) (line_marks L p M) s.2 n 0 (extent t + n) Q refl (omega arith))
        ∙ sym (or_assoc (line_spent B L i) (spent B t i) (Spends n Q 0 0))

    line_spends : (L : C.Line) (d p : ℕ) (M : Marks) → StandsLine F d L p M → (n l N Q : ℕ) →
        N ≡ line_extent L + n → Q ≡ p + line_extent L → Spends N p l 0 ≡ line_spent B L i || Spends n Q 0 0
    line_spends (C.leaf x k us) d p M s n l N Q e f = own_rows p _ _ (C.leaf x k us) s.0 n l N Q e f
    line_spends (C.if_else x g t u) d p M s n l N Q e f =
        own_rows p t u (C.if_else x g t u) s.0 (extent t + (extent u + n)) l N (p + 2) (omega arith) refl
        ∙ tree_spends t (d - 1) (p + 2) _ s.4 (extent u + n) 0 (extent t + (extent u + n)) (p + 2 + extent t) refl
        refl
        ∙ ap (λ (b : Bool). spent B t i || b)
        (tree_spends u (d - 1) (p + 2 + extent t) _ s.5 n 0 (extent u + n) Q refl (omega arith))
        ∙ sym (or_assoc (spent B t i) (spent B u i) (Spends n Q 0 0))
    line_spends (C.loop x k ps us t) d p M s n l N Q e f =
        own_rows p t t (C.loop x k ps us t) s.0 (extent t + n) l N (p + 1 + length us) (omega arith) (omega arith)
        ∙ ap (λ (b : Bool). among (loop_hands k us) empty i || b)
        (tree_spends t (d - 1) (p + 1 + length us) _ s.4 n 0 (extent t + n) Q refl (omega arith))
        ∙ sym (or_assoc (among (loop_hands k us) empty i) (spent B t i) (Spends n Q 0 0))
    line_spends (C.retain x) d p M s n l N Q e f = absurd s
    line_spends (C.release x) d p M s n l N Q e f = absurd s

  pub body_spends : (t : Tree) (d : ℕ) (M : Marks) → Stands F d t 0 M → Spends (extent t) 0 0 0 ≡ spent B t i
  unfolding spends_from
  body_spends t d M s =
      tree_spends t d 0 M s 0 0 (extent t) (extent t) (omega arith) (omega arith) ∙ or-false (spent B t i)

-- What the reading of a function's rows finds is what its tree spends, by any table.
pub scan_right : (F : Plain) (t : Tree) (d : ℕ) (M : Marks) → Stands F d t 0 M → (T : Table) (f i : ℕ) → f < 256 →
    i < 8 →
    spent (borrows T) t i ≡ handed_over F.rows (extent t) i || passed (links_in F.rows f (extent t)) T f i
scan_right F t d M s T f i fl il =
    sym (body_spends (borrows T) F i il t d M s) ∙ told T f i fl il F.rows (extent t) 0 0 0
