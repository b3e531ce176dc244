-- Where the rows of a tree stand from a position on, the names that they spend are those that the tree spends.
use Rattle.std.specs.Prelude.{ℕ, ◌≤◌, ◌+◌, ◌<◌, suc, zero, ◌*◌, ◌%◌, ◌/◌, pred, true, false, Bool, not, ◌||◌, ◌≡◌}
use Rattle.std.specs.Prelude.{refl, List, [], ◌∷◌, map, eqb, ℤ, pos, length, get_or}
use Rattle.prelude.specs.Kit.{arith, false≢true, or-false, or_assoc, ◌∙◌, sym, ap, subst, fun_ext, inl, inr, Option}
use Rattle.prelude.specs.Kit.{length-append, length-map, miss}
use Rattle.semantics.specs.Number.{sum, difference, less}
use Rattle.semantics.specs.Kinds.{Borrowing, Leaf, operation, call, literal, index, length_of, iota, replicate}
use Rattle.semantics.specs.Kinds.{leaf_kind}
use Rattle.semantics.specs.Kinds.{Loop, mapping, filtering, reducing, rewriting, loop_kind, leaf_operand, packed_names}
use Rattle.semantics.specs.Kinds.{picked, leaf_hands, loop_hands}
use Rattle.semantics.specs.Code as C
use Rattle.semantics.specs.Code.{row, atom_row, rows, line_rows}
use Rattle.semantics.specs.Live.{Set, empty, is, among}
use Rattle.semantics.specs.Borrow.{spent, line_spent}
use Rattle.machine_code.specs.Reading.{is_atom, low_bits, name_at}
use Rattle.machine_code.specs.Rows.{Here, At, at_first, at_second, no_atom, rows_some, not_leaves, leaf_apart}
use Rattle.lent_spent.specs.Scan.{second_at, is_handed, is_named, name_if, spent_from}
use Rattle.lent_passing.specs.Reading.{SmallAtoms, LeafFormed, LoopFormed, Formed, LineFormed}
use Rattle.lent_hold_laws.specs.Same.{picked_all, picked_none}
use Rattle.lent_table_laws.specs.Spends.{handed_picked, atoms_spend, line_row}

-- ---- kinds

two_apart : (l : Leaf) → leaf_kind l ≡ 2 → ⊥
two_apart l e = miss not_leaves (leaf_kind l) (leaf_apart l) (inr (inl e))

three_apart : (l : Leaf) → leaf_kind l ≡ 3 → ⊥
three_apart l e = miss not_leaves (leaf_kind l) (leaf_apart l) (inr (inr (inl e)))

leaf_plain : (l : Leaf) → is_named (leaf_kind l) ≡ false
leaf_plain (operation sum) = refl
leaf_plain (operation difference) = refl
leaf_plain (operation less) = refl
leaf_plain (call f) = refl
leaf_plain (literal d) = refl
leaf_plain index = refl
leaf_plain length_of = refl
leaf_plain iota = refl
leaf_plain replicate = refl

-- the atoms of a leaf that its row says are handed over; y is the second byte of its operand
leaf_picked : (β : Borrowing) (l : Leaf) (us : List C.Atom) (y : ℕ) → ((f : ℕ) → l ≡ call f → y ≡ f) →
    picked (is_handed β (leaf_kind l) y) 0 us ≡ leaf_hands β l us
leaf_picked β (operation sum) us y e = picked_none us 0
leaf_picked β (operation difference) us y e = picked_none us 0
leaf_picked β (operation less) us y e = picked_none us 0
leaf_picked β (call f) us y e = ap (λ (g : ℕ). picked (λ i. not (β g i)) 0 us) (e f refl)
leaf_picked β (literal d) us y e = picked_all us 0
leaf_picked β index us y e = picked_none us 0
leaf_picked β length_of us y e = picked_none us 0
leaf_picked β iota us y e = picked_none us 0
leaf_picked β replicate us y e = picked_none us 0

loop_plain : (k : Loop) → is_named (loop_kind k) ≡ false
loop_plain mapping = refl
loop_plain filtering = refl
loop_plain reducing = refl
loop_plain rewriting = refl

loop_two : (k : Loop) → loop_kind k ≡ 2 → ⊥
loop_two mapping e = omega (arith, e)
loop_two filtering e = omega (arith, e)
loop_two reducing e = omega (arith, e)
loop_two rewriting e = omega (arith, e)

loop_three : (k : Loop) → loop_kind k ≡ 3 → ⊥
loop_three mapping e = omega (arith, e)
loop_three filtering e = omega (arith, e)
loop_three reducing e = omega (arith, e)
loop_three rewriting e = omega (arith, e)

loop_picked : (β : Borrowing) (k : Loop) (ps : List ℕ) (us : List C.Atom) (y : ℕ) → LoopFormed k ps (length us) →
    picked (is_handed β (loop_kind k) y) 0 us ≡ loop_hands k us
loop_picked β mapping ps us y h = picked_none us 0
loop_picked β filtering ps us y h = picked_none us 0
loop_picked β reducing ps [] y h = refl
loop_picked β reducing ps (a ∷ []) y h = refl
loop_picked β reducing ps (a ∷ b ∷ []) y h = refl
loop_picked β reducing ps (a ∷ b ∷ c ∷ us) y h = absurd (omega (arith, h.1))
loop_picked β rewriting ps us y h = picked_all us 0

module _ (kinds : List ℕ) (operands : List ℤ) (arities : List (Option ℕ)) (β : Borrowing) where
  abbrev from : ℕ → ℕ → ℕ → ℕ → ℕ → Set
  from n p k g i = spent_from kinds operands β n p k g i

  -- what came before them does not matter to n rows
  abbrev Forgets : ℕ → ℕ → Type 0
  Forgets n p = (k g i : ℕ) → from n p k g i ≡ from n p 0 0 0

  no_rows : (p : ℕ) → Forgets 0 p
  unfolding spent_from
  no_rows p k g i = refl

  nothing : (p m : ℕ) → from 0 p 0 0 0 m ≡ false
  unfolding spent_from
  nothing p m = refl

  -- so it is where a tree begins
  tree_forgets : (t : C.Tree) (n p : ℕ) → At kinds operands p (rows t) → length (rows t) ≤ n → Forgets n p
  tree_forgets t zero p s h k g i = absurd (omega (arith, h, rows_some t))
  tree_forgets t (suc n) p s h k g i =
      line_row kinds operands β n p k g i (apart 2 refl) (apart 3 refl)
      ∙ sym (line_row kinds operands β n p 0 0 0 (apart 2 refl) (apart 3 refl))
    where
      apart : (c : ℕ) → is_atom c ≡ true → get_or kinds p 0 ≡ c → ⊥
      apart c y e = false≢true (sym (no_atom kinds operands p t s) ∙ ap is_atom e ∙ y)

  -- a line's row and its atoms, and n rows behind them
  line_atoms : (kind z : ℕ) (us : List C.Atom) → (kind ≡ 2 → ⊥) → (kind ≡ 3 → ⊥) → is_named kind ≡ false →
      SmallAtoms us → (p : ℕ) → Here kinds operands p (row kind z) → At kinds operands (p + 1) (map atom_row us) →
      (r n q : ℕ) → r ≡ suc (length us) + n → q ≡ p + suc (length us) → Forgets n q → (k g i m : ℕ) →
      from r p k g i m ≡ (among (picked (is_handed β kind (second_at operands p)) 0 us) empty m || from n q 0 0 0 m)
  line_atoms kind z us two three plain small p h s r n q size next forgets k g i m =
      let y = second_at operands p in
      let a : r ≡ suc (length us + n) = omega (arith, size) in
      let b : p + 1 + length us ≡ q = omega (arith, next) in
      ap (λ (j : ℕ). from j p k g i m) a
      ∙ ap (λ (X : Set). X m) (line_row kinds operands β (length us + n) p k g i (λ e. two (sym h.kind ∙ e))
      (λ e. three (sym h.kind ∙ e)))
      ∙ ap (λ (c : ℕ). name_if (is_named c) (name_at operands p) m || from (length us + n) (p + 1) c y 0 m) h.kind
      ∙ ap (λ (t : Bool). name_if t (name_at operands p) m || from (length us + n) (p + 1) kind y 0 m) plain
      ∙ atoms_spend kinds operands β us n (p + 1) kind y 0 small s m
      ∙ ap (λ (t : Bool). t || from n (p + 1 + length us) kind y (0 + length us) m)
      (handed_picked kinds operands β (is_handed β kind y) us 0 m)
      ∙ ap (λ (j : ℕ). among (picked (is_handed β kind y) 0 us) empty m || from n j kind y (0 + length us) m) b
      ∙ ap (λ (X : Set). among (picked (is_handed β kind y) 0 us) empty m || X m) (forgets kind y (0 + length us))

  -- a line that retains or releases a name
  line_named : (kind x : ℕ) → (kind ≡ 2 → ⊥) → (kind ≡ 3 → ⊥) → is_named kind ≡ true → x < 256 →
      (p : ℕ) → Here kinds operands p (row kind x) → (r n q : ℕ) → r ≡ 1 + n → q ≡ p + 1 → Forgets n q → (k g i m : ℕ) →
      from r p k g i m ≡ (eqb x m || from n q 0 0 0 m)
  line_named kind x two three named small p h r n q size next forgets k g i m =
      let y = second_at operands p in
      let a : r ≡ suc n = omega (arith, size) in
      let b : x % 16777216 % 256 ≡ x = omega (arith, small) in
      ap (λ (j : ℕ). from j p k g i m) a
      ∙ ap (λ (X : Set). X m) (line_row kinds operands β n p k g i (λ e. two (sym h.kind ∙ e))
      (λ e. three (sym h.kind ∙ e)))
      ∙ ap (λ (c : ℕ). name_if (is_named c) (name_at operands p) m || from n (p + 1) c y 0 m) h.kind
      ∙ ap (λ (t : Bool). name_if t (name_at operands p) m || from n (p + 1) kind y 0 m) named
      ∙ ap (λ (j : ℕ). eqb j m || from n (p + 1) kind y 0 m) (ap (λ (w : ℤ). low_bits w % 256) h.operand ∙ b)
      ∙ ap (λ (j : ℕ). eqb x m || from n j kind y 0 m) (sym next)
      ∙ ap (λ (X : Set). eqb x m || X m) (forgets kind y 0)

  -- the function of a call, by its operand
  callee : (l : Leaf) (x m p : ℕ) → x < 256 → LeafFormed arities l m →
      Here kinds operands p (row (leaf_kind l) (leaf_operand l x m)) → (f : ℕ) → l ≡ call f → second_at operands p ≡ f
  callee l x m p small h s f e =
      let b : f < 32 = (subst (λ (j : Leaf). LeafFormed arities j m) e h).0 in
      ap (λ (z : ℤ). low_bits z / 256 % 256) (s.operand ∙ ap (λ (j : Leaf). pos (leaf_operand j x m)) e)
      ∙ (let z : (x + 256 * f) % 16777216 / 256 % 256 ≡ f = omega (arith, small, b) in z)

  mutual
    unfolding spent line_spent rows line_rows among

    -- n rows behind a tree
    tree_spends : (t : C.Tree) (levels : ℕ) → Formed (LeafFormed arities) levels t → (p : ℕ) → At kinds
        operands p (rows t) →
        (r n q : ℕ) → r ≡ length (rows t) + n → q ≡ p + length (rows t) → Forgets n q → (k g i m : ℕ) →
        from r p k g i m ≡ (spent β t m || from n q 0 0 0 m)
    tree_spends (C.end a) levels F p s r n q size next forgets k g i m =
        line_atoms 16 0 (a ∷ []) (λ e. omega (arith, e)) (λ e. omega (arith, e)) refl (F.1, tt) p s.0
        s.1 r n q size
        next forgets k g i m
        ∙ ap (λ (t : Bool). t || from n q 0 0 0 m) (or-false (is a m))
    tree_spends (C.line l t) levels F p s r n q size next forgets k g i m =
        let z = length-append (line_rows l) (rows t) in
        let rest = at_second kinds operands p (line_rows l) (rows t) s in
        line_spends l levels F.0 p (at_first kinds operands p (line_rows l) (rows t) s) r (length (rows t) + n)
        (p + length (line_rows l)) (omega (arith, size, z)) refl
        (tree_forgets t (length (rows t) + n) (p + length (line_rows l)) rest (omega arith)) k g i m
        ∙ ap (λ (b : Bool). line_spent β l m || b)
        (tree_spends t levels F.1 (p + length (line_rows l)) rest (length (rows t) + n) n q refl
        (omega (arith, next, z))
        forgets 0 0 0 m)
        ∙ sym (or_assoc (line_spent β l m) (spent β t m) (from n q 0 0 0 m))

    line_spends : (l : C.Line) (levels : ℕ) → LineFormed (LeafFormed arities) levels l → (p : ℕ) →
        At kinds operands p (line_rows l) → (r n q : ℕ) → r ≡ length (line_rows l) + n → q ≡ p + length (line_rows l) →
        Forgets n q → (k g i m : ℕ) → from r p k g i m ≡ (line_spent β l m || from n q 0 0 0 m)
    line_spends (C.leaf x l us) levels F p s r n q size next forgets k g i m =
        let z = length-map us atom_row in
        line_atoms (leaf_kind l) (leaf_operand l x (length us)) us (two_apart l) (three_apart l)
        (leaf_plain l) F.1.0 p
        s.0 s.1 r n q (omega (arith, size, z)) (omega (arith, next, z)) forgets k g i m
        ∙ ap (λ (v : List C.Atom). among v empty m || from n q 0 0 0 m)
        (leaf_picked β l us (second_at operands p) (callee l x (length us) p F.0 F.1.1 s.0))
    line_spends (C.if_else x c t e) levels F p s r n q size next forgets k g i m =
        let z = length-append (rows t) (rows e) in
        let first = at_first kinds operands (p + 1 + 1) (rows t) (rows e) s.1.1 in
        let other = at_second kinds operands (p + 1 + 1) (rows t) (rows e) s.1.1 in
        let u = p + 1 + 1 + length (rows t) in
        let b = length (rows e) + n in
        line_atoms 12 x (c ∷ []) (λ e. omega (arith, e)) (λ e. omega (arith, e)) refl (F.1.0, tt) p s.0
        (s.1.0, tt) r
        (length (rows t) + b) (p + 1 + 1) (omega (arith, size, z)) (omega arith)
        (tree_forgets t (length (rows t) + b) (p + 1 + 1) first (omega arith)) k g i m
        ∙ tree_spends t (pred levels) F.1.1.0 (p + 1 + 1) first (length (rows t) + b) b u refl refl
        (tree_forgets e b u other (omega arith)) 0 0 0 m
        ∙ ap (λ (v : Bool). spent β t m || v)
        (tree_spends e (pred levels) F.1.1.1 u other b n q refl (omega (arith, next, z)) forgets 0 0 0 m)
        ∙ sym (or_assoc (spent β t m) (spent β e m) (from n q 0 0 0 m))
    line_spends (C.loop x l ps us t) levels F p s r n q size next forgets k g i m =
        let z = length-append (map atom_row us) (rows t) in
        let y = length-map us atom_row in
        let u = p + 1 + length (map atom_row us) in
        let tree = at_second kinds operands (p + 1) (map atom_row us) (rows t) s.1 in
        line_atoms (loop_kind l) (x + 256 * packed_names ps) us (loop_two l) (loop_three l) (loop_plain l)
        F.1.0 p s.0
        (at_first kinds operands (p + 1) (map atom_row us) (rows t) s.1) r (length (rows t) + n) u
        (omega (arith, size, z, y)) (omega (arith, y))
        (tree_forgets t (length (rows t) + n) u tree (omega arith)) k g i m
        ∙ ap (λ (v : List C.Atom). among v empty m || from (length (rows t) + n) u 0 0 0 m)
        (loop_picked β l ps us (second_at operands p) F.1.1.0)
        ∙ ap (λ (v : Bool). among (loop_hands l us) empty m || v)
        (tree_spends t (pred levels) F.1.1.1 u tree (length (rows t) + n) n q refl (omega (arith, next, z)) forgets
        0 0 0 m)
        ∙ sym (or_assoc (among (loop_hands l us) empty m) (spent β t m) (from n q 0 0 0 m))
    line_spends (C.retain x) levels F p s r n q size next forgets k g i m =
        line_named 14 x (λ e. omega (arith, e)) (λ e. omega (arith, e)) refl F p s.0 r n q size next forgets k g i m
    line_spends (C.release x) levels F p s r n q size next forgets k g i m =
        line_named 15 x (λ e. omega (arith, e)) (λ e. omega (arith, e)) refl F p s.0 r n q size next forgets k g i m

  -- the rows of a tree, and no others
  pub rows_spend : (t : C.Tree) (levels : ℕ) → Formed (LeafFormed arities) levels t → (p : ℕ) → At kinds
      operands p (rows t) →
      spent_from kinds operands β (length (rows t)) p 0 0 0 ≡ spent β t
  rows_spend t levels F p s = fun_ext (λ m.
      tree_spends t levels F p s (length (rows t)) 0 (p + length (rows t)) (omega arith) refl
      (no_rows (p + length (rows t)))
      0 0 0 m
      ∙ ap (λ (b : Bool). spent β t m || b) (nothing (p + length (rows t)) m)
      ∙ or-false (spent β t m))
