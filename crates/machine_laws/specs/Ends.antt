-- The positions after trees, as one pass over the rows from the last to the first finds them, are those of the trees.
use Rattle.std.specs.Prelude.{ℕ, ◌≤◌, ◌+◌, ◌<◌, suc, zero, ◌*◌, ◌%◌, ◌/◌, true, false, Bool, ◌≡◌, refl, List, [], ◌∷◌}
use Rattle.std.specs.Prelude.{◌++◌, map, ltb, ℤ, length, get_or, set}
use Rattle.prelude.specs.Kit.{arith, ◌∙◌, sym, ap, subst, inl, inr, length-set, length-append, get_or-set_other}
use Rattle.prelude.specs.Kit.{get_or-set_same, ne_eqb, ltb-true, ltb-false, OneOf, miss}
use Rattle.semantics.specs.Kinds.{Leaf, Loop, mapping, filtering, reducing, rewriting, leaf_kind, loop_kind}
use Rattle.semantics.specs.Kinds.{packed_names}
use Rattle.semantics.specs.Code as C
use Rattle.semantics.specs.Code.{Row, row, atom_row, rows, line_rows}
use Rattle.machine_code.specs.Reading.{table_bytes, ends_place, end_in}
use Rattle.machine_table.specs.Positions.{with_position, with_end, trees_of, end_of, ends_from}
use Rattle.machine_table.proofs.Filling.{length_position}
use Rattle.machine_spec.specs.Machine.{Code}
use Rattle.machine_code.specs.Rows.{Here, At, at_first, at_second, not_leaves, leaf_apart}

-- the table has the position after each tree that stands in the code
abbrev pub Jumps : Code → Type 0
Jumps c = (t : C.Tree) (p : ℕ) → At c.kinds c.operands p (rows t) → end_in c.table p ≡ p + length (rows t)

-- a table with room for the positions of 32 functions and 4,096 rows
abbrev pub Roomy : List ℕ → Type 0
Roomy table = table_bytes ≤ length table

-- ---- a position that was written

module _ (table : List ℕ) (place position : ℕ) where
  pub position_read : place + 1 < length table → position < 65536 →
      get_or (with_position table place position) place 0 + 256 * get_or (with_position table place position) (place + 1) 0
      ≡ position
  position_read long small =
      let low : get_or (with_position table place position) place 0 ≡ position % 256 =
      get_or-set_other (set table place (position % 256)) (place + 1) place (position / 256 % 256) 0 (λ e. omega
      (arith, e))
      ∙ get_or-set_same table place (position % 256) 0 (omega (arith, long)) in
      let high : get_or (with_position table place position) (place + 1) 0 ≡ position / 256 % 256 =
      get_or-set_same (set table place (position % 256)) (place + 1) (position / 256 % 256) 0
      (omega (arith, long, length-set table place (position % 256))) in
      omega (arith, low, high, small)

  pub position_other : (i : ℕ) → (i ≡ place → ⊥) → (i ≡ place + 1 → ⊥) →
      get_or (with_position table place position) i 0 ≡ get_or table i 0
  position_other i f g =
      get_or-set_other (set table place (position % 256)) (place + 1) i (position / 256 % 256) 0 g
      ∙ get_or-set_other table place i (position % 256) 0 f

-- what is written below a row's own position leaves it
pub end_kept : (table : List ℕ) (place position at : ℕ) → place + 1 < ends_place + 2 * at →
    end_in (with_position table place position) at ≡ end_in table at
unfolding end_in
end_kept table place position at h = omega (
  arith,
  position_other table place position (ends_place + 2 * at) (λ e. omega (arith, e, h)) (λ e. omega (arith, e, h)),
  position_other table place position (ends_place + 2 * at + 1) (λ e. omega (arith, e, h)) (λ e. omega (arith, e, h)),
)

end_read : (table : List ℕ) (at end : ℕ) → Roomy table → at < 4096 → end < 65536 → end_in
    (with_end table at end) at ≡ end
unfolding end_in
end_read table at end long h small = position_read table (ends_place + 2 * at) end (omega (arith, long, h)) small

-- ---- the pass

module _ (kinds : List ℕ) where
  -- what the pass does not reach stays
  pub ends_above : (n : ℕ) (table : List ℕ) (q : ℕ) → n ≤ q → end_in (ends_from n kinds table) q ≡ end_in table q
  unfolding ends_from
  ends_above zero table q h = refl
  ends_above (suc n) table q h =
      let end = end_of (get_or kinds n 0) table n in
      ends_above n (with_end table n end) q (omega arith)
      ∙ end_kept table (ends_place + 2 * n) end q (omega (arith, h))

  pub ends_below : (n : ℕ) (table : List ℕ) (i : ℕ) → i < ends_place →
      get_or (ends_from n kinds table) i 0 ≡ get_or table i 0
  unfolding ends_from
  ends_below zero table i h = refl
  ends_below (suc n) table i h =
      let end = end_of (get_or kinds n 0) table n in
      ends_below n (with_end table n end) i h
      ∙ position_other table (ends_place + 2 * n) end i (λ e. omega (arith, e, h)) (λ e. omega (arith, e, h))

  pub ends_long : (n : ℕ) (table : List ℕ) → length (ends_from n kinds table) ≡ length table
  unfolding ends_from
  ends_long zero table = refl
  ends_long (suc n) table =
      let end = end_of (get_or kinds n 0) table n in
      ends_long n (with_end table n end) ∙ length_position table (ends_place + 2 * n) end

  -- a row's position was found on a table that has those of the rows behind it
  record Found (T : List ℕ) (q : ℕ) : Type 0 where
    pub before : List ℕ
    pub behind : (i : ℕ) → q < i → end_in T i ≡ end_in before i
    pub is : end_of (get_or kinds q 0) before q < 65536 → end_in T q ≡ end_of (get_or kinds q 0) before q

  found : (n : ℕ) (table : List ℕ) → Roomy table → n ≤ 4096 → (q : ℕ) → q < n → Found (ends_from n kinds table) q
  unfolding ends_from
  found zero table long few q h = absurd (omega arith)
  found (suc n) table long few q h = by (ltb q n) refl
      (λ l. found n (with_end table n (end_of (get_or kinds n 0) table n))
      (omega (arith, long, length_position table (ends_place + 2 * n) (end_of (get_or kinds n 0) table n)))
      (omega (arith, few))
      q l)
    where
      end : ℕ
      end = end_of (get_or kinds n 0) table n

      by : (t : Bool) → ltb q n ≡ t → (q < n → Found (ends_from n kinds (with_end table n end)) q) →
          Found (ends_from n kinds (with_end table n end)) q
      by true e more = more (ltb-true q n e)
      by false e more = subst (Found (ends_from n kinds (with_end table n end)))
          (let z : n ≡ q = omega (arith, h, ltb-false q n e) in z) (record {
            before = table;
            behind = λ i l. ends_above n (with_end table n end) i (omega arith)
                ∙ end_kept table (ends_place + 2 * n) end i (omega (arith, l));
            is = λ small. ends_above n (with_end table n end) n (omega arith)
                ∙ end_read table n end long (omega (arith, few)) small;
          })

-- ---- the trees

-- a table that the pass filled for n rows, behind which the code has none
module _ (kinds : List ℕ) (operands : List ℤ) (n : ℕ) (few : n ≤ 4096) (past : (q : ℕ) → n ≤ q → get_or kinds q 0 ≡ 0)
    (table : List ℕ) (long : Roomy table) where
  abbrev E : ℕ → ℕ
  E = end_in (ends_from n kinds table)

  -- a row stands among the n
  row_within : (q : ℕ) (r : Row) → Here kinds operands q r → (r.kind ≡ 0 → ⊥) → q < n
  row_within q r h f = by (ltb q n) refl
    where
      by : (t : Bool) → ltb q n ≡ t → q < n
      by true e = ltb-true q n e
      by false e = absurd (f (sym h.kind ∙ past q (ltb-false q n e)))

  found_at : (q : ℕ) (r : Row) → Here kinds operands q r → (r.kind ≡ 0 → ⊥) → Found kinds (ends_from n kinds table) q
  found_at q r h f = found kinds n table long few q (row_within q r h f)

  -- a row that begins no tree and ends none
  record Plain (r : Row) : Type 0 where
    pub some : r.kind ≡ 0 → ⊥
    pub no_trees : trees_of r.kind ≡ 0
    pub no_end : r.kind ≡ 16 → ⊥

  plain_row : (q v : ℕ) (r : Row) → Here kinds operands q r → Plain r → E (q + 1) ≡ v → v < 65536 → E q ≡ v
  plain_row q v r h p e small =
      let f = found_at q r h p.some in
      let g : end_of (get_or kinds q 0) f.before q ≡ v =
      rw (h.kind, ne_eqb r.kind 16 p.no_end, p.no_trees)
      (sym (f.behind (q + 1) (omega arith)) ∙ e) in
      f.is (omega (arith, g, small)) ∙ g

  end_row : (q a : ℕ) → Here kinds operands q (row 16 a) → E q ≡ q + 2
  end_row q a h =
      let f = found_at q (row 16 a) h (λ z. omega arith) in
      let g : end_of (get_or kinds q 0) f.before q ≡ q + 2 = rw h.kind refl in
      f.is (omega (arith, g, few, row_within q (row 16 a) h (λ z. omega arith))) ∙ g

  -- a row of a kind with one tree behind its atoms
  tree_row : (k q a e v : ℕ) → (k ≡ 0 → ⊥) → (k ≡ 16 → ⊥) → trees_of k ≡ 1 → Here kinds operands q (row k a) →
      E (q + 1) ≡ e → q < e → E e ≡ v → v < 65536 → E q ≡ v
  tree_row k q a e v some no_end one h next above rest small =
      let f = found_at q (row k a) h some in
      let g : end_of (get_or kinds q 0) f.before q ≡ v =
      rw (h.kind, ne_eqb k 16 no_end, one) (ap (end_in f.before) (sym (f.behind (q + 1) (omega arith)) ∙ next)
      ∙ sym (f.behind e above) ∙ rest) in
      f.is (omega (arith, g, small)) ∙ g

  if_row : (q a e d v : ℕ) → Here kinds operands q (row 12 a) → E (q + 1) ≡ e → q < e → E e ≡ d → q < d → E d ≡ v →
      v < 65536 → E q ≡ v
  if_row q a e d v h next above other beyond rest small =
      let f = found_at q (row 12 a) h (λ z. omega arith) in
      let g : end_of (get_or kinds q 0) f.before q ≡ v =
      rw h.kind (ap (λ (x : ℕ). end_in f.before (end_in f.before x))
      (sym (f.behind (q + 1) (omega arith)) ∙ next)
      ∙ ap (end_in f.before) (sym (f.behind e above) ∙ other) ∙ sym (f.behind d beyond) ∙ rest) in
      f.is (omega (arith, g, small)) ∙ g

  atom_plain : (a : C.Atom) → Plain (atom_row a)
  atom_plain (C.number z) = record { some = λ e. omega arith; no_trees = refl; no_end = λ e. omega arith }
  atom_plain (C.name x) = record { some = λ e. omega arith; no_trees = refl; no_end = λ e. omega arith }

  AllPlain : List Row → Type 0
  AllPlain [] = Unit {0}
  AllPlain (r ∷ rs) = Plain r × AllPlain rs

  plain_rows : (rs : List Row) (p v : ℕ) → At kinds operands p rs → AllPlain rs → E (p + length rs) ≡ v → v < 65536 →
      E p ≡ v
  unfolding AllPlain
  plain_rows [] p v h all e small = ap E (let z : p ≡ p + 0 = omega arith in z) ∙ e
  plain_rows (r ∷ rs) p v h all e small = plain_row p v r h.0 all.0
      (plain_rows rs (p + 1) v h.1 all.1
      (ap E (let z : p + 1 + length rs ≡ p + suc (length rs) = omega arith in z) ∙ e) small) small

  atoms_plain : (us : List C.Atom) → AllPlain (map atom_row us)
  unfolding AllPlain
  atoms_plain [] = tt
  atoms_plain (a ∷ us) = (atom_plain a, atoms_plain us)

  -- a line of a plain kind and its atoms
  plain_line : (k a : ℕ) (us : List C.Atom) (p v : ℕ) → Plain (row k a) →
      At kinds operands p (row k a ∷ map atom_row us) → E (p + suc (length (map atom_row us))) ≡ v → v < 65536 → E p ≡ v
  unfolding AllPlain
  plain_line k a us p v f h e small = plain_rows (row k a ∷ map atom_row us) p v h (f, atoms_plain us) e small

  leaf_plain : (l : Leaf) (a : ℕ) → Plain (row (leaf_kind l) a)
  leaf_plain l a = record {
    some = λ e. other (inl e);
    no_trees = rw (
      ne_eqb (leaf_kind l) 12 (λ e. other (inr (inr (inr (inl e))))),
      ne_eqb (leaf_kind l) 13 (λ e. other (inr (inr (inr (inr (inl e)))))),
      ne_eqb (leaf_kind l) 19 (λ e. other (inr (inr (inr (inr (inr (inr (inl e)))))))),
      ne_eqb (leaf_kind l) 20 (λ e. other (inr (inr (inr (inr (inr (inr (inr (inl e))))))))),
      ne_eqb (leaf_kind l) 21 (λ e. other (inr (inr (inr (inr (inr (inr (inr (inr e))))))))),
    ) refl;
    no_end = λ e. other (inr (inr (inr (inr (inr (inl e))))));
  }
    where
      other : OneOf not_leaves (leaf_kind l) → ⊥
      other = miss not_leaves (leaf_kind l) (leaf_apart l)

  loop_row : (k : Loop) (q a e v : ℕ) → Here kinds operands q (row (loop_kind k) a) → E (q + 1) ≡ e → q < e → E e ≡ v →
      v < 65536 → E q ≡ v
  loop_row mapping q a e v = tree_row 13 q a e v (λ z. omega arith) (λ z. omega arith) refl
  loop_row filtering q a e v = tree_row 19 q a e v (λ z. omega arith) (λ z. omega arith) refl
  loop_row reducing q a e v = tree_row 20 q a e v (λ z. omega arith) (λ z. omega arith) refl
  loop_row rewriting q a e v = tree_row 21 q a e v (λ z. omega arith) (λ z. omega arith) refl

  -- a tree's rows are among the n
  tree_short : (t : C.Tree) (p : ℕ) → At kinds operands p (rows t) → p + length (rows t) ≤ n
  unfolding rows
  tree_short (C.end a) p h = omega (arith, row_within (p + 1) (atom_row a) h.1.0 (atom_plain a).some)
  tree_short (C.line l t) p h = omega (
    arith,
    length-append (line_rows l) (rows t),
    tree_short t (p + length (line_rows l)) (at_second kinds operands p (line_rows l) (rows t) h),
  )

  mutual
    unfolding rows line_rows

    pub tree_ends : (t : C.Tree) (p : ℕ) → At kinds operands p (rows t) → E p ≡ p + length (rows t)
    tree_ends (C.end a) p h = end_row p 0 h.0
    tree_ends (C.line l t) p h =
        let rest = at_second kinds operands p (line_rows l) (rows t) h in
        line_ends l p (p + length (line_rows l ++ rows t)) (at_first kinds operands p (line_rows l) (rows t) h)
        (tree_ends t (p + length (line_rows l)) rest
        ∙ omega (arith, length-append (line_rows l) (rows t)))
        (omega (arith, few, length-append (line_rows l) (rows t), tree_short t (p + length (line_rows l)) rest))

    -- a line ends where what follows it does
    line_ends : (l : C.Line) (p v : ℕ) → At kinds operands p (line_rows l) → E (p + length (line_rows l)) ≡ v →
        v < 65536 → E p ≡ v
    line_ends (C.leaf x l us) p v h e small = plain_line (leaf_kind l) _ us p v (leaf_plain l _) h e small
    line_ends (C.if_else x g t u) p v h e small =
        let in_t = at_first kinds operands (p + 1 + 1) (rows t) (rows u) h.1.1 in
        let in_u = at_second kinds operands (p + 1 + 1) (rows t) (rows u) h.1.1 in
        let small_t : p + 1 + 1 + length (rows t) < 65536 = omega (arith, few, tree_short t (p + 1 + 1) in_t) in
        let place : p + 1 + 1 + length (rows t) + length (rows u) ≡ p + suc (suc (length (rows t ++ rows u))) =
        omega (arith, length-append (rows t) (rows u)) in
        if_row p x (p + 1 + 1 + length (rows t)) (p + 1 + 1 + length (rows t) + length (rows u)) v h.0
        (plain_row (p + 1) (p + 1 + 1 + length (rows t)) (atom_row g) h.1.0 (atom_plain g)
        (tree_ends t (p + 1 + 1) in_t) small_t) (omega arith)
        (tree_ends u (p + 1 + 1 + length (rows t)) in_u) (omega arith) (ap E place ∙ e) small
    line_ends (C.loop x k ps us t) p v h e small =
        let us_rows = map atom_row us in
        let in_t = at_second kinds operands (p + 1) us_rows (rows t) h.1 in
        let end = p + 1 + length us_rows + length (rows t) in
        let small_t : end < 65536 = omega (arith, few, tree_short t (p + 1 + length us_rows) in_t) in
        let place : end ≡ p + suc (length (us_rows ++ rows t)) = omega (arith, length-append us_rows (rows t)) in
        loop_row k p (x + 256 * packed_names ps) end v h.0
        (plain_rows us_rows (p + 1) end (at_first kinds operands (p + 1) us_rows (rows t) h.1) (atoms_plain us)
        (tree_ends t (p + 1 + length us_rows) in_t) small_t) (omega arith) (ap E place ∙ e) small
    line_ends (C.retain x) p v h e small = plain_line 14 x [] p v
        (record { some = λ z. omega arith; no_trees = refl; no_end = λ z. omega arith }) h e small
    line_ends (C.release x) p v h e small = plain_line 15 x [] p v
        (record { some = λ z. omega arith; no_trees = refl; no_end = λ z. omega arith }) h e small
