-- The line of a leaf, read back, and the depth of the name that it binds.
use Rattle.prelude.specs.Kit.{ℕ, ◌≤◌, ◌+◌, ◌<◌, suc, pred, arith, false, ◌≡◌, refl, sym, ap, ⊎_elim, List, [], ◌∷◌, eqb}
use Rattle.prelude.specs.Kit.{get_or, ne_eqb}
use Rattle.semantics.specs.Kinds.{Leaf, operation, index, replicate}
use Rattle.semantics.specs.Code as C
use Rattle.semantics.specs.Code.{Tree}
use Rattle.semantics.specs.Annotate.{leaf_depth}
use Rattle.plain_rows.specs.Plain.{Plain, meant, placed, atoms_at, line_of, operation_of}
use Rattle.plain_rows.specs.Stands.{line_with}
use Rattle.plain_rows.specs.Parts.{depth_in}
use Rattle.flatten_rows.specs.Laid.{firsts, placed_all, place_depth, line_depth}
use Rattle.flatten_rows.specs.Source.{leaf_by}
use Rattle.flatten_rows.specs.Shallow.{ShallowLeaf}
use Rattle.flatten_rows.specs.Made.{Counted}
use Rattle.flatten_rows.proofs.Trees.{place_atom}

-- how a leaf's line is read back, and the depth of the name that it binds
pub record Shaped (kind y m : ℕ) : Type 0 where
  pub low : kind < 256
  pub no_end : kind ≡ 16 → ⊥
  pub reads : (F : Plain) (t e : Tree) (p x : ℕ) →
      line_with F p t e (line_of kind x y m (placed F.operands (get_or F.rows (p + 1) 0))
      (placed F.operands (get_or F.rows (p + 2) 0)))
      ≡ C.leaf x (leaf_by kind y) (atoms_at F.operands F.rows (p + 1) m)
  pub deep : (w rs ds vs : List ℕ) →
      leaf_depth (λ f. get_or rs f 0) (leaf_by kind y) (depth_in ds) (placed_all w (firsts vs 0 m))
      ≡ line_depth rs ds kind y (get_or vs 0 0) (get_or vs 1 0)

module _ (y : ℕ) where
  -- two atoms, as they are read one by one
  two_atoms : (F : Plain) (p x : ℕ) (l : Leaf) →
      C.leaf x l (meant (placed F.operands (get_or F.rows (p + 1) 0))
      ∷ (meant (placed F.operands (get_or F.rows (p + 2) 0)) ∷ []))
      ≡ C.leaf x l (atoms_at F.operands F.rows (p + 1) 2)
  unfolding atoms_at
  two_atoms F p x l =
      let e : p + 2 ≡ p + 1 + 1 = omega arith in
      rw e

  shape_call : (m : ℕ) → Shaped 8 y m
  unfolding line_with
  shape_call m = record {
    low = omega arith;
    no_end = λ i. omega arith;
    reads = λ F t e p x. refl;
    deep = λ w rs ds vs. refl;
  }

  shape_literal : (m : ℕ) → Shaped 9 y m
  unfolding line_with
  shape_literal m = record {
    low = omega arith;
    no_end = λ i. omega arith;
    reads = λ F t e p x. refl;
    deep = λ w rs ds vs. refl;
  }

  shape_length : Shaped 11 y 1
  unfolding line_with atoms_at
  shape_length = record {
    low = omega arith;
    no_end = λ i. omega arith;
    reads = λ F t e p x. refl;
    deep = λ w rs ds vs. refl;
  }

  shape_iota : Shaped 17 y 1
  unfolding line_with atoms_at
  shape_iota = record {
    low = omega arith;
    no_end = λ i. omega arith;
    reads = λ F t e p x. refl;
    deep = λ w rs ds vs. refl;
  }

  shape_index : Shaped 10 y 2
  unfolding line_with firsts
  shape_index = record {
    low = omega arith;
    no_end = λ i. omega arith;
    reads = λ F t e p x. two_atoms F p x index;
    deep = λ w rs ds vs. ap pred (sym (place_atom w ds (get_or vs 0 0)));
  }

  shape_replicate : Shaped 18 y 2
  unfolding line_with firsts
  shape_replicate = record {
    low = omega arith;
    no_end = λ i. omega arith;
    reads = λ F t e p x. two_atoms F p x replicate;
    deep = λ w rs ds vs. ap suc (sym (place_atom w ds (get_or vs 1 0)));
  }

  shape_operation : (kind : ℕ) → kind ≤ 6 → Shaped kind y 2
  unfolding line_with
  shape_operation kind h =
      let other : (i : ℕ) → 7 ≤ i → eqb kind i ≡ false = λ i g. ne_eqb kind i (λ e. omega arith) in
      let n₈ = other 8 (omega arith) in
      let n₉ = other 9 (omega arith) in
      let n₁₀ = other 10 (omega arith) in
      let n₁₁ = other 11 (omega arith) in
      let n₁₇ = other 17 (omega arith) in
      let n₁₈ = other 18 (omega arith) in
      record {
        low = omega arith;
        no_end = λ i. omega arith;
        reads = λ F t e p x.
            rw (
              n₈,
              n₉,
              n₁₁,
              n₁₇,
              other 12 (omega arith),
              other 13 (omega arith),
              other 19 (omega arith),
              other 20 (omega arith),
              n₁₀,
              n₁₈,
            )
            (two_atoms F p x (operation (operation_of kind)));
        deep = λ w rs ds vs. rw (n₈, n₉, n₁₁, n₁₇, n₁₀, n₁₈);
      }

  pub shaped : (kind m : ℕ) → Counted kind y m → Shaped kind y m
  shaped kind m c =
      ⊎_elim (λ e. rw e (shape_call m))
      (⊎_elim (λ e. rw e (shape_literal m))
      (⊎_elim (λ e. rw (e.0, e.1) shape_length)
      (⊎_elim (λ e. rw (e.0, e.1) shape_iota)
      (⊎_elim (λ e. rw (e.0, e.1) shape_index)
      (⊎_elim (λ e. rw (e.0, e.1) shape_replicate)
      (λ e. rw e.1.1 (shape_operation kind e.0))))))) c.plain

  -- what a replicate makes its array of is shallow
  pub shallow_value : (w ds vs : List ℕ) (kind m : ℕ) → Counted kind y m →
      ShallowLeaf (leaf_by kind y) (depth_in ds) (placed_all w (firsts vs 0 m)) → kind ≡ 18 →
      place_depth ds (get_or vs 1 0) ≤ 3
  unfolding firsts
  shallow_value w ds vs kind m c s e =
      omega (arith, place_atom w ds (get_or vs 1 0), rw (e, two) at s)
    where
      two : m ≡ 2
      two =
          ⊎_elim (λ f. omega arith) (⊎_elim (λ f. omega arith) (⊎_elim (λ f. omega arith) (⊎_elim (λ f. omega arith)
          (⊎_elim (λ f. omega arith) (⊎_elim (λ f. omega arith) (λ f. omega arith)))))) c.plain
