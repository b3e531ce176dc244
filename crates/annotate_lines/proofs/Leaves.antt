-- The rows of leaf lines: what they release, and what they write all in all.
use Rattle.prelude.specs.Kit.{ℕ, ◌+◌, ◌<◌, suc, zero, ◌*◌, arith, ℕ_discrete, true, false, Bool, cond, ◌&&◌, ◌||◌, ◌≡◌}
use Rattle.prelude.specs.Kit.{refl, ◌∙◌, sym, ap, fun_ext, inl, inr, ◌⊎◌, List, [], ◌∷◌, ◌++◌, map, eqb, length, ne_eqb}
use Rattle.prelude.specs.Kit.{lt-ltb}
use Rattle.semantics.specs.Basics.{with_if}
use Rattle.semantics.specs.Kinds.{Leaf, operation, call, literal, index, length_of, iota, replicate, leaf_kind}
use Rattle.semantics.specs.Kinds.{leaf_operand, leaf_hands, leaf_reads, is_pending, Borrowing}
use Rattle.semantics.specs.Code.{Atom, number, name, Row, row, atom_row}
use Rattle.semantics.specs.Live.{Set, empty, is, only, among, ◌∪◌, members_from, members}
use Rattle.semantics.specs.Annotate.{NameDepths, atom_depth, is_array, dying, handed_again}
use Rattle.prelude.specs.Kit.{set, replicate as repeated, and-false, or-false}
use Rattle.plain_rows.proofs.Sets.{none_in, with_in}
use Rattle.plain_rows.specs.Plain.{set_of, operation_of, unary_of, binary_of}
use Rattle.plain_rows.specs.Parts.{retain_rows, release_rows, leaf_part, handing}
use Rattle.plain_rows.specs.Parts.{below}
use Rattle.annotate_rows.proofs.Names.{dies}

among_split : (us : List Atom) (A : Set) (y : ℕ) → among us A y ≡ among us empty y || A y
unfolding among
among_split [] A y = refl
among_split (a ∷ us) A y = rw (among_split us A y) (go (is a y) (among us empty y) (A y))
  where
    go : (i m a : Bool) → i || (m || a) ≡ (i || m) || a
    go true m a = refl
    go false m a = refl

-- ---- the names that a line reads and binds

-- only names below 256 are tried
near : (n i : ℕ) (P Q : Set) → ((y : ℕ) → y < i + n → P y ≡ Q y) → members_from n i P ≡ members_from n i Q
unfolding members_from
near zero i P Q h = refl
near (suc n) i P Q h =
    rw (h i (omega arith)) (ap (with_if (Q i) i) (near n (suc i) P Q (λ y l. h y (omega arith))))

module _ (Γ : NameDepths) where
  pub dying_near : (U A : Set) → dying Γ (below 256 U) A ≡ dying Γ U A
  unfolding dying members
  dying_near U A = near 256 0 (dies Γ (below 256 U) A) (dies Γ U A) (λ y l. rw (lt-ltb y 256 (omega arith)))

  -- only arrays are released
  dying_arrays : (U W A : Set) → ((y : ℕ) → (is_array Γ y ≡ false) ⊎ (U y ≡ W y)) → dying Γ U A ≡ dying Γ W A
  unfolding dying
  dying_arrays U W A h = ap members (fun_ext (λ y. go y (h y)))
    where
      go : (y : ℕ) → (is_array Γ y ≡ false) ⊎ (U y ≡ W y) → dies Γ U A y ≡ dies Γ W A y
      go y (inl e) = rw (e, and-false (U y), and-false (W y))
      go y (inr e) = rw e

  -- where the second atom is a number it is not released
  pub second_flat : (x : ℕ) (a b : Atom) (e : ℕ) (A : Set) → e ≡ atom_depth Γ b → e ≡ 0 →
      dying Γ (is a ∪ only x) A ≡ dying Γ (is a ∪ is b ∪ only x) A
  second_flat x a b e A h i = dying_arrays (is a ∪ only x) (is a ∪ is b ∪ only x) A (λ y. go b (sym h ∙ i) y)
    where
      named : (z y : ℕ) → Γ z ≡ 0 → Dec (z ≡ y) →
          (is_array Γ y ≡ false) ⊎ (is a y || eqb x y ≡ is a y || (eqb z y || eqb x y))
      named z y f (yes h) = inl (rw (← h, f))
      named z y f (no h) = inr (rw (ne_eqb z y h))

      go : (b : Atom) → atom_depth Γ b ≡ 0 → (y : ℕ) →
          (is_array Γ y ≡ false) ⊎ ((is a ∪ only x) y ≡ (is a ∪ is b ∪ only x) y)
      go (number z) h y = inr refl
      go (name z) h y = named z y h (ℕ_discrete z y)

  pub all_read : (x : ℕ) (a b : Atom) (A T U : Set) → T ≡ is b ∪ set_of (set (repeated 256 false) x true) →
      U ≡ is a ∪ T → x < 256 → dying Γ (below 256 U) A ≡ dying Γ (is a ∪ is b ∪ only x) A
  all_read x a b A T U t u h =
      dying_near U A ∙ rw (u, t, with_in (repeated 256 false) x (omega arith), none_in)
      (ap (λ (S : Set). dying Γ (is a ∪ is b ∪ S) A) (fun_ext (λ y. or-false (eqb x y))))

-- ---- the lines of leaves

-- it hands nothing over, and its operand is its name
record Reads (B : Borrowing) (l : Leaf) : Type 0 where
  hands : (us : List Atom) → leaf_hands B l us ≡ []
  reads : (us : List Atom) → leaf_reads B l us ≡ us
  operand : (x n : ℕ) → leaf_operand l x n ≡ x

unary_reads : (B : Borrowing) (kind : ℕ) → Reads B (unary_of kind)
unary_reads B kind = go (eqb kind 17)
  where
    go : (b : Bool) → Reads B (cond b iota length_of)
    go true = record { hands = λ us. refl; reads = λ us. refl; operand = λ x n. refl }
    go false = record { hands = λ us. refl; reads = λ us. refl; operand = λ x n. refl }

binary_reads : (B : Borrowing) (kind : ℕ) → Reads B (binary_of kind)
binary_reads B kind = go (eqb kind 10) (eqb kind 18)
  where
    go : (b c : Bool) → Reads B (cond b index (cond c replicate (operation (operation_of kind))))
    go true c = record { hands = λ us. refl; reads = λ us. refl; operand = λ x n. refl }
    go false true = record { hands = λ us. refl; reads = λ us. refl; operand = λ x n. refl }
    go false false = record { hands = λ us. refl; reads = λ us. refl; operand = λ x n. refl }

module _ (B : Borrowing) (Γ : NameDepths) (x : ℕ) (A : Set) where
  -- a leaf's part with its sets joined
  abbrev joined_part : Leaf → List Atom → List Row
  joined_part l us =
      retain_rows (handed_again Γ (leaf_hands B l us) (among (leaf_reads B l us) A))
      ++ ((row (leaf_kind l) (leaf_operand l x (length us)) ∷ map atom_row us)
      ++ (retain_rows (with_if (is_pending l && is_array Γ x) x [])
      ++ release_rows (dying Γ (among (leaf_reads B l us) (only x)) A)))

  joined : (us : List Atom) (S : Set) → among us S ≡ among us empty ∪ S
  joined us S = fun_ext (λ y. among_split us S y)

  leaf_rows : (l : Leaf) (us : List Atom) → joined_part l us ≡ leaf_part B Γ x l us A
  leaf_rows l us = rw (joined (leaf_reads B l us) A, joined (leaf_reads B l us) (only x))

  -- a leaf that reads all its atoms
  reads_rows : (l : Leaf) (us : List Atom) → Reads B l →
      row (leaf_kind l) x ∷ (map atom_row us ++ (retain_rows (with_if (is_pending l && is_array Γ x) x [])
      ++ release_rows (dying Γ (among us (only x)) A)))
      ≡ leaf_part B Γ x l us A
  unfolding handed_again
  reads_rows l us r = rw (r.hands us, r.reads us, r.operand x (length us), joined us (only x))

  pub binary_rows : (kind : ℕ) {k : ℕ} (a b : Atom) → k ≡ leaf_kind (binary_of kind) →
      row k x ∷ (atom_row a ∷ (atom_row b ∷ (retain_rows (with_if (is_pending (binary_of kind) && is_array Γ x) x [])
      ++ release_rows (dying Γ (is a ∪ is b ∪ only x) A))))
      ≡ leaf_part B Γ x (binary_of kind) (a ∷ (b ∷ [])) A
  unfolding among
  binary_rows kind a b e = rw e (reads_rows (binary_of kind) (a ∷ (b ∷ [])) (binary_reads B kind))

  pub unary_rows : (kind : ℕ) {k : ℕ} (a : Atom) → k ≡ leaf_kind (unary_of kind) →
      row k x ∷ (atom_row a ∷ release_rows (dying Γ (is a ∪ only x) A)) ≡ leaf_part B Γ x (unary_of kind) (a ∷ []) A
  unfolding among
  unary_rows kind a e =
      rw e (ap (λ (b : Bool). row (leaf_kind (unary_of kind)) x ∷ (atom_row a
      ∷ (retain_rows (with_if (b && is_array Γ x) x []) ++ release_rows (dying Γ (is a ∪ only x) A)))) (none (eqb kind
      17)) ∙ reads_rows (unary_of kind) (a ∷ []) (unary_reads B kind))
    where
      none : (b : Bool) → false ≡ is_pending (cond b iota length_of)
      none true = refl
      none false = refl

  pub call_rows : (f : ℕ) (us : List Atom) (S : Set) → S ≡ among (leaf_reads B (call f) us) A →
      retain_rows (handed_again Γ (leaf_hands B (call f) us) S)
      ++ ((row 8 (x + 256 * f) ∷ map atom_row us)
      ++ release_rows (dying Γ (among (leaf_reads B (call f) us) (only x)) A))
      ≡ leaf_part B Γ x (call f) us A
  call_rows f us S e = rw e (leaf_rows (call f) us)

  pub literal_rows : (d : ℕ) (us : List Atom) →
      handing Γ x (row 9 (x + 256 * length us + 65536 * d)) us A ≡ leaf_part B Γ x (literal d) us A
  unfolding among
  literal_rows d us = leaf_rows (literal d) us

-- what gives no index is not retained
pub no_pending : (Γ : NameDepths) (kind x : ℕ) → (kind ≡ 10 → ⊥) →
    [] ≡ retain_rows (with_if (is_pending (binary_of kind) && is_array Γ x) x [])
no_pending Γ kind x n = rw (ne_eqb kind 10 n) (go (eqb kind 18))
  where
    go : (c : Bool) →
        [] ≡ retain_rows (with_if (is_pending (cond c replicate (operation (operation_of kind))) && is_array Γ x) x
        [])
    go true = refl
    go false = refl
