-- Laws of the lines that work no tree: one for each way out of the code.
use Rattle.prelude.specs.Kit.{ℕ, ◌≤◌, ◌+◌, ◌<◌, ◌-◌, suc, zero, arith, true, false, Bool, cond, not, ◌≡◌, refl, ◌∙◌}
use Rattle.prelude.specs.Kit.{sym, ap, ap₂, List, [], ◌∷◌, ltb, T, ℤ, pos, negsuc, nat_abs, lt_z, length, get_or, set}
use Rattle.prelude.specs.Kit.{lt-ltb, le-ltb, ltb-true, ltb-false, tag_of, has_key, OneOf, miss}
use Rattle.std.specs.Prelude.{Option, Some, None}
use Rattle.machine_code.specs.contracts.Line.{the_type}
use Rattle.semantics.specs.Outcome.{Outcome, done, stop}
use Rattle.semantics.specs.Number.{less, exact, fits, inside}
use Rattle.semantics.specs.Store.{Store, cell, cell_of, elements, acquired, has_free, cell_count, retained}
use Rattle.semantics.specs.Store.{deepest, cells_taken}
use Rattle.semantics.specs.Words.{store_of, cells_in}
use Rattle.words.specs.Words.{exact_outcome, checked}
use Rattle.store.specs.declared.Gained.{Gained}
use Rattle.store.specs.Acquiring.{acquired_outcome, next_cell}
use Rattle.store.proofs.Filling.{cell_given}
use Rattle.store_release.specs.Releasing.{Releases}
use Rattle.store_words.proofs.CellWords.{few_cells, store_size, length_in, length_out}
use Rattle.kinds.specs.declared.Atom.{Atom}
use Rattle.kinds.specs.declared.Atom.TheVariants.{Name}
use Rattle.machine_code.specs.declared.Line.{Line}
use Rattle.machine_code.specs.declared.Line.TheVariants as L
use Rattle.machine_code.proofs.Reading.{no_bool, less_one}
use Rattle.machine_frames.specs.Work.{Out}
use Rattle.machine_frames.specs.Frames.{place, word_of, words_at, element_depth, noted, raised}
use Rattle.machine_frames.specs.Work.{no_line, Memory, memory, Ran, ran, left, out, with_store, halted, stepping}
use Rattle.machine_frames.proofs.Tests.{inside_negative}
use Rattle.machine_lines.specs.Lines.{Given, given, worked, operation_of, operation_given, noted_by}
use Rattle.machine_lines.specs.Lines.{array_of, index_given, length_given, acquired_given, operation_line}
use Rattle.machine_lines.specs.Lines.{index_line, length_line, Doing, giving, changing, ending, calling}
use Rattle.machine_lines.specs.Lines.{branching, looping, array_doing, cell_from, released_memory}
use Rattle.machine_lines.specs.Lines.{doing, giving_line, leaf_done, literal_line, array_line, leaf}

-- ---- operations

pub less_fits : (a b : ℤ) → done (exact less a b) tt ≡ checked (exact less a b)
unfolding checked
less_fits a b = go (lt_z a b)
  where
    go : (t : Bool) → ◌≡◌ {A = Outcome (Unit {0}) ℤ} (done (cond t (pos 1) (pos 0)) tt)
        (cond (fits (cond t (pos 1) (pos 0))) (done (cond t (pos 1) (pos 0)) tt) (stop 24 tt))
    go true = refl
    go false = refl

-- ---- small works that leave the store alone

module _ (calls x next steps : ℕ) (env : List ℤ) (g : Given) where
  worked_spent : (r : Out) → steps ≡ 0 → r ≡ out 21 (pos 0) 0 steps → left r env ≡ worked calls x next steps env g
  unfolding worked stepping
  worked_spent r z e = rw (e, z)

  worked_is : (steps ≡ 0 → ⊥) → (h : Given) → g ≡ h →
      worked calls x next steps env g ≡ given calls x next (steps - 1) env h
  unfolding worked stepping
  worked_is some h e = ap (λ (n : ℕ). worked calls x next n env g) (less_one steps (omega arith))
      ∙ ap (given calls x next (steps - 1) env) e

  worked_word : (steps ≡ 0 → ⊥) → (z : ℤ) → g ≡ done z tt → (env' : List ℤ) → env' ≡ set env (place calls x) z →
      (r : Out) → r ≡ out 0 z next (steps - 1) → left r env' ≡ worked calls x next steps env g
  worked_word some z e env' h r q = sym (worked_is some (done z tt) e ∙ ap₂ left (sym q) (sym h))

  worked_stop : (steps ≡ 0 → ⊥) → (n : ℕ) → g ≡ stop n tt → (r : Out) → r ≡ out n (pos 0) 0 (steps - 1) →
      left r env ≡ worked calls x next steps env g
  worked_stop some n e r q = sym (worked_is some (stop n tt) e ∙ ap (λ (y : Out). left y env) (sym q))

module _ (calls kind x : ℕ) (a b : Atom) (next steps : ℕ) (env : List ℤ) where
  abbrev operation_here : Given
  operation_here = operation_given kind (word_of calls env a) (word_of calls env b)

  pub operation_spent : (r : Out) → steps ≡ 0 → r ≡ out 21 (pos 0) 0 steps →
      left r env ≡ operation_line calls kind x a b next steps env
  operation_spent = worked_spent calls x next steps env operation_here

  module _ (some : steps ≡ 0 → ⊥) (v w : ℤ) (ve : v ≡ word_of calls env a) (we : w ≡ word_of calls env b)
      (e : Option ℤ) (ee : exact_outcome e ≡ checked (exact (operation_of kind) v w)) where
    operation_is : operation_here ≡ exact_outcome e
    operation_is = sym (ee ∙ ap₂ (λ (y : ℤ) (z : ℤ). checked (exact (operation_of kind) y z)) ve we)

    pub operation_value : (z : ℤ) → e ≡ Some z → (env' : List ℤ) → env' ≡ set env (place calls x) z → (r : Out) →
        r ≡ out 0 z next (steps - 1) → left r env' ≡ operation_line calls kind x a b next steps env
    operation_value z h =
        worked_word calls x next steps env operation_here some z (operation_is ∙ ap exact_outcome h)

    pub operation_over : e ≡ None → (r : Out) → r ≡ out 24 (pos 0) 0 (steps - 1) →
        left r env ≡ operation_line calls kind x a b next steps env
    operation_over h = worked_stop calls x next steps env operation_here some 24 (operation_is ∙ ap exact_outcome h)

-- ---- index and length

inside_past : (w : ℤ) (n : ℕ) → n ≤ nat_abs w → inside w n ≡ false
inside_past (pos i) n h = le-ltb i n h
inside_past (negsuc i) n h = refl

inside_in : (w : ℤ) (n : ℕ) → lt_z w (pos 0) ≡ false → nat_abs w < n → inside w n ≡ true
inside_in (pos i) n e h = lt-ltb i n h
inside_in (negsuc i) n e h = no_bool e

pub few_elements : (slots : List ℤ) (heads : List ℕ) (c : ℕ) → length (elements (cell (store_of slots heads) c)) ≤
    16
few_elements slots heads c = go (ltb c (cells_in slots heads)) refl
  where
    go : (t : Bool) → ltb c (cells_in slots heads) ≡ t → length (elements (cell (store_of slots heads) c)) ≤ 16
    go true e = omega (arith, length_in slots heads c (ltb-true _ _ e))
    go false e = omega (arith, length_out slots heads c (ltb-false _ _ e))

module _ (σ : Store) (calls x : ℕ) (a b : Atom) (next steps : ℕ) (env : List ℤ) where
  abbrev index_here : Given
  index_here = index_given (array_of σ (word_of calls env a)) (word_of calls env b)

  pub index_spent : (r : Out) → steps ≡ 0 → r ≡ out 21 (pos 0) 0 steps →
      left r env ≡ index_line σ calls x a b next steps env
  index_spent = worked_spent calls x next steps env index_here

  module _ (some : steps ≡ 0 → ⊥) (v w : ℤ) (ve : v ≡ word_of calls env a) (we : w ≡ word_of calls env b)
      (c : ℕ) (ce : c ≡ cell_of v) where
    index_is : (t : Bool) → inside w (length (elements (cell σ c))) ≡ t →
        index_here ≡ cond t (done (get_or (elements (cell σ c)) (nat_abs w) (pos 0)) tt) (stop 23 tt)
    index_is t e = rw (← ve, ← we, ← ce, e) refl

    pub index_off : (inside w (length (elements (cell σ c))) ≡ false) → (r : Out) → r ≡ out 23 (pos 0) 0 (steps - 1)
        →
        left r env ≡ index_line σ calls x a b next steps env
    index_off e = worked_stop calls x next steps env index_here some 23 (index_is false e)

    pub index_negative : lt_z w (pos 0) ≡ true → (r : Out) → r ≡ out 23 (pos 0) 0 (steps - 1) →
        left r env ≡ index_line σ calls x a b next steps env
    index_negative h r q = index_off (inside_negative w _ h) r q

    module _ (n : ℕ) (ne : n ≡ length (elements (cell σ c))) where
      pub index_past : n ≤ nat_abs w → (r : Out) → r ≡ out 23 (pos 0) 0 (steps - 1) →
          left r env ≡ index_line σ calls x a b next steps env
      index_past h r q = index_off (inside_past w _ (omega (arith, h, ne))) r q

      pub index_value : lt_z w (pos 0) ≡ false → nat_abs w < n → (z : ℤ) → z ≡ get_or (elements (cell σ c)) (nat_abs w)
          (pos 0) →
          (env' : List ℤ) → env' ≡ set env (place calls x) z → (r : Out) → r ≡ out 0 z next (steps - 1) →
          left r env' ≡ index_line σ calls x a b next steps env
      index_value l h z ze = worked_word calls x next steps env index_here some z
          (index_is true (inside_in w _ l (omega (arith, h, ne))) ∙ ap (λ (y : ℤ). done y tt) (sym ze))

module _ (σ : Store) (calls x : ℕ) (a : Atom) (next steps : ℕ) (env : List ℤ) where
  abbrev length_here : Given
  length_here = length_given (array_of σ (word_of calls env a))

  pub length_spent : (r : Out) → steps ≡ 0 → r ≡ out 21 (pos 0) 0 steps →
      left r env ≡ length_line σ calls x a next steps env
  length_spent = worked_spent calls x next steps env length_here

  pub length_value : (steps ≡ 0 → ⊥) → (v : ℤ) → v ≡ word_of calls env a → (c : ℕ) → c ≡ cell_of v → (z : ℤ) →
      z ≡ pos (length (elements (cell σ c))) → (env' : List ℤ) → env' ≡ set env (place calls x) z → (r : Out) →
      r ≡ out 0 z next (steps - 1) → left r env' ≡ length_line σ calls x a next steps env
  length_value some v ve c ce z ze = worked_word calls x next steps env length_here some z
      (ap (λ (y : ℤ). done y tt) (sym (ze ∙ ap (λ (k : ℕ). pos (length (elements (cell σ k)))) (ce ∙ ap cell_of ve))))

-- ---- a literal

-- the cell that an acquire answers is small
pub next_small : (free : ℕ) (slots : List ℤ) (heads : List ℕ) (q : Option Gained) (g : Gained) →
    acquired_outcome q ≡ next_cell free (store_of slots heads) →
    q ≡ Some g → g.cell < 256
unfolding has_free
next_small free slots heads q g e h = let e' = ap acquired_outcome (sym h) ∙ e in
    let given = cell_given free (store_of slots heads) g e' in omega (
      arith,
      ap (λ (x : Gained). x.cell) given.1,
      ltb-true (store_of slots heads).first (cell_count (store_of slots heads)) given.0,
      store_size slots heads,
      few_cells slots heads,
    )

module _ (kinds : List ℕ) (operands : List ℤ) (calls x d at steps : ℕ) (m : Memory) where
  pub literal_spent : (r : Out) → steps ≡ 0 → r ≡ out 21 (pos 0) 0 steps →
      ran r m ≡ literal_line kinds operands calls x d at steps m
  unfolding leaf_done giving_line stepping
  literal_spent r z e = rw (e, z)

  module _ (some : steps ≡ 0 → ⊥) (ws : List ℤ) (we : ws ≡ words_at 16 kinds operands calls m.env (at + 1))
      (q : Option Gained) (qe : acquired_outcome q ≡ cell_from m) (σ : Store) (σe : σ ≡ acquired d ws m.store) where
    literal_is : literal_line kinds operands calls x d at steps m
        ≡ with_store σ (given calls x (at + 1 + length ws) (steps - 1) (noted_by (acquired_outcome q) m.env)
        (acquired_given (acquired_outcome q)))
    unfolding leaf_done giving_line stepping
    literal_is = ap (λ (n : ℕ). literal_line kinds operands calls x d at n m) (less_one steps (omega arith))
        ∙ rw (← we, ← qe, ← σe) refl

    pub literal_cell : (g : Gained) → q ≡ Some g → (env₁ : List ℤ) → env₁ ≡ noted g.left m.env → (z : ℤ) →
        z ≡ pos g.cell →
        (env' : List ℤ) → env' ≡ set env₁ (place calls x) z → (n : ℕ) → n ≡ length ws → (r : Out) →
        r ≡ out 0 z (at + 1 + n) (steps - 1) →
        ran r (memory σ env') ≡ literal_line kinds operands calls x d at steps m
    literal_cell g h env₁ f z ze env' b n ne r p = sym (literal_is
        ∙ ap (λ (y : Option Gained). with_store σ (given calls x (at + 1 + length ws) (steps - 1)
        (noted_by (acquired_outcome y) m.env) (acquired_given (acquired_outcome y)))) h
        ∙ ap₂ (λ (l : List ℤ) (y : ℤ). with_store σ (given calls x (at + 1 + length ws) (steps - 1) l (done y tt)))
        (sym f) (sym ze)
        ∙ ap (λ (i : ℕ). with_store σ (given calls x (at + 1 + i) (steps - 1) env₁ (done z tt))) (sym ne)
        ∙ ap₂ (λ (y : Out) (l : List ℤ). ran y (memory σ l)) (sym p) (sym b))

    pub literal_none : q ≡ None → (r : Out) → r ≡ out 25 (pos 0) 0 (steps - 1) →
        ran r (memory σ m.env) ≡ literal_line kinds operands calls x d at steps m
    literal_none h r p = sym (literal_is
        ∙ ap (λ (y : Option Gained). with_store σ (given calls x (at + 1 + length ws) (steps - 1)
        (noted_by (acquired_outcome y) m.env) (acquired_given (acquired_outcome y)))) h
        ∙ ap (λ (y : Out). ran y (memory σ m.env)) (sym p))

-- ---- any leaf

-- a small work that leaves the store alone is a leaf
worked_leaf : (calls at x next s : ℕ) (m : Memory) (g : Given) →
    with_store m.store (worked calls x next s m.env g) ≡ leaf_done calls at s m (giving x next m g)
unfolding worked leaf_done giving_line stepping
worked_leaf calls at x next zero m g = refl
worked_leaf calls at x next (suc s) m g = refl

module _ (kinds : List ℕ) (operands : List ℤ) (table : List ℕ) (calls at steps : ℕ) (m : Memory) (l : Line) where
  left_leaf : (k : Line) → l ≡ k → (x next : ℕ) (g : Given) →
      doing kinds operands table calls at m k ≡ giving x next m g →
      (r : Out) (env' : List ℤ) → left r env' ≡ worked calls x next steps m.env g →
      ran r (memory m.store env') ≡ leaf kinds operands table calls at steps m l
  left_leaf k e x next g d r env' h = ap (with_store m.store) h ∙ worked_leaf calls at x next steps m g
      ∙ ap (leaf_done calls at steps m) (sym (ap (doing kinds operands table calls at m) e ∙ d))

  pub leaf_operation : (kind x : ℕ) (a b : Atom) → l ≡ L.Operation kind x a b → (r : Out) (env' : List ℤ) →
      left r env' ≡ operation_line calls kind x a b (at + 3) steps m.env →
      ran r (memory m.store env') ≡ leaf kinds operands table calls at steps m l
  unfolding doing
  leaf_operation kind x a b e = left_leaf (L.Operation kind x a b) e x (at + 3) _ refl

  pub leaf_index : (x : ℕ) (a b : Atom) → l ≡ L.Index x a b → (r : Out) (env' : List ℤ) →
      left r env' ≡ index_line m.store calls x a b (at + 3) steps m.env →
      ran r (memory m.store env') ≡ leaf kinds operands table calls at steps m l
  unfolding doing
  leaf_index x a b e = left_leaf (L.Index x a b) e x (at + 3) _ refl

  pub leaf_length : (x : ℕ) (a : Atom) → l ≡ L.Length x a → (r : Out) (env' : List ℤ) →
      left r env' ≡ length_line m.store calls x a (at + 2) steps m.env →
      ran r (memory m.store env') ≡ leaf kinds operands table calls at steps m l
  unfolding doing
  leaf_length x a e = left_leaf (L.Length x a) e x (at + 2) _ refl

  pub leaf_literal : (x d : ℕ) → l ≡ L.Literal x d → (w : Ran) → w ≡ literal_line kinds operands calls x d at steps
      m →
      w ≡ leaf kinds operands table calls at steps m l
  unfolding doing
  leaf_literal x d e w h = h ∙ ap (leaf kinds operands table calls at steps m) (sym e)

  -- an iota or a replicate
  pub leaf_array : (k : Line) → l ≡ k → (x next : ℕ) (counting : Bool) (w : ℤ) (d : ℕ) (n : ℤ) →
      doing kinds operands table calls at m k ≡ array_doing x next counting w d n m → (r : Ran) →
      r ≡ array_line calls x next counting w d n steps m → r ≡ leaf kinds operands table calls at steps m l
  unfolding leaf_done
  leaf_array k e x next counting w d n h r q =
      q ∙ ap (leaf_done calls at steps m) (sym (ap (doing kinds operands table calls at m) e ∙ h))

  pub leaf_iota : (x : ℕ) (a : Atom) → l ≡ L.Iota x a → (r : Ran) →
      r ≡ array_line calls x (at + 2) true (pos 0) 0 (word_of calls m.env a) steps m →
      r ≡ leaf kinds operands table calls at steps m l
  unfolding doing
  leaf_iota x a e = leaf_array (L.Iota x a) e x (at + 2) true (pos 0) 0 (word_of calls m.env a) refl

  pub leaf_replicate : (x : ℕ) (a b : Atom) → l ≡ L.Replicate x a b → (r : Ran) →
      r ≡ array_line calls x (at + 3) false (word_of calls m.env b) (element_depth table calls x m.env)
      (word_of calls m.env a) steps m →
      r ≡ leaf kinds operands table calls at steps m l
  unfolding doing
  leaf_replicate x a b e = leaf_array (L.Replicate x a b) e x (at + 3) false (word_of calls m.env b)
      (element_depth table calls x m.env) (word_of calls m.env a) refl

  module _ (x : ℕ) (v : ℤ) (ve : v ≡ word_of calls m.env (Name x)) (c : ℕ) (ce : c ≡ cell_of v) (σ : Store)
      (r : Out) (re : r ≡ out 0 (pos 0) (at + 1) steps) where
    -- a line that changes the memory as it changes a cell
    changed_leaf : (k : Line) → l ≡ k → (change : ℕ → Memory) →
        doing kinds operands table calls at m k ≡ changing (change (cell_of (word_of calls m.env (Name x)))) →
        (m' : Memory) → m' ≡ change c → ran r m' ≡ leaf kinds operands table calls at steps m l
    unfolding leaf_done
    changed_leaf k e change d m' h = ap₂ ran re (h ∙ ap change (ce ∙ ap cell_of ve))
        ∙ ap (leaf_done calls at steps m) (sym (ap (doing kinds operands table calls at m) e ∙ d))

    pub leaf_retain : l ≡ L.Retain x → σ ≡ retained c m.store →
        ran r (memory σ m.env) ≡ leaf kinds operands table calls at steps m l
    unfolding doing
    leaf_retain e h = changed_leaf (L.Retain x) e (λ c. memory (retained c m.store) m.env) refl
        (memory σ m.env) (ap (λ (τ : Store). memory τ m.env) h)

    pub leaf_release : l ≡ L.Release x → (n : ℕ) → Releases deepest c m.store σ n → (env' : List ℤ) →
        env' ≡ raised n m.env → ran r (memory σ env') ≡ leaf kinds operands table calls at steps m l
    unfolding doing
    leaf_release e n h env' f = changed_leaf (L.Release x) e (λ c. released_memory c m) refl (memory σ env')
        (ap (memory σ) (f ∙ ap (λ (k : ℕ). raised k m.env)
        (let z : n ≡ cells_taken m.store - cells_taken σ = omega (arith, h.freed) in z))
        ∙ ap (λ (τ : Store). memory τ (raised (cells_taken m.store - cells_taken τ) m.env)) h.store)

-- the variants of the lines that work or end a tree
abbrev pub bigger : List ℕ
bigger = 1 ∷ 7 ∷ 8 ∷ 11 ∷ []

-- which variants are worked so
abbrev pub Told : Doing → ℕ → Type 0
Told (giving x next m' g) n = T (not (has_key bigger n))
Told (changing m') n = T (not (has_key bigger n))
Told (ending a) n = n ≡ 11
Told (calling x f) n = n ≡ 1
Told (branching x g) n = n ≡ 7
Told (looping x k p q us) n = n ≡ 8

module _ (kinds : List ℕ) (operands : List ℤ) (table : List ℕ) (calls at : ℕ) (m : Memory) where
  pub told : (l : Line) → Told (doing kinds operands table calls at m l) (tag_of the_type l)
  unfolding doing
  told (L.Operation kind x a b) = tt
  told (L.Call x f) = refl
  told (L.Literal x d) = tt
  told (L.Index x a b) = tt
  told (L.Length x a) = tt
  told (L.Iota x a) = tt
  told (L.Replicate x a b) = tt
  told (L.If x g) = refl
  told (L.Loop x l) = refl
  told (L.Retain x) = tt
  told (L.Release x) = tt
  told (L.End a) = refl

  -- a line that works or ends a tree
  pub leaf_other : (steps : ℕ) (l : Line) → OneOf bigger (tag_of the_type l) → (r : Out) → r ≡ out no_line
      (pos 0) 0 steps →
      ran r m ≡ leaf kinds operands table calls at steps m l
  unfolding leaf_done
  leaf_other steps l h r e = ap (λ (y : Out). ran y m) e ∙ go (doing kinds operands table calls at m l) (told l)
    where
      go : (d : Doing) → Told d (tag_of the_type l) → halted no_line steps m ≡ leaf_done calls at steps m d
      go (giving x next m' g) t = absurd (miss bigger (tag_of the_type l) t h)
      go (changing m') t = absurd (miss bigger (tag_of the_type l) t h)
      go (ending a) t = refl
      go (calling x f) t = refl
      go (branching x g) t = refl
      go (looping x k p q us) t = refl

-- ---- the steps left

given_fewer : (calls x next s : ℕ) (env : List ℤ) (g : Given) → (given calls x next s env g).out.steps ≤ suc s
given_fewer calls x next s env (done z u) = omega arith
given_fewer calls x next s env (stop n u) = omega arith

pub leaf_fewer : (calls at s : ℕ) (m : Memory) (d : Doing) → (leaf_done calls at s m d).out.steps ≤ s
unfolding leaf_done giving_line stepping
leaf_fewer calls at zero m (giving x next m' g) = omega arith
leaf_fewer calls at (suc s) m (giving x next m' g) = given_fewer calls x next s m'.env g
leaf_fewer calls at s m (changing m') = omega arith
leaf_fewer calls at s m (ending a) = omega arith
leaf_fewer calls at s m (calling x f) = omega arith
leaf_fewer calls at s m (branching x g) = omega arith
leaf_fewer calls at s m (looping x k p q us) = omega arith
