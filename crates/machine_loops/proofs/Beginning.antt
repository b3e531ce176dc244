-- Laws of what a loop begins with, and of the cells that its passes use.
use Rattle.prelude.specs.Kit.{ℕ, ◌<◌, arith, true, false, Bool, cond, true≢false, ◌≡◌, refl, ◌∙◌, sym, ap, subst, ap₂}
use Rattle.prelude.specs.Kit.{List, [], ◌∷◌, map, eqb, ltb, ℤ, pos, length, ne_eqb, eq-eqb, ltb-true, ltb-false, tag_of}
use Rattle.prelude.specs.Kit.{OneOf, miss}
use Rattle.std.specs.Prelude.{Option, Some, None}
use Rattle.semantics.specs.Kinds.{Loop, rewriting}
use Rattle.semantics.specs.Store.{Store, Cell as C, cell, cell_of, clear, elements, acquired, has_free, cell_count}
use Rattle.semantics.specs.Machine.{looped_over}
use Rattle.semantics.specs.Words.{store_of, cells_in}
use Rattle.store_words.proofs.CellWords.{in_cells, store_size, cell_out, length_out}
use Rattle.store.specs.declared.Gained.{Gained}
use Rattle.store.specs.Acquiring.{acquired_outcome, next_cell}
use Rattle.store.proofs.Filling.{cell_given}
use Rattle.kinds.specs.declared.Atom.{Atom}
use Rattle.machine_code.specs.declared.Loop as P
use Rattle.machine_code.specs.declared.Loop.TheVariants.{Map, Filter, Reduce, Rewrite}
use Rattle.machine_code.specs.contracts.Loop.{the_type}
use Rattle.machine_frames.specs.Frames.{word_of, level_of, noted}
use Rattle.machine_frames.specs.Work.{Memory, memory, ran, out}
use Rattle.machine_lines.specs.Lines.{noted_by, acquired_given, gave, kind_of, atoms_of}
use Rattle.machine_loops.specs.declared.Way.{Way}
use Rattle.machine_loops.specs.declared.Way.TheVariants.{Fill, Keep, Hand, Overwrite}
use Rattle.machine_loops.specs.declared.Passes.{Passes}
use Rattle.machine_loops.specs.Loops.{way_of, new_carried, is_alone, carry_first, Within}
use Rattle.machine_loops.specs.Loops.{ResultWithin, NewCarries, Carries, Readied, Begins}

-- ---- cells that are there

-- arrays of the same lengths have the same cells
pub within_kept : (slots slots' : List ℤ) (heads heads' : List ℕ) (c : ℕ) → length slots' ≡ length slots →
    length heads' ≡ length heads → Within slots heads c → Within slots' heads' c
within_kept slots slots' heads heads' c s h w = (w.0, omega (arith, h, w.1), omega (arith, s, w.2))

pub result_kept : (way : Way) (slots slots' : List ℤ) (heads heads' : List ℕ) (c : ℕ) → length slots' ≡ length slots →
    length heads' ≡ length heads → ResultWithin way slots heads c → ResultWithin way slots' heads' c
result_kept (Fill releases) slots slots' heads heads' c s h w = within_kept slots slots' heads heads' c s h w
result_kept (Keep arrays) slots slots' heads heads' c s h w = within_kept slots slots' heads heads' c s h w
result_kept Hand slots slots' heads heads' c s h w = tt
result_kept Overwrite slots slots' heads heads' c s h w = within_kept slots slots' heads heads' c s h w

-- the cell that an acquire answers
pub cell_within : (slots : List ℤ) (heads : List ℕ) (free : ℕ) (q : Option Gained) (g : Gained) →
    acquired_outcome q ≡ next_cell free (store_of slots heads) → q ≡ Some g → Within slots heads g.cell
unfolding has_free
cell_within slots heads free q g e h =
    let given = cell_given free (store_of slots heads) g (ap acquired_outcome (sym h) ∙ e) in
    in_cells slots heads g.cell (omega (
      arith,
      ap (λ (x : Gained). x.cell) given.1,
      ltb-true (store_of slots heads).first (cell_count (store_of slots heads)) given.0,
      store_size slots heads,
    ))

-- a cell that has elements
pub array_within : (slots : List ℤ) (heads : List ℕ) (c : ℕ) → 0 < length (elements (cell (store_of slots heads) c)) →
    Within slots heads c
array_within slots heads c h = go (ltb c (cells_in slots heads)) refl
  where
    go : (t : Bool) → ltb c (cells_in slots heads) ≡ t → Within slots heads c
    go true e = in_cells slots heads c (ltb-true _ _ e)
    go false e = absurd (omega (arith, h, length_out slots heads c (ltb-false _ _ e)))

-- ---- what is carried into the first pass

module _ (calls : ℕ) (env : List ℤ) (l : P.Loop) where
  abbrev pub words : P.Loop → List ℤ
  words m = map (word_of calls env) (atoms_of m)

  -- the word of its array, where the loop is known
  pub array_word : (m : P.Loop) → l ≡ m → (w : ℤ) → w ≡ looped_over (kind_of m) (words m) →
      w ≡ looped_over (kind_of l) (words l)
  array_word m e w h = subst (λ (m : P.Loop). w ≡ looped_over (kind_of m) (words m)) (sym e) h

  -- a reduce's start
  pub start_carried : (p q : ℕ) (b a : Atom) → l ≡ Reduce p q b a → (d : ℕ) (slots : List ℤ) (heads : List ℕ) (w : ℤ) →
      w ≡ word_of calls env b →
      Carries (kind_of l) d (words l) (memory (store_of slots heads) env) slots heads env (Some w)
  start_carried p q b a e d slots heads w we =
      subst (λ (m : P.Loop). Carries (kind_of m) d (words m) (memory (store_of slots heads) env) slots heads env
      (Some w)) (sym e) (
        λ s. ap (λ (y : ℤ). ran (out 0 y 0 s) (memory (store_of slots heads) env)) (sym we),
        tt,
      )

-- a new cell for the result
module _ (d : ℕ) (σ : Store) (env : List ℤ) (free : ℕ) (fe : free ≡ level_of env) (slots : List ℤ) (heads : List ℕ)
    (q : Option Gained) (qe : acquired_outcome q ≡ next_cell free σ) (store : store_of slots heads ≡ acquired d [] σ) where
  cell_is : (s : ℕ) → new_carried d s (memory σ env)
      ≡ gave s (memory (store_of slots heads) (noted_by (acquired_outcome q) env)) (acquired_given (acquired_outcome q))
  cell_is s =
      let e = sym (qe ∙ ap (λ (n : ℕ). next_cell n σ) fe) in
      λ i. gave s (memory (sym store i) (noted_by (e i) env)) (acquired_given (e i))

  pub cell_carried : (g : Gained) → q ≡ Some g → (env' : List ℤ) → env' ≡ noted g.left env →
      Within slots heads g.cell → (z : ℤ) → z ≡ pos g.cell → NewCarries d (memory σ env) slots heads env' (Some z)
  unfolding cell_of
  cell_carried g e env' ne w z ze = (
    λ s. cell_is s ∙ rw (e, ze, ne) refl,
    subst (λ (y : ℤ). Within slots heads (cell_of y)) (sym ze) w,
  )

  pub none_carried : q ≡ None → NewCarries d (memory σ env) slots heads env None
  none_carried e s = cell_is s ∙ rw e refl

-- the loops that always take a cell
abbrev filling : List ℕ
filling = 0 ∷ 1 ∷ []

module _ (l : P.Loop) (d : ℕ) (ws : List ℤ) (m : Memory) (slots : List ℤ) (heads : List ℕ) (env : List ℤ) where
  pub new_carries : OneOf filling (tag_of the_type l) → (r : Option ℤ) → NewCarries d m slots heads env r →
      Carries (kind_of l) d ws m slots heads env r
  new_carries h r n = go l h r n
    where
      go : (k : P.Loop) → OneOf filling (tag_of the_type k) → (r : Option ℤ) → NewCarries d m slots heads env r →
          Carries (kind_of k) d ws m slots heads env r
      go (Map p a) g (Some w) n = n
      go (Map p a) g None n = n
      go (Filter p a) g (Some w) n = n
      go (Filter p a) g None n = n
      go (Reduce p q b a) g r n = absurd (miss filling 2 tt g)
      go (Rewrite p a) g r n = absurd (miss filling 3 tt g)

-- ---- an array that is to be rewritten

-- a cell with one reference is there
alone_within : (slots : List ℤ) (heads : List ℕ) (w : ℤ) → is_alone (store_of slots heads) w ≡ true →
    Within slots heads (cell_of w)
unfolding clear
alone_within slots heads w h = go (ltb (cell_of w) (cells_in slots heads)) refl
  where
    go : (t : Bool) → ltb (cell_of w) (cells_in slots heads) ≡ t → Within slots heads (cell_of w)
    go true e = in_cells slots heads (cell_of w) (ltb-true _ _ e)
    go false e = absurd (true≢false (sym h
        ∙ ap (λ (x : C). eqb x.count 1) (cell_out slots heads (cell_of w) (ltb-false _ _ e))))

-- what the test of its cell says
pub alone_told : (σ : Store) (w : ℤ) (c : ℕ) → c ≡ cell_of w → (t u : Bool) → t ≡ eqb (cell σ c).count 1 → t ≡ u →
    is_alone σ w ≡ u
alone_told σ w c ce t u e f = ap (λ (d : ℕ). eqb (cell σ d).count 1) (sym ce) ∙ sym e ∙ f

-- by whether the array itself is carried into the first pass
module _ (l : P.Loop) (p : ℕ) (a : Atom) (le : l ≡ Rewrite p a) (d c : ℕ) (v : ℤ) (e : ℕ) (ee : e ≡ cell_of v) where
  pub way_in_place : e ≡ c → Overwrite ≡ way_of (kind_of l) d c v
  way_in_place h = subst (λ (k : P.Loop). Overwrite ≡ way_of (kind_of k) d c v) (sym le)
      (rw (eq-eqb (cell_of v) c (sym ee ∙ h)) refl)

  pub way_anew : (e ≡ c → ⊥) → Fill true ≡ way_of (kind_of l) d c v
  way_anew h = subst (λ (k : P.Loop). Fill true ≡ way_of (kind_of k) d c v) (sym le)
      (rw (ne_eqb (cell_of v) c (λ z. h (ee ∙ z))) refl)

-- both ways of such a loop have a cell for the result
rewrite_within : (t : Bool) (slots : List ℤ) (heads : List ℕ) (c : ℕ) → Within slots heads c →
    ResultWithin (cond t Overwrite (Fill true)) slots heads c
rewrite_within true slots heads c h = h
rewrite_within false slots heads c h = h

module _ (calls : ℕ) (env : List ℤ) (l : P.Loop) (p : ℕ) (a : Atom) (le : l ≡ Rewrite p a) (d : ℕ) (slots : List ℤ)
    (heads : List ℕ) (w : ℤ) (we : w ≡ word_of calls env a) where
  abbrev here : Memory
  here = memory (store_of slots heads) env

  -- what begins a loop that rewrites begins this one
  as_rewrite : (slots' : List ℤ) (heads' : List ℕ) (env' : List ℤ) (r : Option ℤ) →
      Carries rewriting d (w ∷ []) here slots' heads' env' r →
      Carries (kind_of l) d (words calls env l l) here slots' heads' env' r
  as_rewrite slots' heads' env' r =
      subst (λ (k : P.Loop). Carries rewriting d (w ∷ []) here slots' heads' env' r →
      Carries (kind_of k) d (words calls env l k) here slots' heads' env' r) (sym le)
      (subst (λ (y : ℤ). Carries rewriting d (w ∷ []) here slots' heads' env' r →
      Carries rewriting d (y ∷ []) here slots' heads' env' r) we (λ h. h))

  -- nothing else refers to the array
  pub alone_carried : is_alone (store_of slots heads) w ≡ true →
      Carries (kind_of l) d (words calls env l l) here slots heads env (Some w)
  alone_carried h = as_rewrite slots heads env (Some w) (
    λ s. rw h,
    rewrite_within (eqb (cell_of w) (cell_of w)) slots heads (cell_of w) (alone_within slots heads w h),
  )

  -- something does
  pub shared_carried : is_alone (store_of slots heads) w ≡ false → (slots' : List ℤ) (heads' : List ℕ) (env' : List ℤ)
      (r : Option ℤ) → NewCarries d here slots' heads' env' r →
      Carries (kind_of l) d (words calls env l l) here slots' heads' env' r
  shared_carried h slots' heads' env' r n = as_rewrite slots' heads' env' r (go r n)
    where
      go : (y : Option ℤ) → NewCarries d here slots' heads' env' y → Carries rewriting d (w ∷ []) here slots' heads' env' y
      go (Some v) n = (
        λ s. rw h (n.0 s),
        rewrite_within (eqb (cell_of v) (cell_of w)) slots' heads' (cell_of v) n.1,
      )
      go None n = λ s. rw h (n s)

-- ---- the passes

module _ (k : Loop) (p q d : ℕ) (ws : List ℤ) (slots slots' : List ℤ) (heads heads' : List ℕ) (env env' : List ℤ)
    (slots_long : length slots' ≡ length slots) (heads_long : length heads' ≡ length heads) (depth : ℕ)
    (de : depth ≡ d) where
  abbrev before : Memory
  before = memory (store_of slots heads) env

  -- the passes of a loop into whose first a word is carried
  pub readied : (l : Passes) → l.way ≡ way_of k depth l.from l.carried → l.first ≡ p → l.second ≡ q →
      l.from ≡ cell_of (looped_over k ws) → l.count ≡ length (elements (cell (store_of slots heads) l.from)) →
      Carries k depth ws before slots' heads' env' (Some l.carried) →
      Readied k p q d ws before slots' heads' env' l
  readied l way first second from count carries = record {
    way = way ∙ ap₂ (λ (n c : ℕ). way_of k n c l.carried) de from;
    first = first;
    second = second;
    from = from;
    count = count ∙ ap (λ (c : ℕ). length (elements (cell (store_of slots heads) c))) from;
    carried = λ s. ap (λ (n : ℕ). carry_first k n ws s before) (sym de) ∙ carries.0 s;
    usable = record {
      array = λ n. within_kept slots slots' heads heads' l.from slots_long heads_long
          (array_within slots heads l.from (omega (arith, n, count)));
      result = subst (λ (y : Way). ResultWithin y slots' heads' (cell_of l.carried))
          (sym (way ∙ ap (λ (c : ℕ). way_of k depth c l.carried) from)) carries.1;
    };
  }

  pub dry_begun : Carries k depth ws before slots' heads' env' None →
      Begins k p q d ws before slots' heads' env' None
  dry_begun carries s = ap (λ (n : ℕ). carry_first k n ws s before) (sym de) ∙ carries s
