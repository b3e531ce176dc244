-- Loops that fill a new cell: what holds between their passes, and what a pass does to the cell.
use Rattle.prelude.specs.Kit.{ℕ, ◌≤◌, ◌+◌, ◌<◌, suc, arith, dec_lt, true, ◌≡◌, refl, ◌∙◌, sym, ap, subst, ap₂, inl, inr}
use Rattle.prelude.specs.Kit.{◌≢◌, List, [], ◌∷◌, ◌++◌, map, map-append, ℤ, pos, length, length-append}
use Rattle.semantics.specs.Basics.{occurrences, ◌∈◌}
use Rattle.semantics.specs.Value.{Value, list, items}
use Rattle.semantics.specs.Code.{Atom}
use Rattle.semantics.specs.Meaning.{Meter, Env, with_item}
use Rattle.semantics.specs.Machine.{State, Frame, with_store, touching}
use Rattle.semantics.specs.Store.{Store, Cell, cell, cell_of, elements, inner, named_by, has_free, acquired, appended}
use Rattle.semantics.specs.Demands.{value_of}
use Rattle.laws.specs.Lists.{◌⊆◌, occurrences_append, occurs_first}
use Rattle.laws.specs.Values.{items_list}
use Rattle.discipline.proofs.store.Invariant.{Invariant, Alike, Keeps, StandsFor}
use Rattle.discipline.proofs.store.Counting.{in_append_left, in_append_right, named_by_append}
use Rattle.discipline.proofs.store.Change.{permute, commit, held_used}
use Rattle.discipline.proofs.store.Kept.{keeps_trans, keeps_fewer, stands_kept, words_alike}
use Rattle.discipline.proofs.store.Acquire.{Reserves, reserve, filled_elements}
use Rattle.discipline.proofs.store.Append.{Appends, append}
use Rattle.discipline.proofs.machine.Images.{without_middle, first_or_later, one_more}
use Rattle.discipline.proofs.machine.Agreement.{Together}
use Rattle.discipline.proofs.machine.Frames.{hold, Setting, Situation, Lent, Ended, given}
use Rattle.discipline.proofs.machine.Standing.{hold_aside, none_in, named_one, stands_held, lent_kept}
use Rattle.discipline.proofs.machine.Elements.{array_items, array_length, array_depth, elements_length}
use Rattle.discipline.proofs.machine.Acquiring.{filled_count, filled_depth, cell_stands}
use Rattle.discipline.proofs.machine.Situations.{touch_together}
use Rattle.discipline.proofs.machine.Spending.{less_in}
use Rattle.discipline.proofs.machine.Passes.{kept_aside, outer, lent_names, lend_split, lend, lend_back}

-- a cell is one root more
pub one_root : (c : ℕ) (Z F R : List ℕ) → (Z ++ F) ⊆ R → ((c ∷ Z) ++ F) ⊆ (R ++ (c ∷ []))
one_root c Z F R rooted q h = elim (first_or_later q c (Z ++ F) h) [
  | inl e ↦ in_append_right q R (c ∷ []) (subst (λ (k : ℕ). k ∈ (c ∷ [])) (sym e) (occurs_first c []))
  | inr g ↦ in_append_left q R (c ∷ []) (rooted q g)
]

-- The result has elements of depth d. F are the references of others, that of the array among them; the names L are
-- lent and the names I hold; n references more may come.
module _ (C : Setting) (d : ℕ) (Z F R L I : List ℕ) (ρ : Frame) (δ : Env) (n : ℕ) where
  -- between two passes, of which i are done and filled the cell of w; before the first the store was σ
  pub record Passing (σ : Store) (i : ℕ) (w : ℤ) (v : Value) (τ : Store) : Type 0 where
    pub situation : Situation C τ (cell_of w ∷ Z) F R L I [] ρ δ n
    pub filled : StandsFor τ (suc d) w v
    pub size : length (items v) ≤ i
    pub keeps : Keeps σ τ (Z ++ F)

  module _ {σ τ : Store} {i k e : ℕ} {w : ℤ} {x : Value} (P : Passing σ i w x τ) {r : ℤ} {s : State} {v : Value}
      {m : Meter} (E : Ended C e τ (cell_of w ∷ Z) F I ρ δ k r s v m) where
    abbrev υ : Store
    υ = s.store

    abbrev c : ℕ
    c = cell_of w

    pub inv : Invariant υ (c ∷ Z) (named_by e (r ∷ []) ++ (hold ρ I ++ F))
    inv = E.answered.invariant

    pub filling : c ∈ (c ∷ Z)
    filling = occurs_first c Z

    pub once : (cell υ c).count ≡ 1
    once = inv.alone c filling

    -- the result is referred to nowhere else
    pub apart_result : (q : ℕ) → q ∈ (Z ++ (named_by e (r ∷ []) ++ (hold ρ I ++ F))) → q ≢ c
    unfolding occurrences
    apart_result q h g = omega (
      arith,
      h,
      once,
      inv.counts c,
      occurs_first c [],
      ap (λ (k : ℕ). occurrences k (Z ++ (named_by e (r ∷ []) ++ (hold ρ I ++ F)))) g,
      occurrences_append c Z (named_by e (r ∷ []) ++ (hold ρ I ++ F)),
    )

    pub still_filled : StandsFor υ (suc d) w x
    still_filled = stands_kept P.filled (λ q h.
        let g = named_one (suc d) w q h in (
          subst (λ (k : ℕ). Alike τ υ k) (sym g) (E.keeps.keep c (in_append_left c (c ∷ Z) F filling)),
          subst (λ (k : ℕ). 0 < (cell υ k).count) (sym g) (omega (arith, once)),
        ))

    wider : (q : ℕ) → q ∈ (Z ++ F) → q ∈ ((c ∷ Z) ++ F)
    wider q h = omega (arith, one_more q c (Z ++ F))

    pub others_kept : Keeps τ υ (Z ++ F)
    others_kept = record { keep = λ q h. E.keeps.keep q (wider q h) }

    pub still_lent : (y : ℕ) → y ∈ L → Lent υ F (C.depths y) (ρ y) (δ y)
    still_lent y h = lent_kept Z F others_kept (λ q g. held_used inv q (in_append_right q (named_by e (r ∷ []))
        (hold ρ I ++ F) (in_append_right q (hold ρ I) F g))) (P.situation.lent y h)

    -- once the result's cell is written, and it alone, what others hold is as it was
    module _ {after : Store} (holds : Invariant after (c ∷ Z) (hold ρ I ++ F))
        (alike : (q : ℕ) → q ≢ c → Alike υ after q) where
      kept : (q : ℕ) → q ∈ (Z ++ (hold ρ I ++ F)) → Alike υ after q
      kept q h = alike q (apart_result q (without_middle Z (named_by e (r ∷ [])) (hold ρ I ++ F) q h))

      still_kept : Keeps υ after (Z ++ F)
      still_kept = record { keep = λ q h. kept q (without_middle Z (hold ρ I) F q h) }

      pub written_situation : Situation C after (c ∷ Z) F R L I [] ρ δ n
      written_situation = record {
        invariant = holds;
        numbers = P.situation.numbers;
        arrays = λ y h. stands_held ρ y I h (E.arrays y h)
            (λ q g. kept q (in_append_right q Z (hold ρ I ++ F) (in_append_left q (hold ρ I) F g)))
            (λ q g. held_used holds q (in_append_left q (hold ρ I) F g));
        pending = λ y h. absurd (none_in y h);
        lent = λ y h. lent_kept Z F still_kept (λ q g. held_used holds q (in_append_right q (hold ρ I) F g))
            (still_lent y h);
        room = P.situation.room;
        rooted = P.situation.rooted;
      }

      pub written_keeps : Keeps σ after (Z ++ F)
      written_keeps = keeps_trans P.keeps (keeps_trans others_kept still_kept)

  -- ---- a pass that puts nothing into the cell

  pub pass_kept : {σ τ : Store} {i k : ℕ} {w : ℤ} {x : Value} → Passing σ i w x τ → {r : ℤ} {s : State} {v : Value}
      {m : Meter} → Ended C 0 τ (cell_of w ∷ Z) F I ρ δ k r s v m → Passing σ (suc i) w x s.store
  pass_kept P E = record {
    situation = record {
      invariant = E.answered.invariant;
      numbers = P.situation.numbers;
      arrays = E.arrays;
      pending = λ y h. absurd (none_in y h);
      lent = still_lent P E;
      room = P.situation.room;
      rooted = P.situation.rooted;
    };
    filled = still_filled P E;
    size = omega (arith, P.size);
    keeps = keeps_trans P.keeps (others_kept P E);
  }

  -- ---- a pass that puts a word behind the elements

  module _ {σ τ : Store} {i k : ℕ} {w : ℤ} {x : Value} (P : Passing σ i w x τ) (few : i < 16) {r : ℤ} {s : State}
      {v : Value} {m : Meter} (E : Ended C d τ (cell_of w ∷ Z) F I ρ δ k r s v m) where
    abbrev after : Store
    after = appended (cell_of w) r s.store

    abbrev refs : List ℕ
    refs = named_by d (r ∷ []) ++ (hold ρ I ++ F)

    deep : (cell s.store (cell_of w)).depth ≡ d
    deep = array_depth (still_filled P E)

    small : (cell s.store (cell_of w)).size < 16
    small = omega (
      arith,
      few,
      P.size,
      array_length (still_filled P E),
      elements_length (cell s.store (cell_of w))
          (E.answered.invariant.tidy (cell_of w) (omega (arith, once P E))),
    )

    appends : Appends s.store after (cell_of w) r (cell_of w ∷ Z) (hold ρ I ++ F)
    appends = append (hold ρ I ++ F) (cell_of w) r
        (subst (λ (k : ℕ). Invariant s.store (cell_of w ∷ Z) (named_by k (r ∷ []) ++ (hold ρ I ++ F))) (sym deep)
        E.answered.invariant)
        (filling P E) small
        (λ q h. deep ∙ (E.answered.stands.fits q (subst (λ (k : ℕ). q ∈ named_by k (r ∷ [])) deep h)).1)

    inner_kept : (q : ℕ) → q ∈ inner (cell s.store (cell_of w)) →
        Alike s.store after q × (d ≡ suc (cell s.store q).depth)
    inner_kept q h =
        let g = E.answered.invariant.typed (cell_of w) q h in (
          appends.alike q (λ f. omega (arith, g, ap (λ (j : ℕ). (cell s.store j).depth) f)),
          sym deep ∙ g,
        )

    element_kept : (q : ℕ) → q ∈ named_by d (elements (cell s.store (cell_of w)) ++ (r ∷ [])) →
        Alike s.store after q × (d ≡ suc (cell s.store q).depth)
    unfolding inner
    element_kept q h = elim (dec_lt 0 (occurrences q (named_by d (elements (cell s.store (cell_of w)))))) [
      | yes g ↦ inner_kept q
          (subst (λ (k : ℕ). q ∈ named_by k (elements (cell s.store (cell_of w)))) (sym deep) g)
      | no g ↦
          let j : q ∈ named_by d (r ∷ []) =
          omega (arith, named_by_append q d (elements (cell s.store (cell_of w))) (r ∷ [])) in (
            appends.alike q (apart_result P E q (in_append_right q Z refs
                (in_append_left q (named_by d (r ∷ [])) (hold ρ I ++ F) j))),
            (E.answered.stands.fits q j).1,
          )
    ]

    value_now : value_of after (suc d) w ≡ with_item x v
    unfolding value_of
    value_now = ap (λ (l : List ℤ). list (map (value_of after d) l)) appends.new.elements
        ∙ ap (λ (l : List Value). list l)
        (words_alike d (elements (cell s.store (cell_of w)) ++ (r ∷ [])) element_kept
        ∙ map-append (value_of s.store d) (elements (cell s.store (cell_of w))) (r ∷ [])
        ∙ ap₂ {C = List Value} (λ (l : List Value) (u : Value). l ++ (u ∷ []))
        (sym (array_items (still_filled P E))) E.answered.stands.means)

    one_longer : length (items (with_item x v)) ≤ suc i
    one_longer =
        omega (arith, ap length (items_list (items x ++ (v ∷ []))), length-append (items x) (v ∷ []), P.size)

    pub pass_done : Passing σ (suc i) w (with_item x v) after
    pass_done = record {
      situation = written_situation P E appends.holds appends.alike;
      filled = cell_stands d w (with_item x v) value_now (omega (arith, once P E, appends.new.count))
          (appends.new.depth ∙ deep);
      size = one_longer;
      keeps = written_keeps P E appends.holds appends.alike;
    }

    pub pass_together : Together C.start (with_store s after (touching s.store (cell_of w))) m
    pass_together = touch_together (cell_of w) after E.answered.invariant (omega (arith, once P E)) appends.free
        appends.cells E.answered.together

-- ---- before the first pass and after the last

module _ (C : Setting) (d : ℕ) {Z F R L I : List ℕ} {ρ : Frame} {δ : Env} where
  -- a cell is reserved where a pass may begin
  module _ (n : ℕ) {σ : Store} {P : List ℕ} (S : Situation C σ Z F R L I P ρ δ (suc n)) (free : has_free σ ≡ true)
      (shallow : d ≤ 3) where
    abbrev began : Store
    began = acquired d [] σ

    pub reserves : Reserves σ began d Z (hold ρ I ++ F)
    reserves = reserve d S.invariant free shallow

    empty_value : value_of began (suc d) (pos σ.first) ≡ list []
    unfolding value_of cell_of
    empty_value = ap (λ (y : Cell). list (map (value_of began d) (elements y))) reserves.new
        ∙ ap (λ (l : List ℤ). list (map (value_of began d) l)) (filled_elements d [] (omega arith))

    pub first_pass : Passing C d Z F (R ++ (σ.first ∷ [])) L I ρ δ n σ 0 (pos σ.first) (list []) began
    unfolding cell_of
    first_pass = record {
      situation = record {
        invariant = reserves.holds;
        numbers = S.numbers;
        arrays = λ y h. stands_held ρ y I h (S.arrays y h)
            (λ q g. reserves.alike q (held_used S.invariant q (in_append_left q (hold ρ I) F g)))
            (λ q g. held_used reserves.holds q (in_append_left q (hold ρ I) F g));
        pending = λ y h. absurd (none_in y h);
        lent = λ y h. lent_kept Z F kept
            (λ q g. held_used reserves.holds q (in_append_right q (hold ρ I) F g)) (S.lent y h);
        room = record { few = λ k. omega (arith, S.room.few k, one_more k σ.first Z) };
        rooted = λ f. one_root σ.first Z F R (S.rooted f);
      };
      filled = cell_stands d (pos σ.first) (list []) empty_value (rw reserves.new (filled_count d []))
          (ap (λ (y : Cell). y.depth) reserves.new ∙ filled_depth d []);
      size = omega arith;
      keeps = kept;
    }
      where
        kept : Keeps σ began (Z ++ F)
        kept = keeps_fewer (Z ++ (hold ρ I ++ F)) (Z ++ F) (without_middle Z (hold ρ I) F) reserves.keeps

  -- after the last pass the result is an array like any other
  pub filled_ended : {n i : ℕ} {σ : Store} {w : ℤ} {v : Value} {s : State} {m : Meter} → Together C.start s m →
      Passing C d Z F R L I ρ δ n σ i w v s.store → Ended C (suc d) σ Z F I ρ δ n w s v m
  unfolding occurrences
  filled_ended tog P = record {
    answered = record { together = tog; invariant = commit P.situation.invariant; stands = P.filled };
    room = record { few = λ k. omega (arith, P.situation.room.few k) };
    arrays = P.situation.arrays;
    keeps = P.keeps;
  }

-- the array a is lent to the passes; the holds at the line's beginning are H
module _ (C : Setting) (a : Atom) (B H : List ℕ) (reads : given C (a ∷ []) ⊆ (B ++ H)) where
  abbrev others : List ℕ → Frame → List ℕ
  others F ρ = hold ρ (kept_aside C a B H) ++ F

  abbrev inside : List ℕ
  inside = outer C a B H

  -- the array's hold is with those of others
  pub lending : {σ : Store} {Z F R P : List ℕ} {ρ : Frame} {δ : Env} {n : ℕ} (Q : List ℕ) →
      (C.start.frugal ≡ true → (Z ++ others F ρ) ⊆ Q) → Situation C σ Z F R B H P ρ δ n →
      Situation C σ Z (others F ρ) Q (lent_names C a B H) inside [] ρ δ n
  lending {Z = Z} {F} {ρ = ρ} Q rooted S = record {
    invariant = permute Z (hold ρ inside ++ others F ρ) S.invariant (λ k. refl)
        (hold_aside ρ H (kept_aside C a B H) inside F (lend_split C a B H reads));
    numbers = S.numbers;
    arrays = λ y h. S.arrays y (less_in (kept_aside C a B H) H y h);
    pending = λ y h. absurd (none_in y h);
    lent = lend C a B H reads S.arrays S.lent;
    room = record {
      few = λ k. omega (
        arith,
        S.room.few k,
        hold_aside ρ H (kept_aside C a B H) inside F (lend_split C a B H reads) k,
      );
    };
    rooted = rooted;
  }

  -- and back
  pub lent_back : {e : ℕ} {σ : Store} {Z F : List ℕ} {ρ : Frame} {δ : Env} {n : ℕ} {w : ℤ} {s : State} {v : Value}
      {m : Meter} → ((y : ℕ) → y ∈ lent_names C a B H → Lent s.store (others F ρ) (C.depths y) (ρ y) (δ y)) →
      Ended C e σ Z (others F ρ) inside ρ δ n w s v m → Ended C e σ Z F H ρ δ n w s v m
  lent_back {e} {Z = Z} {F} {ρ} {w = w} lent E = record {
    answered = record {
      together = E.answered.together;
      invariant = permute Z (named_by e (w ∷ []) ++ (hold ρ H ++ F)) E.answered.invariant (λ k. refl)
          (λ k. sym (same k));
      stands = E.answered.stands;
    };
    room = record { few = λ k. omega (arith, E.room.few k, same k) };
    arrays = lend_back C a B H reads lent E.arrays;
    keeps = keeps_fewer (Z ++ others F ρ) (Z ++ F) (without_middle Z (hold ρ (kept_aside C a B H)) F) E.keeps;
  }
    where
      same : (k : ℕ) → occurrences k (named_by e (w ∷ []) ++ (hold ρ H ++ F)) ≡
          occurrences k (named_by e (w ∷ []) ++ (hold ρ inside ++ others F ρ))
      same k = omega (
        arith,
        occurrences_append k (named_by e (w ∷ [])) (hold ρ H ++ F),
        occurrences_append k (named_by e (w ∷ [])) (hold ρ inside ++ others F ρ),
        hold_aside ρ H (kept_aside C a B H) inside F (lend_split C a B H reads) k,
      )
