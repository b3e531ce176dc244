-- Laws of the delivery: one for each way out of the code.
use Rattle.prelude.specs.Kit.{ℕ, ◌≤◌, ◌+◌, ◌-◌, suc, zero, arith, Bool, cond, ◌≡◌, refl, ◌∙◌, sym, ap, ap₂, List, []}
use Rattle.prelude.specs.Kit.{◌∷◌, eqb, ℤ, pos, get_or, set, replicate, ne_eqb, eq-eqb}
use Rattle.semantics.specs.Store.{Store, cell_of, acquired, retained, released, deepest, with_totals, relinked}
use Rattle.semantics.specs.Store.{free_cells}
use Rattle.semantics.specs.Words.{store_of}
use Rattle.store.specs.Acquiring.{acquired_outcome, next_cell}
use Rattle.store.specs.declared.Gained.{Gained}
use Rattle.std.specs.Prelude.{Option, Some, None}
use Rattle.machine_code.specs.Reading.{name_at, start_in}
use Rattle.machine_frames.specs.Work.{Out}
use Rattle.machine_frames.specs.Frames.{frame_words, place, function_place, put_named, called, lowest_of}
use Rattle.machine_frames.specs.Frames.{levelled}
use Rattle.answers.specs.declared.Stop.TheVariants.{OutOfCells}
use Rattle.machine_frames.specs.declared.Cause.{Cause}
use Rattle.machine_frames.specs.declared.Cause.TheVariants.{Stopped}
use Rattle.machine_frames.proofs.Results.{cause_real}
use Rattle.machine_frames.specs.Work.{cause_number, memory, ran}
use Rattle.machine_spec.specs.Machine.{Code, tree_in, tree_on, call_on, Ended}
use Rattle.machine_spec.specs.Delivery.{Tried, tried, retained_totals, released_totals, finished}
use Rattle.machine_spec.specs.Delivery.{main_frame, main_on, attempt_with, attempt_on, settled, delivered_on}
use Rattle.machine_delivery.specs.declared.Attempted.{Attempted}
use Rattle.machine_delivery.specs.declared.Delivery.{Delivery}
use Rattle.machine_delivery.specs.Promises.{stopped_number, Tries, DeliversOn}

-- ---- the totals' own reference

module _ (d c : ℕ) (old : ℤ) (ce : c ≡ cell_of old) (σ σ' : Store) (deep : d ≡ 0 → ⊥) where
  pub retain_some : σ' ≡ retained c σ → σ' ≡ retained_totals d old σ
  retain_some h = go d deep
    where
      go : (n : ℕ) → (n ≡ 0 → ⊥) → σ' ≡ retained_totals n old σ
      go zero f = absurd (f refl)
      go (suc n) f = h ∙ ap (λ (k : ℕ). retained k σ) ce

  pub release_some : σ' ≡ released deepest c σ → σ' ≡ released_totals d old σ
  release_some h = go d deep
    where
      go : (n : ℕ) → (n ≡ 0 → ⊥) → σ' ≡ released_totals n old σ
      go zero f = absurd (f refl)
      go (suc n) f = h ∙ ap (λ (k : ℕ). released deepest k σ) ce

pub retain_none : (d : ℕ) (old : ℤ) (σ : Store) → d ≡ 0 → σ ≡ retained_totals d old σ
retain_none d old σ e = ap (λ (n : ℕ). retained_totals n old σ) (sym e)

pub release_none : (d : ℕ) (old : ℤ) (σ : Store) → d ≡ 0 → σ ≡ released_totals d old σ
release_none d old σ e = ap (λ (n : ℕ). released_totals n old σ) (sym e)

-- ---- main

-- main's tree ended so, with the least level and the store that it left
pub record MainEnds (t : Tried) (budget d : ℕ) (old : ℤ) (r : Out) (least : ℕ) (σ : Store) : Type 0 where
  pub is : t ≡ cond (eqb r.stop 0)
      (tried r.stop least r.steps (released_totals d old (with_totals σ r.value)))
      (tried r.stop least r.steps σ)
  pub fewer : r.steps ≤ budget

module _ (c : Code) (d : ℕ) (old : ℤ) (k n budget : ℕ) (slots : List ℤ) (heads heads₁ : List ℕ)
    (σe : store_of slots heads₁ ≡ retained_totals d old (store_of slots heads)) (z : ℤ) (ze : z ≡ pos k)
    (h : ℕ) (se : h ≡ start_in c.table 0) (count x y : ℕ) (ce : count ≡ name_at c.operands h)
    (xe : x ≡ name_at c.operands (h + 1)) (ye : y ≡ name_at c.operands (h + 2))
    (env₀ env₁ env₂ env₃ : List ℤ) (e₀ : env₀ ≡ levelled n (replicate frame_words (pos 0)))
    (e₁ : env₁ ≡ set env₀ (place 31 x) old) (e₂ : env₂ ≡ set env₁ (place 31 y) z)
    (e₃ : env₃ ≡ set env₂ (function_place 31) (pos 0)) (r : Out) (sl : List ℤ) (he : List ℕ) (en : List ℤ)
    (done : Ended (tree_on 4096 (call_on 31 c) c 31 (h + 1 + count) budget (memory (store_of slots heads₁) env₃)) budget
    r sl he en) (least : ℕ) (le : least ≡ lowest_of en) where
  -- main's tree, by its position and the words of the frames
  abbrev main_at : ℕ → List ℤ → Tried
  main_at p l = finished d old (tree_on 4096 (call_on 31 c) c 31 p budget (memory (store_of slots heads₁) l))

  main_is : main_on c d old k n budget (store_of slots heads) ≡ finished d old (ran r (memory (store_of sl he) en))
  unfolding main_on put_named
  main_is =
      ap (λ (τ : Store). finished d old (tree_on 4096 (call_on 31 c) c 31 (tree_in c 0) budget
      (memory τ (main_frame c old (pos k) n)))) (sym σe)
      ∙ ap (λ (q : ℕ). main_at (q + 1 + name_at c.operands q)
      (called c.operands 31 (q + 1) 0 (old ∷ pos k ∷ []) (levelled n (replicate frame_words (pos 0))))) (sym se)
      ∙ ap₂ main_at (ap (λ (q : ℕ). h + 1 + q) (sym ce))
      (sym (e₃ ∙ ap (λ (l : List ℤ). set l (function_place 31) (pos 0))
      (e₂ ∙ ap₂ (λ (l : List ℤ) (w : ℤ). set l (place 31 y) w)
      (e₁ ∙ ap₂ (λ (l : List ℤ) (q : ℕ). set l (place 31 q) old) e₀ xe) ze
      ∙ ap (λ (q : ℕ). set (set (levelled n (replicate frame_words (pos 0))) (place 31 (name_at c.operands (h + 1)))
      old) (place 31 q) (pos k))
      (ye ∙ ap (name_at c.operands) (let z : h + 2 ≡ h + 1 + 1 = omega arith in z)))))
      ∙ ap (finished d old) (sym done.is)

  pub main_ends : MainEnds (main_on c d old k n budget (store_of slots heads)) budget d old r least (store_of sl he)
  main_ends = record {
    is = main_is ∙ ap (λ (m : ℕ). cond (eqb r.stop 0)
        (tried r.stop m r.steps (released_totals d old (with_totals (store_of sl he) r.value)))
        (tried r.stop m r.steps (store_of sl he))) (sym le);
    fewer = done.fewer;
  }

module _ {t : Tried} {budget d : ℕ} {old : ℤ} {r : Out} {least : ℕ} (sl : List ℤ) (he : List ℕ)
    (ends : MainEnds t budget d old r least (store_of sl he)) where
  -- by the test of the tree's stop
  abbrev by_stop : Bool → Tried
  by_stop b = cond b
      (tried r.stop least r.steps (released_totals d old (with_totals (store_of sl he) r.value)))
      (tried r.stop least r.steps (store_of sl he))

  pub main_stops : (c : Cause) → r.stop ≡ cause_number c →
      Tries t budget (record { stopped = Some c; lowest = least; steps = r.steps }) sl he
  main_stops c e = record {
    is = ap (λ (n : ℕ). tried n least r.steps (store_of sl he)) (sym e)
        ∙ sym (ends.is ∙ ap by_stop (ne_eqb r.stop 0 (λ z. cause_real c (sym e ∙ z))));
    fewer = ends.fewer;
  }

  pub main_goes : r.stop ≡ 0 → (sl' : List ℤ) (he' : List ℕ) →
      store_of sl' he' ≡ released_totals d old (with_totals (store_of sl he) r.value) →
      Tries t budget (record { stopped = None; lowest = least; steps = r.steps }) sl' he'
  main_goes h sl' he' e = record {
    is = ap (λ (n : ℕ). tried n least r.steps (store_of sl' he')) (sym h)
        ∙ sym (ends.is ∙ ap by_stop (eq-eqb r.stop 0 h)
        ∙ ap (λ (σ : Store). tried r.stop least r.steps σ) (sym e));
    fewer = ends.fewer;
  }

-- ---- the attempt

module _ (c : Code) (readings : List ℤ) (d budget : ℕ) (slots : List ℤ) (heads : List ℕ) (free : ℕ)
    (fe : free ≡ free_cells (store_of slots heads)) (q : Option Gained)
    (qe : acquired_outcome q ≡ next_cell free (store_of slots heads)) (sl₁ : List ℤ) (he₁ : List ℕ)
    (σe : store_of sl₁ he₁ ≡ acquired 0 readings (store_of slots heads)) where
  attempt_is : attempt_on c readings d budget (store_of slots heads)
      ≡ attempt_with c d (store_of slots heads).totals budget free (store_of sl₁ he₁) (acquired_outcome q)
  unfolding attempt_on
  attempt_is =
      let e = sym (qe ∙ ap (λ (n : ℕ). next_cell n (store_of slots heads)) fe) in
      λ i. attempt_with c d (store_of slots heads).totals budget (sym fe i) (sym σe i) (e i)

  pub attempt_cell : (g : Gained) → q ≡ Some g → (old : ℤ) → old ≡ get_or slots 0 (pos 0) → (r : Attempted) (sl : List ℤ)
      (he : List ℕ) → Tries (main_on c d old g.cell g.left budget (store_of sl₁ he₁)) budget r sl he →
      Tries (attempt_on c readings d budget (store_of slots heads)) budget r sl he
  unfolding store_of
  attempt_cell g h old oe r sl he done = record {
    is = done.is ∙ sym (attempt_is ∙ ap (λ (y : Option Gained). attempt_with c d (get_or slots 0 (pos 0)) budget free
        (store_of sl₁ he₁) (acquired_outcome y)) h
        ∙ ap (λ (y : ℤ). main_on c d y g.cell g.left budget (store_of sl₁ he₁)) (sym oe));
    fewer = done.fewer;
  }

  pub attempt_none : q ≡ None → Tries (attempt_on c readings d budget (store_of slots heads)) budget
      (record { stopped = Some (Stopped OutOfCells); lowest = free; steps = budget }) sl₁ he₁
  attempt_none h = record {
    is = sym (attempt_is ∙ ap (λ (y : Option Gained). attempt_with c d (store_of slots heads).totals budget free
        (store_of sl₁ he₁) (acquired_outcome y)) h);
    fewer = omega arith;
  }

-- ---- the delivery

module _ (c : Code) (readings : List ℤ) (d budget : ℕ) (σ : Store) (r : Attempted) (sl : List ℤ) (he : List ℕ)
    (done : Tries (attempt_on c readings d budget σ) budget r sl he) where
  -- what the attempt says
  abbrev delivery : Delivery
  delivery = record { stopped = r.stopped; lowest = r.lowest; steps = budget - r.steps }

  delivered_is : delivered_on c readings d budget σ
      ≡ settled budget σ (tried (stopped_number r.stopped) r.lowest r.steps (store_of sl he))
  unfolding delivered_on
  delivered_is = ap (settled budget σ) (sym done.is)

  -- with the store that is left
  delivers : (sl' : List ℤ) (he' : List ℕ) → store_of sl' he' ≡ (delivered_on c readings d budget σ).store →
      DeliversOn (delivered_on c readings d budget σ) delivery sl' he'
  delivers sl' he' e = record {
    number = sym (ap (λ t. t.number) delivered_is);
    lowest = sym (ap (λ t. t.lowest) delivered_is);
    steps = sym (ap (λ t. t.steps) delivered_is);
    store = e;
  }

  pub delivery_stops : (stopped_number r.stopped ≡ 0 → ⊥) → (sl' : List ℤ) (he' : List ℕ) → store_of sl' he' ≡ relinked σ →
      DeliversOn (delivered_on c readings d budget σ) delivery sl' he'
  delivery_stops h sl' he' e = delivers sl' he' (e ∙ sym (ap (λ t. t.store) delivered_is
      ∙ ap (λ t. cond t (store_of sl he) (relinked σ)) (ne_eqb (stopped_number r.stopped) 0 h)))

  pub delivery_goes : stopped_number r.stopped ≡ 0 → DeliversOn (delivered_on c readings d budget σ) delivery sl he
  delivery_goes h = delivers sl he (sym (ap (λ t. t.store) delivered_is
      ∙ ap (λ t. cond t (store_of sl he) (relinked σ)) (eq-eqb (stopped_number r.stopped) 0 h)))
