-- Loading by entries does what loading the value does that the entries spell.
use Rattle.prelude.specs.Kit.{ℕ, ◌+◌, ◌-◌, suc, zero, arith, true, false, Bool, cond, ◌&&◌, ◌≡◌, refl, ◌∙◌, sym, ap}
use Rattle.prelude.specs.Kit.{List, [], ◌∷◌, eqb, ltb, leb, ℤ, pos}
use Rattle.semantics.specs.Outcome.{Outcome, done, stop, Run, give, onward, times, passes}
use Rattle.semantics.specs.Number.{is_zero}
use Rattle.semantics.specs.Value.{Value, num, list}
use Rattle.semantics.specs.Store.{Store, has_free, acquired, appended}
use Rattle.semantics.specs.Saved.{mark_at, number_at, is_number, is_array, value_at, acquire_cell, load_element}
use Rattle.semantics.specs.Saved.{load_value}
use Rattle.laws.specs.Tests.{both_hold}
use Rattle.laws.specs.Values.{items_list}
use Rattle.saved_load.specs.Entries.{Place, place, appended_at, acquired_at, fill, load_at}

-- ---- what a value read says of its entries

-- the first of several values, and the others
record Split (m : Run ℕ Value) (n p : ℕ) (vs : List Value) (q : ℕ) : Type 0 where
  first : Value
  middle : ℕ
  others : List Value
  one : m p ≡ done first middle
  rest : times n m middle ≡ done others q
  is : vs ≡ first ∷ others

split : (m : Run ℕ Value) (n p : ℕ) (vs : List Value) (q : ℕ) → times (suc n) m p ≡ done vs q → Split m n p vs q
unfolding times onward
split m n p vs q = by (m p) refl
  where
    more : (v : Value) (r : ℕ) → m p ≡ done v r → (o : Outcome ℕ (List Value)) → times n m r ≡ o →
        onward (λ ws. give (v ∷ ws)) o ≡ done vs q → Split m n p vs q
    more v r e (stop j t) f g = absurd (let z : ◌≡◌ {A = ℕ} 0 1 = cc in omega arith)
    more v r e (done ws t) f g =
        let end : t ≡ q = cc in
        let same : v ∷ ws ≡ vs = cc in
        record {
          first = v;
          middle = r;
          others = ws;
          one = e;
          rest = f ∙ ap (λ (j : ℕ). done ws j) end;
          is = sym same;
        }

    by : (o : Outcome ℕ Value) → m p ≡ o →
        onward (λ v r. onward (λ ws. give (v ∷ ws)) (times n m r)) o ≡ done vs q → Split m n p vs q
    by (stop j r) e g = absurd (let z : ◌≡◌ {A = ℕ} 0 1 = cc in omega arith)
    by (done v r) e g = more v r e (times n m r) refl g

none_read : (m : Run ℕ Value) (p : ℕ) (vs : List Value) (q : ℕ) → times 0 m p ≡ done vs q → (vs ≡ []) × (q ≡ p)
unfolding times
none_read m p vs q e =
    let end : p ≡ q = cc in
    let same : [] ≡ vs = cc in
    (sym same, sym end)

module _ (file : List ℕ) (k : ℕ) where
  -- a number read
  record NumberRead (p : ℕ) (v : Value) (q : ℕ) : Type 0 where
    within : ltb p k ≡ true
    is : v ≡ num (number_at file k p)
    next : q ≡ suc p

  number_read : (p : ℕ) (v : Value) (q : ℕ) → value_at file k 0 p ≡ done v q → NumberRead p v q
  unfolding value_at
  number_read p v q = by (is_number file k p) refl
    where
      by : (b : Bool) → is_number file k p ≡ b →
          cond b (done (num (number_at file k p)) (suc p)) (stop 27 p) ≡ done v q → NumberRead p v q
      by false e g = absurd (let z : ◌≡◌ {A = ℕ} 0 1 = cc in omega arith)
      by true e g =
          let same : num (number_at file k p) ≡ v = cc in
          let next : suc p ≡ q = cc in
          record { within = (both_hold (ltb p k) (eqb (mark_at file k p) 0) e).0; is = sym same; next = sym next }

  -- an array read
  record ArrayRead (d p : ℕ) (v : Value) (q : ℕ) : Type 0 where
    within : ltb p k ≡ true
    values : List Value
    is : v ≡ list values
    reads : times (mark_at file k p - 1) (value_at file k d) (suc p) ≡ done values q

  array_read : (d p : ℕ) (v : Value) (q : ℕ) → value_at file k (suc d) p ≡ done v q → ArrayRead d p v q
  unfolding value_at onward
  array_read d p v q = by (is_array file k p) refl
    where
      all : (o : Outcome ℕ (List Value)) → times (mark_at file k p - 1) (value_at file k d) (suc p) ≡ o →
          ltb p k ≡ true → onward (λ vs. give (list vs)) o ≡ done v q → ArrayRead d p v q
      all (stop j r) e w g = absurd (let z : ◌≡◌ {A = ℕ} 0 1 = cc in omega arith)
      all (done vs r) e w g =
          let same : list vs ≡ v = cc in
          let next : r ≡ q = cc in
          record { within = w; values = vs; is = sym same; reads = e ∙ ap (λ (j : ℕ). done vs j) next }

      by : (b : Bool) → is_array file k p ≡ b →
          cond b (onward (λ vs. give (list vs)) (times (mark_at file k p - 1) (value_at file k d) (suc p)))
          (stop 27 p) ≡ done v q → ArrayRead d p v q
      by false e g = absurd (let z : ◌≡◌ {A = ℕ} 0 1 = cc in omega arith)
      by true e g = all (times (mark_at file k p - 1) (value_at file k d) (suc p)) refl
          (both_hold (ltb p k) (ltb 0 (mark_at file k p)
          && (leb (mark_at file k p) 17 && is_zero (number_at file k p))) e).0 g

-- ---- the two loads, side by side

-- both end with the same word and store, the one at entry q, or both stop
abbrev pub Same : {A : Type 0} → ℕ → Outcome Place A → Outcome Store A → Type 0
Same q (done w s) (done v τ) = (w ≡ v) × (s.next ≡ q) × (s.store ≡ τ)
Same q (done w s) (stop m τ) = ⊥
Same q (stop n s) (done v τ) = ⊥
Same q (stop n s) (stop m τ) = m ≡ 25

module _ (file : List ℕ) (k d : ℕ) where
  -- the claim for one depth
  abbrev Claim : Type 0
  Claim = (p q : ℕ) (v : Value) → value_at file k d p ≡ done v q → (f : ℕ) (σ : Store) →
      Same q (load_at file k d (place p f σ)) (load_value d v σ)

  module _ (claim : Claim) (c : ℕ) where
    fill_same : (n p q : ℕ) (vs : List Value) → times n (value_at file k d) p ≡ done vs q → (f : ℕ) (σ : Store) →
        Same q (fill (load_at file k d) c n (place p f σ)) (passes (load_element (load_value d) c) tt vs σ)
    unfolding fill passes load_element onward
    fill_same zero p q vs e f σ =
        let none = none_read (value_at file k d) p vs q e in
        rw (none.0, none.1) (refl, refl, refl)
    fill_same (suc n) p q vs e f σ =
        rw s.is (by (load_at file k d (place p f σ)) (load_value d s.first σ)
        (claim p s.middle s.first s.one f σ)
        (λ g τ. fill_same n s.middle q s.others s.rest g τ))
      where
        s : Split (value_at file k d) n p vs q
        s = split (value_at file k d) n p vs q e

        by : (o : Outcome Place ℤ) (o' : Outcome Store ℤ) → Same s.middle o o' →
            ((g : ℕ) (τ : Store) → Same q (fill (load_at file k d) c n (place s.middle g τ))
            (passes (load_element (load_value d) c) tt s.others τ)) →
            Same q (onward (λ w t. fill (load_at file k d) c n (appended_at c w t)) o)
            (onward (λ u. passes (load_element (load_value d) c) u s.others)
            (onward (λ w υ. done tt (appended c w υ)) o'))
        by (done w t) (done v τ) h rest = rw (h.0, h.1, h.2) (rest t.free (appended c v τ))
        by (done w t) (stop m τ) h rest = absurd h
        by (stop j t) (done v τ) h rest = absurd h
        by (stop j t) (stop m τ) h rest = h

  array_same : Claim → (p q : ℕ) (v : Value) → value_at file k (suc d) p ≡ done v q → (f : ℕ) (σ : Store) →
      Same q (load_at file k (suc d) (place p f σ)) (load_value (suc d) v σ)
  unfolding load_at load_value acquire_cell onward
  array_same claim p q v e f σ = by (has_free σ) refl
    where
      r : ArrayRead file k d p v q
      r = array_read file k d p v q e

      ends : (o : Outcome Place (Unit {0})) (o' : Outcome Store (Unit {0})) → Same q o o' →
          Same q (onward (λ u t. done (pos σ.first) t) o) (onward (λ u t. done (pos σ.first) t) o')
      ends (done w t) (done u τ) h = (refl, h.1, h.2)
      ends (done w t) (stop m τ) h = absurd h
      ends (stop j t) (done u τ) h = absurd h
      ends (stop j t) (stop m τ) h = h

      from : times (mark_at file k p - 1) (value_at file k d) (p + 1) ≡ done r.values q
      from =
          let next : p + 1 ≡ suc p = omega arith in
          ap (times (mark_at file k p - 1) (value_at file k d)) next ∙ r.reads

      by : (b : Bool) → has_free σ ≡ b → Same q (load_at file k (suc d) (place p f σ)) (load_value (suc d) v σ)
      by false g = rw (r.is, r.within, g) refl
      by true g = rw (r.is, r.within, g, items_list r.values)
          (ends (fill (load_at file k d) σ.first (mark_at file k p - 1) (acquired_at file k d (place p f σ)))
          (passes (load_element (load_value d) σ.first) tt r.values (acquired d [] σ))
          (fill_same claim σ.first (mark_at file k p - 1) (p + 1) q r.values from (f - 1) (acquired d [] σ)))

-- A value that is read from entry p on, up to q.
pub load_same : (file : List ℕ) (k d p q : ℕ) (v : Value) → value_at file k d p ≡ done v q → (f : ℕ) (σ : Store) →
    Same q (load_at file k d (place p f σ)) (load_value d v σ)
unfolding load_at load_value
load_same file k zero p q v e f σ =
    let r = number_read file k p v q e in
    rw (r.within, r.is, r.next) (refl, omega arith, refl)
load_same file k (suc d) p q v e f σ = array_same file k d (load_same file k d) p q v e f σ
