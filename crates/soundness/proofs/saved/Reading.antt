-- What is read from a file has the depth asked for.
use Rattle.prelude.specs.Kit.{ℕ, ◌≤◌, ◌-◌, suc, zero, arith, true, false, Bool, cond, ◌&&◌, ◌≡◌, refl, ap, subst, some}
use Rattle.prelude.specs.Kit.{none, List, ◌∷◌, eqb, ltb, leb, length, leb-true}
use Rattle.semantics.specs.Outcome.{Outcome, done, stop, Run, give, onward, times}
use Rattle.semantics.specs.Number.{is_zero}
use Rattle.semantics.specs.Value.{Value, num, of_list, list}
use Rattle.semantics.specs.Saved.{mark_at, number_at, is_array, is_number, value_at, all_read, stated_count, labelled}
use Rattle.semantics.specs.Saved.{read_saved}
use Rattle.laws.specs.Tests.{both_hold}
use Rattle.laws.specs.Values.{size_of_list}
use Rattle.soundness.proofs.saved.Shape.{OfDepth, AllOfDepth}

abbrev Gives : ℕ → Outcome ℕ Value → Type 0
Gives d (done v p) = OfDepth v d
Gives d (stop n p) = Unit {0}

abbrev GivesAll : ℕ → ℕ → Outcome ℕ (List Value) → Type 0
GivesAll d n (done vs p) = (length vs ≡ n) × AllOfDepth (of_list vs) d
GivesAll d n (stop m p) = Unit {0}

module _ (d : ℕ) (one : Run ℕ Value) (gives : (p : ℕ) → Gives d (one p)) where
  -- one value more before others
  first_given : (n : ℕ) (v : Value) → OfDepth v d → (o : Outcome ℕ (List Value)) → GivesAll d n o →
      GivesAll d (suc n) (onward (λ vs. give (v ∷ vs)) o)
  unfolding onward
  first_given n v h (done vs p) g = (ap suc g.0, (h, g.1))
  first_given n v h (stop m p) g = tt

  all_given : (n p : ℕ) → GivesAll d n (times n one p)
  unfolding times onward
  all_given zero p = (refl, tt)
  all_given (suc n) p = by (one p) (gives p) (λ q. all_given n q)
    where
      by : (o : Outcome ℕ Value) → Gives d o → ((q : ℕ) → GivesAll d n (times n one q)) →
          GivesAll d (suc n) (onward (λ v. λ q. onward (λ vs. give (v ∷ vs)) (times n one q)) o)
      by (stop m q) g rest = tt
      by (done v q) g rest = first_given n v g (times n one q) (rest q)

-- a list of at most 16 values of one depth is of the next
list_given : (d n : ℕ) → n ≤ 16 → (o : Outcome ℕ (List Value)) → GivesAll d n o →
    Gives (suc d) (onward (λ vs. give (list vs)) o)
unfolding onward
list_given d n few (done vs p) g = (omega (arith, few, size_of_list vs, g.0), g.1)
list_given d n few (stop m p) g = tt

module _ (file : List ℕ) (k : ℕ) where
  array_mark : (p : ℕ) → is_array file k p ≡ true → mark_at file k p ≤ 17
  array_mark p e =
      let m = mark_at file k p in
      let a = both_hold (ltb p k) (ltb 0 m && (leb m 17 && is_zero (number_at file k p))) e in
      let b = both_hold (ltb 0 m) (leb m 17 && is_zero (number_at file k p)) a.1 in
      leb-true m 17 (both_hold (leb m 17) (is_zero (number_at file k p)) b.1).0

  value_given : (d p : ℕ) → Gives d (value_at file k d p)
  unfolding value_at
  value_given zero p = by (is_number file k p)
    where
      by : (b : Bool) → Gives 0 (cond b (done (num (number_at file k p)) (suc p)) (stop 27 p))
      by true = tt
      by false = tt
  value_given (suc d) p = by (is_array file k p) refl
      (all_given d (value_at file k d) (value_given d) (mark_at file k p - 1) (suc p))
    where
      by : (b : Bool) → is_array file k p ≡ b →
          GivesAll d (mark_at file k p - 1) (times (mark_at file k p - 1) (value_at file k d) (suc p)) →
          Gives (suc d) (cond b (onward (λ vs. give (list vs))
          (times (mark_at file k p - 1) (value_at file k d) (suc p))) (stop 27 p))
      by false e g = tt
      by true e g = list_given d (mark_at file k p - 1) (omega (arith, array_mark p e))
          (times (mark_at file k p - 1) (value_at file k d) (suc p)) g

-- a value read is of the depth
pub read_of_depth : (d : ℕ) (file : List ℕ) (v : Value) → read_saved d file ≡ some v → OfDepth v d
unfolding read_saved
read_of_depth d file v e = by (labelled d file) (value_at file k d 0) (value_given file k d 0) e
  where
    k : ℕ
    k = stated_count file

    last : (w : Value) (b : Bool) → OfDepth w d → cond b (some w) none ≡ some v → OfDepth v d
    last w true h g = let same : w ≡ v = cc in subst (λ u. OfDepth u d) same h
    last w false h g = absurd (let z : ◌≡◌ {A = ℕ} 0 1 = cc in omega arith)

    by : (b : Bool) (o : Outcome ℕ Value) → Gives d o → cond b (all_read file k o) none ≡ some v → OfDepth v d
    by false o h g = absurd (let z : ◌≡◌ {A = ℕ} 0 1 = cc in omega arith)
    by true (stop n p) h g = absurd (let z : ◌≡◌ {A = ℕ} 0 1 = cc in omega arith)
    by true (done w p) h g = last w (eqb p k) h g
