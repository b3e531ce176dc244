-- The ways out of the test of a saved file.
use Rattle.prelude.specs.Kit.{ℕ, ◌≤◌, ◌+◌, ◌<◌, ◌-◌, suc, zero, ◌*◌, ◌^◌, arith, dec_lt, true, false, Bool, cond, ◌&&◌}
use Rattle.prelude.specs.Kit.{and-false, ◌≡◌, refl, ◌∙◌, sym, ap, ◌≢◌, some, none, List, ◌∷◌, eqb, leb, length, get_or}
use Rattle.prelude.specs.Kit.{ne_eqb, lt-ltb, eq-eqb, le-ltb, le-leb, lt-leb}
use Rattle.semantics.specs.Outcome.{Outcome, done, stop, Run, give, onward, times}
use Rattle.semantics.specs.Number.{bytes_at, signed, is_zero}
use Rattle.semantics.specs.Value.{Value, list}
use Rattle.semantics.specs.Saved.{value_at, all_read, stated_count, saved_length, labelled}
use Rattle.semantics.specs.Saved.{read_saved}
use Rattle.saved_read.specs.Told.{told, is_there, readable}

-- a number is 0 where its bits are
signed_other : (u : ℕ) → u ≢ 0 → is_zero (signed u) ≡ false
signed_other zero h = absurd (h refl)
signed_other (suc u) h = elim (dec_lt (suc u) (2 ^ 63)) [
  | yes g ↦ rw (lt-ltb (suc u) (2 ^ 63) g) refl
  | no g ↦ rw (le-ltb (suc u) (2 ^ 63) (omega (arith, g))) refl
]

-- ---- one value

module _ (file : List ℕ) (k : ℕ) where
  pub past : (d p : ℕ) → k ≤ p → stop 27 tt ≡ told (value_at file k d p)
  unfolding value_at
  past zero p h = rw (le-ltb p k h) refl
  past (suc d) p h = rw (le-ltb p k h) refl

  -- an entry that is there, with its mark
  module _ (d p mark : ℕ) (within : p < k) (is : mark ≡ get_or file (3 + p) 0) where
    pub number : d ≡ 0 → mark ≡ 0 → done (p + 1) tt ≡ told (value_at file k d p)
    unfolding value_at
    number e m = rw (e, value_at, lt-ltb p k within, sym is, m) (ap (λ (q : ℕ). done q tt) (omega arith))

    pub no_number : d ≡ 0 → mark ≢ 0 → stop 27 tt ≡ told (value_at file k d p)
    unfolding value_at
    no_number e m = rw (e, value_at, lt-ltb p k within, sym is, ne_eqb mark 0 m) refl

    at_array : d ≢ 0 → told (value_at file k d p) ≡ told (value_at file k (suc (d - 1)) p)
    at_array h = ap (λ (n : ℕ). told (value_at file k n p)) (let e : d ≡ suc (d - 1) = omega (arith, h) in e)

    pub flat : d ≢ 0 → mark ≡ 0 → stop 27 tt ≡ told (value_at file k d p)
    unfolding value_at
    flat h m = sym (at_array h ∙ rw (lt-ltb p k within, sym is, m) refl)

    module _ (h : d ≢ 0) (some_mark : mark ≢ 0) where
      pub long : 17 < mark → stop 27 tt ≡ told (value_at file k d p)
      unfolding value_at
      long g = sym (at_array h ∙ rw (lt-ltb p k within, sym is, lt-ltb 0 mark (omega (arith, g)), lt-leb mark 17 g)
          refl)

      module _ (few : mark ≤ 17) (word : ℕ) (reads : word ≡ bytes_at 8 file (3 + k + 8 * p)) where
        pub numbered : word ≢ 0 → stop 27 tt ≡ told (value_at file k d p)
        unfolding value_at
        numbered g = sym (at_array h ∙ rw (
          lt-ltb p k within,
          sym is,
          lt-ltb 0 mark (omega (arith, some_mark)),
          le-leb mark 17 few,
          sym reads,
          signed_other word g,
        ) refl)

        told_list : (o : Outcome ℕ (List Value)) → told (onward (λ vs. give (list vs)) o) ≡ told o
        unfolding onward
        told_list (done vs q) = refl
        told_list (stop n q) = refl

        pub goes_down : word ≡ 0 → (r : Outcome (Unit {0}) ℕ) →
            r ≡ told (times (mark - 1) (value_at file k (d - 1)) (p + 1)) →
            r ≡ told (value_at file k d p)
        unfolding value_at
        goes_down g r e =
            let next : p + 1 ≡ suc p = omega arith in
            e ∙ ap (λ (q : ℕ). told (times (mark - 1) (value_at file k (d - 1)) q)) next
            ∙ sym (at_array h ∙ rw (
              lt-ltb p k within,
              sym is,
              lt-ltb 0 mark (omega (arith, some_mark)),
              le-leb mark 17 few,
              sym reads,
              g,
            ) (told_list (times (mark - 1) (value_at file k (d - 1)) (suc p))))

-- ---- values in turn

told_more : (v : Value) (o : Outcome ℕ (List Value)) → told (onward (λ vs. give (v ∷ vs)) o) ≡ told o
unfolding onward
told_more v (done vs q) = refl
told_more v (stop n q) = refl

module _ (m : Run ℕ Value) where
  abbrev after : ℕ → Outcome (Unit {0}) ℕ → Outcome (Unit {0}) ℕ
  after n (done q u) = told (times n m q)
  after n (stop j u) = stop j u

  times_told : (n p : ℕ) → told (times (suc n) m p) ≡ after n (told (m p))
  unfolding times onward
  times_told n p = by (m p)
    where
      by : (o : Outcome ℕ Value) →
          told (onward (λ v q. onward (λ vs. give (v ∷ vs)) (times n m q)) o) ≡ after n (told o)
      by (done v q) = told_more v (times n m q)
      by (stop j q) = refl

  times_step : (n i p : ℕ) → i < n → told (times (n - i) m p) ≡ after (n - (i + 1)) (told (m p))
  times_step n i p h =
      ap (λ (j : ℕ). told (times j m p)) (let e : n - i ≡ suc (n - (i + 1)) = omega arith in e)
      ∙ times_told (n - (i + 1)) p

  -- n values from p₀ on, of which i are read and the others are from p on
  module _ (n i p₀ p : ℕ) (inv : told (times n m p₀) ≡ told (times (n - i) m p)) (left : i < n) where
    pub goes_on : (q : ℕ) → done q tt ≡ told (m p) → told (times n m p₀) ≡ told (times (n - (i + 1)) m q)
    goes_on q e = inv ∙ times_step n i p left ∙ ap (after (n - (i + 1))) (sym e)

    pub breaks : stop 27 tt ≡ told (m p) → stop 27 tt ≡ told (times n m p₀)
    breaks e = sym (inv ∙ times_step n i p left ∙ ap (after (n - (i + 1))) (sym e))

  pub none_left : (n i p₀ p : ℕ) → told (times n m p₀) ≡ told (times (n - i) m p) → n ≤ i → done p tt ≡ told (times n m p₀)
  unfolding times
  none_left n i p₀ p inv h =
      sym (inv ∙ ap (λ (j : ℕ). told (times j m p)) (let e : n - i ≡ 0 = omega arith in e))

-- ---- the whole file

module _ (d : ℕ) (file : List ℕ) where
  unlabelled : labelled d file ≡ false → false ≡ readable d file
  unfolding readable read_saved
  unlabelled e = rw e refl

  pub short : length file < 3 → false ≡ readable d file
  unfolding labelled
  short h = unlabelled (rw (lt-leb 3 (length file) h) refl)

  pub other_depth : get_or file 0 0 ≢ d → false ≡ readable d file
  unfolding labelled
  other_depth h = unlabelled (rw (ne_eqb (get_or file 0 0) d h) (and-false (leb 3 (length file))))

  pub many : 4096 < stated_count file → false ≡ readable d file
  unfolding labelled
  many h = unlabelled (rw (lt-leb (stated_count file) 4096 h)
      (ap (λ (b : Bool). leb 3 (length file) && b) (and-false (eqb (get_or file 0 0) d))
      ∙ and-false (leb 3 (length file))))

  module _ (k : ℕ) (is : k ≡ stated_count file) where
    pub other_length : length file ≢ 3 + 9 * k → false ≡ readable d file
    unfolding labelled
    other_length h =
        let f : length file ≢ saved_length (stated_count file) = λ e. h (e ∙ ap saved_length (sym is)) in
        unlabelled (rw (ne_eqb (length file) (saved_length (stated_count file)) f)
        (ap (λ (b : Bool). leb 3 (length file) && (eqb (get_or file 0 0) d && b))
        (and-false (leb (stated_count file) 4096))
        ∙ ap (λ (b : Bool). leb 3 (length file) && b) (and-false (eqb (get_or file 0 0) d))
        ∙ and-false (leb 3 (length file))))

    module _ (long : 3 ≤ length file) (deep : get_or file 0 0 ≡ d) (few : k ≤ 4096) (whole : length file ≡ 3 + 9 * k)
      where
        right : labelled d file ≡ true
        unfolding labelled
        right = rw (
          sym is,
          le-leb 3 (length file) long,
          eq-eqb (get_or file 0 0) d deep,
          le-leb k 4096 few,
          eq-eqb (length file) (saved_length k) whole,
        ) refl

        read : readable d file ≡ is_there (all_read file k (value_at file k d 0))
        unfolding readable read_saved
        read = rw (right, sym is) refl

        ends : (o : Outcome ℕ Value) (q : ℕ) → told o ≡ done q tt → is_there (all_read file k o) ≡ eqb q k
        ends (done v p) q e = let same : p ≡ q = cc in rw same (by (eqb q k))
          where
            by : (b : Bool) → is_there (cond b (some v) none) ≡ b
            by true = refl
            by false = refl
        ends (stop n p) q e = absurd (let z : ◌≡◌ {A = ℕ} 0 1 = cc in omega arith)

        broken : (o : Outcome ℕ Value) → told o ≡ stop 27 tt → is_there (all_read file k o) ≡ false
        broken (done v p) e = absurd (let z : ◌≡◌ {A = ℕ} 0 1 = cc in omega arith)
        broken (stop n p) e = refl

        -- by the test of where the entries end
        pub ended : (q : ℕ) → done q tt ≡ told (value_at file k d 0) → eqb q k ≡ readable d file
        ended q e = sym (read ∙ ends (value_at file k d 0) q (sym e))

        pub refused : stop 27 tt ≡ told (value_at file k d 0) → false ≡ readable d file
        refused e = sym (read ∙ broken (value_at file k d 0) (sym e))
