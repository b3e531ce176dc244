-- Laws of a call's arguments: those at certain places, from the last to the first, and the names that are released.
use Rattle.prelude.specs.Kit.{ℕ, ◌≤◌, ◌+◌, ◌<◌, ◌-◌, suc, zero, arith, dec_lt, true, false, Bool, ◌&&◌, not, ◌≡◌}
use Rattle.prelude.specs.Kit.{refl, ◌∙◌, sym, ap, List, [], ◌∷◌, ◌++◌, eqb, ℤ, pos, get_or, ne_eqb, lt-ltb, eq-eqb}
use Rattle.prelude.specs.Kit.{le-ltb, le-leb, lt-leb}
use Rattle.prelude.specs.Kit.{cond, ltb, true≢false, or-true, or-false, map-append}
use Rattle.std.specs.Prelude.{Option, Some, None, IfSome}
use Rattle.std.specs.Ordering.{nat_cmp, partial_lt, is_lt}
use Rattle.std.specs.Option.{option_partial_cmp}
use Rattle.std.proofs.lemmas.Map.Keys.{ge_from_not_lt}
use Rattle.std.proofs.lemmas.Bool.Decides.{nat_tests}
use Rattle.semantics.specs.Basics.{with_if}
use Rattle.semantics.specs.Kinds.{picked}
use Rattle.semantics.specs.Code.{Atom, number, name}
use Rattle.semantics.specs.Live.{Set, empty, is, only, among, ◌∪◌, members_from}
use Rattle.semantics.specs.Annotate.{NameDepths, is_array, handed_again}
use Rattle.plain_rows.specs.Plain.{meant, placed, atoms_at}
use Rattle.plain_rows.specs.Parts.{retain_rows, release_rows, handed_one}
use Rattle.plain_rows.proofs.Atoms.{atoms_more, atoms_none, atoms_all}
use Rattle.annotate_rows.specs.Wrote.{Wrote}
use Rattle.annotate_rows.proofs.Rows.{wrote_none, wrote_then, wrote_as}
use Rattle.annotate_rows.proofs.Names.{releases_from, release_more}
use Rattle.annotate_lines.specs.Calls.{counted, higher, highest, place_of}
use Rattle.annotate_lines.proofs.Handed.{handed_cons}

-- ---- an argument that counts

pub counts : {b : Bool} {a c : Atom} → b ≡ true → a ≡ c → a ≡ counted b c
unfolding counted
counts e f = rw (e, f)

pub counts_not : {b : Bool} (c : Atom) → b ≡ false → number (pos 0) ≡ counted b c
unfolding counted
counts_not c e = rw e

-- by the test that says whether it counts
pub counted_as : {b c : Bool} {a : Atom} (d : Atom) → b ≡ c → a ≡ counted b d → a ≡ counted c d
counted_as d e f = f ∙ ap (λ (i : Bool). counted i d) e

counted_among : (b : Bool) (a : Atom) (us : List Atom) (A : Set) →
    is (counted b a) ∪ among us A ≡ among (with_if b a us) A
unfolding counted among
counted_among true a us A = refl
counted_among false a us A = refl

counted_higher : (b : Bool) (a : Atom) (us : List Atom) (x bound : ℕ) →
    higher (counted b a) bound (highest x bound us) ≡ highest x bound (with_if b a us)
unfolding counted highest
counted_higher true a us x bound = refl
counted_higher false a us x bound = refl

counted_handed : (Γ : NameDepths) (b : Bool) (a : Atom) (us : List Atom) (A : Set) →
    handed_one Γ (counted b a) (among us A) ++ handed_again Γ us A ≡ handed_again Γ (with_if b a us) A
unfolding counted handed_one
counted_handed Γ true a us A = handed_cons Γ a us A
counted_handed Γ false a us A = refl

-- ---- arguments at certain places, from the last to the first

module _ (w rows : List ℕ) (P : ℕ → Bool) (at : ℕ) where
  -- those from place i on
  abbrev pub picked_at : ℕ → ℕ → List Atom
  picked_at i m = picked P i (atoms_at w rows (at + i) (m - i))

  abbrev pub counted_at : ℕ → Atom
  counted_at i = counted (P i) (meant (placed w (get_or rows (at + i) 0)))

  pub picked_none : (m : ℕ) → [] ≡ picked_at m m
  picked_none m = sym (ap (picked P m) (atoms_none w rows (at + m) m))

  picked_more : (i m : ℕ) → 0 < i → i ≤ m →
      with_if (P (i - 1)) (meant (placed w (get_or rows (at + (i - 1)) 0))) (picked_at i m) ≡ picked_at (i - 1) m
  picked_more i m g h =
      ap (λ (j : ℕ). with_if (P (i - 1)) (meant (placed w (get_or rows (at + (i - 1)) 0)))
      (picked P j (atoms_at w rows (at + i) (m - i)))) (let e : i ≡ suc (i - 1) = omega arith in e)
      ∙ sym (ap (picked P (i - 1)) (atoms_more w rows at i m g h))

  pub picked_all : (i m : ℕ) → i ≤ 0 → picked_at i m ≡ picked P 0 (atoms_at w rows at m)
  picked_all i m h =
      ap (picked P i) (atoms_all w rows at i m (omega arith))
      ∙ ap (λ (j : ℕ). picked P j (atoms_at w rows at m)) (let e : i ≡ 0 = omega arith in e)

  -- a set joined with their names
  pub joins_none : (m : ℕ) (A : Set) → A ≡ among (picked_at m m) A
  unfolding among
  joins_none m A = ap (λ (us : List Atom). among us A) (picked_none m)

  pub joins_more : (i m : ℕ) (A B R : Set) (a : Atom) → 0 < i → i ≤ m → B ≡ among (picked_at i m) A →
      a ≡ counted_at (i - 1) → R ≡ is a ∪ B → R ≡ among (picked_at (i - 1) m) A
  joins_more i m A B R a g h b e r =
      r ∙ rw (e, b) (counted_among (P (i - 1)) (meant (placed w (get_or rows (at + (i - 1)) 0))) (picked_at i m) A
      ∙ ap (λ (us : List Atom). among us A) (picked_more i m g h))

  pub joins_all : (i m : ℕ) (A R : Set) → i ≤ 0 → R ≡ among (picked_at i m) A →
      R ≡ among (picked P 0 (atoms_at w rows at m)) A
  joins_all i m A R h r = r ∙ ap (λ (us : List Atom). among us A) (picked_all i m h)

  -- the highest of them
  module _ (x bound : ℕ) where
    pub tops_none : (m n : ℕ) → n ≡ higher (name x) bound 0 → n ≡ highest x bound (picked_at m m)
    unfolding highest
    tops_none m n e = e ∙ ap (highest x bound) (picked_none m)

    pub tops_more : (i m n r : ℕ) (a : Atom) → 0 < i → i ≤ m → n ≡ highest x bound (picked_at i m) →
        a ≡ counted_at (i - 1) → r ≡ higher a bound n → r ≡ highest x bound (picked_at (i - 1) m)
    tops_more i m n r a g h b e f =
        f ∙ rw (e, b) (counted_higher (P (i - 1)) (meant (placed w (get_or rows (at + (i - 1)) 0))) (picked_at i m) x
        bound
        ∙ ap (highest x bound) (picked_more i m g h))

    pub tops_all : (i m r : ℕ) → i ≤ 0 → r ≡ highest x bound (picked_at i m) →
        r ≡ highest x bound (picked P 0 (atoms_at w rows at m))
    tops_all i m r h e = e ∙ ap (highest x bound) (picked_all i m h)

  -- the retains of those that are handed over
  module _ (Γ : NameDepths) (A : Set) where
    pub owned_none : (m : ℕ) {k : List ℕ} {o : List ℤ} {v : ℕ} →
        Wrote k o k o v v (retain_rows (handed_again Γ (picked_at m m) A))
    unfolding handed_again
    owned_none m =
        wrote_as (ap (λ (us : List Atom). retain_rows (handed_again Γ us A)) (picked_none m)) wrote_none

    pub owned_more : (i m : ℕ) (a : Atom) (S : Set) → 0 < i → i ≤ m → a ≡ counted_at (i - 1) →
        S ≡ among (picked_at i m) A → {k k₁ k₂ : List ℕ} {o o₁ o₂ : List ℤ} {v v₁ v₂ : ℕ} →
        Wrote k o k₁ o₁ v v₁ (retain_rows (handed_again Γ (picked_at i m) A)) →
        Wrote k₁ o₁ k₂ o₂ v₁ v₂ (retain_rows (handed_one Γ a S)) →
        Wrote k o k₂ o₂ v v₂ (retain_rows (handed_again Γ (picked_at (i - 1) m) A))
    owned_more i m a S g h e s x y =
        wrote_as
        (sym (map-append _ (handed_one Γ a S) (handed_again Γ (picked_at i m) A))
        ∙ ap (λ (l : List ℕ). retain_rows l) (names e s))
        (wrote_then x y)
      where
        names : a ≡ counted_at (i - 1) → S ≡ among (picked_at i m) A →
            handed_one Γ a S ++ handed_again Γ (picked_at i m) A ≡ handed_again Γ (picked_at (i - 1) m) A
        names e s =
            rw (e, s) (counted_handed Γ (P (i - 1)) (meant (placed w (get_or rows (at + (i - 1)) 0))) (picked_at i m) A
            ∙ ap (λ (us : List Atom). handed_again Γ us A) (picked_more i m g h))

    pub owned_all : (i m : ℕ) → i ≤ 0 → {k k₁ : List ℕ} {o o₁ : List ℤ} {v v₁ : ℕ} →
        Wrote k o k₁ o₁ v v₁ (retain_rows (handed_again Γ (picked_at i m) A)) →
        Wrote k o k₁ o₁ v v₁ (retain_rows (handed_again Γ (picked P 0 (atoms_at w rows at m)) A))
    owned_all i m h x =
        wrote_as (ap (λ (us : List Atom). retain_rows (handed_again Γ us A)) (picked_all i m h)) x

-- ---- the highest name

-- r is one more than the highest name of U below a bound, or 0
pub record Highest (U : Set) (bound r : ℕ) : Type 0 where
  pub within : r ≤ bound
  pub none_above : (y : ℕ) → r ≤ y → y < bound → U y ≡ false
  pub member : 0 < r → U (r - 1) ≡ true

higher_far : (y bound n : ℕ) → y + 1 ≤ n → n ≡ higher (name y) bound n
unfolding higher
higher_far y bound n h = rw (le-ltb n (y + 1) h)

higher_past : (y bound n : ℕ) → bound < y + 1 → n ≡ higher (name y) bound n
unfolding higher
higher_past y bound n h = rw (lt-leb (y + 1) bound h) (none (ltb n (y + 1)))
  where
    none : (b : Bool) → n ≡ cond b n n
    none true = refl
    none false = refl

higher_taken : (y bound n : ℕ) → n < y + 1 → y + 1 ≤ bound → y + 1 ≡ higher (name y) bound n
unfolding higher
higher_taken y bound n g h = rw (lt-ltb n (y + 1) g, le-leb (y + 1) bound h)

-- a name and the highest so far, as the code compares them
abbrev pub is_above : Option ℕ → ℕ → Bool
is_above found y = partial_lt (option_partial_cmp (λ a b. Some (nat_cmp a b))) found (Some y)

less : (z y : ℕ) → is_lt (nat_cmp z y) ≡ true → z < y
less z y e = grind (arith, nat_tests)

above_true : (found : Option ℕ) (y : ℕ) → is_above found y ≡ true → place_of found < y + 1
above_true None y e = omega arith
above_true (Some z) y e = omega (arith, less z y e)

above_false : (found : Option ℕ) (y : ℕ) → is_above found y ≡ false → y + 1 ≤ place_of found
above_false None y e = absurd (true≢false e)
above_false (Some z) y e = omega (arith, ge_from_not_lt z y e)

pub found_above : (found : Option ℕ) (y bound : ℕ) → y < bound → is_above found y ≡ true →
    y + 1 ≡ higher (name y) bound (place_of found)
found_above found y bound h e = higher_taken y bound (place_of found) (above_true found y e) (omega arith)

pub found_below : (found : Option ℕ) (y bound : ℕ) → is_above found y ≡ false →
    place_of found ≡ higher (name y) bound (place_of found)
found_below found y bound e = higher_far y bound (place_of found) (above_false found y e)

pub found_past : (found : Option ℕ) (y bound : ℕ) → bound ≤ y → place_of found ≡ higher (name y) bound (place_of found)
found_past found y bound h = higher_past y bound (place_of found) (omega arith)

pub higher_number : (z : ℤ) (bound n : ℕ) → n ≡ higher (number z) bound n
unfolding higher
higher_number z bound n = refl

module _ {U : Set} {bound n : ℕ} (u : Highest U bound n) where
  -- another name that is not between
  stays : (y r : ℕ) → ((z : ℕ) → n ≤ z → z < bound → y ≡ z → ⊥) → n ≡ r → Highest (only y ∪ U) bound r
  stays y r f e =
      rw (← e) (record {
        within = u.within;
        none_above = λ z g h. rw (ne_eqb y z (f z g h)) (u.none_above z g h);
        member = λ g. rw (u.member g) (or-true (eqb y (n - 1)));
      })

  taken : (y r : ℕ) → n < y + 1 → y + 1 ≤ bound → y + 1 ≡ r → Highest (only y ∪ U) bound r
  taken y r g h e =
      rw (← e) (record {
        within = h;
        none_above = λ z i j. rw (ne_eqb y z (λ q. omega arith)) (u.none_above z (omega arith) j);
        member = λ i. let q : y + 1 - 1 ≡ y = omega arith in rw (q, eq-eqb y y refl);
      })

  one_higher : (a : Atom) → Highest (is a ∪ U) bound (higher a bound n)
  one_higher (number z) = rw (← higher_number z bound n) u
  one_higher (name y) = go (dec_lt n (y + 1)) (dec_lt bound (y + 1))
    where
      go : Dec (n < y + 1) → Dec (bound < y + 1) → Highest (only y ∪ U) bound (higher (name y) bound n)
      go (no f) d = stays y _ (λ z g h e. omega (arith, f)) (higher_far y bound n (omega (arith, f)))
      go (yes g) (yes h) = stays y _ (λ z i j e. omega arith) (higher_past y bound n h)
      go (yes g) (no f) = taken y _ g (omega (arith, f)) (higher_taken y bound n g (omega (arith, f)))

pub highest_is : (x bound : ℕ) (us : List Atom) → Highest (among us (only x)) bound (highest x bound us)
unfolding highest among
highest_is x bound [] = go (one_higher none (name x))
  where
    none : Highest empty bound 0
    none = record {
      within = omega arith;
      none_above = λ y g h. refl;
      member = λ g. absurd (let f : ⊥ = omega arith in f);
    }

    go : {r : ℕ} → Highest (only x ∪ empty) bound r → Highest (only x) bound r
    go h = record {
      within = h.within;
      none_above = λ y i j. sym (or-false (eqb x y)) ∙ h.none_above y i j;
      member = λ i. sym (or-false _) ∙ h.member i;
    }
highest_is x bound (a ∷ us) = one_higher (highest_is x bound us) a

pub highest_as : (x bound : ℕ) (us : List Atom) {n : ℕ} → n ≡ highest x bound us → Highest (among us (only x)) bound n
highest_as x bound us e = rw e (highest_is x bound us)

pub highest_used : {U : Set} {bound : ℕ} (found : Option ℕ) → Highest U bound (place_of found) →
    IfSome found (λ y. U y ≡ true)
highest_used None h = tt
highest_used (Some y) h = let below : y + 1 - 1 ≡ y = omega arith in rw below at (h.member (omega arith))

-- ---- releases from the highest name down

module _ (Γ : NameDepths) (U A : Set) where
  -- names between that are not in the set are not released
  between : (n i j : ℕ) → i + n ≡ j → j ≤ 256 → ((y : ℕ) → i ≤ y → y < j → U y ≡ false) →
      releases_from Γ U A j ≡ releases_from Γ U A i
  between zero i j e h f = ap (releases_from Γ U A) (let q : j ≡ i = omega arith in q)
  between (suc n) i j e h f =
      skipped (f (j - 1) (omega arith) (omega arith))
      ∙ between n i (j - 1) (omega arith) (omega arith) (λ y g l. f y g (omega arith))
    where
      skipped : U (j - 1) ≡ false → releases_from Γ U A j ≡ releases_from Γ U A (j - 1)
      skipped q =
          sym (ap (λ (b : Bool). release_rows (with_if (b && (is_array Γ (j - 1) && not (A (j - 1)))) (j - 1) [])
          ++ releases_from Γ U A j) q)
          ∙ release_more Γ U A j (omega arith) h

  pub drops_none : (n : ℕ) → Highest U 256 n → {k : List ℕ} {o : List ℤ} {v : ℕ} →
      Wrote k o k o v v (releases_from Γ U A n)
  unfolding members_from
  drops_none n h =
      wrote_as (between (256 - n) n 256 (omega (arith, h.within)) (omega arith) h.none_above) wrote_none

  pub drops_more : (y r : ℕ) → y < 256 → U y ≡ true → Highest U y r →
      {k k₁ k₂ : List ℕ} {o o₁ o₂ : List ℤ} {v v₁ v₂ : ℕ} → Wrote k o k₁ o₁ v v₁ (releases_from Γ U A (y + 1)) →
      Wrote k₁ o₁ k₂ o₂ v₁ v₂ (release_rows (with_if (is_array Γ y && not (A y)) y [])) →
      Wrote k o k₂ o₂ v v₂ (releases_from Γ U A r)
  drops_more y r l e h p q =
      let below : y + 1 - 1 ≡ y = omega arith in
      wrote_as
      (ap (λ (b : Bool). release_rows (with_if (b && (is_array Γ y && not (A y))) y []) ++ releases_from Γ U A (y + 1))
      (sym e)
      ∙ (rw below at (release_more Γ U A (y + 1) (omega arith) (omega arith)))
      ∙ between (y - r) r y (omega (arith, h.within)) (omega arith) h.none_above)
      (wrote_then p q)
