-- One law for each way out of the lines.
use Rattle.prelude.specs.Kit.{ℕ, ◌≤◌, ◌+◌, ◌<◌, pred, arith, ℕ_discrete, true, false, Bool, cond, not, ◌≡◌}
use Rattle.prelude.specs.Kit.{refl, ◌∙◌, sym, ap, subst, List, [], ◌∷◌, eqb, ltb, ℤ, length, get_or, ne_eqb, lt-ltb}
use Rattle.prelude.specs.Kit.{eq-eqb, le-ltb, set, length-set}
use Rattle.std.specs.Prelude.{Option, None, Ok, Err}
use Rattle.semantics.specs.Basics.{updated}
use Rattle.semantics.specs.Outcome.{Outcome, done, stop, onward, require}
use Rattle.semantics.specs.Kinds.{Borrowing, picked}
use Rattle.semantics.specs.Code as C
use Rattle.semantics.specs.Live.{Set, empty}
use Rattle.semantics.specs.Annotate.{NameDepths, is_array}
use Rattle.semantics_lent.specs.Form.{Test}
use Rattle.semantics_lent.specs.Hold.{Holds, After, minus, arrays_in, hold_also, spend, readable}
use Rattle.lent_counts.specs.Counted.{counted}
use Rattle.lent_counts.proofs.Laws.{plus_in, minus_in}
use Rattle.lent_atoms.specs.Told.{told}
use Rattle.lent_hold_lines.specs.Lines.{waiting, Passed, Ended, is_read, atoms_from, read_at, index_at, hand_at}
use Rattle.lent_hold_lines.specs.Lines.{may_retain, retain_at, release_at, end_at, Below}

-- ---- answers

module _ {p : ℕ} {l : List ℕ} (long : length l ≡ 256) where
  stops : {o : Outcome ℕ After} → o ≡ stop 29 p → Passed o (Err (record { line = p })) l
  stops h = record { is = h; long = long }

  passes : {o : Outcome ℕ After} {H : Holds} → counted l ≡ H →
      o ≡ done (record { holds = H; pending = empty }) p → Passed o (Ok (record { line = p; pending = None })) l
  passes c h = record {
    is = h ∙ (λ j. done (record { holds = sym c j; pending = empty }) p);
    long = long;
  }

-- ---- lines

module _ (Γ : NameDepths) (x n : ℕ) (fine : Bool) (l : List ℕ) (p : ℕ) where
  pub read_stops : fine ≡ false → length l ≡ 256 → Passed (read_at Γ x n fine (counted l) p) (Err (record { line = p })) l
  unfolding read_at onward require
  read_stops e long = stops long (rw e refl)

  pub read_passes : (m : List ℕ) → fine ≡ true → counted m ≡ hold_also Γ x (counted l) → length m ≡ 256 →
      Passed (read_at Γ x n fine (counted l) p) (Ok (record { line = p + 1 + n; pending = None })) m
  unfolding read_at onward require
  read_passes m e c long =
      let z : p + 1 + n ≡ p + (1 + n) = omega arith in
      rw z (passes long c (rw e refl))

module _ (Γ : NameDepths) (x : ℕ) (fine : Bool) (l : List ℕ) (p : ℕ) where
  pub index_stops : fine ≡ false → length l ≡ 256 → Passed (index_at Γ x fine (counted l) p) (Err (record { line = p })) l
  unfolding index_at onward require
  index_stops e long = stops long (rw e refl)

  pub index_passes : (w : Option ℕ) → fine ≡ true → waiting w ≡ arrays_in Γ (x ∷ []) → length l ≡ 256 →
      Passed (index_at Γ x fine (counted l) p) (Ok (record { line = p + 3; pending = w })) l
  unfolding index_at onward require
  index_passes w e h long = record {
    is = rw e (λ j. done (record { holds = counted l; pending = sym h j }) (p + 3));
    long = long;
  }

module _ (x : ℕ) (B P : Set) (l : List ℕ) (p : ℕ) where
  pub retain_stops : (r : Bool) → r ≡ may_retain P B (counted l) x → r ≡ false → length l ≡ 256 →
      Passed (retain_at x B P (counted l) p) (Err (record { line = p })) l
  unfolding retain_at onward require
  retain_stops r h e long = stops long (rw (sym h ∙ e) refl)

  pub retain_passes : (r : Bool) (v : ℕ) → r ≡ may_retain P B (counted l) x → r ≡ true → length l ≡ 256 → x < 256 →
      v ≡ get_or l x 0 + 1 →
      Passed (retain_at x B P (counted l) p) (Ok (record { line = p + 1; pending = None })) (set l x v)
  unfolding retain_at onward require
  retain_passes r v h e long within is =
      rw is (passes (simp length-set long) (plus_in l x (omega arith)) (rw (sym h ∙ e) refl))

module _ (x : ℕ) (l : List ℕ) (p : ℕ) where
  release_no : get_or l x 0 ≡ 0 → release_at x (counted l) p ≡ stop 29 p
  unfolding release_at onward require
  release_no e = rw (le-ltb 0 (get_or l x 0) (omega (arith, e))) refl

  release_yes : 0 < get_or l x 0 →
      release_at x (counted l) p ≡ done (record { holds = minus x (counted l); pending = empty }) (p + 1)
  unfolding release_at onward require
  release_yes f = rw (lt-ltb 0 (get_or l x 0) f) refl

  pub release_stops : get_or l x 0 ≡ 0 → length l ≡ 256 →
      Passed (release_at x (counted l) p) (Err (record { line = p })) l
  release_stops e long = stops long (release_no e)

  pub release_passes : (v : ℕ) → length l ≡ 256 → x < 256 → v + 1 ≡ get_or l x 0 →
      Passed (release_at x (counted l) p) (Ok (record { line = p + 1; pending = None })) (set l x v)
  release_passes v long within is =
      passes (simp length-set long) (minus_in l x (omega arith) v (omega arith)) (release_yes (omega arith))

-- what a test tells
told_by : {t : Test Holds} {r b : Bool} (l : List ℕ) → t ≡ told r l → r ≡ b → t ≡ told b l
told_by l h e = h ∙ ap (λ (c : Bool). told c l) e

module _ (kinds : List ℕ) (operands : List ℤ) (β : Borrowing) (Γ : NameDepths) (x : ℕ) (callee : Option ℕ) (B : Set)
    (H : Holds) (p : ℕ) (r : Bool) (l : List ℕ)
    (spent : spend Γ (picked (λ i. not (is_read β callee i)) 0 (atoms_from kinds operands 16 (p + 1))) H ≡ told r l)
    (long : length l ≡ 256) where
  pub hand_stops : r ≡ false → Passed (hand_at kinds operands β Γ x callee B H p) (Err (record { line = p })) l
  unfolding hand_at onward
  hand_stops e = stops long (rw (told_by l spent e) refl)

  pub unread_stops : r ≡ true → (s : Bool) →
      s ≡ readable Γ B (counted l) (picked (is_read β callee) 0 (atoms_from kinds operands 16 (p + 1))) → s ≡ false →
      Passed (hand_at kinds operands β Γ x callee B H p) (Err (record { line = p })) l
  unfolding hand_at onward require
  unread_stops e s h f = stops long (rw (told_by l spent e, sym h ∙ f) refl)

  pub hand_passes : r ≡ true → (s : Bool) →
      s ≡ readable Γ B (counted l) (picked (is_read β callee) 0 (atoms_from kinds operands 16 (p + 1))) → s ≡ true →
      (n : ℕ) → n ≡ length (atoms_from kinds operands 16 (p + 1)) → (m : List ℕ) →
      counted m ≡ hold_also Γ x (counted l) → length m ≡ 256 →
      Passed (hand_at kinds operands β Γ x callee B H p) (Ok (record { line = p + 1 + n; pending = None })) m
  unfolding hand_at onward require
  hand_passes e s h f n c m g long' =
      let z : p + 1 + n ≡ p + (1 + n) = omega arith in
      rw z (passes long' g (rw (told_by l spent e, sym h ∙ f, c) refl))

module _ (Γ : NameDepths) (a : C.Atom) (H : Holds) (ends : Holds → Bool) (p : ℕ) (r : Bool) (l : List ℕ)
    (spent : spend Γ (a ∷ []) H ≡ told r l) (long : length l ≡ 256) where
  pub end_stops : r ≡ false → Ended (end_at Γ a H ends p) (Err (record { line = p })) l
  unfolding end_at onward
  end_stops e = record { is = rw (told_by l spent e) refl; long = long }

  pub unlike_stops : r ≡ true → (s : Bool) → s ≡ ends (counted l) → s ≡ false →
      Ended (end_at Γ a H ends p) (Err (record { line = p })) l
  unfolding end_at onward require
  unlike_stops e s h f = record { is = rw (told_by l spent e, sym h ∙ f) refl; long = long }

  pub end_passes : r ≡ true → (s : Bool) → s ≡ ends (counted l) → s ≡ true →
      Ended (end_at Γ a H ends p) (Ok (p + 2)) l
  unfolding end_at onward require
  end_passes e s h f = record { is = rw (told_by l spent e, sym h ∙ f) refl; long = long }

-- the laws of each line
pub ruleset read_laws = (read_stops, read_passes)

pub ruleset index_laws = (index_stops, index_passes)

pub ruleset retain_laws = (retain_stops, retain_passes)

pub ruleset release_laws = (release_stops, release_passes)

pub ruleset hand_laws = (hand_stops, unread_stops, hand_passes)

pub ruleset end_laws = (end_stops, unlike_stops, end_passes)

-- ---- counts do not grow by hand-overs

abbrev NoMore : Holds → Outcome ℕ Holds → Type 0
NoMore H (done I q) = (n : ℕ) → I n ≤ H n
NoMore H (stop m q) = Unit {0}

minus_less : (x : ℕ) (H : Holds) (n : ℕ) → minus x H n ≤ H n
unfolding updated
minus_less x H n = go (ℕ_discrete x n)
  where
    go : Dec (x ≡ n) → cond (eqb x n) (pred (H x)) (H n) ≤ H n
    go (yes e) =
        let z : pred (H x) ≤ H n = omega (arith, ap H e) in
        subst (λ (b : Bool). cond b (pred (H x)) (H n) ≤ H n) (sym (eq-eqb x n e)) z
    go (no f) =
        let z : H n ≤ H n = omega arith in
        subst (λ (b : Bool). cond b (pred (H x)) (H n) ≤ H n) (sym (ne_eqb x n f)) z

spend_less : (Γ : NameDepths) (us : List C.Atom) (H : Holds) (p : ℕ) → NoMore H (spend Γ us H p)
unfolding spend onward require
spend_less Γ [] H p = λ n. omega arith
spend_less Γ (C.number z ∷ us) H p = spend_less Γ us H p
spend_less Γ (C.name x ∷ us) H p =
    go (is_array Γ x) (ltb 0 (H x)) (λ I q. spend_less Γ us I q)
  where
    weaker : (I : Holds) → ((n : ℕ) → I n ≤ H n) → (o : Outcome ℕ Holds) → NoMore I o → NoMore H o
    weaker I h (done K q) k = λ n. omega (arith, h n, k n)
    weaker I h (stop m q) k = tt

    go : (a b : Bool) → ((I : Holds) (q : ℕ) → NoMore I (spend Γ us I q)) →
        NoMore H (onward (λ (I : Holds). spend Γ us I)
        (cond {A = Test Holds} a (λ (s : ℕ). onward (λ (u : Unit {0}) (t : ℕ). done (minus x H) t)
        (require b 29 s)) (λ (s : ℕ). done H s) p))
    go true true later = weaker (minus x H) (minus_less x H) (spend Γ us (minus x H) p) (later (minus x H) p)
    go true false later = tt
    go false b later = later H p

pub spent_below : {m : ℕ} (Γ : NameDepths) (us : List C.Atom) (k l : List ℕ) (r : Bool) → Below m k → length l ≡ 256 →
    spend Γ us (counted k) ≡ told r l → r ≡ true → Below m l
spent_below {m} Γ us k l r b h e f = record {
  long = h;
  below = λ n. (let z : get_or l n 0 ≤ get_or k n 0 =
      subst (NoMore (counted k)) (ap (λ (t : Test Holds). t 0) (told_by l e f)) (spend_less Γ us (counted k) 0) n
      in omega (arith, z, b.below n));
}
