-- What the rows of a function spend, by the table: first as they are read, then as the tree that stands in them.
use Rattle.prelude.specs.Kit.{ℕ, ◌+◌, ◌<◌, suc, zero, ◌*◌, ◌%◌, ◌/◌, arith, dec_lt, ℕ_discrete, true, false, Bool}
use Rattle.prelude.specs.Kit.{◌&&◌, not, ◌||◌, and-false, ◌≡◌, refl, ◌∙◌, sym, ap, List, ◌∷◌, eqb, get_or}
use Rattle.prelude.specs.Kit.{ne_eqb, lt-ltb}
use Rattle.prelude.specs.Kit.{eq-eqb, le-ltb}
use Rattle.semantics.specs.Basics.{with_if}
use Rattle.semantics.specs.Kinds.{Borrowing}
use Rattle.semantics.specs.Borrow.{Table, borrows}
use Rattle.borrow_table.specs.Gathered.{link, passed}
use Rattle.borrow_table.specs.Scan.{atoms_after, hands, place_in, link_in, makes_link, hands_from, links_from}

-- whether an atom of a line is handed over, in a call too
abbrev pub atom_spends : Borrowing → ℕ → ℕ → Bool
atom_spends B line k = hands line k || (eqb (line % 256) 8 && not (B (line / 65536 % 256) (place_in line k)))

module _ (B : Borrowing) (rows : List ℕ) (i : ℕ) where
  -- whether name i is handed over in the n rows from p on
  unfoldable pub spends_from : ℕ → ℕ → ℕ → ℕ → Bool
  spends_from zero p line left = false
  spends_from (suc n) p line zero = spends_from n (p + 1) (get_or rows p 0) (atoms_after (get_or rows p 0))
  spends_from (suc n) p line (suc k) =
      (atom_spends B line k && eqb (get_or rows p 0) i) || spends_from n (p + 1) line k

-- ---- by names and links

-- a link is read back
module _ (f i v g j : ℕ) (fl : f < 256) (il : i < 8) (vl : v < 8) (gl : g < 256) where
  link_name : eqb (link f v g j % 65536) (f + 256 * i) ≡ eqb v i
  link_name = go (ℕ_discrete v i)
    where
      go : Dec (v ≡ i) → eqb (link f v g j % 65536) (f + 256 * i) ≡ eqb v i
      go (yes e) = eq-eqb (link f v g j % 65536) (f + 256 * i) (omega arith) ∙ sym (eq-eqb v i e)
      go (no d) = ne_eqb (link f v g j % 65536) (f + 256 * i) (λ e. d (omega arith)) ∙ sym (ne_eqb v i d)

  link_place : (link f v g j / 65536 % 256 ≡ g) × (link f v g j / 16777216 ≡ j)
  link_place = (omega arith, omega arith)

  pub passed_link : (T : Table) (ls : List ℕ) →
      passed (link f v g j ∷ ls) T f i ≡ (eqb v i && not (borrows T g j)) || passed ls T f i
  unfolding passed
  passed_link T ls = rw (link_name, link_place.0, link_place.1)

-- tests of one atom and of what follows it
link_test : (e b h s : Bool) → ((false || (true && b)) && e) || (h || s) ≡ ((false && e) || h) || ((e && b) || s)
link_test true true true s = refl
link_test true true false s = refl
link_test true false h s = refl
link_test false true h s = refl
link_test false false h s = refl

hand_test : (a e h s : Bool) → ((a || false) && e) || (h || s) ≡ ((a && e) || h) || s
hand_test true true h s = refl
hand_test true false h s = refl
hand_test false e h s = refl

past_test : (a b h s : Bool) → (a && false) || (h || s) ≡ ((b && false) || h) || s
past_test true true h s = refl
past_test true false h s = refl
past_test false true h s = refl
past_test false false h s = refl

module _ (T : Table) (f i : ℕ) (fl : f < 256) (il : i < 8) where
  -- one atom v
  atom_told : (line k v : ℕ) (h : Bool) (ls : List ℕ) →
      (atom_spends (borrows T) line k && eqb v i) || (h || passed ls T f i)
      ≡ ((hands line k && eqb v i) || h) || passed (with_if (makes_link line v) (link_in f line k v) ls) T f i
  atom_told line k v h ls = go (dec_lt v 8) (ℕ_discrete (line % 256) 8)
    where
      go : Dec (v < 8) → Dec (line % 256 ≡ 8) →
          (atom_spends (borrows T) line k && eqb v i) || (h || passed ls T f i)
          ≡ ((hands line k && eqb v i) || h) || passed (with_if (makes_link line v) (link_in f line k v) ls) T f i
      go (yes vl) (yes e) =
          rw (e, lt-ltb v 8 vl, passed_link f i v (line / 65536 % 256) (place_in line k) fl il vl (omega arith) T ls)
          (link_test (eqb v i) (not (borrows T (line / 65536 % 256) (place_in line k))) h (passed ls T f i))
      go (yes vl) (no d) =
          rw (ne_eqb (line % 256) 8 d) (hand_test (hands line k) (eqb v i) h (passed ls T f i))
      go (no d) c =
          rw (le-ltb v 8 (omega (arith, d)), ne_eqb v i (λ e. omega (arith, d)), and-false (eqb (line % 256) 8))
          (past_test (atom_spends (borrows T) line k) (hands line k) h (passed ls T f i))

  -- what the rows spend is what they hand over and what their links pass at places that are not borrowed
  pub told : (rows : List ℕ) (n p line left : ℕ) →
      spends_from (borrows T) rows i n p line left
      ≡ hands_from rows n p line left i || passed (links_from rows f n p line left) T f i
  unfolding spends_from hands_from links_from passed
  told rows zero p line left = refl
  told rows (suc n) p line zero = told rows n (p + 1) (get_or rows p 0) (atoms_after (get_or rows p 0))
  told rows (suc n) p line (suc k) =
      ap (λ (b : Bool). (atom_spends (borrows T) line k && eqb (get_or rows p 0) i) || b) (told rows n (p + 1) line k)
      ∙ atom_told line k (get_or rows p 0) (hands_from rows n (p + 1) line k i) (links_from rows f n (p + 1) line k)
