-- Laws of reading a function's rows: what is known before each row, and what each kind of row makes of it.
use Rattle.prelude.specs.Kit.{ℕ, ◌≤◌, ◌+◌, ◌<◌, ◌-◌, suc, zero, ◌%◌, ◌/◌, arith, ℕ_discrete, true, false, Bool, ◌&&◌}
use Rattle.prelude.specs.Kit.{not, ◌||◌, and-false, or-false, or-true, ◌≡◌, refl, ◌∙◌, sym, ap, List, [], ◌∷◌, ◌++◌}
use Rattle.prelude.specs.Kit.{append_assoc, append-nil, eqb, length, get_or, set, length-set, replicate, take}
use Rattle.prelude.specs.Kit.{get_or-set_other, get_or-set_same, ne_eqb, lt-ltb, eq-eqb, le-ltb}
use Rattle.semantics.specs.Basics.{with_if}
use Rattle.borrow_table.specs.Scan.{atoms_after, hands, link_in, makes_link, hands_from}
use Rattle.borrow_table.specs.Scan.{links_from, handed_over, links_in, Scanned}

-- ---- lists

pub all_at : (n i : ℕ) → i < n → get_or (replicate n true) i false ≡ true
all_at zero i h = absurd (omega arith)
all_at (suc n) zero h = refl
all_at (suc n) (suc i) h = all_at n i (omega arith)

pub not_not : (b : Bool) → b ≡ not (not b)
not_not true = refl
not_not false = refl

-- one more element is put after the first ones
take_set : (l : List ℕ) (n v : ℕ) → n < length l → take (n + 1) (set l n v) ≡ take n l ++ (v ∷ [])
take_set [] n v h = absurd (omega arith)
take_set (x ∷ l) zero v h = refl
take_set (x ∷ l) (suc n) v h =
    let e : suc n + 1 ≡ suc (n + 1) = omega arith in
    rw e (ap (λ (m : List ℕ). x ∷ m) (take_set l n v (omega arith)))

-- ---- before each row

-- The rows below p are read: the names and links so far and those of the other rows are those of all q rows.
pub record Reading (rows : List ℕ) (f q n : ℕ) (links₀ : List ℕ) (names : List Bool) (links : List ℕ)
    (count line left p : ℕ) : Type 0 where
  pub within : p ≤ q
  pub few : left ≤ atoms_after line
  pub long : length names ≡ 8
  pub size : length links ≡ 1024
  pub handed : (i : ℕ) → i < 8 →
      handed_over rows q i ≡ not (get_or names i false) || hands_from rows (q - p) p line left i
  pub linked : take n links₀ ++ links_in rows f q ≡ take count links ++ links_from rows f (q - p) p line left
  pub many : n + length (links_in rows f q) ≡ count + length (links_from rows f (q - p) p line left)

-- no row is read yet
pub reading_begins : (rows : List ℕ) (f q n : ℕ) (links : List ℕ) → length links ≡ 1024 →
    Reading rows f q n links (replicate 8 true) links n 0 0 0
reading_begins rows f q n links s =
    let e : q - 0 ≡ q = omega arith in
    record {
      within = omega arith;
      few = omega arith;
      long = refl;
      size = s;
      handed = λ i h. rw (e, all_at 8 i h);
      linked = rw e;
      many = rw e;
    }

-- all rows are read
pub reading_ends : {rows : List ℕ} {f q n : ℕ} {links₀ : List ℕ} {names : List Bool} {links : List ℕ}
    {count line left p : ℕ} → Reading rows f q n links₀ names links count line left p → q ≤ p →
    Scanned rows f q n links₀ names links count
unfolding hands_from links_from
reading_ends {rows} {f} {q} {n} {links₀} {names} {links} {count} {line} {left} {p} R g =
    let e : q - p ≡ 0 = omega arith in
    record {
      long = R.long;
      handed = λ i h. not_not (get_or names i false)
          ∙ ap not (sym (rw e at (R.handed i h) ∙ or-false (not (get_or names i false))));
      linked = sym (rw e at R.linked ∙ append-nil (take count links));
      size = R.size;
      many = let z = rw e at R.many in omega (arith, z);
    }

-- ---- a row

module _ {rows : List ℕ} {f q n : ℕ} {links₀ : List ℕ} {names : List Bool} {links : List ℕ} {count line left p : ℕ}
    (R : Reading rows f q n links₀ names links count line left p) (within : p < q) where
  one_row : q - p ≡ suc (q - (p + 1))
  one_row = omega arith

  -- of a line
  pub reading_line : (v m : ℕ) → v ≡ get_or rows p 0 → left ≡ 0 → m ≡ atoms_after v →
      Reading rows f q n links₀ names links count v m (p + 1)
  unfolding hands_from links_from
  reading_line v m ve le me = record {
    within = omega arith;
    few = omega arith;
    long = R.long;
    size = R.size;
    handed = λ i h. rw (me, ve) (rw (one_row, le) at (R.handed i h));
    linked = rw (me, ve) (rw (one_row, le) at R.linked);
    many = rw (me, ve) (rw (one_row, le) at R.many);
  }

  -- of an atom
  module _ (v : ℕ) (ve : v ≡ get_or rows p 0) (some : left ≡ 0 → ⊥) where
    one_less : left ≡ suc (left - 1)
    one_less = omega (arith, some)

    handed_next : (i : ℕ) → i < 8 →
        handed_over rows q i
        ≡ not (get_or names i false)
        || ((hands line (left - 1) && eqb v i) || hands_from rows (q - (p + 1)) (p + 1) line (left - 1) i)
    unfolding hands_from
    handed_next i h = rw ve (rw (one_row, one_less) at (R.handed i h))

    linked_next :
        take n links₀ ++ links_in rows f q
        ≡ take count links
        ++ with_if (makes_link line v) (link_in f line (left - 1) v)
        (links_from rows f (q - (p + 1)) (p + 1) line (left - 1))
    unfolding links_from
    linked_next = rw ve (rw (one_row, one_less) at R.linked)

    many_next :
        n + length (links_in rows f q)
        ≡ count + length (with_if (makes_link line v) (link_in f line (left - 1) v)
        (links_from rows f (q - (p + 1)) (p + 1) line (left - 1)))
    unfolding links_from
    many_next = rw ve (rw (one_row, one_less) at R.many)

    -- it is neither handed over nor makes a link
    nothing : makes_link line v ≡ false → ((i : ℕ) → i < 8 → hands line (left - 1) && eqb v i ≡ false) →
        Reading rows f q n links₀ names links count line (left - 1) (p + 1)
    nothing no_link no_hand = record {
      within = omega arith;
      few = omega (arith, R.few);
      long = R.long;
      size = R.size;
      handed = λ i h. rw (no_hand i h) at (handed_next i h);
      linked = rw no_link at linked_next;
      many = rw no_link at many_next;
    }

    -- it is no name below 8
    pub reading_past : 8 ≤ v → Reading rows f q n links₀ names links count line (left - 1) (p + 1)
    reading_past h =
        nothing (rw (le-ltb v 8 h) (and-false (eqb (line % 256) 8)))
        (λ i g. rw (ne_eqb v i (λ e. omega arith)) (and-false (hands line (left - 1))))

    -- its line reads it
    pub reading_other : (line % 256 ≡ 8 → ⊥) → hands line (left - 1) ≡ false →
        Reading rows f q n links₀ names links count line (left - 1) (p + 1)
    reading_other g e = nothing (rw (ne_eqb (line % 256) 8 g)) (λ i h. rw e)

    -- the row of a call has room for its link
    pub some_room : n + length (links_in rows f q) ≤ 1024 → v < 8 → line % 256 ≡ 8 → count < 1024
    some_room room h e =
        let z = rw (e, lt-ltb v 8 h) at many_next in
        omega (arith, z)

    -- its line is a call
    pub reading_link : v < 8 → line % 256 ≡ 8 → n + length (links_in rows f q) ≤ 1024 →
        Reading rows f q n links₀ names (set links count (link_in f line (left - 1) v)) (count + 1) line (left - 1)
        (p + 1)
    reading_link h e room = record {
      within = omega arith;
      few = omega (arith, R.few);
      long = R.long;
      size = length-set links count (link_in f line (left - 1) v) ∙ R.size;
      handed = λ i g. rw e at (handed_next i g);
      linked = rw (e, lt-ltb v 8 h) at linked_next
          ∙ sym (ap (λ (l : List ℕ). l ++ links_from rows f (q - (p + 1)) (p + 1) line (left - 1))
          (take_set links count (link_in f line (left - 1) v) (omega (arith, R.size, some_room room h e)))
          ∙ append_assoc (take count links) (link_in f line (left - 1) v ∷ []) _);
      many = let z = rw (e, lt-ltb v 8 h) at many_next in omega (arith, z);
    }

    -- its line hands it over
    pub reading_hand : v < 8 → (line % 256 ≡ 8 → ⊥) → hands line (left - 1) ≡ true →
        Reading rows f q n links₀ (set names v false) links count line (left - 1) (p + 1)
    reading_hand h g e = record {
      within = omega arith;
      few = omega (arith, R.few);
      long = length-set names v false ∙ R.long;
      size = R.size;
      handed = λ i l. rw e at (handed_next i l) ∙ mark i (ℕ_discrete v i) _;
      linked = rw (ne_eqb (line % 256) 8 g) at linked_next;
      many = rw (ne_eqb (line % 256) 8 g) at many_next;
    }
      where
        mark : (i : ℕ) → Dec (v ≡ i) → (b : Bool) →
            not (get_or names i false) || (eqb v i || b) ≡ not (get_or (set names v false) i false) || b
        mark i (yes d) b =
            rw (← d, eq-eqb v v refl, get_or-set_same names v false false (omega (arith, R.long)))
            (or-true (not (get_or names v false)))
        mark i (no d) b =
            rw (ne_eqb v i d, get_or-set_other names v i false false (λ j. d (sym j)))

-- fewer atoms follow one of a call than it has
pub below_all : (line left : ℕ) → left ≤ atoms_after line → (left ≡ 0 → ⊥) → line % 256 ≡ 8 →
    left - 1 < line / 16777216 % 256
below_all line left h f e = let z = rw e at h in omega (arith, f, z)
