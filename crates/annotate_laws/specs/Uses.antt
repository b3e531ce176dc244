-- Live before a tree is what occurs in it, joined with what is live after it, on names that the tree does not bind.
use Rattle.std.specs.Prelude.{ℕ, true, false, Bool, ◌||◌, ◌≡◌, refl, List, [], ◌∷◌, eqb}
use Rattle.prelude.specs.Kit.{true≢false, or-false, or_assoc, ◌∙◌, sym, ap}
use Rattle.semantics.specs.Code.{Atom, Line, leaf, if_else, loop, retain, release, Tree, end, line}
use Rattle.semantics.specs.Live.{Set, empty, ◌∪◌, ◌∖◌, ◌∖∖◌, only, just, is, among, live, live_before, uses}

unfoldable mutual
  -- the names that occur in a tree
  pub occurs : Tree → Set
  occurs (end a) = is a
  occurs (line l t) = occurs_line l ∪ occurs t

  -- the names that occur in a line
  pub occurs_line : Line → Set
  occurs_line (leaf x l us) = among us empty
  occurs_line (if_else x g t e) = is g ∪ occurs t ∪ occurs e
  occurs_line (loop x k ps us t) = among us empty ∪ occurs t
  occurs_line (retain x) = empty
  occurs_line (release x) = empty

unfoldable mutual
  -- the names that a tree binds, in the trees of its lines too
  pub binds : Tree → Set
  binds (end a) = empty
  binds (line l t) = binds_line l ∪ binds t

  -- the names that a line binds
  pub binds_line : Line → Set
  binds_line (leaf x l us) = only x
  binds_line (if_else x g t e) = only x ∪ binds t ∪ binds e
  binds_line (loop x k ps us t) = only x ∪ just ps ∪ binds t
  binds_line (retain x) = empty
  binds_line (release x) = empty

-- ---- bools

pub neither : (a b : Bool) → a ≡ false → b ≡ false → a || b ≡ false
neither a b g h = rw (g, h)

pub or_no : (a b : Bool) → a || b ≡ false → (a ≡ false) × (b ≡ false)
or_no true b h = absurd (true≢false h)
or_no false b h = (refl, h)

-- both branches are joined with what is live after them
or_join : (g t e a : Bool) → g || ((t || a) || (e || a)) ≡ (g || (t || e)) || a
or_join true t e a = refl
or_join false true e a = refl
or_join false false true true = refl
or_join false false true false = refl
or_join false false false true = refl
or_join false false false false = refl

-- ---- names of atoms, and names taken away

pub among_splits : (us : List Atom) (A : Set) (y : ℕ) → among us A y ≡ among us empty y || A y
unfolding among
among_splits [] A y = refl
among_splits (u ∷ us) A y =
    ap (λ (b : Bool). is u y || b) (among_splits us A y) ∙ sym (or_assoc (is u y) (among us empty y) (A y))

pub not_among : (us : List Atom) (A : Set) (z : ℕ) → among us empty z ≡ false → A z ≡ false → among us A z ≡ false
not_among us A z g h = among_splits us A z ∙ neither (among us empty z) (A z) g h

pub less_others : (ps : List ℕ) (A : Set) (y : ℕ) → just ps y ≡ false → (A ∖∖ ps) y ≡ A y
less_others [] A y h = refl
less_others (x ∷ ps) A y h =
    let k = or_no (eqb x y) (just ps y) h in
    rw k.0 (less_others ps A y k.1)

-- ---- the law

mutual
  unfolding live occurs binds

  pub live_splits : (t : Tree) (L : Set) (y : ℕ) → binds t y ≡ false → live t L y ≡ occurs t y || L y
  live_splits (end a) L y h = refl
  live_splits (line l t) L y h =
      let k = or_no (binds_line l y) (binds t y) h in
      before_splits l (live t L) y k.0
      ∙ ap (λ (b : Bool). occurs_line l y || b) (live_splits t L y k.1)
      ∙ sym (or_assoc (occurs_line l y) (occurs t y) (L y))

  before_splits : (l : Line) (A : Set) (y : ℕ) → binds_line l y ≡ false → live_before l A y ≡ occurs_line l y || A y
  before_splits (leaf x l us) A y h = among_splits us (A ∖ x) y ∙ rw h
  before_splits (if_else x g t e) A y h =
      let k = or_no (eqb x y) (binds t y || binds e y) h in
      let j = or_no (binds t y) (binds e y) k.1 in
      rw (live_splits t (A ∖ x) y j.0, live_splits e (A ∖ x) y j.1, k.0)
      (or_join (is g y) (occurs t y) (occurs e y) (A y))
  before_splits (loop x k ps us t) A y h =
      let i = or_no (eqb x y) (just ps y || binds t y) h in
      let j = or_no (just ps y) (binds t y) i.1 in
      among_splits us (uses t ∖∖ ps ∪ A ∖ x) y
      ∙ rw (less_others ps (uses t) y j.0, live_splits t empty y j.1, i.0, or-false (occurs t y))
      (sym (or_assoc (among us empty y) (occurs t y) (A y)))
  before_splits (retain x) A y h = refl
  before_splits (release x) A y h = refl

-- a tree uses the names that occur in it and that it does not bind
pub uses_occurs : (t : Tree) (y : ℕ) → binds t y ≡ false → uses t y ≡ occurs t y
uses_occurs t y h = live_splits t empty y h ∙ or-false (occurs t y)
