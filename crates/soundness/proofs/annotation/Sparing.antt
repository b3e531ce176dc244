-- Trees that spare the names that are lent: they bind none of them and hand none over. A plain tree that does not spend
-- them is one, and an array is not lent by depths in which they are numbers.
use Rattle.prelude.specs.Kit.{ℕ, ◌≤◌, ◌<◌, suc, arith, true, false, Bool, ◌≡◌, refl}
use Rattle.prelude.specs.Kit.{List, [], ◌∷◌, length, eq-eqb}
use Rattle.semantics.specs.Kinds.{Borrowing, leaf_hands, loop_hands}
use Rattle.semantics.specs.Code.{Atom, number, name, Line, leaf, if_else, loop, retain, release, Tree, end, line}
use Rattle.semantics.specs.Code.{ending, retain_all, release_all}
use Rattle.semantics.specs.Live.{Set, empty, ◌∪◌, only, just, is, among}
use Rattle.semantics.specs.Borrow.{spent, line_spent}
use Rattle.semantics.specs.Annotate.{NameDepths, atom_depth, Style}
use Rattle.laws.specs.Tests.{or_left, or_right}
use Rattle.discipline.proofs.machine.Discipline.{loop_arity}
use Rattle.soundness.proofs.annotation.Typed.{Functions}
use Rattle.soundness.proofs.annotation.Formed.{Within, within_up, not_within, Rising, rising_up, bound_by, Formed}
use Rattle.soundness.proofs.annotation.Formed.{LineFormed}

-- over the names that are lent
module _ (lent : Set) where
  -- an atom, some atoms and some names that are not lent
  abbrev pub Owned : Atom → Type 0
  Owned (number z) = Unit {0}
  Owned (name x) = lent x ≡ false

  abbrev pub AllOwned : List Atom → Type 0
  AllOwned [] = Unit {0}
  AllOwned (a ∷ us) = Owned a × AllOwned us

  abbrev pub NoneLent : List ℕ → Type 0
  NoneLent [] = Unit {0}
  NoneLent (x ∷ xs) = (lent x ≡ false) × NoneLent xs

-- over the places that are borrowed, too
module _ (β : Borrowing) (lent : Set) where
  abbrev mutual
    pub Spares : Tree → Type 0
    Spares (end a) = Owned lent a
    Spares (line l t) = LineSpares l × Spares t

    pub LineSpares : Line → Type 0
    LineSpares (leaf x l us) = (lent x ≡ false) × AllOwned lent (leaf_hands β l us)
    LineSpares (if_else x g t e) = (lent x ≡ false) × Spares t × Spares e
    LineSpares (loop x k ps us t) =
        (lent x ≡ false) × AllOwned lent (loop_hands k us) × NoneLent lent ps × Spares t × (length us ≡ loop_arity k)
    LineSpares (retain x) = Unit {0}
    LineSpares (release x) = Unit {0}

  -- ---- a plain tree

  owned : (a : Atom) → ((n : ℕ) → is a n ≡ true → lent n ≡ false) → Owned lent a
  owned (number z) h = tt
  owned (name x) h = h x (eq-eqb x x refl)

  all_owned : (us : List Atom) → ((n : ℕ) → among us empty n ≡ true → lent n ≡ false) → AllOwned lent us
  unfolding among
  all_owned [] h = tt
  all_owned (a ∷ us) h = (
    owned a (λ n e. h n (or_left (is a n) (among us empty n) e)),
    all_owned us (λ n e. h n (or_right (is a n) (among us empty n) e)),
  )

  none_lent : (ps : List ℕ) (c e : ℕ) → Within lent c → Rising c ps e → NoneLent lent ps
  none_lent [] c e w r = tt
  none_lent (p ∷ ps) c e w r = (
    not_within lent c p w r.0,
    none_lent ps (suc p) e (within_up lent c (suc p) (omega (arith, r.0)) w) r.1,
  )

  module _ (F : Functions) (Θ : NameDepths) where
    mutual
      unfolding spent

      -- the lent names are below those that the tree binds, and it spends none of them
      pub formed_spares : (t : Tree) (S : Set) (c d : ℕ) → Formed F Θ t S c d → Within lent c →
          ((n : ℕ) → spent β t n ≡ true → lent n ≡ false) → Spares t
      formed_spares (end a) S c d f w h = owned a h
      formed_spares (line l t) S c d f w h = (
        line_spares l S c f.2 f.1.above w (λ n e. h n (or_left (line_spent β l n) (spent β t n) e)),
        formed_spares t (S ∪ only (bound_by l)) f.0 d f.3
            (within_up lent c f.0 (omega (arith, f.1.above, f.1.below)) w)
            (λ n e. h n (or_right (line_spent β l n) (spent β t n) e)),
      )

      line_spares : (l : Line) (S : Set) (c : ℕ) → LineFormed F Θ l S → c ≤ bound_by l → Within lent c →
          ((n : ℕ) → line_spent β l n ≡ true → lent n ≡ false) → LineSpares l
      line_spares (leaf x l us) S c f above w h =
          (not_within lent c x w above, all_owned (leaf_hands β l us) h)
      line_spares (if_else x g t e) S c f above w h = (
        not_within lent c x w above,
        formed_spares t S f.1.0 (Θ x) f.1.2 (within_up lent c f.1.0 (omega (arith, f.1.1)) w)
            (λ n q. h n (or_left (spent β t n) (spent β e n) q)),
        formed_spares e S f.2.0 (Θ x) f.2.2 (within_up lent c f.2.0 (omega (arith, f.2.1)) w)
            (λ n q. h n (or_right (spent β t n) (spent β e n) q)),
      )
      line_spares (loop x k ps us t) S c f above w h =
          let rising = f.1.rising in
          let hands = among (loop_hands k us) empty in (
            not_within lent c x w above,
            all_owned (loop_hands k us) (λ n q. h n (or_left (hands n) (spent β t n) q)),
            none_lent ps (suc x) f.0 (within_up lent c (suc x) (omega arith) w) rising,
            formed_spares t (S ∪ just ps) f.0 (atom_depth Θ (ending t)) f.2
                (within_up lent c f.0 (omega (arith, rising_up ps (suc x) f.0 rising)) w)
                (λ n q. h n (or_right (hands n) (spent β t n) q)),
            f.1.fits.parted,
          )
      line_spares (retain x) S c f above w h = absurd f
      line_spares (release x) S c f above w h = absurd f

  -- ---- its annotation

  pub spares_retains : (xs : List ℕ) (t : Tree) → Spares t → Spares (retain_all xs t)
  spares_retains [] t s = s
  spares_retains (x ∷ xs) t s = (tt, spares_retains xs t s)

  pub spares_releases : (xs : List ℕ) (t : Tree) → Spares t → Spares (release_all xs t)
  spares_releases [] t s = s
  spares_releases (x ∷ xs) t s = (tt, spares_releases xs t s)

  -- the names that are lent are numbers
  abbrev pub Numbers : NameDepths → Type 0
  Numbers Γ = (n : ℕ) → lent n ≡ true → Γ n ≡ 0

  module _ (style : Style) (Γ : NameDepths) (numbers : Numbers Γ) where
    -- an array by Γ is not lent
    pub array_owned : (y : ℕ) → 0 < Γ y → lent y ≡ false
    array_owned y h = go (lent y) refl
      where
        go : (b : Bool) → lent y ≡ b → b ≡ false
        go true e = absurd (omega (arith, h, numbers y e))
        go false e = refl
