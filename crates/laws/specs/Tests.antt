-- What it says that a test holds, and that a test of depths gives one; and an equation that cannot be.
use Rattle.std.specs.Prelude.{ℕ, true, false, Bool, ◌&&◌, not, ◌||◌, ◌≡◌, refl, ◌⊎◌, List, [], ◌∷◌, eqb}
use Rattle.prelude.specs.Kit.{arith, false≢true, ◌∙◌, sym, inl, inr, some, none, eqb-true, not-true, not-false}
use Rattle.semantics.specs.Types.{some_if, all_are, same}

-- ---- two tests

pub both_hold : (a b : Bool) → (a && b) ≡ true → (a ≡ true) × (b ≡ true)
both_hold true b e = (refl, e)
both_hold false b e = absurd (false≢true e)

pub say_and : (a b : Bool) → a ≡ true → b ≡ true → (a && b) ≡ true
say_and true b p q = q
say_and false b p q = p

pub or_cases : (a b : Bool) → (a || b) ≡ true → (a ≡ true) ⊎ (b ≡ true)
or_cases true b e = inl refl
or_cases false b e = inr e

pub or_left : (a b : Bool) → a ≡ true → (a || b) ≡ true
or_left true b e = refl
or_left false b e = absurd (false≢true e)

pub or_right : (a b : Bool) → b ≡ true → (a || b) ≡ true
or_right true b e = refl
or_right false b e = e

-- ---- a test whose outcome a function answers

pub passed : {r t : Bool} → r ≡ t → not r ≡ false → t ≡ true
passed {r} e h = sym e ∙ not-false r h

pub failed : {r t : Bool} → r ≡ t → not r ≡ true → t ≡ false
failed {r} e h = sym e ∙ not-true r h

-- ---- an equation that cannot be

-- `cc` proves this one from any equation of two different constructors
pub no_equation : {A : Type 0} → ◌≡◌ {A = ℕ} 0 1 → A
no_equation e = absurd (omega arith)

-- ---- a depth that is given, if any

pub some_same : {A : Type 0} (c d : A) → some c ≡ some d → c ≡ d
some_same c d e = cc

pub not_some : {A : Type 0} (d : ℕ) → none ≡ some d → A
not_some d e = no_equation cc

pub some_if_holds : (b : Bool) (c d : ℕ) → some_if b c ≡ some d → (b ≡ true) × (c ≡ d)
some_if_holds true c d e = (refl, some_same c d e)
some_if_holds false c d e = not_some d e

-- ---- lists of depths

abbrev pub AllEqual : ℕ → List ℕ → Type 0
AllEqual r [] = Unit {0}
AllEqual r (d ∷ ds) = (d ≡ r) × AllEqual r ds

pub all_equal : (r : ℕ) (ds : List ℕ) → all_are r ds ≡ true → AllEqual r ds
all_equal r [] e = tt
all_equal r (d ∷ ds) e =
    let both = both_hold (eqb d r) (all_are r ds) e in
    (eqb-true d r both.0, all_equal r ds both.1)

pub same_lists : (ds es : List ℕ) → same ds es ≡ true → ds ≡ es
same_lists [] [] e = refl
same_lists [] (x ∷ es) e = absurd (false≢true e)
same_lists (d ∷ ds) [] e = absurd (false≢true e)
same_lists (d ∷ ds) (x ∷ es) e =
    let both = both_hold (eqb d x) (same ds es) e in
    λ i. eqb-true d x both.0 i ∷ same_lists ds es both.1 i
