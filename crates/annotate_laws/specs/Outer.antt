-- Trees whose inner names are numbered past the names that they use from outside: what an if and a loop release.
use Rattle.std.specs.Prelude.{ℕ, ◌≤◌, ◌<◌, true, false, Bool, ◌&&◌, not, ◌||◌, ◌≡◌, refl, List, [], ◌∷◌, ◌++◌, eqb}
use Rattle.std.specs.Prelude.{ltb}
use Rattle.prelude.specs.Kit.{arith, dec_lt, and-false, true≢false, or_assoc, or-true, ◌∙◌, sym, ap, fun_ext, ne_eqb}
use Rattle.prelude.specs.Kit.{lt-ltb, eq-eqb, le-ltb}
use Rattle.semantics.specs.Kinds.{Loop, mapping, filtering, reducing, rewriting, loop_hands, loop_reads}
use Rattle.semantics.specs.Basics.{with_if}
use Rattle.semantics.specs.Code.{Atom, number, name, Line, leaf, if_else, loop, retain, release, Tree, end, line}
use Rattle.semantics.specs.Live.{Set, empty, ◌∪◌, ◌∖◌, ◌∖∖◌, only, just, is, among, live, uses, members}
use Rattle.semantics.specs.Annotate.{NameDepths, is_array, dying, handed_again}
use Rattle.plain_rows.specs.Marks.{Marks, marks}
use Rattle.plain_rows.specs.Parts.{below}
use Rattle.plain_rows.specs.Walk.{since}
use Rattle.annotate_laws.specs.Uses.{occurs, binds, neither, or_no, not_among, among_splits, less_others}
use Rattle.annotate_laws.specs.Uses.{live_splits, uses_occurs}
use Rattle.annotate_laws.specs.Members.{members_last}
use Rattle.annotate_laws.specs.Marks.{Low, since_occurs}

-- U are the names that a tree inside the line of x uses from outside, B those that it binds
pub record Inner (x : ℕ) (U B : Set) : Type 0 where
  pub outer : (y : ℕ) → x ≤ y → U y ≡ false
  pub inner : (y : ℕ) → y < x → B y ≡ false

-- In a tree: the trees of each line use from outside only names below that line's, and bind none of these. A loop's
-- atoms are below its line's name too.
abbrev mutual
  pub Nested : Tree → Type 0
  Nested (end a) = Unit {0}
  Nested (line l t) = NestedLine l × Nested t

  pub NestedLine : Line → Type 0
  NestedLine (leaf x l us) = Unit {0}
  NestedLine (if_else x g t e) =
      (Inner x (uses t) (binds t) × Nested t) × (Inner x (uses e) (binds e) × Nested e)
  NestedLine (loop x k ps us t) = Inner x (among us empty ∪ uses t ∖∖ ps) (just ps ∪ binds t) × Nested t
  NestedLine (retain x) = Unit {0}
  NestedLine (release x) = Unit {0}

-- a test that holds only below x, where it is the test b
same_below : (x y : ℕ) (a b : Bool) → (x ≤ y → a ≡ false) → (y < x → b ≡ a) → ltb y x && b ≡ a
same_below x y a b g h = go (dec_lt y x)
  where
    go : Dec (y < x) → ltb y x && b ≡ a
    go (yes l) = rw (lt-ltb y x l) (h l)
    go (no f) = rw (le-ltb y x (omega (arith, f))) (sym (g (omega (arith, f))))

-- a set of names below x
all_below : (x : ℕ) (A : Set) → ((y : ℕ) → x ≤ y → A y ≡ false) → below x A ≡ A
all_below x A h = fun_ext (λ y. same_below x y (A y) (A y) (h y) (λ l. refl))

-- ---- the other branch's names

only_new : (e b t r : Bool) → (e || b) && (r && not (t || b)) ≡ e && (r && not (t || b))
only_new true b t r = refl
only_new false true true r = and-false r
only_new false true false r = and-false r
only_new false false t r = refl

-- A branch opens by releasing what the other uses and what is not live at its own start: that is what is live at
-- the other's start and not at its own, among the names below the if's.
pub branch_releases : (Γ : NameDepths) (x : ℕ) (t e : Tree) (B : Set) → Inner x (uses t) (binds t) →
    Inner x (uses e) (binds e) → dying Γ (below x (live e B)) (live t B) ≡ dying Γ (uses e) (live t B)
unfolding dying
branch_releases Γ x t e B i j = ap members (fun_ext (λ y. go y (dec_lt y x)))
  where
    go : (y : ℕ) → Dec (y < x) →
        (ltb y x && live e B y) && (is_array Γ y && not (live t B y))
        ≡ uses e y && (is_array Γ y && not (live t B y))
    go y (yes l) =
        rw (
          lt-ltb y x l,
          live_splits e B y (j.inner y l),
          live_splits t B y (i.inner y l),
          uses_occurs e y (j.inner y l),
        )
        (only_new (occurs e y) (B y) (occurs t y) (is_array Γ y))
    go y (no f) = rw (le-ltb y x (omega (arith, f)), j.outer y (omega (arith, f)))

-- ---- the names used in a tree, by the rows of last uses

-- a branch that begins at row p
pub branch_uses : (x : ℕ) (t : Tree) (p : ℕ) {M : Marks} → Low M p → Inner x (uses t) (binds t) →
    below x (since p (marks t p M)) ≡ uses t
branch_uses x t p h i =
    ap (below x) (since_occurs t p h)
    ∙ fun_ext (λ y. same_below x y (uses t y) (occurs t y) (i.outer y) (λ l. sym (uses_occurs t y (i.inner y l))))

-- a loop's tree that begins at row p: the names from outside the loop
pub pass_uses : (x : ℕ) (ps : List ℕ) (us : List Atom) (t : Tree) (p : ℕ) {M : Marks} → Low M p →
    Inner x (among us empty ∪ uses t ∖∖ ps) (just ps ∪ binds t) → below x (since p (marks t p M)) ≡ uses t ∖∖ ps
pass_uses x ps us t p h i =
    ap (below x) (since_occurs t p h)
    ∙ fun_ext (λ y. same_below x y ((uses t ∖∖ ps) y) (occurs t y) (λ l. (or_no (among us empty y) _ (i.outer y l)).1)
    (λ l. other y (i.inner y l)))
  where
    other : (y : ℕ) → (just ps ∪ binds t) y ≡ false → occurs t y ≡ (uses t ∖∖ ps) y
    other y h =
        let k = or_no (just ps y) (binds t y) h in
        sym (less_others ps (uses t) y k.0 ∙ uses_occurs t y k.1)

-- a loop reads and hands over atoms of its own
reads_own : (k : Loop) (us : List Atom) (y : ℕ) → among us empty y ≡ false → among (loop_reads k us) empty y ≡ false
unfolding among
reads_own mapping us y h = h
reads_own filtering us y h = h
reads_own reducing [] y h = h
reads_own reducing (a ∷ us) y h = (or_no (is a y) (among us empty y) h).1
reads_own rewriting us y h = refl

hands_own : (k : Loop) (us : List Atom) (y : ℕ) → among us empty y ≡ false → among (loop_hands k us) empty y ≡ false
unfolding among
hands_own mapping us y h = refl
hands_own filtering us y h = refl
hands_own reducing [] y h = refl
hands_own reducing (a ∷ us) y h = neither (is a y) false (or_no (is a y) (among us empty y) h).0 refl
hands_own rewriting us y h = h

-- what a loop reads is below its name
pub reads_below : (x : ℕ) (k : Loop) (ps : List ℕ) (us : List Atom) (t : Tree) {B : Set} →
    Inner x (among us empty ∪ uses t ∖∖ ps) B → (y : ℕ) → x ≤ y → among (loop_reads k us) (uses t ∖∖ ps) y ≡ false
reads_below x k ps us t i y h =
    let j = or_no (among us empty y) ((uses t ∖∖ ps) y) (i.outer y h) in
    not_among (loop_reads k us) (uses t ∖∖ ps) y (reads_own k us y j.0) j.1

-- ---- what is retained before a loop

-- it depends on the names that are handed over only
handed_as : (Γ : NameDepths) (us : List Atom) (S T : Set) → ((y : ℕ) → among us empty y ≡ true → S y ≡ T y) →
    handed_again Γ us S ≡ handed_again Γ us T
unfolding handed_again among
handed_as Γ [] S T h = refl
handed_as Γ (number z ∷ us) S T h = handed_as Γ us S T h
handed_as Γ (name x ∷ us) S T h =
    rw (among_splits us S x, among_splits us T x, h x (rw (eq-eqb x x refl)))
    (ap (with_if (is_array Γ x && (among us empty x || T x)) x) (handed_as Γ us S T later))
  where
    later : (y : ℕ) → among us empty y ≡ true → S y ≡ T y
    later y g = h y (rw g (or-true (eqb x y)))

-- the loop's own name is not handed over, whether or not it is live after the loop
pub hands_live : (Γ : NameDepths) (x : ℕ) (k : Loop) (us : List Atom) (U A B : Set) →
    Inner x (among us empty ∪ U) B →
    handed_again Γ (loop_hands k us) (among (loop_reads k us) (U ∪ A ∖ x))
    ≡ handed_again Γ (loop_hands k us) (among (loop_reads k us) U ∪ A)
hands_live Γ x k us U A B i = handed_as Γ (loop_hands k us) _ _ (λ y h. go y h (dec_lt y x))
  where
    go : (y : ℕ) → among (loop_hands k us) empty y ≡ true → Dec (y < x) →
        among (loop_reads k us) (U ∪ A ∖ x) y ≡ among (loop_reads k us) U y || A y
    go y h (yes l) =
        among_splits (loop_reads k us) (U ∪ A ∖ x) y
        ∙ rw (among_splits (loop_reads k us) U y, ne_eqb x y (λ e. omega arith))
        (sym (or_assoc (among (loop_reads k us) empty y) (U y) (A y)))
    go y h (no f) =
        absurd (true≢false (sym h ∙ hands_own k us y (or_no (among us empty y) (U y) (i.outer y (omega (arith, f)))
        ).0))

-- ---- what a loop releases: the names below its own, and then its own
pub loop_releases : (Γ : NameDepths) (x : ℕ) (R A : Set) → ((y : ℕ) → x ≤ y → R y ≡ false) →
    dying Γ (below x R) A ++ dying Γ (only x) A ≡ dying Γ (R ∪ only x) A
unfolding dying members
loop_releases Γ x R A h =
    ap (λ (S : Set). dying Γ S A ++ dying Γ (only x) A) (all_below x R h)
    ∙ sym (members_last 256 0 x R (λ y. is_array Γ y && not (A y)) h)
