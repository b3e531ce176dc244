-- `largest`: the table of borrowed parameters has every entry of every stable table. The more is borrowed, the less is
-- spent, so that no round takes away what a stable table has.
use Rattle.prelude.specs.Kit.{ℕ, suc, true, false, Bool, not, false≢true, ◌||◌, ◌≡◌, refl, sym, subst, inl, inr, List}
use Rattle.prelude.specs.Kit.{[], ◌∷◌}
use Rattle.laws.specs.Tests.{or_cases, or_left, or_right}
use Rattle.semantics.specs.Basics.{with_if}
use Rattle.semantics.specs.Kinds.{Borrowing, Leaf, operation, call, literal, index, length_of, iota, replicate}
use Rattle.semantics.specs.Kinds.{picked, leaf_hands, loop_hands}
use Rattle.semantics.specs.Syntax.{Script, function_at}
use Rattle.semantics.specs.Code.{Atom, Line, leaf, if_else, loop, retain, release, Tree, end, line}
use Rattle.semantics.specs.Live.{empty, is, among}
use Rattle.semantics.specs.Normal.{normal_body}
use Rattle.semantics.specs.Borrow.{spent, line_spent, Table, borrows, borrowed}
use Rattle.soundness.proofs.borrowing.Rounds.{Within}
use Rattle.soundness.proofs.borrowing.Spending.{rounds_largest}
use Rattle.soundness.proofs.borrowing.Stable.{Stable, script_spends, rounds_same}

or_both : (a b c d : Bool) → (a ≡ true → c ≡ true) → (b ≡ true → d ≡ true) → (a || b) ≡ true → (c || d) ≡ true
or_both a b c d f g e = elim (or_cases a b e) [ inl p ↦ or_left c d (f p) | inr p ↦ or_right c d (g p) ]

-- ---- the more is borrowed, the less is spent

module _ {U W : Borrowing} (more : Within U W) where
  -- the arguments of f that W does not borrow, from place i on, are among those that U does not
  picked_fewer : (f i : ℕ) (us : List Atom) (x : ℕ) → among (picked (λ j. not (W f j)) i us) empty x ≡ true →
      among (picked (λ j. not (U f j)) i us) empty x ≡ true
  unfolding among
  picked_fewer f i [] x e = e
  picked_fewer f i (u ∷ us) x e = by (U f i) (W f i) (more f i) (picked_fewer f (suc i) us x) e
    where
      later : Borrowing → List Atom
      later B = picked (λ j. not (B f j)) (suc i) us

      by : (a b : Bool) → (a ≡ true → b ≡ true) → (among (later W) empty x ≡ true → among (later U) empty x ≡ true) →
          among (with_if (not b) u (later W)) empty x ≡ true → among (with_if (not a) u (later U)) empty x ≡ true
      by true true m rest h = rest h
      by true false m rest h = absurd (false≢true (m refl))
      by false true m rest h = or_right (is u x) (among (later U) empty x) (rest h)
      by false false m rest h =
          or_both (is u x) (among (later W) empty x) (is u x) (among (later U) empty x) (λ p. p) rest h

  leaf_fewer : (l : Leaf) (us : List Atom) (x : ℕ) → among (leaf_hands W l us) empty x ≡ true →
      among (leaf_hands U l us) empty x ≡ true
  leaf_fewer (operation o) us x e = e
  leaf_fewer (call f) us x e = picked_fewer f 0 us x e
  leaf_fewer (literal d) us x e = e
  leaf_fewer index us x e = e
  leaf_fewer length_of us x e = e
  leaf_fewer iota us x e = e
  leaf_fewer replicate us x e = e

  mutual
    unfolding spent

    pub spent_fewer : (t : Tree) (x : ℕ) → spent W t x ≡ true → spent U t x ≡ true
    spent_fewer (end a) x e = e
    spent_fewer (line l t) x e =
        or_both (line_spent W l x) (spent W t x) (line_spent U l x) (spent U t x) (λ p. line_fewer l x p)
        (λ p. spent_fewer t x p) e

    line_fewer : (l : Line) (x : ℕ) → line_spent W l x ≡ true → line_spent U l x ≡ true
    line_fewer (leaf y l us) x h = leaf_fewer l us x h
    line_fewer (if_else y g t e) x h =
        or_both (spent W t x) (spent W e x) (spent U t x) (spent U e x) (λ p. spent_fewer t x p)
        (λ p. spent_fewer e x p) h
    line_fewer (loop y k ps us t) x h =
        let starts = among (loop_hands k us) empty x in
        or_both starts (spent W t x) starts (spent U t x) (λ p. p) (λ p. spent_fewer t x p) h
    line_fewer (retain y) x h = h
    line_fewer (release y) x h = h

-- ---- the rounds

pub largest : (fs : Script) (U : Borrowing) → Stable fs U → Within U (borrows (borrowed fs))
unfolding borrowed
largest fs U stable =
    subst (λ (T : Table). Within U (borrows T)) (sym (rounds_same fs 257))
    (rounds_largest (script_spends fs) (λ B W w f i. spent_fewer w (normal_body (function_at fs f)) i) U (record {
      small = stable.small;
      main_owns = stable.main_owns;
      kept = stable.kept;
    }) 257)
