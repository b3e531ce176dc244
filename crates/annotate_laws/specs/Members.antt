-- The members of a set joined with one name that is past all of them.
use Rattle.std.specs.Prelude.{ℕ, ◌≤◌, ◌<◌, suc, zero, true, false, Bool, ◌&&◌, ◌||◌, ◌≡◌, refl, List, [], ◌++◌, eqb}
use Rattle.prelude.specs.Kit.{arith, dec_lt, or-false, ne_eqb}
use Rattle.semantics.specs.Basics.{with_if}
use Rattle.semantics.specs.Live.{Set, members_from}

-- from x on a set of names below x has none
no_members : (n i x : ℕ) (S P : Set) → x ≤ i → ((z : ℕ) → x ≤ z → S z ≡ false) →
    members_from n i (λ z. S z && P z) ≡ []
unfolding members_from
no_members zero i x S P g h = refl
no_members (suc n) i x S P g h = rw (h i g) (no_members n (suc i) x S P (omega arith) h)

with_append : (b : Bool) (x : ℕ) (l m : List ℕ) → with_if b x (l ++ m) ≡ with_if b x l ++ m
with_append true x l m = refl
with_append false x l m = refl

-- x comes last, after the names below it
pub members_last : (n i x : ℕ) (S P : Set) → ((z : ℕ) → x ≤ z → S z ≡ false) →
    members_from n i (λ z. (S z || eqb x z) && P z)
    ≡ members_from n i (λ z. S z && P z) ++ members_from n i (λ z. eqb x z && P z)
unfolding members_from
members_last zero i x S P h = refl
members_last (suc n) i x S P h = go (dec_lt i x) (members_last n (suc i) x S P h)
  where
    go : Dec (i < x) →
        members_from n (suc i) (λ z. (S z || eqb x z) && P z)
        ≡ members_from n (suc i) (λ z. S z && P z) ++ members_from n (suc i) (λ z. eqb x z && P z) →
        members_from (suc n) i (λ z. (S z || eqb x z) && P z)
        ≡ members_from (suc n) i (λ z. S z && P z) ++ members_from (suc n) i (λ z. eqb x z && P z)
    go (yes l) rest = rw (ne_eqb x i (λ e. omega arith), or-false (S i), rest) (with_append (S i && P i) i _ _)
    go (no f) rest = rw (h i (omega (arith, f)), rest, no_members n (suc i) x S P (omega (arith, f)) h)
