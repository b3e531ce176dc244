-- Laws of uses: the rows of last uses, and the links that the notes at names' rows make.
use Rattle.prelude.specs.Kit.{ℕ, ◌≤◌, ◌+◌, ◌<◌, arith, dec_lt, ℕ_discrete, true, false, Bool, cond, ◌≡◌, refl, ◌∙◌, sym}
use Rattle.prelude.specs.Kit.{ap, subst, fun_ext, List, [], ◌∷◌, eqb, ltb, length, get_or, set, length-set}
use Rattle.prelude.specs.Kit.{get_or-set_other, get_or-set_same, ne_eqb, lt-ltb, eq-eqb, le-ltb}
use Rattle.semantics.specs.Basics.{updated}
use Rattle.plain_rows.specs.Plain.{Plain, meant, placed, note}
use Rattle.plain_rows.specs.Marks.{marks_of, marked, marked_all}
use Rattle.plain_rows.specs.Stands.{Linked, LinkedAll}
use Rattle.flatten_rows.specs.Laid.{used_once, noted_once, used, noted, placed_all}

-- a table changed at one place is its function changed there
pub table_set : (d : List ℕ) (z x v : ℕ) → x < length d →
    (λ y. get_or (set d x v) y z) ≡ updated (λ y. get_or d y z) x v
unfolding updated
table_set d z x v h = fun_ext (λ y. go y (ℕ_discrete x y))
  where
    go : (y : ℕ) → Dec (x ≡ y) → get_or (set d x v) y z ≡ cond (eqb x y) v (get_or d y z)
    go y (yes e) = rw (← e, eq-eqb x x refl) (get_or-set_same d x v z h)
    go y (no f) = rw (ne_eqb x y f) (get_or-set_other d x y v z (λ p. f (sym p)))

-- ---- one use

module _ (n l : List ℕ) (r v : ℕ) where
  noted_once_long : length (noted_once n l r v) ≡ length n
  unfolding noted_once
  noted_once_long = go (ltb v 256)
    where
      go : (b : Bool) → length (cond b (set n r (get_or l v 0)) n) ≡ length n
      go true = length-set n r (get_or l v 0)
      go false = refl

  used_once_long : length (used_once l r v) ≡ length l
  unfolding used_once
  used_once_long = go (ltb v 256)
    where
      go : (b : Bool) → length (cond b (set l v r) l) ≡ length l
      go true = length-set l v r
      go false = refl

  noted_once_below : (i : ℕ) → i < r → note (noted_once n l r v) i ≡ note n i
  unfolding noted_once
  noted_once_below i h = go (ltb v 256)
    where
      go : (b : Bool) → note (cond b (set n r (get_or l v 0)) n) i ≡ note n i
      go true = get_or-set_other n r i (get_or l v 0) i (λ e. omega arith)
      go false = refl

  used_once_marks : (w : List ℕ) → length l ≡ 256 →
      marks_of (used_once l r v) ≡ marked (meant (placed w v)) r (marks_of l)
  unfolding used_once placed marked
  used_once_marks w s = go (dec_lt v 256)
    where
      go : Dec (v < 256) → marks_of (cond (ltb v 256) (set l v r) l) ≡ marked (meant (placed w v)) r (marks_of l)
      go (yes h) = rw (lt-ltb v 256 h) (table_set l 0 v r (omega arith))
      go (no f) = rw (le-ltb v 256 (omega (arith, f)))

  linked_once : (F : Plain) (w : List ℕ) → r < length n → note F.notes r ≡ note (noted_once n l r v) r →
      Linked F (meant (placed w v)) r (marks_of l)
  unfolding noted_once placed
  linked_once F w s e = go (dec_lt v 256)
    where
      go : Dec (v < 256) → Linked F (meant (placed w v)) r (marks_of l)
      go (yes h) = rw (lt-ltb v 256 h) (rw (lt-ltb v 256 h) at e ∙ get_or-set_same n r (get_or l v 0) r s)
      go (no f) = rw (le-ltb v 256 (omega (arith, f))) tt

-- ---- some uses from a row on

pub noted_long : (n l : List ℕ) (r : ℕ) (vs : List ℕ) → length (noted n l r vs) ≡ length n
unfolding noted
noted_long n l r [] = refl
noted_long n l r (v ∷ vs) =
    noted_long (noted_once n l r v) (used_once l r v) (r + 1) vs ∙ noted_once_long n l r v

pub used_long : (l : List ℕ) (r : ℕ) (vs : List ℕ) → length (used l r vs) ≡ length l
unfolding used
used_long l r [] = refl
used_long l r (v ∷ vs) = used_long (used_once l r v) (r + 1) vs ∙ used_once_long [] l r v

pub noted_below : (n l : List ℕ) (r : ℕ) (vs : List ℕ) (i : ℕ) → i < r → note (noted n l r vs) i ≡ note n i
unfolding noted
noted_below n l r [] i h = refl
noted_below n l r (v ∷ vs) i h =
    noted_below (noted_once n l r v) (used_once l r v) (r + 1) vs i (omega arith) ∙ noted_once_below n l r v i h

pub used_marks : (w l : List ℕ) (r : ℕ) (vs : List ℕ) → length l ≡ 256 →
    marks_of (used l r vs) ≡ marked_all (placed_all w vs) r (marks_of l)
unfolding used marked_all
used_marks w l r [] s = refl
used_marks w l r (v ∷ vs) s =
    used_marks w (used_once l r v) (r + 1) vs (used_once_long [] l r v ∙ s)
    ∙ ap (marked_all (placed_all w vs) (r + 1)) (used_once_marks [] l r v w s)

-- the notes at the rows of some atoms link them, where F has them
pub linked_all : (F : Plain) (w n l : List ℕ) (r : ℕ) (vs : List ℕ) → length l ≡ 256 → r + length vs ≤ length n →
    ((i : ℕ) → r ≤ i → i < r + length vs → note F.notes i ≡ note (noted n l r vs) i) →
    LinkedAll F (placed_all w vs) r (marks_of l)
unfolding noted
linked_all F w n l r [] s t h = tt
linked_all F w n l r (v ∷ vs) s t h = (
  linked_once n l r v F w (omega arith)
      (h r (omega arith) (omega arith) ∙ noted_below (noted_once n l r v) (used_once l r v) (r + 1) vs r (omega
      arith)),
  subst (λ (M : ℕ → ℕ). LinkedAll F (placed_all w vs) (r + 1) M) (used_once_marks [] l r v w s)
      (linked_all F w (noted_once n l r v) (used_once l r v) (r + 1) vs (used_once_long [] l r v ∙ s)
      (omega (arith, noted_once_long n l r v)) (λ i a b. h i (omega arith) (omega arith))),
)
