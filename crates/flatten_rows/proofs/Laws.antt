-- Laws of laying rows and noting uses, one for each way of the code, and of what stands where after it.
use Rattle.prelude.specs.Kit.{ℕ, ◌≤◌, ◌+◌, ◌<◌, ◌-◌, suc, zero, pred, arith, ◌≡◌, refl, ◌∙◌}
use Rattle.prelude.specs.Kit.{ap, List, [], ◌∷◌, length, get_or, set, length-set, get_or-set_other, get_or-set_same}
use Rattle.prelude.specs.Kit.{lt-ltb, le-ltb}
use Rattle.semantics.specs.Kinds.{Loop, mapping, filtering, reducing, rewriting}
use Rattle.plain_rows.specs.Plain.{loop_of, loop_size}
use Rattle.plain_rows.proofs.Rows.{no_reduce}
use Rattle.flatten_rows.specs.Laid.{laid, used_once, noted_once, used, noted, UsesLaid, LineLaid, firsts}
use Rattle.flatten_rows.specs.Laid.{place_depth, pass_places}

-- ---- the use of an atom

module _ (k n l : List ℕ) (r v : ℕ) where
  pub use_name : v < 256 → UsesLaid k n l (set k r v) (set n r (get_or l v 0)) (set l v r) r (v ∷ [])
  unfolding laid noted used noted_once used_once
  use_name h = record { rows = refl; notes = rw (lt-ltb v 256 h); last = rw (lt-ltb v 256 h) }

  pub use_number : 256 ≤ v → UsesLaid k n l (set k r v) n l r (v ∷ [])
  unfolding laid noted used noted_once used_once
  use_number h = record { rows = refl; notes = rw (le-ltb v 256 h); last = rw (le-ltb v 256 h) }

-- a line's row, and then its atoms
pub line_laid : {k k₁ n n₁ l l₁ : List ℕ} (p row : ℕ) (vs : List ℕ) → UsesLaid (set k p row) n l k₁ n₁ l₁ (p + 1) vs →
    LineLaid k n l k₁ n₁ l₁ p row vs
unfolding laid
line_laid p row vs u = record { rows = u.rows; notes = u.notes; last = u.last }

-- ---- atoms laid one after the other

-- i of the first m places of ws are laid from row p on
pub record Placing (ws : List ℕ) (p m : ℕ) (k₀ n₀ l₀ k n l : List ℕ) (i : ℕ) : Type 0 where
  pub within : i ≤ m
  pub rows : laid k₀ p (firsts ws 0 m) ≡ laid k (p + i) (firsts ws i (m - i))
  pub notes : noted n₀ l₀ p (firsts ws 0 m) ≡ noted n l (p + i) (firsts ws i (m - i))
  pub last : used l₀ p (firsts ws 0 m) ≡ used l (p + i) (firsts ws i (m - i))

module _ (ws : List ℕ) (p m : ℕ) where
  pub placing_begins : (k n l : List ℕ) → Placing ws p m k n l k n l 0
  placing_begins k n l =
      let e : p + 0 ≡ p = omega arith in
      let f : m - 0 ≡ m = omega arith in
      record { within = omega arith; rows = rw (e, f); notes = rw (e, f); last = rw (e, f) }

  module _ {k₀ n₀ l₀ k n l : List ℕ} {i : ℕ} (P : Placing ws p m k₀ n₀ l₀ k n l i) where
    pub placing_goes : {k₁ n₁ l₁ : List ℕ} → i < m → UsesLaid k n l k₁ n₁ l₁ (p + i) (get_or ws i 0 ∷ []) →
        Placing ws p m k₀ n₀ l₀ k₁ n₁ l₁ (i + 1)
    unfolding laid noted used firsts
    placing_goes h u =
        let e : m - i ≡ suc (m - (i + 1)) = omega arith in
        let f : p + (i + 1) ≡ p + i + 1 = omega arith in
        record {
          within = omega arith;
          rows = P.rows ∙ rw (e, f, u.rows);
          notes = P.notes ∙ rw (e, f, u.notes, u.last);
          last = P.last ∙ rw (e, f, u.last);
        }

    pub placing_ends : m ≤ i → UsesLaid k₀ n₀ l₀ k n l p (firsts ws 0 m)
    unfolding laid noted used firsts
    placing_ends h =
        let e : m - i ≡ 0 = omega arith in
        record { rows = rw (P.rows, e); notes = rw (P.notes, e); last = rw (P.last, e) }

-- ---- what stands where

pub length_laid : (l : List ℕ) (p : ℕ) (vs : List ℕ) → length (laid l p vs) ≡ length l
unfolding laid
length_laid l p [] = refl
length_laid l p (v ∷ vs) = length_laid (set l p v) (p + 1) vs ∙ length-set l p v

pub laid_below : (l : List ℕ) (p : ℕ) (vs : List ℕ) (i : ℕ) → i < p → get_or (laid l p vs) i 0 ≡ get_or l i 0
unfolding laid
laid_below l p [] i h = refl
laid_below l p (v ∷ vs) i h =
    laid_below (set l p v) (p + 1) vs i (omega arith) ∙ get_or-set_other l p i v 0 (λ e. omega arith)

pub laid_at : (l : List ℕ) (p : ℕ) (vs : List ℕ) (i : ℕ) → i < length vs → p + length vs ≤ length l →
    get_or (laid l p vs) (p + i) 0 ≡ get_or vs i 0
unfolding laid
laid_at l p [] i h g = absurd (let f : ⊥ = omega arith in f)
laid_at l p (v ∷ vs) zero h g =
    let e : p + 0 ≡ p = omega arith in
    rw e (laid_below (set l p v) (p + 1) vs p (omega arith) ∙ get_or-set_same l p v 0 (omega arith))
laid_at l p (v ∷ vs) (suc i) h g =
    let e : p + suc i ≡ p + 1 + i = omega arith in
    rw e (laid_at (set l p v) (p + 1) vs i (omega arith) (omega (arith, length-set l p v)))

pub length_firsts : (l : List ℕ) (i m : ℕ) → length (firsts l i m) ≡ m
unfolding firsts
length_firsts l i zero = refl
length_firsts l i (suc m) = ap suc (length_firsts l (i + 1) m)

pub firsts_at : (l : List ℕ) (i m j : ℕ) → j < m → get_or (firsts l i m) j 0 ≡ get_or l (i + j) 0
unfolding firsts
firsts_at l i zero j h = absurd (let f : ⊥ = omega arith in f)
firsts_at l i (suc m) zero h = ap (λ (n : ℕ). get_or l n 0) (let e : i ≡ i + 0 = omega arith in e)
firsts_at l i (suc m) (suc j) h =
    firsts_at l (i + 1) m j (omega arith) ∙ ap (λ (n : ℕ). get_or l n 0) (let e : i + 1 + j ≡ i + suc j = omega arith
    in e)

-- ---- loops

module _ (kind : ℕ) where
  pub some_size : 1 ≤ loop_size (loop_of kind)
  some_size = by (loop_of kind)
    where
      by : (k : Loop) → 1 ≤ loop_size k
      by mapping = omega arith
      by filtering = omega arith
      by reducing = omega arith
      by rewriting = omega arith

  module _ (ds : List ℕ) (n v u : ℕ) where
    -- the depths of the names of a pass, laid
    pub pass_reduce : (a b : ℕ) → kind ≡ 20 → a ≡ place_depth ds v → b ≡ pred (place_depth ds u) →
        set (set ds (n + 1) a) (n + 2) b ≡ laid ds (n + 1) (pass_places (loop_of kind) ds v u)
    unfolding laid
    pass_reduce a b e f g =
        let h : n + 2 ≡ n + 1 + 1 = omega arith in
        rw (e, f, g, h)

    pub pass_other : (b : ℕ) → (kind ≡ 20 → ⊥) → b ≡ pred (place_depth ds v) →
        set ds (n + 1) b ≡ laid ds (n + 1) (pass_places (loop_of kind) ds v u)
    unfolding laid
    pass_other b e f =
        no_reduce (λ k. set ds (n + 1) b ≡ laid ds (n + 1) (pass_places k ds v u)) kind e
        (ap (set ds (n + 1)) f) (ap (set ds (n + 1)) f) (ap (set ds (n + 1)) f)
