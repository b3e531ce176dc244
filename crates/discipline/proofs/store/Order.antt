-- A cell retained before or after another is acquired: the store is the same.
use Rattle.prelude.specs.Kit.{ℕ, true, ◌≡◌, refl, ◌∙◌, sym, ap, ap₂, ◌≢◌, List, ltb, ℤ, set, length-set, get_or-set_other}
use Rattle.prelude.specs.Kit.{set_comm}
use Rattle.semantics.specs.Store.{Cell, Store, cell, clear, filled, has_free, acquired, retained, one_more, with_cell}
use Rattle.semantics.specs.Store.{with_count, with_first}

-- a retained cell leaves the free list's beginning alone
pub retained_first : (c : ℕ) (σ : Store) → (retained c σ).first ≡ σ.first
unfolding retained with_cell
retained_first c σ = refl

pub retained_free : (c : ℕ) (σ : Store) → has_free (retained c σ) ≡ has_free σ
unfolding has_free retained with_cell
retained_free c σ = ap (ltb σ.first) (length-set σ.cells c _)

acquired_is : (d : ℕ) (ws : List ℤ) (σ : Store) → has_free σ ≡ true →
    acquired d ws σ ≡ with_first (with_cell σ σ.first (filled d ws)) (cell σ σ.first).next
unfolding acquired
acquired_is d ws σ e = rw e refl

-- two cells written, in either order
either_order : (d c : ℕ) (ws : List ℤ) (σ : Store) → c ≢ σ.first →
    retained c (with_first (with_cell σ σ.first (filled d ws)) (cell σ σ.first).next) ≡
    with_first (with_cell (retained c σ) σ.first (filled d ws)) (cell (retained c σ) σ.first).next
unfolding retained with_cell with_first cell
either_order d c ws σ other =
    ap₂ (λ (n : ℕ) (l : List Cell). record { totals = σ.totals; first = n; cells = l })
    (ap (λ (x : Cell). x.next)
    (sym (get_or-set_other σ.cells c σ.first (counted (cell σ c)) (clear 0) (λ e. other (sym e)))))
    (ap (λ (x : Cell). set (set σ.cells σ.first (filled d ws)) c (counted x))
    (get_or-set_other σ.cells σ.first c (filled d ws) (clear 0) other)
    ∙ set_comm σ.cells σ.first c (filled d ws) (counted (cell σ c)) (λ e. other (sym e)))
  where
    counted : Cell → Cell
    counted x = with_count x (one_more x.count)

pub retained_acquired : (d c : ℕ) (ws : List ℤ) (σ : Store) → c ≢ σ.first → has_free σ ≡ true →
    retained c (acquired d ws σ) ≡ acquired d ws (retained c σ)
retained_acquired d c ws σ other e =
    ap (retained c) (acquired_is d ws σ e) ∙ either_order d c ws σ other
    ∙ ap (λ (k : ℕ). with_first (with_cell (retained c σ) k (filled d ws)) (cell (retained c σ) k).next)
    (sym (retained_first c σ))
    ∙ sym (acquired_is d ws (retained c σ) (retained_free c σ ∙ e))
