-- Tables of borrowed parameters: their shape and their entries.
use Rattle.prelude.specs.Kit.{ℕ, ◌<◌, arith, dec_lt, true, false, Bool, ◌&&◌, not, false≢true, ◌≡◌, ◌∙◌, sym, ap, List}
use Rattle.prelude.specs.Kit.{[], eqb, length, get_or, get_or-eq_default}
use Rattle.laws.specs.Lists.{tabulate_length, tabulate_at}
use Rattle.semantics.specs.Basics.{tabulate}
use Rattle.semantics.specs.Kinds.{Borrowing}
use Rattle.semantics.specs.Syntax.{Script, function_at}
use Rattle.semantics.specs.Normal.{normal_body}
use Rattle.semantics.specs.Borrow.{spent, Table, borrows, all_borrowed, reworked}

-- every entry of the first is in the second
abbrev pub Within : Borrowing → Borrowing → Type 0
Within U W = (f i : ℕ) → U f i ≡ true → W f i ≡ true

-- thirty-two rows of eight entries
pub record Shaped (T : Table) : Type 0 where
  pub rows : length T ≡ 32
  pub columns : (f : ℕ) → f < 32 → length (get_or T f []) ≡ 8

-- ---- the entries of a table

pub entry_small : (T : Table) → Shaped T → (f i : ℕ) → borrows T f i ≡ true → (f < 32) × (i < 8)
entry_small T s f i e = elim (dec_lt f 32) [
  | yes p ↦ elim (dec_lt i 8) [
    | yes q ↦ (p, q)
    | no q ↦ absurd (false≢true (sym (get_or-eq_default (get_or T f []) false (omega (arith, s.columns f p))) ∙ e))
  ]
  | no p ↦ absurd (false≢true (sym (ap (λ (r : List Bool). get_or r i false)
      (get_or-eq_default T [] (omega (arith, s.rows)))) ∙ e))
]

-- the table of some entries
abbrev pub tabled : Borrowing → Table
tabled U = tabulate 0 32 (λ f. tabulate 0 8 (U f))

row_at : (U : Borrowing) (f : ℕ) → f < 32 → get_or (tabled U) f [] ≡ tabulate 0 8 (U f)
row_at U f p = tabulate_at 32 0 (λ k. tabulate 0 8 (U k)) f [] p ∙ ap (λ (k : ℕ). tabulate 0 8 (U k)) (omega arith)

pub entry_at : (U : Borrowing) (f i : ℕ) → f < 32 → i < 8 → borrows (tabled U) f i ≡ U f i
entry_at U f i p q =
    ap (λ (r : List Bool). get_or r i false) (row_at U f p) ∙ tabulate_at 8 0 (U f) i false q ∙ ap (U f) (omega arith)

pub tabled_shaped : (U : Borrowing) → Shaped (tabled U)
tabled_shaped U = record {
  rows = tabulate_length 32 0 (λ f. tabulate 0 8 (U f));
  columns = λ f p. ap (λ (r : List Bool). length r) (row_at U f p) ∙ tabulate_length 8 0 (U f);
}

-- ---- the table at the start

pub all_shaped : Shaped all_borrowed
unfolding all_borrowed
all_shaped = tabled_shaped (λ f i. true)

pub all_at : (f i : ℕ) → f < 32 → i < 8 → borrows all_borrowed f i ≡ true
unfolding all_borrowed
all_at f i p q = entry_at (λ f i. true) f i p q

-- ---- one round

pub reworked_shaped : (fs : Script) (T : Table) → Shaped (reworked fs T)
unfolding reworked
reworked_shaped fs T =
    tabled_shaped (λ f i. borrows T f i && (not (eqb f 0) && not (spent (borrows T) (normal_body (function_at fs f)) i)))
