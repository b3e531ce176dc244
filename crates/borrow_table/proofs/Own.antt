-- The own rows of a line of plain code, without its trees': as many as its kind's atoms, and one.
use Rattle.prelude.specs.Kit.{ℕ, ◌+◌, suc, zero, ◌%◌, ◌/◌, ℕ_discrete, false, ◌≡◌, refl, ap, List, eqb, length, get_or}
use Rattle.prelude.specs.Kit.{ne_eqb}
use Rattle.semantics.specs.Code as C
use Rattle.semantics.specs.Code.{Tree}
use Rattle.plain_rows.specs.Plain.{Plain, atoms_at, line_at}
use Rattle.plain_rows.specs.Stands.{line_with}
use Rattle.borrow_table.specs.Scan.{atoms_after}

pub atoms_many : (w rows : List ℕ) (at m : ℕ) → length (atoms_at w rows at m) ≡ m
unfolding atoms_at
atoms_many w rows at zero = refl
atoms_many w rows at (suc m) = ap suc (atoms_many w rows (at + 1) m)

abbrev pub own_extent : C.Line → ℕ
own_extent (C.leaf x l us) = 1 + length us
own_extent (C.if_else x g t e) = 2
own_extent (C.loop x k ps us t) = 1 + length us
own_extent (C.retain x) = 1
own_extent (C.release x) = 1

-- a kind is this one or another
pub by_kind : (P : Type 0) (kind k : ℕ) → (kind ≡ k → P) → (eqb kind k ≡ false → P) → P
by_kind P kind k f g = elim (ℕ_discrete kind k) [
  | yes e ↦ f e
  | no d ↦ g (ne_eqb kind k d)
]

-- what holds of the lines of each kind
pub each_kind : (P : Type 0) (kind : ℕ) → (kind ≡ 8 → P) → (kind ≡ 9 → P) → (kind ≡ 11 → P) → (kind ≡ 12 → P) →
    (kind ≡ 13 → P) → (kind ≡ 17 → P) → (kind ≡ 19 → P) → (kind ≡ 20 → P) →
    (eqb kind 8 ≡ false → eqb kind 9 ≡ false → eqb kind 11 ≡ false → eqb kind 12 ≡ false → eqb kind 13 ≡ false →
    eqb kind 17 ≡ false → eqb kind 19 ≡ false → eqb kind 20 ≡ false → P) → P
each_kind P kind f₈ f₉ f₁₁ f₁₂ f₁₃ f₁₇ f₁₉ f₂₀ other =
    by_kind P kind 8 f₈ (λ a. by_kind P kind 9 f₉ (λ b. by_kind P kind 11 f₁₁ (λ c. by_kind P kind 12 f₁₂ (λ d.
    by_kind P kind 13 f₁₃ (λ e. by_kind P kind 17 f₁₇ (λ f. by_kind P kind 19 f₁₉ (λ g. by_kind P kind 20 f₂₀ (λ h.
    other a b c d e f g h))))))))

module _ (F : Plain) (p : ℕ) (t e : Tree) where
  abbrev row : ℕ
  row = get_or F.rows p 0

  abbrev here : C.Line
  here = line_with F p t e (line_at F.operands F.rows p)

  many : 1 + length (atoms_at F.operands F.rows (p + 1) (row / 16777216 % 256)) ≡ 1 + row / 16777216 % 256
  many = ap (λ (k : ℕ). 1 + k) (atoms_many F.operands F.rows (p + 1) (row / 16777216 % 256))

  pub own_long : eqb (row % 256) 16 ≡ false → own_extent here ≡ 1 + atoms_after row
  unfolding line_at line_with
  own_long no_end =
      each_kind (own_extent here ≡ 1 + atoms_after row) (row % 256) (λ h. rw h many) (λ h. rw h many) (λ h. rw h)
      (λ h. rw h) (λ h. rw h) (λ h. rw h) (λ h. rw h) (λ h. rw h)
      (λ a b c d f g h j. rw (a, b, c, d, f, no_end, g, h, j))
