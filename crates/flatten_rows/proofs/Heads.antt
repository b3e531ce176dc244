-- The head of an if, read back from the rows that were laid.
use Rattle.prelude.specs.Kit.{ℕ, ◌≤◌, ◌+◌, arith, ◌≡◌, refl, ◌∙◌, ap, subst, List, [], ◌∷◌, get_or}
use Rattle.semantics.specs.Syntax.{Expr}
use Rattle.semantics.specs.Code as C
use Rattle.semantics.specs.Normal.{Meanings, atom}
use Rattle.plain_rows.specs.Plain.{Plain, meant, placed}
use Rattle.plain_rows.specs.Marks.{marks_of, marked, marked_all}
use Rattle.plain_rows.specs.Stands.{Linked}
use Rattle.flatten_rows.specs.Made.{State, Lays, RowsAgree, Made}
use Rattle.flatten_rows.specs.declared.Out.{Out}
use Rattle.flatten_rows.proofs.Stays.{marks_laid, row_laid, linked_laid}

-- its atom is linked, and its use is the last
module _ {w : List ℕ} {res : ℕ → ℕ} {e : Expr} {μ : Meanings} {X Y Z : State} {n p d₀ end : ℕ} {r : Out}
    {row : ℕ}
    (A : Made w res e μ X Y n p d₀ end r) (l : Lays Y Z r.after.p row (r.place ∷ [])) where
  pub head_marks : marks_of Z.last ≡ marked (atom e μ n) (r.after.p + 1) (marks_of Y.last)
  unfolding marked_all
  head_marks =
      marks_laid l A.adds.sized w ∙ ap (λ (b : C.Atom). marked b (r.after.p + 1) (marks_of Y.last)) A.gives

  module _ (F : Plain) (u : F.operands ≡ w) (a : RowsAgree Z F r.after.p (r.after.p + 2))
      (s : r.after.p + 2 ≤ 2040) where
    here : RowsAgree Z F r.after.p (r.after.p + 1 + 1)
    here = let f : r.after.p + 2 ≡ r.after.p + 1 + 1 = omega arith in rw f at a

    pub head_linked : Linked F (atom e μ n) (r.after.p + 1) (marks_of Y.last)
    head_linked =
        subst (λ (b : C.Atom). Linked F b (r.after.p + 1) (marks_of Y.last)) A.gives
        (linked_laid l A.adds.sized F here (omega arith) (omega arith) w).0

    pub head_row : get_or F.rows r.after.p 0 ≡ row
    head_row = row_laid l A.adds.sized F here (omega arith) (omega arith) 0 r.after.p (omega arith) (omega arith)

    pub head_atom : get_or F.rows (r.after.p + 1) 0 ≡ r.place
    head_atom = row_laid l A.adds.sized F here (omega arith) (omega arith) 1 (r.after.p + 1) refl (omega arith)

    pub head_means : meant (placed F.operands r.place) ≡ atom e μ n
    head_means = ap (λ (z : List ℕ). meant (placed z r.place)) u ∙ A.gives
