-- Laws of laying an if.
use Rattle.prelude.specs.Kit.{ℕ, ◌≤◌, ◌+◌, ◌-◌, arith, ◌≡◌, refl, ◌∙◌, sym, ap, List, [], ◌∷◌}
use Rattle.semantics.specs.Syntax as S
use Rattle.semantics.specs.Syntax.{Expr}
use Rattle.semantics.specs.Code as C
use Rattle.semantics.specs.Code.{Tree}
use Rattle.semantics.specs.Normal.{Meanings, fresh, atom, lines, normal}
use Rattle.semantics.specs.Annotate.{tree_depths, line_depths}
use Rattle.plain_rows.specs.Plain.{Plain, packed_row, note}
use Rattle.plain_rows.specs.Parts.{depth_in}
use Rattle.plain_rows.specs.Marks.{marks_of, marks, marked, extent}
use Rattle.plain_rows.specs.Stands.{StandsLine, line_with}
use Rattle.flatten_rows.specs.Laid.{place_depth}
use Rattle.flatten_rows.specs.Source.{laid_rows}
use Rattle.flatten_rows.specs.Made.{State, Lays, Sets, Splits, RowsAgree, LinesAgree, Same, Made, TreeMade, out}
use Rattle.flatten_rows.specs.declared.Out.{Out}
use Rattle.flatten_rows.proofs.Uses.{table_set}
use Rattle.flatten_rows.proofs.Stays.{same_less, same_then, same_lays, same_sets, same_splits}
use Rattle.flatten_rows.proofs.Stays.{split_first, split_second, note_there, agrees_back, agrees_from}
use Rattle.flatten_rows.proofs.Stays.{agrees_split}
use Rattle.flatten_rows.proofs.Stays.{line_back, no_end, sized_sets}
use Rattle.flatten_rows.proofs.Trees.{place_atom, name_placed, normal_ending}
use Rattle.flatten_rows.proofs.Adds.{stands_as, LineMade, adds_to, adds_then, adds_line}
use Rattle.flatten_rows.proofs.Heads.{head_marks, head_linked, head_row, head_atom, head_means}

same_if : {x y : ℕ} {a b : C.Atom} {t u e f : Tree} → x ≡ y → a ≡ b → t ≡ u → e ≡ f → C.if_else x a t e ≡ C.if_else
    y b u f
same_if g h i j = cc

-- over the file's operands and the results of the functions
module _ (w : List ℕ) (res : ℕ → ℕ) where
  module _ {g b c : Expr} {μ : Meanings} {X X₁ X₂ X₃ X₄ X₅ Y : State} {n p d₀ l₁ l₂ l₃ v : ℕ} {rg rt re : Out}
      (A : Made w res g μ X X₁ n p d₀ l₁ rg)
      (l : Lays X₁ X₂ rg.after.p (packed_row 12 rg.after.n 0 0) (rg.place ∷ []))
      (B₀ : TreeMade w res b μ X₂ X₃ (rg.after.n + 1) (rg.after.p + 2) d₀ l₂ rt)
      (m : Splits X₃ X₄ (rg.after.p + 2) rt.after.p)
      (C₀ : TreeMade w res c μ X₄ X₅ rt.after.n rt.after.p d₀ l₃ re)
      (s : Sets X₅ Y re.after.p rg.after.p rg.after.n v) (ve : v ≡ place_depth X₅.depths rt.place)
      (names : n + fresh (S.if_else g b c) ≤ 256) (room : p + laid_rows (S.if_else g b c) ≤ 2040) where
    B_is : TreeMade w res b μ X₂ X₃ (n + fresh g + 1) (rg.after.p + 2) d₀ l₂ rt
    B_is = rw A.count at B₀

    C_is : TreeMade w res c μ X₄ X₅ (n + fresh g + 1 + fresh b) rt.after.p d₀ l₃ re
    C_is = rw B_is.count at C₀

    own : Tree
    own = normal b μ (n + fresh g + 1)

    other : Tree
    other = normal c μ (n + fresh g + 1 + fresh b)

    few : n + fresh g + 1 + fresh b + fresh c ≤ 256
    unfolding fresh
    few = omega arith

    end_is : re.after.p ≡ p + laid_rows g + laid_rows b + laid_rows c + 6
    end_is = omega (arith, A.reach, B_is.reach, C_is.reach)

    short : p + laid_rows g + laid_rows b + laid_rows c + 6 ≤ 2040
    unfolding laid_rows
    short = omega arith

    middle_is : rt.after.p ≡ rg.after.p + 2 + extent own
    unfolding own
    middle_is = omega (arith, B_is.reach, B_is.wide)

    -- what each stage keeps
    keep₅ : Same X₅ Y re.after.p re.after.p
    keep₅ = same_sets re.after.p s

    keep₄ : Same X₄ Y rt.after.p (rt.after.p + 1)
    keep₄ = same_then C_is.same
        (same_less rt.after.p (rt.after.p + 1) keep₅ (omega (arith, C_is.reach)) (omega (arith, C_is.reach)))

    keep₃ : Same X₃ Y rt.after.p (rg.after.p + 2)
    keep₃ = same_then (same_splits rt.after.p m (omega (arith, B_is.reach)))
        (same_less rt.after.p (rg.after.p + 2) keep₄ (omega arith) (omega (arith, B_is.reach)))

    keep₂ : Same X₂ Y (rg.after.p + 2) (rg.after.p + 2)
    keep₂ = same_then (same_less (rg.after.p + 2) (rg.after.p + 2) B_is.same (omega arith) (omega arith))
        (same_less (rg.after.p + 2) (rg.after.p + 2) keep₃ (omega (arith, B_is.reach)) (omega arith))

    keep₁ : Same X₁ Y rg.after.p (rg.after.p + 1)
    keep₁ = same_then (same_lays l) (same_less rg.after.p (rg.after.p + 1) keep₂ (omega arith) (omega arith))

    if_line : C.Line
    if_line = C.if_else (n + fresh g) (atom g μ n) own other

    marks₄ : marks_of X₄.last ≡ marks own (rg.after.p + 2) (marked (atom g μ n) (rg.after.p + 1) (marks_of X₁.last))
    unfolding own
    marks₄ = ap marks_of m.last ∙ B_is.marks ∙ ap (marks own (rg.after.p + 2)) (head_marks A l)

    module _ (F : Plain) (u : F.operands ≡ w) (a : LinesAgree Y F rg.after.p re.after.p) where
      in₂ : RowsAgree X₂ F rg.after.p (rg.after.p + 2)
      in₂ = agrees_back (rg.after.p + 2) (rg.after.p + 2) a keep₂ (omega (arith, end_is, A.reach))
          (omega (arith, end_is, A.reach))

      in₃ : RowsAgree X₃ F (rg.after.p + 2) rt.after.p
      in₃ =
          agrees_split (agrees_from (rg.after.p + 2) (agrees_back rt.after.p rt.after.p a
          (same_less rt.after.p rt.after.p keep₄ (omega arith) (omega arith)) (omega (arith, C_is.reach))
          (omega (arith, C_is.reach))) (omega arith)) m

      in₅ : RowsAgree X₅ F rt.after.p re.after.p
      in₅ = agrees_from rt.after.p (agrees_back re.after.p re.after.p a keep₅ (omega arith) (omega arith))
          (omega (arith, B_is.reach))

      at_own : note F.notes (rg.after.p + 2) ≡ rt.after.p
      at_own =
          a.notes (rg.after.p + 2) (omega arith) (omega (arith, B_is.reach, C_is.reach))
          ∙ keep₄.notes (rg.after.p + 2) (omega (arith, B_is.reach))
          ∙ split_first m (omega (arith, B_is.reach)) (omega (arith, B_is.sized.notes, C_is.reach, end_is, short))

      at_other : note F.notes rt.after.p ≡ rt.after.p
      at_other =
          a.notes rt.after.p (omega (arith, B_is.reach)) (omega (arith, C_is.reach)) ∙ keep₄.notes rt.after.p (omega
          arith)
          ∙ split_second m (omega (arith, B_is.sized.notes, C_is.reach, end_is, short))

      if_there : (d : ℕ) → d₀ + 1 ≤ d → StandsLine F d if_line rg.after.p (marks_of X₁.last)
      unfolding if_line own other line_with
      if_there d h = (
        (
          ap (line_with F rg.after.p own other)
              (line_back F rg.after.p 12 rg.after.n 0 0 rg.place (omega arith) (omega (arith, A.count, few)) (omega
              arith) (omega arith) (head_row A l F u in₂ (omega (arith, end_is, short, A.reach)))
              (head_atom A l F u in₂ (omega (arith, end_is, short, A.reach))))
              ∙ same_if A.count (head_means A l F u in₂ (omega (arith, end_is, short, A.reach))) refl refl,
          no_end F rg.after.p 12 rg.after.n 0 0 (omega arith) (λ e. omega arith)
              (head_row A l F u in₂ (omega (arith, end_is, short, A.reach))),
        ),
        head_linked A l F u in₂ (omega (arith, end_is, short, A.reach)),
        omega arith,
        (at_own ∙ middle_is, omega (arith, middle_is, ap (note F.notes) (sym middle_is) ∙ at_other)),
        stands_as F (d - 1) own (B_is.stands F u in₃ (d - 1) (omega arith)) refl (head_marks A l),
        stands_as F (d - 1) other (C_is.stands F u in₅ (d - 1) (omega arith)) middle_is marks₄,
      )

    own_depths : tree_depths res own (depth_in X₁.depths) ≡ depth_in X₄.depths
    unfolding own
    own_depths =
        ap (λ (d : List ℕ). tree_depths res own (depth_in d)) (sym l.depths) ∙ B_is.depths
        ∙ ap depth_in (sym m.depths)

    if_depths : line_depths res if_line (depth_in X₁.depths) ≡ depth_in Y.depths
    unfolding tree_depths if_line own other
    if_depths =
        rw (
          own_depths,
          C_is.depths,
          normal_ending b μ (n + fresh g + 1),
          ← B_is.gives,
          ← place_atom w X₅.depths rt.place,
          ← ve,
          ← A.count,
        )
        (sym (ap depth_in s.depths ∙ table_set X₅.depths 0 rg.after.n v
        (omega (arith, C_is.sized.depths, A.count, few))))

    if_made : LineMade w res if_line X₁ Y (d₀ + 1) rg.after.p re.after.p
    unfolding if_line own other extent marks
    if_made = record {
      some = omega (arith, end_is, A.reach);
      end_is = omega (arith, B_is.wide, C_is.wide, B_is.reach, C_is.reach);
      sized = sized_sets C_is.sized s;
      keeps = keep₁;
      marks_are = sym (ap marks_of s.last ∙ C_is.marks
          ∙ ap (λ (i : ℕ). marks other i (marks_of X₄.last)) middle_is
          ∙ ap (marks other (rg.after.p + 2 + extent own)) marks₄);
      back = note_there X₅.notes Y.notes re.after.p rg.after.p s.notes
          (omega (arith, C_is.sized.notes, end_is, short));
      stands_line = if_there;
      depths_are = if_depths;
    }

    pub made_if : Made w res (S.if_else g b c) μ X Y n p (d₀ + 1) l₃
        (out rg.after.n re.after.node re.after.n re.after.p)
    unfolding fresh atom lines laid_rows normal if_line own other
    made_if = record {
      next = C_is.next;
      count = omega (arith, C_is.count);
      reach = omega (arith, end_is);
      gives = name_placed w rg.after.n (omega (arith, A.count, few)) ∙ ap C.name A.count;
      adds = adds_then (adds_to rg.after.p (d₀ + 1) A.adds refl (omega arith)) (adds_line if_made);
    }
