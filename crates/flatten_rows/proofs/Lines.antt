-- Laws of a leaf's line over the atoms of its parts.
use Rattle.prelude.specs.Kit.{ℕ, ◌≤◌, ◌+◌, arith, ◌≡◌, refl, ◌∙◌, sym, ap, subst, List, length, get_or, set}
use Rattle.semantics.specs.Syntax.{Expr, leaf, sizes}
use Rattle.semantics.specs.Code as C
use Rattle.semantics.specs.Code.{end}
use Rattle.semantics.specs.Normal.{Meanings, fresh, fresh_all, atom, atoms, lines}
use Rattle.semantics.specs.Annotate.{tree_depths, line_depths}
use Rattle.plain_rows.specs.Plain.{Plain, packed_row}
use Rattle.plain_rows.specs.Parts.{depth_in}
use Rattle.plain_rows.specs.Marks.{marks_of, marks, marked_all, extent}
use Rattle.plain_rows.specs.Stands.{StandsLine, LinkedAll, line_with}
use Rattle.flatten_rows.specs.Laid.{firsts, line_depth}
use Rattle.flatten_rows.specs.Source.{several, leaf_by, laid_rows}
use Rattle.flatten_rows.specs.Made.{State, Lays, Sets, LinesAgree, RowsAgree, Counted, Made, out}
use Rattle.flatten_rows.proofs.Uses.{table_set}
use Rattle.flatten_rows.proofs.Stays.{same_less, same_then, same_lays, same_sets, agrees_back}
use Rattle.flatten_rows.proofs.Stays.{note_there, marks_laid, line_back, no_end, sized_lays, sized_sets}
use Rattle.flatten_rows.proofs.Trees.{name_placed}
use Rattle.flatten_rows.proofs.Adds.{LineMade, adds_to, adds_then, adds_line}
use Rattle.flatten_rows.proofs.Leaves.{Shaped, shaped}
use Rattle.flatten_rows.proofs.Lists.{Listing, node_is, x_is, q_is, atoms_are, parts_added, atoms_placed, placed_many}
use Rattle.flatten_rows.proofs.Lists.{row_there, place_there, linked_there}

module _ (results : List ℕ) {w : List ℕ} {R : ℕ → Expr} {m at : ℕ} {μ : Meanings} {X Y Z W : State} {n p d₀ : ℕ}
    {vs : List ℕ} {i a x q v : ℕ}
    (kind y : ℕ) (P : Listing w (λ f. get_or results f 0) R m at μ X Y n p d₀ vs i a x q) (ie : m ≤ i)
    (c : Counted kind y m) (l : Lays Y Z q (packed_row kind x y m) (firsts vs 0 m)) (s : Sets Z W (q + 1 + m) q x v)
    (ve : v ≡ line_depth results Y.depths kind y (get_or vs 0 0) (get_or vs 1 0))
    (names : n + fresh (leaf (leaf_by kind y) (several R m at)) ≤ 256)
    (room : p + laid_rows (leaf (leaf_by kind y) (several R m at)) ≤ 2040) where
  abbrev the_leaf : Expr
  the_leaf = leaf (leaf_by kind y) (several R m at)

  shape : Shaped kind y m
  shape = shaped y kind m c

  few : x + 1 ≤ 256
  unfolding fresh
  few = omega (arith, x_is P ie)

  short : q + 1 + m ≤ 2040
  unfolding laid_rows
  short = omega (arith, q_is P ie)

  the_line : C.Line
  the_line = C.leaf (n + fresh_all (several R m at)) (leaf_by kind y) (atoms (several R m at) μ n)

  -- the line is read back from its rows, and its atoms are linked
  line_there : (F : Plain) → F.operands ≡ w → LinesAgree W F q (q + 1 + m) → (d : ℕ) →
      StandsLine F d the_line q (marks_of Y.last)
  unfolding the_line
  line_there F u g d =
      let here : RowsAgree Z F q (q + 1 + m) =
      agrees_back (q + 1 + m) (q + 1 + m) g (same_sets (q + 1 + m) s) (omega arith) (omega arith) in (
        (
          ap (line_with F q (end (C.name 0)) (end (C.name 0)))
              (line_back F q kind x y m (get_or F.rows (q + 1) 0) shape.low (omega (arith, few))
              (omega (arith, c.second)) (omega (arith, c.parts)) (row_there m vs l P.adds.sized short F here)
              refl)
              ∙ shape.reads F (end (C.name 0)) (end (C.name 0)) q x
              ∙ rw (u, x_is P ie, atoms_are P ie) (ap (C.leaf x (leaf_by kind y))
              (atoms_placed w F.rows (q + 1) vs 0 m (place_there m vs l P.adds.sized short F here))),
          no_end F q kind x y m shape.low shape.no_end (row_there m vs l P.adds.sized short F here),
        ),
        subst (λ (us : List C.Atom). LinkedAll F us (q + 1) (marks_of Y.last)) (sym (atoms_are P ie))
            (linked_there m vs l P.adds.sized short F here w),
      )

  line_deep : line_depths (λ f. get_or results f 0) the_line (depth_in Y.depths) ≡ depth_in W.depths
  unfolding the_line tree_depths
  line_deep =
      rw (x_is P ie, atoms_are P ie, shape.deep w results Y.depths vs, ← ve)
      (sym (ap depth_in s.depths ∙ ap (λ (d : List ℕ). depth_in (set d x v)) l.depths
      ∙ table_set Y.depths 0 x v (omega (arith, P.adds.sized.depths, few))))

  line_made : LineMade w (λ f. get_or results f 0) the_line Y W (d₀ + 1) q (q + 1 + m)
  unfolding the_line extent marks
  line_made = record {
    some = omega arith;
    end_is = omega (arith, ap length (atoms_are P ie) ∙ placed_many w vs m);
    sized = sized_sets (sized_lays P.adds.sized l) s;
    keeps = same_then (same_lays l) (same_less q (q + 1) (same_sets q s) (omega arith) (omega arith));
    marks_are = ap (λ (us : List C.Atom). marked_all us (q + 1) (marks_of Y.last)) (atoms_are P ie)
        ∙ sym (ap marks_of s.last ∙ marks_laid l P.adds.sized w);
    back = note_there Z.notes W.notes (q + 1 + m) q s.notes
        (omega (arith, (sized_lays P.adds.sized l).notes, short));
    stands_line = λ F u g d h. line_there F u g d;
    depths_are = line_deep;
  }

  pub made_leaf : Made w (λ f. get_or results f 0) the_leaf μ X W n p (d₀ + 1) (at + sizes (several R m at))
      (out x a (x + 1) (q + 1 + m))
  unfolding fresh laid_rows atom lines the_line
  made_leaf = record {
    next = sym (node_is P ie);
    count = omega (arith, x_is P ie);
    reach = omega (arith, q_is P ie);
    gives = name_placed w x (omega (arith, few)) ∙ ap C.name (sym (x_is P ie));
    adds = adds_then (adds_to q (d₀ + 1) (parts_added P ie) refl (omega arith)) (adds_line line_made);
  }
