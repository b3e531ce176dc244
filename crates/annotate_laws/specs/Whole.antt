-- Where a tree stands in plain code, the walk comes to what is live before it, to the last uses before it, and to the
-- rows of the annotated tree.
use Rattle.std.specs.Prelude.{ℕ, ◌≤◌, ◌+◌, ◌-◌, suc, ◌≡◌, refl, List, [], ◌∷◌, ◌++◌, length}
use Rattle.prelude.specs.Kit.{arith, ◌∙◌, ap, lt-ltb}
use Rattle.semantics.specs.Kinds.{Loop, mapping, filtering, reducing, rewriting}
use Rattle.semantics.specs.Kinds.{loop_hands, loop_reads, element_name, Borrowing}
use Rattle.semantics.specs.Code as C
use Rattle.semantics.specs.Code.{Tree, end, line, Row, row, atom_row, rows}
use Rattle.semantics.specs.Code.{retain_all, release_all}
use Rattle.semantics.specs.Syntax.{Function}
use Rattle.semantics.specs.Normal.{normal_body}
use Rattle.semantics.specs.Live.{Set, empty, only, just, among, ◌∪◌, ◌∖◌, ◌∖∖◌, live, uses, after_pass}
use Rattle.semantics.specs.Annotate.{NameDepths, arrays, dying, handed_again}
use Rattle.semantics.specs.Annotate.{full_style, written, annotate, annotate_line}
use Rattle.plain_rows.specs.Plain.{Plain, note}
use Rattle.plain_rows.specs.Parts.{below, retain_rows, release_rows, loop_own, pass_opening, loop_closing, written_as}
use Rattle.plain_rows.specs.Marks.{Marks, marked, marked_all, extent, line_extent, marks, line_marks}
use Rattle.plain_rows.specs.Stands.{LineAt, Linked, LinkedAll, Stands, StandsLine}
use Rattle.plain_rows.specs.Walk.{since, then_end, Point, point, then_walk, if_head, if_trees}
use Rattle.plain_rows.specs.Walk.{if_walk, loop_head, loop_tree, loop_walk, back_walk, end_walk, tree_walk}
use Rattle.annotate_laws.specs.Uses.{binds}
use Rattle.annotate_laws.specs.Marks.{Low, low_atom, low_atoms, low_line, low_tree}
use Rattle.annotate_laws.specs.Outer.{Inner, Nested, NestedLine, branch_releases, branch_uses, pass_uses}
use Rattle.annotate_laws.specs.Outer.{hands_live, reads_below, loop_releases}
use Rattle.annotate_laws.specs.Numbered.{body_nested}
use Rattle.annotate_laws.specs.Rows.{if_shape, loop_shape}
use Rattle.annotate_laws.specs.Right.{same_point, back_all, spine, line_some, TreeRight, BackRight, LineRight}
use Rattle.annotate_laws.specs.Right.{back_goes, tree_from, at_level, end_right, walk_over, at_line, leaf_right}

module _ (F : Plain) (B : Borrowing) (Γ : NameDepths) where
  -- ---- an if

  module _ (d x : ℕ) (g : C.Atom) (t e : Tree) (p : ℕ) (M : Marks) (h : LineAt F p t e (C.if_else x g t e))
      (n : Linked F g (p + 1) M) (second : note F.notes (p + 2) ≡ p + 2 + extent t)
      (i : Inner x (uses t) (binds t)) (j : Inner x (uses e) (binds e)) (low : Low M p)
      (room : p + 2 + extent t ≤ 4096)
      (rt : TreeRight F B Γ d t (p + 2) (marked g (p + 1) M))
      (re : TreeRight F B Γ d e (p + 2 + extent t) (marks t (p + 2) (marked g (p + 1) M))) where
    -- the note at the first tree's first row says where that tree ends
    then_end_is : then_end F.notes p ≡ p + 2 + extent t - 2
    unfolding then_end
    then_end_is = rw (second, lt-ltb (p + 2 + extent t) 4098 (omega arith))

    -- the first tree, and the releases that open the second
    then_right : (L : Set) (rs : List Row) →
        then_walk F B Γ (tree_walk F B Γ d) p x L (point (live e L) (marks t (p + 2) (marked g (p + 1) M)) rs)
        ≡ point (live t L) (marked g (p + 1) M)
        (rows (annotate full_style B Γ t L) ++ (release_rows (dying Γ (uses t) (live e L)) ++ rs))
    unfolding then_walk
    then_right L rs =
        ap (λ (U : Set). tree_walk F B Γ d (then_end F.notes p) (point L (marks t (p + 2) (marked g (p + 1) M))
        (release_rows (dying Γ U (live e L)) ++ rs)))
        (branch_uses x t (p + 2) (low_atom g p low) i)
        ∙ rt (then_end F.notes p) then_end_is L (release_rows (dying Γ (uses t) (live e L)) ++ rs)

    -- the releases that open the first tree, and the if's own rows
    if_rows : (A : Set) (k : Tree) (rs : List Row) →
        (row 12 x ∷ (atom_row g ∷ []))
        ++ (release_rows (dying Γ (below x (live e (A ∖ x))) (live t (A ∖ x)))
        ++ (rows (annotate full_style B Γ t (A ∖ x)) ++ (release_rows (dying Γ (uses t) (live e (A ∖ x)))
        ++ (rows (annotate full_style B Γ e (A ∖ x)) ++ (release_rows (dying Γ (only x) A) ++ (rows k ++ rs))))))
        ≡ rows (annotate_line full_style B Γ (C.if_else x g t e) A k) ++ rs
    unfolding annotate
    if_rows A k rs =
        let L = A ∖ x in
        if_shape x g (dying Γ (below x (live e L)) (live t L)) (dying Γ (uses t) (live e L)) (dying Γ (only x) A)
        (annotate full_style B Γ t L) (annotate full_style B Γ e L) k rs
        ∙ ap (λ (ts : List ℕ). rows (line (C.if_else x g (release_all ts (annotate full_style B Γ t L))
        (release_all (dying Γ (uses t) (live e L)) (annotate full_style B Γ e L))) (release_all (dying Γ (only
        x) A) k)) ++ rs)
        (branch_releases Γ x t e L i j)

    pub if_right : LineRight F B Γ d (C.if_else x g t e) p M
    unfolding walk_over if_walk if_trees marks extent live among marked_all
    if_right A k rs =
        let W = tree_walk F B Γ d in
        let after = rows (annotate full_style B Γ e (A ∖ x)) ++ (release_rows (dying Γ (only x) A) ++ (rows k ++ rs)) in
        at_line F B Γ W p _ t e (C.if_else x g t e) _ h
        ∙ ap (λ (E : Point). if_head F B Γ W p x g E (then_walk F B Γ W p x (A ∖ x) E))
        (re (p + (2 + extent t + extent e) - 2) (omega arith) (A ∖ x) (release_rows (dying Γ (only x) A) ++ (rows k
        ++ rs)))
        ∙ ap (if_head F B Γ W p x g (point (live e (A ∖ x)) (marks t (p + 2) (marked g (p + 1) M)) after))
        (then_right (A ∖ x) after)
        ∙ same_point refl (back_all F (g ∷ []) (p + 1) M (n, tt)) (if_rows A k rs)

  -- ---- a loop

  -- the loop that is written, by the outer names that its tree uses
  written_is : (i : Loop) (x : ℕ) (ps : List ℕ) (us : List C.Atom) (t : Tree) (A : Set) →
      written_as Γ x i us (uses t ∖∖ ps) A ≡ written full_style B Γ i x ps us t A
  written_is mapping x ps [] t A = refl
  written_is mapping x ps (C.number z ∷ us) t A = refl
  written_is mapping x ps (C.name y ∷ us) t A = refl
  written_is filtering x ps us t A = refl
  written_is reducing x ps us t A = refl
  written_is rewriting x ps us t A = refl

  module _ (d x : ℕ) (i : Loop) (ps : List ℕ) (us : List C.Atom) (t : Tree) (p : ℕ) (M : Marks)
      (h : LineAt F p t t (C.loop x i ps us t)) (n : LinkedAll F us (p + 1) M)
      (inner : Inner x (among us empty ∪ uses t ∖∖ ps) (just ps ∪ binds t)) (low : Low M p)
      (rt : TreeRight F B Γ d t (p + 1 + length us) (marked_all us (p + 1) M)) where
    -- the rows of last uses tell the outer names that the tree uses
    outer_is : below x (since (p + 1 + length us) (marks t (p + 1 + length us) (marked_all us (p + 1) M)))
        ≡ uses t ∖∖ ps
    outer_is = pass_uses x ps us t (p + 1 + length us) (low_atoms us p low) inner

    -- the loop's own rows and its tree's, before some others
    loop_rows_are : (A : Set) (k : Tree) (rs : List Row) →
        let j = written full_style B Γ i x ps us t A in
        let L = after_pass x ps t A in
        retain_rows (handed_again Γ (loop_hands j us) (among (loop_reads j us) L))
        ++ (loop_own x j ps us ++ (pass_opening Γ j ps (live t L)
        ++ (rows (annotate full_style B Γ t L) ++ (loop_closing Γ x j us (uses t ∖∖ ps) A ++ (rows k ++ rs)))))
        ≡ rows (annotate_line full_style B Γ (C.loop x i ps us t) A k) ++ rs
    unfolding annotate
    loop_rows_are A k rs =
        let j = written full_style B Γ i x ps us t A in
        let L = after_pass x ps t A in
        let R = among (loop_reads j us) (uses t ∖∖ ps) in
        let hs = handed_again Γ (loop_hands j us) (among (loop_reads j us) L) in
        let ds = dying Γ (just ps) (live t L) in
        loop_shape x j ps us hs (arrays Γ (element_name j ps)) ds (dying Γ (below x R) A) (dying Γ (only x) A)
        (annotate full_style B Γ t L) k rs
        ∙ (λ e. rows (retain_all (hands_live Γ x j us (uses t ∖∖ ps) A _ inner e) (line (C.loop x j ps us
        (retain_all (arrays Γ (element_name j ps)) (release_all ds (annotate full_style B Γ t L))))
        (release_all (loop_releases Γ x R A (reads_below x j ps us t inner) e) k))) ++ rs)

    pub loop_right : LineRight F B Γ d (C.loop x i ps us t) p M
    unfolding walk_over loop_walk loop_tree marks extent live
    loop_right A k rs =
        let W = tree_walk F B Γ d in
        let q = p + (1 + length us + extent t) in
        let j = written full_style B Γ i x ps us t A in
        let L = after_pass x ps t A in
        let N = marks t (p + 1 + length us) (marked_all us (p + 1) M) in
        at_line F B Γ W p _ t t (C.loop x i ps us t) _ h
        ∙ ap (λ (O : Set). loop_head F B Γ W p x (written_as Γ x i us O A) ps us (O ∪ A ∖ x)
        (W (q - 2) (point (O ∪ A ∖ x) N
        (loop_closing Γ x (written_as Γ x i us O A) us O A ++ (rows k ++ rs))))) outer_is
        ∙ ap (λ (l : Loop). loop_head F B Γ W p x l ps us L
        (W (q - 2) (point L N (loop_closing Γ x l us (uses t ∖∖ ps) A ++ (rows k ++ rs))))) (written_is i x ps us t A)
        ∙ ap (loop_head F B Γ W p x j ps us L) (rt (q - 2) (omega arith) L
        (loop_closing Γ x j us (uses t ∖∖ ps) A ++ (rows k ++ rs)))
        ∙ same_point refl (back_all F us (p + 1) M n) (loop_rows_are A k rs)

  -- ---- the theorem

  mutual
    unfolding spine extent marks live annotate

    -- the lines of a tree that stands from row p on
    back_right : (t : Tree) (d p : ℕ) (M : Marks) → Stands F d t p M → Nested t → Low M p → p + extent t ≤ 4096 →
        BackRight F B Γ d t p M
    back_right (end a) d p M s n low h = end_right F B Γ d a p M s
    back_right (line l t) d p M s n low h = λ e f q L rs.
        ap (λ (m : ℕ). back_walk F B Γ (tree_walk F B Γ d) m e (end_walk F B Γ e
        (point L (marks t (p + line_extent l) (line_marks l p M)) rs)))
        (let i : f + suc (spine t) ≡ suc f + spine t = omega arith in i)
        ∙ back_right t d (p + line_extent l) (line_marks l p M) s.2 n.1 (low_line l p low) (omega arith)
        e (suc f) (omega arith) L rs
        ∙ back_goes F B Γ (tree_walk F B Γ d) f (p + line_extent l) p _ s.1 (omega (arith, line_some l))
        ∙ ap (back_walk F B Γ (tree_walk F B Γ d) f p)
        (line_right l d p M s.0 n.0 low (omega arith) (live t L) (annotate full_style B Γ t L) rs)

    -- a line that stands from row p on
    line_right : (l : C.Line) (d p : ℕ) (M : Marks) → StandsLine F d l p M → NestedLine l → Low M p →
        p + line_extent l ≤ 4096 → LineRight F B Γ d l p M
    line_right (C.leaf x l us) d p M s n low h = leaf_right F B Γ d x l us p M s
    line_right (C.if_else x g t e) d p M s n low h =
        if_right d x g t e p M s.0 s.1 s.3.0 n.0.0 n.1.0 low (omega arith)
        (at_level F B Γ d t (p + 2) (marked g (p + 1) M) s.2
        (tree_from F B Γ (d - 1) t (p + 2) (marked g (p + 1) M) (omega (arith, s.3.0)) (omega arith)
        (back_right t (d - 1) (p + 2) (marked g (p + 1) M) s.4 n.0.1 (low_atom g p low) (omega arith))))
        (at_level F B Γ d e (p + 2 + extent t) (marks t (p + 2) (marked g (p + 1) M)) s.2
        (tree_from F B Γ (d - 1) e (p + 2 + extent t) (marks t (p + 2) (marked g (p + 1) M)) s.3.1 (omega arith)
        (back_right e (d - 1) (p + 2 + extent t) (marks t (p + 2) (marked g (p + 1) M)) s.5 n.1.1
        (low_tree t (p + 2) (low_atom g p low)) (omega arith))))
    line_right (C.loop x k ps us t) d p M s n low h =
        loop_right d x k ps us t p M s.0 s.1 n.0 low
        (at_level F B Γ d t (p + 1 + length us) (marked_all us (p + 1) M) s.2
        (tree_from F B Γ (d - 1) t (p + 1 + length us) (marked_all us (p + 1) M) s.3 (omega arith)
        (back_right t (d - 1) (p + 1 + length us) (marked_all us (p + 1) M) s.4 n.1 (low_atoms us p low)
        (omega arith))))
    line_right (C.retain x) d p M s n low h = absurd s
    line_right (C.release x) d p M s n low h = absurd s

  -- The walk of a function's body that stands from row 0 on: no name was used before it.
  pub body_walk : (g : Function) (d : ℕ) → Stands F d (normal_body g) 0 (λ _. 0) → extent (normal_body g) ≤ 4096 →
      (L : Set) (rs : List Row) →
      tree_walk F B Γ (suc d) (extent (normal_body g) - 2) (point L (marks (normal_body g) 0 (λ _. 0)) rs)
      ≡ point (live (normal_body g) L) (λ _. 0) (rows (annotate full_style B Γ (normal_body g) L) ++ rs)
  body_walk g d s h L rs =
      tree_from F B Γ d (normal_body g) 0 (λ _. 0) (omega arith) h
      (back_right (normal_body g) d 0 (λ _. 0) s (body_nested g) (record { at = λ y. omega arith }) (omega arith))
      (extent (normal_body g) - 2) (omega arith) L rs
