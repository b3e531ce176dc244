-- What the walk comes to: of a tree by its lines, of a leaf's line and of an end.
use Rattle.std.specs.Prelude.{ℕ, ◌≤◌, ◌+◌, ◌<◌, ◌-◌, suc, zero, ◌≡◌, refl, List, [], ◌∷◌, ◌++◌}
use Rattle.prelude.specs.Kit.{arith, ℕ_discrete, ◌∙◌, ap, subst, fun_ext, lt-ltb, le-ltb}
use Rattle.semantics.specs.Basics.{updated}
use Rattle.semantics.specs.Kinds.{Leaf, Borrowing}
use Rattle.semantics.specs.Code as C
use Rattle.semantics.specs.Code.{Tree, end, line, Row, rows}
use Rattle.semantics.specs.Live.{Set, among, live, live_before}
use Rattle.semantics.specs.Annotate.{NameDepths, full_style, annotate, annotate_line}
use Rattle.laws.specs.Updates.{updated_same, updated_other}
use Rattle.plain_rows.specs.Plain.{Plain, line_at, note}
use Rattle.plain_rows.specs.Marks.{Marks, marked, marked_all, extent, line_extent, marks, line_marks}
use Rattle.plain_rows.specs.Stands.{line_with, LineAt, Begins, Linked, LinkedAll, Stands, StandsLine}
use Rattle.plain_rows.specs.Walk.{unmarked, unmarked_all, Point, point, leaf_walk, if_walk, loop_walk, line_walk}
use Rattle.plain_rows.specs.Walk.{back_walk, end_walk, tree_walk}
use Rattle.plain_rows.specs.declared.Line.{Line}
use Rattle.plain_rows.specs.declared.Line.TheVariants as L
use Rattle.annotate_laws.specs.Rows.{leaf_rows, end_rows}

pub same_point : {A B : Set} {M N : Marks} {rs qs : List Row} → A ≡ B → M ≡ N → rs ≡ qs → point A M rs ≡ point B N qs
same_point a m r = λ i. point (a i) (m i) (r i)

-- ---- following a link takes the mark back

module _ (F : Plain) where
  back_one : (a : C.Atom) (r : ℕ) (M : Marks) → Linked F a r M → unmarked F.notes r a (marked a r M) ≡ M
  unfolding marked
  back_one (C.number z) r M h = refl
  back_one (C.name x) r M h = fun_ext (λ y. go y (ℕ_discrete x y))
    where
      go : (y : ℕ) → Dec (x ≡ y) → updated (updated M x r) x (note F.notes r) y ≡ M y
      go y (yes e) = rw (← e) (updated_same (updated M x r) x (note F.notes r) ∙ h)
      go y (no f) = updated_other (updated M x r) x (note F.notes r) y f ∙ updated_other M x r y f

  pub back_all : (us : List C.Atom) (r : ℕ) (M : Marks) → LinkedAll F us r M →
      unmarked_all F.notes r us (marked_all us r M) ≡ M
  unfolding unmarked_all marked_all
  back_all [] r M h = refl
  back_all (a ∷ us) r M h =
      ap (unmarked F.notes r a) (back_all us (r + 1) (marked a r M) h.1) ∙ back_one a r M h.0

-- ---- how many lines stand in a tree, those of its own trees left out

unfoldable pub spine : Tree → ℕ
spine (end a) = 0
spine (line l t) = suc (spine t)

pub line_some : (l : C.Line) → 1 ≤ line_extent l
unfolding extent
line_some (C.leaf x l us) = omega arith
line_some (C.if_else x g t e) = omega arith
line_some (C.loop x k ps us t) = omega arith
line_some (C.retain x) = omega arith
line_some (C.release x) = omega arith

spine_few : (t : Tree) → spine t + 2 ≤ extent t
unfolding spine extent
spine_few (end a) = omega arith
spine_few (line l t) = omega (arith, spine_few t, line_some l)

module _ (F : Plain) (B : Borrowing) (Γ : NameDepths) where
  -- ---- what is claimed

  -- of the tree t from row p on, with d levels
  abbrev pub TreeRight : ℕ → Tree → ℕ → Marks → Type 0
  TreeRight d t p M = (e : ℕ) → e ≡ p + extent t - 2 → (L : Set) (rs : List Row) →
      tree_walk F B Γ d e (point L (marks t p M) rs) ≡ point (live t L) M (rows (annotate full_style B Γ t L) ++ rs)

  -- of its lines, from the last to the first
  abbrev pub BackRight : ℕ → Tree → ℕ → Marks → Type 0
  BackRight d t p M = (e f : ℕ) → e ≡ p + extent t - 2 → (L : Set) (rs : List Row) →
      back_walk F B Γ (tree_walk F B Γ d) (f + spine t) e (end_walk F B Γ e (point L (marks t p M) rs))
      ≡ back_walk F B Γ (tree_walk F B Γ d) f p (point (live t L) M (rows (annotate full_style B Γ t L) ++ rs))

  -- of a line before the tree k
  abbrev pub LineRight : ℕ → C.Line → ℕ → Marks → Type 0
  LineRight d l p M = (A : Set) (k : Tree) (rs : List Row) →
      line_walk F B Γ (tree_walk F B Γ d) p (p + line_extent l) (line_at F.operands F.rows p)
      (point A (line_marks l p M) (rows k ++ rs))
      ≡ point (live_before l A) M (rows (annotate_line full_style B Γ l A k) ++ rs)

  -- ---- a tree by its lines

  module _ (W : ℕ → Point → Point) where
    back_stops : (f p : ℕ) (P : Point) → Begins F p → back_walk F B Γ W f p P ≡ P
    unfolding back_walk
    back_stops zero p P h = refl
    back_stops (suc f) p P h = rw (le-ltb (note F.notes p) p h)

    pub back_goes : (f q p : ℕ) (P : Point) → note F.notes q ≡ p → p < q →
        back_walk F B Γ W (suc f) q P
        ≡ back_walk F B Γ W f p (line_walk F B Γ W p q (line_at F.operands F.rows p) P)
    unfolding back_walk
    back_goes f q p P e h = rw (e, lt-ltb p q h)

  -- a tree that begins at row p: its lines are walked and no others
  pub tree_from : (d : ℕ) (t : Tree) (p : ℕ) (M : Marks) → Begins F p → extent t ≤ 4096 → BackRight d t p M →
      TreeRight (suc d) t p M
  unfolding tree_walk
  tree_from d t p M h g b e q L rs =
      ap (λ (n : ℕ). back_walk F B Γ (tree_walk F B Γ d) n e (end_walk F B Γ e (point L (marks t p M) rs)))
      (let i : 4096 ≡ 4096 - spine t + spine t = omega (arith, spine_few t) in i)
      ∙ b e (4096 - spine t) q L rs
      ∙ back_stops (tree_walk F B Γ d) (4096 - spine t) p _ h

  pub at_level : (d : ℕ) (t : Tree) (p : ℕ) (M : Marks) → 0 < d → TreeRight (suc (d - 1)) t p M → TreeRight d t p M
  at_level d t p M h r =
      let e : suc (d - 1) ≡ d = omega arith in
      subst (λ (n : ℕ). TreeRight n t p M) e r

  pub end_right : (d : ℕ) (a : C.Atom) (p : ℕ) (M : Marks) → Stands F d (end a) p M → BackRight d (end a) p M
  unfolding spine end_walk marks extent live among marked_all
  end_right d a p M s e f q L rs =
      let i : f + 0 ≡ f = omega arith in
      let j : e ≡ p = omega arith in
      rw (i, j, s.0.0)
      (ap (back_walk F B Γ (tree_walk F B Γ d) f p)
      (same_point refl (back_all F (a ∷ []) (p + 1) M (s.1, tt)) (end_rows B Γ a L rs)))

  -- ---- lines

  module _ (W : ℕ → Point → Point) where
    -- the walk of a line that stands from p to before q
    unfoldable pub walk_over : ℕ → ℕ → C.Line → Point → Point
    walk_over p q (C.leaf x l us) P = leaf_walk F B Γ p x l us P
    walk_over p q (C.if_else x g t e) P = if_walk F B Γ W p q x g P
    walk_over p q (C.loop x k ps us t) P = loop_walk F B Γ W p q x k ps us P
    walk_over p q (C.retain x) P = P
    walk_over p q (C.release x) P = P

    -- each row's line is walked as the line of code that it stands for
    walks_over : (p q : ℕ) (t e : Tree) (l : Line) (P : Point) →
        line_walk F B Γ W p q l P ≡ walk_over p q (line_with F p t e l) P
    unfolding line_walk line_with walk_over
    walks_over p q t e (L.Unary x kind a) P = refl
    walks_over p q t e (L.Binary x kind a b) P = refl
    walks_over p q t e (L.Call x f m) P = refl
    walks_over p q t e (L.Literal x d m) P = refl
    walks_over p q t e (L.If x g) P = refl
    walks_over p q t e (L.Loop x kind y z a b) P = refl

    -- where the rows from p on are those of a line, the walk there is that line's
    pub at_line : (p q : ℕ) (t e : Tree) (l : C.Line) (P : Point) → LineAt F p t e l →
        line_walk F B Γ W p q (line_at F.operands F.rows p) P ≡ walk_over p q l P
    at_line p q t e l P h =
        walks_over p q t e (line_at F.operands F.rows p) P ∙ ap (λ (m : C.Line). walk_over p q m P) h.0

  pub leaf_right : (d x : ℕ) (l : Leaf) (us : List C.Atom) (p : ℕ) (M : Marks) → StandsLine F d (C.leaf x l us) p M →
      LineRight d (C.leaf x l us) p M
  unfolding walk_over leaf_walk marks live
  leaf_right d x l us p M s A k rs =
      at_line _ p _ _ _ (C.leaf x l us) _ s.0
      ∙ same_point refl (back_all F us (p + 1) M s.1) (leaf_rows B Γ x l us A k rs)
