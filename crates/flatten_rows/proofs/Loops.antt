-- Laws of a loop's line over the atoms of its parts and its tree.
use Rattle.prelude.specs.Kit.{ℕ, ◌≤◌, ◌+◌, ◌<◌, ◌-◌, suc, pred, arith, true, false, Bool, false≢true, ◌||◌, ◌≡◌, refl}
use Rattle.prelude.specs.Kit.{◌∙◌, sym, ap, subst, List, eqb, length, get_or, set, length-set, eqb-true}
use Rattle.semantics.specs.Kinds.{Loop, mapping, filtering, reducing, rewriting}
use Rattle.semantics.specs.Syntax.{Expr}
use Rattle.semantics.specs.Code as C
use Rattle.semantics.specs.Code.{Atom, Tree, line}
use Rattle.semantics.specs.Normal.{Meanings, numbered, meaning_names, normal}
use Rattle.semantics.specs.Annotate.{NameDepths, pass_depths, with_depths, loop_depth, tree_depths, line_depths}
use Rattle.plain_rows.specs.Plain.{Plain, meant, placed, atoms_at, packed_row, is_looping, line_of, loop_of, loop_size}
use Rattle.plain_rows.specs.Plain.{of_loop, note}
use Rattle.plain_rows.specs.Parts.{depth_in}
use Rattle.plain_rows.specs.Marks.{marks_of, marks, marked_all, extent}
use Rattle.plain_rows.specs.Stands.{StandsLine, line_with}
use Rattle.plain_rows.proofs.Rows.{of_size}
use Rattle.flatten_rows.specs.Laid.{laid, firsts, placed_all, place_depth, pass_places, loop_place, third_of}
use Rattle.flatten_rows.specs.Source.{laid_rows}
use Rattle.flatten_rows.specs.Shallow.{Shallow, ShallowLine, ShallowLoop}
use Rattle.flatten_rows.specs.Made.{State, Lays, Opens, Sets, RowsAgree, LinesAgree, Same, Sized, loop_line, Ready}
use Rattle.flatten_rows.specs.Made.{PassReady, TreeMade, Adds}
use Rattle.flatten_rows.specs.declared.Out.{Out}
use Rattle.flatten_rows.proofs.Laws.{some_size}
use Rattle.flatten_rows.proofs.Uses.{table_set}
use Rattle.flatten_rows.proofs.Stays.{same_less, same_then, same_lays, same_opens, same_sets, note_there}
use Rattle.flatten_rows.proofs.Stays.{agrees_back, agrees_from, marks_laid, line_back, no_end}
use Rattle.flatten_rows.proofs.Stays.{sized_lays, sized_opens, sized_sets}
use Rattle.flatten_rows.proofs.Trees.{place_atom, normal_ending}
use Rattle.flatten_rows.proofs.Adds.{stands_as, LineMade, adds_as, adds_line}
use Rattle.flatten_rows.proofs.Lists.{atoms_placed, placed_many, row_there, place_there, linked_there}

-- what holds of the kinds of a map, a filter and a reduce holds of each loop's kind
pub each_loop : (P : ℕ → Type 0) (kind : ℕ) → is_looping kind ≡ true → P 13 → P 19 → P 20 → P kind
each_loop P kind l m f r = go (eqb kind 13) refl (eqb kind 19) refl (eqb kind 20) refl l
  where
    go : (a : Bool) → eqb kind 13 ≡ a → (b : Bool) → eqb kind 19 ≡ b → (c : Bool) → eqb kind 20 ≡ c →
        (a || (b || c)) ≡ true → P kind
    go true e b g c i l = rw (eqb-true kind 13 e) m
    go false e true g c i l = rw (eqb-true kind 19 g) f
    go false e false g true i l = rw (eqb-true kind 20 i) r
    go false e false g false i l = absurd (false≢true l)

-- a loop's row, read back
module _ (kind : ℕ) (looping : is_looping kind ≡ true) where
  low_kind : kind < 256
  low_kind = each_loop (λ i. i < 256) kind looping (omega arith) (omega arith) (omega arith)

  loop_no_end : kind ≡ 16 → ⊥
  loop_no_end =
      each_loop (λ i. i ≡ 16 → ⊥) kind looping (λ e. omega arith) (λ e. omega arith) (λ e. omega arith)

  loop_reads : (F : Plain) (t : Tree) (p x y z v u : ℕ) → line_with F p t t (line_of kind x y z
      (placed F.operands v) (placed F.operands u))
      ≡ C.loop x (loop_of kind) (of_loop (loop_of kind) y z)
      (of_loop (loop_of kind) (meant (placed F.operands v)) (meant (placed F.operands u))) t
  unfolding line_with
  loop_reads F t p x y z v u = each_loop (λ i. line_with F p t t (line_of i x y z
      (placed F.operands v) (placed F.operands u))
      ≡ C.loop x (loop_of i) (of_loop (loop_of i) y z)
      (of_loop (loop_of i) (meant (placed F.operands v)) (meant (placed F.operands u))) t) kind looping refl refl
      refl

-- the names of a pass, its depths and the depth of the name that the loop binds
own_names : (k : Loop) (low high n : ℕ) → of_loop k (n + 1) (third_of k n) ≡ numbered (of_loop k low high) (n + 1)
own_names mapping low high n = refl
own_names filtering low high n = refl
own_names reducing low high n = let e : n + 2 ≡ suc (n + 1) = omega arith in rw e
own_names rewriting low high n = refl

own_atoms : (k : Loop) (w rows : List ℕ) (p : ℕ) →
    of_loop k (meant (placed w (get_or rows (p + 1) 0))) (meant (placed w (get_or rows (p + 2) 0)))
    ≡ atoms_at w rows (p + 1) (loop_size k)
unfolding atoms_at
own_atoms mapping w rows p = refl
own_atoms filtering w rows p = refl
own_atoms reducing w rows p = let e : p + 2 ≡ p + 1 + 1 = omega arith in rw e
own_atoms rewriting w rows p = refl

third_low : (k : Loop) (n : ℕ) → n + loop_size k < 256 → third_of k n < 256
third_low mapping n h = omega arith
third_low filtering n h = omega arith
third_low reducing n h = omega arith
third_low rewriting n h = omega arith

module _ (w ds vs : List ℕ) where
  abbrev us_of : Loop → List Atom
  us_of k = placed_all w (firsts vs 0 (loop_size k))

  passes_are : (k : Loop) → pass_places k ds (get_or vs 0 0) (get_or vs 1 0) ≡ pass_depths k (depth_in ds) (us_of k)
  unfolding firsts
  passes_are mapping = rw (place_atom w ds (get_or vs 0 0))
  passes_are filtering = rw (place_atom w ds (get_or vs 0 0))
  passes_are reducing = rw (place_atom w ds (get_or vs 0 0), place_atom w ds (get_or vs 1 0))
  passes_are rewriting = rw (place_atom w ds (get_or vs 0 0))

  loop_deep : (k : Loop) (t : ℕ) →
      loop_place k ds (get_or vs 0 0) t ≡ loop_depth k (depth_in ds) (us_of k) (meant (placed w t))
  unfolding firsts
  loop_deep mapping t = ap suc (place_atom w ds t)
  loop_deep filtering t = place_atom w ds (get_or vs 0 0)
  loop_deep reducing t = place_atom w ds (get_or vs 0 0)
  loop_deep rewriting t = ap suc (place_atom w ds t)

-- the depths of the names of a pass, as they are laid
depths_laid : (k : Loop) (ds : List ℕ) (n v u : ℕ) (es : List ℕ) → n + loop_size k < length es →
    depth_in (laid es (n + 1) (pass_places k ds v u))
    ≡ with_depths (of_loop k (n + 1) (third_of k n)) (pass_places k ds v u) (depth_in es)
unfolding laid
depths_laid mapping ds n v u es h = table_set es 0 (n + 1) (pred (place_depth ds v)) h
depths_laid filtering ds n v u es h = table_set es 0 (n + 1) (pred (place_depth ds v)) h
depths_laid reducing ds n v u es h =
    let e : n + 2 ≡ n + 1 + 1 = omega arith in
    rw e (table_set (set es (n + 1) (place_depth ds v)) 0 (n + 1 + 1) (pred (place_depth ds u))
    (omega (arith, length-set es (n + 1) (place_depth ds v)))
    ∙ rw (table_set es 0 (n + 1) (place_depth ds v) (omega arith)))
depths_laid rewriting ds n v u es h = table_set es 0 (n + 1) (pred (place_depth ds v)) h

same_loop : {x : ℕ} {k : Loop} {ps qs : List ℕ} {us ws : List Atom} {t : Tree} → ps ≡ qs → us ≡ ws →
    C.loop x k ps us t ≡ C.loop x k qs ws t
same_loop e f = cc

-- ---- the line

module _ (w : List ℕ) (res : ℕ → ℕ) (kind low high : ℕ) (vs : List ℕ) {μ : Meanings} {b : Expr}
    {X X₂ X₃ : State} {n q last : ℕ} (looping : is_looping kind ≡ true)
    (ready : PassReady res μ X (loop_of kind) low high (placed_all w (firsts vs 0 (loop_size (loop_of kind)))) b last n
    q)
    (l : Lays X X₂ q (packed_row kind n (n + 1) (third_of (loop_of kind) n)) (firsts vs 0 (loop_size (loop_of kind))))
    (o : Opens X₂ X₃ (q + 1 + loop_size (loop_of kind)) (n + 1)
    (pass_places (loop_of kind) X.depths (get_or vs 0 0) (get_or vs 1 0))) where
  abbrev k : Loop
  k = loop_of kind

  abbrev m : ℕ
  m = loop_size k

  abbrev us : List Atom
  us = placed_all w (firsts vs 0 m)

  abbrev own : List ℕ
  own = numbered (of_loop k low high) (n + 1)

  abbrev ν : Meanings
  ν = meaning_names (of_loop k low high) (n + 1) μ

  body : Tree
  body = normal b ν (n + 1 + m)

  the_line : C.Line
  the_line = C.loop n k own us body

  line_is : loop_line k low high μ n us b ≡ the_line
  unfolding the_line body
  line_is =
      let e : n + (1 + length (of_loop k low high)) ≡ n + 1 + m = omega (arith, of_size k low high) in
      rw e

  few : n + m < 256
  few = omega (arith, ready.names)

  inside : Sized X₃
  inside = sized_opens (sized_lays ready.sized l) o

  -- the depths before the tree
  opened : with_depths own (pass_depths k (depth_in X.depths) us) (depth_in X.depths) ≡ depth_in X₃.depths
  opened = sym (ap depth_in o.depths
      ∙ depths_laid k X.depths n (get_or vs 0 0) (get_or vs 1 0) X₂.depths
      (omega (arith, ap length l.depths, ready.sized.depths, few))
      ∙ rw (l.depths, own_names k low high n, passes_are w X.depths vs k))

  shallow_line : ShallowLine res the_line (depth_in X.depths)
  shallow_line = subst (λ (L : C.Line). ShallowLine res L (depth_in X.depths)) line_is ready.shallow

  pub loop_ready : Ready res ν X₃ b last (n + 1 + m) (q + 1 + m)
  unfolding the_line body normal
  loop_ready = record {
    sized = inside;
    nodes = ready.nodes;
    names = ready.names;
    rows = omega (arith, ready.rows);
    after = _;
    shallow = subst (λ (Γ : NameDepths). Shallow res body Γ) opened shallow_line.0;
  }

  -- its tree and its end
  module _ {X₄ : State} {d : ℕ} {rt : Out} (T : TreeMade w res b ν X₃ X₄ (n + 1 + m) (q + 1 + m) d last rt) where
    end_is : rt.after.p ≡ q + 1 + m + laid_rows b + 2
    end_is = T.reach

    inner_depths :
        tree_depths res body (with_depths own (pass_depths k (depth_in X.depths) us) (depth_in X.depths))
        ≡ depth_in X₄.depths
    unfolding body
    inner_depths = ap (tree_depths res body) opened ∙ T.depths

    -- what a map's tree gives is shallow
    given_shallow : (j : Loop) → ShallowLoop j (depth_in X₄.depths) (meant (placed w rt.place)) →
        (j ≡ mapping) → place_depth X₄.depths rt.place ≤ 3
    given_shallow j s e = omega (arith, place_atom w X₄.depths rt.place, rw e at s)

    pub loop_shallow : (kind ≡ 19 → ⊥) → (kind ≡ 20 → ⊥) → place_depth X₄.depths rt.place ≤ 3
    unfolding the_line body
    loop_shallow f g =
        given_shallow k
        (rw (inner_depths, normal_ending b ν (n + 1 + m), ← T.gives) at shallow_line.1)
        (each_loop (λ i. (i ≡ 19 → ⊥) → (i ≡ 20 → ⊥) → loop_of i ≡ mapping) kind looping (λ a b. refl)
        (λ a b. absurd (a refl)) (λ a b. absurd (b refl)) f g)

    module _ {Y : State} {v : ℕ} (s : Sets X₄ Y rt.after.p q n v)
        (ve : v ≡ loop_place k X₄.depths (get_or vs 0 0) rt.place) where
      short : q + 1 + m + laid_rows b + 2 ≤ 2040
      short = ready.rows

      held₄ : Same X₄ Y rt.after.p rt.after.p
      held₄ = same_sets rt.after.p s

      held₃ : Same X₃ Y (q + 1 + m) (q + 1 + m + 1)
      held₃ = same_then T.same
          (same_less (q + 1 + m) (q + 1 + m + 1) held₄ (omega (arith, end_is)) (omega (arith, end_is)))

      held₂ : Same X₂ Y (q + 1 + m) (q + 1 + m)
      held₂ = same_then (same_opens (q + 1 + m) o)
          (same_less (q + 1 + m) (q + 1 + m) held₃ (omega arith) (omega arith))

      held₁ : Same X Y q (q + 1)
      held₁ = same_then (same_lays l) (same_less q (q + 1) held₂ (omega arith) (omega arith))

      marks₃ : marks_of X₃.last ≡ marked_all us (q + 1) (marks_of X.last)
      marks₃ = ap marks_of o.last ∙ marks_laid l ready.sized w

      many : length us ≡ m
      many = placed_many w vs m

      module _ (F : Plain) (u : F.operands ≡ w) (g : LinesAgree Y F q rt.after.p) where
        to₂ : RowsAgree X₂ F q (q + 1 + m)
        to₂ = agrees_back (q + 1 + m) (q + 1 + m) g held₂ (omega (arith, end_is)) (omega (arith, end_is))

        to₄ : RowsAgree X₄ F (q + 1 + m) rt.after.p
        to₄ =
            agrees_from (q + 1 + m) (agrees_back rt.after.p rt.after.p g held₄ (omega arith) (omega arith))
            (omega arith)

        at_tree : note F.notes (q + 1 + m) ≡ q + 1 + m
        at_tree =
            g.notes (q + 1 + m) (omega arith) (omega (arith, end_is))
            ∙ held₃.notes (q + 1 + m) (omega arith)
            ∙ note_there X₂.notes X₃.notes (q + 1 + m) (q + 1 + m) o.notes
            (omega (arith, (sized_lays ready.sized l).notes, short))

        atoms_there : of_loop k (meant (placed F.operands (get_or F.rows (q + 1) 0)))
            (meant (placed F.operands (get_or F.rows (q + 2) 0)))
            ≡ us
        atoms_there =
            own_atoms k F.operands F.rows q
            ∙ rw u (atoms_placed w F.rows (q + 1) vs 0 m
            (place_there m vs l ready.sized (omega (arith, short)) F to₂))

        loop_there : (i : ℕ) → d + 1 ≤ i → StandsLine F i the_line q (marks_of X.last)
        unfolding the_line body
        loop_there i h = (
          (
            ap (line_with F q body body)
                (line_back F q kind n (n + 1) (third_of k n) (get_or F.rows (q + 1) 0) (low_kind kind looping)
                (omega (arith, few)) (omega (arith, few, some_size kind)) (third_low k n few)
                (row_there m vs l ready.sized (omega (arith, short)) F to₂) refl)
                ∙ loop_reads kind looping F body q n (n + 1) (third_of k n) (get_or F.rows (q + 1) 0)
                (get_or F.rows (q + 2) 0)
                ∙ same_loop (own_names k low high n) atoms_there,
            no_end F q kind n (n + 1) (third_of k n) (low_kind kind looping) (loop_no_end kind looping)
                (row_there m vs l ready.sized (omega (arith, short)) F to₂),
          ),
          linked_there m vs l ready.sized (omega (arith, short)) F to₂ w,
          omega arith,
          rw many (omega (arith, at_tree)),
          stands_as F (i - 1) body (T.stands F u to₄ (i - 1) (omega arith)) (omega (arith, many)) marks₃,
        )

      loop_depths : line_depths res the_line (depth_in X.depths) ≡ depth_in Y.depths
      unfolding tree_depths the_line body
      loop_depths =
          rw (
            inner_depths,
            normal_ending b ν (n + 1 + m),
            ← T.gives,
            ← loop_deep w X₄.depths vs k rt.place,
            ← ve,
          )
          (sym (ap depth_in s.depths ∙ table_set X₄.depths 0 n v (omega (arith, T.sized.depths, few))))

      loop_made : LineMade w res the_line X Y (d + 1) q rt.after.p
      unfolding the_line body extent marks
      loop_made = record {
        some = omega (arith, end_is);
        end_is = omega (arith, T.wide, end_is, many);
        sized = sized_sets T.sized s;
        keeps = held₁;
        marks_are = ap (λ (i : ℕ). marks body (q + 1 + i) (marked_all us (q + 1) (marks_of X.last))) many
            ∙ sym (ap marks_of s.last ∙ T.marks ∙ ap (marks body (q + 1 + m)) marks₃);
        back = note_there X₄.notes Y.notes rt.after.p q s.notes (omega (arith, T.sized.notes, end_is, short));
        stands_line = loop_there;
        depths_are = loop_depths;
      }

      pub loop_adds : Adds w res (line (loop_line k low high μ n us b)) X Y q rt.after.p (d + 1)
      loop_adds = adds_as (adds_line loop_made) (λ t. ap (λ (L : C.Line). line L t) (sym line_is))
