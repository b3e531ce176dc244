-- Laws of the descent, one for each of its functions: the room for each part, and what is made of all of them.
use Rattle.prelude.specs.Kit.{pos, ℕ, ◌≤◌, ◌+◌, ◌<◌, arith, ℕ_discrete, cond, ◌≡◌, refl, ◌∙◌, sym, ap, subst, fun_ext}
use Rattle.prelude.specs.Kit.{List, [], ◌∷◌, eqb, ℤ, length, get_or, set, length-set, get_or-set_other}
use Rattle.prelude.specs.Kit.{get_or-set_same, ne_eqb}
use Rattle.prelude.specs.Kit.{eq-eqb}
use Rattle.semantics.specs.Basics.{updated}
use Rattle.semantics.specs.Syntax as S
use Rattle.semantics.specs.Syntax.{Expr, size}
use Rattle.semantics.specs.Code as C
use Rattle.semantics.specs.Code.{Tree, end, line}
use Rattle.semantics.specs.Normal.{Meanings, fresh, atom, lines, normal}
use Rattle.semantics.specs.Annotate.{NameDepths, tree_depths}
use Rattle.plain_rows.specs.Plain.{meant, placed, packed_row}
use Rattle.plain_rows.specs.Parts.{depth_in}
use Rattle.script_read.specs.Told.{Parts}
use Rattle.flatten_rows.proofs.Nodes.{nowhere_placed}
use Rattle.flatten_rows.specs.Laid.{LineLaid, nowhere, meanings, place_depth}
use Rattle.flatten_rows.specs.Source.{let_from, if_from, two_after, three_after, laid_rows}
use Rattle.flatten_rows.specs.Shallow.{Shallow}
use Rattle.flatten_rows.specs.Made.{State, Lays, Splits, state, Sized, Given, Ready, Made, TreeMade, out}
use Rattle.flatten_rows.specs.Made.{AtomPlaced}
use Rattle.flatten_rows.specs.declared.Out.{Out}
use Rattle.flatten_rows.proofs.Stays.{sized_lays, sized_splits}
use Rattle.flatten_rows.proofs.Trees.{made_number, made_name, made_let, tree_made}
use Rattle.flatten_rows.proofs.Ifs.{made_if}

-- ---- the meanings of names

pub meanings_set : (w ps : List ℕ) (x v : ℕ) → x < length ps → meanings w (set ps x v) ≡ updated (meanings w ps) x
    (meant (placed w v))
unfolding updated
meanings_set w ps x v h = fun_ext (λ y. go y (ℕ_discrete x y))
  where
    go : (y : ℕ) → Dec (x ≡ y) → meant (placed w (get_or (set ps x v) y nowhere)) ≡ cond (eqb x y)
        (meant (placed w v)) (meant (placed w (get_or ps y nowhere)))
    go y (yes e) = rw (← e, eq-eqb x x refl) (ap (λ (i : ℕ). meant (placed w i)) (get_or-set_same ps x v nowhere h))
    go y (no f) = rw (ne_eqb x y f) (ap (λ (i : ℕ). meant (placed w i)) (get_or-set_other ps x y v nowhere
        (λ p. f (sym p))))

pub given_bound : {k w ps : List ℕ} (ps₁ : List ℕ) (x v : ℕ) → Given k w ps → ps₁ ≡ set ps x v → Given k w ps₁
given_bound {ps = ps} ps₁ x v g e = record { parts = g.parts; long = ap length e ∙ length-set ps x v ∙ g.long }

-- the table is as it was
pub given_same : {k w ps : List ℕ} (ps₁ : List ℕ) → Given k w ps → ps₁ ≡ ps → Given k w ps₁
given_same ps₁ g e = rw e g

-- ---- room

pub ready_as : {res : ℕ → ℕ} {μ : Meanings} {X : State} {e : Expr} {n p : ℕ} (e' : Expr) (at l : ℕ) →
    Ready res μ X e (at + size e) n p → e ≡ e' → l ≡ at + size e' → Ready res μ X e' l n p
ready_as {res} {μ} {X} {e} {n} {p} e' at l r q i = rw i (rw q at r)

pub ready_made : (w : List ℕ) (res : ℕ → ℕ) {e e' : Expr} {μ : Meanings} {X Y : State} {n p d l : ℕ} {r : Out}
    (d' at : ℕ) → e ≡ e' → d ≡ d' → l ≡ at + size e' →
    Made w res e' μ X Y n p d l r → Made w res e μ X Y n p d' (at + size e) r
ready_made w res d' at q i j m = rw (q, ← i, ← j) m

-- a number, or what stands for one
pub number_laid : (w : List ℕ) (res : ℕ → ℕ) {e : Expr} {μ : Meanings} {X : State} {n p : ℕ} (d at v : ℕ) (z : ℤ) →
    e ≡ S.number z → meant (placed w v) ≡ C.number z →
    Sized X → Made w res e μ X X n p d (at + size e) (out v (at + 1) n p)
unfolding size
number_laid w res {e} {μ} {X} {n} {p} d at v z q g s = rw q (made_number w res z μ X n p d (at + 1) v s g)

-- the place of no node, for the number 0
pub nowhere_laid : {k w : List ℕ} (res : ℕ → ℕ) {e : Expr} {μ : Meanings} {X : State} {n p : ℕ} (d at : ℕ) →
    Parts k w → e ≡ S.number (pos 0) → Sized X → Made w res e μ X X n p d (at + size e) (out nowhere (at + 1) n p)
nowhere_laid res d at s q =
    number_laid _ res d at nowhere (pos 0) q (nowhere_placed _ (omega (arith, s.few, s.whole)))

pub name_laid : (w : List ℕ) (res : ℕ → ℕ) {e : Expr} (ps : List ℕ) {X : State} {n p : ℕ} (d at v x : ℕ) → e ≡
    S.name x → v ≡ get_or ps x nowhere →
    Sized X → Made w res e (meanings w ps) X X n p d (at + size e) (out v (at + 1) n p)
unfolding size
name_laid w res {e} ps {X} {n} {p} d at v x q g s =
    rw q (made_name w res x (meanings w ps) X n p d (at + 1) v s (ap (λ (i : ℕ). meant (placed w i)) g))

-- an atom, by its place
pub atom_laid : (w : List ℕ) (res : ℕ → ℕ) (e : Expr) (ps : List ℕ) {X : State} {n p : ℕ} (d at v : ℕ) →
    AtomPlaced w ps e v → Sized X → Made w res e (meanings w ps) X X n p d (at + size e) (out v (at + 1) n p)
atom_laid w res (S.number z) ps d at v h s = number_laid w res d at v z refl h s
atom_laid w res (S.name x) ps d at v h s = name_laid w res ps d at v x refl h s
atom_laid w res (S.let_in x a b) ps d at v h s = absurd h
atom_laid w res (S.leaf l es) ps d at v h s = absurd h
atom_laid w res (S.if_else a b c) ps d at v h s = absurd h
atom_laid w res (S.loop k xs es b) ps d at v h s = absurd h

pub one_node : (e : Expr) → 1 ≤ size e
unfolding size
one_node (S.number z) = omega arith
one_node (S.name x) = omega arith
one_node (S.let_in x a b) = omega arith
one_node (S.leaf l es) = omega arith
one_node (S.if_else a b c) = omega arith
one_node (S.loop k xs es b) = omega arith

-- a tree for which there is room begins in the file
pub ready_inside : {res : ℕ → ℕ} {μ : Meanings} {X : State} {e : Expr} {at n p : ℕ} →
    Ready res μ X e (at + size e) n p → at < 1024
ready_inside {e = e} r = omega (arith, r.nodes, one_node e)

module _ (w : List ℕ) (res : ℕ → ℕ) (R : ℕ → Expr) where
  -- ---- a let

  module _ {at n p : ℕ} (x : ℕ) (ps : List ℕ) {X : State}
      (r : Ready res (meanings w ps) X (let_from R x at) (two_after R at) n p) where
    abbrev Second : Expr
    Second = R (at + size (R at))

    abbrev inner : Meanings
    inner = updated (meanings w ps) x (atom (R at) (meanings w ps) n)

    pub let_first : Ready res (meanings w ps) X (R at) (at + size (R at)) n p
    unfolding fresh laid_rows lines
    let_first = record {
      sized = r.sized;
      nodes = omega (arith, r.nodes);
      names = omega (arith, r.names);
      rows = omega (arith, r.rows);
      after = lines Second inner (n + fresh (R at)) r.after;
      shallow = r.shallow;
    }

    -- ps₁ is the table after the first part, the same as before it
    module _ {d : ℕ} {Y : State} {ra : Out} (ps₁ : List ℕ) (long : length ps ≡ 256) (low : x < 256) (e : ps₁ ≡ ps)
        (A : Made w res (R at) (meanings w ps) X Y n p d (at + size (R at)) ra) where
      abbrev bound : Meanings
      bound = meanings w (set ps₁ x ra.place)

      bound_is : bound ≡ updated (meanings w ps) x (meant (placed w ra.place))
      bound_is = rw e (meanings_set w ps x ra.place (omega arith))

      second_shallow : Shallow res (lines Second bound ra.after.n r.after) (depth_in Y.depths)
      unfolding lines
      second_shallow =
          rw (bound_is, A.gives, A.count)
          (A.adds.shallow (lines Second inner (n + fresh (R at)) r.after) r.shallow)

      pub let_second : Ready res bound Y (R ra.after.node) (ra.after.node + size (R ra.after.node)) ra.after.n
          ra.after.p
      unfolding fresh laid_rows
      let_second = rw A.next (record {
        sized = A.adds.sized;
        nodes = r.nodes;
        names = omega (arith, r.names, A.count);
        rows = omega (arith, r.rows, A.reach);
        after = r.after;
        shallow = second_shallow;
      })

      pub let_laid : {Z : State} {rb : Out} →
          Made w res (R ra.after.node) bound Y Z ra.after.n ra.after.p d (ra.after.node + size (R ra.after.node)) rb →
          Made w res (let_from R x at) (meanings w ps) X Z n p (d + 1) (two_after R at) rb
      let_laid B₀ = made_let w res bound x A bound_is (rw A.next at B₀)

  -- ---- an if

  module _ {at n p : ℕ} {μ : Meanings} {X : State} (r : Ready res μ X (if_from R at) (three_after R at) n p) where
    abbrev Own : Expr
    Own = R (at + size (R at))

    abbrev Other : Expr
    Other = R (two_after R at)

    own_tree : Tree
    own_tree = normal Own μ (n + fresh (R at) + 1)

    other_tree : Tree
    other_tree = normal Other μ (n + fresh (R at) + 1 + fresh Own)

    the_if : C.Line
    the_if = C.if_else (n + fresh (R at)) (atom (R at) μ n) own_tree other_tree

    if_shallow : Shallow res (lines (R at) μ n (line the_if r.after)) (depth_in X.depths)
    unfolding lines normal the_if own_tree other_tree
    if_shallow = r.shallow

    pub if_first : Ready res μ X (R at) (at + size (R at)) n p
    unfolding fresh laid_rows
    if_first = record {
      sized = r.sized;
      nodes = omega (arith, r.nodes);
      names = omega (arith, r.names);
      rows = omega (arith, r.rows);
      after = line the_if r.after;
      shallow = if_shallow;
    }

    module _ {d : ℕ} {k₁ n₁ d₁ l₁ : List ℕ} {rg : Out}
        (A : Made w res (R at) μ X (state k₁ n₁ d₁ l₁) n p d (at + size (R at)) rg) where
      pub if_place : (rg.after.n < 256) × (rg.after.p + 6 ≤ 2040)
      unfolding fresh laid_rows
      if_place = (omega (arith, r.names, A.count), omega (arith, r.rows, A.reach))

      -- its trees are shallow
      trees_shallow : Shallow res own_tree (depth_in d₁)
          × Shallow res other_tree (tree_depths res own_tree (depth_in d₁))
      unfolding the_if
      trees_shallow = (A.adds.shallow (line the_if r.after) if_shallow).0

      module _ {k₂ n₂ l₂ : List ℕ}
          (l : LineLaid k₁ n₁ l₁ k₂ n₂ l₂ rg.after.p (packed_row 12 rg.after.n 0 0) (rg.place ∷ [])) where
        if_head : Lays (state k₁ n₁ d₁ l₁) (state k₂ n₂ d₁ l₂) rg.after.p (packed_row 12 rg.after.n 0 0) (rg.place ∷ [])
        if_head = record { line = l; depths = refl }

        pub if_own : Ready res μ (state k₂ n₂ d₁ l₂) (R rg.after.node) (rg.after.node + size (R rg.after.node))
            (rg.after.n + 1)
            (rg.after.p + 2)
        unfolding fresh laid_rows normal own_tree
        if_own = rw (A.next, A.count) (record {
          sized = sized_lays A.adds.sized if_head;
          nodes = omega (arith, r.nodes);
          names = omega (arith, r.names);
          rows = omega (arith, r.rows, A.reach);
          after = end (atom Own μ (n + fresh (R at) + 1));
          shallow = trees_shallow.0;
        })

        module _ {k₃ n₃ d₃ l₃ : List ℕ} {rt : Out}
            (B₀ : TreeMade w res (R rg.after.node) μ (state k₂ n₂ d₁ l₂) (state k₃ n₃ d₃ l₃) (rg.after.n + 1)
            (rg.after.p + 2) d
            (rg.after.node + size (R rg.after.node)) rt) where
          B_there : TreeMade w res Own μ (state k₂ n₂ d₁ l₂) (state k₃ n₃ d₃ l₃) (rg.after.n + 1) (rg.after.p + 2) d
              (two_after R at) rt
          B_there = rw A.next at B₀

          pub if_middle : rt.after.p ≤ 2040
          unfolding laid_rows
          if_middle = omega (arith, r.rows, A.reach, B_there.reach)

          own_depths : tree_depths res own_tree (depth_in d₁) ≡ depth_in d₃
          unfolding own_tree
          own_depths = (rw A.count at B_there).depths

          module _ {n₄ : List ℕ} (m : n₄ ≡ set (set n₃ (rg.after.p + 2) rt.after.p) rt.after.p rt.after.p) where
            if_split : Splits (state k₃ n₃ d₃ l₃) (state k₃ n₄ d₃ l₃) (rg.after.p + 2) rt.after.p
            if_split = record { rows = refl; notes = m; last = refl; depths = refl }

            pub if_other : Ready res μ (state k₃ n₄ d₃ l₃) (R rt.after.node) (rt.after.node + size (R rt.after.node))
                rt.after.n
                rt.after.p
            unfolding fresh laid_rows normal other_tree
            if_other = rw (B_there.next, B_there.count, A.count) (record {
              sized = sized_splits B_there.sized if_split;
              nodes = r.nodes;
              names = omega (arith, r.names);
              rows = omega (arith, r.rows, A.reach, B_there.reach);
              after = end (atom Other μ (n + fresh (R at) + 1 + fresh Own));
              shallow = subst (λ (Γ : NameDepths). Shallow res other_tree Γ) own_depths trees_shallow.1;
            })

            module _ {k₅ n₅ d₅ l₅ : List ℕ} {re : Out}
                (C₀ : TreeMade w res (R rt.after.node) μ (state k₃ n₄ d₃ l₃) (state k₅ n₅ d₅ l₅) rt.after.n rt.after.p d
                (rt.after.node + size (R rt.after.node)) re) where
              C_there : TreeMade w res Other μ (state k₃ n₄ d₃ l₃) (state k₅ n₅ d₅ l₅) rt.after.n rt.after.p d
                  (three_after R at) re
              C_there = rw B_there.next at C₀

              pub if_end : re.after.p ≤ 2040
              unfolding laid_rows
              if_end = omega (arith, r.rows, A.reach, B_there.reach, C_there.reach)

              pub if_laid : {n₆ d₆ : List ℕ} (v : ℕ) → v ≡ place_depth d₅ rt.place →
                  n₆ ≡ set n₅ re.after.p rg.after.p → d₆ ≡ set d₅ rg.after.n v →
                  Made w res (if_from R at) μ X (state k₅ n₆ d₆ l₅) n p (d + 1) (three_after R at)
                  (out rg.after.n re.after.node re.after.n re.after.p)
              if_laid v ve e f =
                  made_if w res A if_head B_there if_split C_there
                  (record { rows = refl; notes = e; last = refl; depths = f }) ve r.names r.rows

  -- ---- a tree of its own
  pub tree_laid : {e : Expr} {μ : Meanings} {X : State} {k n d l k₁ n₁ l₁ : List ℕ} {x p d₀ last : ℕ} {r : Out} →
      Made w res e μ X (state k n d l) x p d₀ last r →
      LineLaid k n l k₁ n₁ l₁ r.after.p (packed_row 16 0 0 0) (r.place ∷ []) → r.after.p ≤ 2040 →
      TreeMade w res e μ X (state k₁ n₁ d l₁) x p d₀ last (out r.place r.after.node r.after.n (r.after.p + 2))
  tree_laid A l s = tree_made w res A (record { line = l; depths = refl }) s
