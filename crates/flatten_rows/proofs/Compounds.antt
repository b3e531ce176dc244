-- Laws of a leaf and a loop in the descent: the room for their parts, and what is made of them.
use Rattle.prelude.specs.Kit.{ℕ, ◌≤◌, ◌+◌, ◌<◌, arith, true, false, Bool, ◌≡◌, refl, ◌∙◌, sym, ap, subst, List, length}
use Rattle.prelude.specs.Kit.{get_or, set}
use Rattle.semantics.specs.Kinds.{Leaf, Loop}
use Rattle.semantics.specs.Syntax.{Expr, Exprs, leaf, loop, size, sizes}
use Rattle.semantics.specs.Code as C
use Rattle.semantics.specs.Code.{Atom, Tree, line}
use Rattle.semantics.specs.Normal.{Meanings, fresh, fresh_all, atom, atoms, numbered, meaning_names, lines, all_lines}
use Rattle.semantics.specs.Normal.{normal}
use Rattle.semantics.specs.File.{part_count}
use Rattle.plain_rows.specs.Plain.{packed_row, is_looping, loop_of, loop_size, of_loop}
use Rattle.plain_rows.specs.Parts.{depth_in}
use Rattle.plain_rows.proofs.Rows.{size_few, of_size}
use Rattle.flatten_rows.specs.Laid.{noted, LineLaid, firsts, placed_all, place_depth, line_depth}
use Rattle.flatten_rows.specs.Source.{several, second_part, leaf_by, parts_before, compound, laid_rows}
use Rattle.flatten_rows.specs.Source.{laid_all}
use Rattle.flatten_rows.specs.Shallow.{Shallow}
use Rattle.flatten_rows.specs.Made.{State, state, Lays, Sized, Compounded, loop_line, Ready, PassReady}
use Rattle.flatten_rows.specs.Made.{Adds, Made, out}
use Rattle.flatten_rows.proofs.Trees.{name_placed}
use Rattle.flatten_rows.proofs.Adds.{adds_as, adds_to, adds_then}
use Rattle.flatten_rows.proofs.Leaves.{shallow_value}
use Rattle.flatten_rows.proofs.Lists.{Listing, listing_ready, node_is, x_is, q_is, atoms_are, parts_added}
use Rattle.flatten_rows.proofs.Lines.{made_leaf}
use Rattle.flatten_rows.proofs.Members.{ready_made}

-- ---- the parts

-- there is room for m parts from node `at` on and for a line after them, and they are shallow before some tree
pub record PartsReady (res : ℕ → ℕ) (μ : Meanings) (R : ℕ → Expr) (X : State) (m at n p : ℕ) : Type 0 where
  pub sized : Sized X
  pub nodes : at + sizes (several R m at) ≤ 1024
  pub names : n + fresh_all (several R m at) < 256
  pub rows : p + laid_all (several R m at) < 2040
  pub after : Tree
  pub shallow : Shallow res (all_lines (several R m at) μ n after) (depth_in X.depths)

module _ {res : ℕ → ℕ} {μ : Meanings} (R : ℕ → Expr) {X : State} (node : ℕ) {n p : ℕ} where
  leaf_parts : (l : Leaf) (m : ℕ) →
      Ready res μ X (leaf l (several R m (node + 1))) (node + size (leaf l (several R m (node + 1)))) n p →
      PartsReady res μ R X m (node + 1) n p
  unfolding size fresh laid_rows lines
  leaf_parts l m r =
      let es = several R m (node + 1) in
      record {
        sized = r.sized;
        nodes = omega (arith, r.nodes);
        names = omega (arith, r.names);
        rows = omega (arith, r.rows);
        after = line (C.leaf (n + fresh_all es) l (atoms es μ n)) r.after;
        shallow = r.shallow;
      }

  loop_parts : (k : Loop) (xs : List ℕ) (m : ℕ) (b : Expr) →
      Ready res μ X (loop k xs (several R m (node + 1)) b) (node + size (loop k xs (several R m (node + 1)) b)) n p →
      PartsReady res μ R X m (node + 1) n p
  unfolding size fresh laid_rows lines normal
  loop_parts k xs m b r =
      let es = several R m (node + 1) in
      let x = n + fresh_all es in
      record {
        sized = r.sized;
        nodes = omega (arith, r.nodes);
        names = omega (arith, r.names);
        rows = omega (arith, r.rows);
        after = line (C.loop x k (numbered xs (x + 1)) (atoms es μ n)
            (normal b (meaning_names xs (x + 1) μ) (x + (1 + length xs)))) r.after;
        shallow = r.shallow;
      }

  pub parts_ready : (kind low high : ℕ) →
      Ready res μ X (compound R kind low high (node + 1)) (node + size (compound R kind low high (node + 1))) n p →
      PartsReady res μ R X (parts_before kind low high) (node + 1) n p
  parts_ready kind low high r = go (is_looping kind) refl
    where
      go : (b : Bool) → is_looping kind ≡ b → PartsReady res μ R X (parts_before kind low high) (node + 1) n p
      go true f =
          rw f (loop_parts (loop_of kind) (of_loop (loop_of kind) low high) (loop_size (loop_of kind)) _ (rw f at r))
      go false f = rw f (leaf_parts (leaf_by kind (second_part kind low high)) (part_count kind low high) (rw f at r))

-- there are 16 parts at most
pub parts_few : (kind low high : ℕ) → Compounded kind low high → parts_before kind low high ≤ 16
parts_few kind low high c = go (is_looping kind) refl
  where
    go : (b : Bool) → is_looping kind ≡ b → parts_before kind low high ≤ 16
    go true f = rw f (omega (arith, size_few (loop_of kind)))
    go false f = rw f (c.leaf f).parts

pub part_ready : {w : List ℕ} {res : ℕ → ℕ} {μ : Meanings} {R : ℕ → Expr} {X Y : State} {m at n p d : ℕ} {vs : List ℕ}
    {i a x q : ℕ} → PartsReady res μ R X m at n p → Listing w res R m at μ X Y n p d vs i a x q → i < m →
    Ready res μ Y (R a) (a + size (R a)) x q
part_ready s L h =
    listing_ready L h s.after s.shallow s.nodes (omega (arith, s.names)) (omega (arith, s.rows))

-- ---- what is made of them

-- all parts are laid
module _ (w results : List ℕ) (R : ℕ → Expr) (node kind low high : ℕ) {μ : Meanings} {X Y : State} {n p d : ℕ}
    {vs : List ℕ} {i a x q : ℕ}
    (r : Ready (λ f. get_or results f 0) μ X (compound R kind low high (node + 1))
    (node + size (compound R kind low high (node + 1))) n p)
    (P : Listing w (λ f. get_or results f 0) R (parts_before kind low high) (node + 1) μ X Y n p d vs i a x q)
    (ie : parts_before kind low high ≤ i) where
  abbrev res : ℕ → ℕ
  res = λ f. get_or results f 0

  abbrev whole : Expr
  whole = compound R kind low high (node + 1)

  -- ---- a leaf
  module _ (f : is_looping kind ≡ false) (c : Compounded kind low high) where
    abbrev m : ℕ
    m = part_count kind low high

    abbrev y : ℕ
    y = second_part kind low high

    abbrev the_leaf : Expr
    the_leaf = leaf (leaf_by kind y) (several R m (node + 1))

    is_leaf : whole ≡ the_leaf
    is_leaf = rw f

    P₁ : Listing w res R m (node + 1) μ X Y n p d vs i a x q
    P₁ = rw f at P

    ie₁ : m ≤ i
    ie₁ = rw f at ie

    r₁ : Ready res μ X the_leaf (node + size the_leaf) n p
    r₁ = rw f at r

    leaf_shallow : Shallow res (all_lines (several R m (node + 1)) μ n
        (line (C.leaf (n + fresh_all (several R m (node + 1))) (leaf_by kind y) (atoms (several R m (node + 1)) μ n))
        r₁.after)) (depth_in X.depths)
    unfolding lines
    leaf_shallow = r₁.shallow

    pub leaf_ready : ((x < 256) × (q + 1 + m < 2048))
        × ((m ≤ 16) × ((y < 32) × (kind ≡ 18 → place_depth Y.depths (get_or vs 1 0) ≤ 3)))
    unfolding fresh laid_rows
    leaf_ready = (
      (omega (arith, r₁.names, x_is P₁ ie₁), omega (arith, r₁.rows, q_is P₁ ie₁)),
      (
        (c.leaf f).parts,
        (
          (c.leaf f).second,
          shallow_value y w Y.depths vs kind m (c.leaf f)
              (rw (atoms_are P₁ ie₁) at ((parts_added P₁ ie₁).shallow _ leaf_shallow).0),
        ),
      ),
    )

    pub leaf_laid : {rows₁ notes₁ depths₁ last₁ : List ℕ} →
        notes₁ ≡ set (noted Y.notes Y.last (q + 1) (firsts vs 0 m)) (q + 1 + m) q →
        LineLaid Y.rows Y.notes Y.last rows₁ (noted Y.notes Y.last (q + 1) (firsts vs 0 m)) last₁ q
        (packed_row kind x y m) (firsts vs 0 m) →
        depths₁ ≡ set Y.depths x (line_depth results Y.depths kind y (get_or vs 0 0) (get_or vs 1 0)) →
        Made w res whole μ X (state rows₁ notes₁ depths₁ last₁) n p (d + 1) (node + size whole)
        (out x a (x + 1) (q + 1 + m))
    unfolding size
    leaf_laid {rows₁} {last₁ = last₁} e l g =
        let head = noted Y.notes Y.last (q + 1) (firsts vs 0 m) in
        let lays : Lays Y (state rows₁ head Y.depths last₁) q (packed_row kind x y m) (firsts vs 0 m) =
        record { line = l; depths = refl } in
        ready_made w res (d + 1) node is_leaf refl (omega arith)
        (made_leaf results kind y P₁ ie₁ (c.leaf f) lays
        (record { rows = refl; notes = e; last = refl; depths = g }) refl r₁.names r₁.rows)

  -- ---- a loop
  module _ (f : is_looping kind ≡ true) where
    abbrev k : Loop
    k = loop_of kind

    abbrev j : ℕ
    j = loop_size k

    abbrev es₂ : Exprs
    es₂ = several R j (node + 1)

    abbrev us : List Atom
    us = placed_all w (firsts vs 0 j)

    abbrev the_loop : Expr
    the_loop = loop k (of_loop k low high) es₂ (R a)

    P₂ : Listing w res R j (node + 1) μ X Y n p d vs i a x q
    P₂ = rw f at P

    ie₂ : j ≤ i
    ie₂ = rw f at ie

    is_loop : whole ≡ the_loop
    is_loop = rw f (ap (λ (z : ℕ). loop k (of_loop k low high) es₂ (R z)) (node_is P₂ ie₂))

    r₂ : Ready res μ X the_loop (node + size the_loop) n p
    r₂ = rw is_loop at r

    -- the lines of the parts, and then its own
    line_last : (t : Tree) → lines the_loop μ n t
        ≡ all_lines es₂ μ n (line (loop_line k low high μ (n + fresh_all es₂) (atoms es₂ μ n) (R a)) t)
    unfolding lines normal
    line_last t = refl

    as_lines : (t : Tree) → all_lines es₂ μ n (line (loop_line k low high μ x us (R a)) t) ≡ lines the_loop μ n t
    as_lines t =
        sym (line_last t ∙ ap (λ (z : ℕ). all_lines es₂ μ n (line (loop_line k low high μ z (atoms es₂ μ n) (R a)) t))
        (x_is P₂ ie₂) ∙ ap (λ (vs : List Atom). all_lines es₂ μ n (line (loop_line k low high μ x vs (R a)) t))
        (atoms_are P₂ ie₂))

    loop_shallow : Shallow res (all_lines es₂ μ n (line (loop_line k low high μ x us (R a)) r₂.after))
        (depth_in X.depths)
    loop_shallow = subst (λ (t : Tree). Shallow res t (depth_in X.depths)) (sym (as_lines r₂.after)) r₂.shallow

    pub pass_ready : PassReady res μ Y k low high us (R a) (a + size (R a)) x q
    unfolding size fresh laid_rows
    pass_ready = record {
      sized = P₂.adds.sized;
      nodes = omega (arith, r₂.nodes, node_is P₂ ie₂);
      names = omega (arith, r₂.names, x_is P₂ ie₂, of_size k low high);
      rows = omega (arith, r₂.rows, q_is P₂ ie₂);
      shallow = ((parts_added P₂ ie₂).shallow _ loop_shallow).0;
    }

    pub loop_laid : {W : State} → Adds w res (line (loop_line k low high μ x us (R a))) Y W q
        (q + 1 + j + laid_rows (R a) + 2) (d + 1) →
        Made w res whole μ X W n p (d + 1) (node + size whole)
        (out x (a + size (R a)) (x + 1 + j + fresh (R a)) (q + 1 + j + laid_rows (R a) + 2))
    unfolding size fresh laid_rows atom
    loop_laid A = ready_made w res (d + 1) node is_loop refl refl (record {
      next = omega (arith, node_is P₂ ie₂);
      count = omega (arith, x_is P₂ ie₂, of_size k low high);
      reach = omega (arith, q_is P₂ ie₂);
      gives = name_placed w x (omega (arith, r₂.names, x_is P₂ ie₂)) ∙ ap C.name (sym (x_is P₂ ie₂));
      adds = adds_as (adds_then (adds_to q (d + 1) (parts_added P₂ ie₂) refl (omega arith)) A) as_lines;
    })
