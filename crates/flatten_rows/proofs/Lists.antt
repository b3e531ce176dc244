-- Laws of the parts of a leaf or a loop, which are laid one after the other, and of a leaf's line over their atoms.
use Rattle.prelude.specs.Kit.{ℕ, ◌≤◌, ◌+◌, ◌<◌, ◌-◌, suc, zero, arith, ◌≡◌, refl, ◌∙◌, sym, ap, subst, List, [], ◌∷◌}
use Rattle.prelude.specs.Kit.{◌++◌, append_assoc, append-nil, length, get_or, set, length-set, get_or-set_other}
use Rattle.prelude.specs.Kit.{get_or-set_same}
use Rattle.semantics.specs.Syntax.{Expr, size, sizes}
use Rattle.semantics.specs.Code as C
use Rattle.semantics.specs.Code.{Tree}
use Rattle.semantics.specs.Normal.{Meanings, fresh, fresh_all, atom, atoms, lines, all_lines}
use Rattle.plain_rows.specs.Plain.{Plain, meant, placed, atoms_at}
use Rattle.plain_rows.specs.Parts.{depth_in}
use Rattle.plain_rows.specs.Marks.{marks_of}
use Rattle.plain_rows.specs.Stands.{LinkedAll}
use Rattle.flatten_rows.specs.Laid.{firsts, placed_all}
use Rattle.flatten_rows.specs.Source.{several, laid_rows, laid_all}
use Rattle.flatten_rows.specs.Shallow.{Shallow}
use Rattle.flatten_rows.specs.Made.{State, Lays, Sized, RowsAgree, Ready, Adds}
use Rattle.flatten_rows.specs.Made.{Made}
use Rattle.flatten_rows.specs.declared.Out.{Out}
use Rattle.flatten_rows.proofs.Laws.{length_firsts, firsts_at}
use Rattle.flatten_rows.proofs.Stays.{row_laid, linked_laid}
use Rattle.flatten_rows.proofs.Adds.{adds_as, adds_none, adds_then}

-- ---- the parts

-- i of m parts are laid: their places stand in vs
pub record Listing (w : List ℕ) (res : ℕ → ℕ) (R : ℕ → Expr) (m at : ℕ) (μ : Meanings) (X Y : State) (n p d₀ : ℕ)
    (vs : List ℕ) (i a x q : ℕ) : Type 0 where
  pub within : i ≤ m
  pub nodes : at + sizes (several R m at) ≡ a + sizes (several R (m - i) a)
  pub count : n + fresh_all (several R m at) ≡ x + fresh_all (several R (m - i) a)
  pub reach : p + laid_all (several R m at) ≡ q + i + laid_all (several R (m - i) a)
  pub long : length vs ≡ 16
  pub gives : atoms (several R m at) μ n ≡ placed_all w (firsts vs 0 i) ++ atoms (several R (m - i) a) μ x
  pub laid : Tree → Tree
  pub split : (t : Tree) →
      laid (all_lines (several R (m - i) a) μ x t) ≡ all_lines (several R m at) μ n t
  pub adds : Adds w res laid X Y p q d₀

firsts_more : (w vs : List ℕ) (j i v : ℕ) → j + i < length vs →
    placed_all w (firsts (set vs (j + i) v) j (i + 1)) ≡ placed_all w (firsts vs j i) ++ (meant (placed w v) ∷ [])
unfolding firsts
firsts_more w vs j zero v h =
    let e : j + 0 ≡ j = omega arith in
    rw e (ap (λ (u : ℕ). meant (placed w u) ∷ []) (get_or-set_same vs j v 0 (omega arith)))
firsts_more w vs j (suc i) v h =
    let e : j + 1 + i ≡ j + suc i = omega arith in
    let f : suc (i + 1) ≡ suc i + 1 = omega arith in
    subst
    (λ (k : ℕ). placed_all w (firsts (set vs (j + suc i) v) j k)
    ≡ placed_all w (firsts vs j (suc i)) ++ (meant (placed w v) ∷ [])) f
    (subst
    (λ (k : ℕ). placed_all w (firsts (set vs k v) j (suc (i + 1)))
    ≡ placed_all w (firsts vs j (suc i)) ++ (meant (placed w v) ∷ [])) e
    (ap (λ (u : ℕ). meant (placed w u) ∷ placed_all w (firsts (set vs (j + 1 + i) v) (j + 1) (i + 1)))
    (get_or-set_other vs (j + 1 + i) j v 0 (λ g. omega arith))
    ∙ ap (λ (us : List C.Atom). meant (placed w (get_or vs j 0)) ∷ us) (firsts_more w vs (j + 1) i v (omega arith))))

module _ {w : List ℕ} {res : ℕ → ℕ} {R : ℕ → Expr} {m at : ℕ} {μ : Meanings} {X : State} {n p d₀ : ℕ} where
  pub listing_begins : (vs : List ℕ) → Sized X → length vs ≡ 16 → Listing w res R m at μ X X n p d₀ vs 0 at n p
  unfolding firsts
  listing_begins vs s l =
      let e : m - 0 ≡ m = omega arith in
      record {
        within = omega arith;
        nodes = rw e;
        count = rw e;
        reach = rw e (omega arith);
        long = l;
        gives = rw e;
        laid = λ t. t;
        split = λ t. rw e;
        adds = adds_none p d₀ s (λ k. refl);
      }

  module _ {Y : State} {vs : List ℕ} {i a x q : ℕ} (L : Listing w res R m at μ X Y n p d₀ vs i a x q) (h : i < m)
    where
      left : m - i ≡ suc (m - (i + 1))
      left = omega arith

      -- the next part, and what comes after it
      nodes_next : at + sizes (several R m at) ≡ a + (size (R a) + sizes (several R (m - (i + 1)) (a + size (R a))))
      unfolding several size
      nodes_next = rw left at L.nodes

      count_next : n + fresh_all (several R m at)
          ≡ x + (fresh (R a) + fresh_all (several R (m - (i + 1)) (a + size (R a))))
      unfolding several fresh
      count_next = rw left at L.count

      reach_next : p + laid_all (several R m at)
          ≡ q + i + (laid_rows (R a) + 1 + laid_all (several R (m - (i + 1)) (a + size (R a))))
      unfolding several laid_rows
      reach_next = rw left at L.reach

      gives_next : atoms (several R m at) μ n
          ≡ placed_all w (firsts vs 0 i)
          ++ (atom (R a) μ x ∷ atoms (several R (m - (i + 1)) (a + size (R a))) μ (x + fresh (R a)))
      unfolding several atom
      gives_next = rw left at L.gives

      -- the lines of the parts after the next one
      abbrev rest : Tree → Tree
      rest t = all_lines (several R (m - (i + 1)) (a + size (R a))) μ (x + fresh (R a)) t

      split_next : (t : Tree) → L.laid (lines (R a) μ x (rest t)) ≡ all_lines (several R m at) μ n t
      unfolding several lines
      split_next t = rw left at (L.split t)

      pub listing_ready : (t : Tree) → Shallow res (all_lines (several R m at) μ n t) (depth_in X.depths) →
          at + sizes (several R m at) ≤ 1024 → n + fresh_all (several R m at) ≤ 256 →
          p + laid_all (several R m at) ≤ 2040 → Ready res μ Y (R a) (a + size (R a)) x q
      listing_ready t s f g j = record {
        sized = L.adds.sized;
        nodes = omega (arith, nodes_next);
        names = omega (arith, count_next);
        rows = omega (arith, reach_next);
        after = rest t;
        shallow = L.adds.shallow (lines (R a) μ x (rest t))
            (subst (λ (k : Tree). Shallow res k (depth_in X.depths)) (sym (split_next t)) s);
      }

      pub listing_goes : {Z : State} {r : Out} → Made w res (R a) μ Y Z x q d₀ (a + size (R a)) r → m ≤ 16 →
          Listing w res R m at μ X Z n p d₀ (set vs i r.place) (i + 1) r.after.node r.after.n r.after.p
      listing_goes {Z} {r} B g =
          rw B.next (record {
            within = omega arith;
            nodes = omega (arith, nodes_next);
            count = omega (arith, count_next, B.count);
            reach = omega (arith, reach_next, B.reach);
            long = length-set vs i r.place ∙ L.long;
            gives = gives_next ∙ atoms_there;
            laid = λ t. L.laid (lines (R a) μ x t);
            split = λ t.
                ap (λ (j : ℕ). L.laid (lines (R a) μ x (all_lines (several R (m - (i + 1)) (a + size (R a))) μ j t)))
                B.count ∙ split_next t;
            adds = adds_then L.adds B.adds;
          })
        where
          others : List C.Atom
          others = atoms (several R (m - (i + 1)) (a + size (R a))) μ (x + fresh (R a))

          atoms_there : placed_all w (firsts vs 0 i) ++ (atom (R a) μ x ∷ others)
              ≡ placed_all w (firsts (set vs i r.place) 0 (i + 1))
              ++ atoms (several R (m - (i + 1)) (a + size (R a))) μ r.after.n
          atoms_there =
              rw B.count
              (sym (ap (λ (j : ℕ). placed_all w (firsts (set vs j r.place) 0 (i + 1)) ++ others)
              (let e : i ≡ 0 + i = omega arith in e)
              ∙ ap (λ (us : List C.Atom). us ++ others) (firsts_more w vs 0 i r.place (omega (arith, L.long)))
              ∙ append_assoc (placed_all w (firsts vs 0 i)) (meant (placed w r.place) ∷ []) _
              ∙ ap (λ (z : C.Atom). placed_all w (firsts vs 0 i) ++ (z ∷ others)) B.gives))

-- all parts are laid
module _ {w : List ℕ} {res : ℕ → ℕ} {R : ℕ → Expr} {m at : ℕ} {μ : Meanings} {X Y : State} {n p d₀ : ℕ}
    {vs : List ℕ} {i a x q : ℕ} (P : Listing w res R m at μ X Y n p d₀ vs i a x q) (ie : m ≤ i) where
  i_is : i ≡ m
  i_is = omega (arith, P.within)

  none_left : m - i ≡ 0
  none_left = omega arith

  pub node_is : at + sizes (several R m at) ≡ a
  unfolding several size
  node_is = let z = rw none_left at P.nodes in omega (arith, z)

  pub x_is : n + fresh_all (several R m at) ≡ x
  unfolding several fresh
  x_is = let z = rw none_left at P.count in omega (arith, z)

  pub q_is : p + laid_all (several R m at) ≡ q + m
  unfolding several laid_rows
  q_is = let z = rw none_left at P.reach in omega (arith, z)

  pub atoms_are : atoms (several R m at) μ n ≡ placed_all w (firsts vs 0 m)
  unfolding several atom
  atoms_are = rw i_is at (rw none_left at P.gives ∙ append-nil (placed_all w (firsts vs 0 i)))

  pub parts_added : Adds w res (all_lines (several R m at) μ n) X Y p q d₀
  unfolding several lines
  parts_added = adds_as P.adds (λ k. rw none_left at (P.split k))

-- ---- the line

pub atoms_placed : (w rows : List ℕ) (at : ℕ) (vs : List ℕ) (j m : ℕ) →
    ((i : ℕ) → i < m → get_or rows (at + i) 0 ≡ get_or vs (j + i) 0) →
    atoms_at w rows at m ≡ placed_all w (firsts vs j m)
unfolding atoms_at firsts
atoms_placed w rows at vs j zero h = refl
atoms_placed w rows at vs j (suc m) h =
    rw (here, atoms_placed w rows (at + 1) vs (j + 1) m later)
  where
    here : get_or rows at 0 ≡ get_or vs j 0
    here =
        let e : at + 0 ≡ at = omega arith in
        let f : j + 0 ≡ j = omega arith in
        rw (e, f) at (h 0 (omega arith))

    later : (i : ℕ) → i < m → get_or rows (at + 1 + i) 0 ≡ get_or vs (j + 1 + i) 0
    later i g =
        let e : at + 1 + i ≡ at + suc i = omega arith in
        let f : j + 1 + i ≡ j + suc i = omega arith in
        rw (e, f) (h (suc i) (omega arith))

pub placed_long : (w vs : List ℕ) → length (placed_all w vs) ≡ length vs
placed_long w [] = refl
placed_long w (v ∷ vs) = ap suc (placed_long w vs)

pub placed_many : (w vs : List ℕ) (m : ℕ) → length (placed_all w (firsts vs 0 m)) ≡ m
placed_many w vs m = placed_long w (firsts vs 0 m) ∙ length_firsts vs 0 m

-- the rows of a line of m atoms that was laid, in a code that has them
module _ {Y Z : State} {q row : ℕ} (m : ℕ) (vs : List ℕ) (l : Lays Y Z q row (firsts vs 0 m)) (sized : Sized Y)
    (short : q + 1 + m ≤ 2040) (F : Plain) (here : RowsAgree Z F q (q + 1 + m)) where
  agreed : RowsAgree Z F q (q + 1 + length (firsts vs 0 m))
  agreed =
      subst (λ (i : ℕ). RowsAgree Z F q (q + 1 + i)) (sym (length_firsts vs 0 m)) here

  pub row_there : get_or F.rows q 0 ≡ row
  row_there = row_laid l sized F agreed (omega arith) (omega (arith, length_firsts vs 0 m, short)) 0 q (omega arith)
      (omega (arith, length_firsts vs 0 m))

  pub place_there : (z : ℕ) → z < m → get_or F.rows (q + 1 + z) 0 ≡ get_or vs (0 + z) 0
  place_there z b =
      row_laid l sized F agreed (omega arith) (omega (arith, length_firsts vs 0 m, short)) (suc z) (q + 1 + z)
      (omega arith) (omega (arith, length_firsts vs 0 m))
      ∙ firsts_at vs 0 m z b

  pub linked_there : (w : List ℕ) → LinkedAll F (placed_all w (firsts vs 0 m)) (q + 1) (marks_of Y.last)
  linked_there w = linked_laid l sized F agreed (omega arith) (omega (arith, length_firsts vs 0 m, short)) w
