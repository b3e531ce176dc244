-- Laws of the tree at a node: one for each kind of node that the code tells apart.
use Rattle.prelude.specs.Kit.{ℕ, ◌≤◌, ◌+◌, ◌<◌, ◌-◌, suc, ◌*◌, arith, true, false, false≢true, ◌≡◌, refl, ◌∙◌, sym, ap}
use Rattle.prelude.specs.Kit.{inl, inr, ⊎_elim, List, [], ◌∷◌, ℤ, pos, length, get_or, le-ltb, le-leb, lt-leb}
use Rattle.semantics.specs.Number.{Operation, sum, difference, less, signed, bytes_at}
use Rattle.semantics.specs.Kinds.{Leaf, operation, call, literal, index, length_of, iota, replicate, leaf_kind}
use Rattle.semantics.specs.Kinds.{Loop, mapping, filtering, reducing, rewriting, loop_kind}
use Rattle.semantics.specs.Syntax.{Expr, number, name, let_in, leaf, if_else, loop, Exprs, none, more, size, sizes}
use Rattle.semantics.specs.Code as C
use Rattle.semantics.specs.File as S
use Rattle.semantics.specs.File.{at_part, look, node_at, node_of, part_count, low_limits, high_limits, leaf_of}
use Rattle.semantics.specs.File.{shape_of}
use Rattle.script_read.specs.Told.{Parts, node_outcome, parted, loops, AtomSeen}
use Rattle.script_read.specs.declared.Node.{Node}
use Rattle.script_read.specs.declared.Misfit.{Misfit}
use Rattle.std.specs.Prelude.{Result, Ok, Err}
use Rattle.script_read.specs.declared.Atomic.TheVariants.{Number, Name}
use Rattle.script_read.proofs.Limits.{NoneOf}
use Rattle.script_read.proofs.Nodes.{Seen, seen, inside, HeadFits, head_fits, unfit}
use Rattle.script_read.proofs.Nodes.{get_d_any}
use Rattle.script_read.proofs.Sorts as K
use Rattle.script_read.proofs.Sorts.{Sort, sort_of, kind_of_leaf, kind_of_loop, is_a_loop}
use Rattle.script_read.proofs.Written.{Written, AllWritten, amount}
use Rattle.plain_rows.specs.Plain.{meant, placed, number_at, is_looping}
use Rattle.plain_rows.proofs.Atoms.{pred_suc}
use Rattle.flatten_rows.specs.Source.{several, second_part, leaf_by, compound, let_from, if_from, tree_of, node_tree}
use Rattle.flatten_rows.specs.Source.{tree_at, NodeFits}
use Rattle.flatten_rows.specs.Made.{AtomPlaced, PartsFit, Counted, Compounded}

-- ---- leaves and loops

-- a node that is a leaf or a loop: its tree, and a leaf's parts
pub record CompoundNode (h : S.Head) (kind low high : ℕ) : Type 0 where
  pub tree : (R : ℕ → Expr) (p : ℕ) → tree_of R p h (shape_of h) ≡ compound R kind low high (p + 1)
  pub counted : Compounded kind low high

-- a leaf with a fixed count of parts
fixed : (i m : ℕ) → (i ≡ 9 → ⊥) → m ≤ 2 → PartsFit i m → Counted i 0 m
fixed i m n f g = record {
  plain = g;
  parts = omega arith;
  second = omega arith;
  depth = λ e. absurd (n e);
}

operates : (i : ℕ) → 4 ≤ i → i ≤ 6 → Counted i 0 2
operates i f g = fixed i 2 (λ e. omega arith) (omega arith) (inr (inr (inr (inr (inr (inr (g, (f, refl))))))))

module _ (h : S.Head) {kind low high : ℕ} (same_kind : h.kind ≡ kind) (same_low : h.low ≡ low)
    (same_high : h.high ≡ high) (lowest : low ≤ get_or low_limits kind 0) (highest : high ≤ get_or high_limits kind 0)
  where
    -- the shape of a leaf and its parts, by what its line has of them
    record LeafNode : Type 0 where
      shape : shape_of h ≡ leaf_of (leaf_by kind (second_part kind low high))
      plain : is_looping kind ≡ false
      parts : Counted kind (second_part kind low high) (part_count kind low high)

    operation_node : (o : Operation) → kind ≡ leaf_kind (operation o) → LeafNode
    unfolding part_count
    operation_node sum e = record {
      shape = rw (same_kind ∙ e, e);
      plain = rw e;
      parts = rw e (operates 4 (omega arith) (omega arith));
    }
    operation_node difference e = record {
      shape = rw (same_kind ∙ e, e);
      plain = rw e;
      parts = rw e (operates 5 (omega arith) (omega arith));
    }
    operation_node less e = record {
      shape = rw (same_kind ∙ e, e);
      plain = rw e;
      parts = rw e (operates 6 (omega arith) (omega arith));
    }

    leaf_node : (l : Leaf) → kind ≡ leaf_kind l → LeafNode
    unfolding part_count
    leaf_node (operation o) e = operation_node o e
    leaf_node (call f) e = record {
      shape = rw (same_kind ∙ e, e, same_low);
      plain = rw e;
      parts = rw e (record {
        plain = inl refl;
        parts = omega (arith, rw e at highest);
        second = omega (arith, rw e at lowest);
        depth = λ i. absurd (let f : ⊥ = omega arith in f);
      });
    }
    leaf_node (literal d) e = record {
      shape = rw (same_kind ∙ e, e, same_high);
      plain = rw e;
      parts = rw e (record {
        plain = inr (inl refl);
        parts = omega (arith, rw e at lowest);
        second = omega (arith, rw e at highest);
        depth = λ i. omega (arith, rw e at highest);
      });
    }
    leaf_node length_of e = record {
      shape = rw (same_kind ∙ e, e);
      plain = rw e;
      parts = rw e (fixed 11 1 (λ i. omega arith) (omega arith) (inr (inr (inl (refl, refl)))));
    }
    leaf_node iota e = record {
      shape = rw (same_kind ∙ e, e);
      plain = rw e;
      parts = rw e (fixed 17 1 (λ i. omega arith) (omega arith) (inr (inr (inr (inl (refl, refl))))));
    }
    leaf_node index e = record {
      shape = rw (same_kind ∙ e, e);
      plain = rw e;
      parts = rw e (fixed 10 2 (λ i. omega arith) (omega arith) (inr (inr (inr (inr (inl (refl, refl)))))));
    }
    leaf_node replicate e = record {
      shape = rw (same_kind ∙ e, e);
      plain = rw e;
      parts = rw e (fixed 18 2 (λ i. omega arith) (omega arith) (inr (inr (inr (inr (inr (inl (refl, refl))))))));
    }

    leaf_compound : LeafNode → CompoundNode h kind low high
    leaf_compound l = record {
      tree = λ R p. ap (tree_of R p h) l.shape ∙ rw (l.plain, same_kind, same_low, same_high);
      counted = record { leaf = λ f. l.parts };
    }

    loop_compound : (k : Loop) → kind ≡ loop_kind k → loops kind ≡ true → CompoundNode h kind low high
    loop_compound mapping e i = record {
      tree = λ R p. rw (same_kind ∙ e, e, same_low);
      counted = record { leaf = λ f. absurd (false≢true (sym (rw e at f))) };
    }
    loop_compound filtering e i = record {
      tree = λ R p. rw (same_kind ∙ e, e, same_low);
      counted = record { leaf = λ f. absurd (false≢true (sym (rw e at f))) };
    }
    loop_compound reducing e i = record {
      tree = λ R p. rw (same_kind ∙ e, e, same_low, same_high);
      counted = record { leaf = λ f. absurd (false≢true (sym (rw e at f))) };
    }
    loop_compound rewriting e i = absurd (false≢true (rw e at i))

-- a node whose kind is none of the others is a leaf or a loop
pub compound_as : {k w : List ℕ} {p kind low high : ℕ} (s : Seen k w at_part p kind low high) →
    NoneOf (12 ∷ 7 ∷ 3 ∷ 2 ∷ []) kind → CompoundNode s.node kind low high
compound_as {k} {w} {p} {kind} {low} {high} s n = go (sort_of s.node fit.stands)
  where
    fit : HeadFits at_part (get_or k p 255) s.node
    fit = head_fits k w at_part p s.node s.stands

    go : Sort s.node → CompoundNode s.node kind low high
    go (K.number e) = absurd (n.0.0.0.1 (sym s.same_kind ∙ e))
    go (K.name e) = absurd (n.0.0.1 (sym s.same_kind ∙ e))
    go (K.let_in e) = absurd (n.0.1 (sym s.same_kind ∙ e))
    go (K.if_else e) = absurd (n.1 (sym s.same_kind ∙ e))
    go (K.leaf l e) =
        leaf_compound s.node s.same_kind s.same_low s.same_high s.lowest s.highest
        (leaf_node s.node s.same_kind s.same_low s.same_high s.lowest s.highest l
        (sym s.same_kind ∙ kind_of_leaf s.node l e))
    go (K.loop j xs c e) =
        loop_compound s.node s.same_kind s.same_low s.same_high s.lowest s.highest j
        (sym s.same_kind ∙ kind_of_loop s.node j xs c e)
        (ap loops (sym s.same_kind) ∙ is_a_loop s.node j xs c e)

-- what stands at a node that fits
pub fits_seen : {k w : List ℕ} {d p kind low high : ℕ} → NodeFits k w d p kind low high →
    Seen k w at_part p kind low high
fits_seen {k} {w} {d} {p} {kind} {low} {high} f =
    let n : Node = record { kind = kind; low = low; high = high } in
    seen k w at_part p (Ok n) f.stands n refl

-- ---- the tree of each kind

module _ (k w : List ℕ) (d p : ℕ) (some : d ≡ 0 → ⊥) where
  tree_there : (v : S.Node) → node_at k w at_part p ≡ v → tree_at k w d p ≡ node_tree (tree_at k w (d - 1)) p v
  unfolding tree_at
  tree_there v e = ap (λ (m : ℕ). tree_at k w m p) (pred_suc d (omega (arith, some))) ∙ go (d - 1)
    where
      go : (m : ℕ) → tree_at k w (suc m) p ≡ node_tree (tree_at k w m) p v
      go m = rw e

  module _ {kind low high : ℕ} (s : Seen k w at_part p kind low high) where
    tree_is : tree_at k w d p ≡ tree_of (tree_at k w (d - 1)) p s.node (shape_of s.node)
    tree_is = tree_there (S.fits s.node) s.stands

    pub number_is : kind ≡ 2 → tree_at k w d p ≡ number s.node.value
    number_is e = tree_is ∙ rw (s.same_kind, e)

    pub name_is : kind ≡ 3 → tree_at k w d p ≡ name low
    name_is e = tree_is ∙ rw (s.same_kind, e, s.same_low)

    pub let_is : kind ≡ 7 → tree_at k w d p ≡ let_from (tree_at k w (d - 1)) low (p + 1)
    let_is e = tree_is ∙ rw (s.same_kind, e, s.same_low)

    pub if_is : kind ≡ 12 → tree_at k w d p ≡ if_from (tree_at k w (d - 1)) (p + 1)
    if_is e = tree_is ∙ rw (s.same_kind, e)

    pub compound_is : CompoundNode s.node kind low high →
        tree_at k w d p ≡ compound (tree_at k w (d - 1)) kind low high (p + 1)
    compound_is c = tree_is ∙ c.tree (tree_at k w (d - 1)) p

  -- where no node fits stands the number 0
  pub wrong_tree : (n : Result Node Misfit) → node_outcome n p ≡ parted (look k w at_part p) → (m : Misfit) →
      n ≡ Err m → tree_at k w d p ≡ number (pos 0)
  wrong_tree n e m f = ⊎_elim (tree_there S.wrong_kind) (tree_there S.wrong_operand) (unfit k w at_part p n e m f).is

pub none_tree : (k w : List ℕ) (d p : ℕ) → d ≡ 0 → tree_at k w d p ≡ number (pos 0)
unfolding tree_at
none_tree k w d p e = rw e

-- ---- the number of a node

abbrev value_of : S.Node → ℤ
value_of (S.fits h) = h.value
value_of S.wrong_kind = pos 0
value_of S.wrong_operand = pos 0

number_value : (k w : List ℕ) (p : ℕ) (h : S.Head) → node_at k w at_part p ≡ S.fits h → h.kind ≡ 2 →
    signed (bytes_at 8 w (8 * p)) ≡ h.value
unfolding node_at node_of
number_value k w p h e f =
    let c : get_or k p 255 ≡ 2 = sym (head_fits k w at_part p h e).kind ∙ f in
    ap value_of (rw c at e)

-- the place of a node's number means that number
pub number_placed : (k w : List ℕ) (p : ℕ) (h : S.Head) → Parts k w → p < length k → node_at k w at_part p ≡ S.fits
    h →
    h.kind ≡ 2 → meant (placed w (256 + p)) ≡ C.number h.value
unfolding placed number_at
number_placed k w p h s g e f =
    let z : 256 + p - 256 ≡ p = omega arith in
    rw (le-ltb (256 + p) 256 (omega arith), z, le-leb (8 * p + 8) (length w) (omega (arith, s.whole)))
    (ap C.number (number_value k w p h e f))

pub nowhere_placed : (w : List ℕ) → length w ≤ 8192 → meant (placed w 65535) ≡ C.number (pos 0)
unfolding placed number_at
nowhere_placed w h = rw (lt-leb (8 * 65279 + 8) (length w) (omega arith))

-- ---- atoms

pub any_default : (l : List ℕ) (x : ℕ) → length l ≡ 256 → x < 256 → get_or l x 0 ≡ get_or l x 65535
any_default l x h g = get_d_any l x 0 65535 (omega arith)

pub number_inside : (k w : List ℕ) (p : ℕ) → AtomSeen k w p Number → p < length k
number_inside k w p e =
    let x : Node = record { kind = 2; low = 0; high = 0 } in
    inside k w at_part p (Ok x) e x refl

module _ (k w ps : List ℕ) (d p : ℕ) (some : d ≡ 0 → ⊥) where
  -- a number's place is its node's
  pub number_atom : Parts k w → AtomSeen k w p Number → AtomPlaced w ps (tree_at k w d p) (256 + p)
  number_atom s e =
      let x : Node = record { kind = 2; low = 0; high = 0 } in
      let n = seen k w at_part p (Ok x) e x refl in
      rw (number_is k w d p some n refl)
      (number_placed k w p n.node s (number_inside k w p e) n.stands n.same_kind)

  -- a name's place stands in the table
  pub name_atom : (x : ℕ) → AtomSeen k w p (Name x) → x < 256 → length ps ≡ 256 →
      AtomPlaced w ps (tree_at k w d p) (get_or ps x 0)
  name_atom x e h l =
      let n : Node = record { kind = 3; low = x; high = 0 } in
      rw (name_is k w d p some (seen k w at_part p (Ok n) e n refl) refl) (any_default ps x l h)

-- ---- what the reader accepts is the tree at its node

module _ (k w : List ℕ) where
  mutual
    unfolding tree_at several size

    pub written_tree : (e : Expr) (d p : ℕ) → Written k w e d p → tree_at k w d p ≡ e
    written_tree (number z) d p h = rw (h.0.is, h.1)
    written_tree (name x) d p h = rw (h.0.is, h.1.is)
    written_tree (let_in x a b) d p h = rw (
      h.0.is,
      h.1.is,
      written_tree a h.0.below (p + 1) h.2,
      written_tree b h.0.below (p + 1 + size a) h.3,
    )
    written_tree (leaf l es) d p h = rw (
      h.0.is,
      h.1.is,
      h.1.shape_is,
      h.1.count,
      written_trees es h.0.below (p + 1) h.2,
    )
    written_tree (if_else a b c) d p h = rw (
      h.0.is,
      h.1.is,
      written_tree a h.0.below (p + 1) h.2,
      written_tree b h.0.below (p + 1 + size a) h.3,
      written_tree c h.0.below (p + 1 + size a + size b) h.4,
    )
    written_tree (loop c xs es b) d p h = rw (
      h.0.is,
      h.1.is,
      h.1.shape_is,
      written_trees es h.0.below (p + 1) h.2,
      written_tree b h.0.below (p + 1 + sizes es) h.3,
    )

    written_trees : (es : Exprs) (d p : ℕ) → AllWritten k w es d p → several (tree_at k w d) (amount es) p ≡ es
    written_trees none d p h = refl
    written_trees (more e es) d p h = rw (written_tree e d p h.0, written_trees es d (p + size e) h.1)

-- ---- the node after a tree, from the node of its first part

pub let_after : (x at : ℕ) (a b : Expr) → at + 1 + size a + size b ≡ at + size (let_in x a b)
unfolding size
let_after x at a b = omega arith

pub if_after : (at : ℕ) (a b c : Expr) → at + 1 + size a + size b + size c ≡ at + size (if_else a b c)
unfolding size
if_after at a b c = omega arith
