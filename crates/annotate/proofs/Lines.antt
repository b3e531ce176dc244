-- Laws of the walk of a line: what was written and taken back is what the walk says.
use Rattle.prelude.specs.Kit.{ℕ, ◌+◌, ◌<◌, ◌*◌, arith, true, false, Bool, ◌≡◌, refl, ◌∙◌, sym, ap, List}
use Rattle.prelude.specs.Kit.{[], ◌∷◌, ◌++◌, append_assoc, ℤ, length, set}
use Rattle.prelude.specs.Kit.{◌≤◌, ◌&&◌, not, dec_lt, ℕ_discrete, eqb, eq-eqb, ne_eqb, fun_ext, get_or}
use Rattle.prelude.specs.Kit.{get_or-eq_default, set_out}
use Rattle.semantics.specs.Kinds.{Leaf, call, literal, loop_kind}
use Rattle.semantics.specs.Kinds.{Borrowing}
use Rattle.semantics.specs.Code as C
use Rattle.semantics.specs.Code.{Row, row}
use Rattle.semantics.specs.Live.{Set, is, only, among, ◌∪◌, ◌∖◌}
use Rattle.semantics.specs.Annotate.{NameDepths, dying}
use Rattle.plain_rows.specs.Plain.{Plain, set_of, meant, atoms_at, unary_of, binary_of, loop_of, loop_size, of_loop}
use Rattle.plain_rows.specs.Parts.{below, release_rows, leaf_part, handing, written_as, loop_closing}
use Rattle.plain_rows.specs.Marks.{Marks, marked, marks_of}
use Rattle.plain_rows.specs.Walk.{since, Point, point, unmarked, unmarked_all}
use Rattle.plain_rows.specs.Walk.{if_trees, if_walk, loop_tree, loop_walk, leaf_walk, line_walk}
use Rattle.kinds.specs.declared.Atom.{Atom}
use Rattle.plain_rows.specs.declared.Line.{Line}
use Rattle.plain_rows.specs.declared.Line.TheVariants as L
use Rattle.annotate_rows.specs.Wrote.{Wrote}
use Rattle.annotate_marks.specs.Took.{Took}
use Rattle.annotate_loops.specs.Loops.{written_line, closing_of}
use Rattle.annotate_loops.proofs.LoopRows.{NotLoop}
use Rattle.plain_rows.proofs.Atoms.{length_atoms}
use Rattle.plain_rows.proofs.Rows.{of_size}
use Rattle.plain_rows.proofs.Loops.{loop_again, same_parts, same_size}
use Rattle.plain_rows.proofs.Sets.{without_in}
use Rattle.annotate_rows.proofs.Rows.{wrote_as, wrote_then}
use Rattle.annotate_lines.proofs.Leaves.{literal_rows}
use Rattle.annotate.specs.Walks.{Walks, is_leaf, is_loop, no_tree, loop_tree_of}

pub same_point : {A B : Set} {M N : Marks} {rs qs : List Row} → A ≡ B → M ≡ N → rs ≡ qs → point A M rs ≡ point B N qs
same_point e f g = λ i. point (e i) (f i) (g i)

abbrev bit : Bool → ℕ
bit true = 1
bit false = 0

false_true : false ≡ true → ⊥
false_true e = omega (arith, ap bit e)

-- lines with trees are no leaves
pub if_no_leaf : (x : ℕ) (g : Atom) → is_leaf (L.If x g) ≡ true → ⊥
unfolding is_leaf
if_no_leaf x g e = false_true e

pub loop_no_leaf : (x kind y z : ℕ) (a b : Atom) → is_leaf (L.Loop x kind y z a b) ≡ true → ⊥
unfolding is_leaf
loop_no_leaf x kind y z a b e = false_true e

-- and the others are
pub leaf_is : (l : Line) → ((x : ℕ) (g : Atom) → l ≡ L.If x g → ⊥) → NotLoop l → is_leaf l ≡ true
unfolding is_leaf
leaf_is (L.Unary x kind a) n m = refl
leaf_is (L.Binary x kind a b) n m = refl
leaf_is (L.Call x f m) n h = refl
leaf_is (L.Literal x d m) n h = refl
leaf_is (L.If x g) n m = absurd (n x g refl)
leaf_is (L.Loop x kind y z a b) n m = absurd (m x kind y z a b refl)

pub loop_is : (x kind y z : ℕ) (a b : Atom) → is_loop (L.Loop x kind y z a b) ≡ true
unfolding is_loop
loop_is x kind y z a b = refl

pub written_loop : (Γ : NameDepths) (p : ℕ) (M : Marks) (A : Set) (l : Line) → is_loop l ≡ true →
    is_loop (written_line Γ p M A l) ≡ true
unfolding is_loop written_line
written_loop Γ p M A (L.Unary x kind a) e = e
written_loop Γ p M A (L.Binary x kind a b) e = e
written_loop Γ p M A (L.Call x f m) e = e
written_loop Γ p M A (L.Literal x d m) e = e
written_loop Γ p M A (L.If x g) e = e
written_loop Γ p M A (L.Loop x kind y z a b) e = refl

pub not_loop : (l : Line) → NotLoop l → is_loop l ≡ true → ⊥
unfolding is_loop
not_loop (L.Unary x kind a) h e = false_true e
not_loop (L.Binary x kind a b) h e = false_true e
not_loop (L.Call x f m) h e = false_true e
not_loop (L.Literal x d m) h e = false_true e
not_loop (L.If x g) h e = false_true e
not_loop (L.Loop x kind y z a b) h e = h x kind y z a b refl

-- ---- lines without trees

-- two atoms taken back
both : (notes : List ℕ) (p : ℕ) (a b : C.Atom) (A : Set) (M : Marks) {s : List Bool} {c : List ℕ} →
    Took (is a ∪ is b ∪ A) (unmarked notes (p + 1) a (unmarked notes (p + 2) b M)) s c →
    Took (among (a ∷ (b ∷ [])) A) (unmarked_all notes (p + 1) (a ∷ (b ∷ [])) M) s c
unfolding among unmarked_all
both notes p a b A M t = record {
  names = t.names;
  marks = t.marks ∙ ap (λ (r : ℕ). unmarked notes (p + 1) a (unmarked notes r b M))
      (let e : p + 2 ≡ p + 1 + 1 = omega arith in e);
  long = t.long;
}

-- one atom taken back, beside a number
one : (notes : List ℕ) (p : ℕ) (a : C.Atom) (z : ℤ) (A : Set) (M : Marks) {s : List Bool} {c : List ℕ} →
    Took (is a ∪ is (C.number z) ∪ A) (unmarked notes (p + 1) a (unmarked notes (p + 2) (C.number z) M)) s c →
    Took (among (a ∷ []) A) (unmarked_all notes (p + 1) (a ∷ []) M) s c
unfolding among unmarked_all marked
one notes p a z A M t = record { names = t.names; marks = t.marks; long = t.long }

module _ (F : Plain) (B : Borrowing) (Γ : NameDepths) (p : ℕ) {s₀ : List Bool} {c c₁ k k₁ : List ℕ} {o o₁ : List ℤ}
    {w v : ℕ} {s : List Bool} where
  -- any leaf, whose atoms were taken back and whose part was written
  leaf_done : (x : ℕ) (l : Leaf) (us : List C.Atom) → Wrote k o k₁ o₁ w v (leaf_part B Γ x l us (set_of s₀)) →
      Took (among us (set_of s₀ ∖ x)) (unmarked_all F.notes (p + 1) us (marks_of c)) s c₁ →
      Walks (leaf_walk F B Γ p x l us) s₀ c k o w s c₁ k₁ o₁ v
  unfolding leaf_walk
  leaf_done x l us y t = record {
    added = leaf_part B Γ x l us (set_of s₀);
    is = λ rs. same_point (sym t.names) (sym t.marks) refl;
    wrote = y;
    long = t.long;
  }

  pub binary_done : (x kind : ℕ) (a b : Atom) →
      Wrote k o k₁ o₁ w v (leaf_part B Γ x (binary_of kind) (meant a ∷ (meant b ∷ [])) (set_of s₀)) →
      Took (is (meant a) ∪ is (meant b) ∪ set_of s₀ ∖ x)
      (unmarked F.notes (p + 1) (meant a) (unmarked F.notes (p + 2) (meant b) (marks_of c))) s c₁ →
      Walks (line_walk F B Γ no_tree p 0 (L.Binary x kind a b)) s₀ c k o w s c₁ k₁ o₁ v
  unfolding line_walk
  binary_done x kind a b y t =
      leaf_done x (binary_of kind) (meant a ∷ (meant b ∷ [])) y
      (both F.notes p (meant a) (meant b) (set_of s₀ ∖ x) (marks_of c) t)

  pub unary_done : (x kind : ℕ) (a : Atom) (z : ℤ) →
      Wrote k o k₁ o₁ w v (leaf_part B Γ x (unary_of kind) (meant a ∷ []) (set_of s₀)) →
      Took (is (meant a) ∪ is (C.number z) ∪ set_of s₀ ∖ x)
      (unmarked F.notes (p + 1) (meant a) (unmarked F.notes (p + 2) (C.number z) (marks_of c))) s c₁ →
      Walks (line_walk F B Γ no_tree p 0 (L.Unary x kind a)) s₀ c k o w s c₁ k₁ o₁ v
  unfolding line_walk
  unary_done x kind a z y t =
      leaf_done x (unary_of kind) (meant a ∷ []) y (one F.notes p (meant a) z (set_of s₀ ∖ x) (marks_of c) t)

  pub call_done : (x f m : ℕ) →
      Wrote k o k₁ o₁ w v
      (leaf_part B Γ x (call f) (atoms_at F.operands F.rows (p + 1) m) (set_of s₀)) →
      Took (among (atoms_at F.operands F.rows (p + 1) m) (set_of s₀ ∖ x))
      (unmarked_all F.notes (p + 1) (atoms_at F.operands F.rows (p + 1) m) (marks_of c)) s c₁ →
      Walks (line_walk F B Γ no_tree p 0 (L.Call x f m)) s₀ c k o w s c₁ k₁ o₁ v
  unfolding line_walk
  call_done x f m y t = leaf_done x (call f) (atoms_at F.operands F.rows (p + 1) m) y t

  pub literal_done : (x d m : ℕ) →
      Wrote k o k₁ o₁ w v
      (handing Γ x (row 9 (x + 256 * m + 65536 * d)) (atoms_at F.operands F.rows (p + 1) m) (set_of s₀)) →
      Took (among (atoms_at F.operands F.rows (p + 1) m) (set_of s₀ ∖ x))
      (unmarked_all F.notes (p + 1) (atoms_at F.operands F.rows (p + 1) m) (marks_of c)) s c₁ →
      Walks (line_walk F B Γ no_tree p 0 (L.Literal x d m)) s₀ c k o w s c₁ k₁ o₁ v
  unfolding line_walk
  literal_done x d m y t =
      let us = atoms_at F.operands F.rows (p + 1) m in
      leaf_done x (literal d) us
      (wrote_as (ap (λ (n : ℕ). handing Γ x (row 9 (x + 256 * n + 65536 * d)) us (set_of s₀))
      (sym (length_atoms F.operands F.rows (p + 1) m)) ∙ literal_rows B Γ x (set_of s₀) d us) y) t

-- a name taken out of a set, also one past the end of its array
without_any : (s : List Bool) (n : ℕ) → set_of (set s n false) ≡ set_of s ∖ n
without_any s n = go (dec_lt n (length s))
  where
    past : length s ≤ n → (x : ℕ) → Dec (n ≡ x) → get_or s x false ≡ not (eqb n x) && get_or s x false
    past h x (yes e) = rw (← e, eq-eqb n n refl) (get_or-eq_default s false h)
    past h x (no f) = rw (ne_eqb n x f)

    go : Dec (n < length s) → set_of (set s n false) ≡ set_of s ∖ n
    go (yes h) = without_in s n h
    go (no f) =
        let h : length s ≤ n = omega (arith, f) in
        ap (λ (t : List Bool). set_of t) (set_out s n false h) ∙ fun_ext (λ x. past h x (ℕ_discrete n x))

-- ---- the lines of a tree, whatever walks the trees in them

module _ (F : Plain) (B : Borrowing) (Γ : NameDepths) (W : ℕ → Point → Point) (p q : ℕ) {s s₁ : List Bool}
    {c c₁ k k₁ : List ℕ} {o o₁ : List ℤ} {w w₁ : ℕ} where
  pub leaf_line : (l : Line) → is_leaf l ≡ true → Walks (line_walk F B Γ no_tree p 0 l) s c k o w s₁ c₁ k₁ o₁ w₁ →
      Walks (line_walk F B Γ W p q l) s c k o w s₁ c₁ k₁ o₁ w₁
  unfolding is_leaf line_walk
  leaf_line (L.Unary x kind a) e d = record { added = d.added; is = d.is; wrote = d.wrote; long = d.long }
  leaf_line (L.Binary x kind a b) e d = record { added = d.added; is = d.is; wrote = d.wrote; long = d.long }
  leaf_line (L.Call x f m) e d = record { added = d.added; is = d.is; wrote = d.wrote; long = d.long }
  leaf_line (L.Literal x f m) e d = record { added = d.added; is = d.is; wrote = d.wrote; long = d.long }
  leaf_line (L.If x g) e d = absurd (false_true e)
  leaf_line (L.Loop x kind y z a b) e d = absurd (false_true e)

  module _ {k₂ : List ℕ} {o₂ : List ℤ} {w₂ : ℕ} where
    -- what follows an if, and its trees
    pub if_line : (x : ℕ) (g : Atom) → Wrote k o k₁ o₁ w w₁ (release_rows (dying Γ (only x) (set_of s))) →
        Walks (if_trees F B Γ W p q x (meant g)) (set s x false) c k₁ o₁ w₁ s₁ c₁ k₂ o₂ w₂ →
        Walks (line_walk F B Γ W p q (L.If x g)) s c k o w s₁ c₁ k₂ o₂ w₂
    unfolding line_walk if_walk
    if_line x g y d = record {
      added = d.added ++ release_rows (dying Γ (only x) (set_of s));
      is = λ rs.
          ap (λ (A : Set). if_trees F B Γ W p q x (meant g) (point A (marks_of c)
          (release_rows (dying Γ (only x) (set_of s)) ++ rs))) (sym (without_any s x))
          ∙ d.is (release_rows (dying Γ (only x) (set_of s)) ++ rs)
          ∙ ap (point (set_of s₁) (marks_of c₁)) (sym (append_assoc d.added _ rs));
      wrote = wrote_then y d.wrote;
      long = d.long;
    }

    -- what follows a loop, and its tree, as it is written
    pub loop_line : (l m : Line) → is_loop l ≡ true → m ≡ written_line Γ p (marks_of c) (set_of s) l →
        Wrote k o k₁ o₁ w w₁ (closing_of Γ p (marks_of c) (set_of s) m) →
        Walks (loop_tree_of F B Γ W p q m) s c k₁ o₁ w₁ s₁ c₁ k₂ o₂ w₂ →
        Walks (line_walk F B Γ W p q l) s c k o w s₁ c₁ k₂ o₂ w₂
    unfolding is_loop line_walk loop_walk loop_tree_of closing_of written_line
    loop_line (L.Loop x kind y z a b) m e f v d =
        let i = loop_of kind in
        let us = of_loop i (meant a) (meant b) in
        let M = marks_of c in
        let A = set_of s in
        let O : ℕ → Set = λ n. below x (since (p + 1 + n) M) in
        let j = written_as Γ x i us (O (loop_size i)) A in
        let h = loop_of (loop_kind j) in
        let closing = closing_of Γ p M A m in
        record {
          added = d.added ++ closing;
          is = λ rs.
              ap (λ (n : ℕ). loop_tree F B Γ W p q x (written_as Γ x i us (O n) A) (of_loop i y z) us (point A M
              (loop_closing Γ x (written_as Γ x i us (O n) A) us (O n) A ++ rs))) (of_size i (meant a) (meant b))
              ∙ (λ r. loop_tree F B Γ W p q x (loop_again j r) (same_parts Γ x i us (O (loop_size i)) A y z r)
              (same_parts Γ x i us (O (loop_size i)) A (meant a) (meant b) r) (point A M
              (loop_closing Γ x (loop_again j r) (same_parts Γ x i us (O (loop_size i)) A (meant a) (meant b) r)
              (O (same_size Γ x i us (O (loop_size i)) A r)) A ++ rs)))
              ∙ ap (λ (n : Line). loop_tree_of F B Γ W p q n (point A M (closing_of Γ p M A n ++ rs))) (sym f)
              ∙ d.is (closing ++ rs)
              ∙ ap (point (set_of s₁) (marks_of c₁)) (sym (append_assoc d.added _ rs));
          wrote = wrote_then v d.wrote;
          long = d.long;
        }
    loop_line (L.Unary x kind a) m e f v d = absurd (false_true e)
    loop_line (L.Binary x kind a b) m e f v d = absurd (false_true e)
    loop_line (L.Call x i n) m e f v d = absurd (false_true e)
    loop_line (L.Literal x i n) m e f v d = absurd (false_true e)
    loop_line (L.If x g) m e f v d = absurd (false_true e)
