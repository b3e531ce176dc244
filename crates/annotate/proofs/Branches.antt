-- Laws of the walk of an if's trees and of a loop's tree: what was written and taken back is what the walk says.
use Rattle.prelude.specs.Kit.{ℕ, ◌+◌, ◌-◌, arith, Bool, ◌≡◌, refl, ◌∙◌, sym, ap, List, [], ◌∷◌, ◌++◌, append_assoc, ℤ}
use Rattle.prelude.specs.Kit.{length}
use Rattle.semantics.specs.Kinds.{Loop, mapping, filtering, reducing, rewriting, loop_hands, loop_reads, Borrowing}
use Rattle.semantics.specs.Code as C
use Rattle.semantics.specs.Code.{Row, row, atom_row}
use Rattle.semantics.specs.Live.{Set, is, among, ◌∪◌, ◌∖◌}
use Rattle.semantics.specs.Annotate.{NameDepths, dying, handed_again}
use Rattle.plain_rows.specs.Plain.{Plain, set_of, meant, loop_of, loop_size, of_loop}
use Rattle.plain_rows.specs.Parts.{below, retain_rows, release_rows, loop_own, pass_opening}
use Rattle.plain_rows.specs.Marks.{Marks, marked, marks_of}
use Rattle.plain_rows.specs.Walk.{Point, point, since, then_end, unmarked, unmarked_all, then_walk, if_head, if_trees}
use Rattle.plain_rows.specs.Walk.{loop_head, loop_tree}
use Rattle.kinds.specs.declared.Atom.{Atom}
use Rattle.plain_rows.specs.declared.Line.{Line}
use Rattle.plain_rows.specs.declared.Line.TheVariants as L
use Rattle.annotate_rows.specs.Wrote.{Wrote}
use Rattle.annotate_marks.specs.Took.{Took}
use Rattle.annotate_loops.specs.Loops.{second_of, opening_of}
use Rattle.annotate_rows.proofs.Rows.{wrote_then}
use Rattle.annotate.specs.Walks.{Walks, loop_tree_of}
use Rattle.plain_rows.proofs.Rows.{of_size}
use Rattle.annotate.proofs.Lines.{same_point}

four : (a b c d e : List Row) → a ++ (b ++ (c ++ (d ++ e))) ≡ (a ++ (b ++ (c ++ d))) ++ e
four a b c d e = simp append_assoc

joined : (a b c d e : List Row) → a ++ (b ++ (c ++ (d ++ e))) ≡ (a ++ ((b ++ c) ++ d)) ++ e
joined a b c d e = simp append_assoc

-- ---- an if

module _ (F : Plain) (B : Borrowing) (Γ : NameDepths) (W : ℕ → Point → Point) (p q x : ℕ) (g : C.Atom)
    (s₀ s₁ s₂ j s : List Bool) {c c₁ c₂ c₃ k k₁ k₂ k₃ k₄ k₅ k₆ : List ℕ} {o o₁ o₂ o₃ o₄ o₅ o₆ : List ℤ}
    {w u₁ v₁ u₂ v₂ w₂ w₃ : ℕ} (e t : ℕ) where
  module _
      (he : e ≡ q - 2) (ht : t ≡ then_end F.notes p)
      (d₁ : Walks (W e) s₀ c k o w s₁ c₁ k₁ o₁ u₁)
      (y₂ : Wrote k₁ o₁ k₂ o₂ u₁ v₁
      (release_rows (dying Γ (below x (since (p + 2) (marks_of c₁))) (set_of s₁))))
      (d₂ : Walks (W t) s₀ c₁ k₂ o₂ v₁ s₂ c₂ k₃ o₃ u₂)
      (y₃ : Wrote k₃ o₃ k₄ o₄ u₂ v₂ (release_rows (dying Γ (below x (set_of s₁)) (set_of s₂))))
      (y₄ : Wrote k₄ o₄ k₅ o₅ v₂ w₂ (atom_row g ∷ [])) (y₅ : Wrote k₅ o₅ k₆ o₆ w₂ w₃ (row 12 x ∷ []))
      (hj : set_of j ≡ set_of s₂ ∪ set_of s₁)
      (tk : Took (is g ∪ set_of j) (unmarked F.notes (p + 1) g (marks_of c₂)) s c₃) where
    abbrev R₂ : List Row
    R₂ = release_rows (dying Γ (below x (since (p + 2) (marks_of c₁))) (set_of s₁))

    abbrev R₃ : List Row
    R₃ = release_rows (dying Γ (below x (set_of s₁)) (set_of s₂))

    then_is : (rs : List Row) →
        then_walk F B Γ W p x (set_of s₀) (point (set_of s₁) (marks_of c₁) rs)
        ≡ point (set_of s₂) (marks_of c₂) (d₂.added ++ (R₂ ++ rs))
    unfolding then_walk
    then_is rs =
        ap (λ (i : ℕ). W i (point (set_of s₀) (marks_of c₁) (R₂ ++ rs))) (sym ht) ∙ d₂.is (R₂ ++ rs)

    pub if_done : Walks (if_trees F B Γ W p q x g) s₀ c k o w s c₃ k₆ o₆ w₃
    unfolding if_trees among unmarked_all
    if_done = record {
      added = (row 12 x ∷ []) ++ ((atom_row g ∷ []) ++ (R₃ ++ (d₂.added ++ (R₂ ++ d₁.added))));
      is = λ rs.
          ap (λ (E : Point). if_head F B Γ W p x g E (then_walk F B Γ W p x (set_of s₀) E))
          (ap (λ (i : ℕ). W i (point (set_of s₀) (marks_of c) rs)) (sym he) ∙ d₁.is rs)
          ∙ ap (if_head F B Γ W p x g (point (set_of s₁) (marks_of c₁) (d₁.added ++ rs))) (then_is (d₁.added ++ rs))
          ∙ same_point (sym (tk.names ∙ ap (λ (A : Set). is g ∪ A) hj)) (sym tk.marks)
          (ap (λ (l : List Row). row 12 x ∷ (atom_row g ∷ l)) (four R₃ d₂.added R₂ d₁.added rs));
      wrote = wrote_then (wrote_then (wrote_then (wrote_then (wrote_then d₁.wrote y₂) d₂.wrote) y₃) y₄) y₅;
      long = tk.long;
    }

-- ---- a loop

-- its atoms taken back, the second first
module _ (j : Loop) (a b : C.Atom) where
  uses_are : (A : Set) → is a ∪ (is (second_of j b) ∪ A) ≡ among (of_loop j a b) A
  unfolding among
  uses_are A = by j
    where
      by : (j : Loop) → is a ∪ (is (second_of j b) ∪ A) ≡ among (of_loop j a b) A
      by mapping = refl
      by filtering = refl
      by reducing = refl
      by rewriting = refl

  marks_are : (notes : List ℕ) (p : ℕ) (M : Marks) →
      unmarked notes (p + 1) a (unmarked notes (p + 2) (second_of j b) M) ≡ unmarked_all notes (p + 1) (of_loop j a
      b) M
  unfolding unmarked_all marked
  marks_are notes p M = by j
    where
      by : (j : Loop) → unmarked notes (p + 1) a (unmarked notes (p + 2) (second_of j b) M)
          ≡ unmarked_all notes (p + 1) (of_loop j a b) M
      by mapping = refl
      by filtering = refl
      by reducing = ap (λ (r : ℕ). unmarked notes (p + 1) a (unmarked notes r b M))
          (let e : p + 2 ≡ p + 1 + 1 = omega arith in e)
      by rewriting = refl

  -- what is retained before it: a start that its array or its tree uses too, or what follows
  hands_are : (Γ : NameDepths) (A : Set) →
      handed_again Γ (loop_hands j (a ∷ [])) (is (second_of j b) ∪ A)
      ≡ handed_again Γ (loop_hands j (of_loop j a b)) (among (loop_reads j (of_loop j a b)) A)
  unfolding handed_again among
  hands_are Γ A = by j
    where
      by : (j : Loop) → handed_again Γ (loop_hands j (a ∷ [])) (is (second_of j b) ∪ A)
          ≡ handed_again Γ (loop_hands j (of_loop j a b)) (among (loop_reads j (of_loop j a b)) A)
      by mapping = refl
      by filtering = refl
      by reducing = refl
      by rewriting = refl

module _ (F : Plain) (B : Borrowing) (Γ : NameDepths) (W : ℕ → Point → Point) (p q x kind y z : ℕ) (a b b₁ : Atom)
    (s₀ i t s₁ s : List Bool) {c c₁ c₂ c₃ k k₁ k₂ k₃ : List ℕ} {o o₁ o₂ o₃ : List ℤ} {w u v v₁ : ℕ} {l : Line} (n e
    : ℕ) where
  module _ (hn : n ≡ loop_size (loop_of kind)) (he : e ≡ q - 2)
      (hi : set_of i ≡ below x (since (p + 1 + n) (marks_of c)) ∪ set_of s₀ ∖ x)
      (d : Walks (W e) i c k o w t c₁ k₁ o₁ u)
      (hl : l ≡ L.Loop x kind y z a b)
      (y₁ : Wrote k₁ o₁ k₂ o₂ u v (opening_of Γ (set_of t) (L.Loop x kind y z a b)))
      (hb : meant b₁ ≡ second_of (loop_of kind) (meant b))
      (t₁ : Took (is (meant b₁) ∪ set_of i) (unmarked F.notes (p + 2) (meant b₁) (marks_of c₁)) s₁ c₂)
      (y₂ : Wrote k₂ o₂ k₃ o₃ v v₁
      (retain_rows (handed_again Γ (loop_hands (loop_of kind) (meant a ∷ [])) (set_of s₁))))
      (t₂ : Took (is (meant a) ∪ set_of s₁) (unmarked F.notes (p + 1) (meant a) (marks_of c₂)) s c₃) where
    abbrev j : Loop
    j = loop_of kind

    abbrev us : List C.Atom
    us = of_loop j (meant a) (meant b)

    abbrev own : List Row
    own = loop_own x j (of_loop j y z) us

    abbrev opening : List Row
    opening = pass_opening Γ j (of_loop j y z) (set_of t)

    abbrev hands : Set → List Row
    hands S = retain_rows (handed_again Γ (loop_hands j (meant a ∷ [])) S)

    -- live after the tree, and after the array is taken back
    pass_is : below x (since (p + 1 + length us) (marks_of c)) ∪ set_of s₀ ∖ x ≡ set_of i
    pass_is =
        ap (λ (m : ℕ). below x (since (p + 1 + m) (marks_of c)) ∪ set_of s₀ ∖ x)
        (of_size j (meant a) (meant b) ∙ sym hn) ∙ sym hi

    later : set_of s₁ ≡ is (second_of j (meant b)) ∪ set_of i
    later = t₁.names ∙ ap (λ (v : C.Atom). is v ∪ set_of i) hb

    names_are : among us (set_of i) ≡ set_of s
    names_are =
        sym (t₂.names ∙ ap (λ (A : Set). is (meant a) ∪ A) later ∙ uses_are j (meant a) (meant b) (set_of i))

    before : unmarked_all F.notes (p + 1) us (marks_of c₁) ≡ marks_of c₃
    before =
        sym (t₂.marks
        ∙ ap (unmarked F.notes (p + 1) (meant a)) (t₁.marks ∙ ap (λ (v : C.Atom). unmarked F.notes (p + 2) v
        (marks_of c₁)) hb)
        ∙ marks_are j (meant a) (meant b) F.notes p (marks_of c₁))

    hands_as : retain_rows (handed_again Γ (loop_hands j us) (among (loop_reads j us) (set_of i))) ≡ hands (set_of s₁)
    hands_as =
        sym (ap hands later ∙ ap (λ (l : List ℕ). retain_rows l) (hands_are j (meant a) (meant b) Γ (set_of i)))

    opened : Wrote k₁ o₁ k₂ o₂ u v (own ++ opening)
    unfolding opening_of
    opened = y₁

    pub loop_done : Walks (loop_tree_of F B Γ W p q l) s₀ c k o w s c₃ k₃ o₃ v₁
    unfolding loop_tree_of loop_tree
    loop_done = rw hl (record {
      added = hands (set_of s₁) ++ ((own ++ opening) ++ d.added);
      is = λ rs.
          (λ h. loop_head F B Γ W p x j (of_loop j y z) us (pass_is h) (W (sym he h) (point (pass_is h) (marks_of c)
          rs)))
          ∙ ap (loop_head F B Γ W p x j (of_loop j y z) us (set_of i)) (d.is rs)
          ∙ same_point names_are before
          (ap (λ (l : List Row). l ++ (own ++ (opening ++ (d.added ++ rs)))) hands_as
          ∙ joined (hands (set_of s₁)) own opening d.added rs);
      wrote = wrote_then (wrote_then d.wrote opened) y₂;
      long = t₂.long;
    })
