-- Laws of the rows of loops: one for each way out of what writes them.
use Rattle.prelude.specs.Kit.{ℕ, ◌+◌, arith, true, false, Bool, ◌&&◌, ◌||◌, ◌≡◌, refl, ◌∙◌, ap, fun_ext, []}
use Rattle.prelude.specs.Kit.{◌∷◌, ◌++◌, eqb, ltb, List, map, sym, or-false, ◌≤◌, ◌<◌, ℕ_discrete}
use Rattle.semantics.specs.Basics.{with_if}
use Rattle.semantics.specs.Kinds.{Loop, mapping, filtering, reducing, rewriting, loop_kind, loop_reads}
use Rattle.semantics.specs.Code as C
use Rattle.semantics.specs.Live.{Set, is, only, just, among, ◌∪◌}
use Rattle.semantics.specs.Annotate.{NameDepths, is_array, arrays, dying, handed_again}
use Rattle.plain_rows.specs.Plain.{meant, loop_of, loop_size, of_loop}
use Rattle.plain_rows.specs.Parts.{below, retain_rows, release_rows, handed_one, pass_opening, loop_closing}
use Rattle.plain_rows.specs.Parts.{written_as}
use Rattle.plain_rows.specs.Marks.{Marks}
use Rattle.plain_rows.specs.Walk.{since}
use Rattle.kinds.specs.declared.Atom.{Atom}
use Rattle.plain_rows.specs.declared.Line.{Line}
use Rattle.plain_rows.specs.declared.Line.TheVariants as L
use Rattle.plain_rows.proofs.Rows.{no_reduce}
use Rattle.annotate_loops.specs.Loops.{read_of, written_line, opening_of, closing_of}

-- ---- lines that are no loops

-- no loop
abbrev pub NotLoop : Line → Type 0
NotLoop l = (x kind y z : ℕ) (a b : Atom) → l ≡ L.Loop x kind y z a b → ⊥

not_loop : (l : Line) → NotLoop l → (P : Line → Type 0) →
    ((x kind : ℕ) (a : Atom) → P (L.Unary x kind a)) → ((x kind : ℕ) (a b : Atom) → P (L.Binary x kind a b)) →
    ((x f m : ℕ) → P (L.Call x f m)) → ((x d m : ℕ) → P (L.Literal x d m)) → ((x : ℕ) (g : Atom) → P (L.If x g)) → P l
not_loop (L.Unary x kind a) h P u b c l i = u x kind a
not_loop (L.Binary x kind a e) h P u b c l i = b x kind a e
not_loop (L.Call x f m) h P u b c l i = c x f m
not_loop (L.Literal x d m) h P u b c l i = l x d m
not_loop (L.If x g) h P u b c l i = i x g
not_loop (L.Loop x kind y z a e) h P u b c l i = absurd (h x kind y z a e refl)

module _ (Γ : NameDepths) (l : Line) (h : NotLoop l) where
  pub no_opening : (T : Set) → [] ≡ opening_of Γ T l
  unfolding opening_of
  no_opening T = not_loop l h (λ i. [] ≡ opening_of Γ T i) (λ x kind a. refl) (λ x kind a b. refl) (λ x f m. refl)
      (λ x d m. refl) (λ x g. refl)

  pub no_closing : (p : ℕ) (M : Marks) (A : Set) → [] ≡ closing_of Γ p M A l
  unfolding closing_of
  no_closing p M A = not_loop l h (λ i. [] ≡ closing_of Γ p M A i) (λ x kind a. refl) (λ x kind a b. refl)
      (λ x f m. refl) (λ x d m. refl) (λ x g. refl)

-- ---- the opening of a pass

module _ (Γ : NameDepths) (T : Set) where
  opening_of_one : (y : ℕ) →
      retain_rows (with_if (is_array Γ y) y []) ++ release_rows (dying Γ (only y) T)
      ≡ retain_rows (with_if (is_array Γ y) y []) ++ release_rows (dying Γ (just (y ∷ [])) T)
  opening_of_one y =
      ap (λ (S : Set). retain_rows (with_if (is_array Γ y) y []) ++ release_rows (dying Γ S T))
      (fun_ext (λ v. sym (or-false (eqb y v))))

  pub opening_one : (kind y z : ℕ) → (kind ≡ 20 → ⊥) →
      retain_rows (with_if (is_array Γ y) y []) ++ release_rows (dying Γ (only y) T)
      ≡ pass_opening Γ (loop_of kind) (of_loop (loop_of kind) y z) T
  unfolding arrays
  opening_one kind y z n =
      no_reduce (λ k. retain_rows (with_if (is_array Γ y) y []) ++ release_rows (dying Γ (only y) T)
      ≡ pass_opening Γ k (of_loop k y z) T) kind n (opening_of_one y) (opening_of_one y) (opening_of_one y)

  pub opening_two : (y z : ℕ) →
      retain_rows (with_if (is_array Γ z) z []) ++ release_rows (dying Γ (only y ∪ only z) T)
      ≡ pass_opening Γ reducing (y ∷ (z ∷ [])) T
  unfolding arrays
  opening_two y z =
      ap (λ (S : Set). retain_rows (with_if (is_array Γ z) z []) ++ release_rows (dying Γ S T))
      (fun_ext (λ v. ap (λ (b : Bool). eqb y v || b) (sym (or-false (eqb z v)))))

-- ---- a loop's own rows

-- the row of a reduce's second atom
abbrev pub seconds : Loop → C.Atom → List C.Row
seconds mapping b = []
seconds filtering b = []
seconds reducing b = C.atom_row b ∷ []
seconds rewriting b = []

pub own_rows : (k : Loop) (n : ℕ) (a b : C.Atom) →
    C.row (loop_kind k) n ∷ (C.atom_row a ∷ seconds k b) ≡ C.row (loop_kind k) n ∷ map C.atom_row (of_loop k a b)
own_rows mapping n a b = refl
own_rows filtering n a b = refl
own_rows reducing n a b = refl
own_rows rewriting n a b = refl

-- ---- the retain of a start, and the releases after a loop

pub start_one : (Γ : NameDepths) (a : C.Atom) (S : Set) → handed_one Γ a S ≡ handed_again Γ (a ∷ []) S
unfolding handed_one handed_again among
start_one Γ (C.number z) S = refl
start_one Γ (C.name x) S = refl

-- the loops that are handed something
pub hands_over : (P : Loop → Type 0) (kind : ℕ) → 20 ≤ kind → kind < 22 → P reducing → P rewriting → P (loop_of kind)
hands_over P kind h g r w = go (ℕ_discrete kind 20)
  where
    go : Dec (kind ≡ 20) → P (loop_of kind)
    go (yes e) = rw e r
    go (no f) = let e : kind ≡ 21 = omega (arith, f) in rw e w

used_below : (x : ℕ) (A S : Set) → below x (A ∪ S) ≡ below x (A ∪ below x S)
used_below x A S = fun_ext (λ y. go (ltb y x) (A y) (S y))
  where
    go : (l a s : Bool) → l && (a || s) ≡ l && (a || (l && s))
    go true a s = refl
    go false a s = refl

module _ (Γ : NameDepths) (p x : ℕ) (M : Marks) (A : Set) where
  pub closing_rows : (k : Loop) (a b c : Atom) (row n : ℕ) → meant c ≡ read_of k (meant a) (meant b) →
      n ≡ loop_size k → row ≡ p + 1 + n →
      release_rows (dying Γ (below x (is (meant c) ∪ since row M)) A) ++ release_rows (dying Γ (only x) A)
      ≡ loop_closing Γ x k (of_loop k (meant a) (meant b))
      (below x (since (p + 1 + loop_size k) M)) A
  unfolding among
  closing_rows k a b c row n e f g =
      rw (e, g, f)
      (ap (λ (S : Set). release_rows (dying Γ S A) ++ release_rows (dying Γ (only x) A))
      (used_below x (is (read_of k (meant a) (meant b))) (since (p + 1 + loop_size k) M) ∙ by k))
    where
      by : (k : Loop) → below x (is (read_of k (meant a) (meant b)) ∪ below x (since (p + 1 + loop_size k) M))
          ≡ below x (among (loop_reads k (of_loop k (meant a) (meant b))) (below x (since (p + 1 + loop_size k) M)))
      by mapping = refl
      by filtering = refl
      by reducing = refl
      by rewriting = refl

-- ---- the loop that is written

-- only a map's array matters
by_array : (Γ : NameDepths) (x : ℕ) (k : Loop) (a b : C.Atom) (O A : Set) →
    written_as Γ x k (a ∷ []) O A ≡ written_as Γ x k (of_loop k a b) O A
by_array Γ x mapping a b O A = refl
by_array Γ x filtering a b O A = refl
by_array Γ x reducing a b O A = refl
by_array Γ x rewriting a b O A = refl

module _ (Γ : NameDepths) (p : ℕ) (M : Marks) (A : Set) where
  pub line_written : (x kind y z : ℕ) (a b : Atom) (n row k : ℕ) → n ≡ loop_size (loop_of kind) → row ≡ p + 1 + n →
      k ≡ loop_kind (written_as Γ x (loop_of kind) (meant a ∷ []) (below x (since row M)) A) →
      L.Loop x k y z a b ≡ written_line Γ p M A (L.Loop x kind y z a b)
  unfolding written_line
  line_written x kind y z a b n row k e f g =
      ap (λ (i : ℕ). L.Loop x i y z a b)
      (g ∙ ap (λ (r : ℕ). loop_kind (written_as Γ x (loop_of kind) (meant a ∷ []) (below x (since r M)) A))
      (f ∙ ap (λ (m : ℕ). p + 1 + m) e)
      ∙ ap loop_kind (by_array Γ x (loop_of kind) (meant a) (meant b) _ A))

  pub others_written : (l : Line) → NotLoop l → l ≡ written_line Γ p M A l
  unfolding written_line
  others_written l h =
      not_loop l h (λ i. i ≡ written_line Γ p M A i) (λ x kind a. refl) (λ x kind a b. refl) (λ x f m. refl)
      (λ x d m. refl) (λ x g. refl)
