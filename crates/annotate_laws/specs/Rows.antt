-- The rows of annotated lines, in the order in which the walk puts them before the rows that follow.
use Rattle.std.specs.Prelude.{ℕ, ◌+◌, ◌&&◌, ◌≡◌, refl, List, [], ◌∷◌, ◌++◌}
use Rattle.prelude.specs.Kit.{◌∙◌, sym, ap, append_assoc, map-append}
use Rattle.semantics.specs.Basics.{with_if}
use Rattle.semantics.specs.Kinds.{Leaf, leaf_hands, leaf_reads, is_pending, Loop, Borrowing}
use Rattle.semantics.specs.Code.{Atom, number, name, Line, leaf, if_else, loop, Tree, end, line}
use Rattle.semantics.specs.Code.{retain_all, release_all, Row, row, atom_row, rows, line_rows}
use Rattle.semantics.specs.Live.{Set, empty, only, among, ◌∪◌}
use Rattle.semantics.specs.Annotate.{NameDepths, is_array, dying, handed_again, full_style, annotate, annotate_line}
use Rattle.plain_rows.specs.Parts.{retain_rows, release_rows, handed_one, leaf_part, loop_own, ending}

-- ---- retains and releases before a tree

rows_retains : (xs : List ℕ) (t : Tree) → rows (retain_all xs t) ≡ retain_rows xs ++ rows t
unfolding rows
rows_retains [] t = refl
rows_retains (x ∷ xs) t = ap (λ (l : List Row). row 14 x ∷ l) (rows_retains xs t)

pub rows_releases : (xs : List ℕ) (t : Tree) → rows (release_all xs t) ≡ release_rows xs ++ rows t
unfolding rows
rows_releases [] t = refl
rows_releases (x ∷ xs) t = ap (λ (l : List Row). row 15 x ∷ l) (rows_releases xs t)

-- a tree opened by retains and releases
opened : (ns ds : List ℕ) (t : Tree) →
    rows (retain_all ns (release_all ds t)) ≡ retain_rows ns ++ (release_rows ds ++ rows t)
opened ns ds t = rows_retains ns (release_all ds t) ∙ rw (rows_releases ds t)

-- a line between retains before it, and retains and releases after it
around : (hs ns ds : List ℕ) (l : Line) (k : Tree) →
    (retain_rows hs ++ (line_rows l ++ (retain_rows ns ++ release_rows ds))) ++ rows k
    ≡ rows (retain_all hs (line l (retain_all ns (release_all ds k))))
unfolding rows
around hs ns ds l k =
    sym (rows_retains hs (line l (retain_all ns (release_all ds k)))
    ∙ rw (rows_retains ns (release_all ds k), rows_releases ds k) (simp append_assoc))

-- ---- the lines

join_if : (v a b c d e k rs tb eb ke : List Row) → tb ≡ a ++ b → eb ≡ c ++ d → ke ≡ e ++ k →
    v ++ (a ++ (b ++ (c ++ (d ++ (e ++ (k ++ rs)))))) ≡ ((v ++ (tb ++ eb)) ++ ke) ++ rs
join_if v a b c d e k rs tb eb ke f g h = rw (f, g, h) (simp append_assoc)

join_loop : (h v q r b o w k rs tb ow : List Row) → tb ≡ q ++ (r ++ b) → ow ≡ o ++ w →
    h ++ (v ++ ((q ++ r) ++ (b ++ ((o ++ w) ++ (k ++ rs))))) ≡ ((h ++ ((v ++ tb) ++ ow)) ++ k) ++ rs
join_loop h v q r b o w k rs tb ow f g = rw (f, g) (simp append_assoc)

-- an if whose trees are opened by releases
pub if_shape : (x : ℕ) (g : Atom) (ts es ds : List ℕ) (t e k : Tree) (rs : List Row) →
    (row 12 x ∷ (atom_row g ∷ []))
    ++ (release_rows ts ++ (rows t ++ (release_rows es ++ (rows e ++ (release_rows ds ++ (rows k ++ rs))))))
    ≡ rows (line (if_else x g (release_all ts t) (release_all es e)) (release_all ds k)) ++ rs
unfolding rows
if_shape x g ts es ds t e k rs =
    join_if (row 12 x ∷ (atom_row g ∷ [])) (release_rows ts) (rows t) (release_rows es) (rows e) (release_rows ds)
    (rows k) rs _ _ _ (rows_releases ts t) (rows_releases es e) (rows_releases ds k)

-- a loop whose tree is opened by retains and releases, and which releases in two parts
pub loop_shape : (x : ℕ) (j : Loop) (ps : List ℕ) (us : List Atom) (hs ns ds os ws : List ℕ) (t k : Tree)
    (rs : List Row) →
    retain_rows hs ++ (loop_own x j ps us
    ++ ((retain_rows ns ++ release_rows ds) ++ (rows t ++ ((release_rows os ++ release_rows ws) ++ (rows k ++ rs)))))
    ≡ rows (retain_all hs (line (loop x j ps us (retain_all ns (release_all ds t))) (release_all (os ++ ws) k))) ++ rs
unfolding rows
loop_shape x j ps us hs ns ds os ws t k rs =
    join_loop (retain_rows hs) (loop_own x j ps us) (retain_rows ns)
    (release_rows ds) (rows t) (release_rows os) (release_rows ws) (rows k) rs _ _ (opened ns ds t)
    (map-append _ os ws)
    ∙ ap (λ (l : List Row). l ++ rs) (around hs [] (os ++ ws) (loop x j ps us (retain_all ns (release_all ds t))) k)

module _ (B : Borrowing) (Γ : NameDepths) where
  pub leaf_rows : (x : ℕ) (l : Leaf) (us : List Atom) (A : Set) (k : Tree) (rs : List Row) →
      leaf_part B Γ x l us A ++ (rows k ++ rs) ≡ rows (annotate_line full_style B Γ (leaf x l us) A k) ++ rs
  unfolding annotate rows
  leaf_rows x l us A k rs =
      sym (append_assoc (leaf_part B Γ x l us A) (rows k) rs)
      ∙ ap (λ (qs : List Row). qs ++ rs) (around (handed_again Γ (leaf_hands B l us) (among (leaf_reads B l us) empty ∪
      A))
      (with_if (is_pending l && is_array Γ x) x []) (dying Γ (among (leaf_reads B l us) empty ∪ only x) A)
      (leaf x l us) k)

  handed_alone : (a : Atom) (L : Set) → handed_one Γ a L ≡ handed_again Γ (a ∷ []) L
  unfolding handed_one handed_again among
  handed_alone (number z) L = refl
  handed_alone (name x) L = refl

  pub end_rows : (a : Atom) (L : Set) (rs : List Row) → ending Γ a L ++ rs ≡ rows (annotate full_style B Γ (end
      a) L) ++ rs
  unfolding annotate rows
  end_rows a L rs =
      ap (λ (xs : List ℕ). (retain_rows xs ++ rows (end a)) ++ rs) (handed_alone a L)
      ∙ sym (ap (λ (qs : List Row). qs ++ rs) (rows_retains (handed_again Γ (a ∷ []) L) (end a)))
