-- The code of one function: all its parts together.
use Rattle.prelude.specs.Kit.{ℕ, ◌≤◌, ◌+◌, ◌<◌, ◌-◌, suc, zero, arith, dec_lt, true, false, Bool, ◌&&◌, ◌≡◌, refl, ◌∙◌}
use Rattle.prelude.specs.Kit.{sym, ap, fun_ext, List, [], ◌++◌, append-nil, ltb, ℤ, length, get_or, replicate, lt-ltb}
use Rattle.prelude.specs.Kit.{le-ltb}
use Rattle.semantics.specs.Syntax.{Function}
use Rattle.semantics.specs.File.{at_function}
use Rattle.semantics.specs.Code.{Row, rows, release_all}
use Rattle.semantics.specs.Normal.{normal_body}
use Rattle.semantics.specs.Live.{Set, empty, uses}
use Rattle.semantics.specs.Borrow.{Table, borrows}
use Rattle.semantics.specs.Annotate.{NameDepths, dying, full_style, annotate}
use Rattle.script_read.specs.Told.{low_at}
use Rattle.script_read.proofs.Tables.{none_set}
use Rattle.plain_rows.specs.Plain.{plain, set_of}
use Rattle.plain_rows.specs.Parts.{depth_in, below, release_rows}
use Rattle.plain_rows.specs.Marks.{Marks, marks_of, marks}
use Rattle.plain_rows.specs.Walk.{Point, point, tree_walk}
use Rattle.annotate_laws.specs.Rows.{rows_releases}
use Rattle.annotate_laws.specs.Whole.{body_walk}
use Rattle.annotate_rows.specs.Wrote.{Wrote}
use Rattle.annotate_rows.proofs.Rows.{wrote_then, wrote_as}
use Rattle.annotate.specs.Walks.{Walks}
use Rattle.flatten_functions.specs.Read.{read_function, depths_by, Fitting, FunctionLaid}
use Rattle.flatten_functions.proofs.Parameters.{length_parameters}
use Rattle.translate_script.specs.Rows.{owned_of, owned_by, head_rows, rows_by}

-- ---- sets to begin with

pub no_names : set_of (replicate 256 false) ≡ empty
no_names = fun_ext (λ x. none_set {A = Bool} false 256 x)

-- all names below c
all_there : (n x : ℕ) → x < n → get_or (replicate n true) x false ≡ true
all_there zero x h = absurd (let f : ⊥ = omega arith in f)
all_there (suc n) zero h = refl
all_there (suc n) (suc x) h = all_there n x (omega arith)

pub names_below : (c : ℕ) → c ≤ 256 → below c (set_of (replicate 256 true)) ≡ (λ x. ltb x c)
names_below c h = fun_ext (λ x. go x (dec_lt x c))
  where
    go : (x : ℕ) → Dec (x < c) → ltb x c && get_or (replicate 256 true) x false ≡ ltb x c
    go x (yes l) = rw (lt-ltb x c l) (all_there 256 x (omega arith))
    go x (no f) = rw (le-ltb x c (omega (arith, f)))

-- ---- function f, at a node, and the places that are borrowed

module _ (k w results : List ℕ) (T : Table) (f at : ℕ) (fit : Fitting k w results at) where
  abbrev pub here : Function
  here = read_function k w at

  -- the depths by which its names are annotated
  abbrev Γ : NameDepths
  Γ = owned_by (λ f. get_or results f 0) T f here

  module _ (c : ℕ) (ce : c ≡ low_at k w at_function at) {rs ns ls ds : List ℕ} (os : List ℕ) {p : ℕ}
      (laid : FunctionLaid k w results at rs ns ls ds p) (own : depth_in os ≡ owned_of T f c (depth_in ds)) where
    count_is : c ≡ length here.parameters
    unfolding read_function
    count_is = ce ∙ sym (length_parameters k w at (at + 1) (low_at k w at_function at))

    depths_owned : depth_in os ≡ Γ
    unfolding owned_by
    depths_owned =
        own ∙ ap (owned_of T f c) laid.deep
        ∙ ap (λ (n : ℕ). owned_of T f n (depths_by (λ f. get_or results f 0) here)) count_is

    -- the walk of the body, the opening releases and the head
    pub code_wrote : {s' : List Bool} {c' k₀ k₁ k₂ k₃ : List ℕ} {o₀ o₁ o₂ o₃ : List ℤ} {w₀ w₁ w₂ w₃ : ℕ} →
        Walks (tree_walk (plain w rs ns) (borrows T) (depth_in os) 65 (p - 2)) (replicate 256 false) ls k₀ o₀ w₀
        s' c' k₁ o₁ w₁ →
        Wrote k₁ o₁ k₂ o₂ w₁ w₂
        (release_rows (dying (depth_in os) (below c (set_of (replicate 256 true))) (set_of s'))) →
        Wrote k₂ o₂ k₃ o₃ w₂ w₃ (head_rows here) →
        Wrote k₀ o₀ k₃ o₃ w₀ w₃ (rows_by (λ f. get_or results f 0) T f here)
    unfolding rows_by
    code_wrote {s'} {c'} walk opening head =
        wrote_as (ap (λ (l : List Row). head_rows here ++ l) body) (wrote_then (wrote_then walk.wrote opening)
        head)
      where
        seen : point (set_of s') (marks_of c') (walk.added ++ [])
            ≡ point (uses (normal_body here)) (λ _. 0) (rows (annotate full_style (borrows T) Γ (normal_body
            here) empty) ++ [])
        seen =
            sym (walk.is [])
            ∙ ap (λ (L : Set). tree_walk (plain w rs ns) (borrows T) (depth_in os) 65 (p - 2)
            (point L (marks_of ls) []))
            no_names
            ∙ ap (λ (N : Marks). tree_walk (plain w rs ns) (borrows T) (depth_in os) 65 (p - 2) (point empty N []))
            laid.marked
            ∙ ap (λ (Δ : NameDepths). tree_walk (plain w rs ns) (borrows T) Δ 65 (p - 2)
            (point empty (marks (normal_body here) 0 (λ _. 0)) [])) depths_owned
            ∙ ap (λ (n : ℕ). tree_walk (plain w rs ns) (borrows T) Γ 65 (n - 2)
            (point empty (marks (normal_body here) 0 (λ _. 0)) [])) (sym laid.wide)
            ∙ body_walk (plain w rs ns) (borrows T) Γ here 64 laid.stands (omega (arith, laid.wide, laid.few))
            empty []

        body : release_rows (dying (depth_in os) (below c (set_of (replicate 256 true))) (set_of s')) ++ walk.added
            ≡ rows (release_all (dying Γ (λ x. ltb x (length here.parameters)) (uses (normal_body here)))
            (annotate full_style (borrows T) Γ (normal_body here) empty))
        body =
            rw (depths_owned, names_below c (omega (arith, fit.few)), ap (λ (P : Point). P.names) seen)
            (ap (λ (l : List Row). release_rows (dying Γ (λ x. ltb x c) (uses (normal_body here))) ++ l)
            (sym (append-nil walk.added) ∙ ap (λ (P : Point). P.rows) seen ∙ append-nil _)
            ∙ ap (λ (n : ℕ). release_rows (dying Γ (λ x. ltb x n) (uses (normal_body here)))
            ++ rows (annotate full_style (borrows T) Γ (normal_body here) empty)) count_is
            ∙ sym (rows_releases (dying Γ (λ x. ltb x (length here.parameters)) (uses (normal_body here)))
            (annotate full_style (borrows T) Γ (normal_body here) empty)))
