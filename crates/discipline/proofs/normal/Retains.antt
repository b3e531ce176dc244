-- Retains and releases do nothing on values, and a map that rewrites its array is a map: an annotated tree runs as the
-- plain one.
use Rattle.prelude.specs.Kit.{ℕ, true, false, Bool, cond, ◌&&◌, ◌≡◌, refl, ◌∙◌, ap, List, [], ◌∷◌, map, ltb, length}
use Rattle.semantics.specs.Basics.{with_if, updated}
use Rattle.semantics.specs.Outcome.{◌>>=◌, give, onward}
use Rattle.semantics.specs.Value.{Value}
use Rattle.semantics.specs.Syntax.{Function, Script}
use Rattle.semantics.specs.Meaning.{Work, Callee, Env, do_if, do_pass, do_loop, binding}
use Rattle.semantics.specs.Kinds.{Loop, mapping, filtering, reducing, rewriting, Borrowing, element_name, loop_reads}
use Rattle.semantics.specs.Kinds.{loop_hands, leaf_reads, leaf_hands, is_pending}
use Rattle.semantics.specs.Code.{Atom, Line, leaf, if_else, loop, retain, release, Tree, end, line, retain_all}
use Rattle.semantics.specs.Code.{release_all}
use Rattle.semantics.specs.Normal.{normal_body}
use Rattle.semantics.specs.Live.{Set, empty, ◌∪◌, ◌∖◌, ◌∖∖◌, only, just, among, live, uses, after_branch, after_pass}
use Rattle.semantics.specs.Annotate.{NameDepths, is_array, arrays, dying, handed_again, annotate, annotate_line, Style}
use Rattle.semantics.specs.Annotate.{rewritable, written, owned_depths, annotated_in}
use Rattle.semantics.specs.Borrow.{Table, borrows}
use Rattle.semantics.specs.Plain.{value, run, run_line}

-- the loop that is written means the same
written_means : (style : Style) (B : Borrowing) (Γ : NameDepths) (i : Loop) (x : ℕ) (ps : List ℕ) (us : List Atom)
    (t : Tree) (A : Set) → do_loop (written style B Γ i x ps us t A) ≡ do_loop i
unfolding do_loop do_pass
written_means style B Γ mapping x ps us t A = either (rewritable style B Γ x ps us t A)
  where
    either : (b : Bool) → do_loop (cond b rewriting mapping) ≡ do_loop mapping
    either true = refl
    either false = refl
written_means style B Γ filtering x ps us t A = refl
written_means style B Γ reducing x ps us t A = refl
written_means style B Γ rewriting x ps us t A = refl

module _ (callee : Callee) where
  pub run_retain_all : (xs : List ℕ) (t : Tree) → run callee (retain_all xs t) ≡ run callee t
  unfolding run onward
  run_retain_all [] t = refl
  run_retain_all (x ∷ xs) t = run_retain_all xs t

  pub run_release_all : (xs : List ℕ) (t : Tree) → run callee (release_all xs t) ≡ run callee t
  unfolding run onward
  run_release_all [] t = refl
  run_release_all (x ∷ xs) t = run_release_all xs t

  abbrev after_line : Line → (Env → Work Value) → Env → Work Value
  after_line l f = λ δ. run_line callee l δ >>= f

  -- a line before trees that run alike
  run_after : (l : Line) {f f' : Env → Work Value} → f ≡ f' → after_line l f ≡ after_line l f'
  run_after l e = ap (after_line l) e

  module _ (style : Style) (B : Borrowing) (Γ : NameDepths) where
    mutual
      unfolding annotate run onward

      pub run_annotate : (t : Tree) (L : Set) → run callee (annotate style B Γ t L) ≡ run callee t
      run_annotate (end a) L = run_retain_all (handed_again Γ (a ∷ []) L) (end a)
      run_annotate (line l t) L = run_annotate_line l (live t L) (annotate style B Γ t L) t (run_annotate t L)

      pub run_annotate_line : (l : Line) (A : Set) (k t : Tree) → run callee k ≡ run callee t →
          run callee (annotate_line style B Γ l A k) ≡ run callee (line l t)
      run_annotate_line (leaf x l us) A k t e =
          let R = among (leaf_reads B l us) empty in
          let k' = release_all (dying Γ (R ∪ only x) A) k in
          let ys = with_if (is_pending l && is_array Γ x) x [] in
          run_retain_all (handed_again Γ (leaf_hands B l us) (R ∪ A)) (line (leaf x l us) (retain_all ys k'))
          ∙ run_after (leaf x l us) (run_retain_all ys k' ∙ run_release_all (dying Γ (R ∪ only x) A) k ∙ e)
      run_annotate_line (if_else x g t₁ t₂) A k t e =
          let L = after_branch x A in
          let e₁ = run_release_all (dying Γ (uses t₂) (live t₁ L)) (annotate style B Γ t₁ L) ∙ run_annotate t₁ L in
          let e₂ = run_release_all (dying Γ (uses t₁) (live t₂ L)) (annotate style B Γ t₂ L) ∙ run_annotate t₂ L in
          let e₃ = run_release_all (dying Γ (only x) A) k ∙ e in
          λ i δ m. onward (e₃ i) (onward (λ v. give (updated δ x v)) (do_if (value δ g) (e₁ i δ) (e₂ i δ) m))
      run_annotate_line (loop x i ps us t₁) A k t e =
          let j = written style B Γ i x ps us t₁ A in
          let L = after_pass x ps t₁ A in
          let R = among (loop_reads j us) (uses t₁ ∖∖ ps) in
          let t₂ = release_all (dying Γ (just ps) (live t₁ L)) (annotate style B Γ t₁ L) in
          let t' = retain_all (arrays Γ (element_name j ps)) t₂ in
          let e₁ = run_retain_all (arrays Γ (element_name j ps)) t₂
          ∙ run_release_all (dying Γ (just ps) (live t₁ L)) (annotate style B Γ t₁ L) ∙ run_annotate t₁ L in
          let e₃ = run_release_all (dying Γ (R ∪ only x) A) k ∙ e in
          run_retain_all (handed_again Γ (loop_hands j us) (R ∪ A))
          (line (loop x j ps us t') (release_all (dying Γ (R ∪ only x) A) k))
          ∙ (λ p δ m. onward (e₃ p) (onward (λ v. give (updated δ x v))
          (written_means style B Γ i x ps us t₁ A p (map (value δ) us) (λ ws. e₁ p (binding ps ws δ)) m)))
      run_annotate_line (retain x) A k t e = run_after (retain x) e
      run_annotate_line (release x) A k t e = run_after (release x) e

  -- a function's annotated tree
  pub run_annotated : (style : Style) (fs : Script) (T : Table) (f : ℕ) (g : Function) →
      run callee (annotated_in style fs T f g) ≡ run callee (normal_body g)
  unfolding annotated_in
  run_annotated style fs T f g =
      let Γ = owned_depths fs T f g in
      let t = normal_body g in
      run_release_all (dying Γ (λ x. ltb x (length g.parameters)) (uses t)) (annotate style (borrows T) Γ t empty)
      ∙ run_annotate style (borrows T) Γ t empty
