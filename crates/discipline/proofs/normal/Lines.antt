-- `normal_run`: the lines of an expression do what the expression means, whatever the callee.
use Rattle.prelude.specs.Kit.{ℕ, ◌≤◌, ◌+◌, arith, ◌≡◌, refl, ◌∙◌, ap, fun_ext, List, [], ◌∷◌, map, length}
use Rattle.laws.specs.Updates.{updated_other, updated_same}
use Rattle.semantics.specs.Basics.{updated}
use Rattle.semantics.specs.Outcome.{Outcome, done, stop, ◌>>=◌, give, onward}
use Rattle.semantics.specs.Value.{Value, num}
use Rattle.semantics.specs.Syntax as S
use Rattle.semantics.specs.Syntax.{Expr, Exprs}
use Rattle.semantics.specs.Meaning.{Meter, Work, Callee, Env, do_leaf, do_if, do_loop, binding, eval, eval_all}
use Rattle.semantics.specs.Code.{Atom, number, name, Tree, end}
use Rattle.semantics.specs.Normal.{Meanings, fresh, fresh_all, atom, atoms, meaning_names, numbered, lines, all_lines}
use Rattle.semantics.specs.Normal.{normal}
use Rattle.semantics.specs.Plain.{value, run}
use Rattle.discipline.proofs.normal.Agree.{NamesAgree, EnvKept, value_kept, agree_kept, agree_updated, atom_below}
use Rattle.discipline.proofs.normal.Agree.{agree_binding}

module _ (callee : Callee) where
  -- Lines before the tree k do what an outcome says: `look` reads its answer in the environment that they leave.
  pub data Reach {A : Type 0} (δ : Env) (n : ℕ) (look : Env → A) (k : Tree) (o : Outcome Meter A)
      (whole : Outcome Meter Value) : Type 0 where
    ran : (v : A) (m : Meter) (δ' : Env) → o ≡ done v m → whole ≡ run callee k δ' m → look δ' ≡ v → EnvKept δ δ' n →
        Reach δ n look k o whole
    halted : (c : ℕ) (m : Meter) → o ≡ stop c m → whole ≡ stop c m → Reach δ n look k o whole

  weaken : {A : Type 0} {δ δ' : Env} {n i : ℕ} {look : Env → A} {k : Tree} {o : Outcome Meter A}
      {whole : Outcome Meter Value} →
      n ≤ i → EnvKept δ δ' n → Reach δ' i look k o whole → Reach δ n look k o whole
  weaken le kept (halted c m eo ew) = halted c m eo ew
  weaken le kept (ran v m δ'' eo ew ev kept') = ran v m δ'' eo ew ev (λ y h. kept' y (omega arith) ∙ kept y h)

  -- one after another
  chain : {A B : Type 0} {δ : Env} {n : ℕ} {look : Env → A} {look' : Env → B} {k l : Tree} {o : Outcome Meter A}
      {whole : Outcome Meter Value} (f : A → Work B) (i : ℕ) → n ≤ i →
      Reach δ n look l o whole →
      ((v : A) (m : Meter) (δ' : Env) → EnvKept δ δ' n → look δ' ≡ v → Reach δ' i look' k (f v m) (run callee l δ' m)) →
      Reach δ n look' k (onward f o) whole
  unfolding onward
  chain f i le (halted c m eo ew) next = rw eo (halted c m refl ew)
  chain f i le (ran v m δ' eo ew ev kept) next = rw (eo, ew) (weaken le kept (next v m δ' kept ev))

  -- the line that binds x, at or above n
  leaf : {δ : Env} {n x : ℕ} {k : Tree} (o : Outcome Meter Value) → n ≤ x →
      Reach δ n (λ γ. γ x) k o (onward (run callee k) (onward (λ v. give (updated δ x v)) o))
  unfolding onward
  leaf {δ} {n} {x} (done v m) le =
      ran v m (updated δ x v) refl refl (updated_same δ x v) (λ y h. updated_other δ x v y (λ e. omega arith))
  leaf (stop c m) le = halted c m refl refl

  -- a tree's end
  whole_tree : {δ : Env} {n : ℕ} {u : Atom} {o whole : Outcome Meter Value} →
      Reach δ n (λ γ. value γ u) (end u) o whole → whole ≡ o
  unfolding run
  whole_tree (ran v m δ' eo ew ev kept) = rw (eo, ew) (ap (λ w. done w m) ev)
  whole_tree (halted c m eo ew) = rw (eo, ew)

  mutual
    unfolding eval run lines atom

    pub lines_run : (e : Expr) (μ : Meanings) (ρ δ : Env) (n : ℕ) (k : Tree) (m : Meter) → NamesAgree μ δ ρ n →
        Reach δ n (λ γ. value γ (atom e μ n)) k (eval callee e ρ m) (run callee (lines e μ n k) δ m)
    lines_run (S.number z) μ ρ δ n k m g = ran (num z) m δ refl refl refl (λ y h. refl)
    lines_run (S.name x) μ ρ δ n k m g = ran (ρ x) m δ refl refl (g.same x) (λ y h. refl)
    lines_run (S.let_in x a b) μ ρ δ n k m g =
        chain (λ v. eval callee b (updated ρ x v)) (n + fresh a) (omega arith)
        (lines_run a μ ρ δ n _ m g) λ v m₁ δ₁ kept₁ ev.
        lines_run b (updated μ x (atom a μ n)) (updated ρ x v) δ₁ (n + fresh a) k m₁
        (agree_updated x (atom a μ n) v (agree_kept (omega arith) g kept₁) (atom_below a μ n g.below) ev)
    lines_run (S.leaf l es) μ ρ δ n k m g =
        chain (do_leaf callee l) n (omega arith) (all_lines_run es μ ρ δ n _ m g) λ vs m₁ δ₁ kept₁ ev.
        rw ev (leaf (do_leaf callee l vs m₁) (omega arith))
    lines_run (S.if_else a b c) μ ρ δ n k m g =
        chain (λ x. do_if x (eval callee b ρ) (eval callee c ρ)) n (omega arith)
        (lines_run a μ ρ δ n _ m g) λ v m₁ δ₁ kept₁ ev.
        let x = n + fresh a in
        let t : run callee (lines b μ (x + 1) (end (atom b μ (x + 1)))) δ₁ ≡ eval callee b ρ =
        fun_ext (λ r. whole_tree (lines_run b μ ρ δ₁ (x + 1) _ r (agree_kept (omega arith) g kept₁))) in
        let e : run callee (lines c μ (x + 1 + fresh b) (end (atom c μ (x + 1 + fresh b)))) δ₁ ≡ eval callee c ρ =
        fun_ext (λ r. whole_tree (lines_run c μ ρ δ₁ (x + 1 + fresh b) _ r (agree_kept (omega arith) g kept₁))) in
        rw (ev, t, e) (leaf (do_if v (eval callee b ρ) (eval callee c ρ) m₁) (omega arith))
    lines_run (S.loop j xs es b) μ ρ δ n k m g =
        chain (λ vs. do_loop j vs (λ ws. eval callee b (binding xs ws ρ))) n (omega arith)
        (all_lines_run es μ ρ δ n _ m g) λ vs m₁ δ₁ kept₁ ev.
        let x = n + fresh_all es in
        let μ' = meaning_names xs (x + 1) μ in
        let i = x + (1 + length xs) in
        let t : (ws : List Value) →
        run callee (lines b μ' i (end (atom b μ' i))) (binding (numbered xs (x + 1)) ws δ₁)
        ≡ eval callee b (binding xs ws ρ) =
        λ ws. fun_ext (λ r. whole_tree (lines_run b μ' (binding xs ws ρ) (binding (numbered xs (x + 1)) ws δ₁) i _ r
        (agree_kept (omega arith) (agree_binding xs ws (x + 1) (agree_kept (omega arith) g kept₁)) (λ y h. refl)))) in
        simp (ev, t) (leaf (do_loop j vs (λ ws. eval callee b (binding xs ws ρ)) m₁) (omega arith))

    pub all_lines_run : (es : Exprs) (μ : Meanings) (ρ δ : Env) (n : ℕ) (k : Tree) (m : Meter) → NamesAgree μ δ ρ n →
        Reach δ n (λ γ. map (value γ) (atoms es μ n)) k (eval_all callee es ρ m) (run callee (all_lines es μ n k) δ m)
    all_lines_run S.none μ ρ δ n k m g = ran [] m δ refl refl refl (λ y h. refl)
    all_lines_run (S.more e es) μ ρ δ n k m g =
        chain (λ v. eval_all callee es ρ >>= λ vs. give (v ∷ vs)) (n + fresh e) (omega arith)
        (lines_run e μ ρ δ n _ m g) λ v m₁ δ₁ kept₁ ev.
        chain (λ vs. give (v ∷ vs)) (n + fresh e) (omega arith)
        (all_lines_run es μ ρ δ₁ (n + fresh e) k m₁ (agree_kept (omega arith) g kept₁)) λ vs m₂ δ₂ kept₂ evs.
        ran (v ∷ vs) m₂ δ₂ refl refl (rw (value_kept (atom e μ n) (atom_below e μ n g.below) kept₂ ∙ ev, evs))
        (λ y h. refl)

  -- running an expression's tree is the expression's meaning
  pub normal_run : (e : Expr) (μ : Meanings) (ρ δ : Env) (n : ℕ) → NamesAgree μ δ ρ n →
      run callee (normal e μ n) δ ≡ eval callee e ρ
  unfolding normal
  normal_run e μ ρ δ n g = fun_ext (λ m. whole_tree (lines_run e μ ρ δ n (end (atom e μ n)) m g))
