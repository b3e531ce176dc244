-- `names_called`: where the check of names finds no fault, every call is of a function that is there.
use Rattle.prelude.specs.Kit.{ℕ, ◌+◌, true, ◌≡◌, List, [], ◌∷◌}
use Rattle.semantics.specs.Basics.{updated}
use Rattle.semantics.specs.Syntax.{Expr, number, name, let_in, leaf, if_else, loop, Exprs, none, more, size, sizes}
use Rattle.semantics.specs.Syntax.{Parameter}
use Rattle.semantics.specs.Names.{Scope, scope_with, calls_none, unknown, unknowns, unknown_from}
use Rattle.soundness.proofs.annotation.Typed.{Called, AllCalled}
use Rattle.laws.specs.Lists.{append_empty}
use Rattle.soundness.proofs.annotation.Rules.{with_if_empty}

module _ (functions : ℕ) where
  mutual
    unfolding unknown

    pub names_called : (e : Expr) (known : Scope) (p : ℕ) → unknown functions e known p ≡ [] → Called functions e
    names_called (number z) known p h = tt
    names_called (name x) known p h = tt
    names_called (let_in x a b) known p h =
        let parts = append_empty (unknown functions a known (p + 1)) _ h in
        (names_called a known (p + 1) parts.0, names_called b (updated known x true) (p + 1 + size a) parts.1)
    names_called (leaf l es) known p h =
        let parts = with_if_empty (calls_none functions l) p (unknowns functions es known (p + 1)) h in
        (parts.0, all_names_called es known (p + 1) parts.1)
    names_called (if_else a b c) known p h =
        let first = append_empty (unknown functions a known (p + 1)) _ h in
        let second = append_empty (unknown functions b known (p + 1 + size a)) _ first.1 in (
          names_called a known (p + 1) first.0,
          names_called b known (p + 1 + size a) second.0,
          names_called c known (p + 1 + size a + size b) second.1,
        )
    names_called (loop k xs es b) known p h =
        let parts = append_empty (unknowns functions es known (p + 1)) _ h in (
          all_names_called es known (p + 1) parts.0,
          names_called b (scope_with xs known) (p + 1 + sizes es) parts.1,
        )

    all_names_called : (es : Exprs) (known : Scope) (p : ℕ) → unknowns functions es known p ≡ [] →
        AllCalled functions es
    all_names_called none known p h = tt
    all_names_called (more e es) known p h =
        let parts = append_empty (unknown functions e known p) _ h in
        (names_called e known p parts.0, all_names_called es known (p + size e) parts.1)

  -- the body of a function
  pub body_called : (xs : List Parameter) (known : Scope) (p : ℕ) (e : Expr) →
      unknown_from functions xs known p e ≡ [] → Called functions e
  unfolding unknown_from
  body_called [] known p e h = names_called e known p h
  body_called (x ∷ xs) known p e h =
      body_called xs (updated known x.id true) (p + 1) e (with_if_empty (known x.id) p _ h).1
