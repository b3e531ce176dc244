-- Refusal 6 (document 01, "Names are found innermost first"): the nodes that break the rule, in rising order.
use Rattle.std.specs.Prelude.{ℕ, ◌+◌, Bool, true, false, not, List, [], ◌∷◌, ◌++◌, length, leb}
use Rattle.semantics.specs.Basics.{with_if, updated}
use Rattle.semantics.specs.Kinds.{Leaf, operation, call, literal, index, length_of, iota, replicate}
use Rattle.semantics.specs.Syntax.{Expr, number, name, let_in, leaf, if_else, loop, Exprs, none, more, size}
use Rattle.semantics.specs.Syntax.{sizes, Parameter, Script}
use Rattle.semantics.specs.Syntax.{function_size}

-- the names that are known
abbrev pub Scope : Type 0
Scope = ℕ → Bool

abbrev pub scope_with : List ℕ → Scope → Scope
scope_with [] known = known
scope_with (x ∷ xs) known = scope_with xs (updated known x true)

-- a call of a function that is not there
abbrev pub calls_none : ℕ → Leaf → Bool
calls_none functions (operation o) = false
calls_none functions (call f) = leb functions f
calls_none functions (literal d) = false
calls_none functions index = false
calls_none functions length_of = false
calls_none functions iota = false
calls_none functions replicate = false

-- the faulty nodes of a tree at node p, in a script of so many functions
module _ (functions : ℕ) where
  unfoldable mutual
    pub unknown : Expr → Scope → ℕ → List ℕ
    unknown (number z) known p = []
    unknown (name x) known p = with_if (not (known x)) p []
    unknown (let_in x a b) known p = unknown a known (p + 1) ++ unknown b (updated known x true) (p + 1 + size a)
    unknown (leaf l es) known p = with_if (calls_none functions l) p (unknowns es known (p + 1))
    unknown (if_else a b c) known p =
        unknown a known (p + 1) ++ (unknown b known (p + 1 + size a) ++ unknown c known (p + 1 + size a + size b))
    unknown (loop k xs es b) known p =
        unknowns es known (p + 1) ++ unknown b (scope_with xs known) (p + 1 + sizes es)

    pub unknowns : Exprs → Scope → ℕ → List ℕ
    unknowns none known p = []
    unknowns (more e es) known p = unknown e known p ++ unknowns es known (p + size e)

  -- parameters and then the body: a parameter is repeated if its name is known already
  unfoldable pub unknown_from : List Parameter → Scope → ℕ → Expr → List ℕ
  unknown_from [] known p e = unknown e known p
  unknown_from (x ∷ xs) known p e = with_if (known x.id) p (unknown_from xs (updated known x.id true) (p + 1) e)

  unfoldable pub unknown_in : Script → ℕ → List ℕ
  unknown_in [] p = []
  unknown_in (g ∷ gs) p =
      unknown_from g.parameters (λ _. false) (p + 1) g.body ++ unknown_in gs (p + function_size g)

-- all nodes of a script that break the rule
unfoldable pub name_faults : Script → List ℕ
name_faults fs = unknown_in (length fs) fs 0
