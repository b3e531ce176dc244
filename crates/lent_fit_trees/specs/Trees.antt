-- The second walk by positions: trees, and lines with their trees, for rows of any content.
use Rattle.std.specs.Prelude.{◌≡◌, Bool, cond, List, ℕ, zero, suc, ◌+◌, ℤ, eqb, ltb, get_or, length}
use Rattle.std.proofs.Math.Option.{Option, none, some}
use Rattle.semantics.specs.Outcome.{Outcome, done, stop, onward, ◌>>=◌, give, halt}
use Rattle.semantics.specs.Live.{Set, ◌∪◌, only, just}
use Rattle.semantics.specs.Annotate.{depth_of}
use Rattle.semantics_lent.specs.Form.{Test}
use Rattle.semantics_lent.specs.Fit.{Bound, with_name, Fitted}
use Rattle.machine_code.specs.Reading.{atom_at}
use Rattle.std.specs.Prelude.{Result, Ok, Err}
use Rattle.lent_form.specs.declared.Fault.{Fault}
use Rattle.lent_fit_lines.specs.declared.Fit.{Fit}
use Rattle.lent_fit_lines.specs.declared.Wants.{Wants}
use Rattle.lent_fit_lines.specs.declared.Wants.TheVariants.{Any, Exactly}
use Rattle.lent_fit_lines.specs.Walk.{bound_of, meant, ended, binds, plain_fits, if_opens, loops, loop_of, loop_count}
use Rattle.lent_fit_lines.specs.Walk.{pass_names, loop_opens, loop_bound, loop_wants, loop_judged, first_at, second_at}
use Rattle.lent_fit_lines.specs.Walk.{third_at, atoms_from}

-- a tree as the code tells it
abbrev pub told_tree : Result Fit Fault → List Bool → List ℕ → Outcome ℕ Fitted
told_tree (Ok f) b g = done (record { bound = bound_of b g; depth = f.depth }) f.next
told_tree (Err e) b g = stop 29 e.line

pub record Trees (o : Outcome ℕ Fitted) (r : Result Fit Fault) (b : List Bool) (g : List ℕ) : Type 0 where
  pub is : o ≡ told_tree r b g
  pub long : length b ≡ 256
  pub deep : length g ≡ 256

-- an end line leaves the names as they are
abbrev pub told_end : Bound → Result Fit Fault → Outcome ℕ Fitted
told_end N (Ok f) = done (record { bound = N; depth = f.depth }) f.next
told_end N (Err e) = stop 29 e.line

-- a walk of trees of one level less
abbrev pub Below : Type 0
Below = Wants → Set → Bound → Test Fitted

-- the depth that was found of a loop that binds x
abbrev pub loop_placed : Option ℕ → ℕ → Bound → Test Bound
loop_placed (some d) x N = give (with_name x d N)
loop_placed none x N = halt 29

module _ (kinds : List ℕ) (operands : List ℤ) (starts : List ℕ) where
  abbrev pub branches : Below → ℕ → Set → Bound → Test Bound
  branches below x S N = do
    A ← below Any S (with_name x 0 N)
    B ← below (Exactly A.depth) S A.bound
    give (with_name x B.depth B.bound)

  unfoldable pub if_fits : Below → Set → Bound → Test Bound
  if_fits below S N p =
      let x = first_at operands p in
      cond (if_opens S N (meant (atom_at kinds operands (p + 1))) x) (branches below x S N (p + 2)) (stop 29 p)

  unfoldable pub loop_fits : Below → ℕ → Set → Bound → Test Bound
  loop_fits below kind S N p =
      let k = loop_of kind in
      let x = first_at operands p in
      let us = atoms_from kinds operands (loop_count k) (p + 1) in
      let ps = pass_names k (second_at operands p) (third_at operands p) in
      let d = depth_of N.depths us 0 in
      cond (loop_opens k S N us x ps)
      (onward (λ A. loop_placed (loop_judged k d A.depth) x A.bound)
      (below (loop_wants k d) (S ∪ just ps) (loop_bound k N us x ps) (p + 1 + loop_count k)))
      (stop 29 p)

  unfoldable pub line_fits : Below → ℕ → Set → Bound → Test Bound
  line_fits below kind S N p =
      cond (eqb kind 12) (if_fits below S N p)
      (cond (loops kind) (loop_fits below kind S N p) (plain_fits kinds operands starts kind S N p))

  abbrev pub scope_then : ℕ → ℕ → Set → Set
  scope_then kind x S = cond (binds kind) (S ∪ only x) S

  abbrev pub end_fits : Wants → Set → Bound → Test Fitted
  end_fits w S N p =
      told_end N (ended w S N.depths (meant (atom_at kinds operands (p + 1))) p)

  -- at most so many lines of a tree
  unfoldable pub lines_fit : Below → ℕ → Wants → Set → Bound → Test Fitted
  lines_fit below zero w S N p = stop 29 p
  lines_fit below (suc n) w S N p =
      cond (ltb p (length kinds))
      (cond (eqb (get_or kinds p 0) 16) (end_fits w S N p)
      (onward (λ M. lines_fit below n w (scope_then (get_or kinds p 0) (first_at operands p) S) M)
      (line_fits below (get_or kinds p 0) S N p)))
      (stop 29 p)

  -- a tree, with so many levels of trees left
  unfoldable pub tree_fits : ℕ → Below
  tree_fits zero w S N p = stop 29 p
  tree_fits (suc m) w S N p = lines_fit (tree_fits m) 4096 w S N p
