-- A function that the reader accepts is the function at its node, and there is room for it.
use Rattle.prelude.specs.Kit.{ℕ, ◌≤◌, ◌+◌, arith, ◌≡◌, refl, List, [], ◌∷◌, length, get_or}
use Rattle.semantics.specs.Syntax.{Parameter, Function, function_size}
use Rattle.semantics.specs.File.{Place}
use Rattle.semantics.specs.Normal.{fresh, normal_body}
use Rattle.semantics.specs.Annotate.{parameter_depths_from}
use Rattle.script_read.specs.Told.{Parts, low_at, high_at}
use Rattle.script_read.proofs.Written.{HeadAt, ParametersWritten, FunctionWritten}
use Rattle.flatten_rows.specs.Shallow.{Shallow}
use Rattle.flatten_rows.proofs.Nodes.{written_tree}
use Rattle.flatten_functions.specs.Read.{parameters_at, read_function, Fitting}
use Rattle.flatten_functions.proofs.Parameters.{count_most}

module _ (k w : List ℕ) where
  pub low_there : {place : Place} {p y z : ℕ} → HeadAt k w place p y z → low_at k w place p ≡ y
  unfolding low_at
  low_there h = rw h.is h.lower

  pub high_there : {place : Place} {p y z : ℕ} → HeadAt k w place p y z → high_at k w place p ≡ z
  unfolding high_at
  high_there h = rw h.is h.upper

  parameters_is : (xs : List Parameter) (p : ℕ) → ParametersWritten k w xs p → parameters_at k w p (length xs) ≡ xs
  unfolding parameters_at
  parameters_is [] p h = refl
  parameters_is (x ∷ xs) p h = rw (low_there h.0, high_there h.0, parameters_is xs (p + 1) h.1)

  pub function_is : (g : Function) (p : ℕ) → FunctionWritten k w g p → read_function k w p ≡ g
  unfolding read_function
  function_is g p h =
      rw (
        low_there h.head,
        high_there h.head,
        parameters_is g.parameters (p + 1) h.parameters,
        written_tree k w g.body 64 (p + 1 + length g.parameters) h.body,
      )

  pub fitting : (results : List ℕ) (g : Function) (p : ℕ) → FunctionWritten k w g p → Parts k w →
      Shallow (λ f. get_or results f 0) (normal_body g) (parameter_depths_from g.parameters 0) →
      p + function_size g ≤ 1024 → length g.parameters + fresh g.body ≤ 256 → Fitting k w results p
  unfolding function_size
  fitting results g p h s l n m = record {
    parts = s;
    shallow = rw (function_is g p h) l;
    few = count_most k w p;
    names = rw (low_there h.head, function_is g p h) m;
    nodes = rw (low_there h.head, function_is g p h) (omega arith);
  }
