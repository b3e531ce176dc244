-- The function that stands at a node of an accepted file, and its plain code.
use Rattle.std.specs.Prelude.{◌≡◌, List, [], ◌∷◌, ℕ, zero, suc, ◌+◌, ◌≤◌, length, get_or, replicate}
use Rattle.semantics.specs.Syntax.{Parameter, Function, size}
use Rattle.semantics.specs.File.{at_function, at_parameter}
use Rattle.semantics.specs.Normal.{fresh, parameter_names, normal_body}
use Rattle.semantics.specs.Annotate.{NameDepths, parameter_depths_from, tree_depths}
use Rattle.script_read.specs.Told.{Parts, low_at, high_at}
use Rattle.plain_rows.specs.Plain.{plain}
use Rattle.plain_rows.specs.Parts.{depth_in}
use Rattle.plain_rows.specs.Marks.{marks_of, marks, extent}
use Rattle.plain_rows.specs.Stands.{Stands}
use Rattle.flatten_rows.specs.Laid.{meanings}
use Rattle.flatten_rows.specs.Source.{tree_at}
use Rattle.flatten_rows.specs.Shallow.{Shallow}

module _ (kinds operands : List ℕ) where
  -- n parameters from node p on
  unfoldable pub parameters_at : ℕ → ℕ → List Parameter
  parameters_at p zero = []
  parameters_at p (suc n) =
      record { id = low_at kinds operands at_parameter p; depth = high_at kinds operands at_parameter p }
      ∷ parameters_at (p + 1) n

  -- the function at node p
  unfoldable pub read_function : ℕ → Function
  read_function p = record {
    parameters = parameters_at (p + 1) (low_at kinds operands at_function p);
    result = high_at kinds operands at_function p;
    body = tree_at kinds operands 64 (p + 1 + low_at kinds operands at_function p);
  }

-- the depths of a function's names, over the results of the script's functions
unfoldable pub depths_by : (ℕ → ℕ) → Function → NameDepths
depths_by results g = tree_depths results (normal_body g) (parameter_depths_from g.parameters 0)

-- what binding the parameters makes: the place of each name, and the depth of each new name
pub record Binds (operands : List ℕ) (xs : List Parameter) (i : ℕ) (places depths : List ℕ) : Type 0 where
  pub means : meanings operands places ≡ parameter_names xs i
  pub deep : depth_in depths ≡ parameter_depths_from xs i
  pub long : (length places ≡ 256) × (length depths ≡ 256)

-- a table of 256 places and one of 256 depths, before any name is bound
pub record Unbound (places depths : List ℕ) : Type 0 where
  pub places_are : places ≡ replicate 256 65535
  pub depths_are : depths ≡ replicate 256 0

-- there is room for the function at node p, and its tree is shallow
pub record Fitting (kinds operands results : List ℕ) (p : ℕ) : Type 0 where
  pub parts : Parts kinds operands
  pub shallow : Shallow (λ f. get_or results f 0) (normal_body (read_function kinds operands p))
      (parameter_depths_from (read_function kinds operands p).parameters 0)
  pub few : low_at kinds operands at_function p ≤ 8
  pub names : low_at kinds operands at_function p + fresh (read_function kinds operands p).body ≤ 256
  pub nodes : p + 1 + low_at kinds operands at_function p + size (read_function kinds operands p).body ≤ 1024

-- the tree of the function at node at stands in the first p rows: with the rows of last uses and the names' depths
pub record FunctionLaid (kinds operands results : List ℕ) (at : ℕ) (rows notes last depths : List ℕ) (p : ℕ) :
    Type 0 where
  pub stands : Stands (plain operands rows notes) 64 (normal_body (read_function kinds operands at)) 0 (λ _. 0)
  pub marked : marks_of last ≡ marks (normal_body (read_function kinds operands at)) 0 (λ _. 0)
  pub deep : depth_in depths ≡ depths_by (λ f. get_or results f 0) (read_function kinds operands at)
  pub wide : extent (normal_body (read_function kinds operands at)) ≡ p
  pub some : 2 ≤ p
  pub few : p ≤ 2040
  pub long_rows : length rows ≡ 2048
  pub long_notes : length notes ≡ 2048
  pub long_last : length last ≡ 256
  pub long_depths : length depths ≡ 256
