-- The tree of one function that is laid: all its parts together.
use Rattle.prelude.specs.Kit.{ℕ, ◌≤◌, ◌+◌, arith, ◌≡◌, refl, ◌∙◌, sym, ap, fun_ext, List, length, get_or, replicate}
use Rattle.semantics.specs.Syntax.{Function, size}
use Rattle.semantics.specs.File.{at_function}
use Rattle.semantics.specs.Code.{Tree, end}
use Rattle.semantics.specs.Normal.{fresh, atom, parameter_names, normal, normal_body}
use Rattle.semantics.specs.Annotate.{NameDepths, parameter_depths_from, tree_depths}
use Rattle.script_read.specs.Told.{low_at}
use Rattle.script_read.proofs.Tables.{none_set}
use Rattle.plain_rows.specs.Plain.{plain}
use Rattle.plain_rows.specs.Parts.{depth_in}
use Rattle.plain_rows.specs.Marks.{marks_of, marks, extent}
use Rattle.plain_rows.specs.Stands.{Stands}
use Rattle.flatten_rows.specs.Laid.{meanings}
use Rattle.flatten_rows.specs.Source.{tree_at, laid_rows}
use Rattle.flatten_rows.specs.Shallow.{Shallow}
use Rattle.flatten_rows.specs.Made.{state, Given, Ready, TreeMade}
use Rattle.flatten_rows.specs.declared.Out.{Out}
use Rattle.flatten_rows.proofs.Widths.{laid_bound}
use Rattle.flatten_functions.specs.Read.{parameters_at, read_function, depths_by, Binds, Fitting, FunctionLaid}
use Rattle.flatten_functions.proofs.Parameters.{length_parameters}

pub no_marks : marks_of (replicate 256 0) ≡ (λ _. 0)
no_marks = fun_ext (λ x. none_set {A = ℕ} 0 256 x)

module _ (k w results : List ℕ) (at : ℕ) (fit : Fitting k w results at) where
  abbrev Count : ℕ
  Count = low_at k w at_function at

  abbrev pub here : Function
  here = read_function k w at

  abbrev Γ : NameDepths
  Γ = depths_by (λ f. get_or results f 0) here

  body_is : here.body ≡ tree_at k w 64 (at + 1 + Count)
  unfolding read_function
  body_is = refl

  few_rows : laid_rows (tree_at k w 64 (at + 1 + Count)) ≤ 2038
  few_rows =
      let e = tree_at k w 64 (at + 1 + Count) in
      let n : Count + fresh e ≤ 256 = rw body_is at fit.names in
      let m : at + 1 + Count + size e ≤ 1024 = rw body_is at fit.nodes in
      omega (arith, laid_bound e)

  pub given : {ps : List ℕ} → length ps ≡ 256 → Given k w ps
  given h = record { parts = fit.parts; long = h }

  module _ {ps ds : List ℕ} (c : ℕ) (ce : c ≡ Count) (B : Binds w (parameters_at k w (at + 1) c) 0 ps ds) where
    normal_is : normal (tree_at k w 64 (at + 1 + c)) (parameter_names (parameters_at k w (at + 1) c) 0) c
        ≡ normal_body here
    unfolding normal_body read_function
    normal_is =
        rw (← ce) (ap (λ (n : ℕ). normal (tree_at k w 64 (at + 1 + c))
        (parameter_names (parameters_at k w (at + 1) c) 0) n) (sym (length_parameters k w at (at + 1) c)))

    depths_first : depth_in ds ≡ parameter_depths_from here.parameters 0
    unfolding read_function
    depths_first = B.deep ∙ ap (λ (n : ℕ). parameter_depths_from (parameters_at k w (at + 1) n) 0) ce

    shallow_first : Shallow (λ f. get_or results f 0)
        (normal (tree_at k w 64 (at + 1 + c)) (meanings w ps) c) (depth_in ds)
    shallow_first = rw (B.means, normal_is, depths_first) fit.shallow

    pub ready : {rs ns ls : List ℕ} → length rs ≡ 2048 → length ns ≡ 2048 → length ls ≡ 256 →
        Ready (λ f. get_or results f 0) (meanings w ps) (state rs ns ds ls) (tree_at k w 64 (at + 1 + c))
        (at + 1 + c + size (tree_at k w 64 (at + 1 + c))) c 0
    unfolding normal
    ready h g l = record {
      sized = record { rows = h; notes = g; depths = B.long.1; last = l };
      nodes = rw (← ce) at (rw body_is at fit.nodes);
      names = rw (← ce) at (rw body_is at fit.names);
      rows = rw ce (omega (arith, few_rows));
      after = end (atom (tree_at k w 64 (at + 1 + c)) (meanings w ps) c);
      shallow = shallow_first;
    }

    module _ {rs ns ls rs₁ ns₁ ds₁ ls₁ : List ℕ} {o : Out} (blank : ls ≡ replicate 256 0)
        (M₀ : TreeMade w (λ f. get_or results f 0) (tree_at k w 64 (at + 1 + c)) (meanings w ps)
        (state rs ns ds ls) (state rs₁ ns₁ ds₁ ls₁) c 0 64
        (at + 1 + c + size (tree_at k w 64 (at + 1 + c))) o) where
      M : TreeMade w (λ f. get_or results f 0) (tree_at k w 64 (at + 1 + c))
          (parameter_names (parameters_at k w (at + 1) c) 0) (state rs ns ds ls)
          (state rs₁ ns₁ ds₁ ls₁) c 0 64 (at + 1 + c + size (tree_at k w 64 (at + 1 + c))) o
      M = rw B.means at M₀

      no_last : marks_of ls ≡ (λ _. 0)
      no_last = ap marks_of blank ∙ no_marks

      wide : extent (normal_body here) ≡ o.after.p
      wide =
          let x : extent (normal_body here) ≡ laid_rows (tree_at k w 64 (at + 1 + c)) + 2 = rw normal_is at M.wide in
          omega (arith, M.reach)

      end_row : (2 ≤ o.after.p) × (o.after.p ≤ 2040)
      end_row =
          let z : laid_rows (tree_at k w 64 (at + 1 + c)) ≤ 2038 = rw (← ce) at few_rows in
          (omega (arith, M.reach), omega (arith, M.reach))

      stands : Stands (plain w rs₁ ns₁) 64 (normal_body here) 0 (λ _. 0)
      stands =
          rw (normal_is, no_last) at (M.stands (plain w rs₁ ns₁) refl
          (record { rows = λ i g h. refl; notes = λ i g h. refl }) 64 (omega arith))

      marked : marks_of ls₁ ≡ marks (normal_body here) 0 (λ _. 0)
      marked = rw (normal_is, no_last) at M.marks

      depths_are : depth_in ds₁ ≡ Γ
      unfolding depths_by
      depths_are =
          sym M.depths
          ∙ ap (λ (t : Tree). tree_depths (λ f. get_or results f 0) t (depth_in ds)) normal_is
          ∙ ap (tree_depths (λ f. get_or results f 0) (normal_body here)) depths_first

      pub function_laid : FunctionLaid k w results at rs₁ ns₁ ls₁ ds₁ o.after.p
      function_laid = record {
        stands = stands;
        marked = marked;
        deep = depths_are;
        wide = wide;
        some = end_row.0;
        few = end_row.1;
        long_rows = M.sized.rows;
        long_notes = M.sized.notes;
        long_last = M.sized.last;
        long_depths = M.sized.depths;
      }
