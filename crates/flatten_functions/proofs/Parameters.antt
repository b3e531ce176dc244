-- Laws of the parameters: bound and written from the last to the first.
use Rattle.prelude.specs.Kit.{ℕ, ◌≤◌, ◌+◌, ◌<◌, ◌-◌, suc, zero, arith, true, ◌≡◌, refl, ◌∙◌, ap, fun_ext, List, [], ◌∷◌}
use Rattle.prelude.specs.Kit.{length, get_or, set, length-set, eqb-true}
use Rattle.semantics.specs.Basics.{updated}
use Rattle.semantics.specs.Syntax.{Parameter}
use Rattle.semantics.specs.Code as C
use Rattle.semantics.specs.File as S
use Rattle.semantics.specs.File.{Place, at_function, at_parameter, allowed, node_at, low_limits, high_limits}
use Rattle.semantics.specs.Normal.{parameter_names}
use Rattle.semantics.specs.Annotate.{parameter_depths_from}
use Rattle.script_read.specs.Told.{low_at, high_at, low_of}
use Rattle.script_read.proofs.Nodes.{NodeFits, node_fits}
use Rattle.script_read.proofs.Tables.{none_set}
use Rattle.plain_rows.specs.Plain.{meant, placed}
use Rattle.flatten_rows.proofs.Trees.{name_placed}
use Rattle.flatten_rows.proofs.Uses.{table_set}
use Rattle.flatten_rows.proofs.Nodes.{nowhere_placed}
use Rattle.flatten_rows.proofs.Members.{meanings_set}
use Rattle.flatten_functions.specs.Read.{parameters_at, Binds, Unbound}

-- the operand of a node is in range, where one kind alone may stand
module _ (k w : List ℕ) (place : Place) (kind : ℕ) (alone : (d : ℕ) → allowed place d ≡ true → d ≡ kind) (p : ℕ) where
  low_in : (d : ℕ) (v : S.Node) → NodeFits place d v → low_of v ≤ get_or low_limits kind 0
  low_in d (S.fits h) i = rw (alone h.kind i.stands) at i.low
  low_in d S.wrong_kind i = omega arith
  low_in d S.wrong_operand i = omega arith

  low_most : low_at k w place p ≤ get_or low_limits kind 0
  unfolding low_at
  low_most = low_in (get_or k p 255) (node_at k w place p) (node_fits k w place p)

-- a function has at most 8 parameters
module _ (k w : List ℕ) (p : ℕ) where
  pub count_most : low_at k w at_function p ≤ 8
  count_most = low_most k w at_function 0 (λ d e. eqb-true d 0 e) p

module _ (k w : List ℕ) (at : ℕ) where
  abbrev pub Rest : ℕ → ℕ → List Parameter
  Rest i m = parameters_at k w (at + i) (m - i)

  pub rest_none : (m : ℕ) → Rest m m ≡ []
  unfolding parameters_at
  rest_none m = ap (parameters_at k w (at + m)) (let e : m - m ≡ 0 = omega arith in e)

  pub rest_more : (i m : ℕ) → 0 < i → i ≤ m →
      Rest (i - 1) m
      ≡ record { id = low_at k w at_parameter (at + (i - 1)); depth = high_at k w at_parameter (at + (i - 1)) }
      ∷ Rest i m
  unfolding parameters_at
  rest_more i m g h =
      ap (parameters_at k w (at + (i - 1))) (let e : m - (i - 1) ≡ suc (m - i) = omega arith in e)
      ∙ ap (λ (j : ℕ). record {
        id = low_at k w at_parameter (at + (i - 1));
        depth = high_at k w at_parameter (at + (i - 1));
      } ∷ parameters_at k w j (m - i))
      (let e : at + (i - 1) + 1 ≡ at + i = omega arith in e)

  pub rest_all : (i m : ℕ) → i ≤ 0 → Rest i m ≡ parameters_at k w at m
  rest_all i m h =
      let e : at + i ≡ at = omega arith in
      let f : m - i ≡ m = omega arith in
      rw (e, f)

  -- ---- binding

  pub bind_begin : (m : ℕ) {ps ds : List ℕ} → length w ≤ 8192 → Unbound ps ds → Binds w (Rest m m) m ps ds
  unfolding parameter_names parameter_depths_from
  bind_begin m h u = rw (rest_none m, u.places_are, u.depths_are) (record {
    means = fun_ext (λ y. ap (λ (v : ℕ). meant (placed w v)) (none_set {A = ℕ} 65535 256 y) ∙ nowhere_placed w h);
    deep = fun_ext (λ y. none_set {A = ℕ} 0 256 y);
    long = (refl, refl);
  })

  pub bind_go : (i m x d : ℕ) {ps ds : List ℕ} → 0 < i → i ≤ m → m ≤ 8 → x < 256 →
      x ≡ low_at k w at_parameter (at + (i - 1)) →
      d ≡ high_at k w at_parameter (at + (i - 1)) →
      Binds w (Rest i m) i ps ds →
      Binds w (Rest (i - 1) m) (i - 1) (set ps x (i - 1)) (set ds (i - 1) d)
  unfolding parameter_names parameter_depths_from
  bind_go i m x d {ps} {ds} g h b s e f B =
      let z : i ≡ suc (i - 1) = omega arith in
      rw (rest_more i m g h) (record {
        means = meanings_set w ps x (i - 1) (omega (arith, B.long.0))
            ∙ rw (B.means, name_placed w (i - 1) (omega arith), ← e)
            (ap (λ (j : ℕ). updated (parameter_names (Rest i m) j) x (C.name (i - 1))) z);
        deep = table_set ds 0 (i - 1) d (omega (arith, B.long.1))
            ∙ rw (B.deep, ← f) (ap (λ (j : ℕ). updated (parameter_depths_from (Rest i m) j) (i - 1) d) z);
        long = (length-set ps x (i - 1) ∙ B.long.0, length-set ds (i - 1) d ∙ B.long.1);
      })

  pub bind_end : (i m : ℕ) {ps ds : List ℕ} → i ≤ 0 → Binds w (Rest i m) i ps ds →
      Binds w (parameters_at k w at m) 0 ps ds
  bind_end i m h B =
      let e : i ≡ 0 = omega arith in
      let f : at + 0 ≡ at = omega arith in
      let g : m - 0 ≡ m = omega arith in
      rw (e, f, g) at B

  pub length_parameters : (p n : ℕ) → length (parameters_at k w p n) ≡ n
  unfolding parameters_at
  length_parameters p zero = refl
  length_parameters p (suc n) = ap suc (length_parameters (p + 1) n)
