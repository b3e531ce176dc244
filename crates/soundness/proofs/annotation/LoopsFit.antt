-- The depths of a loop of a well-formed tree fit, and stay so where a map of numbers rewrites its array.
use Rattle.prelude.specs.Kit.{ℕ, suc, arith, ◌≡◌, ◌∙◌, sym}
use Rattle.prelude.specs.Kit.{ap, some, List, [], ◌∷◌, leb, length}
use Rattle.semantics.specs.Kinds.{Loop, mapping, rewriting}
use Rattle.semantics.specs.Types.{loop_rule}
use Rattle.semantics.specs.Code.{Atom, name}
use Rattle.semantics.specs.Live.{Set}
use Rattle.semantics.specs.Annotate.{NameDepths}
use Rattle.semantics.specs.Machine.{Program}
use Rattle.laws.specs.Tests.{some_if_holds}
use Rattle.discipline.proofs.machine.Discipline.{array_place, LoopFits}
use Rattle.soundness.proofs.annotation.Typed.{Functions}
use Rattle.soundness.proofs.annotation.Rules.{depth_of_map, pass_gives}
use Rattle.soundness.proofs.annotation.Formed.{LoopForm}

module _ (p : Program) where
  abbrev pub functions_of : Functions
  functions_of = record { number = length p.routines; signatures = p.signatures }

module _ (p : Program) (Θ : NameDepths) where
  pub loop_fits : (x : ℕ) (k : Loop) (ps : List ℕ) (us : List Atom) (d : ℕ) (S : Set) (c : ℕ) →
      LoopForm (functions_of p) Θ x k ps us d S c → LoopFits p Θ x k ps us d
  loop_fits x k ps us d S c f = record {
    limits = f.fits.parted;
    deep = omega (
      arith,
      f.fits.array,
      depth_of_map Θ us (array_place k),
    );
    names = f.depths ∙ sym (pass_gives k Θ us);
    gives = f.fits.rule;
  }

  -- a map of numbers to numbers may rewrite its array
  pub rewrite_fits : (x y : ℕ) (ps : List ℕ) (d : ℕ) (S : Set) (c : ℕ) → Θ y ≡ 1 → Θ x ≡ 1 →
      LoopForm (functions_of p) Θ x mapping ps (name y ∷ []) d S c → LoopFits p Θ x rewriting ps (name y ∷ []) d
  rewrite_fits x y ps d S c array result f =
      let map_fits = loop_fits x mapping ps (name y ∷ []) d S c f in
      let shallow : d ≡ 0 = omega (
        arith,
        result,
        (some_if_holds (leb (suc d) 4) (suc d) (Θ x) map_fits.gives).1,
      ) in
      record {
        limits = map_fits.limits;
        deep = map_fits.deep;
        names = map_fits.names;
        gives = (λ i. loop_rule rewriting (array i ∷ shallow i ∷ [])) ∙ ap some (sym result);
      }
