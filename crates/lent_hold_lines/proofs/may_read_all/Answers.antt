-- The goal of `lent_hold_lines::may_read_all` that the check leaves.
use Rattle.std.proofs.Common.{rules, ◌≡◌, ◌∙◌, List, [], ◌∷◌, map, Bool, true, false}
use Rattle.prelude.specs.Kit.{◌&&◌, ◌||◌, not, ltb, refl, ap}
use Rattle.std.specs.List.{list_all}
use Rattle.std.proofs.lemmas.Iterator.{YieldsList-from_slice}
use Rattle.std.proofs.lemmas.Iterator.Search.{all_from_yields_List}
use Rattle.semantics.specs.Code as C
use Rattle.semantics.specs.Live.{Set}
use Rattle.semantics.specs.Annotate.{NameDepths, is_array}
use Rattle.semantics_lent.specs.Hold.{Holds, readable}
use Rattle.kinds.specs.declared.Atom.{Atom}
use Rattle.lent_atoms.specs.Told.{meant}
use Rattle.lent_counts.specs.Counted.{counted, set_of}
use Rattle.lent_hold_lines.specs.Lines.{depths_of}
use Rattle.lent_hold_lines.proofs.may_read_all.Goals as goal

module _ (Γ : NameDepths) (B : Set) (H : Holds) where
  of_two : (b c : Bool) → ((b && true) && c) ≡ (b && c)
  of_two true c = refl
  of_two false c = refl

  first_read : (u : C.Atom) (us : List C.Atom) →
      (readable Γ B H (u ∷ []) && readable Γ B H us) ≡ readable Γ B H (u ∷ us)
  first_read (C.number z) us = refl
  first_read (C.name x) us = of_two (not (is_array Γ x) || (B x || ltb 0 (H x))) (readable Γ B H us)

  each_read : (us : List Atom) →
      list_all (λ a. readable Γ B H (meant a ∷ [])) us ≡ readable Γ B H (map meant us)
  each_read [] = refl
  each_read (a ∷ us) = ap (λ r. readable Γ B H (meant a ∷ []) && r) (each_read us) ∙ first_read (meant a) (map meant us)

pub returns : goal.returns
returns c =
    let Γ = depths_of c.args.of.now in
    let B = set_of c.args.lent.now in
    let H = counted c.args.holds.now in
    all_from_yields_List (λ a. readable Γ B H (meant a ∷ [])) _ _ _ c.all.ensures.ran
    (YieldsList-from_slice c.args.atoms.now cc) (λ x b q k. search rules)
    ∙ each_read Γ B H c.args.atoms.now
