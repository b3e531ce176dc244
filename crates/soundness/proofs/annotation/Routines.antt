-- A function that the checks accept is disciplined and frugal, in every style: with the array parameters lent that it
-- borrows, from one hold for each other to none.
use Rattle.prelude.specs.Kit.{ℕ, ◌≤◌, arith, dec_lt, true, false, Bool, ◌&&◌, not}
use Rattle.prelude.specs.Kit.{false≢true, ◌≡◌, refl, ◌∙◌, sym, ap, subst, List, [], map, ltb}
use Rattle.prelude.specs.Kit.{length, get_or-eq_default}
use Rattle.semantics.specs.Basics.{occurrences}
use Rattle.semantics.specs.Syntax.{Function, Script, function_at, no_function}
use Rattle.semantics.specs.Kinds.{Borrowing, picked}
use Rattle.semantics.specs.Types.{signature, signatures_of}
use Rattle.semantics.specs.Code.{Tree}
use Rattle.semantics.specs.Normal.{normal_body}
use Rattle.semantics.specs.Live.{Set, empty, uses}
use Rattle.semantics.specs.Borrow.{spent, Table, borrows, borrowed}
use Rattle.semantics.specs.Annotate.{NameDepths, dying, Style, annotate}
use Rattle.semantics.specs.Annotate.{depths_of, owned_depths, annotated_in}
use Rattle.semantics.specs.Machine.{Routine, no_routine, Program, program_in, routine_of}
use Rattle.laws.specs.Routines.{routine_in, length_routines_in, length_routines, routine_in_is}
use Rattle.soundness.proofs.borrowing.Stable.{stable}
use Rattle.discipline.proofs.machine.Discipline as D
use Rattle.discipline.proofs.machine.Discipline.{RoutineDisciplined, RoutineFrugal, FunctionDisciplined}
use Rattle.discipline.proofs.machine.Discipline.{FunctionFrugal}
use Rattle.soundness.proofs.annotation.Typed.{Functions}
use Rattle.soundness.proofs.annotation.Held.{names, held_most, held_le, held_empty}
use Rattle.soundness.proofs.annotation.Held.{names_held}
use Rattle.soundness.proofs.annotation.Formed.{Formed}
use Rattle.soundness.proofs.annotation.Moves.{Sound, sound_same}
use Rattle.soundness.proofs.annotation.Counts.{releasing}
use Rattle.soundness.proofs.annotation.Scopes.{Fits, fits_releases, dying_in, annotated_fits}
use Rattle.soundness.proofs.annotation.Annotated.{annotated_sound}
use Rattle.soundness.proofs.annotation.Lending.{holding_lent, frugal_lent}
use Rattle.soundness.proofs.annotation.Parameters.{arrays_at, same_depths}
use Rattle.soundness.proofs.annotation.Parameters.{new_from, names_from}
use Rattle.soundness.proofs.annotation.LoopsFit.{functions_of}
use Rattle.soundness.proofs.annotation.Functions.{none_lent, functions_in, Accepted, given_within, formed, uses_given}
use Rattle.soundness.proofs.annotation.Functions.{given_same, depths_given, many, arrays_given, owned, under}
use Rattle.soundness.proofs.annotation.Functions.{few_owned, spares, lends, given_held}

-- over an accepted function
module _ (fs : Script) (g : Function) (ok : Accepted fs g) where
  abbrev F : Functions
  F = functions_in fs

  abbrev Γ : NameDepths
  Γ = depths_of fs g

  abbrev arity : ℕ
  arity = length g.parameters

  abbrev depths : List ℕ
  depths = map (λ x. x.depth) g.parameters

  abbrev given : Set
  given = λ y. ltb y arity

  -- g has number f and spends none of the parameters that it borrows
  module _ (style : Style) (f : ℕ)
      (kept : (i : ℕ) → borrows (borrowed fs) f i ≡ true →
      spent (borrows (borrowed fs)) (normal_body g) i ≡ false) where
    abbrev T : Table
    T = borrowed fs

    abbrev β : Borrowing
    β = borrows T

    abbrev lent : Set
    lent = λ y. given y && β f y

    abbrev Γ' : NameDepths
    Γ' = owned_depths fs T f g

    abbrev body : Tree
    body = annotated_in style fs T f g

    abbrev lent_arrays : List ℕ
    lent_arrays = arrays_at (β f) depths 0

    abbrev given_owned : List ℕ
    given_owned = D.holds_of Γ (picked (λ i. not (β f i)) 0 (names_from 0 arity))

    abbrev owned_arrays : List ℕ
    owned_arrays = arrays_at (λ i. not (β f i)) depths 0

    -- by the depths that it is annotated by
    owned_sound : Sound β Γ' [] body owned_arrays [] [] empty
    unfolding annotated_in occurrences
    owned_sound =
        let t = normal_body g in
        let tree = annotated_sound style F β Γ Γ' (under fs g ok style f kept)
        (few_owned fs g ok style f kept) t [] given empty arity g.result (formed fs g ok) (given_within fs g ok)
        (record { below = λ y e. absurd (false≢true e) }) (record { free_from = λ n h. none_lent n })
        (λ n. omega (arith, none_lent n, held_most Γ' (uses t) n)) in
        sound_same β Γ' [] body owned_arrays owned_arrays []
        (names Γ' [] empty) [] empty (λ n. refl)
        (λ n. omega (arith, names_held Γ' (few_owned fs g ok style f kept) [] empty n, held_empty Γ' n))
        (releasing β Γ' (few_owned fs g ok style f kept) [] given (uses t) (annotate style β Γ' t empty) owned_arrays []
        empty
        (λ n. omega (
          arith,
          given_held fs g ok style f kept n,
          held_le Γ' (uses t) given n (uses_given fs g ok n),
          none_lent n,
          held_most Γ' (uses t) n,
        )) tree)

    abbrev p : Program
    p = program_in style fs

    -- the program has the same functions in every style
    same_functions : F ≡ functions_of p
    unfolding program_in
    same_functions = λ i. record {
      number = (length_routines fs ∙ sym (length_routines_in style fs)) i;
      signatures = signatures_of fs;
    }

    body_fits : Fits p Γ body g.result given
    unfolding annotated_in
    body_fits =
        let t = normal_body g in
        fits_releases p Γ (dying Γ' given (uses t)) (annotate style β Γ' t empty) g.result given
        (dying_in p Γ style β Γ' (under fs g ok style f kept) given (uses t) given (λ n e. e))
        (annotated_fits p Γ style β Γ' (under fs g ok style f kept) t given empty arity g.result
        (subst (λ (G : Functions). Formed G Γ t given arity g.result) same_functions (formed fs g ok))
        (given_within fs g ok))

    pub routine_disciplined : RoutineDisciplined p (β f) (routine_in style fs T f g) (signature g)
    unfolding program_in
    routine_disciplined = record {
      parameters = ap (λ (k : ℕ). map Γ (names_from 0 k)) (sym (many fs g ok))
          ∙ same_depths Γ depths 0 (depths_given fs g ok);
      new = new_from arity 0 empty (omega (arith, ok.few)) (λ y h. refl);
      fits = body_fits.0;
      scoped = subst (D.Scoped body) (given_same fs g ok) body_fits.1;
      holds = subst (λ (l : List ℕ). D.Holding β Γ l body given_owned [] []) (arrays_given fs g ok (β f))
          (subst (λ (l : List ℕ). D.Holding β Γ lent_arrays body l [] []) (arrays_given fs g ok (λ i. not (β f i)))
          (holding_lent β lent Γ Γ' (owned fs g ok style f kept) body [] lent_arrays owned_arrays [] []
          (lends fs g ok style f kept) (spares fs g ok style f kept) owned_sound.0));
    }

    pub routine_frugal : RoutineFrugal β (β f) (routine_in style fs T f g)
    routine_frugal =
        subst (λ (l : List ℕ). D.Frugal β Γ l body given_owned empty) (arrays_given fs g ok (β f))
        (subst (λ (l : List ℕ). D.Frugal β Γ lent_arrays body l empty) (arrays_given fs g ok (λ i. not (β f i)))
        (frugal_lent β lent Γ Γ' (owned fs g ok style f kept) body [] lent_arrays owned_arrays empty
        (lends fs g ok style f kept) (spares fs g ok style f kept) owned_sound.1))

-- ---- the routines of a script

-- past the last function
no_disciplined : (p : Program) (b : ℕ → Bool) → RoutineDisciplined p b no_routine (signature no_function)
no_disciplined p b = record {
  parameters = refl;
  new = tt;
  fits = refl;
  scoped = tt;
  holds = λ n. refl;
}

module _ (style : Style) (fs : Script) (ok : (f : ℕ) → Accepted fs (function_at fs f)) where
  abbrev q : Program
  q = program_in style fs

  no_function_past : (f : ℕ) → length fs ≤ f → function_at fs f ≡ no_function
  no_function_past f h = get_or-eq_default fs no_function {n = f} h

  no_routine_past : (f : ℕ) → length fs ≤ f → routine_of q f ≡ no_routine
  no_routine_past f h =
      get_or-eq_default q.routines no_routine {n = f} (omega (arith, length_routines_in style fs))

  pub all_disciplined : (f : ℕ) → FunctionDisciplined q f
  unfolding program_in
  all_disciplined f = elim (dec_lt f (length fs)) [
    | yes h ↦
        subst (λ (r : Routine). RoutineDisciplined q (q.borrowing f) r (signature (function_at fs f)))
        (sym (routine_in_is style fs f h))
        (routine_disciplined fs (function_at fs f) (ok f) style f ((stable fs).kept f))
    | no h ↦
        subst (λ (r : Routine). RoutineDisciplined q (q.borrowing f) r (signature (function_at fs f)))
        (sym (no_routine_past f (omega arith)))
        (subst (λ (g : Function). RoutineDisciplined q (q.borrowing f) no_routine (signature g))
        (sym (no_function_past f (omega arith))) (no_disciplined q (q.borrowing f)))
  ]

  pub all_frugal : (f : ℕ) → FunctionFrugal q f
  unfolding program_in
  all_frugal f = elim (dec_lt f (length fs)) [
    | yes h ↦
        subst (RoutineFrugal q.borrowing (q.borrowing f)) (sym (routine_in_is style fs f h))
        (routine_frugal fs (function_at fs f) (ok f) style f ((stable fs).kept f))
    | no h ↦ subst (RoutineFrugal q.borrowing (q.borrowing f)) (sym (no_routine_past f (omega arith))) tt
  ]
