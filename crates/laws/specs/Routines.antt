-- The routines of a script's program, by the numbers of its functions.
use Rattle.std.specs.Prelude.{ℕ, ◌+◌, ◌<◌, suc, zero, ◌≡◌, refl, List, [], ◌∷◌, length, get_or}
use Rattle.prelude.specs.Kit.{arith, ◌∙◌, ap}
use Rattle.semantics.specs.Syntax.{Function, Script, function_at, no_function}
use Rattle.semantics.specs.Borrow.{Table, borrowed}
use Rattle.semantics.specs.Annotate.{Style, full_style, depths_of, annotated_in}
use Rattle.semantics.specs.Machine.{Routine, first_names, no_routine, routines_from, program_in, program, routine_of}

-- the routine of function f
abbrev pub routine_in : Style → Script → Table → ℕ → Function → Routine
routine_in style fs T f g =
    record { names = first_names g.parameters; tree = annotated_in style fs T f g; depths = depths_of fs g }

abbrev pub routine_at : Script → Table → ℕ → Function → Routine
routine_at = routine_in full_style

pub length_routines_from : (style : Style) (fs : Script) (T : Table) (f : ℕ) (gs : List Function) →
    length (routines_from style fs T f gs) ≡ length gs
unfolding routines_from
length_routines_from style fs T f [] = refl
length_routines_from style fs T f (g ∷ gs) = ap suc (length_routines_from style fs T (suc f) gs)

pub routine_from : (style : Style) (fs : Script) (T : Table) (f : ℕ) (gs : List Function) (i : ℕ) → i < length gs →
    get_or (routines_from style fs T f gs) i no_routine ≡ routine_in style fs T (f + i) (get_or gs i no_function)
unfolding routines_from
routine_from style fs T f [] i h = absurd (omega arith)
routine_from style fs T f (g ∷ gs) zero h =
    ap (λ (n : ℕ). routine_in style fs T n g) (let z : f ≡ f + 0 = omega arith in z)
routine_from style fs T f (g ∷ gs) (suc i) h =
    routine_from style fs T (suc f) gs i (omega arith)
    ∙ ap (λ (n : ℕ). routine_in style fs T n (get_or gs i no_function)) (let z : suc f + i ≡ f + suc i = omega arith in z)

-- ---- a script's program

pub length_routines_in : (style : Style) (fs : Script) → length (program_in style fs).routines ≡ length fs
unfolding program_in
length_routines_in style fs = length_routines_from style fs (borrowed fs) 0 fs

pub routine_in_is : (style : Style) (fs : Script) (f : ℕ) → f < length fs →
    routine_of (program_in style fs) f ≡ routine_in style fs (borrowed fs) f (function_at fs f)
unfolding program_in
routine_in_is style fs f h =
    routine_from style fs (borrowed fs) 0 fs f h
    ∙ ap (λ (n : ℕ). routine_in style fs (borrowed fs) n (function_at fs f)) (let z : 0 + f ≡ f = omega arith in z)

pub length_routines : (fs : Script) → length (program fs).routines ≡ length fs
length_routines = length_routines_in full_style

pub routine_is : (fs : Script) (f : ℕ) → f < length fs →
    routine_of (program fs) f ≡ routine_at fs (borrowed fs) f (function_at fs f)
routine_is = routine_in_is full_style
