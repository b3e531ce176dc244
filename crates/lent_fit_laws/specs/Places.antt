-- The table of starts that the first walk promises: each function's line is behind the rows of those before it.
use Rattle.std.specs.Prelude.{ℕ, ◌≤◌, ◌+◌, ◌<◌, suc, zero, ◌≡◌, List, [], ◌∷◌, ◌++◌, map, length, take}
use Rattle.prelude.specs.Kit.{arith, ◌∙◌, length-append, length-map}
use Rattle.semantics.specs.Code as C
use Rattle.semantics_lent.specs.Form.{Lent}
use Rattle.lent_passing.specs.Functions.{parameter_row, lent_function, lent_code}
use Rattle.std.proofs.lemmas.List.{get_or_default}
use Rattle.lent_form.specs.Starts as S
use Rattle.lent_form.specs.Starts.{lent_size, Started}
use Rattle.lent_fit_laws.specs.Functions.{Placed}

lines_are : (gs : List Lent) (p f : ℕ) → f < length gs → S.start_of gs p f ≡ p + length (lent_code (take f gs))
unfolding lent_code lent_size
lines_are [] p f h = absurd (let z : ⊥ = omega (arith, h) in z)
lines_are (g ∷ gs) p zero h = let z : p ≡ p + 0 = omega arith in z
lines_are (g ∷ gs) p (suc f) h =
    let a = length-append (lent_function g) (lent_code (take f gs)) in
    let b = length-append (map parameter_row g.parameters) (C.rows g.tree) in
    let c = length-map g.parameters parameter_row in
    lines_are gs (p + lent_size g) f (omega (arith, h))
    ∙ (let z : p + lent_size g + length (lent_code (take f gs)) ≡ p + length
    (lent_function g ++ lent_code (take f gs)) =
    omega (arith, a, b, c) in z)

pub started_placed : {gs : List Lent} {st : List ℕ} → Started gs st → length gs ≤ 32 → Placed st gs
started_placed {gs = gs} {st = st} h few f k =
    get_or_default st f 4096 0 (omega (arith, h.long, few, k)) ∙ h.at f k ∙ lines_are gs 0 f k
    ∙ (let z : 0 + length (lent_code (take f gs)) ≡ length (lent_code (take f gs)) = omega arith in z)
