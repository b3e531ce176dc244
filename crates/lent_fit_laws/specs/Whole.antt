-- The second walk of the code is `fit` where `form` accepted: the statement that the engine's code is held to.
use Rattle.std.specs.Prelude.{ℕ, ◌≤◌, ◌+◌, ◌<◌, suc, zero, min, ◌≡◌, refl, List, [], ◌∷◌, ℤ, length, take, Result}
use Rattle.prelude.specs.Kit.{arith, ◌∙◌, sym, ap, subst, length-take}
use Rattle.semantics.specs.Outcome.{Outcome, done}
use Rattle.semantics.specs.Code.{Row}
use Rattle.semantics.specs.Annotate.{NameDepths}
use Rattle.semantics_lent.specs.Form.{Lent, form, paired, lent_rows, code_length}
use Rattle.semantics_lent.specs.Fit.{fit}
use Rattle.lent_passing.specs.Functions.{lent_code}
use Rattle.lent_passing.specs.SaidFunctions.{Formable, form_said}
use Rattle.machine_code.specs.Reading.{Cut}
use Rattle.lent_form.specs.declared.Fault.{Fault}
use Rattle.lent_fit.specs.Functions.{code_fits, Told}
use Rattle.machine_code.specs.Rows.{At}
use Rattle.lent_fit_laws.specs.Functions.{Placed, code_same}

-- ---- rows of two arrays

at_next : (k : ℕ) (o : ℤ) (K : List ℕ) (O : List ℤ) (p : ℕ) (rs : List Row) → At K O p rs →
    At (k ∷ K) (o ∷ O) (suc p) rs
at_next k o K O p [] h = tt
at_next k o K O p (r ∷ rs) h = (
  record {
    kind = h.0.kind;
    operand = h.0.operand;
    within = omega (arith, h.0.within);
    held = omega (arith, h.0.held);
  },
  subst (λ (q : ℕ). At (k ∷ K) (o ∷ O) q rs) (let z : suc (p + 1) ≡ suc p + 1 = omega arith in z)
      (at_next k o K O (p + 1) rs h.1),
)

at_taken : (n : ℕ) (ks : List ℕ) (os : List ℤ) → At (take n ks) (take n os) 0 (take n (paired ks os))
unfolding paired
at_taken zero [] os = tt
at_taken zero (k ∷ ks) [] = tt
at_taken zero (k ∷ ks) (o ∷ os) = tt
at_taken (suc n) [] os = tt
at_taken (suc n) (k ∷ ks) [] = tt
at_taken (suc n) (k ∷ ks) (o ∷ os) = (
  record { kind = refl; operand = refl; within = omega arith; held = omega arith },
  at_next k o (take n ks) (take n os) 0 (take n (paired ks os)) (at_taken n ks os),
)

take_again : {A : Type 0} (n : ℕ) (l : List A) → take (length (take n l)) l ≡ take n l
take_again zero [] = refl
take_again zero (a ∷ l) = refl
take_again (suc n) [] = refl
take_again {A = A} (suc n) (a ∷ l) = ap (λ (m : List A). a ∷ m) (take_again n l)

pub paired_length : (ks : List ℕ) (os : List ℤ) →
    (length (paired ks os) ≤ length ks) × (length (paired ks os) ≤ length os)
unfolding paired
paired_length [] os = (omega arith, omega arith)
paired_length (k ∷ ks) [] = (omega arith, omega arith)
paired_length (k ∷ ks) (o ∷ os) =
    let r = paired_length ks os in (omega (arith, r.0), omega (arith, r.1))

-- ---- code whose form was accepted

module _ (kinds : List ℕ) (operands : List ℤ) (gs : List Lent) (lines : ℕ)
    (accepted : form kinds operands ≡ done gs lines)
  where
    said : Formable kinds operands gs lines
    said = form_said kinds operands gs lines accepted

    -- the rows of the functions stand in the arrays, cut to the lines
    pub stands : At (take lines kinds) (take lines operands) 0 (lent_code gs)
    unfolding lent_rows
    stands =
        let n = min 4096 (code_length kinds operands) in
        let w : take n (paired kinds operands) ≡ lent_code gs = said.rows in
        let l : length (take n (paired kinds operands)) ≡ lines = ap length w ∙ sym said.count in
        subst (λ (rs : List Row). At (take lines kinds) (take lines operands) 0 rs)
        (ap (λ (m : ℕ). take m (paired kinds operands)) (sym l) ∙ take_again n (paired kinds operands) ∙ w)
        (at_taken lines kinds operands)

    -- the walk by positions over the arrays, cut to the lines, is `fit`
    pub fit_by_positions : (st : List ℕ) (d : ℕ) → Placed st gs →
        code_fits (take lines kinds) (take lines operands) st d (length gs) ≡ fit d gs
    fit_by_positions st d places =
        code_same (take lines kinds) (take lines operands) st gs d said.formed stands places said.some

    -- so what the code says is what `fit` says, and the table has the depths that it gives
    pub fit_told : (st : List ℕ) (d : ℕ) (r : Result ℕ Fault) (table table' : List ℕ) → Placed st gs →
        Told (code_fits (take lines kinds) (take lines operands) st d (length gs)) r table table' →
        Told (fit d gs) r table table'
    fit_told st d r table table' places h =
        subst (λ (o : Outcome ℕ (List NameDepths)). Told o r table table') (fit_by_positions st d places) h

    -- the arrays are cut as the code asks
    pub form_cut : Cut (take lines kinds) (take lines operands)
    unfolding lent_rows lent_code
    form_cut =
        let n = min 4096 (code_length kinds operands) in
        let w : take n (paired kinds operands) ≡ lent_code gs = said.rows in
        let l : lines ≡ min n (length (paired kinds operands)) =
        said.count ∙ sym (ap length w) ∙ length-take n (paired kinds operands) in
        let r = paired_length kinds operands in
        let a = length-take lines kinds in
        let b = length-take lines operands in
        let c = some_rows gs said.some in
        (omega (arith, l, r.0, r.1, a, b), omega (arith, l, r.0, a, c, said.count), omega (arith, a, said.short))
      where
        some_rows : (gs : List Lent) → 0 < length gs → 0 < length (lent_code gs)
        some_rows [] h = absurd (let z : ⊥ = omega (arith, h) in z)
        some_rows (g ∷ gs) h = omega arith
