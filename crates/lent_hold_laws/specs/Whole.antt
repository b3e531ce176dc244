-- The third walk by positions is `hold` where form and fit accepted: the statement that the engine's code is held to.
use Rattle.std.specs.Prelude.{ℕ, ◌≤◌, ◌+◌, ◌<◌, suc, zero, true, false, Bool, cond, ◌≡◌, refl, List, [], ◌∷◌, map}
use Rattle.std.specs.Prelude.{ltb, ℤ, length, get_or}
use Rattle.prelude.specs.Kit.{arith, dec_lt, ◌∙◌, sym, ap, fun_ext, Option, lt-ltb, le-ltb}
use Rattle.laws.specs.Tests.{some_same, not_some}
use Rattle.semantics.specs.Outcome.{done, stop, onward, give}
use Rattle.semantics.specs.Kinds.{Borrowing}
use Rattle.semantics.specs.Annotate.{NameDepths}
use Rattle.semantics.specs.Borrow.{borrows}
use Rattle.semantics_lent.specs.Form.{Lent}
use Rattle.semantics_lent.specs.Hold.{hold_functions, hold, lent_table}
use Rattle.semantics_lent.specs.Calls.{lent_routines}
use Rattle.machine_code.specs.Reading.{depth_in}
use Rattle.machine_code.specs.Rows.{At}
use Rattle.lent_atoms.specs.Told.{depths}
use Rattle.lent_hold.specs.Functions.{functions_at}
use Rattle.lent_soundness.specs.Functions.{Few, AllFew}
use Rattle.lent_soundness.specs.Accepted.{LentFits}
use Rattle.lent_passing.specs.Functions.{lent_code, FunctionsFormed}
use Rattle.lent_passing.specs.Arities.{arity}
use Rattle.lent_hold_laws.specs.Same.{Short}
use Rattle.lent_hold_laws.specs.Functions.{Tabled, functions_same}

-- a function in form has at most 8 parameters
pub calls_short : (arities : List (Option ℕ)) (gs : List Lent) → FunctionsFormed arities gs → Short (map arity gs)
calls_short arities [] F f n e = not_some n e
calls_short arities (g ∷ gs) F zero n e = omega (arith, F.0.few, some_same (length g.parameters) n e)
calls_short arities (g ∷ gs) F (suc f) n e = calls_short arities gs F.1 f n e

-- ---- depths

-- the table has the depths of the names below 256
abbrev pub LaidFrom : List ℕ → ℕ → List NameDepths → Type 0
LaidFrom table f Γs = (i x : ℕ) → i < length Γs → x < 256 → depth_in table (f + i) x ≡ get_or Γs i (λ _. 0) x

module _ (table : List ℕ) where
  depths_are : (f : ℕ) (Γ : NameDepths) → ((x : ℕ) → x < 256 → depth_in table f x ≡ Γ x) → Few Γ → depths table f ≡ Γ
  unfolding depths
  depths_are f Γ h few = fun_ext (λ x. go x (dec_lt x 256))
    where
      go : (x : ℕ) → Dec (x < 256) → cond (ltb x 256) (depth_in table f x) 0 ≡ Γ x
      go x (yes q) = rw (lt-ltb x 256 q) (h x q)
      go x (no q) = rw (le-ltb x 256 (omega (arith, q))) (sym (few x (omega (arith, q))))

  tabled_from : (gs : List Lent) (Γs : List NameDepths) (f : ℕ) → length (lent_routines gs Γs) ≡ length gs →
      AllFew (lent_routines gs Γs) → LaidFrom table f Γs → Tabled (depths table) f gs Γs
  unfolding lent_routines
  tabled_from [] Γs f n few h = tt
  tabled_from (g ∷ gs) [] f n few h = absurd (let z : ⊥ = omega (arith, n) in z)
  tabled_from (g ∷ gs) (Γ ∷ Γs) f n few h = (
    depths_are f Γ (λ x q. ap (λ (k : ℕ). depth_in table k x) (let z : f ≡ f + 0 = omega arith in z)
        ∙ h 0 x (omega arith) q) few.0,
    tabled_from gs Γs (suc f) (omega (arith, n)) few.1 (λ i x p q.
        ap (λ (k : ℕ). depth_in table k x) (let z : suc f + i ≡ f + suc i = omega arith in z)
        ∙ h (suc i) x (omega (arith, p)) q),
  )

  pub tabled : (d : ℕ) (gs : List Lent) (Γs : List NameDepths) → LentFits d gs Γs →
      ((f x : ℕ) → f < length Γs → x < 256 → depth_in table f x ≡ get_or Γs f (λ _. 0) x) → Tabled (depths table) 0 gs Γs
  tabled d gs Γs fits laid =
      tabled_from gs Γs 0 fits.many fits.few (λ i x p q.
      ap (λ (k : ℕ). depth_in table k x) (let z : 0 + i ≡ i = omega arith in z) ∙ laid i x p q)

-- ---- the whole code

module _ (kinds : List ℕ) (operands : List ℤ) (few : length kinds ≤ 4096) (table : List ℕ) (d : ℕ) (gs : List Lent)
    (Γs : List NameDepths) (formed : FunctionsFormed (map arity gs) gs) (stand : At kinds operands 0 (lent_code gs))
    (fits : LentFits d gs Γs)
    (laid : (f x : ℕ) → f < length Γs → x < 256 → depth_in table f x ≡ get_or Γs f (λ _. 0) x) where
  pub hold_by_positions : (β : Borrowing) →
      functions_at kinds operands β (depths table) (length gs) 0 0 ≡ hold_functions β 0 gs Γs 0
  hold_by_positions β =
      functions_same kinds operands few (map arity gs) (calls_short (map arity gs) gs formed) β (depths table) gs Γs 0 0
      formed (tabled table d gs Γs fits laid) stand

  -- so what the code says by the table of borrowed parameters is what `hold` says
  pub hold_told : (fine : Bool) (at : ℕ) →
      functions_at kinds operands (borrows (lent_table gs)) (depths table) (length gs) 0 0
      ≡ cond fine (done tt at) (stop 29 at) →
      hold gs Γs ≡ cond fine (done (lent_table gs) at) (stop 29 at)
  unfolding hold onward
  hold_told fine at e =
      ap (onward (λ (u : Unit {0}). give (lent_table gs)))
      (sym (hold_by_positions (borrows (lent_table gs))) ∙ e) ∙ go fine
    where
      go : (b : Bool) →
          onward (λ (u : Unit {0}). give (lent_table gs)) (cond b (done tt at) (stop 29 at))
          ≡ cond b (done (lent_table gs) at) (stop 29 at)
      go true = refl
      go false = refl
