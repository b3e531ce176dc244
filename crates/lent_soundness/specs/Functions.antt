-- The third walk over all functions: it decides whether each is `Holding`.
use Rattle.std.specs.Prelude.{ℕ, ◌≤◌, ◌+◌, ◌<◌, suc, zero, Bool, not, ◌≡◌, refl, List, [], ◌∷◌, length, get_or}
use Rattle.prelude.specs.Kit.{arith, sym, subst}
use Rattle.semantics.specs.Basics.{occurrences}
use Rattle.semantics.specs.Kinds.{Borrowing, picked}
use Rattle.semantics.specs.Annotate.{NameDepths}
use Rattle.semantics.specs.Borrow.{borrows}
use Rattle.semantics.specs.Machine.{Routine, no_routine}
use Rattle.semantics_lent.specs.Form.{Lent}
use Rattle.semantics_lent.specs.Hold.{none_held, hold_all, same_holds, hold_function, hold_functions, names_of}
use Rattle.semantics_lent.specs.Hold.{lent_table, hold}
use Rattle.semantics_lent.specs.Calls.{lent_routines}
use Rattle.laws.specs.Lists.{occurrences_append}
use Rattle.discipline.proofs.machine.Discipline.{Holding, left_by, lent_parameters, parameter_holds}
use Rattle.discipline.proofs.machine.Spending.{holding_left, holding_same}
use Rattle.lent_soundness.specs.Answers.{Ends, Answers, answers_give, answers_then, answers_skip, answers_map}
use Rattle.lent_soundness.specs.Counts.{Counts, none_counted, none_members, counts_same, counts_all, members_all}
use Rattle.lent_soundness.specs.Decides.{just, same_tells, tree_decides}

-- only the first 256 names are arrays
abbrev pub Few : NameDepths → Type 0
Few Γ = (n : ℕ) → 256 ≤ n → Γ n ≡ 0

-- a routine that borrows the parameters at b holds what it spends and reads, and nothing at its end
abbrev pub RoutineHolds : Borrowing → (ℕ → Bool) → Routine → Type 0
RoutineHolds β b r = Holding β r.depths (lent_parameters b r) r.tree (parameter_holds b r) [] []

module _ (β : Borrowing) (b : ℕ → Bool) (r : Routine) (few : Few r.depths) where
  abbrev Γ : NameDepths
  Γ = r.depths

  abbrev lent : List ℕ
  lent = lent_parameters b r

  abbrev held : List ℕ
  held = parameter_holds b r

  begun : Counts Γ (hold_all Γ (picked (λ i. not (b i)) 0 r.names) none_held) held
  unfolding occurrences
  begun = counts_same Γ held (λ n. omega (arith, occurrences_append n held []))
      (counts_all Γ (picked (λ i. not (b i)) 0 r.names) (none_counted Γ))

  pub function_decides : Answers (RoutineHolds β b r → ⊥) (λ _. RoutineHolds β b r)
      (hold_function β Γ b r.names r.tree)
  unfolding hold_function
  function_decides = answers_then (answers_skip (1 + length r.names)) (λ n. n) (λ u s. answers_map
      (λ n h. n (
        holding_same β Γ lent r.tree held held [] [] (left_by β Γ r.tree held) (λ k. refl)
            (λ k. sym (holding_left β Γ lent r.tree held [] [] h k)) h,
        holding_left β Γ lent r.tree held [] [] h,
      ))
      (λ I q. holding_same β Γ lent r.tree held held [] (left_by β Γ r.tree held) [] (λ k. refl) q.holds.1
      q.holds.0)
      (tree_decides β Γ few r.tree _ _ _ lent [] held (same_holds none_held) (just [])
      (record { lent = members_all Γ (picked b 0 r.names); pending = none_members Γ; held = begun })
      (same_tells β Γ few (none_counted Γ))))

-- some routines, the first of which has number f
abbrev pub AllHold : Borrowing → ℕ → List Routine → Type 0
AllHold β f [] = Unit {0}
AllHold β f (r ∷ rs) = RoutineHolds β (β f) r × AllHold β (suc f) rs

abbrev pub AllFew : List Routine → Type 0
AllFew [] = Unit {0}
AllFew (r ∷ rs) = Few r.depths × AllFew rs

pub hold_at : (β : Borrowing) (f : ℕ) (rs : List Routine) → AllHold β f rs → (i : ℕ) → i < length rs →
    RoutineHolds β (β (f + i)) (get_or rs i no_routine)
hold_at β f [] h i q = absurd (omega (arith, q))
hold_at β f (r ∷ rs) h zero q =
    subst (λ (k : ℕ). RoutineHolds β (β k) r) (let z : f ≡ f + 0 = omega arith in z) h.0
hold_at β f (r ∷ rs) h (suc i) q =
    subst (λ (k : ℕ). RoutineHolds β (β k) (get_or rs i no_routine)) (let z : suc f + i ≡ f + suc i = omega arith in z)
    (hold_at β (suc f) rs h.1 i (omega (arith, q)))

module _ (β : Borrowing) where
  pub functions_decide : (f : ℕ) (gs : List Lent) (Γs : List NameDepths) → AllFew (lent_routines gs Γs) →
      Answers (AllHold β f (lent_routines gs Γs) → ⊥) (λ _. AllHold β f (lent_routines gs Γs))
      (hold_functions β f gs Γs)
  unfolding hold_functions lent_routines
  functions_decide f [] Γs few = answers_give tt tt
  functions_decide f (g ∷ gs) [] few = answers_give tt tt
  functions_decide f (g ∷ gs) (Γ ∷ Γs) few =
      answers_then (function_decides β (β f) (record { names = names_of g; tree = g.tree; depths = Γ }) few.0)
      (λ n h. n h.0) (λ I h. answers_map (λ n q. n q.1) (λ u q. (h, q)) (functions_decide (suc f) gs Γs few.1))

-- the walk ends, with the table that the code has, exactly where every function holds by that table
pub hold_decides : (gs : List Lent) (Γs : List NameDepths) → AllFew (lent_routines gs Γs) →
    Ends (AllHold (borrows (lent_table gs)) 0 (lent_routines gs Γs) → ⊥)
    (λ T. (T ≡ lent_table gs) × AllHold (borrows (lent_table gs)) 0 (lent_routines gs Γs)) (hold gs Γs)
unfolding hold
hold_decides gs Γs few =
    (answers_then {Q = λ T. (T ≡ lent_table gs) × AllHold (borrows (lent_table gs)) 0 (lent_routines gs Γs)}
    (functions_decide (borrows (lent_table gs)) 0 gs Γs few) (λ n. n)
    (λ u h. answers_give (lent_table gs) (refl, h))).at 0
