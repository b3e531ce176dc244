-- The walk over the functions finds the first of the nodes that break rule 7.
use Rattle.prelude.specs.Kit.{ℕ, ◌≤◌, ◌+◌, suc, zero, arith, true, false, Bool, cond, ◌&&◌, ◌≡◌, refl, ◌∙◌, sym, ap}
use Rattle.prelude.specs.Kit.{subst, fun_ext, List, [], ◌∷◌, map, eqb, length, get_or}
use Rattle.semantics.specs.Basics.{updated}
use Rattle.semantics.specs.Outcome.{done, stop}
use Rattle.semantics.specs.Syntax.{Expr, size, Parameter, Function, Script, function_size, function_at}
use Rattle.semantics.specs.File.{at_function}
use Rattle.semantics.specs.Types.{Checked, Signature, signature, check, parameter_depths, result_rule, some_if}
use Rattle.semantics.specs.Types.{check_function, function_faults, signatures_of, main_shape, type_faults}
use Rattle.script_read.specs.Told.{Read, Next, Refused, low_at, high_at, repeated}
use Rattle.script_read.proofs.Written.{Written, HeadAt, ParametersWritten, FunctionWritten, ScriptWritten}
use Rattle.script_read.proofs.Found.{Finds, follow}
use Rattle.script_read.specs.Starts.{start_of}
use Rattle.script_rules.specs.Rules.{depths_from, signature_at, signature_of}
use Rattle.script_depths.specs.Walk.{Walked, and_parts, by_rule, ruled}
use Rattle.script_rules.proofs.Rules.{signature_past}
use Rattle.script_depths.proofs.Tree.{Tells, good, bad, by_its_rule, next_part, no_parts, known, entered, types_tree}
use Rattle.script_types.specs.Functions.{types_from, types_function, types_script, ended}

-- ---- signatures

module _ (k w : List ℕ) where
  parameters_depths : (xs : List Parameter) (p : ℕ) → ParametersWritten k w xs p →
      depths_from k w (length xs) p ≡ map (λ x. x.depth) xs
  unfolding depths_from high_at
  parameters_depths [] p h = refl
  parameters_depths (x ∷ xs) p h = rw (h.0.is, h.0.upper, parameters_depths xs (p + 1) h.1)

  head_low : {p y z : ℕ} → HeadAt k w at_function p y z → low_at k w at_function p ≡ y
  unfolding low_at
  head_low h = rw h.is h.lower

  head_high : {p y z : ℕ} → HeadAt k w at_function p y z → high_at k w at_function p ≡ z
  unfolding high_at
  head_high h = rw h.is h.upper

  function_signature : (g : Function) (p : ℕ) → FunctionWritten k w g p → signature_at k w p ≡ signature g
  unfolding signature_at
  function_signature g p h =
      rw (head_low h.head, head_high h.head, parameters_depths g.parameters (p + 1) h.parameters)

  signature_found : (gs : Script) (p f : ℕ) → length k ≤ 1024 → ScriptWritten k w gs p →
      signature_at k w (start_of gs p f) ≡ signature (function_at gs f)
  signature_found [] p f l h = signature_past k w 1024 l
  signature_found (g ∷ gs) p zero l h = function_signature g p h.0
  signature_found (g ∷ gs) p (suc f) l h = signature_found gs (p + function_size g) f l h.1

  -- the table of starts gives all signatures
  pub all_signatures : (s : List ℕ) (gs : Script) → length k ≤ 1024 → ScriptWritten k w gs 0 →
      ((f : ℕ) → get_or s f 1024 ≡ start_of gs 0 f) → signature_of k w s ≡ signatures_of gs
  all_signatures s gs l h e = fun_ext λ f. ap (signature_at k w) (e f) ∙ signature_found gs 0 f l h

-- ---- functions

module _ (k w s : List ℕ) where
  types_parameters : (xs : List Parameter) (e : Expr) (γ : ℕ → ℕ) (p q : ℕ) →
      ParametersWritten k w xs p → Written k w e 64 (p + length xs) → q ≡ p + length xs + size e →
      Tells (check (signature_of k w s) e (parameter_depths (signature_of k w s) xs (known γ)) (p + length xs)) q
      (types_from k w s (length xs) γ p)
  unfolding types_from
  types_parameters [] e γ p q h g i =
      let z : p + 0 ≡ p = omega arith in
      rw z (types_tree k w s e 64 γ p q (rw z at g) (omega arith))
  types_parameters (x ∷ xs) e γ p q h g i =
      let z : p + suc (length xs) ≡ p + 1 + length xs = omega arith in
      rw (h.0.is, h.0.lower, h.0.upper, z, entered γ x.id x.depth)
      (types_parameters xs e (updated γ x.id x.depth) (p + 1) q h.1 (rw z at g) (omega arith))

  -- a function's answer as that of a node with one part
  told_end : Walked → Read
  told_end (done d q) = Next q
  told_end (stop n i) = Refused n i

  by_result : (p r : ℕ) (t : Walked) →
      ended p r t ≡ told_end (ruled p (result_rule (signature_of k w s) r) (and_parts t (λ q. done [] q)))
  unfolding told_end
  by_result p r (done d q) = go (eqb d r)
    where
      go : (b : Bool) → cond b (Next q) (Refused 7 p) ≡ told_end (by_rule p q (some_if (b && true) r))
      go true = refl
      go false = refl
  by_result p r (stop n i) = refl

  told_faults : {c : Checked} {q : ℕ} {t : Walked} → Tells c q t → Finds 7 (told_end t) c.faults q
  unfolding told_end
  told_faults (good t e f) = record { is = rw f }
  told_faults (bad n l e f) = record { is = rw f }

  types_one : (g : Function) (p : ℕ) → FunctionWritten k w g p →
      Finds 7 (types_function k w s p) (check_function (signature_of k w s) true g p).faults (p + function_size g)
  unfolding types_function types_from check_function function_size
  types_one g p h =
      rw (
        h.head.is,
        h.head.lower,
        h.head.upper,
        by_result p g.result (types_from k w s (length g.parameters) (λ _. 0) (p + 1)),
      )
      (told_faults (by_its_rule p (result_rule (signature_of k w s) g.result)
      (next_part (λ q. done [] q)
      (types_parameters g.parameters g.body (λ _. 0) (p + 1) (p + function_size g) h.parameters h.body
      (omega arith))
      no_parts)))

  types_all : (gs : Script) (p : ℕ) → ScriptWritten k w gs p →
      (q : ℕ) × Finds 7 (repeated (length gs) (types_function k w s) p)
      (function_faults (signature_of k w s) true gs p)
      q
  unfolding repeated function_faults
  types_all [] p h = (p, record { is = refl })
  types_all (g ∷ gs) p h =
      let r = types_all gs (p + function_size g) h.1 in
      (r.0, follow (repeated (length gs) (types_function k w s)) (types_one g p h.0) r.1)

  -- ---- the script

  wrong_main : (gs : Script) → 1 ≤ length gs →
      (q : ℕ) × Finds 7 (Refused 7 0) (function_faults (signature_of k w s) false gs 0) q
  unfolding function_faults check_function
  wrong_main [] l = absurd (omega arith)
  wrong_main (g ∷ gs) l = (0, record { is = refl })

  by_shape : (gs : Script) → ScriptWritten k w gs 0 → 1 ≤ length gs → (b : Bool) →
      (q : ℕ) × Finds 7 (cond b (repeated (length gs) (types_function k w s) 0) (Refused 7 0))
      (function_faults (signature_of k w s) b gs 0) q
  by_shape gs h l true = types_all gs 0 h
  by_shape gs h l false = wrong_main gs l

  main_first : (gs : Script) → 1 ≤ length gs → start_of gs 0 0 ≡ 0
  main_first [] l = absurd (omega arith)
  main_first (g ∷ gs) l = refl

  pub types_faults : (gs : Script) → ScriptWritten k w gs 0 → 1 ≤ length gs → length k ≤ 1024 →
      ((f : ℕ) → get_or s f 1024 ≡ start_of gs 0 f) →
      (q : ℕ) × Finds 7 (types_script k w s (length gs)) (type_faults gs) q
  unfolding types_script type_faults
  types_faults gs h l few e =
      subst (λ (σ : ℕ → Signature). (q : ℕ) × Finds 7 (types_script k w s (length gs))
      (function_faults σ (main_shape (σ 0)) gs 0) q)
      (all_signatures k w s gs few h e)
      (subst (λ (t : Signature). (q : ℕ) × Finds 7 (types_script k w s (length gs))
      (function_faults (signature_of k w s) (main_shape t) gs 0) q)
      (sym (ap (signature_at k w) (e 0 ∙ main_first gs l)))
      (by_shape gs h l (main_shape (signature_at k w 0))))
