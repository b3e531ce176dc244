-- A program worked on values: what its code means (document 02, order 10), with retains and releases ignored. The
-- actions, their steps and stops are those of a script's meaning.
use Rattle.std.specs.Prelude.{ℕ, zero, suc, List, [], ◌∷◌, map, pos}
use Rattle.semantics.specs.Basics.{updated}
use Rattle.semantics.specs.Outcome.{Outcome, ◌>>=◌, ◌>>◌, give, halt}
use Rattle.semantics.specs.Value.{Value, num}
use Rattle.semantics.specs.Code.{Atom, number, name, Line, leaf, if_else, loop, retain, release, Tree, end, line}
use Rattle.semantics.specs.Meaning.{Meter, Work, Callee, Env, do_leaf, do_if, do_loop, binding}
use Rattle.semantics.specs.Machine.{Program, routine_of}

-- the value of an atom
abbrev pub value : Env → Atom → Value
value ρ (number z) = num z
value ρ (name x) = ρ x

module _ (callee : Callee) where
  unfoldable mutual
    pub run : Tree → Env → Work Value
    run (end a) ρ = give (value ρ a)
    run (line l t) ρ = do ρ' ← run_line l ρ; run t ρ'

    pub run_line : Line → Env → Work Env
    run_line (leaf x l us) ρ = do v ← do_leaf callee l (map (value ρ) us); give (updated ρ x v)
    run_line (if_else x g t e) ρ = do v ← do_if (value ρ g) (run t ρ) (run e ρ); give (updated ρ x v)
    run_line (loop x k ps us t) ρ = do
      v ← do_loop k (map (value ρ) us) (λ ws. run t (binding ps ws ρ))
      give (updated ρ x v)
    run_line (retain x) ρ = give ρ
    run_line (release x) ρ = give ρ

-- the arguments are the values of the parameters' names
unfoldable pub valued : List ℕ → List Value → Env
valued [] vs = λ _. num (pos 0)
valued (x ∷ xs) [] = λ _. num (pos 0)
valued (x ∷ xs) (v ∷ vs) = updated (valued xs vs) x v

-- a call worked on values, with some call depth left
unfoldable pub running : Program → ℕ → Callee
running p zero f vs = halt 22
running p (suc n) f vs = run (running p n) (routine_of p f).tree (valued (routine_of p f).names vs)

-- main on the totals and the readings, with a budget
unfoldable pub main_running : Program → Value → Value → ℕ → Outcome Meter Value
main_running p totals readings budget =
    running p 32 0 (totals ∷ readings ∷ []) (record { left = budget; trace = [] })
