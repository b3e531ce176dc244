-- A call of a disciplined program, by induction on the call depth left.
use Rattle.prelude.specs.Kit.{ℕ, ◌≤◌, ◌+◌, ◌<◌, suc, zero, ◌*◌, arith, true, false, Bool, not, ◌≡◌, refl, ◌∙◌, sym, ap}
use Rattle.prelude.specs.Kit.{subst, List, [], ◌∷◌, ◌++◌, map, ℤ, length}
use Rattle.semantics.specs.Value.{Value}
use Rattle.semantics.specs.Kinds.{Leaf, operation, call, literal, index, length_of, iota, replicate, picked}
use Rattle.semantics.specs.Basics.{◌∈◌}
use Rattle.semantics.specs.Live.{empty, just}
use Rattle.semantics.specs.Annotate.{NameDepths}
use Rattle.semantics.specs.Meaning.{Meter}
use Rattle.semantics.specs.Machine.{State, Routine, Program, routine_of, framed, machine, work}
use Rattle.semantics.specs.Store.{Store}
use Rattle.laws.specs.Lists.{◌⊆◌}
use Rattle.semantics.specs.Plain.{run, running, valued}
use Rattle.discipline.proofs.store.Invariant.{Invariant}
use Rattle.discipline.proofs.normal.Trace.{CalleeGrows, running_grows}
use Rattle.discipline.proofs.machine.Discipline.{parameter_holds, lent_parameters, holds_of, FunctionDisciplined}
use Rattle.discipline.proofs.machine.Discipline.{FunctionFrugal}
use Rattle.discipline.proofs.machine.Agreement.{Start, Together, Agree, same, agree_map}
use Rattle.discipline.proofs.machine.Frames.{hold, Room, Setting, Situation, Returned, Arguments, named_all}
use Rattle.discipline.proofs.machine.Frames.{owned_cells, borrowed_cells}
use Rattle.discipline.proofs.machine.Standing.{none_in}
use Rattle.discipline.proofs.machine.Size.{tree_adds, AddsWithin}
use Rattle.discipline.proofs.machine.Rules.{TreeRules}
use Rattle.discipline.proofs.machine.Claims.{CallClaim, LeafClaim}
use Rattle.discipline.proofs.machine.Reading.{leaf_operation, leaf_index, leaf_length}
use Rattle.discipline.proofs.machine.Making.{leaf_literal, leaf_iota}
use Rattle.discipline.proofs.machine.Replicating.{leaf_replicate}
use Rattle.discipline.proofs.machine.Calling.{leaf_call}
use Rattle.discipline.proofs.machine.Trees.{tree_sound}
use Rattle.discipline.proofs.machine.Parameters.{picked_in, just_in, holds_in, parameters_hold, parameter_numbers}
use Rattle.discipline.proofs.machine.Parameters.{parameter_arrays, parameters_lent}

-- every leaf
pub leaf_sound : (C : Setting) → CalleeGrows C.meant → CallClaim C → (l : Leaf) → LeafClaim C l
leaf_sound C grows calls (operation o) = leaf_operation C o
leaf_sound C grows calls (call f) = leaf_call C grows calls f
leaf_sound C grows calls (literal d) = leaf_literal C d
leaf_sound C grows calls index = leaf_index C
leaf_sound C grows calls length_of = leaf_length C
leaf_sound C grows calls iota = leaf_iota C
leaf_sound C grows calls replicate = leaf_replicate C

-- the most references that a function's own lines may add
abbrev pub call_adds : ℕ
call_adds = 1000000

-- a program's code with some call depth left: each call below adds no more than that
abbrev pub setting : Program → Start → ℕ → NameDepths → Setting
setting p start n Γ = record {
  program = p;
  depths = Γ;
  start = start;
  callee = machine p n;
  meant = running p n;
  need = call_adds * n;
}

-- Every function is disciplined, and short: code of 4,096 rows adds at most 69,632 references. The first is main, which
-- owns its parameters.
pub record ProgramDisciplined (p : Program) : Type 0 where
  pub functions : (f : ℕ) → f < length p.routines → FunctionDisciplined p f
  pub short : (f : ℕ) → f < length p.routines → AddsWithin call_adds (routine_of p f).tree
  pub some : 0 < length p.routines
  pub owns : (i : ℕ) → p.borrowing 0 i ≡ false
  pub takes : (p.signatures 0).parameters ≡ p.depth ∷ (1 ∷ [])
  pub gives : (p.signatures 0).result ≡ p.depth

-- what is asked of a program for every taken cell to be in use where none is free
abbrev pub ProgramFrugal : Program → Type 0
ProgramFrugal p = (f : ℕ) → f < length p.routines → FunctionFrugal p f

-- ---- the body of a function

module _ (p : Program) (disciplined : ProgramDisciplined p) (start : Start)
    (frugal : start.frugal ≡ true → ProgramFrugal p) (f : ℕ) (there : f < length p.routines) where
  abbrev r : Routine
  r = routine_of p f

  abbrev ds : List ℕ
  ds = (p.signatures f).parameters

  -- the parameters that are lent, and those that hold
  abbrev pub body_lent : List ℕ
  body_lent = lent_parameters (p.borrowing f) r

  abbrev pub body_held : List ℕ
  body_held = parameter_holds (p.borrowing f) r

  pub body_rules : (n : ℕ) → TreeRules (setting p start n r.depths) r.tree body_lent (just r.names) empty
      body_held [] [] (p.signatures f).result
  body_rules n = record {
    fits = (disciplined.functions f there).fits;
    scoped = (disciplined.functions f there).scoped;
    names = record {
      lent = known (p.borrowing f);
      held = known (λ i. not (p.borrowing f i));
      left = λ y h. absurd (none_in y h);
    };
    holds = (disciplined.functions f there).holds;
    frugal = λ q. frugal q f there;
  }
    where
      known : (b : ℕ → Bool) (y : ℕ) → y ∈ holds_of r.depths (picked b 0 r.names) → just r.names y ≡ true
      known b y h = just_in r.names y (picked_in b 0 r.names y (holds_in r.depths (picked b 0 r.names) y h))

  -- on arguments that stand for values
  pub body_situation : (n : ℕ) {ws : List ℤ} {vs : List Value} {Z F R : List ℕ} {σ : Store} → Arguments σ ds ws vs →
      borrowed_cells p f ws ⊆ F → Invariant σ Z (owned_cells p f ws ++ F) →
      Room Z (owned_cells p f ws ++ F) (call_adds * suc n) → (start.frugal ≡ true → (Z ++ F) ⊆ R) →
      Situation (setting p start n r.depths) σ Z F R body_lent body_held [] (framed r.names ws)
      (valued r.names vs)
      (tree_adds r.tree + call_adds * n)
  body_situation n {ws} {vs} {Z} {F} {σ = σ} args kept inv room rooted = record {
    invariant = subst (λ (l : List ℕ). Invariant σ Z (l ++ F)) (sym held_cells) inv;
    numbers = parameter_numbers r.depths r.names args';
    arrays = parameter_arrays r.depths owns r.names args';
    pending = λ y h. absurd (none_in y h);
    lent = parameters_lent r.depths (p.borrowing f) r.names args' here.new F
        (subst (λ (l : List ℕ). named_all (picked (p.borrowing f) 0 l) (picked (p.borrowing f) 0 ws) ⊆ F)
        (sym here.parameters) kept);
    room = subst (λ (l : List ℕ). Room Z (l ++ F) (tree_adds r.tree + call_adds * n)) (sym held_cells)
        (record { few = λ c. omega (arith, room.few c, disciplined.short f there) });
    rooted = rooted;
  }
    where
      owns : ℕ → Bool
      owns = λ i. not (p.borrowing f i)

      here : FunctionDisciplined p f
      here = disciplined.functions f there

      args' : Arguments σ (map r.depths r.names) ws vs
      args' = subst (λ (l : List ℕ). Arguments σ l ws vs) (sym here.parameters) args

      held_cells : hold (framed r.names ws) body_held ≡ owned_cells p f ws
      held_cells = parameters_hold r.depths owns r.names empty here.new args' 0
          ∙ ap (λ (l : List ℕ). named_all (picked owns 0 l) (picked owns 0 ws)) here.parameters

module _ (p : Program) (disciplined : ProgramDisciplined p) (start : Start)
    (frugal : start.frugal ≡ true → ProgramFrugal p) where
  body_sound : (n : ℕ) → ((Γ : NameDepths) → CallClaim (setting p start n Γ)) →
      (f : ℕ) (ws : List ℤ) (vs : List Value) (Z F R : List ℕ) (s : State) (m : Meter) → f < length p.routines →
      Together start s m → Arguments s.store (p.signatures f).parameters ws vs →
      borrowed_cells p f ws ⊆ F → Invariant s.store Z (owned_cells p f ws ++ F) →
      Room Z (owned_cells p f ws ++ F) (call_adds * suc n) →
      (start.frugal ≡ true → (Z ++ F) ⊆ R) →
      Agree start (Returned start (p.signatures f).result s.store Z F)
      (work (machine p n) p.borrowing (routine_of p f).depths (routine_of p f).tree empty R
      (framed (routine_of p f).names ws) s)
      (run (running p n) (routine_of p f).tree (valued (routine_of p f).names vs) m)
  body_sound n calls f ws vs Z F R s m there tog args kept inv room rooted =
      agree_map (λ w s' v m' e. record { answered = e.answered; keeps = e.keeps })
      (tree_sound C (running_grows p n) (leaf_sound C (running_grows p n) (calls C.depths)) (routine_of p f).tree
      _ _ empty _ [] [] (p.signatures f).result (body_rules p disciplined start frugal f there n) Z F R
      (framed (routine_of p f).names ws) (valued (routine_of p f).names vs) (call_adds * n) s m tog
      (body_situation p disciplined start frugal f there n args kept inv room rooted) (omega arith))
    where
      C : Setting
      C = setting p start n (routine_of p f).depths

  pub call_sound : (n : ℕ) (Γ : NameDepths) → CallClaim (setting p start n Γ)
  unfolding machine running
  call_sound zero Γ f ws vs Z F R s m there tog args kept inv room rooted = same {k = 22} record {
    number = refl;
    stops = record { low = omega arith; high = omega arith; other = λ h. omega arith };
    left = tog.left;
    clean = tog.clean;
  }
  call_sound (suc n) Γ f ws vs Z F R s m there tog args kept inv room rooted =
      body_sound n (call_sound n) f ws vs Z F R s m there tog args kept inv room rooted
