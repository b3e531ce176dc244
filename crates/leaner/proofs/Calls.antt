-- A call in twin programs, by induction on the call depth left.
use Rattle.prelude.specs.Kit.{ℕ, ◌+◌, ◌<◌, suc, zero, ◌*◌, arith, true, false, not, false≢true, ◌≡◌, ◌∙◌, sym, subst}
use Rattle.prelude.specs.Kit.{inl, inr, List, [], ◌++◌, ℤ, length}
use Rattle.semantics.specs.Basics.{◌∈◌}
use Rattle.semantics.specs.Code.{Line, Tree}
use Rattle.semantics.specs.Live.{empty, just}
use Rattle.semantics.specs.Annotate.{NameDepths}
use Rattle.semantics.specs.Machine.{State, Routine, Program, routine_of, framed, machine, work}
use Rattle.laws.specs.Lists.{◌⊆◌}
use Rattle.semantics.specs.Plain.{valued}
use Rattle.discipline.proofs.normal.Trace.{running_grows}
use Rattle.discipline.proofs.store.Counting.{append_cases}
use Rattle.discipline.proofs.machine.Discipline.{lent_parameters, parameter_holds}
use Rattle.discipline.proofs.machine.Agreement.{Start}
use Rattle.discipline.proofs.machine.Frames.{Situation}
use Rattle.discipline.proofs.machine.Size.{tree_adds}
use Rattle.discipline.proofs.machine.Rules.{TreeRules}
use Rattle.discipline.proofs.machine.Claims.{TreeClaim, LineClaim}
use Rattle.discipline.proofs.machine.Trees.{tree_sound, line_sound}
use Rattle.discipline.proofs.machine.Calls.{call_adds, setting, leaf_sound, call_sound, ProgramDisciplined}
use Rattle.discipline.proofs.machine.Calls.{body_lent, body_held, body_rules, body_situation}
use Rattle.leaner.proofs.Twin.{TwinPrograms, TwinRoutine, with_routines}
use Rattle.leaner.proofs.Runs.{Race, Starts, Tied, Twins, stops, twins_map}
use Rattle.leaner.proofs.Beside.{Around}
use Rattle.leaner.proofs.Claims.{first_setting, leaner_setting, WordsGiven}
use Rattle.leaner.proofs.Calling.{SameWords, CallTwins, Called, parameters_framed, array_parameter}
use Rattle.leaner.proofs.Lines.{twin_trees}

-- what was proved of one run of a disciplined program, in a function whose names have the depths Γ
module _ (p : Program) (disciplined : ProgramDisciplined p) (start : Start) (careless : start.frugal ≡ false) where
  pub no_frugal : {A : Type 0} → start.frugal ≡ true → A
  no_frugal f = absurd (false≢true (sym careless ∙ f))

  pub every_tree : (n : ℕ) (Γ : NameDepths) (t : Tree) → TreeClaim (setting p start n Γ) t
  every_tree n Γ = tree_sound (setting p start n Γ) (running_grows p n)
      (leaf_sound (setting p start n Γ) (running_grows p n) (call_sound p disciplined start (λ f. no_frugal f) n Γ))

  pub every_line : (n : ℕ) (Γ : NameDepths) (l : Line) → LineClaim (setting p start n Γ) l
  every_line n Γ = line_sound (setting p start n Γ) (running_grows p n)
      (leaf_sound (setting p start n Γ) (running_grows p n) (call_sound p disciplined start (λ f. no_frugal f) n Γ))

module _ {r : Race} (starts : Starts r) (p : Program) (rs : List Routine) (twins : TwinPrograms p rs)
    (disciplined : ProgramDisciplined p) (disciplined' : ProgramDisciplined (with_routines p rs)) where
  abbrev p' : Program
  p' = with_routines p rs

  -- the body of a function, where calls in it are twins
  body_twins : (n : ℕ) → ((Γ : NameDepths) → CallTwins r p rs n Γ) → (Γ₀ : NameDepths) (f : ℕ) (ws ws' : List ℤ)
      (E : List ℕ) (π : ℕ → ℕ) (a a' : Around) (R R' : List ℕ) (s s' : State) →
      Called (first_setting r p (suc n) Γ₀) a f ws s → Called (leaner_setting r p rs (suc n) Γ₀) a' f ws' s' →
      Tied r E π s s' → SameWords π (p.signatures f).parameters ws ws' →
      ((c : ℕ) → c ∈ (a'.aside ++ a'.others) → π c ∈ (a.aside ++ a.others)) → E ⊆ a'.aside →
      Twins r (WordsGiven r (p.signatures f).result E π (a'.aside ++ a'.others))
      (work (machine p n) p.borrowing (routine_of p f).depths (routine_of p f).tree empty R
      (framed (routine_of p f).names ws) s)
      (work (machine p' n) p.borrowing (routine_of p' f).depths (routine_of p' f).tree empty R'
      (framed (routine_of p' f).names ws') s')
  body_twins n calls Γ₀ f ws ws' E π a a' R R' s s' call call' tied words held exempt =
      subst (λ (j : Routine). Twins r (WordsGiven r (p.signatures f).result E π (a'.aside ++ a'.others))
      (work (machine p n) p.borrowing Γ (routine_of p f).tree empty R (framed xs ws) s)
      (work (machine p' n) p.borrowing j.depths j.tree empty R' (framed j.names ws') s')) (sym tw.is)
      (twins_map r (λ w t w' t' z. record {
        cells = z.cells;
        tied = z.tied;
        result = z.result;
        stays = z.stays;
      })
      (twin_trees starts p rs n Γ (running_grows p' n)
      (every_tree p disciplined r.first starts.careless n Γ)
      (every_tree p' disciplined' r.leaner starts.leaner_careless n Γ)
      (every_line p disciplined r.first starts.careless n Γ)
      (every_line p' disciplined' r.leaner starts.leaner_careless n Γ) (calls Γ) tw.twin
      _ _ empty empty held_names held_names [] [] [] [] (p.signatures f).result E π b b' (framed xs ws)
      (framed xs ws') (call_adds * n) (call_adds * n) s s'
      (body_rules p disciplined r.first (λ g. no_frugal p disciplined r.first starts.careless g) f there n)
      rules' (λ y h. h) record {
        first = record {
          values = valued xs call.values;
          meter = call.meter;
          together = call.together;
          situation = body_situation p disciplined r.first
              (λ g. no_frugal p disciplined r.first starts.careless g) f there n call.ready.arguments
              call.ready.lent call.ready.holds call.ready.room
              (λ g. no_frugal p disciplined r.first starts.careless g);
        };
        leaner = record {
          values = valued xs call'.values;
          meter = call'.meter;
          together = call'.together;
          situation = situation';
        };
        tied = tied;
        framed = parameters_framed Γ xs (lent_names ++ held_names)
            (subst (λ (ds : List ℕ). SameWords π ds ws ws') (sym (disciplined.functions f there).parameters) words)
            (λ y h. elim (append_cases y lent_names held_names h) [
              | inl g ↦ array_parameter Γ (p.borrowing f) xs y g
              | inr g ↦ array_parameter Γ (λ i. not (p.borrowing f i)) xs y g
            ]);
        images = record { lent = λ y h. h; held = held };
        owes = λ y. omega arith;
        exempt = exempt;
      } (omega arith) (omega arith)))
    where
      there : f < length p.routines
      there = call.ready.there

      tw : TwinRoutine (routine_of p f) (routine_of p' f)
      tw = twins.routine f there

      Γ : NameDepths
      Γ = (routine_of p f).depths

      xs : List ℕ
      xs = (routine_of p f).names

      lent_names : List ℕ
      lent_names = body_lent p disciplined r.first
          (λ g. no_frugal p disciplined r.first starts.careless g) f there

      held_names : List ℕ
      held_names = body_held p disciplined r.first
          (λ g. no_frugal p disciplined r.first starts.careless g) f there

      b : Around
      b = record { aside = a.aside; others = a.others; roots = R; lent = lent_names }

      b' : Around
      b' = record { aside = a'.aside; others = a'.others; roots = R'; lent = lent_names }

      rules' : TreeRules (leaner_setting r p rs n Γ) tw.tree lent_names
          (just xs) empty held_names [] [] (p.signatures f).result
      rules' = subst (λ (j : Routine). TreeRules (setting p' r.leaner n j.depths) j.tree
          (lent_parameters (p.borrowing f) j) (just j.names) empty (parameter_holds (p.borrowing f) j) [] []
          (p.signatures f).result) tw.is
          (body_rules p' disciplined' r.leaner
          (λ g. no_frugal p' disciplined' r.leaner starts.leaner_careless g) f call'.ready.there n)

      situation' : Situation (leaner_setting r p rs n Γ) s'.store a'.aside a'.others R' lent_names held_names
          [] (framed xs ws') (valued xs call'.values) (tree_adds tw.tree + call_adds * n)
      situation' = subst (λ (j : Routine). Situation (setting p' r.leaner n j.depths) s'.store a'.aside
          a'.others R' (lent_parameters (p.borrowing f) j) (parameter_holds (p.borrowing f) j) []
          (framed j.names ws') (valued j.names call'.values)
          (tree_adds j.tree + call_adds * n)) tw.is
          (body_situation p' disciplined' r.leaner
          (λ g. no_frugal p' disciplined' r.leaner starts.leaner_careless g) f call'.ready.there n
          call'.ready.arguments call'.ready.lent call'.ready.holds call'.ready.room
          (λ g. no_frugal p' disciplined' r.leaner starts.leaner_careless g))

  pub call_twins : (n : ℕ) (Γ : NameDepths) → CallTwins r p rs n Γ
  unfolding machine
  call_twins zero Γ f ws ws' E π a a' R R' s s' call call' tied words held exempt = stops tied.level
  call_twins (suc n) Γ f ws ws' E π a a' R R' s s' call call' tied words held exempt =
      body_twins n (call_twins n) Γ f ws ws' E π a a' R R' s s' call call' tied words held exempt
