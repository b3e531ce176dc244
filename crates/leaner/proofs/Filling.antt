-- Loops in both runs: what holds between their passes, and a word appended to a new cell in both.
use Rattle.prelude.specs.Kit.{ℕ, ◌≤◌, ◌+◌, ◌<◌, suc, arith, true, ◌≡◌, ◌∙◌, sym, ap, subst, inl, inr, List, [], ◌∷◌}
use Rattle.prelude.specs.Kit.{◌++◌, ℤ, pos}
use Rattle.semantics.specs.Basics.{occurrences, ◌∈◌}
use Rattle.semantics.specs.Value.{Value, list}
use Rattle.semantics.specs.Annotate.{NameDepths}
use Rattle.semantics.specs.Meaning.{Meter, Env}
use Rattle.semantics.specs.Machine.{State, Frame, Routine, Program, with_store, touching}
use Rattle.semantics.specs.Store.{Store, cell, cell_of, has_free, appended}
use Rattle.laws.specs.Lists.{◌⊆◌, occurs_first}
use Rattle.discipline.proofs.store.Invariant.{Invariant}
use Rattle.discipline.proofs.store.Counting.{hits_itself, append_cases, in_append_right}
use Rattle.discipline.proofs.store.Change.{root_used}
use Rattle.discipline.proofs.machine.Agreement.{Together}
use Rattle.discipline.proofs.machine.Frames.{hold, Setting, Ended}
use Rattle.discipline.proofs.machine.Standing.{names_one}
use Rattle.discipline.proofs.machine.Images.{first_or_later}
use Rattle.discipline.proofs.machine.Elements.{array_depth}
use Rattle.discipline.proofs.machine.Acquiring.{after_acquire, acquire_together}
use Rattle.discipline.proofs.machine.Filling.{Passing, still_filled, pass_done, pass_together, reserves, first_pass}
use Rattle.leaner.proofs.Leaner.{Leaner, Matching}
use Rattle.leaner.proofs.Written.{leaner_appended}
use Rattle.leaner.proofs.Runs.{Race, Tied, level_quiet, touching_quiet}
use Rattle.leaner.proofs.Beside.{Around, Here, Known, Same, Framed, Images, Stays, Owes}
use Rattle.leaner.proofs.Claims.{first_setting, leaner_setting, Before, TreeEnded}
use Rattle.leaner.proofs.Reading.{same_matching}

-- ---- one run

-- between two passes, of which i are done and filled the cell of w; before the first the store was σ
pub record Fill (C : Setting) (d : ℕ) (b : Around) (I : List ℕ) (ρ : Frame) (δ : Env) (n : ℕ) (σ : Store) (i : ℕ)
    (w : ℤ) (s : State) : Type 0 where
  pub value : Value
  pub meter : Meter
  pub together : Together C.start s meter
  pub passing : Passing C d b.aside b.others b.roots b.lent I ρ δ n σ i w value s.store

-- the cell is set aside
abbrev pub around_filling : ℤ → Around → Around
around_filling w b = record {
  aside = cell_of w ∷ b.aside;
  others = b.others;
  roots = b.roots;
  lent = b.lent;
}

-- other roots, or one root more
abbrev pub around_roots : List ℕ → Around → Around
around_roots Q b = record { aside = b.aside; others = b.others; roots = Q; lent = b.lent }

abbrev pub around_new : ℕ → Around → Around
around_new c b = around_roots (b.roots ++ (c ∷ [])) b

unfoldable pub here_filling : {C : Setting} {d : ℕ} {b : Around} {I : List ℕ} {ρ : Frame} {δ : Env} {n : ℕ} {σ : Store}
    {i : ℕ} {w : ℤ} {s : State} → Fill C d b I ρ δ n σ i w s → Here C (around_filling w b) I [] ρ n s
here_filling {δ = δ} q = record {
  values = δ;
  meter = q.meter;
  together = q.together;
  situation = q.passing.situation;
}

-- before the first pass
unfoldable pub fill_begins : {C : Setting} {b : Around} {I : List ℕ} {ρ : Frame} {n : ℕ} {s : State} (d : ℕ) → d ≤ 3 →
    has_free s.store ≡ true → (q : Here C b I [] ρ (suc n) s) →
    Fill C d (around_new s.store.first b) I ρ q.values n s.store 0 (pos s.store.first)
    (after_acquire d [] s)
unfolding with_store
fill_begins {C} {n = n} d shallow free q = record {
  value = list [];
  meter = q.meter;
  together = acquire_together d [] (reserves C d n q.situation free shallow).taken q.together;
  passing = first_pass C d n q.situation free shallow;
}

-- the state once a word is appended
abbrev pub appended_state : ℤ → ℤ → State → State
appended_state w x s = with_store s (appended (cell_of w) x s.store) (touching s.store (cell_of w))

unfoldable pub fill_appended : {C : Setting} {d : ℕ} {b : Around} {I : List ℕ} {ρ : Frame} {δ : Env} {n k : ℕ}
    {σ : Store} {i : ℕ} {w x : ℤ} {s s₁ : State} → i < 16 → Fill C d b I ρ δ n σ i w s →
    Known (Ended C d s.store (cell_of w ∷ b.aside) b.others I ρ δ k) x s₁ →
    Fill C d b I ρ δ n σ (suc i) w (appended_state w x s₁)
unfolding with_store
fill_appended {C} {d} {b} {I} {ρ} {δ} {n} few q e = record {
  value = _;
  meter = e.meter;
  together = pass_together C d b.aside b.others b.roots b.lent I ρ δ n q.passing few e.holds;
  passing = pass_done C d b.aside b.others b.roots b.lent I ρ δ n q.passing few e.holds;
}

-- a cell just set aside is not among those that were so before
pub just_aside : {τ : Store} {c : ℕ} {Z R : List ℕ} (E : List ℕ) → Invariant τ (c ∷ Z) R → E ⊆ Z → c ∈ E → ⊥
unfolding occurrences
just_aside {c = c} {Z} E v f h = omega (arith, f c h, v.alone c (occurs_first c Z), v.counts c, hits_itself c)

-- ---- both

-- Between two passes, of which i are done: F and F' are known of the two runs, and the cells of w and w' correspond.
-- Before the first pass the correspondence was π; in the leaner run b' stays and the names I' are held.
pub record Between (r : Race) (Γ : NameDepths) (F F' : ℕ → ℤ → State → Type 0) (E : List ℕ) (π : ℕ → ℕ) (b' : Around)
    (I' : List ℕ) (ρ ρ' : Frame) (i : ℕ) (w : ℤ) (s : State) (w' : ℤ) (s' : State) : Type 0 where
  pub first : F i w s
  pub leaner : F' i w' s'
  pub cells : ℕ → ℕ
  pub tied : Tied r E cells s s'
  pub framed : Framed Γ cells ρ ρ' (b'.lent ++ I')
  pub result : cell_of w ≡ cells (cell_of w')
  pub stays : Stays π cells (b'.aside ++ b'.others)

-- what others hold corresponds, and so do the cells
pub filling_images : {π cells : ℕ → ℕ} (b b' : Around) (w w' : ℤ) → Images π b b' → cell_of w ≡ cells (cell_of w') →
    Stays π cells (b'.aside ++ b'.others) → Images cells (around_filling w b) (around_filling w' b')
filling_images {π} {cells} b b' w w' images result stays = record {
  lent = images.lent;
  held = λ c h. elim (first_or_later c (cell_of w') (b'.aside ++ b'.others) h) [
    | inl e ↦ subst (λ (j : ℕ). j ∈ (cell_of w ∷ (b.aside ++ b.others))) (result ∙ ap cells (sym e))
        (occurs_first (cell_of w) (b.aside ++ b.others))
    | inr g ↦ subst (λ (j : ℕ). j ∈ (cell_of w ∷ (b.aside ++ b.others))) (sym (stays c g))
        (in_append_right (π c) (cell_of w ∷ []) (b.aside ++ b.others) (images.held c g))
  ];
}

module _ (r : Race) (p : Program) (rs : List Routine) (n : ℕ) (Γ : NameDepths) where
  abbrev C : Setting
  C = first_setting r p n Γ

  abbrev C' : Setting
  C' = leaner_setting r p rs n Γ

  module _ {F F' : ℕ → ℤ → State → Type 0} {E : List ℕ} {π : ℕ → ℕ} {b' : Around} {I' : List ℕ} {ρ ρ' : Frame} {i : ℕ}
      {w : ℤ} {s : State} {w' : ℤ} {s' : State} (q : Between r Γ F F' E π b' I' ρ ρ' i w s w' s') where
    -- where the trees of a pass begin
    unfoldable pub pass_before : {b : Around} {I : List ℕ} {k k' : ℕ} → Here C (around_filling w b) I [] ρ k s →
        Here C' (around_filling w' b') I' [] ρ' k' s' → Images π b b' → Owes [] I I' → E ⊆ (cell_of w' ∷ b'.aside) →
        Before r p rs n Γ [] E q.cells (around_filling w b) (around_filling w' b') I I' [] [] ρ ρ' k k' s s'
    pass_before {b} first leaner images owes exempt = record {
      first = first;
      leaner = leaner;
      tied = q.tied;
      framed = q.framed;
      images = filling_images b b' w w' images q.result q.stays;
      owes = owes;
      exempt = exempt;
    }

    module _ {x : ℤ} {s₁ : State} {x' : ℤ} {s₁' : State} {e : ℕ}
        (z : TreeEnded r p rs n Γ e E q.cells (around_filling w' b') I' ρ ρ' x s₁ x' s₁') where
      -- a pass that goes on with the correspondence of its trees
      unfoldable pub passed_on : {s₂ s₂' : State} → ((y : ℕ) → y ∈ b'.lent → cell_of (ρ' y) ∈ b'.others) →
          F (suc i) w s₂ → F' (suc i) w' s₂' → Tied r E z.cells s₂ s₂' →
          Between r Γ F F' E π b' I' ρ ρ' (suc i) w s₂ w' s₂'
      passed_on kept first leaner tied = record {
        first = first;
        leaner = leaner;
        cells = z.cells;
        tied = tied;
        framed = record {
          numbers = q.framed.numbers;
          cells = λ y h. elim (append_cases y b'.lent I' h) [
            | inl g ↦ q.framed.cells y h
                ∙ sym (z.stays (cell_of (ρ' y)) (in_append_right (cell_of (ρ' y)) (cell_of w' ∷ b'.aside)
                b'.others (kept y g)))
            | inr g ↦ z.words y g
          ];
        };
        result = q.result ∙ sym (z.stays (cell_of w') (occurs_first (cell_of w') (b'.aside ++ b'.others)));
        stays = λ c h. z.stays c (in_append_right c (cell_of w' ∷ []) (b'.aside ++ b'.others) h) ∙ q.stays c h;
      }

      -- the cells of w and w' still correspond
      pub same_cell : z.cells (cell_of w') ≡ cell_of w
      same_cell = z.stays (cell_of w') (occurs_first (cell_of w') (b'.aside ++ b'.others)) ∙ sym q.result

  -- After k passes of the first run, which filled a new cell, and the line of the leaner one, in which J is held then:
  -- before the passes of the first its store was σ.
  abbrev pub PassesDone : (d : ℕ) (b : Around) (I : List ℕ) (ρ : Frame) (δ : Env) (m : ℕ) (σ : Store) (E : List ℕ)
      (π : ℕ → ℕ) (a' : Around) (J : List ℕ) (ρ' : Frame) (k : ℕ) (w : ℤ) (t : State) (w' : ℤ) (t' : State) → Type 0
  PassesDone d b I ρ δ m σ E π a' J ρ' = Between r Γ (Fill C d b I ρ δ m σ)
      (λ i w s. Invariant s.store (cell_of w ∷ a'.aside) (hold ρ' J ++ a'.others)) E π a' J ρ ρ'

  -- ---- both fill a new cell

  module _ (d : ℕ) (E : List ℕ) (π : ℕ → ℕ) (b b' : Around) (I I' : List ℕ) (ρ ρ' : Frame) where
    abbrev pub Filling : (δ δ' : Env) (k k' : ℕ) (σ σ' : Store) (i : ℕ) (w : ℤ) (s : State) (w' : ℤ) (s' : State) →
        Type 0
    Filling δ δ' k k' σ σ' = Between r Γ (Fill C d b I ρ δ k σ) (Fill C' d b' I' ρ' δ' k' σ') E π b' I' ρ ρ'

    module _ {δ δ' : Env} {k k' : ℕ} {σ σ' : Store} {i : ℕ} {w : ℤ} {s : State} {w' : ℤ} {s' : State}
        (q : Filling δ δ' k k' σ σ' i w s w' s') {x : ℤ} {s₁ : State} {x' : ℤ} {s₁' : State} {e : ℕ}
        (z : TreeEnded r p rs n Γ e E q.cells (around_filling w' b') I' ρ ρ' x s₁ x' s₁') where
      pub filling_on : {s₂ s₂' : State} → Fill C d b I ρ δ k σ (suc i) w s₂ →
          Fill C' d b' I' ρ' δ' k' σ' (suc i) w' s₂' → Tied r E z.cells s₂ s₂' →
          Filling δ δ' k k' σ σ' (suc i) w s₂ w' s₂'
      filling_on = passed_on q z (λ y h. (q.leaner.passing.situation.lent y h).kept)

      -- words of the elements' depth are appended
      module _ {u u' : ℤ} {t t' : State} {l l' : ℕ} (tied : Tied r E z.cells t t') (same : Same d z.cells u u')
          (exempt : E ⊆ b'.aside)
          (ended : Known (Ended C d s.store (cell_of w ∷ b.aside) b.others I ρ δ l) u t)
          (ended' : Known (Ended C' d s'.store (cell_of w' ∷ b'.aside) b'.others I' ρ' δ' l') u' t') where
        words : Matching z.cells t'.store (cell t'.store (cell_of w')).depth (u' ∷ []) (u ∷ [])
        words = subst (λ (j : ℕ). Matching z.cells t'.store j (u' ∷ []) (u ∷ []))
            (sym (array_depth (still_filled C' d b'.aside b'.others b'.roots b'.lent I' ρ' δ' k'
            q.leaner.passing ended'.holds)))
            (same_matching t'.store same
            (λ h. (ended'.holds.answered.stands.fits (cell_of u') (names_one d u' h)).0))

        pub both_appended : i < 16 → Filling δ δ' k k' σ σ' (suc i) w (appended_state w u t) w'
            (appended_state w' u' t')
        unfolding with_store
        both_appended few = filling_on
            (fill_appended few q.first ended) (fill_appended few q.leaner ended') record {
              level = level_quiet r _ _ (touching t.store (cell_of w)) (touching t'.store (cell_of w'))
                  (touching_quiet t.store (cell_of w)) (touching_quiet t'.store (cell_of w')) tied.level;
              stores = subst (λ (c : ℕ). Leaner E z.cells (appended (cell_of w') u' t'.store)
                  (appended c u t.store)) (same_cell q z)
                  (leaner_appended (cell_of w') u' u tied.stores ended'.holds.answered.invariant
                  ended.holds.answered.invariant
                  (root_used ended'.holds.answered.invariant (cell_of w') (occurs_first (cell_of w') _))
                  (just_aside E ended'.holds.answered.invariant exempt) words);
            }
