-- The lines that retain and release, of both runs or of the first alone.
use Rattle.prelude.specs.Kit.{ℕ, ◌+◌, ◌<◌, arith, ◌≡◌, refl, sym, subst, inl, inr, List, [], ◌∷◌, ◌++◌}
use Rattle.semantics.specs.Basics.{◌∈◌}
use Rattle.semantics.specs.Outcome.{Outcome, done, onward}
use Rattle.semantics.specs.Code.{Line, retain, release, Tree, line}
use Rattle.semantics.specs.Live.{Set, live}
use Rattle.semantics.specs.Annotate.{NameDepths}
use Rattle.semantics.specs.Meaning.{Env}
use Rattle.semantics.specs.Machine.{State, Frame, Routine, Program, work, work_line, with_store, touching}
use Rattle.semantics.specs.Machine.{release_events, retain_word, release_word}
use Rattle.semantics.specs.Store.{Store, cell, cell_of, retained, released, deepest}
use Rattle.laws.specs.Lists.{◌⊆◌}
use Rattle.discipline.proofs.store.Change.{permute, named_used, held_used}
use Rattle.discipline.proofs.store.Counting.{append_cases, in_append_left, in_append_right}
use Rattle.discipline.proofs.store.Release.{Releases}
use Rattle.discipline.proofs.store.Release as Store_release
use Rattle.discipline.proofs.machine.Discipline.{less, holds_after}
use Rattle.discipline.proofs.machine.Spending.{spend_split, spend_one, less_in}
use Rattle.discipline.proofs.machine.Images.{first_or_later}
use Rattle.discipline.proofs.machine.Frames.{hold, Setting, Situation}
use Rattle.discipline.proofs.machine.Standing.{hold_split, name_held}
use Rattle.discipline.proofs.machine.Size.{tree_adds, line_adds}
use Rattle.discipline.proofs.machine.Rules.{LineRules, line_rules, rest_rules}
use Rattle.discipline.proofs.machine.Claims.{LineClaim}
use Rattle.leaner.proofs.Leaner.{leaner_retained, leaner_other_retained}
use Rattle.leaner.proofs.Released.{leaner_released, first_released}
use Rattle.leaner.proofs.Runs.{Race, Tied, both, level_quiet, touching_quiet}
use Rattle.leaner.proofs.Runs.{release_quiet, level_first}
use Rattle.leaner.proofs.Beside.{Around, here_less, framed_fewer, images_held, Owes}
use Rattle.leaner.proofs.Claims.{first_setting, Before, TreeTwins, LineTwins}
use Rattle.leaner.proofs.Owing.{owes_less, owes_in, owes_raised, owes_spared}
use Rattle.leaner.proofs.Binding.{known_left}
use Rattle.leaner.proofs.Trees.{goes_on}

-- a name that is held is released
pub name_released : {C : Setting} {σ : Store} {Z F R B H P : List ℕ} {ρ : Frame} {δ : Env} {n : ℕ} (y : ℕ) →
    Situation C σ Z F R B H P ρ δ n → y ∈ H →
    Releases σ (released deepest (cell_of (ρ y)) σ) (release_events deepest (cell_of (ρ y)) σ) Z
    (hold ρ (less (y ∷ []) H) ++ F)
name_released {Z = Z} {F} {H = H} {ρ = ρ} y S h = Store_release.release (cell_of (ρ y))
    (permute Z (hold ρ (y ∷ less (y ∷ []) H) ++ F) S.invariant (λ k. refl)
    (hold_split ρ H (y ∷ []) (less (y ∷ []) H) F (spend_split (y ∷ []) H (spend_one y H h))))

-- a name that may be retained has a cell in use
retainable_used : {C : Setting} {σ : Store} {Z F R B H P : List ℕ} {ρ : Frame} {δ : Env} {n : ℕ} (y : ℕ) →
    Situation C σ Z F R B H P ρ δ n → y ∈ (P ++ (B ++ H)) → 0 < (cell σ (cell_of (ρ y))).count
retainable_used {C} {B = B} {H} {P} {ρ} y S h = elim (append_cases y P (B ++ H) h) [
  | inl g ↦ named_used S.invariant (cell_of (ρ y)) (S.pending y g).named
  | inr g ↦ held_used S.invariant (cell_of (ρ y)) (name_held C S y g)
]

module _ (r : Race) (p : Program) (rs : List Routine) (n : ℕ) (Γ : NameDepths) where
  abbrev C : Setting
  C = first_setting r p n Γ

  pub twin_release : (X : List ℕ) (y : ℕ) → LineTwins r p rs n Γ X (release y) (release y)
  unfolding work_line release_word onward with_store holds_after
  twin_release X y S S' A A' H H' P P' Δ Δ' E π a a' ρ ρ' k k' s s' rules rules' q need need' = both record {
    cells = π;
    tied = record {
      level = level_quiet r _ _ (release_events deepest (cell_of (ρ y)) s.store)
          (release_events deepest (cell_of (ρ' y)) s'.store) (release_quiet deepest (cell_of (ρ y)) s.store)
          (release_quiet deepest (cell_of (ρ' y)) s'.store) q.tied.level;
      stores = leaner_released q.tied.stores (name_released y q.leaner.situation rules'.holds)
          (name_released y q.first.situation rules.holds)
          (images_held (less (y ∷ []) H) (less (y ∷ []) H') q.images q.framed
          (λ z h. in_append_right z P' (a'.lent ++ H') (in_append_right z a'.lent H' (less_in (y ∷ []) H' z h)))
          (owes_in X (less (y ∷ []) H) (less (y ∷ []) H')
          (owes_less X (y ∷ []) H H' (spend_one y H' rules'.holds) q.owes)));
    };
    framed = framed_fewer (P' ++ (a'.lent ++ H')) (a'.lent ++ less (y ∷ []) H')
        (known_left P' a'.lent H' (less (y ∷ []) H') (less_in (y ∷ []) H')) q.framed;
    stays = λ c h. refl;
  }

  pub twin_retain : (X : List ℕ) (y : ℕ) → LineTwins r p rs n Γ X (retain y) (retain y)
  unfolding work_line retain_word onward with_store holds_after
  twin_retain X y S S' A A' H H' P P' Δ Δ' E π a a' ρ ρ' k k' s s' rules rules' q need need' = both record {
    cells = π;
    tied = record {
      level = level_quiet r _ _ (touching s.store (cell_of (ρ y))) (touching s'.store (cell_of (ρ' y)))
          (touching_quiet s.store (cell_of (ρ y))) (touching_quiet s'.store (cell_of (ρ' y))) q.tied.level;
      stores = leaner_retained (cell_of (ρ' y)) (retainable_used y q.leaner.situation rules'.holds)
          (leaner_other_retained (cell_of (ρ y)) (retainable_used y q.first.situation rules.holds)
          q.tied.stores);
    };
    framed = framed_fewer (P' ++ (a'.lent ++ H')) (a'.lent ++ (y ∷ H')) names q.framed;
    stays = λ c h. refl;
  }
    where
      names : (a'.lent ++ (y ∷ H')) ⊆ (P' ++ (a'.lent ++ H'))
      names z h = elim (append_cases z a'.lent (y ∷ H') h) [
        | inl g ↦ in_append_right z P' (a'.lent ++ H') (in_append_left z a'.lent H' g)
        | inr g ↦ elim (first_or_later z y H' g) [
          | inl e ↦ subst (λ (x : ℕ). x ∈ (P' ++ (a'.lent ++ H'))) (sym e) rules'.holds
          | inr e ↦ in_append_right z P' (a'.lent ++ H') (in_append_right z a'.lent H' e)
        ]
      ]

  -- ---- lines of the first run alone, which bind no name

  -- after it the stores correspond as before, and the first, which then holds H, holds the names X beside
  record AloneEnded (X E : List ℕ) (π : ℕ → ℕ) (H H' : List ℕ) (ρ : Frame) (s' : State) (o : Outcome State Frame) :
      Type 0 where
    now : State
    is : o ≡ done ρ now
    tied : Tied r E π now s'
    owes : Owes X H H'

  abbrev LineAlone : List ℕ → List ℕ → Line → Type 0
  LineAlone X X' l = (S A : Set) (H H' P P' Δ E : List ℕ) (π : ℕ → ℕ) (a a' : Around) (ρ ρ' : Frame) (k k' : ℕ)
      (s s' : State) → LineRules C l a.lent S A H P Δ → Before r p rs n Γ X E π a a' H H' P P' ρ ρ' k k' s s' →
      AloneEnded X' E π (holds_after p.borrowing Γ l H) H' ρ s'
      (work_line C.callee p.borrowing Γ l A a.roots ρ s)

  alone_release : (X : List ℕ) (y : ℕ) → y ∈ X → LineAlone X (less (y ∷ []) X) (release y)
  unfolding work_line release_word onward with_store holds_after
  alone_release X y owed S A H H' P P' Δ E π a a' ρ ρ' k k' s s' rules q = record {
    now = with_store s (released deepest (cell_of (ρ y)) s.store)
        (release_events deepest (cell_of (ρ y)) s.store);
    is = refl;
    tied = first_released (cell_of (ρ y)) q.tied q.leaner.situation.invariant
        (name_released y q.first.situation rules.holds)
        (images_held (less (y ∷ []) H) H' q.images q.framed
        (λ z h. in_append_right z P' (a'.lent ++ H') (in_append_right z a'.lent H' h))
        (owes_in (less (y ∷ []) X) (less (y ∷ []) H) H' (owes_spared X y H H' owed q.owes)));
    owes = owes_spared X y H H' owed q.owes;
  }

  alone_retain : (X : List ℕ) (y : ℕ) → LineAlone X (y ∷ X) (retain y)
  unfolding work_line retain_word onward with_store holds_after
  alone_retain X y S A H H' P P' Δ E π a a' ρ ρ' k k' s s' rules q = record {
    now = with_store s (retained (cell_of (ρ y)) s.store) (touching s.store (cell_of (ρ y)));
    is = refl;
    tied = record {
      level = level_first r _ (touching s.store (cell_of (ρ y))) (touching_quiet s.store (cell_of (ρ y)))
          q.tied.level;
      stores = leaner_other_retained (cell_of (ρ y)) (retainable_used y q.first.situation rules.holds)
          q.tied.stores;
    };
    owes = owes_raised X y H H' q.owes;
  }

  module _ (lines : (l : Line) → LineClaim C l) where
    -- then the rest of the first tree goes on beside the whole of the leaner's
    alone_line : (X X' : List ℕ) (l : Line) (t t' : Tree) → LineAlone X X' l → TreeTwins r p rs n Γ X' t t' →
        TreeTwins r p rs n Γ X (line l t) t'
    unfolding work tree_adds onward
    alone_line X X' l t t' alone rest S S' L L' H H' P P' Δ Δ' d E π a a' ρ ρ' k k' s s' rules rules' fewer q need
        need' =
        rw after.is (rest _ _ L L' _ H' _ P' Δ Δ' d E π a a' ρ ρ' k k' after.now s' (rest_rules C l rules) rules'
        fewer record {
          first = (goes_on (lines l) (line_rules C rules)
              (here_less (line_adds l + (tree_adds t + k)) (omega arith) q.first) (omega arith) after.is).here;
          leaner = q.leaner;
          tied = after.tied;
          framed = q.framed;
          images = q.images;
          owes = after.owes;
          exempt = q.exempt;
        } need need')
      where
        after : AloneEnded X' E π (holds_after p.borrowing Γ l H) H' ρ s'
            (work_line C.callee p.borrowing Γ l (live t L) a.roots ρ s)
        after = alone S (live t L) H H' P P' Δ E π a a' ρ ρ' (tree_adds (line l t) + k) (tree_adds t' + k') s s'
            (line_rules C rules) q

    -- the first alone releases a name that it holds beside
    pub twin_spared : {X : List ℕ} (y : ℕ) (t t' : Tree) → y ∈ X → TreeTwins r p rs n Γ (less (y ∷ []) X) t t' →
        TreeTwins r p rs n Γ X (line (release y) t) t'
    twin_spared {X} y t t' owed = alone_line X (less (y ∷ []) X) (release y) t t' (alone_release X y owed)

    -- the first alone retains a name
    pub twin_raised : {X : List ℕ} (y : ℕ) (t t' : Tree) → TreeTwins r p rs n Γ (y ∷ X) t t' →
        TreeTwins r p rs n Γ X (line (retain y) t) t'
    twin_raised {X} y t t' = alone_line X (y ∷ X) (retain y) t t' (alone_retain X y)
