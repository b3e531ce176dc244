-- What is claimed of twin trees, lines, leaves and calls: worked beside each other they end alike.
use Rattle.prelude.specs.Kit.{ℕ, ◌≤◌, ◌+◌, ◌≡◌, List, ◌++◌, ℤ}
use Rattle.semantics.specs.Basics.{◌∈◌}
use Rattle.semantics.specs.Code.{Line, Tree}
use Rattle.semantics.specs.Live.{Set}
use Rattle.semantics.specs.Annotate.{NameDepths}
use Rattle.semantics.specs.Machine.{State, Frame, Routine, Program, work, work_line}
use Rattle.semantics.specs.Store.{cell_of}
use Rattle.laws.specs.Lists.{◌⊆◌}
use Rattle.discipline.proofs.machine.Discipline.{holds_after, waits_after}
use Rattle.discipline.proofs.machine.Frames.{Setting}
use Rattle.discipline.proofs.machine.Size.{tree_adds, line_adds}
use Rattle.discipline.proofs.machine.Rules.{TreeRules, LineRules}
use Rattle.discipline.proofs.machine.Calls.{setting}
use Rattle.leaner.proofs.Twin.{with_routines}
use Rattle.leaner.proofs.Runs.{Race, Tied, Twins}
use Rattle.leaner.proofs.Beside.{Around, Here, here_less, Same, Framed, Images, Stays, Owes}

-- the settings of the two runs, with the same call depth left, in functions whose names have the same depths
abbrev pub first_setting : Race → Program → ℕ → NameDepths → Setting
first_setting r p n Γ = setting p r.first n Γ

abbrev pub leaner_setting : Race → Program → List Routine → ℕ → NameDepths → Setting
leaner_setting r p rs n Γ = setting (with_routines p rs) r.leaner n Γ

-- After an action that gave words of depth d: they are the same by a correspondence that is the old one for cells K.
pub record WordsGiven (r : Race) (d : ℕ) (E : List ℕ) (π : ℕ → ℕ) (K : List ℕ) (w : ℤ) (s : State) (w' : ℤ)
    (s' : State) : Type 0 where
  pub cells : ℕ → ℕ
  pub tied : Tied r E cells s s'
  pub result : Same d cells w w'
  pub stays : Stays π cells K

module _ (r : Race) (p : Program) (rs : List Routine) (n : ℕ) (Γ : NameDepths) where
  abbrev C : Setting
  C = first_setting r p n Γ

  abbrev C' : Setting
  C' = leaner_setting r p rs n Γ

  -- Before a line or a tree: where both runs are, and what corresponds. The first holds the names X, which the leaner
  -- has handed over; the cells E, of which the numbers may differ, are set aside.
  pub record Before (X E : List ℕ) (π : ℕ → ℕ) (a a' : Around) (H H' P P' : List ℕ) (ρ ρ' : Frame) (k k' : ℕ)
      (s s' : State) : Type 0 where
    pub first : Here C a H P ρ k s
    pub leaner : Here C' a' H' P' ρ' k' s'
    pub tied : Tied r E π s s'
    pub framed : Framed Γ π ρ ρ' (P' ++ (a'.lent ++ H'))
    pub images : Images π a a'
    pub owes : Owes X H H'
    pub exempt : E ⊆ a'.aside

  -- fewer references may come
  unfoldable pub before_less : {X E : List ℕ} {π : ℕ → ℕ} {a a' : Around} {H H' P P' : List ℕ} {ρ ρ' : Frame}
      {k k' m m' : ℕ} {s s' : State} → m ≤ k → m' ≤ k' → Before X E π a a' H H' P P' ρ ρ' k k' s s' →
      Before X E π a a' H H' P P' ρ ρ' m m' s s'
  unfolding here_less
  before_less h h' q = record {
    first = here_less _ h q.first;
    leaner = here_less _ h' q.leaner;
    tied = q.tied;
    framed = q.framed;
    images = q.images;
    owes = q.owes;
    exempt = q.exempt;
  }

  -- After a tree that leaves the names Δ: what both gave is the same, by a correspondence that is the old one for what
  -- others hold.
  pub record TreeEnded (d : ℕ) (E : List ℕ) (π : ℕ → ℕ) (a' : Around) (Δ : List ℕ) (ρ ρ' : Frame) (w : ℤ) (s : State)
      (w' : ℤ) (s' : State) : Type 0 where
    pub cells : ℕ → ℕ
    pub tied : Tied r E cells s s'
    pub result : Same d cells w w'
    pub words : (y : ℕ) → y ∈ Δ → cell_of (ρ y) ≡ cells (cell_of (ρ' y))
    pub stays : Stays π cells (a'.aside ++ a'.others)

  -- after a line, after which the leaner run holds H and P is pending
  pub record LineEnded (E : List ℕ) (π : ℕ → ℕ) (a' : Around) (H P : List ℕ) (ρ : Frame) (s : State) (ρ' : Frame)
      (s' : State) : Type 0 where
    pub cells : ℕ → ℕ
    pub tied : Tied r E cells s s'
    pub framed : Framed Γ cells ρ ρ' (P ++ (a'.lent ++ H))
    pub stays : Stays π cells (a'.aside ++ a'.others)

  abbrev pub TreeTwins : List ℕ → Tree → Tree → Type 0
  TreeTwins X t t' = (S S' L L' : Set) (H H' P P' Δ Δ' : List ℕ) (d : ℕ) (E : List ℕ) (π : ℕ → ℕ) (a a' : Around)
      (ρ ρ' : Frame) (k k' : ℕ) (s s' : State) →
      TreeRules C t a.lent S L H P Δ d → TreeRules C' t' a'.lent S' L' H' P' Δ' d → Δ' ⊆ Δ →
      Before X E π a a' H H' P P' ρ ρ' (tree_adds t + k) (tree_adds t' + k') s s' → C.need ≤ k → C'.need ≤ k' →
      Twins r (TreeEnded d E π a' Δ' ρ ρ')
      (work C.callee p.borrowing Γ t L a.roots ρ s)
      (work C'.callee p.borrowing Γ t' L' a'.roots ρ' s')

  abbrev pub LineTwins : List ℕ → Line → Line → Type 0
  LineTwins X l l' = (S S' A A' : Set) (H H' P P' Δ Δ' : List ℕ) (E : List ℕ) (π : ℕ → ℕ) (a a' : Around)
      (ρ ρ' : Frame) (k k' : ℕ) (s s' : State) →
      LineRules C l a.lent S A H P Δ → LineRules C' l' a'.lent S' A' H' P' Δ' →
      Before X E π a a' H H' P P' ρ ρ' (line_adds l + k) (line_adds l' + k') s s' → C.need ≤ k → C'.need ≤ k' →
      Twins r (LineEnded E π a' (holds_after p.borrowing Γ l' H') (waits_after Γ l'))
      (work_line C.callee p.borrowing Γ l A a.roots ρ s)
      (work_line C'.callee p.borrowing Γ l' A' a'.roots ρ' s')
