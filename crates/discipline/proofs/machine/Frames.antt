-- The names of a call: what they hold and stand for before and after a line or a tree.
use Rattle.prelude.specs.Kit.{ℕ, ◌≤◌, ◌+◌, true, Bool, not, ◌≡◌, List, [], ◌∷◌, ◌++◌, map, ℤ}
use Rattle.semantics.specs.Basics.{occurrences, ◌∈◌}
use Rattle.semantics.specs.Value.{Value, num}
use Rattle.semantics.specs.Kinds.{Leaf, leaf_hands, picked}
use Rattle.semantics.specs.Code.{Atom, Line}
use Rattle.semantics.specs.Annotate.{NameDepths}
use Rattle.semantics.specs.Meaning.{Meter, Env}
use Rattle.semantics.specs.Meaning as Meaning
use Rattle.semantics.specs.Machine.{State, Frame, Program}
use Rattle.semantics.specs.Machine as Machine
use Rattle.semantics.specs.Store.{Store, cell_of, named_by}
use Rattle.semantics.specs.Sound.{all_inner}
use Rattle.laws.specs.Lists.{◌⊆◌}
use Rattle.discipline.proofs.store.Invariant.{Invariant, Keeps, StandsFor}
use Rattle.discipline.proofs.store.Retain.{most_references}
use Rattle.discipline.proofs.machine.Discipline.{hold_of, handed, holds_after, waits_after}
use Rattle.discipline.proofs.machine.Agreement.{Start, Together}

-- the cells that some names hold
abbrev pub hold : Frame → List ℕ → List ℕ
hold ρ H = map (λ y. cell_of (ρ y)) H

-- No cell is referred to so often that n references more come near the end of its count.
pub record Room (Z R : List ℕ) (n : ℕ) : Type 0 where
  pub few : (c : ℕ) → occurrences c R + occurrences c Z + n ≤ most_references

-- What is fixed while a function's tree is worked: the program, the depths of the function's names, the start of the
-- delivery, the calls, and the references that a call may add.
pub record Setting : Type 0 where
  pub program : Program
  pub depths : NameDepths
  pub start : Start
  pub callee : Machine.Callee
  pub meant : Meaning.Callee
  pub need : ℕ

-- a name that holds nothing yet: its cell is named in the store
pub record Pending (σ : Store) (d : ℕ) (w : ℤ) (v : Value) : Type 0 where
  pub stands : StandsFor σ d w v
  pub named : cell_of w ∈ all_inner σ.cells

-- a name that holds nothing, but whose cell is among those of others
pub record Lent (σ : Store) (F : List ℕ) (d : ℕ) (w : ℤ) (v : Value) : Type 0 where
  pub stands : StandsFor σ d w v
  pub kept : cell_of w ∈ F

-- what a name holds, and what some atoms hand over
abbrev pub own : Setting → ℕ → List ℕ
own C x = hold_of C.depths x

abbrev pub given : Setting → List Atom → List ℕ
given C us = handed C.depths us

-- what a leaf hands over: of a call's arguments those that its function owns
abbrev pub given_by : Setting → Leaf → List Atom → List ℕ
given_by C l us = given C (leaf_hands C.program.borrowing l us)

-- Before a line or a tree: the names H hold their cells, beside the references F of others, which are among the roots R
-- if the code is frugal; the names B are lent and the names P pending; the words of the frame stand for the values; n
-- references more may come.
pub record Situation (C : Setting) (σ : Store) (Z F R B H P : List ℕ) (ρ : Frame) (δ : Env) (n : ℕ) : Type 0 where
  pub invariant : Invariant σ Z (hold ρ H ++ F)
  pub numbers : (y : ℕ) → C.depths y ≡ 0 → num (ρ y) ≡ δ y
  pub arrays : (y : ℕ) → y ∈ H → StandsFor σ (C.depths y) (ρ y) (δ y)
  pub pending : (y : ℕ) → y ∈ P → Pending σ (C.depths y) (ρ y) (δ y)
  pub lent : (y : ℕ) → y ∈ B → Lent σ F (C.depths y) (ρ y) (δ y)
  pub room : Room Z (hold ρ H ++ F) n
  pub rooted : C.start.frugal ≡ true → (Z ++ F) ⊆ R

-- a word given, of depth d: it holds one reference if it is an array, beside those of F
pub record Answered (start : Start) (d : ℕ) (Z F : List ℕ) (w : ℤ) (s : State) (v : Value) (m : Meter) : Type 0 where
  pub together : Together start s m
  pub invariant : Invariant s.store Z (named_by d (w ∷ []) ++ F)
  pub stands : StandsFor s.store d w v

-- after a call, before which the store was σ
pub record Returned (start : Start) (d : ℕ) (σ : Store) (Z F : List ℕ) (w : ℤ) (s : State) (v : Value)
    (m : Meter) : Type 0 where
  pub answered : Answered start d Z F w s v m
  pub keeps : Keeps σ s.store (Z ++ F)

-- the cells that words of the depths ds name
abbrev pub named_all : List ℕ → List ℤ → List ℕ
named_all [] ws = []
named_all (d ∷ ds) [] = []
named_all (d ∷ ds) (w ∷ ws) = named_by d (w ∷ []) ++ named_all ds ws

-- the cells of a call's words: those that hold a reference each, and those that are lent
abbrev pub owned_cells : Program → ℕ → List ℤ → List ℕ
owned_cells p f ws =
    let owned : ℕ → Bool = λ i. not (p.borrowing f i) in
    named_all (picked owned 0 (p.signatures f).parameters) (picked owned 0 ws)

abbrev pub borrowed_cells : Program → ℕ → List ℤ → List ℕ
borrowed_cells p f ws =
    named_all (picked (p.borrowing f) 0 (p.signatures f).parameters) (picked (p.borrowing f) 0 ws)

-- words that stand for values
pub data Arguments (σ : Store) : List ℕ → List ℤ → List Value → Type 0 where
  none : Arguments σ [] [] []
  more : {d : ℕ} {w : ℤ} {v : Value} {ds : List ℕ} {ws : List ℤ} {vs : List Value} →
      StandsFor σ d w v → Arguments σ ds ws vs → Arguments σ (d ∷ ds) (w ∷ ws) (v ∷ vs)

module _ (C : Setting) where
  -- after a tree that leaves the holds Δ, before which the store was σ
  pub record Ended (d : ℕ) (σ : Store) (Z F Δ : List ℕ) (ρ : Frame) (δ : Env) (n : ℕ) (w : ℤ) (s : State) (v : Value)
      (m : Meter) : Type 0 where
    pub answered : Answered C.start d Z (hold ρ Δ ++ F) w s v m
    pub room : Room Z (named_by d (w ∷ []) ++ (hold ρ Δ ++ F)) n
    pub arrays : (y : ℕ) → y ∈ Δ → StandsFor s.store (C.depths y) (ρ y) (δ y)
    pub keeps : Keeps σ s.store (Z ++ F)

  -- after a line, with the frame and the environment in which the tree goes on; the names Δ that the tree leaves are as
  -- before
  pub record Going (l : Line) (σ : Store) (Z F R B H Δ : List ℕ) (ρ : Frame) (δ : Env) (n : ℕ) (ρ' : Frame) (s : State)
      (δ' : Env) (m : Meter) : Type 0 where
    pub together : Together C.start s m
    pub situation : Situation C s.store Z F R B (holds_after C.program.borrowing C.depths l H)
        (waits_after C.depths l) ρ' δ' n
    pub keeps : Keeps σ s.store (Z ++ F)
    pub words : (y : ℕ) → y ∈ Δ → ρ' y ≡ ρ y
    pub values : (y : ℕ) → y ∈ Δ → δ' y ≡ δ y
