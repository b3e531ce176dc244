-- What is claimed of a leaf, of a line, of a tree and of a call; and the step that most lines begin with.
use Rattle.prelude.specs.Kit.{ℕ, ◌≤◌, ◌+◌, ◌<◌, ◌-◌, true, false, Bool, ◌≡◌, sym, subst, List, ◌++◌, map, ℤ, length}
use Rattle.semantics.specs.Basics.{◌∈◌}
use Rattle.semantics.specs.Outcome.{Run, onward, ◌>>=◌}
use Rattle.semantics.specs.Value.{Value}
use Rattle.semantics.specs.Kinds.{Leaf, is_pending, leaf_reads}
use Rattle.semantics.specs.Code.{Atom, Line, leaf, Tree}
use Rattle.semantics.specs.Live.{Set, among, ◌∖◌}
use Rattle.semantics.specs.Annotate.{depth_of}
use Rattle.semantics.specs.Meaning.{Meter, Env, step_wants, do_leaf}
use Rattle.semantics.specs.Meaning as Meaning
use Rattle.semantics.specs.Machine.{State, Frame, word, held, work_leaf, work, work_line}
use Rattle.semantics.specs.Machine as Machine
use Rattle.semantics.specs.Store.{Store, cell_of}
use Rattle.semantics.specs.Sound.{all_inner}
use Rattle.laws.specs.Lists.{◌⊆◌}
use Rattle.semantics.specs.Plain.{value, run, run_line}
use Rattle.discipline.proofs.store.Invariant.{Invariant, StandsFor}
use Rattle.discipline.proofs.machine.Discipline.{LeafFits, LineHolding, LineFrugal, less}
use Rattle.discipline.proofs.machine.Growth.{Grows}
use Rattle.discipline.proofs.machine.Agreement.{Together, Agree, after_step}
use Rattle.discipline.proofs.machine.Frames.{hold, Room, Setting, Situation, Returned, Ended, Going, Arguments}
use Rattle.discipline.proofs.machine.Frames.{owned_cells, borrowed_cells, given_by}
use Rattle.discipline.proofs.machine.Size.{leaf_adds, tree_adds, line_adds}
use Rattle.discipline.proofs.machine.Rules.{TreeRules, LineRules}

module _ (C : Setting) where
  -- the machine from s and the run on values from m agree
  abbrev pub Both : {A B : Type 0} → (A → State → B → Meter → Type 0) → Run State A → State → Run Meter B → Meter →
      Type 0
  Both Q f s g m = Agree C.start Q (f s) (g m)

  -- Of a tree under its rules, worked in any situation: it ends so, and n references more may then come.
  abbrev pub TreeClaim : Tree → Type 0
  TreeClaim t = (B : List ℕ) (S L : Set) (H P Δ : List ℕ) (d : ℕ) → TreeRules C t B S L H P Δ d →
      (Z F R : List ℕ) (ρ : Frame) (δ : Env) (n : ℕ) (s : State) (m : Meter) → Together C.start s m →
      Situation C s.store Z F R B H P ρ δ (tree_adds t + n) → C.need ≤ n →
      Both (Ended C d s.store Z F Δ ρ δ n) (work C.callee C.program.borrowing C.depths t L R ρ) s
      (run C.meant t δ) m

  -- Of a line under its rules, after which A is live: the tree may go on.
  abbrev pub LineClaim : Line → Type 0
  LineClaim l = (B : List ℕ) (S A : Set) (H P Δ : List ℕ) → LineRules C l B S A H P Δ →
      (Z F R : List ℕ) (ρ : Frame) (δ : Env) (n : ℕ) (s : State) (m : Meter) → Together C.start s m →
      Situation C s.store Z F R B H P ρ δ (line_adds l + n) → C.need ≤ n →
      Both (Going C l s.store Z F R B H Δ ρ δ n)
      (work_line C.callee C.program.borrowing C.depths l A R ρ) s
      (run_line C.meant l δ) m

  -- what a leaf gave for the name x: a word that holds its cell, or one that is pending, and the store is σ still
  pub data Gave (l : Leaf) (x : ℕ) (σ : Store) (Z F : List ℕ) (w : ℤ) (s : State) (v : Value) (m : Meter) : Type 0 where
    holds : is_pending l ≡ false → Returned C.start (C.depths x) σ Z F w s v m → Gave l x σ Z F w s v m
    waits : is_pending l ≡ true → s.store ≡ σ → Together C.start s m → Invariant σ Z F →
        StandsFor σ (C.depths x) w v → (0 < C.depths x → cell_of w ∈ all_inner σ.cells) → Gave l x σ Z F w s v m

  -- a result of the depth that the name has
  pub gave : {l : Leaf} {x : ℕ} {σ : Store} {Z F : List ℕ} {w : ℤ} {s : State} {v : Value} {m : Meter} (d : ℕ) →
      is_pending l ≡ false → C.depths x ≡ d → Returned C.start d σ Z F w s v m → Gave l x σ Z F w s v m
  gave {σ = σ} {Z} {F} {w} {s} {v} {m} d held_now e q =
      holds held_now (subst (λ (k : ℕ). Returned C.start k σ Z F w s v m) (sym e) q)

  -- Of a leaf on the words and values of its atoms, with its step: H is held before it, and what it does not hand over
  -- after it.
  abbrev pub LeafClaim : Leaf → Type 0
  LeafClaim l = (x : ℕ) (us : List Atom) (A : Set) (B H P : List ℕ) → LeafFits C.program C.depths x l us →
      LineHolding C.program.borrowing C.depths B (leaf x l us) H P →
      (C.start.frugal ≡ true → LineFrugal C.program.borrowing C.depths B (leaf x l us) H A) →
      (Z F R : List ℕ) (ρ : Frame) (δ : Env) (n : ℕ) (s : State) (m : Meter) → Together C.start s m →
      Situation C s.store Z F R B H P ρ δ (leaf_adds + n) → C.need ≤ n →
      Both (Gave l x s.store Z (hold ρ (less (given_by C l us) H) ++ F))
      (Machine.step >>= λ _. work_leaf C.callee (R ++ held C.depths (among us (A ∖ x)) ρ)
      (R ++ held C.depths (among (leaf_reads C.program.borrowing l us) (A ∖ x)) ρ)
      (depth_of C.depths us 1) l (map (word ρ) us)) s
      (do_leaf C.meant l (map (value δ) us)) m

  -- Of a call, on words that stand for the values: those that its function owns hold their cells, and the cells of
  -- those that it borrows are among those of others. It adds at most `need` references.
  abbrev pub CallClaim : Type 0
  CallClaim = (f : ℕ) (ws : List ℤ) (vs : List Value) (Z F R : List ℕ) (s : State) (m : Meter) →
      f < length C.program.routines → Together C.start s m →
      Arguments s.store (C.program.signatures f).parameters ws vs →
      borrowed_cells C.program f ws ⊆ F →
      Invariant s.store Z (owned_cells C.program f ws ++ F) →
      Room Z (owned_cells C.program f ws ++ F) C.need →
      (C.start.frugal ≡ true → (Z ++ F) ⊆ R) →
      Both (Returned C.start (C.program.signatures f).result s.store Z F) (C.callee R f ws) s
      (C.meant f vs) m

  -- what begins with a step has the same store after it, and all that is known of it, for what comes after
  pub begin_step : {X Y : Type 0} (Q : Store → X → State → Y → Meter → Type 0) {Z F R B H P : List ℕ} {ρ : Frame}
      {δ : Env} {k : ℕ} {s : State} {m : Meter} (wants : Bool)
      {f : Unit {0} → Run State X} {g : Unit {0} → Run Meter Y} → Together C.start s m →
      Situation C s.store Z F R B H P ρ δ k → ((u : Unit {0}) → Grows (g u)) →
      ((u v : Unit {0}) (s' : State) (m' : Meter) → Together C.start s' m' →
      Situation C s'.store Z F R B H P ρ δ k →
      (wants ≡ true → step_wants (C.start.budget - s'.left) m'.trace ≡ true) →
      Both (Q s'.store) (f u) s' (g v) m') →
      Agree C.start (Q s.store) (onward f (Machine.step s)) (onward g (Meaning.step wants m))
  begin_step Q {Z} {F} {R} {B} {H} {P} {ρ} {δ} {k} wants {f} {g} t S grows next = after_step wants t grows
      (λ u v s' m' h. subst (λ (σ : Store). Both (Q σ) (f u) s' (g v) m') h.store
      (next u v s' m' h.together (subst (λ (σ : Store). Situation C σ Z F R B H P ρ δ k) (sym h.store) S)
      h.wanted))
