-- How work over positions agrees with a run of the machine: it goes on with what P says, or it stops with the same
-- number and the same steps left.
use Rattle.std.specs.Prelude.{ℕ, ◌≤◌, ◌+◌, ◌<◌, suc, zero, ◌*◌, true, ◌≡◌, refl, List, ℤ, pos, length, get_or, set}
use Rattle.prelude.specs.Kit.{arith, ◌∙◌, sym, ap, subst, ap₂, ne_eqb, eq-eqb}
use Rattle.semantics.specs.Basics.{updated}
use Rattle.semantics.specs.Outcome.{Outcome, done, stop, Run, onward}
use Rattle.semantics.specs.Live.{Set, ◌∪◌, only}
use Rattle.semantics.specs.Store.{Store}
use Rattle.semantics.specs.Machine as M
use Rattle.semantics.specs.Machine.{State, Frame, Program, step, stepped, with_left}
use Rattle.discipline.proofs.machine.Discipline.{New}
use Rattle.machine_frames.specs.Frames.{frame_words, place, function_place}
use Rattle.machine_frames.specs.Work.{Memory, memory, Ran, ran, out, halted, stepping}
use Rattle.machine_lines.specs.Lines.{Given, gave}
use Rattle.machine_spec.specs.Machine.{Code, parameters_in, names_in, Callee, and_then, binding}
use Rattle.machine_laws.specs.Frames.{Bounded, FrameAgrees, FrameKept, Framed, framed_kept, agrees_more}
use Rattle.machine_laws.specs.Frames.{agrees_kept, kept_more, kept_then}
use Rattle.machine_laws.specs.Levels.{LevelsAgree, levels_set}

pub record Stopped (free : ℕ) (w : Ran) (n : ℕ) (s : State) : Type 0 where
  pub stop : w.out.stop ≡ n
  pub real : n ≡ 0 → ⊥
  pub steps : w.out.steps ≡ s.left
  pub levels : LevelsAgree free s.log w.memory.env

abbrev pub Rel : {A : Type 0} → ℕ → (Ran → A → State → Type 0) → Ran → Outcome State A → Type 0
Rel free P w (done a s) = (w.out.stop ≡ 0) × P w a s
Rel free P w (stop n s) = Stopped free w n s

-- work gave its word, and left the names S and the callers' frames
pub record WordDone (free calls : ℕ) (env : List ℤ) (S : Set) (w : Ran) (v : ℤ) (s : State) : Type 0 where
  pub value : w.out.value ≡ v
  pub steps : w.out.steps ≡ s.left
  pub store : w.memory.store ≡ s.store
  pub kept : FrameKept calls env w.memory.env S
  pub levels : LevelsAgree free s.log w.memory.env

-- a tree gave its word: the code goes on at a position
pub record TreeDone (free goal calls : ℕ) (env : List ℤ) (S : Set) (w : Ran) (v : ℤ) (s : State) : Type 0 where
  pub next : w.out.next ≡ goal
  pub word : WordDone free calls env S w v s

-- a line left a frame, in which the names T are known
pub record LineDone (free goal calls : ℕ) (env : List ℤ) (S T : Set) (w : Ran) (ρ : Frame) (s : State) : Type 0 where
  pub next : w.out.next ≡ goal
  pub steps : w.out.steps ≡ s.left
  pub store : w.memory.store ≡ s.store
  pub agrees : FrameAgrees calls w.memory.env ρ T
  pub kept : FrameKept calls env w.memory.env S
  pub levels : LevelsAgree free s.log w.memory.env

-- a call gave its word, and left all frames from its caller's on
pub record CallDone (free calls : ℕ) (env : List ℤ) (w : Ran) (v : ℤ) (s : State) : Type 0 where
  pub value : w.out.value ≡ v
  pub steps : w.out.steps ≡ s.left
  pub store : w.memory.store ≡ s.store
  pub frames : (q : ℕ) → 256 * calls ≤ q → q < 8192 → get_or w.memory.env q (pos 0) ≡ get_or env q (pos 0)
  pub functions : (k : ℕ) → calls ≤ k → k ≤ 31 →
      get_or w.memory.env (function_place k) (pos 0) ≡ get_or env (function_place k) (pos 0)
  pub long : length w.memory.env ≡ length env
  pub levels : LevelsAgree free s.log w.memory.env

-- the callee over positions is that of the machine
pub record CalleeSame (free : ℕ) (p : Program) (c : Code) (calls : ℕ) (C : Callee) (callee : M.Callee) : Type 0 where
  pub few : (g : ℕ) → g < length p.routines → length (p.signatures g).parameters ≤ 8
  pub counted : (g : ℕ) → g < length p.routines → parameters_in c g ≡ length (p.signatures g).parameters
  pub within : (g : ℕ) → g < length p.routines →
      names_in c g + length (p.signatures g).parameters ≤ length c.kinds
  pub same : (R : List ℕ) (g : ℕ) (ws : List ℤ) (env : List ℤ) (s : State) → g < length p.routines →
      length ws ≡ length (p.signatures g).parameters → frame_words ≤ length env →
      LevelsAgree free s.log env →
      Rel free (CallDone free calls env) (C g ws s.left (memory s.store env)) (callee R g ws s)

-- a small work, with n steps left, is that of the machine: it gives its word and leaves the names S, or it stops
abbrev pub Gives : ℕ → ℕ → List ℤ → Set → ℕ → Memory → Given → Outcome State ℤ → Type 0
Gives free calls env S n m (done w u) (done v s) = WordDone free calls env S (ran (out 0 w 0 n) m) v s
Gives free calls env S n m (done w u) (stop k s) = ⊥
Gives free calls env S n m (stop j u) (done v s) = ⊥
Gives free calls env S n m (stop j u) (stop k s) = Stopped free (halted j n m) k s

pub gives_rel : (free calls : ℕ) (env : List ℤ) (S : Set) (n : ℕ) (m : Memory) (y : Given) (o : Outcome State ℤ) →
    Gives free calls env S n m y o → Rel free (WordDone free calls env S) (gave n m y) o
gives_rel free calls env S n m (done w u) (done v s) h = (refl, h)
gives_rel free calls env S n m (done w u) (stop k s) h = absurd h
gives_rel free calls env S n m (stop j u) (done v s) h = absurd h
gives_rel free calls env S n m (stop j u) (stop k s) h = h

pub rel_then : {A B : Type 0} (free : ℕ) (P : Ran → A → State → Type 0) (Q : Ran → B → State → Type 0) (w : Ran)
    (o : Outcome State A) (F : Ran → Ran) (f : A → Run State B) → Rel free P w o →
    ((a : A) (s : State) → P w a s → Rel free Q (F w) (f a s)) → Rel free Q (and_then w F) (onward f o)
unfolding onward
rel_then free P Q w (done a s) F f h k = rw (eq-eqb w.out.stop 0 h.0) (k a s h.1)
rel_then free P Q w (stop n s) F f h k = rw (ne_eqb w.out.stop 0 (λ e. h.real (sym h.stop ∙ e))) h

-- a step of the machine
pub rel_step : {B : Type 0} (free : ℕ) (Q : Ran → B → State → Type 0) (s : State) (m : Memory) (G : ℕ → Ran)
    (f : Unit {0} → Run State B) → LevelsAgree free s.log m.env →
    ((n : ℕ) → Rel free Q (G n) (f tt (with_left s n))) →
    Rel free Q (stepping s.left (halted 21 0 m) G) (onward f (step s))
unfolding stepping step stepped onward
rel_step free Q s m G f levels k = go s.left refl
  where
    go : (n : ℕ) → s.left ≡ n → Rel free Q (stepping n (halted 21 0 m) G) (onward f (stepped n s))
    go zero e = record { stop = refl; real = λ z. omega arith; steps = sym e; levels = levels }
    go (suc n) e = k n

pub rel_map : {A : Type 0} (free : ℕ) (P Q : Ran → A → State → Type 0) (w : Ran) (o : Outcome State A) →
    ((a : A) (s : State) → P w a s → Q w a s) → Rel free P w o → Rel free Q w o
rel_map free P Q w (done a s) k h = (h.0, k a s h.1)
rel_map free P Q w (stop n s) k h = h

pub onward_onward : {S A B D : Type 0} (f : B → Run S D) (g : A → Run S B) (o : Outcome S A) →
    onward f (onward g o) ≡ onward (λ a s. onward f (g a s)) o
unfolding onward
onward_onward f g (done a s) = refl
onward_onward f g (stop n s) = refl

-- ---- words that are kept

-- what follows work that gave a word, from the machine's word, steps and store
pub word_moved : (X : ℤ → ℕ → Memory → Ran) {free calls : ℕ} {env : List ℤ} {S : Set} {w : Ran} {v : ℤ} {s : State} →
    WordDone free calls env S w v s →
    X w.out.value w.out.steps w.memory ≡ X v s.left (memory s.store w.memory.env)
word_moved X {w = w} {v = v} {s = s} h = ap₂ (λ (y : ℤ) (n : ℕ). X y n w.memory) h.value h.steps
    ∙ ap (λ (σ : Store). X v s.left (memory σ w.memory.env)) h.store

-- the same word, known from another list of words that kept the names
pub word_kept : (free calls : ℕ) (e₀ e₁ : List ℤ) (S T : Set) → ((x : ℕ) → S x ≡ true → T x ≡ true) →
    FrameKept calls e₀ e₁ S →
    (w : Ran) (v : ℤ) (s : State) → WordDone free calls e₁ T w v s → WordDone free calls e₀ S w v s
word_kept free calls e₀ e₁ S T i k w v s h = record {
  value = h.value;
  steps = h.steps;
  store = h.store;
  kept = kept_then calls e₀ e₁ w.memory.env S T i k h.kept;
  levels = h.levels;
}

-- a call's word
pub call_word : (free calls : ℕ) → calls ≤ 31 → (env : List ℤ) (S : Set) → Bounded S → (w : Ran) (v : ℤ) (s : State) →
    CallDone free calls env w v s → WordDone free calls env S w v s
call_word free calls few env S b w v s k = record {
  value = k.value;
  steps = k.steps;
  store = k.store;
  kept = record {
    names = λ y p. k.frames (place calls y) (omega arith) (omega (arith, few, b.below y p));
    callers = λ q r l. k.frames q (omega (arith, r)) l;
    functions = k.functions;
    long = k.long;
  };
  levels = k.levels;
}

-- a name bound to a word that work gave
pub bound_done : (free calls : ℕ) {f : ℕ} (env : List ℤ) (ρ : Frame) (S : Set) → Bounded S → FrameAgrees calls env ρ S →
    Framed calls f env → (x : ℕ) → New x S → (next goal : ℕ) → next ≡ goal → (w : Ran) (v : ℤ) (s : State) →
    WordDone free calls env S w v s →
    LineDone free goal calls env S (S ∪ only x) (binding calls x next w) (updated ρ x v) s
bound_done free calls env ρ S b g framed x new next goal e w v s h = record {
  next = e;
  steps = h.steps;
  store = h.store;
  agrees = subst (λ (y : ℤ). FrameAgrees calls (set w.memory.env (place calls x) y) (updated ρ x v) (S ∪ only x))
      (sym h.value)
      (agrees_more calls w.memory.env ρ S x v new.small (framed_kept h.kept framed) b
      (agrees_kept calls env w.memory.env ρ S g h.kept));
  kept = kept_then calls env w.memory.env (set w.memory.env (place calls x) w.out.value) S S (λ y p. p)
      h.kept (kept_more calls w.memory.env S x w.out.value framed.few new.small new.unknown);
  levels = levels_set h.levels (place calls x) w.out.value (omega (arith, framed.few, new.small));
}
