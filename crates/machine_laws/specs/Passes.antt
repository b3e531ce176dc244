-- What a loop and its passes begin with and carry on over positions is what they do in the machine: a clause for each
-- kind of loop.
use Rattle.std.specs.Prelude.{ℕ, ◌<◌, ◌-◌, suc, zero, true, false, Bool, cond, not, ◌||◌, ◌≡◌, refl, List, [], ◌∷◌}
use Rattle.std.specs.Prelude.{◌++◌, eqb, ℤ, pos, get_or}
use Rattle.prelude.specs.Kit.{arith, ◌∙◌, sym, ap, subst, ap₂, length-set, get_or-set_same, ne_eqb, eq-eqb}
use Rattle.semantics.specs.Basics.{updated}
use Rattle.semantics.specs.Outcome.{onward, ◌>>=◌, ◌>>◌, give, require}
use Rattle.semantics.specs.Number.{is_zero, is_answer}
use Rattle.semantics.specs.Kinds.{Loop, mapping, filtering, reducing, rewriting}
use Rattle.semantics.specs.Store.{Store, cell_of, appended, overwritten, retained, released, deepest, cells_taken}
use Rattle.semantics.specs.Live.{Set, ◌∪◌, only, just}
use Rattle.semantics.specs.Machine as M
use Rattle.semantics.specs.Machine.{State, Frame}
use Rattle.semantics.specs.Machine.{touching, release_events, acquire, append_word, overwrite_word, release_word}
use Rattle.semantics.specs.Machine.{argument, carried_first, pass_words, taken_by, in_place, carried_on, loop_ends}
use Rattle.semantics.specs.Machine.{if_array, retain_word}
use Rattle.laws.specs.Tests.{or_right}
use Rattle.discipline.proofs.machine.Discipline.{New, AllNew}
use Rattle.machine_frames.specs.Frames.{place, raised}
use Rattle.machine_frames.specs.Work.{memory, Ran, ran, out, halted, bound}
use Rattle.machine_lines.specs.Lines.{acquired_given, cell_from, acquired_memory, released_memory}
use Rattle.machine_loops.specs.declared.Way.{Way}
use Rattle.machine_loops.specs.declared.Way.TheVariants.{Fill, Overwrite}
use Rattle.machine_loops.specs.Loops.{way_of, new_carried, is_alone, carry_first, retained_if}
use Rattle.machine_spec.specs.Machine.{binding, binding_passed, carry_by}
use Rattle.machine_laws.specs.Frames.{Bounded, FrameAgrees, FrameKept, kept_none}
use Rattle.machine_laws.specs.Frames.{Framed, framed_kept, kept_then}
use Rattle.machine_laws.specs.Frames.{agrees_kept, agrees_all, kept_all, kept_more}
use Rattle.machine_laws.specs.Levels.{LevelsAgree, levels_touched, levels_released, kept_raised}
use Rattle.machine_laws.specs.Same.{Rel, WordDone, LineDone, gives_rel, bound_done}
use Rattle.machine_laws.specs.Acquiring.{acquire_same}

-- the names of a pass: the running value's and the element's, which are one where there is no running value
pub data PassNames : Loop → List ℕ → ℕ → ℕ → Type 0 where
  maps : (p : ℕ) → PassNames mapping (p ∷ []) p p
  filters : (p : ℕ) → PassNames filtering (p ∷ []) p p
  reduces : (q p : ℕ) → PassNames reducing (q ∷ (p ∷ [])) q p
  rewrites : (p : ℕ) → PassNames rewriting (p ∷ []) p p

-- both fit a byte
pub first_small : (S : Set) {k : Loop} {ps : List ℕ} {p q : ℕ} → PassNames k ps p q → AllNew ps S → p < 256
first_small S (maps p) new = new.0.small
first_small S (filters p) new = new.0.small
first_small S (reduces q p) new = new.0.small
first_small S (rewrites p) new = new.0.small

pub second_small : (S : Set) {k : Loop} {ps : List ℕ} {p q : ℕ} → PassNames k ps p q → AllNew ps S → q < 256
second_small S (maps p) new = new.0.small
second_small S (filters p) new = new.0.small
second_small S (reduces q p) new = new.1.0.small
second_small S (rewrites p) new = new.0.small

-- names that are bound to what is carried and then to the element agree with the frame of a pass
module _ (calls : ℕ) {f : ℕ} (env : List ℤ) (ρ : Frame) (S : Set) (b : Bounded S) (framed : Framed calls f env)
    (v w : ℤ) where
  -- before the element, where both names are its own
  abbrev carried_in : ℕ → List ℤ
  carried_in p = bound calls p v env

  one_kept : (p : ℕ) → AllNew (p ∷ []) S → FrameKept calls env (carried_in p) S
  one_kept p new = kept_more calls env S p v framed.few new.0.small new.0.unknown

  one_entered : (p : ℕ) → AllNew (p ∷ []) S → FrameAgrees calls env ρ S →
      FrameAgrees calls (bound calls p w (carried_in p)) (M.binding (p ∷ []) (w ∷ []) ρ) (S ∪ just (p ∷ []))
  one_entered p new g = agrees_all calls (p ∷ []) (w ∷ []) (carried_in p) ρ S new (framed_kept (one_kept p new) framed)
      b (agrees_kept calls env (carried_in p) ρ S g (one_kept p new))

  pub entered_agrees : {k : Loop} {ps : List ℕ} {p q : ℕ} → PassNames k ps p q → AllNew ps S →
      FrameAgrees calls env ρ S →
      FrameAgrees calls (bound calls q w (bound calls p v env)) (M.binding ps (pass_words k v w) ρ) (S ∪ just ps)
  entered_agrees (maps p) new g = one_entered p new g
  entered_agrees (filters p) new g = one_entered p new g
  entered_agrees (reduces q p) new g = agrees_all calls (q ∷ (p ∷ [])) (v ∷ (w ∷ [])) env ρ S new framed b g
  entered_agrees (rewrites p) new g = one_entered p new g

  one_left : (p : ℕ) → AllNew (p ∷ []) S → FrameKept calls env (bound calls p w (carried_in p)) S
  one_left p new = kept_then calls env (carried_in p) (bound calls p w (carried_in p)) S S (λ y z. z) (one_kept p new)
      (kept_all calls (p ∷ []) (w ∷ []) (carried_in p) S framed.few new)

  pub entered_kept : {k : Loop} {ps : List ℕ} {p q : ℕ} → PassNames k ps p q → AllNew ps S →
      FrameKept calls env (bound calls q w (bound calls p v env)) S
  entered_kept (maps p) new = one_left p new
  entered_kept (filters p) new = one_left p new
  entered_kept (reduces q p) new = kept_all calls (q ∷ (p ∷ [])) (v ∷ (w ∷ [])) env S framed.few new
  entered_kept (rewrites p) new = one_left p new

  -- the element's name is among those of the pass, and has its word
  pub element_known : {k : Loop} {ps : List ℕ} {p q : ℕ} → PassNames k ps p q → (S ∪ just ps) q ≡ true
  element_known (maps p) = rw (eq-eqb p p refl) (or_right (S p) true refl)
  element_known (filters p) = rw (eq-eqb p p refl) (or_right (S p) true refl)
  element_known (reduces q p) = rw (eq-eqb p p refl) (or_right (S p) (eqb q p || true) (or_right (eqb q p) true refl))
  element_known (rewrites p) = rw (eq-eqb p p refl) (or_right (S p) true refl)

  pub element_word : (p q : ℕ) → q < 256 →
      get_or (bound calls q w (bound calls p v env)) (place calls q) (pos 0) ≡ w
  element_word p q small = get_or-set_same (bound calls p v env) (place calls q) w (pos 0)
      (omega (arith, small, framed.few, framed.long, length-set env (place calls p) v))

new_same : (free : ℕ) (R : List ℕ) (d calls : ℕ) {f : ℕ} (S : Set) → Bounded S → (env : List ℤ) (n : ℕ) (s : State) →
    n ≡ s.left → Framed calls f env → LevelsAgree free s.log env →
    Rel free (WordDone free calls env S) (new_carried d n (memory s.store env)) (acquire R d [] s)
new_same free R d calls S b env n s e framed levels =
    let m = memory s.store env in
    gives_rel free calls env S n (acquired_memory d [] m) (acquired_given (cell_from m)) (acquire R d [] s)
    (acquire_same free calls S b R d [] n s env e framed levels)

pub carry_first_same : (free : ℕ) (k : Loop) (R : List ℕ) (d : ℕ) (ws : List ℤ) (calls : ℕ) {f : ℕ} (S : Set) →
    Bounded S → (env : List ℤ) (n : ℕ) (s : State) → n ≡ s.left → Framed calls f env → LevelsAgree free s.log env →
    Rel free (WordDone free calls env S) (carry_first k d ws n (memory s.store env)) (carried_first k R d ws s)
unfolding M.is_alone onward M.with_store
carry_first_same free mapping R d ws calls S b env n s e framed levels =
    new_same free R d calls S b env n s e framed levels
carry_first_same free filtering R d ws calls S b env n s e framed levels =
    new_same free R d calls S b env n s e framed levels
carry_first_same free reducing R d ws calls S b env n s e framed levels =
    (refl, record { value = refl; steps = e; store = refl; kept = kept_none calls env S; levels = levels })
carry_first_same free rewriting R d ws calls S b env n s e framed levels = go (is_alone s.store array)
  where
    array : ℤ
    array = argument ws 0

    s₁ : State
    s₁ = M.with_store s s.store (touching s.store (cell_of array))

    told : LevelsAgree free s₁.log env
    told = levels_touched levels s.store (cell_of array)

    go : (t : Bool) → Rel free (WordDone free calls env S)
        (cond t (ran (out 0 array 0 n) (memory s.store env)) (new_carried d n (memory s.store env)))
        (cond t (give array) (acquire R d []) s₁)
    go true = (refl, record { value = refl; steps = e; store = refl; kept = kept_none calls env S; levels = told })
    go false = new_same free R d calls S b env n s₁ e framed told

-- an element that is kept, by its depth
keep_same : (free d : ℕ) (v e : ℤ) (calls : ℕ) (S : Set) (env : List ℤ) (n : ℕ) (s : State) (σ : Store) →
    n ≡ s.left → σ ≡ s.store → LevelsAgree free s.log env →
    Rel free (WordDone free calls env S)
    (ran (out 0 v 0 n) (memory (appended (cell_of v) e (retained_if (not (eqb d 0)) (cell_of e) σ)) env))
    ((if_array d (retain_word e) >> (append_word v e >> give v)) s)
unfolding append_word retain_word onward M.with_store
keep_same free zero v e calls S env n s σ f h levels = (
  refl,
  record {
    value = refl;
    steps = f;
    store = ap (appended (cell_of v) e) h;
    kept = kept_none calls env S;
    levels = levels_touched levels s.store (cell_of v);
  },
)
keep_same free (suc d) v e calls S env n s σ f h levels = rw (ne_eqb (suc d) 0 (λ z. omega arith)) (
  refl,
  record {
    value = refl;
    steps = f;
    store = ap (λ (τ : Store). appended (cell_of v) e (retained (cell_of e) τ)) h;
    kept = kept_none calls env S;
    levels = levels_touched (levels_touched levels s.store (cell_of e)) (retained (cell_of e) s.store) (cell_of
        v);
  },
)

-- what follows the tree of pass i over the array a
abbrev pub after_body : Loop → ℕ → ℤ → ℕ → ℤ → ℤ → ℤ → M.Work ℤ
after_body k d a i v e r = require (taken_by k r) 28 >> carried_on k d a i v e r

pub carry_by_same : (free : ℕ) (k : Loop) (d : ℕ) (a : ℤ) (i : ℕ) (v e : ℤ) (calls : ℕ) (S : Set) (w : Ran) (r : ℤ)
    (s : State) → w.out.value ≡ r → w.out.steps ≡ s.left → w.memory.store ≡ s.store →
    LevelsAgree free s.log w.memory.env →
    Rel free (WordDone free calls w.memory.env S) (carry_by (way_of k d (cell_of a) v) v i e w)
    (after_body k d a i v e r s)
unfolding append_word overwrite_word onward require M.with_store
carry_by_same free mapping d a i v e calls S w r s ve f h levels = (
  refl,
  record {
    value = refl;
    steps = f;
    store = ap₂ (appended (cell_of v)) ve h;
    kept = kept_none calls w.memory.env S;
    levels = levels_touched levels s.store (cell_of v);
  },
)
carry_by_same free filtering d a i v e calls S w r s ve f h levels = rw ve (answered (is_answer r))
  where
    go : (t : Bool) → Rel free (WordDone free calls w.memory.env S)
        (ran (out 0 v 0 w.out.steps) (memory (cond t w.memory.store
        (appended (cell_of v) e (retained_if (not (eqb d 0)) (cell_of e) w.memory.store))) w.memory.env))
        (cond t (give v) (if_array d (retain_word e) >> (append_word v e >> give v)) s)
    go true = (
      refl,
      record { value = refl; steps = f; store = h; kept = kept_none calls w.memory.env S; levels = levels },
    )
    go false = keep_same free d v e calls S w.memory.env w.out.steps s w.memory.store f h levels

    answered : (t : Bool) → Rel free (WordDone free calls w.memory.env S)
        (cond t (ran (out 0 v 0 w.out.steps) (memory (cond (is_zero r) w.memory.store
        (appended (cell_of v) e (retained_if (not (eqb d 0)) (cell_of e) w.memory.store))) w.memory.env))
        (halted 28 w.out.steps w.memory))
        (onward (λ _. carried_on filtering d a i v e r) (require t 28 s))
    answered true = go (is_zero r)
    answered false = record { stop = refl; real = λ z. omega arith; steps = f; levels = levels }
carry_by_same free reducing d a i v e calls S w r s ve f h levels = (
  refl,
  record { value = ve; steps = f; store = h; kept = kept_none calls w.memory.env S; levels = levels },
)
carry_by_same free rewriting d a i v e calls S w r s ve f h levels = go (in_place a v)
  where
    go : (t : Bool) → Rel free (WordDone free calls w.memory.env S)
        (carry_by (cond t Overwrite (Fill true)) v i e w)
        ((cond t (overwrite_word v i r) (append_word v r) >> give v) s)
    go true = (
      refl,
      record {
        value = refl;
        steps = f;
        store = ap₂ (overwritten (cell_of v) i) ve h;
        kept = kept_none calls w.memory.env S;
        levels = levels_touched levels s.store (cell_of v);
      },
    )
    go false = (
      refl,
      record {
        value = refl;
        steps = f;
        store = ap₂ (appended (cell_of v)) ve h;
        kept = kept_none calls w.memory.env S;
        levels = levels_touched levels s.store (cell_of v);
      },
    )

-- the way of a loop by what is carried into its first pass is that by what a pass carries on
pub way_stays : (k : Loop) (d c : ℕ) (v : ℤ) (way : Way) → way ≡ way_of k d c v → (i : ℕ) (e : ℤ) (w : Ran) →
    way ≡ way_of k d c (carry_by way v i e w).out.value
way_stays mapping d c v way h i e w = h
way_stays filtering d c v way h i e w = h
way_stays reducing d c v way h i e w = h
way_stays rewriting d c v way h i e w =
    h ∙ ap (way_of rewriting d c) (sym (ap (λ (y : Way). (carry_by y v i e w).out.value) h ∙ go (eqb (cell_of v) c)))
  where
    go : (t : Bool) → (carry_by (cond t Overwrite (Fill true)) v i e w).out.value ≡ v
    go true = refl
    go false = refl

-- ---- the end of a loop

module _ (free calls : ℕ) {f : ℕ} (env : List ℤ) (ρ : Frame) (S : Set) (b : Bounded S) (g : FrameAgrees calls env ρ S)
    (framed : Framed calls f env) (x : ℕ) (new : New x S) (next goal : ℕ) (ne : next ≡ goal) (w : Ran) (v : ℤ)
    (s : State) (h : WordDone free calls env S w v s) where
  -- an array is released after the passes
  released_done : (a : ℤ) →
      WordDone free calls env S (ran w.out (released_memory (cell_of a) w.memory)) v
      (M.with_store s (released deepest (cell_of a) s.store) (release_events deepest (cell_of a) s.store))
  unfolding M.with_store
  released_done a = record {
    value = h.value;
    steps = h.steps;
    store = ap (released deepest (cell_of a)) h.store;
    kept = kept_then calls env w.memory.env _ S S (λ y p. p) h.kept
        (kept_raised calls framed.few S b w.memory.env _);
    levels = subst (λ (σ : Store). LevelsAgree free (s.log ++ release_events deepest (cell_of a) s.store)
        (raised (cells_taken σ - cells_taken (released deepest (cell_of a) σ)) w.memory.env)) (sym h.store)
        (levels_released h.levels (cell_of a) s.store (framed_kept h.kept framed).long);
  }

  abbrev Bound : Ran → Frame → State → Type 0
  Bound = LineDone free goal calls env S (S ∪ only x)

  abbrev plain_end : Rel free Bound (binding calls x next w) (give (updated ρ x v) s)
  plain_end = (refl, bound_done free calls env ρ S b g framed x new next goal ne w v s h)

  -- what the passes gave is bound, and an array that was to be rewritten and was not is released
  pub ends_same : (k : Loop) (d : ℕ) (a : ℤ) (way : Way) → way ≡ way_of k d (cell_of a) v →
      Rel free Bound (binding_passed way (cell_of a) calls x next w)
      ((loop_ends k a v >> give (updated ρ x v)) s)
  unfolding onward release_word M.with_store
  ends_same k d a way e =
      subst (λ (y : Way). Rel free Bound (binding_passed y (cell_of a) calls x next w)
      ((loop_ends k a v >> give (updated ρ x v)) s)) (sym e) (by k)
    where
      go : (t : Bool) → Rel free Bound (binding_passed (cond t Overwrite (Fill true)) (cell_of a) calls x next w)
          ((cond t (give tt) (release_word a) >> give (updated ρ x v)) s)
      go true = plain_end
      go false = (refl, bound_done free calls env ρ S b g framed x new next goal ne _ v _ (released_done a))

      by : (k : Loop) → Rel free Bound (binding_passed (way_of k d (cell_of a) v) (cell_of a) calls x next w)
          ((loop_ends k a v >> give (updated ρ x v)) s)
      by mapping = plain_end
      by filtering = plain_end
      by reducing = plain_end
      by rewriting = go (in_place a v)
