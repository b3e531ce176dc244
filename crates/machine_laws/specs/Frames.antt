-- Frames that agree with a list of words, and what work in the frame of a call leaves alone.
use Rattle.std.specs.Prelude.{ℕ, ◌≤◌, ◌+◌, ◌<◌, ◌*◌, ◌%◌, true, false, Bool, cond, ◌≡◌, refl, ◌≢◌, List, [], ◌∷◌, eqb}
use Rattle.std.specs.Prelude.{ℤ, pos, length, get_or, set}
use Rattle.prelude.specs.Kit.{arith, ℕ_discrete, or-false, or_assoc, ◌∙◌, sym, ap, subst, inl, inr, length-set}
use Rattle.prelude.specs.Kit.{get_or-set_other, get_or-set_same, ne_eqb, eq-eqb, eqb-true}
use Rattle.semantics.specs.Basics.{updated}
use Rattle.semantics.specs.Kinds.{later_parts}
use Rattle.semantics.specs.Code as C
use Rattle.semantics.specs.Live.{Set, ◌∪◌, only, just}
use Rattle.semantics.specs.Machine.{Frame, word, argument, binding}
use Rattle.laws.specs.Tests.{or_cases, or_left}
use Rattle.discipline.proofs.machine.Discipline.{Known, AllNew, known_after, LineScoped}
use Rattle.machine_code.specs.Reading.{low_bits}
use Rattle.machine_code.proofs.Reading.{no_bool}
use Rattle.machine_frames.specs.Frames.{frame_words, place, function_place, function_of, word_of}
use Rattle.machine_frames.specs.Work.{bound}
use Rattle.machine_code.specs.Rows.{coded, SmallAtom}

-- every known name fits a byte
pub record Bounded (S : Set) : Type 0 where
  pub below : (x : ℕ) → S x ≡ true → x < 256

-- the words of the known names
pub record FrameAgrees (calls : ℕ) (env : List ℤ) (ρ : Frame) (S : Set) : Type 0 where
  pub agree : (x : ℕ) → S x ≡ true → get_or env (place calls x) (pos 0) ≡ ρ x

-- what work in the frame of a call leaves alone: the known names, the frames of its callers, and their functions
pub record FrameKept (calls : ℕ) (env env' : List ℤ) (S : Set) : Type 0 where
  pub names : (x : ℕ) → S x ≡ true → get_or env' (place calls x) (pos 0) ≡ get_or env (place calls x) (pos 0)
  pub callers : (q : ℕ) → 256 * calls + 256 ≤ q → q < 8192 → get_or env' q (pos 0) ≡ get_or env q (pos 0)
  pub functions : (k : ℕ) → calls ≤ k → k ≤ 31 →
      get_or env' (function_place k) (pos 0) ≡ get_or env (function_place k) (pos 0)
  pub long : length env' ≡ length env

-- the frame of a call of function f is there
pub record Framed (calls f : ℕ) (env : List ℤ) : Type 0 where
  pub few : calls ≤ 31
  pub long : frame_words ≤ length env
  pub function : function_of calls env ≡ f

pub framed_kept : {calls f : ℕ} {e₀ e₁ : List ℤ} {S : Set} → FrameKept calls e₀ e₁ S → Framed calls f e₀ →
    Framed calls f e₁
framed_kept {calls} k h = record {
  few = h.few;
  long = omega (arith, h.long, k.long);
  function = ap (λ (z : ℤ). low_bits z % 256) (k.functions calls (omega arith) h.few) ∙ h.function;
}

pub small_known : (a : C.Atom) (S : Set) → Bounded S → Known a S → SmallAtom a
small_known (C.number z) S b h = tt
small_known (C.name x) S b h = b.below x h

pub word_same : (calls : ℕ) (env : List ℤ) (ρ : Frame) (S : Set) → FrameAgrees calls env ρ S → (a : C.Atom) →
    Known a S →
    word_of calls env (coded a) ≡ word ρ a
word_same calls env ρ S g (C.number z) h = refl
word_same calls env ρ S g (C.name x) h = g.agree x h

either_true : (x y : ℕ) (S : Set) → (S ∪ only x) y ≡ true → x ≢ y → S y ≡ true
either_true x y S e f =
    elim (or_cases (S y) (eqb x y) e) [ inl q ↦ q | inr q ↦ absurd (f (eqb-true x y q)) ]

pub bounded_more : (x : ℕ) (S : Set) → x < 256 → Bounded S → Bounded (S ∪ only x)
bounded_more x S h b = record { below = λ y e. go y e (ℕ_discrete x y) }
  where
    go : (y : ℕ) → (S ∪ only x) y ≡ true → Dec (x ≡ y) → y < 256
    go y e (yes p) = omega (arith, p, h)
    go y e (no p) = b.below y (either_true x y S e p)

pub agrees_more : (calls : ℕ) {f : ℕ} (env : List ℤ) (ρ : Frame) (S : Set) (x : ℕ) (v : ℤ) → x < 256 →
    Framed calls f env → Bounded S → FrameAgrees calls env ρ S → FrameAgrees calls (set env (place calls x) v)
    (updated ρ x v) (S ∪ only x)
unfolding updated
agrees_more calls {f} env ρ S x v h l b g = record { agree = λ y e. go y e (ℕ_discrete x y) }
  where
    go : (y : ℕ) → (S ∪ only x) y ≡ true → Dec (x ≡ y) →
        get_or (set env (place calls x) v) (place calls y) (pos 0) ≡ cond (eqb x y) v (ρ y)
    go y e (yes p) =
        ap (λ (k : ℕ). get_or (set env (place calls x) v) (place calls k) (pos 0)) (sym p)
        ∙ get_or-set_same env (place calls x) v (pos 0) (omega (arith, l.few, l.long))
        ∙ sym (ap (λ (t : Bool). cond t v (ρ y)) (eq-eqb x y p))
    go y e (no p) =
        get_or-set_other env (place calls x) (place calls y) v (pos 0) (λ q. p (omega (arith, q)))
        ∙ g.agree y (either_true x y S e p)
        ∙ sym (ap (λ (t : Bool). cond t v (ρ y)) (ne_eqb x y p))

pub kept_none : (calls : ℕ) (env : List ℤ) (S : Set) → FrameKept calls env env S
kept_none calls env S = record { names = λ x e. refl; callers = λ q h l. refl; functions = λ k h l. refl; long = refl }

pub kept_more : (calls : ℕ) (env : List ℤ) (S : Set) (x : ℕ) (v : ℤ) → calls ≤ 31 → x < 256 → S x ≡ false →
    FrameKept calls env (set env (place calls x) v) S
kept_more calls env S x v few small u = record {
  names = λ y e. get_or-set_other env (place calls x) (place calls y) v (pos 0)
      (λ q. no_bool (sym e ∙ ap S (let z : y ≡ x = omega (arith, q) in z) ∙ u));
  callers = λ q h l. get_or-set_other env (place calls x) q v (pos 0) (λ e. absurd (omega (arith, e, h, small)));
  functions = λ k h l. get_or-set_other env (place calls x) (function_place k) v (pos 0)
      (λ e. absurd (omega (arith, e, few, small)));
  long = length-set env (place calls x) v;
}

pub kept_then : (calls : ℕ) (e₀ e₁ e₂ : List ℤ) (S T : Set) → ((x : ℕ) → S x ≡ true → T x ≡ true) →
    FrameKept calls e₀ e₁ S → FrameKept calls e₁ e₂ T → FrameKept calls e₀ e₂ S
kept_then calls e₀ e₁ e₂ S T i a b = record {
  names = λ x e. b.names x (i x e) ∙ a.names x e;
  callers = λ q h l. b.callers q h l ∙ a.callers q h l;
  functions = λ k h l. b.functions k h l ∙ a.functions k h l;
  long = b.long ∙ a.long;
}

pub bounded_after : (l : C.Line) (S : Set) → LineScoped l S → Bounded S → Bounded (known_after l S)
bounded_after (C.leaf x l us) S h b = bounded_more x S h.1.small b
bounded_after (C.if_else x g t e) S h b = bounded_more x S h.1.small b
bounded_after (C.loop x k ps us t) S h b = bounded_more x S h.1.small b
bounded_after (C.retain x) S h b = b
bounded_after (C.release x) S h b = b

-- after work that kept them, the names still agree
pub agrees_kept : (calls : ℕ) (env env' : List ℤ) (ρ : Frame) (S : Set) → FrameAgrees calls env ρ S →
    FrameKept calls env env'
    S →
    FrameAgrees calls env' ρ S
agrees_kept calls env env' ρ S g k = record { agree = λ x e. k.names x e ∙ g.agree x e }

-- ---- names bound in turn

-- the names of a pass, one known after another
just_none : (S : Set) → S ∪ just [] ≡ S
just_none S = λ i y. or-false (S y) i

just_first : (S : Set) (p : ℕ) (ps : List ℕ) → (S ∪ only p) ∪ just ps ≡ S ∪ just (p ∷ ps)
just_first S p ps = λ i y. or_assoc (S y) (eqb p y) (just ps y) i

pub bounded_all : (ps : List ℕ) (S : Set) → AllNew ps S → Bounded S → Bounded (S ∪ just ps)
bounded_all [] S h b = subst Bounded (sym (just_none S)) b
bounded_all (p ∷ ps) S h b =
    subst Bounded (just_first S p ps) (bounded_all ps (S ∪ only p) h.1 (bounded_more p S h.0.small b))

-- names bound to words in turn
abbrev pub bound_all : ℕ → List ℕ → List ℤ → List ℤ → List ℤ
bound_all calls [] ws env = env
bound_all calls (x ∷ xs) ws env = bound_all calls xs (later_parts ws) (bound calls x (argument ws 0) env)

module _ (calls : ℕ) where
  pub agrees_all : {f : ℕ} (ps : List ℕ) (ws env : List ℤ) (ρ : Frame) (S : Set) → AllNew ps S → Framed calls f env →
      Bounded S → FrameAgrees calls env ρ S → FrameAgrees calls (bound_all calls ps ws env) (binding ps ws ρ) (S ∪
      just ps)
  agrees_all {f} [] ws env ρ S h framed b g = subst (FrameAgrees calls env ρ) (sym (just_none S)) g
  agrees_all {f} (p ∷ ps) ws env ρ S h framed b g =
      let v = argument ws 0 in
      subst (FrameAgrees calls (bound_all calls (p ∷ ps) ws env) (binding (p ∷ ps) ws ρ)) (just_first S p ps)
      (agrees_all ps (later_parts ws) (set env (place calls p) v) (updated ρ p v) (S ∪ only p) h.1
      (framed_kept (kept_more calls env S p v framed.few h.0.small h.0.unknown) framed)
      (bounded_more p S h.0.small b) (agrees_more calls env ρ S p v h.0.small framed b g))

  pub kept_all : (ps : List ℕ) (ws env : List ℤ) (S : Set) → calls ≤ 31 → AllNew ps S → FrameKept calls env
      (bound_all calls ps ws env) S
  kept_all [] ws env S few h = kept_none calls env S
  kept_all (p ∷ ps) ws env S few h =
      let v = argument ws 0 in
      kept_then calls env (set env (place calls p) v) (bound_all calls (p ∷ ps) ws env) S (S ∪ only p)
      (λ y e. or_left (S y) (eqb p y) e) (kept_more calls env S p v few h.0.small h.0.unknown)
      (kept_all ps (later_parts ws) (set env (place calls p) v) (S ∪ only p) few h.1)
