-- Loops over nodes that follow one another.
use Rattle.prelude.specs.Kit.{ℕ, ◌+◌, ◌<◌, ◌-◌, suc, zero, arith, ◌≡◌, refl, ◌∙◌, sym, ap, List, set}
use Rattle.std.specs.Prelude.{Result, IsErrAnd}
use Rattle.std.proofs.lemmas.Result.{err_from_is_err_and}
use Rattle.answers.specs.Numbers.{number_of}
use Rattle.laws.specs.Tests.{no_equation}
use Rattle.script_read.specs.declared.Fault.{Fault}
use Rattle.script_read.specs.Told.{read_of}
use Rattle.script_read.specs.Told.{and_next, repeated, marked, mark_next}
use Rattle.script_read.specs.Told.{Read, Next, Refused}

pub less_one : (f : ℕ) → (f ≡ 0 → ⊥) → f ≡ suc (f - 1)
less_one zero h = absurd (h refl)
less_one (suc f) h = omega arith

-- a turn over the parts
repeated_step : (f : ℕ → Read) (c p : ℕ) → 0 < c → repeated c f p ≡ and_next (f p) (repeated (c - 1) f)
unfolding repeated
repeated_step f c p h = ap (λ (n : ℕ). repeated n f p) (less_one c (omega arith))

pub repeated_goes : (f : ℕ → Read) (c₀ c p₀ p q : ℕ) (r : Read) → repeated c₀ f p₀ ≡ repeated c f p → 0 < c →
    r ≡ f p → r ≡ Next q → repeated c₀ f p₀ ≡ repeated (c - 1) f q
repeated_goes f c₀ c p₀ p q r inv h e g = inv ∙ repeated_step f c p h
    ∙ ap (λ (x : Read). and_next x (repeated (c - 1) f)) (sym e ∙ g)

pub repeated_stops : (f : ℕ → Read) (c₀ c p₀ p n q : ℕ) (r : Read) → repeated c₀ f p₀ ≡ repeated c f p → 0 < c →
    r ≡ f p → r ≡ Refused n q → Refused n q ≡ repeated c₀ f p₀
repeated_stops f c₀ c p₀ p n q r inv h e g =
    sym (inv ∙ repeated_step f c p h ∙ ap (λ (x : Read). and_next x (repeated (c - 1) f)) (sym e ∙ g))

pub repeated_none : (f : ℕ → Read) (c p : ℕ) → c ≡ 0 → Next p ≡ repeated c f p
unfolding repeated
repeated_none f c p e = rw e

-- the last turn apart from those before
pub and_none : (r : Read) → and_next r (λ p. Next p) ≡ r
and_none (Next p) = refl
and_none (Refused n p) = refl

pub repeated_last : (f : ℕ → Read) (c p : ℕ) → repeated (suc c) f p ≡ and_next (repeated c f p) f
unfolding repeated
repeated_last f zero p = and_none (f p)
repeated_last f (suc c) p = go (f p) (λ q. repeated_last f c q)
  where
    go : (r : Read) → ((q : ℕ) → repeated (suc c) f q ≡ and_next (repeated c f q) f) →
        and_next r (repeated (suc c) f) ≡ and_next (and_next r (repeated c f)) f
    go (Next q) h = h q
    go (Refused n q) h = refl

-- ---- so many turns are done

module _ (f : ℕ → Read) where
  pub none_done : (p : ℕ) → repeated 0 f p ≡ Next p
  unfolding repeated
  none_done p = refl

  pub one_more : (i p₀ : ℕ) {p q : ℕ} → repeated i f p₀ ≡ Next p → Next q ≡ f p → repeated (i + 1) f p₀ ≡ Next q
  one_more i p₀ {p} e g =
      let s : i + 1 ≡ suc i = omega arith in
      rw (s, repeated_last f i p₀, e) (sym g)

  -- a refusal ends the walk, whatever turns are left
  refused_early : (i j p₀ n q : ℕ) → repeated i f p₀ ≡ Refused n q → repeated (i + j) f p₀ ≡ Refused n q
  unfolding repeated
  refused_early zero j p₀ n q e = no_equation cc
  refused_early (suc i) j p₀ n q e =
      let s : suc i + j ≡ suc (i + j) = omega arith in
      rw s (go (f p₀) (λ p. refused_early i j p n q) e)
    where
      go : (r : Read) → ((p : ℕ) → repeated i f p ≡ Refused n q → repeated (i + j) f p ≡ Refused n q) →
          and_next r (repeated i f) ≡ Refused n q → and_next r (repeated (i + j) f) ≡ Refused n q
      go (Next p) h e = h p e
      go (Refused m p) h e = e

  pub one_stops : (i c p₀ : ℕ) {p n q : ℕ} → repeated i f p₀ ≡ Next p → i < c → Refused n q ≡ f p →
      Refused n q ≡ repeated c f p₀
  one_stops i c p₀ {p} {n} {q} e l g =
      let s : suc i + (c - suc i) ≡ c = omega arith in
      sym (rw s at (refused_early (suc i) (c - suc i) p₀ n q (repeated_last f i p₀ ∙ (rw e (sym g)))))

-- a refusal that is passed on
pub passed_on : (r : Result ℕ Fault) (f : Fault) → IsErrAnd r (λ g. g ≡ f) →
    read_of r ≡ Refused (number_of f.refusal) f.node
passed_on r f e = let p = err_from_is_err_and r e in rw (p.1, p.2)

-- a turn that marks where it begins
marked_step : (f : ℕ → Read) (c p i : ℕ) (t : List ℕ) → 0 < c →
    marked c f p i t ≡ mark_next (f p) (λ q. marked (c - 1) f q (i + 1) (set t i p)) (set t i p)
unfolding marked
marked_step f c p i t h = ap (λ (n : ℕ). marked n f p i t) (less_one c (omega arith))

module _ (f : ℕ → Read) (c p i : ℕ) (t t₀ : List ℕ) (inv : t₀ ≡ marked c f p i t) where
  module _ (h : 0 < c) (r : Read) (e : r ≡ f p) where
    pub marked_goes : (q : ℕ) → r ≡ Next q → t₀ ≡ marked (c - 1) f q (i + 1) (set t i p)
    marked_goes q g =
        inv ∙ marked_step f c p i t h
        ∙ ap (λ (x : Read). mark_next x (λ q. marked (c - 1) f q (i + 1) (set t i p)) (set t i p)) (sym e ∙ g)

    pub marked_stops : (n q : ℕ) → r ≡ Refused n q → set t i p ≡ t₀
    marked_stops n q g =
        sym (inv ∙ marked_step f c p i t h
        ∙ ap (λ (x : Read). mark_next x (λ q. marked (c - 1) f q (i + 1) (set t i p)) (set t i p)) (sym e ∙ g))

  pub marked_ends : c ≡ 0 → t ≡ t₀
  unfolding marked
  marked_ends e = sym (inv ∙ rw e)
