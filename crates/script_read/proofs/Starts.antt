-- The table that a walk over all functions marks: where the functions of a script stand.
use Rattle.prelude.specs.Kit.{ℕ, ◌≤◌, ◌+◌, ◌<◌, suc, zero, arith, ◌≡◌, refl, ◌∙◌, sym, ap, subst}
use Rattle.prelude.specs.Kit.{List, [], ◌∷◌, length, get_or, set, length-set, get_or-set_other}
use Rattle.prelude.specs.Kit.{get_or-set_same}
use Rattle.semantics.specs.Outcome.{Outcome, done, stop, times}
use Rattle.semantics.specs.Syntax.{Script, function_size}
use Rattle.semantics.specs.File.{function, finish, script, read_file}
use Rattle.script_read.specs.Told.{marked, mark_next, told}
use Rattle.script_read.specs.Told.{Read, Next, Refused}
use Rattle.script_read.specs.Starts.{start_of, Blank, Started, Started_by}
use Rattle.script_read.proofs.Nodes.{get_d_any}
use Rattle.script_read.proofs.Written.{After, after_bind, function_written}

-- a walk that goes from each function to the next
abbrev pub Walks : (ℕ → Read) → Script → ℕ → Type 0
Walks f [] p = Unit {0}
Walks f (g ∷ gs) p = (f p ≡ Next (p + function_size g)) × Walks f gs (p + function_size g)

module _ (f : ℕ → Read) where
  -- entries before i are kept
  marked_keeps : (gs : Script) (p i j : ℕ) (t : List ℕ) → Walks f gs p → j < i →
      get_or (marked (length gs) f p i t) j 1024 ≡ get_or t j 1024
  unfolding marked
  marked_keeps [] p i j t h l = refl
  marked_keeps (g ∷ gs) p i j t h l =
      rw h.0
      (marked_keeps gs (p + function_size g) (i + 1) j (set t i p) h.1 (omega arith)
      ∙ get_or-set_other t i j p 1024 (λ e. omega arith))

  pub marked_at : (gs : Script) (p i : ℕ) (t : List ℕ) → Walks f gs p → i + length gs ≤ length t →
      ((j : ℕ) → get_or t (i + j) 1024 ≡ 1024) → (j : ℕ) →
      get_or (marked (length gs) f p i t) (i + j) 1024 ≡ start_of gs p j
  unfolding marked
  marked_at [] p i t h l blank j = blank j
  marked_at (g ∷ gs) p i t h l blank zero =
      let e : i + 0 ≡ i = omega arith in
      rw (h.0, e)
      (marked_keeps gs (p + function_size g) (i + 1) i (set t i p) h.1 (omega arith)
      ∙ get_or-set_same t i p 1024 (omega arith))
  marked_at (g ∷ gs) p i t h l blank (suc j) =
      let e : i + suc j ≡ i + 1 + j = omega arith in
      rw (h.0, e)
      (marked_at gs (p + function_size g) (i + 1) (set t i p) h.1 (simp length-set (omega arith)) (λ m. still m) j)
    where
      still : (m : ℕ) → get_or (set t i p) (i + 1 + m) 1024 ≡ 1024
      still m =
          let e : i + 1 + m ≡ i + suc m = omega arith in
          get_or-set_other t i (i + 1 + m) p 1024 (λ x. omega arith) ∙ rw e (blank (suc m))

marked_length : (f : ℕ → Read) (n p i : ℕ) (t : List ℕ) → length (marked n f p i t) ≡ length t
unfolding marked
marked_length f zero p i t = refl
marked_length f (suc n) p i t = go (f p) (λ q u. marked_length f n q (i + 1) u)
  where
    go : (r : Read) → ((q : ℕ) (u : List ℕ) → length (marked n f q (i + 1) u) ≡ length u) →
        length (mark_next r (λ q. marked n f q (i + 1) (set t i p)) (set t i p)) ≡ length t
    go (Next q) h = h q (set t i p) ∙ simp length-set
    go (Refused m q) h = simp length-set

-- ---- the reader goes from each function to the next

-- an answer and where it goes on
told_too : {A : Type 0} (P : A → ℕ → Type 0) (o : Outcome ℕ A) → After P o → After (λ a q. P a q × (told o ≡ Next q)) o
told_too P (done a q) h = (h, refl)
told_too P (stop n q) h = tt

module _ (k w : List ℕ) where
  -- the reader's walk over functions
  abbrev reads : ℕ → Read
  reads p = told (function k w p)

  walks_so : (n p : ℕ) → After (λ gs q. Walks reads gs p × (length gs ≡ n)) (times n (function k w) p)
  unfolding times
  walks_so zero p = (tt, refl)
  walks_so (suc n) p =
      after_bind _ _ (function k w p) (told_too _ (function k w p) (function_written k w p)) λ g q h.
      after_bind _ _ (times n (function k w) q) (walks_so n q) λ gs r i.
      let e = h.0.1 in
      ((h.1 ∙ ap Next e, subst (λ s. Walks reads gs s) e i.0), ap suc i.1)

  script_walks : (n : ℕ) → After (λ gs q. Walks reads gs 0 × (length gs ≡ n)) (script k w n 0)
  unfolding script
  script_walks n =
      after_bind _ _ (times n (function k w) 0) (walks_so n 0) λ gs q h.
      after_bind {Q = λ u r. Unit {0}} _ _ (finish k w q) (always (finish k w q)) λ u r g. h
    where
      always : {A : Type 0} (o : Outcome ℕ A) → After (λ a q. Unit {0}) o
      always (done a q) = tt
      always (stop n q) = tt

  -- a blank table, marked by the reader
  pub started : (n : ℕ) (t t₀ : List ℕ) → n ≤ 32 → Blank t₀ → t ≡ marked n reads 0 0 t₀ →
      Started_by (script k w n 0) t
  started n t t₀ l b e = go (script k w n 0) (script_walks n)
    where
      go : (o : Outcome ℕ Script) → After (λ gs q. Walks reads gs 0 × (length gs ≡ n)) o → Started_by o t
      go (done gs q) h = record {
        long = ap length e ∙ marked_length reads n 0 0 t₀ ∙ b.long;
        at = λ f.
            let z : 0 + f ≡ f = omega arith in
            ap (λ (u : List ℕ). get_or u f 1024) (e ∙ ap (λ (m : ℕ). marked m reads 0 0 t₀) (sym h.1))
            ∙ (rw z at (marked_at reads gs 0 0 t₀ h.0 (omega (arith, h.1, b.long)) (λ j. b.at (0 + j)) f));
      }
      go (stop m q) h = tt

-- what is refused has no starts
not_started : (o : Outcome ℕ Script) (t : List ℕ) (n p : ℕ) → Refused n p ≡ told o → Started_by o t
not_started (done gs q) t n p e = let z : ◌≡◌ {A = ℕ} 0 1 = cc in absurd (omega arith)
not_started (stop m q) t n p e = tt

pub refused_so : (l t : List ℕ) {n p : ℕ} → Refused n p ≡ told (read_file l) →
    (Refused n p ≡ told (read_file l)) × Started_by (read_file l) t
refused_so l t {n} {p} e = (e, not_started (read_file l) t n p e)

-- the entries of a script's functions, whatever stands for the others
pub started_within : {fs : Script} {t : List ℕ} → Started fs t → length fs ≤ 32 → (j : ℕ) → j < length fs →
    get_or t j 0 ≡ start_of fs 0 j
started_within {fs} {t} s l j h = get_d_any t j 0 1024 (omega (arith, s.long)) ∙ s.at j
