-- The bodies of an accepted script's functions have at most 64 levels.
use Rattle.std.specs.Prelude.{ℕ, ◌≤◌, ◌+◌, suc, zero, ◌*◌, true, false, Bool, cond, ◌&&◌, ◌≡◌, refl, List, [], ◌∷◌}
use Rattle.std.specs.Prelude.{eqb, ltb, leb, length, take, drop}
use Rattle.prelude.specs.Kit.{arith, false≢true, ap, subst, some, none, Option, leb-true}
use Rattle.semantics.specs.Outcome.{Outcome, done, stop, onward, ◌>>=◌, ◌>>◌, give, times}
use Rattle.semantics.specs.Number.{bytes_at}
use Rattle.semantics.specs.Syntax as S
use Rattle.semantics.specs.Syntax.{Expr, exprs_of, Function, Script}
use Rattle.semantics.specs.File as F
use Rattle.semantics.specs.File.{Head, Read, look, Shape, none, leaf_of, loop_of, shape_of, shaped, parts, part}
use Rattle.semantics.specs.File.{part_count, parameter, function, finish, script, read_file, at_part, between}
use Rattle.semantics.specs.Names.{name_faults}
use Rattle.semantics.specs.Types.{type_faults}
use Rattle.semantics.specs.Normal.{too_many_names}
use Rattle.semantics.specs.Calls.{Verdict, accepted, refused, judged_script, judged_read, judged}
use Rattle.lent_passing.specs.Ends.{Ends, ends_then, ends_more}
use Rattle.lent_passing.specs.NormalOnce.{Levelled, AllLevelled}

-- every answer of a run
abbrev Every : {A : Type 0} → (A → Type 0) → Read A → Type 0
Every P m = (s : ℕ) → Ends (λ a t. P a) (m s)

any_end : {A : Type 0} (o : Outcome ℕ A) → Ends (λ a t. Unit {0}) o
any_end (done a t) = tt
any_end (stop n t) = tt

every : {A : Type 0} (m : Read A) → Every (λ _. Unit {0}) m
every m s = any_end (m s)

every_then : {A B : Type 0} (P : A → Type 0) (Q : B → Type 0) (m : Read A) (f : A → Read B) → Every P m →
    ((a : A) → P a → Every Q (f a)) → Every Q (m >>= f)
every_then P Q m f h g s = ends_then (λ a t. P a) (λ b t. Q b) f (m s) (h s) (λ a t k. g a k t)

abbrev pub AllOf : {A : Type 0} → (A → Type 0) → List A → Type 0
AllOf P [] = Unit {0}
AllOf P (a ∷ l) = P a × AllOf P l

-- n answers
abbrev Many : {A : Type 0} → (A → Type 0) → ℕ → List A → Type 0
Many P n l = (length l ≡ n) × AllOf P l

every_times : {A : Type 0} (P : A → Type 0) (m : Read A) (n : ℕ) → Every P m → Every (Many P n) (times n m)
unfolding times
every_times P m zero h = λ s. (refl, tt)
every_times P m (suc n) h =
    every_then P (Many P (suc n)) m _ h (λ a p.
    every_then (Many P n) (Many P (suc n)) (times n m) _ (every_times P m n h)
    (λ l q s. (ap suc q.0, (p, q.1))))

all_levelled : (n : ℕ) (es : List Expr) → AllOf (Levelled n) es → AllLevelled n (exprs_of es)
all_levelled n [] h = tt
all_levelled n (e ∷ es) h = (h.0, all_levelled n es h.1)

module _ (n : ℕ) (m : Read Expr) (inner : Every (Levelled n) m) where
  shaped_levelled : (c : ℕ) (s : Shape) → Every (Levelled (suc n)) (shaped m c s)
  shaped_levelled c F.none = λ s. tt
  shaped_levelled c (leaf_of l) =
      every_then (Many (Levelled n) c) (Levelled (suc n)) (times c m) _ (every_times (Levelled n) m c inner)
      (λ es p s. (omega arith, all_levelled n es p.1))
  shaped_levelled c (loop_of k xs i) =
      every_then (Many (Levelled n) i) (Levelled (suc n)) (times i m) _ (every_times (Levelled n) m i inner)
      (λ es p. every_then (Levelled n) (Levelled (suc n)) m _ inner
      (λ b q s. (omega arith, (all_levelled n es p.1, q))))

  parts_levelled : (h : Head) → Every (Levelled (suc n)) (parts m h)
  unfolding parts
  parts_levelled h = go (eqb h.kind 2) (eqb h.kind 3) (eqb h.kind 7) (eqb h.kind 12)
    where
      others : Read Expr
      others = shaped m (part_count h.kind h.low h.high) (shape_of h)

      go : (a b c d : Bool) → Every (Levelled (suc n)) (cond a (give (S.number h.value))
          (cond b (give (S.name h.low))
          (cond c (m >>= λ x. m >>= λ y. give (S.let_in h.low x y))
          (cond d (m >>= λ x. m >>= λ y. m >>= λ z. give (S.if_else x y z)) others))))
      go true b c d = λ s. omega arith
      go false true c d = λ s. omega arith
      go false false true d =
          every_then (Levelled n) (Levelled (suc n)) m _ inner (λ x p.
          every_then (Levelled n) (Levelled (suc n)) m _ inner (λ y q s. (omega arith, (p, q))))
      go false false false true =
          every_then (Levelled n) (Levelled (suc n)) m _ inner (λ x p.
          every_then (Levelled n) (Levelled (suc n)) m _ inner (λ y q.
          every_then (Levelled n) (Levelled (suc n)) m _ inner (λ z r s. (omega arith, (p, (q, r))))))
      go false false false false = shaped_levelled (part_count h.kind h.low h.high) (shape_of h)

-- a function whose body has at most 64 levels
abbrev pub Bodied : Function → Type 0
Bodied g = Levelled 64 g.body

module _ (kinds operands : List ℕ) where
  part_levelled : (n : ℕ) → Every (Levelled n) (part kinds operands n)
  unfolding part onward
  part_levelled zero =
      every_then (λ _. Unit {0}) (Levelled 0) (look kinds operands at_part) _ (every (look kinds operands at_part))
      (λ h p s. tt)
  part_levelled (suc n) =
      every_then (λ _. Unit {0}) (Levelled (suc n)) (look kinds operands at_part) _
      (every (look kinds operands at_part))
      (λ h p s. parts_levelled n (part kinds operands n) (part_levelled n) h (suc s))

  function_levelled : Every Bodied (function kinds operands)
  unfolding function onward
  function_levelled =
      every_then (λ _. Unit {0}) Bodied (look kinds operands F.at_function) _
      (every (look kinds operands F.at_function))
      (λ h p s. every_then (λ _. Unit {0}) Bodied (times h.low (parameter kinds operands)) _
      (every (times h.low (parameter kinds operands))) (λ xs q.
      every_then (Levelled 64) Bodied (part kinds operands 64) _ (part_levelled 64) (λ e r s. r)) (suc s))

  script_levelled : (count : ℕ) → Every (Many Bodied count) (script kinds operands count)
  unfolding script
  script_levelled count =
      every_then (Many Bodied count) (Many Bodied count) (times count (function kinds operands)) _
      (every_times Bodied (function kinds operands) count function_levelled) (λ fs p.
      every_then (λ _. Unit {0}) (Many Bodied count) (finish kinds operands) _ (every (finish kinds operands))
      (λ u q s. p))

-- a script of at most 32 functions, whose bodies have at most 64 levels
pub record Limits (fs : Script) : Type 0 where
  pub many : length fs ≤ 32
  pub bodies : AllOf Bodied fs

file_levelled : (file : List ℕ) → Ends (λ fs p. Limits fs) (read_file file)
unfolding read_file
file_levelled file = go (ltb (length file) 4) (between 1 32 functions) refl (between 1 1024 nodes)
    (eqb (length file) (4 + 9 * nodes))
  where
    functions : ℕ
    functions = bytes_at 2 file 0

    nodes : ℕ
    nodes = bytes_at 2 file 2

    both : (a b : Bool) → (a && b) ≡ true → b ≡ true
    both true b e = e
    both false b e = absurd (false≢true e)

    go : (a b : Bool) → between 1 32 functions ≡ b → (n c : Bool) → Ends (λ fs p. Limits fs)
        (cond a (stop 1 0) (cond (b && n) (cond c
        (script (take nodes (drop 4 file)) (drop (4 + nodes) file) functions 0) (stop 1 0)) (stop 2 0)))
    go true b e n c = tt
    go false true e true true =
        ends_more (λ fs p. Many Bodied functions fs) (λ fs p. Limits fs)
        (script (take nodes (drop 4 file)) (drop (4 + nodes) file) functions 0)
        (script_levelled (take nodes (drop 4 file)) (drop (4 + nodes) file) functions 0) (λ fs p h. record {
          many = omega (arith, h.0, leb-true functions 32 (both (leb 1 functions) (leb functions 32) e));
          bodies = h.1;
        })
    go false true e true false = tt
    go false true e false c = tt
    go false false e n c = tt

script_of : Verdict → Script
script_of (accepted fs) = fs
script_of (refused n p) = []

says_accepted : Verdict → Bool
says_accepted (accepted fs) = true
says_accepted (refused n p) = false

pub judged_levelled : (file : List ℕ) (fs : Script) → judged file ≡ accepted fs → Limits fs
unfolding judged script_of says_accepted
judged_levelled file fs = go (read_file file) (file_levelled file)
  where
    pick : (gs : Script) → Limits gs → (ps qs : List ℕ) (o : Option ℕ) →
        judged_script gs ps qs o ≡ accepted fs → Limits fs
    pick gs h [] [] none e = subst Limits (ap script_of e) h
    pick gs h [] [] (some p) e = absurd (false≢true (ap says_accepted e))
    pick gs h [] (q ∷ qs) o e = absurd (false≢true (ap says_accepted e))
    pick gs h (p ∷ ps) qs o e = absurd (false≢true (ap says_accepted e))

    go : (o : Outcome ℕ Script) → Ends (λ gs p. Limits gs) o → judged_read o ≡ accepted fs → Limits fs
    go (done gs p) h e = pick gs h (name_faults gs) (type_faults gs) (too_many_names gs) e
    go (stop n p) h e = absurd (false≢true (ap says_accepted e))
