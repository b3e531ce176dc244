-- Walks over lines: one that goes over n lines, and has these below a bound, stops at no line past it.
use Rattle.std.specs.Prelude.{ℕ, ◌≤◌, ◌+◌, true, false, Bool, cond}
use Rattle.prelude.specs.Kit.{arith}
use Rattle.semantics.specs.Outcome.{◌>>=◌, give}
use Rattle.semantics_lent.specs.Form.{Test, must, skip}
use Rattle.lent_stops.specs.Stops.{StopsBy, StopsAtMost, stops_then, stops_test, stops_more}

-- at least so many lines are left below the bound
abbrev pub LinesLeft : {A : Type 0} → ℕ → ℕ → A → ℕ → Type 0
LinesLeft m more a q = q + more ≤ m

-- a run over n lines: where these and some more are left, it leaves those more
abbrev pub Walks : {A : Type 0} → ℕ → ℕ → Test A → Type 0
Walks m n run = (more s : ℕ) → s + (n + more) ≤ m → StopsBy m (LinesLeft m more) (run s)

pub walks_then : {A B : Type 0} (m n k l : ℕ) (run : Test A) (f : A → Test B) → n + k ≤ l → Walks m n run →
    ((a : A) → Walks m k (f a)) → Walks m l (run >>= f)
walks_then m n k l run f h first next more s e =
    stops_then m (LinesLeft m (k + more)) (LinesLeft m more) f (run s) (first (k + more) s (omega (arith, h, e)))
    (λ a q g. next a more q g)

-- a test takes no line
pub walks_test : {A : Type 0} (m n : ℕ) (b : Bool) (f : Unit {0} → Test A) → Walks m n (f tt) → Walks m n (must b >>= f)
walks_test m n b f next more s e = stops_test m (LinesLeft m more) b s f (omega (arith, e)) (next more s e)

pub walks_skip : {A : Type 0} (m n k l : ℕ) (f : Unit {0} → Test A) → n + k ≤ l → Walks m k (f tt) →
    Walks m l (skip n >>= f)
walks_skip m n k l f h next = walks_then m n k l (skip n) f h (λ more s e. omega (arith, e)) (λ u. next)

-- it takes no line either, whatever is given
pub walks_give : (m n : ℕ) → Walks {A = Unit {0}} m n (give tt)
walks_give m n more s e = omega (arith, e)

pub walks_either : {A : Type 0} (m n : ℕ) (b : Bool) (first second : Test A) → Walks m n first → Walks m n second →
    Walks m n (cond b first second)
walks_either m n true first second h g = h
walks_either m n false first second h g = g

-- a walk by itself, from line 0
pub walks_whole : {A : Type 0} (m n : ℕ) (run : Test A) → n ≤ m → Walks m n run → StopsAtMost m (run 0)
walks_whole m n run h walks =
    stops_more m m (LinesLeft m 0) _ (run 0) (omega arith) (walks 0 0 (omega (arith, h))) (λ a q g. tt)
