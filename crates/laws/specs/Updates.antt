-- A function changed at one number.
use Rattle.std.specs.Prelude.{ℕ, ◌≡◌, refl, ◌≢◌}
use Rattle.prelude.specs.Kit.{sym, ne_eqb, eq-eqb}
use Rattle.semantics.specs.Basics.{updated}

pub updated_same : {A : Type 0} (f : ℕ → A) (x : ℕ) (a : A) → updated f x a x ≡ a
unfolding updated
updated_same f x a = rw (eq-eqb x x refl)

pub updated_other : {A : Type 0} (f : ℕ → A) (x : ℕ) (a : A) (y : ℕ) → x ≢ y → updated f x a y ≡ f y
unfolding updated
updated_other f x a y h = rw (ne_eqb x y h)

pub updated_there : {A : Type 0} (f : ℕ → A) (x : ℕ) (a : A) (y : ℕ) → y ≢ x → updated f x a y ≡ f y
updated_there f x a y h = updated_other f x a y (λ e. h (sym e))
