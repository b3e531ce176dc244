-- A table that is changed at one name or two and put back.
use Rattle.prelude.specs.Kit.{ℕ, ◌<◌, suc, zero, true, false, Bool, cond, ◌≡◌, refl, ◌∙◌, sym, ap, fun_ext, List, eqb}
use Rattle.prelude.specs.Kit.{length, get_or, set, replicate, get_or-set_other, get_or-set_same, set-get_or, set-set}
use Rattle.prelude.specs.Kit.{lt-length-set, eqb-true, eqb-false}
use Rattle.semantics.specs.Basics.{updated}
use Rattle.script_read.specs.Table.{table}

-- a name that is changed twice
pub updated_twice : {A : Type 0} (f : ℕ → A) (x : ℕ) (a b : A) → updated (updated f x a) x b ≡ updated f x b
unfolding updated
updated_twice f x a b = fun_ext λ y. go y (eqb x y)
  where
    go : (y : ℕ) (t : Bool) → cond t b (cond t a (f y)) ≡ cond t b (f y)
    go y true = refl
    go y false = refl

module _ {A : Type 0} (d : A) where
  pub table_at : (t : List A) (x : ℕ) → table d t x ≡ get_or t x d
  unfolding table
  table_at t x = refl

  pub table_set : (t : List A) (x : ℕ) (v : A) → x < length t → table d (set t x v) ≡ updated (table d t) x v
  unfolding table updated
  table_set t x v h = fun_ext λ y. go y (eqb x y) refl
    where
      other : (y : ℕ) → (x ≡ y → ⊥) → y ≡ x → ⊥
      other y f e = f (sym e)

      go : (y : ℕ) (b : Bool) → eqb x y ≡ b → get_or (set t x v) y d ≡ cond b v (get_or t y d)
      go y true e = rw (← eqb-true x y e, get_or-set_same t x v d h)
      go y false e = get_or-set_other t x y v d (other y (eqb-false x y e))

  -- the old entry, put back
  pub put_back : (t t₁ t₂ : List A) (x : ℕ) (v : A) → t₁ ≡ t → t₂ ≡ set t₁ x v → set t₂ x (get_or t₁ x d) ≡ t
  put_back t t₁ t₂ x v e f = rw (f, e) (set-set t x v (get_or t x d) ∙ set-get_or t x d)

  -- two names: the second is changed last and put back first, so that an equal first one is right
  pub table_set_two : (t : List A) (x y : ℕ) (u v : A) → x < length t → y < length t →
      table d (set (set t x u) y v) ≡ updated (updated (table d t) x u) y v
  table_set_two t x y u v h g =
      table_set (set t x u) y v (lt-length-set t x u g)
      ∙ ap (λ (f : ℕ → A). updated f y v) (table_set t x u h)

  pub put_back_two : (t t₁ t₂ : List A) (x y : ℕ) (u v : A) → t₁ ≡ t → t₂ ≡ set (set t₁ x u) y v →
      set (set t₂ y (get_or (set t₁ x u) y d)) x (get_or t₁ x d) ≡ t
  put_back_two t t₁ t₂ x y u v e f =
      put_back t t₁ _ x u e (put_back (set t₁ x u) (set t₁ x u) t₂ y v refl f)

  pub none_set : (n y : ℕ) → get_or (replicate n d) y d ≡ d
  none_set zero y = refl
  none_set (suc n) zero = refl
  none_set (suc n) (suc y) = none_set n y

  -- a fresh table
  pub table_fresh : (n : ℕ) → table d (replicate n d) ≡ (λ _. d)
  unfolding table
  table_fresh n = fun_ext λ y. none_set n y
