-- Laws of the walk for names, in the terms of the code.
use Rattle.prelude.specs.Kit.{ℕ, ◌≤◌, ◌+◌, ◌<◌, ◌-◌, suc, zero, arith, true, false, Bool, ◌||◌, ◌≡◌, refl, ◌∙◌, sym, ap}
use Rattle.prelude.specs.Kit.{⊎_elim, List, eqb, length, get_or, set, replicate, ne_eqb, eq-eqb, eqb-true}
use Rattle.semantics.specs.File as S
use Rattle.semantics.specs.File.{at_function, at_parameter, at_part, look, node_at, part_count}
use Rattle.semantics.specs.Names.{Scope}
use Rattle.script_read.specs.Told.{node_outcome, parted, loops, second_name, repeated}
use Rattle.script_read.specs.Told.{Read, Next, Refused}
use Rattle.std.specs.Prelude.{Result, Err, IsErrAnd}
use Rattle.answers.specs.Numbers.{number_of}
use Rattle.script_read.specs.declared.Fault.{Fault}
use Rattle.script_read.specs.Told.{read_of}
use Rattle.script_read.proofs.Turns.{passed_on}
use Rattle.script_names.specs.Walk.{unknown_at}
use Rattle.script_read.specs.declared.Misfit.{Misfit}
use Rattle.script_read.proofs.Nodes.{Seen, unfit}
use Rattle.script_read.proofs.Sorts.{loop_parts}
use Rattle.script_read.proofs.Turns.{less_one}
use Rattle.script_read.proofs.Tables.{table_at, table_set, table_set_two, put_back_two, table_fresh}
use Rattle.script_names.specs.Walk.{scope, binds, calls_none, then_bound, named, names, named_parameter}
use Rattle.script_names.specs.Walk.{named_head, names_from, names_function}

-- a fault that names nothing known, as an answer and as it is passed on
pub unknown_told : (f : Fault) (p : ℕ) → f ≡ unknown_at p → Refused (number_of f.refusal) f.node ≡ Refused 6 p
unknown_told f p e = rw e

pub unknown_passed : (r : Result ℕ Fault) (f : Fault) (p : ℕ) → IsErrAnd r (λ g. g ≡ f) → f ≡ unknown_at p →
    read_of r ≡ Refused 6 p
unknown_passed r f p i e = passed_on r f i ∙ unknown_told f p e

pub no_levels : (k w : List ℕ) (F d : ℕ) (ρ : Scope) (p : ℕ) → d ≡ 0 → Refused 6 p ≡ names k w F d ρ p
unfolding names
no_levels k w F d ρ p e = rw e

module _ {k w : List ℕ} {p x y z : ℕ} (s : Seen k w at_part p x y z) (F d : ℕ) (ρ : Scope) (deep : d ≡ 0 → ⊥) where
  case : names k w F d ρ p ≡ named F (names k w F (d - 1)) ρ p x y z
  unfolding names
  case = ap (λ (n : ℕ). names k w F n ρ p) (less_one d deep) ∙ go (d - 1)
    where
      go : (n : ℕ) → names k w F (suc n) ρ p ≡ named F (names k w F n) ρ p x y z
      go n = rw (s.stands, ← s.same_kind, ← s.same_low, ← s.same_high)

  pub known_name : x ≡ 3 → ρ y ≡ true → Next (p + 1) ≡ names k w F d ρ p
  known_name e f = sym (case ∙ rw (eq-eqb x 3 e, f))

  pub unknown_name : x ≡ 3 → ρ y ≡ false → Refused 6 p ≡ names k w F d ρ p
  unknown_name e f = sym (case ∙ rw (eq-eqb x 3 e, f))

  module _ (e : x ≡ 3 → ⊥) where
    pub binding : binds x ≡ true → (n u : ℕ) → n ≡ part_count x y z → u ≡ second_name x y z → (r : Read) →
        r ≡ then_bound (names k w F (d - 1)) ρ y u (repeated (n - 1) (names k w F (d - 1) ρ) (p + 1)) →
        r ≡ names k w F d ρ p
    binding f n u i j r g = g ∙ sym (case ∙ rw (ne_eqb x 3 e, f, ← i, ← j))

    module _ (f : binds x ≡ false) where
      pub no_callee : calls_none F x y ≡ true → Refused 6 p ≡ names k w F d ρ p
      no_callee g = sym (case ∙ rw (ne_eqb x 3 e, f, g))

      pub others : calls_none F x y ≡ false → (n : ℕ) → n ≡ part_count x y z → (r : Read) →
          r ≡ repeated n (names k w F (d - 1) ρ) (p + 1) → r ≡ names k w F d ρ p
      others g n i r j = j ∙ sym (case ∙ rw (ne_eqb x 3 e, f, g, ← i))

-- no node fits
pub no_node : (k w : List ℕ) (F d : ℕ) (ρ : Scope) (p : ℕ) (m : Misfit) →
    node_outcome (Err m) p ≡ parted (look k w at_part p) →
    Refused 6 p ≡ names k w F d ρ p
unfolding names
no_node k w F zero ρ p m e = refl
no_node k w F (suc d) ρ p m e = ⊎_elim (λ g. rw g) (λ g. rw g) (unfit k w at_part p (Err m) e m refl).is

pub at_scope : (t : List Bool) (y : ℕ) (b : Bool) → get_or t y false ≡ b → scope t y ≡ b
at_scope t y b e = table_at false t y ∙ e

-- a node that binds has a part
pub last_part : (x y z n : ℕ) → binds x ≡ true → n ≡ part_count x y z → 1 ≤ n
unfolding part_count
last_part x y z n b e = go (eqb x 7) refl b
  where
    go : (t : Bool) → eqb x 7 ≡ t → (t || loops x) ≡ true → 1 ≤ n
    go true h l = rw (e, eqb-true x 7 h) (omega arith)
    go false h l = omega (arith, e, loop_parts x y z l)

-- a binding by the parts before the last: two names changed and put back
module _ (m : Scope → ℕ → Read) (t : List Bool) (x y c p : ℕ) where
  abbrev Binds : Read → Type 0
  Binds r = r ≡ then_bound m (scope t) x y (repeated c (m (scope t)) p)

  pub rebound : (t₁ t₂ : List Bool) (q : ℕ) (r₂ : Read) → length t ≡ 256 → x < 256 → y < 256 → t₁ ≡ t →
      t₂ ≡ set (set t₁ x true) y true → Next q ≡ repeated c (m (scope t)) p →
      r₂ ≡ m (scope (set (set t₁ x true) y true)) q →
      Binds r₂ × (set (set t₂ y (get_or (set t₁ x true) y false)) x (get_or t₁ x false) ≡ t)
  rebound t₁ t₂ q r₂ l h i e f g k = (
    rw (← g)
        (k ∙ ap (λ (u : List Bool). m (scope (set (set u x true) y true)) q) e
        ∙ ap (λ (ρ : Scope). m ρ q) (table_set_two false t x y true true (omega arith) (omega arith))),
    put_back_two false t t₁ t₂ x y true true e f,
  )

  pub unbound : (n q : ℕ) → Refused n q ≡ repeated c (m (scope t)) p → Binds (Refused n q)
  unbound n q g = rw (← g)

-- parameters
module _ (k w : List ℕ) (F : ℕ) where
  from_step : (c : ℕ) (ρ : Scope) (p : ℕ) → 0 < c →
      names_from k w F c ρ p ≡ named_parameter (names_from k w F (c - 1)) ρ p (node_at k w at_parameter p)
  unfolding names_from
  from_step c ρ p h = ap (λ (n : ℕ). names_from k w F n ρ p) (less_one c (omega arith))

  module _ (r : Read) (c p : ℕ) (t : List Bool) (inv : r ≡ names_from k w F c (scope t) p) (h : 0 < c) where
    pub parameter_known : {x y z : ℕ} → Seen k w at_parameter p x y z → get_or t y false ≡ true → Refused 6 p ≡ r
    parameter_known {x} {y} {z} s e =
        sym (inv ∙ from_step c (scope t) p h ∙ rw (s.stands, s.same_low, at_scope t y true e))

    pub parameter_new : {x y z : ℕ} → Seen k w at_parameter p x y z → length t ≡ 256 → y < 256 →
        get_or t y false ≡ false →
        r ≡ names_from k w F (c - 1) (scope (set t y true)) (p + 1)
    parameter_new {x} {y} {z} s l b e =
        inv ∙ from_step c (scope t) p h ∙ ap
        (λ (v : S.Node). named_parameter (names_from k w F (c - 1)) (scope t) p v)
        s.stands ∙ go
      where
        go : named_parameter (names_from k w F (c - 1)) (scope t) p (S.fits s.node) ≡ names_from k w F (c - 1)
            (scope (set t y true)) (p + 1)
        go = rw (s.same_low, at_scope t y false e, table_set false t y true (omega arith))

    pub parameter_none : (m : Misfit) → node_outcome (Err m) p ≡ parted (look k w at_parameter p) → Refused 6 p ≡ r
    parameter_none m e =
        sym (inv ∙ from_step c (scope t) p h
        ∙ ⊎_elim (λ g. rw g) (λ g. rw g) (unfit k w at_parameter p (Err m) e m refl).is)

  pub body_next : (r : Read) (c : ℕ) (ρ : Scope) (p : ℕ) → c ≡ 0 → r ≡ names k w F 64 ρ p → r ≡ names_from k w F c ρ p
  unfolding names_from
  body_next r c ρ p e f = rw e f

  pub function_next : {p x y z : ℕ} → Seen k w at_function p x y z → (r : Read) →
      r ≡ names_from k w F y (scope (replicate 256 false)) (p + 1) → r ≡ names_function k w F p
  unfolding names_function
  function_next {p} {x} {y} {z} s r e = e ∙ ap (λ (ρ : Scope). names_from k w F y ρ (p + 1)) (table_fresh false 256)
      ∙ sym go
    where
      go : named_head (names_from k w F) p (node_at k w at_function p) ≡ names_from k w F y (λ x. false) (p + 1)
      go = rw (s.stands, s.same_low)

  pub function_none : (p : ℕ) (m : Misfit) → node_outcome (Err m) p ≡ parted (look k w at_function p) →
      Refused 6 p ≡ names_function k w F p
  unfolding names_function
  function_none p m e = ⊎_elim (λ g. rw g) (λ g. rw g) (unfit k w at_function p (Err m) e m refl).is
