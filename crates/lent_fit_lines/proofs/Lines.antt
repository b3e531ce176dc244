-- Lines without trees and ends, one law for each way out of the code.
use Rattle.prelude.specs.Kit.{ℕ, ◌≤◌, ◌+◌, ◌<◌, suc, arith, true, false, Bool, cond, not, ◌≡◌, refl, ◌∙◌, sym, ap, some}
use Rattle.prelude.specs.Kit.{none, Option, List, [], ◌∷◌, eqb, ℤ, pos, length, get_or, get_or-eq_default, take}
use Rattle.prelude.specs.Kit.{lt-ltb, le-ltb, not-true, not-false}
use Rattle.semantics.specs.Outcome.{Outcome, done, stop}
use Rattle.semantics.specs.Live.{Set}
use Rattle.semantics.specs.Types.{call_rule, same, some_if}
use Rattle.semantics_lent.specs.Fit.{Bound, with_name}
use Rattle.std.specs.Prelude.{Some, None, Result, Ok}
use Rattle.script_rules.specs.Rules.{judged_outcome, rule_outcome}
use Rattle.lent_form.specs.declared.Fault.{Fault}
use Rattle.lent_form.specs.Told.{faulty}
use Rattle.lent_fit_lines.specs.Walk.{depths_of, bound_of, Opened, Lines, told_line, first_at, second_at}
use Rattle.lent_fit_lines.specs.Walk.{depths_from, signature_at, atoms_from, Gathered, count_at, rule_at, placed}
use Rattle.lent_fit_lines.specs.Walk.{binds, noted, leaf_fits, plain_fits}

-- ---- rules

pub take_one : (ds : List ℕ) → 1 ≤ length ds → take 1 ds ≡ get_or ds 0 0 ∷ []
take_one [] h = absurd (let z : ⊥ = omega arith in z)
take_one (d ∷ ds) h = refl

pub take_two : (ds : List ℕ) → 2 ≤ length ds → take 2 ds ≡ get_or ds 0 0 ∷ get_or ds 1 0 ∷ []
take_two [] h = absurd (let z : ⊥ = omega arith in z)
take_two (d ∷ []) h = absurd (let z : ⊥ = omega arith in z)
take_two (d ∷ e ∷ ds) h = refl

module _ (O : List ℤ) (n : ℕ) (ds : List ℕ) (start : ℕ) (count : n ≡ first_at O start) where
  pub call_past : length O ≤ start → call_rule (signature_at O start) (take n ds) ≡ some 0
  unfolding signature_at depths_from first_at second_at
  call_past h =
      let e : get_or O start (pos 0) ≡ pos 0 = get_or-eq_default O (pos 0) h in
      let z : n ≡ 0 = count ∙ rw e in
      rw (z, e)

  pub call_by : call_rule (signature_at O start) (take n ds)
      ≡ some_if (same (depths_from O n (start + 1)) (take n ds)) (second_at O start)
  unfolding signature_at
  call_by = rw count

-- ---- leaves

placed_none : (m : Option ℕ) (x n : ℕ) (N : Bound) (p : ℕ) → stop 7 tt ≡ rule_outcome m → placed m x n N p ≡ stop 29 p
placed_none none x n N p i = refl
placed_none (some d) x n N p i = let z : ◌≡◌ {A = ℕ} 0 1 = cc in absurd (omega arith)

placed_some : (m : Option ℕ) (d x n : ℕ) (N : Bound) (p : ℕ) → done d tt ≡ rule_outcome m →
    placed m x n N p ≡ cond (N.names x) (stop 29 p) (done (with_name x d N) (p + 1 + n))
placed_some none d x n N p i = let z : ◌≡◌ {A = ℕ} 0 1 = cc in absurd (omega arith)
placed_some (some e) d x n N p i =
    let h : d ≡ e = cc in
    let z : p + suc n ≡ p + 1 + n = omega arith in
    rw (h, z)

module _ (K : List ℕ) (O : List ℤ) (starts : List ℕ) (kind : ℕ) (S : Set) (N : Bound) (p n : ℕ)
    (count : n ≡ count_at O starts kind p) where
  pub leaf_many : 16 < n → leaf_fits K O starts kind S N p ≡ stop 29 p
  unfolding leaf_fits
  leaf_many h = rw (← count, lt-ltb 16 n h)

  module _ (h : n ≤ 16) where
    pub leaf_out : Gathered S N.depths (atoms_from K O n (p + 1)) n None →
        leaf_fits K O starts kind S N p ≡ stop 29 p
    unfolding leaf_fits
    leaf_out found = rw (← count, le-ltb 16 n h, ← found.is)

    module _ (ds : List ℕ) (found : Gathered S N.depths (atoms_from K O n (p + 1)) n (Some ds)) where
      leaf_ruled : leaf_fits K O starts kind S N p
          ≡ placed (rule_at O starts kind p (take n ds)) (first_at O p) n N p
      unfolding leaf_fits
      leaf_ruled = rw (← count, le-ltb 16 n h, ← found.is, ← found.depths.0)

      pub leaf_broken : judged_outcome None ≡ rule_outcome (rule_at O starts kind p (take n ds)) →
          leaf_fits K O starts kind S N p ≡ stop 29 p
      leaf_broken judged = leaf_ruled ∙ placed_none (rule_at O starts kind p (take n ds)) (first_at O p) n N p judged

      pub leaf_placed : (d : ℕ) → judged_outcome (Some d) ≡ rule_outcome (rule_at O starts kind p (take n ds)) →
          leaf_fits K O starts kind S N p
          ≡ cond (N.names (first_at O p)) (stop 29 p) (done (with_name (first_at O p) d N) (p + 1 + n))
      leaf_placed d judged =
          leaf_ruled ∙ placed_some (rule_at O starts kind p (take n ds)) d (first_at O p) n N p judged

-- where the name of a leaf is bound if it is new
module _ {o : Outcome ℕ Bound} (b₀ : List Bool) (g₀ : List ℕ) (x d p q : ℕ)
    (placed : o ≡ cond (get_or b₀ x false) (stop 29 p) (done (with_name x d (bound_of b₀ g₀)) q)) (y : ℕ) (e : y ≡ x)
    {b : List Bool} {g : List ℕ} where
  pub leaf_bound : Opened (not (get_or b₀ y false)) (with_name y d (bound_of b₀ g₀)) true b g → Lines o (Ok q) b g
  leaf_bound opened = record {
    is = placed ∙ rw (← e, not-true (get_or b₀ y false) (sym opened.is))
        (ap (λ (N : Bound). done N q) (sym (opened.gives refl)));
    long = opened.long;
    deep = opened.deep;
  }

  pub leaf_again : Opened (not (get_or b₀ y false)) (with_name y d (bound_of b₀ g₀)) false b g → Lines o (faulty p) b g
  leaf_again opened = record {
    is = placed ∙ rw (← e, not-false (get_or b₀ y false) (sym opened.is));
    long = opened.long;
    deep = opened.deep;
  }

-- ---- leaves and notes

module _ (K : List ℕ) (O : List ℤ) (starts : List ℕ) (kind : ℕ) (S : Set) (b : List Bool) (g : List ℕ) (p : ℕ) where
  pub plain_leaf : binds kind ≡ true →
      plain_fits K O starts kind S (bound_of b g) p ≡ leaf_fits K O starts kind S (bound_of b g) p
  unfolding plain_fits
  plain_leaf e = rw e

  pub plain_note : binds kind ≡ false → (r : Result ℕ Fault) → r ≡ noted S (depths_of g) (first_at O p) p →
      plain_fits K O starts kind S (bound_of b g) p ≡ told_line r b g
  unfolding plain_fits
  plain_note e r f = rw (e, f) (go (S (first_at O p)) (eqb (get_or g (first_at O p) 0) 0))
    where
      go : (u v : Bool) → cond u (cond v (stop 29 p) (done (bound_of b g) (p + 1))) (stop 29 p)
          ≡ told_line (cond u (cond v (faulty p) (Ok (p + 1))) (faulty p)) b g
      go true true = refl
      go true false = refl
      go false v = refl

pub ruleset call_laws = (call_past, call_by)

pub ruleset leaf_laws = (leaf_many, leaf_out, leaf_broken)

pub ruleset plain_laws = (plain_leaf, plain_note)
