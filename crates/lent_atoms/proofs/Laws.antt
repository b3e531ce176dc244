-- One law for each way out.
use Rattle.prelude.specs.Kit.{ℕ, ◌+◌, ◌<◌, ◌-◌, suc, arith, true, false, ◌≡◌, ◌≢◌, refl, sym, List, [], ◌∷◌, ltb}
use Rattle.prelude.specs.Kit.{length, get_or, set, length-set, lt-ltb, le-ltb}
use Rattle.semantics.specs.Outcome.{done, onward, require}
use Rattle.semantics.specs.Code.{number, name}
use Rattle.semantics.specs.Annotate.{NameDepths, is_array}
use Rattle.semantics_lent.specs.Hold.{hold_also, spend}
use Rattle.lent_counts.specs.Counted.{counted}
use Rattle.lent_counts.proofs.Laws.{plus_in, minus_in}
use Rattle.machine_code.specs.Reading.{depth_in}
use Rattle.lent_atoms.specs.Told.{depths, told}

pub depth_known : (table : List ℕ) (f x : ℕ) → x < 256 → ltb 0 (depth_in table f x) ≡ is_array (depths table f) x
unfolding depths
depth_known table f x h = rw (lt-ltb x 256 h) refl

module _ (Γ : NameDepths) (x : ℕ) (l : List ℕ) where
  pub gain_array : true ≡ is_array Γ x → x < length l →
      counted (set l x (get_or l x 0 + 1)) ≡ hold_also Γ x (counted l)
  gain_array e h = rw (← e) (plus_in l x h)

  pub spend_number : false ≡ is_array Γ x → spend Γ (name x ∷ []) (counted l) ≡ told true l
  unfolding spend onward
  spend_number e = rw (← e) refl

  pub spend_none : true ≡ is_array Γ x → get_or l x 0 ≡ 0 → spend Γ (name x ∷ []) (counted l) ≡ told false l
  unfolding spend onward require
  spend_none e z = rw (← e, le-ltb 0 (get_or l x 0) (omega (arith, z))) refl

  pub spend_some : true ≡ is_array Γ x → get_or l x 0 ≢ 0 → x < length l →
      spend Γ (name x ∷ []) (counted l) ≡ told true (set l x (get_or l x 0 - 1))
  unfolding spend onward require
  spend_some e z h =
      rw (← e, lt-ltb 0 (get_or l x 0) (omega (arith, z)))
      (λ i p. done (sym (minus_in l x h (get_or l x 0 - 1) (omega (arith, z))) i) p)

pub spend_nothing : (Γ : NameDepths) (l : List ℕ) (a : _) → spend Γ (number a ∷ []) (counted l) ≡ told true l
unfolding spend
spend_nothing Γ l a = refl

-- the laws of an atom that is handed over
pub ruleset spend_laws = (spend_number, spend_none, spend_some, spend_nothing, length-set)

-- the laws of a name that holds one more
pub ruleset gain_laws = (gain_array, length-set)
