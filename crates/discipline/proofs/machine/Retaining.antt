-- A word retained: it holds one reference more, if it stands for an array.
use Rattle.prelude.specs.Kit.{ℕ, ◌+◌, ◌<◌, suc, zero, arith, ◌≡◌, refl, List, [], ◌∷◌, ◌++◌, ℤ}
use Rattle.semantics.specs.Basics.{occurrences}
use Rattle.semantics.specs.Outcome.{done}
use Rattle.semantics.specs.Meaning.{Meter}
use Rattle.semantics.specs.Machine.{State, touching, with_store, retain_word, if_array}
use Rattle.semantics.specs.Store.{Store, cell, cell_of, named_by, retained}
use Rattle.semantics.specs.Sound.{all_inner}
use Rattle.discipline.proofs.store.Invariant.{Invariant, Alike}
use Rattle.discipline.proofs.store.Kept.{alike_self}
use Rattle.discipline.proofs.store.Retain.{Retains, retain}
use Rattle.discipline.proofs.machine.Agreement.{Start, Together}
use Rattle.discipline.proofs.machine.Frames.{Room}
use Rattle.discipline.proofs.machine.Situations.{touch_together}

-- the state once a word is retained
abbrev pub retained_state : ℤ → State → State
retained_state w s = with_store s (retained (cell_of w) s.store) (touching s.store (cell_of w))

-- the same for a word of depth d, which may be a number
abbrev pub retained_array : ℕ → ℤ → State → State
retained_array zero w s = s
retained_array (suc d) w s = retained_state w s

pub retains_array : (d : ℕ) (w : ℤ) (s : State) → if_array d (retain_word w) s ≡ done tt (retained_array d w s)
unfolding retain_word
retains_array zero w s = refl
retains_array (suc d) w s = refl

-- a cell that is held or named may be retained
abbrev pub Counted : Store → List ℕ → ℕ → Type 0
Counted σ R c = 0 < occurrences c R + occurrences c (all_inner σ.cells)

-- from s to t: a word of depth d holds one reference more, beside those of R
pub record WordRetained (start : Start) (d : ℕ) (w : ℤ) (Z R : List ℕ) (s t : State) (m : Meter) : Type 0 where
  pub together : Together start t m
  pub invariant : Invariant t.store Z (named_by d (w ∷ []) ++ R)
  pub alike : (r : ℕ) → Alike s.store t.store r

pub word_retained : {start : Start} {Z R : List ℕ} {s : State} {m : Meter} (d : ℕ) (w : ℤ) → Together start s m →
    Invariant s.store Z R → (0 < d → Counted s.store R (cell_of w)) → Room Z R 1 →
    WordRetained start d w Z R s (retained_array d w s) m
unfolding with_store
word_retained {s = s} zero w tog inv counted room = record {
  together = tog;
  invariant = inv;
  alike = alike_self s.store;
}
word_retained {Z = Z} {R} {s} (suc d) w tog inv counted room = record {
  together = touch_together c (retained c s.store) inv used r.free r.cells tog;
  invariant = r.holds;
  alike = r.alike;
}
  where
    c : ℕ
    c = cell_of w

    used : 0 < (cell s.store c).count
    used = omega (arith, counted (omega arith), inv.counts c)

    r : Retains s.store (retained c s.store) c Z R
    r = retain c inv (counted (omega arith)) (omega (arith, room.few c))
