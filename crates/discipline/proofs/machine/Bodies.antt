-- One pass of a loop: its step, its element and its tree.
use Rattle.prelude.specs.Kit.{ℕ, ◌≤◌, ◌+◌, ◌<◌, suc, false, refl, sym, subst, List, [], ◌++◌, ℤ, pos, length, get_or}
use Rattle.laws.specs.Updates.{updated_there}
use Rattle.semantics.specs.Basics.{updated}
use Rattle.semantics.specs.Outcome.{onward, ◌>>=◌, ◌>>◌}
use Rattle.semantics.specs.Value.{Value, num, items}
use Rattle.semantics.specs.Code.{Tree}
use Rattle.semantics.specs.Live.{Set}
use Rattle.semantics.specs.Meaning.{Meter, Env}
use Rattle.semantics.specs.Meaning as Meaning
use Rattle.semantics.specs.Machine.{State, Frame, with_store, touching, work, elements_of}
use Rattle.semantics.specs.Machine as Machine
use Rattle.semantics.specs.Store.{Store, cell_of}
use Rattle.semantics.specs.Plain.{run}
use Rattle.discipline.proofs.normal.Trace.{CalleeGrows}
use Rattle.discipline.proofs.store.Invariant.{StandsFor}
use Rattle.discipline.proofs.store.Kept.{keeps_self}
use Rattle.discipline.proofs.machine.Images.{apart}
use Rattle.discipline.proofs.machine.Growth.{Grows, bind_grows, tree_grows}
use Rattle.discipline.proofs.machine.Agreement.{Together, Agree, agree_bind, after_step}
use Rattle.discipline.proofs.machine.Frames.{Setting, Situation, Ended, own}
use Rattle.discipline.proofs.machine.Binding.{pending_situation, ended_back}
use Rattle.discipline.proofs.machine.Elements.{words_of}
use Rattle.discipline.proofs.machine.Size.{tree_adds}
use Rattle.discipline.proofs.machine.Situations.{touch_together}
use Rattle.discipline.proofs.machine.Rules.{TreeRules, Fresh}
use Rattle.discipline.proofs.machine.Claims.{TreeClaim}
use Rattle.discipline.proofs.machine.Passes.{Item, element_at_pass}

-- The tree of a pass, whose element's name is p. In ρ and δ the other names of the pass are bound; H is held then, and
-- the tree leaves I.
module _ (C : Setting) (grows : CalleeGrows C.meant) (p : ℕ) {t : Tree} (claim : TreeClaim C t) {L : List ℕ}
    {S A : Set} {H I : List ℕ} {e : ℕ} (rules : TreeRules C t L S A H (own C p) I e) (new : Fresh p L H I)
    (Z F R : List ℕ) (ρ : Frame) (δ : Env) (n : ℕ) (need : C.need ≤ n) where
  -- over the array w of value v; `Before` is what is known of the store before the tree
  pub pass_begins : {Q : ℤ → State → Value → Meter → Type 0} {i : ℕ} {s : State} {m : Meter} (w : ℤ) (v : Value)
      (Before : Store → Type 0) → ((τ : Store) → Before τ → Situation C τ Z F R L H [] ρ δ (tree_adds t + n)) →
      ((τ : Store) → Before τ → StandsFor τ (suc (C.depths p)) w v) → (finish : ℤ → ℤ → Machine.Work ℤ)
      (meant_finish : Value → Meaning.Work Value) → ((x : Value) → Grows (meant_finish x)) → i < length (items v) →
      Together C.start s m → Before s.store →
      ((τ : Store) (r : ℤ) (s' : State) (x : Value) (m' : Meter) → Before τ → Item τ (C.depths p) w v i →
      Ended C e τ Z F I ρ δ n r s' x m' →
      Agree C.start Q (finish (get_or (words_of τ w) i (pos 0)) r s') (meant_finish x m')) →
      Agree C.start Q
      ((do
        Machine.step
        ws ← elements_of w
        r ← work C.callee C.program.borrowing C.depths t A R (updated ρ p (get_or ws i (pos 0)))
        finish (get_or ws i (pos 0)) r) s)
      ((do
        Meaning.step false
        r ← run C.meant t (updated δ p (get_or (items v) i (num (pos 0))))
        meant_finish r) m)
  unfolding elements_of onward with_store
  pass_begins {i = i} w v Before situated array finish meant_finish finishes within tog before next =
      after_step false tog (λ u. bind_grows (tree_grows C.meant grows t _) finishes) (λ u u' s' m' h.
      let b = subst Before (sym h.store) before in
      let situation = situated s'.store b in
      let item = element_at_pass i situation.invariant (array s'.store b) within in
      let w' = get_or (words_of s'.store w) i (pos 0) in
      let v' = get_or (items v) i (num (pos 0)) in
      agree_bind (claim L S A H (own C p) I e rules Z F R (updated ρ p w') (updated δ p v') n
      (with_store s' s'.store (touching s'.store (cell_of w))) m'
      (touch_together (cell_of w) s'.store situation.invariant item.used refl refl h.together)
      (pending_situation C situation new.lent new.before item.stands item.named) need)
      finishes
      (λ r s'' x m'' E. next s'.store r s'' x m'' b item
      (ended_back C (λ y g. updated_there ρ p w' y (apart p y I new.after g))
      (λ y g. updated_there δ p v' y (apart p y I new.after g)) (keeps_self s'.store (Z ++ F)) E)))
