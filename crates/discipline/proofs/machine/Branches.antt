-- The line of an if.
use Rattle.prelude.specs.Kit.{ℕ, ◌+◌, arith, true, false, Bool, cond, refl, []}
use Rattle.semantics.specs.Number.{is_zero, is_answer}
use Rattle.semantics.specs.Outcome.{require}
use Rattle.semantics.specs.Value.{number_in}
use Rattle.semantics.specs.Code.{Atom, if_else, Tree}
use Rattle.semantics.specs.Live.{after_branch}
use Rattle.semantics.specs.Meaning.{Meter, do_if}
use Rattle.semantics.specs.Meaning as Meaning
use Rattle.semantics.specs.Machine.{State, word, work, work_line}
use Rattle.semantics.specs.Plain.{value, run, run_line}
use Rattle.discipline.proofs.normal.Trace.{CalleeGrows}
use Rattle.discipline.proofs.machine.Discipline.{left_by, holds_after}
use Rattle.discipline.proofs.machine.Growth.{Grows, give_grows, require_grows, bind_grows, tree_grows}
use Rattle.discipline.proofs.machine.Agreement.{Together, both, agree_assoc, agree_bind, after_test}
use Rattle.discipline.proofs.machine.Frames.{Setting, Situation, Ended, Going}
use Rattle.discipline.proofs.machine.Standing.{atom_number}
use Rattle.discipline.proofs.machine.Binding.{name_bound}
use Rattle.discipline.proofs.machine.Size.{tree_adds, line_adds}
use Rattle.discipline.proofs.machine.Situations.{situation_less, settled}
use Rattle.discipline.proofs.machine.Rules.{then_rules, else_rules, if_fresh}
use Rattle.discipline.proofs.machine.Claims.{Both, TreeClaim, LineClaim, begin_step}

module _ (C : Setting) (grows : CalleeGrows C.meant) where
  pub line_if : (x : ℕ) (g : Atom) (t e : Tree) → TreeClaim C t → TreeClaim C e → LineClaim C (if_else x g t e)
  unfolding work_line run_line do_if line_adds holds_after
  line_if x g t e then else B T A H P Δ rules Z F R ρ δ n s m tog S need =
      agree_assoc _ _ (Meaning.step false m) (begin_step C
      (λ σ. Going C (if_else x g t e) σ Z F R B H Δ ρ δ n) false tog S
      (λ u. bind_grows (bind_grows (require_grows _ 28) (λ _. choice_grows (is_zero (number_in (value δ g)))))
      (λ v. give_grows _))
      (λ u v s' m' t' S' w. rw (atom_number C S' g rules.fits.0)
      (agree_assoc _ _ (require (is_answer (word ρ g)) 28 m')
      (after_test 28 _ _ (is_answer (word ρ g)) (is_answer (word ρ g)) refl
      (record { low = omega arith; high = omega arith; other = λ h. omega arith }) t'
      (λ answer. agree_bind (branch (is_zero (word ρ g)) s' m' t' (settled S')) (λ v. give_grows _)
      (λ w s'' v m'' E. both (name_bound C (if_else x g t e) (left_by C.program.borrowing C.depths t H) refl refl
      (if_fresh C rules) S' E)))))))
    where
      choice_grows : (b : Bool) → Grows (cond b (run C.meant e δ) (run C.meant t δ))
      choice_grows true = tree_grows C.meant grows e δ
      choice_grows false = tree_grows C.meant grows t δ

      branch : (b : Bool) (s' : State) (m' : Meter) → Together C.start s' m' →
          Situation C s'.store Z F R B H [] ρ δ (line_adds (if_else x g t e) + n) →
          Both C (Ended C (C.depths x) s'.store Z F (left_by C.program.borrowing C.depths t H) ρ δ n)
          (cond b (work C.callee C.program.borrowing C.depths e (after_branch x A) R ρ)
          (work C.callee C.program.borrowing C.depths t (after_branch x A) R ρ)) s'
          (cond b (run C.meant e δ) (run C.meant t δ)) m'
      branch true s' m' t' S' =
          else B T (after_branch x A) H [] (left_by C.program.borrowing C.depths t H) (C.depths x)
          (else_rules C rules) Z F R ρ δ n s' m' t' (situation_less (tree_adds e + n) S' (omega arith)) need
      branch false s' m' t' S' =
          then B T (after_branch x A) H [] (left_by C.program.borrowing C.depths t H) (C.depths x)
          (then_rules C rules) Z F R ρ δ n s' m' t' (situation_less (tree_adds t + n) S' (omega arith)) need
