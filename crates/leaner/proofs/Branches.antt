-- The line of an if.
use Rattle.prelude.specs.Kit.{ℕ, ◌+◌, arith, true, false, Bool, cond, refl, ◌∙◌, sym, inl, inr, List, [], ◌++◌, ℤ}
use Rattle.semantics.specs.Number.{is_zero, is_answer}
use Rattle.semantics.specs.Code.{Atom, if_else, Tree}
use Rattle.semantics.specs.Live.{after_branch}
use Rattle.semantics.specs.Annotate.{NameDepths}
use Rattle.semantics.specs.Machine.{State, Routine, Program, word, work, work_line}
use Rattle.semantics.specs.Store.{cell_of}
use Rattle.laws.specs.Lists.{◌⊆◌}
use Rattle.discipline.proofs.store.Counting.{append_cases, in_append_left, in_append_right}
use Rattle.discipline.proofs.machine.Discipline.{left_by, holds_after}
use Rattle.discipline.proofs.machine.Frames.{Setting}
use Rattle.discipline.proofs.machine.Size.{tree_adds, line_adds}
use Rattle.discipline.proofs.machine.Rules.{then_rules, else_rules, if_fresh}
use Rattle.leaner.proofs.Runs.{Race, Twins, both, twins_bind, twin_step, twin_test}
use Rattle.leaner.proofs.Beside.{here_stepped, here_settled, Framed, framed_fewer, atom_number}
use Rattle.leaner.proofs.Owing.{owes_in, TreeOwes}
use Rattle.leaner.proofs.Claims.{first_setting, leaner_setting, Before, before_less, TreeEnded, TreeTwins}
use Rattle.leaner.proofs.Claims.{LineTwins}
use Rattle.leaner.proofs.Binding.{line_bound}

module _ (r : Race) (p : Program) (rs : List Routine) (n : ℕ) (Γ : NameDepths) where
  abbrev C : Setting
  C = first_setting r p n Γ

  abbrev C' : Setting
  C' = leaner_setting r p rs n Γ

  pub twin_if : (x : ℕ) (g : Atom) (t t' e e' : Tree) → TreeTwins r p rs n Γ [] t t' → TreeTwins r p rs n Γ [] e e' →
      TreeOwes C' [] t t' →
      LineTwins r p rs n Γ [] (if_else x g t e) (if_else x g t' e')
  unfolding work_line line_adds holds_after
  twin_if x g t t' e e' then else leaves S S' A A' H H' P P' Δ Δ' E π a a' ρ ρ' k k' s s' rules rules' q need need' =
      twins_bind r (twin_step r q.tied) (λ u s₁ u' s₁' f f' z.
      rw (atom_number C q.framed g rules.fits.0)
      (twin_test r 28 _ _ (is_answer (word ρ' g)) (is_answer (word ρ' g)) refl z.2.level (λ answer.
      twins_bind r (branch (is_zero (word ρ' g)) s₁ s₁' record {
        first = here_settled (here_stepped q.first f);
        leaner = here_settled (here_stepped q.leaner f');
        tied = z.2;
        framed = framed_fewer (P' ++ (a'.lent ++ H')) (a'.lent ++ H')
            (λ y h. in_append_right y P' (a'.lent ++ H') h) q.framed;
        images = q.images;
        owes = q.owes;
        exempt = q.exempt;
      })
      (λ w s₂ w' s₂' _ _ h. both (line_bound r p rs n Γ x (if_fresh C' rules') h.result (framed_left h) h.stays
      h.tied)))))
    where
      left' : List ℕ
      left' = left_by p.borrowing Γ t' H'

      fewer : left' ⊆ left_by p.borrowing Γ t H
      fewer = owes_in [] (left_by p.borrowing Γ t H) left' (leaves a'.lent S' (after_branch x A') H H' [] left'
          (Γ x) (then_rules C' rules') q.owes)

      branch : (b : Bool) (s₁ s₁' : State) →
          Before r p rs n Γ [] E π a a' H H' [] [] ρ ρ' (1 + tree_adds t + tree_adds e + k)
          (1 + tree_adds t' + tree_adds e' + k') s₁ s₁' →
          Twins r (TreeEnded r p rs n Γ (Γ x) E π a' left' ρ ρ')
          (cond b (work C.callee p.borrowing Γ e (after_branch x A) a.roots ρ)
          (work C.callee p.borrowing Γ t (after_branch x A) a.roots ρ) s₁)
          (cond b (work C'.callee p.borrowing Γ e' (after_branch x A') a'.roots ρ')
          (work C'.callee p.borrowing Γ t' (after_branch x A') a'.roots ρ') s₁')
      branch true s₁ s₁' b = else S S' _ _ H H' [] [] _ left' (Γ x) E π a a' ρ ρ' k k' s₁ s₁' (else_rules C rules)
          (else_rules C' rules') fewer (before_less r p rs n Γ (omega arith) (omega arith) b) need need'
      branch false s₁ s₁' b = then S S' _ _ H H' [] [] _ left' (Γ x) E π a a' ρ ρ' k k' s₁ s₁' (then_rules C rules)
          (then_rules C' rules') fewer (before_less r p rs n Γ (omega arith) (omega arith) b) need need'

      framed_left : {w w' : ℤ} {s₂ s₂' : State} → (h : TreeEnded r p rs n Γ (Γ x) E π a' left' ρ ρ' w s₂ w' s₂') →
          Framed Γ h.cells ρ ρ' (a'.lent ++ left')
      framed_left h = record {
        numbers = q.framed.numbers;
        cells = λ y i. elim (append_cases y a'.lent left' i) [
          | inl j ↦ q.framed.cells y (in_append_right y P' (a'.lent ++ H') (in_append_left y a'.lent H' j))
              ∙ sym (h.stays (cell_of (ρ' y)) (in_append_right (cell_of (ρ' y)) a'.aside a'.others
              (q.leaner.situation.lent y j).kept))
          | inr j ↦ h.words y j
        ];
      }
