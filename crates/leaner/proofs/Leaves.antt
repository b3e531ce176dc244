-- The line of a leaf: its step, what it gives, and the name that is bound.
use Rattle.prelude.specs.Kit.{ℕ, ◌≤◌, ◌+◌, arith, true, false, Bool, cond, List, [], ◌++◌, map}
use Rattle.semantics.specs.Kinds.{Leaf, leaf_hands, is_pending}
use Rattle.semantics.specs.Code.{Atom, leaf}
use Rattle.semantics.specs.Annotate.{NameDepths, depth_of}
use Rattle.semantics.specs.Machine.{State, Frame, Routine, Program, word, work_leaf, work_line}
use Rattle.laws.specs.Lists.{◌⊆◌, occurrences_append}
use Rattle.discipline.proofs.machine.Discipline.{LeafFits, LineHolding, handed, less, holds_after}
use Rattle.discipline.proofs.machine.Spending.{less_in, less_counts}
use Rattle.discipline.proofs.machine.Images.{without_middle}
use Rattle.discipline.proofs.machine.Frames.{hold, Setting, own}
use Rattle.discipline.proofs.machine.Size.{leaf_adds, line_adds}
use Rattle.discipline.proofs.machine.Rules.{Fresh, fresh}
use Rattle.leaner.proofs.Twin.{with_routines}
use Rattle.leaner.proofs.Runs.{Race, Twins, both, twins_bind, twin_step}
use Rattle.leaner.proofs.Beside.{Around, here_stepped}
use Rattle.leaner.proofs.Claims.{first_setting, leaner_setting, WordsGiven, Before, LineTwins}
use Rattle.leaner.proofs.Binding.{framed_stays, bound_framed, known_left}

module _ (r : Race) (p : Program) (rs : List Routine) (n : ℕ) (Γ : NameDepths) where
  abbrev C : Setting
  C = first_setting r p n Γ

  abbrev C' : Setting
  C' = leaner_setting r p rs n Γ

  -- of a leaf on the words of its atoms, after its step, whatever the roots
  abbrev pub LeafTwins : List ℕ → Leaf → Type 0
  LeafTwins X l = (x : ℕ) (us : List Atom) (H H' P P' : List ℕ) (E : List ℕ) (π : ℕ → ℕ) (a a' : Around) (ρ ρ' : Frame)
      (k k' : ℕ) (s s' : State) → LeafFits p Γ x l us → LeafFits (with_routines p rs) Γ x l us →
      LineHolding p.borrowing Γ a.lent (leaf x l us) H P →
      LineHolding p.borrowing Γ a'.lent (leaf x l us) H' P' →
      Before r p rs n Γ X E π a a' H H' P P' ρ ρ' (leaf_adds + k) (leaf_adds + k') s s' → C.need ≤ k → C'.need ≤ k' →
      (Q R Q' R' : List ℕ) →
      Twins r (WordsGiven r (Γ x) E π
      (a'.aside ++ (hold ρ' (less (handed Γ (leaf_hands p.borrowing l us)) H') ++ a'.others)))
      (work_leaf C.callee Q R (depth_of Γ us 1) l (map (word ρ) us) s)
      (work_leaf C'.callee Q' R' (depth_of Γ us 1) l (map (word ρ') us) s')

  -- what is known of names after the leaf
  names_after : (x : ℕ) (b : Bool) (B H : List ℕ) →
      (cond b (own C x) [] ++ (B ++ (cond b [] (own C x) ++ H))) ⊆ (own C x ++ (B ++ H))
  names_after x true B H y h = h
  names_after x false B H y h = omega (
    arith,
    h,
    occurrences_append y B (own C x ++ H),
    occurrences_append y (own C x) H,
    occurrences_append y (own C x) (B ++ H),
    occurrences_append y B H,
  )

  pub twin_leaf : (X : List ℕ) (x : ℕ) (l : Leaf) (us : List Atom) → LeafTwins X l →
      LineTwins r p rs n Γ X (leaf x l us) (leaf x l us)
  unfolding work_line line_adds holds_after
  twin_leaf X x l us claim S S' A A' H H' P P' Δ Δ' E π a a' ρ ρ' k k' s s' rules rules' q need need' =
      twins_bind r (twin_step r q.tied) (λ u s₁ u' s₁' e e' g.
      twins_bind r (claim x us H H' P P' E π a a' ρ ρ' k k' s₁ s₁' rules.fits rules'.fits rules.holds
      rules'.holds record {
        first = here_stepped q.first e;
        leaner = here_stepped q.leaner e';
        tied = g.2;
        framed = q.framed;
        images = q.images;
        owes = q.owes;
        exempt = q.exempt;
      } need need' _ _ _ _)
      (λ w s₂ w' s₂' f f' z. both record {
        cells = z.cells;
        tied = z.tied;
        framed = bound_framed C (a'.lent ++ left) x w w'
            (framed_stays a' left q.framed (known_left P' a'.lent H' left (less_in hands H'))
            (λ y h. (q.leaner.situation.lent y h).kept) z.stays)
            (omega (arith, new.lent, new.before, less_counts hands H' x, occurrences_append x a'.lent left))
            z.result (names_after x (is_pending l) a'.lent left);
        stays = λ c h. z.stays c (without_middle a'.aside (hold ρ' left) a'.others c h);
      }))
    where
      hands : List ℕ
      hands = handed Γ (leaf_hands p.borrowing l us)

      left : List ℕ
      left = less hands H'

      new : Fresh x a'.lent H' Δ'
      new = fresh x rules'.scoped.1.unknown rules'.names
