-- The line of a leaf: what the leaf gave is bound to its name.
use Rattle.prelude.specs.Kit.{ℕ, ◌+◌, suc, arith, false, Bool, cond, ◌≡◌, sym, ap, subst, List, [], ◌++◌, ℤ}
use Rattle.laws.specs.Updates.{updated_there}
use Rattle.semantics.specs.Basics.{updated}
use Rattle.semantics.specs.Outcome.{done}
use Rattle.semantics.specs.Value.{Value}
use Rattle.semantics.specs.Kinds.{Leaf, is_pending}
use Rattle.semantics.specs.Code.{Atom, leaf}
use Rattle.semantics.specs.Meaning.{Meter, Env}
use Rattle.semantics.specs.Machine.{State, Frame, work_line}
use Rattle.semantics.specs.Machine as Machine
use Rattle.semantics.specs.Store.{Store}
use Rattle.laws.specs.Lists.{◌≈◌}
use Rattle.semantics.specs.Plain.{run_line}
use Rattle.discipline.proofs.store.Kept.{keeps_self}
use Rattle.discipline.proofs.store.Invariant.{Invariant, Keeps}
use Rattle.discipline.proofs.machine.Discipline.{less, holds_after, leaf_holds, leaf_waits}
use Rattle.discipline.proofs.machine.Spending.{spend_split, less_in, less_counts}
use Rattle.discipline.proofs.machine.Images.{apart}
use Rattle.discipline.proofs.machine.Growth.{give_grows}
use Rattle.discipline.proofs.machine.Agreement.{both, agree_after, agree_bind}
use Rattle.discipline.proofs.machine.Frames.{hold, Setting, Situation, Going, given_by, own}
use Rattle.discipline.proofs.machine.Situations.{situation_less, room_given, room_spent, room_less}
use Rattle.discipline.proofs.machine.Standing.{none_in}
use Rattle.discipline.proofs.machine.Binding.{pending_situation, returned_ended, name_bound}
use Rattle.discipline.proofs.machine.Size.{line_adds}
use Rattle.discipline.proofs.machine.Rules.{Fresh, fresh}
use Rattle.discipline.proofs.machine.Claims.{LeafClaim, LineClaim, Gave, holds, waits}

module _ (C : Setting) where
  module _ (x : ℕ) (l : Leaf) (us : List Atom) (B H P Δ : List ℕ) where
    abbrev H' : List ℕ
    H' = less (given_by C l us) H

    holding : is_pending l ≡ false → leaf_holds C.depths x l ≡ own C x
    holding e = ap (λ (b : Bool). cond b [] (own C x)) e

    not_waiting : is_pending l ≡ false → leaf_waits C.depths x l ≡ []
    not_waiting e = ap (λ (b : Bool). cond b (own C x) []) e

    left_over : {σ : Store} {Z F R : List ℕ} {ρ : Frame} {δ : Env} {n : ℕ} → Situation C σ Z F R B H P ρ δ (suc n) →
        Invariant σ Z (hold ρ H' ++ F) → Situation C σ Z F R B H' [] ρ δ n
    left_over {Z = Z} {F} {ρ = ρ} {n = n} S inv = record {
      invariant = inv;
      numbers = S.numbers;
      arrays = λ y h. S.arrays y (less_in (given_by C l us) H y h);
      pending = λ y h. absurd (none_in y h);
      lent = S.lent;
      room = room_spent ρ (given_by C l us) H F (room_less n S.room (omega arith));
      rooted = S.rooted;
    }

    -- a line whose leaf gave a word, in whatever way
    pub leaf_going : {σ : Store} {Z F R : List ℕ} {ρ : Frame} {δ : Env} {n : ℕ} {w : ℤ} {s : State} {v : Value}
        {m : Meter} → H ≈ given_by C l us ++ H' → Fresh x B H' Δ → Situation C σ Z F R B H P ρ δ (suc n) →
        Gave C l x σ Z (hold ρ H' ++ F) w s v m →
        Going C (leaf x l us) σ Z F R B H Δ ρ δ n (updated ρ x w) s (updated δ x v) m
    unfolding holds_after
    leaf_going {F = F} {ρ = ρ} {n = n} {w} {s} {v} {m} split new S (holds now q) =
        name_bound C (leaf x l us) H' (ap (λ (q : List ℕ). q ++ H') (holding now)) (not_waiting now) new S
        (returned_ended C (λ y h. S.arrays y (less_in (given_by C l us) H y h))
        (room_given ρ H (given_by C l us) H' F (C.depths x) w split S.room) q)
    leaf_going {σ} {Z} {F} {R} {ρ} {δ} {n} {w} {s} {v} {m} split new S (waits later same t inv stands named) = record {
      together = t;
      situation = subst (λ (τ : Store). Situation C τ Z F R B (leaf_holds C.depths x l ++ H')
          (leaf_waits C.depths x l) (updated ρ x w) (updated δ x v) n) (sym same)
          (subst (λ (b : Bool). Situation C σ Z F R B (cond b [] (own C x) ++ H') (cond b (own C x) [])
          (updated ρ x w) (updated δ x v) n) (sym later)
          (pending_situation C (left_over S inv) new.lent new.before stands named));
      keeps = subst (λ (τ : Store). Keeps σ τ (Z ++ F)) (sym same) (keeps_self σ (Z ++ F));
      words = λ y h. updated_there ρ x w y (apart x y Δ new.after h);
      values = λ y h. updated_there δ x v y (apart x y Δ new.after h);
    }

  -- a leaf's line, by its claim
  pub line_leaf : (x : ℕ) (l : Leaf) (us : List Atom) → LeafClaim C l → LineClaim C (leaf x l us)
  unfolding work_line run_line line_adds
  line_leaf x l us claim B T A H P Δ rules Z F R ρ δ n s m t S need =
      agree_after _ (λ w s'. done (updated ρ x w) s') (Machine.step s)
      (agree_bind (claim x us A B H P rules.fits rules.holds rules.frugal Z F R ρ δ n s m t S need)
      (λ v. give_grows _)
      (λ w s' v m' q. both (leaf_going x l us B H P Δ (spend_split (given_by C l us) H rules.holds.0) new
      (situation_less (suc n) S (omega arith)) q)))
    where
      new : Fresh x B (less (given_by C l us) H) Δ
      new = record {
        lent = names.lent;
        before = omega (arith, names.before, less_counts (given_by C l us) H x);
        after = names.after;
      }
        where
          names : Fresh x B H Δ
          names = fresh x rules.scoped.1.unknown rules.names
