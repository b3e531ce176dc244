-- What is known before a line, and what lesser facts follow from it.
use Rattle.prelude.specs.Kit.{ℕ, ◌≤◌, ◌<◌, suc, arith, ◌≡◌, refl, ap, some, List, [], ◌∷◌, ◌++◌, ℤ}
use Rattle.semantics.specs.Meaning.{Meter, Env}
use Rattle.semantics.specs.Machine.{State, Frame, with_store, touching}
use Rattle.semantics.specs.Store.{Store, cell, cell_of, cell_count, named_by}
use Rattle.semantics.specs.Sound.{free_list}
use Rattle.semantics.specs.Demands.{touched, replayed}
use Rattle.laws.specs.Lists.{◌≈◌, occurrences_append}
use Rattle.laws.specs.Levels.{touching_no_higher}
use Rattle.discipline.proofs.store.Invariant.{Invariant}
use Rattle.discipline.proofs.store.Change.{touch}
use Rattle.discipline.proofs.machine.Images.{image_fewer, one_more}
use Rattle.discipline.proofs.machine.Discipline.{less}
use Rattle.discipline.proofs.machine.Spending.{less_counts}
use Rattle.discipline.proofs.machine.Standing.{none_in, named_few, hold_split}
use Rattle.discipline.proofs.machine.Agreement.{Start, Together, with_store_together}
use Rattle.discipline.proofs.machine.Frames.{hold, Room, Setting, Situation}

pub room_less : {Z R : List ℕ} {n : ℕ} (k : ℕ) → Room Z R n → k ≤ n → Room Z R k
room_less k r h = record { few = λ c. omega (arith, r.few c) }

pub situation_less : {C : Setting} {σ : Store} {Z F R B H P : List ℕ} {ρ : Frame} {δ : Env} {n : ℕ} (k : ℕ) →
    Situation C σ Z F R B H P ρ δ n → k ≤ n → Situation C σ Z F R B H P ρ δ k
situation_less k S h = record {
  invariant = S.invariant;
  numbers = S.numbers;
  arrays = S.arrays;
  pending = S.pending;
  lent = S.lent;
  room = room_less k S.room h;
  rooted = S.rooted;
}

-- what is pending may be forgotten
pub settled : {C : Setting} {σ : Store} {Z F R B H P : List ℕ} {ρ : Frame} {δ : Env} {n : ℕ} →
    Situation C σ Z F R B H P ρ δ n → Situation C σ Z F R B H [] ρ δ n
settled S = record {
  invariant = S.invariant;
  numbers = S.numbers;
  arrays = S.arrays;
  pending = λ y h. absurd (none_in y h);
  lent = S.lent;
  room = S.room;
  rooted = S.rooted;
}

-- at most one reference more
pub room_one : {Z R : List ℕ} (c n : ℕ) → Room Z R (suc n) → Room Z (c ∷ R) n
room_one {Z} {R} c n r = record { few = λ k. omega (arith, r.few k, one_more k c R) }

-- some holds spent
pub room_spent : {Z : List ℕ} {n : ℕ} (ρ : Frame) (l H F : List ℕ) → Room Z (hold ρ H ++ F) n →
    Room Z (hold ρ (less l H) ++ F) n
room_spent ρ l H F r = record {
  few = λ c. omega (
    arith,
    r.few c,
    occurrences_append c (hold ρ H) F,
    occurrences_append c (hold ρ (less l H)) F,
    image_fewer (λ y. cell_of (ρ y)) (less l H) H (λ k. omega (arith, less_counts l H k)) c,
  );
}

-- a result in place of what some names handed over
pub room_given : {Z : List ℕ} {n : ℕ} (ρ : Frame) (H l H' F : List ℕ) (d : ℕ) (w : ℤ) → H ≈ l ++ H' →
    Room Z (hold ρ H ++ F) (suc n) → Room Z (named_by d (w ∷ []) ++ (hold ρ H' ++ F)) n
room_given ρ H l H' F d w p r = record {
  few = λ c. omega (
    arith,
    r.few c,
    named_few c d w,
    hold_split ρ H l H' F p c,
    occurrences_append c (hold ρ l) (hold ρ H' ++ F),
    occurrences_append c (named_by d (w ∷ [])) (hold ρ H' ++ F),
  );
}

-- a cell in use is touched, and the free list stays
pub touch_together : {start : Start} {s : State} {m : Meter} {Z R : List ℕ} (c : ℕ) (τ : Store) →
    Invariant s.store Z R → 0 < (cell s.store c).count → free_list τ ≡ free_list s.store →
    cell_count τ ≡ cell_count s.store → Together start s m →
    Together start (with_store s τ (touching s.store c)) m
unfolding touched replayed
touch_together {s = s} c τ v used e g t =
    with_store_together τ (touching s.store c) (touching_no_higher s.store c)
    (rw (touch v c used) refl) (rw (touch v c used) (ap some e)) g t
