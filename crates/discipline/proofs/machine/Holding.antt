-- The lines that retain and release, and a reference of others that is released.
use Rattle.prelude.specs.Kit.{ℕ, ◌≤◌, ◌+◌, ◌<◌, suc, arith, ◌≡◌, refl, sym, subst, inl, inr, List, [], ◌∷◌, ◌++◌, ℤ}
use Rattle.semantics.specs.Basics.{occurrences, ◌∈◌}
use Rattle.semantics.specs.Outcome.{onward}
use Rattle.semantics.specs.Value.{Value}
use Rattle.semantics.specs.Code.{retain, release}
use Rattle.semantics.specs.Meaning.{Meter, Env}
use Rattle.semantics.specs.Machine.{State, Frame, with_store, release_events, work_line, retain_word, release_word}
use Rattle.semantics.specs.Store.{Store, cell, cell_of, named_by, retained, released, deepest}
use Rattle.laws.specs.Levels.{release_no_higher}
use Rattle.semantics.specs.Plain.{run_line}
use Rattle.discipline.proofs.store.Invariant.{Invariant, Keeps, StandsFor}
use Rattle.discipline.proofs.store.Counting.{in_append_left, in_append_right, append_cases}
use Rattle.discipline.proofs.store.Change.{permute, held_used}
use Rattle.discipline.proofs.store.Kept.{keeps_trans, keeps_fewer, stands_kept}
use Rattle.discipline.proofs.store.Retain.{Retains}
use Rattle.discipline.proofs.store.Retain as Store_retain
use Rattle.discipline.proofs.store.Release.{Releases, releases_keep}
use Rattle.discipline.proofs.store.Release as Store_release
use Rattle.laws.specs.Lists.{◌≈◌, occurrences_append}
use Rattle.discipline.proofs.machine.Images.{without_middle, first_or_later}
use Rattle.discipline.proofs.machine.Agreement.{both, with_store_together}
use Rattle.discipline.proofs.machine.Frames.{hold, Setting, Situation, Ended}
use Rattle.discipline.proofs.machine.Standing.{none_in, stands_held, hold_split, readable, name_held, lent_kept}
use Rattle.discipline.proofs.machine.Retaining.{Counted}
use Rattle.discipline.proofs.machine.Size.{line_adds}
use Rattle.discipline.proofs.machine.Situations.{room_less, room_one, room_spent, touch_together}
use Rattle.discipline.proofs.machine.Claims.{LineClaim}
use Rattle.discipline.proofs.machine.Discipline.{less, holds_after}
use Rattle.discipline.proofs.machine.Spending.{spend_split, spend_one, less_in}

module _ (C : Setting) where
  -- a name that may be retained: its cell is held or named, and it stands for its value
  record Retainable (σ : Store) (F H : List ℕ) (ρ : Frame) (δ : Env) (x : ℕ) : Type 0 where
    pub named : Counted σ (hold ρ H ++ F) (cell_of (ρ x))
    pub stands : StandsFor σ (C.depths x) (ρ x) (δ x)

  retainable : {σ : Store} {Z F R B H P : List ℕ} {ρ : Frame} {δ : Env} {n : ℕ} (x : ℕ) →
      Situation C σ Z F R B H P ρ δ n → x ∈ (P ++ (B ++ H)) → Retainable σ F H ρ δ x
  retainable {B = B} {H} {P} x S h = elim (append_cases x P (B ++ H) h) [
    | inl g ↦ record { named = omega (arith, (S.pending x g).named); stands = (S.pending x g).stands }
    | inr g ↦ record { named = omega (arith, name_held C S x g); stands = readable C S x g }
  ]

  pub line_retain : (x : ℕ) → LineClaim C (retain x)
  unfolding work_line run_line onward retain_word with_store line_adds holds_after
  line_retain x B T A H P Δ rules Z F R ρ δ n s m t S need = both record {
    together = touch_together c (retained c σ) S.invariant used r.free r.cells t;
    situation = record {
      invariant = r.holds;
      numbers = S.numbers;
      arrays = λ y h. stands_held ρ y (x ∷ H) h (stood y h) (λ k g. r.alike k)
          (λ k g. held_used r.holds k (in_append_left k (hold ρ (x ∷ H)) F g));
      pending = λ y h. absurd (none_in y h);
      lent = λ y h. lent_kept Z F record { keep = λ k g. r.alike k }
          (λ k g. held_used r.holds k (in_append_right k (hold ρ (x ∷ H)) F g)) (S.lent y h);
      room = room_one c n (room_less (suc n) S.room (omega arith));
      rooted = S.rooted;
    };
    keeps = record { keep = λ k h. r.alike k };
    words = λ y h. refl;
    values = λ y h. refl;
  }
    where
      σ : Store
      σ = s.store

      c : ℕ
      c = cell_of (ρ x)

      able : Retainable σ F H ρ δ x
      able = retainable x S rules.holds

      used : 0 < (cell σ c).count
      used = omega (arith, able.named, S.invariant.counts c)

      r : Retains σ (retained c σ) c Z (hold ρ H ++ F)
      r = Store_retain.retain c S.invariant able.named (omega (arith, S.room.few c))

      stood : (y : ℕ) → y ∈ (x ∷ H) → StandsFor σ (C.depths y) (ρ y) (δ y)
      stood y h = elim (first_or_later y x H h) [
        | inl e ↦ subst (λ (k : ℕ). StandsFor σ (C.depths k) (ρ k) (δ k)) (sym e) able.stands
        | inr g ↦ S.arrays y g
      ]

  pub line_release : (x : ℕ) → LineClaim C (release x)
  unfolding work_line run_line onward release_word with_store line_adds holds_after
  line_release x B T A H P Δ rules Z F R ρ δ n s m t S need = both record {
    together = with_store_together (released deepest c σ) (release_events deepest c σ)
        (release_no_higher deepest c σ) r.untouched r.replays
        r.cells t;
    situation = record {
      invariant = r.holds;
      numbers = S.numbers;
      arrays = λ y h. stands_held ρ y H' h (S.arrays y (less_in (x ∷ []) H y h))
          (λ k g. keeps.keep k (in_append_right k Z (hold ρ H' ++ F) (in_append_left k (hold ρ H') F g)))
          (λ k g. held_used r.holds k (in_append_left k (hold ρ H') F g));
      pending = λ y h. absurd (none_in y h);
      lent = λ y h. lent_kept Z F kept (λ k g. held_used r.holds k (in_append_right k (hold ρ H') F g))
          (S.lent y h);
      room = room_spent ρ (x ∷ []) H F (room_less n S.room (omega arith));
      rooted = S.rooted;
    };
    keeps = kept;
    words = λ y h. refl;
    values = λ y h. refl;
  }
    where
      σ : Store
      σ = s.store

      c : ℕ
      c = cell_of (ρ x)

      H' : List ℕ
      H' = less (x ∷ []) H

      split : H ≈ (x ∷ []) ++ H'
      split = spend_split (x ∷ []) H (spend_one x H rules.holds)

      before : Invariant σ Z (hold ρ (x ∷ H') ++ F)
      before = permute Z (hold ρ (x ∷ H') ++ F) S.invariant (λ k. refl) (hold_split ρ H (x ∷ []) H' F split)

      r : Releases σ (released deepest c σ) (release_events deepest c σ) Z (hold ρ H' ++ F)
      r = Store_release.release c before

      keeps : Keeps σ (released deepest c σ) (Z ++ (hold ρ H' ++ F))
      keeps = releases_keep before r

      kept : Keeps σ (released deepest c σ) (Z ++ F)
      kept = keeps_fewer (Z ++ (hold ρ H' ++ F)) (Z ++ F) (without_middle Z (hold ρ H') F) keeps

-- ---- what others hold

-- the state once the cell c is released
abbrev pub released_state : ℕ → State → State
released_state c s = with_store s (released deepest c s.store) (release_events deepest c s.store)

-- a reference of others is released after a tree
pub ended_released : (C : Setting) {e : ℕ} {σ : Store} {Z F Δ : List ℕ} {ρ : Frame} {δ : Env} {n : ℕ} {w : ℤ}
    {s : State} {v : Value} {m : Meter} (c : ℕ) → Ended C e σ Z (c ∷ F) Δ ρ δ n w s v m →
    Ended C e σ Z F Δ ρ δ n w (released_state c s) v m
unfolding with_store occurrences
ended_released C {e} {Z = Z} {F} {Δ} {ρ} {w = w} {s} c E = record {
  answered = record {
    together = with_store_together (released deepest c s.store) (release_events deepest c s.store)
        (release_no_higher deepest c s.store) r.untouched r.replays r.cells E.answered.together;
    invariant = r.holds;
    stands = stands_kept E.answered.stands (λ q h.
        let i = in_append_left q (named_by e (w ∷ [])) (hold ρ Δ ++ F) h in
        (keeps.keep q (in_append_right q Z others i), held_used r.holds q i));
  };
  room = record { few = λ q. omega (arith, E.room.few q, same q, one_fewer q) };
  arrays = λ y h. stands_held ρ y Δ h (E.arrays y h)
      (λ q g. keeps.keep q (in_append_right q Z others (among_others q g)))
      (λ q g. held_used r.holds q (among_others q g));
  keeps = keeps_trans (keeps_fewer (Z ++ (c ∷ F)) (Z ++ F) (without_middle Z (c ∷ []) F) E.keeps)
      (keeps_fewer (Z ++ others) (Z ++ F) (λ q h. without_middle Z (named_by e (w ∷ [])) (hold ρ Δ ++ F) q
      (without_middle Z (hold ρ Δ) F q h)) keeps);
}
  where
    others : List ℕ
    others = named_by e (w ∷ []) ++ (hold ρ Δ ++ F)

    among_others : (q : ℕ) → q ∈ hold ρ Δ → q ∈ others
    among_others q g = in_append_right q (named_by e (w ∷ [])) (hold ρ Δ ++ F) (in_append_left q (hold ρ Δ) F g)

    same : (q : ℕ) → occurrences q (named_by e (w ∷ []) ++ (hold ρ Δ ++ (c ∷ F))) ≡ occurrences q (c ∷ others)
    same q = omega (
      arith,
      occurrences_append q (named_by e (w ∷ [])) (hold ρ Δ ++ (c ∷ F)),
      occurrences_append q (hold ρ Δ) (c ∷ F),
      occurrences_append q (named_by e (w ∷ [])) (hold ρ Δ ++ F),
      occurrences_append q (hold ρ Δ) F,
    )

    one_fewer : (q : ℕ) → occurrences q others ≤ occurrences q (c ∷ others)
    one_fewer q = omega arith

    before : Invariant s.store Z (c ∷ others)
    before = permute Z (c ∷ others) E.answered.invariant (λ q. refl) same

    r : Releases s.store (released deepest c s.store) (release_events deepest c s.store) Z others
    r = Store_release.release c before

    keeps : Keeps s.store (released deepest c s.store) (Z ++ others)
    keeps = releases_keep before r
