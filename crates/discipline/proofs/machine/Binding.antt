-- A name bound by a line: to a word that holds nothing, or to a result that holds a reference; and what a tree leaves.
use Rattle.prelude.specs.Kit.{ℕ, ◌≤◌, ◌<◌, suc, zero, arith, ℕ_discrete, true, ◌≡◌, refl, ◌∙◌, sym, ap, subst, List, []}
use Rattle.prelude.specs.Kit.{◌∷◌, ◌++◌, append_assoc, ℤ}
use Rattle.laws.specs.Updates.{updated_same, updated_there}
use Rattle.semantics.specs.Basics.{occurrences, ◌∈◌, updated}
use Rattle.semantics.specs.Value.{Value, num}
use Rattle.semantics.specs.Code.{Line}
use Rattle.semantics.specs.Meaning.{Meter, Env}
use Rattle.semantics.specs.Machine.{State, Frame}
use Rattle.semantics.specs.Store.{Store, cell_of, named_by}
use Rattle.semantics.specs.Sound.{all_inner}
use Rattle.laws.specs.Lists.{◌⊆◌}
use Rattle.discipline.proofs.store.Invariant.{Invariant, Keeps, StandsFor}
use Rattle.discipline.proofs.store.Counting.{in_append_left, in_append_right}
use Rattle.discipline.proofs.store.Change.{held_used}
use Rattle.discipline.proofs.store.Kept.{keeps_fewer, keeps_trans}
use Rattle.discipline.proofs.machine.Discipline.{holds_after, waits_after}
use Rattle.discipline.proofs.machine.Rules.{Fresh}
use Rattle.discipline.proofs.machine.Images.{image_alike, apart, without_middle}
use Rattle.discipline.proofs.machine.Frames.{hold, Room, Setting, Pending, Lent, Situation, Returned, Ended}
use Rattle.discipline.proofs.machine.Frames.{Going, own}
use Rattle.discipline.proofs.machine.Situations.{room_less}
use Rattle.discipline.proofs.machine.Standing.{none_in, stands_number, stands_held, hold_updated, hold_of_number}
use Rattle.discipline.proofs.machine.Standing.{hold_bound, hold_of_other, lent_kept}

module _ (C : Setting) where
  -- a name bound to a word that holds nothing: a number, or an array that is named in the store
  pub pending_situation : {σ : Store} {Z F R B H P : List ℕ} {ρ : Frame} {δ : Env} {n x : ℕ} {w : ℤ} {v : Value} →
      Situation C σ Z F R B H P ρ δ n → occurrences x B ≡ 0 → occurrences x H ≡ 0 → StandsFor σ (C.depths x) w v →
      (0 < C.depths x → cell_of w ∈ all_inner σ.cells) →
      Situation C σ Z F R B H (own C x) (updated ρ x w) (updated δ x v) n
  pending_situation {σ} {Z} {F} {R} {B} {H} {P} {ρ} {δ} {n} {x} {w} {v} S apart_lent fresh stands named = record {
    invariant = subst (λ (l : List ℕ). Invariant σ Z (l ++ F)) (sym (hold_updated ρ x w H fresh)) S.invariant;
    numbers = λ y z. elim (ℕ_discrete y x) [
      | yes q ↦ rw (q, updated_same ρ x w, updated_same δ x v) (stands_number (ap C.depths (sym q) ∙ z) stands)
      | no q ↦ rw (updated_there ρ x w y q, updated_there δ x v y q) (S.numbers y z)
    ];
    arrays = λ y h.
        let q = apart x y H fresh h in
        rw (updated_there ρ x w y q, updated_there δ x v y q) (S.arrays y h);
    pending = λ y h. elim (ℕ_discrete y x) [
      | yes q ↦ rw (q, updated_same ρ x w, updated_same δ x v)
          (waits (C.depths x) refl (subst (λ (k : ℕ). k ∈ own C x) q h))
      | no q ↦ absurd (none_in y (hold_of_other C x y [] q
          (in_append_left y (own C x) [] h)))
    ];
    lent = λ y h.
        let q = apart x y B apart_lent h in
        rw (updated_there ρ x w y q, updated_there δ x v y q) (S.lent y h);
    room = subst (λ (l : List ℕ). Room Z (l ++ F) n) (sym (hold_updated ρ x w H fresh)) S.room;
    rooted = S.rooted;
  }
    where
      waits : (d : ℕ) → C.depths x ≡ d → x ∈ own C x → Pending σ (C.depths x) w v
      waits zero e h = absurd (none_in x (subst (λ (l : List ℕ). x ∈ l) (hold_of_number C x e) h))
      waits (suc d) e h = record { stands = stands; named = named (omega (arith, e)) }

  -- what a call leaves alone stands as before
  pub returned_ended : {d : ℕ} {σ : Store} {Z F Δ : List ℕ} {ρ : Frame} {δ : Env} {n : ℕ} {w : ℤ} {s : State}
      {v : Value} {m : Meter} →
      ((y : ℕ) → y ∈ Δ → StandsFor σ (C.depths y) (ρ y) (δ y)) →
      Room Z (named_by d (w ∷ []) ++ (hold ρ Δ ++ F)) n →
      Returned C.start d σ Z (hold ρ Δ ++ F) w s v m → Ended C d σ Z F Δ ρ δ n w s v m
  returned_ended {d} {σ} {Z} {F} {Δ} {ρ} {δ} {n} {w} {s} arrays room r = record {
    answered = r.answered;
    room = room;
    arrays = λ y h. stands_held ρ y Δ h (arrays y h)
        (λ c g. r.keeps.keep c (in_append_right c Z (hold ρ Δ ++ F) (in_append_left c (hold ρ Δ) F g)))
        (λ c g. held_used r.answered.invariant c
        (in_append_right c (named_by d (w ∷ [])) (hold ρ Δ ++ F) (in_append_left c (hold ρ Δ) F g)));
    keeps = keeps_fewer (Z ++ (hold ρ Δ ++ F)) (Z ++ F) (without_middle Z (hold ρ Δ) F) r.keeps;
  }

  -- the situation once a word w, given for the name x, is bound to it; H are the other holds
  pub bound_situation : {σ : Store} {Z F : List ℕ} (R B : List ℕ) {H : List ℕ} {ρ : Frame} {δ : Env} {n x : ℕ} {w : ℤ}
      {s : State} {v : Value} {m : Meter} → occurrences x B ≡ 0 → occurrences x H ≡ 0 →
      ((y : ℕ) → C.depths y ≡ 0 → num (ρ y) ≡ δ y) →
      ((y : ℕ) → y ∈ B → Lent σ F (C.depths y) (ρ y) (δ y)) → (C.start.frugal ≡ true → (Z ++ F) ⊆ R) →
      Ended C (C.depths x) σ Z F H ρ δ n w s v m →
      Situation C s.store Z F R B (own C x ++ H) [] (updated ρ x w) (updated δ x v) n
  bound_situation {σ} {Z} {F} R B {H} {ρ} {δ} {n} {x} {w} {s} {v} {m} apart_lent fresh numbers lent rooted e = record {
    invariant = subst (λ (l : List ℕ). Invariant s.store Z l) (sym holds) e.answered.invariant;
    numbers = number_at;
    arrays = array_at;
    pending = λ y h. absurd (none_in y h);
    lent = λ y h.
        let q = apart x y B apart_lent h in
        rw (updated_there ρ x w y q, updated_there δ x v y q)
        (lent_kept Z F e.keeps (λ r g. held_used e.answered.invariant r (in_append_right r
        (named_by (C.depths x) (w ∷ [])) (hold ρ H ++ F) (in_append_right r (hold ρ H) F g))) (lent y h));
    room = subst (λ (l : List ℕ). Room Z l n) (sym holds) e.room;
    rooted = rooted;
  }
    where
      holds : hold (updated ρ x w) (own C x ++ H) ++ F ≡ named_by (C.depths x) (w ∷ []) ++ (hold ρ H ++ F)
      holds = ap (λ (l : List ℕ). l ++ F) (hold_bound C ρ x w H fresh)
          ∙ append_assoc (named_by (C.depths x) (w ∷ [])) (hold ρ H) F

      number_at : (y : ℕ) → C.depths y ≡ 0 → num (updated ρ x w y) ≡ updated δ x v y
      number_at y z = elim (ℕ_discrete y x) [
        | yes q ↦ rw (q, updated_same ρ x w, updated_same δ x v) (stands_number (ap C.depths (sym q) ∙ z)
            e.answered.stands)
        | no q ↦ rw (updated_there ρ x w y q, updated_there δ x v y q) (numbers y z)
      ]

      array_at : (y : ℕ) → y ∈ (own C x ++ H) →
          StandsFor s.store (C.depths y) (updated ρ x w y) (updated δ x v y)
      array_at y h = elim (ℕ_discrete y x) [
        | yes q ↦ rw (q, updated_same ρ x w, updated_same δ x v) e.answered.stands
        | no q ↦ rw (updated_there ρ x w y q, updated_there δ x v y q)
            (e.arrays y (hold_of_other C x y H q h))
      ]

  -- ---- a line goes on

  -- a line that gave a word for the name x, with the holds H' left
  pub name_bound : {σ : Store} {Z F R B H I P Δ : List ℕ} {ρ : Frame} {δ : Env} {k n x : ℕ} {w : ℤ} {s : State}
      {v : Value} {m : Meter} (l : Line) (H' : List ℕ) →
      holds_after C.program.borrowing C.depths l H ≡ own C x ++ H' → waits_after C.depths l ≡ [] →
      Fresh x B H' Δ → Situation C σ Z F R B I P ρ δ k →
      Ended C (C.depths x) σ Z F H' ρ δ n w s v m →
      Going C l σ Z F R B H Δ ρ δ n (updated ρ x w) s (updated δ x v) m
  name_bound {Z = Z} {F} {R} {B} {Δ = Δ} {ρ} {δ} {n = n} {x} {w} {s} {v} l H' after none fresh S e = record {
    together = e.answered.together;
    situation = subst (λ (q : List ℕ). Situation C s.store Z F R B q (waits_after C.depths l) (updated ρ x w)
        (updated δ x v) n) (sym after)
        (subst (λ (q : List ℕ). Situation C s.store Z F R B (own C x ++ H') q (updated ρ x w) (updated δ x v) n)
        (sym none) (bound_situation R B fresh.lent fresh.before S.numbers S.lent S.rooted e));
    keeps = e.keeps;
    words = λ y h. updated_there ρ x w y (apart x y Δ fresh.after h);
    values = λ y h. updated_there δ x v y (apart x y Δ fresh.after h);
  }

  -- fewer references may come
  pub ended_less : {d : ℕ} {σ : Store} {Z F Δ : List ℕ} {ρ : Frame} {δ : Env} {k : ℕ} {w : ℤ} {s : State} {v : Value}
      {m : Meter} (n : ℕ) → n ≤ k → Ended C d σ Z F Δ ρ δ k w s v m → Ended C d σ Z F Δ ρ δ n w s v m
  ended_less n h e = record {
    answered = e.answered;
    room = room_less n e.room h;
    arrays = e.arrays;
    keeps = e.keeps;
  }

  -- of the depth that is asked
  pub ended_depth : {d e : ℕ} {σ : Store} {Z F Δ : List ℕ} {ρ : Frame} {δ : Env} {n : ℕ} {w : ℤ} {s : State} {v : Value}
      {m : Meter} → d ≡ e → Ended C d σ Z F Δ ρ δ n w s v m → Ended C e σ Z F Δ ρ δ n w s v m
  ended_depth {σ = σ} {Z} {F} {Δ} {ρ} {δ} {n} {w} {s} {v} {m} h q =
      subst (λ (k : ℕ). Ended C k σ Z F Δ ρ δ n w s v m) h q

  -- a tree that ended in another frame and a later store, where what it leaves is as before
  pub ended_back : {d : ℕ} {σ τ : Store} {Z F Δ : List ℕ} {ρ ρ' : Frame} {δ δ' : Env} {n : ℕ} {w : ℤ} {s : State}
      {v : Value} {m : Meter} →
      ((y : ℕ) → y ∈ Δ → ρ' y ≡ ρ y) → ((y : ℕ) → y ∈ Δ → δ' y ≡ δ y) → Keeps σ τ (Z ++ F) →
      Ended C d τ Z F Δ ρ' δ' n w s v m → Ended C d σ Z F Δ ρ δ n w s v m
  ended_back {d} {σ} {τ} {Z} {F} {Δ} {ρ} {ρ'} {δ} {δ'} {n} {w} {s} {v} words values keeps e = record {
    answered = record {
      together = e.answered.together;
      invariant = subst (λ (l : List ℕ). Invariant s.store Z (named_by d (w ∷ []) ++ (l ++ F))) holds
          e.answered.invariant;
      stands = e.answered.stands;
    };
    room = subst (λ (l : List ℕ). Room Z (named_by d (w ∷ []) ++ (l ++ F)) n) holds e.room;
    arrays = λ y h. rw (← words y h, ← values y h) (e.arrays y h);
    keeps = keeps_trans keeps e.keeps;
  }
    where
      holds : hold ρ' Δ ≡ hold ρ Δ
      holds = image_alike (λ y. cell_of (ρ' y)) (λ y. cell_of (ρ y)) Δ (λ y h. ap cell_of (words y h))
