-- The leaf of a replicate: a new array names its value so many times, and then the value is retained as often. In
-- between, the store's counts are short of the array's references; but the order does not matter, so that the store is
-- always one in which the value was retained first and the array acquired then.
use Rattle.prelude.specs.Kit.{ℕ, ◌≤◌, ◌+◌, ◌<◌, suc, zero, arith, true, ◌≡◌, refl, ◌∙◌, sym, ap, subst, inl, inr, ◌≢◌}
use Rattle.prelude.specs.Kit.{some, List, [], ◌∷◌, ◌++◌, map, ℤ, pos, nat_abs, drop, length-replicate}
use Rattle.std.proofs.Math.ListN as List
use Rattle.semantics.specs.Basics.{occurrences, ◌∈◌}
use Rattle.semantics.specs.Outcome.{done, onward, give}
use Rattle.semantics.specs.Value.{Value, list}
use Rattle.semantics.specs.Kinds.{replicate}
use Rattle.semantics.specs.Live.{among, ◌∖◌}
use Rattle.semantics.specs.Annotate.{atom_depth}
use Rattle.semantics.specs.Meaning.{Meter, do_leaf, do_replicate}
use Rattle.semantics.specs.Machine.{State, word, with_store, touching, held, work_leaf, if_array, retain_word}
use Rattle.semantics.specs.Machine.{retain_times}
use Rattle.semantics.specs.Store.{Store, cell, cell_count, cell_of, has_free, acquired, retained}
use Rattle.semantics.specs.Sound.{free_list}
use Rattle.semantics.specs.Demands.{value_of, touched, replayed}
use Rattle.laws.specs.Lists.{occurs_first}
use Rattle.laws.specs.Levels.{touching_no_higher}
use Rattle.semantics.specs.Plain.{value}
use Rattle.discipline.proofs.store.Invariant.{Invariant, Alike, StandsFor}
use Rattle.discipline.proofs.store.Tabulate.{map_replicate}
use Rattle.discipline.proofs.store.Change.{off_free_list}
use Rattle.discipline.proofs.store.Kept.{alike_self, alike_trans, stands_kept}
use Rattle.discipline.proofs.store.Retain.{Retains, retain}
use Rattle.discipline.proofs.store.Acquire.{Takes, acquire_takes}
use Rattle.discipline.proofs.store.Order.{retained_first, retained_free, retained_acquired}
use Rattle.discipline.proofs.machine.Discipline.{less}
use Rattle.discipline.proofs.machine.Images.{first_or_later, one_more}
use Rattle.discipline.proofs.machine.Growth.{give_grows}
use Rattle.discipline.proofs.machine.Agreement.{Start, Together, Agree, both, with_store_together}
use Rattle.discipline.proofs.machine.Frames.{hold, Room, Setting, Answered, Returned}
use Rattle.discipline.proofs.machine.Situations.{room_less, room_one}
use Rattle.discipline.proofs.machine.Retaining.{retained_state, Counted}
use Rattle.discipline.proofs.machine.Standing.{none_in, atom_read, atom_number, named_one, names_one, name_held}
use Rattle.discipline.proofs.machine.Standing.{array_cell}
use Rattle.discipline.proofs.machine.Atoms.{handed_rest}
use Rattle.discipline.proofs.machine.Acquiring.{out_of_cells, acquire_agrees, acquire_together, after_acquire}
use Rattle.discipline.proofs.machine.Acquiring.{array_stored, array_made}
use Rattle.discipline.proofs.machine.Fits.{replicate_fits}
use Rattle.discipline.proofs.machine.Claims.{LeafClaim, Gave, gave}
use Rattle.discipline.proofs.machine.Making.{begin_counted}

-- ---- a word retained so many times

abbrev pub retained_often : ℕ → ℤ → State → State
retained_often zero w s = s
retained_often (suc n) w s = retained_often n w (retained_state w s)

retains_often : (n : ℕ) (w : ℤ) (s : State) → retain_times n w s ≡ done tt (retained_often n w s)
unfolding retain_times retain_word onward
retains_often zero w s = refl
retains_often (suc n) w s = retains_often n w (retained_state w s)

untouched : (σ : Store) (c : ℕ) → occurrences c (free_list σ) ≡ 0 → touching σ c ≡ []
unfolding touching
untouched σ c e = rw e refl

-- after an array of the words ws was acquired in σ, while the word w is retained
module _ (start : Start) (Z R : List ℕ) (m : Meter) (σ : Store) (d : ℕ) (ws : List ℤ) (w : ℤ) where
  abbrev u : ℕ
  u = cell_of w

  -- w was retained n times: as if that came before the acquiring
  record Often (n : ℕ) (s : State) : Type 0 where
    pub before : Store
    pub stored : s.store ≡ acquired d ws before
    pub free : has_free before ≡ true
    pub first : before.first ≡ σ.first
    pub holds : Invariant before Z (List.replicate n u ++ R)
    pub counted : Counted before (List.replicate n u ++ R) u
    pub alike : (r : ℕ) → Alike σ before r
    pub together : Together start s m

  module _ {n : ℕ} {s : State} (o : Often n s) (room : Room Z (List.replicate n u ++ R) 1) where
    abbrev τ : Store
    τ = o.before

    used : 0 < (cell τ u).count
    used = omega (arith, o.counted, o.holds.counts u)

    takes : Takes τ (acquired d ws τ)
    takes = acquire_takes d ws o.holds o.free

    other : u ≢ τ.first
    other e = omega (arith, used, takes.was_free, ap (λ (k : ℕ). (cell τ k).count) e)

    r : Retains τ (retained u τ) u Z (List.replicate n u ++ R)
    r = retain u o.holds o.counted (omega (arith, room.few u))

    takes_then : Takes (retained u τ) (acquired d ws (retained u τ))
    takes_then = acquire_takes d ws r.holds (retained_free u τ ∙ o.free)

    stored_then : retained u s.store ≡ acquired d ws (retained u τ)
    stored_then = ap (retained u) o.stored ∙ retained_acquired d u ws τ other o.free

    off_list : occurrences u (free_list s.store) ≡ 0
    off_list = omega (
      arith,
      off_free_list o.holds u used,
      ap (occurrences u) takes.free,
      one_more u τ.first (free_list (acquired d ws τ)),
      ap (λ (υ : Store). occurrences u (free_list υ)) o.stored,
    )

    same_list : free_list (retained u s.store) ≡ free_list s.store
    same_list = ap free_list stored_then
        ∙ ap (λ (l : List ℕ). drop 1 l) (sym takes_then.free ∙ r.free ∙ takes.free)
        ∙ ap free_list (sym o.stored)

    same_count : cell_count (retained u s.store) ≡ cell_count s.store
    same_count = ap cell_count stored_then ∙ takes_then.cells ∙ r.cells ∙ sym takes.cells
        ∙ ap cell_count (sym o.stored)

    once_more : Often (suc n) (retained_state w s)
    unfolding with_store touched replayed
    once_more = record {
      before = retained u τ;
      stored = stored_then;
      free = retained_free u τ ∙ o.free;
      first = retained_first u τ ∙ o.first;
      holds = r.holds;
      counted = omega (arith, occurs_first u (List.replicate n u ++ R));
      alike = λ q. alike_trans (o.alike q) (r.alike q);
      together = with_store_together (retained u s.store) (touching s.store u)
          (touching_no_higher s.store u) (rw (untouched s.store u off_list) refl)
          (rw (untouched s.store u off_list) (ap some same_list)) same_count o.together;
    }

  -- so many times more
  times_more : (k n j : ℕ) (s : State) → k + n ≡ j → Room Z (List.replicate n u ++ R) k → Often n s →
      Often j (retained_often k w s)
  times_more zero n j s e room o = subst (λ (i : ℕ). Often i s) (omega arith) o
  times_more (suc k) n j s e room o = times_more k (suc n) j (retained_state w s) (omega arith) (room_one u k room)
      (once_more o (room_less 1 room (omega arith)))

-- ---- an array of one array many times

names_same : (n : ℕ) (w : ℤ) (q : ℕ) → q ∈ map cell_of (List.replicate n w) → q ≡ cell_of w
names_same zero w q h = absurd (none_in q h)
names_same (suc n) w q h = elim (first_or_later q (cell_of w) (map cell_of (List.replicate n w)) h) [
  | inl e ↦ e
  | inr g ↦ names_same n w q g
]

module _ {start : Start} {Z R : List ℕ} {s : State} {m : Meter} (d n : ℕ) (w : ℤ) (v : Value)
    (t : Together start s m) (inv : Invariant s.store Z R) (free : has_free s.store ≡ true) (few : n ≤ 16)
    (shallow : suc d ≤ 3) (stands : StandsFor s.store (suc d) w v) (counted : Counted s.store R (cell_of w))
    (room : Room Z R 16) where
  abbrev ws : List ℤ
  ws = List.replicate n w

  abbrev last : State
  last = retained_often n w (after_acquire (suc d) ws s)

  often : Often start Z R m s.store (suc d) ws w n last
  unfolding with_store
  often = times_more start Z R m s.store (suc d) ws w n 0 n (after_acquire (suc d) ws s) (omega arith)
      (room_less n room few) record {
        before = s.store;
        stored = refl;
        free = free;
        first = refl;
        holds = inv;
        counted = counted;
        alike = alike_self s.store;
        together = acquire_together (suc d) ws (acquire_takes (suc d) ws inv free) t;
      }

  stands_then : StandsFor often.before (suc d) w v
  stands_then = stands_kept stands (λ q h. (
    often.alike q,
    rw (named_one (suc d) w q h) (omega (arith, often.counted, often.holds.counts (cell_of w))),
  ))

  made : Returned start (suc (suc d)) often.before Z R (pos often.before.first) last (list (List.replicate n v))
      m
  made = array_stored (suc d) ws (List.replicate n v) often.together often.stored
      (subst (λ (l : List ℕ). Invariant often.before Z (l ++ R)) (sym (map_replicate cell_of n w)) often.holds)
      often.free (omega (arith, few, length-replicate n w)) shallow
      (λ q h. rw (names_same n w q h) (stands_then.fits (cell_of w) (names_one (suc d) w (omega arith))).1)
      (map_replicate (value_of often.before (suc d)) n w ∙ ap (List.replicate n) stands_then.means)

  pub many_made : Returned start (suc (suc d)) s.store Z R (pos s.store.first) last (list (List.replicate n v)) m
  many_made = record {
    answered = subst (λ (k : ℕ). Answered start (suc (suc d)) Z R (pos k) last (list (List.replicate n v)) m)
        often.first made.answered;
    keeps = record { keep = λ q h. alike_trans (often.alike q) (made.keeps.keep q h) };
  }

-- ---- the leaf

module _ (C : Setting) where
  -- what follows the acquiring, by the depth e of the value
  finish : {x : ℕ} {Z R : List ℕ} {s : State} {m : Meter} (n e : ℕ) (w : ℤ) (v : Value) → C.depths x ≡ suc e → e ≤ 3 →
      n ≤ 16 → Together C.start s m → Invariant s.store Z R → has_free s.store ≡ true →
      StandsFor s.store e w v → (0 < e → cell_of w ∈ R) → Room Z R 16 →
      Agree C.start (Gave C replicate x s.store Z R)
      (onward (λ _. give (pos s.store.first)) (if_array e (retain_times n w)
      (after_acquire e (List.replicate n w) s))) (done (list (List.replicate n v)) m)
  unfolding onward
  finish {s = s} n zero w v deep shallow few t inv free stands held_value room =
      both (gave C 1 refl deep (array_made 0 (List.replicate n w) (List.replicate n v) t inv free
      (omega (arith, few, length-replicate n w)) (omega arith) (λ r h. absurd (none_in r h))
      (map_replicate (value_of s.store 0) n w ∙ ap (List.replicate n) stands.means)))
  finish {s = s} n (suc e) w v deep shallow few t inv free stands held_value room =
      rw (retains_often n w (after_acquire (suc e) (List.replicate n w) s))
      (both (gave C (suc (suc e)) refl deep (many_made e n w v t inv free few shallow stands
      (omega (arith, held_value (omega arith))) room)))

  pub leaf_replicate : LeafClaim C replicate
  unfolding work_leaf do_leaf do_replicate less
  leaf_replicate x [] A B H P fit rule frugal = absurd (omega (arith, fit.limits))
  leaf_replicate x (a ∷ []) A B H P fit rule frugal = absurd (omega (arith, fit.limits))
  leaf_replicate x (a ∷ (b ∷ (c ∷ us))) A B H P fit rule frugal = absurd (omega (arith, fit.limits))
  leaf_replicate x (a ∷ (b ∷ [])) A B H P fit rule frugal = λ Z F R ρ δ n s m t S need.
      let depths = replicate_fits (atom_depth C.depths a) (atom_depth C.depths b) (C.depths x) fit.gives in
      let count = nat_abs (word ρ a) in
      let e = atom_depth C.depths b in
      let reads = handed_rest C a (b ∷ []) (B ++ H) rule.1 in
      rw (atom_number C S a depths.0)
      (begin_counted C (λ σ. Gave C replicate x σ Z (hold ρ H ++ F)) (word ρ a) _ _ t S (λ s' m' t' S' few wants.
      acquire_agrees (R ++ held C.depths (among (a ∷ (b ∷ [])) (A ∖ x)) ρ) e (List.replicate count (word ρ b)) _ _
      (give_grows _) t' wants (out_of_cells s' (among (a ∷ (b ∷ [])) (A ∖ x)) S' (λ f. (frugal f).0))
      (λ free. finish count e (word ρ b) (value δ b) depths.2 depths.1 few t' S'.invariant free
      (atom_read C S' b refl reads) (λ h. array_cell C ρ (hold ρ H ++ F) b h (λ y g. name_held C S' y (reads y g)))
      (room_less 16 S'.room (omega arith)))))
