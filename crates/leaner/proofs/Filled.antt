-- The line of a loop that fills a new cell in both runs, whatever its passes put there.
use Rattle.prelude.specs.Kit.{ℕ, ◌≤◌, ◌+◌, ◌<◌, suc, arith, true, ◌≡◌, refl, sym, subst, List, [], ◌∷◌, ◌++◌, ℤ, pos}
use Rattle.prelude.specs.Kit.{length}
use Rattle.semantics.specs.Basics.{tabulate, updated}
use Rattle.semantics.specs.Outcome.{Run, done, onward, ◌>>=◌, ◌>>◌, give, passes}
use Rattle.semantics.specs.Code.{Atom}
use Rattle.semantics.specs.Annotate.{NameDepths, atom_depth}
use Rattle.semantics.specs.Machine.{State, Frame, Routine, Program, word, with_store, with_left, step}
use Rattle.semantics.specs.Machine.{elements_of, acquire}
use Rattle.semantics.specs.Store.{cell, cell_of, has_free}
use Rattle.laws.specs.Lists.{◌⊆◌}
use Rattle.laws.specs.Updates.{updated_same}
use Rattle.discipline.proofs.machine.Images.{without_middle}
use Rattle.discipline.proofs.machine.Frames.{hold, Setting, given, own}
use Rattle.discipline.proofs.machine.Standing.{none_in}
use Rattle.discipline.proofs.machine.Situations.{touch_together}
use Rattle.discipline.proofs.machine.Elements.{words_of}
use Rattle.discipline.proofs.machine.Acquiring.{after_acquire}
use Rattle.discipline.proofs.machine.Rules.{Fresh}
use Rattle.discipline.proofs.machine.Passes.{kept_aside, outer, lent_names}
use Rattle.leaner.proofs.Leaner.{matching_none}
use Rattle.leaner.proofs.Runs.{Race, Starts, Tied, Twins, both, twins_bind, after_step}
use Rattle.leaner.proofs.Beside.{Around, Here, here_stepped, array_same, framed_fewer}
use Rattle.leaner.proofs.Claims.{first_setting, leaner_setting, Before, LineEnded}
use Rattle.leaner.proofs.Binding.{framed_stays, line_bound}
use Rattle.leaner.proofs.Acquiring.{both_free, with_new, tied_acquired, acquire_twins}
use Rattle.leaner.proofs.Reading.{array_matching, read_used, read_same, touched_tied}
use Rattle.leaner.proofs.Making.{stored, held_stays}
use Rattle.leaner.proofs.Passes.{at_element, passes_twins}
use Rattle.leaner.proofs.Filling.{around_new, fill_begins, Filling}
use Rattle.leaner.proofs.Lending.{lend_before, lend_back}

-- a cell in use is touched after a step
unfoldable pub here_read : {C : Setting} {a : Around} {H P : List ℕ} {ρ : Frame} {n : ℕ} {s : State} (j : ℕ) (w : ℤ) →
    Here C a H P ρ n s → step s ≡ done tt (with_left s j) → 0 < (cell s.store (cell_of w)).count →
    Here C a H P ρ n (at_element s j w)
unfolding with_store with_left
here_read {C} {a} {H} {P} {ρ} {n} {s} j w q e used = record {
  values = q.values;
  meter = stepped.meter;
  together = touch_together (cell_of w) s.store q.situation.invariant used refl refl stepped.together;
  situation = q.situation;
}
  where
    stepped : Here C a H P ρ n (with_left s j)
    stepped = here_stepped q e

module _ {r : Race} (starts : Starts r) (p : Program) (rs : List Routine) (n : ℕ) (Γ : NameDepths) where
  abbrev C : Setting
  C = first_setting r p n Γ

  abbrev C' : Setting
  C' = leaner_setting r p rs n Γ

  -- ---- the passes, and what follows them

  module _ {E : List ℕ} {π : ℕ → ℕ} {b b' : Around} {I I' : List ℕ} {ρ ρ' : Frame} {m m' : ℕ} {s s' : State}
      (q : Before r p rs n Γ [] E π b b' I I' [] [] ρ ρ' (suc m) (suc m') s s') (d : ℕ) where
    -- i passes are done, and filled the cells c and c'
    abbrev pub Passed : (c c' i : ℕ) (w : ℤ) (t : State) (w' : ℤ) (t' : State) → Type 0
    Passed c c' i = Filling r p rs n Γ d E π (around_new c b) (around_new c' b') I I' ρ ρ' q.first.values
        q.leaner.values m m' s.store s'.store i

    filling_begins : d ≤ 3 → has_free s.store ≡ true → has_free s'.store ≡ true →
        Passed s.store.first s'.store.first 0 (pos s.store.first) (after_acquire d [] s)
        (pos s'.store.first) (after_acquire d [] s')
    unfolding with_store cell_of
    filling_begins shallow free free' = record {
      first = fill_begins d shallow free q.first;
      leaner = fill_begins d shallow free' q.leaner;
      cells = with_new starts (stored starts p rs n Γ q) q.tied;
      tied = tied_acquired starts (stored starts p rs n Γ q) q.tied d [] [] free (omega arith)
          (matching_none π s'.store d);
      framed = framed_stays b' I' q.framed (λ y h. h) (λ y h. (q.leaner.situation.lent y h).kept)
          (held_stays starts p rs n Γ q I' (λ y h. h) free);
      result = sym (updated_same π s'.store.first s.store.first);
      stays = held_stays starts p rs n Γ q [] (λ y h. absurd (none_in y h)) free;
    }

    pub filled_passes : d ≤ 3 → (k k' : ℕ) → k ≡ k' → (g g' : ℤ → ℤ → ℕ → Run State ℤ) {A : Type 0}
        {Q : A → State → A → State → Type 0} (finish finish' : ℤ → Run State A) →
        ((c c' i : ℕ) (w : ℤ) (t : State) (w' : ℤ) (t' : State) → i < k' → Passed c c' i w t w' t' →
        Twins r (Passed c c' (suc i)) (g (pos c) w i t) (g' (pos c') w' i t')) →
        ((c c' : ℕ) (w : ℤ) (t : State) (w' : ℤ) (t' : State) → Passed c c' k' w t w' t' →
        Twins r Q (finish w t) (finish' w' t')) →
        Twins r Q
        (onward (λ c. passes (g c) c (tabulate 0 k (λ i. i)) >>= finish) (acquire b.roots d [] s))
        (onward (λ c. passes (g' c) c (tabulate 0 k' (λ i. i)) >>= finish') (acquire b'.roots d [] s'))
    filled_passes shallow k k' e g g' finish finish' pass next = rw e
        (acquire_twins starts (stored starts p rs n Γ q) q.tied _ _ b.roots b'.roots d [] [] (λ free.
        twins_bind r (passes_twins r (Passed s.store.first s'.store.first) _ _ k' _ _ _ _
        (pass s.store.first s'.store.first)
        (filling_begins shallow free (both_free starts (stored starts p rs n Γ q) q.tied free)))
        (λ w t w' t' _ _ z. next s.store.first s'.store.first w t w' t' z)))

  -- ---- the line of a loop that lends its array

  module _ {X E : List ℕ} {π : ℕ → ℕ} {a a' : Around} {H H' P P' : List ℕ} {ρ ρ' : Frame} {m m' : ℕ} {s s' : State}
      (v : Atom) (reads : given C (v ∷ []) ⊆ (a.lent ++ H)) (reads' : given C (v ∷ []) ⊆ (a'.lent ++ H'))
      (q : Before r p rs n Γ X E π a a' H H' P P' ρ ρ' (suc m) (suc m') s s') (e : ℕ)
      (array : atom_depth Γ v ≡ suc e) where
    -- the array has been read
    module _ (j j' : ℕ) (f : step s ≡ done tt (with_left s j)) (f' : step s' ≡ done tt (with_left s' j'))
        (tied : Tied r E π (with_left s j) (with_left s' j')) where
      unfoldable pub read_before : Before r p rs n Γ X E π a a' H H' P P' ρ ρ' (suc m) (suc m')
          (at_element s j (word ρ v)) (at_element s' j' (word ρ' v))
      unfolding with_left with_store
      read_before = record {
        first = here_read j (word ρ v) q.first f used;
        leaner = here_read j' (word ρ' v) q.leaner f' used';
        tied = touched_tied (cell_of (word ρ v)) (cell_of (word ρ' v)) tied;
        framed = q.framed;
        images = q.images;
        owes = q.owes;
        exempt = q.exempt;
      }
        where
          used' : 0 < (cell s'.store (cell_of (word ρ' v))).count
          used' = read_used r p rs n Γ q v reads' (omega (arith, array))

          used : 0 < (cell s.store (cell_of (word ρ v))).count
          used = subst (λ (c : ℕ). 0 < (cell s.store c).count)
              (sym ((read_same r p rs n Γ q v reads').cell (omega (arith, array))))
              (q.tied.stores.used (cell_of (word ρ' v)) used')

    -- over the roots Q; after the passes the cell is bound to x
    module _ {Δ : List ℕ} (x d : ℕ) (deep : Γ x ≡ suc d) (shallow : d ≤ 3) (new : Fresh x a'.lent H' Δ)
        (Q Q' : List ℕ) where
      pub filling_line : (g g' : ℤ → ℤ → ℕ → Run State ℤ) →
          ((c c' i : ℕ) (w : ℤ) (t : State) (w' : ℤ) (t' : State) → i < length (words_of s'.store (word ρ' v)) →
          Passed (lend_before starts p rs n Γ v reads reads' q Q Q') d c c' i w t w' t' →
          Twins r (Passed (lend_before starts p rs n Γ v reads reads' q Q Q') d c c' (suc i)) (g (pos c) w i t)
          (g' (pos c') w' i t')) →
          Twins r (LineEnded r p rs n Γ E π a' (own C x ++ H') [])
          ((do
            step
            ws ← elements_of (word ρ v)
            c ← acquire Q d []
            w ← passes (g c) c (tabulate 0 (length ws) (λ i. i))
            give (updated ρ x w)) s)
          ((do
            step
            ws ← elements_of (word ρ' v)
            c ← acquire Q' d []
            w ← passes (g' c) c (tabulate 0 (length ws) (λ i. i))
            give (updated ρ' x w)) s')
      unfolding elements_of onward with_store with_left lend_before read_before here_read
      filling_line g g' pass = after_step r _ _ q.tied (λ j j' f f' tied.
          filled_passes (lend_before starts p rs n Γ v reads reads' (read_before j j' f f' tied) Q Q') d shallow _ _
          (array_matching r p rs n Γ q v reads' e array).size g g' (λ w. give (updated ρ x w))
          (λ w. give (updated ρ' x w)) pass
          (λ c c' w t w' t' z. both (line_bound r p rs n Γ x new (array_same (omega (arith, deep)) z.result)
          (framed_fewer (lent_names C' v a'.lent H' ++ outer C' v a'.lent H') (a'.lent ++ H')
          (lend_back starts p rs n Γ v reads reads' q Q Q') z.framed)
          (λ y h. z.stays y (without_middle a'.aside (hold ρ' (kept_aside C' v a'.lent H')) a'.others y h))
          z.tied)))
