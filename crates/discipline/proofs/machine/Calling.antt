-- The leaf of a call: it hands over the arguments that its function owns, and lends those that it borrows.
use Rattle.prelude.specs.Kit.{ℕ, ◌≤◌, ◌+◌, ◌<◌, arith, dec_lt, false, Bool, not, ◌≡◌, refl, ◌∙◌, sym, ap, subst, ap₂}
use Rattle.prelude.specs.Kit.{inl, inr, List, ◌++◌, map, ℤ, length, leb-false}
use Rattle.semantics.specs.Basics.{occurrences, ◌∈◌}
use Rattle.semantics.specs.Value.{Value}
use Rattle.semantics.specs.Kinds.{call, picked, leaf_hands}
use Rattle.semantics.specs.Code.{Atom, leaf}
use Rattle.semantics.specs.Live.{Set, ◌∖◌, among}
use Rattle.semantics.specs.Annotate.{atom_depth}
use Rattle.semantics.specs.Meaning.{Env, do_leaf, do_call}
use Rattle.semantics.specs.Machine.{Frame, word, held, work_leaf}
use Rattle.semantics.specs.Store.{Store, cell_of}
use Rattle.laws.specs.Lists.{◌≈◌, ◌⊆◌, occurrences_append}
use Rattle.semantics.specs.Plain.{value}
use Rattle.discipline.proofs.store.Invariant.{Invariant}
use Rattle.discipline.proofs.store.Counting.{append_cases, in_append_left, in_append_right}
use Rattle.discipline.proofs.normal.Trace.{CalleeGrows}
use Rattle.discipline.proofs.machine.Discipline.{LeafFits, LineHolding, less, ◌⊑◌}
use Rattle.discipline.proofs.machine.Spending.{spend_split, less_counts}
use Rattle.discipline.proofs.machine.Growth.{grown}
use Rattle.discipline.proofs.machine.Agreement.{agree_map}
use Rattle.discipline.proofs.machine.Frames.{hold, Room, Setting, Situation, Arguments, named_all, given}
use Rattle.discipline.proofs.machine.Frames.{owned_cells, borrowed_cells}
use Rattle.discipline.proofs.machine.Images.{source, image_in}
use Rattle.discipline.proofs.machine.Standing.{readable}
use Rattle.discipline.proofs.machine.Places.{picked_map, handed_places}
use Rattle.discipline.proofs.machine.Atoms.{handed_arguments, handed_same, hand_over, atoms_stand}
use Rattle.discipline.proofs.machine.Acquiring.{roots_cover}
use Rattle.discipline.proofs.machine.Fits.{call_fits}
use Rattle.discipline.proofs.machine.Claims.{LeafClaim, CallClaim, Gave, gave, begin_step}
use Rattle.discipline.proofs.machine.Size.{leaf_adds}

-- the atoms of a call of f
module _ (C : Setting) (f : ℕ) (us : List Atom) where
  abbrev lends : ℕ → Bool
  lends = C.program.borrowing f

  abbrev owns : ℕ → Bool
  owns i = not (lends i)

  abbrev ds : List ℕ
  ds = (C.program.signatures f).parameters

  -- the cells of the words at certain places are those of the names there
  cells_at : (ρ : Frame) (at : ℕ → Bool) → map (atom_depth C.depths) us ≡ ds →
      hold ρ (given C (picked at 0 us)) ≡ named_all (picked at 0 ds) (picked at 0 (map (word ρ) us))
  cells_at ρ at depths = handed_arguments C ρ (picked at 0 us)
      ∙ ap₂ {C = List ℕ} named_all
      (picked_map (atom_depth C.depths) at 0 us ∙ ap (picked at 0) depths) (picked_map (word ρ) at 0 us)

  -- what is handed over is held, and what is lent is lent already or held by what is left
  module _ (B H : List ℕ) (spends : given C (picked owns 0 us) ⊑ H)
      (reads : given C (picked lends 0 us) ⊆ (B ++ less (given C (picked owns 0 us)) H)) where
    abbrev H' : List ℕ
    H' = less (given C (picked owns 0 us)) H

    -- so every atom may be read
    pub all_readable : given C us ⊆ (B ++ H)
    all_readable y h = elim (dec_lt 0 (occurrences y (given C (picked lends 0 us)))) [
      | yes g ↦ omega (
        arith,
        reads y g,
        occurrences_append y B H,
        occurrences_append y B H',
        less_counts (given C (picked owns 0 us)) H y,
      )
      | no g ↦ omega (arith, h, g, handed_places C lends 0 us y, spends y, occurrences_append y B H)
    ]

    -- and the caller or another keeps the cells that are lent
    lent_cells : {σ : Store} {Z F R P : List ℕ} {ρ : Frame} {δ : Env} {n : ℕ} → Situation C σ Z F R B H P ρ δ n →
        map (atom_depth C.depths) us ≡ ds → borrowed_cells C.program f (map (word ρ) us) ⊆ (hold ρ H' ++ F)
    lent_cells {F = F} {ρ = ρ} S depths c h =
        let q = source (λ y. cell_of (ρ y)) c (given C (picked lends 0 us))
        (subst (λ (l : List ℕ). c ∈ l) (sym (cells_at ρ lends depths)) h) in
        let y = q.from in
        subst (λ (k : ℕ). k ∈ (hold ρ H' ++ F)) (sym q.is) (elim (append_cases y B H' (reads y q.member)) [
          | inl g ↦ in_append_right (cell_of (ρ y)) (hold ρ H') F (S.lent y g).kept
          | inr g ↦ in_append_left (cell_of (ρ y)) (hold ρ H') F (image_in (λ z. cell_of (ρ z)) y H' g)
        ])

-- what a call of f is given: words that stand for values, beside the references F of others
pub record CallReady (C : Setting) (f : ℕ) (ws : List ℤ) (vs : List Value) (Z F : List ℕ) (σ : Store) : Type 0 where
  pub there : f < length C.program.routines
  pub arguments : Arguments σ (C.program.signatures f).parameters ws vs
  pub lent : borrowed_cells C.program f ws ⊆ F
  pub holds : Invariant σ Z (owned_cells C.program f ws ++ F)
  pub room : Room Z (owned_cells C.program f ws ++ F) C.need

module _ (C : Setting) (f x : ℕ) (us : List Atom) where
  -- the caller's holds while the call is worked
  abbrev pub spared : List ℕ → List ℕ
  spared H = less (given C (leaf_hands C.program.borrowing (call f) us)) H

  pub call_depths : LeafFits C.program C.depths x (call f) us →
      (map (atom_depth C.depths) us ≡ ds C f us) × (C.depths x ≡ (C.program.signatures f).result)
  call_depths fit = call_fits C us (C.program.signatures f) (C.depths x) fit.gives

  pub call_ready : {σ : Store} {Z F R B H P : List ℕ} {ρ : Frame} {δ : Env} {n : ℕ} →
      LeafFits C.program C.depths x (call f) us →
      LineHolding C.program.borrowing C.depths B (leaf x (call f) us) H P →
      Situation C σ Z F R B H P ρ δ (leaf_adds + n) → C.need ≤ n →
      CallReady C f (map (word ρ) us) (map (value δ) us) Z (hold ρ (spared H) ++ F) σ
  call_ready {σ} {Z} {F} {R} {B} {H} {P} {ρ} {δ} {n} fit rule S need = record {
    there = leb-false (length C.program.routines) f fit.calls;
    arguments = subst (λ (l : List ℕ). Arguments σ l ws (map (value δ) us)) depths.0
        (atoms_stand C (B ++ H) S.numbers (readable C S) us (all_readable C f us B H rule.0 rule.1));
    lent = lent_cells C f us B H rule.0 rule.1 S depths.0;
    holds = hand_over C ρ handed_on H (spared H) F cells split given_holds S.invariant;
    room = record {
      few = λ c. omega (
        arith,
        S.room.few c,
        need,
        handed_same C ρ handed_on H (spared H) F cells split given_holds c,
      );
    };
  }
    where
      handed_on : List Atom
      handed_on = picked (owns C f us) 0 us

      ws : List ℤ
      ws = map (word ρ) us

      cells : List ℕ
      cells = owned_cells C.program f ws

      split : H ≈ given C handed_on ++ spared H
      split = spend_split (given C handed_on) H rule.0

      depths : (map (atom_depth C.depths) us ≡ ds C f us) × (C.depths x ≡ (C.program.signatures f).result)
      depths = call_depths fit

      given_holds : hold ρ (given C handed_on) ≡ cells
      given_holds = cells_at C f us ρ (owns C f us) depths.0

module _ (C : Setting) (grows : CalleeGrows C.meant) where
  pub leaf_call : CallClaim C → (f : ℕ) → LeafClaim C (call f)
  unfolding work_leaf do_leaf do_call
  leaf_call claim f x us A B H P fit rule frugal Z F R ρ δ n s m t S need =
      begin_step C (λ σ. Gave C (call f) x σ Z rest) false t S
      (λ u. grown (grows f (map (value δ) us)))
      (λ u v s' m' t' S' w.
      let ready = call_ready C f x us fit rule S' need in
      agree_map (λ r s'' v'' m'' q. gave C (C.program.signatures f).result refl
      (call_depths C f x us fit).1 q)
      (claim f (map (word ρ) us) (map (value δ) us) Z rest (R ++ held C.depths live ρ) s' m' ready.there t'
      ready.arguments ready.lent ready.holds ready.room
      (λ g. roots_cover C Z F R (spared C f x us H) live ρ (S'.rooted g) (frugal g).1)))
    where
      -- the references beside the call's
      rest : List ℕ
      rest = hold ρ (spared C f x us H) ++ F

      live : Set
      live = among (picked (lends C f us) 0 us) (A ∖ x)
