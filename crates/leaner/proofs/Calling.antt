-- A call in both runs: its words are the same, and so are the parameters of its function.
use Rattle.prelude.specs.Kit.{ℕ, ◌<◌, arith, ℕ_discrete, Bool, ◌≡◌, refl, sym, subst, inl, inr, List, [], ◌∷◌, ◌++◌}
use Rattle.prelude.specs.Kit.{map, ℤ}
use Rattle.semantics.specs.Basics.{occurrences, ◌∈◌}
use Rattle.semantics.specs.Value.{Value}
use Rattle.semantics.specs.Kinds.{call, picked, leaf_hands}
use Rattle.semantics.specs.Code.{Atom}
use Rattle.semantics.specs.Annotate.{NameDepths, atom_depth}
use Rattle.semantics.specs.Meaning.{Meter}
use Rattle.semantics.specs.Machine.{State, Frame, Routine, Program, word, work_leaf, framed}
use Rattle.semantics.specs.Store.{cell_of}
use Rattle.laws.specs.Lists.{◌⊆◌, hits}
use Rattle.laws.specs.Updates.{updated_same, updated_there}
use Rattle.semantics.specs.Plain.{value}
use Rattle.discipline.proofs.store.Counting.{in_append_right}
use Rattle.discipline.proofs.machine.Discipline.{holds_of, less}
use Rattle.discipline.proofs.machine.Spending.{less_in}
use Rattle.discipline.proofs.machine.Agreement.{Together}
use Rattle.discipline.proofs.machine.Frames.{hold, Setting, given}
use Rattle.discipline.proofs.machine.Atoms.{handed_first, handed_rest}
use Rattle.discipline.proofs.machine.Calling.{CallReady, call_depths, call_ready, all_readable}
use Rattle.discipline.proofs.machine.Parameters.{picked_in, holds_in, holds_arrays}
use Rattle.leaner.proofs.Runs.{Race, Tied, Twins}
use Rattle.leaner.proofs.Beside.{Around, Same, Framed, images_held}
use Rattle.leaner.proofs.Owing.{owes_less, owes_in}
use Rattle.leaner.proofs.Claims.{first_setting, leaner_setting, WordsGiven, Before}
use Rattle.leaner.proofs.Leaves.{LeafTwins}
use Rattle.leaner.proofs.Reading.{read_same}

-- ---- words of some depths

pub data SameWords (π : ℕ → ℕ) : List ℕ → List ℤ → List ℤ → Type 0 where
  none : SameWords π [] [] []
  more : {d : ℕ} {w w' : ℤ} {ds : List ℕ} {ws ws' : List ℤ} → Same d π w w' → SameWords π ds ws ws' →
      SameWords π (d ∷ ds) (w ∷ ws) (w' ∷ ws')

-- the words of parameters that are numbers, and of those that are arrays
framed_numbers : {π : ℕ → ℕ} (Γ : NameDepths) (xs : List ℕ) {ws ws' : List ℤ} → SameWords π (map Γ xs) ws ws' →
    (y : ℕ) → Γ y ≡ 0 → framed xs ws y ≡ framed xs ws' y
unfolding framed
framed_numbers Γ [] none y e = refl
framed_numbers Γ (x ∷ xs) (more {w = w} {w'} {ws = ws} {ws'} q rest) y e = elim (ℕ_discrete y x) [
  | yes h ↦ rw (h, updated_same (framed xs ws) x w, updated_same (framed xs ws') x w')
      (q.number (subst (λ (n : ℕ). Γ n ≡ 0) h e))
  | no f ↦ rw (updated_there (framed xs ws) x w y f, updated_there (framed xs ws') x w' y f)
      (framed_numbers Γ xs rest y e)
]

framed_cells : {π : ℕ → ℕ} (Γ : NameDepths) (xs : List ℕ) {ws ws' : List ℤ} → SameWords π (map Γ xs) ws ws' → (y : ℕ) →
    y ∈ xs → 0 < Γ y → cell_of (framed xs ws y) ≡ π (cell_of (framed xs ws' y))
unfolding framed occurrences
framed_cells Γ [] none y h d = absurd (omega (arith, h))
framed_cells {π} Γ (x ∷ xs) (more {w = w} {w'} {ws = ws} {ws'} q rest) y h d = elim (hits y x) [
  | inl e ↦ rw (e.0, updated_same (framed xs ws) x w, updated_same (framed xs ws') x w')
      (q.cell (subst (λ (n : ℕ). 0 < Γ n) e.0 d))
  | inr e ↦ rw (updated_there (framed xs ws) x w y e.0, updated_there (framed xs ws') x w' y e.0)
      (framed_cells Γ xs rest y (omega (arith, h, e.1)) d)
]

-- the frames of two calls, under the depths of the function's names
pub parameters_framed : {π : ℕ → ℕ} (Γ : NameDepths) (xs : List ℕ) {ws ws' : List ℤ} (K : List ℕ) →
    SameWords π (map Γ xs) ws ws' → ((y : ℕ) → y ∈ K → (y ∈ xs) × (0 < Γ y)) →
    Framed Γ π (framed xs ws) (framed xs ws') K
parameters_framed Γ xs K q deep = record {
  numbers = λ y e. framed_numbers Γ xs q y e;
  cells = λ y h. framed_cells Γ xs q y (deep y h).0 (deep y h).1;
}

-- a parameter at one of certain places that is an array
pub array_parameter : (Γ : NameDepths) (at : ℕ → Bool) (xs : List ℕ) (y : ℕ) → y ∈ holds_of Γ (picked at 0 xs) →
    (y ∈ xs) × (0 < Γ y)
array_parameter Γ at xs y h =
    (picked_in at 0 xs y (holds_in Γ (picked at 0 xs) y h), holds_arrays Γ (picked at 0 xs) y h)

-- ---- the leaf

-- one of the two calls
pub record Called (C : Setting) (a : Around) (f : ℕ) (ws : List ℤ) (s : State) : Type 0 where
  pub values : List Value
  pub meter : Meter
  pub together : Together C.start s meter
  pub ready : CallReady C f ws values a.aside a.others s.store

-- of two calls on words that are the same, whatever the roots
abbrev pub CallTwins : Race → Program → List Routine → ℕ → NameDepths → Type 0
CallTwins r p rs n Γ = (f : ℕ) (ws ws' : List ℤ) (E : List ℕ) (π : ℕ → ℕ) (a a' : Around) (R R' : List ℕ)
    (s s' : State) → Called (first_setting r p n Γ) a f ws s → Called (leaner_setting r p rs n Γ) a' f ws' s' →
    Tied r E π s s' → SameWords π (p.signatures f).parameters ws ws' →
    ((c : ℕ) → c ∈ (a'.aside ++ a'.others) → π c ∈ (a.aside ++ a.others)) → E ⊆ a'.aside →
    Twins r (WordsGiven r (p.signatures f).result E π (a'.aside ++ a'.others))
    ((first_setting r p n Γ).callee R f ws s) ((leaner_setting r p rs n Γ).callee R' f ws' s')

module _ (r : Race) (p : Program) (rs : List Routine) (n : ℕ) (Γ : NameDepths) where
  abbrev C : Setting
  C = first_setting r p n Γ

  abbrev C' : Setting
  C' = leaner_setting r p rs n Γ

  module _ {X E : List ℕ} {π : ℕ → ℕ} {a a' : Around} {H H' P P' : List ℕ} {ρ ρ' : Frame} {k k' : ℕ} {s s' : State}
      (q : Before r p rs n Γ X E π a a' H H' P P' ρ ρ' k k' s s') where
    words_same : (us : List Atom) → given C us ⊆ (a'.lent ++ H') →
        SameWords π (map (atom_depth Γ) us) (map (word ρ) us) (map (word ρ') us)
    words_same [] h = none
    words_same (b ∷ us) h = more (read_same r p rs n Γ q b (handed_first C b us (a'.lent ++ H') h))
        (words_same us (handed_rest C b us (a'.lent ++ H') h))

  pub twin_call : (X : List ℕ) → CallTwins r p rs n Γ → (f : ℕ) → LeafTwins r p rs n Γ X (call f)
  unfolding work_leaf
  twin_call X claim f x us H H' P P' E π a a' ρ ρ' k k' s s' fit fit' rule rule' q need need' Q R Q' R' =
      subst (λ (d : ℕ). Twins r (WordsGiven r d E π (a'.aside ++ (hold ρ' left' ++ a'.others)))
      (C.callee R f (map (word ρ) us) s) (C'.callee R' f (map (word ρ') us) s')) (sym depths.1)
      (claim f (map (word ρ) us) (map (word ρ') us) E π
      (record { aside = a.aside; others = hold ρ left ++ a.others; roots = R; lent = [] })
      (record { aside = a'.aside; others = hold ρ' left' ++ a'.others; roots = R'; lent = [] }) R R' s s'
      record {
        values = map (value q.first.values) us;
        meter = q.first.meter;
        together = q.first.together;
        ready = call_ready C f x us fit rule q.first.situation need;
      }
      record {
        values = map (value q.leaner.values) us;
        meter = q.leaner.meter;
        together = q.leaner.together;
        ready = call_ready C' f x us fit' rule' q.leaner.situation need';
      }
      q.tied
      (subst (λ (ds : List ℕ). SameWords π ds (map (word ρ) us) (map (word ρ') us)) depths.0
      (words_same q us (all_readable C f us a'.lent H' rule'.0 rule'.1)))
      (images_held left left' q.images q.framed
      (λ z h. in_append_right z P' (a'.lent ++ H') (in_append_right z a'.lent H' (less_in hands H' z h)))
      (owes_in X left left' (owes_less X hands H H' rule'.0 q.owes)))
      q.exempt)
    where
      hands : List ℕ
      hands = given C (leaf_hands p.borrowing (call f) us)

      left : List ℕ
      left = less hands H

      left' : List ℕ
      left' = less hands H'

      depths : (map (atom_depth Γ) us ≡ (p.signatures f).parameters) × (Γ x ≡ (p.signatures f).result)
      depths = call_depths C f x us fit
