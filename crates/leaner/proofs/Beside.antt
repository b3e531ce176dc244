-- What is known of each of two runs before a line or a tree, and how their names and references correspond.
use Rattle.prelude.specs.Kit.{ℕ, ◌≤◌, ◌+◌, ◌<◌, arith, ℕ_discrete, false, ◌≡◌, refl, ◌∙◌, sym, ap, subst, inl, inr, ◌≢◌}
use Rattle.prelude.specs.Kit.{List, [], ◌∷◌, ◌++◌, ℤ}
use Rattle.semantics.specs.Basics.{occurrences, ◌∈◌, updated}
use Rattle.semantics.specs.Outcome.{Outcome, done}
use Rattle.semantics.specs.Code.{Atom, number, name}
use Rattle.semantics.specs.Annotate.{NameDepths, atom_depth}
use Rattle.semantics.specs.Meaning.{Meter, Env}
use Rattle.semantics.specs.Meaning as Meaning
use Rattle.semantics.specs.Machine.{State, Frame, word, step}
use Rattle.semantics.specs.Store.{Store, cell, cell_of}
use Rattle.laws.specs.Lists.{◌⊆◌, occurs_first}
use Rattle.laws.specs.Updates.{updated_same, updated_there}
use Rattle.discipline.proofs.store.Counting.{append_cases, in_append_left, in_append_right}
use Rattle.discipline.proofs.machine.Images.{image_in, source, without_middle}
use Rattle.discipline.proofs.machine.Agreement.{Start, Together, Agree, Stepped, step_agrees}
use Rattle.discipline.proofs.machine.Agreement as Agreement
use Rattle.discipline.proofs.machine.Frames.{hold, Setting, Situation, given}
use Rattle.discipline.proofs.machine.Standing.{hold_of_array}
use Rattle.discipline.proofs.machine.Situations.{situation_less, settled}

-- ---- one run

-- what stays while a tree is worked: the cells set aside, the references of others, the roots and the names lent
pub record Around : Type 0 where
  pub aside : List ℕ
  pub others : List ℕ
  pub roots : List ℕ
  pub lent : List ℕ

-- the run is where the names H are held and P pending, and does what its meaning does
pub record Here (C : Setting) (a : Around) (H P : List ℕ) (ρ : Frame) (n : ℕ) (s : State) : Type 0 where
  pub values : Env
  pub meter : Meter
  pub together : Together C.start s meter
  pub situation : Situation C s.store a.aside a.others a.roots a.lent H P ρ values n

unfoldable pub here_less : {C : Setting} {a : Around} {H P : List ℕ} {ρ : Frame} {n : ℕ} {s : State} (k : ℕ) → k ≤ n →
    Here C a H P ρ n s → Here C a H P ρ k s
here_less k h q = record {
  values = q.values;
  meter = q.meter;
  together = q.together;
  situation = situation_less k q.situation h;
}

-- what is pending may be forgotten
pub here_settled : {C : Setting} {a : Around} {H P : List ℕ} {ρ : Frame} {n : ℕ} {s : State} →
    Here C a H P ρ n s → Here C a H [] ρ n s
here_settled q = record {
  values = q.values;
  meter = q.meter;
  together = q.together;
  situation = settled q.situation;
}

-- what is known once an action has ended, by its agreement with a meaning
pub record Known {A B : Type 0} (Q : A → State → B → Meter → Type 0) (a : A) (s : State) : Type 0 where
  pub value : B
  pub meter : Meter
  pub holds : Q a s value meter

pub known : {start : Start} {A B : Type 0} {Q : A → State → B → Meter → Type 0} {o : Outcome State A}
    {p : Outcome Meter B} {a : A} {s : State} → Agree start Q o p → o ≡ done a s → Known Q a s
known {start} {A} {B} {Q} {o} {p} {a} {s} agree e =
    ended (subst (λ (k : Outcome State A). Agree start Q k p) e agree)
  where
    ended : {p : Outcome Meter B} → Agree start Q (done a s) p → Known Q a s
    ended (Agreement.both {b = b} {m} q) = record { value = b; meter = m; holds = q }

pub here_stepped : {C : Setting} {a : Around} {H P : List ℕ} {ρ : Frame} {n : ℕ} {s t : State} → Here C a H P ρ n s →
    step s ≡ done tt t → Here C a H P ρ n t
here_stepped {C} {a} {H} {P} {ρ} {n} {s} {t} q e = record {
  values = q.values;
  meter = k.meter;
  together = k.holds.together;
  situation = subst (λ (σ : Store).
      Situation C σ a.aside a.others a.roots a.lent H P ρ q.values n) (sym k.holds.store)
      q.situation;
}
  where
    k : Known {A = Unit {0}} {B = Unit {0}} (λ _ s' _ m'. Stepped C.start false s s' m') (tt {0}) t
    k = known {p = Meaning.step false q.meter} (step_agrees false q.together) e

-- ---- the words of two runs

-- a word of depth d of the first run and one of the leaner
pub record Same (d : ℕ) (π : ℕ → ℕ) (w w' : ℤ) : Type 0 where
  pub number : d ≡ 0 → w ≡ w'
  pub cell : 0 < d → cell_of w ≡ π (cell_of w')

-- an array's words, by its cell
pub array_same : {d : ℕ} {π : ℕ → ℕ} {w w' : ℤ} → 0 < d → cell_of w ≡ π (cell_of w') → Same d π w w'
array_same deep e = record { number = λ z. absurd (omega (arith, z, deep)); cell = λ h. e }

-- all names of numbers have the same words, and the cells of the names K correspond
pub record Framed (Γ : NameDepths) (π : ℕ → ℕ) (ρ ρ' : Frame) (K : List ℕ) : Type 0 where
  pub numbers : (y : ℕ) → Γ y ≡ 0 → ρ y ≡ ρ' y
  pub cells : (y : ℕ) → y ∈ K → cell_of (ρ y) ≡ π (cell_of (ρ' y))

-- what the leaner run lends is lent in the first, and what others hold there corresponds to what they hold here
pub record Images (π : ℕ → ℕ) (a a' : Around) : Type 0 where
  pub lent : a'.lent ⊆ a.lent
  pub held : (c : ℕ) → c ∈ (a'.aside ++ a'.others) → π c ∈ (a.aside ++ a.others)

-- the correspondence of some cells stays
abbrev pub Stays : (ℕ → ℕ) → (ℕ → ℕ) → List ℕ → Type 0
Stays π π' K = (c : ℕ) → c ∈ K → π' c ≡ π c

pub images_stay : {π π' : ℕ → ℕ} {a a' : Around} → Stays π π' (a'.aside ++ a'.others) → Images π a a' → Images π' a a'
images_stay {π} {π'} {a} {a'} stays i = record {
  lent = i.lent;
  held = λ c h. subst (λ (k : ℕ). k ∈ (a.aside ++ a.others)) (sym (stays c h)) (i.held c h);
}

-- with what names hold
pub images_held : {Γ : NameDepths} {π : ℕ → ℕ} {a a' : Around} {ρ ρ' : Frame} {K : List ℕ} (H H' : List ℕ) →
    Images π a a' → Framed Γ π ρ ρ' K → H' ⊆ K → H' ⊆ H → (c : ℕ) →
    c ∈ (a'.aside ++ (hold ρ' H' ++ a'.others)) → π c ∈ (a.aside ++ (hold ρ H ++ a.others))
images_held {π = π} {a} {a'} {ρ} {ρ'} H H' i f known fewer c h =
    elim (append_cases c a'.aside (hold ρ' H' ++ a'.others) h) [
      | inl g ↦ outside (in_append_left c a'.aside a'.others g)
      | inr g ↦ elim (append_cases c (hold ρ' H') a'.others g) [
        | inl q ↦
            let z = source (λ y. cell_of (ρ' y)) c H' q in
            subst (λ (k : ℕ). k ∈ (a.aside ++ (hold ρ H ++ a.others)))
            (f.cells z.from (known z.from z.member) ∙ ap π (sym z.is))
            (in_append_right (cell_of (ρ z.from)) a.aside (hold ρ H ++ a.others)
            (in_append_left (cell_of (ρ z.from)) (hold ρ H) a.others
            (image_in (λ y. cell_of (ρ y)) z.from H (fewer z.from z.member))))
        | inr q ↦ outside (in_append_right c a'.aside a'.others q)
      ]
    ]
  where
    outside : c ∈ (a'.aside ++ a'.others) → π c ∈ (a.aside ++ (hold ρ H ++ a.others))
    outside g = without_middle a.aside (hold ρ H) a.others (π c) (i.held c g)

-- the first holds the names X beside those of the leaner
abbrev pub Owes : List ℕ → List ℕ → List ℕ → Type 0
Owes X H H' = (n : ℕ) → occurrences n (X ++ H') ≤ occurrences n H

-- ---- names

module _ {Γ : NameDepths} {π : ℕ → ℕ} {ρ ρ' : Frame} where
  pub framed_fewer : (K K' : List ℕ) → K' ⊆ K → Framed Γ π ρ ρ' K → Framed Γ π ρ ρ' K'
  framed_fewer K K' f q = record { numbers = q.numbers; cells = λ y h. q.cells y (f y h) }

  -- a name bound to words that are the same, by what it held before
  pub framed_bound : {π' : ℕ → ℕ} {K K' : List ℕ} (x : ℕ) (w w' : ℤ) → Framed Γ π ρ ρ' K → Same (Γ x) π' w w' →
      (x ∈ K' → 0 < Γ x) →
      ((y : ℕ) → y ∈ K' → y ≢ x → (y ∈ K) × (π' (cell_of (ρ' y)) ≡ π (cell_of (ρ' y)))) →
      Framed Γ π' (updated ρ x w) (updated ρ' x w') K'
  framed_bound {π'} {K} {K'} x w w' q same array others = record {
    numbers = λ y z. elim (ℕ_discrete y x) [
      | yes e ↦ rw (e, updated_same ρ x w, updated_same ρ' x w')
          (same.number (ap Γ (sym e) ∙ z))
      | no e ↦ rw (updated_there ρ x w y e, updated_there ρ' x w' y e) (q.numbers y z)
    ];
    cells = λ y h. elim (ℕ_discrete y x) [
      | yes e ↦ rw (e, updated_same ρ x w, updated_same ρ' x w')
          (same.cell (array (subst (λ (z : ℕ). z ∈ K') e h)))
      | no e ↦ rw (updated_there ρ x w y e, updated_there ρ' x w' y e)
          (q.cells y (others y h e).0 ∙ sym (others y h e).1)
    ];
  }

-- an atom whose name is among them
pub atom_same : (C : Setting) {π : ℕ → ℕ} {ρ ρ' : Frame} {K : List ℕ} → Framed C.depths π ρ ρ' K → (a : Atom) →
    given C (a ∷ []) ⊆ K → Same (atom_depth C.depths a) π (word ρ a) (word ρ' a)
atom_same C q (number z) h = record { number = λ e. refl; cell = λ g. absurd (omega (arith, g)) }
atom_same C q (name y) h = record {
  number = q.numbers y;
  cell = λ g. q.cells y (h y (rw (hold_of_array C y g) (occurs_first y [])));
}

-- an atom of a number
pub atom_number : (C : Setting) {π : ℕ → ℕ} {ρ ρ' : Frame} {K : List ℕ} → Framed C.depths π ρ ρ' K → (a : Atom) →
    atom_depth C.depths a ≡ 0 → word ρ a ≡ word ρ' a
atom_number C q (number z) e = refl
atom_number C q (name y) e = q.numbers y e
