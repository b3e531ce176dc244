-- A loop lends its array to its passes, in both runs: what corresponds then, and after them.
use Rattle.prelude.specs.Kit.{ℕ, ◌≤◌, ◌+◌, arith, dec_lt, true, false, false≢true, ◌≡◌, ◌∙◌, sym, ap, subst, inl, inr}
use Rattle.prelude.specs.Kit.{List, [], ◌∷◌, ◌++◌}
use Rattle.semantics.specs.Basics.{occurrences, ◌∈◌}
use Rattle.semantics.specs.Code.{Atom}
use Rattle.semantics.specs.Annotate.{NameDepths}
use Rattle.semantics.specs.Machine.{State, Frame, Routine, Program}
use Rattle.semantics.specs.Store.{cell_of}
use Rattle.laws.specs.Lists.{◌⊆◌, occurrences_append}
use Rattle.discipline.proofs.store.Counting.{append_cases, in_append_left, in_append_right}
use Rattle.discipline.proofs.machine.Discipline.{unlent}
use Rattle.discipline.proofs.machine.Spending.{less_in, less_counts, unlent_few, lent_or_not, unlent_not_lent}
use Rattle.discipline.proofs.machine.Images.{image_in, source}
use Rattle.discipline.proofs.machine.Frames.{hold, Setting, given}
use Rattle.discipline.proofs.machine.Passes.{kept_aside, outer, lent_names, lend_split, given_few}
use Rattle.discipline.proofs.machine.Filling.{lending}
use Rattle.leaner.proofs.Runs.{Race, Starts}
use Rattle.leaner.proofs.Beside.{Around, Here, Framed, framed_fewer, Images, Owes}
use Rattle.leaner.proofs.Claims.{first_setting, leaner_setting, Before}

-- the array v lent to passes with the roots Q; before them the names H are held
abbrev pub around_passes : Setting → Atom → List ℕ → Frame → List ℕ → Around → Around
around_passes C v H ρ Q a = record {
  aside = a.aside;
  others = hold ρ (kept_aside C v a.lent H) ++ a.others;
  roots = Q;
  lent = lent_names C v a.lent H;
}

unfoldable pub here_lending : {C : Setting} {a : Around} {H P : List ℕ} {ρ : Frame} {n : ℕ} {s : State} (v : Atom)
    (Q : List ℕ) → C.start.frugal ≡ false → given C (v ∷ []) ⊆ (a.lent ++ H) → Here C a H P ρ n s →
    Here C (around_passes C v H ρ Q a) (outer C v a.lent H) [] ρ n s
here_lending {C} {a} {H} v Q careless reads q = record {
  values = q.values;
  meter = q.meter;
  together = q.together;
  situation = lending C v a.lent H reads Q (λ f. absurd (false≢true (sym careless ∙ f))) q.situation;
}

-- what the leaner run sets aside is set aside in the first, or lent there
aside_fewer : (C : Setting) (v : Atom) (B B' : List ℕ) → B' ⊆ B → (y : ℕ) →
    occurrences y (unlent B (given C (v ∷ []))) ≤ occurrences y (unlent B' (given C (v ∷ [])))
aside_fewer C v B B' fewer y = elim (dec_lt 0 (occurrences y (unlent B g))) [
  | yes h ↦ elim (lent_or_not B' g y (omega (arith, h, unlent_few B g y))) [
    | inl i ↦ absurd (omega (arith, fewer y i, unlent_not_lent B g y h))
    | inr i ↦ omega (arith, i, unlent_few B g y, given_few C v B [] v y)
  ]
  | no h ↦ omega (arith, h)
]
  where
    g : List ℕ
    g = given C (v ∷ [])

-- ---- by the names lent and held

pub passes_owe : (C : Setting) (X : List ℕ) (a a' : Around) (H H' : List ℕ) (v : Atom) → Owes X H H' →
    a'.lent ⊆ a.lent → Owes [] (outer C v a.lent H) (outer C v a'.lent H')
passes_owe C X a a' H H' v owes fewer y = omega (
  arith,
  owes y,
  occurrences_append y X H',
  less_counts (kept_aside C v a.lent H) H y,
  less_counts (kept_aside C v a'.lent H') H' y,
  aside_fewer C v a.lent a'.lent fewer y,
)

pub passes_images : (C : Setting) {π : ℕ → ℕ} {K : List ℕ} {ρ ρ' : Frame} (a a' : Around) (H H' : List ℕ) (v : Atom)
    (Q Q' : List ℕ) → Images π a a' → Framed C.depths π ρ ρ' K → given C (v ∷ []) ⊆ K →
    ((y : ℕ) → y ∈ a.lent → cell_of (ρ y) ∈ a.others) →
    Images π (around_passes C v H ρ Q a) (around_passes C v H' ρ' Q' a')
passes_images C {π} {K} {ρ} {ρ'} a a' H H' v Q Q' images framed reads kept = record {
  lent = λ y h. elim (append_cases y (given C (v ∷ [])) a'.lent h) [
    | inl g ↦ in_append_left y (given C (v ∷ [])) a.lent g
    | inr g ↦ in_append_right y (given C (v ∷ [])) a.lent (images.lent y g)
  ];
  held = λ c h. elim (append_cases c a'.aside b'.others h) [
    | inl g ↦ outside c (in_append_left c a'.aside a'.others g)
    | inr g ↦ elim (append_cases c (hold ρ' (kept_aside C v a'.lent H')) a'.others g) [
      | inl i ↦ array c i
      | inr i ↦ outside c (in_append_right c a'.aside a'.others i)
    ]
  ];
}
  where
    b : Around
    b = around_passes C v H ρ Q a

    b' : Around
    b' = around_passes C v H' ρ' Q' a'

    outside : (c : ℕ) → c ∈ (a'.aside ++ a'.others) → π c ∈ (b.aside ++ b.others)
    outside c g = omega (
      arith,
      images.held c g,
      occurrences_append (π c) a.aside a.others,
      occurrences_append (π c) a.aside b.others,
      occurrences_append (π c) (hold ρ (kept_aside C v a.lent H)) a.others,
    )

    array : (c : ℕ) → c ∈ hold ρ' (kept_aside C v a'.lent H') → π c ∈ (b.aside ++ b.others)
    array c i =
        let z = source (λ y. cell_of (ρ' y)) c (kept_aside C v a'.lent H') i in
        let y = z.from in
        let g : y ∈ given C (v ∷ []) = omega (arith, z.member, unlent_few a'.lent (given C (v ∷ [])) y) in
        subst (λ (j : ℕ). j ∈ (b.aside ++ b.others)) (framed.cells y (reads y g) ∙ ap π (sym z.is))
        (in_append_right (cell_of (ρ y)) a.aside b.others
        (elim (lent_or_not a.lent (given C (v ∷ [])) y g) [
          | inl j ↦ in_append_right (cell_of (ρ y)) (hold ρ (kept_aside C v a.lent H)) a.others (kept y j)
          | inr j ↦ in_append_left (cell_of (ρ y)) (hold ρ (kept_aside C v a.lent H)) a.others
              (image_in (λ x. cell_of (ρ x)) y (kept_aside C v a.lent H) j)
        ]))

-- what was lent and held before the passes is among what is lent and held in one
pub passes_back : (C : Setting) (B H : List ℕ) (v : Atom) → given C (v ∷ []) ⊆ (B ++ H) →
    (B ++ H) ⊆ (lent_names C v B H ++ outer C v B H)
passes_back C B H v reads y h = elim (append_cases y B H h) [
  | inl g ↦ in_append_left y (lent_names C v B H) (outer C v B H) (in_append_right y (given C (v ∷ [])) B g)
  | inr g ↦ elim (append_cases y (kept_aside C v B H) (outer C v B H) (omega (arith, g, lend_split C v B H reads y))) [
    | inl i ↦ in_append_left y (lent_names C v B H) (outer C v B H) (in_append_left y (given C (v ∷ [])) B
        (omega (arith, i, unlent_few B (given C (v ∷ [])) y)))
    | inr i ↦ in_append_right y (lent_names C v B H) (outer C v B H) i
  ]
]

module _ {r : Race} (starts : Starts r) (p : Program) (rs : List Routine) (n : ℕ) (Γ : NameDepths) where
  abbrev C : Setting
  C = first_setting r p n Γ

  abbrev C' : Setting
  C' = leaner_setting r p rs n Γ

  module _ {X E : List ℕ} {π : ℕ → ℕ} {a a' : Around} {H H' P P' : List ℕ} {ρ ρ' : Frame} {k k' : ℕ} {s s' : State}
      (v : Atom) (reads : given C (v ∷ []) ⊆ (a.lent ++ H)) (reads' : given C (v ∷ []) ⊆ (a'.lent ++ H'))
      (q : Before r p rs n Γ X E π a a' H H' P P' ρ ρ' k k' s s') (Q Q' : List ℕ) where
    abbrev I : List ℕ
    I = outer C v a.lent H

    abbrev I' : List ℕ
    I' = outer C v a'.lent H'

    abbrev b : Around
    b = around_passes C v H ρ Q a

    abbrev b' : Around
    b' = around_passes C' v H' ρ' Q' a'

    pub lend_owes : Owes [] I I'
    lend_owes = passes_owe C X a a' H H' v q.owes q.images.lent

    pub lend_images : Images π b b'
    lend_images = passes_images C a a' H H' v Q Q' q.images q.framed
        (λ y h. in_append_right y P' (a'.lent ++ H') (reads' y h)) (λ y h. (q.first.situation.lent y h).kept)

    unfoldable pub lend_before : Before r p rs n Γ [] E π b b' I I' [] [] ρ ρ' k k' s s'
    unfolding here_lending
    lend_before = record {
      first = here_lending v Q starts.careless reads q.first;
      leaner = here_lending v Q' starts.leaner_careless reads' q.leaner;
      tied = q.tied;
      framed = framed_fewer (P' ++ (a'.lent ++ H')) (b'.lent ++ I') (λ y h. in_append_right y P' (a'.lent ++ H')
          (elim (append_cases y b'.lent I' h) [
            | inl g ↦ elim (append_cases y (given C (v ∷ [])) a'.lent g) [
              | inl i ↦ reads' y i
              | inr i ↦ in_append_left y a'.lent H' i
            ]
            | inr g ↦ in_append_right y a'.lent H' (less_in (kept_aside C v a'.lent H') H' y g)
          ])) q.framed;
      images = lend_images;
      owes = lend_owes;
      exempt = q.exempt;
    }

    -- what was lent and held before the line is among what is lent and held in a pass
    pub lend_back : (a'.lent ++ H') ⊆ (b'.lent ++ I')
    lend_back = passes_back C a'.lent H' v reads'
