-- A name bound in both runs, to words that are the same.
use Rattle.prelude.specs.Kit.{ℕ, ◌+◌, ◌<◌, arith, dec_lt, ◌≡◌, refl, ◌∙◌, sym, subst, inl, inr, List, [], ◌++◌, ℤ}
use Rattle.semantics.specs.Basics.{occurrences, ◌∈◌, updated}
use Rattle.semantics.specs.Annotate.{NameDepths}
use Rattle.semantics.specs.Machine.{State, Frame, Routine, Program}
use Rattle.semantics.specs.Store.{cell_of}
use Rattle.laws.specs.Lists.{◌⊆◌, occurrences_append}
use Rattle.discipline.proofs.store.Counting.{append_cases, in_append_left, in_append_right}
use Rattle.discipline.proofs.machine.Images.{image_in}
use Rattle.discipline.proofs.machine.Frames.{hold, Setting, own}
use Rattle.discipline.proofs.machine.Standing.{none_in, hold_of_number, hold_of_other}
use Rattle.discipline.proofs.machine.Rules.{Fresh}
use Rattle.leaner.proofs.Runs.{Race, Tied}
use Rattle.leaner.proofs.Beside.{Around, Same, Framed, framed_bound, Stays}
use Rattle.leaner.proofs.Claims.{first_setting, LineEnded}

-- a name that holds is an array's
own_array : (C : Setting) (x : ℕ) → x ∈ own C x → 0 < C.depths x
own_array C x h = elim (dec_lt 0 (C.depths x)) [
  | yes g ↦ g
  | no g ↦ absurd (none_in x (subst (λ (l : List ℕ). x ∈ l) (hold_of_number C x (omega (arith, g))) h))
]

-- what the leaner run is lent and still holds, where the correspondence of its cells stays
pub framed_stays : {Γ : NameDepths} {π π₁ : ℕ → ℕ} {ρ ρ' : Frame} {K : List ℕ} (a : Around) (H : List ℕ) →
    Framed Γ π ρ ρ' K → (a.lent ++ H) ⊆ K → ((y : ℕ) → y ∈ a.lent → cell_of (ρ' y) ∈ a.others) →
    Stays π π₁ (a.aside ++ (hold ρ' H ++ a.others)) → Framed Γ π₁ ρ ρ' (a.lent ++ H)
framed_stays {ρ = ρ} {ρ'} a H f known kept stays = record {
  numbers = f.numbers;
  cells = λ y h. f.cells y (known y h) ∙ sym (stays (cell_of (ρ' y))
      (in_append_right (cell_of (ρ' y)) a.aside (hold ρ' H ++ a.others) (elim (append_cases y a.lent H h) [
        | inl g ↦ in_append_right (cell_of (ρ' y)) (hold ρ' H) a.others (kept y g)
        | inr g ↦ in_append_left (cell_of (ρ' y)) (hold ρ' H) a.others (image_in (λ z. cell_of (ρ' z)) y H g)
      ])));
}

-- a name bound beside others
pub bound_framed : (C : Setting) {π : ℕ → ℕ} {ρ ρ' : Frame} (K : List ℕ) {K' : List ℕ} (x : ℕ) (w w' : ℤ) →
    Framed C.depths π ρ ρ' K → occurrences x K ≡ 0 → Same (C.depths x) π w w' → K' ⊆ (own C x ++ K) →
    Framed C.depths π (updated ρ x w) (updated ρ' x w') K'
bound_framed C K x w w' f new same among = framed_bound x w w' f same
    (λ h. own_array C x (elim (append_cases x (own C x) K (among x h)) [
      | inl g ↦ g
      | inr g ↦ absurd (omega (arith, g, new))
    ]))
    (λ y h e. (hold_of_other C x y K e (among y h), refl))

-- what is lent and what is held before a line is known, and so is what is held still
pub known_left : (P B H I : List ℕ) → I ⊆ H → (B ++ I) ⊆ (P ++ (B ++ H))
known_left P B H I f y h = in_append_right y P (B ++ H) (elim (append_cases y B I h) [
  | inl g ↦ in_append_left y B H g
  | inr g ↦ in_append_right y B H (f y g)
])

-- in another order
pub behind : (B l H : List ℕ) → (B ++ (l ++ H)) ⊆ (l ++ (B ++ H))
behind B l H y h = omega (
  arith,
  h,
  occurrences_append y B (l ++ H),
  occurrences_append y l H,
  occurrences_append y l (B ++ H),
  occurrences_append y B H,
)

-- a line that binds x has ended
pub line_bound : (r : Race) (p : Program) (rs : List Routine) (n : ℕ) (Γ : NameDepths) {E : List ℕ} {π cells : ℕ → ℕ}
    {a' : Around} {J Δ : List ℕ} {ρ ρ' : Frame} {w w' : ℤ} {s s' : State} (x : ℕ) → Fresh x a'.lent J Δ →
    Same (Γ x) cells w w' → Framed Γ cells ρ ρ' (a'.lent ++ J) → Stays π cells (a'.aside ++ a'.others) →
    Tied r E cells s s' →
    LineEnded r p rs n Γ E π a' (own (first_setting r p n Γ) x ++ J) [] (updated ρ x w) s (updated ρ' x w') s'
line_bound r p rs n Γ {cells = cells} {a'} {J} {w = w} {w'} x new same framed stays tied = record {
  cells = cells;
  tied = tied;
  framed = bound_framed (first_setting r p n Γ) (a'.lent ++ J) x w w' framed
      (omega (arith, new.lent, new.before, occurrences_append x a'.lent J)) same
      (behind a'.lent (own (first_setting r p n Γ) x) J);
  stays = stays;
}
