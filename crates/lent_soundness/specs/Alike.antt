-- Two choices of borrowed places that agree at the places that functions have: trees whose depths fit hold by the one
-- as by the other, and spend alike.
use Rattle.std.specs.Prelude.{ℕ, ◌≤◌, ◌+◌, ◌<◌, suc, Bool, not, ◌||◌, ◌≡◌, refl, List, [], ◌∷◌, ◌++◌, map, length}
use Rattle.prelude.specs.Kit.{arith, ◌∙◌, sym, ap, subst, length-map}
use Rattle.semantics.specs.Basics.{with_if}
use Rattle.semantics.specs.Kinds.{Borrowing, Leaf, operation, call, literal, index, length_of, iota, replicate, picked}
use Rattle.semantics.specs.Kinds.{leaf_hands, leaf_reads, loop_hands}
use Rattle.semantics.specs.Types.{same}
use Rattle.semantics.specs.Code.{Atom, Line, leaf, if_else, loop, retain, release, Tree, end, line, ending}
use Rattle.semantics.specs.Live.{empty, among}
use Rattle.semantics.specs.Annotate.{NameDepths, atom_depth}
use Rattle.semantics.specs.Borrow.{spent, line_spent}
use Rattle.semantics.specs.Machine.{Program}
use Rattle.laws.specs.Lists.{◌⊆◌}
use Rattle.laws.specs.Tests.{some_if_holds, same_lists}
use Rattle.discipline.proofs.machine.Discipline.{LeafFits, Fitting, LineFitting, ◌⊑◌, less, handed, hold_of, left_by}
use Rattle.discipline.proofs.machine.Discipline.{holds_after, waits_after, leaf_holds, Holding, LineHolding}

pub picked_alike : {A : Type 0} (at bt : ℕ → Bool) (n : ℕ) (us : List A) →
    ((i : ℕ) → n ≤ i → i < n + length us → at i ≡ bt i) → picked at n us ≡ picked bt n us
picked_alike at bt n [] h = refl
picked_alike at bt n (u ∷ us) h = λ i.
    with_if (h n (omega arith) (omega arith) i) u
    (picked_alike at bt (suc n) us (λ j p q. h j (omega (arith, p)) (omega (arith, q))) i)

module _ (p : Program) (Γ : NameDepths) (β β' : Borrowing)
    (agree : (f i : ℕ) → i < length (p.signatures f).parameters → β f i ≡ β' f i) where
  arguments : (x f : ℕ) (us : List Atom) → LeafFits p Γ x (call f) us →
      length us ≡ length (p.signatures f).parameters
  arguments x f us fits =
      let s = p.signatures f in
      let ds = map (atom_depth Γ) us in
      let holds = some_if_holds (same s.parameters ds) s.result (Γ x) fits.gives in
      sym (length-map us (atom_depth Γ))
      ∙ ap (λ (l : List ℕ). length l) (sym (same_lists s.parameters ds holds.0))

  hands_alike : (x : ℕ) (l : Leaf) (us : List Atom) → LeafFits p Γ x l us → leaf_hands β l us ≡ leaf_hands β' l us
  hands_alike x (operation o) us fits = refl
  hands_alike x (call f) us fits = picked_alike (λ i. not (β f i)) (λ i. not (β' f i)) 0 us
      (λ i h q. ap not (agree f i (omega (arith, q, arguments x f us fits))))
  hands_alike x (literal d) us fits = refl
  hands_alike x index us fits = refl
  hands_alike x length_of us fits = refl
  hands_alike x iota us fits = refl
  hands_alike x replicate us fits = refl

  reads_alike : (x : ℕ) (l : Leaf) (us : List Atom) → LeafFits p Γ x l us → leaf_reads β l us ≡ leaf_reads β' l us
  reads_alike x (operation o) us fits = refl
  reads_alike x (call f) us fits = picked_alike (β f) (β' f) 0 us
      (λ i h q. agree f i (omega (arith, q, arguments x f us fits)))
  reads_alike x (literal d) us fits = refl
  reads_alike x index us fits = refl
  reads_alike x length_of us fits = refl
  reads_alike x iota us fits = refl
  reads_alike x replicate us fits = refl

  mutual
    unfolding left_by

    left_alike : (t : Tree) (d : ℕ) → Fitting p Γ t d → (H : List ℕ) → left_by β Γ t H ≡ left_by β' Γ t H
    left_alike (end a) d f H = refl
    left_alike (line l t) d f H =
        ap (left_by β Γ t) (after_alike l f.0 H) ∙ left_alike t d f.1 (holds_after β' Γ l H)

    after_alike : (l : Line) → LineFitting p Γ l → (H : List ℕ) → holds_after β Γ l H ≡ holds_after β' Γ l H
    after_alike (leaf x l us) f H = λ i. leaf_holds Γ x l ++ less (handed Γ (hands_alike x l us f i)) H
    after_alike (if_else x g t e) f H = λ i. hold_of Γ x ++ left_alike t (Γ x) f.1 H i
    after_alike (loop x k ps us t) f H = refl
    after_alike (retain x) f H = refl
    after_alike (release x) f H = refl

  mutual
    pub holding_alike : (t : Tree) (d : ℕ) → Fitting p Γ t d → (B H P Δ : List ℕ) → Holding β Γ B t H P Δ →
        Holding β' Γ B t H P Δ
    holding_alike (end a) d f B H P Δ h = h
    holding_alike (line l t) d f B H P Δ h = (
      line_alike l f.0 B H P h.0,
      subst (λ (I : List ℕ). Holding β' Γ B t I (waits_after Γ l) Δ) (after_alike l f.0 H)
          (holding_alike t d f.1 B (holds_after β Γ l H) (waits_after Γ l) Δ h.1),
    )

    line_alike : (l : Line) → LineFitting p Γ l → (B H P : List ℕ) → LineHolding β Γ B l H P → LineHolding β' Γ B l H P
    line_alike (leaf x l us) f B H P h =
        let hands = hands_alike x l us f in
        let reads = reads_alike x l us f in (
          subst (λ (vs : List Atom). handed Γ vs ⊑ H) hands h.0,
          subst (λ (vs : List Atom). handed Γ vs ⊆ (B ++ less (handed Γ (leaf_hands β' l us)) H)) reads
              (subst (λ (vs : List Atom). handed Γ (leaf_reads β l us) ⊆ (B ++ less (handed Γ vs) H)) hands h.1),
        )
    line_alike (if_else x g t e) f B H P h =
        let left = left_alike t (Γ x) f.1 H in (
          subst (λ (l : List ℕ). l ⊆ (B ++ H)) left h.0,
          subst (Holding β' Γ B t H []) left (holding_alike t (Γ x) f.1 B H [] (left_by β Γ t H) h.1),
          subst (Holding β' Γ B e H []) left (holding_alike e (Γ x) f.2 B H [] (left_by β Γ t H) h.2),
        )
    line_alike (loop x k ps us t) f B H P h =
        (h.0, h.1, holding_alike t (atom_depth Γ (ending t)) f.1 _ _ _ _ h.2)
    line_alike (retain x) f B H P h = h
    line_alike (release x) f B H P h = h

  mutual
    unfolding spent

    pub spent_alike : (t : Tree) (d : ℕ) → Fitting p Γ t d → (n : ℕ) → spent β t n ≡ spent β' t n
    spent_alike (end a) d f n = refl
    spent_alike (line l t) d f n = λ i. line_spent_alike l f.0 n i || spent_alike t d f.1 n i

    line_spent_alike : (l : Line) → LineFitting p Γ l → (n : ℕ) → line_spent β l n ≡ line_spent β' l n
    line_spent_alike (leaf x l us) f n = λ i. among (hands_alike x l us f i) empty n
    line_spent_alike (if_else x g t e) f n = λ i. spent_alike t (Γ x) f.1 n i || spent_alike e (Γ x) f.2 n i
    line_spent_alike (loop x k ps us t) f n =
        λ i. among (loop_hands k us) empty n || spent_alike t (atom_depth Γ (ending t)) f.1 n i
    line_spent_alike (retain x) f n = refl
    line_spent_alike (release x) f n = refl
