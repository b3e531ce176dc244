-- Well-formed plain trees: every atom is known, every name is bound anew, and the depths fit. What is live in them.
use Rattle.prelude.specs.Kit.{ℕ, ◌≤◌, ◌<◌, suc, arith, true, false, Bool, false≢true, ◌≡◌, refl, ◌∙◌, sym, ap, inl, inr}
use Rattle.prelude.specs.Kit.{List, [], ◌∷◌, map, length, eqb-true}
use Rattle.semantics.specs.Kinds.{Leaf, Loop}
use Rattle.semantics.specs.Code.{Atom, number, name, Line, leaf, if_else, loop, retain, release, Tree, end, line}
use Rattle.semantics.specs.Code.{ending}
use Rattle.semantics.specs.Live.{Set, empty, ◌∪◌, ◌∖◌, ◌∖∖◌, only, just, is, among, live, live_before, uses}
use Rattle.semantics.specs.Annotate.{NameDepths, atom_depth}
use Rattle.laws.specs.Tests.{or_cases, or_left, or_right}
use Rattle.discipline.proofs.machine.Discipline.{Known, AllKnown}
use Rattle.soundness.proofs.annotation.Typed.{element_depths, Functions, LeafType, LoopType}
use Rattle.soundness.proofs.annotation.Sets.{less_in, Inside, inside_right, inside_empty, inside_both}
use Rattle.soundness.proofs.annotation.Sets.{inside_trans}
use Rattle.soundness.proofs.annotation.Sets.{inside_or, inside_with, inside_less, inside_bound, inside_pass}
use Rattle.soundness.proofs.annotation.Sets.{inside_among}

-- ---- names below a bound

-- a set of names below c
pub record Within (S : Set) (c : ℕ) : Type 0 where
  pub below : (n : ℕ) → S n ≡ true → n < c

pub within_up : (A : Set) (c e : ℕ) → c ≤ e → Within A c → Within A e
within_up A c e h w = record { below = λ n q. omega (arith, w.below n q) }

-- it has no name from c on
pub not_within : (S : Set) (c n : ℕ) → Within S c → c ≤ n → S n ≡ false
not_within S c n w h = go (S n) refl
  where
    go : (b : Bool) → S n ≡ b → b ≡ false
    go true e = absurd (omega (arith, w.below n e))
    go false e = refl

-- with one more name
pub within_bound : (A : Set) (x c e : ℕ) → c ≤ e → x < e → Within A c → Within (A ∪ only x) e
within_bound A x c e h g w = record {
  below = λ n q. elim (or_cases (A n) (only x n) q) [
    | inl r ↦ omega (arith, w.below n r)
    | inr r ↦ omega (arith, eqb-true x n r)
  ];
}

-- names that rise from c on, below e
abbrev pub Rising : ℕ → List ℕ → ℕ → Type 0
Rising c [] e = c ≤ e
Rising c (p ∷ ps) e = (c ≤ p) × Rising (suc p) ps e

pub rising_up : (ps : List ℕ) (c e : ℕ) → Rising c ps e → c ≤ e
rising_up [] c e h = h
rising_up (p ∷ ps) c e h = omega (arith, h.0, rising_up ps (suc p) e h.1)

pub rising_in : (ps : List ℕ) (c e n : ℕ) → Rising c ps e → just ps n ≡ true → (c ≤ n) × (n < e)
rising_in [] c e n h q = absurd (false≢true q)
rising_in (p ∷ ps) c e n h q = elim (or_cases (only p n) (just ps n) q) [
  | inl r ↦ (omega (arith, h.0, eqb-true p n r), omega (arith, eqb-true p n r, rising_up ps (suc p) e h.1))
  | inr r ↦
      let more = rising_in ps (suc p) e n h.1 r in
      (omega (arith, h.0, more.0), more.1)
]

-- with the names of a pass
pub within_pass : (A : Set) (ps : List ℕ) (c m e : ℕ) → c ≤ m → Rising m ps e → Within A c → Within (A ∪ just ps) e
within_pass A ps c m e h r w = record {
  below = λ n q. elim (or_cases (A n) (just ps n) q) [
    | inl g ↦ omega (arith, w.below n g, rising_up ps m e r)
    | inr g ↦ (rising_in ps m e n r g).1
  ];
}

-- a name from c on, below c' and among the first 256
pub record Placed (x c c' : ℕ) : Type 0 where
  pub above : c ≤ x
  pub below : x < c'
  pub small : x < 256

abbrev pub bound_by : Line → ℕ
bound_by (leaf x l us) = x
bound_by (if_else x g t e) = x
bound_by (loop x k ps us t) = x
bound_by (retain x) = x
bound_by (release x) = x

-- ---- depths

-- no name is deeper in Γ than in Θ, and an array has the same depth
pub record Shallower (Γ Θ : NameDepths) : Type 0 where
  pub most : (n : ℕ) → Γ n ≤ Θ n
  pub same : (n : ℕ) → 0 < Γ n → Θ n ≡ Γ n

pub shallow_number : {Γ Θ : NameDepths} (a : Atom) → Shallower Γ Θ → atom_depth Θ a ≡ 0 → atom_depth Γ a ≡ 0
shallow_number (number z) under e = refl
shallow_number (name x) under e = omega (arith, under.most x)

-- ---- trees

module _ (F : Functions) (Γ : NameDepths) where
  pub record LeafForm (x : ℕ) (l : Leaf) (us : List Atom) (S : Set) : Type 0 where
    pub seen : AllKnown us S
    pub fits : LeafType F l (length us) (map (atom_depth Γ) us) (Γ x)

  pub record IfForm (g : Atom) (S : Set) : Type 0 where
    pub seen : Known g S
    pub guard : atom_depth Γ g ≡ 0

  -- whose tree gives depth d, and whose names end before c
  pub record LoopForm (x : ℕ) (k : Loop) (ps : List ℕ) (us : List Atom) (d : ℕ) (S : Set) (c : ℕ) : Type 0 where
    pub seen : AllKnown us S
    pub fits : LoopType k (length ps) (length us) (map (atom_depth Γ) us) d (Γ x)
    pub depths : map Γ ps ≡ element_depths k (map (atom_depth Γ) us)
    pub rising : Rising (suc x) ps c
    pub small : c ≤ 256

  abbrev mutual
    -- a tree in the scope S, whose names are bound from c on, and which gives depth d
    pub Formed : Tree → Set → ℕ → ℕ → Type 0
    Formed (end a) S c d = Known a S × (atom_depth Γ a ≡ d)
    Formed (line l t) S c d = (c' : ℕ) × Placed (bound_by l) c c' × LineFormed l S
        × Formed t (S ∪ only (bound_by l)) c' d

    pub LineFormed : Line → Set → Type 0
    LineFormed (leaf x l us) S = LeafForm x l us S
    LineFormed (if_else x g t e) S =
        IfForm g S × ((c : ℕ) × (x < c) × Formed t S c (Γ x)) × ((c : ℕ) × (x < c) × Formed e S c (Γ x))
    LineFormed (loop x k ps us t) S =
        let d = atom_depth Γ (ending t) in
        (c : ℕ) × LoopForm x k ps us d S c × Formed t (S ∪ just ps) c d
    LineFormed (retain x) S = ⊥
    LineFormed (release x) S = ⊥

-- ---- live sets

-- what is live before a tree lies in what would be live with B after it, and what else is live after it
mutual
  unfolding live

  pub live_inside : (t : Tree) {A B C : Set} → Inside A B C → Inside (live t A) (live t B) C
  live_inside (end a) h = inside_with (is a) h
  live_inside (line l t) h = line_inside l (live_inside t h)

  line_inside : (l : Line) {A B C : Set} → Inside A B C → Inside (live_before l A) (live_before l B) C
  line_inside (leaf x l us) h = inside_among us (inside_less x h)
  line_inside (if_else x g t e) h =
      inside_with (is g) (inside_or (live_inside t (inside_less x h)) (live_inside e (inside_less x h)))
  line_inside (loop x k ps us t) h = inside_among us (inside_with (uses t ∖∖ ps) (inside_less x h))
  line_inside (retain x) h = h
  line_inside (release x) h = h

pub seen_is : {S L : Set} (a : Atom) → Known a S → Inside (is a) S L
seen_is (number z) h = inside_empty
seen_is {S} {L} (name x) h = record { either = λ n e. inl (ap S (sym (eqb-true x n e)) ∙ h) }

pub seen_among : {A S L : Set} (us : List Atom) → AllKnown us S → Inside A S L → Inside (among us A) S L
unfolding among
seen_among [] h i = i
seen_among (a ∷ us) h i = inside_both (seen_is a h.0) (seen_among us h.1 i)

among_stays : (us : List Atom) (A : Set) (n : ℕ) → A n ≡ true → among us A n ≡ true
unfolding among
among_stays [] A n e = e
among_stays (a ∷ us) A n e = or_right (is a n) (among us A n) (among_stays us A n e)

module _ (F : Functions) (Γ : NameDepths) where
  -- what is live before a tree is in scope, or live after it
  mutual
    unfolding live

    pub live_seen : (t : Tree) (S L : Set) (c d : ℕ) → Formed F Γ t S c d → Inside (live t L) S L
    live_seen (end a) S L c d f = inside_both (seen_is a f.0) inside_right
    live_seen (line l t) S L c d f =
        line_seen l (live t L) S L f.2 (live_seen t (S ∪ only (bound_by l)) L f.0 d f.3)

    pub line_seen : (l : Line) (A S L : Set) → LineFormed F Γ l S → Inside A (S ∪ only (bound_by l)) L →
        Inside (live_before l A) S L
    line_seen (leaf x l us) A S L f h = seen_among us f.seen (inside_bound x h)
    line_seen (if_else x g t e) A S L f h =
        let first = live_seen t S (A ∖ x) f.1.0 (Γ x) f.1.2 in
        let second = live_seen e S (A ∖ x) f.2.0 (Γ x) f.2.2 in
        let after : Inside (A ∖ x) S L = inside_bound x h in
        inside_both (seen_is g f.0.seen) (inside_both (inside_trans first after) (inside_trans second after))
    line_seen (loop x k ps us t) A S L f h =
        let inner = live_seen t (S ∪ just ps) empty f.0 (atom_depth Γ (ending t)) f.2 in
        seen_among us f.1.seen
        (inside_both (inside_trans (inside_pass ps inner) inside_empty) (inside_bound x h))
    line_seen (retain x) A S L f h = absurd f
    line_seen (release x) A S L f h = absurd f

  -- what is live after a tree and not bound in it is live before it
  mutual
    unfolding live

    pub live_stays : (t : Tree) (S L : Set) (c d n : ℕ) → Formed F Γ t S c d → n < c → L n ≡ true → live t L n ≡ true
    live_stays (end a) S L c d n f h e = or_right (is a n) (L n) e
    live_stays (line l t) S L c d n f h e =
        line_stays l S (live t L) c n f.2 f.1.above h
        (live_stays t (S ∪ only (bound_by l)) L f.0 d n f.3 (omega (arith, f.1.above, f.1.below)) e)

    pub line_stays : (l : Line) (S A : Set) (c n : ℕ) → LineFormed F Γ l S → c ≤ bound_by l → n < c → A n ≡ true →
        live_before l A n ≡ true
    line_stays (leaf x l us) S A c n f g h e = among_stays us (A ∖ x) n (less_in A x n (λ q. omega arith) e)
    line_stays (if_else x i t u) S A c n f g h e =
        or_right (is i n) _ (or_left (live t (A ∖ x) n) _
        (live_stays t S (A ∖ x) f.1.0 (Γ x) n f.1.2 (omega (arith, f.1.1))
        (less_in A x n (λ q. omega arith) e)))
    line_stays (loop x k ps us t) S A c n f g h e =
        among_stays us (uses t ∖∖ ps ∪ A ∖ x) n
        (or_right ((uses t ∖∖ ps) n) _ (less_in A x n (λ q. omega arith) e))
    line_stays (retain x) S A c n f g h e = absurd f
    line_stays (release x) S A c n f g h e = absurd f
