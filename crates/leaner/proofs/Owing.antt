-- What the first of two twin trees owes: the names that it still holds and the leaner has handed over.
use Rattle.prelude.specs.Kit.{ℕ, arith, ◌≡◌, sym, ap, subst, List, [], ◌∷◌, ◌++◌}
use Rattle.semantics.specs.Basics.{occurrences, ◌∈◌}
use Rattle.semantics.specs.Kinds.{Leaf, Loop, mapping, rewriting, leaf_hands, loop_hands}
use Rattle.semantics.specs.Code.{Atom, name, Line, leaf, if_else, loop, retain, release, Tree, line}
use Rattle.semantics.specs.Live.{Set}
use Rattle.laws.specs.Lists.{◌⊆◌, occurrences_append}
use Rattle.discipline.proofs.machine.Discipline.{◌⊑◌, less, leaf_holds, left_by, holds_after}
use Rattle.discipline.proofs.machine.Spending.{spend_one, less_counts}
use Rattle.discipline.proofs.machine.Frames.{Setting, own, given}
use Rattle.discipline.proofs.machine.Standing.{hold_of_array}
use Rattle.discipline.proofs.machine.Rules.{TreeRules, LineRules, line_rules, rest_rules, then_rules}
use Rattle.leaner.proofs.Beside.{Owes}

-- what is owed stays so once both have spent the same
pub owes_less : (X l H H' : List ℕ) → l ⊑ H' → Owes X H H' → Owes X (less l H) (less l H')
owes_less X l H H' spends q n = omega (
  arith,
  q n,
  spends n,
  occurrences_append n X H',
  occurrences_append n X (less l H'),
  less_counts l H n,
  less_counts l H' n,
)

-- and the first has what the leaner holds
pub owes_in : (X H H' : List ℕ) → Owes X H H' → H' ⊆ H
owes_in X H H' q n h = omega (arith, h, q n, occurrences_append n X H')

-- the first alone holds a name more
pub owes_raised : (X : List ℕ) (y : ℕ) (H H' : List ℕ) → Owes X H H' → Owes (y ∷ X) (y ∷ H) H'
unfolding occurrences
owes_raised X y H H' q z = omega (arith, q z)

-- the first alone spends what it owes
pub owes_spared : (X : List ℕ) (y : ℕ) (H H' : List ℕ) → y ∈ X → Owes X H H' →
    Owes (less (y ∷ []) X) (less (y ∷ []) H) H'
owes_spared X y H H' owed q z = omega (
  arith,
  q z,
  occurrences_append z X H',
  occurrences_append z (less (y ∷ []) X) H',
  less_counts (y ∷ []) X z,
  less_counts (y ∷ []) H z,
  spend_one y X owed z,
)

-- both hold more
pub owes_more : (X l H H' : List ℕ) → Owes X H H' → Owes X (l ++ H) (l ++ H')
owes_more X l H H' q z = omega (
  arith,
  q z,
  occurrences_append z X H',
  occurrences_append z X (l ++ H'),
  occurrences_append z l H,
  occurrences_append z l H',
)

-- the leaner alone spends
owes_handed : (X : List ℕ) (y : ℕ) (l H H' : List ℕ) → (y ∷ []) ⊑ H' → Owes X H H' →
    Owes (y ∷ X) (l ++ H) (l ++ less (y ∷ []) H')
owes_handed X y l H H' spends q z = omega (
  arith,
  q z,
  spends z,
  occurrences_append z X H',
  occurrences_append z (y ∷ X) (l ++ less (y ∷ []) H'),
  occurrences_append z (y ∷ []) X,
  occurrences_append z l (less (y ∷ []) H'),
  occurrences_append z l H,
  less_counts (y ∷ []) H' z,
)

-- ---- lines and trees, under the rules of the leaner

module _ (C : Setting) where
  abbrev after : Line → List ℕ → List ℕ
  after l H = holds_after C.program.borrowing C.depths l H

  abbrev left : Tree → List ℕ → List ℕ
  left t H = left_by C.program.borrowing C.depths t H

  -- two lines that keep what is owed
  abbrev pub LineOwes : List ℕ → List ℕ → Line → Line → Type 0
  LineOwes X X' l l' = (B : List ℕ) (S A : Set) (H H' P Δ : List ℕ) → LineRules C l' B S A H' P Δ → Owes X H H' →
      Owes X' (after l H) (after l' H')

  pub owes_leaf : (X : List ℕ) (x : ℕ) (l : Leaf) (us : List Atom) → LineOwes X X (leaf x l us) (leaf x l us)
  unfolding holds_after
  owes_leaf X x l us B S A H H' P Δ rules q =
      let hands = given C (leaf_hands C.program.borrowing l us) in
      owes_more X (leaf_holds C.depths x l) (less hands H) (less hands H')
      (owes_less X hands H H' rules.holds.0 q)

  pub owes_loop : (X : List ℕ) (x : ℕ) (k : Loop) (ps : List ℕ) (us : List Atom) (t t' : Tree) →
      LineOwes X X (loop x k ps us t) (loop x k ps us t')
  unfolding holds_after
  owes_loop X x k ps us t t' B S A H H' P Δ rules q =
      let hands = given C (loop_hands k us) in
      owes_more X (own C x) (less hands H) (less hands H') (owes_less X hands H H' rules.holds.0 q)

  pub owes_retain : (X : List ℕ) (y : ℕ) → LineOwes X X (retain y) (retain y)
  unfolding holds_after
  owes_retain X y B S A H H' P Δ rules q = owes_more X (y ∷ []) H H' q

  pub owes_release : (X : List ℕ) (y : ℕ) → LineOwes X X (release y) (release y)
  unfolding holds_after
  owes_release X y B S A H H' P Δ rules q = owes_less X (y ∷ []) H H' (spend_one y H' rules.holds) q

  -- the array of a map that rewrites it is owed
  pub owes_rewritten : (X : List ℕ) (x y : ℕ) (ps : List ℕ) (t t' : Tree) →
      LineOwes X (y ∷ X) (loop x mapping ps (name y ∷ []) t) (loop x rewriting ps (name y ∷ []) t')
  unfolding holds_after less
  owes_rewritten X x y ps t t' B S A H H' P Δ rules q =
      subst (λ (l : List ℕ). Owes (y ∷ X) (own C x ++ H) (own C x ++ less l H')) (sym spends)
      (owes_handed X y (own C x) H H' (subst (λ (l : List ℕ). l ⊑ H') spends rules.holds.0) q)
    where
      spends : given C (name y ∷ []) ≡ y ∷ []
      spends = ap (λ (l : List ℕ). l ++ []) (hold_of_array C y rules.fits.0.deep)

  -- two trees of which the first leaves what the leaner does
  abbrev pub TreeOwes : List ℕ → Tree → Tree → Type 0
  TreeOwes X t t' = (B : List ℕ) (S L : Set) (H H' P Δ : List ℕ) (d : ℕ) → TreeRules C t' B S L H' P Δ d → Owes X H H' →
      Owes [] (left t H) (left t' H')

  pub owes_rest : (X X' : List ℕ) (l l' : Line) (t t' : Tree) → LineOwes X X' l l' → TreeOwes X' t t' →
      TreeOwes X (line l t) (line l' t')
  unfolding left_by
  owes_rest X X' l l' t t' first rest B S L H H' P Δ d rules q =
      rest B _ L (after l H) (after l' H') _ Δ d (rest_rules C l' rules) (first B S _ H H' P Δ (line_rules C rules) q)

  pub owes_if : (x : ℕ) (g : Atom) (t t' e e' : Tree) → TreeOwes [] t t' →
      LineOwes [] [] (if_else x g t e) (if_else x g t' e')
  unfolding holds_after
  owes_if x g t t' e e' then B S A H H' P Δ rules q =
      owes_more [] (own C x) (left t H) (left t' H') (then B S _ H H' [] _ _ (then_rules C rules) q)
