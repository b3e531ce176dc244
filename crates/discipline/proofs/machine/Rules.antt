-- The rules of a tree and of a line together, and what follows for the parts of a line: only names that are known hold
-- or are lent, so that a name just bound does neither.
use Rattle.prelude.specs.Kit.{ℕ, arith, dec_lt, ℕ_discrete, true, false, Bool, cond, false≢true, ◌≡◌, ◌∙◌, sym, ap, inl}
use Rattle.prelude.specs.Kit.{inr, List, [], ◌∷◌, ◌++◌, eqb, eq-eqb}
use Rattle.semantics.specs.Basics.{occurrences, ◌∈◌}
use Rattle.semantics.specs.Kinds.{Loop, mapping, filtering, reducing, rewriting, leaf_hands, loop_hands, loop_reads}
use Rattle.semantics.specs.Kinds.{element_name, is_pending, carried_name}
use Rattle.semantics.specs.Code.{Atom, Line, leaf, if_else, loop, retain, release, Tree, line, ending}
use Rattle.semantics.specs.Live.{Set, ◌∪◌, only, just, live, after_branch, after_pass}
use Rattle.semantics.specs.Annotate.{atom_depth}
use Rattle.laws.specs.Tests.{or_left, or_right}
use Rattle.discipline.proofs.store.Counting.{append_cases}
use Rattle.discipline.proofs.machine.Discipline.{Fitting, LineFitting, Scoped, LineScoped, known_after, Holding}
use Rattle.discipline.proofs.machine.Discipline.{LineHolding, Frugal, LineFrugal, handed, holds_of, less}
use Rattle.discipline.proofs.machine.Discipline.{holds_after, waits_after, left_by, aside, loop_holds, outer_holds}
use Rattle.discipline.proofs.machine.Discipline.{pass_lent, pass_holds}
use Rattle.discipline.proofs.machine.Spending.{less_in}
use Rattle.discipline.proofs.machine.Images.{first_or_later}
use Rattle.discipline.proofs.machine.Frames.{Setting, own}
use Rattle.discipline.proofs.machine.Standing.{none_in, hold_of_other}

-- the names that are lent, that hold and that the tree leaves are known
pub record Names (S : Set) (B H Δ : List ℕ) : Type 0 where
  pub lent : (n : ℕ) → n ∈ B → S n ≡ true
  pub held : (n : ℕ) → n ∈ H → S n ≡ true
  pub left : (n : ℕ) → n ∈ Δ → S n ≡ true

pub lent_or_held : {S : Set} {B H Δ : List ℕ} → Names S B H Δ → (n : ℕ) → n ∈ (B ++ H) → S n ≡ true
lent_or_held {B = B} {H} names n h = elim (append_cases n B H h) [
  | inl g ↦ names.lent n g
  | inr g ↦ names.held n g
]

-- a name that is none of these
pub record Fresh (x : ℕ) (B H Δ : List ℕ) : Type 0 where
  pub lent : occurrences x B ≡ 0
  pub before : occurrences x H ≡ 0
  pub after : occurrences x Δ ≡ 0

unknown_none : (S : Set) (x : ℕ) (l : List ℕ) → S x ≡ false → ((n : ℕ) → n ∈ l → S n ≡ true) → occurrences x l ≡ 0
unknown_none S x l e f = elim (dec_lt 0 (occurrences x l)) [
  | yes h ↦ absurd (false≢true (sym e ∙ f x h))
  | no h ↦ omega (arith, h)
]

pub fresh : {S : Set} {B H Δ : List ℕ} (x : ℕ) → S x ≡ false → Names S B H Δ → Fresh x B H Δ
fresh {S} {B} {H} {Δ} x e names = record {
  lent = unknown_none S x B e names.lent;
  before = unknown_none S x H e names.held;
  after = unknown_none S x Δ e names.left;
}

known_more : (S : Set) (x n : ℕ) → S n ≡ true → (S ∪ only x) n ≡ true
known_more S x n e = or_left (S n) (eqb x n) e

known_now : (S : Set) (x n : ℕ) → n ≡ x → (S ∪ only x) n ≡ true
known_now S x n e = or_right (S n) (eqb x n) (eq-eqb x n (sym e))

-- a known name stays known
pub known_stays : (l : Line) (S : Set) (n : ℕ) → S n ≡ true → known_after l S n ≡ true
known_stays (leaf x l us) S n e = known_more S x n e
known_stays (if_else x g t f) S n e = known_more S x n e
known_stays (loop x k ps us t) S n e = known_more S x n e
known_stays (retain x) S n e = e
known_stays (release x) S n e = e

-- ---- the rules together

module _ (C : Setting) where
  -- with the names S known, B lent, H held and P pending, a tree gives depth d and leaves the holds Δ; L is live after
  pub record TreeRules (t : Tree) (B : List ℕ) (S L : Set) (H P Δ : List ℕ) (d : ℕ) : Type 0 where
    pub fits : Fitting C.program C.depths t d
    pub scoped : Scoped t S
    pub names : Names S B H Δ
    pub holds : Holding C.program.borrowing C.depths B t H P Δ
    pub frugal : C.start.frugal ≡ true → Frugal C.program.borrowing C.depths B t H L

  -- a line of such a tree, after which A is live
  pub record LineRules (l : Line) (B : List ℕ) (S A : Set) (H P Δ : List ℕ) : Type 0 where
    pub fits : LineFitting C.program C.depths l
    pub scoped : LineScoped l S
    pub names : Names S B H Δ
    pub holds : LineHolding C.program.borrowing C.depths B l H P
    pub frugal : C.start.frugal ≡ true → LineFrugal C.program.borrowing C.depths B l H A

  pub line_rules : {l : Line} {t : Tree} {B : List ℕ} {S L : Set} {H P Δ : List ℕ} {d : ℕ} →
      TreeRules (line l t) B S L H P Δ d → LineRules l B S (live t L) H P Δ
  line_rules r = record {
    fits = r.fits.0;
    scoped = r.scoped.0;
    names = r.names;
    holds = r.holds.0;
    frugal = λ f. (r.frugal f).0;
  }

  -- ---- after a line

  bound_known : (S : Set) (x : ℕ) (l : List ℕ) → ((n : ℕ) → n ∈ l → S n ≡ true) →
      (n : ℕ) → n ∈ (own C x ++ l) → (S ∪ only x) n ≡ true
  bound_known S x l f n h = elim (ℕ_discrete n x) [
    | yes e ↦ known_now S x n e
    | no e ↦ known_more S x n (f n (hold_of_other C x n l e h))
  ]

  -- once the name x is bound and holds
  pub names_bound : {S : Set} {B H Δ : List ℕ} (x : ℕ) → Names S B H Δ → Names (S ∪ only x) B (own C x ++ H) Δ
  names_bound {S} {H = H} x names = record {
    lent = λ n h. known_more S x n (names.lent n h);
    held = bound_known S x H names.held;
    left = λ n h. known_more S x n (names.left n h);
  }

  leaf_known : (S : Set) (x : ℕ) (b : Bool) (l : List ℕ) → ((n : ℕ) → n ∈ l → S n ≡ true) →
      (n : ℕ) → n ∈ (cond b [] (own C x) ++ l) → (S ∪ only x) n ≡ true
  leaf_known S x true l f n h = known_more S x n (f n h)
  leaf_known S x false l f n h = bound_known S x l f n h

  after_known : {B : List ℕ} {S A : Set} {P Δ : List ℕ} (l : Line) (H : List ℕ) → LineRules l B S A H P Δ →
      (n : ℕ) → n ∈ holds_after C.program.borrowing C.depths l H → known_after l S n ≡ true
  unfolding holds_after
  after_known {S = S} (leaf x l us) H r =
      leaf_known S x (is_pending l) (less (handed C.depths (leaf_hands C.program.borrowing l us)) H)
      (λ n h. r.names.held n (less_in (handed C.depths (leaf_hands C.program.borrowing l us)) H n h))
  after_known {S = S} (if_else x g t e) H r =
      bound_known S x (left_by C.program.borrowing C.depths t H)
      (λ n h. lent_or_held r.names n (r.holds.0 n h))
  after_known {S = S} (loop x k ps us t) H r =
      bound_known S x (loop_holds C.depths k us H)
      (λ n h. r.names.held n (less_in (handed C.depths (loop_hands k us)) H n h))
  after_known {S = S} (retain x) H r = λ n h. elim (first_or_later n x H h) [
    | inl e ↦ ap S e ∙ r.scoped
    | inr g ↦ r.names.held n g
  ]
  after_known (release x) H r = λ n h. r.names.held n (less_in (x ∷ []) H n h)

  -- the rest of a tree
  pub rest_rules : {t : Tree} {B : List ℕ} {S L : Set} {H P Δ : List ℕ} {d : ℕ} (l : Line) →
      TreeRules (line l t) B S L H P Δ d →
      TreeRules t B (known_after l S) L (holds_after C.program.borrowing C.depths l H)
      (waits_after C.depths l) Δ d
  rest_rules {S = S} {H = H} l r = record {
    fits = r.fits.1;
    scoped = r.scoped.1;
    names = record {
      lent = λ n h. known_stays l S n (r.names.lent n h);
      held = after_known l H (line_rules r);
      left = λ n h. known_stays l S n (r.names.left n h);
    };
    holds = r.holds.1;
    frugal = λ f. (r.frugal f).1;
  }

  -- ---- the trees of a line

  module _ {x : ℕ} {g : Atom} {t e : Tree} {B : List ℕ} {S A : Set} {H P Δ : List ℕ}
      (r : LineRules (if_else x g t e) B S A H P Δ) where
    kept_names : Names S B H (left_by C.program.borrowing C.depths t H)
    kept_names = record {
      lent = r.names.lent;
      held = r.names.held;
      left = λ n h. lent_or_held r.names n (r.holds.0 n h);
    }

    pub then_rules : TreeRules t B S (after_branch x A) H [] (left_by C.program.borrowing C.depths t H)
        (C.depths x)
    then_rules = record {
      fits = r.fits.1;
      scoped = r.scoped.2;
      names = kept_names;
      holds = r.holds.1;
      frugal = λ f. (r.frugal f).0;
    }

    pub else_rules : TreeRules e B S (after_branch x A) H [] (left_by C.program.borrowing C.depths t H)
        (C.depths x)
    else_rules = record {
      fits = r.fits.2;
      scoped = r.scoped.3;
      names = kept_names;
      holds = r.holds.2;
      frugal = λ f. (r.frugal f).1;
    }

    pub if_fresh : Fresh x B (left_by C.program.borrowing C.depths t H) Δ
    if_fresh = record {
      lent = names.lent;
      before = unknown_none S x (left_by C.program.borrowing C.depths t H) r.scoped.1.unknown
          (λ n h. lent_or_held r.names n (r.holds.0 n h));
      after = names.after;
    }
      where
        names : Fresh x B H Δ
        names = fresh x r.scoped.1.unknown r.names

  module _ {x : ℕ} {k : Loop} {ps : List ℕ} {us : List Atom} {t : Tree} {B : List ℕ} {S A : Set} {H P Δ : List ℕ}
      (r : LineRules (loop x k ps us t) B S A H P Δ) where
    rest_known : (n : ℕ) → n ∈ loop_holds C.depths k us H → S n ≡ true
    rest_known n h = r.names.held n (less_in (handed C.depths (loop_hands k us)) H n h)

    outer_known : (n : ℕ) → n ∈ outer_holds C.depths B k us H → S n ≡ true
    outer_known n h = rest_known n (less_in (aside C.depths B k us) (loop_holds C.depths k us H) n h)

    read_known : (n : ℕ) → n ∈ pass_lent C.depths B k us → S n ≡ true
    read_known n h = elim (append_cases n (handed C.depths (loop_reads k us)) B h) [
      | inl g ↦ elim (append_cases n B (loop_holds C.depths k us H) (r.holds.1 n g)) [
        | inl q ↦ r.names.lent n q
        | inr q ↦ rest_known n q
      ]
      | inr g ↦ r.names.lent n g
    ]

    -- before the names of a pass are bound
    pub outer_names : Names S (pass_lent C.depths B k us) (outer_holds C.depths B k us H)
        (outer_holds C.depths B k us H)
    outer_names = record { lent = read_known; held = outer_known; left = outer_known }

    pub loop_fresh : Fresh x B (loop_holds C.depths k us H) Δ
    loop_fresh = record {
      lent = names.lent;
      before = unknown_none S x (loop_holds C.depths k us H) r.scoped.1.unknown rest_known;
      after = names.after;
    }
      where
        names : Fresh x B H Δ
        names = fresh x r.scoped.1.unknown r.names

    carried_known : (k : Loop) (ps : List ℕ) (n : ℕ) → n ∈ holds_of C.depths (carried_name k ps) →
        just ps n ≡ true
    carried_known mapping ps n h = absurd (none_in n h)
    carried_known filtering ps n h = absurd (none_in n h)
    carried_known reducing [] n h = absurd (none_in n h)
    carried_known reducing (p ∷ ps) n h = elim (ℕ_discrete n p) [
      | yes e ↦ or_left (eqb p n) (just ps n) (eq-eqb p n (sym e))
      | no e ↦ absurd (none_in n (hold_of_other C p n [] e h))
    ]
    carried_known rewriting ps n h = absurd (none_in n h)

    pub pass_rules : TreeRules t (pass_lent C.depths B k us) (S ∪ just ps) (after_pass x ps t A)
        (pass_holds C.depths B k ps us H) (holds_of C.depths (element_name k ps))
        (outer_holds C.depths B k us H) (atom_depth C.depths (ending t))
    pass_rules = record {
      fits = r.fits.1;
      scoped = r.scoped.3;
      names = record {
        lent = λ n h. or_left (S n) (just ps n) (read_known n h);
        held = λ n h. elim (append_cases n (holds_of C.depths (carried_name k ps))
            (outer_holds C.depths B k us H) h) [
              | inl g ↦ or_right (S n) (just ps n) (carried_known k ps n g)
              | inr g ↦ or_left (S n) (just ps n) (outer_known n g)
            ];
        left = λ n h. or_left (S n) (just ps n) (outer_known n h);
      };
      holds = r.holds.2;
      frugal = λ f. (r.frugal f).1;
    }
