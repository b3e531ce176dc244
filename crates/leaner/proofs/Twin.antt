-- Two annotated trees that do the same, of which the second, the leaner one, holds no more: a map of the first may
-- rewrite its array in the second, and what the first retains and releases may be left alone there.
use Rattle.prelude.specs.Kit.{ℕ, ◌<◌, ◌≡◌, List, [], ◌∷◌, length}
use Rattle.semantics.specs.Basics.{◌∈◌}
use Rattle.semantics.specs.Kinds.{Leaf, Loop, mapping, rewriting}
use Rattle.semantics.specs.Code.{Atom, name, leaf, if_else, loop, retain, release, Tree, end, line}
use Rattle.semantics.specs.Machine.{Routine, Program, routine_of}
use Rattle.discipline.proofs.machine.Discipline.{less}

-- Before the trees the first holds the names X, which the second has handed over already or never held.
pub data Twin : List ℕ → Tree → Tree → Type 0 where
  same_end : {a : Atom} → Twin [] (end a) (end a)
  same_leaf : {X : List ℕ} {x : ℕ} {l : Leaf} {us : List Atom} {t t' : Tree} → Twin X t t' →
      Twin X (line (leaf x l us) t) (line (leaf x l us) t')
  same_if : {x : ℕ} {g : Atom} {a a' b b' t t' : Tree} → Twin [] a a' → Twin [] b b' → Twin [] t t' →
      Twin [] (line (if_else x g a b) t) (line (if_else x g a' b') t')
  same_loop : {X : List ℕ} {x : ℕ} {k : Loop} {ps : List ℕ} {us : List Atom} {b b' t t' : Tree} →
      Twin [] b b' → Twin X t t' →
      Twin X (line (loop x k ps us b) t) (line (loop x k ps us b') t')
  same_retain : {X : List ℕ} {y : ℕ} {t t' : Tree} → Twin X t t' → Twin X (line (retain y) t) (line (retain y) t')
  same_release : {X : List ℕ} {y : ℕ} {t t' : Tree} → Twin X t t' → Twin X (line (release y) t) (line (release y) t')
  -- the first alone retains a name, and holds it beside
  raised : {X : List ℕ} {y : ℕ} {t t' : Tree} → Twin (y ∷ X) t t' → Twin X (line (retain y) t) t'
  -- the first alone releases what it holds beside: a name that it retained, or an array that the second rewrote
  spared : {X : List ℕ} {y : ℕ} {t t' : Tree} → y ∈ X → Twin (less (y ∷ []) X) t t' → Twin X (line (release y) t) t'
  rewritten : {X : List ℕ} {x y : ℕ} {ps : List ℕ} {b b' t t' : Tree} → Twin [] b b' → Twin (y ∷ X) t t' →
      Twin X (line (loop x mapping ps (name y ∷ []) b) t) (line (loop x rewriting ps (name y ∷ []) b') t')

-- the second routine has the names and the depths of the first
pub record TwinRoutine (r r' : Routine) : Type 0 where
  pub tree : Tree
  pub is : r' ≡ record { names = r.names; tree = tree; depths = r.depths }
  pub twin : Twin [] r.tree tree

-- a program with other routines
abbrev pub with_routines : Program → List Routine → Program
with_routines p rs = record {
  routines = rs;
  signatures = p.signatures;
  borrowing = p.borrowing;
  depth = p.depth;
}

pub record TwinPrograms (p : Program) (rs : List Routine) : Type 0 where
  pub as_many : length rs ≡ length p.routines
  pub routine : (f : ℕ) → f < length p.routines → TwinRoutine (routine_of p f) (routine_of (with_routines p rs) f)
