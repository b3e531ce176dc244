-- One run that fills a new cell from an array that others hold meanwhile: it lends the array to its passes, or keeps it
-- to release it after them.
use Rattle.prelude.specs.Kit.{ℕ, ◌≤◌, ◌+◌, suc, pred, arith, false, ◌≡◌, refl, ◌∙◌, sym, ap, subst, ◌≢◌, List, [], ◌∷◌}
use Rattle.prelude.specs.Kit.{◌++◌, ℤ, length, ne_eqb}
use Rattle.semantics.specs.Basics.{tabulate, ◌∈◌, updated}
use Rattle.semantics.specs.Outcome.{◌>>=◌, ◌>>◌, give, passes}
use Rattle.semantics.specs.Kinds.{Loop, mapping, rewriting}
use Rattle.semantics.specs.Code.{Atom, loop, Tree}
use Rattle.semantics.specs.Live.{Set, ◌∪◌, just, among, after_pass}
use Rattle.semantics.specs.Annotate.{NameDepths}
use Rattle.semantics.specs.Meaning.{Env}
use Rattle.semantics.specs.Machine.{State, Frame, Work, word, held, work, work_pass, binding}
use Rattle.semantics.specs.Machine as Machine
use Rattle.semantics.specs.Store.{Store, cell_of}
use Rattle.laws.specs.Lists.{◌⊆◌, occurrences_append, occurs_first}
use Rattle.semantics.specs.Plain.{value}
use Rattle.discipline.proofs.normal.Trace.{CalleeGrows}
use Rattle.discipline.proofs.store.Invariant.{StandsFor}
use Rattle.discipline.proofs.store.Change.{held_used}
use Rattle.discipline.proofs.store.Counting.{in_append_right}
use Rattle.discipline.proofs.store.Kept.{stands_kept}
use Rattle.discipline.proofs.machine.Discipline.{◌⊑◌, less}
use Rattle.discipline.proofs.machine.Spending.{less_counts, unlent_few}
use Rattle.discipline.proofs.machine.Images.{without_middle}
use Rattle.discipline.proofs.machine.Frames.{hold, Setting, given, own}
use Rattle.discipline.proofs.machine.Standing.{atom_read, named_one}
use Rattle.discipline.proofs.machine.Elements.{words_of}
use Rattle.discipline.proofs.machine.Size.{tree_adds}
use Rattle.discipline.proofs.machine.Rules.{LineRules, TreeRules, Fresh}
use Rattle.discipline.proofs.machine.Claims.{TreeClaim}
use Rattle.discipline.proofs.machine.Passes.{kept_aside, outer, lent_cell, lend}
use Rattle.discipline.proofs.machine.Rewriting.{apart_aside, fits, element_depth, tree_rules, new_element, stands}
use Rattle.discipline.proofs.machine.Rewriting.{kept_situation}
use Rattle.leaner.proofs.Beside.{Around, Here, Owes}
use Rattle.leaner.proofs.Sites.{PassSite}
use Rattle.leaner.proofs.Filling.{Fill, around_roots}
use Rattle.leaner.proofs.Lending.{around_passes, here_lending}

-- Passes over the array v, which others hold meanwhile: z names the element of a pass, whose tree t gives depth e. The
-- names S are known in it, L is live after it, b stays and I is held; before the first pass the store was σ.
pub record Reader (C : Setting) (z : ℕ) (v : Atom) (t : Tree) (S L : Set) (e : ℕ) (b : Around) (I : List ℕ) (ρ : Frame)
    (δ : Env) (σ : Store) : Type 0 where
  pub names : Fresh z b.lent I I
  pub tree : TreeRules C t b.lent S L I (own C z) I e
  pub array : StandsFor σ (suc (C.depths z)) (word ρ v) (value δ v)
  pub kept : cell_of (word ρ v) ∈ b.others

-- between its passes
module _ {C : Setting} {z : ℕ} {v : Atom} {t : Tree} {S L : Set} {e : ℕ} {b : Around} {I : List ℕ} {ρ : Frame} {δ : Env}
    {σ : Store} (o : Reader C z v t S L e b I ρ δ σ) {Q : List ℕ} {d n i : ℕ} {w : ℤ}
    {s : State} (f : Fill C d (around_roots Q b) I ρ δ n σ i w s) where
  still_held : cell_of (word ρ v) ∈ (hold ρ I ++ b.others)
  still_held = in_append_right (cell_of (word ρ v)) (hold ρ I) b.others o.kept

  -- the array is as it was
  pub still_read : StandsFor s.store (suc (C.depths z)) (word ρ v) (value δ v)
  still_read = stands_kept o.array (λ y h. rw (named_one (suc (C.depths z)) (word ρ v) y h) (
    f.passing.keeps.keep (cell_of (word ρ v))
        (in_append_right (cell_of (word ρ v)) b.aside b.others o.kept),
    held_used f.passing.situation.invariant (cell_of (word ρ v)) still_held,
  ))

  -- and the new cell is another
  pub new_apart : cell_of w ≢ cell_of (word ρ v)
  new_apart = apart_aside f.passing.situation.invariant still_held

-- of a loop that lends its array
pub lending_reader : {C : Setting} {z : ℕ} {v : Atom} {t : Tree} {S L : Set} {e : ℕ} {a : Around} {H P : List ℕ}
    {ρ : Frame} {n : ℕ} {s : State} → PassSite C z v t a.lent S L H e → (Q : List ℕ) (q : Here C a H P ρ n s) →
    Reader C z v t S L e (around_passes C v H ρ Q a) (outer C v a.lent H) ρ q.values s.store
lending_reader {C} {v = v} {a = a} {H} site Q q = record {
  names = site.names;
  tree = site.tree;
  array = atom_read C q.situation v site.array site.reads;
  kept = lent_cell C v a.lent H
      (lend C v a.lent H site.reads q.situation.arrays q.situation.lent) (omega (arith, site.array));
}

-- ---- what the run had before the line

-- Before the line a stayed and H was held: what was lent then is so in the passes, so is what others held, and I has
-- every hold of H but the array's.
pub record Copier (C : Setting) (z : ℕ) (v : Atom) (t : Tree) (S L : Set) (e : ℕ) (a b : Around) (H I : List ℕ)
    (ρ : Frame) (n : ℕ) (s : State) : Type 0 where
  pub here : Here C b I [] ρ n s
  pub reads : Reader C z v t S L e b I ρ here.values s.store
  pub lends : a.lent ⊆ b.lent
  pub shares : (a.aside ++ a.others) ⊆ (b.aside ++ b.others)
  pub holds : less (given C (v ∷ [])) H ⊑ I

-- a loop that lends its array
pub lending_copier : {C : Setting} {z : ℕ} {v : Atom} {t : Tree} {S L : Set} {e : ℕ} {a : Around} {H P : List ℕ}
    {ρ : Frame} {n : ℕ} {s : State} → PassSite C z v t a.lent S L H e → (Q : List ℕ) → C.start.frugal ≡ false →
    Here C a H P ρ n s →
    Copier C z v t S L e a (around_passes C v H ρ Q a) H (outer C v a.lent H) ρ n s
unfolding here_lending
lending_copier {C} {v = v} {a = a} {H} {ρ = ρ} site Q careless q = record {
  here = here_lending v Q careless site.reads q;
  reads = lending_reader site Q q;
  lends = λ y h. in_append_right y (given C (v ∷ [])) a.lent h;
  shares = without_middle a.aside (hold ρ (kept_aside C v a.lent H)) a.others;
  holds = λ y. omega (
    arith,
    less_counts (kept_aside C v a.lent H) H y,
    less_counts (given C (v ∷ [])) H y,
    unlent_few a.lent (given C (v ∷ [])) y,
  );
}

-- what is handed over may be read
pub handed_reads : (B l H : List ℕ) → l ⊑ H → l ⊆ (B ++ H)
handed_reads B l H spends y h = in_append_right y B H (omega (arith, h, spends y))

-- the first holds what the leaner run does once that has handed over l
pub handed_owes : (X l H H' I : List ℕ) → less l H ⊑ I → Owes X H H' → Owes [] I (less l H')
handed_owes X l H H' I holds owes y =
    omega (arith, owes y, occurrences_append y X H', holds y, less_counts l H y, less_counts l H' y)

-- others have a reference to the cell c more
abbrev pub around_kept : ℕ → List ℕ → Around → Around
around_kept c Q a = record { aside = a.aside; others = c ∷ a.others; roots = Q; lent = a.lent }

-- the roots of a line that binds x, over the array v, after which A is live
abbrev pub line_roots : NameDepths → ℕ → ℕ → Atom → Tree → Set → Around → Frame → List ℕ
line_roots Γ x z v t A a ρ = a.roots ++ held Γ (among (v ∷ []) (after_pass x (z ∷ []) t A)) ρ

-- the tree of a map that is to rewrite its array gives the depth of the result's elements
pub rewriting_tree : (C : Setting) {x z : ℕ} {v : Atom} {t : Tree} {B : List ℕ} {S A : Set} {H P Δ : List ℕ} →
    CalleeGrows C.meant → LineRules C (loop x rewriting (z ∷ []) (v ∷ []) t) B S A H P Δ → TreeClaim C t →
    TreeRules C t B (S ∪ just (z ∷ [])) (after_pass x (z ∷ []) t A) (less (given C (v ∷ [])) H) (own C z)
    (less (given C (v ∷ [])) H) (pred (C.depths x))
rewriting_tree C {x} {z} {v} {t} {B} {S} {A} {H} grows rules claim = subst (λ (d : ℕ). TreeRules C t B
    (S ∪ just (z ∷ [])) (after_pass x (z ∷ []) t A) (less (given C (v ∷ [])) H) (own C z) (less (given C (v ∷ [])) H) d)
    ((fits C grows rules claim).1 ∙ sym (ap pred (fits C grows rules claim).2)) (tree_rules C grows rules claim)

-- such a map that keeps its array instead
pub keeping_copier : {C : Setting} {x z : ℕ} {v : Atom} {t : Tree} {a : Around} {S A : Set} {H P Δ : List ℕ} {ρ : Frame}
    {k : ℕ} {s : State} → CalleeGrows C.meant →
    LineRules C (loop x rewriting (z ∷ []) (v ∷ []) t) a.lent S A H P Δ → TreeClaim C t → C.need ≤ k →
    Here C a H P ρ (suc (tree_adds t + k)) s →
    Copier C z v t (S ∪ just (z ∷ [])) (after_pass x (z ∷ []) t A) (pred (C.depths x)) a
    (around_kept (cell_of (word ρ v)) (line_roots C.depths x z v t A a ρ) a) H (less (given C (v ∷ [])) H) ρ
    (suc (tree_adds t + k)) s
keeping_copier {C} {v = v} {a = a} {ρ = ρ} {k} {s} grows rules claim need q = record {
  here = record {
    values = q.values;
    meter = q.meter;
    together = q.together;
    situation = kept_situation C grows rules claim k need s q.situation;
  };
  reads = record {
    names = new_element C grows rules claim;
    tree = rewriting_tree C grows rules claim;
    array = subst (λ (j : ℕ). StandsFor s.store (suc j) (word ρ v) (value q.values v))
        (sym (element_depth C grows rules claim)) (stands C grows rules claim k need s q.situation);
    kept = occurs_first (cell_of (word ρ v)) a.others;
  };
  lends = λ y h. h;
  shares = without_middle a.aside (cell_of (word ρ v) ∷ []) a.others;
  holds = λ y. omega arith;
}

-- ---- its passes

-- the tree of a pass, over the roots R
abbrev pub pass_body : (C : Setting) (z : ℕ) (t : Tree) (L : Set) (R : List ℕ) (ρ : Frame) → List ℤ → Work ℤ
pass_body C z t L R ρ us = work C.callee C.program.borrowing C.depths t L R (binding (z ∷ []) us ρ)

-- a loop over the array v that binds x, from the word that is carried first; at its beginning the store was σ
abbrev pub loop_rest : (C : Setting) (i : Loop) (x z : ℕ) (v : Atom) (t : Tree) (L : Set) (Q : List ℕ) (ρ : Frame)
    (σ : Store) → ℤ → Work Frame
loop_rest C i x z v t L Q ρ σ c = do
  w ← passes (work_pass i (pred (C.depths x)) (pass_body C z t L (Q ++ (cell_of c ∷ [])) ρ) (word ρ v)) c
      (tabulate 0 (length (words_of σ (word ρ v))) (λ j. j))
  Machine.loop_ends i (word ρ v) w
  give (updated ρ x w)

-- a loop of this kind that fills a new cell works as a map does
abbrev pub FillsAsMap : Loop → Type 0
FillsAsMap i = (d : ℕ) (body : List ℤ → Work ℤ) (array c : ℤ) (j : ℕ) (s : State) → cell_of c ≢ cell_of array →
    work_pass i d body array c j s ≡ work_pass mapping d body array c j s

pub mapping_fills : FillsAsMap mapping
mapping_fills d body array c j s apart = refl

pub rewriting_fills : FillsAsMap rewriting
unfolding work_pass
rewriting_fills d body array c j s apart = rw (ne_eqb (cell_of c) (cell_of array) apart)
