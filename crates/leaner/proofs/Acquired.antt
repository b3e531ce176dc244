-- A cell more: in both stores, or in the one that is not the leaner.
use Rattle.prelude.specs.Kit.{ℕ, ◌≤◌, min, arith, true, ◌≡◌, refl, ◌∙◌, sym, ap, subst, ◌≢◌, List, [], ◌∷◌, map, ℤ}
use Rattle.prelude.specs.Kit.{length, ltb-true}
use Rattle.semantics.specs.Basics.{occurrences, ◌∈◌, updated}
use Rattle.semantics.specs.Store.{Cell, Store, cell, cell_count, elements, inner, named_by, filled}
use Rattle.semantics.specs.Store.{has_free, acquired}
use Rattle.semantics.specs.Sound.{all_inner}
use Rattle.laws.specs.Lists.{occurs_first}
use Rattle.laws.specs.Updates.{updated_same, updated_there}
use Rattle.discipline.proofs.store.Invariant.{Invariant}
use Rattle.discipline.proofs.store.Cells.{Put, put_other, with_first_put, inner_in_all}
use Rattle.discipline.proofs.store.Acquire.{acquire_takes, filled_elements, filled_inner}
use Rattle.discipline.proofs.machine.Images.{image_alike}
use Rattle.leaner.proofs.Leaner.{Leaner, Matching, matching_kept}
use Rattle.leaner.proofs.Placed.{Placed, put_placed, none_placed, Corresponds, OthersStay, leaner_placed}

-- ---- a cell just acquired

acquired_put : (σ : Store) (d : ℕ) (ws : List ℤ) → has_free σ ≡ true →
    Put σ (acquired d ws σ) σ.first (filled d ws)
unfolding acquired has_free
acquired_put σ d ws e =
    rw e (with_first_put σ σ.first (filled d ws) (cell σ σ.first).next (ltb-true σ.first (cell_count σ) e))

-- ---- a cell of the leaner store gets another image

-- the first free cell of the other is no image yet, and nothing names the cell that is to have it
moved : {E : List ℕ} {π : ℕ → ℕ} {τ σ : Store} {Z R : List ℕ} (c : ℕ) → Leaner E π τ σ → Invariant σ Z R →
    has_free σ ≡ true → occurrences c (all_inner τ.cells) ≡ 0 → OthersStay π (updated π c σ.first) τ c
moved {π = π} {τ} {σ} c l v f lone = record {
  image = λ d g. updated_there π c σ.first d g;
  outside = λ d g h e. omega (
    arith,
    l.used d h,
    (acquire_takes 0 [] v f).was_free,
    ap (λ (k : ℕ). (cell σ k).count) (e ∙ updated_same π c σ.first),
  );
  names = λ d r g h. updated_there π c σ.first r
      (λ e. omega (arith, h, inner_in_all r τ d, lone, ap (λ (k : ℕ). occurrences k (all_inner τ.cells)) e));
}

placed_there : {σ σ' : Store} {x : Cell} (π : ℕ → ℕ) (c b : ℕ) → Placed σ σ' b x → Placed σ σ' (updated π c b c) x
placed_there {σ} {σ'} {x} π c b p = subst (λ (k : ℕ). Placed σ σ' k x) (sym (updated_same π c b)) p

-- both acquire a cell, with words that match
pub leaner_acquired : {E : List ℕ} {π : ℕ → ℕ} {τ σ : Store} {Z' R' Z R : List ℕ} (d : ℕ) (ws vs : List ℤ) →
    Leaner E π τ σ → Invariant τ Z' R' → Invariant σ Z R → has_free τ ≡ true → has_free σ ≡ true → length ws ≤ 16 →
    Matching π τ d ws vs → Leaner E (updated π τ.first σ.first) (acquired d ws τ) (acquired d vs σ)
unfolding filled
leaner_acquired {E} {π} {τ} {σ} d ws vs l u v f g h m =
    leaner_placed l (put_placed (acquired_put τ d ws f))
    (placed_there π τ.first σ.first (put_placed (acquired_put σ d vs g)))
    new (moved τ.first l v g lone) (λ c i. i)
  where
    free : (cell τ τ.first).count ≡ 0
    free = (acquire_takes d ws u f).was_free

    lone : occurrences τ.first (all_inner τ.cells) ≡ 0
    lone = omega (arith, free, u.counts τ.first)

    short : length vs ≤ 16
    short = omega (arith, h, m.size)

    names : inner (filled d vs) ≡ map (updated π τ.first σ.first) (inner (filled d ws))
    names = filled_inner d vs short ∙ m.names
        ∙ image_alike π (updated π τ.first σ.first) (named_by d ws)
        (λ r i. sym (updated_there π τ.first σ.first r
        (λ e. omega (arith, m.used r i, free, ap (λ (k : ℕ). (cell τ k).count) e))))
        ∙ ap (map (updated π τ.first σ.first)) (sym (filled_inner d ws h))

    new : Corresponds E (updated π τ.first σ.first) τ.first (filled d ws) (filled d vs)
    new = record {
      used = omega arith;
      depth = refl;
      names = names;
      numbers = λ i z. filled_elements d vs short ∙ m.numbers z ∙ sym (filled_elements d ws h);
      sizes = λ i. ap (λ (n : ℕ). min n 16) m.size;
    }

-- only the other does, for the result of a loop; in the leaner run that is the cell a, which nothing else names
pub leaner_alone : {E : List ℕ} {π : ℕ → ℕ} {τ σ : Store} {Z' R' Z R : List ℕ} (a : ℕ) → Leaner E π τ σ →
    Invariant τ Z' R' → Invariant σ Z R → has_free σ ≡ true → a ∈ Z' → (cell τ a).depth ≡ 0 →
    Leaner (a ∷ E) (updated π a σ.first) τ (acquired 0 [] σ)
unfolding filled inner occurrences
leaner_alone {E} {π} {τ} {σ} a l u v f h z =
    leaner_placed l (none_placed τ a) (placed_there π a σ.first (put_placed (acquired_put σ 0 [] f)))
    new (moved a l v f (omega (arith, h, u.alone a h, u.counts a))) (λ c i. later c i)
  where
    later : (c : ℕ) → c ∈ E → c ∈ (a ∷ E)
    later c i = omega (arith, i)

    new : Corresponds (a ∷ E) (updated π a σ.first) a (cell τ a) (filled 0 [])
    new = record {
      used = omega arith;
      depth = sym z;
      names = ap (λ (d : ℕ). map (updated π a σ.first) (named_by d (elements (cell τ a)))) (sym z);
      numbers = λ i e. absurd (i (occurs_first a E));
      sizes = λ i. absurd (i (occurs_first a E));
    }

-- ---- words that match, after it

-- others name no cell that was free
pub matching_acquired : {π : ℕ → ℕ} {τ : Store} {Z R : List ℕ} {k : ℕ} {us vs : List ℤ} (d : ℕ) (ws : List ℤ) (b : ℕ) →
    Invariant τ Z R → has_free τ ≡ true → Matching π τ k us vs →
    Matching (updated π τ.first b) (acquired d ws τ) k us vs
matching_acquired {π} {τ} {k = k} {us} d ws b u f m = matching_kept m (λ r h. (
  updated_there π τ.first b r (old r h),
  omega (arith, m.used r h, ap (λ (x : Cell). x.count) (put_other (acquired_put τ d ws f) r (old r h))),
))
  where
    old : (r : ℕ) → r ∈ named_by k us → r ≢ τ.first
    old r h e =
        omega (arith, m.used r h, (acquire_takes d ws u f).was_free, ap (λ (n : ℕ). (cell τ n).count) e)
