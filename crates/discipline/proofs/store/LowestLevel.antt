-- The levels that a log counts are the lengths of the free list over it: the lowest is the least of them.
use Rattle.prelude.specs.Kit.{ℕ, ◌≤◌, ◌+◌, ◌<◌, ◌-◌, suc, zero, arith, dec_lt, ℕ_discrete, true, false, Bool, cond, ◌≡◌}
use Rattle.prelude.specs.Kit.{refl, ◌∙◌, sym, ap, subst, some, none, Option, List, [], ◌∷◌, eqb, length, get_or}
use Rattle.semantics.specs.Basics.{occurrences, ◌∈◌}
use Rattle.semantics.specs.Store.{Cell, Store, cell, cell_count, clear, one_if_used, used_cells, free_cells}
use Rattle.semantics.specs.Store.{cells_taken}
use Rattle.semantics.specs.Sound.{free_list, due}
use Rattle.semantics.specs.Machine.{Event, acquires, frees, touches, level_by, level_after, lowest_over}
use Rattle.semantics.specs.Demands.{replayed, FreeAfter, BeginsWith, Least}
use Rattle.laws.specs.Lists.{occurs_first}
use Rattle.laws.specs.Levels.{lowest_append, lowest_most, free_from_length}
use Rattle.discipline.proofs.store.Invariant.{Invariant}
use Rattle.discipline.proofs.store.Counting.{without, without_length, without_fewer, without_other}
use Rattle.discipline.proofs.store.FreeList.{links_in_range, listed}
use Rattle.discipline.proofs.store.Release.{replayed_append}

-- ---- the length of the free list

-- the walk takes no more cells than there are
pub free_list_length : (σ : Store) → length (free_list σ) ≤ cell_count σ
unfolding free_list
free_list_length σ = free_from_length σ (cell_count σ) σ.first

-- ---- a log that can be replayed counts it

replayed_none : (l : List Event) → replayed l none ≡ none
unfolding replayed
replayed_none [] = refl
replayed_none (acquires c ∷ l) = replayed_none l
replayed_none (frees c ∷ l) = replayed_none l
replayed_none (touches c ∷ l) = replayed_none l

none_replays : {A : Type 0} (l : List Event) (g : List ℕ) → replayed l none ≡ some g → A
none_replays l g e =
    let nothing = sym (replayed_none l) ∙ e in
    absurd (let z : ◌≡◌ {A = ℕ} 0 1 = cc in omega arith)

pub level_replayed : (l : List Event) (free g : List ℕ) → replayed l (some free) ≡ some g →
    level_after l (length free) ≡ length g
unfolding replayed level_after
level_replayed [] free g e = let z : free ≡ g = cc in ap length z
level_replayed (acquires c ∷ l) [] g e = none_replays l g e
level_replayed (acquires c ∷ l) (x ∷ free) g e =
    ap (level_after l) one_fewer ∙ go (λ q. level_replayed l free g q) (eqb c x) e
  where
    one_fewer : length (x ∷ free) - 1 ≡ length free
    one_fewer = omega arith

    go : (replayed l (some free) ≡ some g → level_after l (length free) ≡ length g) → (b : Bool) →
        replayed l (cond b (some free) none) ≡ some g → level_after l (length free) ≡ length g
    go ih true q = ih q
    go ih false q = none_replays l g q
level_replayed (frees c ∷ l) free g e =
    let one_more : length free + 1 ≡ length (c ∷ free) = omega arith in
    ap (level_after l) one_more ∙ level_replayed l (c ∷ free) g e
level_replayed (touches c ∷ l) free g e = level_replayed l free g e

-- ---- the least level

-- where the lowest level is
record LowestAt (l : List Event) (n : ℕ) : Type 0 where
  at : List Event
  begins : BeginsWith l at
  level : level_after at n ≡ lowest_over l n

lowest_at : (l : List Event) (n : ℕ) → LowestAt l n
unfolding level_after lowest_over
lowest_at [] n = record { at = []; begins = record { rest = []; whole = refl }; level = refl }
lowest_at (e ∷ l) n =
    let later = lowest_at l (level_by e n) in
    elim (dec_lt (lowest_over l (level_by e n)) n) [
      | yes h ↦ record {
        at = e ∷ later.at;
        begins = record { rest = later.begins.rest; whole = ap (λ k. e ∷ k) later.begins.whole };
        level = omega (arith, later.level);
      }
      | no h ↦ record { at = []; begins = record { rest = e ∷ l; whole = refl }; level = omega arith }
    ]

module _ (l : List Event) (free g : List ℕ) (e : replayed l (some free) ≡ some g) where
  -- a beginning of the log can be replayed too
  free_after : (a : List Event) → BeginsWith l a → FreeAfter a free (level_after a (length free))
  free_after a b = go (replayed a (some free)) refl
    where
      rest_replays : replayed b.rest (replayed a (some free)) ≡ some g
      rest_replays =
          sym (replayed_append a b.rest (some free)) ∙ ap (λ k. replayed k (some free)) (sym b.whole) ∙ e

      go : (o : Option (List ℕ)) → replayed a (some free) ≡ o → FreeAfter a free (level_after a (length free))
      go none q = none_replays b.rest g (rw q at rest_replays)
      go (some h) q = record { list = h; replays = q; count = sym (level_replayed a free h q) }

  -- the lowest level that a log counts is the least number of free cells over it
  pub least_level : Least l free (lowest_over l (length free))
  least_level =
      let n = length free in
      let w = lowest_at l n in
      record {
        level = λ a b. level_after a n;
        leaves = free_after;
        bounds = λ a b. omega (
          arith,
          ap (λ k. lowest_over k n) b.whole,
          lowest_append a b.rest n,
          lowest_most b.rest (level_after a n),
        );
        at = w.at;
        begins = w.begins;
        reached = subst (λ k. FreeAfter w.at free k) w.level (free_after w.at w.begins);
      }

-- ---- the free cells, counted

due_or_used : (n : ℕ) → due n + one_if_used n ≡ 1
due_or_used zero = refl
due_or_used (suc n) = refl

-- a list of the cells of count 0 from number c on, each once
counted_from : (xs : List Cell) (c : ℕ) (l : List ℕ) → ((k : ℕ) → k ∈ l → (c ≤ k) × (k < c + length xs)) →
    ((i : ℕ) → i < length xs → occurrences (c + i) l ≡ due (get_or xs i (clear 0)).count) →
    length l + used_cells xs ≡ length xs
unfolding used_cells
counted_from [] c [] within once = refl
counted_from [] c (x ∷ l) within once = absurd (omega (arith, within x (occurs_first x l)))
counted_from (x ∷ xs) c l within once =
    let here : occurrences (c + 0) l ≡ occurrences c l = ap (λ k. occurrences k l) (omega arith) in
    let others = counted_from xs (suc c) (without c l) later later_once in
    omega (arith, without_length c l, once 0 (omega arith), here, due_or_used x.count, others)
  where
    later : (k : ℕ) → k ∈ without c l → (suc c ≤ k) × (k < suc c + length xs)
    later k h = elim (ℕ_discrete k c) [
      | yes q ↦ absurd (omega (arith, without_fewer c k l, ap (λ j. occurrences j (without c l)) q))
      | no f ↦ omega (arith, f, within k (omega (arith, without_fewer c k l)))
    ]

    later_once : (i : ℕ) → i < length xs → occurrences (suc c + i) (without c l) ≡ due (get_or xs i (clear 0)).count
    later_once i h =
        let one_on : suc c + i ≡ c + suc i = omega arith in
        without_other c (suc c + i) l (λ q. omega (arith, q)) ∙ ap (λ k. occurrences k l) one_on
        ∙ once (suc i) (omega (arith, h))

-- each cell is taken or on the free list
pub listed_or_taken : {σ : Store} {Z R : List ℕ} → Invariant σ Z R →
    length (free_list σ) + cells_taken σ ≡ cell_count σ
unfolding cell
listed_or_taken {σ} v =
    let l = free_list σ in
    counted_from σ.cells 0 l (λ k h. omega (arith, links_in_range σ σ.first l (listed v).links k h))
    (λ i h. ap (λ k. occurrences k l) (omega arith) ∙ v.free i (omega (arith, h)))

pub free_cells_listed : {σ : Store} {Z R : List ℕ} → Invariant σ Z R → free_cells σ ≡ length (free_list σ)
free_cells_listed v = omega (arith, listed_or_taken v)
