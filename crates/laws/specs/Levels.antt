-- How many cells are in use, how many the free list has, and laws of levels: how many cells are free over a log.
use Rattle.std.specs.Prelude.{ℕ, ◌≤◌, ◌+◌, ◌<◌, ◌-◌, suc, zero, min, true, false, Bool, ◌≡◌, refl, List, [], ◌∷◌}
use Rattle.std.specs.Prelude.{◌++◌, ltb, length, get_or, set}
use Rattle.prelude.specs.Kit.{arith}
use Rattle.semantics.specs.Basics.{with_if, occurrences, each}
use Rattle.semantics.specs.Sound.{free_from, free_list}
use Rattle.semantics.specs.Store.{Cell, Store, cell, cell_count, inner, clear, with_cell, with_count, with_first, freed}
use Rattle.semantics.specs.Store.{lowered, released, one_if_used, used_cells, cells_taken, zeroed}
use Rattle.semantics.specs.Machine.{Event, acquires, frees, touches, touching, each_events, lower_events}
use Rattle.semantics.specs.Machine.{release_events, level_by, level_after, lowest_over}

-- ---- cells in use, and the free list

-- a cell counts at most once
pub one_at_most : (n : ℕ) → one_if_used n ≤ 1
one_at_most zero = omega arith
one_at_most (suc n) = omega arith

-- no more cells are in use than there are
pub used_few : (l : List Cell) → used_cells l ≤ length l
unfolding used_cells
used_few [] = omega arith
used_few (x ∷ l) = omega (arith, used_few l, one_at_most x.count)

-- of a store of zeros no cell is in use
pub none_taken : (n : ℕ) → cells_taken (zeroed n) ≡ 0
unfolding zeroed used_cells clear
none_taken zero = refl
none_taken (suc n) = omega (arith, none_taken n)

-- the walk of the free list meets no more cells than it takes steps
pub free_from_length : (σ : Store) (n c : ℕ) → length (free_from σ c n) ≤ n
unfolding free_from
free_from_length σ zero c = omega arith
free_from_length σ (suc n) c = go (λ d. free_from_length σ n d) (ltb c (cell_count σ)) refl
  where
    go : ((d : ℕ) → length (free_from σ d n) ≤ n) → (t : Bool) → ltb c (cell_count σ) ≡ t →
        length (free_from σ c (suc n)) ≤ suc n
    go ih true q = rw (q, free_from) (omega (arith, ih (cell σ c).next))
    go ih false q = rw (q, free_from) (omega arith)

-- ---- levels over a log

-- after every beginning of a log no more than N cells are free
abbrev pub LevelsUpTo : ℕ → List Event → ℕ → Type 0
LevelsUpTo N [] n = n ≤ N
LevelsUpTo N (e ∷ l) n = (n ≤ N) × LevelsUpTo N l (level_by e n)

pub level_append : (a b : List Event) (n : ℕ) → level_after (a ++ b) n ≡ level_after b (level_after a n)
unfolding level_after
level_append [] b n = refl
level_append (e ∷ a) b n = level_append a b (level_by e n)

pub lowest_most : (a : List Event) (n : ℕ) → lowest_over a n ≤ n
unfolding lowest_over
lowest_most [] n = omega arith
lowest_most (e ∷ a) n = omega arith

-- the least level is at most the last
pub lowest_last : (a : List Event) (n : ℕ) → lowest_over a n ≤ level_after a n
unfolding lowest_over level_after
lowest_last [] n = omega arith
lowest_last (e ∷ a) n = omega (arith, lowest_last a (level_by e n))

pub lowest_append : (a b : List Event) (n : ℕ) →
    lowest_over (a ++ b) n ≡ min (lowest_over a n) (lowest_over b (level_after a n))
unfolding lowest_over level_after
lowest_append [] b n = omega (arith, lowest_most b n)
lowest_append (e ∷ a) b n = omega (arith, lowest_append a b (level_by e n))

pub up_to_append : (N : ℕ) (a b : List Event) (n : ℕ) → LevelsUpTo N a n → LevelsUpTo N b (level_after a n) →
    LevelsUpTo N (a ++ b) n
unfolding level_after
up_to_append N [] b n h k = k
up_to_append N (e ∷ a) b n h k = (h.0, up_to_append N a b (level_by e n) h.1 k)

up_to_now : (N : ℕ) (a : List Event) (n : ℕ) → LevelsUpTo N a n → n ≤ N
up_to_now N [] n h = h
up_to_now N (e ∷ a) n h = h.0

pub up_to_first : (N : ℕ) (a b : List Event) (n : ℕ) → LevelsUpTo N (a ++ b) n → LevelsUpTo N a n
up_to_first N [] b n h = up_to_now N b n h
up_to_first N (e ∷ a) b n h = (h.0, up_to_first N a b (level_by e n) h.1)

pub up_to_last : (N : ℕ) (a : List Event) (n : ℕ) → LevelsUpTo N a n → level_after a n ≤ N
unfolding level_after
up_to_last N [] n h = h
up_to_last N (e ∷ a) n h = up_to_last N a (level_by e n) h.1

pub up_to_more : (N M : ℕ) (a : List Event) (n : ℕ) → N ≤ M → LevelsUpTo N a n → LevelsUpTo M a n
up_to_more N M [] n h k = omega (arith, h, k)
up_to_more N M (e ∷ a) n h k = (omega (arith, h, k.0), up_to_more N M a (level_by e n) h k.1)

-- ---- one cell changed

-- how many cells are in use, with the share of the one that is changed
pub used_set : (l : List Cell) (c : ℕ) (x y : Cell) → c < length l →
    used_cells (set l c x) + one_if_used (get_or l c y).count ≡ used_cells l + one_if_used x.count
unfolding used_cells
used_set [] c x y h = absurd (omega arith)
used_set (z ∷ l) zero x y h = omega arith
used_set (z ∷ l) (suc c) x y h = omega (arith, used_set l c x y (omega arith))

pub taken_with : (σ : Store) (c : ℕ) (x : Cell) → c < cell_count σ →
    cells_taken (with_cell σ c x) + one_if_used (cell σ c).count ≡ cells_taken σ + one_if_used x.count
unfolding cell with_cell
taken_with σ c x h = used_set σ.cells c x (clear 0) h

-- a cell that has a count is there
pub counted_there : (σ : Store) (c n : ℕ) → (cell σ c).count ≡ suc n → c < cell_count σ
unfolding cell clear
counted_there σ c n e = within σ.cells c e
  where
    within : (l : List Cell) (c : ℕ) → (get_or l c (clear 0)).count ≡ suc n → c < length l
    within [] c e = absurd (omega (arith, e))
    within (z ∷ l) zero e = omega arith
    within (z ∷ l) (suc c) e = omega (arith, within l c e)

-- a cell in use that is freed is one taken cell fewer
pub freed_taken : (c n : ℕ) (σ : Store) → (cell σ c).count ≡ suc n → cells_taken (freed c σ) + 1 ≡ cells_taken σ
unfolding freed with_first clear
freed_taken c n σ e =
    let h = taken_with σ c (clear σ.first) (counted_there σ c n e) in
    omega (arith, rw e at h)

-- a cell in use that gets another count than 0 leaves as many
pub counted_taken : (c n m : ℕ) (σ : Store) → (cell σ c).count ≡ suc n →
    cells_taken (with_cell σ c (with_count (cell σ c) (suc m))) ≡ cells_taken σ
unfolding with_count
counted_taken c n m σ e =
    let h = taken_with σ c (with_count (cell σ c) (suc m)) (counted_there σ c n e) in
    omega (arith, rw e at h)

-- ---- touches leave the level

touched_level : (b : Bool) (c n : ℕ) → level_after (with_if b (touches c) []) n ≡ n
unfolding level_after
touched_level true c n = refl
touched_level false c n = refl

touched_up_to : (b : Bool) (c N n : ℕ) → n ≤ N → LevelsUpTo N (with_if b (touches c) []) n
touched_up_to true c N n h = (h, h)
touched_up_to false c N n h = h

touched_lowest : (b : Bool) (c n : ℕ) → lowest_over (with_if b (touches c) []) n ≡ n
unfolding lowest_over
touched_lowest true c n = omega arith
touched_lowest false c n = refl

pub touching_level : (σ : Store) (c n : ℕ) → level_after (touching σ c) n ≡ n
unfolding touching
touching_level σ c n = touched_level (ltb 0 (occurrences c (free_list σ))) c n

pub touching_lowest : (σ : Store) (c n : ℕ) → lowest_over (touching σ c) n ≡ n
unfolding touching
touching_lowest σ c n = touched_lowest (ltb 0 (occurrences c (free_list σ))) c n

touching_up_to : (σ : Store) (c N n : ℕ) → n ≤ N → LevelsUpTo N (touching σ c) n
unfolding touching
touching_up_to σ c N n h = touched_up_to (ltb 0 (occurrences c (free_list σ))) c N n h

-- ---- a release raises it by the cells that it frees

-- events from σ to σ' that raise the level by the cells that they free, and never lower it
record Raises (l : List Event) (σ σ' : Store) : Type 0 where
  fewer : cells_taken σ' ≤ cells_taken σ
  level : (n : ℕ) → level_after l n ≡ n + (cells_taken σ - cells_taken σ')
  lowest : (n : ℕ) → lowest_over l n ≡ n
  up_to : (N n : ℕ) → level_after l n ≤ N → LevelsUpTo N l n

raises_none : (σ : Store) → Raises [] σ σ
unfolding level_after lowest_over
raises_none σ = record {
  fewer = omega arith;
  level = λ n. omega arith;
  lowest = λ n. refl;
  up_to = λ N n h. h;
}

raises_same : (l : List Event) (σ σ' : Store) → cells_taken σ' ≡ cells_taken σ → Raises l σ σ → Raises l σ σ'
raises_same l σ σ' e r = record {
  fewer = omega (arith, e);
  level = λ n. omega (arith, e, r.level n);
  lowest = r.lowest;
  up_to = r.up_to;
}

raises_both : (a b : List Event) (σ τ υ : Store) → Raises a σ τ → Raises b τ υ → Raises (a ++ b) σ υ
raises_both a b σ τ υ r s = record {
  fewer = omega (arith, r.fewer, s.fewer);
  level = λ n. omega (arith, level_append a b n, r.level n, s.level (level_after a n), r.fewer, s.fewer);
  lowest = λ n. omega (arith, lowest_append a b n, r.lowest n, s.lowest (level_after a n), r.level n);
  up_to = λ N n h.
      let k = s.level (level_after a n) in
      up_to_append N a b n (r.up_to N n (omega (arith, level_append a b n, k)))
      (s.up_to N (level_after a n) (omega (arith, level_append a b n)));
}

raises_touching : (σ : Store) (c : ℕ) → Raises (touching σ c) σ σ
raises_touching σ c = record {
  fewer = omega arith;
  level = λ n. omega (arith, touching_level σ c n);
  lowest = λ n. touching_lowest σ c n;
  up_to = λ N n h. touching_up_to σ c N n (omega (arith, touching_level σ c n));
}

raises_free : (c : ℕ) (σ : Store) → (cell σ c).count ≡ 1 → Raises (frees c ∷ []) σ (freed c σ)
unfolding level_after lowest_over
raises_free c σ e = record {
  fewer = omega (arith, freed_taken c 0 σ e);
  level = λ n. omega (arith, freed_taken c 0 σ e);
  lowest = λ n. omega arith;
  up_to = λ N n h. (omega (arith, h), h);
}

module _ (g : ℕ → Store → Store) (f : ℕ → Store → List Event) (r : (c : ℕ) (σ : Store) → Raises (f c σ) σ (g c σ)) where
  raises_each : (l : List ℕ) (σ : Store) → Raises (each_events g f l σ) σ (each g l σ)
  unfolding each_events each
  raises_each [] σ = raises_none σ
  raises_each (c ∷ l) σ =
      raises_both (f c σ) (each_events g f l (g c σ)) σ (g c σ) (each g l (g c σ)) (r c σ) (raises_each l (g c σ))

  raises_lower : (n c : ℕ) (σ : Store) → (cell σ c).count ≡ n → Raises (lower_events g f n c σ) σ (lowered g n c σ)
  unfolding lower_events lowered
  raises_lower zero c σ e = raises_none σ
  raises_lower (suc zero) c σ e =
      raises_both (frees c ∷ []) (each_events g f (inner (cell σ c)) (freed c σ)) σ (freed c σ)
      (each g (inner (cell σ c)) (freed c σ)) (raises_free c σ e) (raises_each (inner (cell σ c)) (freed c σ))
  raises_lower (suc (suc n)) c σ e =
      raises_same [] σ (with_cell σ c (with_count (cell σ c) (suc n))) (counted_taken c (suc n) n σ e) (raises_none σ)

raises_release : (k c : ℕ) (σ : Store) → Raises (release_events k c σ) σ (released k c σ)
unfolding release_events released
raises_release zero c σ = raises_none σ
raises_release (suc k) c σ =
    raises_both (touching σ c) (lower_events (released k) (release_events k) (cell σ c).count c σ) σ σ
    (lowered (released k) (cell σ c).count c σ) (raises_touching σ c)
    (raises_lower (released k) (release_events k) (λ c σ. raises_release k c σ) (cell σ c).count c σ refl)

pub release_level : (k c : ℕ) (σ : Store) (n : ℕ) →
    level_after (release_events k c σ) n ≡ n + (cells_taken σ - cells_taken (released k c σ))
release_level k c σ n = (raises_release k c σ).level n

pub release_lowest : (k c : ℕ) (σ : Store) (n : ℕ) → lowest_over (release_events k c σ) n ≡ n
release_lowest k c σ n = (raises_release k c σ).lowest n

-- ---- events of which no level is above the first and the last

pub record NoHigher (l : List Event) : Type 0 where
  pub up_to : (N n : ℕ) → n ≤ N → level_after l n ≤ N → LevelsUpTo N l n

pub none_higher : NoHigher []
none_higher = record { up_to = λ N n h k. h }

pub acquire_no_higher : (c : ℕ) → NoHigher (acquires c ∷ [])
acquire_no_higher c = record { up_to = λ N n h k. (h, omega (arith, h)) }

pub touching_no_higher : (σ : Store) (c : ℕ) → NoHigher (touching σ c)
touching_no_higher σ c = record { up_to = λ N n h k. touching_up_to σ c N n h }

pub release_no_higher : (k c : ℕ) (σ : Store) → NoHigher (release_events k c σ)
release_no_higher k c σ = record { up_to = λ N n h g. (raises_release k c σ).up_to N n g }
