-- The totals loaded into free cells: the store at rest with the value, its cells in order; 25 just where the value has
-- more arrays than there are cells.
use Rattle.prelude.specs.Kit.{ℕ, ◌≤◌, ◌+◌, ◌<◌, arith, ◌≡◌, ◌∙◌, sym, ap, subst, ap₂}
use Rattle.prelude.specs.Kit.{List, [], ◌∷◌, ◌++◌, append-nil, ℤ, length, length-append}
use Rattle.semantics.specs.Basics.{tabulate, ◌∈◌}
use Rattle.semantics.specs.Outcome.{Outcome, done, stop, onward}
use Rattle.semantics.specs.Value.{Value}
use Rattle.semantics.specs.Store.{Store, cell, cell_count, named_by, with_totals, relinked, zeroed, opened}
use Rattle.semantics.specs.Store.{cells_taken}
use Rattle.semantics.specs.Sound.{free_list}
use Rattle.semantics.specs.Saved.{load_value, load_totals, loaded}
use Rattle.laws.specs.Lists.{tabulate_length}
use Rattle.discipline.proofs.store.Invariant.{Invariant, StandsFor}
use Rattle.discipline.proofs.store.Change.{held_used}
use Rattle.discipline.proofs.store.Kept.{stands_kept}
use Rattle.discipline.proofs.store.LowestLevel.{listed_or_taken}
use Rattle.discipline.proofs.store.Retain.{Rewrites, rewrite_totals}
use Rattle.discipline.proofs.store.Opening.{open_rests}
use Rattle.soundness.proofs.Settled.{Settled}
use Rattle.soundness.proofs.saved.Shape.{OfDepth, arrays_in}
use Rattle.soundness.proofs.saved.Order.{array_cells, cells_alike, cells_counted}
use Rattle.soundness.proofs.saved.Rising.{rising}
use Rattle.soundness.proofs.saved.Loading.{Loaded, Dry, Loads, loads}

-- n cells with the value: at rest; its cells in prefix order and then the free ones are 0, 1, .. below n; each of its
-- cells has the count 1, and as many are taken as it has arrays
pub record Filled (n d : ℕ) (v : Value) (σ : Store) : Type 0 where
  pub settled : Settled d σ v
  pub order : array_cells σ d σ.totals ++ free_list σ ≡ tabulate 0 n (λ i. i)
  pub once : (c : ℕ) → c ∈ array_cells σ d σ.totals → (cell σ c).count ≡ 1
  pub taken : cells_taken σ ≡ arrays_in v

-- so where the value has no more arrays than there are cells; else 25, with no cell free
abbrev pub Ends : (n d : ℕ) (v : Value) → Outcome Store (Unit {0}) → Type 0
Ends n d v (done _ σ) = Filled n d v σ × (arrays_in v ≤ n)
Ends n d v (stop k σ) = Dry k σ × (n < arrays_in v)

module _ (d : ℕ) {v : Value} {σ : Store} {w : ℤ} {τ : Store} (some_cell : 1 ≤ cell_count σ)
    (L : Loaded d v σ [] [] w τ) where
  inv : Invariant τ [] (named_by d (w ∷ []))
  inv = subst (λ (l : List ℕ). Invariant τ [] l) (append-nil (named_by d (w ∷ []))) L.holds

  rewrites : Rewrites τ w [] (named_by d (w ∷ []))
  rewrites = rewrite_totals w inv

  stands : StandsFor (with_totals τ w) d w v
  stands = stands_kept L.stands (λ r h. (rewrites.alike r, held_used rewrites.holds r h))

  same_cells : array_cells (with_totals τ w) d w ≡ array_cells τ d w
  same_cells = cells_alike inv d w (λ r h. (rewrites.alike r, (L.stands.fits r h).1))

  same_order : array_cells (with_totals τ w) d w ++ free_list (with_totals τ w) ≡ free_list σ
  same_order = ap₂ {C = List ℕ} ◌++◌ same_cells rewrites.free ∙ sym L.order

  still_once : (c : ℕ) → c ∈ array_cells (with_totals τ w) d w → (cell (with_totals τ w) c).count ≡ 1
  unfolding with_totals cell
  still_once c h = L.once c (subst (λ (l : List ℕ). c ∈ l) same_cells h)

  as_many : length (array_cells (with_totals τ w) d w) ≡ arrays_in v
  as_many = cells_counted (with_totals τ w) d w ∙ ap arrays_in stands.means

  loaded_settles : Settled d (with_totals τ w) v
  unfolding with_totals
  loaded_settles = record {
    rests = record { holds = rewrites.holds; fits = λ r h. (stands.fits r h).1 };
    value = stands.means;
    cells = omega (arith, some_cell, L.cells);
  }

module _ (n d : ℕ) (some_cell : 1 ≤ n) (few : n ≤ 256) (shallow : d ≤ 4) (v : Value) (h : OfDepth v d) where
  abbrev empty_store : Store
  empty_store = relinked (zeroed n)

  none_used : Invariant empty_store [] []
  unfolding opened
  none_used = (open_rests n 0 some_cell few (omega arith)).rests.holds

  cells_there : cell_count empty_store ≡ n
  unfolding opened
  cells_there = (open_rests n 0 some_cell few (omega arith)).cells

  all_free : length (free_list empty_store) ≡ n
  all_free = ap length (rising n none_used) ∙ tabulate_length n 0 (λ i. i)

  -- Loading into n free cells.
  pub loaded_ends : Ends n d v (loaded n d v)
  unfolding loaded load_totals onward with_totals
  loaded_ends = by (load_value d v empty_store) (loads d shallow v h empty_store [] [] none_used)
    where
      by : (o : Outcome Store ℤ) → Loads d v empty_store [] [] o →
          Ends n d v (onward (λ w τ. done tt (with_totals τ w)) o)
      by (done w τ) L =
          let there : 1 ≤ cell_count empty_store = omega (arith, cells_there, some_cell) in
          let in_order = same_order d there L ∙ rising n none_used in
          let s = loaded_settles d there L in
          let split : arrays_in v + length (free_list (with_totals τ w)) ≡ n = omega (
            arith,
            as_many d there L,
            ap length in_order,
            tabulate_length n 0 (λ i. i),
            length-append (array_cells (with_totals τ w) d w) (free_list (with_totals τ w)),
          ) in (
            record {
              settled = s;
              order = in_order;
              once = still_once d there L;
              taken = omega (arith, split, listed_or_taken s.rests.holds, L.cells, cells_there);
            },
            omega (arith, split),
          )
      by (stop k τ) L = (L.0, omega (arith, L.1, all_free))
