-- A value loaded into a store: the word stands for it, what was in use stays, and 25 comes only where no cell is free.
use Rattle.prelude.specs.Kit.{ℕ, ◌≤◌, ◌+◌, ◌<◌, suc, zero, arith, dec_lt, true, false, Bool, ◌≡◌, refl, ◌∙◌, sym, ap}
use Rattle.prelude.specs.Kit.{subst, ap₂, inl, inr, ◌≢◌, List, [], ◌∷◌, ◌++◌, map, append_assoc, append-nil, map-append}
use Rattle.prelude.specs.Kit.{ℤ, pos, length, length-append, ltb-true}
use Rattle.semantics.specs.Basics.{occurrences, ◌∈◌}
use Rattle.semantics.specs.Outcome.{Outcome, done, stop, Run, give, onward, passes}
use Rattle.semantics.specs.Value.{Value, num, array, Values, nil, cons, to_list, list}
use Rattle.semantics.specs.Store.{Store, Cell, cell, cell_of, cell_count, elements, inner, named_by, has_free, acquired}
use Rattle.semantics.specs.Store.{filled, wider, appended}
use Rattle.semantics.specs.Sound.{free_list}
use Rattle.semantics.specs.Demands.{value_of, root}
use Rattle.semantics.specs.Saved.{size_of, acquire_cell, load_element, load_value}
use Rattle.laws.specs.Lists.{occurrences_append, occurs_first}
use Rattle.laws.specs.Values.{items_list}
use Rattle.discipline.proofs.store.Invariant.{Invariant, Alike, StandsFor}
use Rattle.discipline.proofs.store.Counting.{append_cases, named_by_append}
use Rattle.discipline.proofs.store.Cells.{agree_elements, in_range, put_cases, put_other, with_cell_put}
use Rattle.discipline.proofs.store.Cells.{with_first_put}
use Rattle.discipline.proofs.store.Change.{commit, set_aside, inner_used}
use Rattle.discipline.proofs.store.Kept.{alike_self, alike_trans, stands_kept, words_alike}
use Rattle.discipline.proofs.store.Acquire.{Acquires, acquire_empty, filled_elements, none_free}
use Rattle.discipline.proofs.store.Append.{Appends, append}
use Rattle.discipline.proofs.machine.Standing.{none_in, named_one}
use Rattle.discipline.proofs.machine.Elements.{array_items, array_length, array_depth, elements_length}
use Rattle.discipline.proofs.machine.Acquiring.{filled_depth, cell_stands}
use Rattle.soundness.proofs.saved.Shape.{OfDepth, AllOfDepth, of_to, arrays_in, arrays_append}
use Rattle.soundness.proofs.saved.Order.{gather, array_cells, gather_append, cells_counted, Kept}
use Rattle.soundness.proofs.saved.Order.{all_cells_alike}

-- ---- what loading does

-- from σ to τ: the word w stands for v, and its reference is held
pub record Loaded (d : ℕ) (v : Value) (σ : Store) (Z R : List ℕ) (w : ℤ) (τ : Store) : Type 0 where
  pub holds : Invariant τ Z (named_by d (w ∷ []) ++ R)
  pub stands : StandsFor τ d w v
  -- all cells that were in use are left alone, with their counts
  pub alike : (r : ℕ) → 0 < (cell σ r).count → Alike σ τ r
  pub counts : (r : ℕ) → 0 < (cell σ r).count → (cell τ r).count ≡ (cell σ r).count
  pub cells : cell_count τ ≡ cell_count σ
  -- the free cells were used in prefix order
  pub order : free_list σ ≡ array_cells τ d w ++ free_list τ
  -- each is referred to once
  pub once : (r : ℕ) → r ∈ array_cells τ d w → (cell τ r).count ≡ 1

-- out of cells, and none is free
abbrev pub Dry : ℕ → Store → Type 0
Dry n τ = (n ≡ 25) × (has_free τ ≡ false)

-- loaded, or out of cells: then the value has more arrays than cells were free
abbrev pub Loads : (d : ℕ) (v : Value) (σ : Store) (Z R : List ℕ) → Outcome Store ℤ → Type 0
Loads d v σ Z R (done w τ) = Loaded d v σ Z R w τ
Loads d v σ Z R (stop n τ) = Dry n τ × (length (free_list σ) < arrays_in v)

-- ---- one element behind the others

-- the cell c, which has the values vs so far, being filled; before its first element the store was σ
record Filling (d c : ℕ) (σ : Store) (Z R : List ℕ) (vs : List Value) (τ : Store) : Type 0 where
  holds : Invariant τ (c ∷ Z) R
  filled : StandsFor τ (suc d) (pos c) (list vs)
  alike : (r : ℕ) → 0 < (cell σ r).count → Alike σ τ r
  counts : (r : ℕ) → 0 < (cell σ r).count → (cell τ r).count ≡ (cell σ r).count
  unused : (cell σ c).count ≡ 0
  cells : cell_count τ ≡ cell_count σ
  order : free_list σ ≡ c ∷ (gather (array_cells τ d) (elements (cell τ c)) ++ free_list τ)
  once : (r : ℕ) → r ∈ gather (array_cells τ d) (elements (cell τ c)) → (cell τ r).count ≡ 1

module _ {d c : ℕ} {σ τ υ : Store} {Z R : List ℕ} {vs : List Value} {v : Value} {w : ℤ}
    (F : Filling d c σ Z R vs τ) (few : length vs < 16) (L : Loaded d v τ (c ∷ Z) R w υ) where
  inv : Invariant υ (c ∷ Z) (named_by d (w ∷ []) ++ R)
  inv = L.holds

  filling : c ∈ (c ∷ Z)
  filling = occurs_first c Z

  once : (cell υ c).count ≡ 1
  once = inv.alone c filling

  still : StandsFor υ (suc d) (pos c) (list vs)
  unfolding cell_of
  still = stands_kept F.filled (λ q h.
      let e = named_one (suc d) (pos c) q h in
      let u : 0 < (cell τ c).count = omega (arith, F.holds.alone c filling) in (
        subst (λ (k : ℕ). Alike τ υ k) (sym e) (L.alike c u),
        subst (λ (k : ℕ). 0 < (cell υ k).count) (sym e) (omega (arith, once)),
      ))

  deep : (cell υ c).depth ≡ d
  unfolding cell_of
  deep = array_depth still

  small : (cell υ c).size < 16
  unfolding cell_of
  small = omega (
    arith,
    few,
    array_length still,
    ap length (items_list vs),
    elements_length (cell υ c) (inv.tidy c (omega (arith, once))),
  )

  appends : Appends υ (appended c w υ) c w (c ∷ Z) R
  appends = append R c w
      (subst (λ (k : ℕ). Invariant υ (c ∷ Z) (named_by k (w ∷ []) ++ R)) (sym deep) inv) filling small
      (λ q h. deep ∙ (L.stands.fits q (subst (λ (k : ℕ). q ∈ named_by k (w ∷ [])) deep h)).1)

  -- the element is another cell: nothing else refers to the one being filled
  other : (q : ℕ) → q ∈ named_by d (w ∷ []) → q ≢ c
  unfolding occurrences
  other q h e = omega (
    arith,
    h,
    once,
    inv.counts c,
    occurs_first c [],
    ap (λ (k : ℕ). occurrences k (named_by d (w ∷ []))) e,
    occurrences_append c (named_by d (w ∷ [])) R,
  )

  element_kept : (q : ℕ) → q ∈ named_by d (elements (cell υ c) ++ (w ∷ [])) →
      Alike υ (appended c w υ) q × (d ≡ suc (cell υ q).depth)
  unfolding inner
  element_kept q h = elim (dec_lt 0 (occurrences q (named_by d (elements (cell υ c))))) [
    | yes g ↦
        let k = inv.typed c q (subst (λ (j : ℕ). q ∈ named_by j (elements (cell υ c))) (sym deep) g) in
        (appends.alike q (λ e. omega (arith, k, ap (λ (j : ℕ). (cell υ j).depth) e)), sym deep ∙ k)
    | no g ↦
        let k : q ∈ named_by d (w ∷ []) = omega (arith, named_by_append q d (elements (cell υ c)) (w ∷ [])) in
        (appends.alike q (other q k), (L.stands.fits q k).1)
  ]

  value_now : value_of (appended c w υ) (suc d) (pos c) ≡ list (vs ++ (v ∷ []))
  unfolding value_of cell_of
  value_now = ap (λ (l : List ℤ). list (map (value_of (appended c w υ) d) l)) appends.new.elements
      ∙ ap (λ (l : List Value). list l) (words_alike d (elements (cell υ c) ++ (w ∷ [])) element_kept
      ∙ map-append (value_of υ d) (elements (cell υ c)) (w ∷ [])
      ∙ ap₂ {C = List Value} (λ (l : List Value) (u : Value). l ++ (u ∷ []))
      (sym (array_items still) ∙ items_list vs) L.stands.means)

  -- what was in use before is not the cell being filled
  was_other : (r : ℕ) → 0 < (cell σ r).count → r ≢ c
  was_other r h e = omega (arith, F.unused, ap (λ (k : ℕ). (cell σ k).count) e)

  -- an element more changes no count
  appended_counts : (r : ℕ) → (cell (appended c w υ) r).count ≡ (cell υ r).count
  unfolding appended
  appended_counts r =
      let p = with_cell_put υ c (wider (cell υ c) w) (in_range υ c (omega (arith, once))) in
      elim (put_cases p r) [
        | inl g ↦ ap (λ (k : ℕ). (cell (appended c w υ) k).count) g.is ∙ appends.new.count ∙ sym g.old_count
        | inr g ↦ g.count
      ]

  -- the elements before the new one keep their cells
  elements_stay : elements (cell υ c) ≡ elements (cell τ c)
  elements_stay = agree_elements (cell υ c) (cell τ c)
      ((L.alike c (omega (arith, F.holds.alone c filling))).cells c (root c (occurs_first c [])))

  was_kept : Kept τ υ d (elements (cell τ c))
  unfolding inner cell_of
  was_kept r h =
      let depth = array_depth F.filled in
      let named : r ∈ inner (cell τ c) = subst (λ (j : ℕ). r ∈ named_by j (elements (cell τ c))) (sym depth) h in
      (L.alike r (inner_used F.holds c r named), sym depth ∙ F.holds.typed c r named)

  cells_now : gather (array_cells (appended c w υ) d) (elements (cell (appended c w υ) c))
      ≡ gather (array_cells τ d) (elements (cell τ c)) ++ array_cells υ d w
  unfolding gather
  cells_now = ap (gather (array_cells (appended c w υ) d)) appends.new.elements
      ∙ all_cells_alike inv d (elements (cell υ c) ++ (w ∷ [])) element_kept
      ∙ gather_append (array_cells υ d) (elements (cell υ c)) (w ∷ [])
      ∙ ap₂ {C = List ℕ} ◌++◌
      (ap (gather (array_cells υ d)) elements_stay ∙ all_cells_alike F.holds d (elements (cell τ c)) was_kept)
      (append-nil (array_cells υ d w))

  order_now : free_list σ ≡ c ∷ (gather (array_cells (appended c w υ) d) (elements (cell (appended c w υ) c))
      ++ free_list (appended c w υ))
  order_now = F.order ∙ ap (λ (l : List ℕ). c ∷ l)
      (ap (λ (l : List ℕ). gather (array_cells τ d) (elements (cell τ c)) ++ l) L.order
      ∙ sym (append_assoc (gather (array_cells τ d) (elements (cell τ c))) (array_cells υ d w) (free_list υ))
      ∙ ap₂ {C = List ℕ} ◌++◌ (sym cells_now) (sym appends.free))

  once_now : (r : ℕ) → r ∈ gather (array_cells (appended c w υ) d) (elements (cell (appended c w υ) c)) →
      (cell (appended c w υ) r).count ≡ 1
  once_now r h =
      let before = gather (array_cells τ d) (elements (cell τ c)) in
      appended_counts r
      ∙ elim (append_cases r before (array_cells υ d w) (subst (λ (l : List ℕ). r ∈ l) cells_now h)) [
        | inl g ↦
            let one = F.once r g in
            L.counts r (omega (arith, one)) ∙ one
        | inr g ↦ L.once r g
      ]

  next_filling : Filling d c σ Z R (vs ++ (v ∷ [])) (appended c w υ)
  unfolding cell_of
  next_filling = record {
    holds = appends.holds;
    filled = cell_stands d (pos c) (list (vs ++ (v ∷ []))) value_now (omega (arith, once, appends.new.count))
        (appends.new.depth ∙ deep);
    alike = λ r h. alike_trans (F.alike r h) (alike_trans (L.alike r (omega (arith, h, F.counts r h)))
        (appends.alike r (was_other r h)));
    counts = λ r h. appended_counts r ∙ L.counts r (omega (arith, h, F.counts r h)) ∙ F.counts r h;
    unused = F.unused;
    cells = appends.cells ∙ L.cells ∙ F.cells;
    order = order_now;
    once = once_now;
  }

-- where an element has more arrays than cells are free, the whole has more than were free
too_few : {d c : ℕ} {σ : Store} {Z R : List ℕ} {vs : List Value} {τ : Store} → Filling d c σ Z R vs τ →
    (v : Value) (rest : List Value) → length (free_list τ) < arrays_in v →
    length (free_list σ) < arrays_in (list (vs ++ (v ∷ rest)))
unfolding array_cells cell_of
too_few {d} {c} {vs = vs} {τ = τ} F v rest h = omega (
  arith,
  h,
  ap length F.order,
  length-append (gather (array_cells τ d) (elements (cell τ c))) (free_list τ),
  cells_counted τ (suc d) (pos c),
  ap arrays_in F.filled.means,
  arrays_append vs (v ∷ rest),
)

-- ---- the elements in turn

-- loading values of depth d does what it should
abbrev pub Claim : ℕ → (Value → Run Store ℤ) → Type 0
Claim d load = (v : Value) → OfDepth v d → (σ : Store) (Z R : List ℕ) → Invariant σ Z R → Loads d v σ Z R (load v σ)

-- a word loaded, and put behind the elements of c
abbrev put_behind : ℕ → Outcome Store ℤ → Outcome Store (Unit {0})
put_behind c o = onward (λ w υ. done tt (appended c w υ)) o

abbrev Fills : (d c : ℕ) (σ : Store) (Z R : List ℕ) (vs : List Value) → Outcome Store (Unit {0}) → Type 0
Fills d c σ Z R vs (done _ τ) = Filling d c σ Z R vs τ
Fills d c σ Z R vs (stop n τ) = Dry n τ × (length (free_list σ) < arrays_in (list vs))

module _ (d c : ℕ) (load : Value → Run Store ℤ) (claim : Claim d load) (σ : Store) (Z R : List ℕ) where
  -- the values vs behind those before, from the store τ
  abbrev Goes : Values → List Value → Store → Type 0
  Goes vs before τ = Fills d c σ Z R (before ++ to_list vs) (passes (load_element load c) tt (to_list vs) τ)

  fill_all : (vs : Values) → AllOfDepth vs d → (before : List Value) → length before + size_of vs ≤ 16 →
      (τ : Store) → Filling d c σ Z R before τ → Goes vs before τ
  unfolding passes load_element onward
  fill_all nil h before few τ F = subst (λ (l : List Value). Filling d c σ Z R l τ) (sym (append-nil before)) F
  fill_all (cons v vs) h before few τ F =
      by (load v τ) (claim v h.0 τ (c ∷ Z) R F.holds) (λ l e υ G. fill_all vs h.1 l e υ G)
    where
      by : (o : Outcome Store ℤ) → Loads d v τ (c ∷ Z) R o →
          ((l : List Value) → length l + size_of vs ≤ 16 → (υ : Store) → Filling d c σ Z R l υ → Goes vs l υ) →
          Fills d c σ Z R (before ++ (v ∷ to_list vs))
          (onward (λ u. passes (load_element load c) u (to_list vs)) (put_behind c o))
      by (stop n υ) l next = (l.0, too_few F v (to_list vs) l.1)
      by (done w υ) l next =
          subst (λ (m : List Value). Fills d c σ Z R m (passes (load_element load c) tt (to_list vs) (appended c w υ)))
          (append_assoc before (v ∷ []) (to_list vs))
          (next (before ++ (v ∷ [])) (omega (arith, few, length-append before (v ∷ []))) (appended c w υ)
          (next_filling F (omega (arith, few)) l))

-- ---- a value

module _ (d : ℕ) (shallow : d ≤ 3) {σ : Store} {Z R : List ℕ} (v : Invariant σ Z R) (free : has_free σ ≡ true) where
  abbrev first : ℕ
  first = σ.first

  abbrev taken : Store
  taken = acquired d [] σ

  acquires : Acquires σ taken d [] Z R
  acquires = acquire_empty d v free shallow

  within : first < cell_count σ
  unfolding has_free
  within = ltb-true first (cell_count σ) free

  taken_counts : (r : ℕ) → 0 < (cell σ r).count → (cell taken r).count ≡ (cell σ r).count
  unfolding acquired
  taken_counts r h = rw free
      (ap (λ (y : Cell). y.count) (put_other (with_first_put σ first (filled d []) (cell σ first).next within) r
      (λ e. omega (arith, h, acquires.taken.was_free, ap (λ (k : ℕ). (cell σ k).count) e))))

  new_count : (cell taken first).count ≡ 1
  unfolding filled
  new_count = ap (λ (y : Cell). y.count) acquires.new

  no_elements : elements (cell taken first) ≡ []
  no_elements = ap elements acquires.new ∙ filled_elements d [] (omega arith)

  first_filling : Filling d first σ Z R [] taken
  unfolding gather cell_of
  first_filling = record {
    holds = set_aside new_count acquires.holds;
    filled = cell_stands d (pos first) (list []) acquires.value (omega (arith, new_count))
        (ap (λ (y : Cell). y.depth) acquires.new ∙ filled_depth d []);
    alike = acquires.alike;
    counts = taken_counts;
    unused = acquires.taken.was_free;
    cells = acquires.taken.cells;
    order = acquires.taken.free ∙ ap (λ (l : List ℤ). first ∷ (gather (array_cells taken d) l ++ free_list taken))
        (sym no_elements);
    once = λ r h. absurd (none_in r (subst (λ (l : List ℕ). r ∈ l) (ap (gather (array_cells taken d)) no_elements) h));
  }

-- the cell that is filled is then held as any other
filled_loaded : {d c : ℕ} {σ : Store} {Z R : List ℕ} (vs : Values) {τ : Store} → Filling d c σ Z R (to_list vs) τ →
    Loaded (suc d) (array vs) σ Z R (pos c) τ
unfolding cell_of array_cells
filled_loaded {d} {c} {σ} {Z} {R} vs {τ} F = record {
  holds = commit F.holds;
  stands = subst (λ (l : Values). StandsFor τ (suc d) (pos c) (array l)) (of_to vs) F.filled;
  alike = F.alike;
  counts = F.counts;
  cells = F.cells;
  order = F.order;
  once = λ r h. elim (append_cases r (c ∷ []) (gather (array_cells τ d) (elements (cell τ c))) h) [
    | inl g ↦
        let e = named_one (suc d) (pos c) r g in
        ap (λ (k : ℕ). (cell τ k).count) e ∙ F.holds.alone c (occurs_first c Z)
    | inr g ↦ F.once r g
  ];
}

module _ (d : ℕ) (shallow : d ≤ 3) (claim : Claim d (load_value d)) (vs : Values) (h : OfDepth (array vs) (suc d))
    (σ : Store) (Z R : List ℕ) (v : Invariant σ Z R) where
  -- after the elements the word is the cell's
  filled_loads : (c : ℕ) (o : Outcome Store (Unit {0})) → Fills d c σ Z R (to_list vs) o →
      Loads (suc d) (array vs) σ Z R (onward (λ u. give (pos c)) o)
  unfolding onward
  filled_loads c (done u τ) F = filled_loaded vs F
  filled_loads c (stop n τ) F =
      (F.0, subst (λ (l : Values). length (free_list σ) < arrays_in (array l)) (of_to vs) F.1)

  array_loads : Loads (suc d) (array vs) σ Z R (load_value (suc d) (array vs) σ)
  unfolding load_value acquire_cell onward
  array_loads = by (has_free σ) refl
    where
      by : (b : Bool) → has_free σ ≡ b → Loads (suc d) (array vs) σ Z R (load_value (suc d) (array vs) σ)
      by false e = rw e ((refl, e), omega (arith, ap length (none_free σ e)))
      by true e = rw e
          (filled_loads σ.first (passes (load_element (load_value d) σ.first) tt (to_list vs) (acquired d [] σ))
          (fill_all d σ.first (load_value d) claim σ Z R vs h.1 [] (omega (arith, h.0)) (acquired d [] σ)
          (first_filling d shallow v e)))

-- Every value of depth d, up to 4.
pub loads : (d : ℕ) → d ≤ 4 → Claim d (load_value d)
unfolding load_value value_of array_cells
loads zero shallow (num z) h σ Z R v = record {
  holds = v;
  stands = record { means = refl; fits = λ r g. absurd (none_in r g) };
  alike = λ r g. alike_self σ r;
  counts = λ r g. refl;
  cells = refl;
  order = refl;
  once = λ r g. absurd (none_in r g);
}
loads zero shallow (array vs) h σ Z R v = absurd h
loads (suc d) shallow (num z) h σ Z R v = absurd h
loads (suc d) shallow (array vs) h σ Z R v =
    array_loads d (omega arith) (loads d (omega arith)) vs h σ Z R v
