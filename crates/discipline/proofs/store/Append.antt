-- One more element in the result of a map or a filter in progress.
use Rattle.prelude.specs.Kit.{ℕ, ◌+◌, ◌<◌, suc, arith, dec_lt, add-one, ◌≡◌, refl, ◌∙◌, sym, ap, subst, inl, inr, ◌≢◌}
use Rattle.prelude.specs.Kit.{List, [], ◌∷◌, ◌++◌, ℤ, pos, set, length-set, take, get_or-set_other, take-suc-set}
use Rattle.semantics.specs.Basics.{occurrences, ◌∈◌}
use Rattle.semantics.specs.Store.{Cell, Store, cell, cell_count, inner, elements, named_by, wider, appended, with_cell}
use Rattle.semantics.specs.Sound.{free_list, all_inner}
use Rattle.laws.specs.Cells.{wider_is}
use Rattle.laws.specs.Lists.{occurrences_append}
use Rattle.discipline.proofs.store.Invariant.{Tidy, Invariant, Alike}
use Rattle.discipline.proofs.store.Counting.{named_by_append}
use Rattle.discipline.proofs.store.Cells.{in_range, Put, put_size, put_cases, put_inner, put_counts}
use Rattle.discipline.proofs.store.Cells.{put_same, with_cell_put}
use Rattle.discipline.proofs.store.FreeList.{listed, listed_used}
use Rattle.discipline.proofs.store.Change.{Change, changed, changed_list}
use Rattle.discipline.proofs.store.Kept.{alike_others}

-- ---- the wider cell

-- what it keeps, and what is new
pub record Wider (x y : Cell) (w : ℤ) : Type 0 where
  pub count : y.count ≡ x.count
  pub size : y.size ≡ suc x.size
  pub depth : y.depth ≡ x.depth
  pub elements : elements y ≡ elements x ++ (w ∷ [])
  pub tidy : Tidy y

pub widened : (x : Cell) (w : ℤ) → x.size < 16 → Tidy x → Wider x (wider x w) w
unfolding elements
widened x w h t = rw (wider_is x w h) (record {
  count = refl;
  size = omega arith;
  depth = refl;
  elements = ap (λ (n : ℕ). take n (set x.slots x.size w)) (add-one x.size)
      ∙ take-suc-set x.slots x.size w (omega (arith, t.whole));
  tidy = record {
    whole = length-set x.slots x.size w ∙ t.whole;
    size = omega arith;
    depth = t.depth;
    next = t.next;
    zeros = λ i a b. get_or-set_other x.slots x.size i w (pos 0) (λ e. omega arith) ∙ t.zeros i (omega arith) b;
  };
})

wider_names : (n : ℕ) (x y : Cell) (w : ℤ) → Wider x y w →
    occurrences n (inner y) ≡ occurrences n (inner x) + occurrences n (named_by x.depth (w ∷ []))
unfolding inner
wider_names n x y w k =
    ap (λ (d : ℕ). occurrences n (named_by d (elements y))) k.depth
    ∙ ap (λ (l : List ℤ). occurrences n (named_by x.depth l)) k.elements
    ∙ named_by_append n x.depth (elements x) (w ∷ [])

-- ---- append

-- from σ to τ: the cell c has the element w more
pub record Appends (σ τ : Store) (c : ℕ) (w : ℤ) (Z R : List ℕ) : Type 0 where
  pub holds : Invariant τ Z R
  pub alike : (r : ℕ) → r ≢ c → Alike σ τ r
  pub new : Wider (cell σ c) (cell τ c) w
  pub free : free_list τ ≡ free_list σ
  pub cells : cell_count τ ≡ cell_count σ

module _ {σ : Store} {Z : List ℕ} (R : List ℕ) (c : ℕ) (w : ℤ)
    (v : Invariant σ Z (named_by (cell σ c).depth (w ∷ []) ++ R)) (filling : c ∈ Z) (room : (cell σ c).size < 16)
    (typed : (r : ℕ) → r ∈ named_by (cell σ c).depth (w ∷ []) → (cell σ c).depth ≡ suc (cell σ r).depth) where
  abbrev x : Cell
  x = wider (cell σ c) w

  abbrev τ : Store
  τ = with_cell σ c x

  used : (cell σ c).count ≡ 1
  used = v.alone c filling

  -- nothing names it
  lone : occurrences c (all_inner σ.cells) ≡ 0
  lone = omega (arith, used, v.counts c)

  wide : Wider (cell σ c) x w
  wide = widened (cell σ c) w room (v.tidy c (omega (arith, used)))

  wide_put : Put σ τ c x
  wide_put = with_cell_put σ c x (in_range σ c (omega (arith, used)))

  same_depth : (n : ℕ) → (cell τ n).depth ≡ (cell σ n).depth
  same_depth n = elim (put_cases wide_put n) [
    | inl g ↦ ap (λ (y : Cell). y.depth) g.new ∙ wide.depth ∙ sym (ap (λ (y : Cell). y.depth) g.old)
    | inr g ↦ ap (λ (y : Cell). y.depth) g.same
  ]

  wide_typed : (r : ℕ) → r ∈ inner x → x.depth ≡ suc (cell τ r).depth
  wide_typed r h = elim (dec_lt 0 (occurrences r (inner (cell σ c)))) [
    | yes g ↦ omega (arith, wide.depth, same_depth r, v.typed c r g)
    | no g ↦ omega (arith, wide.depth, same_depth r, typed r (omega (arith, wider_names r (cell σ c) x w wide)))
  ]

  wide_change : Change σ τ c x Z R (free_list σ)
  unfolding with_cell
  wide_change = record {
    put = wide_put;
    counts = λ n. omega (
      arith,
      put_counts wide_put wide.count n,
      v.counts n,
      put_inner wide_put n,
      wider_names n (cell σ c) x w wide,
      occurrences_append n (named_by (cell σ c).depth (w ∷ [])) R,
    );
    alone = λ n h. put_counts wide_put wide.count n ∙ v.alone n h;
    typed = wide_typed;
    depth = λ h. wide.depth;
    tidy = λ h. wide.tidy;
    blank = λ e. absurd (omega (arith, e, wide.count, used));
    list = listed_used wide_put (free_list σ) (listed v) refl (omega (arith, used)) (omega (arith, used, wide.count));
  }

  pub append : Appends σ (appended c w σ) c w Z R
  unfolding appended
  append = record {
    holds = changed v wide_change;
    alike = alike_others v wide_put lone;
    new = subst (λ (y : Cell). Wider (cell σ c) y w) (sym (put_same wide_put)) wide;
    free = changed_list v wide_change;
    cells = put_size wide_put;
  }
