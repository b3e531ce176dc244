-- Another word in a slot of an array of numbers that is set aside.
use Rattle.prelude.specs.Kit.{ℕ, ◌<◌, arith, ◌≡◌, refl, ◌∙◌, sym, ap, subst, ◌≢◌, List, ℤ, pos, set, length-set}
use Rattle.prelude.specs.Kit.{get_or-set_other, take-set-lt, lt-ltb}
use Rattle.semantics.specs.Basics.{occurrences, ◌∈◌}
use Rattle.semantics.specs.Store.{Cell, Store, cell, cell_count, inner, elements, with_slot, overwritten}
use Rattle.semantics.specs.Store.{with_cell}
use Rattle.semantics.specs.Sound.{free_list, all_inner}
use Rattle.laws.specs.Cells.{inner_flat}
use Rattle.discipline.proofs.store.Invariant.{Tidy, Invariant, Alike}
use Rattle.discipline.proofs.store.Claims.{OfNumbers}
use Rattle.discipline.proofs.store.Cells.{in_range, Put, put_size, put_inner, put_counts}
use Rattle.discipline.proofs.store.Cells.{put_same, with_cell_put}
use Rattle.discipline.proofs.store.FreeList.{listed, listed_used}
use Rattle.discipline.proofs.store.Change.{Change, changed, changed_list}
use Rattle.discipline.proofs.store.Kept.{alike_others}

-- ---- the cell

-- what it keeps, and what is new
pub record Slotted (x y : Cell) (i : ℕ) (w : ℤ) : Type 0 where
  pub count : y.count ≡ x.count
  pub depth : y.depth ≡ x.depth
  pub elements : elements y ≡ set (elements x) i w
  pub tidy : Tidy y

slotted : (x : Cell) (i : ℕ) (w : ℤ) → i < x.size → Tidy x → Slotted x (with_slot x i w) i w
unfolding elements with_slot
slotted x i w h t = rw (lt-ltb i x.size h) (record {
  count = refl;
  depth = refl;
  elements = take-set-lt x.size x.slots i w h;
  tidy = record {
    whole = length-set x.slots i w ∙ t.whole;
    size = t.size;
    depth = t.depth;
    next = t.next;
    zeros = λ j a b. get_or-set_other x.slots i j w (pos 0) (λ e. omega arith) ∙ t.zeros j a b;
  };
})

-- ---- overwrite

-- from σ to τ: the cell c has the element w in the place of its element i
pub record Overwrites (σ τ : Store) (c i : ℕ) (w : ℤ) (Z R : List ℕ) : Type 0 where
  pub holds : Invariant τ Z R
  pub alike : (r : ℕ) → r ≢ c → Alike σ τ r
  pub new : Slotted (cell σ c) (cell τ c) i w
  pub free : free_list τ ≡ free_list σ
  pub cells : cell_count τ ≡ cell_count σ

module _ {σ : Store} {Z R : List ℕ} (c i : ℕ) (w : ℤ) (v : Invariant σ Z R) (aside : c ∈ Z)
    (within : i < (cell σ c).size) (numbers : OfNumbers σ c) where
  abbrev x : Cell
  x = with_slot (cell σ c) i w

  abbrev τ : Store
  τ = with_cell σ c x

  used : (cell σ c).count ≡ 1
  used = v.alone c aside

  -- nothing names it
  lone : occurrences c (all_inner σ.cells) ≡ 0
  lone = omega (arith, used, v.counts c)

  new : Slotted (cell σ c) x i w
  new = slotted (cell σ c) i w within (v.tidy c (omega (arith, used)))

  new_put : Put σ τ c x
  new_put = with_cell_put σ c x (in_range σ c (omega (arith, used)))

  old_names : (n : ℕ) → occurrences n (inner (cell σ c)) ≡ 0
  unfolding occurrences
  old_names n = ap (occurrences n) (inner_flat (cell σ c) numbers)

  new_names : (n : ℕ) → occurrences n (inner x) ≡ 0
  unfolding occurrences
  new_names n = ap (occurrences n) (inner_flat x (new.depth ∙ numbers))

  new_change : Change σ τ c x Z R (free_list σ)
  unfolding with_cell
  new_change = record {
    put = new_put;
    counts = λ n. omega (
      arith,
      put_counts new_put new.count n,
      v.counts n,
      put_inner new_put n,
      old_names n,
      new_names n,
    );
    alone = λ n h. put_counts new_put new.count n ∙ v.alone n h;
    typed = λ r h. absurd (omega (arith, h, new_names r));
    depth = λ h. new.depth;
    tidy = λ h. new.tidy;
    blank = λ e. absurd (omega (arith, e, new.count, used));
    list = listed_used new_put (free_list σ) (listed v) refl (omega (arith, used)) (omega (arith, used, new.count));
  }

  pub overwrite : Overwrites σ (overwritten c i w σ) c i w Z R
  unfolding overwritten
  overwrite = record {
    holds = changed v new_change;
    alike = alike_others v new_put lone;
    new = subst (λ (y : Cell). Slotted (cell σ c) y i w) (sym (put_same new_put)) new;
    free = changed_list v new_change;
    cells = put_size new_put;
  }
