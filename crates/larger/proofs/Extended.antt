-- A store with further cells at the end of its free list. The number that marks the end of the smaller list is that of
-- the first further cell, so that both stores have the same words, and keep them under every operation, until the
-- smaller one has no cell left.
use Rattle.prelude.specs.Kit.{ℕ, ◌≤◌, ◌+◌, ◌<◌, ◌-◌, suc, zero, arith, dec_lt, true, false, Bool, cond, ◌≡◌, refl, ◌∙◌}
use Rattle.prelude.specs.Kit.{sym, ap, subst, List, [], ◌∷◌, ◌++◌, ltb, ℤ, length, get_or, set, length-set, length-append}
use Rattle.prelude.specs.Kit.{get_or-append, set_out, get_or-append-add, set-append_left, lt-ltb, le-ltb, ltb-true}
use Rattle.semantics.specs.Basics.{occurrences, each}
use Rattle.semantics.specs.Store.{Cell, Store, cell, cell_count, clear, elements, inner, with_cell, with_first}
use Rattle.semantics.specs.Store.{with_totals, with_count, one_more, retained, filled, has_free, acquired, wider}
use Rattle.semantics.specs.Store.{appended, with_slot, overwritten, freed, lowered, released}
use Rattle.semantics.specs.Sound.{free_list, due}
use Rattle.semantics.specs.Machine.{touching}
use Rattle.semantics.specs.Demands.{touched}
use Rattle.laws.specs.Releases.{count_with}
use Rattle.discipline.proofs.store.Cells.{out_of_range, in_range, with_cell_put, with_first_put}
use Rattle.discipline.proofs.store.FreeList.{Listed, listed_is, links_keep, listed_used, listed_freed, listed_taken}

-- so many clear cells from number n on, each before the next
unfoldable pub clear_from : ℕ → ℕ → List Cell
clear_from n zero = []
clear_from n (suc k) = clear (suc n) ∷ clear_from (suc n) k

-- a store with k further cells
unfoldable pub extended : ℕ → Store → Store
extended k σ = record {
  totals = σ.totals;
  first = σ.first;
  cells = σ.cells ++ clear_from (cell_count σ) k;
}

-- ---- its cells

pub clear_from_length : (n k : ℕ) → length (clear_from n k) ≡ k
unfolding clear_from
clear_from_length n zero = refl
clear_from_length n (suc k) = ap suc (clear_from_length (suc n) k)

clear_from_at : (n k i : ℕ) → (m : ℕ) × (get_or (clear_from n k) i (clear 0) ≡ clear m)
unfolding clear_from
clear_from_at n zero i = (0, refl)
clear_from_at n (suc k) zero = (_, refl)
clear_from_at n (suc k) (suc i) = clear_from_at (suc n) k i

-- what a cell shows, but for its place on the free list
pub record Shows (y x : Cell) : Type 0 where
  pub count : y.count ≡ x.count
  pub elements : elements y ≡ elements x
  pub inner : inner y ≡ inner x

clear_shows : (y x : Cell) (m n : ℕ) → y ≡ clear m → x ≡ clear n → Shows y x
unfolding clear elements inner
clear_shows y x m n p q = record {
  count = ap (λ (z : Cell). z.count) p ∙ sym (ap (λ (z : Cell). z.count) q);
  elements = ap elements p ∙ sym (ap elements q);
  inner = ap inner p ∙ sym (ap inner q);
}

module _ (k : ℕ) (σ : Store) where
  pub extended_count : cell_count (extended k σ) ≡ cell_count σ + k
  unfolding extended
  extended_count = omega (
    arith,
    length-append σ.cells (clear_from (cell_count σ) k),
    clear_from_length (cell_count σ) k,
  )

  pub cell_near : (c : ℕ) → c < cell_count σ → cell (extended k σ) c ≡ cell σ c
  unfolding extended cell
  cell_near c h = get_or-append σ.cells (clear_from (cell_count σ) k) (clear 0) c h

  cell_far : (c : ℕ) → cell_count σ ≤ c → (m : ℕ) × (cell (extended k σ) c ≡ clear m)
  unfolding extended cell
  cell_far c h =
      let further = clear_from (cell_count σ) k in
      let e : c ≡ length σ.cells + (c - length σ.cells) = omega arith in
      let f = clear_from_at (cell_count σ) k (c - length σ.cells) in (
        f.0,
        ap (λ (i : ℕ). get_or (σ.cells ++ further) i (clear 0)) e
            ∙ get_or-append-add σ.cells further (c - length σ.cells) (clear 0) ∙ f.1,
      )

  pub cell_shows : (c : ℕ) → Shows (cell (extended k σ) c) (cell σ c)
  cell_shows c = elim (dec_lt c (cell_count σ)) [
    | yes h ↦ record {
      count = ap (λ (x : Cell). x.count) (cell_near c h);
      elements = ap elements (cell_near c h);
      inner = ap inner (cell_near c h);
    }
    | no h ↦
        let f = cell_far c (omega (arith, h)) in
        clear_shows (cell (extended k σ) c) (cell σ c) f.0 0 f.1 (out_of_range σ c (omega (arith, h)))
  ]

  -- ---- one cell written

  abbrev with_cells : List Cell → Store
  with_cells l = record { totals = σ.totals; first = σ.first; cells = l }

  pub extended_with_cell : (c : ℕ) (x : Cell) → c < cell_count σ →
      with_cell (extended k σ) c x ≡ extended k (with_cell σ c x)
  unfolding extended with_cell
  extended_with_cell c x h = ap with_cells
      (set-append_left σ.cells (clear_from (cell_count σ) k) c x h
      ∙ ap (λ (n : ℕ). set σ.cells c x ++ clear_from n k) (sym (length-set σ.cells c x)))

pub with_cell_out : (σ : Store) (c : ℕ) (x : Cell) → cell_count σ ≤ c → with_cell σ c x ≡ σ
unfolding with_cell
with_cell_out σ c x h = ap (with_cells 0 σ) (set_out σ.cells c x h)

extended_first : (k : ℕ) (σ : Store) → (extended k σ).first ≡ σ.first
unfolding extended
extended_first k σ = refl

first_within : (σ : Store) → has_free σ ≡ true → σ.first < cell_count σ
unfolding has_free
first_within σ e = ltb-true σ.first (cell_count σ) e

extended_with_first : (k : ℕ) (σ : Store) (c : ℕ) → with_first (extended k σ) c ≡ extended k (with_first σ c)
unfolding extended with_first
extended_with_first k σ c = refl

-- while the smaller store has a free cell, both have the same first one
pub extended_has_free : (k : ℕ) (σ : Store) → has_free σ ≡ true → has_free (extended k σ) ≡ true
unfolding has_free extended
extended_has_free k σ e = lt-ltb σ.first (cell_count (extended k σ))
    (omega (arith, ltb-true σ.first (cell_count σ) e, extended_count k σ))

pub extended_acquired : (k : ℕ) (σ : Store) (d : ℕ) (ws : List ℤ) → has_free σ ≡ true →
    acquired d ws (extended k σ) ≡ extended k (acquired d ws σ)
unfolding acquired
extended_acquired k σ d ws e = rw (e, extended_has_free k σ e) is
  where
    c : ℕ
    c = σ.first

    within : c < cell_count σ
    within = first_within σ e

    is : with_first (with_cell (extended k σ) (extended k σ).first (filled d ws))
        (cell (extended k σ) (extended k σ).first).next
        ≡ extended k (with_first (with_cell σ c (filled d ws)) (cell σ c).next)
    is = ap (λ (n : ℕ). with_first (with_cell (extended k σ) n (filled d ws)) (cell (extended k σ) n).next)
        (extended_first k σ)
        ∙ ap (λ (x : Cell). with_first (with_cell (extended k σ) c (filled d ws)) x.next) (cell_near k σ c within)
        ∙ ap (λ (υ : Store). with_first υ (cell σ c).next) (extended_with_cell k σ c (filled d ws) within)
        ∙ extended_with_first k (with_cell σ c (filled d ws)) (cell σ c).next

extended_with_totals : (k : ℕ) (σ : Store) (w : ℤ) → with_totals (extended k σ) w ≡ extended k (with_totals σ w)
unfolding extended with_totals
extended_with_totals k σ w = refl

-- ---- counts that stay

one_more_used : (n : ℕ) → 0 < n → 0 < one_more n
unfolding one_more
one_more_used n u = elim (dec_lt n 4294967295) [
  | yes g ↦ rw (lt-ltb n 4294967295 g) (omega arith)
  | no g ↦ rw (le-ltb n 4294967295 (omega (arith, g))) u
]

either_count : (b : Bool) (y x : Cell) → y.count ≡ x.count → (cond b y x).count ≡ x.count
either_count true y x e = e
either_count false y x e = refl

wider_count : (x : Cell) (w : ℤ) → (wider x w).count ≡ x.count
unfolding wider
wider_count x w = either_count (ltb x.size 16) _ x refl

with_slot_count : (x : Cell) (i : ℕ) (w : ℤ) → (with_slot x i w).count ≡ x.count
unfolding with_slot
with_slot_count x i w = either_count (ltb i x.size) _ x refl

-- ---- the larger store beside the smaller

-- its free list is in order: it has the cells of count 0, each once
pub record Extends (k : ℕ) (σ τ : Store) : Type 0 where
  pub is : τ ≡ extended k σ
  pub list : List ℕ
  pub listed : Listed τ list

-- a cell that may be touched is in use
untouched_used : {τ : Store} {l : List ℕ} (c : ℕ) → Listed τ l → touched (touching τ c) ≡ [] → c < cell_count τ →
    0 < (cell τ c).count
unfolding touching touched
untouched_used {τ} {l} c h u within = go (ltb 0 (occurrences c (free_list τ))) refl u
  where
    used : (n : ℕ) → (cell τ c).count ≡ n → due n ≡ 0 → 0 < (cell τ c).count
    used zero e z = absurd (omega (arith, z))
    used (suc n) e z = omega (arith, e)

    go : (b : Bool) → ltb 0 (occurrences c (free_list τ)) ≡ b → touched (touching τ c) ≡ [] → 0 < (cell τ c).count
    go true e q = absurd (omega (arith, ap length (rw e at q)))
    go false e q = used (cell τ c).count refl (sym (h.once c within)
        ∙ ap (occurrences c) (sym (listed_is τ l h).0) ∙ off)
      where
        off : occurrences c (free_list τ) ≡ 0
        off = elim (dec_lt 0 (occurrences c (free_list τ))) [
          | yes g ↦ absurd (let z = sym e ∙ lt-ltb 0 (occurrences c (free_list τ)) g in
              let n : ◌≡◌ {A = ℕ} 0 1 = cc in omega arith)
          | no g ↦ omega (arith, g)
        ]

module _ {k : ℕ} {σ τ : Store} (h : Extends k σ τ) where
  pub shows_same : (c : ℕ) → Shows (cell τ c) (cell σ c)
  shows_same c = subst (λ (υ : Store). Shows (cell υ c) (cell σ c)) (sym h.is) (cell_shows k σ c)

  -- a cell in use is one of the smaller store
  near : (c : ℕ) → 0 < (cell τ c).count → c < cell_count σ
  near c u = in_range σ c (omega (arith, u, (shows_same c).count))

  count_is : cell_count τ ≡ cell_count σ + k
  count_is = ap cell_count h.is ∙ extended_count k σ

  -- such a cell is the same in both
  same_cell : (c : ℕ) → c < cell_count σ → cell τ c ≡ cell σ c
  same_cell c b = ap (λ (υ : Store). cell υ c) h.is ∙ cell_near k σ c b

  put_is : (c : ℕ) (x y : Cell) → c < cell_count σ → y ≡ x → with_cell τ c y ≡ extended k (with_cell σ c x)
  put_is c x y b e =
      ap (with_cell τ c) e ∙ ap (λ (υ : Store). with_cell υ c x) h.is ∙ extended_with_cell k σ c x b

  -- a cell written that was and stays in use
  put_used : (c : ℕ) (x y : Cell) → 0 < (cell τ c).count → 0 < y.count → y ≡ x →
      Extends k (with_cell σ c x) (with_cell τ c y)
  unfolding with_cell
  put_used c x y used stays e = record {
    is = put_is c x y (near c used) e;
    list = h.list;
    listed = listed_used (with_cell_put τ c y (in_range τ c used)) h.list h.listed refl used stays;
  }

  -- a cell written that may be touched
  pub written : (f : Cell → Cell) → ((x : Cell) → 0 < x.count → 0 < (f x).count) → (c : ℕ) →
      touched (touching τ c) ≡ [] → Extends k (with_cell σ c (f (cell σ c))) (with_cell τ c (f (cell τ c)))
  written f stays c u = elim (dec_lt c (cell_count τ)) [
    | yes b ↦
        let used = untouched_used c h.listed u b in
        put_used c (f (cell σ c)) (f (cell τ c)) used (stays (cell τ c) used) (ap f (same_cell c (near c used)))
    | no b ↦
        let far : cell_count τ ≤ c = omega (arith, b) in
        subst (λ (υ : Store). Extends k υ (with_cell τ c (f (cell τ c))))
        (sym (with_cell_out σ c (f (cell σ c)) (omega (arith, far, count_is))))
        (subst (λ (υ : Store). Extends k σ υ) (sym (with_cell_out τ c (f (cell τ c)) far)) h)
  ]

  -- ---- the operations

  pub extends_retained : (c : ℕ) → touched (touching τ c) ≡ [] → Extends k (retained c σ) (retained c τ)
  unfolding retained
  extends_retained = written (λ x. with_count x (one_more x.count))
      (λ x u. omega (arith, count_with x (one_more x.count), one_more_used x.count u))

  pub extends_appended : (w : ℤ) (c : ℕ) → touched (touching τ c) ≡ [] → Extends k (appended c w σ) (appended c w τ)
  unfolding appended
  extends_appended w = written (λ x. wider x w) (λ x u. omega (arith, u, wider_count x w))

  pub extends_overwritten : (i : ℕ) (w : ℤ) (c : ℕ) → touched (touching τ c) ≡ [] →
      Extends k (overwritten c i w σ) (overwritten c i w τ)
  unfolding overwritten
  extends_overwritten i w = written (λ x. with_slot x i w) (λ x u. omega (arith, u, with_slot_count x i w))

  pub extends_totals : (w : ℤ) → Extends k (with_totals σ w) (with_totals τ w)
  unfolding with_totals cell
  extends_totals w = record {
    is = ap (λ (υ : Store). with_totals υ w) h.is ∙ extended_with_totals k σ w;
    list = h.list;
    listed = record {
      links = links_keep τ (with_totals τ w) refl τ.first h.list (λ x g. refl) h.listed.links;
      once = h.listed.once;
    };
  }

  pub same_first : τ.first ≡ σ.first
  unfolding extended
  same_first = ap (λ (υ : Store). υ.first) h.is

  pub same_totals : τ.totals ≡ σ.totals
  unfolding extended
  same_totals = ap (λ (υ : Store). υ.totals) h.is

  -- a cell written, and another the first of the free list
  first_is : (c n : ℕ) (x : Cell) → c < cell_count σ →
      with_first (with_cell τ c x) n ≡ extended k (with_first (with_cell σ c x) n)
  first_is c n x b = ap (λ (υ : Store). with_first υ n) (put_is c x x b refl)
      ∙ extended_with_first k (with_cell σ c x) n

  -- a cell of count 1 freed
  pub extends_freed : (c : ℕ) → 0 < (cell τ c).count → Extends k (freed c σ) (freed c τ)
  unfolding freed clear with_first
  extends_freed c used = record {
    is = first_is c c (clear τ.first) (near c used)
        ∙ ap (λ (n : ℕ). extended k (with_first (with_cell σ c (clear n)) c)) same_first;
    list = c ∷ h.list;
    listed = listed_freed (with_first_put τ c (clear τ.first) c (in_range τ c used)) h.list h.listed refl used
        refl refl;
  }

  -- the smaller store has a free cell, and so it is the larger one's first too
  pub extends_has_free : has_free σ ≡ true → has_free τ ≡ true
  extends_has_free e = ap has_free h.is ∙ extended_has_free k σ e

  pub extends_acquired : (d : ℕ) (ws : List ℤ) → has_free σ ≡ true → Extends k (acquired d ws σ) (acquired d ws τ)
  unfolding acquired filled with_first
  extends_acquired d ws e = taken h.list h.listed
    where
      within : τ.first < cell_count τ
      within = omega (arith, first_within σ e, same_first, count_is)

      taken : (l : List ℕ) → Listed τ l → Extends k (acquired d ws σ) (acquired d ws τ)
      taken [] g = absurd (omega (arith, g.links, within))
      taken (c ∷ l) g = record {
        is = ap (acquired d ws) h.is ∙ extended_acquired k σ d ws e;
        list = l;
        listed = rw (extends_has_free e)
            (listed_taken (with_first_put τ τ.first (filled d ws) (cell τ τ.first).next within) l
            (subst (λ (n : ℕ). Listed τ (n ∷ l)) (sym g.links.0) g) refl (omega arith));
      }

-- ---- releases

extends_each : {k : ℕ} (f : ℕ → Store → Store) →
    ((c : ℕ) (σ τ : Store) → Extends k σ τ → Extends k (f c σ) (f c τ)) →
    (l : List ℕ) (σ τ : Store) → Extends k σ τ → Extends k (each f l σ) (each f l τ)
unfolding each
extends_each f go [] σ τ h = h
extends_each f go (c ∷ l) σ τ h = extends_each f go l (f c σ) (f c τ) (go c σ τ h)

-- by the count before, where the elements are released alike
extends_lowered : {k : ℕ} {σ τ : Store} (f : ℕ → Store → Store) →
    ((c : ℕ) (σ τ : Store) → Extends k σ τ → Extends k (f c σ) (f c τ)) → (n c : ℕ) → (cell τ c).count ≡ n →
    Extends k σ τ → Extends k (lowered f n c σ) (lowered f n c τ)
unfolding lowered
extends_lowered f go zero c e h = h
extends_lowered {k} {σ} {τ} f go (suc zero) c e h = subst
    (λ (l : List ℕ). Extends k (each f (inner (cell σ c)) (freed c σ)) (each f l (freed c τ)))
    (sym (shows_same h c).inner)
    (extends_each f go (inner (cell σ c)) (freed c σ) (freed c τ) (extends_freed h c (omega (arith, e))))
extends_lowered {k} {σ} {τ} f go (suc (suc n)) c e h =
    let used : 0 < (cell τ c).count = omega (arith, e) in
    put_used h c (with_count (cell σ c) (suc n)) (with_count (cell τ c) (suc n)) used
    (omega (arith, count_with (cell τ c) (suc n)))
    (ap (λ (x : Cell). with_count x (suc n)) (same_cell h c (near h c used)))

pub extends_released : {k : ℕ} (n c : ℕ) (σ τ : Store) → Extends k σ τ → Extends k (released n c σ) (released n c τ)
unfolding released
extends_released zero c σ τ h = h
extends_released {k} (suc n) c σ τ h =
    subst (λ (m : ℕ). Extends k (lowered (released n) m c σ) (lowered (released n) (cell τ c).count c τ))
    (shows_same h c).count
    (extends_lowered (released n) (λ d υ ω g. extends_released n d υ ω g) (cell τ c).count c refl h)
