-- Laws of the rounds over the table of borrowed parameters: what a link takes away, and what a round leaves.
use Rattle.prelude.specs.Kit.{ℕ, ◌≤◌, ◌+◌, ◌<◌, suc, zero, ◌*◌, ◌%◌, ◌/◌, arith, dec_lt, ℕ_discrete, true, false, Bool}
use Rattle.prelude.specs.Kit.{false≢true, ◌≡◌, refl, ◌∙◌, sym, ap, subst, List, [], ◌∷◌, ltb, length}
use Rattle.prelude.specs.Kit.{get_or, set, take, length-take-le, get_or-take, lt-ltb, eq-eqb}
use Rattle.laws.specs.Tests.{or_left, or_right}
use Rattle.semantics.specs.Borrow.{Table, borrows}
use Rattle.borrow_table.specs.Gathered.{passed}
use Rattle.soundness.proofs.borrowing.Rounds.{Shaped, entry_small}
use Rattle.borrow_table.specs.Rounds.{row_entries, entries, Within, takes_away, Quiet, Kept, Taken}
use Rattle.borrow_table.specs.Rounds.{Spared, Reduced, Reworked}
use Rattle.borrow_table.proofs.Tables.{shaped_set, entry_set, entry_kept}

-- ---- entries

row_loses : (l : List Bool) (i : ℕ) → get_or l i false ≡ true → row_entries (set l i false) + 1 ≡ row_entries l
unfolding row_entries
row_loses [] i e = absurd (false≢true e)
row_loses (b ∷ l) zero e = rw e (omega arith)
row_loses (b ∷ l) (suc i) e = omega (arith, row_loses l i e)

table_loses : (T : Table) (f i : ℕ) → borrows T f i ≡ true →
    entries (set T f (set (get_or T f []) i false)) + 1 ≡ entries T
unfolding entries
table_loses [] f i e = absurd (false≢true e)
table_loses (r ∷ T) zero i e = omega (arith, row_loses r i e)
table_loses (r ∷ T) (suc f) i e = omega (arith, table_loses T f i e)

-- ---- links

-- the parts of a link's low half
low_half : (l : ℕ) → l % 65536 ≡ l % 256 + 256 * (l / 256 % 256)
low_half l = omega arith

link_passes : (ls : List ℕ) (k : ℕ) (X : Table) (f i : ℕ) → k < length ls → takes_away (get_or ls k 0) X f i ≡ true →
    passed ls X f i ≡ true
unfolding passed
link_passes [] k X f i h e = absurd (omega arith)
link_passes (l ∷ ls) zero X f i h e = or_left (takes_away l X f i) (passed ls X f i) e
link_passes (l ∷ ls) (suc k) X f i h e =
    or_right (takes_away l X f i) (passed ls X f i) (link_passes ls k X f i (omega arith) e)

none_passes : (ls : List ℕ) (X : Table) (f i : ℕ) →
    ((k : ℕ) → k < length ls → takes_away (get_or ls k 0) X f i ≡ false) → passed ls X f i ≡ false
unfolding passed
none_passes [] X f i h = refl
none_passes (l ∷ ls) X f i h = rw (h 0 (omega arith)) (none_passes ls X f i (λ k m. h (suc k) (omega arith)))

pub all_quiet : {ls : List ℕ} {T : Table} → Shaped T → ((k : ℕ) → k < length ls → Quiet (get_or ls k 0) T) → Kept ls T
all_quiet {ls} {T} s h = record {
  at = λ f i e.
      let small = entry_small T s f i e in
      none_passes ls T f i (λ k m. (h k m).at f i small.0 small.1 e);
}

-- ---- what is taken away

pub reduced_none : {ls : List ℕ} {T : Table} → Shaped T → Reduced ls T T
reduced_none s = record { shaped = s; within = λ f i e. e; keeps = λ X w k f i e. w f i e }

pub reduced_more : {ls : List ℕ} {T U W : Table} → Reduced ls T U → Reduced ls U W → Reduced ls T W
reduced_more a b = record {
  shaped = b.shaped;
  within = λ f i e. a.within f i (b.within f i e);
  keeps = λ X w k. b.keeps X (a.keeps X w k) k;
}

module _ {l : ℕ} {T U : Table} (s : Shaped T) (t : Taken l T U) where
  abbrev Without : Table
  Without = set T (l % 256) (set (get_or T (l % 256) []) (l / 256 % 256) false)

  pub taken_fewer : entries U + 1 ≡ entries T
  taken_fewer = ap (λ (W : Table). entries W + 1) t.is ∙ table_loses T (l % 256) (l / 256 % 256) t.had

  -- the entry is in no table within T that the link leaves as it is
  pub taken_reduced : {ls : List ℕ} {k : ℕ} → k < length ls → l ≡ get_or ls k 0 → Reduced ls T U
  taken_reduced {ls} {k} h e = subst (Reduced ls T) (sym t.is) record {
    shaped = shaped_set s (l % 256) (l / 256 % 256) false t.function;
    within = lost;
    keeps = λ X w k f i m. stays X w k f i m (ℕ_discrete (f + 256 * i) (l % 65536));
  }
    where
      other : (f i : ℕ) → (f + 256 * i ≡ l % 65536 → ⊥) → borrows Without f i ≡ borrows T f i
      other f i d =
          entry_kept s (l % 256) (l / 256 % 256) false t.function f i (λ x y. d (omega (arith, low_half l)))

      gone : borrows Without (l % 256) (l / 256 % 256) ≡ false
      gone = entry_set s (l % 256) (l / 256 % 256) false t.function t.name

      lost : (f i : ℕ) → borrows Without f i ≡ true → borrows T f i ≡ true
      lost f i m = elim (ℕ_discrete f (l % 256)) [
        | yes x ↦ elim (ℕ_discrete i (l / 256 % 256)) [
          | yes y ↦ absurd (false≢true (sym gone ∙ rw (x, y) at m))
          | no y ↦ sym (entry_kept s (l % 256) (l / 256 % 256) false t.function f i (λ z. y)) ∙ m
        ]
        | no x ↦ sym (entry_kept s (l % 256) (l / 256 % 256) false t.function f i (λ z. absurd (x z))) ∙ m
      ]

      owned : (X : Table) → Within X T → (b : Bool) → borrows X (l / 65536 % 256) (l / 16777216) ≡ b → b ≡ false
      owned X w true m = absurd (false≢true (sym t.owned ∙ w _ _ m))
      owned X w false m = refl

      stays : (X : Table) → Within X T → Kept ls X → (f i : ℕ) → borrows X f i ≡ true →
          Dec (f + 256 * i ≡ l % 65536) → borrows Without f i ≡ true
      stays X w k f i m (no d) = other f i d ∙ w f i m
      stays X w q f i m (yes d) =
          absurd (false≢true (sym (q.at f i m) ∙ link_passes ls k X f i h
          (rw (← e, eq-eqb (l % 65536) (f + 256 * i) (sym d), owned X w _ refl))))

-- ---- one round

-- the first k of n links were followed from the table T on, and m entries noted that were taken away
pub record Sweeping (links : List ℕ) (n : ℕ) (T U : Table) (m k : ℕ) : Type 0 where
  pub long : length links ≡ 1024
  pub few : n ≤ 1024
  pub under : k ≤ n
  pub noted : m ≤ 256
  pub reduced : Reduced (take n links) T U
  pub fewer : entries U ≤ entries T
  pub less : 0 < m → entries U < entries T
  pub quiet : m ≡ 0 → (j : ℕ) → j < k → Quiet (get_or links j 0) U

-- some of n links were followed from the table T on, and there are m notes
pub record Chased (links : List ℕ) (n : ℕ) (T U : Table) (m : ℕ) : Type 0 where
  pub long : length links ≡ 1024
  pub few : n ≤ 1024
  pub noted : m ≤ 256
  pub reduced : Reduced (take n links) T U
  pub fewer : entries U ≤ entries T

-- where there were no notes none was followed
pub record Chasing (links : List ℕ) (n : ℕ) (T U : Table) (m₀ m : ℕ) : Type 0 where
  pub chased : Chased links n T U m
  pub some : 0 < m₀ → 0 < m
  pub none : m₀ ≡ 0 → (m ≡ 0) × (U ≡ T)

-- a link of the first n, as the list of them has it
at_link : (links : List ℕ) (n k : ℕ) → k < n → n ≤ 1024 → length links ≡ 1024 →
    (k < length (take n links)) × (get_or links k 0 ≡ get_or (take n links) k 0)
at_link links n k h few long =
    (omega (arith, length-take-le n links (omega (arith, few, long))), sym (get_or-take n links k 0 h))

module _ {links : List ℕ} {n : ℕ} {T : Table} where
  pub sweep_begins : length links ≡ 1024 → n ≤ 1024 → Shaped T → Sweeping links n T T 0 0
  sweep_begins e h s = record {
    long = e;
    few = h;
    under = omega arith;
    noted = omega arith;
    reduced = reduced_none s;
    fewer = omega arith;
    less = λ z. absurd (let f : ⊥ = omega arith in f);
    quiet = λ z j l. absurd (let f : ⊥ = omega arith in f);
  }

  module _ {U W : Table} {m k : ℕ} (v : Sweeping links n T U m k) (h : k < n) where
    -- with the entry noted where there is room
    pub sweep_takes : (m' : ℕ) → 0 < m' → m' ≤ 256 → Taken (get_or links k 0) U W → Sweeping links n T W m' (k + 1)
    sweep_takes m' some room t =
        let here = at_link links n k h v.few v.long in
        record {
          long = v.long;
          few = v.few;
          under = omega arith;
          noted = room;
          reduced = reduced_more v.reduced (taken_reduced v.reduced.shaped t here.0 here.1);
          fewer = omega (arith, v.fewer, taken_fewer v.reduced.shaped t);
          less = λ z. omega (arith, v.fewer, taken_fewer v.reduced.shaped t);
          quiet = λ z j l. absurd (let f : ⊥ = omega arith in f);
        }

    pub sweep_spares : Spared (get_or links k 0) U W → Sweeping links n T W m (k + 1)
    sweep_spares t = subst (λ (Z : Table). Sweeping links n T Z m (k + 1)) (sym t.is) record {
      long = v.long;
      few = v.few;
      under = omega arith;
      noted = v.noted;
      reduced = v.reduced;
      fewer = v.fewer;
      less = v.less;
      quiet = λ z j l. go z j l (ℕ_discrete j k);
    }
      where
        go : m ≡ 0 → (j : ℕ) → j < k + 1 → Dec (j ≡ k) → Quiet (get_or links j 0) U
        go z j l (yes e) = subst (λ (x : ℕ). Quiet (get_or links x 0) U) (sym e) t.quiet
        go z j l (no e) = v.quiet z j (omega (arith, e))

  module _ {U : Table} {m k : ℕ} (v : Sweeping links n T U m k) (h : n ≤ k) where
    all_followed : m ≡ 0 → Kept (take n links) U
    all_followed z = all_quiet v.reduced.shaped (λ j l.
        let size = length-take-le n links (omega (arith, v.few, v.long)) in
        let below : j < n = omega (arith, size, l) in
        subst (λ (x : ℕ). Quiet x U) (sym (get_or-take n links j 0 below)) (v.quiet z j (omega (arith, below, h))))

    pub sweep_ends : Chasing links n U U m m
    sweep_ends = record {
      chased = record {
        long = v.long;
        few = v.few;
        noted = v.noted;
        reduced = reduced_none v.reduced.shaped;
        fewer = omega arith;
      };
      some = λ z. z;
      none = λ z. (z, refl);
    }

    -- the round is done
    pub chase_ends : {W : Table} {m' : ℕ} → Chasing links n U W m m' → Reworked (take n links) T W (ltb 0 m')
    chase_ends {W} {m'} w = elim (dec_lt 0 m) [
      | yes y ↦
          let due = lt-ltb 0 m' (w.some y) in
          record {
            reduced = reduced_more v.reduced w.chased.reduced;
            fewer = rw due (omega (arith, v.less y, w.chased.fewer));
            kept = λ z. absurd (false≢true (sym z ∙ due));
          }
      | no y ↦
          let z : m ≡ 0 = omega (arith, y) in
          let same = w.none z in
          rw (same.0, same.1) record {
            reduced = v.reduced;
            fewer = omega (arith, v.fewer);
            kept = λ e. all_followed z;
          }
    ]

  module _ {U W : Table} {m : ℕ} (v : Chased links n T U m) where
    pub chase_takes : (m' j : ℕ) → m' ≤ 256 → j < n → Taken (get_or links j 0) U W → Chased links n T W m'
    chase_takes m' j room h t =
        let here = at_link links n j h v.few v.long in
        record {
          long = v.long;
          few = v.few;
          noted = room;
          reduced = reduced_more v.reduced (taken_reduced v.reduced.shaped t here.0 here.1);
          fewer = omega (arith, v.fewer, taken_fewer v.reduced.shaped t);
        }

  -- the links that lead to one entry are followed
  pub chain_begins : {U : Table} {m₀ m : ℕ} → Chasing links n T U m₀ m → Chased links n U U m
  chain_begins v = record {
    long = v.chased.long;
    few = v.chased.few;
    noted = v.chased.noted;
    reduced = reduced_none v.chased.reduced.shaped;
    fewer = omega arith;
  }

  pub chain_ends : {U W : Table} {m₀ m m' p : ℕ} → Chasing links n T U m₀ m → p < m → Chased links n U W m' → 0 < m' →
      Chasing links n T W m₀ m'
  chain_ends {U} {W} {m₀} {m} {m'} {p} v h w s = record {
    chased = record {
      long = w.long;
      few = w.few;
      noted = w.noted;
      reduced = reduced_more v.chased.reduced w.reduced;
      fewer = omega (arith, v.chased.fewer, w.fewer);
    };
    some = λ z. s;
    none = λ z. absurd (let f : ⊥ = omega (arith, h, (v.none z).0) in f);
  }
