-- Laws of tables of thirty-two rows of eight: entry by entry.
use Rattle.prelude.specs.Kit.{ℕ, ◌<◌, arith, ℕ_discrete, false, Bool, ◌≡◌, ◌∙◌, sym, ap, ◌≢◌, List, [], length, get_or}
use Rattle.prelude.specs.Kit.{set, length-set, get_or-set_other, get_or-set_same, ext_get_or}
use Rattle.semantics.specs.Borrow.{Table, borrows}
use Rattle.soundness.proofs.borrowing.Rounds.{Shaped}

-- two tables with the same entries
pub same_entries : {T U : Table} → Shaped T → Shaped U →
    ((f i : ℕ) → f < 32 → i < 8 → borrows T f i ≡ borrows U f i) → T ≡ U
same_entries {T} {U} s t h =
    ext_get_or [] T U (s.rows ∙ sym t.rows) (λ f l.
    let m : f < 32 = omega (arith, s.rows) in
    ext_get_or false (get_or T f []) (get_or U f []) (s.columns f m ∙ sym (t.columns f m)) (λ i k.
    h f i m (omega (arith, s.columns f m))))

-- ---- one row set

pub shaped_row : {T : Table} → Shaped T → (f : ℕ) (r : List Bool) → f < 32 → length r ≡ 8 → Shaped (set T f r)
shaped_row {T} s f r hf long = record {
  rows = length-set T f r ∙ s.rows;
  columns = λ g h. go g h (ℕ_discrete g f);
}
  where
    go : (g : ℕ) → g < 32 → Dec (g ≡ f) → length (get_or (set T f r) g []) ≡ 8
    go g h (yes e) = rw e (ap length (get_or-set_same T f r [] (omega (arith, s.rows))) ∙ long)
    go g h (no d) = ap length (get_or-set_other T f g r [] d) ∙ s.columns g h

-- ---- one entry set

module _ {T : Table} (s : Shaped T) (f i : ℕ) (b : Bool) (hf : f < 32) where
  abbrev Marked : Table
  Marked = set T f (set (get_or T f []) i b)

  same_row_set : get_or Marked f [] ≡ set (get_or T f []) i b
  same_row_set = get_or-set_same T f (set (get_or T f []) i b) [] (omega (arith, s.rows))

  other_row : (g : ℕ) → g ≢ f → get_or Marked g [] ≡ get_or T g []
  other_row g d = get_or-set_other T f g (set (get_or T f []) i b) [] d

  pub shaped_set : Shaped Marked
  shaped_set = shaped_row s f (set (get_or T f []) i b) hf (length-set (get_or T f []) i b ∙ s.columns f hf)

  pub entry_set : i < 8 → borrows Marked f i ≡ b
  entry_set hi =
      ap (λ (r : List Bool). get_or r i false) same_row_set
      ∙ get_or-set_same (get_or T f []) i b false (omega (arith, s.columns f hf))

  pub entry_kept : (g j : ℕ) → (g ≡ f → j ≢ i) → borrows Marked g j ≡ borrows T g j
  entry_kept g j d = go (ℕ_discrete g f)
    where
      go : Dec (g ≡ f) → borrows Marked g j ≡ borrows T g j
      go (yes e) =
          rw e (ap (λ (r : List Bool). get_or r j false) same_row_set
          ∙ get_or-set_other (get_or T f []) i j b false (d e))
      go (no n) = ap (λ (r : List Bool). get_or r j false) (other_row g n)
