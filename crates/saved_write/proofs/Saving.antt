-- The ways out of saving totals: too many entries, no room, and the file.
use Rattle.prelude.specs.Kit.{ℕ, ◌≤◌, ◌+◌, ◌<◌, ◌-◌, ◌*◌, ◌%◌, ◌/◌, arith, true, false, and-false, ◌≡◌, refl, ◌∙◌}
use Rattle.prelude.specs.Kit.{sym, ap, List, [], ◌∷◌, ◌++◌, append_assoc, leb, ℤ, pos, length, get_or, set}
use Rattle.prelude.specs.Kit.{length-replicate, replicate-append-replicate, sets, le-leb, lt-leb, to_z-of_z}
use Rattle.prelude.specs.Kit.{w64, to_z, of_z, SFits}
use Rattle.semantics.specs.Store.{Store}
use Rattle.semantics.specs.Words.{store_of}
use Rattle.semantics.specs.Saved.{Entry, entries, entry_count, low_bytes, marks, number_bytes, file_bytes, saved_bytes}
use Rattle.semantics.specs.Saved.{saved_length, save_fits}
use Rattle.semantics.specs.SaveCalls.{totals_value, in_buffer}
use Rattle.laws.specs.SavedFiles.{file_length}
use Rattle.std.specs.Prelude.{Some, None}
use Rattle.saved_write.specs.Writing.{entries_at, counted, Written, written, put_entries, saving, totals_saved}
use Rattle.saved_write.proofs.Laws.{counted_some, counted_none}
use Rattle.saved_write.proofs.Whole.{blanks, entries_value, all_put}

-- ---- the file in a cleared buffer

module _ (d : ℕ) (es : List Entry) (n : ℕ) (enough : saved_length (length es) ≤ n) where
  abbrev k : ℕ
  k = length es

  abbrev left_over : List ℕ
  left_over = blanks (n - saved_length k)

  zeros : blanks n ≡ 0 ∷ 0 ∷ 0 ∷ (blanks k ++ ([] ++ (blanks (8 * k) ++ left_over)))
  zeros =
      let long : n ≡ 3 + (k + (8 * k + (n - saved_length k))) = omega (arith, enough) in
      ap (λ (j : ℕ). blanks j) long
      ∙ sym (replicate-append-replicate {A = ℕ} 3 (k + (8 * k + (n - saved_length k))) 0)
      ∙ ap (λ (l : List ℕ). 0 ∷ 0 ∷ 0 ∷ l)
      (sym (replicate-append-replicate {A = ℕ} k (8 * k + (n - saved_length k)) 0)
      ∙ ap (λ (l : List ℕ). blanks k ++ l) (sym (replicate-append-replicate {A = ℕ} (8 * k) (n - saved_length k) 0)))

  -- depth and count, then all entries
  pub file_put : put_entries k es (written 0 (sets (set (blanks n) 0 d) 1 (low_bytes 2 k)))
      ≡ written k (file_bytes d es ++ blanks (n - length (file_bytes d es)))
  unfolding low_bytes file_bytes
  file_put =
      let first = d ∷ (k % 256) ∷ (k / 256 % 256) ∷ [] in
      let here : 0 + k ≡ k = omega arith in
      ap (λ (l : List ℕ). put_entries k es (written 0 (sets (set l 0 d) 1 (low_bytes 2 k)))) zeros
      ∙ all_put k left_over es 0 first [] refl (omega arith) refl
      ∙ ap (λ (j : ℕ). written j (first ++ (marks es ++ ([] ++ (number_bytes es ++ left_over))))) here
      ∙ ap (λ (l : List ℕ). written k (first ++ l)) (sym (append_assoc (marks es) (number_bytes es) left_over))
      ∙ ap (λ (j : ℕ). written k (file_bytes d es ++ blanks (n - j))) (sym (file_length d es))

-- ---- the answers

-- the totals read, their entries counted and no more than a file has, and the buffer cleared
pub record Begun (d : ℕ) (slots : List ℤ) (heads buffer : List ℕ) (w : ℤ) (k : ℕ) (cleared : List ℕ) : Type 0 where
  pub totals : w ≡ get_or slots 0 (pos 0)
  pub all : k ≡ length (entries_at (store_of slots heads) d w)
  pub few : k ≤ 4096
  pub clear : cleared ≡ blanks (length buffer)

-- the same by what the calls ensure, where the word is passed on by its bits
module _ (d : ℕ) (slots : List ℤ) (heads buffer : List ℕ) {w : ℤ} {cleared : List ℕ} (is : w ≡ get_or slots 0 (pos 0))
    (bits : SFits w64 w) (clear : cleared ≡ blanks (length buffer)) where
  pub begins : (j : ℕ) →
      Some j ≡ counted (0 + length (entries_at (store_of slots heads) d (to_z w64 (of_z w64 w)))) →
      Begun d slots heads buffer w j cleared
  begins j f =
      let s = counted_some j (0 + length (entries_at (store_of slots heads) d w)) (rw (to_z-of_z {z = w} bits) at f) in
      record { totals = is; all = omega (arith, s.0); few = s.1; clear = clear }

module _ {d : ℕ} {slots : List ℤ} {heads buffer : List ℕ} {w : ℤ} {k : ℕ} {cleared : List ℕ}
    (begun : Begun d slots heads buffer w k cleared) where
  abbrev σ : Store
  σ = store_of slots heads

  is : w ≡ σ.totals
  unfolding store_of
  is = begun.totals

  abbrev count : ℕ
  count = entry_count (totals_value d σ)

  count_is : count ≡ length (entries_at σ d w)
  count_is = ap length (entries_value σ d σ.totals) ∙ ap (λ (u : ℤ). length (entries_at σ d u)) (sym is)

  refused : save_fits count (length buffer) ≡ false → saving false cleared ≡ totals_saved d σ buffer
  unfolding totals_saved
  refused e = rw e (ap (saving false) begun.clear)

  pub narrow : length cleared < 3 + 9 * k → saving false cleared ≡ totals_saved d σ buffer
  unfolding save_fits
  narrow h =
      let short : length buffer < saved_length count =
      omega (arith, h, ap length begun.clear, length-replicate {A = ℕ} (length buffer) 0, begun.all, count_is) in
      refused (rw (lt-leb (saved_length count) (length buffer) short) (and-false (leb count 4096)))

  counts : k ≡ count
  counts = omega (arith, begun.all, count_is)

  module _ (long : 3 + 9 * k ≤ length cleared) (one two r : List ℕ) (q : ℕ) (p : one ≡ set cleared 0 d)
      (o : two ≡ sets one 1 (low_bytes 2 k))
      (ended : written q r ≡ put_entries k (entries_at σ d w) (written 0 two)) where
    fits : save_fits count (length buffer) ≡ true
    unfolding save_fits
    fits = rw (
      le-leb count 4096 (omega (arith, begun.few, counts)),
      le-leb (saved_length count) (length buffer)
          (omega (arith, long, ap length begun.clear, length-replicate {A = ℕ} (length buffer) 0, counts)),
    ) refl

    same_entries : entries_at σ d w ≡ entries (totals_value d σ)
    same_entries = ap (entries_at σ d) is ∙ sym (entries_value σ d σ.totals)

    whole : written q r ≡ written count (in_buffer (saved_bytes d (totals_value d σ)) buffer)
    unfolding saved_bytes
    whole = ended
        ∙ ap (λ (l : List ℕ). put_entries k (entries_at σ d w) (written 0 l))
        (o ∙ ap (λ (l : List ℕ). sets l 1 (low_bytes 2 k)) (p ∙ ap (λ (l : List ℕ). set l 0 d) begun.clear))
        ∙ ap (λ (j : ℕ). put_entries j (entries_at σ d w)
        (written 0 (sets (set (blanks (length buffer)) 0 d) 1 (low_bytes 2 j)))) counts
        ∙ ap (λ (es : List Entry). put_entries count es
        (written 0 (sets (set (blanks (length buffer)) 0 d) 1 (low_bytes 2 count)))) same_entries
        ∙ file_put d (entries (totals_value d σ)) (length buffer)
        (omega (arith, long, ap length begun.clear, length-replicate {A = ℕ} (length buffer) 0, counts))

    pub saves : saving true r ≡ totals_saved d σ buffer
    unfolding totals_saved
    saves = rw fits (ap (λ (s : Written). saving true s.bytes) whole)

-- more entries than a file has
module _ (d : ℕ) (slots : List ℤ) (heads buffer : List ℕ) where
  pub many : None ≡ counted (0 + length (entries_at (store_of slots heads) d (get_or slots 0 (pos 0)))) →
      totals_saved d (store_of slots heads) buffer ≡ saving false (blanks (length buffer))
  unfolding totals_saved save_fits store_of
  many f =
      let σ : Store = store_of slots heads in
      let over = counted_none (0 + length (entries_at σ d σ.totals)) f in
      let e : entry_count (totals_value d σ) ≡ length (entries_at σ d σ.totals) =
      ap length (entries_value σ d σ.totals) in
      rw (lt-leb (entry_count (totals_value d σ)) 4096 (omega (arith, over, e))) refl

pub ruleset too_many = (many, to_z-of_z)
