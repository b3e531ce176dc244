-- Counting how often each cell is in a list, and that the counts found are the occurrences.
use Rattle.prelude.specs.Kit.{min, ℕ, ◌≤◌, ◌+◌, ◌<◌, suc, arith, ℕ_discrete, ◌≡◌, refl, ◌∙◌, sym, ap, List, [], ◌∷◌, ◌++◌}
use Rattle.prelude.specs.Kit.{length, get_or, set, length-set, replicate, length-replicate, get_or-replicate}
use Rattle.prelude.specs.Kit.{get_or-set_other, get_or-set_same, set_out}
use Rattle.semantics.specs.Basics.{each, occurrences}
use Rattle.semantics.specs.Store.{one_more}
use Rattle.laws.specs.Counts.{occurs_here, occurs_after}
use Rattle.store_words.proofs.Counting.{most, more_small, saturates}
use Rattle.store_check.specs.Holders.{tally_one, tally}

-- ---- one count written

module _ (counts : List ℕ) (c : ℕ) where
  pub count_in : (n : ℕ) → get_or counts c 0 ≤ most → n ≡ min (get_or counts c 0 + 1) most →
      set counts c n ≡ tally_one c counts
  unfolding tally_one
  count_in n b e = ap (set counts c) (e ∙ saturates (get_or counts c 0) b)

  pub count_out : length counts ≤ c → counts ≡ tally_one c counts
  unfolding tally_one
  count_out h = sym (set_out counts c _ h)

-- ---- occurrences

-- one number more, as long as no count is full
tally_one_is : (d : ℕ) (l counts : List ℕ) (c : ℕ) → c < length counts → get_or counts c 0 + suc (length l) ≤ most →
    (get_or (tally_one d counts) c 0 + occurrences c l ≡ get_or counts c 0 + occurrences c (d ∷ l))
    × (get_or (tally_one d counts) c 0 ≤ get_or counts c 0 + 1)
unfolding tally_one
tally_one_is d l counts c h b = go (ℕ_discrete c d)
  where
    go : Dec (c ≡ d) →
        (get_or (set counts d (one_more (get_or counts d 0))) c 0 + occurrences c l
        ≡ get_or counts c 0 + occurrences c (d ∷ l))
        × (get_or (set counts d (one_more (get_or counts d 0))) c 0 ≤ get_or counts c 0 + 1)
    go (yes e) = rw (
      ← e,
      get_or-set_same counts c (one_more (get_or counts c 0)) 0 h,
      more_small (get_or counts c 0) (omega arith),
      occurs_here c l,
    ) (omega arith, omega arith)
    go (no f) = rw (get_or-set_other counts d c (one_more (get_or counts d 0)) 0 f, occurs_after c d l f)
        (refl, omega arith)

tally_one_length : (c : ℕ) (counts : List ℕ) → length (tally_one c counts) ≡ length counts
unfolding tally_one
tally_one_length c counts = simp length-set

-- a list's occurrences are added to the counts
tally_is : (l counts : List ℕ) (c : ℕ) → c < length counts → get_or counts c 0 + length l ≤ most →
    get_or (tally l counts) c 0 ≡ get_or counts c 0 + occurrences c l
unfolding each occurrences
tally_is [] counts c h b = omega arith
tally_is (d ∷ l) counts c h b = let q = tally_one_is d l counts c h b in
    tally_is l (tally_one d counts) c (omega (arith, tally_one_length d counts)) (omega arith) ∙ q.0

abbrev none : ℕ
none = 0

pub tallied : (l : List ℕ) (c : ℕ) → c < 256 → length l ≤ 5000 → get_or (tally l (replicate 256 0)) c 0 ≡ occurrences c l
tallied l c h b = let z : get_or (replicate 256 none) c 0 ≡ 0 = get_or-replicate 256 c none 0 h in
    tally_is l (replicate 256 none) c (omega (arith, length-replicate 256 none)) (omega arith) ∙ omega arith

pub tally_append : (a b counts : List ℕ) → tally (a ++ b) counts ≡ tally b (tally a counts)
unfolding each
tally_append [] b counts = refl
tally_append (x ∷ a) b counts = tally_append a b (tally_one x counts)
