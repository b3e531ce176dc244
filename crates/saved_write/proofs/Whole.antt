-- The entries put one after another into a cleared buffer are the file.
use Rattle.prelude.specs.Kit.{ℕ, ◌+◌, suc, zero, ◌*◌, arith, ◌≡◌, refl, ◌∙◌, sym, ap, ap₂, List, [], ◌∷◌, ◌++◌}
use Rattle.prelude.specs.Kit.{map, append_assoc, ℤ, pos, length, set, replicate, length-append, length-map}
use Rattle.prelude.specs.Kit.{length-replicate, replicate-append-replicate, append_snoc, sets, set_at, lt-ltb}
use Rattle.semantics.specs.Value.{Value, of_list}
use Rattle.semantics.specs.Store.{Store, cell, cell_of, elements}
use Rattle.semantics.specs.Demands.{value_of}
use Rattle.semantics.specs.Saved.{Entry, entries, entries_all, unsigned, low_bytes, marks, number_bytes}
use Rattle.laws.specs.SavedFiles.{low_bytes_length}
use Rattle.laws.specs.Values.{size_of_list}
use Rattle.saved_write.specs.Writing.{entry, gather, entries_at, Written, written, put_entry, put_entries}

-- ---- the entries of a value in a store

gathered : (f : ℤ → Value) (g : ℤ → List Entry) → ((w : ℤ) → entries (f w) ≡ g w) → (ws : List ℤ) →
    entries_all (of_list (map f ws)) ≡ gather g ws
unfolding entries gather
gathered f g h [] = refl
gathered f g h (w ∷ ws) = ap₂ {C = List Entry} ◌++◌ (h w) (gathered f g h ws)

pub entries_value : (σ : Store) (d : ℕ) (w : ℤ) → entries (value_of σ d w) ≡ entries_at σ d w
unfolding entries value_of entries_at
entries_value σ zero w = refl
entries_value σ (suc d) w =
    let ws = elements (cell σ (cell_of w)) in
    ap₂ {C = List Entry} (λ (n : ℕ) (es : List Entry). entry (suc n) (pos 0) ∷ es)
    (size_of_list (map (value_of σ d) ws) ∙ length-map ws (value_of σ d))
    (gathered (value_of σ d) (entries_at σ d) (entries_value σ d) ws)

-- ---- bytes put in place of others

sets_at : (vs xs front rest : List ℕ) (i : ℕ) → length xs ≡ length vs → length front ≡ i →
    sets (front ++ (xs ++ rest)) i vs ≡ front ++ (vs ++ rest)
sets_at [] [] front rest i e h = refl
sets_at [] (x ∷ xs) front rest i e h = absurd (omega arith)
sets_at (v ∷ vs) [] front rest i e h = absurd (omega arith)
sets_at (v ∷ vs) (x ∷ xs) front rest i e h =
    ap (λ (l : List ℕ). sets l (suc i) vs) (set_at front x (xs ++ rest) v i h ∙ sym (append_snoc front v (xs ++ rest)))
    ∙ sets_at vs xs (front ++ (v ∷ [])) rest (suc i) (omega arith)
    (length-append front (v ∷ []) ∙ omega (arith, h))
    ∙ append_snoc front v (vs ++ rest)

-- zeros
abbrev pub blanks : ℕ → List ℕ
blanks n = replicate n 0

zeros_split : (n m : ℕ) → blanks (n + m) ≡ blanks n ++ blanks m
zeros_split n m = sym (replicate-append-replicate {A = ℕ} n m 0)

-- ---- all entries

module _ (k : ℕ) (rest : List ℕ) where
  -- a buffer with the marks and numbers before entry p, and room for n more entries
  abbrev half : ℕ → List ℕ → List ℕ → List ℕ
  half n front middle = front ++ (blanks n ++ (middle ++ (blanks (8 * n) ++ rest)))

  module _ (p n : ℕ) (e : Entry) (front middle : List ℕ) (a : length front ≡ 3 + p) (b : p + suc n ≡ k)
      (c : length middle ≡ 8 * p) where
    abbrev number : List ℕ
    number = low_bytes 8 (unsigned e.number)

    abbrev before : List ℕ
    before = front ++ (e.mark ∷ (blanks n ++ middle))

    room : blanks (8 * suc n) ≡ blanks 8 ++ blanks (8 * n)
    room =
        let more : 8 * suc n ≡ 8 + 8 * n = omega arith in
        ap (λ (j : ℕ). blanks j) more ∙ zeros_split 8 (8 * n)

    marked : set (half (suc n) front middle) (3 + p) e.mark
        ≡ before ++ (blanks 8 ++ (blanks (8 * n) ++ rest))
    marked =
        set_at front 0 (blanks n ++ (middle ++ (blanks (8 * suc n) ++ rest))) e.mark (3 + p) a
        ∙ ap (λ (l : List ℕ). front ++ (e.mark ∷ (blanks n ++ (middle ++ (l ++ rest))))) room
        ∙ ap (λ (l : List ℕ). front ++ (e.mark ∷ (blanks n ++ (middle ++ l))))
        (append_assoc (blanks 8) (blanks (8 * n)) rest)
        ∙ ap (λ (l : List ℕ). front ++ (e.mark ∷ l))
        (sym (append_assoc (blanks n) middle (blanks 8 ++ (blanks (8 * n) ++ rest))))
        ∙ sym (append_assoc front (e.mark ∷ (blanks n ++ middle)) (blanks 8 ++ (blanks (8 * n) ++ rest)))

    before_length : length before ≡ 3 + k + 8 * p
    before_length = length-append front (e.mark ∷ (blanks n ++ middle))
        ∙ omega (arith, length-append (blanks n) middle, length-replicate {A = ℕ} n 0, a, b, c)

    regrouped : before ++ (number ++ (blanks (8 * n) ++ rest)) ≡ half n (front ++ (e.mark ∷ [])) (middle ++ number)
    regrouped =
        append_assoc front (e.mark ∷ (blanks n ++ middle)) (number ++ (blanks (8 * n) ++ rest))
        ∙ ap (λ (l : List ℕ). front ++ (e.mark ∷ l))
        (append_assoc (blanks n) middle (number ++ (blanks (8 * n) ++ rest))
        ∙ ap (λ (l : List ℕ). blanks n ++ l) (sym (append_assoc middle number (blanks (8 * n) ++ rest))))
        ∙ sym (append_snoc front e.mark (blanks n ++ ((middle ++ number) ++ (blanks (8 * n) ++ rest))))

    entry_put : put_entry k e (written p (half (suc n) front middle))
        ≡ written (p + 1) (half n (front ++ (e.mark ∷ [])) (middle ++ number))
    unfolding put_entry
    entry_put = rw (lt-ltb p k (omega (arith, b)))
        (ap (written (p + 1)) (ap (λ (l : List ℕ). sets l (3 + k + 8 * p) number) marked
        ∙ sets_at number (blanks 8) before (blanks (8 * n) ++ rest) (3 + k + 8 * p)
        (sym (low_bytes_length 8 (unsigned e.number))) before_length ∙ regrouped))

  pub all_put : (es : List Entry) (p : ℕ) (front middle : List ℕ) → length front ≡ 3 + p → p + length es ≡ k →
      length middle ≡ 8 * p → put_entries k es (written p (half (length es) front middle))
      ≡ written (p + length es) (front ++ (marks es ++ (middle ++ (number_bytes es ++ rest))))
  unfolding put_entries marks number_bytes
  all_put [] p front middle a b c = ap (λ (j : ℕ). written j (front ++ (middle ++ rest))) (omega arith)
  all_put (e ∷ es) p front middle a b c =
      let number = low_bytes 8 (unsigned e.number) in
      let end : p + 1 + length es ≡ p + suc (length es) = omega arith in
      ap (put_entries k es) (entry_put p (length es) e front middle a b c)
      ∙ all_put es (p + 1) (front ++ (e.mark ∷ [])) (middle ++ number)
      (length-append front (e.mark ∷ []) ∙ omega (arith, a)) (omega (arith, b))
      (length-append middle number ∙ omega (arith, c, low_bytes_length 8 (unsigned e.number)))
      ∙ ap₂ {C = Written} written end
      (append_snoc front e.mark (marks es ++ ((middle ++ number) ++ (number_bytes es ++ rest)))
      ∙ ap (λ (l : List ℕ). front ++ (e.mark ∷ (marks es ++ l)))
      (append_assoc middle number (number_bytes es ++ rest)
      ∙ ap (λ (l : List ℕ). middle ++ l) (sym (append_assoc number (number_bytes es) rest))))
