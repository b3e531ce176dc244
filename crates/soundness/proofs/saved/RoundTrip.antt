-- A value written to a file is read back from it.
use Rattle.prelude.specs.Kit.{ℕ, ◌≤◌, ◌+◌, ◌<◌, ◌-◌, suc, zero, ◌*◌, arith, true, ◌≡◌, refl, ◌∙◌, sym, ap, subst, some}
use Rattle.prelude.specs.Kit.{List, [], ◌∷◌, ◌++◌, append_assoc, ℤ, pos, length, get_or, length-append, get_or_at, lt-ltb}
use Rattle.prelude.specs.Kit.{eq-eqb, le-leb}
use Rattle.semantics.specs.Outcome.{Outcome, done, onward, times}
use Rattle.semantics.specs.Number.{fits, bytes_at, signed}
use Rattle.semantics.specs.Value.{Value, num, array, Values, nil, cons, to_list}
use Rattle.semantics.specs.Saved.{Entry, entries, entries_all, size_of, unsigned, low_bytes, marks, number_bytes}
use Rattle.semantics.specs.Saved.{file_bytes, saved_bytes, saved_length, mark_at, number_at, value_at, stated_count}
use Rattle.semantics.specs.Saved.{labelled, read_saved}
use Rattle.laws.specs.SavedFiles.{low_bytes_length, marks_length, file_length}
use Rattle.soundness.proofs.saved.Bytes.{read_bytes, unsigned_small, signed_back}
use Rattle.soundness.proofs.saved.Shape.{OfDepth, AllOfDepth, Fits, AllFits, of_to}

-- ---- entries of a file

-- from entry p on, a file of k entries has these
abbrev pub Spelt : List ℕ → ℕ → ℕ → List Entry → Type 0
Spelt file k p [] = Unit {0}
Spelt file k p (e ∷ es) =
    (p < k) × (mark_at file k p ≡ e.mark) × (number_at file k p ≡ e.number) × Spelt file k (suc p) es

module _ (file : List ℕ) (k : ℕ) where
  spelt_at : (p q : ℕ) (es : List Entry) → p ≡ q → Spelt file k p es → Spelt file k q es
  spelt_at p q es e s = subst (λ (n : ℕ). Spelt file k n es) e s

  pub spelt_split : (p : ℕ) (es fs : List Entry) → Spelt file k p (es ++ fs) →
      Spelt file k p es × Spelt file k (p + length es) fs
  spelt_split p [] fs s = (tt, spelt_at p (p + 0) fs (omega arith) s)
  spelt_split p (e ∷ es) fs s =
      let r = spelt_split (suc p) es fs s.3 in
      ((s.0, s.1, s.2, r.0), spelt_at (suc p + length es) (p + suc (length es)) fs (omega arith) r.1)

  -- ---- reading what is spelt

  number_here : (z : ℤ) (p : ℕ) → p < k → mark_at file k p ≡ 0 → number_at file k p ≡ z →
      value_at file k 0 p ≡ done (num z) (suc p)
  unfolding value_at
  number_here z p h m n = rw (lt-ltb p k h, m) (ap (λ (y : ℤ). done (num y) (suc p)) n)

  array_here : (d n p q : ℕ) (vs : Values) → p < k → mark_at file k p ≡ suc n → n ≤ 16 → number_at file k p ≡ pos 0 →
      times n (value_at file k d) (suc p) ≡ done (to_list vs) q → value_at file k (suc d) p ≡ done (array vs) q
  unfolding value_at onward
  array_here d n p q vs h m few z e =
      let less : suc n - 1 ≡ n = omega arith in
      rw (lt-ltb p k h, m, lt-ltb 0 (suc n) (omega arith), le-leb (suc n) 17 (omega arith), z, less, e)
      (ap (λ (l : Values). done (array l) q) (of_to vs))

  mutual
    unfolding entries times onward

    pub read_entries : (v : Value) (d : ℕ) → OfDepth v d → (p : ℕ) → Spelt file k p (entries v) →
        value_at file k d p ≡ done v (p + length (entries v))
    read_entries (num z) zero h p s =
        number_here z p s.0 s.1 s.2 ∙ ap (λ (n : ℕ). done (num z) n) (omega arith)
    read_entries (num z) (suc d) h p s = absurd h
    read_entries (array vs) zero h p s = absurd h
    read_entries (array vs) (suc d) h p s =
        array_here d (size_of vs) p (p + suc (length (entries_all vs))) vs s.0 s.1 h.0 s.2
        (read_all vs d h.1 (suc p) s.3 ∙ ap (λ (n : ℕ). done (to_list vs) n) (omega arith))

    read_all : (vs : Values) (d : ℕ) → AllOfDepth vs d → (p : ℕ) → Spelt file k p (entries_all vs) →
        times (size_of vs) (value_at file k d) p ≡ done (to_list vs) (p + length (entries_all vs))
    read_all nil d h p s = ap {B = Outcome ℕ (List Value)} (λ (n : ℕ). done [] n) (omega arith)
    read_all (cons v vs) d h p s =
        let both = spelt_split p (entries v) (entries_all vs) s in
        let first = read_entries v d h.0 p both.0 in
        let rest = read_all vs d h.1 (p + length (entries v)) both.1 in
        rw (first, rest)
        (ap (λ (n : ℕ). done (v ∷ to_list vs) n)
        (omega (arith, length-append (entries v) (entries_all vs))))

-- ---- what a written file spells

abbrev pub AllFit : List Entry → Type 0
AllFit [] = Unit {0}
AllFit (e ∷ es) = (fits e.number ≡ true) × AllFit es

pub all_fit_append : (es fs : List Entry) → AllFit es → AllFit fs → AllFit (es ++ fs)
all_fit_append [] fs h g = g
all_fit_append (e ∷ es) fs h g = (h.0, all_fit_append es fs h.1 g)

mutual
  unfolding entries

  pub entries_fit : (v : Value) → Fits v → AllFit (entries v)
  entries_fit (num z) h = (h, tt)
  entries_fit (array vs) h = (refl, all_entries_fit vs h)

  all_entries_fit : (vs : Values) → AllFits vs → AllFit (entries_all vs)
  all_entries_fit nil h = tt
  all_entries_fit (cons v vs) h =
      all_fit_append (entries v) (entries_all vs) (entries_fit v h.0) (all_entries_fit vs h.1)

module _ (file : List ℕ) (k : ℕ) where
  -- the marks and numbers from entry p on stand behind others
  pub spells : (p : ℕ) (es : List Entry) (front middle : List ℕ) → AllFit es →
      file ≡ front ++ (marks es ++ (middle ++ number_bytes es)) → length front ≡ 3 + p → p + length es ≡ k →
      length middle ≡ 8 * p → Spelt file k p es
  unfolding marks number_bytes
  spells p [] front middle fit is a b c = tt
  spells p (e ∷ es) front middle fit is a b c = (
    omega (arith, b),
    ap (λ (l : List ℕ). get_or l (3 + p) 0) is ∙ get_or_at front e.mark after_mark 0 (3 + p) a,
    ap (λ (n : ℕ). signed n) word ∙ signed_back e.number fit.0,
    spells (suc p) es (front ++ (e.mark ∷ [])) (middle ++ bytes) fit.1 regrouped front_length (omega (arith, b))
        middle_length,
  )
    where
      bytes : List ℕ
      bytes = low_bytes 8 (unsigned e.number)

      after_mark : List ℕ
      after_mark = marks es ++ (middle ++ number_bytes (e ∷ es))

      before : List ℕ
      before = front ++ ((e.mark ∷ marks es) ++ middle)

      at_number : file ≡ before ++ (bytes ++ number_bytes es)
      at_number = is
          ∙ ap (λ (l : List ℕ). front ++ l) (sym (append_assoc (e.mark ∷ marks es) middle (bytes ++ number_bytes es)))
          ∙ sym (append_assoc front ((e.mark ∷ marks es) ++ middle) (bytes ++ number_bytes es))

      before_length : length before ≡ 3 + k + 8 * p
      before_length = length-append front ((e.mark ∷ marks es) ++ middle)
          ∙ omega (arith, length-append (e.mark ∷ marks es) middle, marks_length es, a, b, c)

      front_length : length (front ++ (e.mark ∷ [])) ≡ 3 + suc p
      front_length = length-append front (e.mark ∷ []) ∙ omega (arith, a)

      middle_length : length (middle ++ bytes) ≡ 8 * suc p
      middle_length =
          length-append middle bytes ∙ omega (arith, c, low_bytes_length 8 (unsigned e.number))

      word : bytes_at 8 file (3 + k + 8 * p) ≡ unsigned e.number
      word = ap (λ (l : List ℕ). bytes_at 8 l (3 + k + 8 * p)) at_number
          ∙ read_bytes 8 (unsigned e.number) (3 + k + 8 * p) before (number_bytes es)
          (unsigned_small e.number fit.0) before_length

      regrouped : file ≡ (front ++ (e.mark ∷ [])) ++ (marks es ++ ((middle ++ bytes) ++ number_bytes es))
      regrouped = is
          ∙ ap (λ (l : List ℕ). front ++ (e.mark ∷ (marks es ++ l)))
          (sym (append_assoc middle bytes (number_bytes es)))
          ∙ sym (append_assoc front (e.mark ∷ []) (marks es ++ ((middle ++ bytes) ++ number_bytes es)))

-- ---- the whole file

module _ (d : ℕ) (es : List Entry) (few : length es ≤ 4096) where
  abbrev bytes : List ℕ
  bytes = file_bytes d es

  pub file_count : stated_count bytes ≡ length es
  unfolding file_bytes
  file_count = read_bytes 2 (length es) 1 (d ∷ []) (marks es ++ number_bytes es) (omega arith) refl

  pub file_labelled : labelled d bytes ≡ true
  unfolding labelled file_bytes
  file_labelled =
      let k = length es in
      rw (
        file_count,
        le-leb 3 (length bytes) (omega (arith, file_length d es)),
        eq-eqb d d refl,
        le-leb k 4096 few,
        eq-eqb (length bytes) (saved_length k) (file_length d es),
      ) refl

  pub file_spells : AllFit es → Spelt bytes (length es) 0 es
  unfolding file_bytes low_bytes
  file_spells fit =
      spells bytes (length es) 0 es (d ∷ low_bytes 2 (length es)) [] fit refl refl (omega arith) refl

-- a value of depth d with numbers of 64 bits, of at most 4,096 entries
pub round_trip : (d : ℕ) (v : Value) → OfDepth v d → Fits v → length (entries v) ≤ 4096 →
    read_saved d (saved_bytes d v) ≡ some v
unfolding read_saved saved_bytes
round_trip d v h fit few =
    let es = entries v in
    let k = length es in
    let whole = read_entries (file_bytes d es) k v d h 0 (file_spells d es few (entries_fit v fit)) in
    rw (file_count d es few, file_labelled d es few, whole, eq-eqb (0 + k) k (omega arith)) refl
