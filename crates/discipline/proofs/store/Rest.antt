-- A store between deliveries: the totals hold the one reference from outside. The test of refusal 11 says just that.
use Rattle.prelude.specs.Kit.{ℕ, ◌≤◌, ◌+◌, ◌<◌, ◌-◌, suc, zero, arith, dec_lt, true, ◌&&◌, ◌≡◌, refl, ◌∙◌, sym, ap}
use Rattle.prelude.specs.Kit.{subst, List, [], ◌∷◌, map, eqb, ℤ, pos, length, get_or, take, length-take, get_or-take}
use Rattle.prelude.specs.Kit.{eq-eqb, eqb-true}
use Rattle.semantics.specs.Basics.{all, occurrences, ◌∈◌}
use Rattle.semantics.specs.Store.{Store, cell, cell_of, cell_count, clear, inner, elements, named_by}
use Rattle.semantics.specs.Sound.{free_list, end_from, due, as_due, list_sound, formed, all_inner, places, counted}
use Rattle.semantics.specs.Sound.{totals_used, sound}
use Rattle.semantics.specs.Demands.{value_of, AtRest}
use Rattle.laws.specs.Tests.{both_hold, say_and}
use Rattle.laws.specs.Lists.{occurrences_append}
use Rattle.discipline.proofs.store.Invariant.{Invariant, StandsFor}
use Rattle.discipline.proofs.store.Counting.{namer_of, named_at}
use Rattle.discipline.proofs.store.Cells.{in_range, unused_names, namer}
use Rattle.discipline.proofs.store.Change.{inner_used, held_used}
use Rattle.discipline.proofs.store.Kept.{reached, reached_used}
use Rattle.discipline.proofs.store.Tests.{all_says, say_all, Word, clear_says, WellFormed, used_says, formed_says}
use Rattle.discipline.proofs.store.Tests.{say_formed, totals_say, say_totals, count_says, say_count}

pub record Rests (d : ℕ) (σ : Store) : Type 0 where
  pub holds : Invariant σ [] (named_by d (σ.totals ∷ []))
  -- the totals are of depth d
  pub fits : (r : ℕ) → r ∈ named_by d (σ.totals ∷ []) → d ≡ suc (cell σ r).depth

-- ---- its totals and its places

pub rests_stands : {d : ℕ} {σ : Store} → Rests d σ → StandsFor σ d σ.totals (value_of σ d σ.totals)
rests_stands h = record { means = refl; fits = λ r g. (held_used h.holds r g, h.fits r g) }

places_count : (d : ℕ) (σ : Store) (c : ℕ) →
    occurrences c (places d σ) ≡ occurrences c (named_by d (σ.totals ∷ [])) + occurrences c (all_inner σ.cells)
unfolding places
places_count d σ c = occurrences_append c (named_by d (σ.totals ∷ [])) (all_inner σ.cells)

places_counted : {d : ℕ} {σ : Store} → Rests d σ → (c : ℕ) → (cell σ c).count ≡ occurrences c (places d σ)
unfolding occurrences
places_counted {d} {σ} h c = omega (arith, h.holds.counts c, places_count d σ c)

-- ---- words and the cells that they name

word_names : (σ : Store) (d : ℕ) (ws : List ℤ) (n : ℕ) → ((i : ℕ) → i < n → Word σ d (get_or ws i (pos 0))) →
    (r : ℕ) → r ∈ named_by d (take n ws) → (0 < (cell σ r).count) × (d ≡ suc (cell σ r).depth)
unfolding occurrences
word_names σ zero ws n f r h = absurd (omega arith)
word_names σ (suc d) ws n f r h =
    let q = namer_of r (take n ws) h in
    let l : q.place < n = omega (arith, q.within, length-take n ws) in
    let u = f q.place l in
    let e : r ≡ cell_of (get_or ws q.place (pos 0)) = q.names ∙ ap cell_of (get_or-take n ws q.place (pos 0) l) in
    rw e (u.count, ap suc (sym u.depth))

names_word : (σ : Store) (d : ℕ) (ws : List ℤ) (n : ℕ) → n ≤ length ws →
    ((r : ℕ) → r ∈ named_by d (take n ws) → (0 < (cell σ r).count) × (d ≡ suc (cell σ r).depth)) →
    (i : ℕ) → i < n → Word σ d (get_or ws i (pos 0))
names_word σ zero ws n l f i h = tt
names_word σ (suc d) ws n l f i h =
    let e : get_or (take n ws) i (pos 0) ≡ get_or ws i (pos 0) = get_or-take n ws i (pos 0) h in
    let q = f (cell_of (get_or ws i (pos 0)))
    (subst (λ (w : ℤ). cell_of w ∈ map cell_of (take n ws)) e
    (named_at (take n ws) i (omega (arith, length-take n ws)))) in
    record { count = q.0; depth = omega (arith, q.1) }

-- ---- from the test to the store

-- the four parts of the test
record Parts (d : ℕ) (σ : Store) : Type 0 where
  list : list_sound σ ≡ true
  cells : all (formed σ) 0 (cell_count σ) ≡ true
  totals : totals_used d σ ≡ true
  counts : all (counted d σ) 0 (cell_count σ) ≡ true

module _ (d : ℕ) (σ : Store) (few : cell_count σ ≤ 256)
    (whole : (c : ℕ) → c < cell_count σ → length (cell σ c).slots ≡ 16) (e : sound d σ ≡ true) where
  abbrev n : ℕ
  n = cell_count σ

  parts : Parts d σ
  unfolding sound
  parts =
      let a = both_hold (list_sound σ) (all (formed σ) 0 n && (totals_used d σ && all (counted d σ) 0 n)) e in
      let b = both_hold (all (formed σ) 0 n) (totals_used d σ && all (counted d σ) 0 n) a.1 in
      let c = both_hold (totals_used d σ) (all (counted d σ) 0 n) b.1 in
      record { list = a.0; cells = b.0; totals = c.0; counts = c.1 }

  list_parts : (eqb (end_from σ σ.first n) n ≡ true) × (all (as_due σ (free_list σ)) 0 n ≡ true)
  unfolding list_sound
  list_parts = both_hold (eqb (end_from σ σ.first n) n) (all (as_due σ (free_list σ)) 0 n) parts.list

  cell_formed : (c : ℕ) → c < n → formed σ c ≡ true
  cell_formed c h = all_says (formed σ) n 0 parts.cells c (omega arith) (omega arith)

  cell_clear : (c : ℕ) → c < n → (cell σ c).count ≡ 0 → cell σ c ≡ clear (cell σ c).next
  cell_clear c h z = clear_says σ (cell σ c) z (whole c h) (formed_says σ c 0 z (cell_formed c h))

  cell_used : (c : ℕ) → 0 < (cell σ c).count → WellFormed σ (cell σ c)
  cell_used c u =
      let l = in_range σ c u in
      used_says σ (cell σ c) ((cell σ c).count - 1) (whole c l)
      (formed_says σ c (suc ((cell σ c).count - 1)) (omega arith) (cell_formed c l))

  -- what a cell names is in use, and one less deep
  cell_names : (c r : ℕ) → r ∈ inner (cell σ c) → (0 < (cell σ r).count) × ((cell σ c).depth ≡ suc (cell σ r).depth)
  unfolding occurrences inner elements
  cell_names c r h = elim (dec_lt 0 (cell σ c).count) [
    | yes u ↦ word_names σ (cell σ c).depth (cell σ c).slots (cell σ c).size (cell_used c u).words r h
    | no z ↦ absurd (omega (arith, h, ap (occurrences r) (unused_names σ cell_clear c (omega (arith, z)))))
  ]

  totals_names : (r : ℕ) → r ∈ named_by d (σ.totals ∷ []) → (0 < (cell σ r).count) × (d ≡ suc (cell σ r).depth)
  totals_names = word_names σ d (σ.totals ∷ []) 1 one
    where
      one : (i : ℕ) → i < 1 → Word σ d (get_or (σ.totals ∷ []) i (pos 0))
      one zero l = totals_say d σ parts.totals
      one (suc i) l = absurd (omega arith)

  place_used : (c : ℕ) → c ∈ places d σ → 0 < (cell σ c).count
  place_used c h = elim (dec_lt 0 (occurrences c (named_by d (σ.totals ∷ [])))) [
    | yes g ↦ (totals_names c g).0
    | no g ↦
        let q = namer c σ (omega (arith, g, places_count d σ c)) in
        (cell_names q.0 c q.1).0
  ]

  place_counts : (c : ℕ) → (cell σ c).count ≡ occurrences c (places d σ)
  place_counts c = elim (dec_lt 0 (cell σ c).count) [
    | yes u ↦
        let l = in_range σ c u in
        count_says d σ c (all_says (counted d σ) n 0 parts.counts c (omega arith) (omega arith)) u
    | no z ↦ elim (dec_lt 0 (occurrences c (places d σ))) [
      | yes g ↦ absurd (omega (arith, place_used c g))
      | no g ↦ omega arith
    ]
  ]

  pub test_rests : Rests d σ
  unfolding occurrences as_due
  test_rests = record {
    holds = record {
      few = few;
      counts = λ c. omega (arith, place_counts c, places_count d σ c);
      alone = λ c h. absurd (omega arith);
      typed = λ c r h. (cell_names c r h).1;
      tidy = λ c h. (cell_used c h).tidy;
      blank = cell_clear;
      free = λ c h. eqb-true (occurrences c (free_list σ)) (due (cell σ c).count)
          (all_says (as_due σ (free_list σ)) n 0 list_parts.1 c (omega arith) (omega arith));
      ends = eqb-true (end_from σ σ.first n) n list_parts.0;
    };
    fits = λ r h. (totals_names r h).1;
  }

-- ---- from the store to the test

module _ {d : ℕ} {σ : Store} (h : Rests d σ) where
  abbrev m : ℕ
  m = cell_count σ

  list_passes : list_sound σ ≡ true
  unfolding list_sound as_due
  list_passes =
      say_and (eqb (end_from σ σ.first m) m) (all (as_due σ (free_list σ)) 0 m)
      (eq-eqb (end_from σ σ.first m) m h.holds.ends)
      (say_all (as_due σ (free_list σ)) m 0 (λ c a b.
      eq-eqb (occurrences c (free_list σ)) (due (cell σ c).count) (h.holds.free c (omega arith))))

  cell_passes : (c : ℕ) → c < m → formed σ c ≡ true
  unfolding inner elements
  cell_passes c l = say_formed σ c (h.holds.blank c l) (λ u.
      let t = h.holds.tidy c u in
      record {
        tidy = t;
        words = names_word σ (cell σ c).depth (cell σ c).slots (cell σ c).size (omega (arith, t.whole, t.size))
            (λ r g. (inner_used h.holds c r g, h.holds.typed c r g));
      })

  totals_pass : totals_used d σ ≡ true
  totals_pass = say_totals d σ (names_word σ d (σ.totals ∷ []) 1 (omega arith)
      (λ r g. (held_used h.holds r g, h.fits r g)) 0 (omega arith))

  pub rests_test : sound d σ ≡ true
  unfolding sound
  rests_test =
      say_and (list_sound σ) (all (formed σ) 0 m && (totals_used d σ && all (counted d σ) 0 m)) list_passes
      (say_and (all (formed σ) 0 m) (totals_used d σ && all (counted d σ) 0 m)
      (say_all (formed σ) m 0 (λ c a b. cell_passes c (omega arith)))
      (say_and (totals_used d σ) (all (counted d σ) 0 m) totals_pass
      (say_all (counted d σ) m 0 (λ c a b. say_count d σ c (places_counted h c)))))

-- ---- what demand 3 says of it

pub at_rest : {d : ℕ} {σ : Store} → Rests d σ → AtRest d σ (value_of σ d σ.totals)
at_rest h = record {
  is_sound = rests_test h;
  taken = λ c. (reached h.holds c, reached_used h.holds c);
  counted = places_counted h;
  clear = h.holds.blank;
  free = h.holds.free;
  ends = h.holds.ends;
  totals = refl;
}
