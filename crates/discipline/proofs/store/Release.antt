-- A reference fewer: the last one frees the cell, and then its elements lose one each.
use Rattle.prelude.specs.Kit.{ℕ, ◌≤◌, ◌+◌, ◌<◌, suc, zero, arith, ◌≡◌, refl, ◌∙◌, sym, ap, inl, inr, ◌⊎◌, some, Option}
use Rattle.prelude.specs.Kit.{List, [], ◌∷◌, ◌++◌}
use Rattle.semantics.specs.Basics.{occurrences, ◌∈◌, each}
use Rattle.semantics.specs.Store.{Store, cell, cell_count, clear, inner, with_cell, with_first, with_count, freed}
use Rattle.semantics.specs.Store.{lowered, released, deepest}
use Rattle.semantics.specs.Sound.{free_list, all_inner}
use Rattle.semantics.specs.Machine.{Event, acquires, frees, touches, each_events, lower_events, release_events}
use Rattle.semantics.specs.Demands.{touched, taken_off, put_on, replayed}
use Rattle.laws.specs.Lists.{occurrences_append, occurs_first}
use Rattle.discipline.proofs.store.Invariant.{Invariant, Keeps}
use Rattle.discipline.proofs.store.Claims.{Replays}
use Rattle.discipline.proofs.store.Counting.{hits_itself}
use Rattle.discipline.proofs.store.Cells.{in_range, clear_names, CellsAgree, agree_trans, same_agree, Put, Here}
use Rattle.discipline.proofs.store.Cells.{There}
use Rattle.discipline.proofs.store.Cells.{put_size, put_cases, put_inner, with_first_put}
use Rattle.discipline.proofs.store.FreeList.{Listed, listed, listed_freed}
use Rattle.discipline.proofs.store.Change.{root_used, held_used, touch, Change, changed, changed_list}
use Rattle.discipline.proofs.store.Kept.{alike_still_used}
use Rattle.laws.specs.Releases.{count_with}
use Rattle.discipline.proofs.store.Retain.{recount_put, recount_agree, recount_change}

-- ---- logs one after the other

touched_append : (a b : List Event) → touched (a ++ b) ≡ touched a ++ touched b
unfolding touched
touched_append [] b = refl
touched_append (acquires c ∷ a) b = touched_append a b
touched_append (frees c ∷ a) b = touched_append a b
touched_append (touches c ∷ a) b = ap (λ (l : List ℕ). c ∷ l) (touched_append a b)

pub replayed_append : (a b : List Event) (free : Option (List ℕ)) →
    replayed (a ++ b) free ≡ replayed b (replayed a free)
unfolding replayed
replayed_append [] b free = refl
replayed_append (acquires c ∷ a) b free = replayed_append a b (taken_off c free)
replayed_append (frees c ∷ a) b free = replayed_append a b (put_on c free)
replayed_append (touches c ∷ a) b free = replayed_append a b free

pub untouched_append : (a b : List Event) → touched a ≡ [] → touched b ≡ [] → touched (a ++ b) ≡ []
untouched_append a b p q = touched_append a b ∙ ap (λ (l : List ℕ). l ++ touched b) p ∙ q

-- ---- what releases do

-- from σ to τ by the events of a log: what is in use in τ was so in σ, with the same words
pub record Releases (σ τ : Store) (log : List Event) (Z R : List ℕ) : Type 0 where
  pub holds : Invariant τ Z R
  pub same : (c : ℕ) → 0 < (cell τ c).count → CellsAgree (cell τ c) (cell σ c)
  pub untouched : touched log ≡ []
  pub replays : Replays σ τ log
  pub totals : τ.totals ≡ σ.totals
  pub cells : cell_count τ ≡ cell_count σ
  pub fewer : (c : ℕ) → (cell τ c).count ≤ (cell σ c).count

releases_none : {σ : Store} {Z R : List ℕ} → Invariant σ Z R → Releases σ σ [] Z R
unfolding touched replayed
releases_none v = record {
  holds = v;
  same = λ c h. (refl, refl, refl);
  untouched = refl;
  replays = refl;
  totals = refl;
  cells = refl;
  fewer = λ c. omega arith;
}

releases_then : {σ τ υ : Store} {Z R R' : List ℕ} (a b : List Event) →
    Releases σ τ a Z R' → Releases τ υ b Z R → Releases σ υ (a ++ b) Z R
releases_then {σ} {τ} {υ} a b p q = record {
  holds = q.holds;
  same = λ c h. agree_trans (cell υ c) (cell τ c) (cell σ c) (q.same c h) (p.same c (omega (arith, q.fewer c)));
  untouched = untouched_append a b p.untouched q.untouched;
  replays = q.replays ∙ ap (replayed b) p.replays ∙ sym (replayed_append a b (some (free_list σ)));
  totals = q.totals ∙ p.totals;
  cells = q.cells ∙ p.cells;
  fewer = λ c. omega (arith, p.fewer c, q.fewer c);
}

-- ---- one count lowered

module _ {σ : Store} {Z R : List ℕ} (c : ℕ) (v : Invariant σ Z (c ∷ R)) where
  held : 0 < (cell σ c).count
  held = held_used v c (occurs_first c R)

  -- to a count that is not 0
  module _ (n : ℕ) (e : (cell σ c).count ≡ suc (suc n)) where
    abbrev lower : Store
    lower = with_cell σ c (with_count (cell σ c) (suc n))

    lower_cases : (d : ℕ) → Here σ lower c (with_count (cell σ c) (suc n)) d ⊎ There σ lower c d
    lower_cases = put_cases (recount_put v c (suc n) held (omega arith))

    lower_change : Change σ lower c (with_count (cell σ c) (suc n)) Z R (free_list σ)
    unfolding occurrences
    lower_change = recount_change v c (suc n) held (omega arith) R
        (λ d. elim (lower_cases d) [
          | inl g ↦ omega (arith, g.hit, g.new_count, g.old_count, count_with (cell σ c) (suc n), v.counts d)
          | inr g ↦ omega (arith, g.hit, g.count, v.counts d)
        ])
        (λ d h. elim (lower_cases d) [
          | inl g ↦ absurd (omega (arith, g.old_count, v.alone d h))
          | inr g ↦ g.count ∙ v.alone d h
        ])

    lower_releases : Releases σ lower [] Z R
    unfolding touched replayed with_cell
    lower_releases = record {
      holds = changed v lower_change;
      same = λ d h. recount_agree v c (suc n) held (omega arith) d;
      untouched = refl;
      replays = ap some (changed_list v lower_change);
      totals = refl;
      cells = put_size lower_change.put;
      fewer = λ d. elim (lower_cases d) [
        | inl g ↦ omega (arith, g.new_count, g.old_count, count_with (cell σ c) (suc n))
        | inr g ↦ omega (arith, g.count)
      ];
    }

  -- to 0: the cell is clear, and the first of the free list; its elements' references are held outside
  module _ (e : (cell σ c).count ≡ 1) where
    cleared : ((clear σ.first).count ≡ 0) × ((clear σ.first).next ≡ σ.first)
    unfolding clear
    cleared = (refl, refl)

    cleared_names : inner (clear σ.first) ≡ []
    cleared_names = clear_names (clear σ.first) σ.first refl

    freed_put : Put σ (freed c σ) c (clear σ.first)
    unfolding freed
    freed_put = with_first_put σ c (clear σ.first) c (in_range σ c held)

    freed_cases : (d : ℕ) → Here σ (freed c σ) c (clear σ.first) d ⊎ There σ (freed c σ) c d
    freed_cases = put_cases freed_put

    lone : occurrences c (all_inner σ.cells) ≡ 0
    unfolding occurrences
    lone = omega (arith, v.counts c, hits_itself c)

    freed_inner : (d : ℕ) →
        occurrences d (all_inner (freed c σ).cells) + occurrences d (inner (cell σ c))
        ≡ occurrences d (all_inner σ.cells)
    unfolding occurrences
    freed_inner d = omega (arith, put_inner freed_put d, ap (occurrences d) cleared_names)

    freed_counts : (d : ℕ) → (cell (freed c σ) d).count ≡
        occurrences d (inner (cell σ c) ++ R) + occurrences d Z + occurrences d (all_inner (freed c σ).cells)
    unfolding occurrences
    freed_counts d = elim (freed_cases d) [
      | inl g ↦ omega (arith, g.hit, cleared, freed_inner d, v.counts d, occurrences_append d (inner (cell σ c)) R)
      | inr g ↦ omega (arith, g.hit, freed_inner d, v.counts d, occurrences_append d (inner (cell σ c)) R)
    ]

    freed_alone : (d : ℕ) → d ∈ Z → (cell (freed c σ) d).count ≡ 1
    unfolding occurrences
    freed_alone d h = elim (freed_cases d) [
      | inl g ↦ absurd (omega (arith, g.hit, v.alone d h, v.counts d))
      | inr g ↦ g.count ∙ v.alone d h
    ]

    freed_list : Listed (freed c σ) (c ∷ free_list σ)
    unfolding freed with_first
    freed_list = listed_freed freed_put (free_list σ) (listed v) refl held cleared.0 cleared.1

    freed_change : Change σ (freed c σ) c (clear σ.first) Z (inner (cell σ c) ++ R) (c ∷ free_list σ)
    unfolding occurrences
    freed_change = record {
      put = freed_put;
      counts = freed_counts;
      alone = freed_alone;
      typed = λ r h. absurd (omega (arith, ap (occurrences r) cleared_names));
      depth = λ h. absurd (omega (arith, lone));
      tidy = λ h. absurd (omega (arith, cleared));
      blank = λ h. ap clear (sym cleared.1);
      list = freed_list;
    }

    freed_releases : Releases σ (freed c σ) (frees c ∷ []) Z (inner (cell σ c) ++ R)
    unfolding touched replayed freed with_cell with_first
    freed_releases = record {
      holds = changed v freed_change;
      same = λ d h. elim (freed_cases d) [
        | inl g ↦ absurd (omega (arith, g.new_count, cleared))
        | inr g ↦ same_agree (cell (freed c σ) d) (cell σ d) g.same
      ];
      untouched = refl;
      replays = ap some (changed_list v freed_change);
      totals = refl;
      cells = put_size freed_put;
      fewer = λ d. elim (freed_cases d) [
        | inl g ↦ omega (arith, g.new_count, cleared)
        | inr g ↦ omega (arith, g.count)
      ];
    }

-- ---- releases that go down

-- a release that goes down n levels does for a cell of an element depth below n
abbrev Down : ℕ → Type 0
Down n = (σ : Store) (Z R : List ℕ) (c : ℕ) → (cell σ c).depth < n → Invariant σ Z (c ∷ R) →
    Releases σ (released n c σ) (release_events n c σ) Z R

each_down : (n : ℕ) → Down n → (cs : List ℕ) (σ : Store) (Z R : List ℕ) → ((r : ℕ) → r ∈ cs → (cell σ r).depth < n) →
    Invariant σ Z (cs ++ R) →
    Releases σ (each (released n) cs σ) (each_events (released n) (release_events n) cs σ) Z R
unfolding each each_events occurrences
each_down n down [] σ Z R f v = releases_none v
each_down n down (c ∷ cs) σ Z R f v =
    let p = down σ Z (cs ++ R) c (f c (occurs_first c cs)) v in
    releases_then (release_events n c σ) (each_events (released n) (release_events n) cs (released n c σ)) p
    (each_down n down cs (released n c σ) Z R
    (λ r h. omega (
      arith,
      f r (omega arith),
      (p.same r (held_used p.holds r (omega (arith, occurrences_append r cs R)))).1,
    ))
    p.holds)

down_all : (n : ℕ) → Down n
unfolding released release_events lowered lower_events
down_all zero σ Z R c h v = absurd (omega arith)
down_all (suc n) σ Z R c h v =
    rw (touch v c (held c v)) (go (λ τ Y Q d g u. down_all n τ Y Q d g u) (cell σ c).count refl)
  where
    go : Down n → (k : ℕ) → (cell σ c).count ≡ k →
        Releases σ (lowered (released n) k c σ) (lower_events (released n) (release_events n) k c σ) Z R
    go down zero e = absurd (omega (arith, e, held c v))
    go down (suc zero) e =
        let p = freed_releases c v e in
        releases_then (frees c ∷ []) (each_events (released n) (release_events n) (inner (cell σ c)) (freed c σ)) p
        (each_down n down (inner (cell σ c)) (freed c σ) Z R
        (λ r g. omega (
          arith,
          v.typed c r g,
          (p.same r (held_used p.holds r (omega (arith, occurrences_append r (inner (cell σ c)) R)))).1,
        ))
        p.holds)
    go down (suc (suc k)) e = lower_releases c v k e

-- a release that goes all the way down
pub release : {σ : Store} {Z R : List ℕ} (c : ℕ) → Invariant σ Z (c ∷ R) →
    Releases σ (released deepest c σ) (release_events deepest c σ) Z R
release {σ} {Z} {R} c v = down_all deepest σ Z R c (omega (arith, (v.tidy c (held c v)).depth)) v

-- what is still held keeps its value
pub releases_keep : {σ τ : Store} {log : List Event} {Z R Z' R' : List ℕ} →
    Invariant σ Z' R' → Releases σ τ log Z R → Keeps σ τ (Z ++ R)
releases_keep v p = record { keep = λ r h. alike_still_used v p.holds p.same r (root_used p.holds r h) }
