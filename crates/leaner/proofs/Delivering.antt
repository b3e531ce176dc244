-- `delivery_twins`: a delivery in both runs, from stores at rest that correspond.
use Rattle.prelude.specs.Kit.{ℕ, ◌≤◌, ◌+◌, ◌<◌, suc, zero, arith, true, false, false≢true, ◌≡◌, refl, ◌∙◌, sym, ap}
use Rattle.prelude.specs.Kit.{subst, List, [], ◌∷◌, ◌++◌, ℤ, pos, length}
use Rattle.semantics.specs.Basics.{◌∈◌}
use Rattle.semantics.specs.Outcome.{Outcome, done, onward, ◌>>=◌, ◌>>◌}
use Rattle.semantics.specs.Machine.{State, Work, Routine, Program, with_store, touching, release_events, lowest_over}
use Rattle.semantics.specs.Machine.{retain_word, machine, if_array, delivery, starting}
use Rattle.semantics.specs.Store.{Store, cell, cell_of, cell_count, named_by, with_totals, has_free, released, deepest}
use Rattle.laws.specs.Lists.{occurs_first}
use Rattle.laws.specs.Updates.{updated_same}
use Rattle.laws.specs.Counts.{swapped}
use Rattle.discipline.proofs.store.Invariant.{Invariant}
use Rattle.discipline.proofs.store.Change.{permute, held_used}
use Rattle.discipline.proofs.store.Kept.{only}
use Rattle.discipline.proofs.store.Retain.{rewrite_totals}
use Rattle.discipline.proofs.store.Release.{Releases, release}
use Rattle.discipline.proofs.store.Rest.{Rests}
use Rattle.discipline.proofs.store.LowestLevel.{free_cells_listed}
use Rattle.discipline.proofs.machine.Images.{one_more}
use Rattle.discipline.proofs.machine.Frames.{Returned}
use Rattle.discipline.proofs.machine.Standing.{none_in, names_one}
use Rattle.discipline.proofs.machine.Acquiring.{after_acquire}
use Rattle.discipline.proofs.machine.Retaining.{retained_array, retains_array}
use Rattle.discipline.proofs.machine.Totals.{totals_released, releases_totals, with_result, put_result}
use Rattle.discipline.proofs.machine.Calls.{ProgramDisciplined}
use Rattle.discipline.proofs.machine.Delivery as Delivery
use Rattle.leaner.proofs.Leaner.{Leaner, leaner_kept, leaner_retained, leaner_other_retained}
use Rattle.leaner.proofs.Released.{leaner_released}
use Rattle.leaner.proofs.Levels.{leaner_levels}
use Rattle.leaner.proofs.Twin.{with_routines}
use Rattle.leaner.proofs.Runs.{Race, Starts, Tied, Twins, both, twins_bind, level_quiet, none_quiet, touching_quiet}
use Rattle.leaner.proofs.Runs.{release_quiet}
use Rattle.leaner.proofs.Beside.{Around, Known, known, Same}
use Rattle.leaner.proofs.Claims.{WordsGiven}
use Rattle.leaner.proofs.Acquiring.{Stored, both_free, with_new, tied_acquired, new_stays, acquire_twins}
use Rattle.leaner.proofs.Making.{numbers_match}
use Rattle.leaner.proofs.Calling.{SameWords, none, more, CallTwins}

-- what a word holds corresponds to what the same word holds
named_image : {π : ℕ → ℕ} (d : ℕ) (w w' : ℤ) → Same d π w w' → (c : ℕ) → c ∈ named_by d (w' ∷ []) →
    π c ∈ named_by d (w ∷ [])
named_image zero w w' q c h = absurd (none_in c h)
named_image {π} (suc d) w w' q c h =
    only (λ r. π r ∈ (cell_of w ∷ [])) (cell_of w')
    (subst (λ (k : ℕ). k ∈ (cell_of w ∷ [])) (q.cell (omega arith)) (occurs_first (cell_of w) [])) c h

-- ---- the totals retained

retained_tied : {r : Race} {E : List ℕ} {π : ℕ → ℕ} {s s' : State} (d : ℕ) (w w' : ℤ) → Tied r E π s s' →
    (0 < d → 0 < (cell s.store (cell_of w)).count) → (0 < d → 0 < (cell s'.store (cell_of w')).count) →
    Tied r E π (retained_array d w s) (retained_array d w' s')
unfolding with_store
retained_tied zero w w' t used used' = t
retained_tied {r} {s = s} {s'} (suc d) w w' t used used' = record {
  level = level_quiet r _ _ (touching s.store (cell_of w)) (touching s'.store (cell_of w'))
      (touching_quiet s.store (cell_of w)) (touching_quiet s'.store (cell_of w')) t.level;
  stores = leaner_retained (cell_of w') (used' (omega arith))
      (leaner_other_retained (cell_of w) (used (omega arith)) t.stores);
}

-- ---- the result in the totals' place

-- after a delivery: the stores correspond, and so do their totals, of depth d
pub record Over (r : Race) (d : ℕ) (u : Unit {0}) (s : State) (u' : Unit {0}) (s' : State) : Type 0 where
  pub cells : ℕ → ℕ
  pub tied : Tied r [] cells s s'
  pub totals : Same d cells s.store.totals s'.store.totals

result_tied : {r : Race} {E : List ℕ} {π : ℕ → ℕ} {s s' : State} (w w' : ℤ) → Tied r E π s s' →
    Tied r E π (with_result w s) (with_result w' s')
unfolding with_store with_totals cell
result_tied {r} {s = s} {s'} w w' t = record {
  level = level_quiet r (with_totals s.store w) (with_totals s'.store w') [] [] none_quiet none_quiet t.level;
  stores = leaner_kept t.stores (λ c h. (h, (refl, refl, refl))) (λ c h. (t.stores.used c h, (refl, refl, refl)));
}

-- the old totals are released from a store whose totals are the result
old_released : (old w : ℤ) (σ : Store) → Invariant σ [] (cell_of w ∷ (cell_of old ∷ [])) →
    Releases (with_totals σ w) (released deepest (cell_of old) (with_totals σ w))
    (release_events deepest (cell_of old) (with_totals σ w)) [] (cell_of w ∷ [])
old_released old w σ v =
    release (cell_of old) (permute [] (cell_of old ∷ (cell_of w ∷ [])) (rewrite_totals w v).holds (λ k. refl)
    (swapped (cell_of w) (cell_of old)))

totals_put : {r : Race} {π : ℕ → ℕ} {s s' : State} (d : ℕ) (old old' w w' : ℤ) → Tied r [] π s s' → Same d π w w' →
    Invariant s.store [] (named_by d (w ∷ []) ++ named_by d (old ∷ [])) →
    Invariant s'.store [] (named_by d (w' ∷ []) ++ named_by d (old' ∷ [])) →
    Over r d tt (totals_released d old (with_result w s)) tt (totals_released d old' (with_result w' s'))
unfolding with_store with_totals
totals_put {π = π} zero old old' w w' t q v v' =
    record { cells = π; tied = result_tied w w' t; totals = q }
totals_put {r} {π} {s} {s'} (suc d) old old' w w' t q v v' = record {
  cells = π;
  tied = record {
    level = level_quiet r _ _ (release_events deepest (cell_of old) (with_totals s.store w))
        (release_events deepest (cell_of old') (with_totals s'.store w'))
        (release_quiet deepest (cell_of old) (with_totals s.store w))
        (release_quiet deepest (cell_of old') (with_totals s'.store w')) (result_tied w w' t).level;
    stores = leaner_released (result_tied w w' t).stores gone' gone (named_image (suc d) w w' q);
  };
  totals = record {
    number = λ e. absurd (omega (arith, e));
    cell = λ h. ap cell_of gone.totals ∙ q.cell h ∙ ap (λ (z : ℤ). π (cell_of z)) (sym gone'.totals);
  };
}
  where
    gone : Releases (with_totals s.store w) (released deepest (cell_of old) (with_totals s.store w))
        (release_events deepest (cell_of old) (with_totals s.store w)) [] (cell_of w ∷ [])
    gone = old_released old w s.store v

    gone' : Releases (with_totals s'.store w') (released deepest (cell_of old') (with_totals s'.store w'))
        (release_events deepest (cell_of old') (with_totals s'.store w')) [] (cell_of w' ∷ [])
    gone' = old_released old' w' s'.store v'

-- ---- the delivery

pub careless : {A : Type 0} → false ≡ true → A
careless e = absurd (false≢true e)

-- of the first run on σ, and of the leaner on τ, which may have g cells more, with e steps more
module _ (p : Program) (rs : List Routine) (disciplined : ProgramDisciplined p)
    (disciplined' : ProgramDisciplined (with_routines p rs)) (readings : List ℤ) (short : length readings ≤ 16)
    (budget e g : ℕ) (σ τ : Store) (rests : Rests p.depth σ) (rests' : Rests p.depth τ)
    (more_cells : cell_count τ ≡ cell_count σ + g) where
  abbrev pub race : Race
  race = record {
    first = record { budget = budget; store = σ; frugal = false };
    leaner = record { budget = budget + e; store = τ; frugal = false };
    steps = e;
    cells = g;
  }

  pub race_starts : Starts race
  race_starts = record {
    more_cells = more_cells;
    listed = free_cells_listed rests.holds;
    leaner_listed = free_cells_listed rests'.holds;
    careless = refl;
    leaner_careless = refl;
  }

  abbrev p' : Program
  p' = with_routines p rs

  abbrev d : ℕ
  d = p.depth

  abbrev old : ℤ
  old = σ.totals

  abbrev old' : ℤ
  old' = τ.totals

  abbrev held : List ℕ
  held = named_by d (old ∷ [])

  abbrev held' : List ℕ
  held' = named_by d (old' ∷ [])

  module _ (calls : CallTwins race p rs 32 (λ _. 0)) (π : ℕ → ℕ) (leaner : Leaner [] π τ σ)
      (totals : Same d π old old') where
    begun_tied : Tied race [] π (starting budget σ) (starting (budget + e) τ)
    unfolding starting lowest_over
    begun_tied = record {
      level = record { left = refl; lowest = leaner_levels g leaner more_cells };
      stores = leaner;
    }

    stored : Stored race [] [] held held' (starting budget σ) (starting (budget + e) τ)
    unfolding starting
    stored = record {
      clean = (Delivery.begun p disciplined false careless readings short budget σ rests).clean;
      clean_leaner = (Delivery.begun p' disciplined' false careless readings short (budget + e) τ rests').clean;
      holds = rests.holds;
      holds_leaner = rests'.holds;
    }

    module _ (free : has_free σ ≡ true) where
      free' : has_free τ ≡ true
      unfolding starting
      free' = both_free race_starts stored begun_tied free

      abbrev c : ℕ
      c = σ.first

      abbrev c' : ℕ
      c' = τ.first

      -- the readings' cells correspond
      new : ℕ → ℕ
      unfolding starting
      new = with_new race_starts stored begun_tied

      abbrev ready : State
      ready = Delivery.ready p disciplined false careless readings short budget σ rests free

      abbrev ready' : State
      ready' = Delivery.ready p' disciplined' false careless readings short (budget + e) τ rests' free'

      ready_tied : Tied race [] new ready ready'
      unfolding starting with_store new
      ready_tied = retained_tied d old old'
          (tied_acquired race_starts stored begun_tied 0 readings readings free short (numbers_match π τ readings))
          (λ h. held_used (Delivery.acquires p disciplined false careless readings short budget σ rests free).holds
          (cell_of old) (omega (arith, names_one d old h, one_more (cell_of old) c held)))
          (λ h. held_used
          (Delivery.acquires p' disciplined' false careless readings short (budget + e) τ rests' free').holds
          (cell_of old') (omega (arith, names_one d old' h, one_more (cell_of old') c' held')))

      old_same : Same d new old old'
      unfolding starting new
      old_same = record {
        number = totals.number;
        cell = λ h. totals.cell h ∙ sym (new_stays race_starts stored begun_tied free (cell_of old')
            (held_used rests'.holds (cell_of old') (names_one d old' h)));
      }

      readings_same : Same 1 new (pos c) (pos c')
      unfolding starting new cell_of
      readings_same = record {
        number = λ z. absurd (omega (arith, z));
        cell = λ h. sym (updated_same π c' c);
      }

      around : List ℕ → Around
      around F = record { aside = []; others = F; roots = F; lent = [] }

      main_twins : Twins race (WordsGiven race (p.signatures 0).result [] new held')
          (machine p 32 held 0 (old ∷ (pos c ∷ [])) ready) (machine p' 32 held' 0 (old' ∷ (pos c' ∷ [])) ready')
      unfolding around
      main_twins = calls 0 (old ∷ (pos c ∷ [])) (old' ∷ (pos c' ∷ [])) [] new (around held) (around held') held held'
          ready ready'
          record {
            values = Delivery.values p disciplined false careless readings short budget σ rests;
            meter = Delivery.meter p disciplined false careless readings short budget σ rests;
            together = (Delivery.main_begins p disciplined false careless readings short budget σ rests free).together;
            ready = Delivery.main_ready p disciplined false careless readings short budget σ rests free;
          }
          record {
            values = Delivery.values p' disciplined' false careless readings short (budget + e) τ rests';
            meter = Delivery.meter p' disciplined' false careless readings short (budget + e) τ rests';
            together = (Delivery.main_begins p' disciplined' false careless readings short (budget + e) τ rests' free'
                ).together;
            ready = Delivery.main_ready p' disciplined' false careless readings short (budget + e) τ rests' free';
          }
          ready_tied
          (subst (λ (ds : List ℕ). SameWords new ds (old ∷ (pos c ∷ [])) (old' ∷ (pos c' ∷ [])))
          (sym disciplined.takes) (more old_same (more readings_same none)))
          (named_image d old old' old_same) (λ n h. h)

      -- what comes of main, once its results are in the totals' places
      finished_twins : Twins race (Over race d)
          (onward (put_result d old) (machine p 32 held 0 (old ∷ (pos c ∷ [])) ready))
          (onward (put_result d old') (machine p' 32 held' 0 (old' ∷ (pos c' ∷ [])) ready'))
      unfolding onward
      finished_twins = twins_bind race main_twins (λ w s w' s' is is' given.
          let back : Known (Returned race.first d ready.store [] held) w s =
          known (Delivery.main_sound p disciplined false careless readings short budget σ rests free) is in
          let back' : Known (Returned race.leaner d ready'.store [] held') w' s' =
          known (Delivery.main_sound p' disciplined' false careless readings short (budget + e) τ rests' free') is' in
          subst (λ (o : Outcome State (Unit {0})). Twins race (Over race d) o (put_result d old' w' s'))
          (sym (releases_totals d old (with_result w s)))
          (subst (λ (o : Outcome State (Unit {0})).
          Twins race (Over race d) (done tt (totals_released d old (with_result w s))) o)
          (sym (releases_totals d old' (with_result w' s')))
          (both (totals_put d old old' w w' given.tied
          (subst (λ (k : ℕ). Same k given.cells w w') disciplined.gives given.result)
          back.holds.answered.invariant back'.holds.answered.invariant))))

    -- what follows once the readings have cells
    abbrev next : ℤ → Work (Unit {0})
    next a = if_array d (retain_word old) >> (machine p 32 held 0 (old ∷ (a ∷ [])) >>= put_result d old)

    abbrev next' : ℤ → Work (Unit {0})
    next' a = if_array d (retain_word old') >> (machine p' 32 held' 0 (old' ∷ (a ∷ [])) >>= put_result d old')

    pub delivery_twins : Twins race (Over race d) (delivery p readings (starting budget σ))
        (delivery p' readings (starting (budget + e) τ))
    unfolding delivery starting onward
    delivery_twins =
        acquire_twins race_starts stored begun_tied next next' held held' 0 readings readings (λ free.
        subst (λ (o : Outcome State (Unit {0})). Twins race (Over race d)
        (onward (λ _. machine p 32 held 0 (old ∷ (pos σ.first ∷ [])) >>= put_result d old) o)
        (next' (pos τ.first) (after_acquire 0 readings (starting (budget + e) τ))))
        (sym (retains_array d old (after_acquire 0 readings (starting budget σ))))
        (subst (λ (o : Outcome State (Unit {0})). Twins race (Over race d)
        (onward (put_result d old) (machine p 32 held 0 (old ∷ (pos σ.first ∷ [])) (ready free)))
        (onward (λ _. machine p' 32 held' 0 (old' ∷ (pos τ.first ∷ [])) >>= put_result d old') o))
        (sym (retains_array d old' (after_acquire 0 readings (starting (budget + e) τ))))
        (finished_twins free)))
