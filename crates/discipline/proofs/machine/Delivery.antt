-- A delivery on a store between deliveries does what main means.
use Rattle.prelude.specs.Kit.{ℕ, ◌≤◌, ◌-◌, suc, zero, ◌*◌, arith, true, false, Bool, not, ◌≡◌, refl, ◌∙◌, sym, ap}
use Rattle.prelude.specs.Kit.{subst, ap₂, inl, inr, List, [], ◌∷◌, ◌++◌, append_assoc, ℤ, pos, length}
use Rattle.semantics.specs.Basics.{occurrences, ◌∈◌}
use Rattle.semantics.specs.Kinds.{picked}
use Rattle.semantics.specs.Outcome.{Outcome, done, stop, onward, ◌>>=◌, ◌>>◌}
use Rattle.semantics.specs.Value.{Value, numbers}
use Rattle.semantics.specs.Syntax.{Script}
use Rattle.semantics.specs.Meaning.{Meter, meter_of, step_wants, main_meaning}
use Rattle.semantics.specs.Machine.{State, Work, with_store, with_roots, acquire, acquire_if, retain_word, Program}
use Rattle.semantics.specs.Machine.{program, machine, if_array, delivery, starting, state_of}
use Rattle.semantics.specs.Store.{Store, Cell, cell_of, named_by, has_free, acquired}
use Rattle.semantics.specs.Ledger.{wants_cell}
use Rattle.semantics.specs.Demands.{value_of, touched, replayed, AtRest, Does}
use Rattle.laws.specs.Lists.{◌⊆◌, occurrences_append}
use Rattle.discipline.proofs.store.Invariant.{Invariant, StandsFor}
use Rattle.discipline.proofs.store.Counting.{in_append_left, in_append_right}
use Rattle.discipline.proofs.store.Change.{held_used}
use Rattle.discipline.proofs.store.Rest.{Rests, rests_stands, at_rest}
use Rattle.discipline.proofs.store.Kept.{stands_kept, alike_trans, reached}
use Rattle.discipline.proofs.store.Acquire.{Acquires, none_left}
use Rattle.discipline.proofs.store.Acquire as Store_acquire
use Rattle.discipline.proofs.normal.Running.{running_is_meaning}
use Rattle.semantics.specs.Plain.{running}
use Rattle.discipline.proofs.store.LowestLevel.{free_list_length}
use Rattle.discipline.proofs.machine.Images.{one_more}
use Rattle.discipline.proofs.machine.Limits.{FitsCell, no_cell_free}
use Rattle.discipline.proofs.machine.Agreement.{Start, Clean, Together, SameStop, AllTaken, Agree, both, same, dry}
use Rattle.discipline.proofs.machine.Frames.{Room, Returned, Arguments, none, more, named_all, owned_cells}
use Rattle.discipline.proofs.machine.Frames.{borrowed_cells}
use Rattle.discipline.proofs.machine.Places.{picked_all, picked_none}
use Rattle.discipline.proofs.machine.Standing.{none_in, named_few, names_one}
use Rattle.discipline.proofs.machine.Acquiring.{after_acquire, acquire_together, filled_count, filled_depth}
use Rattle.discipline.proofs.machine.Acquiring.{cell_stands}
use Rattle.discipline.proofs.machine.Retaining.{retained_array, retains_array, WordRetained, word_retained}
use Rattle.discipline.proofs.machine.Totals.{Finished, releases_totals, with_result, put_result, result_put}
use Rattle.discipline.proofs.machine.Calling.{CallReady}
use Rattle.discipline.proofs.machine.Calls.{call_adds, setting, ProgramDisciplined, ProgramFrugal, call_sound}

-- The delivery ends as main does, or stops as main does, or is out of cells just where main wants one.
pub data Delivers (start : Start) (d : ℕ) : Outcome State (Unit {0}) → Outcome Meter Value → Type 0 where
  finishes : {u : Unit {0}} {s : State} {v : Value} {m : Meter} → Finished start d s v m →
      Delivers start d (done u s) (done v m)
  stops : {k n : ℕ} {s : State} {m : Meter} → SameStop start k s n m → Delivers start d (stop k s) (stop n m)
  runs_dry : {s : State} {p : Outcome Meter Value} → has_free s.store ≡ false →
      AllTaken start s → Clean start s → wants_cell (start.budget - s.left) p ≡ true →
      Delivers start d (stop no_cell_free s) p

wanted : (k : ℕ) (p : Outcome Meter Value) → step_wants k (meter_of p).trace ≡ true → wants_cell k p ≡ true
wanted zero p h = refl
wanted (suc k) p h = h

none_here : (k : ℕ) → occurrences k [] ≡ 0
unfolding occurrences
none_here k = refl

-- what comes of main, once its result is in the totals' place
finish : {start : Start} {σ : Store} {o : Outcome State ℤ} {p : Outcome Meter Value} (d : ℕ) (old : ℤ) →
    Agree start (Returned start d σ [] (named_by d (old ∷ []))) o p → Delivers start d (onward (put_result d old) o) p
unfolding onward
finish {start} d old (both {a = w} {s} {b = v} {m} q) =
    subst (λ (o : Outcome State (Unit {0})). Delivers start d o (done v m))
    (sym (releases_totals d old (with_result w s))) (finishes (result_put d old q))
finish d old (same q) = stops q
finish {start} d old (dry {s} {p} q) =
    runs_dry {p = p} q.none_free q.all_taken q.clean (wanted (start.budget - s.left) p q.wanted)

-- ---- the delivery

-- a disciplined program, which may be frugal or not
module _ (p : Program) (disciplined : ProgramDisciplined p) (careful : Bool)
    (frugal : careful ≡ true → ProgramFrugal p)
    (readings : List ℤ) (short : FitsCell readings) (budget : ℕ) (σ : Store) (rests : Rests p.depth σ) where
  abbrev d : ℕ
  d = p.depth

  abbrev pub old : ℤ
  old = σ.totals

  -- the reference of the totals' place
  abbrev pub held : List ℕ
  held = named_by d (old ∷ [])

  abbrev pub values : List Value
  values = value_of σ d old ∷ (numbers readings ∷ [])

  abbrev pub meter : Meter
  meter = record { left = budget; trace = [] }

  abbrev pub meant : Outcome Meter Value
  meant = running p 32 0 values meter

  abbrev pub start : Start
  start = record { budget = budget; store = σ; frugal = careful }

  pub begun : Together start (starting budget σ) meter
  unfolding starting touched replayed
  begun = record {
    left = refl;
    metered = omega arith;
    clean = record { untouched = refl; replays = refl; cells = refl; levels = free_list_length σ };
  }

  -- no cell is free for the readings
  none_free : has_free σ ≡ false → Delivers start d (stop 25 (with_roots (starting budget σ) held))
      meant
  unfolding with_roots starting touched replayed
  none_free e = runs_dry e (record {
    taken = λ c h. none_left rests.holds e c h;
    in_use = λ f. record {
      none_free = e;
      all_taken = λ c h. none_left rests.holds e c h;
      in_use = λ c h. reached rests.holds c h;
    };
  })
      (record { untouched = refl; replays = refl; cells = refl; levels = free_list_length σ })
      (let none_taken : 0 ≡ budget - budget = omega arith in
      subst (λ (k : ℕ). wants_cell k meant ≡ true) none_taken refl)

  module _ (free : has_free σ ≡ true) where
    abbrev c : ℕ
    c = σ.first

    pub acquires : Acquires σ (acquired 0 readings σ) 0 readings [] held
    acquires = Store_acquire.acquire 0 readings rests.holds free (omega (arith, short)) (omega arith)
        (λ r h. absurd (none_in r h))

    -- the state before main
    abbrev pub ready : State
    ready = retained_array d old (after_acquire 0 readings (starting budget σ))

    pub main_begins : WordRetained start d old [] (c ∷ held) (after_acquire 0 readings (starting budget σ)) ready meter
    unfolding starting with_store
    main_begins = word_retained d old (acquire_together 0 readings acquires.taken begun) acquires.holds
        (λ h. omega (arith, names_one d old h, one_more (cell_of old) c held))
        (record { few = λ k. omega (arith, none_here k, one_more k c held, named_few k d old) })

    totals_stand : StandsFor ready.store d old (value_of σ d old)
    unfolding starting with_store
    totals_stand = stands_kept (rests_stands rests) (λ r h. (
      alike_trans (acquires.alike r (held_used rests.holds r h)) (main_begins.alike r),
      held_used main_begins.invariant r (in_append_left r held (c ∷ held) h),
    ))

    readings_stand : StandsFor ready.store 1 (pos c) (numbers readings)
    unfolding starting with_store value_of cell_of
    readings_stand = stands_kept
        (cell_stands 0 (pos c) (numbers readings) acquires.value (rw acquires.new (filled_count 0 readings))
        (ap (λ (y : Cell). y.depth) acquires.new ∙ filled_depth 0 readings))
        (λ r h. (
          main_begins.alike r,
          held_used main_begins.invariant r (in_append_right r held (c ∷ held)
              (omega (arith, h, occurrences_append r (c ∷ []) held))),
        ))

    -- main owns its parameters
    owned : owned_cells p 0 (old ∷ (pos c ∷ [])) ≡ named_all (p.signatures 0).parameters (old ∷ (pos c ∷ []))
    owned = ap₂ {C = List ℕ} named_all
        (picked_all _ 0 (p.signatures 0).parameters owns) (picked_all _ 0 (old ∷ (pos c ∷ [])) owns)
      where
        owns : (i : ℕ) → not (p.borrowing 0 i) ≡ true
        owns i = ap not (disciplined.owns i)

    none_borrowed : borrowed_cells p 0 (old ∷ (pos c ∷ [])) ⊆ held
    none_borrowed r h = absurd (none_in r (subst (λ (l : List ℕ). r ∈ l) empty h))
      where
        empty : borrowed_cells p 0 (old ∷ (pos c ∷ [])) ≡ []
        empty = ap (λ (l : List ℕ). named_all l (picked (p.borrowing 0) 0 (old ∷ (pos c ∷ []))))
            (picked_none (p.borrowing 0) 0 (p.signatures 0).parameters disciplined.owns)

    holds : owned_cells p 0 (old ∷ (pos c ∷ [])) ++ held ≡ held ++ (c ∷ held)
    unfolding cell_of
    holds = ap (λ (l : List ℕ). l ++ held) owned
        ∙ ap (λ (l : List ℕ). named_all l (old ∷ (pos c ∷ [])) ++ held) disciplined.takes
        ∙ append_assoc held (c ∷ []) held

    -- main may be called
    pub main_ready : CallReady (setting p start 32 (λ _. 0)) 0 (old ∷ (pos c ∷ [])) values [] held ready.store
    main_ready = record {
      there = disciplined.some;
      arguments = subst (λ (l : List ℕ). Arguments ready.store l (old ∷ (pos c ∷ [])) values)
          (sym disciplined.takes) (more totals_stand (more readings_stand none));
      lent = none_borrowed;
      holds = subst (λ (l : List ℕ). Invariant ready.store [] l) (sym holds) main_begins.invariant;
      room = subst (λ (l : List ℕ). Room [] l (call_adds * 32)) (sym holds) (record {
        few = λ k. omega (
          arith,
          none_here k,
          one_more k c held,
          named_few k d old,
          occurrences_append k held (c ∷ held),
        );
      });
    }

    pub main_sound : Agree start (Returned start d ready.store [] held)
        (machine p 32 held 0 (old ∷ (pos c ∷ [])) ready) meant
    main_sound = subst (λ (k : ℕ). Agree start (Returned start k ready.store [] held)
        (machine p 32 held 0 (old ∷ (pos c ∷ [])) ready) meant) disciplined.gives
        (call_sound p disciplined start frugal 32 (λ _. 0) 0 (old ∷ (pos c ∷ [])) values [] held held
        ready meter main_ready.there main_begins.together main_ready.arguments main_ready.lent
        main_ready.holds main_ready.room (λ f r h. h))

  -- what follows once the readings have a cell
  abbrev after_readings : ℤ → Work (Unit {0})
  after_readings c = if_array d (retain_word old) >>
      (machine p 32 held 0 (old ∷ (c ∷ [])) >>= put_result d old)

  pub delivery_sound : Delivers start d (delivery p readings (starting budget σ)) meant
  unfolding delivery acquire acquire_if onward starting
  delivery_sound = go (has_free σ) refl
    where
      go : (b : Bool) → has_free σ ≡ b →
          Delivers start d (onward after_readings (acquire_if b held 0 readings (starting budget σ))) meant
      go false e = none_free e
      go true e = subst (λ (o : Outcome State (Unit {0})).
          Delivers start d (onward (λ _. machine p 32 held 0 (old ∷ (pos σ.first ∷ []))
          >>= put_result d old) o) meant)
          (sym (retains_array d old (after_acquire 0 readings (starting budget σ)))) (finish d old (main_sound e))

-- what a script's code does is what main means
pub script_delivery : (fs : Script) {start : Start} {d : ℕ} {o : Outcome State (Unit {0})} (v w : Value) (budget : ℕ) →
    Delivers start d o (running (program fs) 32 0 (v ∷ (w ∷ [])) (record { left = budget; trace = [] })) →
    Delivers start d o (main_meaning fs v w budget)
unfolding main_meaning
script_delivery fs {start} {d} {o} v w budget q = subst (λ (p : Outcome Meter Value). Delivers start d o p)
    (running_is_meaning fs 32 0 (v ∷ (w ∷ [])) (record { left = budget; trace = [] })) q

-- ---- what follows for the demands

-- whatever came of a delivery, no free cell was touched, and the free list moved by acquisitions and releases alone
pub delivers_clean : {start : Start} {d : ℕ} {o : Outcome State (Unit {0})} {p : Outcome Meter Value} →
    Delivers start d o p → Clean start (state_of o)
delivers_clean (finishes q) = q.clean
delivers_clean (stops q) = q.clean
delivers_clean (runs_dry empty out clean wants) = clean

-- what demand 2 asks of frugal code
pub delivers_does : {start : Start} {d : ℕ} {o : Outcome State (Unit {0})} {p : Outcome Meter Value} →
    start.frugal ≡ true → Delivers start d o p → Does d start.budget o p
delivers_does {d = d} f (finishes {s = s} q) =
    (q.left, subst (λ w. AtRest d s.store w) q.value (at_rest q.rests))
delivers_does f (stops q) = inl (q.number, q.left)
delivers_does f (runs_dry {p = done v m} empty out clean wants) = (refl, wants, out.in_use f)
delivers_does f (runs_dry {p = stop n m} empty out clean wants) = inr (refl, wants, out.in_use f)
