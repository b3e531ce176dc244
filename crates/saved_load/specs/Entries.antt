-- Loading by the entries' numbers: the state is the next entry, how many cells are free, and the store. An entry that
-- is not there stops, as a cell that is wanted does.
use Rattle.std.specs.Prelude.{ℕ, zero, suc, ◌+◌, ◌-◌, cond, ◌≡◌, List, [], ℤ, pos, ltb, Option, Some, None}
use Rattle.semantics.specs.Outcome.{Outcome, done, stop, Run, onward}
use Rattle.semantics.specs.Store.{Store, has_free, acquired, appended}
use Rattle.semantics.specs.Saved.{mark_at, number_at}
use Rattle.saved_load.specs.declared.Loaded.{Loaded}

pub record Place : Type 0 where
  pub next : ℕ
  pub free : ℕ
  pub store : Store

abbrev pub place : ℕ → ℕ → Store → Place
place p n σ = record { next = p; free = n; store = σ }

-- a word put behind a cell's elements
abbrev pub appended_at : ℕ → ℤ → Place → Place
appended_at c w s = place s.next s.free (appended c w s.store)

-- so many elements more in a cell
unfoldable pub fill : Run Place ℤ → ℕ → ℕ → Run Place (Unit {0})
fill load c zero s = done tt s
fill load c (suc n) s = onward (λ w t. fill load c n (appended_at c w t)) (load s)

module _ (file : List ℕ) (k : ℕ) where
  abbrev pub elements_at : ℕ → ℕ
  elements_at p = mark_at file k p - 1

  -- the next entry is past, with a cell acquired for elements of depth d
  abbrev pub acquired_at : ℕ → Place → Place
  acquired_at d s = place (s.next + 1) (s.free - 1) (acquired d [] s.store)

  unfoldable pub load_at : ℕ → Run Place ℤ
  load_at zero s =
      cond (ltb s.next k) (done (number_at file k s.next) (place (s.next + 1) s.free s.store)) (stop 25 s)
  load_at (suc d) s =
      cond (ltb s.next k)
      (cond (has_free s.store)
      (onward (λ _ t. done (pos s.store.first) t)
      (fill (load_at d) s.store.first (elements_at s.next) (acquired_at d s)))
      (stop 25 s))
      (stop 25 s)

abbrev pub value_loaded : ℤ → ℕ → ℕ → Loaded
value_loaded w p n = record { word = w; next = p; free = n }

-- document 01's number and values for each case: a value, or 25
abbrev pub loaded_outcome : Option Loaded → Outcome (Unit {0}) Loaded
loaded_outcome (Some v) = done v tt
loaded_outcome None = stop 25 tt

-- how a load's answer and the store after it show its outcome; after a stop the store is not told
abbrev pub Ended : Outcome Place ℤ → Option Loaded → Store → Type 0
Ended (done w s) r τ = (loaded_outcome r ≡ done (value_loaded w s.next s.free) tt) × (τ ≡ s.store)
Ended (stop n s) r τ = loaded_outcome r ≡ stop n tt

-- of elements: the word is the cell's
abbrev pub Filled : ℕ → Outcome Place (Unit {0}) → Option Loaded → Store → Type 0
Filled c (done _ s) r τ = (loaded_outcome r ≡ done (value_loaded (pos c) s.next s.free) tt) × (τ ≡ s.store)
Filled c (stop n s) r τ = loaded_outcome r ≡ stop n tt
