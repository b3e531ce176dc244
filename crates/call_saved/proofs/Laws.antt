-- One law for each way out of the store's part of a restore.
use Rattle.prelude.specs.Kit.{ℕ, ◌≤◌, arith, true, false, Bool, cond, ◌&&◌, ◌≡◌, refl, ◌∙◌, sym, ap, subst, some, none}
use Rattle.prelude.specs.Kit.{Option, List, eqb, leb, ℤ, length, get_or, set, length-set, eqb-true, leb-true}
use Rattle.std.specs.Prelude.{Option as Maybe, Some, None}
use Rattle.semantics.specs.Outcome.{Outcome, done, stop, onward}
use Rattle.semantics.specs.Value.{Value}
use Rattle.semantics.specs.Store.{Store, zeroed, relinked, opened, with_totals, cells_taken}
use Rattle.semantics.specs.Words.{cells_in, store_of, shaped}
use Rattle.semantics.specs.Saved.{saved_length, stated_count, labelled, value_at, all_read, read_saved, load_value}
use Rattle.semantics.specs.Saved.{load_totals, loaded}
use Rattle.laws.specs.Tests.{both_hold}
use Rattle.laws.specs.Levels.{none_taken}
use Rattle.store_words.proofs.Puts.{LengthsKept, cells_kept, totals_store}
use Rattle.store_words.proofs.Spelling.{shaped_means}
use Rattle.saved_read.specs.Told.{is_there, readable}
use Rattle.saved_load.specs.Entries.{Place, place, load_at, Ended}
use Rattle.saved_load.specs.declared.Loaded.{Loaded}
use Rattle.saved_load.proofs.Laws.{Stopped, ended_some, ended_none}
use Rattle.saved_load.proofs.Agreement.{Same, load_same}
use Rattle.answers.specs.declared.Refusal.TheVariants.{UnsoundStore, BadSaveFile}
use Rattle.call_store.specs.Left.{answered, refused, left, left_by}
use Rattle.call_store.proofs.Laws.{words_left}
use Rattle.call_saved.specs.Left.{restored_by, restored_left}

-- ---- a file that can be read

pub record Reads (d : ℕ) (file : List ℕ) : Type 0 where
  pub value : Value
  pub is : read_saved d file ≡ some value
  pub few : stated_count file ≤ 4096
  pub entries : value_at file (stated_count file) d 0 ≡ done value (stated_count file)

few_entries : (d : ℕ) (file : List ℕ) → labelled d file ≡ true → stated_count file ≤ 4096
unfolding labelled
few_entries d file e =
    let k = stated_count file in
    let a = both_hold (leb 3 (length file)) (eqb (get_or file 0 0) d && (leb k 4096 && eqb (length file) (saved_length
    k))) e in
    let b = both_hold (eqb (get_or file 0 0) d) (leb k 4096 && eqb (length file) (saved_length k)) a.1 in
    leb-true k 4096 (both_hold (leb k 4096) (eqb (length file) (saved_length k)) b.1).0

pub can_read : (d : ℕ) (file : List ℕ) → readable d file ≡ true → Reads d file
unfolding readable read_saved
can_read d file = by (labelled d file) refl (value_at file k d 0) refl
  where
    k : ℕ
    k = stated_count file

    last : (v : Value) (p : ℕ) → labelled d file ≡ true → value_at file k d 0 ≡ done v p → (b : Bool) → eqb p k ≡ b →
        is_there (cond b (some v) none) ≡ true → Reads d file
    last v p l e true f g =
        let end = eqb-true p k f in
        record {
          value = v;
          is = rw (l, e, f) refl;
          few = few_entries d file l;
          entries = e ∙ ap (λ (j : ℕ). done v j) end;
        }
    last v p l e false f g = absurd (let z : ◌≡◌ {A = ℕ} 0 1 = cc in omega arith)

    by : (b : Bool) → labelled d file ≡ b → (o : Outcome ℕ Value) → value_at file k d 0 ≡ o →
        is_there (cond b (all_read file k o) none) ≡ true → Reads d file
    by false l o e g = absurd (let z : ◌≡◌ {A = ℕ} 0 1 = cc in omega arith)
    by true l (stop n p) e g = absurd (let z : ◌≡◌ {A = ℕ} 0 1 = cc in omega arith)
    by true l (done v p) e g = last v p l e (eqb p k) refl g

cannot_read : (d : ℕ) (file : List ℕ) → readable d file ≡ false → read_saved d file ≡ none
unfolding readable
cannot_read d file = by (read_saved d file)
  where
    by : (o : Option Value) → is_there o ≡ false → o ≡ none
    by none e = refl
    by (some v) e = absurd (let z : ◌≡◌ {A = ℕ} 0 1 = cc in omega arith)

-- ---- refusals

module _ (d : ℕ) (saved : List ℕ) (slots : List ℤ) (heads : List ℕ) where
  pub misshapen : shaped slots heads ≡ false → left (refused UnsoundStore) slots heads ≡ restored_left d saved slots heads
  unfolding restored_left
  misshapen e = rw e

  pub mislabelled : shaped slots heads ≡ true → readable d saved ≡ false →
      left (refused BadSaveFile) slots heads ≡ restored_left d saved slots heads
  unfolding restored_left
  mislabelled e f = rw (e, cannot_read d saved f) refl

-- ---- loading

-- lengths that fit, a file that can be read, and its value loaded into the store σ just opened, where f cells are free
pub record Loads (d : ℕ) (saved : List ℕ) (slots : List ℤ) (heads : List ℕ) (f : ℕ) (σ : Store) (r : Maybe Loaded)
    (slots' : List ℤ) (heads' : List ℕ) : Type 0 where
  pub fit : shaped slots heads ≡ true
  pub can : readable d saved ≡ true
  pub opens : σ ≡ opened (cells_in slots heads) 0
  pub kept : LengthsKept slots heads slots' heads'
  pub ended : Ended (load_at saved (stated_count saved) d (place 0 f σ)) r (store_of slots' heads')

pub loading : {d : ℕ} {saved : List ℕ} {slots : List ℤ} {heads : List ℕ} {f : ℕ} {σ : Store} {r : Maybe Loaded}
    {slots' : List ℤ} {heads' : List ℕ} (k : ℕ) → shaped slots heads ≡ true → readable d saved ≡ true →
    σ ≡ opened (cells_in slots heads) 0 → LengthsKept slots heads slots' heads' → k ≡ stated_count saved →
    Ended (load_at saved k d (place 0 f σ)) r (store_of slots' heads') → Loads d saved slots heads f σ r slots' heads'
loading {d} {saved} {f = f} {σ = σ} {r = r} {slots' = slots'} {heads' = heads'} k fit can opens kept e h = record {
  fit = fit;
  can = can;
  opens = opens;
  kept = kept;
  ended = subst (λ (j : ℕ). Ended (load_at saved j d (place 0 f σ)) r (store_of slots' heads')) e h;
}

-- a word as the totals of a store
abbrev finished : ℤ → Store → Outcome Store (Unit {0})
finished w σ = done tt (with_totals σ w)

module _ {d : ℕ} {saved : List ℕ} {slots : List ℤ} {heads : List ℕ} {f : ℕ} {σ : Store} {r : Maybe Loaded} {slots' : List ℤ}
    {heads' : List ℕ} (l : Loads d saved slots heads f σ r slots' heads') where
  abbrev n : ℕ
  n = cells_in slots heads

  abbrev k : ℕ
  k = stated_count saved

  -- loading by entries
  abbrev run : Outcome Place ℤ
  run = load_at saved k d (place 0 f σ)

  read : Reads d saved
  read = can_read d saved l.can

  -- loading the value
  abbrev meant : Outcome Store ℤ
  meant = load_value d read.value (relinked (zeroed n))

  restored_is : restored_left d saved slots heads ≡ restored_by n (loaded n d read.value)
  unfolding restored_left
  restored_is = rw (l.fit, read.is) refl

  -- the two from the store just opened
  side : Same k run meant
  unfolding opened
  side = subst (λ (τ : Store). Same k run (load_value d read.value τ)) l.opens
      (load_same saved k d 0 k read.value read.entries f σ)

  loads : (w : ℤ) (q g : ℕ) (τ : Store) → run ≡ done w (place q g τ) → loaded n d read.value ≡ finished w τ
  unfolding loaded load_totals onward
  loads w q g τ e = by meant (subst (λ (o : Outcome Place ℤ). Same k o meant) e side)
    where
      by : (o : Outcome Store ℤ) → Same k (done w (place q g τ)) o → onward finished o ≡ finished w τ
      by (done u υ) h = rw (h.0, h.2) refl
      by (stop m υ) h = absurd h

  runs_dry : Stopped run → restored_by n (loaded n d read.value) ≡ left_by 25 0 0 (zeroed n)
  unfolding loaded load_totals onward
  runs_dry h = by meant (subst (λ (o : Outcome Place ℤ). Same k o meant) h.is side)
    where
      by : (o : Outcome Store ℤ) → Same k (stop 25 h.at) o →
          restored_by n (onward finished o) ≡ left_by 25 0 0 (zeroed n)
      by (done u υ) g = absurd g
      by (stop m υ) g = ap (λ (j : ℕ). left_by j 0 0 (zeroed n)) g

  -- the word as the totals
  pub restores : (v : Loaded) → r ≡ Some v → (s : List ℤ) → s ≡ set slots' 0 v.word → (m : ℕ) →
      m ≡ cells_taken (store_of s heads') → left (answered 0 0 0 m) s heads' ≡ restored_left d saved slots heads
  restores v e s put m counted =
      words_left
      (record {
        slots_long = ap length put ∙ length-set slots' 0 v.word ∙ l.kept.slots_long;
        heads_long = l.kept.heads_long;
      })
      l.fit
      (ap (λ (y : List ℤ). store_of y heads') put ∙ totals_store slots' heads' v.word
      (omega (arith, l.kept.slots_long, (shaped_means slots heads l.fit).slots_long)))
      counted
      ∙ sym (restored_is ∙ ap (restored_by n)
      (loads v.word v.next v.free (store_of slots' heads')
      (ended_some run v (store_of slots' heads') (subst (λ (o : Maybe Loaded). Ended run o (store_of slots' heads')) e l.ended))))

  -- all words zero
  pub clears : r ≡ None → {slots'' : List ℤ} {heads'' : List ℕ} → LengthsKept slots' heads' slots'' heads'' →
      store_of slots'' heads'' ≡ zeroed (cells_in slots' heads') →
      left (answered 25 0 0 0) slots'' heads'' ≡ restored_left d saved slots heads
  clears e kept zero_words =
      let zeros = zero_words ∙ ap zeroed (cells_kept l.kept) in
      words_left
      (record {
        slots_long = kept.slots_long ∙ l.kept.slots_long;
        heads_long = kept.heads_long ∙ l.kept.heads_long;
      })
      l.fit zeros (sym (ap cells_taken zeros ∙ none_taken n))
      ∙ sym (restored_is ∙ runs_dry (ended_none run (store_of slots' heads')
      (subst (λ (o : Maybe Loaded). Ended run o (store_of slots' heads')) e l.ended)))
