-- Sites of the definitions' calls: the same deliveries worked at two sites, each swapped when its plan says so, and the
-- theorem of the swap at them.
use Rattle.prelude.specs.Kit.{ℕ, ◌+◌, suc, zero, ◌*◌, true, Bool, ◌&&◌, ◌≡◌, refl, ◌∙◌, sym, subst, ap₂, List, [], ◌∷◌}
use Rattle.prelude.specs.Kit.{eqb, ℤ, pos, replicate, eqb-true}
use Rattle.semantics.specs.Basics.{occurrences}
use Rattle.semantics.specs.Number.{fits}
use Rattle.semantics.specs.Syntax.{Script}
use Rattle.semantics.specs.Calls.{accepted, judged, number_of, StoreReply, engine_open, engine_deliver}
use Rattle.semantics.specs.Ledger.{Delivery}
use Rattle.semantics.specs.Demands.{Call, defined}
use Rattle.semantics.specs.SaveCalls.{SaveReply, engine_save, engine_restore}
use Rattle.semantics.specs.Swap.{Words64, defined_saving, by_open, file_in, Swapped, Site, rests, works, swaps, Running}
use Rattle.semantics.specs.Swap.{Pair, calls_here, calls_there, value_in}
use Rattle.laws.specs.Tests.{both_hold}
use Rattle.laws.specs.Files.{same_script}
use Rattle.soundness.proofs.saved.Swapping.{swap}
use Rattle.soundness.proofs.saved.Stories.{numbers_of, never_dry, shown_here, shown_there, same_shown}

-- a delivery of these readings at two sites, before which the one is swapped into stores of so many cells, in turn, and
-- the other into stores of so many
pub record Planned : Type 0 where
  pub readings : List ℤ
  pub here : List ℕ
  pub there : List ℕ

-- ---- words of 64 bits

unfoldable pub all_fit : List ℤ → Bool
all_fit [] = true
all_fit (w ∷ ws) = fits w && all_fit ws

fits_at : (ws : List ℤ) → all_fit ws ≡ true → Words64 ws
unfolding all_fit
fits_at [] e i = refl
fits_at (w ∷ ws) e zero = (both_hold (fits w) (all_fit ws) e).0
fits_at (w ∷ ws) e (suc i) = fits_at ws (both_hold (fits w) (all_fit ws) e).1 i

-- ---- one site

-- lent a file, two code arrays and a buffer
module _ (file kinds : List ℕ) (operands : List ℤ) (buffer : List ℕ) where
  abbrev saving : StoreReply → SaveReply
  saving r = engine_save file kinds operands r.slots r.heads buffer

  -- swapped into a store of n cells, with old words in it
  abbrev moved : ℕ → StoreReply → StoreReply
  moved n r = engine_restore file kinds operands (replicate (1 + 16 * n) (pos 7)) (replicate (1 + 4 * n) 7)
      (file_in (saving r).saved)

  unfoldable pub moved_through : List ℕ → StoreReply → StoreReply
  moved_through [] r = r
  moved_through (n ∷ ns) r = moved_through ns (moved n r)

  -- save and restore answer 0
  unfoldable pub movable : List ℕ → StoreReply → Bool
  movable [] r = true
  movable (n ∷ ns) r =
      (all_fit r.slots && (eqb (number_of (saving r).answer) 0 && eqb (number_of (moved n r).answer) 0))
      && movable ns (moved n r)

  -- its swaps, and then the rest of a site
  moves : (ns : List ℕ) (r : StoreReply) {cs : List Call} {last : StoreReply} → movable ns r ≡ true →
      Site defined_saving file (moved_through ns r) cs last → Site defined_saving file r cs last
  unfolding moved_through movable defined_saving
  moves [] r h site = site
  moves (n ∷ ns) r h site = swaps swapped (moves ns (moved n r) parts.1 site)
    where
      parts : (all_fit r.slots && (eqb (number_of (saving r).answer) 0 && eqb (number_of (moved n r).answer) 0)
          ≡ true) × (movable ns (moved n r) ≡ true)
      parts = both_hold _ _ h

      answers : (eqb (number_of (saving r).answer) 0 ≡ true) × (eqb (number_of (moved n r).answer) 0 ≡ true)
      answers = both_hold _ _ (both_hold (all_fit r.slots) _ parts.0).1

      swapped : Swapped defined_saving file r (moved n r)
      swapped = record {
        kinds = kinds;
        operands = operands;
        buffer = buffer;
        saving = saving r;
        saves = (fits_at r.slots (both_hold (all_fit r.slots) _ parts.0).0, refl);
        saved = eqb-true _ 0 answers.0;
        kinds' = kinds;
        operands' = operands;
        slots' = replicate (1 + 16 * n) (pos 7);
        heads' = replicate (1 + 4 * n) 7;
        restores = refl;
        restored = eqb-true _ 0 answers.1;
      }

  -- ---- a plan, and which of its swaps are this site's

  abbrev lent : List ℤ → Delivery
  lent readings = record { kinds = kinds; operands = operands; readings = readings; budget = 1000 }

  -- the store on which a planned delivery is worked, and its reply
  abbrev replied : List ℕ → List ℤ → StoreReply → StoreReply
  replied ns readings r =
      let q = moved_through ns r in
      engine_deliver file kinds operands q.slots q.heads readings 1000

  module _ (mine : Planned → List ℕ) (after : List ℕ) where
    unfoldable pub calls_of : List Planned → StoreReply → List Call
    calls_of [] r = []
    calls_of (x ∷ xs) r =
        let q = replied (mine x) x.readings r in
        record { lent = lent x.readings; reply = q } ∷ calls_of xs q

    -- where the site ends, swapped once more into stores of so many cells
    unfoldable pub end_of : List Planned → StoreReply → StoreReply
    end_of [] r = moved_through after r
    end_of (x ∷ xs) r = end_of xs (replied (mine x) x.readings r)

    unfoldable pub all_movable : List Planned → StoreReply → Bool
    all_movable [] r = movable after r
    all_movable (x ∷ xs) r = movable (mine x) r && all_movable xs (replied (mine x) x.readings r)

    site_of : (xs : List Planned) (r : StoreReply) → all_movable xs r ≡ true →
        Site defined_saving file r (calls_of xs r) (end_of xs r)
    unfolding calls_of end_of all_movable defined_saving defined
    site_of [] r h = moves after r h rests
    site_of (x ∷ xs) r h =
        let parts = both_hold (movable (mine x) r) _ h in
        moves (mine x) r parts.0 (works refl (site_of xs (replied (mine x) x.readings r) parts.1))

  -- ---- both sites

  unfoldable pub worked_beside : List Planned → StoreReply → StoreReply → List Pair
  worked_beside [] r q = []
  worked_beside (x ∷ xs) r q =
      let a = replied x.here x.readings r in
      let b = replied x.there x.readings q in
      record { lent = lent x.readings; reply = a; other = b } ∷ worked_beside xs a b

  module _ (after after' : List ℕ) where
    abbrev pub calls_at_here : List Planned → StoreReply → List Call
    calls_at_here = calls_of (λ x. x.here) after

    abbrev pub calls_at_there : List Planned → StoreReply → List Call
    calls_at_there = calls_of (λ x. x.there) after'

    here_same : (xs : List Planned) (r q : StoreReply) → calls_at_here xs r ≡ calls_here (worked_beside xs r q)
    unfolding calls_of worked_beside
    here_same [] r q = refl
    here_same (x ∷ xs) r q = ap₂ {C = List Call} ◌∷◌ refl
        (here_same xs (replied x.here x.readings r) (replied x.there x.readings q))

    there_same : (xs : List Planned) (r q : StoreReply) → calls_at_there xs q ≡ calls_there (worked_beside xs r q)
    unfolding calls_of worked_beside
    there_same [] r q = refl
    there_same (x ∷ xs) r q = ap₂ {C = List Call} ◌∷◌ refl
        (there_same xs (replied x.here x.readings r) (replied x.there x.readings q))

    -- ---- the theorem at a plan, from a store opened in these arrays

    module _ (slots : List ℤ) (heads : List ℕ) (xs : List Planned) where
      abbrev pub opening : StoreReply
      opening = engine_open file kinds operands slots heads

      abbrev pub pairs : List Pair
      pairs = worked_beside xs opening opening

      abbrev pub end_here : StoreReply
      end_here = end_of (λ x. x.here) after xs opening

      abbrev pub end_there : StoreReply
      end_there = end_of (λ x. x.there) after' xs opening

      running : number_of opening.answer ≡ 0 → Running defined_saving file opening
      unfolding defined_saving defined
      running z = record {
        start = opening;
        begins = by_open kinds operands slots heads refl z;
        before = [];
        ran = rests;
      }

      pub same_sites : (fs : Script) → judged file ≡ accepted fs → number_of opening.answer ≡ 0 →
          all_movable (λ x. x.here) after xs opening ≡ true → all_movable (λ x. x.there) after' xs opening ≡ true →
          occurrences 25 (numbers_of (calls_here pairs)) ≡ 0 → occurrences 25 (numbers_of (calls_there pairs)) ≡ 0 →
          (shown_there fs pairs ≡ shown_here fs pairs) × (value_in fs end_there ≡ value_in fs end_here)
      same_sites fs ok z good good' f g =
          let a = swap file opening opening (running z) (running z) in
          let s = a.same refl pairs end_here end_there
          (subst (λ cs. Site defined_saving file opening cs end_here) (here_same xs opening opening)
          (site_of (λ x. x.here) after xs opening good))
          (subst (λ cs. Site defined_saving file opening cs end_there) (there_same xs opening opening)
          (site_of (λ x. x.there) after' xs opening good'))
          (never_dry (calls_here pairs) f) (never_dry (calls_there pairs) g) in
          subst (λ (gs : Script). (shown_there gs pairs ≡ shown_here gs pairs)
          × (value_in gs end_there ≡ value_in gs end_here)) (same_script (sym a.is_accepted ∙ ok))
          (same_shown a.script pairs opening opening s.0, s.1)
