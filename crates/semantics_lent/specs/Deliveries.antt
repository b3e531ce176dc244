-- Document 02, order 10: what is seen of deliveries by lent code, as computed rows.
use Rattle.std.specs.Prelude.{ℕ, ◌-◌, ◌≡◌, cond, List, [], ◌∷◌, ◌++◌, ℤ, pos, replicate}
use Rattle.semantics.specs.Outcome.{Outcome, done, stop}
use Rattle.semantics.specs.Value.{Value, num, numbers, first_totals}
use Rattle.semantics.specs.Code.{Row, row}
use Rattle.semantics.specs.Store.{Store, opened, cells_taken}
use Rattle.semantics.specs.Words.{slot_words, head_words}
use Rattle.semantics.specs.Sound.{sound}
use Rattle.semantics.specs.Meaning.{Meter}
use Rattle.semantics.specs.Machine.{Program, delivery, starting, state_of, delivered_by}
use Rattle.semantics.specs.Plain.{main_running}
use Rattle.semantics.specs.Calls.{packed, StoreReply}
use Rattle.semantics.specs.Demands.{value_of, touched}
use Rattle.semantics_lent.specs.Calls.{judged_code, engine_deliver_code}
use Rattle.semantics_lent.specs.Codes.{kinds_of, operands_of, at_line, least_main}

-- ---- what is seen of deliveries

pub record Seen : Type 0 where
  -- the answers, and those of the code worked on values, with the levels and cells of the deliveries
  pub answers : List ℕ
  pub meant : List ℕ
  pub touched : List ℕ
  pub totals : Value
  pub check : ℕ

abbrev pub meant_answer : ℕ → ℕ → ℕ → Outcome Meter Value → ℕ
meant_answer budget lowest cells (done v m) = packed 0 lowest (budget - m.left) cells
meant_answer budget lowest cells (stop n m) = packed n lowest (budget - m.left) cells

-- the totals' value after a run on values
abbrev pub value_after_run : Value → Outcome Meter Value → Value
value_after_run v (done w m) = w
value_after_run v (stop n m) = v

-- some deliveries by a program, with 1,000 steps each
module _ (P : Program) where
  unfoldable pub seen_by : List (List ℤ) → Store → Value → Seen
  seen_by [] σ v = record {
    answers = [];
    meant = [];
    touched = [];
    totals = value_of σ P.depth σ.totals;
    check = cond (sound P.depth σ) 0 11;
  }
  seen_by (readings ∷ rest) σ v =
      let o = delivery P readings (starting 1000 σ) in
      let r = delivered_by 1000 σ o in
      let m = main_running P v (numbers readings) 1000 in
      let s = seen_by rest r.store (value_after_run v m) in
      record {
        answers = packed r.number r.lowest r.steps (cells_taken r.store) ∷ s.answers;
        meant = meant_answer 1000 r.lowest (cells_taken r.store) m ∷ s.meant;
        touched = touched (state_of o).log ++ s.touched;
        totals = s.totals;
        check = s.check;
      }

abbrev pub seen_judged : ℕ → List (List ℤ) → Outcome ℕ Program → Seen
seen_judged cells os (done P n) = seen_by P os (opened cells P.depth) (first_totals P.depth)
seen_judged cells os (stop n p) =
    record { answers = packed n p 0 0 ∷ []; meant = []; touched = []; totals = num (pos 0); check = n }

unfoldable pub seen_lent : ℕ → ℕ → List Row → List (List ℤ) → Seen
seen_lent d cells rs os = seen_judged cells os (judged_code (kinds_of rs) (operands_of rs) d)

-- nothing touched, a sound store, and the answers that the code means
abbrev pub as_meant : List ℕ → Value → Seen
as_meant answers totals = record { answers = answers; meant = answers; touched = []; totals = totals; check = 0 }

-- main(t: 1, r: 1): 1 = f(r); f(a: 1): 1 = {length(a), length(a)}, as the translator writes it: main keeps r through
-- the call. And tuned: f releases a before it takes its cell, so that one cell more is free, and main does not.
unfoldable pub kept_by_main : List Row
kept_by_main =
    row 0 258 ∷ row 1 256 ∷ row 1 257 ∷ row 15 0 ∷ row 8 258 ∷ row 3 1 ∷ row 15 1 ∷ row 16 0 ∷ row 3 2 ∷
    row 0 257 ∷ row 1 256 ∷ row 11 1 ∷ row 3 0 ∷ row 11 2 ∷ row 3 0 ∷ row 9 515 ∷ row 3 1 ∷ row 3 2 ∷ row 16 0 ∷
    row 3 3 ∷ []

unfoldable pub released_earlier : List Row
released_earlier =
    row 0 258 ∷ row 1 256 ∷ row 1 257 ∷ row 15 0 ∷ row 8 258 ∷ row 3 1 ∷ row 16 0 ∷ row 3 2 ∷
    row 0 257 ∷ row 1 256 ∷ row 11 1 ∷ row 3 0 ∷ row 11 2 ∷ row 3 0 ∷ row 15 0 ∷ row 9 515 ∷ row 3 1 ∷ row 3 2 ∷
    row 16 0 ∷ row 3 3 ∷ []

-- main(t: 2, r: 1): 2 = let y = {r} in let z = y[0] in {}, without the retain and the release of z
unfoldable pub never_retained : List Row
never_retained =
    row 0 514 ∷ row 1 512 ∷ row 1 257 ∷ row 15 0 ∷ row 9 65794 ∷ row 3 1 ∷ row 10 3 ∷ row 3 2 ∷ row 2 0 ∷ row 15 2 ∷
    row 9 65540 ∷ row 16 0 ∷ row 3 4 ∷ []

-- main(t: 0, r: 1): 0 = f(t, r), with parameters 7 and 3 of f, which gives length(a) + n
unfoldable pub other_names : List Row
other_names =
    row 0 2 ∷ row 1 0 ∷ row 1 257 ∷ row 8 258 ∷ row 3 0 ∷ row 3 1 ∷ row 15 1 ∷ row 16 0 ∷ row 3 2 ∷
    row 0 2 ∷ row 1 7 ∷ row 1 259 ∷ row 11 0 ∷ row 3 3 ∷ row 4 1 ∷ row 3 0 ∷ row 3 7 ∷ row 16 0 ∷ row 3 1 ∷ []

unfoldable pub lent_deliveries : Type 0
lent_deliveries =
    seen_lent 1 3 kept_by_main ((pos 5 ∷ []) ∷ (pos 5 ∷ pos 6 ∷ []) ∷ []) ∷
    seen_lent 1 3 released_earlier ((pos 5 ∷ []) ∷ (pos 5 ∷ pos 6 ∷ []) ∷ []) ∷
    seen_lent 2 4 never_retained ((pos 5 ∷ []) ∷ [] ∷ []) ∷
    seen_lent 0 2 other_names ((pos 5 ∷ pos 9 ∷ []) ∷ (pos 1 ∷ []) ∷ []) ∷ []
    ≡
    as_meant (packed 0 0 4 1 ∷ packed 0 0 4 1 ∷ []) (numbers (pos 2 ∷ pos 2 ∷ [])) ∷
    as_meant (packed 0 1 4 1 ∷ packed 0 1 4 1 ∷ []) (numbers (pos 2 ∷ pos 2 ∷ [])) ∷
    as_meant (packed 0 1 3 1 ∷ packed 0 1 3 1 ∷ []) (numbers []) ∷
    as_meant (packed 0 1 3 0 ∷ packed 0 1 3 0 ∷ []) (num (pos 3)) ∷ []

-- ---- every lent word

-- a delivery by lent code on the words of a store
abbrev pub deliver_lent : List Row → ℕ → List ℤ → List ℕ → List ℤ → ℕ → StoreReply
deliver_lent rs d slots heads readings budget =
    engine_deliver_code (kinds_of rs) (operands_of rs) d slots heads readings budget

abbrev pub as_found : ℕ → List Row → List ℤ → List ℕ → StoreReply
as_found answer rs slots heads =
    record { answer = answer; kinds = kinds_of rs; operands = operands_of rs; slots = slots; heads = heads }

abbrev pub too_many : List ℤ
too_many = replicate 17 (pos 1)

-- two cells just opened for totals of depth 1
abbrev pub slots_opened : List ℤ
slots_opened = slot_words (opened 2 1)

abbrev pub heads_opened : List ℕ
heads_opened = head_words (opened 2 1)

-- 29 comes before 10, 10 before 11; all leave every word, and so does a stop, here 25, on a store just opened
unfoldable pub lent_words : Type 0
lent_words =
    deliver_lent least_main 1 (pos 9 ∷ []) [] too_many 5 ∷ deliver_lent least_main 0 (pos 9 ∷ []) [] too_many 5 ∷
    deliver_lent least_main 0 (pos 9 ∷ []) (4 ∷ []) [] 1000001 ∷ deliver_lent least_main 0 (pos 9 ∷ []) (4 ∷ []) [] 5 ∷
    deliver_lent kept_by_main 1 slots_opened heads_opened (pos 5 ∷ []) 9 ∷ []
    ≡
    as_found (at_line 0) least_main (pos 9 ∷ []) [] ∷ as_found (packed 10 0 0 0) least_main (pos 9 ∷ []) [] ∷
    as_found (packed 10 0 0 0) least_main (pos 9 ∷ []) (4 ∷ []) ∷
    as_found (packed 11 0 0 0) least_main (pos 9 ∷ []) (4 ∷ []) ∷
    as_found (packed 25 0 4 1) kept_by_main slots_opened heads_opened ∷ []
