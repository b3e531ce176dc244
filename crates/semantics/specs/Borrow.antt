-- Document 02, order 7: the parameters that are only read. A parameter is borrowed if its function only reads it or
-- passes it at a borrowed place. The table starts all borrowed, but for main's, and is worked until nothing changes.
use Rattle.std.specs.Prelude.{ℕ, zero, suc, Bool, true, false, cond, not, ◌&&◌, List, [], ◌∷◌, get_or, eqb}
use Rattle.semantics.specs.Basics.{tabulate}
use Rattle.semantics.specs.Kinds.{Borrowing, leaf_hands, loop_hands}
use Rattle.semantics.specs.Syntax.{Script, function_at}
use Rattle.semantics.specs.Code.{Line, leaf, if_else, loop, retain, release, Tree, end, line}
use Rattle.semantics.specs.Live.{Set, empty, ◌∪◌, only, is, among}
use Rattle.semantics.specs.Normal.{normal_body}

-- over the places that are borrowed
module _ (B : Borrowing) where
  unfoldable mutual
    -- the names that a tree hands over, retains or releases
    pub spent : Tree → Set
    spent (end a) = is a
    spent (line l t) = line_spent l ∪ spent t

    pub line_spent : Line → Set
    line_spent (leaf x l us) = among (leaf_hands B l us) empty
    line_spent (if_else x g t e) = spent t ∪ spent e
    line_spent (loop x k ps us t) = among (loop_hands k us) empty ∪ spent t
    line_spent (retain x) = only x
    line_spent (release x) = only x

-- thirty-two functions by eight parameters
abbrev pub Table : Type 0
Table = List (List Bool)

abbrev pub borrows : Table → Borrowing
borrows T f i = get_or (get_or T f []) i false

unfoldable pub all_borrowed : Table
all_borrowed = tabulate 0 32 (λ f. tabulate 0 8 (λ i. true))

-- one round: an entry stays if it is not main's and its function does not spend that parameter
unfoldable pub reworked : Script → Table → Table
reworked fs T =
    tabulate 0 32 (λ f. let t = normal_body (function_at fs f) in
    tabulate 0 8 (λ i. borrows T f i && (not (eqb f 0) && not (spent (borrows T) t i))))

abbrev pub same : Bool → Bool → Bool
same true b = b
same false b = not b

abbrev pub same_row : List Bool → List Bool → Bool
same_row [] [] = true
same_row [] (b ∷ l) = false
same_row (a ∷ k) [] = false
same_row (a ∷ k) (b ∷ l) = same a b && same_row k l

abbrev pub same_table : Table → Table → Bool
same_table [] [] = true
same_table [] (l ∷ U) = false
same_table (k ∷ T) [] = false
same_table (k ∷ T) (l ∷ U) = same_row k l && same_table T U

-- at most n rounds, until one changes nothing
unfoldable pub worked_out : ℕ → Script → Table → Table
worked_out zero fs T = T
worked_out (suc n) fs T = let U = reworked fs T in cond (same_table T U) T (worked_out n fs U)

-- every round but the last takes one of 256 entries away
unfoldable pub borrowed : Script → Table
borrowed fs = worked_out 257 fs all_borrowed
