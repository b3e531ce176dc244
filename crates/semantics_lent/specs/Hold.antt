-- Document 02, order 10, the third walk over lent code: how many references each name holds. It is done where form,
-- depths and scope are right, and goes down the lines. The state is the number of the next line; at a stop it is the
-- line at fault.
use Rattle.std.specs.Prelude.{ℕ, zero, suc, ◌+◌, pred, Bool, true, false, cond, not, ◌&&◌, ◌||◌, List, [], ◌∷◌, map, length, get_or, eqb, ltb}
use Rattle.semantics.specs.Basics.{tabulate, all, updated}
use Rattle.semantics.specs.Outcome.{Outcome, ◌>>=◌, ◌>>◌, give}
use Rattle.semantics.specs.Kinds.{picked, Borrowing, leaf_hands, leaf_reads, loop_hands, loop_reads}
use Rattle.semantics.specs.Kinds.{element_name, carried_name, is_pending}
use Rattle.semantics.specs.Code.{Atom, number, name, Line, leaf, if_else, loop, retain, release, Tree, end, line}
use Rattle.semantics.specs.Live.{Set, empty, just, among}
use Rattle.semantics.specs.Annotate.{NameDepths, is_array}
use Rattle.semantics.specs.Borrow.{spent, Table, borrows, all_borrowed, same_table}
use Rattle.semantics_lent.specs.Form.{Test, must, skip, Lent}
use Rattle.semantics_lent.specs.Fit.{no_lent}

-- ---- holds

-- how many references each name holds
abbrev pub Holds : Type 0
Holds = ℕ → ℕ

abbrev pub none_held : Holds
none_held = λ _. 0

-- one reference more, and one less
abbrev pub plus : ℕ → Holds → Holds
plus x H = updated H x (suc (H x))

abbrev pub minus : ℕ → Holds → Holds
minus x H = updated H x (pred (H x))

-- each name holds as many by both
unfoldable pub same_holds : Holds → Holds → Bool
same_holds H I = all (λ n. eqb (H n) (I n)) 0 256

-- A tree that was begun with the holds H, and with the names B lent, leaves the holds I: none on a name bound in it,
-- for such a name held nothing before and was not lent.
unfoldable pub none_bound : Set → Holds → Holds → Bool
none_bound B H I = all (λ n. eqb (I n) 0 || (B n || ltb 0 (H n))) 0 256

-- the holds and the pending names after a line
pub record After : Type 0 where
  pub holds : Holds
  pub pending : Set

-- over the depths of a function's names
module _ (Γ : NameDepths) where
  -- the arrays among some names
  abbrev pub arrays_in : List ℕ → Set
  arrays_in xs = λ n. just xs n && is_array Γ n

  -- names that hold one reference each, if they are arrays
  abbrev pub hold_also : ℕ → Holds → Holds
  hold_also x H = cond (is_array Γ x) (plus x H) H

  abbrev pub hold_all : List ℕ → Holds → Holds
  hold_all [] H = H
  hold_all (x ∷ xs) H = hold_also x (hold_all xs H)

  -- atoms that are handed over: each array among them spends one
  abbrev pub spend_name : ℕ → Holds → Test Holds
  spend_name x H = cond (is_array Γ x) (do must (ltb 0 (H x)); give (minus x H)) (give H)

  unfoldable pub spend : List Atom → Holds → Test Holds
  spend [] H = give H
  spend (number z ∷ us) H = spend us H
  spend (name x ∷ us) H = do I ← spend_name x H; spend us I

  -- atoms that may be read: each array among them is lent or holds one
  abbrev pub readable : Set → Holds → List Atom → Bool
  readable B H [] = true
  readable B H (number z ∷ us) = readable B H us
  readable B H (name x ∷ us) = (not (is_array Γ x) || (B x || ltb 0 (H x))) && readable B H us

  -- the holds while a loop over some atoms works its passes: one of each is set aside, if it is not lent already
  abbrev pub set_aside : Set → List Atom → Holds → Holds
  set_aside B [] H = H
  set_aside B (number z ∷ us) H = set_aside B us H
  set_aside B (name x ∷ us) H = set_aside B us (cond (is_array Γ x && not (B x)) (minus x H) H)

  -- the names that are lent meanwhile
  abbrev pub lending : List Atom → Set → Set
  lending us B = λ n. B n || (among us empty n && is_array Γ n)

-- Over the places that are borrowed, too. A name that is lent, as a borrowed parameter and the array of a loop in its
-- tree, may be read and retained; a pending name may be retained by the next line.
module _ (β : Borrowing) (Γ : NameDepths) where
  unfoldable mutual
    -- A tree, with the names B lent, P pending and the holds H; `ends` is asked of the holds that it leaves, at its end
    -- line. It gives these.
    pub hold_tree : Tree → Set → Set → Holds → (Holds → Bool) → Test Holds
    hold_tree (end a) B P H ends = do
      I ← spend Γ (a ∷ []) H
      must (ends I)
      skip 2
      give I
    hold_tree (line l t) B P H ends = do
      A ← hold_line l B P H
      hold_tree t B A.pending A.holds ends

    pub hold_line : Line → Set → Set → Holds → Test After
    hold_line (leaf x l us) B P H = do
      I ← spend Γ (leaf_hands β l us) H
      must (readable Γ B I (leaf_reads β l us))
      skip (1 + length us)
      give (cond (is_pending l) (record { holds = I; pending = arrays_in Γ (x ∷ []) })
          (record { holds = hold_also Γ x I; pending = empty }))
    hold_line (if_else x g t e) B P H = do
      skip 2
      I ← hold_tree t B empty H (none_bound B H)
      J ← hold_tree e B empty H (same_holds I)
      give (record { holds = hold_also Γ x I; pending = empty })
    hold_line (loop x k ps us t) B P H = do
      I ← spend Γ (loop_hands k us) H
      let reads = loop_reads k us
      must (readable Γ B I reads)
      skip (1 + length us)
      let O = set_aside Γ B reads I
      J ← hold_tree t (lending Γ reads B) (arrays_in Γ (element_name k ps)) (hold_all Γ (carried_name k ps) O)
          (same_holds O)
      give (record { holds = hold_also Γ x I; pending = empty })
    hold_line (retain x) B P H = do
      must (P x || (B x || ltb 0 (H x)))
      skip 1
      give (record { holds = plus x H; pending = empty })
    hold_line (release x) B P H = do
      must (ltb 0 (H x))
      skip 1
      give (record { holds = minus x H; pending = empty })

  -- a function whose parameters have the names xs, and which borrows those at the places b: the others hold one each as
  -- it begins, and nothing is held as it ends
  unfoldable pub hold_function : (ℕ → Bool) → List ℕ → Tree → Test Holds
  hold_function b xs t = do
    skip (1 + length xs)
    hold_tree t (arrays_in Γ (picked b 0 xs)) empty (hold_all Γ (picked (λ i. not (b i)) 0 xs) none_held)
        (same_holds none_held)

-- ---- the table of borrowed parameters

abbrev pub names_of : Lent → List ℕ
names_of g = map (λ x. x.id) g.parameters

-- whether the name at a place is in a set; past the last there is none
abbrev pub name_in : Set → List ℕ → ℕ → Bool
name_in S [] i = false
name_in S (x ∷ xs) zero = S x
name_in S (x ∷ xs) (suc i) = name_in S xs i

-- one round, as order 7's: an entry stays if it is not main's and its function does not spend or retain that parameter
unfoldable pub reworked_lent : List Lent → Table → Table
reworked_lent gs T =
    tabulate 0 32 (λ f. let g = get_or gs f no_lent in
    tabulate 0 8 (λ i. borrows T f i && (not (eqb f 0) && not (name_in (spent (borrows T) g.tree) (names_of g) i))))

unfoldable pub worked_lent : ℕ → List Lent → Table → Table
worked_lent zero gs T = T
worked_lent (suc n) gs T = let U = reworked_lent gs T in cond (same_table T U) T (worked_lent n gs U)

unfoldable pub lent_table : List Lent → Table
lent_table gs = worked_lent 257 gs all_borrowed

-- ---- all functions

-- the functions from number f on, by the depths of their names
unfoldable pub hold_functions : Borrowing → ℕ → List Lent → List NameDepths → Test (Unit {0})
hold_functions β f [] Γs = give tt
hold_functions β f (g ∷ gs) [] = give tt
hold_functions β f (g ∷ gs) (Γ ∷ Γs) = do
  I ← hold_function β Γ (β f) (names_of g) g.tree
  hold_functions β (suc f) gs Γs

-- the table, or a stop 29 at the first line that breaks the rule for holds
unfoldable pub hold : List Lent → List NameDepths → Outcome ℕ Table
hold gs Γs = let T = lent_table gs in (do hold_functions (borrows T) 0 gs Γs; give T) 0
