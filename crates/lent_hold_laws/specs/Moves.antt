-- How far the walk over trees goes: past the rows of its tree.
use Rattle.std.specs.Prelude.{ℕ, ◌+◌, suc, true, false, Bool, cond, ◌≡◌, refl, List, [], ◌∷◌, ◌++◌, map, ltb, length}
use Rattle.prelude.specs.Kit.{arith, subst, length-append, length-map}
use Rattle.semantics.specs.Outcome.{done, onward, require}
use Rattle.semantics.specs.Kinds.{Borrowing, leaf_hands, leaf_reads, loop_hands, loop_reads, element_name, carried_name}
use Rattle.semantics.specs.Code as C
use Rattle.semantics.specs.Code.{atom_row, rows, line_rows}
use Rattle.semantics.specs.Live.{Set, empty}
use Rattle.semantics.specs.Annotate.{NameDepths, is_array}
use Rattle.semantics_lent.specs.Form.{Test}
use Rattle.semantics_lent.specs.Hold.{Holds, minus, spend, readable, hold_tree, hold_line, none_bound}
use Rattle.semantics_lent.specs.Hold.{same_holds, set_aside, lending, arrays_in, hold_all}
use Rattle.lent_passing.specs.Ends.{Ends, ends_then}

pub test : {A : Type 0} (Q : A → ℕ → Type 0) (b : Bool) (p : ℕ) (f : Unit {0} → Test A) → Ends Q (f tt p) →
    Ends Q (onward f (require b 29 p))
unfolding onward require
test Q true p f h = h
test Q false p f h = tt

pub stays : (Γ : NameDepths) (us : List C.Atom) (H : Holds) (p : ℕ) →
    Ends (λ (I : Holds) (q : ℕ). q ≡ p) (spend Γ us H p)
unfolding spend onward require
stays Γ [] H p = refl
stays Γ (C.number z ∷ us) H p = stays Γ us H p
stays Γ (C.name x ∷ us) H p = go (is_array Γ x) (ltb 0 (H x)) (λ I. stays Γ us I p)
  where
    go : (a b : Bool) → ((I : Holds) → Ends (λ (I : Holds) (q : ℕ). q ≡ p) (spend Γ us I p)) →
        Ends (λ (I : Holds) (q : ℕ). q ≡ p) (onward (λ (I : Holds). spend Γ us I)
        (cond {A = Test Holds} a (λ (s : ℕ). onward (λ (u : Unit {0}) (t : ℕ). done (minus x H) t) (require b 29 s))
        (λ (s : ℕ). done H s) p))
    go true true later = later (minus x H)
    go true false later = tt
    go false b later = later H

module _ (β : Borrowing) (Γ : NameDepths) where
  abbrev To : {A : Type 0} → ℕ → A → ℕ → Type 0
  To r a q = q ≡ r

  mutual
    unfolding hold_tree hold_line rows line_rows onward

    pub tree_moves : (t : C.Tree) (B P : Set) (H : Holds) (ends : Holds → Bool) (p : ℕ) →
        Ends (To (p + length (rows t))) (hold_tree β Γ t B P H ends p)
    tree_moves (C.end a) B P H ends p =
        ends_then (To p) (To (p + 2)) _ (spend Γ (a ∷ []) H p) (stays Γ (a ∷ []) H p) (λ I q e.
        test (To (p + 2)) (ends I) q _ (omega (arith, e)))
    tree_moves (C.line l t) B P H ends p =
        ends_then (To (p + length (line_rows l))) (To (p + length (line_rows l ++ rows t))) _ (hold_line β Γ l B P H p)
        (line_moves l B P H p) (λ A q e.
        subst (λ (n : ℕ). Ends (To n) (hold_tree β Γ t B A.pending A.holds ends q))
        (let z : q + length (rows t) ≡ p + length (line_rows l ++ rows t) =
        omega (arith, e, length-append (line_rows l) (rows t)) in z)
        (tree_moves t B A.pending A.holds ends q))

    pub line_moves : (l : C.Line) (B P : Set) (H : Holds) (p : ℕ) →
        Ends (To (p + length (line_rows l))) (hold_line β Γ l B P H p)
    line_moves (C.leaf x l us) B P H p =
        ends_then (To p) (To (p + suc (length (map atom_row us)))) _ (spend Γ (leaf_hands β l us) H p)
        (stays Γ (leaf_hands β l us) H p) (λ I q e.
        test (To (p + suc (length (map atom_row us)))) (readable Γ B I (leaf_reads β l us)) q _
        (omega (arith, e, length-map us atom_row)))
    line_moves (C.if_else x g t e) B P H p =
        ends_then (To (p + 2 + length (rows t))) (To (p + suc (suc (length (rows t ++ rows e))))) _
        (hold_tree β Γ t B empty H (none_bound B H) (p + 2)) (tree_moves t B empty H (none_bound B H) (p + 2)) (λ I q h.
        ends_then (To (q + length (rows e))) (To (p + suc (suc (length (rows t ++ rows e))))) _
        (hold_tree β Γ e B empty H (same_holds I) q) (tree_moves e B empty H (same_holds I) q) (λ K r k.
        omega (arith, h, k, length-append (rows t) (rows e))))
    line_moves (C.loop x k ps us t) B P H p =
        ends_then (To p) (To (p + suc (length (map atom_row us ++ rows t)))) _ (spend Γ (loop_hands k us) H p)
        (stays Γ (loop_hands k us) H p) (λ I q e.
        test (To (p + suc (length (map atom_row us ++ rows t)))) (readable Γ B I (loop_reads k us)) q _
        (let O = set_aside Γ B (loop_reads k us) I in
        ends_then (To (q + (1 + length us) + length (rows t))) (To (p + suc (length (map atom_row us ++ rows t)))) _
        (hold_tree β Γ t (lending Γ (loop_reads k us) B) (arrays_in Γ (element_name k ps))
        (hold_all Γ (carried_name k ps) O) (same_holds O) (q + (1 + length us)))
        (tree_moves t (lending Γ (loop_reads k us) B) (arrays_in Γ (element_name k ps))
        (hold_all Γ (carried_name k ps) O) (same_holds O) (q + (1 + length us))) (λ K r m.
        omega (arith, e, m, length-append (map atom_row us) (rows t), length-map us atom_row))))
    line_moves (C.retain x) B P H p = test (To (p + 1)) _ p _ refl
    line_moves (C.release x) B P H p = test (To (p + 1)) _ p _ refl
