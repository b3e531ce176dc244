-- The second walk by positions is `fit` where the rows of trees in form stand.
use Rattle.std.specs.Prelude.{ℕ, ◌+◌, suc, true, false, Bool, ◌&&◌, not, ◌≡◌, refl, ◌∷◌, ◌++◌, map, eqb, ltb, length}
use Rattle.prelude.specs.Kit.{arith, sym, ap, subst, some, none, Option, length-append, length-map}
use Rattle.semantics.specs.Outcome.{Outcome, done, stop, Run, onward, ◌>>=◌, ◌>>◌, give, require}
use Rattle.semantics.specs.Types.{Signature, leaf_rule, is_none}
use Rattle.semantics.specs.Code as C
use Rattle.semantics.specs.Code.{atom_row, Line, leaf, if_else, loop, retain, release, Tree, end, line}
use Rattle.semantics.specs.Live.{Set, ◌∪◌, just}
use Rattle.semantics.specs.Annotate.{atom_depth, pass_depths}
use Rattle.semantics_lent.specs.Form.{skip}
use Rattle.semantics_lent.specs.Fit.{Bound, with_name, with_names, all_new, in_scope, all_in_scope, scope_after}
use Rattle.semantics_lent.specs.Fit.{is_looped, loop_gives, depth_or_fault, Fitted, fit_tree, fit_line}
use Rattle.lent_passing.specs.Ends.{Ends, ends_then}

-- a run that ends at a position
pub ends_at : {A B : Type 0} (f g : A → Run ℕ B) (o : Outcome ℕ A) (q : ℕ) → Ends (λ a s. s ≡ q) o →
    ((a : A) → f a q ≡ g a q) → onward f o ≡ onward g o
unfolding onward
ends_at f g (done a s) q h e = subst (λ (i : ℕ). f a i ≡ g a i) (sym h) (e a)
ends_at f g (stop n s) q h e = refl

-- ---- where a tree and a line end

module _ (sig : ℕ → Signature) where
  after_test : {A : Type 0} (b : Bool) (p q : ℕ) (f : Unit {0} → Run ℕ A) → Ends (λ a s. s ≡ q) (f tt p) →
      Ends (λ a s. s ≡ q) (onward f (require b 29 p))
  unfolding onward require
  after_test true p q f h = h
  after_test false p q f h = tt

  mutual
    unfolding fit_tree onward C.rows

    pub tree_ends : (t : Tree) (gives : ℕ → Bool) (S : Set) (N : Bound) (p : ℕ) →
        Ends (λ A q. q ≡ p + length (C.rows t)) (fit_tree sig t gives S N p)
    tree_ends (end a) gives S N p =
        after_test (in_scope S a && gives (atom_depth N.depths a)) p (p + 2) _ refl
    tree_ends (line l t) gives S N p =
        ends_then (λ M q. q ≡ p + length (C.line_rows l)) _ _ (fit_line sig l S N p) (line_ends l S N p) (λ M q h.
        subst (λ (i : ℕ). Ends (λ A s. s ≡ i) (fit_tree sig t gives (scope_after l S) M q))
        (let z : q + length (C.rows t) ≡ p + length (C.line_rows l ++ C.rows t) =
        omega (arith, h, length-append (C.line_rows l) (C.rows t)) in z) (tree_ends t gives (scope_after l S) M q))

    pub line_ends : (l : Line) (S : Set) (N : Bound) (p : ℕ) →
        Ends (λ M q. q ≡ p + length (C.line_rows l)) (fit_line sig l S N p)
    line_ends (leaf x l us) S N p =
        after_test (all_in_scope S us && not (N.names x)) p _ _
        (go (leaf_rule sig l (map (atom_depth N.depths) us)))
      where
        go : (o : Option ℕ) → Ends (λ M q. q ≡ p + suc (length (map atom_row us)))
            (onward (λ d. skip (suc (length us)) >> give (with_name x d N)) (depth_or_fault o p))
        go (some d) = ap (λ (n : ℕ). p + suc n) (sym (length-map us atom_row))
        go none = tt
    line_ends (if_else x g t e) S N p =
        after_test (in_scope S g && (eqb (atom_depth N.depths g) 0 && not (N.names x))) p _ _
        (ends_then (λ A q. q ≡ p + 2 + length (C.rows t)) _ _ (fit_tree sig t (λ _. true) S (with_name x 0 N) (p + 2))
        (tree_ends t (λ _. true) S (with_name x 0 N) (p + 2)) (λ A q h.
        ends_then (λ B s. s ≡ q + length (C.rows e)) _ _ (fit_tree sig e (eqb A.depth) S A.bound q)
        (tree_ends e (eqb A.depth) S A.bound q) (λ B s k.
        omega (arith, h, k, length-append (C.rows t) (C.rows e)))))
    line_ends (loop x k ps us t) S N p =
        after_test (all_in_scope S us && (is_looped k N.depths us && all_new (x ∷ ps) N.names)) p _ _
        (ends_then (λ A q. q ≡ p + suc (length us) + length (C.rows t)) _ _
        (fit_tree sig t (λ e. not (is_none (loop_gives k N.depths us e))) (S ∪ just ps)
        (with_names ps (pass_depths k N.depths us) (with_name x 0 N)) (p + suc (length us)))
        (tree_ends t _ (S ∪ just ps) _ (p + suc (length us)))
        (λ A q h. go A q h (loop_gives k N.depths us A.depth)))
      where
        go : (A : Fitted) (q : ℕ) → q ≡ p + suc (length us) + length (C.rows t) → (o : Option ℕ) →
            Ends (λ M s. s ≡ p + suc (length (map atom_row us ++ C.rows t)))
            (onward (λ d. give (with_name x d A.bound)) (depth_or_fault o q))
        go A q h (some d) = omega (arith, h, length-append (map atom_row us) (C.rows t), length-map us atom_row)
        go A q h none = tt
    line_ends (retain x) S N p = after_test (S x && ltb 0 (N.depths x)) p _ _ refl
    line_ends (release x) S N p = after_test (S x && ltb 0 (N.depths x)) p _ _ refl
