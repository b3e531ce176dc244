-- A tree without its retains and releases: the annotation leaves it as it is, and what is bound in a tree, and how deep
-- its trees are, depends on it alone.
use Rattle.std.specs.Prelude.{ℕ, ◌<◌, pred, true, false, Bool, cond, ◌&&◌, ◌≡◌, refl, List, [], ◌∷◌, map}
use Rattle.prelude.specs.Kit.{◌∙◌, sym, ap, subst}
use Rattle.semantics.specs.Basics.{with_if}
use Rattle.semantics.specs.Kinds.{Loop, mapping, filtering, reducing, rewriting, Borrowing, leaf_hands, leaf_reads}
use Rattle.semantics.specs.Kinds.{loop_hands, loop_reads, element_name, is_pending}
use Rattle.semantics.specs.Code.{Atom, Line, leaf, if_else, loop, retain, release, Tree, end, line, retain_all}
use Rattle.semantics.specs.Code.{release_all}
use Rattle.semantics.specs.Live.{Set, empty, ◌∪◌, only, just, among, live, uses, ◌∖∖◌, after_branch, after_pass}
use Rattle.semantics.specs.Annotate.{NameDepths, Style, is_array, arrays, dying, handed_again, rewritable, written}
use Rattle.semantics.specs.Annotate.{annotate, annotate_line}
use Rattle.semantics_lent.specs.Fit.{Bound, with_name, with_names}
use Rattle.lent_passing.specs.FitPasses.{after_tree, after_line, Once}

-- a map that rewrites is a map
abbrev plain_loop : Loop → Loop
plain_loop mapping = mapping
plain_loop filtering = filtering
plain_loop reducing = reducing
plain_loop rewriting = mapping

unfoldable mutual
  pub plain : Tree → Tree
  plain (end a) = end a
  plain (line l t) = plain_then l (plain t)

  pub plain_then : Line → Tree → Tree
  plain_then (leaf x l us) k = line (leaf x l us) k
  plain_then (if_else x g t e) k = line (if_else x g (plain t) (plain e)) k
  plain_then (loop x j ps us t) k = line (loop x (plain_loop j) ps us (plain t)) k
  plain_then (retain x) k = k
  plain_then (release x) k = k

pub plain_retains : (xs : List ℕ) (t : Tree) → plain (retain_all xs t) ≡ plain t
unfolding plain
plain_retains [] t = refl
plain_retains (x ∷ xs) t = plain_retains xs t

pub plain_releases : (xs : List ℕ) (t : Tree) → plain (release_all xs t) ≡ plain t
unfolding plain
plain_releases [] t = refl
plain_releases (x ∷ xs) t = plain_releases xs t

module _ (style : Style) (B : Borrowing) (Γ : NameDepths) where
  plain_written : (i : Loop) (x : ℕ) (ps : List ℕ) (us : List Atom) (t : Tree) (A : Set) →
      plain_loop (written style B Γ i x ps us t A) ≡ plain_loop i
  plain_written mapping x ps us t A = go (rewritable style B Γ x ps us t A)
    where
      go : (b : Bool) → plain_loop (cond b rewriting mapping) ≡ mapping
      go true = refl
      go false = refl
  plain_written filtering x ps us t A = refl
  plain_written reducing x ps us t A = refl
  plain_written rewriting x ps us t A = refl

  mutual
    unfolding plain annotate

    pub plain_annotated : (t : Tree) (L : Set) → plain (annotate style B Γ t L) ≡ plain t
    plain_annotated (end a) L = plain_retains (handed_again Γ (a ∷ []) L) (end a)
    plain_annotated (line l t) L =
        plain_line l (live t L) (annotate style B Γ t L) ∙ ap (plain_then l) (plain_annotated t L)

    plain_line : (l : Line) (A : Set) (k : Tree) → plain (annotate_line style B Γ l A k) ≡ plain_then l (plain k)
    plain_line (leaf x l us) A k =
        let R = among (leaf_reads B l us) empty in
        let k' = release_all (dying Γ (R ∪ only x) A) k in
        plain_retains (handed_again Γ (leaf_hands B l us) (R ∪ A))
        (line (leaf x l us) (retain_all (with_if (is_pending l && is_array Γ x) x []) k'))
        ∙ ap (line (leaf x l us)) (plain_retains (with_if (is_pending l && is_array Γ x) x []) k'
        ∙ plain_releases (dying Γ (R ∪ only x) A) k)
    plain_line (if_else x g t e) A k =
        let L = after_branch x A in
        let one = plain_releases (dying Γ (uses e) (live t L)) (annotate style B Γ t L) ∙ plain_annotated t L in
        let two = plain_releases (dying Γ (uses t) (live e L)) (annotate style B Γ e L) ∙ plain_annotated e L in
        λ i. line (if_else x g (one i) (two i)) (plain_releases (dying Γ (only x) A) k i)
    plain_line (loop x j ps us t) A k =
        let i = written style B Γ j x ps us t A in
        let L = after_pass x ps t A in
        let R = among (loop_reads i us) (uses t ∖∖ ps) in
        let opened = release_all (dying Γ (just ps) (live t L)) (annotate style B Γ t L) in
        let t' = retain_all (arrays Γ (element_name i ps)) opened in
        let inner = plain_retains (arrays Γ (element_name i ps)) opened
        ∙ plain_releases (dying Γ (just ps) (live t L)) (annotate style B Γ t L) ∙ plain_annotated t L in
        let kind = plain_written j x ps us t A in
        plain_retains (handed_again Γ (loop_hands i us) (R ∪ A)) (line (loop x i ps us t')
        (release_all (dying Γ (R ∪ only x) A) k))
        ∙ (λ v. line (loop x (kind v) ps us (inner v)) (plain_releases (dying Γ (R ∪ only x) A) k v))
    plain_line (retain x) A k = refl
    plain_line (release x) A k = refl

-- ---- what is bound

module _ (Γ : NameDepths) where
  mutual
    unfolding plain after_tree

    after_plain : (t : Tree) (N : Bound) → after_tree Γ (plain t) N ≡ after_tree Γ t N
    after_plain (end a) N = refl
    after_plain (line l t) N = after_plain_line l t N (after_plain t)

    after_plain_line : (l : Line) (t : Tree) (N : Bound) →
        ((M : Bound) → after_tree Γ (plain t) M ≡ after_tree Γ t M) →
        after_tree Γ (plain_then l (plain t)) N ≡ after_tree Γ t (after_line Γ l N)
    after_plain_line (leaf x l us) t N h = h (with_name x (Γ x) N)
    after_plain_line (if_else x g a b) t N h =
        h _ ∙ ap (λ (M : Bound). after_tree Γ t (with_name x (Γ x) M))
        (after_plain b _ ∙ ap (after_tree Γ b) (after_plain a (with_name x 0 N)))
    after_plain_line (loop x k ps us a) t N h =
        h _ ∙ ap (λ (M : Bound). after_tree Γ t (with_name x (Γ x) M))
        (after_plain a (with_names ps (map Γ ps) (with_name x 0 N)))
    after_plain_line (retain x) t N h = h N
    after_plain_line (release x) t N h = h N

  mutual
    unfolding plain after_tree Once

    -- nothing is bound twice, if it is not so without retains and releases
    pub once_plain : (t : Tree) (N : Bound) → Once Γ (plain t) N → Once Γ t N
    once_plain (end a) N h = tt
    once_plain (line l t) N h = once_plain_line l t N h (once_plain t)

    once_plain_line : (l : Line) (t : Tree) (N : Bound) → Once Γ (plain_then l (plain t)) N →
        ((M : Bound) → Once Γ (plain t) M → Once Γ t M) → Once Γ (line l t) N
    once_plain_line (leaf x l us) t N h next = (h.0, next _ h.1)
    once_plain_line (if_else x g a b) t N h next =
        let M = with_name x 0 N in
        let ea = after_plain a M in
        let eb = after_plain b (after_tree Γ (plain a) M) ∙ ap (after_tree Γ b) ea in (
          (
            h.0.0,
            (
              once_plain a M h.0.1.0,
              once_plain b (after_tree Γ a M) (subst (Once Γ (plain b)) ea h.0.1.1),
            ),
          ),
          next _ (subst (λ (O : Bound). Once Γ (plain t) (with_name x (Γ x) O)) eb h.1),
        )
    once_plain_line (loop x k ps us a) t N h next =
        let M = with_names ps (map Γ ps) (with_name x 0 N) in (
          (h.0.0, once_plain a M h.0.1),
          next _ (subst (λ (O : Bound). Once Γ (plain t) (with_name x (Γ x) O)) (after_plain a M) h.1),
        )
    once_plain_line (retain x) t N h next = (tt, next N h)
    once_plain_line (release x) t N h next = (tt, next N h)

  mutual
    unfolding plain after_tree Once

    pub plain_once : (t : Tree) (N : Bound) → Once Γ t N → Once Γ (plain t) N
    plain_once (end a) N h = tt
    plain_once (line l t) N h = plain_once_line l t N h (plain_once t)

    plain_once_line : (l : Line) (t : Tree) (N : Bound) → Once Γ (line l t) N →
        ((M : Bound) → Once Γ t M → Once Γ (plain t) M) → Once Γ (plain_then l (plain t)) N
    plain_once_line (leaf x l us) t N h next = (h.0, next _ h.1)
    plain_once_line (if_else x g a b) t N h next =
        let M = with_name x 0 N in
        let ea = after_plain a M in
        let eb = after_plain b (after_tree Γ (plain a) M) ∙ ap (after_tree Γ b) ea in (
          (
            h.0.0,
            (
              plain_once a M h.0.1.0,
              subst (Once Γ (plain b)) (sym ea) (plain_once b (after_tree Γ a M) h.0.1.1),
            ),
          ),
          subst (λ (O : Bound). Once Γ (plain t) (with_name x (Γ x) O)) (sym eb) (next _ h.1),
        )
    plain_once_line (loop x k ps us a) t N h next =
        let M = with_names ps (map Γ ps) (with_name x 0 N) in (
          (h.0.0, plain_once a M h.0.1),
          subst (λ (O : Bound). Once Γ (plain t) (with_name x (Γ x) O)) (sym (after_plain a M)) (next _ h.1),
        )
    plain_once_line (retain x) t N h next = next N h.1
    plain_once_line (release x) t N h next = next N h.1

-- ---- how deep trees are

unfoldable mutual
  -- with so many levels of trees left
  pub Nested : ℕ → Tree → Type 0
  Nested n (end a) = 0 < n
  Nested n (line l t) = LineNested n l × Nested n t

  pub LineNested : ℕ → Line → Type 0
  LineNested n (leaf x l us) = Unit {0}
  LineNested n (if_else x g t e) = Nested (pred n) t × Nested (pred n) e
  LineNested n (loop x k ps us t) = Nested (pred n) t
  LineNested n (retain x) = Unit {0}
  LineNested n (release x) = Unit {0}

mutual
  unfolding plain Nested

  pub nested_plain : (t : Tree) (n : ℕ) → Nested n (plain t) → Nested n t
  nested_plain (end a) n h = h
  nested_plain (line l t) n h = nested_plain_line l t n h (nested_plain t n)

  nested_plain_line : (l : Line) (t : Tree) (n : ℕ) → Nested n (plain_then l (plain t)) →
      (Nested n (plain t) → Nested n t) → Nested n (line l t)
  nested_plain_line (leaf x l us) t n h next = (tt, next h.1)
  nested_plain_line (if_else x g a b) t n h next =
      ((nested_plain a (pred n) h.0.0, nested_plain b (pred n) h.0.1), next h.1)
  nested_plain_line (loop x k ps us a) t n h next = (nested_plain a (pred n) h.0, next h.1)
  nested_plain_line (retain x) t n h next = (tt, next h)
  nested_plain_line (release x) t n h next = (tt, next h)

mutual
  unfolding plain Nested

  pub plain_nested : (t : Tree) (n : ℕ) → Nested n t → Nested n (plain t)
  plain_nested (end a) n h = h
  plain_nested (line l t) n h = plain_nested_line l t n h.0 (plain_nested t n h.1)

  plain_nested_line : (l : Line) (t : Tree) (n : ℕ) → LineNested n l → Nested n (plain t) →
      Nested n (plain_then l (plain t))
  plain_nested_line (leaf x l us) t n h k = (tt, k)
  plain_nested_line (if_else x g a b) t n h k =
      ((plain_nested a (pred n) h.0, plain_nested b (pred n) h.1), k)
  plain_nested_line (loop x j ps us a) t n h k = (plain_nested a (pred n) h, k)
  plain_nested_line (retain x) t n h k = k
  plain_nested_line (release x) t n h k = k

-- ---- all names that a tree binds

unfoldable mutual
  pub binds : Tree → Set
  binds (end a) = empty
  binds (line l t) = line_binds l ∪ binds t

  pub line_binds : Line → Set
  line_binds (leaf x l us) = only x
  line_binds (if_else x g t e) = only x ∪ (binds t ∪ binds e)
  line_binds (loop x k ps us t) = only x ∪ (just ps ∪ binds t)
  line_binds (retain x) = empty
  line_binds (release x) = empty

mutual
  unfolding plain binds

  pub binds_plain : (t : Tree) → binds (plain t) ≡ binds t
  binds_plain (end a) = refl
  binds_plain (line l t) = binds_plain_line l t (binds_plain t)

  binds_plain_line : (l : Line) (t : Tree) → binds (plain t) ≡ binds t →
      binds (plain_then l (plain t)) ≡ line_binds l ∪ binds t
  binds_plain_line (leaf x l us) t h = λ i. only x ∪ h i
  binds_plain_line (if_else x g a b) t h = λ i. (only x ∪ (binds_plain a i ∪ binds_plain b i)) ∪ h i
  binds_plain_line (loop x j ps us a) t h = λ i. (only x ∪ (just ps ∪ binds_plain a i)) ∪ h i
  binds_plain_line (retain x) t h = h
  binds_plain_line (release x) t h = h
