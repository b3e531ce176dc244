-- The normal form of an expression binds no name twice, and its trees are no deeper than the expression.
use Rattle.std.specs.Prelude.{ℕ, ◌≤◌, ◌+◌, ◌<◌, suc, zero, pred, true, false, Bool, ◌&&◌, not, ◌≡◌, refl, List, []}
use Rattle.std.specs.Prelude.{◌∷◌, map, eqb, length}
use Rattle.prelude.specs.Kit.{arith, ◌∙◌, ap, subst, inl, inr, eqb-true}
use Rattle.semantics.specs.Syntax as E
use Rattle.semantics.specs.Syntax.{Expr, Exprs}
use Rattle.semantics.specs.Basics.{updated}
use Rattle.semantics.specs.Code.{Atom, number, name, leaf, if_else, loop, Tree, end}
use Rattle.semantics.specs.Live.{Set, ◌∪◌, only}
use Rattle.semantics.specs.Normal.{Meanings, fresh, fresh_all, atom, numbered, meaning_names, lines, all_lines}
use Rattle.semantics.specs.Annotate.{NameDepths}
use Rattle.semantics_lent.specs.Fit.{Bound, with_name, with_names, all_new}
use Rattle.lent_passing.specs.Fits.{or_cases}
use Rattle.lent_passing.specs.FitPasses.{after_tree, Once}
use Rattle.lent_passing.specs.Skeletons.{Nested}

-- the names bound so far are below c
pub record Below (B : Set) (c : ℕ) : Type 0 where
  pub below : (y : ℕ) → B y ≡ true → y < c

pub not_yet : (B : Set) (c x : ℕ) → Below B c → c ≤ x → B x ≡ false
not_yet B c x b h = go (B x) refl
  where
    go : (v : Bool) → B x ≡ v → v ≡ false
    go true e = absurd (omega (arith, b.below x e))
    go false e = refl

pub below_with : (B : Set) (c e x : ℕ) → Below B c → c ≤ e → x < e → Below (B ∪ only x) e
below_with B c e x b h g = record {
  below = λ y v. elim (or_cases (B y) (eqb x y) v) [
    | inl k ↦ omega (arith, b.below y k)
    | inr k ↦ omega (arith, eqb-true x y k)
  ];
}

pub below_up : (B : Set) (c e : ℕ) → Below B c → c ≤ e → Below B e
below_up B c e b h = record { below = λ y v. omega (arith, b.below y v) }

-- the names of a pass
numbered_new : (xs : List ℕ) (c : ℕ) (B : Set) → Below B c → all_new (numbered xs c) B ≡ true
numbered_new [] c B b = refl
numbered_new (x ∷ xs) c B b =
    ap (λ (v : Bool). not v && all_new (numbered xs (suc c)) (B ∪ only c)) (not_yet B c c b (omega arith))
    ∙ numbered_new xs (suc c) (B ∪ only c) (below_with B c (suc c) c b (omega arith) (omega arith))

numbered_below : (xs ds : List ℕ) (c : ℕ) (N : Bound) → Below N.names c →
    Below (with_names (numbered xs c) ds N).names (c + length xs)
numbered_below [] ds c N b = below_up N.names c (c + 0) b (omega arith)
numbered_below (x ∷ xs) [] c N b = below_up N.names c (c + suc (length xs)) b (omega arith)
numbered_below (x ∷ xs) (d ∷ ds) c N b =
    below_up _ (suc c + length xs) (c + suc (length xs))
    (numbered_below xs ds (suc c) (with_name c d N)
    (below_with N.names c (suc c) c b (omega arith) (omega arith))) (omega arith)

module _ (Γ : NameDepths) where
  -- a tree after names below m: it binds none twice, and none from c on
  abbrev pub Then : ℕ → Tree → ℕ → Type 0
  Then c k m = (M : Bound) → Below M.names m → Once Γ k M × Below (after_tree Γ k M).names c

  pub end_then : (a : Atom) (c : ℕ) → Then c (end a) c
  unfolding Once after_tree
  end_then a c M b = (tt, b)

  then_at : (c m n : ℕ) (k : Tree) → n ≡ m → Then c k n → Then c k m
  then_at c m n k e h = subst (Then c k) e h

  mutual
    unfolding lines fresh Once after_tree

    pub lines_once : (e : Expr) (μ : Meanings) (n c : ℕ) (k : Tree) → Then c k (n + fresh e) → Then c (lines e μ n k) n
    lines_once (E.number z) μ n c k next = then_at c n (n + 0) k (omega arith) next
    lines_once (E.name x) μ n c k next = then_at c n (n + 0) k (omega arith) next
    lines_once (E.let_in x a b) μ n c k next =
        lines_once a μ n c _ (lines_once b (updated μ x (atom a μ n)) (n + fresh a) c k
        (then_at c (n + fresh a + fresh b) (n + (fresh a + fresh b)) k (omega arith) next))
    lines_once (E.leaf l es) μ n c k next =
        all_once es μ n c _ (λ M b.
        let x = n + fresh_all es in
        let r = next (with_name x (Γ x) M)
        (below_with M.names x (n + (fresh_all es + 1)) x b (omega arith) (omega arith)) in
        ((not_yet M.names x x b (omega arith), r.0), r.1))
    lines_once (E.if_else a b d) μ n c k next =
        lines_once a μ n c _ (λ M below.
        let m = n + fresh a in
        let N = with_name m 0 M in
        let t = lines b μ (m + 1) (end (atom b μ (m + 1))) in
        let i = m + 1 + fresh b in
        let e = lines d μ i (end (atom d μ i)) in
        let one = lines_once b μ (m + 1) i (end (atom b μ (m + 1))) (end_then (atom b μ (m + 1)) i) N
        (below_with M.names m (m + 1) m below (omega arith) (omega arith)) in
        let two = lines_once d μ i (i + fresh d) (end (atom d μ i)) (end_then (atom d μ i) (i + fresh d))
        (after_tree Γ t N) one.1 in
        let O = after_tree Γ e (after_tree Γ t N) in
        let r = next (with_name m (Γ m) O)
        (below_with O.names (i + fresh d) (n + (fresh a + 1 + fresh b + fresh d)) m two.1 (omega arith)
        (omega arith)) in
        (((not_yet M.names m m below (omega arith), (one.0, two.0)), r.0), r.1))
    lines_once (E.loop j xs es b) μ n c k next =
        all_once es μ n c _ (λ M below.
        let m = n + fresh_all es in
        let ps = numbered xs (m + 1) in
        let i = m + (1 + length xs) in
        let μ' = meaning_names xs (m + 1) μ in
        let t = lines b μ' i (end (atom b μ' i)) in
        let N = with_name m 0 M in
        let P = with_names ps (map Γ ps) N in
        let bn = below_with M.names m (m + 1) m below (omega arith) (omega arith) in
        let one = lines_once b μ' i (i + fresh b) (end (atom b μ' i)) (end_then (atom b μ' i) (i + fresh b)) P
        (below_up P.names (m + 1 + length xs) i (numbered_below xs (map Γ ps) (m + 1) N bn) (omega arith)) in
        let O = after_tree Γ t P in
        let r = next (with_name m (Γ m) O)
        (below_with O.names (i + fresh b) (n + (fresh_all es + (1 + length xs) + fresh b)) m one.1 (omega arith)
        (omega arith)) in
        let new : all_new (m ∷ ps) M.names ≡ true =
        ap (λ (v : Bool). not v && all_new ps (M.names ∪ only m)) (not_yet M.names m m below (omega arith))
        ∙ numbered_new xs (m + 1) (M.names ∪ only m) bn in
        (((new, one.0), r.0), r.1))

    pub all_once : (es : Exprs) (μ : Meanings) (n c : ℕ) (k : Tree) → Then c k (n + fresh_all es) →
        Then c (all_lines es μ n k) n
    all_once E.none μ n c k next = then_at c n (n + 0) k (omega arith) next
    all_once (E.more e es) μ n c k next =
        lines_once e μ n c _ (all_once es μ (n + fresh e) c k
        (then_at c (n + fresh e + fresh_all es) (n + (fresh e + fresh_all es)) k (omega arith) next))

-- ---- levels

abbrev mutual
  -- an expression of at most n levels
  pub Levelled : ℕ → Expr → Type 0
  Levelled n (E.number z) = 0 < n
  Levelled n (E.name x) = 0 < n
  Levelled n (E.let_in x a b) = (0 < n) × (Levelled (pred n) a × Levelled (pred n) b)
  Levelled n (E.leaf l es) = (0 < n) × AllLevelled (pred n) es
  Levelled n (E.if_else a b c) = (0 < n) × (Levelled (pred n) a × (Levelled (pred n) b × Levelled (pred n) c))
  Levelled n (E.loop k xs es b) = (0 < n) × (AllLevelled (pred n) es × Levelled (pred n) b)

  pub AllLevelled : ℕ → Exprs → Type 0
  AllLevelled n E.none = Unit {0}
  AllLevelled n (E.more e es) = Levelled n e × AllLevelled n es

pred_up : (n m : ℕ) → n ≤ m → pred n ≤ pred m
pred_up zero m h = omega arith
pred_up (suc n) zero h = absurd (omega (arith, h))
pred_up (suc n) (suc m) h = omega (arith, h)

mutual
  levels_up : (e : Expr) (n m : ℕ) → n ≤ m → Levelled n e → Levelled m e
  levels_up (E.number z) n m h l = omega (arith, h, l)
  levels_up (E.name x) n m h l = omega (arith, h, l)
  levels_up (E.let_in x a b) n m h l = (
    omega (arith, h, l.0),
    (levels_up a (pred n) (pred m) (pred_up n m h) l.1.0, levels_up b (pred n) (pred m) (pred_up n m h) l.1.1),
  )
  levels_up (E.leaf f es) n m h l = (omega (arith, h, l.0), all_up es (pred n) (pred m) (pred_up n m h) l.1)
  levels_up (E.if_else a b c) n m h l = (
    omega (arith, h, l.0),
    (
      levels_up a (pred n) (pred m) (pred_up n m h) l.1.0,
      (
        levels_up b (pred n) (pred m) (pred_up n m h) l.1.1.0,
        levels_up c (pred n) (pred m) (pred_up n m h) l.1.1.1,
      ),
    ),
  )
  levels_up (E.loop k xs es b) n m h l = (
    omega (arith, h, l.0),
    (all_up es (pred n) (pred m) (pred_up n m h) l.1.0, levels_up b (pred n) (pred m) (pred_up n m h) l.1.1),
  )

  all_up : (es : Exprs) (n m : ℕ) → n ≤ m → AllLevelled n es → AllLevelled m es
  all_up E.none n m h l = tt
  all_up (E.more e es) n m h l = (levels_up e n m h l.0, all_up es n m h l.1)

pub some_level : (e : Expr) (n : ℕ) → Levelled n e → 0 < n
some_level (E.number z) n l = l
some_level (E.name x) n l = l
some_level (E.let_in x a b) n l = l.0
some_level (E.leaf f es) n l = l.0
some_level (E.if_else a b c) n l = l.0
some_level (E.loop k xs es b) n l = l.0

pred_less : (n : ℕ) → pred n ≤ n
pred_less zero = omega arith
pred_less (suc n) = omega arith

mutual
  unfolding lines Nested

  pub lines_nested : (e : Expr) (μ : Meanings) (n v : ℕ) (k : Tree) → Levelled v e → Nested v k →
      Nested v (lines e μ n k)
  lines_nested (E.number z) μ n v k l h = h
  lines_nested (E.name x) μ n v k l h = h
  lines_nested (E.let_in x a b) μ n v k l h =
      lines_nested a μ n v _ (levels_up a (pred v) v (pred_less v) l.1.0)
      (lines_nested b _ _ v k (levels_up b (pred v) v (pred_less v) l.1.1) h)
  lines_nested (E.leaf f es) μ n v k l h =
      all_nested es μ n v _ (all_up es (pred v) v (pred_less v) l.1) (tt, h)
  lines_nested (E.if_else a b c) μ n v k l h =
      lines_nested a μ n v _ (levels_up a (pred v) v (pred_less v) l.1.0) (
        (
          lines_nested b μ _ (pred v) _ l.1.1.0 (some_level b (pred v) l.1.1.0),
          lines_nested c μ _ (pred v) _ l.1.1.1 (some_level c (pred v) l.1.1.1),
        ),
        h,
      )
  lines_nested (E.loop j xs es b) μ n v k l h =
      all_nested es μ n v _ (all_up es (pred v) v (pred_less v) l.1.0)
      (lines_nested b _ _ (pred v) _ l.1.1 (some_level b (pred v) l.1.1), h)

  pub all_nested : (es : Exprs) (μ : Meanings) (n v : ℕ) (k : Tree) → AllLevelled v es → Nested v k →
      Nested v (all_lines es μ n k)
  all_nested E.none μ n v k l h = h
  all_nested (E.more e es) μ n v k l h =
      lines_nested e μ n v _ l.0 (all_nested es μ (n + fresh e) v k l.1 h)
