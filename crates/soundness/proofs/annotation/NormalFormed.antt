-- `lines_formed`: the normal form of an expression whose new names have the right depths is well formed.
use Rattle.prelude.specs.Kit.{ℕ, ◌≤◌, ◌+◌, ◌<◌, suc, arith, true, false, cond, ◌≡◌, refl, ◌∙◌, sym, ap, subst, List, []}
use Rattle.prelude.specs.Kit.{◌∷◌, map, eqb, pos, length, eq-eqb}
use Rattle.semantics.specs.Basics.{updated}
use Rattle.semantics.specs.Syntax as E
use Rattle.semantics.specs.Syntax.{Expr, Exprs}
use Rattle.semantics.specs.Code.{Atom, number, name, leaf, loop, Tree, end, line, ending}
use Rattle.semantics.specs.Live.{Set, ◌∪◌, only, just}
use Rattle.semantics.specs.Normal.{Meanings, fresh, fresh_all, atom, atoms, numbered, meaning_names, lines, all_lines}
use Rattle.semantics.specs.Annotate.{NameDepths, atom_depth, with_depths}
use Rattle.laws.specs.Tests.{or_left, or_right}
use Rattle.discipline.proofs.machine.Discipline.{Known, AllKnown}
use Rattle.discipline.proofs.normal.Agree.{AtomBelow, atom_below}
use Rattle.soundness.proofs.annotation.Formed.{Within, within_up, within_bound, Rising, within_pass, Formed}
use Rattle.soundness.proofs.annotation.Typed.{count, element_depths, Functions, LeafType, LoopType}
use Rattle.laws.specs.Endings.{ending_lines}
use Rattle.soundness.proofs.annotation.Fitted.{MeaningsFit, meanings_up, meanings_updated, meanings_with, Fitted}
use Rattle.soundness.proofs.annotation.Fitted.{AllFitted, atom_fitted, atoms_fitted, atoms_count}

-- every name of S is in R
pub record Extends (S R : Set) : Type 0 where
  pub more : (y : ℕ) → S y ≡ true → R y ≡ true

extends_trans : (S R Q : Set) → Extends S R → Extends R Q → Extends S Q
extends_trans S R Q f g = record { more = λ y e. g.more y (f.more y e) }

extends_or : (S R Q : Set) → Extends S R → Extends S (R ∪ Q)
extends_or S R Q f = record { more = λ y e. or_left (R y) (Q y) (f.more y e) }

bound_known : (R : Set) (x : ℕ) → (R ∪ only x) x ≡ true
bound_known R x = or_right (R x) (only x x) (eq-eqb x x refl)

known_more : (u : Atom) (S R : Set) → Extends S R → Known u S → Known u R
known_more (number z) S R f v = tt
known_more (name x) S R f v = f.more x v

all_known_more : (us : List Atom) (S R : Set) → Extends S R → AllKnown us S → AllKnown us R
all_known_more [] S R f v = tt
all_known_more (u ∷ us) S R f v = (known_more u S R f v.0, all_known_more us S R f v.1)

known_updated : (μ : Meanings) (S : Set) (x : ℕ) (u : Atom) → Known u S → ((y : ℕ) → Known (μ y) S) → (y : ℕ) →
    Known (updated μ x u y) S
unfolding updated
known_updated μ S x u v all y =
    elim (eqb x y) as (λ b. Known (cond b u (μ y)) S) [ true ↦ v | false ↦ all y ]

-- the names of a pass
known_pass : (xs : List ℕ) (m : ℕ) (μ : Meanings) (S : Set) → Extends (just (numbered xs m)) S →
    ((y : ℕ) → Known (μ y) S) → (y : ℕ) → Known (meaning_names xs m μ y) S
known_pass [] m μ S f all y = all y
known_pass (x ∷ xs) m μ S f all y =
    known_pass xs (suc m) (updated μ x (name m)) S
    (record { more = λ z e. f.more z (or_right (only m z) (just (numbered xs (suc m)) z) e) })
    (known_updated μ S x (name m) (f.more m (or_left (only m m) _ (eq-eqb m m refl))) all) y

numbered_rising : (xs : List ℕ) (m : ℕ) → Rising m (numbered xs m) (m + length xs)
numbered_rising [] m = omega arith
numbered_rising (x ∷ xs) m = (
  omega arith,
  subst (Rising (suc m) (numbered xs (suc m)))
      (let e : suc m + length xs ≡ m + suc (length xs) = omega arith in e) (numbered_rising xs (suc m)),
)

numbered_count : (xs : List ℕ) (m : ℕ) → length (numbered xs m) ≡ length xs
numbered_count [] m = refl
numbered_count (x ∷ xs) m = ap suc (numbered_count xs (suc m))

module _ (F : Functions) (Γ : NameDepths) where
  -- the written names where S is in scope and the new names begin at n
  pub record InScope (μ : Meanings) (δ : ℕ → ℕ) (n : ℕ) (S : Set) : Type 0 where
    pub meanings : MeaningsFit μ δ n Γ
    pub known : (y : ℕ) → Known (μ y) S
    pub within : Within S n

  scope_more : (μ : Meanings) (δ : ℕ → ℕ) (n m : ℕ) (S R : Set) → n ≤ m → Extends S R → Within R m →
      InScope μ δ n S → InScope μ δ m R
  scope_more μ δ n m S R le f w s = record {
    meanings = meanings_up μ δ n m Γ le s.meanings;
    known = λ y. known_more (μ y) S R f (s.known y);
    within = w;
  }

  scope_updated : (μ : Meanings) (δ : ℕ → ℕ) (n : ℕ) (S : Set) (x : ℕ) (u : Atom) (d : ℕ) → AtomBelow u n → Known u S →
      atom_depth Γ u ≡ d → InScope μ δ n S → InScope (updated μ x u) (updated δ x d) n S
  scope_updated μ δ n S x u d below v e s = record {
    meanings = meanings_updated μ δ n Γ x u d below e s.meanings;
    known = known_updated μ S x u v s.known;
    within = s.within;
  }

  -- the tree k is well formed after lines that use the names up to m and give the atom u
  abbrev Then : Tree → Set → ℕ → Atom → ℕ → Type 0
  Then k S m u r = (R : Set) → Extends S R → Within R m → Known u R → Formed F Γ k R m r

  abbrev ThenAll : Tree → Set → ℕ → List Atom → ℕ → Type 0
  ThenAll k S m us r = (R : Set) → Extends S R → Within R m → AllKnown us R → Formed F Γ k R m r

  -- a line that binds x, before the tree k
  bound_then : (k : Tree) (S R : Set) (x m r : ℕ) → Extends S R → Within R x → x < m → Then k S m (name x) r →
      Formed F Γ k (R ∪ only x) m r
  bound_then k S R x m r f w h next =
      next (R ∪ only x) (extends_or S R (only x) f) (within_bound R x x m (omega arith) h w) (bound_known R x)

  -- no line at all
  then_here : (k : Tree) (S : Set) (n m : ℕ) (u : Atom) (r : ℕ) → m ≡ n → Known u S → Within S n → Then k S m u r →
      Formed F Γ k S n r
  then_here k S n m u r e seen within next =
      subst (λ i. Formed F Γ k S i r) e
      (next S (record { more = λ y q. q }) (within_up S n m (omega arith) within) seen)

  -- ---- the lines

  mutual
    unfolding lines fresh atom ending

    pub lines_formed : (e : Expr) (μ : Meanings) (δ : ℕ → ℕ) (d n : ℕ) (S : Set) (k : Tree) (r : ℕ) →
        n + fresh e ≤ 256 → Fitted F Γ e δ d n → InScope μ δ n S → Then k S (n + fresh e) (atom e μ n) r →
        Formed F Γ (lines e μ n k) S n r
    lines_formed (E.number z) μ δ d n S k r room f s next =
        then_here k S n (n + 0) (number z) r (omega arith) tt s.within next
    lines_formed (E.name x) μ δ d n S k r room f s next =
        then_here k S n (n + 0) (μ x) r (omega arith) (s.known x) s.within next
    lines_formed (E.let_in x a b) μ δ d n S k r room f s next =
        let m = n + fresh a in
        let u = atom a μ n in
        let j = f.0 in
        lines_formed a μ δ j n S _ r (omega arith) f.1 s λ R more within seen.
        let s₁ = scope_more μ δ n m S R (omega arith) more within s in
        let s₂ = scope_updated μ δ m R x u j (atom_below a μ n s.meanings.below) seen
        (atom_fitted F Γ a μ δ j n f.1 s.meanings) s₁ in
        lines_formed b (updated μ x u) (updated δ x j) d m R k r (omega arith) f.2 s₂ λ Q more₁ within₁ seen₁.
        then_here k Q (m + fresh b) (n + (fresh a + fresh b)) (atom b (updated μ x u) m) r (omega arith) seen₁ within₁
        (λ P more₂ within₂ seen₂. next P (extends_trans S Q P (extends_trans S R Q more more₁) more₂) within₂ seen₂)
    lines_formed (E.leaf l es) μ δ d n S k r room f s next =
        let x = n + fresh_all es in
        let us = atoms es μ n in
        let depths = atoms_fitted F Γ es μ δ f.0 n f.2 s.meanings in
        all_lines_formed es μ δ f.0 n S (line (leaf x l us) k) r (omega arith) f.2 s λ R more within seen. (
          n + fresh (E.leaf l es),
          record { above = omega arith; below = omega arith; small = omega arith },
          record {
            seen = seen;
            fits = subst (λ c. LeafType F l c (map (atom_depth Γ) us) (Γ x)) (sym (atoms_count es μ n))
                (subst (λ ds. LeafType F l (count es) ds (Γ x)) (sym depths)
                (subst (LeafType F l (count es) f.0) (sym f.3) f.1));
          },
          bound_then k S R x _ r more within (omega arith) next,
        )
    lines_formed (E.if_else a b c) μ δ d n S k r room f s next =
        let x = n + fresh a in
        let y = x + 1 + fresh b in
        lines_formed a μ δ 0 n S _ r (omega arith) f.0 s λ R more within seen.
        let s₁ = scope_more μ δ n (x + 1) S R (omega arith) more (within_up R x (x + 1) (omega arith) within) s in
        let s₂ = scope_more μ δ n y S R (omega arith) more (within_up R x y (omega arith) within) s in (
          n + fresh (E.if_else a b c),
          record { above = omega arith; below = omega arith; small = omega arith },
          (
            record { seen = seen; guard = atom_fitted F Γ a μ δ 0 n f.0 s.meanings },
            (
              x + 1,
              omega arith,
              lines_formed b μ δ d (x + 1) R (end (atom b μ (x + 1))) (Γ x) (omega arith) f.1 s₁
                  (λ Q more₁ within₁ seen₁.
                  (seen₁, atom_fitted F Γ b μ δ d (x + 1) f.1 s₁.meanings ∙ sym f.3)),
            ),
            (
              y,
              omega arith,
              lines_formed c μ δ d y R (end (atom c μ y)) (Γ x) (omega arith) f.2 s₂
                  (λ Q more₁ within₁ seen₁.
                  (seen₁, atom_fitted F Γ c μ δ d y f.2 s₂.meanings ∙ sym f.3)),
            ),
          ),
          bound_then k S R x _ r more within (omega arith) next,
        )
    lines_formed (E.loop j xs es b) μ δ d n S k r room f s next =
        let x = n + fresh_all es in
        let i = x + (1 + length xs) in
        let ds = f.0 in
        let us = atoms es μ n in
        let ps = numbered xs (x + 1) in
        let μ' = meaning_names xs (x + 1) μ in
        let δ' = with_depths xs (element_depths j ds) δ in
        let w = atom b μ' i in
        let t = lines b μ' i (end w) in
        let depths = atoms_fitted F Γ es μ δ ds n f.3 s.meanings in
        all_lines_formed es μ δ ds n S (line (loop x j ps us t) k) r (omega arith) f.3 s λ R more within seen.
        let R' = R ∪ just ps in
        let rising : Rising (suc x) ps i =
        subst (λ c. Rising c ps i) (let q : x + 1 ≡ suc x = omega arith in q)
        (subst (Rising (x + 1) ps) (let q : x + 1 + length xs ≡ i = omega arith in q) (numbered_rising xs (x + 1))) in
        let s₁ : InScope μ' δ' i R' = record {
          meanings = meanings_up μ' δ' (x + 1 + length xs) i Γ (omega arith)
              (meanings_with xs (element_depths j ds) μ δ (x + 1) Γ f.6
              (meanings_up μ δ n (x + 1) Γ (omega arith) s.meanings));
          known = known_pass xs (x + 1) μ R' (record { more = λ y e. or_right (R y) (just ps y) e })
              (λ y. known_more (μ y) S R' (extends_or S R (just ps) more) (s.known y));
          within = within_pass R ps x (suc x) i (omega arith) rising within;
        } in
        let depth : atom_depth Γ (ending t) ≡ f.1 =
        ap (atom_depth Γ) (ending_lines b μ' i (end w)) ∙ atom_fitted F Γ b μ' δ' f.1 i f.4 s₁.meanings in
        let fits : LoopType j (length ps) (length us) (map (atom_depth Γ) us) (atom_depth Γ (ending t)) (Γ x) =
        subst (λ c. LoopType j c (length us) (map (atom_depth Γ) us) (atom_depth Γ (ending t)) (Γ x))
        (sym (numbered_count xs (x + 1)))
        (subst (λ c. LoopType j (length xs) c (map (atom_depth Γ) us) (atom_depth Γ (ending t)) (Γ x))
        (sym (atoms_count es μ n))
        (subst (λ es'. LoopType j (length xs) (count es) es' (atom_depth Γ (ending t)) (Γ x)) (sym depths)
        (subst (λ e. LoopType j (length xs) (count es) ds e (Γ x)) (sym depth)
        (subst (LoopType j (length xs) (count es) ds f.1) (sym f.5) f.2)))) in (
          n + fresh (E.loop j xs es b),
          record { above = omega arith; below = omega arith; small = omega arith },
          (
            i,
            record {
              seen = seen;
              fits = fits;
              depths = f.6 ∙ ap (element_depths j) (sym depths);
              rising = rising;
              small = omega arith;
            },
            lines_formed b μ' δ' f.1 i R' (end w) (atom_depth Γ (ending t)) (omega arith) f.4 s₁
                (λ Q more₁ within₁ seen₁. (seen₁, ap (atom_depth Γ) (sym (ending_lines b μ' i (end w))))),
          ),
          bound_then k S R x _ r more within (omega arith) next,
        )

    all_lines_formed : (es : Exprs) (μ : Meanings) (δ : ℕ → ℕ) (ds : List ℕ) (n : ℕ) (S : Set) (k : Tree) (r : ℕ) →
        n + fresh_all es ≤ 256 → AllFitted F Γ es δ ds n → InScope μ δ n S →
        ThenAll k S (n + fresh_all es) (atoms es μ n) r →
        Formed F Γ (all_lines es μ n k) S n r
    all_lines_formed E.none μ δ ds n S k r room f s next =
        then_here k S n (n + 0) (number (pos 0)) r (omega arith) tt s.within
        (λ R more within seen. next R more within tt)
    all_lines_formed (E.more e es) μ δ ds n S k r room f s next =
        let m = n + fresh e in
        let u = atom e μ n in
        lines_formed e μ δ f.0 n S _ r (omega arith) f.3 s λ R more within seen.
        let s₁ = scope_more μ δ n m S R (omega arith) more within s in
        all_lines_formed es μ δ f.1 m R k r (omega arith) f.4 s₁ λ Q more₁ within₁ seen₁.
        then_here k Q (m + fresh_all es) (n + (fresh e + fresh_all es)) u r (omega arith)
        (known_more u R Q more₁ seen) within₁
        (λ P more₂ within₂ seen₂. next P (extends_trans S Q P (extends_trans S R Q more more₁) more₂) within₂
        (seen₂, all_known_more (atoms es μ m) Q P more₂ seen₁))
