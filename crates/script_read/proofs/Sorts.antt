-- The kinds of parts: by the tables each is a number, a name, a let, an if, a leaf or a loop.
use Rattle.prelude.specs.Kit.{ℕ, ◌+◌, suc, zero, arith, true, false, Bool, cond, ◌&&◌, not, false≢true, ◌||◌, ◌≡◌, refl}
use Rattle.prelude.specs.Kit.{◌∙◌, ap, List, [], ◌∷◌, eqb, get_or, ne_eqb, eqb-true}
use Rattle.laws.specs.Tests.{both_hold}
use Rattle.semantics.specs.Kinds.{Leaf, leaf_kind, Loop, mapping, filtering, reducing, rewriting, loop_kind}
use Rattle.semantics.specs.Syntax.{Expr}
use Rattle.semantics.specs.File as S
use Rattle.semantics.specs.File.{Shape, none, leaf_of, loop_of, shapes, shape_of, shaped, parts, part_kinds, part_count}
use Rattle.semantics.specs.File.{allowed, at_part}
use Rattle.script_read.specs.Told.{loops}

-- a table by kind and the shapes: a test that holds of both entries for each kind
module _ {A : Type 0} (test : ℕ → A → Shape → Bool) (a : A) where
  abbrev pub all_fit : ℕ → List A → List Shape → Bool
  all_fit i [] [] = true
  all_fit i [] (s ∷ l) = false
  all_fit i (b ∷ m) [] = false
  all_fit i (b ∷ m) (s ∷ l) = test i b s && all_fit (suc i) m l

  module _ (past : (n : ℕ) → test n a none ≡ true) where
    fit_at : (i j n : ℕ) (m : List A) (l : List Shape) → n ≡ i + j → all_fit i m l ≡ true →
        test n (get_or m j a) (get_or l j none) ≡ true
    fit_at i j n [] [] e f = past n
    fit_at i j n [] (s ∷ l) e f = absurd (false≢true f)
    fit_at i j n (b ∷ m) [] e f = absurd (false≢true f)
    fit_at i zero n (b ∷ m) (s ∷ l) e f =
        let g : n ≡ i = omega arith in
        rw g (both_hold (test i b s) (all_fit (suc i) m l) f).0
    fit_at i (suc j) n (b ∷ m) (s ∷ l) e f =
        fit_at (suc i) j n m l (omega arith) (both_hold (test i b s) (all_fit (suc i) m l) f).1

    pub fit : (h : S.Head) (m : List A) → all_fit 0 m (shapes h) ≡ true →
        test h.kind (get_or m h.kind a) (shape_of h) ≡ true
    fit h m f = fit_at 0 h.kind h.kind m (shapes h) (omega arith) f

-- the names of a pass, by kind
abbrev pub pass_names : ℕ → ℕ → ℕ → List ℕ
pass_names kind low high = cond (eqb kind 20) (low ∷ high ∷ []) (low ∷ [])

loop_kinds : (h : S.Head) (k : Loop) (xs : List ℕ) (c : ℕ) → h.kind ≡ loop_kind k → shape_of h ≡ loop_of k xs c →
    loops (loop_kind k) ≡ true
loop_kinds h mapping xs c i e = refl
loop_kinds h filtering xs c i e = refl
loop_kinds h reducing xs c i e = refl
loop_kinds h rewriting xs c i e = let f = rw i at e in cc

-- and how many parts come before the body: the array, and a reduce's start
abbrev pub parts_before : ℕ → ℕ
parts_before kind = suc (cond (eqb kind 20) 1 0)

pub loop_parts : (kind low high : ℕ) → loops kind ≡ true → part_count kind low high ≡ suc (parts_before kind)
unfolding part_count
loop_parts kind low high = go (eqb kind 13) refl (eqb kind 19) refl (eqb kind 20) refl
  where
    go : (a : Bool) → eqb kind 13 ≡ a → (b : Bool) → eqb kind 19 ≡ b → (c : Bool) → eqb kind 20 ≡ c →
        (a || (b || c)) ≡ true → part_count kind low high ≡ suc (parts_before kind)
    go true e b f c g l = rw (eqb-true kind 13 e)
    go false e true f c g l = rw (eqb-true kind 19 f)
    go false e false f true g l = rw (eqb-true kind 20 g)
    go false e false f false g l = absurd (false≢true l)

pass_by_kind : (h : S.Head) (k : Loop) (xs : List ℕ) (c : ℕ) → h.kind ≡ loop_kind k → shape_of h ≡ loop_of k xs c →
    (xs ≡ pass_names h.kind h.low h.high) × (c ≡ parts_before h.kind)
pass_by_kind h mapping xs c i e = let f = rw i at e in rw i (cc, cc)
pass_by_kind h filtering xs c i e = let f = rw i at e in rw i (cc, cc)
pass_by_kind h reducing xs c i e = let f = rw i at e in rw i (cc, cc)
pass_by_kind h rewriting xs c i e = let f = rw i at e in rw i (cc, cc)

module _ (h : S.Head) where
  -- the shape for kind i, which a part may have or not
  abbrev fits_kind : ℕ → Bool → Shape → Bool
  fits_kind i may none = not may || (eqb i 2 || (eqb i 3 || (eqb i 7 || eqb i 12)))
  fits_kind i may (leaf_of l) = eqb i (leaf_kind l)
  fits_kind i may (loop_of k xs c) = eqb i (loop_kind k) && eqb (part_count i h.low h.high) (suc c)

  kinds_fit : fits_kind h.kind (get_or part_kinds h.kind false) (shape_of h) ≡ true
  unfolding part_count
  kinds_fit = fit fits_kind false (λ n. refl) h part_kinds refl

  pub kind_of_leaf : (l : Leaf) → shape_of h ≡ leaf_of l → h.kind ≡ leaf_kind l
  kind_of_leaf l e = eqb-true h.kind (leaf_kind l) (rw e at kinds_fit)

  module _ (k : Loop) (xs : List ℕ) (c : ℕ) (e : shape_of h ≡ loop_of k xs c) where
    of_loop : (eqb h.kind (loop_kind k) ≡ true) × (eqb (part_count h.kind h.low h.high) (suc c) ≡ true)
    of_loop = both_hold (eqb h.kind (loop_kind k)) _ (rw e at kinds_fit)

    pub kind_of_loop : h.kind ≡ loop_kind k
    kind_of_loop = eqb-true h.kind (loop_kind k) of_loop.0

    pub is_a_loop : loops h.kind ≡ true
    is_a_loop = ap loops kind_of_loop ∙ loop_kinds h k xs c kind_of_loop e

    pub names_of_loop : xs ≡ pass_names h.kind h.low h.high
    names_of_loop = (pass_by_kind h k xs c kind_of_loop e).0

    pub count_of_loop : c ≡ parts_before h.kind
    count_of_loop = (pass_by_kind h k xs c kind_of_loop e).1

    -- a loop has its body beside its other parts
    pub parts_of_loop : part_count h.kind h.low h.high ≡ suc c
    parts_of_loop = eqb-true (part_count h.kind h.low h.high) (suc c) of_loop.1

  -- a kind whose shape is another is not the node's
  pub other_kind : (i : ℕ) → (shape_of h ≡ get_or (shapes h) i none → ⊥) → eqb h.kind i ≡ false
  other_kind i f = ne_eqb h.kind i λ e. f (ap (λ (j : ℕ). get_or (shapes h) j none) e)

  pub shaped_parts : (m : S.Read Expr) → (shape_of h ≡ none → ⊥) →
      parts m h ≡ shaped m (part_count h.kind h.low h.high) (shape_of h)
  unfolding parts
  shaped_parts m f = rw (other_kind 2 f, other_kind 3 f, other_kind 7 f, other_kind 12 f)

pub leaf_some : {l : Leaf} → leaf_of l ≡ none → ⊥
leaf_some e = let z : ◌≡◌ {A = ℕ} 0 1 = cc in omega arith

pub loop_some : {k : Loop} {xs : List ℕ} {c : ℕ} → loop_of k xs c ≡ none → ⊥
loop_some e = let z : ◌≡◌ {A = ℕ} 0 1 = cc in omega arith

-- what the node of a part is
pub data Sort (h : S.Head) : Type 0 where
  number : h.kind ≡ 2 → Sort h
  name : h.kind ≡ 3 → Sort h
  let_in : h.kind ≡ 7 → Sort h
  if_else : h.kind ≡ 12 → Sort h
  leaf : (l : Leaf) → shape_of h ≡ leaf_of l → Sort h
  loop : (k : Loop) (xs : List ℕ) (c : ℕ) → shape_of h ≡ loop_of k xs c → Sort h

pub sort_of : (h : S.Head) → allowed at_part h.kind ≡ true → Sort h
sort_of h may = go (shape_of h) refl (rw may at (kinds_fit h))
  where
    plain : (a b c d : Bool) → eqb h.kind 2 ≡ a → eqb h.kind 3 ≡ b → eqb h.kind 7 ≡ c →
        eqb h.kind 12 ≡ d → (a || (b || (c || d))) ≡ true → Sort h
    plain true b c d e f g i o = number (eqb-true h.kind 2 e)
    plain false true c d e f g i o = name (eqb-true h.kind 3 f)
    plain false false true d e f g i o = let_in (eqb-true h.kind 7 g)
    plain false false false true e f g i o = if_else (eqb-true h.kind 12 i)
    plain false false false false e f g i o = absurd (false≢true o)

    go : (s : Shape) → shape_of h ≡ s → fits_kind h h.kind true s ≡ true → Sort h
    go none e f = plain _ _ _ _ refl refl refl refl f
    go (leaf_of l) e f = leaf l e
    go (loop_of k xs c) e f = loop k xs c e
