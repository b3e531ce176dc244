-- What `fit` accepts fits and is scoped.
use Rattle.std.specs.Prelude.{ℕ, ◌≤◌, ◌<◌, suc, zero, pred, true, false, Bool, ◌&&◌, not, ◌||◌, ◌≡◌, refl, ◌≢◌, ◌⊎◌}
use Rattle.std.specs.Prelude.{List, [], ◌∷◌, map, eqb, length}
use Rattle.prelude.specs.Kit.{arith, false≢true, true≢false, ◌∙◌, sym, ap, ap₂, inl, inr, eq-eqb, eqb-true, not-true}
use Rattle.semantics.specs.Basics.{updated}
use Rattle.semantics.specs.Kinds.{Loop, mapping, filtering, reducing, rewriting}
use Rattle.semantics.specs.Code.{Atom, number, name}
use Rattle.semantics.specs.Live.{Set, ◌∪◌, only, just}
use Rattle.semantics.specs.Annotate.{NameDepths, atom_depth, depth_of, pass_depths}
use Rattle.semantics_lent.specs.Fit.{Bound, with_name, with_names, all_new, in_scope, all_in_scope}
use Rattle.discipline.proofs.machine.Discipline.{Known, AllKnown, AllNew}
use Rattle.laws.specs.Updates.{updated_same, updated_other}
use Rattle.lent_passing.specs.Reading.{LoopFormed}

-- ---- tests

pub both : (a b : Bool) → (a && b) ≡ true → (a ≡ true) × (b ≡ true)
both true b e = (refl, e)
both false b e = absurd (false≢true e)

pub or_left : (a b : Bool) → a ≡ true → (a || b) ≡ true
or_left true b e = refl
or_left false b e = absurd (false≢true e)

pub or_right : (a b : Bool) → b ≡ true → (a || b) ≡ true
or_right true b e = refl
or_right false b e = e

pub or_cases : (a b : Bool) → (a || b) ≡ true → (a ≡ true) ⊎ (b ≡ true)
or_cases true b e = inl refl
or_cases false b e = inr e

pub not_both : (a : Bool) {C : Type 0} → a ≡ true → a ≡ false → C
not_both a e f = absurd (true≢false (sym e ∙ f))

pub neither : (a b : Bool) → (a || b) ≡ false → (a ≡ false) × (b ≡ false)
neither true b e = absurd (true≢false e)
neither false b e = (refl, e)

pub false_or : (a : Bool) → (a ≡ true → ⊥) → a ≡ false
false_or true f = absurd (f refl)
false_or false f = refl

-- ---- names

-- a set within another
abbrev pub Inside : Set → Set → Type 0
Inside S B = (y : ℕ) → S y ≡ true → B y ≡ true

-- two tables give some names the same depth
abbrev pub Alike : Set → NameDepths → NameDepths → Type 0
Alike S Δ Γ = (y : ℕ) → S y ≡ true → Γ y ≡ Δ y

-- more names were bound, and those that were bound keep their depths
pub record Grows (N M : Bound) : Type 0 where
  pub names : Inside N.names M.names
  pub depths : Alike N.names N.depths M.depths

pub grows_trans : (N M O : Bound) → Grows N M → Grows M O → Grows N O
grows_trans N M O a b = record {
  names = λ y h. b.names y (a.names y h);
  depths = λ y h. b.depths y (a.names y h) ∙ a.depths y h;
}

-- From N, in the scope S, to M: a table that has the depths of the names in scope, and of those bound since. (The name
-- of an if or a loop is bound before its trees, and has its depth after them.)
abbrev pub Later : Set → Bound → Bound → NameDepths → Type 0
Later S N M Γ = (y : ℕ) → M.names y ≡ true → ((S y ≡ true) ⊎ (N.names y ≡ false)) → Γ y ≡ M.depths y

-- so it has those of the names that were in scope
pub later_scope : (S : Set) (N M : Bound) (Γ : NameDepths) → Inside S N.names → Grows N M → Later S N M Γ →
    Alike S N.depths Γ
later_scope S N M Γ i g l y h = l y (g.names y (i y h)) (inl h) ∙ g.depths y (i y h)

-- names from 256 on have depth 0
abbrev pub Few : NameDepths → Type 0
Few Γ = (y : ℕ) → 256 ≤ y → Γ y ≡ 0

pub few_with : (Γ : NameDepths) (x d : ℕ) → x < 256 → Few Γ → Few (updated Γ x d)
few_with Γ x d h f y g = updated_other Γ x d y (λ e. omega (arith, e)) ∙ f y g

-- a new name
pub bound_with : (N : Bound) (x d : ℕ) → N.names x ≡ false → Grows N (with_name x d N)
bound_with N x d new = record {
  names = λ y h. or_left (N.names y) (eqb x y) h;
  depths = λ y h. updated_other N.depths x d y (λ e. not_both (N.names y) h (ap N.names (sym e) ∙ new));
}

-- a name bound since, with another depth
pub bound_again : (N M : Bound) (x d : ℕ) → N.names x ≡ false → Grows N M → Grows N (with_name x d M)
bound_again N M x d new g = record {
  names = λ y h. or_left (M.names y) (eqb x y) (g.names y h);
  depths = λ y h. updated_other M.depths x d y (λ e. not_both (N.names y) h (ap N.names (sym e) ∙ new))
      ∙ g.depths y h;
}

pub with_has : (N : Bound) (x d : ℕ) → (with_name x d N).names x ≡ true
with_has N x d = or_right (N.names x) (eqb x x) (eq-eqb x x refl)

pub inside_with : (S : Set) (N : Bound) (x d : ℕ) → Inside S N.names → Inside (S ∪ only x) (with_name x d N).names
inside_with S N x d i y h = elim (or_cases (S y) (eqb x y) h) [
  | inl g ↦ or_left (N.names y) (eqb x y) (i y g)
  | inr g ↦ or_right (N.names y) (eqb x y) g
]

pub outside : (S : Set) (B : Set) (x : ℕ) → Inside S B → B x ≡ false → S x ≡ false
outside S B x i e = false_or (S x) (λ h. not_both (B x) (i x h) e)

-- ---- atoms in scope

pub known : (S : Set) (a : Atom) → in_scope S a ≡ true → Known a S
known S (number z) e = tt
known S (name x) e = e

pub all_known : (S : Set) (us : List Atom) → all_in_scope S us ≡ true → AllKnown us S
all_known S [] e = tt
all_known S (a ∷ us) e =
    let b = both (in_scope S a) (all_in_scope S us) e in (known S a b.0, all_known S us b.1)

-- tables that are alike on the scope give atoms in it the same depth
module _ (S : Set) (Δ Γ : NameDepths) (l : Alike S Δ Γ) where
  pub atom_alike : (a : Atom) → Known a S → atom_depth Γ a ≡ atom_depth Δ a
  atom_alike (number z) k = refl
  atom_alike (name x) k = l x k

  pub atoms_alike : (us : List Atom) → AllKnown us S → map (atom_depth Γ) us ≡ map (atom_depth Δ) us
  atoms_alike [] k = refl
  atoms_alike (a ∷ us) k = ap₂ (λ (d : ℕ) (ds : List ℕ). d ∷ ds) (atom_alike a k.0) (atoms_alike us k.1)

  pub depth_alike : (us : List Atom) (j : ℕ) → AllKnown us S → depth_of Γ us j ≡ depth_of Δ us j
  depth_alike [] j k = refl
  depth_alike (a ∷ us) zero k = atom_alike a k.0
  depth_alike (a ∷ us) (suc j) k = depth_alike us j k.1

  pub pass_alike : (k : Loop) (us : List Atom) → AllKnown us S → pass_depths k Γ us ≡ pass_depths k Δ us
  pass_alike mapping us h = ap (λ (d : ℕ). pred d ∷ []) (depth_alike us 0 h)
  pass_alike filtering us h = ap (λ (d : ℕ). pred d ∷ []) (depth_alike us 0 h)
  pass_alike reducing us h =
      ap₂ (λ (d e : ℕ). d ∷ (pred e ∷ [])) (depth_alike us 0 h) (depth_alike us 1 h)
  pass_alike rewriting us h = ap (λ (d : ℕ). pred d ∷ []) (depth_alike us 0 h)

-- ---- the names of a pass

abbrev pub AllSmall : List ℕ → Type 0
AllSmall [] = Unit {0}
AllSmall (x ∷ xs) = (x < 256) × AllSmall xs

-- new names with as many depths
pub record NamesWith (ps ds : List ℕ) (N : Bound) : Type 0 where
  pub grows : Grows N (with_names ps ds N)
  pub has : Inside (just ps) (with_names ps ds N).names
  pub gives : map (with_names ps ds N).depths ps ≡ ds
  pub few : Few N.depths → Few (with_names ps ds N).depths

pub names_with : (ps ds : List ℕ) (N : Bound) → length ps ≡ length ds → AllSmall ps → all_new ps N.names ≡ true →
    NamesWith ps ds N
names_with [] [] N e s h = record {
  grows = record { names = λ y h. h; depths = λ y h. refl };
  has = λ y h. absurd (false≢true h);
  gives = refl;
  few = λ f. f;
}
names_with [] (d ∷ ds) N e s h = absurd (omega (arith, e))
names_with (x ∷ xs) [] N e s h = absurd (omega (arith, e))
names_with (x ∷ xs) (d ∷ ds) N e s h =
    let b = both (not (N.names x)) (all_new xs (N.names ∪ only x)) h in
    let M = with_name x d N in
    let rest = names_with xs ds M (omega (arith, e)) s.1 b.1 in
    record {
      grows = grows_trans N M (with_names xs ds M) (bound_with N x d (not-true (N.names x) b.0)) rest.grows;
      has = λ y g. elim (or_cases (eqb x y) (just xs y) g) [
        | inl i ↦ rest.grows.names y (or_right (N.names y) (eqb x y) i)
        | inr i ↦ rest.has y i
      ];
      gives = ap₂ (λ (a : ℕ) (l : List ℕ). a ∷ l)
          (rest.grows.depths x (with_has N x d) ∙ updated_same N.depths x d) rest.gives;
      few = λ f. rest.few (few_with N.depths x d s.0 f);
    }

pub pass_small : (k : Loop) (ps : List ℕ) (n : ℕ) → LoopFormed k ps n → AllSmall ps
pass_small mapping [] n h = tt
pass_small mapping (p ∷ []) n h = (h.0, tt)
pass_small mapping (p ∷ q ∷ ps) n h = absurd h.0
pass_small filtering [] n h = tt
pass_small filtering (p ∷ []) n h = (h.0, tt)
pass_small filtering (p ∷ q ∷ ps) n h = absurd h.0
pass_small reducing [] n h = tt
pass_small reducing (p ∷ []) n h = absurd h.0
pass_small reducing (p ∷ q ∷ []) n h = (h.0.0, (h.0.1, tt))
pass_small reducing (p ∷ q ∷ r ∷ ps) n h = absurd h.0
pass_small rewriting [] n h = tt
pass_small rewriting (p ∷ []) n h = (h.0, tt)
pass_small rewriting (p ∷ q ∷ ps) n h = absurd h.0

pub pass_count : (k : Loop) (ps : List ℕ) (n : ℕ) (Γ : NameDepths) (us : List Atom) → LoopFormed k ps n →
    length ps ≡ length (pass_depths k Γ us)
pass_count mapping [] n Γ us h = absurd h.0
pass_count mapping (p ∷ []) n Γ us h = refl
pass_count mapping (p ∷ q ∷ ps) n Γ us h = absurd h.0
pass_count filtering [] n Γ us h = absurd h.0
pass_count filtering (p ∷ []) n Γ us h = refl
pass_count filtering (p ∷ q ∷ ps) n Γ us h = absurd h.0
pass_count reducing [] n Γ us h = absurd h.0
pass_count reducing (p ∷ []) n Γ us h = absurd h.0
pass_count reducing (p ∷ q ∷ []) n Γ us h = refl
pass_count reducing (p ∷ q ∷ r ∷ ps) n Γ us h = absurd h.0
pass_count rewriting [] n Γ us h = absurd h.0
pass_count rewriting (p ∷ []) n Γ us h = refl
pass_count rewriting (p ∷ q ∷ ps) n Γ us h = absurd h.0

-- they are new in a scope of names that are bound
pub all_are_new : (ps : List ℕ) (S B : Set) → Inside S B → AllSmall ps → all_new ps B ≡ true → AllNew ps S
all_are_new [] S B i s h = tt
all_are_new (x ∷ xs) S B i s h =
    let b = both (not (B x)) (all_new xs (B ∪ only x)) h in (
      record { unknown = outside S B x i (not-true (B x) b.0); small = s.0 },
      all_are_new xs (S ∪ only x) (B ∪ only x) (λ y g. elim (or_cases (S y) (eqb x y) g) [
        | inl j ↦ or_left (B y) (eqb x y) (i y j)
        | inr j ↦ or_right (B y) (eqb x y) j
      ]) s.1 b.1,
    )

-- none of them was bound
pub none_bound : (ps : List ℕ) (B : Set) (y : ℕ) → all_new ps B ≡ true → just ps y ≡ true → B y ≡ false
none_bound [] B y h g = absurd (false≢true g)
none_bound (x ∷ xs) B y h g =
    let b = both (not (B x)) (all_new xs (B ∪ only x)) h in
    elim (or_cases (eqb x y) (just xs y) g) [
      | inl i ↦ ap B (sym (eqb-true x y i)) ∙ not-true (B x) b.0
      | inr i ↦ (neither (B y) (eqb x y) (none_bound xs (B ∪ only x) y b.1 i)).0
    ]

pub map_alike : (ps : List ℕ) (Γ Δ : NameDepths) → Alike (just ps) Δ Γ → map Γ ps ≡ map Δ ps
map_alike [] Γ Δ h = refl
map_alike (x ∷ xs) Γ Δ h =
    ap₂ (λ (a : ℕ) (l : List ℕ). a ∷ l) (h x (or_left (eqb x x) (just xs x) (eq-eqb x x refl)))
    (map_alike xs Γ Δ (λ y g. h y (or_right (eqb x y) (just xs y) g)))
