-- The tables of names, and the loops over atoms and parameters.
use Rattle.prelude.specs.Kit.{ℕ, ◌≤◌, ◌+◌, ◌<◌, ◌-◌, suc, arith, ℕ_discrete, add-one, true, false, Bool, cond}
use Rattle.prelude.specs.Kit.{◌&&◌, ◌||◌, ◌≡◌, refl, ◌∙◌, sym, ap, fun_ext, List, [], ◌∷◌, ◌++◌, map}
use Rattle.prelude.specs.Kit.{append_assoc, append-nil, eqb, ℤ, pos, negsuc, length, get_or, set, length-set, take}
use Rattle.prelude.specs.Kit.{length-take, drop_of_length-le, get_or-set_other, get_or-set_same, drop-cons, get_or-take}
use Rattle.prelude.specs.Kit.{drop, take-suc-set, ne_eqb, eq-eqb, or-true, or-false}
use Rattle.std.specs.Prelude.{Some, None}
use Rattle.semantics.specs.Basics.{updated}
use Rattle.semantics.specs.Code as C
use Rattle.semantics.specs.Live.{Set, ◌∪◌, only, just}
use Rattle.semantics.specs.Types.{same}
use Rattle.semantics.specs.Annotate.{NameDepths, atom_depth}
use Rattle.semantics_lent.specs.Fit.{with_name, in_scope, all_in_scope}
use Rattle.machine_code.specs.Reading.{low_bits, atom_at}
use Rattle.lent_fit_lines.specs.Walk.{set_of, depths_of, bound_of, meant, atoms_from, Gathered, second_at}
use Rattle.lent_fit_lines.specs.Walk.{depths_from}

-- ---- tables

module _ (s : List Bool) (x : ℕ) (h : x < length s) where
  pub set_with : set_of (set s x true) ≡ set_of s ∪ only x
  set_with = fun_ext (λ y. go y (ℕ_discrete x y))
    where
      go : (y : ℕ) → Dec (x ≡ y) → get_or (set s x true) y false ≡ (get_or s y false || eqb x y)
      go y (yes e) = rw (← e, eq-eqb x x refl) (get_or-set_same s x true false h ∙ sym (or-true (get_or s x false)))
      go y (no f) =
          rw (ne_eqb x y f)
          (get_or-set_other s x y true false (λ p. f (sym p)) ∙ sym (or-false (get_or s y false)))

pub depths_with : (g : List ℕ) (x d : ℕ) → x < length g → depths_of (set g x d) ≡ updated (depths_of g) x d
unfolding updated
depths_with g x d h = fun_ext (λ y. go y (ℕ_discrete x y))
  where
    go : (y : ℕ) → Dec (x ≡ y) → get_or (set g x d) y 0 ≡ cond (eqb x y) d (get_or g y 0)
    go y (yes e) = rw (← e, eq-eqb x x refl) (get_or-set_same g x d 0 h)
    go y (no f) = rw (ne_eqb x y f) (get_or-set_other g x y d 0 (λ p. f (sym p)))

pub bound_with : (b : List Bool) (g : List ℕ) (x d : ℕ) → x < length b → x < length g →
    bound_of (set b x true) (set g x d) ≡ with_name x d (bound_of b g)
bound_with b g x d h k = λ i. record { names = set_with b x h i; depths = depths_with g x d k i }

-- ---- atoms

module _ (K : List ℕ) (O : List ℤ) (at n : ℕ) where
  pub turn : (i : ℕ) → i < n →
      atoms_from K O (n - i) (at + i) ≡ meant (atom_at K O (at + i)) ∷ atoms_from K O (n - (i + 1)) (at + (i + 1))
  unfolding atoms_from
  turn i h =
      let e : n - i ≡ suc (n - (i + 1)) = omega arith in
      let f : at + (i + 1) ≡ at + i + 1 = omega arith in
      rw (e, f) refl

module _ (S : Set) (Γ : NameDepths) (K : List ℕ) (O : List ℤ) (at n : ℕ) where
  -- the first i of n atoms were read
  pub record Gathering (i : ℕ) (ds : List ℕ) : Type 0 where
    pub few : i ≤ n
    pub scope : all_in_scope S (atoms_from K O n at) ≡ all_in_scope S (atoms_from K O (n - i) (at + i))
    pub depths : map (atom_depth Γ) (atoms_from K O n at)
        ≡ take i ds ++ map (atom_depth Γ) (atoms_from K O (n - i) (at + i))
    pub long : length ds ≡ 16

  module _ {i : ℕ} {ds : List ℕ} (g : Gathering i ds) where
    scope_turn : i < n → all_in_scope S (atoms_from K O (n - i) (at + i))
        ≡ (in_scope S (meant (atom_at K O (at + i))) && all_in_scope S (atoms_from K O (n - (i + 1)) (at + (i + 1))))
    scope_turn h = ap (all_in_scope S) (turn K O at n i h)

    pub gathering_stops : i < n → false ≡ in_scope S (meant (atom_at K O (at + i))) →
        Gathered S Γ (atoms_from K O n at) n None
    gathering_stops h e = record {
      is = sym (g.scope ∙ scope_turn h
          ∙ ap (λ (b : Bool). b && all_in_scope S (atoms_from K O (n - (i + 1)) (at + (i + 1)))) (sym e));
      depths = tt;
    }

    pub gathering_goes : i < n → n ≤ 16 → true ≡ in_scope S (meant (atom_at K O (at + i))) → (v : ℕ) →
        v ≡ atom_depth Γ (meant (atom_at K O (at + i))) → Gathering (i + 1) (set ds i v)
    gathering_goes h m e v f = record {
      few = omega arith;
      scope = g.scope ∙ scope_turn h
          ∙ ap (λ (b : Bool). b && all_in_scope S (atoms_from K O (n - (i + 1)) (at + (i + 1)))) (sym e);
      depths = g.depths
          ∙ ap (λ (l : List C.Atom). take i ds ++ map (atom_depth Γ) l) (turn K O at n i h)
          ∙ sym (append_assoc (take i ds) (atom_depth Γ (meant (atom_at K O (at + i))) ∷ []) rest)
          ∙ ap (λ (w : ℕ). (take i ds ++ (w ∷ [])) ++ rest) (sym f)
          ∙ ap (λ (l : List ℕ). l ++ rest) (sym longer);
      long = length-set ds i v ∙ g.long;
    }
      where
        rest : List ℕ
        rest = map (atom_depth Γ) (atoms_from K O (n - (i + 1)) (at + (i + 1)))

        longer : take (i + 1) (set ds i v) ≡ take i ds ++ (v ∷ [])
        longer = rw add-one (take-suc-set ds i v (omega (arith, g.long, m)))

    pub gathering_ends : n ≤ i → Gathered S Γ (atoms_from K O n at) n (Some ds)
    unfolding atoms_from
    gathering_ends h =
        let e : n - i ≡ 0 = omega arith in
        let f : i ≡ n = omega (arith, g.few) in
        record {
          is = sym (g.scope ∙ rw e);
          depths = (sym (g.depths ∙ rw (e, f) (append-nil (take n ds))), g.long);
        }

-- ---- parameters

-- the parameters from line p on have the first n depths
abbrev pub Matched : List ℤ → ℕ → ℕ → List ℕ → ℕ → Type 0
Matched O p n ds i = same (depths_from O n p) (take n ds) ≡ same (depths_from O (n - i) (p + i)) (drop i (take n ds))

module _ (O : List ℤ) (p n : ℕ) (ds : List ℕ) (l : n ≤ length ds) where
  match_step : (i : ℕ) → i < n →
      same (depths_from O (n - i) (p + i)) (drop i (take n ds)) ≡
      (eqb (second_at O (p + i)) (get_or ds i 0) && same (depths_from O (n - (i + 1)) (p + (i + 1)))
      (drop (i + 1) (take n ds)))
  unfolding depths_from
  match_step i h =
      let e : n - i ≡ suc (n - (i + 1)) = omega arith in
      let f : p + (i + 1) ≡ p + i + 1 = omega arith in
      rw (e, f, drop-cons (take n ds) i 0 (simp length-take (omega arith)), get_or-take n ds i 0 h, ← add-one i)

  pub match_goes : (i : ℕ) → i < n → second_at O (p + i) ≡ get_or ds i 0 → Matched O p n ds i → Matched O p n ds (i + 1)
  match_goes i h e v = v ∙ match_step i h ∙ rw (eq-eqb (second_at O (p + i)) (get_or ds i 0) e)

  pub match_not : (i : ℕ) → i < n → (second_at O (p + i) ≡ get_or ds i 0 → ⊥) → Matched O p n ds i →
      false ≡ same (depths_from O n p) (take n ds)
  match_not i h e v = sym (v ∙ match_step i h ∙ rw (ne_eqb (second_at O (p + i)) (get_or ds i 0) e))

  pub match_all : (i : ℕ) → n ≤ i → Matched O p n ds i → true ≡ same (depths_from O n p) (take n ds)
  unfolding depths_from
  match_all i h v =
      let e : n - i ≡ 0 = omega arith in
      sym (v ∙ rw (e, drop_of_length-le (take n ds) {i = i} (simp length-take (omega arith))))
