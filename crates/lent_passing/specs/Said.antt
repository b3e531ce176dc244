-- What `form` reads stands in the rows.
use Rattle.std.specs.Prelude.{ℕ, ◌≤◌, ◌+◌, ◌<◌, suc, zero, ◌*◌, ◌%◌, ◌/◌, true, false, Bool, cond, ◌&&◌, ◌≡◌, refl}
use Rattle.std.specs.Prelude.{List, [], ◌∷◌, ◌++◌, map, eqb, ltb, leb, ℤ, pos, negsuc, length, get_or, drop}
use Rattle.prelude.specs.Kit.{arith, false≢true, ◌∙◌, sym, ap, subst, ap₂, some, none, Option, eqb-true, ltb-true}
use Rattle.prelude.specs.Kit.{leb-true}
use Rattle.semantics.specs.Kinds.{Leaf, operation, call, literal, index, length_of, iota, replicate, leaf_kind}
use Rattle.semantics.specs.Kinds.{leaf_operand, loop_kind, packed_names}
use Rattle.semantics.specs.Code.{Atom, number, Row, atom_row}
use Rattle.semantics_lent.specs.Form.{first_limits, second_limits, third_limits, Parts, parts_of, some_parts, Seen}
use Rattle.semantics_lent.specs.Form.{named, as_atom, out_of_range, no_atom, seen_as, atoms_before, and_atom, Form}
use Rattle.semantics_lent.specs.Form.{leaf_line, if_line, loop_line, retain_line, release_line, end_line, no_line}
use Rattle.semantics_lent.specs.Form.{form_of, forms}
use Rattle.lent_passing.specs.Reading.{SmallAtom, SmallAtoms, LoopFormed}

-- ---- operands

-- an operand packed from parts
abbrev pub packing : Parts → ℕ
packing q = q.first + 256 * q.second + 65536 * q.third

-- the parts are in range for a kind
pub record Within (k : ℕ) (q : Parts) : Type 0 where
  pub first : q.first ≤ get_or first_limits k 0
  pub second : q.second ≤ get_or second_limits k 0
  pub third : q.third ≤ get_or third_limits k 0
  pub small : (q.first < 256) × (q.second < 256)

abbrev pub PartsSay : ℕ → ℤ → Option Parts → Type 0
PartsSay k z (some q) = (z ≡ pos (packing q)) × Within k q
PartsSay k z none = Unit {0}

both : (a b : Bool) → (a && b) ≡ true → (a ≡ true) × (b ≡ true)
both true b e = (refl, e)
both false b e = absurd (false≢true e)

parts_if : (k n : ℕ) (a b c : Bool) → leb (n % 256) (get_or first_limits k 0) ≡ a →
    leb (n / 256 % 256) (get_or second_limits k 0) ≡ b → leb (n / 65536) (get_or third_limits k 0) ≡ c →
    PartsSay k (pos n)
    (some_parts (a && (b && c)) (record { first = n % 256; second = n / 256 % 256; third = n / 65536 }))
parts_if k n true true true e f g = (
  ap (λ (m : ℕ). pos m) (let z : n ≡ n % 256 + 256 * (n / 256 % 256) + 65536 * (n / 65536) = omega arith in z),
  record {
    first = leb-true (n % 256) (get_or first_limits k 0) e;
    second = leb-true (n / 256 % 256) (get_or second_limits k 0) f;
    third = leb-true (n / 65536) (get_or third_limits k 0) g;
    small = (omega arith, omega arith);
  },
)
parts_if k n true true false e f g = tt
parts_if k n true false c e f g = tt
parts_if k n false b c e f g = tt

pub parts_say : (k : ℕ) (z : ℤ) → PartsSay k z (parts_of k z)
parts_say k (pos n) = parts_if k n _ _ _ refl refl refl
parts_say k (negsuc n) = tt

-- ---- atoms

abbrev SeenSays : Row → Seen → Type 0
SeenSays r (as_atom a) = (r ≡ atom_row a) × SmallAtom a
SeenSays r out_of_range = Unit {0}
SeenSays r no_atom = Unit {0}

pub row_is : (r : Row) (k : ℕ) (z : ℤ) → r.kind ≡ k → r.operand ≡ z → r ≡ record { kind = k; operand = z }
row_is r k z e f = ap₂ (λ (j : ℕ) (y : ℤ). record { kind = j; operand = y }) e f

named_says : (r : Row) → r.kind ≡ 3 → (o : Option Parts) → PartsSay 3 r.operand o → SeenSays r (named o)
named_says r e (some q) h = (
  row_is r 3 (pos q.first) e
      (h.0 ∙ ap (λ (m : ℕ). pos m) (let z : packing q ≡ q.first = omega (arith, h.1.second, h.1.third) in z)),
  h.1.small.0,
)
named_says r e none h = tt

seen_says : (r : Row) → SeenSays r (seen_as r)
seen_says r = by_two (eqb r.kind 2) refl
  where
    by_three : (c : Bool) → eqb r.kind 3 ≡ c → SeenSays r (cond c (named (parts_of 3 r.operand)) no_atom)
    by_three true e = named_says r (eqb-true r.kind 3 e) (parts_of 3 r.operand) (parts_say 3 r.operand)
    by_three false e = tt

    by_two : (b : Bool) → eqb r.kind 2 ≡ b →
        SeenSays r (cond b (as_atom (number r.operand))
        (cond (eqb r.kind 3) (named (parts_of 3 r.operand)) no_atom))
    by_two true e = (row_is r 2 r.operand (eqb-true r.kind 2 e) refl, tt)
    by_two false e = by_three (eqb r.kind 3) refl

-- the atoms before some rows' first line that is none
abbrev pub AtomsSay : List Row → Option (List Atom) → Type 0
AtomsSay rs (some us) = (rs ≡ map atom_row us ++ drop (length us) rs) × SmallAtoms us
AtomsSay rs none = Unit {0}

pub atoms_say : (rs : List Row) → AtomsSay rs (atoms_before rs)
unfolding atoms_before
atoms_say [] = (refl, tt)
atoms_say (r ∷ rs) = go (seen_as r) (seen_says r) (atoms_before rs) (atoms_say rs)
  where
    go : (s : Seen) → SeenSays r s → (o : Option (List Atom)) → AtomsSay rs o →
        AtomsSay (r ∷ rs) (elim s [ as_atom a ↦ and_atom a o | out_of_range ↦ none | no_atom ↦ some [] ])
    go (as_atom a) h (some us) g = (
      ap₂ (λ (q : Row) (l : List Row). q ∷ l) h.0 g.0,
      (h.1, g.1),
    )
    go (as_atom a) h none g = tt
    go out_of_range h o g = tt
    go no_atom h o g = (refl, tt)

-- ---- kinds

-- what is asked of a leaf with m atoms, in code of n functions
abbrev pub LeafCalls : ℕ → Leaf → ℕ → Type 0
LeafCalls n (operation o) m = m ≡ 2
LeafCalls n (call f) m = f < n
LeafCalls n (literal d) m = (m ≤ 16) × (d ≤ 3)
LeafCalls n index m = m ≡ 2
LeafCalls n length_of m = m ≡ 1
LeafCalls n iota m = m ≡ 1
LeafCalls n replicate m = m ≡ 2

-- the number of atoms is as wanted, where it is tested
abbrev pub Has : Option ℕ → ℕ → Type 0
Has (some n) m = m ≡ n
Has none m = Unit {0}

-- the same by the numbers of the functions' parameters, where they are known
abbrev pub LeafSays : List (Option ℕ) → Leaf → ℕ → Type 0
LeafSays arities (operation o) m = m ≡ 2
LeafSays arities (call f) m = (f < 32) × ((f < length arities) × Has (get_or arities f none) m)
LeafSays arities (literal d) m = (m ≤ 16) × (d ≤ 3)
LeafSays arities index m = m ≡ 2
LeafSays arities length_of m = m ≡ 1
LeafSays arities iota m = m ≡ 1
LeafSays arities replicate m = m ≡ 2

-- over the numbers of the functions' parameters
module _ (arities : List (Option ℕ)) (q : Parts) where
  -- a kind and an operand are those of a line
  abbrev pub FormSays : ℕ → Form → Type 0
  FormSays k (leaf_line l w) =
      (k ≡ leaf_kind l) × ((m : ℕ) → Has w m →
      LeafSays arities l m × (packing q ≡ leaf_operand l q.first m))
  FormSays k if_line = (k ≡ 12) × (packing q ≡ q.first)
  FormSays k (loop_line j ps n) =
      (k ≡ loop_kind j) × (LoopFormed j ps n × (packing q ≡ q.first + 256 * packed_names ps))
  FormSays k retain_line = (k ≡ 14) × (packing q ≡ q.first)
  FormSays k release_line = (k ≡ 15) × (packing q ≡ q.first)
  FormSays k end_line = (k ≡ 16) × (packing q ≡ 0)
  FormSays k no_line = Unit {0}

  -- each of some forms, of the kinds from i on
  abbrev AllSay : ℕ → List Form → Type 0
  AllSay i [] = Unit {0}
  AllSay i (F ∷ Fs) = (Within i q → FormSays i F) × AllSay (suc i) Fs

  say_at : (Fs : List Form) (i k : ℕ) → AllSay i Fs → Within (i + k) q → FormSays (i + k) (get_or Fs k no_line)
  say_at [] i k h w = tt
  say_at (F ∷ Fs) i zero h w =
      let z : i + 0 ≡ i = omega arith in
      subst (λ (j : ℕ). FormSays j F) (sym z) (h.0 (subst (λ (j : ℕ). Within j q) z w))
  say_at (F ∷ Fs) i (suc k) h w =
      let z : i + suc k ≡ suc i + k = omega arith in
      subst (λ (j : ℕ). FormSays j (get_or Fs k no_line)) (sym z)
      (say_at Fs (suc i) k h.1 (subst (λ (j : ℕ). Within j q) z w))

  call_says : (c : Bool) → ltb q.second (length arities) ≡ c → Within 8 q →
      FormSays 8 (cond c (leaf_line (call q.second) (get_or arities q.second none)) no_line)
  call_says true e w =
      (refl, λ m h. ((omega (arith, w.second), (ltb-true q.second (length arities) e, h)), omega (arith, w.third)))
  call_says false e w = tt

  literal_operand : (m : ℕ) → m ≡ q.second → packing q ≡ q.first + 256 * m + 65536 * q.third
  literal_operand m h = ap (λ (n : ℕ). q.first + 256 * n + 65536 * q.third) (sym h)

  all_say : AllSay 0 (forms arities q)
  all_say = (
    λ w. tt,
    (
      λ w. tt,
      (
        λ w. tt,
        (
          λ w. tt,
          (
            λ w. (refl, λ m h. (h, omega (arith, w.second, w.third))),
            (
              λ w. (refl, λ m h. (h, omega (arith, w.second, w.third))),
              (
                λ w. (refl, λ m h. (h, omega (arith, w.second, w.third))),
                (
                  λ w. tt,
                  (
                    call_says (ltb q.second (length arities)) refl,
                    (
                      λ w. (refl, λ m h. ((omega (arith, w.second, h), w.third), literal_operand m h)),
                      (
                        λ w. (refl, λ m h. (h, omega (arith, w.second, w.third))),
                        (
                          λ w. (refl, λ m h. (h, omega (arith, w.second, w.third))),
                          (
                            λ w. (refl, omega (arith, w.second, w.third)),
                            (
                              λ w. (refl, ((w.small.1, refl), omega (arith, w.third))),
                              (
                                λ w. (refl, omega (arith, w.second, w.third)),
                                (
                                  λ w. (refl, omega (arith, w.second, w.third)),
                                  (
                                    λ w. (refl, omega (arith, w.first, w.second, w.third)),
                                    (
                                      λ w. (refl, λ m h. (h, omega (arith, w.second, w.third))),
                                      (
                                        λ w. (refl, λ m h. (h, omega (arith, w.second, w.third))),
                                        (
                                          λ w. (refl, ((w.small.1, refl), omega (arith, w.third))),
                                          (
                                            λ w. (refl, (((w.small.1, omega (arith, w.third)), refl), omega arith)),
                                            (λ w. (refl, ((w.small.1, refl), omega (arith, w.third))), tt),
                                          ),
                                        ),
                                      ),
                                    ),
                                  ),
                                ),
                              ),
                            ),
                          ),
                        ),
                      ),
                    ),
                  ),
                ),
              ),
            ),
          ),
        ),
      ),
    ),
  )

  pub form_says : (k : ℕ) → Within k q → FormSays k (form_of arities k q)
  form_says k w =
      let z : 0 + k ≡ k = omega arith in
      subst (λ (j : ℕ). FormSays j (form_of arities k q)) z
      (say_at (forms arities q) 0 k all_say (subst (λ (j : ℕ). Within j q) (sym z) w))
