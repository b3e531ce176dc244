-- What the type rules say of the atoms of a leaf and of a loop that fits.
use Rattle.prelude.specs.Kit.{ℕ, ◌≤◌, ◌<◌, suc, zero, pred, arith, ◌&&◌, ◌≡◌, refl, sym, ap, some, List, [], ◌∷◌, map}
use Rattle.prelude.specs.Kit.{eqb, leb, get_or, eqb-true, leb-true}
use Rattle.semantics.specs.Kinds.{mapping, filtering, reducing, rewriting}
use Rattle.semantics.specs.Types.{some_if, all_are, same, call_rule, literal_rule, index_rule, length_rule}
use Rattle.semantics.specs.Types.{replicate_rule, loop_rule, Signature}
use Rattle.semantics.specs.Code.{Atom}
use Rattle.semantics.specs.Annotate.{atom_depth}
use Rattle.laws.specs.Tests.{both_hold, some_same, not_some, some_if_holds, all_equal, same_lists}
use Rattle.discipline.proofs.machine.Frames.{Setting}
use Rattle.discipline.proofs.machine.Atoms.{AllOfDepth}

-- ---- leaves

-- a leaf on atoms of depth c, whose result is of depth e
all_fit : (C : Setting) (c : ℕ) (us : List Atom) (e d : ℕ) →
    some_if (all_are c (map (atom_depth C.depths) us)) e ≡ some d → AllOfDepth C c us × (d ≡ e)
all_fit C c us e d h =
    let ds = map (atom_depth C.depths) us in
    let holds = some_if_holds (all_are c ds) e d h in
    (all_equal c ds holds.0, sym holds.1)

pub numbers_fit : (C : Setting) (us : List Atom) (e d : ℕ) →
    some_if (all_are 0 (map (atom_depth C.depths) us)) e ≡ some d → AllOfDepth C 0 us × (d ≡ e)
numbers_fit C us e d h = all_fit C 0 us e d h

pub literal_fits : (C : Setting) (us : List Atom) (e d : ℕ) →
    literal_rule e (map (atom_depth C.depths) us) ≡ some d → AllOfDepth C e us × (d ≡ suc e)
literal_fits C us e d h = all_fit C e us (suc e) d h

pub call_fits : (C : Setting) (us : List Atom) (s : Signature) (d : ℕ) →
    call_rule s (map (atom_depth C.depths) us) ≡ some d →
    (map (atom_depth C.depths) us ≡ s.parameters) × (d ≡ s.result)
call_fits C us s d h =
    let ds = map (atom_depth C.depths) us in
    let holds = some_if_holds (same s.parameters ds) s.result d h in
    (sym (same_lists s.parameters ds holds.0), sym holds.1)

pub index_fits : (a b d : ℕ) → index_rule (a ∷ (b ∷ [])) ≡ some d → (a ≡ suc d) × (b ≡ 0)
index_fits zero b d h = not_some d h
index_fits (suc a) b d h =
    let holds = some_if_holds (eqb b 0) a d h in
    (ap suc holds.1, eqb-true b 0 holds.0)

pub length_fits : (a d : ℕ) → length_rule (a ∷ []) ≡ some d → (a ≡ suc (pred a)) × (d ≡ 0)
length_fits zero d h = not_some d h
length_fits (suc a) d h = (refl, sym (some_same 0 d h))

pub replicate_fits : (a b d : ℕ) → replicate_rule (a ∷ (b ∷ [])) ≡ some d → (a ≡ 0) × (b ≤ 3) × (d ≡ suc b)
replicate_fits zero b d h =
    let holds = some_if_holds (leb (suc b) 4) (suc b) d h in
    (refl, omega (arith, leb-true (suc b) 4 holds.0), sym holds.1)
replicate_fits (suc a) b d h = not_some d h

-- ---- loops, by the depths of their atoms, the tree's and the result's

pub map_fits : (a e d : ℕ) → loop_rule mapping (a ∷ (e ∷ [])) ≡ some d → (e ≤ 3) × (d ≡ suc e)
map_fits a e d h =
    let holds = some_if_holds (leb (suc e) 4) (suc e) d h in
    (omega (arith, leb-true (suc e) 4 holds.0), sym holds.1)

pub filter_fits : (a e d : ℕ) → loop_rule filtering (a ∷ (e ∷ [])) ≡ some d → (e ≡ 0) × (d ≡ a)
filter_fits a e d h =
    let holds = some_if_holds (eqb e 0) a d h in
    (eqb-true e 0 holds.0, sym holds.1)

pub reduce_fits : (s a e d : ℕ) → loop_rule reducing (s ∷ (a ∷ (e ∷ []))) ≡ some d → (s ≡ e) × (d ≡ s)
reduce_fits s a e d h =
    let holds = some_if_holds (eqb s e) s d h in
    (eqb-true s e holds.0, sym holds.1)

pub rewrite_fits : (a e d : ℕ) → loop_rule rewriting (a ∷ (e ∷ [])) ≡ some d → (a ≡ 1) × (e ≡ 0) × (d ≡ 1)
rewrite_fits a e d h =
    let holds = some_if_holds (eqb a 1 && eqb e 0) 1 d h in
    let both = both_hold (eqb a 1) (eqb e 0) holds.0 in
    (eqb-true a 1 both.0, eqb-true e 0 both.1, sym holds.1)

-- the name of an element, over an array of this depth
pub element_fits : (p a : ℕ) → p ≡ pred a → 0 < a → a ≡ suc p
element_fits p zero e h = absurd (omega (arith, h))
element_fits p (suc a) e h = ap suc (sym e)

pub first_same : {l m : List ℕ} → l ≡ m → get_or l 0 0 ≡ get_or m 0 0
first_same h = ap (λ (k : List ℕ). get_or k 0 0) h

pub second_same : {l m : List ℕ} → l ≡ m → get_or l 1 0 ≡ get_or m 1 0
second_same h = ap (λ (k : List ℕ). get_or k 1 0) h
