-- The second walk by positions: what a line without trees is found to have, for rows of any content. The state of a
-- test is the position, which is the number of the line.
use Rattle.std.specs.Prelude.{◌≡◌, Bool, true, false, cond, not, ◌&&◌, ◌||◌, List, [], ◌∷◌, map, ℕ, zero, suc}
use Rattle.std.specs.Prelude.{◌+◌, ◌/◌, ◌%◌, ℤ, pos, eqb, ltb, leb, get_or, length, take, is_some, IfSome}
use Rattle.std.specs.Prelude.{Option as Optional, Some, None, Result, Ok, Err}
use Rattle.std.proofs.Math.Option.{Option, none, some}
use Rattle.semantics.specs.Outcome.{Outcome, done, stop}
use Rattle.semantics.specs.Kinds.{Loop, mapping, filtering, reducing, rewriting}
use Rattle.semantics.specs.Types.{Rule, Signature, some_if, number_rule, literal_rule, call_rule, index_rule}
use Rattle.semantics.specs.Types.{length_rule, iota_rule, replicate_rule}
use Rattle.semantics.specs.Code as C
use Rattle.semantics.specs.Live.{Set, ◌∪◌, just}
use Rattle.semantics.specs.Annotate.{NameDepths, atom_depth, depth_of, pass_depths}
use Rattle.semantics_lent.specs.Form.{Test}
use Rattle.semantics_lent.specs.Fit.{Bound, with_name, with_names, all_new, in_scope, all_in_scope, is_looped}
use Rattle.kinds.specs.declared.Atom.{Atom}
use Rattle.kinds.specs.declared.Atom.TheVariants.{Number, Name}
use Rattle.machine_code.specs.Reading.{low_bits, atom_at}
use Rattle.lent_form.specs.declared.Fault.{Fault}
use Rattle.lent_form.specs.Told.{faulty}
use Rattle.lent_fit_lines.specs.declared.Fit.{Fit}
use Rattle.lent_fit_lines.specs.declared.Wants.{Wants}
use Rattle.lent_fit_lines.specs.declared.Wants.TheVariants.{Any, Exactly, Under}

-- ---- tables as functions

abbrev pub set_of : List Bool → Set
set_of s = λ x. get_or s x false

abbrev pub depths_of : List ℕ → NameDepths
depths_of g = λ x. get_or g x 0

abbrev pub bound_of : List Bool → List ℕ → Bound
bound_of b g = record { names = set_of b; depths = depths_of g }

abbrev pub meant : Atom → C.Atom
meant (Number z) = C.number z
meant (Name x) = C.name x

-- what a tree's depth is to be
abbrev pub meets : Wants → ℕ → Bool
meets Any e = true
meets (Exactly d) e = eqb d e
meets (Under d) e = ltb e d

-- names are bound if a test holds
pub record Opened (test : Bool) (M : Bound) (r : Bool) (b : List Bool) (g : List ℕ) : Type 0 where
  pub is : r ≡ test
  pub gives : r ≡ true → bound_of b g ≡ M
  pub long : length b ≡ 256
  pub deep : length g ≡ 256

-- a line as the code tells it
abbrev pub told_line : Result ℕ Fault → List Bool → List ℕ → Outcome ℕ Bound
told_line (Ok q) b g = done (bound_of b g) q
told_line (Err e) b g = stop 29 e.line

pub record Lines (o : Outcome ℕ Bound) (r : Result ℕ Fault) (b : List Bool) (g : List ℕ) : Type 0 where
  pub is : o ≡ told_line r b g
  pub long : length b ≡ 256
  pub deep : length g ≡ 256

-- ---- reading

module _ (operands : List ℤ) where
  abbrev pub bits_at : ℕ → ℕ
  bits_at p = low_bits (get_or operands p (pos 0))

  unfoldable pub first_at : ℕ → ℕ
  first_at p = bits_at p % 256

  unfoldable pub second_at : ℕ → ℕ
  second_at p = bits_at p / 256 % 256

  unfoldable pub third_at : ℕ → ℕ
  third_at p = bits_at p / 65536

  -- the depths of so many parameters
  unfoldable pub depths_from : ℕ → ℕ → List ℕ
  depths_from zero p = []
  depths_from (suc n) p = second_at p ∷ depths_from n (p + 1)

  -- the signature of the function whose line is at p
  unfoldable pub signature_at : ℕ → Signature
  signature_at p = record { parameters = depths_from (first_at p) (p + 1); result = second_at p }

-- so many atoms
unfoldable pub atoms_from : List ℕ → List ℤ → ℕ → ℕ → List C.Atom
atoms_from kinds operands zero p = []
atoms_from kinds operands (suc n) p = meant (atom_at kinds operands p) ∷ atoms_from kinds operands n (p + 1)

-- the line of a function; 4,096 is past all
abbrev pub start_of : List ℕ → ℕ → ℕ
start_of starts f = get_or starts f 4096

-- what is found of n atoms
pub record Gathered (S : Set) (Γ : NameDepths) (us : List C.Atom) (n : ℕ) (r : Optional (List ℕ)) : Type 0 where
  pub is : is_some r ≡ all_in_scope S us
  pub depths : IfSome r (λ ds. (take n ds ≡ map (atom_depth Γ) us) × (length ds ≡ 16))

-- ---- lines without trees

-- a literal whose elements have the depth d, of depth 4 at most
abbrev pub literal_within : ℕ → Rule
literal_within d ds = cond (ltb 3 d) none (literal_rule d ds)

module _ (operands : List ℤ) (starts : List ℕ) where
  -- how many atoms the line at p has by its kind
  unfoldable pub count_at : ℕ → ℕ → ℕ
  count_at kind p =
      cond (eqb kind 8) (first_at operands (start_of starts (second_at operands p)))
      (cond (eqb kind 9) (second_at operands p) (cond (eqb kind 11) 1 (cond (eqb kind 17) 1 2)))

  unfoldable pub rule_at : ℕ → ℕ → Rule
  rule_at kind p =
      cond (eqb kind 8) (call_rule (signature_at operands (start_of starts (second_at operands p))))
      (cond (eqb kind 9) (literal_within (third_at operands p))
      (cond (eqb kind 10) index_rule
      (cond (eqb kind 11) length_rule
      (cond (eqb kind 17) iota_rule
      (cond (eqb kind 18) replicate_rule number_rule)))))

-- a line of n atoms at p that binds x, by the depth that it is found to have
abbrev pub placed : Option ℕ → ℕ → ℕ → Bound → Test Bound
placed (some d) x n N p = cond (N.names x) (stop 29 p) (done (with_name x d N) (p + suc n))
placed none x n N p = stop 29 p

abbrev pub binds : ℕ → Bool
binds kind = not (eqb kind 14 || eqb kind 15)

-- the name of a retain or a release
abbrev pub noted : Set → NameDepths → ℕ → ℕ → Result ℕ Fault
noted S Γ x p = cond (S x) (cond (eqb (Γ x) 0) (faulty p) (Ok (p + 1))) (faulty p)

abbrev pub note_fits : ℕ → Set → Bound → Test Bound
note_fits x S N p = cond (S x) (cond (eqb (N.depths x) 0) (stop 29 p) (done N (p + 1))) (stop 29 p)

module _ (kinds : List ℕ) (operands : List ℤ) (starts : List ℕ) where
  unfoldable pub leaf_fits : ℕ → Set → Bound → Test Bound
  leaf_fits kind S N p =
      let n = count_at operands starts kind p in
      let us = atoms_from kinds operands n (p + 1) in
      cond (ltb 16 n) (stop 29 p)
      (cond (all_in_scope S us)
      (placed (rule_at operands starts kind p (map (atom_depth N.depths) us)) (first_at operands p) n N p)
      (stop 29 p))

  unfoldable pub plain_fits : ℕ → Set → Bound → Test Bound
  plain_fits kind S N p =
      cond (binds kind) (leaf_fits kind S N p) (note_fits (first_at operands p) S N p)

-- ---- ends

-- an end line, by its atom
abbrev pub ended : Wants → Set → NameDepths → C.Atom → ℕ → Result Fit Fault
ended w S Γ a p =
    cond (in_scope S a && meets w (atom_depth Γ a)) (Ok (record { depth = atom_depth Γ a; next = p + 2 })) (faulty p)

-- ---- the opening of lines with trees

-- whether the guard of an if is a number that may be used, and its name is new
abbrev pub if_opens : Set → Bound → C.Atom → ℕ → Bool
if_opens S N a x = in_scope S a && (eqb (atom_depth N.depths a) 0 && not (N.names x))

abbrev pub loops : ℕ → Bool
loops kind = eqb kind 13 || (eqb kind 19 || (eqb kind 20 || eqb kind 21))

abbrev pub loop_of : ℕ → Loop
loop_of kind = cond (eqb kind 21) rewriting (cond (eqb kind 19) filtering (cond (eqb kind 20) reducing mapping))

abbrev pub loop_count : Loop → ℕ
loop_count mapping = 1
loop_count filtering = 1
loop_count reducing = 2
loop_count rewriting = 1

-- the names of a pass, of the two that an operand may have
abbrev pub pass_names : Loop → ℕ → ℕ → List ℕ
pass_names mapping y z = y ∷ []
pass_names filtering y z = y ∷ []
pass_names reducing y z = y ∷ z ∷ []
pass_names rewriting y z = y ∷ []

-- their depths, by those of the loop's first atom and of an element
abbrev pub names_depths : Loop → ℕ → ℕ → List ℕ
names_depths mapping d e = e ∷ []
names_depths filtering d e = e ∷ []
names_depths reducing d e = d ∷ e ∷ []
names_depths rewriting d e = e ∷ []

-- whether a loop may go over an array of a depth
abbrev pub goes_over : Loop → ℕ → Bool
goes_over mapping d = ltb 0 d
goes_over filtering d = ltb 0 d
goes_over reducing d = ltb 0 d
goes_over rewriting d = eqb d 1

-- the names of a pass are bound, and may be used, if they are new
pub record PassOpened (test : Bool) (M : Bound) (U : Set) (r : Bool) (b : List Bool) (g : List ℕ) (s : List Bool) :
    Type 0 where
  pub opened : Opened test M r b g
  pub scope : r ≡ true → set_of s ≡ U
  pub wide : length s ≡ 256

-- a loop of kind k over some atoms, which binds x and the names of a pass
abbrev pub loop_opens : Loop → Set → Bound → List C.Atom → ℕ → List ℕ → Bool
loop_opens k S N us x ps = all_in_scope S us && (is_looped k N.depths us && all_new (x ∷ ps) N.names)

abbrev pub loop_bound : Loop → Bound → List C.Atom → ℕ → List ℕ → Bound
loop_bound k N us x ps = with_names ps (pass_depths k N.depths us) (with_name x 0 N)

abbrev pub told_first : Bool → ℕ → Optional ℕ
told_first true d = Some d
told_first false d = None

pub record LoopOpened (k : Loop) (S : Set) (N : Bound) (us : List C.Atom) (x : ℕ) (ps : List ℕ) (r : Optional ℕ)
    (b : List Bool) (g : List ℕ) (s : List Bool) : Type 0 where
  pub is : r ≡ told_first (loop_opens k S N us x ps) (depth_of N.depths us 0)
  pub gives : loop_opens k S N us x ps ≡ true → bound_of b g ≡ loop_bound k N us x ps
  pub scope : loop_opens k S N us x ps ≡ true → set_of s ≡ S ∪ just ps
  pub long : length b ≡ 256
  pub deep : length g ≡ 256
  pub wide : length s ≡ 256

-- what depth a loop's tree is to give, by that of the loop's first atom
abbrev pub loop_wants : Loop → ℕ → Wants
loop_wants mapping d = Under 4
loop_wants filtering d = Exactly 0
loop_wants reducing d = Exactly d
loop_wants rewriting d = Exactly 0

-- a loop's depth, by those of its first atom and of its tree
abbrev pub loop_judged : Loop → ℕ → ℕ → Option ℕ
loop_judged mapping d e = some_if (leb (suc e) 4) (suc e)
loop_judged filtering d e = some_if (eqb e 0) d
loop_judged reducing d e = some_if (eqb e d) d
loop_judged rewriting d e = some_if (eqb d 1 && eqb e 0) 1
