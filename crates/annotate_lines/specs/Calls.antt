-- The arguments of a call by their places, and the names among them from the highest down.
use Rattle.std.specs.Prelude.{Bool, true, false, cond, List, [], ◌∷◌, ℕ, ◌+◌, pos, ltb, leb, Option, Some, None}
use Rattle.semantics.specs.Code.{Atom, number, name}

-- an atom where it counts; else the number 0, which names nothing
unfoldable pub counted : Bool → Atom → Atom
counted true a = a
counted false a = number (pos 0)

-- the name of an atom and 1, if it is below a bound and that is more than n; else n
unfoldable pub higher : Atom → ℕ → ℕ → ℕ
higher (number z) bound n = n
higher (name y) bound n = cond (ltb n (y + 1)) (cond (leb (y + 1) bound) (y + 1) n) n

-- the highest name below a bound, of x and the names of some atoms, and 1; 0 if there is none
unfoldable pub highest : ℕ → ℕ → List Atom → ℕ
unfolding higher
highest x bound [] = higher (name x) bound 0
highest x bound (a ∷ us) = higher a bound (highest x bound us)

-- a name and 1; 0 for none
abbrev pub place_of : Option ℕ → ℕ
place_of None = 0
place_of (Some y) = y + 1
