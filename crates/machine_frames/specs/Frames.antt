-- The frames of all calls in progress in one list of words: 256 for each, main's last, then one for each with the
-- number of its function, and then how many cells are free and the least number that was.
use Rattle.std.specs.Prelude.{cond, List, [], ◌∷◌, ℕ, zero, suc, ◌+◌, ◌-◌, ◌*◌, ◌%◌, ℤ, pos, ltb, get_or, set, length}
use Rattle.semantics.specs.Number.{is_zero}
use Rattle.machine_code.specs.Reading.{low_bits, name_at, atom_at, is_atom, depth_in, end_in}
use Rattle.kinds.specs.declared.Atom.{Atom}
use Rattle.kinds.specs.declared.Atom.TheVariants.{Number, Name}

-- how many words there are
abbrev pub frame_words : ℕ
frame_words = 8226

-- the place of a name's word, in the frame of a call below which so many more can be nested
abbrev pub place : ℕ → ℕ → ℕ
place calls x = 256 * calls + x

-- the place of the number of the function that is worked in such a frame
abbrev pub function_place : ℕ → ℕ
function_place calls = 8192 + calls

abbrev pub function_of : ℕ → List ℤ → ℕ
function_of calls env = low_bits (get_or env (function_place calls) (pos 0)) % 256

-- ---- levels

-- the places of the number of free cells, and of the least such number
abbrev pub level_place : ℕ
level_place = 8224

abbrev pub lowest_place : ℕ
lowest_place = 8225

abbrev pub level_of : List ℤ → ℕ
level_of env = low_bits (get_or env level_place (pos 0))

abbrev pub lowest_of : List ℤ → ℕ
lowest_of env = low_bits (get_or env lowest_place (pos 0))

-- n cells are free, as never fewer were
abbrev pub levelled : ℕ → List ℤ → List ℤ
levelled n env = set (set env level_place (pos n)) lowest_place (pos n)

-- n cells are free after an acquire
unfoldable pub noted : ℕ → List ℤ → List ℤ
noted n env = cond (ltb n (lowest_of env)) (levelled n env) (set env level_place (pos n))

-- k cells more are free after a release
unfoldable pub raised : ℕ → List ℤ → List ℤ
raised k env = set env level_place (pos (level_of env + k))

-- ---- names and arguments

-- the element depth of an array by its name, in the function that is worked
abbrev pub element_depth : List ℕ → ℕ → ℕ → List ℤ → ℕ
element_depth table calls x env = depth_in table (function_of calls env) x - 1

abbrev pub word_of : ℕ → List ℤ → Atom → ℤ
word_of calls env (Number z) = z
word_of calls env (Name x) = get_or env (place calls x) (pos 0)

-- the words of the atoms that stand from a position on, at most n
unfoldable pub words_at : ℕ → List ℕ → List ℤ → ℕ → List ℤ → ℕ → List ℤ
words_at zero kinds operands calls env at = []
words_at (suc n) kinds operands calls env at =
    cond (is_atom (get_or kinds at 0))
    (word_of calls env (atom_at kinds operands at) ∷ words_at n kinds operands calls env (at + 1))
    []

-- the words of n atoms from a position on, at most m
unfoldable pub arguments_at : ℕ → ℕ → List ℕ → List ℤ → ℕ → List ℤ → ℕ → List ℤ
arguments_at zero n kinds operands calls env at = []
arguments_at (suc m) zero kinds operands calls env at = []
arguments_at (suc m) (suc n) kinds operands calls env at =
    word_of calls env (atom_at kinds operands at) ∷ arguments_at m n kinds operands calls env (at + 1)

-- the same, at most 8, or none where not all of these rows, and of as many rows with names, are within the code
unfoldable pub arguments_within : ℕ → ℕ → List ℕ → List ℤ → ℕ → List ℤ → ℕ → List ℤ
arguments_within n names kinds operands calls env at =
    cond (ltb (length kinds) (at + n)) []
    (cond (ltb (length kinds) (names + n)) [] (arguments_at 8 n kinds operands calls env at))

-- words written to the names that the rows from a position on have, in the frame of a call
unfoldable pub put_named : List ℤ → ℕ → List ℤ → ℕ → List ℤ → List ℤ
put_named operands calls [] names env = env
put_named operands calls (w ∷ ws) names env =
    put_named operands calls ws (names + 1) (set env (place calls (name_at operands names)) w)

-- the frame of a call of function f, whose parameters' lines begin at a position, with these arguments
abbrev pub called : List ℤ → ℕ → ℕ → ℕ → List ℤ → List ℤ → List ℤ
called operands calls names f ws env =
    set (put_named operands calls ws names env) (function_place calls) (pos f)

-- the first of an if's trees is at a position; a guard of 0 takes the second
abbrev pub branch_start : List ℕ → ℤ → ℕ → ℕ
branch_start table guard at = cond (is_zero guard) (end_in table at) at

-- the position after an if, by the position after the tree that was worked
abbrev pub branch_end : List ℕ → ℤ → ℕ → ℕ
branch_end table guard next = cond (is_zero guard) next (end_in table next)
