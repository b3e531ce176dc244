-- The code read at a position: what stands past the end is 0.
use Rattle.std.specs.Prelude.{◌≡◌, Bool, cond, ◌||◌, ◌&&◌, List, ℕ, suc, ◌+◌, ◌-◌, ◌*◌, ◌/◌, ◌%◌, ◌<◌, ◌≤◌, ℤ, pos, negsuc, eqb, ltb, get_or, length}
use Rattle.kinds.specs.declared.Atom.{Atom}
use Rattle.kinds.specs.declared.Atom.TheVariants.{Number, Name}
use Rattle.machine_code.specs.declared.Loop.TheVariants as P
use Rattle.machine_code.specs.declared.Line.{Line}
use Rattle.machine_code.specs.declared.Line.TheVariants.{Operation, Call, Literal, Index, Length}
use Rattle.machine_code.specs.declared.Line.TheVariants.{Iota, Replicate, If, Loop, Retain, Release, End}

-- code arrays that are cut to the lines: as many operands as kinds, at least one, and no more than a slice can have
abbrev pub Cut : List ℕ → List ℤ → Type 0
Cut kinds operands =
    (length kinds ≡ length operands) × (0 < length kinds) × (length kinds ≤ 9223372036854775807)

-- the low 24 bits of a word, which are up to three bytes of an operand
abbrev pub low_bits : ℤ → ℕ
low_bits (pos n) = n % 16777216
low_bits (negsuc n) = (18446744073709551616 - suc n) % 16777216

-- the low byte of a row's operand: the name of an atom or a parameter, or how many parameters a function has
abbrev pub name_at : List ℤ → ℕ → ℕ
name_at operands at = low_bits (get_or operands at (pos 0)) % 256

unfoldable pub atom_at : List ℕ → List ℤ → ℕ → Atom
atom_at kinds operands at =
    cond (eqb (get_or kinds at 0) 2) (Number (get_or operands at (pos 0)))
    (Name (name_at operands at))

abbrev pub is_atom : ℕ → Bool
is_atom kind = eqb kind 2 || eqb kind 3

-- whether two rows are within the code from a position on: every line of a tree has another row behind its first
unfoldable pub two_rows : List ℕ → List ℤ → ℕ → Bool
two_rows kinds operands at = ltb (at + 1) (length kinds) && ltb (at + 1) (length operands)

-- which line a kind is, with its operand n and the two atoms after it
abbrev pub line_of : ℕ → ℕ → Atom → Atom → Line
line_of kind n a b =
    cond (eqb kind 8) (Call (n % 256) (n / 256 % 256))
    (cond (eqb kind 9) (Literal (n % 256) (n / 65536 % 256))
    (cond (eqb kind 10) (Index (n % 256) a b)
    (cond (eqb kind 11) (Length (n % 256) a)
    (cond (eqb kind 12) (If (n % 256) a)
    (cond (eqb kind 13) (Loop (n % 256) (P.Map (n / 256 % 256) a))
    (cond (eqb kind 14) (Retain (n % 256))
    (cond (eqb kind 15) (Release (n % 256))
    (cond (eqb kind 16) (End a)
    (cond (eqb kind 17) (Iota (n % 256) a)
    (cond (eqb kind 18) (Replicate (n % 256) a b)
    (cond (eqb kind 19) (Loop (n % 256) (P.Filter (n / 256 % 256) a))
    (cond (eqb kind 20) (Loop (n % 256) (P.Reduce (n / 256 % 256) (n / 65536 % 256) a b))
    (cond (eqb kind 21) (Loop (n % 256) (P.Rewrite (n / 256 % 256) a))
    (Operation kind (n % 256) a b))))))))))))))

unfoldable pub line_at : List ℕ → List ℤ → ℕ → Line
line_at kinds operands at =
    line_of (get_or kinds at 0) (low_bits (get_or operands at (pos 0)))
    (atom_at kinds operands (at + 1)) (atom_at kinds operands (at + 2))

-- ---- the table of a script's functions: 256 depths of names for each of 32 functions, then the positions of their
-- own lines, and then, for each of 4,096 rows, the position after the tree that begins there; a position has two bytes,
-- low byte first

-- how many bytes there are, and where the two kinds of positions begin
abbrev pub table_bytes : ℕ
table_bytes = 16448

abbrev pub starts_place : ℕ
starts_place = 8192

abbrev pub ends_place : ℕ
ends_place = 8256

unfoldable pub depth_in : List ℕ → ℕ → ℕ → ℕ
depth_in table f x = get_or table (256 * f + x) 0

unfoldable pub start_in : List ℕ → ℕ → ℕ
start_in table f = get_or table (starts_place + 2 * f) 0 + 256 * get_or table (starts_place + 2 * f + 1) 0

unfoldable pub end_in : List ℕ → ℕ → ℕ
end_in table at = get_or table (ends_place + 2 * at) 0 + 256 * get_or table (ends_place + 2 * at + 1) 0
