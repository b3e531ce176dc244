-- Document 01, "The script file": sizes, nodes in prefix order, and the script that they write,
-- or the refusal 1 to 5 with its node.
-- The reader's state is the number of the next node; at a stop it is the refused node.
use Rattle.std.specs.Prelude.{ℕ, zero, suc, ◌+◌, ◌*◌, ◌/◌, ◌%◌, Bool, true, false, cond, ◌&&◌, List, [], ◌∷◌, ℤ, pos, negsuc, length, get_or, take, drop, eqb, ltb, leb}
use Rattle.semantics.specs.Outcome.{Outcome, done, stop, Run, ◌>>=◌, ◌>>◌, give, halt, times}
use Rattle.semantics.specs.Number.{sum, difference, less, bytes_at, signed}
use Rattle.semantics.specs.Kinds.{operation, call, literal, index, length_of, iota, replicate, Leaf}
use Rattle.semantics.specs.Kinds.{mapping, filtering, reducing, Loop}
use Rattle.semantics.specs.Syntax.{Expr, number, name, let_in, leaf, if_else, loop, exprs_of, Parameter, Function}
use Rattle.semantics.specs.Syntax.{Script}

-- A node with an operand in range, low + 256 × high; a number has its value instead.
pub record Head : Type 0 where
  pub kind : ℕ
  pub low : ℕ
  pub high : ℕ
  pub value : ℤ

pub data Node : Type 0 where
  fits : Head → Node
  wrong_kind wrong_operand : Node

-- the greatest low and high part of an operand, by kind
abbrev pub low_limits : List ℕ
low_limits = 8 ∷ 255 ∷ 0 ∷ 255 ∷ 0 ∷ 0 ∷ 0 ∷ 255 ∷ 31 ∷ 16 ∷ 0 ∷ 0 ∷ 0 ∷ 255 ∷ 0 ∷ 0 ∷ 0 ∷ 0 ∷ 0 ∷ 255 ∷ 255 ∷ []

abbrev pub high_limits : List ℕ
high_limits = 4 ∷ 4 ∷ 0 ∷ 0 ∷ 0 ∷ 0 ∷ 0 ∷ 0 ∷ 8 ∷ 3 ∷ 0 ∷ 0 ∷ 0 ∷ 0 ∷ 0 ∷ 0 ∷ 0 ∷ 0 ∷ 0 ∷ 0 ∷ 255 ∷ []

abbrev pub in_parts : ℕ → ℤ → Node
in_parts k (pos n) =
    cond (leb (n % 256) (get_or low_limits k 0))
    (cond (leb (n / 256) (get_or high_limits k 0))
    (fits (record { kind = k; low = n % 256; high = n / 256; value = pos 0 }))
    wrong_operand)
    wrong_operand
in_parts k (negsuc n) = wrong_operand

-- where a node may stand
pub data Place : Type 0 where
  at_function at_parameter at_part : Place

-- the kinds of parts: 2 to 13, and 17 to 20
abbrev pub part_kinds : List Bool
part_kinds =
    false ∷ false ∷ true ∷ true ∷ true ∷ true ∷ true ∷ true ∷ true ∷ true ∷ true ∷ true ∷ true ∷ true ∷
    false ∷ false ∷ false ∷ true ∷ true ∷ true ∷ true ∷ []

abbrev pub allowed : Place → ℕ → Bool
allowed at_function k = eqb k 0
allowed at_parameter k = eqb k 1
allowed at_part k = get_or part_kinds k false

-- the kind is tested before the operand
unfoldable pub node_of : Place → ℕ → ℤ → Node
node_of place k z =
    cond (allowed place k)
    (cond (eqb k 2) (fits (record { kind = 2; low = 0; high = 0; value = z })) (in_parts k z))
    wrong_kind

-- how many parts a node has; a call and a literal say it themselves
abbrev pub part_counts : List ℕ
part_counts = 0 ∷ 0 ∷ 0 ∷ 0 ∷ 2 ∷ 2 ∷ 2 ∷ 2 ∷ 0 ∷ 0 ∷ 2 ∷ 1 ∷ 3 ∷ 2 ∷ 0 ∷ 0 ∷ 0 ∷ 1 ∷ 2 ∷ 2 ∷ 3 ∷ []

unfoldable pub part_count : ℕ → ℕ → ℕ → ℕ
part_count k low high = cond (eqb k 8) high (cond (eqb k 9) low (get_or part_counts k 0))

abbrev pub Read : Type 0 → Type 0
Read A = Run ℕ A

abbrev pub next : Read (Unit {0})
next p = done tt (suc p)

abbrev pub looked : Node → Read Head
looked (fits h) = give h
looked wrong_kind = halt 3
looked wrong_operand = halt 4

-- leaves and loops by kind; a loop has its names, and reads its body last
pub data Shape : Type 0 where
  none : Shape
  leaf_of : Leaf → Shape
  loop_of : Loop → List ℕ → ℕ → Shape

abbrev pub shapes : Head → List Shape
shapes h =
    none ∷ none ∷ none ∷ none ∷
    leaf_of (operation sum) ∷ leaf_of (operation difference) ∷ leaf_of (operation less) ∷ none ∷
    leaf_of (call h.low) ∷ leaf_of (literal h.high) ∷ leaf_of index ∷ leaf_of length_of ∷ none ∷
    loop_of mapping (h.low ∷ []) 1 ∷ none ∷ none ∷ none ∷ leaf_of iota ∷ leaf_of replicate ∷
    loop_of filtering (h.low ∷ []) 1 ∷ loop_of reducing (h.low ∷ h.high ∷ []) 2 ∷ []

abbrev pub shape_of : Head → Shape
shape_of h = get_or (shapes h) h.kind none

-- the tree of a leaf or a loop whose parts m reads
abbrev pub shaped : Read Expr → ℕ → Shape → Read Expr
shaped m n none = halt 3
shaped m n (leaf_of l) = do es ← times n m; give (leaf l (exprs_of es))
shaped m n (loop_of k xs c) = do es ← times c m; b ← m; give (loop k xs (exprs_of es) b)

-- the tree of a node whose parts m reads
unfoldable pub parts : Read Expr → Head → Read Expr
parts m h =
    cond (eqb h.kind 2) (give (number h.value))
    (cond (eqb h.kind 3) (give (name h.low))
    (cond (eqb h.kind 7) (do a ← m; b ← m; give (let_in h.low a b))
    (cond (eqb h.kind 12) (do a ← m; b ← m; c ← m; give (if_else a b c))
    (shaped m (part_count h.kind h.low h.high) (shape_of h)))))

-- over the file's kinds and the bytes of its operands
module _ (kinds operands : List ℕ) where
  -- node p; past the end no kind is allowed
  unfoldable pub node_at : Place → ℕ → Node
  node_at place p = node_of place (get_or kinds p 255) (signed (bytes_at 8 operands (8 * p)))

  unfoldable pub look : Place → Read Head
  look place p = looked (node_at place p) p

  -- a part, with some levels left: 5 comes after 3 and 4
  unfoldable pub part : ℕ → Read Expr
  part zero = do h ← look at_part; halt 5
  part (suc levels) = do h ← look at_part; next; parts (part levels) h

  unfoldable pub parameter : Read Parameter
  parameter = do h ← look at_parameter; next; give (record { id = h.low; depth = h.high })

  unfoldable pub function : Read Function
  function = do
    h ← look at_function
    next
    parameters ← times h.low parameter
    body ← part 64
    give (record { parameters = parameters; result = h.high; body = body })

  -- no node is left over
  unfoldable pub finish : Read (Unit {0})
  finish p = cond (ltb p (length kinds)) (stop 3 p) (done tt p)

  unfoldable pub script : ℕ → Read Script
  script count = do
    fs ← times count function
    finish
    give fs

abbrev pub between : ℕ → ℕ → ℕ → Bool
between a b n = leb a n && leb n b

-- a file's script, or its refusal 1 to 5 and the node
unfoldable pub read_file : List ℕ → Outcome ℕ Script
read_file file =
    let functions = bytes_at 2 file 0 in
    let nodes = bytes_at 2 file 2 in
    cond (ltb (length file) 4) (stop 1 0)
    (cond (between 1 32 functions && between 1 1024 nodes)
    (cond (eqb (length file) (4 + 9 * nodes))
    (script (take nodes (drop 4 file)) (drop (4 + nodes) file) functions 0)
    (stop 1 0))
    (stop 2 0))
