-- What laying the lines of a tree does to the plain code, to the rows of last uses and to the table of depths.
use Rattle.std.specs.Prelude.{◌≡◌, ◌⊎◌, List, false, ℕ, ◌+◌, ◌<◌, ◌≤◌, length, get_or, set}
use Rattle.semantics.specs.Syntax as S
use Rattle.semantics.specs.Syntax.{Expr}
use Rattle.semantics.specs.Kinds.{Loop}
use Rattle.semantics.specs.File.{part_count}
use Rattle.semantics.specs.Code as C
use Rattle.semantics.specs.Code.{Atom, Tree}
use Rattle.semantics.specs.Normal.{Meanings, fresh, atom, numbered, meaning_names, lines, normal}
use Rattle.semantics.specs.Annotate.{tree_depths}
use Rattle.script_read.specs.Told.{Parts}
use Rattle.plain_rows.specs.Plain.{Plain, meant, placed, is_looping, loop_size, of_loop, note}
use Rattle.plain_rows.specs.Parts.{depth_in}
use Rattle.plain_rows.specs.Marks.{marks_of, marks, extent}
use Rattle.plain_rows.specs.Stands.{Stands}
use Rattle.flatten_rows.specs.Source.{second_part, laid_rows}
use Rattle.flatten_rows.specs.Shallow.{Shallow, ShallowLine}
use Rattle.flatten_rows.specs.Laid.{laid, LineLaid, nowhere}
use Rattle.flatten_rows.specs.declared.Out.{Out}
use Rattle.flatten_rows.specs.declared.Spot.{Spot}

abbrev pub spot : ℕ → ℕ → ℕ → Spot
spot node n p = record { node = node; n = n; p = p }

abbrev pub out : ℕ → ℕ → ℕ → ℕ → Out
out v next n p = record { place = v; after = spot next n p }

-- the arrays that are laid
pub record State : Type 0 where
  pub rows : List ℕ
  pub notes : List ℕ
  pub depths : List ℕ
  pub last : List ℕ

abbrev pub state : List ℕ → List ℕ → List ℕ → List ℕ → State
state rows notes depths last = record { rows = rows; notes = notes; depths = depths; last = last }

-- Y is X with a line's row and the atoms of the places vs laid from q on
pub record Lays (X Y : State) (q row : ℕ) (vs : List ℕ) : Type 0 where
  pub line : LineLaid X.rows X.notes X.last Y.rows Y.notes Y.last q row vs
  pub depths : Y.depths ≡ X.depths

-- Y is X with the note q at row z, and the depth v of the name x
pub record Sets (X Y : State) (z q x v : ℕ) : Type 0 where
  pub rows : Y.rows ≡ X.rows
  pub notes : Y.notes ≡ set X.notes z q
  pub last : Y.last ≡ X.last
  pub depths : Y.depths ≡ set X.depths x v

-- Y is X with the note z at row z, and the depths ds of the names from x on
pub record Opens (X Y : State) (z x : ℕ) (ds : List ℕ) : Type 0 where
  pub rows : Y.rows ≡ X.rows
  pub notes : Y.notes ≡ set X.notes z z
  pub last : Y.last ≡ X.last
  pub depths : Y.depths ≡ laid X.depths x ds

-- Y is X with the note m at row a, and at row m itself
pub record Splits (X Y : State) (a m : ℕ) : Type 0 where
  pub rows : Y.rows ≡ X.rows
  pub notes : Y.notes ≡ set (set X.notes a m) m m
  pub last : Y.last ≡ X.last
  pub depths : Y.depths ≡ X.depths

-- the lengths of the arrays
pub record Sized (X : State) : Type 0 where
  pub rows : length X.rows ≡ 2048
  pub notes : length X.notes ≡ 2048
  pub depths : length X.depths ≡ 256
  pub last : length X.last ≡ 256

-- F has X's rows from lo to before hi, and X's notes after lo and before top
pub record Agree (X : State) (F : Plain) (lo hi top : ℕ) : Type 0 where
  pub rows : (i : ℕ) → lo ≤ i → i < hi → get_or F.rows i 0 ≡ get_or X.rows i 0
  pub notes : (i : ℕ) → lo < i → i < top → note F.notes i ≡ note X.notes i

-- F has X's rows from lo to before hi, and their notes but the first
abbrev pub RowsAgree : State → Plain → ℕ → ℕ → Type 0
RowsAgree X F lo hi = Agree X F lo hi hi

-- the same, with the note at the row after them, where they are not none
abbrev pub LinesAgree : State → Plain → ℕ → ℕ → Type 0
LinesAgree X F lo hi = Agree X F lo hi (hi + 1)

-- Y has X's rows below p and X's notes below top
pub record Same (X Y : State) (p top : ℕ) : Type 0 where
  pub rows : (i : ℕ) → i < p → get_or Y.rows i 0 ≡ get_or X.rows i 0
  pub notes : (i : ℕ) → i < top → note Y.notes i ≡ note X.notes i

-- what stays the same in a descent: the file and the meanings of names
pub record Given (kinds operands places : List ℕ) : Type 0 where
  pub parts : Parts kinds operands
  pub long : length places ≡ 256

-- e is an atom and v its place: of its number, or what its name means
abbrev pub AtomPlaced : List ℕ → List ℕ → Expr → ℕ → Type 0
AtomPlaced operands places (S.number z) v = meant (placed operands v) ≡ C.number z
AtomPlaced operands places (S.name x) v = v ≡ get_or places x nowhere
AtomPlaced operands places (S.let_in x a b) v = ⊥
AtomPlaced operands places (S.leaf l es) v = ⊥
AtomPlaced operands places (S.if_else a b c) v = ⊥
AtomPlaced operands places (S.loop k xs es b) v = ⊥

-- how many parts a leaf of a kind may have
abbrev pub PartsFit : ℕ → ℕ → Type 0
PartsFit kind m =
    (kind ≡ 8) ⊎ ((kind ≡ 9) ⊎ (((kind ≡ 11) × (m ≡ 1)) ⊎ (((kind ≡ 17) × (m ≡ 1))
    ⊎ (((kind ≡ 10) × (m ≡ 2)) ⊎ (((kind ≡ 18) × (m ≡ 2)) ⊎ ((kind ≤ 6) × ((4 ≤ kind) × (m ≡ 2))))))))

-- a leaf's line: how many parts it has, and a second number in range
pub record Counted (kind y m : ℕ) : Type 0 where
  pub plain : PartsFit kind m
  pub parts : m ≤ 16
  pub second : y < 32
  pub depth : kind ≡ 9 → y ≤ 3

-- a node that is a leaf or a loop
pub record Compounded (kind low high : ℕ) : Type 0 where
  pub leaf : is_looping kind ≡ false → Counted kind (second_part kind low high) (part_count kind low high)

-- the line of a loop that binds n: its written names low and high mean the new names after n, its body is b
abbrev pub loop_line : Loop → ℕ → ℕ → Meanings → ℕ → List Atom → Expr → C.Line
loop_line k low high μ n us b =
    let xs = of_loop k low high in
    C.loop n k (numbered xs (n + 1)) us (normal b (meaning_names xs (n + 1) μ) (n + (1 + length xs)))

-- over the results of the functions and the meanings of the written names
module _ (results : ℕ → ℕ) (μ : Meanings) where
  -- there is room for the lines of a tree that ends before node `last`, and they are shallow before some tree
  pub record Ready (X : State) (e : Expr) (last n p : ℕ) : Type 0 where
    pub sized : Sized X
    pub nodes : last ≤ 1024
    pub names : n + fresh e ≤ 256
    pub rows : p + laid_rows e ≤ 2040
    pub after : Tree
    pub shallow : Shallow results (lines e μ n after) (depth_in X.depths)

  -- there is room for a loop's row and its tree, of the body b, after its m atoms us
  pub record PassReady (X : State) (k : Loop) (low high : ℕ) (us : List Atom) (b : Expr) (last n p : ℕ) : Type 0 where
    pub sized : Sized X
    pub nodes : last ≤ 1024
    pub names : n + 1 + loop_size k + fresh b ≤ 256
    pub rows : p + 1 + loop_size k + laid_rows b + 2 ≤ 2040
    pub shallow : ShallowLine results (loop_line k low high μ n us b) (depth_in X.depths)

-- over the file's operands w and the results of the functions
module _ (w : List ℕ) (results : ℕ → ℕ) where
  -- from X to Y the rows from p to before q are laid: those of what f puts before a tree, whose trees are of d₀ levels
  -- at most
  pub record Adds (f : Tree → Tree) (X Y : State) (p q d₀ : ℕ) : Type 0 where
    pub on : p ≤ q
    pub sized : Sized Y
    pub same : Same X Y p (p + 1)
    pub marks : (k : Tree) → marks (f k) p (marks_of X.last) ≡ marks k q (marks_of Y.last)
    pub stands : (F : Plain) → F.operands ≡ w → LinesAgree Y F p q → (d : ℕ) → d₀ ≤ d → (k : Tree) →
        Stands F d k q (marks_of Y.last) → Stands F d (f k) p (marks_of X.last)
    pub depths : (k : Tree) →
        tree_depths results (f k) (depth_in X.depths) ≡ tree_depths results k (depth_in Y.depths)
    pub shallow : (k : Tree) →
        Shallow results (f k) (depth_in X.depths) → Shallow results k (depth_in Y.depths)

  -- the lines of a tree from row p on
  pub record Made (e : Expr) (μ : Meanings) (X Y : State) (n p d₀ last : ℕ) (r : Out) : Type 0 where
    pub next : r.after.node ≡ last
    pub count : r.after.n ≡ n + fresh e
    pub reach : r.after.p ≡ p + laid_rows e
    pub gives : meant (placed w r.place) ≡ atom e μ n
    pub adds : Adds (lines e μ n) X Y p r.after.p d₀

  -- a tree from row p on, closed by its end line
  pub record TreeMade (e : Expr) (μ : Meanings) (X Y : State) (n p d₀ last : ℕ) (r : Out) : Type 0 where
    pub next : r.after.node ≡ last
    pub count : r.after.n ≡ n + fresh e
    pub reach : r.after.p ≡ p + laid_rows e + 2
    pub sized : Sized Y
    pub gives : meant (placed w r.place) ≡ atom e μ n
    pub same : Same X Y p (p + 1)
    pub marks : marks_of Y.last ≡ marks (normal e μ n) p (marks_of X.last)
    pub wide : extent (normal e μ n) ≡ laid_rows e + 2
    pub stands : (F : Plain) → F.operands ≡ w → RowsAgree Y F p r.after.p → (d : ℕ) → d₀ ≤ d →
        Stands F d (normal e μ n) p (marks_of X.last)
    pub depths : tree_depths results (normal e μ n) (depth_in X.depths) ≡ depth_in Y.depths
