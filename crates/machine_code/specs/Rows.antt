-- Rows that stand in the code arrays from a position on, and what is read there.
use Rattle.std.specs.Prelude.{ℕ, ◌≤◌, ◌+◌, ◌<◌, suc, ◌%◌, true, false, ◌&&◌, not, ◌≡◌, refl, List, [], ◌∷◌, ◌++◌, ltb}
use Rattle.std.specs.Prelude.{T, ℤ, pos, length, get_or, take}
use Rattle.prelude.specs.Kit.{arith, ◌∙◌, sym, ap, subst, inl, inr, length-append, length-take, get_or-take, ne_eqb}
use Rattle.prelude.specs.Kit.{lt-ltb, has_key, miss}
use Rattle.semantics.specs.Number.{sum, difference, less}
use Rattle.semantics.specs.Kinds.{Leaf, operation, call, literal, index, length_of, iota, replicate, leaf_kind}
use Rattle.semantics.specs.Kinds.{Loop, mapping, filtering, reducing, rewriting, loop_kind}
use Rattle.semantics.specs.Code as C
use Rattle.semantics.specs.Code.{Row, atom_row, rows, line_rows}
use Rattle.machine_code.specs.Reading.{name_at, atom_at, is_atom, two_rows, line_of, line_at}
use Rattle.kinds.specs.declared.Atom.{Atom}
use Rattle.kinds.specs.declared.Atom.TheVariants.{Number, Name}

-- a row stands at a position
pub record Here (kinds : List ℕ) (operands : List ℤ) (at : ℕ) (r : Row) : Type 0 where
  pub kind : get_or kinds at 0 ≡ r.kind
  pub operand : get_or operands at (pos 0) ≡ r.operand
  pub within : at < length kinds
  pub held : at < length operands

-- rows stand from a position on
abbrev pub At : List ℕ → List ℤ → ℕ → List Row → Type 0
At kinds operands at [] = Unit {0}
At kinds operands at (r ∷ rs) = Here kinds operands at r × At kinds operands (at + 1) rs

module _ (kinds : List ℕ) (operands : List ℤ) where
  pub at_first : (at : ℕ) (xs ys : List Row) → At kinds operands at (xs ++ ys) → At kinds operands at xs
  at_first at [] ys h = tt
  at_first at (x ∷ xs) ys h = (h.0, at_first (at + 1) xs ys h.1)

  pub at_second : (at : ℕ) (xs ys : List Row) → At kinds operands at (xs ++ ys) → At kinds operands (at + length xs)
      ys
  at_second at [] ys h = let z : at ≡ at + 0 = omega arith in subst (λ (p : ℕ). At kinds operands p ys) z h
  at_second at (x ∷ xs) ys h =
      let z : at + 1 + length xs ≡ at + suc (length xs) = omega arith in
      subst (λ (p : ℕ). At kinds operands p ys) z (at_second (at + 1) xs ys h.1)

  -- they end within the code
  pub at_end : (at : ℕ) (rs : List Row) → at ≤ length kinds → At kinds operands at rs → at + length rs ≤ length kinds
  at_end at [] l h = omega (arith, l)
  at_end at (r ∷ rs) l h = omega (arith, at_end (at + 1) rs (omega (arith, h.0.within)) h.1)

-- rows within the first n of the code stand there, and what stands there stands in the code
module _ (kinds : List ℕ) (operands : List ℤ) (n : ℕ) where
  pub at_cut : (at : ℕ) (rs : List Row) → at + length rs ≤ n → At kinds operands at rs →
      At (take n kinds) (take n operands) at rs
  at_cut at [] l h = tt
  at_cut at (r ∷ rs) l h = (
    record {
      kind = get_or-take n kinds at 0 (omega arith) ∙ h.0.kind;
      operand = get_or-take n operands at (pos 0) (omega arith) ∙ h.0.operand;
      within = omega (arith, length-take n kinds, h.0.within);
      held = omega (arith, length-take n operands, h.0.held);
    },
    at_cut (at + 1) rs (omega arith) h.1,
  )

  pub at_whole : (at : ℕ) (rs : List Row) → At (take n kinds) (take n operands) at rs → At kinds operands at rs
  at_whole at [] h = tt
  at_whole at (r ∷ rs) h =
      let l : at < n = omega (arith, length-take n kinds, h.0.within) in (
        record {
          kind = sym (get_or-take n kinds at 0 l) ∙ h.0.kind;
          operand = sym (get_or-take n operands at (pos 0) l) ∙ h.0.operand;
          within = omega (arith, length-take n kinds, h.0.within);
          held = omega (arith, length-take n operands, h.0.held);
        },
        at_whole (at + 1) rs h.1,
      )

-- the rows from a position on have these names
abbrev pub NamesAt : List ℤ → ℕ → List ℕ → Type 0
NamesAt operands at [] = Unit {0}
NamesAt operands at (x ∷ xs) = (name_at operands at ≡ x) × NamesAt operands (at + 1) xs

-- an atom as the code has it
abbrev pub coded : C.Atom → Atom
coded (C.number z) = Number z
coded (C.name x) = Name x

-- a name that fits a byte
abbrev pub SmallAtom : C.Atom → Type 0
SmallAtom (C.number z) = Unit {0}
SmallAtom (C.name x) = x < 256

module _ (kinds : List ℕ) (operands : List ℤ) (at : ℕ) where
  pub atom_here : (a : C.Atom) → SmallAtom a → Here kinds operands at (atom_row a) → atom_at kinds operands at ≡ coded a
  unfolding atom_at
  atom_here (C.number z) h e = rw (e.kind, e.operand) refl
  atom_here (C.name x) h e = rw (e.kind, e.operand) (ap Name (let z : x % 16777216 % 256 ≡ x = omega arith in z))

  pub atom_kind : (a : C.Atom) → Here kinds operands at (atom_row a) → is_atom (get_or kinds at 0) ≡ true
  atom_kind (C.number z) e = rw e.kind refl
  atom_kind (C.name x) e = rw e.kind refl

  -- the line of a kind and an operand of three bytes
  pub line_read : (k n : ℕ) (a b : Atom) → n < 16777216 → get_or kinds at 0 ≡ k → get_or operands at (pos 0) ≡ pos n →
      atom_at kinds operands (at + 1) ≡ a → atom_at kinds operands (at + 2) ≡ b →
      line_at kinds operands at ≡ line_of k n a b
  unfolding line_at
  line_read k n a b small e f g h = rw (e, f, g, h) (ap (λ (m : ℕ). line_of k m a b)
      (let z : n % 16777216 ≡ n = omega arith in z))

-- ---- kinds

-- the kinds that are no leaf's: of functions, atoms, ifs, loops and ends
abbrev pub not_leaves : List ℕ
not_leaves = 0 ∷ 2 ∷ 3 ∷ 12 ∷ 13 ∷ 16 ∷ 19 ∷ 20 ∷ 21 ∷ []

pub leaf_apart : (l : Leaf) → T (not (has_key not_leaves (leaf_kind l)))
leaf_apart (operation sum) = tt
leaf_apart (operation difference) = tt
leaf_apart (operation less) = tt
leaf_apart (call f) = tt
leaf_apart (literal d) = tt
leaf_apart index = tt
leaf_apart length_of = tt
leaf_apart iota = tt
leaf_apart replicate = tt

leaf_no_atom : (l : Leaf) → is_atom (leaf_kind l) ≡ false
leaf_no_atom l = rw (
  ne_eqb (leaf_kind l) 2 (λ e. miss not_leaves (leaf_kind l) (leaf_apart l) (inr (inl e))),
  ne_eqb (leaf_kind l) 3 (λ e. miss not_leaves (leaf_kind l) (leaf_apart l) (inr (inr (inl e)))),
) refl

loop_no_atom : (k : Loop) → is_atom (loop_kind k) ≡ false
loop_no_atom mapping = refl
loop_no_atom filtering = refl
loop_no_atom reducing = refl
loop_no_atom rewriting = refl

-- the rows of a tree begin with no atom
pub no_atom : (kinds : List ℕ) (operands : List ℤ) (at : ℕ) (t : C.Tree) → At kinds operands at (rows t) →
    is_atom (get_or kinds at 0) ≡ false
unfolding rows line_rows
no_atom kinds operands at (C.end a) h = ap is_atom h.0.kind
no_atom kinds operands at (C.line (C.leaf x l us) t) h = ap is_atom h.0.kind ∙ leaf_no_atom l
no_atom kinds operands at (C.line (C.if_else x g t e) u) h = ap is_atom h.0.kind
no_atom kinds operands at (C.line (C.loop x k ps us t) u) h = ap is_atom h.0.kind ∙ loop_no_atom k
no_atom kinds operands at (C.line (C.retain x) t) h = ap is_atom h.0.kind
no_atom kinds operands at (C.line (C.release x) t) h = ap is_atom h.0.kind

pub line_some : (l : C.Line) → 1 ≤ length (line_rows l)
unfolding line_rows
line_some (C.leaf x l us) = omega arith
line_some (C.if_else x g t e) = omega arith
line_some (C.loop x k ps us t) = omega arith
line_some (C.retain x) = omega arith
line_some (C.release x) = omega arith

pub rows_some : (t : C.Tree) → 2 ≤ length (rows t)
unfolding rows
rows_some (C.end a) = omega arith
rows_some (C.line l t) = omega (arith, rows_some t, length-append (line_rows l) (rows t))

-- the first two rows of a tree are within the code
pub tree_within : (kinds : List ℕ) (operands : List ℤ) (at : ℕ) (t : C.Tree) → At kinds operands at (rows t) →
    two_rows kinds operands at ≡ true
unfolding two_rows
tree_within kinds operands at t h = go (rows t) (rows_some t) h
  where
    go : (rs : List Row) → 2 ≤ length rs → At kinds operands at rs →
        (ltb (at + 1) (length kinds) && ltb (at + 1) (length operands)) ≡ true
    go [] l a = absurd (omega arith)
    go (r ∷ []) l a = absurd (omega arith)
    go (r ∷ q ∷ rs) l a =
        rw (lt-ltb (at + 1) (length kinds) a.1.0.within, lt-ltb (at + 1) (length operands) a.1.0.held) refl

-- a tree begins within the code
pub tree_there : (kinds : List ℕ) (operands : List ℤ) (at : ℕ) (t : C.Tree) → At kinds operands at (rows t) →
    at < length kinds
tree_there kinds operands at t h = go (rows t) (rows_some t) h
  where
    go : (rs : List Row) → 2 ≤ length rs → At kinds operands at rs → at < length kinds
    go [] l a = absurd (omega arith)
    go (r ∷ rs) l a = a.0.within
