-- Laws of rows and notes that stay, of what was laid and is read back, and of sizes.
use Rattle.prelude.specs.Kit.{ℕ, ◌≤◌, ◌+◌, ◌<◌, suc, ◌%◌, ◌/◌, arith, false, ◌≡◌, refl, ◌∙◌, ap, List, ◌∷◌, eqb, length}
use Rattle.prelude.specs.Kit.{get_or, set, length-set, get_or-set_other, get_or-set_same, ne_eqb}
use Rattle.plain_rows.specs.Plain.{Plain, placed, packed_row, line_of, line_at, note}
use Rattle.plain_rows.specs.Marks.{marks_of, marked_all}
use Rattle.plain_rows.specs.Stands.{LinkedAll}
use Rattle.flatten_rows.specs.Laid.{placed_all}
use Rattle.flatten_rows.specs.Made.{State, Lays, Sets, Opens, Splits, Sized, Agree, Same}
use Rattle.flatten_rows.proofs.Laws.{laid_below, laid_at, length_laid}
use Rattle.flatten_rows.proofs.Uses.{noted_long, used_long, noted_below, used_marks, linked_all}

-- ---- rows and notes that stay

pub same_all : (X : State) (p t : ℕ) → Same X X p t
same_all X p t = record { rows = λ i h. refl; notes = λ i h. refl }

pub same_less : {X Y : State} {p t : ℕ} (q u : ℕ) → Same X Y p t → q ≤ p → u ≤ t → Same X Y q u
same_less q u s g h = record { rows = λ i l. s.rows i (omega arith); notes = λ i l. s.notes i (omega arith) }

pub same_then : {X Y Z : State} {p t : ℕ} → Same X Y p t → Same Y Z p t → Same X Z p t
same_then a b = record { rows = λ i h. b.rows i h ∙ a.rows i h; notes = λ i h. b.notes i h ∙ a.notes i h }

note_other : (n n₁ : List ℕ) (z v i : ℕ) → n₁ ≡ set n z v → (i ≡ z → ⊥) → note n₁ i ≡ note n i
note_other n n₁ z v i e h = ap (λ (x : List ℕ). get_or x i i) e ∙ get_or-set_other n z i v i h

pub note_there : (n n₁ : List ℕ) (z v : ℕ) → n₁ ≡ set n z v → z < length n → note n₁ z ≡ v
note_there n n₁ z v e h = ap (λ (x : List ℕ). get_or x z z) e ∙ get_or-set_same n z v z h

pub same_lays : {X Y : State} {q row : ℕ} {vs : List ℕ} → Lays X Y q row vs → Same X Y q (q + 1)
same_lays {X} {Y} {q} {row} {vs} l = record {
  rows = λ i h. ap (λ (x : List ℕ). get_or x i 0) l.line.rows ∙ laid_below X.rows q (row ∷ vs) i h;
  notes = λ i h.
      ap (λ (x : List ℕ). get_or x i i) l.line.notes ∙ noted_below X.notes X.last (q + 1) vs i h;
}

pub same_sets : {X Y : State} {z q x v : ℕ} (p : ℕ) → Sets X Y z q x v → Same X Y p z
same_sets {X} {Y} {z} {q} p s = record {
  rows = λ i h. ap (λ (x : List ℕ). get_or x i 0) s.rows;
  notes = λ i h. note_other X.notes Y.notes z q i s.notes (λ e. omega arith);
}

pub same_opens : {X Y : State} {z x : ℕ} {ds : List ℕ} (p : ℕ) → Opens X Y z x ds → Same X Y p z
same_opens {X} {Y} {z} p s = record {
  rows = λ i h. ap (λ (x : List ℕ). get_or x i 0) s.rows;
  notes = λ i h. note_other X.notes Y.notes z z i s.notes (λ e. omega arith);
}

split_other : {X Y : State} {a m : ℕ} → Splits X Y a m → (i : ℕ) → (i ≡ a → ⊥) → (i ≡ m → ⊥) →
    note Y.notes i ≡ note X.notes i
split_other {X} {Y} {a} {m} s i f g =
    note_other (set X.notes a m) Y.notes m m i s.notes g
    ∙ note_other X.notes (set X.notes a m) a m i refl f

pub same_splits : {X Y : State} {a m : ℕ} (p : ℕ) → Splits X Y a m → a ≤ m → Same X Y p a
same_splits {X} {Y} {a} {m} p s g = record {
  rows = λ i h. ap (λ (x : List ℕ). get_or x i 0) s.rows;
  notes = λ i h. split_other s i (λ e. omega arith) (λ e. omega arith);
}

-- where a split is
pub split_first : {X Y : State} {a m : ℕ} → Splits X Y a m → a < m → m < length X.notes → note Y.notes a ≡ m
split_first {X} {Y} {a} {m} s g h =
    note_other (set X.notes a m) Y.notes m m a s.notes (λ e. omega arith)
    ∙ note_there X.notes (set X.notes a m) a m refl (omega arith)

pub split_second : {X Y : State} {a m : ℕ} → Splits X Y a m → m < length X.notes → note Y.notes m ≡ m
split_second {X} {Y} {a} {m} s h =
    note_there (set X.notes a m) Y.notes m m s.notes (omega (arith, length-set X.notes a m))

-- ---- what F has

pub agrees_back : {Y Z : State} {F : Plain} {lo hi top : ℕ} (q t : ℕ) → Agree Z F lo hi top → Same Y Z q t → q ≤ hi →
    t ≤ top → Agree Y F lo q t
agrees_back q t a s g h = record {
  rows = λ i l m. a.rows i l (omega arith) ∙ s.rows i m;
  notes = λ i l m. a.notes i l (omega arith) ∙ s.notes i m;
}

pub agrees_from : {Y : State} {F : Plain} {lo hi top : ℕ} (p : ℕ) → Agree Y F lo hi top → lo ≤ p → Agree Y F p hi top
agrees_from p a h = record {
  rows = λ i l m. a.rows i (omega arith) m;
  notes = λ i l m. a.notes i (omega arith) m;
}

-- between the two rows of a split nothing is changed
pub agrees_split : {X Y : State} {F : Plain} {a m : ℕ} → Agree Y F a m m → Splits X Y a m → Agree X F a m m
agrees_split {X} {Y} {F} {a} {m} g s = record {
  rows = λ i l h. g.rows i l h ∙ ap (λ (x : List ℕ). get_or x i 0) s.rows;
  notes = λ i l h. g.notes i l h ∙ split_other s i (λ e. omega arith) (λ e. omega arith);
}

-- ---- a line that was laid, read back

module _ {X Y : State} {q row : ℕ} {vs : List ℕ} (l : Lays X Y q row vs) (z : Sized X) where
  pub marks_laid : (w : List ℕ) → marks_of Y.last ≡ marked_all (placed_all w vs) (q + 1) (marks_of X.last)
  marks_laid w = ap marks_of l.line.last ∙ used_marks w X.last (q + 1) vs z.last

  module _ (F : Plain) {lo : ℕ} (a : Agree Y F lo (q + 1 + length vs) (q + 1 + length vs)) (h : lo ≤ q)
      (s : q + 1 + length vs ≤ 2048) where
    pub row_laid : (i j : ℕ) → j ≡ q + i → i < suc (length vs) → get_or F.rows j 0 ≡ get_or (row ∷ vs) i 0
    row_laid i j e u =
        a.rows j (omega arith) (omega arith) ∙ ap (λ (x : List ℕ). get_or x j 0) l.line.rows
        ∙ rw e (laid_at X.rows q (row ∷ vs) i u (omega (arith, z.rows)))

    pub linked_laid : (w : List ℕ) → LinkedAll F (placed_all w vs) (q + 1) (marks_of X.last)
    linked_laid w =
        linked_all F w X.notes X.last (q + 1) vs z.last (omega (arith, z.notes))
        (λ i g u. a.notes i (omega arith) u ∙ ap (λ (x : List ℕ). get_or x i i) l.line.notes)

pub packed_parts : (kind x y m : ℕ) → kind < 256 → x < 256 → y < 256 → m < 256 →
    (packed_row kind x y m % 256 ≡ kind) × (packed_row kind x y m / 256 % 256 ≡ x)
    × (packed_row kind x y m / 65536 % 256 ≡ y) × (packed_row kind x y m / 16777216 % 256 ≡ m)
packed_parts kind x y m a b c d = (omega arith, omega arith, omega arith, omega arith)

-- the line of a row that is known
pub line_back : (F : Plain) (p kind x y m v : ℕ) → kind < 256 → x < 256 → y < 256 → m < 256 →
    get_or F.rows p 0 ≡ packed_row kind x y m → get_or F.rows (p + 1) 0 ≡ v →
    line_at F.operands F.rows p
    ≡ line_of kind x y m (placed F.operands v) (placed F.operands (get_or F.rows (p + 2) 0))
unfolding line_at
line_back F p kind x y m v a b c d e f =
    let z = packed_parts kind x y m a b c d in
    rw (e, f, z.0, z.1, z.2, z.3)

-- it is no end's
pub no_end : (F : Plain) (p kind x y m : ℕ) → kind < 256 → (kind ≡ 16 → ⊥) →
    get_or F.rows p 0 ≡ packed_row kind x y m → eqb (get_or F.rows p 0 % 256) 16 ≡ false
no_end F p kind x y m a f e = ne_eqb (get_or F.rows p 0 % 256) 16 (λ g. f (omega arith))

-- ---- sizes

pub sized_lays : {X Y : State} {q row : ℕ} {vs : List ℕ} → Sized X → Lays X Y q row vs → Sized Y
sized_lays {X} {Y} {q} {row} {vs} s l = record {
  rows = ap length l.line.rows ∙ length_laid X.rows q (row ∷ vs) ∙ s.rows;
  notes = ap length l.line.notes ∙ noted_long X.notes X.last (q + 1) vs ∙ s.notes;
  depths = ap length l.depths ∙ s.depths;
  last = ap length l.line.last ∙ used_long X.last (q + 1) vs ∙ s.last;
}

pub sized_sets : {X Y : State} {z q x v : ℕ} → Sized X → Sets X Y z q x v → Sized Y
sized_sets {X} {Y} {z} {q} {x} {v} s e = record {
  rows = ap length e.rows ∙ s.rows;
  notes = ap length e.notes ∙ length-set X.notes z q ∙ s.notes;
  depths = ap length e.depths ∙ length-set X.depths x v ∙ s.depths;
  last = ap length e.last ∙ s.last;
}

pub sized_opens : {X Y : State} {z x : ℕ} {ds : List ℕ} → Sized X → Opens X Y z x ds → Sized Y
sized_opens {X} {Y} {z} {x} {ds} s e = record {
  rows = ap length e.rows ∙ s.rows;
  notes = ap length e.notes ∙ length-set X.notes z z ∙ s.notes;
  depths = ap length e.depths ∙ length_laid X.depths x ds ∙ s.depths;
  last = ap length e.last ∙ s.last;
}

pub sized_splits : {X Y : State} {a m : ℕ} → Sized X → Splits X Y a m → Sized Y
sized_splits {X} {Y} {a} {m} s e = record {
  rows = ap length e.rows ∙ s.rows;
  notes = ap length e.notes ∙ length-set (set X.notes a m) m m ∙ length-set X.notes a m ∙ s.notes;
  depths = ap length e.depths ∙ s.depths;
  last = ap length e.last ∙ s.last;
}
