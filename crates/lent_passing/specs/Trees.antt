-- A tree is read back from its rows.
use Rattle.std.specs.Prelude.{ℕ, ◌≤◌, ◌+◌, ◌<◌, suc, zero, ◌*◌, Bool, ◌≡◌, refl, List, [], ◌∷◌, ◌++◌, map, pos}
use Rattle.std.specs.Prelude.{length, drop}
use Rattle.prelude.specs.Kit.{arith, ◌∙◌, sym, ap, some, Option, append_assoc, length-append, length-map, lt-ltb}
use Rattle.prelude.specs.Kit.{eq-eqb}
use Rattle.semantics.specs.Outcome.{Outcome, done, onward, give}
use Rattle.semantics.specs.Kinds.{Leaf, Loop, leaf_kind, leaf_operand, loop_kind, packed_names}
use Rattle.semantics.specs.Code as C
use Rattle.semantics.specs.Code.{Atom, Line, leaf, if_else, loop, retain, release, Tree, end, line, Row, row, atom_row}
use Rattle.semantics_lent.specs.Form.{Parts, parts_of, atoms_before, in_range, Form, leaf_line, if_line, loop_line}
use Rattle.semantics_lent.specs.Form.{retain_line, release_line, end_line, form_of, row_here, atoms, atoms_found}
use Rattle.semantics_lent.specs.Form.{formed, tree_form}
use Rattle.lent_passing.specs.Reading.{and_then, SmallAtoms, NoAtom, atoms_read, drop_within, drop_first}
use Rattle.lent_passing.specs.Reading.{drop_next, drop_more, Formed, LeafFormed, some_levels, leaf_parts}
use Rattle.lent_passing.specs.Reading.{leaf_read, leaf_form, name_read, loop_read, tree_no_atom}

three : {A : Type 0} (a b c : List A) → (a ++ b) ++ c ≡ a ++ (b ++ c)
three a b c = append_assoc a b c

four : {A : Type 0} (a b c d : List A) → ((a ++ b) ++ c) ++ d ≡ a ++ (b ++ (c ++ d))
four a b c d = append_assoc (a ++ b) c d ∙ append_assoc a b (c ++ d)

module _ (rows : List Row) (arities : List (Option ℕ)) (over : Bool) where
  -- the row of the present line
  pub here : (p : ℕ) (r : Row) (rest : List Row) → drop p rows ≡ r ∷ rest → row_here rows arities over p ≡ done r p
  unfolding row_here
  here p r rest e =
      rw (lt-ltb p (length rows) (drop_within rows p r rest e), drop_first rows p (row 0 0) r rest e) refl

  -- its atoms
  pub atoms_here : (p : ℕ) (r : Row) (us : List Atom) (rest : List Row) → drop p rows ≡ r ∷ (map atom_row us ++ rest) →
      SmallAtoms us → NoAtom rest → atoms rows arities over (some (length us)) p ≡ done us (p + suc (length us))
  unfolding atoms
  atoms_here p r us rest e small na =
      ap (λ (o : Option (List Atom)). atoms_found rows arities over (some (length us)) o p)
      (ap atoms_before (drop_next rows p r (map atom_row us ++ rest) e) ∙ atoms_read us rest small na)
      ∙ rw (eq-eqb (length us) (length us) refl) refl

  -- the rows after a line and its atoms
  pub drop_after : (p : ℕ) (r : Row) (us : List Atom) (rest : List Row) → drop p rows ≡ r ∷ (map atom_row us ++ rest) →
      drop (p + suc (length us)) rows ≡ rest
  drop_after p r us rest e =
      ap (λ (k : ℕ). drop k rows) (let z : p + suc (length us) ≡ p + suc (length (map atom_row us)) =
      ap (λ (k : ℕ). p + suc k) (sym (length-map us atom_row)) in z)
      ∙ drop_more rows p (r ∷ map atom_row us) rest e

  -- a line of a tree, by its row and what its operand says
  opens : (n m p : ℕ) (r : Row) (rest : List Row) (q : Parts) (F : Form) (o : Outcome ℕ Tree) →
      drop p rows ≡ r ∷ rest → parts_of r.kind r.operand ≡ some q → form_of arities r.kind q ≡ F →
      formed rows arities over (tree_form rows arities over n m) (tree_form rows arities over n (suc m)) q.first F p
      ≡ o →
      tree_form rows arities over (suc n) (suc m) p ≡ o
  unfolding tree_form
  opens n m p r rest q F o e f g h =
      and_then (row_here rows arities over) _ p r p o (here p r rest e)
      (and_then (in_range rows arities over (parts_of r.kind r.operand)) _ p q p o
      (ap (λ (x : Option Parts). in_range rows arities over x p) f)
      (ap (λ (G : Form). formed rows arities over (tree_form rows arities over n m)
      (tree_form rows arities over n (suc m)) q.first G p) g ∙ h))

  -- a tree in form that stands somewhere, before rows that do not begin with an atom
  abbrev pub Reads : Tree → Type 0
  Reads t =
      (n m p : ℕ) (rest : List Row) → Formed (LeafFormed arities) (suc m) t → length (C.rows t) ≤ n →
      drop p rows ≡ C.rows t ++ rest → NoAtom rest →
      tree_form rows arities over n (suc m) p ≡ done t (p + length (C.rows t))

  -- what follows a line
  follows : (t : Tree) → Reads t → (l : Line) (n m p q : ℕ) (rest : List Row) → Formed (LeafFormed arities) (suc m) t →
      length (C.rows t) ≤ n → drop q rows ≡ C.rows t ++ rest → NoAtom rest →
      q + length (C.rows t) ≡ p + length (C.line_rows l ++ C.rows t) →
      onward (λ (k : Tree). give (line l k)) (tree_form rows arities over n (suc m) q)
      ≡ done (line l t) (p + length (C.line_rows l ++ C.rows t))
  unfolding onward
  follows t reads l n m p q rest F few e na z =
      and_then (tree_form rows arities over n (suc m)) _ q t (q + length (C.rows t)) _ (reads n m q rest F few e na)
      (ap (done (line l t)) z)

  leaf_reads : (x : ℕ) (l : Leaf) (us : List Atom) (t : Tree) → Reads t → Reads (line (leaf x l us) t)
  unfolding C.rows
  leaf_reads x l us t reads zero m p rest F few e na = absurd (omega (arith, few))
  leaf_reads x l us t reads (suc n) m p rest F few e na =
      let r = row (leaf_kind l) (leaf_operand l x (length us)) in
      let e' : drop p rows ≡ r ∷ (map atom_row us ++ (C.rows t ++ rest)) =
      e ∙ ap (λ (k : List Row). r ∷ k) (append_assoc (map atom_row us) (C.rows t) rest) in
      let z : length (C.rows (line (leaf x l us) t)) ≡ suc (length us + length (C.rows t)) =
      ap suc (length-append (map atom_row us) (C.rows t)
      ∙ ap (λ (k : ℕ). k + length (C.rows t)) (length-map us atom_row)) in
      opens n m p r _ (leaf_parts arities l x (length us)) (leaf_line l (some (length us))) _ e'
      (leaf_read arities l x (length us) F.0.0 F.0.1.1) (leaf_form arities l x (length us) F.0.1.1)
      (and_then (atoms rows arities over (some (length us))) _ p us (p + suc (length us)) _
      (atoms_here p r us (C.rows t ++ rest) e' F.0.1.0 (tree_no_atom t rest))
      (follows t reads (leaf x l us) n m p (p + suc (length us)) rest F.1 (omega (arith, few, z))
      (drop_after p r us (C.rows t ++ rest) e') na (omega (arith, z))))

  -- a line without atoms that binds none
  note_reads : (k x : ℕ) (N : Form) (l : Line) (t : Tree) → Reads t → C.line_rows l ≡ row k x ∷ [] → x < 256 →
      parts_of k (pos x) ≡ some (record { first = x; second = 0; third = 0 }) →
      form_of arities k (record { first = x; second = 0; third = 0 }) ≡ N →
      ((n m p : ℕ) →
      formed rows arities over (tree_form rows arities over n m) (tree_form rows arities over n (suc m)) x N p
      ≡ onward (λ (us : List Atom). λ (q : ℕ). onward (λ (k : Tree). give (line l k))
      (tree_form rows arities over n (suc m) q)) (atoms rows arities over (some 0) p)) →
      (n m p : ℕ) (rest : List Row) → Formed (LeafFormed arities) (suc m) t → length (C.line_rows l ++ C.rows t) ≤ n →
      drop p rows ≡ (C.line_rows l ++ C.rows t) ++ rest → NoAtom rest →
      tree_form rows arities over n (suc m) p ≡ done (line l t) (p + length (C.line_rows l ++ C.rows t))
  note_reads k x N l t reads is small read form does zero m p rest F few e na =
      absurd (omega (arith, few, ap (λ (rs : List Row). length (rs ++ C.rows t)) is))
  note_reads k x N l t reads is small read form does (suc n) m p rest F few e na =
      let e' : drop p rows ≡ row k x ∷ (C.rows t ++ rest) =
      e ∙ ap (λ (rs : List Row). (rs ++ C.rows t) ++ rest) is in
      let z : length (C.line_rows l ++ C.rows t) ≡ suc (length (C.rows t)) =
      ap (λ (rs : List Row). length (rs ++ C.rows t)) is in
      opens n m p (row k x) _ (record { first = x; second = 0; third = 0 }) N _ e' read form
      (does n m p ∙ and_then (atoms rows arities over (some 0)) _ p [] (p + 1) _
      (atoms_here p (row k x) [] (C.rows t ++ rest) e' tt (tree_no_atom t rest))
      (follows t reads l n m p (p + 1) rest F (omega (arith, few, z)) (drop_after p (row k x) [] (C.rows t ++ rest) e')
      na (omega (arith, z))))

  retain_reads : (x : ℕ) (t : Tree) → Reads t → Reads (line (retain x) t)
  unfolding C.rows
  retain_reads x t reads n m p rest F few e na =
      note_reads 14 x retain_line (retain x) t reads refl F.0
      (name_read arities 14 x F.0 (omega (arith, F.0))) refl (λ n m p. refl) n m p rest F.1 few e na

  release_reads : (x : ℕ) (t : Tree) → Reads t → Reads (line (release x) t)
  unfolding C.rows
  release_reads x t reads n m p rest F few e na =
      note_reads 15 x release_line (release x) t reads refl F.0
      (name_read arities 15 x F.0 (omega (arith, F.0))) refl (λ n m p. refl) n m p rest F.1 few e na

  end_reads : (a : Atom) → Reads (end a)
  unfolding C.rows
  end_reads a zero m p rest F few e na = absurd (omega (arith, few))
  end_reads a (suc n) m p rest F few e na =
      opens n m p (row 16 0) _ (record { first = 0; second = 0; third = 0 }) end_line _ e
      (name_read arities 16 0 (omega arith) (omega arith)) refl
      (and_then (atoms rows arities over (some 1)) _ p (a ∷ []) (p + 2) _
      (atoms_here p (row 16 0) (a ∷ []) rest e (F.1, tt) na) refl)

  -- a tree of a line, with a level less
  inner_reads : (t : Tree) → Reads t → (n m p : ℕ) (rest : List Row) → Formed (LeafFormed arities) m t →
      length (C.rows t) ≤ n → drop p rows ≡ C.rows t ++ rest → NoAtom rest →
      tree_form rows arities over n m p ≡ done t (p + length (C.rows t))
  inner_reads t reads n zero p rest F few e na = absurd (omega (arith, some_levels (LeafFormed arities) 0 t F))
  inner_reads t reads n (suc m) p rest F few e na = reads n m p rest F few e na

  loop_reads : (x : ℕ) (k : Loop) (ps : List ℕ) (us : List Atom) (t u : Tree) → Reads t → Reads u →
      Reads (line (loop x k ps us t) u)
  unfolding C.rows
  loop_reads x k ps us t u reads reads' zero m p rest F few e na = absurd (omega (arith, few))
  loop_reads x k ps us t u reads reads' (suc n) m p rest F few e na =
      let L = loop_read arities k x ps (length us) F.0.0 F.0.1.1.0 in
      let r = row (loop_kind k) (x + 256 * packed_names ps) in
      let vs = map atom_row us in
      let e' : drop p rows ≡ r ∷ (vs ++ (C.rows t ++ (C.rows u ++ rest))) =
      e ∙ ap (λ (k : List Row). r ∷ k) (four vs (C.rows t) (C.rows u) rest) in
      let z : length (C.rows (line (loop x k ps us t) u)) ≡ suc (length us + length (C.rows t) + length (C.rows u)) =
      ap suc (length-append (vs ++ C.rows t) (C.rows u) ∙ ap (λ (k : ℕ). k + length (C.rows u))
      (length-append vs (C.rows t) ∙ ap (λ (k : ℕ). k + length (C.rows t)) (length-map us atom_row))) in
      let q = p + suc (length us) in
      let d : drop q rows ≡ C.rows t ++ (C.rows u ++ rest) = drop_after p r us (C.rows t ++ (C.rows u ++ rest)) e' in
      opens n m p r _ L.parts (loop_line k ps (length us)) _ e' L.read L.is
      (ap (λ (y : ℕ). formed rows arities over (tree_form rows arities over n m) (tree_form rows arities over n (suc m))
      y (loop_line k ps (length us)) p) L.binds
      ∙ and_then (atoms rows arities over (some (length us))) _ p us q _
      (atoms_here p r us (C.rows t ++ (C.rows u ++ rest)) e' F.0.1.0 (tree_no_atom t (C.rows u ++ rest)))
      (and_then (tree_form rows arities over n m) _ q t (q + length (C.rows t)) _
      (inner_reads t reads n m q (C.rows u ++ rest) F.0.1.1.1 (omega (arith, few, z)) d (tree_no_atom u rest))
      (follows u reads' (loop x k ps us t) n m p (q + length (C.rows t)) rest F.1 (omega (arith, few, z))
      (drop_more rows q (C.rows t) (C.rows u ++ rest) d) na (omega (arith, z)))))

  if_reads : (x : ℕ) (g : Atom) (a b u : Tree) → Reads a → Reads b → Reads u → Reads (line (if_else x g a b) u)
  unfolding C.rows
  if_reads x g a b u ra rb ru zero m p rest F few e na = absurd (omega (arith, few))
  if_reads x g a b u ra rb ru (suc n) m p rest F few e na =
      let r = row 12 x in
      let e' : drop p rows ≡ r ∷ (map atom_row (g ∷ []) ++ (C.rows a ++ (C.rows b ++ (C.rows u ++ rest)))) =
      e ∙ ap (λ (k : List Row). r ∷ (atom_row g ∷ k)) (four (C.rows a) (C.rows b) (C.rows u) rest) in
      let z : length (C.rows (line (if_else x g a b) u))
      ≡ suc (suc (length (C.rows a) + length (C.rows b) + length (C.rows u))) =
      ap (λ (k : ℕ). suc (suc k)) (length-append (C.rows a ++ C.rows b) (C.rows u)
      ∙ ap (λ (k : ℕ). k + length (C.rows u)) (length-append (C.rows a) (C.rows b))) in
      let q = p + 2 in
      let s = q + length (C.rows a) in
      let w = s + length (C.rows b) in
      let d : drop q rows ≡ C.rows a ++ (C.rows b ++ (C.rows u ++ rest)) =
      drop_after p r (g ∷ []) (C.rows a ++ (C.rows b ++ (C.rows u ++ rest))) e' in
      let f : drop s rows ≡ C.rows b ++ (C.rows u ++ rest) =
      drop_more rows q (C.rows a) (C.rows b ++ (C.rows u ++ rest)) d in
      opens n m p r _ (record { first = x; second = 0; third = 0 }) if_line _ e'
      (name_read arities 12 x F.0.0 (omega (arith, F.0.0))) refl
      (and_then (atoms rows arities over (some 1)) _ p (g ∷ []) q _
      (atoms_here p r (g ∷ []) (C.rows a ++ (C.rows b ++ (C.rows u ++ rest))) e' (F.0.1.0, tt)
      (tree_no_atom a (C.rows b ++ (C.rows u ++ rest))))
      (and_then (tree_form rows arities over n m) _ q a s _
      (inner_reads a ra n m q (C.rows b ++ (C.rows u ++ rest)) F.0.1.1.0 (omega (arith, few, z)) d
      (tree_no_atom b (C.rows u ++ rest)))
      (and_then (tree_form rows arities over n m) _ s b w _
      (inner_reads b rb n m s (C.rows u ++ rest) F.0.1.1.1 (omega (arith, few, z)) f (tree_no_atom u rest))
      (follows u ru (if_else x g a b) n m p w rest F.1 (omega (arith, few, z))
      (drop_more rows s (C.rows b) (C.rows u ++ rest) f) na (omega (arith, z))))))

  mutual
    pub tree_reads : (t : Tree) → Reads t
    tree_reads (end a) = end_reads a
    tree_reads (line l t) = line_reads l t (tree_reads t)

    line_reads : (l : Line) (t : Tree) → Reads t → Reads (line l t)
    line_reads (leaf x l us) t reads = leaf_reads x l us t reads
    line_reads (if_else x g a b) t reads = if_reads x g a b t (tree_reads a) (tree_reads b) reads
    line_reads (loop x k ps us a) t reads = loop_reads x k ps us a t (tree_reads a) reads
    line_reads (retain x) t reads = retain_reads x t reads
    line_reads (release x) t reads = release_reads x t reads
