-- The trees that `form` reads stand in the rows, and are in form.
use Rattle.std.specs.Prelude.{ℕ, ◌≤◌, ◌+◌, ◌<◌, ◌-◌, suc, zero, ◌*◌, true, false, Bool, cond, ◌≡◌, refl, List, []}
use Rattle.std.specs.Prelude.{◌∷◌, ◌++◌, map, ltb, pos, length, get_or, drop}
use Rattle.prelude.specs.Kit.{arith, ◌∙◌, sym, ap, subst, some, none, Option, append_assoc, length-append, length-map}
use Rattle.prelude.specs.Kit.{length-drop, eqb-true, ltb-true}
use Rattle.semantics.specs.Outcome.{done, stop, onward, ◌>>=◌, give}
use Rattle.semantics.specs.Kinds.{leaf_kind, leaf_operand, loop_kind, packed_names}
use Rattle.semantics.specs.Code as C
use Rattle.semantics.specs.Code.{Atom, Line, leaf, if_else, loop, retain, release, Tree, end, line, Row, row, atom_row}
use Rattle.semantics_lent.specs.Form.{Test, Parts, parts_of, atoms_before, has_all, Form, leaf_line, if_line, loop_line}
use Rattle.semantics_lent.specs.Form.{retain_line, release_line, end_line, no_line, form_of, row_here, atoms}
use Rattle.semantics_lent.specs.Form.{atoms_found, formed, tree_form, in_range, first_atom}
use Rattle.lent_passing.specs.Ends.{Ends, ends_then}
use Rattle.lent_passing.specs.Reading.{SmallAtoms, Formed, LineFormed, LoopFormed}
use Rattle.lent_passing.specs.Said.{packing, PartsSay, parts_say, AtomsSay, atoms_say, LeafSays, Has, FormSays}
use Rattle.lent_passing.specs.Said.{form_says, row_is}

-- ---- rows from a position on

drop_split : {A : Type 0} (l : List A) (p : ℕ) (d : A) → p < length l → drop p l ≡ get_or l p d ∷ drop (suc p) l
drop_split [] p d h = absurd (omega (arith, h))
drop_split (a ∷ l) zero d h = refl
drop_split (a ∷ l) (suc p) d h = drop_split l p d (omega (arith, h))

drop_none : {A : Type 0} (n : ℕ) → drop {A = A} n [] ≡ []
drop_none zero = refl
drop_none (suc n) = refl

pub drop_drop : {A : Type 0} (l : List A) (i j : ℕ) → drop j (drop i l) ≡ drop (i + j) l
drop_drop l zero j = ap (λ (n : ℕ). drop n l) (let z : j ≡ 0 + j = omega arith in z)
drop_drop [] (suc i) j = drop_none j ∙ sym (drop_none (suc i + j))
drop_drop (a ∷ l) (suc i) j =
    drop_drop l i j ∙ ap (λ (n : ℕ). drop n (a ∷ l)) (let z : suc (i + j) ≡ suc i + j = omega arith in z)

module _ (rows : List Row) (arities : List (Option ℕ)) (over : Bool) where
  -- rows that stand from p to q
  pub record Stand (p q : ℕ) (rs : List Row) : Type 0 where
    pub next : q ≡ p + length rs
    pub within : q ≤ length rows
    pub stands : drop p rows ≡ rs ++ drop q rows

  pub stand_both : (p q s : ℕ) (xs ys : List Row) → Stand p q xs → Stand q s ys → Stand p s (xs ++ ys)
  stand_both p q s xs ys a b = record {
    next = omega (arith, a.next, b.next, length-append xs ys);
    within = b.within;
    stands = a.stands ∙ ap (λ (l : List Row). xs ++ l) b.stands ∙ sym (append_assoc xs ys (drop s rows));
  }

  pub stand_same : (p q : ℕ) (xs ys : List Row) → xs ≡ ys → Stand p q xs → Stand p q ys
  stand_same p q xs ys e a = subst (Stand p q) e a

  -- the present row
  abbrev pub HereSays : ℕ → Row → ℕ → Type 0
  HereSays p r q = (q ≡ p) × Stand p (p + 1) (r ∷ [])

  pub here_says : (p : ℕ) → Ends (HereSays p) (row_here rows arities over p)
  unfolding row_here
  here_says p = go (ltb p (length rows)) refl
    where
      go : (b : Bool) → ltb p (length rows) ≡ b →
          Ends (HereSays p) (cond b (done (get_or rows p (row 0 0)) p) (stop 29 p))
      go true e = (
        refl,
        record {
          next = refl;
          within = omega (arith, ltb-true p (length rows) e);
          stands = drop_split rows p (row 0 0) (ltb-true p (length rows) e)
              ∙ ap (λ (n : ℕ). get_or rows p (row 0 0) ∷ drop n rows) (let z : suc p ≡ p + 1 = omega arith in z);
        },
      )
      go false e = tt

  -- the atoms of the present line
  pub record AtomsHere (w : Option ℕ) (p : ℕ) (us : List Atom) (q : ℕ) : Type 0 where
    pub small : SmallAtoms us
    pub has : Has w (length us)
    pub stand : Stand (p + 1) q (map atom_row us)

  has_says : (w : Option ℕ) (m : ℕ) → has_all w m ≡ true → Has w m
  has_says (some n) m e = eqb-true m n e
  has_says none m e = tt

  found_says : (w : Option ℕ) (p : ℕ) → p < length rows → (o : Option (List Atom)) → AtomsSay (drop (suc p) rows) o →
      Ends (AtomsHere w p) (atoms_found rows arities over w o p)
  found_says w p h (some us) g = go (has_all w (length us)) refl _
    where
      whole : drop (p + 1) rows ≡ map atom_row us ++ drop (p + suc (length us)) rows
      whole = ap (λ (n : ℕ). drop n rows) (let z : p + 1 ≡ suc p = omega arith in z) ∙ g.0
          ∙ ap (λ (l : List Row). map atom_row us ++ l) (drop_drop rows (suc p) (length us)
          ∙ ap (λ (n : ℕ). drop n rows) (let z : suc p + length us ≡ p + suc (length us) = omega arith in z))

      go : (b : Bool) → has_all w (length us) ≡ b → (n : ℕ) →
          Ends (AtomsHere w p) (cond b (done us (p + suc (length us))) (stop 29 n))
      go true e n = record {
        small = g.1;
        has = has_says w (length us) e;
        stand = record {
          next = omega (arith, length-map us atom_row);
          within = omega (
            arith,
            h,
            length-map us atom_row,
            ap length g.0,
            length-append (map atom_row us) (drop (length us) (drop (suc p) rows)),
            length-drop (suc p) rows,
          );
          stands = whole;
        };
      }
      go false e n = tt
  found_says w p h none g = tt

  pub atoms_here_say : (w : Option ℕ) (p : ℕ) → p < length rows → Ends (AtomsHere w p) (atoms rows arities over w p)
  unfolding atoms
  atoms_here_say w p h = found_says w p h (atoms_before (drop (suc p) rows)) (atoms_say (drop (suc p) rows))

  -- a line's row and its atoms
  pub row_and_atoms : (w : Option ℕ) (p q : ℕ) (r r' : Row) (us : List Atom) → Stand p (p + 1) (r ∷ []) → r ≡ r' →
      AtomsHere w p us q → Stand p q (r' ∷ map atom_row us)
  row_and_atoms w p q r r' us a e b =
      stand_both p (p + 1) q (r' ∷ []) (map atom_row us) (stand_same p (p + 1) (r ∷ []) (r' ∷ [])
      (ap (λ (x : Row). x ∷ []) e) a)
      b.stand

  -- ---- trees

  pub record Says (levels p : ℕ) (t : Tree) (q : ℕ) : Type 0 where
    pub stand : Stand p q (C.rows t)
    pub formed : Formed (LeafSays arities) levels t

  abbrev Reader : ℕ → Test Tree → Type 0
  Reader levels m = (p : ℕ) → Ends (Says levels p) (m p)

  -- a line and the tree that follows
  followed : (levels p q : ℕ) (l : Line) (next : Test Tree) → Reader levels next → Stand p q (C.line_rows l) →
      LineFormed (LeafSays arities) levels l →
      Ends (Says levels p) (onward (λ (t : Tree). give (line l t)) (next q))
  unfolding C.rows
  followed levels p q l next reads a f =
      ends_then (Says levels q) (Says levels p) (λ (t : Tree). give (line l t)) (next q) (reads q)
      (λ t s h. record {
        stand = stand_both p q s (C.line_rows l) (C.rows t) a h.stand;
        formed = (f, h.formed);
      })

  -- over a line, its parts and its operand
  module _ (m : ℕ) (below next : Test Tree) (belows : Reader m below) (nexts : Reader (suc m) next) (p : ℕ) (r : Row)
      (here : Stand p (p + 1) (r ∷ [])) (q : Parts) (packed : r.operand ≡ pos (packing q)) (small : q.first < 256)
    where
      there : p < length rows
      there = omega (arith, here.within)

      -- a line without atoms
      note_stands : (k : ℕ) (us : List Atom) (s : ℕ) → r.kind ≡ k → packing q ≡ q.first → AtomsHere (some 0) p us s →
          Stand p s (row k q.first ∷ [])
      note_stands k [] s e f h =
          row_and_atoms (some 0) p s r (row k q.first) [] here
          (row_is r k (pos q.first) e (packed ∙ ap (λ (n : ℕ). pos n) f)) h
      note_stands k (a ∷ us) s e f h = absurd (omega (arith, h.has))

      formed_says : (F : Form) → FormSays arities q r.kind F →
          Ends (Says (suc m) p) (formed rows arities over below next q.first F p)
      unfolding C.rows
      formed_says (leaf_line l w) f =
          ends_then (AtomsHere w p) (Says (suc m) p) _ (atoms rows arities over w p) (atoms_here_say w p there)
          (λ us s h. followed (suc m) p s (leaf q.first l us) next nexts
          (row_and_atoms w p s r (row (leaf_kind l) (leaf_operand l q.first (length us))) us here
          (row_is r (leaf_kind l) (pos (leaf_operand l q.first (length us))) f.0
          (packed ∙ ap (λ (n : ℕ). pos n) (f.1 (length us) h.has).1)) h)
          (small, (h.small, (f.1 (length us) h.has).0)))
      formed_says if_line f =
          ends_then (AtomsHere (some 1) p) (Says (suc m) p) _ (atoms rows arities over (some 1) p)
          (atoms_here_say (some 1) p there) (λ us s h. if_says us s h (one us h.has))
        where
          -- one atom
          one : (us : List Atom) → length us ≡ 1 → us ≡ first_atom us ∷ []
          one [] e = absurd (omega (arith, e))
          one (a ∷ []) e = refl
          one (a ∷ b ∷ us) e = absurd (omega (arith, e))

          if_says : (us : List Atom) (s : ℕ) → AtomsHere (some 1) p us s → us ≡ first_atom us ∷ [] →
              Ends (Says (suc m) p) (onward (λ (a : Tree). below >>= λ (b : Tree). next >>= λ (t : Tree).
              give (line (if_else q.first (first_atom us) a b) t)) (below s))
          if_says us s h e =
              let g = first_atom us in
              let begins : Stand p s (row 12 q.first ∷ (atom_row g ∷ [])) =
              stand_same p s _ _ (ap (λ (vs : List Atom). row 12 q.first ∷ map atom_row vs) e)
              (row_and_atoms (some 1) p s r (row 12 q.first) us here
              (row_is r 12 (pos q.first) f.0 (packed ∙ ap (λ (n : ℕ). pos n) f.1)) h) in
              ends_then (Says m s) (Says (suc m) p) _ (below s) (belows s) (λ a s₁ k.
              ends_then (Says m s₁) (Says (suc m) p) _ (below s₁) (belows s₁) (λ b s₂ l.
              followed (suc m) p s₂ (if_else q.first g a b) next nexts
              (stand_both p s s₂ (row 12 q.first ∷ (atom_row g ∷ [])) (C.rows a ++ C.rows b) begins
              (stand_both s s₁ s₂ (C.rows a) (C.rows b) k.stand l.stand))
              (small, ((subst SmallAtoms e h.small).0, (k.formed, l.formed)))))
      formed_says (loop_line j ps n) f =
          ends_then (AtomsHere (some n) p) (Says (suc m) p) _ (atoms rows arities over (some n) p)
          (atoms_here_say (some n) p there) (λ us s h.
          ends_then (Says m s) (Says (suc m) p) _ (below s) (belows s) (λ a s₁ k.
          followed (suc m) p s₁ (loop q.first j ps us a) next nexts
          (stand_both p s s₁ (row (loop_kind j) (q.first + 256 * packed_names ps) ∷ map atom_row us) (C.rows a)
          (row_and_atoms (some n) p s r (row (loop_kind j) (q.first + 256 * packed_names ps)) us here
          (row_is r (loop_kind j) (pos (q.first + 256 * packed_names ps)) f.0
          (packed ∙ ap (λ (n : ℕ). pos n) f.1.1)) h) k.stand)
          (small, (h.small, (subst (λ (i : ℕ). LoopFormed j ps i) (sym h.has) f.1.0, k.formed)))))
      formed_says retain_line f =
          ends_then (AtomsHere (some 0) p) (Says (suc m) p) _ (atoms rows arities over (some 0) p)
          (atoms_here_say (some 0) p there) (λ us s h. followed (suc m) p s (retain q.first) next nexts
          (note_stands 14 us s f.0 f.1 h) small)
      formed_says release_line f =
          ends_then (AtomsHere (some 0) p) (Says (suc m) p) _ (atoms rows arities over (some 0) p)
          (atoms_here_say (some 0) p there) (λ us s h. followed (suc m) p s (release q.first) next nexts
          (note_stands 15 us s f.0 f.1 h) small)
      formed_says end_line f =
          ends_then (AtomsHere (some 1) p) (Says (suc m) p) _ (atoms rows arities over (some 1) p)
          (atoms_here_say (some 1) p there) (λ us s h. end_says us s h h.has)
        where
          end_says : (us : List Atom) (s : ℕ) → AtomsHere (some 1) p us s → length us ≡ 1 →
              Says (suc m) p (end (first_atom us)) s
          end_says [] s h e = absurd (omega (arith, e))
          end_says (a ∷ []) s h e = record {
            stand = row_and_atoms (some 1) p s r (row 16 0) (a ∷ []) here
                (row_is r 16 (pos 0) f.0 (packed ∙ ap (λ (n : ℕ). pos n) f.1)) h;
            formed = (omega arith, h.small.0);
          }
          end_says (a ∷ b ∷ us) s h e = absurd (omega (arith, e))
      formed_says no_line f = tt

  -- a line of a tree whose operand has these parts, if it is in range
  parts_then : (n m p : ℕ) → Reader m (tree_form rows arities over n m) →
      Reader (suc m) (tree_form rows arities over n (suc m)) → (r : Row) → Stand p (p + 1) (r ∷ []) →
      (o : Option Parts) → PartsSay r.kind r.operand o →
      Ends (Says (suc m) p) (onward (λ (q : Parts).
      formed rows arities over (tree_form rows arities over n m) (tree_form rows arities over n (suc m)) q.first
      (form_of arities r.kind q)) (in_range rows arities over o p))
  unfolding onward
  parts_then n m p belows nexts r here (some q) h =
      formed_says m (tree_form rows arities over n m) (tree_form rows arities over n (suc m)) belows nexts p r here q
      h.0 h.1.small.0 (form_of arities r.kind q) (form_says arities q r.kind h.1)
  parts_then n m p belows nexts r here none h = tt

  -- every tree that is read
  pub tree_says : (n levels : ℕ) → Reader levels (tree_form rows arities over n levels)
  unfolding tree_form
  tree_says zero levels p = tt
  tree_says (suc n) zero p = tt
  tree_says (suc n) (suc m) p =
      ends_then (HereSays p) (Says (suc m) p) _ (row_here rows arities over p) (here_says p) (λ r s h.
      subst (λ (k : ℕ). Ends (Says (suc m) p) (onward (λ (q : Parts).
      formed rows arities over (tree_form rows arities over n m) (tree_form rows arities over n (suc m)) q.first
      (form_of arities r.kind q)) (in_range rows arities over (parts_of r.kind r.operand) k))) (sym h.0)
      (parts_then n m p (tree_says n m) (tree_says n (suc m)) r h.1 (parts_of r.kind r.operand)
      (parts_say r.kind r.operand)))
