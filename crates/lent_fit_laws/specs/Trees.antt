-- Trees by positions are tested as `fit` tests them, where the rows of trees in form stand.
use Rattle.std.specs.Prelude.{ℕ, ◌≤◌, ◌+◌, ◌<◌, suc, zero, ◌*◌, true, false, Bool, cond, ◌&&◌, not, ◌≡◌, refl, List}
use Rattle.std.specs.Prelude.{[], ◌∷◌, ◌++◌, map, eqb, ltb, leb, ℤ, pos, length, get_or}
use Rattle.prelude.specs.Kit.{arith, dec_lt, ℕ_discrete, false≢true, ◌∙◌, sym, ap, subst, fun_ext, some, none, Option}
use Rattle.prelude.specs.Kit.{length-append, length-map, ne_eqb, lt-ltb, eq-eqb, le-ltb, le-leb, lt-leb}
use Rattle.semantics.specs.Outcome.{Outcome, done, stop, Run, onward, ◌>>=◌, ◌>>◌, give, require}
use Rattle.semantics.specs.Kinds.{Leaf, leaf_kind, Loop, mapping, filtering, reducing, rewriting, loop_kind}
use Rattle.semantics.specs.Kinds.{packed_names}
use Rattle.semantics.specs.Types.{Signature, some_if, is_none}
use Rattle.semantics.specs.Code as C
use Rattle.semantics.specs.Code.{row, atom_row, Atom, Line, leaf, if_else, loop, retain, release, Tree, end, line}
use Rattle.semantics.specs.Live.{Set, ◌∪◌, only, just}
use Rattle.semantics.specs.Annotate.{NameDepths, atom_depth, depth_of}
use Rattle.semantics_lent.specs.Form.{skip}
use Rattle.semantics_lent.specs.Fit.{Bound, with_name, all_new, in_scope, all_in_scope, scope_after, is_looped}
use Rattle.semantics_lent.specs.Fit.{loop_gives, depth_or_fault, Fitted, fit_tree, fit_line}
use Rattle.lent_passing.specs.Reading.{Formed, LineFormed, LeafFormed, LoopFormed, some_levels}
use Rattle.lent_fit_lines.specs.declared.Wants.{Wants}
use Rattle.lent_fit_lines.specs.declared.Wants.TheVariants.{Any, Exactly}
use Rattle.machine_code.specs.Reading.{atom_at}
use Rattle.lent_fit_lines.specs.Walk.{meant, meets, binds, plain_fits, note_fits, loops, loop_count, pass_names}
use Rattle.lent_fit_lines.specs.Walk.{loop_opens, loop_bound, loop_wants, loop_judged, first_at, second_at, third_at}
use Rattle.lent_fit_lines.specs.Walk.{atoms_from}
use Rattle.lent_fit_trees.specs.Trees.{Below, loop_placed, branches, if_fits, loop_fits, line_fits, scope_then}
use Rattle.lent_fit_trees.specs.Trees.{lines_fit, tree_fits}
use Rattle.machine_code.specs.Rows.{Here, At, at_first, at_second, line_some, rows_some}
use Rattle.lent_fit_laws.specs.Reading.{atom_here, atoms_here, first_read, second_read, third_read}
use Rattle.lent_fit_laws.specs.Same.{ends_at, line_ends, tree_ends}
use Rattle.lent_fit_laws.specs.Leaves.{Known, leaf_kinds, loop_kinds, leaf_reads, leaf_same, note_same, end_same}

-- ---- what a loop's tree is to give

eqb_turned : (a b : ℕ) → eqb a b ≡ eqb b a
eqb_turned a b = go (ℕ_discrete a b)
  where
    go : Dec (a ≡ b) → eqb a b ≡ eqb b a
    go (yes e) = eq-eqb a b e ∙ sym (eq-eqb b a (sym e))
    go (no f) = ne_eqb a b f ∙ sym (ne_eqb b a (λ e. f (sym e)))

some_then : (b : Bool) (d : ℕ) → b ≡ not (is_none (some_if b d))
some_then true d = refl
some_then false d = refl

under_four : (e : ℕ) → ltb e 4 ≡ leb (suc e) 4
under_four e = go (dec_lt e 4)
  where
    go : Dec (e < 4) → ltb e 4 ≡ leb (suc e) 4
    go (yes h) = lt-ltb e 4 h ∙ sym (le-leb (suc e) 4 (omega (arith, h)))
    go (no f) = le-ltb e 4 (omega (arith, f)) ∙ sym (lt-leb (suc e) 4 (omega (arith, f)))

pub wants_same : (k : Loop) (Γ : NameDepths) (us : List Atom) → length us ≡ loop_count k → is_looped k Γ us ≡ true →
    meets (loop_wants k (depth_of Γ us 0)) ≡ (λ e. not (is_none (loop_gives k Γ us e)))
wants_same mapping Γ [] n h = absurd (let z : ⊥ = omega (arith, n) in z)
wants_same mapping Γ (a ∷ []) n h = fun_ext (λ e. under_four e ∙ some_then (leb (suc e) 4) (suc e))
wants_same mapping Γ (a ∷ b ∷ us) n h = absurd (let z : ⊥ = omega (arith, n) in z)
wants_same filtering Γ [] n h = absurd (let z : ⊥ = omega (arith, n) in z)
wants_same filtering Γ (a ∷ []) n h = fun_ext (λ e. eqb_turned 0 e ∙ some_then (eqb e 0) (atom_depth Γ a))
wants_same filtering Γ (a ∷ b ∷ us) n h = absurd (let z : ⊥ = omega (arith, n) in z)
wants_same reducing Γ [] n h = absurd (let z : ⊥ = omega (arith, n) in z)
wants_same reducing Γ (a ∷ []) n h = absurd (let z : ⊥ = omega (arith, n) in z)
wants_same reducing Γ (a ∷ b ∷ []) n h = fun_ext (λ e. some_then (eqb (atom_depth Γ a) e) (atom_depth Γ a))
wants_same reducing Γ (a ∷ b ∷ c ∷ us) n h = absurd (let z : ⊥ = omega (arith, n) in z)
wants_same rewriting Γ [] n h = absurd (let z : ⊥ = omega (arith, n) in z)
wants_same rewriting Γ (a ∷ []) n h = fun_ext (λ e. rw h (eqb_turned 0 e ∙ some_then (eqb e 0) 1))
wants_same rewriting Γ (a ∷ b ∷ us) n h = absurd (let z : ⊥ = omega (arith, n) in z)

pub judged_same : (k : Loop) (Γ : NameDepths) (us : List Atom) (e : ℕ) → length us ≡ loop_count k →
    loop_judged k (depth_of Γ us 0) e ≡ loop_gives k Γ us e
judged_same mapping Γ [] e n = absurd (let z : ⊥ = omega (arith, n) in z)
judged_same mapping Γ (a ∷ []) e n = refl
judged_same mapping Γ (a ∷ b ∷ us) e n = absurd (let z : ⊥ = omega (arith, n) in z)
judged_same filtering Γ [] e n = absurd (let z : ⊥ = omega (arith, n) in z)
judged_same filtering Γ (a ∷ []) e n = refl
judged_same filtering Γ (a ∷ b ∷ us) e n = absurd (let z : ⊥ = omega (arith, n) in z)
judged_same reducing Γ [] e n = absurd (let z : ⊥ = omega (arith, n) in z)
judged_same reducing Γ (a ∷ []) e n = absurd (let z : ⊥ = omega (arith, n) in z)
judged_same reducing Γ (a ∷ b ∷ []) e n =
    ap (λ (t : Bool). some_if t (atom_depth Γ a)) (eqb_turned e (atom_depth Γ a))
judged_same reducing Γ (a ∷ b ∷ c ∷ us) e n = absurd (let z : ⊥ = omega (arith, n) in z)
judged_same rewriting Γ [] e n = absurd (let z : ⊥ = omega (arith, n) in z)
judged_same rewriting Γ (a ∷ []) e n = refl
judged_same rewriting Γ (a ∷ b ∷ us) e n = absurd (let z : ⊥ = omega (arith, n) in z)

-- ---- the names of a pass

pub record LoopReads (O : List ℤ) (x : ℕ) (k : Loop) (ps : List ℕ) (n p : ℕ) : Type 0 where
  pub name : first_at O p ≡ x
  pub names : pass_names k (second_at O p) (third_at O p) ≡ ps
  pub count : n ≡ loop_count k

one_read : (O : List ℤ) (x y p : ℕ) → x < 256 → y < 256 → get_or O p (pos 0) ≡ pos (x + 256 * packed_names (y ∷ [])) →
    (first_at O p ≡ x) × (second_at O p ≡ y)
one_read O x y p h g e =
    let i = e ∙ ap (λ (m : ℕ). pos m)
    (let z : x + 256 * (y + 256 * 0) ≡ x + 256 * y + 65536 * 0 = omega arith in z) in
    (first_read O p x y 0 h g (omega arith) i, second_read O p x y 0 h g (omega arith) i)

pub loop_reads : (O : List ℤ) (k : Loop) (x : ℕ) (ps : List ℕ) (n p : ℕ) → x < 256 → LoopFormed k ps n →
    get_or O p (pos 0) ≡ pos (x + 256 * packed_names ps) → LoopReads O x k ps n p
loop_reads O mapping x [] n p h g e = absurd g.0
loop_reads O mapping x (y ∷ []) n p h g e =
    let r = one_read O x y p h g.0 e in record { name = r.0; names = ap (λ (m : ℕ). m ∷ []) r.1; count = g.1 }
loop_reads O mapping x (y ∷ z ∷ ps) n p h g e = absurd g.0
loop_reads O filtering x [] n p h g e = absurd g.0
loop_reads O filtering x (y ∷ []) n p h g e =
    let r = one_read O x y p h g.0 e in record { name = r.0; names = ap (λ (m : ℕ). m ∷ []) r.1; count = g.1 }
loop_reads O filtering x (y ∷ z ∷ ps) n p h g e = absurd g.0
loop_reads O reducing x [] n p h g e = absurd g.0
loop_reads O reducing x (y ∷ []) n p h g e = absurd g.0
loop_reads O reducing x (y ∷ z ∷ []) n p h g e =
    let i = e ∙ ap (λ (m : ℕ). pos m)
    (let w : x + 256 * (y + 256 * (z + 256 * 0)) ≡ x + 256 * y + 65536 * z = omega arith in w) in
    record {
      name = first_read O p x y z h g.0.0 g.0.1 i;
      names = λ j. second_read O p x y z h g.0.0 g.0.1 i j ∷ third_read O p x y z h g.0.0
          g.0.1 i j ∷ [];
      count = g.1;
    }
loop_reads O reducing x (y ∷ z ∷ w ∷ ps) n p h g e = absurd g.0
loop_reads O rewriting x [] n p h g e = absurd g.0
loop_reads O rewriting x (y ∷ []) n p h g e =
    let r = one_read O x y p h g.0 e in record { name = r.0; names = ap (λ (m : ℕ). m ∷ []) r.1; count = g.1 }
loop_reads O rewriting x (y ∷ z ∷ ps) n p h g e = absurd g.0

-- ---- lines with trees

onward_all : {S A B : Type 0} (f g : A → Run S B) → ((a : A) (s : S) → f a s ≡ g a s) → (o : Outcome S A) →
    onward f o ≡ onward g o
unfolding onward
onward_all f g h (done a s) = h a s
onward_all f g h (stop n s) = refl

and_both : (a b c : Bool) → (a && (b && c)) ≡ true → b ≡ true
and_both true true c e = refl
and_both true false c e = absurd (false≢true e)
and_both false b c e = absurd (false≢true e)

module _ (K : List ℕ) (O : List ℤ) (st : List ℕ) (sig : ℕ → Signature) where
  -- T tests the tree t at p as `fit` does
  abbrev pub Sub : Below → Tree → ℕ → Type 0
  Sub T t p = (w : Wants) (S : Set) (N : Bound) → T w S N p ≡ fit_tree sig t (meets w) S N p

  pub if_same : (T : Below) (x : ℕ) (g : Atom) (t e : Tree) (S : Set) (N : Bound) (p : ℕ) → first_at O p ≡ x →
      meant (atom_at K O (p + 1)) ≡ g → Sub T t (p + 2) → Sub T e (p + 2 + length (C.rows t)) →
      if_fits K O st T S N p ≡ fit_line sig (if_else x g t e) S N p
  unfolding if_fits fit_tree onward require
  if_same T x g t e S N p i j first second =
      rw (i, j) (go (in_scope S g && (eqb (atom_depth N.depths g) 0 && not (N.names x))))
    where
      last : Fitted → ℕ → Outcome ℕ Bound
      last B = give (with_name x B.depth B.bound)

      found : Fitted → ℕ → Outcome ℕ Bound
      found A = T (Exactly A.depth) S A.bound >>= last

      fitted : Fitted → ℕ → Outcome ℕ Bound
      fitted A = fit_tree sig e (eqb A.depth) S A.bound >>= last

      go : (b : Bool) → cond b (branches K O st T x S N (p + 2)) (stop 29 p)
          ≡ onward (λ (u : Unit {0}). skip 2 >> (fit_tree sig t (λ _. true) S (with_name x 0 N) >>= fitted))
          (require b 29 p)
      go false = refl
      go true =
          ap (onward found) (first Any S (with_name x 0 N))
          ∙ ends_at found fitted (fit_tree sig t (λ _. true) S (with_name x 0 N) (p + 2)) (p + 2 + length (C.rows t))
          (tree_ends sig t (λ _. true) S (with_name x 0 N) (p + 2))
          (λ A. ap (onward last) (second (Exactly A.depth) S A.bound))

  pub loop_same : (T : Below) (x : ℕ) (k : Loop) (ps : List ℕ) (us : List Atom) (t : Tree) (S : Set) (N : Bound)
      (p : ℕ) →
      LoopReads O x k ps (length us) p → atoms_from K O (length us) (p + 1) ≡ us → Sub T t (p + suc (length us)) →
      loop_fits K O st T (loop_kind k) S N p ≡ fit_line sig (loop x k ps us t) S N p
  unfolding loop_fits fit_tree onward require
  loop_same T x k ps us t S N p r e sub =
      ap (λ (j : Loop). shape j (first_at O p) (atoms_from K O (loop_count j) (p + 1))
      (pass_names j (second_at O p) (third_at O p)) (p + 1 + loop_count j)) (loop_kinds k).4
      ∙ ap (λ (n : ℕ). shape k (first_at O p) (atoms_from K O n (p + 1)) (pass_names k (second_at O p) (third_at O p))
      (p + 1 + n)) (sym r.count)
      ∙ (λ i. shape k (r.name i) (e i) (r.names i)
      ((let z : p + 1 + length us ≡ p + suc (length us) = omega arith in z) i))
      ∙ go (loop_opens k S N us x ps) refl
    where
      shape : Loop → ℕ → List Atom → List ℕ → ℕ → Outcome ℕ Bound
      shape k x us ps q =
          cond (loop_opens k S N us x ps)
          (onward (λ A. loop_placed (loop_judged k (depth_of N.depths us 0) A.depth) x A.bound)
          (T (loop_wants k (depth_of N.depths us 0)) (S ∪ just ps) (loop_bound k N us x ps) q))
          (stop 29 p)

      found : Fitted → ℕ → Outcome ℕ Bound
      found A = loop_placed (loop_judged k (depth_of N.depths us 0) A.depth) x A.bound

      fitted : Fitted → ℕ → Outcome ℕ Bound
      fitted A = depth_or_fault (loop_gives k N.depths us A.depth) >>= λ d. give (with_name x d A.bound)

      placed_same : (A : Fitted) (o : Option ℕ) (s : ℕ) → loop_placed o x A.bound s
          ≡ onward (λ d. give (with_name x d A.bound)) (depth_or_fault o s)
      placed_same A (some d) s = refl
      placed_same A none s = refl

      go : (b : Bool) → loop_opens k S N us x ps ≡ b → cond b
          (onward found (T (loop_wants k (depth_of N.depths us 0)) (S ∪ just ps) (loop_bound k N us x ps)
          (p + suc (length us)))) (stop 29 p)
          ≡ onward (λ (u : Unit {0}). skip (suc (length us)) >> (fit_tree sig t
          (λ e. not (is_none (loop_gives k N.depths us e))) (S ∪ just ps) (loop_bound k N us x ps) >>= fitted))
          (require b 29 p)
      go false h = refl
      go true h =
          ap (onward found) (sub (loop_wants k (depth_of N.depths us 0)) (S ∪ just ps) (loop_bound k N us x ps))
          ∙ ap (λ (gives : ℕ → Bool). onward found (fit_tree sig t gives (S ∪ just ps) (loop_bound k N us x ps)
          (p + suc (length us))))
          (wants_same k N.depths us r.count
          (and_both (all_in_scope S us) (is_looped k N.depths us) (all_new (x ∷ ps) N.names) h))
          ∙ onward_all found fitted
          (λ A s. ap (λ (o : Option ℕ). loop_placed o x A.bound s)
          (judged_same k N.depths us A.depth r.count)
          ∙ placed_same A (loop_gives k N.depths us A.depth) s)
          (fit_tree sig t (λ e. not (is_none (loop_gives k N.depths us e))) (S ∪ just ps) (loop_bound k N us x ps)
          (p + suc (length us)))

-- ---- all lines and trees

name_of : (O : List ℤ) (x p : ℕ) → x < 256 → get_or O p (pos 0) ≡ pos x → first_at O p ≡ x
name_of O x p h e = first_read O p x 0 0 h (omega arith) (omega arith)
    (e ∙ ap (λ (n : ℕ). pos n) (let z : x ≡ x + 256 * 0 + 65536 * 0 = omega arith in z))

module _ (K : List ℕ) (O : List ℤ) (st : List ℕ) (sig : ℕ → Signature) (arities : List (Option ℕ))
    (known : Known O st sig arities) where
  abbrev pub Claim : Tree → Type 0
  Claim t =
      (m n p : ℕ) (w : Wants) (S : Set) (N : Bound) → Formed (LeafFormed arities) (suc m) t → length (C.rows t) ≤ n →
      n ≤ 4096 → At K O p (C.rows t) →
      lines_fit K O st (tree_fits K O st m) n w S N p ≡ fit_tree sig t (meets w) S N p

  below : (t : Tree) → Claim t → (m p : ℕ) → Formed (LeafFormed arities) m t → length (C.rows t) ≤ 4096 →
      At K O p (C.rows t) → Sub K O st sig (tree_fits K O st m) t p
  unfolding tree_fits
  below t c zero p F l h w S N = absurd (let z : ⊥ = omega (arith, some_levels (LeafFormed arities) zero t F) in z)
  below t c (suc m) p F l h w S N = c m 4096 p w S N F l (omega arith) h

  -- a line that is tested as `fit` does
  pub record LineSame (l : Line) (m p : ℕ) (S : Set) (N : Bound) : Type 0 where
    pub within : p < length K
    pub other : eqb (get_or K p 0) 16 ≡ false
    pub scope : scope_then K O st (get_or K p 0) (first_at O p) S ≡ scope_after l S
    pub is : line_fits K O st (tree_fits K O st m) (get_or K p 0) S N p ≡ fit_line sig l S N p

  scope_with : (k x p : ℕ) (S : Set) → binds k ≡ true → first_at O p ≡ x →
      scope_then K O st k (first_at O p) S ≡ (S ∪ only x)
  scope_with k x p S e f = rw (e, f) refl

  leaf_line : (x : ℕ) (l : Leaf) (us : List Atom) (m p : ℕ) (S : Set) (N : Bound) →
      LineFormed (LeafFormed arities) (suc m) (leaf x l us) → At K O p (C.line_rows (leaf x l us)) →
      LineSame (leaf x l us) m p S N
  unfolding C.rows line_fits plain_fits
  leaf_line x l us m p S N F h =
      let r = leaf_reads K O st sig arities known l x (length us) p F.0 F.1.1 h.0.operand in
      let k = h.0.kind in
      let c = leaf_kinds l in
      record {
        within = h.0.within;
        other = ap (λ (n : ℕ). eqb n 16) k ∙ c.0;
        scope = ap (λ (n : ℕ). scope_then K O st n (first_at O p) S) k
            ∙ scope_with (leaf_kind l) x p S c.3 r.name;
        is = ap (λ (n : ℕ). line_fits K O st (tree_fits K O st m) n S N p) k
            ∙ rw (c.1, c.2, c.3) (leaf_same K O st sig arities known x l us S N p r
            (atoms_here K O (p + 1) us F.1.0 h.1));
      }

  note_line : (k x : ℕ) (l : Line) (m p : ℕ) (S : Set) (N : Bound) → x < 256 → Here K O p (row k x) →
      eqb k 16 ≡ false → eqb k 12 ≡ false → loops k ≡ false → binds k ≡ false → scope_after l S ≡ S →
      fit_line sig l S N p ≡ onward (λ (u : Unit {0}). skip 1 >> give N) (require (S x && ltb 0 (N.depths x)) 29 p) →
      LineSame l m p S N
  unfolding line_fits plain_fits
  note_line k x l m p S N small h a b c d s e = record {
    within = h.within;
    other = ap (λ (n : ℕ). eqb n 16) h.kind ∙ a;
    scope = ap (λ (n : ℕ). scope_then K O st n (first_at O p) S) h.kind ∙ rw d (sym s);
    is = ap (λ (n : ℕ). line_fits K O st (tree_fits K O st m) n S N p) h.kind
        ∙ rw (b, c, d) (ap (λ (y : ℕ). note_fits y S N p) (name_of O x p small h.operand)
        ∙ note_same K O st sig arities known x l S N p e);
  }

  abbrev LineClaim : Line → Type 0
  LineClaim l =
      (m p : ℕ) (S : Set) (N : Bound) → LineFormed (LeafFormed arities) (suc m) l → length (C.line_rows l) ≤ 4096 →
      At K O p (C.line_rows l) → LineSame l m p S N

  end_tree : (a : Atom) → Claim (end a)
  unfolding C.rows lines_fit
  end_tree a m zero p w S N F l q h = absurd (let z : ⊥ = omega (arith, l) in z)
  end_tree a m (suc n) p w S N F l q h =
      rw (lt-ltb p (length K) h.0.within, h.0.kind)
      (end_same K O st sig arities known a w S N p (atom_here K O (p + 1) a F.1 h.1.0))

  line_tree : (l : Line) (t : Tree) → LineClaim l → Claim t → Claim (line l t)
  unfolding C.rows lines_fit fit_tree
  line_tree l t c d m zero p w S N F e q h =
      absurd (let z : ⊥ = omega (arith, e, rows_some t, length-append (C.line_rows l) (C.rows t)) in z)
  line_tree l t c d m (suc n) p w S N F e q h =
      let y = length-append (C.line_rows l) (C.rows t) in
      let k = c m p S N F.0 (omega (arith, e, y, q)) (at_first K O p (C.line_rows l) (C.rows t) h) in
      rw (lt-ltb p (length K) k.within, k.other)
      (ap (λ (U : Set). onward (λ (M : Bound). lines_fit K O st (tree_fits K O st m) n w U M)
      (line_fits K O st (tree_fits K O st m) (get_or K p 0) S N p)) k.scope
      ∙ ap (onward (λ (M : Bound). lines_fit K O st (tree_fits K O st m) n w (scope_after l S) M)) k.is
      ∙ ends_at (λ (M : Bound). lines_fit K O st (tree_fits K O st m) n w (scope_after l S) M)
      (λ (M : Bound). fit_tree sig t (meets w) (scope_after l S) M) (fit_line sig l S N p) (p + length (C.line_rows l))
      (line_ends sig l S N p) (λ M. d m n (p + length (C.line_rows l)) w (scope_after l S) M F.1
      (omega (arith, e, y, line_some l)) (omega (arith, q)) (at_second K O p (C.line_rows l) (C.rows t) h)))

  mutual
    unfolding C.rows line_fits fit_tree onward require

    line_same : (l : Line) (m p : ℕ) (S : Set) (N : Bound) → LineFormed (LeafFormed arities) (suc m) l →
        length (C.line_rows l) ≤ 4096 → At K O p (C.line_rows l) → LineSame l m p S N
    line_same (leaf x l us) m p S N F n h = leaf_line x l us m p S N F h
    line_same (if_else x g t e) m p S N F n h =
        let k = h.0.kind in
        let i = name_of O x p F.0 h.0.operand in
        let z : p + 1 + 1 ≡ p + 2 = omega arith in
        let b : At K O (p + 2) (C.rows t ++ C.rows e) =
        subst (λ (q : ℕ). At K O q (C.rows t ++ C.rows e)) z h.1.1 in
        let y = length-append (C.rows t) (C.rows e) in
        record {
          within = h.0.within;
          other = ap (λ (n : ℕ). eqb n 16) k;
          scope = ap (λ (n : ℕ). scope_then K O st n (first_at O p) S) k ∙ scope_with 12 x p S refl i;
          is = ap (λ (n : ℕ). line_fits K O st (tree_fits K O st m) n S N p) k
              ∙ if_same K O st sig (tree_fits K O st m) x g t e S N p i (atom_here K O (p + 1) g F.1.0 h.1.0)
              (below t (λ m n p w S N F l q h. tree_same t m n p w S N F l q h) m (p + 2) F.1.1.0
              (omega (arith, n, y)) (at_first K O (p + 2) (C.rows t)
              (C.rows e) b))
              (below e (λ m n p w S N F l q h. tree_same e m n p w S N F l q h) m (p + 2 + length (C.rows t))
              F.1.1.1 (omega (arith, n, y))
              (at_second K O (p + 2) (C.rows t) (C.rows e) b));
        }
    line_same (loop x k ps us t) m p S N F n h =
        let r = loop_reads O k x ps (length us) p F.0 F.1.1.0 h.0.operand in
        let c = loop_kinds k in
        let y = length-append (map atom_row us) (C.rows t) in
        let v = length-map us atom_row in
        let z : p + 1 + length (map atom_row us) ≡ p + suc (length us) = omega (arith, v) in
        record {
          within = h.0.within;
          other = ap (λ (n : ℕ). eqb n 16) h.0.kind ∙ c.0;
          scope = ap (λ (n : ℕ). scope_then K O st n (first_at O p) S) h.0.kind
              ∙ scope_with (loop_kind k) x p S c.3 r.name;
          is = ap (λ (n : ℕ). line_fits K O st (tree_fits K O st m) n S N p) h.0.kind
              ∙ rw (c.1, c.2) (loop_same K O st sig (tree_fits K O st m) x k ps us t S N p r
              (atoms_here K O (p + 1) us F.1.0 (at_first K O (p + 1) (map atom_row us) (C.rows t) h.1))
              (below t (λ m n p w S N F l q h. tree_same t m n p w S N F l q h) m (p + suc (length us)) F.1.1.1
              (omega (arith, n, y))
              (subst (λ (q : ℕ). At K O q (C.rows t)) z
              (at_second K O (p + 1) (map atom_row us) (C.rows t) h.1))));
        }
    line_same (retain x) m p S N F n h = note_line 14 x (retain x) m p S N F h.0 refl refl refl refl refl refl
    line_same (release x) m p S N F n h = note_line 15 x (release x) m p S N F h.0 refl refl refl refl refl refl

    pub tree_same : (t : Tree) → Claim t
    tree_same (end a) m n p w S N F l q h = end_tree a m n p w S N F l q h
    tree_same (line l t) m n p w S N F e q h =
        line_tree l t (λ m p S N F e h. line_same l m p S N F e h)
        (λ m n p w S N F l q h. tree_same t m n p w S N F l q h)
        m n p w S N F e q h
