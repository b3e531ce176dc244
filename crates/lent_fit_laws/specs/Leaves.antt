-- Lines without trees: what is read of their rows, and that the walk by positions tests them as `fit` does.
use Rattle.std.specs.Prelude.{ℕ, ◌≤◌, ◌+◌, ◌<◌, suc, zero, ◌*◌, true, false, Bool, cond, ◌&&◌, not, ◌≡◌, refl, List}
use Rattle.std.specs.Prelude.{map, eqb, ltb, ℤ, pos, length, get_or, Ok}
use Rattle.prelude.specs.Kit.{arith, ◌∙◌, sym, ap, some, none, Option, ne_eqb, lt-ltb, le-ltb}
use Rattle.semantics.specs.Outcome.{done, stop, onward, ◌>>=◌, ◌>>◌, give, require}
use Rattle.semantics.specs.Number.{sum, difference, less}
use Rattle.semantics.specs.Kinds.{Leaf, operation, call, literal, index, length_of, iota, replicate, leaf_kind, Loop}
use Rattle.semantics.specs.Kinds.{mapping, filtering, reducing, rewriting, loop_kind, leaf_operand}
use Rattle.semantics.specs.Types.{Signature, leaf_rule}
use Rattle.semantics.specs.Code.{Atom, Line, leaf, end}
use Rattle.semantics.specs.Live.{Set}
use Rattle.semantics.specs.Annotate.{atom_depth}
use Rattle.semantics_lent.specs.Form.{skip}
use Rattle.semantics_lent.specs.Fit.{Bound, with_name, in_scope, all_in_scope, depth_or_fault, fit_tree, fit_line}
use Rattle.lent_passing.specs.Reading.{LeafFormed}
use Rattle.lent_form.specs.Told.{faulty}
use Rattle.lent_fit_lines.specs.declared.Wants.{Wants}
use Rattle.machine_code.specs.Reading.{atom_at}
use Rattle.lent_fit_lines.specs.Walk.{meant, meets, binds, leaf_fits, note_fits, placed, loops, loop_of, first_at}
use Rattle.lent_fit_lines.specs.Walk.{second_at, atoms_from, start_of, signature_at, count_at, rule_at}
use Rattle.lent_fit_trees.specs.Trees.{told_end, end_fits}
use Rattle.lent_fit_laws.specs.Reading.{first_read, second_read, third_read}

-- ---- kinds

pub leaf_kinds : (l : Leaf) → (eqb (leaf_kind l) 16 ≡ false) × (eqb (leaf_kind l) 12 ≡ false)
    × (loops (leaf_kind l) ≡ false) × (binds (leaf_kind l) ≡ true)
leaf_kinds (operation sum) = (refl, refl, refl, refl)
leaf_kinds (operation difference) = (refl, refl, refl, refl)
leaf_kinds (operation less) = (refl, refl, refl, refl)
leaf_kinds (call f) = (refl, refl, refl, refl)
leaf_kinds (literal d) = (refl, refl, refl, refl)
leaf_kinds index = (refl, refl, refl, refl)
leaf_kinds length_of = (refl, refl, refl, refl)
leaf_kinds iota = (refl, refl, refl, refl)
leaf_kinds replicate = (refl, refl, refl, refl)

pub loop_kinds : (k : Loop) → (eqb (loop_kind k) 16 ≡ false) × (eqb (loop_kind k) 12 ≡ false)
    × (loops (loop_kind k) ≡ true) × (binds (loop_kind k) ≡ true) × (loop_of (loop_kind k) ≡ k)
loop_kinds mapping = (refl, refl, refl, refl, refl)
loop_kinds filtering = (refl, refl, refl, refl, refl)
loop_kinds reducing = (refl, refl, refl, refl, refl)
loop_kinds rewriting = (refl, refl, refl, refl, refl)

-- ---- leaves

-- the functions' lines stand where the table says
abbrev pub Known : List ℤ → List ℕ → (ℕ → Signature) → List (Option ℕ) → Type 0
Known O st sig arities =
    (f n : ℕ) → f < length arities → get_or arities f none ≡ some n →
    (n ≤ 16) × ((first_at O (start_of st f) ≡ n) × (signature_at O (start_of st f) ≡ sig f))

module _ (K : List ℕ) (O : List ℤ) (st : List ℕ) (sig : ℕ → Signature) (arities : List (Option ℕ))
    (known : Known O st sig arities) where
  pub record LeafReads (x : ℕ) (l : Leaf) (n p : ℕ) : Type 0 where
    pub name : first_at O p ≡ x
    pub count : count_at O st (leaf_kind l) p ≡ n
    pub rule : (ds : List ℕ) → rule_at O st (leaf_kind l) p ds ≡ leaf_rule sig l ds
    pub few : n ≤ 16

  name_read : (x p : ℕ) → x < 256 → get_or O p (pos 0) ≡ pos x → first_at O p ≡ x
  name_read x p h e = first_read O p x 0 0 h (omega arith) (omega arith)
      (e ∙ ap (λ (n : ℕ). pos n) (let z : x ≡ x + 256 * 0 + 65536 * 0 = omega arith in z))

  pub leaf_reads : (l : Leaf) (x n p : ℕ) → x < 256 → LeafFormed arities l n →
      get_or O p (pos 0) ≡ pos (leaf_operand l x n) → LeafReads x l n p
  unfolding count_at rule_at
  leaf_reads (operation sum) x n p h g e =
      record { name = name_read x p h e; count = sym g; rule = λ ds. refl; few = omega (arith, g) }
  leaf_reads (operation difference) x n p h g e =
      record { name = name_read x p h e; count = sym g; rule = λ ds. refl; few = omega (arith, g) }
  leaf_reads (operation less) x n p h g e =
      record { name = name_read x p h e; count = sym g; rule = λ ds. refl; few = omega (arith, g) }
  leaf_reads (call f) x n p h g e =
      let i : pos (x + 256 * f) ≡ pos (x + 256 * f + 65536 * 0) =
      ap (λ (m : ℕ). pos m) (let z : x + 256 * f ≡ x + 256 * f + 65536 * 0 = omega arith in z) in
      let s : second_at O p ≡ f = second_read O p x f 0 h (omega (arith, g.0)) (omega arith) (e ∙ i) in
      let k = known f n g.1.0 g.1.1 in
      record {
        name = first_read O p x f 0 h (omega (arith, g.0)) (omega arith) (e ∙ i);
        count = ap (λ (m : ℕ). first_at O (start_of st m)) s ∙ k.1.0;
        rule = λ ds. ap (λ (m : ℕ). leaf_rule (λ (i : ℕ). signature_at O (start_of st i)) (call m) ds) s
            ∙ ap (λ (c : Signature). leaf_rule (λ _. c) (call f) ds) k.1.1;
        few = k.0;
      }
  leaf_reads (literal d) x n p h g e = record {
    name = first_read O p x n d h (omega (arith, g.0)) (omega (arith, g.1)) e;
    count = second_read O p x n d h (omega (arith, g.0)) (omega (arith, g.1)) e;
    rule = λ ds. rw (third_read O p x n d h (omega (arith, g.0)) (omega (arith, g.1)) e, le-ltb 3 d g.1) refl;
    few = g.0;
  }
  leaf_reads index x n p h g e =
      record { name = name_read x p h e; count = sym g; rule = λ ds. refl; few = omega (arith, g) }
  leaf_reads length_of x n p h g e =
      record { name = name_read x p h e; count = sym g; rule = λ ds. refl; few = omega (arith, g) }
  leaf_reads iota x n p h g e =
      record { name = name_read x p h e; count = sym g; rule = λ ds. refl; few = omega (arith, g) }
  leaf_reads replicate x n p h g e =
      record { name = name_read x p h e; count = sym g; rule = λ ds. refl; few = omega (arith, g) }

  pub leaf_same : (x : ℕ) (l : Leaf) (us : List Atom) (S : Set) (N : Bound) (p : ℕ) → LeafReads x l (length us) p →
      atoms_from K O (length us) (p + 1) ≡ us →
      leaf_fits K O st (leaf_kind l) S N p ≡ fit_line sig (leaf x l us) S N p
  unfolding leaf_fits fit_tree onward require
  leaf_same x l us S N p r e =
      rw (r.count, le-ltb 16 (length us) r.few, e, r.name, r.rule (map (atom_depth N.depths) us))
      (go (all_in_scope S us) (N.names x) refl (leaf_rule sig l (map (atom_depth N.depths) us)))
    where
      go : (a b : Bool) → N.names x ≡ b → (o : Option ℕ) →
          cond a (placed o x (length us) N p) (stop 29 p)
          ≡ onward (λ (u : Unit {0}). depth_or_fault o >>= λ d. skip (suc (length us)) >> give (with_name x d N))
          (require (a && not b) 29 p)
      go false b h o = refl
      go true true h none = refl
      go true true h (some d) = rw h refl
      go true false h none = refl
      go true false h (some d) = rw h refl

  -- ---- notes

  pub note_same : (x : ℕ) (l : Line) (S : Set) (N : Bound) (p : ℕ) →
      fit_line sig l S N p ≡ onward (λ (u : Unit {0}). skip 1 >> give N) (require (S x && ltb 0 (N.depths x)) 29 p) →
      note_fits x S N p ≡ fit_line sig l S N p
  unfolding onward require
  note_same x l S N p e = go (S x) (N.depths x) ∙ sym e
    where
      go : (a : Bool) (d : ℕ) → cond a (cond (eqb d 0) (stop 29 p) (done N (p + 1))) (stop 29 p)
          ≡ onward (λ (u : Unit {0}). skip 1 >> give N) (require (a && ltb 0 d) 29 p)
      go false d = refl
      go true zero = refl
      go true (suc d) =
          rw (ne_eqb (suc d) 0 (λ e. let z : ⊥ = omega (arith, e) in z), lt-ltb 0 (suc d) (omega arith)) refl

  -- ---- ends

  pub end_same : (a : Atom) (w : Wants) (S : Set) (N : Bound) (p : ℕ) → meant (atom_at K O (p + 1)) ≡ a →
      end_fits K O st w S N p ≡ fit_tree sig (end a) (meets w) S N p
  unfolding fit_tree onward require
  end_same a w S N p e = rw e (go (in_scope S a && meets w (atom_depth N.depths a)))
    where
      go : (b : Bool) →
          told_end N (cond b (Ok (record { depth = atom_depth N.depths a; next = p + 2 })) (faulty p))
          ≡ onward (λ (u : Unit {0}). skip 2 >> give (record { bound = N; depth = atom_depth N.depths a }))
          (require b 29 p)
      go true = refl
      go false = refl
