-- The walk for names finds the first of the nodes that break the rule.
use Rattle.prelude.specs.Kit.{ℕ, ◌+◌, ◌-◌, suc, arith, true, false, Bool, cond, not, ◌≡◌, refl, ◌∙◌, sym, ap, List, []}
use Rattle.prelude.specs.Kit.{◌∷◌, eqb, length}
use Rattle.semantics.specs.Basics.{with_if, updated}
use Rattle.semantics.specs.Number.{sum, difference, less}
use Rattle.semantics.specs.Kinds.{Leaf, operation, call, literal, index, length_of, iota, replicate, leaf_kind, Loop}
use Rattle.semantics.specs.Syntax.{Expr, number, name, let_in, leaf, if_else, loop, Exprs, none, more, size, sizes}
use Rattle.semantics.specs.Syntax.{Parameter, Function, Script, function_size}
use Rattle.semantics.specs.File as S
use Rattle.semantics.specs.File.{part_count, leaf_of, loop_of, shape_of}
use Rattle.semantics.specs.Names.{Scope, scope_with, calls_none, unknown, unknowns, unknown_from, unknown_in}
use Rattle.laws.specs.Tests.{or_right}
use Rattle.script_read.specs.Told.{loops, and_next, repeated}
use Rattle.script_read.specs.Told.{Read, Next, Refused}
use Rattle.script_read.proofs.Sorts.{kind_of_leaf, is_a_loop, names_of_loop, parts_of_loop, other_kind, loop_some}
use Rattle.script_read.proofs.Tables.{updated_twice}
use Rattle.script_read.proofs.Written.{amount, Written, AllWritten, ParametersWritten, FunctionWritten, ScriptWritten}
use Rattle.script_read.proofs.Found.{Finds, follow, one, three, found_if}
use Rattle.script_names.specs.Walk.{names, named, names_from, names_function}

name_found : (b : Bool) (p q : ℕ) → p + 1 ≡ q → Finds 6 (cond b (Next (p + 1)) (Refused 6 p)) (with_if (not b) p []) q
name_found true p q e = record { is = ap Next e }
name_found false p q e = record { is = refl }

-- a leaf and a loop by their shapes
module _ (F : ℕ) (m : Scope → ℕ → Read) (known : Scope) (p : ℕ) (h : S.Head) where
  abbrev Named : Read → Type 0
  Named r = named F m known p h.kind h.low h.high ≡ r

  leaf_named : (l : Leaf) → h.kind ≡ leaf_kind l → shape_of h ≡ leaf_of l →
      Named (cond (calls_none F l) (Refused 6 p)
      (repeated (part_count h.kind h.low h.high) (m known) (p + 1)))
  leaf_named (operation sum) k e = rw k
  leaf_named (operation difference) k e = rw k
  leaf_named (operation less) k e = rw k
  leaf_named (call f) k e = let g = rw k at e in let f_is : h.low ≡ f = cc in rw (k, f_is)
  leaf_named (literal d) k e = rw k
  leaf_named index k e = rw k
  leaf_named length_of k e = rw k
  leaf_named iota k e = rw k
  leaf_named replicate k e = rw k

  loop_named : (c : Loop) (xs : List ℕ) (n : ℕ) → shape_of h ≡ loop_of c xs n →
      Named (and_next (repeated n (m known) (p + 1)) (m (scope_with xs known)))
  loop_named c xs n e =
      let no_name = other_kind h 3 λ i. loop_some (sym e ∙ i) in
      let binds_so = or_right (eqb h.kind 7) (loops h.kind) (is_a_loop h c xs n e) in
      let before : suc n - 1 ≡ n = omega arith in
      rw (no_name, binds_so, parts_of_loop h c xs n e, before, names_of_loop h c xs n e, both_known (eqb h.kind 20))
    where
      both_known : (b : Bool) → updated (updated known h.low true) (cond b h.high h.low) true ≡
          scope_with (cond b (h.low ∷ h.high ∷ []) (h.low ∷ [])) known
      both_known true = refl
      both_known false = updated_twice known h.low true true

module _ (k w : List ℕ) (F : ℕ) where
  mutual
    unfolding names size unknown part_count repeated

    pub names_tree : (e : Expr) (d : ℕ) (known : Scope) (p q : ℕ) → Written k w e d p → q ≡ p + size e →
        Finds 6 (names k w F d known p) (unknown F e known p) q
    names_tree (number z) d known p q h g = rw (h.0.is, h.1) (record { is = ap Next (omega arith) })
    names_tree (name x) d known p q h g = rw (h.0.is, h.1.is) (name_found (known x) p q (omega arith))
    names_tree (let_in x a b) d known p q h g =
        let i = h.0.below in
        rw (h.0.is, h.1.is, updated_twice known x true true)
        (follow (names k w F i (updated known x true))
        (one (names k w F i known) (p + 1) (names_tree a i known (p + 1) (p + 1 + size a) h.2 refl))
        (names_tree b i (updated known x true) (p + 1 + size a) q h.3 (omega arith)))
    names_tree (leaf l es) d known p q h g =
        let i = h.0.below in
        let s = h.1.shape_is in
        let named_so = leaf_named F (names k w F i) known p h.1.node l (kind_of_leaf h.1.node l s) s in
        rw (h.0.is, h.1.is, named_so, h.1.count)
        (found_if (calls_none F l) p (names_trees es i known (p + 1) q h.2 (omega arith)))
    names_tree (if_else a b c) d known p q h g =
        let i = h.0.below in
        rw (h.0.is, h.1.is)
        (three (names k w F i known) (p + 1)
        (names_tree a i known (p + 1) (p + 1 + size a) h.2 refl)
        (names_tree b i known (p + 1 + size a) (p + 1 + size a + size b) h.3 refl)
        (names_tree c i known (p + 1 + size a + size b) q h.4 (omega arith)))
    names_tree (loop c xs es b) d known p q h g =
        let i = h.0.below in
        rw (h.0.is, h.1.is, loop_named F (names k w F i) known p h.1.node c xs (amount es) h.1.shape_is)
        (follow (names k w F i (scope_with xs known))
        (names_trees es i known (p + 1) (p + 1 + sizes es) h.2 refl)
        (names_tree b i (scope_with xs known) (p + 1 + sizes es) q h.3 (omega arith)))

    names_trees : (es : Exprs) (d : ℕ) (known : Scope) (p q : ℕ) → AllWritten k w es d p → q ≡ p + sizes es →
        Finds 6 (repeated (amount es) (names k w F d known) p) (unknowns F es known p) q
    names_trees none d known p q h g = record { is = ap Next (omega arith) }
    names_trees (more e es) d known p q h g =
        follow (repeated (amount es) (names k w F d known))
        (names_tree e d known p (p + size e) h.0 refl)
        (names_trees es d known (p + size e) q h.1 (omega arith))

  names_parameters : (xs : List Parameter) (e : Expr) (known : Scope) (p q : ℕ) →
      ParametersWritten k w xs p → Written k w e 64 (p + length xs) → q ≡ p + length xs + size e →
      Finds 6 (names_from k w F (length xs) known p) (unknown_from F xs known p e) q
  unfolding names_from unknown_from
  names_parameters [] e known p q h g i =
      let z : p + 0 ≡ p = omega arith in
      names_tree e 64 known p q (rw z at g) (omega arith)
  names_parameters (x ∷ xs) e known p q h g i =
      let z : p + suc (length xs) ≡ p + 1 + length xs = omega arith in
      rw (h.0.is, h.0.lower)
      (found_if (known x.id) p
      (names_parameters xs e (updated known x.id true) (p + 1) q h.1 (rw z at g) (omega arith)))

  pub names_one : (g : Function) (p : ℕ) → FunctionWritten k w g p →
      Finds 6 (names_function k w F p) (unknown_from F g.parameters (λ _. false) (p + 1) g.body)
      (p + function_size g)
  unfolding names_function function_size
  names_one g p h =
      rw (h.head.is, h.head.lower)
      (names_parameters g.parameters g.body (λ _. false) (p + 1) (p + function_size g) h.parameters h.body
      (omega arith))

  pub names_script : (gs : Script) (p : ℕ) → ScriptWritten k w gs p →
      (q : ℕ) × Finds 6 (repeated (length gs) (names_function k w F) p) (unknown_in F gs p) q
  unfolding repeated unknown_in
  names_script [] p h = (p, record { is = refl })
  names_script (g ∷ gs) p h =
      let r = names_script gs (p + function_size g) h.1 in
      (r.0, follow (repeated (length gs) (names_function k w F)) (names_one g p h.0) r.1)
