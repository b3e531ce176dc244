-- The pass gives the first function with over 256 new names.
use Rattle.prelude.specs.Kit.{ℕ, ◌≤◌, ◌+◌, suc, arith, true, Bool, cond, false≢true, ◌≡◌, refl, ◌∙◌, sym, ap, some}
use Rattle.prelude.specs.Kit.{List, [], ◌∷◌, eqb, ltb, length, get_or, ne_eqb, eqb-true}
use Rattle.semantics.specs.Kinds.{Leaf, Loop}
use Rattle.semantics.specs.Syntax as T
use Rattle.semantics.specs.Syntax.{Expr, number, name, let_in, leaf, if_else, loop, Exprs, size, sizes, Parameter}
use Rattle.semantics.specs.Syntax.{Script, function_size}
use Rattle.semantics.specs.File as S
use Rattle.semantics.specs.File.{Place, at_function, at_parameter, at_part, node_at, Shape, none, leaf_of, loop_of}
use Rattle.semantics.specs.File.{shape_of}
use Rattle.semantics.specs.Normal.{fresh, fresh_all, too_many_names_from, too_many_names}
use Rattle.script_read.proofs.Nodes.{get_d_any, head_fits}
use Rattle.script_read.proofs.Sorts.{fit}
use Rattle.script_read.proofs.Written.{amount, Written, AllWritten, ParametersWritten, ScriptWritten, total}
use Rattle.script_read.proofs.Ends.{node_inside, script_ends}
use Rattle.script_count.specs.Count.{new_names, crowd}

-- the table of new names and the shapes: a leaf takes one, a loop one more for each name of a pass
abbrev new_fits : ℕ → ℕ → Shape → Bool
new_fits i v none = true
new_fits i v (leaf_of l) = eqb v 1
new_fits i v (loop_of c xs n) = eqb v (suc (length xs))

module _ (h : S.Head) where
  new_fit : new_fits h.kind (get_or new_names h.kind 0) (shape_of h) ≡ true
  new_fit = fit new_fits 0 (λ n. refl) h new_names refl

  leaf_new : (l : Leaf) → shape_of h ≡ leaf_of l → 1 ≡ get_or new_names h.kind 0
  leaf_new l e = sym (eqb-true (get_or new_names h.kind 0) 1 (rw e at new_fit))

  loop_new : (c : Loop) (xs : List ℕ) (n : ℕ) → shape_of h ≡ loop_of c xs n →
      suc (length xs) ≡ get_or new_names h.kind 0
  loop_new c xs n e = sym (eqb-true (get_or new_names h.kind 0) (suc (length xs)) (rw e at new_fit))

-- n nodes from p on belong to one function, and take so many new names
record Adds (k : List ℕ) (p n names : ℕ) : Type 0 where
  is : (m s c : ℕ) → crowd k (n + m) p s c ≡ crowd k m (p + n) s (c + names)

module _ (k w : List ℕ) where
  none_more : (p : ℕ) → Adds k p 0 0
  none_more p = record {
    is = λ m s c.
        let e : p + 0 ≡ p = omega arith in
        let f : c + 0 ≡ c = omega arith in
        let g : 0 + m ≡ m = omega arith in
        rw (e, f, g);
  }

  join : {p q m n a b : ℕ} → Adds k p m a → Adds k q n b → q ≡ p + m → (t x : ℕ) → t ≡ m + n → x ≡ a + b →
      Adds k p t x
  join {p} {q} {m} {n} {a} {b} f g e t x i j = record {
    is = λ l s c.
        let u : t + l ≡ m + (n + l) = omega arith in
        let v : q + n ≡ p + t = omega arith in
        let y : c + a + b ≡ c + x = omega arith in
        rw u (f.is (n + l) s c)
        ∙ ap (λ (z : ℕ). crowd k (n + l) z s (c + a)) (sym e)
        ∙ g.is l s (c + a)
        ∙ ap (λ (z : ℕ). crowd k l z s (c + a + b)) v
        ∙ ap (λ (z : ℕ). crowd k l (p + t) s z) y;
  }

  pair : {p m n a b : ℕ} → Adds k p m a → Adds k (p + m) n b → Adds k p (m + n) (a + b)
  pair f g = join f g refl _ _ refl refl

  kind_at : (place : Place) (p : ℕ) (h : S.Head) → node_at k w place p ≡ S.fits h → get_or k p 0 ≡ h.kind
  kind_at place p h e = get_d_any k p 0 255 (node_inside k w place p h e) ∙ sym (head_fits k w place p h e).kind

  -- one node that is no function
  one_node : (p kind names : ℕ) → get_or k p 0 ≡ kind → (kind ≡ 0 → ⊥) → names ≡ get_or new_names kind 0 →
      Adds k p 1 names
  unfolding crowd
  one_node p kind names e f g = record {
    is = λ m s c.
        let u : 1 + m ≡ suc m = omega arith in
        rw (u, e, ne_eqb kind 0 f, ← g);
  }

  a_part : (p names : ℕ) (h : S.Head) → node_at k w at_part p ≡ S.fits h → names ≡ get_or new_names h.kind 0 →
      Adds k p 1 names
  a_part p names h e g =
      one_node p h.kind names (kind_at at_part p h e)
      (λ z. false≢true (rw z at (head_fits k w at_part p h e).stands)) g

  mutual
    unfolding size fresh

    count_tree : (e : Expr) (d p : ℕ) → Written k w e d p → Adds k p (size e) (fresh e)
    count_tree (number z) d p h = a_part p 0 _ h.1 refl
    count_tree (name x) d p h = a_part p 0 _ h.1.is refl
    count_tree (let_in x a b) d p h =
        let i = h.0.below in
        join (a_part p 0 _ h.1.is refl)
        (pair (count_tree a i (p + 1) h.2) (count_tree b i (p + 1 + size a) h.3)) refl _ _ (omega arith)
        (omega arith)
    count_tree (leaf l es) d p h =
        join (a_part p 1 _ h.1.is (leaf_new h.1.node l h.1.shape_is))
        (count_trees es h.0.below (p + 1) h.2) refl _ _ (omega arith) (omega arith)
    count_tree (if_else a b c) d p h =
        let i = h.0.below in
        join (a_part p 1 _ h.1.is refl)
        (join (pair (count_tree a i (p + 1) h.2) (count_tree b i (p + 1 + size a) h.3))
        (count_tree c i (p + 1 + size a + size b) h.4) (omega arith) _ _ refl refl)
        refl _ _ (omega arith) (omega arith)
    count_tree (loop c xs es b) d p h =
        let i = h.0.below in
        join (a_part p (suc (length xs)) _ h.1.is (loop_new h.1.node c xs (amount es) h.1.shape_is))
        (pair (count_trees es i (p + 1) h.2) (count_tree b i (p + 1 + sizes es) h.3)) refl _ _ (omega arith)
        (omega arith)

    count_trees : (es : Exprs) (d p : ℕ) → AllWritten k w es d p → Adds k p (sizes es) (fresh_all es)
    count_trees T.none d p h = none_more p
    count_trees (T.more e es) d p h =
        pair (count_tree e d p h.0) (count_trees es d (p + size e) h.1)

  count_parameters : (xs : List Parameter) (p : ℕ) → ParametersWritten k w xs p → Adds k p (length xs) (length xs)
  count_parameters [] p h = none_more p
  count_parameters (x ∷ xs) p h =
      let f = head_fits k w at_parameter p _ h.0.is in
      join (one_node p 1 1 (kind_at at_parameter p _ h.0.is ∙ eqb-true _ 1 f.stands) (λ e. omega arith) refl)
      (count_parameters xs (p + 1) h.1) refl _ _ (omega arith) (omega arith)

  count_functions : (gs : Script) (p s c : ℕ) → ScriptWritten k w gs p →
      crowd k (total gs) p s c ≡ cond (ltb 256 c) (some s) (too_many_names_from gs p)
  unfolding crowd too_many_names_from function_size
  count_functions [] p s c h = refl
  count_functions (g ∷ gs) p s c h =
      let u : function_size g + total gs ≡ suc (length g.parameters + size g.body + total gs) = omega arith in
      rw (u, head_kind)
      (ap (cond (ltb 256 c) (some s))
      (step ∙ count_functions gs (p + function_size g) p (length g.parameters + fresh g.body) h.1))
    where
      head_kind : get_or k p 0 ≡ 0
      head_kind =
          let f = head_fits k w at_function p _ h.0.head.is in
          kind_at at_function p _ h.0.head.is ∙ eqb-true _ 0 f.stands

      body : Adds k (p + 1) (length g.parameters + size g.body) (length g.parameters + fresh g.body)
      body =
          pair (count_parameters g.parameters (p + 1) h.0.parameters)
          (count_tree g.body 64 (p + 1 + length g.parameters) h.0.body)

      step : crowd k (length g.parameters + size g.body + total gs) (p + 1) p 0 ≡
          crowd k (total gs) (p + function_size g) p (length g.parameters + fresh g.body)
      step =
          let u : p + 1 + (length g.parameters + size g.body) ≡ p + function_size g = omega arith in
          let v : 0 + (length g.parameters + fresh g.body) ≡ length g.parameters + fresh g.body =
          omega arith in
          body.is (total gs) p 0 ∙ rw (u, v)

  -- over the whole file
  pub count_all : (gs : Script) → ScriptWritten k w gs 0 → length k ≤ total gs → crowd k
      (length k) 0 0 0 ≡ too_many_names gs
  count_all gs h l =
      let e : length k ≡ total gs = omega (arith, script_ends k w gs 0 h (omega arith)) in
      rw e (count_functions gs 0 0 0 h)
