-- The turns over parameters and the ways out of a function and a script, in the terms of the code.
use Rattle.prelude.specs.Kit.{ℕ, ◌≤◌, ◌+◌, ◌<◌, ◌-◌, arith, true, false, Bool, suc, cond, ◌&&◌, and-true}
use Rattle.prelude.specs.Kit.{◌≡◌, refl, ◌∙◌}
use Rattle.prelude.specs.Kit.{sym, ap, ◌⊎◌, ⊎_elim, List, [], ◌∷◌, eqb, length, length-set, get_or, set}
use Rattle.prelude.specs.Kit.{replicate, ne_eqb, eq-eqb}
use Rattle.semantics.specs.Outcome.{Outcome, done, stop}
use Rattle.semantics.specs.File as S
use Rattle.semantics.specs.File.{at_function, at_parameter, look, looked, node_at}
use Rattle.semantics.specs.Types.{main_shape}
use Rattle.std.specs.Prelude.{Err}
use Rattle.script_read.specs.Told.{Read, Next, Refused, Parted, node_outcome, parted, low_at, high_at, repeated}
use Rattle.script_read.specs.declared.Misfit.{Misfit}
use Rattle.script_read.specs.declared.Misfit.TheVariants.{WrongKind, WrongOperand}
use Rattle.script_read.proofs.Limits.{low_small}
use Rattle.script_read.proofs.Nodes.{Seen, unfit, head_fits, node_says, past}
use Rattle.script_read.proofs.Tables.{table_set, table_fresh}
use Rattle.script_depths.proofs.Laws.{entry}
use Rattle.script_rules.specs.Rules.{depths_from, signature_at}
use Rattle.script_depths.specs.Walk.{Walked, depths, known_types}
use Rattle.script_rules.proofs.Rules.{counts_differ, depths_length}
use Rattle.script_types.specs.Functions.{typed_parameter, fresh_name, ended, known_from, known_function}
use Rattle.script_types.specs.Functions.{known_script}

-- main's shape
module _ (k w : List ℕ) (c : ℕ) (ce : c ≡ low_at k w at_function 0) where
  pub other_count : (c ≡ 2 → ⊥) → false ≡ main_shape (signature_at k w 0)
  unfolding signature_at
  other_count f =
      counts_differ (depths_from k w (low_at k w at_function 0) (0 + 1)) (high_at k w at_function 0 ∷ 1 ∷ [])
      (λ i. f (omega (arith, i, depths_length k w (low_at k w at_function 0) (0 + 1))))

  module _ (two : c ≡ 2) (a r : ℕ) (ae : a ≡ high_at k w at_parameter 1) (re : r ≡ high_at k w at_function 0) where
    two_parameters : main_shape (signature_at k w 0) ≡ (eqb a r && (eqb (high_at k w at_parameter 2) 1 && true))
    unfolding signature_at depths_from
    two_parameters = let g : low_at k w at_function 0 ≡ 2 = sym ce ∙ two in rw (g, ae, re)

    pub first_differs : (a ≡ r → ⊥) → false ≡ main_shape (signature_at k w 0)
    first_differs h = sym (two_parameters ∙ rw (ne_eqb a r h))

    pub by_second : a ≡ r → (b : ℕ) → b ≡ high_at k w at_parameter 2 → eqb b 1 ≡ main_shape (signature_at k w 0)
    by_second h b be = sym (two_parameters ∙ rw (eq-eqb a r h, ← be) (and-true (eqb b 1)))

-- looking past the nodes halts
pub past_nodes : (k w : List ℕ) (place : S.Place) (p : ℕ) → length k ≤ p → parted (look k w place p) ≡ stop 3 p
past_nodes k w place p h = sym (node_says k w place p (Err WrongKind) (past k w place p h))

module _ (k w s : List ℕ) where
  -- the parameters that are left, by what looking at the node of the first tells; c are left behind it
  abbrev pub turned : ℕ → ℕ → List ℕ → Outcome ℕ Parted → Walked
  turned c p t (done r q) =
      cond (eqb (get_or t r.low 0) 255) (known_from k w s c (depths (set t r.low r.high)) (p + 1)) (stop 7 p)
  turned c p t (stop n q) = stop 7 p

  -- i of n parameters are done, the next is at node p
  pub turn : (n i p : ℕ) (t : List ℕ) → i < n → length t ≡ 256 →
      known_from k w s (n - i) (depths t) p ≡ turned (n - (i + 1)) p t (parted (look k w at_parameter p))
  unfolding known_from look
  turn n i p t h l =
      let e : n - i ≡ suc (n - (i + 1)) = omega arith in
      ap (λ (m : ℕ). known_from k w s m (depths t) p) e ∙ go (node_at k w at_parameter p) refl
    where
      go : (v : S.Node) → node_at k w at_parameter p ≡ v →
          typed_parameter fresh_name (known_from k w s (n - (i + 1))) (depths t) p v
          ≡ turned (n - (i + 1)) p t (parted (looked v p))
      go (S.fits h) e =
          let f = head_fits k w at_parameter p h e in
          let b : h.low < 256 = omega (arith, low_small h.kind, f.low) in
          rw (entry t h.low l b, table_set 255 t h.low h.high (omega arith))
      go S.wrong_kind e = refl
      go S.wrong_operand e = refl

  -- no parameter is there
  pub no_parameter : (n i p : ℕ) (t : List ℕ) → i < n → length t ≡ 256 → (m : Misfit) →
      node_outcome (Err m) p ≡ parted (look k w at_parameter p) → stop 7 p ≡ known_from k w s (n - i) (depths t) p
  no_parameter n i p t h l m e = sym (turn n i p t h l ∙ ap (turned (n - (i + 1)) p t) (sym e) ∙ go m)
    where
      go : (m : Misfit) → turned (n - (i + 1)) p t (node_outcome (Err m) p) ≡ stop 7 p
      go WrongKind = refl
      go WrongOperand = refl

  pub body_next : (c : ℕ) (γ : ℕ → ℕ) (p : ℕ) → c ≡ 0 → known_from k w s c γ p ≡ known_types k w s 64 γ p
  unfolding known_from
  body_next c γ p e = rw e

-- what the loop over the parameters goes by: a turn, its end, where the nodes end, the table's length
pub ruleset turns = (turn, body_next, past_nodes, length-set)

module _ (k w s : List ℕ) where
  -- a function
  module _ {p x y z : ℕ} (n : Seen k w at_function p x y z) (b : Walked)
      (be : b ≡ known_from k w s y (depths (replicate 256 255)) (p + 1)) where
    by_body : known_function k w s p ≡ ended p z b
    unfolding known_function known_from
    by_body =
        rw (n.stands, n.same_low, n.same_high)
        (ap (λ (γ : ℕ → ℕ). ended p z (known_from k w s y γ (p + 1))) (sym (table_fresh 255 256))
        ∙ ap (ended p z) (sym be))

    pub result_fits : (d q : ℕ) → b ≡ done d q → d ≡ z → Next q ≡ known_function k w s p
    result_fits d q e f = sym (by_body ∙ rw (e, eq-eqb d z f))

    pub result_differs : (d q : ℕ) → b ≡ done d q → (d ≡ z → ⊥) → Refused 7 p ≡ known_function k w s p
    result_differs d q e f = sym (by_body ∙ rw (e, ne_eqb d z f))

    pub body_faulty : (c m : ℕ) → b ≡ stop c m → Refused c m ≡ known_function k w s p
    body_faulty c m e = sym (by_body ∙ rw e)

  pub no_function : (p : ℕ) (m : Misfit) → node_outcome (Err m) p ≡ parted (look k w at_function p) →
      Refused 7 p ≡ known_function k w s p
  unfolding known_function
  no_function p m e = ⊎_elim (λ g. rw g) (λ g. rw g) (unfit k w at_function p (Err m) e m refl).is

  -- a script
  module _ (functions : ℕ) (b : Bool) (be : b ≡ main_shape (signature_at k w 0)) where
    pub wrong_shape : b ≡ false → Refused 7 0 ≡ known_script k w s functions
    unfolding known_script
    wrong_shape e = rw (← be, e)

    pub right_shape : b ≡ true → (r : Read) → r ≡ repeated functions (known_function k w s) 0 →
        r ≡ known_script k w s functions
    unfolding known_script
    right_shape e r f = rw (← be, e) f
