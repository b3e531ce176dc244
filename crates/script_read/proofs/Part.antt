-- A part, a parameter, a function and a script, in the terms of the code.
use Rattle.prelude.specs.Kit.{ℕ, ◌≤◌, ◌+◌, ◌<◌, ◌-◌, suc, zero, add-one, ◌≡◌, refl, ◌∙◌, sym, ap, List, length, lt-ltb}
use Rattle.prelude.specs.Kit.{le-ltb}
use Rattle.semantics.specs.Outcome.{Outcome, done, stop, Run, onward, times}
use Rattle.semantics.specs.File as S
use Rattle.semantics.specs.Syntax.{Expr}
use Rattle.semantics.specs.File.{at_function, at_parameter, at_part, part_count, parts, part, parameter, function}
use Rattle.semantics.specs.File.{finish, script}
use Rattle.script_read.specs.Told.{told, and_next, repeated}
use Rattle.script_read.specs.Told.{Read, Next, Refused}
use Rattle.script_read.proofs.Nodes.{Seen, Halted, head_fits}
use Rattle.script_read.proofs.Sorts.{Sort, number, name, let_in, if_else, leaf, loop, sort_of, leaf_some}
use Rattle.script_read.proofs.Sorts.{loop_some, shaped_parts, parts_of_loop}
use Rattle.script_read.proofs.Turns.{less_one, repeated_last}

-- what the reader tells of a bind, of a list and of parts
pub told_bind : {A B : Type 0} (o : Outcome ℕ A) (f : A → Run ℕ B) (g : ℕ → Read) →
    ((a : A) (q : ℕ) → told (f a q) ≡ g q) → told (onward f o) ≡ and_next (told o) g
unfolding onward
told_bind (done a q) f g h = h a q
told_bind (stop n q) f g h = refl

pub told_map : {A B : Type 0} (o : Outcome ℕ A) (f : A → B) → told (onward (λ a q. done (f a) q) o) ≡ told o
unfolding onward
told_map (done a q) f = refl
told_map (stop n q) f = refl

pub told_times : {A : Type 0} (n : ℕ) (m : Run ℕ A) (q : ℕ) → told (times n m q) ≡ repeated n (λ p. told (m p)) q
unfolding times repeated
told_times zero m q = refl
told_times (suc n) m q = told_bind (m q) _ (repeated n (λ p. told (m p))) λ a p. told_map (times n m p) _
    ∙ told_times n m p

told_parts : (m : S.Read Expr) (h : S.Head) (q : ℕ) → Sort h →
    told (parts m h q) ≡ repeated (part_count h.kind h.low h.high) (λ p. told (m p)) q
unfolding parts part_count repeated
told_parts m h q (number e) = rw e
told_parts m h q (name e) = rw e
told_parts m h q (let_in e) = rw e (told_bind (m q) _ _ λ a p. told_bind (m p) _ _ λ b r. refl)
told_parts m h q (if_else e) =
    rw e (told_bind (m q) _ _ λ a p. told_bind (m p) _ _ λ b r. told_bind (m r) _ _ λ c s. refl)
told_parts m h q (leaf l e) =
    let n = part_count h.kind h.low h.high in
    rw (shaped_parts h m (λ f. leaf_some (sym e ∙ f)), e) (told_map (times n m q) _ ∙ told_times n m q)
told_parts m h q (loop k xs c e) =
    rw (
      shaped_parts h m (λ f. loop_some (sym e ∙ f)),
      e,
      parts_of_loop h k xs c e,
      repeated_last (λ p. told (m p)) c q,
      ← told_times c m q,
    )
    (told_bind (times c m q) _ _ λ es p. told_map (m p) _)

-- a part
module _ {k w : List ℕ} {p : ℕ} where
  pub deep : {x y z : ℕ} → Seen k w at_part p x y z → (d : ℕ) → d ≡ 0 → Refused 5 p ≡ told (part k w d p)
  unfolding part onward
  deep s d g = rw (g, s.is)

  pub stopped : {c q : ℕ} (d : ℕ) → Halted k w at_part p c q → Refused c q ≡ told (part k w d p)
  unfolding part onward
  stopped zero e = rw e.is
  stopped (suc d) e = rw e.is

  goes : {x y z : ℕ} → Seen k w at_part p x y z → (d : ℕ) →
      told (part k w (suc d) p) ≡ repeated (part_count x y z) (λ q. told (part k w d q)) (p + 1)
  unfolding part onward
  goes s d =
      let h = s.node in
      rw (s.is, ← s.same_kind, ← s.same_low, ← s.same_high, add-one)
      (told_parts (part k w d) h (suc p) (sort_of h (head_fits k w at_part p h s.stands).stands))

  pub goes_down : {x y z : ℕ} → Seen k w at_part p x y z → (d : ℕ) → (d ≡ 0 → ⊥) → (count : ℕ) →
      count ≡ part_count x y z → (r : Read)
      → r ≡ repeated count (λ q. told (part k w (d - 1) q)) (p + 1) → r ≡ told (part k w d p)
  goes_down s d some count ce r re =
      re ∙ ap (λ (n : ℕ). repeated n (λ q. told (part k w (d - 1) q)) (p + 1)) ce ∙ sym (goes s (d - 1))
      ∙ ap (λ (m : ℕ). told (part k w m p)) (sym (less_one d some))

-- a parameter, a function
module _ {k w : List ℕ} {p : ℕ} where
  pub parameter_goes : {x y z : ℕ} → Seen k w at_parameter p x y z → told (parameter k w p) ≡ Next (p + 1)
  unfolding parameter onward
  parameter_goes s = rw (s.is, add-one)

  pub parameter_stops : {c q : ℕ} → Halted k w at_parameter p c q → told (parameter k w p) ≡ Refused c q
  unfolding parameter onward
  parameter_stops e = rw e.is

  function_goes : {x y z : ℕ} → Seen k w at_function p x y z →
      told (function k w p) ≡ and_next (repeated y (λ q. told (parameter k w q)) (p + 1)) (λ q. told (part k w 64 q))
  unfolding function onward
  function_goes s =
      rw (s.is, ← s.same_low, add-one, ← told_times s.node.low (parameter k w) (suc p))
      (told_bind (times s.node.low (parameter k w) (suc p)) _ (λ q. told (part k w 64 q))
      (λ ps q. told_map (part k w 64 q) _))

  pub function_parts : {x y z : ℕ} → Seen k w at_function p x y z → (t r : Read) →
      t ≡ repeated y (λ q. told (parameter k w q)) (p + 1) → (and_next t (λ q. told (part k w 64 q))) ≡ r →
      r ≡ told (function k w p)
  function_parts s t r e g =
      sym (function_goes s ∙ ap (λ (u : Read). and_next u (λ q. told (part k w 64 q))) (sym e) ∙ g)

  pub function_stops : {c q : ℕ} → Halted k w at_function p c q → Refused c q ≡ told (function k w p)
  unfolding function onward
  function_stops e = rw e.is

-- a script
told_script : (k w : List ℕ) (f p : ℕ) →
    told (script k w f p) ≡ and_next (repeated f (λ q. told (function k w q)) p) (λ q. told (finish k w q))
unfolding script
told_script k w f p =
    rw (← told_times f (function k w) p)
    (told_bind (times f (function k w) p) _ (λ q. told (finish k w q)) (λ fs q. told_map (finish k w q) _))

pub script_ends : (k w : List ℕ) (f : ℕ) (t r : Read) → repeated f (λ q. told (function k w q)) 0 ≡ t →
    r ≡ and_next t (λ q. told (finish k w q)) → r ≡ told (script k w f 0)
script_ends k w f t r e g = g ∙ sym (told_script k w f 0 ∙ ap (λ (u : Read). and_next u (λ q. told (finish k w q))) e)

pub left_over : (k w : List ℕ) (p : ℕ) → p < length k → Refused 3 p ≡ told (finish k w p)
unfolding finish
left_over k w p h = rw (lt-ltb p (length k) h)

pub all_read : (k w : List ℕ) (p : ℕ) → length k ≤ p → Next p ≡ told (finish k w p)
unfolding finish
all_read k w p h = rw (le-ltb p (length k) h)
