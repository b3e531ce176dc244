-- The reader never goes past the node after the last: so a refusal, which has a number from 1 to 5, gives a node up to
-- 1,024, and a script has at most so many nodes.
use Rattle.std.specs.Prelude.{ℕ, ◌≤◌, ◌+◌, ◌<◌, suc, zero, true, false, Bool, cond, ◌≡◌, refl, List, [], ◌∷◌, eqb}
use Rattle.std.specs.Prelude.{ltb, length, drop}
use Rattle.prelude.specs.Kit.{arith, length-take}
use Rattle.semantics.specs.Outcome.{Outcome, done, stop, onward, ◌>>=◌, ◌>>◌, give, halt, times}
use Rattle.semantics.specs.Number.{bytes_at}
use Rattle.semantics.specs.Syntax.{Expr, name, let_in, if_else, Script}
use Rattle.semantics.specs.Syntax as S
use Rattle.semantics.specs.File.{Head, Node, fits, wrong_kind, wrong_operand, Place, at_function, at_parameter, at_part}
use Rattle.semantics.specs.File.{Read, next, looked, part_count, Shape, none, leaf_of, loop_of, shape_of, shaped, parts}
use Rattle.semantics.specs.File.{node_at, look, part, parameter, function, finish, script, read_file}
use Rattle.laws.specs.Files.{of_file}
use Rattle.script_read.proofs.Written as W
use Rattle.script_read.proofs.Written.{ScriptWritten, total, script_written}
use Rattle.script_read.proofs.Ends.{node_inside, script_ends}

-- a refusal at a node up to N, with one of the reader's numbers
pub record Refuses (N n p : ℕ) : Type 0 where
  pub node : p ≤ N
  pub low : 0 < n
  pub high : n ≤ 5

-- a run that ends at a node up to N, or refuses there
abbrev pub Ends : (N : ℕ) {A : Type 0} → Outcome ℕ A → Type 0
Ends N (done a p) = p ≤ N
Ends N (stop n p) = Refuses N n p

module _ (N : ℕ) where
  -- from a node up to N it comes to one up to N
  pub record Stays {A : Type 0} (m : Read A) : Type 0 where
    pub stays : (p : ℕ) → p ≤ N → Ends N (m p)

  onward_stays : {A B : Type 0} (f : A → Read B) → ((a : A) → Stays (f a)) → (o : Outcome ℕ A) → Ends N o →
      Ends N (onward f o)
  unfolding onward
  onward_stays f h (done a p) e = (h a).stays p e
  onward_stays f h (stop n p) e = e

  pub then_stays : {A B : Type 0} {m : Read A} {f : A → Read B} → Stays m → ((a : A) → Stays (f a)) → Stays (m >>= f)
  then_stays {m = m} {f} h g = record { stays = λ p e. onward_stays f g (m p) (h.stays p e) }

  pub give_stays : {A : Type 0} (a : A) → Stays (give a)
  give_stays a = record { stays = λ p e. e }

  pub refuse : {p : ℕ} (n : ℕ) → 0 < n → n ≤ 5 → p ≤ N → Refuses N n p
  refuse n low high e = record { node = e; low = low; high = high }

  pub halt_stays : {A : Type 0} (n : ℕ) → 0 < n → n ≤ 5 → Stays {A = A} (halt n)
  halt_stays n low high = record { stays = λ p e. refuse n low high e }

  pub times_stays : {A : Type 0} (n : ℕ) {m : Read A} → Stays m → Stays (times n m)
  unfolding times
  times_stays zero h = give_stays []
  times_stays (suc n) h = then_stays h (λ a. then_stays (times_stays n h) (λ rest. give_stays (a ∷ rest)))

  -- a node with its parts, each of which m reads
  module _ {m : Read Expr} (s : Stays m) where
    shaped_stays : (n : ℕ) (shape : Shape) → Stays (shaped m n shape)
    shaped_stays n none = halt_stays 3 (omega arith) (omega arith)
    shaped_stays n (leaf_of l) = then_stays (times_stays n s) (λ es. give_stays _)
    shaped_stays n (loop_of k xs c) = then_stays (times_stays c s) (λ es. then_stays s (λ b. give_stays _))

    parts_stay : (h : Head) → Stays (parts m h)
    unfolding parts
    parts_stay h = by (eqb h.kind 2) (eqb h.kind 3) (eqb h.kind 7) (eqb h.kind 12)
      where
        others : Read Expr
        others = shaped m (part_count h.kind h.low h.high) (shape_of h)

        by : (a b c d : Bool) → Stays (cond a (give (S.number h.value)) (cond b (give (name h.low))
            (cond c (do x ← m; y ← m; give (let_in h.low x y))
            (cond d (do x ← m; y ← m; z ← m; give (if_else x y z)) others))))
        by true b c d = give_stays _
        by false true c d = give_stays _
        by false false true d = then_stays s (λ x. then_stays s (λ y. give_stays _))
        by false false false true = then_stays s (λ x. then_stays s (λ y. then_stays s (λ z. give_stays _)))
        by false false false false = shaped_stays (part_count h.kind h.low h.high) (shape_of h)

-- ---- the file's nodes

-- a refusal gives a node up to b, or a script has no more nodes
abbrev pub Small : ℕ → Outcome ℕ Script → Type 0
Small b (done fs q) = total fs ≤ b
Small b (stop n q) = Refuses b n q

module _ (kinds operands : List ℕ) where
  abbrev nodes : ℕ
  nodes = length kinds

  -- looking at a node and going on to the next
  pub look_next : {A : Type 0} (place : Place) (f : Head → Read A) → ((h : Head) → Stays nodes (f h)) →
      Stays nodes (look kinds operands place >>= λ h. next >> f h)
  unfolding look onward
  look_next place f g = record { stays = λ p e. by p (node_at kinds operands place p) refl e }
    where
      by : (p : ℕ) (n : Node) → node_at kinds operands place p ≡ n → p ≤ nodes →
          Ends nodes (onward (λ h. next >> f h) (looked n p))
      by p (fits h) q e = (g h).stays (suc p) (node_inside kinds operands place p h q)
      by p wrong_kind q e = refuse nodes 3 (omega arith) (omega arith) e
      by p wrong_operand q e = refuse nodes 4 (omega arith) (omega arith) e

  -- looking alone
  look_stays : {A : Type 0} (place : Place) (f : Head → Read A) → ((h : Head) → Stays nodes (f h)) →
      Stays nodes (look kinds operands place >>= f)
  unfolding look onward
  look_stays place f g = record { stays = λ p e. by p (node_at kinds operands place p) e }
    where
      by : (p : ℕ) (n : Node) → p ≤ nodes → Ends nodes (onward f (looked n p))
      by p (fits h) e = (g h).stays p e
      by p wrong_kind e = refuse nodes 3 (omega arith) (omega arith) e
      by p wrong_operand e = refuse nodes 4 (omega arith) (omega arith) e

  part_stays : (levels : ℕ) → Stays nodes (part kinds operands levels)
  unfolding part
  part_stays zero = look_stays at_part (λ h. halt 5) (λ h. halt_stays nodes 5 (omega arith) (omega arith))
  part_stays (suc levels) =
      look_next at_part (parts (part kinds operands levels)) (parts_stay nodes (part_stays levels))

  parameter_stays : Stays nodes (parameter kinds operands)
  unfolding parameter
  parameter_stays =
      look_next at_parameter (λ h. give (record { id = h.low; depth = h.high })) (λ h. give_stays nodes _)

  function_stays : Stays nodes (function kinds operands)
  unfolding function
  function_stays = look_next at_function _
      (λ h. then_stays nodes (times_stays nodes h.low parameter_stays)
      (λ xs. then_stays nodes (part_stays 64) (λ e. give_stays nodes _)))

  finish_stays : Stays nodes (finish kinds operands)
  unfolding finish
  finish_stays = record { stays = λ p e. by (ltb p nodes) p e }
    where
      by : (t : Bool) (p : ℕ) → p ≤ nodes → Ends nodes {A = Unit {0}} (cond t (stop 3 p) (done tt p))
      by true p e = refuse nodes 3 (omega arith) (omega arith) e
      by false p e = e

  pub script_stays : (count : ℕ) → Stays nodes (script kinds operands count)
  unfolding script
  script_stays count = then_stays nodes (times_stays nodes count function_stays)
      (λ fs. then_stays nodes finish_stays (λ _. give_stays nodes fs))

  script_small : (count b : ℕ) → nodes ≤ b → Small b (script kinds operands count 0)
  script_small count b few = by (script kinds operands count 0)
      ((script_stays count).stays 0 (omega arith)) (script_written kinds operands count 0)
    where
      by : (o : Outcome ℕ Script) → Ends nodes o →
          W.After (λ gs q. ScriptWritten kinds operands gs 0 × (length gs ≡ count) × (nodes ≤ 0 + total gs)) o →
          Small b o
      by (done gs q) s w = omega (arith, script_ends kinds operands gs 0 w.0 (omega arith), few)
      by (stop n q) s w = record { node = omega (arith, s.node, few); low = s.low; high = s.high }

-- a file is refused by 1 to 5 at a node up to 1,024, and a script has at most so many nodes
pub read_small : (file : List ℕ) → Small 1024 (read_file file)
read_small file =
    of_file (Small 1024) file (refuse 1024 1 (omega arith) (omega arith) (omega arith))
    (refuse 1024 2 (omega arith) (omega arith) (omega arith))
    (λ sizes. script_small _ (drop (4 + bytes_at 2 file 2) file) (bytes_at 2 file 0) 1024
    (omega (arith, length-take (bytes_at 2 file 2) (drop 4 file), sizes.nodes)))
