-- The loop over the lines of a tree.
use Rattle.std.specs.Prelude.{◌≡◌, refl, Bool, true, false, ◌&&◌, List, [], ◌∷◌, ◌⊎◌, ℕ, zero, suc, ◌+◌, ◌-◌, ◌<◌, ◌≤◌, ℤ, pos, ltb, length}
use Rattle.std.proofs.Common.{sym, ap, ◌∙◌, inl, inr, arith, ltb-true}
use denote.Enum.Declared.{tag_of}
use types.Run.{OneOf, miss}
use Rattle.machine_code.specs.contracts.Line.{the_type}
use Rattle.semantics.specs.Words.{store_of}
use Rattle.machine_code.specs.Reading.{line_at, two_rows}
use Rattle.kinds.specs.declared.Atom.{Atom}
use Rattle.machine_code.specs.declared.Line.{Line}
use Rattle.machine_code.specs.declared.Line.TheVariants as L
use Rattle.machine_code.proofs.Reading.{less_one, no_bool}
use Rattle.machine_frames.specs.Work.{Out}
use Rattle.machine_frames.specs.Frames.{word_of}
use Rattle.machine_frames.specs.Work.{no_line, Memory, memory, Ran, ran, out, halted}
use Rattle.machine_spec.specs.Machine.{Work, Callee, Code, and_then, is_end, line_on}
use Rattle.machine_spec.specs.Machine.{tree_from, tree_on, Ended}
use Rattle.machine_spec.specs.Parts.{then_go, Sized, part_stops}

-- a line of another case is no end
pub not_end : (l : Line) → OneOf (0 ∷ 1 ∷ 2 ∷ 3 ∷ 4 ∷ 5 ∷ 6 ∷ 7 ∷ 8 ∷ 9 ∷ 10 ∷ []) (tag_of the_type l) → is_end l ≡ false
not_end (L.Operation kind x a b) h = refl
not_end (L.Call x g) h = refl
not_end (L.Literal x d) h = refl
not_end (L.Index x a b) h = refl
not_end (L.Length x a) h = refl
not_end (L.If x g) h = refl
not_end (L.Iota x a) h = refl
not_end (L.Replicate x a b) h = refl
not_end (L.Loop x k) h = refl
not_end (L.Retain x) h = refl
not_end (L.Release x) h = refl
not_end (L.End a) h = absurd (miss (0 ∷ 1 ∷ 2 ∷ 3 ∷ 4 ∷ 5 ∷ 6 ∷ 7 ∷ 8 ∷ 9 ∷ 10 ∷ []) 11 tt h)

tree_none : (n : ℕ) (C : Callee) (c : Code) (calls at s : ℕ) (m : Memory) → n ≡ 0 → tree_on n C c calls at s m ≡
    halted no_line s m
unfolding tree_on
tree_none n C c calls at s m e = rw e

tree_past : (n : ℕ) (C : Callee) (c : Code) (calls at s : ℕ) (m : Memory) →
    two_rows c.kinds c.operands at ≡ false → tree_on n C c calls at s m ≡ halted no_line s m
unfolding tree_on
tree_past zero C c calls at s m h = refl
tree_past (suc n) C c calls at s m h = rw h

tree_here : (n : ℕ) (C : Callee) (c : Code) (calls at s : ℕ) (m : Memory) →
    two_rows c.kinds c.operands at ≡ true →
    tree_on (suc n) C c calls at s m
    ≡ tree_from (tree_on n C c calls) C c calls at s m (line_at c.kinds c.operands at)
unfolding tree_on
tree_here n C c calls at s m h = rw h

-- two rows that are within the code
pub rows_there : (kinds : List ℕ) (operands : List ℤ) (at : ℕ) → two_rows kinds operands at ≡ true →
    at + 1 < length kinds
unfolding two_rows
rows_there kinds operands at h = go (ltb (at + 1) (length kinds)) refl h
  where
    go : (t : Bool) → ltb (at + 1) (length kinds) ≡ t → (t && ltb (at + 1) (length operands)) ≡ true →
        at + 1 < length kinds
    go true e f = ltb-true (at + 1) (length kinds) e
    go false e f = no_bool (sym f)

tree_some : (n : ℕ) (C : Callee) (c : Code) (calls at s : ℕ) (m : Memory) (l : Line) → 0 < n →
    two_rows c.kinds c.operands at ≡ true → l ≡ line_at c.kinds c.operands at →
    tree_on n C c calls at s m ≡ tree_from (tree_on (n - 1) C c calls) C c calls at s m l
tree_some n C c calls at s m l some h e =
    ap (λ (k : ℕ). tree_on k C c calls at s m) (less_one n some)
    ∙ tree_here (n - 1) C c calls at s m h
    ∙ ap (tree_from (tree_on (n - 1) C c calls) C c calls at s m) (sym e)

from_end : (W : Work) (C : Callee) (c : Code) (calls at s : ℕ) (m : Memory) (l : Line) (a : Atom) → l ≡ L.End a →
    tree_from W C c calls at s m l ≡ ran (out 0 (word_of calls m.env a) (at + 2) s) m
unfolding tree_from
from_end W C c calls at s m l a e = ap (tree_from W C c calls at s m) e

from_line : (W : Work) (C : Callee) (c : Code) (calls at s : ℕ) (m : Memory) (l : Line) → is_end l ≡ false →
    tree_from W C c calls at s m l
    ≡ and_then (line_on W C c calls at s m l) (λ w. W w.out.next w.out.steps w.memory)
unfolding tree_from
from_line W C c calls at s m l e = rw e

-- what is left of a tree gives what the whole gives
pub record Working (C : Callee) (c : Code) (calls lines at steps : ℕ) (slots₀ : List ℤ) (heads₀ : List ℕ) (env₀ :
    List ℤ)
    (left p s : ℕ) (slots : List ℤ) (heads : List ℕ) (env : List ℤ) : Type 0 where
  pub same : tree_on lines C c calls at steps (memory (store_of slots₀ heads₀) env₀)
      ≡ tree_on left C c calls p s (memory (store_of slots heads) env)
  pub fewer : s ≤ steps
  pub under : left ≤ lines
  pub sized : Sized slots heads env slots₀ heads₀ env₀

module _ {C : Callee} {c : Code} {calls lines at steps : ℕ} {slots₀ : List ℤ} {heads₀ : List ℕ} {env₀ : List ℤ}
    {left p s : ℕ} {slots : List ℤ} {heads : List ℕ} {env : List ℤ}
    (inv : Working C c calls lines at steps slots₀ heads₀ env₀ left p s slots heads env) where
  pub tree_out : (left ≡ 0) ⊎ (two_rows c.kinds c.operands p ≡ false) → (r : Out) → r ≡ out no_line (pos 0) 0
      s →
      Ended (tree_on lines C c calls at steps (memory (store_of slots₀ heads₀) env₀)) steps r slots heads env
  tree_out (inl h) r e = record {
    is = ap (λ (y : Out). ran y (memory (store_of slots heads) env)) e
        ∙ sym (inv.same ∙ tree_none left C c calls p s (memory (store_of slots heads) env) h);
    fewer = rw e inv.fewer;
  }
  tree_out (inr h) r e = record {
    is = ap (λ (y : Out). ran y (memory (store_of slots heads) env)) e
        ∙ sym (inv.same ∙ tree_past left C c calls p s (memory (store_of slots heads) env) h);
    fewer = rw e inv.fewer;
  }

  module _ (l : Line) (some : 0 < left) (within : two_rows c.kinds c.operands p ≡ true) (here : l ≡ line_at
      c.kinds c.operands p) where
    pub tree_closed : (a : Atom) → l ≡ L.End a → (v : ℤ) → v ≡ word_of calls env a → (r : Out) → r ≡ out 0 v (p + 2)
        s →
        Ended (tree_on lines C c calls at steps (memory (store_of slots₀ heads₀) env₀)) steps r slots heads env
    tree_closed a e v ve r re = record {
      is = ap (λ (y : Out). ran y (memory (store_of slots heads) env)) (re ∙ ap (λ (z : ℤ). out 0 z (p + 2) s) ve)
          ∙ sym (inv.same ∙ tree_some left C c calls p s (memory (store_of slots heads) env) l some within here
          ∙ from_end (tree_on (left - 1) C c calls) C c calls p s (memory (store_of slots heads) env) l a e);
      fewer = rw re inv.fewer;
    }

    module _ (n : is_end l ≡ false) (r : Out) (sl : List ℤ) (he : List ℕ) (en : List ℤ)
        (done : Ended (line_on (tree_on (left - 1) C c calls) C c calls p s (memory (store_of slots heads) env)
        l) s r sl he en) where
      tree_part : tree_on lines C c calls at steps (memory (store_of slots₀ heads₀) env₀)
          ≡ and_then (ran r (memory (store_of sl he) en))
          (λ w. tree_on (left - 1) C c calls w.out.next w.out.steps w.memory)
      tree_part = inv.same
          ∙ tree_some left C c calls p s (memory (store_of slots heads) env) l some within here
          ∙ from_line (tree_on (left - 1) C c calls) C c calls p s (memory (store_of slots heads) env) l n
          ∙ ap (λ (w : Ran). and_then w (λ w. tree_on (left - 1) C c calls w.out.next w.out.steps w.memory))
          (sym done.is)

      pub tree_stops : (r.stop ≡ 0 → ⊥) →
          Ended (tree_on lines C c calls at steps (memory (store_of slots₀ heads₀) env₀)) steps r sl he en
      tree_stops h = part_stops _ steps r sl he en
          (λ w. tree_on (left - 1) C c calls w.out.next w.out.steps w.memory)
          tree_part (omega (arith, done.fewer, inv.fewer)) h

      pub tree_goes : r.stop ≡ 0 → Sized sl he en slots heads env →
          Working C c calls lines at steps slots₀ heads₀ env₀ (left - 1) r.next r.steps sl he en
      tree_goes h z = record {
        same = tree_part ∙ then_go (ran r (memory (store_of sl he) en))
            (λ w. tree_on (left - 1) C c calls w.out.next w.out.steps w.memory) h;
        fewer = omega (arith, done.fewer, inv.fewer);
        under = omega (arith, inv.under);
        sized = record {
          slots_long = z.slots_long ∙ inv.sized.slots_long;
          heads_long = z.heads_long ∙ inv.sized.heads_long;
          env_long = z.env_long ∙ inv.sized.env_long;
        };
      }

pub working_starts : (C : Callee) (c : Code) (calls lines at steps : ℕ) (slots : List ℤ) (heads : List ℕ) (env :
    List ℤ) →
    Working C c calls lines at steps slots heads env lines at steps slots heads env
working_starts C c calls lines at steps slots heads env = record {
  same = refl;
  fewer = omega arith;
  under = omega arith;
  sized = record { slots_long = refl; heads_long = refl; env_long = refl };
}
