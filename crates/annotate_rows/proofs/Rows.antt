-- Laws of writing rows backwards.
use Rattle.prelude.specs.Kit.{ℕ, ◌≤◌, ◌<◌, ◌-◌, suc, arith, ◌≡◌, refl, ◌∙◌, sym, ap, List, [], ◌∷◌, ◌++◌, map, ℤ}
use Rattle.prelude.specs.Kit.{length, set, length-set, length-append, lt-ltb, le-ltb, map-append, length-map}
use Rattle.semantics.specs.Code.{Row}
use Rattle.annotate_rows.specs.Wrote.{before_place, backed, kinds_of, operands_of, Wrote, Room}

-- as `translate` cites it
pub map_length : {A B : Type 0} (f : A → B) (a : List A) → length (map f a) ≡ length a
map_length f a = length-map a f

backed_append : {A : Type 0} (l : List A) (w : ℕ) (rs qs : List A) → backed (backed l w rs) (w - length rs) qs ≡
    backed l w (qs ++ rs)
unfolding backed
backed_append l w rs [] = refl
backed_append l w rs (q ∷ qs) =
    let e : w - length rs - length qs ≡ w - length (qs ++ rs) = omega (arith, length-append qs rs) in
    rw (backed_append l w rs qs, e)

backed_then : {A : Type 0} (l m n : List A) (w v : ℕ) (rs qs ts : List A) → m ≡ backed l w rs → n ≡ backed m v qs →
    v ≡ w - length rs → ts ≡ qs ++ rs → n ≡ backed l w ts
backed_then l m n w v rs qs ts e f g h = f ∙ rw (e, g, h) (backed_append l w rs qs)

pub wrote_none : {k : List ℕ} {o : List ℤ} {w : ℕ} → Wrote k o k o w w []
unfolding backed
wrote_none = record { kinds = refl; operands = refl; at = omega arith; long_kinds = refl; long_operands = refl }

pub wrote_then : {k k₁ k₂ : List ℕ} {o o₁ o₂ : List ℤ} {w w₁ w₂ : ℕ} {rs qs : List Row} →
    Wrote k o k₁ o₁ w w₁ rs → Wrote k₁ o₁ k₂ o₂ w₁ w₂ qs → Wrote k o k₂ o₂ w w₂ (qs ++ rs)
wrote_then {k} {k₁} {k₂} {o} {o₁} {o₂} {w} {w₁} {w₂} {rs} {qs} a b = record {
  kinds = backed_then k k₁ k₂ w w₁ (kinds_of rs) (kinds_of qs) (kinds_of (qs ++ rs)) a.kinds b.kinds
      (a.at ∙ ap (λ (n : ℕ). w - n) (sym (length-map rs _))) (map-append _ qs rs);
  operands = backed_then o o₁ o₂ w w₁ (operands_of rs) (operands_of qs) (operands_of (qs ++ rs)) a.operands
      b.operands
      (a.at ∙ ap (λ (n : ℕ). w - n) (sym (length-map rs _))) (map-append _ qs rs);
  at = omega (arith, a.at, b.at, length-append qs rs);
  long_kinds = b.long_kinds ∙ a.long_kinds;
  long_operands = b.long_operands ∙ a.long_operands;
}

pub wrote_as : {k k₁ : List ℕ} {o o₁ : List ℤ} {w w₁ : ℕ} {rs qs : List Row} → rs ≡ qs → Wrote k o k₁ o₁ w w₁ rs →
    Wrote k o k₁ o₁ w w₁ qs
wrote_as e a = rw e at a

-- one row before a place of at least 2, and none at 0 and 1
pub wrote_one : {k k₁ : List ℕ} {o o₁ : List ℤ} {w i : ℕ} {r : Row} → 2 ≤ w → i ≡ w - 1 → k₁ ≡ set k (w - 2) r.kind →
    o₁ ≡ set o (w - 2) r.operand → Wrote k o k₁ o₁ w i (r ∷ [])
unfolding backed before_place
wrote_one {w = w} l e f g =
    let h : w - 0 ≡ w = omega arith in
    record {
      kinds = rw (h, lt-ltb 1 w (omega arith)) f;
      operands = rw (h, lt-ltb 1 w (omega arith)) g;
      at = e;
      long_kinds = ap length f ∙ simp length-set;
      long_operands = ap length g ∙ simp length-set;
    }

pub wrote_full : {k : List ℕ} {o : List ℤ} {w i : ℕ} {r : Row} → w < 2 → i ≡ 0 → Wrote k o k o w i (r ∷ [])
unfolding backed before_place
wrote_full {w = w} l e =
    let h : w - 0 ≡ w = omega arith in
    record {
      kinds = rw (h, le-ltb 1 w (omega arith));
      operands = rw (h, le-ltb 1 w (omega arith));
      at = omega arith;
      long_kinds = refl;
      long_operands = refl;
    }

-- what is left of the room
pub lower : {k k₁ : List ℕ} {o o₁ : List ℤ} {w w₁ : ℕ} {rs : List Row} → Wrote k o k₁ o₁ w w₁ rs → Room k o w →
    Room k₁ o₁ w₁
lower {k} {k₁} {o} {o₁} {w} {w₁} {rs} r h = record {
  kinds = omega (arith, r.at, h.kinds, r.long_kinds);
  operands = omega (arith, r.at, h.operands, r.long_operands);
}
