-- A node: what the code sees of it is what the definition says.
use Rattle.prelude.specs.Kit.{ℕ, ◌≤◌, ◌<◌, suc, zero, ◌*◌, ◌%◌, ◌^◌, ◌/◌, arith, true, false, Bool, cond, ◌≡◌}
use Rattle.prelude.specs.Kit.{refl, ◌∙◌, sym, ap, inl, inr, ◌⊎◌, ⊎_elim, List, [], ◌∷◌, eqb, ltb, leb, ℤ, pos, negsuc}
use Rattle.prelude.specs.Kit.{length, get_or, get_or-eq_default, ne_eqb, lt-ltb, eq-eqb, eqb-true, ltb-true, leb-true}
use Rattle.prelude.specs.Kit.{le-leb, lt-leb, ltb-false}
use Rattle.answers.specs.Numbers.{number_of}
use Rattle.semantics.specs.Outcome.{Outcome, done, stop}
use Rattle.semantics.specs.File as S
use Rattle.semantics.specs.File.{Place, at_function, at_parameter, at_part, allowed, node_of, node_at, in_parts}
use Rattle.semantics.specs.File.{low_limits, high_limits, look, looked}
use Rattle.script_read.specs.Told.{Parted, node_outcome, fitting_outcome, parted, low_at, high_at}
use Rattle.std.specs.Prelude.{Result, Ok, Err, MatchResult}
use Rattle.script_read.specs.declared.Node.{Node}
use Rattle.script_read.specs.declared.Misfit.{Misfit}
use Rattle.script_read.specs.declared.Misfit.TheVariants.{WrongKind, WrongOperand}
use Rattle.script_read.specs.declared.Fault.{Fault}
use Rattle.semantics.specs.Number.{signed, bytes_at}
use Rattle.laws.specs.Tests.{no_equation}

pub get_d_any : {A : Type 0} (l : List A) (i : ℕ) (d e : A) → i < length l → get_or l i d ≡ get_or l i e
get_d_any [] i d e h = absurd (omega arith)
get_d_any (x ∷ l) zero d e h = refl
get_d_any (x ∷ l) (suc i) d e h = get_d_any l i d e (omega arith)

either : {A : Type 0} (t : Bool) (a : A) → cond t a a ≡ a
either true a = refl
either false a = refl

low_number : (n : ℕ) → n < 2 ^ 63 → signed n ≡ pos n
low_number n h = rw (lt-ltb n (2 ^ 63) h)

-- ---- an answer and the node of the definition

-- the case of a node
abbrev pub told_node : S.Node → Result Node Misfit
told_node (S.fits h) = Ok (record { kind = h.kind; low = h.low; high = h.high })
told_node S.wrong_kind = Err WrongKind
told_node S.wrong_operand = Err WrongOperand

-- the case tells what looking at the node gives, and is told by it
module _ (k w : List ℕ) (place : Place) (p : ℕ) (n : Result Node Misfit) where
  pub node_says : n ≡ told_node (node_at k w place p) → node_outcome n p ≡ parted (look k w place p)
  unfolding look
  node_says e = rw e (go (node_at k w place p))
    where
      go : (v : S.Node) → node_outcome (told_node v) p ≡ parted (looked v p)
      go (S.fits h) = refl
      go S.wrong_kind = refl
      go S.wrong_operand = refl

  pub node_told : node_outcome n p ≡ parted (look k w place p) → n ≡ told_node (node_at k w place p)
  unfolding look
  node_told e = go n (node_at k w place p) e
    where
      fitting : Outcome ℕ Parted → Result Node Misfit
      fitting (done r q) = Ok (record { kind = r.kind; low = r.low; high = r.high })
      fitting (stop m q) = Err WrongKind

      go : (m : Result Node Misfit) (v : S.Node) → node_outcome m p ≡ parted (looked v p) → m ≡ told_node v
      go (Ok x) (S.fits h) e = ap fitting e
      go (Ok x) S.wrong_kind e = no_equation cc
      go (Ok x) S.wrong_operand e = no_equation cc
      go (Err WrongKind) (S.fits h) e = no_equation cc
      go (Err WrongKind) S.wrong_kind e = refl
      go (Err WrongKind) S.wrong_operand e = no_equation cc
      go (Err WrongOperand) (S.fits h) e = no_equation cc
      go (Err WrongOperand) S.wrong_kind e = no_equation cc
      go (Err WrongOperand) S.wrong_operand e = refl

-- the parts of an operand that is read as an unsigned number
module _ (d u : ℕ) where
  pub low_wrong : get_or low_limits d 0 < u % 256 → Err WrongOperand ≡ told_node (in_parts d (signed u))
  low_wrong h = go (ltb u (2 ^ 63)) refl
    where
      go : (t : Bool) → ltb u (2 ^ 63) ≡ t → Err WrongOperand ≡ told_node (in_parts d (signed u))
      go true e = rw (e, lt-leb (u % 256) (get_or low_limits d 0) h)
      go false e = rw e

  pub high_wrong : get_or high_limits d 0 < u / 256 → Err WrongOperand ≡ told_node (in_parts d (signed u))
  high_wrong h = go (ltb u (2 ^ 63)) refl
    where
      go : (t : Bool) → ltb u (2 ^ 63) ≡ t → Err WrongOperand ≡ told_node (in_parts d (signed u))
      go true e =
          rw (
            e,
            lt-leb (u / 256) (get_or high_limits d 0) h,
            either (leb (u % 256) (get_or low_limits d 0))
                S.wrong_operand,
          )
      go false e = rw e

  pub in_range : u % 256 ≤ get_or low_limits d 0 → u / 256 ≤ get_or high_limits d 0 → get_or high_limits d 0 < 256 →
      Ok (record { kind = d; low = u % 256; high = u / 256 }) ≡ told_node (in_parts d (signed u))
  in_range l h s =
      rw (
        low_number u (omega arith),
        le-leb (u % 256) (get_or low_limits d 0) l,
        le-leb (u / 256)
            (get_or high_limits d 0) h,
      )

-- past the end no kind may stand
none_past : (place : Place) → allowed place 255 ≡ false
none_past at_function = refl
none_past at_parameter = refl
none_past at_part = refl

module _ (k w : List ℕ) (place : Place) (p : ℕ) where
  pub past : length k ≤ p → Err WrongKind ≡ told_node (node_at k w place p)
  unfolding node_at node_of
  past h = rw (get_or-eq_default k 255 {n = p} h, none_past place)

  module _ (d : ℕ) (is : d ≡ get_or k p 255) where
    pub not_allowed : allowed place d ≡ false → Err WrongKind ≡ told_node (node_at k w place p)
    unfolding node_at node_of
    not_allowed e = rw (← is, e)

    module _ (may : allowed place d ≡ true) where
      pub number : d ≡ 2 → Ok (record { kind = d; low = 0; high = 0 }) ≡ told_node (node_at k w place p)
      unfolding node_at node_of
      number e = rw (← is, may, eq-eqb d 2 e) (ap (λ (n : ℕ). Ok (record { kind = n; low = 0; high = 0 })) e)

      pub judged : (d ≡ 2 → ⊥) → (u : ℕ) → u ≡ bytes_at 8 w (8 * p) → (r : Result Node Misfit) →
          r ≡ told_node (in_parts d (signed u)) → r ≡ told_node (node_at k w place p)
      unfolding node_at node_of
      judged f u e r q = rw (← is, may, ne_eqb d 2 f, ← e) q

-- a node that is taken at a place where kind d stands: the kind is allowed and the operand is in range
pub record HeadFits (place : Place) (d : ℕ) (h : S.Head) : Type 0 where
  pub kind : h.kind ≡ d
  pub stands : allowed place h.kind ≡ true
  pub low : h.low ≤ get_or low_limits h.kind 0
  pub high : h.high ≤ get_or high_limits h.kind 0

abbrev pub NodeFits : Place → ℕ → S.Node → Type 0
NodeFits place d (S.fits h) = HeadFits place d h
NodeFits place d S.wrong_kind = Unit {0}
NodeFits place d S.wrong_operand = Unit {0}

in_parts_fit : (place : Place) (d : ℕ) (z : ℤ) → allowed place d ≡ true → NodeFits place d (in_parts d z)
in_parts_fit place d (negsuc n) may = tt
in_parts_fit place d (pos n) may =
    go (leb (n % 256) (get_or low_limits d 0)) refl (leb (n / 256) (get_or high_limits d 0)) refl
  where
    go : (s : Bool) → leb (n % 256) (get_or low_limits d 0) ≡ s → (t : Bool) →
        leb (n / 256) (get_or high_limits d 0) ≡ t →
        NodeFits place d (cond s
        (cond t (S.fits (record { kind = d; low = n % 256; high = n / 256; value = pos 0 })) S.wrong_operand)
        S.wrong_operand)
    go true e true f = record {
      kind = refl;
      stands = may;
      low = leb-true (n % 256) (get_or low_limits d 0) e;
      high = leb-true (n / 256) (get_or high_limits d 0) f;
    }
    go true e false f = tt
    go false e t f = tt

pub node_fits : (k w : List ℕ) (place : Place) (p : ℕ) → NodeFits place (get_or k p 255) (node_at k w place p)
unfolding node_at node_of
node_fits k w place p = go (get_or k p 255) (signed (bytes_at 8 w (8 * p)))
  where
    by_kind : (d : ℕ) (z : ℤ) (u : Bool) → eqb d 2 ≡ u → allowed place d ≡ true →
        NodeFits place d (cond u (S.fits (record { kind = 2; low = 0; high = 0; value = z })) (in_parts d z))
    by_kind d z true e may =
        let g : 2 ≡ d = sym (eqb-true d 2 e) in
        record { kind = g; stands = ap (allowed place) g ∙ may; low = omega arith; high = omega arith }
    by_kind d z false e may = in_parts_fit place d z may

    go : (d : ℕ) (z : ℤ) → NodeFits place d (cond (allowed place d)
        (cond (eqb d 2) (S.fits (record { kind = 2; low = 0; high = 0; value = z })) (in_parts d z)) S.wrong_kind)
    go d z = by_place (allowed place d) refl
      where
        by_place : (s : Bool) → allowed place d ≡ s → NodeFits place d (cond s
            (cond (eqb d 2) (S.fits (record { kind = 2; low = 0; high = 0; value = z })) (in_parts d z)) S.wrong_kind)
        by_place true e = by_kind d z (eqb d 2) refl e
        by_place false e = tt

pub head_fits : (k w : List ℕ) (place : Place) (p : ℕ) (h : S.Head) → node_at k w place p ≡ S.fits h →
    HeadFits place (get_or k p 255) h
head_fits k w place p h e = rw e at (node_fits k w place p)

-- what the code has seen of a node is what the reader finds
pub record Seen (k w : List ℕ) (place : Place) (p x y z : ℕ) : Type 0 where
  pub node : S.Head
  pub stands : node_at k w place p ≡ S.fits node
  pub is : look k w place p ≡ done node p
  pub same_kind : node.kind ≡ x
  pub same_low : node.low ≡ y
  pub same_high : node.high ≡ z
  pub lowest : y ≤ get_or low_limits x 0
  pub highest : z ≤ get_or high_limits x 0

pub record Halted (k w : List ℕ) (place : Place) (p c q : ℕ) : Type 0 where
  pub is : look k w place p ≡ stop c q

-- no node fits there
pub record Unfit (k w : List ℕ) (place : Place) (p : ℕ) : Type 0 where
  pub is : (node_at k w place p ≡ S.wrong_kind) ⊎ (node_at k w place p ≡ S.wrong_operand)

told_wrong : (v : S.Node) {m : Misfit} → Err m ≡ told_node v → (v ≡ S.wrong_kind) ⊎ (v ≡ S.wrong_operand)
told_wrong (S.fits h) e = no_equation cc
told_wrong S.wrong_kind e = inl refl
told_wrong S.wrong_operand e = inr refl

module _ (k w : List ℕ) (place : Place) (p : ℕ) (n : Result Node Misfit)
    (e : node_outcome n p ≡ parted (look k w place p)) where
  told : n ≡ told_node (node_at k w place p)
  told = node_told k w place p n e

  pub seen : (x : Node) → n ≡ Ok x → Seen k w place p x.kind x.low x.high
  unfolding look
  seen x f = go (node_at k w place p) refl (sym f ∙ told)
    where
      go : (v : S.Node) → node_at k w place p ≡ v → Ok x ≡ told_node v → Seen k w place p x.kind x.low x.high
      go (S.fits h) g t =
          let r : x ≡ record { kind = h.kind; low = h.low; high = h.high } = cc in
          let i : h.kind ≡ x.kind = sym (ap (λ (y : Node). y.kind) r) in
          let j : h.low ≡ x.low = sym (ap (λ (y : Node). y.low) r) in
          let l : h.high ≡ x.high = sym (ap (λ (y : Node). y.high) r) in
          let fit = head_fits k w place p h g in
          record {
            node = h;
            stands = g;
            is = rw g;
            same_kind = i;
            same_low = j;
            same_high = l;
            lowest = rw (i, j) at fit.low;
            highest = rw (i, l) at fit.high;
          }
      go S.wrong_kind g t = no_equation cc
      go S.wrong_operand g t = no_equation cc

  pub unfit : (m : Misfit) → n ≡ Err m → Unfit k w place p
  unfit m f = record { is = told_wrong (node_at k w place p) (sym f ∙ told) }

-- a node that fits, and one that does not, as a fault names it
module _ (k w : List ℕ) (place : Place) (p : ℕ) where
  pub fitting : (x : Node) → fitting_outcome (Ok x) p ≡ parted (look k w place p) →
      Seen k w place p x.kind x.low x.high
  fitting x e = seen k w place p (Ok x) e x refl

  pub halted : (f : Fault) → fitting_outcome (Err f) p ≡ parted (look k w place p) →
      Halted k w place p (number_of f.refusal) f.node
  halted f e = record { is = go (look k w place p) e }
    where
      go : (o : Outcome ℕ S.Head) → stop (number_of f.refusal) f.node ≡ parted o →
          o ≡ stop (number_of f.refusal) f.node
      go (done h q) g = no_equation cc
      go (stop c q) g = let i : c ≡ number_of f.refusal = cc in let j : q ≡ f.node = cc in rw (i, j)

-- the parts of the operand of a node
module _ {k w : List ℕ} {place : Place} {p : ℕ} where
  module _ {x y z : ℕ} (s : Seen k w place p x y z) where
    pub low_seen : y ≡ low_at k w place p
    unfolding low_at
    low_seen = rw s.stands (sym s.same_low)

    pub high_seen : z ≡ high_at k w place p
    unfolding high_at
    high_seen = rw s.stands (sym s.same_high)

  module _ (u : Unfit k w place p) where
    pub low_none : 0 ≡ low_at k w place p
    unfolding low_at
    low_none = ⊎_elim (λ e. rw e) (λ e. rw e) u.is

    pub high_none : 0 ≡ high_at k w place p
    unfolding high_at
    high_none = ⊎_elim (λ e. rw e) (λ e. rw e) u.is

-- the same of what the code has found
module _ (k w : List ℕ) (place : Place) (p : ℕ) where
  pub low_found : (n : Result Node Misfit) (r : ℕ) → node_outcome n p ≡ parted (look k w place p) →
      MatchResult n (λ x. r ≡ x.low) (λ _. r ≡ 0) → r ≡ low_at k w place p
  low_found (Ok x) r e f = f ∙ low_seen (seen k w place p (Ok x) e x refl)
  low_found (Err m) r e f = f ∙ low_none (unfit k w place p (Err m) e m refl)

  pub high_found : (n : Result Node Misfit) (r : ℕ) → node_outcome n p ≡ parted (look k w place p) →
      MatchResult n (λ x. r ≡ x.high) (λ _. r ≡ 0) → r ≡ high_at k w place p
  high_found (Ok x) r e f = f ∙ high_seen (seen k w place p (Ok x) e x refl)
  high_found (Err m) r e f = f ∙ high_none (unfit k w place p (Err m) e m refl)

-- a node that is taken is there
pub inside : (k w : List ℕ) (place : Place) (p : ℕ) (n : Result Node Misfit) →
    node_outcome n p ≡ parted (look k w place p) → (x : Node) → n ≡ Ok x → p < length k
inside k w place p n e x f = go (ltb p (length k)) refl
  where
    go : (t : Bool) → ltb p (length k) ≡ t → p < length k
    go true g = ltb-true p (length k) g
    go false g =
        let q : Err WrongKind ≡ told_node (node_at k w place p) = past k w place p (ltb-false p (length k) g) in
        let t : n ≡ told_node (node_at k w place p) = node_told k w place p n e in
        no_equation cc

pub fitting_inside : (k w : List ℕ) (place : Place) (p : ℕ) (x : Node) →
    fitting_outcome (Ok x) p ≡ parted (look k w place p) → p < length k
fitting_inside k w place p x e = inside k w place p (Ok x) e x refl
