-- The ways out of a part, in the terms of the code.
use Rattle.prelude.specs.Kit.{ℕ, ◌≤◌, ◌+◌, ◌<◌, ◌-◌, suc, zero, arith, add-one, true, false, ◌≡◌, refl, ◌∙◌, sym, ap}
use Rattle.prelude.specs.Kit.{⊎_elim, some, none, Option, List, [], ◌∷◌, ◌++◌, append_assoc, append-nil, length}
use Rattle.prelude.specs.Kit.{get_or, set, length-set, take, take-suc-set, ne_eqb, eqb, Bool, cond}
use Rattle.answers.specs.Numbers.{number_of}
use Rattle.script_read.specs.declared.Fault.{Fault}
use Rattle.semantics.specs.Basics.{updated}
use Rattle.semantics.specs.Outcome.{done, stop}
use Rattle.semantics.specs.File.{at_part, look, part_count}
use Rattle.script_read.specs.Told.{node_outcome, parted, loops, second_name, AtomSeen}
use Rattle.script_read.specs.declared.Misfit.{Misfit}
use Rattle.script_read.specs.declared.Atomic.TheVariants.{Number, Name}
use Rattle.script_read.proofs.Nodes.{Seen, fitting, fitting_inside, unfit, get_d_any}
use Rattle.script_read.proofs.Limits.{NoneOf}
use Rattle.script_read.proofs.Turns.{less_one}
use Rattle.script_read.proofs.Tables.{table_set, table_set_two, table_at}
use Rattle.std.specs.Prelude as P
use Rattle.std.specs.Prelude.{Result, Ok, Err, Some, None, IsErrAnd}
use Rattle.std.proofs.lemmas.Result.{err_from_is_err_and}
use Rattle.script_rules.specs.Rules.{known_signature, rule_of, judged_outcome, rule_outcome}
use Rattle.script_depths.specs.declared.Typed.{Typed}
use Rattle.script_depths.specs.Walk.{typed_outcome, Walked, AllWalked, depths, known_name, more, and_parts, collect}
use Rattle.script_depths.specs.Walk.{by_rule, let_typed, start_typed, loop_ended, array_typed, loop_typed, typed}
use Rattle.script_depths.specs.Walk.{known_plain, known_types, known_depth, AtomTyped}

-- a fault that is passed on
pub passed_on : (r : Result Typed Fault) (f : Fault) → IsErrAnd r (λ g. g ≡ f) →
    typed_outcome r ≡ stop (number_of f.refusal) f.node
passed_on r f e = let p = err_from_is_err_and r e in rw (p.1, p.2)

-- a judgement says what the rule gives
module _ (o : Option ℕ) (j : P.Option ℕ) (e : judged_outcome j ≡ rule_outcome o) (p q : ℕ) where
  pub ruled_good : (t : ℕ) → j ≡ Some t → done t q ≡ by_rule p q o
  ruled_good t f = go o (ap judged_outcome (sym f) ∙ e)
    where
      go : (o : Option ℕ) → done t tt ≡ rule_outcome o → done t q ≡ by_rule p q o
      go (some u) g = let h : t ≡ u = cc in rw h
      go none g = let z : ◌≡◌ {A = ℕ} 0 1 = cc in absurd (omega arith)

  pub ruled_bad : j ≡ None → stop 7 p ≡ by_rule p q o
  ruled_bad f = go o (ap judged_outcome (sym f) ∙ e)
    where
      go : (o : Option ℕ) → stop 7 tt ≡ rule_outcome o → stop 7 p ≡ by_rule p q o
      go (some u) g = let z : ◌≡◌ {A = ℕ} 0 1 = cc in absurd (omega arith)
      go none g = refl

-- the entry of a name
pub entry : (t : List ℕ) (x : ℕ) → length t ≡ 256 → x < 256 → depths t x ≡ get_or t x 0
entry t x l h = table_at 255 t x ∙ get_d_any t x 255 0 (omega arith)

module _ (k w s : List ℕ) (d : ℕ) (γ : ℕ → ℕ) (p : ℕ) where
  pub no_levels : d ≡ 0 → stop 7 p ≡ known_types k w s d γ p
  unfolding known_types
  no_levels e = rw e

pub no_node : (k w s : List ℕ) (d : ℕ) (γ : ℕ → ℕ) (p : ℕ) (m : Misfit) →
    node_outcome (Err m) p ≡ parted (look k w at_part p) → stop 7 p ≡ known_types k w s d γ p
unfolding known_types
no_node k w s zero γ p m e = refl
no_node k w s (suc d) γ p m e = ⊎_elim (λ g. rw g) (λ g. rw g) (unfit k w at_part p (Err m) e m refl).is

-- at a node that is seen, with levels left
module _ {k w : List ℕ} {p x y z : ℕ} (n : Seen k w at_part p x y z) (s : List ℕ) (d : ℕ) (γ : ℕ → ℕ) (deep : d ≡ 0 → ⊥)
  where
    abbrev pub Gives : Walked → Type 0
    Gives r = r ≡ known_types k w s d γ p

    by_kind : known_types k w s d γ p ≡
        typed known_name (known_signature k w s) k w (known_types k w s (d - 1)) γ p x y z
    unfolding known_types
    by_kind = ap (λ (n : ℕ). known_types k w s n γ p) (less_one d deep) ∙ go (d - 1)
      where
        go : (m : ℕ) → known_types k w s (suc m) γ p ≡
            typed known_name (known_signature k w s) k w (known_types k w s m) γ p x y z
        go m = rw (n.stands, ← n.same_kind, ← n.same_low, ← n.same_high)

    pub a_number : x ≡ 2 → Gives (done 0 (p + 1))
    a_number e = sym (by_kind ∙ rw e)

    pub a_name : x ≡ 3 → (v : ℕ) → Some v ≡ known_depth (γ y) → Gives (done v (p + 1))
    a_name e v f = sym (by_kind ∙ rw e (go (eqb (γ y) 255) f))
      where
        go : (b : Bool) → Some v ≡ cond b None (Some (γ y)) → cond b (stop 7 p) (done (γ y) (p + 1)) ≡ done v (p + 1)
        go true g = let z : ◌≡◌ {A = ℕ} 0 1 = cc in absurd (omega arith)
        go false g = let h : γ y ≡ v = cc in rw h

    pub unknown_name : x ≡ 3 → None ≡ known_depth (γ y) → Gives (stop 7 p)
    unknown_name e f = sym (by_kind ∙ rw e (go (eqb (γ y) 255) f))
      where
        go : (b : Bool) → None ≡ cond b None (Some (γ y)) → cond b (stop 7 p) (done (γ y) (p + 1)) ≡ stop 7 p
        go true g = refl
        go false g = let z : ◌≡◌ {A = ℕ} 0 1 = cc in absurd (omega arith)

    pub a_let : x ≡ 7 → (r : Walked) →
        r ≡ let_typed (known_types k w s (d - 1)) γ y (known_types k w s (d - 1) γ (p + 1)) → Gives r
    a_let e r g = g ∙ sym (by_kind ∙ rw e)

    module _ (f : NoneOf (7 ∷ 3 ∷ 2 ∷ []) x) where
      pub a_loop : loops x ≡ true → (r : Walked) →
          r ≡ loop_typed (known_types k w s (d - 1)) γ p x y z (start_typed x (known_types k w s (d - 1) γ) (p + 1)) →
          Gives r
      a_loop l r g = g ∙ sym (by_kind ∙ rw (ne_eqb x 2 f.0.0.1, ne_eqb x 3 f.0.1, ne_eqb x 7 f.1, l))

      pub any_other : loops x ≡ false → (r : Walked) →
          r ≡ known_plain k w s (known_types k w s (d - 1) γ) p x y z → Gives r
      unfolding known_plain
      any_other l r g = g ∙ sym (by_kind ∙ rw (ne_eqb x 2 f.0.0.1, ne_eqb x 3 f.0.1, ne_eqb x 7 f.1, l))

-- at an atom, with levels left
module _ (k w : List ℕ) (d : ℕ) (γ : ℕ → ℕ) (p : ℕ) (deep : d ≡ 0 → ⊥) where
  pub number_typed : AtomSeen k w p Number → AtomTyped k w d γ p (Some 0)
  number_typed e = (fitting_inside k w at_part p _ e, λ s. a_number (fitting k w at_part p _ e) s d γ deep refl)

  pub name_typed : (x : ℕ) → AtomSeen k w p (Name x) → AtomTyped k w d γ p (known_depth (γ x))
  name_typed x e = by (eqb (γ x) 255) refl
    where
      by : (t : Bool) → eqb (γ x) 255 ≡ t → AtomTyped k w d γ p (cond t None (Some (γ x)))
      by true f = tt
      by false f = (fitting_inside k w at_part p _ e, λ s. a_name (fitting k w at_part p _ e) s d γ deep refl _ (rw f))

-- the parts of a let and of a loop, where a part is typed by m
module _ (k w s : List ℕ) (d : ℕ) (t : List ℕ) where
  abbrev m : (ℕ → ℕ) → ℕ → Walked
  m γ p = known_types k w s d γ p

  -- a let by its first part
  module _ (x p : ℕ) (r₁ : Walked) (g : r₁ ≡ m (depths t) p) where
    abbrev pub Lets : Walked → Type 0
    Lets r = r ≡ let_typed (known_types k w s d) (depths t) x (known_types k w s d (depths t) p)

    pub let_faulty : (c n : ℕ) → r₁ ≡ stop c n → Lets (stop c n)
    let_faulty c n f = rw (← g, f)

    pub let_bound : (t₁ : List ℕ) (q v : ℕ) (r₂ : Walked) → length t ≡ 256 → x < 256 → t₁ ≡ t → r₁ ≡ done v q →
        r₂ ≡ m (depths (set t₁ x v)) q → Lets r₂
    let_bound t₁ q v r₂ l h e i j =
        rw (← g, i)
        (j ∙ ap (λ (a : List ℕ). m (depths (set a x v)) q) e
        ∙ ap (λ (γ : ℕ → ℕ). m γ q) (table_set 255 t x v (omega arith)))

  -- a loop by its start
  module _ (at x y z : ℕ) (r₀ : Walked) (g₀ : r₀ ≡ start_typed x (m (depths t)) (at + 1)) where
    abbrev pub Loops : Walked → Type 0
    Loops r = r ≡ loop_typed (known_types k w s d) (depths t) at x y z
        (start_typed x (known_types k w s d (depths t)) (at + 1))

    pub start_faulty : (c n : ℕ) → r₀ ≡ stop c n → Loops (stop c n)
    start_faulty c n f = rw (← g₀, f)

    -- by its array
    module _ (t₁ : List ℕ) (u p : ℕ) (i₀ : r₀ ≡ done u p) (e₁ : t₁ ≡ t) (r₁ : Walked) (g₁ : r₁ ≡ m (depths t₁) p) where
      by_array : array_typed (known_types k w s d) (depths t) at x y z u r₁ ≡
          loop_typed (known_types k w s d) (depths t) at x y z
          (start_typed x (known_types k w s d (depths t)) (at + 1))
      by_array = rw (← g₀, i₀, g₁, e₁)

      pub array_faulty : (c n : ℕ) → r₁ ≡ stop c n → Loops (stop c n)
      array_faulty c n f = rw f at by_array

      pub array_number : (v q : ℕ) → r₁ ≡ done v q → v ≡ 0 → Loops (stop 7 at)
      array_number v q f h = rw (f, h) at by_array

      pub loop_bound : (t₂ : List ℕ) (v q o : ℕ) (r₂ r₃ : Walked) → length t ≡ 256 → y < 256 → o < 256 → t₂ ≡ t₁ →
          r₁ ≡ done v q → (v ≡ 0 → ⊥) → o ≡ second_name x y z →
          r₂ ≡ m (depths (set (set t₂ y u) o (v - 1))) q → r₃ ≡ loop_ended at x u v r₂ → Loops r₃
      loop_bound t₂ v q o r₂ r₃ l hy ho e₂ f pos oe j f₃ =
          f₃ ∙ ap (λ (a : Walked). loop_ended at x u v a) beneath ∙ go v pos f
        where
          beneath : r₂ ≡ m (updated (updated (depths t) y u) (second_name x y z) (v - 1)) q
          beneath =
              j ∙ ap (λ (a : List ℕ). m (depths (set (set a y u) o (v - 1))) q) (e₂ ∙ e₁)
              ∙ ap (λ (γ : ℕ → ℕ). m γ q) (table_set_two 255 t y o u (v - 1) (omega arith) (omega arith))
              ∙ ap (λ (b : ℕ). m (updated (updated (depths t) y u) b (v - 1)) q) oe

          go : (v : ℕ) → (v ≡ 0 → ⊥) → r₁ ≡ done v q →
              loop_ended at x u v (m (updated (updated (depths t) y u) (second_name x y z) (v - 1)) q) ≡
              loop_typed (known_types k w s d) (depths t) at x y z
              (start_typed x (known_types k w s d (depths t)) (at + 1))
          go zero h i = absurd (h refl)
          go (suc v) h i = let n : suc v - 1 ≡ v = omega arith in rw n (rw i at by_array)

-- depths before those of further parts
abbrev prepend : List ℕ → AllWalked → AllWalked
prepend l (done m q) = done (l ++ m) q
prepend l (stop n p) = stop n p

prepend_more : (l : List ℕ) (d : ℕ) (c : AllWalked) → prepend l (more d c) ≡ prepend (l ++ (d ∷ [])) c
prepend_more l d (done m q) = rw append_assoc
prepend_more l d (stop n p) = refl

prepend_none : (c : AllWalked) → c ≡ prepend [] c
prepend_none (done m q) = refl
prepend_none (stop n p) = refl

-- The loop over the parts of a node: i of n are done, the next is at p, and ds has their depths.
pub record Going (n : ℕ) (f : ℕ → Walked) (at i p : ℕ) (ds : List ℕ) : Type 0 where
  pub under : i ≤ n
  pub few : n ≤ 16
  pub long : length ds ≡ 16
  pub same : collect n f at ≡ prepend (take i ds) (collect (n - i) f p)

pub going_starts : (n : ℕ) (f : ℕ → Walked) (p : ℕ) (ds : List ℕ) → n ≤ 16 → length ds ≡ 16 → Going n f p 0 p ds
going_starts n f p ds b l =
    let e : n - 0 ≡ n = omega arith in
    record { under = omega arith; few = b; long = l; same = rw e (prepend_none (collect n f p)) }

module _ {n : ℕ} {f : ℕ → Walked} {at i p : ℕ} {ds : List ℕ} (g : Going n f at i p ds) where
  turn : i < n → collect (n - i) f p ≡ and_parts (f p) (collect (n - (i + 1)) f)
  unfolding collect
  turn h = let e : n - i ≡ suc (n - (i + 1)) = omega arith in ap (λ (m : ℕ). collect m f p) e

  pub going_on : i < n → (r : Walked) → r ≡ f p → (d q : ℕ) → r ≡ done d q → Going n f at (i + 1) q (set ds i d)
  going_on h r e d q j = record {
    under = omega arith;
    few = g.few;
    long = simp length-set g.long;
    same = g.same
        ∙ ap (λ (c : AllWalked). prepend (take i ds) c) (turn h ∙ step)
        ∙ prepend_more (take i ds) d (collect (n - (i + 1)) f q)
        ∙ ap (λ (l : List ℕ). prepend l (collect (n - (i + 1)) f q)) (sym longer);
  }
    where
      step : and_parts (f p) (collect (n - (i + 1)) f) ≡ more d (collect (n - (i + 1)) f q)
      step = rw (← e, j)

      longer : take (i + 1) (set ds i d) ≡ take i ds ++ (d ∷ [])
      longer = rw add-one (take-suc-set ds i d (omega (arith, g.long, g.few)))

  stopped : i < n → (r : Walked) → r ≡ f p → (c m : ℕ) → r ≡ stop c m → collect n f at ≡ stop c m
  stopped h r e c m j = g.same ∙ ap (λ (c : AllWalked). prepend (take i ds) c) (turn h ∙ step)
    where
      step : and_parts (f p) (collect (n - (i + 1)) f) ≡ stop c m
      step = rw (← e, j)

  ended : n ≤ i → collect n f at ≡ done (take n ds) p
  unfolding collect
  ended h =
      let z : n - i ≡ 0 = omega arith in
      let j : i ≡ n = omega (arith, g.under) in
      g.same ∙ rw (z, append-nil, j)

module _ (k w s : List ℕ) {f : ℕ → Walked} (at x y z n : ℕ) (ne : n ≡ part_count x y z) {i p : ℕ} {ds : List ℕ}
    (g : Going n f (at + 1) i p ds) where
  pub part_faulty : i < n → (r : Walked) → r ≡ f p → (c m : ℕ) → r ≡ stop c m → stop c m ≡ known_plain k w s f at x y z
  unfolding known_plain
  part_faulty h r e c m j = rw (← ne, stopped g h r e c m j)

  abbrev by_its_kind : Option ℕ
  by_its_kind = rule_of (known_signature k w s) x y z (take (part_count x y z) ds)

  module _ (h : n ≤ i) (j : P.Option ℕ) (je : judged_outcome j ≡ rule_outcome by_its_kind) where
    plain_ends : by_rule at p by_its_kind ≡ known_plain k w s f at x y z
    unfolding known_plain
    plain_ends = rw (← ne, ended g h)

    pub judged_good : (t : ℕ) → j ≡ Some t → done t p ≡ known_plain k w s f at x y z
    judged_good t e = ruled_good by_its_kind j je at p t e ∙ plain_ends

    pub judged_bad : j ≡ None → stop 7 at ≡ known_plain k w s f at x y z
    judged_bad e = ruled_bad by_its_kind j je at p e ∙ plain_ends
