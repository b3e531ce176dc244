-- Trees, ifs and loops by positions, one law for each way out of the code.
use Rattle.prelude.specs.Kit.{ℕ, ◌≤◌, ◌+◌, ◌<◌, ◌-◌, suc, arith, true, false, Bool, cond, ◌≡◌, refl, ◌∙◌, sym, ap, some}
use Rattle.prelude.specs.Kit.{none, Option, List, eqb, ltb, ℤ, length, get_or, set, ne_eqb, lt-ltb, eq-eqb, le-ltb}
use Rattle.semantics.specs.Outcome.{Outcome, done, stop, onward, ◌>>=◌, give}
use Rattle.semantics.specs.Kinds.{Loop}
use Rattle.semantics.specs.Live.{Set, ◌∪◌, only}
use Rattle.semantics_lent.specs.Fit.{Bound, with_name, Fitted}
use Rattle.machine_code.specs.Reading.{atom_at}
use Rattle.std.specs.Prelude.{Option as Optional, Some, None, Result, Ok, Err}
use Rattle.script_rules.specs.Rules.{judged_outcome, rule_outcome}
use Rattle.lent_fit_lines.proofs.Laws.{set_with}
use Rattle.lent_form.specs.declared.Fault.{Fault}
use Rattle.lent_fit_lines.specs.declared.Fit.{Fit}
use Rattle.lent_fit_lines.specs.declared.Wants.{Wants}
use Rattle.lent_fit_lines.specs.declared.Wants.TheVariants.{Any, Exactly}
use Rattle.lent_fit_lines.specs.Walk.{set_of, depths_of, bound_of, meant, ended, binds, plain_fits, if_opens, loops}
use Rattle.lent_fit_lines.specs.Walk.{loop_of, loop_count, pass_names, loop_opens, loop_wants, loop_judged}
use Rattle.lent_fit_lines.specs.Walk.{first_at, second_at, third_at, atoms_from, Opened, LoopOpened}
use Rattle.lent_fit_lines.specs.Walk.{told_first}
use Rattle.lent_fit_trees.specs.Trees.{told_tree, told_end, Below, loop_placed, if_fits, loop_fits, line_fits}
use Rattle.lent_fit_trees.specs.Trees.{scope_then, end_fits, lines_fit, tree_fits}

-- ---- what an opening tells

not_opened : (t : Bool) (d : ℕ) → None ≡ told_first t d → t ≡ false
not_opened true d e = let z : ◌≡◌ {A = ℕ} 0 1 = cc in absurd (omega arith)
not_opened false d e = refl

opened : (t : Bool) (d c : ℕ) → Some c ≡ told_first t d → (t ≡ true) × (d ≡ c)
opened true d c e = (refl, let z : d ≡ c = cc in z)
opened false d c e = let z : ◌≡◌ {A = ℕ} 0 1 = cc in absurd (omega arith)

-- ---- trees

pub told_as : (r : Result Fit Fault) (b : List Bool) (g : List ℕ) → told_end (bound_of b g) r ≡ told_tree r b g
told_as (Ok f) b g = refl
told_as (Err e) b g = refl

module _ (K : List ℕ) (O : List ℤ) (st : List ℕ) where
  pub no_levels : (m : ℕ) (w : Wants) (S : Set) (N : Bound) (p : ℕ) → m ≡ 0 → tree_fits K O st m w S N p ≡ stop 29 p
  unfolding tree_fits
  no_levels m w S N p e = rw e

  -- what is left of a tree gives what the whole gives
  pub record Going (levels : ℕ) (w : Wants) (S : Set) (N : Bound) (at : ℕ) (s b : List Bool) (g : List ℕ) (p left : ℕ) :
      Type 0 where
    pub same : tree_fits K O st levels w S N at
        ≡ lines_fit K O st (tree_fits K O st (levels - 1)) left w (set_of s) (bound_of b g) p
    pub wide : length s ≡ 256
    pub long : length b ≡ 256
    pub deep : length g ≡ 256

  pub going_starts : (levels : ℕ) (w : Wants) (s b : List Bool) (g : List ℕ) (at : ℕ) → (levels ≡ 0 → ⊥) →
      length s ≡ 256 → length b ≡ 256 → length g ≡ 256 →
      Going levels w (set_of s) (bound_of b g) at s b g at 4096
  unfolding tree_fits
  going_starts levels w s b g at h x y z = record {
    same = ap (λ (m : ℕ). tree_fits K O st m w (set_of s) (bound_of b g) at)
        (let e : levels ≡ suc (levels - 1) = omega (arith, h) in e);
    wide = x;
    long = y;
    deep = z;
  }

  module _ {levels : ℕ} {w : Wants} {S : Set} {N : Bound} {at : ℕ} {s b : List Bool} {g : List ℕ} {p left : ℕ}
      (v : Going levels w S N at s b g p left) where
    abbrev Whole : Outcome ℕ Fitted
    Whole = tree_fits K O st levels w S N at

    abbrev Under : Below
    Under = tree_fits K O st (levels - 1)

    abbrev kind : ℕ
    kind = get_or K p 0

    pub going_out : left ≡ 0 → Whole ≡ stop 29 p
    unfolding lines_fit
    going_out e = v.same ∙ rw e

    -- one line is taken
    takes : 0 < left → Whole
        ≡ cond (ltb p (length K))
        (cond (eqb kind 16) (end_fits K O st w (set_of s) (bound_of b g) p)
        (onward (λ (M : Bound). lines_fit K O st Under (left - 1) w
        (scope_then K O st kind (first_at O p) (set_of s)) M)
        (line_fits K O st Under kind (set_of s) (bound_of b g) p)))
        (stop 29 p)
    unfolding lines_fit
    takes h = v.same ∙ ap (λ (m : ℕ). lines_fit K O st Under m w (set_of s) (bound_of b g) p)
        (let e : left ≡ suc (left - 1) = omega (arith, h) in e)

    pub going_past : 0 < left → length K ≤ p → Whole ≡ stop 29 p
    going_past h l = takes h ∙ rw (le-ltb p (length K) l)

    module _ (h : 0 < left) (within : p < length K) where
      pub going_ends : kind ≡ 16 → (r : Result Fit Fault) →
          r ≡ ended w (set_of s) (depths_of g) (meant (atom_at K O (p + 1))) p → Whole ≡ told_tree r b g
      going_ends e r f = takes h
          ∙ rw (lt-ltb p (length K) within, eq-eqb kind 16 e) (ap (told_end (bound_of b g)) (sym f) ∙ told_as r b g)

      module _ (more : kind ≡ 16 → ⊥) where
        abbrev rest : Bound → ℕ → Outcome ℕ Fitted
        rest M = lines_fit K O st Under (left - 1) w (scope_then K O st kind (first_at O p) (set_of s)) M

        lined : Whole ≡ onward rest (line_fits K O st Under kind (set_of s) (bound_of b g) p)
        lined = takes h ∙ rw (lt-ltb p (length K) within, ne_eqb kind 16 more)

        pub going_stops : (e : Fault) → line_fits K O st Under kind (set_of s) (bound_of b g) p ≡ stop 29 e.line →
            Whole ≡ stop 29 e.line
        unfolding onward
        going_stops e is = lined ∙ rw is

        pub going_on : (q : ℕ) (b' : List Bool) (g' : List ℕ) →
            line_fits K O st Under kind (set_of s) (bound_of b g) p ≡ done (bound_of b' g') q → (s' : List Bool) →
            length s' ≡ 256 → length b' ≡ 256 → length g' ≡ 256 →
            set_of s' ≡ scope_then K O st kind (first_at O p) (set_of s) → (n : ℕ) → n ≡ left - 1 →
            Going levels w S N at s' b' g' q n
        unfolding onward
        going_on q b' g' is s' x y z f n k = record { same = lined ∙ rw (is, f, k); wide = x; long = y; deep = z }

  -- ---- lines

  module _ (T : Below) (k : ℕ) (S : Set) (N : Bound) (p : ℕ) where
    pub line_if : k ≡ 12 → line_fits K O st T k S N p ≡ if_fits K O st T S N p
    unfolding line_fits
    line_if e = rw e

    pub line_loop : (k ≡ 12 → ⊥) → loops k ≡ true → line_fits K O st T k S N p ≡ loop_fits K O st T k S N p
    unfolding line_fits
    line_loop f e = rw (ne_eqb k 12 f, e)

    pub line_plain : (k ≡ 12 → ⊥) → loops k ≡ false → line_fits K O st T k S N p ≡ plain_fits K O st k S N p
    unfolding line_fits
    line_plain f e = rw (ne_eqb k 12 f, e)

  -- ---- ifs

  module _ (T : Below) (S : Set) (N : Bound) (p : ℕ) (b₁ : List Bool) (g₁ : List ℕ) where
    abbrev if_opening : Bool → Type 0
    if_opening r =
        Opened (if_opens S N (meant (atom_at K O (p + 1))) (first_at O p)) (with_name (first_at O p) 0 N) r b₁ g₁

    pub if_closed : if_opening false → if_fits K O st T S N p ≡ stop 29 p
    unfolding if_fits
    if_closed o = rw (← o.is)

    module _ (o : if_opening true) where
      abbrev second : Fitted → ℕ → Outcome ℕ Bound
      second A = T (Exactly A.depth) S A.bound >>= λ B. give (with_name (first_at O p) B.depth B.bound)

      if_goes : if_fits K O st T S N p ≡ onward second (T Any S (bound_of b₁ g₁) (p + 2))
      unfolding if_fits
      if_goes = rw (← o.is, o.gives refl)

      pub if_first : (e : Fault) → T Any S (bound_of b₁ g₁) (p + 2) ≡ stop 29 e.line →
          if_fits K O st T S N p ≡ stop 29 e.line
      unfolding onward
      if_first e is = if_goes ∙ rw is

      module _ (f : Fit) (b₂ : List Bool) (g₂ : List ℕ)
          (is₁ : T Any S (bound_of b₁ g₁) (p + 2) ≡ told_tree (Ok f) b₂ g₂) where
        pub if_second : (e : Fault) → T (Exactly f.depth) S (bound_of b₂ g₂) f.next ≡ stop 29 e.line →
            if_fits K O st T S N p ≡ stop 29 e.line
        unfolding onward
        if_second e is₂ = if_goes ∙ rw (is₁, is₂)

        pub if_done : (h : Fit) (b₃ : List Bool) (g₃ : List ℕ) →
            T (Exactly f.depth) S (bound_of b₂ g₂) f.next ≡ told_tree (Ok h) b₃ g₃ → (x : ℕ) → x ≡ first_at O p →
            (b₄ : List Bool) (g₄ : List ℕ) → bound_of b₄ g₄ ≡ with_name x h.depth (bound_of b₃ g₃) →
            if_fits K O st T S N p ≡ done (bound_of b₄ g₄) h.next
        unfolding onward
        if_done h b₃ g₃ is₂ x i b₄ g₄ j = if_goes ∙ rw (is₁, is₂, ← i) (ap (λ (M : Bound). done M h.next) (sym j))

  -- ---- loops

  module _ (T : Below) (kind : ℕ) (S : Set) (N : Bound) (p : ℕ) (b₁ : List Bool) (g₁ : List ℕ)
      (s₁ : List Bool) where
    abbrev k : Loop
    k = loop_of kind

    abbrev loop_opening : Optional ℕ → Type 0
    loop_opening r =
        LoopOpened k S N (atoms_from K O (loop_count k) (p + 1)) (first_at O p)
        (pass_names k (second_at O p) (third_at O p)) r b₁ g₁ s₁

    abbrev opens : Bool
    opens = loop_opens k S N (atoms_from K O (loop_count k) (p + 1)) (first_at O p)
        (pass_names k (second_at O p) (third_at O p))

    pub loop_closed : loop_opening None → loop_fits K O st T kind S N p ≡ stop 29 p
    unfolding loop_fits
    loop_closed o = rw (not_opened opens _ o.is)

    module _ (c : ℕ) (o : loop_opening (Some c)) (w : Wants) (ws : w ≡ loop_wants k c) (n : ℕ)
        (ns : n ≡ loop_count k) where
      abbrev after : Fitted → ℕ → Outcome ℕ Bound
      after A = loop_placed (loop_judged k c A.depth) (first_at O p) A.bound

      abbrev body : Outcome ℕ Fitted
      body = T w (set_of s₁) (bound_of b₁ g₁) (p + 1 + n)

      loop_goes : loop_fits K O st T kind S N p ≡ onward after body
      unfolding loop_fits
      loop_goes =
          let is_open = opened opens _ c o.is in
          rw (is_open.0, is_open.1, ← o.scope is_open.0, ← o.gives is_open.0, ws, ns)

      pub loop_tree : (e : Fault) → body ≡ stop 29 e.line → loop_fits K O st T kind S N p ≡ stop 29 e.line
      unfolding onward
      loop_tree e is = loop_goes ∙ rw is

      module _ (f : Fit) (b₂ : List Bool) (g₂ : List ℕ) (is : body ≡ told_tree (Ok f) b₂ g₂) where
        loop_on : loop_fits K O st T kind S N p
            ≡ loop_placed (loop_judged k c f.depth) (first_at O p) (bound_of b₂ g₂) f.next
        unfolding onward
        loop_on = loop_goes ∙ rw is

        pub loop_broken : judged_outcome None ≡ rule_outcome (loop_judged k c f.depth) →
            loop_fits K O st T kind S N p ≡ stop 29 f.next
        loop_broken js = loop_on ∙ go (loop_judged k c f.depth) js
          where
            go : (m : Option ℕ) → stop 7 tt ≡ rule_outcome m →
                loop_placed m (first_at O p) (bound_of b₂ g₂) f.next ≡ stop 29 f.next
            go none i = refl
            go (some u) i = let z : ◌≡◌ {A = ℕ} 0 1 = cc in absurd (omega arith)

        pub loop_done : (u : ℕ) → judged_outcome (Some u) ≡ rule_outcome (loop_judged k c f.depth) → (x : ℕ) →
            x ≡ first_at O p → (b₃ : List Bool) (g₃ : List ℕ) → bound_of b₃ g₃ ≡ with_name x u (bound_of b₂ g₂) →
            loop_fits K O st T kind S N p ≡ done (bound_of b₃ g₃) f.next
        loop_done u js x i b₃ g₃ l = loop_on ∙ go (loop_judged k c f.depth) js
          where
            go : (m : Option ℕ) → done u tt ≡ rule_outcome m →
                loop_placed m (first_at O p) (bound_of b₂ g₂) f.next ≡ done (bound_of b₃ g₃) f.next
            go none i = let z : ◌≡◌ {A = ℕ} 0 1 = cc in absurd (omega arith)
            go (some v) n =
                let z : u ≡ v = cc in
                rw (← i, ← z) (ap (λ (M : Bound). done M f.next) (sym l))

-- the scope after a line
module _ (K : List ℕ) (O : List ℤ) (st : List ℕ) (kind x : ℕ) (s : List Bool) where
  pub scope_bound : binds kind ≡ true → (y : ℕ) → y ≡ x → y < length s →
      set_of (set s y true) ≡ scope_then K O st kind x (set_of s)
  scope_bound e y i h = rw e (set_with s y h ∙ ap (λ (n : ℕ). set_of s ∪ only n) i)

  pub scope_same : binds kind ≡ false → set_of s ≡ scope_then K O st kind x (set_of s)
  scope_same e = rw e
