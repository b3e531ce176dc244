-- The nodes that break rules 6, 7 and 8 are nodes of the script; those of 6 and of 7 are listed in rising order.
use Rattle.std.specs.Prelude.{ℕ, ◌≤◌, ◌+◌, ◌<◌, suc, zero, true, false, Bool, cond, not, ◌≡◌, refl, ◌⊎◌, List, []}
use Rattle.std.specs.Prelude.{◌∷◌, ◌++◌, ltb, length}
use Rattle.prelude.specs.Kit.{arith, inl, inr, some, none, eq-eqb}
use Rattle.semantics.specs.Basics.{with_if, occurrences, ◌∈◌, updated}
use Rattle.semantics.specs.Kinds.{Loop}
use Rattle.semantics.specs.Syntax as S
use Rattle.semantics.specs.Syntax.{Expr, number, name, let_in, leaf, if_else, loop, Exprs, size, sizes, Parameter}
use Rattle.semantics.specs.Syntax.{Function, Script, function_size}
use Rattle.semantics.specs.Names.{Scope, scope_with, calls_none, unknown, unknowns, unknown_from, unknown_in}
use Rattle.semantics.specs.Names.{name_faults}
use Rattle.semantics.specs.Types.{Checked, Depths, Rule, Signature, node, part_faults, breaks, part_depths, is_number}
use Rattle.semantics.specs.Types.{let_rule, if_rule, leaf_rule, loop_rule, array_depth, pass_depths, depths_with}
use Rattle.semantics.specs.Types.{loop_node, check, checks, check_function, function_faults, parameter_depths}
use Rattle.semantics.specs.Types.{result_rule, signatures_of, main_shape, type_faults}
use Rattle.semantics.specs.Normal.{fresh, too_many_names_from}
use Rattle.laws.specs.Lists.{occurrences_append, hits}
use Rattle.script_read.proofs.Written.{total}

-- each number of a list is below those after it
abbrev pub Rising : List ℕ → Type 0
Rising [] = Unit {0}
Rising (x ∷ l) = ((q : ℕ) → q ∈ l → x < q) × Rising l

-- numbers from a on and below b, in rising order
pub record Within (l : List ℕ) (a b : ℕ) : Type 0 where
  pub over : (q : ℕ) → q ∈ l → a ≤ q
  pub under : (q : ℕ) → q ∈ l → q < b
  pub rising : Rising l

none_within : (a b : ℕ) → Within [] a b
unfolding occurrences
none_within a b =
    record { over = λ q h. absurd (omega (arith, h)); under = λ q h. absurd (omega (arith, h)); rising = tt }

in_either : (q : ℕ) (l m : List ℕ) → q ∈ (l ++ m) → (q ∈ l) ⊎ (q ∈ m)
in_either q l m e = go (occurrences q l) refl
  where
    go : (n : ℕ) → occurrences q l ≡ n → (q ∈ l) ⊎ (q ∈ m)
    go zero z = inr (omega (arith, occurrences_append q l m, z, e))
    go (suc n) z = inl (omega (arith, z))

append_rising : (c : ℕ) (l m : List ℕ) → Rising l → ((q : ℕ) → q ∈ l → q < c) → Rising m →
    ((q : ℕ) → q ∈ m → c ≤ q) → Rising (l ++ m)
unfolding occurrences
append_rising c [] m h f k g = k
append_rising c (x ∷ l) m h f k g = (
  λ q e. elim (in_either q l m e) [
    | inl i ↦ h.0 q i
    | inr i ↦ omega (arith, g q i, f x (rw (eq-eqb x x refl) (omega arith)))
  ],
  append_rising c l m h.1 (λ q e. f q (omega (arith, e))) k g,
)

append_within : {a b : ℕ} (c : ℕ) (l m : List ℕ) → a ≤ c → c ≤ b → Within l a c → Within m c b → Within (l ++ m) a b
append_within c l m low high h k = record {
  over = λ q e. elim (in_either q l m e) [ inl i ↦ h.over q i | inr i ↦ omega (arith, k.over q i, low) ];
  under = λ q e. elim (in_either q l m e) [ inl i ↦ omega (arith, h.under q i, high) | inr i ↦ k.under q i ];
  rising = append_rising c l m h.rising h.under k.rising k.over;
}

-- bounds that are wider
wider : {l : List ℕ} {a b c d : ℕ} → c ≤ a → b ≤ d → Within l a b → Within l c d
wider f g h = record {
  over = λ q e. omega (arith, h.over q e, f);
  under = λ q e. omega (arith, h.under q e, g);
  rising = h.rising;
}

front_within : {b : ℕ} (p : ℕ) (l : List ℕ) → p < b → Within l (p + 1) b → Within (p ∷ l) p b
unfolding occurrences
front_within p l h k = record {
  over = λ q e. elim (hits q p) [
    | inl g ↦ omega (arith, g.0)
    | inr g ↦ omega (arith, k.over q (omega (arith, g.1, e)))
  ];
  under = λ q e. elim (hits q p) [ inl g ↦ omega (arith, g.0, h) | inr g ↦ k.under q (omega (arith, g.1, e)) ];
  rising = (λ q e. omega (arith, k.over q e), k.rising);
}

with_within : {b : ℕ} (t : Bool) (p : ℕ) (l : List ℕ) → p < b → Within l (p + 1) b → Within (with_if t p l) p b
with_within true p l h k = front_within p l h k
with_within false p l h k = wider (omega arith) (omega arith) k

-- ---- rule 6

module _ (functions : ℕ) where
  mutual
    unfolding unknown size

    names_within : (e : Expr) (known : Scope) (p : ℕ) → Within (unknown functions e known p) p (p + size e)
    names_within (number z) known p = none_within p (p + 1)
    names_within (name x) known p =
        with_within (not (known x)) p [] (omega arith) (none_within (p + 1) (p + 1))
    names_within (let_in z x y) known p = wider {a = p + 1} (omega arith) (omega arith)
        (append_within (p + 1 + size x) _ _ (omega arith) (omega arith) (names_within x known (p + 1))
        (names_within y (updated known z true) (p + 1 + size x)))
    names_within (leaf l es) known p = with_within (calls_none functions l) p _ (omega arith)
        (wider (omega arith) (omega arith) (all_names_within es known (p + 1)))
    names_within (if_else x y z) known p = wider {a = p + 1} (omega arith) (omega arith)
        (append_within (p + 1 + size x) _ _ (omega arith) (omega arith) (names_within x known (p + 1))
        (append_within (p + 1 + size x + size y) _ _ (omega arith) (omega arith)
        (names_within y known (p + 1 + size x)) (names_within z known (p + 1 + size x + size y))))
    names_within (loop k xs es y) known p = wider {a = p + 1} (omega arith) (omega arith)
        (append_within (p + 1 + sizes es) _ _ (omega arith) (omega arith) (all_names_within es known (p + 1))
        (names_within y (scope_with xs known) (p + 1 + sizes es)))

    all_names_within : (es : Exprs) (known : Scope) (p : ℕ) → Within (unknowns functions es known p) p (p + sizes es)
    all_names_within S.none known p = none_within p (p + 0)
    all_names_within (S.more e es) known p = wider {a = p} (omega arith) (omega arith)
        (append_within (p + size e) _ _ (omega arith) (omega arith) (names_within e known p)
        (all_names_within es known (p + size e)))

  from_within : (xs : List Parameter) (known : Scope) (p : ℕ) (e : Expr) →
      Within (unknown_from functions xs known p e) p (p + length xs + size e)
  unfolding unknown_from
  from_within [] known p e = wider (omega arith) (omega arith) (names_within e known p)
  from_within (x ∷ xs) known p e = with_within (known x.id) p _ (omega arith)
      (wider (omega arith) (omega arith) (from_within xs (updated known x.id true) (p + 1) e))

unknown_within : (functions : ℕ) (gs : Script) (p : ℕ) → Within (unknown_in functions gs p) p (p + total gs)
unfolding unknown_in function_size
unknown_within functions [] p = none_within p (p + 0)
unknown_within functions (g ∷ gs) p = wider {a = p + 1} (omega arith) (omega arith)
    (append_within (p + function_size g) _ _ (omega arith) (omega arith)
    (wider (omega arith) (omega arith) (from_within functions g.parameters (λ _. false) (p + 1) g.body))
    (unknown_within functions gs (p + function_size g)))

pub name_faults_within : (fs : Script) → Within (name_faults fs) 0 (total fs)
unfolding name_faults
name_faults_within fs = wider (omega arith) (omega arith) (unknown_within (length fs) fs 0)

-- ---- rule 8

pub crowd_below : (gs : Script) (p q : ℕ) → too_many_names_from gs p ≡ some q → q < p + total gs
unfolding too_many_names_from function_size
crowd_below [] p q e = absurd (let z : ◌≡◌ {A = ℕ} 0 1 = cc in omega arith)
crowd_below (g ∷ gs) p q e =
    by (crowd_below gs (p + function_size g) q) (ltb 256 (length g.parameters + fresh g.body)) e
  where
    by : (too_many_names_from gs (p + function_size g) ≡ some q → q < p + function_size g + total gs) →
        (t : Bool) → cond t (some p) (too_many_names_from gs (p + function_size g)) ≡ some q →
        q < p + (function_size g + total gs)
    by rest true f = let same : p ≡ q = cc in omega (arith, same)
    by rest false f = omega (arith, rest f)

-- ---- rule 7

-- the faults of parts that stand one after the other, from a on and below b
abbrev AllWithin : List Checked → ℕ → ℕ → Type 0
AllWithin [] a b = Unit {0}
AllWithin (c ∷ cs) a b = (m : ℕ) × (a ≤ m) × (m ≤ b) × Within c.faults a m × AllWithin cs m b

parts_within : {b : ℕ} (cs : List Checked) (a : ℕ) → AllWithin cs a b → Within (part_faults cs) a b
parts_within {b} [] a h = none_within a b
parts_within (c ∷ cs) a h =
    append_within h.0 c.faults (part_faults cs) h.1 h.2 h.3 (parts_within cs h.0 h.4)

node_within : {b : ℕ} (p : ℕ) (r : Rule) (cs : List Checked) → p < b → AllWithin cs (p + 1) b →
    Within (node p r cs).faults p b
unfolding node
node_within p r cs h k = with_within (breaks r (part_depths cs)) p (part_faults cs) h (parts_within cs (p + 1) k)

-- one part more, behind the others
with_last : {b : ℕ} (cs : List Checked) (c : Checked) (a m : ℕ) → a ≤ m → m ≤ b → AllWithin cs a m →
    Within c.faults m b → AllWithin (cs ++ (c ∷ [])) a b
with_last {b} [] c a m f g h k = (b, omega (arith, f, g), omega arith, wider f (omega arith) k, tt)
with_last (d ∷ cs) c a m f g h k =
    (h.0, h.1, omega (arith, h.2, g), h.3, with_last cs c h.0 m h.2 g h.4 k)

loop_within : {b : ℕ} (p m : ℕ) (k : Loop) (cs : List Checked) (c : Checked) → p < m → m ≤ b → AllWithin cs (p + 1) m →
    Within c.faults m b → Within (loop_node p k cs c).faults p b
unfolding loop_node
loop_within {b} p m k cs c low high f g = by (is_number (array_depth k cs))
  where
    by : (t : Bool) → Within (cond t (record { depth = none; faults = p ∷ (part_faults cs ++ c.faults) })
        (node p (loop_rule k) (cs ++ (c ∷ [])))).faults p b
    by true = front_within p _ (omega (arith, low, high))
        (append_within m (part_faults cs) c.faults (omega (arith, low)) high (parts_within cs (p + 1) f) g)
    by false = node_within p (loop_rule k) (cs ++ (c ∷ [])) (omega (arith, low, high))
        (with_last cs c (p + 1) m (omega (arith, low)) high f g)

module _ (signatures : ℕ → Signature) where
  mutual
    unfolding check size

    types_within : (e : Expr) (Γ : Depths) (p : ℕ) → Within (check signatures e Γ p).faults p (p + size e)
    types_within (number z) Γ p = none_within p (p + 1)
    types_within (name x) Γ p = none_within p (p + 1)
    types_within (let_in z x y) Γ p =
        let body = types_within y (updated Γ z (check signatures x Γ (p + 1)).depth) (p + 1 + size x) in
        node_within p let_rule _ (omega arith) (
          p + 1 + size x,
          omega arith,
          omega arith,
          types_within x Γ (p + 1),
          (p + 1 + size x + size y, omega arith, omega arith, body, tt),
        )
    types_within (leaf l es) Γ p = node_within p (leaf_rule signatures l) _ (omega arith)
        (all_types_within es Γ (p + 1) (p + size (leaf l es)) (omega arith))
    types_within (if_else x y z) Γ p =
        let m = p + 1 + size x in
        node_within p if_rule _ (omega arith) (
          m,
          omega arith,
          omega arith,
          types_within x Γ (p + 1),
          (
            m + size y,
            omega arith,
            omega arith,
            types_within y Γ m,
            (m + size y + size z, omega arith, omega arith, types_within z Γ (m + size y), tt),
          ),
        )
    types_within (loop k xs es y) Γ p =
        let cs = checks signatures es Γ (p + 1) in
        loop_within p (p + 1 + sizes es) k cs _ (omega arith) (omega arith)
        (all_types_within es Γ (p + 1) (p + 1 + sizes es) (omega arith))
        (wider (omega arith) (omega arith)
        (types_within y (depths_with xs (pass_depths k cs) Γ) (p + 1 + sizes es)))

    all_types_within : (es : Exprs) (Γ : Depths) (p b : ℕ) → p + sizes es ≤ b → AllWithin (checks signatures es Γ p) p b
    all_types_within S.none Γ p b h = tt
    all_types_within (S.more e es) Γ p b h = (
      p + size e,
      omega arith,
      omega (arith, h),
      types_within e Γ p,
      all_types_within es Γ (p + size e) b (omega (arith, h)),
    )

  function_within : (shape : Bool) (g : Function) (p : ℕ) →
      Within (check_function signatures shape g p).faults p (p + function_size g)
  unfolding check_function function_size
  function_within shape g p = by shape
    where
      c : Checked
      c = check signatures g.body (parameter_depths signatures g.parameters (λ _. some 0))
          (p + 1 + length g.parameters)

      body : Within c.faults (p + 1) (p + function_size g)
      body = wider (omega arith) (omega arith)
          (types_within g.body (parameter_depths signatures g.parameters (λ _. some 0))
          (p + 1 + length g.parameters))

      by : (t : Bool) → Within (cond t (node p (result_rule signatures g.result) (c ∷ []))
          (record { depth = none; faults = p ∷ c.faults })).faults p (p + function_size g)
      by true = node_within p (result_rule signatures g.result) (c ∷ []) (omega arith)
          (p + function_size g, omega arith, omega arith, body, tt)
      by false = front_within p c.faults (omega arith) body

  functions_within : (shape : Bool) (gs : Script) (p : ℕ) →
      Within (function_faults signatures shape gs p) p (p + total gs)
  unfolding function_faults
  functions_within shape [] p = none_within p (p + 0)
  functions_within shape (g ∷ gs) p = wider {a = p} (omega arith) (omega arith)
      (append_within (p + function_size g) _ _ (omega arith) (omega arith) (function_within shape g p)
      (functions_within true gs (p + function_size g)))

pub type_faults_within : (fs : Script) → Within (type_faults fs) 0 (total fs)
unfolding type_faults
type_faults_within fs = wider (omega arith) (omega arith)
    (functions_within (signatures_of fs) (main_shape (signatures_of fs 0)) fs 0)
