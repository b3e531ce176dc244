-- Parameters and functions by positions, one law for each way out of the code.
use Rattle.prelude.specs.Kit.{ℕ, ◌≤◌, ◌+◌, ◌<◌, ◌-◌, suc, zero, ◌*◌, arith, ℕ_discrete, true, false, Bool, cond, ◌&&◌}
use Rattle.prelude.specs.Kit.{not, ◌≡◌, refl, ◌∙◌, sym, ap, subst, fun_ext, List, [], ◌∷◌, ◌++◌, append_assoc}
use Rattle.prelude.specs.Kit.{append-nil, eqb, ltb, ℤ, length, get_or, replicate, length-append, get_or-append}
use Rattle.prelude.specs.Kit.{get_or-append_seam}
use Rattle.prelude.specs.Kit.{lt-ltb, le-ltb, not-true, not-false}
use Rattle.semantics.specs.Outcome.{Outcome, done, stop, onward, ◌>>=◌, give}
use Rattle.semantics.specs.Live.{empty}
use Rattle.semantics.specs.Annotate.{NameDepths}
use Rattle.semantics_lent.specs.Fit.{Bound, nothing_bound, with_name, Fitted, is_main}
use Rattle.semantics.specs.Types.{same}
use Rattle.machine_code.specs.Reading.{depth_in}
use Rattle.std.specs.Prelude.{Result, Ok, Err}
use Rattle.lent_form.specs.declared.Fault.{Fault}
use Rattle.lent_form.specs.Told.{faulty}
use Rattle.lent_fit_lines.specs.declared.Fit.{Fit}
use Rattle.lent_fit_lines.specs.declared.Wants.TheVariants.{Exactly}
use Rattle.script_rules.proofs.Rules.{counts_differ}
use Rattle.lent_fit_lines.specs.Walk.{set_of, depths_of, bound_of, first_at, second_at, Opened, signature_at}
use Rattle.lent_fit_lines.specs.Walk.{depths_from}
use Rattle.lent_fit_trees.specs.Trees.{tree_fits, told_tree}
use Rattle.lent_fit.specs.Functions.{parameters_fit, body_fits, function_fits, functions_fit, code_fits}
use Rattle.lent_fit.specs.Functions.{told_function, Laid, Kept, Lays, Says, all_fit, at_fault, Told}

-- ---- lists

depth_is : (t : List ℕ) (f x : ℕ) → depth_in t f x ≡ get_or t (256 * f + x) 0
unfolding depth_in
depth_is t f x = refl

depths_length : (O : List ℤ) (n p : ℕ) → length (depths_from O n p) ≡ n
unfolding depths_from
depths_length O zero p = refl
depths_length O (suc n) p = ap suc (depths_length O n (p + 1))

-- ---- parameters

module _ (O : List ℤ) (n at : ℕ) (N : Bound) where
  -- the parameters before line p are bound
  pub record Binding (p : ℕ) (b : List Bool) (g : List ℕ) : Type 0 where
    pub same : parameters_fit O n N at ≡ parameters_fit O (at + n - p) (bound_of b g) p
    pub long : length b ≡ 256
    pub deep : length g ≡ 256

  module _ {p : ℕ} {b : List Bool} {g : List ℕ} (v : Binding p b g) where
    takes : p < at + n → parameters_fit O n N at
        ≡ cond (get_or b (first_at O p) false) (stop 29 p)
        (parameters_fit O (at + n - (p + 1)) (with_name (first_at O p) (second_at O p) (bound_of b g)) (p + 1))
    unfolding parameters_fit
    takes h =
        let e : at + n - p ≡ suc (at + n - (p + 1)) = omega (arith, h) in
        v.same ∙ rw e refl

    pub binding_ends : p ≡ at + n → parameters_fit O n N at ≡ done (bound_of b g) p
    unfolding parameters_fit
    binding_ends h =
        let e : at + n - p ≡ 0 = omega (arith, h) in
        v.same ∙ rw e refl

    module _ (h : p < at + n) (x d : ℕ) (xs : x ≡ first_at O p) (ds : d ≡ second_at O p) {b' : List Bool}
        {g' : List ℕ} where
      pub binding_stops : Opened (not (get_or b x false)) (with_name x d (bound_of b g)) false b' g' →
          parameters_fit O n N at ≡ stop 29 p
      binding_stops o = takes h ∙ rw (← xs, not-false (get_or b x false) (sym o.is))

      pub binding_goes : Opened (not (get_or b x false)) (with_name x d (bound_of b g)) true b' g' →
          Binding (p + 1) b' g'
      binding_goes o = record {
        same = takes h ∙ rw (← xs, ← ds, not-true (get_or b x false) (sym o.is))
            (ap (λ (M : Bound). parameters_fit O (at + n - (p + 1)) M (p + 1)) (sym (o.gives refl)));
        long = o.long;
        deep = o.deep;
      }

-- ---- functions

none_at : {A : Type 0} (a : A) (n x : ℕ) → get_or (replicate n a) x a ≡ a
none_at a zero x = refl
none_at a (suc n) zero = refl
none_at a (suc n) (suc x) = none_at a n x

pub nothing : bound_of (replicate 256 false) (replicate 256 0) ≡ nothing_bound
nothing = λ i. record {
  names = fun_ext {f = set_of (replicate 256 false)} {g = empty} (λ x. none_at false 256 x) i;
  depths = fun_ext {f = depths_of (replicate 256 0)} {g = λ _. 0} (λ x. none_at 0 256 x) i;
}

module _ (K : List ℕ) (O : List ℤ) (st : List ℕ) (p : ℕ) (g₀ : List ℕ) (zeros : g₀ ≡ replicate 256 0) (n : ℕ)
    (ns : n ≡ first_at O p) where
  abbrev parameters : Outcome ℕ Bound
  parameters = parameters_fit O n (bound_of (replicate 256 false) g₀) (p + 1)

  abbrev body : Bound → ℕ → Outcome ℕ NameDepths
  body N = body_fits K O st (second_at O p) N >>= λ A. give A.bound.depths

  function_on : function_fits K O st p ≡ onward body parameters
  unfolding function_fits
  function_on = rw (ns, zeros, nothing)

  pub function_stops : (e : Fault) → parameters ≡ stop 29 e.line → (g : List ℕ) →
      function_fits K O st p ≡ told_function (Err e) g
  unfolding onward
  function_stops e is g = function_on ∙ rw is

  pub function_tree : (q : ℕ) (b : List Bool) (g : List ℕ) → parameters ≡ done (bound_of b g) q → (d : ℕ) →
      d ≡ second_at O p → (f : Result Fit Fault) (b' : List Bool) (g' : List ℕ) →
      tree_fits K O st 64 (Exactly d) (set_of b) (bound_of b g) q ≡ told_tree f b' g' →
      function_fits K O st p ≡ told_function f g'
  unfolding onward
  function_tree q b g is d ds f b' g' i = function_on ∙ rw (is, ← ds, i) (go f)
    where
      go : (f : Result Fit Fault) →
          onward (λ (A : Fitted). give A.bound.depths) (told_tree f b' g') ≡ told_function f g'
      go (Ok h) = refl
      go (Err e) = refl

-- ---- functions, one after the other

module _ (K : List ℕ) (O : List ℤ) (st : List ℕ) (n : ℕ) (t₀ : List ℕ) where
  abbrev with_those : List NameDepths → Outcome ℕ (List NameDepths) → Outcome ℕ (List NameDepths)
  with_those Δ = onward (λ (Γs : List NameDepths). give (Δ ++ Γs))

  -- the first f functions fit
  pub record Fitting (f p : ℕ) (t : List ℕ) : Type 0 where
    pub found : List NameDepths
    pub count : length found ≡ f
    pub few : f ≤ n
    pub same : functions_fit K O st n 0 ≡ with_those found (functions_fit K O st (n - f) p)
    pub laid : Laid t found
    pub kept : Kept t₀ t

  pub fitting_starts : Fitting 0 0 t₀
  unfolding onward
  fitting_starts = record {
    found = [];
    count = refl;
    few = omega arith;
    same = go (functions_fit K O st n 0) ∙ ap (λ (m : ℕ). with_those [] (functions_fit K O st m 0))
        (let e : n ≡ n - 0 = omega arith in e);
    laid = record { depths = λ f x h k. absurd (let z : ⊥ = omega arith in z) };
    kept = record { behind = λ j h. refl; long = refl };
  }
    where
      go : (o : Outcome ℕ (List NameDepths)) → o ≡ with_those [] o
      go (done Γs q) = refl
      go (stop m q) = refl

  module _ {f p : ℕ} {t : List ℕ} (v : Fitting f p t) where
    pub fitting_ends : n ≤ f → Told (functions_fit K O st n 0) (Ok p) t₀ t
    unfolding functions_fit onward
    fitting_ends h = record {
      says = subst (λ (o : Outcome ℕ (List NameDepths)). Says t (Ok p) o)
          (sym (v.same ∙ ap (λ (m : ℕ). with_those v.found (functions_fit K O st m p))
          (let e : n - f ≡ 0 = omega (arith, h) in e)
          ∙ ap (λ (Γs : List NameDepths). done Γs p) (append-nil v.found)))
          (all_fit v.found p v.laid);
      kept = v.kept;
    }

    takes_one : f < n → functions_fit K O st n 0 ≡ with_those v.found (cond (ltb p (length K))
        (onward (λ Γ. functions_fit K O st (n - (f + 1)) >>= λ Γs. give (Γ ∷ Γs)) (function_fits K O st p)) (stop 29 p))
    unfolding functions_fit
    takes_one h = v.same ∙ ap (λ (m : ℕ). with_those v.found (functions_fit K O st m p))
        (let e : n - f ≡ suc (n - (f + 1)) = omega (arith, h) in e)

    stopped : (e : Fault) → functions_fit K O st n 0 ≡ stop 29 e.line → Told (functions_fit K O st n 0) (Err e) t₀ t
    stopped e is = record {
      says = subst (λ (o : Outcome ℕ (List NameDepths)). Says t (Err e) o) (sym is) (at_fault e);
      kept = v.kept;
    }

    pub fitting_past : f < n → length K ≤ p → Told (functions_fit K O st n 0) (faulty p) t₀ t
    unfolding onward
    fitting_past h l = stopped (record { line = p }) (takes_one h ∙ rw (le-ltb p (length K) l) refl)

    module _ (h : f < n) (within : p < length K) (g : List ℕ) where
      pub fitting_stops : (e : Fault) → function_fits K O st p ≡ told_function (Err e) g →
          Told (functions_fit K O st n 0) (Err e) t₀ t
      unfolding onward
      fitting_stops e is = stopped e (takes_one h ∙ rw (lt-ltb p (length K) within, is) refl)

      pub fitting_goes : (r : Fit) → function_fits K O st p ≡ told_function (Ok r) g → (t' : List ℕ) → Lays g f t t' →
          n ≤ 32 → Fitting (f + 1) r.next t'
      unfolding onward
      fitting_goes r is t' l m = record {
        found = v.found ++ (depths_of g ∷ []);
        count = length-append v.found (depths_of g ∷ []) ∙ ap (λ (k : ℕ). k + 1) v.count;
        few = omega (arith, h);
        same = takes_one h ∙ rw (lt-ltb p (length K) within, is) (go (functions_fit K O st (n - (f + 1)) r.next));
        laid = record { depths = λ i x j k. laid_too i x j k (ℕ_discrete i f) };
        kept = record {
          behind = λ j k. l.behind j (omega (arith, h, m)) ∙ v.kept.behind j k;
          long = l.long ∙ v.kept.long;
        };
      }
        where
          go : (o : Outcome ℕ (List NameDepths)) →
              with_those v.found (onward (λ (Γs : List NameDepths). give (depths_of g ∷ Γs)) o)
              ≡ with_those (v.found ++ (depths_of g ∷ [])) o
          go (done Γs q) = ap (λ (Δ : List NameDepths). done Δ q) (sym (append_assoc v.found (depths_of g ∷ []) Γs))
          go (stop m q) = refl

          laid_too : (i x : ℕ) → i < length (v.found ++ (depths_of g ∷ [])) → x < 256 → Dec (i ≡ f) →
              depth_in t' i x ≡ get_or (v.found ++ (depths_of g ∷ [])) i (λ _. 0) x
          laid_too i x j k (yes z) = rw (z)
              (depth_is t' f x ∙ l.here x k
              ∙ ap (λ (Γ : NameDepths). Γ x) (sym (get_or-append_seam v.found (depths_of g) [] (λ _. 0)))
              ∙ ap (λ (a : ℕ). get_or (v.found ++ (depths_of g ∷ [])) a (λ _. 0) x) v.count)
          laid_too i x j k (no z) =
              let s : i < f = omega (arith, z, v.count, length-append v.found (depths_of g ∷ []), j) in
              depth_is t' i x ∙ l.before (256 * i + x) (omega (arith, s, k)) ∙ sym (depth_is t i x)
              ∙ v.laid.depths i x (omega (arith, s, v.count)) k
              ∙ ap (λ (Γ : NameDepths). Γ x)
              (sym (get_or-append v.found (depths_of g ∷ []) (λ _. 0) i (omega (arith, s, v.count))))

-- ---- main

module _ (O : List ℤ) (d : ℕ) where
  pub main_count : (first_at O 0 ≡ 2 → ⊥) → is_main d (signature_at O 0) ≡ false
  unfolding signature_at
  main_count h = go (first_at O 0) h
    where
      go : (n : ℕ) → (n ≡ 2 → ⊥) → (same (depths_from O n 1) (d ∷ 1 ∷ []) && eqb (second_at O 0) d) ≡ false
      go n h = ap (λ (b : Bool). b && eqb (second_at O 0) d) (sym (counts_differ (depths_from O n 1) (d ∷ 1 ∷ [])
          (λ e. h (sym (depths_length O n 1) ∙ e))))

  pub main_depths : first_at O 0 ≡ 2 →
      is_main d (signature_at O 0) ≡
      ((eqb (second_at O 1) d && (eqb (second_at O 2) 1 && true)) && eqb (second_at O 0) d)
  unfolding signature_at depths_from
  main_depths e = rw e refl

-- the laws of main's shape
pub ruleset main_laws = (main_count, main_depths)

module _ (K : List ℕ) (O : List ℤ) (st : List ℕ) (d n : ℕ) (t : List ℕ) where
  pub code_stops : is_main d (signature_at O 0) ≡ false → Told (code_fits K O st d n) (faulty 0) t t
  unfolding code_fits
  code_stops e = record {
    says = subst (λ (o : Outcome ℕ (List NameDepths)). Says t (faulty 0) o) (sym (rw e refl)) (at_fault _);
    kept = record { behind = λ j h. refl; long = refl };
  }

  pub code_goes : is_main d (signature_at O 0) ≡ true → code_fits K O st d n ≡ functions_fit K O st n 0
  unfolding code_fits
  code_goes e = rw e refl
