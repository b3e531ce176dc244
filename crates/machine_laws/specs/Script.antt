-- The delivery over positions, on the code of an accepted script, is the delivery of the definitions.
use Rattle.std.specs.Prelude.{ℕ, ◌≤◌, ◌+◌, ◌<◌, suc, zero, ◌*◌, ◌%◌, true, ◌≡◌, refl, List, [], ◌∷◌, ◌++◌, map, ℤ}
use Rattle.std.specs.Prelude.{pos, length, get_or, take}
use Rattle.prelude.specs.Kit.{arith, ◌∙◌, sym, ap, subst, append_assoc, length-append, length-map, get_or-append_seam}
use Rattle.discipline.proofs.machine.Size.{function_within}
use Rattle.soundness.proofs.Delivering.{levels_bounded}
use Rattle.semantics.specs.Syntax.{Parameter, Function, Script, function_at, no_function, main_depth}
use Rattle.semantics.specs.Code.{Row, rows}
use Rattle.semantics.specs.Borrow.{Table, borrowed}
use Rattle.semantics.specs.Annotate.{depths_of, annotated_body, parameter_rows, function_rows, functions_rows, code}
use Rattle.semantics.specs.Calls.{judged, accepted, request_fits}
use Rattle.semantics.specs.Words.{store_of}
use Rattle.semantics.specs.Sound.{sound_words}
use Rattle.semantics.specs.Machine.{Routine, program_in, program, routine_of, delivered}
use Rattle.semantics.specs.Basics.{tabulate}
use Rattle.soundness.proofs.annotation.Reader.{AllOf, FunctionLimits}
use Rattle.soundness.proofs.annotation.Accepting.{Clean, judged_clean, functions_disciplined, main_shape_of}
use Rattle.laws.specs.Routines.{length_routines, routine_is}
use Rattle.machine_code.specs.Reading.{low_bits, depth_in, start_in}
use Rattle.machine_spec.specs.Machine as M
use Rattle.machine_spec.specs.Machine.{Code, names_in, tree_in}
use Rattle.machine_spec.specs.Delivery.{delivered_on}
use Rattle.machine_code.specs.Rows.{At, NamesAt, at_cut, at_whole, rows_some}
use Rattle.machine_laws.specs.Ends.{Jumps}
use Rattle.machine_laws.specs.Functions.{joined, head_of, AllSome, joined_at, FunctionAt, function_at_rows}
use Rattle.machine_laws.specs.Calls.{FunctionStands}
use Rattle.machine_laws.specs.Delivery.{delivered_same}

-- ---- where the functions stand

-- the rows of each of some functions, the first of which has number f
unfoldable pub script_rows : Script → Table → ℕ → List Function → List (List Row)
script_rows fs T f [] = []
script_rows fs T f (g ∷ gs) = function_rows fs T f g ∷ script_rows fs T (suc f) gs

module _ (fs : Script) (T : Table) where
  pub script_joined : (f : ℕ) (gs : List Function) → functions_rows fs T f gs ≡ joined (script_rows fs T f gs)
  unfolding functions_rows script_rows joined
  script_joined f [] = refl
  script_joined f (g ∷ gs) = ap (λ (rs : List Row). function_rows fs T f g ++ rs) (script_joined (suc f) gs)

  pub script_many : (f : ℕ) (gs : List Function) → length (script_rows fs T f gs) ≡ length gs
  unfolding script_rows
  script_many f [] = refl
  script_many f (g ∷ gs) = ap suc (script_many (suc f) gs)

  pub script_some : (f : ℕ) (gs : List Function) → AllSome (script_rows fs T f gs)
  unfolding script_rows function_rows
  script_some f [] = tt
  script_some f (g ∷ gs) = (omega arith, script_some (suc f) gs)

  script_each : (f : ℕ) (gs : List Function) (g : ℕ) → g < length gs →
      get_or (script_rows fs T f gs) g [] ≡ function_rows fs T (f + g) (get_or gs g no_function)
  unfolding script_rows
  script_each f [] g l = absurd (omega arith)
  script_each f (k ∷ gs) zero l = ap (λ (n : ℕ). function_rows fs T n k) (let z : f ≡ f + 0 = omega arith in z)
  script_each f (k ∷ gs) (suc g) l =
      script_each (suc f) gs g (omega arith)
      ∙ ap (λ (n : ℕ). function_rows fs T n (get_or gs g no_function))
      (let z : suc f + g ≡ f + suc g = omega arith in z)

length_parameters : (xs : List Parameter) (n : ℕ) → length (parameter_rows xs n) ≡ length xs
unfolding parameter_rows
length_parameters [] n = refl
length_parameters (x ∷ xs) n = ap suc (length_parameters xs (suc n))

-- ---- a function's line, the lines of its parameters, and its tree

parameters_named : (kinds : List ℕ) (operands : List ℤ) (xs : List Parameter) (n at : ℕ) → n + length xs ≤ 256 →
    At kinds operands at (parameter_rows xs n) → NamesAt operands at (tabulate n (length xs) (λ i. i))
unfolding parameter_rows tabulate
parameters_named kinds operands [] n at l h = tt
parameters_named kinds operands (x ∷ xs) n at l h = (
  ap (λ (z : ℤ). low_bits z % 256) h.0.operand
      ∙ (let z : (n + 256 * x.depth) % 16777216 % 256 ≡ n = omega (arith, l) in z),
  parameters_named kinds operands xs (suc n) (at + 1) (omega (arith, l)) h.1,
)

script_function : (kinds : List ℕ) (operands : List ℤ) (fs : Script) (T : Table) (f : ℕ) (k : Function) (p : ℕ) →
    length k.parameters ≤ 8 → At kinds operands p (function_rows fs T f k) →
    FunctionAt kinds operands p (length k.parameters) (tabulate 0 (length k.parameters) (λ i. i))
    (annotated_body fs T f k)
unfolding function_rows
script_function kinds operands fs T f k p few h =
    let xs = k.parameters in
    function_at_rows kinds operands p (length xs) k.result (tabulate 0 (length xs) (λ i. i)) (parameter_rows xs 0)
    (annotated_body fs T f k) few (length_parameters xs 0)
    (parameters_named kinds operands xs 0 (p + 1) (omega (arith, few))) h

-- rows written at the front of two lists stand there
pub front_written : (rs : List Row) (ks ps : List ℕ) (os qs : List ℤ) → length ps ≡ length qs →
    At (ps ++ (map (λ r. r.kind) rs ++ ks)) (qs ++ (map (λ r. r.operand) rs ++ os)) (length ps) rs
front_written [] ks ps os qs e = tt
front_written (r ∷ rs) ks ps os qs e = (
  record {
    kind = get_or-append_seam ps r.kind (map (λ x. x.kind) rs ++ ks) 0;
    operand = ap (λ (n : ℕ). get_or (qs ++ (r.operand ∷ (map (λ x. x.operand) rs ++ os))) n (pos 0)) e
        ∙ get_or-append_seam qs r.operand (map (λ x. x.operand) rs ++ os) (pos 0);
    within = omega (arith, length-append ps (r.kind ∷ (map (λ x. x.kind) rs ++ ks)));
    held = omega (arith, e, length-append qs (r.operand ∷ (map (λ x. x.operand) rs ++ os)));
  },
  let z : length (ps ++ (r.kind ∷ [])) ≡ length ps + 1 = omega (arith, length-append ps (r.kind ∷ [])) in
      let y : length (ps ++ (r.kind ∷ [])) ≡ length (qs ++ (r.operand ∷ [])) =
      omega (arith, z, e, length-append qs (r.operand ∷ [])) in
      subst (λ (n : ℕ). At (ps ++ (r.kind ∷ (map (λ x. x.kind) rs ++ ks))) (qs ++ (r.operand ∷ (map (λ x. x.operand) rs ++ os))) n rs) z
      (subst (λ (l : List ℕ). At l (qs ++ (r.operand ∷ (map (λ x. x.operand) rs ++ os))) (length (ps ++ (r.kind ∷
      []))) rs)
      (append_assoc ps (r.kind ∷ []) (map (λ x. x.kind) rs ++ ks))
      (subst (λ (l : List ℤ). At ((ps ++ (r.kind ∷ [])) ++ (map (λ x. x.kind) rs ++ ks)) l (length (ps ++ (r.kind
      ∷
      []))) rs)
      (append_assoc qs (r.operand ∷ []) (map (λ x. x.operand) rs ++ os))
      (front_written rs ks (ps ++ (r.kind ∷ [])) os (qs ++ (r.operand ∷ [])) y))),
)

-- ---- an accepted script

-- the code arrays hold the code of a script, and the table its functions and the positions after its trees
pub record Coded (fs : Script) (c : Code) : Type 0 where
  pub written : At c.kinds c.operands 0 (code fs)
  pub short : length (code fs) ≤ 4096
  pub starts : (g : ℕ) → g < length fs → start_in c.table g ≡ head_of (script_rows fs (borrowed fs) 0 fs) g
  pub depths : (g x : ℕ) → g < length fs → x < 256 → depth_in c.table g x ≡ depths_of fs (function_at fs g) x
  pub ends : Jumps c

-- the arrays may be cut behind the code
pub cut_coded : (fs : Script) (kinds : List ℕ) (operands : List ℤ) (table : List ℕ) (n : ℕ) → length (code fs) ≤ n →
    Coded fs (M.code kinds operands table) → Coded fs (M.code (take n kinds) (take n operands) table)
cut_coded fs kinds operands table n l h = record {
  written = at_cut kinds operands n 0 (code fs) (omega arith) h.written;
  short = h.short;
  starts = h.starts;
  depths = h.depths;
  ends = λ t p w. h.ends t p (at_whole kinds operands n p (rows t) w);
}

length_depths : (xs : List Parameter) → length (map (λ x. x.depth) xs) ≡ length xs
length_depths [] = refl
length_depths (x ∷ xs) = ap suc (length_depths xs)

few_parameters : (gs : List Function) (g : ℕ) → AllOf FunctionLimits gs → length (get_or gs g no_function).parameters
    ≤ 8
few_parameters [] g h = omega arith
few_parameters (f ∷ gs) zero h = h.0.parameters
few_parameters (f ∷ gs) (suc g) h = few_parameters gs g h.1

-- the code of an accepted script has rows, those of main among them
pub code_some : (file : List ℕ) (fs : Script) → judged file ≡ accepted fs → 0 < length (code fs)
unfolding code
code_some file fs ok =
    let T = borrowed fs in
    omega (
      arith,
      rows_some (annotated_body fs T (0 + 0) (get_or fs 0 no_function)),
      function_within fs T 0 fs 0 (omega (arith, (judged_clean file fs ok).limits.0)),
    )

module _ (file : List ℕ) (fs : Script) (ok : judged file ≡ accepted fs) (few : length fs ≤ 32) where
  clean : Clean fs
  clean = judged_clean file fs ok

  pub stands : (c : Code) → Coded fs c → (f : ℕ) → f < length (program fs).routines → FunctionStands (program fs) c f
  unfolding code program_in
  stands c held f l =
      let T = borrowed fs in
      let h : f < length fs = omega (arith, l, length_routines fs) in
      let d = functions_disciplined file fs ok f in
      let is = sym (routine_is fs f h) in
      let same : 0 + f ≡ f = omega arith in
      let g = function_at fs f in
      let eight = few_parameters fs f clean.limits.1 in
      let each = script_rows fs T 0 fs in
      let w = script_function c.kinds c.operands fs T f g (start_in c.table f) eight
      (subst (λ (rs : List Row). At c.kinds c.operands (start_in c.table f) rs)
      (script_each fs T 0 fs f h ∙ ap (λ (n : ℕ). function_rows fs T n g) same)
      (subst (λ (q : ℕ). At c.kinds c.operands q (get_or each f []))
      (let z : 0 + head_of each f ≡ start_in c.table f = omega (arith, held.starts f h) in z)
      (joined_at c.kinds c.operands each 0 f []
      (subst (λ (rs : List Row). At c.kinds c.operands 0 rs) (script_joined fs T 0 fs) held.written)
      (omega (arith, h, script_many fs T 0 fs))))) in
      record {
        fitting = d.fits;
        arity = sym (length-map (routine_of (program fs) f).names (routine_of (program fs) f).depths)
            ∙ ap length d.parameters;
        counted = w.counted ∙ sym (length_depths g.parameters);
        named = subst (λ (r : Routine). NamesAt c.operands (names_in c f) r.names) is w.named;
        new = d.new;
        scoped = d.scoped;
        written = subst (λ (r : Routine). At c.kinds c.operands (tree_in c f) (rows r.tree)) is
            (subst (λ (n : ℕ). At c.kinds c.operands (names_in c f + n) (rows (annotated_body fs T f g)))
            (sym w.counted) w.tree);
        short = subst (λ (r : Routine). length (rows r.tree) ≤ 4096) is
            (subst (λ (n : ℕ). length (rows (annotated_body fs T n (function_at fs f))) ≤ 4096) same
            (let z : length (rows (annotated_body fs T (0 + f) (function_at fs f))) ≤ 4096 =
            omega (arith, function_within fs T 0 fs f h, held.short) in z));
        depths = λ x g. held.depths f x h g ∙ ap (λ (r : Routine). r.depths x) is;
        few = omega (arith, length_depths (function_at fs f).parameters, eight);
      }

  -- the delivery of an accepted script on a sound store
  pub deliver_accepted : (c : Code) → Coded fs c → (readings : List ℤ) (budget : ℕ) (slots : List ℤ) (heads : List ℕ) →
      sound_words (main_depth fs) slots heads ≡ true → request_fits readings budget ≡ true →
      delivered_on c readings (main_depth fs) budget (store_of slots heads)
      ≡ delivered (program fs) readings budget (store_of slots heads)
  unfolding program_in
  deliver_accepted c held readings budget slots heads sound request =
      delivered_same (program fs) (omega (arith, few, length_routines fs)) c
      (omega (arith, clean.limits.0, length_routines fs))
      (sym (ap (λ s. length s.parameters) (main_shape_of file fs ok).0)) (stands c held) held.ends readings
      budget (store_of slots heads)
      (levels_bounded file fs ok held.short slots heads sound readings budget request)

-- what `code_kinds` and `code_operands` leave in the arrays
pub code_written : (fs : Script) (ks : List ℕ) (os : List ℤ) →
    At (map (λ r. r.kind) (code fs) ++ ks) (map (λ r. r.operand) (code fs) ++ os) 0 (code fs)
code_written fs ks os = front_written (code fs) ks [] os [] refl
