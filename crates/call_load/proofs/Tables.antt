-- The table of a loaded script is what the machine needs.
use Rattle.prelude.specs.Kit.{ℕ, ◌≤◌, ◌+◌, ◌<◌, ◌-◌, suc, zero, ◌*◌, arith, true, false, Bool, cond, ◌≡◌, refl, ◌∙◌}
use Rattle.prelude.specs.Kit.{sym, ap, subst, ap₂, List, [], ◌∷◌, ◌++◌, map, ℤ, pos, length, get_or, replicate, drop}
use Rattle.prelude.specs.Kit.{length-append, length-map, length-drop, drop-cons, leb-true}
use Rattle.semantics.specs.Outcome.{Outcome, done, stop}
use Rattle.semantics.specs.Syntax.{Script}
use Rattle.semantics.specs.File.{at_function, script}
use Rattle.semantics.specs.Code.{Row}
use Rattle.semantics.specs.Borrow.{Table, borrowed}
use Rattle.semantics.specs.Annotate.{function_rows, functions_rows, code}
use Rattle.semantics.specs.Calls as C
use Rattle.semantics.specs.Calls.{packed, admitted, room, code_fits, code_kinds, code_operands}
use Rattle.script_read.specs.Told.{high_at}
use Rattle.script_read.proofs.Written.{script_written}
use Rattle.script.specs.Verdicts.{JudgedAs}
use Rattle.script.proofs.Whole.{kinds_of, operands_of}
use Rattle.script_laws.specs.Admitted.{no_script, admitted_judged}
use Rattle.machine_code.specs.Reading.{table_bytes, depth_in, start_in}
use Rattle.machine_spec.specs.Machine as M
use Rattle.machine_code.specs.Rows.{At}
use Rattle.machine_table.specs.Positions.{ends_from, starts_from, filled}
use Rattle.machine_table.proofs.Filling.{filled_long}
use Rattle.machine_laws.specs.Script.{script_rows, script_joined, script_many, script_some, Coded, code_written}
use Rattle.machine_laws.specs.Functions.{joined, head_of}
use Rattle.machine_laws.specs.Ends.{Jumps, Roomy, ends_below, ends_long, tree_ends}
use Rattle.machine_laws.specs.Starts.{starts_below, starts_ends, Begin, starts_stand}
use Rattle.translate_script.specs.Depths.{DepthsFrom, Depths_by}
use Rattle.translate_script.specs.Places.{PlacesFrom, Places_by}
use Rattle.translate.specs.Left.{left_of, Leaves}
use Rattle.std.specs.Prelude.{Err}
use Rattle.call_load.specs.Loading.{LoadsWith}
use Rattle.call_load.proofs.Laws.{AcceptedFile, accepted_file, file_taken, script_reads, ready, refused_so}
use Rattle.call_load.proofs.Laws.{loads_laid, loads_refusal}

zeros_past : (xs : List ℕ) (k q : ℕ) → length xs ≤ q → get_or (xs ++ replicate k 0) q 0 ≡ 0
zeros_past [] zero q h = refl
zeros_past [] (suc k) zero h = refl
zeros_past [] (suc k) (suc q) h = zeros_past [] k q (omega arith)
zeros_past (x ∷ xs) k zero h = absurd (omega arith)
zeros_past (x ∷ xs) k (suc q) h = zeros_past xs k q (omega arith)

-- an accepted file is admitted just where its code fits
module _ {file : List ℕ} {f n : ℕ} (a : AcceptedFile file f n) where
  pub admitted_so : (lines : ℕ) (fs : Script) → admitted file lines ≡ C.accepted fs →
      (fs ≡ a.tree) × (code_fits a.tree lines ≡ true)
  unfolding admitted
  admitted_so lines fs e = by (code_fits a.tree lines) refl (rw a.judged_so at e)
    where
      by : (t : Bool) → code_fits a.tree lines ≡ t → cond t (C.accepted a.tree) (C.refused 9 0) ≡ C.accepted fs →
          (fs ≡ a.tree) × (code_fits a.tree lines ≡ true)
      by true q g = (let z : fs ≡ a.tree = cc in z, q)
      by false q g = absurd (let z : ◌≡◌ {A = ℕ} 0 1 = cc in omega arith)

  functions_are : length a.tree ≡ f
  functions_are = (rw (script_reads a) at (script_written (kinds_of file n) (operands_of file n) f 0)).1

  -- the code, the positions of the functions and the depths of their names
  module _ (kinds : List ℕ) (operands : List ℤ) (fits : code_fits a.tree (room kinds operands) ≡ true) where
    abbrev fs : Script
    fs = a.tree

    abbrev T : Table
    T = borrowed fs

    abbrev ks : List ℕ
    ks = code_kinds fs kinds

    abbrev os : List ℤ
    os = code_operands fs operands

    few : length fs ≤ 32
    few = omega (arith, functions_are, (file_taken a).readable.few)

    short : length (code fs) ≤ 4096
    unfolding code_fits
    short = omega (arith, leb-true (length (code fs)) (room kinds operands) fits)

    written : At ks os 0 (code fs)
    written = code_written fs (replicate (length kinds - length (code fs)) 0)
        (replicate (length operands - length (code fs)) (pos 0))

    within : length (code fs) ≤ length ks
    within = omega (
      arith,
      length-append (map (λ r. r.kind) (code fs)) (replicate (length kinds - length (code fs)) 0),
      length-map (code fs) (λ (r : Row). r.kind),
    )

    -- no row behind the code
    past : (q : ℕ) → length (code fs) ≤ q → get_or ks q 0 ≡ 0
    past q h = zeros_past (map (λ r. r.kind) (code fs)) (length kinds - length (code fs)) q
        (omega (arith, h, length-map (code fs) (λ (r : Row). r.kind)))

    jumping : (table : List ℕ) → Roomy table → Jumps (M.code ks os (ends_from (length (code fs)) ks table))
    jumping table long = tree_ends ks os (length (code fs)) short past table long

    -- where the table of starts has the places of the functions
    module _ {starts places : List ℕ} (placed : PlacesFrom 0 fs (room kinds operands + 1) starts places) where
      -- each of the functions from number f on begins where the rows of those before it end
      begins : (gs : Script) (f p : ℕ) → drop f fs ≡ gs → p + length (functions_rows fs T f gs) ≡ length (code fs) →
          Begin places (script_rows fs T f gs) f p
      unfolding functions_rows script_rows code code_fits
      begins [] f p d e = tt
      begins (k ∷ gs) f p d e = (
        omega (
          arith,
          e,
          leb-true (length (code fs)) (room kinds operands) fits,
          placed.there 0 (omega arith) (omega (arith, there)),
          ap (λ (l : Script). length (functions_rows fs T f l)) d,
          placed.there f (omega arith) there,
        ),
        begins gs (suc f) (p + length (function_rows fs T f k)) (ap (drop 1) (sym (drop-cons fs f k there) ∙ d))
            (omega (arith, e, length-append (function_rows fs T f k) (functions_rows fs T (suc f) gs))),
      )
        where
          there : f < length fs
          there = omega (arith, ap length d, length-drop f fs)

      stand : (table : List ℕ) → Roomy table → (g : ℕ) → g < length fs →
          start_in (starts_from (length fs) ks places 0 table) g ≡ head_of (script_rows fs T 0 fs) g
      unfolding code
      stand table long g l =
          let rss = script_rows fs T 0 fs in
          let as_many = script_many fs T 0 fs in
          let rows_as_many : length (code fs) ≡ length (joined rss) = ap length (script_joined fs T 0 fs) in
          ap₂ (λ (m : ℕ) (n : ℕ). start_in (starts_from m ks places 0 table) n) (sym as_many)
          (let z : g ≡ 0 + g = omega arith in z)
          ∙ starts_stand ks places rss 0 0 table long (omega (arith, few, as_many))
          (omega (arith, within, rows_as_many)) (omega (arith, short, rows_as_many)) (script_some fs T 0 fs)
          (begins fs 0 0 refl (omega arith)) g (omega (arith, l, as_many))
          ∙ (let z : 0 + head_of rss g ≡ head_of rss g = omega arith in z)

      -- the table after the pass over the rows and the one over the functions
      passed : {table table' : List ℕ} → DepthsFrom 0 fs table table' → Roomy table' → Roomy table →
          Coded fs (M.code ks os (starts_from f ks places 0 (ends_from (length (code fs)) ks table')))
      unfolding depth_in
      passed {table} {table'} h long long₀ =
          let ends = ends_from (length (code fs)) ks table' in
          record {
            written = written;
            short = short;
            starts = λ g l. subst (λ (m : ℕ). start_in (starts_from m ks places 0 ends) g
                ≡ head_of (script_rows fs T 0 fs) g) functions_are
                (stand ends (omega (arith, long, ends_long ks (length (code fs)) table')) g l);
            depths = λ g x l m. starts_below ks places f 0 ends (256 * g + x) (omega (arith, few))
                ∙ ends_below ks (length (code fs)) table' (256 * g + x) (omega (arith, few))
                ∙ h.there g x (omega arith) l m (omega (arith, few, long₀));
            ends = λ t q w. starts_ends ks places f 0 ends q (omega (arith, few, functions_are))
                ∙ jumping table' long t q w;
          }

      pub coded_so : {table table' : List ℕ} → DepthsFrom 0 fs table table' → Roomy table →
          (length fs ≤ 32) × Coded fs (M.code ks os (filled f (length (code fs)) ks places table'))
      coded_so {table} {table'} h long =
          let long' : Roomy table' = omega (arith, h.long, long) in (
            few,
            subst (λ (t : List ℕ). Coded fs (M.code ks os t))
                (filled_long f (length (code fs)) ks places table' long' _ _ refl refl) (passed h long' long),
          )

-- ---- the ways out of loading

-- the table after the translator's answer
abbrev pub table_after : ℕ → List ℕ → List ℕ → Outcome (Unit {0}) ℕ → List ℕ → List ℕ
table_after f kinds places (done m u) table = filled f m kinds places table
table_after f kinds places (stop n u) table = table

-- the code that the translator left is within its array
pub laid_within : {file : List ℕ} {f n : ℕ} (a : AcceptedFile file f n) (kinds kinds' : List ℕ)
    (operands operands' : List ℤ) (r : Outcome (Unit {0}) ℕ) (m : ℕ) → r ≡ done m tt →
    Leaves (script (kinds_of file n) (operands_of file n) f 0) kinds operands
    (record { answer = r; kinds = kinds'; operands = operands' }) → (m ≤ length kinds') × (m ≤ 4096)
unfolding left_of code_fits
laid_within {file} {f} {n} a kinds kinds' operands operands' r m is left =
    by (code_fits fs (room kinds operands)) refl (rw (script_reads a) at left)
  where
    fs : Script
    fs = a.tree

    by : (t : Bool) → code_fits fs (room kinds operands) ≡ t →
        record { answer = r; kinds = kinds'; operands = operands' } ≡ left_of fs kinds operands →
        (m ≤ length kinds') × (m ≤ 4096)
    by true q g =
        let s = rw q at g in
        let lines : m ≡ length (code fs) = let z = sym is ∙ ap (λ x. x.answer) s in cc in
        let fits = leb-true (length (code fs)) (room kinds operands) q in (
          omega (
            arith,
            lines,
            ap (λ x. length x.kinds) s,
            length-append (map (λ (r : Row). r.kind) (code fs)) (replicate (length kinds - length (code fs)) 0),
            length-map (code fs) (λ (r : Row). r.kind),
          ),
          omega (arith, lines, fits),
        )
    by false q g =
        let s = rw q at g in
        let z = sym is ∙ ap (λ x. x.answer) s in
        let no : ◌≡◌ {A = ℕ} 0 1 = cc in absurd (omega arith)

module _ {file kinds : List ℕ} {operands : List ℤ} {table kinds' : List ℕ} {operands' : List ℤ} where
  -- what the translator leaves
  pub loads_with_laid : {f n : ℕ} (r : Outcome (Unit {0}) ℕ) (d : ℕ) (table' starts places : List ℕ) →
      JudgedAs file (done f n) →
      d ≡ high_at (kinds_of file n) (operands_of file n) at_function 0 →
      Leaves (script (kinds_of file n) (operands_of file n) f 0) kinds operands
      (record { answer = r; kinds = kinds'; operands = operands' }) →
      Depths_by (script (kinds_of file n) (operands_of file n) f 0) table table' →
      Places_by (script (kinds_of file n) (operands_of file n) f 0) (room kinds operands + 1) starts places →
      LoadsWith file kinds operands table (ready d r) kinds' operands' (table_after f kinds' places r table')
  unfolding left_of
  loads_with_laid {f} {n} r d table' starts places j e left deep placed = record {
    loads = loads_laid r d j e left;
    coded = λ fs g long. by fs (admitted_so a (room kinds operands) fs g) (rw (script_reads a) at left)
        (rw (script_reads a) at deep) (rw (script_reads a) at placed) long;
  }
    where
      a : AcceptedFile file f n
      a = accepted_file file f n j

      by : (gs : Script) → (gs ≡ a.tree) × (code_fits a.tree (room kinds operands) ≡ true) →
          record { answer = r; kinds = kinds'; operands = operands' } ≡ left_of a.tree kinds operands →
          DepthsFrom 0 a.tree table table' → PlacesFrom 0 a.tree (room kinds operands + 1) starts places →
          table_bytes ≤ length table →
          (length gs ≤ 32) × Coded gs (M.code kinds' operands' (table_after f kinds' places r table'))
      by gs g l h placed long =
          let s = rw g.1 at l in
          rw (g.0, ap (λ x. x.answer) s, ap (λ x. x.kinds) s, ap (λ x. x.operands) s)
          (coded_so a kinds operands g.1 placed h long)

  pub loads_with_refusal : {n p m : ℕ} → JudgedAs file (stop n p) → m ≡ packed n p 0 0 →
      kinds' ≡ replicate (length kinds) 0 → operands' ≡ replicate (length operands) (pos 0) →
      LoadsWith file kinds operands table (Err m) kinds' operands' table
  unfolding admitted
  loads_with_refusal {n} {p} j e k o = record {
    loads = loads_refusal j e k o;
    coded = λ fs g long. no_script n p fs (rw (refused_so file j) at (admitted_judged fs file (room kinds operands) g));
  }
