-- Lent code that passes the check, with the table of its functions: a delivery over positions is that of its program.
use Rattle.std.specs.Prelude.{ℕ, ◌+◌, ◌<◌, suc, zero, ◌*◌, ◌%◌, true, ◌≡◌, refl, List, [], ◌∷◌, ◌++◌, map, ℤ, length}
use Rattle.std.specs.Prelude.{get_or}
use Rattle.prelude.specs.Kit.{arith, ◌∙◌, sym, ap, subst, length-map, get_or-map}
use Rattle.semantics.specs.Outcome.{done}
use Rattle.semantics.specs.Syntax.{Parameter}
use Rattle.semantics.specs.Types.{Signature}
use Rattle.semantics.specs.Code.{Row, rows}
use Rattle.semantics.specs.Annotate.{NameDepths}
use Rattle.semantics.specs.Borrow.{Table}
use Rattle.semantics.specs.Store.{cell_count, free_cells}
use Rattle.semantics.specs.Words.{store_of}
use Rattle.semantics.specs.Sound.{sound_words}
use Rattle.semantics.specs.Calls.{request_fits}
use Rattle.semantics.specs.Machine.{Routine, no_routine, Program, delivery, starting, delivered, state_of}
use Rattle.semantics_lent.specs.Form.{Lent}
use Rattle.semantics_lent.specs.Fit.{no_lent}
use Rattle.semantics_lent.specs.Calls.{lent_routines, lent_program, judged_code}
use Rattle.laws.specs.Levels.{LevelsUpTo, up_to_more}
use Rattle.discipline.proofs.store.LowestLevel.{free_cells_listed}
use Rattle.discipline.proofs.machine.Delivery.{delivers_clean}
use Rattle.soundness.proofs.Settled.{sound_settles}
use Rattle.lent_soundness.specs.Accepted.{LentFits, Passed, passed, accepted_sound}
use Rattle.lent_passing.specs.Functions.{parameter_row, lent_function, lent_code, ParametersFormed}
use Rattle.lent_passing.specs.SaidFunctions.{Lined, AllLined, form_said}
use Rattle.lent_passing.specs.Accepts.{fits_say}
use Rattle.machine_code.specs.Reading.{low_bits, depth_in, start_in}
use Rattle.machine_spec.specs.Machine.{Code, names_in, tree_in}
use Rattle.machine_spec.specs.Delivery.{delivered_on}
use Rattle.machine_code.specs.Rows.{At, NamesAt}
use Rattle.machine_laws.specs.Ends.{Jumps}
use Rattle.machine_laws.specs.Functions.{joined, head_of, joined_at, function_at_rows}
use Rattle.machine_laws.specs.Calls.{FunctionStands}
use Rattle.machine_laws.specs.Delivery.{delivered_same}

-- ---- where the functions stand

abbrev pub lent_head : List Lent → ℕ → ℕ
lent_head gs g = head_of (map lent_function gs) g

pub lent_joined : (gs : List Lent) → lent_code gs ≡ joined (map lent_function gs)
unfolding lent_code joined
lent_joined [] = refl
lent_joined (g ∷ gs) = ap (λ (rs : List Row). lent_function g ++ rs) (lent_joined gs)

-- the code arrays hold lent functions, and the table has the positions of their lines, the depths of their names and
-- the positions after trees
pub record LentCoded (gs : List Lent) (Γs : List NameDepths) (c : Code) : Type 0 where
  pub written : At c.kinds c.operands 0 (lent_code gs)
  pub starts : (g : ℕ) → g < length gs → start_in c.table g ≡ lent_head gs g
  pub depths : (g x : ℕ) → g < length gs → x < 256 → depth_in c.table g x ≡ get_or Γs g (λ _. 0) x
  pub ends : Jumps c

-- ---- a function's line, the lines of its parameters, and its tree

parameters_named : (kinds : List ℕ) (operands : List ℤ) (xs : List Parameter) (at : ℕ) → ParametersFormed xs →
    At kinds operands at (map parameter_row xs) → NamesAt operands at (map (λ x. x.id) xs)
parameters_named kinds operands [] at f h = tt
parameters_named kinds operands (x ∷ xs) at f h = (
  ap (λ (z : ℤ). low_bits z % 256) h.0.operand
      ∙ (let z : (x.id + 256 * x.depth) % 16777216 % 256 ≡ x.id = omega (arith, f.0.0) in z),
  parameters_named kinds operands xs (at + 1) f.1 h.1,
)

lined_at : (n : ℕ) (gs : List Lent) (g : ℕ) → AllLined n gs → g < length gs → Lined n (get_or gs g no_lent)
lined_at n [] g a l = absurd (omega arith)
lined_at n (k ∷ gs) zero a l = a.0
lined_at n (k ∷ gs) (suc g) a l = lined_at n gs g a.1 (omega arith)

-- the routine of a number
lent_routine : (gs : List Lent) (Γs : List NameDepths) (g : ℕ) → length (lent_routines gs Γs) ≡ length gs →
    g < length gs →
    record {
      names = map (λ x. x.id) (get_or gs g no_lent).parameters;
      tree = (get_or gs g no_lent).tree;
      depths = get_or Γs g (λ _. 0);
    } ≡ get_or (lent_routines gs Γs) g no_routine
unfolding lent_routines
lent_routine [] Γs g m l = absurd (omega arith)
lent_routine (k ∷ gs) [] g m l = absurd (omega (arith, m))
lent_routine (k ∷ gs) (Γ ∷ Γs) zero m l = refl
lent_routine (k ∷ gs) (Γ ∷ Γs) (suc g) m l = lent_routine gs Γs g (omega (arith, m)) (omega arith)

module _ (d : ℕ) (gs : List Lent) (Γs : List NameDepths) (T : Table) (fits : LentFits d gs Γs)
    (lined : AllLined (length gs) gs) (c : Code) (held : LentCoded gs Γs c) where
  pub lent_stands : (g : ℕ) → g < length (lent_routines gs Γs) → FunctionStands (lent_program d gs Γs T) c g
  lent_stands g l =
      let h : g < length gs = omega (arith, l, fits.many) in
      let k = get_or gs g no_lent in
      let xs = k.parameters in
      let f = fits.functions T g h in
      let is = lent_routine gs Γs g fits.many h in
      let r = get_or (lent_routines gs Γs) g no_routine in
      let line = lined_at (length gs) gs g lined h in
      let p = start_in c.table g in
      let w = function_at_rows c.kinds c.operands p (length xs) k.result (map (λ x. x.id) xs)
      (map parameter_row xs) k.tree line.few (length-map xs parameter_row)
      (parameters_named c.kinds c.operands xs (p + 1) line.parameters)
      (subst (λ (rs : List Row). At c.kinds c.operands p rs) (get_or-map lent_function gs g no_lent)
      (subst (λ (q : ℕ). At c.kinds c.operands q (get_or (map lent_function gs) g (lent_function no_lent)))
      (let z : 0 + lent_head gs g ≡ p = omega (arith, held.starts g h) in z)
      (joined_at c.kinds c.operands (map lent_function gs) 0 g (lent_function no_lent)
      (subst (λ (rs : List Row). At c.kinds c.operands 0 rs) (lent_joined gs) held.written)
      (omega (arith, h, length-map gs lent_function))))) in
      record {
        fitting = f.fits;
        arity = sym (length-map r.names r.depths) ∙ ap length f.parameters;
        counted = w.counted ∙ sym (length-map xs (λ x. x.depth));
        named = subst (λ (r : Routine). NamesAt c.operands (names_in c g) r.names) is w.named;
        new = f.new;
        scoped = f.scoped;
        written = subst (λ (r : Routine). At c.kinds c.operands (tree_in c g) (rows r.tree)) is
            (subst (λ (n : ℕ). At c.kinds c.operands (names_in c g + n) (rows k.tree)) (sym w.counted)
            w.tree);
        short = fits.short g h;
        depths = λ x m. held.depths g x h m ∙ ap (λ (r : Routine). r.depths x) is;
        few = omega (arith, length-map xs (λ x. x.depth), line.few);
      }

-- ---- a delivery by lent code that passes the check, on a sound store

module _ (kinds : List ℕ) (operands : List ℤ) (d : ℕ) (P : Program) (lines : ℕ)
    (ok : judged_code kinds operands d ≡ done P lines) where
  abbrev found : Passed kinds operands d P lines
  found = passed kinds operands d P lines ok

  fit_so : LentFits d found.functions found.depths
  fit_so = fits_say kinds operands d lines found.fitted_at found.functions found.depths found.formed
      found.fitted

  levels_bounded : (slots : List ℤ) (heads : List ℕ) → sound_words P.depth slots heads ≡ true →
      (readings : List ℤ) (budget : ℕ) → request_fits readings budget ≡ true →
      LevelsUpTo 256 (state_of (delivery P readings (starting budget (store_of slots heads)))).log
      (free_cells (store_of slots heads))
  levels_bounded slots heads sound readings budget asked =
      let σ = store_of slots heads in
      let settled = sound_settles P.depth slots heads sound in
      let holds = settled.rests.holds in
      let log = (state_of (delivery P readings (starting budget σ))).log in
      let levels = (delivers_clean (accepted_sound fits_say kinds operands d P lines ok settled readings budget asked)
      ).levels in
      up_to_more (cell_count σ) 256 log (free_cells σ) holds.few
      (subst (λ n. LevelsUpTo (cell_count σ) log n) (sym (free_cells_listed holds)) levels)

  -- the code arrays c may be the lent ones cut to the lines
  pub deliver_lent : (c : Code) → LentCoded found.functions found.depths c → (readings : List ℤ) (budget : ℕ)
      (slots : List ℤ) (heads : List ℕ) → sound_words P.depth slots heads ≡ true →
      request_fits readings budget ≡ true →
      delivered_on c readings P.depth budget (store_of slots heads)
      ≡ delivered P readings budget (store_of slots heads)
  deliver_lent c held readings budget slots heads sound asked =
      let s = form_said kinds operands found.functions lines found.formed in
      let Q = lent_program d found.functions found.depths found.table in
      let same : Q ≡ P = found.is in
      let σ = store_of slots heads in
      subst (λ (R : Program). LevelsUpTo 256 (state_of (delivery R readings (starting budget σ))).log (free_cells σ) →
      delivered_on c readings R.depth budget σ ≡ delivered R readings budget σ) same
      (delivered_same Q (omega (arith, fit_so.many, s.many)) c (omega (arith, fit_so.many, fit_so.some))
      (sym (ap (λ (g : Signature). length g.parameters) fit_so.main))
      (lent_stands d found.functions found.depths found.table fit_so s.lined c held) held.ends readings
      budget (store_of slots heads))
      (levels_bounded slots heads sound readings budget asked)
