-- One law for each way out of judging lent code.
use Rattle.prelude.specs.Kit.{ℕ, ◌≤◌, ◌+◌, ◌<◌, suc, min, arith, Bool, cond, ◌≡◌, refl, ◌∙◌}
use Rattle.prelude.specs.Kit.{sym, ap, subst, Option, List, [], ◌∷◌, map, ℤ, length, get_or, take, length-append}
use Rattle.prelude.specs.Kit.{length-take, length-take-le, length-map, true, false}
use Rattle.semantics.specs.Outcome.{Outcome, done, stop}
use Rattle.semantics.specs.Code as C
use Rattle.semantics.specs.Types.{Signature}
use Rattle.semantics.specs.Annotate.{NameDepths}
use Rattle.semantics.specs.Borrow.{Table, borrows}
use Rattle.semantics.specs.Machine.{Program}
use Rattle.semantics_lent.specs.Form.{Lent, form, lent_rows, code_length, paired}
use Rattle.semantics_lent.specs.Fit.{fit, no_lent}
use Rattle.semantics_lent.specs.Hold.{hold, lent_table}
use Rattle.semantics_lent.specs.Calls.{lent_routines, judged_form, judged_depths, judged_holds, judged_code}
use Rattle.lent_soundness.specs.Accepted.{passed}
use Rattle.lent_passing.specs.Functions.{parameter_row, lent_function, lent_code, FunctionsFormed}
use Rattle.lent_passing.specs.Arities.{arity}
use Rattle.lent_passing.specs.SaidFunctions.{Formable, form_said}
use Rattle.lent_passing.specs.Accepts.{fits_say}
use Rattle.machine_code.specs.Reading.{Cut, table_bytes}
use Rattle.machine_table.specs.Positions.{filled}
use Rattle.machine_spec.specs.Machine as M
use Rattle.std.specs.Prelude.{Result, Ok, Err}
use Rattle.lent_form.specs.declared.Fault.{Fault}
use Rattle.lent_form.specs.declared.Formed.{Formed}
use Rattle.lent_form.specs.Starts.{lent_size, start_of, Started, Started_by, numbered, Answers}
use Rattle.lent_fit.specs.Functions.{code_fits, Laid, Says, all_fit, at_fault, Told}
use Rattle.lent_fit_laws.specs.Places.{started_placed}
use Rattle.lent_fit_laws.specs.Whole.{stands, fit_told, form_cut, paired_length}
use Rattle.lent_table.specs.Rounds.{table_at}
use Rattle.lent_table_laws.specs.Whole.{table_same}
use Rattle.lent_atoms.specs.Told.{depths}
use Rattle.lent_hold.specs.Functions.{functions_at}
use Rattle.lent_hold.specs.Functions.{said as told}
use Rattle.lent_hold_laws.specs.Whole.{hold_told}
use Rattle.lent_machine_laws.specs.Stands.{LentCoded, deliver_lent}
use Rattle.lent_machine_laws.specs.Tables.{LentBegin, lent_coded}
use Rattle.lent_judge.specs.Judging.{lines_of, LinesFit, JudgesCode}

-- ---- what the walks told

-- the functions of code in form
pub record InForm (kinds : List ℕ) (operands : List ℤ) (lines functions : ℕ) (starts : List ℕ) : Type 0 where
  pub found : List Lent
  pub formed : form kinds operands ≡ done found lines
  pub many : functions ≡ length found
  pub started : Started found starts

module _ (kinds : List ℕ) (operands : List ℤ) {starts : List ℕ} where
  in_form : {f : Formed} → Answers (form kinds operands) (Ok f) starts →
      InForm kinds operands f.lines f.functions starts
  in_form {f} h = by (form kinds operands) refl h.is h.started
    where
      by : (o : Outcome ℕ (List Lent)) → form kinds operands ≡ o → done f.functions f.lines ≡ numbered o →
          Started_by o starts → InForm kinds operands f.lines f.functions starts
      by (done gs p) e g s =
          let same : p ≡ f.lines = cc in
          record { found = gs; formed = e ∙ ap (done gs) same; many = cc; started = s }
      by (stop n p) e g s = absurd (let z : ◌≡◌ {A = ℕ} 0 1 = cc in omega arith)

  not_in_form : {e : Fault} → Answers (form kinds operands) (Err e) starts → form kinds operands ≡ stop 29 e.line
  not_in_form {e} h = by (form kinds operands) h.is
    where
      by : (o : Outcome ℕ (List Lent)) → stop 29 e.line ≡ numbered o → o ≡ stop 29 e.line
      by (done gs p) g = absurd (let z : ◌≡◌ {A = ℕ} 0 1 = cc in omega arith)
      by (stop n p) g = cc

-- the depths of code that fits
pub record Fits (o : Outcome ℕ (List NameDepths)) (q : ℕ) (table : List ℕ) : Type 0 where
  pub depths : List NameDepths
  pub fitted : o ≡ done depths q
  pub laid : Laid table depths

fits_so : {o : Outcome ℕ (List NameDepths)} {q : ℕ} {table : List ℕ} → Says table (Ok q) o → Fits o q table
fits_so (all_fit Γs q laid) = record { depths = Γs; fitted = refl; laid = laid }

fits_not : {o : Outcome ℕ (List NameDepths)} {e : Fault} {table : List ℕ} → Says table (Err e) o → o ≡ stop 29 e.line
fits_not (at_fault e) = refl

-- ---- the ways out

-- main's result is of the stated depth, and a function's line has none above 4
first_result : (arities : List (Option ℕ)) (gs : List Lent) → 0 < length gs → FunctionsFormed arities gs →
    (get_or gs 0 no_lent).result ≤ 4
first_result arities [] some h = absurd (omega arith)
first_result arities (g ∷ gs) some h = h.0.result

shallow : (kinds : List ℕ) (operands : List ℤ) {d : ℕ} {gs : List Lent} {Γs : List NameDepths} {lines q : ℕ} →
    form kinds operands ≡ done gs lines → fit d gs ≡ done Γs q → d ≤ 4
shallow kinds operands {d} {gs} {Γs} {lines} {q} e f =
    let said = form_said kinds operands gs lines e in
    let main = (fits_say kinds operands d lines q gs Γs e f).main in
    omega (
      arith,
      first_result (map arity gs) gs said.some said.formed,
      ap (λ (s : Signature). s.result) main,
    )

-- a run does not both stop and end
apart : {A : Type 0} {B : Type 0} {a : A} {n p q : ℕ} → ◌≡◌ {A = Outcome ℕ A} (stop n p) (done a q) → B
apart e = absurd (let z : ◌≡◌ {A = ℕ} 0 1 = cc in let no : ⊥ = omega arith in no)

judged_so : (kinds : List ℕ) (operands : List ℤ) (d : ℕ) {gs : List Lent} {Γs : List NameDepths} {lines q : ℕ}
    {o : Outcome ℕ Table} → form kinds operands ≡ done gs lines → fit d gs ≡ done Γs q → hold gs Γs ≡ o →
    judged_code kinds operands d ≡ judged_holds lines d gs Γs o
unfolding judged_code
judged_so kinds operands d {gs} {Γs} {lines} e f h =
    ap (judged_form d) e ∙ ap (judged_depths lines d gs) f ∙ ap (judged_holds lines d gs Γs) h

module _ (kinds : List ℕ) (operands : List ℤ) (d : ℕ) (table table' : List ℕ) where
  refuses : {e : Fault} → judged_code kinds operands d ≡ stop 29 e.line → JudgesCode kinds operands d table (Err e) table'
  refuses e = record {
    is = ap lines_of (sym e);
    fit = λ P lines ok. apart (sym e ∙ ok);
    depth = λ P lines ok. apart (sym e ∙ ok);
    performs = λ P lines ok long. apart (sym e ∙ ok);
  }

  -- the first walk found a fault
  refuses_form : {e : Fault} → form kinds operands ≡ stop 29 e.line → JudgesCode kinds operands d table (Err e) table'
  unfolding judged_code
  refuses_form e = refuses (ap (judged_form d) e)

  -- the second
  refuses_fit : {gs : List Lent} {lines : ℕ} {e : Fault} → form kinds operands ≡ done gs lines →
      fit d gs ≡ stop 29 e.line → JudgesCode kinds operands d table (Err e) table'
  unfolding judged_code
  refuses_fit {gs} {lines} e f = refuses (ap (judged_form d) e ∙ ap (judged_depths lines d gs) f)

  module _ {gs : List Lent} {Γs : List NameDepths} {lines q : ℕ} (e : form kinds operands ≡ done gs lines)
      (f : fit d gs ≡ done Γs q) where
    -- the third
    refuses_hold : {w : Fault} → hold gs Γs ≡ stop 29 w.line → JudgesCode kinds operands d table (Err w) table'
    refuses_hold h = refuses (judged_so kinds operands d e f h)

    -- none: what was found is what passed
    passes : {T : Table} {p : ℕ} → hold gs Γs ≡ done T p → LinesFit kinds operands lines →
        (table_bytes ≤ length table → LentCoded gs Γs (M.code (take lines kinds) (take lines operands) table')) →
        JudgesCode kinds operands d table (Ok lines) table'
    passes {T} h fits coded = record {
      is = ap lines_of (sym (judged_so kinds operands d e f h));
      fit = λ P m ok. subst (LinesFit kinds operands) (lines_are P m ok) fits;
      depth = λ P m ok.
          (ap (λ (Q : Program). Q.depth) (passed kinds operands d P m ok).is, shallow kinds operands e f);
      performs = λ P m ok long. record { same = deliver_lent kinds operands d P m ok _ (held P m ok long) };
    }
      where
        lines_are : (P : Program) (m : ℕ) → judged_code kinds operands d ≡ done P m → lines ≡ m
        lines_are P m ok = let z = sym (judged_so kinds operands d e f h) ∙ ok in cc

        held : (P : Program) (m : ℕ) (ok : judged_code kinds operands d ≡ done P m) → table_bytes ≤ length table →
            let found = passed kinds operands d P m ok in
            LentCoded found.functions found.depths (M.code (take m kinds) (take m operands) table')
        held P m ok long =
            let found = passed kinds operands d P m ok in
            let functions : gs ≡ found.functions = let z = sym e ∙ found.formed in cc in
            let depths : Γs ≡ found.depths = let z = sym f ∙ ap (fit d) functions ∙ found.fitted in cc in
            subst (λ (n : ℕ). LentCoded found.functions found.depths
            (M.code (take n kinds) (take n operands) table')) (lines_are P m ok)
            (subst (λ (Δs : List NameDepths). LentCoded found.functions Δs
            (M.code (take lines kinds) (take lines operands) table')) depths
            (subst (λ (hs : List Lent). LentCoded hs Γs (M.code (take lines kinds) (take lines operands) table'))
            functions (coded long)))

-- ---- code in form

size_is : (g : Lent) → lent_size g ≡ length (lent_function g)
unfolding lent_size
size_is g = omega (
  arith,
  length-append (map parameter_row g.parameters) (C.rows g.tree),
  length-map g.parameters parameter_row,
)

-- the functions begin where the first walk found their lines
begins : (starts : List ℕ) → get_or starts 0 0 ≡ 0 → (gs : List Lent) (f p : ℕ) →
    ((j m : ℕ) → m ≡ f + j → j < length gs → get_or starts m 0 ≡ start_of gs p j) → LentBegin starts gs f p
begins starts first [] f p h = tt
begins starts first (g ∷ gs) f p h = (
  omega (arith, first, h 0 f (omega arith) (omega arith)),
  begins starts first gs (suc f) (p + length (lent_function g)) (λ j m e l.
      h (suc j) m (omega (arith, e)) (omega (arith, l)) ∙ ap (λ (n : ℕ). start_of gs (p + n) j) (size_is g)),
)

first_begins : (gs : List Lent) → 0 < length gs → start_of gs 0 0 ≡ 0
first_begins [] h = absurd (omega arith)
first_begins (g ∷ gs) h = refl

-- each function has its depths
all_deep : (gs : List Lent) (Γs : List NameDepths) → length (lent_routines gs Γs) ≡ length gs → length gs ≤ length Γs
unfolding lent_routines
all_deep [] Γs h = omega arith
all_deep (g ∷ gs) [] h = absurd (let z : ⊥ = omega (arith, h) in z)
all_deep (g ∷ gs) (Γ ∷ Γs) h = omega (arith, all_deep gs Γs (omega (arith, h)))

module _ {kinds : List ℕ} {operands : List ℤ} {lines functions : ℕ} {starts : List ℕ}
    (f : InForm kinds operands lines functions starts) where
  said : Formable kinds operands f.found lines
  said = form_said kinds operands f.found lines f.formed

  lines_fit : LinesFit kinds operands lines
  unfolding lent_rows
  lines_fit =
      let n = min 4096 (code_length kinds operands) in
      let count : lines ≡ min n (length (paired kinds operands)) =
      said.count ∙ sym (ap length said.rows) ∙ length-take n (paired kinds operands) in
      let within = paired_length kinds operands in
      record {
        kinds_long = omega (arith, count, within.0);
        operands_long = omega (arith, count, within.1);
        few = said.short;
        cut = form_cut kinds operands f.found lines f.formed;
      }

  few_functions : functions ≤ 32
  few_functions = omega (arith, f.many, said.many)

  -- what the second walk told
  fit_so : (d : ℕ) {r : Result ℕ Fault} {table table' : List ℕ} →
      Told (code_fits (take lines kinds) (take lines operands) starts d functions) r table table' →
      Told (fit d f.found) r table table'
  fit_so d {r} {table} {table'} h =
      fit_told kinds operands f.found lines f.formed starts d r table table'
      (started_placed f.started said.many)
      (subst (λ (n : ℕ). Told (code_fits (take lines kinds) (take lines operands) starts d n) r table table')
      f.many h)

  -- the table with the depths that it found, filled behind them
  coded_so : (d : ℕ) {q : ℕ} {Γs : List NameDepths} {table : List ℕ} → fit d f.found ≡ done Γs q →
      Laid table Γs → table_bytes ≤ length table →
      LentCoded f.found Γs (M.code (take lines kinds) (take lines operands)
      (filled functions lines (take lines kinds) starts table))
  coded_so d {q} {Γs} {table} e laid long =
      let fits = fits_say kinds operands d lines q f.found Γs f.formed e in
      subst (λ (n : ℕ). LentCoded f.found Γs (M.code (take lines kinds) (take lines operands)
      (filled n lines (take lines kinds) starts table))) (sym f.many)
      (lent_coded kinds operands f.found Γs lines said starts table long
      (begins starts (f.started.at 0 said.some ∙ first_begins f.found said.some) f.found 0 0
      (λ j m e l. ap (λ (n : ℕ). get_or starts n 0) (let z : m ≡ j = omega (arith, e) in z) ∙ f.started.at j l))
      (λ g x l m. laid.depths g x (omega (arith, l, all_deep f.found Γs fits.many)) m))

  -- the table of borrowed parameters
  table_so : (T : Table) → T ≡ table_at (take lines kinds) (take lines operands) starts functions →
      T ≡ lent_table f.found
  table_so T e = e
      ∙ ap (table_at (take lines kinds) (take lines operands) starts) f.many
      ∙ table_same (take lines kinds) (take lines operands) starts f.found (map arity f.found) said.formed
      (stands kinds operands f.found lines f.formed) (started_placed f.started said.many) cut_long
      (omega (arith, cut_long, said.count, said.short))
    where
      cut_long : length (take lines kinds) ≡ length (lent_code f.found)
      cut_long = omega (arith, length-take lines kinds, lines_fit.kinds_long, said.count)

  -- what the third walk told
  hold_so : (d : ℕ) {q : ℕ} {Γs : List NameDepths} {table : List ℕ} {T : Table} (fine : Bool) (at : ℕ) →
      fit d f.found ≡ done Γs q → Laid table Γs →
      T ≡ table_at (take lines kinds) (take lines operands) starts functions →
      functions_at (take lines kinds) (take lines operands) (borrows T) (depths table) functions 0 0
      ≡ cond fine (done tt at) (stop 29 at) →
      hold f.found Γs ≡ cond fine (done (lent_table f.found) at) (stop 29 at)
  hold_so d {q} {Γs} {table} {T} fine at e laid t h =
      hold_told (take lines kinds) (take lines operands) (omega (arith, length-take lines kinds, said.short)) table d
      f.found Γs said.formed (stands kinds operands f.found lines f.formed)
      (fits_say kinds operands d lines q f.found Γs f.formed e) laid.depths fine at
      (ap (λ (U : Table). functions_at (take lines kinds) (take lines operands) (borrows U) (depths table)
      (length f.found) 0 0) (sym (table_so T t))
      ∙ ap (λ (n : ℕ). functions_at (take lines kinds) (take lines operands) (borrows T) (depths table) n 0 0)
      (sym f.many) ∙ h)

-- ---- the goals of judging

module _ (kinds : List ℕ) (operands : List ℤ) {starts : List ℕ} where
  pub form_refuses : (d : ℕ) (table table' : List ℕ) {e : Fault} → Answers (form kinds operands) (Err e) starts →
      JudgesCode kinds operands d table (Err e) table'
  form_refuses d table table' h = refuses_form kinds operands d table table' (not_in_form kinds operands h)

  module _ {f : Formed} (h : Answers (form kinds operands) (Ok f) starts) where
    formed : InForm kinds operands f.lines f.functions starts
    formed = in_form kinds operands h

    pub kinds_cut : f.lines ≡ length (take f.lines kinds)
    kinds_cut = sym (length-take-le _ _ (lines_fit formed).kinds_long)

    pub operands_cut : f.lines ≡ length (take f.lines operands)
    operands_cut = sym (length-take-le _ _ (lines_fit formed).operands_long)

    pub cut_so : Cut (take f.lines kinds) (take f.lines operands)
    cut_so = (lines_fit formed).cut

    pub few_so : (f.functions ≤ 32) × (f.lines ≤ 4096)
    few_so = (few_functions formed, (lines_fit formed).few)

    module _ (d : ℕ) (table : List ℕ) {table' : List ℕ} where
      pub fit_refuses : {e : Fault} (table'' : List ℕ) →
          Told (code_fits (take f.lines kinds) (take f.lines operands) starts d f.functions) (Err e) table table' →
          JudgesCode kinds operands d table (Err e) table''
      fit_refuses table'' t =
          refuses_fit kinds operands d table table'' formed.formed (fits_not (fit_so formed d t).says)

      module _ {q : ℕ}
          (t : Told (code_fits (take f.lines kinds) (take f.lines operands) starts d f.functions) (Ok q) table table')
          {T : Table} (borrowed : T ≡ table_at (take f.lines kinds) (take f.lines operands) starts f.functions) where
        fits : Fits (fit d formed.found) q table'
        fits = fits_so (fit_so formed d t).says

        pub hold_refuses : {e : Fault} (table'' : List ℕ) →
            functions_at (take f.lines kinds) (take f.lines operands) (borrows T) (depths table') f.functions 0 0
            ≡ told (Err e) → JudgesCode kinds operands d table (Err e) table''
        hold_refuses {e} table'' w =
            refuses_hold kinds operands d table table'' formed.formed fits.fitted
            (hold_so formed d false e.line fits.fitted fits.laid borrowed w)

        pub hold_passes : {line : ℕ} (table'' : List ℕ) →
            functions_at (take f.lines kinds) (take f.lines operands) (borrows T) (depths table') f.functions 0 0
            ≡ told (Ok line) → table'' ≡ filled f.functions f.lines (take f.lines kinds) starts table' →
            JudgesCode kinds operands d table (Ok f.lines) table''
        hold_passes {line} table'' w full =
            passes kinds operands d table table'' formed.formed fits.fitted
            (hold_so formed d true line fits.fitted fits.laid borrowed w)
            (lines_fit formed) (λ long.
            subst (λ (u : List ℕ). LentCoded formed.found fits.depths
            (M.code (take f.lines kinds) (take f.lines operands) u))
            (sym full)
            (coded_so formed d fits.fitted fits.laid (omega (arith, long, (fit_so formed d t).kept.long))))

-- the laws of judging
pub ruleset judge_laws = (
  form_refuses,
  kinds_cut,
  operands_cut,
  cut_so,
  few_so,
  fit_refuses,
  hold_refuses,
  hold_passes,
)
