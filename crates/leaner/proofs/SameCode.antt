-- The same code on a store that corresponds, with more cells and a larger budget, tells the same: `same_code`, and
-- `larger_by_twins` for stores just opened.
use Rattle.prelude.specs.Kit.{ℕ, ◌≤◌, ◌+◌, ◌<◌, suc, zero, arith, true, ◌≡◌, refl, ◌∙◌, sym, ap, ◌≢◌, List, [], ◌∷◌}
use Rattle.prelude.specs.Kit.{map, ℤ, pos, length, take, length-take, length-map}
use Rattle.semantics.specs.Basics.{◌∈◌}
use Rattle.semantics.specs.Outcome.{Outcome}
use Rattle.semantics.specs.Syntax.{Script, main_depth}
use Rattle.semantics.specs.Value.{list, items, number_in, first_totals}
use Rattle.semantics.specs.Code.{Line, leaf, if_else, loop, retain, release, Tree, end, line}
use Rattle.semantics.specs.Machine.{State, Program, routine_of, program_in, program, delivery, delivered_by, starting}
use Rattle.semantics.specs.Machine.{Delivered, delivered}
use Rattle.semantics.specs.Store.{Cell, Store, cell, cell_of, cell_count, elements, inner, named_by, opened}
use Rattle.semantics.specs.Calls.{accepted, judged, code_fits, request_fits}
use Rattle.semantics.specs.Demands.{value_of}
use Rattle.laws.specs.Lists.{occurs_first}
use Rattle.laws.specs.Values.{items_list}
use Rattle.laws.specs.Cells.{named_by_none}
use Rattle.soundness.proofs.annotation.Accepting.{main_shape_of}
use Rattle.soundness.proofs.annotation.Programs.{program_disciplined}
use Rattle.soundness.proofs.Delivering.{few_lines, few_readings}
use Rattle.discipline.proofs.store.Invariant.{Tidy}
use Rattle.discipline.proofs.store.Change.{held_used}
use Rattle.discipline.proofs.store.Kept.{only, reached_within, reached}
use Rattle.discipline.proofs.store.Opening.{open_rests}
use Rattle.discipline.proofs.store.Rest.{Rests}
use Rattle.discipline.proofs.machine.Calls.{ProgramDisciplined}
use Rattle.discipline.proofs.machine.Standing.{none_in, names_one}
use Rattle.leaner.proofs.Leaner.{Leaner}
use Rattle.leaner.proofs.Twin.{Twin, same_end, same_leaf, same_if, same_loop, same_retain, same_release}
use Rattle.leaner.proofs.Twin.{TwinPrograms}
use Rattle.leaner.proofs.Runs as Runs
use Rattle.leaner.proofs.Runs.{Twins}
use Rattle.leaner.proofs.Beside.{Same}
use Rattle.leaner.proofs.Calls.{call_twins}
use Rattle.leaner.proofs.Delivering.{Over, race, race_starts, delivery_twins}

-- ---- every tree is its own twin

mutual
  pub self_twin : (t : Tree) → Twin [] t t
  self_twin (end a) = same_end
  self_twin (line l t) = self_line l (self_twin t)

  self_line : (l : Line) {t : Tree} → Twin [] t t → Twin [] (line l t) (line l t)
  self_line (leaf x l us) w = same_leaf w
  self_line (if_else x g a b) w = same_if (self_twin a) (self_twin b) w
  self_line (loop x k ps us b) w = same_loop (self_twin b) w
  self_line (retain y) w = same_retain w
  self_line (release y) w = same_release w

pub self_twins : (p : Program) → TwinPrograms p p.routines
self_twins p = record {
  as_many = refl;
  routine = λ f h. record { tree = (routine_of p f).tree; is = refl; twin = self_twin (routine_of p f).tree };
}

-- ---- two deliveries by one program

-- the same number and steps, and a lowest level that is at least g higher
pub record ToldAlike (g : ℕ) (small large : Delivered) : Type 0 where
  pub number : large.number ≡ small.number
  pub steps : large.steps ≡ small.steps
  pub lowest : small.lowest + g ≤ large.lowest

-- on σ, and on τ, which has g cells more, with e steps more
module _ (p : Program) (disciplined : ProgramDisciplined p) (readings : List ℤ) (short : length readings ≤ 16)
    (budget e g : ℕ) (σ τ : Store) (rests : Rests p.depth σ) (rests' : Rests p.depth τ)
    (more_cells : cell_count τ ≡ cell_count σ + g) where
  abbrev pub two_stores : Runs.Race
  two_stores =
      race p p.routines disciplined disciplined readings short budget e g σ τ rests rests' more_cells

  pub same_code : (π : ℕ → ℕ) → Leaner [] π τ σ → Same p.depth π σ.totals τ.totals →
      Twins two_stores (Over two_stores p.depth) (delivery p readings (starting budget σ))
      (delivery p readings (starting (budget + e) τ))
  same_code = delivery_twins p p.routines disciplined disciplined readings short budget e g σ τ rests rests'
      more_cells
      (call_twins
      (race_starts p p.routines disciplined disciplined readings short budget e g σ τ rests rests' more_cells)
      p p.routines (self_twins p) disciplined disciplined 32 (λ _. 0))

  -- unless the first is out of cells, or out of steps where the other has more
  told_alike : {o o' : Outcome State (Unit {0})} → Twins two_stores (Over two_stores p.depth) o o' →
      (delivered_by budget σ o).number ≢ 25 → (0 < e → (delivered_by budget σ o).number ≢ 21) →
      ToldAlike g (delivered_by budget σ o) (delivered_by (budget + e) τ o')
  told_alike (Runs.both q) f h = record {
    number = refl;
    steps = omega (arith, q.tied.level.left);
    lowest = q.tied.level.lowest;
  }
  told_alike (Runs.stops q) f h = record { number = refl; steps = omega (arith, q.left); lowest = q.lowest }
  told_alike Runs.dry f h = absurd (f refl)
  told_alike (Runs.spent more) f h = absurd (h more refl)

-- ---- stores just opened

-- of totals of depth d: the cell c is their own, and empty
record EmptyTotals (d : ℕ) (σ : Store) (c : ℕ) : Type 0 where
  is : c ≡ cell_of σ.totals
  depth : d ≡ suc (cell σ c).depth
  empty : (cell σ c).size ≡ 0

-- a cell without elements
no_elements : (x : Cell) → x.size ≡ 0 → elements x ≡ []
unfolding elements
no_elements x e = ap (λ n. take n x.slots) e

no_names : (x : Cell) → x.size ≡ 0 → inner x ≡ []
unfolding inner
no_names x e = ap (named_by x.depth) (no_elements x e) ∙ named_by_none x.depth

-- totals that hold nothing yet
empty_list : (d : ℕ) (σ : Store) (w : ℤ) → Tidy (cell σ (cell_of w)) → value_of σ (suc d) w ≡ list [] →
    (cell σ (cell_of w)).size ≡ 0
unfolding value_of elements
empty_list d σ w tidy e =
    let x = cell σ (cell_of w) in
    omega (
      arith,
      tidy.whole,
      tidy.size,
      length-take x.size x.slots,
      length-map (elements x) (value_of σ d),
      ap length (sym (items_list (map (value_of σ d) (elements x))) ∙ ap items e),
    )

number_totals : (d : ℕ) (σ : Store) → d ≡ 0 → value_of σ d σ.totals ≡ first_totals d → σ.totals ≡ pos 0
unfolding value_of
number_totals zero σ e value = ap number_in value
number_totals (suc d) σ e value = absurd (omega (arith, e))

totals_empty : (d : ℕ) (σ : Store) → Rests d σ → value_of σ d σ.totals ≡ first_totals d → (r : ℕ) →
    r ∈ named_by d (σ.totals ∷ []) → EmptyTotals d σ r
totals_empty zero σ rests value = λ r h. absurd (none_in r h)
totals_empty (suc d) σ rests value =
    let c = cell_of σ.totals in
    let named = occurs_first c [] in
    only (EmptyTotals (suc d) σ) c record {
      is = refl;
      depth = rests.fits c named;
      empty = empty_list d σ σ.totals (rests.holds.tidy c (held_used rests.holds c named)) value;
    }

-- then no other cell is in use
used_empty : {d : ℕ} {σ : Store} → Rests d σ → value_of σ d σ.totals ≡ first_totals d → (c : ℕ) →
    0 < (cell σ c).count → EmptyTotals d σ c
used_empty {d} {σ} rests value c h = reached_within σ (EmptyTotals d σ)
    (λ b r q named. absurd (none_in r (rw (no_names (cell σ b) q.empty) at named)))
    (named_by d (σ.totals ∷ [])) (totals_empty d σ rests value) c (reached rests.holds c h)

-- two such stores correspond
module _ (d : ℕ) (σ τ : Store) (rests : Rests d σ) (rests' : Rests d τ)
    (value : value_of σ d σ.totals ≡ first_totals d) (value' : value_of τ d τ.totals ≡ first_totals d) where
  there : (c : ℕ) → 0 < (cell τ c).count → EmptyTotals d τ c
  there = used_empty rests' value'

  used_here : (c : ℕ) → 0 < (cell τ c).count → 0 < (cell σ (cell_of σ.totals)).count
  used_here c h =
      held_used rests.holds (cell_of σ.totals) (names_one d σ.totals (omega (arith, (there c h).depth)))

  here : (c : ℕ) → 0 < (cell τ c).count → EmptyTotals d σ (cell_of σ.totals)
  here c h = used_empty rests value (cell_of σ.totals) (used_here c h)

  first_leaner : Leaner [] (λ _. cell_of σ.totals) τ σ
  first_leaner = record {
    used = used_here;
    apart = λ b c h g e. (there b h).is ∙ sym (there c g).is;
    depth = λ c h. omega (arith, (here c h).depth, (there c h).depth);
    names = λ c h. no_names (cell σ (cell_of σ.totals)) (here c h).empty
        ∙ ap (map (λ _. cell_of σ.totals)) (sym (no_names (cell τ c) (there c h).empty));
    numbers = λ c h f e. no_elements (cell σ (cell_of σ.totals)) (here c h).empty
        ∙ sym (no_elements (cell τ c) (there c h).empty);
    sizes = λ c h f. (here c h).empty ∙ sym (there c h).empty;
  }

  first_same : Same d (λ _. cell_of σ.totals) σ.totals τ.totals
  first_same = record {
    number = λ e. number_totals d σ e value ∙ sym (number_totals d τ e value');
    cell = λ h. refl;
  }

-- ---- an accepted script, from the opening

-- For every file that is accepted as the script and whose code fits, every two stores just opened, of n cells and of g
-- more, and every row of readings and budget that fit: unless the delivery on the smaller store stops for want of a
-- cell, or for want of steps where the other has e more, both tell the same.
pub larger_by_twins : (fs : Script) (file : List ℕ) → judged file ≡ accepted fs → code_fits fs 4096 ≡ true →
    (n g : ℕ) → 1 ≤ n → n + g ≤ 256 → (readings : List ℤ) (budget e : ℕ) → request_fits readings budget ≡ true →
    let small = delivered (program fs) readings budget (opened n (main_depth fs)) in
    let large = delivered (program fs) readings (budget + e) (opened (n + g) (main_depth fs)) in
    small.number ≢ 25 → (0 < e → small.number ≢ 21) → ToldAlike g small large
unfolding delivered program_in
larger_by_twins fs file ok fits n g some few readings budget e asked =
    let d = main_depth fs in
    let shallow = (main_shape_of file fs ok).1 in
    let o = open_rests n d some (omega arith) shallow in
    let o' = open_rests (n + g) d (omega arith) few shallow in
    let p = program fs in
    let disciplined = program_disciplined file fs ok (few_lines fs 4096 (omega arith) fits) in
    let short = few_readings readings budget asked in
    let σ = opened n d in
    let τ = opened (n + g) d in
    let more : cell_count τ ≡ cell_count σ + g = omega (arith, o.cells, o'.cells) in
    told_alike p disciplined readings short budget e g σ τ o.rests o'.rests more
    (same_code p disciplined readings short budget e g σ τ o.rests o'.rests more (λ _. cell_of σ.totals)
    (first_leaner d σ τ o.rests o'.rests o.value o'.value)
    (first_same d σ τ o.rests o'.rests o.value o'.value))
