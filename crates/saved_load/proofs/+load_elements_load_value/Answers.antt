-- `saved_load::load_value` and `saved_load::load_elements` call one another and meet their contracts, by `Laws`.
use Rattle.prelude.specs.Kit.{◌+◌, ◌-◌, arith, ◌∙◌, sym, ap, rules, to_z-of_z, to_z_pos, w64, SFits}
use Rattle.saved_load.specs.Entries.{place, fill, elements_at, load_at}
use Rattle.saved_load.proofs.Laws.{ended_some, ended_none, cell_is, none_is, past, number, dry}
use Rattle.saved_load.proofs.Laws.{goes_down, goes_on, runs_dry, all_filled}
use Rattle.saved_load.proofs.+load_elements_load_value.Goals as goal

-- ---- elements

pub load_elements-returns-in_err-element : goal.load_elements-returns-in_err-element
load_elements-returns-in_err-element t c =
    rw c.from_residual.ensures
    (runs_dry _ _ _ _ _ _ c.loop.invariant (omega arith) (ended_none _ _ c.in_err-element.ensures) _)

pub load_elements-loop-preserved : goal.load_elements-loop-preserved
load_elements-loop-preserved t c =
    let a = c.args in
    let v = c.in_ok-element.element in
    let fits : SFits w64 v.word = record { sfits = omega arith } in
    goes_on _ _ _ _ _ _ c.loop.invariant (omega arith) _ _ (ended_some _ v _ c.in_ok-element.ensures)
    ∙ ap (λ σ. fill (load_at a.saved.now a.k a.depth) a.c (elements_at a.saved.now 0 a.p - (c.loop.counter + 1))
    (place v.next v.free σ))
    (sym (rw (to_z-of_z fits) at c.append.ensures))

pub load_elements-returns : goal.load_elements-returns
load_elements-returns t c =
    all_filled _ _ _ _ _ _ c.loop.invariant (omega arith) _ (to_z_pos w64 (omega (arith, c.requires.1)))

-- ---- one value

pub load_value-returns-then-k-p : goal.load_value-returns-then-k-p
load_value-returns-then-k-p t c = past _ _ _ _ _ _ c.if-k-p.true

pub load_value-returns-then-depth-eq0 : goal.load_value-returns-then-depth-eq0
load_value-returns-then-depth-eq0 t c =
    let fits : SFits w64 c.signed_at.result = record { sfits = c.signed_at.type_inv } in
    rw (to_z-of_z fits) (number _ _ _ _ _ _ c.if-k-p.false c.if-depth-eq0.true _ c.signed_at.ensures)

pub load_value-returns-in_err-gained : goal.load_value-returns-in_err-gained
load_value-returns-in_err-gained t c =
    rw c.from_residual.ensures
    (dry _ _ _ _ _ _ c.if-k-p.false c.if-depth-eq0.false (none_is _ _ c.in_err-gained.ensures.0) _)

pub load_value-load_elements-requires : goal.load_value-load_elements-requires
load_value-load_elements-requires t c =
    let small = (cell_is _ _ _ _ c.in_ok-gained.ensures.0).small in
    search rules

pub load_value-returns : goal.load_value-returns
load_value-returns t c =
    let is = cell_is _ _ _ _ c.in_ok-gained.ensures.0 in
    goes_down _ _ _ _ _ _ c.if-k-p.false c.if-depth-eq0.false is.has _ is.first _ is.fewer _ c.acquire_empty.ensures.1
    _ _ c.load_elements.ensures
