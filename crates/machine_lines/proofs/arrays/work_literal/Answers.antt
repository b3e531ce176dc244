-- `work_literal` meets its contract.
use Rattle.prelude.specs.Kit.{ℕ, ◌+◌, arith, refl, ◌∙◌, sym, ap, to_z-of_z}
use Rattle.semantics.specs.Words.{store_of}
use Rattle.store.specs.Acquiring.{acquired_outcome, next_cell, appended_all}
use Rattle.store.proofs.Filling.{filled_by_appending, none_given}
use Rattle.machine_frames.specs.Frames.{words_at}
use Rattle.machine_frames.specs.Work.{memory, shown}
use Rattle.machine_lines.proofs.Lines.{literal_spent, literal_cell, literal_none, next_small}
use Rattle.machine_lines.proofs.arrays.work_literal.Goals as goal

pub returns-then-steps-eq0 : goal.returns-then-steps-eq0
returns-then-steps-eq0 c = let a = c.args in
    literal_spent a.kinds.now a.operands.now a.calls a.x a.depth a.at a.steps
    (memory (store_of a.slots.now a.heads.now) a.env.now) (shown c.halt.result) c.if-steps-eq0.true
    c.halt.ensures

pub word_from-w-requires : goal.word_from-w-requires
word_from-w-requires c =
    let a = c.args in
    let taken = c.acquire_empty in
    omega (
      arith,
      next_small c.level.result a.slots.now a.heads.now taken.result c.in-Some.gained
          taken.ensures.0 c.in-Some.is,
    )

pub returns : goal.returns
returns c =
    let a = c.args in
    let σ = store_of a.slots.now a.heads.now in
    let ws = words_at 16 a.kinds.now a.operands.now a.calls a.env.now (a.at + 1) in
    let free = c.level in
    let taken = c.acquire_empty in
    let put = c.append_atoms-n in
    let noted = c.note_level in
    let number = c.word_from-w in
    literal_cell a.kinds.now a.operands.now a.calls a.x a.depth a.at a.steps
    (memory σ a.env.now) c.if-steps-eq0.false ws refl taken.result
    (taken.ensures.0 ∙ ap (λ (k : ℕ). next_cell k σ) free.ensures.0)
    (store_of put.new.slots put.new.heads)
    (put.ensures.store ∙ ap (appended_all c.in-Some.gained.cell ws) taken.ensures.1
    ∙ filled_by_appending free.result a.depth σ c.in-Some.gained ws
    (ap acquired_outcome (sym c.in-Some.is) ∙ taken.ensures.0))
    c.in-Some.gained c.in-Some.is noted.new.env noted.ensures number.result number.ensures
    c.bind.new.env
    (rw (to_z-of_z {z = number.result} (record { sfits = number.type_inv })) at c.bind.ensures)
    put.result put.ensures.count (shown c.go_on.result)
    (rw (to_z-of_z {z = number.result} (record { sfits = number.type_inv })) at c.go_on.ensures)

pub returns-in_default : goal.returns-in_default
returns-in_default c =
    let a = c.args in
    let σ = store_of a.slots.now a.heads.now in
    let ws = words_at 16 a.kinds.now a.operands.now a.calls a.env.now (a.at + 1) in
    let free = c.level in
    let taken = c.acquire_empty in
    literal_none a.kinds.now a.operands.now a.calls a.x a.depth a.at a.steps
    (memory σ a.env.now) c.if-steps-eq0.false ws refl taken.result
    (taken.ensures.0 ∙ ap (λ (k : ℕ). next_cell k σ) free.ensures.0)
    (store_of taken.new.slots taken.new.heads)
    (taken.ensures.1
    ∙ none_given free.result a.depth σ ws (ap acquired_outcome (sym c.in_default.is) ∙ taken.ensures.0)) c.in_default.is
    (shown c.halt-in_default.result) c.halt-in_default.ensures
