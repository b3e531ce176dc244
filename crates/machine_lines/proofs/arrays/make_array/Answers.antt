-- `make_array` meets its contract.
use Rattle.prelude.specs.Kit.{ℕ, arith, true, ◌≡◌, ◌∙◌, sym, ap, nat_abs, to_z-of_z}
use Rattle.semantics.specs.Machine.{is_count}
use Rattle.semantics.specs.Words.{store_of}
use Rattle.store.specs.Acquiring.{acquired_outcome, next_cell, appended_all}
use Rattle.store.proofs.Filling.{filled_by_appending, none_given}
use Rattle.machine_frames.specs.Work.{memory, shown}
use Rattle.machine_lines.specs.Lines.{elements_by, retained_copies}
use Rattle.machine_lines.proofs.Counts.{array_spent, array_bad, array_cell, array_none}
use Rattle.machine_lines.proofs.Lines.{next_small}
use Rattle.machine_lines.proofs.arrays.make_array.Goals as goal

pub returns-then-steps-eq0 : goal.returns-then-steps-eq0
returns-then-steps-eq0 c =
    let a = c.args in
    array_spent a.counting a.w a.depth a.count a.steps
    (memory (store_of a.slots.now a.heads.now) a.env.now) (shown c.halt.result)
    c.if-steps-eq0.true c.halt.ensures

pub returns-then-not-is_count : goal.returns-then-not-is_count
returns-then-not-is_count c =
    let a = c.args in
    let test = c.is_count in
    array_bad a.counting a.w a.depth a.count a.steps
    (memory (store_of a.slots.now a.heads.now) a.env.now) c.if-steps-eq0.false
    (sym (rw (to_z-of_z {z = a.count} c.ranges.count) at test.ensures)
    ∙ c.if-not-is_count.true)
    (shown c.halt-then-not-is_count.result) c.halt-then-not-is_count.ensures

pub word_from-requires : goal.word_from-requires
word_from-requires c =
    let a = c.args in
    let taken = c.acquire_empty in
    omega (
      arith,
      next_small c.level.result a.slots.now a.heads.now taken.result c.in-Some.gained
          taken.ensures.0 c.in-Some.is,
    )

pub returns : goal.returns
returns c =
    let a = c.args in
    let counts : is_count a.count ≡ true =
    sym (rw (to_z-of_z {z = a.count} c.ranges.count) at c.is_count.ensures) ∙ c.if-not-is_count.false in
    let σ = store_of a.slots.now a.heads.now in
    let n = nat_abs a.count in
    let ws = elements_by a.counting a.w n in
    let free = c.level in
    let taken = c.acquire_empty in
    let noted = c.note_level in
    let put = c.append_elements in
    let kept = c.retain_copies in
    let number = c.word_from in
    array_cell a.counting a.w a.depth a.count a.steps (memory σ a.env.now) c.if-steps-eq0.false
    counts taken.result
    (taken.ensures.0 ∙ ap (λ (k : ℕ). next_cell k σ) free.ensures.0) c.in-Some.gained c.in-Some.is
    noted.new.env noted.ensures (store_of put.new.slots kept.new.heads)
    ((rw (to_z-of_z {z = a.w} c.ranges.w, to_z-of_z {z = a.count} c.ranges.count) at kept.ensures)
    ∙ ap (retained_copies a.depth a.w n)
    ((rw (to_z-of_z {z = a.w} c.ranges.w, to_z-of_z {z = a.count} c.ranges.count) at put.ensures)
    ∙ ap (appended_all c.in-Some.gained.cell ws) taken.ensures.1
    ∙ filled_by_appending free.result a.depth σ c.in-Some.gained ws
    (ap acquired_outcome (sym c.in-Some.is) ∙ taken.ensures.0)))
    number.result number.ensures (shown c.go_on.result)
    (rw (to_z-of_z {z = number.result} (record { sfits = number.type_inv })) at c.go_on.ensures)

pub returns-in_default : goal.returns-in_default
returns-in_default c =
    let a = c.args in
    let counts : is_count a.count ≡ true =
    sym (rw (to_z-of_z {z = a.count} c.ranges.count) at c.is_count.ensures) ∙ c.if-not-is_count.false in
    let σ = store_of a.slots.now a.heads.now in
    let free = c.level in
    let taken = c.acquire_empty in
    array_none a.counting a.w a.depth a.count a.steps (memory σ a.env.now) c.if-steps-eq0.false
    counts taken.result
    (taken.ensures.0 ∙ ap (λ (k : ℕ). next_cell k σ) free.ensures.0) c.in_default.is
    (store_of taken.new.slots taken.new.heads)
    (taken.ensures.1
    ∙ none_given free.result a.depth σ (elements_by a.counting a.w (nat_abs a.count))
    (ap acquired_outcome (sym c.in_default.is) ∙ taken.ensures.0)) (shown c.halt-in_default.result) c.halt-in_default.ensures
