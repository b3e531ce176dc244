-- `deliver_words` meets its contract.
use Rattle.prelude.specs.Kit.{◌∙◌, sym}
use Rattle.store_words.proofs.Counting.{taken_few}
use Rattle.call_deliver.proofs.Laws.{refuses_10, refuses_11, sound_fits, delivers, lowest_few, steps_few}
use Rattle.call_deliver.proofs.deliver_words.Goals as goal

pub returns-then-not-request_fits : goal.returns-then-not-request_fits
returns-then-not-request_fits c =
    let a = c.args in
    let asked = c.request_fits in
    λ P performs same. (
      refuses_10 P a.readings.now a.budget a.slots.now a.heads.now
          (sym asked.ensures ∙ c.if-not-request_fits.true),
      tt,
    )

pub returns-then-not-is_sound : goal.returns-then-not-is_sound
returns-then-not-is_sound c =
    let a = c.args in
    let asked = c.request_fits in
    let test = c.is_sound in
    λ P performs same. (
      refuses_11 P a.readings.now a.budget a.slots.now a.heads.now
          (sym asked.ensures ∙ c.if-not-request_fits.false) a.depth
          same
          (sym test.ensures ∙ c.if-not-is_sound.true),
      tt,
    )

pub deliver_on-end-requires : goal.deliver_on-end-requires
deliver_on-end-requires c =
    let a = c.args in
    let test = c.is_sound in (
      sound_fits a.depth a.slots.now a.heads.now
          (sym test.ensures ∙ c.if-not-is_sound.false),
      c.requires,
    )

pub returns : goal.returns
returns c =
    let end = c.deliver_on-end in
    let test = c.is_sound in
    let fine = sym test.ensures ∙ c.if-not-is_sound.false in
    let asked = c.request_fits in
    let request = sym asked.ensures ∙ c.if-not-request_fits.false in
    let a = c.args in
    λ P performs same. (
      delivers P _ performs a.readings.now a.budget a.slots.now a.heads.now a.depth
          same
          request fine (record { slots_long = end.auto.slots; heads_long = end.auto.heads })
          end.ensures.store (c.number.ensures ∙ end.ensures.number) end.ensures.lowest end.ensures.steps
          c.cells_taken.ensures,
      (
        lowest_few P _ performs a.readings.now a.budget a.slots.now a.heads.now a.depth
            same request fine end.ensures.lowest,
        steps_few _ a.readings.now a.depth a.budget _ request end.ensures.steps,
        rw c.cells_taken.ensures (taken_few _ _),
      ),
    )
