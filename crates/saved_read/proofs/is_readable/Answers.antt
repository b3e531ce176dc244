-- `saved_read::is_readable` meets its contract, by `Laws`.
use Rattle.prelude.specs.Kit.{arith, ◌∙◌}
use Rattle.saved_read.proofs.Laws.{short, other_depth, many, other_length}
use Rattle.saved_read.proofs.is_readable.Goals as goal
use Rattle.saved_read.proofs.is_readable.Goals.{then-saved-lt3-via-then-saved-lt3}
use Rattle.saved_read.proofs.is_readable.Goals.{then-saved-lt3-via-else-saved-lt3+then-from-depth}
use Rattle.saved_read.proofs.is_readable.Goals.{then-k-gt-MOST_ENTRIES-via-then-k-gt-MOST_ENTRIES}
use Rattle.saved_read.proofs.is_readable.Goals.{then-k-gt-MOST_ENTRIES-via-else-k-gt-MOST_ENTRIES+then-saved-k}

pub returns-then-saved-lt3 : goal.returns-then-saved-lt3
returns-then-saved-lt3 c = elim c.then-saved-lt3.branch [
  | then-saved-lt3-via-then-saved-lt3 w ↦ short _ _ w.if-saved-lt3.true
  | then-saved-lt3-via-else-saved-lt3+then-from-depth w ↦
      other_depth _ _ (λ e. w.if-from-depth.true (w.from.ensures ∙ e))
]

pub returns-then-k-gt-MOST_ENTRIES : goal.returns-then-k-gt-MOST_ENTRIES
returns-then-k-gt-MOST_ENTRIES c =
    let stated = c.short_at-k.ensures.0 in
    elim c.then-k-gt-MOST_ENTRIES.branch [
      | then-k-gt-MOST_ENTRIES-via-then-k-gt-MOST_ENTRIES w ↦ many _ _ (omega (arith, stated))
      | then-k-gt-MOST_ENTRIES-via-else-k-gt-MOST_ENTRIES+then-saved-k w ↦ other_length _ _ _ stated w.if-saved-k.true
    ]
