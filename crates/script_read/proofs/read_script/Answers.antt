use Rattle.std.proofs.Common.{◌≡◌, ◌<◌, ◌-◌, ◌+◌, arith, sym, refl, ◌∙◌}
use Rattle.semantics.specs.File.{function}
use Rattle.script_read.specs.Told.{told}
use Rattle.script_read.proofs.Part.{script_ends, left_over, all_read}
use Rattle.script_read.proofs.Turns.{none_done, one_more, one_stops, passed_on, marked_goes, marked_stops, marked_ends}
use Rattle.script_read.proofs.read_script.Goals as goal

pub loop-i-init : goal.loop-i-init
loop-i-init c =
    let all : c.args.functions - 0 ≡ c.args.functions = omega arith in
    (none_done _ 0, rw all)

pub returns-in_err-p : goal.returns-in_err-p
returns-in_err-p c =
    let a = c.args in
    let inv = c.loop-i.invariant in
    let some : 0 < a.functions - c.loop-i.i = omega (arith, c.loop-i-test.true) in (
      passed_on _ _ c.from_residual.ensures.1
          ∙ script_ends _ _ _ _ _
          (sym (one_stops (λ q. told (function a.kinds.now a.operands.now q)) _ _ 0 inv.0 c.loop-i-test.true
          c.in_err-p.ensures)) refl,
      marked_stops _ _ _ _ _ _ inv.1 some _ c.in_err-p.ensures _ _ refl,
    )

pub loop-i-preserved : goal.loop-i-preserved
loop-i-preserved c =
    let a = c.args in
    let inv = c.loop-i.invariant in
    let some : 0 < a.functions - c.loop-i.i = omega (arith, c.loop-i-test.true) in
    let one : a.functions - c.loop-i.i - 1 ≡ a.functions - (c.loop-i.i + 1) = omega arith in (
      one_more (λ q. told (function a.kinds.now a.operands.now q)) _ 0 inv.0 c.in_ok-p.ensures,
      rw one at (marked_goes _ _ _ _ _ _ inv.1 some _ c.in_ok-p.ensures _ refl),
    )

pub returns-then-p-kinds : goal.returns-then-p-kinds
returns-then-p-kinds c =
    let inv = c.loop-i.invariant in
    let none : c.args.functions - c.loop-i.i ≡ 0 = omega (arith, c.loop-i-test.false) in
    let ended : c.loop-i.i ≡ c.args.functions = omega (arith, c.loop-i-test.false) in (
      script_ends _ _ _ _ _ (rw ended at inv.0) (left_over _ _ _ c.if-p-kinds.true),
      marked_ends _ _ _ _ _ _ inv.1 none,
    )

pub returns : goal.returns
returns c =
    let inv = c.loop-i.invariant in
    let none : c.args.functions - c.loop-i.i ≡ 0 = omega (arith, c.loop-i-test.false) in
    let ended : c.loop-i.i ≡ c.args.functions = omega (arith, c.loop-i-test.false) in (
      script_ends _ _ _ _ _ (rw ended at inv.0) (all_read _ _ _ c.if-p-kinds.false),
      marked_ends _ _ _ _ _ _ inv.1 none,
    )
