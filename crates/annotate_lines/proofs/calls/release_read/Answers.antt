-- Answers for `annotate_lines::calls::release_read`.
use Rattle.prelude.specs.Kit.{ℕ, ◌+◌, arith, ap, ◌≡◌, List, rules}
use Rattle.semantics.specs.Kinds.{call, leaf_reads}
use Rattle.semantics.specs.Code.{Atom}
use Rattle.semantics.specs.Live.{only, among}
use Rattle.semantics.specs.Borrow.{Table, borrows}
use Rattle.plain_rows.specs.Plain.{set_of, atoms_at}
use Rattle.plain_rows.specs.Parts.{depth_in}
use Rattle.annotate_rows.proofs.Rows.{lower}
use Rattle.annotate_rows.proofs.Names.{release_all}
use Rattle.annotate_lines.specs.Calls.{place_of}
use Rattle.annotate_lines.proofs.Arguments.{highest_as, highest_used, drops_none, drops_more}
use Rattle.annotate_lines.proofs.calls.release_read.Goals as goal

-- the arguments that the call reads
abbrev read : List ℕ → List ℕ → Table → ℕ → ℕ → ℕ → List Atom
read operands rows table f at m = leaf_reads (borrows table) (call f) (atoms_at operands rows at m)

pub loop-next-init : goal.loop-next-init
loop-next-init c =
    let a = c.args in
    let us = read a.operands.now a.rows.now a.table.now a.f a.at a.m in
    let h = highest_as a.x 256 us c.highest_read-next.ensures in
    record {
      within = h.within;
      room = search rules;
      wrote = drops_none (depth_in a.depths.now) (among us (only a.x)) (set_of a.live.now) _ h;
      used = highest_used _ h;
    }

pub loop-next-smaller : goal.loop-next-smaller
loop-next-smaller c =
    let a = c.args in
    let us = read a.operands.now a.rows.now a.table.now a.f a.at a.m in
    let h = highest_as a.x c.in-Some.name us c.highest_read-next-in-Some.ensures in
    let taken : place_of c.loop-next.next ≡ c.in-Some.name + 1 = ap place_of c.in-Some.is in
    omega (arith, h.within)

pub loop-next-preserved : goal.loop-next-preserved
loop-next-preserved c =
    let a = c.args in
    let us = read a.operands.now a.rows.now a.table.now a.f a.at a.m in
    let v = c.loop-next.invariant in
    let h = highest_as a.x c.in-Some.name us c.highest_read-next-in-Some.ensures in
    let taken : place_of c.loop-next.next ≡ c.in-Some.name + 1 = ap place_of c.in-Some.is in
    record {
      within = omega (arith, h.within);
      room = lower c.release_one-v.ensures v.room;
      wrote = drops_more (depth_in a.depths.now) (among us (only a.x)) (set_of a.live.now) c.in-Some.name _
          (omega arith) (rw c.in-Some.is at v.used) h (rw taken at v.wrote) c.release_one-v.ensures;
      used = highest_used _ h;
    }

pub returns : goal.returns
returns c =
    let a = c.args in
    let us = read a.operands.now a.rows.now a.table.now a.f a.at a.m in
    let none : place_of c.loop-next.next ≡ 0 = ap place_of c.in_default.is in
    release_all (depth_in a.depths.now) (among us (only a.x)) (set_of a.live.now) (omega arith)
    c.loop-next.invariant.wrote
