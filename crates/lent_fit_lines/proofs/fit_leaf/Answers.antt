-- A leaf's name is bound where it is new, by the laws of `Lines`.
use Rattle.prelude.specs.Kit.{arith, ◌≡◌}
use Rattle.std.specs.Prelude.{Some}
use Rattle.lent_fit_lines.proofs.Lines.{leaf_placed, leaf_bound, leaf_again}
use Rattle.lent_fit_lines.proofs.fit_leaf.Goals as goal

pub returns-then-bind_new : goal.returns-then-bind_new
returns-then-bind_new c =
    let a = c.args in
    let found : c.gather.result ≡ Some c.in_ok-ds.ds = grind arith in
    let judged : c.leaf_depth.result ≡ Some c.in_ok-d.d = grind arith in
    leaf_bound a.bound.now a.depths.now _ _ a.at _
    (leaf_placed a.kinds.now a.operands.now a.starts.now a.kind _ _ a.at _ c.atoms_of-n.ensures (omega arith) _
    (rw found at c.gather.ensures) _ (rw judged at c.leaf_depth.ensures)) _ c.first_at.ensures c.if-bind_new.ensures

pub returns-else-bind_new : goal.returns-else-bind_new
returns-else-bind_new c =
    let a = c.args in
    let found : c.gather.result ≡ Some c.in_ok-ds.ds = grind arith in
    let judged : c.leaf_depth.result ≡ Some c.in_ok-d.d = grind arith in
    leaf_again a.bound.now a.depths.now _ _ a.at _
    (leaf_placed a.kinds.now a.operands.now a.starts.now a.kind _ _ a.at _ c.atoms_of-n.ensures (omega arith) _
    (rw found at c.gather.ensures) _ (rw judged at c.leaf_depth.ensures)) _ c.first_at.ensures c.if-bind_new.ensures
