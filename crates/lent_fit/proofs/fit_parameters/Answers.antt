-- Each parameter's name is new or is bound already, by the laws of `Laws`.
use Rattle.prelude.specs.Kit.{arith, ◌+◌, ◌≡◌}
use Rattle.lent_fit.proofs.Laws.{binding_stops, binding_goes, binding_ends}
use Rattle.lent_fit.proofs.fit_parameters.Goals as goal

pub returns-then-not-bind_new : goal.returns-then-not-bind_new
returns-then-not-bind_new c = record {
  is = binding_stops _ _ _ _ c.loop-p.invariant (omega arith) _ _ c.first_at.ensures c.second_at.ensures
      c.if-not-bind_new.ensures;
  long = c.bind_new.ensures.long;
  deep = c.bind_new.ensures.deep;
}

pub loop-p-preserved : goal.loop-p-preserved
loop-p-preserved c =
    binding_goes _ _ _ _ c.loop-p.invariant (omega arith) _ _ c.first_at.ensures c.second_at.ensures
    c.if-not-bind_new.ensures

pub returns : goal.returns
returns c =
    let a = c.args in
    let end : a.at + a.n ≡ c.loop-p.p = omega arith in
    record {
      is = rw end (binding_ends _ _ _ _ c.loop-p.invariant (omega arith));
      long = c.loop-p.invariant.long;
      deep = c.loop-p.invariant.deep;
    }
