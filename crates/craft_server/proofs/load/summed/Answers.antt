use Rattle.std.proofs.Common.{◌≤◌, ◌∙◌, ap, inl, refl, sym, subst}
use Rattle.std.specs.Prelude.{vec_capacity}
use Rattle.dxc_num.specs.Dimensions.{ports}
use Rattle.xc_core.specs.States.{Opening}
use Rattle.dxc_load.specs.Codes.{coded_in, compld, deny}
use Rattle.craft_server.proofs.load.summed.Goals as goal

pub left_by-requires : goal.left_by-requires
left_by-requires g c = subst (λ (o : Opening). ports o.first.fold.table.shape ≤ vec_capacity c.args.rows.now) (sym c.in-Ok.ensures.served.seat.0) c.requires.room

pub returns-in-Err-clause-summed : goal.returns-in-Err-clause-summed
returns-in-Err-clause-summed g c = c.in-Err.ensures.served

pub returns-in_default-clause-summed : goal.returns-in_default-clause-summed
returns-in_default-clause-summed g c = inl refl

pub returns-then-has_failed-clause-summed : goal.returns-then-has_failed-clause-summed
returns-then-has_failed-clause-summed g c = inl refl

pub returns-clause-summed : goal.returns-clause-summed
returns-clause-summed g c = record {
  new = c.serve_load.new.place;
  link = c.serve_load.new.link;
  disk = c.in-Some.disk;
  served = c.in-Ok.ensures.served;
  left = c.in-Some.ensures;
  sound = c.has_failed.ensures.none c.if-has_failed.false;
  sum = record {
    completed = c.codes_in.ensures.completed ∙ ap (coded_in compld) c.written.ensures;
    denied = c.codes_in.ensures.denied ∙ ap (coded_in deny) c.written.ensures;
    frames = c.carried.ensures.frames c.in-Ok.ensures.served.ended;
    carried = c.carried.ensures.value;
    each = c.carried.ensures.each c.in-Ok.ensures.served.ended;
  };
}

pub returns-clause-unstopped : goal.returns-clause-unstopped
returns-clause-unstopped g c = c.in-Ok.ensures.unstopped
