use Rattle.std.proofs.Common.{sym, subst}
use Rattle.dxc_num.specs.declared.port.Leg.{Leg}
use Rattle.dxc_model.specs.Tables.{legs_of}
use Rattle.paull_chain.specs.Paull.{Among}
use Rattle.xc_recovery.proofs.Rowing.{first_leg, second_leg}
use Rattle.xc_recovery.proofs.rows.choices_at.Goals as goal

pub choice_at-requires-clause-inside : goal.choice_at-requires-clause-inside
choice_at-requires-clause-inside c = let k = c.args.conn.now in
    c.requires.inside c.leg-leg.result (subst (λ (l : Leg). Among l (legs_of k)) (sym c.leg-leg.ensures) (first_leg k.from k.to k.cct))

pub choice_at-requires-in-TwoWay-clause-inside : goal.choice_at-requires-in-TwoWay-clause-inside
choice_at-requires-in-TwoWay-clause-inside c = let k = c.args.conn.now in
    c.requires.inside c.leg-leg.result (subst (λ (l : Leg). Among l (legs_of k)) (sym c.leg-leg.ensures) (first_leg k.from k.to k.cct))

pub choice_at-requires-in-TwoWay-2-clause-inside : goal.choice_at-requires-in-TwoWay-2-clause-inside
choice_at-requires-in-TwoWay-2-clause-inside c = let k = c.args.conn.now in
    c.requires.inside c.back.result (second_leg k.from k.to k.cct c.leg-leg.result c.back.result c.in-TwoWay.is c.leg-leg.ensures c.back.ensures)
