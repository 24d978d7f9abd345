use Rattle.std.proofs.Common.{◌≤◌, subst, sym}
use Rattle.dxc_num.specs.Dimensions.{IsPort}
use Rattle.fabric_core.specs.Allowed.{MayWork}
use Rattle.fabric_core.specs.Working.{HasOutput, HasPath, port_of}
use Rattle.fabric_core.proofs.Named.{mid_cell_is, mid_fits, in_cell_is, in_named}
use Rattle.fabric_core.proofs.worker.Worker.step.Goals as goal

pub mid_of-requires : goal.mid_of-requires
mid_of-requires c =
    let has : HasOutput c.args.self.now.hold = subst (MayWork c.args.size c.args.self.now) c.in-LoadMid.is c.requires.allowed in
    mid_cell_is c.args.size c.args.mover.now c.requires.sized c.requires.mover.laid c.args.self.now c.args.self.now.hold has c.requires.ruled.hold_is

pub load_mid-requires-clause-fits : goal.load_mid-requires-clause-fits
load_mid-requires-clause-fits c =
    let has : HasOutput c.args.self.now.hold = subst (MayWork c.args.size c.args.self.now) c.in-LoadMid.is c.requires.allowed in
    subst (λ (q : _). q ≤ 65536) (sym c.mid_of.ensures) (mid_fits c.args.size c.args.mover.now c.requires.sized c.requires.mover.laid c.args.self.now c.args.self.now.hold has c.requires.ruled.hold_is)

pub in_of-requires : goal.in_of-requires
in_of-requires c =
    let has : HasPath c.args.self.now.hold = subst (MayWork c.args.size c.args.self.now) c.in-LoadIn.is c.requires.allowed in
    in_cell_is c.args.size c.args.mover.now c.requires.sized c.requires.mover.laid c.args.self.now c.args.self.now.hold has c.requires.ruled.hold_is

pub load_in-requires-clause-fits : goal.load_in-requires-clause-fits
load_in-requires-clause-fits c =
    let has : HasPath c.args.self.now.hold = subst (MayWork c.args.size c.args.self.now) c.in-LoadIn.is c.requires.allowed in
    subst (λ (q : _). IsPort c.args.size.shape (port_of c.args.size.shape c.args.self.now.hold q)) (sym c.in_of.ensures)
    (in_named c.args.size c.args.mover.now c.requires.sized c.requires.mover.laid c.args.self.now c.args.self.now.hold has c.requires.ruled.hold_is).1
