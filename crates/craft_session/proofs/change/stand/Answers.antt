use Rattle.std.proofs.Common.{List, Option, [], append-nil, sym, subst}
use Rattle.dxc_model.specs.declared.cause.Cause.{Cause}
use Rattle.dxc_model.specs.declared.entry.Entry.{Entry}
use Rattle.xc_core.specs.Seeing.{Saw}
use Rattle.xc_core.specs.States.{opening_of}
use Rattle.xc_core.specs.Views.{Denies, view}
use Rattle.craft_session.proofs.Keeping.{keeps_none}
use Rattle.craft_session.proofs.change.stand.Goals as goal

pub returns-then-try_line : goal.returns-then-try_line
returns-then-try_line g c = record {
  pass = keeps_none c.args.turns.now c.args.pass.now c.requires.pass;
  denied = λ h saw. record { later = []; others = tt; saw = subst (λ (l : List Entry). Saw (opening_of g.D.Disk.state c.args.turns.now.first) c.args.pass.now.seen l) (sym (append-nil h)) saw };
  astray = tt;
}

pub returns-in-Some : goal.returns-in-Some
returns-in-Some g c = record {
  pass = c.deny.ensures.pass;
  denied = λ h saw. subst (λ (a : Option Cause). Denies g.D.Disk c.args.op.now c.deny.new.pass a (view g.D.Disk c.args.turns.now c.args.pass.now) h) c.in-Some.is (c.deny.ensures.denied h saw);
  astray = c.deny.ensures.astray;
}

pub returns-in-None : goal.returns-in-None
returns-in-None g c = record {
  pass = c.deny.ensures.pass;
  denied = λ h saw. subst (λ (a : Option Cause). Denies g.D.Disk c.args.op.now c.deny.new.pass a (view g.D.Disk c.args.turns.now c.args.pass.now) h) c.in-None.is (c.deny.ensures.denied h saw);
  astray = tt;
}
