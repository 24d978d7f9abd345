use Rattle.std.proofs.Common.{inr, refl}
use Rattle.standby_link.specs.Joinings.{over}
use Rattle.standby_link.proofs.JoinSteps.{stays_on}
use Rattle.standby_link.proofs.joins.join_anew.Goals as goal

pub returns-then-begins_anew : goal.returns-then-begins_anew
returns-then-begins_anew g c = record {
  told = inr (record {
    lost = c.requires.lost;
    new_line = c.begins_anew.new.self;
    anew = c.if-begins_anew.ensures.anew refl;
    joining = record {
      joins = c.join_known.ensures.line;
      step = c.join_known.ensures.step;
      hung_up = c.join_known.ensures.hung_up;
    };
  });
}

pub returns-else-begins_anew : goal.returns-else-begins_anew
returns-else-begins_anew g c = record { told = stays_on (over g.D.Disk g.K.Link) c.args.disk.now c.args.line.now c.begins_anew.new.self c.requires.lost c.requires.whole (c.if-begins_anew.ensures.vain refl) c.begins_anew.ensures.hung_up }
