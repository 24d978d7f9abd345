use Rattle.std.proofs.Common.{◌≡◌, [], List}
use Rattle.user_admin.specs.declared.op.UserEntry.{UserEntry}
use Rattle.user_admin.specs.Resting.{IsAtRest}
use Rattle.user_admin.specs.Shared.{opening_at}
use Rattle.user_admin.specs.Turns.{KeepsPass, Saw, TurnedBack}
use Rattle.user_admin.proofs.turns.change_in_line.Given as goal

-- so far others alone have entered something, and the gate wasn't asked
abbrev pub invariant-loop : goal.invariant-loop
invariant-loop g l = record {
  goes : (goal.iterator-loop g).can_next l.iterator' × (goal.iterator-loop g).is_finite l.iterator';
  pass : KeepsPass l.turns l.fn.pass l.pass;
  rests : IsAtRest l.fn.pass → IsAtRest l.pass;
  passed : (h : List UserEntry) → Saw (opening_at g.D.Disk.state l.turns.first) l.fn.pass.seen h → TurnedBack (opening_at g.D.Disk.state l.turns.first) l.fn.pass.number h l.pass.seen;
  gate : g.G.Gate.stops l.gate ≡ g.G.Gate.stops l.fn.gate;
  asked : g.G.Gate.asked l.fn.gate l.gate [];
}
