use Rattle.craft_server.proofs.script.after_session.Goals as goal

pub unreachable-requires : goal.unreachable-requires
unreachable-requires c = c.requires.attended c.in-Unattended.is

pub unreachable-requires-in-Idle : goal.unreachable-requires-in-Idle
unreachable-requires-in-Idle c = c.requires.endless c.in-Idle.is

pub unreachable-requires-in-Cancelled : goal.unreachable-requires-in-Cancelled
unreachable-requires-in-Cancelled c = c.requires.alone c.in-Cancelled.is
