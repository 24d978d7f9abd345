use Rattle.std.proofs.Common.{inl, refl}
use Rattle.dxc_element.specs.Loads.{IsInMemory}
use Rattle.craft_server.specs.Trials.{memory_told, trial_lent}
use Rattle.craft_server.proofs.Trying.{if_in_memory, if_shape, tried_by}
use Rattle.craft_server.proofs.trial.run_trial.Goals as goal

pub trial_on-requires : goal.trial_on-requires
trial_on-requires g c = record { element = if_in_memory c.args.shape c.in-Ok.shelf c.memory_element-opened.result (g.G.Gate.stops c.args.gate.now) (g.G.Gate.stops c.memory_element-opened.new.gate) c.in-Ok.ensures c.memory_element-opened.ensures.started }

pub returns-in_default-clause-ran : goal.returns-in_default-clause-ran
returns-in_default-clause-ran g c = inl (record { terminal = refl; clock = refl; why = inl refl })

pub returns-clause-ran : goal.returns-clause-ran
returns-clause-ran g c =
    let stops = g.G.Gate.stops c.args.gate.now in
    let later = g.G.Gate.stops c.memory_element-opened.new.gate in
    let opened = c.memory_element-opened.ensures in
    let shapes = if_shape c.args.shape c.in-Ok.shelf c.memory_element-opened.result stops later c.in-Ok.ensures opened.started in
    tried_by (memory_told g.K.Link.told g.C.Clock.told g.K.Link.begun) c.args.shape (IsInMemory c.in-Ok.shelf) c.memory_element-opened.result (g.K.Link.state c.args.terminal.now) (g.C.Clock.coming c.args.clock.now) stops later (trial_lent (g.K.Link.state c.trial_on.new.terminal) (g.C.Clock.coming c.trial_on.new.clock) (g.G.Gate.stops c.trial_on.new.gate)) c.trial_on.result shapes opened.started opened.unstopped c.trial_on.ensures.ran
