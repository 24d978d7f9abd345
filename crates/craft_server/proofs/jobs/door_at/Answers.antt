use Rattle.std.proofs.Common.{◌∙◌, [], ◌∷◌}
use Rattle.dxc_outside.specs.Asked.{listener_named}
use Rattle.dxc_jobs.proofs.Faulting.{is_made, kept, no_memory, not_opened}
use Rattle.craft_server.proofs.jobs.door_at.Goals as goal

pub returns-in-Open-clause-made : goal.returns-in-Open-clause-made
returns-in-Open-clause-made g c = kept _ _ _ _ (c.gate.ensures.faults ∙ c.clock.ensures.faults) (is_made _ _ c.listener.ensures.cause.later _)

pub returns-in-Failed-clause-made : goal.returns-in-Failed-clause-made
returns-in-Failed-clause-made g c = not_opened _ _ c.listener.ensures.cause c.in-Failed.is

pub returns-in-NoMemory-clause-made : goal.returns-in-NoMemory-clause-made
returns-in-NoMemory-clause-made g c = no_memory _ _ c.listener.ensures.cause.later

pub returns-in-Open-clause-asked : goal.returns-in-Open-clause-asked
returns-in-Open-clause-asked g c =
    let one = listener_named c.args.address.now ∷ [] in
    let on = g.O.Opener.asked_on in
    on c.args.opener.now c.clock.new.self c.gate.new.self one [] (on c.args.opener.now c.listener.new.self c.clock.new.self one [] c.listener.ensures.asked c.clock.ensures.asked) c.gate.ensures.asked

pub returns-in-Failed-clause-asked : goal.returns-in-Failed-clause-asked
returns-in-Failed-clause-asked g c = c.listener.ensures.asked

pub returns-in-NoMemory-clause-asked : goal.returns-in-NoMemory-clause-asked
returns-in-NoMemory-clause-asked g c = c.listener.ensures.asked

pub returns-in-Open-clause-door : goal.returns-in-Open-clause-door
returns-in-Open-clause-door g c = c.listener.ensures.listener_for c.in-Open.listener c.in-Open.is
