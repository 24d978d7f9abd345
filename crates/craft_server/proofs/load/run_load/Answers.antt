use Rattle.std.proofs.Common.{inl, inr, refl, subst, List, ℕ, ◌∙◌}
use Rattle.dxc_outside.specs.Links.{IsSent}
use Rattle.craft_server.proofs.load.run_load.Goals as goal

pub returns-in-Err-clause-load : goal.returns-in-Err-clause-load
returns-in-Err-clause-load g c = inl (refl, c.in-Err.ensures.loaded)

pub returns-clause-load : goal.returns-clause-load
returns-clause-load g c =
    let k = g.K.Link.state c.args.terminal.now in
    let l = g.K.Link.state c.write_all.new.link in
    let sent = subst (λ (bs : List ℕ). IsSent g.K.Link.told k l c.write_all.result bs) (c.as_slice.ensures.value ∙ c.write_line.ensures) c.write_all.ensures.sent in
    inr (c.in-Ok.summary, c.in-Ok.ensures.loaded, c.in-Ok.ensures.unstopped, (c.write_all.result, sent, c.of_sent.ensures))
