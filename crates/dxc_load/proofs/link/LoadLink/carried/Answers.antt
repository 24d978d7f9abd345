use Rattle.std.proofs.Common.{◌*◌, ℕ, ap, ◌∙◌, subst}
use Rattle.dxc_load.specs.Carrying.{AreLoadFrames}
use Rattle.dxc_load.specs.Sending.{fabric_of, worker_of}
use Rattle.dxc_load.proofs.link.LoadLink.carried.Goals as goal

pub returns-clause-value : goal.returns-clause-value
returns-clause-value c = c.args.self.now.carrier.counted

pub returns-clause-frames : goal.returns-clause-frames
returns-clause-frames c = λ ended. c.args.self.now.carrier.rests ∙ ap (λ (n : ℕ). 2 * n) (c.args.self.now.all ended).0

pub returns-clause-each : goal.returns-clause-each
returns-clause-each c = λ ended.
    let self = c.args.self.now in
    subst (λ (n : ℕ). AreLoadFrames (fabric_of self).size (worker_of self).number n (worker_of self).notes) (self.all ended).0 self.carrier.each
