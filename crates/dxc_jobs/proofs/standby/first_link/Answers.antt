use Rattle.std.proofs.Common.{◌∙◌, refl, sym, subst, arith}
use Rattle.dxc_outside.specs.declared.listener.Came.{Came}
use Rattle.dxc_jobs.specs.Standbys.{IsFirst}
use Rattle.dxc_jobs.proofs.StandingBy.{all_failed, failed_more, first_answer}
use Rattle.dxc_jobs.proofs.standby.first_link.Goals as goal

pub loop-init : goal.loop-init
loop-init g c = record { coming = λ t. refl; risen = omega arith; sound = λ is. (refl, is) }

pub loop-preserved : goal.loop-preserved
loop-preserved g c =
    let i = c.loop.invariant in
    let more = failed_more g.L.Listener.told g.L.Link.Link.state (g.L.Listener.state c.args.listener.now) (g.L.Listener.state c.loop.listener) (g.L.Listener.state c.accept.new.self) c.loop.counter i.coming i.risen i.sound _ c.accept.ensures c.in-Failed.is in
    record { coming = more.0; risen = more.1.0; sound = more.1.1 }

pub returns-in-Link : goal.returns-in-Link
returns-in-Link g c =
    let i = c.loop.invariant in
    let first = first_answer g.L.Listener.told g.L.Link.Link.state (g.L.Listener.state c.args.listener.now) (g.L.Listener.state c.loop.listener) (g.L.Listener.state c.accept.new.self) c.loop.counter i.coming i.risen i.sound _ c.accept.ensures (λ failed. let no = sym c.in-Link.is ∙ failed in cc) in
    subst (λ (a : Came g.row.L-Link.Denot). IsFirst g.L.Listener.told g.L.Link.Link.state (g.L.Listener.state c.args.listener.now) (g.L.Listener.state c.accept.new.self) a) c.in-Link.is first

pub returns-in-End : goal.returns-in-End
returns-in-End g c =
    let i = c.loop.invariant in
    let first = first_answer g.L.Listener.told g.L.Link.Link.state (g.L.Listener.state c.args.listener.now) (g.L.Listener.state c.loop.listener) (g.L.Listener.state c.accept.new.self) c.loop.counter i.coming i.risen i.sound _ c.accept.ensures (λ failed. let no = sym c.in-End.is ∙ failed in cc) in
    subst (λ (a : Came g.row.L-Link.Denot). IsFirst g.L.Listener.told g.L.Link.Link.state (g.L.Listener.state c.args.listener.now) (g.L.Listener.state c.accept.new.self) a) c.in-End.is first

pub returns : goal.returns
returns g c = let i = c.loop.invariant in all_failed g.L.Listener.told g.L.Link.Link.state (g.L.Listener.state c.args.listener.now) (g.L.Listener.state c.loop.listener) i.coming (let risen = i.risen in let low = c.loop-test.false in let high = c.loop.auto.counter-end in omega (arith, risen, low, high)) (λ s. let none = (i.sound s).0 in let low = c.loop-test.false in absurd (omega (arith, none, low)))
