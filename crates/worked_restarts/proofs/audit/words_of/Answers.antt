use Rattle.std.proofs.Common.{sym, ◌∙◌, ap, subst}
use Rattle.std.specs.Box.{with_value}
use Rattle.xc_core.specs.declared.provisioner.Driver.{Driver}
use Rattle.xc_core.specs.declared.provisioner.Provisioner.{Provisioner}
use Rattle.xc_core.specs.declared.state.Home.{Home}
use Rattle.xc_core.specs.declared.state.Home.TheVariants.{In}
use Rattle.xc_core.specs.declared.state.State.{State}
use Rattle.xc_core.specs.Provisioners.{Ground}
use Rattle.xc_core.specs.States.{HomeIs, with_home}
use Rattle.worked_restarts.proofs.audit.words_of.Goals as goal

pub load_all-words-requires : goal.load_all-words-requires
load_all-words-requires g c =
    let w = c.requires in
    let home = subst (λ (x : Home g.row.D.Denot). HomeIs g.D.Disk.told g.D.Disk.state w.0 w.2.now w.1 x) c.in-Some.ensures.found w.2.home in
    ap (λ (x : Driver g.row.D.Denot). x.p.mover.fabric) c.deref_mut-held.ensures.value ∙ (ap (λ (s : Ground). s.fabric) home.1.ground ∙ w.3)

pub returns : goal.returns
returns g c =
    let driver = c.in-Some.driver in
    let v : Driver g.row.D.Denot = c.deref_mut-held.result.now in
    c.bring_home.ensures
    ∙ ap (λ (p : Provisioner g.row.D.Denot). with_home (In (with_value driver (record { p = p; rolling = v.rolling }))) c.take_out.new.self) c.load_all-words.ensures
    ∙ ap (λ (x : Driver g.row.D.Denot). with_home (In (with_value driver x)) c.take_out.new.self) c.deref_mut-held.ensures.value
    ∙ ap (λ (x : State g.row.D.Denot). with_home (In driver) x) c.in-Some.ensures.state
    ∙ ap (λ (x : Home g.row.D.Denot). with_home x c.args.state.now) (sym c.in-Some.ensures.found)
