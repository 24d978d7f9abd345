use Rattle.std.proofs.Common.{◌≡◌, true, ap, subst, sym, ◌∙◌}
use Rattle.std.specs.Prelude.{IfSome}
use Rattle.dxc_num.specs.Dimensions.{IsInLimits}
use Rattle.dxc_causes.specs.Causes.{HasCause}
use Rattle.dxc_disk.specs.Disks.{Spends, files}
use Rattle.fabric_core.specs.declared.mover.Mover.{Mover}
use Rattle.fabric_words.specs.Seats.{FabricId}
use Rattle.xc_core.specs.declared.provisioner.Provisioner.{Provisioner}
use Rattle.xc_core.specs.declared.state.Home.TheVariants.{In}
use Rattle.xc_core.specs.declared.state.State.{State}
use Rattle.xc_core.specs.Adoptions.{HasSeat, IsAdopting, IsOffLast, IsOnLast}
use Rattle.xc_core.specs.Openings.{Begins, KeepsPassing, LeavesOpened, disk_home}
use Rattle.xc_core.specs.States.{opening_of}
use Rattle.xc_core.proofs.Adoption.{adopted, strange}
use Rattle.xc_core.proofs.Opened.{home_disk, last_start, matrix_shape}
use Rattle.xc_core.proofs.opening.Core.adopt.Given as given
use Rattle.xc_core.proofs.opening.Core.adopt.Goals as goal

pub switches_after-found-requires-clause-own : goal.switches_after-found-requires-clause-own
switches_after-found-requires-clause-own g c = ap (λ (p : Provisioner g.row.D.Denot). p.mover.fabric) c.in-Ok.ensures.ok.held ∙ c.requires.own

pub switches_after-found-requires-clause-shape : goal.switches_after-found-requires-clause-shape
switches_after-found-requires-clause-shape g c =
    let r = c.in-Ok.ensures.ok in
    matrix_shape g.D.Disk.told g.D.Disk.state c.args.shelf.now (g.D.Disk.state c.args.disk) c.args.mover c.in-Ok.read r (λ told. g.met.D.Disk.is_disk r.journal.0 told) ∙ sym c.requires.shape

pub switches_after-found-requires-clause-made : goal.switches_after-found-requires-clause-made
switches_after-found-requires-clause-made g c =
    let r = c.in-Ok.ensures.ok in
    last_start g.D.Disk.told g.D.Disk.state c.args.shelf.now (g.D.Disk.state c.args.disk) c.args.mover c.in-Ok.read r (λ told. g.met.D.Disk.is_disk r.journal.0 told)

-- what was put into the box
behind : (g : given.Over) (c : goal.After-begun g) → c.in-Ok-house.housed.driver.value.p ≡ record (c.in-Ok.read.p) { halted = true; spent = c.in-Some.switches }
behind g c =
    let x = c.in-Ok.read in
    let found = c.switches_after-found in
    let n = c.in-Some.switches in
    let still : record (x.p) { matrix = found.new.matrix; mover = found.new.mover; halted = true; spent = n } ≡ record (x.p) { halted = true; spent = n } = λ i. record (x.p) { matrix = found.ensures.matrix i; mover = found.ensures.mover i; halted = true; spent = n } in
    c.in-Ok-house.ensures.p ∙ c.halt_at.ensures ∙ still

pub returns-clause-state : goal.returns-clause-state
returns-clause-state g c =
    let x = c.in-Ok.read in
    let r = c.in-Ok.ensures.ok in
    let h = c.in-Ok-house.housed in
    let k = c.in-Ok-house.ensures in
    let found = c.switches_after-found in
    let n = c.in-Some.switches in
    let limits : IsInLimits c.args.shelf.now.shape = subst IsInLimits c.requires.shape found.ensures.sized.shape in
    let on = subst (λ (w : FabricId × Mover). IsOnLast w.0.size w.1 x.last.ops.items x.p.matrix n) (λ i. (sym c.requires.own i, ap (λ (p : Provisioner g.row.D.Denot). p.mover.mover) r.held i)) c.in-Some.ensures.switches in
    let box = behind g c ∙ ap (λ (p : Provisioner g.row.D.Denot). record p { halted = true; spent = n }) r.held in
    subst (λ (s : State g.row.D.Denot). IsAdopting g.D.Disk.told (g.D.Disk.state c.args.disk).reads_as c.args.shelf.now c.args.mover (opening_of g.D.Disk.state s) × Begins g.D.Disk.told g.D.Disk.state s × HasSeat c.args.mover s)
    (sym (c.begun.ensures.state ∙ (λ i. record { table = k.table i; reports = k.reports i; home = In (h.driver); origin = c.begun.result.origin })))
    (adopted g.D.Disk.told g.D.Disk.state c.args.shelf.now (g.D.Disk.state c.args.disk) c.args.mover x r (λ told. g.met.D.Disk.is_disk r.journal.0 told) limits n on c.begun.result.origin h.driver box (c.begun.ensures.table ∙ k.table) c.begun.ensures.provisioner (c.begun.ensures.last ∙ k.last) (c.begun.ensures.disk ∙ k.handed) (λ told. (g.met.D.Disk.is_disk c.args.disk told, g.met.D.Disk.is_disk x.p.journal.0 told)))

pub returns-clause-handed : goal.returns-clause-handed
returns-clause-handed g c = ap (λ (d : g.row.D.Denot). files (g.D.Disk.state d).readings) (c.begun.ensures.disk ∙ c.in-Ok-house.ensures.handed) ∙ c.in-Ok.ensures.ok.handed

-- what holds of its disk holds of the one that is home
at_home : (g : given.Over) (c : goal.After-begun g) (P : g.row.D.Denot → Type 0) → P c.in-Ok.read.p.journal.0 → IfSome (disk_home c.begun.result.home) P
at_home g c P is =
    let h = c.in-Ok-house.housed in
    home_disk P c.begun.result h.beside.table h.beside.reports h.driver c.begun.result.origin c.begun.ensures.state (subst (λ (p : Provisioner g.row.D.Denot). P p.journal.0) (sym (behind g c)) is)

pub returns-clause-passing : goal.returns-clause-passing
returns-clause-passing g c told = at_home g c (λ d. KeepsPassing c.args.shelf.now (g.D.Disk.state c.args.disk) (g.D.Disk.state d)) (c.in-Ok.ensures.passing told)

pub returns-clause-any_moment : goal.returns-clause-any_moment
returns-clause-any_moment g c told = at_home g c (λ d. LeavesOpened c.args.shelf.now (g.D.Disk.state c.args.disk) (g.D.Disk.state d)) (c.in-Ok.ensures.any_moment told)

pub returns-clause-room : goal.returns-clause-room
returns-clause-room g c = at_home g c (λ d. Spends 131_081 (g.D.Disk.state c.args.disk) (g.D.Disk.state d)) c.in-Ok.ensures.room

pub returns-clause-cause : goal.returns-clause-cause
returns-clause-cause g c = at_home g c (λ d. HasCause (g.D.Disk.state c.args.disk).faults (g.D.Disk.state d).faults ⊥) c.in-Ok.ensures.cause

pub returns-in_default-clause-passing : goal.returns-in_default-clause-passing
returns-in_default-clause-passing g c told = subst (λ (d : g.row.D.Denot). KeepsPassing c.args.shelf.now (g.D.Disk.state c.args.disk) (g.D.Disk.state d)) (sym c.release-disk.ensures.disk) (c.in-Ok.ensures.passing told)

pub returns-in_default-clause-strange : goal.returns-in_default-clause-strange
returns-in_default-clause-strange g c =
    let x = c.in-Ok.read in
    let r = c.in-Ok.ensures.ok in
    let found = c.switches_after-found in
    let limits : IsInLimits c.args.shelf.now.shape = subst IsInLimits c.requires.shape found.ensures.sized.shape in
    let off = subst (λ (w : FabricId × Mover). IsOffLast w.0.size w.1 x.last.ops.items x.p.matrix) (λ i. (sym c.requires.own i, ap (λ (p : Provisioner g.row.D.Denot). p.mover.mover) r.held i)) c.in_default.ensures.switches in (
      c.release-disk.ensures.mover ∙ found.ensures.mover ∙ ap (λ (p : Provisioner g.row.D.Denot). p.mover) r.held,
      strange g.D.Disk.told g.D.Disk.state c.args.shelf.now (g.D.Disk.state c.args.disk) c.args.mover x r (λ told. g.met.D.Disk.is_disk r.journal.0 told) limits off,
    )

-- memory was wanting
housed_not : (g : given.Over) (c : goal.In-Err-house g) (P : g.row.D.Denot → Type 0) → P c.in-Ok.read.p.journal.0 → P c.in-Err-house.disk
housed_not g c P is = subst P (sym c.in-Err-house.ensures) (subst (λ (p : Provisioner g.row.D.Denot). P p.journal.0) (sym c.halt_at.ensures) is)

pub returns-in-Err-house-clause-passing : goal.returns-in-Err-house-clause-passing
returns-in-Err-house-clause-passing g c told = housed_not g c (λ d. KeepsPassing c.args.shelf.now (g.D.Disk.state c.args.disk) (g.D.Disk.state d)) (c.in-Ok.ensures.passing told)

pub returns-in-Err-house-clause-any_moment : goal.returns-in-Err-house-clause-any_moment
returns-in-Err-house-clause-any_moment g c told = housed_not g c (λ d. LeavesOpened c.args.shelf.now (g.D.Disk.state c.args.disk) (g.D.Disk.state d)) (c.in-Ok.ensures.any_moment told)

pub returns-in-Err-house-clause-room : goal.returns-in-Err-house-clause-room
returns-in-Err-house-clause-room g c = housed_not g c (λ d. Spends 131_081 (g.D.Disk.state c.args.disk) (g.D.Disk.state d)) c.in-Ok.ensures.room

pub returns-in-Err-house-clause-cause : goal.returns-in-Err-house-clause-cause
returns-in-Err-house-clause-cause g c = housed_not g c (λ d. HasCause (g.D.Disk.state c.args.disk).faults (g.D.Disk.state d).faults ⊥) c.in-Ok.ensures.cause
