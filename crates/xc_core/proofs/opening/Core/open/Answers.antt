use Rattle.std.proofs.Common.{◌≡◌, length, refl, ap, subst, sym, ◌∙◌}
use Rattle.std.specs.Prelude.{IfSome, replicate}
use Rattle.std.specs.Box.{with_value}
use Rattle.dxc_outside.specs.declared.gate.GatePlace.TheVariants.{Register}
use Rattle.dxc_causes.specs.Causes.{HasCause}
use Rattle.dxc_disk.specs.Disks.{Spends, files}
use Rattle.fabric_words.specs.Seats.{FabricId, MoverAt}
use Rattle.journal_core.specs.declared.book.Book.{Book}
use Rattle.paull_matrix.specs.Colourings.{Colouring, IsProperColouring}
use Rattle.roll_engine.specs.Cold.{joins_of}
use Rattle.roll_engine.specs.Stages.{IsAtRestOn}
use Rattle.roll_plan.specs.Works.{switches_in}
use Rattle.xc_core.specs.declared.provisioner.Driver.{Driver}
use Rattle.xc_core.specs.declared.provisioner.Provisioner.{Provisioner}
use Rattle.xc_core.specs.declared.state.State.{State}
use Rattle.xc_core.specs.Openings.{Begins, IsOpening, KeepsPassing, LeavesOpened, disk_home}
use Rattle.xc_core.specs.Provisioners.{Boxed}
use Rattle.xc_core.specs.States.{opening_of}
use Rattle.xc_core.proofs.Asked.{none_asked}
use Rattle.xc_core.proofs.Opened.{home_disk, matrix_proper, matrix_shape, opened, state_is}
use Rattle.xc_core.proofs.opening.Core.open.Given as given
use Rattle.xc_core.proofs.opening.Core.open.Goals as goal

pub join_all-requires-clause-own : goal.join_all-requires-clause-own
join_all-requires-clause-own g c =
    let e = ap (λ (x : Driver g.row.D.Denot). x.p) c.deref_mut.ensures.value ∙ c.in-Ok-house.ensures.p in
    ap (λ (p : Provisioner g.row.D.Denot). p.mover.fabric) e ∙ ap (λ (p : Provisioner g.row.D.Denot). p.mover.fabric) c.in-Ok.ensures.ok.held ∙ ap (λ (m : MoverAt). m.fabric) c.requires.new

pub join_all-requires-clause-new : goal.join_all-requires-clause-new
join_all-requires-clause-new g c =
    let e = ap (λ (x : Driver g.row.D.Denot). x.p) c.deref_mut.ensures.value ∙ c.in-Ok-house.ensures.p in
    ap (λ (p : Provisioner g.row.D.Denot). p.mover.mover) e ∙ ap (λ (p : Provisioner g.row.D.Denot). p.mover.mover) c.in-Ok.ensures.ok.held ∙ ap (λ (m : MoverAt). m.mover) c.requires.new

pub join_all-requires-clause-shape : goal.join_all-requires-clause-shape
join_all-requires-clause-shape g c =
    let e = ap (λ (x : Driver g.row.D.Denot). x.p) c.deref_mut.ensures.value ∙ c.in-Ok-house.ensures.p in
    let r = c.in-Ok.ensures.ok in
    ap (λ (p : Provisioner g.row.D.Denot). p.matrix.shape) e ∙ matrix_shape g.D.Disk.told g.D.Disk.state c.args.shelf.now (g.D.Disk.state c.args.disk) c.args.mover c.in-Ok.read r (λ told. g.met.D.Disk.is_disk r.journal.0 told) ∙ sym c.requires.shape

pub join_all-requires-clause-proper : goal.join_all-requires-clause-proper
join_all-requires-clause-proper g c =
    let e = ap (λ (x : Driver g.row.D.Denot). x.p) c.deref_mut.ensures.value ∙ c.in-Ok-house.ensures.p in
    let r = c.in-Ok.ensures.ok in
    subst IsProperColouring (sym (ap (λ (p : Provisioner g.row.D.Denot). p.matrix) e)) (matrix_proper g.D.Disk.told g.D.Disk.state c.args.shelf.now (g.D.Disk.state c.args.disk) c.args.mover c.in-Ok.read r (λ told. g.met.D.Disk.is_disk r.journal.0 told))

-- the box after the joins, as its origin has it
abbrev joined_in : (g : given.Over) → goal.After-begun g → Boxed g.row.D.Denot
joined_in g c = with_value c.in-Ok-house.housed.driver (record { p = c.join_all.new.p; rolling = c.deref_mut.result.now.rolling })

pub returns-clause-ok : goal.returns-clause-ok
returns-clause-ok g c =
    let x = c.in-Ok.read in
    let r = c.in-Ok.ensures.ok in
    let k = c.in-Ok-house.ensures in
    let e = ap (λ (y : Driver g.row.D.Denot). y.p) c.deref_mut.ensures.value ∙ k.p in
    let joined = c.in-Ok-join_all.ensures.joined refl in
    let q = c.join_all.new.p in
    let d = joined_in g c in
    let rest = subst (λ (w : Colouring × FabricId). IsAtRestOn w.1.size w.0 q.mover.mover) (λ i. (ap (λ (y : Provisioner g.row.D.Denot). y.matrix) e i, sym joined.0 i)) joined.1 in
    let joins = joined.2 ∙ ap (λ (y : Provisioner g.row.D.Denot). switches_in (joins_of y.matrix)) e in
    let behind = c.join_all.ensures.others ∙ ap (λ (y : Provisioner g.row.D.Denot). record y { mover = q.mover; spent = q.spent }) (e ∙ r.held) in
    subst (λ (s : State g.row.D.Denot). IsOpening g.D.Disk.told (g.D.Disk.state c.args.disk).reads_as c.args.shelf.now c.args.fabric.now (opening_of g.D.Disk.state s) × Begins g.D.Disk.told g.D.Disk.state s) (sym (state_is x c.in-Ok-house.housed d c.begun.result c.begun.ensures.state k))
    (opened g.D.Disk.told g.D.Disk.state c.args.shelf.now (g.D.Disk.state c.args.disk) c.args.mover x r (λ told. g.met.D.Disk.is_disk r.journal.0 told)
    q.mover rest joins c.args.fabric.now q.spent c.begun.result.origin d joined.0 c.join_all.ensures.spent behind (c.begun.ensures.table ∙ k.table) c.begun.ensures.provisioner (c.begun.ensures.last ∙ k.last) (c.begun.ensures.disk ∙ k.handed) (λ told. (g.met.D.Disk.is_disk c.args.disk told, g.met.D.Disk.is_disk x.p.journal.0 told)))

pub returns-clause-handed : goal.returns-clause-handed
returns-clause-handed g c = ap (λ (d : g.row.D.Denot). files (g.D.Disk.state d).readings) (c.begun.ensures.disk ∙ c.in-Ok-house.ensures.handed) ∙ c.in-Ok.ensures.ok.handed

-- the journal is the one that was read
journal_is : (g : given.Over) (c : goal.After-begun g) → c.join_all.new.p.journal ≡ c.in-Ok.read.p.journal
journal_is g c = ap (λ (p : Provisioner g.row.D.Denot). p.journal) (c.join_all.ensures.others ∙ ap (λ (y : Provisioner g.row.D.Denot). record y { mover = c.join_all.new.p.mover; spent = c.join_all.new.p.spent }) (ap (λ (x : Driver g.row.D.Denot). x.p) c.deref_mut.ensures.value ∙ c.in-Ok-house.ensures.p))

-- what holds of its disk holds of the one that is home
at_home : (g : given.Over) (c : goal.After-begun g) (P : g.row.D.Denot → Type 0) → P c.in-Ok.read.p.journal.0 → IfSome (disk_home c.begun.result.home) P
at_home g c P is =
    let h = c.in-Ok-house.housed in
    home_disk P c.begun.result h.beside.table h.beside.reports (joined_in g c) c.begun.result.origin c.begun.ensures.state (subst (λ (j : g.row.D.Denot × Book). P j.0) (sym (journal_is g c)) is)

pub returns-clause-passing : goal.returns-clause-passing
returns-clause-passing g c told = at_home g c (λ d. KeepsPassing c.args.shelf.now (g.D.Disk.state c.args.disk) (g.D.Disk.state d)) (c.in-Ok.ensures.passing told)

pub returns-clause-any_moment : goal.returns-clause-any_moment
returns-clause-any_moment g c told = at_home g c (λ d. LeavesOpened c.args.shelf.now (g.D.Disk.state c.args.disk) (g.D.Disk.state d)) (c.in-Ok.ensures.any_moment told)

pub returns-clause-asked : goal.returns-clause-asked
returns-clause-asked g c = subst (λ (m : Colouring). g.G.Gate.asked c.args.gate.now c.join_all.new.gate (replicate (length (joins_of m)) Register))
    (sym (ap (λ (x : Provisioner g.row.D.Denot). x.matrix) (c.begun.ensures.provisioner ∙ c.join_all.ensures.others))) (c.in-Ok-join_all.ensures.asked refl)

pub returns-clause-room : goal.returns-clause-room
returns-clause-room g c = at_home g c (λ d. Spends 131_081 (g.D.Disk.state c.args.disk) (g.D.Disk.state d)) c.in-Ok.ensures.room

pub returns-clause-cause : goal.returns-clause-cause
returns-clause-cause g c = at_home g c (λ d. HasCause (g.D.Disk.state c.args.disk).faults (g.D.Disk.state d).faults ⊥) c.in-Ok.ensures.cause

pub returns-in-Err-clause-asked : goal.returns-in-Err-clause-asked
returns-in-Err-clause-asked g c = none_asked g.D.Disk.state (g.G.Gate.asked c.args.gate.now c.args.gate.now) c.in-Err.fault c.in-Err.ensures.unstopped (g.G.Gate.unasked c.args.gate.now)

pub returns-in-Err-house-clause-asked : goal.returns-in-Err-house-clause-asked
returns-in-Err-house-clause-asked g c = g.G.Gate.unasked c.args.gate.now

-- memory was wanting
housed_not : (g : given.Over) (c : goal.In-Err-house g) (P : g.row.D.Denot → Type 0) → P c.in-Ok.read.p.journal.0 → P c.in-Err-house.disk
housed_not g c P is = subst P (sym c.in-Err-house.ensures) is

pub returns-in-Err-house-clause-any_moment : goal.returns-in-Err-house-clause-any_moment
returns-in-Err-house-clause-any_moment g c told = housed_not g c (λ d. LeavesOpened c.args.shelf.now (g.D.Disk.state c.args.disk) (g.D.Disk.state d)) (c.in-Ok.ensures.any_moment told)

pub returns-in-Err-house-clause-passing : goal.returns-in-Err-house-clause-passing
returns-in-Err-house-clause-passing g c told = housed_not g c (λ d. KeepsPassing c.args.shelf.now (g.D.Disk.state c.args.disk) (g.D.Disk.state d)) (c.in-Ok.ensures.passing told)

pub returns-in-Err-house-clause-room : goal.returns-in-Err-house-clause-room
returns-in-Err-house-clause-room g c = housed_not g c (λ d. Spends 131_081 (g.D.Disk.state c.args.disk) (g.D.Disk.state d)) c.in-Ok.ensures.room

pub returns-in-Err-house-clause-cause : goal.returns-in-Err-house-clause-cause
returns-in-Err-house-clause-cause g c = housed_not g c (λ d. HasCause (g.D.Disk.state c.args.disk).faults (g.D.Disk.state d).faults ⊥) c.in-Ok.ensures.cause

-- the gate stopped
stopped_with : (g : given.Over) (c : goal.After-unhoused g) (P : g.row.D.Denot → Type 0) → P c.in-Ok.read.p.journal.0 → P c.unhoused.result
stopped_with g c P is =
    let journal = ap (λ (p : Provisioner g.row.D.Denot). p.journal.0) (c.join_all.ensures.others ∙ ap (λ (y : Provisioner g.row.D.Denot). record y { mover = c.join_all.new.p.mover; spent = c.join_all.new.p.spent }) (ap (λ (x : Driver g.row.D.Denot). x.p) c.deref_mut.ensures.value ∙ c.in-Ok-house.ensures.p)) in
    subst P (sym (c.unhoused.ensures ∙ journal)) is

pub returns-in-Err-join_all-clause-any_moment : goal.returns-in-Err-join_all-clause-any_moment
returns-in-Err-join_all-clause-any_moment g c told = stopped_with g c (λ d. LeavesOpened c.args.shelf.now (g.D.Disk.state c.args.disk) (g.D.Disk.state d)) (c.in-Ok.ensures.any_moment told)

pub returns-in-Err-join_all-clause-passing : goal.returns-in-Err-join_all-clause-passing
returns-in-Err-join_all-clause-passing g c told = stopped_with g c (λ d. KeepsPassing c.args.shelf.now (g.D.Disk.state c.args.disk) (g.D.Disk.state d)) (c.in-Ok.ensures.passing told)

pub returns-in-Err-join_all-clause-room : goal.returns-in-Err-join_all-clause-room
returns-in-Err-join_all-clause-room g c = stopped_with g c (λ d. Spends 131_081 (g.D.Disk.state c.args.disk) (g.D.Disk.state d)) c.in-Ok.ensures.room

pub returns-in-Err-join_all-clause-cause : goal.returns-in-Err-join_all-clause-cause
returns-in-Err-join_all-clause-cause g c = stopped_with g c (λ d. HasCause (g.D.Disk.state c.args.disk).faults (g.D.Disk.state d).faults ⊥) c.in-Ok.ensures.cause
