use Rattle.std.proofs.Common.{◌∙◌, ap, subst, sym}
use Rattle.dxc_num.specs.Dimensions.{Dimensions}
use Rattle.fabric_words.specs.New.{AreNew}
use Rattle.fabric_words.specs.Seats.{FabricId}
use Rattle.shelf_file.specs.Contents.{Contents}
use Rattle.dxc_element.proofs.Starting.{no_memory, not_opened, started}
use Rattle.dxc_element.proofs.opening.start_on.Goals as goal

pub returns-in_default-clause-started : goal.returns-in_default-clause-started
returns-in_default-clause-started g c = no_memory _ _ _ _ _ (g.met.D.Disk.is_disk c.args.disk)

pub returns-in_default-new-clause-started : goal.returns-in_default-new-clause-started
returns-in_default-new-clause-started g c = no_memory _ _ _ _ _ (g.met.D.Disk.is_disk c.args.disk)

pub returns-in_default-new-2-clause-started : goal.returns-in_default-new-2-clause-started
returns-in_default-new-2-clause-started g c = no_memory _ _ _ _ _ (g.met.D.Disk.is_disk c.args.disk)

pub returns-in-Ok-open-clause-started : goal.returns-in-Ok-open-clause-started
returns-in-Ok-open-clause-started g c =
    let e = c.open.ensures in
    let x = c.in-Ok-open.ensures.ok in
    let laid = c.deref-3.result.now in
    let fabric = c.deref-3.ensures ∙ c.in-Ok-new-2.ensures.ok in
    started g.D.Disk.told g.D.Disk.state _ g.met.D.Disk.counts_on c.args.disk c.args.shelf c.deref-2.result.now c.args.workers laid _ c.open.result c.in-Ok.ensures.ok (c.deref-2.ensures ∙ c.in-Ok.ensures.ok) (sym c.deref-3.ensures)
    (ap (λ (i : FabricId). i.size) fabric ∙ (c.in-Ok-new.ensures.fabric ∙ ap (λ (d : Dimensions). record { shape = d; workers = c.args.workers }) (c.shape.ensures ∙ ap (λ (s : Contents). s.shape) (c.deref.ensures ∙ c.in-Ok.ensures.ok))))
    c.in-Ok-open.is x.0 c.in-Ok-open.ensures.handed x.1 e.cause e.room (c.in-Ok-new.ensures.workers.0, subst (λ (i : FabricId). AreNew i 0 c.in-Ok-new.seats.items) (sym fabric) c.in-Ok-new.ensures.workers.1)

pub returns-in-Err-clause-started : goal.returns-in-Err-clause-started
returns-in-Err-clause-started g c =
    let e = c.in-Err.ensures in
    not_opened g.D.Disk.told g.D.Disk.state c.args.disk c.args.shelf c.deref-2.result.now _ c.in-Err.fault (c.deref-2.ensures ∙ c.in-Ok.ensures.ok) e.fails e.any_moment e.sound e.stopped.cause
