use Rattle.std.proofs.Common.{◌≡◌, List, ◌++◌, refl, sym, ◌∙◌, ap, subst, inr}
use Rattle.std.specs.Prelude.{ℕ, filter, Option, IfSome}
use Rattle.std.specs.List.{range_with_len}
use Rattle.turnstile.proofs.Places.{found_more, left_pass}
use Rattle.dxc_num.specs.declared.port.Middle.{Middle}
use Rattle.dxc_num.specs.Dimensions.{Dimensions, IsWorking}
use Rattle.dxc_model.specs.Equipment.{has_bit}
use Rattle.dxc_model.specs.Tables.{Board}
use Rattle.dxc_model.specs.declared.entry.Entry.{Entry}
use Rattle.dxc_model.specs.declared.entry.Outcome.TheVariants.{Answered}
use Rattle.dxc_model.specs.declared.op.Op.TheVariants.{Look}
use Rattle.dbchg_reports.specs.Recent.{Recent}
use Rattle.xc_core.specs.declared.state.State.{State}
use Rattle.xc_core.specs.Seeing.{codes, entry, place_of}
use Rattle.xc_core.specs.States.{opening_of}
use Rattle.xc_core.specs.Turns.{InventoryIs}
use Rattle.xc_core.proofs.Standing.{table_is}
use Rattle.xc_core.proofs.Turning.{astray_own, found_at, leave_stands, numbered_own, saw_once, seen_own, state_shape, turned, turned_read}
use Rattle.xc_core.proofs.turns.looks.read_inventory.Goals as goal

pub leave-requires-clause-stands : goal.leave-requires-clause-stands
leave-requires-clause-stands g c =
    let w = c.requires.seen in
    let f = found_at g.D.Disk.told g.D.Disk.state (opening_of g.D.Disk.state c.args.turns.now.first) c.args.pass.now.number c.enter-turn.result.own c.args.turns.now.passes w.0 c.args.pass.now.seen c.enter-turn.result.seen c.enter-turn.result.state c.enter-turn.ensures.turn.1 c.enter-turn.ensures.found w.1.codes_are in
    leave_stands g.D.Disk.told g.D.Disk.state (opening_of g.D.Disk.state c.args.turns.now.first) c.args.pass.now.number w.0 c.enter-turn.result.state c.enter-turn.result.seen f c.enter-turn.result.state c.number-place.result (Look c.newest-newest.result) Answered (c.number-place.ensures ∙ c.enter-turn.ensures.out.0) refl (turned_read g.D.Disk.told g.D.Disk.state (opening_of g.D.Disk.state c.args.turns.now.first) c.args.pass.now.number w.0 c.enter-turn.result.state c.enter-turn.result.seen f w.2 (Look c.newest-newest.result) (inr (c.newest-newest.result, refl)))

pub returns-clause-inventory : goal.returns-clause-inventory
returns-clause-inventory g c = λ h saw.
    let w = c.requires.seen in
    let f = found_at g.D.Disk.told g.D.Disk.state (opening_of g.D.Disk.state c.args.turns.now.first) c.args.pass.now.number c.enter-turn.result.own c.args.turns.now.passes w.0 c.args.pass.now.seen c.enter-turn.result.seen c.enter-turn.result.state c.enter-turn.ensures.turn.1 c.enter-turn.ensures.found w.1.codes_are in
    let e = entry c.args.pass.now.number (Look c.newest-newest.result) Answered in
    let st = turned_read g.D.Disk.told g.D.Disk.state (opening_of g.D.Disk.state c.args.turns.now.first) c.args.pass.now.number w.0 c.enter-turn.result.state c.enter-turn.result.seen f w.2 (Look c.newest-newest.result) (inr (c.newest-newest.result, refl)) in
    let of = ap (λ (s : State g.row.D.Denot). s.table) c.state-state.ensures ∙ table_is g.D.Disk.told g.D.Disk.state (opening_of g.D.Disk.state c.args.turns.now.first) c.enter-turn.result.state (w.0 ++ f.later) f.stands in
    subst (λ (l : List Entry). InventoryIs (opening_of g.D.Disk.state c.args.turns.now.first) c.args.pass.now.number l c.leave.new.pass.seen (record { modules = c.modules.result; equipped = c.equipment.result; out = c.out.result })) (saw_once (opening_of g.D.Disk.state c.args.turns.now.first) c.args.pass.now.seen w.0 h w.1 saw) (
      c.newest-newest.result,
      (
        turned g.D.Disk.told g.D.Disk.state (opening_of g.D.Disk.state c.args.turns.now.first) c.args.pass.now.number w.0 c.enter-turn.result.state c.enter-turn.result.seen f c.enter-turn.result.state e c.leave.new.pass.seen st (seen_own g.D.Disk.told g.D.Disk.state (opening_of g.D.Disk.state c.args.turns.now.first) c.args.pass.now.number w.0 c.enter-turn.result.state c.enter-turn.result.seen f c.number-place.result (Look c.newest-newest.result) Answered c.leave.new.pass.seen (c.number-place.ensures ∙ c.enter-turn.ensures.out.0) c.leave.ensures.seen),
        c.newest-newest.ensures ∙ ap (λ (s : State g.row.D.Denot). s.reports.newest) c.state-state.ensures ∙ ap (λ (r : Recent). r.newest) f.stands.reports,
      ),
      (ap (λ (n : ℕ). filter (has_bit c.equipment.result) (range_with_len 0 n)) (c.modules.ensures.value ∙ ap (λ (d : Dimensions). d.modules) c.shape-shape.ensures.value) ∙ c.equipment.ensures ∙ ap (λ (b : Board). b.equipped) of, c.out.ensures ∙ ap (λ (b : Board). b.out) of),
    )

pub returns-clause-of_shape : goal.returns-clause-of_shape
returns-clause-of_shape g c =
    let w = c.requires.seen in
    let f = found_at g.D.Disk.told g.D.Disk.state (opening_of g.D.Disk.state c.args.turns.now.first) c.args.pass.now.number c.enter-turn.result.own c.args.turns.now.passes w.0 c.args.pass.now.seen c.enter-turn.result.seen c.enter-turn.result.state c.enter-turn.ensures.turn.1 c.enter-turn.ensures.found w.1.codes_are in
    let table = c.state-state.result.now.table in
    let of : table.shape ≡ (opening_of g.D.Disk.state c.args.turns.now.first).first.fold.table.shape = ap (λ (s : State g.row.D.Denot). s.table.shape) c.state-state.ensures ∙ state_shape g.D.Disk.told g.D.Disk.state (opening_of g.D.Disk.state c.args.turns.now.first) c.enter-turn.result.state (w.0 ++ f.later) f.stands in
    (c.modules.ensures.value ∙ ap (λ (d : Dimensions). d.modules) (c.shape-shape.ensures.value ∙ of), subst (λ (p : Dimensions × Option Middle). IfSome p.1 (λ m. IsWorking p.0 m.0)) (λ i. (of i, sym c.out.ensures i)) c.shape-shape.ensures.of_shape.out)

pub returns-clause-pass : goal.returns-clause-pass
returns-clause-pass g c =
    left_pass codes place_of c.args.turns.now c.args.pass.now c.enter-turn.new.pass c.leave.new.pass c.enter-turn.result _ c.requires.pass c.enter-turn.ensures.turn.1 (found_more c.enter-turn.ensures.found) c.enter-turn.ensures.dated c.enter-turn.ensures.out c.leave.ensures.pass c.leave.ensures.heard c.leave.ensures.dated c.leave.ensures.seen
    (numbered_own g.D.Disk.told g.D.Disk.state (opening_of g.D.Disk.state c.args.turns.now.first) c.enter-turn.result.own c.args.turns.now.passes c.args.pass.now.seen c.enter-turn.result.seen c.enter-turn.result.state c.enter-turn.ensures.found c.args.pass.now.number c.number-place.result (Look c.newest-newest.result) Answered c.leave.new.pass.seen (c.number-place.ensures ∙ c.enter-turn.ensures.out.0) c.requires.pass.2 c.leave.ensures.seen)

pub returns-clause-astray : goal.returns-clause-astray
returns-clause-astray g c =
    let w = c.requires.seen in
    let f = found_at g.D.Disk.told g.D.Disk.state (opening_of g.D.Disk.state c.args.turns.now.first) c.args.pass.now.number c.enter-turn.result.own c.args.turns.now.passes w.0 c.args.pass.now.seen c.enter-turn.result.seen c.enter-turn.result.state c.enter-turn.ensures.turn.1 c.enter-turn.ensures.found w.1.codes_are in
    astray_own g.D.Disk.told g.D.Disk.state (opening_of g.D.Disk.state c.args.turns.now.first) c.args.pass.now.number w.0 c.enter-turn.result.state c.enter-turn.result.seen f c.enter-turn.result.state c.number-place.result (Look c.newest-newest.result) Answered c.leave.new.pass.seen (c.number-place.ensures ∙ c.enter-turn.ensures.out.0) (turned_read g.D.Disk.told g.D.Disk.state (opening_of g.D.Disk.state c.args.turns.now.first) c.args.pass.now.number w.0 c.enter-turn.result.state c.enter-turn.result.seen f w.2 (Look c.newest-newest.result) (inr (c.newest-newest.result, refl))) c.leave.ensures.seen
