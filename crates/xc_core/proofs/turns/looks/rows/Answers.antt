use Rattle.std.proofs.Common.{◌≤◌, List, ◌++◌, refl, sym, ◌∙◌, ap, subst, inl}
use Rattle.std.specs.Prelude.{vec_capacity}
use Rattle.turnstile.proofs.Places.{found_more, left_pass}
use Rattle.dxc_num.specs.Dimensions.{Dimensions, ports}
use Rattle.dxc_model.specs.declared.entry.Entry.{Entry}
use Rattle.dxc_model.specs.declared.entry.Outcome.TheVariants.{Answered}
use Rattle.dxc_model.specs.declared.op.Op.TheVariants.{Rows}
use Rattle.dxc_model.specs.Tables.{Board}
use Rattle.dxc_model.specs.Tables.{rows as rows_of}
use Rattle.xc_core.specs.declared.state.State.{State}
use Rattle.xc_core.specs.Seeing.{codes, entry, place_of}
use Rattle.xc_core.specs.States.{opening_of}
use Rattle.xc_core.specs.Turns.{RowsAre}
use Rattle.xc_core.proofs.Standing.{table_is}
use Rattle.xc_core.proofs.Turning.{astray_own, found_at, leave_stands, numbered_own, saw_once, seen_own, state_shape, turned, turned_read}
use Rattle.xc_core.proofs.turns.looks.rows.Goals as goal

pub rows-requires : goal.rows-requires
rows-requires g c =
    let w = c.requires.seen in
    let f = found_at g.D.Disk.told g.D.Disk.state (opening_of g.D.Disk.state c.args.turns.now.first) c.args.pass.now.number c.enter-turn.result.own c.args.turns.now.passes w.0 c.args.pass.now.seen c.enter-turn.result.seen c.enter-turn.result.state c.enter-turn.ensures.turn.1 c.enter-turn.ensures.found w.1.codes_are in
    subst (λ (d : Dimensions). ports d ≤ vec_capacity c.args.into.now) (sym (ap (λ (s : State g.row.D.Denot). s.table.shape) c.state.ensures ∙ state_shape g.D.Disk.told g.D.Disk.state (opening_of g.D.Disk.state c.args.turns.now.first) c.enter-turn.result.state (w.0 ++ f.later) f.stands)) c.requires.room

pub leave-requires-clause-stands : goal.leave-requires-clause-stands
leave-requires-clause-stands g c =
    let w = c.requires.seen in
    let f = found_at g.D.Disk.told g.D.Disk.state (opening_of g.D.Disk.state c.args.turns.now.first) c.args.pass.now.number c.enter-turn.result.own c.args.turns.now.passes w.0 c.args.pass.now.seen c.enter-turn.result.seen c.enter-turn.result.state c.enter-turn.ensures.turn.1 c.enter-turn.ensures.found w.1.codes_are in
    leave_stands g.D.Disk.told g.D.Disk.state (opening_of g.D.Disk.state c.args.turns.now.first) c.args.pass.now.number w.0 c.enter-turn.result.state c.enter-turn.result.seen f c.enter-turn.result.state c.number-place.result (Rows c.args.selection) Answered (c.number-place.ensures ∙ c.enter-turn.ensures.out.0) refl (turned_read g.D.Disk.told g.D.Disk.state (opening_of g.D.Disk.state c.args.turns.now.first) c.args.pass.now.number w.0 c.enter-turn.result.state c.enter-turn.result.seen f w.2 (Rows c.args.selection) (inl (c.args.selection, refl)))

pub returns-clause-rows : goal.returns-clause-rows
returns-clause-rows g c = λ h saw.
    let w = c.requires.seen in
    let f = found_at g.D.Disk.told g.D.Disk.state (opening_of g.D.Disk.state c.args.turns.now.first) c.args.pass.now.number c.enter-turn.result.own c.args.turns.now.passes w.0 c.args.pass.now.seen c.enter-turn.result.seen c.enter-turn.result.state c.enter-turn.ensures.turn.1 c.enter-turn.ensures.found w.1.codes_are in
    let e = entry c.args.pass.now.number (Rows c.args.selection) Answered in
    let st = turned_read g.D.Disk.told g.D.Disk.state (opening_of g.D.Disk.state c.args.turns.now.first) c.args.pass.now.number w.0 c.enter-turn.result.state c.enter-turn.result.seen f w.2 (Rows c.args.selection) (inl (c.args.selection, refl)) in
    subst (λ (l : List Entry). RowsAre (opening_of g.D.Disk.state c.args.turns.now.first) c.args.pass.now.number l c.args.selection c.leave.new.pass.seen c.rows.new.into.items) (saw_once (opening_of g.D.Disk.state c.args.turns.now.first) c.args.pass.now.seen w.0 h w.1 saw) (
      turned g.D.Disk.told g.D.Disk.state (opening_of g.D.Disk.state c.args.turns.now.first) c.args.pass.now.number w.0 c.enter-turn.result.state c.enter-turn.result.seen f c.enter-turn.result.state e c.leave.new.pass.seen st (seen_own g.D.Disk.told g.D.Disk.state (opening_of g.D.Disk.state c.args.turns.now.first) c.args.pass.now.number w.0 c.enter-turn.result.state c.enter-turn.result.seen f c.number-place.result (Rows c.args.selection) Answered c.leave.new.pass.seen (c.number-place.ensures ∙ c.enter-turn.ensures.out.0) c.leave.ensures.seen),
      c.rows.ensures.rows ∙ ap (λ (b : Board). rows_of b c.args.selection) (ap (λ (s : State g.row.D.Denot). s.table) c.state.ensures ∙ table_is g.D.Disk.told g.D.Disk.state (opening_of g.D.Disk.state c.args.turns.now.first) c.enter-turn.result.state (w.0 ++ f.later) f.stands),
    )

pub returns-clause-table : goal.returns-clause-table
returns-clause-table g c =
    let w = c.requires.seen in
    let f = found_at g.D.Disk.told g.D.Disk.state (opening_of g.D.Disk.state c.args.turns.now.first) c.args.pass.now.number c.enter-turn.result.own c.args.turns.now.passes w.0 c.args.pass.now.seen c.enter-turn.result.seen c.enter-turn.result.state c.enter-turn.ensures.turn.1 c.enter-turn.ensures.found w.1.codes_are in
    (c.state.result.now.table, c.shape-shape.ensures.of_shape, ap (λ (s : State g.row.D.Denot). s.table.shape) c.state.ensures ∙ state_shape g.D.Disk.told g.D.Disk.state (opening_of g.D.Disk.state c.args.turns.now.first) c.enter-turn.result.state (w.0 ++ f.later) f.stands, c.rows.ensures.rows)

pub returns-clause-pass : goal.returns-clause-pass
returns-clause-pass g c =
    left_pass codes place_of c.args.turns.now c.args.pass.now c.enter-turn.new.pass c.leave.new.pass c.enter-turn.result _ c.requires.pass c.enter-turn.ensures.turn.1 (found_more c.enter-turn.ensures.found) c.enter-turn.ensures.dated c.enter-turn.ensures.out c.leave.ensures.pass c.leave.ensures.heard c.leave.ensures.dated c.leave.ensures.seen
    (numbered_own g.D.Disk.told g.D.Disk.state (opening_of g.D.Disk.state c.args.turns.now.first) c.enter-turn.result.own c.args.turns.now.passes c.args.pass.now.seen c.enter-turn.result.seen c.enter-turn.result.state c.enter-turn.ensures.found c.args.pass.now.number c.number-place.result (Rows c.args.selection) Answered c.leave.new.pass.seen (c.number-place.ensures ∙ c.enter-turn.ensures.out.0) c.requires.pass.2 c.leave.ensures.seen)

pub returns-clause-astray : goal.returns-clause-astray
returns-clause-astray g c =
    let w = c.requires.seen in
    let f = found_at g.D.Disk.told g.D.Disk.state (opening_of g.D.Disk.state c.args.turns.now.first) c.args.pass.now.number c.enter-turn.result.own c.args.turns.now.passes w.0 c.args.pass.now.seen c.enter-turn.result.seen c.enter-turn.result.state c.enter-turn.ensures.turn.1 c.enter-turn.ensures.found w.1.codes_are in
    astray_own g.D.Disk.told g.D.Disk.state (opening_of g.D.Disk.state c.args.turns.now.first) c.args.pass.now.number w.0 c.enter-turn.result.state c.enter-turn.result.seen f c.enter-turn.result.state c.number-place.result (Rows c.args.selection) Answered c.leave.new.pass.seen (c.number-place.ensures ∙ c.enter-turn.ensures.out.0) (turned_read g.D.Disk.told g.D.Disk.state (opening_of g.D.Disk.state c.args.turns.now.first) c.args.pass.now.number w.0 c.enter-turn.result.state c.enter-turn.result.seen f w.2 (Rows c.args.selection) (inl (c.args.selection, refl))) c.leave.ensures.seen
