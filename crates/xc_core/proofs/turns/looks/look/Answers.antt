use Rattle.std.proofs.Common.{ℕ, arith, List, min, [], ◌∷◌, ◌++◌, refl, ◌∙◌, ap, subst, inr}
use Rattle.turnstile.proofs.Places.{found_more, left_pass}
use Rattle.dxc_model.specs.declared.entry.Entry.{Entry}
use Rattle.dxc_model.specs.declared.entry.Outcome.TheVariants.{Answered}
use Rattle.dxc_model.specs.declared.op.Op.TheVariants.{Look}
use Rattle.dbchg_reports.specs.Recent.{Recent, SinceIs}
use Rattle.xc_core.specs.declared.state.State.{State}
use Rattle.xc_core.specs.Seeing.{codes, entry, place_of}
use Rattle.dxc_model.proofs.Growth.{legal_so_far}
use Rattle.xc_core.specs.States.{opening_of, rules_of}
use Rattle.xc_core.proofs.Reported.{given_apt, given_few, legal_apt}
use Rattle.xc_core.specs.Turns.{LookIs}
use Rattle.xc_core.proofs.Turning.{astray_own, found_at, leave_stands, numbered_own, saw_once, seen_own, turned, turned_read}
use Rattle.xc_core.proofs.turns.looks.look.Goals as goal

pub leave-requires-clause-stands : goal.leave-requires-clause-stands
leave-requires-clause-stands g c =
    let w = c.requires.seen in
    let f = found_at g.D.Disk.told g.D.Disk.state (opening_of g.D.Disk.state c.args.turns.now.first) c.args.pass.now.number c.enter-turn.result.own c.args.turns.now.passes w.0 c.args.pass.now.seen c.enter-turn.result.seen c.enter-turn.result.state c.enter-turn.ensures.turn.1 c.enter-turn.ensures.found w.1.codes_are in
    leave_stands g.D.Disk.told g.D.Disk.state (opening_of g.D.Disk.state c.args.turns.now.first) c.args.pass.now.number w.0 c.enter-turn.result.state c.enter-turn.result.seen f c.enter-turn.result.state c.number-place.result (Look c.args.cursor) Answered (c.number-place.ensures ∙ c.enter-turn.ensures.out.0) refl (turned_read g.D.Disk.told g.D.Disk.state (opening_of g.D.Disk.state c.args.turns.now.first) c.args.pass.now.number w.0 c.enter-turn.result.state c.enter-turn.result.seen f w.2 (Look c.args.cursor) (inr (c.args.cursor, refl)))

pub returns-clause-look : goal.returns-clause-look
returns-clause-look g c = λ h saw.
    let w = c.requires.seen in
    let f = found_at g.D.Disk.told g.D.Disk.state (opening_of g.D.Disk.state c.args.turns.now.first) c.args.pass.now.number c.enter-turn.result.own c.args.turns.now.passes w.0 c.args.pass.now.seen c.enter-turn.result.seen c.enter-turn.result.state c.enter-turn.ensures.turn.1 c.enter-turn.ensures.found w.1.codes_are in
    let e = entry c.args.pass.now.number (Look c.args.cursor) Answered in
    let st = turned_read g.D.Disk.told g.D.Disk.state (opening_of g.D.Disk.state c.args.turns.now.first) c.args.pass.now.number w.0 c.enter-turn.result.state c.enter-turn.result.seen f w.2 (Look c.args.cursor) (inr (c.args.cursor, refl)) in
    subst (λ (l : List Entry). LookIs (opening_of g.D.Disk.state c.args.turns.now.first) c.args.pass.now.number l c.args.cursor c.leave.new.pass.seen (record { since = c.since-since.result; newest = c.newest-newest.result }) c.since-since.new.into.items) (saw_once (opening_of g.D.Disk.state c.args.turns.now.first) c.args.pass.now.seen w.0 h w.1 saw) (
      turned g.D.Disk.told g.D.Disk.state (opening_of g.D.Disk.state c.args.turns.now.first) c.args.pass.now.number w.0 c.enter-turn.result.state c.enter-turn.result.seen f c.enter-turn.result.state e c.leave.new.pass.seen st (seen_own g.D.Disk.told g.D.Disk.state (opening_of g.D.Disk.state c.args.turns.now.first) c.args.pass.now.number w.0 c.enter-turn.result.state c.enter-turn.result.seen f c.number-place.result (Look c.args.cursor) Answered c.leave.new.pass.seen (c.number-place.ensures ∙ c.enter-turn.ensures.out.0) c.leave.ensures.seen),
      subst (λ (r : Recent). SinceIs r (min c.args.cursor r.newest) c.since-since.result c.since-since.new.into.items) (ap (λ (s : State g.row.D.Denot). s.reports) c.state.ensures ∙ f.stands.reports) (subst (λ (n : ℕ). SinceIs c.state.result.now.reports n c.since-since.result c.since-since.new.into.items) (c.min.ensures ∙ ap (λ (n : ℕ). min c.args.cursor n) c.newest-newest.ensures) c.since-since.ensures.since),
      c.newest-newest.ensures ∙ ap (λ (s : State g.row.D.Denot). s.reports.newest) c.state.ensures ∙ ap (λ (r : Recent). r.newest) f.stands.reports,
    )

pub returns-clause-few : goal.returns-clause-few
returns-clause-few g c =
    let w = c.requires.seen in
    let is = returns-clause-look g c w.0 w.1 in
    let number = is.2 in
    let few = given_few _ c.since-since.new.into.items _ c.since-since.result is.1 in
    omega (arith, number, few)

pub returns-clause-apt : goal.returns-clause-apt
returns-clause-apt g c =
    let w = c.requires.seen in
    let o = opening_of g.D.Disk.state c.args.turns.now.first in
    let is = returns-clause-look g c w.0 w.1 in
    given_apt o.first.fold.table.shape _ c.since-since.new.into.items _ c.since-since.result is.1 (legal_apt (rules_of o) (w.0 ++ is.0.later) (legal_so_far (rules_of o) (w.0 ++ is.0.later) (entry c.args.pass.now.number (Look c.args.cursor) Answered ∷ []) is.0.saw.history.legal))

pub returns-clause-pass : goal.returns-clause-pass
returns-clause-pass g c =
    left_pass codes place_of c.args.turns.now c.args.pass.now c.enter-turn.new.pass c.leave.new.pass c.enter-turn.result _ c.requires.pass c.enter-turn.ensures.turn.1 (found_more c.enter-turn.ensures.found) c.enter-turn.ensures.dated c.enter-turn.ensures.out c.leave.ensures.pass c.leave.ensures.heard c.leave.ensures.dated c.leave.ensures.seen
    (numbered_own g.D.Disk.told g.D.Disk.state (opening_of g.D.Disk.state c.args.turns.now.first) c.enter-turn.result.own c.args.turns.now.passes c.args.pass.now.seen c.enter-turn.result.seen c.enter-turn.result.state c.enter-turn.ensures.found c.args.pass.now.number c.number-place.result (Look c.args.cursor) Answered c.leave.new.pass.seen (c.number-place.ensures ∙ c.enter-turn.ensures.out.0) c.requires.pass.2 c.leave.ensures.seen)

pub returns-clause-astray : goal.returns-clause-astray
returns-clause-astray g c =
    let w = c.requires.seen in
    let f = found_at g.D.Disk.told g.D.Disk.state (opening_of g.D.Disk.state c.args.turns.now.first) c.args.pass.now.number c.enter-turn.result.own c.args.turns.now.passes w.0 c.args.pass.now.seen c.enter-turn.result.seen c.enter-turn.result.state c.enter-turn.ensures.turn.1 c.enter-turn.ensures.found w.1.codes_are in
    astray_own g.D.Disk.told g.D.Disk.state (opening_of g.D.Disk.state c.args.turns.now.first) c.args.pass.now.number w.0 c.enter-turn.result.state c.enter-turn.result.seen f c.enter-turn.result.state c.number-place.result (Look c.args.cursor) Answered c.leave.new.pass.seen (c.number-place.ensures ∙ c.enter-turn.ensures.out.0) (turned_read g.D.Disk.told g.D.Disk.state (opening_of g.D.Disk.state c.args.turns.now.first) c.args.pass.now.number w.0 c.enter-turn.result.state c.enter-turn.result.seen f w.2 (Look c.args.cursor) (inr (c.args.cursor, refl))) c.leave.ensures.seen
