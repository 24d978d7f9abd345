use Rattle.std.proofs.Common.{List, refl, sym, subst, arith}
use Rattle.dxc_disk.proofs.DiskSteps.{spends_none}
use Rattle.dxc_outside.specs.declared.gate.GatePlace.{GatePlace}
use Rattle.user_admin.specs.declared.state.Lists.{Lists}
use Rattle.user_admin.specs.Verdicts.{Grants, Refuses}
use Rattle.user_admin.proofs.Standing.{asked_none, none_left, other_than_disk, was_denied}
use Rattle.user_admin.proofs.state.UserState.change.Goals as goal

pub returns-in-Err-clause-changed : goal.returns-in-Err-clause-changed
returns-in-Err-clause-changed g c = λ o h place st.
    let s = c.args.self.now in
    was_denied g.D.Disk.told g.D.Disk.state o s h st s refl refl refl (λ told. g.met.D.Disk.is_disk s.journal.0 told) (g.met.D.Disk.counts_on s.journal.0) st.book place c.args.op.now c.in-Err.cause
    (subst (λ (x : Lists). Refuses c.args.op.now x.users c.in-Err.cause) c.deref-lists.ensures c.in-Err.ensures) refl refl

pub returns-in-Err-clause-any_moment : goal.returns-in-Err-clause-any_moment
returns-in-Err-clause-any_moment g c = λ told o h st. let s = c.args.self.now in none_left g.D.Disk.told g.D.Disk.state o s h st told (g.met.D.Disk.is_disk s.journal.0 told) c.args.op.now

pub returns-in-Err-clause-asked : goal.returns-in-Err-clause-asked
returns-in-Err-clause-asked g c = subst (λ (places : List GatePlace). g.G.Gate.asked c.args.gate.now c.args.gate.now places) (sym (asked_none c.args.op.now c.deref-lists.result.now.users c.in-Err.cause c.in-Err.ensures)) (g.G.Gate.unasked c.args.gate.now)

pub returns-in-Err-clause-fault : goal.returns-in-Err-clause-fault
returns-in-Err-clause-fault g c = record { later = omega arith; cause = λ same. absurd (other_than_disk c.args.op.now c.deref-lists.result.now.users c.in-Err.cause c.in-Err.ensures same) }

pub returns-in-Err-clause-sound : goal.returns-in-Err-clause-sound
returns-in-Err-clause-sound g c = λ sound same. other_than_disk c.args.op.now c.deref-lists.result.now.users c.in-Err.cause c.in-Err.ensures same

pub returns-in_err-pass-clause-any_moment : goal.returns-in_err-pass-clause-any_moment
returns-in_err-pass-clause-any_moment g c = λ told o h st. let s = c.args.self.now in none_left g.D.Disk.told g.D.Disk.state o s h st told (g.met.D.Disk.is_disk s.journal.0 told) c.args.op.now

pub note-requires : goal.note-requires
note-requires g c = let w = c.requires.stands in record { may = (w.0, w.1, c.args.op.now, record { stands = w.2; names = c.requires.named; granted = subst (λ (x : Lists). Grants c.args.self.now.sid c.args.op.now x.users c.in-Ok.change) c.deref-lists.ensures c.in-Ok.ensures }) }

pub returns-in-Ok-note-clause-changed : goal.returns-in-Ok-note-clause-changed
returns-in-Ok-note-clause-changed g c = λ o h place st. c.in-Ok-note.ensures.noted o h place c.args.op.now (record { stands = st; names = c.requires.named; granted = subst (λ (x : Lists). Grants c.args.self.now.sid c.args.op.now x.users c.in-Ok.change) c.deref-lists.ensures c.in-Ok.ensures })

pub returns-in-Ok-note-clause-any_moment : goal.returns-in-Ok-note-clause-any_moment
returns-in-Ok-note-clause-any_moment g c = λ told o h st. c.note.ensures.any_moment told o h c.args.op.now st (subst (λ (x : Lists). Grants c.args.self.now.sid c.args.op.now x.users c.in-Ok.change) c.deref-lists.ensures c.in-Ok.ensures)

pub returns-in-Err-note-clause-changed : goal.returns-in-Err-note-clause-changed
returns-in-Err-note-clause-changed g c = λ o h place st. c.in-Err-note.ensures.noted o h place c.args.op.now (record { stands = st; names = c.requires.named; granted = subst (λ (x : Lists). Grants c.args.self.now.sid c.args.op.now x.users c.in-Ok.change) c.deref-lists.ensures c.in-Ok.ensures })

pub returns-in-Err-note-clause-any_moment : goal.returns-in-Err-note-clause-any_moment
returns-in-Err-note-clause-any_moment g c = λ told o h st. c.note.ensures.any_moment told o h c.args.op.now st (subst (λ (x : Lists). Grants c.args.self.now.sid c.args.op.now x.users c.in-Ok.change) c.deref-lists.ensures c.in-Ok.ensures)

pub returns-in-Err-clause-short : goal.returns-in-Err-clause-short
returns-in-Err-clause-short g c = λ _. spends_none 69 (g.D.Disk.state c.args.self.now.journal.0)

pub returns-in_err-pass-clause-short : goal.returns-in_err-pass-clause-short
returns-in_err-pass-clause-short g c = λ _. spends_none 69 (g.D.Disk.state c.args.self.now.journal.0)
