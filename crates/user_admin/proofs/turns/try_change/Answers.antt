use Rattle.std.proofs.Common.{ℕ, sym, subst}
use Rattle.turnstile.proofs.Places.{keeps_more}
use Rattle.dxc_model.specs.declared.cause.Cause.TheVariants.{DiskFault}
use Rattle.user_admin.specs.declared.op.UserOutcome.TheVariants.{Done, Failed}
use Rattle.user_admin.specs.declared.shared.Planned.TheVariants.{Denied, Taken, Waits}
use Rattle.user_admin.specs.declared.state.UserState.{UserState}
use Rattle.user_admin.specs.Marks.{entries_of, place_of}
use Rattle.user_admin.specs.Shared.{HasKept, opening_at}
use Rattle.user_admin.specs.States.{IsGranted, entry}
use Rattle.user_admin.specs.Turns.{Turned, codes}
use Rattle.user_admin.proofs.Sharing.{kept_done, kept_failed}
use Rattle.user_admin.proofs.Turning.{takes_as, turned_taken}
use Rattle.user_admin.proofs.turns.try_change.Goals as goal

pub note-requires : goal.note-requires
note-requires g c =
    let w = c.requires.seen in
    let t = takes_as g.D.Disk.told g.D.Disk.state (opening_at g.D.Disk.state c.args.turns.now.first) c.args.pass.now.number w.0 c.args.op.now c.take.new.pass.seen c.in-Ok-Taken.field-0 (Taken c.in-Ok-Taken.keeper c.in-Ok-Taken.change) c.in-Ok-Taken.field-0-is (c.in-Ok-Taken.ensures.took w.0 w.1) in
    record { may = ((opening_at g.D.Disk.state c.args.turns.now.first), entries_of t.marks, c.args.op.now, subst (λ (s : UserState g.row.D.Denot). IsGranted g.D.Disk.told g.D.Disk.state (opening_at g.D.Disk.state c.args.turns.now.first) (entries_of t.marks) c.args.op.now s c.in-Ok-Taken.change) (sym c.deref_mut-state.ensures.value) (record { stands = t.keeper.stands; names = c.requires.named; granted = t.keeper.granted })) }

pub bring-requires-clause-kept : goal.bring-requires-clause-kept
bring-requires-clause-kept g c =
    let w = c.requires.seen in
    let t = takes_as g.D.Disk.told g.D.Disk.state (opening_at g.D.Disk.state c.args.turns.now.first) c.args.pass.now.number w.0 c.args.op.now c.take.new.pass.seen c.in-Ok-Taken.field-0 (Taken c.in-Ok-Taken.keeper c.in-Ok-Taken.change) c.in-Ok-Taken.field-0-is (c.in-Ok-Taken.ensures.took w.0 w.1) in
    (t.marks, t.codes_are, subst (λ (n : ℕ). HasKept g.D.Disk.told g.D.Disk.state (opening_at g.D.Disk.state c.args.turns.now.first) n c.args.op.now t.marks c.note.new.self (Done c.in-Ok-Taken.change)) (sym c.take.ensures.pass.goes.same.0) (kept_done g.D.Disk.told g.D.Disk.state (λ d told. g.met.D.Disk.is_disk d told) (λ d. g.met.D.Disk.counts_on d) (opening_at g.D.Disk.state c.args.turns.now.first) c.args.pass.now.number c.args.op.now t.marks c.in-Ok-Taken.keeper.value c.note.new.self c.in-Ok-Taken.change t.keeper c.requires.named (λ h n op is. c.in-Ok.ensures.noted (opening_at g.D.Disk.state c.args.turns.now.first) h n op (subst (λ (s : UserState g.row.D.Denot). IsGranted g.D.Disk.told g.D.Disk.state (opening_at g.D.Disk.state c.args.turns.now.first) h op s c.in-Ok-Taken.change) (sym c.deref_mut-state.ensures.value) is))))

pub bring-requires-in-Err-note-clause-kept : goal.bring-requires-in-Err-note-clause-kept
bring-requires-in-Err-note-clause-kept g c =
    let w = c.requires.seen in
    let t = takes_as g.D.Disk.told g.D.Disk.state (opening_at g.D.Disk.state c.args.turns.now.first) c.args.pass.now.number w.0 c.args.op.now c.take.new.pass.seen c.in-Ok-Taken.field-0 (Taken c.in-Ok-Taken.keeper c.in-Ok-Taken.change) c.in-Ok-Taken.field-0-is (c.in-Ok-Taken.ensures.took w.0 w.1) in
    (t.marks, t.codes_are, subst (λ (n : ℕ). HasKept g.D.Disk.told g.D.Disk.state (opening_at g.D.Disk.state c.args.turns.now.first) n c.args.op.now t.marks c.note.new.self (Failed DiskFault)) (sym c.take.ensures.pass.goes.same.0) (kept_failed g.D.Disk.told g.D.Disk.state (λ d told. g.met.D.Disk.is_disk d told) (λ d. g.met.D.Disk.counts_on d) (opening_at g.D.Disk.state c.args.turns.now.first) c.args.pass.now.number c.args.op.now t.marks c.in-Ok-Taken.keeper.value c.note.new.self c.in-Ok-Taken.change t.keeper c.requires.named (λ h n op is. c.in-Err-note.ensures.noted (opening_at g.D.Disk.state c.args.turns.now.first) h n op (subst (λ (s : UserState g.row.D.Denot). IsGranted g.D.Disk.told g.D.Disk.state (opening_at g.D.Disk.state c.args.turns.now.first) h op s c.in-Ok-Taken.change) (sym c.deref_mut-state.ensures.value) is))))

pub returns-in-Ok-clause-took : goal.returns-in-Ok-clause-took
returns-in-Ok-clause-took g c = λ h saw.
    let t = takes_as g.D.Disk.told g.D.Disk.state (opening_at g.D.Disk.state c.args.turns.now.first) c.args.pass.now.number h c.args.op.now c.take.new.pass.seen c.in-Ok-Taken.field-0 (Taken c.in-Ok-Taken.keeper c.in-Ok-Taken.change) c.in-Ok-Taken.field-0-is (c.in-Ok-Taken.ensures.took h saw) in
    (c.in-Ok-Taken.change, (turned_taken g.D.Disk.told g.D.Disk.state (opening_at g.D.Disk.state c.args.turns.now.first) c.args.pass.now.number h c.args.op.now c.take.new.pass.seen c.bring.new.pass.seen c.in-Ok-Taken.keeper.value c.in-Ok-Taken.change (entry c.args.pass.now.number c.args.op.now (Done c.in-Ok-Taken.change)) t (subst (λ (n : ℕ). Turned (opening_at g.D.Disk.state c.args.turns.now.first) n (entries_of t.marks) (entry n c.args.op.now (Done c.in-Ok-Taken.change)) c.bring.new.pass.seen) c.take.ensures.pass.goes.same.0 (c.bring.ensures.brought t.marks t.codes_are))))

pub returns-in-Err-note-clause-took : goal.returns-in-Err-note-clause-took
returns-in-Err-note-clause-took g c = λ h saw.
    let t = takes_as g.D.Disk.told g.D.Disk.state (opening_at g.D.Disk.state c.args.turns.now.first) c.args.pass.now.number h c.args.op.now c.take.new.pass.seen c.in-Ok-Taken.field-0 (Taken c.in-Ok-Taken.keeper c.in-Ok-Taken.change) c.in-Ok-Taken.field-0-is (c.in-Ok-Taken.ensures.took h saw) in
    (turned_taken g.D.Disk.told g.D.Disk.state (opening_at g.D.Disk.state c.args.turns.now.first) c.args.pass.now.number h c.args.op.now c.take.new.pass.seen c.bring-in-Err-note.new.pass.seen c.in-Ok-Taken.keeper.value c.in-Ok-Taken.change (entry c.args.pass.now.number c.args.op.now (Failed DiskFault)) t (subst (λ (n : ℕ). Turned (opening_at g.D.Disk.state c.args.turns.now.first) n (entries_of t.marks) (entry n c.args.op.now (Failed DiskFault)) c.bring-in-Err-note.new.pass.seen) c.take.ensures.pass.goes.same.0 (c.bring-in-Err-note.ensures.brought t.marks t.codes_are)))

pub returns-in-Ok-clause-pass : goal.returns-in-Ok-clause-pass
returns-in-Ok-clause-pass g c = keeps_more codes place_of c.args.turns.now c.args.pass.now c.take.new.pass c.bring.new.pass c.take.ensures.pass c.bring.ensures.pass

pub returns-in-Err-note-clause-pass : goal.returns-in-Err-note-clause-pass
returns-in-Err-note-clause-pass g c = keeps_more codes place_of c.args.turns.now c.args.pass.now c.take.new.pass c.bring-in-Err-note.new.pass c.take.ensures.pass c.bring-in-Err-note.ensures.pass

pub returns-in-Ok-clause-rests : goal.returns-in-Ok-clause-rests
returns-in-Ok-clause-rests g c = λ rests. c.bring.ensures.rests

pub returns-in-Err-note-clause-rests : goal.returns-in-Err-note-clause-rests
returns-in-Err-note-clause-rests g c = λ rests. c.bring-in-Err-note.ensures.rests

pub returns-in-Ok-Denied-clause-took : goal.returns-in-Ok-Denied-clause-took
returns-in-Ok-Denied-clause-took g c = λ h saw. takes_as g.D.Disk.told g.D.Disk.state (opening_at g.D.Disk.state c.args.turns.now.first) c.args.pass.now.number h c.args.op.now c.take.new.pass.seen c.in-Ok-Denied.field-0 (Denied c.in-Ok-Denied.cause) c.in-Ok-Denied.field-0-is (c.in-Ok-Denied.ensures.took h saw)

pub returns-in-Ok-Waits-clause-took : goal.returns-in-Ok-Waits-clause-took
returns-in-Ok-Waits-clause-took g c = λ h saw. takes_as g.D.Disk.told g.D.Disk.state (opening_at g.D.Disk.state c.args.turns.now.first) c.args.pass.now.number h c.args.op.now c.take.new.pass.seen c.in-Ok-Waits.field-0 Waits c.in-Ok-Waits.field-0-is (c.in-Ok-Waits.ensures.took h saw)

pub returns-in-Err-clause-took : goal.returns-in-Err-clause-took
returns-in-Err-clause-took g c = c.in-Err.ensures.took
