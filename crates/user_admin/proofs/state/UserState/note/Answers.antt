use Rattle.std.proofs.Common.{◌⊎◌, Option, Some, refl, sym, ◌∙◌, ap, subst}
use Rattle.dxc_disk.specs.Disks.{LeavesOnly}
use Rattle.user_admin.specs.declared.op.UserChange.{UserChange}
use Rattle.user_admin.specs.declared.state.Lists.{Lists}
use Rattle.user_admin.specs.Changes.{Fits, effect}
use Rattle.user_admin.specs.Records.{MayBeSpelled, has_long_salt}
use Rattle.user_admin.specs.Files.{IsOldOrOneMore}
use Rattle.user_admin.specs.Journals.{IsAtHome}
use Rattle.user_admin.proofs.Granted.{granted_fits}
use Rattle.user_admin.proofs.Spelling.{granted_spellable}
use Rattle.user_admin.proofs.Standing.{MayKeep, change_left, has_failed, may_keep, was_done}
use Rattle.user_admin.proofs.state.UserState.note.Goals as goal

pub keep-requires-clause-spelled : goal.keep-requires-clause-spelled
keep-requires-clause-spelled g c = let w = c.requires.may in (subst MayKeep (sym c.deref_mut-lists.ensures.value) (may_keep g.D.Disk.told g.D.Disk.state w.0 c.args.self.now w.1 w.3.stands)).spelled

pub keep-requires-clause-named : goal.keep-requires-clause-named
keep-requires-clause-named g c = let w = c.requires.may in (subst MayKeep (sym c.deref_mut-lists.ensures.value) (may_keep g.D.Disk.told g.D.Disk.state w.0 c.args.self.now w.1 w.3.stands)).by_names

pub keep-requires-clause-few : goal.keep-requires-clause-few
keep-requires-clause-few g c = let w = c.requires.may in (subst MayKeep (sym c.deref_mut-lists.ensures.value) (may_keep g.D.Disk.told g.D.Disk.state w.0 c.args.self.now w.1 w.3.stands)).few

pub keep-requires-clause-fits : goal.keep-requires-clause-fits
keep-requires-clause-fits g c =
    let w = c.requires.may in
    let may = may_keep g.D.Disk.told g.D.Disk.state w.0 c.args.self.now w.1 w.3.stands in
    let fits = granted_fits c.args.self.now.sid w.2 c.args.self.now.lists.value.users c.args.change.now may.by_names.1 w.3.granted in
    subst (λ (x : Lists). Fits c.args.change.now x.users) (sym c.deref_mut-lists.ensures.value) fits

pub keep-requires-clause-meant : goal.keep-requires-clause-meant
keep-requires-clause-meant g c =
    let w = c.requires.may in
    let s = c.args.self.now in
    let may = may_keep g.D.Disk.told g.D.Disk.state w.0 s w.1 w.3.stands in
    let meant = granted_spellable s.lists.value.described s.sid w.2 s.lists.value.users c.args.change.now may.spelled.1 w.3.names w.3.granted in
    subst (λ (x : Lists). MayBeSpelled x.described (has_long_salt c.args.change.now) c.args.change.now) (sym c.deref_mut-lists.ensures.value) meant

pub returns-in-Err-clause-noted : goal.returns-in-Err-clause-noted
returns-in-Err-clause-noted g c = λ o h place op is.
    let s = c.args.self.now in
    let n = c.keep.new.journal in
    let ch = c.args.change.now in
    let l = c.deref_mut-lists.ensures.value in
    has_failed g.D.Disk.told g.D.Disk.state o s h is.stands _ refl (ap (λ (x : Lists). x.described) l) c.keep.ensures.shape (λ told. g.met.D.Disk.is_disk n.0 told) (g.met.D.Disk.counts_on n.0) c.keep.ensures.book place op ch
    is.granted (ap (λ (x : Lists). x.users) l)
    (subst (λ (x : Lists). (doubt : Option UserChange) → IsAtHome g.D.Disk.told (g.D.Disk.state s.journal.0) s.journal.1 x.described x.users doubt → IsAtHome g.D.Disk.told (g.D.Disk.state n.0) n.1 x.described x.users doubt ⊎ IsAtHome g.D.Disk.told (g.D.Disk.state n.0) n.1 x.described x.users (Some ch)) l c.in-Err.ensures.failed)
    (c.in-Err.ensures.cause.cause refl) c.in-Err.ensures.room (g.met.D.Disk.is_disk s.journal.0)
    (λ told. change_left g.D.Disk.told g.D.Disk.state o s h is.stands op ch (g.D.Disk.state n.0) is.granted
    (subst (λ (x : Lists). (doubt : Option UserChange) → IsAtHome g.D.Disk.told (g.D.Disk.state s.journal.0) s.journal.1 x.described x.users doubt → LeavesOnly (g.D.Disk.state s.journal.0) (g.D.Disk.state n.0) (IsOldOrOneMore s.journal.1.shape x.described x.users doubt ch)) l (c.keep.ensures.any_moment told))
    (g.met.D.Disk.is_disk s.journal.0))

pub returns-in-Err-clause-any_moment : goal.returns-in-Err-clause-any_moment
returns-in-Err-clause-any_moment g c = λ told o h op st granted.
    let s = c.args.self.now in
    let n = c.keep.new.journal in
    let ch = c.args.change.now in
    let l = c.deref_mut-lists.ensures.value in
    change_left g.D.Disk.told g.D.Disk.state o s h st op ch (g.D.Disk.state n.0) granted
    (subst (λ (x : Lists). (doubt : Option UserChange) → IsAtHome g.D.Disk.told (g.D.Disk.state s.journal.0) s.journal.1 x.described x.users doubt → LeavesOnly (g.D.Disk.state s.journal.0) (g.D.Disk.state n.0) (IsOldOrOneMore s.journal.1.shape x.described x.users doubt ch)) l (c.keep.ensures.any_moment told))
    (λ x. g.met.D.Disk.is_disk s.journal.0 x)

pub returns-in-Err-clause-short : goal.returns-in-Err-clause-short
returns-in-Err-clause-short g c = c.keep.ensures.short

pub take-requires : goal.take-requires
take-requires g c =
    let w = c.requires.may in
    let may = may_keep g.D.Disk.told g.D.Disk.state w.0 c.args.self.now w.1 w.3.stands in
    let fits = granted_fits c.args.self.now.sid w.2 c.args.self.now.lists.value.users c.args.change.now may.by_names.1 w.3.granted in
    subst (λ (x : Lists). Fits c.args.change.now x.users) (sym c.deref_mut-lists.ensures.value) fits

pub returns-clause-noted : goal.returns-clause-noted
returns-clause-noted g c = λ o h place op is.
    let s = c.args.self.now in
    let n = c.keep.new.journal in
    let ch = c.args.change.now in
    let l = c.deref_mut-lists.ensures.value in
    was_done g.D.Disk.told g.D.Disk.state o s h is.stands _ refl (ap (λ (x : Lists). x.described) l) c.keep.ensures.shape (λ told. g.met.D.Disk.is_disk n.0 told) (g.met.D.Disk.counts_on n.0) c.keep.ensures.book place op ch is.names
    is.granted (c.take.ensures ∙ ap (λ (x : Lists). effect ch x.users) l)
    (subst (λ (x : Lists). (doubt then_doubt : Option UserChange) → IsAtHome g.D.Disk.told (g.D.Disk.state s.journal.0) s.journal.1 x.described x.users doubt → IsAtHome g.D.Disk.told (g.D.Disk.state n.0) n.1 x.described (effect ch x.users) then_doubt) l c.in-Ok.ensures.kept)
    c.keep.ensures.cause.later c.in-Ok.ensures.room (g.met.D.Disk.is_disk s.journal.0)
    (λ told. change_left g.D.Disk.told g.D.Disk.state o s h is.stands op ch (g.D.Disk.state n.0) is.granted
    (subst (λ (x : Lists). (doubt : Option UserChange) → IsAtHome g.D.Disk.told (g.D.Disk.state s.journal.0) s.journal.1 x.described x.users doubt → LeavesOnly (g.D.Disk.state s.journal.0) (g.D.Disk.state n.0) (IsOldOrOneMore s.journal.1.shape x.described x.users doubt ch)) l (c.keep.ensures.any_moment told))
    (g.met.D.Disk.is_disk s.journal.0))
    c.in-Ok.ensures.synced

pub returns-clause-any_moment : goal.returns-clause-any_moment
returns-clause-any_moment g c = λ told o h op st granted.
    let s = c.args.self.now in
    let n = c.keep.new.journal in
    let ch = c.args.change.now in
    let l = c.deref_mut-lists.ensures.value in
    change_left g.D.Disk.told g.D.Disk.state o s h st op ch (g.D.Disk.state n.0) granted
    (subst (λ (x : Lists). (doubt : Option UserChange) → IsAtHome g.D.Disk.told (g.D.Disk.state s.journal.0) s.journal.1 x.described x.users doubt → LeavesOnly (g.D.Disk.state s.journal.0) (g.D.Disk.state n.0) (IsOldOrOneMore s.journal.1.shape x.described x.users doubt ch)) l (c.keep.ensures.any_moment told))
    (λ x. g.met.D.Disk.is_disk s.journal.0 x)

pub returns-clause-short : goal.returns-clause-short
returns-clause-short g c = c.keep.ensures.short
