-- How an opening ends, and what was done after one.
use Rattle.std.proofs.Common.{◌≡◌, ◌∙◌, ℕ, List, inl, inr, sym, subst}
use Rattle.dxc_disk.specs.Disks.{DiskState}
use Rattle.dxc_outside.specs.Links.{LinkState}
use Rattle.dxc_leaving.specs.Values.{AnyValue}
use Rattle.dxc_outside.specs.Openings.{OpenerState}
use Rattle.dxc_outside.specs.declared.send.Sent.{Sent}
use Rattle.dxc_outside.specs.declared.send.Sent.TheVariants as sent
use Rattle.journal_core.specs.declared.fault.JournalWhy.{JournalWhy}
use Rattle.journal_core.specs.declared.fault.JournalWhy.TheVariants as why
use Rattle.shelf_file.specs.Contents.{Contents}
use Rattle.user_admin.specs.declared.fault.UserOpenFault.{UserOpenFault}
use Rattle.user_admin.specs.declared.fault.UserOpenFault.TheVariants as users_fault
use Rattle.user_admin.specs.Histories.{Opening as UsersOpening}
use Rattle.xc_core.specs.declared.fault.OpenFault.{OpenFault}
use Rattle.xc_core.specs.declared.fault.OpenFault.TheVariants as fault
use Rattle.xc_core.specs.States.{Opening}
use Rattle.dxc_args.specs.declared.status.Status.{Status}
use Rattle.dxc_args.specs.declared.status.Status.TheVariants.{Done, BadWords, BadShelf, BadJournal, Disk, CannotOpen, NoThread, NoMemory, Link, Stopped, Spent, BadMessage, NotEmpty}
use Rattle.dxc_args.specs.Statuses.{status_of_sent}
use Rattle.dxc_jobs.specs.Missing.{IsOfNoOpening}
use Rattle.dxc_element.specs.Exports.{IsExport}
use Rattle.dxc_element.specs.Listings.{IsCheck}
use Rattle.dxc_element.specs.Openings.{Began, Found, IsUnopened, Named, NoShelf, NotOpened, NoUsers, Opens, Sources}
use Rattle.dxc_element.specs.Peers.{Mirrors, NoMirroredUsers, NotMirrored}
use Rattle.dxc_element.specs.Statuses.{status_of_fault, status_of_users_fault, status_of_users_why, status_of_why}

why_ends : (w : JournalWhy) → IsOfNoOpening (status_of_why w) → ⊥
why_ends (why.BadHeader bytes) is = is
why_ends why.Disk is = is

fault_ends : {D : Type 0} (f : OpenFault D) → IsOfNoOpening (status_of_fault f) → ⊥
fault_ends (fault.Journal f) is = why_ends f.why is
fault_ends (fault.BadRecord i d) is = is
fault_ends (fault.Disk d) is = is
fault_ends (fault.NoMemory d) is = is
fault_ends (fault.Stopped d) is = is

users_why_ends : (w : JournalWhy) → IsOfNoOpening (status_of_users_why w) → ⊥
users_why_ends (why.BadHeader bytes) is = is
users_why_ends why.Disk is = is

users_fault_ends : {D : Type 0} (f : UserOpenFault D) → IsOfNoOpening (status_of_users_fault f) → ⊥
users_fault_ends (users_fault.Journal f) is = users_why_ends f.why is
users_fault_ends (users_fault.BadRecord i d) is = is
users_fault_ends (users_fault.Disk d) is = is
users_fault_ends (users_fault.NoMemory d) is = is

no_shelf_ends : (told : Type 0) (before after : OpenerState) (name : List ℕ) (s : Status) → NoShelf told before after name s → IsOfNoOpening s → ⊥
no_shelf_ends told before after name Done not is = not
no_shelf_ends told before after name BadWords not is = not
no_shelf_ends told before after name (BadShelf f) not is = is
no_shelf_ends told before after name (BadJournal f) not is = is
no_shelf_ends told before after name Disk not is = is
no_shelf_ends told before after name CannotOpen not is = is
no_shelf_ends told before after name NoThread not is = not
no_shelf_ends told before after name NoMemory not is = is
no_shelf_ends told before after name Link not is = not
no_shelf_ends told before after name Stopped not is = is
no_shelf_ends told before after name Spent not is = not
no_shelf_ends told before after name BadMessage not is = not
no_shelf_ends told before after name NotEmpty not is = not

unopened_ends : (faults later : ℕ) (s : Status) → IsUnopened faults later s → IsOfNoOpening s → ⊥
unopened_ends faults later s not is = elim not [ inl e ↦ subst IsOfNoOpening e is | inr e ↦ subst IsOfNoOpening e.0 is ]

no_users_ends : {D : Type 0} (opener_told told : Type 0) (state : D → DiskState) (gone : AnyValue → Type 0) (names : Named) (before after : Sources D) (s : Contents) (status : Status) → NoUsers opener_told told state gone names before after s status → IsOfNoOpening status → ⊥
no_users_ends opener_told told state gone names before after s status none is = elim none [
  | inl no_disk ↦ unopened_ends _ _ status no_disk.0 is
  | inr not ↦ users_fault_ends not.1.fault (subst IsOfNoOpening not.1.is is)
]

-- what wasn't opened ends with a status of an opening
pub not_opened_ends : (opener_told : Type 0) {D : Type 0} (told : Type 0) (state : D → DiskState) (gone : AnyValue → Type 0) (names : Named) (before after : Sources D) (status : Status) → NotOpened opener_told told state gone names before after status → IsOfNoOpening status → ⊥
not_opened_ends opener_told told state gone names before after status not is = elim not [
  | inl no_controller ↦ (elim no_controller.0 [
    | inl no_shelf ↦ no_shelf_ends opener_told before.opener after.opener names.shelf status no_shelf.1 is
    | inr further ↦ (elim further [
      | inl no_disk ↦ unopened_ends _ _ status no_disk.3.0 is
      | inr not_on ↦ fault_ends not_on.1.fault (subst IsOfNoOpening not_on.1.is is)
    ])
  ])
  | inr no_users ↦ no_users_ends opener_told told state gone names before after no_users.0.shelf status no_users.3 is
]

no_mirrored_users_ends : {D K : Type 0} (told link_told : Type 0) (state : D → DiskState) (link : K → LinkState) (opener_told : Type 0) (gone : AnyValue → Type 0) (names : Named) (before after : Sources D) (s : Contents) (status : Status) → NoMirroredUsers told link_told state link opener_told gone names before after s status → IsOfNoOpening status → ⊥
no_mirrored_users_ends told link_told state link opener_told gone names before after s status none is = elim none [
  | inl no_mirror ↦ unopened_ends _ _ status no_mirror.0 is
  | inr not ↦ users_fault_ends not.1.fault (subst IsOfNoOpening not.1.is is)
]

-- nor what wasn't mirrored
pub not_mirrored_ends : {D K : Type 0} (told link_told : Type 0) (state : D → DiskState) (link : K → LinkState) (opener_told : Type 0) (gone : AnyValue → Type 0) (names : Named) (before after : Sources D) (status : Status) → NotMirrored told link_told state link opener_told gone names before after status → IsOfNoOpening status → ⊥
not_mirrored_ends told link_told state link opener_told gone names before after status not is = elim not [
  | inl no_controller ↦ (elim no_controller.0 [
    | inl no_shelf ↦ no_shelf_ends opener_told before.opener after.opener names.shelf status no_shelf.1 is
    | inr further ↦ (elim further [
      | inl no_disk ↦ unopened_ends _ _ status no_disk.3.0 is
      | inr not_on ↦ fault_ends not_on.1.fault (subst IsOfNoOpening not_on.1.is is)
    ])
  ])
  | inr no_users ↦ no_mirrored_users_ends told link_told state link opener_told gone names before after no_users.0.shelf status no_users.3 is
]

-- none of lines that were written ends as words that are no line
pub sent_words : (sent : Sent) → status_of_sent sent ≡ BadWords → ⊥
sent_words sent.Whole is = cc
sent_words sent.Cut is = cc

-- nor an audit or an export, for which memory may be wanting
pub check_words : (told : Type 0) (s : Contents) (o : Opening) (k l : LinkState) (status : Status) → IsCheck told s o k l status → status ≡ BadWords → ⊥
check_words told s o k l status is bad = elim is [ inl wrote ↦ sent_words wrote.sent (sym wrote.status_is ∙ bad) | inr none ↦ (let no = sym none.0 ∙ bad in cc) ]

pub export_words : (told : Type 0) (s : Contents) (o : Opening) (k l : LinkState) (status : Status) → IsExport told s o k l status → status ≡ BadWords → ⊥
export_words told s o k l status is bad = elim is [ inl wrote ↦ sent_words wrote.sent (sym wrote.status_is ∙ bad) | inr none ↦ (let no = sym none.0 ∙ bad in cc) ]

-- nor what was opened by these names, where what was done there doesn't
pub opens_words : (opener_told : Type 0) {D : Type 0} (told : Type 0) (state : D → DiskState) (gone : AnyValue → Type 0) (names : Named) (before after : Sources D) (untouched : Type 0) (done : (f : Found opener_told names before) → Opening → Began opener_told told state names before f.shelf → Type 0) (status : Status)
    → ((f : Found opener_told names before) (o : Opening) (u : Began opener_told told state names before f.shelf) → done f o u → status ≡ BadWords → ⊥) → Opens opener_told told state gone names before after untouched done status → status ≡ BadWords → ⊥
opens_words opener_told told state gone names before after untouched done status other opens is = elim opens [
  | inl not ↦ not_opened_ends opener_told told state gone names before after status not.0 (subst IsOfNoOpening (sym is) tt)
  | inr ran ↦ other ran.0 ran.1 ran.3 ran.4 is
]

-- and by these with a peer
pub mirrors_words : {D K : Type 0} (told link_told : Type 0) (state : D → DiskState) (link : K → LinkState) (opener_told : Type 0) (gone : AnyValue → Type 0) (names : Named) (before after : Sources D) (untouched : Type 0) (P : Contents → Opening → UsersOpening → Type 0) (status : Status) → ((s : Contents) (o : Opening) (p : UsersOpening) → P s o p → status ≡ BadWords → ⊥)
    → Mirrors told link_told state link opener_told gone names before after untouched (λ f o u. P f.shelf o u.opening) status → status ≡ BadWords → ⊥
mirrors_words told link_told state link opener_told gone names before after untouched P status other mirrors is = elim mirrors [
  | inl not ↦ not_mirrored_ends told link_told state link opener_told gone names before after status not.0 (subst IsOfNoOpening (sym is) tt)
  | inr ran ↦ other ran.0.shelf ran.1 ran.3.opening ran.4 is
]
