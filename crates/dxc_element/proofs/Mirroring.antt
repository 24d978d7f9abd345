-- A controller whose journal is mirrored.
use Rattle.std.proofs.Common.{◌≡◌, ◌≢◌, ◌⊎◌, ◌≤◌, ◌∙◌, ℕ, List, Option, Result, Ok, Err, inl, inr, sym, subst}
use Rattle.std.specs.Prelude.{MatchResult}
use Rattle.dxc_causes.specs.Causes.{Rose}
use Rattle.dxc_disk.specs.Disks.{DiskState}
use Rattle.dxc_outside.specs.Links.{LinkState}
use Rattle.dxc_leaving.specs.Values.{AnyValue}
use Rattle.shelf_file.specs.Contents.{Contents}
use Rattle.standby_link.specs.declared.mirror_disk.MirrorDisk.{MirrorDisk}
use Rattle.user_admin.specs.declared.state.UserState.{UserState}
use Rattle.user_admin.specs.Histories.{Opening as UsersOpening}
use Rattle.user_admin.specs.States.{opening_of as users_opening}
use Rattle.xc_core.specs.States.{Opening, opening_of}
use Rattle.dxc_element.specs.declared.opening.Controller.{Controller}
use Rattle.dxc_element.specs.declared.opening.Element.{Element}
use Rattle.dxc_args.specs.declared.status.Status.{Status}
use Rattle.dxc_element.specs.Openings.{AreUsersNotStarted, AreUsersStarted, IsStarted, IsUnopened, Named, NotStarted, Sources, users_name}
use Rattle.dxc_element.specs.Lenders.{Lender}
use Rattle.dxc_element.specs.Peers.{BeganMirrored, FoundMirror, FoundUsersMirror, HasMirrored, HasMirroredUsers, IsMirrorOf, IsOpenedOn, IsUnused, Mirrors, MirrorsUsers, NoMirrored, NoMirroredUsers, mirror_state}
use Rattle.dxc_element.proofs.Starting.{begun, unopened_behind, users_apart}

-- nothing was done with a disk of this name after a call that handed out nothing of the name
pub unused_at : {D : Type 0} (opener_told : Type 0) (gone : AnyValue → Type 0) (name : List ℕ) (before mid after : List ℕ → Option D) → (opener_told → mid name ≡ before name) → IsUnused opener_told gone name mid after → IsUnused opener_told gone name before after
unused_at opener_told gone name before mid after same unused = elim unused [
  | inl kept ↦ inl (λ t. kept t ∙ same t)
  | inr left ↦ inr (record { disk = left.disk; handed = λ t. sym (same t) ∙ left.handed t; let_go = left.let_go })
]

-- nor after the reading of a shelf file
pub unused_behind : {D : Type 0} (opener_told : Type 0) (gone : AnyValue → Type 0) (name : List ℕ) (before mid after : List ℕ → Option D) → (opener_told → (n : List ℕ) → mid n ≡ before n) → IsUnused opener_told gone name mid after → IsUnused opener_told gone name before after
unused_behind opener_told gone name before mid after same unused = unused_at opener_told gone name before mid after (λ t. same t name) unused

module _ {D K : Type 0} (told link_told : Type 0) (state : D → DiskState) (link : K → LinkState) (opener_told : Type 0) where
  -- a mirror of what is handed out after the reading of a shelf file
  pub mirror_behind : (old_at mid_at : List ℕ → Option D) (journal : List ℕ) (m : MirrorDisk D K) → (opener_told → (n : List ℕ) → mid_at n ≡ old_at n) → IsMirrorOf told link_told state link opener_told mid_at journal m → IsMirrorOf told link_told state link opener_told old_at journal m
  mirror_behind old_at mid_at journal m same is = record { disk = is.disk; handed = λ t. sym (same t journal) ∙ is.handed t; is_mirror = is.is_mirror }

  -- started or not, on the mirror that was found
  pub mirrored : (gone : AnyValue → Type 0) (names : Named) (workers : ℕ) (before after : Sources D) (f : FoundMirror told link_told state link opener_told names before) (r : Result (Controller (MirrorDisk D K)) Status)
      → MatchResult r (IsStarted told (mirror_state state) f.mirror f.shelf workers) (NotStarted told (mirror_state state) gone f.mirror f.shelf (Rose before.stops after.stops))
      → MatchResult r (HasMirrored told link_told state link opener_told names workers before) (NoMirrored told link_told state link opener_told gone names before after)
  mirrored gone names workers before after f (Ok x) is = (f, is)
  mirrored gone names workers before after f (Err e) not = inr (inr (f, not))

  -- where the history of the users begins
  abbrev pub users_began_on : (names : Named) (before : Sources D) (s : Contents) (x : UserState (MirrorDisk D K)) → HasMirroredUsers told link_told state link opener_told names before s x → BeganMirrored told link_told state link opener_told names before s
  users_began_on names before s x has = record { found = has.0; opening = users_opening (mirror_state state) x; is = has.1.opening; handed = has.1.handed; taken = has.1.taken }

  -- what was served on what was started
  pub serves : (gone : AnyValue → Type 0) (names : Named) (workers : ℕ) (before after : Sources D) (untouched : Type 0) (P : Contents → Opening → UsersOpening → Type 0) (status : Status) (x : Element (MirrorDisk D K) (MirrorDisk D K)) (opened : IsOpenedOn told link_told state link opener_told names workers before x)
      → P opened.0.0.shelf (opening_of (mirror_state state) x.controller.state) (users_opening (mirror_state state) x.users) → Mirrors told link_told state link opener_told gone names before after untouched (λ f o u. P f.shelf o u.opening) status
  serves gone names workers before after untouched P status x opened ran =
      let h = opened.0 in
      inr (h.0, opening_of (mirror_state state) x.controller.state, begun told (mirror_state state) h.0.mirror h.0.shelf workers x.controller h.1, users_began_on names before h.0.shelf x.users opened.1, ran)

  -- by the names of a line, and what came of it
  pub mirrors_for : (gone : AnyValue → Type 0) (names other : Named) → names ≡ other → (before after : Sources D) (untouched still : Type 0) (P Q : Contents → Opening → UsersOpening → Type 0) (status : Status) → (untouched → still) → ((s : Contents) (o : Opening) (p : UsersOpening) → P s o p → Q s o p)
      → Mirrors told link_told state link opener_told gone names before after untouched (λ f o u. P f.shelf o u.opening) status → Mirrors told link_told state link opener_told gone other before after still (λ f o u. Q f.shelf o u.opening) status
  mirrors_for gone names other same before after untouched still P Q status keep on mirrors =
      subst (λ (n : Named). Mirrors told link_told state link opener_told gone n before after still (λ f o u. Q f.shelf o u.opening) status) same (elim mirrors [
        | inl not ↦ inl (not.0, keep not.1)
        | inr ran ↦ inr (ran.0, ran.1, ran.2, ran.3, on ran.0.shelf ran.1 ran.3.opening ran.4)
      ])

module _ {O : Type 0} (w : Lender O) (names : Named) (before mid after : Sources w.Disk) (others : w.opener.told → (n : List ℕ) → n ≢ names.journal → mid.journal_at n ≡ before.journal_at n) (s lent : Contents) (is : lent ≡ s) where
  users_at : w.opener.told → mid.journal_at (users_name names.journal) ≡ before.journal_at (users_name names.journal)
  users_at t = others t (users_name names.journal) (users_apart names.journal)

  -- the mirror that was made after an earlier call is one of what was there before that
  found_users : MirrorsUsers w mid.journal_at names.journal → FoundUsersMirror w.disk.told w.peer.told w.disk.state w.peer.state w.opener.told names before
  found_users u = record {
    mirror = u.mirror;
    mirrors = record { disk = u.mirrors.disk; handed = λ t. sym (users_at t) ∙ u.mirrors.handed t; is_mirror = u.mirrors.is_mirror };
  }

  -- the users beside a controller, by what that call tells
  pub with_mirrored_users : (r : Result (UserState (MirrorDisk w.Disk w.Peer)) Status) → before.opener.faults ≤ mid.opener.faults
      → MatchResult r
      (λ x. (u : MirrorsUsers w mid.journal_at names.journal) × AreUsersStarted w.disk.told (mirror_state w.disk.state) u.mirror lent x)
      (λ status. (IsUnopened mid.opener.faults after.opener.faults status × IsUnused w.opener.told w.gone (users_name names.journal) mid.journal_at after.journal_at) ⊎ ((u : MirrorsUsers w mid.journal_at names.journal) × AreUsersNotStarted w.disk.told (mirror_state w.disk.state) w.gone u.mirror lent status))
      → MatchResult r (HasMirroredUsers w.disk.told w.peer.told w.disk.state w.peer.state w.opener.told names before s) (NoMirroredUsers w.disk.told w.peer.told w.disk.state w.peer.state w.opener.told w.gone names before after s)
  unfolding found_users
  with_mirrored_users (Ok x) later given = (found_users given.0, subst (λ (y : Contents). AreUsersStarted w.disk.told (mirror_state w.disk.state) given.0.mirror y x) is given.1)
  with_mirrored_users (Err status) later given = elim given [
    | inl none ↦ inl (unopened_behind before.opener.faults mid.opener.faults after.opener.faults status later none.0, unused_at w.opener.told w.gone (users_name names.journal) before.journal_at mid.journal_at after.journal_at users_at none.1)
    | inr not ↦ inr (found_users not.0, subst (λ (y : Contents). AreUsersNotStarted w.disk.told (mirror_state w.disk.state) w.gone not.0.mirror y status) is not.1)
  ]

module _ {O : Type 0} (w : Lender O) (old new : O) (journal name : List ℕ) (is : name ≡ users_name journal) where
  -- a mirror of the disk of that name is one of the users' journal's
  users_mirror : (m : MirrorDisk w.Disk w.Peer) → IsMirrorOf w.disk.told w.peer.told w.disk.state w.peer.state w.opener.told (w.opener.journal_at old) name m → MirrorsUsers w (w.opener.journal_at old) journal
  users_mirror m x = record { mirror = m; mirrors = subst (λ (n : List ℕ). IsMirrorOf w.disk.told w.peer.told w.disk.state w.peer.state w.opener.told (w.opener.journal_at old) n m) is x }

  -- the users were taken up from it, or weren't
  pub took_from : (m : MirrorDisk w.Disk w.Peer) → IsMirrorOf w.disk.told w.peer.told w.disk.state w.peer.state w.opener.told (w.opener.journal_at old) name m → (s : Contents) (r : Result (UserState (MirrorDisk w.Disk w.Peer)) Status)
      → MatchResult r (AreUsersStarted w.disk.told (mirror_state w.disk.state) m s) (AreUsersNotStarted w.disk.told (mirror_state w.disk.state) w.gone m s)
      → MatchResult r
      (λ x. (u : MirrorsUsers w (w.opener.journal_at old) journal) × AreUsersStarted w.disk.told (mirror_state w.disk.state) u.mirror s x)
      (λ status. (IsUnopened (w.opener.state old).faults (w.opener.state new).faults status × IsUnused w.opener.told w.gone (users_name journal) (w.opener.journal_at old) (w.opener.journal_at new)) ⊎ ((u : MirrorsUsers w (w.opener.journal_at old) journal) × AreUsersNotStarted w.disk.told (mirror_state w.disk.state) w.gone u.mirror s status))
  unfolding users_mirror
  took_from m x s (Ok u) started = (users_mirror m x, started)
  took_from m x s (Err status) not = inr (users_mirror m x, not)

  -- or there was none
  pub none_taken : {status : Status} → IsUnopened (w.opener.state old).faults (w.opener.state new).faults status × IsUnused w.opener.told w.gone name (w.opener.journal_at old) (w.opener.journal_at new)
      → IsUnopened (w.opener.state old).faults (w.opener.state new).faults status × IsUnused w.opener.told w.gone (users_name journal) (w.opener.journal_at old) (w.opener.journal_at new)
  none_taken none = (none.0, subst (λ (n : List ℕ). IsUnused w.opener.told w.gone n (w.opener.journal_at old) (w.opener.journal_at new)) is none.1)
