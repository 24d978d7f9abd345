-- A controller whose journal is mirrored to a standby.
use denote.MutBor.{MutBor}
use denote.Triple.Both.{Both}
use Rattle.std.specs.Prelude.{◌≡◌, ◌⊎◌, ◌+◌, ◌^◌, ◌≤◌, ◌<◌, ℕ, List, [], ◌∷◌, length, Option, Some, IsSomeAnd, Result, MatchResult}
use Rattle.dxc_causes.specs.Causes.{Rose}
use Rattle.dxc_disk.specs.Disks.{DiskState, Looks, files}
use Rattle.dxc_outside.specs.Asked.{Asking, shelf_named, journal_named, peer_named}
use Rattle.dxc_outside.specs.Links.{LinkState}
use Rattle.dxc_leaving.specs.Values.{AnyValue, any_value}
use Rattle.shelf_file.specs.Contents.{Contents}
use Rattle.standby_link.specs.declared.mirror_disk.MirrorDisk.{MirrorDisk}
use Rattle.standby_link.specs.Acts.{pieces}
use Rattle.standby_link.specs.Lines.{line_at}
use Rattle.standby_link.specs.Mirrors.{joining}
use Rattle.standby_link.specs.Moves.{IsSmall, Joins, TookHaves, first_line, mirrored}
use Rattle.user_admin.specs.declared.state.UserState.{UserState}
use Rattle.user_admin.specs.Histories.{Opening as UsersOpening}
use Rattle.user_admin.specs.Openings.{IsOpening as IsUsersOpening}
use Rattle.xc_core.specs.States.{Opening}
use Rattle.dxc_element.specs.declared.opening.Controller.{Controller}
use Rattle.dxc_element.specs.declared.opening.Element.{Element}
use Rattle.dxc_args.specs.declared.status.Status.{Status}
use Rattle.dxc_element.specs.Lenders.{Lender}
use Rattle.dxc_element.specs.Openings.{AreUsersNotStarted, AreUsersStarted, HasOpening, HasShelf, IsKept, IsStarted, IsTaken, IsUnopened, LeftStarted, Named, NoShelf, NotStarted, Sources, Wanted, users_name}

-- where a standby's copy of the users' journal is called, beside the peer: it has the peer's name as the users' journal has the journal's
abbrev pub users_peer : List ℕ → List ℕ
users_peer = users_name

-- what an opener is asked for by these names, with a peer
abbrev pub mirror_asked : Named → List ℕ → List Asking
mirror_asked names peer = shelf_named names.shelf ∷ journal_named names.journal ∷ peer_named peer ∷ journal_named (users_name names.journal) ∷ peer_named (users_peer peer) ∷ []

-- the disk that was handed out for this name was let go as it was handed out
pub record LeftUnmirrored (opener_told : Type 0) {D : Type 0} (gone : AnyValue → Type 0) (name : List ℕ) (journal_at : List ℕ → Option D) : Type 0 where
  pub disk : D
  pub handed : opener_told → journal_at name ≡ Some disk
  pub let_go : gone (any_value disk)

-- no disk was handed out for this name, or it was let go so
abbrev pub IsUnused : (opener_told : Type 0) {D : Type 0} (gone : AnyValue → Type 0) (name : List ℕ) (before after : List ℕ → Option D) → Type 0
IsUnused opener_told gone name before after = IsKept opener_told name before after ⊎ LeftUnmirrored opener_told gone name before

-- there is no mirror of the disk of this name: it couldn't be opened, or no peer could
abbrev pub NoMirror : (opener_told : Type 0) {D : Type 0} (gone : AnyValue → Type 0) (name : List ℕ) → Sources D → Sources D → Status → Type 0
NoMirror opener_told gone name before after status = IsUnopened before.opener.faults after.opener.faults status × IsUnused opener_told gone name before.journal_at after.journal_at

-- what a mirrored disk shows is what the disk below shows
abbrev pub mirror_state : {D K : Type 0} → (D → DiskState) → MirrorDisk D K → DiskState
mirror_state state m = state m.disk.disk

module _ {D K : Type 0} (disk_told link_told : Type 0) (state : D → DiskState) (link : K → LinkState) where
  -- The disk is mirrored, after a joining over some link. That changed nothing on it.
  pub record IsMirror (disk : D) (m : MirrorDisk D K) : Type 0 where
    pub looks : disk_told → Looks (state disk) (state m.disk.disk)
    pub later : (state disk).faults ≤ (state m.disk.disk).faults
    pub peer : K
    pub joins : IsSomeAnd m.line (λ l. Joins disk_told link_told (state disk) (state m.disk.disk) (link peer) (line_at link l))
    -- which is the first step of a primary, along with which it reads from then on (`disks_read_along`)
    pub step : disk_told → IsSmall 0 0 (state disk).reads_as → length (pieces 0 (state disk).reads_as) + 1 < 2 ^ 64
        → IsSomeAnd m.line (λ l. TookHaves disk_told link_told (first_line (link peer)) (mirrored (state m.disk.disk) (line_at link l)) (joining (state disk).reads_as))

  module _ (opener_told : Type 0) where
    -- the mirror of the disk that was handed out for a journal
    pub record IsMirrorOf (journal_at : List ℕ → Option D) (journal : List ℕ) (m : MirrorDisk D K) : Type 0 where
      pub disk : D
      pub handed : opener_told → journal_at journal ≡ Some disk
      pub is_mirror : IsMirror disk m

    -- the shelf that the file of the name describes, and the mirror of the disk that the opener handed out for the journal
    pub record FoundMirror (names : Named) (before : Sources D) : Type 0 where
      pub shelf : Contents
      pub described : HasShelf opener_told before.opener names.shelf shelf
      pub mirror : MirrorDisk D K
      pub mirrors : IsMirrorOf before.journal_at names.journal mirror

    -- the controller that the names stand for, on the mirror
    abbrev pub HasMirrored : Named → ℕ → Sources D → Controller (MirrorDisk D K) → Type 0
    HasMirrored names workers before x = (f : FoundMirror names before) × IsStarted disk_told (mirror_state state) f.mirror f.shelf workers x

    -- the mirror of the disk that the opener handed out for the users' journal
    pub record FoundUsersMirror (names : Named) (before : Sources D) : Type 0 where
      pub mirror : MirrorDisk D K
      pub mirrors : IsMirrorOf before.journal_at (users_name names.journal) mirror

    -- the users of that journal, on the mirror of its disk
    abbrev pub HasMirroredUsers : Named → Sources D → Contents → UserState (MirrorDisk D K) → Type 0
    HasMirroredUsers names before s x = (u : FoundUsersMirror names before) × AreUsersStarted disk_told (mirror_state state) u.mirror s x

    -- where the users' history begins that the mirrored journal came to
    pub record BeganMirrored (names : Named) (before : Sources D) (s : Contents) : Type 0 where
      pub found : FoundUsersMirror names before
      pub opening : UsersOpening
      pub is : IsUsersOpening disk_told (mirror_state state found.mirror).reads_as s opening
      pub handed : opening.readings ≡ files (mirror_state state found.mirror).readings
      pub taken : IsTaken (mirror_state state found.mirror) opening.faults opening.room opening.margin

    -- the controller that the names stand for, on the mirror, and its users, on a mirror of their journal
    abbrev pub IsOpenedOn : Named → ℕ → Sources D → Element (MirrorDisk D K) (MirrorDisk D K) → Type 0
    IsOpenedOn names workers before x = (h : HasMirrored names workers before x.controller) × HasMirroredUsers names before h.0.shelf x.users

    module _ (gone : AnyValue → Type 0) where
      -- no shelf, no disk or no peer, or a mirror on which the controller didn't start
      abbrev pub NoMirrored : Named → (before after : Sources D) → Status → Type 0
      NoMirrored names before after status =
          ((after.stops ≡ before.stops) × NoShelf opener_told before.opener after.opener names.shelf status × IsKept opener_told names.journal before.journal_at after.journal_at)
          ⊎ (((s : Contents) × HasShelf opener_told before.opener names.shelf s × (after.stops ≡ before.stops) × NoMirror opener_told gone names.journal before after status)
          ⊎ ((f : FoundMirror names before) × NotStarted disk_told (mirror_state state) gone f.mirror f.shelf (Rose before.stops after.stops) status))

      -- no mirror of the disk of the users' journal, or one on which they weren't taken up
      abbrev pub NoMirroredUsers : Named → (before after : Sources D) → Contents → Status → Type 0
      NoMirroredUsers names before after s status =
          NoMirror opener_told gone (users_name names.journal) before after status
          ⊎ ((u : FoundUsersMirror names before) × AreUsersNotStarted disk_told (mirror_state state) gone u.mirror s status)

      -- No controller, and no disk for its users, or none of its users. What was opened was let go so.
      abbrev pub NotMirrored : Named → (before after : Sources D) → Status → Type 0
      NotMirrored names before after status =
          (NoMirrored names before after status × IsKept opener_told (users_name names.journal) before.journal_at after.journal_at)
          ⊎ ((f : FoundMirror names before) × LeftStarted disk_told (mirror_state state) gone f.mirror f.shelf × (after.stops ≡ before.stops) × NoMirroredUsers names before after f.shelf status)

      -- Nothing was opened, why, and nothing else happened; or this was done on what was opened and mirrored.
      abbrev pub Mirrors : (names : Named) (before after : Sources D) (untouched : Type 0) (done : (f : FoundMirror names before) → Opening → BeganMirrored names before f.shelf → Type 0) → Status → Type 0
      Mirrors names before after untouched done status =
          (NotMirrored names before after status × untouched)
          ⊎ ((f : FoundMirror names before) × (o : Opening) × HasOpening disk_told (mirror_state state) f.mirror f.shelf o × (u : BeganMirrored names before f.shelf) × done f o u)

module _ {O : Type 0} (w : Lender O) where
  abbrev pub Mirrored : Type 0
  Mirrored = MirrorDisk w.Disk w.Peer

  -- the mirror of the disk of this name, by the opener across the call, or what was handed out for it was let go
  abbrev pub TookMirror : Both (MutBor O) (MutBor O) → List ℕ → Result Mirrored Status → Type 0
  TookMirror opener journal result =
      let old = opener.entry.now in
      let new = opener.exit.now in
      MatchResult result (IsMirrorOf w.disk.told w.peer.told w.disk.state w.peer.state w.opener.told (w.opener.journal_at old) journal)
      (λ status. IsUnopened (w.opener.state old).faults (w.opener.state new).faults status × IsUnused w.opener.told w.gone journal (w.opener.journal_at old) (w.opener.journal_at new))

  -- the controller that is wanted, on a mirror of its journal, or why there is none
  abbrev pub MirrorsController : Wanted → (before after : Sources w.Disk) → Result (Controller Mirrored) Status → Type 0
  MirrorsController x before after result = MatchResult result (HasMirrored w.disk.told w.peer.told w.disk.state w.peer.state w.opener.told x.names x.workers before)
      (NoMirrored w.disk.told w.peer.told w.disk.state w.peer.state w.opener.told w.gone x.names before after)

  -- with its users, on a mirror of theirs
  abbrev pub MirrorsElement : Wanted → (before after : Sources w.Disk) → Result (Element Mirrored Mirrored) Status → Type 0
  MirrorsElement x before after result = MatchResult result (IsOpenedOn w.disk.told w.peer.told w.disk.state w.peer.state w.opener.told x.names x.workers before)
      (NotMirrored w.disk.told w.peer.told w.disk.state w.peer.state w.opener.told w.gone x.names before after)

  -- the mirror of the disk that the opener would have handed out for the users' journal beside one of this name
  pub record MirrorsUsers (at : List ℕ → Option w.Disk) (journal : List ℕ) : Type 0 where
    pub mirror : Mirrored
    pub mirrors : IsMirrorOf w.disk.told w.peer.told w.disk.state w.peer.state w.opener.told at (users_name journal) mirror

  -- The users were taken up from a mirror, or there is none, or they weren't, and what was opened was let go so; by the opener across the call.
  abbrev pub TookUsers : Both (MutBor O) (MutBor O) → List ℕ → Contents → Result (UserState Mirrored) Status → Type 0
  TookUsers opener journal s result =
      let old = opener.entry.now in
      let new = opener.exit.now in
      MatchResult result
      (λ x. (u : MirrorsUsers (w.opener.journal_at old) journal) × AreUsersStarted w.disk.told (mirror_state w.disk.state) u.mirror s x)
      (λ status. (IsUnopened (w.opener.state old).faults (w.opener.state new).faults status × IsUnused w.opener.told w.gone (users_name journal) (w.opener.journal_at old) (w.opener.journal_at new))
      ⊎ ((u : MirrorsUsers (w.opener.journal_at old) journal) × AreUsersNotStarted w.disk.told (mirror_state w.disk.state) w.gone u.mirror s status))
