-- What a standby did.
use mathlib.Core.Logic.{inl, inr}
use Rattle.std.specs.Prelude.{◌≡◌, ◌≢◌, ◌⊎◌, ◌↔◌, ◌+◌, ◌^◌, ℕ, false, true, List, [], ◌∷◌, ◌++◌, length, Option, Some, None, Result, IsTrue}
use Rattle.dxc_causes.specs.Causes.{Rose, Counted}
use Rattle.dxc_disk.specs.Disks.{DiskState, IsLength, IsSound}
use Rattle.dxc_disk.specs.declared.disk.DiskFault.{DiskFault}
use Rattle.dxc_disk.specs.declared.disk.Disk.{Ghosts as DiskOf}
use Rattle.dxc_outside.specs.declared.link.Link.{Ghosts as LinkOf}
use Rattle.dxc_outside.specs.declared.link.Lost.{Lost}
use Rattle.dxc_outside.specs.Asked.{Asking, copy_named, listener_named}
use Rattle.dxc_outside.specs.Callers.{ListenerState, IsSoundCame, came}
use Rattle.dxc_outside.specs.Links.{IsSoundLink, LinkState}
use Rattle.dxc_leaving.specs.Values.{AnyValue, any_value}
use Rattle.dxc_outside.specs.declared.listener.Came.{Came}
use Rattle.dxc_outside.specs.declared.listener.Came.TheVariants as answer
use Rattle.standby_link.specs.declared.end.StandbyEnd.{StandbyEnd}
use Rattle.standby_link.specs.declared.end.StandbyEnd.TheVariants as standby
use Rattle.standby_link.specs.Serves.{IsPrompt, Served, Unbegun, bytes_in}
use Rattle.dxc_args.specs.declared.status.Status.{Status}
use Rattle.dxc_args.specs.declared.status.Status.TheVariants.{Done, Disk, CannotOpen, NoMemory, Link, Spent, BadMessage, NotEmpty}
use Rattle.dxc_jobs.specs.declared.stood.Stood.{Stood}
use Rattle.dxc_jobs.specs.declared.standby.Met.{Met}
use Rattle.dxc_jobs.specs.declared.standby.Met.TheVariants.{Nobody, NoneHeard, Served as ServedMet}
use Rattle.dxc_jobs.specs.declared.stood.Stood.TheVariants.{NoJournal, NoListener, Unmet, Unheard, Served as ServedStood}
use Rattle.dxc_jobs.specs.Counts.{RoseBy}
use Rattle.dxc_jobs.specs.Offices.{Across, Doorway, Office}

-- the status of a standby, by the end of its run
abbrev pub status_of_standby : StandbyEnd → Status
status_of_standby standby.End = Done
status_of_standby standby.ReadFault = Link
status_of_standby standby.WriteFault = Link
status_of_standby standby.DiskFault = Disk
status_of_standby standby.BadMessage = BadMessage
status_of_standby standby.NotEmpty = NotEmpty
status_of_standby standby.Spent = Spent

-- the status of what is left of one
abbrev pub status_of_stood : {D L K : Type 0} → Stood D L K → Status
status_of_stood (NoJournal status) = status
status_of_stood (NoListener copy status) = status
status_of_stood (Unmet copy door) = Done
status_of_stood (Unheard copy door) = CannotOpen
status_of_stood (ServedStood copy door caller end) = status_of_standby end

-- what was asked for: without a journal no listener, so nobody was let in
abbrev pub stood_asked : {D L K : Type 0} → (journal address : List ℕ) → Stood D L K → List Asking
stood_asked journal address (NoJournal status) = copy_named journal ∷ []
stood_asked journal address (NoListener copy status) = copy_named journal ∷ listener_named address ∷ []
stood_asked journal address (Unmet copy door) = copy_named journal ∷ listener_named address ∷ []
stood_asked journal address (Unheard copy door) = copy_named journal ∷ listener_named address ∷ []
stood_asked journal address (ServedStood copy door caller end) = copy_named journal ∷ listener_named address ∷ []

-- what came of the accepts up to the first link, the listener's End, or 16 faults
pub record IsFirst {K : Type 0} (told : Type 0) (state : K → LinkState) (old new : ListenerState K) (first : Came K) : Type 0 where
  pub coming : told → old.coming ≡ came first ++ new.coming
  pub end : told → first ≡ answer.End → new.coming ≡ []
  pub ended : first ≡ answer.End → new.ended ≡ true
  pub risen : first ≡ answer.Failed → RoseBy 16 old.faults new.faults
  pub sound : IsTrue old.sound → IsSoundCame state first

module _ (disk_told link_told : Type 0) (k k' : LinkState) (d d' : DiskState) (end : StandbyEnd) where
  -- a standby's run, which didn't begin, or was served
  abbrev pub Ends : Type 0
  Ends = Unbegun disk_told k k' d d' end ⊎ Served link_told disk_told d.room (d.faults + d.margin) k k' d' end

  -- how many bytes it read
  abbrev pub read_in : Ends → ℕ
  read_in (inl unbegun) = 0
  read_in (inr served) = length (bytes_in served.came)

  -- A whole run, with the cause of its end. On a sound link no call fails, nor on a disk that is sound for one more than the bytes that were read.
  pub record RanStandby : Type 0 where
    pub ends : Ends
    pub not_empty : disk_told → d.reads_as ≢ [] → (end ≡ standby.NotEmpty) ⊎ (end ≡ standby.DiskFault)
    pub empty : disk_told → end ≡ standby.NotEmpty → d.reads_as ≢ []
    pub ended : k.ended ≡ false → ((end ≡ standby.End) ↔ IsTrue k'.ended)
    pub read_fault : end ≡ standby.ReadFault → Rose k.read_faults k'.read_faults
    pub no_read_fault : end ≢ standby.ReadFault → k'.read_faults ≡ k.read_faults
    pub write_fault : end ≡ standby.WriteFault → Rose k.write_faults k'.write_faults
    pub no_write_fault : end ≢ standby.WriteFault → k'.write_faults ≡ k.write_faults
    pub disk_fault : end ≡ standby.DiskFault → Rose d.faults d'.faults
    pub spent : end ≡ standby.Spent → Counted k.reads k'.reads (2 ^ 32)
    pub sound_link : IsSoundLink k → (end ≢ standby.ReadFault) × (end ≢ standby.WriteFault)
    pub sound_disk : end ≡ standby.DiskFault → IsSound (1 + read_in ends) d → ⊥

-- it couldn't be opened, or memory was wanting, by the opener's count of faults before and after
abbrev pub IsUnopened : (faults later : ℕ) → Status → Type 0
IsUnopened faults later status = (status ≡ NoMemory) ⊎ ((status ≡ CannotOpen) × Rose faults later)

-- ends after which another caller is let in, where the disk is empty still
abbrev pub MayGoOn : StandbyEnd → Type 0
MayGoOn standby.End = Unit {0}
MayGoOn standby.ReadFault = Unit {0}
MayGoOn standby.WriteFault = Unit {0}
MayGoOn standby.BadMessage = ⊥
MayGoOn standby.DiskFault = ⊥
MayGoOn standby.NotEmpty = ⊥
MayGoOn standby.Spent = ⊥

module _ (disk_told link_told : Type 0) {D K : Type 0} (disk : D → DiskState) (link : K → LinkState) (begun : LinkState → Type 0) (hung_up : K → Option Lost) where
  -- A caller was served on the disk to its end, and not hung up. After that the disk was asked for its length, or for nothing.
  pub record Serves (k k' : K) (d d' : D) (end : StandbyEnd) : Type 0 where
    pub served : D
    pub ran : RanStandby disk_told link_told (link k) (link k') (disk d) (disk served) end
    pub prompt : IsPrompt begun link_told (link k) (link k')
    pub unhung : hung_up k' ≡ hung_up k
    pub measured : (d' ≡ served) ⊎ ((length : Result ℕ DiskFault) × IsLength disk_told (disk served) (disk d') length)

  -- it left the disk empty
  pub record Passes (k k' : K) (d d' : D) (end : StandbyEnd) : Type 0 where
    pub serves : Serves k k' d d' end
    pub goes_on : MayGoOn end
    pub empty : disk_told → (disk d').reads_as ≡ []

  -- It left something, or ended so that nobody else is let in; else the disk failed to tell its length.
  pub record Stays (k k' : K) (d d' : D) (end : StandbyEnd) : Type 0 where
    pub serves : Serves k k' d d' end
    pub last : disk_told → MayGoOn end → (disk d').reads_as ≡ [] → Rose (disk serves.served).faults (disk d').faults

  -- one or the other
  abbrev pub ServesOrPasses : (k k' : K) (d d' : D) → Option StandbyEnd → Type 0
  ServesOrPasses k k' d d' (Some end) = Stays k k' d d' end
  ServesOrPasses k k' d d' None = (end : StandbyEnd) × Passes k k' d d' end

module _ (disk_told listener_told link_told : Type 0) {D L K : Type 0} (disk : D → DiskState) (listener : L → ListenerState K) (link : K → LinkState) (begun : LinkState → Type 0) (hung_up : K → Option Lost) where
  -- callers one after another, each of whom left the disk empty
  pub data Passed (d : D) (l : L) : D → L → Type 0 where
    nobody : Passed d l d l
    one_more : (mid d' : D) (door l' : L) (caller left : K) (end : StandbyEnd) → Passed d l mid door → IsFirst listener_told link (listener door) (listener l') (answer.Link caller) → Passes disk_told link_told disk link begun hung_up caller left mid d' end → Passed d l d' l'

  -- the next link that came was served on the disk; both are left as they stood when its service ended
  pub record ServedOne (d : D) (l : ListenerState K) (new_disk : D) (new_door : L) (new_caller : K) (end : StandbyEnd) : Type 0 where
    pub caller : K
    pub first : listener_told → l.coming ≡ caller ∷ (listener new_door).coming
    pub is_sound : IsTrue l.sound → IsSoundLink (link caller)
    pub stays : Stays disk_told link_told disk link begun hung_up caller new_caller d new_disk end

  -- the listener said End before a link came
  pub record NobodyCame (l : ListenerState K) (new_door : L) : Type 0 where
    pub ended : (listener new_door).ended ≡ true
    pub nobody : listener_told → l.coming ≡ []

  -- 16 accepts in a row failed
  pub record NoneAccepted (l : ListenerState K) (new_door : L) : Type 0 where
    pub risen : RoseBy 16 l.faults (listener new_door).faults
    pub unsound : IsTrue l.sound → ⊥
    pub nobody : listener_told → l.coming ≡ (listener new_door).coming

  -- What came of the callers, after those who were passed over.
  abbrev pub Meets : (d : D) (l : L) (new_disk : D) (new_door : L) → Met K → Type 0
  Meets d l new_disk new_door (ServedMet caller end) = (before : D) × (door : L) × Passed d l before door × ServedOne before (listener door) new_disk new_door caller end
  Meets d l new_disk new_door Nobody = (door : L) × Passed d l new_disk door × NobodyCame (listener door) new_door
  Meets d l new_disk new_door NoneHeard = (door : L) × Passed d l new_disk door × NoneAccepted (listener door) new_door

module _ (opener_told disk_told listener_told link_told : Type 0) {D L K : Type 0} (disk : D → DiskState) (listener : L → ListenerState K) (link : K → LinkState) (begun : LinkState → Type 0) (hung_up : K → Option Lost) where
  -- the disk and the listener that the opener handed out, the one by the journal's name and the other by the address
  pub record HasBoth (journal_at : List ℕ → Option D) (listener_at : List ℕ → Option L) (journal address : List ℕ) : Type 0 where
    pub copy : D
    pub handed : opener_told → journal_at journal ≡ Some copy
    pub door : L
    pub opened : opener_told → listener_at address ≡ Some door

  -- What is left of a standby, and how it came to be: without a journal or a listener nothing was accepted; else it is what came of the callers, from the
  -- disk and the listener that were handed out.
  abbrev pub Stands : (journal_at : List ℕ → Option D) (listener_at : List ℕ → Option L) (faults later : ℕ) (journal address : List ℕ) → Stood D L K → Type 0
  Stands journal_at listener_at faults later journal address (NoJournal status) = IsUnopened faults later status
  Stands journal_at listener_at faults later journal address (NoListener copy status) = (opener_told → journal_at journal ≡ Some copy) × IsUnopened faults later status
  Stands journal_at listener_at faults later journal address (Unmet copy door) = (b : HasBoth journal_at listener_at journal address) × Meets disk_told listener_told link_told disk listener link begun hung_up b.copy b.door copy door Nobody
  Stands journal_at listener_at faults later journal address (Unheard copy door) = (b : HasBoth journal_at listener_at journal address) × Meets disk_told listener_told link_told disk listener link begun hung_up b.copy b.door copy door NoneHeard
  Stands journal_at listener_at faults later journal address (ServedStood copy door caller end) = (b : HasBoth journal_at listener_at journal address) × Meets disk_told listener_told link_told disk listener link begun hung_up b.copy b.door copy door (ServedMet caller end)

  -- What a standby came to: its status is that of what is left of it, which was let go so.
  pub record StandsBy (journal_at : List ℕ → Option D) (listener_at : List ℕ → Option L) (faults later : ℕ) (journal address : List ℕ) (gone : AnyValue → Type 0) (asked : List Asking → Type 0) (status : Status) : Type 0 where
    pub stood : Stood D L K
    pub status_is : status ≡ status_of_stood stood
    pub stands : Stands journal_at listener_at faults later journal address stood
    pub let_go : gone (any_value stood)
    pub asked_for : asked (stood_asked journal address stood)

-- what came of the callers, by the ghost members of disk, listener and links, across a call
abbrev pub MetAt : {D L K : Type 0} (w : Doorway D L K) → Across D → Across L → Met K → Type 0
MetAt w disk listener met = Meets w.disk.told w.listener.told w.link.told w.disk.state w.listener.state w.link.state w.link.begun w.link.hung_up disk.entry.now listener.entry.now disk.exit.now listener.exit.now met

-- what came of one of them
abbrev pub ServedAt : {D K : Type 0} (disk : DiskOf D) (link : LinkOf K) → Across K → Across D → Option StandbyEnd → Type 0
ServedAt disk link k d end = ServesOrPasses disk.told link.told disk.state link.state link.begun link.hung_up k.entry.now k.exit.now d.entry.now d.exit.now end

-- what a standby's run on a disk came to, across a call
abbrev pub RanOver : {D K : Type 0} (disk : DiskOf D) (link : LinkOf K) → Across K → Across D → StandbyEnd → Type 0
RanOver disk link k d end = RanStandby disk.told link.told (link.state k.entry.now) (link.state k.exit.now) (disk.state d.entry.now) (disk.state d.exit.now) end

-- by an opener, across the call, with the names of the journal and of the address
abbrev pub StoodBy : {O : Type 0} (w : Office O) → (gone : AnyValue → Type 0) → Across O → (names : List ℕ × List ℕ) → Status → Type 0
StoodBy w gone opener names status = StandsBy w.opener.told w.disk.told w.listener.told w.link.told w.disk.state w.listener.state w.link.state w.link.begun w.link.hung_up (w.opener.journal_at opener.entry.now) (w.opener.listener_at opener.entry.now) (w.opener.state opener.entry.now).faults (w.opener.state opener.exit.now).faults names.0 names.1 gone (w.opener.asked opener.entry.now opener.exit.now) status

-- and what is left of it
abbrev pub MetBy : {O : Type 0} (w : Office O) → Across O → (journal address : List ℕ) → Stood w.Disk w.Listener w.Link → Type 0
MetBy w opener journal address stood = Stands w.opener.told w.disk.told w.listener.told w.link.told w.disk.state w.listener.state w.link.state w.link.begun w.link.hung_up (w.opener.journal_at opener.entry.now) (w.opener.listener_at opener.entry.now) (w.opener.state opener.entry.now).faults (w.opener.state opener.exit.now).faults journal address stood
