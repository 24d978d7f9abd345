-- What the load mode does.
use Rattle.std.specs.Prelude.{◌≡◌, ◌≤◌, ◌⊎◌, ◌*◌, ℕ, true, List, [], ◌∷◌, Result, Err, MatchResult}
use Rattle.dxc_disk.specs.declared.disk.Disk.{Ghosts as DiskOf}
use Rattle.dxc_disk.specs.Disks.{DiskState}
use Rattle.dxc_disk.specs.MemView.{mem_state}
use Rattle.dxc_outside.specs.declared.clock.Moment.{Moment}
use Rattle.dxc_outside.specs.declared.send.Sent.{Sent}
use Rattle.dxc_outside.specs.Links.{LinkState, IsSent}
use Rattle.dxc_model.specs.declared.entry.Entry.{Entry}
use Rattle.fabric_words.specs.Seats.{FabricId}
use Rattle.shelf_file.specs.Contents.{Contents}
use Rattle.user_admin.specs.Histories.{Opening as UsersOpening}
use Rattle.user_admin.specs.Openings.{IsOpening as IsUsersOpening}
use Rattle.user_admin.specs.Turns.{AreNumbered as AreUsersNumbered}
use Rattle.xc_core.specs.Openings.{IsOpening}
use Rattle.xc_core.specs.Seeing.{Saw}
use Rattle.xc_core.specs.States.{Opening, faults_in}
use Rattle.xc_core.specs.Turns.{AreNumbered, SawNoneAstray}
use Rattle.craft_session.specs.declared.end.SessionEnd.TheVariants.{End}
use Rattle.craft_session.specs.Meanings.{language}
use Rattle.craft_session.specs.Places.{Turnstiles, place_at}
use Rattle.craft_session.specs.Scripts.{WroteAll}
use Rattle.craft_session.specs.Seats.{IsSameSeat, IsSameUserSeat, PlaceAt}
use Rattle.craft_session.specs.Sessions.{IsPrompt, IsServed}
use Rattle.dxc_load.specs.declared.link.LoadLink.{LoadLink}
use Rattle.dxc_load.specs.declared.summary.Summary.{Summary}
use Rattle.dxc_load.specs.Carrying.{AreLoadFrames, carried_in}
use Rattle.dxc_load.specs.Codes.{coded_in, compld, deny}
use Rattle.dxc_load.specs.LoadShelf.{IsLoadShelf}
use Rattle.dxc_load.specs.Script.{load_moment}
use Rattle.dxc_load.specs.Storing.{load_disk}
use Rattle.dxc_load.specs.Sending.{IsOfLoad, fabric_of, link_state, unread, worker_of}
use Rattle.dxc_load.specs.Summaries.{summary_line}
use Rattle.dxc_args.specs.declared.status.Status.{Status}
use Rattle.dxc_args.specs.Statuses.{status_of_sent}
use Rattle.dxc_element.specs.declared.opening.Element.{Element}
use Rattle.dxc_element.specs.declared.stock.Stock.{Stock}
use Rattle.dxc_element.specs.Loads.{IsNewDisk, IsNewUsersDisk, NotLoaded}
use Rattle.dxc_element.specs.Stocks.{IsLeft, IsStockAfter}

-- what the clock of the load gives, however often it is asked
abbrev pub load_moments : List Moment
load_moments = load_moment ∷ []

-- a session was served at a place to the end of its link
pub record IsLoadServed (disk_told : Type 0) (old new : PlaceAt) (k l : LinkState) : Type 0 where
  pub session : IsServed (language old.shelf) (Unit {0}) (Unit {0}) k l load_moments load_moments old.seat new.seat old.users new.users End
  pub prompt : IsPrompt (language old.shelf) IsOfLoad (Unit {0}) (Unit {0}) k l load_moments old.seat old.users
  pub seat : IsSameSeat old.seat new.seat
  pub users : IsSameUserSeat old.users new.users
  pub numbers : AreNumbered new.seat.places new.seat.seen
  pub users_numbers : AreUsersNumbered new.users.places new.users.seen
  pub astray : SawNoneAstray disk_told new.seat.seen
  pub ended : l.ended ≡ true
  pub all_read : l.left ≡ []

-- what the summary says of connections and switches
abbrev pub stock_in : Summary → Stock
stock_in v = record { connections = v.connections; switches = v.switches }

-- the codes are those that were written to the link, and the bytes those that its worker noted in 10,000 frames
pub record IsSumOf (link : LoadLink) (v : Summary) : Type 0 where
  pub completed : v.codes.completed ≡ coded_in compld (link_state link).written
  pub denied : v.codes.denied ≡ coded_in deny (link_state link).written
  pub frames : (worker_of link).frame ≡ 2 * 10000
  pub carried : v.carried ≡ carried_in (worker_of link).notes
  pub each : AreLoadFrames (fabric_of link).size (worker_of link).number 10000 (worker_of link).notes

-- such a session was summed up, with what stands after the history that its place has seen; no call of its journal's disk failed
pub record IsSummed (disk_told : Type 0) {D : Type 0} (state : D → DiskState) (old : PlaceAt) (k : LinkState) (v : Summary) : Type 0 where
  pub new : PlaceAt
  pub link : LoadLink
  pub disk : D
  pub served : IsLoadServed disk_told old new k (link_state link)
  pub left : (h : List Entry) → Saw new.seat.opening new.seat.seen h → IsLeft state new.seat.place new.seat.places new.seat.opening h (stock_in v, disk)
  pub sound : (state disk).faults ≡ 0
  pub sum : IsSumOf link v

-- The script was sent to one session, alone on new journals, and all of it was read. Connections and switches are what its own history comes to,
-- of which no operation failed by the disk; codes and bytes are those of its link, whose worker is one of the session's fabric. Each read began where
-- all that was read was answered, at a link of the load: so frame i was carried after the response of command i, and before anything of the next
-- command was read.
pub record IsLoadedOn (told users_told : Type 0) {D U : Type 0} (state : D → DiskState) (users_state : U → DiskState) (number : ℕ) (v : Summary) : Type 0 where
  pub shelf : Contents
  pub is_shelf : IsLoadShelf shelf
  pub fabric : FabricId
  pub disk : D
  pub fresh : IsNewDisk (state disk)
  pub opening : Opening
  pub opened : IsOpening told [] shelf fabric opening
  pub users_disk : U
  pub users_fresh : IsNewUsersDisk (users_state users_disk)
  pub users_opening : UsersOpening
  pub users_opened : IsUsersOpening users_told [] shelf users_opening
  pub turnstiles : Turnstiles
  pub alone : turnstiles.places ≡ 1
  pub link : LoadLink
  pub wrote : WroteAll told (state disk) (users_state users_disk) 0 opening users_opening (Unit {0}) load_moments load_moments (language shelf) (Unit {0}) (unread number fabric) (link_state link)
  pub prompt : let first = place_at shelf opening users_opening turnstiles 0 in IsPrompt (language shelf) IsOfLoad (Unit {0}) (Unit {0}) (unread number fabric) (link_state link) load_moments first.seat first.users
  pub own : link.carrier.seat.reader.fabric ≡ fabric
  pub all_read : (link_state link).left ≡ []
  pub left : IsStockAfter opening wrote.answered.walk.history (stock_in v)
  pub sound : faults_in wrote.answered.walk.history ≡ 0
  pub sum : IsSumOf link v

-- the disks of an element that is loaded, whether they tell what they hold, and the script's number
pub record LoadTold (D U : Type 0) : Type 1 where
  pub disk : DiskOf D
  pub users_disk : DiskOf U
  pub number : ℕ

abbrev pub load_told : {D U : Type 0} → DiskOf D → DiskOf U → ℕ → LoadTold D U
load_told disk users_disk number = record { disk = disk; users_disk = users_disk; number = number }

-- the same where the element was opened, by the stops before and after
abbrev pub LoadsOn : {D U : Type 0} → LoadTold D U → Result (Element D U) Status → (stops later : ℕ) → Result Summary Status → Type 0
LoadsOn w opened stops later r =
    MatchResult opened (λ x. MatchResult r (IsLoadedOn w.disk.told w.users_disk.told w.disk.state w.users_disk.state w.number) (NotLoaded stops later) × MatchResult r (λ v. later ≡ stops) (λ s. stops ≤ later)) (λ s. (r ≡ Err s) × (later ≡ stops))

-- on journals in memory
abbrev pub IsLoaded : ℕ → Summary → Type 0
IsLoaded number v = IsLoadedOn (Unit {0}) (Unit {0}) load_disk mem_state number v

-- the terminal, and how often the gate has stopped
pub record LoadLent : Type 0 where
  pub terminal : LinkState
  pub stops : ℕ

abbrev pub load_lent : LinkState → ℕ → LoadLent
load_lent terminal stops = record { terminal = terminal; stops = stops }

-- the summary was written to the link, or a part of it where a write failed; or nothing was, and why
abbrev pub IsLoad : (number : ℕ) (told : Type 0) (before after : LoadLent) → Status → Type 0
IsLoad number told before after status =
    ((after.terminal ≡ before.terminal) × NotLoaded before.stops after.stops status)
    ⊎ ((v : Summary) × IsLoaded number v × (after.stops ≡ before.stops) × ((sent : Sent) × IsSent told before.terminal after.terminal sent (summary_line v) × (status ≡ status_of_sent sent)))
