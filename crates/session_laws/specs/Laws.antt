-- What is true of every session's run.
use Rattle.std.specs.Prelude.{◌≡◌, ◌<◌, ◌↔◌, ℕ, false, Option, Some, List, [], ◌∷◌, ◌++◌}
use Rattle.std.specs.List.{AllByRecursion}
use Rattle.dxc_outside.specs.declared.clock.Moment.{Moment}
use Rattle.dxc_disk.specs.Disks.{DiskState}
use Rattle.dxc_outside.specs.Items.{Item}
use Rattle.dxc_outside.specs.Links.{LinkState}
use Rattle.dxc_model.specs.declared.cause.Cause.TheVariants.{NoMiddle}
use Rattle.dxc_model.specs.declared.conn.Conn.{Conn}
use Rattle.dxc_model.specs.declared.op.Op.TheVariants.{Enter}
use Rattle.dxc_model.specs.declared.op.Change.{Change}
use Rattle.dxc_model.specs.declared.op.Change.TheVariants as change
use Rattle.dxc_model.specs.declared.entry.Entry.{Entry}
use Rattle.dxc_model.specs.Steps.{IsFault}
use Rattle.dxc_model.specs.Histories.{IsLegal, changes_of, table_after}
use Rattle.tl1_text.specs.Units.{Input, IsRest}
use Rattle.turnstile.specs.Turning.{Each}
use Rattle.user_admin.specs.Turns.{AreNumbered as AreUsersNumbered}
use Rattle.user_admin.specs.Users.{Users}
use Rattle.dxc_model.specs.declared.user.SessionUser.{SessionUser}
use Rattle.fabric_words.specs.Seats.{FabricId}
use Rattle.shelf_file.specs.Contents.{Contents}
use Rattle.xc_recovery.specs.Placings.{IsPlaced}
use Rattle.xc_core.specs.Openings.{IsOpening}
use Rattle.xc_core.specs.Reckonings.{Past}
use Rattle.xc_core.specs.States.{LimitBehind, Opening, rules_of}
use Rattle.xc_core.specs.Turns.{AreNumbered, SawNoneAstray}
use Rattle.craft_session.specs.declared.ask.Ask.TheVariants.{Changes}
use Rattle.craft_session.specs.declared.attending.Attending.{Attending}
use Rattle.craft_session.specs.Asks.{Language, Reply, completed, denied}
use Rattle.session_laws.specs.Entering.{CanBeEnteredBehind, HasMiddles, IsBelowLimit}
use Rattle.craft_session.specs.Happenings.{Happening, Happens, Request, unit, quiet, bytes_in, inputs_in, told_in}
use Rattle.craft_session.specs.Runs.{Run, Walk}
use Rattle.craft_session.specs.Walks.{IsUnused, begun_by}
use Rattle.craft_session.specs.Plain.{At, Meanwhile, Plays, Replies, Said, alone, said_in, standing}
use Rattle.craft_session.specs.Scripts.{IsOpeningOf, IsOwn, IsScript, excused_by, room_of}
use Rattle.craft_session.specs.PlainUsers.{IsUsersOpeningOf, IsUsersUnsoundBy, PlaysUsers, users_room_of}
use Rattle.craft_session.specs.Seats.{SeatAt, UserSeatAt}
use Rattle.craft_session.specs.Sessions.{IsServed}
use Rattle.craft_session.specs.Meanings.{language_for}
use Rattle.craft_session.specs.declared.end.SessionEnd.{SessionEnd}

-- entries that no unit of the place uses may come between two steps of a session
abbrev pub among : ℕ → Meanwhile
among place a b = (es : List Entry) × Each (IsUnused place) es × (b ≡ record { table = table_after a.table es; changes = a.changes ++ changes_of es; attending = a.attending })

-- what happened, without what was heard and told
abbrev pub bare : List (Happening Request) → List (Happening Input)
bare [] = []
bare (unit u ∷ hs) = unit u.input ∷ bare hs
bare (quiet ∷ hs) = quiet ∷ bare hs

-- of the same bytes the same units happen
abbrev pub AreUnitsAlone : Type 0
AreUnitsAlone = (items more : List Item) (hs gs : List (Happening Request)) (rest other : List ℕ) → Happens items hs rest → Happens more gs other → IsRest rest → IsRest other → bytes_in items ≡ bytes_in more → inputs_in hs ≡ inputs_in gs

-- A run over a legal history writes what the plain session does whose table is that of the history at each entry of the place. What denies a
-- change that table and limits grant is a fault of the journal.
abbrev pub ArePlayed : Type 0
ArePlayed = (l : Language Request Moment) (place : ℕ) (o : Opening) (past : List Entry) (w : Walk Request Moment) → Run l place o.first.fold.table past w → IsLegal (rules_of o) w.history → w.due ≡ false
    → Plays l (LimitBehind o.first) IsFault (among place) (standing o.first.fold.table past (begun_by l.first)) w.happenings (said_in w) (standing o.first.fold.table w.history w.attending)

-- a run over a history of the place's entries alone writes what the plain session does on its one table
abbrev pub ArePlayedAlone : Type 0
ArePlayedAlone = (l : Language Request Moment) (place margin room commands : ℕ) (o : Opening) (past : List Entry) (w : Walk Request Moment) → Run l place o.first.fold.table past w → IsLegal (rules_of o) w.history → AllByRecursion (IsOwn place (excused_by ⊥ margin room commands)) w.history → w.due ≡ false
    → Plays l (LimitBehind o.first) (excused_by ⊥ margin room commands) alone (standing o.first.fold.table past (begun_by l.first)) w.happenings (said_in w) (standing o.first.fold.table w.history w.attending)

-- on disks that are sound for opening and all commands the plain session is one: what happened and the moments determine what is written
abbrev pub AreResponsesOnce : Type 0
AreResponsesOnce = (l : Language Request Moment) (o : Opening) (commands room other_room : ℕ) (a b c : At) (hs : List (Happening Request)) (x y : Said Moment) → room_of commands < room → room_of commands < other_room
    → Plays l (LimitBehind o.first) (excused_by (Unit {0}) 0 room commands) alone a hs x b → Plays l (LimitBehind o.first) (excused_by (Unit {0}) 0 other_room commands) alone a hs y c → x.moments ≡ y.moments → (x ≡ y) × (b ≡ c)

-- From the same users on, on a disk that is sound, the same units of a session that is alone hear the same, and come to the same users. What stands of
-- the program is told, as a moment is: where the same was told, what happened is the same.
abbrev pub AreHearingsOnce : Type 0
AreHearingsOnce = (first : SessionUser) (l : Contents) (sid : List ℕ) (commands room other_room : ℕ) (users then_users also_users : Users) (s then_s also_s : SessionUser) (hs gs : List (Happening Request)) → users_room_of commands < room → users_room_of commands < other_room
    → PlaysUsers (language_for first l) sid (IsUsersUnsoundBy 0 room commands) users s hs then_users then_s → PlaysUsers (language_for first l) sid (IsUsersUnsoundBy 0 other_room commands) users s gs also_users also_s → bare hs ≡ bare gs → told_in hs ≡ told_in gs
    → (hs ≡ gs) × ((then_users ≡ also_users) × (then_s ≡ also_s))

-- The one session of turnstiles with one pass, on the openings of two disks, wrote what the plain session writes that is alone. Where the disk tells its
-- content, the journal never reads otherwise than it was written.
abbrev pub AreScripts : (told clock_told disk_told : Type 0) {D U : Type 0} → (D → DiskState) → (U → DiskState) → Type 0
AreScripts told clock_told disk_told {D} {U} state users_state = (disk : D) (users_disk : U) (k l : LinkState) (c d : List Moment) (tongue : Language Request Moment) (old new : SeatAt) (users then_users : UserSeatAt) (end : SessionEnd)
    → IsOpeningOf (state disk) old.opening → IsUsersOpeningOf (users_state users_disk) users.opening → old.seen ≡ [] → users.seen ≡ [] → old.place ≡ 0 → users.place ≡ 0 → new.places ≡ 1 → then_users.places ≡ 1 → AreNumbered new.places new.seen → AreUsersNumbered then_users.places then_users.seen
    → SawNoneAstray disk_told new.seen → IsServed tongue told clock_told k l c d old new users then_users end → IsScript disk_told (state disk) (users_state users_disk) old.place old.opening users.opening clock_told c d tongue told k l end

-- what a file stands for on a shelf has one set of legs in table and colouring, whatever the disk tells
abbrev pub OpeningsArePlaced : Type 0
OpeningsArePlaced = (file : List ℕ) (shelf : Contents) (fabric : FabricId) (o : Opening) → IsOpening ⊥ file shelf fabric o → IsPlaced o.first.fold.table o.first.fold.colours

-- An entry that unit and user allow and that can be made is completed, where each leg has a middle, the numbers suffice, and no fault of the journal
-- excuses a denial: it is made.
abbrev pub EntriesAreCompleted : Type 0
EntriesAreCompleted = (o : Opening) (h : List Entry) (s : Attending) (b : Past) (c : Conn) (r : Reply) (did : Option Change) → CanBeEnteredBehind o h b c → HasMiddles b c → IsBelowLimit b c
    → Replies (LimitBehind o.first) (λ q. ⊥) (standing o.first.fold.table h s) (Changes (Enter c)) r did → (r ≡ completed) × (did ≡ Some (change.Enter c))

-- it is denied for want of a middle exactly where a leg has none
abbrev pub EntriesWantMiddles : Type 0
EntriesWantMiddles = (o : Opening) (h : List Entry) (s : Attending) (b : Past) (c : Conn) (r : Reply) (did : Option Change) → CanBeEnteredBehind o h b c
    → Replies (LimitBehind o.first) (λ q. ⊥) (standing o.first.fold.table h s) (Changes (Enter c)) r did → (r ≡ denied NoMiddle) ↔ (HasMiddles b c → ⊥)
