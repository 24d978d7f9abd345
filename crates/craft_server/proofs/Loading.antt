-- The load mode: its seat, how its session ends, and what that left.
use Rattle.std.proofs.Common.{◌≡◌, ◌≢◌, ◌↔◌, ◌<◌, ◌≤◌, ◌++◌, ◌^◌, arith, ℕ, Bool, true, false, IsTrue, List, [], ◌∷◌, append-nil, Option, Result, Ok, Err, inl, inr, refl, sym, ◌∙◌, ap, subst}
use Rattle.std.specs.Prelude.{IfOk, IfSome, MatchResult}
use Rattle.std.specs.Arc.{arc_value}
use Rattle.dxc_causes.specs.Causes.{Counted, Rose}
use Rattle.dxc_disk.specs.declared.mem_disk.MemDisk.{MemDisk}
use Rattle.dxc_disk.specs.Disks.{DiskState}
use Rattle.dxc_num.specs.Dimensions.{ports}
use Rattle.dxc_outside.specs.Links.{LinkState}
use Rattle.dxc_model.specs.declared.entry.Entry.{Entry}
use Rattle.fabric_words.specs.contracts.fabric.Fabric as fabric_row
use Rattle.shelf_file.specs.Contents.{Contents}
use Rattle.turnstile.specs.Passing.{TurnstileView, Token}
use Rattle.turnstile.specs.Turning.{Each}
use Rattle.user_admin.specs.Histories.{Opening as UsersOpening}
use Rattle.user_admin.specs.Openings.{IsOpening as IsUsersOpening}
use Rattle.user_admin.specs.States.{opening_of as users_opening}
use Rattle.xc_core.specs.declared.state.State.{State}
use Rattle.xc_core.specs.Openings.{IsOpening}
use Rattle.xc_core.specs.Seeing.{Saw}
use Rattle.xc_core.specs.States.{Opening, faults_in, opening_of}
use Rattle.craft_session.specs.declared.end.SessionEnd.{SessionEnd}
use Rattle.craft_session.specs.declared.end.SessionEnd.TheVariants.{End, Spent}
use Rattle.craft_session.specs.Meanings.{language}
use Rattle.craft_session.specs.Places.{IsLonePlace, place_at}
use Rattle.craft_session.specs.Seats.{PlaceAt, SeatAt, seat_at}
use Rattle.craft_session.proofs.Scripts.{script_seen}
use Rattle.dxc_load.specs.declared.disk.LoadDisk.{LoadDisk}
use Rattle.dxc_load.specs.declared.summary.Summary.{Summary}
use Rattle.dxc_load.specs.Sending.{fabric_of, link_state, unread}
use Rattle.dxc_args.specs.declared.status.Status.{Status}
use Rattle.dxc_args.specs.declared.status.Status.TheVariants.{BadWords}
use Rattle.dxc_args.specs.declared.status.Status.TheVariants as Status_of
use Rattle.dxc_element.specs.declared.opening.Element.{Element}
use Rattle.dxc_element.specs.declared.stock.Stock.{Stock}
use Rattle.dxc_element.specs.Loads.{IsLoadElement, IsLoadStarted, NotLoaded}
use Rattle.dxc_element.specs.Stocks.{IsCounted, IsLeft, IsStockAfter}
use Rattle.dxc_element.proofs.Wording.{sent_words}
use Rattle.craft_server.specs.Loads.{IsLoad, IsLoaded, IsLoadedOn, IsLoadServed, IsSummed, LoadLent, load_moments, stock_in}
use Rattle.craft_server.proofs.Starting.{of_disk, users_of_disk}

-- of an element that was opened, and of none
pub if_started : {A : Type 0} (P : A → Type 0) (Q : Status → Type 0) (r : Result A Status) → MatchResult r P Q → IfOk r P
if_started P Q (Ok x) is = is
if_started P Q (Err s) is = tt

pub on_started : {A : Type 0} (P : A → Type 0) (r : Result A Status) (x : A) → r ≡ Ok x → IfOk r P → P x
on_started P r x is has = subst (λ p. IfOk p P) is has

module _ (number stops mid later : ℕ) (r : Result Summary Status) where
  -- what was loaded, by an element in memory
  abbrev LoadsIn : Result (Element LoadDisk MemDisk) Status → Type 0
  LoadsIn x = MatchResult x (λ e. MatchResult r (IsLoaded number) (NotLoaded mid later) × MatchResult r (λ v. later ≡ mid) (λ s. mid ≤ later)) (λ s. (r ≡ Err s) × (later ≡ mid))

  pub loaded_by : (x : Result (Element LoadDisk MemDisk) Status) → MatchResult x IsLoadStarted (NotLoaded stops mid) → MatchResult x (λ e. mid ≡ stops) (λ s. stops ≤ mid) → LoadsIn x → MatchResult r (IsLoaded number) (NotLoaded stops later)
  loaded_by (Ok e) started same told = subst (λ (n : ℕ). MatchResult r (IsLoaded number) (NotLoaded n later)) same told.0
  loaded_by (Err s) not up told = subst (λ (p : Result Summary Status). MatchResult p (IsLoaded number) (NotLoaded stops later)) (sym told.0) (subst (λ (n : ℕ). NotLoaded stops n s) (sym told.1) not)

  pub stops_by : (x : Result (Element LoadDisk MemDisk) Status) → MatchResult x (λ e. mid ≡ stops) (λ s. stops ≤ mid) → LoadsIn x → MatchResult r (λ v. later ≡ stops) (λ s. stops ≤ later)
  stops_by (Ok e) same told = subst (λ (n : ℕ). MatchResult r (λ v. later ≡ n) (λ s. n ≤ later)) same told.1
  stops_by (Err s) up told = subst (λ (p : Result Summary Status). MatchResult p (λ v. later ≡ stops) (λ e. stops ≤ later)) (sym told.0) (subst (λ (n : ℕ). stops ≤ n) (sym told.1) up)

-- no status of the load is that of words which aren't understood
pub load_words : (number : ℕ) (told : Type 0) (before after : LoadLent) (status : Status) → IsLoad number told before after status → status ≢ BadWords
load_words number told before after status is = λ bad. elim is [
  | inl not ↦ (elim not.1 [ inl memory ↦ (let no : Status_of.NoMemory ≡ BadWords = sym memory ∙ bad in cc) | inr stopped ↦ (let no : Status_of.Stopped ≡ BadWords = sym stopped.0 ∙ bad in cc) ])
  | inr ran ↦ sent_words ran.3.0 (sym ran.3.2 ∙ bad)
]

-- a link of the load never fails a read
pub no_read_fault : Rose 0 0 → ⊥
no_read_fault rose = absurd (omega (arith, rose))

-- nor does its script take all reads
pub not_spent : (ended : Bool) (reads : ℕ) (e : SessionEnd) → e ≡ Spent → (e ≡ End) ↔ IsTrue ended → Counted 0 reads (2 ^ 32) → (ended ≡ false → reads < 2 ^ 21) → ⊥
not_spent true reads e is ended counted few = let no : Spent ≡ End = sym is ∙ ended.1 refl in cc
not_spent false reads e is ended counted few = let low = few refl in absurd (omega (arith, counted.reached, low))

-- what the pass finds that a place gave up
module _ {D : Type 0} (state : D → DiskState) (p : Token) (t u : TurnstileView (State D)) (s : SeatAt) (same : u ≡ t) (is : seat_at state p t ≡ s) where
  given_up : seat_at state p u ≡ s
  given_up = ap (λ (v : TurnstileView (State D)). seat_at state p v) same ∙ is

  pub room_given : (room : ℕ) → ports s.opening.first.fold.table.shape ≤ room → ports (opening_of state u.first).first.fold.table.shape ≤ room
  room_given room enough = subst (λ (x : SeatAt). ports x.opening.first.fold.table.shape ≤ room) (sym given_up) enough

  pub left_given : (r : Option (Stock × D)) → ((h : List Entry) → Saw (opening_of state u.first) p.seen h → IfSome r (IsLeft state p.number u.passes (opening_of state u.first) h)) → (h : List Entry) → Saw s.opening s.seen h → IfSome r (IsLeft state s.place s.places s.opening h)
  left_given r left = subst (λ (x : SeatAt). (h : List Entry) → Saw x.opening x.seen h → IfSome r (IsLeft state x.place x.places x.opening h)) given_up left

-- of one place nobody else leaves an entry
nobody_else : (es : List Entry) → Each (λ e. e.place ≢ 0) es → Each (λ e. e.place < 1) es → es ≡ []
nobody_else [] others numbers = refl
nobody_else (e ∷ es) others numbers = absurd (others.0 (let low = numbers.0 in omega (arith, low)))

module _ {D : Type 0} (state : D → DiskState) (o : Opening) (h : List Entry) (s : Stock) (disk : D) (left : IsLeft state 0 1 o h (s, disk)) where
  all_seen : h ++ left.later ≡ h
  all_seen = ap (λ (es : List Entry). h ++ es) (nobody_else left.later left.others left.numbers) ∙ append-nil h

  left_alone : IsStockAfter o h s
  left_alone = subst (λ (l : List Entry). IsStockAfter o l s) all_seen left.after

  -- where no call of its journal's disk failed, no operation failed by it
  no_failure : (state disk).faults ≡ 0 → faults_in h ≡ 0
  no_failure sound =
      let counted = subst (λ (l : List Entry). IsCounted o l (state disk)) all_seen left.counted in
      omega (arith, counted, sound)

module _ (told users_told : Type 0) {D U : Type 0} (state : D → DiskState) (users_state : U → DiskState) (number : ℕ) (x : Element D U) (el : IsLoadElement told users_told state users_state x) where
  abbrev o : Opening
  o = opening_of state x.controller.state

  abbrev p : UsersOpening
  p = users_opening users_state x.users

  -- a session on the load's element, summed up
  summed_on : (place : PlaceAt) (k : LinkState) (v : Summary) → IsLonePlace (arc_value x.controller.shelf) o p place → k ≡ unread number (arc_value x.controller.fabric) → IsSummed told state place k v → IsLoadedOn told users_told state users_state number v
  summed_on place k v lone unread_is s =
      let l = link_state s.link in
      let fabric = arc_value x.controller.fabric in
      let start = unread number fabric in
      let t = lone.turnstiles in
      let first = place_at el.shelf o p t 0 in
      let at : place ≡ first = lone.place ∙ ap (λ (y : Contents). place_at y o p t 0) el.started.shelf in
      let served = subst (λ (q : PlaceAt). IsLoadServed told q s.new start l) at (subst (λ (m : LinkState). IsLoadServed told place s.new m l) unread_is s.served) in
      let seen = script_seen told (Unit {0}) (Unit {0}) (state el.disk) (users_state el.users_disk) start l load_moments load_moments (language el.shelf) first.seat s.new.seat first.users s.new.users
      (of_disk told state el.disk el.shelf 1 x.controller el.started) (users_of_disk users_told users_state el.users_disk el.shelf x.users el.users_started) refl refl refl (served.seat.2 ∙ lone.count) (served.users.2 ∙ lone.count) served.numbers served.users_numbers served.astray served.session in
      let seat = s.new.seat in
      let left = subst (λ (y : Opening). (h : List Entry) → Saw y seat.seen h → IsLeft state seat.place seat.places y h (stock_in v, s.disk)) served.seat.0 s.left in
      let h = seen.0.answered.walk.history in
      let own = subst (λ (n : ℕ). IsLeft state n 1 o h (stock_in v, s.disk)) served.seat.1 (subst (λ (n : ℕ). IsLeft state seat.place n o h (stock_in v, s.disk)) (served.seat.2 ∙ lone.count) (left h seen.1)) in
      record {
        turnstiles = t;
        alone = lone.count;
        shelf = el.shelf;
        is_shelf = el.is_shelf;
        fabric = fabric;
        disk = el.disk;
        fresh = el.fresh;
        opening = o;
        opened = subst (λ (file : List ℕ). IsOpening told file el.shelf fabric o) el.fresh.content el.started.opening;
        users_disk = el.users_disk;
        users_fresh = el.users_fresh;
        users_opening = p;
        users_opened = subst (λ (file : List ℕ). IsUsersOpening users_told file el.shelf p) el.users_fresh.content el.users_started.opening;
        link = s.link;
        wrote = seen.0;
        prompt = served.prompt;
        own = s.link.carrier.own ∙ fabric_row.the_row.coded.inj (fabric_of s.link) fabric seen.0.exchanged.lasting;
        all_read = served.all_read;
        left = left_alone state o h (stock_in v) s.disk own;
        sound = no_failure state o h (stock_in v) s.disk own s.sound;
        sum = s.sum;
      }

  pub loaded_on : (place : PlaceAt) (k : LinkState) (stops later : ℕ) (r : Result Summary Status) → IsLonePlace (arc_value x.controller.shelf) o p place → k ≡ unread number (arc_value x.controller.fabric) → MatchResult r (IsSummed told state place k) (NotLoaded stops later) → MatchResult r (IsLoadedOn told users_told state users_state number) (NotLoaded stops later)
  loaded_on place k stops later (Ok v) lone unread_is s = summed_on place k v lone unread_is s
  loaded_on place k stops later (Err e) lone unread_is not = not
