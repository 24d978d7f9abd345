-- The element of a trial, and what its session did.
use Rattle.std.proofs.Common.{◌≡◌, ◌≢◌, ◌≤◌, arith, ℕ, List, [], Some, Result, Ok, Err, inl, inr, sym, ◌∙◌, ap, subst}
use Rattle.std.specs.Prelude.{IfOk, MatchResult, option_map, slice_get}
use Rattle.std.specs.Arc.{arc_value}
use Rattle.dxc_disk.specs.declared.mem_disk.MemDisk.{MemDisk}
use Rattle.dxc_disk.specs.MemView.{mem_state}
use Rattle.dxc_model.specs.declared.user.SessionUser.{SessionUser}
use Rattle.dxc_model.specs.Equipment.{empty_table}
use Rattle.dxc_num.specs.Dimensions.{Dimensions}
use Rattle.dxc_outside.specs.declared.clock.Moment.{Moment}
use Rattle.dxc_outside.specs.Links.{LinkState}
use Rattle.fabric_words.specs.Seats.{FabricId}
use Rattle.journal_core.specs.declared.head.Head.{Head}
use Rattle.shelf_file.specs.Contents.{Contents, UserEntry}
use Rattle.shelf_file.specs.Trials.{IsTrialShelf, trial_user}
use Rattle.shelf_file.specs.Users.{logged_in}
use Rattle.user_admin.specs.Openings.{IsOpening as IsUsersOpening}
use Rattle.user_admin.specs.States.{opening_of as users_opening}
use Rattle.xc_core.specs.Openings.{IsOpening}
use Rattle.xc_core.specs.States.{Opening, opening_of}
use Rattle.xc_recovery.specs.Folds.{Folded, IsFold}
use Rattle.dxc_args.specs.declared.status.Status.{Status}
use Rattle.dxc_args.specs.declared.status.Status.TheVariants.{BadWords, NoMemory, Stopped}
use Rattle.dxc_element.specs.declared.opening.Element.{Element}
use Rattle.dxc_element.specs.Loads.{IsInMemory, NotLoaded}
use Rattle.craft_server.specs.Scripts.{RanSession}
use Rattle.craft_server.specs.Trials.{IsTrialElement, IsTrialOn, IsTried, RanTrial, TrialLent, TrialTold, TriesOn, shape_in, trial_lent}
use Rattle.craft_server.proofs.Wording.{end_words}

-- on a new file the table is empty
empty_begins : (told : Type 0) (s : Contents) (fabric : FabricId) (o : Opening) → IsOpening told [] s fabric o → told → o.first.fold.table ≡ empty_table s.shape s.equipped
empty_begins told s fabric o op t =
    let made = op.made t (inl (omega arith)) in
    let none : op.folded.read ≡ [] = op.folded.same t ∙ made.1 in
    let comes = op.folded.comes in
    let last : Folded = record { table = o.first.fold.table; colours = o.first.fold.colours; work = o.first.fold.work; switches = comes.0 } in
    let fold = subst (λ (rs : List (List ℕ)). IsFold s.shape op.folded.head rs last) none comes.1 in
    ap (λ (f : Folded). f.table) fold ∙ ap (λ (h : Head). empty_table s.shape h.equipped) made.0

-- whom the shelf's first user is as one who is logged in
pub first_user : (s : Contents) (us : List UserEntry) (u : SessionUser) (shape : Dimensions) → us ≡ s.users → IsTrialShelf shape s → option_map logged_in (slice_get us 0) ≡ Some u → u ≡ logged_in trial_user
first_user s us u shape same is found =
    let there : Some (logged_in trial_user) ≡ Some u = ap (λ (xs : List UserEntry). option_map logged_in (slice_get xs 0)) (sym (same ∙ is.users)) ∙ found in
    cc

module _ (told : TrialTold) (shape : Dimensions) (x : Element told.D told.D) (el : IsTrialElement told.disk told.state shape x) (before after : TrialLent) (status : Status) where
  -- the session was that of a trial
  pub ran_trial : RanSession told.disk told.terminal told.clock told.begun (told.state el.is_new.disk) (told.state el.is_new.users_disk) (logged_in trial_user) el.shelf (opening_of told.state x.controller.state) (users_opening told.state x.users) before.terminal after.terminal before.clock after.clock before.stops after.stops status
      → RanTrial told shape before after status
  ran_trial ran =
      let n = el.is_new in
      let s = el.shelf in
      let o = opening_of told.state x.controller.state in
      let fabric = arc_value x.controller.fabric in
      let opened = subst (λ (file : List ℕ). IsOpening told.disk file s fabric o) n.fresh.content n.started.opening in
      record {
        shelf = s;
        is_shelf = el.is_shelf;
        fabric = fabric;
        disk = n.disk;
        fresh = n.fresh;
        opening = o;
        opened = opened;
        empty = λ t. empty_begins told.disk s fabric o opened t ∙ ap (λ (d : Dimensions). empty_table d s.equipped) el.is_shelf.shape;
        users_disk = n.users_disk;
        users_fresh = n.users_fresh;
        users_opening = users_opening told.state x.users;
        users_opened = subst (λ (file : List ℕ). IsUsersOpening told.disk file s (users_opening told.state x.users)) n.users_fresh.content n.users_started.opening;
        session = ran;
      }

-- the shape of an element in memory is the trial's
shape_is : (shape : Dimensions) (s : Contents) (x : Element MemDisk MemDisk) → IsTrialShelf shape s → IsInMemory s x → shape_in x ≡ shape
shape_is shape s x is new = ap (λ (y : Contents). y.shape) new.started.shelf ∙ is.shape

pub if_shape : (shape : Dimensions) (s : Contents) (x : Result (Element MemDisk MemDisk) Status) (stops later : ℕ) → IsTrialShelf shape s → MatchResult x (IsInMemory s) (NotLoaded stops later) → IfOk x (λ e. shape_in e ≡ shape)
if_shape shape s (Ok x) stops later is new = shape_is shape s x is new
if_shape shape s (Err e) stops later is not = tt

-- of an element in memory, and of none
pub if_in_memory : (shape : Dimensions) (s : Contents) (x : Result (Element MemDisk MemDisk) Status) (stops later : ℕ) → IsTrialShelf shape s → MatchResult x (IsInMemory s) (NotLoaded stops later) → IfOk x (IsTried (Unit {0}) mem_state)
if_in_memory shape s (Ok x) stops later is new = record { shelf = s; is_shelf = subst (λ (d : Dimensions). IsTrialShelf d s) (sym (shape_is shape s x is new)) is; is_new = new }
if_in_memory shape s (Err e) stops later is not = tt

pub tried_by : (told : TrialTold) (shape : Dimensions) (P : Element told.D told.D → Type 0) (x : Result (Element told.D told.D) Status) (k : LinkState) (c : List Moment) (stops mid : ℕ) (after : TrialLent) (status : Status) → IfOk x (λ e. shape_in e ≡ shape) → MatchResult x P (NotLoaded stops mid) → MatchResult x (λ e. mid ≡ stops) (λ s. stops ≤ mid)
    → TriesOn told x (trial_lent k c mid) after status → IsTrialOn told shape (trial_lent k c stops) after status
tried_by told shape P (Ok e) k c stops mid after status is new same did = subst (λ (d : Dimensions). IsTrialOn told d (trial_lent k c stops) after status) is (subst (λ (n : ℕ). IsTrialOn told (shape_in e) (trial_lent k c n) after status) same did)
tried_by told shape P (Err s) k c stops mid after status is not up did = inl (record {
  terminal = ap (λ (m : TrialLent). m.terminal) did.0;
  clock = ap (λ (m : TrialLent). m.clock) did.0;
  why = subst (λ (w : ℕ × Status). NotLoaded stops w.0 w.1) (λ i. (sym (ap (λ (m : TrialLent). m.stops) did.0) i, sym did.1 i)) not;
})

-- no status of a trial is that of words which aren't understood
pub trial_words : (told : TrialTold) (shape : Dimensions) (before after : TrialLent) (status : Status) → IsTrialOn told shape before after status → status ≢ BadWords
trial_words told shape before after status (inl none) = λ bad. elim none.why [
  | inl memory ↦ (let no : NoMemory ≡ BadWords = sym memory ∙ bad in cc)
  | inr stopped ↦ (let no : Stopped ≡ BadWords = sym stopped.0 ∙ bad in cc)
]
trial_words told shape before after status (inr ran) = λ bad. end_words ran.session.end (sym ran.session.status_is ∙ bad)
