-- One session was served on a controller that was opened.
use Rattle.std.proofs.Common.{◌≡◌, ◌≢◌, ◌↔◌, ◌^◌, ◌⊎◌, ℕ, List, IsTrue, inl, inr, refl, sym, ◌∙◌, ap, subst}
use Rattle.std.specs.Arc.{arc_value}
use Rattle.dxc_causes.specs.Causes.{Rose, Counted}
use Rattle.dxc_disk.specs.Disks.{DiskState}
use Rattle.dxc_outside.specs.declared.clock.Moment.{Moment}
use Rattle.dxc_outside.specs.Links.{LinkState}
use Rattle.dxc_model.specs.declared.user.SessionUser.{SessionUser}
use Rattle.dxc_leaving.specs.Values.{AnyValue, any_value}
use Rattle.shelf_file.specs.Contents.{Contents}
use Rattle.user_admin.specs.declared.state.UserState.{UserState}
use Rattle.user_admin.specs.Histories.{Opening as UsersOpening}
use Rattle.user_admin.specs.States.{opening_of as users_opening}
use Rattle.user_admin.specs.Turns.{AreNumbered as AreUsersNumbered}
use Rattle.xc_core.specs.States.{Opening, opening_of}
use Rattle.xc_core.specs.Turns.{AreNumbered, SawNoneAstray}
use Rattle.craft_session.specs.declared.end.SessionEnd.{SessionEnd}
use Rattle.craft_session.specs.declared.end.SessionEnd.TheVariants.{End, ReadFault, WriteFault, Stopped, Spent, Unattended, Idle, Cancelled}
use Rattle.craft_session.specs.Meanings.{language_for}
use Rattle.craft_session.specs.Seats.{IsSameSeat, IsSameUserSeat, PlaceAt}
use Rattle.craft_session.specs.Sessions.{IsPrompt, IsServed}
use Rattle.craft_session.proofs.Scripts.{script_of}
use Rattle.dxc_element.specs.declared.opening.Controller.{Controller}
use Rattle.dxc_args.specs.declared.status.Status.{Status}
use Rattle.dxc_args.specs.declared.status.Status.TheVariants.{Done, Link, Stopped as Was_stopped, Spent as Ran_out}
use Rattle.dxc_element.specs.Openings.{AreUsersStarted, IsStarted}
use Rattle.craft_session.specs.Places.{IsLonePlace, place_at}
use Rattle.craft_server.specs.Scripts.{RanAndLeft, RanSession}
use Rattle.craft_server.specs.Statuses.{status_of}
use Rattle.craft_server.proofs.Starting.{of_disk, users_of_disk}

-- what the session's clauses tell of its end
pub record IsEnd (k l : LinkState) (stops later : ℕ) (end : SessionEnd) : Type 0 where
  pub ended : (end ≡ End) ↔ IsTrue l.ended
  pub read_fault : end ≡ ReadFault → Rose k.read_faults l.read_faults
  pub write_fault : end ≡ WriteFault → Rose k.write_faults l.write_faults
  pub stopped : end ≡ Stopped → Rose stops later
  pub unstopped : end ≢ Stopped → later ≡ stops
  pub spent : end ≡ Spent → Counted k.reads l.reads (2 ^ 32)
  pub attended : end ≢ Unattended
  pub endless : end ≢ Idle
  pub alone : end ≢ Cancelled

done_at : (end : SessionEnd) → status_of end ≡ Done → end ≡ End
done_at End is = refl
done_at ReadFault is = cc
done_at WriteFault is = cc
done_at Stopped is = cc
done_at Spent is = cc
done_at Unattended is = cc
done_at Idle is = cc
done_at Cancelled is = cc

link_at : (k l : LinkState) (stops later : ℕ) (end : SessionEnd) → IsEnd k l stops later end → status_of end ≡ Link → Rose k.read_faults l.read_faults ⊎ Rose k.write_faults l.write_faults
link_at k l stops later End e is = cc
link_at k l stops later Spent e is = cc
link_at k l stops later Unattended e is = cc
link_at k l stops later Idle e is = cc
link_at k l stops later Cancelled e is = cc
link_at k l stops later Stopped e is = cc
link_at k l stops later ReadFault e is = inl (e.read_fault refl)
link_at k l stops later WriteFault e is = inr (e.write_fault refl)

stopped_at : (end : SessionEnd) → status_of end ≡ Was_stopped → end ≡ Stopped
stopped_at End is = cc
stopped_at ReadFault is = cc
stopped_at WriteFault is = cc
stopped_at Stopped is = refl
stopped_at Spent is = cc
stopped_at Unattended is = cc
stopped_at Idle is = cc
stopped_at Cancelled is = cc

spent_at : (end : SessionEnd) → end ≢ Unattended → end ≢ Idle → end ≢ Cancelled → status_of end ≡ Ran_out → end ≡ Spent
spent_at End attended endless alone is = cc
spent_at ReadFault attended endless alone is = cc
spent_at WriteFault attended endless alone is = cc
spent_at Stopped attended endless alone is = cc
spent_at Spent attended endless alone is = refl
spent_at Unattended attended endless alone is = absurd (attended refl)
spent_at Idle attended endless alone is = absurd (endless refl)
spent_at Cancelled attended endless alone is = absurd (alone refl)

module _ {D : Type 0} (disk_told : Type 0) (state : D → DiskState) (told clock_told : Type 0) (begun : LinkState → Type 0) (k l : LinkState) (c d : List Moment) (stops later : ℕ) (first : SessionUser) (s : Contents) (disk users_disk : D) where
  -- what the session at its one place did, and that the place was let go as it left it
  pub ran_and_left : (gone : AnyValue → Type 0) (workers : ℕ) (x : Controller D) (u : UserState D) (old new : PlaceAt) (end : SessionEnd) (status : Status) → IsStarted disk_told state disk s workers x → AreUsersStarted disk_told state users_disk s u → IsLonePlace (arc_value x.shelf) (opening_of state x.state) (users_opening state u) old
      → IsSameSeat old.seat new.seat → IsSameUserSeat old.users new.users → AreNumbered new.seat.places new.seat.seen → AreUsersNumbered new.users.places new.users.seen → SawNoneAstray disk_told new.seat.seen
      → IsServed (language_for first old.shelf) told clock_told k l c d old.seat new.seat old.users new.users end → IsPrompt (language_for first old.shelf) begun told clock_told k l c old.seat old.users → IsEnd k l stops later end → status ≡ status_of end → gone (any_value new) → RanAndLeft disk_told told clock_told begun gone (state disk) (state users_disk) first s (opening_of state x.state) (users_opening state u) k l c d stops later status
  ran_and_left gone workers x u old new end status started users_started lone same users_same numbers users_numbers astray served prompt e status_is let_go =
      let o : Opening = opening_of state x.state in
      let p : UsersOpening = users_opening state u in
      let t = lone.turnstiles in
      let at : old ≡ place_at s o p t 0 = lone.place ∙ ap (λ (y : Contents). place_at y o p t 0) started.shelf in
      let here = subst (λ (q : PlaceAt). IsServed (language_for first q.shelf) told clock_told k l c d q.seat new.seat q.users new.users end) at served in
      let one : new.seat.places ≡ 1 = same.2 ∙ ap (λ (q : PlaceAt). q.seat.places) at ∙ lone.count in
      let users_one : new.users.places ≡ 1 = users_same.2 ∙ ap (λ (q : PlaceAt). q.users.places) at ∙ lone.count in
      record {
        ran = record {
          turnstiles = t;
          alone = lone.count;
          end = end;
          status_is = status_is;
          wrote = script_of disk_told told clock_told (state disk) (state users_disk) k l c d (language_for first s) (place_at s o p t 0).seat new.seat (place_at s o p t 0).users new.users end (of_disk disk_told state disk s workers x started) (users_of_disk disk_told state users_disk s u users_started) refl refl refl refl one users_one numbers users_numbers astray here;
          prompt = subst (λ (q : PlaceAt). IsPrompt (language_for first q.shelf) begun told clock_told k l c q.seat q.users) at prompt;
          ended = (λ done. e.ended.0 (done_at end (sym status_is ∙ done)), λ ended. status_is ∙ ap status_of (e.ended.1 ended));
          cause = λ link. link_at k l stops later end e (sym status_is ∙ link);
          stopped = λ was. e.stopped (stopped_at end (sym status_is ∙ was));
          unstopped = λ not. e.unstopped (λ was. not (status_is ∙ ap status_of was));
          spent = λ was. e.spent (spent_at end e.attended e.endless e.alone (sym status_is ∙ was));
        };
        left = new;
        let_go = let_go;
        session = here;
        seat = subst (λ (q : PlaceAt). IsSameSeat q.seat new.seat) at same;
        users = subst (λ (q : PlaceAt). IsSameUserSeat q.users new.users) at users_same;
      }

  -- what it did alone
  pub ran_session : (workers : ℕ) (x : Controller D) (u : UserState D) (old new : PlaceAt) (end : SessionEnd) (status : Status) → IsStarted disk_told state disk s workers x → AreUsersStarted disk_told state users_disk s u → IsLonePlace (arc_value x.shelf) (opening_of state x.state) (users_opening state u) old
      → IsSameSeat old.seat new.seat → IsSameUserSeat old.users new.users → AreNumbered new.seat.places new.seat.seen → AreUsersNumbered new.users.places new.users.seen → SawNoneAstray disk_told new.seat.seen
      → IsServed (language_for first old.shelf) told clock_told k l c d old.seat new.seat old.users new.users end → IsPrompt (language_for first old.shelf) begun told clock_told k l c old.seat old.users → IsEnd k l stops later end → status ≡ status_of end → RanSession disk_told told clock_told begun (state disk) (state users_disk) first s (opening_of state x.state) (users_opening state u) k l c d stops later status
  ran_session workers x u old new end status started users_started lone same users_same numbers users_numbers astray served prompt e status_is =
      (ran_and_left (λ v. Unit {0}) workers x u old new end status started users_started lone same users_same numbers users_numbers astray served prompt e status_is tt).ran
