-- The one order of the entries of both histories, by the stamps that the passes of all places know.
use Rattle.std.proofs.Common.{◌≡◌, ◌<◌, ◌+◌, ℕ, List, map, Option, Some, Box, sym, ◌∙◌, subst}
use Rattle.std.specs.List.{slice_get}
use Rattle.std.specs.declared.alloc.Global.{Global}
use mathlib.Core.Option.{some}
use lib.ListN.{get_elem?}
use Rattle.atomic_table.specs.Table.{State as TableState}
use Rattle.turnstile.specs.declared.board.View.{View}
use Rattle.turnstile.specs.declared.board.Opened.{Opened}
use Rattle.turnstile.specs.declared.sequential.Sequential.{Ghosts as SequenceOf}
use Rattle.turnstile.specs.Dating.{Stamp}
use Rattle.turnstile.specs.Orders.{IsOrder, TakesTurns}
use Rattle.turnstile.specs.Together.{HasOne, HasPasses, Uses}
use Rattle.turnstile.proofs.Together.{one_order}
use Rattle.dxc_model.specs.declared.entry.Entry.{Entry}
use Rattle.user_admin.specs.declared.op.UserMark.{UserMark}
use Rattle.user_admin.specs.declared.shared.SharedUsers.{SharedUsers}
use Rattle.user_admin.specs.Coding.{mark_coded as user_coded, opening_coded as users_coded}
use Rattle.user_admin.specs.Histories.{Opening as UsersOpening}
use Rattle.user_admin.specs.Marks.{entries_of, place_of as user_place_of}
use Rattle.user_admin.specs.Shared.{SharedStands as UsersStand, opening_at as users_opening}
use Rattle.xc_core.specs.declared.state.State.{State}
use Rattle.xc_core.specs.Coding.{opening_coded}
use Rattle.xc_core.specs.Seeing.{entry_coded, place_of}
use Rattle.xc_core.specs.States.{Opening, Stands, opening_of}
use Rattle.craft_session.specs.Doing.{AnyEntry}
use Rattle.craft_session.specs.Seats.{PlaceAt}
use Rattle.switch_laws.specs.Orders.{AnyMark, IsOrderOf, any_entries, is_used_mark}
use Rattle.switch_laws.proofs.Marked.{order_of_marks, others_table, others_users}
use Rattle.serve_laws.specs.Headline.{Lying, UsersLying, table_seen, users_seen}
use Rattle.serve_laws.specs.Jobs.{World}
use Rattle.serve_laws.specs.Passes.{Seen}

module _ (w : World) where
  -- the state's turnstile, and that of the users
  abbrev pub table_turns : SequenceOf (State w.Disk) Entry
  table_turns = record { Opening = Opening; opening = opening_of w.disk.state; number = place_of; stands = Stands w.disk.told w.disk.state; opening_code = opening_coded; entry_code = entry_coded }

  abbrev pub users_turns : SequenceOf (SharedUsers w.Disk) UserMark
  users_turns = record { Opening = UsersOpening; opening = users_opening w.disk.state; number = user_place_of; stands = UsersStand w.disk.told w.disk.state; opening_code = users_coded; entry_code = user_coded }

  abbrev uses : Uses table_turns users_turns
  uses = record { used = is_used_mark; own = λ k e other. others_table k e other; other_own = λ k m other. others_users k m other }

  -- a view of what these have seen
  abbrev Knows : {H : Type 0} → TableState H View → ℕ → Seen → Type 0
  Knows z k s = (v : View) × (get_elem? z.views (k + 1) ≡ some v) × (v.seen ≡ s.codes) × (v.stamps ≡ s.stamps)

  module _ (key : Opened (Box (State w.Disk) Global)) (z : TableState (Option (Lying w)) View) (users_key : Opened (Box (SharedUsers w.Disk) Global)) (y : TableState (Option (UsersLying w)) View) (lefts : List PlaceAt) (h : List Entry) (g : List UserMark)
      (one : (x : HasOne table_turns key z) × (x.history ≡ h)) (other : (x : HasOne users_turns users_key y) × (x.history ≡ g))
      (knows : (k : ℕ) (q : PlaceAt) → slice_get lefts k ≡ Some q → Knows z k (table_seen q)) (users_know : (k : ℕ) (q : PlaceAt) → slice_get lefts k ≡ Some q → Knows y k (users_seen q))
      (took : ℕ → List AnyMark) (used : ℕ → List AnyEntry) (used_are : (k : ℕ) → k < 16 → any_entries (took k) ≡ used k) where
    pub passes : (k : ℕ) (us : List AnyMark) (left : PlaceAt) → slice_get lefts k ≡ Some left → (table : List Entry) → left.seat.seen ≡ map entry_coded.code table → (marks : List UserMark) → left.users.seen ≡ map user_coded.code marks
        → TakesTurns (is_used_mark k) k left.seat.stamps table left.users.stamps marks us → HasPasses table_turns users_turns z y (is_used_mark k) k us
    passes k us left is table codes marks marks_codes takes =
        let v = knows k left is in
        let u = users_know k left is in
        record {
          view = v.0;
          sits = v.1;
          other = u.0;
          other_sits = u.1;
          taken = record {
            seen = table;
            codes = v.2 ∙ codes;
            other_seen = marks;
            other_codes = u.2 ∙ marks_codes;
            takes = subst (λ (t : List Stamp × List Stamp). TakesTurns (is_used_mark k) k t.0 table t.1 marks us) (λ i. (sym v.3 i, sym u.3 i)) takes;
          };
        }

    -- where each place took its turns as its passes know them
    pub ordered : ((k : ℕ) → k < 16 → HasPasses table_turns users_turns z y (is_used_mark k) k (took k)) → (order : List AnyEntry) × IsOrderOf h (entries_of g) 16 used order
    ordered has =
        let x = one_order table_turns users_turns key z one.0 users_key y other.0 uses 16 took has in
        let both : IsOrder h g x.order = record { one = x.of_both.one ∙ one.1; other = x.of_both.other ∙ other.1 } in
        (any_entries x.order, order_of_marks h g 16 took used x.order both x.own used_are)
