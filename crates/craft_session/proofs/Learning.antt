-- What a unit is told of the program: just what it asks, and what its reply tells.
use Rattle.std.proofs.Common.{◌≡◌, ℕ, Bool, true, false, Option, Some, None, List, refl, ap, subst}
use Rattle.dxc_num.specs.Dimensions.{Dimensions}
use Rattle.dxc_outside.specs.declared.clock.Moment.{Moment}
use Rattle.dxc_outside.specs.declared.send.Sent.{Sent}
use Rattle.dxc_outside.specs.Links.{IsSent, LinkState}
use Rattle.dxc_model.specs.declared.op.Op.{Op}
use Rattle.dxc_model.specs.declared.entry.Entry.{Entry}
use Rattle.dxc_model.specs.declared.entry.Outcome.{Outcome}
use Rattle.dxc_model.specs.declared.entry.Outcome.TheVariants.{Done, Denied, Failed, Answered, Restarted, Cut, Taken}
use Rattle.dxc_model.specs.Tables.{Board}
use Rattle.dxc_notes.specs.declared.standing.Standing.{Standing}
use Rattle.tl1_answer.specs.Responses.{response}
use Rattle.tl1_command.specs.declared.command.Subject.TheVariants as subject
use Rattle.shelf_file.specs.Contents.{Contents}
use Rattle.user_admin.specs.declared.op.UserRow.{UserRow}
use Rattle.craft_session.specs.declared.ask.Ask.{Ask}
use Rattle.craft_session.specs.declared.ask.Ask.TheVariants.{Refused, LogsIn, LogsOut, Completes, Allows, Inhibits, Lists, Shows, Restarts, Changes}
use Rattle.craft_session.specs.Asks.{Reply, asks_program, completed, completed_rows, denied, is_told_as, restarted, shown}
use Rattle.craft_session.specs.Desks.{IsReplied}
use Rattle.craft_session.specs.Responses.{beside, code_of, lines_of}
use Rattle.craft_session.specs.Walks.{ChangeReply, CutsAt, RestartReply, Serves}

-- it, where that is asked
abbrev pub given : Bool → Standing → Option Standing
given true x = Some x
given false x = None

pub given_as : (b : Bool) (x : Standing) → is_told_as b (given b x) ≡ true
given_as true x = refl
given_as false x = refl

-- whether a reply tells it
abbrev pub tells : Reply → Bool
tells completed = false
tells (completed_rows cs) = false
tells (shown subject.Middle equipped out) = false
tells (shown subject.System equipped out) = true
tells restarted = false
tells (denied q) = false

change_tells : (o : Outcome) (r : Reply) → ChangeReply o r → tells r ≡ false
change_tells (Done c) r x = ap tells x
change_tells (Denied q) r x = ap tells x
change_tells (Failed q) r x = ap tells x
change_tells Answered r x = absurd x
change_tells (Restarted c) r x = absurd x
change_tells Cut r x = absurd x
change_tells Taken r x = absurd x

restart_tells : (o : Outcome) (r : Reply) → RestartReply o r → tells r ≡ false
restart_tells (Done c) r x = absurd x
restart_tells (Denied q) r x = absurd x
restart_tells (Failed q) r x = ap tells x
restart_tells Answered r x = absurd x
restart_tells (Restarted c) r x = ap tells x
restart_tells Cut r x = absurd x
restart_tells Taken r x = absurd x

-- a reply tells it just where it was asked
pub tells_asked : (place : ℕ) (t : Board) (h : List Entry) (a : Ask) (es : List Entry) (r : Reply) → Serves place t h a es r → tells r ≡ asks_program a
tells_asked place t h (Refused q) es r x = ap tells x.1
tells_asked place t h (LogsIn u) es r x = ap tells x.1
tells_asked place t h LogsOut es r x = ap tells x.1
tells_asked place t h Completes es r x = ap tells x.1
tells_asked place t h Allows es r x = ap tells x.1
tells_asked place t h Inhibits es r x = ap tells x.1
tells_asked place t h (Lists which) es r x = ap tells x.1
tells_asked place t h (Shows subject.Middle) es r x = ap tells x.1
tells_asked place t h (Shows subject.System) es r x = ap tells x.1
tells_asked place t h Restarts es r x = restart_tells x.0 r x.2
tells_asked place t h (Changes op) es r x = change_tells x.outcome r x.reply

-- what a stop cut asked for none of it
pub cut_untold : (h : List Entry) (a : Ask) (x : Op) → CutsAt h a x → is_told_as (asks_program a) None ≡ true
cut_untold h (Refused q) x cuts = absurd cuts
cut_untold h (LogsIn u) x cuts = absurd cuts
cut_untold h LogsOut x cuts = absurd cuts
cut_untold h Completes x cuts = absurd cuts
cut_untold h Allows x cuts = absurd cuts
cut_untold h Inhibits x cuts = absurd cuts
cut_untold h (Lists which) x cuts = absurd cuts
cut_untold h (Shows what) x cuts = absurd cuts
cut_untold h Restarts x cuts = refl
cut_untold h (Changes op) x cuts = refl

-- a reply that doesn't tell it has the same lines without it
lines_given : (d : Dimensions) (users : List UserRow) (r : Reply) (b : Bool) (x : Standing) → tells r ≡ b → lines_of d (beside users (Some x)) r ≡ lines_of d (beside users (given b x)) r
lines_given d users completed b x is = refl
lines_given d users (completed_rows cs) b x is = refl
lines_given d users (shown subject.Middle equipped out) b x is = refl
lines_given d users (shown subject.System equipped out) b x is = ap (λ (y : Bool). lines_of d (beside users (given y x)) (shown subject.System equipped out)) is
lines_given d users restarted b x is = refl
lines_given d users (denied q) b x is = refl

pub replied_given : (s : Contents) (told clock_told : Type 0) (k j : LinkState) (c d : List Moment) (sent : Sent) (tag : Option (List ℕ)) (users : List UserRow) (r : Reply) (b : Bool) (x : Standing) → tells r ≡ b
    → IsReplied s told clock_told k j c d sent tag (beside users (Some x)) r → IsReplied s told clock_told k j c d sent tag (beside users (given b x)) r
replied_given s told clock_told k j c d sent tag users r b x is y = record {
  moment = y.moment;
  wrote = subst (λ (ls : List (List ℕ)). IsSent told k j sent (response s.sid y.moment tag (code_of r) ls)) (lines_given s.shape users r b x is) y.wrote;
  now = y.now;
  later = y.later;
}
