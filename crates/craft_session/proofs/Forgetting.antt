-- A session goes on with a reader that has written over what it let go of.
use Rattle.std.proofs.Common.{◌≡◌, List, ℕ, Result, Ok, Err, sym, subst}
use Rattle.dxc_outside.specs.declared.clock.Moment.{Moment}
use Rattle.dxc_outside.specs.declared.stopped.Stopped.{Stopped}
use Rattle.shelf_file.specs.Contents.{Contents}
use Rattle.tl1_text.specs.Reading.{Holds, Reader, hand}
use Rattle.craft_session.specs.declared.end.Progress.{Progress}
use Rattle.craft_session.specs.declared.end.Progress.TheVariants.{On, Cut}
use Rattle.craft_session.specs.Asks.{Language}
use Rattle.craft_session.specs.Gathered.{DeskAt, GoesInTime}
use Rattle.craft_session.specs.Happenings.{Request}
use Rattle.craft_session.specs.Runs.{Walk}
use Rattle.craft_session.specs.Timely.{Start, Telling}

module _ (t : Telling) (x y : DeskAt) (shelf : Contents) (reader : Reader) (l : Language Request Moment) (b : Start) (v : Walk Request Moment) (r r2 : Reader) (ahead : List ℕ) (same : hand r2 ≡ hand r) where
  abbrev forgot : DeskAt
  forgot = record y { shelf = shelf; reader = reader }

  pub goes_forgot : (how : Result Progress Stopped) → GoesInTime t x y l b v how r ahead → GoesInTime t x forgot l b v how r2 ahead
  goes_forgot (Ok On) g =
      let s = g.goes in
      record { goes = record { items = s.items; rest = s.rest; out = s.out; exchanged = s.exchanged; no_fault = s.no_fault; made = subst (Holds s.rest) (sym same) s.made; past = s.past }; ran_on = g.ran_on; timely = g.timely }
  goes_forgot (Ok Cut) g = record { goes = g.goes; ran_on = g.ran_on; timely = g.timely }
  goes_forgot (Err e) g = record { goes = g.goes; ran_on = g.ran_on; timely = g.timely }
