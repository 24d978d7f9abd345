-- A start on registers that another controller has written.
use Rattle.std.proofs.Common.{◌≡◌, ℕ, arith, true, [], ◌++◌, Some, None, refl, sym, ap, subst, inr}
use Rattle.dxc_disk.specs.Disks.{DiskState, IsDisk}
use Rattle.dxc_num.specs.Dimensions.{IsInLimits}
use Rattle.fabric_words.specs.Seats.{MoverAt}
use Rattle.roll_engine.specs.declared.rolling.Behind.TheVariants.{Nothing}
use Rattle.roll_engine.specs.Rollings.{RollingAt}
use Rattle.shelf_file.specs.Contents.{Contents}
use Rattle.xc_core.specs.declared.origin.Origin.{Origin}
use Rattle.xc_core.specs.declared.provisioner.Provisioner.{Provisioner}
use Rattle.xc_core.specs.declared.start.Start.{Start}
use Rattle.xc_core.specs.declared.state.Home.TheVariants.{In}
use Rattle.xc_core.specs.declared.state.State.{State}
use Rattle.xc_core.specs.Adoptions.{HasSeat, IsAdopting, IsOffLast, IsOnLast, IsStrange}
use Rattle.xc_core.specs.Openings.{Begins}
use Rattle.xc_core.specs.Provisioners.{Boxed}
use Rattle.xc_core.specs.Restarts.{HasWay, IsHalted}
use Rattle.xc_core.specs.Starts.{IsStart}
use Rattle.xc_core.specs.States.{IsReadyOrHalted, Opening, began, opening_of}
use Rattle.xc_core.proofs.Began.{began_due}
use Rattle.xc_core.proofs.Opened.{at_home, begins, first, journal_home, last_is, last_start, opening, opening_is, opens, past_read}

module _ {D : Type 0} (told : Type 0) (state : D → DiskState) (shelf : Contents) (a : DiskState) (seat : MoverAt) (x : Start D) (r : IsStart told state shelf a seat x) (disk : told → IsDisk (state r.journal.0)) (limits : IsInLimits shelf.shape) where
  -- the registers are at a stage of the last record's work
  module _ (n : ℕ) (on : IsOnLast seat.fabric.size seat.mover x.last.ops.items x.p.matrix n) where
    abbrev p : Provisioner D
    p = at_home told state shelf a seat x r disk n true seat

    abbrev rolling : RollingAt
    rolling = record { work = x.last; step = on.step; behind = Nothing }

    way_read : HasWay (first told state shelf a seat x r disk n) p
    way_read =
        let before = (last_start told state shelf a seat x r disk).0 in
        let is = (last_start told state shelf a seat x r disk).1 in
        record {
          lacking = None;
          past = first told state shelf a seat x r disk n;
          before = before;
          rolling = rolling;
          taken = refl;
          on_way = record {
            under_way = record { proper = is.placed.colouring; valid = is.valid; midway = on.midway before is; room = let few = on.few in let number = on.number in omega (arith, few, number) };
            leads = sym is.leads;
            switches = sym on.number;
            alone = refl;
          };
        }

    halted_read : IsHalted told state (first told state shelf a seat x r disk n) p
    unfolding way_read
    halted_read = record {
      halted = refl;
      past = past_read told state shelf a seat x r disk n true seat on.few;
      way = way_read;
      known = λ k. record { way = way_read; own = inr (last_is told state shelf a seat x r disk n k); journal = journal_home told state shelf a seat x r disk n };
    }

    pub adopted : (origin : Origin D) (d : Boxed D) → d.value.p ≡ p → origin.table.value ≡ x.table → origin.provisioner.value ≡ d.value.p → origin.last.value ≡ x.last → origin.disk.value ≡ x.handed.value → (told → IsDisk a × IsDisk (state x.p.journal.0))
        → IsAdopting told a.reads_as shelf seat (opening_of state (record { table = x.table; reports = x.reports; home = In d; origin = origin })) × Begins told state (record { table = x.table; reports = x.reports; home = In d; origin = origin }) × HasSeat seat (record { table = x.table; reports = x.reports; home = In d; origin = origin })
    adopted origin d behind table_kept provisioner_kept last_kept handed_kept disks =
        let stage : IsReadyOrHalted told state (first told state shelf a seat x r disk n) (began true ++ []) p = inr (halted_read, began_due) in
        let s : State D = record { table = x.table; reports = x.reports; home = In d; origin = origin } in
        let is : opening_of state s ≡ opening told state shelf a seat x r disk n true seat = opening_is told state shelf a seat x r disk n true seat origin d behind table_kept provisioner_kept last_kept handed_kept disks stage in (
          subst (λ (o : Opening). IsAdopting told a.reads_as shelf seat o) (sym is) (record { opens = opens told state shelf a seat x r disk n true seat limits; is_on = on }),
          begins told state shelf a seat x r disk n true seat origin d behind table_kept provisioner_kept last_kept handed_kept disks stage,
          ap (λ (q : Provisioner D). Some q.mover) behind,
        )

  -- they are at none
  pub strange : IsOffLast seat.fabric.size seat.mover x.last.ops.items x.p.matrix → IsStrange told a.reads_as shelf seat
  strange off = record { opening = opening told state shelf a seat x r disk 0 true seat; opens = opens told state shelf a seat x r disk 0 true seat limits; is_off = off }
