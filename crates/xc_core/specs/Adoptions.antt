-- What a start on registers that another controller has written finds.
use Rattle.std.specs.Prelude.{◌≡◌, ℕ, ◌+◌, ◌<◌, ◌≤◌, ◌^◌, List, length, drop, true, Option, Some, None, IfSome}
use Rattle.dxc_disk.specs.Disks.{DiskState}
use Rattle.dxc_disk.specs.declared.disk.Disk.{Ghosts as DiskOf}
use Rattle.fabric_core.specs.declared.size.Size.{Size}
use Rattle.fabric_core.specs.declared.mover.Mover.{Mover}
use Rattle.fabric_words.specs.Seats.{MoverAt}
use Rattle.paull_matrix.specs.Colourings.{Colouring}
use Rattle.roll_plan.specs.declared.op.LegOp.{LegOp}
use Rattle.roll_plan.specs.Works.{ops_writes, switches_in}
use Rattle.roll_engine.specs.Stages.{IsMidway}
use Rattle.shelf_file.specs.Contents.{Contents}
use Rattle.xc_recovery.specs.Stages.{IsLastWork}
use Rattle.xc_core.specs.declared.adopting.Adopted.{Adopted}
use Rattle.xc_core.specs.declared.adopting.Adopted.TheVariants as adopted
use Rattle.xc_core.specs.declared.fault.OpenFault.{OpenFault}
use Rattle.xc_core.specs.declared.state.Home.{Home}
use Rattle.xc_core.specs.declared.state.Home.TheVariants.{In, Out}
use Rattle.xc_core.specs.declared.state.State.{State}
use Rattle.xc_core.specs.Openings.{Begins, IsDiskFault, Opens, disk_home, disk_of_fault}
use Rattle.xc_core.specs.States.{Opening, opening_of}

-- the registers are at a stage of a last work that led to these legs, and with its rest so many switches will have been made
pub record IsOnLast (z : Size) (m : Mover) (ops : List LegOp) (c : Colouring) (switches : ℕ) : Type 0 where
  pub step : ℕ
  pub low : step ≤ length (ops_writes ops)
  pub midway : (before : Colouring) → IsLastWork before ops c → IsMidway z before (ops_writes ops) step m
  pub number : switches ≡ length m.log + switches_in (drop step (ops_writes ops))
  pub few : switches ≤ 2 ^ 48

-- they are at none, or there are no numbers for so many
abbrev pub IsOffLast : Size → Mover → List LegOp → Colouring → Type 0
IsOffLast z m ops c = (before : Colouring) (s : ℕ) → IsLastWork before ops c → s ≤ length (ops_writes ops) → IsMidway z before (ops_writes ops) s m → 2 ^ 48 < length m.log + switches_in (drop s (ops_writes ops))

-- how many switches will have been made
abbrev pub SwitchesAre : Size → Mover → List LegOp → Colouring → Option ℕ → Type 0
SwitchesAre z m ops c None = IsOffLast z m ops c
SwitchesAre z m ops c (Some n) = IsOnLast z m ops c n

-- The opening is what the file stands for, a restart is due, and the registers are at a stage of the last record's work. The count of its
-- switches has those that the rest of this work will make.
pub record IsAdopting (told : Type 0) (file : List ℕ) (shelf : Contents) (seat : MoverAt) (o : Opening) : Type 0 where
  pub opens : Opens told file shelf seat.fabric true o.first.fold.switches o
  pub is_on : IsOnLast seat.fabric.size seat.mover o.first.fold.work o.first.fold.colours o.first.fold.switches

-- what the file stands for is no opening on these registers
pub record IsStrange (told : Type 0) (file : List ℕ) (shelf : Contents) (seat : MoverAt) : Type 0 where
  pub opening : Opening
  pub opens : Opens told file shelf seat.fabric true 0 opening
  pub is_off : IsOffLast seat.fabric.size seat.mover opening.first.fold.work opening.first.fold.colours

-- the seat of a Provisioner at home
abbrev pub seat_home : {D : Type 0} → Home D → Option MoverAt
seat_home (In d) = Some d.value.p.mover
seat_home (Out e) = None

-- the Provisioner is home and has this seat, so that no register was written
abbrev pub HasSeat : {D : Type 0} → MoverAt → State D → Type 0
HasSeat seat s = seat_home s.home ≡ Some seat

-- the state is that of this disk, on registers of this seat
abbrev pub HasAdopted : {D : Type 0} → DiskOf D → Contents → MoverAt → D → State D → Type 0
HasAdopted g shelf seat disk s = IsAdopting g.told (g.state disk).reads_as shelf seat (opening_of g.state s) × Begins g.told g.state s × HasSeat seat s

-- the seat is handed back, to whose registers this disk is strange
abbrev pub IsStrangeTo : {D : Type 0} → DiskOf D → Contents → MoverAt → D → MoverAt → Type 0
IsStrangeTo g shelf seat disk m = (m ≡ seat) × IsStrange g.told (g.state disk).reads_as shelf seat

abbrev pub IfState : {D : Type 0} → Adopted D → (State D → Type 0) → Type 0
IfState (adopted.State s) P = P s
IfState (adopted.Strange d m) P = Unit {0}
IfState (adopted.Open e) P = Unit {0}

abbrev pub IfStrange : {D : Type 0} → Adopted D → (MoverAt → Type 0) → Type 0
IfStrange (adopted.State s) P = Unit {0}
IfStrange (adopted.Strange d m) P = P m
IfStrange (adopted.Open e) P = Unit {0}

abbrev pub IfOpen : {D : Type 0} → Adopted D → (OpenFault D → Type 0) → Type 0
IfOpen (adopted.State s) P = Unit {0}
IfOpen (adopted.Strange d m) P = Unit {0}
IfOpen (adopted.Open e) P = P e

-- a call on the disk failed
abbrev pub IsDiskOpen : {D : Type 0} → Adopted D → Type 0
IsDiskOpen (adopted.State s) = ⊥
IsDiskOpen (adopted.Strange d m) = ⊥
IsDiskOpen (adopted.Open e) = IsDiskFault e

-- the disk that is left: the one that the state has at home, or that is handed back
abbrev pub disk_adopted : {D : Type 0} → Adopted D → Option D
disk_adopted (adopted.State s) = disk_home s.home
disk_adopted (adopted.Strange d m) = Some d
disk_adopted (adopted.Open e) = Some (disk_of_fault e)

-- that disk has this property
abbrev pub LeftBy : {D : Type 0} → (D → DiskState) → Adopted D → (DiskState → Type 0) → Type 0
LeftBy state result P = IfSome (disk_adopted result) (λ d. P (state d))
