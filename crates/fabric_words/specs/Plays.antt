-- What each step tells its seat: the event, on what the seat knows and the word that was found.
use Rattle.std.specs.Prelude.{◌%◌, ◌⊎◌, ◌≡◌, ◌≢◌, ℕ, ◌+◌, ◌-◌, ◌<◌, Option, Some, None}
use mathlib.Core.Option.{some}
use Rattle.atomic_table.specs.Table.{Me, Step}
use Rattle.dxc_num.specs.Dimensions.{IsPort}
use Rattle.dxc_num.specs.declared.port.Port.{Port}
use Rattle.dxc_num.specs.declared.port.Leg.{Leg}
use Rattle.dxc_num.specs.declared.port.Middle.{Middle}
use Rattle.dxc_num.specs.declared.port.Route.{Route}
use Rattle.dxc_num.specs.declared.register.Reg.{Reg}
use Rattle.fabric_core.specs.declared.size.Size.{Size}
use Rattle.fabric_core.specs.declared.phase.Phase.TheVariants.{InSet, MidSet, Old}
use Rattle.fabric_core.specs.declared.mover.Mover.{Mover}
use Rattle.fabric_core.specs.declared.worker.Worker.{Worker}
use Rattle.fabric_core.specs.Registers.{middle_in}
use Rattle.fabric_core.specs.State.{leg_at, new_worker}
use Rattle.fabric_core.specs.Working.{begun, out_loaded, mid_loaded, in_loaded, port_of}
use Rattle.fabric_core.specs.Moving.{IsMiddle, IsEstablished, CanClearIn, in_set, mid_set, switched, out_cleared, looked, mid_cleared, in_cleared}
use Rattle.fabric_words.specs.declared.table.Aim.{Aim}
use Rattle.fabric_words.specs.declared.table.View.{View}
use Rattle.fabric_words.specs.declared.table.View.TheVariants.{Idle, AsMover, AsWorker}
use Rattle.fabric_words.specs.Places.{out_place, frame_place, reg_place, reg_word, IsRegInside}

abbrev Sat : Type 0
Sat = Me Aim View

abbrev At : Type 0
At = Step Aim

-- a worker goes from v to v'
abbrev pub Goes : Sat → Sat → (Size → Worker → Worker → Type 0) → Type 0
Goes m m' next = (z : Size) (v : Worker) → m.0 ≡ AsWorker z v → (v' : Worker) × (m' ≡ (AsWorker z v', m.1)) × next z v v'

-- the mover goes from p to p'
abbrev pub Turns : Sat → Sat → (Size → Mover → Mover → Type 0) → Type 0
Turns m m' next = (z : Size) (d : ℕ) (p : Mover) → m.0 ≡ AsMover z d p → (p' : Mover) × (m' ≡ (AsMover z d p', m.1)) × next z p p'

abbrev pub began : At → Sat → ℕ → Sat → Type 0
began st m n m' = Goes m m' (λ z v v'. v' ≡ begun v)

abbrev pub loaded_out : At → Sat → ℕ → Sat → Type 0
loaded_out st m n m' = Goes m m' (λ z v v'. (n ≢ 0 → IsMiddle z.shape (middle_in n) × (0 < n % 256)) × ((y : Port) → st.word ≡ out_place z.shape y → v' ≡ out_loaded y n v))

abbrev pub loaded_mid : At → Sat → ℕ → Sat → Type 0
loaded_mid st m n m' = Goes m m' (λ z v v'. (n ≢ 0) × (n - 1 < z.shape.modules) × (v' ≡ mid_loaded n v))

abbrev pub loaded_in : At → Sat → ℕ → Sat → Type 0
loaded_in st m n m' = Goes m m' (λ z v v'. (n ≢ 0) × IsPort z.shape (port_of z.shape v.hold n) × (v' ≡ in_loaded z.shape n v))

abbrev pub set_in : At → Sat → ℕ → Sat → Type 0
set_in st m n m' = Turns m m' (λ z p p'. (a : Aim) → st.said ≡ some a → p' ≡ in_set z.shape a.leg a.middle p)

abbrev pub set_mid : At → Sat → ℕ → Sat → Type 0
set_mid st m n m' = Turns m m' (λ z p p'. (l : Leg) (k : Middle) → p.phase ≡ InSet l k → p' ≡ mid_set z.shape l k p)

-- the OUT word n is that of the leg e
abbrev pub Shows : Option Route → ℕ → Type 0
Shows None n = n ≡ 0
Shows (Some w) n = (n ≢ 0) × (middle_in n ≡ w.middle)

abbrev pub switched_out : At → Sat → ℕ → Sat → Type 0
switched_out st m n m' = Turns m m' (λ z p p'. (l : Leg) (k : Middle) → p.phase ≡ MidSet l k → (p' ≡ switched l k p) × Shows (leg_at p l.output) n)

abbrev pub cleared_out : At → Sat → ℕ → Sat → Type 0
cleared_out st m n m' = Turns m m' (λ z p p'. (l : Leg) (w : Route) → st.word ≡ out_place z.shape l.output → IsEstablished p l w → (p' ≡ out_cleared l w.middle p) × (middle_in n ≡ w.middle))

abbrev pub looked_at : At → Sat → ℕ → Sat → Type 0
looked_at st m n m' = Turns m m' (λ z p p'. (w : ℕ) → st.word ≡ frame_place z.shape w → p' ≡ looked w n p)

abbrev pub cleared_mid : At → Sat → ℕ → Sat → Type 0
cleared_mid st m n m' = Turns m m' (λ z p p'. (l : Leg) (k : Middle) → (p.phase ≡ MidSet l k) ⊎ (p.phase ≡ Old l k) → p' ≡ mid_cleared z.shape l k p)

abbrev pub cleared_in : At → Sat → ℕ → Sat → Type 0
cleared_in st m n m' = Turns m m' (λ z p p'. (l : Leg) (k : Middle) → CanClearIn p l k → p' ≡ in_cleared z.shape l k p)

-- a load of the mover's finds what it knows
abbrev pub read : At → Sat → ℕ → Sat → Type 0
read st m n m' = (m' ≡ m) × ((z : Size) (d : ℕ) (p : Mover) → m.0 ≡ AsMover z d p → (r : Reg) → st.word ≡ reg_place z.shape r → IsRegInside z.shape r → n ≡ reg_word z.shape p.registers r)

-- the mover's seat gives the next worker a seat
abbrev pub dealer : View → View
dealer Idle = Idle
dealer (AsMover z d p) = AsMover z (d + 1) p
dealer (AsWorker z v) = AsWorker z v

abbrev pub dealt_worker : View → View
dealt_worker Idle = Idle
dealt_worker (AsMover z d p) = AsWorker z (new_worker d)
dealt_worker (AsWorker z v) = Idle
