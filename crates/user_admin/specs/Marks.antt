-- What turns leave with the users' turnstile: the entries of their history, and who has the keeper.
use Rattle.std.specs.Prelude.{◌≡◌, ℕ, Option, Some, None, Result, Ok, Err, List, [], ◌∷◌, ◌++◌}
use Rattle.dxc_outside.specs.declared.stopped.Stopped.{Stopped}
use Rattle.user_admin.specs.declared.op.UserEntry.{UserEntry}
use Rattle.user_admin.specs.declared.op.UserMark.{UserMark}
use Rattle.user_admin.specs.declared.op.UserMark.TheVariants.{Entered, Took}
use Rattle.tl1_users.specs.declared.op.UserOp.{UserOp}
use Rattle.user_admin.specs.declared.op.UserOutcome.{UserOutcome}
use Rattle.user_admin.specs.declared.op.UserOutcome.TheVariants.{Done, Denied, Failed, Answered}
use Rattle.user_admin.specs.declared.shared.Planned.{Planned}
use Rattle.user_admin.specs.declared.shared.Planned.TheVariants as planned
use Rattle.user_admin.specs.States.{entry, refused}

-- the entries of the users' history among them
abbrev pub entry_in : UserMark → List UserEntry
entry_in (Entered n op out) = entry n op.value out ∷ []
entry_in (Took n) = []

abbrev pub entries_of : List UserMark → List UserEntry
entries_of [] = []
entries_of (m ∷ ms) = entry_in m ++ entries_of ms

abbrev pub place_of : UserMark → ℕ
place_of (Entered n op out) = n
place_of (Took n) = n

-- an entry that the place makes of an operation
abbrev pub entered : ℕ → UserOp → UserOutcome → UserMark
entered n op out = Entered n (record { marker = record {}; value = op }) out

-- who has the keeper: what was done, and what the disk stood against, brings it home
abbrev pub holder_by : Option ℕ → UserOutcome → Option ℕ
holder_by who (Done c) = None
holder_by who (Denied q) = who
holder_by who (Failed q) = None
holder_by who Answered = who

abbrev pub holder_after : Option ℕ → UserMark → Option ℕ
holder_after who (Entered n op out) = holder_by who out
holder_after who (Took n) = Some n

abbrev pub holder : Option ℕ → List UserMark → Option ℕ
holder who [] = who
holder who (m ∷ ms) = holder (holder_after who m) ms

-- it is taken where nobody has it, and brought home by the place that has it
abbrev pub MayEnter : Option ℕ → ℕ → UserOutcome → Type 0
MayEnter who n (Done c) = who ≡ Some n
MayEnter who n (Denied q) = Unit {0}
MayEnter who n (Failed q) = who ≡ Some n
MayEnter who n Answered = Unit {0}

abbrev pub WaitsFor : Option ℕ → UserMark → Type 0
WaitsFor who (Entered n op out) = MayEnter who n out
WaitsFor who (Took n) = who ≡ None

abbrev pub KeepsTurns : Option ℕ → List UserMark → Type 0
KeepsTurns who [] = Unit {0}
KeepsTurns who (m ∷ ms) = WaitsFor who m × KeepsTurns (holder_after who m) ms

-- entries beside which a place may have the keeper: they change nothing
abbrev pub PassesBy : UserOutcome → Type 0
PassesBy (Done c) = ⊥
PassesBy (Denied q) = Unit {0}
PassesBy (Failed q) = ⊥
PassesBy Answered = Unit {0}

abbrev pub ArePassing : List UserEntry → Type 0
ArePassing [] = Unit {0}
ArePassing (e ∷ es) = PassesBy e.outcome × ArePassing es

-- what a turn leaves in which a change was to begin; none where it is given back
abbrev pub mark_for : {D : Type 0} → ℕ → UserOp → Result (Planned D) Stopped → Option UserMark
mark_for n op (Ok (planned.Taken k c)) = Some (Took n)
mark_for n op (Ok (planned.Denied q)) = Some (entered n op (refused q))
mark_for n op (Ok planned.Waits) = None
mark_for n op (Err e) = None
