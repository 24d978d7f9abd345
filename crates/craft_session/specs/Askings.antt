-- Where the commands of a session asked the gate.
use Rattle.std.specs.Prelude.{◌⊎◌, ◌<◌, ℕ, ◌+◌, List, [], ◌∷◌, ◌++◌, replicate, Result, Ok, Err}
use Rattle.dxc_outside.specs.declared.gate.GatePlace.{GatePlace}
use Rattle.dxc_outside.specs.declared.gate.GatePlace.TheVariants.{Journal, Register, Finish}
use Rattle.dxc_outside.specs.declared.stopped.Stopped.{Stopped}
use Rattle.craft_session.specs.declared.change.Changed.{Changed}
use Rattle.craft_session.specs.declared.change.Changed.TheVariants.{Done, Denied}
use Rattle.craft_session.specs.declared.mend.Mended.{Mended}
use Rattle.craft_session.specs.declared.mend.Mended.TheVariants as mended

-- a work of so many writes: before each of them, and before the table takes what it was made for
abbrev pub asked_for : ℕ → List GatePlace
asked_for writes = replicate writes Register ++ Finish ∷ []

-- a stop came before a write, or before the end
abbrev pub AskedToStop : (List GatePlace → Type 0) → ℕ → Type 0
AskedToStop asked writes = ((made : ℕ) × (made < writes) × asked (replicate (made + 1) Register)) ⊎ asked (asked_for writes)

abbrev pub RollAsked : (List GatePlace → Type 0) → ℕ → Result (Unit {0}) Stopped → Type 0
RollAsked asked writes (Ok x) = asked (asked_for writes)
RollAsked asked writes (Err e) = AskedToStop asked writes

-- the same where the journal was called before
abbrev pub behind_journal : (List GatePlace → Type 0) → List GatePlace → Type 0
behind_journal asked places = asked (Journal ∷ places)

-- a restart: before the journal is read again, and for the rest of its last work
abbrev pub MendAsked : (List GatePlace → Type 0) → Result Mended Stopped → Type 0
MendAsked asked (Ok mended.Ready) = (writes : ℕ) × behind_journal asked (asked_for writes)
MendAsked asked (Ok (mended.Denied q)) = asked [] ⊎ asked (Journal ∷ [])
MendAsked asked (Err e) = asked (Journal ∷ []) ⊎ ((writes : ℕ) × AskedToStop (behind_journal asked) writes)
MendAsked asked (Ok mended.Waits) = asked []

-- restarts that were made
pub data AreMendings : List GatePlace → Type 0 where
  no_mending : AreMendings []
  one_mending : (before : List GatePlace) (writes : ℕ) → AreMendings before → AreMendings (before ++ (Journal ∷ asked_for writes))

-- a change, after restarts that were due: before its record is appended, and for its work
abbrev pub AskedBehind : (List GatePlace → Type 0) → List GatePlace → Result Changed Stopped → Type 0
AskedBehind asked front (Ok Done) = (writes : ℕ) × asked (front ++ (Journal ∷ asked_for writes))
AskedBehind asked front (Ok (Denied q)) = asked front ⊎ asked (front ++ (Journal ∷ []))
AskedBehind asked front (Err e) = asked (front ++ (Journal ∷ [])) ⊎ ((writes : ℕ) × AskedToStop (λ places. asked (front ++ (Journal ∷ places))) writes)

abbrev pub ChangeAsked : (List GatePlace → Type 0) → Result Changed Stopped → Type 0
ChangeAsked asked how = (front : List GatePlace) × AreMendings front × AskedBehind asked front how

-- INIT-SYS
abbrev pub WarmAsked : (List GatePlace → Type 0) → Result Changed Stopped → Type 0
WarmAsked asked (Ok Done) = MendAsked asked (Ok mended.Ready)
WarmAsked asked (Ok (Denied q)) = MendAsked asked (Ok (mended.Denied q))
WarmAsked asked (Err e) = MendAsked asked (Err e)
