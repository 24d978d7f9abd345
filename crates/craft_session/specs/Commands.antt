-- What a changing command of a pass comes to, and a restart, after what the pass has seen.
use Rattle.std.specs.Prelude.{◌≡◌, ◌⊎◌, true, false, ℕ, List, Option, Result, Ok, Err}
use Rattle.turnstile.specs.Passing.{Token}
use Rattle.dxc_outside.specs.declared.gate.GatePlace.{GatePlace}
use Rattle.dxc_outside.specs.declared.stopped.Stopped.{Stopped}
use Rattle.dxc_outside.specs.Stops.{the_stop}
use Rattle.dxc_disk.specs.declared.disk.Disk.{Ghosts as DiskOf}
use Rattle.dxc_model.specs.declared.op.Change.{Change}
use Rattle.dxc_model.specs.declared.entry.Entry.{Entry}
use Rattle.dxc_model.specs.declared.op.Op.{Op}
use Rattle.roll_engine.specs.Rollings.{RollingAt}
use Rattle.xc_core.specs.declared.provisioner.Provisioner.{Provisioner}
use Rattle.xc_core.specs.Provisioners.{Rolls}
use Rattle.xc_core.specs.Reckonings.{Past}
use Rattle.xc_core.specs.Restarts.{Resumes}
use Rattle.xc_core.specs.Views.{View}
use Rattle.craft_session.specs.declared.change.Changed.{Changed}
use Rattle.craft_session.specs.declared.change.Changed.TheVariants.{Done}
use Rattle.craft_session.specs.declared.mend.Mended.{Mended}
use Rattle.craft_session.specs.declared.mend.Mended.TheVariants as mended
use Rattle.craft_session.specs.Askings.{RollAsked}
use Rattle.craft_session.specs.Changing.{ChangedIs, MendedIs, WarmRestartIs}
use Rattle.craft_session.specs.Gated.{Entered}

-- by what the pass has seen then
abbrev pub ChangesTo : Op → (next : Token) → Result Changed Stopped → View → List Entry → Type 0
ChangesTo op next how v h = ChangedIs v.opening v.own h op next.seen how

abbrev pub MendsTo : Op → (next : Token) → Result Mended Stopped → View → List Entry → Type 0
MendsTo asked next how v h = MendedIs v.opening v.own h asked next.seen how

abbrev pub RestartsTo : (next : Token) → Result Changed Stopped → View → List Entry → Type 0
RestartsTo next how v h = WarmRestartIs v.opening v.own h next.seen how

-- Where the gate was asked for the entries that the place made since: of a command, or of the part of one that began with the Provisioner out.
abbrev pub AsksFor : (List GatePlace → Type 0) → (next : Token) → View → List Entry → Type 0
AsksFor asked next v h = Entered v.opening v.own asked false false h next.seen

abbrev pub AsksOut : (List GatePlace → Type 0) → (next : Token) → View → List Entry → Type 0
AsksOut asked next v h = Entered v.opening v.own asked true false h next.seen

-- where it was asked for a work of so many writes, of a change or of a restart
abbrev pub DriveAsked : (List GatePlace → Type 0) → ℕ → Result Changed Stopped → Type 0
DriveAsked asked writes how = ((how ≡ Ok Done) × RollAsked asked writes (Ok tt)) ⊎ ((how ≡ Err the_stop) × RollAsked asked writes (Err the_stop))

abbrev pub RestAsked : (List GatePlace → Type 0) → ℕ → Result Mended Stopped → Type 0
RestAsked asked writes how = ((how ≡ Ok mended.Ready) × RollAsked asked writes (Ok tt)) ⊎ ((how ≡ Err the_stop) × RollAsked asked writes (Err the_stop))

-- a Provisioner and its rolling go on with a work as before: one of whatever change, and one that a restart took up
abbrev pub RollsOn : {D : Type 0} → DiskOf D → (old new : Provisioner D × RollingAt) → Type 0
RollsOn g old new = (b : Past) → (op : Op) → (c : Change) → Rolls g.told g.state b op c old.0 old.1 → Rolls g.told g.state b op c new.0 new.1

abbrev pub ResumesOn : {D : Type 0} → DiskOf D → (old new : Provisioner D × RollingAt) → Type 0
ResumesOn g old new = (b : Past) → (lacking : Option Change) → (g1 : Past) → Resumes g.told g.state b lacking g1 old.0 old.1 → Resumes g.told g.state b lacking g1 new.0 new.1
