-- What `script` does with what it is lent.
use Rattle.std.specs.Prelude.{◌≡◌, ◌⊎◌}
use Rattle.dxc_model.specs.declared.user.SessionUser.TheVariants.{Nobody}
use Rattle.dxc_args.specs.declared.status.Status.{Status}
use Rattle.dxc_element.specs.Openings.{Named, Opens, Sources, sources}
use Rattle.craft_server.specs.declared.world.Station.{Ghosts as StationOf}
use Rattle.craft_server.specs.Scripts.{IsUnplaced, RanAndLeft}
use Rattle.craft_server.specs.Worlds.{StationLent, Stations}

-- what its opener and its gate show, at the call and at the return
abbrev pub shown_before : (w : Stations) → StationLent w → Sources w.Disk
shown_before w x = sources (w.opener.state x.0.entry.now) (w.opener.journal_at x.0.entry.now) (w.gate.stops x.3.entry.now)

abbrev pub shown_after : (w : Stations) → StationLent w → Sources w.Disk
shown_after w x = sources (w.opener.state x.0.exit.now) (w.opener.journal_at x.0.exit.now) (w.gate.stops x.3.exit.now)

-- One session was served over the terminal with what was opened on the names, and its place let go as it left it; or memory was wanting for the
-- place; or why nothing was opened.
abbrev pub OpensForScript : {T : Type 0} (g : StationOf T) → Named → StationLent g.station → Status → Type 0
OpensForScript g names x status =
    let w = g.station in
    let k = w.terminal.state x.1.entry.now in
    let l = w.terminal.state x.1.exit.now in
    let c = w.clock.coming x.2.entry.now in
    let d = w.clock.coming x.2.exit.now in
    let stops = w.gate.stops x.3.entry.now in
    let later = w.gate.stops x.3.exit.now in
    Opens w.opener.told w.disk.told w.disk.state w.gone names (shown_before w x) (shown_after w x) ((l ≡ k) × (d ≡ c)) (λ f o u. RanAndLeft w.disk.told w.terminal.told w.clock.told w.terminal.begun w.gone (w.disk.state f.disk) (w.disk.state u.found.disk) Nobody f.shelf o u.opening k l c d stops later status ⊎ IsUnplaced k l c d stops later status) status
