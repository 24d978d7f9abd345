-- The link of the load.
use Rattle.std.specs.Prelude.{◌≡◌, ℕ, false, [], ◌++◌}
use Rattle.std.specs.Arc.{arc_value}
use base.Stored.{Gv}
use Rattle.fabric_core.specs.declared.worker.Worker.{Worker}
use Rattle.fabric_words.specs.Seats.{FabricId}
use Rattle.fabric_words.specs.contracts.fabric.Fabric as fabric_row
use Rattle.dxc_outside.specs.Items.{bytes}
use Rattle.dxc_outside.specs.Links.{LinkState}
use Rattle.dxc_load.specs.declared.link.LoadLink.{LoadLink}
use Rattle.dxc_load.specs.Script.{commands_behind, login_text, most_commands, text_left}

-- which fabric its frames pass
abbrev pub fabric_of : LoadLink → FabricId
fabric_of l = arc_value l.carrier.fabric

-- the code of a fabric, of which no other has it
abbrev pub fabric_code : FabricId → Gv
fabric_code = fabric_row.the_row.coded.code

-- what a link of the load shows
abbrev pub link_state : LoadLink → LinkState
link_state l = record { left = bytes (text_left l.number l.text l.at l.sent); written = l.written.items; ended = l.ended; reads = l.reads; read_faults = 0; write_faults = l.write_faults; sound = false; lasting = fabric_code (fabric_of l) }

-- before its session, on that fabric: the log-in and all commands are left to read
abbrev pub unread : ℕ → FabricId → LinkState
unread number fabric = record { left = bytes (login_text ++ commands_behind number 0 most_commands); written = []; ended = false; reads = 0; read_faults = 0; write_faults = 0; sound = false; lasting = fabric_code fabric }

-- the worker that carries the frames after its commands
abbrev pub worker_of : LoadLink → Worker
worker_of l = l.carrier.seat.reader.worker

-- a link of the load shows this
abbrev pub IsOfLoad : LinkState → Type 0
IsOfLoad s = (l : LoadLink) × (link_state l ≡ s)
