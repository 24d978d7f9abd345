-- What an export of a journal writes.
use Rattle.std.specs.Prelude.{◌≡◌, ◌⊎◌, List, ℕ}
use Rattle.dxc_outside.specs.declared.send.Sent.{Sent}
use Rattle.dxc_outside.specs.Links.{LinkState, IsSent}
use Rattle.shelf_file.specs.Contents.{Contents}
use Rattle.tl1_script.specs.Commands.{lines_from}
use Rattle.tl1_script.specs.Scripts.{changes_to}
use Rattle.xc_core.specs.States.{Opening}
use Rattle.dxc_args.specs.declared.status.Status.{Status}
use Rattle.dxc_args.specs.declared.status.Status.TheVariants.{NoMemory}
use Rattle.dxc_args.specs.Statuses.{status_of_sent}
use Rattle.dxc_element.specs.Openings.{Named, Opens, WasLetGo, opened_on}
use Rattle.dxc_element.specs.Auditing.{Lent, Told}

-- the commands that come to the opening's table from no connection and what the shelf equips
abbrev pub script : Contents → Opening → List ℕ
script s o = lines_from s.shape 1 (changes_to s.equipped o.first.fold.table)

-- they were written, or a part of them where a write failed
pub record WroteCommands (told : Type 0) (s : Contents) (o : Opening) (k l : LinkState) (status : Status) : Type 0 where
  pub sent : Sent
  pub wrote : IsSent told k l sent (script s o)
  pub status_is : status ≡ status_of_sent sent

-- so they were, or memory was wanting and nothing was written
abbrev pub IsExport : (told : Type 0) (s : Contents) (o : Opening) (k l : LinkState) (status : Status) → Type 0
IsExport told s o k l status = WroteCommands told s o k l status ⊎ ((status ≡ NoMemory) × (l ≡ k))

-- nothing was opened and written, and why; or the commands of what was opened were written, unless memory was wanting, and it was let go as it was opened
abbrev pub Exports : {D : Type 0} → Told D → Named → (before after : Lent D) → Status → Type 0
Exports told names before after status = Opens told.opener told.disk told.state told.gone names before.sources after.sources (after.terminal ≡ before.terminal)
    (λ f o u. (after.sources.stops ≡ before.sources.stops) × IsExport told.link f.shelf o before.terminal after.terminal status
    × WasLetGo told.disk told.state told.gone (opened_on f.disk u.found.disk f.shelf o)) status
