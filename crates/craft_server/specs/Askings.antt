-- What the opener is asked for, by the program's words.
use Rattle.std.specs.Prelude.{ℕ, List, [], ◌∷◌, ◌++◌, ◌⊎◌, Option, Some, None}
use Rattle.dxc_outside.specs.Asked.{Asking, AskedFor, asked_each, copy_named, lines_named, listener_named}
use Rattle.dxc_args.specs.declared.line.Line.{Line}
use Rattle.dxc_args.specs.declared.line.ServeLine.{ServeLine}
use Rattle.dxc_args.specs.declared.line.Line.TheVariants.{Script, Trial, Check, Export, Serve, Standby, Load}
use Rattle.dxc_args.specs.declared.status.Status.{Status}
use Rattle.dxc_args.specs.Lines.{IsLine}
use Rattle.dxc_jobs.specs.Missing.{IsOfNoOpening}
use Rattle.dxc_element.specs.Openings.{Named, files_asked, named}
use Rattle.dxc_element.specs.Peers.{mirror_asked}
use Rattle.craft_server.specs.Runs.{NoLine}

-- the lines of each worker, and a listener for each of 16 sessions
abbrev pub site_asked : (lines address : List ℕ) → ℕ → List Asking
site_asked lines address workers = asked_each (lines_named lines) workers ++ asked_each (λ session. listener_named address) 16

-- a controller's files, and its standby if it has one
abbrev pub opened_asked : Named → Option (List ℕ) → List Asking
opened_asked names None = files_asked names
opened_asked names (Some peer) = mirror_asked names peer

-- what a line of `serve` asks for
abbrev pub serve_asked : ServeLine → List Asking
serve_asked x = opened_asked (named x.shelf x.journal) x.peer ++ site_asked x.lines x.address x.workers

-- all that a line asks for
abbrev pub line_asked : Line → List Asking
line_asked (Script shelf journal) = files_asked (named shelf journal)
line_asked (Trial shape) = []
line_asked (Check shelf journal) = files_asked (named shelf journal)
line_asked (Export shelf journal) = files_asked (named shelf journal)
line_asked (Serve x) = serve_asked x
line_asked (Standby journal address) = copy_named journal ∷ listener_named address ∷ []
line_asked (Load number) = []

-- nothing was asked for, since the words are no line; or what the line asks for, up to the first that failed
abbrev pub AskedBy : (asked : List Asking → Type 0) → List (List ℕ) → Status → Type 0
AskedBy asked words status = (asked [] × NoLine words status) ⊎ ((l : Line) × IsLine words l × AskedFor asked (line_asked l) (IsOfNoOpening status))
