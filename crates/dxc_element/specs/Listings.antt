-- What an audit of a journal writes.
use Rattle.std.specs.Prelude.{◌≡◌, ◌⊎◌, ℕ, List, [], ◌∷◌, ◌++◌, codes, decimal, flat_map, length}
use Rattle.dxc_num.specs.Dimensions.{Dimensions}
use Rattle.dxc_outside.specs.declared.send.Sent.{Sent}
use Rattle.dxc_outside.specs.Links.{LinkState, IsSent}
use Rattle.dxc_model.specs.declared.conn.Conn.{Conn}
use Rattle.dxc_model.specs.declared.op.Selection.TheVariants.{All}
use Rattle.dxc_model.specs.Tables.{rows}
use Rattle.shelf_file.specs.Contents.{Contents}
use Rattle.tl1_answer.specs.Texts.{with_conn}
use Rattle.xc_core.specs.declared.state.Home.{Home}
use Rattle.xc_core.specs.declared.state.Home.TheVariants.{In, Out}
use Rattle.xc_core.specs.States.{Opening}
use Rattle.dxc_args.specs.declared.status.Status.{Status}
use Rattle.dxc_args.specs.declared.status.Status.TheVariants.{NoMemory}
use Rattle.dxc_args.specs.Statuses.{status_of_sent}

-- a row of the table, without its quotes, and its end
abbrev pub row_line : Dimensions → Conn → List ℕ
row_line d x = with_conn [] d x ++ 10 ∷ []

-- how many records the journal of a Provisioner counts
abbrev pub records_at : {D : Type 0} → Home D → ℕ
records_at (In d) = d.value.p.journal.1.count
records_at (Out e) = 0

-- a line with the number of records
abbrev pub count_line : ℕ → List ℕ
count_line records = codes "RECORDS " ++ decimal records ++ 10 ∷ []

-- each row of a table, and how many records led to it
abbrev pub listing : Dimensions → List Conn → ℕ → List ℕ
listing d cs records = flat_map (row_line d) cs ++ count_line records

-- the rows of the table were written with the number of records, or a part of them where a write failed
pub record WroteRows (told : Type 0) (s : Contents) (o : Opening) (k l : LinkState) (status : Status) : Type 0 where
  pub sent : Sent
  pub wrote : IsSent told k l sent (listing s.shape (rows o.first.fold.table All) (length o.records))
  pub status_is : status ≡ status_of_sent sent

-- so they were, or memory was wanting and nothing was written
abbrev pub IsCheck : (told : Type 0) (s : Contents) (o : Opening) (k l : LinkState) (status : Status) → Type 0
IsCheck told s o k l status = WroteRows told s o k l status ⊎ ((status ≡ NoMemory) × (l ≡ k))
