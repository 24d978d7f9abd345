-- Who hands out what an element is opened on.
use Rattle.dxc_disk.specs.declared.disk.Disk.{Ghosts as DiskOf}
use Rattle.dxc_leaving.specs.Values.{AnyValue}
use Rattle.dxc_outside.specs.declared.link.Link.{Ghosts as LinkOf}
use Rattle.dxc_outside.specs.declared.opener.Opener.{Ghosts as OpenerOf}

-- the ghost members of an opener, of its disks and of its peers, and what was let go
pub record Lender (O : Type 0) : Type 1 where
  pub Disk : Type 0
  pub Lines : Type 0
  pub Listener : Type 0
  pub Clock : Type 0
  pub Gate : Type 0
  pub Peer : Type 0
  pub Link : Type 0
  pub opener : OpenerOf O Disk Lines Listener Clock Gate Peer Link
  pub disk : DiskOf Disk
  pub peer : LinkOf Peer
  pub gone : AnyValue → Type 0

abbrev pub lender : {O D N L C G P K : Type 0} → OpenerOf O D N L C G P K → DiskOf D → LinkOf P → (AnyValue → Type 0) → Lender O
lender {O} {D} {N} {L} {C} {G} {P} {K} o d p gone = record { Disk = D; Lines = N; Listener = L; Clock = C; Gate = G; Peer = P; Link = K; opener = o; disk = d; peer = p; gone = gone }
