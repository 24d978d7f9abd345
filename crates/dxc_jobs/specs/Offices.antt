-- What opens, with all that it hands out.
use denote.MutBor.{MutBor}
use denote.Triple.Both.{Both}
use Rattle.dxc_disk.specs.declared.disk.Disk.{Ghosts as DiskOf}
use Rattle.dxc_outside.specs.declared.link.Link.{Ghosts as LinkOf}
use Rattle.dxc_outside.specs.declared.listener.Listener.{Ghosts as ListenerOf}
use Rattle.dxc_outside.specs.declared.opener.Opener.{Ghosts as OpenerOf}

-- the ghost members of an opener, and those of its disks, its listeners and their links
pub record Office (O : Type 0) : Type 1 where
  pub Disk : Type 0
  pub Lines : Type 0
  pub Listener : Type 0
  pub Clock : Type 0
  pub Gate : Type 0
  pub Peer : Type 0
  pub Link : Type 0
  pub opener : OpenerOf O Disk Lines Listener Clock Gate Peer Link
  pub disk : DiskOf Disk
  pub listener : ListenerOf Listener Link
  pub link : LinkOf Link

abbrev pub office : {O D N L C G P K : Type 0} → OpenerOf O D N L C G P K → DiskOf D → ListenerOf L K → LinkOf K → Office O
office {O} {D} {N} {L} {C} {G} {P} {K} o d l k = record { Disk = D; Lines = N; Listener = L; Clock = C; Gate = G; Peer = P; Link = K; opener = o; disk = d; listener = l; link = k }

-- the ghost members of a disk, of a listener, and of its links
pub record Doorway (D L K : Type 0) : Type 1 where
  pub disk : DiskOf D
  pub listener : ListenerOf L K
  pub link : LinkOf K

abbrev pub doorway : {D L K : Type 0} → DiskOf D → ListenerOf L K → LinkOf K → Doorway D L K
doorway d l k = record { disk = d; listener = l; link = k }

-- what is lent by a `&mut`, at the call and at the return
abbrev pub Across : Type 0 → Type 0
Across X = Both (MutBor X) (MutBor X)
