-- What a primary sends over its line.
use Rattle.std.specs.Prelude.{◌≡◌, ◌≢◌, ◌⊎◌, ◌↔◌, IsTrue, Bool, true, false, ℕ, ◌+◌, ◌≤◌, List, [], ◌++◌, length, take, Option, Some, None, IsSome}
use Rattle.dxc_causes.specs.Causes.{Rose}
use Rattle.dxc_outside.specs.Links.{LinkState, IsRead, IsSent, Wrote}
use Rattle.dxc_outside.specs.declared.link.Got.{Got}
use Rattle.dxc_outside.specs.declared.link.Got.TheVariants.{Bytes, Quiet, End as AtEnd, Failed}
use Rattle.dxc_outside.specs.declared.send.Sent.TheVariants.{Cut}
use Rattle.standby_link.specs.declared.line.Line.{Line}
use Rattle.dxc_outside.specs.declared.link.Lost.{Lost}
use Rattle.dxc_outside.specs.declared.link.Lost.TheVariants.{Link, End}
use Rattle.standby_link.specs.Acts.{Act, sync}
use Rattle.standby_link.specs.Listens.{WaitsFor, WaitsInVain, patience}
use Rattle.standby_link.specs.Messages.{spelled, spelled_all, numbered}

-- a line to a standby, as contracts see it
pub record LineState : Type 0 where
  pub link : LinkState
  -- the number of the last item
  pub number : ℕ
  -- the bytes of a Have that isn't whole yet
  pub held : List ℕ
  pub lost : Option Lost

abbrev pub line_at : {K : Type 0} → (K → LinkState) → Line K → LineState
line_at state l = record { link = state l.link; number = l.number; held = take l.ear.held l.ear.inbox; lost = l.lost }

-- What a call does to a line and its link. A line that is lost in it is hung up, for that cause; one that was lost before stays so; and as long
-- as it isn't lost its link isn't hung up.
pub record IsHungUp (old new before now : Option Lost) : Type 0 where
  pub over : (IsSome old → before ≡ old) → IsSome new → now ≡ new
  pub same : new ≡ None → now ≡ before

-- Acts were sent as items, all of them, or as far as the link took them, and the line is then lost.
pub record SentActs (told : Type 0) (old new : LinkState) (n m : ℕ) (lost : Option Lost) (acts : List Act) : Type 0 where
  pub part : List ℕ
  pub rest : List ℕ
  pub split : spelled_all (numbered n acts) ≡ part ++ rest
  pub wrote : Wrote told old new part
  pub whole : lost ≡ None → (rest ≡ []) × (m ≡ n + length acts)
  pub cause : IsSome lost → (lost ≡ Some Link) × Rose old.write_faults new.write_faults
  -- a write that failed loses the line
  pub no_fault : lost ≡ None → new.write_faults ≡ old.write_faults

abbrev pub Sends : (told : Type 0) (old new : LineState) (acts : List Act) → Type 0
Sends told old new acts = SentActs told old.link new.link old.number new.number new.lost acts

-- one message was sent, or the link took a part of it and is lost
abbrev pub SendsOne : (told : Type 0) (old new : LinkState) (lost : Option Lost) (message : List ℕ) → Type 0
SendsOne told old new lost message = ((lost ≡ None) × Wrote told old new message × (new.write_faults ≡ old.write_faults)) ⊎ ((lost ≡ Some Link) × IsSent told old new Cut message)

-- A Sync was sent, after which the link was as `mid`, and its Have came; or the line was lost.
pub record SentSync (told : Type 0) (mid : LinkState) (old new : LineState) : Type 0 where
  pub number : new.number ≡ old.number + 1
  pub wrote : Wrote told old.link mid (spelled (old.number + 1) sync)
  pub came : new.lost ≡ None → WaitsFor told mid new.link old.held new.held (old.number + 1)
  pub vain : (why : Lost) → new.lost ≡ Some why → WaitsInVain told mid new.link old.held (old.number + 1) why
  pub end : (new.lost ≡ Some End) ↔ IsTrue new.link.ended
  pub few : new.link.reads ≤ mid.reads + patience
  -- a read that failed loses the line
  pub no_fault : new.lost ≢ Some Link → new.link.read_faults ≡ mid.read_faults
  pub no_write_fault : new.link.write_faults ≡ old.link.write_faults

abbrev pub Syncs : (told : Type 0) (old new : LineState) → Type 0
Syncs told old new =
    ((new.lost ≡ Some Link) × IsSent told old.link new.link Cut (spelled (old.number + 1) sync))
    ⊎ ((mid : LinkState) × SentSync told mid old new)

abbrev pub is_quiet_read : Got → Bool
is_quiet_read (Bytes n) = false
is_quiet_read Quiet = true
is_quiet_read AtEnd = false
is_quiet_read Failed = false

-- A read of the link of a lost line: it wasn't Quiet, or it was.
pub record AskedAnew {K : Type 0} (told : Type 0) (begun : LinkState → Type 0) (state : K → LinkState) (is_quiet : Bool) (old new : Line K) : Type 0 where
  pub got : Got
  pub buffer : List ℕ
  pub begins : begun (state old.link)
  pub read : IsRead told (state old.link) (state new.link) got buffer
  pub answer : is_quiet_read got ≡ is_quiet

-- Nobody stands by: the line is as it was.
pub record StaysLost {K : Type 0} (told : Type 0) (begun : LinkState → Type 0) (state : K → LinkState) (old new : Line K) : Type 0 where
  pub asked : AskedAnew told begun state false old new
  pub same : new ≡ record old { link = new.link }

-- Somebody stands by anew: nothing was sent over the line, and nothing of a Have came.
pub record BeginsAnew {K : Type 0} (told : Type 0) (begun : LinkState → Type 0) (state : K → LinkState) (old new : Line K) : Type 0 where
  pub asked : AskedAnew told begun state true old new
  pub here : new.lost ≡ None
  pub first : new.number ≡ 0
  pub none_held : new.ear.held ≡ 0
