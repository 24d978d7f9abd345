-- A Provisioner whose replayed matrix and table are others.
use Rattle.std.proofs.Common.{◌≡◌, inl, inr, Option, Some, None, List, ap, sym, ◌∙◌}
use Rattle.dxc_disk.specs.Disks.{DiskState}
use Rattle.dxc_model.specs.declared.entry.Entry.{Entry}
use Rattle.dxc_model.specs.declared.op.Change.{Change}
use Rattle.dxc_model.specs.Tables.{Board}
use Rattle.xc_core.specs.declared.provisioner.Provisioner.{Provisioner}
use Rattle.xc_core.specs.declared.replayed.Replayed.{Replayed}
use Rattle.xc_core.specs.Provisioners.{HasRoom, IsHome, KeepsPast}
use Rattle.xc_core.specs.Reckonings.{Past}
use Rattle.xc_core.specs.Restarts.{HasWay, IsHalted, Lists}
use Rattle.xc_core.specs.States.{IsReadyOrHalted}

module _ {D : Type 0} (told : Type 0) (state : D → DiskState) (b : Past) (p : Provisioner D) (s : Replayed) (room : HasRoom p.journal.1.shape s) where
  abbrev pub with_replayed : Provisioner D
  with_replayed = record p { replayed = s }

  past_replayed : KeepsPast b p → KeepsPast b with_replayed
  past_replayed k = record { matrix = k.matrix; placed = k.placed; spent = k.spent; few = k.few; changes = k.changes; doubts = k.doubts; spelled = k.spelled; book = k.book; shape = k.shape; room = room }

  pub home_replayed : IsHome told state b p → IsHome told state b with_replayed
  home_replayed h = record { ready = h.ready; past = past_replayed h.past; registers = h.registers; switches = h.switches; journal = h.journal }

  abbrev way_replayed : HasWay b p → HasWay b with_replayed
  way_replayed w = record { lacking = w.lacking; past = w.past; before = w.before; rolling = w.rolling; taken = w.taken; on_way = record { under_way = w.on_way.under_way; leads = w.on_way.leads; switches = w.on_way.switches; alone = w.on_way.alone } }

  lists_replayed : (l : Option Change) → Lists told state b p l → Lists told state b with_replayed l
  lists_replayed None j = j
  lists_replayed (Some c) j = j

  pub halted_replayed : IsHalted told state b p → IsHalted told state b with_replayed
  halted_replayed h = record {
    halted = h.halted;
    past = past_replayed h.past;
    way = way_replayed h.way;
    known = λ t. let k = h.known t in record { way = way_replayed k.way; own = k.own; journal = lists_replayed k.way.lacking k.journal };
  }

  pub stage_replayed : (h : List Entry) → IsReadyOrHalted told state b h p → IsReadyOrHalted told state b h with_replayed
  stage_replayed h stage = elim stage [ inl a ↦ inl (home_replayed a.0, a.1) | inr a ↦ inr (halted_replayed a.0, a.1) ]

-- a copy of the table fits where the one before it did
module _ {D : Type 0} (b : Past) (p : Provisioner D) (k : KeepsPast b p) (e : Board) (is : e ≡ b.fold.table) where
  pub copy_fits : e.shape ≡ p.replayed.expected.shape
  copy_fits = ap (λ (x : Board). x.shape) is ∙ (k.shape ∙ sym k.room.expected)

  pub room_copied : HasRoom p.journal.1.shape (record p.replayed { expected = e })
  room_copied = record { matrix = k.room.matrix; table = k.room.table; expected = ap (λ (x : Board). x.shape) is ∙ k.shape }
