-- What a Provisioner keeps of the changes, where only a part of it has changed.
use Rattle.std.proofs.Common.{◌≡◌, ℕ, Bool, Option, Some, None, List, sym, ◌∙◌, subst}
use Rattle.dxc_model.specs.declared.op.Op.{Op}
use Rattle.dxc_num.specs.Dimensions.{Dimensions}
use Rattle.fabric_words.specs.Seats.{MoverAt}
use Rattle.journal_core.specs.declared.book.Book.{Book}
use Rattle.journal_core.specs.Books.{IsWhole}
use Rattle.xc_core.specs.declared.provisioner.Provisioner.{Provisioner}
use Rattle.dxc_disk.specs.Disks.{DiskState}
use Rattle.xc_core.specs.Journals.{IsAtHome, IsRecordOf}
use Rattle.xc_core.specs.Provisioners.{HasRoom, IsHome, KeepsPast, MayBeHeld, with_halt}
use Rattle.xc_core.specs.Reckonings.{Past}

abbrev pub with_journal : {D : Type 0} → Provisioner D → D × Book → Option Op → Provisioner D
with_journal p j doubt = record p { journal = j; doubt = doubt }

pub none_held : (b : Past) → MayBeHeld b None
none_held b op asked = absurd (let e : None ≡ Some op = asked in cc)

pub one_held : (b : Past) (op : Op) (bytes : List ℕ) → IsRecordOf b op bytes → MayBeHeld b (Some op)
one_held b op bytes is x asked = (bytes, subst (λ (y : Op). IsRecordOf b y bytes) (let e : Some op ≡ Some x = asked in cc) is)

module _ {D : Type 0} (b : Past) (p : Provisioner D) (k : KeepsPast b p) where
  pub past_moved : (m : MoverAt) → KeepsPast b (record p { mover = m })
  past_moved m = record { matrix = k.matrix; placed = k.placed; spent = k.spent; few = k.few; changes = k.changes; doubts = k.doubts; spelled = k.spelled; book = k.book; shape = k.shape; room = k.room }

  pub past_marked : (h : Bool) → KeepsPast b (with_halt h p)
  past_marked h = record { matrix = k.matrix; placed = k.placed; spent = k.spent; few = k.few; changes = k.changes; doubts = k.doubts; spelled = k.spelled; book = k.book; shape = k.shape; room = k.room }

  pub past_with : (j : D × Book) (doubt : Option Op) → IsWhole j.1 → j.1.shape ≡ p.journal.1.shape → MayBeHeld b doubt → KeepsPast b (with_journal p j doubt)
  past_with j doubt book same held = record {
    matrix = k.matrix;
    placed = k.placed;
    spent = k.spent;
    few = k.few;
    changes = k.changes;
    doubts = held;
    spelled = k.spelled;
    book = book;
    shape = k.shape ∙ sym same;
    room = subst (λ (d : Dimensions). HasRoom d p.replayed) (sym same) k.room;
  }

-- at home with another journal and operation in doubt
pub home_with : {D : Type 0} (told : Type 0) (state : D → DiskState) (b : Past) (p : Provisioner D) → IsHome told state b p → (j : D × Book) (doubt : Option Op) → IsWhole j.1 → j.1.shape ≡ p.journal.1.shape → MayBeHeld b doubt → IsAtHome told (state j.0) j.1 b doubt → IsHome told state b (with_journal p j doubt)
home_with told state b p h j doubt book shape held journal = record { ready = h.ready; past = past_with b p h.past j doubt book shape held; registers = h.registers; switches = h.switches; journal = journal }
