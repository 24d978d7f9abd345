-- Commands are written one after the other, and what an export writes is what its journal came to.
use Rattle.std.proofs.Common.{◌≡◌, ◌<◌, ◌+◌, ℕ, List, ◌++◌, length, take, drop, slice_index_or, sym, ◌∙◌, ap, subst}
use Rattle.dxc_num.specs.Dimensions.{Dimensions}
use Rattle.dxc_model.specs.declared.op.Change.{Change}
use Rattle.dxc_model.specs.Tables.{Board}
use Rattle.dxc_disk.specs.Disks.{DiskState}
use Rattle.dxc_outside.specs.declared.send.Sent.{Sent}
use Rattle.dxc_outside.specs.declared.send.Sent.TheVariants.{Whole, Cut}
use Rattle.dxc_outside.specs.Links.{LinkState, IsSent}
use Rattle.shelf_file.specs.Contents.{Contents}
use Rattle.tl1_script.specs.Commands.{line_of, lines_from}
use Rattle.tl1_script.specs.Scripts.{changes_to}
use Rattle.tl1_script.proofs.Lines.{line_more, lines_left}
use Rattle.xc_core.specs.declared.state.State.{State}
use Rattle.xc_core.specs.Openings.{Begins}
use Rattle.xc_core.specs.States.{opening_of}
use Rattle.dxc_element.specs.Exports.{script}
use Rattle.dxc_element.proofs.Audits.{table_first}
use Rattle.dxc_element.proofs.Checking.{sent_cut, sent_more}

module _ (d : Dimensions) (cs : List Change) (at : ℕ) (lt : at < length cs) (c : Change) (told : Type 0) (k j m : LinkState) (sent : Sent) (l : List ℕ) (is : l ≡ line_of d (at + 1) (slice_index_or cs at c)) (first : IsSent told k j Whole (lines_from d 1 (take at cs))) (next : IsSent told j m sent l) where
  -- one command more
  pub line_sent : IsSent told k m sent (lines_from d 1 (take (at + 1) cs))
  line_sent = subst (λ (b : List ℕ). IsSent told k m sent b) (ap (λ (b : List ℕ). lines_from d 1 (take at cs) ++ b) is ∙ sym (line_more d cs at c lt)) (sent_more told k j m (lines_from d 1 (take at cs)) l sent first next)

  -- and it was cut
  pub line_cut : sent ≡ Cut → IsSent told k m Cut (lines_from d 1 cs)
  line_cut cut =
      subst (λ (b : List ℕ). IsSent told k m Cut b) (lines_left d cs (at + 1))
      (sent_cut told k m (lines_from d 1 (take (at + 1) cs)) (lines_from d (1 + length (take (at + 1) cs)) (drop (at + 1) cs)) sent cut line_sent)

module _ {D : Type 0} (told : Type 0) (state : D → DiskState) (s : Contents) (x : State D) (b : Begins told state x) (shape : (opening_of state x).first.fold.table.shape ≡ s.shape) where
  -- the commands that come to the state's table are those of the opening's
  pub script_first : (d : Dimensions) (bits : ℕ) (cs : List Change) → d ≡ s.shape → bits ≡ s.equipped → cs ≡ changes_to bits x.table → lines_from d 1 cs ≡ script s (opening_of state x)
  script_first d bits cs same equipped are =
      ap (λ (e : Dimensions). lines_from e 1 cs) same
      ∙ (ap (λ (l : List Change). lines_from s.shape 1 l) are
      ∙ (ap (λ (n : ℕ). lines_from s.shape 1 (changes_to n x.table)) equipped
      ∙ ap (λ (t : Board). lines_from s.shape 1 (changes_to s.equipped t)) (table_first told state s x b shape)))
