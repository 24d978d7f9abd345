use Rattle.std.proofs.Common.{◌∙◌, ◌+◌, ℕ, sym, ap, subst}
use Rattle.dxc_num.specs.Dimensions.{module_of}
use Rattle.fabric_core.specs.declared.event.CoreEvent.TheVariants.{SetIn}
use Rattle.fabric_core.specs.Steps.{Moves}
use Rattle.fabric_core.specs.Allowed.{MayMove}
use Rattle.fabric_core.specs.declared.phase.Phase.{Phase}
use Rattle.fabric_core.specs.declared.phase.Phase.TheVariants.{InSet}
use Rattle.fabric_core.specs.Registers.{in_cell}
use Rattle.fabric_core.proofs.Cells.{module_lt}
use Rattle.fabric_words.specs.Seats.{MoverAt, IsMoverSeat, AreModules, mover_in}
use Rattle.fabric_words.proofs.At.{ours, in_low, sets_in_at}
use Rattle.fabric_words.proofs.Moved.{modules_of, set_in_told}
use Rattle.fabric_words.proofs.mover.MoverSeat.set_in.Goals as goal

pub compare_exchange_with-requires : goal.compare_exchange_with-requires
compare_exchange_with-requires c = let s = c.self.inside in let f = c.fabric.inside in let r = c.self.invariant.0 in
    let mine = ours s.token.table_id f.board.shared.table_id s.layout f.size f.board.shared.key (ap (λ (v : MoverAt). v.fabric) c.self.view_is ∙ (c.requires.own ∙ sym c.fabric.view_is)) c.fabric.invariant.0 c.fabric.invariant.1 in
    let can = subst (λ (v : MoverAt). MayMove v.fabric.size v.mover (SetIn c.args.leg c.args.middle)) (sym c.self.view_is) c.requires.allowed in
    let at = c.of_in-word.ensures ∙ ap (λ (n : ℕ). in_cell s.layout.shape n c.args.middle) c.module_of-row.ensures in (
      mine.0,
      in_low s.layout (module_of s.layout.shape c.args.leg.input) c.args.middle _ _ (module_lt s.layout.shape c.args.leg.input r.sized.shape can.inside.input) can.middle at mine.2,
      sets_in_at _ _ _ _ s.layout _ mine.1 (record { leg = c.args.leg; middle = c.args.middle }) _ at (ap (λ (n : ℕ). n + 1) c.slot_of-slot.ensures) r.role can,
    )

pub invariant_of-self : goal.invariant_of-self
invariant_of-self c = let s = c.self.inside in let f = c.fabric.inside in let r = c.self.invariant.0 in
    let can = subst (λ (v : MoverAt). MayMove v.fabric.size v.mover (SetIn c.args.leg c.args.middle)) (sym c.self.view_is) c.requires.allowed in
    let t = set_in_told f.board.shared.table_id.slots s.layout s.token.me c.compare_exchange_with.new.seat.me c.of_in-word.result s.phase s.switches s.seen r (record { leg = c.args.leg; middle = c.args.middle }) (c.slot_of-slot.result + 1) c.compare_exchange_with.result can c.compare_exchange_with.ensures.2 in
    subst (λ (p : Phase). IsMoverSeat s.layout c.compare_exchange_with.new.seat.me p s.switches s.seen × AreModules s.layout.shape p c.module_of-row.result c.module_of-column.result) (sym c.begin.ensures)
    (t.0, modules_of s.layout.shape (InSet c.args.leg c.args.middle) c.args.leg c.module_of-row.result c.module_of-column.result (λ a b has. has.0) (c.module_of-row.ensures, c.module_of-column.ensures))

pub returns-clause-event : goal.returns-clause-event
returns-clause-event c = let s = c.self.inside in let f = c.fabric.inside in let r = c.self.invariant.0 in
    let can = subst (λ (v : MoverAt). MayMove v.fabric.size v.mover (SetIn c.args.leg c.args.middle)) (sym c.self.view_is) c.requires.allowed in
    let t = set_in_told f.board.shared.table_id.slots s.layout s.token.me c.compare_exchange_with.new.seat.me c.of_in-word.result s.phase s.switches s.seen r (record { leg = c.args.leg; middle = c.args.middle }) (c.slot_of-slot.result + 1) c.compare_exchange_with.result can c.compare_exchange_with.ensures.2 in
    subst (λ (v : MoverAt). Moves v.fabric.size v.mover (SetIn c.args.leg c.args.middle) (mover_in c.compare_exchange_with.new.seat.me.0)) c.self.view_is t.1
