use Rattle.std.proofs.Common.{◌∙◌, List, sym, ap, subst}
use Rattle.fabric_core.specs.declared.event.CoreEvent.TheVariants.{ClearOut}
use Rattle.fabric_core.specs.Steps.{Moves}
use Rattle.fabric_core.specs.Allowed.{MayMove}
use Rattle.fabric_core.specs.declared.phase.Phase.{Phase}
use Rattle.fabric_core.specs.Owned.{HasIn}
use Rattle.fabric_core.specs.declared.seen.Seen.{Seen}
use Rattle.fabric_core.specs.declared.phase.Phase.TheVariants.{Old}
use Rattle.fabric_words.specs.Seats.{MoverAt, IsMoverSeat, mover_in}
use Rattle.fabric_words.proofs.At.{ours, out_low, clears_out_at}
use Rattle.fabric_words.proofs.Moved.{clear_out_told, modules_of}
use Rattle.fabric_words.proofs.mover.MoverSeat.clear_out.Goals as goal

pub swap-found-requires : goal.swap-found-requires
swap-found-requires c = let s = c.self.inside in let f = c.fabric.inside in let r = c.self.invariant.0 in
    let mine = ours s.token.table_id f.board.shared.table_id s.layout f.size f.board.shared.key (ap (λ (v : MoverAt). v.fabric) c.self.view_is ∙ (c.requires.own ∙ sym c.fabric.view_is)) c.fabric.invariant.0 c.fabric.invariant.1 in
    let can = subst (λ (v : MoverAt). MayMove v.fabric.size v.mover (ClearOut c.args.leg)) (sym c.self.view_is) c.requires.allowed in (
      mine.0,
      out_low s.layout c.args.leg.output _ _ (r.ruled.laid.leg_is c.args.leg.output can.0 can.1.1.here).inside.output c.of_out-word.ensures mine.2,
      clears_out_at _ _ _ _ s.layout _ mine.1 c.args.leg can.0 c.of_out-word.ensures r.role can.1,
    )

pub invariant_of-self : goal.invariant_of-self
invariant_of-self c = let s = c.self.inside in let f = c.fabric.inside in let r = c.self.invariant.0 in
    let can = subst (λ (v : MoverAt). MayMove v.fabric.size v.mover (ClearOut c.args.leg)) (sym c.self.view_is) c.requires.allowed in
    let t = clear_out_told f.board.shared.table_id.slots s.layout s.token.me c.swap-found.new.seat.me c.of_out-word.result s.phase s.switches s.seen r c.args.leg can.0 c.swap-found.result c.of_out-word.ensures can.1 c.swap-found.ensures.2 in
    let is = c.leave.ensures ∙ ap (Old c.args.leg) c.middle_of.ensures in (
      subst (λ (u : Phase × List Seen). IsMoverSeat s.layout c.swap-found.new.seat.me u.0 s.switches u.1) (λ i. (sym is i, sym c.forget.ensures i)) t.0,
      modules_of s.layout.shape c.leave.new.self c.args.leg c.module_of-row.result c.module_of-column.result (λ a b has. (subst (λ (p : Phase). HasIn p a b) c.leave.ensures has).0) (c.module_of-row.ensures, c.module_of-column.ensures),
    )

pub returns-clause-event : goal.returns-clause-event
returns-clause-event c = let s = c.self.inside in let f = c.fabric.inside in let r = c.self.invariant.0 in
    let can = subst (λ (v : MoverAt). MayMove v.fabric.size v.mover (ClearOut c.args.leg)) (sym c.self.view_is) c.requires.allowed in
    let t = clear_out_told f.board.shared.table_id.slots s.layout s.token.me c.swap-found.new.seat.me c.of_out-word.result s.phase s.switches s.seen r c.args.leg can.0 c.swap-found.result c.of_out-word.ensures can.1 c.swap-found.ensures.2 in
    subst (λ (v : MoverAt). Moves v.fabric.size v.mover (ClearOut c.args.leg) (mover_in c.swap-found.new.seat.me.0)) c.self.view_is t.1
