use Rattle.std.proofs.Common.{◌∙◌, ◌+◌, ◌*◌, ℕ, List, sym, ap, subst}
use Rattle.fabric_core.specs.declared.event.CoreEvent.TheVariants.{SwitchOut}
use Rattle.fabric_core.specs.declared.phase.Phase.{Phase}
use Rattle.fabric_core.specs.Registers.{out_of}
use Rattle.fabric_core.specs.Steps.{Moves}
use Rattle.fabric_core.specs.Allowed.{MayMove}
use Rattle.fabric_core.specs.Owned.{HasIn}
use Rattle.fabric_core.specs.declared.seen.Seen.{Seen}
use Rattle.fabric_words.specs.Seats.{MoverAt, IsMoverSeat, mover_in}
use Rattle.fabric_words.proofs.At.{ours, out_low, switches_at}
use Rattle.fabric_words.proofs.Moved.{modules_of, named_mid_set, named_switched, switch_told, path_inside}
use Rattle.fabric_words.proofs.mover.MoverSeat.switch_out.Goals as goal

pub swap-found-requires : goal.swap-found-requires
swap-found-requires c = let s = c.self.inside in let f = c.fabric.inside in let r = c.self.invariant.0 in
    let mine = ours s.token.table_id f.board.shared.table_id s.layout f.size f.board.shared.key (ap (λ (v : MoverAt). v.fabric) c.self.view_is ∙ (c.requires.own ∙ sym c.fabric.view_is)) c.fabric.invariant.0 c.fabric.invariant.1 in
    let l = c.path.result.0 in let k = c.path.result.1 in
    let may = subst (λ (v : MoverAt). MayMove v.fabric.size v.mover SwitchOut) (sym c.self.view_is) c.requires.allowed in
    let named = named_mid_set s.layout (mover_in s.token.me.0) s.phase l k r.phase_is may c.path.ensures in
    let half = (path_inside f.board.shared.table_id.slots s.layout s.token.me s.token.me 0 s.phase s.switches s.seen r l k named.0).1 in (
      mine.0,
      out_low s.layout l.output _ _ half.inside.output c.of_out-word.ensures mine.2,
      switches_at _ _ _ _ s.layout _ mine.1 l k _ c.of_out-word.ensures (ap (λ (n : ℕ). out_of (n + 1) k) r.switches_are) r.role (sym r.phase_is ∙ named.1) may.3,
    )

pub invariant_of-self : goal.invariant_of-self
invariant_of-self c = let s = c.self.inside in let f = c.fabric.inside in let r = c.self.invariant.0 in
    let l = c.path.result.0 in let k = c.path.result.1 in
    let may = subst (λ (v : MoverAt). MayMove v.fabric.size v.mover SwitchOut) (sym c.self.view_is) c.requires.allowed in
    let named = named_mid_set s.layout (mover_in s.token.me.0) s.phase l k r.phase_is may c.path.ensures in
    let t = switch_told f.board.shared.table_id.slots s.layout s.token.me c.swap-found.new.seat.me c.of_out-word.result s.phase s.switches s.seen r l k ((s.switches + 1) * 256 + k.0 + 1) c.swap-found.result named.1 may.3 c.swap-found.ensures.2 in
    let turned = c.turn.ensures l k named.0 in (
      subst (λ (u : Phase × List Seen). IsMoverSeat s.layout c.swap-found.new.seat.me u.0 (s.switches + 1) u.1) (λ i. (sym turned i, sym c.forget_after.ensures i)) t.0,
      modules_of s.layout.shape c.turn.new.self l s.row s.column (λ a b has. named_switched l c.swap-found.result a b (subst (λ (p : Phase). HasIn p a b) turned has)) (c.self.invariant.1 l k named.0),
    )

pub returns-clause-event : goal.returns-clause-event
returns-clause-event c = let s = c.self.inside in let f = c.fabric.inside in let r = c.self.invariant.0 in
    let l = c.path.result.0 in let k = c.path.result.1 in
    let may = subst (λ (v : MoverAt). MayMove v.fabric.size v.mover SwitchOut) (sym c.self.view_is) c.requires.allowed in
    let named = named_mid_set s.layout (mover_in s.token.me.0) s.phase l k r.phase_is may c.path.ensures in
    let t = switch_told f.board.shared.table_id.slots s.layout s.token.me c.swap-found.new.seat.me c.of_out-word.result s.phase s.switches s.seen r l k ((s.switches + 1) * 256 + k.0 + 1) c.swap-found.result named.1 may.3 c.swap-found.ensures.2 in
    subst (λ (v : MoverAt). Moves v.fabric.size v.mover (SwitchOut) (mover_in c.swap-found.new.seat.me.0)) c.self.view_is t.1
