use Rattle.std.proofs.Common.{◌∙◌, ℕ, sym, ap, subst}
use Rattle.dxc_num.specs.Dimensions.{module_of}
use Rattle.fabric_core.specs.declared.event.CoreEvent.TheVariants.{ClearIn}
use Rattle.fabric_core.specs.declared.phase.Phase.{Phase}
use Rattle.fabric_core.specs.Registers.{in_cell}
use Rattle.fabric_core.specs.Steps.{Moves}
use Rattle.fabric_core.specs.Allowed.{MayMove}
use Rattle.fabric_core.proofs.Cells.{module_lt}
use Rattle.fabric_words.specs.Seats.{MoverAt, IsMoverSeat, AreModules, mover_in}
use Rattle.fabric_words.proofs.At.{ours, in_low, clears_in_at}
use Rattle.fabric_words.proofs.Moved.{clear_in_told, clear_in_named, in_names, names_it, path_inside}
use Rattle.fabric_words.proofs.mover.MoverSeat.clear_in.Goals as goal

pub store-requires : goal.store-requires
store-requires c = let s = c.self.inside in let f = c.fabric.inside in let r = c.self.invariant.0 in
    let mine = ours s.token.table_id f.board.shared.table_id s.layout f.size f.board.shared.key (ap (λ (v : MoverAt). v.fabric) c.self.view_is ∙ (c.requires.own ∙ sym c.fabric.view_is)) c.fabric.invariant.0 c.fabric.invariant.1 in
    let may = subst (λ (v : MoverAt). MayMove v.fabric.size v.mover (ClearIn)) (sym c.self.view_is) c.requires.allowed in
    let named = names_it s.phase c.path.result.0 c.path.result.1 (in_names (mover_in s.token.me.0) s.phase r.phase_is may) c.path.ensures in
    let can = clear_in_named (mover_in s.token.me.0) s.phase may.0 c.path.result.0 may.1 c.path.result.1 r.phase_is may.2 named in
    let are = c.self.invariant.1 c.path.result.0 c.path.result.1 named in
    let at = c.of_in-word.ensures ∙ ap (λ (n : ℕ). in_cell s.layout.shape n c.path.result.1) are.0 in
    let half = (path_inside f.board.shared.table_id.slots s.layout s.token.me s.token.me 0 s.phase s.switches s.seen r c.path.result.0 c.path.result.1 named).1 in
    (mine.0, in_low s.layout (module_of s.layout.shape c.path.result.0.input) c.path.result.1 _ _ (module_lt s.layout.shape c.path.result.0.input r.sized.shape half.inside.input) half.middle at mine.2, clears_in_at _ _ _ _ s.layout _ mine.1 c.path.result.0 c.path.result.1 at r.role can)

pub invariant_of-self : goal.invariant_of-self
invariant_of-self c = let s = c.self.inside in let f = c.fabric.inside in let r = c.self.invariant.0 in
    let may = subst (λ (v : MoverAt). MayMove v.fabric.size v.mover (ClearIn)) (sym c.self.view_is) c.requires.allowed in
    let named = names_it s.phase c.path.result.0 c.path.result.1 (in_names (mover_in s.token.me.0) s.phase r.phase_is may) c.path.ensures in
    let can = clear_in_named (mover_in s.token.me.0) s.phase may.0 c.path.result.0 may.1 c.path.result.1 r.phase_is may.2 named in
    let t = clear_in_told f.board.shared.table_id.slots s.layout s.token.me c.store.new.seat.me c.of_in-word.result s.phase s.switches s.seen r c.path.result.0 c.path.result.1 can c.store.ensures.2 in
    subst (λ (p : Phase). IsMoverSeat s.layout c.store.new.seat.me p s.switches s.seen × AreModules s.layout.shape p s.row s.column) (sym c.rest.ensures)
    (t.0, λ a b has. absurd has)

pub returns-clause-event : goal.returns-clause-event
returns-clause-event c = let s = c.self.inside in let f = c.fabric.inside in let r = c.self.invariant.0 in
    let may = subst (λ (v : MoverAt). MayMove v.fabric.size v.mover (ClearIn)) (sym c.self.view_is) c.requires.allowed in
    let named = names_it s.phase c.path.result.0 c.path.result.1 (in_names (mover_in s.token.me.0) s.phase r.phase_is may) c.path.ensures in
    let can = clear_in_named (mover_in s.token.me.0) s.phase may.0 c.path.result.0 may.1 c.path.result.1 r.phase_is may.2 named in
    let t = clear_in_told f.board.shared.table_id.slots s.layout s.token.me c.store.new.seat.me c.of_in-word.result s.phase s.switches s.seen r c.path.result.0 c.path.result.1 can c.store.ensures.2 in
    subst (λ (v : MoverAt). Moves v.fabric.size v.mover (ClearIn) (mover_in c.store.new.seat.me.0)) c.self.view_is t.1
