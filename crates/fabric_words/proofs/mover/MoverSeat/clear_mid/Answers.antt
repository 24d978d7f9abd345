use Rattle.std.proofs.Common.{◌∙◌, ℕ, sym, ap, subst}
use Rattle.dxc_num.specs.Dimensions.{module_of}
use Rattle.fabric_core.specs.declared.event.CoreEvent.TheVariants.{ClearMid}
use Rattle.fabric_core.specs.declared.phase.Phase.{Phase}
use Rattle.fabric_core.specs.declared.phase.Phase.TheVariants.{Freed}
use Rattle.fabric_core.specs.Steps.{Moves}
use Rattle.fabric_core.specs.Allowed.{MayMove}
use Rattle.fabric_core.proofs.Cells.{module_lt}
use Rattle.fabric_words.specs.Places.{mid_place}
use Rattle.fabric_words.specs.Seats.{MoverAt, IsMoverSeat, AreModules, mover_in}
use Rattle.fabric_words.proofs.At.{ours, mid_low, clears_mid_at}
use Rattle.fabric_words.proofs.Moved.{clear_mid_told, clear_mid_named, mid_names, modules_of, names_it, path_inside}
use Rattle.fabric_words.proofs.mover.MoverSeat.clear_mid.Goals as goal

pub store-requires : goal.store-requires
store-requires c = let s = c.self.inside in let f = c.fabric.inside in let r = c.self.invariant.0 in
    let mine = ours s.token.table_id f.board.shared.table_id s.layout f.size f.board.shared.key (ap (λ (v : MoverAt). v.fabric) c.self.view_is ∙ (c.requires.own ∙ sym c.fabric.view_is)) c.fabric.invariant.0 c.fabric.invariant.1 in
    let may = subst (λ (v : MoverAt). MayMove v.fabric.size v.mover (ClearMid)) (sym c.self.view_is) c.requires.allowed in
    let named = names_it s.phase c.path.result.0 c.path.result.1 (mid_names s.layout (mover_in s.token.me.0) s.phase r.phase_is may) c.path.ensures in
    let can = clear_mid_named s.layout (mover_in s.token.me.0) s.phase may.0 c.path.result.0 may.1 c.path.result.1 r.phase_is may.2 named in
    let are = c.self.invariant.1 c.path.result.0 c.path.result.1 named in
    let at = c.of_mid-word.ensures ∙ ap (λ (n : ℕ). mid_place s.layout.shape c.path.result.1 n) are.1 in
    let half = (path_inside f.board.shared.table_id.slots s.layout s.token.me s.token.me 0 s.phase s.switches s.seen r c.path.result.0 c.path.result.1 named).1 in
    (mine.0, mid_low s.layout c.path.result.1 (module_of s.layout.shape c.path.result.0.output) _ _ half.middle (module_lt s.layout.shape c.path.result.0.output r.sized.shape half.inside.output) at mine.2, clears_mid_at _ _ _ _ s.layout _ mine.1 c.path.result.0 c.path.result.1 at r.role can)

pub invariant_of-self : goal.invariant_of-self
invariant_of-self c = let s = c.self.inside in let f = c.fabric.inside in let r = c.self.invariant.0 in
    let may = subst (λ (v : MoverAt). MayMove v.fabric.size v.mover (ClearMid)) (sym c.self.view_is) c.requires.allowed in
    let named = names_it s.phase c.path.result.0 c.path.result.1 (mid_names s.layout (mover_in s.token.me.0) s.phase r.phase_is may) c.path.ensures in
    let can = clear_mid_named s.layout (mover_in s.token.me.0) s.phase may.0 c.path.result.0 may.1 c.path.result.1 r.phase_is may.2 named in
    let t = clear_mid_told f.board.shared.table_id.slots s.layout s.token.me c.store.new.seat.me c.of_mid-word.result s.phase s.switches s.seen r c.path.result.0 c.path.result.1 can c.store.ensures.2 in
    subst (λ (p : Phase). IsMoverSeat s.layout c.store.new.seat.me p s.switches s.seen × AreModules s.layout.shape p s.row s.column) (sym (c.free.ensures c.path.result.0 c.path.result.1 named))
    (t.0, modules_of s.layout.shape (Freed c.path.result.0 c.path.result.1) c.path.result.0 s.row s.column (λ a b has. has.0) (c.self.invariant.1 c.path.result.0 c.path.result.1 named))

pub returns-clause-event : goal.returns-clause-event
returns-clause-event c = let s = c.self.inside in let f = c.fabric.inside in let r = c.self.invariant.0 in
    let may = subst (λ (v : MoverAt). MayMove v.fabric.size v.mover (ClearMid)) (sym c.self.view_is) c.requires.allowed in
    let named = names_it s.phase c.path.result.0 c.path.result.1 (mid_names s.layout (mover_in s.token.me.0) s.phase r.phase_is may) c.path.ensures in
    let can = clear_mid_named s.layout (mover_in s.token.me.0) s.phase may.0 c.path.result.0 may.1 c.path.result.1 r.phase_is may.2 named in
    let t = clear_mid_told f.board.shared.table_id.slots s.layout s.token.me c.store.new.seat.me c.of_mid-word.result s.phase s.switches s.seen r c.path.result.0 c.path.result.1 can c.store.ensures.2 in
    subst (λ (v : MoverAt). Moves v.fabric.size v.mover (ClearMid) (mover_in c.store.new.seat.me.0)) c.self.view_is t.1
