use Rattle.std.proofs.Common.{◌∙◌, ◌+◌, ℕ, sym, ap, subst}
use Rattle.fabric_core.specs.declared.event.CoreEvent.TheVariants.{SetMid}
use Rattle.fabric_core.specs.declared.phase.Phase.{Phase}
use Rattle.fabric_core.specs.declared.phase.Phase.TheVariants.{MidSet}
use Rattle.dxc_num.specs.Dimensions.{module_of}
use Rattle.fabric_core.specs.Steps.{Moves}
use Rattle.fabric_core.specs.Allowed.{MayMove}
use Rattle.fabric_core.specs.Owned.{HasIn}
use Rattle.fabric_core.proofs.Cells.{module_lt}
use Rattle.fabric_words.specs.Places.{mid_place}
use Rattle.fabric_words.specs.Seats.{MoverAt, IsMoverSeat, AreModules, mover_in}
use Rattle.fabric_words.proofs.At.{ours, mid_low, sets_mid_at}
use Rattle.fabric_words.proofs.Moved.{modules_of, named_in_set, set_mid_told, path_inside}
use Rattle.fabric_words.proofs.mover.MoverSeat.set_mid.Goals as goal

pub store-requires : goal.store-requires
store-requires c = let s = c.self.inside in let f = c.fabric.inside in let r = c.self.invariant.0 in
    let mine = ours s.token.table_id f.board.shared.table_id s.layout f.size f.board.shared.key (ap (λ (v : MoverAt). v.fabric) c.self.view_is ∙ (c.requires.own ∙ sym c.fabric.view_is)) c.fabric.invariant.0 c.fabric.invariant.1 in
    let l = c.path.result.0 in let k = c.path.result.1 in
    let may = subst (λ (v : MoverAt). MayMove v.fabric.size v.mover SetMid) (sym c.self.view_is) c.requires.allowed in
    let named = named_in_set (mover_in s.token.me.0) s.phase l k r.phase_is may c.path.ensures in let are = c.self.invariant.1 l k named.0 in
    let at = c.of_mid-word.ensures ∙ ap (λ (n : ℕ). mid_place s.layout.shape k n) are.1 in
    let half = (path_inside f.board.shared.table_id.slots s.layout s.token.me s.token.me 0 s.phase s.switches s.seen r l k named.0).1 in (
      mine.0,
      mid_low s.layout k (module_of s.layout.shape l.output) _ _ half.middle (module_lt s.layout.shape l.output r.sized.shape half.inside.output) at mine.2,
      sets_mid_at _ _ _ _ s.layout _ mine.1 l k _ at (ap (λ (n : ℕ). n + 1) are.0) r.role (sym r.phase_is ∙ named.1),
    )

pub invariant_of-self : goal.invariant_of-self
invariant_of-self c = let s = c.self.inside in let f = c.fabric.inside in let r = c.self.invariant.0 in
    let l = c.path.result.0 in let k = c.path.result.1 in
    let may = subst (λ (v : MoverAt). MayMove v.fabric.size v.mover SetMid) (sym c.self.view_is) c.requires.allowed in
    let named = named_in_set (mover_in s.token.me.0) s.phase l k r.phase_is may c.path.ensures in
    let t = set_mid_told f.board.shared.table_id.slots s.layout s.token.me c.store.new.seat.me c.of_mid-word.result s.phase s.switches s.seen r l k (s.row + 1) named.1 c.store.ensures.2 in
    subst (λ (p : Phase). IsMoverSeat s.layout c.store.new.seat.me p s.switches s.seen × AreModules s.layout.shape p s.row s.column) (sym (c.go_on.ensures l k named.0))
    (t.0, modules_of s.layout.shape (MidSet l k) l s.row s.column (λ a b has. has.0) (c.self.invariant.1 l k named.0))

pub returns-clause-event : goal.returns-clause-event
returns-clause-event c = let s = c.self.inside in let f = c.fabric.inside in let r = c.self.invariant.0 in
    let l = c.path.result.0 in let k = c.path.result.1 in
    let may = subst (λ (v : MoverAt). MayMove v.fabric.size v.mover SetMid) (sym c.self.view_is) c.requires.allowed in
    let named = named_in_set (mover_in s.token.me.0) s.phase l k r.phase_is may c.path.ensures in
    let t = set_mid_told f.board.shared.table_id.slots s.layout s.token.me c.store.new.seat.me c.of_mid-word.result s.phase s.switches s.seen r l k (s.row + 1) named.1 c.store.ensures.2 in
    subst (λ (v : MoverAt). Moves v.fabric.size v.mover (SetMid) (mover_in c.store.new.seat.me.0)) c.self.view_is t.1
