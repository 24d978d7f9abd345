use Rattle.std.proofs.Common.{◌<◌, ◌∙◌, sym, ap, subst, List}
use Rattle.fabric_core.specs.declared.seen.Seen.{Seen}
use Rattle.fabric_words.specs.Seats.{MoverAt, IsMoverSeat}
use Rattle.fabric_words.proofs.At.{ours, frame_low, looks_at}
use Rattle.fabric_words.proofs.Moved.{look_told}
use Rattle.fabric_words.proofs.mover.MoverSeat.look.Goals as goal

pub load-found-requires : goal.load-found-requires
load-found-requires c = let s = c.self.inside in let f = c.fabric.inside in let r = c.self.invariant.0 in
    let mine = ours s.token.table_id f.board.shared.table_id s.layout f.size f.board.shared.key (ap (λ (v : MoverAt). v.fabric) c.self.view_is ∙ (c.requires.own ∙ sym c.fabric.view_is)) c.fabric.invariant.0 c.fabric.invariant.1 in
    let low = subst (λ (v : MoverAt). c.args.worker < v.fabric.size.workers) (sym c.self.view_is) c.requires.low in
    (mine.0, frame_low s.layout c.args.worker _ _ low c.of_frame-word.ensures mine.2, looks_at _ _ _ _ s.layout _ mine.1 c.args.worker c.of_frame-word.ensures r.role low)

pub invariant_of-self : goal.invariant_of-self
invariant_of-self c = let s = c.self.inside in let f = c.fabric.inside in let r = c.self.invariant.0 in
    let low = subst (λ (v : MoverAt). c.args.worker < v.fabric.size.workers) (sym c.self.view_is) c.requires.low in
    let t = look_told f.board.shared.table_id.slots s.layout s.token.me c.load-found.new.seat.me c.of_frame-word.result s.phase s.switches s.seen r c.args.worker c.load-found.result c.note.ensures.full low c.of_frame-word.ensures c.load-found.ensures.2 in
    (subst (λ (x : List Seen). IsMoverSeat s.layout c.load-found.new.seat.me s.phase s.switches x) (sym c.note.ensures.noted) t.0, c.self.invariant.1)
