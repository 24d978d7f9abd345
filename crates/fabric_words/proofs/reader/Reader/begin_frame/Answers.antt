use Rattle.std.proofs.Common.{◌∙◌, sym, ap, subst}
use Rattle.fabric_core.specs.Working.{CanBegin}
use Rattle.fabric_words.specs.Places.{frame_place}
use Rattle.fabric_words.specs.Seats.{WorkerAt, worker_in}
use Rattle.fabric_words.proofs.At.{ours, frame_low, begins_at}
use Rattle.fabric_words.proofs.reader.Reader.begin_frame.Goals as goal

pub fetch_add-requires : goal.fetch_add-requires
fetch_add-requires c = let s = c.self.inside in let f = c.fabric.inside in
    let rule = c.self.invariant.0 in
    let mine = ours s.token.table_id f.board.shared.table_id s.size f.size f.board.shared.key (ap (λ (v : WorkerAt). v.fabric) c.self.view_is ∙ (c.requires.own ∙ sym c.fabric.view_is)) c.fabric.invariant.0 c.fabric.invariant.1 in
    let at = c.of_frame-word.ensures ∙ ap (frame_place s.size.shape) c.self.invariant.1 in
    let can = subst (λ (v : WorkerAt). CanBegin v.worker) (sym c.self.view_is) c.requires.allowed in
    (mine.0, frame_low s.size (worker_in s.token.me.0).number _ _ rule.low at mine.2, begins_at _ _ _ _ s.size _ mine.1 at rule.role can)
