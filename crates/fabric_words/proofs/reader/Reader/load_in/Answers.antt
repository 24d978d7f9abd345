use Rattle.std.proofs.Common.{◌∙◌, sym, ap, subst, refl}
use Rattle.fabric_words.specs.Seats.{WorkerAt, IsInPlace, worker_in}
use Rattle.fabric_words.proofs.At.{ours, in_hold_low, loads_in_at}
use Rattle.fabric_words.proofs.reader.Reader.load_in.Goals as goal

pub load-requires : goal.load-requires
load-requires c = let s = c.self.inside in let f = c.fabric.inside in
    let rule = c.self.invariant.0 in
    let mine = ours s.token.table_id f.board.shared.table_id s.size f.size f.board.shared.key (ap (λ (v : WorkerAt). v.fabric) c.self.view_is ∙ (c.requires.own ∙ sym c.fabric.view_is)) c.fabric.invariant.0 c.fabric.invariant.1 in
    let at = subst (λ (v : WorkerAt). IsInPlace v.fabric.size.shape v.worker.hold c.args.place) (sym c.self.view_is) c.requires.place in
    (mine.0, in_hold_low s.size (worker_in s.token.me.0).hold _ _ rule.inside at mine.2, loads_in_at _ _ _ _ s.size _ mine.1 (worker_in s.token.me.0).hold refl at rule.role)
