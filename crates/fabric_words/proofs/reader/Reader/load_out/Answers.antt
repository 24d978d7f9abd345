use Rattle.std.proofs.Common.{◌≡◌, ◌∙◌, sym, ap, subst}
use Rattle.fabric_core.specs.Working.{CanLoadOut}
use Rattle.fabric_words.specs.Places.{out_place}
use Rattle.fabric_words.specs.Seats.{WorkerAt}
use Rattle.fabric_words.proofs.At.{ours, out_low, loads_out_at}
use Rattle.fabric_words.proofs.Told.{reads_out}
use Rattle.fabric_words.proofs.reader.Reader.load_out.Goals as goal

pub load-requires : goal.load-requires
load-requires c = let s = c.self.inside in let f = c.fabric.inside in
    let rule = c.self.invariant.0 in
    let mine = ours s.token.table_id f.board.shared.table_id s.size f.size f.board.shared.key (ap (λ (v : WorkerAt). v.fabric) c.self.view_is ∙ (c.requires.own ∙ sym c.fabric.view_is)) c.fabric.invariant.0 c.fabric.invariant.1 in
    let can = subst (λ (v : WorkerAt). CanLoadOut v.fabric.size c.args.output v.worker × (c.args.place ≡ out_place v.fabric.size.shape c.args.output)) (sym c.self.view_is) (c.requires.allowed, c.requires.place) in
    (mine.0, out_low s.size c.args.output _ _ can.0.1 can.1 mine.2, loads_out_at _ _ _ _ s.size _ mine.1 c.args.output can.1 rule.role can.0)

pub invariant_of-self : goal.invariant_of-self
invariant_of-self c = let s = c.self.inside in
    let can = subst (λ (v : WorkerAt). CanLoadOut v.fabric.size c.args.output v.worker × (c.args.place ≡ out_place v.fabric.size.shape c.args.output)) (sym c.self.view_is) (c.requires.allowed, c.requires.place) in
    let after = reads_out c.fabric.inside.board.shared.table_id.slots s.size s.token.me c.load.new.seat.me c.args.place c.load.result c.args.output c.self.invariant.0 can.0.1 can.1 c.load.ensures.2 in
    (after.0, c.self.invariant.1 ∙ after.1)
