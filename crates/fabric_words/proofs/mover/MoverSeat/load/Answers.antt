use Rattle.std.proofs.Common.{◌≡◌, ◌∙◌, sym, ap, subst}
use Rattle.fabric_words.specs.Places.{IsRegInside, reg_word}
use Rattle.fabric_words.specs.Seats.{MoverAt, mover_in, dealt_in}
use Rattle.fabric_words.proofs.At.{ours, reg_low, reads_at}
use Rattle.fabric_words.proofs.mover.MoverSeat.load.Goals as goal

pub load-requires : goal.load-requires
load-requires c = let s = c.self.inside in let f = c.fabric.inside in let r = c.self.invariant.0 in
    let mine = ours s.token.table_id f.board.shared.table_id s.layout f.size f.board.shared.key (ap (λ (v : MoverAt). v.fabric) c.self.view_is ∙ (c.requires.own ∙ sym c.fabric.view_is)) c.fabric.invariant.0 c.fabric.invariant.1 in
    let inside = subst (λ (v : MoverAt). IsRegInside v.fabric.size.shape c.args.reg) (sym c.self.view_is) c.requires.inside in
    (mine.0, reg_low s.layout c.args.reg _ _ inside c.of_reg-word.ensures mine.2, reads_at _ _ _ _ s.layout _ mine.1 r.role)

pub returns-clause-word : goal.returns-clause-word
returns-clause-word c = let s = c.self.inside in let f = c.fabric.inside in let r = c.self.invariant.0 in
    let inside = subst (λ (v : MoverAt). IsRegInside v.fabric.size.shape c.args.reg) (sym c.self.view_is) c.requires.inside in
    subst (λ (v : MoverAt). c.load.result ≡ reg_word v.fabric.size.shape v.mover.registers c.args.reg) c.self.view_is (c.load.ensures.2.1 s.layout (dealt_in s.token.me.0) (mover_in s.token.me.0) (ap (λ m. m.0) r.role) c.args.reg c.of_reg-word.ensures inside)
