use Rattle.std.proofs.Common.{◌≡◌, ℕ, List, [], ◌∷◌, ◌++◌, ◌+◌, ◌-◌, ◌<◌, min, Option, length, take, drop, refl, sym, ◌∙◌, ap, subst, arith, rules, length-take}
use Rattle.std.proofs.lemmas.List.{take_all, take-append-le}
use Rattle.dxc_outside.specs.Links.{LinkState}
use Rattle.dxc_outside.specs.declared.link.Lost.{Lost}
use Rattle.standby_link.specs.Moves.{SendsFile}
use Rattle.dxc_disk.proofs.DiskSteps.{spends_more, spends_on}
use Rattle.dxc_disk.proofs.LookSteps.{looks_on}
use Rattle.standby_link.specs.Acts.{write, pieces}
use Rattle.standby_link.specs.Lines.{SentActs}
use Rattle.standby_link.proofs.ServeSteps.{on_ok}
use Rattle.standby_link.proofs.LineSteps.{Sending, is_none_of, sending_none, sending_more, sending_cut, sending_all, fewer, line}
use Rattle.standby_link.proofs.MoveSteps.{file_sent, file_unread}
use Rattle.standby_link.proofs.joins.send_file.Goals as goal

-- what was read is the file's next piece, and it is what is sent
next_piece : (into buffer content file : List ℕ) (count at : ℕ) → length into ≡ count → into ≡ take (length into) (drop at content) → content ≡ file → take count (into ++ drop count buffer) ≡ take (at + count - at) (drop at file)
next_piece into buffer content file count at size is same =
    let left : at + count - at ≡ count = omega arith in
    take-append-le count into (drop count buffer) (omega (arith, size))
    ∙ take_all count into (omega (arith, size))
    ∙ is
    ∙ ap (λ (n : ℕ). take n (drop at content)) (size ∙ sym left)
    ∙ ap (λ (l : List ℕ). take (at + count - at) (drop at l)) same

-- it was sent
next_sends : (told : Type 0) (k k' : LinkState) (n m at : ℕ) (lost : Option Lost) (xs ys : List ℕ) → xs ≡ ys → SentActs told k k' n m lost (write at xs ∷ []) → SentActs told k k' n m lost (write (0 + at) ys ∷ [])
next_sends told k k' n m at lost xs ys same sends =
    let place : at ≡ 0 + at = omega arith in
    subst (λ (p : ℕ). SentActs told k k' n m lost (write p ys ∷ [])) place (subst (λ (l : List ℕ). SentActs told k k' n m lost (write at l ∷ [])) same sends)

pub loop-at-init : goal.loop-at-init
loop-at-init g c = record {
  here = c.requires.here;
  ear = refl;
  hung_up = refl;
  within = omega arith;
  size = λ t. c.in-Ok.ensures.value t;
  looks = λ t. c.in-Ok.ensures.looks t;
  faults = c.in-Ok.ensures.cause.later;
  room = spends_more 1 (1 + 0) _ _ (omega arith) c.in-Ok.ensures.room;
  sending = λ t small. subst (λ (n : ℕ). Sending g.K.Link.told (g.K.Link.state c.args.line.now.link) (g.K.Link.state c.args.line.now.link) 0 n 0 0 (g.D.Disk.state c.args.disk.now).reads_as) (sym c.requires.first) (sending_none _ _ _ _ _);
}

pub loop-at-preserved : goal.loop-at-preserved
loop-at-preserved g c =
    let here = is_none_of c.send_write.new.self.lost (sym c.if-is_some.ensures) in
    record {
      here = here;
      ear = c.send_write.ensures.ear ∙ c.loop-at.invariant.ear;
      hung_up = c.send_write.ensures.hung_up.same here ∙ c.loop-at.invariant.hung_up;
      within = omega arith;
      size = c.loop-at.invariant.size;
      looks = λ t. looks_on _ _ _ (g.met.D.Disk.is_disk _ t) (c.loop-at.invariant.looks t) (c.read.ensures.looks t);
      faults = omega (arith, c.loop-at.invariant.faults, c.read.ensures.cause.later);
      room = spends_more ((1 + c.loop-at.at) + 1) (1 + (c.loop-at.at + c.min-count.result)) _ _ (omega (arith, c.min-count.ensures, c.loop-at-test.true))
          (spends_on (1 + c.loop-at.at) 1 _ _ _ c.loop-at.invariant.room c.read.ensures.room);
      sending = λ t small.
          let file = (g.D.Disk.state c.args.disk.now).reads_as in
          let sending = c.loop-at.invariant.sending t small in
          let size : c.in-Ok.length ≡ length file = c.loop-at.invariant.size t in
          let less : c.loop-at.at < length file = omega (arith, size, c.loop-at-test.true) in
          let end : c.loop-at.at + c.min-count.result ≡ min (length file) (c.loop-at.at + 4096) = omega (arith, size, c.min-count.ensures, c.loop-at-test.true) in
          let few = fewer _ _ _ (g.K.Link.state c.send_write.new.self.link) _ _ c.send_write.new.self.number _ _ (c.loop-at.at + c.min-count.result) _ sending less end in
          let piece = next_piece c.read.new.into c.loop-at.piece (g.D.Disk.state c.loop-at.disk).reads_as file c.min-count.result c.loop-at.at (omega (arith, length-take c.min-count.result c.loop-at.piece, c.min-count.ensures)) (on_ok _ c.read.result (sym c.if-is_err.ensures.value) (c.read.ensures.bytes t)) (c.loop-at.invariant.looks t).same in
          let sends = next_sends _ _ _ _ _ _ _ _ _ piece (c.send_write.ensures.sends (omega (arith, few, small.0))) in
          sending_more _ _ _ _ _ _ _ _ _ _ _ sending less end
          (subst (λ l. SentActs g.K.Link.told (g.K.Link.state c.loop-at.line.link) (g.K.Link.state c.send_write.new.self.link) c.loop-at.line.number c.send_write.new.self.number l (write (0 + c.loop-at.at) (take (c.loop-at.at + c.min-count.result - c.loop-at.at) (drop c.loop-at.at file)) ∷ [])) here sends);
    }

pub returns-clause-sends : goal.returns-clause-sends
returns-clause-sends g c = λ t small.
    file_sent _ _ _ _ _ (subst (λ l. SentActs g.K.Link.told (g.K.Link.state c.args.line.now.link) (g.K.Link.state c.loop-at.line.link) 0 c.loop-at.line.number l (pieces 0 (g.D.Disk.state c.args.disk.now).reads_as)) (sym c.loop-at.invariant.here)
    (sending_all _ _ _ _ _ _ _ _ (c.loop-at.invariant.sending t small) (omega (arith, c.loop-at-test.false, c.loop-at.invariant.size t))))

pub returns-clause-room : goal.returns-clause-room
returns-clause-room g c = λ t. spends_more (1 + c.loop-at.at) (1 + length (g.D.Disk.state c.args.disk.now).reads_as) _ _ (omega (arith, c.loop-at.invariant.within, c.loop-at.invariant.size t)) c.loop-at.invariant.room

pub returns-then-is_err-clause-room : goal.returns-then-is_err-clause-room
returns-then-is_err-clause-room g c = λ t. spends_more ((1 + c.loop-at.at) + 1) (1 + length (g.D.Disk.state c.args.disk.now).reads_as) _ _ (omega (arith, c.loop-at-test.true, c.loop-at.invariant.size t))
    (spends_on (1 + c.loop-at.at) 1 _ _ _ c.loop-at.invariant.room c.read.ensures.room)

pub returns-then-is_some-clause-room : goal.returns-then-is_some-clause-room
returns-then-is_some-clause-room g c = λ t. spends_more (((1 + c.loop-at.at) + 1) + (c.in-Ok.length - (c.loop-at.at + c.min-count.result))) (1 + length (g.D.Disk.state c.args.disk.now).reads_as) _ _ (omega (arith, c.loop-at-test.true, c.min-count.ensures, c.loop-at.invariant.size t))
    (spends_on ((1 + c.loop-at.at) + 1) (c.in-Ok.length - (c.loop-at.at + c.min-count.result)) _ _ _ (spends_on (1 + c.loop-at.at) 1 _ _ _ c.loop-at.invariant.room c.read.ensures.room) c.read_on.ensures.room)

pub returns-then-is_some-clause-looks : goal.returns-then-is_some-clause-looks
returns-then-is_some-clause-looks g c = λ t. looks_on _ _ _ (g.met.D.Disk.is_disk _ t) (looks_on _ _ _ (g.met.D.Disk.is_disk _ t) (c.loop-at.invariant.looks t) (c.read.ensures.looks t)) (c.read_on.ensures.looks t)

pub read_on-requires-clause-size : goal.read_on-requires-clause-size
read_on-requires-clause-size g c = λ t. c.loop-at.invariant.size t ∙ sym (ap (λ (l : List ℕ). length l) ((c.read.ensures.looks t).same ∙ (c.loop-at.invariant.looks t).same))

pub returns-then-is_err-clause-looks : goal.returns-then-is_err-clause-looks
returns-then-is_err-clause-looks g c = λ t. looks_on _ _ _ (g.met.D.Disk.is_disk _ t) (c.loop-at.invariant.looks t) (c.read.ensures.looks t)

pub returns-then-is_err-clause-sends : goal.returns-then-is_err-clause-sends
returns-then-is_err-clause-sends g c = λ t small.
    let link = c.end-then-is_err.ensures.link in
    subst (λ (k : LinkState). SendsFile g.K.Link.told (g.D.Disk.state c.args.disk.now) (g.D.Disk.state c.read.new.self) (g.K.Link.state c.args.line.now.link) (line k c.end-then-is_err.new.self.number (take c.end-then-is_err.new.self.ear.held c.end-then-is_err.new.self.ear.inbox) c.end-then-is_err.new.self.lost)) (sym link)
    (file_unread _ _ _ _ _ _ _ (c.loop-at.invariant.sending t small) (c.end-then-is_err.ensures.lost c.loop-at.invariant.here)
    (let rose = c.read.ensures.cause.cause (sym c.if-is_err.ensures.value) in omega (arith, rose, c.loop-at.invariant.faults)))

pub returns-then-is_some-clause-sends : goal.returns-then-is_some-clause-sends
returns-then-is_some-clause-sends g c = λ t small.
    let file = (g.D.Disk.state c.args.disk.now).reads_as in
    let sending = c.loop-at.invariant.sending t small in
    let size : c.in-Ok.length ≡ length file = c.loop-at.invariant.size t in
    let less : c.loop-at.at < length file = omega (arith, size, c.loop-at-test.true) in
    let end : c.loop-at.at + c.min-count.result ≡ min (length file) (c.loop-at.at + 4096) = omega (arith, size, c.min-count.ensures, c.loop-at-test.true) in
    let few = fewer _ _ _ (g.K.Link.state c.send_write.new.self.link) _ _ c.send_write.new.self.number _ _ (c.loop-at.at + c.min-count.result) _ sending less end in
    let piece = next_piece c.read.new.into c.loop-at.piece (g.D.Disk.state c.loop-at.disk).reads_as file c.min-count.result c.loop-at.at (omega (arith, length-take c.min-count.result c.loop-at.piece, c.min-count.ensures)) (on_ok _ c.read.result (sym c.if-is_err.ensures.value) (c.read.ensures.bytes t)) (c.loop-at.invariant.looks t).same in
    let sends = next_sends _ _ _ _ _ _ _ _ _ piece (c.send_write.ensures.sends (omega (arith, few, small.0))) in
    file_sent _ _ _ _ _ (sending_cut _ _ _ _ _ _ _ _ _ (c.loop-at.at + c.min-count.result) _ sending less end _ (search rules) sends)

-- nothing was sent
pub returns-in_default-clause-sends : goal.returns-in_default-clause-sends
returns-in_default-clause-sends g c = λ t small.
    subst (λ (k : LinkState). SendsFile g.K.Link.told (g.D.Disk.state c.args.disk.now) (g.D.Disk.state c.length.new.self) (g.K.Link.state c.args.line.now.link) (line k c.end.new.self.number (take c.end.new.self.ear.held c.end.new.self.ear.inbox) c.end.new.self.lost)) (sym c.end.ensures.link)
    (file_unread _ _ _ _ _ 0 0 (sending_none _ _ 0 0 _) (c.end.ensures.lost c.requires.here) (c.length.ensures.cause.cause (search rules)))
