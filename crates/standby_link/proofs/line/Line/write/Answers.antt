use Rattle.std.proofs.Common.{◌≡◌, ℕ, [], ◌∷◌, ◌+◌, ◌-◌, ◌%◌, ◌^◌, None, take, drop, refl, sym, ◌∙◌, subst, arith, rules}
use Rattle.std.proofs.Math.Nat.{mod-eq_of_lt}
use Rattle.standby_link.specs.Acts.{write, pieces}
use Rattle.standby_link.specs.Lines.{SentActs}
use Rattle.standby_link.proofs.LineSteps.{is_none_of, sending_none, sending_more, sending_cut, sending_all, fewer}
use Rattle.standby_link.proofs.line.Line.write.Goals as goal

pub loop-sent-init : goal.loop-sent-init
loop-sent-init g c = record {
  here = is_none_of _ (sym c.if-is_some.ensures);
  ear = refl;
  hung_up = refl;
  within = omega arith;
  sending = λ few fits. sending_none _ _ _ _ _;
}

pub loop-sent-preserved : goal.loop-sent-preserved
loop-sent-preserved g c =
    let here = is_none_of c.send_write.new.self.lost (sym c.if-is_some-2.ensures) in
    record {
      here = here;
      ear = c.send_write.ensures.ear ∙ c.loop-sent.invariant.ear;
      hung_up = c.send_write.ensures.hung_up.same here ∙ c.loop-sent.invariant.hung_up;
      within = omega arith;
      sending = λ few fits.
          let sending = c.loop-sent.invariant.sending few fits in
          let less = fewer _ _ _ (g.K.Link.state c.send_write.new.self.link) _ _ c.send_write.new.self.number _ _ c.min-end.result _ sending c.loop-sent-test.true c.min-end.ensures in
          let place : (c.args.place + c.loop-sent.sent) % 2 ^ 64 ≡ c.args.place + c.loop-sent.sent = mod-eq_of_lt (omega arith) in
          let sends = c.send_write.ensures.sends (omega (arith, less, few)) in
          sending_more _ _ _ _ _ _ _ _ _ _ _ sending c.loop-sent-test.true c.min-end.ensures
          (subst (λ (p : ℕ). SentActs g.K.Link.told (g.K.Link.state c.loop-sent.self.link) (g.K.Link.state c.send_write.new.self.link) c.loop-sent.self.number c.send_write.new.self.number None (write p (take (c.min-end.result - c.loop-sent.sent) (drop c.loop-sent.sent c.args.from.now)) ∷ [])) place
          (subst (λ l. SentActs g.K.Link.told (g.K.Link.state c.loop-sent.self.link) (g.K.Link.state c.send_write.new.self.link) c.loop-sent.self.number c.send_write.new.self.number l (write ((c.args.place + c.loop-sent.sent) % 2 ^ 64) (take (c.min-end.result - c.loop-sent.sent) (drop c.loop-sent.sent c.args.from.now)) ∷ [])) here sends));
    }

pub returns-clause-sends : goal.returns-clause-sends
returns-clause-sends g c = λ here few fits.
    subst (λ l. SentActs g.K.Link.told (g.K.Link.state c.args.self.now.link) (g.K.Link.state c.loop-sent.self.link) c.args.self.now.number c.loop-sent.self.number l (pieces c.args.place c.args.from.now)) (sym c.loop-sent.invariant.here)
    (sending_all _ _ _ _ _ _ _ _ (c.loop-sent.invariant.sending few fits) c.loop-sent-test.false)

pub returns-then-is_some-2-clause-sends : goal.returns-then-is_some-2-clause-sends
returns-then-is_some-2-clause-sends g c = λ here few fits.
    let sending = c.loop-sent.invariant.sending few fits in
    let less = fewer _ _ _ (g.K.Link.state c.send_write.new.self.link) _ _ c.send_write.new.self.number _ _ c.min-end.result _ sending c.loop-sent-test.true c.min-end.ensures in
    let place : (c.args.place + c.loop-sent.sent) % 2 ^ 64 ≡ c.args.place + c.loop-sent.sent = mod-eq_of_lt (omega arith) in
    sending_cut _ _ _ _ _ _ _ _ _ c.min-end.result _ sending c.loop-sent-test.true c.min-end.ensures _ (search rules)
    (subst (λ (p : ℕ). SentActs g.K.Link.told (g.K.Link.state c.loop-sent.self.link) (g.K.Link.state c.send_write.new.self.link) c.loop-sent.self.number c.send_write.new.self.number c.send_write.new.self.lost (write p (take (c.min-end.result - c.loop-sent.sent) (drop c.loop-sent.sent c.args.from.now)) ∷ [])) place
    (c.send_write.ensures.sends (omega (arith, less, few))))
