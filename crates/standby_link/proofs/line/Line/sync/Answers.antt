use Rattle.std.proofs.Common.{ℕ, Option, take, sym, ◌∙◌, ap, subst}
use Rattle.std.proofs.Math.Nat.{mod-eq_of_lt}
use Rattle.dxc_outside.specs.declared.link.Lost.{Lost}
use Rattle.standby_link.specs.declared.ear.Ear.{Ear}
use Rattle.standby_link.specs.Acts.{sync}
use Rattle.standby_link.specs.Lines.{Syncs, line_at}
use Rattle.standby_link.specs.Messages.{spelled}
use Rattle.standby_link.proofs.LineSteps.{is_none_of, line, syncs_vain, syncs_whole}
use Rattle.standby_link.proofs.line.Line.sync.Goals as goal

pub returns-in-Some-clause-syncs : goal.returns-in-Some-clause-syncs
returns-in-Some-clause-syncs g c = λ here few.
    syncs_vain _ _ _ (g.K.Link.state c.wait.new.link) _ _ c.send.new.self.number _ _ _ _ _ _ c.send.new.self.lost c.wait.result c.lose.new.self.lost c.in-Some.why (ap (λ (e : Ear). take e.held e.inbox) c.send.ensures.ear) (c.send.ensures.number ∙ mod-eq_of_lt few)
    (c.spell_sync.ensures ∙ ap (λ (n : ℕ). spelled n sync) (mod-eq_of_lt few)) (sym c.if-is_some-2.ensures) c.send.ensures.sends c.in-Some.is c.wait.ensures.vain c.wait.ensures.end c.wait.ensures.few c.wait.ensures.no_fault c.wait.ensures.writes c.lose.ensures.link c.lose.ensures.number c.lose.ensures.lost

pub returns-in_default-clause-syncs : goal.returns-in_default-clause-syncs
returns-in_default-clause-syncs g c = λ here few.
    subst (λ (o : Option Lost). Syncs g.K.Link.told (line_at g.K.Link.state c.args.self.now) (line (g.K.Link.state c.wait.new.link) c.send.new.self.number (take c.wait.new.self.held c.wait.new.self.inbox) o))
    (c.in_default.is ∙ sym (is_none_of c.send.new.self.lost (sym c.if-is_some-2.ensures)))
    (syncs_whole _ _ _ _ _ _ _ _ _ _ _ c.send.new.self.lost c.wait.result (ap (λ (e : Ear). take e.held e.inbox) c.send.ensures.ear) (c.send.ensures.number ∙ mod-eq_of_lt few) (c.spell_sync.ensures ∙ ap (λ (n : ℕ). spelled n sync) (mod-eq_of_lt few)) (sym c.if-is_some-2.ensures) c.send.ensures.sends
    c.wait.ensures.came c.wait.ensures.vain c.wait.ensures.end c.wait.ensures.few c.wait.ensures.no_fault c.wait.ensures.writes)
