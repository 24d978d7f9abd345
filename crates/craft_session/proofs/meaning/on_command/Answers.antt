use Rattle.std.proofs.Common.{ℕ, List, ◌∙◌, ap, subst, sym}
use Rattle.tl1_command.specs.declared.command.Command.{Command}
use Rattle.tl1_command.specs.Commands.{IsAptCommand, asked_by}
use Rattle.tl1_command.specs.Meanings.{cancels}
use Rattle.craft_session.specs.Meanings.{session_ask, session_wants}
use Rattle.craft_session.proofs.Reading.{read_session}
use Rattle.craft_session.proofs.meaning.on_command.Goals as goal

pub on_table-requires : goal.on_table-requires
on_table-requires c = (c.requires.within.0, subst (λ (k : Command). IsAptCommand c.requires.within.0 c.args.unit.now k) c.in-Table.is c.requires.within.1)

pub returns-in-ActUser : goal.returns-in-ActUser
returns-in-ActUser c = record {
  read = λ d op fit. record {
    wanted = sym (ap (λ (k : Command). session_wants c.args.user.now (asked_by c.args.unit.now k)) c.in-ActUser.is);
    asked = λ x. sym (ap (λ (k : Command). session_ask c.args.user.now x (asked_by c.args.unit.now k)) c.in-ActUser.is);
    apt = subst (λ (k : Command). IsAptCommand d c.args.unit.now k) c.in-ActUser.is fit;
  };
}

pub returns-in-CancUser : goal.returns-in-CancUser
returns-in-CancUser c = record {
  read = λ d op fit. read_session d c.args.user.now _ _ c.args.unit.now c.on_log_out.new.ask op (ap (λ (k : Command). session_wants c.args.user.now (asked_by c.args.unit.now k)) c.in-CancUser.is)
      (λ x. ap (λ (k : Command). session_ask c.args.user.now x (asked_by c.args.unit.now k)) c.in-CancUser.is ∙ sym (c.on_log_out.ensures.ask x ∙ ap (λ (t : List ℕ). session_ask c.args.user.now x (cancels t)) c.text.ensures)) (c.on_log_out.ensures.apt d);
}

pub returns-in-Header : goal.returns-in-Header
returns-in-Header c = record { read = λ d op fit. read_session d c.args.user.now _ _ c.args.unit.now _ op (ap (λ (k : Command). session_wants c.args.user.now (asked_by c.args.unit.now k)) c.in-Header.is) (λ x. ap (λ (k : Command). session_ask c.args.user.now x (asked_by c.args.unit.now k)) c.in-Header.is) tt }

pub returns-in-Allow : goal.returns-in-Allow
returns-in-Allow c = record { read = λ d op fit. read_session d c.args.user.now _ _ c.args.unit.now _ op (ap (λ (k : Command). session_wants c.args.user.now (asked_by c.args.unit.now k)) c.in-Allow.is) (λ x. ap (λ (k : Command). session_ask c.args.user.now x (asked_by c.args.unit.now k)) c.in-Allow.is) tt }

pub returns-in-Inhibit : goal.returns-in-Inhibit
returns-in-Inhibit c = record { read = λ d op fit. read_session d c.args.user.now _ _ c.args.unit.now _ op (ap (λ (k : Command). session_wants c.args.user.now (asked_by c.args.unit.now k)) c.in-Inhibit.is) (λ x. ap (λ (k : Command). session_ask c.args.user.now x (asked_by c.args.unit.now k)) c.in-Inhibit.is) tt }

pub returns-in-Show : goal.returns-in-Show
returns-in-Show c = record { read = λ d op fit. read_session d c.args.user.now _ _ c.args.unit.now _ op (ap (λ (k : Command). session_wants c.args.user.now (asked_by c.args.unit.now k)) c.in-Show.is) (λ x. ap (λ (k : Command). session_ask c.args.user.now x (asked_by c.args.unit.now k)) c.in-Show.is) tt }

pub returns-in-Table : goal.returns-in-Table
returns-in-Table c = record {
  read = λ d op fit. read_session d c.args.user.now _ _ c.args.unit.now c.on_table.new.ask op (ap (λ (k : Command). session_wants c.args.user.now (asked_by c.args.unit.now k)) c.in-Table.is)
      (λ x. ap (λ (k : Command). session_ask c.args.user.now x (asked_by c.args.unit.now k)) c.in-Table.is ∙ sym c.on_table.ensures.ask) (c.on_table.ensures.apt d (subst (λ (k : Command). IsAptCommand d c.args.unit.now k) c.in-Table.is fit));
}
