use Rattle.std.specs.Prelude.{IfOk, IfSome, MatchResult}
use Rattle.std.specs.Option.{is_some}
use Rattle.std.proofs.Common.{◌≡◌, List, Option, Result, Ok, Err, map, ap, ap₂, sym, subst, ◌∙◌, ℕ}
use Rattle.dxc_num.specs.Dimensions.{Dimensions}
use Rattle.dxc_model.specs.declared.cause.Cause.{Cause}
use Rattle.tl1_text.specs.Grammar.{Block}
use Rattle.tl1_text.specs.Spans.{block_at}
use Rattle.tl1_command.specs.declared.frequent.Frequent.{Frequent}
use Rattle.tl1_command.specs.Commands.{asked_often, IsAptOften}
use Rattle.tl1_command.specs.Meanings.{meaning}
use Rattle.tl1_command.proofs.TagFacts.{tagged_is}
use Rattle.dxc_model.specs.declared.cause.Cause.TheVariants.{BadText}
use Rattle.craft_session.specs.declared.ask.Ask.TheVariants.{Refused}
use Rattle.craft_session.specs.Asks.{IsAptAsk}
use Rattle.craft_session.specs.Meanings.{command_ask, command_wants, text_ask, text_wants}
use Rattle.craft_session.specs.Readings.{IsReadAs, read_as}
use Rattle.craft_session.proofs.Asking.{refused_ask, refused_wants}
use Rattle.craft_session.proofs.Reading.{read_session}
use Rattle.craft_session.proofs.meaning.read.Goals as goal

pub returns-in_default : goal.returns-in_default
returns-in_default c =
    let s = c.args.shelf.now in
    let user = c.args.user.now in
    record {
      tag = c.ctag_of.ensures;
      read = read_session s.shape user _ _ c.args.unit.now (Refused BadText) c.args.asked.now.op (ap (λ (o : Option (List Block)). text_wants s user o) c.in_default.ensures) (λ x. ap (λ (o : Option (List Block)). text_ask s user x o) c.in_default.ensures) tt;
    }

pub frequent_of-requires-clause-tagged : goal.frequent_of-requires-clause-tagged
frequent_of-requires-clause-tagged c = c.is_some-tagged.ensures ∙ (ap (λ (t : Option (List ℕ)). is_some t) c.ctag_in.ensures ∙ tagged_is c.args.unit.now c.in-Ok.found.block.items c.in-Ok.ensures)

pub read_in-requires-clause-tagged : goal.read_in-requires-clause-tagged
read_in-requires-clause-tagged c = c.is_some-tagged.ensures ∙ ap (λ (t : Option (List ℕ)). is_some t) c.ctag_in.ensures

pub returns-in-Ok-frequent_of : goal.returns-in-Ok-frequent_of
returns-in-Ok-frequent_of c =
    let s = c.args.shelf.now in
    let user = c.args.user.now in
    let bs = map (block_at c.args.unit.now) c.in-Ok.found.block.items in
    let meant : meaning c.shape.result c.sid.result.now user bs ≡ Ok (asked_often c.in-Ok-frequent_of.often) = subst (λ (r : Result Frequent (Option Cause)). MatchResult r (λ f. meaning c.shape.result c.sid.result.now user bs ≡ Ok (asked_often f)) (λ w. IfSome w (λ q. meaning c.shape.result c.sid.result.now user bs ≡ Err q))) c.in-Ok-frequent_of.is c.frequent_of.ensures.meaning in
    let is : meaning s.shape s.sid user bs ≡ Ok (asked_often c.in-Ok-frequent_of.often) = sym (ap₂ (λ (d : Dimensions) (sid : List ℕ). meaning d sid user bs) c.shape.ensures c.sid.ensures) ∙ meant in
    let fit = subst (λ (r : Result Frequent (Option Cause)). IfOk r (IsAptOften c.shape.result)) c.in-Ok-frequent_of.is c.frequent_of.ensures.apt in
    let often = c.on_frequent.ensures in
    record {
      tag = c.ctag_in.ensures;
      read = read_session s.shape user _ _ c.args.unit.now c.on_frequent.new.ask c.args.asked.now.op
          (ap (λ (o : Option (List Block)). text_wants s user o) c.in-Ok.ensures.reading ∙ (ap (command_wants s user bs) is ∙ often.unasked user))
          (λ x. ap (λ (o : Option (List Block)). text_ask s user x o) c.in-Ok.ensures.reading ∙ (ap (command_ask s user x bs) is ∙ often.asked user x))
          (subst (λ (d : Dimensions). IsAptAsk d c.on_frequent.new.ask) c.shape.ensures (often.apt c.shape.result fit));
    }

pub returns-in_default-cause : goal.returns-in_default-cause
returns-in_default-cause c =
    let s = c.args.shelf.now in
    let user = c.args.user.now in
    let bs = map (block_at c.args.unit.now) c.in-Ok.found.block.items in
    let not = c.in_default-cause.not-UnknownCommand in
    let meant : meaning c.shape.result c.sid.result.now user bs ≡ Err c.in-Err-Some.cause = subst (λ (r : Result Frequent (Option Cause)). MatchResult r (λ f. meaning c.shape.result c.sid.result.now user bs ≡ Ok (asked_often f)) (λ w. IfSome w (λ q. meaning c.shape.result c.sid.result.now user bs ≡ Err q))) (c.in-Err-Some.is ∙ ap Err c.in-Err-Some.field-0-is) c.frequent_of.ensures.meaning in
    let is : meaning s.shape s.sid user bs ≡ Err c.in-Err-Some.cause = sym (ap₂ (λ (d : Dimensions) (sid : List ℕ). meaning d sid user bs) c.shape.ensures c.sid.ensures) ∙ meant in
    record {
      tag = c.ctag_in.ensures;
      read = read_session s.shape user _ _ c.args.unit.now (Refused c.in-Err-Some.cause) c.args.asked.now.op
          (ap (λ (o : Option (List Block)). text_wants s user o) c.in-Ok.ensures.reading ∙ (ap (command_wants s user bs) is ∙ refused_wants s user bs c.in-Err-Some.cause not))
          (λ x. ap (λ (o : Option (List Block)). text_ask s user x o) c.in-Ok.ensures.reading ∙ (ap (command_ask s user x bs) is ∙ refused_ask s user x bs c.in-Err-Some.cause not))
          tt;
    }

pub returns : goal.returns
returns c =
    let s = c.args.shelf.now in
    let user = c.args.user.now in
    record {
      tag = c.ctag_in.ensures;
      read = subst (λ (o : Option (List Block)). IsReadAs s.shape user (text_wants s user o) (λ x. text_ask s user x o) (read_as c.args.unit.now c.read_in.result c.read_in.new.ask c.read_in.new.asked.op)) (sym c.in-Ok.ensures.reading) c.read_in.ensures.read;
    }
