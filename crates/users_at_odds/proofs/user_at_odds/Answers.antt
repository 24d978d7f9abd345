use Rattle.std.proofs.Common.{◌∙◌, [], ap, sym, true≢false}
use Rattle.dxc_args.specs.declared.status.JournalBad.{JournalBad}
use Rattle.dxc_args.specs.declared.status.JournalBad.TheVariants.{UsersRecord}
use Rattle.dxc_args.specs.declared.status.Status.TheVariants.{BadJournal}
use Rattle.dxc_outside.proofs.Asking.{asked_part}
use Rattle.users_at_odds.specs.Odds.{done, held, odds_asked}
use Rattle.users_at_odds.proofs.Naming.{at_odds, bad_same, not_at_odds, too_few}
use Rattle.users_at_odds.proofs.user_at_odds.Goals as goal

pub returns-clause-named : goal.returns-clause-named
returns-clause-named g c =
    at_odds (held g.O.Opener.told g.O.Journal.Disk.told g.O.Journal.Disk.state (g.O.Opener.state c.args.opener.now) (g.O.Opener.journal_at c.args.opener.now)) c.args.words.now c.args.status c.in-UsersRecord.number c.text.result.now c.text-2.result.now c.shelf-item.result c.journal-item.result c.user_in.result
    (c.in-BadJournal.is ∙ ap (λ (j : JournalBad). BadJournal j) c.in-UsersRecord.is) c.in-len3-up.len_at_least (sym (c.text.ensures ∙ c.shelf-item.is)) (sym (c.text-2.ensures ∙ c.journal-item.is)) c.user_in.ensures.named

pub returns-in_default : goal.returns-in_default
returns-in_default g c =
    let none = g.O.Opener.unasked c.args.opener.now in
    record { named = tt; unnamed = λ number mode shelf journal rest refused words. absurd (c.in_default.not-BadJournal _ refused); asked = asked_part (g.O.Opener.asked c.args.opener.now c.args.opener.now) _ [] (odds_asked c.args.words.now) none (λ ok. true≢false (sym ok)); unasked = λ other. none }

pub returns-in_default-bad : goal.returns-in_default-bad
returns-in_default-bad g c =
    let none = g.O.Opener.unasked c.args.opener.now in
    record { named = tt; unnamed = λ number mode shelf journal rest refused words. absurd (c.in_default-bad.not-UsersRecord number (bad_same _ (UsersRecord number) (sym c.in-BadJournal.is ∙ refused))); asked = asked_part (g.O.Opener.asked c.args.opener.now c.args.opener.now) _ [] (odds_asked c.args.words.now) none (λ ok. true≢false (sym ok)); unasked = λ other. none }

pub returns-in_default-words-clause-unnamed : goal.returns-in_default-words-clause-unnamed
returns-in_default-words-clause-unnamed g c = λ number mode shelf journal rest refused words. absurd (too_few c.args.words.now mode shelf journal rest c.in_default-words.len_below words)

pub returns-clause-unnamed : goal.returns-clause-unnamed
returns-clause-unnamed g c =
    not_at_odds (held g.O.Opener.told g.O.Journal.Disk.told g.O.Journal.Disk.state (g.O.Opener.state c.args.opener.now) (g.O.Opener.journal_at c.args.opener.now))
    (done (g.O.Opener.asked c.args.opener.now c.user_in.new.opener) (g.O.Opener.journal_at c.user_in.new.opener)) c.args.words.now c.args.status c.in-UsersRecord.number c.text.result.now c.text-2.result.now c.shelf-item.result c.journal-item.result c.user_in.result
    (c.in-BadJournal.is ∙ ap (λ (j : JournalBad). BadJournal j) c.in-UsersRecord.is) (sym (c.text.ensures ∙ c.shelf-item.is)) (sym (c.text-2.ensures ∙ c.journal-item.is)) c.user_in.ensures.unnamed
