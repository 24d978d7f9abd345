use Rattle.std.proofs.Common.{inl, inr, refl, rules}
use Rattle.craft_server.proofs.run.dxc_run.Goals as goal

pub returns-in-Ok-clause-run : goal.returns-in-Ok-clause-run
returns-in-Ok-clause-run g c = inr (c.in-Ok.line, c.in-Ok.ensures.line, c.run_line.ensures.run)

pub returns-in-Ok-clause-words : goal.returns-in-Ok-clause-words
returns-in-Ok-clause-words g c = λ bad l is. c.run_line.ensures.words bad

pub returns-in-Ok-clause-asked : goal.returns-in-Ok-clause-asked
returns-in-Ok-clause-asked g c = inr (c.in-Ok.line, c.in-Ok.ensures.line, c.run_line.ensures.asked)

pub returns-in-Err-BadWords-clause-asked : goal.returns-in-Err-BadWords-clause-asked
returns-in-Err-BadWords-clause-asked g c = inl (g.O.Opener.unasked c.args.opener.now, inl (refl, c.in-Err-BadWords.ensures.no_line (search rules)))

pub returns-in-Err-NoMemory-clause-asked : goal.returns-in-Err-NoMemory-clause-asked
returns-in-Err-NoMemory-clause-asked g c = inl (g.O.Opener.unasked c.args.opener.now, inr refl)
