use Rattle.session_laws.proofs.Completing.{entry_completed, no_middle, opening_placed}
use Rattle.session_laws.proofs.entries_are_completed.Goals as goal

pub returns-clause-opened : goal.returns-clause-opened
returns-clause-opened c = opening_placed

pub returns-clause-completed : goal.returns-clause-completed
returns-clause-completed c = λ o h s b k r did free middles below replies. entry_completed o h s b k r did free replies middles below

pub returns-clause-denied : goal.returns-clause-denied
returns-clause-denied c = λ o h s b k r did free replies. no_middle o h s b k r did free replies
