use Rattle.std.proofs.Common.{refl}
use Rattle.xc_journal.proofs.Bytes.{spelling_size}
use Rattle.xc_journal.proofs.Readback.{changes_same, choices_same, labels_fit}
use Rattle.xc_journal.proofs.laws.spellings.Goals as goal

pub returns-clause-one_value : goal.returns-clause-one_value
returns-clause-one_value args v w c d l m one other same = (changes_same c d l m one.fits other.fits same, choices_same c d l m one.number other.number same)

pub returns-clause-sealed : goal.returns-clause-sealed
returns-clause-sealed args v c l e = (spelling_size c l (labels_fit c e.fits), refl)
