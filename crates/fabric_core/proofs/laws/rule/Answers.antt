use Rattle.fabric_core.proofs.Parted.{always_legs, always_phase, always_apart, always_holds, always_noted, always_carried}
use Rattle.fabric_core.proofs.laws.rule.Goals as goal

pub returns-clause-legs : goal.returns-clause-legs
returns-clause-legs c = always_legs

pub returns-clause-phase : goal.returns-clause-phase
returns-clause-phase c = always_phase

pub returns-clause-apart : goal.returns-clause-apart
returns-clause-apart c = always_apart

pub returns-clause-holds : goal.returns-clause-holds
returns-clause-holds c = always_holds

pub returns-clause-noted : goal.returns-clause-noted
returns-clause-noted c = always_noted

pub returns-clause-carried : goal.returns-clause-carried
returns-clause-carried c = always_carried
