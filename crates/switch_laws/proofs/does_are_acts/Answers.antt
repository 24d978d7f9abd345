use Rattle.craft_session.specs.Meanings.{language}
use Rattle.switch_laws.proofs.Beside.{cut_after, cut_before, gone_on}
use Rattle.switch_laws.proofs.Parting.{parts}
use Rattle.switch_laws.proofs.does_are_acts.Goals as goal

pub returns : goal.returns
returns c = record {
  served = λ s place t o past earlier h first ss begun. gone_on (language s) place t o past earlier (parts s) h first ss begun;
  cut = λ s place t o past earlier h first ss begun. cut_after (language s) place t o past earlier (parts s) h first ss begun;
  cut_before = λ s place t o past earlier h first ss begun. cut_before (language s) place t o past earlier (parts s) h first ss begun;
}
