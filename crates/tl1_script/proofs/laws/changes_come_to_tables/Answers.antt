use Rattle.tl1_script.proofs.Coming.{changes_come}
use Rattle.tl1_script.proofs.laws.changes_come_to_tables.Goals as goal

pub returns : goal.returns
returns c = changes_come
