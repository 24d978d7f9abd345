use Rattle.dxc_element.proofs.Loading.{load_started}
use Rattle.dxc_element.proofs.load.load_element.Goals as goal

pub returns-clause-started : goal.returns-clause-started
returns-clause-started g c = load_started c.in-Ok.shelf _ _ c.new_element.result c.in-Ok.ensures c.new_element.ensures.started
