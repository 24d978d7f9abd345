use Rattle.shelf_file.proofs.FirstFaults.{read_fault}
use Rattle.shelf_file.proofs.document.read.Goals as goal

pub returns-in-Err : goal.returns-in-Err
returns-in-Err c = read_fault c.args.bytes.now c.fault_of.result _ c.requires c.fault_of.ensures c.in-Err.ensures.refused
