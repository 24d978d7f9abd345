use Rattle.roll_plan.specs.declared.op.Chain.TheVariants.{Direct}
use Rattle.paull_matrix.specs.declared.side.Side.TheVariants.{Row, Column}
use Rattle.paull_chain.specs.Choices.{choice_on}
use Rattle.paull_chain.proofs.Planned.{expanded_valid}
use Rattle.paull_chain.proofs.choices.expand.Goals as goal

pub returns-in-Direct-clause-valid : goal.returns-in-Direct-clause-valid
returns-in-Direct-clause-valid c = expanded_valid c.args.matrix.now c.args.leg (record { middle = c.args.choice.middle; chain = Direct }) c.expand_direct.result c.requires c.expand_direct.ensures

pub returns-in-Row-clause-valid : goal.returns-in-Row-clause-valid
returns-in-Row-clause-valid c = expanded_valid c.args.matrix.now c.args.leg (choice_on Row c.in-Row.a c.args.choice.middle) c.expand_chain.result c.requires c.expand_chain.ensures

pub returns-in-Column-clause-valid : goal.returns-in-Column-clause-valid
returns-in-Column-clause-valid c = expanded_valid c.args.matrix.now c.args.leg (choice_on Column c.args.choice.middle c.in-Column.b) c.expand_chain-in-Column.result c.requires c.expand_chain-in-Column.ensures
