use Rattle.std.proofs.Common.{◌∙◌}
use Rattle.tl1_command.proofs.TagFacts.{tagged_is}
use Rattle.tl1_command.proofs.decide.command_with.Goals as goal

pub admitted-requires-clause-tagged : goal.admitted-requires-clause-tagged
admitted-requires-clause-tagged c = c.requires.tagged ∙ tagged_is c.args.unit.now c.args.blocks.now.block.items c.requires.blocks

pub admitted-requires-in-EntCrsT0-clause-tagged : goal.admitted-requires-in-EntCrsT0-clause-tagged
admitted-requires-in-EntCrsT0-clause-tagged c = c.requires.tagged ∙ tagged_is c.args.unit.now c.args.blocks.now.block.items c.requires.blocks

pub admitted-requires-in-DltCrsT0-clause-tagged : goal.admitted-requires-in-DltCrsT0-clause-tagged
admitted-requires-in-DltCrsT0-clause-tagged c = c.requires.tagged ∙ tagged_is c.args.unit.now c.args.blocks.now.block.items c.requires.blocks

pub admitted-requires-in-RtrvCrsT0-clause-tagged : goal.admitted-requires-in-RtrvCrsT0-clause-tagged
admitted-requires-in-RtrvCrsT0-clause-tagged c = c.requires.tagged ∙ tagged_is c.args.unit.now c.args.blocks.now.block.items c.requires.blocks

pub other_command-requires : goal.other_command-requires
other_command-requires c = record { short = c.requires.short; blocks = c.requires.blocks; tagged = c.requires.tagged ∙ tagged_is c.args.unit.now c.args.blocks.now.block.items c.requires.blocks; code = c.in_ok-code.ensures.code }
