use Rattle.std.proofs.Common.{refl}
use Rattle.fca_model.specs.declared.Event.TheVariants.{Row}
use Rattle.expert_gate.proofs.DeskLemmas.{alone_replied, alone_unheard}
use Rattle.expert_gate.proofs.solo.SoloDesk.row.Goals as goal

pub returns-in-Ok-clause-turn : goal.returns-in-Ok-clause-turn
returns-in-Ok-clause-turn c =
    alone_replied c.args.self.now.explore.now c.row-reply.new.self c.args.self.now.expert c.args.self.now.explore.ghost_name
    (Row c.args.self.now.expert c.args.name c.args.row)
    c.journal-journal.result.now c.journal-journal.ensures.entries c.journal-journal.ensures.legal c.journal-journal.ensures.wide
    c.in-Ok.reply c.in-Ok.ensures.ok refl

pub returns-in-Err-clause-turn : goal.returns-in-Err-clause-turn
returns-in-Err-clause-turn c =
    alone_unheard c.args.self.now.explore.now c.row-reply.new.self c.args.self.now.expert c.args.self.now.explore.ghost_name
    (Row c.args.self.now.expert c.args.name c.args.row)
    c.journal-journal.result.now c.journal-journal.ensures.entries c.journal-journal.ensures.legal c.journal-journal.ensures.wide
    c.in-Err.ensures.err
