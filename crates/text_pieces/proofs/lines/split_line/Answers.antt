use Rattle.std.proofs.Common.{◌∙◌, ap}
use Rattle.std.specs.Str.Lines.{strip_carriage_return}
use Rattle.text_pieces.proofs.LineLemmas.{lines-cut_some}
use Rattle.text_pieces.proofs.lines.split_line.Goals as goal

pub returns-clause-lines : goal.returns-clause-lines
returns-clause-lines c =
    (lines-cut_some c.args.text.now c.without_return.result.now c.split_at_feed.result.1.now c.requires
    (c.without_return.ensures ∙ ap strip_carriage_return c.split_at_feed.ensures.before) c.split_at_feed.ensures.behind).0

pub returns-clause-shorter : goal.returns-clause-shorter
returns-clause-shorter c =
    (lines-cut_some c.args.text.now c.without_return.result.now c.split_at_feed.result.1.now c.requires
    (c.without_return.ensures ∙ ap strip_carriage_return c.split_at_feed.ensures.before) c.split_at_feed.ensures.behind).1
