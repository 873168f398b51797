use Rattle.std.proofs.Common.{◌++◌}
use Rattle.std.proofs.lemmas.Result.{err_from_is_err_and}
use Rattle.expert_wire.specs.Texts.{line_end, full_text}
use Rattle.expert_wire.proofs.WriteLemmas.{Writes-equal, Writes-then, Writes-front}
use Rattle.expert_wire.proofs.ListedLemmas.{rule_parts}
use Rattle.expert_wire.proofs.replies.write_rule.Goals as goal

pub returns-in_err-write_parts : goal.returns-in_err-write_parts
returns-in_err-write_parts g c =
    let attributes = c.args.table.now.attributes in
    let p = err_from_is_err_and c.from_residual.result c.from_residual.ensures.1 in
    rw (p.1, p.2) (Writes-equal (rule_parts attributes c.args.words.now c.args.place c.args.rule.now)
    (Writes-front (full_text attributes c.args.rule.now ++ line_end) _ c.in_err-write_parts.ensures))

pub returns : goal.returns
returns g c =
    Writes-equal (rule_parts c.args.table.now.attributes c.args.words.now c.args.place c.args.rule.now)
    (Writes-then c.write_full_text.result c.in_ok-write_parts.ensures c.write_full_text.ensures)
