use Rattle.std.proofs.Common.{◌∙◌, ◌<◌, length, arith}
use Rattle.text_pieces.proofs.BlankLemmas.{without_blanks_after-step, without_blanks_after-end}
use Rattle.text_pieces.proofs.blanks.without_blanks_after.Goals as goal

pub loop-rest-preserved : goal.loop-rest-preserved
loop-rest-preserved c =
    let some : 0 < length c.loop-rest.rest.now = omega arith in
    without_blanks_after-step c.loop-rest.rest.now c.is_blank.result some c.is_blank.ensures c.if-is_blank.true ∙ c.loop-rest.invariant

pub returns-else-is_blank : goal.returns-else-is_blank
returns-else-is_blank c =
    let some : 0 < length c.loop-rest.rest.now = omega arith in
    without_blanks_after-end c.loop-rest.rest.now c.is_blank.result some c.is_blank.ensures c.if-is_blank.false ∙ c.loop-rest.invariant
