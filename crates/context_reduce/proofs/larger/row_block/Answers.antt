use Rattle.std.proofs.Common.{◌∙◌, ◌*◌, ◌-◌, List, take, drop, length, ap}
use Rattle.std.proofs.lemmas.List.{take_min, take_rest}
use Rattle.fca_model.specs.Sets.{Set}
use Rattle.context_reduce.proofs.larger.row_block.Goals as goal

pub returns-clause-rows : goal.returns-clause-rows
returns-clause-rows g c =
    let Rs : List Set = c.as_slice.result.now in
    let from = c.args.k * 256 in
    let rest = take (length Rs - from) (drop from Rs) in
    ap (λ n. take n rest) c.min.ensures ∙ take_min 256 rest ∙ ap (take 256) (take_rest Rs from)
    ∙ ap (λ (Zs : List Set). take 256 (drop from Zs)) c.as_slice.ensures.rows
