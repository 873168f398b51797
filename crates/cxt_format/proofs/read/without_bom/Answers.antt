use Rattle.std.proofs.Common.{◌∙◌, ap, ℕ, List, Bor}
use Rattle.cxt_format.proofs.FormLemmas.{without_bom-stripped}
use Rattle.cxt_format.proofs.read.without_bom.Goals as goal

pub returns : goal.returns
returns c = ap (λ (x : Bor (List ℕ)). x.now) c.unwrap_or.ensures
    ∙ without_bom-stripped c.args.text c.strip_prefix.result c.strip_prefix.ensures.cases
