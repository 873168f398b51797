use Rattle.std.proofs.Common.{◌≡◌, ◌∙◌, ◌++◌, ◌∷◌, [], true, ap}
use Rattle.fca_command.specs.Experts.{has_expert_file}
use Rattle.fca_command.proofs.WordLemmas.{expert_files-push}
use Rattle.fca_command.proofs.experts.expert_files.Goals as goal

pub loop-rest-preserved : goal.loop-rest-preserved
loop-rest-preserved c =
    let named : has_expert_file c.flag-item.result c.file-item.result ≡ true = cc in
    let pushed : c.push.new.self.items ≡ c.loop-rest.files.items ++ c.file-item.result ∷ [] = c.in_ok-push.ensures.items
    ∙ ap (λ w. c.loop-rest.files.items ++ w ∷ []) (c.in_ok-new.ensures ∙ c.bytes.ensures) in
    expert_files-push c.loop-rest.rest.now c.loop-rest.files.items c.push.new.self.items c.flag-item.result c.file-item.result
    c.in-len2-up.len_at_least c.flag-item.is c.file-item.is named pushed
    ∙ c.loop-rest.invariant
