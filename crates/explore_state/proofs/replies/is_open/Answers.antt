use Rattle.std.proofs.Common.{◌∙◌, sym}
use Rattle.explore_state.proofs.ConfirmLemmas.{confirm_reply-found}
use Rattle.explore_state.proofs.replies.is_open.Goals as goal

pub returns : goal.returns
returns c there =
    let queue = c.args.queue.now in
    confirm_reply-found c.place_of.result c.args.question.now queue.known queue.context queue.accepted c.place_of.ensures.found
    (sym c.is_some.ensures ∙ there)
