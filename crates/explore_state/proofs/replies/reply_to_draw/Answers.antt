use Rattle.std.proofs.Common.{◌∙◌, ℕ, ◌<◌, ◌≤◌, ap, sym, subst}
use Rattle.fca_model.specs.declared.Reply.TheVariants.{Ask}
use Rattle.fca_model.specs.Implications.{Rule}
use Rattle.fca_model.specs.Exploration.{holders_of, given_back}
use Rattle.explore_state.proofs.FewestLemmas.{draw_all_held, draw_asks_fewest}
use Rattle.explore_state.proofs.replies.reply_to_draw.Goals as goal

pub returns-then-other_holders-most : goal.returns-then-other_holders-most
returns-then-other_holders-most c =
    let hs = given_back c.args.expert c.args.held.now in
    let q = c.index-questions-place_of_fewest.result in
    sym (draw_all_held hs c.args.questions.now c.place_of_fewest.result q c.place_of_fewest.ensures c.args.most
    (subst (λ (n : ℕ). c.args.most ≤ n) (c.other_holders.ensures
    ∙ ap (λ (i : Rule). holders_of i.premise hs) c.index-questions-place_of_fewest.is) c.if-other_holders-most.true))

pub returns : goal.returns
returns c =
    let hs = given_back c.args.expert c.args.held.now in
    let q = c.index-questions-place_of_fewest.result in
    ap (λ (i : Rule). Ask i) c.index-questions-place_of_fewest.is
    ∙ sym (draw_asks_fewest hs c.args.questions.now c.place_of_fewest.result q c.place_of_fewest.ensures c.args.most
    (subst (λ (n : ℕ). n < c.args.most) (c.other_holders.ensures
    ∙ ap (λ (i : Rule). holders_of i.premise hs) c.index-questions-place_of_fewest.is) c.if-other_holders-most.false))
