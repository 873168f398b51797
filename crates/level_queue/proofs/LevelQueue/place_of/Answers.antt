use Rattle.std.proofs.Common.{◌∙◌, ◌≡◌, ◌<◌, List, Some, length, ap, sym, subst}
use Rattle.std.specs.List.{slice_get}
use Rattle.std.specs.Option.{IfSome}
use Rattle.fca_model.specs.Implications.{Rule, holds}
use Rattle.fca_model.specs.Questions.{open_questions, has_premise}
use Rattle.fca_model.specs.Invariant.{MayBeHeld}
use Rattle.fca_model.proofs.InvariantLemmas.{held_member}
use Rattle.level_queue.specs.Queue.{QueueModel}
use Rattle.level_queue.proofs.OpenLemmas.{kept_open, kept_accepted, kept_increasing, held_is_open}
use Rattle.level_queue.proofs.LevelQueue.place_of.Goals as goal

pub place_of-requires : goal.place_of-requires
place_of-requires c = kept_increasing c.self.invariant.kept

pub returns-clause-in_range : goal.returns-clause-in_range
returns-clause-in_range c =
    subst (λ (qs : List Rule). IfSome c.place_of.result (λ i. i < length qs))
    (kept_open c.self.invariant.kept ∙ ap (λ (b : QueueModel). open_questions b.known b.context b.accepted) c.self.view_is)
    c.place_of.ensures.inside

pub returns-clause-found : goal.returns-clause-found
returns-clause-found c =
    subst (λ (qs : List Rule). IfSome c.place_of.result (λ i. slice_get qs i ≡ Some c.args.question.now))
    (kept_open c.self.invariant.kept ∙ ap (λ (b : QueueModel). open_questions b.known b.context b.accepted) c.self.view_is)
    c.place_of.ensures.found

pub returns-clause-held : goal.returns-clause-held
returns-clause-held c held_before true_here new =
    let a = c.self.inside in
    let q = c.args.question.now in
    let held = subst (λ (b : QueueModel). MayBeHeld b.known b.context b.accepted q) (sym c.self.view_is) held_before in
    let holding = ap (λ (b : QueueModel). holds b.context q) c.self.view_is ∙ true_here in
    let unheard = ap (λ (b : QueueModel). has_premise b.accepted q.premise) c.self.view_is ∙ new in
    c.place_of.ensures.there
    (held_is_open a.rules.known a.rows a.level.size a.rules.accepted a.level.questions c.self.invariant.kept.queue
    (kept_open c.self.invariant.kept) q
    (held_member a.rules.known a.rows a.rules.accepted (kept_accepted c.self.invariant.kept) q held holding) held.smaller unheard)
