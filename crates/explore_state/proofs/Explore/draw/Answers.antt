use Rattle.std.proofs.Common.{◌≡◌, ◌≢◌, ◌∙◌, ◌↔◌, ap, sym, subst, []}
use Rattle.std.proofs.lemmas.Result.{IfOk-weaker}
use Rattle.fca_model.specs.declared.Event.TheVariants.{Draw}
use Rattle.fca_model.specs.declared.Reply.TheVariants.{Ask, Done, AllHeld}
use Rattle.fca_model.specs.declared.TheConstants.{MAX_EXPERTS}
use Rattle.fca_model.specs.Implications.{Rule}
use Rattle.fca_model.specs.Invariant.{Among}
use Rattle.fca_model.specs.Exploration.{reply_to}
use Rattle.explore_state.specs.History.{Opening, ExploreModel, Admits, IsStep, state_of, open_of}
use Rattle.exploration_terms.specs.Settings.{settings_of}
use Rattle.exploration_terms.proofs.RecordedLemmas.{draw_not_recorded}
use Rattle.explore_state.proofs.CourseLemmas.{draw_is_done, draw_is_open, draw_is_free}
use Rattle.explore_state.proofs.Explore.draw.Goals as goal

pub returns-clause-done : goal.returns-clause-done
returns-clause-done c =
    let i = c.self.inside in
    let o : Opening = record { table = i.table; experts = i.experts; settings = settings_of i.settings } in
    let told = draw_is_done o i.journal.items i.queue.context i.queue.accepted i.held.items c.self.invariant.kept c.args.e in
    IfOk-weaker c.apply.result (IsStep c.args.self.now c.apply.new.self (Draw c.args.e))
    (λ reply. (reply ≡ Done) ↔ (open_of c.args.self.now ≡ []))
    (λ reply step.
    let is = step.reply ∙ ap (λ h. reply_to (state_of h) (Draw c.args.e)) (sym c.self.view_is) in
    subst (λ h. (reply ≡ Done) ↔ (open_of h ≡ [])) c.self.view_is (λ done. told.0 (sym is ∙ done), λ none. is ∙ told.1 none))
    c.apply.ensures.ok

pub returns-clause-asked : goal.returns-clause-asked
returns-clause-asked c =
    let i = c.self.inside in
    let o : Opening = record { table = i.table; experts = i.experts; settings = settings_of i.settings } in
    IfOk-weaker c.apply.result (IsStep c.args.self.now c.apply.new.self (Draw c.args.e))
    (λ reply. (q : Rule) → reply ≡ Ask q → Among (open_of c.args.self.now) q)
    (λ reply step q asked.
    let is = step.reply ∙ ap (λ h. reply_to (state_of h) (Draw c.args.e)) (sym c.self.view_is) in
    subst (λ h. Among (open_of h) q) c.self.view_is
    (draw_is_open o i.journal.items i.queue.context i.queue.accepted i.held.items c.self.invariant.kept c.args.e q (sym is ∙ asked)))
    c.apply.ensures.ok

pub returns-clause-free : goal.returns-clause-free
returns-clause-free c = λ most.
    let i = c.self.inside in
    let o : Opening = record { table = i.table; experts = i.experts; settings = settings_of i.settings } in
    IfOk-weaker c.apply.result (IsStep c.args.self.now c.apply.new.self (Draw c.args.e)) (λ reply. reply ≢ AllHeld)
    (λ reply step all.
    let is = step.reply ∙ ap (λ h. reply_to (state_of h) (Draw c.args.e)) (sym c.self.view_is) in
    draw_is_free o i.journal.items i.queue.context i.queue.accepted i.held.items c.self.invariant.kept
    (subst (λ (h : ExploreModel). h.opening.settings.holders ≡ MAX_EXPERTS) (sym c.self.view_is) most) c.args.e
    (subst (λ (h : ExploreModel). Admits h.opening (Draw c.args.e)) (sym c.self.view_is) c.requires) (sym is ∙ all))
    c.apply.ensures.ok

pub returns-clause-spare : goal.returns-clause-spare
returns-clause-spare c = λ room. c.apply.ensures.spare room (draw_not_recorded (state_of c.args.self.now) c.args.e)
