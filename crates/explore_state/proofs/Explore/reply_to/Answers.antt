use Rattle.std.proofs.Common.{◌≡◌, ◌∙◌, ◌++◌, ap, ap₂, sym, subst}
use Rattle.fca_model.specs.declared.Reply.TheVariants.{NotHeld, Left}
use Rattle.fca_model.specs.Questions.{open_questions}
use Rattle.fca_model.specs.Exploration.{given_back, held_by, draw_reply, reply_to}
use Rattle.implication_closure.specs.Closing.{RuleList}
use Rattle.explore_state.specs.History.{Opening, state_of}
use Rattle.exploration_terms.specs.Settings.{settings_of}
use Rattle.explore_state.proofs.KeptLemmas.{reply_to-draw, reply_to-confirm, reply_to-confirm_none, reply_to-row, reply_to-row_none}
use Rattle.explore_state.proofs.KeptLemmas.{reply_to-leave}
use Rattle.explore_state.proofs.Explore.reply_to.Goals as goal

pub returns-in-Draw : goal.returns-in-Draw
returns-in-Draw c =
    let i = c.self.inside in
    let o : Opening = record { table = i.table; experts = i.experts; settings = settings_of i.settings } in
    subst (λ h. c.reply_to_draw.result ≡ reply_to (state_of h) c.args.event.now) c.self.view_is
    (c.reply_to_draw.ensures
    ∙ ap₂ (λ hs J. draw_reply i.settings.holders (given_back c.in-Draw.expert hs) J) c.deref.ensures.value
    (c.open_questions.ensures ∙ ap (λ S. open_questions S i.queue.context i.queue.accepted) c.self.invariant.known)
    ∙ sym (reply_to-draw o i.journal.items i.queue.context i.queue.accepted i.held.items c.self.invariant.kept c.in-Draw.expert)
    ∙ ap (reply_to (state_of (record { opening = o; journal = i.journal.items; spare = 0 }))) (sym c.in-Draw.is))

pub returns-in-Some : goal.returns-in-Some
returns-in-Some c =
    let i = c.self.inside in
    let o : Opening = record { table = i.table; experts = i.experts; settings = settings_of i.settings } in
    subst (λ h. c.reply_to_confirmation.result ≡ reply_to (state_of h) c.args.event.now) c.self.view_is
    (reply_to-confirm o i.journal.items i.queue.context i.queue.accepted i.held.items c.self.invariant.kept c.in-Confirm.expert
    c.in-Some.question c.reply_to_confirmation.result
    (ap (held_by c.in-Confirm.expert) (sym c.deref-in-Confirm.ensures.value) ∙ sym c.question_of.ensures ∙ c.in-Some.is)
    (λ t rows accepted known. c.reply_to_confirmation.ensures t rows accepted (known ∙ sym c.as_slice.ensures.members))
    ∙ ap (reply_to (state_of (record { opening = o; journal = i.journal.items; spare = 0 }))) (sym c.in-Confirm.is))

pub returns-in-None : goal.returns-in-None
returns-in-None c =
    let i = c.self.inside in
    let o : Opening = record { table = i.table; experts = i.experts; settings = settings_of i.settings } in
    subst (λ h. NotHeld ≡ reply_to (state_of h) c.args.event.now) c.self.view_is
    (reply_to-confirm_none o i.journal.items i.queue.context i.queue.accepted i.held.items c.self.invariant.kept c.in-Confirm.expert
    (ap (held_by c.in-Confirm.expert) (sym c.deref-in-Confirm.ensures.value) ∙ sym c.question_of.ensures ∙ c.in-None.is)
    ∙ ap (reply_to (state_of (record { opening = o; journal = i.journal.items; spare = 0 }))) (sym c.in-Confirm.is))

pub returns-in-Some-question_of : goal.returns-in-Some-question_of
returns-in-Some-question_of c =
    let i = c.self.inside in
    let o : Opening = record { table = i.table; experts = i.experts; settings = settings_of i.settings } in
    subst (λ h. c.reply_to_row.result ≡ reply_to (state_of h) c.args.event.now) c.self.view_is
    (reply_to-row o i.journal.items i.queue.context i.queue.accepted i.held.items c.self.invariant.kept c.in-Row.expert c.in-Row.name
    c.in-Row.row c.in-Some-question_of.question c.reply_to_row.result
    (ap (held_by c.in-Row.expert) (sym c.deref-in-Row.ensures.value) ∙ sym c.question_of-in-Row.ensures ∙ c.in-Some-question_of.is)
    (λ t rows rules. c.reply_to_row.ensures t (rows ∙ sym c.rows.ensures)
    (rules ∙ ap (λ S. S ++ i.queue.accepted) (sym c.self.invariant.known) ∙ sym (ap (λ (J : RuleList). J.members) c.rules.ensures.list)))
    ∙ ap (reply_to (state_of (record { opening = o; journal = i.journal.items; spare = 0 }))) (sym c.in-Row.is))

pub returns-in-None-question_of : goal.returns-in-None-question_of
returns-in-None-question_of c =
    let i = c.self.inside in
    let o : Opening = record { table = i.table; experts = i.experts; settings = settings_of i.settings } in
    subst (λ h. NotHeld ≡ reply_to (state_of h) c.args.event.now) c.self.view_is
    (reply_to-row_none o i.journal.items i.queue.context i.queue.accepted i.held.items c.self.invariant.kept c.in-Row.expert c.in-Row.name
    c.in-Row.row
    (ap (held_by c.in-Row.expert) (sym c.deref-in-Row.ensures.value) ∙ sym c.question_of-in-Row.ensures ∙ c.in-None-question_of.is)
    ∙ ap (reply_to (state_of (record { opening = o; journal = i.journal.items; spare = 0 }))) (sym c.in-Row.is))

pub returns-in-Leave : goal.returns-in-Leave
returns-in-Leave c =
    let i = c.self.inside in
    let o : Opening = record { table = i.table; experts = i.experts; settings = settings_of i.settings } in
    subst (λ h. Left ≡ reply_to (state_of h) c.args.event.now) c.self.view_is
    (reply_to-leave o i.journal.items i.queue.context i.queue.accepted i.held.items c.self.invariant.kept c.in-Leave.expert
    ∙ ap (reply_to (state_of (record { opening = o; journal = i.journal.items; spare = 0 }))) (sym c.in-Leave.is))

pub reply_to_confirmation-requires : goal.reply_to_confirmation-requires
reply_to_confirmation-requires c = c.as_slice.ensures.members ∙ sym c.self.invariant.known
