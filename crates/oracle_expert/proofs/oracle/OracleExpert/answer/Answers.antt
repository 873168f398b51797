use Rattle.std.proofs.Common.{◌≡◌, ◌∙◌, Option, ap, ℕ, subst}
use Rattle.oracle_expert.specs.Oracles.{Recall, Answers, counterexample, answer_with}
use Rattle.oracle_expert.proofs.AnswerLemmas.{place_in_table}
use Rattle.oracle_expert.proofs.oracle.OracleExpert.answer.Goals as goal

pub answer_with-requires : goal.answer_with-requires
answer_with-requires c = place_in_table c.self.inside.table c.deref.result.now c.args.question.now c.counterexample-place.result
    c.counterexample-place.ensures

pub returns-clause-answers : goal.returns-clause-answers
returns-clause-answers c =
    let place : c.counterexample-place.result ≡ counterexample c.self.inside.table c.self.inside.conflicts.items c.args.question.now =
    c.counterexample-place.ensures ∙ ap (λ cs. counterexample c.self.inside.table cs c.args.question.now) c.deref.ensures.value in
    let old : Recall = record { table = c.self.inside.table; conflicts = c.self.inside.conflicts.items; given = c.self.inside.given } in
    let answers : Answers old c.args.question.now c.in_ok-answer.answer (record old { given = c.counterexample-place.result }) = record {
      answer_is = c.in_ok-answer.ensures.answer ∙ ap (answer_with c.self.inside.table) place;
      new_is = ap (λ (given : Option ℕ). record old { given = given }) place;
    } in
    subst (λ (r : Recall). Answers r c.args.question.now c.in_ok-answer.answer (record old { given = c.counterexample-place.result }))
    c.self.view_is answers
