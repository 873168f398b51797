use Rattle.std.proofs.Common.{◌≡◌, ◌<◌, ◌⊎◌, ◌∙◌, ◌++◌, ℕ, [], map, sym, ap, subst}
use Rattle.fca_model.specs.Exploration.{own}
use Rattle.fca_model.proofs.ListLemmas.{IfErr-any}
use Rattle.basis_report.specs.Explorations.{explore_text}
use Rattle.basis_report.specs.Sessions.{sessions_text}
use Rattle.serve_command.specs.Accepted.{HasRoomFor}
use Rattle.serve_command.specs.Served.{ended_words}
use Rattle.serve_command.proofs.StepLemmas.{ok-from-three}
use Rattle.serve_command.proofs.ServedLemmas.{IsOver, has-served-all, returned-talks}
use Rattle.serve_command.proofs.serving.explore_over.Goals as goal

pub returns-in-Ok-clause-returned : goal.returns-in-Ok-clause-returned
returns-in-Ok-clause-returned g c =
    let Room : ℕ → Type 0 = HasRoomFor (g.L.Listener.ends c.args.link.now) in
    IfErr-any c.output_of.result _ (λ s.
    returned-talks g.L.End.Source.left g.L.End.Sink.held g.L.End.Source.reads g.L.End.Source.faults g.L.End.Sink.faults
    c.args.explore.opening.table c.in-Ok.served.explore.journal
    c.args.ends.items c.in-Ok.served.ends.items _ _ c.in-Ok.served.ended.items c.in-Ok.ensures.talks
    (λ room. c.give_back.ensures.given (subst Room (sym c.in-Ok.served.ends.ok.0) room)))

pub returns-in-Ok-clause-served_all : goal.returns-in-Ok-clause-served_all
returns-in-Ok-clause-served_all g c =
    let Room : ℕ → Type 0 = HasRoomFor (g.L.Listener.ends c.args.link.now) in
    let explore = c.in-Ok.served.explore in
    let H = explore.journal in
    let Others : ℕ → Type 0 = λ n. ((e : ℕ) → (e ≡ 0) ⊎ (n < e) → own H e ≡ []) in
    let many = c.args.ends.ok.0 in
    let new = c.requires.new in
    let told = c.output_of.ensures in
    let over : IsOver g.L.End.Source.left g.L.End.Sink.held g.L.End.Source.reads g.L.End.Source.faults g.L.End.Sink.faults
    c.args.explore.opening c.args.ends.items c.in-Ok.served.ends.items
    explore c.in-Ok.served.ended.items = record {
      opening = c.in-Ok.ensures.opening;
      history = c.in-Ok.ensures.history;
      talks = c.in-Ok.ensures.talks;
      others = subst Others many c.in-Ok.ensures.others;
    } in
    ok-from-three c.output_of.result _ _ _ _ told.text told.spells told.ending (λ output text spells ending.
    has-served-all g.L.End.Source.left g.L.End.Sink.held g.L.End.Source.reads g.L.End.Source.faults g.L.End.Sink.faults
    c.args.explore.opening
    c.args.ends.items c.in-Ok.served.ends.items _ _
    explore c.in-Ok.served.ended.items output new.experts new.respecting new.writable.known over
    (λ room. c.give_back.ensures.given (subst Room (sym c.in-Ok.served.ends.ok.0) room))
    (record {
      joined = text ∙ ap (λ ended. explore_text explore.opening.table explore.opening.settings H
          ++ sessions_text (map ended_words ended)) c.deref.ensures.value;
      spells = spells;
      ending = ending;
    }))
