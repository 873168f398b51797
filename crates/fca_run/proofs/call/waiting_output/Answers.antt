use Rattle.std.proofs.Common.{◌≡◌, List, Option, sym, ap, subst}
use Rattle.std.specs.Prelude.{IfErr}
use Rattle.std.proofs.lemmas.Result.{IfErr-weaker}
use Rattle.fca_model.specs.Tables.{Text}
use Rattle.fca_command.specs.declared.command.Command.{Command}
use Rattle.fca_command.specs.declared.command.Command.TheVariants.{Explore, Serve}
use Rattle.context_table.specs.declared.recipe.Recipe.{Recipe}
use Rattle.command_io.specs.Endings.{IsUnread}
use Rattle.command_io.specs.declared.stop.Stop.{Stop}
use Rattle.fca_run.specs.Calls.{shelf_moment, link_moment, no_input, sides, outside, ComesTo}
use Rattle.fca_run.proofs.CallLemmas.{explore-comes, serve-comes, survey-comes}
use Rattle.fca_run.proofs.call.waiting_output.Goals as goal

pub returns-in-Explore : goal.returns-in-Explore
returns-in-Explore g c =
    let end_sides = sides g.L.End.Source.left g.L.End.Sink.held g.L.End.Source.reads g.L.End.Source.faults g.L.End.Sink.faults in
    let s = shelf_moment g.H.Shelf.tells g.H.Shelf.faults g.H.Shelf.fetches c.args.shelf.now in
    let s' = shelf_moment g.H.Shelf.tells g.H.Shelf.faults g.H.Shelf.fetches c.explore.new.shelf in
    let link = link_moment g.L.Listener.listens g.L.Listener.listens_at g.L.Listener.ends g.L.Listener.open_faults
    g.L.Listener.accept_faults c.args.link.now in
    let ends = c.explore.ensures in
    let Comes : Command → Type 0 = λ command. ComesTo end_sides command (outside s no_input link) (outside s' no_input link) c.explore.result in
    let Beside : Option Text → Type 0 = λ known. Comes (Explore c.in-Explore.file known c.in-Explore.names c.as_slice.result.now) in
    let By : List Text → Type 0 = λ experts. Comes (Explore c.in-Explore.file c.in-Explore.known c.in-Explore.names experts) in
    subst Comes (sym c.in-Explore.is) (subst By c.as_slice.ensures (subst Beside c.as_ref-known.ensures.value
    (explore-comes end_sides s s' no_input link c.in-Explore.file _ c.in-Explore.names c.as_slice.result.now c.explore.result ends.output
    ends.refused ends.cause ends.quiet ends.few)))

pub returns-in-Serve : goal.returns-in-Serve
returns-in-Serve g c =
    let end_sides = sides g.L.End.Source.left g.L.End.Sink.held g.L.End.Source.reads g.L.End.Source.faults g.L.End.Sink.faults in
    let s = shelf_moment g.H.Shelf.tells g.H.Shelf.faults g.H.Shelf.fetches c.args.shelf.now in
    let s' = shelf_moment g.H.Shelf.tells g.H.Shelf.faults g.H.Shelf.fetches c.serve.new.shelf in
    let link = link_moment g.L.Listener.listens g.L.Listener.listens_at g.L.Listener.ends g.L.Listener.open_faults
    g.L.Listener.accept_faults c.args.link.now in
    let link' = link_moment g.L.Listener.listens g.L.Listener.listens_at g.L.Listener.ends g.L.Listener.open_faults
    g.L.Listener.accept_faults c.serve.new.link in
    let ends = c.serve.ensures in
    let Comes : Command → Type 0 = λ command. ComesTo end_sides command (outside s no_input link) (outside s' no_input link') c.serve.result in
    let Beside : Option Text → Type 0 = λ known. Comes
    (Serve c.in-Serve.file known c.in-Serve.experts c.in-Serve.holders c.in-Serve.listen) in
    let unheard : IfErr c.serve.result (λ (stop : Stop). (IsUnread stop → link' ≡ link)) =
    IfErr-weaker c.serve.result (λ (stop : Stop). (IsUnread stop → c.serve.new.link ≡ c.args.link.now))
    (λ (stop : Stop). (IsUnread stop → link' ≡ link))
    (λ stop same. λ unread. ap (link_moment g.L.Listener.listens g.L.Listener.listens_at g.L.Listener.ends g.L.Listener.open_faults
    g.L.Listener.accept_faults) (same unread)) ends.unheard in
    subst Comes (sym c.in-Serve.is) (subst Beside c.as_ref-known-in-Serve.ensures.value
    (serve-comes end_sides s s' no_input link link' c.in-Serve.file _ c.in-Serve.experts c.in-Serve.holders c.in-Serve.listen c.serve.result
    ends.output ends.listens ends.refused ends.cause unheard ends.ends ends.quiet ends.few ends.quiet_open ends.quiet_accept))

pub returns-in-Survey : goal.returns-in-Survey
returns-in-Survey g c =
    let end_sides = sides g.L.End.Source.left g.L.End.Sink.held g.L.End.Source.reads g.L.End.Source.faults g.L.End.Sink.faults in
    let s = shelf_moment g.H.Shelf.tells g.H.Shelf.faults g.H.Shelf.fetches c.args.shelf.now in
    let link = link_moment g.L.Listener.listens g.L.Listener.listens_at g.L.Listener.ends g.L.Listener.open_faults
    g.L.Listener.accept_faults c.args.link.now in
    let recipe : Recipe = record {
      seed = c.in-Survey.seed;
      objects = c.in-Survey.objects;
      attributes = c.in-Survey.attributes;
      density = c.in-Survey.density;
    } in
    let Comes : Command → Type 0 = λ command. ComesTo end_sides command (outside s no_input link)
    (outside s no_input link) c.survey_output.result in
    subst Comes (sym c.in-Survey.is) (survey-comes end_sides s no_input link recipe c.in-Survey.experts c.survey_output.result
    c.survey_output.ensures.output c.survey_output.ensures.cause)
