use Rattle.std.proofs.Common.{◌≡◌, ◌∙◌, ◌⊎◌, inr, refl, sym, ap, subst}
use Rattle.std.proofs.lemmas.Result.{IfOk-weaker, IfErr-weaker}
use Rattle.std.specs.Prelude.{option_copied}
use Rattle.fca_model.specs.Tables.{Text}
use Rattle.fca_model.proofs.ListLemmas.{IfErr-any}
use Rattle.fca_model.proofs.RunLemmas.{expert_range}
use Rattle.fca_io.specs.Faults.{Rose}
use Rattle.explore_state.specs.History.{Opening}
use Rattle.command_io.specs.Readings.{Rises, SameCounts}
use Rattle.command_io.proofs.ErrLemmas.{err-passed}
use Rattle.command_io.proofs.QuietLemmas.{unless_fault, unless_listener, fault-passed, listener-passed, SameCounts-then}
use Rattle.command_io.specs.Known.{start_of}
use Rattle.serve_command.specs.Served.{IsOutput}
use Rattle.serve_command.proofs.StepLemmas.{early-back, short-back, returned-ends, served-output, memory-serve, link-serve}
use Rattle.serve_command.proofs.StepLemmas.{heard, heard-refused}
use Rattle.serve_command.proofs.serving.serve.Goals as goal

pub returns-in_err-start-clause-ends : goal.returns-in_err-start-clause-ends
returns-in_err-start-clause-ends g c =
    let range = expert_range c.args.invitation.now.experts c.requires.experts in
    IfErr-any c.from_residual.result _ (λ s. early-back _ _ _ _ _ c.args.invitation.now.experts _ _ range.0)

pub returns-in_err-explore-clause-ends : goal.returns-in_err-explore-clause-ends
returns-in_err-explore-clause-ends g c =
    let range = expert_range c.args.invitation.now.experts c.requires.experts in
    IfErr-any c.from_residual-in_err-explore.result _ (λ s. early-back _ _ _ _ _ c.args.invitation.now.experts _ _ range.0)

pub ends_at-requires-clause-some : goal.ends_at-requires-clause-some
ends_at-requires-clause-some g c κs within = (expert_range c.args.invitation.now.experts c.requires.experts).0

pub returns-in_err-ends-clause-refused : goal.returns-in_err-ends-clause-refused
returns-in_err-ends-clause-refused g c =
    err-passed c.from_residual-in_err-ends.result c.in_err-ends.field-0.0 _ c.from_residual-in_err-ends.ensures.1
    (heard-refused _ _ c.in_err-ends.ensures.short.cause)

pub returns-in_err-ends-clause-ends : goal.returns-in_err-ends-clause-ends
returns-in_err-ends-clause-ends g c =
    err-passed c.from_residual-in_err-ends.result c.in_err-ends.field-0.0 _ c.from_residual-in_err-ends.ensures.1
    (short-back _ _ _ _ _ _ _ _ _ _ c.in_err-ends.ensures.short)

pub explore_over-requires-clause-count : goal.explore_over-requires-clause-count
explore_over-requires-clause-count g c κs within =
    let experts = ap (λ (o : Opening). o.experts) c.in_ok-explore.ensures.opening in
    let many = c.in_ok-ends.ensures.count in
    experts ∙ sym many

pub returns-clause-output : goal.returns-clause-output
returns-clause-output g c =
    let o : Opening = c.in_ok-explore.explore.opening in
    let is = c.in_ok-explore.ensures.opening in
    let many = sym c.in_ok-ends.ends.ok.0 ∙ c.in_ok-ends.ensures.count ∙ sym (ap (λ (p : Opening). p.experts) is) in
    IfOk-weaker c.explore_over.result _ _ (λ output served_all. (
      start_of c.in_ok-start.start,
      c.in_ok-start.ensures.start,
      subst (λ (p : Opening). IsOutput g.L.End.Source.left g.L.End.Sink.held g.L.End.Source.reads g.L.End.Source.faults g.L.End.Sink.faults
          p (g.L.Listener.ends c.args.link.now) (g.L.Listener.ends c.explore_over.new.link) output) is
          (served-output _ _ _ _ _ o _ _ _ _ _ c.in_ok-ends.ensures.within c.in_ok-ends.ensures.taken many served_all),
    ))
    c.explore_over.ensures.served_all

pub returns-clause-refused : goal.returns-clause-refused
returns-clause-refused g c = IfErr-weaker c.explore_over.result _ _
    (λ stop memory. heard-refused stop _ (inr memory)) c.explore_over.ensures.cause

pub returns-clause-ends : goal.returns-clause-ends
returns-clause-ends g c =
    let many = sym c.in_ok-ends.ends.ok.0 ∙ c.in_ok-ends.ensures.count in
    returned-ends _ _ _ _ _ _ _ _ _ _ c.explore_over.result c.in_ok-ends.ensures.within c.in_ok-ends.ensures.taken many
    c.explore_over.ensures.returned c.explore_over.ensures.cause

pub returns-in_err-ends-clause-cause : goal.returns-in_err-ends-clause-cause
returns-in_err-ends-clause-cause g c =
    let RoseAt : Text → Type 0 = λ address. Rises (g.L.Listener.open_faults c.args.link.now)
    (g.L.Listener.open_faults c.ends_at.new.link) address
    ⊎ Rose (g.L.Listener.accept_faults c.args.link.now) (g.L.Listener.accept_faults c.ends_at.new.link) in
    let short = c.in_err-ends.ensures.short in
    err-passed c.from_residual-in_err-ends.result c.in_err-ends.field-0.0 _ c.from_residual-in_err-ends.ensures.1
    (link-serve c.args.file.now (option_copied c.args.known_file) (g.H.Shelf.tells c.args.shelf.now) _ _
    (start_of c.in_ok-start.start) _ c.in_ok-start.ensures.start
    (λ listener. subst RoseAt c.bytes.ensures (short.fault listener)) short.cause)

pub returns-clause-cause : goal.returns-clause-cause
returns-clause-cause g c = IfErr-weaker c.explore_over.result _ _
    (λ stop memory. memory-serve c.args.file.now (option_copied c.args.known_file) (g.H.Shelf.tells c.args.shelf.now) _ _ stop memory)
    c.explore_over.ensures.cause

pub returns-in_err-ends-clause-unheard : goal.returns-in_err-ends-clause-unheard
returns-in_err-ends-clause-unheard g c =
    err-passed c.from_residual-in_err-ends.result c.in_err-ends.field-0.0 _ c.from_residual-in_err-ends.ensures.1
    (heard _ _ c.in_err-ends.ensures.short.cause)

pub returns-clause-unheard : goal.returns-clause-unheard
returns-clause-unheard g c = IfErr-weaker c.explore_over.result _ _ (λ stop memory. heard stop _ (inr memory)) c.explore_over.ensures.cause

-- ---- counts of faults

pub returns-in_err-start-clause-quiet : goal.returns-in_err-start-clause-quiet
returns-in_err-start-clause-quiet g c =
    fault-passed c.from_residual.result c.in_err-start.field-0.0
    (SameCounts (g.H.Shelf.faults c.args.shelf.now) (g.H.Shelf.faults c.load_start.new.shelf)) c.from_residual.ensures.1
    c.in_err-start.ensures.quiet

pub returns-in_err-start-clause-quiet_open : goal.returns-in_err-start-clause-quiet_open
returns-in_err-start-clause-quiet_open g c = unless_listener c.from_residual.result
    (SameCounts (g.L.Listener.open_faults c.args.link.now) (g.L.Listener.open_faults c.args.link.now)) (λ _. refl)

pub returns-in_err-start-clause-quiet_accept : goal.returns-in_err-start-clause-quiet_accept
returns-in_err-start-clause-quiet_accept g c =
    unless_listener c.from_residual.result (g.L.Listener.accept_faults c.args.link.now ≡ g.L.Listener.accept_faults c.args.link.now) refl

pub returns-in_err-explore-clause-quiet : goal.returns-in_err-explore-clause-quiet
returns-in_err-explore-clause-quiet g c = unless_fault c.from_residual-in_err-explore.result
    (SameCounts (g.H.Shelf.faults c.args.shelf.now) (g.H.Shelf.faults c.load_start.new.shelf)) c.in_ok-start.ensures.quiet

pub returns-in_err-explore-clause-quiet_open : goal.returns-in_err-explore-clause-quiet_open
returns-in_err-explore-clause-quiet_open g c =
    unless_listener c.from_residual-in_err-explore.result
    (SameCounts (g.L.Listener.open_faults c.args.link.now) (g.L.Listener.open_faults c.args.link.now)) (λ _. refl)

pub returns-in_err-explore-clause-quiet_accept : goal.returns-in_err-explore-clause-quiet_accept
returns-in_err-explore-clause-quiet_accept g c =
    unless_listener c.from_residual-in_err-explore.result
    (g.L.Listener.accept_faults c.args.link.now ≡ g.L.Listener.accept_faults c.args.link.now) refl

pub returns-in_err-ends-clause-quiet : goal.returns-in_err-ends-clause-quiet
returns-in_err-ends-clause-quiet g c = unless_fault c.from_residual-in_err-ends.result
    (SameCounts (g.H.Shelf.faults c.args.shelf.now) (g.H.Shelf.faults c.load_start.new.shelf)) c.in_ok-start.ensures.quiet

pub returns-in_err-ends-clause-quiet_open : goal.returns-in_err-ends-clause-quiet_open
returns-in_err-ends-clause-quiet_open g c =
    listener-passed c.from_residual-in_err-ends.result c.in_err-ends.field-0.0
    (SameCounts (g.L.Listener.open_faults c.args.link.now) (g.L.Listener.open_faults c.ends_at.new.link))
    c.from_residual-in_err-ends.ensures.1 c.in_err-ends.ensures.quiet_open

pub returns-in_err-ends-clause-quiet_accept : goal.returns-in_err-ends-clause-quiet_accept
returns-in_err-ends-clause-quiet_accept g c =
    listener-passed c.from_residual-in_err-ends.result c.in_err-ends.field-0.0
    (g.L.Listener.accept_faults c.ends_at.new.link ≡ g.L.Listener.accept_faults c.args.link.now) c.from_residual-in_err-ends.ensures.1
    c.in_err-ends.ensures.quiet_accept

pub returns-clause-quiet : goal.returns-clause-quiet
returns-clause-quiet g c = unless_fault c.explore_over.result
    (SameCounts (g.H.Shelf.faults c.args.shelf.now) (g.H.Shelf.faults c.load_start.new.shelf)) c.in_ok-start.ensures.quiet

pub returns-clause-quiet_open : goal.returns-clause-quiet_open
returns-clause-quiet_open g c =
    unless_listener c.explore_over.result (SameCounts (g.L.Listener.open_faults c.args.link.now)
    (g.L.Listener.open_faults c.explore_over.new.link))
    (SameCounts-then (g.L.Listener.open_faults c.args.link.now) (g.L.Listener.open_faults c.ends_at.new.link)
    (g.L.Listener.open_faults c.explore_over.new.link) c.in_ok-ends.ensures.quiet_open c.explore_over.ensures.quiet_open)

pub returns-clause-quiet_accept : goal.returns-clause-quiet_accept
returns-clause-quiet_accept g c =
    unless_listener c.explore_over.result (g.L.Listener.accept_faults c.explore_over.new.link ≡ g.L.Listener.accept_faults c.args.link.now)
    (c.explore_over.ensures.quiet_accept ∙ c.in_ok-ends.ensures.quiet_accept)
