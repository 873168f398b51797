use Rattle.std.proofs.Common.{rules, ◌≡◌, ◌∙◌}
use Rattle.command_io.specs.Readings.{SameCounts}
use Rattle.command_io.proofs.QuietLemmas.{unless_listener-more, SameCounts-then}
use Rattle.serve_command.proofs.accepting.ends_at.Goals as goal

pub returns-clause-quiet_open : goal.returns-clause-quiet_open
returns-clause-quiet_open g c =
    let counts = g.L.Listener.open_faults c.args.link.now in
    let between = g.L.Listener.open_faults c.open.new.self in
    let after = g.L.Listener.open_faults c.accept_ends.new.link in
    let opened : SameCounts counts between = search rules in
    unless_listener-more c.accept_ends.result (SameCounts between after) (SameCounts counts after)
    (SameCounts-then counts between after opened) c.accept_ends.ensures.quiet_open

pub returns-clause-quiet_accept : goal.returns-clause-quiet_accept
returns-clause-quiet_accept g c =
    let count = g.L.Listener.accept_faults c.args.link.now in
    let between = g.L.Listener.accept_faults c.open.new.self in
    let after = g.L.Listener.accept_faults c.accept_ends.new.link in
    let opened : between ≡ count = search rules in
    unless_listener-more c.accept_ends.result (after ≡ between) (after ≡ count)
    (λ accepted. accepted ∙ opened) c.accept_ends.ensures.quiet_accept
