use Rattle.std.proofs.Common.{ap, arith}
use Rattle.level_queue.specs.Queue.{QueueModel}
use Rattle.exploration_terms.specs.Settings.{settings_of}
use Rattle.explore_state.proofs.KeptLemmas.{kept_opening}
use Rattle.explore_state.proofs.OpenLemmas.{no_fault}
use Rattle.explore_state.proofs.Explore.open_with_by.Goals as goal

pub invariant_of-result : goal.invariant_of-result
invariant_of-result g c =
    let s = settings_of c.args.settings in
    let told = no_fault c.args.table.context c.args.experts s c.in_ok-queue.ensures.sound in
    let queue = c.in_ok-queue.ensures.queue in
    let room = c.in_ok-queue.ensures.room in
    record {
      kept = kept_opening (record { table = c.args.table; experts = c.args.experts; settings = s }) c.new.result.items
          c.in_ok-queue.queue.context c.in_ok-queue.queue.accepted c.in_ok-queue.held.items
          told.0 told.1
          c.new.ensures.items (ap (λ (q : QueueModel). q.context) queue) (ap (λ (q : QueueModel). q.accepted) queue) c.in_ok-queue.ensures.held;
      known = ap (λ (q : QueueModel). q.known) queue;
      wide = c.requires;
      holders = told.2;
      room = omega arith;
    }
