use Rattle.std.proofs.Common.{rules, ◌≡◌, ◌<◌, ◌+◌, ◌++◌, ◌∷◌, ◌∙◌, [], length, drop, List, sym, subst, arith}
use Rattle.std.specs.Prelude.{All, IfErr}
use Rattle.std.proofs.lemmas.Result.{IfErr-weaker}
use Rattle.fca_model.specs.Tables.{NamedContext}
use Rattle.std.proofs.lemmas.List.Elements.{All-push}
use Rattle.command_io.specs.Endings.{IsRefusal}
use Rattle.command_io.specs.Readings.{MayRefuse, Rises, SameCounts}
use Rattle.command_io.specs.declared.stop.Stop.{Stop}
use Rattle.command_io.specs.declared.stop.Stop.TheVariants.{Memory}
use Rattle.command_io.proofs.ErrLemmas.{err-passed}
use Rattle.command_io.proofs.FetchLemmas.{fetched_none, fetched_one, fetched_within, fetched_then}
use Rattle.command_io.proofs.QuietLemmas.{unless_fault, fault-later, fault-passed, SameCounts-then}
use Rattle.explore_command.specs.Starts.{experts_read, IsExpertsStop}
use Rattle.explore_command.proofs.StartLemmas.{ReadsOn, ReadsOn-next, ReadsOn-all, refused-file, experts-stop, memory-experts}
use Rattle.explore_command.proofs.start.load_expert_tables.Goals as goal

pub returns-in_err-expert_table-clause-refused : goal.returns-in_err-expert_table-clause-refused
returns-in_err-expert_table-clause-refused g c =
    let inv = c.loop-place.invariant in
    let stop = c.in_err-expert_table.field-0.0 in
    let inside : c.loop-place.place < length c.args.files.now = omega arith in
    let table = c.args.table.now in
    let tells = g.H.Shelf.tells c.args.shelf.now in
    err-passed c.from_residual.result stop (λ (s : Stop). (IsRefusal s → MayRefuse (experts_read table c.args.files.now tells)))
    c.from_residual.ensures.1
    (λ refusal. refused-file table c.args.files.now c.loop-place.place c.index-files-place.result tells (g.H.Shelf.tells c.loop-place.shelf)
    (g.H.Shelf.faults c.args.shelf.now)
    c.loop-place.tables.items inside c.index-files-place.is inv.3 inv.0 (c.in_err-expert_table.ensures.refused refusal))

pub returns-in_err-expert_table-clause-cause : goal.returns-in_err-expert_table-clause-cause
returns-in_err-expert_table-clause-cause g c =
    let inv = c.loop-place.invariant in
    let stop = c.in_err-expert_table.field-0.0 in
    let inside : c.loop-place.place < length c.args.files.now = omega arith in
    let table = c.args.table.now in
    let tells = g.H.Shelf.tells c.args.shelf.now in
    let counts = g.H.Shelf.faults c.args.shelf.now in
    let after = g.H.Shelf.faults c.load_expert_table.new.shelf in
    err-passed c.from_residual.result stop (IsExpertsStop table 0 c.args.files.now tells (Rises counts after)) c.from_residual.ensures.1
    (experts-stop table c.args.files.now c.loop-place.place c.index-files-place.result tells (g.H.Shelf.tells c.loop-place.shelf) counts
    (g.H.Shelf.faults c.loop-place.shelf) after
    c.loop-place.tables.items stop inside c.index-files-place.is inv.3 inv.4 inv.0 c.in_err-expert_table.ensures.cause)

pub loop-place-preserved : goal.loop-place-preserved
loop-place-preserved g c =
    let inv = c.loop-place.invariant in
    let table = c.args.table.now in
    let expert = c.in_ok-expert_table.expert_table in
    let inside : c.loop-place.place < length c.args.files.now = omega arith in
    let pushed : c.push.new.self.items ≡ c.loop-place.tables.items ++ expert ∷ [] = c.in_ok-push.ensures.items in
    let Reads : List NamedContext → Type 0 = λ l.
    ReadsOn table (c.loop-place.place + 1) (drop (c.loop-place.place + 1) c.args.files.now) c.args.files.now
    (g.H.Shelf.tells c.args.shelf.now) (g.H.Shelf.faults c.args.shelf.now) l in
    let IsWide : List NamedContext → Type 0 = λ l. All (λ (t : NamedContext). t.context.width ≡ table.context.width) l in (
      subst Reads (sym pushed) (ReadsOn-next table c.args.files.now c.loop-place.place c.index-files-place.result
          (g.H.Shelf.tells c.args.shelf.now) (g.H.Shelf.tells c.loop-place.shelf)
          (g.H.Shelf.faults c.args.shelf.now) c.loop-place.tables.items expert
          inside c.index-files-place.is inv.3 c.in_ok-expert_table.ensures.expert inv.0),
      (let longer = c.in_ok-push.ensures.len in let was = inv.1 in omega arith),
      subst IsWide (sym pushed) (All-push (λ (t : NamedContext). t.context.width ≡ table.context.width) c.loop-place.tables.items expert
          inv.2 c.in_ok-expert_table.ensures.wide),
      (λ other. c.in_ok-expert_table.ensures.kept other ∙ inv.3 other),
      (λ other. (let before = inv.4 other in let now = c.in_ok-expert_table.ensures.only_rise other in omega arith)),
      (λ other. c.in_ok-expert_table.ensures.quiet other ∙ inv.5 other),
      fetched_then (g.H.Shelf.fetches c.args.shelf.now) (g.H.Shelf.fetches c.loop-place.shelf) (g.H.Shelf.fetches c.load_expert_table.new.shelf)
          c.loop-place.place 1 inv.6
          (fetched_one (g.H.Shelf.fetches c.loop-place.shelf) (g.H.Shelf.fetches c.load_expert_table.new.shelf) c.in_ok-expert_table.ensures.counted),
    )

pub returns-clause-tables : goal.returns-clause-tables
returns-clause-tables g c =
    ReadsOn-all c.args.table.now c.args.files.now c.loop-place.place (g.H.Shelf.tells c.args.shelf.now)
    (g.H.Shelf.faults c.args.shelf.now) c.loop-place.tables.items
    (let past = c.loop-place-test.false in omega arith) c.loop-place.invariant.0

pub returns-in_err-push-clause-cause : goal.returns-in_err-push-clause-cause
returns-in_err-push-clause-cause g c =
    let left = c.from_residual-in_err-push.result in
    let memory : IfErr left (λ (s : Stop). s ≡ Memory) = search rules in
    let table = c.args.table.now in
    let tells = g.H.Shelf.tells c.args.shelf.now in
    let rises = Rises (g.H.Shelf.faults c.args.shelf.now) (g.H.Shelf.faults c.load_expert_table.new.shelf) in
    IfErr-weaker left (λ (s : Stop). s ≡ Memory) (IsExpertsStop table 0 c.args.files.now tells rises)
    (λ s e. memory-experts table 0 c.args.files.now tells rises s e) memory

pub returns-in_err-expert_table-clause-quiet : goal.returns-in_err-expert_table-clause-quiet
returns-in_err-expert_table-clause-quiet g c =
    let counts = g.H.Shelf.faults c.args.shelf.now in
    let between = g.H.Shelf.faults c.loop-place.shelf in
    let after = g.H.Shelf.faults c.load_expert_table.new.shelf in
    fault-passed c.from_residual.result c.in_err-expert_table.field-0.0 (SameCounts counts after) c.from_residual.ensures.1
    (fault-later c.in_err-expert_table.field-0.0 (SameCounts between after) (SameCounts counts after)
    (SameCounts-then counts between after c.loop-place.invariant.5) c.in_err-expert_table.ensures.quiet)

pub returns-in_err-push-clause-quiet : goal.returns-in_err-push-clause-quiet
returns-in_err-push-clause-quiet g c =
    let counts = g.H.Shelf.faults c.args.shelf.now in
    let after = g.H.Shelf.faults c.load_expert_table.new.shelf in
    unless_fault c.from_residual-in_err-push.result (SameCounts counts after)
    (SameCounts-then counts (g.H.Shelf.faults c.loop-place.shelf) after c.loop-place.invariant.5 c.in_ok-expert_table.ensures.quiet)

-- ---- counts of fetches

pub returns-in_err-expert_table-clause-few : goal.returns-in_err-expert_table-clause-few
returns-in_err-expert_table-clause-few g c =
    let inside : c.loop-place.place < length c.args.files.now = omega arith in
    fetched_within (g.H.Shelf.fetches c.args.shelf.now) (g.H.Shelf.fetches c.load_expert_table.new.shelf) (c.loop-place.place + 1)
    (length c.args.files.now) (omega arith)
    (fetched_then (g.H.Shelf.fetches c.args.shelf.now) (g.H.Shelf.fetches c.loop-place.shelf) (g.H.Shelf.fetches c.load_expert_table.new.shelf)
    c.loop-place.place 1 c.loop-place.invariant.6
    (fetched_one (g.H.Shelf.fetches c.loop-place.shelf) (g.H.Shelf.fetches c.load_expert_table.new.shelf) c.in_err-expert_table.ensures.counted))

pub returns-in_err-push-clause-few : goal.returns-in_err-push-clause-few
returns-in_err-push-clause-few g c =
    let inside : c.loop-place.place < length c.args.files.now = omega arith in
    fetched_within (g.H.Shelf.fetches c.args.shelf.now) (g.H.Shelf.fetches c.load_expert_table.new.shelf) (c.loop-place.place + 1)
    (length c.args.files.now) (omega arith)
    (fetched_then (g.H.Shelf.fetches c.args.shelf.now) (g.H.Shelf.fetches c.loop-place.shelf) (g.H.Shelf.fetches c.load_expert_table.new.shelf)
    c.loop-place.place 1 c.loop-place.invariant.6
    (fetched_one (g.H.Shelf.fetches c.loop-place.shelf) (g.H.Shelf.fetches c.load_expert_table.new.shelf) c.in_ok-expert_table.ensures.counted))

pub returns-clause-few : goal.returns-clause-few
returns-clause-few g c =
    let past = c.loop-place-test.false in
    let within = c.loop-place.invariant.1 in
    fetched_within (g.H.Shelf.fetches c.args.shelf.now) (g.H.Shelf.fetches c.loop-place.shelf) c.loop-place.place
    (length c.args.files.now) (omega arith) c.loop-place.invariant.6
