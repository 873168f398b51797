use Rattle.std.proofs.Common.{◌≤◌, ◌∙◌, [], cond, length, arith, ap, sym}
use Rattle.expert_scripts.proofs.NamedLemmas.{unnamed}
use Rattle.explore_command.specs.Starts.{names_from}
use Rattle.explore_command.proofs.NameLemmas.{NamesOn-more, NamesOn-all}
use Rattle.explore_command.proofs.names.names_by_files.Goals as goal

pub add_name-requires-clause-unnamed : goal.add_name-requires-clause-unnamed
add_name-requires-clause-unnamed c = unnamed c.loop-file.expert c.loop-file.list c.loop-file.invariant.1.below

pub loop-file-preserved : goal.loop-file-preserved
loop-file-preserved c =
    let at = c.loop-file.invariant.0 in (
      omega arith,
      NamesOn-more c.loop-file.expert c.loop-file.file-index c.file-item.result c.args.files.now c.loop-file.list c.add_name.new.list
          c.loop-file-test.true c.file-item.is c.in_ok-add_name.ensures c.loop-file.invariant.1,
    )

pub returns : goal.returns
returns c =
    let past : length c.args.files.now ≤ c.loop-file.file-index = omega arith in
    NamesOn-all c.loop-file.expert c.loop-file.file-index c.args.files.now c.loop-file.list past c.loop-file.invariant.1
    ∙ ap (λ b. cond b (names_from 1 c.args.files.now) []) (sym c.if-not-wants_names.false)
