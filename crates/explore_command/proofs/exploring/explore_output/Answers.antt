use Rattle.std.proofs.Common.{◌≡◌, ◌≤◌, arith}
use Rattle.explore_command.proofs.ExploredLemmas.{writable-explored, length-explored, MayExplore-explored}
use Rattle.explore_command.proofs.exploring.explore_output.Goals as goal

pub output_of-output-requires-clause-count : goal.output_of-output-requires-clause-count
output_of-output-requires-clause-count g c =
    let as_many = length-explored _ _ _ _ c.in_ok-explored.ensures in
    let long = c.in_ok-explored.explored.oracles.ok.0 in
    omega arith

pub output_of-output-requires-clause-writable : goal.output_of-output-requires-clause-writable
output_of-output-requires-clause-writable g c = writable-explored _ _ _ _ c.in_ok-explored.ensures

pub returns : goal.returns
returns g c =
    let explored = c.in_ok-explored.explored in
    let told = c.output_of-output.ensures in
    MayExplore-explored c.args.start explored.explore explored.oracles.items explored.spent c.output_of-output.result c.requires.count
    c.in_ok-explored.ensures told.text told.spells told.ending
