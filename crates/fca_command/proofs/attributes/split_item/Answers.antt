use Rattle.std.proofs.Common.{◌∷◌, ◌+◌, ◌-◌, ◌≤◌, ◌∙◌, ap, sym, length, take, drop, length-drop, arith}
use Rattle.std.specs.List.{slice_split}
use Rattle.std.proofs.lemmas.List.{take_all}
use Rattle.fca_command.specs.Attributes.{is_comma}
use Rattle.fca_command.proofs.PartLemmas.{slice_split-some, slice_split-none}
use Rattle.fca_command.proofs.attributes.split_item.Goals as goal

pub returns-in-Some : goal.returns-in-Some
returns-in-Some c =
    let text = c.args.text.now in
    let at = c.in-Some.at in
    let rest : length (drop (at + 1) text) ≤ length text - (at + 1) = rw (length-drop (at + 1) text) (omega arith) in
    slice_split-some text at (sym c.in-Some.ensures)
    ∙ ap (λ l. take at text ∷ slice_split is_comma l) (sym (take_all _ (drop (at + 1) text) rest))

pub returns-in-None : goal.returns-in-None
returns-in-None c = slice_split-none c.args.text.now (sym c.in-None.ensures)
