-- Lines that begin with `# `, which a script skips. After the text of an exploration they change nothing of what it spells.
use Rattle.std.specs.Prelude.{◌≡◌, Bool, true, not, List, ◌++◌, codes}
use Rattle.std.specs.List.{list_any, list_all, flat_map}
use Rattle.fca_model.specs.Tables.{Text}
use Rattle.fca_model.specs.Names.{is_line_break}
use Rattle.expert_wire.specs.Texts.{line_end}

-- `# ` and the words, as a line
abbrev pub comment_line : Text → Text
comment_line words = codes "# " ++ (words ++ line_end)

-- a line for each of the words
abbrev pub comments : List Text → Text
comments lines = flat_map comment_line lines

-- none of the words has a line break
abbrev pub are_lines : List Text → Bool
are_lines lines = list_all (λ words. not (list_any is_line_break words)) lines

-- the text consists of such lines
pub record AreComments (text : Text) : Type 0 where
  pub lines : List Text
  pub whole : are_lines lines ≡ true
  pub text_is : text ≡ comments lines
