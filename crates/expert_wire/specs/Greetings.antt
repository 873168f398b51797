-- The first lines of a session: the number of the expert, and the attributes.
--
-- Expert 2 over a and b is greeted by `exploration 1`, `expert 2`, `attributes 2`, `a` and `b`.
use Rattle.std.specs.Prelude.{ℕ, ◌++◌, codes, decimal}
use Rattle.fca_model.specs.Tables.{Text, NamedContext}
use Rattle.text_pieces.specs.Lines.{text_of}
use Rattle.expert_wire.specs.Texts.{line_end}
use Rattle.expert_wire.specs.Replies.{heading}

-- the lines before the names of the attributes
abbrev pub greeting_words : NamedContext → ℕ → Text
greeting_words t e =
    heading ++ (line_end ++ (codes "expert "
    ++ (decimal e ++ (line_end ++ (codes "attributes " ++ (decimal t.context.width ++ line_end))))))

-- the greeting of expert e
abbrev pub greeting : NamedContext → ℕ → Text
greeting t e = greeting_words t e ++ text_of t.attributes
