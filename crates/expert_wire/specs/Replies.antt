-- Replies as lines.
use Rattle.std.specs.Prelude.{ℕ, List, [], ◌++◌, codes, slice_get, unwrap_or}
use Rattle.fca_model.specs.Sets.{Set}
use Rattle.fca_model.specs.Tables.{Text}
use Rattle.fca_model.specs.Implications.{Rule}
use Rattle.fca_model.specs.Exploration.{SetReply}
use Rattle.fca_model.specs.declared.Reply.TheVariants.{Ask, Done, AllHeld, Accepted, Taken, Left, NotHeld, Misses, Keeps, Breaks, Refuted}
use Rattle.fca_model.specs.declared.Reply.TheVariants.{SupersededRow, SupersededBy}
use Rattle.expert_wire.specs.Texts.{line_end, ordinal, pattern, full_text}

-- the name of an attribute. It is empty if there is no such attribute
abbrev pub attribute_text : List Text → ℕ → Text
attribute_text attributes m = unwrap_or (slice_get attributes m) []

-- `I PATTERN`
abbrev pub numbered_row : ℕ → Set → Text
numbered_row place r = ordinal place ++ (codes " " ++ pattern r)

-- `I ` and the full text
abbrev pub numbered_rule : List Text → ℕ → Rule → Text
numbered_rule attributes place i = ordinal place ++ (codes " " ++ full_text attributes i)

-- the text of a reply. The attributes have these names
abbrev pub reply_text : List Text → SetReply → Text
reply_text attributes (Ask q) = codes "ask " ++ full_text attributes q
reply_text attributes Done = codes "done"
reply_text attributes AllHeld = codes "all held"
reply_text attributes (Accepted place) = codes "accepted " ++ ordinal place
reply_text attributes (Taken place) = codes "taken " ++ ordinal place
reply_text attributes Left = codes "left"
reply_text attributes NotHeld = codes "not held"
reply_text attributes (Misses m) = codes "misses " ++ (ordinal m ++ (codes " " ++ attribute_text attributes m))
reply_text attributes Keeps = codes "keeps"
reply_text attributes (Breaks place i) = codes "breaks " ++ numbered_rule attributes place i
reply_text attributes (Refuted place r) = codes "refuted " ++ numbered_row place r
reply_text attributes (SupersededRow place r) = codes "superseded row " ++ numbered_row place r
reply_text attributes (SupersededBy place i) = codes "superseded accepted " ++ numbered_rule attributes place i

-- the line of a reply
abbrev pub reply_line : List Text → SetReply → Text
reply_line attributes reply = reply_text attributes reply ++ line_end

-- the first line of a session, and of a transcript with plain settings
abbrev pub heading : Text
heading = codes "exploration 1"
