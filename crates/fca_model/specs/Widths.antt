-- The width of the sets in an exploration: each has as many places as the context has attributes.
use Rattle.std.specs.Prelude.{◌≡◌, ◌<◌, ℕ, length}
use Rattle.fca_model.specs.declared.Reply.TheVariants.{Ask, Misses, Breaks, Refuted, SupersededRow, SupersededBy}
use Rattle.fca_model.specs.Implications.{Rule}
use Rattle.fca_model.specs.Exploration.{SetReply}

-- both sets of the implication have the width n
abbrev pub IsWide : ℕ → Rule → Type 0
IsWide n i = (length i.premise ≡ n) × (length i.conclusion ≡ n)

-- all sets of the reply have the width n, and a missing attribute is one of n
abbrev pub HasWideReply : ℕ → SetReply → Type 0
HasWideReply n (Ask question) = IsWide n question
HasWideReply n (Misses attribute) = attribute < n
HasWideReply n (Breaks place i) = IsWide n i
HasWideReply n (Refuted place row) = length row ≡ n
HasWideReply n (SupersededRow place row) = length row ≡ n
HasWideReply n (SupersededBy place i) = IsWide n i
HasWideReply n _ = Unit {0}
