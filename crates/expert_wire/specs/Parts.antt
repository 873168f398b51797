-- The parts of a line, and what a call that writes a text does to a sink.
use Rattle.std.specs.Prelude.{◌≡◌, ◌≤◌, ℕ, Option, Result, List, decimal, OnOk, OnErr}
use Rattle.std.specs.List.{flat_map}
use Rattle.std.specs.Io.KnownBytes.{Appends, Keeps}
use Rattle.fca_io.specs.Faults.{Rose, ReadCounts}
use Rattle.fca_io.specs.Transfers.{AppendsFront}
use Rattle.fca_io.specs.declared.outside.Put.{Put}
use Rattle.fca_model.specs.Tables.{Text}
use Rattle.expert_wire.specs.declared.parts.Part.{Part}
use Rattle.expert_wire.specs.declared.parts.Part.TheVariants.{Bytes, Number, Ordinal, Pattern, Braces}
use Rattle.expert_wire.specs.Texts.{ordinal, pattern, braces_text}

-- the text of a part. The attributes have these names
abbrev pub part_text : List Text → Part → Text
part_text attributes (Bytes bytes) = bytes.now
part_text attributes (Number n) = decimal n
part_text attributes (Ordinal place) = ordinal place
part_text attributes (Pattern A) = pattern A
part_text attributes (Braces A) = braces_text attributes A

-- the text of parts, one after the other
abbrev pub parts_text : List Text → List Part → Text
parts_text attributes parts = flat_map (part_text attributes) parts

-- What a call that writes a text does to a sink. If it succeeds, the sink gains the text, and its count of faults stays. Else the sink
-- gains a front of the text, and the count rises.
pub record Writes (held held' : Option Text) (faults faults' : ℕ) (other other' : Option Text) (aside aside' : ReadCounts) (text : Text)
    (result : Result (Unit {0}) Put) : Type 0 where
  pub whole : OnOk result (Appends held held' text)
  pub front : AppendsFront held held' text
  pub quiet : OnOk result (faults' ≡ faults)
  pub failed : OnErr result (Rose faults faults')
  pub only_rise : faults ≤ faults'
  pub beside : Keeps other other'
  pub same_beside : aside' ≡ aside

-- what a call that writes a text does to a sink, by the members of its trait and by the sink before and after
abbrev pub WritesTo : {S : Type 0} → (S → Option Text) → (S → ℕ) → (S → Option Text) → (S → ReadCounts) → S → S → Text
    → Result (Unit {0}) Put → Type 0
WritesTo held faults beside read_counts_beside sink sink' text result =
    Writes (held sink) (held sink') (faults sink) (faults sink') (beside sink) (beside sink') (read_counts_beside sink)
    (read_counts_beside sink') text result
