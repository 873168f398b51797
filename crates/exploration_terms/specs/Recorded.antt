-- Which replies say that an answer was recorded.
use Rattle.std.specs.Prelude.{Bool, true, false}
use Rattle.fca_model.specs.declared.Reply.TheVariants.{Accepted, Taken}
use Rattle.fca_model.specs.Exploration.{SetReply}

-- the reply says that an answer was recorded
abbrev pub is_recorded : SetReply → Bool
is_recorded (Accepted k) = true
is_recorded (Taken k) = true
is_recorded reply = false
