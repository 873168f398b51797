-- The histories of an exploration.
use Rattle.std.specs.Prelude.{ℕ, List, [], ◌∷◌, ◌++◌, All}
use Rattle.std.proofs.lemmas.List.Elements.{All-nil, All-cons, All-head, All-tail}
use Rattle.fca_model.specs.Exploration.{SetEntry, expert_of, IsLegal}
use Rattle.fca_model.specs.Widths.{HasWideReply}
use Rattle.fca_model.proofs.RunLemmas.{legal_front}
use Rattle.explore_state.specs.History.{Opening, opening_state}

-- the expert of an entry
abbrev pub by_expert : SetEntry → ℕ
by_expert entry = expert_of entry.event

-- the entry's reply has sets of the width of the table
abbrev pub IsWideEntry : Opening → SetEntry → Type 0
IsWideEntry o entry = HasWideReply o.table.context.width entry.reply

-- A history of an exploration that was opened so. It is legal, and so its sets have the width of the table
pub record IsHistory (o : Opening) (H : List SetEntry) : Type 0 where
  pub legal : IsLegal (opening_state o) H
  pub wide : All (IsWideEntry o) H

All-front : {X : Type 0} (P : X → Type 0) (xs ys : List X) → All P (xs ++ ys) → All P xs
All-front P [] ys all = All-nil P
All-front P (x ∷ xs) ys all = All-cons P x xs (All-head P x (xs ++ ys) all) (All-front P xs ys (All-tail P x (xs ++ ys) all))

-- each history that one goes on from is a history
pub history_front : (o : Opening) (H J : List SetEntry) → IsHistory o (H ++ J) → IsHistory o H
history_front o H J h = record { legal = legal_front (opening_state o) H J h.legal; wide = All-front (IsWideEntry o) H J h.wide }
