-- The sets of a reply have the width of the table, since it is the last of a history.
use Rattle.std.proofs.Common.{◌≡◌, List, [], ◌∷◌, ◌++◌, All, Result, Ok, Err, IfOk, ap, subst}
use Rattle.std.proofs.lemmas.List.Elements.{All-head, All-tail}
use Rattle.fca_model.specs.Exploration.{SetEvent, SetReply, SetEntry}
use Rattle.fca_model.specs.Widths.{HasWideReply}
use Rattle.explore_state.specs.History.{Opening, ExploreModel, IsStep}
use Rattle.turn_lock.specs.Passes.{PassModel}
use Rattle.expert_gate.specs.Histories.{IsWideEntry}
use Rattle.expert_gate.specs.Turns.{RepliesTo}

All-last : {X : Type 0} (P : X → Type 0) (xs : List X) (x : X) → All P (xs ++ x ∷ []) → P x
All-last P [] x all = All-head P x [] all
All-last P (y ∷ xs) x all = All-last P xs x (All-tail P y (xs ++ x ∷ []) all)

pub answer_wide : {F : Type 0} (o : Opening) (p q : PassModel Opening SetEntry) (event : SetEvent) (result : Result SetReply F)
    → IfOk result (λ reply. RepliesTo o p event reply q) → IfOk result (HasWideReply o.table.context.width)
answer_wide o p q event (Ok reply) turn = All-last (IsWideEntry o) (p.seen ++ turn.between) (record { event = event; reply = reply })
    (subst (All (IsWideEntry o)) turn.seen turn.is_legal.wide)
answer_wide o p q event (Err e) turn = tt

pub step_wide : (old new : ExploreModel) (event : SetEvent) (reply : SetReply) → IsStep old new event reply
    → All (λ (entry : SetEntry). HasWideReply new.opening.table.context.width entry.reply) new.journal
    → HasWideReply old.opening.table.context.width reply
step_wide old new event reply step wide =
    subst (λ (o : Opening). HasWideReply o.table.context.width reply) step.opening
    (All-last (IsWideEntry new.opening) old.journal (record { event = event; reply = reply })
    (subst (All (IsWideEntry new.opening)) step.journal wide))
