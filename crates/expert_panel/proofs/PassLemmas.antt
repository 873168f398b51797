-- Turn after turn of one pass. Each turn goes on from the history that the pass has seen, and what the pass knows after a turn is right
-- whatever it knew before, so the turns of a run add up.
use Rattle.std.proofs.Common.{◌≡◌, ◌<◌, ◌⊎◌, List, [], ◌∷◌, ◌++◌, append_assoc, sym, ap, ◌∙◌, refl, inl, inr, arith}
use Rattle.std.proofs.lemmas.List.{append-nil}
use Rattle.fca_model.specs.Exploration.{SetEvent, SetReply, SetEntry}
use Rattle.explore_state.specs.History.{Opening}
use Rattle.turn_lock.specs.Histories.{StartsWith}
use Rattle.turn_lock.specs.Passes.{PassModel, Badge, Lock, Belongs, badge}
use Rattle.expert_gate.specs.Turns.{RepliesTo, Looks}
use Rattle.expert_panel.specs.Passes.{HasMade}

pub belongs_by : (l : Lock Opening) (p q : PassModel Opening SetEntry) → badge q ≡ badge p → Belongs l p → Belongs l q
belongs_by l p q e b = record {
  lock = ap (λ (c : Badge Opening). c.lock) e ∙ b.lock;
  base = ap (λ (c : Badge Opening). c.base) e ∙ b.base;
  turns = ap (λ (c : Badge Opening). c.turns) e ∙ b.turns;
  number =
      let same : q.number ≡ p.number = ap (λ (c : Badge Opening). c.number) e in
      let within = b.number in
      (omega arith, omega arith);
}

starts_on : (a b c : List SetEntry) → StartsWith b a → StartsWith c b → StartsWith c a
starts_on a b c h k = (h.0 ++ k.0, k.1 ∙ ap (λ xs. xs ++ k.0) h.1 ∙ append_assoc a h.0 k.0)

module _ (o : Opening) (p : PassModel Opening SetEntry) where
  pub HasMade-none : HasMade o p [] p
  HasMade-none = record { same = refl; own = sym (append-nil p.own); seen = ([], sym (append-nil p.seen)); in_it = still; is_legal = still }
    where
      still : {P : Type 0} → P ⊎ (p.made < p.made) → P
      still (inl h) = h
      still (inr none) = absurd (omega (arith, none))

  -- one entry more
  pub HasMade-entry : (entries : List SetEntry) (q r : PassModel Opening SetEntry) (event : SetEvent) (reply : SetReply) → HasMade o p entries q
      → RepliesTo o q event reply r → badge r ≡ badge q
      → HasMade o p (entries ++ record { event = event; reply = reply } ∷ []) r
  HasMade-entry entries q r event reply made turn same =
      let entry : SetEntry = record { event = event; reply = reply } in
      record {
        same = same ∙ made.same;
        own = turn.own ∙ ap (λ xs. xs ++ entry ∷ []) made.own ∙ append_assoc p.own entries (entry ∷ []);
        seen = starts_on p.seen q.seen r.seen made.seen
            (turn.between ++ entry ∷ [], turn.seen ∙ append_assoc q.seen turn.between (entry ∷ []));
        in_it = λ _. turn.in_it;
        is_legal = λ _. turn.is_legal;
      }

  -- a turn with no entry
  pub HasMade-look : (entries : List SetEntry) (q r : PassModel Opening SetEntry) → HasMade o p entries q → Looks o q r → badge r ≡ badge q
      → HasMade o p entries r
  HasMade-look entries q r made turn same = record {
    same = same ∙ made.same;
    own = turn.own ∙ made.own;
    seen = starts_on p.seen q.seen r.seen made.seen turn.seen;
    in_it = λ _. turn.in_it;
    is_legal = λ _. turn.is_legal;
  }
