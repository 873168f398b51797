-- What an event adds to the history, and to what its pass knows.
-- Where it succeeds, the history ends in its entry, which is the pass's own; else nothing is added.
use Rattle.std.proofs.Common.{◌≡◌, ℕ, ◌+◌, List, [], ◌∷◌, ◌++◌, sym, refl, ap, ◌∙◌, subst}
use Rattle.std.proofs.Common.{Option, Some, Result, Ok, Err, IfOk, OnErr}
use Rattle.std.proofs.lemmas.List.{append-nil}
use Rattle.turn_lock.specs.Histories.{StartsWith, own_of}
use Rattle.turn_lock.specs.Steps.{Grew}
use Rattle.turn_lock.specs.Passes.{PassModel, Entered}
use Rattle.turn_lock.proofs.HistoryLemmas.{own_of-append, own_of-one, own_of-other}
use Rattle.turn_lock.proofs.TicketLemmas.{same_some}

module _ {B E T F : Type 0} (legal : B → List E → Type 0) (by : E → ℕ) (entry : T → E) (result : Result T F) (log log' : List E) where
  -- the history has grown by entries of this pass
  pub grows : (n : ℕ) (before : List E) → before ≡ log → ((t : T) → by (entry t) ≡ n)
      → IfOk result (λ t. log' ≡ log ++ entry t ∷ []) → OnErr result (log' ≡ log) → Grew by n before log'
  grows n before is of_n added same = elim result as (λ (result : Result T F). IfOk result (λ t. log' ≡ log ++ entry t ∷ [])
      → OnErr result (log' ≡ log) → Grew by n before log') [
        | Ok t ↦ λ added _. (entry t ∷ [], added ∙ ap (λ l. l ++ entry t ∷ []) (sym is), λ k ne. own_of-other by n k (entry t) (of_n t) ne)
        | Err e ↦ λ _ same. ([], same ∙ (sym is ∙ sym (append-nil before)), λ k ne. refl)
      ] added same

  -- and the turn ends in its entry
  pub enters : (p q : PassModel B E) (b : B) (based : Option B) → based ≡ Some b → legal b log' → StartsWith log p.seen
      → p.own ≡ own_of by p.number log → ((t : T) → by (entry t) ≡ p.number)
      → q.seen ≡ log' → q.number ≡ p.number → q.own ≡ own_of by p.number log' → q.made ≡ p.made + 1
      → IfOk result (λ t. log' ≡ log ++ entry t ∷ [])
      → IfOk result (λ t. (b : B) → based ≡ Some b → Entered legal by b p (entry t) q)
  enters p q b based is lawful starts own of_p seen same own' made added =
      elim result as (λ (result : Result T F). IfOk result (λ t. log' ≡ log ++ entry t ∷ [])
      → IfOk result (λ t. (b : B) → based ≡ Some b → Entered legal by b p (entry t) q)) [
        | Err e ↦ λ _. tt
        | Ok t ↦ λ added b' is'. record {
          between = starts.0;
          seen = seen ∙ (added ∙ ap (λ l. l ++ entry t ∷ []) starts.1);
          own = own' ∙ (ap (own_of by p.number) added ∙ (own_of-append by p.number log (entry t ∷ [])
              ∙ (ap (λ l. l ++ own_of by p.number (entry t ∷ [])) (sym own)
              ∙ ap (λ l. p.own ++ l) (own_of-one by p.number (entry t) (of_p t)))));
          in_it = own' ∙ (ap (own_of by p.number) (sym seen) ∙ ap (λ (n : ℕ). own_of by n q.seen) (sym same));
          is_legal = subst (λ (z : B × List E). legal z.0 z.1) (λ i. (same_some b b' (sym is ∙ is') i, sym seen i)) lawful;
          made = made;
        }
      ] added
