use Rattle.std.proofs.Common.{◌≡◌, ◌∙◌, ℕ, All, length, sym, ap, subst}
use Rattle.std.specs.List.{list_all}
use Rattle.fca_model.specs.Sets.{Set}
use Rattle.fca_model.specs.Context.{Context}
use Rattle.fca_model.specs.Tables.{NamedContext}
use Rattle.fca_model.specs.Implications.{Rule}
use Rattle.fca_model.specs.Invariant.{SameMembers}
use Rattle.fca_model.specs.Pseudo.{basis_known}
use Rattle.oracle_expert.specs.Intents.{HasIntentsOf}
use Rattle.oracle_expert.proofs.IntentLemmas.{of_intents, intents_among, known-intents, one_basis-intents}
use Rattle.oracle_expert.proofs.LikeLemmas.{IsLike, like_intents, nothing_dropped, one_basis, one_accepted}
use Rattle.oracle_expert.proofs.laws.same_intents_same_basis.Goals as goal

alike : (C : Context) (tables : ℕ → NamedContext) → ((e : ℕ) → HasIntentsOf C (tables e).context)
    → ((e : ℕ) → All (λ (row : Set). length row ≡ (tables e).context.width) (tables e).context.rows) → (e : ℕ)
    → IsLike (of_intents C) (tables e).context
alike C tables same even e = like_intents C (tables e).context (same e) (even e)

pub returns : goal.returns
returns c = record {
  no_row_dropped = λ C K names settings H tables respecting most known legal wide part same even runs.
      nothing_dropped (of_intents C) tables (alike C tables same even) K names settings H respecting most
      (known-intents C settings.known known) legal wide (intents_among C K.rows part) runs;
  basis = λ C K names settings H tables respecting most known legal wide part same even runs done.
      one_basis (of_intents C) tables (alike C tables same even) K names settings H respecting most
      (known-intents C settings.known known) legal wide (intents_among C K.rows part) runs done
      ∙ one_basis-intents settings.known C;
  accepted = λ C K names settings H tables respecting most known legal wide part same even runs done.
      λ p. one_accepted (of_intents C) tables (alike C tables same even) K names settings H respecting most
      (known-intents C settings.known known) legal wide (intents_among C K.rows part) runs done p
      ∙ ap (list_all p) (one_basis-intents settings.known C);
}
