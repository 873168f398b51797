-- Oracles of tables of one context: each table is like it.
use Rattle.std.proofs.Common.{◌≡◌, ℕ, List, [], true, sym, subst}
use Rattle.std.specs.List.{list_all, list_any}
use Rattle.fca_model.specs.declared.TheConstants.{MAX_EXPERTS}
use Rattle.fca_model.specs.Sets.{same}
use Rattle.fca_model.specs.Context.{Context}
use Rattle.fca_model.specs.Tables.{NamedContext}
use Rattle.fca_model.specs.Implications.{holds}
use Rattle.fca_model.specs.Pseudo.{basis_known}
use Rattle.fca_model.specs.Invariant.{SameMembers, rows_respect}
use Rattle.fca_model.specs.Exploration.{State, Settings, RowName, SetEntry, open_in, opening, state_after, events_of, IsLegal, own}
use Rattle.oracle_expert.specs.Oracles.{no_conflict}
use Rattle.oracle_expert.specs.Runs.{IsOracleFront, conflicts_of}
use Rattle.oracle_expert.proofs.LikeLemmas.{IsLike, like_itself}
use Rattle.oracle_expert.proofs.LikeLemmas as likes

module _ (D : Context) (tables : ℕ → NamedContext) (one : (e : ℕ) → (tables e).context ≡ D) where
  like : (e : ℕ) → IsLike D (tables e).context
  like e = subst (IsLike D) (sym (one e)) (like_itself D)

  module _ (K : Context) (names : List RowName) (settings : Settings) (H : List SetEntry)
      (respecting : rows_respect settings.known K ≡ true) (most : settings.holders ≡ MAX_EXPERTS)
      (known : list_all (holds D) settings.known ≡ true) (legal : IsLegal (opening K names settings) H) (wide : D.width ≡ K.width)
      (part : list_all (λ row. list_any (same row) D.rows) K.rows ≡ true)
      (runs : (e : ℕ) → IsOracleFront (tables e) e (own H e)) where
    abbrev final : State
    final = state_after (opening K names settings) (events_of H)

    pub nothing_dropped : (e : ℕ) → conflicts_of (tables e) (own H e) ≡ no_conflict (tables e)
    nothing_dropped = likes.nothing_dropped D tables like K names settings H respecting most known legal wide part runs

    module _ (done : open_in final ≡ []) where
      pub one_basis : basis_known settings.known final.context ≡ basis_known settings.known D
      one_basis = likes.one_basis D tables like K names settings H respecting most known legal wide part runs done

      pub one_accepted : SameMembers final.accepted (basis_known settings.known D)
      one_accepted = likes.one_accepted D tables like K names settings H respecting most known legal wide part runs done
