-- What err gained, and what became of what a command came to.
use Rattle.std.proofs.Common.{◌≡◌, ◌<◌, ◌++◌, ℕ, suc, List, length, drop, get_or, Option, Some, Result, Ok, Err, inl, inr, sym, ap, subst}
use Rattle.std.proofs.Math.Seq.{drop-cons}
use Rattle.std.specs.List.{flat_map}
use Rattle.std.specs.Prelude.{IfErr, IsErrAnd}
use Rattle.fca_io.specs.Faults.{ReadCounts}
use Rattle.fca_io.specs.declared.outside.Put.{Put}
use Rattle.fca_model.specs.Tables.{Text}
use Rattle.expert_wire.specs.Parts.{Writes}
use Rattle.command_io.specs.Streams.{Moment, GainsLine}

-- what is left of parts begins with the one at hand
pub flat_map-drop_or : {X : Type 0} (f : X → Text) (xs : List X) (i : ℕ) (other : X) → i < length xs
    → flat_map f (drop i xs) ≡ f (get_or xs i other) ++ flat_map f (drop (suc i) xs)
flat_map-drop_or f xs i other h = ap (flat_map f) (drop-cons xs i other h)

pub writes-gain : {E : Type 0} (old new : Moment E) {o o' : Option Text} {a a' : ReadCounts} {line : Text} (r : Result (Unit {0}) Put)
    → Writes old.bytes new.bytes old.faults new.faults o o' a a' line r → GainsLine (Some line) old new
writes-gain old new (Ok done) w = inl (w.whole, w.quiet)
writes-gain old new (Err fault) w = inr (w.front, w.failed)

-- what the exit of a `?` returns
pub err-passed : {X F : Type 0} (r : Result X F) (e : F) (P : F → Type 0) → IsErrAnd r (λ passed. passed ≡ e) → P e → IfErr r P
err-passed (Ok x) e P passed p = tt
err-passed (Err f) e P passed p = subst P (sym passed) p
