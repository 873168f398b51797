use Rattle.std.proofs.Common.{◌≡◌, ◌∙◌, ◌++◌, ◌∷◌, [], All, List, length, replicate, false, sym, ap, ap₂, subst, arith}
use Rattle.std.proofs.lemmas.List.{length-replicate, replicate_more}
use Rattle.std.proofs.lemmas.List.Elements.{All-replicate}
use Rattle.fca_model.specs.Sets.{Set}
use Rattle.extent_blocks.proofs.ColumnLemmas.{empty_column}
use Rattle.extent_blocks.proofs.rows.empty_blocks.Goals as goal

pub loop-preserved : goal.loop-preserved
loop-preserved c =
    c.in_ok-push.ensures.items
    ∙ ap₂ (λ (Bs : List Set) (B : Set). Bs ++ B ∷ []) c.loop.invariant c.empty.ensures
    ∙ replicate_more c.loop.counter (replicate 256 false)

pub returns-clause-room : goal.returns-clause-room
returns-clause-room c = ap length c.loop.invariant ∙ length-replicate c.loop.counter (replicate 256 false) ∙ omega arith

pub returns-clause-wide : goal.returns-clause-wide
returns-clause-wide c =
    subst (All (λ (B : Set). length B ≡ 256)) (sym c.loop.invariant)
    (All-replicate (λ (B : Set). length B ≡ 256) c.loop.counter (replicate 256 false) (length-replicate 256 false))

pub returns-clause-empty : goal.returns-clause-empty
returns-clause-empty c = empty_column c.loop.counter c.loop.blocks.items c.loop.invariant
