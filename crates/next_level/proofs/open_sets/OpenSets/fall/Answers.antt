use Rattle.std.proofs.Common.{length, vec_len, ap, sym, filter, leb, eq-eqb, ◌∙◌, arith}
use Rattle.std.proofs.lemmas.Bool.{false≢true}
use Rattle.fca_model.specs.Sets.{size}
use Rattle.next_level.proofs.NextLevelLemmas.{open_lower}
use Rattle.next_level.proofs.LevelWalkLemmas.{steady_same}
use Rattle.next_level.proofs.open_sets.OpenSets.fall.Goals as goal

pub returns-then-is_empty-clause-steady : goal.returns-then-is_empty-clause-steady
returns-then-is_empty-clause-steady g c = steady_same

pub returns-clause-listed : goal.returns-clause-listed
returns-clause-listed g c J K p h = c.in_ok-kept.ensures
    ∙ ap (filter (λ i. leb (size i.premise) c.least_size-least.result)) c.deref-2.ensures.value
    ∙ open_lower J K c.args.self.now.bound c.least_size-least.result p c.args.self.now.members.items c.least_size-least.ensures.at_most h

pub returns-clause-steady : goal.returns-clause-steady
returns-clause-steady g c =
    let kept = c.in_ok-kept.kept in
    record {
      empty = λ e. absurd (false≢true (sym c.if-is_empty.false ∙ c.is_empty.ensures
          ∙ eq-eqb (vec_len kept) 0 (omega (arith, kept.ok.0, ap length e))));
      bound = λ e. absurd (false≢true (sym c.if-is_empty.false ∙ c.is_empty.ensures
          ∙ eq-eqb (vec_len kept) 0 (omega (arith, kept.ok.0, ap length e))));
    }
