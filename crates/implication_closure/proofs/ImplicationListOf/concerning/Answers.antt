use Rattle.std.proofs.Common.{sym, subst}
use Rattle.fca_model.proofs.ListLemmas.{list_all-filter_kept}
use Rattle.implication_closure.specs.Closing.{has_width, HaveWidth}
use Rattle.implication_closure.specs.Concerns.{concerns}
use Rattle.implication_closure.proofs.ImplicationListOf.concerning.Goals as goal

pub invariant_of-result : goal.invariant_of-result
invariant_of-result g c =
    let width = c.self.inside.width in
    record {
      words = c.self.invariant.words;
      narrow = c.self.invariant.narrow;
      even = subst (HaveWidth width) (sym c.in_ok-members.ensures)
          (list_all-filter_kept (has_width width) (concerns c.args.from c.args.x.now) c.deref.result.now
          (subst (HaveWidth width) (sym c.deref.ensures.value) c.self.invariant.even));
    }
