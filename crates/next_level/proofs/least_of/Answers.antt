use Rattle.std.proofs.Common.{ap, filter, eqb, sym, subst, ◌∙◌, arith}
use Rattle.fca_model.specs.Sets.{size}
use Rattle.fca_model.proofs.ListLemmas.{list_all-filter_kept}
use Rattle.implication_closure.specs.Closing.{HaveWidth, has_width}
use Rattle.next_level.proofs.least_of.Goals as goal

pub resize_implications-requires : goal.resize_implications-requires
resize_implications-requires g c =
    let even = subst (λ xs. HaveWidth c.args.width xs)
    (sym (c.deref-3.ensures.value ∙ c.in_ok-level.ensures
    ∙ ap (filter (λ i. eqb (size i.premise) c.least_size-size.result)) c.deref-2.ensures.value))
    (list_all-filter_kept (has_width c.args.width)
    (λ i. eqb (size i.premise) c.least_size-size.result) c.args.seen.now.members.items c.requires.even) in
    (omega (arith, c.requires.words), (omega arith, (c.requires.words, (omega arith, (c.requires.narrow, even)))))
