use Rattle.std.proofs.Common.{List, map, sym, ap, ◌∙◌, subst}
use Rattle.fca_model.specs.Implications.{Rule}
use Rattle.implication_closure.specs.Closing.{RuleList}
use Rattle.pseudo_levels.specs.Index.{IsFiled, IsPut}
use Rattle.pseudo_levels.proofs.IndexLemmas.{filed_more}
use Rattle.pseudo_levels.proofs.member_index.MemberIndex.push.Goals as goal

pub invariant_of-self-in-Ok : goal.invariant_of-self-in-Ok
invariant_of-self-in-Ok c =
    let old : List (List Rule) = map (λ v. v.items) c.self.inside.buckets.items in
    let new : List (List Rule) = map (λ v. v.items) c.file.new.buckets.items in
    subst (λ (J : RuleList). IsFiled J.width J.members new) (sym c.in_ok-push.ensures.ok)
    (filed_more c.self.inside.list.width c.self.inside.list.members old new c.args.i c.self.invariant
    (subst (λ n. IsPut n old new c.args.i) (c.requires.premise
    ∙ sym (ap (λ (J : RuleList). J.width) c.self.view_is)) c.in-Ok.ensures.ok))
