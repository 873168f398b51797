use Rattle.std.proofs.Common.{◌∙◌, ◌∷◌, ◌++◌, [], ap, sym, subst, replicate, false, map, arith}
use Rattle.fca_model.specs.Implications.{Rule}
use Rattle.fca_model.specs.Levels.{by_size}
use Rattle.implication_closure.specs.Closing.{RuleList, HaveWidth}
use Rattle.pseudo_levels.specs.Search.{AreWide, HaveLarger, IsOpened}
use Rattle.pseudo_levels.proofs.LevelLemmas.{levels_none, levels_next, levels_all, leads_first, leads_more, first_wide, found_below}
use Rattle.pseudo_levels.proofs.LevelLemmas.{members_wide, conclusions_grow}
use Rattle.pseudo_levels.proofs.LeastLemmas.{by_size_least, list_is}
use Rattle.pseudo_levels.proofs.basis_by_levels.Goals as goal

pub loop-size-init : goal.loop-size-init
loop-size-init g c =
    let first = c.in_ok-candidates.ensures ∙ ap (λ n. replicate n false ∷ []) c.width-2.ensures.width in
    record {
      width = ap (λ (l : RuleList). l.width) c.in_ok-found.ensures ∙ c.width.ensures.width;
      members = ap (λ (l : RuleList). l.members) c.in_ok-found.ensures ∙ levels_none [] c.args.rows.now;
      leads_all = leads_first [] c.args.rows.now c.in_ok-found.found.members c.in_ok-candidates.candidates first;
      wide = first_wide c.args.rows.now c.in_ok-candidates.candidates first;
    }

pub next_members-requires-clause-wide : goal.next_members-requires-clause-wide
next_members-requires-clause-wide g c _ _ = subst (λ n. AreWide n c.loop-size.candidates)
    (sym c.loop-size.invariant.width) c.loop-size.invariant.wide

pub extend_from_slice-requires : goal.extend_from_slice-requires
extend_from_slice-requires g c =
    let K = c.args.rows.now in
    let k = c.loop-size.size in
    let found = c.loop-size.found.members in
    let opened : IsOpened [] K k found c.in_ok-members.members.items c.next_members.new.candidates =
    c.in_ok-members.ensures.opened (found_below [] K k found c.loop-size.invariant.members) c.loop-size.invariant.leads_all in
    subst (λ n. HaveWidth n c.deref-in-loop-size.result.now) (sym c.loop-size.invariant.width)
    (subst (λ ms. HaveWidth K.width ms) (sym c.deref-in-loop-size.ensures.value)
    (members_wide [] K k c.in_ok-members.members.items opened.members_are))

pub loop-size-preserved : goal.loop-size-preserved
loop-size-preserved g c =
    let K = c.args.rows.now in
    let k = c.loop-size.size in
    let found = c.loop-size.found.members in
    let width = c.loop-size.invariant.width in
    let below = found_below [] K k found c.loop-size.invariant.members in
    let mid = c.next_members.new.candidates in
    let new = c.grow_by.new.candidates in
    let members = c.in_ok-members.members.items in
    let opened : IsOpened [] K k found members mid = c.in_ok-members.ensures.opened below c.loop-size.invariant.leads_all in
    let closures = ap (map (λ (i : Rule). i.conclusion)) c.deref.ensures.value in
    let grows = conclusions_grow [] K k members (map (λ (i : Rule). i.conclusion) c.deref.result.now) mid new opened.members_are closures
    c.in_ok-grow_by.ensures.grows in
    let more = ap (λ (l : RuleList). l.members) c.in_ok-extend_from_slice.ensures.ok
    ∙ ap (λ ms. found ++ ms) c.deref-in-loop-size.ensures.value in
    record {
      width = ap (λ (l : RuleList). l.width) c.in_ok-extend_from_slice.ensures.ok ∙ width;
      members = levels_next [] K k found members c.extend_from_slice.new.self.members c.loop-size.invariant.members opened.members_are more;
      leads_all = leads_more [] K k found members c.extend_from_slice.new.self.members mid new below opened
          (subst (λ Cs. HaveLarger Cs new) closures c.in_ok-grow_by.ensures.grown) grows more;
      wide = grows.wide (subst (λ n. AreWide n mid) width
          (c.in_ok-members.ensures.grows.wide (subst (λ n. AreWide n c.loop-size.candidates) (sym width) c.loop-size.invariant.wide)));
    }

pub returns-clause-members : goal.returns-clause-members
returns-clause-members g c =
    c.into_list.ensures ∙ list_is c.loop-size.found c.args.rows.now.width (by_size [] c.args.rows.now) c.loop-size.invariant.width
    (levels_all [] c.args.rows.now c.loop-size.size c.loop-size.found.members
    (omega (arith, c.width-size-end.ensures.width)) c.loop-size.invariant.members)

pub returns-clause-least : goal.returns-clause-least
returns-clause-least g c = by_size_least c.args.rows.now c.into_list.result.members
    (ap (λ (l : RuleList). l.members) c.into_list.ensures
    ∙ levels_all [] c.args.rows.now c.loop-size.size c.loop-size.found.members
    (omega (arith, c.width-size-end.ensures.width)) c.loop-size.invariant.members)
