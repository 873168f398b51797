use Rattle.std.proofs.Common.{◌≡◌, ◌≤◌, ◌+◌, ◌-◌, ap, ◌∙◌, arith, subst}
use Rattle.std.specs.Prelude.{IfOk}
use Rattle.std.specs.List.{AllZip, range_with_len}
use Rattle.std.specs.declared.result.Result.{Result}
use denote.Param.Members.{lent}
use Rattle.rayon.specs.Numbers.{nat_range}
use Rattle.rayon.proofs.ToStd.{nat_range-All}
use Rattle.next_level.specs.Branches.{AreOpen, in_part, part_at}
use Rattle.next_level.specs.declared.open_sets.OpenSets.{OpenSets}
use Rattle.next_level.proofs.BranchLemmas.{parts_told}
use Rattle.next_level.proofs.branches.LevelWalk.walk_parts.Goals as goal

pub collect-parts-requires-clause-ready : goal.collect-parts-requires-clause-ready
collect-parts-requires-clause-ready g c κs within =
    let ends = c.into_par_iter.ensures in
    let inside = nat_range-All (λ k. k ≤ c.args.count) 0 (c.args.count + 1) (λ k low high. omega (arith, high)) in
    rw (c.with_min_len.ensures.base, c.map.ensures.base, c.map.ensures.f, ends.0, ends.1) (λ k d lt. (
      (
        omega (arith, c.width-width.ensures.words),
        (omega arith, (inside k d lt, c.requires.inside, c.requires.small)),
      ),
      λ y p. tt,
    ))

along : {F : Type 0} {f h : F} → f ≡ h → (Q : F → Type 0) → Q f → Q h
along same Q q = subst Q same q

pub returns-in-Ok : goal.returns-in-Ok
returns-in-Ok g c =
    let self = c.args.self.now in
    let n = c.args.count in
    let ends = c.into_par_iter.ensures in
    let whole : (n + 1) - 0 ≡ n + 1 = omega arith in
    let told = c.in-Ok.ensures in
    let chain = rw (c.with_min_len.ensures.base, c.map.ensures.base) at told.1.1 in
    let numbers = chain ∙ (λ i. nat_range (ends.0 i) (ends.1 i)) ∙ ap (range_with_len 0) whole in
    let same = ap (λ m. m.f) c.with_min_len.ensures.base ∙ c.map.ensures.f in
    let each = along same (λ f. AllZip (λ k (s : Result (OpenSets g.row.W) _). IfOk s (λ sets.
    AreOpen (lent f).now.0.now.list.members (lent f).now.0.now.indexed (in_part (lent f).now.2.now (part_at (lent f).now.2.now k) (lent f).now.0.now.least)
    (lent f).now.3.now.bound sets.bound sets.members.items)) told.1.0 told.0) told.1.2 in
    parts_told self.list.members self.indexed self.least n c.args.limits.bound _ told.1.0 told.0 _ numbers each told.2
