use Rattle.std.proofs.Common.{◌≡◌, ◌+◌, ◌<◌, suc, length, subst, arith}
use Rattle.next_level.specs.Branches.{AreOpen, in_part, in_parts}
use Rattle.next_level.proofs.BranchLemmas.{root_wide, parts_start, parts_more, parts_long, open_at, all_parts}
use Rattle.next_level.proofs.branches.LevelWalk.join_parts.Goals as goal

pub loop-part-init : goal.loop-part-init
loop-part-init g c =
    let self = c.args.self.now in
    let wide = root_wide self.root in
    parts_start self.list.members self.indexed self.least c.args.count (omega (arith, wide, c.requires.inside)) c.args.limits.bound
    c.new-all.result.bound c.new-all.result.members.items c.new-all.ensures.bound c.new-all.ensures.members

pub loop-part-preserved : goal.loop-part-preserved
loop-part-preserved g c =
    let self = c.args.self.now in
    let J = self.list.members in
    let K = self.indexed in
    let A = self.least in
    let n = c.args.count in
    let b = c.args.limits.bound in
    let wide = root_wide self.root in
    let k = c.loop-part.part in
    let long = parts_long J K A n b c.args.parts.now c.requires.parts in
    let next : suc k ≡ k + 1 = omega arith in
    let here = open_at J K A n b c.args.parts.now c.requires.parts c.place_of.result c.index-parts-place_of.result
    (omega (arith, long, c.place_of.ensures.inside)) c.index-parts-place_of.is in
    let last = subst (λ m. AreOpen J K (in_part n m A) b c.index-parts-place_of.result.bound c.index-parts-place_of.result.members.items) c.place_of.ensures.place here in
    let new = c.in_ok-append.ensures in
    subst (λ m. AreOpen J K (in_parts n m A) b c.append.new.self.bound c.append.new.self.members.items) next
    (parts_more J K A n (omega (arith, wide, c.requires.inside)) k (omega (arith, c.loop-part-test.true)) b c.loop-part.invariant last
    c.append.new.self.bound c.append.new.self.members.items new.bound new.members)

pub returns : goal.returns
returns g c =
    let self = c.args.self.now in
    let J = self.list.members in
    let K = self.indexed in
    let A = self.least in
    let n = c.args.count in
    let b = c.args.limits.bound in
    let wide = root_wide self.root in
    let all = c.loop-part.all in
    let whole : c.loop-part.part ≡ n + 1 = omega (arith, c.loop-part-test.false) in
    let done = subst (λ m. AreOpen J K (in_parts n m A) b all.bound all.members.items) whole c.loop-part.invariant in
    record {
      listed = all_parts J K A n (omega (arith, wide, c.requires.inside)) all.bound all.members.items done.listed;
      steady = done.steady;
    }

pub bounds-parts-place_of : goal.bounds-parts-place_of
bounds-parts-place_of g c =
    let self = c.args.self.now in
    let long = parts_long self.list.members self.indexed self.least c.args.count c.args.limits.bound c.args.parts.now c.requires.parts in
    omega (arith, long, c.place_of.ensures.inside)
