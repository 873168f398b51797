use Rattle.std.proofs.Common.{◌≡◌, length, Some, refl, sym, ◌∙◌, arith}
use Rattle.fca_model.specs.Exploration.{first_missing}
use Rattle.attr_bits.proofs.DifferenceLemmas.{first_missing-parts}
use Rattle.attr_bits.proofs.PlaceLemmas.{member_below}
use Rattle.lectic_basis.proofs.WatchLemmas as watch
use Rattle.lectic_basis.proofs.closing.close.Goals as goal

pub loop-z-init : goal.loop-z-init
loop-z-init g c = record { list = refl; closing = watch.closing_start c.requires }

pub settle-requires : goal.settle-requires
settle-requires g c =
    let missing : first_missing 0 c.loop-z.reached c.loop-z.seen ≡ Some c.in-Some.z = sym c.first_missing.ensures ∙ c.in-Some.is in
    let closing = c.loop-z.invariant.closing in
    let room : length c.loop-z.found.buckets ≡ length c.loop-z.reached = closing.filed.room ∙ sym closing.d_wide in
    let member = (first_missing-parts c.loop-z.reached c.loop-z.seen c.in-Some.z missing).0 in
    let above = watch.begun_within c.loop-z.invariant.closing in
    let wide = watch.closing_wide c.loop-z.invariant.closing c.width-width.ensures.even in
    (omega arith, (omega (arith, c.width-width.ensures.words), (room, (member, (above, (closing.agree, (closing.filed.sorted, wide)))))))

pub returns-then-not-branch-clause-moved : goal.returns-then-not-branch-clause-moved
returns-then-not-branch-clause-moved g c =
    let missing : first_missing 0 c.loop-z.reached c.loop-z.seen ≡ Some c.in-Some.z = sym c.first_missing.ensures ∙ c.in-Some.is in
    watch.closing_moved (c.settle.ensures.list ∙ c.loop-z.invariant.list)
    (watch.closing_filed c.loop-z.invariant.closing missing c.in_ok-settle.ensures.settling)
    (watch.closing_kept c.loop-z.invariant.closing missing c.in_ok-settle.ensures.settling)

pub returns-then-not-branch-clause-differs : goal.returns-then-not-branch-clause-differs
returns-then-not-branch-clause-differs g c e =
    let missing : first_missing 0 c.loop-z.reached c.loop-z.seen ≡ Some c.in-Some.z = sym c.first_missing.ensures ∙ c.in-Some.is in
    watch.closing_differs c.loop-z.invariant.closing missing c.in_ok-settle.ensures.settling
    (sym c.in_ok-settle.ensures.agree ∙ c.if-not-branch.true)

pub returns-then-not-branch-clause-bounded : goal.returns-then-not-branch-clause-bounded
returns-then-not-branch-clause-bounded g c =
    let missing : first_missing 0 c.loop-z.reached c.loop-z.seen ≡ Some c.in-Some.z = sym c.first_missing.ensures ∙ c.in-Some.is in
    watch.closing_bounded c.loop-z.invariant.closing missing c.in_ok-settle.ensures.settling

pub insert-requires : goal.insert-requires
insert-requires g c =
    let missing : first_missing 0 c.loop-z.reached c.loop-z.seen ≡ Some c.in-Some.z = sym c.first_missing.ensures ∙ c.in-Some.is in
    omega (
      arith,
      member_below c.loop-z.reached c.in-Some.z (first_missing-parts c.loop-z.reached c.loop-z.seen c.in-Some.z missing).0,
      c.loop-z.invariant.closing.d_wide,
      c.loop-z.invariant.closing.p_wide,
    )

pub loop-z-smaller : goal.loop-z-smaller
loop-z-smaller g c =
    let missing : first_missing 0 c.loop-z.reached c.loop-z.seen ≡ Some c.in-Some.z = sym c.first_missing.ensures ∙ c.in-Some.is in
    watch.closing_smaller c.loop-z.invariant.closing missing c.in_ok-settle.ensures.settling
    (c.in_ok-settle.ensures.finished c.if-not-branch.false) (sym c.in_ok-settle.ensures.agree ∙ c.if-not-branch.false) c.insert.ensures

pub loop-z-preserved : goal.loop-z-preserved
loop-z-preserved g c =
    let missing : first_missing 0 c.loop-z.reached c.loop-z.seen ≡ Some c.in-Some.z = sym c.first_missing.ensures ∙ c.in-Some.is in
    record {
      list = c.settle.ensures.list ∙ c.loop-z.invariant.list;
      closing = watch.closing_next c.loop-z.invariant.closing missing c.in_ok-settle.ensures.settling
          (c.in_ok-settle.ensures.finished c.if-not-branch.false)
          (sym c.in_ok-settle.ensures.agree ∙ c.if-not-branch.false) c.insert.ensures;
    }

pub returns-clause-moved : goal.returns-clause-moved
returns-clause-moved g c = watch.closing_moved c.loop-z.invariant.list c.loop-z.invariant.closing.filed c.loop-z.invariant.closing.kept

pub returns-clause-bounded : goal.returns-clause-bounded
returns-clause-bounded g c = c.loop-z.invariant.closing.bounded

pub returns-clause-closure : goal.returns-clause-closure
returns-clause-closure g c e = watch.closing_end c.loop-z.invariant.closing c.requires.wide (sym c.first_missing.ensures ∙ c.in_default.is)
