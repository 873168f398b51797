use Rattle.std.proofs.Common.{◌≡◌, ℕ, ◌+◌, ◌≤◌, ◌*◌, ◌∙◌, ◌++◌, List, length, take, drop, sym, ap, subst, arith}
use Rattle.fca_model.specs.Sets.{Set, full}
use Rattle.fca_model.specs.Tables.{Text}
use Rattle.fca_model.proofs.SetLemmas.{length-full}
use Rattle.attr_bits.specs.Difference.{minus}
use Rattle.attr_bits.proofs.DifferenceLemmas.{length-minus}
use Rattle.table_texts.specs.Joined.{joined, AreJoined}
use Rattle.table_texts.proofs.JoinedLemmas.{joined-mono, length-joined, stretch_more, stretch_all}
use Rattle.table_texts.proofs.attribute_names.AttributeNames.put_nearly_all.Goals as goal

-- as wide as the set
as_wide : (n : ℕ) (F D A : Set) → n ≡ length A → F ≡ full n → D ≡ minus F A → length D ≡ length A
as_wide n F D A width whole lacking = ap length lacking ∙ length-minus F A ∙ ap length whole ∙ length-full n ∙ width

-- all names are no longer than their pieces may be
short : (names pieces : List Text) (text : Text) (starts : List ℕ) → pieces ≡ names → AreJoined pieces text starts
    → length (joined names) ≤ 257 * length names
short names pieces text starts same h = let k : AreJoined names text starts = subst (λ (ns : List Text). AreJoined ns text starts) same h in
    omega (arith, ap length k.whole, k.short)

pub next_member-requires : goal.next_member-requires
next_member-requires g c =
    let wide = as_wide c.width.result c.full.result c.minus-lacking.result c.args.set.now c.width.ensures.width c.full.ensures
    c.minus-lacking.ensures in
    (omega arith, omega (arith, wide, c.loop-other.invariant.in_range))

pub put_between-end-requires-clause-inside : goal.put_between-end-requires-clause-inside
put_between-end-requires-clause-inside g c =
    let wide = as_wide c.width.result c.full.result c.minus-lacking.result c.args.set.now c.width.ensures.width c.full.ensures
    c.minus-lacking.ensures in
    omega (arith, wide, c.in-Some.ensures.in_range, c.requires.wide)

pub put_between-end-requires-clause-room : goal.put_between-end-requires-clause-room
put_between-end-requires-clause-room g c = omega (
  arith,
  short c.args.self.now _ c.self.inside.text.items c.self.inside.starts.items c.self.view_is c.self.invariant.joined,
  c.requires.room,
  c.requires.wide,
  c.loop-other.invariant.ends,
  c.loop-other.invariant.room,
)

pub loop-other-smaller : goal.loop-other-smaller
loop-other-smaller g c =
    let wide = as_wide c.width.result c.full.result c.minus-lacking.result c.args.set.now c.width.ensures.width c.full.ensures
    c.minus-lacking.ensures in
    omega (arith, wide, c.in-Some.ensures.in_range, c.in-Some.ensures.at_least)

pub loop-other-preserved : goal.loop-other-preserved
loop-other-preserved g c =
    let A : Set = c.args.set.now in
    let D : Set = c.minus-lacking.result in
    let wide = as_wide c.width.result c.full.result D A c.width.ensures.width c.full.ensures c.minus-lacking.ensures in
    let other = c.in-Some.other in
    record {
      in_range = omega (arith, wide, c.in-Some.ensures.in_range);
      ends = omega (arith, c.put_between-end.ensures.ends, c.loop-other.invariant.ends, joined-mono c.args.self.now other (other + 1) (omega arith));
      room = c.put_between-end.ensures.room ∙ c.loop-other.invariant.room;
      written = stretch_more c.args.self.now D A c.width.result c.loop-other.from other (take c.loop-other.end c.loop-other.text)
          (take c.put_between-end.result c.put_between-end.new.text) _ (c.minus-lacking.ensures ∙ ap (λ (F : Set). minus F A) c.full.ensures)
          c.width.ensures.width c.requires.wide c.in-Some.ensures.at_least (omega (arith, wide, c.in-Some.ensures.in_range))
          c.in-Some.ensures.member c.in-Some.ensures.least c.put_between-end.ensures.text c.loop-other.invariant.written;
    }

pub put_between-requires-clause-room : goal.put_between-requires-clause-room
put_between-requires-clause-room g c = omega (
  arith,
  short c.args.self.now _ c.self.inside.text.items c.self.inside.starts.items c.self.view_is c.self.invariant.joined,
  c.requires.room,
  c.requires.wide,
  c.loop-other.invariant.ends,
  c.loop-other.invariant.room,
)

pub returns-clause-text : goal.returns-clause-text
returns-clause-text g c =
    let A : Set = c.args.set.now in
    let from = c.loop-other.from in
    let old : Text = take c.loop-other.end c.loop-other.text in
    stretch_all c.args.self.now c.minus-lacking.result A c.width.result from old (take c.put_between.result c.put_between.new.text) _
    (c.minus-lacking.ensures ∙ ap (λ (F : Set). minus F A) c.full.ensures) c.width.ensures.width c.requires.wide
    (omega (arith, c.loop-other.invariant.in_range, c.width.ensures.width)) c.in_default.ensures
    (c.put_between.ensures.text ∙ ap (λ k. old ++ joined (drop from (take k c.args.self.now))) (c.width-2.ensures.width ∙ sym c.width.ensures.width))
    c.loop-other.invariant.written

pub returns-clause-ends : goal.returns-clause-ends
returns-clause-ends g c =
    let names : List Text = c.args.self.now in
    let h = subst (λ (ns : List Text). AreJoined ns c.self.inside.text.items c.self.inside.starts.items) c.self.view_is
    c.self.invariant.joined in
    omega (
      arith,
      length-joined names c.self.inside.text.items c.self.inside.starts.items c.width-2.result h,
      c.put_between.ensures.ends,
      c.loop-other.invariant.ends,
      c.requires.wide,
    )
