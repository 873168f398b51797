use Rattle.std.proofs.Common.{[], get_or, take, ◌∙◌, arith}
use Rattle.std.proofs.lemmas.List.{get_or_default}
use Rattle.fca_model.specs.Tables.{Text}
use Rattle.packed_concepts.proofs.ListingLemmas.{members_more, members_all}
use Rattle.packed_concepts.proofs.names.put_members.Goals as goal

pub overflow_add-from : goal.overflow_add-from
overflow_add-from g c = omega (arith, c.in-Some.ensures.in_range, c.width-width.ensures.width, c.width-width.type_inv)

pub put-end-requires : goal.put-end-requires
put-end-requires g c = omega (
  arith,
  c.requires.room,
  c.loop-member.invariant.ends,
  c.loop-member.invariant.room,
  c.in-Some.ensures.at_least,
  c.in-Some.ensures.in_range,
)

pub loop-member-preserved : goal.loop-member-preserved
loop-member-preserved g c =
    let m = c.in-Some.member in
    let piece : Text = get_or c.args.pieces.now m [] in
    record {
      in_range = omega (arith, c.in-Some.ensures.in_range);
      begins = omega (arith, c.put-end.ensures.begins, c.loop-member.invariant.begins);
      ends = omega (arith, c.put-end.ensures.ends, c.loop-member.invariant.ends, c.in-Some.ensures.at_least);
      room = c.put-end.ensures.room ∙ c.loop-member.invariant.room;
      written = members_more c.args.pieces.now c.args.set.now c.loop-member.from c.in-Some.member piece
          (take c.loop-member.end c.loop-member.text) (take c.put-end.result c.put-end.new.text) _
          c.in-Some.ensures.at_least c.in-Some.ensures.in_range c.requires.few c.in-Some.ensures.member c.in-Some.ensures.least
          (get_or_default c.args.pieces.now m [] piece (omega (arith, c.in-Some.ensures.in_range, c.requires.few)))
          c.put-end.ensures.text c.loop-member.invariant.written;
    }

pub returns : goal.returns
returns g c = record {
  text = members_all c.args.pieces.now c.args.set.now c.loop-member.from
      (take c.loop-member.end c.loop-member.text) _ c.loop-member.invariant.in_range c.requires.few c.in_default.ensures
      c.loop-member.invariant.written;
  begins = c.loop-member.invariant.begins;
  ends = omega (arith, c.loop-member.invariant.ends, c.loop-member.invariant.in_range);
  room = c.loop-member.invariant.room;
}
