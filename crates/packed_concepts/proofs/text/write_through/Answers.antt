use Rattle.std.proofs.Common.{◌≡◌, ◌∙◌, ◌++◌, ℕ, List, All, length, take, sym, ap, subst, arith}
use Rattle.std.specs.List.{flat_map}
use Rattle.std.proofs.lemmas.Result.{err_from_is_err_and}
use Rattle.fca_model.specs.Sets.{Set}
use Rattle.fca_model.specs.Tables.{Text}
use Rattle.expert_wire.proofs.WriteLemmas.{Writes-then, Writes-equal}
use Rattle.packed_concepts.specs.Lines.{lines_from, count_line_of}
use Rattle.packed_concepts.specs.Packing.{IsNamed, HasRoomForLine}
use Rattle.packed_concepts.proofs.PageLemmas.{All-lists}
use Rattle.packed_concepts.proofs.text.write_through.Goals as goal

pub pass_pages-requires : goal.pass_pages-requires
pass_pages-requires g c = (
  omega arith,
  (
    All-lists (IsNamed c.args.names.now) c.args.pages.now c.requires.named,
    (
      subst (λ n. All (λ (page : List (Set × List ℕ)). All (HasRoomForLine n) page) c.args.pages.now) (sym c.put_count_line-head.ensures.room)
          (All-lists (HasRoomForLine (length c.args.buffer.now)) c.args.pages.now c.requires.enough),
      (c.put_count_line-head.ensures.end, omega (arith, c.requires.count, c.ranges.count.fits)),
    ),
  ),
)

pub returns-in_err-end : goal.returns-in_err-end
returns-in_err-end g c =
    let all : List (Set × List ℕ) = flat_map (λ x. x) c.args.pages.now in
    let p = err_from_is_err_and c.from_residual.result c.from_residual.ensures.1 in
    let head : take c.put_count_line-head.result c.put_count_line-head.new.buffer ≡ count_line_of (length all) = c.put_count_line-head.ensures.text
    ∙ ap count_line_of c.requires.count in
    rw (p.1, p.2) (Writes-equal (ap (λ (u : Text). u ++ lines_from c.args.names.now 0 all) head) c.in_err-end.ensures.failed)

pub returns : goal.returns
returns g c =
    let all : List (Set × List ℕ) = flat_map (λ x. x) c.args.pages.now in
    let head : take c.put_count_line-head.result c.put_count_line-head.new.buffer ≡ count_line_of (length all) = c.put_count_line-head.ensures.text
    ∙ ap count_line_of c.requires.count in
    let passed = c.in_ok-end.ensures.passed in
    Writes-equal (passed.split ∙ ap (λ (u : Text). u ++ lines_from c.args.names.now 0 all) head)
    (Writes-then c.write_bytes.result passed.written c.write_bytes.ensures)
