use Rattle.std.proofs.Common.{◌≡◌, ◌<◌, ◌≤◌, ◌+◌, ◌++◌, length, min, map, sym, ap, ◌∙◌, arith}
use Rattle.std.proofs.Math.Nat.{min-le_left, min-le_right}
use Rattle.serde_json.specs.Data.{array, string}
use Rattle.serde_json.specs.View.{view, items_of}
use Rattle.serde_json.proofs.Views.{view-Array}
use Rattle.expert_wire.specs.Texts.{names_of}
use Rattle.expert_wire.proofs.ListedLemmas.{names_from}
use Rattle.json_reports.proofs.JsonLemmas.{named_more, named_same, named_all}
use Rattle.json_reports.proofs.json_lines.attribute_names.Goals as goal
use Rattle.json_reports.proofs.json_lines.attribute_names.Goals.{then-has+in_ok-try_from_str+in_ok-push, else-has}

pub loop-attribute-preserved : goal.loop-attribute-preserved
loop-attribute-preserved c =
    let names = c.args.table.now.attributes in
    let A = c.args.set.now in
    let i = c.loop-attribute.attribute in
    let all = map (λ name. string name) (names_of names A) in
    let wide : c.width-2.result ≡ length names = c.width-2.ensures.width ∙ ap (λ K. K.width) c.rows.ensures.rows
    ∙ sym c.rows.ensures.table.each_attribute in
    let end : c.min-attribute-end.result ≡ min (length A) (length names) = cc (c.min-attribute-end.ensures, c.width.ensures.width, wide) in
    let low = min-le_left (length A) (length names) in
    let high = min-le_right (length A) (length names) in
    let placed : i < length A = omega arith in
    let named : i < length names = omega arith in
    elim c.if-has.branch [
      | then-has+in_ok-try_from_str+in_ok-push w ↦
          ap (λ vs. map view vs ++ map (λ name. string name) (names_from (i + 1) names A))
          (ap (λ v. v.items) w.names-is ∙ w.in_ok-push.ensures.items)
          ∙ named_more c.loop-attribute.names.items w.in_ok-try_from_str.field-0 i names A w.attribute_name-name.result.now all named placed
          (sym c.has.ensures ∙ w.if-has.true) w.attribute_name-name.ensures
          (w.in_ok-try_from_str.ensures ∙ ap (λ name. string name) w.text.ensures.value) c.loop-attribute.invariant
      | else-has w ↦
          ap (λ v. map view v.items ++ map (λ name. string name) (names_from (i + 1) names A)) w.names-is
          ∙ named_same c.loop-attribute.names.items i names A all named placed
          (sym c.has.ensures ∙ w.if-has.false) c.loop-attribute.invariant
    ]

pub returns : goal.returns
returns c =
    let names = c.args.table.now.attributes in
    let A = c.args.set.now in
    let wide : c.width-2.result ≡ length names = c.width-2.ensures.width ∙ ap (λ K. K.width) c.rows.ensures.rows
    ∙ sym c.rows.ensures.table.each_attribute in
    let end : c.min-attribute-end.result ≡ min (length A) (length names) = cc (c.min-attribute-end.ensures, c.width.ensures.width, wide) in
    let low = min-le_left (length A) (length names) in
    let high = min-le_right (length A) (length names) in
    let over : min (length A) (length names) ≤ c.loop-attribute.attribute = omega arith in
    view-Array c.loop-attribute.names
    ∙ ap (λ ds. array (items_of ds)) (named_all c.loop-attribute.names.items c.loop-attribute.attribute names A
    (map (λ name. string name) (names_of names A)) over c.loop-attribute.invariant)
