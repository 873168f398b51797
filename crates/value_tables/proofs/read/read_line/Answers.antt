use Rattle.std.proofs.Common.{◌≡◌, ◌∙◌, ◌++◌, [], List, drop, get_or, sym, ap, ap₂, subst, arith, None}
use Rattle.std.specs.Str.{IsUtf8}
use Rattle.csv.proofs.RecordFacts.{text-at}
use Rattle.fca_model.specs.Names.{name_fault}
use Rattle.fca_model.specs.Tables.{Text}
use Rattle.csv_context.specs.Lines.{fields_in}
use Rattle.value_tables.specs.Cells.{cut, texts}
use Rattle.value_tables.proofs.FieldLemmas.{bad_field_none, name_faultless}
use Rattle.value_tables.proofs.ReadLemmas.{object_form-Ok, pieces_object}
use Rattle.value_tables.proofs.read.read_line.Goals as goal

pub put_pieces-requires-clause-text : goal.put_pieces-requires-clause-text
put_pieces-requires-clause-text c =
    let line = c.args.line.now in
    let pieces = c.pieces_of-pieces in
    let found = c.may_be_object.ensures in
    let is = c.if-not-may_be_object.false in
    let object = pieces_object line c.lengths.result.now pieces.result c.args.width c.if-line-gt-MAX_NAME_BYTES.false c.requires.unbroken
    pieces.ensures c.lengths.ensures (found.whole is) (found.named is) in
    let same : cut c.lengths-2.result.now c.text.result.now ≡ fields_in line = ap₂ cut c.lengths-2.ensures c.text.ensures
    ∙ pieces.ensures.fields in
    let P : List Text → Type 0 = λ fields. IsUtf8 (get_or fields 0 []) in
    subst P (sym same) (text-at (fields_in line) 0 (omega (arith, object.0)) c.requires.text)

pub put_pieces-requires-clause-faultless : goal.put_pieces-requires-clause-faultless
put_pieces-requires-clause-faultless c =
    let line = c.args.line.now in
    let pieces = c.pieces_of-pieces in
    let found = c.may_be_object.ensures in
    let is = c.if-not-may_be_object.false in
    let object = pieces_object line c.lengths.result.now pieces.result c.args.width c.if-line-gt-MAX_NAME_BYTES.false c.requires.unbroken
    pieces.ensures c.lengths.ensures (found.whole is) (found.named is) in
    let same : cut c.lengths-2.result.now c.text.result.now ≡ fields_in line = ap₂ cut c.lengths-2.ensures c.text.ensures
    ∙ pieces.ensures.fields in
    let P : List Text → Type 0 = λ fields. name_fault (get_or fields 0 []) ≡ None in
    subst P (sym same) (name_faultless (get_or (fields_in line) 0 []) (bad_field_none (fields_in line) object.1).0)

pub returns-clause-form : goal.returns-clause-form
returns-clause-form c =
    let line = c.args.line.now in
    let pieces = c.pieces_of-pieces in
    let found = c.may_be_object.ensures in
    let is = c.if-not-may_be_object.false in
    let object = pieces_object line c.lengths.result.now pieces.result c.args.width c.if-line-gt-MAX_NAME_BYTES.false c.requires.unbroken
    pieces.ensures c.lengths.ensures (found.whole is) (found.named is) in
    object_form-Ok c.args.width c.args.i (fields_in line) (found.within is) object.0 object.1

pub returns-clause-puts : goal.returns-clause-puts
returns-clause-puts c =
    let line = c.args.line.now in
    let pieces = c.pieces_of-pieces in
    let found = c.may_be_object.ensures in
    let is = c.if-not-may_be_object.false in
    let object = pieces_object line c.lengths.result.now pieces.result c.args.width c.if-line-gt-MAX_NAME_BYTES.false c.requires.unbroken
    pieces.ensures c.lengths.ensures (found.whole is) (found.named is) in
    let same : cut c.lengths-2.result.now c.text.result.now ≡ fields_in line = ap₂ cut c.lengths-2.ensures c.text.ensures
    ∙ pieces.ensures.fields in
    record {
      within = found.within is;
      whole = object.0;
      cells = c.in_ok-put_pieces.ensures.cells;
      texts = c.in_ok-put_pieces.ensures.texts ∙ ap (λ (fields : List Text). texts c.args.cells.now ++ drop 1 fields) same;
    }
