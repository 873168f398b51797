use Rattle.std.proofs.Common.{◌≡◌, ◌∙◌, ◌+◌, ℕ, Bool, List, Ok, length, vec_len, sym, ap, subst, arith}
use Rattle.std.proofs.lemmas.List.{length_push}
use Rattle.csv.specs.Records.{fields_of}
use Rattle.fca_model.specs.Context.{Context}
use Rattle.csv_context.specs.Records.{Reads, records_left}
use Rattle.csv_context.specs.Form.{object_form}
use Rattle.csv_context.proofs.FormLemmas.{objects_form-more}
use Rattle.csv_context.proofs.read.read_objects.Goals as goal

pub loop-record-preserved : goal.loop-record-preserved
loop-record-preserved c =
    let loop = c.loop-record in
    let object = c.in_ok-object.object in
    let fields : List (List ℕ) = fields_of c.next_record.new.fields in
    let reads = subst (λ (found : Bool). Reads loop.reader c.next_record.new.reader found fields) c.if-branch.true
    c.in_ok-next_record.ensures.read in
    let rows = c.in_ok-push-2.ensures.ok in
    let count : vec_len c.push.new.self ≡ vec_len loop.names + 1 = omega (arith, c.in_ok-push.ensures.len) in
    let form = subst (λ (n : ℕ). object_form c.args.width (n + 2) fields ≡ Ok object) c.len.ensures c.in_ok-object.ensures.form in
    record {
      opened = reads.0;
      few = omega (arith, c.in_ok-object.ensures.within, c.len.ensures, count);
      counted = count ∙ ap (λ (n : ℕ). n + 1) loop.invariant.counted
          ∙ sym (ap (λ (K : Context). length K.rows) rows ∙ length_push loop.rows.rows object.row);
      wide = ap (λ (K : Context). K.width) rows ∙ loop.invariant.wide;
      says = objects_form-more c.args.width (vec_len loop.names)
          (vec_len c.push.new.self) loop.names.items c.push.new.self.items loop.rows.rows c.push-in-loop-record.new.self.rows
          fields (records_left loop.reader) (records_left c.next_record.new.reader) object reads.2 form count c.in_ok-push.ensures.items
          (ap (λ (K : Context). K.rows) rows)
          ∙ loop.invariant.says;
    }
