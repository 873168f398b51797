use Rattle.std.proofs.Common.{◌≡◌, ◌∙◌, ◌+◌, ◌++◌, ◌∷◌, [], ℕ, Bool, List, Ok, length, sym, ap, ap₂, subst}
use Rattle.std.proofs.lemmas.List.{length_push}
use Rattle.csv.specs.Records.{fields_of}
use Rattle.fca_model.specs.Tables.{Text}
use Rattle.csv_context.specs.Records.{Record, Reads, records_left}
use Rattle.context_scaling.specs.Scaling.{Fits, FitsBehind, PlanRecord, made_names, names_of}
use Rattle.context_scaling.specs.PlanForm.{record_form, records_form}
use Rattle.context_scaling.proofs.ReadLemmas.{fits_push, names_push, records_more}
use Rattle.context_scaling.proofs.read.read_left.Goals as goal

pub loop-names-preserved : goal.loop-names-preserved
loop-names-preserved c =
    let loop = c.loop-names in
    let t = c.args.values.now in
    let plan = loop.records.items in
    let fields = fields_of c.next_record.new.fields in
    let left = records_left c.next_record.new.reader in
    let s = c.in_ok-planned.planned in
    let P : Bool → Type 0 = λ found. Reads loop.reader c.next_record.new.reader found fields in
    let read = subst P c.if-branch.true c.in_ok-next_record.ensures.read in
    let records : c.push.new.self.items ≡ plan ++ s ∷ [] = c.in_ok-push.ensures.items in
    let count : c.len.result ≡ length plan = c.len.ensures ∙ loop.records.ok.0 in
    let Q : ℕ → List Text → Type 0 = λ n seen. record_form t (n + 1) seen fields ≡ Ok s in
    let F : List Text → Type 0 = λ seen. Q c.len.result seen in
    let G : ℕ → Type 0 = λ n. Q n (made_names plan) in
    let form = subst G count (subst F loop.invariant.names c.in_ok-planned.ensures.form) in
    let B : List Text → Type 0 = λ seen. FitsBehind seen t s in
    let H : List PlanRecord → Type 0 = λ xs. Fits xs t in
    record {
      opened = read.0;
      names = c.in_ok-planned.ensures.names ∙ ap (λ (ns : List Text). ns ++ names_of s) loop.invariant.names ∙ sym (names_push plan s)
          ∙ ap made_names (sym records);
      fits = subst H (sym records) (fits_push plan s t loop.invariant.fits (subst B loop.invariant.names c.in_ok-planned.ensures.fits));
      says =
          ap₂ (λ (n : ℕ) (xs : List PlanRecord). records_form t (n + 1) xs left) (ap length records ∙ length_push plan s) records
          ∙ sym (records_more t (length plan + 1) plan fields left s form)
          ∙ ap (λ (rs : List Record). records_form t (length plan + 1) plan rs) (sym read.2)
          ∙ loop.invariant.says;
    }
