use Rattle.std.proofs.Common.{◌≡◌, ◌∙◌, ◌++◌, All, List, None, length, map, sym, ap, subst, arith, rules}
use Rattle.fca_model.specs.Tables.{Text}
use Rattle.fca_model.specs.Names.{name_fault}
use Rattle.context_table.specs.Table.{first_repeat}
use Rattle.value_tables.specs.Values.{column}
use Rattle.context_scaling.specs.Scaling.{each_relation, made_name}
use Rattle.context_scaling.specs.declared.scales.ScaleValue.{ScaleValue}
use Rattle.context_scaling.proofs.ReadLemmas.{all_scalable}
use Rattle.context_scaling.proofs.read.read_record.Goals as goal

pub returns-clause-fits : goal.returns-clause-fits
returns-clause-fits c =
    let kind = c.in_ok-kind.kind in
    let found = c.in_ok-found.found in
    let made : List ScaleValue → List Text = λ values. each_relation kind (λ r. map (made_name found.name r) values) in
    let names = c.in_ok-put_names.ensures.names ∙ ap (λ (vs : List ScaleValue). c.args.names.now.keys ++ made vs) c.deref.ensures.value in
    let Named : List ScaleValue → Type 0 = λ vs. All (λ (n : Text). name_fault n ≡ None) (made vs) in
    let size : c.len.result ≡ length c.put_names.new.names.keys = search rules in
    let total = size ∙ ap length names in
    let none : c.first_unscalable.result ≡ None = c.in_default-first_unscalable.is in
    record {
      places = c.in_ok-found.ensures.place;
      numbers = all_scalable kind 0 (column c.args.values.now found.place) (sym c.first_unscalable.ensures ∙ none);
      named = subst Named c.deref.ensures.value c.in_ok-put_names.ensures.named;
      differing = λ before. ap first_repeat (sym names) ∙ c.in_ok-put_names.ensures.differing before;
      few = omega (arith, total, c.if-len.false);
    }
