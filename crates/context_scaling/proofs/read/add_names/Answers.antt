use Rattle.std.proofs.Common.{◌≡◌, ◌∙◌, ◌+◌, ◌++◌, ◌∷◌, [], ℕ, All, List, None, Ok, drop, map, take, sym, ap, ap₂, subst}
use Rattle.std.proofs.Common.{arith, append_assoc}
use Rattle.std.proofs.lemmas.List.{drop_more, map_more}
use Rattle.std.proofs.lemmas.List.Elements.{All-push}
use Rattle.fca_model.specs.Tables.{Text}
use Rattle.fca_model.specs.Names.{name_fault}
use Rattle.context_table.specs.Table.{first_repeat}
use Rattle.csv_context.proofs.FormLemmas.{first_repeat-append}
use Rattle.context_scaling.specs.Scaling.{made_name}
use Rattle.context_scaling.specs.PlanForm.{add_names, new_name}
use Rattle.context_scaling.specs.declared.scales.ScaleValue.{ScaleValue}
use Rattle.context_scaling.proofs.ReadLemmas.{names_more}
use Rattle.context_scaling.proofs.read.add_names.Goals as goal

pub loop-p-preserved : goal.loop-p-preserved
loop-p-preserved c =
    let loop = c.loop-p in
    let i = c.args.i in
    let p = loop.p in
    let m = c.args.attribute.now in
    let r = c.args.relation in
    let values = c.args.values.now in
    let v = c.index-values-p.result in
    let name = c.in_ok-name.name in
    let made = made_name m r v in
    let text : c.deref.result.now ≡ made = c.deref.ensures ∙ c.in_ok-text.ensures in
    let is : name ≡ made = c.in_ok-name.ensures.named.0 ∙ text in
    let new = c.in_ok-name.ensures.new in
    let keys : c.insert.new.self.keys ≡ loop.names.keys ++ name ∷ [] = rw new at c.in_ok-insert.ensures.keys in
    let P : Text → Type 0 = λ made. new_name i (p + 3) loop.names.keys made ≡ Ok name in
    let form = subst P text c.in_ok-name.ensures.form in
    let rest : drop p values ≡ v ∷ drop (p + 1) values = drop_more values p v c.loop-p-test.true
    ∙ ap (λ (w : ScaleValue). w ∷ drop (p + 1) values) (sym c.index-values-p.is) in
    let next : p + 1 + 3 ≡ p + 3 + 1 = omega arith in
    let more : map (made_name m r) (take (p + 1) values) ≡ map (made_name m r) (take p values) ++ made ∷ [] =
    map_more (made_name m r) values p v c.loop-p-test.true
    ∙ ap (λ (w : ScaleValue). map (made_name m r) (take p values) ++ made_name m r w ∷ []) (sym c.index-values-p.is) in
    let Named : List Text → Type 0 = λ names. All (λ (n : Text). name_fault n ≡ None) names in
    record {
      says =
          ap₂ (λ (j : ℕ) (seen : List Text). add_names i m r j seen (drop (p + 1) values)) next keys
          ∙ sym (names_more i m r (p + 3) loop.names.keys v (drop (p + 1) values) name form)
          ∙ ap (add_names i m r (p + 3) loop.names.keys) (sym rest)
          ∙ loop.invariant.says;
      names =
          keys
          ∙ ap₂ (λ (seen : List Text) (n : Text). seen ++ n ∷ []) loop.invariant.names is
          ∙ append_assoc c.args.names.now.keys (map (made_name m r) (take p values)) (made ∷ [])
          ∙ ap (λ (ns : List Text). c.args.names.now.keys ++ ns) (sym more);
      named = subst Named (sym more) (All-push (λ n. name_fault n ≡ None) (map (made_name m r) (take p values)) made loop.invariant.named
          (ap name_fault (sym text) ∙ c.in_ok-name.ensures.named.1));
      differing = λ none. ap first_repeat keys ∙ first_repeat-append loop.names.keys name (loop.invariant.differing none) new;
    }
