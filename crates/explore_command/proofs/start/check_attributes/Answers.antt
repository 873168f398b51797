use Rattle.std.proofs.Common.{◌≡◌, ◌∙◌, length, refl, sym, ap, subst}
use Rattle.fca_model.specs.Context.{Context}
use Rattle.fca_model.specs.Tables.{NamedContext}
use Rattle.command_io.specs.Readings.{Reading, MayRead, MayRefuse}
use Rattle.explore_command.proofs.StartLemmas.{if_agreeing-same, if_agreeing-other}
use Rattle.explore_command.proofs.start.check_attributes.Goals as goal
use Rattle.explore_command.proofs.start.check_attributes.Goals.{else-width-via-then-width+else-same_attributes, else-width-via-else-width}

pub returns-then-same_attributes-clause-expert : goal.returns-then-same_attributes-clause-expert
returns-then-same_attributes-clause-expert c =
    let P : Reading NamedContext → Type 0 = λ r. MayRead r c.args.expert_table in
    subst P (sym (if_agreeing-same c.args.table.now c.args.expert_table (c.same_attributes.ensures.0 c.if-same_attributes.true))) refl

pub returns-else-width-clause-refused : goal.returns-else-width-clause-refused
returns-else-width-clause-refused c =
    let table = c.args.table.now in
    let expert = c.args.expert_table in
    let wide : c.width.result ≡ length expert.attributes =
    c.width.ensures.width ∙ ap (λ (K : Context). K.width) c.rows.ensures.rows ∙ sym c.rows.ensures.table.each_attribute in
    let wide-2 : c.width-2.result ≡ length table.attributes =
    c.width-2.ensures.width ∙ ap (λ (K : Context). K.width) c.rows-2.ensures.rows ∙ sym c.rows-2.ensures.table.each_attribute in
    let differ : ¬ (expert.attributes ≡ table.attributes) = elim c.else-width.branch [
      | else-width-via-then-width+else-same_attributes w ↦
          λ same. (let told = w.same_attributes.ensures.1 same in let untold = w.if-same_attributes.false in cc)
      | else-width-via-else-width w ↦ λ same. w.if-width.false (wide ∙ ap length same ∙ sym wide-2)
    ] in
    let P : Reading NamedContext → Type 0 = λ r. MayRefuse r in
    subst P (sym (if_agreeing-other table expert differ)) tt
