use Rattle.std.proofs.Common.{◌≤◌, ◌<◌, ◌+◌, sym, arith}
use Rattle.fca_model.specs.declared.TheConstants.{MAX_EXPERTS}
use Rattle.exploration_terms.specs.Settings.{name_of}
use Rattle.expert_scripts.specs.Transcripts.{name_line_at, names_text}
use Rattle.expert_scripts.proofs.DraftLemmas.{Drafting-start, Drafting-equal, Drafting-more, Drafting-fault, Drafting-end, front-whole}
use Rattle.expert_scripts.proofs.NamedLemmas.{names_left, names_left-start, names_left-next, names_left-end}
use Rattle.expert_scripts.proofs.transcript.write_names.Goals as goal

pub loop-expert-init : goal.loop-expert-init
loop-expert-init c = Drafting-equal (sym (names_left-start c.args.names.now))
    (Drafting-start c.args.draft.now (names_text c.args.names.now))

pub loop-expert-preserved : goal.loop-expert-preserved
loop-expert-preserved c =
    let e = c.loop-expert.expert in
    let names = c.args.names.now in
    let inside : e ≤ MAX_EXPERTS = omega arith in
    Drafting-more (name_line_at e (name_of e names)) (names_left names (e + 1))
    (Drafting-equal (names_left-next names e inside) c.loop-expert.invariant) c.in_ok-write_name.ensures.whole

pub returns-in_err-write_name-clause-front : goal.returns-in_err-write_name-clause-front
returns-in_err-write_name-clause-front c =
    let e = c.loop-expert.expert in
    let names = c.args.names.now in
    let inside : e ≤ MAX_EXPERTS = omega arith in
    Drafting-fault (name_line_at e (name_of e names)) (names_left names (e + 1))
    (Drafting-equal (names_left-next names e inside) c.loop-expert.invariant) c.in_err-write_name.ensures.front

pub returns-clause-whole : goal.returns-clause-whole
returns-clause-whole c =
    let past : MAX_EXPERTS < c.loop-expert.expert = omega arith in
    Drafting-end (Drafting-equal (names_left-end c.args.names.now c.loop-expert.expert past) c.loop-expert.invariant)

pub returns-clause-front : goal.returns-clause-front
returns-clause-front c =
    let past : MAX_EXPERTS < c.loop-expert.expert = omega arith in
    front-whole (names_text c.args.names.now) (Drafting-end
    (Drafting-equal (names_left-end c.args.names.now c.loop-expert.expert past) c.loop-expert.invariant))
