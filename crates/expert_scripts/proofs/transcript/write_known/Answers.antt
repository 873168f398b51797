use Rattle.std.proofs.Common.{add-one}
use Rattle.std.specs.List.{flat_map}
use Rattle.expert_wire.proofs.WriteLemmas.{flat_map-drop, flat_map-past}
use Rattle.expert_scripts.specs.Transcripts.{known_line}
use Rattle.expert_scripts.proofs.DraftLemmas.{Drafting-start, Drafting-equal, Drafting-more, Drafting-fault, Drafting-end, front-whole}
use Rattle.expert_scripts.proofs.transcript.write_known.Goals as goal

pub loop-implication-init : goal.loop-implication-init
loop-implication-init c = Drafting-start c.args.draft.now (flat_map (known_line c.args.table.now.attributes) c.args.known.now)

pub loop-implication-preserved : goal.loop-implication-preserved
loop-implication-preserved c = rw add-one (Drafting-more _ _
    (Drafting-equal (flat_map-drop (known_line c.args.table.now.attributes) c.args.known.now c.loop-implication.implication-index
    c.implication-item.result c.loop-implication-test.true c.implication-item.is) c.loop-implication.invariant)
    c.in_ok-append_full_text.ensures.whole)

pub returns-in_err-append_full_text-clause-front : goal.returns-in_err-append_full_text-clause-front
returns-in_err-append_full_text-clause-front c =
    Drafting-fault _ _ (Drafting-equal (flat_map-drop
    (known_line c.args.table.now.attributes) c.args.known.now c.loop-implication.implication-index c.implication-item.result
    c.loop-implication-test.true c.implication-item.is) c.loop-implication.invariant) c.in_err-append_full_text.ensures.front

pub returns-clause-whole : goal.returns-clause-whole
returns-clause-whole c = Drafting-end (Drafting-equal
    (flat_map-past (known_line c.args.table.now.attributes) c.args.known.now c.loop-implication.implication-index
    c.loop-implication-test.false) c.loop-implication.invariant)

pub returns-clause-front : goal.returns-clause-front
returns-clause-front c = front-whole (flat_map (known_line c.args.table.now.attributes) c.args.known.now)
    (Drafting-end (Drafting-equal (flat_map-past (known_line c.args.table.now.attributes) c.args.known.now
    c.loop-implication.implication-index c.loop-implication-test.false) c.loop-implication.invariant))
