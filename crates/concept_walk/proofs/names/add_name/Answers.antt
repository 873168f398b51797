use Rattle.std.proofs.Common.{◌∙◌, ℕ, Vec, Global, length, map, take, drop, min, ap}
use Rattle.std.proofs.lemmas.List.{map_push}
use Rattle.fca_model.specs.Tables.{Text}
use Rattle.packed_concepts.proofs.PieceLemmas.{piece_added}
use Rattle.concept_walk.proofs.names.add_name.Goals as goal

pub returns-clause-pieces : goal.returns-clause-pieces
returns-clause-pieces c =
    (piece_added c.args.name.now c.put_with_comma.new.text.items c.in_ok-tail_of.field-0.items c.block_of.result c.args.blocks.now.items
    c.push.new.self.items
    (map (λ (v : Vec ℕ Global). v.items) c.args.tails.now.items)
    (map (λ (v : Vec ℕ Global). v.items) c.push-2.new.self.items) c.requires.short c.in_ok-put_with_comma.ensures
    (c.block_of.ensures.filled ∙ ap (λ (t : Text). min (length t) 16) c.deref.ensures.value)
    (c.block_of.ensures.bytes ∙ ap (take 16) c.deref.ensures.value)
    (c.in_ok-tail_of.ensures ∙ ap (drop 16) c.deref-2.ensures.value) c.in_ok-push.ensures.items
    (ap (map (λ (v : Vec ℕ Global). v.items)) c.in_ok-push-2.ensures.items
    ∙ map_push (λ (v : Vec ℕ Global). v.items) c.args.tails.now.items c.in_ok-tail_of.field-0) c.requires.pieces).0

pub returns-clause-texts : goal.returns-clause-texts
returns-clause-texts c =
    (piece_added c.args.name.now c.put_with_comma.new.text.items c.in_ok-tail_of.field-0.items c.block_of.result c.args.blocks.now.items
    c.push.new.self.items
    (map (λ (v : Vec ℕ Global). v.items) c.args.tails.now.items)
    (map (λ (v : Vec ℕ Global). v.items) c.push-2.new.self.items) c.requires.short c.in_ok-put_with_comma.ensures
    (c.block_of.ensures.filled ∙ ap (λ (t : Text). min (length t) 16) c.deref.ensures.value)
    (c.block_of.ensures.bytes ∙ ap (take 16) c.deref.ensures.value)
    (c.in_ok-tail_of.ensures ∙ ap (drop 16) c.deref-2.ensures.value) c.in_ok-push.ensures.items
    (ap (map (λ (v : Vec ℕ Global). v.items)) c.in_ok-push-2.ensures.items
    ∙ map_push (λ (v : Vec ℕ Global). v.items) c.args.tails.now.items c.in_ok-tail_of.field-0) c.requires.pieces).1
