use Rattle.std.proofs.Common.{◌≡◌, ◌∙◌, ◌++◌, ◌-◌, List, length, take, drop, ap, subst, arith, length-drop}
use Rattle.std.proofs.lemmas.List.{length-take-le}
use Rattle.fca_model.specs.Tables.{Text}
use Rattle.table_texts.specs.Joined.{AreJoined}
use Rattle.table_texts.proofs.JoinedLemmas.{stretch}
use Rattle.table_texts.proofs.attribute_names.AttributeNames.put_between.Goals as goal

pub slice_bounds-put_bytes-count : goal.slice_bounds-put_bytes-count
slice_bounds-put_bytes-count c =
    let joined = subst (λ (ns : List Text). AreJoined ns c.self.inside.text.items c.self.inside.starts.items) c.self.view_is
    c.self.invariant.joined in
    let part = stretch c.args.self.now c.self.inside.text.items c.self.inside.starts.items c.args.from c.args.to c.index-first.result.now
    c.index-last.result.now joined c.requires.order c.requires.inside c.index-first.ensures c.index-last.ensures in
    part.order

pub slice_bounds-put_bytes-start : goal.slice_bounds-put_bytes-start
slice_bounds-put_bytes-start c =
    let joined = subst (λ (ns : List Text). AreJoined ns c.self.inside.text.items c.self.inside.starts.items) c.self.view_is
    c.self.invariant.joined in
    let part = stretch c.args.self.now c.self.inside.text.items c.self.inside.starts.items c.args.from c.args.to c.index-first.result.now
    c.index-last.result.now joined c.requires.order c.requires.inside c.index-first.ensures c.index-last.ensures in
    omega (arith, part.order, part.inside, c.deref.ensures.len)

pub slice_bounds-put_bytes-end : goal.slice_bounds-put_bytes-end
slice_bounds-put_bytes-end c =
    let joined = subst (λ (ns : List Text). AreJoined ns c.self.inside.text.items c.self.inside.starts.items) c.self.view_is
    c.self.invariant.joined in
    let part = stretch c.args.self.now c.self.inside.text.items c.self.inside.starts.items c.args.from c.args.to c.index-first.result.now
    c.index-last.result.now joined c.requires.order c.requires.inside c.index-first.ensures c.index-last.ensures in
    omega (arith, part.inside, c.deref.ensures.len)

pub put_bytes-requires : goal.put_bytes-requires
put_bytes-requires c =
    let joined = subst (λ (ns : List Text). AreJoined ns c.self.inside.text.items c.self.inside.starts.items) c.self.view_is
    c.self.invariant.joined in
    let part = stretch c.args.self.now c.self.inside.text.items c.self.inside.starts.items c.args.from c.args.to c.index-first.result.now
    c.index-last.result.now joined c.requires.order c.requires.inside c.index-first.ensures c.index-last.ensures in
    let first = c.index-first.result.now in
    let last = c.index-last.result.now in
    let all : Text = c.deref.result.now in
    let left = length-drop first all in
    let size : length (take (last - first) (drop first all)) ≡ last - first =
    length-take-le (last - first) (drop first all) (omega (arith, left, part.order, part.inside, c.deref.ensures.len)) in
    omega (arith, size, part.order, part.first, part.inside, ap length joined.whole, c.requires.room)

pub returns-clause-text : goal.returns-clause-text
returns-clause-text c =
    let joined = subst (λ (ns : List Text). AreJoined ns c.self.inside.text.items c.self.inside.starts.items) c.self.view_is
    c.self.invariant.joined in
    let part = stretch c.args.self.now c.self.inside.text.items c.self.inside.starts.items c.args.from c.args.to c.index-first.result.now
    c.index-last.result.now joined c.requires.order c.requires.inside c.index-first.ensures c.index-last.ensures in
    let old : Text = take c.args.start c.args.text.now in
    let first = c.index-first.result.now in
    c.put_bytes.ensures.text
    ∙ ap (λ (z : Text). old ++ take (c.index-last.result.now - first) (drop first z)) c.deref.ensures.value
    ∙ ap (λ (z : Text). old ++ z) part.taken

pub returns-clause-ends : goal.returns-clause-ends
returns-clause-ends c =
    let joined = subst (λ (ns : List Text). AreJoined ns c.self.inside.text.items c.self.inside.starts.items) c.self.view_is
    c.self.invariant.joined in
    let part = stretch c.args.self.now c.self.inside.text.items c.self.inside.starts.items c.args.from c.args.to c.index-first.result.now
    c.index-last.result.now joined c.requires.order c.requires.inside c.index-first.ensures c.index-last.ensures in
    let first = c.index-first.result.now in
    let last = c.index-last.result.now in
    let all : Text = c.deref.result.now in
    let left = length-drop first all in
    let size : length (take (last - first) (drop first all)) ≡ last - first =
    length-take-le (last - first) (drop first all) (omega (arith, left, part.order, part.inside, c.deref.ensures.len)) in
    omega (arith, c.put_bytes.ensures.ends, size, part.order, part.first, part.last)
