use Rattle.std.proofs.Common.{◌≡◌, ℕ, ◌+◌, ◌<◌, true, List, [], ◌∷◌, ◌++◌, drop, filter, length, get_or, sym, ap, ◌∙◌, subst, append_assoc}
use Rattle.std.proofs.Common.{arith}
use Rattle.std.proofs.lemmas.List.{at_drop_more, at_drop_all, append-nil}
use Rattle.std.specs.List.{flat_map, enumerate_from, list_any}
use Rattle.fca_model.specs.Sets.{Set, same, increasing}
use Rattle.fca_model.specs.Context.{Context}
use Rattle.fca_model.specs.Pseudo.{intents, covers, covers_of, is_cover}
use Rattle.lectic_concepts.proofs.IntentLemmas.{of_intents, intents_increasing}
use Rattle.std.proofs.lemmas.List.Elements.{All-push}
use Rattle.lattice_covers.specs.declared.chain.Link.{Link}
use Rattle.lattice_covers.specs.Neighbours.{IsLink, AreLinks, pairs_with}
use Rattle.lattice_covers.proofs.MemberLemmas.{in_at}
use Rattle.lattice_covers.proofs.PlaceLemmas.{row_of, pairs_with-filter}
use Rattle.lattice_covers.proofs.covers_of.Goals as goal

module _ (K : Context) (Xs : List Set) (all : Xs ≡ intents K) (i : ℕ) (A : Set) (inside : i < length Xs) (is : A ≡ get_or Xs i A) where
  wide : length A ≡ K.width
  wide = (of_intents K A (subst (λ Ys. list_any (same A) Ys ≡ true) all
      (subst (λ X. list_any (same X) Xs ≡ true) (sym is) (in_at Xs i A inside)))).wide

  -- the pairs of the intent at place i are those of its next larger intents
  row_is : pairs_with Xs i (filter (is_cover (intents K) A) (intents K)) ≡ row_of Xs (i, A)
  row_is = ap (λ Ys. pairs_with Xs i (filter (is_cover Ys A) Ys)) (sym all)
      ∙ sym (pairs_with-filter Xs (subst (λ Ys. increasing Ys ≡ true) (sym all) (intents_increasing K)) (is_cover Xs A) i)

  more : (old new : List (ℕ × ℕ)) (Cs : List Set) → Cs ≡ filter (is_cover (intents K) A) (intents K) → new ≡ old ++ pairs_with Xs i Cs
      → old ++ flat_map (row_of Xs) (enumerate_from i (drop i Xs)) ≡ covers_of Xs
      → new ++ flat_map (row_of Xs) (enumerate_from (i + 1) (drop (i + 1) Xs)) ≡ covers_of Xs
  more old new Cs found made h =
      let left = flat_map (row_of Xs) (enumerate_from (i + 1) (drop (i + 1) Xs)) in
      ap (λ p. p ++ left) (made ∙ ap (λ Ys. old ++ pairs_with Xs i Ys) found ∙ ap (λ r. old ++ r) row_is)
      ∙ append_assoc old (row_of Xs (i, A)) left
      ∙ ap (λ r. old ++ r) (ap (λ X. row_of Xs (i, X) ++ left) is
      ∙ sym (at_drop_more (λ Ys. flat_map (row_of Xs) (enumerate_from i Ys)) Xs i A inside)) ∙ h

-- one link more
links_more : (K : Context) {W : ℕ} (old new : List (Link W)) (link : Link W) → new ≡ old ++ link ∷ [] → AreLinks K old → IsLink K link
    → AreLinks K new
links_more K {W} old new link made h is = subst (AreLinks K) (sym made) (All-push (IsLink K) old link h is)

pub link_of-requires : goal.link_of-requires
link_of-requires g c =
    let here : length c.index-intents-i.result ≡ c.args.rows.now.width =
    wide c.args.rows.now c.args.intents.now c.requires c.loop-i.i c.index-intents-i.result c.loop-i-test.true c.index-intents-i.is in
    (omega arith, (omega (arith, c.width.ensures.words), (omega (arith, c.width.ensures.words), (here, c.loop-i.invariant.links))))

pub find_neighbours-requires : goal.find_neighbours-requires
find_neighbours-requires g c =
    let here : length c.index-intents-i.result ≡ c.args.rows.now.width =
    wide c.args.rows.now c.args.intents.now c.requires c.loop-i.i c.index-intents-i.result c.loop-i-test.true c.index-intents-i.is in (
      omega (arith, c.width.ensures.words),
      (
        omega arith,
        (omega (arith, c.width.ensures.words), (ap length c.in_ok-link.ensures.link.0 ∙ here, c.in_ok-link.ensures.link.1)),
      ),
    )

pub add_pairs-requires : goal.add_pairs-requires
add_pairs-requires g c = (
  omega (arith, c.width.ensures.words),
  subst (λ (Ys : List Set). increasing Ys ≡ true) (sym c.requires) (intents_increasing c.args.rows.now),
)

pub loop-i-preserved : goal.loop-i-preserved
loop-i-preserved g c =
    let K : Context = c.args.rows.now in
    record {
      listed = more K c.args.intents.now c.requires c.loop-i.i c.index-intents-i.result c.loop-i-test.true c.index-intents-i.is
          c.loop-i.pairs.items c.add_pairs.new.pairs.items
          c.find_neighbours.new.neighbours.items (c.in_ok-find_neighbours.ensures.found
          ∙ ap (λ (A : Set). filter (is_cover (intents K) A) (intents K)) c.in_ok-link.ensures.link.0)
          (c.in_ok-add_pairs.ensures ∙ ap (λ (Ys : List Set). c.loop-i.pairs.items ++ pairs_with c.args.intents.now c.loop-i.i Ys)
          c.deref.ensures.value)
          c.loop-i.invariant.listed;
      links = links_more K c.link_of.new.chain.items c.push.new.self.items c.find_neighbours.new.link c.in_ok-push.ensures.items
          c.in_ok-link.ensures.links c.in_ok-find_neighbours.ensures.link;
    }

pub returns : goal.returns
unfolding covers
returns g c =
    let Xs : List Set = c.args.intents.now in
    sym (append-nil c.loop-i.pairs.items)
    ∙ ap (λ q. c.loop-i.pairs.items ++ q) (sym (at_drop_all
    (λ Ys. flat_map (row_of Xs) (enumerate_from c.loop-i.i Ys)) Xs c.loop-i.i c.loop-i-test.false))
    ∙ c.loop-i.invariant.listed ∙ ap covers_of c.requires
