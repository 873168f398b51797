use Rattle.std.proofs.Common.{◌≡◌, ◌∙◌, ◌++◌, ℕ, List, length, true, set, take, drop, refl, ap, ap₂, arith}
use Rattle.std.proofs.lemmas.List.{take_at}
use Rattle.fca_model.specs.Sets.{Set}
use Rattle.fca_model.specs.Context.{Context, closure, extent}
use Rattle.extent_places.proofs.PlaceLemmas.{kept_with, kept_closed, column_kept, all_placed}
use Rattle.extent_places.specs.Places.{column}
use Rattle.concept_walk.proofs.branch.closure_with.Goals as goal

-- a list that was lent whole is what was written there
written_back : (n : ℕ) (xs ys : List ℕ) → length ys ≡ n → take n (ys ++ drop (length ys) xs) ≡ ys
written_back n xs ys long = take_at ys (drop (length ys) xs) n long

pub keep_having-count-requires : goal.keep_having-count-requires
keep_having-count-requires g c = (
  omega arith,
  (
    c.requires.inside,
    (
      all_placed c.args.crosses.now c.args.crosses.now c.args.node.now.intent.now c.args.node.now.places.now refl c.requires.node.places,
      omega (arith, c.requires.room, ap (λ (xs : List ℕ). length xs) c.deref_mut.ensures.value),
    ),
  ),
)

pub closure_at-intent-requires : goal.closure_at-intent-requires
closure_at-intent-requires g c =
    let back = written_back c.args.found.now.len c.args.found.now.items c.keep_having-count.new.found
    (omega (arith, c.keep_having-count.ensures.room, c.args.found.now.ok.0)) in (
      omega arith,
      (
        omega (arith, c.width-width.ensures.words),
        ap (take c.keep_having-count.result) (c.deref.ensures.value ∙ back)
            ∙ kept_with c.args.crosses.now c.rows-rows.result.now c.args.node.now.intent.now c.with.result c.args.i
            c.args.node.now.places.now (take c.keep_having-count.result c.keep_having-count.new.found)
            c.rows-rows.ensures c.requires.node.places (omega (arith, c.requires.node.wide, c.requires.inside)) c.with.ensures
            (column_kept c.args.crosses.now c.rows-rows.result.now c.args.node.now.intent.now
            (column c.args.crosses.now.rows c.args.i) c.args.i c.args.node.now.places.now
            (take c.keep_having-count.result c.keep_having-count.new.found) c.rows-rows.ensures c.requires.node.places refl
            c.keep_having-count.ensures.found),
      ),
    )

pub returns-clause-closed : goal.returns-clause-closed
returns-clause-closed g c = c.closure_at-intent.ensures ∙ ap₂ (λ (J : Context) (B : Set). closure J B) c.rows-rows.ensures c.with.ensures

pub returns-clause-places : goal.returns-clause-places
returns-clause-places g c =
    let K : Context = c.args.crosses.now in
    let found = take c.keep_having-count.result c.keep_having-count.new.found in
    let back = written_back c.args.found.now.len c.args.found.now.items c.keep_having-count.new.found
    (omega (arith, c.keep_having-count.ensures.room, c.args.found.now.ok.0)) in
    ap (take c.keep_having-count.result) back ∙ kept_closed K c.args.node.now.intent.now c.closure_at-intent.result c.args.i found
    c.requires.node.wide
    (kept_with K c.rows-rows.result.now c.args.node.now.intent.now
    (set c.args.node.now.intent.now c.args.i true) c.args.i c.args.node.now.places.now found c.rows-rows.ensures c.requires.node.places
    (omega (arith, c.requires.node.wide, c.requires.inside)) refl
    (column_kept c.args.crosses.now c.rows-rows.result.now c.args.node.now.intent.now
    (column c.args.crosses.now.rows c.args.i) c.args.i c.args.node.now.places.now
    (take c.keep_having-count.result c.keep_having-count.new.found) c.rows-rows.ensures c.requires.node.places refl
    c.keep_having-count.ensures.found)
    ∙ ap (λ (J : Context). extent J (set c.args.node.now.intent.now c.args.i true)) c.rows-rows.ensures)
    (c.closure_at-intent.ensures ∙ ap₂ (λ (J : Context) (B : Set). closure J B) c.rows-rows.ensures c.with.ensures)
