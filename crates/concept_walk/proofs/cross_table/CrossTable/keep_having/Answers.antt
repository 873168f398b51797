use Rattle.std.proofs.Common.{◌≡◌, ◌∙◌, ℕ, ◌<◌, [], false, List, length, get_or, map, filter, ap, arith}
use Rattle.std.specs.List.{range_with_len}
use Rattle.std.proofs.lemmas.List.{length-map}
use Rattle.std.proofs.lemmas.List.FromFn.{length-map-range_with_len, get_or-map-range_with_len}
use Rattle.fca_model.specs.Sets.{Set}
use Rattle.fca_model.specs.Context.{Context}
use Rattle.extent_places.specs.Places.{column}
use Rattle.concept_walk.proofs.cross_table.CrossTable.keep_having.Goals as goal

-- the column is there, and is that of the rows
column_there : (J K : Context) (Cs : List Set) (i : ℕ) → J ≡ K → Cs ≡ map (column J.rows) (range_with_len 0 J.width) → i < K.width
    → (i < length Cs) × (get_or Cs i [] ≡ column K.rows i)
column_there J K Cs i same is inside =
    let width : J.width ≡ K.width = ap (λ (x : Context). x.width) same in
    let n : length Cs ≡ J.width = ap (λ (Xs : List Set). length Xs) is ∙ length-map-range_with_len (column J.rows) 0 J.width in (
      omega (arith, n, width, inside),
      ap (λ (Xs : List Set). get_or Xs i []) is ∙ get_or-map-range_with_len (column J.rows) 0 J.width i i [] (omega (arith, width, inside))
          (omega arith)
          ∙ ap (λ (x : Context). column x.rows i) same,
    )

pub keep_having-requires-clause-column : goal.keep_having-requires-clause-column
keep_having-requires-clause-column g c = (column_there c.self.inside.rows.now c.args.self.now c.self.inside.columns c.args.i c.self.view_is
    c.self.invariant.columns c.requires.attribute).0

pub keep_having-requires-clause-inside : goal.keep_having-requires-clause-inside
keep_having-requires-clause-inside g c = λ k d l.
    let Rs : List Set = c.args.self.now.rows in
    let there = (column_there c.self.inside.rows.now c.args.self.now c.self.inside.columns c.args.i c.self.view_is c.self.invariant.columns
    c.requires.attribute).1 in
    let long : length (get_or c.self.inside.columns c.args.i []) ≡ length Rs = ap (λ (X : Set). length X) there
    ∙ length-map Rs (λ (R : Set). get_or R c.args.i false) in
    omega (arith, long, c.requires.inside k d l)

pub returns-clause-found : goal.returns-clause-found
returns-clause-found g c =
    let there = (column_there c.self.inside.rows.now c.args.self.now c.self.inside.columns c.args.i c.self.view_is c.self.invariant.columns
    c.requires.attribute).1 in
    c.keep_having.ensures.found ∙ ap (λ (X : Set). filter (λ p. get_or X p false) c.args.places.now) there
