use Rattle.std.proofs.Common.{◌≡◌, ℕ, ◌<◌, ◌≢◌, Some, true, false, All, length, get_or, sym, ap, ◌∙◌, subst, arith, length-set}
use Rattle.fca_model.specs.Sets.{Set, full}
use Rattle.fca_model.specs.Context.{Context}
use Rattle.fca_model.specs.Exploration.{first_missing}
use Rattle.fca_model.proofs.SetLemmas.{length-full}
use Rattle.attr_bits.specs.Difference.{minus}
use Rattle.attr_bits.proofs.PlaceLemmas.{member_below}
use Rattle.attr_bits.proofs.DifferenceLemmas.{length-minus, first_missing-parts}
use Rattle.extent_places.specs.Places.{has_at}
use Rattle.extent_places.proofs.TryLemmas.{all_tries, few_tries, with_first}
use Rattle.extent_places.proofs.tries.attributes_to_try.Goals.{in-Some, in_default}
use Rattle.extent_places.proofs.tries.attributes_to_try.Goals as goal

pub returns-then-places-gt-MOST_JOINED-clause-wide : goal.returns-then-places-gt-MOST_JOINED-clause-wide
returns-then-places-gt-MOST_JOINED-clause-wide g c =
    ap length c.minus.ensures ∙ length-minus c.full-full.result c.args.a.now ∙ ap length c.full-full.ensures ∙ length-full c.width.result
    ∙ c.width.ensures.width

pub returns-then-places-gt-MOST_JOINED-clause-tries : goal.returns-then-places-gt-MOST_JOINED-clause-tries
returns-then-places-gt-MOST_JOINED-clause-tries g c =
    all_tries c.args.rows.now c.args.a.now c.requires.wide c.minus.result
    (c.minus.ensures ∙ ap (λ (F : Set). minus F c.args.a.now) (c.full-full.ensures ∙ ap full c.width.ensures.width))

-- the first missing attribute, over the full set of the table
first : (n : ℕ) (F A : Set) → F ≡ full n → first_missing 0 F A ≡ first_missing 0 (full n) A
first n F A is = ap (λ (X : Set). first_missing 0 X A) is

pub insert-requires : goal.insert-requires
insert-requires g c =
    let K : Context = c.args.rows.now in
    let is : c.full-full.result ≡ full K.width = c.full-full.ensures ∙ ap full c.width.ensures.width in
    let found = sym (first K.width c.full-full.result c.args.a.now is) ∙ sym c.first_missing.ensures ∙ c.in-Some.is in
    let below = member_below (full K.width) c.in-Some.first (first_missing-parts (full K.width) c.args.a.now c.in-Some.first found).0 in
    (omega (arith, c.width.ensures.words), omega (arith, below, length-full K.width, c.join_of_rows-reached.ensures.wide))

pub returns-clause-wide : goal.returns-clause-wide
returns-clause-wide g c =
    ap length c.minus-2.ensures ∙ length-minus c.match-first_missing.reached c.args.a.now ∙ elim c.match-first_missing.branch [
      | in-Some w ↦ ap length (w.reached-is ∙ w.insert.ensures) ∙ length-set c.join_of_rows-reached.result w.in-Some.first true
          ∙ c.join_of_rows-reached.ensures.wide
      | in_default w ↦ ap length w.reached-is ∙ c.join_of_rows-reached.ensures.wide
    ]

pub returns-clause-tries : goal.returns-clause-tries
returns-clause-tries g c =
    let K : Context = c.args.rows.now in
    let A : Set = c.args.a.now in
    let J : Set = c.join_of_rows-reached.result in
    let is : c.full-full.result ≡ full K.width = c.full-full.ensures ∙ ap full c.width.ensures.width in
    let told = sym (first K.width c.full-full.result A is) ∙ sym c.first_missing.ensures in
    let parts : (i : ℕ) → i < K.width → get_or c.match-first_missing.reached i false ≡ false
    → (get_or J i false ≡ false) × (first_missing 0 (full K.width) A ≢ Some i) =
    λ i inside lacks. elim c.match-first_missing.branch [
      | in-Some w ↦
          let below = member_below (full K.width) w.in-Some.first
          (first_missing-parts (full K.width) A w.in-Some.first (told ∙ w.in-Some.is)).0 in
          with_first K A J c.match-first_missing.reached w.in-Some.first (told ∙ w.in-Some.is)
          (omega (arith, below, length-full K.width, c.join_of_rows-reached.ensures.wide)) (w.reached-is ∙ w.insert.ensures) i lacks
      | in_default w ↦ (ap (λ (X : Set). get_or X i false) (sym w.reached-is) ∙ lacks, λ e. w.in_default.not-Some i (sym told ∙ e))
    ] in
    few_tries K A c.requires.wide J c.match-first_missing.reached c.minus-2.result
    (λ i inside none. subst (All (λ p. has_at K.rows i p ≡ false)) c.requires.places
    (c.join_of_rows-reached.ensures.rest i inside none)) parts c.minus-2.ensures
