use Rattle.std.proofs.Common.{◌≡◌, ◌∙◌, ◌<◌, ◌+◌, ◌*◌, [], ℕ, length, get_or, sym, ap, subst, arith, rules}
use Rattle.value_tables.specs.Values.{ValueTable, object_at, value_at}
use Rattle.value_tables.specs.Cells.{texts}
use Rattle.value_tables.proofs.CellLemmas.{cut_length, objects_length, objects_value, place_within}
use Rattle.value_tables.proofs.values.Values.value.Goals as goal
use Rattle.value_tables.proofs.values.Values.value.Goals.{After-len}

width_is : (c : goal.After-len) → c.len.result ≡ length c.self.inside.attributes.keys
width_is c = search rules

object_below : (c : goal.After-len) → c.args.g < length c.self.inside.objects.items
object_below c =
    let v = c.self.inside in
    let same = sym (objects_length (length v.attributes.keys) v.objects.items (texts v.cells))
    ∙ ap (λ (t : ValueTable). length t.objects) c.self.view_is in
    omega (arith, same, c.requires.object)

attribute_below : (c : goal.After-len) → c.args.m < length c.self.inside.attributes.keys
attribute_below c =
    let same = ap (λ (t : ValueTable). length t.attributes) c.self.view_is in
    omega (arith, same, c.requires.attribute)

place_below : (c : goal.After-len) → c.args.g * c.len.result + c.args.m < length c.self.inside.cells.lengths.items
place_below c =
    let v = c.self.inside in
    let width = length v.attributes.keys in
    let within = place_within c.args.g (length v.objects.items) c.args.m width (object_below c) (attribute_below c) in
    let P : ℕ → Type 0 = λ n. c.args.g * width + c.args.m < n in
    let Q : ℕ → Type 0 = λ w. c.args.g * w + c.args.m < length v.cells.lengths.items in
    subst Q (sym (width_is c)) (subst P (sym c.self.invariant.even ∙ cut_length v.cells.lengths.items v.cells.text.items) within)

pub overflow_mul-g : goal.overflow_mul-g
overflow_mul-g c =
    let lengths = c.self.inside.cells.lengths in
    omega (arith, place_below c, lengths.ok.0, lengths.ok.1, lengths.small)

pub overflow_add-g : goal.overflow_add-g
overflow_add-g c =
    let lengths = c.self.inside.cells.lengths in
    omega (arith, place_below c, lengths.ok.0, lengths.ok.1, lengths.small)

pub get-requires-clause-place : goal.get-requires-clause-place
get-requires-clause-place c = omega (arith, place_below c, c.self.inside.cells.lengths.ok.0)

pub returns : goal.returns
returns c =
    let v = c.self.inside in
    let before = (goal.at.returns c).After-len in
    c.get.ensures
    ∙ ap (λ (w : ℕ). get_or (texts v.cells) (c.args.g * w + c.args.m) []) (width_is before)
    ∙ sym (objects_value (length v.attributes.keys) v.objects.items (texts v.cells) c.args.g c.args.m (object_below before)
    (attribute_below before))
    ∙ ap (λ (t : ValueTable). value_at c.args.m (object_at t c.args.g)) c.self.view_is
