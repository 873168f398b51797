use Rattle.std.proofs.Common.{◌≡◌, ◌∙◌, ◌&&◌, true, nat_lt, drop, length, ◌+◌, ◌-◌, sym, ap, rules, arith, length-drop}
use Rattle.std.proofs.lemmas.List.{take_all}
use Rattle.real_ends.specs.Addresses.{parts_at, is_port}
use Rattle.real_ends.proofs.address.is_address.Goals as goal

pub returns-then-place-gt0 : goal.returns-then-place-gt0
unfolding parts_at
returns-then-place-gt0 c =
    let text = c.args.text.now in
    let place = c.in-Some.place in
    let some : nat_lt 0 place ≡ true = search rules in
    let all = take_all (length text - (place + 1)) (drop (place + 1) text) (omega (arith, length-drop (place + 1) text)) in
    c.is_port.ensures ∙ ap is_port all ∙ ap (λ b. b && is_port (drop (place + 1) text)) (sym some)
    ∙ ap (parts_at text) c.in-Some.ensures.last

pub returns-else-place-gt0 : goal.returns-else-place-gt0
unfolding parts_at
returns-else-place-gt0 c =
    let text = c.args.text.now in
    let place = c.in-Some.place in
    let both : nat_lt 0 place ≡ (nat_lt 0 place && is_port (drop (place + 1) text)) = search rules in
    both ∙ ap (parts_at text) c.in-Some.ensures.last

pub returns-in-None : goal.returns-in-None
unfolding parts_at
returns-in-None c = ap (parts_at c.args.text.now) c.in-None.ensures.last
