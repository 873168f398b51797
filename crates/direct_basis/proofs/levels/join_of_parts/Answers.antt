use Rattle.std.proofs.Common.{◌≡◌, ◌∙◌, ◌+◌, ℕ, Bool, ap, ap₂, sym, cond, length, map, filter, fold, get_or, not, true, false, arith}
use Rattle.std.proofs.lemmas.Bool.{false≢true, false_from_ne_true}
use Rattle.std.specs.List.{list_all, range_with_len}
use Rattle.fca_model.specs.Sets.{Set, join}
use Rattle.fca_model.specs.Context.{closure}
use Rattle.fca_model.proofs.ClosureLemmas.{length-closure}
use Rattle.fca_model.proofs.RangeLemmas.{range_more}
use Rattle.direct_basis.specs.Direct.{without}
use Rattle.direct_basis.specs.Levels.{free}
use Rattle.direct_basis.proofs.FreeLemmas.{free_at}
use Rattle.direct_basis.proofs.JoinLemmas.{length-joins, joins_more}
use Rattle.direct_basis.proofs.MemberLemmas.{list_all-filter_more}
use Rattle.direct_basis.proofs.levels.join_of_parts.Goals as goal
use Rattle.direct_basis.proofs.levels.join_of_parts.Goals.{then-has+else-has-2, else-has}

pub has-requires-then-has : goal.has-requires-then-has
has-requires-then-has c =
    let made = ap length c.closure-closed.ensures ∙ length-closure c.args.rows.now c.without.result in
    omega (arith, made, c.requires, c.width-a-end.ensures.width)

pub returns-then-has-2 : goal.returns-then-has-2
returns-then-has-2 c =
    let K = c.args.rows.now in
    let A = c.args.set.now in
    let a = c.loop-a.a in
    let again : get_or (closure K (without A a)) a false ≡ true =
    sym (c.has-then-has.ensures ∙ ap (λ (Z : Set). get_or Z a false) (c.closure-closed.ensures ∙ ap (closure K) c.without.ensures))
    ∙ c.if-has-2.true in
    false_from_ne_true (free K A) (λ f. false≢true (sym (free_at K A a f (sym c.has.ensures ∙ c.if-has.true)) ∙ again))

pub join-joined-requires : goal.join-joined-requires
join-joined-requires c =
    let K = c.args.rows.now in
    let A = c.args.set.now in
    let made = ap length c.closure-closed.ensures ∙ length-closure K c.without.result in
    let wide = ap length c.loop-a.invariant.joined
    ∙ length-joins A (map (λ a. closure K (without A a)) (filter (λ a. get_or A a false) (range_with_len 0 c.loop-a.a))) in
    omega (arith, made, wide, c.requires)

pub loop-a-preserved : goal.loop-a-preserved
loop-a-preserved c =
    let K = c.args.rows.now in
    let A = c.args.set.now in
    let k = c.loop-a.a in
    let has : ℕ → Bool = λ a. get_or A a false in
    let part : ℕ → Set = λ a. closure K (without A a) in
    let lacks : ℕ → Bool = λ a. not (get_or (part a) a false) in
    let so_far = fold join A (map part (filter has (range_with_len 0 k))) in
    let range = range_more 0 k k (omega arith) in
    let joined = ap (λ is. fold join A (map part (filter has is))) range ∙ joins_more part has A (range_with_len 0 k) k in
    let free_more : (has k ≡ true → lacks k ≡ true)
    → list_all lacks (filter has (range_with_len 0 (k + 1))) ≡ true = λ t. ap (λ is. list_all lacks (filter has is)) range
    ∙ list_all-filter_more lacks has (range_with_len 0 k) k c.loop-a.invariant.free t in
    elim c.if-has.branch [
      | then-has+else-has-2 w ↦
          let t : has k ≡ true = sym c.has.ensures ∙ w.if-has.true in
          let closed : w.closure-closed.result ≡ part k = w.closure-closed.ensures ∙ ap (closure K) w.without.ensures in
          record {
            joined = w.joined-is ∙ w.join-joined.ensures ∙ ap₂ join c.loop-a.invariant.joined closed
                ∙ sym (joined ∙ ap (λ b. cond b (join so_far (part k)) so_far) t);
            free = free_more (λ _. ap not (ap (λ (Z : Set). get_or Z k false) (sym closed) ∙ sym w.has-then-has.ensures
                ∙ w.if-has-2.false));
          }
      | else-has w ↦
          let t : has k ≡ false = sym c.has.ensures ∙ w.if-has.false in
          record {
            joined = w.joined-is ∙ c.loop-a.invariant.joined ∙ sym (joined ∙ ap (λ b. cond b (join so_far (part k)) so_far) t);
            free = free_more (λ u. absurd (false≢true (sym t ∙ u)));
          }
    ]
