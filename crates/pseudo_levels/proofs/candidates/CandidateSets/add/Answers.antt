use Rattle.std.proofs.Common.{◌≡◌, true, length, map, set, refl, ◌∙◌, sym, ap, subst}
use Rattle.std.specs.List.{list_all}
use Rattle.pseudo_levels.specs.Search.{Grows}
use Rattle.pseudo_levels.specs.BySize.{together, AreBySize}
use Rattle.pseudo_levels.proofs.CandidateLemmas.{grows_refl}
use Rattle.pseudo_levels.proofs.BySizeLemmas.{added_at, kept_at, only_at}
use Rattle.pseudo_levels.proofs.IndexLemmas.{on_err_from}
use Rattle.pseudo_levels.proofs.candidates.CandidateSets.add.Goals as goal
use Rattle.pseudo_levels.proofs.candidates.CandidateSets.add.Goals.{After-from_residual-in_err-insert}

pub invariant_of-self-in_err-insert : goal.invariant_of-self-in_err-insert
invariant_of-self-in_err-insert c =
    let by = c.make_room.ensures.by_size c.self.invariant in
    subst AreBySize (kept_at (λ sets. sets.keys) c.make_room.new.by_size.items c.size-size.result c.index_mut.result.now c.insert.new.self
    by c.in_ok-make_room.ensures.room c.index_mut.ensures.value c.in_err-insert.ensures.err) by

pub returns-in_err-insert-clause-grows : goal.returns-in_err-insert-clause-grows
returns-in_err-insert-clause-grows c =
    let by = c.make_room.ensures.by_size c.self.invariant in
    subst (λ Xs. Grows (length c.args.set) c.args.self.now Xs)
    (sym c.self.view_is ∙ sym c.make_room.ensures.same
    ∙ ap together (kept_at (λ sets. sets.keys) c.make_room.new.by_size.items c.size-size.result c.index_mut.result.now c.insert.new.self by
    c.in_ok-make_room.ensures.room c.index_mut.ensures.value c.in_err-insert.ensures.err))
    (grows_refl (length c.args.set) c.args.self.now)

pub invariant_of-self-2 : goal.invariant_of-self-2
invariant_of-self-2 c =
    (added_at (λ sets. sets.keys) c.make_room.new.by_size.items c.size-size.result c.index_mut.result.now c.insert.new.self
    (c.make_room.ensures.by_size c.self.invariant) c.in_ok-make_room.ensures.room
    c.index_mut.ensures.value c.args.set c.size-size.ensures.size c.in_ok-insert.ensures.keys).0

pub returns-clause-added : goal.returns-clause-added
returns-clause-added c =
    (added_at (λ sets. sets.keys) c.make_room.new.by_size.items c.size-size.result c.index_mut.result.now c.insert.new.self
    (c.make_room.ensures.by_size c.self.invariant) c.in_ok-make_room.ensures.room
    c.index_mut.ensures.value c.args.set c.size-size.ensures.size c.in_ok-insert.ensures.keys).1

pub returns-clause-grows : goal.returns-clause-grows
returns-clause-grows c =
    subst (λ Xs. Grows (length c.args.set) Xs (together
    (map (λ sets. sets.keys) (set c.make_room.new.by_size.items c.size-size.result c.insert.new.self))))
    (c.make_room.ensures.same ∙ c.self.view_is)
    (added_at (λ sets. sets.keys) c.make_room.new.by_size.items c.size-size.result c.index_mut.result.now c.insert.new.self
    (c.make_room.ensures.by_size c.self.invariant) c.in_ok-make_room.ensures.room
    c.index_mut.ensures.value c.args.set c.size-size.ensures.size c.in_ok-insert.ensures.keys).2

-- where no memory was left, all lists are as they were
unchanged : (c : After-from_residual-in_err-insert) → together (map (λ sets. sets.keys)
    (set c.make_room.new.by_size.items c.size-size.result c.insert.new.self)) ≡ c.args.self.now
unchanged c =
    let by = c.make_room.ensures.by_size c.self.invariant in
    sym (ap together (kept_at (λ sets. sets.keys) c.make_room.new.by_size.items c.size-size.result c.index_mut.result.now c.insert.new.self
    by c.in_ok-make_room.ensures.room c.index_mut.ensures.value c.in_err-insert.ensures.err))
    ∙ c.make_room.ensures.same ∙ c.self.view_is

pub returns-in_err-insert-clause-err : goal.returns-in_err-insert-clause-err
returns-in_err-insert-clause-err c = on_err_from c.from_residual-in_err-insert.result (unchanged c)

pub returns-in_err-insert-clause-only : goal.returns-in_err-insert-clause-only
returns-in_err-insert-clause-only c p all each = subst (λ Xs. list_all p Xs ≡ true) (sym (unchanged c)) all

pub returns-clause-only : goal.returns-clause-only
returns-clause-only c p all each =
    only_at (λ sets. sets.keys) c.make_room.new.by_size.items c.size-size.result c.index_mut.result.now c.insert.new.self
    (c.make_room.ensures.by_size c.self.invariant) c.in_ok-make_room.ensures.room c.index_mut.ensures.value
    c.args.set c.in_ok-insert.ensures.keys p (subst (λ Xs. list_all p Xs ≡ true) (sym (c.make_room.ensures.same ∙ c.self.view_is)) all)
    (each c.args.set refl)
