use Rattle.std.proofs.Common.{◌≡◌, ◌<◌, ◌∙◌, ℕ, List, true, false, length, get_or, set, sym, subst, arith}
use Rattle.std.proofs.lemmas.Bool.{not-true}
use Rattle.std.proofs.lemmas.List.{get_or_default}
use Rattle.fca_model.specs.Sets.{Set}
use Rattle.fca_model.specs.Context.{Context, closure}
use Rattle.fca_model.proofs.SetLemmas.{not_within_at}
use Rattle.fca_model.proofs.ClosureLemmas.{length-closure}
use Rattle.attr_bits.proofs.PlaceLemmas.{member_below}
use Rattle.lectic_concepts.specs.Branches.{AreWitnesses}
use Rattle.lattice_covers.proofs.chain.has_witness.Goals as goal

-- the witness for i is a member of the closure with i
witness : (K : Context) (A : Set) (ws : List ℕ) (i w : ℕ) → AreWitnesses K A ws → i < length ws → w ≡ get_or ws i w
    → get_or (closure K (set A i true)) w false ≡ true
witness K A ws i w noted inside is = subst (λ v. get_or (closure K (set A i true)) v false ≡ true) (sym (is ∙ get_or_default ws i w 0 inside))
    (noted.member i inside)

pub has-requires : goal.has-requires
has-requires g c =
    let K : Context = c.args.rows.now in
    let A : Set = c.args.link.now.intent in
    let noted : AreWitnesses K A c.deref.result.now = subst (AreWitnesses K A) (sym c.deref.ensures.value) c.requires.link.witnesses in
    let member = witness K A c.deref.result.now c.args.i c.in-Some.member.now noted c.in-Some.ensures.lookup.3.0 c.in-Some.ensures.lookup.1 in
    omega (
      arith,
      member_below (closure K (set A c.args.i true)) c.in-Some.member.now member,
      length-closure K (set A c.args.i true),
      c.requires.allowed,
    )

pub returns-in-Some : goal.returns-in-Some
returns-in-Some g c = λ t.
    let K : Context = c.args.rows.now in
    let A : Set = c.args.link.now.intent in
    let noted : AreWitnesses K A c.deref.result.now = subst (AreWitnesses K A) (sym c.deref.ensures.value) c.requires.link.witnesses in
    not_within_at (closure K (set A c.args.i true)) c.args.allowed.now c.in-Some.member.now
    (witness K A c.deref.result.now c.args.i c.in-Some.member.now noted c.in-Some.ensures.lookup.3.0 c.in-Some.ensures.lookup.1)
    (sym c.has.ensures ∙ not-true c.has.result t)
