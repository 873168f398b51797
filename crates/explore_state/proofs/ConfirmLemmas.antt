-- A question that is open is accepted where it is confirmed: no row refutes it, and no accepted implication has its premise.
use Rattle.std.proofs.Common.{◌≡◌, ℕ, ◌+◌, Bool, true, false, not, cond, ◌&&◌, ◌||◌, Option, Some, None, List, [], ◌∷◌, length, eqb, refl}
use Rattle.std.proofs.Common.{sym, ap, ◌∙◌, subst}
use Rattle.std.proofs.lemmas.Bool.{or_parts}
use Rattle.std.proofs.lemmas.List.Sums.{AllPass-from_list_all}
use Rattle.std.proofs.lemmas.Option.{get_or_from_slice_get, slice_get_within}
use Rattle.std.specs.List.{list_all, list_any, slice_get}
use Rattle.std.specs.Option.{IfSome, is_some}
use Rattle.fca_model.specs.declared.Reply.TheVariants.{Accepted}
use Rattle.fca_model.specs.Sets.{within, size, same}
use Rattle.fca_model.specs.Context.{Context}
use Rattle.fca_model.specs.Implications.{Rule, respects, refutes, holds}
use Rattle.fca_model.specs.Pseudo.{basis_known}
use Rattle.fca_model.specs.Questions.{has_premise, waiting, least_size, open_questions}
use Rattle.fca_model.specs.Invariant.{Among}
use Rattle.fca_model.specs.Exploration.{State, rules_of, open_in, first_with, confirm_reply, confirm_unrefuted, confirm_unheard}
use Rattle.fca_model.proofs.ClosureLemmas.{holds_by_rows}
use Rattle.fca_model.proofs.InvariantLemmas.{draw_gives_held}
use Rattle.fca_model.proofs.ListLemmas.{list_all-filter_kept, list_all-mono, list_any-not, filter_passes}
use Rattle.fca_model.proofs.PseudoLemmas.{basis_holds}

-- nothing is found where nothing passes
none_with : {X : Type 0} (p : X → Bool) (k : ℕ) (xs : List X) → list_any p xs ≡ false → first_with p k xs ≡ None
none_with p k [] h = refl
none_with p k (x ∷ xs) h =
    let parts = or_parts (p x) (list_any p xs) h in
    ap (λ b. cond b (Some (k, x)) (first_with p (k + 1) xs)) parts.0 ∙ none_with p (k + 1) xs parts.1

-- what all members are, one at a place is
at_place : {X : Type 0} (xs : List X) (i : ℕ) (x : X) → slice_get xs i ≡ Some x → Among xs x
at_place xs i x at p all = ap p (sym (get_or_from_slice_get xs i x x at)) ∙ AllPass-from_list_all p xs all i x (slice_get_within xs i x at)

open_hold : (S : List Rule) (K : Context) (acc : List Rule) → list_all (holds K) (open_questions S K acc) ≡ true
unfolding open_questions waiting
open_hold S K acc =
    list_all-filter_kept (holds K) (λ i. eqb (size i.premise) (least_size (waiting S K acc))) (waiting S K acc)
    (list_all-filter_kept (holds K) (λ i. not (has_premise acc i.premise)) (basis_known S K) (basis_holds S K))

open_new : (S : List Rule) (K : Context) (acc : List Rule) → list_all (λ i. not (has_premise acc i.premise)) (open_questions S K acc) ≡ true
unfolding open_questions waiting
open_new S K acc =
    list_all-filter_kept (λ i. not (has_premise acc i.premise)) (λ i. eqb (size i.premise) (least_size (waiting S K acc))) (waiting S K acc)
    (filter_passes (λ i. not (has_premise acc i.premise)) (basis_known S K))

not_true : (b : Bool) → not b ≡ true → b ≡ false
not_true true e = absurd (cc)
not_true false e = refl

-- no row refutes what holds
unrefuted : (K : Context) (q : Rule) → length q.conclusion ≡ K.width → holds K q ≡ true → list_any (λ r. refutes r q) K.rows ≡ false
unrefuted K q wide h =
    list_any-not (λ r. refutes r q) K.rows
    ∙ ap not (list_all-mono (λ r. respects r q) (λ r. not (refutes r q)) (λ r t. turn (within q.premise r) (within q.conclusion r) t) K.rows
    (sym (holds_by_rows K q wide) ∙ h))
  where
    turn : (a b : Bool) → (not a || b) ≡ true → not (a && not b) ≡ true
    turn true true e = refl
    turn true false e = absurd (cc)
    turn false b e = refl

pub confirm_reply-open : (s : State) (i : ℕ) (q : Rule) → slice_get (open_in s) i ≡ Some q
    → confirm_reply s (Some q) ≡ Accepted (length (rules_of s))
confirm_reply-open s i q at =
    let S = s.settings.known in
    let among : Among (open_in s) q = at_place (open_in s) i q at in
    let wide = (draw_gives_held S s.context s.accepted q among).conclusion_wide in
    let here = among (holds s.context) (open_hold S s.context s.accepted) in
    let new = not_true (has_premise s.accepted q.premise)
    (among (λ j. not (has_premise s.accepted j.premise)) (open_new S s.context s.accepted)) in
    ap (confirm_unrefuted s q) (none_with (λ r. refutes r q) 0 s.context.rows (unrefuted s.context q wide here))
    ∙ ap (confirm_unheard s) (none_with (λ j. same j.premise q.premise) (length S) s.accepted new)

-- one that has a place among the open questions
pub confirm_reply-found : (place : Option ℕ) (q : Rule) (S : List Rule) (K : Context) (acc : List Rule)
    → IfSome place (λ i. slice_get (open_questions S K acc) i ≡ Some q) → is_some place ≡ true
    → (s : State) → s.context ≡ K → s.accepted ≡ acc → s.settings.known ≡ S → confirm_reply s (Some q) ≡ Accepted (length (rules_of s))
confirm_reply-found None q S K acc at there s context accepted known = absurd (cc)
confirm_reply-found (Some i) q S K acc at there s context accepted known =
    let knowing = subst (λ T. slice_get (open_questions T K acc) i ≡ Some q) (sym known) at in
    let rows = subst (λ L. slice_get (open_questions s.settings.known L acc) i ≡ Some q) (sym context) knowing in
    confirm_reply-open s i q (subst (λ J. slice_get (open_questions s.settings.known s.context J) i ≡ Some q) (sym accepted) rows)
