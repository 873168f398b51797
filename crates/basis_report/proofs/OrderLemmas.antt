-- The basis at the end of a text is the basis of all rows relative to what is known, from scratch. The accepted implications are listed
-- in the lectic order of their premises: a tree takes them one by one, and each new premise is added to those that are there and keeps
-- the order. If no question is open, a list of the accepted implications in the order of their premises is the basis.
use Rattle.std.proofs.Common.{◌≡◌, Bool, true, false, not, ◌&&◌, ◌||◌, List, [], ◌∷◌, ◌++◌, map, fold, length, append_assoc, refl, sym}
use Rattle.std.proofs.Common.{ap, ap₂, ◌∙◌, subst, Ordering, Less, Equal, Greater}
use Rattle.std.specs.Prelude.{codes}
use Rattle.std.specs.Ordering.{is_lt, ordering_reverse, match_ordering}
use Rattle.std.specs.BTreeMap.{insert_entry}
use Rattle.std.specs.List.{list_all, list_any}
use Rattle.std.proofs.lemmas.Bool.{false≢true, and_parts, and_from, or_parts, false_from_ne_true, not-true}
use Rattle.std.proofs.lemmas.List.Folds.{list_all-map}
use Rattle.fca_model.specs.Sets.{Set, same, lectic_cmp, increasing}
use Rattle.fca_model.specs.SetLaws.{lectic_total}
use Rattle.fca_model.specs.Context.{Context}
use Rattle.fca_model.specs.Tables.{Text, NamedContext}
use Rattle.fca_model.specs.Implications.{Rule, rule, premises}
use Rattle.fca_model.specs.Pseudo.{basis_known}
use Rattle.fca_model.specs.Questions.{has_premise, open_questions}
use Rattle.fca_model.specs.Exploration.{State, Settings, SetEntry, IsLegal, opening, open_in, state_after, events_of}
use Rattle.fca_model.specs.Invariant.{IsAccepted, have_distinct_premises, rows_respect}
use Rattle.fca_model.proofs.ListLemmas.{list_all-mono, and_true, and_assoc, or_not}
use Rattle.fca_model.proofs.SetLemmas.{lectic_equal, same-true, same_refl}
use Rattle.fca_model.proofs.DoneLemmas.{accepted_sorted, accepted_length}
use Rattle.fca_model.proofs.RunLemmas.{legal_valid}
use Rattle.fca_model.proofs.ValidLemmas.{opening_valid}
use Rattle.fca_model.proofs.CourseLemmas.{run_settings}
use Rattle.fca_model.proofs.SortedLemmas.{before_trans}
use Rattle.expert_scripts.specs.Transcripts.{transcript}
use Rattle.report_texts.specs.Reports.{count_line, implication_lines}
use Rattle.basis_report.specs.Explorations.{recorded_section, accepted_section, open_section, in_lectic_order, basis_lines, basis_section}
use Rattle.basis_report.specs.Explorations.{state_of_history, explore_text, text_before_basis}
use Rattle.basis_report.proofs.ExplorationLemmas.{sections-known}

-- a pair of the tree, as an implication
abbrev ruled : Set × Set → Rule
ruled entry = rule entry.0 entry.1

-- one of the pairs has the premise
abbrev has_key : Set → List (Set × Set) → Bool
has_key P Es = list_any (λ e. same e.0 P) Es

-- the premises of the pairs are in order
abbrev in_order : List (Set × Set) → Bool
in_order Es = increasing (map (λ (e : Set × Set). e.0) Es)

swap : (a b c : Bool) → (b && (a && c)) ≡ (a && (b && c))
swap true b c = refl
swap false true c = refl
swap false false c = refl

-- ---- one pair more

-- a new premise is added to those that are there
list_all-insert_entry : (p : Rule → Bool) (P C : Set) (Es : List (Set × Set)) → has_key P Es ≡ false
    → list_all p (map ruled (insert_entry lectic_cmp Es P C)) ≡ (p (rule P C) && list_all p (map ruled Es))
list_all-insert_entry p P C [] h = refl
list_all-insert_entry p P C (e ∷ Es) h =
    let apart = or_parts (same e.0 P) (has_key P Es) h in
    go (lectic_cmp P e.0) refl apart.0 (list_all-insert_entry p P C Es apart.1)
  where
    go : (o : Ordering) → lectic_cmp P e.0 ≡ o → same e.0 P ≡ false
        → list_all p (map ruled (insert_entry lectic_cmp Es P C)) ≡ (p (rule P C) && list_all p (map ruled Es))
        → list_all p (map ruled (match_ordering o ((P, C) ∷ e ∷ Es) ((e.0, C) ∷ Es) (e ∷ insert_entry lectic_cmp Es P C)))
        ≡ (p (rule P C) && (p (ruled e) && list_all p (map ruled Es)))
    go Less eq d rest = refl
    go Equal eq d rest = absurd (false≢true (sym d ∙ subst (λ X. same e.0 X ≡ true) (sym (lectic_equal P e.0 eq)) (same_refl e.0)))
    go Greater eq d rest = ap (λ b. p (ruled e) && b) rest ∙ swap (p (rule P C)) (p (ruled e)) (list_all p (map ruled Es))

-- ---- in order

is_less_at : (A B : Set) → lectic_cmp A B ≡ Greater → is_lt (lectic_cmp B A) ≡ true
is_less_at A B e = ap is_lt (lectic_total.antisymm B A ∙ ap ordering_reverse e)

-- a set below each premise stays below each if a premise above it is added
first-insert_entry : (A P C : Set) (Es : List (Set × Set)) → is_lt (lectic_cmp A P) ≡ true
    → list_all (λ e. is_lt (lectic_cmp A e.0)) Es ≡ true
    → list_all (λ e. is_lt (lectic_cmp A e.0)) (insert_entry lectic_cmp Es P C) ≡ true
first-insert_entry A P C [] h all = and_from (is_lt (lectic_cmp A P)) true h refl
first-insert_entry A P C (e ∷ Es) h all =
    let parts = and_parts (is_lt (lectic_cmp A e.0)) (list_all (λ e. is_lt (lectic_cmp A e.0)) Es) all in
    go (lectic_cmp P e.0) parts.0 parts.1 (first-insert_entry A P C Es h parts.1)
  where
    go : (o : Ordering) → is_lt (lectic_cmp A e.0) ≡ true → list_all (λ e. is_lt (lectic_cmp A e.0)) Es ≡ true
        → list_all (λ e. is_lt (lectic_cmp A e.0)) (insert_entry lectic_cmp Es P C) ≡ true
        → list_all (λ e. is_lt (lectic_cmp A e.0)) (match_ordering o ((P, C) ∷ e ∷ Es) ((e.0, C) ∷ Es) (e ∷ insert_entry lectic_cmp Es P C))
        ≡ true
    go Less first others rest = and_from (is_lt (lectic_cmp A P)) (list_all (λ e. is_lt (lectic_cmp A e.0)) (e ∷ Es)) h
        (and_from (is_lt (lectic_cmp A e.0)) (list_all (λ e. is_lt (lectic_cmp A e.0)) Es) first others)
    go Equal first others rest = and_from (is_lt (lectic_cmp A e.0)) (list_all (λ e. is_lt (lectic_cmp A e.0)) Es) first others
    go Greater first others rest = and_from (is_lt (lectic_cmp A e.0))
        (list_all (λ e. is_lt (lectic_cmp A e.0)) (insert_entry lectic_cmp Es P C)) first rest

-- a new premise keeps the order
in_order-insert_entry : (P C : Set) (Es : List (Set × Set)) → in_order Es ≡ true → in_order (insert_entry lectic_cmp Es P C) ≡ true
in_order-insert_entry P C [] up = refl
in_order-insert_entry P C (e ∷ Es) up =
    let parts = and_parts (list_all (λ B. is_lt (lectic_cmp e.0 B)) (map (λ (x : Set × Set). x.0) Es)) (in_order Es) up in
    go (lectic_cmp P e.0) refl parts.0 (in_order-insert_entry P C Es parts.1)
  where
    go : (o : Ordering) → lectic_cmp P e.0 ≡ o → list_all (λ B. is_lt (lectic_cmp e.0 B)) (map (λ (x : Set × Set). x.0) Es) ≡ true
        → in_order (insert_entry lectic_cmp Es P C) ≡ true
        → in_order (match_ordering o ((P, C) ∷ e ∷ Es) ((e.0, C) ∷ Es) (e ∷ insert_entry lectic_cmp Es P C)) ≡ true
    go Less eq first rest =
        let here : is_lt (lectic_cmp P e.0) ≡ true = ap is_lt eq in
        and_from (list_all (λ B. is_lt (lectic_cmp P B)) (e.0 ∷ map (λ (x : Set × Set). x.0) Es)) (in_order (e ∷ Es))
        (and_from (is_lt (lectic_cmp P e.0)) (list_all (λ B. is_lt (lectic_cmp P B)) (map (λ (x : Set × Set). x.0) Es)) here
        (list_all-mono (λ B. is_lt (lectic_cmp e.0 B)) (λ B. is_lt (lectic_cmp P B)) (λ B h. before_trans P e.0 B here h)
        (map (λ (x : Set × Set). x.0) Es) first))
        up
    go Equal eq first rest = up
    go Greater eq first rest =
        and_from (list_all (λ B. is_lt (lectic_cmp e.0 B)) (map (λ (x : Set × Set). x.0) (insert_entry lectic_cmp Es P C)))
        (in_order (insert_entry lectic_cmp Es P C))
        (list_all-map (λ B. is_lt (lectic_cmp e.0 B)) (λ (x : Set × Set). x.0) (insert_entry lectic_cmp Es P C)
        ∙ first-insert_entry e.0 P C Es (is_less_at P e.0 eq)
        (sym (list_all-map (λ B. is_lt (lectic_cmp e.0 B)) (λ (x : Set × Set). x.0) Es) ∙ first))
        rest

-- ---- all of a list

abbrev with_all : List (Set × Set) → List Rule → List (Set × Set)
with_all Es J = fold (λ entries i. insert_entry lectic_cmp entries i.premise i.conclusion) Es J

-- no member has a premise that stands among the pairs
abbrev are_new : List (Set × Set) → List Rule → Bool
are_new Es J = list_all (λ i. not (has_key i.premise Es)) J

key-insert_entry : (Q P C : Set) (Es : List (Set × Set)) → has_key P Es ≡ false → same P Q ≡ false → has_key Q Es ≡ false
    → has_key Q (insert_entry lectic_cmp Es P C) ≡ false
key-insert_entry Q P C Es new apart none =
    key_any Q (insert_entry lectic_cmp Es P C)
    ∙ ap not (list_all-insert_entry (λ i. not (same i.premise Q)) P C Es new
    ∙ ap₂ (λ a b. not a && b) apart (none_all Q Es none))
  where
    none_all : (Q : Set) (Fs : List (Set × Set)) → has_key Q Fs ≡ false → list_all (λ i. not (same i.premise Q)) (map ruled Fs) ≡ true
    none_all Q [] h = refl
    none_all Q (f ∷ Fs) h = let parts = or_parts (same f.0 Q) (has_key Q Fs) h in
        and_from (not (same f.0 Q)) (list_all (λ i. not (same i.premise Q)) (map ruled Fs)) (ap not parts.0) (none_all Q Fs parts.1)

    key_any : (Q : Set) (Fs : List (Set × Set)) → has_key Q Fs ≡ not (list_all (λ i. not (same i.premise Q)) (map ruled Fs))
    key_any Q [] = refl
    key_any Q (f ∷ Fs) = ap (λ b. same f.0 Q || b) (key_any Q Fs)
        ∙ or_not (same f.0 Q) (list_all (λ i. not (same i.premise Q)) (map ruled Fs))

still_new : (i : Rule) (Es : List (Set × Set)) (J : List Rule) → has_key i.premise Es ≡ false → has_premise J i.premise ≡ false
    → are_new Es J ≡ true
    → are_new (insert_entry lectic_cmp Es i.premise i.conclusion) J ≡ true
still_new i Es [] new apart news = refl
still_new i Es (j ∷ J) new apart news =
    let parts = and_parts (not (has_key j.premise Es)) (are_new Es J) news in
    let aparts = or_parts (same j.premise i.premise) (has_premise J i.premise) apart in
    and_from (not (has_key j.premise (insert_entry lectic_cmp Es i.premise i.conclusion)))
    (are_new (insert_entry lectic_cmp Es i.premise i.conclusion) J)
    (ap not (key-insert_entry j.premise i.premise i.conclusion Es new (other_way j.premise i.premise aparts.0)
    (not-true (has_key j.premise Es) parts.0)))
    (still_new i Es J new aparts.1 parts.1)
  where
    other_way : (A B : Set) → same A B ≡ false → same B A ≡ false
    other_way A B d = false_from_ne_true (same B A) (λ t. false≢true (sym d ∙ subst (λ X. same X B ≡ true) (same-true B A t) (same_refl B)))

members-with_all : (p : Rule → Bool) (Es : List (Set × Set)) (J : List Rule) → have_distinct_premises J ≡ true → are_new Es J ≡ true
    → list_all p (map ruled (with_all Es J)) ≡ (list_all p (map ruled Es) && list_all p J)
members-with_all p Es [] d news = sym (and_true (list_all p (map ruled Es)))
members-with_all p Es (i ∷ J) d news =
    let ds = and_parts (not (has_premise J i.premise)) (have_distinct_premises J) d in
    let ns = and_parts (not (has_key i.premise Es)) (are_new Es J) news in
    let new = not-true (has_key i.premise Es) ns.0 in
    members-with_all p (insert_entry lectic_cmp Es i.premise i.conclusion) J ds.1
    (still_new i Es J new (not-true (has_premise J i.premise) ds.0) ns.1)
    ∙ ap (λ b. b && list_all p J) (list_all-insert_entry p i.premise i.conclusion Es new)
    ∙ and_assoc (p i) (list_all p (map ruled Es)) (list_all p J)
    ∙ swap (list_all p (map ruled Es)) (p i) (list_all p J)

in_order-with_all : (Es : List (Set × Set)) (J : List Rule) → in_order Es ≡ true → in_order (with_all Es J) ≡ true
in_order-with_all Es [] up = up
in_order-with_all Es (i ∷ J) up = in_order-with_all (insert_entry lectic_cmp Es i.premise i.conclusion) J
    (in_order-insert_entry i.premise i.conclusion Es up)

premises-ruled : (Es : List (Set × Set)) → premises (map ruled Es) ≡ map (λ (e : Set × Set). e.0) Es
premises-ruled [] = refl
premises-ruled (e ∷ Es) = ap (λ Xs. e.0 ∷ Xs) (premises-ruled Es)

none_there : (J : List Rule) → are_new [] J ≡ true
none_there [] = refl
none_there (i ∷ J) = none_there J

-- ---- the section

-- if no question is open, the accepted implications in order are the basis relative to what is known
in_lectic_order-basis : (S : List Rule) (K : Context) (acc : List Rule) → IsAccepted S K acc → open_questions S K acc ≡ []
    → in_lectic_order acc ≡ basis_known S K
in_lectic_order-basis S K acc h done = accepted_sorted S K acc h done (in_lectic_order acc)
    (λ p. members-with_all p [] acc h.distinct (none_there acc))
    (ap increasing (premises-ruled (with_all [] acc)) ∙ in_order-with_all [] acc refl)

pub basis_section-basis : (attributes : List Text) (S : List Rule) (K : Context) (acc : List Rule) → IsAccepted S K acc
    → open_questions S K acc ≡ []
    → basis_section attributes acc [] ≡ basis_lines attributes (basis_known S K)
basis_section-basis attributes S K acc h done =
    ap₂ (λ n J. count_line (codes "# basis ") n ++ implication_lines (codes "# ") attributes J) (accepted_length S K acc h done)
    (in_lectic_order-basis S K acc h done)

-- a legal history that leaves no question open
pub finished_basis : (t : NamedContext) (settings : Settings) (H : List SetEntry) → rows_respect settings.known t.context ≡ true
    → IsLegal (opening t.context t.objects settings) H
    → open_in (state_of_history t settings H) ≡ []
    → basis_section t.attributes (state_of_history t settings H).accepted [] ≡ basis_lines t.attributes
    (basis_known settings.known (state_of_history t settings H).context)
finished_basis t settings H respect legal done =
    let start : State = opening t.context t.objects settings in
    let s : State = state_after start (events_of H) in
    let known : s.settings.known ≡ settings.known = ap (λ (g : Settings). g.known) (run_settings start (events_of H)) in
    let valid = legal_valid start H (opening_valid t.context t.objects settings respect) legal in
    let accepted = subst (λ S. IsAccepted S s.context s.accepted) known valid.accepted in
    basis_section-basis t.attributes settings.known s.context s.accepted accepted
    (ap (λ S. open_questions S s.context s.accepted) (sym known) ∙ done)

regrouped : (t r a o b : Text) → t ++ (r ++ (a ++ (o ++ b))) ≡ (t ++ (r ++ (a ++ o))) ++ b
regrouped t r a o b = simp append_assoc

-- its text ends with that basis
pub finished_text : (t : NamedContext) (settings : Settings) (H : List SetEntry) → rows_respect settings.known t.context ≡ true
    → IsLegal (opening t.context t.objects settings) H
    → open_in (state_of_history t settings H) ≡ []
    → explore_text t settings H ≡ text_before_basis t settings H ++ basis_lines t.attributes
    (basis_known settings.known (state_of_history t settings H).context)
unfolding explore_text
finished_text t settings H respect legal done =
    let s : State = state_of_history t settings H in
    let known : s.settings.known ≡ settings.known =
    ap (λ (g : Settings). g.known) (run_settings (opening t.context t.objects settings) (events_of H)) in
    let none : open_questions settings.known s.context s.accepted ≡ [] = ap (λ S. open_questions S s.context s.accepted) (sym known)
    ∙ done in
    let accepted = accepted_section t.attributes (length settings.known) s.accepted in
    let section : List Rule → Text = λ Q. recorded_section H
    ++ (accepted ++ (open_section t.attributes Q ++ basis_section t.attributes s.accepted Q)) in
    ap (λ l. transcript t.attributes settings H ++ l)
    (sections-known t.attributes H s settings.known known ∙ ap section none
    ∙ ap (λ l. recorded_section H ++ (accepted ++ (open_section t.attributes [] ++ l))) (finished_basis t settings H respect legal done))
    ∙ regrouped (transcript t.attributes settings H) (recorded_section H) accepted (open_section t.attributes [])
    (basis_lines t.attributes (basis_known settings.known s.context))
