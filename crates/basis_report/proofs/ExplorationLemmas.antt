-- The text of an exploration by its parts.
use Rattle.std.proofs.Common.{◌≡◌, ◌++◌, ◌∷◌, ◌+◌, ◌<◌, ℕ, List, arith, codes, refl, ap, sym, ◌∙◌, [], length, drop, get_or, append_assoc}
use Rattle.std.proofs.Common.{append-nil}
use Rattle.std.proofs.lemmas.List.{drop_more}
use Rattle.fca_model.specs.Tables.{Text, NamedContext}
use Rattle.fca_model.specs.Implications.{Rule}
use Rattle.fca_model.specs.Questions.{open_questions}
use Rattle.fca_model.specs.Exploration.{State, SetEntry, Settings, opening, events_of}
use Rattle.fca_model.proofs.CourseLemmas.{run_settings}
use Rattle.explore_state.specs.History.{ExploreModel, state_of, open_of}
use Rattle.expert_wire.specs.Replies.{numbered_rule}
use Rattle.expert_wire.specs.Texts.{line_end}
use Rattle.expert_scripts.specs.Transcripts.{transcript}
use Rattle.report_texts.specs.Reports.{count_line}
use Rattle.std.specs.List.{flat_map, enumerate_from}
use Rattle.basis_report.specs.Explorations.{recorded_section, accepted_section, open_section, basis_section, sections, state_of_history}
use Rattle.basis_report.specs.Explorations.{explore_text, transcript_of, sections_before_basis, basis_section_of}

pub sections-known : (attributes : List Text) (H : List SetEntry) (s : State) (S : List Rule) → s.settings.known ≡ S
    → sections attributes H s
    ≡ recorded_section H ++ (accepted_section attributes (length S) s.accepted
    ++ (open_section attributes (open_questions S s.context s.accepted) ++ basis_section attributes s.accepted
    (open_questions S s.context s.accepted)))
sections-known attributes H s S e =
    ap (λ K. recorded_section H ++ (accepted_section attributes (length K) s.accepted
    ++ (open_section attributes (open_questions K s.context s.accepted) ++ basis_section attributes s.accepted
    (open_questions K s.context s.accepted)))) e

-- the head of the accepted implications, before any of them
pub accepted_section-begun : (attributes : List Text) (k : ℕ) (acc : List Rule) (before after : Text)
    → after ≡ before ++ count_line (codes "# accepted ") (length acc)
    → after ++ flat_map (λ x. (codes "# " ++ numbered_rule attributes x.0 x.1) ++ line_end) (enumerate_from (k + 0) acc)
    ≡ before ++ accepted_section attributes k acc
accepted_section-begun attributes k acc before after e =
    let lines : ℕ → Text = λ n. flat_map (λ x. (codes "# " ++ numbered_rule attributes x.0 x.1) ++ line_end) (enumerate_from n acc) in
    let head = count_line (codes "# accepted ") (length acc) in
    let same : k + 0 ≡ k = omega arith in
    ap (λ z. z ++ lines (k + 0)) e ∙ append_assoc before head (lines (k + 0)) ∙ ap (λ n. before ++ (head ++ lines n)) same

-- the text of one element more
pub lines_more : {X : Type 0} (f : X → Text) (xs : List X) (k : ℕ) (x : X) (d d' all : Text) → k < length xs → x ≡ get_or xs k x
    → d' ≡ d ++ f x
    → d ++ flat_map f (drop k xs) ≡ all → d' ++ flat_map f (drop (k + 1) xs) ≡ all
lines_more f xs k x d d' all inside is grown before =
    let later = flat_map f (drop (k + 1) xs) in
    ap (λ z. z ++ later) grown ∙ append_assoc d (f x) later
    ∙ sym (ap (λ ys. d ++ flat_map f ys) (drop_more xs k x inside ∙ ap (λ y. y ∷ drop (k + 1) xs) (sym is))) ∙ before

-- five texts that were appended one by one
pub five_parts : (d0 d1 d2 d3 d4 d5 a b c d e : Text) → d1 ≡ d0 ++ a → d2 ≡ d1 ++ b → d3 ≡ d2 ++ c → d4 ≡ d3 ++ d → d5 ≡ d4 ++ e
    → d5 ≡ d0 ++ (a ++ (b ++ (c ++ (d ++ e))))
five_parts d0 d1 d2 d3 d4 d5 a b c d e e1 e2 e3 e4 e5 =
    let all : d5 ≡ ((((d0 ++ a) ++ b) ++ c) ++ d) ++ e = e5
    ∙ ap (λ z. z ++ e) (e4 ∙ ap (λ z. z ++ d) (e3 ∙ ap (λ z. z ++ c) (e2 ∙ ap (λ z. z ++ b) e1))) in
    all ∙ simp append_assoc

-- the parts that are written, if k rules are known
abbrev written : NamedContext → Settings → ℕ → List SetEntry → List SetEntry → List Rule → List Rule → List Rule → List Rule → Text
written T G k J J' A Q A' Q' = transcript T.attributes G J
    ++ (recorded_section J' ++ (accepted_section T.attributes k A ++ (open_section T.attributes Q ++ basis_section T.attributes A' Q')))

-- the questions open after the history, relative to what was known
abbrev open_after : NamedContext → Settings → List SetEntry → List Rule
open_after t settings H = open_questions settings.known (state_of_history t settings H).context (state_of_history t settings H).accepted

pub explore_text-parts : (t : NamedContext) (settings : Settings) (H : List SetEntry)
    → (T : NamedContext) → T ≡ t → (G : Settings) → G ≡ settings → (S : List Rule) → S ≡ settings.known → (J : List SetEntry) → J ≡ H
    → (J' : List SetEntry) → J' ≡ H
    → (A : List Rule) → A ≡ (state_of_history t settings H).accepted → (Q : List Rule)
    → Q ≡ open_questions settings.known (state_of_history t settings H).context (state_of_history t settings H).accepted
    → (A' : List Rule) → A' ≡ (state_of_history t settings H).accepted → (Q' : List Rule)
    → Q' ≡ open_questions settings.known (state_of_history t settings H).context (state_of_history t settings H).accepted
    → transcript T.attributes G J ++ (recorded_section J'
    ++ (accepted_section T.attributes (length S) A ++ (open_section T.attributes Q ++ basis_section T.attributes A' Q')))
    ≡ explore_text t settings H
unfolding explore_text
explore_text-parts t settings H T eT G eG S eS J eJ J' eJ' A eA Q eQ A' eA' Q' eQ' =
    let s = state_of_history t settings H in
    let k = length settings.known in
    let open_ = open_after t settings H in
    ap (λ x. written x G (length S) J J' A Q A' Q') eT ∙ ap (λ x. written t x (length S) J J' A Q A' Q') eG
    ∙ ap (λ (x : List Rule). written t settings (length x) J J' A Q A' Q') eS
    ∙ ap (λ x. written t settings k x J' A Q A' Q') eJ ∙ ap (λ x. written t settings k H x A Q A' Q') eJ'
    ∙ ap (λ x. written t settings k H H x Q A' Q') eA ∙ ap (λ x. written t settings k H H s.accepted x A' Q') eQ
    ∙ ap (λ x. written t settings k H H s.accepted open_ x Q') eA'
    ∙ ap (λ x. written t settings k H H s.accepted open_ s.accepted x) eQ'
    ∙ ap (λ (S : Settings). written t settings (length S.known) H H s.accepted (open_questions S.known s.context s.accepted) s.accepted
    (open_questions S.known s.context s.accepted)) (sym (run_settings (opening t.context t.objects settings) (events_of H)))

-- ---- the text by its pieces

pub explore_text-pieces : (h : ExploreModel) → transcript_of h ++ (sections_before_basis h ++ basis_section_of h)
    ≡ explore_text h.opening.table h.opening.settings h.journal
explore_text-pieces h =
    let t = h.opening.table in
    let s = h.opening.settings in
    let H = h.journal in
    let recorded = recorded_section H in
    let accepted = accepted_section t.attributes (length s.known) (state_of h).accepted in
    let open_ = open_section t.attributes (open_of h) in
    let apart : sections_before_basis h ++ basis_section_of h ≡ recorded ++ (accepted ++ (open_ ++ basis_section_of h)) =
    append_assoc recorded (accepted ++ open_) (basis_section_of h) ∙ ap (λ z. recorded ++ z) (append_assoc accepted open_ (basis_section_of h)) in
    ap (λ z. transcript_of h ++ z) apart
    ∙ explore_text-parts t s H t refl s refl s.known refl H refl H refl (state_of h).accepted refl (open_of h) refl
    (state_of h).accepted refl (open_of h) refl

abbrev lists : NamedContext → ℕ → List SetEntry → List Rule → List Rule → Text
lists T k J A Q = recorded_section J ++ (accepted_section T.attributes k A ++ open_section T.attributes Q)

-- three texts that were appended one by one
pub three_parts : (d0 d1 d2 d3 a b c : Text) → d0 ≡ [] → d1 ≡ d0 ++ a → d2 ≡ d1 ++ b → d3 ≡ d2 ++ c → d3 ≡ a ++ (b ++ c)
three_parts d0 d1 d2 d3 a b c e0 e1 e2 e3 =
    let all : d3 ≡ (([] ++ a) ++ b) ++ c = e3 ∙ ap (λ z. z ++ c) (e2 ∙ ap (λ z. z ++ b) (e1 ∙ ap (λ z. z ++ a) e0)) in
    all ∙ append_assoc a b c

pub sections_before_basis-parts : (h : ExploreModel) (T : NamedContext) → T ≡ h.opening.table → (J : List SetEntry) → J ≡ h.journal → (S : List Rule)
    → S ≡ h.opening.settings.known
    → (A : List Rule) → A ≡ (state_of h).accepted → (Q : List Rule) → Q ≡ open_of h
    → recorded_section J ++ (accepted_section T.attributes (length S) A ++ open_section T.attributes Q) ≡ sections_before_basis h
sections_before_basis-parts h T eT J eJ S eS A eA Q eQ =
    let t = h.opening.table in
    let k = length h.opening.settings.known in
    ap (λ x. lists x (length S) J A Q) eT ∙ ap (λ x. lists t (length S) x A Q) eJ
    ∙ ap (λ (x : List Rule). lists t (length x) h.journal A Q) eS
    ∙ ap (λ x. lists t k h.journal x Q) eA ∙ ap (λ x. lists t k h.journal (state_of h).accepted x) eQ

-- the pieces in a list, one after the other
pub joined-three : (a b c x y z : Text) → a ≡ x → b ≡ y → c ≡ z → a ++ (b ++ (c ++ [])) ≡ x ++ (y ++ z)
joined-three a b c x y z ea eb ec = ap (λ w. w ++ (b ++ (c ++ []))) ea ∙ ap (λ w. x ++ (w ++ (c ++ []))) eb
    ∙ ap (λ w. x ++ (y ++ w)) (append-nil c ∙ ec)
