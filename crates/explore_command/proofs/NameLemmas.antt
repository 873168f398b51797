-- Names of experts by the words of their files, one after the other: each is named behind those before it, and so the names stand in the
-- order of the experts.
use Rattle.std.proofs.Common.{◌≡◌, ◌<◌, ◌≤◌, ℕ, suc, ◌+◌, Bool, true, false, cond, List, [], ◌∷◌, ◌++◌, length, drop, get_or, None, refl}
use Rattle.std.proofs.Common.{sym, ap, ◌∙◌, subst, arith, append_assoc, append-nil, nat_le}
use Rattle.std.specs.Ordering.{nat_cmp}
use Rattle.std.specs.BTreeMap.{insert_entry}
use Rattle.std.specs.Str.{is_utf8}
use Rattle.std.proofs.Math.Seq.{drop-cons}
use Rattle.std.proofs.Math.ListN.{drop_of_length-le}
use Rattle.std.proofs.lemmas.Bool.{and_parts, leb-true}
use Rattle.std.proofs.lemmas.Str.{IsUtf8-from_is_utf8}
use Rattle.fca_model.specs.Tables.{Text}
use Rattle.fca_model.specs.Names.{IsName, name_fault}
use Rattle.fca_model.specs.declared.TheConstants.{MAX_EXPERTS}
use Rattle.fca_model.specs.Exploration.{RowName, is_expert}
use Rattle.fca_model.specs.Implications.{Rule}
use Rattle.fca_model.specs.Tables.{NamedContext}
use Rattle.implication_closure.specs.Closing.{HaveWidth}
use Rattle.explore_state.specs.Faults.{first_break}
use Rattle.explore_state.proofs.OpenLemmas.{unbroken_rows}
use Rattle.expert_wire.specs.Patterns.{is_name}
use Rattle.expert_wire.proofs.SkipLemmas.{no_fault}
use Rattle.expert_scripts.specs.Transcripts.{AreExpertNames}
use Rattle.expert_scripts.proofs.NamedLemmas.{AreBelow, below-more, below-push, insert-last}
use Rattle.explore_command.specs.Starts.{is_named, names_from, names_by_files, settings_by, MayOpen}

-- ---- one file more

-- the names from expert e on stand behind those before
pub record NamesOn (e : ℕ) (files all : List Text) (before : List (ℕ × RowName)) : Type 0 where
  pub names : before ++ names_from e files ≡ names_from 1 all
  pub below : AreBelow e before

pub NamesOn-none : (files : List Text) → NamesOn 1 files files []
NamesOn-none files = record { names = refl; below = tt }

named_by : (b : Bool) (e : ℕ) (file : Text) (files all : List Text) (before after : List (ℕ × RowName))
    → after ≡ cond b (insert_entry nat_cmp before e file) before
    → before ++ cond b ((e, file) ∷ names_from (e + 1) files) (names_from (e + 1) files) ≡ names_from 1 all → AreBelow e before
    → NamesOn (e + 1) files all after
named_by true e file files all before after is names below =
    let last : after ≡ before ++ (e, file) ∷ [] = is ∙ insert-last e file before below in
    subst (NamesOn (e + 1) files all) (sym last) (record {
      names = append_assoc before ((e, file) ∷ []) (names_from (e + 1) files) ∙ names;
      below = below-push e (e + 1) file before (omega arith) below;
    })
named_by false e file files all before after is names below =
    subst (NamesOn (e + 1) files all) (sym is) (record { names = names; below = below-more e (e + 1) before (omega arith) below })

pub NamesOn-more : (e i : ℕ) (file : Text) (files : List Text) (before after : List (ℕ × RowName)) → i < length files
    → file ≡ get_or files i file
    → after ≡ cond (is_named file) (insert_entry nat_cmp before e file) before → NamesOn e (drop i files) files before
    → NamesOn (e + 1) (drop (i + 1) files) files after
NamesOn-more e i file files before after inside at is on =
    let next : suc i ≡ i + 1 = omega arith in
    let left = drop-cons files i file inside ∙ ap (λ x. x ∷ drop (suc i) files) (sym at) ∙ ap (λ n. file ∷ drop n files) next in
    named_by (is_named file) e file (drop (i + 1) files) files before after is
    (ap (λ l. before ++ names_from e l) (sym left) ∙ on.names) on.below

pub NamesOn-all : (e i : ℕ) (files : List Text) (before : List (ℕ × RowName)) → length files ≤ i → NamesOn e (drop i files) files before
    → before ≡ names_from 1 files
NamesOn-all e i files before past on = sym (append-nil before) ∙ ap (λ l. before ++ names_from e l) (sym (drop_of_length-le files past))
    ∙ on.names

-- ---- settings that can be written

named_is : (file : Text) → is_named file ≡ true → IsName file
named_is file h =
    let parts = and_parts (is_utf8 file) (is_name file) h in
    record { faultless = no_fault (name_fault file) parts.1; utf8 = IsUtf8-from_is_utf8 file parts.0 }

first_named : (low : ℕ) (file : Text) (later : List (ℕ × RowName)) (b : Bool) → is_named file ≡ b → low + 1 ≤ MAX_EXPERTS
    → AreExpertNames (low + 1) later → AreExpertNames low later
    → AreExpertNames low (cond b ((low + 1, file) ∷ later) later)
first_named low file later true is few behind other = (omega arith, few, named_is file is, behind)
first_named low file later false is few behind other = other

above_less : (a b : ℕ) (names : List (ℕ × RowName)) → a ≤ b → AreExpertNames b names → AreExpertNames a names
above_less a b [] l h = tt
above_less a b (x ∷ xs) l h = (let first = h.0 in omega arith, h.1, h.2, h.3)

names_from-named : (low : ℕ) (files : List Text) → low + length files ≤ MAX_EXPERTS → AreExpertNames low (names_from (low + 1) files)
names_from-named low [] few = tt
names_from-named low (file ∷ files) few =
    let later = names_from (low + 1 + 1) files in
    let behind = names_from-named (low + 1) files (omega arith) in
    first_named low file later (is_named file) refl (omega arith) behind (above_less low (low + 1) later (omega arith) behind)

names_by_files-named : (names : Bool) (files : List Text) → length files ≤ MAX_EXPERTS → AreExpertNames 0 (names_by_files names files)
names_by_files-named true files few = let all : 0 + length files ≤ MAX_EXPERTS = omega arith in names_from-named 0 files all
names_by_files-named false files few = tt

pub few_experts : (n : ℕ) → is_expert n ≡ true → n ≤ MAX_EXPERTS
few_experts n h = leb-true n MAX_EXPERTS (and_parts (nat_le 1 n) (nat_le n MAX_EXPERTS) h).1

pub may_open : (table : NamedContext) (S : List Rule) (names : Bool) (files : List Text) → is_expert (length files) ≡ true
    → HaveWidth table.context.width S
    → first_break S 0 table.context.rows ≡ None → MayOpen table (settings_by S names files)
may_open table S names files count wide unbroken = record {
  writable = record { holders = refl; known = wide; names = names_by_files-named names files (few_experts (length files) count) };
  respected = unbroken_rows S 0 table.context.rows unbroken;
  free = refl;
}
