-- Lists of words by their first two, as code takes them apart.
use Rattle.std.proofs.Common.{◌≡◌, ◌∷◌, [], ◌++◌, ◌-◌, ◌≤◌, ◌∙◌, List, Bool, true, cond, Option, Some, None, length, take, drop, get_or}
use Rattle.std.proofs.Common.{refl, sym, ap, append_assoc, arith}
use Rattle.std.specs.Prelude.{option_map, option_and_then, bytes_eq, codes}
use Rattle.std.proofs.lemmas.List.{take_all}
use Rattle.fca_model.specs.Tables.{Text}
use Rattle.fca_command.specs.Experts.{has_expert_file, expert_files, expert_count}
use Rattle.fca_command.specs.Flags.{serving_for, serving_of}
use Rattle.std.specs.List.{list_all}
use Rattle.std.specs.Str.{is_utf8}
use Rattle.fca_command.specs.Commands.{command_form, text_command, named_command, over_file, file_command}

same_two : {A B C : Type 0} (f : A → B → C) (a x : A) (b y : B) → x ≡ a → y ≡ b → f a b ≡ f x y
same_two f a x b y e g = cc

rest_of : (a b : Text) (rest : List Text) → take (length (a ∷ b ∷ rest) - 2) (drop 2 (a ∷ b ∷ rest)) ≡ rest
rest_of a b rest = take_all _ rest (omega arith)

taken_by : {X : Type 0} (b : Bool) (found : Option X) → b ≡ true → cond b found None ≡ found
taken_by b found h = rw h refl

pub command_form-text : (words : List Text) → list_all is_utf8 words ≡ true → command_form words ≡ text_command words
command_form-text words text = taken_by (list_all is_utf8 words) (text_command words) text

behind_first : (a : Text) (rest : List Text) → take (length (a ∷ rest) - 1) (drop 1 (a ∷ rest)) ≡ rest
behind_first a rest = take_all _ rest (omega arith)

-- what is said of the first of some words and of those behind it
pub by_first : {X : Type 0} (f : List Text → X) (g : Text → List Text → X) → ((a : Text) (rest : List Text) → f (a ∷ rest) ≡ g a rest)
    → (words : List Text) (first : Text) → 1 ≤ length words → first ≡ get_or words 0 first
    → f words ≡ g first (take (length words - 1) (drop 1 words))
by_first f g same [] first h e = absurd (omega arith)
by_first f g same (a ∷ rest) first h e = same a rest ∙ same_two g a first rest _ e (behind_first a rest)

pub text_command-first : (words : List Text) (name : Text) → 1 ≤ length words → name ≡ get_or words 0 name
    → text_command words ≡ named_command name (take (length words - 1) (drop 1 words))
text_command-first words name h e = by_first text_command named_command (λ a rest. refl) words name h e

pub over_file-first : (name : Text) (words : List Text) (file : Text) → 1 ≤ length words → file ≡ get_or words 0 file
    → over_file name words ≡ file_command name file (take (length words - 1) (drop 1 words))
over_file-first name words file h e = by_first (over_file name) (file_command name) (λ a rest. refl) words file h e

-- the number of experts behind its flag, and what the words behind that say
pub serving_of-counted : (words : List Text) (flag count : Text) → 2 ≤ length words → flag ≡ get_or words 0 flag
    → count ≡ get_or words 1 count
    → bytes_eq flag (codes "--experts") ≡ true → option_and_then (serving_for (take (length words - 2) (drop 2 words))) (expert_count count)
    ≡ serving_of words
serving_of-counted [] flag count h e g named = absurd (omega arith)
serving_of-counted (a ∷ []) flag count h e g named = absurd (omega arith)
serving_of-counted (a ∷ b ∷ rest) flag count h e g named =
    let here : bytes_eq a (codes "--experts") ≡ true = ap (λ w. bytes_eq w (codes "--experts")) (sym e) ∙ named in
    ap (λ l. option_and_then (serving_for l) (expert_count count)) (rest_of a b rest)
    ∙ ap (λ w. option_and_then (serving_for rest) (expert_count w)) g
    ∙ sym (taken_by (bytes_eq a (codes "--experts")) (option_and_then (serving_for rest) (expert_count b)) here)

-- files in front of those that were found, one more or not
with_front : (files new : List Text) (file : Text) (found : Option (List Text)) → new ≡ files ++ file ∷ []
    → option_map (λ rest. new ++ rest) found ≡ option_map (λ rest. files ++ rest) (option_map (λ rest. file ∷ rest) found)
with_front files new file None e = refl
with_front files new file (Some rest) e = ap (λ l. Some (l ++ rest)) e ∙ ap Some (append_assoc files (file ∷ []) rest)

pub expert_files-push : (words files new : List Text) (flag file : Text) → 2 ≤ length words → flag ≡ get_or words 0 flag
    → file ≡ get_or words 1 file
    → has_expert_file flag file ≡ true → new ≡ files ++ file ∷ []
    → option_map (λ rest. new ++ rest) (expert_files (take (length words - 2) (drop 2 words))) ≡ option_map (λ rest. files ++ rest)
    (expert_files words)
expert_files-push [] files new flag file h e g named pushed = absurd (omega arith)
expert_files-push (a ∷ []) files new flag file h e g named pushed = absurd (omega arith)
expert_files-push (a ∷ b ∷ rest) files new flag file h e g named pushed =
    let here : has_expert_file a b ≡ true = same_two has_expert_file a flag b file e g ∙ named in
    let front : new ≡ files ++ b ∷ [] = pushed ∙ ap (λ w. files ++ w ∷ []) g in
    ap (λ l. option_map (λ rest. new ++ rest) (expert_files l)) (rest_of a b rest)
    ∙ with_front files new b (expert_files rest) front
    ∙ ap (option_map (λ rest. files ++ rest)) (sym
    (taken_by (has_expert_file a b) (option_map (λ rest. b ∷ rest) (expert_files rest)) here))
