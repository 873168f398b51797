-- Lines of scripts over the attributes a and b.
use Rattle.std.proofs.Common.{◌≡◌, true, false, [], ◌∷◌, Some, None, Ok, Err, refl}
use Rattle.std.specs.Prelude.{codes}
use Rattle.fca_model.specs.Implications.{rule}
use Rattle.fca_model.specs.Names.{name_fault}
use Rattle.expert_scripts.specs.declared.fault.ScriptFault.TheVariants.{BadLine, BadExpert, BadHolders}
use Rattle.expert_scripts.specs.Scripts.{no_settings, setting_of_words, event_of_words}

one_holder : setting_of_words 2 2 no_settings (codes "holders") (codes "1") ≡ Some (Ok (record no_settings { holders = Some 1 }))
one_holder = refl

no_holder : setting_of_words 2 2 no_settings (codes "holders") (codes "0") ≡ Some (Err (BadHolders 2))
no_holder = refl

a_implies_b : setting_of_words 2 3 no_settings (codes "known") (codes "X. .X")
    ≡ Some (Ok (record no_settings { known = rule (true ∷ false ∷ []) (false ∷ true ∷ []) ∷ [] }))
a_implies_b = refl

expert_2_is_ann : setting_of_words 2 4 no_settings (codes "expert") (codes "2 Ann")
    ≡ Some (Ok (record no_settings { expert_names = (2, codes "Ann") ∷ [] }))
unfolding name_fault
expert_2_is_ann = refl

expert_65_is_none : setting_of_words 2 4 no_settings (codes "expert") (codes "65 Ann") ≡ Some (Err (BadExpert 4))
unfolding name_fault
expert_65_is_none = refl

an_event_is_no_setting : setting_of_words 2 5 no_settings (codes "draw") (codes "1") ≡ None
an_event_is_no_setting = refl

a_setting_is_no_event : event_of_words 2 2 (codes "holders") (codes "2") ≡ Err (BadLine 2)
a_setting_is_no_event = refl
