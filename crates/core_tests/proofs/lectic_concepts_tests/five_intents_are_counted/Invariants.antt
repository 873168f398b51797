-- The walk counts its steps over a ledger of its own.
use Rattle.core_tests.proofs.lectic_concepts_tests.five_intents_are_counted.Given as goal

abbrev pub ghosts-intents_over : goal.ghosts-intents_over
ghosts-intents_over g a = record { name = a.blank.name; parts = a.blank.parts }
