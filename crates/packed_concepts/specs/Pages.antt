-- The concepts on pages, whatever the number of words of a set.
use Rattle.std.specs.Prelude.{ℕ, List}
use Rattle.std.specs.List.{flat_map}
use Rattle.fca_model.specs.Sets.{Set}
use Rattle.packed_concepts.specs.declared.pages.NarrowPages.{NarrowPages}
use Rattle.packed_concepts.specs.declared.pages.NarrowPages.TheVariants.{One, Two, Four, Eight, All}

-- the concepts, page by page
abbrev pub concepts_on : NarrowPages → List (Set × List ℕ)
concepts_on (One pages) = flat_map (λ page. page) pages.items
concepts_on (Two pages) = flat_map (λ page. page) pages.items
concepts_on (Four pages) = flat_map (λ page. page) pages.items
concepts_on (Eight pages) = flat_map (λ page. page) pages.items
concepts_on (All pages) = flat_map (λ page. page) pages.items
