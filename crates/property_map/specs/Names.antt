-- Which names were put into a set of them.
use Rattle.std.specs.Prelude.{◌≡◌, ℕ, Bool, ◌||◌, List}
use Rattle.std.specs.BTreeSet.{contains_by}
use Rattle.std.specs.Cmp.Lexicographic.{slice_cmp}
use Rattle.std.specs.Ordering.{nat_cmp}
use Rattle.std.specs.Str.{bytes_eq}
use Rattle.property_map.specs.Texts.{is_among}
use Rattle.property_map.specs.declared.names.Names.{Names}

abbrev pub has : Names → List ℕ → Bool
has names s = contains_by (λ k. slice_cmp nat_cmp s k.items) names.set

-- it has these, and no others
abbrev pub Holds : Names → List (List ℕ) → Type 0
Holds names texts = (s : List ℕ) → has names s ≡ is_among s texts

-- it has one name more
abbrev pub Adds : Names → List ℕ → Names → Type 0
Adds old name new = (s : List ℕ) → has new s ≡ (bytes_eq name s || has old s)
