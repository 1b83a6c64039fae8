-- Headers in another order take as many bytes.
use Rattle.std.proofs.Common.{◌≡◌, ℕ, ◌+◌, List, [], ◌∷◌, length, Option, Some, None, sum_by, refl}
use Rattle.std.proofs.Common.{arith}
use Rattle.std.proofs.lemmas.List.Sorted.{sum_by-IsPermutation}
use Rattle.std.proofs.lemmas.List.Sums.{sum_by-cons}
use Rattle.tables_091.specs.Tree.{Tree, members_of}
use Rattle.content_091.specs.View.{a_table}
use Rattle.content_091.specs.declared.header.Props.{Props}
use Rattle.property_map.specs.Rows091.{header_len}
use Rattle.property_map.specs.Room.{tree_len, members_len}
use Rattle.property_map.specs.Back.{AreSameHeaders}
use Rattle.property_map.proofs.Rooms.{maybe_len, header_takes}

abbrev entry_len : List ℕ × Tree → ℕ
entry_len m = (1 + length m.0) + tree_len m.1

members_sum : (ms : List (List ℕ × Tree)) → members_len (members_of ms) ≡ sum_by entry_len ms
members_sum [] = refl
members_sum (m ∷ ms) = omega (arith, members_sum ms, sum_by-cons entry_len m ms)

table_same : (o p : Option (List (List ℕ × Tree))) → AreSameHeaders o p → maybe_len (a_table p) ≡ maybe_len (a_table o)
table_same None None h = refl
table_same None (Some ns) h = absurd h
table_same (Some ms) None h = absurd h
table_same (Some ms) (Some ns) h = omega (arith, members_sum ms, members_sum ns, sum_by-IsPermutation entry_len ms ns h)

pub header_len_same : (p : Props) (o : Option (List (List ℕ × Tree))) → AreSameHeaders p.headers o → header_len (record p { headers = o }) ≡ header_len p
header_len_same p o h = omega (arith, header_takes (record p { headers = o }), header_takes p, table_same p.headers o h)
