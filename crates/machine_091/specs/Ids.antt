-- The ids of methods (AMQP 0-9-1 4.2.4): those that stand in a method frame, and those of a method
-- that was read.
use Rattle.std.specs.Prelude.{ℕ, Bool, ◌&&◌, ◌==◌, nat_lt, if◌then◌else◌, List, length, take, drop}
use Rattle.std.specs.Int.{w16, from_be_bytes}
use Rattle.methods_091.specs.Rows.{Kind, class_of, id_of}

-- the class id and the method id of a method frame; 0 where they are cut off
abbrev pub class_in : List ℕ → ℕ
class_in payload = if nat_lt (length payload) 4 then 0 else from_be_bytes w16 (take 2 payload)

abbrev pub id_in : List ℕ → ℕ
id_in payload = if nat_lt (length payload) 4 then 0 else from_be_bytes w16 (take 2 (drop 2 payload))

-- the ids of a method, given as a pair
abbrev pub has_ids : ℕ × ℕ → ℕ → ℕ → Bool
has_ids method class id = class == method.0 && id == method.1

-- a payload begins with them
abbrev pub is_in : ℕ × ℕ → List ℕ → Bool
is_in method payload = has_ids method (class_in payload) (id_in payload)

-- a method that was read has them
abbrev pub is_of_kind : ℕ × ℕ → Kind → Bool
is_of_kind method k = has_ids method (class_of k) (id_of k)
