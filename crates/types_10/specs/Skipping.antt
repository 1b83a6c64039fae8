-- What is known of values that are read past (AMQP 1.0 1.6): what copies of them take, and how deep
-- they are; and of the constructor of an array. Numbers are no higher than a usize goes.
use Rattle.std.specs.Prelude.{ℕ, ◌+◌, ◌*◌, max, List, [], ◌∷◌, length, Result, Ok, Err}
use Rattle.types_10.specs.Tree.{Tree, depth, list_depth, pairs_depth_of, trees_of, pairs_of}
use Rattle.types_10.specs.Loads.{weight, weights, pairs_weight, copies}
use Rattle.types_10.specs.Measures.{capped}
use Rattle.types_10.specs.Reading.{Fault, Shape}
use Rattle.types_10.specs.declared.skipping.Extent.{Extent}
use Rattle.types_10.specs.declared.skipping.Front.{Front}
use Rattle.types_10.specs.declared.skipping.Outline.{Outline}

-- where the value ends that is read
abbrev pub end_of : Result (Tree × ℕ) Fault → Result ℕ Fault
end_of (Ok x) = Ok x.1
end_of (Err f) = Err f

-- what is known of a value, and the room that it leaves
abbrev pub with_room : {A B : Type 0} → (A → B) → A × ℕ → B × ℕ
with_room f x = (f x.0, x.1)

-- ---- values

abbrev pub extent : Tree → Extent
extent t = record { weight = capped (weight t); depth = capped (depth t) }

abbrev pub each_extent : List Tree → Extent
each_extent ts =
    record { weight = capped (weights (trees_of ts)); depth = capped (list_depth ts) }

abbrev pub pairs_extent : List (Tree × Tree) → Extent
pairs_extent ps =
    record { weight = capped (pairs_weight (pairs_of ps)); depth = capped (pairs_depth_of ps) }

abbrev pub no_extent : Extent
no_extent = record { weight = 0; depth = 0 }

abbrev pub joined : Extent → Extent → Extent
joined a b = record { weight = capped (a.weight + b.weight); depth = max a.depth b.depth }

-- of so many values that are alike, one at least
abbrev pub times : ℕ → Extent → Extent
times n a = record { weight = capped (n * a.weight); depth = a.depth }

-- of a value that holds these
abbrev pub outer : Extent → Extent
outer a = record { weight = capped (a.weight + 1); depth = capped (a.depth + 1) }

-- ---- constructors

-- how deep descriptors make a value that holds no other
abbrev pub front_depth : List Tree → ℕ
front_depth [] = 0
front_depth (x ∷ xs) = max (depth x) (front_depth xs) + 1

abbrev pub front : List Tree → Front
front xs = record {
  copies = capped (copies xs);
  count = capped (length xs);
  depth = capped (front_depth xs);
}

abbrev pub no_front : Front
no_front = record { copies = 0; count = 0; depth = 0 }

-- with one more descriptor inside
abbrev pub one_more : Front → Extent → Front
one_more f a = record {
  copies = capped (f.copies + a.weight);
  count = capped (f.count + 1);
  depth = max f.depth (capped (f.count + capped (a.depth + 1)));
}

-- a value behind these descriptors
abbrev pub behind : Front → Extent → Extent
behind f a = record {
  weight = capped (capped (f.copies + f.count) + a.weight);
  depth = max f.depth (capped (f.count + a.depth));
}

abbrev pub outline : Shape → Outline
outline c = record { front = front c.0; kind = c.1 }
