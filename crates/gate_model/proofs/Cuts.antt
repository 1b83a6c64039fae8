-- A frame of a transfer is within the limit that it is cut by.
use Rattle.std.proofs.Common.{◌≡◌, ℕ, ◌+◌, ◌<◌, ◌≤◌, Bool, true, false, List, [], ◌∷◌, ◌++◌, length, length-append, refl, ap, arith}
use Rattle.std.specs.Int.{to_be_bytes, w64}
use Rattle.frames_10.specs.Frames.{frame_text}
use Rattle.frames_10.specs.declared.frame.Kind10.TheVariants.{Amqp}
use Rattle.types_10.specs.Fields.{a_binary, a_boolean, a_uint, absent}
use Rattle.performatives_10.specs.Writing.{perf_text, perf_tree}
use Rattle.types_10.specs.Tree.{Trees, described, list, no_trees, scalar, tree, ulong}
use Rattle.types_10.specs.Writing.{value_text, written_each}
use Rattle.gate_model.specs.Paths.{cut, transfer_perf}
use Rattle.gate_model.specs.Spelling.{spell_on}
use Rattle.gate_model.specs.declared.channel.SessionUnit.TheVariants as unit
use Rattle.gate_model.specs.declared.channel.TransferOut.{TransferOut}
use Rattle.gate_model.proofs.Widths.{binary_few, boolean_few, described_long, frame_few, frame_long, list_brief, list_some, uint_few}

abbrev tag_of : TransferOut → List ℕ
tag_of t = to_be_bytes w64 t.frame.publish

-- the fields of a first frame before `more`, and of the others
abbrev first_trees : TransferOut → Trees → Trees
first_trees t rest = tree (a_uint t.handle) (tree (a_uint t.id) (tree (a_binary (tag_of t)) (tree (a_uint 0) (tree (a_boolean false) rest))))

abbrev last_trees : Bool → Trees
last_trees true = tree (a_boolean true) no_trees
last_trees false = no_trees

abbrev next_trees : Bool → Trees
next_trees true = tree absent (tree absent (tree absent (tree absent (last_trees true))))
next_trees false = no_trees

abbrev fields_as : TransferOut → (first more : Bool) → Trees
fields_as t true more = first_trees t (last_trees more)
fields_as t false more = tree (a_uint t.handle) (next_trees more)

abbrev transfer_with : TransferOut → Bool → TransferOut
transfer_with t first = record t { frame = record t.frame { first = first } }

tree_is : (t : TransferOut) (first more : Bool)
    → perf_tree (transfer_perf (transfer_with t first) more) ≡ described (scalar (ulong 20)) (list (fields_as t first more))
tree_is t true true = refl
tree_is t true false = refl
tree_is t false true = refl
tree_is t false false = refl

tag_few : (t : TransferOut) → length (value_text (a_binary (tag_of t))) ≤ 13
tag_few t = binary_few 8 (tag_of t) (omega arith)

first_long : (t : TransferOut) (rest : Trees) → length (written_each (first_trees t rest)).text
    ≡ length (value_text (a_uint t.handle))
    + (length (value_text (a_uint t.id)) + (length (value_text (a_binary (tag_of t))) + (2 + length (written_each rest).text)))
first_long t rest =
    let d = tree (a_uint 0) (tree (a_boolean false) rest) in
    let c = tree (a_binary (tag_of t)) d in
    omega (
      arith,
      length-append (value_text (a_uint t.handle)) (written_each (tree (a_uint t.id) c)).text,
      length-append (value_text (a_uint t.id)) (written_each c).text,
      length-append (value_text (a_binary (tag_of t))) (written_each d).text,
    )

next_long : (t : TransferOut) (rest : Trees)
    → length (written_each (tree (a_uint t.handle) rest)).text ≡ length (value_text (a_uint t.handle)) + length (written_each rest).text
next_long t rest = length-append (value_text (a_uint t.handle)) (written_each rest).text

-- the last frame's fields take no more bytes than those of others
list_less : (t : TransferOut) (first : Bool) → length (value_text (list (fields_as t first false))) ≤ length (value_text (list (fields_as t first true)))
list_less t true =
    let few : length (written_each (first_trees t no_trees)).text < 255 = omega (arith, first_long t no_trees, uint_few t.handle, uint_few t.id, tag_few t) in
    omega (
      arith,
      list_brief (first_trees t no_trees) (omega arith) (omega arith) few,
      list_some (first_trees t (last_trees true)) (omega arith),
      first_long t no_trees,
      first_long t (last_trees true),
    )
list_less t false =
    let few : length (written_each (tree (a_uint t.handle) no_trees)).text < 255 = omega (arith, next_long t no_trees, uint_few t.handle) in
    omega (
      arith,
      list_brief (tree (a_uint t.handle) no_trees) (omega arith) (omega arith) few,
      list_some (tree (a_uint t.handle) (next_trees true)) (omega arith),
      next_long t no_trees,
      next_long t (next_trees true),
    )

text_less : (t : TransferOut) (first : Bool)
    → length (perf_text (transfer_perf (transfer_with t first) false)) ≤ length (perf_text (transfer_perf (transfer_with t first) true))
text_less t first =
    let a = ap (λ x. length (value_text x)) (tree_is t first false) in
    let b = ap (λ x. length (value_text x)) (tree_is t first true) in
    omega (
      arith,
      a,
      b,
      described_long (scalar (ulong 20)) (list (fields_as t first false)),
      described_long (scalar (ulong 20)) (list (fields_as t first true)),
      list_less t first,
    )

more_least : (t : TransferOut) (more : Bool) → length (perf_text (transfer_perf t more)) ≤ length (perf_text (transfer_perf t true))
more_least t true = omega arith
more_least t false = text_less t t.frame.first

head_few : (n : ℕ) (t : TransferOut) → 8 + length (perf_text (transfer_perf t true)) ≤ 512
head_few n t = by t.frame.first
  where
    frame : (b : Bool) → length (frame_text (record { kind = Amqp; channel = n; body = perf_text (transfer_perf (transfer_with t b) true) })) ≤ 512
    frame true =
        frame_few Amqp n (transfer_perf (transfer_with t true) true) (5 ∷ 5 ∷ 13 ∷ 5 ∷ 1 ∷ 1 ∷ 1 ∷ 1 ∷ 1 ∷ 1 ∷ 1 ∷ []) (
          uint_few t.handle,
          (
            uint_few t.id,
            (
              tag_few t,
              (
                uint_few 0,
                (
                  boolean_few false,
                  (
                    boolean_few true,
                    (
                      omega arith,
                      (
                        omega arith,
                        (
                          omega arith,
                          (
                            omega arith,
                            (omega arith, tt),
                          ),
                        ),
                      ),
                    ),
                  ),
                ),
              ),
            ),
          ),
        ) (omega arith)
    frame false =
        frame_few Amqp n (transfer_perf (transfer_with t false) true) (5 ∷ 1 ∷ 1 ∷ 1 ∷ 1 ∷ 1 ∷ 1 ∷ 1 ∷ 1 ∷ 1 ∷ 1 ∷ []) (
          uint_few t.handle,
          (
            omega arith,
            (
              omega arith,
              (
                omega arith,
                (
                  omega arith,
                  (
                    boolean_few true,
                    (
                      omega arith,
                      (
                        omega arith,
                        (
                          omega arith,
                          (
                            omega arith,
                            (omega arith, tt),
                          ),
                        ),
                      ),
                    ),
                  ),
                ),
              ),
            ),
          ),
        ) (omega arith)

    by : (b : Bool) → 8 + length (perf_text (transfer_perf (transfer_with t b) true)) ≤ 512
    by b = omega (arith, frame_long Amqp n (perf_text (transfer_perf (transfer_with t b) true)), frame b)

pub cut_fits : (limit max left n : ℕ) (t : TransferOut) (text : List ℕ) → max ≤ limit → 512 ≤ limit → length text ≤ (cut max left t).bytes
    → length (spell_on n (unit.Transfer (cut max left t)) text) ≤ limit
cut_fits limit max left n t text within least short =
    let c : TransferOut = cut max left t in
    let head : List ℕ = perf_text (transfer_perf c c.more) in
    omega (arith, frame_long Amqp n (head ++ text), length-append head text, more_least t c.more, head_few n t, short, within, least)
