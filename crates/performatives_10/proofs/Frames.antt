-- The frames that are written without memory, put together from their parts.
use Rattle.std.proofs.Common.{◌≡◌, ℕ, suc, ◌+◌, ◌%◌, ◌<◌, Bool, true, false, ltb, eqb, List, []}
use Rattle.std.proofs.Common.{◌∷◌, ◌++◌, length, Option, Some, None, refl, sym, ap, ◌∙◌}
use Rattle.std.proofs.Common.{append_assoc, append-nil, arith}
use Rattle.std.specs.Int.{w16, w32, to_be_bytes}
use Rattle.std.proofs.lemmas.Bool.{ltb-true}
use Rattle.std.proofs.lemmas.List.{length-append}
use Rattle.types_10.specs.Tree.{scalar, ulong, list, described, Trees, no_trees, tree}
use Rattle.types_10.specs.Kinds.{kind_byte}
use Rattle.types_10.specs.Writing.{list_kind, held_content, written_each, value_text}
use Rattle.types_10.specs.Fields.{a_boolean, a_uint, maybe}
use Rattle.frames_10.specs.Frames.{text_behind, frame_text}
use Rattle.frames_10.specs.declared.frame.Kind10.TheVariants.{Amqp}
use Rattle.performatives_10.specs.View.{error_tree, state_tree}
use Rattle.performatives_10.specs.Writing.{perf_text}
use Rattle.performatives_10.specs.Closing.{head_text, state_of, settle_code, settled_by}
use Rattle.performatives_10.specs.Closing.{settled_text, disposition_len, disposition_text}
use Rattle.performatives_10.specs.Closing.{error_by, error_text, ending_of, end_text, frame_of}
use Rattle.performatives_10.specs.Closing.{detach_count, failed_text, ended_text}
use Rattle.performatives_10.specs.declared.condition.Condition.{Condition}
use Rattle.performatives_10.specs.declared.closing.Ending.TheVariants as ending
use Rattle.performatives_10.specs.declared.performative.Perf.{Perf}
use Rattle.performatives_10.specs.declared.closing.Settle.{Settle}
use Rattle.performatives_10.specs.declared.closing.Settle.TheVariants as settle

-- a list with so many values and this body, as it is written
abbrev listed_text : ℕ → List ℕ → List ℕ
listed_text c b = kind_byte (list_kind c b) ∷ held_content (list_kind c b) c b

-- a short list that isn't empty
brief_text : (c : ℕ) (b : List ℕ) → 0 < c → c < 256 → length b < 255 → listed_text c b ≡ 192 ∷ (length b + 1) ∷ c ∷ b
brief_text c b some few short =
    let first : eqb c 0 ≡ false = grind arith in
    let second : ltb c 256 ≡ true = grind arith in
    let third : ltb (length b) 255 ≡ true = grind arith in
    let count : c % 256 ≡ c = omega arith in
    let same : suc (length b) ≡ length b + 1 = omega arith in
    let long : (length b + 1) % 256 ≡ length b + 1 = omega arith in
    rw (first, second, third, count, same, long) refl

brief_list : (ts : Trees) → 0 < (written_each ts).count → (written_each ts).count < 256 → length (written_each ts).text < 255
    → value_text (list ts) ≡ 192 ∷ (length (written_each ts).text + 1) ∷ (written_each ts).count ∷ (written_each ts).text
brief_list ts some few short = brief_text (written_each ts).count (written_each ts).text some few short

-- ---- uints

pub uint_octet : (n : ℕ) → eqb n 0 ≡ false → ltb n 256 ≡ true → value_text (a_uint n) ≡ 82 ∷ n ∷ []
uint_octet n some few =
    let fits : n < 256 = ltb-true n 256 few in
    let once : n % 256 ≡ n = omega arith in
    rw (some, few, once, once) refl

pub uint_wide : (n : ℕ) → eqb n 0 ≡ false → ltb n 256 ≡ false → value_text (a_uint n) ≡ 112 ∷ to_be_bytes w32 n
uint_wide n some many = rw (some, many) refl

-- ---- frames

pub head_is : (channel size : ℕ) (x y : List ℕ) → x ≡ to_be_bytes w32 size → y ≡ to_be_bytes w16 channel → (x ++ 2 ∷ 0 ∷ []) ++ y ≡ head_text channel size
head_is channel size x y a b = rw (a, b) refl

-- a short list that isn't empty, behind a descriptor of one byte
brief_perf : (n : ℕ) (ts : Trees) → value_text (scalar (ulong n)) ≡ 83 ∷ n ∷ [] → 0 < (written_each ts).count → (written_each ts).count < 256
    → length (written_each ts).text < 255
    → value_text (described (scalar (ulong n)) (list ts))
    ≡ 0 ∷ 83 ∷ n ∷ 192 ∷ (length (written_each ts).text + 1) ∷ (written_each ts).count ∷ (written_each ts).text
brief_perf n ts code some few short =
    ap (λ (d : List ℕ). 0 ∷ d ++ value_text (list ts)) code ∙ ap (λ (t : List ℕ). 0 ∷ 83 ∷ n ∷ t) (brief_list ts some few short)

-- the frame of a body
frame_is : (channel size : ℕ) (body : List ℕ) → size ≡ 8 + length body → head_text channel size ++ body ≡ frame_text (record { kind = Amqp; channel = channel; body = body })
unfolding text_behind
frame_is channel size body e = rw e refl

regroup : (h a f l b : List ℕ) → (((h ++ a) ++ f) ++ l) ++ b ≡ h ++ (a ++ (f ++ (l ++ b)))
regroup h a f l b = append_assoc ((h ++ a) ++ f) l b ∙ append_assoc (h ++ a) f (l ++ b) ∙ append_assoc h a (f ++ (l ++ b))

-- ---- dispositions

-- what is written of the last delivery
abbrev last_text : Option ℕ → List ℕ
last_text last = value_text (maybe a_uint last)

items_length : (f l b : List ℕ) (role : ℕ) → length (role ∷ (f ++ (l ++ b))) ≡ 1 + length f + length l + length b
items_length f l b role = omega (arith, length-append f (l ++ b), length-append l b)

-- a performative of so many fields, which are written as a disposition's
disposition_is : (channel count role first : ℕ) (last : Option ℕ) (rest : List ℕ) (p : Perf) (ts : Trees)
    → perf_text p ≡ value_text (described (scalar (ulong 21)) (list ts))
    → (written_each ts).text ≡ role ∷ (value_text (a_uint first) ++ (last_text last ++ rest)) → (written_each ts).count ≡ count
    → 0 < count → count < 256 → disposition_len first last rest < 255 → disposition_text channel count role first last rest ≡ frame_of channel p
disposition_is channel count role first last rest p ts is text many some few short =
    let f = value_text (a_uint first) in
    let l = last_text last in
    let items = disposition_len first last rest in
    let long : length (written_each ts).text ≡ items = ap length text ∙ items_length f l rest role in
    let brief = brief_perf 21 ts refl (omega (arith, many, some)) (omega (arith, many, few)) (omega (arith, long, short)) in
    let body : perf_text p ≡ 0 ∷ 83 ∷ 21 ∷ 192 ∷ (items + 1) ∷ count ∷ role ∷ (f ++ (l ++ rest)) =
    is ∙ brief ∙ ap (λ (n : ℕ). 0 ∷ 83 ∷ 21 ∷ 192 ∷ (n + 1) ∷ (written_each ts).count ∷ (written_each ts).text) long
    ∙ ap (λ (n : ℕ). 0 ∷ 83 ∷ 21 ∷ 192 ∷ (items + 1) ∷ n ∷ (written_each ts).text) many
    ∙ ap (λ (t : List ℕ). 0 ∷ 83 ∷ 21 ∷ 192 ∷ (items + 1) ∷ count ∷ t) text in
    let size : length (perf_text p) ≡ 6 + items = ap length body ∙ let more = items_length f l rest role in omega (arith, more) in
    regroup (head_text channel (14 + items)) (0 ∷ 83 ∷ 21 ∷ 192 ∷ (items + 1) ∷ count ∷ role ∷ []) f l rest
    ∙ ap (λ (t : List ℕ). head_text channel (14 + items) ++ t) (sym body)
    ∙ frame_is channel (14 + items) (perf_text p) (omega (arith, size))

-- the fields of a settled disposition, and those behind them
abbrev settled_fields : Bool → ℕ → Option ℕ → Trees → Trees
settled_fields role first last more = tree (a_boolean role) (tree (a_uint first) (tree (maybe a_uint last) (tree (a_boolean true) more)))

state_is : (s : Settle) → value_text (state_tree (state_of s)) ≡ 0 ∷ 83 ∷ settle_code s ∷ 69 ∷ []
state_is settle.Accepted = refl
state_is settle.Rejected = refl
state_is settle.Released = refl

abbrev settle_fields : ℕ → Option ℕ → Settle → Trees
settle_fields first last s = settled_fields true first last (tree (state_tree (state_of s)) no_trees)

settle_body : (first : ℕ) (last : Option ℕ) (s : Settle)
    → perf_text (settled_by true first last (Some (state_of s))) ≡ value_text (described (scalar (ulong 21)) (list (settle_fields first last s)))
settle_body first last settle.Accepted = refl
settle_body first last settle.Rejected = refl
settle_body first last settle.Released = refl

-- the state, behind the true of a settled disposition
abbrev pub state_part : ℕ → List ℕ
state_part code = 65 ∷ 0 ∷ 83 ∷ code ∷ 69 ∷ []

settle_items : (first : ℕ) (last : Option ℕ) (s : Settle)
    → (written_each (settle_fields first last s)).text ≡ 65 ∷ (value_text (a_uint first) ++ (last_text last ++ state_part (settle_code s)))
settle_items first last s =
    ap (λ (t : List ℕ). 65 ∷ (value_text (a_uint first) ++ (last_text last ++ (65 ∷ (t ++ []))))) (state_is s)

pub settle_is : (channel first : ℕ) (last : Option ℕ) (s : Settle) → disposition_len first last (state_part (settle_code s)) < 255
    → disposition_text channel 5 65 first last (state_part (settle_code s)) ≡ frame_of channel (settled_by true first last (Some (state_of s)))
settle_is channel first last s short =
    disposition_is channel 5 65 first last (state_part (settle_code s)) (settled_by true first last (Some (state_of s))) (settle_fields first last s)
    (settle_body first last s) (settle_items first last s) refl (omega arith) (omega arith) short

pub settled_is : (channel first : ℕ) (last : Option ℕ) → disposition_len first last (65 ∷ []) < 255
    → disposition_text channel 4 66 first last (65 ∷ []) ≡ settled_text channel first last
settled_is channel first last short =
    disposition_is channel 4 66 first last (65 ∷ []) (settled_by false first last None) (settled_fields false first last no_trees)
    refl refl refl (omega arith) (omega arith) short

-- ---- detaches

abbrev error_trees : Option Condition → Trees
error_trees None = no_trees
error_trees (Some c) = tree (error_tree (error_by c)) no_trees

errors_text : (c : Option Condition) → (written_each (error_trees c)).text ≡ error_text c
errors_text None = refl
errors_text (Some c) = append-nil (error_text (Some c))

abbrev detach_fields : ℕ → Option Condition → Trees
detach_fields handle c = tree (a_uint handle) (tree (a_boolean true) (error_trees c))

detach_body : (handle : ℕ) (c : Option Condition) → perf_text (ending_of (ending.Detach handle) c) ≡ value_text (described (scalar (ulong 22)) (list (detach_fields handle c)))
detach_body handle None = refl
detach_body handle (Some c) = refl

detach_items : (handle : ℕ) (c : Option Condition) → (written_each (detach_fields handle c)).text ≡ value_text (a_uint handle) ++ (65 ∷ error_text c)
detach_items handle c = ap (λ (t : List ℕ). value_text (a_uint handle) ++ (65 ∷ t)) (errors_text c)

detach_counts : (handle : ℕ) (c : Option Condition) → (written_each (detach_fields handle c)).count ≡ detach_count c
detach_counts handle None = refl
detach_counts handle (Some c) = refl

few_fields : (c : Option Condition) → (0 < detach_count c) × (detach_count c < 256)
few_fields None = (omega arith, omega arith)
few_fields (Some c) = (omega arith, omega arith)

pub detach_is : (channel handle items : ℕ) (c : Option Condition) → items ≡ 1 + length (value_text (a_uint handle)) + length (error_text c) → items < 255
    → (((head_text channel (14 + items) ++ 0 ∷ 83 ∷ 22 ∷ 192 ∷ (items + 1) ∷ detach_count c ∷ []) ++ value_text (a_uint handle)) ++ 65 ∷ []) ++ error_text c
    ≡ end_text channel (ending.Detach handle) c
detach_is channel handle items c e short =
    let f = value_text (a_uint handle) in
    let ts = detach_fields handle c in
    let text = detach_items handle c in
    let count = detach_counts handle c in
    let few = few_fields c in
    let sum : length (f ++ (65 ∷ error_text c)) ≡ items = omega (arith, e, length-append f (65 ∷ error_text c)) in
    let long : length (written_each ts).text ≡ items = ap length text ∙ sum in
    let brief = brief_perf 22 ts refl (omega (arith, count, few.0)) (omega (arith, count, few.1)) (omega (arith, long, short)) in
    let p = ending_of (ending.Detach handle) c in
    let body : perf_text p ≡ 0 ∷ 83 ∷ 22 ∷ 192 ∷ (items + 1) ∷ detach_count c ∷ (f ++ (65 ∷ error_text c)) =
    detach_body handle c ∙ brief ∙ ap (λ (n : ℕ). 0 ∷ 83 ∷ 22 ∷ 192 ∷ (n + 1) ∷ (written_each ts).count ∷ (written_each ts).text) long
    ∙ ap (λ (n : ℕ). 0 ∷ 83 ∷ 22 ∷ 192 ∷ (items + 1) ∷ n ∷ (written_each ts).text) count
    ∙ ap (λ (t : List ℕ). 0 ∷ 83 ∷ 22 ∷ 192 ∷ (items + 1) ∷ detach_count c ∷ t) text in
    let rest : length (perf_text p) ≡ 6 + items = ap length body ∙ omega (arith, sum) in
    regroup (head_text channel (14 + items)) (0 ∷ 83 ∷ 22 ∷ 192 ∷ (items + 1) ∷ detach_count c ∷ []) f (65 ∷ []) (error_text c)
    ∙ ap (λ (t : List ℕ). head_text channel (14 + items) ++ t) (sym body)
    ∙ frame_is channel (14 + items) (perf_text p) (omega (arith, rest))

-- ---- ends and closes

-- a performative of an error alone
failed_is : (channel n : ℕ) (c : Condition) (p : Perf) → value_text (scalar (ulong n)) ≡ 83 ∷ n ∷ [] → length (error_text (Some c)) < 255
    → perf_text p ≡ value_text (described (scalar (ulong n)) (list (error_trees (Some c)))) → failed_text channel n c ≡ frame_of channel p
failed_is channel n c p code short is =
    let e = error_text (Some c) in
    let ts = error_trees (Some c) in
    let text = errors_text (Some c) in
    let long : length (written_each ts).text ≡ length e = ap length text in
    let brief = brief_perf n ts code (omega arith) (omega arith) (omega (arith, long, short)) in
    let body : perf_text p ≡ 0 ∷ 83 ∷ n ∷ 192 ∷ (length e + 1) ∷ 1 ∷ e =
    is ∙ brief ∙ ap (λ (t : List ℕ). 0 ∷ 83 ∷ n ∷ 192 ∷ (length t + 1) ∷ 1 ∷ t) text in
    let rest : length (perf_text p) ≡ 6 + length e = ap length body ∙ omega arith in
    append_assoc (head_text channel (14 + length e)) (0 ∷ 83 ∷ n ∷ 192 ∷ (length e + 1) ∷ 1 ∷ []) e
    ∙ ap (λ (t : List ℕ). head_text channel (14 + length e) ++ t) (sym body)
    ∙ frame_is channel (14 + length e) (perf_text p) (omega (arith, rest))

pub end_is : (channel : ℕ) (c : Option Condition) → length (error_text c) < 255 → ended_text channel 23 c ≡ end_text channel ending.End c
end_is channel None short = frame_is channel 12 (0 ∷ 83 ∷ 23 ∷ 69 ∷ []) refl
end_is channel (Some c) short = failed_is channel 23 c (ending_of ending.End (Some c)) refl short refl

pub close_is : (channel : ℕ) (c : Option Condition) → length (error_text c) < 255 → ended_text channel 24 c ≡ end_text channel ending.Close c
close_is channel None short = frame_is channel 12 (0 ∷ 83 ∷ 24 ∷ 69 ∷ []) refl
close_is channel (Some c) short = failed_is channel 24 c (ending_of ending.Close (Some c)) refl short refl
