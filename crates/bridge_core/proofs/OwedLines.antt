-- The lines that the report is owed: of publishes, of lives, and of all lives up to one.
use Rattle.open_items.specs.Numbers.{has_any}
use Rattle.std.proofs.Common.{◌≡◌, ◌∙◌, ℕ, zero, suc, ◌+◌, ◌-◌, ◌<◌, ◌≤◌, Bool, true, false, not}
use Rattle.std.proofs.Common.{◌||◌}
use Rattle.std.proofs.Common.{List, [], ◌∷◌, ◌++◌, Option, None, Some, refl, sym, ap, subst, arith}
use Rattle.std.proofs.Common.{append_assoc, append-nil, drop, get_or, length, add-one, is_some}
use Rattle.std.proofs.Common.{cond}
use Rattle.std.specs.Prelude.{codes, decimal, filter, if◌then◌else◌, nat_lt}
use Rattle.std.proofs.lemmas.Bool.{lt-ltb}
use Rattle.std.proofs.Math.Seq.{drop-cons}
use Rattle.gate_relay.specs.Entries.{is_empty}
use Rattle.open_items.specs.declared.lost.LostItem.{LostItem}
use Rattle.open_items.specs.declared.lost.LostKind.{LostKind}
use Rattle.consume_path.specs.Items.{is_held, is_open as is_open_delivery, is_out, owes}
use Rattle.consume_path.specs.Offers.{line_of as delivery_line, lines_of as delivery_lines}
use Rattle.consume_path.specs.Offers.{with_line as with_delivery_line}
use Rattle.consume_path.specs.declared.delivery.Delivery.{Delivery}
use Rattle.publish_path.specs.Offers.{line_of, lines_of, with_line}
use Rattle.publish_path.specs.Publishes.{is_open, is_sending, is_settled}
use Rattle.publish_path.specs.declared.publish.Publish.{Publish}
use Rattle.session_path.specs.Due.{lines}
use Rattle.session_path.specs.Path.{PathState}
use Rattle.gate_model.specs.Paths.{lines_in, lines_of_life, lines_on}
use Rattle.gate_model.specs.Spelling.{fate_name, line_text, lines_text, what_name}
use Rattle.bridge_core.specs.Reports.{IsNext, IsNextOwing, owing_on}
use Rattle.bridge_core.specs.Reports.{text_of_line}

-- ---- texts

regroup : (a b c d e f g : List ℕ) → (a ++ b) ++ ((c ++ d) ++ ((e ++ f) ++ g)) ≡ a ++ (b ++ (c ++ (d ++ (e ++ (f ++ g)))))
regroup a b c d e f g = simp append_assoc

-- a line is three numbers, each behind a text, and its end
pub line_parts : (pair : ℕ) (item : LostItem)
    → (codes "pair " ++ decimal pair) ++ ((codes " life " ++ decimal item.life) ++ ((what_name item.kind ++ decimal item.number) ++ fate_name item.kind))
    ≡ line_text pair item
line_parts pair item =
    regroup (codes "pair ") (decimal pair) (codes " life ") (decimal item.life) (what_name item.kind) (decimal item.number) (fate_name item.kind)

text_with_line : (pair : ℕ) (o : Option LostItem) (items : List LostItem) → lines_text pair (with_line o items) ≡ text_of_line pair o ++ lines_text pair items
text_with_line pair None items = refl
text_with_line pair (Some item) items = refl

text_with_delivery_line : (pair : ℕ) (o : Option LostItem) (items : List LostItem)
    → lines_text pair (with_delivery_line o items) ≡ text_of_line pair o ++ lines_text pair items
text_with_delivery_line pair None items = refl
text_with_delivery_line pair (Some item) items = refl

pub text_of_both : (pair : ℕ) (xs ys : List LostItem) → lines_text pair (xs ++ ys) ≡ lines_text pair xs ++ lines_text pair ys
text_of_both pair [] ys = refl
text_of_both pair (x ∷ xs) ys =
    ap (λ (s : List ℕ). line_text pair x ++ s) (text_of_both pair xs ys) ∙ sym (append_assoc (line_text pair x) (lines_text pair xs) (lines_text pair ys))

-- the lines of the publishes from one on, and of the channels from one on
pub publishes_from : (pair life : ℕ) (ps : List Publish) (i : ℕ) (p : Publish) → i < length ps → p ≡ get_or ps i p
    → lines_text pair (lines_of life (drop i ps)) ≡ text_of_line pair (line_of life p) ++ lines_text pair (lines_of life (drop (i + 1) ps))
publishes_from pair life ps i p lt is =
    let e : drop i ps ≡ get_or ps i p ∷ drop (i + 1) ps = rw (add-one, drop-cons ps i p) in
    ap (λ (qs : List Publish). lines_text pair (lines_of life qs)) (e ∙ ap (λ (q : Publish). q ∷ drop (i + 1) ps) (sym is))
    ∙ text_with_line pair (line_of life p) (lines_of life (drop (i + 1) ps))

pub deliveries_from : (pair life : ℕ) (ds : List Delivery) (i : ℕ) (d : Delivery) → i < length ds → d ≡ get_or ds i d
    → lines_text pair (delivery_lines life (drop i ds)) ≡ text_of_line pair (delivery_line life d) ++ lines_text pair (delivery_lines life (drop (i + 1) ds))
deliveries_from pair life ds i d lt is =
    let e : drop i ds ≡ get_or ds i d ∷ drop (i + 1) ds = rw (add-one, drop-cons ds i d) in
    ap (λ (xs : List Delivery). lines_text pair (delivery_lines life xs)) (e ∙ ap (λ (x : Delivery). x ∷ drop (i + 1) ds) (sym is))
    ∙ text_with_delivery_line pair (delivery_line life d) (delivery_lines life (drop (i + 1) ds))

pub slots_from : (pair life : ℕ) (ps : List (Option PathState)) (i : ℕ) (o : Option PathState) → i < length ps → o ≡ get_or ps i o
    → lines_text pair (lines_of_life life (drop i ps)) ≡ lines_text pair (lines_on life o) ++ lines_text pair (lines_of_life life (drop (i + 1) ps))
slots_from pair life ps i o lt is =
    let e : drop i ps ≡ get_or ps i o ∷ drop (i + 1) ps = rw (add-one, drop-cons ps i o) in
    ap (λ (qs : List (Option PathState)). lines_text pair (lines_of_life life qs)) (e ∙ ap (λ (p : Option PathState). p ∷ drop (i + 1) ps) (sym is))
    ∙ text_of_both pair (lines_on life o) (lines_of_life life (drop (i + 1) ps))

-- ---- of publishes

-- one for which nothing is to come any more owes none
closed_line : (a b c : Bool) (o : Option LostKind) → (((a || b) || is_some o) || c) ≡ false → o ≡ None
closed_line a b c None e = refl
closed_line true b c (Some kind) e = absurd cc
closed_line false true c (Some kind) e = absurd cc
closed_line false false c (Some kind) e = absurd cc

pub lines_seen : (life : ℕ) (ps : List Publish) → lines_of life (filter is_open ps) ≡ lines_of life ps
lines_seen life [] = refl
lines_seen life (p ∷ ps) = by (is_open p) refl (lines_seen life ps)
  where
    by : (b : Bool) → is_open p ≡ b → lines_of life (filter is_open ps) ≡ lines_of life ps
        → lines_of life (cond b (p ∷ filter is_open ps) (filter is_open ps)) ≡ with_line (line_of life p) (lines_of life ps)
    by true e more = ap (with_line (line_of life p)) more
    by false e more =
        more ∙ sym (ap (λ (o : Option LostKind). with_line (line_of life (record p { line = o })) (lines_of life ps)) (closed_line (is_sending p.place) (not (is_settled p.answer)) (has_any p.back) p.line e))

-- ---- of deliveries

no_line : (b : Bool) (o : Option LostKind) → (b || is_some o) ≡ false → o ≡ None
no_line b None e = refl
no_line true (Some kind) e = absurd cc
no_line false (Some kind) e = absurd cc

pub deliveries_seen : (life : ℕ) (ds : List Delivery) → delivery_lines life (filter is_open_delivery ds) ≡ delivery_lines life ds
deliveries_seen life [] = refl
deliveries_seen life (d ∷ ds) = by (is_open_delivery d) refl (deliveries_seen life ds)
  where
    by : (b : Bool) → is_open_delivery d ≡ b → delivery_lines life (filter is_open_delivery ds) ≡ delivery_lines life ds
        → delivery_lines life (cond b (d ∷ filter is_open_delivery ds) (filter is_open_delivery ds)) ≡ with_delivery_line (delivery_line life d) (delivery_lines life ds)
    by true e more = ap (with_delivery_line (delivery_line life d)) more
    by false e more =
        more ∙ sym (ap (λ (o : Option LostKind). with_delivery_line (delivery_line life (record d { line = o })) (delivery_lines life ds)) (no_line (is_held d.place || is_out d.place || owes d.place || d.writing || d.at_risk) d.line e))

-- ---- of a path

-- its publishes, its deliveries and others of both for which nothing is to come
pub record AreOf (s : PathState) (ps : List Publish) (ds : List Delivery) : Type 0 where
  pub publishes : filter is_open ps ≡ s.publishes.list
  pub deliveries : filter is_open_delivery ds ≡ s.deliveries.list

pub path_lines : (s : PathState) (ps : List Publish) (ds : List Delivery) → AreOf s ps ds
    → lines_of s.publishes.life ps ++ delivery_lines s.deliveries.life ds ≡ lines s
path_lines s ps ds of =
    ap (λ (xs : List LostItem). xs ++ delivery_lines s.deliveries.life ds)
    (sym (lines_seen s.publishes.life ps) ∙ ap (lines_of s.publishes.life) of.publishes)
    ∙ ap (λ (ys : List LostItem). lines_of s.publishes.life s.publishes.list ++ ys)
    (sym (deliveries_seen s.deliveries.life ds) ∙ ap (delivery_lines s.deliveries.life) of.deliveries)

pub path_text : (pair : ℕ) (s : PathState) (life own : ℕ) (ps : List Publish) (ds : List Delivery) → life ≡ s.publishes.life
    → own ≡ s.deliveries.life → filter is_open ps ≡ s.publishes.list → filter is_open_delivery ds ≡ s.deliveries.list
    → lines_text pair (lines_of life ps) ++ lines_text pair (delivery_lines own ds) ≡ lines_text pair (lines s)
path_text pair s life own ps ds is same seen got =
    ap (λ (n : ℕ). lines_text pair (lines_of n ps) ++ lines_text pair (delivery_lines own ds)) is
    ∙ ap (λ (n : ℕ). lines_text pair (lines_of s.publishes.life ps) ++ lines_text pair (delivery_lines n ds)) same
    ∙ sym (text_of_both pair (lines_of s.publishes.life ps) (delivery_lines s.deliveries.life ds))
    ∙ ap (lines_text pair) (path_lines s ps ds (record { publishes = seen; deliveries = got }))

-- where what its publishes owe is told, the text of its deliveries is behind
pub path_front : (pair : ℕ) (s : PathState) (life : ℕ) (ps : List Publish) → life ≡ s.publishes.life → filter is_open ps ≡ s.publishes.list
    → lines_text pair (lines_of life ps) ++ lines_text pair (delivery_lines s.deliveries.life s.deliveries.list) ≡ lines_text pair (lines s)
path_front pair s life ps is seen =
    ap (λ (n : ℕ). lines_text pair (lines_of n ps) ++ lines_text pair (delivery_lines s.deliveries.life s.deliveries.list)) is
    ∙ ap (λ (ls : List LostItem). lines_text pair ls ++ lines_text pair (delivery_lines s.deliveries.life s.deliveries.list))
    (sym (lines_seen s.publishes.life ps) ∙ ap (lines_of s.publishes.life) seen)
    ∙ sym (text_of_both pair (lines_of s.publishes.life s.publishes.list) (delivery_lines s.deliveries.life s.deliveries.list))

-- and its life, where it owes some
pub life_owing : (s : PathState) (b : Bool) → b ≡ nat_lt 0 (length (lines s)) → (if b then Some s.publishes.life else None) ≡ owing_on (Some s)
life_owing s b e = ap (λ (b : Bool). if b then Some s.publishes.life else None) e ∙ by (lines s)
  where
    by : (items : List LostItem) → (if nat_lt 0 (length items) then Some s.publishes.life else None) ≡ (if is_empty items then None else Some s.publishes.life)
    by [] = refl
    by (item ∷ items) = ap (λ (c : Bool). if c then Some s.publishes.life else None) (lt-ltb 0 (length (item ∷ items)) (omega arith))

-- ---- of all lives up to one

-- those between owe none
lines_between : (ps : List (Option PathState)) (above k : ℕ) → ((n : ℕ) → above < n → n ≤ above + k → lines_of_life n ps ≡ [])
    → lines_in ps (above + k) ≡ lines_in ps above
lines_between ps above zero none = let none_more : above + 0 ≡ above = omega arith in ap (lines_in ps) none_more
lines_between ps above (suc k) none =
    let more : above + suc k ≡ suc (above + k) = omega arith in
    ap (lines_in ps) more
    ∙ ap (λ (ls : List LostItem). lines_in ps (above + k) ++ ls) (none (suc (above + k)) (omega arith) (omega arith))
    ∙ append-nil (lines_in ps (above + k)) ∙ lines_between ps above k (λ n over under. none n over (omega arith))

-- up to the next life that owes lines
lines_next : (ps : List (Option PathState)) (above last life : ℕ) → IsNext above last ps life
    → lines_in ps life ≡ lines_in ps above ++ lines_of_life life ps
lines_next ps above last zero next = absurd (omega (arith, next.over))
lines_next ps above last (suc n) next =
    let split : above + (n - above) ≡ n = omega (arith, next.over) in
    let same : lines_in ps (above + (n - above)) ≡ lines_in ps above = lines_between ps above (n - above) (λ m over under. next.first m over (omega arith)) in
    ap (λ (ls : List LostItem). ls ++ lines_of_life (suc n) ps) (subst (λ (m : ℕ). lines_in ps m ≡ lines_in ps above) split same)

-- up to the last one, where none owes any
pub lines_last : (ps : List (Option PathState)) (above last : ℕ) (next : Option ℕ) → above ≤ last → ((life : ℕ) → next ≡ Some life → ⊥)
    → IsNextOwing above last ps next → lines_in ps last ≡ lines_in ps above
lines_last ps above last (Some life) le never next = absurd (never life refl)
lines_last ps above last None le never none =
    let split : above + (last - above) ≡ last = omega arith in
    subst (λ (m : ℕ). lines_in ps m ≡ lines_in ps above) split (lines_between ps above (last - above) (λ m over under. none m over (omega arith)))

-- those up to one life stand before those up to a later one
pub record Behind (ps : List (Option PathState)) (n m : ℕ) : Type 0 where
  pub more : List LostItem
  pub parts : lines_in ps m ≡ lines_in ps n ++ more

behind_by : (ps : List (Option PathState)) (n k : ℕ) → Behind ps n (n + k)
behind_by ps n zero =
    let none_more : n + 0 ≡ n = omega arith in
    record { more = []; parts = ap (lines_in ps) none_more ∙ sym (append-nil (lines_in ps n)) }
behind_by ps n (suc k) =
    let b : Behind ps n (n + k) = behind_by ps n k in
    let more : n + suc k ≡ suc (n + k) = omega arith in
    record {
      more = b.more ++ lines_of_life (suc (n + k)) ps;
      parts = ap (lines_in ps) more ∙ ap (λ (ls : List LostItem). ls ++ lines_of_life (suc (n + k)) ps) b.parts
          ∙ append_assoc (lines_in ps n) b.more (lines_of_life (suc (n + k)) ps);
    }

pub behind : (ps : List (Option PathState)) (n m : ℕ) → n ≤ m → Behind ps n m
behind ps n m le = let split : n + (m - n) ≡ m = omega arith in subst (Behind ps n) split (behind_by ps n (m - n))

-- ---- some

pub some_before : {A : Type 0} → (xs ys : List A) → is_empty xs ≡ false → is_empty (xs ++ ys) ≡ false
some_before [] ys e = absurd cc
some_before (x ∷ xs) ys e = refl

pub some_behind : {A : Type 0} → (xs ys : List A) → is_empty ys ≡ false → is_empty (xs ++ ys) ≡ false
some_behind [] ys e = e
some_behind (x ∷ xs) ys e = refl

some_text : (pair : ℕ) (items : List LostItem) → is_empty items ≡ false → is_empty (lines_text pair items) ≡ false
some_text pair [] e = absurd cc
some_text pair (item ∷ items) e = refl

-- ---- the texts of lives

pub next_text : (pair : ℕ) (ps : List (Option PathState)) (above last life : ℕ) → IsNext above last ps life
    → lines_text pair (lines_in ps above) ++ lines_text pair (lines_of_life life ps) ≡ lines_text pair (lines_in ps life)
next_text pair ps above last life next =
    sym (ap (lines_text pair) (lines_next ps above last life next) ∙ text_of_both pair (lines_in ps above) (lines_of_life life ps))

-- what stands behind the lines of a life
abbrev pub text_behind : (pair : ℕ) (ps : List (Option PathState)) (life last : ℕ) → life ≤ last → List ℕ
text_behind pair ps life last le = lines_text pair (behind ps life last le).more

pub last_text : (pair : ℕ) (ps : List (Option PathState)) (above last life : ℕ) (next : IsNext above last ps life)
    → (lines_text pair (lines_in ps above) ++ lines_text pair (lines_of_life life ps)) ++ text_behind pair ps life last next.within ≡ lines_text pair (lines_in ps last)
last_text pair ps above last life next =
    let b : Behind ps life last = behind ps life last next.within in
    ap (λ (s : List ℕ). s ++ lines_text pair b.more) (next_text pair ps above last life next)
    ∙ sym (ap (lines_text pair) b.parts ∙ text_of_both pair (lines_in ps life) b.more)

pub some_owed : (pair : ℕ) (ps : List (Option PathState)) (above last life : ℕ) → IsNext above last ps life
    → is_empty (lines_text pair (lines_in ps last)) ≡ false
some_owed pair ps above last life next =
    let b : Behind ps life last = behind ps life last next.within in
    some_text pair (lines_in ps last)
    (ap is_empty (b.parts ∙ ap (λ (ls : List LostItem). ls ++ b.more) (lines_next ps above last life next))
    ∙ some_before (lines_in ps above ++ lines_of_life life ps) b.more (some_behind (lines_in ps above) (lines_of_life life ps) next.owes))
