-- Rows: one channel more, one row more, and none from a number on that is above all channels that were
-- ever used.
use Rattle.std.proofs.Common.{◌≡◌, ◌∙◌, ℕ, zero, suc, ◌+◌, ◌-◌, ◌<◌, ◌≤◌, ◌||◌, ◌&&◌, List, [], ◌∷◌}
use Rattle.std.proofs.Common.{◌++◌, Option}
use Rattle.std.proofs.Common.{None, Some, Bool, true, false, refl, sym, ap, arith, drop, get_or, length}
use Rattle.std.proofs.Common.{subst}
use Rattle.std.proofs.Common.{replicate}
use Rattle.std.proofs.lemmas.List.{drop-replicate}
use Rattle.std.specs.Option.{option_or}
use Rattle.std.specs.Prelude.{not, slice_index_or}
use Rattle.machine_10.specs.declared.state.Session.TheVariants as session
use Rattle.machine_10.specs.declared.state.Upstream.{Upstream}
use Rattle.session_path.specs.Path.{PathState}
use Rattle.gate_model.specs.declared.life.Life.{Life}
use Rattle.gate_model.specs.declared.outgoing.UpUnit.{UpUnit}
use Rattle.gate_model.specs.declared.reply.Reply.{Reply}
use Rattle.gate_model.specs.Lives.{any_life, each, life_at, no_life, no_lives, session_in}
use Rattle.gate_model.specs.Paths.{no_paths, slot_at}
use Rattle.gate_model.specs.State.{State}
use Rattle.gate_model.specs.Upstream.{first}
use Rattle.bridge_core.specs.ChannelRows.{AreFreeFrom, is_left_on, is_waiting_on}
use Rattle.bridge_core.specs.Rows.{in_order, units_in, units_on, up_units_in, up_units_on}
use Rattle.bridge_core.specs.declared.rows.Row.{Row}
use Rattle.bridge_core.specs.declared.rows.Row.TheVariants as row
use Rattle.bridge_core.specs.declared.rows.UpRow.{UpRow}
use Rattle.bridge_core.specs.declared.rows.UpRow.TheVariants as up_row
use Rattle.bridge_core.proofs.Tops.{from_higher, no_path}

first_behind : {A : Type 0} (xs ys : List A) → first (xs ++ ys) ≡ option_or (first xs) (first ys)
first_behind [] ys = refl
first_behind (x ∷ xs) ys = refl

life_more : {A : Type 0} (f : ℕ → Life → List A) (k i : ℕ) (ls : List Life) → i < length ls
    → first (each f k (drop i ls)) ≡ option_or (first (f k (life_at ls i))) (first (each f (k + 1) (drop (i + 1) ls)))
life_more f k i [] lt = absurd (omega (arith, lt))
life_more f k zero (l ∷ ls) lt = first_behind (f k l) (each f (k + 1) ls)
life_more f k (suc i) (l ∷ ls) lt =
    let e : suc (i + 1) ≡ suc i + 1 = omega arith in
    life_more f k i ls (omega (arith, lt)) ∙ ap (λ (j : ℕ). option_or (first (f k (life_at ls i))) (first (each f (k + 1) (drop j (l ∷ ls))))) e

any_more : (t : ℕ → Life → Bool) (k i : ℕ) (ls : List Life) → i < length ls
    → any_life t k (drop i ls) ≡ (t k (life_at ls i) || any_life t (k + 1) (drop (i + 1) ls))
any_more t k i [] lt = absurd (omega (arith, lt))
any_more t k zero (l ∷ ls) lt = refl
any_more t k (suc i) (l ∷ ls) lt =
    let e : suc (i + 1) ≡ suc i + 1 = omega arith in
    any_more t k i ls (omega (arith, lt)) ∙ ap (λ (j : ℕ). t k (life_at ls i) || any_life t (k + 1) (drop j (l ∷ ls))) e

-- of an element of all lives
pub read_any : (i : ℕ) (ls : List Life) (d : Life) → i < length ls → slice_index_or ls i d ≡ life_at ls i
read_any i [] d lt = absurd (omega (arith, lt))
read_any zero (l ∷ ls) d lt = refl
read_any (suc i) (l ∷ ls) d lt = read_any i ls d (omega (arith, lt))

any_by : (t : ℕ → Life → Bool) (i : ℕ) (all ls : List Life) (d : Life) (b whole : Bool) → i < length all → all ≡ ls → b ≡ t i (slice_index_or all i d)
    → any_life t i (drop i ls) ≡ whole → (b || any_life t (i + 1) (drop (i + 1) ls)) ≡ whole
any_by t i all ls d b whole lt same e known =
    let inside : i < length ls = subst (λ (x : List Life). i < length x) same lt in
    ap (λ x. x || any_life t (i + 1) (drop (i + 1) ls)) (e ∙ ap (t i) (read_any i all d lt ∙ ap (λ (x : List Life). life_at x i) same))
    ∙ sym (any_more t i i ls inside) ∙ known

pub any_found : (t : ℕ → Life → Bool) (i : ℕ) (all ls : List Life) (d : Life) (b whole : Bool) → i < length all → all ≡ ls → b ≡ t i (slice_index_or all i d) → b ≡ true
    → any_life t i (drop i ls) ≡ whole → true ≡ whole
any_found t i all ls d b whole lt same e found known =
    ap (λ x. x || any_life t (i + 1) (drop (i + 1) ls)) (sym found) ∙ any_by t i all ls d b whole lt same e known

pub any_passed : (t : ℕ → Life → Bool) (i : ℕ) (all ls : List Life) (d : Life) (b whole : Bool) → i < length all → all ≡ ls → b ≡ t i (slice_index_or all i d) → b ≡ false
    → any_life t i (drop i ls) ≡ whole → any_life t (i + 1) (drop (i + 1) ls) ≡ whole
any_passed t i all ls d b whole lt same e none known =
    ap (λ x. x || any_life t (i + 1) (drop (i + 1) ls)) (sym none) ∙ any_by t i all ls d b whole lt same e known

-- from the number on that is above all channels that were ever used none has a unit
each_quiet : {A : Type 0} (f : ℕ → Life → List A) (k m : ℕ) → ((n : ℕ) → k ≤ n → f n no_life ≡ []) → each f k (replicate m no_life) ≡ []
each_quiet f k zero quiet = refl
each_quiet f k (suc m) quiet =
    ap (λ xs. xs ++ each f (k + 1) (replicate m no_life)) (quiet k (omega arith)) ∙ each_quiet f (k + 1) m (λ n le. quiet n (omega (arith, le)))

quiet_from : {A : Type 0} (f : ℕ → Life → List A) (t i : ℕ) (ls : List Life) → t ≤ i → drop t ls ≡ drop t no_lives → ((n : ℕ) → i ≤ n → f n no_life ≡ [])
    → each f i (drop i ls) ≡ []
unfolding Rattle.gate_model.specs.Lives.no_lives
quiet_from f t i ls above e quiet =
    ap (each f i) (from_higher t i ls (replicate 256 no_life) above e ∙ drop-replicate i 256 no_life) ∙ each_quiet f i (256 - i) quiet

any_quiet : (t : ℕ → Life → Bool) (k m : ℕ) → ((n : ℕ) → k ≤ n → t n no_life ≡ false) → any_life t k (replicate m no_life) ≡ false
any_quiet t k zero quiet = refl
any_quiet t k (suc m) quiet =
    ap (λ b. b || any_life t (k + 1) (replicate m no_life)) (quiet k (omega arith)) ∙ any_quiet t (k + 1) m (λ n le. quiet n (omega (arith, le)))

and_false : (b : Bool) → (b && false) ≡ false
and_false true = refl
and_false false = refl

-- whatever the row: where no path and no session is, a life that was never begun has none
row_quiet : (w : State) (n : ℕ) → slot_at w.paths n ≡ None → (r : Row) → units_on w r n no_life ≡ []
row_quiet w n none row.Content = rw none refl
row_quiet w n none row.Writing = rw none refl
row_quiet w n none row.Opening = refl
row_quiet w n none row.ChannelOpenOk = refl
row_quiet w n none row.Ok = rw none refl
row_quiet w n none row.ConsumeOk = rw none refl
row_quiet w n none row.Get = rw none refl
row_quiet w n none row.Deliver = rw none refl
row_quiet w n none row.Confirm = rw none refl
row_quiet w n none row.CloseOk = refl
row_quiet w n none row.ChannelCloseOk = refl
row_quiet w n none row.Close = refl
row_quiet w n none row.ChannelClose = refl
row_quiet w n none row.Heartbeat = refl

up_row_quiet : (w : State) (n : ℕ) → slot_at w.paths n ≡ None → session_in w.up.container n ≡ session.Free → (r : UpRow)
    → up_units_on w r n no_life ≡ []
up_row_quiet w n none free up_row.Opening = refl
up_row_quiet w n none free up_row.Begin = refl
up_row_quiet w n none free up_row.Attach = rw none refl
up_row_quiet w n none free up_row.LinkFlow = rw none refl
up_row_quiet w n none free up_row.SessionFlow = rw free refl
up_row_quiet w n none free up_row.Transfer = refl
up_row_quiet w n none free up_row.Dispose = rw none refl
up_row_quiet w n none free up_row.Settle = rw none refl
up_row_quiet w n none free up_row.Detach = rw none refl
up_row_quiet w n none free up_row.End = rw free refl
up_row_quiet w n none free up_row.Close = refl
up_row_quiet w n none free up_row.Empty = refl

pub row_beyond : (w : State) (r : Row) (lives_top paths_top top : ℕ) → lives_top ≤ top → paths_top ≤ top
    → drop lives_top w.lives ≡ drop lives_top no_lives → drop paths_top w.paths ≡ drop paths_top no_paths
    → each (units_on w r) top (drop top w.lives) ≡ []
row_beyond w r lives_top paths_top top le over lives paths =
    quiet_from (units_on w r) lives_top top w.lives le lives
    (λ n above. row_quiet w n (no_path paths_top n w.paths (omega (arith, over, above)) paths) r)

pub up_row_beyond : (w : State) (r : UpRow) (lives_top paths_top sessions_top top : ℕ) → lives_top ≤ top → paths_top ≤ top → sessions_top ≤ top
    → drop lives_top w.lives ≡ drop lives_top no_lives → drop paths_top w.paths ≡ drop paths_top no_paths → AreFreeFrom sessions_top w.up.container
    → each (up_units_on w r) top (drop top w.lives) ≡ []
up_row_beyond w r lives_top paths_top sessions_top top le over past lives paths free =
    quiet_from (up_units_on w r) lives_top top w.lives le lives
    (λ n above. up_row_quiet w n (no_path paths_top n w.paths (omega (arith, over, above)) paths) (free n (omega (arith, past, above))) r)

-- a channel has a unit, or none, or none is left
pub row_found : {A : Type 0} {u : A} {whole : Option A} (f : ℕ → Life → List A) (i : ℕ) (ls : List Life) → i < length ls
    → Some u ≡ first (f i (life_at ls i)) → first (each f i (drop i ls)) ≡ whole → Some u ≡ whole
row_found f i ls lt e known =
    ap (λ x. option_or x (first (each f (i + 1) (drop (i + 1) ls)))) e ∙ sym (life_more f i i ls lt) ∙ known

pub row_passed : {A : Type 0} {whole : Option A} (f : ℕ → Life → List A) (i : ℕ) (ls : List Life) → i < length ls
    → None ≡ first (f i (life_at ls i)) → first (each f i (drop i ls)) ≡ whole → first (each f (i + 1) (drop (i + 1) ls)) ≡ whole
row_passed f i ls lt e known =
    ap (λ x. option_or x (first (each f (i + 1) (drop (i + 1) ls)))) e ∙ sym (life_more f i i ls lt) ∙ known

pub row_ended : {A : Type 0} {whole : Option A} (f : ℕ → Life → List A) (t i : ℕ) (ls : List Life) → t ≡ i
    → each f t (drop t ls) ≡ [] → first (each f i (drop i ls)) ≡ whole → None ≡ whole
row_ended f t i ls e none known = ap first (sym none) ∙ ap (λ (j : ℕ). first (each f j (drop j ls))) e ∙ known

-- and so of rows
order_more : {R A : Type 0} (f : R → List A) (i : ℕ) (rs : List R) (d : R) → i < length rs
    → first (in_order f (drop i rs)) ≡ option_or (first (f (get_or rs i d))) (first (in_order f (drop (i + 1) rs)))
order_more f i [] d lt = absurd (omega (arith, lt))
order_more f zero (x ∷ rs) d lt = first_behind (f x) (in_order f rs)
order_more f (suc i) (x ∷ rs) d lt =
    let next : suc (i + 1) ≡ suc i + 1 = omega arith in
    order_more f i rs d (omega (arith, lt)) ∙ ap (λ (j : ℕ). option_or (first (f (get_or rs i d))) (first (in_order f (drop j (x ∷ rs))))) next

pub order_found : {R A : Type 0} {u : A} {whole : Option A} (f : R → List A) (i : ℕ) (rs : List R) (d : R) → i < length rs
    → Some u ≡ first (f (get_or rs i d)) → first (in_order f (drop i rs)) ≡ whole → Some u ≡ whole
order_found f i rs d lt e known =
    ap (λ x. option_or x (first (in_order f (drop (i + 1) rs)))) e ∙ sym (order_more f i rs d lt) ∙ known

pub order_passed : {R A : Type 0} {whole : Option A} (f : R → List A) (i : ℕ) (rs : List R) (d : R) → i < length rs
    → None ≡ first (f (get_or rs i d)) → first (in_order f (drop i rs)) ≡ whole → first (in_order f (drop (i + 1) rs)) ≡ whole
order_passed f i rs d lt e known =
    ap (λ x. option_or x (first (in_order f (drop (i + 1) rs)))) e ∙ sym (order_more f i rs d lt) ∙ known

-- a row that is none of the connection's has units on channels alone
pub by_channels : (w : State) (r : Row) → (r ≡ row.Opening → ⊥) → (r ≡ row.CloseOk → ⊥) → (r ≡ row.Close → ⊥) → (r ≡ row.Heartbeat → ⊥)
    → each (units_on w r) 0 w.lives ≡ units_in w r
by_channels w row.Content o k c h = refl
by_channels w row.Writing o k c h = refl
by_channels w row.Opening o k c h = absurd (o refl)
by_channels w row.ChannelOpenOk o k c h = refl
by_channels w row.Ok o k c h = refl
by_channels w row.ConsumeOk o k c h = refl
by_channels w row.Get o k c h = refl
by_channels w row.Deliver o k c h = refl
by_channels w row.Confirm o k c h = refl
by_channels w row.CloseOk o k c h = absurd (k refl)
by_channels w row.ChannelCloseOk o k c h = refl
by_channels w row.Close o k c h = absurd (c refl)
by_channels w row.ChannelClose o k c h = refl
by_channels w row.Heartbeat o k c h = absurd (h refl)

pub up_by_channels : (w : State) (r : UpRow) → (r ≡ up_row.Opening → ⊥) → (r ≡ up_row.Close → ⊥) → (r ≡ up_row.Empty → ⊥)
    → each (up_units_on w r) 0 w.lives ≡ up_units_in w r
up_by_channels w up_row.Opening o c e = absurd (o refl)
up_by_channels w up_row.Begin o c e = refl
up_by_channels w up_row.Attach o c e = refl
up_by_channels w up_row.LinkFlow o c e = refl
up_by_channels w up_row.SessionFlow o c e = refl
up_by_channels w up_row.Transfer o c e = refl
up_by_channels w up_row.Dispose o c e = refl
up_by_channels w up_row.Settle o c e = refl
up_by_channels w up_row.Detach o c e = refl
up_by_channels w up_row.End o c e = refl
up_by_channels w up_row.Close o c e = absurd (c refl)
up_by_channels w up_row.Empty o c e = absurd (e refl)

-- the unit of a row is that of the row that it is
pub of_row : {o : Option Reply} (w : State) (r s : Row) (n : ℕ) (l : Life) → r ≡ s → o ≡ first (units_on w s n l) → o ≡ first (units_on w r n l)
of_row w r s n l e is = is ∙ ap (λ (x : Row). first (units_on w x n l)) (sym e)

pub of_up_row : {o : Option UpUnit} (w : State) (r s : UpRow) (n : ℕ) (l : Life) → r ≡ s → o ≡ first (up_units_on w s n l) → o ≡ first (up_units_on w r n l)
of_up_row w r s n l e is = is ∙ ap (λ (x : UpRow). first (up_units_on w x n l)) (sym e)

any_unused : (t : ℕ → Life → Bool) (k : ℕ) (ls : List Life) → ((n : ℕ) (l : Life) → k ≤ n → t n l ≡ false) → any_life t k ls ≡ false
any_unused t k [] unused = refl
any_unused t k (l ∷ ls) unused =
    ap (λ b. b || any_life t (k + 1) ls) (unused k l (omega arith)) ∙ any_unused t (k + 1) ls (λ n m le. unused n m (omega (arith, le)))

pub left_end : (c : Option Upstream) (t i : ℕ) (ls : List Life) → t ≤ i → AreFreeFrom t c → any_life (is_left_on c) i (drop i ls) ≡ false
left_end c t i ls above free =
    any_unused (is_left_on c) i (drop i ls) (λ n l le. rw (free n (omega (arith, above, le))) refl)

pub waits_end : (closing settled : Bool) (c : Option Upstream) (ps : List (Option PathState)) (t m i : ℕ) (ls : List Life) → t ≤ i → m ≤ i
    → drop t ls ≡ drop t no_lives → drop m ps ≡ drop m no_paths → any_life (is_waiting_on closing settled c ps) i (drop i ls) ≡ false
unfolding Rattle.gate_model.specs.Lives.no_lives
waits_end closing settled c ps t m i ls above over e none =
    ap (any_life (is_waiting_on closing settled c ps) i) (from_higher t i ls (replicate 256 no_life) above e ∙ drop-replicate i 256 no_life)
    ∙ any_quiet (is_waiting_on closing settled c ps) i (256 - i)
    (λ n le. let unused : slot_at ps n ≡ None = no_path i n ps le (from_higher m i ps no_paths over none) in rw unused (and_false (not closing)))

pub left_more : (c : Option Upstream) (k i : ℕ) (ls : List Life) → i < length ls
    → any_life (is_left_on c) k (drop i ls) ≡ (is_left_on c k (life_at ls i) || any_life (is_left_on c) (k + 1) (drop (i + 1) ls))
left_more c k i ls lt = any_more (is_left_on c) k i ls lt
