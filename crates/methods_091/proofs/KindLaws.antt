-- A kind is found by its ids, and by no others.
use Rattle.std.proofs.Common.{◌≡◌, ℕ, ◌<◌, Bool, true, false, cond, eqb, List, [], ◌∷◌, Option}
use Rattle.std.proofs.Common.{Some, None, refl, sym, ap, ◌∙◌, arith}
use Rattle.std.proofs.lemmas.Bool.{eqb-true}
use Rattle.std.specs.Prelude.{option_map}
use Rattle.methods_091.specs.Rows.{class_of, id_of, first_with, kind_with, connection_kinds}
use Rattle.methods_091.specs.Rows.{channel_kinds, exchange_kinds, queue_kinds, basic_kinds}
use Rattle.methods_091.specs.Rows.{confirm_kinds, tx_kinds, as_connection, as_channel, as_exchange}
use Rattle.methods_091.specs.Rows.{as_queue, as_basic, as_confirm, as_tx}
use Rattle.methods_091.specs.declared.kind.MethodKind.{MethodKind}
use Rattle.methods_091.specs.declared.kind.MethodKind.TheVariants as class
use Rattle.methods_091.specs.declared.kind.ConnectionKind.{ConnectionKind}
use Rattle.methods_091.specs.declared.kind.ConnectionKind.TheVariants as in_connection
use Rattle.methods_091.specs.declared.kind.ChannelKind.{ChannelKind}
use Rattle.methods_091.specs.declared.kind.ChannelKind.TheVariants as in_channel
use Rattle.methods_091.specs.declared.kind.ExchangeKind.{ExchangeKind}
use Rattle.methods_091.specs.declared.kind.ExchangeKind.TheVariants as in_exchange
use Rattle.methods_091.specs.declared.kind.QueueKind.{QueueKind}
use Rattle.methods_091.specs.declared.kind.QueueKind.TheVariants as in_queue
use Rattle.methods_091.specs.declared.kind.BasicKind.{BasicKind}
use Rattle.methods_091.specs.declared.kind.BasicKind.TheVariants as in_basic
use Rattle.methods_091.specs.declared.kind.ConfirmKind.{ConfirmKind}
use Rattle.methods_091.specs.declared.kind.ConfirmKind.TheVariants as in_confirm
use Rattle.methods_091.specs.declared.kind.TxKind.{TxKind}
use Rattle.methods_091.specs.declared.kind.TxKind.TheVariants as in_tx

-- ---- a kind that was found has the ids

-- each passes the test; and one passes it and has the id
abbrev all_pass : {K : Type 0} → (K → Bool) → List K → Bool
all_pass test [] = true
all_pass test (k ∷ ks) = cond (test k) (all_pass test ks) false

abbrev Is : {K : Type 0} → (K → ℕ) → (K → Bool) → ℕ → K → Type 0
Is id_in test id k = (test k ≡ true) × (id_in k ≡ id)

first_is : {K : Type 0} (id_in : K → ℕ) (test : K → Bool) (ks : List K) (id : ℕ) (k : K) → all_pass test ks ≡ true → first_with id_in ks id ≡ Some k → Is id_in test id k
first_is id_in test [] id k all e = absurd cc
first_is {K} id_in test (j ∷ ks) id k all e = passed (test j) refl all (λ rest r. first_is id_in test ks id k rest r)
  where
    found : (t : Bool) → eqb id (id_in j) ≡ t → test j ≡ true → cond t (Some j) (first_with id_in ks id) ≡ Some k → (first_with id_in ks id ≡ Some k → Is id_in test id k) → Is id_in test id k
    found true p passes e later = let same : j ≡ k = cc in (ap test (sym same) ∙ passes, ap id_in (sym same) ∙ sym (eqb-true id (id_in j) p))
    found false p passes e later = later e

    passed : (t : Bool) → test j ≡ t → cond t (all_pass test ks) false ≡ true → (all_pass test ks ≡ true → first_with id_in ks id ≡ Some k → Is id_in test id k) → Is id_in test id k
    passed true p all later = found (eqb id (id_in j)) refl p e (later all)
    passed false p all later = absurd cc

-- both ids of a kind
abbrev HasIds : ℕ → ℕ → MethodKind → Type 0
HasIds c id k = (class_of k ≡ c) × (id_of k ≡ id)

-- one class of the chain
next_class : {K : Type 0} (make : K → MethodKind) (ks : List K) (n c id : ℕ) (rest : Option MethodKind) (k : MethodKind) → all_pass (λ j. eqb (class_of (make j)) n) ks ≡ true
    → cond (eqb c n) (option_map make (first_with (λ j. id_of (make j)) ks id)) rest ≡ Some k → (rest ≡ Some k → HasIds c id k) → HasIds c id k
next_class {K} make ks n c id rest k all e later = at (eqb c n) refl e
  where
    made : (found : Option K) → first_with (λ j. id_of (make j)) ks id ≡ found → option_map make found ≡ Some k → (class_of k ≡ n) × (id_of k ≡ id)
    made None f e = absurd cc
    made (Some j) f e =
        let same : make j ≡ k = cc in
        let is = first_is (λ j. id_of (make j)) (λ j. eqb (class_of (make j)) n) ks id j all f in
        (ap class_of (sym same) ∙ eqb-true (class_of (make j)) n is.0, ap id_of (sym same) ∙ is.1)

    at : (t : Bool) → eqb c n ≡ t → cond t (option_map make (first_with (λ j. id_of (make j)) ks id)) rest ≡ Some k → HasIds c id k
    at true p e = let is = made (first_with (λ j. id_of (make j)) ks id) refl e in (is.0 ∙ sym (eqb-true c n p), is.1)
    at false p e = later e

pub kind_is : (c id : ℕ) (k : MethodKind) → kind_with c id ≡ Some k → HasIds c id k
kind_is c id k e =
    next_class class.Connection connection_kinds 10 c id _ k refl e (λ e.
    next_class class.Channel channel_kinds 20 c id _ k refl e (λ e.
    next_class class.Exchange exchange_kinds 40 c id _ k refl e (λ e.
    next_class class.Queue queue_kinds 50 c id _ k refl e (λ e.
    next_class class.Basic basic_kinds 60 c id _ k refl e (λ e.
    next_class class.Confirm confirm_kinds 85 c id _ k refl e (λ e.
    next_class class.Tx tx_kinds 90 c id _ k refl e (λ e. absurd cc)))))))

-- ---- a kind is found by its ids, which have two bytes each

abbrev IsKnown : MethodKind → Type 0
IsKnown k = (class_of k < 65536) × (id_of k < 65536) × (kind_with (class_of k) (id_of k) ≡ Some k)

connection_known : (k : ConnectionKind) → IsKnown (class.Connection k)
connection_known in_connection.Start = (omega arith, omega arith, refl)
connection_known k = (omega arith, omega arith, refl)

channel_known : (k : ChannelKind) → IsKnown (class.Channel k)
channel_known in_channel.Open = (omega arith, omega arith, refl)
channel_known k = (omega arith, omega arith, refl)

exchange_known : (k : ExchangeKind) → IsKnown (class.Exchange k)
exchange_known in_exchange.Declare = (omega arith, omega arith, refl)
exchange_known k = (omega arith, omega arith, refl)

queue_known : (k : QueueKind) → IsKnown (class.Queue k)
queue_known in_queue.Declare = (omega arith, omega arith, refl)
queue_known k = (omega arith, omega arith, refl)

basic_known : (k : BasicKind) → IsKnown (class.Basic k)
basic_known in_basic.Qos = (omega arith, omega arith, refl)
basic_known k = (omega arith, omega arith, refl)

confirm_known : (k : ConfirmKind) → IsKnown (class.Confirm k)
confirm_known in_confirm.Select = (omega arith, omega arith, refl)
confirm_known k = (omega arith, omega arith, refl)

tx_known : (k : TxKind) → IsKnown (class.Tx k)
tx_known in_tx.Select = (omega arith, omega arith, refl)
tx_known k = (omega arith, omega arith, refl)

pub kind_known : (k : MethodKind) → IsKnown k
kind_known (class.Connection k) = connection_known k
kind_known (class.Channel k) = channel_known k
kind_known (class.Exchange k) = exchange_known k
kind_known (class.Queue k) = queue_known k
kind_known (class.Basic k) = basic_known k
kind_known (class.Confirm k) = confirm_known k
kind_known (class.Tx k) = tx_known k

-- the ids of two kinds differ
pub kinds_apart : (j k : MethodKind) → class_of j ≡ class_of k → id_of j ≡ id_of k → j ≡ k
kinds_apart j k c id = cc (sym (kind_known j).2 ∙ ap (λ (n : ℕ). kind_with n (id_of j)) c ∙ ap (kind_with (class_of k)) id ∙ (kind_known k).2)

-- ---- each kind is of a class

pub some_class : (k : MethodKind) → as_connection k ≡ None → as_channel k ≡ None → as_exchange k ≡ None → as_queue k ≡ None → as_basic k ≡ None → as_confirm k ≡ None → as_tx k ≡ None → ⊥
some_class (class.Connection k) a b c d e f g = absurd cc
some_class k a b c d e f g = absurd cc
