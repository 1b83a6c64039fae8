-- What a method of a channel makes of its path: one that is no change leaves it as it is.
use Rattle.std.proofs.Common.{◌≡◌, ◌≢◌, ◌∙◌, ℕ, zero, suc, Bool, true, false, List, [], ◌∷◌, Option}
use Rattle.std.proofs.Common.{None}
use Rattle.std.proofs.Common.{Some, refl, sym, ap}
use Rattle.std.specs.Option.{option_map}
use Rattle.methods_091.specs.declared.method.Method91.{Method91}
use Rattle.methods_091.specs.declared.method.Method91.TheVariants as method
use Rattle.tables_091.specs.Tree.{Tree}
use Rattle.session_path.specs.Path.{PathState}
use Rattle.gate_model.specs.Paths.{with_path}
use Rattle.gate_model.specs.State.{State, path_by}
use Rattle.bridge_core.specs.Met.{is_naming}
use Rattle.bridge_core.specs.PathChanges.{with_change}
use Rattle.bridge_core.specs.declared.paths.PathChange.{PathChange}

-- ---- on all channels

-- one that leaves each path as it is
same_path : (n : ℕ) (f : PathState → PathState) (ps : List (Option PathState)) → ((s : PathState) → s ≡ f s) → ps ≡ with_path n f ps
same_path n f [] same = refl
same_path zero f (o ∷ ps) same = ap (λ (x : Option PathState). x ∷ ps) (by o)
  where
    by : (o : Option PathState) → o ≡ option_map f o
    by None = refl
    by (Some s) = ap Some (same s)
same_path (suc n) f (o ∷ ps) same = ap (λ (qs : List (Option PathState)). o ∷ qs) (same_path n f ps same)

-- ---- a method of a channel

pub none_changed : (w : State) (n : ℕ) (m : Method91) (o : Option PathChange) → o ≡ None → ((s : PathState) → with_change o s ≡ path_by m s)
    → w ≡ record w { paths = with_path n (path_by m) w.paths }
none_changed w n m o none is =
    ap (λ (ps : List (Option PathState)). record w { paths = ps })
    (same_path n (path_by m) w.paths (λ (s : PathState). ap (λ (c : Option PathChange). with_change c s) (sym none) ∙ is s))

-- ---- which it is

pub unanswered : (m : Method91) (e k : List ℕ) (p d a i w : Bool) (t : List (List ℕ × Tree)) (s : PathState)
    → m ≡ method.ExchangeDeclare e k p d a i w t → w ≡ true → s ≡ path_by m s
unanswered m e k p d a i w t s is waits =
    sym (ap (λ (x : Method91). path_by x s) is ∙ ap (λ (b : Bool). path_by (method.ExchangeDeclare e k p d a i b t) s) waits)

pub unchanged : (m : Method91) → is_naming m ≡ false → ((a : Bool) → m ≢ method.ChannelFlow a)
    → ((e k : List ℕ) (p d a i w : Bool) (t : List (List ℕ × Tree)) → m ≢ method.ExchangeDeclare e k p d a i w t)
    → ((w : Bool) → m ≢ method.ConfirmSelect w) → ((z t : ℕ) (g : Bool) → m ≢ method.BasicQos z t g) → ((t : ℕ) (b : Bool) → m ≢ method.BasicAck t b)
    → ((t : ℕ) (b : Bool) → m ≢ method.BasicReject t b) → ((t : ℕ) (b r : Bool) → m ≢ method.BasicNack t b r)
    → ((r : Bool) → m ≢ method.BasicRecover r) → ((r : Bool) → m ≢ method.BasicRecoverAsync r)
    → ((c : ℕ) (t : List ℕ) (k i : ℕ) → m ≢ method.ChannelClose c t k i) → (s : PathState) → s ≡ path_by m s
unchanged (method.BasicConsume z t l a e w g) none f d c q k r n v y x s = absurd cc
unchanged (method.QueueDeclare name p u e a w g) none f d c q k r n v y x s = absurd cc
unchanged (method.BasicGet z a) none f d c q k r n v y x s = absurd cc
unchanged (method.BasicCancel t w) none f d c q k r n v y x s = absurd cc
unchanged (method.ChannelFlow a) none f d c q k r n v y x s = absurd (f a refl)
unchanged (method.ExchangeDeclare e u p z a i w t) none f d c q k r n v y x s = absurd (d e u p z a i w t refl)
unchanged (method.ConfirmSelect w) none f d c q k r n v y x s = absurd (c w refl)
unchanged (method.BasicQos z t g) none f d c q k r n v y x s = absurd (q z t g refl)
unchanged (method.BasicAck t b) none f d c q k r n v y x s = absurd (k t b refl)
unchanged (method.BasicReject t b) none f d c q k r n v y x s = absurd (r t b refl)
unchanged (method.BasicNack t b u) none f d c q k r n v y x s = absurd (n t b u refl)
unchanged (method.BasicRecover b) none f d c q k r n v y x s = absurd (v b refl)
unchanged (method.BasicRecoverAsync b) none f d c q k r n v y x s = absurd (y b refl)
unchanged (method.ChannelClose u t z i) none f d c q k r n v y x s = absurd (x u t z i refl)
unchanged m none f d c q k r n v y x s = refl
