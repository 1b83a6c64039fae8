-- Options are new one after another exactly where they are distinct and none is given before.
use Rattle.std.proofs.Common.{◌≡◌, ◌≢◌, true, List, [], ◌∷◌, refl}
use Rattle.std.specs.List.{AllByRecursion}
use Rattle.gate_command.specs.declared.options.OptionName.{OptionName}
use Rattle.gate_command.specs.declared.options.OptionName.TheVariants.{Listen, Upstream, Name, Host}
use Rattle.gate_command.specs.declared.options.OptionName.TheVariants.{Vhost, Exchange, Pairs}
use Rattle.gate_command.specs.declared.options.OptionName.TheVariants.{Turns, Capture}
use Rattle.gate_command.specs.Command.{Setting, listen_at, upstream_at, known_as, host_named}
use Rattle.gate_command.specs.Command.{vhost_named, exchanges_at, pair_count, turn_count}
use Rattle.gate_command.specs.Command.{capture_to, Given, setting_of, option_of, Settings}
use Rattle.gate_command.specs.Command.{nothing_given, with_setting, AreDistinct}
use Rattle.gate_command.specs.Reading.{is_free}
use Rattle.gate_command.proofs.WordLaws.{EachNew}

-- none of the options is given by these settings
abbrev AreFree : Settings → List Given → Type 0
AreFree s gs = AllByRecursion (λ g. is_free (option_of (setting_of g)) s ≡ true) gs

-- another option that isn't given still isn't
still_free : (option : OptionName) (setting : Setting) (s : Settings) → option ≢ option_of setting → is_free option s ≡ true → is_free option (with_setting setting s) ≡ true
still_free Listen (listen_at address) s other free = absurd (other refl)
still_free Upstream (upstream_at address) s other free = absurd (other refl)
still_free Name (known_as name) s other free = absurd (other refl)
still_free Host (host_named host) s other free = absurd (other refl)
still_free Vhost (vhost_named vhost) s other free = absurd (other refl)
still_free Exchange (exchanges_at routes) s other free = absurd (other refl)
still_free Pairs (pair_count n) s other free = absurd (other refl)
still_free Turns (turn_count n) s other free = absurd (other refl)
still_free Capture (capture_to path) s other free = absurd (other refl)
still_free option setting s other free = free

-- an option that isn't given with one more is another, and wasn't given without it
was_free : (option : OptionName) (setting : Setting) (s : Settings) → is_free option (with_setting setting s) ≡ true → (option ≢ option_of setting) × (is_free option s ≡ true)
was_free Listen (listen_at address) s free = absurd cc
was_free Upstream (upstream_at address) s free = absurd cc
was_free Name (known_as name) s free = absurd cc
was_free Host (host_named host) s free = absurd cc
was_free Vhost (vhost_named vhost) s free = absurd cc
was_free Exchange (exchanges_at routes) s free = absurd cc
was_free Pairs (pair_count n) s free = absurd cc
was_free Turns (turn_count n) s free = absurd cc
was_free Capture (capture_to path) s free = absurd cc
was_free option setting s free = (λ e. absurd cc, free)

all_still_free : (setting : Setting) (s : Settings) (gs : List Given) → AllByRecursion (λ g. option_of (setting_of g) ≢ option_of setting) gs → AreFree s gs → AreFree (with_setting setting s) gs
all_still_free setting s [] others free = tt
all_still_free setting s (g ∷ gs) others free =
    (still_free (option_of (setting_of g)) setting s others.0 free.0, all_still_free setting s gs others.1 free.1)

all_were_free : (setting : Setting) (s : Settings) (gs : List Given) → AreFree (with_setting setting s) gs → AllByRecursion (λ g. option_of (setting_of g) ≢ option_of setting) gs × AreFree s gs
all_were_free setting s [] free = (tt, tt)
all_were_free setting s (g ∷ gs) free =
    let first = was_free (option_of (setting_of g)) setting s free.0 in
    let others = all_were_free setting s gs free.1 in
    ((first.0, others.0), (first.1, others.1))

new_from_distinct : (s : Settings) (gs : List Given) → AreDistinct gs → AreFree s gs → EachNew s gs
new_from_distinct s [] distinct free = tt
new_from_distinct s (g ∷ gs) distinct free =
    (free.0, new_from_distinct (with_setting (setting_of g) s) gs distinct.1 (all_still_free (setting_of g) s gs distinct.0 free.1))

distinct_from_new : (s : Settings) (gs : List Given) → EachNew s gs → AreDistinct gs × AreFree s gs
distinct_from_new s [] new = (tt, tt)
distinct_from_new s (g ∷ gs) new =
    let others = distinct_from_new (with_setting (setting_of g) s) gs new.1 in
    let free = all_were_free (setting_of g) s gs others.1 in
    ((free.0, others.0), (new.0, free.1))

nothing_is_given : (option : OptionName) → is_free option nothing_given ≡ true
nothing_is_given Listen = refl
nothing_is_given Upstream = refl
nothing_is_given Name = refl
nothing_is_given Host = refl
nothing_is_given Vhost = refl
nothing_is_given Exchange = refl
nothing_is_given Pairs = refl
nothing_is_given Turns = refl
nothing_is_given Capture = refl

all_free : (gs : List Given) → AreFree nothing_given gs
all_free [] = tt
all_free (g ∷ gs) = (nothing_is_given (option_of (setting_of g)), all_free gs)

-- from the beginning on
pub new_if_distinct : (gs : List Given) → AreDistinct gs → EachNew nothing_given gs
new_if_distinct gs distinct = new_from_distinct nothing_given gs distinct (all_free gs)

pub distinct_if_new : (gs : List Given) → EachNew nothing_given gs → AreDistinct gs
distinct_if_new gs new = (distinct_from_new nothing_given gs new).0
