-- Commands that are placed on other qubits.
use Rattle.std.proofs.Common.{◌≡◌, ℕ, ◌+◌, ◌<◌, Bool, true, false, ◌||◌, map, List, [], ◌∷◌, ◌++◌}
use Rattle.std.proofs.Common.{refl, sym, ◌∙◌, ap, ap₂, append_assoc, arith}
use Rattle.std.specs.Prelude.{⊤}
use Rattle.std.proofs.lemmas.Bool.{eq-eqb}
use Rattle.mc_model.specs.Bits.{◌⊻◌, Bits, parity}
use Rattle.mc_model.specs.Signals.{Signal, value, no_signal, toggled_all, IsRising}
use Rattle.mc_model.specs.Pattern.{Command, Prep, Ent, Meas, FixX, FixZ}
use Rattle.mc_model.specs.Valid.{AllDone, measured, prepared, FitsBehind, IsLive, IsValid}
use Rattle.mc_model.specs.Valid.{SignalFits}
use Rattle.mc_model.proofs.BitLemmas.{xor_false}
use Rattle.mc_model.proofs.SignalLemmas.{value-sum, same_values, toggled_all_rising}
use Rattle.mc_model.proofs.ValidLemmas.{measured-append, prepared-append, moved_on}
use Rattle.mc_compose.specs.Composed.{placed_signal, placed_command, placed_commands}
use Rattle.mc_compose.proofs.Mirrored.{AllMirror}

-- ---- signals

-- a set made of a list has the list's parity
parity-set : (ps : List ℕ) (o : Bits) → parity (toggled_all ps []) o ≡ parity ps o
unfolding value parity
parity-set ps o =
    value-sum (record { members = ps; constant = false }) no_signal o ∙ xor_false (parity ps o)

parity-placed : (at : ℕ → ℕ) (done o o' : Bits) (ps : List ℕ) →
    ((q : ℕ) → done q ≡ true → o' (at q) ≡ o q) → AllDone done ps →
    parity (map at ps) o' ≡ parity ps o
unfolding parity
parity-placed at done o o' [] same d = refl
parity-placed at done o o' (p ∷ ps) same d =
    ap₂ (λ (a b : Bool). a ⊻ b) (same p d.0) (parity-placed at done o o' ps same d.1)

-- the same members where the outcomes are the same through `at`
pub value-placed : (at : ℕ → ℕ) (done o o' : Bits) (s : Signal) →
    ((q : ℕ) → done q ≡ true → o' (at q) ≡ o q) → AllDone done s.members →
    value (placed_signal at s) o' ≡ value s o
unfolding value placed_signal
value-placed at done o o' s same d =
    ap (λ (b : Bool). s.constant ⊻ b)
    (parity-set (map at s.members) o' ∙ parity-placed at done o o' s.members same d)

map_itself : (ps : List ℕ) → map (λ q. q) ps ≡ ps
map_itself [] = refl
map_itself (p ∷ ps) = ap (λ (qs : List ℕ). p ∷ qs) (map_itself ps)

signal_itself : (s : Signal) → IsRising s.members → placed_signal (λ q. q) s ≡ s
unfolding placed_signal
signal_itself s rising =
    ap (λ (ps : List ℕ). record { members = ps; constant = s.constant })
    (ap (λ (ps : List ℕ). toggled_all ps []) (map_itself s.members)
    ∙ same_values (toggled_all s.members []) s.members (toggled_all_rising s.members [] tt) rising
    (parity-set s.members))

-- ---- lists of commands, each beside what stands before it

abbrev pub AllFit : ℕ → List Command → List Command → Type 0
AllFit inputs before [] = ⊤
AllFit inputs before (c ∷ cs) = FitsBehind inputs before c × AllFit inputs (before ++ (c ∷ [])) cs

pub all_fit : (inputs : ℕ) (before cs : List Command) → IsValid inputs (before ++ cs) →
    AllFit inputs before cs
all_fit inputs before [] v = tt
all_fit inputs before (c ∷ cs) v =
    (v.at before c cs refl, all_fit inputs (before ++ (c ∷ [])) cs (moved_on inputs before c cs v))

-- on the same qubits the commands are the same
pub placed_itself : (inputs : ℕ) (before cs : List Command) → AllFit inputs before cs →
    placed_commands (λ q. q) cs ≡ cs
unfolding placed_command
placed_itself inputs before [] f = refl
placed_itself inputs before (Prep q ∷ cs) f =
    ap (λ (ds : List Command). Prep q ∷ ds) (placed_itself inputs _ cs f.1)
placed_itself inputs before (Ent q r ∷ cs) f =
    ap (λ (ds : List Command). Ent q r ∷ ds) (placed_itself inputs _ cs f.1)
placed_itself inputs before (Meas q a s t ∷ cs) f =
    ap₂ (λ (u v : Signal). Meas q a u v ∷ placed_commands (λ r. r) cs)
    (signal_itself s f.0.1.is_set)
    (signal_itself t f.0.2.is_set)
    ∙ ap (λ (ds : List Command). Meas q a s t ∷ ds) (placed_itself inputs _ cs f.1)
placed_itself inputs before (FixX q s ∷ cs) f =
    ap₂ (λ (u : Signal) (ds : List Command). FixX q u ∷ ds)
    (signal_itself s f.0.1.is_set)
    (placed_itself inputs _ cs f.1)
placed_itself inputs before (FixZ q s ∷ cs) f =
    ap₂ (λ (u : Signal) (ds : List Command). FixZ q u ∷ ds)
    (signal_itself s f.0.1.is_set)
    (placed_itself inputs _ cs f.1)

-- the lists before and behind a place of the whole, whose outcomes are `o` here and `o'` there
record IsCut (inputs n : ℕ) (at : ℕ → ℕ) (o o' : Bits) (before cs whole : List Command) : Type 0
  where
    cut : whole ≡ before ++ cs
    size : inputs + prepared whole ≡ n
    same : (q : ℕ) → measured whole q ≡ true → o' (at q) ≡ o q

cut_next : (inputs n : ℕ) (at : ℕ → ℕ) (o o' : Bits) (before : List Command) (c : Command)
    (cs whole : List Command) → IsCut inputs n at o o' before (c ∷ cs) whole →
    IsCut inputs n at o o' (before ++ (c ∷ [])) cs whole
cut_next inputs n at o o' before c cs whole k = record {
  cut = k.cut ∙ sym (append_assoc before (c ∷ []) cs);
  size = k.size;
  same = k.same;
}

below_all : (inputs n : ℕ) (at : ℕ → ℕ) (o o' : Bits) (before cs whole : List Command) (q : ℕ) →
    IsCut inputs n at o o' before cs whole → IsLive inputs before q → q < n
below_all inputs n at o o' before cs whole q k live =
    let parts = ap prepared k.cut ∙ prepared-append before cs in
    let size = k.size in
    let there = live.is_there in
    omega arith

done_before : (inputs n : ℕ) (at : ℕ → ℕ) (o o' : Bits) (before cs whole : List Command) (q : ℕ) →
    IsCut inputs n at o o' before cs whole → measured before q ≡ true → o' (at q) ≡ o q
done_before inputs n at o o' before cs whole q k done =
    k.same q
    (ap (λ (ds : List Command). measured ds q) k.cut
    ∙ measured-append before cs q
    ∙ ap (λ (b : Bool). b || measured cs q) done)

or_true : (a b : Bool) → a || (true || b) ≡ true
or_true a b = grind arith

done_here : (inputs n : ℕ) (at : ℕ → ℕ) (o o' : Bits) (before cs whole : List Command)
    (q a : ℕ) (s t : Signal) →
    IsCut inputs n at o o' before (Meas q a s t ∷ cs) whole → o' (at q) ≡ o q
unfolding measured
done_here inputs n at o o' before cs whole q a s t k =
    k.same q
    (ap (λ (ds : List Command). measured ds q) k.cut
    ∙ measured-append before (Meas q a s t ∷ cs) q
    ∙ ap (λ (b : Bool). measured before q || (b || measured cs q)) (eq-eqb q q refl)
    ∙ or_true (measured before q) (measured cs q))

value_here : (inputs n : ℕ) (at : ℕ → ℕ) (o o' : Bits) (before cs whole : List Command)
    (s : Signal) → IsCut inputs n at o o' before cs whole → SignalFits before s →
    value (placed_signal at s) o' ≡ value s o
value_here inputs n at o o' before cs whole s k fits =
    value-placed at (measured before) o o' s
    (λ q done. done_before inputs n at o o' before cs whole q k done)
    fits.is_done

mirrored_from : (inputs n : ℕ) (at : ℕ → ℕ) (o o' : Bits) (before cs whole : List Command) →
    IsCut inputs n at o o' before cs whole → AllFit inputs before cs →
    AllMirror n at o o' cs (placed_commands at cs)
unfolding placed_command
mirrored_from inputs n at o o' before [] whole k f = refl
mirrored_from inputs n at o o' before (Prep q ∷ cs) whole k f = (
  Prep (at q),
  placed_commands at cs,
  refl,
  (at q, refl),
  mirrored_from inputs n at o o' _ cs whole (cut_next inputs n at o o' before _ cs whole k) f.1,
)
mirrored_from inputs n at o o' before (Ent q r ∷ cs) whole k f = (
  Ent (at q) (at r),
  placed_commands at cs,
  refl,
  (
    below_all inputs n at o o' before _ whole q k f.0.0,
    below_all inputs n at o o' before _ whole r k f.0.1,
    refl,
  ),
  mirrored_from inputs n at o o' _ cs whole (cut_next inputs n at o o' before _ cs whole k) f.1,
)
mirrored_from inputs n at o o' before (Meas q a s t ∷ cs) whole k f = (
  Meas (at q) a (placed_signal at s) (placed_signal at t),
  placed_commands at cs,
  refl,
  (
    below_all inputs n at o o' before _ whole q k f.0.0,
    placed_signal at s,
    placed_signal at t,
    value_here inputs n at o o' before _ whole s k f.0.1,
    value_here inputs n at o o' before _ whole t k f.0.2,
    done_here inputs n at o o' before cs whole q a s t k,
    refl,
  ),
  mirrored_from inputs n at o o' _ cs whole (cut_next inputs n at o o' before _ cs whole k) f.1,
)
mirrored_from inputs n at o o' before (FixX q s ∷ cs) whole k f = (
  FixX (at q) (placed_signal at s),
  placed_commands at cs,
  refl,
  (
    below_all inputs n at o o' before _ whole q k f.0.0,
    placed_signal at s,
    value_here inputs n at o o' before _ whole s k f.0.1,
    refl,
  ),
  mirrored_from inputs n at o o' _ cs whole (cut_next inputs n at o o' before _ cs whole k) f.1,
)
mirrored_from inputs n at o o' before (FixZ q s ∷ cs) whole k f = (
  FixZ (at q) (placed_signal at s),
  placed_commands at cs,
  refl,
  (
    below_all inputs n at o o' before _ whole q k f.0.0,
    placed_signal at s,
    value_here inputs n at o o' before _ whole s k f.0.1,
    refl,
  ),
  mirrored_from inputs n at o o' _ cs whole (cut_next inputs n at o o' before _ cs whole k) f.1,
)

-- a valid list and the list that is placed mirror one another, where the outcomes do
pub placed_mirrors : (inputs n : ℕ) (at : ℕ → ℕ) (o o' : Bits) (cs : List Command) →
    IsValid inputs cs → inputs + prepared cs ≡ n →
    ((q : ℕ) → measured cs q ≡ true → o' (at q) ≡ o q) →
    AllMirror n at o o' cs (placed_commands at cs)
placed_mirrors inputs n at o o' cs v size same =
    mirrored_from inputs n at o o' [] cs cs (record { cut = refl; size = size; same = same })
    (all_fit inputs [] cs v)
