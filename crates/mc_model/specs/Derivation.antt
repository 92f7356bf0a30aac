-- Rewriting a list of commands: the rules, a use of a rule at a place, and the rank that falls.
use Rattle.std.specs.Prelude.{◌≡◌, ◌⊎◌, ℕ, suc, ◌+◌, ◌<◌, Bool, false, cond, ◌&&◌, ◌||◌, nat_eq}
use Rattle.std.specs.Prelude.{nat_lt, List, [], ◌∷◌, ◌++◌, length, map, ⊤}
use Rattle.mc_model.specs.Signals.{Signal, no_signal, signal_sum}
use Rattle.mc_model.specs.Pattern.{Command, Prep, Ent, Meas, FixX, FixZ}
use Rattle.mc_model.specs.Alike.{Disjoint}
use Rattle.mc_model.specs.Valid.{IsValid}

pub data Rule : Type 0 where
  XE : Rule
  ZE : Rule
  XM : Rule
  ZM : Rule
  Swap : Rule
  Join : Rule
  EE : Rule
  Cancel : Rule
  XZ : Rule
  Turn : Rule
  DropEmpty : Rule

-- the number is not in the list
abbrev pub Lacks : ℕ → List ℕ → Type 0
Lacks i [] = ⊤
Lacks i (q ∷ qs) = (i ≡ q → ⊥) × Lacks i qs

-- the signals of the command do not name the qubit
abbrev pub NamesNot : ℕ → Command → Type 0
NamesNot i (Prep q) = ⊤
NamesNot i (Ent q r) = ⊤
NamesNot i (Meas q a s t) = Lacks i s.members × Lacks i t.members
NamesNot i (FixX q s) = Lacks i s.members
NamesNot i (FixZ q s) = Lacks i s.members

-- the second command does not use the outcome of the first
abbrev pub UsesNot : Command → Command → Type 0
UsesNot (Prep q) d = ⊤
UsesNot (Ent q r) d = ⊤
UsesNot (Meas q a s t) d = NamesNot q d
UsesNot (FixX q s) d = ⊤
UsesNot (FixZ q s) d = ⊤

-- by the rule, the first list may become the second
pub data Rewrites : Rule → List Command → List Command → Type 0 where
  x_first : {i j : ℕ} {s : Signal} →
      Rewrites XE (FixX i s ∷ Ent i j ∷ []) (Ent i j ∷ FixX i s ∷ FixZ j s ∷ [])
  x_second : {i j : ℕ} {s : Signal} →
      Rewrites XE (FixX i s ∷ Ent j i ∷ []) (Ent j i ∷ FixX i s ∷ FixZ j s ∷ [])
  z_first : {i j : ℕ} {s : Signal} → Rewrites ZE (FixZ i s ∷ Ent i j ∷ []) (Ent i j ∷ FixZ i s ∷ [])
  z_second : {i j : ℕ} {s : Signal} →
      Rewrites ZE (FixZ i s ∷ Ent j i ∷ []) (Ent j i ∷ FixZ i s ∷ [])
  x_measured : {i a : ℕ} {r s t : Signal} →
      Rewrites XM (FixX i r ∷ Meas i a s t ∷ []) (Meas i a (signal_sum s r) t ∷ [])
  z_measured : {i a : ℕ} {r s t : Signal} →
      Rewrites ZM (FixZ i r ∷ Meas i a s t ∷ []) (Meas i a s (signal_sum t r) ∷ [])
  swapped : {c d : Command} → Disjoint c d → UsesNot c d → Rewrites Swap (c ∷ d ∷ []) (d ∷ c ∷ [])
  x_joined : {i : ℕ} {s t : Signal} →
      Rewrites Join (FixX i s ∷ FixX i t ∷ []) (FixX i (signal_sum s t) ∷ [])
  z_joined : {i : ℕ} {s t : Signal} →
      Rewrites Join (FixZ i s ∷ FixZ i t ∷ []) (FixZ i (signal_sum s t) ∷ [])
  edges_exchanged : {i j q r : ℕ} → Rewrites EE (Ent i j ∷ Ent q r ∷ []) (Ent q r ∷ Ent i j ∷ [])
  same_cancelled : {i j : ℕ} → Rewrites Cancel (Ent i j ∷ Ent i j ∷ []) []
  turned_cancelled : {i j : ℕ} → Rewrites Cancel (Ent i j ∷ Ent j i ∷ []) []
  x_behind_z : {i : ℕ} {s t : Signal} →
      Rewrites XZ (FixX i s ∷ FixZ i t ∷ []) (FixZ i t ∷ FixX i s ∷ [])
  z_behind_x : {i : ℕ} {s t : Signal} →
      Rewrites XZ (FixZ i s ∷ FixX i t ∷ []) (FixX i t ∷ FixZ i s ∷ [])
  turned : {i j : ℕ} → Rewrites Turn (Ent i j ∷ []) (Ent j i ∷ [])
  x_dropped : {i : ℕ} → Rewrites DropEmpty (FixX i no_signal ∷ []) []
  z_dropped : {i : ℕ} → Rewrites DropEmpty (FixZ i no_signal ∷ []) []

-- one use of a rule, at a place counted from 1, from a valid list to a valid list
pub record Step (inputs : ℕ) (rule : Rule) (place : ℕ) (cs ds : List Command) : Type 0 where
  pub before : List Command
  pub old : List Command
  pub new : List Command
  pub behind : List Command
  pub rewrites : Rewrites rule old new
  pub at_place : place ≡ suc (length before)
  pub from_list : cs ≡ before ++ (old ++ behind)
  pub to_list : ds ≡ before ++ (new ++ behind)
  pub from_valid : IsValid inputs cs
  pub to_valid : IsValid inputs ds

-- the parts: preparations, entanglings, measurements, corrections
abbrev pub part : Command → ℕ
part (Prep q) = 0
part (Ent q r) = 1
part (Meas q a s t) = 2
part (FixX q s) = 3
part (FixZ q s) = 3

abbrev pub one_if : Bool → ℕ
one_if b = cond b 1 0

-- the number of later parts in the list; whether there is one
unfoldable pub count_later : ℕ → List ℕ → ℕ
count_later p [] = 0
count_later p (r ∷ rs) = one_if (nat_lt p r) + count_later p rs

unfoldable pub has_later : ℕ → List ℕ → Bool
has_later p [] = false
has_later p (r ∷ rs) = nat_lt p r || has_later p rs

-- the number of commands that stand behind one of a later part
unfoldable pub out_of_order : List ℕ → List ℕ → ℕ
out_of_order before [] = 0
out_of_order before (p ∷ ps) = one_if (has_later p before) + out_of_order (before ++ (p ∷ [])) ps

-- the number of commands of later parts before the first of these, or 0
unfoldable pub first_out : List ℕ → List ℕ → ℕ
first_out before [] = 0
first_out before (p ∷ ps) =
    cond (has_later p before) (count_later p before) (first_out (before ++ (p ∷ [])) ps)

-- the lower and the higher number of a pair
abbrev pub lower : ℕ → ℕ → ℕ
lower i j = cond (nat_lt j i) j i

abbrev pub higher : ℕ → ℕ → ℕ
higher i j = cond (nat_lt j i) i j

abbrev pub pair_before : ℕ → ℕ → ℕ → ℕ → Bool
pair_before a b c d = nat_lt a c || (nat_eq a c && nat_lt b d)

-- two entanglings, or two corrections, that the standard form has in the other order
abbrev pub is_wrong : Command → Command → Bool
is_wrong (Ent i j) (Ent q r) = pair_before (lower q r) (higher q r) (lower i j) (higher i j)
is_wrong (FixX q s) (FixX r t) = pair_before r 0 q 0
is_wrong (FixX q s) (FixZ r t) = pair_before r 1 q 0
is_wrong (FixZ q s) (FixX r t) = pair_before r 0 q 1
is_wrong (FixZ q s) (FixZ r t) = pair_before r 1 q 1
is_wrong c d = false

unfoldable pub count_wrong : Command → List Command → ℕ
count_wrong c [] = 0
count_wrong c (d ∷ ds) = one_if (is_wrong c d) + count_wrong c ds

unfoldable pub wrong_pairs : List Command → ℕ
wrong_pairs [] = 0
wrong_pairs (c ∷ cs) = count_wrong c cs + wrong_pairs cs

abbrev pub is_turned : Command → Bool
is_turned (Ent i j) = nat_lt j i
is_turned c = false

unfoldable pub turned_edges : List Command → ℕ
turned_edges [] = 0
turned_edges (c ∷ cs) = one_if (is_turned c) + turned_edges cs

-- the rank
pub record Rank : Type 0 where
  pub late : ℕ
  pub ahead : ℕ
  pub size : ℕ
  pub wrong : ℕ
  pub turned : ℕ

unfoldable pub rank : List Command → Rank
rank cs = record {
  late = out_of_order [] (map part cs);
  ahead = first_out [] (map part cs);
  size = length cs;
  wrong = wrong_pairs cs;
  turned = turned_edges cs;
}

-- the first rank is below the second: at the first number in which they differ
abbrev pub IsLower : Rank → Rank → Type 0
IsLower a b =
    (a.late < b.late)
    ⊎ ((a.late ≡ b.late) × ((a.ahead < b.ahead)
    ⊎ ((a.ahead ≡ b.ahead) × ((a.size < b.size)
    ⊎ ((a.size ≡ b.size)
    × ((a.wrong < b.wrong) ⊎ ((a.wrong ≡ b.wrong) × (a.turned < b.turned))))))))

-- a use of a rule: the place of the first command concerned, counted from 1
pub record Use : Type 0 where
  pub place : ℕ
  pub rule : Rule

-- uses that lead from one list to another, each from a valid list to a valid list
pub data Derives (inputs : ℕ) : List Use → List Command → List Command → Type 0 where
  no_use : {cs : List Command} → Derives inputs [] cs cs
  one_use : {u : Use} {uses : List Use} {cs ds es : List Command} →
      Step inputs u.rule u.place cs ds → Derives inputs uses ds es →
      Derives inputs (u ∷ uses) cs es
