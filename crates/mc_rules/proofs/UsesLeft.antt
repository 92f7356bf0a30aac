-- The rank as one number that falls with each use, where a use adds at most one command.
use Rattle.std.proofs.Common.{◌≡◌, ◌⊎◌, ℕ, zero, suc, ◌+◌, ◌*◌, ◌<◌, ◌≤◌, Bool, true, false}
use Rattle.std.proofs.Common.{List}
use Rattle.std.proofs.Common.{[], ◌∷◌, ◌++◌, map, length, refl, arith}
use mathlib.Core.Logic.{inl, inr}
use Rattle.std.proofs.lemmas.Bool.{cases_lt, cases_Bool}
use Rattle.std.specs.Prelude.{nat_lt}
use Rattle.mc_model.specs.Pattern.{Command}
use Rattle.mc_model.specs.Derivation.{Rule, Rank, rank, part, one_if, has_later, count_later}
use Rattle.mc_model.specs.Derivation.{first_out, is_wrong, count_wrong, wrong_pairs, is_turned}
use Rattle.mc_model.specs.Derivation.{turned_edges}
use Rattle.mc_rules.specs.Improves.{Descends, Improvement}
use Rattle.mc_rules.specs.UsesLeft.{in_order_room, room_for, uses_from, uses_left}
use Rattle.mc_rules.proofs.RankFalls.{first_none}

-- what holds of the rank of any list
pub record IsSane (r : Rank) : Type 0 where
  pub few_ahead : r.ahead ≤ r.size
  pub few_wrong : r.wrong ≤ r.size * r.size
  pub few_turned : r.turned ≤ r.size
  pub none_ahead : r.late ≡ 0 → r.ahead ≡ 0

times_mono : (a b c : ℕ) → a ≤ b → a * c ≤ b * c
times_mono a b zero h = omega arith
times_mono a b (suc c) h = let r = times_mono a b c h in omega (arith, mul_more a c, mul_more b c)
  where
    mul_more : (a c : ℕ) → a * suc c ≡ a * c + a
    mul_more a c = omega arith

in_order_more : (n m : ℕ) → n ≤ m → in_order_room n ≤ in_order_room m
unfolding in_order_room
in_order_more n zero h = let e : n ≡ 0 = omega arith in rw e (omega arith)
in_order_more n (suc m) h = elim (cases_lt m n) [
  | inl l ↦ (let e : n ≡ suc m = omega arith in rw e (omega arith))
  | inr g ↦ (let r = in_order_more n m g in omega arith)
]

room_mono : (late m n : ℕ) → m ≤ n → room_for late m ≤ room_for late n
unfolding room_for
room_mono zero m n h = in_order_more (suc m) (suc n) (omega arith)
room_mono (suc late) m n h = let r = room_mono late (2 * m + 2) (2 * n + 2) (omega arith) in
    omega arith

room_low : (late n : ℕ) → in_order_room (suc n) ≤ room_for late n
unfolding room_for
room_low zero n = omega arith
room_low (suc late) n =
    let r = room_low late (2 * n + 2) in
    let m = in_order_more (suc n) (suc (2 * n + 2)) (omega arith) in omega arith

room_next : (late n : ℕ) → room_for late n ≤ room_for (suc late) n
unfolding room_for
room_next late n = let r = room_mono late n (2 * n + 2) (omega arith) in omega arith

room_later : (k l n : ℕ) → k ≤ l → room_for k n ≤ room_for l n
room_later k zero n h = let e : k ≡ 0 = omega arith in rw e (omega arith)
room_later k (suc l) n h = elim (cases_lt l k) [
  | inl g ↦ (let e : k ≡ suc l = omega arith in rw e (omega arith))
  | inr g ↦ (let r = room_later k l n g in let s = room_next l n in omega arith)
]

spread : (a c : ℕ) → (a + 1) * (c + 1) ≡ a * (c + 1) + (c + 1)
spread a c = grind arith

step_up : (n m w t : ℕ) → n < m → w ≤ n * n → t ≤ n →
    in_order_room n + w * (n + 1) + t < in_order_room m
unfolding in_order_room
step_up n m w t h hw ht =
    let up = in_order_more (suc n) m (omega arith) in
    let a = times_mono w (n * n) (n + 1) hw in
    let b = spread (n * n) n in omega arith

wrong_up : (n w v t u : ℕ) → w < v → t ≤ n →
    in_order_room n + w * (n + 1) + t < in_order_room n + v * (n + 1) + u
wrong_up n w v t u h ht =
    let a = times_mono (w + 1) v (n + 1) (omega arith) in
    let b = spread w n in omega arith

-- where both are in order
in_order_falls : (n w t m v u : ℕ) → w ≤ n * n → t ≤ n →
    (n < m) ⊎ ((n ≡ m) × ((w < v) ⊎ ((w ≡ v) × (t < u)))) →
    in_order_room n + w * (n + 1) + t < in_order_room m + v * (m + 1) + u
in_order_falls n w t m v u hw ht (inl h) = let s = step_up n m w t h hw ht in omega arith
in_order_falls n w t m v u hw ht (inr (e, inl h)) = rw (← e) (wrong_up n w v t u h ht)
in_order_falls n w t m v u hw ht (inr (e, inr (f, h))) = rw (← e, ← f) (omega arith)

unfold_room : (k n : ℕ) → room_for (suc k) n ≡ 2 * n + 3 + room_for k (2 * n + 2)
unfolding room_for
unfold_room k n = refl

at_zero : (b n w t a m v u : ℕ) →
    in_order_room n + w * (n + 1) + t < in_order_room m + v * (m + 1) + u →
    uses_from 0 b n w t < uses_from 0 a m v u
unfolding uses_from
at_zero b n w t a m v u h = h

late_falls : (k l b n w t a m v u : ℕ) → k < l → b ≤ n → w ≤ n * n → t ≤ n → n ≤ m + 1 →
    uses_from k b n w t < uses_from l a m v u
unfolding uses_from room_for
late_falls k zero b n w t a m v u h hb hw ht hn = absurd (omega arith)
late_falls zero (suc l) b n w t a m v u h hb hw ht hn =
    let up = step_up n (suc (2 * (m + a) + 2)) w t (omega arith) hw ht in
    let low = room_low l (2 * (m + a) + 2) in omega arith
late_falls (suc k) (suc l) b n w t a m v u h hb hw ht hn =
    let later = room_later (suc k) l (n + b) (omega arith) in
    let more = room_mono l (n + b) (2 * (m + a) + 2) (omega arith) in
    let same = unfold_room k (n + b) in omega arith

ahead_falls : (l b n w t a m v u : ℕ) → b < a → n ≤ m + 1 → (l ≡ 0 → a ≡ 0) →
    uses_from l b n w t < uses_from l a m v u
unfolding uses_from
ahead_falls zero b n w t a m v u h hn none = let z = none refl in absurd (omega arith)
ahead_falls (suc l) b n w t a m v u h hn none = let more =
    room_mono (suc l) (n + b) (m + a) (omega arith) in omega arith

-- one use that adds at most one command
pub uses_fall : (old new : Rank) → IsSane old → IsSane new → new.size ≤ old.size + 1 →
    Descends new old → uses_left new < uses_left old
unfolding uses_left
uses_fall old new so sn grows (inl (inl h)) =
    late_falls new.late old.late new.ahead new.size new.wrong new.turned old.ahead old.size
    old.wrong old.turned h sn.few_ahead sn.few_wrong sn.few_turned grows
uses_fall old new so sn grows (inl (inr (e, h))) =
    rw e (ahead_falls old.late new.ahead new.size new.wrong new.turned old.ahead old.size old.wrong
    old.turned h grows so.none_ahead)
uses_fall old new so sn grows (inr (ez, oz, h)) = both_zero new.late old.late ez oz
    (in_order_falls new.size new.wrong new.turned old.size old.wrong old.turned sn.few_wrong
    sn.few_turned h)
  where
    both_zero : (k l : ℕ) → k ≡ 0 → l ≡ 0 →
        in_order_room new.size + new.wrong * (new.size + 1) + new.turned < in_order_room old.size +
        old.wrong * (old.size + 1) + old.turned →
        uses_from k new.ahead new.size new.wrong new.turned < uses_from l old.ahead old.size
        old.wrong old.turned
    both_zero k l ek el g =
        rw (ek, el) (at_zero new.ahead new.size new.wrong new.turned old.ahead old.size old.wrong
        old.turned g)

one_few : (t : Bool) → one_if t ≤ 1
one_few true = omega arith
one_few false = omega arith

count_few : (p : ℕ) (b : List ℕ) → count_later p b ≤ length b
unfolding count_later
count_few p [] = omega arith
count_few p (r ∷ b) = let h = count_few p b in let g = one_few (nat_lt p r) in omega arith

length-append : (xs ys : List ℕ) → length (xs ++ ys) ≡ length xs + length ys
length-append [] ys = omega arith
length-append (x ∷ xs) ys = let h = length-append xs ys in omega arith

first_few : (b xs : List ℕ) → first_out b xs ≤ length b + length xs
unfolding first_out
first_few b [] = omega arith
first_few b (p ∷ xs) = elim (cases_Bool (has_later p b)) [
  | inl e ↦ rw e (let h = count_few p b in omega arith)
  | inr e ↦ rw e (let h = first_few (b ++ (p ∷ [])) xs in let g = length-append b (p ∷ []) in
      omega arith)
]

length-map : (cs : List Command) → length (map part cs) ≡ length cs
length-map [] = refl
length-map (c ∷ cs) = let h = length-map cs in omega arith

wrong_few : (c : Command) (cs : List Command) → count_wrong c cs ≤ length cs
unfolding count_wrong
wrong_few c [] = omega arith
wrong_few c (d ∷ cs) = let h = wrong_few c cs in let g = one_few (is_wrong c d) in omega arith

square_more : (n : ℕ) → n * n + n ≤ suc n * suc n
square_more n = grind arith

pairs_few : (cs : List Command) → wrong_pairs cs ≤ length cs * length cs
unfolding wrong_pairs
pairs_few [] = omega arith
pairs_few (c ∷ cs) = let h = pairs_few cs in let g = wrong_few c cs in
    let s = square_more (length cs) in omega arith

turned_few : (cs : List Command) → turned_edges cs ≤ length cs
unfolding turned_edges
turned_few [] = omega arith
turned_few (c ∷ cs) = let h = turned_few cs in let g = one_few (is_turned c) in omega arith

pub sane_rank : (cs : List Command) → IsSane (rank cs)
unfolding rank
sane_rank cs = record {
  few_ahead = let h = first_few [] (map part cs) in let g = length-map cs in omega arith;
  few_wrong = pairs_few cs;
  few_turned = turned_few cs;
  none_ahead = λ e. first_none [] (map part cs) e;
}

length_size : (cs : List Command) → (rank cs).size ≡ length cs
unfolding rank
length_size cs = refl

-- what a loop over the uses may take as its measure
pub improvement_falls : (inputs : ℕ) (rule : Rule) (place : ℕ) (cs ds : List Command) →
    Improvement inputs rule place cs ds → uses_left (rank ds) < uses_left (rank cs)
improvement_falls inputs rule place cs ds w =
    uses_fall (rank cs) (rank ds) (sane_rank cs) (sane_rank ds)
    (let h = w.grows in let a = length_size cs in let c = length_size ds in omega arith)
    w.descends
