-- The standard form of commands with sets and with angles below a turn has the like.
use Rattle.std.proofs.Common.{ℕ, zero, suc, ◌+◌, Bool, true, false, cond, ◌&&◌, List, [], ◌∷◌, ◌++◌}
use Rattle.std.specs.Prelude.{nat_eq, nat_lt}
use Rattle.mc_model.specs.Numbers.{pairs_at, pairs_below}
use Rattle.mc_model.specs.Signals.{Signal, Signals, no_signal, signal_sum, is_empty}
use Rattle.mc_model.specs.Pattern.{Command, Pattern, Prep, Ent, Meas, FixX, FixZ}
use Rattle.mc_model.specs.Valid.{prepared, measured}
use Rattle.mc_model.specs.StandardForm.{where_same, sum_over_places, x_part, x_sum, first_part}
use Rattle.mc_model.specs.StandardForm.{second_part, first_sum, second_sum, preparations_of}
use Rattle.mc_model.specs.StandardForm.{is_edge, measurements_with, fix_x, fix_z, corrections_below}
use Rattle.mc_model.specs.StandardForm.{standard_commands, standard_form}
use Rattle.mc_model.proofs.SignalLemmas.{toggled_all_rising}
use Rattle.mc_pattern.specs.Typed.{IsSet, IsTyped, AllTyped}

pub no_set : IsSet no_signal
no_set = tt

pub sum_set : (s t : Signal) → IsSet s → IsSet t → IsSet (signal_sum s t)
sum_set s t ps pt = toggled_all_rising s.members t.members pt

where_set : (q r : ℕ) (s : Signal) → IsSet s → IsSet (where_same q r s)
where_set q r s p = chosen (nat_eq q r)
  where
    chosen : (b : Bool) → IsSet (cond b s no_signal)
    chosen true = p
    chosen false = no_set

pub typed_append : (half : ℕ) (cs ds : List Command) → AllTyped half cs → AllTyped half ds →
    AllTyped half (cs ++ ds)
typed_append half [] ds h g = g
typed_append half (c ∷ cs) ds h g = (h.0, typed_append half cs ds h.1 g)

-- a sum over places whose parts are sets
abbrev SetPart : ℕ → (List Command → Command → Signal) → Type 0
SetPart half part = (before : List Command) (c : Command) → AllTyped half before →
    IsTyped half c → IsSet (part before c)

places_set : (half : ℕ) (part : List Command → Command → Signal) → SetPart half part →
    (before cs : List Command) → AllTyped half before → AllTyped half cs →
    IsSet (sum_over_places part before cs)
unfolding sum_over_places
places_set half part sets before [] b t = no_set
places_set half part sets before (c ∷ cs) b t =
    sum_set (part before c) (sum_over_places part (before ++ (c ∷ [])) cs) (sets before c b t.0)
    (places_set half part sets (before ++ (c ∷ [])) cs
    (typed_append half before (c ∷ []) b (t.0, tt)) t.1)

x_part_set : (half q : ℕ) → SetPart half (x_part q)
unfolding x_part
x_part_set half q before (Prep r) b t = no_set
x_part_set half q before (Ent r u) b t = no_set
x_part_set half q before (Meas r a s u) b t = no_set
x_part_set half q before (FixX r s) b t = where_set q r s t
x_part_set half q before (FixZ r s) b t = no_set

x_set : (half q : ℕ) (cs : List Command) → AllTyped half cs → IsSet (x_sum q cs)
unfolding x_sum
x_set half q cs t = places_set half (x_part q) (x_part_set half q) [] cs tt t

first_part_set : (half q : ℕ) → SetPart half (first_part q)
unfolding first_part
first_part_set half q before (Prep r) b t = no_set
first_part_set half q before (Ent r u) b t = no_set
first_part_set half q before (Meas r a s u) b t = where_set q r s t.1
first_part_set half q before (FixX r s) b t = where_set q r s t
first_part_set half q before (FixZ r s) b t = no_set

second_part_set : (half q : ℕ) → SetPart half (second_part q)
unfolding second_part
second_part_set half q before (Prep r) b t = no_set
second_part_set half q before (Ent r u) b t =
    sum_set (where_same q r (x_sum u before)) (where_same q u (x_sum r before))
    (where_set q r (x_sum u before) (x_set half u before b))
    (where_set q u (x_sum r before) (x_set half r before b))
second_part_set half q before (Meas r a s u) b t = where_set q r u t.2
second_part_set half q before (FixX r s) b t = no_set
second_part_set half q before (FixZ r s) b t = where_set q r s t

first_set : (half : ℕ) (cs : List Command) → AllTyped half cs → (q : ℕ) →
    IsSet (first_sum cs q)
unfolding first_sum
first_set half cs t q = places_set half (first_part q) (first_part_set half q) [] cs tt t

second_set : (half : ℕ) (cs : List Command) → AllTyped half cs → (q : ℕ) →
    IsSet (second_sum cs q)
unfolding second_sum
second_set half cs t q = places_set half (second_part q) (second_part_set half q) [] cs tt t

-- the four parts
typed_preps : (half : ℕ) (cs : List Command) → AllTyped half (preparations_of cs)
unfolding preparations_of
typed_preps half [] = tt
typed_preps half (Prep q ∷ cs) = (tt, typed_preps half cs)
typed_preps half (Ent q r ∷ cs) = typed_preps half cs
typed_preps half (Meas q a s t ∷ cs) = typed_preps half cs
typed_preps half (FixX q s ∷ cs) = typed_preps half cs
typed_preps half (FixZ q s ∷ cs) = typed_preps half cs

typed_pair : (half : ℕ) (b : Bool) (i j : ℕ) → AllTyped half (cond b (Ent i j ∷ []) [])
typed_pair half true i j = (tt, tt)
typed_pair half false i j = tt

typed_pairs_at : (half : ℕ) (p : ℕ → ℕ → Bool) (i n : ℕ) → AllTyped half (pairs_at Ent p i n)
unfolding pairs_at
typed_pairs_at half p i zero = tt
typed_pairs_at half p i (suc j) =
    typed_append half (pairs_at Ent p i j) (cond (nat_lt i j && p i j) (Ent i j ∷ []) [])
    (typed_pairs_at half p i j) (typed_pair half (nat_lt i j && p i j) i j)

typed_pairs : (half : ℕ) (p : ℕ → ℕ → Bool) (n m : ℕ) → AllTyped half (pairs_below Ent p n m)
unfolding pairs_below
typed_pairs half p n zero = tt
typed_pairs half p n (suc m) =
    typed_append half (pairs_below Ent p n m) (pairs_at Ent p m n) (typed_pairs half p n m)
    (typed_pairs_at half p m n)

-- a set for each qubit
abbrev AllSets : Signals → Type 0
AllSets ss = (q : ℕ) → IsSet (ss q)

typed_measures : (half : ℕ) (ss ts : Signals) (cs : List Command) → AllSets ss → AllSets ts →
    AllTyped half cs → AllTyped half (measurements_with ss ts cs)
unfolding measurements_with
typed_measures half ss ts [] s t h = tt
typed_measures half ss ts (Prep q ∷ cs) s t h = typed_measures half ss ts cs s t h.1
typed_measures half ss ts (Ent q r ∷ cs) s t h = typed_measures half ss ts cs s t h.1
typed_measures half ss ts (Meas q a u w ∷ cs) s t h =
    ((h.0.0, s q, t q), typed_measures half ss ts cs s t h.1)
typed_measures half ss ts (FixX q u ∷ cs) s t h = typed_measures half ss ts cs s t h.1
typed_measures half ss ts (FixZ q u ∷ cs) s t h = typed_measures half ss ts cs s t h.1

typed_fix : (half : ℕ) (gone x z : Bool) (q : ℕ) (s t : Signal) → IsSet s → IsSet t →
    AllTyped half (cond gone [] (cond x [] (FixX q s ∷ []) ++ cond z [] (FixZ q t ∷ [])))
typed_fix half true x z q s t ps pt = tt
typed_fix half false true true q s t ps pt = tt
typed_fix half false true false q s t ps pt = (pt, tt)
typed_fix half false false true q s t ps pt = (ps, tt)
typed_fix half false false false q s t ps pt = (ps, (pt, tt))

typed_fixes : (half : ℕ) (gone : ℕ → Bool) (ss ts : Signals) (n : ℕ) → AllSets ss → AllSets ts →
    AllTyped half (corrections_below gone ss ts n)
unfolding corrections_below
typed_fixes half gone ss ts zero s t = tt
typed_fixes half gone ss ts (suc q) s t =
    typed_append half (corrections_below gone ss ts q)
    (cond (gone q) [] (fix_x q (ss q) ++ fix_z q (ts q)))
    (typed_fixes half gone ss ts q s t)
    (typed_fix half (gone q) (is_empty (ss q)) (is_empty (ts q)) q (ss q) (ts q) (s q) (t q))

pub typed_standard : (half : ℕ) (p : Pattern) → AllTyped half p.commands →
    AllTyped half (standard_form p).commands
unfolding standard_form standard_commands
typed_standard half p typed =
    let cs : List Command = p.commands in
    let n : ℕ = p.inputs + prepared cs in
    let ss : Signals = first_sum cs in
    let ts : Signals = second_sum cs in
    let es : List Command = pairs_below Ent (is_edge cs) n n in
    let ms : List Command = measurements_with ss ts cs in
    let fs : List Command = corrections_below (measured cs) ss ts n in
    let s = first_set half cs typed in
    let t = second_set half cs typed in
    typed_append half (preparations_of cs) (es ++ (ms ++ fs)) (typed_preps half cs)
    (typed_append half es (ms ++ fs) (typed_pairs half (is_edge cs) n n)
    (typed_append half ms fs (typed_measures half ss ts cs s t typed)
    (typed_fixes half (measured cs) ss ts n s t)))
