-- The commands of a graph, as loops append them.
use Rattle.std.proofs.Common.{◌≡◌, ℕ, zero, suc, ◌+◌, ◌-◌, ◌<◌, ◌≤◌, Bool, true, false, cond, map}
use Rattle.std.proofs.Common.{List, [], ◌∷◌, ◌++◌, length, refl, sym, ◌∙◌, ap, append_assoc}
use Rattle.std.proofs.Common.{append-nil, arith, take}
use Rattle.std.specs.Prelude.{nat_lt, filter, flat_map, slice_index}
use Rattle.std.proofs.lemmas.List.{map-append, take_more}
use Rattle.std.proofs.lemmas.List.Elements.{filter-append}
use Rattle.std.proofs.lemmas.List.Concat.{flat_map-append}
use Rattle.mc_model.specs.Bits.{Bits}
use Rattle.mc_model.specs.Numbers.{numbers_from, numbers_where}
use Rattle.mc_model.specs.Pattern.{Command, Prep, Ent}
use Rattle.mc_model.specs.Translation.{preparations}
use Rattle.mc_model.specs.Graph.{Edge, edge, entanglings}
use Rattle.mc_model.proofs.NumberLists.{numbers_below-last}
use Rattle.mc_graph.proofs.ListedNumbers.{where_more}

-- ---- preparations

preparations-last : (q n : ℕ) → preparations q (suc n) ≡ preparations q n ++ (Prep (q + n) ∷ [])
unfolding preparations
preparations-last q zero =
    let e : q ≡ q + 0 = omega arith in ap (λ (k : ℕ). Prep k ∷ []) e
preparations-last q (suc n) =
    let e : suc q + n ≡ q + suc n = omega arith in
    ap (λ (cs : List Command). Prep q ∷ cs) (preparations-last (suc q) n)
    ∙ ap (λ (k : ℕ). (Prep q ∷ preparations (suc q) n) ++ (Prep k ∷ [])) e

pub preparation_more : (inputs v : ℕ) (before cs : List Command) {ds : List Command} →
    inputs ≤ v → cs ≡ before ++ preparations inputs (v - inputs) → ds ≡ cs ++ (Prep v ∷ []) →
    ds ≡ before ++ preparations inputs ((v + 1) - inputs)
preparation_more inputs v before cs {ds} low e f =
    let n : ℕ = v - inputs in
    let more : (v + 1) - inputs ≡ suc n = omega arith in
    let last : inputs + n ≡ v = omega arith in
    f ∙ ap (λ (xs : List Command). xs ++ (Prep v ∷ [])) e
    ∙ append_assoc before (preparations inputs n) (Prep v ∷ [])
    ∙ ap (λ (xs : List Command). before ++ xs) (sym (ap (preparations inputs) more
    ∙ preparations-last inputs n
    ∙ ap (λ (k : ℕ). preparations inputs n ++ (Prep k ∷ [])) last))

-- none before the first
pub preparations_none : (inputs v : ℕ) (before : List Command) → v ≡ inputs →
    before ≡ before ++ preparations inputs (v - inputs)
unfolding preparations
preparations_none inputs v before e =
    let none : v - inputs ≡ 0 = omega arith in
    sym (ap (λ (n : ℕ). before ++ preparations inputs n) none ∙ append-nil before)

-- ---- edges

one_up : (v w : ℕ) (told : Bool) → told ≡ nat_lt v w →
    entanglings (map (edge v) (filter (nat_lt v) (w ∷ []))) ≡ cond told (Ent v w ∷ []) []
one_up v w told e = shown (nat_lt v w) told e
  where
    shown : (b told : Bool) → told ≡ b →
        entanglings (map (edge v) (cond b (w ∷ []) [])) ≡ cond told (Ent v w ∷ []) []
    shown true true e = refl
    shown false false e = refl
    shown true false e = ap (λ (b : Bool). cond b (Ent v w ∷ []) []) (sym e)
    shown false true e = ap (λ (b : Bool). cond b (Ent v w ∷ []) []) (sym e)

abbrev pub ups : ℕ → List ℕ → List Command
ups v ws = entanglings (map (edge v) (filter (nat_lt v) ws))

pub up_more : (v i : ℕ) (told : Bool) (ws : List ℕ) (before cs : List Command)
    {ds : List Command} → i < length ws → told ≡ nat_lt v (slice_index ws i) →
    cs ≡ before ++ ups v (take i ws) → ds ≡ cs ++ cond told (Ent v (slice_index ws i) ∷ []) [] →
    ds ≡ before ++ ups v (take (i + 1) ws)
up_more v i told ws before cs {ds} l e f g =
    let w : ℕ = slice_index ws i in
    let old : List ℕ = take i ws in
    let more : take (i + 1) ws ≡ old ++ (w ∷ []) = take_more ws i 0 l in
    let here : ups v (take (i + 1) ws) ≡ ups v old ++ cond told (Ent v w ∷ []) [] =
    ap (ups v) more
    ∙ ap (λ (xs : List ℕ). entanglings (map (edge v) xs)) (filter-append (nat_lt v) old (w ∷ []))
    ∙ ap (λ (es : List Edge). entanglings es)
    (map-append (edge v) (filter (nat_lt v) old) (filter (nat_lt v) (w ∷ [])))
    ∙ map-append (λ e. Ent e.one e.other) (map (edge v) (filter (nat_lt v) old))
    (map (edge v) (filter (nat_lt v) (w ∷ [])))
    ∙ ap (λ (xs : List Command). ups v old ++ xs) (one_up v w told e) in
    g ∙ ap (λ (xs : List Command). xs ++ cond told (Ent v w ∷ []) []) f
    ∙ append_assoc before (ups v old) (cond told (Ent v w ∷ []) [])
    ∙ ap (λ (xs : List Command). before ++ xs) (sym here)

-- ---- lists that are made number by number

flat_more : (f : ℕ → List Command) (v : ℕ) →
    flat_map f (numbers_from 0 (v + 1)) ≡ flat_map f (numbers_from 0 v) ++ f v
flat_more f v =
    let more : v + 1 ≡ suc v = omega arith in
    ap (λ (n : ℕ). flat_map f (numbers_from 0 n)) more
    ∙ ap (flat_map f) (numbers_below-last v)
    ∙ flat_map-append f (numbers_from 0 v) (v ∷ [])
    ∙ ap (λ (xs : List Command). flat_map f (numbers_from 0 v) ++ xs) (append-nil (f v))

pub each_more : (f : ℕ → List Command) (v : ℕ) (before cs : List Command) {ds : List Command} →
    cs ≡ before ++ flat_map f (numbers_from 0 v) → ds ≡ cs ++ f v →
    ds ≡ before ++ flat_map f (numbers_from 0 (v + 1))
each_more f v before cs {ds} e g =
    g ∙ ap (λ (xs : List Command). xs ++ f v) e
    ∙ append_assoc before (flat_map f (numbers_from 0 v)) (f v)
    ∙ ap (λ (xs : List Command). before ++ xs) (sym (flat_more f v))

map_told : (f : ℕ → Command) (v : ℕ) (told : Bool) →
    map f (cond told (v ∷ []) []) ≡ cond told (f v ∷ []) []
map_told f v true = refl
map_told f v false = refl

-- of the numbers that pass a test
pub told_more : (f : ℕ → Command) (p : Bits) (v : ℕ) (told : Bool) (before cs : List Command)
    {ds : List Command} → told ≡ p v → cs ≡ before ++ map f (numbers_where p v) →
    ds ≡ cs ++ cond told (f v ∷ []) [] → ds ≡ before ++ map f (numbers_where p (v + 1))
told_more f p v told before cs {ds} e g h =
    let one : List Command = cond told (f v ∷ []) [] in
    h ∙ ap (λ (xs : List Command). xs ++ one) g
    ∙ append_assoc before (map f (numbers_where p v)) one
    ∙ ap (λ (xs : List Command). before ++ xs) (sym (ap (map f) (where_more p v)
    ∙ map-append f (numbers_where p v) (cond (p v) (v ∷ []) [])
    ∙ ap (λ (xs : List Command). map f (numbers_where p v) ++ xs)
    (map_told f v (p v) ∙ ap (λ (b : Bool). cond b (f v ∷ []) []) (sym e))))
