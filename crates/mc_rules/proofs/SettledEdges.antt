-- In a settled list the entanglings are the edges of the standard form.
use Rattle.std.proofs.Common.{◌≡◌, ℕ, zero, suc, ◌<◌, Bool, true, false, cond, ◌&&◌, ◌||◌, ◌⊎◌}
use Rattle.std.proofs.Common.{List, [], ◌∷◌, ◌++◌, refl, sym, ◌∙◌, ap, ap₂, arith}
use Rattle.std.specs.Prelude.{nat_eq, nat_lt, ⊤}
use Rattle.std.proofs.lemmas.Bool.{cases_eq, cases_lt, cases_Bool, lt-ltb, le-ltb, ltb-true}
use Rattle.std.proofs.lemmas.Bool.{eqb-true, eq-eqb, ne_eqb, and_parts, false≢true, true≢false}
use mathlib.Core.Logic.{inl, inr}
use mathlib.Core.Path.{subst₂}
use Rattle.mc_model.specs.Bits.{◌⊻◌, same_pair}
use Rattle.mc_model.specs.Pattern.{Command, Prep, Ent, Meas, FixX, FixZ}
use Rattle.mc_model.specs.StandardForm.{is_edge}
use Rattle.mc_model.specs.Numbers.{pairs_at, pairs_below}
use Rattle.mc_model.proofs.ValidInPlace.{InPlace}

-- the entanglings whose operands pass the test
unfoldable pub edges_where : (ℕ → ℕ → Bool) → List Command → List Command
edges_where p [] = []
edges_where p (Prep q ∷ cs) = edges_where p cs
edges_where p (Ent i j ∷ cs) = cond (p i j) (Ent i j ∷ edges_where p cs) (edges_where p cs)
edges_where p (Meas q a s t ∷ cs) = edges_where p cs
edges_where p (FixX q s ∷ cs) = edges_where p cs
edges_where p (FixZ q s ∷ cs) = edges_where p cs

abbrev pub IsAfter : ℕ → ℕ → ℕ → ℕ → Type 0
IsAfter a b i j = (i < a) ⊎ ((i ≡ a) × (j < b))

-- each entangling of the list is behind the pair
abbrev pub AllAfter : ℕ → ℕ → List Command → Type 0
AllAfter i j [] = ⊤
AllAfter i j (Prep q ∷ cs) = AllAfter i j cs
AllAfter i j (Ent q r ∷ cs) = IsAfter q r i j × AllAfter i j cs
AllAfter i j (Meas q a s t ∷ cs) = AllAfter i j cs
AllAfter i j (FixX q s ∷ cs) = AllAfter i j cs
AllAfter i j (FixZ q s ∷ cs) = AllAfter i j cs

-- the entanglings rise, the lower number first
abbrev pub EdgesRise : List Command → Type 0
EdgesRise [] = ⊤
EdgesRise (Prep q ∷ cs) = EdgesRise cs
EdgesRise (Ent i j ∷ cs) = (i < j) × AllAfter i j cs × EdgesRise cs
EdgesRise (Meas q a s t ∷ cs) = EdgesRise cs
EdgesRise (FixX q s ∷ cs) = EdgesRise cs
EdgesRise (FixZ q s ∷ cs) = EdgesRise cs

none_where : (p : ℕ → ℕ → Bool) (i j : ℕ) (cs : List Command) → AllAfter i j cs →
    ((a b : ℕ) → IsAfter a b i j → p a b ≡ false) → edges_where p cs ≡ []
unfolding edges_where
none_where p i j [] all h = refl
none_where p i j (Prep q ∷ cs) all h = none_where p i j cs all h
none_where p i j (Ent q r ∷ cs) all h = rw (h q r all.0) (none_where p i j cs all.1 h)
none_where p i j (Meas q a s t ∷ cs) all h = none_where p i j cs all h
none_where p i j (FixX q s ∷ cs) all h = none_where p i j cs all h
none_where p i j (FixZ q s ∷ cs) all h = none_where p i j cs all h

-- a test that is the sum of two, where nothing behind a pair of the second passes the first
record Splits (p q r : ℕ → ℕ → Bool) : Type 0 where
  of_first : (a b : ℕ) → p a b ≡ true → (r a b ≡ true) × (q a b ≡ false)
  of_second : (a b : ℕ) → q a b ≡ true → r a b ≡ true
  of_none : (a b : ℕ) → p a b ≡ false → q a b ≡ false → r a b ≡ false
  ordered : (i j a b : ℕ) → q i j ≡ true → IsAfter a b i j → p a b ≡ false

split_head : (p q r : ℕ → ℕ → Bool) (i j : ℕ) (cs : List Command) → Splits p q r → AllAfter i j cs →
    edges_where r cs ≡ edges_where p cs ++ edges_where q cs →
    cond (r i j) (Ent i j ∷ edges_where r cs) (edges_where r cs)
    ≡ cond (p i j) (Ent i j ∷ edges_where p cs) (edges_where p cs) ++ cond (q i j)
    (Ent i j ∷ edges_where q cs) (edges_where q cs)
split_head p q r i j cs s all rest = elim (cases_Bool (p i j)) [
  | inl e ↦ rw (e, (s.of_first i j e).0, (s.of_first i j e).1)
      (ap (λ (xs : List Command). Ent i j ∷ xs) rest)
  | inr e ↦ elim (cases_Bool (q i j)) [
    | inl f ↦
        let none : edges_where p cs ≡ [] =
        none_where p i j cs all (λ a b after. s.ordered i j a b f after) in
        rw (e, f, s.of_second i j f)
        (ap (λ (xs : List Command). Ent i j ∷ xs)
        (rest ∙ ap (λ (xs : List Command). xs ++ edges_where q cs) none)
        ∙ sym (ap (λ (xs : List Command). xs ++ (Ent i j ∷ edges_where q cs)) none))
    | inr f ↦ rw (e, f, s.of_none i j e f) rest
  ]
]

split_where : (p q r : ℕ → ℕ → Bool) (cs : List Command) → Splits p q r → EdgesRise cs →
    edges_where r cs ≡ edges_where p cs ++ edges_where q cs
unfolding edges_where
split_where p q r [] s rise = refl
split_where p q r (Prep k ∷ cs) s rise = split_where p q r cs s rise
split_where p q r (Ent i j ∷ cs) s rise =
    split_head p q r i j cs s rise.1 (split_where p q r cs s rise.2)
split_where p q r (Meas k a u v ∷ cs) s rise = split_where p q r cs s rise
split_where p q r (FixX k u ∷ cs) s rise = split_where p q r cs s rise
split_where p q r (FixZ k u ∷ cs) s rise = split_where p q r cs s rise

same_where : (n : ℕ) (p q : ℕ → ℕ → Bool) (cs : List Command) → InPlace n cs →
    ((a b : ℕ) → a < n → b < n → p a b ≡ q a b) → edges_where p cs ≡ edges_where q cs
unfolding edges_where
same_where n p q [] w h = refl
same_where n p q (Prep k ∷ cs) w h = same_where n p q cs w.2 h
same_where n p q (Ent i j ∷ cs) w h = rw (h i j w.0.0 w.0.1, same_where n p q cs w.2 h)
same_where n p q (Meas k a u v ∷ cs) w h = same_where n p q cs w.2 h
same_where n p q (FixX k u ∷ cs) w h = same_where n p q cs w.2 h
same_where n p q (FixZ k u ∷ cs) w h = same_where n p q cs w.2 h

less : ℕ → ℕ → ℕ → Bool
less m a b = nat_lt a m

equal : ℕ → ℕ → ℕ → Bool
equal m a b = nat_eq a m

in_row : ℕ → ℕ → ℕ → ℕ → Bool
in_row m k a b = nat_eq a m && nat_lt b k

in_cell : ℕ → ℕ → ℕ → ℕ → Bool
in_cell m k a b = nat_eq a m && nat_eq b k

lt_next : (a m : ℕ) → nat_lt a m ≡ false → nat_eq a m ≡ false → nat_lt a (suc m) ≡ false
lt_next a m h k = elim (cases_lt a (suc m)) [
  | inl l ↦ elim (cases_lt a m) [
    | inl g ↦ absurd (false≢true (sym h ∙ lt-ltb a m g))
    | inr g ↦ absurd (false≢true (sym k ∙ eq-eqb a m (omega arith)))
  ]
  | inr g ↦ le-ltb a (suc m) g
]

rows_split : (m : ℕ) → Splits (less m) (equal m) (less (suc m))
unfolding less equal
rows_split m = record {
  of_first = λ a b e.
      (let lt = ltb-true a m e in
      (lt-ltb a (suc m) (omega arith), ne_eqb a m (λ f. absurd (omega arith))));
  of_second = λ a b e. (let f = eqb-true a m e in lt-ltb a (suc m) (omega arith));
  of_none = λ a b e f. lt_next a m e f;
  ordered = λ i j a b e after.
      (let f = eqb-true i m e in
      le-ltb a m (elim after [ inl l ↦ omega arith | inr both ↦ (let g = both.0 in omega arith) ]));
}

cells_split : (m k : ℕ) → Splits (in_row m k) (in_cell m k) (in_row m (suc k))
unfolding in_row in_cell
cells_split m k = record {
  of_first = λ a b e. (
      let parts = and_parts (nat_eq a m) (nat_lt b k) e in
      let lt = ltb-true b k parts.1 in (
        ap₂ (λ (x y : Bool). x && y) parts.0 (lt-ltb b (suc k) (omega arith)),
        ap₂ (λ (x y : Bool). x && y) parts.0 (ne_eqb b k (λ f. absurd (omega arith))),
      ));
  of_second = λ a b e. (
      let parts = and_parts (nat_eq a m) (nat_eq b k) e in
      let f = eqb-true b k parts.1 in
      ap₂ (λ (x y : Bool). x && y) parts.0 (lt-ltb b (suc k) (omega arith)));
  of_none = λ a b e f. either (nat_eq a m) (nat_lt b k) (nat_eq b k) (nat_lt b (suc k)) e f
      (lt_next b k);
  ordered = λ i j a b e after. (
      let parts = and_parts (nat_eq i m) (nat_eq j k) e in
      let f = eqb-true i m parts.0 in
      let g = eqb-true j k parts.1 in
      elim after [
        | inl l ↦ ap (λ (x : Bool). x && nat_lt b k) (ne_eqb a m (λ h. absurd (omega arith)))
        | inr both ↦ (let u = both.1 in later (nat_eq a m) (nat_lt b k) (le-ltb b k (omega arith)))
      ]);
}
  where
    later : (x y : Bool) → y ≡ false → (x && y) ≡ false
    later true y e = e
    later false y e = refl

    either : (x y z w : Bool) → (x && y) ≡ false → (x && z) ≡ false →
        (y ≡ false → z ≡ false → w ≡ false) → (x && w) ≡ false
    either true y z w e f h = h e f
    either false y z w e f h = refl

and_none : (x : Bool) → (x && false) || false ≡ false
and_none true = refl
and_none false = refl

other : (i j q r : ℕ) → i < j → q < r → IsAfter q r i j → same_pair i j q r ≡ false
other i j q r h k (inl l) =
    let a : i ≡ q → ⊥ = λ e. absurd (omega arith) in
    let b : i ≡ r → ⊥ = λ e. absurd (omega arith) in rw (ne_eqb i q a, ne_eqb i r b)
other i j q r h k (inr (e, l)) =
    let a : j ≡ r → ⊥ = λ f. absurd (omega arith) in
    let b : i ≡ r → ⊥ = λ f. absurd (omega arith) in
    rw (ne_eqb j r a, ne_eqb i r b) (and_none (nat_eq i q))

none_joined : (i j : ℕ) (cs : List Command) → EdgesRise cs → AllAfter i j cs → i < j →
    is_edge cs i j ≡ false
unfolding is_edge
none_joined i j [] rise all h = refl
none_joined i j (Prep q ∷ cs) rise all h = none_joined i j cs rise all h
none_joined i j (Ent q r ∷ cs) rise all h =
    ap₂ (λ (a b : Bool). a ⊻ b) (other i j q r h rise.0 all.0) (none_joined i j cs rise.2 all.1 h)
none_joined i j (Meas q a s t ∷ cs) rise all h = none_joined i j cs rise all h
none_joined i j (FixX q s ∷ cs) rise all h = none_joined i j cs rise all h
none_joined i j (FixZ q s ∷ cs) rise all h = none_joined i j cs rise all h

same_here : (i j : ℕ) → same_pair i j i j ≡ true
same_here i j = rw (eq-eqb i i refl, eq-eqb j j refl)

-- the entanglings of one pair
cell_hit : (i j : ℕ) (cs : List Command) → i < j → AllAfter i j cs → EdgesRise cs →
    Ent i j ∷ edges_where (in_cell i j) cs
    ≡ cond (nat_lt i j && (same_pair i j i j ⊻ is_edge cs i j)) (Ent i j ∷ []) []
unfolding in_cell
cell_hit i j cs h all rise =
    let none : edges_where (in_cell i j) cs ≡ [] =
    none_where (in_cell i j) i j cs all (λ a b after. elim after [
      | inl l ↦ ap (λ (x : Bool). x && nat_eq b j) (ne_eqb a i (λ e. absurd (omega arith)))
      | inr both ↦ (let u = both.1 in
          last (nat_eq a i) (nat_eq b j) (ne_eqb b j (λ e. absurd (omega arith))))
    ]) in
    ap (λ (xs : List Command). Ent i j ∷ xs) none
    ∙ sym (ap₂ (λ (a b : Bool). cond (a && b) (Ent i j ∷ []) []) (lt-ltb i j h)
    (ap₂ (λ (a b : Bool). a ⊻ b) (same_here i j) (none_joined i j cs rise all h)))
  where
    last : (x y : Bool) → y ≡ false → (x && y) ≡ false
    last true y e = e
    last false y e = refl

cell_miss : (i j q r : ℕ) → q < r → in_cell i j q r ≡ false → (e : Bool) →
    (nat_lt i j && e) ≡ (nat_lt i j && (same_pair i j q r ⊻ e))
unfolding in_cell
cell_miss i j q r h m e = elim (cases_lt i j) [
  | inr g ↦ rw (le-ltb i j g)
  | inl l ↦
      let turned : (nat_eq i r && nat_eq j q) ≡ false = elim (cases_eq i r) [
        | inl f ↦ (let ne : j ≡ q →
            ⊥ = λ g. absurd (omega arith) in rw (eq-eqb i r f, ne_eqb j q ne))
        | inr ne ↦ rw (ne_eqb i r ne)
      ] in
      let straight : (nat_eq i q && nat_eq j r) ≡ false = elim (cases_eq i q) [
        | inl f ↦ elim (cases_eq j r) [
          | inl g ↦ absurd
              (true≢false (sym
              (ap₂ (λ (x y : Bool). x && y) (eq-eqb q i (sym f)) (eq-eqb r j (sym g))) ∙ m))
          | inr ne ↦ rw (eq-eqb i q f, ne_eqb j r ne)
        ]
        | inr ne ↦ rw (ne_eqb i q ne)
      ] in ap₂ (λ (x y : Bool). nat_lt i j && ((x || y) ⊻ e)) (sym straight) (sym turned)
]

cell_equal : (i j q r : ℕ) (cs : List Command) → q < r → AllAfter q r cs → EdgesRise cs → q ≡ i →
    r ≡ j →
    Ent q r ∷ edges_where (in_cell i j) cs
    ≡ cond (nat_lt i j && (same_pair i j q r ⊻ is_edge cs i j)) (Ent i j ∷ []) []
cell_equal i j q r cs h all rise e f =
    subst₂ (λ (a b : ℕ). Ent q r ∷ edges_where (in_cell a b) cs
    ≡ cond (nat_lt a b && (same_pair a b q r ⊻ is_edge cs a b)) (Ent a b ∷ []) []) e f
    (cell_hit q r cs h all rise)

cell_head : (i j q r : ℕ) (cs : List Command) → q < r → AllAfter q r cs → EdgesRise cs →
    edges_where (in_cell i j) cs ≡ cond (nat_lt i j && is_edge cs i j) (Ent i j ∷ []) [] →
    cond (in_cell i j q r) (Ent q r ∷ edges_where (in_cell i j) cs) (edges_where (in_cell i j) cs)
    ≡ cond (nat_lt i j && (same_pair i j q r ⊻ is_edge cs i j)) (Ent i j ∷ []) []
unfolding in_cell
cell_head i j q r cs h all rise rest = elim (cases_Bool (nat_eq q i && nat_eq r j)) [
  | inl e ↦
      let parts = and_parts (nat_eq q i) (nat_eq r j) e in
      rw e (cell_equal i j q r cs h all rise (eqb-true q i parts.0) (eqb-true r j parts.1))
  | inr e ↦ rw e (rest
      ∙ ap (λ (b : Bool). cond b (Ent i j ∷ []) []) (cell_miss i j q r h e (is_edge cs i j)))
]

cell_where : (i j : ℕ) (cs : List Command) → EdgesRise cs →
    edges_where (in_cell i j) cs ≡ cond (nat_lt i j && is_edge cs i j) (Ent i j ∷ []) []
unfolding edges_where is_edge
cell_where i j [] rise = none (nat_lt i j)
  where
    none : (b : Bool) → [] ≡ cond (b && false) (Ent i j ∷ []) []
    none true = refl
    none false = refl
cell_where i j (Prep q ∷ cs) rise = cell_where i j cs rise
cell_where i j (Ent q r ∷ cs) rise =
    cell_head i j q r cs rise.0 rise.1 rise.2 (cell_where i j cs rise.2)
cell_where i j (Meas q a s t ∷ cs) rise = cell_where i j cs rise
cell_where i j (FixX q s ∷ cs) rise = cell_where i j cs rise
cell_where i j (FixZ q s ∷ cs) rise = cell_where i j cs rise

nothing_where : (p : ℕ → ℕ → Bool) (cs : List Command) → ((a b : ℕ) → p a b ≡ false) →
    edges_where p cs ≡ []
unfolding edges_where
nothing_where p [] h = refl
nothing_where p (Prep q ∷ cs) h = nothing_where p cs h
nothing_where p (Ent q r ∷ cs) h = rw (h q r) (nothing_where p cs h)
nothing_where p (Meas q a s t ∷ cs) h = nothing_where p cs h
nothing_where p (FixX q s ∷ cs) h = nothing_where p cs h
nothing_where p (FixZ q s ∷ cs) h = nothing_where p cs h

row_where : (m k : ℕ) (cs : List Command) → EdgesRise cs →
    edges_where (in_row m k) cs ≡ pairs_at Ent (is_edge cs) m k
unfolding pairs_at in_row
row_where m zero cs rise =
    nothing_where (in_row m zero) cs
    (λ a b. no_row (nat_eq a m) (nat_lt b 0) (le-ltb b 0 (omega arith)))
  where
    no_row : (x y : Bool) → y ≡ false → (x && y) ≡ false
    no_row true y e = e
    no_row false y e = refl
row_where m (suc k) cs rise =
    split_where (in_row m k) (in_cell m k) (in_row m (suc k)) cs (cells_split m k) rise
    ∙ ap₂ (λ (xs ys : List Command). xs ++ ys) (row_where m k cs rise) (cell_where m k cs rise)

all_rows : (n m : ℕ) (cs : List Command) → InPlace n cs → EdgesRise cs →
    edges_where (less m) cs ≡ pairs_below Ent (is_edge cs) n m
unfolding pairs_below less equal in_row
all_rows n zero cs w rise = nothing_where (less zero) cs (λ a b. le-ltb a 0 (omega arith))
all_rows n (suc m) cs w rise =
    split_where (less m) (equal m) (less (suc m)) cs (rows_split m) rise
    ∙ ap₂ (λ (xs ys : List Command). xs ++ ys) (all_rows n m cs w rise)
    (same_where n (equal m) (in_row m n) cs w
    (λ a b ha hb. with_bound (nat_eq a m) (nat_lt b n) (lt-ltb b n hb)) ∙ row_where m n cs rise)
  where
    with_bound : (x y : Bool) → y ≡ true → x ≡ (x && y)
    with_bound true y e = sym e
    with_bound false y e = refl

-- all entanglings of the list
pub settled_edges : (n : ℕ) (cs : List Command) → InPlace n cs → EdgesRise cs →
    edges_where (λ a b. true) cs ≡ pairs_below Ent (is_edge cs) n n
unfolding less
settled_edges n cs w rise =
    same_where n (λ a b. true) (less n) cs w (λ a b ha hb. sym (lt-ltb a n ha))
    ∙ all_rows n n cs w rise
