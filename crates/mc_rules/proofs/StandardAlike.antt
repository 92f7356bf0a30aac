-- A list and its standard form are alike.
use Rattle.std.proofs.Common.{◌≡◌, ℕ, zero, suc, ◌+◌, ◌<◌, ◌≤◌, Bool, true, false, cond, ◌&&◌}
use Rattle.std.proofs.Common.{◌||◌}
use Rattle.std.proofs.Common.{List, [], ◌∷◌, ◌++◌, refl, sym, ◌∙◌, ap, ap₂, arith}
use Rattle.std.specs.Prelude.{nat_eq, nat_lt}
use Rattle.std.proofs.lemmas.Bool.{eq-eqb, ne_eqb, lt-ltb, le-ltb, cases_Bool, cases_eq, cases_lt}
use Rattle.std.proofs.lemmas.Bool.{cases_order}
use mathlib.Core.Path.{fun_ext}
use mathlib.Core.Logic.{inl, inr}
use Rattle.mc_model.specs.Phase.{PhaseOps, PhaseLaws, turn, sign}
use Rattle.mc_model.specs.Bits.{◌⊻◌, Bits, replaced, parity, same_pair}
use Rattle.mc_model.specs.Signals.{Signal, value, no_signal, Signals}
use Rattle.mc_model.specs.Pattern.{Command, Prep, Ent, Meas, FixX, FixZ}
use Rattle.mc_model.specs.Ring.{ring}
use Rattle.mc_model.proofs.RingLemmas.{ring_laws}
use Rattle.mc_model.proofs.AlikeLemmas.{alike_branches}
use Rattle.mc_rules.specs.Laws.{StandardIsAlike}
use Rattle.mc_model.specs.Amplitude.{Amps, act, after}
use Rattle.mc_model.specs.Alike.{AlikeCommands}
use Rattle.mc_rules.specs.OnePass.{carried, handed, joined}
use Rattle.mc_rules.proofs.Stripped.{stripped}
use Rattle.mc_model.specs.Valid.{prepared, measured, IsValid}
use Rattle.mc_model.specs.StandardForm.{is_edge, fix_x, fix_z, corrections_below, measurements_with}
use Rattle.mc_model.specs.StandardForm.{first_sum, second_sum, standard_commands, standard_form}
use Rattle.mc_model.specs.Numbers.{pairs_at, pairs_below}
use Rattle.mc_model.proofs.PhaseLemmas.{sign-twice}
use Rattle.mc_model.proofs.BitLemmas.{xor_comm, xor_false, xor_middle, replaced_itself}
use Rattle.mc_model.proofs.BitLemmas.{replaced_same, replaced_other}
use Rattle.mc_model.proofs.AmplitudeLemmas.{after-append}
use Rattle.mc_model.proofs.ExchangeLaws.{act_same, act-sign}
use Rattle.mc_model.proofs.ValidInPlace.{AllMiss, InPlace, missed_unmeasured, valid_in_place}
use Rattle.mc_model.proofs.ValidInPlace.{all_beyond}
use Rattle.mc_model.proofs.CorrectionsAct.{fix_x_acts, fix_z_acts, preparations_act}
use Rattle.mc_rules.proofs.CorrectionFrames.{dot, dot_same, frame, values, stripped_alike}
use Rattle.mc_rules.proofs.PlaceSums.{total, first_all_missed, value-first_sum, value-second_sum}
use Rattle.mc_rules.proofs.RunningSums.{operands_fit, measurements_of, measurements_same, carried_x}
use Rattle.mc_rules.proofs.RunningSums.{carried_z, carried_gone, first_rising, second_rising}

-- tests of a number against the next bound
lt_none : (k : ℕ) → nat_lt k 0 ≡ false
lt_none k = le-ltb k 0 (omega arith)

lt_self : (k : ℕ) → nat_lt k k ≡ false
lt_self k = le-ltb k k (omega arith)

lt_next : (k : ℕ) → nat_lt k (suc k) ≡ true
lt_next k = lt-ltb k (suc k) (omega arith)

lt_other : (k m : ℕ) → (k ≡ m → ⊥) → nat_lt k (suc m) ≡ nat_lt k m
lt_other k m ne = elim (cases_lt k m) [
  | inl h ↦ lt-ltb k (suc m) (omega arith) ∙ sym (lt-ltb k m h)
  | inr h ↦
      let more : suc m ≤ k = elim (cases_order k m) [
        | inl e ↦ absurd (ne e)
        | inr side ↦ elim side [ inl l ↦ absurd (omega arith) | inr g ↦ omega arith ]
      ] in le-ltb k (suc m) more ∙ sym (le-ltb k m h)
]

-- the sign of the pairs `i j` with `j` below a bound; of all pairs of the first `m` numbers
row : (ℕ → ℕ → Bool) → Bits → ℕ → ℕ → Bool
row p x i zero = false
row p x i (suc j) = ((nat_lt i j && p i j) && (x i && x j)) ⊻ row p x i j

grid : (ℕ → ℕ → Bool) → Bits → ℕ → ℕ → Bool
grid p x n zero = false
grid p x n (suc m) = row p x m n ⊻ grid p x n m

row_bits : (l p q e a b : Bool) →
    ((l && (p ⊻ q)) && e) ⊻ (a ⊻ b) ≡ (((l && p) && e) ⊻ a) ⊻ (((l && q) && e) ⊻ b)
row_bits l p q e a b = grind arith

row_sum : (p q : ℕ → ℕ → Bool) (x : Bits) (i m : ℕ) →
    row (λ i j. p i j ⊻ q i j) x i m ≡ row p x i m ⊻ row q x i m
unfolding row
row_sum p q x i zero = refl
row_sum p q x i (suc j) =
    ap (λ (b : Bool). ((nat_lt i j && (p i j ⊻ q i j)) && (x i && x j)) ⊻ b) (row_sum p q x i j)
    ∙ row_bits (nat_lt i j) (p i j) (q i j) (x i && x j) (row p x i j) (row q x i j)

grid_sum : (p q : ℕ → ℕ → Bool) (x : Bits) (n m : ℕ) →
    grid (λ i j. p i j ⊻ q i j) x n m ≡ grid p x n m ⊻ grid q x n m
unfolding grid
grid_sum p q x n zero = refl
grid_sum p q x n (suc m) =
    ap₂ (λ (a b : Bool). a ⊻ b) (row_sum p q x m n) (grid_sum p q x n m)
    ∙ xor_middle (row p x m n) (row q x m n) (grid p x n m) (grid q x n m)

none_bits : (l e : Bool) → ((l && false) && e) ≡ false
none_bits l e = grind arith

row_none : (x : Bits) (i m : ℕ) → row (λ i j. false) x i m ≡ false
unfolding row
row_none x i zero = refl
row_none x i (suc j) =
    ap₂ (λ (a b : Bool). a ⊻ b) (none_bits (nat_lt i j) (x i && x j)) (row_none x i j)

grid_none : (x : Bits) (n m : ℕ) → grid (λ i j. false) x n m ≡ false
unfolding grid
grid_none x n zero = refl
grid_none x n (suc m) = ap₂ (λ (a b : Bool). a ⊻ b) (row_none x m n) (grid_none x n m)

-- one pair
pick : (i j lo hi : ℕ) → lo < hi →
    (nat_lt i j && same_pair i j lo hi) ≡ (nat_eq i lo && nat_eq j hi)
pick i j lo hi h = elim (cases_eq i lo) [
  | inl e ↦ elim (cases_eq j hi) [
    | inl f ↦ rw (eq-eqb i lo e, eq-eqb j hi f, lt-ltb i j (omega arith))
    | inr nf ↦
        let ne : i ≡ hi → ⊥ = λ g. absurd (omega arith) in
        rw (eq-eqb i lo e, ne_eqb j hi nf, ne_eqb i hi ne) (and_false (nat_lt i j))
  ]
  | inr ne ↦ elim (cases_lt i j) [
    | inl l ↦
        let not_both : (nat_eq i hi && nat_eq j lo) ≡ false = elim (cases_eq i hi) [
          | inl e ↦ (let nf : j ≡ lo →
              ⊥ = λ g. absurd (omega arith) in rw (eq-eqb i hi e, ne_eqb j lo nf))
          | inr nh ↦ rw (ne_eqb i hi nh)
        ] in rw (ne_eqb i lo ne, not_both) (and_false (nat_lt i j))
    | inr g ↦ rw (le-ltb i j g, ne_eqb i lo ne)
  ]
]
  where
    and_false : (b : Bool) → (b && false) ≡ false
    and_false true = refl
    and_false false = refl

row_one : (x : Bits) (lo hi i m : ℕ) → lo < hi →
    row (λ i j. same_pair i j lo hi) x i m ≡ ((nat_eq i lo && nat_lt hi m) && (x lo && x hi))
unfolding row
row_one x lo hi i zero h =
    sym (ap (λ (b : Bool). (nat_eq i lo && b) && (x lo && x hi)) (lt_none hi)
    ∙ none_bits (nat_eq i lo) (x lo && x hi))
row_one x lo hi i (suc j) h =
    ap₂ (λ (a b : Bool). (a && (x i && x j)) ⊻ b) (pick i j lo hi h) (row_one x lo hi i j h)
    ∙ elim (cases_eq i lo) [
      | inl e ↦ elim (cases_eq j hi) [
        | inl f ↦ rw (e, f, eq-eqb lo lo refl, eq-eqb hi hi refl, lt_self hi, lt_next hi)
            (xor_false (x lo && x hi))
        | inr nf ↦
            let nf2 : hi ≡ j → ⊥ = λ g. nf (sym g) in
            rw (e, eq-eqb lo lo refl, ne_eqb j hi nf, lt_other hi j nf2)
      ]
      | inr ne ↦ rw (ne_eqb i lo ne)
    ]

grid_one : (x : Bits) (lo hi n m : ℕ) → lo < hi →
    grid (λ i j. same_pair i j lo hi) x n m ≡ ((nat_lt lo m && nat_lt hi n) && (x lo && x hi))
unfolding grid
grid_one x lo hi n zero h =
    sym (ap (λ (b : Bool). (b && nat_lt hi n) && (x lo && x hi)) (lt_none lo))
grid_one x lo hi n (suc m) h =
    ap₂ (λ (a b : Bool). a ⊻ b) (row_one x lo hi m n h) (grid_one x lo hi n m h)
    ∙ elim (cases_eq m lo) [
      | inl e ↦ rw (e, eq-eqb lo lo refl, lt_self lo, lt_next lo)
          (xor_false (nat_lt hi n && (x lo && x hi)))
      | inr ne ↦
          let ne2 : lo ≡ m → ⊥ = λ g. ne (sym g) in
          rw (ne_eqb m lo ne, lt_other lo m ne2)
    ]

pair_turned : (i j q r : ℕ) → same_pair i j q r ≡ same_pair i j r q
pair_turned i j q r = turned (nat_eq i q && nat_eq j r) (nat_eq i r && nat_eq j q)
  where
    turned : (a b : Bool) → a || b ≡ b || a
    turned true true = refl
    turned true false = refl
    turned false true = refl
    turned false false = refl

grid_pair : (x : Bits) (q r n : ℕ) → q < n → r < n → (q ≡ r → ⊥) →
    grid (λ i j. same_pair i j q r) x n n ≡ (x q && x r)
grid_pair x q r n hq hr ne = elim (cases_order q r) [
  | inl e ↦ absurd (ne e)
  | inr side ↦ elim side [
    | inl l ↦ grid_one x q r n n l
        ∙ ap₂ (λ (a b : Bool). (a && b) && (x q && x r)) (lt-ltb q n hq) (lt-ltb r n hr)
    | inr g ↦
        ap (λ (p : ℕ → ℕ → Bool). grid p x n n) (fun_ext λ i. fun_ext λ j. pair_turned i j q r)
        ∙ grid_one x r q n n g
        ∙ ap₂ (λ (a b : Bool). (a && b) && (x r && x q)) (lt-ltb r n hr) (lt-ltb q n hq)
        ∙ and_comm (x r) (x q)
  ]
]
  where
    and_comm : (a b : Bool) → (a && b) ≡ (b && a)
    and_comm true true = refl
    and_comm true false = refl
    and_comm false true = refl
    and_comm false false = refl

edge_bit : Bits → Command → Bool
edge_bit x (Prep q) = false
edge_bit x (Ent q r) = x q && x r
edge_bit x (Meas q a s t) = false
edge_bit x (FixX q s) = false
edge_bit x (FixZ q s) = false

-- the edges of a list have the sign of its entanglings
grid_edges : (x : Bits) (n : ℕ) (cs : List Command) → InPlace n cs →
    grid (is_edge cs) x n n ≡ total (edge_bit x) cs
unfolding is_edge total edge_bit
grid_edges x n [] p = grid_none x n n
grid_edges x n (Prep q ∷ cs) p = grid_edges x n cs p.2
grid_edges x n (Ent q r ∷ cs) p =
    grid_sum (λ i j. same_pair i j q r) (is_edge cs) x n n
    ∙ ap₂ (λ (a b : Bool). a ⊻ b) (grid_pair x q r n p.0.0 p.0.1 p.0.2) (grid_edges x n cs p.2)
grid_edges x n (Meas q a s t ∷ cs) p = grid_edges x n cs p.2
grid_edges x n (FixX q s ∷ cs) p = grid_edges x n cs p.2
grid_edges x n (FixZ q s ∷ cs) p = grid_edges x n cs p.2

edges_unread : (x y : Bits) (i : ℕ) (cs : List Command) → AllMiss i cs →
    ((k : ℕ) → (k ≡ i → ⊥) → y k ≡ x k) → total (edge_bit y) cs ≡ total (edge_bit x) cs
unfolding total edge_bit
edges_unread x y i [] m h = refl
edges_unread x y i (Prep q ∷ cs) m h = edges_unread x y i cs m.1 h
edges_unread x y i (Ent q r ∷ cs) m h =
    ap₂ (λ (a b : Bool). a ⊻ b)
    (ap₂ (λ (a b : Bool). a && b) (h q (λ e. m.0.0 (sym e))) (h r (λ e. m.0.1 (sym e))))
    (edges_unread x y i cs m.1 h)
edges_unread x y i (Meas q a s t ∷ cs) m h = edges_unread x y i cs m.1 h
edges_unread x y i (FixX q s ∷ cs) m h = edges_unread x y i cs m.1 h
edges_unread x y i (FixZ q s ∷ cs) m h = edges_unread x y i cs m.1 h

-- the value of a signal that is left out
left_out : Bool → Signal → Bits → Bool
left_out gone s o = cond gone false (value s o)

module _ {E : Type 0} (ops : PhaseOps E) (laws : PhaseLaws ops) (o : Bits) where
  -- entanglings act as a sign
  one_edge : (b : Bool) (i j : ℕ) (f : Amps E) (x : Bits) →
      after ops o (cond b (Ent i j ∷ []) []) f x ≡ sign ops (b && (x i && x j)) (f x)
  unfolding after act
  one_edge true i j f x = refl
  one_edge false i j f x = refl

  row_acts : (p : ℕ → ℕ → Bool) (i m : ℕ) (f : Amps E) (x : Bits) →
      after ops o (pairs_at Ent p i m) f x ≡ sign ops (row p x i m) (f x)
  unfolding after pairs_at row
  row_acts p i zero f x = refl
  row_acts p i (suc j) f x =
      ap (λ (g : Amps E). g x)
      (after-append ops laws o (pairs_at Ent p i j)
      (cond (nat_lt i j && p i j) (Ent i j ∷ []) []) f)
      ∙ one_edge (nat_lt i j && p i j) i j (after ops o (pairs_at Ent p i j) f) x
      ∙ ap (sign ops ((nat_lt i j && p i j) && (x i && x j))) (row_acts p i j f x)
      ∙ sign-twice ops laws ((nat_lt i j && p i j) && (x i && x j)) (row p x i j) (f x)

  grid_acts : (p : ℕ → ℕ → Bool) (n m : ℕ) (f : Amps E) (x : Bits) →
      after ops o (pairs_below Ent p n m) f x ≡ sign ops (grid p x n m) (f x)
  unfolding after pairs_below grid
  grid_acts p n zero f x = refl
  grid_acts p n (suc m) f x =
      ap (λ (g : Amps E). g x)
      (after-append ops laws o (pairs_below Ent p n m) (pairs_at Ent p m n) f)
      ∙ row_acts p m n (after ops o (pairs_below Ent p n m) f) x
      ∙ ap (sign ops (row p x m n)) (grid_acts p n m f x)
      ∙ sign-twice ops laws (row p x m n) (grid p x n m) (f x)

  -- a list without corrections entangles first and measures then
  signed : List Command → Amps E → Amps E
  signed cs f x = sign ops (total (edge_bit x) cs) (f x)

  signed_passes : (i a : ℕ) (s t : Signal) (cs : List Command) (f : Amps E) → AllMiss i cs →
      signed cs (act ops o (Meas i a s t) f) ≡ act ops o (Meas i a s t) (signed cs f)
  unfolding signed
  signed_passes i a s t cs f m = fun_ext λ x. sym
      (act_same ops laws o (Meas i a s t) (signed cs f)
      (λ y. sign ops (total (edge_bit x) cs) (f y)) x
      (λ y h. ap (λ (b : Bool). sign ops b (f y)) (edges_unread x y i cs m h))
      ∙ act-sign ops laws o (Meas i a s t) (total (edge_bit x) cs) f x)

  parts_apart : (n : ℕ) (xs zs : Signals) (cs : List Command) (f : Amps E) → InPlace n cs →
      after ops o (stripped xs zs cs) f
      ≡ after ops o (measurements_of (stripped xs zs cs)) (signed cs f)
  unfolding after act stripped measurements_of signed total edge_bit
  parts_apart n xs zs [] f p = refl
  parts_apart n xs zs (Prep q ∷ cs) f p = parts_apart n xs zs cs f p.2
  parts_apart n xs zs (Ent i j ∷ cs) f p =
      parts_apart n xs (handed xs zs i j) cs (act ops o (Ent i j) f) p.2
      ∙ ap (after ops o (measurements_of (stripped xs (handed xs zs i j) cs))) (fun_ext λ x.
      sign-twice ops laws (total (edge_bit x) cs) (x i && x j) (f x)
      ∙ ap (λ (b : Bool). sign ops b (f x)) (xor_comm (total (edge_bit x) cs) (x i && x j)))
  parts_apart n xs zs (FixX q s ∷ cs) f p = parts_apart n (joined xs q s) zs cs f p.2
  parts_apart n xs zs (FixZ q s ∷ cs) f p = parts_apart n xs (joined zs q s) cs f p.2
  parts_apart n xs zs (Meas i a s t ∷ cs) f p =
      parts_apart n _ _ cs _ p.2
      ∙ ap (after ops o (measurements_of (stripped _ _ cs))) (signed_passes i a _ _ cs f p.1)

  and_false : (b : Bool) → (b && false) ≡ false
  and_false false = refl
  and_false true = refl

  qubit_acts : (gone : Bool) (q : ℕ) (s t : Signal) (f : Amps E) (x : Bits) →
      after ops o (cond gone [] (fix_x q s ++ fix_z q t)) f x
      ≡ sign ops (x q && left_out gone t o) (f (replaced x q (x q ⊻ left_out gone s o)))
  unfolding after left_out
  qubit_acts true q s t f x = rw (and_false (x q), xor_false (x q), replaced_itself x q)
  qubit_acts false q s t f x =
      ap (λ (g : Amps E). g x) (after-append ops laws o (fix_x q s) (fix_z q t) f)
      ∙ fix_z_acts ops o q t (after ops o (fix_x q s) f) x
      ∙ ap (sign ops (x q && value t o)) (fix_x_acts ops o q s f x)

  upto : ℕ → Bits → Bits → Bits
  upto m px x = λ k. x k ⊻ (nat_lt k m && px k)

  upto_none : (px x : Bits) → x ≡ upto 0 px x
  unfolding upto
  upto_none px x = fun_ext λ k. sym
      (ap (λ (b : Bool). x k ⊻ (b && px k)) (lt_none k) ∙ xor_false (x k))

  upto_next : (q : ℕ) (px x : Bits) → upto q px (replaced x q (x q ⊻ px q)) ≡ upto (suc q) px x
  unfolding upto
  upto_next q px x = fun_ext λ k. elim (cases_eq k q) [
    | inl e ↦ rw (e, replaced_same x q (x q ⊻ px q), lt_self q, lt_next q) (xor_false (x q ⊻ px q))
    | inr ne ↦ rw (replaced_other x q (x q ⊻ px q) k ne, lt_other k q ne)
  ]

  corrections_act : (gone : Bits) (ss ts : Signals) (m : ℕ) (f : Amps E) (x : Bits) →
      after ops o (corrections_below gone ss ts m) f x
      ≡ sign ops (dot m x (λ k. left_out (gone k) (ts k) o))
      (f (upto m (λ k. left_out (gone k) (ss k) o) x))
  unfolding after corrections_below dot
  corrections_act gone ss ts zero f x = ap f (upto_none (λ k. left_out (gone k) (ss k) o) x)
  corrections_act gone ss ts (suc q) f x =
      let px : Bits = λ k. left_out (gone k) (ss k) o in
      let pz : Bits = λ k. left_out (gone k) (ts k) o in
      let y : Bits = replaced x q (x q ⊻ px q) in
      let below : dot q y pz ≡ dot q x pz = dot_same q y x pz pz (λ k h.
      let ne : k ≡ q → ⊥ = λ e. absurd (omega arith) in
      ap (λ (b : Bool). b && pz k) (replaced_other x q (x q ⊻ px q) k ne)) in
      ap (λ (g : Amps E). g x)
      (after-append ops laws o (corrections_below gone ss ts q)
      (cond (gone q) [] (fix_x q (ss q) ++ fix_z q (ts q))) f)
      ∙ qubit_acts (gone q) q (ss q) (ts q) (after ops o (corrections_below gone ss ts q) f) x
      ∙ ap (sign ops (x q && pz q)) (corrections_act gone ss ts q f y)
      ∙ sign-twice ops laws (x q && pz q) (dot q y pz) (f (upto q px y))
      ∙ ap₂ (λ (b : Bool) (z : Bits). sign ops ((x q && pz q) ⊻ b) (f z)) below (upto_next q px x)

dot_none : (n : ℕ) (x : Bits) → dot n x (λ k. false) ≡ false
unfolding dot
dot_none zero x = refl
dot_none (suc n) x = ap₂ (λ (a b : Bool). a ⊻ b) (and_none (x n)) (dot_none n x)
  where
    and_none : (b : Bool) → (b && false) ≡ false
    and_none false = refl
    and_none true = refl

-- the measurements of the pass are those of the standard form
pub measured_form : (n : ℕ) (cs : List Command) → InPlace n cs →
    measurements_of (stripped (λ q. no_signal) (λ q. no_signal) cs)
    ≡ measurements_with (first_sum cs) (second_sum cs) cs
unfolding values value parity
measured_form n cs p =
    measurements_same n (first_sum cs) (second_sum cs) (λ q. no_signal) (λ q. no_signal) cs p
    (first_rising cs) (second_rising cs) (λ q. tt) (λ q. tt)
    (λ o q m. value-first_sum o q cs) (λ o q m. value-second_sum o q cs)

left_gone : (o : Bits) (s : Signal) (b : Bool) → b ≡ true → left_out b s o ≡ false
unfolding left_out
left_gone o s b e = rw e

left_there : (o : Bits) (s : Signal) (b : Bool) → b ≡ false → left_out b s o ≡ value s o
unfolding left_out
left_there o s b e = rw e

-- what is carried at the end has the values of the sums, for the qubits that are not measured
carried_first : (o : Bits) (n : ℕ) (cs : List Command) (k : ℕ) → InPlace n cs →
    left_out (measured cs k) (first_sum cs k) o
    ≡ values o (carried (λ q. no_signal) (λ q. no_signal) cs).0 k
unfolding values value parity
carried_first o n cs k p = elim (cases_Bool (measured cs k)) [
  | inl e ↦ left_gone o (first_sum cs k) (measured cs k) e
      ∙ sym (carried_gone o n (λ q. no_signal) (λ q. no_signal) cs k p e).0
  | inr e ↦
      left_there o (first_sum cs k) (measured cs k) e ∙ value-first_sum o k cs
      ∙ sym (carried_x o (λ q. no_signal) (λ q. no_signal) cs k e)
]

carried_second : (o : Bits) (n : ℕ) (cs : List Command) (k : ℕ) → InPlace n cs →
    left_out (measured cs k) (second_sum cs k) o
    ≡ values o (carried (λ q. no_signal) (λ q. no_signal) cs).1 k
unfolding values value parity
carried_second o n cs k p = elim (cases_Bool (measured cs k)) [
  | inl e ↦ left_gone o (second_sum cs k) (measured cs k) e
      ∙ sym (carried_gone o n (λ q. no_signal) (λ q. no_signal) cs k p e).1
  | inr e ↦
      left_there o (second_sum cs k) (measured cs k) e ∙ value-second_sum o k cs
      ∙ sym (carried_z o n (λ q. no_signal) (λ q. no_signal) cs k p e)
]

carried_beyond : (o : Bits) (n : ℕ) (cs : List Command) (k : ℕ) → InPlace n cs → n ≤ k →
    values o (carried (λ q. no_signal) (λ q. no_signal) cs).0 k ≡ false
unfolding values value parity
carried_beyond o n cs k p h =
    let m : AllMiss k cs = all_beyond n cs k p h in
    carried_x o (λ q. no_signal) (λ q. no_signal) cs k (missed_unmeasured cs k m)
    ∙ first_all_missed o k cs m

bounded : (o : Bits) (n : ℕ) (cs : List Command) (k : ℕ) → InPlace n cs →
    (nat_lt k n && left_out (measured cs k) (first_sum cs k) o)
    ≡ values o (carried (λ q. no_signal) (λ q. no_signal) cs).0 k
bounded o n cs k p = elim (cases_lt k n) [
  | inl h ↦ ap (λ (b : Bool). b && left_out (measured cs k) (first_sum cs k) o) (lt-ltb k n h)
      ∙ carried_first o n cs k p
  | inr h ↦ ap (λ (b : Bool). b && left_out (measured cs k) (first_sum cs k) o) (le-ltb k n h)
      ∙ sym (carried_beyond o n cs k p h)
]

module _ {E : Type 0} (ops : PhaseOps E) (laws : PhaseLaws ops) where
  corrections_frame : (o : Bits) (n : ℕ) (cs : List Command) (f : Amps E) (x : Bits) →
      InPlace n cs →
      after ops o (corrections_below (measured cs) (first_sum cs) (second_sum cs) n) f x
      ≡ frame ops laws n (values o (carried (λ q. no_signal) (λ q. no_signal) cs).0)
      (values o (carried (λ q. no_signal) (λ q. no_signal) cs).1) f x
  unfolding frame upto
  corrections_frame o n cs f x p =
      corrections_act ops laws o (measured cs) (first_sum cs) (second_sum cs) n f x
      ∙ ap₂ (λ (b : Bool) (y : Bits). sign ops b (f y))
      (dot_same n x x _ _ (λ k h. ap (λ (b : Bool). x k && b) (carried_second o n cs k p)))
      (fun_ext λ k. ap (λ (b : Bool). x k ⊻ b) (bounded o n cs k p))

  pub no_frame : (o : Bits) (n : ℕ) (f : Amps E) (x : Bits) →
      frame ops laws n (values o (λ q. no_signal)) (values o (λ q. no_signal)) f x ≡ f x
  unfolding frame values value parity
  no_frame o n f x =
      ap₂ (λ (b : Bool) (y : Bits). sign ops b (f y)) (dot_none n x) (fun_ext λ k. xor_false (x k))

  signed_at : (o : Bits) (cs : List Command) (f : Amps E) (x : Bits) →
      sign ops (total (edge_bit x) cs) (f x) ≡ signed ops laws o cs f x
  unfolding signed
  signed_at o cs f x = refl

  -- the standard form of a list whose operands are in place does what the list without corrections
  -- does, behind what is carried at its end
  pub standard_splits : (o : Bits) (inputs : ℕ) (cs : List Command) (f : Amps E) (x : Bits) →
      InPlace (inputs + prepared cs) cs →
      after ops o (standard_commands inputs cs) f x
      ≡ frame ops laws (inputs + prepared cs)
      (values o (carried (λ q. no_signal) (λ q. no_signal) cs).0)
      (values o (carried (λ q. no_signal) (λ q. no_signal) cs).1)
      (after ops o (stripped (λ q. no_signal) (λ q. no_signal) cs) f) x
  unfolding standard_commands
  standard_splits o inputs cs f x p =
      let n : ℕ = inputs + prepared cs in
      let none : Signals = λ q. no_signal in
      let edges : List Command = pairs_below Ent (is_edge cs) n n in
      let measures : List Command = measurements_with (first_sum cs) (second_sum cs) cs in
      let fixes : List Command = corrections_below (measured cs) (first_sum cs) (second_sum cs) n in
      let entangled : after ops o edges f ≡ signed ops laws o cs f = fun_ext λ y.
      grid_acts ops laws o (is_edge cs) n n f y
      ∙ ap (λ (b : Bool). sign ops b (f y)) (grid_edges y n cs p) ∙ signed_at o cs f y in
      ap (λ (g : Amps E). g x)
      (preparations_act ops o cs (edges ++ (measures ++ fixes)) f
      ∙ after-append ops laws o edges (measures ++ fixes) f
      ∙ after-append ops laws o measures fixes (after ops o edges f))
      ∙ corrections_frame o n cs (after ops o measures (after ops o edges f)) x p
      ∙ ap (λ (g : Amps E). frame ops laws n (values o (carried none none cs).0)
      (values o (carried none none cs).1) g x)
      (sym (parts_apart ops laws o n none none cs f p
      ∙ ap₂ (λ (ms : List Command) (g : Amps E). after ops o ms g) (measured_form n cs p)
      (sym entangled)))

  -- a list whose operands are in place is alike with preparations, edges, measurements and
  -- corrections by the closed sums
  pub in_place_alike : (o : Bits) (inputs : ℕ) (cs : List Command) →
      InPlace (inputs + prepared cs) cs →
      AlikeCommands ops o cs (standard_commands inputs cs)
  in_place_alike o inputs cs p =
      let n : ℕ = inputs + prepared cs in
      let none : Signals = λ q. no_signal in
      let pass = stripped_alike ops laws o n none none cs (operands_fit n cs p) in
      record {
        phase = pass.phase;
        same = λ f x.
            ap (λ (g : Amps E). after ops o cs g x) (fun_ext λ y. sym (no_frame o n f y))
            ∙ pass.same f x
            ∙ ap (turn ops pass.phase) (sym (standard_splits o inputs cs f x p));
      }

  -- every valid list is alike with its standard form
  pub standard_alike : (o : Bits) (inputs : ℕ) (cs : List Command) → IsValid inputs cs →
      AlikeCommands ops o cs (standard_commands inputs cs)
  standard_alike o inputs cs v =
      in_place_alike o inputs cs
      (valid_in_place inputs (inputs + prepared cs) [] cs v (omega arith))

-- whatever the outcomes, the branch map of a pattern is that of its standard form up to one phase
pub pattern_alike : StandardIsAlike
unfolding standard_form
pattern_alike half positive p v o =
    let laws = ring_laws half positive in
    alike_branches (ring half) laws p.names p.names p.inputs p.outputs o
    p.commands (standard_commands p.inputs p.commands)
    (standard_alike (ring half) laws o p.inputs p.commands v.commands)
