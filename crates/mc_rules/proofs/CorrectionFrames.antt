-- Carrying the corrections to the end of a list keeps the amplitudes alike.
use Rattle.std.proofs.Common.{◌≡◌, ℕ, zero, suc, ◌+◌, ◌<◌, Bool, true, false, cond, ◌&&◌, List, []}
use Rattle.std.proofs.Common.{◌∷◌, refl, sym, ◌∙◌, ap, ap₂, arith}
use Rattle.std.proofs.lemmas.Bool.{eq-eqb, ne_eqb, cases_eq}
use mathlib.Core.Path.{fun_ext, subst, subst₂}
use mathlib.Core.Logic.{inl, inr}
use Rattle.mc_model.specs.Phase.{PhaseOps, PhaseLaws, turn, sign, negated, measured_angle}
use Rattle.mc_model.specs.Bits.{◌⊻◌, Bits, replaced, parity}
use Rattle.mc_model.specs.Signals.{Signal, value, no_signal, signal_sum, Signals}
use Rattle.mc_model.specs.Pattern.{Command, Prep, Ent, Meas, FixX, FixZ}
use Rattle.mc_model.specs.Amplitude.{Amps, act, after}
use Rattle.mc_model.proofs.SignalLemmas.{reset, value-sum}
use Rattle.mc_rules.specs.OnePass.{joined, handed, carried}
use Rattle.mc_rules.proofs.Stripped.{stripped, OperandsFit}
use Rattle.mc_model.proofs.PhaseLemmas.{sign-twice, sign-turn, sign-sum, turn-add}
use Rattle.mc_model.proofs.BitLemmas.{replaced_same, replaced_other, xor_assoc, xor_comm}
use Rattle.mc_model.proofs.AlikeLemmas.{after-turn}
use Rattle.mc_rules.proofs.NeighbourLaws.{exchanged, signed_factor}

-- the sum of the products of the first `n` bits
unfoldable pub dot : ℕ → Bits → Bits → Bool
dot zero x p = false
dot (suc n) x p = (x n && p n) ⊻ dot n x p

pub dot_same : (n : ℕ) (x y p r : Bits) → ((k : ℕ) → k < n → (x k && p k) ≡ (y k && r k)) →
    dot n x p ≡ dot n y r
unfolding dot
dot_same zero x y p r h = refl
dot_same (suc n) x y p r h =
    ap₂ (λ (a b : Bool). a ⊻ b) (h n (omega arith)) (dot_same n x y p r (λ k m. h k (omega arith)))

-- one bit of the first, against the second without it
dot-at : (n : ℕ) (x p : Bits) (i : ℕ) (b : Bool) → i < n →
    dot n (replaced x i b) p ≡ dot n x (replaced p i false) ⊻ (b && p i)
unfolding dot
dot-at zero x p i b h = absurd (omega arith)
dot-at (suc n) x p i b h = elim (cases_eq n i) [
  | inl e ↦
      let below : dot n (replaced x i b) p ≡ dot n x (replaced p i false) =
      dot_same n _ _ _ _ (λ k m.
      let ne : k ≡ i → ⊥ = λ q. absurd (omega arith) in
      ap₂ (λ (a c : Bool). a && c) (replaced_other x i b k ne)
      (sym (replaced_other p i false k ne))) in
      rw (below, e, eq-eqb i i refl) (last (x i) b (p i) (dot i x (replaced p i false)))
  | inr ne ↦ rw (dot-at n x p i b (omega arith), ne_eqb n i ne) (sym (xor_assoc (x n && p n) _ _))
]
  where
    last : (a b p d : Bool) → (b && p) ⊻ d ≡ ((a && false) ⊻ d) ⊻ (b && p)
    last a b p d = first a ∙ ap (λ (c : Bool). (c ⊻ d) ⊻ (b && p)) (sym (none a))
      where
        none : (a : Bool) → (a && false) ≡ false
        none false = refl
        none true = refl

        first : (a : Bool) → (b && p) ⊻ d ≡ (false ⊻ d) ⊻ (b && p)
        first a = xor_comm (b && p) d

again_bits : (d a c x : Bool) → d ⊻ (a && c) ≡ (d ⊻ (x && c)) ⊻ ((a ⊻ x) && c)
again_bits d a c x = grind arith

-- one bit of the first replaced; and one of the second
dot-left : (n : ℕ) (x p : Bits) (i : ℕ) (b : Bool) → i < n →
    dot n (replaced x i b) p ≡ dot n x p ⊻ ((b ⊻ x i) && p i)
dot-left n x p i b h =
    dot-at n x p i b h ∙ again_bits (dot n x (replaced p i false)) b (p i) (x i)
    ∙ ap (λ (d : Bool). d ⊻ ((b ⊻ x i) && p i))
    (sym (dot-at n x p i (x i) h) ∙ ap (λ (y : Bits). dot n y p) (fun_ext λ k. same k))
  where
    same : (k : ℕ) → replaced x i (x i) k ≡ x k
    same k = elim (cases_eq k i)
        [ inl e ↦ rw e (replaced_same x i (x i)) | inr ne ↦ replaced_other x i (x i) k ne ]

and_comm : (a b : Bool) → (a && b) ≡ (b && a)
and_comm a b = grind arith

dot_comm : (n : ℕ) (x p : Bits) → dot n x p ≡ dot n p x
dot_comm n x p = dot_same n x p p x (λ k h. and_comm (x k) (p k))

more : (x i : Bool) → (x ⊻ i) ⊻ x ≡ i
more x i = grind arith

dot-joined : (n : ℕ) (x p : Bits) (i : ℕ) (v : Bool) → i < n →
    dot n x (replaced p i (p i ⊻ v)) ≡ dot n x p ⊻ (x i && v)
dot-joined n x p i v h =
    dot_comm n x (replaced p i (p i ⊻ v)) ∙ dot-left n p x i (p i ⊻ v) h
    ∙ ap₂ (λ (a b : Bool). a ⊻ b) (dot_comm n p x)
    (ap (λ (b : Bool). b && x i) (more (p i) v) ∙ and_comm v (x i))

unfoldable pub values : Bits → Signals → Bits
values o xs = λ k. value (xs k) o

values-joined : (o : Bits) (xs : Signals) (q : ℕ) (s : Signal) →
    values o (joined xs q s) ≡ replaced (values o xs) q (value (xs q) o ⊻ value s o)
unfolding values
values-joined o xs q s = fun_ext λ k. elim (cases_eq k q) [
  | inl e ↦ rw (eq-eqb k q e) (value-sum (xs q) s o)
  | inr ne ↦ rw (ne_eqb k q ne)
]

values-reset : (o : Bits) (xs : Signals) (q : ℕ) →
    values o (reset xs q no_signal) ≡ replaced (values o xs) q false
unfolding values value parity
values-reset o xs q = fun_ext λ k. elim (cases_eq k q) [
  | inl e ↦ rw (eq-eqb k q e)
  | inr ne ↦ rw (ne_eqb k q ne)
]

values-handed : (o : Bits) (xs zs : Signals) (i j : ℕ) →
    values o (handed xs zs i j)
    ≡ replaced (replaced (values o zs) i (values o zs i ⊻ values o xs j)) j
    (replaced (values o zs) i (values o zs i ⊻ values o xs j) j ⊻ values o xs i)
unfolding values
values-handed o xs zs i j =
    let first = values-joined o zs i (xs j) in
    values-joined o (joined zs i (xs j)) j (xs i)
    ∙ ap (λ (p : Bits). replaced p j (p j ⊻ value (xs i) o)) first

x_arg : (x p : Bits) (q : ℕ) (v : Bool) (k : ℕ) →
    replaced x q (x q ⊻ v) k ⊻ p k ≡ x k ⊻ replaced p q (p q ⊻ v) k
x_arg x p q v k = elim (cases_eq k q) [
  | inl e ↦ rw (e, eq-eqb q q refl) (turned (x q) v (p q))
  | inr ne ↦ rw (ne_eqb k q ne)
]
  where
    turned : (a v p : Bool) → (a ⊻ v) ⊻ p ≡ a ⊻ (p ⊻ v)
    turned a v p = xor_assoc a v p ∙ ap (λ (b : Bool). a ⊻ b) (xor_comm v p)

m_arg : (x p : Bits) (i : ℕ) (b : Bool) (k : ℕ) →
    replaced x i b k ⊻ p k ≡ replaced (λ j. x j ⊻ replaced p i false j) i (b ⊻ p i) k
m_arg x p i b k = elim (cases_eq k i) [
  | inl e ↦ rw (e, eq-eqb i i refl)
  | inr ne ↦ rw (ne_eqb k i ne)
]

e_bits : (xi xj pi pj d : Bool) →
    (xi && xj) ⊻ d ≡ (pi && pj) ⊻ (((d ⊻ (xi && pj)) ⊻ (xj && pi)) ⊻ ((xi ⊻ pi) && (xj ⊻ pj)))
e_bits xi xj pi pj d = grind arith

-- two operators on amplitudes agree up to one power of `w`, the same for all amplitudes
pub record AlikeMaps {E : Type 0} (ops : PhaseOps E) (F G : Amps E → Amps E) : Type 0 where
  pub phase : ℕ
  pub same : (f : Amps E) (x : Bits) → F f x ≡ turn ops phase (G f x)

module _ {E : Type 0} (ops : PhaseOps E) (laws : PhaseLaws ops) where
  -- the amplitudes behind corrections `X` where `px` is 1 and `Z` where `pz` is 1
  unfoldable pub frame : ℕ → Bits → Bits → Amps E → Amps E
  frame n px pz f x = sign ops (dot n x pz) (f (λ k. x k ⊻ px k))

  by_sign : (c : Bool) (e : E) → sign ops c e ≡ turn ops (cond c ops.half 0) e
  unfolding turn
  by_sign false e = refl
  by_sign true e = sym (laws.half_turn e)

  frame-x : (o : Bits) (n : ℕ) (px pz : Bits) (q : ℕ) (s : Signal) → q < n →
      AlikeMaps ops (λ f. act ops o (FixX q s) (frame n px pz f))
      (λ f. frame n (replaced px q (px q ⊻ value s o)) pz f)
  unfolding act frame
  frame-x o n px pz q s h = record {
    phase = cond (pz q && value s o) ops.half 0;
    same = λ f x.
        let v : Bool = value s o in
        ap₂ (λ (c : Bool) (y : Bits). sign ops c (f y))
        (dot-left n x pz q (x q ⊻ v) h
        ∙ xor_comm (dot n x pz) (((x q ⊻ v) ⊻ x q) && pz q)
        ∙ ap (λ (c : Bool). c ⊻ dot n x pz)
        (ap (λ (b : Bool). b && pz q) (more (x q) v) ∙ and_comm v (pz q)))
        (fun_ext λ k. x_arg x px q v k)
        ∙ sym (sign-twice ops laws (pz q && v) (dot n x pz) _)
        ∙ by_sign (pz q && v) _;
  }

  frame-z : (o : Bits) (n : ℕ) (px pz : Bits) (q : ℕ) (s : Signal) → q < n →
      AlikeMaps ops (λ f. act ops o (FixZ q s) (frame n px pz f))
      (λ f. frame n px (replaced pz q (pz q ⊻ value s o)) f)
  unfolding act frame turn
  frame-z o n px pz q s h = record {
    phase = 0;
    same = λ f x.
        sign-twice ops laws (x q && value s o) (dot n x pz) _
        ∙ ap (λ (c : Bool). sign ops c (f (λ k. x k ⊻ px k)))
        (xor_comm (x q && value s o) (dot n x pz) ∙ sym (dot-joined n x pz q (value s o) h));
  }

  frame-e : (o : Bits) (n : ℕ) (px pz : Bits) (i j : ℕ) → i < n → j < n →
      AlikeMaps ops (λ f. act ops o (Ent i j) (frame n px pz f))
      (λ f. frame n px
      (replaced (replaced pz i (pz i ⊻ px j)) j (replaced pz i (pz i ⊻ px j) j ⊻ px i))
      (act ops o (Ent i j) f))
  unfolding act frame
  frame-e o n px pz i j hi hj = record {
    phase = cond (px i && px j) ops.half 0;
    same = λ f x.
        let y : Bits = λ k. x k ⊻ px k in
        let p : Bits = replaced pz i (pz i ⊻ px j) in
        sign-twice ops laws (x i && x j) (dot n x pz) (f y)
        ∙ ap (λ (c : Bool). sign ops c (f y))
        (e_bits (x i) (x j) (px i) (px j) (dot n x pz)
        ∙ ap (λ (d : Bool). (px i && px j) ⊻ (d ⊻ (y i && y j)))
        (sym (dot-joined n x p j (px i) hj
        ∙ ap (λ (d : Bool). d ⊻ (x j && px i)) (dot-joined n x pz i (px j) hi))))
        ∙ sym (sign-twice ops laws (px i && px j) _ (f y))
        ∙ ap (sign ops (px i && px j)) (sym (sign-twice ops laws _ (y i && y j) (f y)))
        ∙ by_sign (px i && px j) _;
  }

  sign_swap : (b c : Bool) (e : E) → sign ops b (sign ops c e) ≡ sign ops c (sign ops b e)
  sign_swap b c e = sign-twice ops laws b c e ∙ ap (λ (d : Bool). sign ops d e) (xor_comm b c)
      ∙ sym (sign-twice ops laws c b e)

  prep_alike : (o : Bits) (q : ℕ) (n : ℕ) (xs zs : Signals) →
      AlikeMaps ops (λ f. act ops o (Prep q) (frame n (values o xs) (values o zs) f))
      (λ f. frame n (values o xs) (values o zs) (act ops o (Prep q) f))
  unfolding act turn
  prep_alike o q n xs zs = record { phase = 0; same = λ f x. refl }

  frame-m : (o : Bits) (n : ℕ) (px pz : Bits) (i a : ℕ) (s t u w : Signal) → i < n →
      value u o ≡ px i → value w o ≡ pz i →
      AlikeMaps ops (λ f. act ops o (Meas i a s t) (frame n px pz f))
      (λ f. frame n (replaced px i false) (replaced pz i false)
      (act ops o (Meas i a (signal_sum s u) (signal_sum t w)) f))
  unfolding act frame
  frame-m o n px pz i a s t u w h eu ew = record {
    phase = cond (px i)
        (negated ops.half (measured_angle ops.half a (value s o) (value t o ⊻ pz i)) + cond (o i)
        ops.half 0) 0;
    same = λ f x.
        let v : Bool = px i in
        let d : Bool = dot n x (replaced pz i false) in
        let y : Bits = λ j. x j ⊻ replaced px i false j in
        let g : Bool → E = λ b. f (replaced y i b) in
        let k : ℕ = negated ops.half (measured_angle ops.half a (value s o) (value t o)) in
        let ph : ℕ = cond v
        (negated ops.half (measured_angle ops.half a (value s o) (value t o ⊻ pz i)) + cond
        (o i) ops.half 0) 0 in
        let seen : (b : Bool) →
        sign ops (dot n (replaced x i b) pz) (f (λ j. replaced x i b j ⊻ px j))
        ≡ sign ops d (sign ops (b && pz i) (g (b ⊻ v))) = λ b.
        ap₂ (λ (c : Bool) (z : Bits). sign ops c (f z)) (dot-at n x pz i b h)
        (fun_ext λ j. m_arg x px i b j)
        ∙ sym (sign-twice ops laws d (b && pz i) (g (b ⊻ v))) in
        ap₂ (λ (e1 e2 : E). ops.add e1 (turn ops k (sign ops (o i) e2))) (seen false) (seen true)
        ∙ ap (λ (e : E). ops.add (sign ops d (g (false ⊻ v))) e)
        (ap (turn ops k) (sign_swap (o i) d (sign ops (pz i) (g (true ⊻ v))))
        ∙ sym (sign-turn ops laws d k (sign ops (o i) (sign ops (pz i) (g (true ⊻ v))))))
        ∙ sym (sign-sum ops laws d (g (false ⊻ v))
        (turn ops k (sign ops (o i) (sign ops (pz i) (g (true ⊻ v))))))
        ∙ ap (sign ops d)
        (ap (ops.add (g (false ⊻ v)))
        (signed_factor ops laws o a (value s o) (value t o) (pz i) (o i) (g (true ⊻ v)))
        ∙ exchanged ops laws o a (value s o) (value t o ⊻ pz i) v (o i) g)
        ∙ sign-turn ops laws d ph _
        ∙ ap₂ (λ (b c : Bool). turn ops ph
        (sign ops d (ops.add (g false)
        (turn ops (negated ops.half (measured_angle ops.half a b c))
        (sign ops (o i) (g true))))))
        (sym (value-sum s u o ∙ ap (λ (b : Bool). value s o ⊻ b) eu))
        (sym (value-sum t w o ∙ ap (λ (b : Bool). value t o ⊻ b) ew));
  }

  -- alike at all amplitudes is alike behind a command
  alike_before : (c : Command) (o : Bits) (cs : List Command) (F H : Amps E → Amps E) →
      AlikeMaps ops (λ f. after ops o cs (F f)) H →
      AlikeMaps ops (λ f. after ops o cs (F (act ops o c f))) (λ f. H (act ops o c f))
  alike_before c o cs F H a = record { phase = a.phase; same = λ f x. a.same (act ops o c f) x }

  alike_after : (o : Bits) (c : Command) (cs : List Command) (F G H : Amps E → Amps E) →
      AlikeMaps ops (λ f. act ops o c (F f)) G →
      AlikeMaps ops (λ f. after ops o cs (G f)) H →
      AlikeMaps ops (λ f. after ops o (c ∷ cs) (F f)) H
  unfolding after
  alike_after o c cs F G H a b = record {
    phase = a.phase + b.phase;
    same = λ f x.
        ap (λ (p : Amps E). after ops o cs p x) (fun_ext (a.same f))
        ∙ after-turn ops laws o cs a.phase (G f) x
        ∙ ap (turn ops a.phase) (b.same f x) ∙ sym (turn-add ops laws a.phase b.phase (H f x));
  }

  -- the list is alike with the list without corrections, behind what is carried at its end
  pub stripped_alike : (o : Bits) (n : ℕ) (xs zs : Signals) (cs : List Command) → OperandsFit n cs →
      AlikeMaps ops (λ f. after ops o cs (frame n (values o xs) (values o zs) f))
      (λ f. frame n (values o (carried xs zs cs).0) (values o (carried xs zs cs).1)
      (after ops o (stripped xs zs cs) f))
  unfolding after stripped carried turn values
  stripped_alike o n xs zs [] fit = record { phase = 0; same = λ f x. refl }
  stripped_alike o n xs zs (Prep q ∷ cs) fit =
      alike_after o (Prep q) cs (λ f. frame n (values o xs) (values o zs) f)
      (λ f. frame n (values o xs) (values o zs) (act ops o (Prep q) f)) _
      (prep_alike o q n xs zs)
      (alike_before (Prep q) o cs (λ f. frame n (values o xs) (values o zs) f) _
      (stripped_alike o n xs zs cs fit))
  stripped_alike o n xs zs (FixX q s ∷ cs) fit =
      alike_after o (FixX q s) cs (λ f. frame n (values o xs) (values o zs) f)
      (λ f. frame n (values o (joined xs q s)) (values o zs) f) _
      (subst (λ (p : Bits). AlikeMaps ops
      (λ f. act ops o (FixX q s) (frame n (values o xs) (values o zs) f))
      (λ f. frame n p (values o zs) f))
      (sym (values-joined o xs q s)) (frame-x o n (values o xs) (values o zs) q s fit.0))
      (stripped_alike o n (joined xs q s) zs cs fit.1)
  stripped_alike o n xs zs (FixZ q s ∷ cs) fit =
      alike_after o (FixZ q s) cs (λ f. frame n (values o xs) (values o zs) f)
      (λ f. frame n (values o xs) (values o (joined zs q s)) f) _
      (subst (λ (p : Bits). AlikeMaps ops
      (λ f. act ops o (FixZ q s) (frame n (values o xs) (values o zs) f))
      (λ f. frame n (values o xs) p f))
      (sym (values-joined o zs q s)) (frame-z o n (values o xs) (values o zs) q s fit.0))
      (stripped_alike o n xs (joined zs q s) cs fit.1)
  stripped_alike o n xs zs (Ent i j ∷ cs) fit =
      alike_after o (Ent i j) cs (λ f. frame n (values o xs) (values o zs) f)
      (λ f. frame n (values o xs) (values o (handed xs zs i j)) (act ops o (Ent i j) f)) _
      (subst (λ (p : Bits). AlikeMaps ops
      (λ f. act ops o (Ent i j) (frame n (values o xs) (values o zs) f))
      (λ f. frame n (values o xs) p (act ops o (Ent i j) f)))
      (sym (values-handed o xs zs i j)) (frame-e o n (values o xs) (values o zs) i j fit.0 fit.1))
      (alike_before (Ent i j) o cs (λ f. frame n (values o xs) (values o (handed xs zs i j)) f) _
      (stripped_alike o n xs (handed xs zs i j) cs fit.2))
  stripped_alike o n xs zs (Meas i a s t ∷ cs) fit =
      let m : Command = Meas i a (signal_sum s (xs i)) (signal_sum t (zs i)) in
      alike_after o (Meas i a s t) cs (λ f. frame n (values o xs) (values o zs) f)
      (λ f. frame n (values o (reset xs i no_signal)) (values o (reset zs i no_signal))
      (act ops o (Meas i a (signal_sum s (xs i)) (signal_sum t (zs i))) f)) _
      (subst₂ (λ (p q : Bits). AlikeMaps ops
      (λ f. act ops o (Meas i a s t) (frame n (values o xs) (values o zs) f))
      (λ f. frame n p q (act ops o (Meas i a (signal_sum s (xs i)) (signal_sum t (zs i))) f)))
      (sym (values-reset o xs i)) (sym (values-reset o zs i))
      (frame-m o n (values o xs) (values o zs) i a s t (xs i) (zs i) fit.0 refl refl))
      (alike_before m o cs
      (λ f. frame n (values o (reset xs i no_signal)) (values o (reset zs i no_signal)) f) _
      (stripped_alike o n (reset xs i no_signal) (reset zs i no_signal) cs fit.1))
