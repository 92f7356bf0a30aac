-- Layers that are taken as early as can be are least.
use Rattle.std.specs.Prelude.{◌≡◌, ◌≢◌, ◌⊎◌, ℕ, zero, suc, ◌<◌, ◌≤◌}
use Rattle.std.specs.Prelude.{Bool, true, false, ◌&&◌, refl}
use Rattle.std.proofs.Common.{arith, sym, subst, ◌∙◌, inl, inr}
use Rattle.mc_model.specs.Bits.{◌⊻◌, Bits}
use Rattle.mc_model.specs.Graph.{OpenGraph, size, is_input, is_output, joins, odd_neighbourhood}
use Rattle.mc_model.specs.Flow.{single, IsFlow, CorrectsAt}
use Rattle.mc_model.specs.Choice.{CorrectsAlone}
use Rattle.mc_model.proofs.OddSums.{odd-same, odd-xor, xor_and}
use Rattle.mc_elim.proofs.BitSums.{xor_right, xor_parts, clash, last_or_before, same_or_not}
use Rattle.mc_elim.proofs.BitSums.{single_itself, single_other}
use Rattle.mc_gflow.specs.Layers.{IsCorrection}

-- a set of candidates of layers below `k`
pub record AreCandidates (g : OpenGraph) (layer : ℕ → ℕ) (k : ℕ) (s : Bits) : Type 0 where
  pub within : (w : ℕ) → s w ≡ true → w < size g
  pub no_input : (w : ℕ) → s w ≡ true → is_input g w ≡ false
  pub before : (w : ℕ) → s w ≡ true → layer w < k

odd_of_sum : (g : OpenGraph) (s t : Bits) (v : ℕ) →
    odd_neighbourhood g (λ w. s w ⊻ t w) v ≡ odd_neighbourhood g s v ⊻ odd_neighbourhood g t v
odd_of_sum g s t v =
    odd-same (size g) (λ w. (s w ⊻ t w) && joins g.edges v w)
    (λ w. (s w && joins g.edges v w) ⊻ (t w && joins g.edges v w))
    (λ w _. xor_and (s w) (t w) (joins g.edges v w))
    ∙ odd-xor (size g) (λ w. s w && joins g.edges v w) (λ w. t w && joins g.edges v w)

-- other vertices in the odd neighbourhood, each of which can be corrected, can be taken out
module _ (g : OpenGraph) (layer : ℕ → ℕ) (k u : ℕ) (s : Bits) (members : AreCandidates g layer k s)
    (here : odd_neighbourhood g s u ≡ true)
    (others : (v : ℕ) → v < size g → is_output g v ≡ false → v ≢ u →
    odd_neighbourhood g s v ≡ true → (t : Bits) × IsCorrection g layer k v t) where
  -- those below `m` were taken out
  record Cleared (m : ℕ) : Type 0 where
    now : Bits
    candidates : AreCandidates g layer k now
    done : (v : ℕ) → v < size g → v < m → is_output g v ≡ false →
        odd_neighbourhood g now v ≡ single u v
    left : (v : ℕ) → v < size g → m ≤ v → is_output g v ≡ false →
        odd_neighbourhood g now v ≡ odd_neighbourhood g s v

  keep : (m : ℕ) (c : Cleared m) →
      (is_output g m ≡ false → odd_neighbourhood g c.now m ≡ single u m) → Cleared (suc m)
  keep m c f = record {
    now = c.now;
    candidates = c.candidates;
    done = λ v l i o. elim (last_or_before v m i) [
      | inl lt ↦ c.done v l lt o
      | inr eq ↦
          subst (λ (x : ℕ). odd_neighbourhood g c.now x ≡ single u x) (sym eq)
          (f (subst (λ (x : ℕ). is_output g x ≡ false) eq o))
    ];
    left = λ v l i o. c.left v l (omega arith) o;
  }

  flipped : (a b : Bool) → a ≡ true → b ≡ true → a ⊻ b ≡ false
  flipped a b e f = grind arith

  add : (m : ℕ) (c : Cleared m) → m < size g → m ≢ u → is_output g m ≡ false →
      odd_neighbourhood g c.now m ≡ true → (t : Bits) → IsCorrection g layer k m t →
      Cleared (suc m)
  add m c mn ne o has t f = record {
    now = λ w. c.now w ⊻ t w;
    candidates = record {
      within = λ w. xor_parts (c.now w) (t w) (c.candidates.within w) (f.within w);
      no_input = λ w. xor_parts (c.now w) (t w) (c.candidates.no_input w) (f.no_input w);
      before = λ w. xor_parts (c.now w) (t w) (c.candidates.before w) (f.before w);
    };
    done = λ v l i q. odd_of_sum g c.now t v ∙ elim (last_or_before v m i) [
      | inl lt ↦
          xor_right (odd_neighbourhood g c.now v) (odd_neighbourhood g t v)
          (f.alone v l q ∙ single_other m v (omega arith))
          ∙ c.done v l lt q
      | inr eq ↦
          subst (λ (x : ℕ). odd_neighbourhood g c.now x ⊻ odd_neighbourhood g t x ≡ single u x)
          (sym eq)
          (flipped (odd_neighbourhood g c.now m) (odd_neighbourhood g t m) has
          (f.alone m mn o ∙ single_itself m)
          ∙ sym (single_other u m ne))
    ];
    left = λ v l i q.
        odd_of_sum g c.now t v
        ∙ xor_right (odd_neighbourhood g c.now v) (odd_neighbourhood g t v)
        (f.alone v l q ∙ single_other m v (omega arith))
        ∙ c.left v l (omega arith) q;
  }

  next : (m : ℕ) → m < size g → (c : Cleared m) → (o b : Bool) → is_output g m ≡ o →
      odd_neighbourhood g c.now m ≡ b → (m ≡ u) ⊎ (m ≢ u) → Cleared (suc m)
  next m mn c true b oe be d = keep m c (λ f. absurd (clash (is_output g m) oe f))
  next m mn c false b oe be (inl eq) = keep m c (λ f.
      c.left m mn (omega arith) f
      ∙ subst (λ (x : ℕ). odd_neighbourhood g s x ≡ single u x) (sym eq)
      (here ∙ sym (single_itself u)))
  next m mn c false false oe be (inr ne) = keep m c (λ f. be ∙ sym (single_other u m ne))
  next m mn c false true oe be (inr ne) =
      let t = others m mn oe ne (sym (c.left m mn (omega arith) oe) ∙ be) in
      add m c mn ne oe be t.0 t.1

  all : (m : ℕ) → m ≤ size g → Cleared m
  all zero l = record {
    now = s;
    candidates = members;
    done = λ v i j o. absurd (omega arith);
    left = λ v i j o. refl;
  }
  all (suc m) l =
      let c = all m (omega arith) in
      next m (omega arith) c (is_output g m) (odd_neighbourhood g c.now m) refl refl
      (same_or_not m u)

  pub restricted : (t : Bits) × IsCorrection g layer k u t
  restricted =
      let c = all (size g) (omega arith) in (
        c.now,
        record {
          within = c.candidates.within;
          no_input = c.candidates.no_input;
          before = c.candidates.before;
          alone = λ v l o. c.done v l l o;
        },
      )

pub correction_later : (g : OpenGraph) (layer : ℕ → ℕ) (j k u : ℕ) (s : Bits) → j ≤ k →
    IsCorrection g layer j u s → IsCorrection g layer k u s
correction_later g layer j k u s le c = record {
  within = c.within;
  no_input = c.no_input;
  before = λ w e. let lt = c.before w e in omega arith;
  alone = c.alone;
}

pub alone_corrects : (g : OpenGraph) (layer : ℕ → ℕ) (u : ℕ) (s : Bits) →
    CorrectsAlone g layer u s → IsCorrection g layer (layer u) u s
alone_corrects g layer u s c =
    record { within = c.within; no_input = c.no_input; before = c.later; alone = c.alone }

pub corrects_alone : (g : OpenGraph) (layer : ℕ → ℕ) (k u : ℕ) (s : Bits) → layer u ≡ k →
    IsCorrection g layer k u s → CorrectsAlone g layer u s
corrects_alone g layer k u s e c = record {
  within = c.within;
  no_input = c.no_input;
  later = λ w x. subst (λ (a : ℕ). layer w < a) (sym e) (c.before w x);
  alone = c.alone;
}

-- a set that corrects alone corrects
pub corrects_at : (g : OpenGraph) (layer : ℕ → ℕ) (u : ℕ) (s : Bits) → u < size g →
    is_output g u ≡ false → 1 ≤ layer u →
    ((v : ℕ) → v < size g → is_output g v ≡ true → layer v ≡ 0) →
    CorrectsAlone g layer u s → CorrectsAt g s layer u
corrects_at g layer u s l o positive outputs c = record {
  within = c.within;
  no_input = c.no_input;
  not_itself = by (s u) refl;
  odd_itself = c.alone u l o ∙ single_itself u;
  set_later = c.later;
  odd_later = λ v vn ne e. later v vn ne e (is_output g v) refl;
}
  where
    by : (b : Bool) → s u ≡ b → s u ≡ false
    by false e = e
    by true e = let lt = c.later u e in absurd (omega arith)

    later : (v : ℕ) → v < size g → v ≢ u → odd_neighbourhood g s v ≡ true → (b : Bool) →
        is_output g v ≡ b → layer v < layer u
    later v vn ne e true f = let low = outputs v vn f in omega arith
    later v vn ne e false f =
        absurd (clash (odd_neighbourhood g s v) e (c.alone v vn f ∙ single_other u v ne))

-- ---- least layers

module _ (g : OpenGraph) (layer : ℕ → ℕ) (sets : ℕ → Bits)
    (outputs : (v : ℕ) → v < size g → is_output g v ≡ true → layer v ≡ 0)
    (corrects : (u : ℕ) → u < size g → is_output g u ≡ false → CorrectsAlone g layer u (sets u))
    (earliest : (u j : ℕ) → u < size g → is_output g u ≡ false → (s : Bits) →
    IsCorrection g layer j u s → layer u ≤ j) where
  -- no flow gives a vertex a smaller layer: by induction on a bound on the flow's layer
  least_at : (given : ℕ → ℕ) (others : ℕ → Bits) → IsFlow g others given → (u : ℕ) →
      u < size g → ((v : ℕ) → v < size g → given v < given u → layer v ≤ given v) → (b : Bool) →
      is_output g u ≡ b → layer u ≤ given u
  least_at given others f u l below true e = let low = outputs u l e in omega arith
  least_at given others f u l below false e =
      let c = f.corrects u l e in
      let members : AreCandidates g layer (given u) (others u) = record {
        within = c.within;
        no_input = c.no_input;
        before = λ w x.
            let lt = c.set_later w x in
            let le = below w (c.within w x) lt in
            omega arith;
      } in
      let t = restricted g layer (given u) u (others u) members c.odd_itself
      (λ v vn o ne x.
      let lt = c.odd_later v vn ne x in
      let le = below v vn lt in (
        sets v,
        correction_later g layer (layer v) (given u) v (sets v) (omega arith)
            (alone_corrects g layer v (sets v) (corrects v vn o)),
      )) in
      earliest u (given u) l e t.0 t.1

  least_below : (given : ℕ → ℕ) (others : ℕ → Bits) → IsFlow g others given → (b u : ℕ) →
      u < size g → given u < b → layer u ≤ given u
  least_below given others f zero u l h = absurd (omega arith)
  least_below given others f (suc b) u l h =
      least_at given others f u l (λ v vn lt. least_below given others f b v vn (omega arith))
      (is_output g u) refl

  pub least_layers : (given : ℕ → ℕ) (others : ℕ → Bits) → IsFlow g others given → (u : ℕ) →
      u < size g → layer u ≤ given u
  least_layers given others f u l =
      least_below given others f (suc (given u)) u l (omega arith)
