-- From places to recursions along the list, and back for a builder that appends.
use Rattle.std.proofs.Common.{◌≡◌, ℕ, ◌+◌, Bool, true, false, ◌||◌, List, [], ◌∷◌, ◌++◌, refl, sym}
use Rattle.std.proofs.Common.{◌∙◌, ap, ap₂, append_assoc, arith}
use Rattle.std.specs.Prelude.{nat_eq, nat_lt}
use mathlib.Core.Path.{fun_ext, subst, subst₂}
use mathlib.Core.Logic.{inl, inr}
use Rattle.std.proofs.lemmas.Bool.{eq-eqb, ne_eqb, cases_eq, cases_Bool, true≢false}
use Rattle.mc_model.specs.Bits.{Bits, replaced}
use Rattle.mc_model.specs.Signals.{Signal, toggled, toggled_all}
use Rattle.mc_model.specs.Pattern.{Command, Prep, Ent, Meas, FixX, FixZ}
use Rattle.mc_model.specs.Valid.{AllDone, measured, prepared, FitsBehind, IsLive, IsValid}

pub measured-append : (cs ds : List Command) (k : ℕ) →
    measured (cs ++ ds) k ≡ measured cs k || measured ds k
unfolding measured
measured-append [] ds k = refl
measured-append (Prep q ∷ cs) ds k = measured-append cs ds k
measured-append (Ent q r ∷ cs) ds k = measured-append cs ds k
measured-append (FixX q s ∷ cs) ds k = measured-append cs ds k
measured-append (FixZ q s ∷ cs) ds k = measured-append cs ds k
measured-append (Meas q a s t ∷ cs) ds k =
    ap (λ (b : Bool). nat_eq k q || b) (measured-append cs ds k)
    ∙ or_assoc (nat_eq k q) (measured cs k) (measured ds k)
  where
    or_assoc : (a b c : Bool) → a || (b || c) ≡ (a || b) || c
    or_assoc true b c = refl
    or_assoc false b c = refl

pub next_measured : (before : List Command) (q a : ℕ) (s t : Signal) →
    measured (before ++ (Meas q a s t ∷ [])) ≡ replaced (measured before) q true
unfolding measured
next_measured before q a s t = fun_ext λ k. measured-append before (Meas q a s t ∷ []) k
    ∙ elim (cases_eq k q) [
      | inl e ↦ rw (eq-eqb k q e) (or_true (measured before k))
      | inr ne ↦ rw (ne_eqb k q ne) (or_false (measured before k))
    ]
  where
    or_true : (b : Bool) → b || (true || false) ≡ true
    or_true true = refl
    or_true false = refl

    or_false : (b : Bool) → b || (false || false) ≡ b
    or_false true = refl
    or_false false = refl

or_none : (a b : Bool) → b ≡ false → a || b ≡ a
or_none true b e = refl
or_none false b e = e

pub none_measured : (before : List Command) (c : Command) →
    ((k : ℕ) → measured (c ∷ []) k ≡ false) → measured (before ++ (c ∷ [])) ≡ measured before
none_measured before c h = fun_ext λ k. measured-append before (c ∷ []) k
    ∙ or_none (measured before k) (measured (c ∷ []) k) (h k)

pub prepared-append : (cs ds : List Command) → prepared (cs ++ ds) ≡ prepared cs + prepared ds
unfolding prepared
prepared-append [] ds = omega arith
prepared-append (Prep q ∷ cs) ds = let h = prepared-append cs ds in omega arith
prepared-append (Ent q r ∷ cs) ds = prepared-append cs ds
prepared-append (Meas q a s t ∷ cs) ds = prepared-append cs ds
prepared-append (FixX q s ∷ cs) ds = prepared-append cs ds
prepared-append (FixZ q s ∷ cs) ds = prepared-append cs ds

pub gone_or_live : (inputs : ℕ) (before : List Command) (i q : ℕ) → measured before i ≡ true →
    IsLive inputs before q → i ≡ q → ⊥
gone_or_live inputs before i q m live e =
    true≢false (sym m ∙ ap (measured before) e ∙ live.is_not_measured)

pub moved_on : (inputs : ℕ) (before : List Command) (c : Command) (cs : List Command) →
    IsValid inputs (before ++ (c ∷ cs)) → IsValid inputs ((before ++ (c ∷ [])) ++ cs)
moved_on inputs before c cs v = subst (IsValid inputs) (sym (append_assoc before (c ∷ []) cs)) v

-- a builder that appends a command that fits keeps the list valid
no_cons : {A : Type 0} (before : List A) (c : A) (behind : List A) → [] ≡ before ++ (c ∷ behind) → ⊥
no_cons [] c behind e = absurd (cc)
no_cons (b ∷ before) c behind e = absurd (cc)

-- a place in a list with one more element: an earlier place, or the last one
last_place : {A : Type 0} {R : Type 0} (cs : List A) (d : A) (before : List A) (c : A)
    (behind : List A) → cs ++ (d ∷ []) ≡ before ++ (c ∷ behind) →
    ((rest : List A) → cs ≡ before ++ (c ∷ rest) → R) → (cs ≡ before → d ≡ c → R) → R
last_place [] d [] c behind e earlier last = last refl cc
last_place [] d (b ∷ before) c behind e earlier last =
    let f : [] ≡ before ++ (c ∷ behind) = cc in absurd (no_cons before c behind f)
last_place (x ∷ cs) d [] c behind e earlier last =
    earlier cs (let f : x ≡ c = cc in ap (λ (y : _). y ∷ cs) f)
last_place (x ∷ cs) d (b ∷ before) c behind e earlier last =
    let f : x ≡ b = cc in
    let g : cs ++ (d ∷ []) ≡ before ++ (c ∷ behind) = cc in
    last_place cs d before c behind g
    (λ rest h. earlier rest (ap₂ (λ (y : _) (ys : List _). y ∷ ys) f h))
    (λ h k. last (ap₂ (λ (y : _) (ys : List _). y ∷ ys) f h) k)

pub nothing_valid : (inputs : ℕ) → IsValid inputs []
nothing_valid inputs = record { at = λ before c behind e. absurd (no_cons before c behind e) }

pub valid_with : (inputs : ℕ) (cs : List Command) (d : Command) → IsValid inputs cs →
    FitsBehind inputs cs d → IsValid inputs (cs ++ (d ∷ []))
valid_with inputs cs d v fits = record {
  at = λ before c behind e.
      last_place cs d before c behind e
      (λ rest h. v.at before c rest h)
      (λ h k. subst₂ (λ (bs : List Command) (b : Command). FitsBehind inputs bs b) h k fits);
}

-- which qubits are live depends on what is prepared and measured alone
pub live_same : (inputs : ℕ) (b1 b2 : List Command) (q : ℕ) → prepared b1 ≡ prepared b2 →
    measured b1 ≡ measured b2 → IsLive inputs b1 q → IsLive inputs b2 q
live_same inputs b1 b2 q p m l = record {
  is_there = let h = l.is_there in omega arith;
  is_not_measured = sym (ap (λ (g : Bits). g q) m) ∙ l.is_not_measured;
}

-- the members of sums were measured where those of the parts were
pub done_toggled : (m : Bits) (q : ℕ) (ps : List ℕ) → m q ≡ true → AllDone m ps →
    AllDone m (toggled q ps)
unfolding toggled
done_toggled m q [] h d = (h, tt)
done_toggled m q (p ∷ ps) h d = elim (cases_Bool (nat_lt q p)) [
  | inl e ↦ rw e (h, d)
  | inr e ↦ rw e (elim (cases_Bool (nat_eq q p))
      [ inl f ↦ rw f d.1 | inr f ↦ rw f (d.0, done_toggled m q ps h d.1) ])
]

pub done_sum : (m : Bits) (qs ps : List ℕ) → AllDone m qs → AllDone m ps → AllDone m (toggled_all qs ps)
unfolding toggled_all
done_sum m [] ps dq dp = dp
done_sum m (q ∷ qs) ps dq dp = done_toggled m q (toggled_all qs ps) dq.0 (done_sum m qs ps dq.1 dp)
