-- Edges that rise are the pairs that they join.
use Rattle.std.proofs.Common.{◌≡◌, ℕ, ◌<◌, Bool, true, false, not, ◌||◌, List, [], ◌∷◌, ◌++◌, refl}
use Rattle.std.proofs.Common.{sym, ◌∙◌, ap, ap₂, arith, length-append}
use Rattle.std.specs.Prelude.{All}
use Rattle.std.specs.List.{list_any}
use Rattle.std.proofs.lemmas.Bool.{eq-eqb, cases_order, false_from_ne_true, false≢true}
use Rattle.std.proofs.lemmas.List.{get_or_append_left}
use Rattle.std.proofs.lemmas.List.Elements.{All-cons, All-head, All-tail, All-weaker}
use mathlib.Core.Logic.{inl, inr}
use Rattle.mc_model.specs.Bits.{◌⊻◌, same_pair}
use Rattle.mc_model.specs.Numbers.{pairs_below}
use Rattle.mc_model.specs.Graph.{Edge, edge, joins, IsBehind, EdgesRise}
use Rattle.mc_model.proofs.PairLemmas.{pair_ends, joins-pairs}
use Rattle.mc_model.proofs.Refutation.{joins_comm}
use Rattle.mc_graph.proofs.RisingEdges.{pairs_rise}

behind_trans : (d e f : Edge) → IsBehind d e → IsBehind e f → IsBehind d f
behind_trans d e f h k = elim h [
  | inl l ↦ elim k [
    | inl m ↦ inl (omega arith)
    | inr m ↦ (let same = m.0 in inl (omega arith))
  ]
  | inr l ↦ elim k [
    | inl m ↦ (let same = l.0 in inl (omega arith))
    | inr m ↦
        let first = l.0 in
        let second = m.0 in
        let less = l.1 in
        let lesser = m.1 in
        inr (omega arith, omega arith)
  ]
]

all_behind : (e f : Edge) (fs : List Edge) → IsBehind e f → All (IsBehind f) fs →
    All (IsBehind e) (f ∷ fs)
all_behind e f fs h behind =
    All-cons (IsBehind e) f fs h
    (All-weaker (IsBehind f) (IsBehind e) (λ d k. behind_trans e f d h k) fs behind)

-- rising pairs that are one have the same ends
same_ends : (e f : Edge) → e.one < e.other → f.one < f.other →
    same_pair e.one e.other f.one f.other ≡ true → (e.one ≡ f.one) × (e.other ≡ f.other)
same_ends e f le lf same = elim (pair_ends e.one e.other f.one f.other same) [
  | inl p ↦ p
  | inr p ↦
      let first = p.0 in
      let second = p.1 in
      absurd (omega arith)
]

not_behind : (e f : Edge) → (e.one ≡ f.one) × (e.other ≡ f.other) → IsBehind e f → ⊥
not_behind e f same h =
    let first = same.0 in
    let second = same.1 in
    elim h [ inl l ↦ absurd (omega arith) | inr l ↦ (let less = l.1 in absurd (omega arith)) ]

apart : (e f : Edge) → e.one < e.other → f.one < f.other → IsBehind e f →
    same_pair e.one e.other f.one f.other ≡ false
apart e f le lf h =
    false_from_ne_true (same_pair e.one e.other f.one f.other)
    (λ same. absurd (not_behind e f (same_ends e f le lf same) h))

apart_back : (e f : Edge) → e.one < e.other → f.one < f.other → IsBehind f e →
    same_pair e.one e.other f.one f.other ≡ false
apart_back e f le lf h =
    false_from_ne_true (same_pair e.one e.other f.one f.other) (λ same.
    let ends = same_ends e f le lf same in
    absurd (not_behind f e (sym ends.0, sym ends.1) h))

-- a pair before all edges is not joined
none_joined : (n : ℕ) (e : Edge) (fs : List Edge) → e.one < e.other → EdgesRise n fs →
    All (IsBehind e) fs → joins fs e.one e.other ≡ false
unfolding joins
none_joined n e [] le rise behind = refl
none_joined n e (f ∷ fs) le rise behind =
    ap₂ (λ (a b : Bool). a ⊻ b) (apart e f le rise.0 (All-head (IsBehind e) f fs behind))
    (none_joined n e fs le rise.3 (All-tail (IsBehind e) f fs behind))

pair_itself : (v w : ℕ) → same_pair v w v w ≡ true
pair_itself v w = rw (eq-eqb v v refl, eq-eqb w w refl) refl

first_joined : (n : ℕ) (e : Edge) (es : List Edge) → EdgesRise n (e ∷ es) →
    joins (e ∷ es) e.one e.other ≡ true
unfolding joins
first_joined n e es rise =
    ap₂ (λ (a b : Bool). a ⊻ b) (pair_itself e.one e.other)
    (none_joined n e es rise.0 rise.3 rise.2)

-- the same pairs below `n` are joined
JoinSame : ℕ → List Edge → List Edge → Type 0
JoinSame n es fs = (v w : ℕ) → v < w → w < n → joins es v w ≡ joins fs v w

cancel : (a b c : Bool) → a ⊻ b ≡ a ⊻ c → b ≡ c
cancel a b c e = grind arith

same_tail : (n : ℕ) (e f : Edge) (es fs : List Edge) → e ≡ f → JoinSame n (e ∷ es) (f ∷ fs) →
    JoinSame n es fs
unfolding joins JoinSame
same_tail n e f es fs same h = λ v w l m.
    cancel (same_pair v w e.one e.other) (joins es v w) (joins fs v w)
    (h v w l m ∙ ap (λ (d : Edge). same_pair v w d.one d.other ⊻ joins fs v w) (sym same))

-- no edge that rises stands before all others
not_before : (n : ℕ) (e f : Edge) (es fs : List Edge) → EdgesRise n (e ∷ es) →
    EdgesRise n (f ∷ fs) → JoinSame n (e ∷ es) (f ∷ fs) → IsBehind e f → ⊥
unfolding JoinSame
not_before n e f es fs re rf h behind =
    false≢true
    (sym (none_joined n e (f ∷ fs) re.0 rf (all_behind e f fs behind rf.2))
    ∙ sym (h e.one e.other re.0 re.1)
    ∙ first_joined n e es re)

flip : (n : ℕ) (es fs : List Edge) → JoinSame n es fs → JoinSame n fs es
unfolding JoinSame
flip n es fs h = λ v w l m. sym (h v w l m)

one_first : (n : ℕ) (e f : Edge) (es fs : List Edge) → EdgesRise n (e ∷ es) →
    EdgesRise n (f ∷ fs) → JoinSame n (e ∷ es) (f ∷ fs) → e ≡ f
one_first n e f es fs re rf h =
    let before = not_before n e f es fs re rf h in
    let behind = not_before n f e fs es rf re (flip n (e ∷ es) (f ∷ fs) h) in
    elim (cases_order e.one f.one) [
      | inl one ↦ elim (cases_order e.other f.other) [
        | inl other ↦ ap₂ edge one other
        | inr o ↦ elim o [
          | inl lt ↦ absurd (before (inr (one, lt)))
          | inr gt ↦ absurd (behind (inr (sym one, gt)))
        ]
      ]
      | inr o ↦ elim o [
        | inl lt ↦ absurd (before (inl lt))
        | inr gt ↦ absurd (behind (inl gt))
      ]
    ]

rising_same : (n : ℕ) (es fs : List Edge) → EdgesRise n es → EdgesRise n fs → JoinSame n es fs →
    es ≡ fs
unfolding joins JoinSame
rising_same n [] [] re rf h = refl
rising_same n [] (f ∷ fs) re rf h =
    absurd (false≢true (h f.one f.other rf.0 rf.1 ∙ first_joined n f fs rf))
rising_same n (e ∷ es) [] re rf h =
    absurd (false≢true (sym (h e.one e.other re.0 re.1) ∙ first_joined n e es re))
rising_same n (e ∷ es) (f ∷ fs) re rf h =
    let same = one_first n e f es fs re rf h in
    ap₂ (λ (d : Edge) (ds : List Edge). d ∷ ds) same
    (rising_same n es fs re.3 rf.3 (same_tail n e f es fs same h))

pub pairs_joined : (n : ℕ) (es : List Edge) → EdgesRise n es → pairs_below edge (joins es) n n ≡ es
unfolding JoinSame
pairs_joined n es rise =
    rising_same n (pairs_below edge (joins es) n n) es (pairs_rise n (joins es) n) rise
    (λ v w l m.
    joins-pairs (joins es) (joins_comm es) n v w (omega arith) m (λ e. absurd (omega arith)))

-- a pair is joined where it is one of the edges
or_sum : (a b : Bool) → (a ≡ true → b ≡ false) → a || b ≡ a ⊻ b
or_sum true b h = sym (ap not (h refl))
or_sum false b h = refl

pub any_joins : (n : ℕ) (es : List Edge) (v w : ℕ) → v < w → EdgesRise n es →
    list_any (λ e. same_pair v w e.one e.other) es ≡ joins es v w
unfolding joins
any_joins n [] v w lt rise = refl
any_joins n (e ∷ es) v w lt rise =
    ap (λ (b : Bool). same_pair v w e.one e.other || b) (any_joins n es v w lt rise.3)
    ∙ or_sum (same_pair v w e.one e.other) (joins es v w) (λ same.
    let ends = same_ends (edge v w) e lt rise.0 same in
    ap₂ (joins es) ends.0 ends.1 ∙ none_joined n e es rise.0 rise.3 rise.2)

-- ---- the edges before one

pub all_at : {A : Type 0} (P : A → Type 0) (xs : List A) (y : A) (ys : List A) →
    All P (xs ++ y ∷ ys) → P y
all_at P [] y ys all = All-head P y ys all
all_at P (x ∷ xs) y ys all = all_at P xs y ys (All-tail P x (xs ++ y ∷ ys) all)

pub all_front : {A : Type 0} (P : A → Type 0) (xs ys : List A) → All P (xs ++ ys) → All P xs
all_front P xs ys all = λ k d lt.
    let long = length-append xs ys in
    rw (← get_or_append_left xs ys d k lt) (all k d (omega arith))

pub rising_front : (n : ℕ) (es fs : List Edge) → EdgesRise n (es ++ fs) → EdgesRise n es
rising_front n [] fs rise = tt
rising_front n (e ∷ es) fs rise =
    (rise.0, rise.1, all_front (IsBehind e) es fs rise.2, rising_front n es fs rise.3)

pub rising_back : (n : ℕ) (es fs : List Edge) → EdgesRise n (es ++ fs) → EdgesRise n fs
rising_back n [] fs rise = rise
rising_back n (e ∷ es) fs rise = rising_back n es fs rise.3

pub none_before : (n : ℕ) (es : List Edge) (e : Edge) (fs : List Edge) →
    EdgesRise n (es ++ e ∷ fs) → list_any (λ d. same_pair e.one e.other d.one d.other) es ≡ false
none_before n [] e fs rise = refl
none_before n (d ∷ es) e fs rise =
    let here = rising_back n (d ∷ es) (e ∷ fs) rise in
    ap₂ (λ (a b : Bool). a || b)
    (apart_back e d here.0 rise.0 (all_at (IsBehind d) es e fs rise.2))
    (none_before n es e fs rise.3)
