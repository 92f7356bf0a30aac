-- Edits of a list at a place, and what a map makes of them.
use Rattle.std.proofs.Common.{◌≡◌, ℕ, zero, suc, ◌+◌, ◌-◌, ◌≤◌, List, [], ◌∷◌, ◌++◌, map}
use Rattle.std.proofs.Common.{length}
use Rattle.std.proofs.Common.{take, drop, set, refl, sym, ◌∙◌, ap, ap₂, arith, append_assoc}
use Rattle.std.specs.List.{swap, insert, remove}
use Rattle.std.proofs.lemmas.List.{map-append, length-map, set-append_right, get_or-append-add}
use Rattle.std.proofs.lemmas.List.Edits.{swap_is}
use Rattle.std.proofs.Math.Seq.{set-append_seam, get_or-append_seam, take-append_seam}
use Rattle.std.proofs.Math.Seq.{drop-append_seam, take-append-add, drop-append-add}

-- the list with one element, or two, at a place
pub record OneAt {X : Type 0} (xs : List X) (i : ℕ) : Type 0 where
  pub before : List X
  pub here : X
  pub behind : List X
  pub is : xs ≡ before ++ (here ∷ behind)
  pub at : i ≡ length before

pub record TwoAt {X : Type 0} (xs : List X) (i : ℕ) : Type 0 where
  pub before : List X
  pub here : X
  pub next : X
  pub behind : List X
  pub is : xs ≡ before ++ (here ∷ next ∷ behind)
  pub at : i ≡ length before

pub one_at : {X : Type 0} (xs : List X) (i : ℕ) → i + 1 ≤ length xs → OneAt xs i
one_at [] i h = absurd (omega arith)
one_at (x ∷ xs) zero h =
    record { before = []; here = x; behind = xs; is = refl; at = refl }
one_at (x ∷ xs) (suc i) h =
    let rest = one_at xs i (omega arith) in
    record {
      before = x ∷ rest.before;
      here = rest.here;
      behind = rest.behind;
      is = ap (λ (ys : List _). x ∷ ys) rest.is;
      at = let e = rest.at in omega arith;
    }

pub two_at : {X : Type 0} (xs : List X) (i : ℕ) → i + 2 ≤ length xs → TwoAt xs i
two_at [] i h = absurd (omega arith)
two_at (x ∷ []) zero h = absurd (omega arith)
two_at (x ∷ y ∷ xs) zero h =
    record { before = []; here = x; next = y; behind = xs; is = refl; at = refl }
two_at (x ∷ xs) (suc i) h =
    let rest = two_at xs i (omega arith) in
    record {
      before = x ∷ rest.before;
      here = rest.here;
      next = rest.next;
      behind = rest.behind;
      is = ap (λ (ys : List _). x ∷ ys) rest.is;
      at = let e = rest.at in omega arith;
    }

swap_two : {X : Type 0} (b : List X) (c d : X) (e : List X) →
    swap (b ++ (c ∷ d ∷ e)) (length b) (length b + 1) ≡ b ++ (d ∷ c ∷ e)
swap_two b c d e =
    let long = length-append b (c ∷ d ∷ e) in
    let one : length b + 1 - length b ≡ 1 = omega arith in
    sym (swap_is (b ++ (c ∷ d ∷ e)) (length b) (length b + 1) c (omega arith) (omega arith))
    ∙ ap₂ (λ (x y : _). set (set (b ++ (c ∷ d ∷ e)) (length b) x) (length b + 1) y)
    (get_or-append-add b (c ∷ d ∷ e) 1 c) (get_or-append_seam b c (d ∷ e) c)
    ∙ ap (λ (ys : List _). set ys (length b + 1) c) (set-append_seam b c (d ∷ e) d)
    ∙ set-append_right b (d ∷ d ∷ e) (length b) (length b + 1) c refl (omega arith)
    ∙ ap (λ (n : ℕ). b ++ set (d ∷ d ∷ e) n c) one
  where
    length-append : {X : Type 0} (xs ys : List X) → length (xs ++ ys) ≡ length xs + length ys
    length-append [] ys = omega arith
    length-append (x ∷ xs) ys = let h = length-append xs ys in omega arith

remove_one : {X : Type 0} (b : List X) (c : X) (e : List X) →
    remove (b ++ (c ∷ e)) (length b) ≡ b ++ e
remove_one b c e =
    let next : suc (length b) ≡ length b + 1 = omega arith in
    ap₂ (λ (xs ys : List _). xs ++ ys) (take-append_seam b (c ∷ e))
    (ap (λ (n : ℕ). drop n (b ++ (c ∷ e))) next ∙ drop-append-add b (c ∷ e) 1)

remove_next : {X : Type 0} (b : List X) (c d : X) (e : List X) →
    remove (b ++ (c ∷ d ∷ e)) (length b + 1) ≡ b ++ (c ∷ e)
remove_next b c d e =
    let next : suc (length b + 1) ≡ length b + 2 = omega arith in
    ap₂ (λ (xs ys : List _). xs ++ ys) (take-append-add b (c ∷ d ∷ e) 1)
    (ap (λ (n : ℕ). drop n (b ++ (c ∷ d ∷ e))) next ∙ drop-append-add b (c ∷ d ∷ e) 2)
    ∙ append_assoc b (c ∷ []) e

insert_behind : {X : Type 0} (b : List X) (c d x : X) (e : List X) →
    insert (b ++ (c ∷ d ∷ e)) (length b + 2) x ≡ b ++ (c ∷ d ∷ x ∷ e)
insert_behind b c d x e =
    ap₂ (λ (xs ys : List _). xs ++ (x ∷ ys)) (take-append-add b (c ∷ d ∷ e) 2)
    (drop-append-add b (c ∷ d ∷ e) 2)
    ∙ append_assoc b (c ∷ d ∷ []) (x ∷ e)

-- an edit behind the first `i` elements, where a map is applied
mapped : {X Y : Type 0} (f : X → Y) (G : List Y → List Y) (xs new : List X) (i : ℕ)
    (b ys zs : List X) → xs ≡ b ++ ys → i ≡ length b → new ≡ b ++ zs → map f zs ≡ G (map f ys) →
    map f new ≡ take i (map f xs) ++ G (drop i (map f xs))
mapped f G xs new i b ys zs is at to h =
    let e = map-append f b ys in
    let long : length b ≡ length (map f b) = sym (length-map b f) in
    rw (to, is, at) (map-append f b zs
    ∙ ap₂ (λ (vs ws : List _). vs ++ ws)
    (sym (rw (long, e) (take-append_seam (map f b) (map f ys))))
    (h ∙ ap G (sym (rw (long, e) (drop-append_seam (map f b) (map f ys))))))

-- what becomes of the elements at `i` and behind, where `G` says it of their images
pub exchanged_at : {X Y : Type 0} (f : X → Y) (G : List Y → List Y) (xs new : List X) (i : ℕ) →
    ((c d : X) (e : List X) → f d ∷ f c ∷ map f e ≡ G (f c ∷ f d ∷ map f e)) →
    i + 2 ≤ length xs → new ≡ swap xs i (i + 1) →
    map f new ≡ take i (map f xs) ++ G (drop i (map f xs))
exchanged_at f G xs new i step h e =
    let p = two_at xs i h in
    mapped f G xs new i p.before (p.here ∷ p.next ∷ p.behind) (p.next ∷ p.here ∷ p.behind)
    p.is p.at
    (e ∙ ap₂ (λ (ys : List _) (n : ℕ). swap ys n (n + 1)) p.is p.at
    ∙ swap_two p.before p.here p.next p.behind)
    (step p.here p.next p.behind)

pub added_at : {X Y : Type 0} (f : X → Y) (G : List Y → List Y) (xs mid new : List X) (i : ℕ)
    (x : X) → ((c d : X) (e : List X) → f d ∷ f c ∷ f x ∷ map f e ≡ G (f c ∷ f d ∷ map f e)) →
    i + 2 ≤ length xs → mid ≡ insert xs (i + 2) x → new ≡ swap mid i (i + 1) →
    map f new ≡ take i (map f xs) ++ G (drop i (map f xs))
added_at f G xs mid new i x step h k e =
    let p = two_at xs i h in
    let middle = k ∙ ap₂ (λ (ys : List _) (n : ℕ). insert ys (n + 2) x) p.is p.at
    ∙ insert_behind p.before p.here p.next x p.behind in
    mapped f G xs new i p.before (p.here ∷ p.next ∷ p.behind) (p.next ∷ p.here ∷ x ∷ p.behind)
    p.is p.at
    (e ∙ ap₂ (λ (ys : List _) (n : ℕ). swap ys n (n + 1)) middle p.at
    ∙ swap_two p.before p.here p.next (x ∷ p.behind))
    (step p.here p.next p.behind)

pub merged_at : {X Y : Type 0} (f : X → Y) (G : List Y → List Y) (xs mid new : List X) (i : ℕ)
    (x : X) → ((c d : X) (e : List X) → f x ∷ map f e ≡ G (f c ∷ f d ∷ map f e)) →
    i + 2 ≤ length xs → mid ≡ set xs i x → new ≡ remove mid (i + 1) →
    map f new ≡ take i (map f xs) ++ G (drop i (map f xs))
merged_at f G xs mid new i x step h k e =
    let p = two_at xs i h in
    let middle = k ∙ ap₂ (λ (ys : List _) (n : ℕ). set ys n x) p.is p.at
    ∙ set-append_seam p.before p.here (p.next ∷ p.behind) x in
    mapped f G xs new i p.before (p.here ∷ p.next ∷ p.behind) (x ∷ p.behind) p.is p.at
    (e ∙ ap₂ (λ (ys : List _) (n : ℕ). remove ys (n + 1)) middle p.at
    ∙ remove_next p.before x p.next p.behind)
    (step p.here p.next p.behind)

pub cancelled_at : {X Y : Type 0} (f : X → Y) (G : List Y → List Y) (xs mid new : List X) (i : ℕ) →
    ((c d : X) (e : List X) → map f e ≡ G (f c ∷ f d ∷ map f e)) →
    i + 2 ≤ length xs → mid ≡ remove xs (i + 1) → new ≡ remove mid i →
    map f new ≡ take i (map f xs) ++ G (drop i (map f xs))
cancelled_at f G xs mid new i step h k e =
    let p = two_at xs i h in
    let middle = k ∙ ap₂ (λ (ys : List _) (n : ℕ). remove ys (n + 1)) p.is p.at
    ∙ remove_next p.before p.here p.next p.behind in
    mapped f G xs new i p.before (p.here ∷ p.next ∷ p.behind) p.behind p.is p.at
    (e ∙ ap₂ (λ (ys : List _) (n : ℕ). remove ys n) middle p.at
    ∙ remove_one p.before p.here p.behind)
    (step p.here p.next p.behind)

pub put_at : {X Y : Type 0} (f : X → Y) (G : List Y → List Y) (xs new : List X) (i : ℕ) (x : X) →
    ((c : X) (e : List X) → f x ∷ map f e ≡ G (f c ∷ map f e)) →
    i + 1 ≤ length xs → new ≡ set xs i x →
    map f new ≡ take i (map f xs) ++ G (drop i (map f xs))
put_at f G xs new i x step h e =
    let p = one_at xs i h in
    mapped f G xs new i p.before (p.here ∷ p.behind) (x ∷ p.behind) p.is p.at
    (e ∙ ap₂ (λ (ys : List _) (n : ℕ). set ys n x) p.is p.at
    ∙ set-append_seam p.before p.here p.behind x)
    (step p.here p.behind)

pub removed_at : {X Y : Type 0} (f : X → Y) (G : List Y → List Y) (xs new : List X) (i : ℕ) →
    ((c : X) (e : List X) → map f e ≡ G (f c ∷ map f e)) →
    i + 1 ≤ length xs → new ≡ remove xs i →
    map f new ≡ take i (map f xs) ++ G (drop i (map f xs))
removed_at f G xs new i step h e =
    let p = one_at xs i h in
    mapped f G xs new i p.before (p.here ∷ p.behind) p.behind p.is p.at
    (e ∙ ap₂ (λ (ys : List _) (n : ℕ). remove ys n) p.is p.at
    ∙ remove_one p.before p.here p.behind)
    (step p.here p.behind)
