-- Nothing is against the lines of a gate list's canonical text.
use Rattle.std.proofs.Common.{◌≡◌, ℕ, suc, ◌+◌, ◌<◌, ◌≤◌, List, [], ◌∷◌, ◌++◌, All, Bool, true}
use Rattle.std.proofs.Common.{false, ◌&&◌, Option, Some, None, length, map, codes, refl, sym, ◌∙◌}
use Rattle.std.proofs.Common.{append_assoc, length-append, arith, ne_eqb, nat_eq, nat_le, cond}
use Rattle.std.proofs.Common.{count_by, if◌then◌else◌}
use Rattle.std.specs.List.{flat_map, list_all, list_any, IsDistinct, AllByRecursion}
use Rattle.std.proofs.lemmas.Bool.{eq-eqb}
use Rattle.std.proofs.lemmas.Bool.Decides.{nat_tests}
use Rattle.std.proofs.lemmas.List.{append-nil, map-append, get_or_append_left}
use Rattle.std.proofs.Math.Seq.{get_or-append_seam}
use Rattle.std.proofs.lemmas.List.Sums.{sum_by-append, sum_by-cons}
use Rattle.mc_model.specs.Names.{Name, AreNames, name_eq, is_name, is_held}
use Rattle.mc_write.specs.Named.{name_at}
use Rattle.mc_text.specs.declared.head.Head.{Head}
use Rattle.mc_text.specs.declared.head.Head.TheVariants.{In, Plus, Out}
use Rattle.mc_text.specs.Heads.{head_of, head_in, is_end, spelling}
use Rattle.mc_text.specs.Points.{point_of, last_head}
use Rattle.mc_text.specs.Judged.{Words, Lines}
use Rattle.mc_text.specs.Lists.{names_in, names_at, begun, count_of}
use Rattle.mc_text.proofs.Going.{head_at}
use Rattle.mc_text.proofs.Kept.{count_at, count_some, names_at-line, count_of-line}
use Rattle.mc_text.proofs.Numbers.{listed-number}
use Rattle.mc_text.proofs.Listed.{all_listed}
use Rattle.mc_text.proofs.Clean.{CleanWords, Clean, more}
use Rattle.mc_text.proofs.Naming.{place-name_at, held-name_at, is_name-name_at, numbers-name_at}
use Rattle.mc_text.proofs.Naming.{any-count, distinct_front}
use Rattle.mc_circuit.specs.Roles.{is_defining, is_output}
use Rattle.mc_gates.specs.Gates.{Op, OpFits, OpsFit}
use Rattle.mc_gates_text.specs.Words.{arity, is_gate, gate_word, operands}
use Rattle.mc_gates_text.specs.Roles.{role_in, role_of, defined, goes_on, may_follow}
use Rattle.mc_gates_text.specs.Judge.{gates_rules}
use Rattle.mc_gates_text.specs.Canonical.{op_line}
use Rattle.mc_gates_text.proofs.Tables.{arity_few, gate_role}
use Rattle.mc_gates_text.proofs.KeepingLine.{last_head-more}
use Rattle.mc_gates_text.proofs.Spelled.{word_of, below, named_apart}

-- the role of a word behind a record word, and the names of its line
role_at : (before : Lines) (h : List ℕ) (done : Words)
    → role_of (point_of before (h ∷ done)) ≡ role_in (head_of h) (point_of before (h ∷ done)).count
role_at before h done =
    rw (
      ne_eqb (point_of before (h ∷ done)).count 0 (count_some before h done),
      head_at before (h ∷ done),
    ) refl

names_here : (test : Option Head → Bool) (before : Lines) (h : List ℕ) (ws : Words)
    → names_at test before (h ∷ ws)
    ≡ names_at test before [] ++ (if test (head_of h) then ws else [])
names_here test before h ws = rw (append-nil (flat_map (names_in test) before)) refl

defining_role : (h : Option Head) (n : ℕ) → is_defining h ≡ true → role_in h n ≡ defined
defining_role None n e = absurd (cc e)
defining_role (Some In) n e = refl
defining_role (Some Plus) n e = refl
defining_role (Some _) n e = absurd (cc e)

and_both : (a b : Bool) → (a && b) ≡ true → (a ≡ true) × (b ≡ true)
and_both true b e = (refl, e)
and_both false b e = absurd (cc e)

-- distinct names may be defined
pub define_words : (before : Lines) (h : List ℕ) (done ws : Words) → is_defining (head_of h) ≡ true
    → list_all is_name ws ≡ true
    → IsDistinct name_eq (names_at is_defining before [] ++ (done ++ ws))
    → length (names_at is_defining before [] ++ (done ++ ws)) ≤ 256
    → CleanWords gates_rules before (h ∷ done) ws
define_words before h done [] defines names distinct few =
    let role = role_at before h done in
    let is = defining_role (head_of h) (point_of before (h ∷ done)).count defines in
    rw (role, is) refl
define_words before h done (w ∷ ws) defines names distinct few =
    let earlier = names_at is_defining before [] in
    let role = role_at before h done in
    let is = defining_role (head_of h) (point_of before (h ∷ done)).count defines in
    let both = and_both (is_name w) (list_all is_name ws) names in
    let grouped : earlier ++ (done ++ w ∷ ws) ≡ (earlier ++ done) ++ w ∷ ws =
    sym (append_assoc earlier done (w ∷ ws)) in
    let free = distinct_front (earlier ++ done) w ws (rw (← grouped) distinct) in
    let len = length-append (earlier ++ done) (w ∷ ws) in
    let few' : length ((earlier ++ done) ++ w ∷ ws) ≤ 256 = rw (← grouped) few in
    let room : nat_le 256 (length (earlier ++ done)) ≡ false = grind (arith, nat_tests) in
    let here = names_here is_defining before h done in
    let next : (done ++ w ∷ []) ++ ws ≡ done ++ (w ∷ ws) = append_assoc done (w ∷ []) ws in (
      rw (role, is, here, defines, both.0, free, room) refl,
      define_words before h (done ++ w ∷ []) ws defines both.1
          (rw next distinct) (rw next few),
    )

-- the names are defined, and so many gates may come
pub record IsOpen (names : List Name) (before : Lines) (n : ℕ) : Type 0 where
  pub defined : names_at is_defining before [] ≡ names
  pub none : names_at is_output before [] ≡ []
  pub takes : (h : Option Head) → goes_on h ≡ true → may_follow (last_head before) h ≡ true
  pub room : count_of is_gate before [] + n ≤ 32768

no_definition : (h : Option Head) → is_gate h ≡ true → is_defining h ≡ false
no_definition None e = refl
no_definition (Some In) e = absurd (cc e)
no_definition (Some Plus) e = absurd (cc e)
no_definition (Some _) e = refl

-- operands that are distinct wires
operands_clean : (names : List Name) (before : Lines) (n : ℕ) (h : List ℕ) (done : Words)
    (qs : List ℕ) → IsOpen names before n → AreNames names → is_gate (head_of h) ≡ true
    → length done + length qs ≡ arity (head_of h) → AllByRecursion (λ q. q < length names) qs
    → IsDistinct name_eq (done ++ map (name_at names) qs)
    → CleanWords gates_rules before (h ∷ done) (map (name_at names) qs)
operands_clean names before n h done [] ready valid gate long under distinct =
    let role = role_at before h done in
    let is = gate_role (head_of h) (point_of before (h ∷ done)).count gate in
    let count = count_at before (h ∷ done) in
    let few = arity_few (head_of h) in
    let over : arity (head_of h) < (point_of before (h ∷ done)).count =
    omega (arith, count, few, long) in
    let past : nat_le (point_of before (h ∷ done)).count (arity (head_of h)) ≡ false =
    grind (arith, nat_tests) in
    rw (role, is, past) refl
operands_clean names before n h done (q ∷ qs) ready valid gate long under distinct =
    let word = name_at names q in
    let role = role_at before h done in
    let is = gate_role (head_of h) (point_of before (h ∷ done)).count gate in
    let count = count_at before (h ∷ done) in
    let few = arity_few (head_of h) in
    let upto : (point_of before (h ∷ done)).count ≤ arity (head_of h) =
    omega (arith, count, few, long) in
    let within : nat_le (point_of before (h ∷ done)).count (arity (head_of h)) ≡ true =
    grind (arith, nat_tests) in
    let defines = names_here is_defining before h done in
    let none = no_definition (head_of h) gate in
    let named = is_name-name_at names q valid under.0 in
    let held = held-name_at names q valid.distinct under.0 in
    let free = distinct_front done word (map (name_at names) qs) distinct in
    let next : (done ++ word ∷ []) ++ map (name_at names) qs
    ≡ done ++ (word ∷ map (name_at names) qs) =
    append_assoc done (word ∷ []) (map (name_at names) qs) in
    let size = length-append done (word ∷ []) in (
      rw (
        role,
        is,
        within,
        defines,
        none,
        append-nil (names_at is_defining before []),
        ready.defined,
        named,
        held,
        gate,
        free,
      ) refl,
      operands_clean names before n h (done ++ word ∷ []) qs ready valid gate
          (omega (arith, size, long)) under.1 (rw next distinct),
    )

op_clean : (names : List Name) (before : Lines) (n : ℕ) (g : Op) → IsOpen names before (suc n)
    → AreNames names → OpFits (length names) g
    → CleanWords gates_rules before [] (op_line names g)
op_clean names before n g h valid fit =
    let head = spelling (gate_word g) in
    let is = word_of g in
    let goes : goes_on (head_of head) ≡ true = rw (is.word, is.gate) refl in
    let follows = h.takes (head_of head) goes in
    let more = h.room in
    let room : nat_le 32768 (count_of is_gate before []) ≡ false = grind (arith, nat_tests) in
    let many : 0 + length (operands g) ≡ length (operands g) = omega arith in (
      rw (follows, room, is.word, is.gate) refl,
      operands_clean names before (suc n) head [] (operands g) h valid (rw is.word is.gate)
          (many ∙ rw is.word (sym is.many)) (below (length names) g fit)
          (named_apart names g valid fit),
    )

op_begun : (names : List Name) (g : Op) → begun is_gate (op_line names g) ≡ 1
op_begun names g = rw ((word_of g).word, (word_of g).gate) refl

op_open : (names : List Name) (before : Lines) (n : ℕ) (g : Op) → IsOpen names before (suc n)
    → IsOpen names (before ++ op_line names g ∷ []) n
op_open names before n g h =
    let head = spelling (gate_word g) in
    let words = map (name_at names) (operands g) in
    let is = word_of g in
    let last = last_head-more before (op_line names g) in
    let line = count_of-line is_gate before (op_line names g) in
    let one = op_begun names g in
    let room = h.room in
    record {
      defined =
          names_at-line is_defining before (op_line names g)
          ∙ names_here is_defining before head words
          ∙ rw (is.word, is.no_wires, append-nil (names_at is_defining before [])) h.defined;
      none =
          names_at-line is_output before (op_line names g)
          ∙ names_here is_output before head words
          ∙ rw (is.word, is.no_outputs, append-nil (names_at is_output before [])) h.none;
      takes = λ other goes. rw (last, is.word) (is.before other goes);
      room = omega (arith, line, one, room);
    }

op_no_end : (names : List Name) (g : Op) → is_end (head_in (op_line names g)) ≡ false
op_no_end names g = rw (word_of g).word (word_of g).no_end

pub ops_clean : (names : List Name) (before : Lines) (gs : List Op) (tail : Lines)
    → IsOpen names before (length gs) → AreNames names → OpsFit (length names) gs
    → ((before' : Lines) → IsOpen names before' 0 → Clean gates_rules before' tail)
    → Clean gates_rules before (map (op_line names) gs ++ tail)
ops_clean names before [] tail h valid fit rest = rest before h
ops_clean names before (g ∷ gs) tail h valid fit rest =
    more before (op_line names g) (map (op_line names) gs ++ tail)
    (op_clean names before (length gs) g h valid fit.0) (op_no_end names g)
    (ops_clean names (before ++ op_line names g ∷ []) gs tail
    (op_open names before (length gs) g h) valid fit.1 rest)

-- outputs that are listed once each
all_front : (n : ℕ) (xs ys : List ℕ) → All (λ q. q < n) (xs ++ ys) → All (λ q. q < n) xs
all_front n xs ys h = λ k d lt.
    let long = length-append xs ys in
    rw (← get_or_append_left xs ys d k lt) (h k d (omega arith))

count_front : (q : ℕ) (done qs : List ℕ) → count_by (nat_eq q) (done ++ q ∷ qs) ≡ 1
    → count_by (nat_eq q) done ≡ 0
count_front q done qs once =
    let both = sum_by-append (λ s. cond (nat_eq q s) 1 0) done (q ∷ qs) in
    let here = sum_by-cons (λ s. cond (nat_eq q s) 1 0) q qs in
    let one : ℕ = 1 in
    let same : cond (nat_eq q q) 1 0 ≡ one = rw (eq-eqb q q refl) refl in
    omega (arith, both, here, same, once)

pub outputs_clean : (names : List Name) (before : Lines) (done qs : List ℕ)
    → IsOpen names before 0 → AreNames names → All (λ q. q < length names) (done ++ qs)
    → ((q : ℕ) → q < length names → count_by (nat_eq q) (done ++ qs) ≡ 1)
    → CleanWords gates_rules before (codes "out" ∷ map (name_at names) done)
    (map (name_at names) qs)
outputs_clean names before done [] h valid below once =
    let list = map (name_at names) done in
    let role = role_at before (codes "out") list in
    let here = names_here is_output before (codes "out") list in
    let defines = names_here is_defining before (codes "out") list in
    let all = rw (append-nil done) at once in
    let under : All (λ q. q < length names) done = rw (append-nil done) at below in
    let each : (q : ℕ) → q < length names → list_any (λ r. nat_eq r q) done ≡ true = λ q lt.
    any-count q done ∙ rw (all q lt) refl in
    let whole = all_listed names list done valid.distinct
    (numbers-name_at names done valid.distinct under) each in
    rw (
      role,
      here,
      h.none,
      defines,
      append-nil (names_at is_defining before []),
      h.defined,
      whole,
    ) refl
outputs_clean names before done (q ∷ qs) h valid below once =
    let list = map (name_at names) done in
    let lt : q < length names =
    let seam = get_or-append_seam done q qs 0 in
    let long = length-append done (q ∷ qs) in
    rw (← seam) (below (length done) 0 (omega arith)) in
    let role = role_at before (codes "out") list in
    let here = names_here is_output before (codes "out") list in
    let defines = names_here is_defining before (codes "out") list in
    let named = is_name-name_at names q valid lt in
    let held = held-name_at names q valid.distinct lt in
    let are = numbers-name_at names done valid.distinct
    (all_front (length names) done (q ∷ qs) below) in
    let none = count_front q done qs (once q lt) in
    let any : list_any (λ r. nat_eq r q) done ≡ false = any-count q done ∙ rw none refl in
    let place = place-name_at names q valid.distinct lt in
    let free : is_held list (name_at names q) ≡ false =
    sym (listed-number names list (name_at names q) q place are.held)
    ∙ rw (← are.numbers_are) any in
    let next : (done ++ q ∷ []) ++ qs ≡ done ++ (q ∷ qs) = append_assoc done (q ∷ []) qs in
    let rest = outputs_clean names before (done ++ q ∷ []) qs h valid (rw next below)
    (rw next once) in (
      rw (
        role,
        here,
        h.none,
        defines,
        append-nil (names_at is_defining before []),
        h.defined,
        named,
        held,
        free,
      ) refl,
      rw (map-append (name_at names) done (q ∷ [])) at rest,
    )

pub outputs_begin : (names : List Name) (before : Lines) → IsOpen names before 0
    → gates_rules.judge before [] (codes "out") ≡ None
outputs_begin names before h =
    let follows = h.takes (Some Out) refl in
    rw follows refl
