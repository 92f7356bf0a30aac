-- What is kept of the lines of a trace, with one word more and with one line more.
use Rattle.std.proofs.Common.{◌≡◌, ℕ, ◌<◌, ◌≤◌, Bool, true, false, not, ◌&&◌, nat_le}
use Rattle.std.proofs.Common.{List, [], ◌∷◌, ◌++◌, length, refl, sym, ap, ◌∙◌, arith, Option, Some}
use Rattle.std.proofs.Common.{None, if◌then◌else◌, length-append, filter_map}
use Rattle.std.proofs.lemmas.Bool.Decides.{nat_tests}
use Rattle.std.proofs.lemmas.List.{append-nil}
use Rattle.std.proofs.lemmas.List.Elements.{All-push, filter_map-append}
use Rattle.mc_model.specs.Derivation.{Rule, Use}
use Rattle.mc_text.specs.declared.head.Head.{Head}
use Rattle.mc_text.specs.declared.head.Head.TheVariants.{U}
use Rattle.mc_text.specs.declared.point.Point.{Point}
use Rattle.mc_text.specs.declared.fault.Fault.TheVariants.{NotFixed}
use Rattle.mc_text.specs.Heads.{head_of}
use Rattle.mc_text.specs.Points.{point_of, last_head}
use Rattle.mc_text.specs.Judged.{Words, Lines}
use Rattle.mc_text.specs.Rules.{broken, passed, or_next}
use Rattle.mc_trace_text.specs.declared.section.Role.TheVariants as role
use Rattle.mc_trace_text.specs.Traces.{follows_in_trace, is_use, role_of}
use Rattle.mc_trace_text.specs.Traces.{spelled_use, most_uses, trace_rules}
use Rattle.mc_trace_text.specs.Traces.{CanBeWritten}
use Rattle.mc_trace_text.specs.Kept.{IsLine, IsKept, Takes, Ends}

use_head : (head : Option Head) → is_use head ≡ true → head ≡ Some U
use_head None e = absurd (cc e)
use_head (Some U) e = refl
use_head (Some _) e = absurd (cc e)

-- what the next word of a line is
second_role : (before : Lines) (h : List ℕ) (t : Bool) → is_use (head_of h) ≡ t
    → role_of (point_of before (h ∷ [])) ≡ (if t then role.Place else role.Surplus)
second_role before h true e = rw e refl
second_role before h false e = rw e refl

third_role : (before : Lines) (h n : List ℕ) → head_of h ≡ Some U
    → role_of (point_of before (h ∷ n ∷ [])) ≡ role.Rule
third_role before h n e = rw e refl

fourth_role : (before : Lines) (h n w : List ℕ) → head_of h ≡ Some U
    → role_of (point_of before (h ∷ n ∷ w ∷ [])) ≡ role.Surplus
fourth_role before h n w e = rw e refl

-- the limit
pub under : (m count : ℕ) → nat_le m count ≡ false → count < m
under m count e = grind (arith, nat_tests)

room_by : (fits : Bool) (t u : Bool) → t ≡ true
    → or_next (broken ((not fits, NotFixed) ∷ [])) (passed (t && u) 7 65537) ≡ None → u ≡ false
room_by true true true e none = absurd (cc none)
room_by true true false e none = refl
room_by false t u e none = absurd (cc none)
room_by true false u e none = absurd (cc e)

-- a line with one word more
line_more : (before : Lines) (count place place' : ℕ) (rule rule' : Rule) (here : Words) (p : Point)
    (w : List ℕ) → p ≡ point_of before here → IsLine count place rule here
    → Takes count place place' rule' p w → IsLine count place' rule' (here ++ w ∷ [])
line_more before count place place' rule rule' [] p w e line t = λ is.
    let clean = rw e at t.clean in
    under most_uses count
    (room_by (follows_in_trace (last_head before) (head_of w)) (is_use (head_of w))
    (nat_le most_uses count) is clean)
line_more before count place place' rule rule' (h ∷ []) p w e line t =
    by_use (is_use (head_of h)) refl
  where
    by_use : (u : Bool) → is_use (head_of h) ≡ u → IsLine count place' rule' (h ∷ w ∷ [])
    by_use true f =
        let is = t.place_is (ap role_of e ∙ second_role before h true f) in
        record {
          head = use_head (head_of h) f;
          room = line f;
          place_is = is.0;
          small = is.1;
        }
    by_use false f =
        let surplus : role_of p ≡ role.Surplus = ap role_of e ∙ second_role before h false f in
        let clean = rw surplus at t.clean in absurd (cc clean)
line_more before count place place' rule rule' (h ∷ n ∷ []) p w e line t =
    let third : role_of p ≡ role.Rule = ap role_of e ∙ third_role before h n line.head in
    let same = t.same_place third in (
      record {
        head = line.head;
        room = line.room;
        place_is = same ∙ line.place_is;
        small = rw same line.small;
      },
      t.rule_is third,
    )
line_more before count place place' rule rule' (h ∷ n ∷ r ∷ []) p w e line t =
    let surplus : role_of p ≡ role.Surplus = ap role_of e ∙ fourth_role before h n r line.0.head in
    let clean = rw surplus at t.clean in absurd (cc clean)
line_more before count place place' rule rule' (h ∷ n ∷ r ∷ x ∷ ws) p w e line t = absurd line

pub word_kept : (uses : List Use) (place place' : ℕ) (rule rule' : Rule) (before : Lines)
    (here : Words) (p : Point) (w : List ℕ) → IsKept uses place rule before here
    → p ≡ point_of before here → Takes (length uses) place place' rule' p w
    → (trace_rules.judge before here w ≡ None) × IsKept uses place' rule' before (here ++ w ∷ [])
word_kept uses place place' rule rule' before here p w h e t = (
  rw (← h.uses_are, ← e) t.clean,
  record {
    uses_are = h.uses_are;
    written = h.written;
    line = line_more before (length uses) place place' rule rule' here p w e h.line t;
  },
)

-- the uses with those of one line more
record AreMore (uses uses' : List Use) (here : Words) : Type 0 where
  more : uses' ≡ uses ++ filter_map spelled_use (here ∷ [])
  written : CanBeWritten uses'

line_ends : (before : Lines) (uses uses' : List Use) (place : ℕ) (rule : Rule) (here : Words)
    (p : Point) → p ≡ point_of before here → CanBeWritten uses
    → IsLine (length uses) place rule here → Ends uses uses' place rule p
    → AreMore uses uses' here
line_ends before uses uses' place rule [] p e written line t =
    let clean = rw e at t.clean in absurd (cc clean)
line_ends before uses uses' place rule (h ∷ []) p e written line t =
    by_use (is_use (head_of h)) refl
  where
    by_use : (u : Bool) → is_use (head_of h) ≡ u → AreMore uses uses' (h ∷ [])
    by_use true f =
        let due : role_of p ≡ role.Place = ap role_of e ∙ second_role before h true f in
        let clean = rw due at t.clean in absurd (cc clean)
    by_use false f =
        let none : is_use p.head ≡ false = rw e f in
        let same : uses' ≡ uses ++ [] = rw none at t.uses_are in
        record { more = same; written = rw (same, append-nil uses) written }
line_ends before uses uses' place rule (h ∷ n ∷ []) p e written line t =
    let due : role_of p ≡ role.Rule = ap role_of e ∙ third_role before h n line.head in
    let clean = rw due at t.clean in absurd (cc clean)
line_ends before uses uses' place rule (h ∷ n ∷ r ∷ []) p e written line t =
    let u : Use = record { place = place; rule = rule } in
    let is : is_use p.head ≡ true = rw (e, line.0.head) refl in
    let one : uses' ≡ uses ++ u ∷ [] = rw is at t.uses_are in
    let spelled : spelled_use (h ∷ n ∷ r ∷ []) ≡ Some u =
    rw (line.0.head, line.1, ← line.0.place_is) refl in
    let count = length-append uses (u ∷ []) in
    let room = line.0.room in
    record {
      more = one ∙ ap (λ (us : List Use). uses ++ us) (rw spelled refl);
      written = rw one (record {
        few = omega (arith, count, room);
        places = All-push (λ (v : Use). v.place ≤ 9999) uses u written.places line.0.small;
      });
    }
line_ends before uses uses' place rule (h ∷ n ∷ r ∷ x ∷ ws) p e written line t = absurd line

pub line_kept : (uses uses' : List Use) (place : ℕ) (rule : Rule) (before : Lines) (here : Words)
    (p : Point) → IsKept uses place rule before here → p ≡ point_of before here
    → Ends uses uses' place rule p
    → (trace_rules.lacks before here ≡ None) × IsKept uses' place rule (before ++ here ∷ []) []
line_kept uses uses' place rule before here p h e t =
    let ends = line_ends before uses uses' place rule here p e h.written h.line t in (
      rw (← e) t.clean,
      record {
        uses_are = ends.more
            ∙ ap (λ (us : List Use). us ++ filter_map spelled_use (here ∷ [])) h.uses_are
            ∙ sym (filter_map-append spelled_use before (here ∷ []));
        written = ends.written;
        line = tt;
      },
    )
