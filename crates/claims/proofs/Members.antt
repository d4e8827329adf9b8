-- The claim over lists of calls that include and exclude members holds. Assumes nothing.
use mathlib.Core.Path.{◌≡◌, refl, sym, ap, ◌∙◌, fun_ext, subst}
use mathlib.Core.Logic.{◌≢◌, ◌⊎◌, inl, inr, ◌↔◌, by_cases}
use mathlib.Core.Bool.{Bool, true, false}
use mathlib.Core.Option.{none, some}
use mathlib.Core.List.{List, [], ◌∷◌, ◌++◌}
use Prim.Native.Nat.{ℕ, ◌<◌, ◌≤◌}
use native.Mathlib.Decide.{ℕ_discrete, dec_lt}
use native.Mathlib.Omega.{arith}
use lib.Dec.{T}
use lib.ListN.{length, get_or}
use borrow.Author.Tests.{ne_eqb, lt-ltb, le-ltb}
use Rattle.base.specs.Count.{num}
use Rattle.plan_format.specs.Format.{node_count}
use Rattle.plan_rules.specs.Rules.{refusal}
use Rattle.plan_check.specs.Meaning.{plan_of, start_of}
use Rattle.plan_check.proofs.Meaning.{means_well_formed}
use Rattle.plan_check.proofs.Nodes.{node_is}
use Rattle.plan_blocked.specs.Blocked.{refusal_under}
use Rattle.plan_blocked.proofs.Refused.{none_under, list_passes}
use Rattle.runs.specs.Plan.{all_of, Plan, Child}
use Rattle.runs.specs.WellFormed.{WellFormed}
use Rattle.runs.specs.Calls.{empty}
use Rattle.runs.specs.Verdict.{Verdict, CLEAR, Judged}
use Rattle.runs.proofs.Reflect.{clash}
use Rattle.runs.proofs.Blocked.Branches.{blocks_nothing}
use Rattle.verdict.specs.Verdict.{Answer, said, Assessed}
use Rattle.members.specs.Members.{MembersJudged, nobody, MemberCall, MemberAnswered, refused_17, refused_31}
use Rattle.members.specs.Members.{refused_32, changes, MembersWorked, no_calls, next_call, last_verdict}
use Rattle.members.proofs.Parts.{members_judged, nobody_clear}
use Rattle.members.proofs.Answers.{called_child, judged_only, worked_only}
use Rattle.members.proofs.Lists.{Along, at_first, along_after, last_clear, last_whole}
use Rattle.member_list.specs.Members.{member_in, BadMembers, other_byte, stray_one, MembersPass}
use Rattle.member_calls.specs.Calls.{MemberCalled}
use Rattle.member_calls.specs.Model.{member_return, members_left}
use Rattle.member_calls.proofs.Calls.{member_called}
use Rattle.claims.specs.Members.{MemberCalls, none_made, next_made, NobodyIn, MembersFollow}
use Rattle.claims.specs.Members.{MembersClaim}

zero_or_one : (j : Bool) {k : ℕ} → num j ≡ k → k ≢ 0 → k ≢ 1 → ⊥
zero_or_one true e z o = o (sym e)
zero_or_one false e z o = z (sym e)

module _ (b : List ℕ) (ok : refusal b ≡ 0) where
  w : WellFormed (plan_of b)
  w = means_well_formed b ok

  -- ---- the bytes of a list that passes
  module _ {ms : List ℕ} (h : MembersPass b ms) where
    shown_byte_lem : (i : ℕ) → i < node_count b → get_or ms i 0 ≡ num (member_in b ms i)
    unfolding member_in
    shown_byte_lem i l = by_cases (ℕ_discrete (get_or ms i 0) 1)
        (λ (e : get_or ms i 0 ≡ 1). rw (lt-ltb i (node_count b) l, e) refl)
        (λ k. rw (lt-ltb i (node_count b) l, ne_eqb (get_or ms i 0) 1 k) (zero_byte k))
      where
        zero_byte : get_or ms i 0 ≢ 1 → get_or ms i 0 ≡ 0
        zero_byte k = by_cases (ℕ_discrete (get_or ms i 0) 0) (λ (e : get_or ms i 0 ≡ 0). e)
            (λ z. absurd (h.well_formed (other_byte i l z k)))

    -- an accepted call is one of a child of the root
    its_child : {c : MemberCall} {v : Verdict} {a : ℕ ⊎ Verdict} {B : ℕ → Bool}
        → MemberAnswered (plan_of b) (start_of b) (member_in b ms) c a B → a ≡ inr v → Child (plan_of b) 0 c.node
    its_child (refused_17 k) e = clash cc
    its_child (refused_31 n x) e = clash cc
    its_child (refused_32 n x s) e = clash cc
    its_child (changes n x s j) e = called_child (plan_of b) w (start_of b) x

    -- ---- one call
    module _ {c : MemberCall} {a : ℕ ⊎ Verdict} {ms' : List ℕ} (x : MemberCalled b ms c a ms') where
      of_child : (v : Verdict) → a ≡ inr v → Child (plan_of b) 0 c.node
      of_child v e = its_child (x.answered h) e

      later_byte : (i : ℕ) → node_count b ≤ i → get_or ms' i 0 ≡ get_or ms i 0
      later_byte i l = at a refl
        where
          at : (d : ℕ ⊎ Verdict) → a ≡ d → get_or ms' i 0 ≡ get_or ms i 0
          at (inl n) e = rw (x.unchanged n e) refl
          at (inr v) e = x.others i (λ q. omega (arith, l, q, node_is b c.node (of_child v e).node))

      still_passes : MembersPass b ms'
      still_passes = at a refl
        where
          well_formed : (v : Verdict) → a ≡ inr v → BadMembers b ms' → ⊥
          well_formed v e (other_byte i l z o) = by_cases (ℕ_discrete i c.node)
              (λ (d : i ≡ c.node). zero_or_one c.joins
              (sym (x.written v e) ∙ ap (λ (n : ℕ). get_or ms' n 0) (sym d)) z o)
              (λ n. h.well_formed (other_byte i l (λ q. z (x.others i n ∙ q)) (λ q. o (x.others i n ∙ q))))
          well_formed v e (stray_one i l q k) = by_cases (ℕ_discrete i c.node)
              (λ (d : i ≡ c.node). k (rw d (of_child v e)))
              (λ n. h.well_formed (stray_one i l (sym (x.others i n) ∙ q) k))

          at : (d : ℕ ⊎ Verdict) → a ≡ d → MembersPass b ms'
          at (inl n) e = rw (x.unchanged n e) h
          at (inr v) e = record {
            accepted = h.accepted;
            room = omega (arith, h.room, x.as_long);
            well_formed = well_formed v e;
          }

  -- ---- lists of calls
  record Goes (ms : List ℕ) (cs : List MemberCall) (rs : List (ℕ ⊎ Verdict)) (zs : List ℕ) : Type 0 where
    worked : MembersWorked (plan_of b) (start_of b) (member_in b ms) cs rs (member_in b zs)
    passes : MembersPass b zs
    later : (i : ℕ) → node_count b ≤ i → get_or zs i 0 ≡ get_or ms i 0
    as_long : length zs ≡ length ms

  goes : {ms : List ℕ} {cs : List MemberCall} {rs : List (ℕ ⊎ Verdict)} {zs : List ℕ} → MembersPass b ms
      → MemberCalls b ms cs rs zs → Goes ms cs rs zs
  goes h none_made = record { worked = no_calls; passes = h; later = λ i l. refl; as_long = refl }
  goes h (next_made x y) =
      let g = goes (still_passes h x) y in
      record {
        worked = next_call (x.answered h) g.worked;
        passes = g.passes;
        later = λ i l. g.later i l ∙ later_byte h x i l;
        as_long = g.as_long ∙ x.as_long;
      }

  all_made : (ms : List ℕ) (cs : List MemberCall)
      → (rs : List (ℕ ⊎ Verdict)) × (zs : List ℕ) × MemberCalls b ms cs rs zs
  all_made ms [] = ([], ms, none_made)
  all_made ms (c ∷ cs) =
      let (rs, zs, y) = all_made (members_left b ms c) cs in
      (member_return b ms c ∷ rs, zs, next_made (member_called b ms c refl refl) y)

  begun : (ms : List ℕ) (cs ds : List MemberCall) {rs : List (ℕ ⊎ Verdict)} {zs : List ℕ}
      → MemberCalls b ms (cs ++ ds) rs zs
      → (ps qs : List (ℕ ⊎ Verdict)) × (ys : List ℕ) × (rs ≡ ps ++ qs) × MemberCalls b ms cs ps ys
      × MemberCalls b ys ds qs zs
  begun ms [] ds {rs} y = ([], rs, ms, refl, none_made, y)
  begun ms (c ∷ cs) ds (next_made {a = a} x y) = let (ps, qs, ys, e, l, r) = begun _ cs ds y in
      (a ∷ ps, qs, ys, ap (λ (l : List (ℕ ⊎ Verdict)). a ∷ l) e, next_made x l, r)

  -- ---- from nobody
  nobody_is : (plan_of b).tree.kind 0 ≡ all_of → (u : Verdict)
      → MembersJudged (plan_of b) nobody (start_of b) u ↔ (u ≡ CLEAR)
  nobody_is kr = judged_only (plan_of b) w (start_of b) nobody kr
      ((members_judged (plan_of b) w nobody).1 (nobody_clear (plan_of b) w nobody kr (λ i x. x) (start_of b)))

  module _ (ms : List ℕ) (z : NobodyIn b ms) where
    none_in : member_in b ms ≡ nobody
    unfolding member_in
    none_in = fun_ext (λ x. by_cases (dec_lt x (node_count b))
        (λ (l : x < node_count b). rw (lt-ltb x (node_count b) l, z.zeros x l) refl)
        (λ n. rw (le-ltb x (node_count b) (omega (arith, n))) refl))

    first_passes : MembersPass b ms
    first_passes = record { accepted = ok; room = z.room; well_formed = no_fault }
      where
        no_fault : BadMembers b ms → ⊥
        no_fault (other_byte i l k o) = k (z.zeros i l)
        no_fault (stray_one i l e k) = omega (arith, e, z.zeros i l)

    module _ {cs : List MemberCall} {rs : List (ℕ ⊎ Verdict)} {zs : List ℕ} (y : MemberCalls b ms cs rs zs) where
      g : Goes ms cs rs zs
      g = goes first_passes y

      come : MembersWorked (plan_of b) (start_of b) nobody cs rs (member_in b zs)
      come = rw none_in at g.worked

      along : Along (plan_of b) w (start_of b) (last_verdict none rs) (member_in b zs)
      along = along_after (plan_of b) w (start_of b) (at_first (plan_of b) w (start_of b)) come

      only : (v : Verdict) → last_verdict none rs ≡ some v → (u : Verdict)
          → MembersJudged (plan_of b) (member_in b zs) (start_of b) u ↔ (u ≡ v)
      only v e = let (kr, j) = along.judged v e in judged_only (plan_of b) w (start_of b) (member_in b zs) kr j

      whole : (v : Verdict) → last_verdict none rs ≡ some v → ((i : ℕ) → Child (plan_of b) 0 i → T (member_in b zs i))
          → (r : Answer) → Assessed b [] r → said r ≡ inr v
      whole v e all r x = (x.judged passed v).1
          (subst (λ (p : Plan). Judged p (start_of b) v) (sym (none_under b ok))
          (last_whole (plan_of b) w (start_of b) along v e all))
        where
          passed : refusal_under b [] ≡ 0
          passed = list_passes b [] ok empty (blocks_nothing (plan_of b) w)

      follow : MembersFollow b ms cs rs zs
      follow = record {
        after = member_in b zs;
        worked = come;
        shown = record {
          bytes = shown_byte_lem g.passes;
          passes = g.passes;
          later = g.later;
          as_long = g.as_long;
        };
        last = only;
        none_yet = λ e i. rw (along.none_yet e) (λ t. t);
        with_nobody = last_clear (plan_of b) w (start_of b) along;
        with_everybody = whole;
      }

pub members_claim : MembersClaim
members_claim b ms ok z = record {
  at_first = nobody_is b ok;
  made = all_made b ok ms;
  up_to = begun b ok ms;
  follows = follow b ok ms z;
  unique = worked_only (plan_of b) (means_well_formed b ok) (start_of b);
}
