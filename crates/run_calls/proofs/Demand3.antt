-- Demand 3 over bytes holds of every accepted plan. Assumes nothing.
use mathlib.Core.Path.{◌≡◌, refl, sym, ap, ◌∙◌}
use mathlib.Core.Logic.{◌↔◌}
use mathlib.Core.List.{List}
use Prim.Native.Nat.{ℕ, suc, ◌+◌, ◌*◌, ◌<◌}
use native.Mathlib.Omega.{arith}
use lib.ListN.{length, get_or, replicate, length-replicate}
use borrow.Author.Tests.{lt-ltb}
use Rattle.std.specs.declared.result.Result.TheVariants.{Ok}
use Rattle.plan_format.specs.Format.{node_count}
use Rattle.plan_blocked.specs.Blocked.{plan_under, refusal_under}
use Rattle.plan_blocked.proofs.Refused.{plan_accepted, blocks}
use Rattle.runs.specs.Searches.{listed}
use Rattle.plan_check.specs.Meaning.{plan_of, start_of}
use Rattle.plan_check.proofs.Meaning.{means_well_formed}
use Rattle.runs.specs.Verdict.{Verdict, CLEAR, DOOMED, OPEN}
use Rattle.runs.specs.Model.Verdicts.{verdict}
use Rattle.verdict.specs.declared.Verdict.TheVariants.{Clear, Doomed, Open}
use Rattle.verdict.specs.Verdict.{Answer, Assessed}
use Rattle.verdict.proofs.Judging.{assessed}
use Rattle.runs.specs.Calls.{Call, World, accepted_starts}
use Rattle.runs.specs.Demand3.{Demand3On}
use Rattle.runs.specs.Violations.{NoViolation, NeverViolates}
use Rattle.runs.proofs.Calls.Demand3 as proved
use Rattle.run_starts.specs.Starts.{ordinal_in}
use Rattle.run_state.specs.State.{ordinal_shown, status_in, world_of}
use Rattle.run_calls.specs.Lists.{ListMade}
use Rattle.base.specs.Bytes.{Bytes}
use Rattle.run_calls.specs.Demand3.{Demand3Of, Demand3}
use Rattle.run_calls.proofs.Followed.{list_follows, list_made, list_each}

module _ (b xs : List ℕ) (h : Bytes b) (acc : refusal_under b xs ≡ 0) where
  on_plans : Demand3On (plan_of b) (listed xs) (start_of b)
  on_plans = proved.demand3 (plan_of b) (means_well_formed b (plan_accepted b xs acc)) (listed xs) (blocks b xs acc)
      (start_of b)

  abbrev Never : Type 0
  Never = (s : List ℕ) (cs : List Call) (rs z : List ℕ) → ListMade b xs s cs rs z → NoViolation rs

  -- the states worked out are those of some list of calls that was made
  never_worked : Never → NeverViolates (plan_of b) (listed xs) (start_of b)
  never_worked g cs ns a w n x =
      let s : List ℕ = replicate {A = ℕ} (8 + 3 * node_count b) 0 in
      let m = list_made b xs acc s (omega (arith, length-replicate {A = ℕ} (8 + 3 * node_count b) 0)) cs in
      let f = list_follows b xs h s cs m.0 m.1 m.2 in
      g s cs m.0 m.1 m.2 n (rw (on_plans.unique w f.worked).0 at x)

  -- the case of the enum for a verdict
  assessment : (v : Verdict) → v ≡ verdict (plan_under b xs) (start_of b) → (r : Answer) × Assessed b xs r
  assessment CLEAR e = (Ok Clear, assessed b xs Clear acc e)
  assessment DOOMED e = (Ok Doomed, assessed b xs Doomed acc e)
  assessment OPEN e = (Ok Open, assessed b xs Open acc e)

  -- the ordinals in the bytes are those of the states worked out
  positions : (s : List ℕ) (cs : List Call) (rs z : List ℕ) → ListMade b xs s cs rs z → (n : ℕ) → n < node_count b
      → (k : ℕ)
      → (ordinal_in b z n ≡ suc k) ↔ ((k < length (accepted_starts cs rs)) × (get_or (accepted_starts cs rs) k 0 ≡ n))
  unfolding world_of ordinal_shown
  positions s cs rs z l n m k =
      let f = list_follows b xs h s cs rs z l in
      let e : f.after.ordinal n ≡ ordinal_in b z n = ap (λ (a : World). a.ordinal n) (sym f.shown.states)
      ∙ rw (lt-ltb n (node_count b) m) in
      rw e at ((on_plans.ordinals f.worked).position n k)

  of_plan : Demand3Of b xs
  unfolding world_of
  of_plan =
      record {
        made = list_made b xs acc;
        assessed = assessment (verdict (plan_under b xs) (start_of b)) refl;
        each = list_each b xs h;
        follows = list_follows b xs h;
        ordinals = positions;
        unique = λ x y. on_plans.unique x y;
        complete = λ s cs rs z l t k a w.
            let f = list_follows b xs h s cs rs z l in
            let e : status_in b z ≡ a.status =
            ap (λ (y : World). y.status) (f.shown.states ∙ (on_plans.unique f.worked w).1) in
            (λ c. rw e at (k.complete.0 c).1, λ c. k.complete.1 (f.shown.well_formed, rw (sym e) at c));
        answer = λ r x. let (v, j, u) = on_plans.judged in (v, (x.judged acc v).1 j, j, u);
        clear = λ r x. (
          λ q s cs rs z l. let f = list_follows b xs h s cs rs z l in
              on_plans.clear.0 ((x.judged acc CLEAR).0 q) cs rs f.after f.worked,
          λ g. (x.judged acc CLEAR).1 (on_plans.clear.1 (never_worked g)),
        );
        violated = λ r x k s room.
            let v = on_plans.violated (λ c. k ((x.judged acc CLEAR).1 c)) in
            let m = list_made b xs acc s room v.calls in
            let f = list_follows b xs h s v.calls m.0 m.1 m.2 in
            (v.calls, m.0, m.1, m.2, rw (on_plans.unique v.worked f.worked).0 at v.violation);
        doomed = λ r x q s cs rs z l.
            let f = list_follows b xs h s cs rs z l in
            let d = (x.judged acc DOOMED).0 q in (
              λ a w. on_plans.doomed d cs rs a w,
              λ t k c. on_plans.doomed d cs rs f.after f.worked
                  (rw (ap (λ (a : World). a.status) f.shown.states) at (k.complete.0 c).1),
            );
      }

pub demand3 : Demand3
demand3 = of_plan
