-- The two promises hold. Assumes nothing.
use mathlib.Core.Path.{◌≡◌, refl, ap, ◌∙◌, fun_ext}
use mathlib.Core.Logic.{by_cases}
use mathlib.Core.List.{List, Memᴰ as Among}
use Prim.Native.Nat.{ℕ, ◌<◌}
use native.Mathlib.Decide.{dec_lt}
use native.Mathlib.Omega.{arith}
use borrow.Author.Tests.{le-ltb}
use Rattle.plan_format.specs.Format.{cond_count, flag_count}
use Rattle.plan_rules.specs.Rules.{refusal}
use Rattle.runs.proofs.Searches.{some_same}
use Rattle.plan_check.specs.Meaning.{plan_of, start_of, kind_at, condition_is, has_condition, sign_in}
use Rattle.plan_check.proofs.Accepted.{clean}
use Rattle.plan_check.proofs.Meaning.{means_well_formed, order_is_lem, has_order_lem}
use Rattle.plan_check.proofs.Nodes.{node_is}
use Rattle.plan_blocked.specs.Blocked.{plan_under, refusal_under}
use Rattle.plan_blocked.proofs.Refused.{plan_accepted, strictly_rises, blocks, list_passes}
use Rattle.runs.specs.Searches.{any_below, listed}
use Rattle.runs.specs.Plan.{itself, place_number}
use Rattle.runs.specs.Verdict.{CLEAR, DOOMED}
use Rattle.runs.specs.Blocked.{Stands}
use Rattle.runs.specs.Branches.{Keeps, OrdersAdded}
use Rattle.runs.proofs.Calls.Listed.{r_listed}
use Rattle.runs.proofs.Blocked.Branches.{blocks_out, more_keeps, orders_keep}
use Rattle.verdict.specs.Verdict.{Answer, Assessed}
use Rattle.claims.specs.Promises.{AnswerKeeps, BlockingKeeps, BytesAddOrders, OrdersKeep}

-- what holds of the plans holds of the answers
answers_keep : (b c xs ys : List ℕ) → refusal_under b xs ≡ 0 → refusal_under c ys ≡ 0 → start_of b ≡ start_of c
    → Keeps (plan_under b xs) (plan_under c ys) → (a d : Answer) → Assessed b xs a → Assessed c ys d
    → AnswerKeeps a d
answers_keep b c xs ys okb okc s k a d x y = record {
  clear = λ q. (y.judged okc CLEAR).1 (rw s at (k.clear (start_of b) ((x.judged okb CLEAR).0 q)));
  doomed = λ q. (y.judged okc DOOMED).1 (rw s at (k.doomed (start_of b) ((x.judged okb DOOMED).0 q)));
}

pub blocking_promise : BlockingKeeps
blocking_promise b xs ys okx oky h a c x y = answers_keep b b xs ys okx oky refl
    (more_keeps (plan_of b) (means_well_formed b (plan_accepted b xs okx)) (listed xs) (listed ys) (blocks b xs okx)
    (blocks b ys oky) (λ s t. h s ((r_listed xs s).to t))) a c x y

pub included_more : (b xs ys : List ℕ) → ((s : ℕ) → Among s xs → Among s ys) → (s : ℕ) → Among s xs
    → ¬ Stands (plan_of b) (listed ys) s
included_more b xs ys h s i x = x.outside s ((r_listed ys s).from (h s i)) itself

-- ---- orders added
module _ (b c : List ℕ) (okb : refusal b ≡ 0) (h : BytesAddOrders b c) where
  same_condition : (q t f s : ℕ) → has_condition b q t f s ≡ has_condition c q t f s
  unfolding has_condition condition_is
  same_condition q t f s = some_same (cond_count b) (condition_is b q t f s) (condition_is c q t f s)
      (λ i l. rw (h.tasks i l, h.values i l))
      ∙ ap (λ (n : ℕ). any_below n (condition_is c q t f s)) h.conditions

  same_sign : sign_in b ≡ sign_in c
  unfolding sign_in
  same_sign = fun_ext (λ k. fun_ext (λ t. fun_ext (λ f.
      rw (same_condition (place_number k) t f 1, same_condition (place_number k) t f 0))))

  same_start : start_of b ≡ start_of c
  unfolding start_of
  same_start = fun_ext (λ f. by_cases (dec_lt f 64)
      (λ (l : f < 64). rw (h.flags, h.starts f l))
      (λ n. let z : flag_count b < 65 = omega (arith, (clean b okb).fits.limits.flags) in
      rw (le-ltb f (flag_count b) (omega arith), le-ltb f (flag_count c) (omega (arith, h.flags)))))

  added : OrdersAdded (plan_of b) (plan_of c)
  unfolding plan_of
  added = record {
    same_nodes = λ i. rw h.nodes;
    same_kind = λ i l. ap kind_at (h.kinds i (node_is b i l));
    same_parent = λ i z l. h.parents i (node_is b i l);
    same_conditions = rw (h.flags, same_sign);
    no_order_lost = λ x y o. has_order_lem c x y (h.orders x y (order_is_lem b x y o));
  }

pub orders_promise : OrdersKeep
orders_promise b c xs h okb pc a d x y =
    let pb = plan_accepted b xs okb in
    let more = added b c pb h in
    let wb = means_well_formed b pb in
    let wc = means_well_formed c pc in
    let k = blocks b xs okb in
    let okc =
    list_passes c xs pc (strictly_rises b xs okb) (blocks_out (plan_of b) (plan_of c) wb wc more (listed xs) k) in
    answers_keep b c xs xs okb okc (same_start b c pb h)
    (orders_keep (plan_of b) (plan_of c) wb wc more (listed xs) k) a d x y
