-- What is left of a plan without blocked nodes is what 02 says, and so are 28 and 29. Assumes nothing.
use mathlib.Core.Path.{◌≡◌, refl, sym}
use mathlib.Core.Logic.Iff
use mathlib.Core.Logic.{◌↔◌}
use mathlib.Core.List.{List, []}
use Prim.Native.Nat.{ℕ}
use Rattle.base.proofs.First.{first_none, first_some}
use Rattle.plan_rules.specs.Rules.{refusal}
use Rattle.plan_check.specs.Meaning.{plan_of}
use Rattle.plan_check.proofs.Meaning.{means_well_formed}
use Rattle.plan_blocked.specs.Blocked.{refusal_under}
use Rattle.plan_blocked.proofs.Refused.{none_under, list_passes}
use Rattle.runs.specs.Searches.{listed}
use Rattle.runs.specs.WellFormed.{WellFormed}
use Rattle.runs.specs.Calls.{empty}
use Rattle.runs.specs.Blocked.{Stands}
use Rattle.runs.specs.Model.Blocked.{blocked_refusal}
use Rattle.runs.proofs.Calls.Listed.{r_listed}
use Rattle.runs.proofs.Blocked.Standing.{r_stands, r_standing_order}
use Rattle.runs.proofs.Blocked.Branches.{refusal_28, refusal_29, refusal_none, passes_28_29, blocks_nothing}
use Rattle.claims.specs.Left.{Present, WhatIsLeft, ListsRead}

module _ (b : List ℕ) (ok : refusal b ≡ 0) where
  w : WellFormed (plan_of b)
  w = means_well_formed b ok

  module _ (xs : List ℕ) where
    present : (i : ℕ) → Stands (plan_of b) (listed xs) i ↔ Present b xs i
    present i = (
      λ x. record { node = x.node; free = λ s m u. x.outside s ((r_listed xs s).from m) u },
      λ x. record { node = x.node; outside = λ s t u. x.free s ((r_listed xs s).to t) u },
    )

    under : refusal_under b xs ≡ blocked_refusal (plan_of b) xs
    unfolding refusal_under
    under = sym (first_none (refusal b) _ ok)

    what_is_left : WhatIsLeft b xs
    what_is_left = record {
      stands = present;
      nodes = λ i. let r = r_stands (plan_of b) w (listed xs) i in
          (λ t. (present i).0 (r.to t), λ x. r.from ((present i).1 x));
      kinds = λ i. refl;
      parents = λ i. refl;
      orders = λ i j. let r = r_standing_order (plan_of b) w (listed xs) i j in (
        λ t. let (o, (x, y)) = r.to t in (o, ((present i).0 x, (present j).0 y)),
        λ z. r.from (z.0, ((present i).1 z.1.0, (present j).1 z.1.1)),
      );
      conditions = refl;
      refused_28 = rw under (refusal_28 (plan_of b) w xs);
      refused_29 = rw under (refusal_29 (plan_of b) w xs);
      passed = rw under (Iff.trans (refusal_none (plan_of b) w xs)
          ((passes_28_29 (plan_of b) w xs).1, (passes_28_29 (plan_of b) w xs).0));
    }

pub lists_read : ListsRead
unfolding refusal_under
lists_read b = record {
  plan_first = λ n xs. sym (first_some (refusal b) _ n);
  left = what_is_left b;
  whole = λ ok. (none_under b ok, list_passes b [] ok empty (blocks_nothing (plan_of b) (means_well_formed b ok)));
}
