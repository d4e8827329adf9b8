-- The table of the groups that come before the next, as it is filled. Assumes nothing.
use Rattle.std.proofs.Common.{◌≡◌, ℕ, ◌+◌, ◌-◌, ◌*◌, ◌%◌, ◌<◌, ◌≤◌, true, false, ◌≢◌, List, length, get_or, set, sym}
use Rattle.std.proofs.Common.{ap, ◌∙◌, add-one, arith, length-set, get_or-set_other, get_or-set_same, eq-eqb, ne_eqb}
use mathlib.Core.Logic.{by_cases}
use native.Mathlib.Decide.{ℕ_discrete}
use Rattle.base.specs.Count.{num, count_below}
use Rattle.base.proofs.Count.{count_more}
use Rattle.plan_draws.specs.declared.Recipe.{Recipe}
use Rattle.plan_draws.specs.Drawn.{Allowed}
use Rattle.plan_draws.specs.Model.{pick, task_draw, before_drawn, comes_before, order_number, ordered_group}
use Rattle.plan_draws.specs.Inner.{GROUPS, Drew, OrdersFound}
use Rattle.plan_draws.proofs.Picked.{pick_new, pick_stays}
use Rattle.plan_draws.proofs.Fields.{drawn_at}

-- of the first i groups those that come before the next are found
pub record FoundTo (r : Recipe) (ordered : List ℕ) (found i : ℕ) : Type 0 where
  pub long : length ordered ≡ GROUPS
  pub few : found ≤ i
  pub number : found ≡ count_below i (comes_before r)
  pub at : (m : ℕ) → m < found → get_or ordered m 0 ≡ pick (comes_before r) i m

module _ (r : Recipe) (ok : Allowed r) where
  pub found_none : (ordered : List ℕ) → length ordered ≡ GROUPS → FoundTo r ordered 0 0
  unfolding count_below
  found_none ordered e =
      record {
        long = e;
        few = omega arith;
        number = omega arith;
        at = λ m l. absurd (omega arith);
      }

  module _ (ordered ordered' : List ℕ) (found found' i : ℕ) (l : i + 1 < r.groups) (o : FoundTo r ordered found i)
    where
      -- group i is one of them
      pub found_one : comes_before r i ≡ true → ordered' ≡ set ordered found i → found' ≡ found + 1
          → FoundTo r ordered' found' (i + 1)
      found_one e x y =
          record {
            long = rw x (length-set ordered found i ∙ o.long);
            few = omega (arith, o.few);
            number = omega (arith, count_more i (comes_before r), o.number, ap num e);
            at = λ m h. rw (x, add-one i)
                (by_cases (ℕ_discrete m found)
                (λ (z : m ≡ found).
                rw (z, get_or-set_same ordered found i 0 (omega (arith, o.long, o.few, ok.few_groups)), o.number)
                (sym (pick_new (comes_before r) i e)))
                (λ z. get_or-set_other ordered found m i 0 z ∙ o.at m (omega arith)
                ∙ sym (rw (← add-one i)
                (pick_stays (comes_before r) i (i + 1) m (omega arith) (omega (arith, o.number))))));
          }

      -- group i is none
      pub found_same : comes_before r i ≡ false → ordered' ≡ ordered → found' ≡ found
          → FoundTo r ordered' found' (i + 1)
      found_same e x y = record {
        long = rw x o.long;
        few = omega (arith, o.few);
        number = omega (arith, count_more i (comes_before r), o.number, ap num e);
        at = λ m h. rw x (o.at m (omega arith)
            ∙ sym (pick_stays (comes_before r) i (i + 1) m (omega arith) (omega (arith, o.number))));
      }

  pub found_all : {ordered : List ℕ} {found i : ℕ} → i ≡ r.groups - 1 → FoundTo r ordered found i
      → OrdersFound r found ordered
  unfolding order_number ordered_group
  found_all e o = record {
    number = o.number ∙ ap (λ (n : ℕ). count_below n (comes_before r)) e;
    at = λ m h. o.at m h ∙ ap (λ (n : ℕ). pick (comes_before r) n m) e;
  }

  -- the test of the code is the draw of group i
  module _ (draws : List ℕ) (d : Drew r.seed draws) (i : ℕ) (l : i + 1 < r.groups) where
    read : get_or draws (r.groups + 4 * r.tasks + i) 0 % 2 ≡ before_drawn r i
    unfolding before_drawn task_draw
    read = drawn_at d (r.groups + 4 * r.tasks + i) 2 (omega (arith, ok.few_groups, ok.few_tasks))

    pub comes : get_or draws (r.groups + 4 * r.tasks + i) 0 % 2 ≡ 1 → comes_before r i ≡ true
    unfolding comes_before
    comes e = eq-eqb (before_drawn r i) 1 (sym read ∙ e)

    pub comes_not : get_or draws (r.groups + 4 * r.tasks + i) 0 % 2 ≢ 1 → comes_before r i ≡ false
    unfolding comes_before
    comes_not e = ne_eqb (before_drawn r i) 1 (λ z. e (read ∙ z))
