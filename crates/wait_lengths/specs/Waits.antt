-- Lengths and longest waits (01: 'Longest waits'), as functions of a plan's bytes. Definitions only.
use Rattle.std.specs.Prelude.{ℕ, zero, suc, ◌+◌, max, Bool, true, false, cond, List, eqb}
use Rattle.plan_format.specs.Format.{node_count, order_count, parent_of, kind_of, minutes_of, earlier_of, later_of}
use Rattle.plan_format.specs.Format.{is_kind}
use Rattle.plan_rules.specs.Rules.{is_child}
use Rattle.runs.specs.Plan.{Kind, task, all_of, any_of, optional}
use Rattle.plan_check.specs.Meaning.{kind_at}

-- v, or f n where that is greater and n passes
abbrev pub raised : Bool → (ℕ → ℕ) → ℕ → ℕ → ℕ
raised true f n v = max v (f n)
raised false f n v = v

-- the greatest f i over the numbers i below n that pass, or 0
unfoldable pub greatest : ℕ → (ℕ → Bool) → (ℕ → ℕ) → ℕ
greatest zero p f = 0
greatest (suc n) p f = raised (p n) f n (greatest n p f)

-- A child's wait within an all_of group: 0, or the greatest wait plus length among its orders' earlier nodes. The
-- lengths are given; k is the number of orders in a chain that are followed, and since an earlier node has the lower
-- number, the number of nodes is enough.
unfoldable pub wait_by : List ℕ → (ℕ → ℕ) → ℕ → ℕ → ℕ
wait_by b len zero c = 0
wait_by b len (suc k) c = greatest (order_count b) (λ j. eqb (later_of b j) c)
    (λ j. wait_by b len k (earlier_of b j) + len (earlier_of b j))

-- Length of a task: its minutes; any_of, and optional (02): its longest child; all_of: the greatest wait within it plus
-- length over its children. The lengths of the children are given.
unfoldable pub length_as : List ℕ → (ℕ → ℕ) → Kind → ℕ → ℕ
length_as b len task n = minutes_of b n
length_as b len any_of n = greatest (node_count b) (is_child b n) len
length_as b len optional n = greatest (node_count b) (is_child b n) len
length_as b len all_of n = greatest (node_count b) (is_child b n) (λ c. wait_by b len (node_count b) c + len c)

-- k is the number of levels that are followed: a child has the higher number, so the number of nodes is enough
unfoldable pub length_by : List ℕ → ℕ → ℕ → ℕ
length_by b zero n = 0
length_by b (suc k) n = length_as b (length_by b k) (kind_at (kind_of b n)) n

unfoldable pub length_of : List ℕ → ℕ → ℕ
length_of b n = length_by b (node_count b) n

-- in an all_of group as above, in an any_of or optional group 0; the root's own is 0
unfoldable pub wait_within : List ℕ → ℕ → ℕ
wait_within b n = cond (is_kind b (parent_of b n) 1) (wait_by b (length_of b) (node_count b) n) 0

-- the sum of these from the root down to n; a parent has the lower number, so n levels are enough
unfoldable pub waits_to : List ℕ → ℕ → ℕ → ℕ
waits_to b zero n = 0
waits_to b (suc k) zero = 0
waits_to b (suc k) (suc n) = waits_to b k (parent_of b (suc n)) + wait_within b (suc n)

unfoldable pub longest_wait : List ℕ → ℕ → ℕ
longest_wait b n = waits_to b n n
