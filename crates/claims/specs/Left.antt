-- What is left of an accepted plan without a list of blocked nodes, and which lists are refused, in 02's words: struck
-- nodes "are read as if their subtrees were absent". Every promise over a list speaks of `plan_under` and
-- `refusal_under`, which compute; this says what they come to. Definitions only.
use Rattle.std.specs.Prelude.{◌≡◌, ◌≢◌, ◌↔◌, ℕ, T}
use mathlib.Core.List.{List, [], Memᴰ as Among}
use Rattle.plan_rules.specs.Rules.{refusal}
use Rattle.plan_check.specs.Meaning.{plan_of}
use Rattle.plan_blocked.specs.Blocked.{plan_under, refusal_under}
use Rattle.runs.specs.Plan.{Node, Under}
use Rattle.runs.specs.Searches.{listed}
use Rattle.runs.specs.Blocked.{Stands, Refused28, Refused29}

-- 02's "neither struck nor under a struck node": node i of the plan, with the list xs
pub record Present (b xs : List ℕ) (i : ℕ) : Type 0 where
  pub node : Node (plan_of b) i
  pub free : (s : ℕ) → Among s xs → ¬ Under (plan_of b) s i

pub record WhatIsLeft (b xs : List ℕ) : Type 0 where
  -- the notion of the theory, over tests, is this one
  pub stands : (i : ℕ) → Stands (plan_of b) (listed xs) i ↔ Present b xs i
  -- the nodes that are left, each of the kind and under the parent that it had; an order is one of the plan of which
  -- both nodes are left; the conditions are those of the plan
  pub nodes : (i : ℕ) → Node (plan_under b xs) i ↔ Present b xs i
  pub kinds : (i : ℕ) → (plan_under b xs).tree.kind i ≡ (plan_of b).tree.kind i
  pub parents : (i : ℕ) → (plan_under b xs).tree.parent i ≡ (plan_of b).tree.parent i
  pub orders : (i j : ℕ) → T ((plan_under b xs).order i j)
      ↔ (T ((plan_of b).order i j) × (Present b xs i × Present b xs j))
  pub conditions : (plan_under b xs).conditions ≡ (plan_of b).conditions
  -- 28 "checked after 14", 29 "checked after 28", and neither
  pub refused_28 : (refusal_under b xs ≡ 28) ↔ Refused28 (plan_of b) xs
  pub refused_29 : (refusal_under b xs ≡ 29) ↔ ((¬ Refused28 (plan_of b) xs) × Refused29 (plan_of b) xs)
  pub passed : (refusal_under b xs ≡ 0) ↔ ((¬ Refused28 (plan_of b) xs) × (¬ Refused29 (plan_of b) xs))

-- the whole claim: of a refused plan the list is not looked at; with nothing blocked all of the plan is left, and
-- nothing refused
pub record Reading (b : List ℕ) : Type 0 where
  pub plan_first : refusal b ≢ 0 → (xs : List ℕ) → refusal_under b xs ≡ refusal b
  pub left : refusal b ≡ 0 → (xs : List ℕ) → WhatIsLeft b xs
  pub whole : refusal b ≡ 0 → (plan_under b [] ≡ plan_of b) × (refusal_under b [] ≡ 0)

abbrev pub ListsRead : Type 0
ListsRead = (b : List ℕ) → Reading b
