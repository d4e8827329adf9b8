-- The fields of a generated plan, and what a call that generates one answers and leaves, computed. Definitions only.
use Rattle.std.specs.Prelude.{◌⊎◌, Bool, cond, ◌||◌, List, ℕ, ◌+◌, ◌-◌, ◌*◌, ◌/◌, ◌%◌, eqb, ltb, leb, length}
use Rattle.base.specs.Answers.{first, overlay, refused_or}
use Rattle.plan_layout.specs.declared.Sizes.{Sizes}
use Rattle.plan_layout.specs.Layout.{plan_length}
use Rattle.plan_layout.specs.Fields.{Fields, byte_at}
use Rattle.plan_draws.specs.declared.Recipe.{Recipe}
use Rattle.plan_draws.specs.Model.{order_number, ordered_group, kind_in, minutes_in, value_in}

-- character k of the names: SOAK, then G or T and the node number in three digits
unfoldable pub root_char : ℕ → ℕ
root_char c = cond (eqb c 0) 83 (cond (eqb c 1) 79 (cond (eqb c 2) 65 75))

unfoldable pub number_char : ℕ → ℕ → ℕ → ℕ
number_char g n c = cond (eqb c 0) (cond (leb n g) 71 84)
    (cond (eqb c 1) (48 + n / 100) (cond (eqb c 2) (48 + n / 10 % 10) (48 + n % 10)))

unfoldable pub name_in : ℕ → ℕ → ℕ
name_in g k = cond (eqb (k / 4) 0) (root_char (k % 4)) (number_char g (k / 4) (k % 4))

-- parent of node n
unfoldable pub parent_in : ℕ → ℕ → ℕ
parent_in g n = cond (eqb n 0) 255 (cond (leb n g) 0 (1 + (n - 1 - g) % g))

abbrev pub sizes_in : Recipe → Sizes
sizes_in r = record {
  nodes = 1 + r.groups + r.tasks;
  conditions = 2 * r.tasks;
  orders = order_number r;
  flags = 8;
}

unfoldable pub generated : Recipe → Fields
generated r = record {
  sizes = sizes_in r;
  start = λ k. 0;
  name = name_in r.groups;
  parent = parent_in r.groups;
  kind = kind_in r;
  minutes = minutes_in r;
  task = λ i. 1 + r.groups + i / 2;
  value = value_in r;
  earlier = λ m. 1 + ordered_group r m;
  later = λ m. 2 + ordered_group r m;
}

unfoldable pub refused30 : Recipe → Bool
refused30 r = (ltb r.groups 1 || ltb 60 r.groups) || (ltb r.tasks r.groups || ltb 60 r.tasks)

-- 30; 15: under the plan's length
unfoldable pub generate_refusal : Recipe → List ℕ → ℕ
generate_refusal r out = first (cond (refused30 r) 30 0) (cond (ltb (length out) (plan_length (sizes_in r))) 15 0)

unfoldable pub generate_answer : Recipe → List ℕ → ℕ ⊎ ℕ
generate_answer r out = refused_or (generate_refusal r out) (plan_length (sizes_in r))

-- memory with the plan from the first byte, and then what was there
abbrev pub with_plan : Recipe → List ℕ → List ℕ
with_plan r out = overlay (byte_at (generated r)) (plan_length (sizes_in r)) out

-- the bytes after the call
unfoldable pub generate_left : Recipe → List ℕ → List ℕ
generate_left r out = cond (eqb (generate_refusal r out) 0) (with_plan r out) out
